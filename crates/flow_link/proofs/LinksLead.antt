-- The links of a plan lead from blocks and inputs that are there, to blocks that are there. No two lead from one input, and
-- those of inputs have no limit.
use Rattle.std.proofs.Common.{◌≡◌, ℕ, zero, suc, ◌+◌, ◌<◌, ltb, Bool, true, false, cond, List, [], ◌∷◌, ◌++◌, length, None, refl, ap, sym, subst, arith, ltb-true, append_assoc}
use Rattle.std.proofs.lemmas.Bool.{and_parts}
use Rattle.flow_link.specs.declared.draft.BlockDef.{BlockDef}
use Rattle.flow_link.specs.declared.plan.Link.{Link}
use Rattle.flow_link.specs.declared.plan.LinkSource.{LinkSource}
use Rattle.flow_link.specs.declared.plan.LinkSource.TheVariants.{Block, Input}
use Rattle.flow_link.specs.declared.plan.LinkTarget.{LinkTarget}
use Rattle.flow_link.specs.declared.plan.LinkTarget.TheVariants.{Port, Exit}
use Rattle.flow_link.specs.Layout.{IsLaidOut, input_link, input_links, exit_link, exit_links, outer_links, joins, is_between_blocks, between_of}
use Rattle.flow_link.specs.LeadsWell.{LinksLead}
use Rattle.flow_link.specs.Lists.{every}
use Rattle.flow_link.specs.Plan.{block_in, link_in}
use Rattle.flow_link.proofs.EachLinkOf.{Each, each_cons, each_append, each_input, each_exit}

-- a link leads from a block or input among so many, to a block among them
record Well (count : ℕ) (inputs : ℕ → Bool) (link : Link) : Type 0 where
  from_block : (s : ℕ) → link.source ≡ Block s → s < count
  from_input : (b : ℕ) → link.source ≡ Input b → b < count
  from_inputs : (b : ℕ) → link.source ≡ Input b → inputs b ≡ true
  inputs_pass : (b : ℕ) → link.source ≡ Input b → link.propagate ≡ true
  inputs_unlimited : (b : ℕ) → link.source ≡ Input b → link.max ≡ None
  to_block : (t p : ℕ) → link.target ≡ Port t p → t < count

joined_well : (count : ℕ) (inputs : ℕ → Bool) (link : Link) (source : LinkSource) (target : LinkTarget) → link.source ≡ source → link.target ≡ target
    → joins count source target ≡ true → Well count inputs link
joined_well count inputs link (Block s) (Port t p) es et e =
    let both = and_parts (ltb s count) (ltb t count) e in
    record {
      from_block = λ n is. let same : s ≡ n = cc in subst (λ (k : ℕ). k < count) same (ltb-true s count both.0);
      from_input = λ n is. absurd (cc);
      from_inputs = λ n is. absurd (cc);
      inputs_pass = λ n is. absurd (cc);
      inputs_unlimited = λ n is. absurd (cc);
      to_block = λ n q is. let same : t ≡ n = cc in subst (λ (k : ℕ). k < count) same (ltb-true t count both.1);
    }
joined_well count inputs link (Block s) Exit es et e = absurd (cc)
joined_well count inputs link (Input b) target es et e = absurd (cc)

between_well : (count : ℕ) (inputs : ℕ → Bool) (links : List Link) → every (is_between_blocks count) links ≡ true → Each (Well count inputs) links
between_well count inputs [] e = λ l small. absurd (omega arith)
between_well count inputs (link ∷ links) e =
    let both = and_parts (is_between_blocks count link) (every (is_between_blocks count) links) e in
    each_cons (Well count inputs) link links (joined_well count inputs link link.source link.target refl refl both.0)
    (between_well count inputs links both.1)

input_well : (count : ℕ) (inputs : ℕ → Bool) (b : ℕ) → b < count → inputs b ≡ true → Well count inputs (input_link b)
input_well count inputs b small is_input = record {
  from_block = λ n is. absurd (cc);
  from_input = λ n is. let same : b ≡ n = cc in subst (λ (k : ℕ). k < count) same small;
  from_inputs = λ n is. let same : b ≡ n = cc in subst (λ (k : ℕ). inputs k ≡ true) same is_input;
  inputs_pass = λ n is. refl;
  inputs_unlimited = λ n is. refl;
  to_block = λ n p is. let same : b ≡ n = cc in subst (λ (k : ℕ). k < count) same small;
}

exit_well : (count : ℕ) (inputs : ℕ → Bool) (b : ℕ) → b < count → Well count inputs (exit_link b)
exit_well count inputs b small = record {
  from_block = λ n is. let same : b ≡ n = cc in subst (λ (k : ℕ). k < count) same small;
  from_input = λ n is. absurd (cc);
  from_inputs = λ n is. absurd (cc);
  inputs_pass = λ n is. absurd (cc);
  inputs_unlimited = λ n is. absurd (cc);
  to_block = λ n p is. absurd (cc);
}

-- no link of a list leads from this input
abbrev NotFrom : ℕ → Link → Type 0
NotFrom b link = link.source ≡ Input b → ⊥

-- the input's link is one
abbrev AtMostOne : ℕ → List Link → Type 0
AtMostOne b links = (k l : ℕ) → k < length links → l < length links → (link_in links k).source ≡ Input b → (link_in links l).source ≡ Input b → k ≡ l

one_more : (b : ℕ) (link : Link) (links : List Link) → (link.source ≡ Input b → Each (NotFrom b) links) → AtMostOne b links → AtMostOne b (link ∷ links)
one_more b link links apart rest zero zero small smaller ek el = refl
one_more b link links apart rest zero (suc l) small smaller ek el = absurd (apart ek l (omega arith) el)
one_more b link links apart rest (suc k) zero small smaller ek el = absurd (apart el k (omega arith) ek)
one_more b link links apart rest (suc k) (suc l) small smaller ek el = ap suc (rest k l (omega arith) (omega arith) ek el)

one_after : (b : ℕ) (first last : List Link) → Each (NotFrom b) first → AtMostOne b last → AtMostOne b (first ++ last)
one_after b [] last none one = one
one_after b (link ∷ first) last none one =
    one_more b link (first ++ last) (λ is. absurd (none 0 (omega arith) is))
    (one_after b first last (λ l small. none (suc l) (omega arith)) one)

joined_apart : (count b : ℕ) (link : Link) (source : LinkSource) (target : LinkTarget) → link.source ≡ source
    → joins count source target ≡ true → NotFrom b link
joined_apart count b link (Block s) target es e is = cc
joined_apart count b link (Input _) target es e is = absurd (cc)

between_apart : (count b : ℕ) (links : List Link) → every (is_between_blocks count) links ≡ true → Each (NotFrom b) links
between_apart count b [] e = λ l small. absurd (omega arith)
between_apart count b (link ∷ links) e =
    let both = and_parts (is_between_blocks count link) (every (is_between_blocks count) links) e in
    each_cons (NotFrom b) link links (joined_apart count b link link.source link.target refl both.0) (between_apart count b links both.1)

one_cond : (b first : ℕ) (input : Bool) (links : List Link) → (first ≡ b → Each (NotFrom b) links) → AtMostOne b links
    → AtMostOne b (cond input (input_link first ∷ []) [] ++ links)
one_cond b first true links apart one = one_more b (input_link first) links (λ is. apart (cc)) one
one_cond b first false links apart one = one

module _ {W : Type 0} where
  exits_apart : (b first : ℕ) (blocks : List (BlockDef W)) → Each (NotFrom b) (exit_links first blocks)
  exits_apart b first blocks = each_exit (NotFrom b) first blocks (λ k small is_output is. cc)

  inputs_apart : (b first : ℕ) (blocks : List (BlockDef W)) → b < first → Each (NotFrom b) (input_links first blocks)
  inputs_apart b first blocks small =
      each_input (NotFrom b) first blocks (λ k low is_input is. let same : first + k ≡ b = cc in omega arith)

  one_input : (b first : ℕ) (blocks : List (BlockDef W)) (last : List Link) → Each (NotFrom b) last → AtMostOne b (input_links first blocks ++ last)
  one_input b first [] last none = λ k l small smaller ek el. absurd (none k small ek)
  one_input b first (block ∷ blocks) last none =
      subst (λ (links : List Link). AtMostOne b links) (sym (append_assoc (cond block.input (input_link first ∷ []) []) (input_links (suc first) blocks) last))
      (one_cond b first block.input (input_links (suc first) blocks ++ last)
      (λ same. each_append (NotFrom b) (input_links (suc first) blocks) last (inputs_apart b (suc first) blocks (omega arith)) none)
      (one_input b (suc first) blocks last none))

  abbrev inputs_of : List (BlockDef W) → ℕ → Bool
  inputs_of blocks b = (block_in blocks b).input

  well_planned : (blocks : List (BlockDef W)) (links : List Link) → IsLaidOut blocks links → Each (Well (length blocks) (inputs_of blocks)) links
  well_planned blocks links laid =
      let IsWell : Link → Type 0 = Well (length blocks) (inputs_of blocks) in
      let from_first : (b : ℕ) → b ≡ 0 + b = λ b. omega arith in
      subst (λ (all : List Link). Each IsWell all) (sym laid.in_order)
      (each_append IsWell (between_of blocks links) (outer_links blocks)
      (between_well (length blocks) (inputs_of blocks) (between_of blocks links) laid.lead)
      (each_append IsWell (input_links 0 blocks) (exit_links 0 blocks)
      (each_input IsWell 0 blocks
      (λ b small is. subst (λ (n : ℕ). IsWell (input_link n)) (from_first b) (input_well (length blocks) (inputs_of blocks) b small is)))
      (each_exit IsWell 0 blocks
      (λ b small is. subst (λ (n : ℕ). IsWell (exit_link n)) (from_first b) (exit_well (length blocks) (inputs_of blocks) b small)))))

  one_planned : (blocks : List (BlockDef W)) (links : List Link) → IsLaidOut blocks links → (b : ℕ) → AtMostOne b links
  one_planned blocks links laid b =
      subst (λ (all : List Link). AtMostOne b all) (sym laid.in_order)
      (one_after b (between_of blocks links) (outer_links blocks)
      (between_apart (length blocks) b (between_of blocks links) laid.lead)
      (one_input b 0 blocks (exit_links 0 blocks) (exits_apart b 0 blocks)))

module _ (W : Type 0) where
  pub links_lead : LinksLead W
  links_lead layout laid =
      let IsWell : Link → Type 0 = Well (length layout.blocks) (inputs_of layout.blocks) in
      let well = well_planned layout.blocks layout.links laid in
      record {
        from_block = λ l s small is. (well l small).from_block s is;
        from_input = λ l b small is. (well l small).from_input b is;
        from_inputs = λ l b small is. (well l small).from_inputs b is;
        inputs_pass = λ l b small is. (well l small).inputs_pass b is;
        inputs_unlimited = λ l b small is. (well l small).inputs_unlimited b is;
        to_block = λ l t p small is. (well l small).to_block t p is;
        one_input_link = λ k l b small smaller ek el. one_planned layout.blocks layout.links laid b k l small smaller ek el;
      }
