-- How the links of a plan lie, one after another.
use Rattle.std.proofs.Common.{◌≡◌, ℕ, suc, ◌+◌, ◌-◌, ◌<◌, ltb, Bool, true, false, cond, ◌||◌, List, [], ◌∷◌, ◌++◌, length, map, Option, Some, None, get_or, take, drop, is_none, unwrap_or, refl, ap, sym, ◌∙◌, arith, append_assoc, drop-cons, length-append}
use Rattle.std.specs.List.{position, position_from}
use Rattle.std.specs.Str.{bytes_eq}
use Rattle.std.proofs.Math.Seq.{take-append_seam}
use Rattle.std.proofs.lemmas.Bool.{lt-ltb, and_from, or_parts}
use Rattle.std.proofs.lemmas.List.{map_more}
use Rattle.std.proofs.lemmas.List.Quantifiers.{position-Some}
use Rattle.std.proofs.lemmas.Iterator.Adapters.{position_from-zero}
use Rattle.flow_link.specs.declared.draft.BlockDef.{BlockDef}
use Rattle.flow_link.specs.declared.draft.LinkDef.{LinkDef}
use Rattle.flow_link.specs.declared.plan.Link.{Link}
use Rattle.flow_link.specs.Lists.{every}
use Rattle.flow_link.specs.Layout.{IsLaidOut, input_link, input_links, exit_link, exit_links, outer_links, between_of, is_between_blocks}
use Rattle.flow_link.specs.Plan.{block_named, named_link, named_links, planned_links, no_block}

module _ {W : Type 0} (blocks : List (BlockDef W)) where
  named_links_are : (links : List LinkDef) → named_links blocks links ≡ map (named_link blocks) links
  named_links_are [] = refl
  named_links_are (link ∷ links) = ap (λ rest. named_link blocks link ∷ rest) (named_links_are links)

  pub named_links_more : (links : List LinkDef) (i : ℕ) (d : LinkDef) → i < length links
      → named_links blocks (take (i + 1) links) ≡ named_links blocks (take i links) ++ named_link blocks (get_or links i d) ∷ []
  named_links_more links i d low =
      named_links_are (take (i + 1) links) ∙ map_more (named_link blocks) links i d low
      ∙ ap (λ front. front ++ named_link blocks (get_or links i d) ∷ []) (sym (named_links_are (take i links)))

  -- one more link is pushed
  pub pushes_named : (links : List LinkDef) (i : ℕ) (d : LinkDef) (before after : List Link) (link : Link) → i < length links
      → after ≡ before ++ link ∷ [] → before ≡ named_links blocks (take i links) → d ≡ get_or links i d → link ≡ named_link blocks d
      → after ≡ named_links blocks (take (i + 1) links)
  pushes_named links i d before after link low e eb is el =
      e ∙ ap (λ front. front ++ link ∷ []) eb
      ∙ ap (λ l. named_links blocks (take i links) ++ l ∷ []) (el ∙ ap (named_link blocks) is)
      ∙ sym (named_links_more links i d low)

  -- one more block, in a list of links that goes by blocks
  by_blocks : (one : ℕ → BlockDef W → List Link) (all : ℕ → List (BlockDef W) → List Link)
      → ((i : ℕ) (b : BlockDef W) (bs : List (BlockDef W)) → all i (b ∷ bs) ≡ one i b ++ all (suc i) bs)
      → (i : ℕ) (block : BlockDef W) (links next : List Link) → i < length blocks → block ≡ get_or blocks i block
      → next ≡ links ++ one i block
      → next ++ all (i + 1) (drop (i + 1) blocks) ≡ links ++ all i (drop i blocks)
  by_blocks one all splits i block links next low is e =
      let apart : drop i blocks ≡ block ∷ drop (suc i) blocks = drop-cons blocks i block low ∙ ap (λ b. b ∷ drop (suc i) blocks) (sym is) in
      let n : i + 1 ≡ suc i = omega arith in
      ap (λ front. front ++ all (i + 1) (drop (i + 1) blocks)) e
      ∙ ap (λ k. (links ++ one i block) ++ all k (drop k blocks)) n
      ∙ append_assoc links (one i block) (all (suc i) (drop (suc i) blocks))
      ∙ ap (λ back. links ++ back) (sym (splits i block (drop (suc i) blocks)) ∙ ap (all i) (sym apart))

  pub one_more_input : (i : ℕ) (block : BlockDef W) (links next : List Link) → i < length blocks → block ≡ get_or blocks i block
      → next ≡ links ++ cond block.input (input_link i ∷ []) []
      → next ++ input_links (i + 1) (drop (i + 1) blocks) ≡ links ++ input_links i (drop i blocks)
  one_more_input i block links next low is e =
      by_blocks (λ k b. cond b.input (input_link k ∷ []) []) input_links (λ k b bs. refl) i block links next low is e

  pub one_more_exit : (i : ℕ) (block : BlockDef W) (links next : List Link) → i < length blocks → block ≡ get_or blocks i block
      → next ≡ links ++ cond block.output (exit_link i ∷ []) []
      → next ++ exit_links (i + 1) (drop (i + 1) blocks) ≡ links ++ exit_links i (drop i blocks)
  one_more_exit i block links next low is e =
      by_blocks (λ k b. cond b.output (exit_link k ∷ []) []) exit_links (λ k b bs. refl) i block links next low is e

-- of two tests that both fail, each does
option_is_some : {A : Type 0} (x : A) → None ≡ Some x → ⊥
option_is_some x e = cc

true_is_false : true ≡ false → ⊥
true_is_false e = cc

pub none_step : {A : Type 0} (b : Bool) (x : A) (o : Option A) → cond b (Some x) o ≡ None → (b ≡ false) × (o ≡ None)
none_step true x o e = absurd (option_is_some x (sym e))
none_step false x o e = (refl, e)

is_there : (o : Option ℕ) → is_none o ≡ false → o ≡ Some (unwrap_or o 0)
is_there None e = absurd (true_is_false e)
is_there (Some n) e = refl

module _ {W : Type 0} (blocks : List (BlockDef W)) where
  pub named_low : (name : List ℕ) → is_none (block_named blocks name) ≡ false → unwrap_or (block_named blocks name) 0 < length blocks
  named_low name e =
      (position-Some (λ block. bytes_eq block.name name) blocks (unwrap_or (block_named blocks name) 0) no_block (is_there (block_named blocks name) e)).0

  known_below : (name : List ℕ) → is_none (block_named blocks name) ≡ false → ltb (unwrap_or (block_named blocks name) 0) (length blocks) ≡ true
  known_below name e = lt-ltb (unwrap_or (block_named blocks name) 0) (length blocks) (named_low name e)

  -- where all names are known, each link leads from a block to a block
  all_known : (links : List LinkDef) (first : ℕ)
      → position_from (λ link. is_none (block_named blocks link.from) || is_none (block_named blocks link.to)) first links ≡ None
      → every (is_between_blocks (length blocks)) (named_links blocks links) ≡ true
  all_known [] first e = refl
  all_known (link ∷ links) first e =
      let step = none_step (is_none (block_named blocks link.from) || is_none (block_named blocks link.to)) first _ e in
      let known = or_parts (is_none (block_named blocks link.from)) (is_none (block_named blocks link.to)) step.0 in
      and_from (is_between_blocks (length blocks) (named_link blocks link)) (every (is_between_blocks (length blocks)) (named_links blocks links))
      (and_from (ltb (unwrap_or (block_named blocks link.from) 0) (length blocks)) (ltb (unwrap_or (block_named blocks link.to) 0) (length blocks))
      (known_below link.from known.0) (known_below link.to known.1))
      (all_known links (first + 1) step.1)

  -- the links of a plan between its blocks are those of its draft
  pub between_named : (links : List LinkDef) → between_of blocks (planned_links blocks links) ≡ named_links blocks links
  between_named links =
      let named = named_links blocks links in
      let outer = outer_links blocks in
      let count : length (named ++ outer) - length outer ≡ length named = omega (arith, length-append named outer) in
      ap (λ n. take n (named ++ outer)) count ∙ take-append_seam named outer

  -- the links of a draft whose names are known, and then those from and to the caller
  pub laid_out_of : (links : List LinkDef)
      → position (λ link. is_none (block_named blocks link.from) || is_none (block_named blocks link.to)) links ≡ None
      → IsLaidOut blocks (planned_links blocks links)
  laid_out_of links e =
      let none : position_from (λ link. is_none (block_named blocks link.from) || is_none (block_named blocks link.to)) 0 links ≡ None =
      sym (position_from-zero (λ link. is_none (block_named blocks link.from) || is_none (block_named blocks link.to)) links) ∙ e in
      record {
        in_order = ap (λ front. front ++ outer_links blocks) (sym (between_named links));
        lead = ap (every (is_between_blocks (length blocks))) (between_named links) ∙ all_known links 0 none;
      }
