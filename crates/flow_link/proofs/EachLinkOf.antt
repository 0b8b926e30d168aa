-- What holds of each link of a list, and of each link of a plan.
use Rattle.std.proofs.Common.{◌≡◌, ℕ, zero, suc, ◌+◌, ◌<◌, Bool, true, false, cond, List, [], ◌∷◌, ◌++◌, length, map, None, get_or, refl, ap, sym, ◌∙◌, subst, arith}
use Rattle.std.specs.List.{find}
use Rattle.std.proofs.lemmas.List.{get_or_default}
use Rattle.flow_link.specs.declared.draft.BlockDef.{BlockDef}
use Rattle.flow_link.specs.declared.draft.LinkDef.{LinkDef}
use Rattle.flow_link.specs.declared.plan.Link.{Link}
use Rattle.flow_link.specs.declared.plan.PlanFault.{PlanFault}
use Rattle.flow_link.specs.Layout.{input_link, input_links, exit_link, exit_links}
use Rattle.flow_link.specs.Lists.{below}
use Rattle.flow_link.specs.Plan.{block_in, link_in, named_link, named_links}
use Rattle.flow_link.proofs.FirstOfEachFault.{named_link_at, length-named_links, find_of_images, fails_from, none_image}
use Rattle.flow_link.proofs.ListTests.{never_both}

-- what holds of each link of a list
abbrev pub Each : (Link → Type 0) → List Link → Type 0
Each P links = (l : ℕ) → l < length links → P (link_in links l)

pub each_cons : (P : Link → Type 0) (link : Link) (links : List Link) → P link → Each P links → Each P (link ∷ links)
each_cons P link links here rest zero small = here
each_cons P link links here rest (suc l) small = rest l (omega arith)

pub each_append : (P : Link → Type 0) (first last : List Link) → Each P first → Each P last → Each P (first ++ last)
each_append P [] last a b = b
each_append P (link ∷ first) last a b =
    each_cons P link (first ++ last) (a 0 (omega arith)) (each_append P first last (λ l small. a (suc l) (omega arith)) b)

pub each_cond : (P : Link → Type 0) (b : Bool) (link : Link) (links : List Link) → (b ≡ true → P link) → Each P links → Each P (cond b (link ∷ []) [] ++ links)
each_cond P true link links here rest = each_cons P link links (here refl) rest
each_cond P false link links here rest = rest

-- the link fails this test
abbrev pub Fails : (Link → Bool) → Link → Type 0
Fails test link = test link ≡ false

pub in_front : (test : Link → Bool) (first last : List Link) (k : ℕ) → Each (Fails test) last → k < length (first ++ last)
    → test (link_in (first ++ last) k) ≡ true → (k < length first) × (test (link_in first k) ≡ true)
in_front test [] last k none small e = never_both (test (link_in last k)) e (none k small)
in_front test (link ∷ first) last zero none small e = (omega arith, e)
in_front test (link ∷ first) last (suc k) none small e =
    let rest = in_front test first last k none (omega arith) e in
    let low : k < length first = rest.0 in
    (omega arith, rest.1)

-- what stands at a place where no link is
pub no_def : LinkDef
no_def = record { from = []; to = []; port = None; when = None; max = None; propagate = false }

-- no fault of a kind stands where none is found
pub none_at : (test : PlanFault → Bool) (fault : ℕ → PlanFault) (count k : ℕ) → k < count → find test (map fault (below count)) ≡ None → test (fault k) ≡ false
none_at test fault count k low e =
    let zeroth : k ≡ 0 + k = omega arith in
    ap (λ n. test (fault n)) zeroth
    ∙ fails_from (λ n. test (fault n)) 0 count k low (none_image fault _ (sym (find_of_images test fault (below count)) ∙ e))

module _ {W : Type 0} where
  -- the links of the inputs
  pub each_input : (P : Link → Type 0) (first : ℕ) (blocks : List (BlockDef W))
      → ((b : ℕ) → b < length blocks → (block_in blocks b).input ≡ true → P (input_link (first + b))) → Each P (input_links first blocks)
  each_input P first [] h = λ l small. absurd (omega arith)
  each_input P first (block ∷ blocks) h =
      let zeroth : first + 0 ≡ first = omega arith in
      let moved : (b : ℕ) → first + suc b ≡ suc first + b = λ b. omega arith in
      each_cond P block.input (input_link first) (input_links (suc first) blocks)
      (λ is. subst (λ (n : ℕ). P (input_link n)) zeroth (h 0 (omega arith) is))
      (each_input P (suc first) blocks (λ b small is. subst (λ (n : ℕ). P (input_link n)) (moved b) (h (suc b) (omega arith) is)))

  pub each_exit : (P : Link → Type 0) (first : ℕ) (blocks : List (BlockDef W))
      → ((b : ℕ) → b < length blocks → (block_in blocks b).output ≡ true → P (exit_link (first + b))) → Each P (exit_links first blocks)
  each_exit P first [] h = λ l small. absurd (omega arith)
  each_exit P first (block ∷ blocks) h =
      let zeroth : first + 0 ≡ first = omega arith in
      let moved : (b : ℕ) → first + suc b ≡ suc first + b = λ b. omega arith in
      each_cond P block.output (exit_link first) (exit_links (suc first) blocks)
      (λ is. subst (λ (n : ℕ). P (exit_link n)) zeroth (h 0 (omega arith) is))
      (each_exit P (suc first) blocks (λ b small is. subst (λ (n : ℕ). P (exit_link n)) (moved b) (h (suc b) (omega arith) is)))

module _ {W : Type 0} (blocks : List (BlockDef W)) (links : List LinkDef) where
  pub each_named : (P : Link → Type 0) → ((l : ℕ) (link : LinkDef) → l < length links → link ≡ get_or links l link → P (named_link blocks link))
      → Each P (named_links blocks links)
  each_named P h l small =
      let low : l < length links = omega (arith, length-named_links blocks links) in
      let link = get_or links l no_def in
      subst P (sym (named_link_at blocks links l no_def low)) (h l link low (get_or_default links l no_def link low))
