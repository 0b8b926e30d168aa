-- Inputs stand in the order of their links: as many inputs are before one as links of inputs before its own.
use Rattle.std.proofs.Common.{◌≡◌, ℕ, zero, suc, ◌+◌, ◌-◌, ◌<◌, ◌≤◌, Bool, true, false, cond, List, [], ◌∷◌, ◌++◌, length, take, filter, refl, sym, ap, ◌∙◌, subst, arith, count_by, append_assoc, length-append}
use Rattle.std.proofs.lemmas.List.Sums.{sum_by-cons, count_by_more_no, count_by_more_yes}
use Rattle.flow_link.specs.Lists.{below, every}
use Rattle.flow_link.proofs.ListTests.{never_both}
use Rattle.std.proofs.lemmas.Bool.{and_parts}
use Rattle.flow_link.specs.declared.draft.BlockDef.{BlockDef}
use Rattle.flow_link.specs.declared.plan.Link.{Link}
use Rattle.flow_link.specs.declared.plan.LinkSource.{LinkSource}
use Rattle.flow_link.specs.declared.plan.LinkSource.TheVariants.{Block, Input}
use Rattle.flow_link.specs.declared.plan.LinkTarget.{LinkTarget}
use Rattle.flow_link.specs.declared.plan.LinkTarget.TheVariants.{Port, Exit}
use Rattle.flow_link.specs.Layout.{Layout, IsLaidOut, input_link, input_links, exit_links, between_of, outer_links, joins, is_between_blocks}
use Rattle.flow_link.specs.Plan.{link_in, no_link}
use Rattle.flow_link.proofs.EachLinkOf.{Each, Fails, each_cons, each_exit}
use Rattle.flow_block.specs.Planned.{input_place}
use Rattle.flow_block.proofs.PlanMade.{counted_where, counted_else}
use Rattle.flow_task.specs.Inputs.{is_of_input}
use Rattle.flow_task.specs.Numbers.{place_in}

abbrev pub is_input_link : Link → Bool
is_input_link link = is_of_input link.source

module _ (links : List Link) where
  abbrev its_place : ℕ → ℕ
  its_place l = length (filter (λ k. is_input_link (link_in links k)) (below l))

  counts_by : (l : ℕ) (b : Bool) → is_input_link (link_in links l) ≡ b → l < length links
      → its_place l ≡ count_by is_input_link (take l links)
      → its_place (l + 1) ≡ count_by is_input_link (take (l + 1) links)
  counts_by l true is small so =
      sym (counted_where (λ k. is_input_link (link_in links k)) l (its_place l) refl is)
      ∙ ap (λ n. n + 1) so ∙ sym (count_by_more_yes is_input_link links l no_link small is)
  counts_by l false is small so =
      sym (counted_else (λ k. is_input_link (link_in links k)) l (its_place l) refl is)
      ∙ so ∙ sym (count_by_more_no is_input_link links l no_link small is)

  pub place_counts : (l : ℕ) → l ≤ length links → its_place l ≡ count_by is_input_link (take l links)
  place_counts zero small = refl
  place_counts (suc l) small =
      let more : suc l ≡ l + 1 = omega arith in
      ap its_place more
      ∙ counts_by l (is_input_link (link_in links l)) refl (omega (arith, small)) (place_counts l (omega (arith, small)))
      ∙ sym (ap (λ n. count_by is_input_link (take n links)) more)

-- behind links none of which is an input's
pub record Behind (first last : List Link) (l : ℕ) : Type 0 where
  pub place : ℕ
  pub at : l ≡ length first + place
  pub link_is : link_in (first ++ last) l ≡ link_in last place
  pub count_is : count_by is_input_link (take l (first ++ last)) ≡ count_by is_input_link (take place last)

pub count_none : {X : Type 0} (p : X → Bool) (x : X) (xs : List X) → p x ≡ false → count_by p (x ∷ xs) ≡ count_by p xs
count_none p x xs e =
    let none : 0 + count_by p xs ≡ count_by p xs = omega arith in
    sum_by-cons (λ y. cond (p y) 1 0) x xs ∙ ap (λ (b : Bool). cond b 1 0 + count_by p xs) e ∙ none

pub count_one : {X : Type 0} (p : X → Bool) (x : X) (xs : List X) → p x ≡ true → count_by p (x ∷ xs) ≡ 1 + count_by p xs
count_one p x xs e = sum_by-cons (λ y. cond (p y) 1 0) x xs ∙ ap (λ (b : Bool). cond b 1 0 + count_by p xs) e

behind : (first last : List Link) (l : ℕ) → Each (Fails is_input_link) first → is_input_link (link_in (first ++ last) l) ≡ true
    → Behind first last l
behind [] last l none is = record { place = l; at = omega arith; link_is = refl; count_is = refl }
behind (link ∷ first) last zero none is = never_both (is_input_link link) is (none 0 (omega arith))
behind (link ∷ first) last (suc l) none is =
    let rest = behind first last l (λ k small. none (suc k) (omega (arith, small))) is in
    record {
      place = rest.place;
      at = omega (arith, rest.at);
      link_is = rest.link_is;
      count_is = count_none is_input_link link (take l (first ++ last)) (none 0 (omega arith)) ∙ rest.count_is;
    }

abbrev pub posts : {W : Type 0} → BlockDef W → Bool
posts block = block.input

pub record Among {W : Type 0} (s b k : ℕ) (blocks : List (BlockDef W)) (links : List Link) : Type 0 where
  pub from : s ≤ b
  pub count_is : count_by posts (take (b - s) blocks) ≡ count_by is_input_link (take k links)

abbrev input_number : LinkSource → ℕ
input_number (Input b) = b
input_number (Block b) = b

module _ {W : Type 0} (rest : List Link) (none : Each (Fails is_input_link) rest) where
  by_input : (s : ℕ) (block : BlockDef W) (blocks : List (BlockDef W)) (links : List Link) (posting : Bool) → block.input ≡ posting
      → ((k b : ℕ) → k < length links → (link_in links k).source ≡ Input b → Among (suc s) b k blocks links) → (k b : ℕ)
      → k < length (cond posting (input_link s ∷ []) [] ++ links)
      → (link_in (cond posting (input_link s ∷ []) [] ++ links) k).source ≡ Input b
      → Among s b k (block ∷ blocks) (cond posting (input_link s ∷ []) [] ++ links)
  by_input s block blocks links true is later zero b small from =
      let same : s ≡ b = ap input_number from in
      let least : b - s ≡ 0 = omega (arith, same) in
      record { from = omega (arith, same); count_is = ap (λ n. count_by posts (take n (block ∷ blocks))) least }
  by_input s block blocks links true is later (suc k) b small from =
      let found = later k b (omega (arith, small)) from in
      let more : b - s ≡ suc (b - suc s) = omega (arith, found.from) in
      record {
        from = omega (arith, found.from);
        count_is = ap (λ n. count_by posts (take n (block ∷ blocks))) more ∙ count_one posts block (take (b - suc s) blocks) is
            ∙ ap (λ n. 1 + n) found.count_is ∙ sym (count_one is_input_link (input_link s) (take k links) refl);
      }
  by_input s block blocks links false is later k b small from =
      let found = later k b small from in
      let more : b - s ≡ suc (b - suc s) = omega (arith, found.from) in
      record {
        from = omega (arith, found.from);
        count_is = ap (λ n. count_by posts (take n (block ∷ blocks))) more ∙ count_none posts block (take (b - suc s) blocks) is
            ∙ found.count_is;
      }

  among : (s : ℕ) (blocks : List (BlockDef W)) (k b : ℕ) → k < length (input_links s blocks ++ rest)
      → (link_in (input_links s blocks ++ rest) k).source ≡ Input b → Among s b k blocks (input_links s blocks ++ rest)
  among s [] k b small from = never_both (is_input_link (link_in rest k)) (ap is_of_input from) (none k small)
  among s (block ∷ blocks) k b small from =
      let first = cond block.input (input_link s ∷ []) [] in
      let apart = append_assoc first (input_links (suc s) blocks) rest in
      subst (Among s b k (block ∷ blocks)) (sym apart)
      (by_input s block blocks (input_links (suc s) blocks ++ rest) block.input refl (among (suc s) blocks) k b
      (subst (λ (links : List Link). k < length links) apart small)
      (subst (λ (links : List Link). (link_in links k).source ≡ Input b) apart from))

-- the links before those of inputs
joined : (count : ℕ) (source : LinkSource) (target : LinkTarget) → joins count source target ≡ true → is_of_input source ≡ false
joined count (Block s) target e = refl
joined count (Input s) (Port t p) e = absurd (cc)
joined count (Input s) Exit e = absurd (cc)

pub between : (count : ℕ) (links : List Link) → every (is_between_blocks count) links ≡ true → Each (Fails is_input_link) links
between count [] e = λ l small. absurd (omega arith)
between count (link ∷ links) e =
    let both = and_parts (is_between_blocks count link) (every (is_between_blocks count) links) e in
    each_cons (Fails is_input_link) link links (joined count link.source link.target both.0) (between count links both.1)

module _ {W : Type 0} (layout : Layout W) (laid : IsLaidOut layout.blocks layout.links) (l b : ℕ) (small : l < length layout.links)
    (from : (link_in layout.links l).source ≡ Input b) where
  pub input_placed : input_place layout b ≡ place_in layout l
  input_placed =
      let first = between_of layout.blocks layout.links in
      let outer = outer_links layout.blocks in
      let whole = laid.in_order in
      let found = behind first outer l (between (length layout.blocks) first laid.lead)
      (subst (λ (links : List Link). is_input_link (link_in links l) ≡ true) whole (ap is_of_input from)) in
      let wide : length layout.links ≡ length first + length outer = ap length whole ∙ length-append first outer in
      let there = among (exit_links 0 layout.blocks)
      (each_exit (Fails is_input_link) 0 layout.blocks (λ k low out. refl)) 0 layout.blocks found.place b
      (omega (arith, small, found.at, wide))
      (sym (ap (λ (link : Link). link.source) found.link_is)
      ∙ subst (λ (links : List Link). (link_in links l).source ≡ Input b) whole from) in
      let none : b - 0 ≡ b = omega arith in
      ap (λ n. count_by posts (take n layout.blocks)) (sym none) ∙ there.count_is ∙ sym found.count_is
      ∙ ap (λ (links : List Link). count_by is_input_link (take l links)) (sym whole)
      ∙ sym (place_counts layout.links l (omega (arith, small)))
