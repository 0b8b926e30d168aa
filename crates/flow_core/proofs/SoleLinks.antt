-- Over the sole link into a block comes all that the block takes.
use Rattle.std.proofs.Common.{◌≡◌, ℕ, ◌+◌, ◌<◌, ◌≤◌, ◌==◌, ltb, Bool, true, false, not, cond, List, [], ◌∷◌, length, Result, refl, ap, sym, ◌∙◌, arith, eq-eqb, eqb-true}
use Rattle.std.specs.List.{count_by}
use Rattle.std.proofs.lemmas.Bool.{ltb-true, and_parts}
use Rattle.std.proofs.lemmas.List.Sums.{sum_by-cons}
use Rattle.flow_value.specs.declared.value.Value.{Value}
use Rattle.flow_link.specs.declared.plan.Link.{Link}
use Rattle.flow_link.specs.declared.plan.LinkTarget.{LinkTarget}
use Rattle.flow_link.specs.declared.plan.LinkTarget.TheVariants.{Port, Exit}
use Rattle.flow_link.specs.declared.trace.Mark.{Mark}
use Rattle.flow_link.specs.declared.trace.Mark.TheVariants.{Took, Gave, Complete, Fault, Done}
use Rattle.flow_link.specs.Facts.{facts_in}
use Rattle.flow_lawful.specs.Law.{is_own_mark}
use Rattle.flow_link.specs.Layout.{Layout}
use Rattle.flow_link.specs.Lists.{every}
use Rattle.flow_link.specs.Plan.{block_in, link_in, no_link, ends_at, ends_at_port, links_into, is_sole, is_reserving}
use Rattle.flow_link.specs.Trace.{took_at, took_over}
use Rattle.flow_block_law.specs.NodeLaw.{run_seen_by}
use Rattle.flow_core.proofs.PlacesOfLinks.{ends_here}
use Rattle.flow_link.proofs.PlacesTell.{count_within, counts_differ}

-- where one link at most leads into a block, two links that lead there are one
counted_into : (b : ℕ) (links : List Link) → count_by (λ link. ends_at b link.target) links ≡ links_into b links
counted_into b [] = refl
counted_into b (link ∷ links) =
    sum_by-cons (λ link. cond (ends_at b link.target) 1 0) link links
    ∙ ap (λ (n : ℕ). cond (ends_at b link.target) 1 0 + n) (counted_into b links)

one_enters : (b : ℕ) (links : List Link) (i j : ℕ) → links_into b links ≤ 1 → i < length links → j < length links
    → ends_at b (link_in links i).target ≡ true → ends_at b (link_in links j).target ≡ true → i ≡ j
one_enters b links i j few low_i low_j ei ej =
    let test : Link → Bool = λ link. ends_at b link.target in
    let before_i = count_within test links i no_link low_i ei in
    let before_j = count_within test links j no_link low_j ej in
    counts_differ test links i j no_link low_i low_j ei ej
    (omega (arith, counted_into b links, few, before_i, before_j))

-- so what the block took at a port came over that link
port_is_of_block : (b p : ℕ) (target : LinkTarget) → ends_at_port b p target ≡ true → ends_at b target ≡ true
port_is_of_block b p (Port n q) e = (and_parts (n == b) (q == p) e).0
port_is_of_block b p Exit e = cc

counts_over : (at_port over : Bool) (value : Value) (xs ys : List Value) → over ≡ true → length xs ≤ length ys
    → length (cond at_port (value ∷ xs) xs) ≤ length (cond over (value ∷ ys) ys)
counts_over true true value xs ys e less = omega arith
counts_over false true value xs ys e less = omega arith
counts_over at_port false value xs ys e less = cc

module _ {W : Type 0} (layout : Layout W) (meaning : ℕ → Value → Result (List Value) ℕ) (b p l : ℕ) where
  all_over : ((k : ℕ) → k < length layout.links → ends_at b (link_in layout.links k).target ≡ true → k ≡ l)
      → (journal : List Mark) → every (is_own_mark (run_seen_by layout meaning b []) b) journal ≡ true
      → length (took_at p journal) ≤ length (took_over l journal)
  all_over one [] own = omega arith
  all_over one (Took port link value ∷ marks) own =
      let both = and_parts (is_own_mark (run_seen_by layout meaning b []) b (Took port link value)) _ own in
      let target = (link_in layout.links link).target in
      let mine = and_parts (ltb link (length layout.links)) (ends_at_port b port target) both.0 in
      let same = one link (ltb-true link (length layout.links) mine.0) (port_is_of_block b port target mine.1) in
      counts_over (port == p) (link == l) value (took_at p marks) (took_over l marks) (eq-eqb link l same)
      (all_over one marks both.1)
  all_over one (Gave link value ∷ marks) own = all_over one marks (and_parts _ _ own).1
  all_over one (Complete port ∷ marks) own = all_over one marks (and_parts _ _ own).1
  all_over one (Fault number ∷ marks) own = all_over one marks own
  all_over one (Done ∷ marks) own = all_over one marks own

  few_where_sole : (target : LinkTarget) → target ≡ Port b p → is_sole layout.blocks layout.links target ≡ true
      → links_into b layout.links ≡ 1
  few_where_sole target leads sole =
      let at_port = sym (ap (is_sole layout.blocks layout.links) leads) ∙ sole in
      eqb-true (links_into b layout.links) 1
      (and_parts (links_into b layout.links == 1) (not (is_reserving (block_in layout.blocks b))) at_port).0

  pub all_over_sole : l < length layout.links → (link_in layout.links l).target ≡ Port b p
      → (facts_in layout l).sole ≡ true → (journal : List Mark)
      → every (is_own_mark (run_seen_by layout meaning b []) b) journal ≡ true
      → length (took_at p journal) ≤ length (took_over l journal)
  all_over_sole low leads sole journal own =
      let target = (link_in layout.links l).target in
      let few = few_where_sole target leads sole in
      let here = port_is_of_block b p target (ends_here layout b p l leads) in
      all_over (λ k low_k enters. one_enters b layout.links k l (omega (arith, few)) low_k low enters here) journal own
