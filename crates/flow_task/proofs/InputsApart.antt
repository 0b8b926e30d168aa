-- Which link the next input is of, by its number, where the inputs before a place are taken.
use Rattle.std.proofs.Common.{◌≡◌, ℕ, ◌+◌, ◌<◌, ◌==◌, Bool, true, false, not, List, length, get_or, refl, sym, ap, ◌∙◌, arith}
use Rattle.std.proofs.lemmas.Bool.{and_parts, eqb-true}
use Rattle.flow_link.proofs.PlacesOfNumbers.{place_below}
use Rattle.flow_link.proofs.PlacesTell.{places_differ}
use Rattle.flow_link.specs.Layout.{Layout}
use Rattle.flow_block.proofs.PlanMade.{counted_where, counted_else}
use Rattle.flow_task.specs.Inputs.{begins_at_input, links_of_inputs}
use Rattle.flow_task.specs.Numbers.{place_in, is_open, is_closed, open_before, closed_before, task_count, is_entry_number, is_input_number}

module _ {W : Type 0} (layout : Layout W) where
  -- an input's link, by its place
  placed : (l q : ℕ) → l < length layout.links → begins_at_input layout l ≡ true → place_in layout l ≡ q
      → get_or (links_of_inputs layout) q 0 ≡ l
  placed l q there begins is =
      ap (λ (k : ℕ). get_or (links_of_inputs layout) k 0) (sym is)
      ∙ (place_below (begins_at_input layout) (length layout.links) l there begins).is_there

  module _ (opens : List Bool) where
    -- that of an entry
    pub entry_link : (l n q : ℕ) → l < length layout.links → begins_at_input layout l ≡ true → is_open layout opens q ≡ true
        → n ≡ task_count layout opens + open_before layout opens q → is_entry_number layout opens l n ≡ true
        → l ≡ get_or (links_of_inputs layout) q 0
    entry_link l n q there begins opened is numbered =
        let p = place_in layout l in
        let before = task_count layout opens + open_before layout opens p in
        let parts = and_parts (is_open layout opens p) (before == n) numbered in
        let same : before ≡ n = eqb-true before n parts.1 in
        sym (placed l q there begins (places_differ (is_open layout opens) p q parts.0 opened (omega (arith, same, is))))

    -- and of an input that is turned
    pub input_link : (l n q : ℕ) → l < length layout.links → begins_at_input layout l ≡ true → is_closed layout opens q ≡ true
        → n ≡ length layout.blocks + closed_before layout opens q → is_input_number layout opens l n ≡ true
        → l ≡ get_or (links_of_inputs layout) q 0
    input_link l n q there begins closed is numbered =
        let p = place_in layout l in
        let before = length layout.blocks + closed_before layout opens p in
        let parts = and_parts (is_closed layout opens p) (before == n) numbered in
        let same : before ≡ n = eqb-true before n parts.1 in
        sym (placed l q there begins (places_differ (is_closed layout opens) p q parts.0 closed (omega (arith, same, is))))

    -- there is one more of those that pass
    pub open_more : (q : ℕ) → is_open layout opens q ≡ true → open_before layout opens q + 1 ≡ open_before layout opens (q + 1)
    open_more q opened = counted_where (is_open layout opens) q (open_before layout opens q) refl opened

    pub closed_more : (q : ℕ) → is_closed layout opens q ≡ true → closed_before layout opens q + 1 ≡ closed_before layout opens (q + 1)
    closed_more q closed = counted_where (is_closed layout opens) q (closed_before layout opens q) refl closed

    -- and no more of the others
    pub open_stays : (q : ℕ) → is_open layout opens q ≡ false → open_before layout opens q ≡ open_before layout opens (q + 1)
    open_stays q closed = counted_else (is_open layout opens) q (open_before layout opens q) refl closed

    pub closed_stays : (q : ℕ) → is_open layout opens q ≡ true → closed_before layout opens q ≡ closed_before layout opens (q + 1)
    closed_stays q opened = counted_else (is_closed layout opens) q (closed_before layout opens q) refl (ap not opened)

    -- one is left
    pub open_left : (q : ℕ) → q < length opens → is_open layout opens q ≡ true
        → open_before layout opens q < open_before layout opens (length opens)
    open_left q low opened = (place_below (is_open layout opens) (length opens) q low opened).there

    pub closed_left : (q : ℕ) → q < length opens → is_closed layout opens q ≡ true
        → closed_before layout opens q < closed_before layout opens (length opens)
    closed_left q low closed = (place_below (is_closed layout opens) (length opens) q low closed).there
