-- A block other than a batch, a join or a batched join that goes on, and has nothing to do by itself, holds nothing: it would
-- begin with what it holds, or its result would come back.
use Rattle.std.proofs.Common.{◌≡◌, ℕ, ◌-◌, ◌<◌, ltb, leb, Bool, true, false, not, ◌&&◌, List, [], ◌∷◌, length, get_or, Some, None, is_none, refl, ap, arith, lt-ltb, le-leb}
use Rattle.std.proofs.lemmas.Bool.{and_from}
use Rattle.flow_value.specs.declared.value.Value.{Value}
use Rattle.flow_link.specs.Plan.{has_work}
use Rattle.flow_link.specs.declared.kinds.BlockUnit.{BlockUnit}
use Rattle.flow_link.specs.declared.kinds.BlockUnit.TheVariants as unit
use Rattle.flow_link.specs.Kinds.{unit_of, makes_rows, makes_tuples, makes_groups}
use Rattle.flow_link.proofs.ListTests.{never_both}
use Rattle.flow_block.specs.Block.{BlockState, held_by, is_batch, is_join, is_batched_join}
use Rattle.flow_block.specs.Jobs.{Slot, JobsState, no_slot, out_count, is_out, is_front_back}
use Rattle.flow_outlet.specs.Outlet.{is_empty}
use Rattle.flow_block.specs.Peeks.{may_copy, has_next, may_work, may_make, may_begin, may_end, has_unit}

-- the message that is worked on first is out
front_out : (jobs : JobsState) (slots : List Slot) → jobs.slots ≡ None ∷ slots → is_out jobs.first jobs ≡ true
front_out jobs slots is =
    let at_first : jobs.first - jobs.first ≡ 0 = omega arith in
    and_from (leb jobs.first jobs.first) (is_none (get_or jobs.slots (jobs.first - jobs.first) no_slot))
    (le-leb jobs.first jobs.first (omega arith))
    (rw (is, at_first) refl)

-- what makes no rows, tuples or groups has something to make where it holds a message, and may copy
next_other : (block : BlockState) (made : BlockUnit) → makes_rows made ≡ false → makes_tuples made ≡ false → makes_groups made ≡ false
    → (not (is_empty (held_by block)) && may_copy block) ≡ true → has_unit made block ≡ true
next_other block unit.Message other alone grouped some = some
next_other block unit.Row other alone grouped some = absurd (cc)
next_other block unit.Tuple other alone grouped some = absurd (cc)
next_other block unit.Group other alone grouped some = absurd (cc)
next_other block unit.Copy other alone grouped some = some
next_other block unit.OneCopy other alone grouped some = some

module _ (block : BlockState) (going : block.stopped ≡ None) (well : block.fault ≡ None) (other : is_batch block.kind ≡ false)
    (alone : is_join block.kind ≡ false) (grouped : is_batched_join block.kind ≡ false) (freely : may_copy block ≡ true)
    (lane : 0 < block.jobs.lanes)
    (drained : is_front_back block.jobs.slots ≡ false)
    (makes : may_make block ≡ false) (begins : may_begin block ≡ false)
    (ends : (ticket : ℕ) → may_end ticket block ≡ false) where
  works_on : (value : Value) (rest : List Value) → held_by block ≡ value ∷ rest → may_work block ≡ true
  works_on value rest is =
      and_from (is_none block.stopped && is_none block.fault) (has_next block) (rw (going, well) refl)
      (next_other block (unit_of block.kind) other alone grouped
      (and_from (not (is_empty (held_by block))) (may_copy block) (rw is refl) freely))

  goes_on : (value : Value) (rest : List Value) → held_by block ≡ value ∷ rest
      → (works : Bool) → has_work block.kind ≡ works → (slots : List Slot) → block.jobs.slots ≡ slots → ⊥
  goes_on value rest is false idle slots at =
      never_both (may_make block)
      (and_from (may_work block) (not (has_work block.kind)) (works_on value rest is) (ap not idle)) makes
  goes_on value rest is true works [] at =
      let none : length block.jobs.slots ≡ 0 = ap (λ (slots : List Slot). length slots) at in
      let none_out : out_count block.jobs.slots ≡ 0 = ap out_count at in
      let some : length (held_by block) ≡ length (value ∷ rest) = ap (λ (vs : List Value). length vs) is in
      never_both (may_begin block)
      (and_from (may_work block && has_work block.kind && ltb (out_count block.jobs.slots) block.jobs.lanes)
      (ltb (length block.jobs.slots) (length (held_by block)))
      (and_from (may_work block && has_work block.kind) (ltb (out_count block.jobs.slots) block.jobs.lanes)
      (and_from (may_work block) (has_work block.kind) (works_on value rest is) works)
      (lt-ltb (out_count block.jobs.slots) block.jobs.lanes (omega (arith, none_out, lane))))
      (lt-ltb (length block.jobs.slots) (length (held_by block)) (omega (arith, none, some))))
      begins
  goes_on value rest is true works (None ∷ slots) at =
      let first = block.jobs.first in
      never_both (may_end first block)
      (and_from (is_none block.stopped) (is_out first block.jobs) (ap is_none going) (front_out block.jobs slots at))
      (ends first)
  goes_on value rest is true works (Some made ∷ slots) at =
      never_both (is_front_back block.jobs.slots) (ap is_front_back at) drained

  none_held_of : (held : List Value) → held_by block ≡ held → held_by block ≡ []
  none_held_of [] is = is
  none_held_of (value ∷ rest) is =
      absurd (goes_on value rest is (has_work block.kind) refl block.jobs.slots refl)

  pub holds_none : held_by block ≡ []
  holds_none = none_held_of (held_by block) refl
