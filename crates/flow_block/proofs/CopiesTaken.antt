-- What a taking makes of a block: it holds what it took, or copies it at once.
use Rattle.std.proofs.Common.{◌≡◌, ℕ, ◌+◌, ◌^◌, ◌<◌, ◌≤◌, ◌==◌, Bool, true, false, not, ◌&&◌, ltb, List, length, Option, Some, None, refl, ap, ◌∙◌, arith, eqb-true, ltb-true}
use Rattle.std.proofs.lemmas.Bool.{and_parts}
use Rattle.flow_value.specs.declared.value.Value.{Value}
use Rattle.flow_link.specs.declared.trace.Mark.{Mark}
use Rattle.flow_link.specs.declared.draft.BlockKind.{BlockKind}
use Rattle.flow_link.specs.declared.draft.BlockKind.TheVariants.{WriteOnce}
use Rattle.flow_link.specs.Plan.{is_write_once, is_broadcast, is_one_taker}
use Rattle.flow_link.proofs.KindsTell.{kind_tells}
use Rattle.flow_outlet.specs.Outlet.{is_empty}
use Rattle.flow_spread.specs.Spread.{is_spread_free}
use Rattle.flow_intake.specs.Calls.{first_of}
use Rattle.flow_link.specs.declared.kinds.BlockUnit.{BlockUnit}
use Rattle.flow_link.specs.declared.kinds.BlockUnit.TheVariants as unit
use Rattle.flow_block.specs.Block.{BlockState, held_by, copies_next, copies_at_once, copies_where, copies_taken}
use Rattle.flow_block.specs.JournalFits.{marks_due}
use Rattle.flow_block.specs.Node.{NodeState, holds_in, takes_in, with_block}
use Rattle.flow_block.proofs.CopiesFit.{due_copy_next}

-- what copies and is no broadcast takes one message in all
pub copies_once : (kind : BlockKind) → is_one_taker kind ≡ false → is_broadcast kind ≡ false → is_write_once kind ≡ true
copies_once WriteOnce copying many = refl
copies_once _ copying many = absurd (cc)

-- what is there where it copies at once
pub record CopiesAtOnce (block : BlockState) : Type 0 where
  pub once : is_write_once block.kind ≡ true
  pub alone : length block.ports ≡ 1
  pub waits : is_empty (held_by block) ≡ false
  pub free : is_spread_free block.copies ≡ true
  pub ids : block.copies.id + 1 < 2 ^ 59

not_so : (b : Bool) → not b ≡ true → b ≡ false
not_so false e = refl
not_so true e = absurd (cc)

pub at_once_tells : (block : BlockState) → copies_at_once block ≡ true → CopiesAtOnce block
at_once_tells block e =
    let once = is_write_once block.kind in
    let one = length block.ports == 1 in
    let some = not (is_empty (held_by block)) in
    let free = is_spread_free block.copies in
    let last = and_parts (once && one && some && free) (ltb (block.copies.id + 1) (2 ^ 59)) e in
    let third = and_parts (once && one && some) free last.0 in
    let second = and_parts (once && one) some third.0 in
    let first = and_parts once one second.0 in
    record {
      once = first.0;
      alone = eqb-true (length block.ports) 1 first.1;
      waits = not_so (is_empty (held_by block)) second.1;
      free = third.1;
      ids = ltb-true (block.copies.id + 1) (2 ^ 59) last.1;
    }

taken_where : (P : BlockState → Type 0) (block : BlockState) (at_once : Bool) → copies_at_once block ≡ at_once → P block
    → (CopiesAtOnce block → P (copies_next (first_of (held_by block)) block)) → P (copies_where at_once block)
taken_where P block false is held copied = held
taken_where P block true is held copied = copied (at_once_tells block is)

-- what holds where it holds the message, and where it copies it
pub taken_keeps : (P : BlockState → Type 0) (block : BlockState) → P block
    → (CopiesAtOnce block → P (copies_next (first_of (held_by block)) block)) → P (copies_taken block)
taken_keeps P block held copied = taken_where P block (copies_at_once block) refl held copied

-- of a node, whose marks tell of the message either way
pub taken_in_keeps : (P : BlockState → List Mark → Type 0) (p k : ℕ) (hand : Option Value) (node : NodeState)
    → let held = holds_in p k hand node in
    P held.block held.journal
    → (CopiesAtOnce held.block → P (copies_next (first_of (held_by held.block)) held.block) held.journal)
    → P (takes_in p k hand node).block (takes_in p k hand node).journal
taken_in_keeps P p k hand node kept copied =
    let held = holds_in p k hand node in
    taken_keeps (λ new. P new held.journal) held.block kept copied

pub held_stopped : (p k : ℕ) (hand : Option Value) (node : NodeState)
    → (holds_in p k hand node).block.stopped ≡ node.block.stopped
held_stopped p k None node = refl
held_stopped p k (Some value) node = refl

pub held_kind : (p k : ℕ) (hand : Option Value) (node : NodeState) → (holds_in p k hand node).block.kind ≡ node.block.kind
held_kind p k None node = refl
held_kind p k (Some value) node = refl

-- another block holds it
taken_as : (block : BlockState) → is_write_once block.kind ≡ false → copies_taken block ≡ block
taken_as block many = rw many refl

pub taken_as_held : (p k : ℕ) (hand : Option Value) (node : NodeState) → is_write_once node.block.kind ≡ false
    → takes_in p k hand node ≡ holds_in p k hand node
taken_as_held p k hand node many =
    let held = holds_in p k hand node in
    ap (λ (block : BlockState). with_block block held) (taken_as held.block (ap is_write_once (held_kind p k hand node) ∙ many))

pub due_taken : (block : BlockState) → marks_due (copies_taken block) ≤ marks_due block
due_taken block =
    taken_keeps (λ new. marks_due new ≤ marks_due block) block (omega arith)
    (λ at_once. due_copy_next (first_of (held_by block)) block)
