-- In each step of a turn a journal goes on, and where nothing was done it is as it was: a look marks nothing.
use Rattle.std.proofs.Common.{◌≡◌, ℕ, Bool, true, false, cond, List, [], ◌∷◌, Some, Result, Ok, Err, ap, sym, subst}
use Rattle.std.specs.Coded.{codes}
use Rattle.std.specs.declared.alloc.AllocError.{AllocError}
use Rattle.std.proofs.Math.Logic.{∥∥₁_elim}
use Rattle.flow_value.specs.declared.value.Value.{Value}
use Rattle.flow_value.specs.contracts.value.Value as content
use Rattle.flow_link.specs.declared.draft.BlockKind.{BlockKind}
use Rattle.flow_link.specs.declared.phase.Phase.{Phase}
use Rattle.flow_link.specs.declared.trace.Mark.{Mark}
use Rattle.flow_link.specs.contracts.trace.Mark as mark
use Rattle.flow_link.specs.Plan.{is_one_taker}
use Rattle.flow_block.specs.Copies.{CopyCall}
use Rattle.flow_block.specs.Node.{NodeState, NodeCall}
use Rattle.flow_core.specs.Events.{in_call, source_call, source_look}
use Rattle.flow_moves.specs.Calls.{Calls}
use Rattle.flow_poll.specs.Turns.{Extends}
use Rattle.flow_poll.proofs.EachGoes.{extends_itself}
use Rattle.flow_task.specs.Events.{BlockEvent, BlockHappens, Does}
use Rattle.flow_task.specs.Turns.{Grows}
use Rattle.flow_task.proofs.JournalsGrow.{grown}

Mark-set : IsSet Mark
Mark-set = Prim.hlevel (codes, content.the_row.coded, mark.the_row.coded)

pub extends_prop : (old new : List Mark) → IsProp (Extends old new)
extends_prop [] new = hlevel
extends_prop (first ∷ old) [] = hlevel
extends_prop (first ∷ old) (other ∷ new) = let rest = extends_prop old new in hlevel Mark-set

abbrev marks_of : NodeState → List Mark
marks_of node = node.journal

none : Value → Result (List Value) ℕ
none value = Ok []

-- A look

pub look_in_keeps : (p k : ℕ) (phase : Phase) (node new : NodeState) → Calls (Some (NodeCall.look_in p k phase)) node new
    → new.journal ≡ node.journal
look_in_keeps p k phase node new calls = ap marks_of (calls none)

look_keeps : (sharing : Bool) (k : ℕ) (phase : Phase) (node new : NodeState)
    → Calls (Some (cond sharing (NodeCall.look_out k phase) (NodeCall.copy (CopyCall.look k phase)))) node new
    → new.journal ≡ node.journal
look_keeps true k phase node new calls = ap marks_of (calls none)
look_keeps false k phase node new calls = ap marks_of (calls none)

pub look_out_keeps : (kind : BlockKind) (k : ℕ) (phase : Phase) (node new : NodeState)
    → Calls (Some (source_look kind k phase)) node new → new.journal ≡ node.journal
look_out_keeps kind k phase node new calls = look_keeps (is_one_taker kind) k phase node new calls

-- An event

event_grows : (ends : Bool) (makes : Value → Result (List Value) ℕ) (event : BlockEvent) (old new : NodeState) → BlockHappens ends makes event old new
    → Extends old.journal new.journal
event_grows ends makes BlockEvent.make old new is = grown (Some NodeCall.make) old new is.leaves
event_grows ends makes BlockEvent.begin old new is = grown (Some NodeCall.begin) old new is.leaves
event_grows ends makes (BlockEvent.end_job ticket) old new is =
    subst (λ (node : NodeState). Extends old.journal node.journal) (sym is.leaves) (extends_itself old.journal)
event_grows ends makes (BlockEvent.complete p) old new is = grown (Some (NodeCall.complete p)) old new is.leaves
event_grows ends makes (BlockEvent.fault number) old new is = grown (Some (NodeCall.fault number)) old new is.leaves
event_grows ends makes BlockEvent.finish old new is = grown (Some NodeCall.finish) old new is.leaves
event_grows ends makes (BlockEvent.move_in p k next) old new is =
    ∥∥₁_elim is.leaves (extends_prop old.journal new.journal) (λ some. grown (in_call p k some.0 next) old new some.1)
event_grows ends makes (BlockEvent.move_out k next) old new is = grown (source_call old.block.kind k next) old new is.leaves

-- A step, where the journal was as it is before

pub does_grows : (ends : Bool) (makes : Value → Result (List Value) ℕ) (result : Result Bool AllocError) (old new : NodeState) → Does ends makes result old new
    → Grows result old new
does_grows ends makes (Ok true) old new does = ∥∥₁_elim does (extends_prop old.journal new.journal) (λ some. event_grows ends makes some.0 old new some.1)
does_grows ends makes (Ok false) old new does = ap marks_of does
does_grows ends makes (Err fault) old new does = ap marks_of does

-- Step after step
