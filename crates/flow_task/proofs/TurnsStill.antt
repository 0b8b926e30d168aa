-- Where nothing was done, nothing is left to do: what was found step by step holds of the node as it was, and as it is.
use Rattle.std.proofs.Common.{◌≡◌, ℕ, Bool, true, false, List, Option, Some, Result, Ok, Err, IfOk, sym, ◌∙◌, subst}
use Rattle.std.specs.declared.alloc.AllocError.{AllocError}
use Rattle.flow_value.specs.declared.value.Value.{Value}
use Rattle.flow_link.specs.declared.phase.Move.{Move}
use Rattle.flow_block.specs.Node.{NodeState}
use Rattle.flow_outlet.specs.declared.fault.OutletFault.{OutletFault}
use Rattle.flow_outlet.specs.declared.fault.OutletFault.TheVariants.{Ids}
use Rattle.flow_outlet.specs.Outlet.{lacks_ids}
use Rattle.flow_block.specs.Peeks.{may_begin, may_end}
use Rattle.flow_block_law.specs.JobsEnd.{put_at_end}
use Rattle.flow_task.specs.Events.{Does, HasEvent}
use Rattle.flow_task.specs.Turns.{JobsAreDone, MakeIsDone, OwnIsDone, StaysOpen, WorkIsDone}

some_is : {A : Type 0} {x y : A} → Some x ≡ Some y → x ≡ y
some_is e = cc

pub unmoved : (ends : Bool) (makes : Value → Result (List Value) ℕ) (did : Bool) (old new : NodeState) → did ≡ false → Does ends makes (Ok did) old new
    → new ≡ old
unmoved ends makes did old new not does = subst (λ (b : Bool). Does ends makes (Ok b) old new) not does

pub does_from : (ends : Bool) (result : Result Bool AllocError) (makes makes' : Value → Result (List Value) ℕ) (first old new : NodeState)
    → makes' ≡ makes → old ≡ first → Does ends makes' result old new → Does ends makes result first new
does_from ends result makes makes' first old new same from does =
    subst (λ (node : NodeState). Does ends makes result node new) from
    (subst (λ (m : Value → Result (List Value) ℕ). Does ends m result old new) same does)

-- an event that was done by a block which was as it is
pub event_from : {ends : Bool} (makes makes' : Value → Result (List Value) ℕ) (did : Bool) (first old new : NodeState) → did ≡ true → makes' ≡ makes
    → old ≡ first → Does ends makes' (Ok did) old new → ∥ HasEvent ends makes first new ∥₁
event_from {ends = ends} makes makes' did first old new said same from does =
    does_from ends (Ok true) makes makes' first old new same from (subst (λ (b : Bool). Does ends makes' (Ok b) old new) said does)

-- the move that was found is the one that came too late
pub missed : (result : Result Bool AllocError) (found : Option Move) (next : Move) (Late : Move → Type 0) (Tried : Type 0) → found ≡ Some next
    → IfOk result (λ moved. moved ≡ false → Late next) → IfOk result (λ moved. moved ≡ false → Tried)
    → IfOk result (λ did. did ≡ false → (other : Move) → found ≡ Some other → Late other × Tried)
missed (Ok did) found next Late Tried is late tried = λ not other finds. (subst Late (some_is (sym is ∙ finds)) (late not), tried not)
missed (Err fault) found next Late Tried is late tried = tt

-- the job that was tried lacks an id
pub jobs_done : {A : Type 0} (result : Result Bool AllocError) (done : Result A OutletFault) (makes : Value → Result (List Value) ℕ)
    (node : NodeState) (ticket : ℕ) → may_end ticket node.block ≡ true
    → (done ≡ Err Ids → lacks_ids (put_at_end makes ticket node.block) node.block.exits ≡ true)
    → IfOk result (λ did. did ≡ false → done ≡ Err Ids)
    → IfOk result (λ did. did ≡ false → JobsAreDone makes node)
jobs_done (Ok did) done makes node ticket out lacks ids =
    λ not other may. record { ticket = ticket; out = out; lacks = lacks (ids not) }
jobs_done (Err fault) done makes node ticket out lacks ids = tt

-- of its jobs: that none is out, and that none begins
pub work_done : (result : Result Bool AllocError) (makes : Value → Result (List Value) ℕ) (in_place : Bool) (first second : NodeState)
    → second ≡ first → JobsAreDone makes first → IfOk result (λ did. did ≡ false → may_begin second.block ≡ false)
    → IfOk result (λ did. did ≡ false → WorkIsDone makes first in_place)
work_done (Ok did) makes in_place first second one jobs begin =
    λ not.
    record {
      jobs = λ itself. jobs;
      begin = λ itself. subst (λ (node : NodeState). may_begin node.block ≡ false) one (begin not);
    }
work_done (Err fault) makes in_place first second one jobs begin = tt

-- of what a block does by itself, one after another
pub own_done : (result : Result Bool AllocError) (makes makes' : Value → Result (List Value) ℕ) (in_place : Bool)
    (first second last : NodeState) → second ≡ first → last ≡ second → makes' ≡ makes → MakeIsDone makes first
    → WorkIsDone makes' second in_place → IfOk result (λ did. did ≡ false → StaysOpen last.block)
    → IfOk result (λ did. did ≡ false → OwnIsDone makes first in_place)
own_done (Ok did) makes makes' in_place first second last one two same make work open_yet =
    λ not.
    record {
      make = make;
      work = subst (λ (node : NodeState). WorkIsDone makes node in_place) one
          (subst (λ (m : Value → Result (List Value) ℕ). WorkIsDone m second in_place) same work);
      open_yet = subst (λ (node : NodeState). StaysOpen node.block) (two ∙ one) (open_yet not);
    }
own_done (Err fault) makes makes' in_place first second last one two same make work open_yet = tt
