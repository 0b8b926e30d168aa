-- A step of an exit: it merely is in order, so it is afterwards, and the end of its link knows what it then knows.
use Rattle.std.proofs.Common.{◌≡◌, ℕ, Bool, true, false, cond, List, [], Option, Some, None, is_some, is_none, Result, Ok, Err, OnOk, OnErr, refl, sym, ap, ◌∙◌, subst}
use Rattle.std.proofs.Math.Logic.{∥∥₁_elim, ∥∥₁_map}
use Rattle.std.specs.Coded.{codes}
use Rattle.atomic_table.specs.Seated.{TableId, table_id_coded}
use Rattle.flow_value.specs.declared.value.Value.{Value}
use Rattle.flow_value.specs.contracts.value.Value as content
use Rattle.flow_link.specs.declared.phase.Move.{Move}
use Rattle.flow_link.specs.declared.phase.Move.TheVariants as move
use Rattle.flow_link.specs.declared.stage.Refusal.{Refusal}
use Rattle.flow_link.specs.declared.stage.TargetStage.{TargetStage}
use Rattle.flow_link.specs.declared.stage.TargetStage.TheVariants.{Ended}
use Rattle.flow_link.specs.declared.phase.Phase.{Phase}
use Rattle.flow_link.specs.declared.plan.LinkTarget.{LinkTarget}
use Rattle.flow_link.specs.declared.plan.LinkTarget.TheVariants.{Port, Exit}
use Rattle.flow_link.specs.Facts.{facts_in, reserves_in}
use Rattle.flow_link.specs.Layout.{Layout}
use Rattle.flow_link.specs.Looks.{looking_in}
use Rattle.flow_link.specs.Plan.{is_sole, is_steady, link_in}
use Rattle.flow_link.specs.Stage.{target_looks}
use Rattle.flow_link.specs.Views.{TargetStage as TargetAt, TargetView}
use Rattle.flow_poll.specs.Receives.{Sight, StaysOver}
use Rattle.flow_poll.specs.declared.receive.Received.TheVariants as received
use Rattle.flow_moves.specs.Sights.{is_near, sight_at, sight_of}
use Rattle.flow_block.specs.Planned.{is_exit, leads_out}
use Rattle.flow_exit.specs.Exit.{ExitState, ExitCall, after_exit, exit_after, exit_call, exit_move, exit_move_at, exit_view, is_callers, outcome_at, wants_one}
use Rattle.flow_exit.specs.ExitKeeps.{ExitLaw}
use Rattle.flow_exit.proofs.ExitsKeep.{exits_keep}
use Rattle.flow_core.specs.MovesFit.{InFits, IsOutward}
use Rattle.flow_core.proofs.EndsStep.{exit_steps}
use Rattle.flow_core.proofs.ExitsFit.{exits_fit}
use Rattle.flow_task.specs.At.{over_goes_further, over_stays}
use Rattle.flow_task.specs.Exits.{ExitGoes, StepsBy, answers_plainly, exit_due}
use Rattle.flow_task.specs.Known.{InKnown}
use Rattle.flow_task.specs.Words.{MayMoveIn, header_of, is_late, moved_in, opens}
use Rattle.flow_task.proofs.TaskSteps.{in_knows}
use Rattle.flow_task.proofs.WordsFit.{in_may, in_moved, in_prop}

Known-set : IsSet InKnown
Known-set = Prim.hlevel (codes, table_id_coded, content.the_row.coded)

module _ {W : Type 0} (layout : Layout W) (wires : List TableId) (l : ℕ) (leads : leads_out layout l ≡ true) (exit : ExitState)
    (law : ∥ ExitLaw exit ∥₁) where
  outward_by : (target : LinkTarget) → (link_in layout.links l).target ≡ target → is_exit target ≡ true → IsOutward (facts_in layout l)
  outward_by Exit to e = record {
    not_steady = ap (is_steady layout.blocks) to;
    not_sole = ap (is_sole layout.blocks layout.links) to;
    freely = ap (reserves_in layout) to;
  }
  outward_by (Port b p) to e = absurd (cc)

  outward : IsOutward (facts_in layout l)
  outward = outward_by (link_in layout.links l).target refl leads

  -- it looks
  pub look_law : (phase : Phase) → ∥ ExitLaw (after_exit (ExitCall.look phase) exit) ∥₁
  look_law phase = ∥∥₁_map law (λ e. exits_keep.calls exit (ExitCall.look phase) e tt)

  pub look_knows : (phase : Phase) (known : InKnown) → known ≡ in_knows (looking_in phase (exit_view exit)) (exit_due layout wires l exit)
      → known ≡ exit_due layout wires l (after_exit (ExitCall.look phase) exit)
  look_knows phase known is =
      is ∙ ap (λ (view : TargetView Value). in_knows view (exit_due layout wires l exit)) (sym (exits_keep.looks exit phase))

  -- its caller does something, which its link knows nothing of
  pub asked_law : (waits : Bool) → ∥ ExitLaw (after_exit (ExitCall.ask waits) exit) ∥₁
  asked_law waits = ∥∥₁_map law (λ e. exits_keep.calls exit (ExitCall.ask waits) e tt)

  pub received_law : ∥ ExitLaw (after_exit ExitCall.receive exit) ∥₁
  received_law = ∥∥₁_map law (λ e. exits_keep.calls exit ExitCall.receive e tt)

  pub unseen_knows : (call : ExitCall) → is_callers call ≡ true → (known : InKnown) → known ≡ exit_due layout wires l exit
      → known ≡ exit_due layout wires l (after_exit call exit)
  unseen_knows call callers known is =
      is ∙ ap (λ (view : TargetView Value). in_knows view (exit_due layout wires l exit)) (sym (exits_keep.unseen exit call callers))

  -- it moves
  module _ (next : Move) (peek : exit_move exit ≡ Some next) where
    abbrev after_move : Option Value → ExitState
    after_move slot = exit_after (exit_call slot next) exit

    fits : (slot : Option Value) → ExitLaw exit
        → InFits (facts_in layout l) None slot next (exit_view exit) (exit_view (after_move slot))
    fits slot e = exits_fit exits_keep (facts_in layout l) outward exit e slot next peek

    pub move_may : MayMoveIn next (header_of exit.stage) None (facts_in layout l) (exit_view exit)
    move_may =
        ∥∥₁_elim law (in_prop next (header_of exit.stage) None (facts_in layout l) (exit_view exit)) (λ e.
        in_may (facts_in layout l) None None (exit_view exit) (exit_view (after_move None)) exit.stage exit.hand refl next (fits None e))

    pub move_law : (slot : Option Value) → ∥ ExitLaw (after_move slot) ∥₁
    move_law slot = ∥∥₁_map law (λ e. exit_steps exits_keep exit e slot next (exits_keep.next exit next peek))

    pub move_knows : (slot : Option Value) → (opens next ≡ true → is_some slot ≡ true) → (known : InKnown)
        → known ≡ in_knows (moved_in next None slot (exit_view exit)) (exit_due layout wires l exit)
        → known ≡ exit_due layout wires l (after_move slot)
    move_knows slot full known is =
        ∥∥₁_elim law (Known-set _ _) (λ e.
        is ∙ ap (λ (view : TargetView Value). in_knows view (exit_due layout wires l exit))
        (sym (in_moved (facts_in layout l) None slot (exit_view exit) (exit_view (after_move slot)) next full (fits slot e))))

-- an exit refuses for no reason
pub none_refuses : (why : Refusal) (refusing : Option Refusal) → refusing ≡ None → is_some refusing ≡ true → refusing ≡ Some why
none_refuses why (Some so) none some = absurd (cc)
none_refuses why None none some = absurd (cc)

-- from what a call says where it comes out well, and where it does not
pub either_way : {A E P Q R : Type 0} (result : Result A E) → OnOk result P → OnErr result Q → (P → R) → (Q → R) → R
either_way (Ok value) well failed one other = one well
either_way (Err fault) well failed one other = other failed

-- what the source cannot forestall, and opens nothing
pub plain_is_kept : (next : Move) → answers_plainly next ≡ true → opens next ≡ false
plain_is_kept move.Want e = refl
plain_is_kept move.TurnDown e = refl
plain_is_kept move.Postpone e = refl
plain_is_kept move.Close e = refl
plain_is_kept _ e = absurd (cc)

pub plain_is_own : (next : Move) (stage : TargetAt Value) → answers_plainly next ≡ true → is_late next stage ≡ false
plain_is_own move.Want stage e = refl
plain_is_own move.TurnDown stage e = refl
plain_is_own move.Postpone stage e = refl
plain_is_own move.Close stage e = refl
plain_is_own _ stage e = absurd (cc)

-- What is over

ends_not : (near : Bool) (later : Sight) → StaysOver (sight_at None near) later
ends_not true later = tt
ends_not false later = tt

over_looked_by : (kept : Option Value) (stage : TargetStage) (near after : Bool) (phase : Phase)
    → StaysOver (sight_at (cond (is_none kept) (outcome_at stage) None) near)
    (sight_at (cond (is_none kept) (outcome_at (target_looks stage phase)) None) after)
over_looked_by (Some value) stage near after phase = ends_not near (sight_at None after)
over_looked_by None (Ended how) near after phase = refl
over_looked_by None stage near after phase = ends_not near (sight_at (outcome_at (target_looks stage phase)) after)

pub over_looked : (phase : Phase) (exit : ExitState) → StaysOver (sight_of exit) (sight_of (after_exit (ExitCall.look phase) exit))
over_looked phase exit = over_looked_by exit.kept exit.stage (is_near exit) (is_near (after_exit (ExitCall.look phase) exit)) phase

over_moved_by : (kept : Option Value) (stage : TargetStage) (near wants : Bool) (next : Move) (later : Sight) → exit_move_at wants stage ≡ Some next
    → StaysOver (sight_at (cond (is_none kept) (outcome_at stage) None) near) later
over_moved_by (Some value) stage near wants next later peek = ends_not near later
over_moved_by None (Ended how) near wants next later peek = absurd (cc)
over_moved_by None stage near wants next later peek = ends_not near later

pub over_stepped : (moved : Bool) (old new : ExitState) → StepsBy moved old new → StaysOver (sight_of old) (sight_of new)
over_stepped true old new steps =
    over_moved_by old.kept old.stage (is_near old) (wants_one old) steps.next (sight_of new) steps.comes
over_stepped false old new same = subst (λ (exit : ExitState). StaysOver (sight_of old) (sight_of exit)) (sym same) (over_stays (sight_of old))

-- what its caller has received stays
received_moved : (slot : Option Value) (next : Move) (exit : ExitState) → (exit_after (exit_call slot next) exit).received ≡ exit.received
received_moved slot move.Want exit = refl
received_moved slot move.TurnDown exit = refl
received_moved slot move.Postpone exit = refl
received_moved slot move.Consume exit = refl
received_moved (Some value) move.Open exit = refl
received_moved None move.Open exit = refl
received_moved slot move.Close exit = refl
received_moved slot _ exit = refl

pub received_stepped : (moved : Bool) (old new : ExitState) → StepsBy moved old new → new.received ≡ old.received
received_stepped true old new steps = ap (λ (exit : ExitState). exit.received) steps.leaves ∙ received_moved steps.slot steps.next old
received_stepped false old new same = ap (λ (exit : ExitState). exit.received) same

pub goes_looked : (phase : Phase) (old new : ExitState) → new ≡ after_exit (ExitCall.look phase) old → ExitGoes old new
goes_looked phase old new is = record {
  received = ap (λ (exit : ExitState). exit.received) is;
  over = subst (λ (exit : ExitState). StaysOver (sight_of old) (sight_of exit)) (sym is) (over_looked phase old);
}

pub goes_asked : (waits : Bool) (old new : ExitState) → new ≡ after_exit (ExitCall.ask waits) old → ExitGoes old new
goes_asked waits old new is = record {
  received = ap (λ (exit : ExitState). exit.received) is;
  over = subst (λ (exit : ExitState). StaysOver (sight_of old) (sight_of exit)) (sym is) (over_stays (sight_of old));
}

pub goes_stepped : (moved : Bool) (old new : ExitState) → StepsBy moved old new → ExitGoes old new
goes_stepped moved old new steps = record {
  received = received_stepped moved old new steps;
  over = over_stepped moved old new steps;
}

pub goes_further : (first mid last : ExitState) → ExitGoes first mid → ExitGoes mid last → ExitGoes first last
goes_further first mid last head tail = record {
  received = tail.received ∙ head.received;
  over = over_goes_further (sight_of first) (sight_of mid) (sight_of last) head.over tail.over;
}

-- What a receive answers
