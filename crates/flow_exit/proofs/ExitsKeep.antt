-- All laws of exits.
use Rattle.std.proofs.Common.{◌≡◌, true, false, refl, ap, List, ◌++◌, option_to_list}
use Rattle.std.proofs.lemmas.List.{append-nil}
use Rattle.flow_value.specs.declared.value.Value.{Value}
use Rattle.flow_link.specs.Stage.{target_stage_of}
use Rattle.flow_link.specs.Views.{TargetStage}
use Rattle.flow_link.proofs.StagesKept.{target_looks_kept}
use Rattle.flow_exit.specs.Exit.{ExitState, ExitCall, after_exit, arrived, caller_of, exit_view, is_callers}
use Rattle.flow_exit.specs.ExitKeeps.{ExitsKeep}
use Rattle.flow_exit.proofs.ExitsInOrder.{call_keeps, next_may}

-- what the caller receives is no more than what has arrived
unseen_by_link : (exit : ExitState) (call : ExitCall) → is_callers call ≡ true → exit_view (after_exit call exit) ≡ exit_view exit
unseen_by_link exit (ExitCall.ask waits) e = refl
unseen_by_link exit ExitCall.receive e =
    ap (λ (all : List Value). record { before = 0; taken = all; stage = target_stage_of exit.stage exit.hand })
    (append-nil (exit.received ++ option_to_list exit.kept))
unseen_by_link exit _ e = absurd (cc)

apart_from_caller : (exit : ExitState) (call : ExitCall) → is_callers call ≡ false → caller_of (after_exit call exit) ≡ caller_of exit
apart_from_caller exit (ExitCall.ask waits) e = absurd (cc)
apart_from_caller exit ExitCall.receive e = absurd (cc)
apart_from_caller exit _ e = refl

pub exits_keep : ExitsKeep
exits_keep = record {
  fresh = record { plain = refl; in_hand = refl; one = λ e. refl };
  calls = call_keeps;
  next = next_may;
  looks = λ exit phase. ap (λ (stage : TargetStage Value). record { before = 0; taken = arrived exit; stage = stage })
      (target_looks_kept exit.stage exit.hand phase);
  unseen = unseen_by_link;
  apart = apart_from_caller;
}
