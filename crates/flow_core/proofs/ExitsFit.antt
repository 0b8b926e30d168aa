-- The next move of the end of a link that leads out of the network fits the link.
use Rattle.std.proofs.Common.{◌≡◌, ℕ, true, List, ◌++◌, ◌∷◌, [], Option, Some, None, option_to_list, is_some, refl, ap, sym, ◌∙◌}
use Rattle.std.proofs.lemmas.List.{append-nil}
use Rattle.flow_value.specs.declared.value.Value.{Value}
use Rattle.flow_link.specs.declared.phase.Move.{Move}
use Rattle.flow_link.specs.declared.phase.Move.TheVariants as move
use Rattle.flow_link.specs.declared.stage.TargetStage.{TargetStage as TargetKept}
use Rattle.flow_link.specs.declared.stage.TargetStage.TheVariants.{Hand}
use Rattle.flow_link.specs.Moves.{wanting, postponing, consuming, opening}
use Rattle.flow_link.specs.Stage.{in_hand}
use Rattle.flow_link.specs.Views.{TargetView, TargetStage, LinkFacts}
use Rattle.flow_intake.specs.Calls.{message_of}
use Rattle.flow_intake.specs.Port.{is_hand}
use Rattle.flow_exit.specs.Exit.{ExitState, ExitCall, exit_view, exit_call, exit_after}
use Rattle.flow_exit.specs.ExitKeeps.{ExitLaw, ExitsKeep, MayMoveExit, comes}
use Rattle.flow_core.specs.MovesFit.{InFits, ExitsFit, IsOutward, message_in, closed_at}
use Rattle.flow_core.proofs.StagesFit.{message_kept, offer_kept, offered_kept, posted_kept, postponed_kept, arrived_kept, hand_kept}
use Rattle.flow_core.proofs.TargetsFit.{closed_is}

-- a message in hand comes in
comes_in_hand : (stage : TargetKept) → is_hand stage ≡ true → comes stage ≡ true
comes_in_hand (Hand i) e = refl
comes_in_hand _ e = absurd (cc)

module _ (facts : LinkFacts) (outward : IsOutward facts) (exit : ExitState) (law : ExitLaw exit) (slot : Option Value) where
  abbrev view : TargetView Value
  view = exit_view exit

  message : message_of exit.stage ≡ message_in view.stage
  message = message_kept exit.hand exit.stage

  -- what was in hand is kept, and counts as taken
  closes : is_hand exit.stage ≡ true → (found : Option Value) → exit.hand ≡ found → is_some found ≡ true → exit.kept ≡ None
      → exit_view (exit_after (Some ExitCall.close) exit) ≡ closed_at view.stage view
  closes hand None is there none = absurd (cc)
  closes hand (Some value) is there none =
      let all : exit.received ++ option_to_list exit.hand ≡ (exit.received ++ option_to_list exit.kept) ++ value ∷ [] =
      rw (is, none, append-nil exit.received) refl in
      ap (λ (all : List Value). record { before = 0; taken = all; stage = TargetStage.free }) all
      ∙ closed_is exit.stage exit.hand view value hand is

  fits : (next : Move) → MayMoveExit exit next → InFits facts None slot next view (exit_view (exit_after (exit_call slot next) exit))
  fits move.Want may = record {
    offered = offer_kept exit.hand exit.stage may.there;
    freely = outward.freely;
    moved = ap (λ (i : ℕ). wanting i view) message;
  }
  fits move.TurnDown may = record {
    posted = posted_kept exit.hand exit.stage may;
    moved = refl;
  }
  fits move.Postpone may = record {
    offered = offered_kept exit.hand exit.stage may;
    may = record {
      not_steady = outward.not_steady;
      not_the_first = λ sole. absurd (let both = sym sole ∙ outward.not_sole in cc);
    };
    moved = ap (λ (i : ℕ). postponing i view) message;
  }
  fits move.Consume may = record {
    postponed = postponed_kept exit.hand exit.stage may.there;
    freely = outward.freely;
    moved = ap (λ (i : ℕ). consuming i view) message;
  }
  fits move.Open may =
      let after : Option Value → TargetView Value = λ laid. exit_view (exit_after (exit_call laid move.Open) exit) in
      record {
        arrived = arrived_kept exit.hand exit.stage (may (in_hand slot));
        moved = λ value is. ap after is ∙ ap (λ (i : ℕ). opening i value view) message;
      }
  fits move.Close may = record {
    in_hand = hand_kept exit.hand exit.stage may;
    moved = closes may exit.hand refl (law.in_hand ∙ may) (law.one (comes_in_hand exit.stage may));
  }
  fits _ may = absurd may

pub exits_fit : ExitsKeep → ExitsFit
exits_fit keep facts outward exit law slot next peek = fits facts outward exit law slot next (keep.next exit next peek)
