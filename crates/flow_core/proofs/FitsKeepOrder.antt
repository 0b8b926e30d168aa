-- A move that fits keeps its link in order, where the link's phase allows it, and the mover has seen the phase to which it led.
use Rattle.std.proofs.Common.{◌≡◌, ◌⊎◌, ℕ, ◌<◌, true, Option, Some, None, is_some, refl, ap, sym, subst, ◌∙◌, ⊎_elim}
use Rattle.flow_value.specs.declared.value.Value.{Value}
use Rattle.flow_link.specs.declared.phase.Move.{Move}
use Rattle.flow_link.specs.declared.phase.Move.TheVariants as move
use Rattle.flow_link.specs.declared.phase.Phase.{Phase}
use Rattle.flow_link.specs.declared.phase.Phase.TheVariants.{Idle, Posted, Offered, Postponed, Wanted, Given, Opened, Asked, Held, Refused, Ended}
use Rattle.flow_link.specs.declared.stage.Refusal.{Refusal as Reason}
use Rattle.flow_link.specs.LinkOk.{LinkOk, StandAt, HasRoom}
use Rattle.flow_link.specs.Looks.{SourceHasSeen, TargetHasSeen}
use Rattle.flow_link.specs.LooksKeep.{OwnMovesAreSeen}
use Rattle.flow_link.specs.Moves.{source_at, target_at, offering, posting, giving, denying, holding, withdrawing, ending, wanting, turning_down, refusing, postponing, consuming, asking, claiming, releasing, opening, closing}
use Rattle.flow_link.specs.MovesKeep.{Keeps, SourceMovesKeep, TargetMovesKeep}
use Rattle.flow_link.specs.Phase.{phase_after}
use Rattle.flow_link.specs.Stage.{refusal_of}
use Rattle.flow_link.specs.Views.{SourceStage, TargetStage, Refusal, SourceView, TargetView, LinkFacts, crossed}
use Rattle.flow_link.proofs.LooksKeepOrder.{looks_keep}
use Rattle.flow_link.proofs.SourceMoves.{source_moves_keep}
use Rattle.flow_link.proofs.TargetMoves.{target_moves_keep}
use Rattle.flow_core.specs.Events.{slot_after}
use Rattle.flow_core.specs.MovesFit.{OutFits, GiveFits, InFits, RefuseFits, message_out, message_in, has_in_hand, closed_at, to_answer}
use Rattle.flow_core.specs.OneMove.{SourceMoved, TargetMoved}
use Rattle.flow_core.proofs.StagesFit.{to_fill_is, asked_is, may_deny_is, waiting_is, to_answer_is, offered_is, posted_is, postponed_is, may_refuse_is, holding_is, arrived_is}

sources_keep : SourceMovesKeep Value
sources_keep = source_moves_keep Value

targets_keep : TargetMovesKeep Value
targets_keep = target_moves_keep Value

own_moves : OwnMovesAreSeen Value
own_moves = (looks_keep Value).own_moves

-- Of the source

-- what is withdrawn waits
withdrawn_there : (phase new : Phase) (i : ℕ) (t : TargetStage Value) → StandAt phase (SourceStage.waiting i) t
    → phase_after phase move.Withdraw ≡ Some new → phase ≡ Postponed i
withdrawn_there (Postponed j) new i (TargetStage.postponed k) stands e = ap Postponed (sym stands.0)
withdrawn_there (Postponed j) new i _ stands e = absurd stands
withdrawn_there _ new i _ stands e = absurd (cc)

module _ (facts : LinkFacts) (phase new : Phase) (slot : Option Value) (target : TargetView Value) where
  -- a move that keeps the link in order leads to the phase that the table tells
  source_leads : (step : Move) (found : Phase) (laid : Option Value) (view after : SourceView Value) → after ≡ view
      → Keeps facts phase step found laid view target → phase_after phase step ≡ Some new → SourceHasSeen found view
      → SourceMoved facts new laid after target
  source_leads step found laid view after moved kept allowed seen =
      let same : found ≡ new = let both = sym kept.allowed ∙ allowed in cc in
      let goes : SourceMoved facts found laid view target = record { in_order = kept.in_order; seen = seen } in
      subst (λ (view : SourceView Value). SourceMoved facts new laid view target) (sym moved)
      (subst (λ (phase : Phase). SourceMoved facts phase laid view target) same goes)

  gives : (given : Option Value) (view after : SourceView Value) → GiveFits given view after → LinkOk facts phase slot view target
      → phase_after phase move.Give ≡ Some new → SourceMoved facts new given after target
  gives None view after fits ok allowed = absurd (let none = fits.there in cc)
  gives (Some value) view after fits ok allowed =
      let i = message_out view.stage in
      source_leads move.Give (Given i) (Some value) (giving i value view) after (fits.moved value refl)
      (sources_keep.give_at_once facts phase slot view target ok i value (to_fill_is view.stage fits.wanted)) allowed
      (own_moves.give i value view)

  pub source_moves : (given : Option Value) (next : Move) (view after : SourceView Value) → OutFits facts given next view after
      → LinkOk facts phase slot view target → phase_after phase next ≡ Some new
      → SourceMoved facts new (slot_after next given slot) after target
  source_moves given (move.Offer i) view after fits ok allowed =
      source_leads (move.Offer i) (Offered i) slot (offering i view) after fits.moved
      (sources_keep.offer facts phase slot view target ok i fits.free fits.rises fits.room) allowed (own_moves.offer i view)
  source_moves given move.Give view after fits ok allowed = gives given view after fits ok allowed
  source_moves given move.Hold view after fits ok allowed =
      let i = message_out view.stage in
      source_leads move.Hold (Held i) slot (holding i view) after fits.moved
      (sources_keep.hold facts phase slot view target ok i (asked_is view.stage fits.asked)) allowed (own_moves.hold i view)
  source_moves given move.Deny view after fits ok allowed =
      source_leads move.Deny Idle slot (denying view) after fits.moved
      (sources_keep.deny facts phase slot view target ok (message_out view.stage) (may_deny_is view.stage fits.wished)) allowed
      (own_moves.deny view)
  source_moves given move.Withdraw view after fits ok allowed =
      let i = message_out view.stage in
      let waits = waiting_is view.stage fits.waits in
      let stands = subst (λ (stage : SourceStage). StandAt phase stage target.stage) waits ok.stages in
      source_leads move.Withdraw Idle slot (withdrawing view) after fits.moved
      (sources_keep.withdraw facts phase slot view target ok i waits (withdrawn_there phase new i target.stage stands allowed)) allowed
      (own_moves.withdraw view)
  source_moves given (move.End how) view after fits ok allowed =
      source_leads (move.End how) (Ended how) slot (ending how view) after fits.moved
      (sources_keep.ends facts phase slot view target ok how fits.free fits.rule) allowed (own_moves.ends how view)
  source_moves given _ view after fits ok allowed = absurd fits

  -- to post asks of the link what an offer does
  pub post_moves : (i : ℕ) (view after : SourceView Value) → view.stage ≡ SourceStage.free → view.last < i
      → HasRoom facts.max (crossed view) → after ≡ posting i view → LinkOk facts phase slot view target
      → phase_after phase (move.Post i) ≡ Some new → SourceMoved facts new slot after target
  post_moves i view after free rises room moved ok allowed =
      source_leads (move.Post i) (Posted i) slot (posting i view) after moved
      (sources_keep.post facts phase slot view target ok i free rises room) allowed (own_moves.post i view)

-- Of the target

-- an offer that is consumed waits
consumed_there : (phase new : Phase) (i : ℕ) (s : SourceStage) → StandAt {V = Value} phase s (TargetStage.postponed i)
    → phase_after phase move.Consume ≡ Some new → phase ≡ Postponed i
consumed_there (Postponed j) new i (SourceStage.out k) stands e = ap Postponed (sym stands.1)
consumed_there (Postponed j) new i (SourceStage.waiting k) stands e = ap Postponed (sym stands.1)
consumed_there (Postponed j) new i (SourceStage.reserved k) stands e = ap Postponed (sym stands.1)
consumed_there (Postponed j) new i _ stands e = absurd stands
consumed_there _ new i _ stands e = absurd (cc)

-- one that is asked for waits, too
asked_there : (phase new : Phase) (i : ℕ) (s : SourceStage) → StandAt {V = Value} phase s (TargetStage.postponed i)
    → phase_after phase move.Ask ≡ Some new → phase ≡ Postponed i
asked_there (Postponed j) new i (SourceStage.out k) stands e = ap Postponed (sym stands.1)
asked_there (Postponed j) new i (SourceStage.waiting k) stands e = ap Postponed (sym stands.1)
asked_there (Postponed j) new i (SourceStage.reserved k) stands e = ap Postponed (sym stands.1)
asked_there (Postponed j) new i _ stands e = absurd stands
asked_there _ new i _ stands e = absurd (cc)

-- a target that stands at postponed refuses also what it has not seen yet
module _ (facts : LinkFacts) (slot : Option Value) (source : SourceView Value) (target : TargetView Value) where
  refused_there : (phase new : Phase) (s : SourceStage) (i : ℕ) (why : Refusal)
      → LinkOk facts phase slot (source_at s source) (target_at (TargetStage.postponed i) target)
      → phase_after phase move.Refuse ≡ Some new
      → Keeps facts phase move.Refuse Refused slot (source_at s source) (refusing why target)
  refused_there (Offered j) new (SourceStage.out k) i why ok e = assumption
  refused_there (Posted j) new (SourceStage.posted k) i why ok e = assumption
  refused_there (Postponed j) new (SourceStage.out k) i why ok e = assumption
  refused_there (Postponed j) new (SourceStage.waiting k) i why ok e = assumption
  refused_there (Postponed j) new (SourceStage.reserved k) i why ok e = assumption
  refused_there (Offered j) new _ i why ok e = absurd ok.stages
  refused_there (Posted j) new _ i why ok e = absurd ok.stages
  refused_there (Postponed j) new _ i why ok e = absurd ok.stages
  refused_there _ new _ i why ok e = absurd (cc)

module _ (facts : LinkFacts) (phase new : Phase) (slot : Option Value) (source : SourceView Value) where
  target_leads : (step : Move) (found : Phase) (laid : Option Value) (view after : TargetView Value) → after ≡ view
      → Keeps facts phase step found laid source view → phase_after phase step ≡ Some new → TargetHasSeen found view
      → TargetMoved facts new laid source after
  target_leads step found laid view after moved kept allowed seen =
      let same : found ≡ new = let both = sym kept.allowed ∙ allowed in cc in
      let goes : TargetMoved facts found laid source view = record { in_order = kept.in_order; seen = seen } in
      subst (λ (view : TargetView Value). TargetMoved facts new laid source view) (sym moved)
      (subst (λ (phase : Phase). TargetMoved facts phase laid source view) same goes)

  module _ (view after : TargetView Value) (ok : LinkOk facts phase slot source view) where
    waits_at : (i : ℕ) → view.stage ≡ TargetStage.postponed i → StandAt {V = Value} phase source.stage (TargetStage.postponed i)
    waits_at i is = subst (λ (stage : TargetStage Value). StandAt {V = Value} phase source.stage stage) is ok.stages

    refused : (why : Refusal) → phase_after phase move.Refuse ≡ Some new
        → (is_some (to_answer view.stage) ≡ true) ⊎ (view.stage ≡ TargetStage.postponed (message_in view.stage))
        → Keeps facts phase move.Refuse Refused slot source (refusing why view)
    refused why allowed stands =
        let i = message_in view.stage in
        ⊎_elim
        (λ offered. targets_keep.refuse facts phase slot source view ok i why (to_answer_is view.stage offered))
        (λ waits.
        refused_there facts slot source view phase new source.stage i why
        (subst (λ (stage : TargetStage Value). LinkOk facts phase slot source (target_at stage view)) waits ok) allowed)
        stands

    refuses : (why : Option Reason) → RefuseFits why view after → phase_after phase move.Refuse ≡ Some new
        → TargetMoved facts new slot source after
    refuses None fits allowed = absurd (let none = fits.refuses in cc)
    refuses (Some reason) fits allowed =
        let why = refusal_of reason in
        target_leads move.Refuse Refused slot (refusing why view) after (fits.moved reason refl)
        (refused why allowed (may_refuse_is view.stage fits.stands)) allowed (own_moves.refuse why view)

    closes : (stage : TargetStage Value) → view.stage ≡ stage → has_in_hand stage ≡ true → after ≡ closed_at stage view
        → phase_after phase move.Close ≡ Some new → TargetMoved facts new slot source after
    closes (TargetStage.hand i value) is held moved allowed =
        target_leads move.Close Idle slot (closing value view) after moved
        (targets_keep.close facts phase slot source view ok i value is) allowed (own_moves.close value view)
    closes _ is held moved allowed = absurd (cc)

  pub target_moves : (why : Option Reason) (given : Option Value) (next : Move) (view after : TargetView Value)
      → InFits facts why slot next view after → LinkOk facts phase slot source view → phase_after phase next ≡ Some new
      → TargetMoved facts new (slot_after next given slot) source after
  target_moves why given move.Want view after fits ok allowed =
      let i = message_in view.stage in
      target_leads move.Want (Wanted i) slot (wanting i view) after fits.moved
      (targets_keep.want facts phase slot source view ok i (to_answer_is view.stage fits.offered) fits.freely) allowed
      (own_moves.want i view)
  target_moves why given move.TurnDown view after fits ok allowed =
      target_leads move.TurnDown Idle slot (turning_down view) after fits.moved
      (targets_keep.turn_down facts phase slot source view ok (message_in view.stage) (posted_is view.stage fits.posted)) allowed
      (own_moves.turn_down view)
  target_moves why given move.Postpone view after fits ok allowed =
      let i = message_in view.stage in
      target_leads move.Postpone (Postponed i) slot (postponing i view) after fits.moved
      (targets_keep.postpone facts phase slot source view ok i (offered_is view.stage fits.offered) fits.may.not_steady
      fits.may.not_the_first) allowed (own_moves.postpone i view)
  target_moves why given move.Refuse view after fits ok allowed = refuses view after ok why fits allowed
  target_moves why given move.Consume view after fits ok allowed =
      let i = message_in view.stage in
      let is = postponed_is view.stage fits.postponed in
      let found = consumed_there phase new i source.stage (waits_at view after ok i is) allowed in
      target_leads move.Consume (Wanted i) slot (consuming i view) after fits.moved
      (targets_keep.consume facts phase slot source view ok i is found fits.freely) allowed (own_moves.consume i view)
  target_moves why given move.Ask view after fits ok allowed =
      let i = message_in view.stage in
      let is = postponed_is view.stage fits.postponed in
      let found = asked_there phase new i source.stage (waits_at view after ok i is) allowed in
      target_leads move.Ask (Asked i) slot (asking i view) after fits.moved
      (targets_keep.ask facts phase slot source view ok i is found fits.reserves) allowed (own_moves.ask i view)
  target_moves why given move.Claim view after fits ok allowed =
      let i = message_in view.stage in
      target_leads move.Claim (Wanted i) slot (claiming i view) after fits.moved
      (targets_keep.claim facts phase slot source view ok i (holding_is view.stage fits.held)) allowed (own_moves.claim i view)
  target_moves why given move.Release view after fits ok allowed =
      let i = message_in view.stage in
      target_leads move.Release (Postponed i) slot (releasing i view) after fits.moved
      (targets_keep.release facts phase slot source view ok i (holding_is view.stage fits.held)) allowed (own_moves.release i view)
  target_moves why given move.Open view after fits ok allowed =
      let i = message_in view.stage in
      let opens = targets_keep.«open» facts phase slot source view ok i (arrived_is view.stage fits.arrived) in
      target_leads move.Open (Opened i) None (opening i opens.value view) after (fits.moved opens.value opens.in_slot) opens.keeps
      allowed (own_moves.«open» i opens.value view)
  target_moves why given move.Close view after fits ok allowed = closes view after ok view.stage refl fits.in_hand fits.moved allowed
  target_moves why given _ view after fits ok allowed = absurd fits
