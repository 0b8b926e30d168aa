-- A move that fits is one that an end may make on its wire, and leads to what the end knows then.
use Rattle.std.proofs.Common.{◌≡◌, ℕ, ◌||◌, Bool, true, Option, Some, None, is_some, refl, sym, ap, ◌∙◌}
use Rattle.std.specs.Coded.{le_prop, Coded-set, codes}
use Rattle.std.proofs.Math.Bool.{Bool-set}
use Rattle.std.proofs.Math.Nat.{ℕ_set}
use mathlib.Core.Sum.{⊎_set}
use Rattle.flow_value.specs.declared.value.Value.{Value}
use Rattle.flow_value.specs.contracts.value.Value as content
use Rattle.flow_link.specs.declared.phase.LinkEnd.{LinkEnd}
use Rattle.flow_link.specs.declared.phase.LinkEnd.TheVariants as link_end
use Rattle.flow_link.specs.declared.phase.Move.{Move}
use Rattle.flow_link.specs.declared.phase.Move.TheVariants as move
use Rattle.flow_link.specs.declared.stage.Refusal.{Refusal}
use Rattle.flow_link.specs.declared.stage.SourceStage.{SourceStage as SourceKept}
use Rattle.flow_link.specs.declared.stage.SourceStage.TheVariants as source
use Rattle.flow_link.specs.declared.stage.TargetStage.{TargetStage as TargetKept}
use Rattle.flow_link.specs.declared.stage.TargetStage.TheVariants as target
use Rattle.flow_link.specs.LinkOk.{HasRoom, MayEnd}
use Rattle.flow_link.specs.Stage.{source_stage_of, target_stage_of}
use Rattle.flow_link.specs.Views.{SourceStage, TargetStage, SourceView, TargetView, LinkFacts, crossed}
use Rattle.flow_outlet.specs.End.{id_of}
use Rattle.flow_moves.specs.Calls.{handed}
use Rattle.flow_core.specs.MovesFit.{OutFits, InFits, message_out, is_to_fill, is_asked, is_waiting, message_in, to_answer, is_offered, is_postponed as is_put_off, may_refuse, is_holding, has_arrived}
use Rattle.flow_task.specs.Words.{MayMoveOut, MayMoveIn, moved_out, moved_in, header_of, may_be_forestalled, is_late, opens}

-- Of a source

-- a stage that speaks of a message, and is about to give it, hold it or take it back
abbrev speaks : SourceStage → Bool
speaks stage = is_to_fill stage || is_asked stage || is_waiting stage

header_is : (stage : SourceKept) → speaks (source_stage_of stage) ≡ true → id_of stage ≡ Some (message_out (source_stage_of stage))
header_is (source.Accepted i) e = refl
header_is (source.Wished i) e = refl
header_is (source.Claimed i) e = refl
header_is (source.AskedBy i) e = refl
header_is (source.Waiting i) e = refl
header_is _ e = absurd (cc)

gives_speaks : (stage : SourceStage) → is_to_fill stage ≡ true → speaks stage ≡ true
gives_speaks stage e = ap (λ (so : Bool). so || is_asked stage || is_waiting stage) e

holds_speaks : (stage : SourceStage) → is_asked stage ≡ true → speaks stage ≡ true
holds_speaks (SourceStage.asked_by i) e = refl
holds_speaks _ e = absurd (cc)

waits_speaks : (stage : SourceStage) → is_waiting stage ≡ true → speaks stage ≡ true
waits_speaks (SourceStage.waiting i) e = refl
waits_speaks _ e = absurd (cc)

module _ (facts : LinkFacts) (given : Option Value) (view after : SourceView Value) where
  given_moved : (value : Option Value) → is_some value ≡ true
      → ((v : Value) → value ≡ Some v → after ≡ moved_out move.Give (Some v) view) → after ≡ moved_out move.Give value view
  given_moved (Some v) there told = told v refl
  given_moved None there told = absurd (cc)

  -- what the end knows then
  pub out_moved : (next : Move) → OutFits facts given next view after → after ≡ moved_out next (handed next given) view
  out_moved (move.Offer i) fits = fits.moved
  out_moved move.Give fits = given_moved given fits.there fits.moved
  out_moved move.Hold fits = fits.moved
  out_moved move.Deny fits = fits.moved
  out_moved move.Withdraw fits = fits.moved
  out_moved (move.End how) fits = fits.moved
  out_moved _ fits = absurd fits

  -- and that it may do so on its wire, where it tells the header of its message by its stage
  module _ (stage : SourceKept) (stands : view.stage ≡ source_stage_of stage) where
    its : speaks view.stage ≡ true → id_of stage ≡ Some (message_out view.stage)
    its e =
        header_is stage (sym (ap speaks stands) ∙ e) ∙ ap (λ (s : SourceStage). Some (message_out s)) (sym stands)

    pub out_may : (next : Move) → OutFits facts given next view after → MayMoveOut next (id_of stage) (handed next given) facts view
    out_may (move.Offer i) fits = record { free = fits.free; rises = fits.rises; room = fits.room }
    out_may move.Give fits = record {
      wanted = fits.wanted;
      its = its (gives_speaks view.stage fits.wanted);
      there = fits.there;
    }
    out_may move.Hold fits = record { asked = fits.asked; its = its (holds_speaks view.stage fits.asked) }
    out_may move.Deny fits = fits.wished
    out_may move.Withdraw fits = record { waits = fits.waits; its = its (waits_speaks view.stage fits.waits) }
    out_may (move.End how) fits = (fits.free, fits.rule)
    out_may _ fits = absurd fits

-- Of a target

abbrev speaks_in : TargetStage Value → Bool
speaks_in stage = may_refuse stage || is_holding stage || has_arrived stage

header_there : (stage : TargetKept) (hand : Option Value) → speaks_in (target_stage_of stage hand) ≡ true
    → header_of stage ≡ Some (message_in (target_stage_of stage hand))
header_there (target.Offered i) hand e = refl
header_there (target.Posted i) hand e = refl
header_there (target.Postponed i) hand e = refl
header_there (target.Holding i) hand e = refl
header_there (target.Arrived i) hand e = refl
header_there _ hand e = absurd (cc)

answers_speaks : (stage : TargetStage Value) → is_some (to_answer stage) ≡ true → speaks_in stage ≡ true
answers_speaks (TargetStage.offered i) e = refl
answers_speaks (TargetStage.posted i) e = refl
answers_speaks _ e = absurd (cc)

offered_speaks : (stage : TargetStage Value) → is_offered stage ≡ true → speaks_in stage ≡ true
offered_speaks (TargetStage.offered i) e = refl
offered_speaks _ e = absurd (cc)

refuses_speaks : (stage : TargetStage Value) → may_refuse stage ≡ true → speaks_in stage ≡ true
refuses_speaks stage e = ap (λ (so : Bool). so || is_holding stage || has_arrived stage) e

put_off_speaks : (stage : TargetStage Value) → is_put_off stage ≡ true → speaks_in stage ≡ true
put_off_speaks (TargetStage.postponed i) e = refl
put_off_speaks _ e = absurd (cc)

held_speaks : (stage : TargetStage Value) → is_holding stage ≡ true → speaks_in stage ≡ true
held_speaks (TargetStage.holding i) e = refl
held_speaks _ e = absurd (cc)

arrived_speaks : (stage : TargetStage Value) → has_arrived stage ≡ true → speaks_in stage ≡ true
arrived_speaks (TargetStage.arrived i) e = refl
arrived_speaks _ e = absurd (cc)

-- whether the source may forestall a move is told by the program's stage as by the model's
pub late_alike : (next : Move) (stage : TargetKept) (hand : Option Value)
    → is_late next (target_stage_of stage hand) ≡ may_be_forestalled next stage
late_alike move.Refuse target.Free hand = refl
late_alike move.Refuse (target.Offered i) hand = refl
late_alike move.Refuse _ hand = refl
late_alike move.Consume stage hand = refl
late_alike move.Ask stage hand = refl
late_alike _ stage hand = refl

module _ (facts : LinkFacts) (refusing : Option Refusal) (slot : Option Value) (view after : TargetView Value) where
  refused_moved : (why : Option Refusal) → is_some why ≡ true
      → ((refusal : Refusal) → why ≡ Some refusal → after ≡ moved_in move.Refuse (Some refusal) slot view)
      → after ≡ moved_in move.Refuse why slot view
  refused_moved (Some refusal) there told = told refusal refl
  refused_moved None there told = absurd (cc)

  opened_moved : (found : Option Value) → is_some found ≡ true
      → ((value : Value) → found ≡ Some value → after ≡ moved_in move.Open refusing (Some value) view)
      → after ≡ moved_in move.Open refusing found view
  opened_moved (Some value) there told = told value refl
  opened_moved None there told = absurd (cc)

  pub in_moved : (next : Move) → (opens next ≡ true → is_some slot ≡ true) → InFits facts refusing slot next view after
      → after ≡ moved_in next refusing slot view
  in_moved move.Want full fits = fits.moved
  in_moved move.TurnDown full fits = fits.moved
  in_moved move.Postpone full fits = fits.moved
  in_moved move.Refuse full fits = refused_moved refusing fits.refuses fits.moved
  in_moved move.Consume full fits = fits.moved
  in_moved move.Ask full fits = fits.moved
  in_moved move.Claim full fits = fits.moved
  in_moved move.Release full fits = fits.moved
  in_moved move.Open full fits = opened_moved slot (full refl) fits.moved
  in_moved move.Close full fits = fits.moved
  in_moved _ full fits = absurd fits

  module _ (stage : TargetKept) (hand : Option Value) (stands : view.stage ≡ target_stage_of stage hand) where
    its_in : speaks_in view.stage ≡ true → header_of stage ≡ Some (message_in view.stage)
    its_in e =
        header_there stage hand (sym (ap speaks_in stands) ∙ e) ∙ ap (λ (s : TargetStage Value). Some (message_in s)) (sym stands)

    pub in_may : (next : Move) → InFits facts refusing slot next view after → MayMoveIn next (header_of stage) refusing facts view
    in_may move.Want fits =
        record { offered = fits.offered; freely = fits.freely; its = its_in (answers_speaks view.stage fits.offered) }
    in_may move.TurnDown fits = fits.posted
    in_may move.Postpone fits =
        record { offered = fits.offered; may = fits.may; its = its_in (offered_speaks view.stage fits.offered) }
    in_may move.Refuse fits =
        record { stands = fits.stands; refuses = fits.refuses; its = its_in (refuses_speaks view.stage fits.stands) }
    in_may move.Consume fits =
        (record { stands = fits.postponed; its = its_in (put_off_speaks view.stage fits.postponed) }, fits.freely)
    in_may move.Ask fits =
        (record { stands = fits.postponed; its = its_in (put_off_speaks view.stage fits.postponed) }, fits.reserves)
    in_may move.Claim fits = record { stands = fits.held; its = its_in (held_speaks view.stage fits.held) }
    in_may move.Release fits = record { stands = fits.held; its = its_in (held_speaks view.stage fits.held) }
    in_may move.Open fits = record { stands = fits.arrived; its = its_in (arrived_speaks view.stage fits.arrived) }
    in_may move.Close fits = fits.in_hand
    in_may _ fits = absurd fits

-- What a move asks has one proof at most

pub room_prop : (max : Option ℕ) (count : ℕ) → IsProp (HasRoom max count)
room_prop None count = hlevel
room_prop (Some max) count = le_prop

Stages-set : IsSet SourceStage
Stages-set = Coded-set (Prim.hlevel (codes, content.the_row.coded))

Some-set : IsSet (Option ℕ)
Some-set = hlevel (ℕ_set, ⊎_set)

pub end_prop : (facts : LinkFacts) (count : ℕ) (how : LinkEnd) → IsProp (MayEnd facts count how)
end_prop facts count link_end.Plain = hlevel Some-set
end_prop facts count link_end.Complete = let room = room_prop facts.max count in hlevel Bool-set
end_prop facts count (link_end.Fault number) = let room = room_prop facts.max count in hlevel (Bool-set, le_prop)

pub out_prop : (next : Move) (header : Option ℕ) (given : Option Value) (facts : LinkFacts) (view : SourceView Value)
    → IsProp (MayMoveOut next header given facts view)
out_prop (move.Offer i) header given facts view = let room = room_prop facts.max (crossed view) in hlevel (le_prop, Stages-set)
out_prop move.Give header given facts view = hlevel (Bool-set, Some-set)
out_prop move.Hold header given facts view = hlevel (Bool-set, Some-set)
out_prop move.Deny header given facts view = Bool-set _ _
out_prop move.Withdraw header given facts view = hlevel (Bool-set, Some-set)
out_prop (move.End how) header given facts view = let rule = end_prop facts (crossed view) how in hlevel Stages-set
out_prop _ header given facts view = hlevel

pub in_prop : (next : Move) (header : Option ℕ) (why : Option Refusal) (facts : LinkFacts) (view : TargetView Value)
    → IsProp (MayMoveIn next header why facts view)
in_prop move.Want header why facts view = hlevel (Bool-set, Some-set)
in_prop move.TurnDown header why facts view = Bool-set _ _
in_prop move.Postpone header why facts view = hlevel (Bool-set, Some-set, le_prop)
in_prop move.Refuse header why facts view = hlevel (Bool-set, Some-set)
in_prop move.Consume header why facts view = hlevel (Bool-set, Some-set)
in_prop move.Ask header why facts view = hlevel (Bool-set, Some-set)
in_prop move.Claim header why facts view = hlevel (Bool-set, Some-set)
in_prop move.Release header why facts view = hlevel (Bool-set, Some-set)
in_prop move.Open header why facts view = hlevel (Bool-set, Some-set)
in_prop move.Close header why facts view = Bool-set _ _
in_prop _ header why facts view = hlevel
