-- A link in order stays so when both ends begin to count later.
use Rattle.std.proofs.Common.{◌≡◌, ℕ, ◌+◌, add_assoc, List, [], ◌∷◌, ◌++◌, length, length-append, append_assoc, Option, Some, None, ap, sym, subst, ◌∙◌, arith}
use Rattle.std.proofs.lemmas.List.{append_cancel_left}
use Rattle.flow_link.specs.declared.phase.Phase.{Phase}
use Rattle.flow_link.specs.declared.phase.Phase.TheVariants.{Given, Opened}
use Rattle.flow_link.specs.Views.{TargetStage}
use Rattle.flow_link.specs.LinkOk.{IsHome, IsInSlot, InHandAt, CrossedAt, AsPlanned}
use Rattle.flow_law.specs.Rebase.{Rebases}

module _ {V : Type 0} (front given taken : List V) where
  longer_home : (slot : Option V) → IsHome slot given taken → IsHome slot (front ++ given) (front ++ taken)
  longer_home slot home = record { empty = home.empty; all = ap (λ values. front ++ values) home.all }

  shorter_home : (slot : Option V) → IsHome slot (front ++ given) (front ++ taken) → IsHome slot given taken
  shorter_home slot home = record { empty = home.empty; all = append_cancel_left front given taken home.all }

  -- the value under way stands behind the front
  longer : (value : V) → given ≡ taken ++ value ∷ [] → front ++ given ≡ (front ++ taken) ++ value ∷ []
  longer value e = rw append_assoc (ap (λ values. front ++ values) e)

  shorter : (value : V) → front ++ given ≡ (front ++ taken) ++ value ∷ [] → given ≡ taken ++ value ∷ []
  shorter value e = append_cancel_left front given (taken ++ value ∷ []) (rw append_assoc at e)

  longer_slot : (slot : Option V) → IsInSlot slot given taken → IsInSlot slot (front ++ given) (front ++ taken)
  longer_slot (Some value) e = longer value e
  longer_slot None e = e

  shorter_slot : (slot : Option V) → IsInSlot slot (front ++ given) (front ++ taken) → IsInSlot slot given taken
  shorter_slot (Some value) e = shorter value e
  shorter_slot None e = e

  longer_hand : (t : TargetStage V) (slot : Option V) → InHandAt t slot given taken → InHandAt t slot (front ++ given) (front ++ taken)
  longer_hand (TargetStage.hand i value) slot h = record { empty = h.empty; all_but_one = longer value h.all_but_one }
  longer_hand _ slot h = h

  shorter_hand : (t : TargetStage V) (slot : Option V) → InHandAt t slot (front ++ given) (front ++ taken) → InHandAt t slot given taken
  shorter_hand (TargetStage.hand i value) slot h = record { empty = h.empty; all_but_one = shorter value h.all_but_one }
  shorter_hand _ slot h = h

  longer_crossed : (phase : Phase) (t : TargetStage V) (slot : Option V) → CrossedAt phase t slot given taken → CrossedAt phase t slot (front ++ given) (front ++ taken)
  longer_crossed (Given i) t slot h = longer_slot slot h
  longer_crossed (Opened i) t slot h = longer_hand t slot h
  longer_crossed _ t slot h = longer_home slot h

  shorter_crossed : (phase : Phase) (t : TargetStage V) (slot : Option V) → CrossedAt phase t slot (front ++ given) (front ++ taken) → CrossedAt phase t slot given taken
  shorter_crossed (Given i) t slot h = shorter_slot slot h
  shorter_crossed (Opened i) t slot h = shorter_hand t slot h
  shorter_crossed _ t slot h = shorter_home slot h

  same_count : (before : ℕ) → before + length (front ++ given) ≡ before + length front + length given
  same_count before = ap (λ count. before + count) (length-append front given) ∙ sym (add_assoc before (length front) (length given))

pub rebases : (V : Type 0) → Rebases V
rebases V facts phase slot source target front = (
  λ ok. record {
    same_start = ap (λ n. n + length front) ok.same_start;
    stages = ok.stages;
    ids = ok.ids;
    values = shorter_crossed front source.given target.taken phase target.stage slot ok.values;
    plan = subst (λ count. AsPlanned facts count phase source.stage target.stage) (same_count front source.given target.taken source.before) ok.plan;
  },
  λ ok. record {
    same_start = omega arith;
    stages = ok.stages;
    ids = ok.ids;
    values = longer_crossed front source.given target.taken phase target.stage slot ok.values;
    plan = subst (λ count. AsPlanned facts count phase source.stage target.stage) (sym (same_count front source.given target.taken source.before)) ok.plan;
  },
)
