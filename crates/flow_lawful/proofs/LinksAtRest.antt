-- Where no end has a move, each link is at rest; and what its two ends know of it then.
use Rattle.std.proofs.Common.{◌≡◌, ℕ, zero, suc, ◌+◌, ◌<◌, ⊎_elim, Bool, true, false, ◌&&◌, List, length, Option, refl, ap, arith}
use Rattle.std.proofs.lemmas.Bool.{and_parts, false_from_ne_true}
use Rattle.flow_value.specs.declared.value.Value.{Value}
use Rattle.flow_link.specs.declared.phase.LinkEnd.TheVariants.{Plain, Complete as end_complete, Fault as end_fault}
use Rattle.flow_link.specs.declared.phase.Phase.{Phase}
use Rattle.flow_link.specs.declared.phase.Phase.TheVariants.{Idle, Posted, Offered, Postponed, Wanted, Given, Opened, Asked, Held, Refused, Ended}
use Rattle.flow_link.specs.declared.plan.LinkSource.{LinkSource}
use Rattle.flow_link.specs.declared.plan.LinkSource.TheVariants.{Block, Input}
use Rattle.flow_link.specs.declared.plan.LinkTarget.{LinkTarget}
use Rattle.flow_link.specs.declared.plan.LinkTarget.TheVariants.{Port, Exit}
use Rattle.flow_link.specs.Lists.{some, numbers_from, below}
use Rattle.flow_link.specs.LinkOk.{CrossedAt}
use Rattle.flow_link.specs.LooksKeep.{SeenAt}
use Rattle.flow_link.specs.Plan.{begins_at, ends_at}
use Rattle.flow_link.specs.Trace.{Run, link_of}
use Rattle.flow_link.specs.Views.{SourceStage, TargetStage, Refusal}
use Rattle.flow_lawful.specs.Composes.{Ends, PartsKeep, facts_of}
use Rattle.flow_lawful.specs.RestsByParts.{LinksRest, EndsAreStill, LinkSeen, has_offer_out, asks_somewhere, is_at_rest, is_over, is_to_hand_over, is_wished_for, is_out, is_postponed, is_asking, is_holding, is_to_receive, has_seen_end}
use Rattle.flow_link.proofs.LooksKeepOrder.{looks_keep}
use Rattle.flow_link.proofs.ListTests.{never_both}

nowhere_from : (test : ℕ → Bool) (first count : ℕ) → ((k : ℕ) → k < first + count → test k ≡ true → ⊥)
    → some test (numbers_from first count) ≡ false
nowhere_from test first zero h = refl
nowhere_from test first (suc count) h =
    rw (false_from_ne_true (test first) (h first (omega arith)))
    (nowhere_from test (suc first) count (λ k small. h k (omega arith)))

-- no number below a bound passes a test that none can pass
pub nowhere : (test : ℕ → Bool) (count : ℕ) → ((k : ℕ) → k < count → test k ≡ true → ⊥) → some test (below count) ≡ false
nowhere test count h = nowhere_from test 0 count (λ k small. h k (omega arith))

-- an offer that is out lies before its target
out_is_offered : (phase : Phase) (s : SourceStage) (t : TargetStage Value) → SeenAt phase s t → is_out s ≡ true → is_to_receive t ≡ true
out_is_offered (Offered i) s t h e = ap is_to_receive h.1
out_is_offered Idle s t h e = never_both (is_out s) e (ap is_out h.0)
out_is_offered (Posted i) s t h e = never_both (is_out s) e (ap is_out h.0)
out_is_offered (Postponed i) s t h e = never_both (is_out s) e (ap is_out h.0)
out_is_offered (Wanted i) s t h e =
    ⊎_elim (λ is. never_both (is_out s) e (ap is_out is))
    (λ rest. ⊎_elim (λ is. never_both (is_out s) e (ap is_out is))
    (λ rest. ⊎_elim (λ is. never_both (is_out s) e (ap is_out is)) (λ is. never_both (is_out s) e (ap is_out is)) rest) rest) h.0
out_is_offered (Given i) s t h e = never_both (is_out s) e (ap is_out h.0)
out_is_offered (Opened i) s t h e = never_both (is_out s) e (ap is_out h.0)
out_is_offered (Asked i) s t h e = never_both (is_out s) e (ap is_out h.0)
out_is_offered (Held i) s t h e = never_both (is_out s) e (ap is_out h.0)
out_is_offered Refused s t h e = never_both (is_out s) e (ap is_out h.0)
out_is_offered (Ended how) s t h e = never_both (is_out s) e (ap is_out h.0)

-- what a target asks for is a wish before the source
asking_is_wished : (phase : Phase) (s : SourceStage) (t : TargetStage Value) → SeenAt phase s t
    → is_asking t ≡ true → is_wished_for s ≡ true
asking_is_wished (Asked i) s t h e = ap is_wished_for h.0
asking_is_wished Idle s t h e = never_both (is_asking t) e (ap is_asking h.1)
asking_is_wished (Posted i) s t h e = never_both (is_asking t) e (ap is_asking h.1)
asking_is_wished (Offered i) s t h e = never_both (is_asking t) e (ap is_asking h.1)
asking_is_wished (Postponed i) s t h e = never_both (is_asking t) e (ap is_asking h.1)
asking_is_wished (Wanted i) s t h e =
    ⊎_elim (λ is. never_both (is_asking t) e (ap is_asking is))
    (λ rest. ⊎_elim (λ is. never_both (is_asking t) e (ap is_asking is)) (λ is. never_both (is_asking t) e (ap is_asking is)) rest) h.1
asking_is_wished (Given i) s t h e = never_both (is_asking t) e (ap is_asking h.1)
asking_is_wished (Opened i) s t h e = never_both (is_asking t) e (ap is_asking h.1.1)
asking_is_wished (Held i) s t h e = never_both (is_asking t) e (ap is_asking h.1)
asking_is_wished Refused s t h e = never_both (is_asking t) e (ap is_asking h.1.1)
asking_is_wished (Ended how) s t h e = never_both (is_asking t) e (ap is_asking h.1)

-- the phase of a link at whose ends there is nothing to do
phase_rests : (phase : Phase) (s : SourceStage) (t : TargetStage Value) → SeenAt phase s t
    → is_to_hand_over s ≡ false → is_wished_for s ≡ false → is_to_receive t ≡ false → is_holding t ≡ false
    → is_at_rest phase ≡ true
phase_rests (Posted i) s t h gives answers receives claims = never_both (is_to_receive t) (ap is_to_receive h.1) receives
phase_rests (Offered i) s t h gives answers receives claims = never_both (is_to_receive t) (ap is_to_receive h.1) receives
phase_rests (Wanted i) s t h gives answers receives claims =
    ⊎_elim (λ is. never_both (is_to_hand_over s) (ap is_to_hand_over is) gives)
    (λ rest. ⊎_elim (λ is. never_both (is_wished_for s) (ap is_wished_for is) answers)
    (λ rest. ⊎_elim (λ is. never_both (is_to_hand_over s) (ap is_to_hand_over is) gives)
    (λ is. never_both (is_to_hand_over s) (ap is_to_hand_over is) gives) rest) rest) h.0
phase_rests (Given i) s t h gives answers receives claims = never_both (is_to_receive t) (ap is_to_receive h.1) receives
phase_rests (Opened i) s t h gives answers receives claims = never_both (is_to_receive t) (ap is_to_receive h.1.1) receives
phase_rests (Asked i) s t h gives answers receives claims = never_both (is_wished_for s) (ap is_wished_for h.0) answers
phase_rests (Held i) s t h gives answers receives claims = never_both (is_holding t) (ap is_holding h.1) claims
phase_rests _ s t h gives answers receives claims = refl

-- at rest all that was given was taken
pub home_at_rest : {V : Type 0} (phase : Phase) (t : TargetStage V) (slot : Option V) (given taken : List V)
    → is_at_rest phase ≡ true → CrossedAt phase t slot given taken → given ≡ taken
home_at_rest Idle t slot given taken e h = h.all
home_at_rest (Postponed i) t slot given taken e h = h.all
home_at_rest Refused t slot given taken e h = h.all
home_at_rest (Ended how) t slot given taken e h = h.all
home_at_rest _ t slot given taken e h = absurd (cc)

-- where the source is done with a link, its target refused it or knows how it ended
pub over_tells : (P : Type 0) (phase : Phase) (s : SourceStage) (t : TargetStage Value) → is_at_rest phase ≡ true → SeenAt phase s t → is_over s ≡ true
    → ((why : Refusal) → t ≡ TargetStage.refused why → P) → (has_seen_end t ≡ true → P) → (t ≡ TargetStage.ended Plain → P) → P
over_tells P Idle s t e h over refused seen plain = never_both (is_over s) over (ap is_over h.0)
over_tells P (Postponed i) s t e h over refused seen plain = never_both (is_over s) over (ap is_over h.0)
over_tells P Refused s t e h over refused seen plain = refused h.1.0 h.1.1
over_tells P (Ended Plain) s t e h over refused seen plain = plain h.1
over_tells P (Ended end_complete) s t e h over refused seen plain = seen (ap has_seen_end h.1)
over_tells P (Ended (end_fault number)) s t e h over refused seen plain = seen (ap has_seen_end h.1)
over_tells P _ s t e h over refused seen plain = absurd (cc)

-- where the source is not done with a link and is not free, its message waits at the target
pub waits_unless : (phase : Phase) (s : SourceStage) (t : TargetStage Value) → is_at_rest phase ≡ true → SeenAt phase s t
    → (s ≡ SourceStage.free → ⊥) → (is_over s ≡ true → ⊥) → is_postponed t ≡ true
waits_unless Idle s t e h free over = absurd (free h.0)
waits_unless (Postponed i) s t e h free over = ap is_postponed h.1
waits_unless Refused s t e h free over = absurd (over (ap is_over h.0))
waits_unless (Ended how) s t e h free over = absurd (over (ap is_over h.0))
waits_unless _ s t e h free over = absurd (cc)

module _ {W : Type 0} (run : Run W) (ends : ℕ → Ends) (keep : PartsKeep run ends) where
  -- the stages of a link that both its ends have seen
  pub stages_at : (l : ℕ) → l < length run.layout.links → LinkSeen run ends l
      → SeenAt (ends l).phase (ends l).source.stage (ends l).target.stage
  stages_at l small seen =
      (looks_keep Value).seen_tells (facts_of run ends l) (ends l).phase (ends l).slot (ends l).source (ends l).target (keep.links l small) seen

  module _ (still : EndsAreStill run ends) where
    stages : (l : ℕ) → l < length run.layout.links → SeenAt (ends l).phase (ends l).source.stage (ends l).target.stage
    stages l small = stages_at l small (still.seen l small)

    receives : (l : ℕ) (t : LinkTarget) → l < length run.layout.links → (link_of run l).target ≡ t
        → is_to_receive (ends l).target.stage ≡ false
    receives l (Port b p) small et = (still.nodes b (keep.to_blocks l b p small et)).receives l p small et
    receives l Exit small et = (still.exits l small et).receives

    gives : (l : ℕ) (s : LinkSource) → l < length run.layout.links → (link_of run l).source ≡ s
        → is_to_hand_over (ends l).source.stage ≡ false
    gives l (Block b) small es = (still.nodes b (keep.from_blocks l b small es)).gives l small es
    gives l (Input b) small es = (still.inputs l b small es).gives

    -- no offer is out, since its target would answer
    none_out : (b : ℕ) → has_offer_out run ends b ≡ false
    none_out b =
        nowhere (λ l. begins_at b (link_of run l).source && is_out (ends l).source.stage) (length run.layout.links)
        (λ l small e. let out = (and_parts (begins_at b (link_of run l).source) (is_out (ends l).source.stage) e).1 in
        never_both (is_to_receive (ends l).target.stage)
        (out_is_offered (ends l).phase (ends l).source.stage (ends l).target.stage (stages l small) out)
        (receives l (link_of run l).target small refl))

    -- so no wish waits for its answer
    answers : (l : ℕ) (s : LinkSource) → l < length run.layout.links → (link_of run l).source ≡ s
        → is_wished_for (ends l).source.stage ≡ false
    answers l (Block b) small es =
        false_from_ne_true (is_wished_for (ends l).source.stage)
        (λ wished. never_both (has_offer_out run ends b)
        ((still.nodes b (keep.from_blocks l b small es)).answers l small es wished) (none_out b))
    answers l (Input b) small es = (still.inputs l b small es).answers

    none_asks : (b : ℕ) → asks_somewhere run ends b ≡ false
    none_asks b =
        nowhere (λ l. ends_at b (link_of run l).target && is_asking (ends l).target.stage) (length run.layout.links)
        (λ l small e. let asks = (and_parts (ends_at b (link_of run l).target) (is_asking (ends l).target.stage) e).1 in
        never_both (is_wished_for (ends l).source.stage)
        (asking_is_wished (ends l).phase (ends l).source.stage (ends l).target.stage (stages l small) asks)
        (answers l (link_of run l).source small refl))

    -- and nothing is held for long
    claims : (l : ℕ) (t : LinkTarget) → l < length run.layout.links → (link_of run l).target ≡ t
        → is_holding (ends l).target.stage ≡ false
    claims l (Port b p) small et =
        false_from_ne_true (is_holding (ends l).target.stage)
        (λ holds. never_both (asks_somewhere run ends b)
        ((still.nodes b (keep.to_blocks l b p small et)).claims l p small et holds) (none_asks b))
    claims l Exit small et = (still.exits l small et).claims

    link_rests : (l : ℕ) → l < length run.layout.links → is_at_rest (ends l).phase ≡ true
    link_rests l small =
        phase_rests (ends l).phase (ends l).source.stage (ends l).target.stage (stages l small)
        (gives l (link_of run l).source small refl) (answers l (link_of run l).source small refl)
        (receives l (link_of run l).target small refl) (claims l (link_of run l).target small refl)

pub links_rest : (W : Type 0) → LinksRest W
links_rest W run ends keep still = link_rests run ends keep still
