-- What the caller of an input was told as accepted was taken over its link, in order, as far as it went.
use Rattle.std.proofs.Common.{◌≡◌, ◌⊎◌, ⊎_elim, ℕ, ◌+◌, ◌-◌, ◌≤◌, cond, Bool, true, false, List, [], ◌∷◌, ◌++◌, length, take, Option, refl, ap, sym, ◌∙◌, subst, arith}
use Rattle.std.proofs.lemmas.List.{append-nil, length-append, length-take-le, take-append-le}
use Rattle.flow_value.specs.declared.value.Value.{Value}
use Rattle.flow_link.specs.declared.phase.Phase.{Phase}
use Rattle.flow_link.specs.declared.phase.Phase.TheVariants.{Given, Opened}
use Rattle.flow_link.specs.declared.plan.LinkSource.{LinkSource}
use Rattle.flow_link.specs.declared.stage.SourceStage.{SourceStage as SourceKept}
use Rattle.flow_link.specs.declared.stage.SourceStage.TheVariants as source
use Rattle.flow_link.specs.LinkOk.{CrossedAt, StandAt}
use Rattle.flow_link.specs.Told.{IsTakenOrUnderWay}
use Rattle.flow_link.specs.Stage.{source_stage_of}
use Rattle.flow_link.specs.Trace.{marks_of, took_over}
use Rattle.flow_link.specs.Views.{SourceStage, TargetStage}
use Rattle.flow_link.proofs.LinksTell.{links_tell}
use Rattle.flow_link.specs.Lists.{is_front}
use Rattle.flow_block_law.specs.NodeSeen.{NodesAreLawful}
use Rattle.flow_input.specs.Input.{InputState}
use Rattle.flow_input.specs.InputKeeps.{InputLaw, InputsAreParts}
use Rattle.flow_input.specs.Sends.{is_crossing}
use Rattle.flow_input.proofs.InputLists.{front_taken, take_less}
use Rattle.flow_input.proofs.InputsInOrder.{told_within}
use Rattle.flow_core.specs.State.{input_at, ends_of, run_of_net, source_from}
use Rattle.flow_core.specs.Statements.{AcceptedWasTaken}
use Rattle.flow_core.proofs.KeptIsLawful.{kept_in_order, parts_keep}

-- where the source has not given a message that it has not seen taken, all that was given was taken
module _ (slot : Option Value) (given taken : List Value) where
  home_unless : (phase : Phase) (stage : SourceKept) (target : TargetStage Value) → StandAt phase (source_stage_of stage) target
      → is_crossing stage ≡ false → CrossedAt phase target slot given taken → given ≡ taken
  home_unless (Given i) source.Crossing target stands home crossed = absurd (cc)
  home_unless (Given i) _ TargetStage.free stands home crossed = absurd stands
  home_unless (Given i) _ _ stands home crossed = absurd stands
  home_unless (Opened i) source.Crossing target stands home crossed = absurd (cc)
  home_unless (Opened i) _ TargetStage.free stands home crossed = absurd stands
  home_unless (Opened i) _ _ stands home crossed = absurd stands
  home_unless _ stage target stands home crossed = crossed.all

-- what was told is of what was taken, and that is a beginning of what was given
told_taken : (posted taken rest : List Value) (told sent : ℕ) → take sent posted ≡ taken ++ rest → told ≤ sent → told ≤ length taken
    → is_front (take told posted) taken ≡ true
told_taken posted taken rest told sent given less within =
    let same : take told posted ≡ take told taken =
    sym (take_less posted told sent less) ∙ ap (λ (vs : List Value). take told vs) given ∙ take-append-le told taken rest within in
    subst (λ (vs : List Value). is_front vs taken ≡ true) (sym same) (front_taken taken told)

pub accepted_was_taken : {W : Type 0} → NodesAreLawful W → InputsAreParts W → AcceptedWasTaken W
accepted_was_taken nodes inputs layout meaning runs net l b t p keeps there from to =
    let run = run_of_net layout meaning net in
    let ends = ends_of layout net l in
    let input = input_at layout net b in
    let law = keeps.inputs b (runs.leads.from_input l b there from) (runs.leads.from_inputs l b there from) in
    let low = runs.leads.to_block l t p there to in
    let parts = parts_keep layout meaning runs net (kept_in_order keeps) nodes inputs in
    let taken : ends.target.taken ≡ took_over l (marks_of run t) = ((parts.nodes t low).targets l p there to).taken in
    let given : ends.source.given ≡ take input.sent input.posted = ap (λ (begins : LinkSource). (source_from layout net l begins).given) from in
    let stage : ends.source.stage ≡ source_stage_of input.stage = ap (λ (begins : LinkSource). (source_from layout net l begins).stage) from in
    let ok = (keeps.lines l there).in_order in
    subst (λ (all : List Value). is_front (take input.told input.posted) all ≡ true) taken
    (by_stage input law ends.phase ends.slot ends.source.given ends.target.taken ends.target.stage (is_crossing input.stage) refl
    (sym given) (subst (λ (s : SourceStage). StandAt ends.phase s ends.target.stage) stage ok.stages) ok.values
    ((links_tell Value).link_law _ _ _ _ _ ok))
  where
    by_stage : (input : InputState) (law : InputLaw input) (phase : Phase) (slot : Option Value) (given taken : List Value)
        (target : TargetStage Value) (crossing : Bool) → is_crossing input.stage ≡ crossing → take input.sent input.posted ≡ given
        → StandAt phase (source_stage_of input.stage) target → CrossedAt phase target slot given taken
        → IsTakenOrUnderWay given taken → is_front (take input.told input.posted) taken ≡ true
    by_stage input law phase slot given taken target false home is stands crossed either =
        let all = home_unless slot given taken phase input.stage target stands home crossed in
        let long = ap (λ (vs : List Value). length vs) (is ∙ all) in
        let mine = length-take-le input.sent input.posted law.within in
        told_taken input.posted taken [] input.told input.sent (is ∙ all ∙ sym (append-nil taken)) (told_within input law)
        (omega (arith, told_within input law, long, mine))
    by_stage input law phase slot given taken target true crosses is stands crossed either = ⊎_elim
        (λ all.
        let long = ap (λ (vs : List Value). length vs) (is ∙ all) in
        let mine = length-take-le input.sent input.posted law.within in
        told_taken input.posted taken [] input.told input.sent (is ∙ all ∙ sym (append-nil taken)) (told_within input law)
        (omega (arith, told_within input law, long, mine)))
        (λ one.
        let long = ap (λ (vs : List Value). length vs) (is ∙ one.1) ∙ length-append taken (one.0 ∷ []) in
        let mine = length-take-le input.sent input.posted law.within in
        let low = subst (λ (c : Bool). input.told ≤ cond c (input.sent - 1) input.sent) crosses law.told in
        told_taken input.posted taken (one.0 ∷ []) input.told input.sent (is ∙ one.1) (told_within input law)
        (omega (arith, low, long, mine)))
        either
