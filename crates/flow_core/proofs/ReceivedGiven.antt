-- What was received at an exit is what its block gave over its link, in order, and at most one message more was given.
use Rattle.std.proofs.Common.{◌≡◌, ◌⊎◌, ⊎_elim, inl, inr, ◌+◌, ◌≤◌, true, List, [], ◌∷◌, ◌++◌, leb, length, Option, Some, None, option_to_list, refl, ap, subst, ◌∙◌, arith}
use Rattle.std.proofs.lemmas.Bool.{and_parts}
use Rattle.std.proofs.lemmas.List.{append-nil, length-append}
use Rattle.flow_value.specs.declared.value.Value.{Value}
use Rattle.flow_link.specs.declared.phase.Phase.{Phase}
use Rattle.flow_link.specs.declared.phase.Phase.TheVariants.{Given, Opened}
use Rattle.flow_link.specs.declared.plan.LinkTarget.{LinkTarget}
use Rattle.flow_link.specs.declared.stage.TargetStage.{TargetStage as TargetKept}
use Rattle.flow_link.specs.declared.stage.TargetStage.TheVariants as target
use Rattle.flow_link.specs.LinkOk.{CrossedAt, StandAt}
use Rattle.flow_link.specs.Stage.{target_stage_of}
use Rattle.flow_link.specs.Told.{IsTakenOrUnderWay}
use Rattle.flow_link.specs.Trace.{gave_over, marks_of}
use Rattle.flow_link.specs.Views.{SourceStage, TargetStage}
use Rattle.flow_link.proofs.LinksTell.{links_tell}
use Rattle.flow_link.specs.Lists.{is_front}
use Rattle.flow_link.proofs.ListTests.{front_of_front}
use Rattle.flow_lawful.proofs.LinksByParts.{all_or_all_but_one}
use Rattle.flow_exit.specs.Exit.{ExitState}
use Rattle.flow_exit.specs.ExitKeeps.{ExitLaw, comes, is_plain}
use Rattle.flow_input.specs.InputKeeps.{InputsAreParts}
use Rattle.flow_block_law.specs.NodeSeen.{NodesAreLawful}
use Rattle.flow_core.specs.State.{exit_at, ends_of, run_of_net, target_from}
use Rattle.flow_core.specs.Statements.{ReceivedWasGiven}
use Rattle.flow_core.proofs.KeptIsLawful.{kept_in_order, parts_keep}

-- where a message was given and not taken, it comes
module _ (slot : Option Value) (given taken : List Value) where
  home_or_comes : (phase : Phase) (source : SourceStage) (stage : TargetKept) (hand : Option Value) → is_plain stage ≡ true
      → StandAt phase source (target_stage_of stage hand) → CrossedAt phase (target_stage_of stage hand) slot given taken
      → (given ≡ taken) ⊎ (comes stage ≡ true)
  home_or_comes (Given i) source (target.Accepted j) hand plain stands crossed = inr refl
  home_or_comes (Given i) source (target.Consuming j) hand plain stands crossed = inr refl
  home_or_comes (Given i) source (target.Arrived j) hand plain stands crossed = inr refl
  home_or_comes (Given i) source (target.Hand j) hand plain stands crossed = inr refl
  home_or_comes (Given i) source (target.Claiming j) hand plain stands crossed = absurd (cc)
  home_or_comes (Given i) SourceStage.crossing target.Free hand plain stands crossed = absurd stands
  home_or_comes (Given i) SourceStage.crossing _ hand plain stands crossed = absurd stands
  home_or_comes (Given i) _ target.Free hand plain stands crossed = absurd stands
  home_or_comes (Given i) _ _ hand plain stands crossed = absurd stands
  home_or_comes (Opened i) source (target.Hand j) hand plain stands crossed = inr refl
  home_or_comes (Opened i) SourceStage.crossing target.Free hand plain stands crossed = absurd stands
  home_or_comes (Opened i) SourceStage.crossing _ hand plain stands crossed = absurd stands
  home_or_comes (Opened i) _ target.Free hand plain stands crossed = absurd stands
  home_or_comes (Opened i) _ _ hand plain stands crossed = absurd stands
  home_or_comes _ source stage hand plain stands crossed = inl crossed.all

at_most_one : (kept : Option Value) → length (option_to_list kept) ≤ 1
at_most_one None = omega arith
at_most_one (Some value) = omega arith

-- so no more than one message was given that was not received
one_more : (exit : ExitState) → ExitLaw exit → (given : List Value) → (given ≡ exit.received ++ option_to_list exit.kept) ⊎ (comes exit.stage ≡ true)
    → IsTakenOrUnderWay given (exit.received ++ option_to_list exit.kept) → length given ≤ length exit.received + 1
one_more exit law given home either = ⊎_elim
    (λ all.
    let long = ap (λ (vs : List Value). length vs) all ∙ length-append exit.received (option_to_list exit.kept) in
    let kept = at_most_one exit.kept in omega (arith, long, kept))
    (λ coming.
    let none = law.one coming in
    let bare : exit.received ++ option_to_list exit.kept ≡ exit.received =
    ap (λ (kept : Option Value). exit.received ++ option_to_list kept) none ∙ append-nil exit.received in
    ⊎_elim
    (λ all. let long = ap (λ (vs : List Value). length vs) (all ∙ bare) in omega (arith, long))
    (λ one.
    let long = ap (λ (vs : List Value). length vs) (one.1 ∙ ap (λ (vs : List Value). vs ++ one.0 ∷ []) bare)
    ∙ length-append exit.received (one.0 ∷ []) in
    omega (arith, long))
    either)
    home

pub received_was_given : {W : Type 0} → NodesAreLawful W → InputsAreParts W → ReceivedWasGiven W
received_was_given nodes inputs layout meaning runs net l b keeps there from to =
    let run = run_of_net layout meaning net in
    let ends = ends_of layout net l in
    let exit = exit_at layout net l in
    let low = runs.leads.from_block l b there from in
    let parts = parts_keep layout meaning runs net (kept_in_order keeps) nodes inputs in
    let given : ends.source.given ≡ gave_over l (marks_of run b) = ((parts.nodes b low).sources l there from).given in
    let taken : ends.target.taken ≡ exit.received ++ option_to_list exit.kept =
    ap (λ (into : LinkTarget). (target_from layout net l into).taken) to in
    let crossed = (links_tell Value).link_law _ _ _ _ _ (keeps.lines l there).in_order in
    let front = (and_parts (is_front ends.target.taken ends.source.given) (leb (length ends.source.given) (length ends.target.taken + 1))
    (all_or_all_but_one ends.source.given ends.target.taken crossed)).0 in
    let ok = (keeps.lines l there).in_order in
    let law = keeps.exits l there to in
    let stage : ends.target.stage ≡ target_stage_of exit.stage exit.hand =
    ap (λ (into : LinkTarget). (target_from layout net l into).stage) to in
    let stands = subst (λ (t : TargetStage Value). StandAt ends.phase ends.source.stage t) stage ok.stages in
    let values = subst (λ (all : List Value). CrossedAt ends.phase (target_stage_of exit.stage exit.hand) ends.slot ends.source.given all) taken
    (subst (λ (t : TargetStage Value). CrossedAt ends.phase t ends.slot ends.source.given ends.target.taken) stage ok.values) in
    let under_way = subst (λ (all : List Value). IsTakenOrUnderWay ends.source.given all) taken crossed in
    let home = home_or_comes ends.slot ends.source.given (exit.received ++ option_to_list exit.kept) ends.phase ends.source.stage
    exit.stage exit.hand law.plain stands values in
    record {
      front = front_of_front exit.received (option_to_list exit.kept) (gave_over l (marks_of run b))
          (subst (λ (all : List Value). is_front (exit.received ++ option_to_list exit.kept) all ≡ true) given
          (subst (λ (all : List Value). is_front all ends.source.given ≡ true) taken front));
      one_more = subst (λ (all : List Value). length all ≤ length exit.received + 1) given
          (one_more exit law ends.source.given home under_way);
    }
