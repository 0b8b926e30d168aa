-- Where nothing is under way over links, inputs know what was taken of them.
use Rattle.std.proofs.Common.{◌≡◌, ℕ, ◌-◌, ◌<◌, cond, Bool, false, List, length, take, Option, Result, refl, sym, ap, ◌∙◌, subst}
use Rattle.std.proofs.Math.Logic.{∥∥₁_elim}
use Rattle.std.specs.Coded.{codes}
use Rattle.flow_value.specs.declared.value.Value.{Value}
use Rattle.flow_value.specs.declared.work.WorkFault.{WorkFault}
use Rattle.flow_value.specs.contracts.value.Value as content
use Rattle.flow_link.specs.declared.phase.Phase.{Phase}
use Rattle.flow_link.specs.declared.phase.Phase.TheVariants.{Idle, Given, Opened}
use Rattle.flow_link.specs.declared.plan.LinkSource.{LinkSource}
use Rattle.flow_link.specs.declared.plan.LinkSource.TheVariants.{Input}
use Rattle.flow_link.specs.declared.plan.LinkTarget.TheVariants.{Port}
use Rattle.flow_link.specs.declared.plan.Plan.{Plan}
use Rattle.flow_link.specs.declared.stage.SourceStage.{SourceStage as SourceKept}
use Rattle.flow_link.specs.declared.stage.SourceStage.TheVariants as source
use Rattle.flow_link.specs.Layout.{Layout}
use Rattle.flow_link.specs.LinkOk.{CrossedAt, StandAt}
use Rattle.flow_link.specs.Looks.{source_finds}
use Rattle.flow_link.specs.Plan.{link_in}
use Rattle.flow_link.specs.Planned.{layout_of}
use Rattle.flow_link.specs.Stage.{source_stage_of}
use Rattle.flow_link.specs.Trace.{marks_of, took_over}
use Rattle.flow_link.specs.Views.{SourceStage, TargetStage}
use Rattle.flow_block_law.proofs.NodesAreLawful.{nodes_are_lawful}
use Rattle.flow_core.specs.Keeps.{IsRun, NetKeeps}
use Rattle.flow_core.specs.State.{NetState, ends_of, input_at, line_at, run_of_net, source_from}
use Rattle.flow_core.proofs.KeptIsLawful.{kept_in_order, parts_keep}
use Rattle.flow_exec.specs.Works.{works_of}
use Rattle.flow_input.specs.Sends.{is_crossing as input_crosses, settled}
use Rattle.flow_input.proofs.InputsAreParts.{inputs_are_parts}
use Rattle.flow_moves.proofs.PlansRun.{plan_runs}
use Rattle.flow_wire.specs.Ends.{is_crossing}
use Rattle.flow_core.specs.Inputs.{input_of}
use Rattle.flow_task.specs.Entries.{took_at}
use Rattle.flow_board.specs.Gathers.{KnowsTaken}
use Rattle.flow_task.proofs.InputPlaces.{input_placed}

-- all that was given was taken
crossed_home : (phase : Phase) (target : TargetStage Value) (slot : Option Value) (given taken : List Value) → is_crossing phase ≡ false
    → CrossedAt phase target slot given taken → given ≡ taken
crossed_home (Given i) target slot given taken home crossed = absurd (cc)
crossed_home (Opened i) target slot given taken home crossed = absurd (cc)
crossed_home _ target slot given taken home crossed = crossed.all

-- and the source has seen that
none_crosses : (phase : Phase) (target : TargetStage Value) (stage : SourceKept) → is_crossing phase ≡ false
    → StandAt phase (source_stage_of stage) target → source_finds (source_stage_of stage) phase ≡ source_stage_of stage
    → input_crosses stage ≡ false
none_crosses Idle target source.Crossing home stands seen = absurd (cc)
none_crosses (Given i) target source.Crossing home stands seen = absurd (cc)
none_crosses (Opened i) target source.Crossing home stands seen = absurd (cc)
none_crosses _ target source.Crossing home stands seen = absurd stands
none_crosses _ target _ home stands seen = refl

Values-set : IsSet (List Value)
Values-set = Prim.hlevel (codes, content.the_row.coded)

module _ {W : Type 0} (layout : Layout W) (meaning : ℕ → Value → Result (List Value) ℕ) (runs : IsRun layout) (net : NetState)
    (keeps : NetKeeps layout meaning net) (l b t p : ℕ) (there : l < length layout.links) (from : (link_in layout.links l).source ≡ Input b)
    (to : (link_in layout.links l).target ≡ Port t p) (home : is_crossing (line_at net l).phase ≡ false) where
  took_home : took_over l (marks_of (run_of_net layout meaning net) t) ≡ took_at (input_at layout net b)
  took_home =
      let ends = ends_of layout net l in
      let input = input_at layout net b in
      let parts = parts_keep layout meaning runs net (kept_in_order keeps) (nodes_are_lawful W) (inputs_are_parts W) in
      let taken = ((parts.nodes t (runs.leads.to_block l t p there to)).targets l p there to).taken in
      let given : ends.source.given ≡ take input.sent input.posted = ap (λ (begins : LinkSource). (source_from layout net l begins).given) from in
      let stage : ends.source.stage ≡ source_stage_of input.stage = ap (λ (begins : LinkSource). (source_from layout net l begins).stage) from in
      let line = keeps.lines l there in
      let both = crossed_home ends.phase ends.target.stage ends.slot ends.source.given ends.target.taken home line.in_order.values in
      let none = none_crosses ends.phase ends.target.stage input.stage home
      (subst (λ (s : SourceStage). StandAt ends.phase s ends.target.stage) stage line.in_order.stages)
      (subst (λ (s : SourceStage). source_finds s ends.phase ≡ s) stage line.seen.by_source) in
      let all : settled input ≡ input.sent = ap (λ (crosses : Bool). cond crosses (input.sent - 1) input.sent) none in
      sym taken ∙ sym both ∙ given ∙ ap (λ (n : ℕ). take n input.posted) (sym all)

-- of each input of a network
pub knows_taken : {W : Type 0} (works : W → Value → Result (List Value) WorkFault) (plan : Plan W) (net : NetState)
    → ∥ NetKeeps (layout_of plan) (works_of works (layout_of plan)) net ∥₁
    → ((l : ℕ) → l < length (layout_of plan).links → is_crossing (line_at net l).phase ≡ false) → KnowsTaken works (layout_of plan) net
knows_taken works plan net kept home l b t p there from to =
    let layout = layout_of plan in
    let place = input_placed layout plan.laid_out l b there from in
    ∥∥₁_elim kept (Values-set _ _) (λ keeps.
    took_home layout (works_of works layout) (plan_runs plan) net keeps l b t p there from to (home l there)
    ∙ ap (λ (q : ℕ). took_at (input_of net q)) place)
