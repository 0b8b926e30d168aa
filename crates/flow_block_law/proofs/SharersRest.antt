-- A node in order that shares its messages out rests where its links do.
use Rattle.std.proofs.Common.{◌≡◌, ℕ, ◌<◌, Bool, true, false, ◌||◌, List, [], ◌∷◌, length, is_some, Option, Some, None, refl, ap, ap₂, sym, subst, ◌∙◌, ⊎_elim}
use Rattle.std.proofs.lemmas.Bool.{or_cases, or_left, or_right, false_from_ne_true}
use Rattle.flow_value.specs.declared.value.Value.{Value}
use Rattle.flow_link.specs.declared.draft.BlockKind.{BlockKind}
use Rattle.flow_link.specs.declared.plan.LinkSource.TheVariants.{Block}
use Rattle.flow_link.specs.declared.plan.LinkTarget.TheVariants.{Port}
use Rattle.flow_link.specs.declared.trace.Mark.{Mark}
use Rattle.flow_link.specs.declared.trace.Outcome.{Outcome}
use Rattle.flow_link.specs.declared.trace.Outcome.TheVariants.{Done, Faulted}
use Rattle.flow_lawful.specs.Composes.{Ends, is_done_with}
use Rattle.flow_link.specs.Plan.{is_one_taker}
use Rattle.flow_lawful.specs.Quiet.{first_of as first_left, head_as, head_from, admits_head}
use Rattle.flow_lawful.specs.RestsByParts.{OutletRests, is_over as is_view_over}
use Rattle.flow_link.specs.Stage.{source_stage_of}
use Rattle.flow_link.specs.Trace.{BlockTrace, Run, gave_over, given_by, given_over, is_faulted, is_done, is_used_up, is_cut as is_run_cut, block_of, link_of, marks_of, left_at}
use Rattle.flow_link.specs.Views.{SourceStage as SourceViewStage, SourceView}
use Rattle.flow_link.proofs.ListTests.{never_both}
use Rattle.flow_outlet.specs.End.{id_of, is_waiting, is_cut}
use Rattle.flow_outlet.specs.Law.{admits_head as admits}
use Rattle.flow_outlet.specs.Outlet.{OutletState, first_of, is_empty, head_of, end_at, stage_at, end_of}
use Rattle.flow_outlet.specs.declared.ends.LinkRule.{LinkRule}
use Rattle.flow_outlet.proofs.StagesTell.{waits_for}
use Rattle.flow_block.specs.Block.{BlockState}
use Rattle.flow_block.specs.Node.{NodeState}
use Rattle.flow_block_law.specs.NodeLaw.{NodeLaw, outcome_in}
use Rattle.flow_block_law.specs.NodeRests.{HasNothingToDo, EndsRest}
use Rattle.flow_block_law.specs.NodeSeen.{IsNodeOf}
use Rattle.flow_block.specs.Planned.{rule_of, out_place}
use Rattle.flow_block_law.specs.CopiesSeen.{MayCarry}
use Rattle.flow_block_law.proofs.CopierOf.{CopiesQuiet, copies_quiet}
use Rattle.flow_block_law.proofs.CopiesIdle.{left_is_shared, view_is_shared}
use Rattle.flow_block_law.proofs.EndsAtRest.{over_unless, not_cut, not_stopped}
use Rattle.flow_block_law.proofs.EndsTell.{limit_is, no_room_left}
use Rattle.flow_link.proofs.StagesKept.{free_back}
use Rattle.flow_block_law.proofs.JournalTells.{stopped_tells, faulted_marked}
use Rattle.flow_block_law.proofs.KindsBuilt.{head_is_first}
use Rattle.flow_block_law.proofs.NothingToDo.{free_at, waiting_goes, not_admitted, left_where}
use Rattle.flow_block_law.proofs.PlacesOfLinks.{end_out_of}
use Rattle.flow_link.specs.declared.stage.SourceStage.TheVariants as source

same_first : (values : List Value) → first_left values ≡ first_of values
same_first [] = refl
same_first (value ∷ values) = refl

module _ {W : Type 0} (run : Run W) (ends : ℕ → Ends) (b : ℕ) (node : NodeState)
    (law : NodeLaw run.layout run.meaning b node)
    (part : IsNodeOf run ends b node)
    (ports : (l p : ℕ) → l < length run.layout.links → (link_of run l).target ≡ Port b p → p < length node.block.ports)
    (nothing : HasNothingToDo node) (rest : EndsRest node) (carries : MayCarry run ends b node) where
  abbrev own : BlockState
  own = node.block

  abbrev outs : OutletState
  outs = node.block.exits

  abbrev place : ℕ → ℕ
  place l = out_place run.layout b l

  abbrev kind : BlockKind
  kind = (block_of run b).kind

  quiet : CopiesQuiet own
  quiet = copies_quiet run ends b node law part nothing rest (is_one_taker own.kind) refl

  marks_are : marks_of run b ≡ node.journal
  marks_are = ap (λ (t : BlockTrace). t.journal) part.trace

  of_marks : (P : List Mark → Type 0) → P node.journal → P (marks_of run b)
  of_marks P holds = subst P (sym marks_are) holds

  marked : (how : Outcome) → own.stopped ≡ Some how → outcome_in node.journal ≡ Some how
  marked how e = sym law.ends.stopped_is ∙ e

  -- Where it shares its messages out

  module _ (shares : is_one_taker own.kind ≡ true) where
    pub left_is : left_at run b ≡ outs.left
    left_is = ap (λ (t : BlockTrace). t.left) part.trace ∙ left_is_shared run.layout run.meaning b node law shares

    module _ (l : ℕ) (small : l < length run.layout.links) (from : (link_of run l).source ≡ Block b) where
      there : place l < length outs.ends
      there = (end_out_of run.layout run.meaning b own law.shape shares l small from).there

      rule_is : (end_at outs (place l)).rule ≡ rule_of run.layout l
      rule_is = (end_out_of run.layout run.meaning b own law.shape shares l small from).rule_is

      source_is : (ends l).source.stage ≡ source_stage_of (stage_at outs (place l))
      source_is =
          ap (λ (view : SourceView Value). view.stage)
          (part.sources l small from ∙ view_is_shared run.layout run.meaning b node law shares (place l))

      cut_here : is_run_cut run l ≡ true → is_cut (end_at outs (place l)) ≡ true
      cut_here e =
          let end = end_at outs (place l) in
          let given : gave_over end.rule.id node.journal ≡ given_over run l =
          ap (λ (rule : LinkRule). gave_over rule.id node.journal) rule_is
          ∙ ap (gave_over l) (sym marks_are)
          ∙ ap (given_by run l) (sym from) in
          let used : is_used_up end.rule.max (gave_over end.rule.id node.journal) ≡ is_used_up (link_of run l).max
          (given_over run l) =
          ap₂ is_used_up (ap (λ (rule : LinkRule). rule.max) rule_is) given in
          limit_is end.rule.max end.given (gave_over end.rule.id node.journal) ((law.gave shares).each (place l) there).counted
          (used ∙ e)

      free_here : stage_at outs (place l) ≡ source.Free → end_of (end_at outs (place l)) own.stopped ≡ None
      free_here e = (free_at run.layout run.meaning b node law nothing rest quiet (place l) there e).0

      over_where : (stage_at outs (place l) ≡ source.Free → ⊥) → (is_waiting (stage_at outs (place l)) ≡ true → ⊥)
          → is_view_over (ends l).source.stage ≡ true
      over_where busy gone = ap is_view_over source_is
          ∙ over_unless (stage_at outs (place l)) (rest.outs (place l) there) busy gone

      over_cut : is_run_cut run l ≡ true → is_view_over (ends l).source.stage ≡ true
      over_cut e =
          let end = end_at outs (place l) in
          let cut = cut_here e in
          over_where
          (λ free. never_both (is_cut end) cut (not_cut end own.stopped (free_here free)))
          (λ waits.
          let waiting = waits_for end.stage waits in
          let room = (law.exits.law.each (place l) there).room waiting.id (ap id_of waiting.is) in
          no_room_left end.rule.max end.given cut room)

      over_stopped : is_some own.stopped ≡ true → is_view_over (ends l).source.stage ≡ true
      over_stopped e =
          let never : own.stopped ≡ None → ⊥ = λ going. never_both (is_some own.stopped) e (ap is_some going) in
          over_where
          (λ free. never (not_stopped (end_at outs (place l)) own.stopped (free_here free)))
          (λ waits. never (waiting_goes run.layout run.meaning b node law nothing rest quiet (place l) there waits))

      stopped_where : (is_faulted (marks_of run b) || is_done (marks_of run b)) ≡ true → is_some own.stopped ≡ true
      stopped_where e =
          ap is_some law.ends.stopped_is ∙ stopped_tells node.journal
          ∙ ap (λ (marks : List Mark). is_faulted marks || is_done marks) (sym marks_are) ∙ e

      ended_so : is_done_with run ends l b ≡ true → is_view_over (ends l).source.stage ≡ true
      ended_so e =
          let f = is_faulted (marks_of run b) in
          let d = is_done (marks_of run b) in
          ⊎_elim
          (λ first.
          ⊎_elim over_cut
          (λ done. over_stopped (stopped_where (or_right f d done)))
          (or_cases (is_run_cut run l) d first))
          (λ faulted. over_stopped (stopped_where (or_left f d faulted)))
          (or_cases (is_run_cut run l || d) f e)

      head_admitted : (faulted : Bool) → admits_head run l (head_as run b l faulted kind) ≡ true
          → (faulted ≡ false) × (admits_head run l (first_left (left_at run b)) ≡ true)
      head_admitted true e = absurd (cc)
      head_admitted false e = (
        refl,
        ap (admits_head run l) (sym (head_is_first run b l kind (ap is_one_taker (sym law.shape.kind_is) ∙ shares))) ∙ e,
      )

      -- the predicate of the end is that of the link
      same_admits : (head : Option Value) → admits_head run l head ≡ true
          → admits (end_at outs (place l)).rule.when head ≡ true
      same_admits None e = absurd (cc)
      same_admits (Some value) e = ap (λ (rule : LinkRule). admits rule.when (Some value)) rule_is ∙ e

      admitted_here : admits_head run l (first_left (left_at run b)) ≡ true
          → admits (end_at outs (place l)).rule.when (head_of outs) ≡ true
      admitted_here e =
          let head : first_left (left_at run b) ≡ head_of outs = ap first_left left_is ∙ same_first outs.left in
          same_admits (head_of outs) (ap (admits_head run l) (sym head) ∙ e)

      not_offered : (stopped : Option Outcome) → own.stopped ≡ stopped → (ends l).source.stage ≡ SourceViewStage.free
          → is_faulted (marks_of run b) ≡ false → admits_head run l (first_left (left_at run b)) ≡ true → ⊥
      not_offered None e free faulted admitted =
          not_admitted run.layout run.meaning b node law nothing rest quiet (place l) there
          (free_back (stage_at outs (place l)) (sym source_is ∙ free)) e (admitted_here admitted)
      not_offered (Some Done) e free faulted admitted =
          never_both (is_empty outs.left) (ap is_empty (law.ends.done_empty e).1)
          (left_where (end_at outs (place l)).rule.when outs.left (admitted_here admitted))
      not_offered (Some (Faulted n)) e free faulted admitted =
          never_both (is_faulted (marks_of run b))
          (of_marks (λ marks. is_faulted marks ≡ true) (faulted_marked node.journal n (marked (Faulted n) e))) faulted

      offered_so : (ends l).source.stage ≡ SourceViewStage.free → admits_head run l (head_from run l (Block b)) ≡ false
      offered_so free = false_from_ne_true (admits_head run l (head_from run l (Block b))) (λ e.
          let both = head_admitted (is_faulted (marks_of run b)) e in
          not_offered own.stopped refl free both.0 both.1)

    pub outlet_shared : OutletRests run ends b
    outlet_shared = record { ended = ended_so; offered = offered_so }
