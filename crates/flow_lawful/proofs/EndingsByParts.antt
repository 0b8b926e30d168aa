-- Where each part of a network keeps its own laws, what ends has a cause in the trace, and what is copied or passed over is so.
use Rattle.std.proofs.Common.{◌≡◌, ℕ, ◌+◌, ◌<◌, ◌≤◌, inr, Bool, true, false, ◌&&◌, not, is_some, List, length, drop, Option, Some, None, refl, ap, sym, subst, ◌∙◌, arith, le-leb, leb-true, ne_eqb, eqb-true, eq-eqb}
use Rattle.std.proofs.lemmas.Bool.{and_from, and_parts, or_left, or_right, not_from_false}
use Rattle.flow_value.specs.declared.value.Value.{Value}
use Rattle.flow_link.specs.declared.phase.Phase.{Phase}
use Rattle.flow_link.specs.declared.phase.Phase.TheVariants.{Refused}
use Rattle.flow_link.specs.declared.phase.LinkEnd.{LinkEnd}
use Rattle.flow_link.specs.declared.phase.LinkEnd.TheVariants.{Plain, Complete as end_complete, Fault as end_fault}
use Rattle.flow_link.specs.declared.plan.LinkSource.{LinkSource}
use Rattle.flow_link.specs.declared.plan.LinkSource.TheVariants.{Block, Input}
use Rattle.flow_link.specs.declared.plan.LinkTarget.{LinkTarget}
use Rattle.flow_link.specs.declared.plan.LinkTarget.TheVariants.{Port, Exit}
use Rattle.flow_link.specs.declared.trace.Mark.{Mark}
use Rattle.flow_link.specs.declared.trace.Mark.TheVariants.{Took, Gave, Complete, Fault, Done}
use Rattle.flow_link.specs.Views.{SourceStage, TargetStage, Refusal, crossed}
use Rattle.flow_link.specs.LinkOk.{HasRoom, PassesOn}
use Rattle.flow_link.specs.Told.{HasEnded, RefusalStays}
use Rattle.flow_link.specs.Lists.{some, is_empty}
use Rattle.flow_link.specs.Plan.{is_write_once, ends_at, ends_at_port}
use Rattle.flow_link.specs.Trace.{Run, took_at, is_done, has_fault, has_ended, is_used_up, block_of, link_of, link_numbers, ports_of, marks_of, given_over, taken_over, input_of, waits_over, is_cut, is_refused}
use Rattle.flow_link.specs.Making.{load}
use Rattle.flow_lawful.specs.Law.{Counts, has_room_for, is_within_capacity, takes_level}
use Rattle.flow_lawful.specs.Endings.{Endings, own_fault, is_number, is_complete_ending, is_fault_ending, passes_on, brings_from, brings_completion, faults_from, brings_fault, has_cause, has_causes, refuses_rightly, is_rightly_refused, stops_at, completes_once_at, ends_rightly}
use Rattle.flow_lawful.specs.Composes.{Ends, PartsKeep, facts_of, is_refused_phase, is_refused_stage, has_seen_completion, has_seen_fault, coming, has_room_at, has_seen_cause}
use Rattle.flow_link.proofs.LinksTell.{links_tell}
use Rattle.flow_link.proofs.ListTests.{or_not, every_below, every_weaker, or_weaker, some_weaker_below, drop_all}
use Rattle.flow_lawful.proofs.LinksByParts.{source_keeps, target_keeps, given_is, taken_is}

completion_stage : (stage : TargetStage Value) → has_seen_completion stage ≡ true → stage ≡ TargetStage.ended end_complete
completion_stage (TargetStage.ended end_complete) e = refl
completion_stage (TargetStage.ended Plain) e = cc
completion_stage (TargetStage.ended (end_fault number)) e = cc
completion_stage _ e = cc

not_refused : (phase : Phase) → (phase ≡ Refused → ⊥) → is_refused_phase phase ≡ false
not_refused Refused h = absurd (h refl)
not_refused _ h = refl

pub refused_stage : (stage : SourceStage) → is_refused_stage stage ≡ true → stage ≡ SourceStage.refused
refused_stage SourceStage.refused e = refl
refused_stage _ e = cc

-- where there is room for one more, not all have crossed
not_used_up : (max : Option ℕ) (before : ℕ) (given values : List Value) → before ≡ 0 → given ≡ values → HasRoom max (before + length given) → is_used_up max values ≡ false
not_used_up None before given values start same h = refl
not_used_up (Some max) before given values start same h =
    let count : length values < max = (let P : List Value → Type 0 = λ vs. length vs < max in subst P same (omega arith)) in
    grind (arith, ne_eqb)

module _ {W : Type 0} (run : Run W) (ends : ℕ → Ends) (keep : PartsKeep run ends) where
  -- counts: what is coming has a place besides
  room_so : (b p : ℕ) (capacity : Option ℕ) → has_room_for run capacity (load run b p + coming run ends b p) ≡ true → has_room_for run capacity (load run b p) ≡ true
  room_so b p None e = refl
  room_so b p (Some capacity) e =
      let fits : load run b p + coming run ends b p ≤ capacity = leb-true (load run b p + coming run ends b p) capacity e in
      le-leb (load run b p) capacity (omega arith)

  pub counts_keep : Counts run
  counts_keep = record {
    within_capacity = every_below (is_within_capacity run) (length run.layout.blocks)
        (λ b small. every_weaker (has_room_at run ends b) (λ p. has_room_for run (block_of run b).capacity (load run b p)) (ports_of run b)
        (λ p. room_so b p (block_of run b).capacity) (keep.nodes b small).room);
    level = every_below (takes_level run) (length run.layout.blocks) (λ b small. (keep.nodes b small).level);
  }

  pub refusal : (l : ℕ) → l < length run.layout.links → RefusalStays (ends l).phase (ends l).source (ends l).target
  refusal l small = (links_tell Value).refusal_told (facts_of run ends l) (ends l).phase (ends l).slot (ends l).source (ends l).target (keep.links l small)

  ended_so : (l : ℕ) (how : LinkEnd) → l < length run.layout.links → (ends l).target.stage ≡ TargetStage.ended how
      → HasEnded (facts_of run ends l) how (ends l).source (ends l).target
  ended_so l how small e =
      (links_tell Value).end_told (facts_of run ends l) (ends l).phase (ends l).slot (ends l).source (ends l).target (keep.links l small) how (inr e)

  -- a link whose target has seen it end is not refused
  not_refused_so : (l : ℕ) (how : LinkEnd) → l < length run.layout.links → (ends l).target.stage ≡ TargetStage.ended how → is_refused run l ≡ false
  not_refused_so l how small e =
      keep.refused l ∙ not_refused (ends l).phase
      (λ is. let why = (refusal l small).has_reason is in
      let clash : TargetStage.ended how ≡ TargetStage.refused why.0 = sym e ∙ why.1 in cc)

  passes_so : (l b : ℕ) (how : LinkEnd) → l < length run.layout.links → (link_of run l).source ≡ Block b
      → (ends l).target.stage ≡ TargetStage.ended how → PassesOn (facts_of run ends l) (crossed (ends l).source) → passes_on run l ≡ true
  passes_so l b how small es e passes =
      and_from ((link_of run l).propagate && not (is_cut run l)) (not (is_refused run l))
      (and_from (link_of run l).propagate (not (is_cut run l)) passes.propagates
      (not_from_false (is_cut run l)
      (not_used_up (link_of run l).max (ends l).source.before (ends l).source.given (given_over run l)
      (source_keeps run ends keep l b small es).from_start (given_is run ends keep l b small es) passes.not_cut)))
      (not_from_false (is_refused run l) (not_refused_so l how small e))

  -- an input whose block has seen the end has nothing waiting
  none_waits : (l s : ℕ) (t : LinkTarget) (how : LinkEnd) → l < length run.layout.links → (link_of run l).target ≡ t
      → (ends l).target.stage ≡ TargetStage.ended how → (ends l).source.given ≡ (input_of run s).posted
      → (t ≡ Exit → ⊥) → is_empty (waits_over run s l) ≡ true
  none_waits l s Exit how small et e all port = absurd (port refl)
  none_waits l s (Port c p) how small et e all port =
      let taken : (input_of run s).posted ≡ taken_over run l = sym all ∙ (ended_so l how small e).all_taken ∙ taken_is run ends keep l c p small et in
      let P : List Value → Type 0 = λ values. is_empty (drop (length values) (input_of run s).posted) ≡ true in
      subst P taken (drop_all (input_of run s).posted)

  completion_comes : (l : ℕ) (s : LinkSource) → l < length run.layout.links → (link_of run l).source ≡ s
      → ((link_of run l).target ≡ Exit → ⊥) → (ends l).target.stage ≡ TargetStage.ended end_complete → brings_from run l s ≡ true
  completion_comes l (Block b) small es port e =
      let told = ended_so l end_complete small e in
      and_from (passes_on run l) (is_done (marks_of run b))
      (passes_so l b end_complete small es e told.by_rule)
      ((source_keeps run ends keep l b small es).after_done told.by_source)
  completion_comes l (Input b) small es port e =
      let told = ended_so l end_complete small e in
      let mine = (keep.inputs l b small es).after_complete told.by_source in
      and_from (is_complete_ending (input_of run b).ending) (is_empty (waits_over run b l))
      (ap is_complete_ending mine.0)
      (none_waits l b (link_of run l).target end_complete small refl e mine.1 port)

  fault_stage : (fault : ℕ) (stage : TargetStage Value) → has_seen_fault fault stage ≡ true → stage ≡ TargetStage.ended (end_fault fault)
  fault_stage fault (TargetStage.ended end_complete) e = cc
  fault_stage fault (TargetStage.ended Plain) e = cc
  fault_stage fault (TargetStage.ended (end_fault number)) e = ap (λ n. TargetStage.ended (end_fault n)) (eqb-true number fault e)
  fault_stage fault _ e = cc

  fault_comes : (fault l : ℕ) (s : LinkSource) → l < length run.layout.links → (link_of run l).source ≡ s
      → ((link_of run l).target ≡ Exit → ⊥) → (ends l).target.stage ≡ TargetStage.ended (end_fault fault) → faults_from run fault l s ≡ true
  fault_comes fault l (Block b) small es port e =
      let told = ended_so l (end_fault fault) small e in
      and_from (passes_on run l) (has_fault fault (marks_of run b))
      (passes_so l b (end_fault fault) small es e told.by_rule.passes)
      ((source_keeps run ends keep l b small es).after_fault fault told.by_source)
  fault_comes fault l (Input b) small es port e =
      let told = ended_so l (end_fault fault) small e in
      let mine = (keep.inputs l b small es).after_fault fault told.by_source in
      and_from (is_fault_ending fault (input_of run b).ending) (is_empty (waits_over run b l))
      (ap (is_fault_ending fault) mine.0 ∙ eq-eqb fault fault refl)
      (none_waits l b (link_of run l).target (end_fault fault) small refl e mine.1 port)

  no_exit_at_port : (b p : ℕ) (t : LinkTarget) → ends_at_port b p t ≡ true → t ≡ Exit → ⊥
  no_exit_at_port b p t at e = let P : LinkTarget → Type 0 = λ t. ends_at_port b p t ≡ true in let no : false ≡ true = subst P e at in cc

  no_exit_at : (b : ℕ) (t : LinkTarget) → ends_at b t ≡ true → t ≡ Exit → ⊥
  no_exit_at b t at e = let P : LinkTarget → Type 0 = λ t. ends_at b t ≡ true in let no : false ≡ true = subst P e at in cc

  cause_so : (b : ℕ) (mark : Mark) → has_seen_cause run ends b mark ≡ true → has_cause run b mark ≡ true
  cause_so b (Complete p) e =
      let seen : ℕ → Bool = λ l. ends_at_port b p (link_of run l).target && has_seen_completion (ends l).target.stage in
      let brings : ℕ → Bool = λ l. ends_at_port b p (link_of run l).target && brings_completion run l in
      let has : Bool = is_write_once (block_of run b).kind && not (is_empty (took_at p (marks_of run b))) in
      or_weaker (some seen (link_numbers run)) has (some brings (link_numbers run)) has
      (some_weaker_below seen brings (length run.layout.links)
      (λ l small e. let both = and_parts (ends_at_port b p (link_of run l).target) (has_seen_completion (ends l).target.stage) e in
      and_from (ends_at_port b p (link_of run l).target) (brings_completion run l) both.0
      (completion_comes l (link_of run l).source small refl (no_exit_at_port b p (link_of run l).target both.0)
      (completion_stage (ends l).target.stage both.1))))
      (λ e. e)
      e
  cause_so b (Fault fault) e =
      let seen : ℕ → Bool = λ l. ends_at b (link_of run l).target && has_seen_fault fault (ends l).target.stage in
      let brings : ℕ → Bool = λ l. ends_at b (link_of run l).target && brings_fault run fault l in
      or_weaker (is_number fault (own_fault run b)) (some seen (link_numbers run)) (is_number fault (own_fault run b)) (some brings (link_numbers run))
      (λ e. e)
      (some_weaker_below seen brings (length run.layout.links)
      (λ l small e. let both = and_parts (ends_at b (link_of run l).target) (has_seen_fault fault (ends l).target.stage) e in
      and_from (ends_at b (link_of run l).target) (brings_fault run fault l) both.0
      (fault_comes fault l (link_of run l).source small refl (no_exit_at b (link_of run l).target both.0)
      (fault_stage fault (ends l).target.stage both.1))))
      e
  cause_so b (Took _ _ _) e = refl
  cause_so b (Gave _ _) e = refl
  cause_so b Done e = refl

  refuses_so : (l : ℕ) (t : LinkTarget) → l < length run.layout.links → (link_of run l).target ≡ t
      → (why : Refusal) → (ends l).target.stage ≡ TargetStage.refused why → refuses_rightly run t ≡ true
  refuses_so l (Port b p) small et Refusal.port_ended e =
      or_left (has_ended p (marks_of run b)) (is_some (own_fault run b)) ((target_keeps run ends keep l b p small et).refuses Refusal.port_ended e)
  refuses_so l (Port b p) small et Refusal.own_fault e =
      or_right (has_ended p (marks_of run b)) (is_some (own_fault run b)) ((target_keeps run ends keep l b p small et).refuses Refusal.own_fault e)
  refuses_so l Exit small et why e = absurd ((keep.exits l small et).takes why e)

  refused_phase : (phase : Phase) → is_refused_phase phase ≡ true → phase ≡ Refused
  refused_phase Refused e = refl
  refused_phase _ e = cc

  rightly_refused : (l : ℕ) → l < length run.layout.links → is_rightly_refused run l ≡ true
  rightly_refused l small =
      or_not (is_refused run l) (refuses_rightly run (link_of run l).target)
      (λ e. let reason = (refusal l small).has_reason (refused_phase (ends l).phase (sym (keep.refused l) ∙ e)) in
      refuses_so l (link_of run l).target small refl reason.0 reason.1)

  pub ends_keep : Endings run
  ends_keep = record {
    last = every_below (stops_at run) (length run.layout.blocks) (λ b small. (keep.nodes b small).last);
    once = every_below (completes_once_at run) (length run.layout.blocks) (λ b small. (keep.nodes b small).once);
    done = every_below (ends_rightly run) (length run.layout.blocks) (λ b small. (keep.nodes b small).done);
    causes = every_below (has_causes run) (length run.layout.blocks)
        (λ b small. every_weaker (has_seen_cause run ends b) (has_cause run b) (marks_of run b) (cause_so b) (keep.nodes b small).causes);
    refusals = every_below (is_rightly_refused run) (length run.layout.links) rightly_refused;
  }
