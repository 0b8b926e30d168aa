-- What holds of each execution block stays so when its jobs begin and end.
use Rattle.std.specs.Prelude.{OnOk, OnErr}
use Rattle.std.proofs.Common.{◌≡◌, ℕ, ◌≤◌, ltb, Bool, true, false, ◌&&◌, List, [], ◌∷◌, ◌++◌, length, drop, Some, None, is_none, Result, Ok, Err, refl, ap, sym, subst, ◌∙◌, arith, length-append}
use Rattle.std.proofs.lemmas.Bool.{and_parts, ltb-true}
use Rattle.std.proofs.lemmas.List.{length-map, length-set}
use Rattle.flow_value.specs.declared.value.Value.{Value}
use Rattle.flow_link.specs.declared.draft.BlockKind.{BlockKind}
use Rattle.flow_link.specs.declared.draft.BlockKind.TheVariants.{Buffer, Action}
use Rattle.flow_link.specs.Plan.{has_work}
use Rattle.flow_link.proofs.ListTests.{never_both}
use Rattle.flow_intake.specs.Port.{PortState}
use Rattle.flow_intake.specs.Calls.{port_fails}
use Rattle.flow_block.specs.Block.{BlockState, held_by, with_jobs, keeps_results, begins, ends_job, yields_all, yields_where}
use Rattle.flow_block.specs.Jobs.{Slot, JobsState, out_count, place_of, is_front_back, brings, works_off}
use Rattle.flow_block.specs.Peeks.{may_begin, may_work}
use Rattle.flow_block.proofs.LanesBusy.{out_begun, out_set}
use Rattle.flow_block.proofs.ResultsKept.{keeps_goes, ports_stay, held_then}
use Rattle.flow_block.proofs.PortsChange.{kept_at_all}
use Rattle.flow_exec.specs.Execution.{Runs}

jobs_then : (kind : BlockKind) (values : List Value) (block : BlockState) → has_work kind ≡ true
    → (keeps_results kind values block).jobs ≡ works_off block.jobs
jobs_then Action values block works = refl
jobs_then Buffer values block works = absurd (cc)
jobs_then _ [] block works = refl
jobs_then _ (value ∷ values) block works = refl

-- it works on these, which it has lanes for and holds
record WorksOn (slots : List Slot) (block : BlockState) : Type 0 where
  one_port : length block.ports ≡ 1
  works : has_work block.kind ≡ true
  slots_are : block.jobs.slots ≡ slots
  within : out_count slots ≤ block.jobs.lanes
  held : length slots ≤ length (held_by block)

runs_on : (slots : List Slot) (block : BlockState) → WorksOn slots block
    → (block.fault ≡ None → is_front_back slots ≡ false) → Runs block
runs_on slots block on drained = record {
  one_port = on.one_port;
  works = on.works;
  within = subst (λ (slots : List Slot). out_count slots ≤ block.jobs.lanes) (sym on.slots_are) on.within;
  held = subst (λ (slots : List Slot). length slots ≤ length (held_by block)) (sym on.slots_are) on.held;
  drained = λ none. ap is_front_back on.slots_are ∙ drained none;
}

-- what is there comes out in order
all_runs : (slots : List Slot) (held : List Value) (block : BlockState) → held_by block ≡ held → WorksOn slots block
    → Runs (yields_all slots block)
all_runs [] held block holds on = runs_on [] block on (λ none. refl)
all_runs (None ∷ slots) held block holds on = runs_on (None ∷ slots) block on (λ none. refl)
all_runs (Some (Err number) ∷ slots) held block holds on =
    let same : length (held_by (yields_all (Some (Err number) ∷ slots) block)) ≡ length (held_by block) =
    ap (λ (vs : List Value). length vs)
    (kept_at_all (λ (port : PortState). port.waiting) port_fails block.ports 0 (λ port. refl)) in
    record {
      one_port = length-map block.ports port_fails ∙ on.one_port;
      works = on.works;
      within = subst (λ (slots : List Slot). out_count slots ≤ block.jobs.lanes) (sym on.slots_are) on.within;
      held = omega (arith, same, on.held, ap (λ (slots : List Slot). length slots) on.slots_are);
      drained = λ none. absurd (cc);
    }
all_runs (Some (Ok values) ∷ slots) [] block holds on = absurd (omega (arith, on.held, ap length holds))
all_runs (Some (Ok values) ∷ slots) (value ∷ rest) block holds on =
    let kept = keeps_results block.kind values block in
    let goes = keeps_goes block.kind values block in
    let jobs = jobs_then block.kind values block on.works in
    let left = held_then block.kind values block value rest on.one_port holds in
    let lanes = ap (λ (jobs : JobsState). jobs.lanes) jobs in
    all_runs slots rest kept left (record {
      one_port = ports_stay block.kind values block ∙ on.one_port;
      works = ap has_work goes.kind ∙ on.works;
      slots_are = ap (λ (jobs : JobsState). jobs.slots) jobs ∙ ap (drop 1) on.slots_are;
      within = omega (arith, on.within, lanes);
      held = omega (arith, on.held, ap length holds, ap length left);
    })

where_runs : (well : Bool) (block : BlockState) → is_none block.fault ≡ well → WorksOn block.jobs.slots block
    → Runs (yields_where well block)
where_runs true block well on = all_runs block.jobs.slots (held_by block) block refl on
where_runs false block fails on =
    runs_on block.jobs.slots block on (λ none. absurd (never_both (is_none block.fault) (ap is_none none) fails))

-- a result comes back
pub ends_runs : (ticket : ℕ) (made : Result (List Value) ℕ) (block : BlockState) → Runs block
    → Runs (ends_job ticket made block)
ends_runs ticket made block runs =
    let same = length-set block.jobs.slots (place_of ticket block.jobs) (Some made) in
    where_runs (is_none block.fault) (with_jobs (brings ticket made) block) refl (record {
      one_port = runs.one_port;
      works = runs.works;
      slots_are = refl;
      within = omega (arith, out_set block.jobs.slots (place_of ticket block.jobs) made, runs.within);
      held = omega (arith, same, runs.held);
    })

front_stays : (slots : List Slot) → is_front_back slots ≡ false → is_front_back (slots ++ None ∷ []) ≡ false
front_stays [] none = refl
front_stays (slot ∷ slots) none = none

-- a job begins, where it may
pub begins_runs : (block : BlockState) → may_begin block ≡ true → Runs block → Runs (begins block)
begins_runs block may runs =
    let slots = block.jobs.slots in
    let held = and_parts (may_work block && has_work block.kind && ltb (out_count slots) block.jobs.lanes)
    (ltb (length slots) (length (held_by block))) may in
    let lanes = and_parts (may_work block && has_work block.kind) (ltb (out_count slots) block.jobs.lanes) held.0 in
    let free = ltb-true (out_count slots) block.jobs.lanes lanes.1 in
    let waits = ltb-true (length slots) (length (held_by block)) held.1 in
    record {
      one_port = runs.one_port;
      works = runs.works;
      within = omega (arith, free, out_begun slots);
      held = omega (arith, waits, length-append slots (None ∷ []));
      drained = λ none. front_stays slots (runs.drained none);
    }

-- a result comes back, or is refused
pub returned_runs : {T E : Type 0} (result : Result T E) (ticket : ℕ) (made : Result (List Value) ℕ) (old new : BlockState)
    → OnOk result (new ≡ ends_job ticket made old) → OnErr result (new ≡ old) → Runs old → Runs new
returned_runs (Ok x) ticket made old new done kept runs = subst Runs (sym done) (ends_runs ticket made old runs)
returned_runs (Err e) ticket made old new done kept runs = subst Runs (sym kept) runs
