-- What holds of each execution block stays so when it is asked whether it has ended, when it faults and when it gives or keeps a
-- message: what waits at its port stays.
use Rattle.std.proofs.Common.{◌≡◌, ℕ, ◌+◌, Bool, true, false, cond, List, length, map, is_some, refl, ap, sym, subst, ◌∙◌, arith}
use Rattle.std.proofs.lemmas.List.{length-map}
use Rattle.flow_value.specs.declared.value.Value.{Value}
use Rattle.flow_link.specs.declared.draft.BlockKind.{BlockKind}
use Rattle.flow_link.specs.declared.draft.BlockKind.TheVariants.{BatchedJoin}
use Rattle.flow_link.specs.declared.trace.Outcome.{Outcome}
use Rattle.flow_link.specs.declared.trace.Outcome.TheVariants.{Done, Faulted}
use Rattle.flow_link.specs.Plan.{has_work}
use Rattle.flow_intake.specs.Port.{PortState}
use Rattle.flow_intake.specs.Calls.{gives_room, port_closes}
use Rattle.flow_outlet.specs.ByLink.{consumes, consumed}
use Rattle.flow_outlet.specs.Fits.{weight_of}
use Rattle.flow_block.specs.Block.{BlockState, held_by, stops_by, is_batched_join, row_count}
use Rattle.flow_block.specs.Copies.{copies_weight}
use Rattle.flow_block.specs.Peeks.{may_finish}
use Rattle.flow_block.specs.Traits.{outcome_of, settles, faults, shares, may_take, gives_over, may_take_copy, copies_home, given_by, may_keep, keeps_head, may_keep_copy, keeps_copy, reserved_by, releases_its_copy, released_by}
use Rattle.flow_block.proofs.PortsChange.{kept_at_all}
use Rattle.flow_block.proofs.RoomFits.{no_rows, none_beside}
use Rattle.flow_exec.specs.Execution.{Runs}

-- other ports, at which the same waits
ports_run : (change : PortState → PortState) (block new : BlockState)
    → ((port : PortState) → (change port).waiting ≡ port.waiting)
    → new.ports ≡ map change block.ports → new.kind ≡ block.kind → new.jobs ≡ block.jobs → new.fault ≡ block.fault
    → Runs block → Runs new
ports_run change block new same ports kind jobs fault runs =
    let held : length (held_by (record block { ports = map change block.ports })) ≡ length (held_by block) =
    ap (λ (vs : List Value). length vs) (kept_at_all (λ (port : PortState). port.waiting) change block.ports 0 same) in
    let moved : Runs (record block { ports = map change block.ports }) = record {
      one_port = length-map block.ports change ∙ runs.one_port;
      works = runs.works;
      within = runs.within;
      held = omega (arith, runs.held, held);
      drained = runs.drained;
    } in
    rw (ports, kind, jobs, fault) record {
      one_port = moved.one_port;
      works = moved.works;
      within = moved.within;
      held = moved.held;
      drained = moved.drained;
    }

stop_runs : (how : Outcome) (block : BlockState) → Runs block → Runs (stops_by how block)
stop_runs how block runs = ports_run port_closes block (stops_by how block) (λ port. refl) refl refl refl refl runs

settle_where : (finishes : Bool) (block : BlockState) → Runs block → Runs (cond finishes (stops_by Done block) block)
settle_where true block runs = stop_runs Done block runs
settle_where false block runs = runs

pub settle_runs : (old new : BlockState) → new ≡ settles old → Runs old → Runs new
settle_runs old new is runs = subst Runs (sym is) (settle_where (may_finish old) old runs)

fault_where : (number : ℕ) (ended : Bool) (block : BlockState) → Runs block
    → Runs (cond ended block (stops_by (Faulted number) block))
fault_where number true block runs = runs
fault_where number false block runs = stop_runs (Faulted number) block runs

pub fault_runs : (number : ℕ) (old new : BlockState) → new ≡ faults number old → Runs old → Runs new
fault_runs number old new is runs = subst Runs (sym is) (fault_where number (is_some (outcome_of old)) old runs)

-- room comes back

never_joined : (kind : BlockKind) → has_work kind ≡ true → is_batched_join kind ≡ false
never_joined BatchedJoin works = absurd (cc)
never_joined kind works = refl

give_head : (link header : ℕ) (there : Bool) (block : BlockState) → Runs block
    → Runs (cond there (gives_over link header block) block)
give_head link header true block runs =
    let given = consumes link header block.exits in
    let back = none_beside given.room (weight_of given.groups + copies_weight block.copies) (row_count block.kind (consumed link header block.exits)) 0
    block.ports (no_rows block.kind (consumed link header block.exits) (never_joined block.kind runs.works)) in
    ports_run (gives_room given.room) block (gives_over link header block) (λ port. refl) (sym back) refl refl refl runs
give_head link header false block runs = runs

give_copy : (link header : ℕ) (there : Bool) (block : BlockState) → Runs block
    → Runs (cond there (copies_home link header block) block)
give_copy link header true block runs =
    ports_run _ block (copies_home link header block) (λ port. refl) refl refl refl refl runs
give_copy link header false block runs = runs

give_where : (link header : ℕ) (one : Bool) (block : BlockState) → Runs block → Runs (given_by one link header block)
give_where link header true block runs = give_head link header (may_take link header block.exits) block runs
give_where link header false block runs = give_copy link header (may_take_copy link header block.copies) block runs

pub give_runs : (link header : ℕ) (old new : BlockState) → new ≡ given_by (shares old) link header old → Runs old → Runs new
give_runs link header old new is runs = subst Runs (sym is) (give_where link header (shares old) old runs)

keep_head : (link header : ℕ) (keep : Bool) (block : BlockState) → Runs block
    → Runs (cond keep (keeps_head link header block) block)
keep_head link header true block runs = record {
  one_port = runs.one_port;
  works = runs.works;
  within = runs.within;
  held = runs.held;
  drained = runs.drained;
}
keep_head link header false block runs = runs

keep_copy : (link header : ℕ) (keep : Bool) (block : BlockState) → Runs block
    → Runs (cond keep (keeps_copy link header block) block)
keep_copy link header true block runs =
    ports_run _ block (keeps_copy link header block) (λ port. refl) refl refl refl refl runs
keep_copy link header false block runs = runs

keep_where : (link header : ℕ) (one : Bool) (block : BlockState) → Runs block → Runs (reserved_by one link header block)
keep_where link header true block runs = keep_head link header (may_keep link header block.exits) block runs
keep_where link header false block runs = keep_copy link header (may_keep_copy link header block.copies) block runs

pub keep_runs : (link header : ℕ) (old new : BlockState) → new ≡ reserved_by (shares old) link header old → Runs old → Runs new
keep_runs link header old new is runs = subst Runs (sym is) (keep_where link header (shares old) old runs)

release_where : (link header : ℕ) (one : Bool) (block : BlockState) → Runs block → Runs (released_by one link header block)
release_where link header true block runs = record {
  one_port = runs.one_port;
  works = runs.works;
  within = runs.within;
  held = runs.held;
  drained = runs.drained;
}
release_where link header false block runs =
    ports_run _ block (releases_its_copy link header block) (λ port. refl) refl refl refl refl runs

pub release_runs : (link header : ℕ) (old new : BlockState) → new ≡ released_by (shares old) link header old → Runs old → Runs new
release_runs link header old new is runs = subst Runs (sym is) (release_where link header (shares old) old runs)
