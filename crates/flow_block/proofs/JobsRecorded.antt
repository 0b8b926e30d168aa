-- What an action keeps when results are recorded one after another is what comes out at once.
use Rattle.std.proofs.Common.{◌≡◌, ℕ, ◌+◌, ◌-◌, ◌<◌, ◌≤◌, cond, List, [], ◌∷◌, ◌++◌, length, drop, set, get_or, Option, Some, None, is_some, Ok, Err, refl, ap, sym, ◌∙◌, arith, append_assoc}
use Rattle.std.proofs.lemmas.List.{append-nil, get_or_read, get_or-set_same, set-get_or, length-set}
use Rattle.flow_value.specs.declared.value.Value.{Value}
use Rattle.flow_link.specs.declared.draft.BlockKind.{BlockKind}
use Rattle.flow_link.specs.declared.draft.BlockKind.TheVariants.{Action}
use Rattle.flow_intake.specs.Port.{PortState, fresh_port}
use Rattle.flow_intake.specs.Calls.{takes_next, gives_room}
use Rattle.flow_outlet.specs.Outlet.{OutletState}
use Rattle.flow_block.specs.Block.{BlockState, port_in, port_at, keeps_results, records, with_jobs, yields_all}
use Rattle.flow_block.specs.BlockFits.{BlockFits, GaveOut, weight_out}
use Rattle.flow_block.specs.Jobs.{JobsState, Slot, works_off, comes_out}
use Rattle.flow_block.specs.JobsOut.{front_fault, fails_where, jobs_recorded, port_recorded}
use Rattle.flow_block.proofs.RoomFits.{fits_port}

-- Room at the port

one_back : (capacity : Option ℕ) (waiting : List Value) (weight load : ℕ) → 0 < length waiting
    → cond (is_some capacity) (length waiting + weight) 0 ≤ load
    → cond (is_some capacity) (length (drop 1 waiting) + weight) 0 ≤ load - 1
one_back None waiting weight load waits out = omega arith
one_back (Some room) [] weight load waits out = absurd (omega arith)
one_back (Some room) (value ∷ waiting) weight load waits out = omega arith

one_fewer : (waiting : List Value) (count : ℕ) → count + 1 ≤ length waiting → count ≤ length (drop 1 waiting)
one_fewer [] count fits = absurd (omega arith)
one_fewer (value ∷ waiting) count fits = omega arith

port_out : (slots : List Slot) (weight : ℕ) (port : PortState) → length slots ≤ length port.waiting → GaveOut weight port
    → GaveOut weight (port_recorded slots port)
port_out [] weight port held out = out
port_out (None ∷ slots) weight port held out = out
port_out (Some (Err number) ∷ slots) weight port held out = out
port_out (Some (Ok values) ∷ slots) weight port held out =
    port_out slots weight (gives_room 1 (takes_next port)) (one_fewer port.waiting (length slots) (omega (arith, held)))
    (one_back port.capacity port.waiting weight port.load (omega (arith, held)) out)

-- all that is there is recorded, and its room comes back
pub fits_recorded : {ports : List PortState} {exits : OutletState} {copied : ℕ} → BlockFits ports exits copied → (old : PortState)
    → old ≡ get_or ports 0 old → 0 < length ports → (slots : List Slot) → length slots ≤ length (port_in ports 0).waiting
    → BlockFits (set ports 0 (port_recorded slots old)) exits copied
fits_recorded {ports} {exits} {copied} fits old is some slots held =
    let read = get_or_read ports 0 old some is (fresh_port None) in
    let here : length slots ≤ length old.waiting = rw read held in
    fits_port fits 0 old (port_recorded slots old) some is (port_out slots (weight_out exits copied) old here)

-- What is recorded

abbrev recorded_by : List Slot → BlockState → BlockState
recorded_by slots block = record block {
  recorded = block.recorded ++ comes_out slots;
  jobs = jobs_recorded slots block.jobs;
  ports = set block.ports 0 (port_recorded slots (port_at 0 block));
}

abbrev failed : BlockState → BlockState
failed block = fails_where (front_fault block.jobs.slots) block

abbrev pub put_together : BlockState → List Value → JobsState → List PortState → BlockState
put_together block recorded jobs ports = failed (record block { recorded = recorded; jobs = jobs; ports = ports })

nothing_more : (slots : List Slot) (block : BlockState) → block.jobs.slots ≡ slots
    → put_together block (block.recorded ++ []) block.jobs (set block.ports 0 (port_at 0 block))
    ≡ fails_where (front_fault slots) block
nothing_more slots block same =
    ap (λ (recorded : List Value). put_together block recorded block.jobs (set block.ports 0 (port_at 0 block))) (append-nil block.recorded)
    ∙ ap (λ (ports : List PortState). put_together block block.recorded block.jobs ports) (set-get_or block.ports 0 (fresh_port None))
    ∙ ap (λ (slots : List Slot). fails_where (front_fault slots) block) same

set_twice : (ports : List PortState) (first then : PortState) → set (set ports 0 first) 0 then ≡ set ports 0 then
set_twice [] first then = refl
set_twice (port ∷ ports) first then = refl

abbrev kept : List Value → BlockState → BlockState
kept values block = with_jobs works_off (records values block)

one_recorded : (slots : List Slot) (values : List Value) (block : BlockState) → 0 < length block.ports
    → failed (recorded_by slots (kept values block)) ≡ failed (recorded_by (Some (Ok values) ∷ slots) block)
one_recorded slots values block some =
    let mid = kept values block in
    let first = gives_room 1 (takes_next (port_at 0 block)) in
    let read : port_at 0 mid ≡ first = get_or-set_same block.ports 0 first (fresh_port None) some in
    ap (λ (port : PortState). put_together mid (mid.recorded ++ comes_out slots) (jobs_recorded slots mid.jobs) (set mid.ports 0 (port_recorded slots port))) read
    ∙ ap (put_together mid (mid.recorded ++ comes_out slots) (jobs_recorded slots mid.jobs)) (set_twice block.ports first (port_recorded slots first))
    ∙ ap (λ (recorded : List Value). put_together mid recorded (jobs_recorded slots mid.jobs) (set block.ports 0 (port_recorded slots first))) (append_assoc block.recorded values (comes_out slots))

pub all_recorded : (slots : List Slot) (block : BlockState) → block.jobs.slots ≡ slots → block.kind ≡ Action
    → 0 < length block.ports → yields_all slots block ≡ failed (recorded_by slots block)
all_recorded [] block same action some = sym (nothing_more [] block same)
all_recorded (None ∷ slots) block same action some = sym (nothing_more (None ∷ slots) block same)
all_recorded (Some (Err number) ∷ slots) block same action some =
    sym (nothing_more (Some (Err number) ∷ slots) block same)
all_recorded (Some (Ok values) ∷ slots) block same action some =
    let mid = kept values block in
    ap (λ (kind : BlockKind). yields_all slots (keeps_results kind values block)) action
    ∙ all_recorded slots mid (ap (drop 1) same) action
    (omega (arith, some, length-set block.ports 0 (gives_room 1 (takes_next (port_at 0 block)))))
    ∙ one_recorded slots values block some

-- the parts that are recorded make a block, as that comes out at once
pub recorded_so : (block : BlockState) (recorded : List Value) (jobs : JobsState) (old new : PortState)
    → old ≡ get_or block.ports 0 old → 0 < length block.ports → block.kind ≡ Action
    → recorded ≡ block.recorded ++ comes_out block.jobs.slots → jobs ≡ jobs_recorded block.jobs.slots block.jobs
    → new ≡ port_recorded block.jobs.slots old
    → put_together block recorded jobs (set block.ports 0 new) ≡ yields_all block.jobs.slots block
recorded_so block recorded jobs old new is some action recorded_is jobs_is port_is =
    let slots = block.jobs.slots in
    let read : old ≡ port_at 0 block = get_or_read block.ports 0 old some is (fresh_port None) in
    let port : new ≡ port_recorded slots (port_at 0 block) = port_is ∙ ap (port_recorded slots) read in
    ap (λ (recorded : List Value). put_together block recorded jobs (set block.ports 0 new)) recorded_is
    ∙ ap (λ (jobs : JobsState). put_together block (block.recorded ++ comes_out slots) jobs (set block.ports 0 new)) jobs_is
    ∙ ap (λ (port : PortState). put_together block (block.recorded ++ comes_out slots) (jobs_recorded slots block.jobs) (set block.ports 0 port)) port
    ∙ sym (all_recorded slots block refl action some)
