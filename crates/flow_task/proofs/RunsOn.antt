-- A block that runs completes no port and does not stop.
use Rattle.std.proofs.Common.{◌≡◌, ℕ, ◌==◌, Bool, true, false, not, ◌&&◌, ◌||◌, cond, List, [], ◌∷◌, Option, Some, None, is_none, refl}
use Rattle.std.proofs.lemmas.Bool.{and_parts}
use Rattle.std.specs.List.{list_any}
use Rattle.flow_link.specs.Lists.{every, is_empty}
use Rattle.flow_link.proofs.TestsTell.{every_tells}
use Rattle.flow_intake.specs.Ended.{fault_at_ends, first_some, has_seen_completion}
use Rattle.flow_intake.specs.Port.{PortState, coming, fresh_port}
use Rattle.flow_intake.specs.PortLaw.{has_ended}
use Rattle.flow_outlet.specs.Outlet.{is_at_rest}
use Rattle.flow_group.specs.Tuple.{has_run_dry, is_join_complete, all_ended as join_ended}
use Rattle.flow_block.specs.Block.{BlockState, is_join, port_at}
use Rattle.flow_block.specs.Peeks.{all_ended, could_stop, fault_at_ports, fault_cause, holds_nothing, is_complete, is_copied_out, is_out_at_rest, is_worked_off, is_written, link_fault}
use Rattle.flow_task.specs.Turns.{StaysOpen, is_running, runs_on}

not_so : (b : Bool) → not b ≡ true → b ≡ false
not_so false e = refl
not_so true e = absurd (cc)

none_so : {A : Type 0} (found : Option A) → is_none found ≡ true → found ≡ None
none_so None e = refl
none_so (Some x) e = absurd (cc)

fails_last : (b c : Bool) → c ≡ false → (b && c) ≡ false
fails_last true c e = e
fails_last false c e = refl

fails_second : (a b c d e f : Bool) → b ≡ false → (a && b && c && d && e && f) ≡ false
fails_second true b c d e f h = rw h refl
fails_second false b c d e f h = refl

fails_first : (b c : Bool) → b ≡ false → (b && c) ≡ false
fails_first b c e = rw e refl

fails_either : (b c : Bool) → b ≡ false → c ≡ false → (b || c) ≡ false
fails_either b c e f = rw e f

fails_both : (which b c : Bool) → b ≡ false → c ≡ false → cond which b c ≡ false
fails_both true b c e f = e
fails_both false b c e f = f

none_both : {A : Type 0} (which : Bool) (found : Option A) → found ≡ None → cond which found None ≡ None
none_both true found e = e
none_both false found e = refl

neither : (own later : Option ℕ) → own ≡ None → later ≡ None → first_some own later ≡ None
neither None later e f = f
neither (Some number) later e f = absurd (cc)

record RunsOn (port : PortState) : Type 0 where
  open_yet : has_ended port.refusing ≡ false
  completion : has_seen_completion port.ends ≡ false
  fault : fault_at_ends port.ends ≡ None

runs_so : (port : PortState) → runs_on port ≡ true → RunsOn port
runs_so port e =
    let first = and_parts (not (has_ended port.refusing)) (not (has_seen_completion port.ends) && is_none (fault_at_ends port.ends)) e in
    let then = and_parts (not (has_seen_completion port.ends)) (is_none (fault_at_ends port.ends)) first.1 in
    record {
      open_yet = not_so (has_ended port.refusing) first.0;
      completion = not_so (has_seen_completion port.ends) then.0;
      fault = none_so (fault_at_ends port.ends) then.1;
    }

no_fault : (ports : List PortState) → every runs_on ports ≡ true → link_fault ports ≡ None
no_fault [] e = refl
no_fault (port ∷ ports) e =
    let both = and_parts (runs_on port) (every runs_on ports) e in
    rw (runs_so port both.0).fault (no_fault ports both.1)

none_ended : (ports : List PortState) → every runs_on ports ≡ true → is_empty ports ≡ false → all_ended ports ≡ false
none_ended [] e some = absurd (cc)
none_ended (port ∷ ports) e some =
    fails_first (has_ended port.refusing) (all_ended ports) (runs_so port (and_parts (runs_on port) (every runs_on ports) e).0).open_yet

none_of_join_ended : (ports : List PortState) → every runs_on ports ≡ true → is_empty ports ≡ false → join_ended ports ≡ false
none_of_join_ended [] e some = absurd (cc)
none_of_join_ended (port ∷ ports) e some =
    fails_first (has_ended port.refusing) (join_ended ports) (runs_so port (and_parts (runs_on port) (every runs_on ports) e).0).open_yet

none_dry : (ports : List PortState) → every runs_on ports ≡ true → list_any has_run_dry ports ≡ false
none_dry [] e = refl
none_dry (port ∷ ports) e =
    let both = and_parts (runs_on port) (every runs_on ports) e in
    fails_either (has_run_dry port) (list_any has_run_dry ports)
    (fails_first (has_ended port.refusing) (is_empty port.waiting) (runs_so port both.0).open_yet)
    (none_dry ports both.1)

pub running_stays_open : (block : BlockState) → is_running block ≡ true → StaysOpen block
running_stays_open block e =
    let all = and_parts (is_none block.fault && not (is_written block)) (not (is_empty block.ports) && every runs_on block.ports) e in
    let own = and_parts (is_none block.fault) (not (is_written block)) all.0 in
    let ports = and_parts (not (is_empty block.ports)) (every runs_on block.ports) all.1 in
    let written = not_so (is_written block) own.1 in
    let some = not_so (is_empty block.ports) ports.0 in
    let none_came : fault_at_ports block.ports ≡ None = rw (no_fault block.ports ports.1) refl in
    let no_cause : fault_cause block ≡ None =
    neither block.fault (cond (is_worked_off block) (fault_at_ports block.ports) None) (none_so block.fault own.0)
    (none_both (is_worked_off block) (fault_at_ports block.ports) none_came) in
    let incomplete : is_complete block ≡ false =
    fails_both (is_join block.kind) (is_join_complete block.ports) (all_ended block.ports || is_written block)
    (fails_either (join_ended block.ports) (list_any has_run_dry block.ports) (none_of_join_ended block.ports ports.1 some) (none_dry block.ports ports.1))
    (fails_either (all_ended block.ports) (is_written block) (none_ended block.ports ports.1 some) written) in
    record {
      complete = λ p low.
          let port = runs_so (port_at p block) (every_tells runs_on block.ports (fresh_port None) p ports.1 low) in
          fails_last (not (has_ended (port_at p block).refusing) && coming (port_at p block) == 0)
          (has_seen_completion (port_at p block).ends || is_written block)
          (fails_either (has_seen_completion (port_at p block).ends) (is_written block) port.completion written);
      fault = rw no_cause (none_both (could_stop block && is_out_at_rest block) None refl);
      finish = fails_second (could_stop block) (is_complete block) (holds_nothing block.ports) (is_empty block.exits.left) (is_at_rest block.exits)
          (is_copied_out block.copies) incomplete;
    }
