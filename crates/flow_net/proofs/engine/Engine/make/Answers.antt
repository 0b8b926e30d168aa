use Rattle.std.proofs.Common.{Err, not, ap}
use Rattle.std.proofs.lemmas.Bool.{and_parts}
use Rattle.flow_link.specs.Plan.{has_work}
use Rattle.flow_link.specs.Planned.{layout_of}
use Rattle.flow_block.specs.Peeks.{may_work}
use Rattle.flow_block.specs.Planned.{block_makes}
use Rattle.flow_core.specs.State.{node_at}
use Rattle.flow_exec.specs.Works.{works_of}
use Rattle.flow_moves.proofs.MerelyKept.{blocks_planned}
use Rattle.flow_net.proofs.EventsDone.{unmade_may_not, ids_told, memory_told}
use Rattle.flow_net.proofs.BlocksTell.{node_there}
use Rattle.flow_net.proofs.engine.Engine.make.Goals as goal

pub make-requires-clause-alone : goal.make-requires-clause-alone
make-requires-clause-alone g c =
    let old = c.args.self.now in
    let layout = layout_of old.plan in
    let meaning = works_of g.W.Runs.meaning layout in
    (blocks_planned layout meaning old.parts c.requires.kept c.args.number c.requires.enabled.there).alone

pub make-requires-clause-ports : goal.make-requires-clause-ports
make-requires-clause-ports g c =
    let old = c.args.self.now in
    let layout = layout_of old.plan in
    let meaning = works_of g.W.Runs.meaning layout in
    (blocks_planned layout meaning old.parts c.requires.kept c.args.number c.requires.enabled.there).some_port

pub make-requires-clause-many : goal.make-requires-clause-many
make-requires-clause-many g c =
    let old = c.args.self.now in
    let layout = layout_of old.plan in
    let meaning = works_of g.W.Runs.meaning layout in
    let block = (node_at old.parts c.args.number).block in
    (blocks_planned layout meaning old.parts c.requires.kept c.args.number c.requires.enabled.there).many
    (and_parts (may_work block) (not (has_work block.kind)) c.requires.enabled.would).0

pub returns-clause-done : goal.returns-clause-done
returns-clause-done g c =
    let layout = layout_of c.args.self.now.plan in
    c.in_ok-make.ensures.done (block_makes layout (works_of g.W.Runs.meaning layout) c.args.number)

pub returns-clause-may : goal.returns-clause-may
returns-clause-may g c =
    let layout = layout_of c.args.self.now.plan in
    record {
      enabled = c.requires.enabled;
      ids = c.in_ok-make.ensures.ids (block_makes layout (works_of g.W.Runs.meaning layout) c.args.number);
    }

pub returns-in_err-make-clause-used_up : goal.returns-in_err-make-clause-used_up
returns-in_err-make-clause-used_up g c is =
    let old = c.args.self.now in
    let layout = layout_of old.plan in
    let told = ids_told c.from_residual.result c.in_err-make.field-0.0 c.from_residual.ensures.1 is in
    unmade_may_not layout (works_of g.W.Runs.meaning layout) old.parts c.args.number
    (c.in_err-make.ensures.used_up (ap Err told))

pub returns-in_err-make-clause-memory : goal.returns-in_err-make-clause-memory
returns-in_err-make-clause-memory g c is =
    let layout = layout_of c.args.self.now.plan in
    let told = memory_told c.from_residual.result c.in_err-make.field-0.0 c.from_residual.ensures.1 is in
    record {
      enabled = c.requires.enabled;
      ids = c.in_err-make.ensures.memory (ap Err told)
          (block_makes layout (works_of g.W.Runs.meaning layout) c.args.number);
    }

pub make-requires-clause-there : goal.make-requires-clause-there
make-requires-clause-there g c =
    node_there g.W.Runs.meaning c.args.self.now.plan c.args.self.now.parts c.requires.kept c.args.number c.requires.enabled.there

pub make-requires-clause-waits : goal.make-requires-clause-waits
make-requires-clause-waits g c = c.requires.enabled.would
