use Rattle.std.proofs.Common.{set, ap, ◌∙◌}
use Rattle.flow_block.specs.Block.{BlockState}
use Rattle.flow_block.specs.Traits.{port_into}
use Rattle.flow_block.proofs.LinksFit.{arrived_out}
use Rattle.flow_block.proofs.OutcomesStay.{stays_as, taken_stays}
use Rattle.flow_block.proofs.RoomFits.{fits_port}
use Rattle.flow_block.proofs.TargetMoves.{hand_moves, wanted_near, taken_moves}
use Rattle.flow_block.proofs.traits.BlockTargetBlock.hand_over.Goals as goal

pub invariant_of-self : goal.invariant_of-self
invariant_of-self c =
    let same = ap (λ (block : BlockState). block.ports) c.self.view_is in
    let at = c.port_into-port.ensures.port ∙ ap (port_into c.args.origin) c.deref.ensures.value in
    let old = c.index_mut.result.now in
    fits_port c.self.invariant c.port_into-port.result old c.arrive.new.self
    (wanted_near c.self.inside.ports.items c.args.self.now.ports same c.args.origin c.port_into-port.result at old c.index_mut.ensures.value
    c.args._header c.requires)
    c.index_mut.ensures.value
    (arrived_out _ c.args.origin c.args.parcel old c.arrive.new.self c.arrive.ensures)

pub returns-clause-moves : goal.returns-clause-moves
returns-clause-moves c =
    let same = ap (λ (block : BlockState). block.ports) c.self.view_is in
    let at = c.port_into-port.ensures.port ∙ ap (port_into c.args.origin) c.deref.ensures.value in
    let inside = c.self.inside in
    let taken : BlockState = record {
      kind = inside.kind;
      size = inside.size;
      ports = set inside.ports.items c.port_into-port.result c.arrive.new.self;
      exits = inside.exits;
      copies = inside.copies;
      jobs = inside.jobs;
      recorded = inside.recorded.items;
      fault = inside.fault;
      stopped = inside.stopped;
    } in
    taken_moves taken c.copy_taken.new.self c.args.origin c.args.self.now.ports c.copy_taken.ensures
    (hand_moves c.self.inside.ports.items c.args.self.now.ports same c.args.origin c.port_into-port.result at c.index_mut.result.now
    c.index_mut.ensures.value c.args._header c.args.parcel c.arrive.new.self c.requires c.arrive.ensures)

pub returns-clause-outcome_stays : goal.returns-clause-outcome_stays
returns-clause-outcome_stays c =
    let inside = c.self.inside in
    let taken : BlockState = record {
      kind = inside.kind;
      size = inside.size;
      ports = set inside.ports.items c.port_into-port.result c.arrive.new.self;
      exits = inside.exits;
      copies = inside.copies;
      jobs = inside.jobs;
      recorded = inside.recorded.items;
      fault = inside.fault;
      stopped = inside.stopped;
    } in
    stays_as c.args.self.now c.copy_taken.new.self
    (ap (λ (block : BlockState). block.stopped) c.copy_taken.ensures ∙ taken_stays taken
    ∙ ap (λ (block : BlockState). block.stopped) c.self.view_is)
