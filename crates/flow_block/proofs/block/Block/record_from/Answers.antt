use Rattle.std.proofs.Common.{◌≡◌, ◌<◌, ◌≤◌, length, subst, sym, ap, ◌∙◌, arith}
use Rattle.std.proofs.lemmas.List.{length-set}
use Rattle.flow_link.specs.declared.draft.BlockKind.TheVariants.{Action}
use Rattle.flow_block.specs.Block.{BlockState, held_by, port_in}
use Rattle.flow_block.specs.Jobs.{brings}
use Rattle.flow_block.specs.JobsOut.{all_out}
use Rattle.flow_block.proofs.JobsRecorded.{fits_recorded, recorded_so}
use Rattle.flow_block.proofs.block.Block.record_from.Goals as goal

pub invariant_of-self-2 : goal.invariant_of-self-2
invariant_of-self-2 c =
    let alone = subst (λ (block : BlockState). length block.ports ≡ 1) (sym c.self.view_is) c.requires.alone in
    let held = subst (λ (block : BlockState). length block.jobs.slots ≤ length (held_by block)) (sym c.self.view_is) c.requires.held in
    let there : 0 < length c.self.inside.ports.items = omega arith in
    let fewer : length c.bring.new.self.slots ≤ length (port_in c.self.inside.ports.items 0).waiting = rw c.bring.ensures (rw length-set held) in
    rw c.record_all.ensures.port (fits_recorded c.self.invariant c.index_mut.result.now c.index_mut.ensures.value there c.bring.new.self.slots fewer)

pub returns-clause-done : goal.returns-clause-done
returns-clause-done c =
    let alone = subst (λ (block : BlockState). length block.ports ≡ 1) (sym c.self.view_is) c.requires.alone in
    let action = subst (λ (block : BlockState). block.kind ≡ Action) (sym c.self.view_is) c.requires.records in
    let there : 0 < length c.self.inside.ports.items = omega arith in
    let back : BlockState = record {
      kind = c.self.inside.kind;
      size = c.self.inside.size;
      ports = c.self.inside.ports.items;
      exits = c.self.inside.exits;
      copies = c.self.inside.copies;
      jobs = brings c.args.ticket c.args.answer c.self.inside.jobs;
      recorded = c.self.inside.recorded.items;
      fault = c.self.inside.fault;
      stopped = c.self.inside.stopped;
    } in
    c.fail_front.ensures
    ∙ recorded_so back c.record_all.new.recorded.items c.record_all.new.jobs c.index_mut.result.now c.record_all.new.port
    c.index_mut.ensures.value there action
    (rw (c.reserve.ensures.items, c.bring.ensures) at c.record_all.ensures.recorded)
    (rw c.bring.ensures at c.record_all.ensures.jobs)
    (rw c.bring.ensures at c.record_all.ensures.port)
    ∙ ap (all_out c.args.ticket c.args.answer) c.self.view_is
