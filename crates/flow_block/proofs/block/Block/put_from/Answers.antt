use Rattle.std.proofs.Common.{◌≡◌, Bool, true, false, refl, subst, sym, ap, ◌∙◌}
use Rattle.flow_outlet.specs.Outlet.{lacks_ids_for}
use Rattle.flow_block.specs.Block.{BlockState}
use Rattle.flow_block.specs.Jobs.{is_out}
use Rattle.flow_block.specs.JobsOut.{all_out}
use Rattle.flow_block.proofs.JobsBack.{all_used}
use Rattle.flow_block.proofs.block.Block.put_from.Goals as goal

not_true : (b : Bool) → (b ≡ true → ⊥) → b ≡ false
not_true true never = absurd (never refl)
not_true false never = refl

pub returns-clause-done : goal.returns-clause-done
returns-clause-done c =
    let out = subst (λ (block : BlockState). is_out c.args.ticket block.jobs ≡ true) (sym c.self.view_is) c.requires.out in
    let first = subst (λ (block : BlockState). c.args.ticket ≡ block.jobs.first) (sym c.self.view_is) c.requires.first in
    let count = c.count_out-count.result in
    let has = not_true (lacks_ids_for count c.self.inside.exits) (λ lacks. let failed = c.in_default.ensures.ids.1 lacks in cc) in
    let inside : BlockState = record {
      kind = c.self.inside.kind;
      size = c.self.inside.size;
      ports = c.self.inside.ports.items;
      exits = c.self.inside.exits;
      copies = c.self.inside.copies;
      jobs = c.self.inside.jobs;
      recorded = c.self.inside.recorded.items;
      fault = c.self.inside.fault;
      stopped = c.self.inside.stopped;
    } in
    (rw (c.bring.ensures, c.in_default.ensures.done) at c.put_all.ensures)
    ∙ all_used c.args.ticket c.args.answer inside count out first c.count_out-count.ensures has
    ∙ ap (all_out c.args.ticket c.args.answer) c.self.view_is
