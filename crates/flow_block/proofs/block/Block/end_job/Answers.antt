use Rattle.std.proofs.Common.{sym, ◌∙◌, subst, OnOk, ◌≡◌}
use Rattle.flow_block.specs.Block.{BlockState}
use Rattle.flow_block.proofs.JobsEnd.{EndsAlone, ends_in_fault, ends_behind, ends_out, brought, never_told}
use Rattle.flow_block.proofs.block.Block.end_job.Goals.{then-is_some-via-then-is_some, then-is_some-via-else-is_some+then-not-is_first}
use Rattle.flow_block.proofs.block.Block.end_job.Goals as goal

pub returns-then-is_some : goal.returns-then-is_some
returns-then-is_some c =
    let ends : EndsAlone c.args.ticket c.args.answer c.args.self.now =
    elim c.then-is_some.branch [
      | then-is_some-via-then-is_some w ↦
          ends_in_fault c.args.ticket c.args.answer c.self.view_is (sym c.is_some.ensures ∙ w.if-is_some.true)
      | then-is_some-via-else-is_some+then-not-is_first w ↦
          ends_behind c.args.ticket c.args.answer c.self.view_is (sym c.is_some.ensures ∙ w.if-is_some.false)
          (sym w.is_first.ensures ∙ w.if-not-is_first.true) c.requires.out c.requires.drained
    ] in
    record {
      done = brought c.args.ticket c.args.answer c.self.view_is c.bring.new.self c.bring.ensures ∙ ends.done;
      kept = tt;
      back = tt;
      ids = never_told _ tt _ ends.has_ids;
    }

pub returns-then-ne-clause-done : goal.returns-then-ne-clause-done
returns-then-ne-clause-done c =
    let out = ends_out c.args.ticket c.args.answer c.self.view_is (sym c.is_some.ensures ∙ c.if-is_some.false) in
    subst (λ (after : BlockState). OnOk c.put_from.result (c.put_from.new.self ≡ after)) (sym out) c.put_from.ensures.done

pub returns-in-Ok-clause-done : goal.returns-in-Ok-clause-done
returns-in-Ok-clause-done c =
    c.in-Ok.ensures.done ∙ sym (ends_out c.args.ticket c.args.answer c.self.view_is (sym c.is_some.ensures ∙ c.if-is_some.false))
