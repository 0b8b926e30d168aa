use Rattle.std.proofs.lemmas.Result.{err_from_is_err_and}
use Rattle.flow_cli.proofs.ReportBehindCut.{of_any, told_of_any, unwritten}
use Rattle.flow_cli.proofs.input.run_buffered.Goals as goal

pub returns-in_err-send-in-Ok-run_and_keep-clause-refused : goal.returns-in_err-send-in-Ok-run_and_keep-clause-refused
returns-in_err-send-in-Ok-run_and_keep-clause-refused g c =
    let p = err_from_is_err_and c.from_residual.result c.from_residual.ensures.1 in
    rw (p.1, p.2, c.in_err-send-in-Ok-run_and_keep.ensures) (unwritten (of_any _ c.in-Ok-run_and_keep.ensures.reported))

pub returns-clause-refused : goal.returns-clause-refused
returns-clause-refused g c =
    told_of_any c.args.text.now _ c.args.bounds.workers c.args.bounds.limit _ _ _ c.told.ensures.memory c.told.ensures.other c.in-Err.ensures.refused
