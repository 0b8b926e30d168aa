use Rattle.std.proofs.Common.{inr}
use Rattle.flow_cli.proofs.ReportBehindCut.{ok_carries, err_carries, refused_of_any}
use Rattle.flow_cli.proofs.input.run_file.Goals as goal

pub returns-clause-reported : goal.returns-clause-reported
returns-clause-reported g c =
    ok_carries c.run_buffered.result _ _ c.run_buffered.ensures.reported (λ ran reported. (c.deref.result.now, reported))

pub returns-clause-refused : goal.returns-clause-refused
returns-clause-refused g c =
    err_carries c.run_buffered.result _ _ c.run_buffered.ensures.refused (λ refusal refused. inr (c.deref.result.now, refused_of_any c.deref.result.now _ c.args.bounds.workers c.args.bounds.limit refusal refused))
