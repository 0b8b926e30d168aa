use Rattle.flow_cli.proofs.ReportBehindCut.{ok_carries, err_carries, reported_in, refused_in}
use Rattle.flow_cli.proofs.input.run_input.Goals as goal

pub returns-clause-reported : goal.returns-clause-reported
returns-clause-reported g c =
    ok_carries c.run_whole.result _ _ c.run_whole.ensures.reported
    (λ ran reported. reported_in (g.R.Read.remaining c.args.reader) _ c.deref.result.now c.split_input.result.0.now c.split_input.result.1.now c.in_ok-text.ensures.whole c.deref.ensures.value c.split_input.ensures _ _ _ ran reported)

pub returns-clause-refused : goal.returns-clause-refused
returns-clause-refused g c =
    err_carries c.run_whole.result _ _ c.run_whole.ensures.refused
    (λ refusal refused. refused_in (g.R.Read.remaining c.args.reader) _ c.deref.result.now c.split_input.result.0.now c.split_input.result.1.now c.in_ok-text.ensures.whole c.deref.ensures.value c.split_input.ensures _ _ refusal refused)
