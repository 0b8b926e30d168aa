use Rattle.std.proofs.Common.{refl, subst, sym}
use Rattle.std.proofs.lemmas.Result.{err_from_is_err_and}
use Rattle.flow_net.specs.Net.{layout_in, parts_of}
use Rattle.flow_run.specs.Ran.{IsUnreported}
use Rattle.flow_run.proofs.InputsAsPosted.{begins_in, goes_on, has_ended, has_run, no_end, no_report}
use Rattle.flow_run.proofs.pipeline.run_through.Goals as goal

pub returns-clause-reported : goal.returns-clause-reported
returns-clause-reported g c =
    let old = c.in_ok-net.net in
    let new = c.in-Ok.ran.0 in
    let how = c.in-Ok.ran.1 in
    let text = c.args.text.now in
    let records = g.R.Read.remaining c.args.reader in
    let workers = c.args.workers in
    let limit = c.args.limit in
    let begins = c.in_ok-net.ensures.begins in
    let ran = c.in-Ok.ensures in
    record {
      start = parts_of old;
      begins = begins_in text records workers limit old new begins ran.runs_on;
      has_run = has_run text records workers limit old new begins ran.runs_on ran.lawful
          (λ is_one. goes_on text records workers limit old new how (ran.alone is_one));
      has_ended = has_ended text records workers limit old new how ran.runs_on ran.still ran.quiet ran.alone;
      written = c.in_ok-write_report.ensures.written;
      complete = c.is_complete-complete.ensures;
    }

pub returns-in-Err-clause-refused : goal.returns-in-Err-clause-refused
returns-in-Err-clause-refused g c =
    subst (IsUnreported c.args.text.now (g.R.Read.remaining c.args.reader) c.args.workers c.args.limit) (sym c.refusal_of_run.ensures)
    (no_end c.args.text.now (g.R.Read.remaining c.args.reader) c.args.workers c.args.limit c.in_ok-net.net c.in-Err.fault
    c.in_ok-net.ensures.begins c.in-Err.ensures.left c.in-Err.ensures.left_alone)

pub returns-in_err-write_report-clause-refused : goal.returns-in_err-write_report-clause-refused
returns-in_err-write_report-clause-refused g c =
    let p = err_from_is_err_and c.from_residual-in_err-write_report.result c.from_residual-in_err-write_report.ensures.1 in
    let old = c.in_ok-net.net in
    let new = c.in-Ok.ran.0 in
    let how = c.in-Ok.ran.1 in
    let text = c.args.text.now in
    let records = g.R.Read.remaining c.args.reader in
    let workers = c.args.workers in
    let limit = c.args.limit in
    let begins = c.in_ok-net.ensures.begins in
    let ran = c.in-Ok.ensures in
    rw (p.1, p.2)
    (no_report text records workers limit c.in_err-write_report.field-0.0 c.in_err-write_report.ensures.refused
    (record {
      is_write = refl;
      layout = layout_in new;
      start = parts_of old;
      now = parts_of new;
      settled = how;
      begins = begins_in text records workers limit old new begins ran.runs_on;
      has_run = has_run text records workers limit old new begins ran.runs_on ran.lawful
          (λ is_one. goes_on text records workers limit old new how (ran.alone is_one));
      has_ended = has_ended text records workers limit old new how ran.runs_on ran.still ran.quiet ran.alone;
    }))
