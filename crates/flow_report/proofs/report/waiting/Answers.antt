use Rattle.std.proofs.Common.{◌≡◌, ◌∙◌, length, ap, sym}
use Rattle.flow_link.specs.declared.plan.Link.{Link}
use Rattle.flow_link.specs.Layout.{input_link}
use Rattle.flow_link.specs.Trace.{took_over, taken_over, taken_by, link_of, waits_over}
use Rattle.flow_report.specs.Report.{input_link_number, run_in}
use Rattle.flow_report.proofs.report.waiting.Goals as goal

pub took_all_posted-requires-clause-leads : goal.took_all_posted-requires-clause-leads
took_all_posted-requires-clause-leads c = c.input_link_of-link.ensures.leads c.requires.is_input

pub returns-then-took_all_posted : goal.returns-then-took_all_posted
returns-then-took_all_posted c =
    sym (ap (waits_over (run_in c.args.net.now) c.args.block) (sym c.input_link_of-link.ensures.number) ∙ c.took_all_posted.ensures c.if-took_all_posted.true)

pub returns : goal.returns
returns c =
    let run = run_in c.args.net.now in
    let number = c.input_link_of-link.ensures.number in
    let leads : link_of run (input_link_number run c.args.block) ≡ input_link c.args.block =
    ap (link_of run) (sym number) ∙ c.input_link_of-link.ensures.leads c.requires.is_input in
    let taken : c.count_taken-taken.result ≡ length (taken_over run (input_link_number run c.args.block)) =
    c.count_taken-taken.ensures ∙ ap (λ l. length (took_over l c.journal.result.now)) number
    ∙ ap (λ marks. length (took_over (input_link_number run c.args.block) marks)) c.journal.ensures
    ∙ ap (λ (link : Link). length (taken_by run (input_link_number run c.args.block) link.target)) (sym leads) in
    rw (taken, c.posted.ensures.posted c.requires.is_input) at c.not_taken.ensures
