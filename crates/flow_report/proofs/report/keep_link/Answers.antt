use Rattle.std.proofs.Common.{◌≡◌, ◌∙◌, ap, sym}
use Rattle.flow_link.specs.Trace.{gave_over, given_by, given_over, link_of, marks_of}
use Rattle.flow_report.specs.Printed.{list_text}
use Rattle.flow_report.specs.Report.{run_in}
use Rattle.flow_report.proofs.ListsAgree.{source_is}
use Rattle.flow_report.proofs.report.keep_link.Goals as goal

pub returns-then-hands_all_on-clause-fits : goal.returns-then-hands_all_on-clause-fits
returns-then-hands_all_on-clause-fits c =
    let run = run_in c.args.net.now in
    let given : given_over run c.args.link ≡ gave_over c.args.link (marks_of run c.args.block) =
    ap (given_by run c.args.link) (source_is c.args.block (link_of run c.args.link).source c.requires.from) in
    c.add_link.ensures.fits run c.requires.fits (c.is_of_port.ensures run c.requires.fits c.if-is_of_port.true ∙ sym (ap list_text (given ∙ c.hands_all_on.ensures c.if-hands_all_on.true)))

pub returns-then-hands_all_on-clause-text : goal.returns-then-hands_all_on-clause-text
returns-then-hands_all_on-clause-text c = λ kept.
    let run = run_in c.args.net.now in
    c.add_link.ensures.same ∙ c.is_of_port.ensures run c.requires.fits c.if-is_of_port.true ∙ sym (ap list_text (c.hands_all_on.ensures c.if-hands_all_on.true))

pub returns-then-leads_alone-clause-fits : goal.returns-then-leads_alone-clause-fits
returns-then-leads_alone-clause-fits c =
    let run = run_in c.args.net.now in
    let given : given_over run c.args.link ≡ gave_over c.args.link (marks_of run c.args.block) =
    ap (given_by run c.args.link) (source_is c.args.block (link_of run c.args.link).source c.requires.from) in
    c.keep_given.ensures.fits run c.requires.fits (ap (gave_over c.args.link) c.journal.ensures ∙ sym given)

pub returns-then-leads_alone-clause-text : goal.returns-then-leads_alone-clause-text
returns-then-leads_alone-clause-text c = λ kept. c.keep_given.ensures.text kept ∙ ap (λ marks. list_text (gave_over c.args.link marks)) c.journal.ensures
