use Rattle.std.proofs.Common.{refl, ◌∙◌}
use Rattle.flow_net.specs.Net.{layout_in, parts_of}
use Rattle.flow_board.proofs.EventsGrow.{back_callers}
use Rattle.flow_crew.proofs.ComesBack.{if_err, if_ok}
use Rattle.flow_open.proofs.Opening.{extends_over, left_back, scatters}
use Rattle.flow_open.proofs.open.run_open.Goals as goal

pub run_and_gather-requires-clause-whole : goal.run_and_gather-requires-clause-whole
run_and_gather-requires-clause-whole g c κs within =
    let scattered = c.in-Ok.ensures in
    record { tasks = scattered.tasks_of; entries = scattered.entries_of; exits = scattered.exits_of; there = scattered.there }

pub returns-in-Ok-clause-same_layout : goal.returns-in-Ok-clause-same_layout
returns-in-Ok-clause-same_layout g c =
    if_ok _ _ (λ opened is. is.gathered.same_layout ∙ c.in-Ok.ensures.same_layout) c.run_and_gather.result c.run_and_gather.ensures.ran

pub returns-in-Ok-clause-lawful : goal.returns-in-Ok-clause-lawful
returns-in-Ok-clause-lawful g c =
    if_ok _ _ (λ opened is. is.gathered.lawful) c.run_and_gather.result c.run_and_gather.ensures.ran

pub returns-in-Ok-clause-extends : goal.returns-in-Ok-clause-extends
returns-in-Ok-clause-extends g c =
    let scattered = c.in-Ok.ensures in
    if_ok _ _
    (λ opened is.
    extends_over c.args.net c.in-Ok.scattered.board (parts_of opened.net) scattered.same_layout scattered.extends is.gathered.journals)
    c.run_and_gather.result c.run_and_gather.ensures.ran

pub returns-in-Ok-clause-ran : goal.returns-in-Ok-clause-ran
returns-in-Ok-clause-ran g c =
    let scattered = c.in-Ok.ensures in
    let its = c.in-Ok.scattered in
    if_ok _ _
    (λ opened is. record {
      before = record { board = its.board; tasks = its.tasks; entries = its.entries; exits = its.exits };
      scattered = scatters g.W.Runs.meaning c.args.net (record { board = its.board; tasks = its.tasks; entries = its.entries; exits = its.exits })
          (record { tasks = scattered.tasks_of; entries = scattered.entries_of; exits = scattered.exits_of; there = scattered.there })
          scattered.same_layout scattered.posted scattered.extends scattered.goes_on scattered.untouched scattered.received;
      ran = is;
    })
    c.run_and_gather.result c.run_and_gather.ensures.ran

pub returns-in-Ok-clause-back : goal.returns-in-Ok-clause-back
returns-in-Ok-clause-back g c =
    let scattered = c.in-Ok.ensures in
    let its = c.in-Ok.scattered in
    if_err _ _
    (λ found is.
    left_back g.W.Runs.meaning _ _ c.args.net (record { board = its.board; tasks = its.tasks; entries = its.entries; exits = its.exits }) _ _ found
    (scatters g.W.Runs.meaning c.args.net (record { board = its.board; tasks = its.tasks; entries = its.entries; exits = its.exits })
    (record { tasks = scattered.tasks_of; entries = scattered.entries_of; exits = scattered.exits_of; there = scattered.there })
    scattered.same_layout scattered.posted scattered.extends scattered.goes_on scattered.untouched scattered.received)
    is)
    c.run_and_gather.result c.run_and_gather.ensures.left

pub returns-in-Err-clause-back : goal.returns-in-Err-clause-back
returns-in-Err-clause-back g c =
    let refused = c.in-Err.ensures in (
      record {
        same_layout = refused.back;
        inputs_stay = refused.inputs_stay;
        journals = refused.extends_back;
        callers = back_callers (layout_in c.args.net) g.W.Runs.meaning (parts_of c.args.net) (parts_of c.in-Err.net) refused.come_back;
      },
      (refused.lawful, (refl, refl)),
    )
