use Rattle.std.proofs.Common.{◌∙◌, ap, length, map, sym}
use Rattle.std.proofs.lemmas.Result.{err_from_is_err_and}
use Rattle.flow_value.specs.declared.steps.Steps.{Steps}
use Rattle.flow_link.specs.Layout.{Layout}
use Rattle.flow_link.specs.Planned.{layout_of}
use Rattle.flow_core.specs.State.{fresh_net}
use Rattle.flow_net.specs.Net.{parts_of}
use Rattle.flow_link.specs.Posted.{input_of}
use Rattle.flow_record_text.specs.Records.{input_names}
use Rattle.flow_run.proofs.InputsAsPosted.{names_count, as_many, complete_numbered, posts_to_inputs, begins_as, no_plan, no_records}
use Rattle.flow_run.proofs.pipeline.begin.Goals as goal

pub new-requires : goal.new-requires
new-requires g c =
    let blocks = (layout_of c.in_ok-plan.plan).blocks in
    let posted = c.in_ok-posted in
    record {
      one_each = as_many posted.posted.items (length (input_names blocks)) posted.ensures.endings ∙ names_count blocks;
      numbered = complete_numbered posted.posted.items (length (input_names blocks)) posted.ensures.endings;
    }

pub returns-in-Ok-clause-begins : goal.returns-in-Ok-clause-begins
returns-in-Ok-clause-begins g c =
    let plan = layout_of c.in_ok-plan.plan in
    let net = c.in-Ok.net in
    begins_as c.in-Ok.ensures.planned
    (record {
      planned = c.in_ok-plan.ensures.planned;
      fresh = c.in-Ok.ensures.fresh
          ∙ ap (λ (l : Layout Steps). fresh_net l (map input_of c.in_ok-posted.posted.items)) c.in-Ok.ensures.planned
          ∙ ap (fresh_net plan) (sym c.in-Ok.ensures.made);
      posted = posts_to_inputs (g.R.Read.remaining c.args.reader) plan (parts_of net) c.in_ok-posted.posted.items c.in-Ok.ensures.made
          c.in_ok-posted.ensures.values c.in_ok-posted.ensures.endings;
    })

pub returns-in_err-plan-clause-refused : goal.returns-in_err-plan-clause-refused
returns-in_err-plan-clause-refused g c =
    let p = err_from_is_err_and c.from_residual.result c.from_residual.ensures.1 in
    rw (p.1, p.2) (no_plan c.args.text.now (g.R.Read.remaining c.args.reader) c.in_err-plan.field-0.0 c.in_err-plan.ensures.refused)

pub returns-in_err-posted-clause-refused : goal.returns-in_err-posted-clause-refused
returns-in_err-posted-clause-refused g c =
    let p = err_from_is_err_and c.from_residual-in_err-posted.result c.from_residual-in_err-posted.ensures.1 in
    rw (p.1, p.2)
    (no_records c.args.text.now (g.R.Read.remaining c.args.reader) c.in_err-posted.field-0.0
    (record {
      layout = layout_of c.in_ok-plan.plan;
      planned = c.in_ok-plan.ensures.planned;
      of_records = c.in_err-posted.ensures.of_records;
      explained = c.in_err-posted.ensures.refused;
    }))
