use Rattle.std.proofs.Common.{ap, ◌∙◌}
use Rattle.flow_plan_text.specs.Passes.{first_from, is_wrong_in}
use Rattle.flow_plan_text.proofs.FirstInPass.{position_view}
use Rattle.flow_plan_text.proofs.network.first_in.Goals as goal

pub returns : goal.returns
returns c =
    let test = is_wrong_in c.args.check c.args.part in
    c.first_failing.ensures ∙ (position_view test c.section.result.now ∙ ap (first_from test 0) c.section.ensures)
