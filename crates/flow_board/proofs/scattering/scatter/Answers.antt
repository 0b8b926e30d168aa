use Rattle.std.proofs.Common.{◌≡◌, inl, inr, refl, length, map, take, sym, ap, ◌∙◌, subst}
use Rattle.std.proofs.lemmas.Result.{IfErr-weaker, IfOk-weaker}
use Rattle.flow_link.specs.Layout.{Layout}
use Rattle.flow_core.specs.InOrder.{journals_of}
use Rattle.flow_core.specs.Inputs.{InputsStay}
use Rattle.flow_core.proofs.InputsChange.{all_further}
use Rattle.flow_core.specs.State.{NetState}
use Rattle.flow_exec.specs.Works.{works_of}
use Rattle.flow_moves.proofs.MerelyKept.{lawful_merely}
use Rattle.flow_moves.proofs.PlansRun.{plan_runs}
use Rattle.flow_net.specs.Net.{layout_in, parts_of}
use Rattle.flow_task.specs.Begun.{JournalsExtend, begun_in}
use Rattle.flow_board.specs.Home.{HasComeBack, HasComeHome}
use Rattle.flow_task.specs.Orders.{HasLookedAround}
use Rattle.flow_task.specs.Parts.{marks_in}
use Rattle.flow_board.proofs.EventsGrow.{home_extends, same_extends}
use Rattle.flow_board.proofs.scattering.scatter.Goals as goal

pub returns-in-Ok-clause-goes_on : goal.returns-in-Ok-clause-goes_on
returns-in-Ok-clause-goes_on g c =
    let home = c.bring_home in
    let net = c.args.net in
    IfOk-weaker c.scatter_home.result (λ parts. begun_in parts.board ≡ parts_of home.new.net)
    (λ parts. HasComeHome g.W.Runs.meaning (layout_in net) (parts_of net) (begun_in parts.board))
    (λ parts is.
    subst (λ (state : NetState). HasComeHome g.W.Runs.meaning (layout_in net) (parts_of net) state) (sym is) home.ensures.goes_on)
    c.scatter_home.ensures.begun

pub returns-in-Ok-clause-posted : goal.returns-in-Ok-clause-posted
returns-in-Ok-clause-posted g c =
    let home = c.bring_home in
    let net = c.args.net in
    IfOk-weaker c.scatter_home.result (λ parts. begun_in parts.board ≡ parts_of home.new.net)
    (λ parts. InputsStay (parts_of net) (begun_in parts.board))
    (λ parts is. subst (λ (state : NetState). InputsStay (parts_of net) state) (sym is) home.ensures.inputs_stay)
    c.scatter_home.ensures.begun

pub returns-in-Ok-clause-extends : goal.returns-in-Ok-clause-extends
returns-in-Ok-clause-extends g c =
    let home = c.bring_home in
    let net = c.args.net in
    let layout = layout_in net in
    IfOk-weaker c.scatter_home.result (λ parts. begun_in parts.board ≡ parts_of home.new.net)
    (λ parts. JournalsExtend layout (parts_of net) (begun_in parts.board))
    (λ parts is. subst (JournalsExtend layout (parts_of net)) (sym is)
    (home_extends layout g.W.Runs.meaning (parts_of net) (parts_of home.new.net) home.ensures.goes_on))
    c.scatter_home.ensures.begun

pub returns-in-Ok-clause-extends_back : goal.returns-in-Ok-clause-extends_back
returns-in-Ok-clause-extends_back g c =
    let home = c.bring_home in
    let net = c.args.net in
    let layout = layout_in net in
    IfErr-weaker c.scatter_home.result (λ refused. journals_of (parts_of refused.0) ≡ journals_of (parts_of home.new.net))
    (λ refused. JournalsExtend layout (parts_of net) (parts_of refused.0))
    (λ refused same. same_extends layout (parts_of net) (parts_of home.new.net) (parts_of refused.0) same
    (home_extends layout g.W.Runs.meaning (parts_of net) (parts_of home.new.net) home.ensures.goes_on))
    c.scatter_home.ensures.journals_back

pub returns-in-Err-clause-extends_back : goal.returns-in-Err-clause-extends_back
returns-in-Err-clause-extends_back g c =
    let home = c.bring_home in
    let net = c.args.net in
    home_extends (layout_in net) g.W.Runs.meaning (parts_of net) (parts_of home.new.net) home.ensures.goes_on

pub returns-in-Ok-clause-come_back : goal.returns-in-Ok-clause-come_back
returns-in-Ok-clause-come_back g c =
    let home = c.bring_home in
    let net = c.args.net in
    let mid = home.new.net in
    IfErr-weaker c.scatter_home.result (λ refused. HasLookedAround g.W.Runs.meaning (layout_in mid) (parts_of mid) (parts_of refused.0))
    (λ refused. HasComeBack g.W.Runs.meaning (layout_in net) (parts_of net) (parts_of refused.0))
    (λ refused looked.
    ∣ (
      parts_of mid,
      (
        home.ensures.goes_on,
        inr (subst (λ (layout : Layout _). HasLookedAround g.W.Runs.meaning layout (parts_of mid) (parts_of refused.0)) home.ensures.same_layout looked),
      ),
    ) ∣₁)
    c.scatter_home.ensures.looked_back

pub returns-in-Err-clause-come_back : goal.returns-in-Err-clause-come_back
returns-in-Err-clause-come_back g c =
    let home = c.bring_home in
    ∣ (parts_of home.new.net, (home.ensures.goes_on, inl refl)) ∣₁

pub returns-in-Ok-clause-journals : goal.returns-in-Ok-clause-journals
returns-in-Ok-clause-journals g c =
    let home = c.bring_home in
    let net = c.args.net in
    IfOk-weaker c.scatter_home.result
    (λ parts. map marks_in (take (length (layout_in home.new.net).blocks) parts.tasks.items) ≡ journals_of (begun_in parts.board))
    (λ parts. map marks_in (take (length (layout_in net).blocks) parts.tasks.items) ≡ journals_of (begun_in parts.board))
    (λ parts told.
    ap (λ (layout : Layout _). map marks_in (take (length layout.blocks) parts.tasks.items)) (sym home.ensures.same_layout) ∙ told)
    c.scatter_home.ensures.journals

pub returns-in-Ok-clause-inputs_stay : goal.returns-in-Ok-clause-inputs_stay
returns-in-Ok-clause-inputs_stay g c =
    let home = c.bring_home in
    IfErr-weaker c.scatter_home.result (λ refused. InputsStay (parts_of home.new.net) (parts_of refused.0))
    (λ refused. InputsStay (parts_of c.args.net) (parts_of refused.0))
    (λ refused stay. all_further (parts_of c.args.net) (parts_of home.new.net) (parts_of refused.0) home.ensures.inputs_stay stay)
    c.scatter_home.ensures.inputs_stay

pub returns-in-Err-clause-lawful : goal.returns-in-Err-clause-lawful
returns-in-Err-clause-lawful g c =
    let net = c.bring_home.new.net in
    lawful_merely (layout_in net) (works_of g.W.Runs.meaning (layout_in net)) (parts_of net) net.kept (plan_runs net.engine.plan)
