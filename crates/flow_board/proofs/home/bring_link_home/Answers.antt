use Rattle.std.proofs.Common.{refl}
use Rattle.flow_core.proofs.InputsChange.{all_further, all_same}
use Rattle.flow_net.specs.Net.{layout_in, parts_of}
use Rattle.flow_board.proofs.TargetsTake.{at_rest, taken_further, none_taken}
use Rattle.flow_board.proofs.home.bring_link_home.Goals as goal

pub returns-in_ok-move_home-in-Given-clause-inputs_stay : goal.returns-in_ok-move_home-in-Given-clause-inputs_stay
returns-in_ok-move_home-in-Given-clause-inputs_stay g c =
    all_further (parts_of c.args.net.now) (parts_of c.move_home.new.net) (parts_of c.move_home-in-Given.new.net)
    c.move_home.ensures.inputs_stay c.move_home-in-Given.ensures.inputs_stay

pub returns-in_ok-move_home-in-Given-clause-goes_on : goal.returns-in_ok-move_home-in-Given-clause-goes_on
returns-in_ok-move_home-in-Given-clause-goes_on g c =
    taken_further g.W.Runs.meaning (layout_in c.args.net.now) (layout_in c.move_home.new.net) (parts_of c.args.net.now)
    (parts_of c.move_home.new.net) (parts_of c.move_home-in-Given.new.net) c.move_home.ensures.same_layout
    c.move_home.ensures.goes_on c.move_home-in-Given.ensures.goes_on

pub returns-in-Idle : goal.returns-in-Idle
returns-in-Idle g c = record {
  same_layout = refl;
  home = let found = c.phase.ensures in let at_home = at_rest c.phase.result c.in-Idle.is in cc;
  others = λ l other. refl;
  inputs_stay = all_same (parts_of c.args.net.now);
  goes_on = none_taken g.W.Runs.meaning (layout_in c.args.net.now) (parts_of c.args.net.now) (parts_of c.args.net.now) refl;
}
