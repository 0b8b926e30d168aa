use Rattle.flow_board_rows.proofs.SentBack.{sent_back}
use Rattle.flow_board_rows.proofs.polls.send_later.Goals as goal

pub returns : goal.returns
returns g c =
    sent_back g.P.SendPort.sends g.P.SendPort.has_id g.P.SendPort.goes_on c.new-sending.result c.wait.new.future c.args.port c.into_port.result
    (g.met.P.SendPort.stays c.into_port.result) c.wait.ensures.same c.new-sending.ensures.port c.into_port.ensures
