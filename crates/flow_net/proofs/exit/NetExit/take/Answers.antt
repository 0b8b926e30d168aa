use Rattle.flow_net.proofs.ExitsGoOn.{kept_received, place_there}
use Rattle.flow_net.proofs.NoneAsked.{unasked_received}
use Rattle.flow_net.proofs.exit.NetExit.take.Goals as goal

pub receive_at-requires : goal.receive_at-requires
receive_at-requires g c =
    let port = c.args.self.now in
    place_there g.W.Runs.meaning port.engine.plan port.block port.link port.place port.there port.own port.placed
    port.engine.parts port.kept

pub invariant_of-self : goal.invariant_of-self
invariant_of-self g c =
    let port = c.args.self.now in
    let kept = kept_received g.W.Runs.meaning port.engine.plan port.block port.link port.place port.there port.own port.placed
    port.engine.parts c.receive_at.new.self c.receive_at.result c.receive_at.ensures.done c.receive_at.ensures.kept port.kept in
    let unasked = unasked_received port.place port.engine.parts c.receive_at.new.self c.receive_at.result c.receive_at.ensures.done c.receive_at.ensures.kept
    port.unasked in
    ((port.engine.routed, tt), (kept, (port.there, (port.own, (port.placed, (unasked, tt))))))
