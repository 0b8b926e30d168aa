use Rattle.std.proofs.Common.{◌≡◌, Some, sym, ◌∙◌}
use Rattle.flow_poll.proofs.WaitsFurther.{waits_further}
use Rattle.flow_poll.proofs.post.PostFuture.poll.Goals as goal

pub returns-in-None-clause-same : goal.returns-in-None-clause-same
returns-in-None-clause-same g c =
    let own : c.args.self.now.port ≡ Some c.in-Some.port = sym c.take.ensures.value ∙ c.in-Some.is in
    rw (c.yield_now.ensures.pending, own) (λ x given. (
      waits_further _ _ _ _ _ _ x.1
          (rw c.take-2.ensures.value at c.in-None.ensures.waits) (rw c.take-2.ensures.after at given.0),
      g.met.T.SendPort.goes_further _ _ _ c.send_once.ensures.goes_on given.1,
    ))
