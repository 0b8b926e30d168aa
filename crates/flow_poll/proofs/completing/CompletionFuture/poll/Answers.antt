use Rattle.std.proofs.Common.{◌≡◌, Some, sym, ◌∙◌}
use Rattle.flow_poll.proofs.CompletesLater.{completes_later}
use Rattle.flow_poll.proofs.completing.CompletionFuture.poll.Goals as goal

pub returns-in-None-clause-same : goal.returns-in-None-clause-same
returns-in-None-clause-same g c =
    let own : c.args.self.now.block ≡ Some c.in-Some.block = sym c.take.ensures.value ∙ c.in-Some.is in
    rw (c.yield_now.ensures.pending, own) (λ x given.
    completes_later _ _ _ _ _ _ c.in-None.ensures.learns c.in-None.ensures.stays given)
