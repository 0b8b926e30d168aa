use Rattle.std.proofs.Common.{◌≡◌, true, false, refl, ap, sym, ◌∙◌}
use Rattle.flow_block.specs.Block.{BlockState}
use Rattle.flow_block.specs.JobsOut.{is_front_made, front_fault, fails_where}
use Rattle.flow_block.proofs.JobsOut.{next_out, next_ready, fewer_left, nothing_put, last_out}
use Rattle.flow_block.proofs.block.Block.put_all.Goals as goal

pub loop-preserved : goal.loop-preserved
loop-preserved c =
    let made : is_front_made c.loop.self.jobs.slots ≡ true = sym c.put_front.ensures.more ∙ c.loop-test.true in
    record {
      ready = rw c.put_front.ensures.put (next_ready c.loop.self made c.loop.invariant.ready);
      rest = rw c.put_front.ensures.put (next_out c.loop.self c.loop.invariant.ready.works made) ∙ c.loop.invariant.rest;
    }

pub loop-smaller : goal.loop-smaller
loop-smaller c =
    let made : is_front_made c.loop.self.jobs.slots ≡ true = sym c.put_front.ensures.more ∙ c.loop-test.true in
    rw c.put_front.ensures.put (fewer_left c.loop.self.jobs.slots c.loop.self refl c.loop.invariant.ready.works made)

pub returns : goal.returns
returns c =
    let slots = c.loop.self.jobs.slots in
    let none : is_front_made slots ≡ false = sym c.put_front.ensures.more ∙ c.loop-test.false in
    let here : c.put_front.new.self ≡ c.loop.self = c.put_front.ensures.put ∙ nothing_put slots c.loop.self none in
    c.fail_front.ensures
    ∙ ap (λ (block : BlockState). fails_where (front_fault block.jobs.slots) block) here
    ∙ sym (last_out slots c.loop.self none)
    ∙ c.loop.invariant.rest
