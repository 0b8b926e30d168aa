-- What is sent after a wait is sent from the beginning.
use Rattle.std.proofs.Common.{◌≡◌, Bool, true, Option, Some, None, Result, Ok, Err, [], refl, sym}
use Rattle.std.specs.Prelude.{IfSome}
use Rattle.flow_value.specs.declared.value.Value.{Value}
use Rattle.flow_poll.specs.declared.send.Delivery.{Delivery}
use Rattle.flow_poll.specs.declared.send.SendRefusal.{SendRefusal}
use Rattle.flow_poll.specs.declared.send.SendRefusal.TheVariants as refusal
use Rattle.flow_poll.specs.Sends.{Begun, SendView, Begins, Delivered, IsSent, IsFinished, Sends, Waits}

module _ (has_id : Bool) (old : SendView) (begun : Begun) (last : SendView) (id : has_id ≡ true) (free : old.begun ≡ []) where
  -- what became of a value that was begun is what comes of sending it
  is_sent : (answer : Result Delivery SendRefusal) → Delivered old.accepted begun answer last → IsSent has_id old begun answer last
  is_sent (Ok delivered) came = (free, (id, came))
  is_sent (Err refusal.Memory) came = (free, (id, came))
  is_sent (Err (refusal.NotBegun back fault)) came = absurd came

module _ (has_id : Bool) (old mid last : SendView) (begun : Begun) where
  -- so it is where the value was begun, and finished later
  begun_further : (answer : Result Delivery SendRefusal) → Begins begun has_id old mid → IsFinished mid answer last
      → IsSent has_id old begun answer last
  begun_further answer began came = is_sent has_id old begun last began.id began.free answer
      (rw began.new_is at (came begun (rw began.new_is refl)))

  -- and of what a look answers then
  pub looked_further : (answer : Option (Result Delivery SendRefusal)) → Begins begun has_id old mid
      → IfSome answer (λ told. IsFinished mid told last) → IfSome answer (λ told. IsSent has_id old begun told last)
  looked_further None began came = tt
  looked_further (Some answer) began came = begun_further answer began came

module _ (has_id : Bool) (old mid last : SendView) (may_postpone : Bool) where
  -- after a wait it goes on as it would from the beginning
  pub waits_further : (value : Option Value) (answer : Result Delivery SendRefusal) → Waits has_id old may_postpone value mid
      → IsFinished mid answer last → Sends has_id old may_postpone value answer last
  waits_further None answer same came = rw (sym same) came
  waits_further (Some value) answer began came =
      begun_further has_id old mid last (record { value = value; may_postpone = may_postpone }) answer began came
