-- What each future holds: its port, block or actors, until it is ready.
use Rattle.std.specs.Prelude.{ℕ, Option, List, option_map}
use Rattle.flow_value.specs.declared.value.Value.{Value}
use Rattle.flow_poll.specs.declared.post.Post.{Post}
use Rattle.flow_poll.specs.declared.send_async.SendAsync.{SendAsync}
use Rattle.flow_poll.specs.declared.receiving.Receive.{Receive}
use Rattle.flow_poll.specs.declared.receiving.OutputAvailable.{OutputAvailable}
use Rattle.flow_poll.specs.declared.completing.Completion.{Completion}
use Rattle.flow_poll.specs.declared.running.Running.{Running}
use Rattle.flow_poll.specs.declared.crew.Crew.{Crew}

-- how many events a turn may do, and how many turns are left
pub record Limits : Type 0 where
  pub budget : ℕ
  pub turns : ℕ

module _ {T : Type 0} where
  -- the port by which a value is posted
  abbrev pub posting : Post T → Option T
  posting future = future.port

  -- the value that is to be posted, if it is not begun
  abbrev pub to_post : Post T → Option Value
  to_post future = future.value

  -- the port by which a value is sent
  abbrev pub sending : SendAsync T → Option T
  sending future = future.port

  -- the value that is to be sent, if it is not begun
  abbrev pub to_send : SendAsync T → Option Value
  to_send future = future.value

  -- the port at which a message is awaited
  abbrev pub receiving : Receive T → Option T
  receiving future = future.port

  -- the port that is watched for a message
  abbrev pub watching : OutputAvailable T → Option T
  watching future = future.port

  -- the block whose end is awaited
  abbrev pub completing : Completion T → Option T
  completing future = future.block

  -- the actor that is turned
  abbrev pub running : Running T → Option T
  running future = future.actor

  abbrev pub running_limits : Running T → Limits
  running_limits future = record { budget = future.budget; turns = future.turns }

  -- the actors that are turned, in their order
  abbrev pub crew_of : Crew T → Option (List T)
  crew_of future = option_map (λ actors. actors.items) future.actors

  abbrev pub crew_limits : Crew T → Limits
  crew_limits future = record { budget = future.budget; turns = future.turns }
