-- The calls that name a link, where the caller plays the far end.
use Rattle.std.specs.Prelude.{ℕ, Bool, true, false, cond, ◌==◌, List, [], ◌∷◌, ◌++◌, length, position, Option, Some, None, unwrap_or}
use Rattle.flow_value.specs.declared.value.Value.{Value}
use Rattle.flow_value.specs.declared.message.MessageStatus.{MessageStatus}
use Rattle.flow_value.specs.declared.message.MessageStatus.TheVariants.{Accepted, Declined, Postponed, NotAvailable, DecliningPermanently}
use Rattle.flow_link.specs.declared.stage.TargetStage.{TargetStage}
use Rattle.flow_link.specs.declared.stage.TargetStage.TheVariants as stage
use Rattle.flow_intake.specs.Port.{EndState, PortState, fresh_end, link_in, stage_at}
use Rattle.flow_intake.specs.Calls.{put_stage, refused_by, accepts, puts_off, leaves_for, takes, consumes, next_place, is_postponed}

-- the place of a link's end
abbrev pub place_of : ℕ → List EndState → Option ℕ
place_of link ends = position (λ end. end.link == link) ends

abbrev pub with_link_at : Option ℕ → ℕ → PortState → PortState
with_link_at (Some _) link port = port
with_link_at None link port = record port { ends = port.ends ++ fresh_end link ∷ [] }

-- the port with an end of this link
abbrev pub with_link : ℕ → PortState → PortState
with_link link port = with_link_at (place_of link port.ends) link port

-- the place of the link's end there
abbrev pub place_in : ℕ → PortState → ℕ
place_in link port = unwrap_or (place_of link port.ends) (length port.ends)

abbrev pub stands : (TargetStage → Bool) → Option ℕ → PortState → Bool
stands test (Some place) port = test (stage_at place port)
stands test None port = false

-- the link's end stands so
abbrev pub stands_at : (TargetStage → Bool) → ℕ → PortState → Bool
stands_at test link port = stands test (place_of link port.ends) port

-- nothing is under way over the link
abbrev pub is_free : TargetStage → Bool
is_free stage.Free = true
is_free _ = false

abbrev pub free_at : Option ℕ → PortState → Bool
free_at (Some place) port = is_free (stage_at place port)
free_at None port = true

abbrev pub is_free_over : ℕ → PortState → Bool
is_free_over link port = free_at (place_of link port.ends) port

abbrev pub closes_link : Option ℕ → PortState → PortState
closes_link (Some place) port = record port { ends = put_stage place (refused_by port.refusing) port.ends }
closes_link None port = port

-- the port after it answered so to an offer of this message over this link
abbrev pub answered : ℕ → ℕ → MessageStatus → PortState → PortState
answered link i Accepted port = accepts (place_in link port) i (with_link link port)
answered link i Postponed port = puts_off (place_in link port) i (with_link link port)
answered link i DecliningPermanently port = closes_link (place_of link port.ends) port
answered link i Declined port = port
answered link i NotAvailable port = port

-- the message that was wanted arrives over this link
abbrev pub arrives_at : Option ℕ → Value → PortState → PortState
arrives_at (Some place) value port = takes value (put_stage place stage.Free port.ends) port
arrives_at None value port = port

abbrev pub arrives : ℕ → Value → PortState → PortState
arrives link value port = arrives_at (place_of link port.ends) value port

-- the offer over this link is withdrawn, or was given elsewhere
abbrev pub drops_at : Option ℕ → PortState → PortState
drops_at (Some place) port = leaves_for stage.Free place port
drops_at None port = port

abbrev pub drops : ℕ → PortState → PortState
drops link port = drops_at (place_of link port.ends) port

-- the offer that it consumes next, and the port when it does
abbrev pub wish_from : ℕ → TargetStage → Option (ℕ × ℕ)
wish_from link (stage.Postponed i) = Some (link, i)
wish_from link _ = None

abbrev pub wish_at : Option ℕ → PortState → Option (ℕ × ℕ)
wish_at (Some place) port = wish_from (link_in place port.ends) (stage_at place port)
wish_at None port = None

abbrev pub next_wish : PortState → Option (ℕ × ℕ)
next_wish port = wish_at (next_place port) port

abbrev pub consumes_at : Option ℕ → PortState → PortState
consumes_at (Some place) port = cond (is_postponed (stage_at place port)) (consumes place port) port
consumes_at None port = port

abbrev pub consumes_next : PortState → PortState
consumes_next port = consumes_at (next_place port) port
