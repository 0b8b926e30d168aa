-- What a block does by the calls that all blocks have in common, told by its own data: how it has ended, where it stands at
-- each link, and what each call answers and makes of it.
use Rattle.std.specs.Prelude.{◌≡◌, ℕ, ◌+◌, ◌<◌, ◌^◌, ◌==◌, ltb, leb, Bool, true, false, not, ◌&&◌, cond, List, [], ◌∷◌, length, take, position, Option, Some, None, is_some, unwrap_or, Result, Ok, Err, refl}
use Rattle.flow_value.specs.declared.value.Value.{Value}
use Rattle.flow_link.specs.BlockCalls.{BlockCall}
use Rattle.flow_link.specs.SourceCalls.{SourceCall, NothingOut, is_under_way}
use Rattle.flow_link.specs.TargetCalls.{TargetCall, is_awaited, stage_noted}
use Rattle.flow_value.specs.declared.message.MessageStatus.{MessageStatus}
use Rattle.flow_link.specs.declared.draft.BlockKind.{BlockKind}
use Rattle.flow_link.specs.declared.kinds.BlockUnit.{BlockUnit}
use Rattle.flow_link.specs.declared.kinds.BlockUnit.TheVariants as unit
use Rattle.flow_link.specs.Kinds.{unit_of}
use Rattle.flow_link.specs.Lists.{below}
use Rattle.flow_link.specs.Plan.{has_work, is_broadcast, is_one_taker}
use Rattle.flow_link.specs.declared.stage.Refusal.TheVariants.{PortEnded}
use Rattle.flow_link.specs.declared.stage.SourceStage.{SourceStage}
use Rattle.flow_link.specs.declared.stage.SourceStage.TheVariants as source
use Rattle.flow_link.specs.declared.stage.TargetStage.{TargetStage}
use Rattle.flow_link.specs.declared.stage.TargetStage.TheVariants as target
use Rattle.flow_link.specs.declared.trace.Outcome.{Outcome}
use Rattle.flow_link.specs.declared.trace.Outcome.TheVariants.{Done, Faulted}
use Rattle.flow_link.specs.declared.traits.MakeFault.{MakeFault}
use Rattle.flow_link.specs.declared.traits.MakeFault.TheVariants as make_fault
use Rattle.flow_link.specs.declared.traits.Wish.{Wish}
use Rattle.flow_link.specs.declared.traits.Wish.TheVariants as wish
use Rattle.flow_link.specs.declared.traits.WishAnswer.{WishAnswer}
use Rattle.flow_link.specs.declared.traits.WishAnswer.TheVariants as answer
use Rattle.flow_intake.specs.Port.{PortState, stage_at as port_stage, link_in, is_coming}
use Rattle.flow_intake.specs.Calls.{answer_to, first_of, next_place, refused_by, put_stage, port_closes, is_at as is_place}
use Rattle.flow_intake.specs.ByLink.{place_of as port_place, answered as port_answered, arrives, drops, next_wish, consumes_next}
use Rattle.flow_outlet.specs.End.{end_in}
use Rattle.flow_outlet.specs.Outlet.{OutletState, end_at, is_empty, is_at, may_offer, lacks_ids}
use Rattle.flow_outlet.specs.ByLink.{place_of, named_at, offers_at, answered, is_there as is_head_there, has_room, tests_consume, consumed, consumes, tests_reserve, reserved, reserves, releases}
use Rattle.flow_outlet.specs.declared.ends.OutEnd.{OutEnd}
use Rattle.flow_spread.specs.declared.end.CopyEnd.{CopyEnd}
use Rattle.flow_spread.specs.End.{end_in as copy_in}
use Rattle.flow_spread.specs.Spread.{SpreadState, end_at as copy_at, next_place as next_copy, prepares, offers as offers_copy}
use Rattle.flow_spread.specs.ByLink.{place_of as copy_place, named_at as copy_named, answered as copy_answered, tests_consume as tests_copy, is_there, gives_home, tests_reserve as asks_copy, reserved as is_element, reserves as reserves_copy, releases as releases_copy}
use Rattle.flow_group.specs.Tuple.{tuple_of}
use Rattle.flow_block.specs.Block.{BlockState, port_in, port_at, with_port, held_by, row_of, next_group, makes_row, makes_tuple, copies_next, copies_taken, puts_out, stops_by, comes_back, with_copies}
use Rattle.flow_block.specs.Peeks.{may_make, may_finish, would_copy}

-- How it ends

-- how it stopped. A block that may finish, and was not asked yet, has told nothing
abbrev pub outcome_of : BlockState → Option Outcome
outcome_of block = block.stopped

-- a block that may finish stops as done when it is asked
abbrev pub settles : BlockState → BlockState
settles block = cond (may_finish block) (stops_by Done block) block

-- a block that has stopped does not fault
abbrev pub faults : ℕ → BlockState → BlockState
faults number block = cond (is_some (outcome_of block)) block (stops_by (Faulted number) block)

-- What it makes without a function

-- what makes outputs by itself, and with how many ports. A batched join does not, since it does not tell by itself in which order
-- its messages came in, and blocks with a function do not
abbrev pub alone_by_unit : BlockUnit → ℕ → Bool
alone_by_unit unit.Message ports = ports == 1
alone_by_unit unit.Row ports = ports == 1
alone_by_unit unit.Tuple ports = ltb 0 ports
alone_by_unit unit.Group ports = false
alone_by_unit unit.Copy ports = ports == 1
alone_by_unit unit.OneCopy ports = false

abbrev pub makes_alone : BlockKind → ℕ → Bool
makes_alone kind ports = not (has_work kind) && alone_by_unit (unit_of kind) ports

-- what it needs is there. A broadcast goes on where its element was put off, too: that is forgotten with the element
abbrev pub has_turn : Bool → BlockState → Bool
has_turn true block = would_copy block
has_turn false block = may_make block

abbrev pub makes_itself : BlockState → Bool
makes_itself block = makes_alone block.kind (length block.ports) && has_turn (is_broadcast block.kind) block

-- a buffer hands on what waits longest at its one port, a batch makes its next row of what waits there, a join its next tuple, and
-- a broadcast copies what waits longest from now on
abbrev pub made_by_unit : BlockUnit → BlockState → List Value
made_by_unit unit.Message block = take 1 (held_by block)
made_by_unit unit.Row block = row_of (next_group block) ∷ []
made_by_unit unit.Tuple block = tuple_of block.ports ∷ []
made_by_unit unit.Group block = take 1 (held_by block)
made_by_unit unit.Copy block = take 1 (held_by block)
made_by_unit unit.OneCopy block = take 1 (held_by block)

abbrev pub made_next : BlockState → List Value
made_next block = made_by_unit (unit_of block.kind) block

abbrev pub goes_on_by_unit : BlockUnit → BlockState → BlockState
goes_on_by_unit unit.Message block = puts_out (take 1 (held_by block)) block
goes_on_by_unit unit.Row block = makes_row block
goes_on_by_unit unit.Tuple block = makes_tuple block
goes_on_by_unit unit.Group block = puts_out (take 1 (held_by block)) block
goes_on_by_unit unit.Copy block = copies_next (first_of (held_by block)) block
goes_on_by_unit unit.OneCopy block = puts_out (take 1 (held_by block)) block

abbrev pub makes_its_next : BlockState → BlockState
makes_its_next block = goes_on_by_unit (unit_of block.kind) block

abbrev pub lacks_its_ids : BlockState → Bool
lacks_its_ids block =
    cond (is_broadcast block.kind) (leb (2 ^ 59) (block.copies.id + 1)) (lacks_ids (made_next block) block.exits)

-- message ids are used up, or they are not
pub record Makes (lacks : Bool) (old : BlockState) : Type 0 where
  pub by_itself : makes_itself old ≡ true
  pub ids : lacks_its_ids old ≡ lacks

-- memory is out, and there are ids. A broadcast takes no memory for that
pub record LacksMemory (old : BlockState) : Type 0 where
  pub by_itself : makes_itself old ≡ true
  pub copies_none : is_broadcast old.kind ≡ false
  pub ids : lacks_its_ids old ≡ false

abbrev pub Made : Result Bool MakeFault → BlockState → BlockState → Type 0
Made (Ok true) old new = Makes false old × (new ≡ makes_its_next old)
Made (Ok false) old new = (makes_itself old ≡ false) × (new ≡ old)
Made (Err make_fault.Ids) old new = Makes true old × (new ≡ old)
Made (Err make_fault.Memory) old new = LacksMemory old × (new ≡ old)

abbrev pub Acts : BlockState → BlockCall → BlockState → Type 0
Acts old (BlockCall.completed port) new = new ≡ with_port port port_closes old
Acts old (BlockCall.faulted number) new = new ≡ faults number old
Acts old (BlockCall.made result) new = Made result old new

-- Where it stands at the links out of it: those over which it shares its messages out

-- the message is spoken for over the end at this place, and what it needs to be given is there
abbrev pub is_ready : ℕ → OutEnd → OutletState → Bool
is_ready k end o = is_at o.offer k && not (is_empty o.left) && is_some o.parcel && has_room end.rule.max end.given

-- the stage of an end as its link has it. Nobody waits for a message that is gone. What nobody could answer or take over this
-- link counts as on its way; a block in order has nothing of that kind
abbrev pub source_shown : Bool → ℕ → SourceStage → SourceStage
source_shown ready next (source.Out i) = cond (ready && i == next) (source.Out i) source.Crossing
source_shown ready next (source.Accepted i) = cond (ready && i == next) (source.Accepted i) source.Crossing
source_shown ready next (source.Waiting i) = cond (i == next) (source.Waiting i) source.Free
source_shown ready next (source.Reserved i) = cond (ready && i == next) (source.Reserved i) source.Crossing
source_shown ready next stage = stage

abbrev pub end_shown : ℕ → OutEnd → OutletState → SourceStage
end_shown k end o = source_shown (is_ready k end o) o.next end.stage

-- over a link that it does not know it offers nothing
abbrev pub place_shown : ℕ → OutletState → SourceStage
place_shown k o = cond (ltb k (length o.ends)) (end_shown k (end_at o k) o) source.Refused

abbrev pub source_over : OutletState → ℕ → SourceStage
source_over o link = place_shown (place_of link o.ends) o

-- an offer is out over the end that is named
abbrev pub busy_by : OutletState → Option ℕ → Bool
busy_by o None = false
busy_by o (Some k) = is_under_way (source_over o (end_at o k).rule.id)

abbrev pub is_busy : OutletState → Bool
is_busy o = busy_by o o.offer

pub busy_rests : (o : OutletState) (offer : Option ℕ) → NothingOut (source_over o) → busy_by o offer ≡ false
busy_rests o None nothing = refl
busy_rests o (Some k) nothing = nothing (end_at o k).rule.id

-- What it gives

-- the end is the one that its link names, and one more message may cross there: in a block in order each end is so
abbrev pub carries : ℕ → List OutEnd → Bool
carries k ends = place_of (end_in ends k).rule.id ends == k && has_room (end_in ends k).rule.max (end_in ends k).given

abbrev pub offers_over : OutletState → Option ℕ → Option ℕ
offers_over o None = None
offers_over o (Some k) = cond (carries k o.ends) (Some k) None

-- the message is there for the link
abbrev pub may_take : ℕ → ℕ → OutletState → Bool
may_take link header o = tests_consume (place_of link o.ends) header o && is_head_there (place_of link o.ends) header o

-- it gives the message over the link; the room that comes with it goes back to the ports
abbrev pub gives_over : ℕ → ℕ → BlockState → BlockState
gives_over link header block = record block {
  exits = record (consumes link header block.exits) { room = 0 };
  ports = comes_back (consumes link header block.exits) block.copies block.kind (consumed link header block.exits) block.ports;
}

-- the message may be kept for the link, and may cross there
abbrev pub may_keep : ℕ → ℕ → OutletState → Bool
may_keep link header o =
    tests_reserve (place_of link o.ends) header o && tests_consume (place_of link o.ends) header o && reserved header o

abbrev pub keeps_head : ℕ → ℕ → BlockState → BlockState
keeps_head link header block = record block { exits = reserves link header block.exits }

abbrev pub releases_head : ℕ → ℕ → BlockState → BlockState
releases_head link header block = record block { exits = releases link header block.exits }

-- And those over which it copies: each has an offer of its own

-- the element is there for the end, and may cross there
abbrev pub is_copy_ready : SpreadState → CopyEnd → Bool
is_copy_ready s end = is_some s.element && is_some end.share && has_room end.link.rule.max end.link.given

abbrev pub copy_shown : CopyEnd → SpreadState → SourceStage
copy_shown end s = source_shown (is_copy_ready s end) s.id end.link.stage

abbrev pub copy_place_shown : ℕ → SpreadState → SourceStage
copy_place_shown k s = cond (ltb k (length s.ends)) (copy_shown (copy_at s k) s) source.Refused

abbrev pub copy_over : SpreadState → ℕ → SourceStage
copy_over s link = copy_place_shown (copy_place link s.ends) s

-- the end is the one that its link names, and the element may cross there
abbrev pub carries_copy : ℕ → List CopyEnd → Bool
carries_copy k ends =
    copy_place (copy_in ends k).link.rule.id ends == k && has_room (copy_in ends k).link.rule.max (copy_in ends k).link.given

abbrev pub copies_over : SpreadState → Option ℕ → Option ℕ
copies_over s None = None
copies_over s (Some k) = cond (carries_copy k s.ends) (Some k) None

abbrev pub offers_copy_at : Option ℕ → BlockState → BlockState
offers_copy_at None block = block
offers_copy_at (Some k) block = with_copies (offers_copy k (prepares k block.copies)) block

-- the element is there for the link
abbrev pub may_take_copy : ℕ → ℕ → SpreadState → Bool
may_take_copy link header s =
    is_some s.element && tests_copy (copy_place link s.ends) header s && is_there (copy_place link s.ends) header s

abbrev pub copies_home : ℕ → ℕ → BlockState → BlockState
copies_home link header block = with_copies (gives_home (copy_place link block.copies.ends) header block.copies) block

-- the element may be kept for the link, and may cross there
abbrev pub may_keep_copy : ℕ → ℕ → SpreadState → Bool
may_keep_copy link header s =
    is_some s.element && asks_copy (copy_place link s.ends) header s && tests_copy (copy_place link s.ends) header s
    && is_element header s

abbrev pub keeps_copy : ℕ → ℕ → BlockState → BlockState
keeps_copy link header block = with_copies (reserves_copy link header block.copies) block

abbrev pub releases_its_copy : ℕ → ℕ → BlockState → BlockState
releases_its_copy link header block = with_copies (releases_copy link header block.copies) block

-- It shares its messages out, or it copies: the first argument says which

abbrev pub source_by : Bool → BlockState → ℕ → SourceStage
source_by true block = source_over block.exits
source_by false block = copy_over block.copies

abbrev pub busy_with : Bool → BlockState → Bool
busy_with true block = is_busy block.exits
busy_with false block = false

abbrev pub offer_by : Bool → BlockState → Option ℕ
offer_by true block = offers_over block.exits (may_offer block.exits)
offer_by false block = copies_over block.copies (next_copy block.copies)

abbrev pub named_by : Bool → Option ℕ → BlockState → Option (ℕ × ℕ)
named_by true place block = named_at block.exits place
named_by false place block = copy_named block.copies place

abbrev pub offered_by : Bool → Option ℕ → BlockState → BlockState
offered_by true place block = record block { exits = offers_at block.exits place }
offered_by false place block = offers_copy_at place block

abbrev pub answered_by : Bool → (link header : ℕ) → MessageStatus → BlockState → BlockState
answered_by true link header status block =
    record block { exits = answered status header (place_of link block.exits.ends) block.exits }
answered_by false link header status block =
    with_copies (copy_answered status header (copy_place link block.copies.ends) block.copies) block

abbrev pub taken_by : Bool → (link header : ℕ) → BlockState → Option Value
taken_by true link header block = cond (may_take link header block.exits) (consumed link header block.exits) None
taken_by false link header block = cond (may_take_copy link header block.copies) block.copies.element None

abbrev pub given_by : Bool → (link header : ℕ) → BlockState → BlockState
given_by true link header block = cond (may_take link header block.exits) (gives_over link header block) block
given_by false link header block = cond (may_take_copy link header block.copies) (copies_home link header block) block

abbrev pub kept_by : Bool → (link header : ℕ) → BlockState → Bool
kept_by true link header block = may_keep link header block.exits
kept_by false link header block = may_keep_copy link header block.copies

abbrev pub reserved_by : Bool → (link header : ℕ) → BlockState → BlockState
reserved_by true link header block = cond (may_keep link header block.exits) (keeps_head link header block) block
reserved_by false link header block = cond (may_keep_copy link header block.copies) (keeps_copy link header block) block

abbrev pub released_by : Bool → (link header : ℕ) → BlockState → BlockState
released_by true link header block = releases_head link header block
released_by false link header block = releases_its_copy link header block

abbrev pub shares : BlockState → Bool
shares block = is_one_taker block.kind

abbrev pub source_at : BlockState → ℕ → SourceStage
source_at block = source_by (shares block) block

-- a copy waits for no other link's offer
abbrev pub is_source_busy : BlockState → Bool
is_source_busy block = busy_with (shares block) block

pub rests_by : (one : Bool) (block : BlockState) → NothingOut (source_by one block) → busy_with one block ≡ false
rests_by true block nothing = busy_rests block.exits block.exits.offer nothing
rests_by false block nothing = refl

-- the place of the end over which it offers next: a block that has stopped offers nothing
abbrev pub offer_next : BlockState → Option ℕ
offer_next block = cond (is_some block.stopped) None (offer_by (shares block) block)

abbrev pub Gives : BlockState → SourceCall → BlockState → Type 0
Gives old (SourceCall.offered offer) new =
    (offer ≡ named_by (shares old) (offer_next old) old) × (new ≡ offered_by (shares old) (offer_next old) old)
Gives old (SourceCall.noted link header status) new = new ≡ answered_by (shares old) link header status old
Gives old (SourceCall.consumed link header value) new =
    (value ≡ taken_by (shares old) link header old) × (new ≡ given_by (shares old) link header old)
Gives old (SourceCall.reserved link header kept) new =
    (kept ≡ kept_by (shares old) link header old) × (new ≡ reserved_by (shares old) link header old)
Gives old (SourceCall.released link header) new = new ≡ released_by (shares old) link header old

-- Where it stands at the links into it

-- over a link that is new nothing is under way, unless the port takes no message any more
abbrev pub port_shown : Option ℕ → PortState → TargetStage
port_shown (Some place) port = port_stage place port
port_shown None port = refused_by port.refusing

abbrev pub shown_over : PortState → ℕ → TargetStage
shown_over port link = port_shown (port_place link port.ends) port

abbrev pub has_link : ℕ → PortState → Bool
has_link link port = is_some (port_place link port.ends)

-- the port into which a link leads: the first that has an end of it. A link that is new leads into the first port
abbrev pub port_into : ℕ → List PortState → ℕ
port_into link ports = unwrap_or (position (has_link link) ports) 0

-- where there is no port, it takes nothing
abbrev pub target_over : List PortState → ℕ → TargetStage
target_over [] link = target.Refused PortEnded
target_over (port ∷ ports) link = shown_over (port_in (port ∷ ports) (port_into link (port ∷ ports))) link

-- over no link into the port does a message come
abbrev pub MayCompletePort : BlockState → ℕ → Type 0
MayCompletePort block port =
    (port < length block.ports)
    × ((link : ℕ) → port_into link block.ports ≡ port → is_coming (target_over block.ports link) ≡ false)

-- over no link into the block does a message come
abbrev pub MayFault : BlockState → Type 0
MayFault block = (link : ℕ) → is_coming (target_over block.ports link) ≡ false

-- a message that is not awaited does not come
pub comes_where_awaited : (stage : TargetStage) → is_awaited stage ≡ false → is_coming stage ≡ false
comes_where_awaited (target.Accepted i) rest = rest
comes_where_awaited (target.Consuming i) rest = rest
comes_where_awaited (target.Asking i) rest = rest
comes_where_awaited (target.Holding i) rest = rest
comes_where_awaited (target.Claiming i) rest = rest
comes_where_awaited (target.Arrived i) rest = rest
comes_where_awaited (target.Hand i) rest = rest
comes_where_awaited _ rest = refl

-- a port may complete where no message into it is awaited, and a block may fault where none is
pub completes_at_rest : (block : BlockState) (port : ℕ) → port < length block.ports
    → ((link : ℕ) → port_into link block.ports ≡ port → is_awaited (target_over block.ports link) ≡ false)
    → MayCompletePort block port
completes_at_rest block port there rests =
    (there, λ link into. comes_where_awaited (target_over block.ports link) (rests link into))

pub faults_at_rest : (block : BlockState) → ((link : ℕ) → is_awaited (target_over block.ports link) ≡ false) → MayFault block
faults_at_rest block rests = λ link. comes_where_awaited (target_over block.ports link) (rests link)

-- What it takes

-- the offer that the port consumes next is that of the link's own end: in a block in order each end is so
abbrev pub names_itself : Option ℕ → PortState → Bool
names_itself None port = false
names_itself (Some place) port = is_place place (port_place (link_in place port.ends) port.ends)

abbrev pub wish_named : Option (ℕ × ℕ) → Wish
wish_named None = wish.None
wish_named (Some offer) = wish.Consume offer.0

-- its link leads into the port
abbrev pub leads_to : ℕ → Option (ℕ × ℕ) → List PortState → Bool
leads_to p None ports = false
leads_to p (Some offer) ports = port_into offer.0 ports == p

-- the port would consume an offer
abbrev pub wishes_at : List PortState → ℕ → Bool
wishes_at ports p =
    names_itself (next_place (port_in ports p)) (port_in ports p) && leads_to p (next_wish (port_in ports p)) ports

-- the first port that would
abbrev pub wishing_port : List PortState → Option ℕ
wishing_port ports = position (wishes_at ports) (below (length ports))

abbrev pub wish_at : Option ℕ → List PortState → Wish
wish_at None ports = wish.None
wish_at (Some p) ports = wish_named (next_wish (port_in ports p))

abbrev pub wishes : Option ℕ → BlockState → BlockState
wishes None block = block
wishes (Some p) block = with_port p consumes_next block

-- the message is kept for it
abbrev pub holds_at : Option ℕ → PortState → PortState
holds_at (Some place) port = record port { ends = put_stage place (stage_noted answer.Held (port_stage place port)) port.ends }
holds_at None port = port

abbrev pub notes : WishAnswer → ℕ → PortState → PortState
notes answer.Coming link port = port
notes answer.Held link port = holds_at (port_place link port.ends) port
notes answer.NotAvailable link port = drops link port
notes answer.Withdrawn link port = drops link port

-- the port into which the link leads becomes so
abbrev pub with_port_of : ℕ → (PortState → PortState) → BlockState → BlockState
with_port_of link change block = with_port (port_into link block.ports) change block

-- a block that takes one message in all copies it at once
abbrev pub Takes : BlockState → TargetCall → BlockState → Type 0
Takes old (TargetCall.offered link header may_postpone status) new =
    (status ≡ answer_to may_postpone (port_at (port_into link old.ports) old))
    × (new ≡ with_port_of link (port_answered link header status) old)
Takes old (TargetCall.handed link header value) new = new ≡ copies_taken (with_port_of link (arrives link value) old)
Takes old (TargetCall.wished told) new =
    (told ≡ wish_at (wishing_port old.ports) old.ports) × (new ≡ wishes (wishing_port old.ports) old)
Takes old (TargetCall.noted link told) new = new ≡ with_port_of link (notes told link) old
