-- What the calls of a block that are about no link into it, and make nothing, leave of its ports: all but their room, and whether
-- they have ended.
use Rattle.std.proofs.Common.{◌≡◌, ℕ, zero, suc, ◌-◌, Bool, true, false, cond, List, [], ◌∷◌, length, set, map, Option, Some, None, is_some, Ok, Err, refl, ap}
use Rattle.std.proofs.lemmas.List.{length-map, length-set}
use Rattle.flow_value.specs.declared.message.MessageStatus.{MessageStatus}
use Rattle.flow_link.specs.BlockCalls.{BlockCall}
use Rattle.flow_link.specs.SourceCalls.{SourceCall}
use Rattle.flow_link.specs.declared.traits.MakeFault.TheVariants as make_fault
use Rattle.flow_link.specs.declared.trace.Outcome.{Outcome}
use Rattle.flow_link.specs.declared.trace.Outcome.TheVariants.{Done, Faulted}
use Rattle.flow_intake.specs.Port.{PortState}
use Rattle.flow_intake.specs.Calls.{gives_room, port_closes}
use Rattle.flow_spread.specs.ByLink.{place_of as copy_place, answered as copy_answered, gives_home, reserves as reserves_copy, releases as releases_copy}
use Rattle.flow_spread.specs.Spread.{SpreadState, prepares, offers}
use Rattle.flow_group.specs.Round.{port_in}
use Rattle.flow_block.specs.Block.{BlockState, port_at, with_port, gives_each, with_copies, stops_by}
use Rattle.flow_block.specs.Copies.{copies_weight}
use Rattle.flow_block.specs.Peeks.{may_finish}
use Rattle.flow_block.specs.Traits.{Acts, Gives, outcome_of, settles, faults, shares, offer_next, offered_by, answered_by, may_take, gives_over, may_take_copy, copies_home, given_by, may_keep, keeps_head, releases_head, may_keep_copy, keeps_copy, releases_its_copy, reserved_by, released_by}
use Rattle.flow_block.proofs.PortsChange.{kept_at_one, kept_at_all}

-- a port but for its room, and for whether it has ended
abbrev pub bare : PortState → PortState
bare port = record port { load = 0; refusing = None }

-- the ports are the same, but for that
pub record SamePorts (ports later : List PortState) : Type 0 where
  pub as_many : length later ≡ length ports
  pub each : (q : ℕ) → bare (port_in later q) ≡ bare (port_in ports q)

pub all_same : (ports : List PortState) → SamePorts ports ports
all_same ports = record { as_many = refl; each = λ q. refl }

all_mapped : (change : PortState → PortState) (ports : List PortState) → ((port : PortState) → bare (change port) ≡ bare port)
    → SamePorts ports (map change ports)
all_mapped change ports same = record { as_many = length-map ports change; each = λ q. kept_at_all bare change ports q same }

one_set : (ports : List PortState) (p : ℕ) (port : PortState) → bare port ≡ bare (port_in ports p) → SamePorts ports (set ports p port)
one_set ports p port same = record { as_many = length-set ports p port; each = λ q. kept_at_one bare ports p q port same }

module _ (room weight : ℕ) (counts : ℕ → ℕ) where
  length_each : (first : ℕ) (ports : List PortState) → length (gives_each room weight counts first ports) ≡ length ports
  length_each first [] = refl
  length_each first (port ∷ ports) = ap suc (length_each (suc first) ports)

  bare_each : (first : ℕ) (ports : List PortState) (q : ℕ) → bare (port_in (gives_each room weight counts first ports) q) ≡ bare (port_in ports q)
  bare_each first [] q = refl
  bare_each first (port ∷ ports) zero = refl
  bare_each first (port ∷ ports) (suc q) = bare_each (suc first) ports q

  each_given : (ports : List PortState) → SamePorts ports (gives_each room weight counts 0 ports)
  each_given ports = record { as_many = length_each 0 ports; each = bare_each 0 ports }

-- its kind stays, and its ports but for their room
pub record BlockStays (old new : BlockState) : Type 0 where
  pub kind : new.kind ≡ old.kind
  pub ports : SamePorts old.ports new.ports

-- the block makes nothing by it
abbrev pub MakesNothing : BlockCall → Type 0
MakesNothing (BlockCall.made (Ok true)) = ⊥
MakesNothing call = Unit {0}

module _ (old new : BlockState) where
  pub not_changed : new ≡ old → BlockStays old new
  not_changed is = rw is (record { kind = refl; ports = all_same old.ports })

  changed : (block : BlockState) → new ≡ block → block.kind ≡ old.kind → SamePorts old.ports block.ports → BlockStays old new
  changed block is kind same = rw is (record { kind = kind; ports = same })

  copied : (copies : SpreadState) → SamePorts old.ports (with_copies copies old).ports
  copied copies = all_mapped (gives_room (copies_weight old.copies - copies_weight copies)) old.ports (λ port. refl)

  stopped : (how : Outcome) → new ≡ stops_by how old → BlockStays old new
  stopped how is = changed (stops_by how old) is refl (all_mapped port_closes old.ports (λ port. refl))

  settled_where : (finishes : Bool) → new ≡ cond finishes (stops_by Done old) old → BlockStays old new
  settled_where true is = stopped Done is
  settled_where false is = not_changed is

  pub settle_stays : new ≡ settles old → BlockStays old new
  settle_stays is = settled_where (may_finish old) is

  faulted_where : (number : ℕ) (ended : Bool) → new ≡ cond ended old (stops_by (Faulted number) old) → BlockStays old new
  faulted_where number true is = not_changed is
  faulted_where number false is = stopped (Faulted number) is

  pub fault_stays : (number : ℕ) → new ≡ faults number old → BlockStays old new
  fault_stays number is = faulted_where number (is_some (outcome_of old)) is

  pub complete_stays : (port : ℕ) → new ≡ with_port port port_closes old → BlockStays old new
  complete_stays port is = changed (with_port port port_closes old) is refl (one_set old.ports port (port_closes (port_at port old)) refl)

  offered_where : (one : Bool) (place : Option ℕ) → new ≡ offered_by one place old → BlockStays old new
  offered_where true place is = changed (offered_by true place old) is refl (all_same old.ports)
  offered_where false None is = not_changed is
  offered_where false (Some k) is = changed (offered_by false (Some k) old) is refl (copied (offers k (prepares k old.copies)))

  pub offer_stays : (place : Option ℕ) → new ≡ offered_by (shares old) place old → BlockStays old new
  offer_stays place is = offered_where (shares old) place is

  answered_where : (one : Bool) (link header : ℕ) (how : MessageStatus) → new ≡ answered_by one link header how old → BlockStays old new
  answered_where true link header how is = changed (answered_by true link header how old) is refl (all_same old.ports)
  answered_where false link header how is =
      changed (answered_by false link header how old) is refl (copied (copy_answered how header (copy_place link old.copies.ends) old.copies))

  pub answer_stays : (link header : ℕ) (how : MessageStatus) → new ≡ answered_by (shares old) link header how old → BlockStays old new
  answer_stays link header how is = answered_where (shares old) link header how is

  head_where : (take : Bool) (link header : ℕ) → new ≡ cond take (gives_over link header old) old → BlockStays old new
  head_where true link header is = changed (gives_over link header old) is refl (each_given _ _ _ old.ports)
  head_where false link header is = not_changed is

  copy_where : (take : Bool) (link header : ℕ) → new ≡ cond take (copies_home link header old) old → BlockStays old new
  copy_where true link header is =
      changed (copies_home link header old) is refl (copied (gives_home (copy_place link old.copies.ends) header old.copies))
  copy_where false link header is = not_changed is

  given_where : (one : Bool) (link header : ℕ) → new ≡ given_by one link header old → BlockStays old new
  given_where true link header is = head_where (may_take link header old.exits) link header is
  given_where false link header is = copy_where (may_take_copy link header old.copies) link header is

  pub give_stays : (link header : ℕ) → new ≡ given_by (shares old) link header old → BlockStays old new
  give_stays link header is = given_where (shares old) link header is

  keep_head_where : (keep : Bool) (link header : ℕ) → new ≡ cond keep (keeps_head link header old) old → BlockStays old new
  keep_head_where true link header is = changed (keeps_head link header old) is refl (all_same old.ports)
  keep_head_where false link header is = not_changed is

  keep_copy_where : (keep : Bool) (link header : ℕ) → new ≡ cond keep (keeps_copy link header old) old → BlockStays old new
  keep_copy_where true link header is = changed (keeps_copy link header old) is refl (copied (reserves_copy link header old.copies))
  keep_copy_where false link header is = not_changed is

  kept_where : (one : Bool) (link header : ℕ) → new ≡ reserved_by one link header old → BlockStays old new
  kept_where true link header is = keep_head_where (may_keep link header old.exits) link header is
  kept_where false link header is = keep_copy_where (may_keep_copy link header old.copies) link header is

  pub keep_stays : (link header : ℕ) → new ≡ reserved_by (shares old) link header old → BlockStays old new
  keep_stays link header is = kept_where (shares old) link header is

  released_where : (one : Bool) (link header : ℕ) → new ≡ released_by one link header old → BlockStays old new
  released_where true link header is = changed (releases_head link header old) is refl (all_same old.ports)
  released_where false link header is = changed (releases_its_copy link header old) is refl (copied (releases_copy link header old.copies))

  pub release_stays : (link header : ℕ) → new ≡ released_by (shares old) link header old → BlockStays old new
  release_stays link header is = released_where (shares old) link header is

  -- By a call

  pub acts_leave : (call : BlockCall) → MakesNothing call → Acts old call new → BlockStays old new
  acts_leave (BlockCall.completed port) nothing does = complete_stays port does
  acts_leave (BlockCall.faulted number) nothing does = fault_stays number does
  acts_leave (BlockCall.made (Ok true)) nothing does = absurd nothing
  acts_leave (BlockCall.made (Ok false)) nothing does = not_changed does.1
  acts_leave (BlockCall.made (Err make_fault.Ids)) nothing does = not_changed does.1
  acts_leave (BlockCall.made (Err make_fault.Memory)) nothing does = not_changed does.1

  pub gives_leave : (call : SourceCall) → Gives old call new → BlockStays old new
  gives_leave (SourceCall.offered offer) does = offer_stays (offer_next old) does.1
  gives_leave (SourceCall.noted link header how) does = answer_stays link header how does
  gives_leave (SourceCall.consumed link header value) does = give_stays link header does.1
  gives_leave (SourceCall.reserved link header kept) does = keep_stays link header does.1
  gives_leave (SourceCall.released link header) does = release_stays link header does
