-- What every call of a block that is about no link into it leaves of its kind and its ports: all but what waits, the room, and whether
-- they have ended.
use Rattle.std.proofs.Common.{◌≡◌, ℕ, ◌-◌, Bool, true, false, List, [], ◌∷◌, length, set, take, Option, Some, None, Ok, Err, refl, ap, sym, subst}
use Rattle.std.proofs.lemmas.List.{length-map, length-set}
use Rattle.flow_value.specs.declared.value.Value.{Value}
use Rattle.flow_link.specs.BlockCalls.{BlockCall}
use Rattle.flow_link.specs.SourceCalls.{SourceCall}
use Rattle.flow_link.specs.declared.kinds.BlockUnit.{BlockUnit}
use Rattle.flow_link.specs.declared.kinds.BlockUnit.TheVariants as unit
use Rattle.flow_link.specs.Kinds.{unit_of}
use Rattle.flow_intake.specs.Port.{PortState}
use Rattle.flow_intake.specs.Calls.{first_of, takes_next, gives_room}
use Rattle.flow_spread.specs.Spread.{puts as copies_put}
use Rattle.flow_block.specs.Block.{BlockState, port_at, held_by, takes_group, makes_row, makes_tuple, puts_out, copies_next, copies_where}
use Rattle.flow_block.specs.Copies.{copies_weight}
use Rattle.flow_block.specs.Traits.{Acts, Gives, settles, goes_on_by_unit}
use Rattle.flow_block.proofs.PortsChange.{kept_at_one, kept_at_all}
use Rattle.flow_kinds.proofs.BlockStays.{BlockStays, acts_leave, gives_leave, settle_stays}

abbrev pub lasting_of : PortState → PortState
lasting_of port = record port { waiting = []; load = 0; refusing = None }

pub record Lasts (old new : BlockState) : Type 0 where
  pub kind : new.kind ≡ old.kind
  pub count : length new.ports ≡ length old.ports
  pub same : (p : ℕ) → lasting_of (port_at p new) ≡ lasting_of (port_at p old)

module _ (old : BlockState) where
  nothing_lasts : Lasts old old
  nothing_lasts = record { kind = refl; count = refl; same = λ p. refl }

  stays_last : (new : BlockState) → BlockStays old new → Lasts old new
  stays_last new stays = record { kind = stays.kind; count = stays.ports.as_many; same = λ p. ap lasting_of (stays.ports.each p) }

  -- Where it makes something

  one_lasts : (p : ℕ) (port : PortState) → lasting_of port ≡ lasting_of (port_at p old) → Lasts old (record old { ports = set old.ports p port })
  one_lasts p port same = record {
    kind = refl;
    count = length-set old.ports p port;
    same = λ q. kept_at_one lasting_of old.ports p q port same;
  }

  copied_lasts : (first : Option Value) → Lasts old (copies_next first old)
  copied_lasts None = nothing_lasts
  copied_lasts (Some value) =
      let port = one_lasts 0 (gives_room (1 - copies_weight (copies_put value old.copies)) (takes_next (port_at 0 old))) refl in
      record { kind = refl; count = port.count; same = port.same }

  put_out_lasts : (values : List Value) → Lasts old (puts_out values old)
  put_out_lasts [] = one_lasts 0 (gives_room 1 (takes_next (port_at 0 old))) refl
  put_out_lasts (value ∷ values) =
      let port = one_lasts 0 (takes_next (port_at 0 old)) refl in
      record { kind = refl; count = port.count; same = port.same }

  row_lasts : Lasts old (makes_row old)
  row_lasts =
      let port = one_lasts 0 (takes_group old.size (port_at 0 old)) refl in
      record { kind = refl; count = port.count; same = port.same }

  tuple_lasts : Lasts old (makes_tuple old)
  tuple_lasts = record {
    kind = refl;
    count = length-map old.ports takes_next;
    same = λ p. kept_at_all lasting_of takes_next old.ports p (λ port. refl);
  }

  made_lasts : (made : BlockUnit) → Lasts old (goes_on_by_unit made old)
  made_lasts unit.Message = put_out_lasts (take 1 (held_by old))
  made_lasts unit.Row = row_lasts
  made_lasts unit.Tuple = tuple_lasts
  made_lasts unit.Group = put_out_lasts (take 1 (held_by old))
  made_lasts unit.Copy = copied_lasts (first_of (held_by old))
  made_lasts unit.OneCopy = put_out_lasts (take 1 (held_by old))

  -- By a call

  pub asked_lasts : (new : BlockState) → new ≡ settles old → Lasts old new
  asked_lasts new does = stays_last new (settle_stays old new does)

  pub acts_last : (new : BlockState) (call : BlockCall) → Acts old call new → Lasts old new
  acts_last new (BlockCall.completed p) does = stays_last new (acts_leave old new (BlockCall.completed p) tt does)
  acts_last new (BlockCall.faulted number) does = stays_last new (acts_leave old new (BlockCall.faulted number) tt does)
  acts_last new (BlockCall.made (Ok true)) does = subst (λ (b : BlockState). Lasts old b) (sym does.1) (made_lasts (unit_of old.kind))
  acts_last new (BlockCall.made (Ok false)) does = stays_last new (acts_leave old new (BlockCall.made (Ok false)) tt does)
  acts_last new (BlockCall.made (Err fault)) does = stays_last new (acts_leave old new (BlockCall.made (Err fault)) tt does)

  pub gives_last : (new : BlockState) (call : SourceCall) → Gives old call new → Lasts old new
  gives_last new call does = stays_last new (gives_leave old new call does)

-- a block that takes one message in all copies it when it comes
pub once_lasts : (block : BlockState) (once : Bool) → Lasts block (copies_where once block)
once_lasts block true = copied_lasts block (first_of (held_by block))
once_lasts block false = nothing_lasts block
