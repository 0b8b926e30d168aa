-- What the calls that all blocks have in common do to a batched join: what they do to its block. A message that comes is noted,
-- and the messages of a group are forgotten.
use Rattle.std.specs.Prelude.{◌≡◌, ℕ, Bool, true, false, List, [], ◌∷◌, ◌++◌, drop, Result, Ok, Err}
use Rattle.flow_link.specs.BlockCalls.{BlockCall}
use Rattle.flow_link.specs.SourceCalls.{SourceCall}
use Rattle.flow_link.specs.TargetCalls.{TargetCall}
use Rattle.flow_link.specs.declared.traits.MakeFault.{MakeFault}
use Rattle.flow_link.specs.declared.traits.MakeFault.TheVariants.{Ids, Memory}
use Rattle.flow_outlet.specs.Outlet.{lacks_ids}
use Rattle.flow_group.specs.Group.{group_of}
use Rattle.flow_block.specs.Groups.{makes_group}
use Rattle.flow_block.specs.Peeks.{may_make}
use Rattle.flow_block.specs.Traits.{settles, Acts as BlockActs, Gives as BlockGives, Takes as BlockTakes, port_into}
use Rattle.flow_kinds.specs.BatchedJoin.{JoinState}

-- the next group is there to be given, and its messages are in no order any more
abbrev pub makes_next : JoinState → JoinState
makes_next join = record {
  block = makes_group join.block.size 0 join.order join.block;
  order = drop join.block.size join.order;
}

-- message ids are used up for the next group
abbrev pub lacks_next : JoinState → Bool
lacks_next join = lacks_ids (group_of join.block.size join.order join.block.ports ∷ []) join.block.exits

-- it looks for an id first, so where memory is out there are ids
abbrev pub Made : Result Bool MakeFault → JoinState → JoinState → Type 0
Made (Ok true) old new = (may_make old.block ≡ true) × ((lacks_next old ≡ false) × (new ≡ makes_next old))
Made (Ok false) old new = (may_make old.block ≡ false) × (new ≡ old)
Made (Err Ids) old new = (may_make old.block ≡ true) × ((lacks_next old ≡ true) × (new ≡ old))
Made (Err Memory) old new = (may_make old.block ≡ true) × ((lacks_next old ≡ false) × (new ≡ old))

-- a message that came is the last of those in no group
abbrev pub noted_by : TargetCall → JoinState → List ℕ
noted_by (TargetCall.handed link header value) join = join.order ++ port_into link join.block.ports ∷ []
noted_by _ join = join.order

module _ (old : JoinState) where
  -- when it is asked whether it has ended
  abbrev pub Learns : JoinState → Type 0
  Learns new = (new.block ≡ settles old.block) × (new.order ≡ old.order)

  abbrev pub Acts : BlockCall → JoinState → Type 0
  Acts (BlockCall.made result) new = Made result old new
  Acts call new = BlockActs old.block call new.block × (new.order ≡ old.order)

  abbrev pub Gives : SourceCall → JoinState → Type 0
  Gives call new = BlockGives old.block call new.block × (new.order ≡ old.order)

  abbrev pub Takes : TargetCall → JoinState → Type 0
  Takes call new = BlockTakes old.block call new.block × (new.order ≡ noted_by call old)
