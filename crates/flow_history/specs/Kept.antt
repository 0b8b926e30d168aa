-- What becomes of the messages of a block that a caller drives by hand, over any calls.
use Rattle.std.specs.Prelude.{◌≡◌, ℕ, ◌+◌, ◌<◌, ◌≤◌, Bool, true, false, ◌&&◌, ◌||◌, List, [], ◌∷◌, ◌++◌, length, map, cond, is_some, Option, Some, None}
use Rattle.flow_value.specs.declared.value.Value.{Value}
use Rattle.flow_link.specs.declared.draft.BlockKind.{BlockKind}
use Rattle.flow_link.specs.declared.draft.BlockKind.TheVariants.{Buffer, Broadcast, WriteOnce}
use Rattle.flow_link.specs.LinkOk.{IsWithin}
use Rattle.flow_link.specs.Lists.{every}
use Rattle.flow_link.specs.Making.{all_items, are_groups, row_weight}
use Rattle.flow_link.specs.Plan.{is_one_taker}
use Rattle.flow_link.specs.Views.{LinkFacts}
use Rattle.flow_intake.specs.Port.{PortState, fresh_end, fresh_port, coming}
use Rattle.flow_intake.specs.PortLaw.{PortLaw, has_ended}
use Rattle.flow_group.specs.Tuple.{held_at}
use Rattle.flow_group.specs.Tuples.{TuplesLaw}
use Rattle.flow_outlet.specs.Outlet.{is_empty}
use Rattle.flow_outlet.specs.declared.ends.LinkRule.{LinkRule}
use Rattle.flow_block.specs.Block.{BlockState, port_in, port_at, held_by, is_batch, is_join}
use Rattle.flow_block.specs.BlockFits.{fresh_block}
use Rattle.flow_block.specs.Copies.{copies_weight}
use Rattle.flow_block_law.specs.NodeLaw.{is_whole}
use Rattle.flow_block.specs.Peeks.{holds_nothing}
use Rattle.flow_history.specs.Calls.{MayCallInOrder, Does, Fits, Step, AllDone, after_all, Call}
use Rattle.flow_history.specs.History.{History, nothing_yet, took_at, given, came_by, made_by, history_of, gave_by}

-- nothing is said of the links into it
abbrev pub any_link : ℕ → LinkFacts
any_link link = record { steady = false; sole = false; reserving = false; max = None; propagates = false }

-- the ports are in order, and took nothing
pub record NothingCame (ports : List PortState) : Type 0 where
  pub waits : holds_nothing ports ≡ true
  pub in_order : (p : ℕ) → p < length ports → PortLaw any_link 0 (port_in ports p)

-- a port that was just made, for so many messages and with these links into it
abbrev pub new_port : Option ℕ × List ℕ → PortState
new_port made = record (fresh_port made.0) { ends = map fresh_end made.1 }

-- nothing came to ports that were just made
pub record NewPortsTookNothing : Type 0 where
  pub each : (made : List (Option ℕ × List ℕ)) → NothingCame (map new_port made)

-- its outputs are its messages, as they are
abbrev pub hands_on : BlockKind → Bool
hands_on Buffer = true
hands_on Broadcast = true
hands_on WriteOnce = true
hands_on _ = false

-- the rows of a batch are cut, in order, out of what it took, each of the same size but for the last; that is short only where the
-- port is completed, and nothing is held
pub record RowsMade (size : ℕ) (took made held : List Value) (ended : Bool) : Type 0 where
  pub cut : took ≡ all_items made ++ held
  pub sized : are_groups row_weight size made ≡ true
  pub whole : ((ended && is_empty held) || every (is_whole size) made) ≡ true

-- it makes outputs without a function, and counts its messages alike at all ports
abbrev pub makes_freely : BlockKind → Bool
makes_freely kind = hands_on kind || is_batch kind || is_join kind

-- how many messages it has made something of that is not wholly given: of a buffer or a join one for each output, of a batch those of
-- its rows, and of a block that copies the one of its element, while a link is still to have it, or for good if it takes no other
abbrev pub places_left : BlockState → ℕ
places_left block =
    cond (is_one_taker block.kind) (cond (is_batch block.kind) (length (all_items block.exits.left)) (length block.exits.left))
    (copies_weight block.copies)

pub record KeepsMessages (history : History) (block : BlockState) : Type 0 where
  -- what shares its messages out gives each output once, in order, and has the rest left
  pub shared : is_one_taker block.kind ≡ true → history.made ≡ given history.gave ++ block.exits.left
  -- each message that it took it made something of, in order, or holds
  pub as_they_are : hands_on block.kind ≡ true → took_at history 0 ≡ history.made ++ held_by block
  pub rows : is_batch block.kind ≡ true
      → RowsMade block.size (took_at history 0) history.made (held_by block) (has_ended (port_at 0 block).refusing)
  pub tuples : is_join block.kind ≡ true → TuplesLaw (length block.ports) (took_at history) history.made (held_at block.ports)
  -- what it holds at a port, what it has not wholly given, and what comes there fit into the capacity, where its ports have one
  pub within : makes_freely block.kind ≡ true → is_some (port_at 0 block).capacity ≡ true → (p : ℕ) → p < length block.ports
      → IsWithin (port_at p block).capacity (length (port_at p block).waiting + places_left block + coming (port_at p block))

-- over any calls, from a block to which nothing came
pub record MessagesAreKept : Type 0 where
  pub each : (kind : BlockKind) (lanes size : ℕ) (ports : List PortState) (rules : List LinkRule) → NothingCame ports
      → (is_batch kind ≡ true → 0 < size) → Fits (fresh_block kind lanes size ports rules)
      → (steps : List (Step Call BlockState)) → AllDone Fits MayCallInOrder Does steps (fresh_block kind lanes size ports rules)
      → KeepsMessages (history_of came_by made_by gave_by steps (fresh_block kind lanes size ports rules) nothing_yet)
      (after_all steps (fresh_block kind lanes size ports rules))
  -- what takes one message in all takes no second, where its port has room for one
  pub once : (lanes size : ℕ) (port : PortState) (rules : List LinkRule) → NothingCame (port ∷ []) → port.capacity ≡ Some 1
      → Fits (fresh_block WriteOnce lanes size (port ∷ []) rules)
      → (steps : List (Step Call BlockState)) → AllDone Fits MayCallInOrder Does steps (fresh_block WriteOnce lanes size (port ∷ []) rules)
      → length (took_at (history_of came_by made_by gave_by steps (fresh_block WriteOnce lanes size (port ∷ []) rules) nothing_yet) 0) ≤ 1
