-- What the links of a broadcast or write-once block carry: copies of what it took, with nothing skipped that a target took in time.
use Rattle.std.specs.Prelude.{◌≡◌, ℕ, ◌-◌, leb, Bool, true, not, ◌&&◌, ◌||◌, List, ◌++◌, length, take, drop, filter, Option, Some, None}
use Rattle.flow_value.specs.When.{admits}
use Rattle.flow_value.specs.declared.value.Value.{Value}
use Rattle.flow_link.specs.declared.draft.BlockKind.{BlockKind}
use Rattle.flow_link.specs.declared.draft.BlockKind.TheVariants.{Buffer, Broadcast, WriteOnce, Action, Transform, TransformMany, Batch, Join, BatchedJoin}
use Rattle.flow_link.specs.declared.plan.Link.{Link}
use Rattle.flow_link.specs.Plan.{begins_at, is_steady, is_sole}
use Rattle.flow_link.specs.Lists.{every, is_empty, without_last, same_values, is_front, is_subsequence}
use Rattle.flow_link.specs.Making.{worked}
use Rattle.flow_link.specs.Trace.{Run, took, block_of, link_of, marks_of, held_at, left_at, given_over, is_refused, block_numbers, link_numbers}

abbrev pub up_to : Option ℕ → List Value → List Value
up_to None values = values
up_to (Some max) values = take max values

-- the values that a link carries where its target takes each copy
abbrev pub carried_of : Link → List Value → List Value
carried_of link elements = up_to link.max (filter (admits link.when) elements)

module _ {W : Type 0} (run : Run W) (b : ℕ) where
  -- what the block offered, and the same without the newest, which some link may not have answered yet
  abbrev pub elements : List Value
  elements = worked run b

  -- the element that is left is the newest
  abbrev pub newest_left : Bool
  newest_left = is_empty (left_at run b) || same_values (left_at run b) (drop (length elements - 1) elements)

  abbrev pub owes : Bool
  owes = not (is_empty (left_at run b))

  -- a target that takes each copy has all, but for the newest while it is left, and for what came after it refused
  abbrev pub carries_all : ℕ → Bool
  carries_all l =
      same_values (given_over run l) (carried_of (link_of run l) elements)
      || (owes && same_values (given_over run l) (carried_of (link_of run l) (without_last elements)))
      || (is_refused run l && is_front (given_over run l) (carried_of (link_of run l) elements))

  -- a target that no other link leads to has the first copy, with the same exceptions
  abbrev pub carries_first : ℕ → Bool
  carries_first l =
      is_front (take 1 (carried_of (link_of run l) elements)) (given_over run l)
      || (owes && is_front (take 1 (carried_of (link_of run l) (without_last elements))) (given_over run l))
      || (is_refused run l && is_empty (given_over run l))

  abbrev pub broadcasts_over : ℕ → Bool
  broadcasts_over l =
      not (begins_at b (link_of run l).source)
      || (is_subsequence (given_over run l) elements
      && (not (is_steady run.layout.blocks (link_of run l).target) || carries_all l)
      && (not (is_sole run.layout.blocks run.layout.links (link_of run l).target) || carries_first l))

  abbrev pub broadcasts : Bool
  broadcasts =
      same_values (took (marks_of run b)) (elements ++ held_at run b 0)
      && newest_left && every broadcasts_over (link_numbers run)

  -- the one element has nothing to wait for over this link
  abbrev pub is_served : ℕ → Bool
  is_served l =
      not (begins_at b (link_of run l).source)
      || not (is_empty (given_over run l))
      || not (every (admits (link_of run l).when) (took (marks_of run b)))
      || is_refused run l

  abbrev pub gives_it_once : ℕ → Bool
  gives_it_once l = not (begins_at b (link_of run l).source) || is_front (given_over run l) (took (marks_of run b))

  abbrev pub writes_once : Bool
  writes_once =
      leb (length (took (marks_of run b))) 1
      && is_empty (held_at run b 0)
      && every gives_it_once (link_numbers run)
      && (same_values (left_at run b) (took (marks_of run b)) || (is_empty (left_at run b) && every is_served (link_numbers run)))

  abbrev pub copies_as : BlockKind → Bool
  copies_as Buffer = true
  copies_as Broadcast = broadcasts
  copies_as WriteOnce = writes_once
  copies_as Action = true
  copies_as Transform = true
  copies_as TransformMany = true
  copies_as Batch = true
  copies_as Join = true
  copies_as BatchedJoin = true

  abbrev pub copies : Bool
  copies = copies_as (block_of run b).kind

-- each broadcast and write-once block copies what it took
pub record Copies {W : Type 0} (run : Run W) : Type 0 where
  pub each_block : every (copies run) (block_numbers run) ≡ true
