-- What holds of each link and of each block's messages: what is taken was given, once and in order, and within its bounds.
use Rattle.std.specs.Prelude.{◌≡◌, ℕ, ◌+◌, ◌==◌, leb, ltb, Bool, true, not, ◌&&◌, ◌||◌, List, [], ◌∷◌, ◌++◌, length, Option, Some, None}
use Rattle.flow_value.specs.When.{admits}
use Rattle.flow_value.specs.declared.value.Value.{Value}
use Rattle.flow_link.specs.declared.plan.LinkSource.{LinkSource}
use Rattle.flow_link.specs.declared.plan.LinkSource.TheVariants.{Block, Input}
use Rattle.flow_link.specs.declared.plan.LinkTarget.{LinkTarget}
use Rattle.flow_link.specs.declared.plan.LinkTarget.TheVariants.{Port}
use Rattle.flow_link.specs.declared.trace.Mark.{Mark}
use Rattle.flow_link.specs.declared.trace.Mark.TheVariants.{Took, Gave, Complete}
use Rattle.flow_link.specs.Plan.{is_reserving, is_one_taker, begins_at, ends_at_port, is_steady}
use Rattle.flow_link.specs.Lists.{every, below, is_front}
use Rattle.flow_link.specs.Making.{load}
use Rattle.flow_link.specs.Trace.{Run, took_at, gave_over, is_faulted, is_done, is_used_up, block_of, link_of, marks_of, ports_of, given_over, taken_over, input_of, is_refused, block_numbers, link_numbers}

-- all that was given was taken, or all but the value given last
abbrev pub is_all_or_all_but_one : List Value → List Value → Bool
is_all_or_all_but_one given taken = is_front taken given && leb (length given) (length taken + 1)

abbrev pub is_within : Option ℕ → List Value → Bool
is_within None values = true
is_within (Some max) values = leb (length values) max

module _ {W : Type 0} (run : Run W) where
  -- what crosses between two blocks
  abbrev pub crosses_between : ℕ → LinkSource → LinkTarget → Bool
  crosses_between l (Block _) (Port _ _) = is_all_or_all_but_one (given_over run l) (taken_over run l)
  crosses_between l _ _ = true

  abbrev pub crosses : ℕ → Bool
  crosses l = crosses_between l (link_of run l).source (link_of run l).target

  -- what is given passes the predicate
  abbrev pub gives_admitted : ℕ → Bool
  gives_admitted l = every (admits (link_of run l).when) (given_over run l)

  abbrev pub gives_within : ℕ → Bool
  gives_within l = is_within (link_of run l).max (given_over run l)

  -- what is taken from an input was posted
  abbrev pub posted_before : ℕ → LinkSource → Bool
  posted_before l (Block _) = true
  posted_before l (Input b) = is_front (taken_over run l) (input_of run b).posted

  abbrev pub takes_posted : ℕ → Bool
  takes_posted l = posted_before l (link_of run l).source

  -- a mark of a block names a link of that block
  abbrev pub is_own_mark : ℕ → Mark → Bool
  is_own_mark b (Took port link value) = ltb link (length run.layout.links) && ends_at_port b port (link_of run link).target
  is_own_mark b (Gave link value) = ltb link (length run.layout.links) && begins_at b (link_of run link).source
  is_own_mark b (Complete port) = ltb port (length (ports_of run b))
  is_own_mark b _ = true

  abbrev pub has_own_marks : ℕ → Bool
  has_own_marks b = every (is_own_mark b) (marks_of run b)

  -- there is room for what the block took and has not wholly given
  abbrev pub has_room_for : Option ℕ → ℕ → Bool
  has_room_for None count = true
  has_room_for (Some capacity) count = leb count capacity

  abbrev pub is_within_capacity : ℕ → Bool
  is_within_capacity b = every (λ p. has_room_for (block_of run b).capacity (load run b p)) (ports_of run b)

  -- how many messages a port took
  abbrev pub taken_count : ℕ → ℕ → ℕ
  taken_count b p = length (took_at p (marks_of run b))

  -- of a reserving join no port is more than one message ahead of another, and none where the join has ended
  abbrev pub is_level : ℕ → ℕ → ℕ → Bool
  is_level b p q =
      leb (taken_count b p) (taken_count b q + 1)
      && (not (is_faulted (marks_of run b) || is_done (marks_of run b)) || taken_count b p == taken_count b q)

  abbrev pub takes_level : ℕ → Bool
  takes_level b = not (is_reserving (block_of run b)) || every (λ p. every (is_level b p) (ports_of run b)) (ports_of run b)

  -- an earlier link was rightly passed over for this value: it rejects it, could not take it, is cut or refused
  abbrev pub is_passed : ℕ → List Mark → Value → ℕ → Bool
  is_passed b before value l =
      not (begins_at b (link_of run l).source)
      || not (admits (link_of run l).when value)
      || not (is_steady run.layout.blocks (link_of run l).target)
      || is_used_up (link_of run l).max (gave_over l before)
      || is_refused run l

  abbrev pub gives_in_order : ℕ → List Mark → List Mark → Bool
  gives_in_order b before [] = true
  gives_in_order b before (Gave link value ∷ marks) =
      every (is_passed b before value) (below link) && gives_in_order b (before ++ Gave link value ∷ []) marks
  gives_in_order b before (mark ∷ marks) = gives_in_order b before marks

  abbrev pub keeps_link_order : ℕ → Bool
  keeps_link_order b = not (is_one_taker (block_of run b).kind) || gives_in_order b [] (marks_of run b)

-- over each link the target took what the source gave, in order
pub record LinkLaw {W : Type 0} (run : Run W) : Type 0 where
  pub between_blocks : every (crosses run) (link_numbers run) ≡ true
  pub admitted : every (gives_admitted run) (link_numbers run) ≡ true
  pub within_max : every (gives_within run) (link_numbers run) ≡ true
  pub from_inputs : every (takes_posted run) (link_numbers run) ≡ true

-- each message of a block came or went over one link of its own. Its outputs are then what it gave, over all its links
-- in the order of its marks, and what is left
pub record OneTaker {W : Type 0} (run : Run W) : Type 0 where
  pub own_marks : every (has_own_marks run) (block_numbers run) ≡ true

-- no block takes more than it has room for, and the ports of a reserving join go together
pub record Counts {W : Type 0} (run : Run W) : Type 0 where
  pub within_capacity : every (is_within_capacity run) (block_numbers run) ≡ true
  pub level : every (takes_level run) (block_numbers run) ≡ true

-- a value goes over the first link that takes it, as far as that can be told
pub record LinkOrder {W : Type 0} (run : Run W) : Type 0 where
  pub each_block : every (keeps_link_order run) (block_numbers run) ≡ true
