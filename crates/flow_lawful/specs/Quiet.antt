-- When a network is quiet: nothing is under way, and nothing is left that a block, a link or an input could still do.
use Rattle.std.specs.Prelude.{◌≡◌, ℕ, ◌==◌, ltb, Bool, true, false, not, ◌&&◌, ◌||◌, List, [], ◌∷◌, length, map, sum, Option, Some, None}
use Rattle.flow_value.specs.When.{admits}
use Rattle.flow_value.specs.declared.value.Value.{Value}
use Rattle.flow_link.specs.declared.draft.BlockKind.{BlockKind}
use Rattle.flow_link.specs.declared.draft.BlockKind.TheVariants.{Buffer, Broadcast, WriteOnce, Action, Transform, TransformMany, Batch, Join, BatchedJoin}
use Rattle.flow_link.specs.declared.plan.LinkSource.{LinkSource}
use Rattle.flow_link.specs.declared.plan.LinkSource.TheVariants.{Block, Input}
use Rattle.flow_link.specs.declared.plan.LinkTarget.{LinkTarget}
use Rattle.flow_link.specs.declared.plan.LinkTarget.TheVariants.{Port, Exit}
use Rattle.flow_link.specs.declared.trace.Ending.{Ending}
use Rattle.flow_link.specs.declared.trace.Ending.TheVariants.{Open}
use Rattle.flow_link.specs.Plan.{is_reserving, is_broadcast, ends_at_port}
use Rattle.flow_link.specs.Lists.{every, some, is_empty, same_values}
use Rattle.flow_link.specs.Making.{load, group_size}
use Rattle.flow_lawful.specs.Endings.{own_fault, is_complete, has_nothing, passes_on}
use Rattle.flow_link.specs.Trace.{Run, has_complete, has_fault, has_ended, is_faulted, is_done, block_of, link_of, marks_of, held_at, left_at, ports_of, input_of, waits_over, given_over, taken_over, is_cut, block_numbers, link_numbers}

abbrev pub is_open : Ending → Bool
is_open Open = true
is_open _ = false

-- a message that a link could carry next
abbrev pub first_of : List Value → Option Value
first_of [] = None
first_of (value ∷ _) = Some value

module _ {W : Type 0} (run : Run W) where
  abbrev pub is_home_between : ℕ → LinkSource → LinkTarget → Bool
  is_home_between l (Block _) (Port _ _) = same_values (given_over run l) (taken_over run l)
  is_home_between l _ _ = true

  -- nothing is under way between two blocks
  abbrev pub is_home : ℕ → Bool
  is_home l = is_home_between l (link_of run l).source (link_of run l).target

  abbrev pub has_this_fault : ℕ → Option ℕ → Bool
  has_this_fault b None = false
  has_this_fault b (Some fault) = has_fault fault (marks_of run b)

  abbrev pub faulted_by_itself : ℕ → Bool
  faulted_by_itself b = has_this_fault b (own_fault run b)

  abbrev pub held_in_all : ℕ → ℕ
  held_in_all b = sum (map (λ p. length (held_at run b p)) (ports_of run b))

  abbrev pub holds_nothing : ℕ → Bool
  holds_nothing b = every (λ p. is_empty (held_at run b p)) (ports_of run b)

  abbrev pub all_completed : ℕ → Bool
  all_completed b = every (λ p. has_complete p (marks_of run b)) (ports_of run b)

  -- there is no group to make: not a whole one, nor the rest when all has come. Where a fault comes after that, the rest
  -- is made a group first; a fault that comes before lets it stay
  abbrev pub has_no_group : ℕ → Bool
  has_no_group b =
      ltb (held_in_all b) (group_size run b)
      && (not (all_completed b) || holds_nothing b)

  abbrev pub has_no_row : ℕ → Bool → Bool
  has_no_row b true = holds_nothing b
  has_no_row b false = some (λ p. is_empty (held_at run b p)) (ports_of run b)

  -- nothing that is held could be worked on
  abbrev pub rests_as : BlockKind → ℕ → Bool
  rests_as Buffer b = holds_nothing b
  rests_as Broadcast b = holds_nothing b
  rests_as WriteOnce b = holds_nothing b
  rests_as Action b = holds_nothing b
  rests_as Transform b = holds_nothing b
  rests_as TransformMany b = holds_nothing b
  rests_as Batch b = has_no_group b
  rests_as Join b = has_no_row b (is_reserving (block_of run b))
  rests_as BatchedJoin b = has_no_group b

  abbrev pub rests : ℕ → Bool
  rests b = faulted_by_itself b || rests_as (block_of run b).kind b

  -- a block that could be Done is
  abbrev pub is_done_if_can : ℕ → Bool
  is_done_if_can b =
      is_faulted (marks_of run b) || is_done (marks_of run b)
      || not (is_complete run b && has_nothing run b)

  -- the source has ended, and its end comes over the link
  abbrev pub end_comes_from : ℕ → LinkSource → Bool
  end_comes_from l (Block s) = passes_on run l && (is_done (marks_of run s) || is_faulted (marks_of run s))
  end_comes_from l (Input s) = not (is_open (input_of run s).ending) && is_empty (waits_over run s l)

  abbrev pub end_reaches : ℕ → LinkTarget → Bool
  end_reaches l Exit = true
  end_reaches l (Port b p) = not (end_comes_from l (link_of run l).source) || has_ended p (marks_of run b)

  -- whatever end comes over the link has ended the port
  abbrev pub hands_its_end_on : ℕ → Bool
  hands_its_end_on l = end_reaches l (link_of run l).target

  abbrev pub head_as : ℕ → ℕ → Bool → BlockKind → Option Value
  head_as s l true kind = None
  head_as s l false Buffer = first_of (left_at run s)
  head_as s l false Broadcast = None
  head_as s l false WriteOnce = elim (given_over run l) [ [] ↦ first_of (left_at run s) | value ∷ values ↦ None ]
  head_as s l false Action = first_of (left_at run s)
  head_as s l false Transform = first_of (left_at run s)
  head_as s l false TransformMany = first_of (left_at run s)
  head_as s l false Batch = first_of (left_at run s)
  head_as s l false Join = first_of (left_at run s)
  head_as s l false BatchedJoin = first_of (left_at run s)

  -- the message that would cross next
  abbrev pub head_from : ℕ → LinkSource → Option Value
  head_from l (Block s) = head_as s l (is_faulted (marks_of run s)) (block_of run s).kind
  head_from l (Input s) = first_of (waits_over run s l)

  abbrev pub admits_head : ℕ → Option Value → Bool
  admits_head l None = false
  admits_head l (Some value) = admits (link_of run l).when value

  abbrev pub has_not_ended : LinkTarget → Bool
  has_not_ended Exit = true
  has_not_ended (Port b p) = not (has_ended p (marks_of run b))

  -- a message could cross, if the target would take it
  abbrev pub could_cross : ℕ → Bool
  could_cross l =
      not (is_cut run l) && has_not_ended (link_of run l).target
      && admits_head l (head_from l (link_of run l).source)

  abbrev pub is_full_with : Option ℕ → ℕ → Bool
  is_full_with None count = false
  is_full_with (Some capacity) count = count == capacity

  -- the join has a port for which no message is there
  abbrev pub lacks_a_port : ℕ → Bool
  lacks_a_port b = some (λ p. not (some (λ l. ends_at_port b p (link_of run l).target && could_cross l) (link_numbers run))) (ports_of run b)

  -- the target would not take a message now
  abbrev pub holds_back : LinkTarget → Bool
  holds_back Exit = true
  holds_back (Port b p) =
      is_full_with (block_of run b).capacity (load run b p)
      || (is_reserving (block_of run b) && lacks_a_port b)

  abbrev pub carries_no_more : ℕ → Bool
  carries_no_more l = not (could_cross l) || holds_back (link_of run l).target

  abbrev pub has_served_all : ℕ → Bool
  has_served_all b = not (is_broadcast (block_of run b).kind) || is_faulted (marks_of run b) || is_empty (left_at run b)

-- nothing is left to do
pub record Quiet {W : Type 0} (run : Run W) : Type 0 where
  pub home : every (is_home run) (link_numbers run) ≡ true
  pub at_rest : every (rests run) (block_numbers run) ≡ true
  pub done : every (is_done_if_can run) (block_numbers run) ≡ true
  pub ends_handed_on : every (hands_its_end_on run) (link_numbers run) ≡ true
  pub heads : every (carries_no_more run) (link_numbers run) ≡ true
  pub served : every (has_served_all run) (block_numbers run) ≡ true
