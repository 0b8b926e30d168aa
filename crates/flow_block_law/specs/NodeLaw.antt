-- When a node is in order: its own data say so, whatever the other ends of its links do.
use Rattle.std.specs.Prelude.{◌≡◌, ◌≢◌, ℕ, ◌+◌, ◌-◌, ◌==◌, ◌<◌, ◌≤◌, ltb, ◌⊎◌, Bool, true, false, cond, not, ◌&&◌, ◌||◌, List, [], ◌∷◌, ◌++◌, length, map, Option, Some, None, is_some, Result, Err}
use Rattle.flow_value.specs.When.{admits}
use Rattle.flow_value.specs.declared.value.Value.{Value}
use Rattle.flow_link.specs.declared.draft.BlockKind.{BlockKind}
use Rattle.flow_link.specs.declared.draft.BlockKind.TheVariants.{Buffer, Broadcast, WriteOnce, Action, Transform, TransformMany, Batch, Join, BatchedJoin}
use Rattle.flow_link.specs.declared.kinds.BlockUnit.{BlockUnit}
use Rattle.flow_link.specs.declared.kinds.BlockUnit.TheVariants as unit
use Rattle.flow_link.specs.declared.stage.Refusal.{Refusal}
use Rattle.flow_link.specs.declared.stage.Refusal.TheVariants.{PortEnded, OwnFault}
use Rattle.flow_link.specs.declared.stage.TargetStage.TheVariants.{Refused}
use Rattle.flow_link.specs.declared.trace.Mark.{Mark}
use Rattle.flow_link.specs.declared.trace.Mark.TheVariants as mark
use Rattle.flow_link.specs.declared.trace.Outcome.{Outcome}
use Rattle.flow_link.specs.declared.trace.Outcome.TheVariants.{Done, Faulted}
use Rattle.flow_lawful.specs.Endings.{stops, completes_once, is_number}
use Rattle.flow_link.specs.Facts.{facts_in}
use Rattle.flow_lawful.specs.Law.{is_own_mark, gives_in_order}
use Rattle.flow_link.specs.Layout.{Layout}
use Rattle.flow_link.specs.Kinds.{unit_of}
use Rattle.flow_link.specs.Lists.{every, some, below}
use Rattle.flow_link.specs.Making.{all_items, are_groups, row_weight, before_complete}
use Rattle.flow_link.specs.Plan.{block_in, port_count, has_work, is_one_taker, is_write_once, is_reserving}
use Rattle.flow_link.specs.Trace.{Run, took, took_at, gave, gave_over, has_complete, has_fault, has_ended, is_done}
use Rattle.flow_link.specs.Worked.{WorkedInto}
use Rattle.flow_intake.specs.Port.{EndState, PortState, stage_at as port_stage}
use Rattle.flow_intake.specs.PortLaw.{PortLaw, has_ended as has_port_ended}
use Rattle.flow_intake.specs.Ended.{has_seen_completion, fault_seen}
use Rattle.flow_outlet.specs.Law.{OutletLaw, is_refused}
use Rattle.flow_outlet.specs.Fits.{weight_of}
use Rattle.flow_outlet.specs.Outlet.{OutletState, end_at, is_at_rest, is_empty}
use Rattle.flow_outlet.specs.declared.ends.OutEnd.{OutEnd}
use Rattle.flow_outlet.specs.declared.group.Group.{Group}
use Rattle.flow_spread.specs.Spread.{fresh_spread}
use Rattle.flow_group.specs.Round.{RoundState}
use Rattle.flow_group.specs.RoundLaw.{RoundLaw, InTurn}
use Rattle.flow_group.specs.Tuple.{held_at, has_tuple}
use Rattle.flow_group.specs.Tuples.{TuplesLaw}
use Rattle.flow_block.specs.Block.{BlockState, port_at, held_by, is_batch, is_join, is_batched_join}
use Rattle.flow_block_law.specs.Copier.{Copier}
use Rattle.flow_block.specs.Copies.{copies_weight, shared_rules}
use Rattle.flow_block.specs.Jobs.{out_count, AreOf, is_front_back}
use Rattle.flow_block.specs.Node.{NodeState}
use Rattle.flow_block.specs.Peeks.{is_pending, holds_nothing}
use Rattle.flow_block.specs.Planned.{lanes_of, size_of, links_to, links_from, sources_of, rule_of, block_makes, room_of}
use Rattle.flow_block.specs.Groups.{has_group_at}
use Rattle.flow_block_law.specs.GroupsLaw.{are_complete, OrderedGroups, LoadByPort}

-- the places of what it has not wholly given
abbrev pub places_out : BlockState → ℕ
places_out block = weight_of block.exits.groups + copies_weight block.copies

-- the source knows that this link is refused
abbrev pub refuses_over : List OutEnd → ℕ → Bool
refuses_over ends l = some (λ (end : OutEnd). end.rule.id == l && is_refused end.stage) ends

-- how a journal says that its block stopped
abbrev pub stops_at : Mark → Option Outcome
stops_at (mark.Fault number) = Some (Faulted number)
stops_at mark.Done = Some Done
stops_at _ = None

abbrev pub first_stop : Option Outcome → Option Outcome → Option Outcome
first_stop (Some how) later = Some how
first_stop None later = later

abbrev pub outcome_in : List Mark → Option Outcome
outcome_in [] = None
outcome_in (first ∷ marks) = first_stop (stops_at first) (outcome_in marks)

-- each message that is left has its weight, by its id
abbrev pub weighed : Option ℕ → ℕ → List Value → List Group
weighed None next left = []
weighed (Some capacity) next [] = []
weighed (Some capacity) next (_ ∷ left) = record { until = next; weight = 1 } ∷ weighed (Some capacity) (next + 1) left

-- of results in order, the first of which begins with this id, and of which so many values were given: each that is not
-- wholly given has its weight, by the id of its last value
abbrev pub partly : (first given : ℕ) → List (List Value) → List Group
partly first given [] = []
partly first given (result ∷ results) =
    cond (ltb given (length result)) (record { until = first + (length result - 1); weight = 1 } ∷ []) []
    ++ partly (first + length result) (given - length result) results

abbrev pub partly_weighed : Option ℕ → ℕ → List (List Value) → List Group
partly_weighed None given results = []
partly_weighed (Some capacity) given results = partly 1 given results

-- a result has its weight until its last value is given
pub record PartlyGiven (result : Value → Result (List Value) ℕ) (capacity : Option ℕ) (taken held given left : List Value) (groups : List Group) : Type 0 where
  pub works : WorkedInto result taken held (given ++ left)
  pub groups_are : groups ≡ partly_weighed capacity (length given) works.results

-- each row that is left has the weight of its messages, by its id
abbrev pub rows_weighed : Option ℕ → ℕ → List Value → List Group
rows_weighed None next left = []
rows_weighed (Some capacity) next [] = []
rows_weighed (Some capacity) next (row ∷ left) =
    record { until = next; weight = row_weight row } ∷ rows_weighed (Some capacity) (next + 1) left

-- which weights a block of this kind keeps for what it has left: one for each message that is not wholly given
abbrev pub WeighsAs : (Value → Result (List Value) ℕ) → BlockKind → Option ℕ → (taken held given left : List Value) → ℕ → List Group → Type 0
WeighsAs result Buffer capacity taken held given left next groups = groups ≡ weighed capacity next left
WeighsAs result Broadcast capacity taken held given left next groups = groups ≡ weighed capacity next left
WeighsAs result WriteOnce capacity taken held given left next groups = groups ≡ weighed capacity next left
WeighsAs result Action capacity taken held given left next groups = groups ≡ weighed capacity next left
WeighsAs result Transform capacity taken held given left next groups = groups ≡ weighed capacity next left
WeighsAs result TransformMany capacity taken held given left next groups = PartlyGiven result capacity taken held given left groups
WeighsAs result Batch capacity taken held given left next groups = groups ≡ rows_weighed capacity next left
WeighsAs result Join capacity taken held given left next groups = groups ≡ weighed capacity next left
WeighsAs result BatchedJoin capacity taken held given left next groups = groups ≡ weighed capacity next left

-- a message that is held first and on which the block's own function faults so
pub record FaultsOn (result : Value → Result (List Value) ℕ) (kind : BlockKind) (held : List Value) (number : ℕ) : Type 0 where
  pub works : has_work kind ≡ true
  pub message : Value
  pub rest : List Value
  pub held_is : held ≡ message ∷ rest
  pub fails : result message ≡ Err number

-- what a block of this kind makes of what it took; how many messages each row of a batch has is a law of its own
abbrev pub MakesAs : (Value → Result (List Value) ℕ) → BlockKind → (taken held given left recorded : List Value) → Type 0
MakesAs result Buffer taken held given left recorded = taken ≡ (given ++ left) ++ held
MakesAs result Broadcast taken held given left recorded = Unit {0}
MakesAs result WriteOnce taken held given left recorded = Unit {0}
MakesAs result Action taken held given left recorded = WorkedInto result taken held recorded × (left ≡ [])
MakesAs result Transform taken held given left recorded = WorkedInto result taken held (given ++ left)
MakesAs result TransformMany taken held given left recorded = WorkedInto result taken held (given ++ left)
MakesAs result Batch taken held given left recorded = taken ≡ all_items (given ++ left) ++ held
MakesAs result Join taken held given left recorded = Unit {0}
MakesAs result BatchedJoin taken held given left recorded = Unit {0}

-- a row has as many messages as a row of this size has
abbrev pub is_whole : ℕ → Value → Bool
is_whole size row = row_weight row == size

-- which rows a batch has made: none is empty or too great, and none was short while its port was open. Where it holds
-- something, or its port is open, all are whole
pub record RowsLaw (size : ℕ) (journal : List Mark) (held left : List Value) : Type 0 where
  pub groups : are_groups row_weight size (gave journal ++ left) ≡ true
  pub whole_before : every (is_whole size) (gave (before_complete 0 journal)) ≡ true
  pub whole : ((has_complete 0 journal && is_empty held) || every (is_whole size) (gave journal ++ left)) ≡ true

abbrev pub KeepsRows : BlockState → List Mark → Type 0
KeepsRows block journal = is_batch block.kind ≡ true → RowsLaw block.size journal (held_by block) block.exits.left

-- each message taken at a port stands in a tuple that was given or is left, in order, or waits at the port
abbrev pub KeepsTuples : BlockState → List Mark → Type 0
KeepsTuples block journal =
    TuplesLaw (length block.ports) (λ p. took_at p journal) (gave journal ++ block.exits.left) (held_at block.ports)

-- it could make nothing more of what it held when it stopped: a batch held less than a row, and nothing if its port had
-- completed before; a join held nothing at one of its ports; a batched join had no group
abbrev pub told_by_unit : BlockUnit → (row tuple group none : Bool) → Bool
told_by_unit unit.Message row tuple group none = none
told_by_unit unit.Row row tuple group none = row
told_by_unit unit.Tuple row tuple group none = tuple
told_by_unit unit.Group row tuple group none = group
told_by_unit unit.Copy row tuple group none = none
told_by_unit unit.OneCopy row tuple group none = none

abbrev pub made_all_by_unit : BlockUnit → BlockState → List Mark → Bool
made_all_by_unit made block journal =
    told_by_unit made (ltb (length (held_by block)) block.size && (not (has_complete 0 journal) || is_empty (held_by block)))
    (not (has_tuple block.ports)) (not (has_group_at block.size (are_complete (length block.ports) journal) block.ports))
    (holds_nothing block.ports)

abbrev pub has_made_all : BlockState → List Mark → Bool
has_made_all block journal = made_all_by_unit (unit_of block.kind) block journal

-- it takes one message in all, and took it
abbrev pub has_its_message : BlockKind → List Mark → Bool
has_its_message kind journal = is_write_once kind && not (is_empty (took journal))

-- these ports have completed; of a join, that is done and holds nothing, one has. What took its one message needs none
abbrev pub have_completed : BlockKind → ℕ → List Mark → Bool
have_completed kind count journal =
    cond (is_join kind) (some (λ p. has_complete p journal) (below count))
    (every (λ p. has_complete p journal) (below count) || has_its_message kind journal)

-- the end has seen this fault
abbrev pub is_fault_seen : ℕ → EndState → Bool
is_fault_seen number end = is_number number (fault_seen end.stage)

-- the round of a join that reserves is in order, where its ports took what the marks tell
pub record InRound (round : RoundState) (ports : List PortState) (journal : List Mark) : Type 0 where
  pub law : RoundLaw round.step ports (λ p. length (took_at p journal))
  pub turns : InTurn round.sources round.step ports

-- a port refused for this, and still would
abbrev pub RefusesFor : Option Refusal → Option ℕ → Refusal → Type 0
RefusesFor refusing fault PortEnded = refusing ≡ Some PortEnded
RefusesFor refusing fault OwnFault = is_some fault ≡ true

module _ {W : Type 0} (layout : Layout W) (meaning : ℕ → Value → Result (List Value) ℕ) (b : ℕ) where
  -- a run of this layout in which only what this block has seen of refusals is told
  abbrev pub run_seen_by : List OutEnd → Run W
  run_seen_by ends =
      record { layout = layout; meaning = meaning; trace = record { blocks = []; inputs = []; refused = refuses_over ends } }

  -- a port as the plan has it
  pub record PortAsPlanned (p : ℕ) (port : PortState) : Type 0 where
    pub links : map (λ (end : EndState). end.link) port.ends ≡ links_to layout b p
    pub capacity : port.capacity ≡ room_of (block_in layout.blocks b)
    pub reserves_is : port.reserves ≡ is_reserving (block_in layout.blocks b)

  -- the block is of the kind that the plan has there, with the ports and links that the plan gives it
  pub record ShapeLaw (block : BlockState) : Type 0 where
    pub kind_is : block.kind ≡ (block_in layout.blocks b).kind
    pub size_is : block.size ≡ size_of layout b
    pub some_size : is_batch block.kind ≡ true → 0 < block.size
    pub some_group : is_batched_join block.kind ≡ true → 0 < block.size
    pub no_capacity : is_write_once block.kind ≡ true → (block_in layout.blocks b).capacity ≡ None
    pub port_count_is : length block.ports ≡ port_count (block_in layout.blocks b)
    pub some_port : 0 < length block.ports
    pub ports : (p : ℕ) → p < length block.ports → PortAsPlanned p (port_at p block)
    -- the links over which it shares its messages out; where it copies them, there is none
    pub rules : map (λ (end : OutEnd). end.rule) block.exits.ends ≡ shared_rules block.kind (map (rule_of layout) (links_from layout b))

  -- each port is in order
  abbrev pub PortsLaw : BlockState → List Mark → Type 0
  PortsLaw block journal =
      (p : ℕ) → p < length block.ports → PortLaw (facts_in layout) (length (took_at p journal)) (port_at p block)

  -- the exits are in order
  pub record ExitsLaw (block : BlockState) : Type 0 where
    pub law : OutletLaw (is_pending block) block.stopped block.exits

  -- a block that shares its messages out copies none, and one that copies gives each of its links what it put
  pub record CopiesLaw (block : BlockState) (journal : List Mark) : Type 0 where
    pub idle : is_one_taker block.kind ≡ true → block.copies ≡ fresh_spread false [] 1
    pub copier : is_one_taker block.kind ≡ false → Copier layout b block journal

  -- what an end gave, as the marks tell it
  pub record GaveOver (journal : List Mark) (end : OutEnd) : Type 0 where
    pub admitted : every (admits end.rule.when) (gave_over end.rule.id journal) ≡ true
    pub counted : is_some end.rule.max ≡ true → end.given ≡ length (gave_over end.rule.id journal)

  pub record GaveLaw (exits : OutletState) (journal : List Mark) : Type 0 where
    pub each : (k : ℕ) → k < length exits.ends → GaveOver journal (end_at exits k)
    -- messages are counted from 1 on
    pub next_is : exits.next ≡ 1 + length (gave journal)
    -- each message went over the first link that took it
    pub in_order : gives_in_order (run_seen_by exits.ends) b [] journal ≡ true

  -- what it took, it holds or has made something of; its fault is that of its function on the message that it holds first
  pub record MakesLaw (block : BlockState) (journal : List Mark) : Type 0 where
    pub makes : MakesAs (block_makes layout meaning b) block.kind (took journal) (held_by block) (gave journal) block.exits.left block.recorded
    pub fault_is : (number : ℕ) → block.fault ≡ Some number → FaultsOn (block_makes layout meaning b) block.kind (held_by block) number

  -- it works on the messages that it holds first, no more of them are out than it has lanes, and the results that came back are
  -- theirs
  pub record JobsLaw (block : BlockState) (journal : List Mark) : Type 0 where
    pub lanes_are : block.jobs.lanes ≡ lanes_of layout b
    pub some_lane : 0 < block.jobs.lanes
    pub within : out_count block.jobs.slots ≤ block.jobs.lanes
    pub only_works : has_work block.kind ≡ false → block.jobs.slots ≡ []
    pub results : AreOf (block_makes layout meaning b) (held_by block) block.jobs.slots
    -- a result that came back in its turn came out, unless it is the fault of the block's own function
    pub drained : block.fault ≡ None → is_front_back block.jobs.slots ≡ false
    -- tickets count the messages
    pub counted : has_work block.kind ≡ true → block.jobs.first + length (held_by block) ≡ length (took journal)

  -- a place is taken by each message that it holds or has not wholly given, and by the element while that counts
  pub record LoadLaw (block : BlockState) (journal : List Mark) : Type 0 where
    pub groups : WeighsAs (block_makes layout meaning b) block.kind (room_of (block_in layout.blocks b)) (took journal)
        (held_by block) (gave journal) block.exits.left block.exits.next block.exits.groups
    pub no_room : block.exits.room ≡ 0
    pub load : (p : ℕ) → p < length block.ports → is_some (room_of (block_in layout.blocks b)) ≡ true
        → (port_at p block).load ≡ length (port_at p block).waiting + places_out block

  -- its marks are of its own links and ports, and nothing follows an end
  pub record MarksLaw (journal : List Mark) : Type 0 where
    pub own : every (is_own_mark (run_seen_by []) b) journal ≡ true
    pub last : stops journal ≡ true
    pub once : completes_once journal ≡ true

  -- how it has ended, and why
  pub record EndsLaw (block : BlockState) (journal : List Mark) : Type 0 where
    pub stopped_is : block.stopped ≡ outcome_in journal
    pub ended_is : (p : ℕ) → p < length block.ports → has_port_ended (port_at p block).refusing ≡ has_ended p journal
    -- a block whose function faulted takes no more
    pub failed : is_some block.fault ≡ true → (p : ℕ) → p < length block.ports → is_some (port_at p block).refusing ≡ true
    pub own_fault : (p : ℕ) → p < length block.ports → (port_at p block).refusing ≡ Some OwnFault → is_some block.fault ≡ true
    pub refused : (p k : ℕ) → p < length block.ports → k < length (port_at p block).ends → (why : Refusal)
        → port_stage k (port_at p block) ≡ Refused why → RefusesFor (port_at p block).refusing block.fault why
    -- a fault that came over a link has a number
    pub numbered : (p k : ℕ) → p < length block.ports → k < length (port_at p block).ends → (number : ℕ)
        → fault_seen (port_stage k (port_at p block)) ≡ Some number → 1 ≤ number
    -- a block that has stopped has nothing under way
    pub at_rest : is_some block.stopped ≡ true → is_at_rest block.exits ≡ true
    -- one that is done holds nothing, has nothing left, and its ports have completed
    pub done_empty : block.stopped ≡ Some Done → (holds_nothing block.ports ≡ true) × (block.exits.left ≡ [])
    pub done_complete : is_done journal ≡ true → have_completed block.kind (length block.ports) journal ≡ true
    -- each end has a cause that it has seen; a port also completes where the block has all that it takes
    pub complete_cause : (p : ℕ) → p < length block.ports → has_complete p journal ≡ true
        → has_its_message block.kind journal ≡ false → has_seen_completion (port_at p block).ends ≡ true
    pub fault_cause : (number : ℕ) → has_fault number journal ≡ true
        → (block.fault ≡ Some number) ⊎ (some (λ (port : PortState). some (λ (end : EndState). is_fault_seen number end) port.ends) block.ports ≡ true)
    -- a fault that came over a link stops it only when it could make nothing more
    pub faulted_by : (number : ℕ) → block.stopped ≡ Some (Faulted number)
        → (block.fault ≡ Some number) ⊎ ((block.fault ≡ None) × (has_made_all block journal ≡ true))

  -- a join that reserves has its links' sources, and keeps its round in order
  pub record RoundKept (node : NodeState) : Type 0 where
    pub sources_are : node.round.sources ≡ sources_of layout b
    pub in_round : is_reserving (block_in layout.blocks b) ≡ true → InRound node.round node.block.ports node.journal

  pub record NodeLaw (node : NodeState) : Type 0 where
    -- and so has each fault of its own function
    pub by_number : (value : Value) → meaning b value ≢ Err 0
    pub shape : ShapeLaw node.block
    pub ports : PortsLaw node.block node.journal
    pub exits : ExitsLaw node.block
    pub copies : CopiesLaw node.block node.journal
    -- what takes one message in all copies it at once
    pub none_held : is_write_once node.block.kind ≡ true → held_by node.block ≡ []
    pub gave : is_one_taker node.block.kind ≡ true → GaveLaw node.block.exits node.journal
    pub makes : MakesLaw node.block node.journal
    pub rows : KeepsRows node.block node.journal
    pub tuples : is_join node.block.kind ≡ true → KeepsTuples node.block node.journal
    pub jobs : JobsLaw node.block node.journal
    pub load : is_batched_join node.block.kind ≡ false → LoadLaw node.block node.journal
    -- a batched join cuts what it took into groups, and counts at each port what they have from there
    pub groups : is_batched_join node.block.kind ≡ true → OrderedGroups node
    pub group_load : is_batched_join node.block.kind ≡ true → LoadByPort node.block
    pub round : RoundKept node
    pub marks : MarksLaw node.journal
    pub ends : EndsLaw node.block node.journal
