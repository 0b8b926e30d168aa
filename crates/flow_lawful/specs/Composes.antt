-- A network is lawful when each block keeps its own laws, each input and exit keeps its own, and each link is in order.
use Rattle.std.specs.Prelude.{◌≡◌, ℕ, ◌+◌, ◌<◌, ◌==◌, Bool, true, false, not, ◌&&◌, ◌||◌, is_some, List, [], ◌++◌, length, filter, Option, Some}
use Rattle.flow_value.specs.When.{admits}
use Rattle.flow_value.specs.declared.value.Value.{Value}
use Rattle.flow_link.specs.declared.draft.BlockKind.{BlockKind}
use Rattle.flow_link.specs.declared.draft.BlockKind.TheVariants.{Buffer, Broadcast, WriteOnce, Action, Transform, TransformMany, Batch, Join, BatchedJoin}
use Rattle.flow_link.specs.declared.phase.Phase.{Phase}
use Rattle.flow_link.specs.declared.phase.Phase.TheVariants.{Refused}
use Rattle.flow_link.specs.declared.phase.LinkEnd.TheVariants.{Plain, Complete as end_complete, Fault as end_fault}
use Rattle.flow_link.specs.declared.plan.LinkSource.TheVariants.{Block, Input}
use Rattle.flow_link.specs.declared.plan.LinkTarget.{LinkTarget}
use Rattle.flow_link.specs.declared.plan.LinkTarget.TheVariants.{Port, Exit}
use Rattle.flow_link.specs.declared.trace.Mark.{Mark}
use Rattle.flow_link.specs.declared.trace.Mark.TheVariants.{Complete, Fault}
use Rattle.flow_link.specs.declared.trace.Ending.TheVariants.{Complete as ending_complete, Fault as ending_fault}
use Rattle.flow_link.specs.Views.{SourceStage, TargetStage, Refusal, SourceView, TargetView, LinkFacts}
use Rattle.flow_link.specs.LinkOk.{LinkOk}
use Rattle.flow_link.specs.Lists.{every, some, concat, is_empty, is_front}
use Rattle.flow_link.specs.Plan.{is_steady, is_sole, is_reserving, is_write_once, is_one_taker, ends_at, ends_at_port}
use Rattle.flow_link.specs.Trace.{Run, took, took_at, took_over, gave_over, is_done, is_faulted, has_fault, has_ended, block_of, link_of, link_numbers, ports_of, trace_of, marks_of, held_at, left_at, input_of, is_cut}
use Rattle.flow_link.specs.Making.{results_of, block_result, outputs, makes_as, load}
use Rattle.flow_lawful.specs.Law.{has_own_marks, has_room_for, takes_level, keeps_link_order}
use Rattle.flow_link.specs.Copies.{copies}
use Rattle.flow_lawful.specs.Endings.{own_fault, is_number, stops_at, completes_once_at, ends_rightly}
use Rattle.flow_lawful.specs.Lawful.{Lawful}
use Rattle.flow_lawful.specs.Shape.{Shape}

-- a link with what its two ends know of it
pub record Ends : Type 0 where
  pub phase : Phase
  pub slot : Option Value
  pub source : SourceView Value
  pub target : TargetView Value

abbrev pub is_refused_phase : Phase → Bool
is_refused_phase Refused = true
is_refused_phase _ = false

abbrev pub is_refused_stage : SourceStage → Bool
is_refused_stage SourceStage.refused = true
is_refused_stage _ = false

-- the target has seen that the link ended with completion, or with this fault
abbrev pub has_seen_completion : TargetStage Value → Bool
has_seen_completion (TargetStage.ended end_complete) = true
has_seen_completion _ = false

abbrev pub has_seen_fault : ℕ → TargetStage Value → Bool
has_seen_fault fault (TargetStage.ended (end_fault number)) = number == fault
has_seen_fault fault _ = false

-- the source's message is spoken for over this link: it is out and not seen put off, or it is wanted at once, or kept for
-- the target, or on its way into the slot
abbrev pub is_spoken_for : SourceStage → Bool
is_spoken_for (SourceStage.posted _) = true
is_spoken_for (SourceStage.out _) = true
is_spoken_for (SourceStage.accepted _) = true
is_spoken_for (SourceStage.reserved _) = true
is_spoken_for (SourceStage.claimed _) = true
is_spoken_for (SourceStage.filling _) = true
is_spoken_for _ = false

-- the target wants the message or has it on the way, or asks to reserve it or holds it, so that its place is taken
abbrev pub is_coming : TargetStage Value → Bool
is_coming (TargetStage.accepted _) = true
is_coming (TargetStage.consuming _) = true
is_coming (TargetStage.asking _) = true
is_coming (TargetStage.holding _) = true
is_coming (TargetStage.claiming _) = true
is_coming (TargetStage.arrived _) = true
is_coming (TargetStage.hand _ _) = true
is_coming _ = false

module _ {W : Type 0} (run : Run W) (ends : ℕ → Ends) where
  -- what the plan says of a link
  abbrev pub reserves_at : LinkTarget → Bool
  reserves_at (Port b _) = is_reserving (block_of run b)
  reserves_at Exit = false

  abbrev pub facts_of : ℕ → LinkFacts
  facts_of l = record {
    steady = is_steady run.layout.blocks (link_of run l).target;
    sole = is_sole run.layout.blocks run.layout.links (link_of run l).target;
    reserving = reserves_at (link_of run l).target;
    max = (link_of run l).max;
    propagates = (link_of run l).propagate;
  }

  -- the run as the sources know it: they have seen some refusals
  abbrev pub as_seen : Run W
  as_seen = record run { trace = record { blocks = run.trace.blocks; inputs = run.trace.inputs; refused = λ l. is_refused_stage (ends l).source.stage } }

  -- a block is done with a link: it has carried all that it may, or the block has ended
  abbrev pub is_done_with : ℕ → ℕ → Bool
  is_done_with l b = is_cut run l || is_done (marks_of run b) || is_faulted (marks_of run b)

  -- a source's end of a link of its own: its account is that of its marks, it gives what the predicate admits, and it
  -- ends the link by its own end. It ends none while it may still have something to give over it
  pub record SourceKeeps (l b : ℕ) : Type 0 where
    pub from_start : (ends l).source.before ≡ 0
    pub given : (ends l).source.given ≡ gave_over l (marks_of run b)
    pub admitted : every (admits (link_of run l).when) (gave_over l (marks_of run b)) ≡ true
    pub after_done : (ends l).source.stage ≡ SourceStage.ended end_complete → is_done (marks_of run b) ≡ true
    pub after_fault : (fault : ℕ) → (ends l).source.stage ≡ SourceStage.ended (end_fault fault) → has_fault fault (marks_of run b) ≡ true
    pub after_plain : (ends l).source.stage ≡ SourceStage.ended Plain → is_done_with l b ≡ true

  -- why a block refuses at a port, as its marks and what it holds tell
  abbrev pub RefusesFor : ℕ → ℕ → Refusal → Type 0
  RefusesFor b p Refusal.port_ended = has_ended p (marks_of run b) ≡ true
  RefusesFor b p Refusal.own_fault = is_some (own_fault run b) ≡ true

  -- a target's end: its account is that of its marks, and it refuses for a reason that stays
  pub record TargetKeeps (l b p : ℕ) : Type 0 where
    pub from_start : (ends l).target.before ≡ 0
    pub taken : (ends l).target.taken ≡ took_over l (marks_of run b)
    pub refuses : (why : Refusal) → (ends l).target.stage ≡ TargetStage.refused why → RefusesFor b p why

  -- an input gives what is posted, in order, and ends its link when it has given all, and then as it ends itself
  pub record InputKeeps (l b : ℕ) : Type 0 where
    pub from_start : (ends l).source.before ≡ 0
    pub given : is_front (ends l).source.given (input_of run b).posted ≡ true
    pub after_complete : (ends l).source.stage ≡ SourceStage.ended end_complete
        → ((input_of run b).ending ≡ ending_complete) × ((ends l).source.given ≡ (input_of run b).posted)
    pub after_fault : (fault : ℕ) → (ends l).source.stage ≡ SourceStage.ended (end_fault fault)
        → ((input_of run b).ending ≡ ending_fault fault) × ((ends l).source.given ≡ (input_of run b).posted)
    pub never_plain : (ends l).source.stage ≡ SourceStage.ended Plain → ⊥

  -- an exit never refuses
  pub record ExitKeeps (l : ℕ) : Type 0 where
    pub takes : (why : Refusal) → (ends l).target.stage ≡ TargetStage.refused why → ⊥

  -- what a block with a work took is worked, or held; what it made are the results of the worked, in order
  pub record WorksInto (b : ℕ) (made : List Value) : Type 0 where
    pub done : List Value
    pub results : List (List Value)
    pub taken : took (marks_of run b) ≡ done ++ held_at run b 0
    pub worked : results_of (block_result run b) done ≡ Some results
    pub all : made ≡ concat results

  -- an action records its results, and has none to give
  pub record RecordsAll (b : ℕ) : Type 0 where
    pub works : WorksInto b (trace_of run b).recorded
    pub none_left : left_at run b ≡ []

  abbrev pub NodeMakes : ℕ → BlockKind → Type 0
  NodeMakes b Buffer = took (marks_of run b) ≡ outputs run b ++ held_at run b 0
  NodeMakes b Broadcast = makes_as run b Broadcast ≡ true
  NodeMakes b WriteOnce = makes_as run b WriteOnce ≡ true
  NodeMakes b Action = RecordsAll b
  NodeMakes b Transform = WorksInto b (outputs run b)
  NodeMakes b TransformMany = WorksInto b (outputs run b)
  NodeMakes b Batch = makes_as run b Batch ≡ true
  NodeMakes b Join = makes_as run b Join ≡ true
  NodeMakes b BatchedJoin = makes_as run b BatchedJoin ≡ true

  -- how many messages are on the way into a port, whose places are taken
  abbrev pub coming : ℕ → ℕ → ℕ
  coming b p = length (filter (λ l. ends_at_port b p (link_of run l).target && is_coming (ends l).target.stage) (link_numbers run))

  abbrev pub has_room_at : ℕ → ℕ → Bool
  has_room_at b p = has_room_for run (block_of run b).capacity (load run b p + coming b p)

  -- a mark that ends something has a cause that the block has seen
  abbrev pub has_seen_cause : ℕ → Mark → Bool
  has_seen_cause b (Complete p) =
      some (λ l. ends_at_port b p (link_of run l).target && has_seen_completion (ends l).target.stage) (link_numbers run)
      || (is_write_once (block_of run b).kind && not (is_empty (took_at p (marks_of run b))))
  has_seen_cause b (Fault fault) =
      is_number fault (own_fault run b)
      || some (λ l. ends_at b (link_of run l).target && has_seen_fault fault (ends l).target.stage) (link_numbers run)
  has_seen_cause b _ = true

  -- a block that gives each message once speaks for one of its links at a time: it has one offer out, and none while its
  -- message is kept for a target or goes to one
  abbrev pub SpeaksForOne : ℕ → Type 0
  SpeaksForOne b = (k l : ℕ) → k < length run.layout.links → l < length run.layout.links
      → (link_of run k).source ≡ Block b → (link_of run l).source ≡ Block b
      → is_spoken_for (ends k).source.stage ≡ true → is_spoken_for (ends l).source.stage ≡ true → k ≡ l

  -- what a block keeps by itself: its journal, what it holds and has left, and what it has seen of its links
  pub record NodeKeeps (b : ℕ) : Type 0 where
    pub own_marks : has_own_marks run b ≡ true
    pub makes : NodeMakes b (block_of run b).kind
    pub room : every (has_room_at b) (ports_of run b) ≡ true
    pub level : takes_level run b ≡ true
    pub copies_seen : copies as_seen b ≡ true
    pub last : stops_at run b ≡ true
    pub once : completes_once_at run b ≡ true
    pub done : ends_rightly run b ≡ true
    pub causes : every (has_seen_cause b) (marks_of run b) ≡ true
    pub order_seen : keeps_link_order as_seen b ≡ true
    pub one_at_a_time : is_one_taker (block_of run b).kind ≡ true → SpeaksForOne b
    pub sources : (l : ℕ) → l < length run.layout.links → (link_of run l).source ≡ Block b → SourceKeeps l b
    pub targets : (l p : ℕ) → l < length run.layout.links → (link_of run l).target ≡ Port b p → TargetKeeps l b p

  -- a link is in order, by what the plan says of it
  abbrev pub LinkKeeps : ℕ → Type 0
  LinkKeeps l = LinkOk (facts_of l) (ends l).phase (ends l).slot (ends l).source (ends l).target

  -- each part of a network keeps its own laws, and no part knows another but by a link in order
  pub record PartsKeep : Type 0 where
    pub shape : Shape run
    pub nodes : (b : ℕ) → b < length run.layout.blocks → NodeKeeps b
    pub inputs : (l b : ℕ) → l < length run.layout.links → (link_of run l).source ≡ Input b → InputKeeps l b
    pub exits : (l : ℕ) → l < length run.layout.links → (link_of run l).target ≡ Exit → ExitKeeps l
    pub links : (l : ℕ) → l < length run.layout.links → LinkKeeps l
    pub refused : (l : ℕ) → run.trace.refused l ≡ is_refused_phase (ends l).phase
    -- a link leads from a block that is there to a block that is there
    pub from_blocks : (l b : ℕ) → l < length run.layout.links → (link_of run l).source ≡ Block b → b < length run.layout.blocks
    pub to_blocks : (l b p : ℕ) → l < length run.layout.links → (link_of run l).target ≡ Port b p → b < length run.layout.blocks

-- then the whole is lawful
abbrev pub Composes : Type 0 → Type 0
Composes W = (run : Run W) (ends : ℕ → Ends) → PartsKeep run ends → Lawful run
