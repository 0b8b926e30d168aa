-- What is proved of the states of a network.
use Rattle.std.specs.Prelude.{◌≡◌, ◌≢◌, ℕ, ◌+◌, ◌<◌, ◌≤◌, ◌⊎◌, List, [], ◌∷◌, length, take, count_by, Some, Result, Err, is_some, true}
use Rattle.flow_value.specs.declared.value.Value.{Value}
use Rattle.flow_link.specs.declared.phase.Move.{Move}
use Rattle.flow_link.specs.declared.phase.Move.TheVariants.{Deny}
use Rattle.flow_link.specs.Layout.{Layout}
use Rattle.flow_lawful.specs.Composes.{SpeaksForOne}
use Rattle.flow_lawful.specs.Lawful.{Lawful}
use Rattle.flow_link.specs.Phase.{phase_after}
use Rattle.flow_link.specs.Plan.{block_in, link_in, is_one_taker}
use Rattle.flow_lawful.specs.Quiet.{Quiet}
use Rattle.flow_link.specs.Trace.{InputTrace, gave_over, marks_of, took_over}
use Rattle.flow_link.specs.Lists.{every, is_front}
use Rattle.flow_link.specs.Posted.{ends_by_number}
use Rattle.flow_link.specs.Views.{SourceStage}
use Rattle.flow_link.specs.declared.phase.LinkEnd.{LinkEnd}
use Rattle.flow_link.specs.declared.plan.LinkSource.TheVariants.{Block, Input}
use Rattle.flow_link.specs.declared.plan.LinkTarget.TheVariants.{Exit, Port}
use Rattle.flow_link.specs.declared.stage.TargetStage.TheVariants.{Ended}
use Rattle.flow_exit.specs.Exit.{ExitCall, after_exit, is_callers}
use Rattle.flow_input.specs.Input.{InputCall, after_input, is_unseen}
use Rattle.flow_input.specs.InputKeeps.{MayCallInput}
use Rattle.flow_core.specs.AtRest.{AtRest}
use Rattle.flow_core.specs.Events.{NetEvent, Enabled, MayHappen, after, after_post, peek_by, is_of_source, with_exit, with_input}
use Rattle.flow_core.specs.InOrder.{NetInOrder, all_looked, journals_of}
use Rattle.flow_core.specs.Inputs.{InputsAreChanged, InputsStay}
use Rattle.flow_core.specs.Keeps.{IsRun, NetKeeps, LineKeeps}
use Rattle.flow_core.specs.State.{NetState, line_at, input_at, exit_at, ends_of, callers_in, run_of_net, fresh_net}

-- what was received is what was given, in order, and at most one message more was given
pub record IsReceivedOf (received given : List Value) : Type 0 where
  pub front : is_front received given ≡ true
  pub one_more : length given ≤ length received + 1

module _ {W : Type 0} (layout : Layout W) (meaning : ℕ → Value → Result (List Value) ℕ) where
  -- nothing may happen any more
  abbrev pub IsStill : NetState → Type 0
  IsStill net = (event : NetEvent) → Enabled layout net event → ⊥

  -- the event that is asked for may happen, and has
  pub record Happens (event : NetEvent) (old new : NetState) : Type 0 where
    pub may : MayHappen layout meaning event old
    pub new_is : new ≡ after layout meaning event old

  -- it may not happen, and nothing has changed
  pub record IsPassedOver (event : NetEvent) (old new : NetState) : Type 0 where
    pub may_not : MayHappen layout meaning event old → ⊥
    pub same : new ≡ old

  abbrev pub Answers : NetEvent → NetState → NetState → Type 0
  Answers event old new = Happens event old new ⊎ IsPassedOver event old new

  -- the whole list leads from one state to another
  abbrev pub Goes : List NetEvent → NetState → NetState → Type 0
  Goes [] old new = new ≡ old
  Goes (event ∷ events) old new = (mid : NetState) × (Answers event old mid × Goes events mid new)

  -- what is kept for a target that reserves. A block that gives each message once speaks for one link at a time, so that nobody else
  -- is offered it or given it; of a copy each link has its own. And the target that claims it is given it
  pub record HoldsForOne (net : NetState) : Type 0 where
    pub alone : (b : ℕ) → b < length layout.blocks → is_one_taker (block_in layout.blocks b).kind ≡ true
        → SpeaksForOne (run_of_net layout meaning net) (ends_of layout net) b
    pub granted : (l i : ℕ) → l < length layout.links → (ends_of layout net l).source.stage ≡ SourceStage.claimed i
        → Enabled layout net (NetEvent.at_link l Deny) → ⊥

  -- what is known of a network that came from its start by such a list
  pub record GoesWell (start now : NetState) : Type 0 where
    pub lawful : Lawful (run_of_net layout meaning now)
    -- each link is in order, and each end of it has seen its phase
    pub links : (l : ℕ) → l < length layout.links → LineKeeps layout now l
    pub same_inputs : (run_of_net layout meaning now).trace.inputs ≡ (run_of_net layout meaning start).trace.inputs
    -- what the callers of exits have received and asked for is theirs to change
    pub same_callers : callers_in now ≡ callers_in start
    pub kept : HoldsForOne now
    -- and it is quiet where nothing may happen any more
    pub quiet : IsStill now → Quiet (run_of_net layout meaning now)

module _ (W : Type 0) where
  -- of each network that runs
  abbrev pub OfEachNet : ((layout : Layout W) → (ℕ → Value → Result (List Value) ℕ) → Type 0) → Type 0
  OfEachNet P = (layout : Layout W) (meaning : ℕ → Value → Result (List Value) ℕ) → IsRun layout → P layout meaning

  -- a network in which nothing has happened is in order, where no work faults by number 0 and no input ends by it
  abbrev pub FreshKeeps : Type 0
  FreshKeeps = OfEachNet λ layout meaning.
      ((b : ℕ) (value : Value) → meaning b value ≢ Err 0)
      → (posted : List InputTrace) → length posted ≡ count_by (λ block. block.input) layout.blocks
      → every ends_by_number posted ≡ true
      → NetKeeps layout meaning (fresh_net layout posted)

  -- each event that may happen keeps it so
  abbrev pub EventsKeep : Type 0
  EventsKeep = OfEachNet λ layout meaning.
      (net : NetState) (event : NetEvent) → NetKeeps layout meaning net → MayHappen layout meaning event net
      → NetKeeps layout meaning (after layout meaning event net)

  -- and so does what the caller of an exit does
  abbrev pub ExitCallsKeep : Type 0
  ExitCallsKeep = OfEachNet λ layout meaning.
      (net : NetState) (l : ℕ) (call : ExitCall) → NetKeeps layout meaning net → l < length layout.links
      → (link_in layout.links l).target ≡ Exit → is_callers call ≡ true
      → NetKeeps layout meaning (with_exit layout l (after_exit call) net)

  -- and so does what the caller of an input does that the link knows nothing of
  abbrev pub EntryCallsKeep : Type 0
  EntryCallsKeep = OfEachNet λ layout meaning.
      (net : NetState) (l b : ℕ) (call : InputCall) → NetKeeps layout meaning net → l < length layout.links
      → (link_in layout.links l).source ≡ Input b → is_unseen call ≡ true → MayCallInput call (input_at layout net b)
      → NetKeeps layout meaning (with_input layout b (after_input call) net)

  -- and a value that it posts
  abbrev pub PostsKeep : Type 0
  PostsKeep = OfEachNet λ layout meaning.
      (net : NetState) (l b : ℕ) (value : Value) → NetKeeps layout meaning net → l < length layout.links
      → (link_in layout.links l).source ≡ Input b → MayCallInput (InputCall.post value) (input_at layout net b)
      → NetKeeps layout meaning (after_post layout meaning l b value net)

  -- an event changes an input by one call of the network at most
  abbrev pub InputsChange : Type 0
  InputsChange = (layout : Layout W) (meaning : ℕ → Value → Result (List Value) ℕ) (net : NetState) (event : NetEvent)
      → InputsAreChanged net (after layout meaning event net)

  -- so what is posted stays, but for a value that was posted to its target and is turned down
  abbrev pub PostedListsStay : Type 0
  PostedListsStay = (layout : Layout W) (meaning : ℕ → Value → Result (List Value) ℕ) (events : List NetEvent) (old new : NetState)
      → Goes layout meaning events old new → InputsStay old new

  -- what was told as accepted was taken over the link, in order, as far as it went
  abbrev pub AcceptedWasTaken : Type 0
  AcceptedWasTaken = OfEachNet λ layout meaning.
      (net : NetState) (l b t p : ℕ) → NetKeeps layout meaning net → l < length layout.links
      → (link_in layout.links l).source ≡ Input b → (link_in layout.links l).target ≡ Port t p
      → is_front (take (input_at layout net b).told (input_at layout net b).posted)
      (took_over l (marks_of (run_of_net layout meaning net) t)) ≡ true

  -- what was received at an exit is what its block gave over its link, in order, and at most one message more was given
  abbrev pub ReceivedWasGiven : Type 0
  ReceivedWasGiven = OfEachNet λ layout meaning.
      (net : NetState) (l b : ℕ) → NetKeeps layout meaning net → l < length layout.links
      → (link_in layout.links l).source ≡ Block b → (link_in layout.links l).target ≡ Exit
      → IsReceivedOf (exit_at layout net l).received (gave_over l (marks_of (run_of_net layout meaning net) b))

  -- where the link of an exit has ended, no event changes the exit any more
  abbrev pub EndedExitsStay : Type 0
  EndedExitsStay = OfEachNet λ layout meaning.
      (net : NetState) (event : NetEvent) (l : ℕ) (how : LinkEnd) → NetKeeps layout meaning net → Enabled layout net event
      → l < length layout.links → (link_in layout.links l).target ≡ Exit → (exit_at layout net l).stage ≡ Ended how
      → exit_at layout (after layout meaning event net) l ≡ exit_at layout net l

  -- a network of which all is in order, whenever its ends looked, is kept in order by a look of all of them, which writes no mark
  abbrev pub AllLooksKeep : Type 0
  AllLooksKeep = OfEachNet λ layout meaning.
      (net : NetState) → NetInOrder layout meaning net → NetKeeps layout meaning (all_looked layout meaning (length layout.links) net)

  abbrev pub LooksWriteNoMark : Type 0
  LooksWriteNoMark = (layout : Layout W) (meaning : ℕ → Value → Result (List Value) ℕ) (n : ℕ) (net : NetState)
      → journals_of (all_looked layout meaning n net) ≡ journals_of net

  -- and leaves what is posted, but for what its target has turned down
  abbrev pub LooksLeavePosted : Type 0
  LooksLeavePosted = (layout : Layout W) (meaning : ℕ → Value → Result (List Value) ℕ) (n : ℕ) (net : NetState)
      → InputsStay net (all_looked layout meaning n net)

  -- and its run so far is lawful
  abbrev pub InOrderIsLawful : Type 0
  InOrderIsLawful = OfEachNet λ layout meaning.
      (net : NetState) → NetInOrder layout meaning net → Lawful (run_of_net layout meaning net)

  -- and then the run so far is lawful
  abbrev pub KeptIsLawful : Type 0
  KeptIsLawful = OfEachNet λ layout meaning.
      (net : NetState) → NetKeeps layout meaning net → Lawful (run_of_net layout meaning net)

  -- and what is kept is kept for one
  abbrev pub KeptIsHeld : Type 0
  KeptIsHeld = OfEachNet λ layout meaning.
      (net : NetState) → NetKeeps layout meaning net → HoldsForOne layout meaning net

  -- what an end would do next is a move that its link's phase allows
  abbrev pub NextIsAllowed : Type 0
  NextIsAllowed = OfEachNet λ layout meaning.
      (net : NetState) (l : ℕ) (next : Move) → NetKeeps layout meaning net → l < length layout.links
      → peek_by layout (is_of_source next) net l (link_in layout.links l) ≡ Some next
      → is_some (phase_after (line_at net l).phase next) ≡ true

  -- where nothing may happen any more, the run is quiet
  abbrev pub StillIsQuiet : Type 0
  StillIsQuiet = OfEachNet λ layout meaning.
      (net : NetState) → NetKeeps layout meaning net → IsStill layout meaning net → Quiet (run_of_net layout meaning net)

  -- and nothing is under way
  abbrev pub StillRests : Type 0
  StillRests = OfEachNet λ layout meaning.
      (net : NetState) → NetKeeps layout meaning net → IsStill layout meaning net → AtRest layout net

  -- whatever events are asked for, in whatever order, the run so far is lawful
  abbrev pub SchedulesGoWell : Type 0
  SchedulesGoWell = OfEachNet λ layout meaning.
      ((b : ℕ) (value : Value) → meaning b value ≢ Err 0)
      → (posted : List InputTrace) (events : List NetEvent) (now : NetState) → length posted ≡ count_by (λ block. block.input) layout.blocks
      → every ends_by_number posted ≡ true
      → Goes layout meaning events (fresh_net layout posted) now
      → GoesWell layout meaning (fresh_net layout posted) now
