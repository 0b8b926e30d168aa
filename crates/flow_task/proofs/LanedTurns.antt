-- What comes of a turn of a block, and of what its lanes do behind it.
use Rattle.std.proofs.Common.{◌≡◌, ℕ, ◌+◌, ◌-◌, ◌<◌, ◌≤◌, ltb, cond, Bool, true, false, not, ◌&&◌, ◌||◌, List, length, Option, Some, None, is_none, Result, Ok, Err, IfOk, refl, sym, ap, ◌∙◌, subst, arith}
use Rattle.std.proofs.Math.Logic.{∥∥₁_elim, ∥∥₁_prop}
use Rattle.std.proofs.lemmas.Bool.{and_parts}
use Rattle.flow_value.specs.declared.value.Value.{Value}
use Rattle.flow_link.specs.declared.trace.Outcome.{Outcome}
use Rattle.flow_link.specs.Plan.{has_work}
use Rattle.flow_block.specs.Block.{BlockState, held_by}
use Rattle.flow_block.specs.Jobs.{is_out, out_count}
use Rattle.flow_block.specs.Node.{NodeState}
use Rattle.flow_block.specs.Peeks.{has_next, may_begin}
use Rattle.std.specs.List.{list_all}
use Rattle.std.specs.Option.{ForSome}
use Rattle.std.specs.declared.alloc.AllocError.{AllocError}
use Rattle.flow_lane.specs.BlockLanes.{LanesState, has_room}
use Rattle.flow_poll.specs.declared.actor.TurnState.{TurnState}
use Rattle.flow_poll.specs.declared.actor.TurnState.TheVariants as turn
use Rattle.flow_task.specs.Cells.{is_told}
use Rattle.flow_task.specs.Events.{AllLook, HasEvent, HasLooked, Spends, TurnsBy}
use Rattle.flow_task.specs.Laned.{BeginIsDone, LanesRest, is_ended}
use Rattle.flow_task.specs.Turns.{JobsAreDone, are_links_over, state_of}
use Rattle.flow_task.proofs.Spends.{turns_by, turns_more}

-- What happens

-- nothing was done but looks
pub idle_turn : (ends : Bool) (makes makes' : Value → Result (List Value) ℕ) (budget events left : ℕ) (first mid last : NodeState) → events ≤ budget
    → left ≡ budget → ∥ TurnsBy AllLook (HasEvent ends makes) events first mid ∥₁ → Spends true makes' (budget - events) left mid last
    → ∥ HasLooked AllLook first last ∥₁
idle_turn ends makes makes' budget events left first mid last within is turned spent =
    let less = spent.less in
    let none : events ≡ 0 = omega (arith, within, is, less) in
    subst (λ (node : NodeState). ∥ HasLooked AllLook first node ∥₁) (sym (spent.kept (omega (arith, none, is))))
    (subst (λ (n : ℕ). ∥ TurnsBy AllLook (HasEvent ends makes) n first mid ∥₁) none turned)

-- the block's events, and then those that its lanes let it do
pub turned_then : (makes : Value → Result (List Value) ℕ) (budget events left total : ℕ) (first mid last : NodeState) → events ≤ budget
    → total ≡ budget - left → ∥ TurnsBy AllLook (HasEvent false makes) events first mid ∥₁ → Spends true makes (budget - events) left mid last
    → ∥ TurnsBy AllLook (HasEvent true makes) total first last ∥₁
turned_then makes budget events left total first mid last within is turned spent =
    let less = spent.less in
    let all : total ≡ events + (budget - events - left) = omega (arith, within, is, less) in
    ∥∥₁_elim spent.happens ∥∥₁_prop (λ later.
    turns_more true makes events (budget - events - left) total first mid last all (turns_by true makes events first mid turned) later)

-- What is left to do

told_stopped : (known stopped : Option Outcome) → is_told known stopped ≡ true → is_none stopped ≡ false
told_stopped None None told = absurd (cc)
told_stopped None (Some how) told = refl
told_stopped (Some end) None told = absurd (cc)
told_stopped (Some end) (Some how) told = refl

ended_stopped : (done test told : Bool) (before : TurnState) → is_ended before ≡ true
    → before ≡ cond done turn.Moved (cond (told && test) turn.Ended turn.Idle) → told ≡ true
ended_stopped done test true before ended is = refl
ended_stopped true test false before ended is = absurd (let wrong = ap is_ended (sym is) ∙ ended in cc)
ended_stopped false test false before ended is = absurd (let wrong = ap is_ended (sym is) ∙ ended in cc)

begins_not : (block : BlockState) → is_none block.stopped ≡ false → may_begin block ≡ false
begins_not block stopped =
    ap (λ (runs : Bool). (runs && is_none block.fault && has_next block) && has_work block.kind
    && ltb (out_count block.jobs.slots) block.jobs.lanes && ltb (length block.jobs.slots) (length (held_by block))) stopped

module _ {W : Type 0} (makes : Value → Result (List Value) ℕ) (node : NodeState) where
  -- a block that has stopped has no job out, and begins none
  stopped_rests : is_none node.block.stopped ≡ false → (lanes : LanesState W) → LanesRest makes node lanes
  stopped_rests stopped lanes = record {
    jobs = λ free ticket out. absurd (let both = and_parts (is_none node.block.stopped) (is_out ticket node.block.jobs) out in cc);
    begin = λ room. begins_not node.block stopped;
  }

  rest_by : (ended done : Bool) (before : TurnState) (known : Option Outcome) (lanes new : LanesState W) → is_ended before ≡ ended
      → before ≡ state_of done known node → (is_ended before ≡ false → new ≡ lanes) → LanesRest makes node lanes → LanesRest makes node new
  rest_by false done before known lanes new is state same rest = subst (LanesRest makes node) (sym (same is)) rest
  rest_by true done before known lanes new is state same rest =
      stopped_rests (told_stopped known node.block.stopped
      (ended_stopped done (are_links_over node) (is_told known node.block.stopped) before is state)) new

  pub rest_stays : (done : Bool) (before : TurnState) (known : Option Outcome) (lanes new : LanesState W) → before ≡ state_of done known node
      → (is_ended before ≡ false → new ≡ lanes) → LanesRest makes node lanes → LanesRest makes node new
  rest_stays done before known lanes new state same rest = rest_by (is_ended before) done before known lanes new refl state same rest

-- the works are the same ones, and the node is as it was
pub rests_so : {W : Type 0} (makes makes' : Value → Result (List Value) ℕ) (first old : NodeState) (lanes : LanesState W) → makes' ≡ makes
    → old ≡ first → LanesRest makes' old lanes → LanesRest makes first lanes
rests_so makes makes' first old lanes alike same rest =
    subst (λ (node : NodeState). LanesRest makes node lanes) same
    (subst (λ (m : Value → Result (List Value) ℕ). LanesRest m old lanes) alike rest)

-- of what was looked for in the lanes, one after another
pub lanes_done : {W : Type 0} (result : Result Bool AllocError) (makes makes' : Value → Result (List Value) ℕ) (first second third : NodeState)
    (lanes new : LanesState W) → makes' ≡ makes → second ≡ first → third ≡ second
    → (list_all has_room lanes.sides ≡ true → JobsAreDone makes' second)
    → IfOk result (λ did. did ≡ false → BeginIsDone third lanes) → IfOk result (λ did. did ≡ false → new ≡ lanes)
    → IfOk result (λ did. did ≡ false → LanesRest makes first new)
lanes_done (Ok did) makes makes' first second third lanes new alike one two jobs begin same =
    λ not.
    subst (LanesRest makes first) (sym (same not))
    (record {
      jobs = λ free. subst (λ (node : NodeState). JobsAreDone makes node) one
          (subst (λ (m : Value → Result (List Value) ℕ). JobsAreDone m second) alike (jobs free));
      begin = subst (λ (node : NodeState). BeginIsDone node lanes) (two ∙ one) (begin not);
    })
lanes_done (Err fault) makes makes' first second third lanes new alike one two jobs begin same = tt

-- where nothing was done in all, the lanes leave nothing to do
pub rest_then : {W : Type 0} (makes makes' makes'' : Value → Result (List Value) ℕ) (budget events left total : ℕ) (mid last : NodeState)
    (done : Bool) (before : TurnState) (known : Option Outcome) (lanes new : LanesState W) → makes' ≡ makes → events ≤ budget
    → total ≡ budget - left → Spends true makes'' (budget - events) left mid last → before ≡ state_of done known mid
    → (0 < budget - events → left ≡ budget - events → LanesRest makes' mid lanes) → (is_ended before ≡ false → new ≡ lanes)
    → 0 < budget → total ≡ 0 → LanesRest makes last new
rest_then makes makes' makes'' budget events left total mid last done before known lanes new alike within is spent state rest same some none =
    let less = spent.less in
    let no_event : events ≡ 0 = omega (arith, within, is, less, none) in
    let all_left : left ≡ budget - events = omega (arith, within, is, less, none) in
    let at_rest = rest_stays makes' mid done before known lanes new state same (rest (omega (arith, some, no_event)) all_left) in
    rests_so makes makes' last mid new alike (sym (spent.kept all_left)) at_rest

-- both are told of a turn that did nothing
pub told_both : {A E : Type 0} (budget : ℕ) (count : A → ℕ) (P Q : Type 0) (result : Result A E)
    → IfOk result (λ turned. 0 < budget → count turned ≡ 0 → P) → IfOk result (λ turned. 0 < budget → count turned ≡ 0 → Q)
    → IfOk result (λ turned. 0 < budget → count turned ≡ 0 → P × Q)
told_both budget count P Q (Ok turned) one other = λ some none. (one some none, other some none)
told_both budget count P Q (Err fault) one other = tt

-- of the lanes that there are
pub rest_of_some : {W : Type 0} {A E : Type 0} (budget : ℕ) (count : A → ℕ) (makes : Value → Result (List Value) ℕ) (node : NodeState)
    (lanes : LanesState W) (result : Result A E) → IfOk result (λ turned. 0 < budget → count turned ≡ 0 → LanesRest makes node lanes)
    → IfOk result (λ turned. 0 < budget → count turned ≡ 0 → ForSome (Some lanes) (λ its. LanesRest makes node its))
rest_of_some budget count makes node lanes (Ok turned) rest =
    λ some none its is. let same : lanes ≡ its = cc in subst (LanesRest makes node) same (rest some none)
rest_of_some budget count makes node lanes (Err fault) rest = tt

-- The state
