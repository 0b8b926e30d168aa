-- What the callers of exits have received and asked for stays, whatever happens in a network. So no receive waits there where none did.
use Rattle.std.proofs.Common.{◌≡◌, ℕ, zero, suc, Bool, true, false, not, ◌&&◌, List, [], ◌∷◌, map, set, get_or, is_none, Some, Result, Ok, Err, OnOk, OnErr, refl, ap, sym, subst, ◌∙◌}
use Rattle.std.proofs.Math.ListN.{get_or-map}
use Rattle.std.proofs.Math.Seq.{map-set_same}
use Rattle.std.proofs.lemmas.Bool.{and_from, and_parts, not-true}
use Rattle.std.proofs.lemmas.List.{map-set}
use Rattle.flow_value.specs.declared.value.Value.{Value}
use Rattle.flow_link.specs.Lists.{every}
use Rattle.flow_link.proofs.TestsTell.{every_set}
use Rattle.flow_link.specs.declared.phase.Move.{Move}
use Rattle.flow_link.specs.declared.phase.Move.TheVariants as move
use Rattle.flow_link.specs.declared.phase.Phase.{Phase}
use Rattle.flow_link.specs.declared.plan.LinkSource.{LinkSource}
use Rattle.flow_link.specs.declared.plan.LinkSource.TheVariants.{Block, Input}
use Rattle.flow_link.specs.declared.plan.LinkTarget.{LinkTarget}
use Rattle.flow_link.specs.declared.plan.LinkTarget.TheVariants.{Port, Exit}
use Rattle.flow_link.specs.declared.stage.TargetStage.{TargetStage}
use Rattle.flow_link.specs.declared.stage.TargetStage.TheVariants as target
use Rattle.flow_link.specs.Layout.{Layout}
use Rattle.flow_link.specs.Plan.{link_in}
use Rattle.flow_block.specs.Planned.{exit_place}
use Rattle.flow_exit.specs.Exit.{CallerState, ExitCall, ExitState, after_exit, caller_of, exit_move_at, fresh_exit, wants_one}
use Rattle.flow_core.specs.Events.{after_post, source_sees, target_peek, target_sees}
use Rattle.flow_core.specs.InOrder.{all_looked}
use Rattle.flow_core.specs.State.{NetState, callers_in, exit_at, line_at}
use Rattle.flow_core.proofs.SchedulesGoWell.{callers_stay}
use Rattle.flow_moves.specs.Ways.{with_exit_in}
use Rattle.flow_net.specs.Happened.{Happened}
use Rattle.flow_net.specs.Asked.{ExitsWantNothing, none_asked, none_wait}

pub unasked_then : (old new : NetState) → callers_in new ≡ callers_in old → none_asked old ≡ true → none_asked new ≡ true
unasked_then old new same unasked = ap none_wait same ∙ unasked

pub unasked_either : {A E : Type 0} {state : NetState} (old new : NetState) (result : Result A E) → (new ≡ state → callers_in new ≡ callers_in old)
    → OnOk result (new ≡ state) → OnErr result (new ≡ old) → none_asked old ≡ true → none_asked new ≡ true
unasked_either old new (Ok x) so done same unasked = unasked_then old new (so done) unasked
unasked_either old new (Err x) so done same unasked = unasked_then old new (ap callers_in same) unasked

-- at no exit, whether it is there or not
not_asked_in : (exits : List ExitState) (place : ℕ) → none_wait (map caller_of exits) ≡ true → (get_or exits place fresh_exit).asked ≡ false
not_asked_in [] place unasked = refl
not_asked_in (exit ∷ exits) zero unasked = not-true exit.asked (and_parts (not exit.asked) (none_wait (map caller_of exits)) unasked).0
not_asked_in (exit ∷ exits) (suc place) unasked =
    not_asked_in exits place (and_parts (not exit.asked) (none_wait (map caller_of exits)) unasked).1

pub not_asked_at : (net : NetState) → none_asked net ≡ true → (place : ℕ) → (get_or net.exits place fresh_exit).asked ≡ false
not_asked_at net unasked place = not_asked_in net.exits place unasked

-- so an exit wants nothing, and takes nothing that it put off
abbrev is_for_receive : Move → Bool
is_for_receive move.Want = true
is_for_receive move.Consume = true
is_for_receive _ = false

idle_move : (stage : TargetStage) (next : Move) → exit_move_at false stage ≡ Some next → is_for_receive next ≡ false
idle_move (target.Offered i) next e = let same : move.Postpone ≡ next = cc in subst (λ (its : Move). is_for_receive its ≡ false) same refl
idle_move (target.Posted i) next e = let same : move.TurnDown ≡ next = cc in subst (λ (its : Move). is_for_receive its ≡ false) same refl
idle_move (target.Arrived i) next e = let same : move.Open ≡ next = cc in subst (λ (its : Move). is_for_receive its ≡ false) same refl
idle_move (target.Hand i) next e = let same : move.Close ≡ next = cc in subst (λ (its : Move). is_for_receive its ≡ false) same refl
idle_move _ next e = absurd (cc)

module _ {W : Type 0} (layout : Layout W) (net : NetState) (unasked : none_asked net ≡ true) where
  idle_there : (l : ℕ) (next : Move) → (link_in layout.links l).target ≡ Exit
      → target_peek layout net l (link_in layout.links l).target ≡ Some next → is_for_receive next ≡ false
  idle_there l next to peek =
      let exit = exit_at layout net l in
      let idle : wants_one exit ≡ false = ap (λ (asked : Bool). asked && is_none exit.kept) (not_asked_at net unasked (exit_place layout l)) in
      idle_move exit.stage next
      (ap (λ (wants : Bool). exit_move_at wants exit.stage) (sym idle) ∙ ap (target_peek layout net l) (sym to) ∙ peek)

  pub wants_nothing : ExitsWantNothing layout net
  wants_nothing = record {
    none_wanted = λ l to may. let idle = idle_there l move.Want to may.peek in absurd (cc);
    none_consumed = λ l to may. let idle = idle_there l move.Consume to may.peek in absurd (cc);
  }

-- exits of which nobody has received anything
pub unasked_fresh : (links : List ℕ) → none_wait (map caller_of (map (λ _. fresh_exit) links)) ≡ true
unasked_fresh [] = refl
unasked_fresh (l ∷ links) = unasked_fresh links

module _ {W : Type 0} (layout : Layout W) (meaning : ℕ → Value → Result (List Value) ℕ) where
  pub callers_on : (count : ℕ) (old new : NetState) → Happened layout meaning count old new → callers_in new ≡ callers_in old
  callers_on zero old new same = ap callers_in same
  callers_on (suc count) old new (mid, (before, last)) =
      ap callers_in last.new_is ∙ callers_stay layout meaning last.event mid ∙ callers_on count old mid before

  pub unasked_on : (count : ℕ) (old new : NetState) → Happened layout meaning count old new → none_asked old ≡ true → none_asked new ≡ true
  unasked_on count old new happened unasked = unasked_then old new (callers_on count old new happened) unasked

  -- the ends of links look
  source_stays : (l : ℕ) (phase : Phase) (source : LinkSource) (net : NetState)
      → callers_in (source_sees layout meaning l phase source net) ≡ callers_in net
  source_stays l phase (Block s) net = refl
  source_stays l phase (Input b) net = refl

  target_stays : (l : ℕ) (phase : Phase) (target : LinkTarget) (net : NetState)
      → callers_in (target_sees layout meaning l phase target net) ≡ callers_in net
  target_stays l phase (Port t p) net = refl
  target_stays l phase Exit net = map-set_same caller_of net.exits (exit_place layout l) _ fresh_exit refl

  pub callers_looked : (n : ℕ) (net : NetState) → callers_in (all_looked layout meaning n net) ≡ callers_in net
  callers_looked zero net = refl
  callers_looked (suc n) net =
      let before = all_looked layout meaning n net in
      let phase = (line_at before n).phase in
      let link = link_in layout.links n in
      source_stays n phase link.source (target_sees layout meaning n phase link.target before)
      ∙ target_stays n phase link.target before ∙ callers_looked n net

  -- a value is posted
  pub unasked_posted : {A E : Type 0} (l b : ℕ) (value : Value) (old new : NetState) (result : Result A E)
      → OnOk result (new ≡ after_post layout meaning l b value old) → OnErr result (new ≡ old) → none_asked old ≡ true → none_asked new ≡ true
  unasked_posted l b value old new (Ok x) done same unasked =
      unasked_then old new (ap callers_in done ∙ target_stays l _ (link_in layout.links l).target _) unasked
  unasked_posted l b value old new (Err x) done same unasked = unasked_then old new (ap callers_in same) unasked

-- A receive waits at one exit for a while

passes_set : {A : Type 0} (test : A → Bool) (xs : List A) (k : ℕ) (x : A) → every test xs ≡ true → test x ≡ true → every test (set xs k x) ≡ true
passes_set test [] k x all one = refl
passes_set test (y ∷ ys) zero x all one = and_from (test x) (every test ys) one (and_parts (test y) (every test ys) all).1
passes_set test (y ∷ ys) (suc k) x all one =
    let both = and_parts (test y) (every test ys) all in
    and_from (test y) (every test (set ys k x)) both.0 (passes_set test ys k x both.1 one)

set_twice : {A : Type 0} (xs : List A) (k : ℕ) (x y : A) → set (set xs k x) k y ≡ set xs k y
set_twice [] k x y = refl
set_twice (z ∷ zs) zero x y = refl
set_twice (z ∷ zs) (suc k) x y = ap (λ l. z ∷ l) (set_twice zs k x y)

-- none waits but at this place
abbrev quiet_caller : CallerState
quiet_caller = record { received = []; asked = false }

abbrev NoneWaitsBut : ℕ → List CallerState → Type 0
NoneWaitsBut place callers = none_wait (set callers place quiet_caller) ≡ true

callers_set : (place : ℕ) (change : ExitState → ExitState) (net new : NetState) → new ≡ with_exit_in place change net
    → callers_in new ≡ set (callers_in net) place (caller_of (change (get_or net.exits place fresh_exit)))
callers_set place change net new is =
    ap callers_in is ∙ map-set caller_of net.exits place (change (get_or net.exits place fresh_exit))

module _ (place : ℕ) (net : NetState) where
  unasked_but : (change : ExitState → ExitState) (new : NetState) → new ≡ with_exit_in place change net → none_asked net ≡ true
      → NoneWaitsBut place (callers_in new)
  unasked_but change new is unasked =
      ap (λ (callers : List CallerState). none_wait (set callers place quiet_caller)) (callers_set place change net new is)
      ∙ ap none_wait (set_twice (callers_in net) place (caller_of (change (get_or net.exits place fresh_exit))) quiet_caller)
      ∙ passes_set (λ caller. not caller.asked) (callers_in net) place quiet_caller unasked refl

  -- it waits no more
  unasked_again : (new : NetState) → new ≡ with_exit_in place (after_exit (ExitCall.ask false)) net → NoneWaitsBut place (callers_in net)
      → none_asked new ≡ true
  unasked_again new is unasked =
      let caller = caller_of (after_exit (ExitCall.ask false) (get_or net.exits place fresh_exit)) in
      ap none_wait (callers_set place (after_exit (ExitCall.ask false)) net new is
      ∙ sym (set_twice (callers_in net) place quiet_caller caller))
      ∙ passes_set (λ caller. not caller.asked) (set (callers_in net) place quiet_caller) place caller unasked refl

  -- what is kept there is received
  pub unasked_received : {A E : Type 0} (new : NetState) (result : Result A E)
      → OnOk result (new ≡ with_exit_in place (after_exit ExitCall.receive) net) → OnErr result (new ≡ net) → none_asked net ≡ true
      → none_asked new ≡ true
  unasked_received new (Ok x) done same unasked =
      let exit = get_or net.exits place fresh_exit in
      let caller = caller_of (after_exit ExitCall.receive exit) in
      ap none_wait (callers_set place (after_exit ExitCall.receive) net new done)
      ∙ every_set (λ caller. not caller.asked) (callers_in net) place caller (caller_of fresh_exit)
      (ap (λ (its : CallerState). not its.asked) (sym (get_or-map caller_of net.exits place fresh_exit)))
      ∙ unasked
  unasked_received new (Err x) done same unasked = unasked_then net new (ap callers_in same) unasked

-- it is asked there for a while, and events happen
pub unasked_looked : {W : Type 0} (layout : Layout W) (meaning : ℕ → Value → Result (List Value) ℕ) (place count : ℕ) (waits : Bool)
    (old asked settled new : NetState) → asked ≡ with_exit_in place (after_exit (ExitCall.ask waits)) old
    → Happened layout meaning count asked settled → new ≡ with_exit_in place (after_exit (ExitCall.ask false)) settled
    → none_asked old ≡ true → none_asked new ≡ true
unasked_looked layout meaning place count waits old asked settled new asks happened ends unasked =
    unasked_again place settled new ends
    (subst (NoneWaitsBut place) (sym (callers_on layout meaning count asked settled happened))
    (unasked_but place old (after_exit (ExitCall.ask waits)) asked asks unasked))
