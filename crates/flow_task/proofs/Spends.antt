-- What a block spends of its events: what was done one after another, in all; and that nothing is left to do where nothing was spent.
use Rattle.std.proofs.Common.{◌≡◌, ℕ, zero, suc, ◌+◌, ◌-◌, ◌<◌, Bool, true, false, List, length, Result, Ok, Err, OnOk, OnErr, refl, sym, ◌∙◌, subst, arith}
use Rattle.std.specs.declared.alloc.AllocError.{AllocError}
use Rattle.std.specs.declared.alloc.Global.{Global}
use Rattle.std.specs.declared.vec.Vec.{Vec}
use Rattle.std.proofs.Math.Logic.{∥∥₁_elim, ∥∥₁_map, ∥∥₁_prop}
use Rattle.std.proofs.lemmas.Grind.{merely}
use Rattle.flow_value.specs.declared.value.Value.{Value}
use Rattle.flow_block.specs.Node.{NodeState}
use Rattle.flow_core.specs.MovesFit.{out_count}
use Rattle.flow_poll.specs.Turns.{Extends}
use Rattle.flow_wire.specs.Ends.{SourceOf, TargetOf}
use Rattle.flow_poll.proofs.EachGoes.{extends_itself, extends_further}
use Rattle.flow_task.specs.Events.{AllLook, BlockEvent, BlockHappens, Does, HasEvent, Spends, TurnsBy}
use Rattle.flow_task.specs.Turns.{IsStill, OutIsStill, OwnIsDone, PortIsStill}
use Rattle.flow_task.proofs.TurnsGrow.{does_grows}
use Rattle.flow_task.proofs.TurnsHappen.{event_steps, looked_turns, one_look, stays, stays_so, step_turns}
use Rattle.flow_task.proofs.TurnsStill.{unmoved}

-- so many events, and then so many
pub turns_more : (ends : Bool) (makes : Value → Result (List Value) ℕ) (m n k : ℕ) (first mid last : NodeState) → k ≡ m + n → ∥ TurnsBy AllLook (HasEvent ends makes) m first mid ∥₁
    → TurnsBy AllLook (HasEvent ends makes) n mid last → ∥ TurnsBy AllLook (HasEvent ends makes) k first last ∥₁
turns_more ends makes m zero k first mid last is turned more =
    let all : m ≡ k = omega (arith, is) in
    subst (λ (count : ℕ). ∥ TurnsBy AllLook (HasEvent ends makes) count first last ∥₁) all
    (looked_turns AllLook (HasEvent ends makes) m first mid last turned (merely more))
turns_more ends makes m (suc n) k first mid last is turned more =
    let all : suc (m + n) ≡ k = omega (arith, is) in
    subst (λ (count : ℕ). ∥ TurnsBy AllLook (HasEvent ends makes) count first last ∥₁) all
    (∥∥₁_map (turns_more ends makes m n (m + n) first mid more.0 refl turned more.1.0) (λ before. (more.0, (before, more.1.1))))

module _ {ends : Bool} (makes : Value → Result (List Value) ℕ) where
  -- nothing
  pub spends_none : (n : ℕ) (old new : NodeState) → new ≡ old → Spends ends makes n n old new
  spends_none n old new same =
      let none : 0 ≡ n - n = omega arith in
      record {
        less = omega arith;
        happens = subst (λ (count : ℕ). ∥ TurnsBy AllLook (HasEvent ends makes) count old new ∥₁) none (merely (stays_so AllLook old new same));
        grows = subst (λ (node : NodeState). Extends old.journal node.journal) (sym same) (extends_itself old.journal);
        kept = λ as_many. same;
      }

  pub spends_not : (n : ℕ) (did : Bool) (old new : NodeState) → did ≡ false → Does ends makes (Ok did) old new → Spends ends makes n n old new
  spends_not n did old new not does = spends_none n old new (unmoved ends makes did old new not does)

  -- one event
  pub spends_one : (n : ℕ) (old new : NodeState) → 0 < n → ∥ HasEvent ends makes old new ∥₁ → Spends ends makes n (n - 1) old new
  spends_one n old new some event =
      let one : 1 ≡ n - (n - 1) = omega (arith, some) in
      record {
        less = omega arith;
        happens = subst (λ (count : ℕ). ∥ TurnsBy AllLook (HasEvent ends makes) count old new ∥₁) one
            (step_turns AllLook (HasEvent ends makes) 0 old old new (merely (stays AllLook old)) (event_steps AllLook (HasEvent ends makes) old new event));
        grows = does_grows ends makes (Ok true) old new event;
        kept = λ as_many. absurd (omega (arith, as_many, some));
      }

  pub spends_did : (n : ℕ) (did : Bool) (old new : NodeState) → 0 < n → did ≡ true → Does ends makes (Ok did) old new → Spends ends makes n (n - 1) old new
  spends_did n did old new some is does = spends_one n old new some (subst (λ (b : Bool). Does ends makes (Ok b) old new) is does)

  -- first this, then that
  pub spends_more : (most more less : ℕ) (first mid last : NodeState) → Spends ends makes most more first mid → Spends ends makes more less mid last
      → Spends ends makes most less first last
  spends_more most more less first mid last one other = record {
    less = omega (arith, one.less, other.less);
    happens = ∥∥₁_elim other.happens ∥∥₁_prop (λ later.
        turns_more ends makes (most - more) (more - less) (most - less) first mid last (omega (arith, one.less, other.less)) one.happens later);
    grows = extends_further first.journal mid.journal last.journal one.grows other.grows;
    kept = λ as_many. other.kept (omega (arith, one.less, other.less, as_many)) ∙ one.kept (omega (arith, one.less, other.less, as_many));
  }

  -- a turn: all ends look first
  pub turn_happens : (most less : ℕ) (first mid last : NodeState) → AllLook first mid → Spends ends makes most less mid last
      → ∥ TurnsBy AllLook (HasEvent ends makes) (most - less) first last ∥₁
  turn_happens most less first mid last looked spent =
      ∥∥₁_elim spent.happens ∥∥₁_prop (λ turned.
      turns_more ends makes 0 (most - less) (most - less) first mid last (omega arith) (merely (one_look AllLook first mid looked)) turned)

-- what ends no job is done, too, where jobs may end
happens_by : (ends : Bool) (makes : Value → Result (List Value) ℕ) (event : BlockEvent) (old new : NodeState)
    → BlockHappens false makes event old new → BlockHappens ends makes event old new
happens_by ends makes (BlockEvent.end_job ticket) old new is = absurd (let never = is.comes.0 in cc)
happens_by ends makes BlockEvent.make old new is = is
happens_by ends makes BlockEvent.begin old new is = is
happens_by ends makes (BlockEvent.complete p) old new is = is
happens_by ends makes (BlockEvent.fault number) old new is = is
happens_by ends makes BlockEvent.finish old new is = is
happens_by ends makes (BlockEvent.move_in p k next) old new is = is
happens_by ends makes (BlockEvent.move_out k next) old new is = is

event_by : (ends : Bool) (makes : Value → Result (List Value) ℕ) (old new : NodeState) → HasEvent false makes old new
    → HasEvent ends makes old new
event_by ends makes old new is = (is.0, happens_by ends makes is.0 old new is.1)

turned_by : (ends : Bool) (makes : Value → Result (List Value) ℕ) (n : ℕ) (old new : NodeState)
    → TurnsBy AllLook (HasEvent false makes) n old new → TurnsBy AllLook (HasEvent ends makes) n old new
turned_by ends makes zero old new turned = turned
turned_by ends makes (suc n) old new turned = (
  turned.0,
  (turned_by ends makes n old turned.0 turned.1.0, (turned.1.1.0, (event_by ends makes turned.0 turned.1.1.0 turned.1.1.1.0, turned.1.1.1.1))),
)

pub turns_by : (ends : Bool) (makes : Value → Result (List Value) ℕ) (n : ℕ) (old new : NodeState)
    → ∥ TurnsBy AllLook (HasEvent false makes) n old new ∥₁ → ∥ TurnsBy AllLook (HasEvent ends makes) n old new ∥₁
turns_by ends makes n old new turned = ∥∥₁_map turned (turned_by ends makes n old new)

pub does_by : (ends : Bool) (makes : Value → Result (List Value) ℕ) (result : Result Bool AllocError) (old new : NodeState)
    → Does false makes result old new → Does ends makes result old new
does_by ends makes (Ok true) old new does = ∥∥₁_map does (event_by ends makes old new)
does_by ends makes (Ok false) old new does = does
does_by ends makes (Err fault) old new does = does

pub spends_by : (ends : Bool) {makes : Value → Result (List Value) ℕ} (before after : ℕ) (old new : NodeState)
    → Spends false makes before after old new → Spends ends makes before after old new
spends_by ends {makes = makes} before after old new spent = record {
  less = spent.less;
  happens = turns_by ends makes (before - after) old new spent.happens;
  grows = spent.grows;
  kept = spent.kept;
}

-- the works are the same ones
pub spends_so : {ends : Bool} {makes makes' : Value → Result (List Value) ℕ} (before after : ℕ) (old new : NodeState) → makes' ≡ makes
    → Spends ends makes' before after old new → Spends ends makes before after old new
spends_so {ends = ends} before after old new same spent = subst (λ (m : Value → Result (List Value) ℕ). Spends ends m before after old new) same spent

pub does_so : (ends : Bool) {makes makes' : Value → Result (List Value) ℕ} (result : Result Bool AllocError) (old new : NodeState) → makes' ≡ makes
    → Does ends makes' result old new → Does ends makes result old new
does_so ends result old new same does = subst (λ (m : Value → Result (List Value) ℕ). Does ends m result old new) same does

-- where nothing was spent in all, nothing was in between
pub as_many_first : {ends ends' : Bool} {makes makes' : Value → Result (List Value) ℕ} {most more less : ℕ} {first mid last : NodeState}
    → Spends ends makes most more first mid → Spends ends' makes' more less mid last → less ≡ most → more ≡ most
as_many_first one other same = omega (arith, one.less, other.less, same)

pub as_many_then : {ends ends' : Bool} {makes makes' : Value → Result (List Value) ℕ} {most more less : ℕ} {first mid last : NodeState}
    → Spends ends makes most more first mid → Spends ends' makes' more less mid last → less ≡ most → less ≡ more
as_many_then one other same = omega (arith, one.less, other.less, same)

-- where a call comes out well, from what it says then
pub where_well : {A E P Q : Type 0} (result : Result A E) → (P → Q) → OnOk result P → OnOk result Q
where_well (Ok value) goes said = goes said
where_well (Err fault) goes said = tt

pub both_well : {A E P Q R : Type 0} (result : Result A E) → (P → Q → R) → OnOk result P → OnOk result Q → OnOk result R
both_well (Ok value) goes said also = goes said also
both_well (Err fault) goes said also = tt

pub where_failed : {A E P Q : Type 0} (result : Result A E) → (P → Q) → OnErr result P → OnErr result Q
where_failed (Ok value) goes said = tt
where_failed (Err fault) goes said = goes said

-- what holds where nothing was spent holds of the node as it was
pub outs_before : {ends ends' : Bool} {makes makes' : Value → Result (List Value) ℕ} (most more less : ℕ) (first second last : NodeState) (outs : List SourceOf)
    → Spends ends makes most more first second → Spends ends' makes' more less second last
    → (0 < more → less ≡ more → (k : ℕ) → k < out_count second → OutIsStill k second outs)
    → 0 < most → less ≡ most → (k : ℕ) → k < out_count first → OutIsStill k first outs
outs_before most more less first second last outs one other still some same =
    let mid = as_many_first one other same in
    subst (λ (node : NodeState). (k : ℕ) → k < out_count node → OutIsStill k node outs) (one.kept mid)
    (still (omega (arith, some, mid)) (as_many_then one other same))

-- all that a round tries; the ends into the block are as they were left
pub gone_round : {ends ends' : Bool} (most more less : ℕ) (makes makes' : Value → Result (List Value) ℕ) (in_place : Bool) (first second last : NodeState)
    (tried ins : List (Vec TargetOf Global)) (outs : List SourceOf)
    → makes' ≡ makes → ins ≡ tried
    → Spends ends makes most more first second → Spends ends' makes' more less second last
    → (more ≡ most → (p : ℕ) → p < length first.block.ports → PortIsStill p first tried)
    → (0 < more → less ≡ more → OwnIsDone makes' second in_place)
    → (0 < more → less ≡ more → (k : ℕ) → k < out_count second → OutIsStill k second outs)
    → 0 < most → less ≡ most → IsStill makes first in_place ins outs
gone_round most more less makes makes' in_place first second last tried ins outs alike left one other at_ins own at_outs some same =
    let mid = as_many_first one other same in
    let later = as_many_then one other same in
    let more_than_none : 0 < more = omega (arith, some, mid) in
    record {
      own = subst (λ (node : NodeState). OwnIsDone makes node in_place) (one.kept mid)
          (subst (λ (m : Value → Result (List Value) ℕ). OwnIsDone m second in_place) alike (own more_than_none later));
      at_ins = subst (λ (its : List (Vec TargetOf Global)). (p : ℕ) → p < length first.block.ports → PortIsStill p first its) (sym left)
          (at_ins mid);
      at_outs = subst (λ (node : NodeState). (k : ℕ) → k < out_count node → OutIsStill k node outs) (one.kept mid)
          (at_outs more_than_none later);
    }
