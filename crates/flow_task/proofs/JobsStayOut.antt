-- A job that is out stays out, whatever its block and the ends of its links do, until its own result comes back.
use Rattle.std.proofs.Common.{◌≡◌, ℕ, zero, suc, ◌+◌, ◌-◌, ◌≤◌, leb, cond, not, Bool, true, false, List, [], ◌∷◌, ◌++◌, length, drop, get_or, set, Option, Some, None, is_none, Result, Ok, Err, refl, sym, ap, ◌∙◌, subst, arith}
use Rattle.std.proofs.Math.Bool.{Bool-set}
use Rattle.std.proofs.Math.Logic.{∥∥₁_elim}
use Rattle.std.proofs.lemmas.Bool.{and_from, and_parts, le-leb, leb-true, not-true}
use Rattle.std.proofs.lemmas.List.{get_or-set_other, get_or_push}
use Rattle.flow_value.specs.declared.value.Value.{Value}
use Rattle.flow_link.specs.declared.draft.BlockKind.{BlockKind}
use Rattle.flow_link.specs.declared.draft.BlockKind.TheVariants.{Action, Buffer}
use Rattle.flow_link.specs.declared.phase.Move.{Move}
use Rattle.flow_link.specs.declared.phase.Move.TheVariants as move
use Rattle.flow_link.specs.Plan.{has_work, is_one_taker}
use Rattle.flow_intake.specs.Calls.{first_of}
use Rattle.flow_outlet.specs.Outlet.{head_of}
use Rattle.flow_block.specs.Block.{BlockState, copies_at_once, copies_next, copies_where, held_by, keeps_results, with_jobs, yields_all, yields_where}
use Rattle.flow_block.specs.Jobs.{JobsState, Slot, begins, brings, is_out, no_slot, place_of, works_off}
use Rattle.flow_block.specs.Node.{NodeState, NodeCall, after, gives_from, hand_at, holds_in}
use Rattle.flow_block.specs.Peeks.{may_work}
use Rattle.flow_block_law.specs.JobsEnd.{after_job, job_result}
use Rattle.flow_core.specs.Events.{copy_call, in_call, out_call, source_call, source_look}
use Rattle.flow_core.specs.MovesFit.{in_count, out_count}
use Rattle.flow_moves.specs.Calls.{Calls, called}
use Rattle.flow_task.specs.Events.{AllLook, BlockEvent, BlockHappens, HasEvent, HasLooked, LooksBy, TurnsBy}
use Rattle.flow_task.specs.Turns.{LooksIn, LooksOut, PortsLook}

none : Value → Result (List Value) ℕ
none value = Ok []

-- Calls that leave all jobs as they are

pub record SameJobs (old new : BlockState) : Type 0 where
  pub kind : new.kind ≡ old.kind
  pub jobs : new.jobs ≡ old.jobs

same : (block : BlockState) → SameJobs block block
same block = record { kind = refl; jobs = refl }

further : (first mid last : BlockState) → SameJobs first mid → SameJobs mid last → SameJobs first last
further first mid last one other = record { kind = other.kind ∙ one.kind; jobs = other.jobs ∙ one.jobs }

next_same : (value : Option Value) (block : BlockState) → SameJobs block (copies_next value block)
next_same None block = same block
next_same (Some value) block = record { kind = refl; jobs = refl }

copied_same : (at_once : Bool) (block : BlockState) → SameJobs block (copies_where at_once block)
copied_same true block = next_same (first_of (held_by block)) block
copied_same false block = same block

holds_same : (p k : ℕ) (hand : Option Value) (node : NodeState) → SameJobs node.block (holds_in p k hand node).block
holds_same p k None node = same node.block
holds_same p k (Some value) node = record { kind = refl; jobs = refl }

gives_same : (k : ℕ) (value : Option Value) (node : NodeState) → SameJobs node.block (gives_from k value node).block
gives_same k None node = same node.block
gives_same k (Some value) node = record { kind = refl; jobs = refl }

abbrev is_quiet : NodeCall → Bool
is_quiet NodeCall.begin = false
is_quiet NodeCall.make = false
is_quiet _ = true

abbrev is_quiet_if : Option NodeCall → Bool
is_quiet_if None = true
is_quiet_if (Some call) = is_quiet call

call_same : (call : NodeCall) (node : NodeState) → is_quiet call ≡ true → SameJobs node.block (after none call node).block
call_same NodeCall.begin node quiet = absurd (cc)
call_same NodeCall.make node quiet = absurd (cc)
call_same (NodeCall.close p k) node quiet =
    let held = holds_in p k (hand_at p k node) node in
    further node.block held.block (copies_where (copies_at_once held.block) held.block) (holds_same p k (hand_at p k node) node)
    (copied_same (copies_at_once held.block) held.block)
call_same (NodeCall.give k) node quiet = gives_same k (head_of node.block.exits) node
call_same _ node quiet = record { kind = refl; jobs = refl }

called_same : (call : Option NodeCall) (node : NodeState) → is_quiet_if call ≡ true → SameJobs node.block (called none call node).block
called_same None node quiet = same node.block
called_same (Some call) node quiet = call_same call node quiet

pub calls_same : (call : Option NodeCall) (old new : NodeState) → Calls call old new → is_quiet_if call ≡ true → SameJobs old.block new.block
calls_same call old new calls quiet =
    subst (λ (node : NodeState). SameJobs old.block node.block) (sym (calls none)) (called_same call old quiet)

in_quiet : (p k : ℕ) (slot : Option Value) (next : Move) → is_quiet_if (in_call p k slot next) ≡ true
in_quiet p k None move.Open = refl
in_quiet p k (Some value) move.Open = refl
in_quiet p k slot _ = refl

out_quiet : (k : ℕ) (next : Move) → is_quiet_if (out_call k next) ≡ true
out_quiet k (move.Offer i) = refl
out_quiet k _ = refl

copy_quiet : (k : ℕ) (next : Move) → is_quiet_if (copy_call k next) ≡ true
copy_quiet k (move.Offer i) = refl
copy_quiet k _ = refl

source_quiet : (sharing : Bool) (k : ℕ) (next : Move) → is_quiet_if (cond sharing (out_call k next) (copy_call k next)) ≡ true
source_quiet true k next = out_quiet k next
source_quiet false k next = copy_quiet k next

looks_quiet : (sharing : Bool) (look of_copy : NodeCall) → is_quiet look ≡ true → is_quiet of_copy ≡ true
    → is_quiet_if (Some (cond sharing look of_copy)) ≡ true
looks_quiet true look of_copy one other = one
looks_quiet false look of_copy one other = other

-- the ends look
outs_same : (k : ℕ) (old new : NodeState) → LooksOut k old new → SameJobs old.block new.block
outs_same zero old new looked = subst (λ (node : NodeState). SameJobs old.block node.block) (sym looked) (same old.block)
outs_same (suc k) old new looked =
    let mid = looked.0 in
    further old.block mid.block new.block (outs_same k old mid looked.1.0)
    (calls_same (Some (source_look mid.block.kind k looked.1.1.0)) mid new looked.1.1.1
    (looks_quiet (is_one_taker mid.block.kind) _ _ refl refl))

ins_same : (p k : ℕ) (old new : NodeState) → LooksIn p k old new → SameJobs old.block new.block
ins_same p zero old new looked = subst (λ (node : NodeState). SameJobs old.block node.block) (sym looked) (same old.block)
ins_same p (suc k) old new looked =
    further old.block looked.0.block new.block (ins_same p k old looked.0 looked.1.0)
    (calls_same (Some (NodeCall.look_in p k looked.1.1.0)) looked.0 new looked.1.1.1 refl)

ports_same : (p : ℕ) (old new : NodeState) → PortsLook p old new → SameJobs old.block new.block
ports_same zero old new looked = subst (λ (node : NodeState). SameJobs old.block node.block) (sym looked) (same old.block)
ports_same (suc p) old new looked =
    further old.block looked.0.block new.block (ports_same p old looked.0 looked.1.0)
    (ins_same p (in_count p looked.0) looked.0 new looked.1.1)

all_same : (old new : NodeState) → AllLook old new → SameJobs old.block new.block
all_same old new looked =
    let mid = looked.mid in
    further old.block mid.block new.block (ports_same (length old.block.ports) old mid looked.ins) (outs_same (out_count mid) mid new looked.outs)

-- One more job begins

begun_place : (slots : List Slot) (k : ℕ) → is_none (get_or slots k no_slot) ≡ true → is_none (get_or (slots ++ None ∷ []) k no_slot) ≡ true
begun_place [] k out = absurd (cc)
begun_place (slot ∷ slots) zero out = out
begun_place (slot ∷ slots) (suc k) out = begun_place slots k out

-- those that are out are out still
pub begun_out : (jobs : JobsState) (ticket : ℕ) → is_out ticket jobs ≡ true → is_out ticket (begins jobs) ≡ true
begun_out jobs ticket out =
    let both = and_parts (leb jobs.first ticket) (is_none (get_or jobs.slots (place_of ticket jobs) no_slot)) out in
    and_from (leb jobs.first ticket) (is_none (get_or (jobs.slots ++ None ∷ []) (place_of ticket jobs) no_slot)) both.0
    (begun_place jobs.slots (place_of ticket jobs) both.1)

-- and so is the new one
pub next_out : (jobs : JobsState) → is_out (jobs.first + length jobs.slots) (begins jobs) ≡ true
next_out jobs =
    let place : length jobs.slots ≡ jobs.first + length jobs.slots - jobs.first = omega arith in
    and_from (leb jobs.first (jobs.first + length jobs.slots))
    (is_none (get_or (jobs.slots ++ None ∷ []) (jobs.first + length jobs.slots - jobs.first) no_slot))
    (le-leb jobs.first (jobs.first + length jobs.slots) (omega arith))
    (ap is_none (get_or_push jobs.slots None no_slot (jobs.first + length jobs.slots - jobs.first) place))

-- A result comes back

-- what comes out before it leaves it out
off_out : (made : Result (List Value) ℕ) (slots : List Slot) (jobs : JobsState) (ticket : ℕ) → jobs.slots ≡ Some made ∷ slots
    → is_out ticket jobs ≡ true → is_out ticket (works_off jobs) ≡ true
off_out made slots jobs ticket is out =
    let both = and_parts (leb jobs.first ticket) (is_none (get_or jobs.slots (place_of ticket jobs) no_slot)) out in
    let within = leb-true jobs.first ticket both.0 in
    later (ticket - jobs.first) refl within (subst (λ (its : List Slot). is_none (get_or its (ticket - jobs.first) no_slot) ≡ true) is both.1)
  where
    later : (k : ℕ) → ticket - jobs.first ≡ k → jobs.first ≤ ticket → is_none (get_or (Some made ∷ slots) k no_slot) ≡ true
        → is_out ticket (works_off jobs) ≡ true
    later zero at within out = absurd (cc)
    later (suc k) at within out =
        let place : k ≡ ticket - (jobs.first + 1) = omega (arith, at, within) in
        and_from (leb (jobs.first + 1) ticket) (is_none (get_or (drop 1 jobs.slots) (ticket - (jobs.first + 1)) no_slot))
        (le-leb (jobs.first + 1) ticket (omega (arith, at, within)))
        (subst (λ (n : ℕ). is_none (get_or (drop 1 jobs.slots) n no_slot) ≡ true) place
        (subst (λ (its : List Slot). is_none (get_or its k no_slot) ≡ true) (sym (ap (drop 1) is)) out))

record Works (block : BlockState) (ticket : ℕ) : Type 0 where
  pub works : has_work block.kind ≡ true
  pub out : is_out ticket block.jobs ≡ true

keeps_jobs : (kind : BlockKind) (values : List Value) (block : BlockState) → has_work kind ≡ true
    → (keeps_results kind values block).jobs ≡ works_off block.jobs
keeps_jobs Action values block works = refl
keeps_jobs Buffer values block works = absurd (cc)
keeps_jobs _ [] block works = refl
keeps_jobs _ (value ∷ values) block works = refl

keeps_kind : (kind : BlockKind) (values : List Value) (block : BlockState) → (keeps_results kind values block).kind ≡ block.kind
keeps_kind Action values block = refl
keeps_kind _ [] block = refl
keeps_kind _ (value ∷ values) block = refl

yields_out : (slots : List Slot) (block : BlockState) (ticket : ℕ) → block.jobs.slots ≡ slots → Works block ticket
    → Works (yields_all slots block) ticket
yields_out [] block ticket is works = works
yields_out (None ∷ slots) block ticket is works = works
yields_out (Some (Err number) ∷ slots) block ticket is works = record { works = works.works; out = works.out }
yields_out (Some (Ok values) ∷ slots) block ticket is works =
    let kept = keeps_results block.kind values block in
    let jobs = keeps_jobs block.kind values block works.works in
    yields_out slots kept ticket (ap (λ (jobs : JobsState). jobs.slots) jobs ∙ ap (drop 1) is)
    (record {
      works = ap has_work (keeps_kind block.kind values block) ∙ works.works;
      out = subst (λ (jobs : JobsState). is_out ticket jobs ≡ true) (sym jobs) (off_out (Ok values) slots block.jobs ticket is works.out);
    })

where_out : (goes : Bool) (block : BlockState) (ticket : ℕ) → Works block ticket → Works (yields_where goes block) ticket
where_out true block ticket works = yields_out block.jobs.slots block ticket refl works
where_out false block ticket works = works

brought_out : (ended ticket : ℕ) (made : Result (List Value) ℕ) (jobs : JobsState) → is_out ended jobs ≡ true → (ticket ≡ ended → ⊥)
    → is_out ticket jobs ≡ true → is_out ticket (brings ended made jobs) ≡ true
brought_out ended ticket made jobs its apart out =
    let both = and_parts (leb jobs.first ticket) (is_none (get_or jobs.slots (place_of ticket jobs) no_slot)) out in
    let other = and_parts (leb jobs.first ended) (is_none (get_or jobs.slots (place_of ended jobs) no_slot)) its in
    let low = leb-true jobs.first ticket both.0 in
    let low_too = leb-true jobs.first ended other.0 in
    and_from (leb jobs.first ticket) (is_none (get_or (set jobs.slots (place_of ended jobs) (Some made)) (place_of ticket jobs) no_slot)) both.0
    (ap is_none (get_or-set_other jobs.slots (place_of ended jobs) (place_of ticket jobs) (Some made) no_slot
    (λ one. apart (omega (arith, one, low, low_too)))) ∙ both.1)

-- each other job is out still
pub ended_out : (makes : Value → Result (List Value) ℕ) (ended ticket : ℕ) (node : NodeState) → has_work node.block.kind ≡ true
    → is_out ended node.block.jobs ≡ true → (ticket ≡ ended → ⊥) → is_out ticket node.block.jobs ≡ true
    → is_out ticket (after_job makes ended node).block.jobs ≡ true
ended_out makes ended ticket node works its apart out =
    let made = job_result makes ended node.block in
    (where_out (is_none node.block.fault) (with_jobs (brings ended made) node.block) ticket
    (record { works = works; out = brought_out ended ticket made node.block.jobs its apart out })).out

-- Turns in which no job ends

-- of a block with a function, what is out stays out
abbrev pub StaysOut : NodeState → NodeState → Type 0
StaysOut old new =
    has_work old.block.kind ≡ true
    → (has_work new.block.kind ≡ true) × ((ticket : ℕ) → is_out ticket old.block.jobs ≡ true → is_out ticket new.block.jobs ≡ true)

stays_prop : (old new : NodeState) → IsProp (StaysOut old new)
stays_prop old new = hlevel Bool-set

same_out : (old new : NodeState) → SameJobs old.block new.block → StaysOut old new
same_out old new jobs works = (
  ap has_work jobs.kind ∙ works,
  λ ticket out. subst (λ (its : JobsState). is_out ticket its ≡ true) (sym jobs.jobs) out,
)

out_further : (first mid last : NodeState) → StaysOut first mid → StaysOut mid last → StaysOut first last
out_further first mid last one other works =
    let mid_works = one works in
    let last_works = other mid_works.0 in (
      last_works.0,
      λ ticket out. last_works.1 ticket (mid_works.1 ticket out),
    )

event_out : (makes : Value → Result (List Value) ℕ) (event : BlockEvent) (old new : NodeState) → BlockHappens false makes event old new
    → StaysOut old new
event_out makes BlockEvent.make old new is = λ works.
    let would = and_parts (may_work old.block) (not (has_work old.block.kind)) is.comes in
    absurd (let never = not-true (has_work old.block.kind) would.1 in cc)
event_out makes BlockEvent.begin old new is = λ works.
    subst (λ (node : NodeState). (has_work node.block.kind ≡ true)
    × ((ticket : ℕ) → is_out ticket old.block.jobs ≡ true → is_out ticket node.block.jobs ≡ true)) (sym (is.leaves none))
    (works, λ ticket out. begun_out old.block.jobs ticket out)
event_out makes (BlockEvent.end_job ticket) old new is = absurd (let never = is.comes.0 in cc)
event_out makes (BlockEvent.complete p) old new is = same_out old new (calls_same (Some (NodeCall.complete p)) old new is.leaves refl)
event_out makes (BlockEvent.fault number) old new is = same_out old new (calls_same (Some (NodeCall.fault number)) old new is.leaves refl)
event_out makes BlockEvent.finish old new is = same_out old new (calls_same (Some NodeCall.finish) old new is.leaves refl)
event_out makes (BlockEvent.move_in p k next) old new is =
    ∥∥₁_elim is.leaves (stays_prop old new) (λ some.
    same_out old new (calls_same (in_call p k some.0 next) old new some.1 (in_quiet p k some.0 next)))
event_out makes (BlockEvent.move_out k next) old new is =
    same_out old new (calls_same (source_call old.block.kind k next) old new is.leaves (source_quiet (is_one_taker old.block.kind) k next))

looks_out : (n : ℕ) (old new : NodeState) → LooksBy AllLook n old new → StaysOut old new
looks_out zero old new looked = subst (StaysOut old) (sym looked) (same_out old old (same old.block))
looks_out (suc n) old new looked =
    out_further old looked.0 new (looks_out n old looked.0 looked.1.0) (same_out looked.0 new (all_same looked.0 new looked.1.1))

turn_out : (makes : Value → Result (List Value) ℕ) (n : ℕ) (old new : NodeState) → TurnsBy AllLook (HasEvent false makes) n old new
    → StaysOut old new
turn_out makes zero old new turned = looks_out turned.0 old new turned.1
turn_out makes (suc n) old new turned =
    let mid = turned.0 in
    let next = turned.1.1.0 in
    let event = turned.1.1.1.0 in
    let looked = turned.1.1.1.1 in
    out_further old mid new (turn_out makes n old mid turned.1.0)
    (out_further mid next new (event_out makes event.0 mid next event.1) (looks_out looked.0 next new looked.1))

pub turned_out : (makes : Value → Result (List Value) ℕ) (n : ℕ) (old new : NodeState)
    → ∥ TurnsBy AllLook (HasEvent false makes) n old new ∥₁ → StaysOut old new
turned_out makes n old new turned = ∥∥₁_elim turned (stays_prop old new) (turn_out makes n old new)

pub looked_out : (old new : NodeState) → ∥ HasLooked AllLook old new ∥₁ → StaysOut old new
looked_out old new looked = ∥∥₁_elim looked (stays_prop old new) (λ some. looks_out some.0 old new some.1)
