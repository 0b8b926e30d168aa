-- What each call of a block makes of the number of marks that may follow it.
use Rattle.std.proofs.Common.{◌≡◌, ℕ, zero, suc, ◌+◌, ◌<◌, ◌≤◌, Bool, true, false, cond, List, [], ◌∷◌, length, set, map, Option, Some, None, is_some, is_none, Result, Ok, Err, ◌||◌, refl, arith}
use Rattle.flow_value.specs.declared.value.Value.{Value}
use Rattle.flow_link.specs.declared.draft.BlockKind.{BlockKind}
use Rattle.flow_link.specs.declared.draft.BlockKind.TheVariants.{Action}
use Rattle.flow_link.specs.declared.phase.Phase.{Phase}
use Rattle.flow_link.specs.declared.stage.Refusal.{Refusal}
use Rattle.flow_link.specs.declared.stage.TargetStage.{TargetStage}
use Rattle.flow_link.specs.declared.stage.TargetStage.TheVariants.{Offered, Posted, Postponed, Holding, Arrived}
use Rattle.flow_link.specs.declared.trace.Outcome.{Outcome}
use Rattle.flow_link.specs.Stage.{target_looks}
use Rattle.flow_intake.specs.Port.{EndState, PortState, stage_at, is_offer, is_queued, is_coming, is_owed, is_hand, is_holding, count_at}
use Rattle.flow_intake.specs.Calls.{is_offered, is_postponed, is_arrived, refused_by, prepared, unprepared, wants, turns_down, postpones, refuses, consumes, asks, claims, releases, opens, closes, looks, takes_next, gives_room, port_closes, port_fails}
use Rattle.flow_intake.proofs.CountsOfEnds.{count_after_set, coming_is_owed, hand_comes}
use Rattle.flow_intake.proofs.EndsInOrder.{look_tells}
use Rattle.flow_outlet.specs.Outlet.{gives, head_of}
use Rattle.flow_block.specs.Block.{BlockState, port_in, port_at, with_port, gives_out, with_jobs, fails, keeps_results, yields_all, yields_where, ends_job, stops_by}
use Rattle.flow_block.specs.Jobs.{Slot, brings}
use Rattle.flow_block.specs.JournalFits.{port_due, ports_due, marks_due}
use Rattle.flow_block.proofs.RoomBack.{due_back}

pub due_set : (ports : List PortState) (p : ℕ) (port : PortState) → p < length ports
    → ports_due (set ports p port) + port_due (port_in ports p) ≡ ports_due ports + port_due port
due_set [] p port l = absurd (omega arith)
due_set (first ∷ ports) zero port l = omega arith
due_set (first ∷ ports) (suc p) port l = omega (arith, due_set ports p port (omega arith))

-- where one port may take so many more or fewer, so may the block
pub due_with : (p more fewer : ℕ) (change : PortState → PortState) (block : BlockState) → p < length block.ports
    → port_due (change (port_at p block)) + fewer ≤ port_due (port_at p block) + more
    → marks_due (with_port p change block) + fewer ≤ marks_due block + more
due_with p more fewer change block l one = omega (arith, due_set block.ports p (change (port_at p block)) l)

-- one end of the port stands elsewhere
pub due_moved : (k more fewer : ℕ) (end : EndState) (ready : Bool) (port : PortState) → k < length port.ends
    → cond (is_owed end.stage) 1 0 + cond ready 1 0 + fewer ≤ cond (is_owed (stage_at k port)) 1 0 + cond port.ready 1 0 + more
    → count_at is_owed (set port.ends k end) + cond ready 1 0 + fewer ≤ port_due port + more
due_moved k more fewer end ready port l one = omega (arith, count_after_set is_owed port.ends k end l)

offer_is_free : (stage : TargetStage) → is_offer stage ≡ true → is_owed stage ≡ false
offer_is_free (Offered _) e = refl
offer_is_free (Posted _) e = refl
offer_is_free _ e = absurd (cc)

offered_is_offer : (stage : TargetStage) → is_offered stage ≡ true → is_offer stage ≡ true
offered_is_offer (Offered _) e = refl
offered_is_offer _ e = absurd (cc)

postponed_is_owed : (stage : TargetStage) → is_postponed stage ≡ true → is_owed stage ≡ true
postponed_is_owed (Postponed _) e = refl
postponed_is_owed _ e = absurd (cc)

held_is_owed : (stage : TargetStage) → is_holding stage ≡ true → is_owed stage ≡ true
held_is_owed (Holding _) e = refl
held_is_owed _ e = absurd (cc)

arrived_is_owed : (stage : TargetStage) → is_arrived stage ≡ true → is_owed stage ≡ true
arrived_is_owed (Arrived _) e = refl
arrived_is_owed _ e = absurd (cc)

refused_is_free : (why : Option Refusal) → is_owed (refused_by why) ≡ false
refused_is_free None = refl
refused_is_free (Some _) = refl

owed_by : (queued coming was : Bool) → (queued ≡ true → was ≡ true) → (coming ≡ true → was ≡ true)
    → cond (queued || coming) 1 0 ≤ cond was 1 0
owed_by true coming was by_queue by_coming = rw (by_queue refl) (omega arith)
owed_by false true was by_queue by_coming = rw (by_coming refl) (omega arith)
owed_by false false true by_queue by_coming = omega arith
owed_by false false false by_queue by_coming = omega arith

queued_is_owed : (stage : TargetStage) → is_queued stage ≡ true → is_owed stage ≡ true
queued_is_owed stage e = rw e refl

-- a look sets aside no memory
look_owes_less : (stage : TargetStage) (phase : Phase) → cond (is_owed (target_looks stage phase)) 1 0 ≤ cond (is_owed stage) 1 0
look_owes_less stage phase =
    let tells = look_tells stage phase in
    owed_by (is_queued (target_looks stage phase)) (is_coming (target_looks stage phase)) (is_owed stage)
    (λ e. queued_is_owed stage (tells.queued e)) (λ e. coming_is_owed stage (tells.coming e))

module _ (p : ℕ) (block : BlockState) (l : p < length block.ports) where
  pub due_prepared : marks_due (with_port p prepared block) ≤ marks_due block + 1
  due_prepared = omega (arith, due_with p 1 0 prepared block l (omega arith))

  pub due_unprepared : marks_due (with_port p unprepared block) ≤ marks_due block
  due_unprepared = omega (arith, due_with p 0 0 unprepared block l (omega arith))

  pub due_completed : marks_due (with_port p port_closes block) ≤ marks_due block
  due_completed = omega (arith, due_with p 0 0 port_closes block l (omega arith))

  module _ (k : ℕ) (there : k < length (port_at p block).ends) where
    pub due_wants : is_offer (stage_at k (port_at p block)) ≡ true → (port_at p block).ready ≡ true
        → marks_due (with_port p (wants k) block) ≤ marks_due block
    due_wants offer ready =
        omega (arith, due_with p 0 0 (wants k) block l (due_moved k 0 0 _ false (port_at p block) there (rw (offer_is_free _ offer, ready) (omega arith))))

    pub due_postpones : is_offered (stage_at k (port_at p block)) ≡ true → (port_at p block).ready ≡ true
        → marks_due (with_port p (postpones k) block) ≤ marks_due block
    due_postpones offered ready =
        omega (arith, due_with p 0 0 (postpones k) block l (due_moved k 0 0 _ false (port_at p block) there (rw (offer_is_free _ (offered_is_offer _ offered), ready) (omega arith))))

    pub due_turns_down : marks_due (with_port p (turns_down k) block) ≤ marks_due block
    due_turns_down =
        omega (arith, due_with p 0 0 (turns_down k) block l (due_moved k 0 0 _ (port_at p block).ready (port_at p block) there (omega arith)))

    pub due_refuses : marks_due (with_port p (refuses k) block) ≤ marks_due block
    due_refuses =
        omega (arith, due_with p 0 0 (refuses k) block l (due_moved k 0 0 _ (port_at p block).ready (port_at p block) there (rw (refused_is_free (port_at p block).refusing) (omega arith))))

    pub due_consumes : is_postponed (stage_at k (port_at p block)) ≡ true
        → marks_due (with_port p (consumes k) block) ≤ marks_due block
    due_consumes postponed =
        omega (arith, due_with p 0 0 (consumes k) block l (due_moved k 0 0 _ (port_at p block).ready (port_at p block) there (rw (postponed_is_owed _ postponed) (omega arith))))

    pub due_asks : is_postponed (stage_at k (port_at p block)) ≡ true → marks_due (with_port p (asks k) block) ≤ marks_due block
    due_asks postponed =
        omega (arith, due_with p 0 0 (asks k) block l (due_moved k 0 0 _ (port_at p block).ready (port_at p block) there (rw (postponed_is_owed _ postponed) (omega arith))))

    pub due_claims : is_holding (stage_at k (port_at p block)) ≡ true → marks_due (with_port p (claims k) block) ≤ marks_due block
    due_claims holding =
        omega (arith, due_with p 0 0 (claims k) block l (due_moved k 0 0 _ (port_at p block).ready (port_at p block) there (rw (held_is_owed _ holding) (omega arith))))

    pub due_releases : is_holding (stage_at k (port_at p block)) ≡ true → marks_due (with_port p (releases k) block) ≤ marks_due block
    due_releases holding =
        omega (arith, due_with p 0 0 (releases k) block l (due_moved k 0 0 _ (port_at p block).ready (port_at p block) there (rw (held_is_owed _ holding) (omega arith))))

    pub due_opens : (value : Value) → is_arrived (stage_at k (port_at p block)) ≡ true
        → marks_due (with_port p (opens k value) block) ≤ marks_due block
    due_opens value arrived =
        omega (arith, due_with p 0 0 (opens k value) block l (due_moved k 0 0 _ (port_at p block).ready (port_at p block) there (rw (arrived_is_owed _ arrived) (omega arith))))

    pub due_closes : (value : Value) → is_hand (stage_at k (port_at p block)) ≡ true
        → marks_due (with_port p (closes k value) block) + 1 ≤ marks_due block
    due_closes value hand =
        omega (arith, due_with p 0 1 (closes k value) block l (due_moved k 0 1 _ (port_at p block).ready (port_at p block) there (rw (coming_is_owed _ (hand_comes _ hand)) (omega arith))))

    pub due_looks : (phase : Phase) → marks_due (with_port p (looks k phase) block) ≤ marks_due block
    due_looks phase =
        omega (arith, due_with p 0 0 (looks k phase) block l (due_moved k 0 0 _ (port_at p block).ready (port_at p block) there (omega (arith, look_owes_less (stage_at k (port_at p block)) phase))))

pub due_map : (change : PortState → PortState) (ports : List PortState) → ((port : PortState) → port_due (change port) ≡ port_due port)
    → ports_due (map change ports) ≡ ports_due ports
due_map change [] same = refl
due_map change (port ∷ ports) same = rw (same port, due_map change ports same) refl

-- the head that is given is marked
pub due_given : (k : ℕ) (block : BlockState) → is_some block.exits.parcel ≡ true → marks_due (gives_out k block) + 1 ≤ marks_due block
due_given k block ready = rw ready (omega (arith, due_back (gives k block.exits) block.copies block.kind (head_of block.exits) block.ports))

-- so is one that is given without a parcel that was made before
pub due_sent : (k : ℕ) (block : BlockState) → marks_due (gives_out k block) ≤ marks_due block
due_sent k block = omega (arith, due_back (gives k block.exits) block.copies block.kind (head_of block.exits) block.ports)

pub due_failed : (number : ℕ) (block : BlockState) → marks_due (fails number block) ≡ marks_due block
due_failed number block = rw (due_map port_fails block.ports (λ _. refl)) refl

pub due_stopped : (how : Outcome) (block : BlockState) → marks_due (stops_by how block) ≡ marks_due block
due_stopped how block = rw (due_map port_closes block.ports (λ _. refl)) refl

-- A job that ends

pub first_kept : (change : PortState → PortState) (ports : List PortState)
    → ((port : PortState) → port_due (change port) ≡ port_due port)
    → ports_due (set ports 0 (change (port_in ports 0))) ≡ ports_due ports
first_kept change [] same = refl
first_kept change (port ∷ ports) same = omega (arith, same port)

due_kept : (kind : BlockKind) (values : List Value) (block : BlockState)
    → marks_due (keeps_results kind values block) ≡ marks_due block
due_kept Action values block =
    omega (arith, first_kept (λ port. gives_room 1 (takes_next port)) block.ports (λ port. refl))
due_kept _ [] block =
    omega (arith, first_kept (λ port. gives_room 1 (takes_next port)) block.ports (λ port. refl))
due_kept _ (value ∷ values) block = omega (arith, first_kept takes_next block.ports (λ port. refl))

all_due : (slots : List Slot) (block : BlockState) → marks_due (yields_all slots block) ≤ marks_due block
all_due [] block = omega arith
all_due (None ∷ slots) block = omega arith
all_due (Some (Err number) ∷ slots) block = omega (arith, due_failed number block)
all_due (Some (Ok values) ∷ slots) block =
    omega (arith, all_due slots (keeps_results block.kind values block), due_kept block.kind values block)

where_due : (well : Bool) (block : BlockState) → marks_due (yields_where well block) ≤ marks_due block
where_due true block = all_due block.jobs.slots block
where_due false block = omega arith

pub due_ended : (ticket : ℕ) (made : Result (List Value) ℕ) (block : BlockState)
    → marks_due (ends_job ticket made block) ≤ marks_due block
due_ended ticket made block = where_due (is_none block.fault) (with_jobs (brings ticket made) block)
