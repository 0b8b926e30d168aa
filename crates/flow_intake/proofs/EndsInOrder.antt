-- A port stays in order when one of its ends moves.
use Rattle.std.proofs.Common.{◌≡◌, ◌≢◌, ℕ, ◌+◌, ◌<◌, ◌≤◌, ◌==◌, Bool, true, false, List, length, set, Option, Some, None, is_some, refl, sym, ◌∙◌, subst, arith, eqb-true}
use Rattle.std.proofs.lemmas.Bool.{eqb-false}
use Rattle.std.proofs.lemmas.List.{get_or-set_same, get_or-set_other, length-set}
use Rattle.flow_link.specs.declared.phase.Phase.{Phase}
use Rattle.flow_link.specs.declared.phase.Phase.TheVariants.{Idle}
use Rattle.flow_link.specs.declared.stage.Refusal.{Refusal}
use Rattle.flow_link.specs.declared.stage.Refusal.TheVariants.{PortEnded}
use Rattle.flow_link.specs.declared.stage.TargetStage.{TargetStage}
use Rattle.flow_link.specs.declared.stage.TargetStage.TheVariants.{Free, Refused}
use Rattle.flow_link.specs.LinkOk.{IsWithin}
use Rattle.flow_link.specs.Stage.{target_looks}
use Rattle.flow_link.specs.Views.{LinkFacts}
use Rattle.flow_link.proofs.ListTests.{at_most_one, counts_no_less}
use Rattle.flow_intake.specs.Port.{EndState, PortState, fresh_end, end_in, link_in, stage_in, coming, is_below, is_coming, is_hand, is_queued, count_at}
use Rattle.flow_intake.specs.Calls.{put_stage}
use Rattle.flow_intake.specs.Queue.{without}
use Rattle.flow_intake.specs.PortLaw.{is_in, IsDistinct, AreBelow, has_ended, is_refused, puts_off, InLaw, EachIn, PortLaw}
use Rattle.flow_intake.proofs.CountsOfEnds.{count_after_set}
use Rattle.flow_intake.proofs.QueueOrder.{in_without, gone, distinct_without, below_without}

-- an end is in order in another queue in which it stands just as it did
elsewhere : {facts : LinkFacts} {taken : ℕ} {refusing : Option Refusal} {queue : List ℕ} {place : ℕ} {end : EndState} (joined : List ℕ)
    → is_in place joined ≡ is_in place queue → InLaw facts taken refusing queue place end → InLaw facts taken refusing joined place end
elsewhere joined same law = record { queued = same ∙ law.queued; hand = law.hand; refused = law.refused; coming = law.coming; put_off = law.put_off }

moved_at : (facts : ℕ → LinkFacts) (taken : ℕ) (refusing : Option Refusal) (queue after : List ℕ) (ends : List EndState) (place : ℕ) (end : EndState)
    → EachIn facts taken refusing queue ends → place < length ends
    → ((k : ℕ) → k ≢ place → is_in k after ≡ is_in k queue)
    → InLaw (facts end.link) taken refusing after place end
    → (k : ℕ) (same : Bool) → k == place ≡ same → k < length ends
    → InLaw (facts (link_in k (set ends place end))) taken refusing after k (end_in k (set ends place end))
moved_at facts taken refusing queue after ends place end each below others law k true is there =
    let at : k ≡ place = eqb-true k place is in
    let read : end_in k (set ends place end) ≡ end = rw at (get_or-set_same ends place end (fresh_end 0) below) in
    subst (λ (e : EndState). InLaw (facts e.link) taken refusing after k e) (sym read) (rw at law)
moved_at facts taken refusing queue after ends place end each below others law k false is there =
    let read : end_in k (set ends place end) ≡ end_in k ends = get_or-set_other ends place k end (fresh_end 0) (eqb-false k place is) in
    subst (λ (e : EndState). InLaw (facts e.link) taken refusing after k e) (sym read) (elsewhere after (others k (eqb-false k place is)) (each k there))

pub each_moved : (facts : ℕ → LinkFacts) (taken : ℕ) (refusing : Option Refusal) (queue after : List ℕ) (ends : List EndState) (place : ℕ) (end : EndState)
    → EachIn facts taken refusing queue ends → place < length ends
    → ((k : ℕ) → k ≢ place → is_in k after ≡ is_in k queue)
    → InLaw (facts end.link) taken refusing after place end
    → EachIn facts taken refusing after (set ends place end)
each_moved facts taken refusing queue after ends place end each below others law k there =
    moved_at facts taken refusing queue after ends place end each below others law k (k == place) refl (subst (λ (n : ℕ). k < n) (length-set ends place end) there)

-- what fits, fits when it is less, and one more fits where there is room
pub within_less : (capacity : Option ℕ) (m n : ℕ) → IsWithin capacity m → n ≤ m → IsWithin capacity n
within_less None m n within less = tt
within_less (Some c) m n within less = omega arith

pub within_room : (capacity : Option ℕ) (m : ℕ) → is_below m capacity ≡ true → IsWithin capacity (m + 1)
within_room None m room = tt
within_room (Some c) m room = grind arith

-- what comes, when one end moves
pub coming_moved : (ends : List EndState) (place : ℕ) (end : EndState) → place < length ends
    → (is_coming end.stage ≡ true → is_coming (stage_in place ends) ≡ true) → count_at is_coming (set ends place end) ≤ count_at is_coming ends
coming_moved ends place end below kept =
    let moved = count_after_set is_coming ends place end below in
    let weighed = counts_no_less (is_coming end.stage) (is_coming (stage_in place ends)) kept in
    omega arith

pub coming_more : (ends : List EndState) (place : ℕ) (end : EndState) → place < length ends → is_coming (stage_in place ends) ≡ false
    → count_at is_coming (set ends place end) ≤ count_at is_coming ends + 1
coming_more ends place end below before =
    let moved = count_after_set is_coming ends place end below in
    let none = rw before at moved in
    let one = at_most_one (is_coming end.stage) in
    omega arith

-- what a look may change of an end
pub record LookTells (before after : TargetStage) : Type 0 where
  pub coming : is_coming after ≡ true → is_coming before ≡ true
  pub queued : is_queued after ≡ true → is_queued before ≡ true
  pub refused : is_refused after ≡ true → is_refused before ≡ true
  pub put_off : puts_off after ≡ true → puts_off before ≡ true
  pub hand : is_hand after ≡ is_hand before

pub look_tells : (stage : TargetStage) (phase : Phase) → LookTells stage (target_looks stage phase)
look_tells Free Idle = record { coming = λ e. cc; queued = λ e. cc; refused = λ e. cc; put_off = λ e. cc; hand = refl }
look_tells (Refused PortEnded) Idle = record { coming = λ e. cc; queued = λ e. cc; refused = λ e. cc; put_off = λ e. cc; hand = refl }
look_tells (Refused _) _ = record { coming = λ e. cc; queued = λ e. cc; refused = λ e. cc; put_off = λ e. cc; hand = refl }
look_tells _ Idle = record { coming = λ e. cc; queued = λ e. cc; refused = λ e. cc; put_off = λ e. cc; hand = refl }
look_tells _ _ = record { coming = λ e. cc; queued = λ e. cc; refused = λ e. cc; put_off = λ e. cc; hand = refl }

-- the port when the end at a place has moved, and the queue with it
pub port_moved : (facts : ℕ → LinkFacts) (taken : ℕ) (port : PortState) (place : ℕ) (stage : TargetStage) (after : List ℕ) (ready : Bool)
    → PortLaw facts taken port → place < length port.ends
    → ((k : ℕ) → k ≢ place → is_in k after ≡ is_in k port.queue) → IsDistinct after → AreBelow (length port.ends) after
    → IsWithin port.capacity (port.load + count_at is_coming (put_stage place stage port.ends))
    → InLaw (facts (link_in place port.ends)) taken port.refusing after place (record (end_in place port.ends) { stage = stage })
    → PortLaw facts taken (record port { ends = put_stage place stage port.ends; queue = after; ready = ready })
port_moved facts taken port place stage after ready law below others distinct known room one = record {
  each = each_moved facts taken port.refusing port.queue after port.ends place (record (end_in place port.ends) { stage = stage }) law.each below others one;
  distinct = distinct;
  known = rw (length-set port.ends place (record (end_in place port.ends) { stage = stage })) known;
  room = room;
  waits = law.waits;
  took = law.took;
}

-- it leaves the queue
pub port_left : (facts : ℕ → LinkFacts) (taken : ℕ) (port : PortState) (place : ℕ) (stage : TargetStage)
    → PortLaw facts taken port → place < length port.ends
    → is_queued stage ≡ false → is_hand stage ≡ is_hand (stage_in place port.ends)
    → (is_refused stage ≡ true → is_some port.refusing ≡ true)
    → (is_coming stage ≡ true → has_ended port.refusing ≡ false)
    → (puts_off stage ≡ true → puts_off (stage_in place port.ends) ≡ true)
    → IsWithin port.capacity (port.load + count_at is_coming (put_stage place stage port.ends))
    → PortLaw facts taken (record port { ends = put_stage place stage port.ends; queue = without place port.queue })
port_left facts taken port place stage law below queued hand refused coming put_off room =
    port_moved facts taken port place stage (without place port.queue) port.ready law below (λ k other. in_without k place port.queue other)
    (distinct_without place port.queue law.distinct) (below_without (length port.ends) place port.queue law.known) room
    (let before = law.each place below in record {
      queued = gone place port.queue ∙ sym queued;
      hand = before.hand ∙ sym hand;
      refused = refused;
      coming = coming;
      put_off = λ puts. before.put_off (put_off puts);
    })

-- it stays out of the queue
pub port_stays : (facts : ℕ → LinkFacts) (taken : ℕ) (port : PortState) (place : ℕ) (stage : TargetStage) (ready : Bool)
    → PortLaw facts taken port → place < length port.ends
    → is_queued stage ≡ is_queued (stage_in place port.ends) → is_hand stage ≡ is_hand (stage_in place port.ends)
    → (is_refused stage ≡ true → is_some port.refusing ≡ true)
    → (is_coming stage ≡ true → has_ended port.refusing ≡ false)
    → (puts_off stage ≡ true → puts_off (stage_in place port.ends) ≡ true)
    → IsWithin port.capacity (port.load + count_at is_coming (put_stage place stage port.ends))
    → PortLaw facts taken (record port { ends = put_stage place stage port.ends; ready = ready })
port_stays facts taken port place stage ready law below queued hand refused coming put_off room =
    port_moved facts taken port place stage port.queue ready law below (λ k other. refl) law.distinct law.known room
    (let before = law.each place below in record {
      queued = before.queued ∙ sym queued;
      hand = before.hand ∙ sym hand;
      refused = refused;
      coming = coming;
      put_off = λ puts. before.put_off (put_off puts);
    })
