-- Each call of a port that names a place keeps the port in order.
use Rattle.std.proofs.Common.{◌≡◌, ◌≢◌, ℕ, ◌+◌, ◌-◌, ◌<◌, ◌≤◌, ◌==◌, ◌||◌, cond, Bool, true, false, List, [], ◌∷◌, ◌++◌, length, set, Option, Some, None, is_some, refl, ap, sym, ◌∙◌, subst, arith, zero, suc, ne_eqb, eq-eqb, eqb-true, length-append, length-drop}
use Rattle.std.proofs.lemmas.Bool.{eqb-false, or_right}
use Rattle.std.proofs.lemmas.List.{length-set}
use Rattle.std.proofs.Math.Bool.{or-false}
use Rattle.flow_value.specs.declared.value.Value.{Value}
use Rattle.flow_link.specs.declared.phase.Phase.{Phase}
use Rattle.flow_link.specs.declared.stage.Refusal.{Refusal}
use Rattle.flow_link.specs.declared.stage.TargetStage.{TargetStage}
use Rattle.flow_link.specs.declared.stage.TargetStage.TheVariants.{Free, Offered, Posted, Postponed, Accepted, Consuming, Asking, Holding, Claiming, Arrived, Hand}
use Rattle.flow_link.specs.LinkOk.{IsWithin, MayPutOff}
use Rattle.flow_link.specs.Stage.{target_looks}
use Rattle.flow_link.specs.Views.{LinkFacts}
use Rattle.flow_intake.specs.Port.{EndState, PortState, fresh_end, end_in, link_in, stage_in, stage_at, coming, has_room, is_coming, is_hand, is_holding, is_offer, is_queued, count_at}
use Rattle.flow_intake.specs.Calls.{one_more, message_of, is_offered, is_posted, is_postponed, is_arrived, may_be_refused, may_be_dropped, refused_by, queue_after, accepts, puts_off as postpones_so, leaves_for, takes, consumes, asks, claims, releases, opens, looks, port_closes, failing_from, port_fails}
use Rattle.flow_intake.specs.ByLink.{is_free}
use Rattle.flow_intake.specs.Queue.{without}
use Rattle.flow_intake.specs.PortLaw.{is_in, IsDistinct, AreBelow, has_ended, is_refused, puts_off, InLaw, EachIn, PortLaw}
use Rattle.flow_intake.specs.PortKeeps.{MovesKeep}
use Rattle.flow_intake.proofs.CountsOfEnds.{count_there, count_added, count_less}
use Rattle.flow_intake.proofs.EndsInOrder.{each_moved, within_less, within_room, coming_moved, coming_more, look_tells, port_moved, port_left, port_stays}
use Rattle.flow_intake.proofs.QueueOrder.{in_without, in_joined, gone, distinct_without, distinct_joined, below_without, below_joined, below_more}

-- what a test of an end's stage tells of it
pub record IsAt (stage : TargetStage) (waits comes has puts : Bool) : Type 0 where
  pub queued : is_queued stage ≡ waits
  pub coming : is_coming stage ≡ comes
  pub hand : is_hand stage ≡ has
  pub put_off : puts_off stage ≡ puts

offer_is : (stage : TargetStage) → is_offer stage ≡ true → IsAt stage false false false false
offer_is (Offered i) e = record { queued = refl; coming = refl; hand = refl; put_off = refl }
offer_is (Posted i) e = record { queued = refl; coming = refl; hand = refl; put_off = refl }
offer_is stage e = absurd (cc)

offered_is : (stage : TargetStage) → is_offered stage ≡ true → IsAt stage false false false false
offered_is (Offered i) e = record { queued = refl; coming = refl; hand = refl; put_off = refl }
offered_is stage e = absurd (cc)

posted_is : (stage : TargetStage) → is_posted stage ≡ true → IsAt stage false false false false
posted_is (Posted i) e = record { queued = refl; coming = refl; hand = refl; put_off = refl }
posted_is stage e = absurd (cc)

pub free_is : (stage : TargetStage) → is_free stage ≡ true → IsAt stage false false false false
free_is Free e = record { queued = refl; coming = refl; hand = refl; put_off = refl }
free_is stage e = absurd (cc)

pub postponed_is : (stage : TargetStage) → is_postponed stage ≡ true → IsAt stage true false false true
postponed_is (Postponed i) e = record { queued = refl; coming = refl; hand = refl; put_off = refl }
postponed_is stage e = absurd (cc)

holding_is : (stage : TargetStage) → is_holding stage ≡ true → IsAt stage true true false true
holding_is (Holding i) e = record { queued = refl; coming = refl; hand = refl; put_off = refl }
holding_is stage e = absurd (cc)

arrived_is : (stage : TargetStage) → is_arrived stage ≡ true → IsAt stage false true false false
arrived_is (Arrived i) e = record { queued = refl; coming = refl; hand = refl; put_off = refl }
arrived_is stage e = absurd (cc)

hand_is : (stage : TargetStage) → is_hand stage ≡ true → IsAt stage false true true false
hand_is (Hand i) e = record { queued = refl; coming = refl; hand = refl; put_off = refl }
hand_is stage e = absurd (cc)

refusable_not_in_hand : (stage : TargetStage) → may_be_refused stage ≡ true → is_hand stage ≡ false
refusable_not_in_hand (Hand i) e = absurd (cc)
refusable_not_in_hand stage e = refl

pub droppable_not_in_hand : (stage : TargetStage) → may_be_dropped stage ≡ true → is_hand stage ≡ false
droppable_not_in_hand (Hand i) e = absurd (cc)
droppable_not_in_hand stage e = refl

pub refused_is : (refusing : Option Refusal) → IsAt (refused_by refusing) false false false false
refused_is (Some _) = record { queued = refl; coming = refl; hand = refl; put_off = refl }
refused_is None = record { queued = refl; coming = refl; hand = refl; put_off = refl }

-- one more message comes where there is room
fits_one_more : (port : PortState) (place : ℕ) (end : EndState) → place < length port.ends → is_coming (stage_in place port.ends) ≡ false
    → has_room port ≡ true → IsWithin port.capacity (port.load + count_at is_coming (set port.ends place end))
fits_one_more port place end below before room =
    let more = coming_more port.ends place end below before in
    within_less port.capacity (port.load + coming port + 1) (port.load + count_at is_coming (set port.ends place end))
    (within_room port.capacity (port.load + coming port) room) (omega arith)

-- no more messages come
pub fits_no_more : (facts : ℕ → LinkFacts) (taken : ℕ) (port : PortState) (place : ℕ) (end : EndState) → PortLaw facts taken port → place < length port.ends
    → (is_coming end.stage ≡ true → is_coming (stage_in place port.ends) ≡ true)
    → IsWithin port.capacity (port.load + count_at is_coming (set port.ends place end))
fits_no_more facts taken port place end law below kept =
    let less = coming_moved port.ends place end below kept in
    within_less port.capacity (port.load + coming port) (port.load + count_at is_coming (set port.ends place end)) law.room (omega arith)

pub accept_keeps : (facts : ℕ → LinkFacts) (taken : ℕ) (port : PortState) (place i : ℕ) → PortLaw facts taken port → place < length port.ends
    → IsAt (stage_at place port) false false false false → has_room port ≡ true → has_ended port.refusing ≡ false → PortLaw facts taken (accepts place i port)
accept_keeps facts taken port place i law below before room going =
    port_stays facts taken port place (Accepted i) false law below (sym before.queued) (sym before.hand) (λ e. absurd (cc)) (λ e. going) (λ e. absurd (cc))
    (fits_one_more port place (record (end_in place port.ends) { stage = Accepted i }) below before.coming room)

pub put_off_keeps : (facts : ℕ → LinkFacts) (taken : ℕ) (port : PortState) (place i : ℕ) → PortLaw facts taken port → place < length port.ends
    → IsAt (stage_at place port) false false false false → MayPutOff (facts (link_in place port.ends)) taken → PortLaw facts taken (postpones_so place i port)
put_off_keeps facts taken port place i law below before may =
    let left = without place port.queue in
    port_moved facts taken port place (Postponed i) (left ++ place ∷ []) false law below
    (λ k other. in_joined k place left ∙ ap (λ (b : Bool). is_in k left || b) (ne_eqb place k (λ e. other (sym e))) ∙ or-false (is_in k left) ∙ in_without k place port.queue other)
    (distinct_joined place left (distinct_without place port.queue law.distinct) (gone place port.queue))
    (below_joined (length port.ends) place left (below_without (length port.ends) place port.queue law.known) below)
    (fits_no_more facts taken port place (record (end_in place port.ends) { stage = Postponed i }) law below (λ e. absurd (cc)))
    (let old = law.each place below in record {
      queued = in_joined place place left ∙ or_right (is_in place left) (place == place) (eq-eqb place place refl);
      hand = old.hand ∙ before.hand;
      refused = λ e. absurd (cc);
      coming = λ e. absurd (cc);
      put_off = λ e. may;
    })

pub consume_keeps : (facts : ℕ → LinkFacts) (taken : ℕ) (port : PortState) (place : ℕ) → PortLaw facts taken port → place < length port.ends
    → IsAt (stage_at place port) true false false true → has_room port ≡ true → has_ended port.refusing ≡ false → PortLaw facts taken (consumes place port)
consume_keeps facts taken port place law below before room going =
    port_left facts taken port place (Consuming (message_of (stage_at place port))) law below refl (sym before.hand) (λ e. absurd (cc)) (λ e. going) (λ e. before.put_off)
    (fits_one_more port place (record (end_in place port.ends) { stage = Consuming (message_of (stage_at place port)) }) below before.coming room)

ask_keeps : (facts : ℕ → LinkFacts) (taken : ℕ) (port : PortState) (place : ℕ) → PortLaw facts taken port → place < length port.ends
    → IsAt (stage_at place port) true false false true → has_room port ≡ true → has_ended port.refusing ≡ false → PortLaw facts taken (asks place port)
ask_keeps facts taken port place law below before room going =
    port_stays facts taken port place (Asking (message_of (stage_at place port))) port.ready law below (sym before.queued) (sym before.hand)
    (λ e. absurd (cc)) (λ e. going) (λ e. before.put_off)
    (fits_one_more port place (record (end_in place port.ends) { stage = Asking (message_of (stage_at place port)) }) below before.coming room)

claim_keeps : (facts : ℕ → LinkFacts) (taken : ℕ) (port : PortState) (place : ℕ) → PortLaw facts taken port → place < length port.ends
    → IsAt (stage_at place port) true true false true → PortLaw facts taken (claims place port)
claim_keeps facts taken port place law below before =
    port_left facts taken port place (Claiming (message_of (stage_at place port))) law below refl (sym before.hand) (λ e. absurd (cc))
    (λ e. (law.each place below).coming before.coming) (λ e. before.put_off)
    (fits_no_more facts taken port place (record (end_in place port.ends) { stage = Claiming (message_of (stage_at place port)) }) law below
    (λ e. before.coming))

release_keeps : (facts : ℕ → LinkFacts) (taken : ℕ) (port : PortState) (place : ℕ) → PortLaw facts taken port → place < length port.ends
    → IsAt (stage_at place port) true true false true → PortLaw facts taken (releases place port)
release_keeps facts taken port place law below before =
    port_stays facts taken port place (Postponed (message_of (stage_at place port))) port.ready law below (sym before.queued) (sym before.hand)
    (λ e. absurd (cc)) (λ e. absurd (cc)) (λ e. before.put_off)
    (fits_no_more facts taken port place (record (end_in place port.ends) { stage = Postponed (message_of (stage_at place port)) }) law below
    (λ e. absurd (cc)))

pub leave_keeps : (facts : ℕ → LinkFacts) (taken : ℕ) (port : PortState) (place : ℕ) (stage : TargetStage) → PortLaw facts taken port → place < length port.ends
    → IsAt stage false false false false → is_hand (stage_at place port) ≡ false → (is_refused stage ≡ true → is_some port.refusing ≡ true)
    → PortLaw facts taken (leaves_for stage place port)
leave_keeps facts taken port place stage law below after hand refused =
    port_left facts taken port place stage law below after.queued (after.hand ∙ sym hand) refused
    (λ e. let none = after.coming in absurd (cc)) (λ e. let none = after.put_off in absurd (cc))
    (fits_no_more facts taken port place (record (end_in place port.ends) { stage = stage }) law below (λ e. let none = after.coming in absurd (cc)))

-- what may be put off may be so when more was taken
each_more : (facts : ℕ → LinkFacts) (taken : ℕ) (refusing : Option Refusal) (queue : List ℕ) (ends : List EndState)
    → EachIn facts taken refusing queue ends → EachIn facts (taken + 1) refusing queue ends
each_more facts taken refusing queue ends each place below =
    let law = each place below in
    record {
      queued = law.queued;
      hand = law.hand;
      refused = law.refused;
      coming = law.coming;
      put_off = λ puts. let may = law.put_off puts in record { not_steady = may.not_steady; not_the_first = λ sole. let one = may.not_the_first sole in omega arith };
    }

within_taken : (capacity : Option ℕ) (load n m : ℕ) → n + 1 ≡ m → IsWithin capacity (load + m) → IsWithin capacity (one_more capacity load + n)
within_taken None load n m one within = tt
within_taken (Some c) load n m one within = omega arith

waits_more : (capacity : Option ℕ) (load n : ℕ) → (is_some capacity ≡ true → n ≤ load) → is_some capacity ≡ true → n + 1 ≤ one_more capacity load
waits_more None load n waits there = absurd (cc)
waits_more (Some c) load n waits there = let less = waits there in omega arith

took_more : (capacity : Option ℕ) (load taken : ℕ) → load ≤ taken → one_more capacity load ≤ taken + 1
took_more None load taken took = omega arith
took_more (Some c) load taken took = omega arith

pub take_keeps : (facts : ℕ → LinkFacts) (taken : ℕ) (port : PortState) (place : ℕ) (end : EndState) (value : Value) → PortLaw facts taken port → place < length port.ends
    → is_coming (stage_at place port) ≡ true → is_queued (stage_at place port) ≡ false
    → end.link ≡ link_in place port.ends → end.stage ≡ Free → end.hand ≡ None
    → PortLaw facts (taken + 1) (takes value (set port.ends place end) port)
take_keeps facts taken port place end value law below comes out link free empty =
    let old = law.each place below in
    let less = count_less is_coming port.ends place end below comes (rw free refl) in
    record {
      each = each_more facts taken port.refusing port.queue (set port.ends place end)
          (each_moved facts taken port.refusing port.queue port.queue port.ends place end law.each below (λ k other. refl) (record {
            queued = rw free (old.queued ∙ out);
            hand = rw (free, empty) refl;
            refused = rw free (λ e. absurd (cc));
            coming = rw free (λ e. absurd (cc));
            put_off = rw free (λ e. absurd (cc));
          }));
      distinct = law.distinct;
      known = rw (length-set port.ends place end) law.known;
      room = within_taken port.capacity port.load (count_at is_coming (set port.ends place end)) (coming port) less law.room;
      waits = λ there. rw (length-append port.waiting (value ∷ [])) (waits_more port.capacity port.load (length port.waiting) law.waits there);
      took = took_more port.capacity port.load taken law.took;
    }

open_keeps : (facts : ℕ → LinkFacts) (taken : ℕ) (port : PortState) (place : ℕ) (value : Value) → PortLaw facts taken port → place < length port.ends
    → IsAt (stage_at place port) false true false false → PortLaw facts taken (opens place value port)
open_keeps facts taken port place value law below before =
    let end : EndState = record (end_in place port.ends) { stage = Hand (message_of (stage_at place port)); hand = Some value } in
    let old = law.each place below in
    record {
      each = each_moved facts taken port.refusing port.queue port.queue port.ends place end law.each below (λ k other. refl) (record {
        queued = old.queued ∙ before.queued;
        hand = refl;
        refused = λ e. absurd (cc);
        coming = λ e. old.coming before.coming;
        put_off = λ e. absurd (cc);
      });
      distinct = law.distinct;
      known = rw (length-set port.ends place end) law.known;
      room = fits_no_more facts taken port place end law below (λ e. before.coming);
      waits = law.waits;
      took = law.took;
    }

look_keeps : (facts : ℕ → LinkFacts) (taken : ℕ) (port : PortState) (place : ℕ) (phase : Phase) → PortLaw facts taken port → place < length port.ends
    → PortLaw facts taken (looks place phase port)
look_keeps facts taken port place phase law below =
    let stage = target_looks (stage_at place port) phase in
    let tells = look_tells (stage_at place port) phase in
    let old = law.each place below in
    port_moved facts taken port place stage (queue_after stage place port.queue) port.ready law below
    (λ k other. others (is_queued stage) k other) (distinct_after (is_queued stage)) (below_after (is_queued stage))
    (fits_no_more facts taken port place (record (end_in place port.ends) { stage = stage }) law below tells.coming)
    (record {
      queued = stands (is_queued stage) refl (λ q. old.queued ∙ tells.queued q);
      hand = old.hand ∙ sym tells.hand;
      refused = λ e. old.refused (tells.refused e);
      coming = λ e. old.coming (tells.coming e);
      put_off = λ e. old.put_off (tells.put_off e);
    })
  where
    others : (b : Bool) (k : ℕ) → k ≢ place → is_in k (cond b port.queue (without place port.queue)) ≡ is_in k port.queue
    others true k other = refl
    others false k other = in_without k place port.queue other

    distinct_after : (b : Bool) → IsDistinct (cond b port.queue (without place port.queue))
    distinct_after true = law.distinct
    distinct_after false = distinct_without place port.queue law.distinct

    below_after : (b : Bool) → AreBelow (length port.ends) (cond b port.queue (without place port.queue))
    below_after true = law.known
    below_after false = below_without (length port.ends) place port.queue law.known

    stands : (b : Bool) → is_queued (target_looks (stage_at place port) phase) ≡ b
        → (is_queued (target_looks (stage_at place port) phase) ≡ true → is_in place port.queue ≡ true)
        → is_in place (cond b port.queue (without place port.queue)) ≡ b
    stands true is there = there is
    stands false is there = gone place port.queue

-- no end has a message that comes, where none is counted
none_comes : (ends : List EndState) (place : ℕ) → place < length ends → count_at is_coming ends ≡ 0 → is_coming (stage_in place ends) ≡ true → ⊥
none_comes ends place below none comes = let one = rw comes at (count_there is_coming ends place below) in omega arith

close_port_keeps : (facts : ℕ → LinkFacts) (taken : ℕ) (port : PortState) → PortLaw facts taken port → coming port ≡ 0 → PortLaw facts taken (port_closes port)
close_port_keeps facts taken port law none = record {
  each = λ place below. let old = law.each place below in record {
    queued = old.queued;
    hand = old.hand;
    refused = λ e. refl;
    coming = λ e. absurd (none_comes port.ends place below none e);
    put_off = old.put_off;
  };
  distinct = law.distinct;
  known = law.known;
  room = law.room;
  waits = law.waits;
  took = law.took;
}

failing_refuses : (refusing : Option Refusal) → is_some (failing_from refusing) ≡ true
failing_refuses None = refl
failing_refuses (Some _) = refl

failing_goes_on : (refusing : Option Refusal) → has_ended refusing ≡ false → has_ended (failing_from refusing) ≡ false
failing_goes_on None going = refl
failing_goes_on (Some _) going = going

fail_port_keeps : (facts : ℕ → LinkFacts) (taken : ℕ) (port : PortState) → PortLaw facts taken port → PortLaw facts taken (port_fails port)
fail_port_keeps facts taken port law = record {
  each = λ place below. let old = law.each place below in record {
    queued = old.queued;
    hand = old.hand;
    refused = λ e. failing_refuses port.refusing;
    coming = λ e. failing_goes_on port.refusing (old.coming e);
    put_off = old.put_off;
  };
  distinct = law.distinct;
  known = law.known;
  room = law.room;
  waits = law.waits;
  took = law.took;
}

-- one more link

pub last_read : (ends : List EndState) (end : EndState) → end_in (length ends) (ends ++ end ∷ []) ≡ end
last_read [] end = refl
last_read (first ∷ ends) end = last_read ends end

front_read : (ends : List EndState) (end : EndState) (place : ℕ) → place < length ends → end_in place (ends ++ end ∷ []) ≡ end_in place ends
front_read [] end place below = absurd (omega arith)
front_read (first ∷ ends) end zero below = refl
front_read (first ∷ ends) end (suc place) below = front_read ends end place (omega arith)

not_in_above : (count : ℕ) (queue : List ℕ) → AreBelow count queue → is_in count queue ≡ false
not_in_above count [] known = refl
not_in_above count (first ∷ queue) known = rw (ne_eqb first count (λ at. omega (arith, known.0)), not_in_above count queue known.1) refl

added_at : (facts : ℕ → LinkFacts) (taken : ℕ) (refusing : Option Refusal) (queue : List ℕ) (ends : List EndState) (link : ℕ)
    → EachIn facts taken refusing queue ends → AreBelow (length ends) queue
    → (place : ℕ) (last : Bool) → place == length ends ≡ last → place < length ends + 1
    → InLaw (facts (link_in place (ends ++ fresh_end link ∷ []))) taken refusing queue place (end_in place (ends ++ fresh_end link ∷ []))
added_at facts taken refusing queue ends link each known place true is below =
    let at : place ≡ length ends = eqb-true place (length ends) is in
    let read : end_in place (ends ++ fresh_end link ∷ []) ≡ fresh_end link = rw at (last_read ends (fresh_end link)) in
    subst (λ (e : EndState). InLaw (facts e.link) taken refusing queue place e) (sym read) (record {
      queued = rw at (not_in_above (length ends) queue known);
      hand = refl;
      refused = λ e. absurd (cc);
      coming = λ e. absurd (cc);
      put_off = λ e. absurd (cc);
    })
added_at facts taken refusing queue ends link each known place false is below =
    let other : place ≢ length ends = eqb-false place (length ends) is in
    let there : place < length ends = omega arith in
    let read : end_in place (ends ++ fresh_end link ∷ []) ≡ end_in place ends = front_read ends (fresh_end link) place there in
    subst (λ (e : EndState). InLaw (facts e.link) taken refusing queue place e) (sym read) (each place there)

pub add_link_keeps : (facts : ℕ → LinkFacts) (taken : ℕ) (port : PortState) (link : ℕ) → PortLaw facts taken port
    → PortLaw facts taken (record port { ends = port.ends ++ fresh_end link ∷ [] })
add_link_keeps facts taken port link law = record {
  each = λ place below. added_at facts taken port.refusing port.queue port.ends link law.each law.known place (place == length port.ends) refl
      (rw length-append at below);
  distinct = law.distinct;
  known = rw (length-append port.ends (fresh_end link ∷ [])) (below_more (length port.ends) port.queue law.known);
  room = rw (count_added is_coming port.ends link refl) law.room;
  waits = law.waits;
  took = law.took;
}

give_room_waits : (capacity : Option ℕ) (load count waiting : ℕ) → cond (is_some capacity) count 0 ≤ load - waiting
    → (is_some capacity ≡ true → waiting ≤ load) → is_some capacity ≡ true → waiting ≤ load - count
give_room_waits None load count waiting fits waits there = absurd (cc)
give_room_waits (Some c) load count waiting fits waits there = let less = waits there in omega arith

pub moves_keep : MovesKeep
moves_keep = record {
  fresh = λ facts capacity. record {
    each = λ place below. absurd (omega arith);
    distinct = tt;
    known = tt;
    room = fits_nothing capacity;
    waits = λ there. omega arith;
    took = omega arith;
  };
  reserving = λ facts capacity. record {
    each = λ place below. absurd (omega arith);
    distinct = tt;
    known = tt;
    room = fits_nothing capacity;
    waits = λ there. omega arith;
    took = omega arith;
  };
  add_link = λ facts taken port law link. add_link_keeps facts taken port link law;
  prepare = λ facts taken port law. record {
    each = law.each;
    distinct = law.distinct;
    known = law.known;
    room = law.room;
    waits = law.waits;
    took = law.took;
  };
  want = λ facts taken port law place below offer room going.
      accept_keeps facts taken port place (message_of (stage_at place port)) law below (offer_is (stage_at place port) offer) room going;
  turn_down = λ facts taken port law place below posted.
      let before = posted_is (stage_at place port) posted in
      port_stays facts taken port place Free port.ready law below (sym before.queued) (sym before.hand) (λ e. absurd (cc)) (λ e. absurd (cc)) (λ e. absurd (cc))
      (fits_no_more facts taken port place (record (end_in place port.ends) { stage = Free }) law below (λ e. absurd (cc)));
  postpone = λ facts taken port law place below offered may.
      put_off_keeps facts taken port place (message_of (stage_at place port)) law below (offered_is (stage_at place port) offered) may;
  refuse = λ facts taken port law place below offer refusing.
      leave_keeps facts taken port place (refused_by port.refusing) law below (refused_is port.refusing)
      (refusable_not_in_hand (stage_at place port) offer) (λ e. refusing);
  consume = λ facts taken port law place below postponed room going.
      consume_keeps facts taken port place law below (postponed_is (stage_at place port) postponed) room going;
  ask = λ facts taken port law place below postponed room going.
      ask_keeps facts taken port place law below (postponed_is (stage_at place port) postponed) room going;
  claim = λ facts taken port law place below holding.
      claim_keeps facts taken port place law below (holding_is (stage_at place port) holding);
  release = λ facts taken port law place below holding.
      release_keeps facts taken port place law below (holding_is (stage_at place port) holding);
  opened = λ facts taken port law place value below arrived.
      open_keeps facts taken port place value law below (arrived_is (stage_at place port) arrived);
  closed = λ facts taken port law place value below hand.
      let before = hand_is (stage_at place port) hand in
      take_keeps facts taken port place (record (end_in place port.ends) { stage = Free; hand = None }) value law below before.coming before.queued refl refl refl;
  look = λ facts taken port law place phase below. look_keeps facts taken port place phase law below;
  take_next = λ facts taken port law. record {
    each = law.each;
    distinct = law.distinct;
    known = law.known;
    room = law.room;
    took = law.took;
    waits = λ there. let enough = law.waits there in rw (length-drop 1 port.waiting) (omega arith);
  };
  give_room = λ facts taken port law count fits. record {
    each = law.each;
    distinct = law.distinct;
    known = law.known;
    room = within_less port.capacity (port.load + coming port) (port.load - count + coming port) law.room (omega arith);
    waits = give_room_waits port.capacity port.load count (length port.waiting) fits law.waits;
    took = let less = law.took in omega arith;
  };
  close_port = λ facts taken port law none. close_port_keeps facts taken port law none;
  fail_port = λ facts taken port law. fail_port_keeps facts taken port law;
}
  where
    fits_nothing : (capacity : Option ℕ) → IsWithin capacity 0
    fits_nothing None = tt
    fits_nothing (Some c) = omega arith
