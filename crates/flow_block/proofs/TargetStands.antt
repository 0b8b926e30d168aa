-- How a block's stages at the links into it change by the calls of its port that name a link.
use Rattle.std.proofs.Common.{◌≡◌, ◌≢◌, ℕ, ◌<◌, ◌==◌, Bool, true, false, ◌&&◌, ◌⊎◌, inl, inr, cond, List, [], ◌∷◌, ◌++◌, length, zero, suc, Option, Some, None, is_some, unwrap_or, refl, ap, sym, ◌∙◌, subst, arith, eqb-true, eq-eqb}
use Rattle.std.proofs.lemmas.Bool.{false_from_ne_true}
use Rattle.std.proofs.lemmas.List.{get_or-set_same, get_or-set_other}
use Rattle.std.proofs.lemmas.List.Quantifiers.{position-Some}
use Rattle.flow_value.specs.declared.value.Value.{Value}
use Rattle.flow_value.specs.declared.message.MessageStatus.{MessageStatus}
use Rattle.flow_value.specs.declared.message.MessageStatus.TheVariants as status
use Rattle.flow_link.specs.declared.stage.Refusal.{Refusal}
use Rattle.flow_link.specs.declared.stage.TargetStage.{TargetStage}
use Rattle.flow_link.specs.declared.stage.TargetStage.TheVariants as target
use Rattle.flow_link.specs.StagesMove.{MovesBy}
use Rattle.flow_link.specs.TargetCalls.{HasRefused, StandsAfter, Wants, Consumes, MayNote, stage_noted}
use Rattle.flow_link.specs.declared.traits.WishAnswer.{WishAnswer}
use Rattle.flow_link.specs.declared.traits.WishAnswer.TheVariants as answer
use Rattle.flow_link.specs.Lists.{is_empty}
use Rattle.flow_intake.specs.Port.{EndState, PortState, fresh_end, end_in, link_in, stage_at, has_room}
use Rattle.flow_intake.specs.Calls.{answer_to, answer_where, put_stage, refused_by, message_of, is_postponed, consumes, is_at as is_place}
use Rattle.flow_intake.specs.ByLink.{place_of, with_link_at, arrives_at, answered, closes_link, drops, drops_at, wish_from, wish_at, consumes_at}
use Rattle.flow_intake.proofs.AnswersTell.{declining_is_refusing}
use Rattle.flow_block.specs.Traits.{port_shown, shown_over, has_link, names_itself, holds_at, notes}
use Rattle.flow_link.proofs.PlacesNamed.{place_set, place_more, place_new}

-- The stages at one port

pub found : (link : ℕ) (ends : List EndState) (place : ℕ) → place_of link ends ≡ Some place → (place < length ends) × (link_in place ends ≡ link)
found link ends place at =
    let first = position-Some (λ end. end.link == link) ends place (fresh_end 0) at in
    (first.0, eqb-true (link_in place ends) link first.1)

-- it has ends of the same links, but that there may be a first one of this link
pub record SameLinks (link : ℕ) (old new : PortState) : Type 0 where
  pub others : (other : ℕ) → other ≢ link → has_link other new ≡ has_link other old
  pub own : has_link link old ≡ true → has_link link new ≡ true

pub links_stay : (link : ℕ) (port : PortState) → SameLinks link port port
links_stay link port = record { others = λ other apart. refl; own = λ was. was }

-- at one link to this stage, and nowhere else
pub record PortMoves (stage : TargetStage) (link : ℕ) (old new : PortState) : Type 0 where
  pub links : SameLinks link old new
  pub here : shown_over new link ≡ stage
  pub elsewhere : (other : ℕ) → other ≢ link → shown_over new other ≡ shown_over old other

module _ (old new : PortState) (place link : ℕ) (stage : TargetStage) (at : place_of link old.ends ≡ Some place)
    (ends_are : new.ends ≡ put_stage place stage old.ends) (same : new.refusing ≡ old.refusing) where
  there : place < length old.ends
  there = (found link old.ends place at).0

  places_stay : (other : ℕ) → place_of other new.ends ≡ place_of other old.ends
  places_stay other =
      rw ends_are (place_set (λ end. end.link == other) old.ends place (record (end_in place old.ends) { stage = stage }) (fresh_end 0) refl)

  stage_here : stage_at place new ≡ stage
  stage_here = rw ends_are (ap (λ (end : EndState). end.stage)
      (get_or-set_same old.ends place (record (end_in place old.ends) { stage = stage }) (fresh_end 0) there))

  stage_there : (k : ℕ) → k ≢ place → stage_at k new ≡ stage_at k old
  stage_there k apart = rw ends_are (ap (λ (end : EndState). end.stage)
      (get_or-set_other old.ends place k (record (end_in place old.ends) { stage = stage }) (fresh_end 0) apart))

  stays_at : (other : ℕ) → other ≢ link → (k : Option ℕ) → place_of other old.ends ≡ k → port_shown k new ≡ port_shown k old
  stays_at other apart None e = ap refused_by same
  stays_at other apart (Some k) e = stage_there k (λ one.
      let mine : link_in place old.ends ≡ other = ap (λ (n : ℕ). link_in n old.ends) (sym one) ∙ (found other old.ends k e).1 in
      apart (sym mine ∙ (found link old.ends place at).1))

  pub port_moves : PortMoves stage link old new
  port_moves = record {
    links = record { others = λ other apart. ap is_some (places_stay other); own = λ was. ap is_some (places_stay link) ∙ was };
    here = ap (λ (k : Option ℕ). port_shown k new) (places_stay link ∙ at) ∙ stage_here;
    elsewhere = λ other apart.
        ap (λ (k : Option ℕ). port_shown k new) (places_stay other) ∙ stays_at other apart (place_of other old.ends) refl;
  }

-- A new link

front_read : (ends : List EndState) (end : EndState) (place : ℕ) → place < length ends → end_in place (ends ++ end ∷ []) ≡ end_in place ends
front_read [] end place below = absurd (omega arith)
front_read (first ∷ ends) end zero below = refl
front_read (first ∷ ends) end (suc place) below = front_read ends end place (omega arith)

module _ (port : PortState) (link : ℕ) (new_link : place_of link port.ends ≡ None) where
  abbrev known : PortState
  known = record port { ends = port.ends ++ fresh_end link ∷ [] }

  pub place_known : place_of link known.ends ≡ Some (length port.ends)
  place_known = place_new (λ end. end.link == link) port.ends (fresh_end link) (eq-eqb link link refl) new_link

  stays_known : (other : ℕ) (k : Option ℕ) → place_of other port.ends ≡ k → port_shown k known ≡ port_shown k port
  stays_known other None e = refl
  stays_known other (Some k) e = ap (λ (end : EndState). end.stage) (front_read port.ends (fresh_end link) k (found other port.ends k e).0)

  place_other : (other : ℕ) → other ≢ link → place_of other known.ends ≡ place_of other port.ends
  place_other other apart =
      let differ : (link == other) ≡ false = false_from_ne_true (link == other) (λ e. apart (sym (eqb-true link other e))) in
      place_more (λ end. end.link == other) port.ends (fresh_end link) differ

  pub has_known : (other : ℕ) → other ≢ link → has_link other known ≡ has_link other port
  has_known other apart = ap is_some (place_other other apart)

  pub shown_known : (other : ℕ) → other ≢ link → shown_over known other ≡ shown_over port other
  shown_known other apart =
      ap (λ (k : Option ℕ). port_shown k known) (place_other other apart) ∙ stays_known other (place_of other port.ends) refl

-- The answer to an offer

-- an end with the link takes its place
stands_new : (old new : PortState) (link : ℕ) (place : Option ℕ) (stage : TargetStage) → place_of link old.ends ≡ place
    → new.ends ≡ put_stage (unwrap_or place (length old.ends)) stage (with_link_at place link old).ends
    → new.refusing ≡ (with_link_at place link old).refusing → PortMoves stage link old new
stands_new old new link (Some place) stage at ends_are same = port_moves old new place link stage at ends_are same
stands_new old new link None stage at ends_are same =
    let moved = port_moves (record old { ends = old.ends ++ fresh_end link ∷ [] }) new (length old.ends) link stage (place_known old link at) ends_are same in
    record {
      links = record {
        others = λ other apart. moved.links.others other apart ∙ has_known old link at other apart;
        own = λ was. absurd (let none : has_link link old ≡ false = ap is_some at in cc);
      };
      here = moved.here;
      elsewhere = λ other apart. moved.elsewhere other apart ∙ shown_known old link at other apart;
    }

never_declined : (refusing : Option Refusal) (reserves free : Bool) → answer_where refusing reserves free status.Postponed ≡ status.Declined → ⊥
never_declined (Some _) reserves free e = cc
never_declined None true free e = cc
never_declined None false true e = cc
never_declined None false false e = cc

never_postponed : (refusing : Option Refusal) (reserves free : Bool) → answer_where refusing reserves free status.Declined ≡ status.Postponed → ⊥
never_postponed (Some _) reserves free e = cc
never_postponed None true free e = cc
never_postponed None false true e = cc
never_postponed None false false e = cc

never_gone : (refusing : Option Refusal) (reserves free may_postpone : Bool)
    → answer_where refusing reserves free (cond may_postpone status.Postponed status.Declined) ≡ status.NotAvailable → ⊥
never_gone (Some _) reserves free may_postpone e = cc
never_gone None true free true e = cc
never_gone None true free false e = cc
never_gone None false true may_postpone e = cc
never_gone None false false true e = cc
never_gone None false false false e = cc

refused_has : (refusing : Option Refusal) → is_some refusing ≡ true → HasRefused (refused_by refusing)
refused_has (Some why) e = tt
refused_has None e = absurd (cc)

refused_not_free : (refusing : Option Refusal) → is_some refusing ≡ true → refused_by refusing ≡ target.Free → ⊥
refused_not_free (Some why) e free = cc
refused_not_free None e free = cc

-- at one link from one stage to another, and nowhere else
pub record PortChanges (Move : TargetStage → TargetStage → Type 0) (link : ℕ) (old new : PortState) : Type 0 where
  pub links : SameLinks link old new
  pub moves : MovesBy Move link (shown_over old) (shown_over new)

-- to a stage of which this holds
moves_so : (Holds : TargetStage → Type 0) {stage : TargetStage} {link : ℕ} {old new : PortState} → PortMoves stage link old new → Holds stage
    → PortChanges (λ _ now. Holds now) link old new
moves_so Holds moved holds = record {
  links = moved.links;
  moves = record { here = subst Holds (sym moved.here) holds; elsewhere = moved.elsewhere };
}

abbrev pub Answers : Bool → MessageStatus → ℕ → ℕ → PortState → PortState → Type 0
Answers may_postpone status header link = PortChanges (λ _ stage. StandsAfter may_postpone status header stage) link

closes_moves : (port : PortState) (link header : ℕ) (may_postpone : Bool) (place : Option ℕ) → place_of link port.ends ≡ place
    → port_shown place port ≡ target.Free → is_some port.refusing ≡ true
    → Answers may_postpone status.DecliningPermanently header link port (closes_link place port)
closes_moves port link header may_postpone (Some k) at free refusing =
    moves_so (λ stage. StandsAfter may_postpone status.DecliningPermanently header stage)
    (port_moves port (closes_link (Some k) port) k link (refused_by port.refusing) at refl refl) (refused_has port.refusing refusing)
closes_moves port link header may_postpone None at free refusing = absurd (refused_not_free port.refusing refusing free)

pub answer_moves : (port : PortState) (link header : ℕ) (may_postpone : Bool) → shown_over port link ≡ target.Free
    → (status : MessageStatus) → answer_to may_postpone port ≡ status
    → Answers may_postpone status header link port (answered link header status port)
answer_moves port link header may_postpone free status.Accepted is =
    moves_so (λ stage. StandsAfter may_postpone status.Accepted header stage)
    (stands_new port (answered link header status.Accepted port) link (place_of link port.ends) (target.Accepted header) refl refl refl) refl
answer_moves port link header true free status.Postponed is =
    moves_so (λ stage. StandsAfter true status.Postponed header stage)
    (stands_new port (answered link header status.Postponed port) link (place_of link port.ends) (target.Postponed header) refl refl refl) refl
answer_moves port link header false free status.Postponed is =
    absurd (never_postponed port.refusing port.reserves (has_room port && is_empty port.queue) is)
answer_moves port link header may_postpone free status.DecliningPermanently is =
    closes_moves port link header may_postpone (place_of link port.ends) refl free (declining_is_refusing may_postpone port is)
answer_moves port link header true free status.Declined is =
    absurd (never_declined port.refusing port.reserves (has_room port && is_empty port.queue) is)
answer_moves port link header false free status.Declined is =
    record { links = links_stay link port; moves = record { here = free; elsewhere = λ other apart. refl } }
answer_moves port link header may_postpone free status.NotAvailable is =
    absurd (never_gone port.refusing port.reserves (has_room port && is_empty port.queue) may_postpone is)

-- A message that comes

not_wanted : (header : ℕ) (refusing : Option Refusal) → Wants header (refused_by refusing) → ⊥
not_wanted header (Some why) wants = wants
not_wanted header None wants = wants

pub arrive_moves : (port : PortState) (link header : ℕ) (value : Value) (place : Option ℕ) → place_of link port.ends ≡ place
    → Wants header (port_shown place port) → PortMoves target.Free link port (arrives_at place value port)
arrive_moves port link header value (Some k) at wants = port_moves port (arrives_at (Some k) value port) k link target.Free at refl refl
arrive_moves port link header value None at wants = absurd (not_wanted header port.refusing wants)

-- The answer to a wish

pub not_noted : (answer : WishAnswer) (refusing : Option Refusal) → MayNote answer (refused_by refusing) → ⊥
not_noted answer.Coming (Some why) may = may
not_noted answer.Coming None may = may
not_noted answer.Held (Some why) may = may
not_noted answer.Held None may = may
not_noted answer.NotAvailable (Some why) may = may
not_noted answer.NotAvailable None may = may
not_noted answer.Withdrawn (Some why) may = may
not_noted answer.Withdrawn None may = may

held_moves : (port : PortState) (link : ℕ) (place : Option ℕ) → place_of link port.ends ≡ place → MayNote answer.Held (port_shown place port)
    → PortMoves (stage_noted answer.Held (port_shown place port)) link port (holds_at place port)
held_moves port link (Some k) at may = port_moves port (holds_at (Some k) port) k link (stage_noted answer.Held (stage_at k port)) at refl refl
held_moves port link None at may = absurd (not_noted answer.Held port.refusing may)

drop_moves : (port : PortState) (link : ℕ) (place : Option ℕ) → place_of link port.ends ≡ place → (answer : WishAnswer)
    → MayNote answer (port_shown place port) → PortMoves target.Free link port (drops_at place port)
drop_moves port link (Some k) at answer may = port_moves port (drops_at (Some k) port) k link target.Free at refl refl
drop_moves port link None at answer may = absurd (not_noted answer port.refusing may)

pub drops_noted : (port : PortState) (link : ℕ) (how : WishAnswer) → (how ≡ answer.NotAvailable) ⊎ (how ≡ answer.Withdrawn)
    → drops link port ≡ notes how link port
drops_noted port link how (inl e) = sym (ap (λ (a : WishAnswer). notes a link port) e)
drops_noted port link how (inr e) = sym (ap (λ (a : WishAnswer). notes a link port) e)

pub note_moves : (port : PortState) (link : ℕ) (answer : WishAnswer) → MayNote answer (shown_over port link)
    → PortMoves (stage_noted answer (shown_over port link)) link port (notes answer link port)
note_moves port link answer.Coming may = record { links = links_stay link port; here = refl; elsewhere = λ other apart. refl }
note_moves port link answer.Held may = held_moves port link (place_of link port.ends) refl may
note_moves port link answer.NotAvailable may = drop_moves port link (place_of link port.ends) refl answer.NotAvailable may
note_moves port link answer.Withdrawn may = drop_moves port link (place_of link port.ends) refl answer.Withdrawn may

-- What it consumes

pub at_place : (k : ℕ) (place : Option ℕ) → is_place k place ≡ true → place ≡ Some k
at_place k None e = absurd (cc)
at_place k (Some j) e = ap Some (eqb-true j k e)

record IsWish (link k : ℕ) (port : PortState) : Type 0 where
  pub id : ℕ
  pub stage : stage_at k port ≡ target.Postponed id
  pub named : link_in k port.ends ≡ link

wish_tells : (port : PortState) (k link id : ℕ) (own : ℕ) (stage : TargetStage) → stage_at k port ≡ stage → link_in k port.ends ≡ own
    → wish_from own stage ≡ Some (link, id) → IsWish link k port
wish_tells port k link id own (target.Postponed i) at is e = record { id = i; stage = at; named = is ∙ ap (λ (o : Option (ℕ × ℕ)). (unwrap_or o (0, 0)).0) e }
wish_tells port k link id own target.Free at is e = absurd (cc)
wish_tells port k link id own (target.Offered _) at is e = absurd (cc)
wish_tells port k link id own (target.Posted _) at is e = absurd (cc)
wish_tells port k link id own (target.Accepted _) at is e = absurd (cc)
wish_tells port k link id own (target.Consuming _) at is e = absurd (cc)
wish_tells port k link id own (target.Asking _) at is e = absurd (cc)
wish_tells port k link id own (target.Holding _) at is e = absurd (cc)
wish_tells port k link id own (target.Claiming _) at is e = absurd (cc)
wish_tells port k link id own (target.Arrived _) at is e = absurd (cc)
wish_tells port k link id own (target.Hand _) at is e = absurd (cc)
wish_tells port k link id own (target.Refused _) at is e = absurd (cc)
wish_tells port k link id own (target.Ended _) at is e = absurd (cc)

-- the port consumes over this link
pub consume_at : (port : PortState) (link id : ℕ) (place : Option ℕ) → names_itself place port ≡ true → wish_at place port ≡ Some (link, id)
    → PortChanges Consumes link port (consumes_at place port)
consume_at port link id None own e = absurd (cc)
consume_at port link id (Some k) own e =
    let wish = wish_tells port k link id (link_in k port.ends) (stage_at k port) refl refl e in
    let at : place_of link port.ends ≡ Some k =
    subst (λ (l : ℕ). place_of l port.ends ≡ Some k) wish.named (at_place k (place_of (link_in k port.ends) port.ends) own) in
    let moved = port_moves port (consumes k port) k link (target.Consuming (message_of (stage_at k port))) at refl refl in
    let consumed : consumes_at (Some k) port ≡ consumes k port = ap (λ (s : TargetStage). cond (is_postponed s) (consumes k port) port) wish.stage in
    let before : shown_over port link ≡ target.Postponed wish.id = ap (λ (p : Option ℕ). port_shown p port) at ∙ wish.stage in
    let after : shown_over (consumes k port) link ≡ target.Consuming wish.id = moved.here ∙ ap (λ (s : TargetStage). target.Consuming (message_of s)) wish.stage in
    subst (λ (new : PortState). PortChanges Consumes link port new) (sym consumed)
    (record {
      links = moved.links;
      moves = record { here = subst (λ (s : TargetStage). Consumes s (shown_over (consumes k port) link)) (sym before) after; elsewhere = moved.elsewhere };
    })
