-- Where its exits are in order, a block stands at each link out of it as its end does.
use Rattle.std.proofs.Common.{◌≡◌, ℕ, ◌<◌, ◌==◌, ltb, Bool, true, false, not, ◌&&◌, ◌||◌, cond, List, [], ◌∷◌, length, Option, Some, None, is_some, refl, ap, sym, ◌∙◌, subst, arith, eq-eqb}
use Rattle.std.proofs.lemmas.Bool.{OnTrue_at, and_parts, and_from, false_from_ne_true, not-true, lt-ltb, ltb-true}
use Rattle.flow_value.specs.declared.value.Value.{Value}
use Rattle.flow_value.specs.declared.when.When.{When}
use Rattle.flow_link.specs.LinkOk.{IsWithin, HasRoom}
use Rattle.flow_link.specs.SourceCalls.{MayConsume, MayReserve, is_under_way}
use Rattle.flow_link.specs.declared.stage.SourceStage.{SourceStage}
use Rattle.flow_link.specs.declared.stage.SourceStage.TheVariants as source
use Rattle.flow_link.specs.declared.trace.Outcome.{Outcome}
use Rattle.flow_outlet.specs.End.{end_in, is_out, is_spoken_for, is_cut, is_limit, is_over, is_passed, is_free, speaks_of, rejects, place_in}
use Rattle.flow_outlet.specs.Outlet.{OutletState, end_at, stage_at, is_at, is_empty, first_of, head_of, is_held_back, may_offer, out_at, has_offer_out}
use Rattle.flow_outlet.specs.ByLink.{has_room, is_head, is_kept_elsewhere, is_there, is_taken, is_waiting_for, reserved, tests_take, tests_consume, tests_reserve}
use Rattle.flow_outlet.specs.Law.{OutletLaw, admits_head}
use Rattle.flow_outlet.proofs.OffersInOrder.{stops_there}
use Rattle.flow_outlet.proofs.StagesTell.{speaks_id}
use Rattle.flow_outlet.proofs.TestsTell.{at_is}
use Rattle.flow_block_law.specs.Stands.{without_gone, OwnEnds, BlocksStandInOrder}
use Rattle.flow_block.specs.Traits.{is_ready, source_shown, place_shown, source_over, busy_by, carries, offers_over, may_take, may_keep, is_busy}
use Rattle.flow_block.proofs.SourceStands.{all_four, shown_known, may_where}

pub admits_there : (when : When) (head : Option Value) → admits_head when head ≡ true → is_some head ≡ true
admits_there when None e = absurd (cc)
admits_there when (Some _) e = refl

not_empty : (left : List Value) → is_some (first_of left) ≡ true → is_empty left ≡ false
not_empty [] e = absurd (cc)
not_empty (_ ∷ _) e = refl

pub room_for : (max : Option ℕ) (given : ℕ) → HasRoom max given → has_room max given ≡ true
room_for None given room = refl
room_for (Some max) given room = lt-ltb given max room

room_where : (max : Option ℕ) (given : ℕ) → IsWithin max given → is_limit max given ≡ false → has_room max given ≡ true
room_where None given within cut = refl
room_where (Some max) given within cut =
    lt-ltb given max (let other : given ≡ max → ⊥ = λ e. (let same : (given == max) ≡ true = eq-eqb given max e in cc) in omega (arith, within, other))

-- what a link may consume, where its message is not gone, waits
waits_where : (head busy : Bool) (header i : ℕ) → MayConsume header busy (cond head (source.Waiting i) source.Free) → (head ≡ true) × (busy ≡ false)
waits_where true busy header i may = (refl, may.1)
waits_where false busy header i may = absurd may

reserves_where : (head busy : Bool) (header i : ℕ) → MayReserve header busy (cond head (source.Waiting i) source.Free)
    → (head ≡ true) × ((i ≡ header) × (busy ≡ false))
reserves_where true busy header i may = (refl, may)
reserves_where false busy header i may = absurd may

-- what is asked of a message that is to be kept, where only whether it is kept for another is open
keeps_by : (there waits out head take some at kept : Bool) → kept ≡ (some && not at && not out) → there ≡ true → waits ≡ true
    → out ≡ false → head ≡ true → (kept ≡ false → some ≡ false) → (kept ≡ false → take ≡ true)
    → (((there && waits && not out) && (there && (not (head && not kept) || take))) && (head && not some)) ≡ not kept
keeps_by true true false true true false at false is t w o h none takes = refl
keeps_by true true false true false false at false is t w o h none takes = absurd (let wrong : false ≡ true = takes refl in cc)
keeps_by true true false true take true at false is t w o h none takes = absurd (let wrong : true ≡ false = none refl in cc)
keeps_by true true false true take true at true is t w o h none takes = refl
keeps_by true true false true take false at true is t w o h none takes = absurd (cc)
keeps_by true true false false take some at kept is t w o h none takes = absurd (cc)
keeps_by true true true head take some at kept is t w o h none takes = absurd (cc)
keeps_by true false out head take some at kept is t w o h none takes = absurd (cc)
keeps_by false waits out head take some at kept is t w o h none takes = absurd (cc)

all_three : (a b c : Bool) → a ≡ true → b ≡ true → c ≡ true → (a && b && c) ≡ true
all_three a b c p q r = rw (p, q, r) refl

taken_where : (there head take : Bool) → there ≡ true → (head ≡ true → take ≡ true) → ((there && (not head || take)) && head) ≡ head
taken_where true true take is all = ap (λ (t : Bool). t && true) (all refl)
taken_where true false take is all = refl
taken_where false head take is all = absurd (cc)

-- what is spoken for at no other end, and kept for no other, is spoken for nowhere
spoken_nowhere : (some at out : Bool) → (some && not at && not out) ≡ false → at ≡ false → out ≡ false → some ≡ false
spoken_nowhere false at out kept here offered = refl
spoken_nowhere true false false kept here offered = absurd (cc)
spoken_nowhere true true out kept here offered = absurd (cc)
spoken_nowhere true at true kept here offered = absurd (cc)

-- a message of which an end speaks is there, and may cross
record IsThere (k : ℕ) (o : OutletState) : Type 0 where
  pub some : is_empty o.left ≡ false
  pub parcel : is_some o.parcel ≡ true
  pub room : has_room (end_at o k).rule.max (end_at o k).given ≡ true

module _ {pending : Bool} {stopped : Option Outcome} (o : OutletState) (law : OutletLaw pending stopped o) (own : OwnEnds o) (k : ℕ) (l : k < length o.ends) where
  speaking : speaks_of o.next (stage_at o k) ≡ true → IsThere k o
  speaking speaks =
      let end = law.each k l in
      let head : is_some (head_of o) ≡ true = admits_there (end_at o k).rule.when (head_of o) (OnTrue_at speaks end.admitted) in
      record {
        some = not_empty o.left head;
        parcel = ap is_some (law.ready k l speaks) ∙ head;
        room = room_for (end_at o k).rule.max (end_at o k).given (end.room o.next (speaks_id o.next (stage_at o k) speaks));
      }

  -- what is spoken for is ready to be given
  ready : is_spoken_for (stage_at o k) ≡ true → is_ready k (end_at o k) o ≡ true
  ready spoken =
      let end = law.each k l in
      let offer : o.offer ≡ Some k = OnTrue_at spoken end.out in
      let there = speaking (OnTrue_at spoken end.out_head) in
      all_four (is_at o.offer k) (not (is_empty o.left)) (is_some o.parcel) (has_room (end_at o k).rule.max (end_at o k).given)
      (ap (λ (f : Option ℕ). is_at f k) offer ∙ eq-eqb k k refl) (ap not there.some) there.parcel there.room

  -- and it is the head
  ready_head : (stage : SourceStage) → stage_at o k ≡ stage → is_spoken_for stage ≡ true
      → (is_ready k (end_at o k) o && speaks_of o.next stage) ≡ true
  ready_head stage is spoken =
      let now : is_spoken_for (stage_at o k) ≡ true = ap is_spoken_for is ∙ spoken in
      ap (λ (r : Bool). r && speaks_of o.next stage) (ready now)
      ∙ ap (speaks_of o.next) (sym is) ∙ OnTrue_at now (law.each k l).out_head

  shown_at : (stage : SourceStage) → stage_at o k ≡ stage
      → source_shown (is_ready k (end_at o k) o) o.next stage ≡ without_gone o.next stage
  shown_at (source.Out i) is =
      ap (λ (both : Bool). cond both (source.Out i) source.Crossing) (ready_head (source.Out i) is refl)
  shown_at (source.Accepted i) is =
      ap (λ (both : Bool). cond both (source.Accepted i) source.Crossing) (ready_head (source.Accepted i) is refl)
  shown_at (source.Reserved i) is =
      ap (λ (both : Bool). cond both (source.Reserved i) source.Crossing) (ready_head (source.Reserved i) is refl)
  shown_at (source.Waiting _) is = refl
  shown_at source.Free is = refl
  shown_at (source.Posted _) is = refl
  shown_at (source.Wished _) is = refl
  shown_at (source.AskedBy _) is = refl
  shown_at (source.Claimed _) is = refl
  shown_at source.Crossing is = refl
  shown_at source.Refused is = refl
  shown_at (source.Ended _) is = refl

  stages_at : source_over o (end_at o k).rule.id ≡ without_gone o.next (stage_at o k)
  stages_at = ap (λ (n : ℕ). place_shown n o) (own k l) ∙ shown_known o k l ∙ shown_at (stage_at o k) refl

out_under_way : (next : ℕ) (stage : SourceStage) → is_out stage ≡ true → is_under_way (without_gone next stage) ≡ true
out_under_way next (source.Out _) e = refl
out_under_way next (source.Accepted _) e = refl
out_under_way next stage e = absurd (cc)

module _ {pending : Bool} {stopped : Option Outcome} (o : OutletState) (law : OutletLaw pending stopped o) (own : OwnEnds o) where
  busy_by_offer : (offer : Option ℕ) → o.offer ≡ offer → out_at o offer ≡ true → is_busy o ≡ true
  busy_by_offer None is out = absurd (cc)
  busy_by_offer (Some k) is out =
      ap (busy_by o) is
      ∙ ap is_under_way (stages_at o law own k (law.offer_there k is))
      ∙ out_under_way o.next (stage_at o k) out

  busy_at : has_offer_out o ≡ true → is_busy o ≡ true
  busy_at out = busy_by_offer o.offer refl out

  -- a message that waits over a link and is there for it is spoken for nowhere, unless an offer is out
  none_spoken : is_busy o ≡ false → (k i : ℕ) → stage_at o k ≡ source.Waiting i → is_kept_elsewhere k o ≡ false
      → is_some o.offer ≡ false
  none_spoken rests k i waits kept =
      spoken_nowhere (is_some o.offer) (is_at o.offer k) (has_offer_out o) kept
      (false_from_ne_true (is_at o.offer k) (λ at.
      let spoken : is_spoken_for (stage_at o k) ≡ true = law.offer_out k (at_is o.offer k at) in
      let wrong : false ≡ true = sym (ap is_spoken_for waits) ∙ spoken in cc))
      (false_from_ne_true (has_offer_out o) (λ out. let wrong : false ≡ true = sym rests ∙ busy_at out in cc))

  offers_at_own : (k : ℕ) → may_offer o ≡ Some k → offers_over o (may_offer o) ≡ Some k
  offers_at_own k may =
      let n = place_in o.next (head_of o) o.ends in
      let told = may_where (is_empty o.left) (is_held_back o) (ltb n (length o.ends)) (is_free (stage_at o n)) n k may in
      let near : n < length o.ends = ltb-true n (length o.ends) told.known in
      let l : k < length o.ends = subst (λ (m : ℕ). m < length o.ends) told.place_is near in
      let stops : is_passed o.next (head_of o) (end_at o k) ≡ false =
      subst (λ (m : ℕ). is_passed o.next (head_of o) (end_in o.ends m) ≡ false) told.place_is (stops_there o.next (head_of o) o.ends near) in
      let not_cut = closed_of (is_over (stage_at o k)) (is_cut (end_at o k)) (speaks_of o.next (stage_at o k)) ((end_at o k).declined == o.next)
      (rejects (end_at o k).rule.when (head_of o)) stops in
      let room = room_where (end_at o k).rule.max (end_at o k).given (law.each k l).within not_cut in
      let carried : carries k o.ends ≡ true =
      ap (λ (m : ℕ). (m == k) && has_room (end_at o k).rule.max (end_at o k).given) (own k l)
      ∙ ap (λ (b : Bool). b && has_room (end_at o k).rule.max (end_at o k).given) (eq-eqb k k refl) ∙ room in
      ap (offers_over o) may ∙ ap (λ (b : Bool). cond b (Some k) None) carried
    where
      closed_of : (over cut speaks declined rejected : Bool) → ((over || cut) || speaks || declined || rejected) ≡ false → cut ≡ false
      closed_of true cut speaks declined rejected e = absurd (cc)
      closed_of false true speaks declined rejected e = absurd (cc)
      closed_of false false speaks declined rejected e = refl

  module _ (k : ℕ) (l : k < length o.ends) (header : ℕ) where
    take_at : is_taken o.next (is_some o.offer) (stage_at o k) ≡ true → speaks_of o.next (stage_at o k) ≡ true → tests_take k o ≡ true
    take_at taken speaks =
        let there = speaking o law own k l speaks in
        all_three (is_taken o.next (is_some o.offer) (stage_at o k)) (is_some o.parcel) (has_room (end_at o k).rule.max (end_at o k).given)
        taken there.parcel there.room

    take_spoken : (stage : SourceStage) → stage_at o k ≡ stage → is_spoken_for stage ≡ true
        → (speaks_of o.next stage ≡ true → is_taken o.next (is_some o.offer) stage ≡ true) → tests_take k o ≡ true
    take_spoken stage is spoken takes =
        let speaks : speaks_of o.next (stage_at o k) ≡ true =
        OnTrue_at (ap is_spoken_for is ∙ spoken) (law.each k l).out_head in
        take_at (ap (is_taken o.next (is_some o.offer)) is ∙ takes (ap (speaks_of o.next) (sym is) ∙ speaks)) speaks

    -- nobody else has a message that waits over the link
    take_waiting : (i : ℕ) → stage_at o k ≡ source.Waiting i → (i == o.next) ≡ true → is_busy o ≡ false → is_kept_elsewhere k o ≡ false
        → tests_take k o ≡ true
    take_waiting i is head rests own_message =
        let out : is_some o.offer ≡ false = none_spoken rests k i is own_message in
        take_at
        (ap (is_taken o.next (is_some o.offer)) is ∙ ap (λ (h : Bool). h && not (is_some o.offer)) head ∙ ap not out)
        (ap (speaks_of o.next) is ∙ head)

    take_where : (stage : SourceStage) → stage_at o k ≡ stage → MayConsume header (is_busy o) (without_gone o.next stage)
        → is_there k header o ≡ true → tests_take k o ≡ true
    take_where (source.Accepted i) is may there = take_spoken (source.Accepted i) is refl (λ head. head)
    take_where (source.Reserved i) is may there = take_spoken (source.Reserved i) is refl (λ head. head)
    take_where (source.Waiting i) is may there =
        let waits = waits_where (i == o.next) (is_busy o) header i may in
        take_waiting i is waits.0 waits.1
        (not-true (is_kept_elsewhere k o) (and_parts (is_head header o) (not (is_kept_elsewhere k o)) there).1)
    take_where source.Free is may there = absurd may
    take_where (source.Posted _) is may there = absurd may
    take_where (source.Out _) is may there = absurd may
    take_where (source.Wished _) is may there = absurd may
    take_where (source.AskedBy _) is may there = absurd may
    take_where (source.Claimed _) is may there = absurd may
    take_where source.Crossing is may there = absurd may
    take_where source.Refused is may there = absurd may
    take_where (source.Ended _) is may there = absurd may

    gives_at : MayConsume header (is_busy o) (source_over o (end_at o k).rule.id)
        → may_take (end_at o k).rule.id header o ≡ is_there k header o
    gives_at may =
        let mine = subst (λ (s : SourceStage). MayConsume header (is_busy o) s) (stages_at o law own k l) may in
        ap (λ (n : ℕ). tests_consume n header o && is_there n header o) (own k l)
        ∙ taken_where (ltb k (length o.ends)) (is_there k header o) (tests_take k o) (lt-ltb k (length o.ends) l)
        (λ there. take_where (stage_at o k) refl mine there)

    -- What may be kept for a link

    keeps_waiting : (i : ℕ) → stage_at o k ≡ source.Waiting i → i ≡ header → (i == o.next) ≡ true → is_busy o ≡ false
        → ((tests_reserve k header o && tests_consume k header o) && reserved header o) ≡ not (is_kept_elsewhere k o)
    keeps_waiting i is same head rests =
        keeps_by (ltb k (length o.ends)) (is_waiting_for header (stage_at o k)) (has_offer_out o) (is_head header o) (tests_take k o)
        (is_some o.offer) (is_at o.offer k) (is_kept_elsewhere k o) refl (lt-ltb k (length o.ends) l)
        (ap (is_waiting_for header) is ∙ eq-eqb i header same)
        (false_from_ne_true (has_offer_out o) (λ out. let wrong : false ≡ true = sym rests ∙ busy_at out in cc))
        (and_from (header == o.next) (not (is_empty o.left)) (ap (λ (n : ℕ). n == o.next) (sym same) ∙ head)
        (ap not (speaking o law own k l (ap (speaks_of o.next) is ∙ head)).some))
        (λ own_message. none_spoken rests k i is own_message)
        (λ own_message. take_waiting i is head rests own_message)

    keeps_where : (stage : SourceStage) → stage_at o k ≡ stage → MayReserve header (is_busy o) (without_gone o.next stage)
        → ((tests_reserve k header o && tests_consume k header o) && reserved header o) ≡ not (is_kept_elsewhere k o)
    keeps_where (source.Waiting i) is may =
        let waits = reserves_where (i == o.next) (is_busy o) header i may in
        keeps_waiting i is waits.1.0 waits.0 waits.1.1
    keeps_where (source.Accepted _) is may = absurd may
    keeps_where (source.Reserved _) is may = absurd may
    keeps_where source.Free is may = absurd may
    keeps_where (source.Posted _) is may = absurd may
    keeps_where (source.Out _) is may = absurd may
    keeps_where (source.Wished _) is may = absurd may
    keeps_where (source.AskedBy _) is may = absurd may
    keeps_where (source.Claimed _) is may = absurd may
    keeps_where source.Crossing is may = absurd may
    keeps_where source.Refused is may = absurd may
    keeps_where (source.Ended _) is may = absurd may

    keeps_at : MayReserve header (is_busy o) (source_over o (end_at o k).rule.id)
        → may_keep (end_at o k).rule.id header o ≡ not (is_kept_elsewhere k o)
    keeps_at may =
        ap (λ (n : ℕ). (tests_reserve n header o && tests_consume n header o) && reserved header o) (own k l)
        ∙ keeps_where (stage_at o k) refl (subst (λ (s : SourceStage). MayReserve header (is_busy o) s) (stages_at o law own k l) may)

pub stands_in_order : BlocksStandInOrder
stands_in_order pending stopped o = record {
  stages = λ law own k l. stages_at o law own k l;
  gives = λ law own k l header may. gives_at o law own k l header may;
  keeps = λ law own k l header may. keeps_at o law own k l header may;
  busy = λ law own out. busy_at o law own out;
  offers = λ law own k may. offers_at_own o law own k may;
}
