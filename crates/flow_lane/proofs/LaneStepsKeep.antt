-- Each step of the lane keeps the rule of the table.
use Rattle.std.proofs.Common.{◌≡◌, ⊎_elim, inl, inr, ℕ, List, [], ◌∷◌, sym, refl, ap, ◌∙◌, subst, Option, Some}
use mathlib.Core.Option.{some, none}
use Rattle.atomic_table.specs.Table.{Me, keeps, takes, gives, Allows, step}
use Rattle.atomic_table.specs.Seated.{TableId}
use Rattle.flow_lane.specs.declared.phase.LanePhase.{LanePhase}
use Rattle.flow_lane.specs.declared.phase.LanePhase.TheVariants.{Free, Job, Working, Result, Fetching, Ended}
use Rattle.flow_lane.specs.Phase.{word_of_phase}
use Rattle.flow_lane.specs.Views.{BlockStage, LaneStage, LaneView, SeatView, Meet, FoundByLane, StandsAsLane, lane_in, is_working}
use Rattle.flow_lane.specs.Rule.{Home, AtJob}
use Rattle.flow_lane.specs.Sides.{LaneOf, lane_finds, lane_looked, opening, finishing}
use Rattle.flow_lane.specs.SideSeats.{lane_slots, lane_seat, lane_of}
use Rattle.flow_lane.specs.Plays.{lane_looks, opened, finished}
use Rattle.flow_lane.proofs.WordsDiffer.{words_tell}
use Rattle.flow_lane.proofs.StepsAllowed.{Rules, Stands, lane_allows, meets}

module _ {J : Type 0} where
  -- a look leaves the stage that the phase tells
  stands_at : (p : LanePhase) (b : BlockStage J) (l : LaneStage J) → Meet p b l → StandsAsLane p (lane_finds l p)
  stands_at Free b l meet = ap (λ (y : LaneStage J). lane_finds y Free) meet.1
  stands_at Job b l meet = ⊎_elim (λ (e : l ≡ LaneStage.idle). ap (λ (y : LaneStage J). lane_finds y Job) e) (λ (e : l ≡ LaneStage.arrived). ap (λ (y : LaneStage J). lane_finds y Job) e) meet.2
  stands_at Working b l meet = ap (λ (y : LaneStage J). is_working (lane_finds y Working)) meet.2
  stands_at Result b l meet = ap (λ (y : LaneStage J). lane_finds y Result) meet.2
  stands_at Fetching b l meet = ap (λ (y : LaneStage J). lane_finds y Fetching) meet.2
  stands_at Ended b l meet = ⊎_elim (λ (e : l ≡ LaneStage.idle). ap (λ (y : LaneStage J). lane_finds y Ended) e) (λ (e : l ≡ LaneStage.ended). ap (λ (y : LaneStage J). lane_finds y Ended) e) meet.1

module _ {J S : Type 0} where
  slots_after : (l : LaneStage J) (p : LanePhase) → lane_slots {S = S} (lane_finds l p) ≡ lane_slots l
  slots_after LaneStage.idle Job = refl
  slots_after LaneStage.idle Ended = refl
  slots_after LaneStage.idle _ = refl
  slots_after _ _ = refl

  pub is_now : (me : Me (Option S) (SeatView J)) (l : LaneView J) → me ≡ lane_seat l → me ≡ lane_seat (lane_in me.0)
  is_now me l now = now ∙ ap (λ (m : Me (Option S) (SeatView J)). lane_seat (lane_in m.0)) (sym now)

  pub looked_is : (me me' : Me (Option S) (SeatView J)) (p : LanePhase) → me ≡ lane_seat (lane_in me.0) → me' ≡ (SeatView.lane (lane_looked p (lane_in me.0)), me.1) → me' ≡ lane_seat (lane_in me'.0)
  looked_is me me' p is told = let l = lane_in me.0 in
      is_now me' (lane_looked p l) (told ∙ ap (λ (c : List (ℕ × Option S)). (SeatView.lane (lane_looked p l), c)) (ap (λ (m : Me (Option S) (SeatView J)). m.1) is ∙ sym (slots_after l.stage p)))

  pub look_tells : (table : TableId) (me : Me (Option S) (SeatView J)) (p q : LanePhase) (n : ℕ) (e : LaneOf J) → FoundByLane p (lane_in me.0).stage → n ≡ word_of_phase p → n ≡ word_of_phase q
      → lane_of table me ≡ e → FoundByLane q e.side.stage
  look_tells table me p q n e shown first second seen =
      subst (λ (x : LanePhase × LaneOf J). FoundByLane x.0 x.1.side.stage) (λ i. (words_tell p q (sym first ∙ second) i, seen i)) shown

  pub look_leaves : (me me' : Me (Option S) (SeatView J)) (p q : LanePhase) (n : ℕ) → FoundByLane p (lane_in me.0).stage → n ≡ word_of_phase p → n ≡ word_of_phase q
      → me' ≡ (SeatView.lane (lane_looked p (lane_in me.0)), me.1) → StandsAsLane q (lane_in me'.0).stage
  look_leaves me me' p q n shown first second told =
      subst (λ (x : LanePhase × Me (Option S) (SeatView J)). StandsAsLane x.0 (lane_in x.1.0).stage) (λ i. (words_tell p q (sym first ∙ second) i, sym told i)) (stands_at p shown.0 (lane_in me.0).stage shown.1)

  pub me_at : (me : Me (Option S) (SeatView J)) (stage : LaneStage J) → me ≡ lane_seat (lane_in me.0) → (lane_in me.0).stage ≡ stage → me ≡ (SeatView.lane (lane_in me.0), lane_slots stage)
  me_at me stage is at = is ∙ ap (λ (y : LaneStage J). (SeatView.lane (lane_in me.0), lane_slots y)) at

module _ {J Q R S : Type 0} (as_job : Q → S) (as_result : R → S) (of_job : Q → J) (of_result : R → J) where
  abbrev stand_at : LanePhase → Home S → BlockStage J → LaneStage J → Type 0
  stand_at = Stands as_job as_result of_job of_result

  look_stands : (p : LanePhase) (h : Home S) (b : BlockStage J) (l : LaneStage J) → stand_at p h b l → stand_at p h b (lane_finds l p)
  look_stands Job h b LaneStage.idle at = record { job = at.job; home_is = at.home_is; block = at.block; lane = inr refl }
  look_stands Ended h b LaneStage.idle at = record { home_is = at.home_is; block = at.block; lane = inr refl }
  look_stands Free h b LaneStage.idle at = at
  look_stands Working h b LaneStage.idle at = at
  look_stands Result h b LaneStage.idle at = at
  look_stands Fetching h b LaneStage.idle at = at
  look_stands p h b LaneStage.arrived at = at
  look_stands p h b (LaneStage.working j) at = at
  look_stands p h b LaneStage.ended at = at

  pub looks : (slots id : ℕ) (me : Me (Option S) (SeatView J)) → me ≡ lane_seat (lane_in me.0) → Allows (Rules as_job as_result of_job of_result) slots id me 0 (λ n. n) (lane_looks (step slots 0 0 0 none) me)
  looks slots id me is = let l = lane_in me.0 in lane_allows as_job as_result of_job of_result slots id me l (lane_slots l.stage) (λ n. n) (lane_looks (step slots 0 0 0 none)) is (λ p h b stand. record {
    side = lane_looked p l;
    act = keeps;
    next = p;
    home = h;
    valid = tt;
    homes_are = refl;
    word_is = refl;
    stand = look_stands p h b l.stage stand;
    told = (p, refl, refl, (b, meets as_job as_result of_job of_result p h b l.stage stand));
  })

  at_arrived : (p : LanePhase) (h : Home S) (b : BlockStage J) (l : LaneStage J) → l ≡ LaneStage.arrived → stand_at p h b l → AtJob as_job as_result of_job of_result h b l
  at_arrived Free h b l at stand = absurd (let e = sym at ∙ stand.lane in cc)
  at_arrived Job h b l at stand = stand
  at_arrived Working h b l at stand = absurd (let e = sym at ∙ stand.lane in cc)
  at_arrived Result h b l at stand = absurd (let e = sym at ∙ stand.lane in cc)
  at_arrived Fetching h b l at stand = absurd (let e = sym at ∙ stand.lane in cc)
  at_arrived Ended h b l at stand = absurd (⊎_elim (λ (x : l ≡ LaneStage.idle). let e = sym at ∙ x in cc) (λ (x : l ≡ LaneStage.ended). let e = sym at ∙ x in cc) stand.lane)

  at_working : (p : LanePhase) (h : Home S) (b : BlockStage J) (l : LaneStage J) (j : J) → l ≡ LaneStage.working j → stand_at p h b l → b ≡ BlockStage.sent j
  at_working Free h b l j at stand = absurd (let e = sym at ∙ stand.lane in cc)
  at_working Job h b l j at stand = absurd (⊎_elim (λ (x : l ≡ LaneStage.idle). let e = sym at ∙ x in cc) (λ (x : l ≡ LaneStage.arrived). let e = sym at ∙ x in cc) stand.lane)
  at_working Working h b l j at stand = let same : stand.job ≡ j = (let e = sym stand.lane ∙ at in cc) in stand.block ∙ ap (λ (y : J). BlockStage.sent y) same
  at_working Result h b l j at stand = absurd (let e = sym at ∙ stand.lane in cc)
  at_working Fetching h b l j at stand = absurd (let e = sym at ∙ stand.lane in cc)
  at_working Ended h b l j at stand = absurd (⊎_elim (λ (x : l ≡ LaneStage.idle). let e = sym at ∙ x in cc) (λ (x : l ≡ LaneStage.ended). let e = sym at ∙ x in cc) stand.lane)

  pub opens : (slots id : ℕ) (me : Me (Option S) (SeatView J)) (new : ℕ) → me ≡ lane_seat (lane_in me.0) → (lane_in me.0).stage ≡ LaneStage.arrived → new ≡ word_of_phase Working
      → Allows (Rules as_job as_result of_job of_result) slots id me 0 (λ _. new) (λ _. opened as_job as_result of_job of_result (step slots 0 new 0 none) me new)
  opens slots id me new is at named = let l = lane_in me.0 in lane_allows as_job as_result of_job of_result slots id me l [] (λ _. new) (λ m _. opened as_job as_result of_job of_result (step slots 0 new 0 none) m new) (me_at me LaneStage.arrived is at) (λ p h b stand.
      let here = at_arrived p h b l.stage at stand in record {
        side = opening (of_job here.job) l;
        act = takes 0 (Some (as_job here.job));
        next = Working;
        home = none;
        valid = ap some here.home_is;
        homes_are = refl;
        word_is = named;
        stand = record { job = of_job here.job; home_is = refl; block = here.block; lane = refl };
        told = (here.job, refl);
      })

  -- the result of the job in hand is laid in
  pub finishes : (slots id : ℕ) (me : Me (Option S) (SeatView J)) (l : LaneView J) (r : R) (new : ℕ) → me ≡ (SeatView.lane l, (0, Some (as_result r)) ∷ []) → l.stage ≡ LaneStage.working (of_result r) → new ≡ word_of_phase Result
      → Allows (Rules as_job as_result of_job of_result) slots id me 0 (λ _. new) (λ _. finished (step slots 0 new 0 none) me new)
  finishes slots id me l r new is at named = lane_allows as_job as_result of_job of_result slots id me l ((0, Some (as_result r)) ∷ []) (λ _. new) (λ m _. finished (step slots 0 new 0 none) m new) is (λ p h b stand. record {
    side = finishing l;
    act = gives;
    next = Result;
    home = some (Some (as_result r));
    valid = tt;
    homes_are = refl;
    word_is = named;
    stand = record { done = r; home_is = refl; block = inl (at_working p h b l.stage (of_result r) at stand); lane = refl };
    told = refl;
  })
