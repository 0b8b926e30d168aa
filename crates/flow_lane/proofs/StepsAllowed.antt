-- A step of one side of a lane's table, over plain data: what the rule says where a seat is that side's, and what a step has to show.
use Rattle.std.proofs.Common.{◌≡◌, ◌⊎◌, ℕ, zero, suc, List, [], ◌∷◌, sym, refl, ap, ◌∙◌, subst, ⊎_elim, inl, inr, Option, slice_index}
use mathlib.Core.Option.{some, some-injective, some-ne-none}
use lib.ListN.{get_elem?}
use Rattle.atomic_table.specs.Table.{Me, State, Act, Allows, Valid, stepped, homes_after, carried_after}
use Rattle.flow_lane.specs.declared.phase.LanePhase.{LanePhase}
use Rattle.flow_lane.specs.declared.phase.LanePhase.TheVariants.{Free, Job, Working, Result, Fetching, Ended}
use Rattle.flow_lane.specs.Phase.{word_of_phase, words_of}
use Rattle.flow_lane.specs.Views.{BlockStage, LaneStage, BlockView, LaneView, SeatView, Meet}
use Rattle.flow_lane.specs.Rule.{Home, StandAt, IsFresh, AreTwo, IsBoth, Ruled}

pub one_view : {V : Type 0} → (a v : V) (id : ℕ) → get_elem? (a ∷ []) id ≡ some v → (id ≡ 0) × (a ≡ v)
one_view a v zero e = (refl, some-injective a v e)
one_view a v (suc id) e = absurd (some-ne-none v (sym e))

pub two_views : {V : Type 0} → (a b v : V) (id : ℕ) → get_elem? (a ∷ b ∷ []) id ≡ some v → ((id ≡ 0) × (a ≡ v)) ⊎ ((id ≡ 1) × (b ≡ v))
two_views a b v zero e = inl (refl, some-injective a v e)
two_views a b v (suc zero) e = inr (refl, some-injective b v e)
two_views a b v (suc (suc id)) e = absurd (some-ne-none v (sym e))

pub in_list : {V : Type 0} → (us vs : List V) (id : ℕ) (v : V) → us ≡ vs → get_elem? us id ≡ some v → get_elem? vs id ≡ some v
in_list {V} us vs id v is at = subst (λ (us : List V). get_elem? us id ≡ some v) is at

module _ {J Q R S : Type 0} (as_job : Q → S) (as_result : R → S) (of_job : Q → J) (of_result : R → J) where
  abbrev pub Rules : State (Option S) (SeatView J) → Type 0
  Rules = Ruled as_job as_result of_job of_result

  abbrev pub Stands : LanePhase → Home S → BlockStage J → LaneStage J → Type 0
  Stands = StandAt as_job as_result of_job of_result

  abbrev pub pair : LanePhase → Home S → BlockView J → LaneView J → State (Option S) (SeatView J)
  pair p h b l = record { words = words_of (word_of_phase p); homes = h ∷ []; views = SeatView.block b ∷ SeatView.lane l ∷ [] }

  -- the stages alone
  pub meets : (p : LanePhase) (h : Home S) (b : BlockStage J) (l : LaneStage J) → Stands p h b l → Meet p b l
  meets Free h b l at = (⊎_elim (λ (x : (h ≡ _) × (b ≡ BlockStage.free)). inl x.1) (λ (x : (h ≡ _) × (b ≡ BlockStage.filling)). inr x.1) at.block, at.lane)
  meets Job h b l at = (of_job at.job, at.block, at.lane)
  meets Working h b l at = (at.job, at.block, at.lane)
  meets Result h b l at = (of_result at.done, at.block, at.lane)
  meets Fetching h b l at = (at.job, at.block, at.lane)
  meets Ended h b l at = (at.block, at.lane)

  -- the rule, where the seat is the block's
  pub record BlockSees (z : State (Option S) (SeatView J)) (id : ℕ) (b : BlockView J) : Type 0 where
    pub phase : LanePhase
    pub home : Home S
    pub lane : LaneView J
    pub is : z ≡ pair phase home b lane
    pub seat : id ≡ 0
    pub stand : Stands phase home b.stage lane.stage

  pub block_sees : (z : State (Option S) (SeatView J)) (r : Rules z) (id : ℕ) (b : BlockView J) → get_elem? z.views id ≡ some (SeatView.block b) → BlockSees z id b
  block_sees z r id b at =
      ⊎_elim (λ (new : IsFresh as_job as_result of_job of_result r.phase r.home z.views). absurd (let f = one_view _ _ id (in_list _ _ id _ new.views_are at) in let g = f.1 in cc))
      (λ rest. ⊎_elim
      (λ (two : AreTwo as_job as_result of_job of_result r.phase r.home z.views).
      ⊎_elim (λ (f : (id ≡ 0) × (SeatView.block two.block ≡ SeatView.block b)).
      let same : two.block ≡ b = (let g = f.1 in cc) in record {
        phase = r.phase;
        home = r.home;
        lane = two.lane;
        is = λ i. record { words = r.words_are i; homes = r.homes_are i; views = (two.views_are ∙ ap (λ (y : BlockView J). SeatView.block y ∷ SeatView.lane two.lane ∷ []) same) i };
        seat = f.0;
        stand = subst (λ (y : BlockView J). Stands r.phase r.home y.stage two.lane.stage) same two.stand;
      })
      (λ (f : (id ≡ 1) × (SeatView.lane two.lane ≡ SeatView.block b)). absurd (let g = f.1 in cc))
      (two_views _ _ _ id (in_list _ _ id _ two.views_are at)))
      (λ (all : IsBoth as_job as_result of_job of_result r.phase r.home z.views).
      absurd (⊎_elim (λ (f : (id ≡ 0) × (SeatView.spent ≡ SeatView.block b)). (let g = f.1 in cc)) (λ (f : (id ≡ 1) × (SeatView.both all.block all.lane ≡ SeatView.block b)). (let g = f.1 in cc)) (two_views _ _ _ id (in_list _ _ id _ all.views_are at))))
      rest)
      r.sides

  -- what a step of the block owes where it finds the phase p and leaves the word x
  pub record BlockMove (c : List (ℕ × Option S)) (tells : ℕ → Me (Option S) (SeatView J) → Type 0) (h : Home S) (l : LaneStage J) (x : ℕ) (p : LanePhase) : Type 0 where
    pub side : BlockView J
    pub act : Act (Option S)
    pub next : LanePhase
    pub home : Home S
    pub valid : Valid (h ∷ []) c act
    pub homes_are : homes_after (h ∷ []) c act ≡ home ∷ []
    pub word_is : x ≡ word_of_phase next
    pub stand : Stands next home side.stage l
    pub told : tells (word_of_phase p) (SeatView.block side, carried_after c act)

  pub block_allows : (slots id : ℕ) (me : Me (Option S) (SeatView J)) (b : BlockView J) (c : List (ℕ × Option S)) (f : ℕ → ℕ) (tells : Me (Option S) (SeatView J) → ℕ → Me (Option S) (SeatView J) → Type 0) → me ≡ (SeatView.block b, c)
      → ((p : LanePhase) (h : Home S) (l : LaneStage J) → Stands p h b.stage l → BlockMove c (tells (SeatView.block b, c)) h l (f (word_of_phase p)) p)
      → Allows Rules slots id me 0 f (tells me)
  block_allows slots id me b c f tells is moves = subst (λ (m : Me (Option S) (SeatView J)). Allows Rules slots id m 0 f (tells m)) (sym is) (λ z r deep at small.
      let see = block_sees z r id b at in
      let move = moves see.phase see.home see.lane.stage see.stand in
      let Goal : State (Option S) (SeatView J) × ℕ → Type 0 = λ q. (w : SeatView J) × (a : Act (Option S)) × Valid q.0.homes c a × Rules (stepped q.0 0 (f (slice_index q.0.words 0)) q.1 c w a) × tells (SeatView.block b, c) (slice_index q.0.words 0) (w, carried_after c a) in
      subst Goal (λ i. (sym see.is i, sym see.seat i)) (
        SeatView.block move.side,
        move.act,
        move.valid,
        record {
          phase = move.next;
          home = move.home;
          words_are = ap words_of move.word_is;
          homes_are = move.homes_are;
          sides = inr (inl record { block = move.side; lane = see.lane; views_are = refl; stand = move.stand });
        },
        move.told,
      ))

  -- the rule, where the seat is the lane's
  pub record LaneSees (z : State (Option S) (SeatView J)) (id : ℕ) (l : LaneView J) : Type 0 where
    pub phase : LanePhase
    pub home : Home S
    pub block : BlockView J
    pub is : z ≡ pair phase home block l
    pub seat : id ≡ 1
    pub stand : Stands phase home block.stage l.stage

  pub lane_sees : (z : State (Option S) (SeatView J)) (r : Rules z) (id : ℕ) (l : LaneView J) → get_elem? z.views id ≡ some (SeatView.lane l) → LaneSees z id l
  lane_sees z r id l at =
      ⊎_elim (λ (new : IsFresh as_job as_result of_job of_result r.phase r.home z.views). absurd (let f = one_view _ _ id (in_list _ _ id _ new.views_are at) in let g = f.1 in cc))
      (λ rest. ⊎_elim
      (λ (two : AreTwo as_job as_result of_job of_result r.phase r.home z.views).
      ⊎_elim (λ (f : (id ≡ 0) × (SeatView.block two.block ≡ SeatView.lane l)). absurd (let g = f.1 in cc))
      (λ (f : (id ≡ 1) × (SeatView.lane two.lane ≡ SeatView.lane l)).
      let same : two.lane ≡ l = (let g = f.1 in cc) in record {
        phase = r.phase;
        home = r.home;
        block = two.block;
        is = λ i. record { words = r.words_are i; homes = r.homes_are i; views = (two.views_are ∙ ap (λ (y : LaneView J). SeatView.block two.block ∷ SeatView.lane y ∷ []) same) i };
        seat = f.0;
        stand = subst (λ (y : LaneView J). Stands r.phase r.home two.block.stage y.stage) same two.stand;
      })
      (two_views _ _ _ id (in_list _ _ id _ two.views_are at)))
      (λ (all : IsBoth as_job as_result of_job of_result r.phase r.home z.views).
      absurd (⊎_elim (λ (f : (id ≡ 0) × (SeatView.spent ≡ SeatView.lane l)). (let g = f.1 in cc)) (λ (f : (id ≡ 1) × (SeatView.both all.block all.lane ≡ SeatView.lane l)). (let g = f.1 in cc)) (two_views _ _ _ id (in_list _ _ id _ all.views_are at))))
      rest)
      r.sides

  pub record LaneMove (c : List (ℕ × Option S)) (tells : ℕ → Me (Option S) (SeatView J) → Type 0) (h : Home S) (b : BlockStage J) (x : ℕ) (p : LanePhase) : Type 0 where
    pub side : LaneView J
    pub act : Act (Option S)
    pub next : LanePhase
    pub home : Home S
    pub valid : Valid (h ∷ []) c act
    pub homes_are : homes_after (h ∷ []) c act ≡ home ∷ []
    pub word_is : x ≡ word_of_phase next
    pub stand : Stands next home b side.stage
    pub told : tells (word_of_phase p) (SeatView.lane side, carried_after c act)

  pub lane_allows : (slots id : ℕ) (me : Me (Option S) (SeatView J)) (l : LaneView J) (c : List (ℕ × Option S)) (f : ℕ → ℕ) (tells : Me (Option S) (SeatView J) → ℕ → Me (Option S) (SeatView J) → Type 0) → me ≡ (SeatView.lane l, c)
      → ((p : LanePhase) (h : Home S) (b : BlockStage J) → Stands p h b l.stage → LaneMove c (tells (SeatView.lane l, c)) h b (f (word_of_phase p)) p)
      → Allows Rules slots id me 0 f (tells me)
  lane_allows slots id me l c f tells is moves = subst (λ (m : Me (Option S) (SeatView J)). Allows Rules slots id m 0 f (tells m)) (sym is) (λ z r deep at small.
      let see = lane_sees z r id l at in
      let move = moves see.phase see.home see.block.stage see.stand in
      let Goal : State (Option S) (SeatView J) × ℕ → Type 0 = λ q. (w : SeatView J) × (a : Act (Option S)) × Valid q.0.homes c a × Rules (stepped q.0 0 (f (slice_index q.0.words 0)) q.1 c w a) × tells (SeatView.lane l, c) (slice_index q.0.words 0) (w, carried_after c a) in
      subst Goal (λ i. (sym see.is i, sym see.seat i)) (
        SeatView.lane move.side,
        move.act,
        move.valid,
        record {
          phase = move.next;
          home = move.home;
          words_are = ap words_of move.word_is;
          homes_are = move.homes_are;
          sides = inr (inl record { block = see.block; lane = move.side; views_are = refl; stand = move.stand });
        },
        move.told,
      ))
