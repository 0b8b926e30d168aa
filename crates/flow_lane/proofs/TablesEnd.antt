-- What a lane's table tells as it is closed.
use Rattle.std.proofs.Common.{◌≡◌, ⊎_elim, refl, ℕ, List, [], ◌∷◌, sym, ap, ◌∙◌, subst, Option, Some, None}
use mathlib.Core.Option.{some, none, some-injective}
use lib.ListN.{get_elem?}
use Rattle.atomic_table.specs.Table.{Me, State, Final, Seen}
use Rattle.atomic_table.specs.Seated.{TableId}
use Rattle.flow_lane.specs.declared.phase.LanePhase.{LanePhase}
use Rattle.flow_lane.specs.declared.phase.LanePhase.TheVariants.{Free, Job, Working, Result, Fetching, Ended}
use Rattle.flow_lane.specs.Phase.{word_of_phase, words_of}
use Rattle.flow_lane.specs.Views.{BlockStage, LaneStage, BlockView, LaneView, SeatView, block_in, lane_in}
use Rattle.flow_lane.specs.Rule.{Home, IsFresh, AreTwo, IsBoth, Left, slot_at}
use Rattle.flow_lane.specs.Sides.{BlockOf, LaneOf}
use Rattle.flow_lane.specs.Plays.{joined}
use Rattle.flow_lane.specs.SideSeats.{IsQuiet}
use Rattle.flow_lane.proofs.WordsDiffer.{words_tell}
use Rattle.flow_lane.proofs.StepsAllowed.{Rules, Stands, one_view, two_views, in_list}

module _ {J S : Type 0} where
  -- the seat that has taken in the other
  pub both_is : (seat seat' other other' : Me (Option S) (SeatView J)) → other' ≡ (SeatView.block (block_in other.0), []) → seat' ≡ (joined seat.0 other'.0, seat.1) → seat'.0 ≡ SeatView.both (block_in other.0) (lane_in seat.0)
  both_is seat seat' other other' home told = ap (λ (m : Me (Option S) (SeatView J)). m.0) told ∙ ap (λ (m : Me (Option S) (SeatView J)). SeatView.both (block_in m.0) (lane_in seat.0)) home

module _ {J Q R S : Type 0} (as_job : Q → S) (as_result : R → S) (of_job : Q → J) (of_result : R → J) where
  abbrev stand_at : LanePhase → Home S → BlockStage J → LaneStage J → Type 0
  stand_at = Stands as_job as_result of_job of_result

  -- the rule, where a seat has both sides
  pub record BothSee (z : State (Option S) (SeatView J)) (b : BlockView J) (l : LaneView J) : Type 0 where
    pub phase : LanePhase
    pub home : Home S
    pub words_are : z.words ≡ words_of (word_of_phase phase)
    pub homes_are : z.homes ≡ home ∷ []
    pub stand : stand_at phase home b.stage l.stage

  pub both_see : (z : State (Option S) (SeatView J)) (r : Rules as_job as_result of_job of_result z) (id : ℕ) (b : BlockView J) (l : LaneView J) → get_elem? z.views id ≡ some (SeatView.both b l) → BothSee z b l
  both_see z r id b l at =
      ⊎_elim (λ (new : IsFresh as_job as_result of_job of_result r.phase r.home z.views). absurd (let f = one_view _ _ id (in_list _ _ id _ new.views_are at) in let g = f.1 in cc))
      (λ rest. ⊎_elim
      (λ (two : AreTwo as_job as_result of_job of_result r.phase r.home z.views). absurd (⊎_elim (λ (f : (id ≡ 0) × (SeatView.block two.block ≡ SeatView.both b l)). (let g = f.1 in cc)) (λ (f : (id ≡ 1) × (SeatView.lane two.lane ≡ SeatView.both b l)). (let g = f.1 in cc)) (two_views _ _ _ id (in_list _ _ id _ two.views_are at))))
      (λ (all : IsBoth as_job as_result of_job of_result r.phase r.home z.views). ⊎_elim (λ (f : (id ≡ 0) × (SeatView.spent ≡ SeatView.both b l)). absurd (let g = f.1 in cc))
      (λ (f : (id ≡ 1) × (SeatView.both all.block all.lane ≡ SeatView.both b l)).
      let one : all.block ≡ b = (let g = f.1 in cc) in let other : all.lane ≡ l = (let g = f.1 in cc) in record {
        phase = r.phase;
        home = r.home;
        words_are = r.words_are;
        homes_are = r.homes_are;
        stand = subst (λ (q : BlockView J × LaneView J). stand_at r.phase r.home q.0.stage q.1.stage) (λ i. (one i, other i)) all.stand;
      })
      (two_views _ _ _ id (in_list _ _ id _ all.views_are at)))
      rest)
      r.sides

  -- what was found at the slot's place is what stood there
  found_is : (h : Home S) (y found : Option S) → h ≡ some y → ((x : Option S) → h ≡ some x → x ≡ found) → found ≡ y
  found_is h y found is there = sym (there y is)

  left_at : (p : LanePhase) (h : Home S) (b : BlockStage J) (l : LaneStage J) (found : Option S) → IsQuiet b → stand_at p h b l → ((x : Option S) → h ≡ some x → x ≡ found)
      → Left as_job as_result of_job of_result p (slot_at p found) b l
  left_at Free h b l found quiet stand there = ⊎_elim (λ (x : (h ≡ some None) × (b ≡ BlockStage.free)). (found_is h None found x.0 there, x.1, stand.lane)) (λ (x : (h ≡ none) × (b ≡ BlockStage.filling)). absurd (subst IsQuiet x.1 quiet)) stand.block
  left_at Job h b l found quiet stand there = (stand.job, found_is h (Some (as_job stand.job)) found stand.home_is there, stand.block, stand.lane)
  left_at Working h b l found quiet stand there = (stand.job, refl, stand.block, stand.lane)
  left_at Result h b l found quiet stand there = (stand.done, found_is h (Some (as_result stand.done)) found stand.home_is there, stand.block, stand.lane)
  left_at Fetching h b l found quiet stand there = (stand.job, refl, stand.block, stand.lane)
  left_at Ended h b l found quiet stand there = (found_is h None found stand.home_is there, stand.block, stand.lane)

  pub closes : (z : State (Option S) (SeatView J)) (ws : List ℕ) (xs : List (Option S)) (b : BlockView J) (l : LaneView J) (p : LanePhase) (word : ℕ) (found : Option S) → BothSee z b l → IsQuiet b.stage
      → z.words ≡ ws → ((k : ℕ) (y : Option S) → get_elem? z.homes k ≡ some (some y) → get_elem? xs k ≡ some y)
      → get_elem? ws 0 ≡ some word → word ≡ word_of_phase p → get_elem? xs 0 ≡ some found → Left as_job as_result of_job of_result p (slot_at p found) b.stage l.stage
  closes z ws xs b l p word found see quiet words there first named taken =
      let w : word_of_phase see.phase ≡ word = some-injective _ _ (ap (λ (l : List ℕ). get_elem? l 0) (sym see.words_are ∙ words) ∙ first) in
      let phase = words_tell see.phase p (w ∙ named) in
      let left = left_at see.phase see.home b.stage l.stage found quiet see.stand (λ y e. some-injective _ _ (sym (there 0 y (ap (λ (l : List (Home S)). get_elem? l 0) see.homes_are ∙ ap some e)) ∙ taken)) in
      subst (λ (q : LanePhase). Left as_job as_result of_job of_result q (slot_at q found) b.stage l.stage) phase left

  -- what a closed table tells, of the two sides as contracts see them
  pub closed_tells : (id : ℕ) (v : SeatView J) (ws : List ℕ) (xs : List (Option S)) (b : BlockView J) (l : LaneView J) (p : LanePhase) (word : ℕ) (found slot : Option S)
      → Final (Seen (Rules as_job as_result of_job of_result) id v) ws xs → v ≡ SeatView.both b l → IsQuiet b.stage
      → get_elem? ws 0 ≡ some word → word ≡ word_of_phase p → get_elem? xs 0 ≡ some found → slot ≡ slot_at p found
      → (table table' : TableId) (e : BlockOf J) (f : LaneOf J) → record { table = table; side = b } ≡ e → record { table = table'; side = l } ≡ f
      → Left as_job as_result of_job of_result p slot e.side.stage f.side.stage
  closed_tells id v ws xs b l p word found slot last is quiet first named taken its_slot table table' e f seen seen' =
      let left = closes last.0 ws xs b l p word found (both_see last.0 last.1.0 id b l (last.1.1 ∙ ap some is)) quiet last.2 last.4 first named taken in
      subst (λ (q : BlockOf J × LaneOf J × Option S). Left as_job as_result of_job of_result p q.2 q.0.side.stage q.1.side.stage) (λ i. (seen i, seen' i, sym its_slot i)) left
