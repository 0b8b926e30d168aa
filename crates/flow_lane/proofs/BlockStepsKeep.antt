-- Each step of the block keeps the rule of the table.
use Rattle.std.proofs.Common.{◌≡◌, ◌≢◌, true, ⊎_elim, inl, inr, ℕ, List, [], ◌∷◌, sym, refl, ap, ◌∙◌, subst, Option, Some, None}
use mathlib.Core.Option.{some, none}
use Rattle.atomic_table.specs.Table.{Me, keeps, takes, gives, homes_after, Allows, step, rest}
use Rattle.atomic_table.specs.Seated.{TableId}
use Rattle.flow_lane.specs.declared.phase.LanePhase.{LanePhase}
use Rattle.flow_lane.specs.declared.phase.LanePhase.TheVariants.{Free, Job, Working, Result, Fetching, Ended}
use Rattle.flow_lane.specs.Phase.{word_of_phase}
use Rattle.flow_lane.specs.Views.{BlockStage, LaneStage, BlockView, SeatView, Meet, FoundByBlock, StandsAsBlock, block_in, is_sent, is_ready, has_in_hand}
use Rattle.flow_lane.specs.Rule.{Home, AtResult}
use Rattle.flow_lane.specs.Sides.{BlockOf, block_finds, block_looked, block_read, block_wrote, filling, fetching, clearing, ending}
use Rattle.flow_lane.specs.SideSeats.{block_slots, block_seat, block_of, IsQuiet}
use Rattle.flow_lane.specs.Plays.{slot_out, block_looks, takes_slot, put, fetched, cleared, ended, parted}
use Rattle.flow_lane.proofs.WordsDiffer.{words_tell}
use Rattle.flow_lane.proofs.StepsAllowed.{Rules, Stands, BlockMove, block_allows, meets}

module _ {J : Type 0} where
  -- no put is under way
  quiet_finds : (b : BlockStage J) (p : LanePhase) → IsQuiet b → IsQuiet (block_finds b p)
  quiet_finds BlockStage.filling p quiet = absurd quiet
  quiet_finds (BlockStage.sent j) Result quiet = tt
  quiet_finds (BlockStage.sent j) _ quiet = tt
  quiet_finds _ _ quiet = quiet

  -- the job that a stage has
  pub job_ready : (b : BlockStage J) → is_ready b ≡ true → (j : J) × (b ≡ BlockStage.ready j)
  job_ready (BlockStage.ready j) ready = (j, refl)
  job_ready BlockStage.free ready = absurd (cc)
  job_ready BlockStage.filling ready = absurd (cc)
  job_ready (BlockStage.sent j) ready = absurd (cc)
  job_ready (BlockStage.hand j) ready = absurd (cc)
  job_ready BlockStage.ended ready = absurd (cc)

  pub job_in_hand : (b : BlockStage J) → has_in_hand b ≡ true → (j : J) × (b ≡ BlockStage.hand j)
  job_in_hand (BlockStage.hand j) held = (j, refl)
  job_in_hand BlockStage.free held = absurd (cc)
  job_in_hand BlockStage.filling held = absurd (cc)
  job_in_hand (BlockStage.sent j) held = absurd (cc)
  job_in_hand (BlockStage.ready j) held = absurd (cc)
  job_in_hand BlockStage.ended held = absurd (cc)

  -- one that found it free
  quiet_free : (b : BlockStage J) (l : LaneStage J) → IsQuiet b → Meet Free b l → b ≡ BlockStage.free
  quiet_free b l quiet meet = ⊎_elim (λ (e : b ≡ BlockStage.free). e) (λ (e : b ≡ BlockStage.filling). absurd (subst IsQuiet e quiet)) meet.0

  -- a look leaves the stage that the phase tells
  stands_at : (p : LanePhase) (b : BlockStage J) (l : LaneStage J) → IsQuiet b → Meet p b l → StandsAsBlock p (block_finds b p)
  stands_at Free b l quiet meet = ap (λ (y : BlockStage J). block_finds y Free) (quiet_free b l quiet meet)
  stands_at Job b l quiet meet = ap (λ (y : BlockStage J). is_sent (block_finds y Job)) meet.1
  stands_at Working b l quiet meet = ap (λ (y : BlockStage J). is_sent (block_finds y Working)) meet.1
  stands_at Result b l quiet meet = ⊎_elim (λ (e : b ≡ BlockStage.sent meet.0). ap (λ (y : BlockStage J). is_ready (block_finds y Result)) e) (λ (e : b ≡ BlockStage.ready meet.0). ap (λ (y : BlockStage J). is_ready (block_finds y Result)) e) meet.1
  stands_at Fetching b l quiet meet = ap (λ (y : BlockStage J). has_in_hand (block_finds y Fetching)) meet.1
  stands_at Ended b l quiet meet = ap (λ (y : BlockStage J). block_finds y Ended) meet.0

module _ {S : Type 0} where
  abbrev pub first_of : List (ℕ × Option S) → Option S
  first_of [] = None
  first_of (a ∷ c) = a.1

module _ {J S : Type 0} where
  slots_after : (b : BlockStage J) (p : LanePhase) → block_slots {S = S} (block_finds b p) ≡ block_slots b
  slots_after (BlockStage.sent j) Result = refl
  slots_after (BlockStage.sent j) _ = refl
  slots_after _ _ = refl

  -- a seat is the block's where it knows this and has these slots
  pub is_now : (me : Me (Option S) (SeatView J)) (b : BlockView J) → me ≡ block_seat b → me ≡ block_seat (block_in me.0)
  is_now me b now = now ∙ ap (λ (m : Me (Option S) (SeatView J)). block_seat (block_in m.0)) (sym now)

  pub looked_is : (me me' : Me (Option S) (SeatView J)) (p : LanePhase) → me ≡ block_seat (block_in me.0) → me' ≡ (SeatView.block (block_looked p (block_in me.0)), me.1) → me' ≡ block_seat (block_in me'.0)
  looked_is me me' p is told = let b = block_in me.0 in
      is_now me' (block_looked p b) (told ∙ ap (λ (c : List (ℕ × Option S)). (SeatView.block (block_looked p b), c)) (ap (λ (m : Me (Option S) (SeatView J)). m.1) is ∙ sym (slots_after b.stage p)))

  -- what a look told, of the side as contracts see it
  pub look_tells : (table : TableId) (me : Me (Option S) (SeatView J)) (p q : LanePhase) (n : ℕ) (e : BlockOf J) → FoundByBlock p (block_in me.0).stage → n ≡ word_of_phase p → n ≡ word_of_phase q
      → block_of table me ≡ e → FoundByBlock q e.side.stage
  look_tells table me p q n e shown first second seen =
      subst (λ (x : LanePhase × BlockOf J). FoundByBlock x.0 x.1.side.stage) (λ i. (words_tell p q (sym first ∙ second) i, seen i)) shown

  -- where the side stands then
  pub look_leaves : (me me' : Me (Option S) (SeatView J)) (p q : LanePhase) (n : ℕ) → IsQuiet (block_in me.0).stage → FoundByBlock p (block_in me.0).stage → n ≡ word_of_phase p → n ≡ word_of_phase q
      → me' ≡ (SeatView.block (block_looked p (block_in me.0)), me.1) → StandsAsBlock q (block_in me'.0).stage
  look_leaves me me' p q n quiet shown first second told =
      subst (λ (x : LanePhase × Me (Option S) (SeatView J)). StandsAsBlock x.0 (block_in x.1.0).stage) (λ i. (words_tell p q (sym first ∙ second) i, sym told i)) (stands_at p (block_in me.0).stage shown.0 quiet shown.1)

  -- the seat at a stage
  pub me_at : (me : Me (Option S) (SeatView J)) (stage : BlockStage J) → me ≡ block_seat (block_in me.0) → (block_in me.0).stage ≡ stage → me ≡ (SeatView.block (block_in me.0), block_slots stage)
  me_at me stage is at = is ∙ ap (λ (y : BlockStage J). (SeatView.block (block_in me.0), block_slots y)) at

  pub ended_is : (me me' : Me (Option S) (SeatView J)) → me ≡ block_seat (block_in me.0) → (block_in me.0).stage ≡ BlockStage.free → me' ≡ (SeatView.block (ending (block_in me.0)), me.1) → me' ≡ block_seat (block_in me'.0)
  ended_is me me' is at told = let b = ending (block_in me.0) in
      is_now me' b (told ∙ ap (λ (m : Me (Option S) (SeatView J)). (SeatView.block b, m.1)) (me_at me BlockStage.free is at))

  -- the seat after the slot was written
  pub written : (me me' : Me (Option S) (SeatView J)) (side : SeatView J) (x y : Option S) → me ≡ (side, (0, x) ∷ []) → me' ≡ (me.0, (0, y) ∷ rest me.1) → me' ≡ (side, (0, y) ∷ [])
  written me me' side x y is told = told ∙ ap (λ (m : Me (Option S) (SeatView J)). (m.0, (0, y) ∷ rest m.1)) is

  -- the slot that a seat has, and nothing else
  pub holds_one : (me : Me (Option S) (SeatView J)) (side : SeatView J) (x : Option S) → me ≡ (side, (0, x) ∷ []) → me.1 ≡ (0, x) ∷ rest me.1
  holds_one me side x is = ap (λ (m : Me (Option S) (SeatView J)). m.1) is ∙ ap (λ (m : Me (Option S) (SeatView J)). (0, x) ∷ rest m.1) (sym is)

  pub quiet_now : (me : Me (Option S) (SeatView J)) (b : BlockView J) (c : List (ℕ × Option S)) → me ≡ (SeatView.block b, c) → IsQuiet b.stage → IsQuiet (block_in me.0).stage
  quiet_now me b c now quiet = subst (λ (m : Me (Option S) (SeatView J)). IsQuiet (block_in m.0).stage) (sym now) quiet

  pub looked_quiet : (me me' : Me (Option S) (SeatView J)) (p : LanePhase) → IsQuiet (block_in me.0).stage → me' ≡ (SeatView.block (block_looked p (block_in me.0)), me.1) → IsQuiet (block_in me'.0).stage
  looked_quiet me me' p quiet told = quiet_now me' (block_looked p (block_in me.0)) me.1 told (quiet_finds (block_in me.0).stage p quiet)

  -- a put that found the lane not free
  slot_stays : (p : LanePhase) (m : Me (Option S) (SeatView J)) → p ≢ Free → slot_out p m ≡ (SeatView.block (block_read p (block_in m.0).stage (block_in m.0)), m.1)
  slot_stays Free m other = absurd (other refl)
  slot_stays Job m other = refl
  slot_stays Working m other = refl
  slot_stays Result m other = refl
  slot_stays Fetching m other = refl
  slot_stays Ended m other = refl

  pub was_free : (me : Me (Option S) (SeatView J)) (p : LanePhase) (n free : ℕ) → IsQuiet (block_in me.0).stage → n ≡ word_of_phase p → free ≡ word_of_phase Free → n ≡ free → FoundByBlock p (block_in me.0).stage → (block_in me.0).stage ≡ BlockStage.free
  was_free me p n free quiet named named' same shown =
      let is_free : p ≡ Free = words_tell p Free (sym named ∙ same ∙ named') in
      let seen = subst (λ (q : LanePhase). FoundByBlock q (block_in me.0).stage) is_free shown in
      quiet_free (block_in me.0).stage seen.0 quiet seen.1

  pub out_seat : (me me' : Me (Option S) (SeatView J)) (p : LanePhase) (n free : ℕ) → me ≡ block_seat (block_in me.0) → (block_in me.0).stage ≡ BlockStage.free → n ≡ word_of_phase p → free ≡ word_of_phase Free → n ≡ free → me' ≡ slot_out p me
      → me' ≡ (SeatView.block (filling (block_in me.0)), (0, None) ∷ [])
  out_seat me me' p n free is at named named' same told =
      let is_free : p ≡ Free = words_tell p Free (sym named ∙ same ∙ named') in
      told ∙ ap (λ (q : LanePhase). slot_out q me) is_free ∙ ap (λ (m : Me (Option S) (SeatView J)). (SeatView.block (filling (block_in me.0)), (0, None) ∷ m.1)) (me_at me BlockStage.free is at)

  pub rest_of : (b : BlockStage J) → rest (block_slots {S = S} b) ≡ []
  rest_of BlockStage.filling = refl
  rest_of (BlockStage.hand j) = refl
  rest_of _ = refl

module _ {J Q R S : Type 0} (as_job : Q → S) (as_result : R → S) (of_job : Q → J) (of_result : R → J) where
  abbrev stand_at : LanePhase → Home S → BlockStage J → LaneStage J → Type 0
  stand_at = Stands as_job as_result of_job of_result

  look_stands : (p : LanePhase) (h : Home S) (b : BlockStage J) (l : LaneStage J) → stand_at p h b l → stand_at p h (block_finds b p) l
  look_stands Result h (BlockStage.sent j) l at = record {
    done = at.done;
    home_is = at.home_is;
    block = inr (⊎_elim (λ (e : BlockStage.sent j ≡ BlockStage.sent (of_result at.done)). ap (λ (y : BlockStage J). block_finds y Result) e) (λ (e : BlockStage.sent j ≡ BlockStage.ready (of_result at.done)). absurd (cc)) at.block);
    lane = at.lane;
  }
  look_stands Result h BlockStage.free l at = at
  look_stands Result h BlockStage.filling l at = at
  look_stands Result h (BlockStage.ready j) l at = at
  look_stands Result h (BlockStage.hand j) l at = at
  look_stands Result h BlockStage.ended l at = at
  look_stands Free h (BlockStage.sent j) l at = at
  look_stands Job h (BlockStage.sent j) l at = at
  look_stands Working h (BlockStage.sent j) l at = at
  look_stands Fetching h (BlockStage.sent j) l at = at
  look_stands Ended h (BlockStage.sent j) l at = at
  look_stands Free h _ l at = at
  look_stands Job h _ l at = at
  look_stands Working h _ l at = at
  look_stands Fetching h _ l at = at
  look_stands Ended h _ l at = at

  pub looks : (slots id : ℕ) (me : Me (Option S) (SeatView J)) → me ≡ block_seat (block_in me.0) → Allows (Rules as_job as_result of_job of_result) slots id me 0 (λ n. n) (block_looks (step slots 0 0 0 none) me)
  looks slots id me is = let b = block_in me.0 in block_allows as_job as_result of_job of_result slots id me b (block_slots b.stage) (λ n. n) (block_looks (step slots 0 0 0 none)) is (λ p h l stand. record {
    side = block_looked p b;
    act = keeps;
    next = p;
    home = h;
    valid = tt;
    homes_are = refl;
    word_is = refl;
    stand = look_stands p h b.stage l stand;
    told = (p, refl, refl, (l, meets as_job as_result of_job of_result p h b.stage l stand));
  })

  -- another phase than Free is noted, and the slot stays
  notes_move : (slots : ℕ) (b : BlockView J) (c : List (ℕ × Option S)) (p : LanePhase) (h : Home S) (l : LaneStage J) → p ≢ Free → stand_at p h b.stage l
      → BlockMove as_job as_result of_job of_result c (takes_slot (step slots 0 0 0 none) (SeatView.block b, c)) h l (word_of_phase p) p
  notes_move slots b c p h l other stand = record {
    side = block_read p b.stage b;
    act = keeps;
    next = p;
    home = h;
    valid = tt;
    homes_are = refl;
    word_is = refl;
    stand = stand;
    told = (p, refl, sym (slot_stays p (SeatView.block b, c) other), (l, meets as_job as_result of_job of_result p h b.stage l stand));
  }

  -- the slot comes out where the lane is free
  takes_move : (slots : ℕ) (b : BlockView J) (c : List (ℕ × Option S)) (p : LanePhase) (h : Home S) (l : LaneStage J) → IsQuiet b.stage → stand_at p h b.stage l
      → BlockMove as_job as_result of_job of_result c (takes_slot (step slots 0 0 0 none) (SeatView.block b, c)) h l (word_of_phase p) p
  takes_move slots b c Free h l quiet stand =
      let here : h ≡ some None = ⊎_elim (λ (x : (h ≡ some None) × (b.stage ≡ BlockStage.free)). x.0) (λ (x : (h ≡ none) × (b.stage ≡ BlockStage.filling)). absurd (subst IsQuiet x.1 quiet)) stand.block in record {
        side = filling b;
        act = takes 0 None;
        next = Free;
        home = none;
        valid = ap some here;
        homes_are = refl;
        word_is = refl;
        stand = record { block = inr (refl, refl); lane = stand.lane };
        told = (Free, refl, refl, (l, meets as_job as_result of_job of_result Free h b.stage l stand));
      }
  takes_move slots b c Job h l quiet stand = notes_move slots b c Job h l (λ (e : Job ≡ Free). cc) stand
  takes_move slots b c Working h l quiet stand = notes_move slots b c Working h l (λ (e : Working ≡ Free). cc) stand
  takes_move slots b c Result h l quiet stand = notes_move slots b c Result h l (λ (e : Result ≡ Free). cc) stand
  takes_move slots b c Fetching h l quiet stand = notes_move slots b c Fetching h l (λ (e : Fetching ≡ Free). cc) stand
  takes_move slots b c Ended h l quiet stand = notes_move slots b c Ended h l (λ (e : Ended ≡ Free). cc) stand

  pub takes_out : (slots id : ℕ) (me : Me (Option S) (SeatView J)) → me ≡ block_seat (block_in me.0) → IsQuiet (block_in me.0).stage → Allows (Rules as_job as_result of_job of_result) slots id me 0 (λ n. n) (takes_slot (step slots 0 0 0 none) me)
  takes_out slots id me is quiet = let b = block_in me.0 in block_allows as_job as_result of_job of_result slots id me b (block_slots b.stage) (λ n. n) (takes_slot (step slots 0 0 0 none)) is
      (λ p h l stand. takes_move slots b (block_slots b.stage) p h l quiet stand)

  -- what the rule says where the block stands so
  at_filling : (p : LanePhase) (h : Home S) (b : BlockStage J) (l : LaneStage J) → b ≡ BlockStage.filling → stand_at p h b l → l ≡ LaneStage.idle
  at_filling Free h b l at stand = stand.lane
  at_filling Job h b l at stand = absurd (let e = sym at ∙ stand.block in cc)
  at_filling Working h b l at stand = absurd (let e = sym at ∙ stand.block in cc)
  at_filling Result h b l at stand = stand.lane
  at_filling Fetching h b l at stand = stand.lane
  at_filling Ended h b l at stand = absurd (let e = sym at ∙ stand.block in cc)

  at_free : (p : LanePhase) (h : Home S) (b : BlockStage J) (l : LaneStage J) → b ≡ BlockStage.free → stand_at p h b l → (h ≡ some None) × (l ≡ LaneStage.idle)
  at_free Free h b l at stand = (⊎_elim (λ (x : (h ≡ some None) × (b ≡ BlockStage.free)). x.0) (λ (x : (h ≡ none) × (b ≡ BlockStage.filling)). absurd (let e = sym at ∙ x.1 in cc)) stand.block, stand.lane)
  at_free Job h b l at stand = absurd (let e = sym at ∙ stand.block in cc)
  at_free Working h b l at stand = absurd (let e = sym at ∙ stand.block in cc)
  at_free Result h b l at stand = absurd (⊎_elim (λ (x : b ≡ BlockStage.sent (of_result stand.done)). let e = sym at ∙ x in cc) (λ (x : b ≡ BlockStage.ready (of_result stand.done)). let e = sym at ∙ x in cc) stand.block)
  at_free Fetching h b l at stand = absurd (let e = sym at ∙ stand.block in cc)
  at_free Ended h b l at stand = absurd (let e = sym at ∙ stand.block in cc)

  at_ready : (p : LanePhase) (h : Home S) (b : BlockStage J) (l : LaneStage J) (j : J) → b ≡ BlockStage.ready j → stand_at p h b l → AtResult as_job as_result of_job of_result h b l
  at_ready Free h b l j at stand = absurd (⊎_elim (λ (x : (h ≡ some None) × (b ≡ BlockStage.free)). let e = sym at ∙ x.1 in cc) (λ (x : (h ≡ none) × (b ≡ BlockStage.filling)). let e = sym at ∙ x.1 in cc) stand.block)
  at_ready Job h b l j at stand = absurd (let e = sym at ∙ stand.block in cc)
  at_ready Working h b l j at stand = absurd (let e = sym at ∙ stand.block in cc)
  at_ready Result h b l j at stand = stand
  at_ready Fetching h b l j at stand = absurd (let e = sym at ∙ stand.block in cc)
  at_ready Ended h b l j at stand = absurd (let e = sym at ∙ stand.block in cc)

  at_hand : (p : LanePhase) (h : Home S) (b : BlockStage J) (l : LaneStage J) (j : J) → b ≡ BlockStage.hand j → stand_at p h b l → l ≡ LaneStage.idle
  at_hand Free h b l j at stand = stand.lane
  at_hand Job h b l j at stand = absurd (let e = sym at ∙ stand.block in cc)
  at_hand Working h b l j at stand = absurd (let e = sym at ∙ stand.block in cc)
  at_hand Result h b l j at stand = stand.lane
  at_hand Fetching h b l j at stand = stand.lane
  at_hand Ended h b l j at stand = absurd (let e = sym at ∙ stand.block in cc)

  -- the block puts
  pub puts : (slots id : ℕ) (me : Me (Option S) (SeatView J)) (b : BlockView J) (q : Q) (new : ℕ) → ((x y : Q) → as_job x ≡ as_job y → of_job x ≡ of_job y) → me ≡ (SeatView.block b, (0, Some (as_job q)) ∷ []) → b.stage ≡ BlockStage.filling → new ≡ word_of_phase Job
      → Allows (Rules as_job as_result of_job of_result) slots id me 0 (λ _. new) (λ _. put as_job as_result of_job of_result (step slots 0 new 0 none) me new)
  puts slots id me b q new one is at named = block_allows as_job as_result of_job of_result slots id me b ((0, Some (as_job q)) ∷ []) (λ _. new) (λ m _. put as_job as_result of_job of_result (step slots 0 new 0 none) m new) is (λ p h l stand. record {
    side = block_wrote Job (BlockStage.sent (of_job q)) b;
    act = gives;
    next = Job;
    home = some (Some (as_job q));
    valid = tt;
    homes_are = refl;
    word_is = named;
    stand = record { job = q; home_is = refl; block = refl; lane = inl (at_filling p h b.stage l at stand) };
    told = λ job carried. ap (λ (j : J). (SeatView.block (block_wrote Job (BlockStage.sent j) b), [])) (one q job (let e = ap first_of carried in cc));
  })

  pub fetches : (slots id : ℕ) (me : Me (Option S) (SeatView J)) (j : J) (new : ℕ) → me ≡ block_seat (block_in me.0) → (block_in me.0).stage ≡ BlockStage.ready j → new ≡ word_of_phase Fetching
      → Allows (Rules as_job as_result of_job of_result) slots id me 0 (λ _. new) (λ _. fetched as_job as_result of_job of_result (step slots 0 new 0 none) me new)
  fetches slots id me j new is at named = let b = block_in me.0 in block_allows as_job as_result of_job of_result slots id me b [] (λ _. new) (λ m _. fetched as_job as_result of_job of_result (step slots 0 new 0 none) m new) (me_at me (BlockStage.ready j) is at) (λ p h l stand.
      let here = at_ready p h b.stage l j at stand in record {
        side = fetching (of_result here.done) b;
        act = takes 0 (Some (as_result here.done));
        next = Fetching;
        home = none;
        valid = ap some here.home_is;
        homes_are = refl;
        word_is = named;
        stand = record { job = of_result here.done; home_is = inl refl; block = refl; lane = here.lane };
        told = (here.done, ⊎_elim (λ (x : b.stage ≡ BlockStage.sent (of_result here.done)). absurd (let e = sym at ∙ x in cc)) (λ (x : b.stage ≡ BlockStage.ready (of_result here.done)). x) here.block, refl);
      })

  pub clears : (slots id : ℕ) (me : Me (Option S) (SeatView J)) (j : J) (new : ℕ) → me ≡ block_seat (block_in me.0) → (block_in me.0).stage ≡ BlockStage.hand j → new ≡ word_of_phase Free
      → Allows (Rules as_job as_result of_job of_result) slots id me 0 (λ _. new) (λ _. cleared (step slots 0 new 0 none) me new)
  clears slots id me j new is at named = let b = block_in me.0 in block_allows as_job as_result of_job of_result slots id me b ((0, None) ∷ []) (λ _. new) (λ m _. cleared (step slots 0 new 0 none) m new) (me_at me (BlockStage.hand j) is at) (λ p h l stand. record {
    side = clearing b;
    act = gives;
    next = Free;
    home = some None;
    valid = tt;
    homes_are = refl;
    word_is = named;
    stand = record { block = inl (refl, refl); lane = at_hand p h b.stage l j at stand };
    told = refl;
  })

  pub ends : (slots id : ℕ) (me : Me (Option S) (SeatView J)) (new : ℕ) → me ≡ block_seat (block_in me.0) → (block_in me.0).stage ≡ BlockStage.free → new ≡ word_of_phase Ended
      → Allows (Rules as_job as_result of_job of_result) slots id me 0 (λ _. new) (λ _. ended (step slots 0 new 0 none) me new)
  ends slots id me new is at named = let b = block_in me.0 in block_allows as_job as_result of_job of_result slots id me b [] (λ _. new) (λ m _. ended (step slots 0 new 0 none) m new) (me_at me BlockStage.free is at) (λ p h l stand.
      let here = at_free p h b.stage l at stand in record {
        side = ending b;
        act = keeps;
        next = Ended;
        home = h;
        valid = tt;
        homes_are = refl;
        word_is = named;
        stand = record { home_is = here.0; block = refl; lane = inl here.1 };
        told = refl;
      })

  pub put_is : (m m' : Me (Option S) (SeatView J)) (b : BlockView J) (q : Q) → m ≡ (SeatView.block b, (0, Some (as_job q)) ∷ [])
      → ((job : Q) → m.1 ≡ (0, Some (as_job job)) ∷ [] → m' ≡ (SeatView.block (block_wrote Job (BlockStage.sent (of_job job)) (block_in m.0)), []))
      → m' ≡ (SeatView.block (block_wrote Job (BlockStage.sent (of_job q)) b), [])
  put_is m m' b q now told = told q (ap (λ (m : Me (Option S) (SeatView J)). m.1) now) ∙ ap (λ (m : Me (Option S) (SeatView J)). (SeatView.block (block_wrote Job (BlockStage.sent (of_job q)) (block_in m.0)), [])) now

  -- the slot comes home where the block has it out
  abbrev ComesHome : LanePhase → Home S → BlockStage J → LaneStage J → Type 0
  ComesHome p h b l = (home : Home S) × (homes_after (h ∷ []) (block_slots b) gives ≡ home ∷ []) × stand_at p home b l

  comes_home : (p : LanePhase) (h : Home S) (b : BlockStage J) (l : LaneStage J) → IsQuiet b → stand_at p h b l → ComesHome p h b l
  comes_home p h BlockStage.free l quiet stand = (h, refl, stand)
  comes_home p h BlockStage.filling l quiet stand = absurd quiet
  comes_home p h (BlockStage.sent j) l quiet stand = (h, refl, stand)
  comes_home p h (BlockStage.ready j) l quiet stand = (h, refl, stand)
  comes_home p h BlockStage.ended l quiet stand = (h, refl, stand)
  comes_home Fetching h (BlockStage.hand j) l quiet stand = (some None, refl, record { job = stand.job; home_is = inr refl; block = stand.block; lane = stand.lane })
  comes_home Free h (BlockStage.hand j) l quiet stand = absurd (⊎_elim (λ (x : (h ≡ some None) × (BlockStage.hand j ≡ BlockStage.free)). let e = x.1 in cc) (λ (x : (h ≡ none) × (BlockStage.hand j ≡ BlockStage.filling)). let e = x.1 in cc) stand.block)
  comes_home Job h (BlockStage.hand j) l quiet stand = absurd (let e = stand.block in cc)
  comes_home Working h (BlockStage.hand j) l quiet stand = absurd (let e = stand.block in cc)
  comes_home Result h (BlockStage.hand j) l quiet stand = absurd (⊎_elim (λ (x : BlockStage.hand j ≡ BlockStage.sent (of_result stand.done)). cc) (λ (x : BlockStage.hand j ≡ BlockStage.ready (of_result stand.done)). cc) stand.block)
  comes_home Ended h (BlockStage.hand j) l quiet stand = absurd (let e = stand.block in cc)

  pub parts : (slots id : ℕ) (me : Me (Option S) (SeatView J)) → me ≡ block_seat (block_in me.0) → IsQuiet (block_in me.0).stage → Allows (Rules as_job as_result of_job of_result) slots id me 0 (λ n. n) (parted (step slots 0 0 0 none) me)
  parts slots id me is quiet = let b = block_in me.0 in block_allows as_job as_result of_job of_result slots id me b (block_slots b.stage) (λ n. n) (parted (step slots 0 0 0 none)) is (λ p h l stand.
      let here = comes_home p h b.stage l quiet stand in record {
        side = b;
        act = gives;
        next = p;
        home = here.0;
        valid = tt;
        homes_are = here.1;
        word_is = refl;
        stand = here.2;
        told = ap (λ (c : List (ℕ × Option S)). (SeatView.block b, c)) (rest_of b.stage);
      })
