-- Each ticket that stands in a lane of a block is out, whatever the block and its lanes do.
use Rattle.std.proofs.Common.{◌≡◌, ℕ, zero, suc, cond, ◌||◌, ◌⊎◌, ⊎_elim, inl, inr, Bool, true, false, List, [], ◌∷◌, map, set, position, Option, Some, None, is_none, option_map, Result, Ok, Err, OnOk, OnErr, refl, sym, ap, ◌∙◌, subst}
use Rattle.std.specs.List.{list_all, list_any}
use Rattle.std.specs.Option.{ForSome}
use Rattle.std.proofs.Math.Bool.{Bool-set}
use Rattle.std.proofs.Math.Logic.{∥∥₁_elim}
use Rattle.std.proofs.lemmas.Bool.{and_parts, eqb-true, or_cases}
use Rattle.std.proofs.lemmas.List.Sums.{list_all-from_AllPass}
use Rattle.flow_value.specs.declared.value.Value.{Value}
use Rattle.flow_link.specs.Layout.{Layout}
use Rattle.flow_link.specs.Plan.{has_work}
use Rattle.flow_block.specs.Jobs.{begins, is_out}
use Rattle.flow_block.specs.Node.{NodeState, NodeCall}
use Rattle.flow_block_law.specs.NodeLaw.{NodeLaw}
use Rattle.flow_exec.specs.Execution.{next_ticket}
use Rattle.flow_lane.specs.BlockLanes.{AreFree, LanesState, changed, ended_where_free, has_room, has_ticket, is_ticket, job_at, jobs_of, side_at, stage_at, ticket_at, with_free_ended, with_side}
use Rattle.flow_lane.specs.Items.{JobState}
use Rattle.flow_lane.specs.Sides.{BlockOf, clearing, ending, putting}
use Rattle.flow_lane.specs.Views.{BlockStage, is_free}
use Rattle.flow_lane.proofs.SharedLanes.{none_passes}
use Rattle.flow_moves.specs.Calls.{Calls}
use Rattle.flow_moves.proofs.MerelyKept.{block_planned}
use Rattle.flow_task.specs.Laned.{LanesAreOut, LanesStayOut, OnlyEnd, TakesBack}
use Rattle.flow_task.proofs.JobsStayOut.{StaysOut, begun_out, ended_out, next_out}

either : (a b : Bool) → b ≡ true → a || b ≡ true
either true b is = refl
either false b is = is

-- one element changed: what passes now is that one, or passed before
set_passes : {X : Type 0} (p : X → Bool) (xs : List X) (i : ℕ) (x : X) → list_any p (set xs i x) ≡ true → (p x ≡ true) ⊎ (list_any p xs ≡ true)
set_passes p [] i x passes = inr passes
set_passes p (y ∷ ys) zero x passes =
    ⊎_elim (λ (here : p x ≡ true). inl here) (λ (rest : list_any p ys ≡ true). inr (either (p y) (list_any p ys) rest))
    (or_cases (p x) (list_any p ys) passes)
set_passes p (y ∷ ys) (suc i) x passes =
    ⊎_elim (λ (first : p y ≡ true). inr (ap (λ (b : Bool). b || list_any p ys) first))
    (λ (rest : list_any p (set ys i x) ≡ true).
    ⊎_elim (λ (here : p x ≡ true). inl here) (λ (behind : list_any p ys ≡ true). inr (either (p y) (list_any p ys) behind))
    (set_passes p ys i x rest))
    (or_cases (p y) (list_any p (set ys i x)) passes)

-- a job whose result is not taken back is out still
taken_out : {E : Type 0} (makes : Value → Result (List Value) ℕ) (result : Result Bool E) (did : Bool) (ended ticket : ℕ) (old new : NodeState)
    → result ≡ Ok did → TakesBack makes ended result old new → has_work old.block.kind ≡ true → (ticket ≡ ended → ⊥)
    → is_out ticket old.block.jobs ≡ true → is_out ticket new.block.jobs ≡ true
taken_out makes (Ok true) did ended ticket old new told back works apart out =
    let its = (and_parts (is_none old.block.stopped) (is_out ended old.block.jobs) back.comes).1 in
    subst (λ (node : NodeState). is_out ticket node.block.jobs ≡ true) (sym back.leaves)
    (ended_out makes ended ticket old works its apart out)
taken_out makes (Ok false) did ended ticket old new told back works apart out =
    subst (λ (node : NodeState). is_out ticket node.block.jobs ≡ true) (sym back) out
taken_out makes (Err refused) did ended ticket old new told back works apart out = absurd (cc)

module _ {W : Type 0} where
  -- No ticket stands in a free lane

  free_has_none : (stage : BlockStage (JobState W)) → is_free stage ≡ true → ticket_at stage ≡ None
  free_has_none BlockStage.free free = refl
  free_has_none BlockStage.filling free = refl
  free_has_none (BlockStage.sent job) free = absurd (cc)
  free_has_none (BlockStage.ready job) free = absurd (cc)
  free_has_none (BlockStage.hand job) free = absurd (cc)
  free_has_none BlockStage.ended free = refl

  none_in_free : (ticket : ℕ) (sides : List (BlockOf (JobState W))) → list_all has_room sides ≡ true → list_any (has_ticket ticket) sides ≡ false
  none_in_free ticket [] free = refl
  none_in_free ticket (side ∷ sides) free =
      let both = and_parts (has_room side) (list_all has_room sides) free in
      ap (λ (its : Option ℕ). is_ticket ticket its || list_any (has_ticket ticket) sides) (free_has_none side.side.stage both.0)
      ∙ none_in_free ticket sides both.1

  -- while nothing is in the lanes, the block may do what it does
  pub free_stays : (old new : NodeState) (lanes : LanesState W) → list_all has_room lanes.sides ≡ true → LanesStayOut old new lanes lanes
  free_stays old new lanes free all ticket stands =
      absurd (let never = sym stands ∙ none_in_free ticket lanes.sides free in cc)

  -- nothing stands in new lanes
  pub new_out : (node : NodeState) (lanes : LanesState W) → list_all has_room lanes.sides ≡ true → LanesAreOut node lanes
  new_out node lanes free ticket stands = absurd (let never = sym stands ∙ none_in_free ticket lanes.sides free in cc)

  pub all_free : (sides : List (BlockOf (JobState W))) → AreFree sides → list_all has_room sides ≡ true
  all_free sides free = list_all-from_AllPass has_room sides (λ k d low. ap is_free (free k d low))

  -- The block alone

  pub node_stays : (old new : NodeState) (lanes : LanesState W) → new ≡ old → LanesStayOut old new lanes lanes
  node_stays old new lanes same all = subst (λ (node : NodeState). LanesAreOut node lanes) (sym same) all

  pub turn_stays : (old new : NodeState) (lanes : LanesState W) → ((ticket : ℕ) → is_out ticket old.block.jobs ≡ true → has_work old.block.kind ≡ true)
      → StaysOut old new → LanesStayOut old new lanes lanes
  turn_stays old new lanes works stays all ticket stands =
      let out = all ticket stands in (stays (works ticket out)).1 ticket out

  -- The lanes alone

  ticket_by_job : (ticket : ℕ) (stage : BlockStage (JobState W)) → ticket_at stage ≡ option_map (λ (job : JobState W). job.ticket) (job_at stage)
  ticket_by_job ticket BlockStage.free = refl
  ticket_by_job ticket BlockStage.filling = refl
  ticket_by_job ticket (BlockStage.sent job) = refl
  ticket_by_job ticket (BlockStage.ready job) = refl
  ticket_by_job ticket (BlockStage.hand job) = refl
  ticket_by_job ticket BlockStage.ended = refl

  abbrev has_job : ℕ → Option (JobState W) → Bool
  has_job ticket job = is_ticket ticket (option_map (λ (its : JobState W). its.ticket) job)

  stands_by_jobs : (ticket : ℕ) (sides : List (BlockOf (JobState W))) → list_any (has_ticket ticket) sides ≡ list_any (has_job ticket) (jobs_of sides)
  stands_by_jobs ticket [] = refl
  stands_by_jobs ticket (side ∷ sides) =
      ap (λ (its : Option ℕ). is_ticket ticket its || list_any (has_ticket ticket) sides) (ticket_by_job ticket side.side.stage)
      ∙ ap (λ (rest : Bool). has_job ticket (job_at side.side.stage) || rest) (stands_by_jobs ticket sides)

  -- the same jobs stand in them
  pub jobs_stay_out : (node : NodeState) (lanes after : LanesState W) → jobs_of after.sides ≡ jobs_of lanes.sides → LanesStayOut node node lanes after
  jobs_stay_out node lanes after same all ticket stands =
      all ticket
      (stands_by_jobs ticket lanes.sides ∙ ap (list_any (has_job ticket)) (sym same) ∙ sym (stands_by_jobs ticket after.sides) ∙ stands)

  end_has : (ticket : ℕ) (side : BlockOf (JobState W)) (room : Bool) → has_room side ≡ room
      → has_ticket ticket (cond room (changed ending side) side) ≡ has_ticket ticket side
  end_has ticket side true free = ap (is_ticket ticket) (sym (free_has_none side.side.stage free))
  end_has ticket side false busy = refl

  ends_have : (ticket : ℕ) (sides : List (BlockOf (JobState W))) → list_any (has_ticket ticket) (map ended_where_free sides) ≡ list_any (has_ticket ticket) sides
  ends_have ticket [] = refl
  ends_have ticket (side ∷ sides) =
      ap (λ (first : Bool). first || list_any (has_ticket ticket) (map ended_where_free sides)) (end_has ticket side (has_room side) refl)
      ∙ ap (λ (rest : Bool). has_ticket ticket side || rest) (ends_have ticket sides)

  -- those in which nothing was are ended
  pub only_end_out : (node : NodeState) (lanes after : LanesState W) → OnlyEnd (Some lanes) (Some after) → LanesStayOut node node lanes after
  only_end_out node lanes after ends all ticket stands =
      ⊎_elim
      (λ (same : after ≡ lanes). all ticket (ap (λ (l : LanesState W). list_any (has_ticket ticket) l.sides) (sym same) ∙ stands))
      (λ (ended : after ≡ with_free_ended lanes).
      all ticket
      (sym (ap (λ (l : LanesState W). list_any (has_ticket ticket) l.sides) ended ∙ ends_have ticket lanes.sides) ∙ stands))
      ends

  -- A job begins, and goes into a lane

  put_out : (old new : NodeState) (lanes after : LanesState W) (place : ℕ) (job : JobState W) → job.ticket ≡ next_ticket old.block
      → Calls (Some NodeCall.begin) old new → after ≡ with_side place (putting job) lanes → LanesStayOut old new lanes after
  put_out old new lanes after place job is calls put all ticket stands =
      let begun = calls (λ value. Ok []) in
      let now : list_any (has_ticket ticket) (set lanes.sides place (changed (putting job) (side_at place lanes))) ≡ true =
      sym (ap (λ (l : LanesState W). list_any (has_ticket ticket) l.sides) put) ∙ stands in
      let out : is_out ticket (begins old.block.jobs) ≡ true =
      ⊎_elim
      (λ (here : has_ticket ticket (changed (putting job) (side_at place lanes)) ≡ true).
      let its : job.ticket ≡ ticket = eqb-true job.ticket ticket here in
      subst (λ (n : ℕ). is_out n (begins old.block.jobs) ≡ true) (sym is ∙ its) (next_out old.block.jobs))
      (λ (before : list_any (has_ticket ticket) lanes.sides ≡ true). begun_out old.block.jobs ticket (all ticket before))
      (set_passes (has_ticket ticket) lanes.sides place (changed (putting job) (side_at place lanes)) now) in
      subst (λ (node : NodeState). is_out ticket node.block.jobs ≡ true) (sym begun) out

  kept_out : (old new : NodeState) (lanes after : LanesState W) → Calls (Some NodeCall.begin) old new → after ≡ lanes → LanesStayOut old new lanes after
  kept_out old new lanes after calls kept all ticket stands =
      subst (λ (node : NodeState). is_out ticket node.block.jobs ≡ true) (sym (calls (λ value. Ok [])))
      (begun_out old.block.jobs ticket
      (all ticket (ap (λ (l : LanesState W). list_any (has_ticket ticket) l.sides) (sym kept) ∙ stands)))

  pub begun_stays : {A J : Type 0} (result : Result A J) (found : Option ℕ) (old new : NodeState) (lanes after : LanesState W) (job : JobState W)
      → position has_room lanes.sides ≡ found → list_any has_room lanes.sides ≡ true → job.ticket ≡ next_ticket old.block
      → Calls (Some NodeCall.begin) old new
      → OnOk result (ForSome found (λ place. after ≡ with_side place (putting job) lanes)) → OnErr result (after ≡ lanes)
      → LanesStayOut old new lanes after
  begun_stays (Ok done) (Some place) old new lanes after job at room is calls put kept =
      put_out old new lanes after place job is calls (put place refl)
  begun_stays (Ok done) None old new lanes after job at room is calls put kept =
      absurd (let never = sym room ∙ none_passes has_room lanes.sides at in cc)
  begun_stays (Err back) found old new lanes after job at room is calls put kept = kept_out old new lanes after calls kept

  -- A result comes back, and its lane is free

  freed_has : (ticket place : ℕ) (mid : LanesState W) → list_any (has_ticket ticket) (set mid.sides place (changed clearing (side_at place mid))) ≡ true
      → list_any (has_ticket ticket) mid.sides ≡ true
  freed_has ticket place mid stands =
      ⊎_elim (λ (never : false ≡ true). absurd (cc)) (λ (before : list_any (has_ticket ticket) mid.sides ≡ true). before)
      (set_passes (has_ticket ticket) mid.sides place (changed clearing (side_at place mid)) stands)

  pub freed_stays : {E : Type 0} (makes : Value → Result (List Value) ℕ) (result : Result Bool E) (did : Bool) (old new : NodeState)
      (lanes mid after : LanesState W) (place : ℕ) (done : JobState W)
      → ((ticket : ℕ) → is_out ticket old.block.jobs ≡ true → has_work old.block.kind ≡ true)
      → result ≡ Ok did → TakesBack makes done.ticket result old new → jobs_of mid.sides ≡ jobs_of lanes.sides
      → stage_at place mid ≡ BlockStage.hand done → after ≡ with_side place clearing mid
      → ForSome (ticket_at (stage_at place mid)) (λ ticket. list_any (has_ticket ticket) after.sides ≡ false) → LanesStayOut old new lanes after
  freed_stays makes result did old new lanes mid after place done works told back same in_hand is gone all ticket stands =
      let now : list_any (has_ticket ticket) (set mid.sides place (changed clearing (side_at place mid))) ≡ true =
      sym (ap (λ (l : LanesState W). list_any (has_ticket ticket) l.sides) is) ∙ stands in
      let out = jobs_stay_out old lanes mid same all ticket (freed_has ticket place mid now) in
      let none : list_any (has_ticket done.ticket) after.sides ≡ false = gone done.ticket (ap ticket_at in_hand) in
      taken_out makes result did done.ticket ticket old new told back (works ticket out)
      (λ (one : ticket ≡ done.ticket).
      let wrong = sym stands ∙ ap (λ (n : ℕ). list_any (has_ticket n) after.sides) one ∙ none in absurd (cc))
      out

-- only a block with a function has a job out
pub works_where : {W : Type 0} (layout : Layout W) (meaning : ℕ → Value → Result (List Value) ℕ) (b : ℕ) (node : NodeState)
    → ∥ NodeLaw layout meaning b node ∥₁ → (ticket : ℕ) → is_out ticket node.block.jobs ≡ true → has_work node.block.kind ≡ true
works_where layout meaning b node law ticket out =
    ∥∥₁_elim law (Bool-set _ _) (λ known. (block_planned layout meaning b node known).works ticket out)

pub made_out : {W : Type 0} (node : NodeState) (lanes : Option (LanesState W)) → ForSome lanes (λ its. list_all has_room its.sides ≡ true)
    → ForSome lanes (λ its. LanesAreOut node its)
made_out node lanes free its is = new_out node its (free its is)
