-- What keeps a round in order without a wish: what leaves ends, queues and what waits alone, a settled step, a tuple that is made, and
-- a link that is new.
use Rattle.std.proofs.Common.{◌≡◌, ◌≢◌, ℕ, zero, suc, ◌+◌, ◌<◌, ◌≤◌, ◌==◌, ◌&&◌, cond, not, Bool, true, false, List, [], ◌∷◌, ◌++◌, length, set, drop, Option, Some, None, refl, ap, sym, ◌∙◌, subst, inl, inr, arith}
use Rattle.std.proofs.lemmas.Bool.{cases_eq, cases_lt, and_parts}
use Rattle.std.proofs.lemmas.List.{length-set, length-map, get_or-set_same, get_or-set_other}
use Rattle.flow_value.specs.declared.value.Value.{Value}
use Rattle.flow_link.specs.declared.stage.TargetStage.{TargetStage}
use Rattle.flow_link.specs.declared.stage.TargetStage.TheVariants.{Free, Postponed, Asking, Holding}
use Rattle.flow_link.specs.Lists.{is_empty}
use Rattle.flow_intake.specs.Port.{EndState, PortState, fresh_end, link_in, stage_in, stage_at, coming, count_at, is_coming, is_queued}
use Rattle.flow_intake.specs.PortLaw.{is_in}
use Rattle.flow_intake.specs.Calls.{first_of, is_postponed, takes_next}
use Rattle.flow_intake.proofs.CountsOfEnds.{count_there, count_added}
use Rattle.flow_group.specs.declared.round.RoundStep.{RoundStep}
use Rattle.flow_group.specs.declared.round.RoundStep.TheVariants as steps
use Rattle.flow_group.specs.declared.round.Source.{Source}
use Rattle.flow_group.specs.Round.{RoundState, port_in, has_sources, reserves, none_comes, is_asked, is_asking, is_taken, front_stage, front_source, stage_from, source_from, source_of, step_after, settles}
use Rattle.flow_group.specs.RoundLaw.{RoundLaw, PortInRound, SameEnds, InTurn, level_of, takes_freely}
use Rattle.flow_group.specs.Tuple.{has_first, has_tuple, takes_tuple}
use Rattle.flow_group.proofs.RoundKeeps.{each_port, some_comes, all_there_set, there_at}
use Rattle.flow_group.proofs.RoundMoves.{none_comes_same, level_same}
use Rattle.flow_group.proofs.RoundStays.{rounds_kept}
use Rattle.flow_group.proofs.RoundTurn.{turns_kept}
use Rattle.flow_block.proofs.PortsChange.{kept_at_one, kept_at_all}
use Rattle.flow_kinds.specs.RoundOrder.{took_at, QueueWaits, RoundFits}
use Rattle.flow_kinds.proofs.BlockStays.{SamePorts}

-- Ports alike

-- what a call leaves of ports that changes neither their ends nor their queues, nor what waits there
pub record Alike (ports later : List PortState) : Type 0 where
  pub as_many : length later ≡ length ports
  pub ends : (q : ℕ) → (port_in later q).ends ≡ (port_in ports q).ends
  pub queue : (q : ℕ) → (port_in later q).queue ≡ (port_in ports q).queue
  pub waiting : (q : ℕ) → (port_in later q).waiting ≡ (port_in ports q).waiting

pub same_alike : (ports later : List PortState) → SamePorts ports later → Alike ports later
same_alike ports later same = record {
  as_many = same.as_many;
  ends = λ q. ap (λ (port : PortState). port.ends) (same.each q);
  queue = λ q. ap (λ (port : PortState). port.queue) (same.each q);
  waiting = λ q. ap (λ (port : PortState). port.waiting) (same.each q);
}

read_both : {A : Type 0} (f : PortState → A) (ports : List PortState) (p q : ℕ) (a b : PortState) → f b ≡ f a
    → f (port_in (set ports p b) q) ≡ f (port_in (set ports p a) q)
read_both f [] p q a b same = refl
read_both f (port ∷ ports) zero zero a b same = same
read_both f (port ∷ ports) zero (suc q) a b same = refl
read_both f (port ∷ ports) (suc p) zero a b same = refl
read_both f (port ∷ ports) (suc p) (suc q) a b same = read_both f ports p q a b same

pub set_alike : (ports : List PortState) (p : ℕ) (a b : PortState) → b.ends ≡ a.ends → b.queue ≡ a.queue → b.waiting ≡ a.waiting
    → Alike (set ports p a) (set ports p b)
set_alike ports p a b ends queue waiting = record {
  as_many = length-set ports p b ∙ sym (length-set ports p a);
  ends = λ q. read_both (λ (port : PortState). port.ends) ports p q a b ends;
  queue = λ q. read_both (λ (port : PortState). port.queue) ports p q a b queue;
  waiting = λ q. read_both (λ (port : PortState). port.waiting) ports p q a b waiting;
}

as_before : (ports later : List PortState) → Alike ports later → SameEnds ports later
as_before ports later alike = record { as_many = alike.as_many; ends = alike.ends; queue = alike.queue }

queue_alike : (port later : PortState) → later.ends ≡ port.ends → later.queue ≡ port.queue → QueueWaits port → QueueWaits later
queue_alike port later ends queue waits k there =
    ap (λ (now : List EndState). is_queued (stage_in k now)) ends ∙ waits k (sym (ap (is_in k) queue) ∙ there)

pub fits_alike : (round : RoundState) (ports later : List PortState) → RoundFits round ports → Alike ports later → RoundFits round later
fits_alike round ports later fits alike = record {
  law = rounds_kept.frame round.step ports later (took_at ports) (took_at later) fits.law (as_before ports later alike) (λ p. ap length (alike.waiting p));
  turn = turns_kept.frame round.sources round.step ports later fits.turn (as_before ports later alike);
  queues = λ p l. queue_alike (port_in ports p) (port_in later p) (alike.ends p) (alike.queue p) (fits.queues p (near p l));
  idle = λ none p l. ap (count_at is_coming) (alike.ends p) ∙ fits.idle none p (near p l);
}
  where
    near : (p : ℕ) → p < length later → p < length ports
    near p l = let many = alike.as_many in omega (arith, l, many)

-- how many were taken may be told in another way
pub retook : (step : RoundStep) (ports : List PortState) (took now : ℕ → ℕ) → RoundLaw step ports took → ((p : ℕ) → now p ≡ took p)
    → RoundLaw step ports now
retook step ports took now law same =
    rounds_kept.frame step ports ports took now law (record { as_many = refl; ends = λ q. refl; queue = λ q. refl }) same

-- What is queued, and what comes

queued_there : (ends : List EndState) (j : ℕ) → is_queued (stage_in j ends) ≡ true → j < length ends
queued_there [] j e = absurd (cc)
queued_there (end ∷ ends) zero e = omega arith
queued_there (end ∷ ends) (suc j) e = let l = queued_there ends j e in omega (arith, l)

asked_tells : (stage : TargetStage) → is_asked stage ≡ true → (is_queued stage ≡ true) × (is_coming stage ≡ true)
asked_tells (Asking i) e = (refl, refl)
asked_tells (Holding i) e = (refl, refl)
asked_tells stage e = absurd (cc)

waiting_queued : (stage : TargetStage) → is_postponed stage ≡ true → is_queued stage ≡ true
waiting_queued (Postponed i) e = refl
waiting_queued stage e = absurd (cc)

front_asked : (port : PortState) (place : Option ℕ) → is_asked (stage_from place port) ≡ true → 1 ≤ coming port
front_asked port None e = absurd (cc)
front_asked port (Some j) e =
    let tells = asked_tells (stage_at j port) e in
    let counted = count_there is_coming port.ends j (queued_there port.ends j tells.0) in
    let one : ◌≡◌ {A = ℕ} (cond (is_coming (stage_at j port)) 1 0) 1 = ap (λ (b : Bool). cond {A = ℕ} b 1 0) tells.1 in
    omega (arith, counted, one)

pub none_of : (ports : List PortState) → ((p : ℕ) → p < length ports → coming (port_in ports p) ≡ 0) → none_comes ports ≡ true
none_of [] none = refl
none_of (port ∷ ports) none =
    ap (λ (n : ℕ). (n == 0) && none_comes ports) (none 0 (omega arith)) ∙ none_of ports (λ p l. none (suc p) (omega (arith, l)))

-- where nothing comes, nobody is asked out of turn
pub none_in_turn : (sources : List Source) (step : RoundStep) (ports : List PortState) → none_comes ports ≡ true → InTurn sources step ports
none_in_turn sources step ports none is p q pl ql asked waits =
    absurd (let some = some_comes ports p pl (front_asked (port_in ports p) (first_of (port_in ports p).queue) asked) in
    let no : true ≡ false = sym none ∙ some in cc)

pub never_in_turn : (sources : List Source) (step : RoundStep) (ports : List PortState) → (step ≡ steps.Asks → ⊥) → InTurn sources step ports
never_in_turn sources step ports never is p q pl ql asked waits = absurd (never is)

-- What becomes of the step

not_asks : steps.Releases ≡ steps.Asks → ⊥
not_asks e = cc

claims_not_asks : steps.Claims ≡ steps.Asks → ⊥
claims_not_asks e = cc

-- where nothing in front goes, and what came comes still, the step stays
pub stays_step : (step : RoundStep) (none : Bool) → ((step ≡ steps.Asks → ⊥) → none ≡ false) → step_after step false none ≡ step
stays_step steps.Asks none some = refl
stays_step steps.Releases none some = ap (λ (b : Bool). cond b steps.Asks steps.Releases) (some not_asks)
stays_step steps.Claims none some = ap (λ (b : Bool). cond b steps.Asks steps.Claims) (some claims_not_asks)

idle_by : (step : RoundStep) (none : Bool) → ((step ≡ steps.Asks → ⊥) → none ≡ false) → none ≡ true → step ≡ steps.Asks
idle_by steps.Asks none some e = refl
idle_by steps.Releases none some e = let no : false ≡ true = sym (some not_asks) ∙ e in absurd (cc)
idle_by steps.Claims none some e = let no : false ≡ true = sym (some claims_not_asks) ∙ e in absurd (cc)

-- a round without sources asks
pub idle_asks : (round : RoundState) (ports : List PortState) → RoundFits round ports → reserves round ≡ false → round.step ≡ steps.Asks
idle_asks round ports fits none = idle_by round.step (none_comes ports) fits.law.under_way (none_of ports (fits.idle none))

asks_still : (gone none : Bool) → none ≡ true → steps.Asks ≡ step_after steps.Asks gone none
asks_still true true e = refl
asks_still false true e = refl
asks_still gone false e = absurd (cc)

settled_where : (some : Bool) (round : RoundState) (gone : Bool) (ports : List PortState)
    → (some ≡ false → (none_comes ports ≡ true) × (round.step ≡ steps.Asks))
    → (cond some (record round { step = step_after round.step gone (none_comes ports) }) round).step ≡ step_after round.step gone (none_comes ports)
settled_where true round gone ports idle = refl
settled_where false round gone ports idle =
    let both = idle refl in
    both.1 ∙ asks_still gone (none_comes ports) both.0 ∙ sym (ap (λ (s : RoundStep). step_after s gone (none_comes ports)) both.1)

sources_where : (some : Bool) (round : RoundState) (step : RoundStep) → (cond some (record round { step = step }) round).sources ≡ round.sources
sources_where true round step = refl
sources_where false round step = refl

pub settled_sources : (gone : Bool) (ports : List PortState) (round : RoundState) → (settles gone ports round).sources ≡ round.sources
settled_sources gone ports round = sources_where (reserves round) round (step_after round.step gone (none_comes ports))

-- a round that goes on with other ports
module _ (round : RoundState) (gone : Bool) (ports later : List PortState) (fits : RoundFits round ports)
    (law : RoundLaw (step_after round.step gone (none_comes later)) later (took_at later))
    (turn : InTurn round.sources (step_after round.step gone (none_comes later)) later)
    (queues : (p : ℕ) → p < length later → QueueWaits (port_in later p))
    (idle : reserves round ≡ false → (p : ℕ) → p < length later → coming (port_in later p) ≡ 0) where
  step_is : (settles gone later round).step ≡ step_after round.step gone (none_comes later)
  step_is = settled_where (reserves round) round gone later (λ none. (none_of later (idle none), idle_asks round ports fits none))

  pub settles_fit : RoundFits (settles gone later round) later
  settles_fit = record {
    law = subst (λ (s : RoundStep). RoundLaw s later (took_at later)) (sym step_is) law;
    turn = subst (λ (sources : List Source). InTurn sources (settles gone later round).step later) (sym (settled_sources gone later round))
        (subst (λ (s : RoundStep). InTurn round.sources s later) (sym step_is) turn);
    queues = queues;
    idle = λ none. idle (sym (ap has_sources (settled_sources gone later round)) ∙ none);
  }

-- A tuple is made

-- each port has one message less ahead of the tuples
lower : (step : RoundStep) (ports : List PortState) (took now : ℕ → ℕ) → RoundLaw step ports took
    → ((p : ℕ) → p < length ports → now p + 1 ≡ took p) → RoundLaw step ports now
lower step ports took now law less = record {
  each = law.each;
  under_way = law.under_way;
  there = law.there;
  level = λ p q pl ql. level_by step (port_in ports p) (port_in ports q) (took p) (took q) (now p) (now q) (less p pl) (less q ql) (law.level p q pl ql);
}
  where
    level_by : (step : RoundStep) (port other : PortState) (a b c d : ℕ) → c + 1 ≡ a → d + 1 ≡ b → level_of step port a ≡ level_of step other b
        → level_of step port c ≡ level_of step other d
    level_by steps.Asks port other a b c d less fewer same = omega (arith, less, fewer, same)
    level_by steps.Releases port other a b c d less fewer same = omega (arith, less, fewer, same)
    level_by steps.Claims port other a b c d less fewer same = omega (arith, less, fewer, same)

one_off : (values : List Value) → not (is_empty values) ≡ true → length (drop 1 values) + 1 ≡ length values
one_off [] e = absurd (cc)
one_off (value ∷ values) e = omega arith

pub tuple_keeps : (round : RoundState) (ports : List PortState) → RoundFits round ports → has_tuple ports ≡ true → RoundFits round (takes_tuple ports)
tuple_keeps round ports fits has = record {
  law = lower round.step later (took_at ports) (took_at later)
      (rounds_kept.frame round.step ports later (took_at ports) (took_at ports) fits.law same (λ p. refl)) less;
  turn = turns_kept.frame round.sources round.step ports later fits.turn same;
  queues = λ p l. queue_alike (port_in ports p) (port_in later p) (same.ends p) (same.queue p) (fits.queues p (near p l));
  idle = λ none p l. ap (count_at is_coming) (same.ends p) ∙ fits.idle none p (near p l);
}
  where
    later : List PortState
    later = takes_tuple ports

    same : SameEnds ports later
    same = record {
      as_many = length-map ports takes_next;
      ends = λ q. kept_at_all (λ (x : PortState). x.ends) takes_next ports q (λ x. refl);
      queue = λ q. kept_at_all (λ (x : PortState). x.queue) takes_next ports q (λ x. refl);
    }

    near : (p : ℕ) → p < length later → p < length ports
    near p l = omega (arith, l, length-map ports takes_next)

    off_at : (xs : List PortState) (p : ℕ) → p < length xs → has_tuple xs ≡ true
        → length (port_in (takes_tuple xs) p).waiting + 1 ≡ length (port_in xs p).waiting
    off_at [] p l all = absurd (omega (arith, l))
    off_at (x ∷ xs) zero l all = one_off x.waiting (and_parts (has_first x) (has_tuple xs) all).0
    off_at (x ∷ xs) (suc p) l all = off_at xs p (omega (arith, l)) (and_parts (has_first x) (has_tuple xs) all).1

    less : (p : ℕ) → p < length later → took_at later p + 1 ≡ took_at ports p
    less p l = off_at ports p (near p l) has

-- One port changes

-- the queue of a port of which one end stands elsewhere
pub waits_after : (port now : PortState) (k : ℕ) (end : EndState) → k < length port.ends → now.ends ≡ set port.ends k end
    → ((j : ℕ) → j ≢ k → is_in j now.queue ≡ true → is_in j port.queue ≡ true)
    → (is_in k now.queue ≡ true → is_queued end.stage ≡ true) → QueueWaits port → QueueWaits now
waits_after port now k end l ends others mine waits j there = elim (cases_eq j k) [
  | inl same ↦
      let here : is_in k now.queue ≡ true = subst (λ (n : ℕ). is_in n now.queue ≡ true) same there in
      ap (λ (n : ℕ). is_queued (stage_at n now)) same ∙ ap (λ (es : List EndState). is_queued (stage_in k es)) ends
      ∙ ap (λ (e : EndState). is_queued e.stage) (get_or-set_same port.ends k end (fresh_end 0) l) ∙ mine here
  | inr other ↦
      ap (λ (es : List EndState). is_queued (stage_in j es)) ends
      ∙ ap (λ (e : EndState). is_queued e.stage) (get_or-set_other port.ends k j end (fresh_end 0) other) ∙ waits j (others j other there)
]

-- one port changes, and what comes there and what waits there stays
module _ (round : RoundState) (ports : List PortState) (fits : RoundFits round ports) (p : ℕ) (here : p < length ports) (now : PortState)
    (comes : coming now ≡ coming (port_in ports p)) (waits : now.waiting ≡ (port_in ports p).waiting) (queue : QueueWaits now) where
  abbrev changed : List PortState
  changed = set ports p now

  step_stays : (gone : Bool) → gone ≡ false → step_after round.step gone (none_comes changed) ≡ round.step
  step_stays gone is =
      ap (λ (b : Bool). step_after round.step b (none_comes changed)) is
      ∙ stays_step round.step (none_comes changed) (λ not. none_comes_same ports p now here comes ∙ fits.law.under_way not)

  -- the round is as far as before
  pub still_fits : RoundLaw round.step changed (took_at ports) → InTurn round.sources round.step changed → RoundFits round changed
  still_fits law turn = record {
    law = retook round.step changed (took_at ports) (took_at changed) law
        (λ q. kept_at_one (λ (x : PortState). length x.waiting) ports p q now (ap length waits));
    turn = turn;
    queues = each_port (λ q x. QueueWaits x) ports p now here queue (λ q l other. fits.queues q l);
    idle = λ none. each_port (λ q x. coming x ≡ 0) ports p now here (comes ∙ fits.idle none p here) (λ q l other. fits.idle none q l);
  }

  -- and so it is where nothing in front goes
  pub goes_still : (gone : Bool) → gone ≡ false → RoundLaw (step_after round.step gone (none_comes changed)) changed (took_at ports)
      → InTurn round.sources (step_after round.step gone (none_comes changed)) changed → RoundFits round changed
  goes_still gone is law turn =
      still_fits (subst (λ (s : RoundStep). RoundLaw s changed (took_at ports)) (step_stays gone is) law)
      (subst (λ (s : RoundStep). InTurn round.sources s changed) (step_stays gone is) turn)

-- A link that is new

added_stage : (ends : List EndState) (link j : ℕ) → stage_in j (ends ++ fresh_end link ∷ []) ≡ stage_in j ends
added_stage [] link zero = refl
added_stage [] link (suc j) = refl
added_stage (end ∷ ends) link zero = refl
added_stage (end ∷ ends) link (suc j) = added_stage ends link j

added_link : (ends : List EndState) (link j : ℕ) → j < length ends → link_in j (ends ++ fresh_end link ∷ []) ≡ link_in j ends
added_link [] link j l = absurd (omega (arith, l))
added_link (end ∷ ends) link zero l = refl
added_link (end ∷ ends) link (suc j) l = added_link ends link j (omega (arith, l))

each_added : (P : ℕ → TargetStage → Type 0) (ends : List EndState) (link : ℕ) → ((j : ℕ) → P j Free)
    → ((j : ℕ) → j < length ends → P j (stage_in j ends))
    → (j : ℕ) → j < length (ends ++ fresh_end link ∷ []) → P j (stage_in j (ends ++ fresh_end link ∷ []))
each_added P ends link free each j l = subst (P j) (sym (added_stage ends link j)) (elim (cases_lt j (length ends)) [
  | inl near ↦ each j near
  | inr far ↦ subst (P j) (sym (beyond ends j far)) (free j)
])
  where
    beyond : (ends : List EndState) (j : ℕ) → length ends ≤ j → stage_in j ends ≡ Free
    beyond [] j l = refl
    beyond (end ∷ ends) zero l = absurd (omega (arith, l))
    beyond (end ∷ ends) (suc j) l = beyond ends j (omega (arith, l))

abbrev pub with_new : ℕ → PortState → PortState
with_new link port = record port { ends = port.ends ++ fresh_end link ∷ [] }

module _ (round : RoundState) (ports : List PortState) (fits : RoundFits round ports) (p : ℕ) (here : p < length ports) (link : ℕ) where
  abbrev port : PortState
  port = port_in ports p

  abbrev later : List PortState
  later = set ports p (with_new link port)

  old_port : PortInRound round.step port
  old_port = fits.law.each p here

  same_coming : coming (with_new link port) ≡ coming port
  same_coming = count_added is_coming port.ends link refl

  port_added : PortInRound round.step (with_new link port)
  port_added = record {
    freely = each_added (λ j stage. takes_freely stage ≡ false) port.ends link (λ j. refl) old_port.freely;
    front = each_added (λ j stage. is_asked stage ≡ true → first_of port.queue ≡ Some j) port.ends link (λ j e. absurd (cc)) old_port.front;
    one = let most = old_port.one in let same = same_coming in omega (arith, most, same);
    taken = each_added (λ j stage. is_taken stage ≡ true → round.step ≡ steps.Claims) port.ends link (λ j e. absurd (cc)) old_port.taken;
    none_asked = λ is. each_added (λ j stage. is_asking stage ≡ false) port.ends link (λ j. refl) (old_port.none_asked is);
  }

  near : (q : ℕ) → q < length later → q < length ports
  near q l = omega (arith, l, length-set ports p (with_new link port))

  coming_at : (q : ℕ) → q < length later → coming (port_in later q) ≡ coming (port_in ports q)
  coming_at = each_port (λ q x. coming x ≡ coming (port_in ports q)) ports p (with_new link port) here same_coming (λ q l other. refl)

  law_added : RoundLaw round.step later (took_at ports)
  law_added = record {
    each = each_port (λ q x. PortInRound round.step x) ports p (with_new link port) here port_added (λ q l other. fits.law.each q l);
    under_way = λ not. none_comes_same ports p (with_new link port) here same_coming ∙ fits.law.under_way not;
    there = λ is some.
        let all = fits.law.there is (sym (none_comes_same ports p (with_new link port) here same_coming) ∙ some) in
        all_there_set ports p (with_new link port) all (there_at ports p here all);
    level = λ q r ql rl.
        level_same round.step (port_in later q) (port_in ports q) (took_at ports q) (coming_at q ql)
        ∙ fits.law.level q r (near q ql) (near r rl)
        ∙ sym (level_same round.step (port_in later r) (port_in ports r) (took_at ports r) (coming_at r rl));
  }

  took_same : (q : ℕ) → took_at later q ≡ took_at ports q
  took_same q = kept_at_one (λ (x : PortState). length x.waiting) ports p q (with_new link port) refl

  -- what stands in front stands as before, and comes from the same source
  record SameFront (before now : PortState) : Type 0 where
    stage : front_stage now ≡ front_stage before
    source : is_queued (front_stage before) ≡ true → front_source round.sources now ≡ front_source round.sources before

  front_same : (place : Option ℕ) → first_of port.queue ≡ place → SameFront port (with_new link port)
  front_same None e = record {
    stage = ap (λ (x : Option ℕ). stage_from x (with_new link port)) e ∙ sym (ap (λ (x : Option ℕ). stage_from x port) e);
    source = λ _. ap (λ (x : Option ℕ). source_from round.sources x (with_new link port)) e ∙ sym (ap (λ (x : Option ℕ). source_from round.sources x port) e);
  }
  front_same (Some j) e = record {
    stage = ap (λ (x : Option ℕ). stage_from x (with_new link port)) e ∙ added_stage port.ends link j ∙ sym (ap (λ (x : Option ℕ). stage_from x port) e);
    source = λ queued.
        let l = queued_there port.ends j (sym (ap (λ (x : Option ℕ). is_queued (stage_from x port)) e) ∙ queued) in
        ap (λ (x : Option ℕ). source_from round.sources x (with_new link port)) e
        ∙ ap (λ (n : ℕ). source_of n round.sources) (added_link port.ends link j l) ∙ sym (ap (λ (x : Option ℕ). source_from round.sources x port) e);
  }

  fronts_at : (q : ℕ) → q < length later → SameFront (port_in ports q) (port_in later q)
  fronts_at = each_port (λ q x. SameFront (port_in ports q) x) ports p (with_new link port) here (front_same (first_of port.queue) refl)
      (λ q l other. record { stage = refl; source = λ _. refl })

  turn_added : InTurn round.sources round.step later
  turn_added is q r ql rl asked waits =
      let mine = fronts_at q ql in
      let theirs = fronts_at r rl in
      let before : is_asked (front_stage (port_in ports q)) ≡ true = sym (ap is_asked mine.stage) ∙ asked in
      let waited : is_postponed (front_stage (port_in ports r)) ≡ true = sym (ap is_postponed theirs.stage) ∙ waits in
      let order = fits.turn is q r (near q ql) (near r rl) before waited in
      let from = mine.source (asked_tells (front_stage (port_in ports q)) before).0 in
      let to = theirs.source (waiting_queued (front_stage (port_in ports r)) waited) in
      omega (arith, order, from, to)

  pub new_keeps : RoundFits round later
  new_keeps = record {
    law = retook round.step later (took_at ports) (took_at later) law_added took_same;
    turn = turn_added;
    queues = each_port (λ q x. QueueWaits x) ports p (with_new link port) here
        (λ k there. ap is_queued (added_stage port.ends link k) ∙ fits.queues p here k there) (λ q l other. fits.queues q l);
    idle = λ none q l. coming_at q l ∙ fits.idle none q (near q l);
  }
