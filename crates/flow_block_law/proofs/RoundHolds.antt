-- Each call keeps the round of a join that reserves in order.
use Rattle.std.proofs.Common.{◌≡◌, ℕ, ◌<◌, ◌≤◌, ◌==◌, ◌||◌, cond, Bool, true, false, List, [], ◌∷◌, ◌++◌, length, map, set, filter, Option, Some, None, is_some, Result, refl, ap, sym, ◌∙◌, subst, arith, eq-eqb}
use Rattle.std.proofs.lemmas.Bool.{and_parts}
use Rattle.std.proofs.lemmas.List.{length-set, length-map}
use Rattle.flow_value.specs.declared.value.Value.{Value}
use Rattle.flow_link.specs.declared.trace.Mark.{Mark}
use Rattle.flow_link.specs.declared.trace.Mark.TheVariants.{Took, Gave, Complete, Fault, Done}
use Rattle.flow_link.specs.declared.draft.BlockKind.{BlockKind}
use Rattle.flow_link.specs.declared.draft.BlockKind.TheVariants.{Join}
use Rattle.flow_link.specs.declared.plan.LinkTarget.{LinkTarget}
use Rattle.flow_link.specs.declared.plan.LinkTarget.TheVariants.{Port, Exit}
use Rattle.flow_link.specs.Layout.{Layout}
use Rattle.flow_link.specs.Lists.{below as numbers}
use Rattle.flow_link.proofs.ListTests.{never_both}
use Rattle.flow_link.specs.JournalGrows.{taken_by_mark}
use Rattle.flow_link.specs.Plan.{block_in, link_in, is_reserving, reserves_by_kind, is_write_once, is_one_taker, is_broadcast, ends_at, ends_at_port}
use Rattle.flow_link.specs.Trace.{took_at}
use Rattle.flow_link.proofs.KindsTell.{kind_tells}
use Rattle.flow_intake.specs.Port.{EndState, PortState, stage_at as port_stage, is_hand}
use Rattle.flow_intake.specs.PortLaw.{AreBelow, is_in}
use Rattle.flow_intake.specs.Calls.{first_of, is_front, loses_front, refuses, releases, closes, looks as port_looks, takes_next, port_closes}
use Rattle.flow_outlet.specs.Outlet.{head_of, gives}
use Rattle.flow_group.specs.declared.round.Source.{Source}
use Rattle.flow_group.specs.Round.{RoundState, has_sources, reserves, none_comes, settles, step_after}
use Rattle.flow_group.specs.RoundLaw.{SameEnds, RoundGoesOn, TurnGoesOn, FrontsWait}
use Rattle.flow_group.proofs.RoundStays.{rounds_kept}
use Rattle.flow_group.proofs.RoundTurn.{turns_kept}
use Rattle.flow_block.specs.Block.{port_in, port_at, with_port, makes, is_batch, is_join, is_batched_join}
use Rattle.flow_block.specs.Copies.{copy_place}
use Rattle.flow_block.specs.Node.{NodeState, NodeCall, after, hand_at, holds_in, takes_in, in_link_at, out_link_at, gives_from, makes_next_group, with_block}
use Rattle.flow_block.specs.Planned.{block_makes, enters, is_into, links_to, source_by}
use Rattle.flow_block.proofs.CopiesTaken.{taken_as_held}
use Rattle.flow_block.proofs.PassesFreely.{held_round}
use Rattle.flow_block.proofs.PortsChange.{kept_at_one, kept_at_all}
use Rattle.flow_block.proofs.RoomBack.{length_back, kept_back}
use Rattle.flow_block_law.specs.NodeLaw.{NodeLaw, InRound}
use Rattle.flow_block_law.specs.NodeKeeps.{MayCall, after_call, RoundStays}
use Rattle.flow_block_law.proofs.CopiesIdle.{no_copy_at}
use Rattle.flow_block_law.proofs.KindsBuilt.{next_by, makes_by}
use Rattle.flow_block_law.proofs.PortsHold.{took_as_many, took_elsewhere, took_one_more}
use Rattle.flow_block_law.proofs.WishesTell.{asks_so, claims_so, releases_so}

-- Ports whose ends and queues stay

pub one_framed : (ports : List PortState) (p : ℕ) (port : PortState) → port.ends ≡ (port_in ports p).ends
    → port.queue ≡ (port_in ports p).queue → SameEnds ports (set ports p port)
one_framed ports p port ends queue = record {
  as_many = length-set ports p port;
  ends = λ q. kept_at_one (λ (r : PortState). r.ends) ports p q port ends;
  queue = λ q. kept_at_one (λ (r : PortState). r.queue) ports p q port queue;
}

pub all_framed : (change : PortState → PortState) (ports : List PortState) → ((port : PortState) → (change port).ends ≡ port.ends)
    → ((port : PortState) → (change port).queue ≡ port.queue) → SameEnds ports (map change ports)
all_framed change ports ends queue = record {
  as_many = length-map ports change;
  ends = λ q. kept_at_all (λ (r : PortState). r.ends) change ports q ends;
  queue = λ q. kept_at_all (λ (r : PortState). r.queue) change ports q queue;
}

-- a round that goes on
settled : (gone : Bool) (ports : List PortState) (round : RoundState) → reserves round ≡ true
    → settles gone ports round ≡ record round { step = step_after round.step gone (none_comes ports) }
settled gone ports round some =
    ap (λ (b : Bool). cond b (record round { step = step_after round.step gone (none_comes ports) }) round) some

abbrev counts : List Mark → ℕ → ℕ
counts journal p = length (took_at p journal)

frame : (round : RoundState) (ports later : List PortState) (journal marked : List Mark) → SameEnds ports later
    → ((p : ℕ) → counts marked p ≡ counts journal p) → InRound round ports journal → InRound round later marked
frame round ports later journal marked same as_far kept = record {
  law = rounds_kept.frame round.step ports later (counts journal) (counts marked) kept.law same as_far;
  turns = turns_kept.frame round.sources round.step ports later kept.turns same;
}

goes : (gone : Bool) (round : RoundState) (ports : List PortState) (journal : List Mark) → reserves round ≡ true
    → RoundGoesOn round.step gone ports (counts journal) → TurnGoesOn round.sources round.step gone ports
    → InRound (settles gone ports round) ports journal
goes gone round ports journal some law turns =
    subst (λ (r : RoundState). InRound r ports journal) (sym (settled gone ports round some)) (record { law = law; turns = turns })

-- what is in front of a queue stands there, and its end is there
first_known : (count : ℕ) (queue : List ℕ) (k : ℕ) → AreBelow count queue → first_of queue ≡ Some k
    → (k < count) × (is_in k queue ≡ true)
first_known count [] k known e = absurd (cc)
first_known count (first ∷ queue) k known e =
    let same : first ≡ k = cc in (
      subst (λ (n : ℕ). n < count) same known.0,
      subst (λ (n : ℕ). is_in k (n ∷ queue) ≡ true) (sym same) (ap (λ (b : Bool). b || is_in k queue) (eq-eqb k k refl)),
    )

-- A join that reserves has a round, where a link leads into it

more_pass : (f g : ℕ → Bool) → ((x : ℕ) → f x ≡ true → g x ≡ true) → (xs : List ℕ) → length (filter f xs) ≤ length (filter g xs)
more_pass f g also [] = omega arith
more_pass f g also (x ∷ xs) = by (f x) (g x) refl (λ fx. also x fx) (more_pass f g also xs)
  where
    by : (fx gx : Bool) → g x ≡ gx → (fx ≡ true → g x ≡ true) → length (filter f xs) ≤ length (filter g xs)
        → length (cond fx (x ∷ filter f xs) (filter f xs)) ≤ length (cond gx (x ∷ filter g xs) (filter g xs))
    by true true is implied rest = omega (arith, rest)
    by true false is implied rest = absurd (let wrong : false ≡ true = sym is ∙ implied refl in cc)
    by false true is implied rest = omega (arith, rest)
    by false false is implied rest = rest

some_mapped : (f : ℕ → Source) (xs : List ℕ) → 0 < length xs → has_sources (map f xs) ≡ true
some_mapped f [] some = absurd (omega arith)
some_mapped f (x ∷ xs) some = refl

at_its_port : (b p : ℕ) (target : LinkTarget) → ends_at_port b p target ≡ true → ends_at b target ≡ true
at_its_port b p (Port n q) e = (and_parts (n == b) (q == p) e).0
at_its_port b p Exit e = absurd (cc)

joins : (kind : BlockKind) (greedy : Option Bool) → reserves_by_kind kind greedy ≡ true → is_join kind ≡ true
joins Join greedy e = refl
joins _ greedy e = absurd (cc)

-- only a join that reserves has sources
sources_where : (reserving : Bool) (all : List Source) → has_sources (cond reserving all []) ≡ true → reserving ≡ true
sources_where true all e = refl
sources_where false all e = absurd (cc)

-- Its sources stay

settles_stays : (gone : Bool) (ports : List PortState) (round : RoundState) → (settles gone ports round).sources ≡ round.sources
settles_stays gone ports round = by (reserves round)
  where
    by : (some : Bool) → (cond some (record round { step = step_after round.step gone (none_comes ports) }) round).sources ≡ round.sources
    by true = refl
    by false = refl

given_round : (k : ℕ) (head : Option Value) (node : NodeState) → (gives_from k head node).round ≡ node.round
given_round k None node = refl
given_round k (Some value) node = refl

made_round : (result : Value → Result (List Value) ℕ) (node : NodeState) (batched : Bool)
    → (cond batched (makes_next_group node) (with_block (makes result node.block) node)).round ≡ node.round
made_round result node true = refl
made_round result node false = refl

abbrev sources : NodeState → List Source
sources node = node.round.sources

sources_stay : (result : Value → Result (List Value) ℕ) (node : NodeState) (call : NodeCall) → sources (after result call node) ≡ sources node
sources_stay result node (NodeCall.refuse p k) =
    settles_stays (is_front k (port_at p node.block)) (with_port p (refuses k) node.block).ports node.round
sources_stay result node (NodeCall.release p k) = settles_stays false (with_port p (releases k) node.block).ports node.round
sources_stay result node (NodeCall.close p k) =
    let hand = hand_at p k node in
    settles_stays false (takes_in p k hand node).block.ports (takes_in p k hand node).round
    ∙ ap (λ (round : RoundState). round.sources) (held_round p k hand node)
sources_stay result node (NodeCall.look_in p k phase) =
    settles_stays (loses_front k phase (port_at p node.block)) (with_port p (port_looks k phase) node.block).ports node.round
sources_stay result node (NodeCall.give k) =
    ap (λ (round : RoundState). round.sources) (given_round k (head_of node.block.exits) node)
sources_stay result node NodeCall.make =
    ap (λ (round : RoundState). round.sources) (made_round result node (is_batched_join node.block.kind))
sources_stay result node (NodeCall.want p k) = refl
sources_stay result node (NodeCall.turn_down p k) = refl
sources_stay result node (NodeCall.postpone p k) = refl
sources_stay result node (NodeCall.consume p k) = refl
sources_stay result node (NodeCall.ask p k) = refl
sources_stay result node (NodeCall.claim p k) = refl
sources_stay result node (NodeCall.open_with p k value) = refl
sources_stay result node (NodeCall.offer k) = refl
sources_stay result node (NodeCall.hold k) = refl
sources_stay result node (NodeCall.deny k) = refl
sources_stay result node (NodeCall.withdraw k) = refl
sources_stay result node (NodeCall.end_link k how) = refl
sources_stay result node (NodeCall.look_out k phase) = refl
sources_stay result node (NodeCall.copy call) = refl
sources_stay result node NodeCall.begin = refl
sources_stay result node (NodeCall.complete p) = refl
sources_stay result node (NodeCall.fault number) = refl
sources_stay result node NodeCall.finish = refl

module _ {W : Type 0} (layout : Layout W) (meaning : ℕ → Value → Result (List Value) ℕ) (b : ℕ) (node : NodeState)
    (whole : NodeLaw layout meaning b node) (reserving : is_reserving (block_in layout.blocks b) ≡ true) where
  abbrev ports : List PortState
  ports = node.block.ports

  abbrev round : RoundState
  round = node.round

  abbrev took : ℕ → ℕ
  took = counts node.journal

  pub kept : InRound round ports node.journal
  kept = whole.round.in_round reserving

  pub is_a_join : is_join node.block.kind ≡ true
  is_a_join = ap is_join whole.shape.kind_is ∙ joins (block_in layout.blocks b).kind (block_in layout.blocks b).greedy reserving

  pub some : (p k : ℕ) → p < length ports → k < length (port_at p node.block).ends → reserves round ≡ true
  some p k below there =
      let entering = filter (enters layout b) (numbers (length layout.links)) in
      let ends = (port_at p node.block).ends in
      let as_many : length ends ≡ length (links_to layout b p) =
      sym (length-map ends (λ (end : EndState). end.link)) ∙ ap length (whole.shape.ports p below).links in
      let more = more_pass (is_into layout b p) (enters layout b) (λ l. at_its_port b p (link_in layout.links l).target) (numbers (length layout.links)) in
      ap has_sources (whole.round.sources_are
      ∙ ap (λ (so : Bool). cond so (map (source_by layout) entering) []) reserving)
      ∙ some_mapped (source_by layout) entering (omega (arith, as_many, more, there))

  takes_no_more : (p : ℕ) → p < length ports → (port_at p node.block).reserves ≡ false → ⊥
  takes_no_more p below free =
      let wrong : true ≡ false = sym reserving ∙ sym (whole.shape.ports p below).reserves_is ∙ free in
      cc

  pub front_there : (p k : ℕ) → p < length ports → first_of (port_at p node.block).queue ≡ Some k → k < length (port_at p node.block).ends
  front_there p k below front = (first_known (length (port_at p node.block).ends) (port_at p node.block).queue k (whole.ports p below).known front).0

  pub fronts_wait : FrontsWait ports
  fronts_wait p k below front =
      let law = whole.ports p below in
      let port = port_at p node.block in
      let is_known = first_known (length port.ends) port.queue k law.known front in
      sym (law.each k is_known.0).queued ∙ is_known.1

  -- whatever leaves ends and queues alone
  framed : (later : List PortState) (journal : List Mark) → SameEnds ports later → ((p : ℕ) → counts journal p ≡ took p)
      → InRound round later journal
  framed later journal same as_far = frame round ports later node.journal journal same as_far kept

  closed : (p k : ℕ) → p < length ports → k < length (port_at p node.block).ends → is_hand (port_stage k (port_at p node.block)) ≡ true
      → (hand : Option Value) → is_some hand ≡ true
      → let held = holds_in p k hand node in InRound (settles false held.block.ports held.round) held.block.ports held.journal
  closed p k below there stands None none = absurd (cc)
  closed p k below there stands (Some value) is =
      let port = port_at p node.block in
      let link = in_link_at p k node in
      let later = node.journal ++ Took p link value ∷ [] in
      goes false round (set ports p (closes k value port)) later (some p k below there)
      (rounds_kept.close round.step ports took kept.law p k below there value (counts later) stands
      (record { here = took_one_more p link value node.journal; elsewhere = λ q other. took_elsewhere p link value q node.journal other }))
      (turns_kept.close round.sources round.step ports took kept.law kept.turns p k below there value stands)

  given : (k : ℕ) (head : Option Value) → head_of node.block.exits ≡ head
      → let new = gives_from k head node in InRound new.round new.block.ports new.journal
  given k None head = kept
  given k (Some value) head =
      let block = node.block in
      let new = gives_from k (Some value) node in
      framed new.block.ports new.journal
      (record {
        as_many = length_back (gives k block.exits) block.copies block.kind (head_of block.exits) block.ports;
        ends = λ q. kept_back (gives k block.exits) block.copies block.kind (head_of block.exits) (λ (port : PortState). port.ends) block.ports q (λ back port. refl);
        queue = λ q. kept_back (gives k block.exits) block.copies block.kind (head_of block.exits) (λ (port : PortState). port.queue) block.ports q (λ back port. refl);
      })
      (λ q. took_as_many q node.journal (Gave (out_link_at k node) value) refl)

  stopped : (mark : Mark) → ((q : ℕ) → taken_by_mark (λ port link. port == q) mark ≡ [])
      → InRound round (map port_closes ports) (node.journal ++ mark ∷ [])
  stopped mark none =
      framed (map port_closes ports) (node.journal ++ mark ∷ []) (all_framed port_closes ports (λ port. refl) (λ port. refl))
      (λ q. took_as_many q node.journal mark (none q))

  abbrev RoundAfter : NodeCall → Type 0
  RoundAfter call =
      let new = after_call layout meaning b call node in
      InRound new.round new.block.ports new.journal

  after_each : (call : NodeCall) → MayCall layout meaning b call node → RoundAfter call
  after_each (NodeCall.want p k) may = absurd (takes_no_more p may.0.port may.1.freely)
  after_each (NodeCall.turn_down p k) may = record {
    law = rounds_kept.turn_down round.step ports took kept.law p k may.port may.place may.stands;
    turns = turns_kept.turn_down round.sources round.step ports took kept.law kept.turns p k may.port may.place;
  }
  after_each (NodeCall.postpone p k) may =
      let at = may.offered in
      record {
        law = rounds_kept.postpone round.step ports took kept.law p k at.port at.place at.stands;
        turns = turns_kept.postpone round.sources round.step ports took kept.law kept.turns p k at.port at.place fronts_wait at.stands;
      }
  after_each (NodeCall.refuse p k) may =
      let at = may.0 in
      let port = port_at p node.block in
      goes (is_front k port) round (set ports p (refuses k port)) node.journal (some p k at.port at.place)
      (rounds_kept.refuse round.step ports took kept.law p k at.port at.place at.stands)
      (turns_kept.refuse round.sources round.step ports took kept.law kept.turns p k at.port at.place at.stands)
  after_each (NodeCall.consume p k) may = absurd (takes_no_more p may.0.port may.1.freely)
  after_each (NodeCall.ask p k) may =
      let now = asks_so p k node may in
      record {
        law = rounds_kept.wishes.ask round.step ports took kept.law p k may.port may.place now.asking now.front now.waits now.there;
        turns = turns_kept.ask round.sources round.step ports took kept.law kept.turns p k may.port may.place now.asking now.front now.first;
      }
  after_each (NodeCall.claim p k) may =
      let now = claims_so p k node may in
      record {
        law = rounds_kept.wishes.claim round.step ports took kept.law p k may.port may.place now.all now.goes_on now.held;
        turns = turns_kept.claim round.sources round.step ports took kept.law kept.turns p k may.port may.place;
      }
  after_each (NodeCall.release p k) may =
      let now = releases_so p k node may in
      goes false round (set ports p (releases k (port_at p node.block))) node.journal now.some
      (rounds_kept.wishes.release round.step ports took kept.law p k may.port may.place now.failed now.held)
      (turns_kept.release round.sources round.step ports took kept.law kept.turns p k may.port may.place now.failed)
  after_each (NodeCall.open_with p k value) may = record {
    law = rounds_kept.opened round.step ports took kept.law p k may.port may.place value may.stands;
    turns = turns_kept.opened round.sources round.step ports took kept.law kept.turns p k may.port may.place value;
  }
  after_each (NodeCall.close p k) may =
      let hand = hand_at p k node in
      let many = kind_tells is_join true is_write_once false refl node.block.kind is_a_join in
      let there = ((whole.ports p may.port).each k may.place).hand in
      subst (λ (new : NodeState). InRound (settles false new.block.ports new.round) new.block.ports new.journal)
      (sym (taken_as_held p k hand node many))
      (closed p k may.port may.place may.stands hand (there ∙ may.stands))
  after_each (NodeCall.offer k) may = kept
  after_each (NodeCall.give k) may = given k (head_of node.block.exits) refl
  after_each (NodeCall.hold k) may = kept
  after_each (NodeCall.deny k) may = kept
  after_each (NodeCall.withdraw k) may = kept
  after_each (NodeCall.end_link k how) may = kept
  after_each (NodeCall.look_in p k phase) may =
      let port = port_at p node.block in
      goes (loses_front k phase port) round (set ports p (port_looks k phase port)) node.journal (some p k may.0.port may.0.place)
      (rounds_kept.look round.step ports took kept.law p k may.0.port may.0.place phase)
      (turns_kept.look round.sources round.step ports took kept.law kept.turns p k may.0.port may.0.place phase)
  after_each (NodeCall.look_out k phase) may = kept
  after_each (NodeCall.copy call) may =
      absurd (no_copy_at layout meaning b node whole (kind_tells is_join true is_one_taker true refl node.block.kind is_a_join) (copy_place call) may.place)
  after_each NodeCall.begin may = kept
  after_each NodeCall.make may =
      let kind = node.block.kind in
      next_by (λ (new : NodeState). InRound new.round new.block.ports new.journal) (block_makes layout meaning b) node
      (λ batched. never_both (is_join kind) is_a_join (kind_tells is_batched_join true is_join false refl kind batched))
      (λ grouped.
      makes_by (λ new. InRound round new.ports node.journal) (block_makes layout meaning b) node.block
      (λ batch. never_both (is_batch kind) batch (kind_tells is_join true is_batch false refl kind is_a_join))
      (λ tuples. framed (map takes_next ports) node.journal (all_framed takes_next ports (λ port. refl) (λ port. refl)) (λ q. refl))
      (λ broadcast. never_both (is_join kind) is_a_join (kind_tells is_broadcast true is_join false refl kind broadcast))
      (λ other alone single. never_both (is_join kind) is_a_join alone))
  after_each (NodeCall.complete p) may =
      let port = port_closes (port_at p node.block) in
      framed (set ports p port) (node.journal ++ Complete p ∷ []) (one_framed ports p port refl refl)
      (λ q. took_as_many q node.journal (Complete p) refl)
  after_each (NodeCall.fault number) may = stopped (Fault number) (λ q. refl)
  after_each NodeCall.finish may = stopped Done (λ q. refl)

pub round_is_of_join : {W : Type 0} (layout : Layout W) (meaning : ℕ → Value → Result (List Value) ℕ) (b : ℕ) (node : NodeState)
    → NodeLaw layout meaning b node → reserves node.round ≡ true → is_reserving (block_in layout.blocks b) ≡ true
round_is_of_join layout meaning b node law some =
    sources_where (is_reserving (block_in layout.blocks b)) (map (source_by layout) (filter (enters layout b) (numbers (length layout.links))))
    (ap has_sources (sym law.round.sources_are) ∙ some)

pub round_stays : (W : Type 0) → RoundStays W
round_stays W layout meaning b node call law may = record {
  sources_are = sources_stay (block_makes layout meaning b) node call ∙ law.round.sources_are;
  in_round = λ reserving. after_each layout meaning b node law reserving call may;
}
