-- For a move that may happen all stands ready at the end that makes it.
use Rattle.std.proofs.Common.{◌≡◌, ℕ, ◌<◌, ◌^◌, ◌==◌, not, cond, Bool, true, false, List, length, Option, Some, None, is_some}
use Rattle.std.proofs.Common.{Result, refl, ap, sym, ◌∙◌, subst}
use Rattle.flow_value.specs.declared.value.Value.{Value}
use Rattle.flow_value.specs.declared.when.When.{When}
use Rattle.flow_link.specs.declared.phase.Move.{Move}
use Rattle.flow_link.specs.declared.phase.Move.TheVariants as move
use Rattle.flow_link.specs.declared.phase.Phase.{Phase}
use Rattle.flow_link.specs.declared.plan.LinkSource.{LinkSource}
use Rattle.flow_link.specs.declared.plan.LinkSource.TheVariants.{Block, Input}
use Rattle.flow_link.specs.declared.plan.LinkTarget.{LinkTarget}
use Rattle.flow_link.specs.declared.plan.LinkTarget.TheVariants.{Port, Exit}
use Rattle.flow_link.specs.declared.stage.SourceStage.{SourceStage}
use Rattle.flow_link.specs.declared.stage.SourceStage.TheVariants.{Accepted, Wished, Claimed}
use Rattle.flow_link.specs.declared.stage.TargetStage.{TargetStage}
use Rattle.flow_link.specs.declared.stage.TargetStage.TheVariants.{Arrived}
use Rattle.flow_link.specs.Facts.{facts_in}
use Rattle.flow_link.specs.Layout.{Layout}
use Rattle.flow_link.specs.LinkOk.{LinkOk}
use Rattle.flow_link.specs.Plan.{link_in, is_one_taker}
use Rattle.flow_link.specs.Stage.{target_stage_of, in_hand}
use Rattle.flow_link.specs.Views.{SourceView, TargetView, LinkFacts}
use Rattle.flow_link.specs.WellFormed.{IsWellFormed}
use Rattle.std.proofs.lemmas.Bool.{and_parts, OnTrue_at}
use Rattle.flow_link.proofs.TargetMoves.{target_moves_keep}
use Rattle.flow_intake.specs.Calls.{is_arrived}
use Rattle.flow_intake.specs.Port.{end_in}
use Rattle.flow_outlet.specs.End.{speaks_of}
use Rattle.flow_outlet.specs.Law.{admits_head}
use Rattle.flow_outlet.specs.Outlet.{head_of, end_at, stage_at, may_give, is_wanted}
use Rattle.flow_outlet.proofs.EndsKeepLaw.{given_admitted}
use Rattle.flow_outlet.proofs.StagesTell.{speaks_id}
use Rattle.flow_spread.specs.Law.{speaks}
use Rattle.flow_spread.specs.Spread as spread
use Rattle.flow_spread.proofs.LawKept.{admits_some}
use Rattle.flow_spread.proofs.StagesTell.{or_first, wanted_is}
use Rattle.flow_block.specs.Block.{port_at}
use Rattle.flow_block_law.specs.Copier.{Copier}
use Rattle.flow_block_law.specs.NextCopies.{MayMoveCopy}
use Rattle.flow_input.specs.Input.{InputState, InputCall}
use Rattle.flow_input.specs.InputKeeps.{InputLaw, MayMoveInput}
use Rattle.flow_block_law.specs.NextMoves.{MayMoveIn, MayMoveOut, next_source}
use Rattle.flow_block.specs.Node.{NodeState, in_view}
use Rattle.flow_block_law.specs.NodeLaw.{NodeLaw}
use Rattle.flow_block.specs.Planned.{in_place, out_place}
use Rattle.flow_block_law.proofs.CopierHolds.{copies_lawful}
use Rattle.flow_input.proofs.InputsMove.{inputs_keep}
use Rattle.flow_block_law.proofs.NextMoves.{next_moves_may}
use Rattle.flow_core.specs.Events.{NetEvent, HasIds, is_of_source, source_peek, target_peek, peek_by}
use Rattle.flow_core.specs.Keeps.{IsRun, NetKeeps}
use Rattle.flow_core.specs.State.{NetState, node_at, line_at, input_at, exit_at}
use Rattle.flow_core.proofs.PartsChange.{given_at, taken_as}
use Rattle.flow_core.proofs.PlacesOfLinks.{exit_there, copy_there, entry_there, port_there}
use Rattle.flow_core.proofs.SourcesByKind.{shared_next, copied_next}
use Rattle.flow_block_law.proofs.WishesTell.{asks_so, claims_so, releases_so}
use Rattle.flow_moves.specs.Ready.{GiveIsReady, OutIsReady, CopyIsReadyToGive, CopyIsReady, ReadyBy, InIsReady}
use Rattle.flow_exit.specs.Exit.{ExitState, exit_view}
use Rattle.flow_exit.specs.ExitKeeps.{MayMoveExit}
use Rattle.flow_exit.proofs.ExitsKeep.{exits_keep}
use Rattle.flow_moves.specs.Ready.{ExitEndIsReady, InputIsReady, SourceIsReady, TargetIsReady, MoverIsReady}
use Rattle.flow_moves.specs.Statements.{MovesAreReady}
use Rattle.flow_block.specs.Routes.{source_place, target_place, route_of}

-- What a block gives

-- what is wanted is the head
wanted_speaks : (next : ℕ) (out : Bool) (stage : SourceStage) → is_wanted next out stage ≡ true
    → speaks_of next stage ≡ true
wanted_speaks next out (Accepted i) e = e
wanted_speaks next out (Claimed i) e = e
wanted_speaks next out (Wished i) e = (and_parts (i == next) (not out) e).0
wanted_speaks next out _ e = absurd (cc)

-- what is admitted is there
admitted_there : (when : When) (head : Option Value) → admits_head when head ≡ true → is_some head ≡ true
admitted_there when None e = cc
admitted_there when (Some value) e = refl

-- What lies in a slot

-- a message that has arrived lies in the slot of its link
slot_full : (facts : LinkFacts) (phase : Phase) (slot hand : Option Value) (source : SourceView Value)
    (target : TargetView Value) (stage : TargetStage) → is_arrived stage ≡ true
    → target.stage ≡ target_stage_of stage hand → LinkOk facts phase slot source target → is_some slot ≡ true
slot_full facts phase slot hand source target (Arrived i) e at ok =
    ap is_some ((target_moves_keep Value).«open» facts phase slot source target ok i at).in_slot
slot_full facts phase slot hand source target _ e at ok = absurd (cc)

-- The end of a link out of the network is ready

exit_end_ready : (exit : ExitState) (facts : LinkFacts) (phase : Phase) (slot : Option Value) (source : SourceView Value)
    → LinkOk facts phase slot source (exit_view exit) → (next : Move) → MayMoveExit exit next → ExitEndIsReady slot next exit
exit_end_ready exit facts phase slot source ok move.Want may = (may.there, may.none_kept)
exit_end_ready exit facts phase slot source ok move.TurnDown may = may
exit_end_ready exit facts phase slot source ok move.Postpone may = may
exit_end_ready exit facts phase slot source ok move.Consume may = (may.there, may.none_kept)
exit_end_ready exit facts phase slot source ok move.Open may =
    let arrived = may (in_hand None) in
    (arrived, slot_full facts phase slot exit.hand source (exit_view exit) exit.stage arrived refl ok)
exit_end_ready exit facts phase slot source ok move.Close may = may
exit_end_ready exit facts phase slot source ok _ may = absurd may

-- An input is ready

-- its parcel is made for what it gives, and there is an id for what it offers
pub input_ready : (input : InputState) → InputLaw input → (next : Move) → MayMoveInput input next
    → ((id : ℕ) → next ≡ move.Offer id → id < 2 ^ 59) → InputIsReady next input
input_ready input law (move.Offer id) may ids =
    record { may = may.1; id = subst (λ (i : ℕ). i < 2 ^ 59) may.0 (ids id refl) }
input_ready input law move.Give may ids =
    record { wanted = may; parcel = ap is_some (inputs_keep.views input InputCall.give law may).ready }
input_ready input law (move.End how) may ids = may.is_at_home
input_ready input law _ may ids = absurd may

module _ {W : Type 0} (layout : Layout W) (meaning : ℕ → Value → Result (List Value) ℕ) (b : ℕ) (node : NodeState)
    (law : NodeLaw layout meaning b node) where
  -- A block's end of a link out of it

  give_ready : (k : ℕ) → k < length node.block.exits.ends → may_give k node.block.exits ≡ true
      → GiveIsReady k node.block.exits
  give_ready k place wanted =
      let exits = node.block.exits in
      let outlet = law.exits.law in
      let speaks = wanted_speaks exits.next (is_some exits.offer) (stage_at exits k) wanted in
      let head = admitted_there (end_at exits k).rule.when (head_of exits) (given_admitted exits outlet k place wanted) in
      record {
        there = place;
        wanted = wanted;
        parcel = ap is_some (outlet.ready k place speaks) ∙ head;
        room = (outlet.each k place).room exits.next (speaks_id exits.next (stage_at exits k) speaks);
      }

  out_ready : (k : ℕ) (next : Move) → MayMoveOut layout meaning b node k next → OutIsReady k next node
  out_ready k (move.Offer id) may = may.1.next
  out_ready k move.Give may = give_ready k may.place may.wanted
  out_ready k move.Hold may = may
  out_ready k move.Deny may = may
  out_ready k move.Withdraw may = may.waits
  out_ready k (move.End how) may = may.is_at_home
  out_ready k _ may = absurd may

  -- The same where it copies

  copy_give_ready : Copier layout b node.block node.journal → (k : ℕ) → k < length node.block.copies.ends
      → spread.may_give k node.block.copies ≡ true → CopyIsReadyToGive k node.block.copies
  copy_give_ready copier k place wanted =
      let copies = node.block.copies in
      let own = (copies_lawful layout b node.block node.journal copier).each k place in
      let says = (wanted_is copies.id (spread.stage_at copies k) wanted).speaks in
      let concerns = or_first (speaks (spread.stage_at copies k)) (spread.end_at copies k).owes says in
      record {
        there = place;
        wanted = wanted;
        share = ap is_some (OnTrue_at says own.ready)
            ∙ admits_some (spread.link_at copies k).rule.when copies.element (OnTrue_at concerns own.admitted);
        room = OnTrue_at concerns own.room;
      }

  copy_ready : Copier layout b node.block node.journal → (k : ℕ) (next : Move) → MayMoveCopy k node next
      → CopyIsReady k next node.block.copies
  copy_ready copier k (move.Offer id) may = record { there = may.1.place; stands = may.1.stands.1 }
  copy_ready copier k move.Give may = copy_give_ready copier k may.place may.stands
  copy_ready copier k move.Hold may = record { there = may.place; stands = may.stands }
  copy_ready copier k move.Withdraw may = record { there = may.place; stands = may.stands.0 }
  copy_ready copier k (move.End how) may = record { there = may.place; stands = may.stands.0 }
  copy_ready copier k _ may = absurd may

  -- and of either, by whether it shares its messages out or copies them
  pub end_ready : IsWellFormed layout.blocks layout.links → b < length layout.blocks → (k : ℕ) (next : Move) → next_source k node ≡ Some next
      → (sharing : Bool) → is_one_taker node.block.kind ≡ sharing
      → k < cond sharing (length node.block.exits.ends) (length node.block.copies.ends) → ReadyBy sharing k next node
  end_ready well there k next peek true shares place =
      out_ready k next ((next_moves_may layout meaning b node well there law).1 k next place (sym (shared_next k node shares) ∙ peek))
  end_ready well there k next peek false copying place =
      copy_ready (law.copies.copier copying) k next
      ((next_moves_may layout meaning b node well there law).2 k next place (sym (copied_next k node copying) ∙ peek))

  -- A block's end of a link into it

  -- what it opens lies in the slot
  pub in_ready : (p k : ℕ) (slot : Option Value) (next : Move) → MayMoveIn layout meaning b node p k next
      → (next ≡ move.Open → is_some slot ≡ true) → InIsReady p k slot next node
  in_ready p k slot move.Want may full = (may.0, may.1.room)
  in_ready p k slot move.TurnDown may full = may
  in_ready p k slot move.Postpone may full = may.offered
  in_ready p k slot move.Refuse may full = may
  in_ready p k slot move.Consume may full = (may.0, may.1.room)
  in_ready p k slot move.Ask may full =
      let now = asks_so p k node may in
      (record { port = may.port; place = may.place; stands = now.waits }, now.room)
  in_ready p k slot move.Claim may full =
      record { port = may.port; place = may.place; stands = (claims_so p k node may).held }
  in_ready p k slot move.Release may full =
      record { port = may.port; place = may.place; stands = (releases_so p k node may).held }
  in_ready p k slot move.Open may full = (may (in_hand None), full refl)
  in_ready p k slot move.Close may full = may
  in_ready p k slot _ may full = absurd may

-- The two ends of a link

module _ {W : Type 0} (layout : Layout W) (meaning : ℕ → Value → Result (List Value) ℕ) (run : IsRun layout)
    (net : NetState) (keeps : NetKeeps layout meaning net) (l : ℕ) (there : l < length layout.links) (next : Move)
    (ids : HasIds layout meaning (NetEvent.at_link l next) net) where
  -- the end of a link out of a block, whether the block shares its messages out or copies them
  end_there : (s : ℕ) → NodeLaw layout meaning s (node_at net s) → (link_in layout.links l).source ≡ Block s
      → (sharing : Bool) → is_one_taker (node_at net s).block.kind ≡ sharing
      → out_place layout s l < cond sharing (length (node_at net s).block.exits.ends) (length (node_at net s).block.copies.ends)
  end_there s law from true shares = exit_there layout meaning s (node_at net s) law l there from shares
  end_there s law from false copying = copy_there layout meaning s (node_at net s) law l there from copying

  exit_ready : (s : ℕ) → (link_in layout.links l).source ≡ Block s → next_source (out_place layout s l) (node_at net s) ≡ Some next
      → (sharing : Bool) → is_one_taker (node_at net s).block.kind ≡ sharing
      → ReadyBy sharing (out_place layout s l) next (node_at net s)
  exit_ready s from peek sharing is =
      let low = run.leads.from_block l s there from in
      let law = keeps.nodes s low in
      end_ready layout meaning s (node_at net s) law run.well_formed low (out_place layout s l) next peek sharing is
      (end_there s law from sharing is)

  source_ready : (source : LinkSource) → (link_in layout.links l).source ≡ source
      → source_peek layout net l source ≡ Some next → SourceIsReady next net source (source_place layout source l)
  source_ready (Block s) from peek =
      exit_ready s from peek (is_one_taker (node_at net s).block.kind) refl
  source_ready (Input b) from peek =
      let input = input_at layout net b in
      let law = keeps.inputs b (run.leads.from_input l b there from) (run.leads.from_inputs l b there from) in
      input_ready input law next (inputs_keep.next input next law peek)
      (λ id is. subst (λ (step : Move). HasIds layout meaning (NetEvent.at_link l step) net) is ids)

  target_ready : (target : LinkTarget) → (link_in layout.links l).target ≡ target
      → target_peek layout net l target ≡ Some next → TargetIsReady l next net target (target_place layout target l)
  target_ready (Port t p) to peek =
      let k = in_place layout t p l in
      let node = node_at net t in
      let low = run.leads.to_block l t p there to in
      let law = keeps.nodes t low in
      let port = port_there layout meaning t node law run p l there to in
      let place = entry_there layout meaning t node law run p l there to in
      let phase = (line_at net l).phase in
      let slot = (line_at net l).slot in
      let given = given_at layout net l in
      let ok = subst (λ (view : TargetView Value). LinkOk (facts_in layout l) phase slot given view)
      (taken_as layout net l (Port t p) to) (keeps.lines l there).in_order in
      let end = end_in k (port_at p node.block).ends in
      let may = (next_moves_may layout meaning t node run.well_formed low law).0 p k next port place peek in
      in_ready layout meaning t node law p k slot next may (λ is.
      let arrived = (subst (MayMoveIn layout meaning t node p k) is may (in_hand None)).stands in
      slot_full (facts_in layout l) phase slot end.hand given (in_view p k node) end.stage arrived refl ok)
  target_ready Exit to peek =
      let exit = exit_at layout net l in
      let phase = (line_at net l).phase in
      let slot = (line_at net l).slot in
      let given = given_at layout net l in
      let ok = subst (λ (view : TargetView Value). LinkOk (facts_in layout l) phase slot given view)
      (taken_as layout net l Exit to) (keeps.lines l there).in_order in
      exit_end_ready exit (facts_in layout l) phase slot given ok next (exits_keep.next exit next peek)

  mover_ready : (by_source : Bool) → peek_by layout by_source net l (link_in layout.links l) ≡ Some next
      → MoverIsReady net l (route_of layout l) by_source next
  mover_ready true peek = source_ready (link_in layout.links l).source refl peek
  mover_ready false peek = target_ready (link_in layout.links l).target refl peek

pub moves_are_ready : (W : Type 0) → MovesAreReady W
moves_are_ready W layout meaning run net keeps l next may ids =
    mover_ready layout meaning run net keeps l may.there next ids (is_of_source next) may.peek
