-- A node that has nothing to do is still.
use Rattle.std.proofs.Common.{◌≡◌, ℕ, ◌<◌, Bool, true, false, cond, ◌&&◌, length, Option, Some, None, refl, ap, sym, ◌∙◌}
use Rattle.std.proofs.lemmas.Bool.{and_from}
use Rattle.flow_value.specs.declared.value.Value.{Value}
use Rattle.flow_value.specs.declared.message.MessageStatus.TheVariants.{Postponed as put_off, Declined}
use Rattle.flow_link.specs.declared.plan.LinkSource.TheVariants.{Block}
use Rattle.flow_link.specs.declared.plan.LinkTarget.TheVariants.{Port}
use Rattle.flow_link.specs.declared.stage.Refusal.{Refusal}
use Rattle.flow_link.specs.declared.stage.SourceStage.{SourceStage}
use Rattle.flow_link.specs.declared.stage.SourceStage.TheVariants as source
use Rattle.flow_link.specs.declared.stage.TargetStage.{TargetStage}
use Rattle.flow_link.specs.declared.stage.TargetStage.TheVariants as target
use Rattle.flow_link.specs.declared.trace.Outcome.{Outcome}
use Rattle.flow_lawful.specs.Composes.{Ends}
use Rattle.flow_link.specs.Plan.{begins_at, ends_at, is_one_taker, is_reserving}
use Rattle.flow_lawful.specs.RestsByParts.{NodeIsStill, is_to_hand_over, is_wished_for, is_to_receive, is_asking, is_holding, is_out, has_offer_out, asks_somewhere}
use Rattle.flow_link.specs.Stage.{source_stage_of, target_stage_of}
use Rattle.flow_link.specs.Trace.{Run, block_of, link_of}
use Rattle.flow_link.specs.Views.{SourceView, TargetView}
use Rattle.flow_link.proofs.RoundsOfWalks.{some_here_below}
use Rattle.flow_link.proofs.ListTests.{never_both}
use Rattle.flow_intake.specs.Port.{PortState, end_in, hand_in, stage_at as port_stage, is_holding as is_kept}
use Rattle.flow_intake.specs.Calls.{first_of, answer_where, move_of, move_at as move_in}
use Rattle.flow_group.specs.Round.{is_asking as is_asking_for, stage_from}
use Rattle.flow_group.specs.RoundLaw.{GoesOn}
use Rattle.flow_outlet.specs.End.{is_out as is_offer_out}
use Rattle.flow_outlet.specs.Outlet.{OutletState, end_at, stage_at, out_at, has_offer_out as is_offering, move_at}
use Rattle.flow_block.specs.Block.{port_at}
use Rattle.flow_block.specs.Node.{NodeState, in_view}
use Rattle.flow_block_law.specs.NodeLaw.{NodeLaw}
use Rattle.flow_block_law.specs.NodeRests.{HasNothingToDo, HoldsByPlan, NodesAreStill}
use Rattle.flow_block_law.specs.NodeSeen.{IsNodeOf}
use Rattle.flow_block.specs.Peeks.{is_held_up}
use Rattle.flow_block.specs.Planned.{out_place, in_place}
use Rattle.flow_block_law.proofs.CopierOf.{copier_still}
use Rattle.flow_block_law.proofs.CopiesIdle.{view_is_shared}
use Rattle.flow_block_law.proofs.HoldersMove.{holder_moves}
use Rattle.flow_block_law.proofs.RoundHolds.{front_there}
use Rattle.flow_block_law.proofs.WishesTell.{moves_in_front, no_own_move, no_round_move}
use Rattle.flow_block_law.proofs.PlacesOfLinks.{end_in_is, end_in_of, end_out_is, end_out_of, there_at_block, there_at_source}

-- What an end that has no move tells

gives_nothing : (o : OutletState) (k : ℕ) (stopped : Option Outcome) (held_up : Bool) (stage : SourceStage)
    → move_at o k stopped held_up stage ≡ None → is_to_hand_over (source_stage_of stage) ≡ false
gives_nothing o k stopped held_up (source.Accepted i) none = absurd (cc)
gives_nothing o k stopped held_up (source.Claimed i) none = absurd (cc)
gives_nothing o k stopped held_up _ none = refl

waits_for_offer : {A : Type 0} (out : Bool) (move : A) → cond out None (Some move) ≡ None → out ≡ true
waits_for_offer true move none = refl
waits_for_offer false move none = absurd (cc)

answers_late : (o : OutletState) (k : ℕ) (stopped : Option Outcome) (held_up : Bool) (stage : SourceStage)
    → move_at o k stopped held_up stage ≡ None → is_wished_for (source_stage_of stage) ≡ true → is_offering o ≡ true
answers_late o k stopped held_up (source.Wished i) none wished = waits_for_offer (is_offering o) _ none
answers_late o k stopped held_up (source.AskedBy i) none wished = waits_for_offer (is_offering o) _ none
answers_late o k stopped held_up _ none wished = absurd (cc)

-- the end over which an offer is out
record OffersAt (o : OutletState) : Type 0 where
  place : ℕ
  offer : o.offer ≡ Some place
  out : is_offer_out (stage_at o place) ≡ true

offers_at : (o : OutletState) (offer : Option ℕ) → o.offer ≡ offer → out_at o offer ≡ true → OffersAt o
offers_at o None is out = absurd (cc)
offers_at o (Some k) is out = record { place = k; offer = is; out = out }

out_is_seen : (o : OutletState) (k : ℕ) (stopped : Option Outcome) (held_up : Bool) (stage : SourceStage)
    → is_offer_out stage ≡ true
    → move_at o k stopped held_up stage ≡ None → is_out (source_stage_of stage) ≡ true
out_is_seen o k stopped held_up (source.Out i) out none = refl
out_is_seen o k stopped held_up (source.Accepted i) out none = absurd (cc)
out_is_seen o k stopped held_up _ out none = absurd (cc)

each_is_answered : (refusing : Option Refusal) (reserves free may_postpone : Bool)
    → move_of (answer_where refusing reserves free (cond may_postpone put_off Declined)) ≡ None → ⊥
each_is_answered (Some _) reserves free may_postpone none = cc
each_is_answered None true free true none = cc
each_is_answered None true free false none = cc
each_is_answered None false true may_postpone none = cc
each_is_answered None false false true none = cc
each_is_answered None false false false none = cc

receives_nothing : (place : ℕ) (port : PortState) (stage : TargetStage) (hand : Option Value)
    → move_in place port stage ≡ None
    → is_to_receive (target_stage_of stage hand) ≡ false
receives_nothing place port (target.Offered i) hand none =
    absurd (each_is_answered port.refusing port.reserves _ true none)
receives_nothing place port (target.Posted i) hand none =
    absurd (each_is_answered port.refusing port.reserves _ false none)
receives_nothing place port (target.Arrived i) hand none = absurd (cc)
receives_nothing place port (target.Hand i) hand none = absurd (cc)
receives_nothing place port _ hand none = refl

kept_there : (stage : TargetStage) (hand : Option Value) → is_holding (target_stage_of stage hand) ≡ true → is_kept stage ≡ true
kept_there (target.Holding i) hand holds = refl
kept_there _ hand holds = absurd (cc)

asks_there : (stage : TargetStage) (hand : Option Value) → is_asking_for stage ≡ true → is_asking (target_stage_of stage hand) ≡ true
asks_there (target.Asking i) hand asks = refl
asks_there _ hand asks = absurd (cc)

module _ {W : Type 0} (run : Run W) (ends : ℕ → Ends) (b : ℕ) (node : NodeState)
    (law : NodeLaw run.layout run.meaning b node)
    (part : IsNodeOf run ends b node)
    (ports : (l p : ℕ) → l < length run.layout.links → (link_of run l).target ≡ Port b p → p < length node.block.ports)
    (nothing : HasNothingToDo node) (plan : HoldsByPlan run ends b) where
  abbrev exits : OutletState
  exits = node.block.exits

  abbrev place : ℕ → ℕ
  place l = out_place run.layout b l

  target_is : (l p : ℕ) → l < length run.layout.links → (link_of run l).target ≡ Port b p
      → (ends l).target.stage ≡ target_stage_of (port_stage (in_place run.layout b p l) (port_at p node.block))
      (hand_in (in_place run.layout b p l) (port_at p node.block).ends)
  target_is l p small to = ap (λ (view : TargetView Value). view.stage) (part.targets l p small to)

  module _ (shares : is_one_taker node.block.kind ≡ true) where
    source_is : (l : ℕ) → l < length run.layout.links → (link_of run l).source ≡ Block b
        → (ends l).source.stage ≡ source_stage_of (stage_at exits (place l))
    source_is l small from = ap (λ (view : SourceView Value). view.stage)
        (part.sources l small from
        ∙ view_is_shared run.layout run.meaning b node law shares (place l))

    there : (l : ℕ) → l < length run.layout.links → (link_of run l).source ≡ Block b → place l < length exits.ends
    there l small from = (end_out_of run.layout run.meaning b node.block law.shape shares l small from).there

    gives_shared : (l : ℕ) → l < length run.layout.links → (link_of run l).source ≡ Block b
        → is_to_hand_over (ends l).source.stage ≡ false
    gives_shared l small from =
        let k = place l in
        let near = there l small from in
        ap is_to_hand_over (source_is l small from)
        ∙ gives_nothing exits k node.block.stopped (is_held_up node.block) (stage_at exits k) (nothing.outs k near)

    offer_out : (j : ℕ) → exits.offer ≡ Some j → is_offer_out (stage_at exits j) ≡ true → has_offer_out run ends b ≡ true
    offer_out j e offered =
        let near = law.exits.law.offer_there j e in
        let link = end_out_is run.layout run.meaning b node.block law.shape j near in
        let l = (end_at exits j).rule.id in
        let out : is_out (source_stage_of (stage_at exits j)) ≡ true =
        out_is_seen exits j node.block.stopped (is_held_up node.block) (stage_at exits j) offered (nothing.outs j near) in
        let seen : is_out (ends l).source.stage ≡ true =
        ap is_out (source_is l link.there link.begins)
        ∙ ap (λ (k : ℕ). is_out (source_stage_of (stage_at exits k))) link.place ∙ out in
        some_here_below (λ n. begins_at b (link_of run n).source && is_out (ends n).source.stage)
        (length run.layout.links) l link.there
        (and_from (begins_at b (link_of run l).source) (is_out (ends l).source.stage)
        (there_at_source b (link_of run l).source link.begins) seen)

    answers_shared : (l : ℕ) → l < length run.layout.links → (link_of run l).source ≡ Block b
        → is_wished_for (ends l).source.stage ≡ true
        → has_offer_out run ends b ≡ true
    answers_shared l small from wished =
        let k = place l in
        let near = there l small from in
        let offer = offers_at exits exits.offer refl
        (answers_late exits k node.block.stopped (is_held_up node.block) (stage_at exits k) (nothing.outs k near)
        (ap is_wished_for (sym (source_is l small from)) ∙ wished)) in
        offer_out offer.place offer.offer offer.out

  gives : (sharing : Bool) → is_one_taker node.block.kind ≡ sharing → (l : ℕ) → l < length run.layout.links
      → (link_of run l).source ≡ Block b → is_to_hand_over (ends l).source.stage ≡ false
  gives true shares l small from = gives_shared shares l small from
  gives false copying l small from = (copier_still run ends b node law part copying nothing).gives l small from

  answers : (sharing : Bool) → is_one_taker node.block.kind ≡ sharing → (l : ℕ) → l < length run.layout.links
      → (link_of run l).source ≡ Block b → is_wished_for (ends l).source.stage ≡ true → has_offer_out run ends b ≡ true
  answers true shares l small from wished = answers_shared shares l small from wished
  answers false copying l small from wished =
      never_both (is_wished_for (ends l).source.stage) wished ((copier_still run ends b node law part copying nothing).answers l small from)

  is_in_place : (l p : ℕ) → l < length run.layout.links → (link_of run l).target ≡ Port b p
      → in_place run.layout b p l < length (port_at p node.block).ends
  is_in_place l p small to =
      (end_in_of run.layout run.meaning b node.block law.shape p l (ports l p small to) small to).there

  receives : (l p : ℕ) → l < length run.layout.links → (link_of run l).target ≡ Port b p
      → is_to_receive (ends l).target.stage ≡ false
  receives l p small to =
      let k = in_place run.layout b p l in
      let port = port_at p node.block in
      ap is_to_receive (target_is l p small to)
      ∙ receives_nothing k port (port_stage k port) (hand_in k port.ends)
      (no_own_move p k node (nothing.ins p k (ports l p small to) (is_in_place l p small to)))

  -- what a node asks for, its link asks for
  asks_over : is_reserving (block_of run b) ≡ true → (q : ℕ) → q < length node.block.ports → (place : Option ℕ)
      → first_of (port_at q node.block).queue ≡ place → is_asking_for (stage_from place (port_at q node.block)) ≡ true
      → asks_somewhere run ends b ≡ true
  asks_over reserving q low None is asks = absurd (cc)
  asks_over reserving q low (Some j) is asks =
      let port = port_at q node.block in
      let end = end_in j port.ends in
      let there = front_there run.layout run.meaning b node law reserving q j low is in
      let link = end_in_is run.layout run.meaning b node.block law.shape q j low there in
      let seen : (ends end.link).target.stage ≡ target_stage_of end.stage end.hand =
      ap (λ (view : TargetView Value). view.stage)
      (part.targets end.link q link.there link.leads ∙ ap (λ (place : ℕ). in_view q place node) link.place) in
      some_here_below (λ l. ends_at b (link_of run l).target && is_asking (ends l).target.stage) (length run.layout.links) end.link link.there
      (and_from (ends_at b (link_of run end.link).target) (is_asking (ends end.link).target.stage)
      (there_at_block b q (link_of run end.link).target link.leads)
      (ap is_asking seen ∙ asks_there end.stage end.hand asks))

  -- a round goes on, or asks
  goes_on : is_reserving (block_of run b) ≡ true → GoesOn node.round node.block.ports → asks_somewhere run ends b ≡ true
  goes_on reserving (GoesOn.moves q j next low e) =
      let front = moves_in_front q j node.round node.block.ports next e in
      let there = front_there run.layout run.meaning b node law reserving q j low front in
      absurd (let wrong : Some next ≡ None = sym e ∙ no_round_move q j node (nothing.ins q j low there) in cc)
  goes_on reserving (GoesOn.waits q low asks) = asks_over reserving q low (first_of (port_at q node.block).queue) refl asks

  claims : (l p : ℕ) → l < length run.layout.links → (link_of run l).target ≡ Port b p → is_holding (ends l).target.stage ≡ true
      → asks_somewhere run ends b ≡ true
  claims l p small to holds =
      let k = in_place run.layout b p l in
      let port = port_at p node.block in
      let reserving = plan l p small to holds in
      let kept = kept_there (port_stage k port) (hand_in k port.ends) (ap is_holding (sym (target_is l p small to)) ∙ holds) in
      goes_on reserving
      (holder_moves run.layout run.meaning b node law reserving p k (ports l p small to) (is_in_place l p small to) kept)

  is_still : NodeIsStill run ends b
  is_still = record {
    gives = gives (is_one_taker node.block.kind) refl;
    answers = answers (is_one_taker node.block.kind) refl;
    receives = receives;
    claims = claims;
  }

pub nodes_are_still : (W : Type 0) → NodesAreStill W
nodes_are_still W run ends b node small law part ports nothing plan =
    is_still run ends b node law part ports nothing plan
