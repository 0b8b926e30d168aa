-- The next move of a block's end of a link that leads into it fits the link.
use Rattle.std.proofs.Common.{◌≡◌, ℕ, ◌+◌, ◌<◌, ◌≤◌, true, List, length, Option, Some, None, Result, refl, ap, sym, subst, ◌∙◌, arith}
use Rattle.flow_value.specs.declared.value.Value.{Value}
use Rattle.flow_link.specs.declared.phase.Move.{Move}
use Rattle.flow_link.specs.declared.phase.Move.TheVariants as move
use Rattle.flow_link.specs.declared.stage.Refusal.{Refusal}
use Rattle.flow_link.specs.declared.stage.TargetStage.{TargetStage as TargetKept}
use Rattle.flow_link.specs.declared.stage.TargetStage.TheVariants as target
use Rattle.flow_link.specs.Facts.{facts_in, reserves_in}
use Rattle.flow_link.specs.Layout.{Layout}
use Rattle.flow_link.specs.LinkOk.{MayPutOff}
use Rattle.flow_link.specs.Moves.{wanting, refusing, postponing, consuming, asking, claiming, releasing, opening, closing}
use Rattle.flow_link.specs.Plan.{link_in}
use Rattle.flow_link.specs.Stage.{target_stage_of, refusal_of, in_hand}
use Rattle.flow_link.specs.Trace.{took_at, took_over}
use Rattle.flow_link.specs.Views.{TargetView, LinkFacts}
use Rattle.flow_intake.specs.Calls.{message_of}
use Rattle.flow_intake.specs.Port.{EndState, PortState, end_in, is_hand}
use Rattle.flow_block.specs.Block.{port_at}
use Rattle.flow_block.specs.Node.{NodeState, NodeCall, in_view}
use Rattle.flow_block_law.specs.NextMoves.{NextMovesMay, MayMoveIn}
use Rattle.flow_block_law.specs.NodeLaw.{NodeLaw}
use Rattle.flow_block_law.specs.ViewsMove.{CallsMoveViews}
use Rattle.flow_block_law.proofs.PlacesOfLinks.{end_in_is}
use Rattle.flow_block_law.proofs.RoundHolds.{round_is_of_join}
use Rattle.flow_block_law.proofs.WishesTell.{asks_so, claims_so, releases_so}
use Rattle.flow_group.specs.Round.{reserves}
use Rattle.flow_core.specs.Events.{node_after, in_call}
use Rattle.flow_core.specs.MovesFit.{InFits, TargetsFit, message_in, closed_at}
use Rattle.flow_core.proofs.SoleLinks.{all_over_sole}
use Rattle.flow_core.proofs.StagesFit.{message_kept, offer_kept, offered_kept, posted_kept, postponed_kept, refused_kept, holding_kept, arrived_kept, hand_kept}

-- what is in hand is closed
pub closed_is : (stage : TargetKept) (hand : Option Value) (view : TargetView Value) (value : Value) → is_hand stage ≡ true
    → hand ≡ Some value → closing value view ≡ closed_at (target_stage_of stage hand) view
closed_is (target.Hand i) hand view value e held =
    subst (λ (hand : Option Value). closing value view ≡ closed_at (target_stage_of (target.Hand i) hand) view) (sym held) refl
closed_is _ hand view value e held = absurd (cc)

-- the reason is the one that the port has
refused_is : (reason : Option Refusal) (why : Refusal) (view after : TargetView Value) → reason ≡ Some why
    → after ≡ refusing (refusal_of why) view
    → (other : Refusal) → reason ≡ Some other → after ≡ refusing (refusal_of other) view
refused_is reason why view after is moved other also =
    let one : why ≡ other = let both = sym is ∙ also in cc in
    moved ∙ ap (λ (w : Refusal). refusing (refusal_of w) view) one

module _ {W : Type 0} (layout : Layout W) (meaning : ℕ → Value → Result (List Value) ℕ) (b p k l : ℕ) (node : NodeState)
    (law : NodeLaw layout meaning b node) (views : CallsMoveViews W) (slot : Option Value) where
  abbrev facts : LinkFacts
  facts = facts_in layout l

  abbrev port : PortState
  port = port_at p node.block

  abbrev end : EndState
  end = end_in k port.ends

  abbrev view : TargetView Value
  view = in_view p k node

  abbrev view_after : Move → TargetView Value
  view_after next = in_view p k (node_after layout meaning b (in_call p k slot next) node)

  message : message_of end.stage ≡ message_in view.stage
  message = message_kept end.hand end.stage

  -- the end at this place is the link's, whose target may be a join that reserves; at a sole link all comes over it
  module _ (link_is : end.link ≡ l) (reserves_as : facts.reserving ≡ port.reserves)
      (by_rounds : reserves node.round ≡ true → facts.reserving ≡ true)
      (sole : facts.sole ≡ true → length (took_at p node.journal) ≤ length (took_over l node.journal)) where
    -- what was taken before a message is put off
    put_off : MayPutOff (facts_in layout end.link) (length (took_at p node.journal)) → MayPutOff facts (0 + length view.taken)
    put_off may =
        let told = subst (λ (link : ℕ). MayPutOff (facts_in layout link) (length (took_at p node.journal))) link_is may in
        record {
          not_steady = told.not_steady;
          not_the_first = λ is.
              let same = ap (λ (link : ℕ). length (took_over link node.journal)) link_is in
              omega (arith, told.not_the_first is, sole is, same);
        }

    fits : (next : Move) → MayMoveIn layout meaning b node p k next → InFits facts port.refusing slot next view (view_after next)
    fits move.Want may = record {
      offered = offer_kept end.hand end.stage may.0.stands;
      freely = reserves_as ∙ may.1.freely;
      moved = (views layout meaning b node (NodeCall.want p k) law may).moved ∙ ap (λ (i : ℕ). wanting i view) message;
    }
    fits move.TurnDown may = record {
      posted = posted_kept end.hand end.stage may.stands;
      moved = (views layout meaning b node (NodeCall.turn_down p k) law may).moved;
    }
    fits move.Postpone may = record {
      offered = offered_kept end.hand end.stage may.offered.stands;
      may = put_off may.may;
      moved = (views layout meaning b node (NodeCall.postpone p k) law may).moved ∙ ap (λ (i : ℕ). postponing i view) message;
    }
    fits move.Refuse may =
        let known = (views layout meaning b node (NodeCall.refuse p k) law may).moved in
        record {
          stands = refused_kept end.hand end.stage may.0.stands;
          refuses = may.1;
          moved = refused_is port.refusing known.why view (view_after move.Refuse) known.is_why known.view;
        }
    fits move.Consume may = record {
      postponed = postponed_kept end.hand end.stage may.0.stands;
      freely = reserves_as ∙ may.1.freely;
      moved = (views layout meaning b node (NodeCall.consume p k) law may).moved ∙ ap (λ (i : ℕ). consuming i view) message;
    }
    fits move.Ask may =
        let now = asks_so p k node may in
        record {
          postponed = postponed_kept end.hand end.stage now.waits;
          reserves = by_rounds now.some;
          moved = (views layout meaning b node (NodeCall.ask p k) law may).moved ∙ ap (λ (i : ℕ). asking i view) message;
        }
    fits move.Claim may = record {
      held = holding_kept end.hand end.stage (claims_so p k node may).held;
      moved = (views layout meaning b node (NodeCall.claim p k) law may).moved ∙ ap (λ (i : ℕ). claiming i view) message;
    }
    fits move.Release may = record {
      held = holding_kept end.hand end.stage (releases_so p k node may).held;
      moved = (views layout meaning b node (NodeCall.release p k) law may).moved ∙ ap (λ (i : ℕ). releasing i view) message;
    }
    fits move.Open may =
        let after : Option Value → TargetView Value = λ laid. in_view p k (node_after layout meaning b (in_call p k laid move.Open) node) in
        record {
          arrived = arrived_kept end.hand end.stage (may (in_hand None)).stands;
          moved = λ value is.
              ap after is ∙ (views layout meaning b node (NodeCall.open_with p k value) law (may value)).moved
              ∙ ap (λ (i : ℕ). opening i value view) message;
        }
    fits move.Close may =
        let known = (views layout meaning b node (NodeCall.close p k) law may).moved in
        record {
          in_hand = hand_kept end.hand end.stage may.stands;
          moved = known.view ∙ closed_is end.stage end.hand view known.value may.stands known.in_hand;
        }
    fits _ may = absurd may

pub targets_fit : {W : Type 0} → CallsMoveViews W → NextMovesMay W → TargetsFit W
targets_fit views may layout meaning well b low node law p k l known there link_is slot next peek =
    let end = end_in k (port_at p node.block).ends in
    let here = end_in_is layout meaning b node.block law.shape p k known there in
    let leads = ap (λ (m : ℕ). (link_in layout.links m).target) (sym link_is) ∙ here.leads in
    let there_is = subst (λ (m : ℕ). m < length layout.links) link_is here.there in
    let own = (may layout meaning b node well low law).0 p k next known there peek in
    fits layout meaning b p k l node law views slot link_is
    (ap (reserves_in layout) leads ∙ sym (law.shape.ports p known).reserves_is)
    (λ some. ap (reserves_in layout) leads ∙ round_is_of_join layout meaning b node law some)
    (λ sole. all_over_sole layout meaning b p l there_is leads sole node.journal law.marks.own)
    next own
