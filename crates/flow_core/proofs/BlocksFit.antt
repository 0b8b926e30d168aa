-- The next move of a block's end of a link that leads from it fits the link.
use Rattle.std.proofs.Common.{◌≡◌, ℕ, ◌<◌, ◌≤◌, ◌==◌, ◌&&◌, ◌||◌, not, Bool, true, false, cond, length, Option, Some, None, is_some, List, Result, refl, ap, sym, subst, ◌∙◌, arith, eqb-true}
use Rattle.std.proofs.lemmas.Bool.{OnTrue_at, and_parts, or_right}
use Rattle.std.proofs.lemmas.Bool.Decides.{nat_tests}
use Rattle.flow_value.specs.declared.value.Value.{Value}
use Rattle.flow_link.specs.declared.phase.LinkEnd.{LinkEnd}
use Rattle.flow_link.specs.declared.phase.LinkEnd.TheVariants as link_end
use Rattle.flow_link.specs.declared.phase.Move.{Move}
use Rattle.flow_link.specs.declared.phase.Move.TheVariants as move
use Rattle.flow_link.specs.declared.trace.Outcome.{Outcome}
use Rattle.flow_link.specs.declared.trace.Outcome.TheVariants as outcome
use Rattle.flow_link.specs.Facts.{facts_in}
use Rattle.flow_link.specs.Layout.{Layout}
use Rattle.flow_link.specs.LinkOk.{IsWithin, HasRoom, MayEnd}
use Rattle.flow_link.specs.Moves.{offering, giving, holding}
use Rattle.flow_link.specs.Plan.{is_one_taker}
use Rattle.flow_link.specs.Views.{SourceView, LinkFacts, crossed}
use Rattle.flow_link.specs.WellFormed.{IsWellFormed}
use Rattle.flow_outlet.specs.declared.ends.LinkRule.{LinkRule}
use Rattle.flow_outlet.specs.declared.ends.OutEnd.{OutEnd}
use Rattle.flow_outlet.specs.End.{is_free, is_limit, is_cut, is_over, speaks_of, rejects}
use Rattle.flow_outlet.specs.Outlet.{OutletState, head_of, end_at, is_asked, end_by}
use Rattle.flow_outlet.proofs.OffersInOrder.{offers_in_order}
use Rattle.flow_spread.specs.End.{is_open}
use Rattle.flow_spread.specs.Law.{CopyEndLaw, speaks}
use Rattle.flow_spread.specs.Spread.{SpreadState, end_at as copy_end, link_at}
use Rattle.flow_block.specs.Copies.{CopyCall}
use Rattle.flow_block.specs.Node.{NodeState, NodeCall, out_view, copy_view, source_view}
use Rattle.flow_block.specs.Planned.{rule_of}
use Rattle.flow_block_law.proofs.CopierHolds.{copies_lawful}
use Rattle.flow_block_law.proofs.FaultsNumbered.{stops_numbered}
use Rattle.flow_block_law.proofs.PlacesOfLinks.{shares_at}
use Rattle.flow_block_law.specs.Copier.{Copier}
use Rattle.flow_block_law.specs.NextCopies.{MayMoveCopy}
use Rattle.flow_block_law.specs.NextMoves.{NextMovesMay, MayMoveOut, next_source}
use Rattle.flow_block_law.specs.NodeKeeps.{NodesKept}
use Rattle.flow_block_law.specs.NodeLaw.{NodeLaw}
use Rattle.flow_block_law.specs.ViewsMove.{CallsMoveViews}
use Rattle.flow_core.specs.Events.{node_after, out_call, copy_call}
use Rattle.flow_core.specs.MovesFit.{OutFits, BlocksFit}
use Rattle.flow_core.proofs.EndsStep.{out_steps, copy_steps}
use Rattle.flow_core.proofs.SourcesByKind.{shared_view, copied_view, shared_next, copied_next, same_kind}
use Rattle.flow_core.proofs.StagesFit.{is_at_home, wanted_so, wanted_fills, wanted_message, asks_so, asks_message, asked_kept, asked_message, wish_denied, waits_kept}

-- one more may cross a link that is not cut
room_left : (max : Option ℕ) (given count : ℕ) → (is_some max ≡ true → given ≡ count) → IsWithin max given
    → is_limit max given ≡ false → HasRoom max count
room_left None given count counts within open_link = tt
room_left (Some max) given count counts within open_link =
    let same = counts refl in
    grind (arith, nat_tests)

all_crossed : (max : Option ℕ) (given count : ℕ) → (is_some max ≡ true → given ≡ count) → is_limit max given ≡ true
    → max ≡ Some count
all_crossed None given count counts cut = cc
all_crossed (Some max) given count counts cut = ap Some (sym (eqb-true given max cut) ∙ counts refl)

-- and what has room by one count has it by the other
room_counted : (max : Option ℕ) (given count : ℕ) → (is_some max ≡ true → given ≡ count) → HasRoom max given → HasRoom max count
room_counted None given count counts room = tt
room_counted (Some max) given count counts room = let same = counts refl in subst (HasRoom (Some max)) same room

-- what the message does not go past is not cut
not_passed : (over cut spoken declined turned : Bool) → ((over || cut) || spoken || declined || turned) ≡ false
    → cut ≡ false
not_passed false false spoken declined turned e = refl
not_passed false true spoken declined turned e = cc
not_passed true cut spoken declined turned e = cc

-- a link ends as its block did, or plainly where it is cut
ends_as_told : (facts : LinkFacts) (count : ℕ) (cut passes : Bool) (stopped : Option Outcome) (how : LinkEnd)
    → facts.propagates ≡ passes → (cut ≡ true → facts.max ≡ Some count) → (cut ≡ false → HasRoom facts.max count)
    → ((number : ℕ) → stopped ≡ Some (outcome.Faulted number) → 1 ≤ number)
    → cond cut (Some link_end.Plain) (end_by passes stopped) ≡ Some how → MayEnd facts count how
ends_as_told facts count true passes stopped link_end.Plain is whole room numbered e = λ passed. whole refl
ends_as_told facts count true passes stopped _ is whole room numbered e = absurd (cc)
ends_as_told facts count false false (Some how) link_end.Plain is whole room numbered e = λ passed. absurd (cc)
ends_as_told facts count false true (Some outcome.Done) link_end.Complete is whole room numbered e =
    record { propagates = is; not_cut = room refl }
ends_as_told facts count false true (Some (outcome.Faulted n)) (link_end.Fault m) is whole room numbered e =
    record {
      passes = record { propagates = is; not_cut = room refl };
      numbered = let same : n ≡ m = cc in subst (λ (number : ℕ). 1 ≤ number) same (numbered n refl);
    }
ends_as_told facts count false passes stopped how is whole room numbered e = absurd (cc)

-- what is given is the value that was to be given
pub given_is : (given : Option Value) (value : Value) (id message : ℕ) (view after : SourceView Value) → given ≡ Some value
    → id ≡ message → after ≡ giving id value view
    → (other : Value) → given ≡ Some other → after ≡ giving message other view
given_is given value id message view after is same moved other also =
    let one : value ≡ other = let both = sym is ∙ also in cc in
    moved ∙ ap (λ (i : ℕ). giving i value view) same ∙ ap (λ (v : Value). giving message v view) one

module _ {W : Type 0} (layout : Layout W) (meaning : ℕ → Value → Result (List Value) ℕ) (b l k : ℕ) (node : NodeState)
    (law : NodeLaw layout meaning b node) (views : CallsMoveViews W) where
  abbrev facts : LinkFacts
  facts = facts_in layout l

  -- what may be said of an end of the link, whether messages or copies go over it
  module _ (end : OutEnd) (rule_is : end.rule ≡ rule_of layout l) (count : ℕ) (counts : is_some end.rule.max ≡ true → end.given ≡ count)
      (within : IsWithin end.rule.max end.given) where
    max_is : end.rule.max ≡ facts.max
    max_is = ap (λ (rule : LinkRule). rule.max) rule_is

    room : is_cut end ≡ false → HasRoom facts.max count
    room open_link = subst (λ (max : Option ℕ). HasRoom max count) max_is (room_left end.rule.max end.given count counts within open_link)

    room_for : HasRoom end.rule.max end.given → HasRoom facts.max count
    room_for left = subst (λ (max : Option ℕ). HasRoom max count) max_is (room_counted end.rule.max end.given count counts left)

    may_end : (how : LinkEnd) → cond (is_cut end) (Some link_end.Plain) (end_by end.rule.passes node.block.stopped) ≡ Some how
        → MayEnd facts count how
    may_end how due =
        ends_as_told facts count (is_cut end) end.rule.passes node.block.stopped how
        (sym (ap (λ (rule : LinkRule). rule.passes) rule_is))
        (λ cut. sym max_is ∙ all_crossed end.rule.max end.given count counts cut) room (stops_numbered layout meaning b node law) due

  -- Where the block shares its messages out

  abbrev exits : OutletState
  exits = node.block.exits

  abbrev shared_after : Option NodeCall → SourceView Value
  shared_after call = out_view k (node_after layout meaning b call node)

  module _ (there : k < length exits.ends) (rule_is : (end_at exits k).rule ≡ rule_of layout l) where
    abbrev end : OutEnd
    end = end_at exits k

    abbrev view : SourceView Value
    view = out_view k node

    counts : is_some end.rule.max ≡ true → end.given ≡ crossed view
    counts limited =
        let told = ((law.gave (shares_at layout meaning b node.block law.shape k there)).each k there).counted limited in
        omega (arith, told)

    shared_fits : (next : Move) → MayMoveOut layout meaning b node k next
        → OutFits facts (head_of exits) next view (shared_after (out_call k next))
    shared_fits (move.Offer i) may =
        let next = (offers_in_order.named exits k).0 may.1.next in
        let own = law.exits.law.each k there in
        let open_link = not_passed (is_over end.stage) (is_cut end) (speaks_of exits.next end.stage)
        (end.declined == exits.next) (rejects end.rule.when (head_of exits)) next.stops in
        record {
          free = is_at_home end.stage next.free;
          rises = subst (λ (id : ℕ). end.last < id) (sym may.0) own.risen;
          room = room end rule_is (crossed view) counts own.within open_link;
          moved = (views layout meaning b node (NodeCall.offer k) law may.1).moved ∙ ap (λ (id : ℕ). offering id view) (sym may.0);
        }
    shared_fits move.Give may =
        let known = (views layout meaning b node (NodeCall.give k) law may).moved in
        let wanted = wanted_so exits.next (is_some exits.offer) end.stage may.wanted in
        let id = wanted_message exits.next end.stage wanted in
        record {
          wanted = wanted_fills exits.next end.stage wanted;
          there = ap is_some known.head;
          moved = given_is (head_of exits) known.value exits.next _ view (shared_after (out_call k move.Give)) known.head id known.view;
        }
    shared_fits move.Hold may =
        let asked = (and_parts (is_asked exits.next end.stage) (not (is_some exits.offer)) may.asked).0 in
        record {
          asked = asked_kept end.stage (asks_so exits.next end.stage asked);
          moved = (views layout meaning b node (NodeCall.hold k) law may).moved
              ∙ ap (λ (id : ℕ). holding id view) (asks_message exits.next end.stage asked);
        }
    shared_fits move.Deny may = record {
      wished = wish_denied end.stage may.stands;
      moved = (views layout meaning b node (NodeCall.deny k) law may).moved;
    }
    shared_fits move.Withdraw may = record {
      waits = waits_kept end.stage may.waits.stands;
      moved = (views layout meaning b node (NodeCall.withdraw k) law may).moved;
    }
    shared_fits (move.End how) may = record {
      free = is_at_home end.stage may.is_at_home.stands;
      rule = may_end end rule_is (crossed view) counts (law.exits.law.each k there).within how may.is_due;
      moved = (views layout meaning b node (NodeCall.end_link k how) law may).moved;
    }
    shared_fits _ may = absurd may

  -- Where it copies

  abbrev copies : SpreadState
  copies = node.block.copies

  abbrev copied_after : Option NodeCall → SourceView Value
  copied_after call = copy_view k (node_after layout meaning b call node)

  module _ (copier : Copier layout b node.block node.journal) (there : k < length copies.ends)
      (rule_is : (link_at copies k).rule ≡ rule_of layout l) where
    abbrev copy : OutEnd
    copy = link_at copies k

    abbrev seen : SourceView Value
    seen = copy_view k node

    own : CopyEndLaw copies.element copies.id copies.once copier.pending node.block.stopped (copy_end copies k)
    own = (copies_lawful layout b node.block node.journal copier).each k there

    counts_there : is_some copy.rule.max ≡ true → copy.given ≡ crossed seen
    counts_there limited = let told = (copier.each k there).counted limited in omega (arith, told)

    copied_fits : (next : Move) → MayMoveCopy k node next
        → OutFits facts copies.element next seen (copied_after (copy_call k next))
    copied_fits (move.Offer i) may =
        let end = copy_end copies k in
        let open_end = and_parts (is_some copies.element) (is_open copies.id end) may.1.stands.1 in
        let free = and_parts end.owes (is_free copy.stage)
        (and_parts (end.owes && is_free copy.stage) (not (copy.declined == copies.id)) open_end.1).0 in
        let concerns = or_right (speaks copy.stage) end.owes free.0 in
        record {
          free = is_at_home copy.stage free.1;
          rises = subst (λ (id : ℕ). copy.last < id) (sym may.0) (OnTrue_at concerns own.fresh);
          room = room_for copy rule_is (crossed seen) counts_there own.within (OnTrue_at concerns own.room);
          moved = (views layout meaning b node (NodeCall.copy (CopyCall.offer k)) law may.1).moved
              ∙ ap (λ (id : ℕ). offering id seen) (sym may.0);
        }
    copied_fits move.Give may =
        let known = (views layout meaning b node (NodeCall.copy (CopyCall.give k)) law may).moved in
        let id = wanted_message copies.id copy.stage may.stands in
        record {
          wanted = wanted_fills copies.id copy.stage may.stands;
          there = ap is_some known.element;
          moved = given_is copies.element known.value copies.id _ seen (copied_after (copy_call k move.Give)) known.element id known.view;
        }
    copied_fits move.Hold may = record {
      asked = asked_kept copy.stage may.stands;
      moved = (views layout meaning b node (NodeCall.copy (CopyCall.hold k)) law may).moved
          ∙ ap (λ (id : ℕ). holding id seen) (asked_message copy.stage may.stands);
    }
    copied_fits move.Withdraw may = record {
      waits = waits_kept copy.stage may.stands.0;
      moved = (views layout meaning b node (NodeCall.copy (CopyCall.withdraw k)) law may).moved;
    }
    copied_fits (move.End how) may = record {
      free = is_at_home copy.stage may.stands.0;
      rule = may_end copy rule_is (crossed seen) counts_there own.within how may.stands.1;
      moved = (views layout meaning b node (NodeCall.copy (CopyCall.end_link k how)) law may).moved;
    }
    copied_fits _ may = absurd may

-- Either

module _ {W : Type 0} (kept : NodesKept W) (views : CallsMoveViews W) (may : NextMovesMay W)
    (layout : Layout W) (meaning : ℕ → Value → Result (List Value) ℕ) (well : IsWellFormed layout.blocks layout.links) (b : ℕ)
    (low : b < length layout.blocks) (node : NodeState) (law : NodeLaw layout meaning b node) (k l : ℕ) (next : Move) where
  -- after the call by which its end moves, as its block goes about it
  abbrev Fits : Option Value → SourceView Value → NodeState → Type 0
  Fits given view new = OutFits (facts_in layout l) given next view (source_view k new)

  shared : is_one_taker node.block.kind ≡ true → k < length node.block.exits.ends → (end_at node.block.exits k).rule ≡ rule_of layout l
      → next_source k node ≡ Some next
      → Fits (head_of node.block.exits) (source_view k node) (node_after layout meaning b (out_call k next) node)
  shared shares there rule_is peek =
      let own = (may layout meaning b node well low law).1 k next there (sym (shared_next k node shares) ∙ peek) in
      let new = node_after layout meaning b (out_call k next) node in
      let later = (out_steps layout meaning kept views b node law k next own).law in
      let fits = shared_fits layout meaning b l k node law views there rule_is next own in
      subst (λ (view : SourceView Value). Fits (head_of node.block.exits) view new) (sym (shared_view k node shares))
      (subst (λ (view : SourceView Value). OutFits (facts_in layout l) (head_of node.block.exits) next (out_view k node) view)
      (sym (shared_view k new (same_kind layout meaning b node new law later true shares))) fits)

  copied : is_one_taker node.block.kind ≡ false → k < length node.block.copies.ends → (link_at node.block.copies k).rule ≡ rule_of layout l
      → next_source k node ≡ Some next
      → Fits node.block.copies.element (source_view k node) (node_after layout meaning b (copy_call k next) node)
  copied copying there rule_is peek =
      let own = (may layout meaning b node well low law).2 k next there (sym (copied_next k node copying) ∙ peek) in
      let new = node_after layout meaning b (copy_call k next) node in
      let later = (copy_steps layout meaning kept views b node law k next own).law in
      let fits = copied_fits layout meaning b l k node law views (law.copies.copier copying) there rule_is next own in
      subst (λ (view : SourceView Value). Fits node.block.copies.element view new) (sym (copied_view k node copying))
      (subst (λ (view : SourceView Value). OutFits (facts_in layout l) node.block.copies.element next (copy_view k node) view)
      (sym (copied_view k new (same_kind layout meaning b node new law later false copying))) fits)

  -- by the kind of its block
  abbrev FitsBy : Bool → Type 0
  FitsBy sharing =
      k < cond sharing (length node.block.exits.ends) (length node.block.copies.ends)
      → cond sharing (end_at node.block.exits k).rule (link_at node.block.copies k).rule ≡ rule_of layout l
      → next_source k node ≡ Some next
      → Fits (cond sharing (head_of node.block.exits) node.block.copies.element) (source_view k node)
      (node_after layout meaning b (cond sharing (out_call k next) (copy_call k next)) node)

  either : (sharing : Bool) → is_one_taker node.block.kind ≡ sharing → FitsBy sharing
  either true shares = shared shares
  either false copying = copied copying

  by_kind : FitsBy (is_one_taker node.block.kind)
  by_kind = either (is_one_taker node.block.kind) refl

pub blocks_fit : {W : Type 0} → NodesKept W → CallsMoveViews W → NextMovesMay W → BlocksFit W
blocks_fit kept views may layout meaning well b low node law k l there rule_is next peek =
    by_kind kept views may layout meaning well b low node law k l next there rule_is peek
