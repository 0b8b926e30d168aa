-- A message that goes over a link in one call: what is done is its five events, or the first of them alone.
use Rattle.std.proofs.Common.{◌≡◌, ℕ, ◌<◌, Bool, true, false, cond, length, List, Option, Some, None, Result, refl, sym, ap, ◌∙◌, subst}
use Rattle.flow_value.specs.declared.value.Value.{Value}
use Rattle.flow_link.specs.declared.phase.LinkEnd.{LinkEnd}
use Rattle.flow_link.specs.declared.phase.Move.{Move}
use Rattle.flow_link.specs.declared.phase.Move.TheVariants.{Offer, Want, Give, Open, Close, Hold, Deny, Withdraw}
use Rattle.flow_link.specs.declared.phase.Phase.{Phase}
use Rattle.flow_link.specs.declared.phase.Phase.TheVariants.{Idle, Offered, Wanted, Given, Opened}
use Rattle.flow_link.specs.declared.plan.LinkSource.{LinkSource}
use Rattle.flow_link.specs.declared.plan.LinkSource.TheVariants.{Block, Input}
use Rattle.flow_link.specs.declared.stage.SourceStage.{SourceStage}
use Rattle.flow_link.specs.declared.stage.SourceStage.TheVariants as stage
use Rattle.flow_link.specs.declared.trace.Outcome.{Outcome}
use Rattle.flow_link.specs.Layout.{Layout}
use Rattle.flow_link.specs.Phase.{phase_after}
use Rattle.flow_link.specs.Plan.{link_in, is_one_taker}
use Rattle.flow_outlet.specs.Outlet.{OutletState, end_at, end_of, free_move, move_at, stage_at}
use Rattle.flow_spread.specs.Spread.{SpreadState, link_at, stage_at as copy_stage_at, move_at as copy_move_at, free_move as free_copy_move}
use Rattle.flow_input.specs.Input.{InputState, move_from, end_move, end_by, has_next, next_id}
use Rattle.flow_block_law.specs.NextMoves.{next_source}
use Rattle.flow_block.specs.Node.{NodeState}
use Rattle.flow_block.specs.Peeks.{is_held_up, is_copy_held_up}
use Rattle.flow_block.specs.Planned.{block_makes, out_place}
use Rattle.flow_block.specs.Routes.{route_of, source_place}
use Rattle.flow_core.specs.Events.{NetEvent, is_of_source, after, source_peek}
use Rattle.flow_core.specs.Keeps.{IsRun, NetKeeps}
use Rattle.flow_core.specs.State.{NetState, node_at, line_at, input_at}
use Rattle.flow_core.proofs.SourcesByKind.{shared_next, copied_next}
use Rattle.flow_moves.specs.Passes.{MayPass, id_by, id_in, id_next, after_offer, after_want, after_give, after_open, after_pass}
use Rattle.flow_moves.specs.Passes.{offered_along, wanted_along, given_along, opened_along, passed_along, may_pass}
use Rattle.flow_moves.specs.Ways.{moved_along, source_next}
use Rattle.flow_moves.proofs.MerelyKept.{kept_after, line_count_is, passes_may}
use Rattle.flow_moves.proofs.PassesHappen.{phase_then}
use Rattle.flow_moves.proofs.PassesTell.{pass_tells}
use Rattle.flow_net.specs.Dues.{event_of}
use Rattle.flow_net.specs.declared.due.Due.{Due}
use Rattle.flow_net.specs.declared.due.Due.TheVariants.{Link}
use Rattle.flow_net.specs.Happened.{Happened}
use Rattle.flow_net.specs.There.{IsDue}
use Rattle.flow_net.proofs.EventsCount.{one_more_event}
use Rattle.flow_net.proofs.EventsDone.{along_is_after}

-- The id of what a source would offer

neither : (i : ℕ) (b : Bool) (one other : Option Move) → (one ≡ Some (Offer i) → ⊥) → (other ≡ Some (Offer i) → ⊥)
    → cond b one other ≡ Some (Offer i) → ⊥
neither i true one other not_one not_other is = not_one is
neither i false one other not_one not_other is = not_other is

free_offers : (i : ℕ) (b : Bool) (next : ℕ) → cond b (Some (Offer next)) None ≡ Some (Offer i) → i ≡ next
free_offers i true next is = cc
free_offers i false next is = absurd (cc)

ends_or_offers : (i : ℕ) (o : OutletState) (k : ℕ) (how : Option LinkEnd) → free_move o k how ≡ Some (Offer i) → i ≡ o.next
ends_or_offers i o k (Some how) is = absurd (cc)
ends_or_offers i o k None is = free_offers i _ o.next is

so_or_denied : (i : ℕ) (so : Move) → (Some so ≡ Some (Offer i) → ⊥) → (b : Bool) → Some (cond b so Deny) ≡ Some (Offer i) → ⊥
so_or_denied i so never true is = never is
so_or_denied i so never false is = absurd (cc)

block_offers : (i : ℕ) (o : OutletState) (k : ℕ) (stopped : Option Outcome) (up : Bool) (at : SourceStage)
    → move_at o k stopped up at ≡ Some (Offer i) → i ≡ o.next
block_offers i o k stopped up stage.Free is = ends_or_offers i o k (end_of (end_at o k) stopped) is
block_offers i o k stopped up (stage.Accepted j) is = absurd (cc)
block_offers i o k stopped up (stage.Claimed j) is = absurd (cc)
block_offers i o k stopped up (stage.Wished j) is =
    absurd (neither i _ None (Some (cond _ Give Deny)) (λ is. absurd (cc)) (so_or_denied i Give (λ is. absurd (cc)) _) is)
block_offers i o k stopped up (stage.AskedBy j) is =
    absurd (neither i _ None (Some (cond _ Hold Deny)) (λ is. absurd (cc)) (so_or_denied i Hold (λ is. absurd (cc)) _) is)
block_offers i o k stopped up (stage.Waiting j) is =
    absurd (neither i _ (Some Withdraw) None (λ is. absurd (cc)) (λ is. absurd (cc)) is)
block_offers i o k stopped up (stage.Posted j) is = absurd (cc)
block_offers i o k stopped up (stage.Out j) is = absurd (cc)
block_offers i o k stopped up (stage.Reserved j) is = absurd (cc)
block_offers i o k stopped up stage.Crossing is = absurd (cc)
block_offers i o k stopped up stage.Refused is = absurd (cc)
block_offers i o k stopped up (stage.Ended how) is = absurd (cc)

copy_offers : (i : ℕ) (copies : SpreadState) (k : ℕ) (stopped : Option Outcome) (up : Bool) (at : SourceStage)
    → copy_move_at copies k stopped up at ≡ Some (Offer i) → i ≡ copies.id
copy_offers i copies k stopped up stage.Free is = free_copy_offers i copies k (end_of (link_at copies k) stopped) is
  where
    free_copy_offers : (i : ℕ) (copies : SpreadState) (k : ℕ) (how : Option LinkEnd)
        → free_copy_move copies k how ≡ Some (Offer i) → i ≡ copies.id
    free_copy_offers i copies k (Some how) is = absurd (cc)
    free_copy_offers i copies k None is = free_offers i _ copies.id is
copy_offers i copies k stopped up (stage.Waiting j) is =
    absurd (neither i up (Some Withdraw) None (λ is. absurd (cc)) (λ is. absurd (cc)) is)
copy_offers i copies k stopped up (stage.Accepted j) is = absurd (cc)
copy_offers i copies k stopped up (stage.Claimed j) is = absurd (cc)
copy_offers i copies k stopped up (stage.Wished j) is = absurd (cc)
copy_offers i copies k stopped up (stage.AskedBy j) is = absurd (cc)
copy_offers i copies k stopped up (stage.Posted j) is = absurd (cc)
copy_offers i copies k stopped up (stage.Out j) is = absurd (cc)
copy_offers i copies k stopped up (stage.Reserved j) is = absurd (cc)
copy_offers i copies k stopped up stage.Crossing is = absurd (cc)
copy_offers i copies k stopped up stage.Refused is = absurd (cc)
copy_offers i copies k stopped up (stage.Ended how) is = absurd (cc)

no_offer : (i : ℕ) (how : Option LinkEnd) → end_move how ≡ Some (Offer i) → ⊥
no_offer i None is = absurd (cc)
no_offer i (Some how) is = absurd (cc)

next_or_end : (i next : ℕ) (b : Bool) (how : Option LinkEnd) → cond b (Some (Offer next)) (end_move how) ≡ Some (Offer i) → i ≡ next
next_or_end i next true how is = cc
next_or_end i next false how is = absurd (no_offer i how is)

input_offers : (i : ℕ) (input : InputState) (at : SourceStage) → move_from input at ≡ Some (Offer i) → i ≡ next_id input
input_offers i input stage.Free is = next_or_end i (next_id input) (has_next input) (end_by input.ending) is
input_offers i input (stage.Accepted j) is = absurd (cc)
input_offers i input (stage.Wished j) is = absurd (cc)
input_offers i input (stage.Posted j) is = absurd (cc)
input_offers i input (stage.Out j) is = absurd (cc)
input_offers i input (stage.Waiting j) is = absurd (cc)
input_offers i input (stage.AskedBy j) is = absurd (cc)
input_offers i input (stage.Reserved j) is = absurd (cc)
input_offers i input (stage.Claimed j) is = absurd (cc)
input_offers i input stage.Crossing is = absurd (cc)
input_offers i input stage.Refused is = absurd (cc)
input_offers i input (stage.Ended how) is = absurd (cc)

module _ {W : Type 0} (layout : Layout W) (net : NetState) (l : ℕ) where
  node_offers : (i k : ℕ) (node : NodeState) (b : Bool) → is_one_taker node.block.kind ≡ b
      → next_source k node ≡ Some (Offer i) → i ≡ id_in node.block
  node_offers i k node true shares is =
      block_offers i node.block.exits k node.block.stopped (is_held_up node.block) (stage_at node.block.exits k)
      (sym (shared_next k node shares) ∙ is)
      ∙ sym (ap (λ (sharing : Bool). id_by sharing node.block) shares)
  node_offers i k node false copying is =
      copy_offers i node.block.copies k node.block.stopped (is_copy_held_up node.block) (copy_stage_at node.block.copies k)
      (sym (copied_next k node copying) ∙ is)
      ∙ sym (ap (λ (sharing : Bool). id_by sharing node.block) copying)

  source_offers : (i : ℕ) (from : LinkSource) → source_peek layout net l from ≡ Some (Offer i)
      → i ≡ id_next net from (source_place layout from l)
  source_offers i (Block s) is =
      let node = node_at net s in
      node_offers i (out_place layout s l) node (is_one_taker node.block.kind) refl is
  source_offers i (Input b) is = input_offers i (input_at layout net b) (input_at layout net b).stage is

  would_by_peek : (i : ℕ) (from : LinkSource) → source_peek layout net l from ≡ Some (Offer i)
      → source_next net from (source_place layout from l) ≡ Some (Offer i)
  would_by_peek i (Block s) is = is
  would_by_peek i (Input b) is = is

  abbrev pub next_id_of : ℕ
  next_id_of = id_next net (route_of layout l).source (route_of layout l).source_place

  -- the offer that is due is of that id
  pub due_is : (meaning : ℕ → Value → Result (List Value) ℕ) (i : ℕ) → IsDue layout meaning net (NetEvent.at_link l (Offer i))
      → IsDue layout meaning net (NetEvent.at_link l (Offer next_id_of))
  due_is meaning i due =
      subst (λ (id : ℕ). IsDue layout meaning net (NetEvent.at_link l (Offer id)))
      (source_offers i (link_in layout.links l).source due.enabled.peek) due

  -- and so it is where a driver found it
  pub found_due : (meaning : ℕ → Value → Result (List Value) ℕ) (event : Due) (i : ℕ) → event ≡ Link l (Offer i)
      → IsDue layout meaning net (event_of event) → IsDue layout meaning net (NetEvent.at_link l (Offer next_id_of))
  found_due meaning event i is due = due_is meaning i (subst (λ (e : Due). IsDue layout meaning net (event_of e)) is due)

-- What is done

module _ {W : Type 0} (layout : Layout W) (meaning : ℕ → Value → Result (List Value) ℕ) (runs : IsRun layout) (l i : ℕ) (net : NetState)
    (kept : ∥ NetKeeps layout meaning net ∥₁) (due : IsDue layout meaning net (NetEvent.at_link l (Offer i)))
    (passes : may_pass l (route_of layout l) net ≡ true) where
  all_may : MayPass layout meaning l i net
  all_may =
      passes_may layout meaning net kept runs l i due.enabled.there
      (would_by_peek layout net l i (link_in layout.links l).source due.enabled.peek) due.id passes

  low : (now : NetState) → ∥ NetKeeps layout meaning now ∥₁ → l < length now.lines
  low now holds = subst (λ (count : ℕ). l < count) (sym (line_count_is layout meaning now holds)) due.enabled.there

  -- one event more, along the way
  along : (now told : NetState) (next : Move) (phase to : Phase) → (line_at now l).phase ≡ phase → phase_after phase next ≡ Some to
      → told ≡ now
      → moved_along (block_makes layout meaning) (is_of_source next) l next to (route_of layout l) told
      ≡ after layout meaning (NetEvent.at_link l next) now
  along now told next phase to at step same =
      ap (λ (at_first : NetState). moved_along (block_makes layout meaning) (is_of_source next) l next to (route_of layout l) at_first) same
      ∙ sym (along_is_after layout meaning now l next to (ap (λ (here : Phase). phase_after here next) at ∙ step))

  then_at : (now : NetState) (next : Move) (phase to : Phase) → ∥ NetKeeps layout meaning now ∥₁ → (line_at now l).phase ≡ phase
      → phase_after phase next ≡ Some to → (line_at (after layout meaning (NetEvent.at_link l next) now) l).phase ≡ to
  then_at now next phase to holds at step =
      phase_then layout meaning l now (low now holds) next to (ap (λ (here : Phase). phase_after here next) at ∙ step)

  idle : (line_at net l).phase ≡ Idle
  idle = ap (λ line. line.phase) (pass_tells l (route_of layout l) net passes).idle

  offered_is : offered_along (block_makes layout meaning) l i (route_of layout l) net ≡ after_offer layout meaning l i net
  offered_is = along net net (Offer i) Idle (Offered i) idle refl refl

  passed_is : passed_along (block_makes layout meaning) l i (route_of layout l) net ≡ after_pass layout meaning l i net
  passed_is =
      let net1 = after_offer layout meaning l i net in
      let net2 = after_want layout meaning l i net in
      let net3 = after_give layout meaning l i net in
      let net4 = after_open layout meaning l i net in
      let kept1 = kept_after layout meaning net kept runs (NetEvent.at_link l (Offer i)) all_may.offer in
      let kept2 = kept_after layout meaning net1 kept1 runs (NetEvent.at_link l Want) all_may.want in
      let kept3 = kept_after layout meaning net2 kept2 runs (NetEvent.at_link l Give) all_may.give in
      let at1 = then_at net (Offer i) Idle (Offered i) kept idle refl in
      let at2 = then_at net1 Want (Offered i) (Wanted i) kept1 at1 refl in
      let at3 = then_at net2 Give (Wanted i) (Given i) kept2 at2 refl in
      let at4 = then_at net3 Open (Given i) (Opened i) kept3 at3 refl in
      let makes = block_makes layout meaning in
      let route = route_of layout l in
      along net4 (opened_along makes l i route net) Close (Opened i) Idle at4 refl
      (along net3 (given_along makes l i route net) Open (Given i) (Opened i) at3 refl
      (along net2 (wanted_along makes l i route net) Give (Wanted i) (Given i) at2 refl
      (along net1 (offered_along makes l i route net) Want (Offered i) (Wanted i) at1 refl offered_is)))

  pub passed_counts : (new : NetState) → new ≡ passed_along (block_makes layout meaning) l i (route_of layout l) net
      → Happened layout meaning 5 net new
  passed_counts new is =
      let net1 = after_offer layout meaning l i net in
      let net2 = after_want layout meaning l i net in
      let net3 = after_give layout meaning l i net in
      let net4 = after_open layout meaning l i net in (
        net4,
        (
          (
            net3,
            (
              (
                net2,
                (
                  (
                    net1,
                    (
                      (net, (refl, record { event = NetEvent.at_link l (Offer i); may = all_may.offer; new_is = refl })),
                      record { event = NetEvent.at_link l Want; may = all_may.want; new_is = refl },
                    ),
                  ),
                  record { event = NetEvent.at_link l Give; may = all_may.give; new_is = refl },
                ),
              ),
              record { event = NetEvent.at_link l Open; may = all_may.open_it; new_is = refl },
            ),
          ),
          record { event = NetEvent.at_link l Close; may = all_may.close; new_is = is ∙ passed_is },
        ),
      )

  pub offered_counts : (new : NetState) → new ≡ offered_along (block_makes layout meaning) l i (route_of layout l) net
      → Happened layout meaning 1 net new
  offered_counts new is =
      one_more_event layout meaning 0 net net new (NetEvent.at_link l (Offer i)) refl all_may.offer (is ∙ offered_is)
