-- Each call moves the view of its own end as the laws of one link have it, and no other end's.
use Rattle.std.proofs.Common.{unwrap_or, ◌≡◌, ◌≢◌, ℕ, ◌<◌, ◌==◌, cond, Bool, true, List, [], ◌∷◌, ◌++◌, length, set, Option, Some, None, is_some, Result, refl, ap, sym, ◌∙◌, subst, eq-eqb, arith, length-set, false}
use Rattle.std.proofs.lemmas.List.{get_or-set_same, get_or-set_other}
use Rattle.flow_value.specs.declared.value.Value.{Value}
use Rattle.flow_value.specs.declared.when.When.{When}
use Rattle.flow_link.specs.declared.stage.Refusal.{Refusal}
use Rattle.flow_link.specs.declared.stage.SourceStage.TheVariants as source
use Rattle.flow_link.specs.declared.stage.TargetStage.TheVariants as target
use Rattle.flow_link.specs.declared.trace.Mark.{Mark}
use Rattle.flow_link.specs.declared.trace.Mark.TheVariants.{Took, Gave, Complete, Fault, Done}
use Rattle.flow_link.specs.declared.trace.Outcome.TheVariants as outcome
use Rattle.flow_link.specs.JournalGrows.{taken_by_mark, given_by_mark}
use Rattle.flow_link.specs.Layout.{Layout}
use Rattle.flow_link.specs.Moves.{source_at, target_at}
use Rattle.flow_link.specs.Stage.{source_stage_of, target_stage_of, source_looks, target_looks}
use Rattle.flow_link.specs.Trace.{gave_over, took_over}
use Rattle.flow_link.specs.Views.{SourceStage, TargetStage, SourceView, TargetView}
use Rattle.flow_link.proofs.KindsTell.{kind_tells}
use Rattle.flow_link.proofs.StagesKept.{source_looks_kept, target_looks_kept}
use Rattle.flow_intake.specs.Port.{EndState, PortState, end_in}
use Rattle.flow_intake.specs.Calls.{first_of, refused_by, wants, turns_down, postpones, refuses, consumes, asks, claims, releases, opens, closes, looks as port_looks}
use Rattle.flow_outlet.specs.declared.ends.OutEnd.{OutEnd}
use Rattle.flow_outlet.specs.End.{end_in as end_out_in, no_end, id_of}
use Rattle.flow_outlet.specs.Law.{admits_head}
use Rattle.flow_outlet.specs.Outlet.{OutletState, head_of, end_at, stage_at, gives, given_end, offers, prepares, holds, denies, withdraws, ends_link, looks as exit_looks}
use Rattle.flow_outlet.proofs.LawKept.{gives_in_order}
use Rattle.flow_outlet.proofs.OffersInOrder.{offers_in_order}
use Rattle.flow_link.specs.Plan.{is_broadcast, is_one_taker, is_write_once}
use Rattle.flow_group.specs.Round.{RoundState, claims_on}
use Rattle.flow_spread.specs.Spread.{link_at as link_over}
use Rattle.flow_block_law.proofs.CopiesLeave.{free_is_given}
use Rattle.flow_block.proofs.CopiesTaken.{taken_keeps}
use Rattle.flow_block_law.proofs.WrittenOnce.{may_put_yet}
use Rattle.flow_block.specs.Copies.{copy_place, none_waits}
use Rattle.flow_block_law.proofs.CopierKept.{may_copy_next}
use Rattle.flow_block_law.proofs.CopiesIdle.{no_copy_at, copies_at}
use Rattle.flow_block_law.proofs.CopiesMove.{copies_move_views}
use Rattle.flow_block.specs.Block.{BlockState, port_at, begins, makes, copies_next, held_by}
use Rattle.flow_block.specs.Jobs.{begins as one_more}
use Rattle.flow_block.specs.Node.{NodeState, NodeCall, with_block, with_exits, marks, hand_at, in_link_at, out_link_at, takes_in, gives_from, view_of_in, view_of_out, in_view, out_view, copy_view, order_in, makes_next, holds_in}
use Rattle.flow_block_law.specs.NodeKeeps.{after_call}
use Rattle.flow_block_law.specs.NodeLaw.{NodeLaw}
use Rattle.flow_block.specs.Peeks.{is_pending}
use Rattle.flow_block.specs.Planned.{block_makes}
use Rattle.flow_block_law.specs.ViewsMove.{message_at, IsAboutIn, IsAboutOut, OthersStay, ViewsMove, CallsMoveViews}
use Rattle.flow_block_law.proofs.JournalTells.{took_same, gave_same, took_here, gave_here}
use Rattle.flow_block_law.proofs.KindsBuilt.{next_by}
use Rattle.flow_block_law.proofs.PlacesOfLinks.{links_in_differ, links_out_differ, shares_at}
use Rattle.flow_block_law.proofs.EndsStay.{EndsStay, copied_stays, group_stays, making_stays, jobs_stay, closing_stays, stopping_stays}
use Rattle.flow_block.proofs.PortsChange.{end_there, end_elsewhere}
use Rattle.flow_block.proofs.RoomBack.{port_back}
use Rattle.flow_link.proofs.TestsTell.{some_is}

-- one end of a link into a node stands at a place, and all others as they did
record OneInMoves (node new : NodeState) (p k : ℕ) (end : EndState) : Type 0 where
  here : end_in k (port_at p new.block).ends ≡ end
  others : (q j : ℕ) → ¬ ((q ≡ p) × (j ≡ k))
      → end_in j (port_at q new.block).ends ≡ end_in j (port_at q node.block).ends

one_in : (node : NodeState) (p k : ℕ) (port : PortState) (end : EndState)
    → p < length node.block.ports → k < length (port_at p node.block).ends
    → port.ends ≡ set (port_at p node.block).ends k end
    → OneInMoves node (with_block (record node.block { ports = set node.block.ports p port }) node) p k end
one_in node p k port end below there moved = record {
  here = end_there node.block.ports p k port end below moved there;
  others = λ q j apart. end_elsewhere node.block.ports p k port end below moved q j apart;
}

-- and where no mark is made, the other ends know what they knew
others_in : (call : NodeCall) (node : NodeState) (p k : ℕ) (ports : List PortState) (end : EndState)
    → ((q j : ℕ) → ¬ IsAboutIn q j call → ¬ ((q ≡ p) × (j ≡ k)))
    → OneInMoves node (with_block (record node.block { ports = ports }) node) p k end
    → OthersStay call node (with_block (record node.block { ports = ports }) node)
others_in call node p k ports end about one = record {
  copies = λ j there apart. refl;
  ins = λ q j below there apart. ap (view_of_in node.journal) (one.others q j (about q j apart));
  outs = λ j there apart. refl;
}

-- one end of a link out of a node stands at a place, and all others as they did
record OneOutMoves (node new : NodeState) (k : ℕ) (end : OutEnd) : Type 0 where
  here : end_at new.block.exits k ≡ end
  others : (j : ℕ) → j ≢ k → end_at new.block.exits j ≡ end_at node.block.exits j

one_out : (node : NodeState) (k : ℕ) (exits : OutletState) (end : OutEnd)
    → k < length node.block.exits.ends → exits.ends ≡ set node.block.exits.ends k end
    → OneOutMoves node (with_exits exits node) k end
one_out node k exits end there moved = record {
  here = ap (λ (ends : List OutEnd). end_out_in ends k) moved
      ∙ get_or-set_same node.block.exits.ends k end no_end there;
  others = λ j other. ap (λ (ends : List OutEnd). end_out_in ends j) moved
      ∙ get_or-set_other node.block.exits.ends k j end no_end other;
}

others_out : (call : NodeCall) (node : NodeState) (k : ℕ) (exits : OutletState) (end : OutEnd)
    → ((j : ℕ) → ¬ IsAboutOut j call → j ≢ k)
    → OneOutMoves node (with_exits exits node) k end → OthersStay call node (with_exits exits node)
others_out call node k exits end about one = record {
  copies = λ j there apart. refl;
  ins = λ p j below there apart. refl;
  outs = λ j there apart. ap (view_of_out node.journal) (one.others j (about j apart));
}

-- no end of a node moves, and nothing is taken or given
record NoneMoves (node new : NodeState) : Type 0 where
  ins : (p : ℕ) → p < length node.block.ports → (port_at p new.block).ends ≡ (port_at p node.block).ends
  outs : new.block.exits.ends ≡ node.block.exits.ends
  copies : (k : ℕ) → k < length node.block.copies.ends → link_over new.block.copies k ≡ link_over node.block.copies k
  taken : (l : ℕ) → took_over l new.journal ≡ took_over l node.journal
  given : (l : ℕ) → gave_over l new.journal ≡ gave_over l node.journal

-- what an end knows, by what its node's journal says of its link
abbrev knows_in : EndState → List Value → TargetView Value
knows_in end taken = record { before = 0; taken = taken; stage = target_stage_of end.stage end.hand }

abbrev knows_out : OutEnd → List Value → SourceView Value
knows_out end given = record { before = 0; given = given; last = end.last; stage = source_stage_of end.stage }

view_in_stays : (node new : NodeState) → NoneMoves node new → (p k : ℕ) → p < length node.block.ports
    → in_view p k new ≡ in_view p k node
view_in_stays node new none p k below =
    ap (λ (ends : List EndState). view_of_in new.journal (end_in k ends)) (none.ins p below)
    ∙ ap (knows_in (end_in k (port_at p node.block).ends)) (none.taken (in_link_at p k node))

view_out_stays : (node new : NodeState) → NoneMoves node new → (k : ℕ) → out_view k new ≡ out_view k node
view_out_stays node new none k =
    ap (λ (ends : List OutEnd). view_of_out new.journal (end_out_in ends k)) none.outs
    ∙ ap (knows_out (end_at node.block.exits k)) (none.given (out_link_at k node))

copy_view_stays : (node new : NodeState) → NoneMoves node new → (k : ℕ) → k < length node.block.copies.ends
    → copy_view k new ≡ copy_view k node
copy_view_stays node new none k there =
    ap (view_of_out new.journal) (none.copies k there)
    ∙ ap (knows_out (link_over node.block.copies k)) (none.given (link_over node.block.copies k).rule.id)

others_stay : (call : NodeCall) (node new : NodeState) → NoneMoves node new → OthersStay call node new
others_stay call node new none = record {
  ins = λ p k below there apart. view_in_stays node new none p k below;
  outs = λ k there apart. view_out_stays node new none k;
  copies = λ k there apart. copy_view_stays node new none k there;
}

module _ {W : Type 0} (layout : Layout W) (meaning : ℕ → Value → Result (List Value) ℕ) (b : ℕ) (node : NodeState)
    (law : NodeLaw layout meaning b node) where
  -- a message is taken: the mark names the link of the end that had it in hand
  closed : (p k : ℕ) (value : Value) → p < length node.block.ports → k < length (port_at p node.block).ends
      → hand_at p k node ≡ Some value
      → ViewsMove (NodeCall.close p k) node (holds_in p k (Some value) node)
  closed p k value below there in_hand =
      let l = in_link_at p k node in
      let mark = Took p l value in
      let end : EndState = record (end_in k (port_at p node.block).ends) { stage = target.Free; hand = None } in
      let one = one_in node p k (closes k value (port_at p node.block)) end below there refl in
      record {
        moved = record {
          value = value;
          in_hand = in_hand;
          view = ap (view_of_in (node.journal ++ mark ∷ [])) one.here
              ∙ ap (knows_in end) (took_here (λ port link. link == l) node.journal p l value (eq-eqb l l refl));
        };
        others = record {
          ins = λ q j small near apart.
              let other = (end_in j (port_at q node.block).ends).link in
              let differs =
              links_in_differ layout meaning b node.block law.shape p q k j below small there near apart in
              ap (view_of_in (node.journal ++ mark ∷ [])) (one.others q j apart)
              ∙ ap (knows_in (end_in j (port_at q node.block).ends))
              (took_same (λ port link. link == other) node.journal mark
              (ap (λ (same : Bool). cond same (value ∷ []) []) differs));
          outs = λ j near other. ap (knows_out (end_at node.block.exits j))
              (gave_same (λ link. link == out_link_at j node) node.journal mark refl);
          copies = λ j near other. ap (knows_out (link_over node.block.copies j))
              (gave_same (λ link. link == (link_over node.block.copies j).rule.id) node.journal mark refl);
        };
      }

  -- the head is given: the mark names the link that it goes over
  given : (k : ℕ) (value : Value) → k < length node.block.exits.ends → head_of node.block.exits ≡ Some value
      → ViewsMove (NodeCall.give k) node (gives_from k (Some value) node)
  given k value there head =
      let l = out_link_at k node in
      let mark = Gave l value in
      let end = given_end node.block.exits.next (end_at node.block.exits k) in
      let one = one_out node k (gives k node.block.exits) end there refl in
      record {
        moved = record {
          value = value;
          head = head;
          view = ap (view_of_out (node.journal ++ mark ∷ [])) one.here
              ∙ ap (knows_out end) (gave_here (λ link. link == l) node.journal l value (eq-eqb l l refl));
        };
        others = record {
          ins = λ q j small near apart.
              ap (λ (port : PortState). view_of_in (node.journal ++ mark ∷ []) (end_in j port.ends))
              (port_back (gives k node.block.exits) node.block.copies node.block.kind (head_of node.block.exits) node.block.ports q small)
              ∙ ap (knows_in (end_in j (port_at q node.block).ends))
              (took_same (λ port link. link == in_link_at q j node) node.journal mark refl);
          outs = λ j near other.
              let differs = links_out_differ layout meaning b node.block law.shape j k near there other in
              ap (view_of_out (node.journal ++ mark ∷ [])) (one.others j other)
              ∙ ap (knows_out (end_at node.block.exits j))
              (gave_same (λ link. link == out_link_at j node) node.journal mark
              (ap (λ (same : Bool). cond same (value ∷ []) []) differs));
          copies = λ j near other. absurd (no_copy_at layout meaning b node law (shares_at layout meaning b node.block law.shape k there) j near);
        };
      }

none_moves : (node : NodeState) (block : BlockState) → EndsStay node.block block
    → NoneMoves node (with_block block node)
none_moves node block stay = record { ins = stay.ins; outs = stay.outs; copies = stay.copies; taken = λ l. refl; given = λ l. refl }

none_moves_by : (node : NodeState) (block : BlockState) (mark : Mark) → EndsStay node.block block
    → ((test : ℕ → ℕ → Bool) → taken_by_mark test mark ≡ []) → ((test : ℕ → Bool) → given_by_mark test mark ≡ [])
    → NoneMoves node (marks mark (with_block block node))
none_moves_by node block mark stay none_taken none_given = record {
  ins = stay.ins;
  outs = stay.outs;
  copies = stay.copies;
  taken = λ l. took_same (λ port link. link == l) node.journal mark (none_taken (λ port link. link == l));
  given = λ l. gave_same (λ link. link == l) node.journal mark (none_given (λ link. link == l));
}

making_moves : (result : Value → Result (List Value) ℕ) (node : NodeState)
    → (is_broadcast node.block.kind ≡ true → none_waits node.block.copies ≡ true) → NoneMoves node (makes_next result node)
making_moves result node none =
    next_by (λ (new : NodeState). NoneMoves node new) result node
    (λ batched.
    let stay = group_stays node.block.size 0 (order_in node) node.block in
    record { ins = stay.ins; outs = stay.outs; copies = stay.copies; taken = λ l. refl; given = λ l. refl })
    (λ grouped. none_moves node (makes result node.block) (making_stays result node.block none))

-- where no end moves after that, a message is taken all the same
views_after : (p k : ℕ) (node held new : NodeState) → p < length held.block.ports
    → length held.block.ports ≡ length node.block.ports → length held.block.copies.ends ≡ length node.block.copies.ends
    → NoneMoves held new → ViewsMove (NodeCall.close p k) node held → ViewsMove (NodeCall.close p k) node new
views_after p k node held new below ports copies none moves = record {
  moved = record {
    value = moves.moved.value;
    in_hand = moves.moved.in_hand;
    view = view_in_stays held new none p k below ∙ moves.moved.view;
  };
  others = record {
    ins = λ q j small near apart.
        view_in_stays held new none q j (omega (arith, small, ports)) ∙ moves.others.ins q j small near apart;
    outs = λ j near other. view_out_stays held new none j ∙ moves.others.outs j near other;
    copies = λ j near other.
        copy_view_stays held new none j (omega (arith, near, copies)) ∙ moves.others.copies j near other;
  };
}

head_there : (when : When) (head : Option Value) → admits_head when head ≡ true → is_some head ≡ true
head_there when None e = absurd (cc)
head_there when (Some value) e = refl

-- how far its round is, no end of a link knows
of_any_round : (call : NodeCall) (node new : NodeState) (round : RoundState) → OthersStay call node new
    → OthersStay call node (record new { round = round })
of_any_round call node new round others = record { ins = others.ins; outs = others.outs; copies = others.copies }

pub calls_move_views : (W : Type 0) → CallsMoveViews W
calls_move_views W layout meaning b node (NodeCall.want p k) law may =
    let i = message_at p k node in
    let end : EndState = record (end_in k (port_at p node.block).ends) { stage = target.Accepted i } in
    let one = one_in node p k (wants k (port_at p node.block)) end may.0.port may.0.place refl in
    record {
      moved = ap (view_of_in node.journal) one.here;
      others = others_in (NodeCall.want p k) node p k _ end (λ q j apart. apart) one;
    }
calls_move_views W layout meaning b node (NodeCall.turn_down p k) law may =
    let end : EndState = record (end_in k (port_at p node.block).ends) { stage = target.Free } in
    let one = one_in node p k (turns_down k (port_at p node.block)) end may.port may.place refl in
    record {
      moved = ap (view_of_in node.journal) one.here;
      others = others_in (NodeCall.turn_down p k) node p k _ end (λ q j apart. apart) one;
    }
calls_move_views W layout meaning b node (NodeCall.postpone p k) law may =
    let i = message_at p k node in
    let end : EndState = record (end_in k (port_at p node.block).ends) { stage = target.Postponed i } in
    let one = one_in node p k (postpones k (port_at p node.block)) end may.offered.port may.offered.place refl in
    record {
      moved = ap (view_of_in node.journal) one.here;
      others = others_in (NodeCall.postpone p k) node p k _ end (λ q j apart. apart) one;
    }
calls_move_views W layout meaning b node (NodeCall.refuse p k) law may =
    let port = port_at p node.block in
    let old = end_in k port.ends in
    let end : EndState = record old { stage = refused_by port.refusing } in
    let one = one_in node p k (refuses k port) end may.0.port may.0.place refl in
    let reason = some_is port.refusing may.1 in
    record {
      moved = record {
        why = reason.0;
        is_why = reason.1;
        view = ap (view_of_in node.journal) one.here
            ∙ ap (λ (o : Option Refusal). view_of_in node.journal (record old { stage = refused_by o })) reason.1;
      };
      others = of_any_round (NodeCall.refuse p k) node _ _ (others_in (NodeCall.refuse p k) node p k _ end (λ q j apart. apart) one);
    }
calls_move_views W layout meaning b node (NodeCall.consume p k) law may =
    let i = message_at p k node in
    let end : EndState = record (end_in k (port_at p node.block).ends) { stage = target.Consuming i } in
    let one = one_in node p k (consumes k (port_at p node.block)) end may.0.port may.0.place refl in
    record {
      moved = ap (view_of_in node.journal) one.here;
      others = others_in (NodeCall.consume p k) node p k _ end (λ q j apart. apart) one;
    }
calls_move_views W layout meaning b node (NodeCall.ask p k) law may =
    let i = message_at p k node in
    let end : EndState = record (end_in k (port_at p node.block).ends) { stage = target.Asking i } in
    let one = one_in node p k (asks k (port_at p node.block)) end may.port may.place refl in
    record {
      moved = ap (view_of_in node.journal) one.here;
      others = others_in (NodeCall.ask p k) node p k _ end (λ q j apart. apart) one;
    }
calls_move_views W layout meaning b node (NodeCall.claim p k) law may =
    let i = message_at p k node in
    let end : EndState = record (end_in k (port_at p node.block).ends) { stage = target.Claiming i } in
    let one = one_in node p k (claims k (port_at p node.block)) end may.port may.place refl in
    record {
      moved = ap (view_of_in node.journal) one.here;
      others = of_any_round (NodeCall.claim p k) node _ (claims_on node.round)
          (others_in (NodeCall.claim p k) node p k _ end (λ q j apart. apart) one);
    }
calls_move_views W layout meaning b node (NodeCall.release p k) law may =
    let i = message_at p k node in
    let end : EndState = record (end_in k (port_at p node.block).ends) { stage = target.Postponed i } in
    let one = one_in node p k (releases k (port_at p node.block)) end may.port may.place refl in
    record {
      moved = ap (view_of_in node.journal) one.here;
      others = of_any_round (NodeCall.release p k) node _ _ (others_in (NodeCall.release p k) node p k _ end (λ q j apart. apart) one);
    }
calls_move_views W layout meaning b node (NodeCall.open_with p k value) law may =
    let i = message_at p k node in
    let end : EndState = record (end_in k (port_at p node.block).ends) { stage = target.Hand i; hand = Some value } in
    let one = one_in node p k (opens k value (port_at p node.block)) end may.port may.place refl in
    record {
      moved = ap (view_of_in node.journal) one.here;
      others = others_in (NodeCall.open_with p k value) node p k _ end (λ q j apart. apart) one;
    }
calls_move_views W layout meaning b node (NodeCall.close p k) law may =
    let in_hand = some_is (hand_at p k node) (((law.ports p may.port).each k may.place).hand ∙ may.stands) in
    let value = in_hand.0 in
    let held = holds_in p k (Some value) node in
    let moves = closed layout meaning b node law p k value may.port may.place in_hand.1 in
    let taken = subst (λ (hand : Option Value). ViewsMove (NodeCall.close p k) node (takes_in p k hand node)) (sym in_hand.1)
    (taken_keeps (λ new. ViewsMove (NodeCall.close p k) node (with_block new held)) held.block moves
    (λ at_once.
    let once = at_once.once in
    let copier = law.copies.copier (kind_tells is_write_once true is_one_taker false refl node.block.kind once) in
    let waits = (may_put_yet layout b node.block node.journal copier once (free_is_given node.block.copies at_once.free)).waits in
    let same = length-set node.block.ports p (closes k value (port_at p node.block)) in
    let new = copies_next (first_of (held_by held.block)) held.block in
    views_after p k node held (with_block new held) (omega (arith, may.port, same)) same refl
    (none_moves held new (copied_stays (first_of (held_by held.block)) held.block waits)) moves)) in
    record {
      moved = record { value = taken.moved.value; in_hand = taken.moved.in_hand; view = taken.moved.view };
      others = of_any_round (NodeCall.close p k) node _ _ taken.others;
    }
calls_move_views W layout meaning b node (NodeCall.offer k) law may =
    let o = node.block.exits in
    let there = ((offers_in_order.named o k).0 may.next).there in
    let end : OutEnd = record (end_at o k) { stage = source.Out o.next } in
    let one = one_out node k (offers k (prepares o)) end there refl in
    record {
      moved = ap (view_of_out node.journal) one.here;
      others = others_out (NodeCall.offer k) node k _ end (λ j apart. apart) one;
    }
calls_move_views W layout meaning b node (NodeCall.give k) law may =
    let o = node.block.exits in
    let exits = law.exits.law in
    let admitted = gives_in_order.admitted (is_pending node.block) node.block.stopped o exits k may.place may.wanted in
    let head = some_is (head_of o) (head_there (end_at o k).rule.when (head_of o) admitted) in
    subst (λ (first : Option Value). ViewsMove (NodeCall.give k) node (gives_from k first node)) (sym head.1)
    (given layout meaning b node law k head.0 may.place head.1)
calls_move_views W layout meaning b node (NodeCall.hold k) law may =
    let o = node.block.exits in
    let end : OutEnd = record (end_at o k) { stage = source.Reserved o.next } in
    let one = one_out node k (holds k o) end may.place refl in
    record {
      moved = ap (view_of_out node.journal) one.here;
      others = others_out (NodeCall.hold k) node k _ end (λ j apart. apart) one;
    }
calls_move_views W layout meaning b node (NodeCall.deny k) law may =
    let end : OutEnd = record (end_at node.block.exits k) { stage = source.Free } in
    let one = one_out node k (denies k node.block.exits) end may.place refl in
    record {
      moved = ap (view_of_out node.journal) one.here;
      others = others_out (NodeCall.deny k) node k _ end (λ j apart. apart) one;
    }
calls_move_views W layout meaning b node (NodeCall.withdraw k) law may =
    let o = node.block.exits in
    let declined = cond o.renewing (end_at o k).declined (unwrap_or (id_of (stage_at o k)) 0) in
    let end : OutEnd = record (end_at o k) { declined = declined; stage = source.Free } in
    let one = one_out node k (withdraws k o) end may.waits.place refl in
    record {
      moved = ap (view_of_out node.journal) one.here;
      others = others_out (NodeCall.withdraw k) node k _ end (λ j apart. apart) one;
    }
calls_move_views W layout meaning b node (NodeCall.end_link k how) law may =
    let end : OutEnd = record (end_at node.block.exits k) { stage = source.Ended how } in
    let one = one_out node k (ends_link k how node.block.exits) end may.is_at_home.place refl in
    record {
      moved = ap (view_of_out node.journal) one.here;
      others = others_out (NodeCall.end_link k how) node k _ end (λ j apart. apart) one;
    }
calls_move_views W layout meaning b node (NodeCall.look_in p k phase) law may =
    let old = end_in k (port_at p node.block).ends in
    let end : EndState = record old { stage = target_looks old.stage phase } in
    let one = one_in node p k (port_looks k phase (port_at p node.block)) end may.0.port may.0.place refl in
    record {
      moved = ap (view_of_in node.journal) one.here
          ∙ ap (λ (stage : TargetStage Value). target_at stage (view_of_in node.journal old))
          (target_looks_kept old.stage old.hand phase);
      others = of_any_round (NodeCall.look_in p k phase) node _ _ (others_in (NodeCall.look_in p k phase) node p k _ end (λ q j apart. apart) one);
    }
calls_move_views W layout meaning b node (NodeCall.look_out k phase) law may =
    let old = end_at node.block.exits k in
    let end : OutEnd = record old { stage = source_looks old.stage phase } in
    let one = one_out node k (exit_looks k phase node.block.exits) end may.place refl in
    record {
      moved = ap (view_of_out node.journal) one.here
          ∙ ap (λ (stage : SourceStage). source_at stage (view_of_out node.journal old))
          (source_looks_kept old.stage phase);
      others = others_out (NodeCall.look_out k phase) node k _ end (λ j apart. apart) one;
    }
calls_move_views W layout meaning b node (NodeCall.copy call) law may =
    copies_move_views W layout b node (law.copies.copier (copies_at layout meaning b node law (copy_place call) may.place)) call may
calls_move_views W layout meaning b node NodeCall.begin law may =
    let none = none_moves node (begins node.block) (jobs_stay node.block one_more) in
    record { moved = tt; others = others_stay NodeCall.begin node (after_call layout meaning b NodeCall.begin node) none }
calls_move_views W layout meaning b node NodeCall.make law may =
    let new = after_call layout meaning b NodeCall.make node in
    let none = making_moves (block_makes layout meaning b) node (λ broadcast. may_copy_next node.block broadcast may.waits) in
    record { moved = tt; others = others_stay NodeCall.make node new none }
calls_move_views W layout meaning b node (NodeCall.complete p) law may =
    let new = after_call layout meaning b (NodeCall.complete p) node in
    let none = none_moves_by node new.block (Complete p) (closing_stays node.block p) (λ test. refl) (λ test. refl) in
    record { moved = tt; others = others_stay (NodeCall.complete p) node new none }
calls_move_views W layout meaning b node (NodeCall.fault number) law may =
    let new = after_call layout meaning b (NodeCall.fault number) node in
    let stay = stopping_stays node.block (outcome.Faulted number) in
    let none = none_moves_by node new.block (Fault number) stay (λ test. refl) (λ test. refl) in
    record { moved = tt; others = others_stay (NodeCall.fault number) node new none }
calls_move_views W layout meaning b node NodeCall.finish law may =
    let new = after_call layout meaning b NodeCall.finish node in
    let stay = stopping_stays node.block outcome.Done in
    let none = none_moves_by node new.block Done stay (λ test. refl) (λ test. refl) in
    record { moved = tt; others = others_stay NodeCall.finish node new none }
