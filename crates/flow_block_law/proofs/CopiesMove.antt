-- A call at a link over which copies go moves the view of its own end as the laws of one link have it, and no other end's.
use Rattle.std.proofs.Common.{◌≡◌, ◌≢◌, ℕ, ◌-◌, ◌<◌, ◌==◌, ◌&&◌, not, cond, Bool, true, false, List, [], ◌∷◌, ◌++◌, length, Option, Some, None, is_some, refl, ap, sym, ◌∙◌, arith, eq-eqb, eqb-true}
use Rattle.std.proofs.lemmas.List.{length-set, get_or-set_same, get_or-set_other}
use Rattle.flow_value.specs.declared.value.Value.{Value}
use Rattle.flow_link.specs.declared.stage.SourceStage.{SourceStage}
use Rattle.flow_link.specs.declared.stage.SourceStage.TheVariants as source
use Rattle.flow_link.specs.declared.trace.Mark.{Mark}
use Rattle.flow_link.specs.declared.trace.Mark.TheVariants.{Gave}
use Rattle.flow_link.specs.Layout.{Layout}
use Rattle.flow_link.specs.Moves.{source_at}
use Rattle.flow_link.specs.Stage.{source_stage_of, target_stage_of, source_looks}
use Rattle.flow_link.specs.Views.{SourceView, TargetView}
use Rattle.flow_link.specs.Views as views
use Rattle.flow_link.proofs.StagesKept.{source_looks_kept}
use Rattle.flow_intake.specs.Port.{EndState, PortState, end_in}
use Rattle.flow_intake.specs.Calls.{gives_room}
use Rattle.flow_outlet.specs.declared.ends.OutEnd.{OutEnd}
use Rattle.flow_outlet.specs.ByLink.{forgotten_stage}
use Rattle.flow_outlet.specs.End.{is_waiting}
use Rattle.flow_outlet.specs.Outlet.{given_end}
use Rattle.flow_spread.specs.declared.end.CopyEnd.{CopyEnd}
use Rattle.flow_spread.specs.End.{no_end, moved, is_answer, is_waiting_at, count_of}
use Rattle.flow_spread.specs.Spread.{SpreadState, end_at, link_at, stage_at, changes, prepares, offers, gives, asked_id}
use Rattle.flow_spread.proofs.CountsOfEnds.{none_there}
use Rattle.flow_spread.proofs.LawKept.{law_tells, end_mapped}
use Rattle.flow_block.specs.Block.{with_copies, port_at}
use Rattle.flow_block_law.specs.Copier.{Copier}
use Rattle.flow_block.specs.Copies.{CopyCall, copy_place, copies_weight}
use Rattle.flow_block_law.specs.NextCopies.{CopiesMoveViews, PutsMoveNone}
use Rattle.flow_block.specs.Node.{NodeState, NodeCall, view_of_in, view_of_out, in_link_at, copy_view, marks_copied, copies_by}
use Rattle.flow_block_law.specs.NodeKeeps.{MayCopy}
use Rattle.flow_block_law.specs.ViewsMove.{OthersStay, ViewsMove}
use Rattle.flow_block_law.proofs.CopierHolds.{copies_lawful, differ, no_exit_at}
use Rattle.flow_block_law.proofs.JournalTells.{took_same, gave_same, gave_here}
use Rattle.flow_block.proofs.PortsChange.{port_of_map}

-- one link comes to stand so, and all others stay
record OneMoves (s new : SpreadState) (k : ℕ) (link : OutEnd) : Type 0 where
  here : link_at new k ≡ link
  others : (j : ℕ) → j ≢ k → link_at new j ≡ link_at s j

one_moves : (s : SpreadState) (k : ℕ) (end : CopyEnd) → k < length s.ends → OneMoves s (changes k end s) k end.link
one_moves s k end there = record {
  here = ap (λ (e : CopyEnd). e.link) (get_or-set_same s.ends k end no_end there);
  others = λ j other. ap (λ (e : CopyEnd). e.link) (get_or-set_other s.ends k j end no_end other);
}

-- an offer, with what is made for it
one_offers : (s : SpreadState) (k : ℕ) → k < length s.ends
    → OneMoves s (offers k (prepares k s)) k (record (link_at s k) { stage = source.Out s.id })
one_offers s k there =
    let first : CopyEnd = record (end_at s k) { share = s.element } in
    let ready = prepares k s in
    let prepared = one_moves s k first there in
    let then : CopyEnd = moved (record (link_at ready k) { stage = source.Out s.id }) (end_at ready k).owes (end_at ready k) in
    let near : k < length ready.ends = omega (arith, there, length-set s.ends k first) in
    let offered = one_moves ready k then near in
    record {
      here = offered.here ∙ ap (λ (link : OutEnd). record link { stage = source.Out s.id }) prepared.here;
      others = λ j other. offered.others j other ∙ prepared.others j other;
    }

-- what an end knows, by what its node's journal says of its link
abbrev knows_in : EndState → List Value → TargetView Value
knows_in end taken = record { before = 0; taken = taken; stage = target_stage_of end.stage end.hand }

abbrev knows_out : OutEnd → List Value → SourceView Value
knows_out end given = record { before = 0; given = given; last = end.last; stage = source_stage_of end.stage }

module _ (node : NodeState) where
  abbrev copies : SpreadState
  copies = node.block.copies

  abbrev with_spread : SpreadState → List Mark → NodeState
  with_spread s journal = record node { block = with_copies s node.block; journal = journal }

  -- where no mark is made
  others_stay : (call : CopyCall) (k : ℕ) (s : SpreadState) (link : OutEnd) → copy_place call ≡ k → OneMoves copies s k link
      → OthersStay (NodeCall.copy call) node (with_spread s node.journal)
  others_stay call k s link place one =
      let room = copies_weight copies - copies_weight s in
      record {
        ins = λ p j below there apart.
            ap (λ (port : PortState). view_of_in node.journal (end_in j port.ends))
            (port_of_map (gives_room room) node.block.ports p below);
        outs = λ j there apart. refl;
        copies = λ j there apart. ap (view_of_out node.journal) (one.others j (λ same. apart (same ∙ sym place)));
      }

module _ {W : Type 0} (layout : Layout W) (b : ℕ) (node : NodeState) (c : Copier layout b node.block node.journal) where
  -- the element is given, and the mark names the link that it goes over
  given : (k : ℕ) (value : Value) → k < length node.block.copies.ends → node.block.copies.element ≡ Some value
      → ViewsMove (NodeCall.copy (CopyCall.give k)) node
      (with_spread node (gives k node.block.copies)
      (marks_copied (link_at node.block.copies k).rule.id (Some value) node.journal))
  given k value there element =
      let old = node.block.copies in
      let l = (link_at old k).rule.id in
      let mark = Gave l value in
      let link = given_end old.id (link_at old k) in
      let one = one_moves old k (moved link false (end_at old k)) there in
      let room = copies_weight old - copies_weight (gives k old) in
      record {
        moved = record {
          value = value;
          element = element;
          view = ap (view_of_out (node.journal ++ mark ∷ [])) one.here
              ∙ ap (knows_out link) (gave_here (λ n. n == l) node.journal l value (eq-eqb l l refl));
        };
        others = record {
          ins = λ q j small near apart.
              ap (λ (port : PortState). view_of_in (node.journal ++ mark ∷ []) (end_in j port.ends))
              (port_of_map (gives_room room) node.block.ports q small)
              ∙ ap (knows_in (end_in j (port_at q node.block).ends))
              (took_same (λ port n. n == in_link_at q j node) node.journal mark refl);
          outs = λ j near other. absurd (no_exit_at layout b node.block node.journal c j near);
          copies = λ j near other.
              let mine = (link_at old j).rule.id in
              ap (view_of_out (node.journal ++ mark ∷ [])) (one.others j other)
              ∙ ap (knows_out (link_at old j))
              (gave_same (λ n. n == mine) node.journal mark
              (ap (λ (same : Bool). cond same (value ∷ []) [])
              (differ layout b node.block node.journal c j k near there other)));
        };
      }

  gives_some : (k : ℕ) (element : Option Value) → k < length node.block.copies.ends → node.block.copies.element ≡ element
      → is_some element ≡ true
      → ViewsMove (NodeCall.copy (CopyCall.give k)) node
      (with_spread node (gives k node.block.copies) (marks_copied (link_at node.block.copies k).rule.id element node.journal))
  gives_some k None there is some = absurd (cc)
  gives_some k (Some value) there is some = given k value there is

  moves_by : (call : CopyCall) → MayCopy call node → ViewsMove (NodeCall.copy call) node (copies_by call node)
  moves_by (CopyCall.offer k) may =
      let one = one_offers node.block.copies k may.place in
      record {
        moved = ap (view_of_out node.journal) one.here;
        others = others_stay node (CopyCall.offer k) k _ _ refl one;
      }
  moves_by (CopyCall.look k phase) may =
      let s = node.block.copies in
      let stage = source_looks (stage_at s k) phase in
      let end : CopyEnd = moved (record (link_at s k) { stage = stage })
      ((end_at s k).owes && not (is_answer s.once stage)) (end_at s k) in
      let one = one_moves s k end may.place in
      record {
        moved = ap (view_of_out node.journal) one.here
            ∙ ap (λ (at : views.SourceStage). source_at at (copy_view k node)) (source_looks_kept (stage_at s k) phase);
        others = others_stay node (CopyCall.look k phase) k _ _ refl one;
      }
  moves_by (CopyCall.give k) may =
      let well = law_tells.given 1 c.pending node.block.stopped node.block.copies
      (copies_lawful layout b node.block node.journal c) k may.place may.stands in
      gives_some k node.block.copies.element may.place refl well.is_element
  moves_by (CopyCall.hold k) may =
      let s = node.block.copies in
      let end : CopyEnd =
      moved (record (link_at s k) { stage = source.Reserved (asked_id (stage_at s k)) }) (end_at s k).owes (end_at s k) in
      let one = one_moves s k end may.place in
      record {
        moved = ap (view_of_out node.journal) one.here;
        others = others_stay node (CopyCall.hold k) k _ _ refl one;
      }
  moves_by (CopyCall.withdraw k) may =
      let s = node.block.copies in
      let end : CopyEnd = moved (record (link_at s k) { declined = asked_id (stage_at s k); stage = source.Free })
      (end_at s k).owes (end_at s k) in
      let one = one_moves s k end may.place in
      record {
        moved = ap (view_of_out node.journal) one.here;
        others = others_stay node (CopyCall.withdraw k) k _ _ refl one;
      }
  moves_by (CopyCall.end_link k how) may =
      let s = node.block.copies in
      let end : CopyEnd = moved (record (link_at s k) { stage = source.Ended how }) (end_at s k).owes (end_at s k) in
      let one = one_moves s k end may.place in
      record {
        moved = ap (view_of_out node.journal) one.here;
        others = others_stay node (CopyCall.end_link k how) k _ _ refl one;
      }

pub copies_move_views : (W : Type 0) → CopiesMoveViews W
copies_move_views W layout b node c call may = moves_by layout b node c call may

-- A new element

forgets_none : (stage : SourceStage) → is_waiting stage ≡ false → forgotten_stage stage ≡ stage
forgets_none (source.Waiting i) e = absurd (cc)
forgets_none _ e = refl

pub puts_move_none : PutsMoveNone
puts_move_none value node k here none =
    let s = node.block.copies in
    let waits = none_there is_waiting_at s.ends k here (eqb-true (count_of is_waiting_at s.ends) 0 none) in
    ap (λ (end : CopyEnd). end.link) (end_mapped value s.ends k here)
    ∙ ap (λ (stage : SourceStage). record (link_at s k) { stage = stage }) (forgets_none (stage_at s k) waits)
