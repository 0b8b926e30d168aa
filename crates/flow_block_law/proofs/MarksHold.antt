-- Each call keeps the marks of a node in order.
use Rattle.std.proofs.Common.{◌≡◌, ℕ, ◌==◌, ltb, Bool, true, false, List, [], ◌∷◌, ◌++◌, length, Option, Some, None, is_some, Result, refl, sym, ◌∙◌, subst, arith, eqb-true}
use Rattle.std.proofs.lemmas.Bool.{lt-ltb, and_from}
use Rattle.flow_value.specs.declared.value.Value.{Value}
use Rattle.flow_link.specs.declared.trace.Mark.{Mark}
use Rattle.flow_link.specs.declared.trace.Mark.TheVariants.{Took, Gave, Complete, Fault, Done}
use Rattle.flow_lawful.specs.Law.{is_own_mark}
use Rattle.flow_link.specs.Layout.{Layout}
use Rattle.flow_link.specs.Lists.{below}
use Rattle.flow_link.specs.Plan.{block_in, link_in, port_count}
use Rattle.flow_link.specs.Trace.{has_complete}
use Rattle.flow_link.proofs.ListTests.{length_numbers}
use Rattle.flow_link.proofs.OneMoreMark.{every_more}
use Rattle.flow_intake.specs.Port.{stage_at as port_stage, hand_in, is_hand}
use Rattle.flow_intake.proofs.CountsOfEnds.{hand_comes}
use Rattle.flow_outlet.specs.Outlet.{head_of, stage_at}
use Rattle.flow_spread.specs.Spread.{link_at}
use Rattle.flow_block.specs.Copies.{CopyCall}
use Rattle.flow_block_law.proofs.CopierHolds.{copy_goes_on}
use Rattle.flow_block_law.proofs.CopiesIdle.{copies_at}
use Rattle.flow_block_law.proofs.CopiesLeave.{marks_by_copy}
use Rattle.flow_block.specs.Block.{port_at}
use Rattle.flow_block.specs.Node.{NodeState, NodeCall, holds_in, gives_from, copies_by, in_link_at, out_link_at}
use Rattle.flow_block_law.specs.NodeKeeps.{InAt, MayCopy, MayGive, MayCompletePort, MarksKept, MayCall, after_call}
use Rattle.flow_block_law.specs.NodeLaw.{NodeLaw, MarksLaw, outcome_in, run_seen_by}
use Rattle.flow_block.specs.Planned.{is_into, is_out_of, block_makes}
use Rattle.flow_block_law.proofs.GoingOn.{open_goes_on, away_goes_on, wanted_away, may_complete_tells, may_fault_tells, may_finish_tells}
use Rattle.flow_block_law.proofs.JournalTells.{GoesWith, once_more, stops_more}
use Rattle.flow_block_law.proofs.PlacesOfCopies.{copy_out_is}
use Rattle.flow_block_law.proofs.PlacesOfLinks.{end_in_is, end_out_is, there_at_port, there_at_source}
use Rattle.flow_block_law.proofs.KindsBuilt.{next_by}

-- What a mark goes with

other_port : (p q : ℕ) (marks : List Mark) → has_complete p marks ≡ false → has_complete q marks ≡ true
    → (p == q) ≡ false
other_port p q marks none is = by_test (p == q) refl
  where
    by_test : (same : Bool) → (p == q) ≡ same → same ≡ false
    by_test true e =
        let there : has_complete p marks ≡ true =
        subst (λ (r : ℕ). has_complete r marks ≡ true) (sym (eqb-true p q e)) is in
        let clash : true ≡ false = sym there ∙ none in
        absurd (cc)
    by_test false e = refl

took_goes : (p l : ℕ) (value : Value) (marks : List Mark) → has_complete p marks ≡ false
    → GoesWith marks (Took p l value)
took_goes p l value marks none q is = record { not_again = refl; takes_none = rw (other_port p q marks none is) refl }

gave_goes : (l : ℕ) (value : Value) (marks : List Mark) → GoesWith marks (Gave l value)
gave_goes l value marks q is = record { not_again = refl; takes_none = refl }

complete_goes : (p : ℕ) (marks : List Mark) → has_complete p marks ≡ false → GoesWith marks (Complete p)
complete_goes p marks none q is = record { not_again = other_port p q marks none is; takes_none = refl }

fault_goes : (number : ℕ) (marks : List Mark) → GoesWith marks (Fault number)
fault_goes number marks q is = record { not_again = refl; takes_none = refl }

done_goes : (marks : List Mark) → GoesWith marks Done
done_goes marks q is = record { not_again = refl; takes_none = refl }

module _ {W : Type 0} (layout : Layout W) (meaning : ℕ → Value → Result (List Value) ℕ) (b : ℕ) where
  one_more : (journal : List Mark) (mark : Mark) → MarksLaw layout meaning b journal
      → is_own_mark (run_seen_by layout meaning b []) b mark ≡ true → outcome_in journal ≡ None → GoesWith journal mark
      → MarksLaw layout meaning b (journal ++ mark ∷ [])
  one_more journal mark law own none goes = record {
    own = every_more (is_own_mark (run_seen_by layout meaning b []) b) journal mark law.own own;
    last = stops_more journal mark none;
    once = once_more journal mark goes law.once;
  }

  -- a message that is in hand comes into a port that has not ended
  taken_in : (node : NodeState) → NodeLaw layout meaning b node → (p k : ℕ) (value : Option Value)
      → InAt is_hand p k node
      → MarksLaw layout meaning b (holds_in p k value node).journal
  taken_in node law p k None at = law.marks
  taken_in node law p k (Some value) at =
      let end = (law.ports p at.port).each k at.place in
      let open_port = end.coming (hand_comes (port_stage k (port_at p node.block)) at.stands) in
      let goes = open_goes_on layout meaning b node.block node.journal law.ends p at.port open_port in
      let l = in_link_at p k node in
      let link = end_in_is layout meaning b node.block law.shape p k at.port at.place in
      one_more node.journal (Took p l value) law.marks
      (and_from (ltb l (length layout.links)) (is_into layout b p l) (lt-ltb l (length layout.links) link.there)
      (there_at_port b p (link_in layout.links l).target link.leads))
      goes.0 (took_goes p l value node.journal goes.1)

  -- where a link has something under way the block has not stopped
  given_out : (node : NodeState) → NodeLaw layout meaning b node → (k : ℕ) (value : Option Value) → MayGive k node
      → MarksLaw layout meaning b (gives_from k value node).journal
  given_out node law k None may = law.marks
  given_out node law k (Some value) may =
      let away =
      wanted_away node.block.exits.next (is_some node.block.exits.offer) (stage_at node.block.exits k) may.wanted in
      let goes = away_goes_on layout meaning b node.block node.journal law.ends k away in
      let l = out_link_at k node in
      let link = end_out_is layout meaning b node.block law.shape k may.place in
      one_more node.journal (Gave l value) law.marks
      (and_from (ltb l (length layout.links)) (is_out_of layout b l) (lt-ltb l (length layout.links) link.there)
      (there_at_source b (link_in layout.links l).source link.begins))
      (sym law.ends.stopped_is ∙ goes) (gave_goes l value node.journal)

  -- the element goes over one of its links
  copied_out : (node : NodeState) → NodeLaw layout meaning b node → (call : CopyCall) → MayCopy call node
      → MarksLaw layout meaning b (copies_by call node).journal
  copied_out node law call may =
      let copies = node.block.copies in
      marks_by_copy (MarksLaw layout meaning b) call copies node.journal law.marks
      (λ k is value.
      let gives : MayCopy (CopyCall.give k) node = subst (λ (by : CopyCall). MayCopy by node) is may in
      let copier = law.copies.copier (copies_at layout meaning b node law k gives.place) in
      let goes = copy_goes_on layout b node.block node.journal copier k gives.place gives.stands in
      let l = (link_at copies k).rule.id in
      let link = copy_out_is layout b copies copier.rules k gives.place in
      one_more node.journal (Gave l value) law.marks
      (and_from (ltb l (length layout.links)) (is_out_of layout b l) (lt-ltb l (length layout.links) link.there)
      (there_at_source b (link_in layout.links l).source link.begins))
      (sym law.ends.stopped_is ∙ goes) (gave_goes l value node.journal))

  completed : (node : NodeState) → NodeLaw layout meaning b node → (p : ℕ) → MayCompletePort p node
      → MarksLaw layout meaning b (node.journal ++ Complete p ∷ [])
  completed node law p may =
      let goes =
      open_goes_on layout meaning b node.block node.journal law.ends p may.port
      (may_complete_tells p node.block may.completes).open_port in
      one_more node.journal (Complete p) law.marks
      (lt-ltb p (length (below (port_count (block_in layout.blocks b))))
      (omega (arith, may.port, law.shape.port_count_is, length_numbers 0 (port_count (block_in layout.blocks b)))))
      goes.0 (complete_goes p node.journal goes.1)

  after_each : (node : NodeState) (call : NodeCall) → NodeLaw layout meaning b node → MayCall layout meaning b call node
      → MarksLaw layout meaning b (after_call layout meaning b call node).journal
  after_each node (NodeCall.close p k) law may = taken_in node law p k (hand_in k (port_at p node.block).ends) may
  after_each node (NodeCall.give k) law may = given_out node law k (head_of node.block.exits) may
  after_each node (NodeCall.complete p) law may = completed node law p may
  after_each node (NodeCall.fault number) law may =
      one_more node.journal (Fault number) law.marks refl
      (sym law.ends.stopped_is ∙ (may_fault_tells node.block number may).going)
      (fault_goes number node.journal)
  after_each node NodeCall.finish law may =
      one_more node.journal Done law.marks refl (sym law.ends.stopped_is ∙ (may_finish_tells node.block may).going)
      (done_goes node.journal)
  after_each node (NodeCall.copy call) law may = copied_out node law call may
  after_each node NodeCall.make law may =
      next_by (λ (new : NodeState). MarksLaw layout meaning b new.journal) (block_makes layout meaning b) node
      (λ batched. law.marks) (λ grouped. law.marks)
  after_each node call law may = law.marks

pub marks_kept : (W : Type 0) → MarksKept W
marks_kept W layout meaning b node call law may = after_each layout meaning b node call law may
