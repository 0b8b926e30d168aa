-- Each call of a batched join keeps that no group is short while one of its ports is open, and what a run tells of it.
use Rattle.std.proofs.Common.{◌≡◌, ℕ, ◌<◌, Bool, true, false, ◌&&◌, ◌||◌, List, [], ◌∷◌, ◌++◌, length, get_or, None, Option, Some, Result, refl, ap, ap₂, sym, ◌∙◌, subst}
use Rattle.std.proofs.Math.ListN.{get_or-map}
use Rattle.std.proofs.lemmas.Bool.{and_from, and_parts}
use Rattle.flow_value.specs.declared.value.Value.{Value}
use Rattle.flow_link.specs.declared.draft.BlockKind.TheVariants.{BatchedJoin}
use Rattle.flow_link.specs.declared.trace.Mark.{Mark}
use Rattle.flow_link.specs.declared.trace.Mark.TheVariants.{Took, Complete, Fault, Done}
use Rattle.flow_lawful.specs.Endings.{is_complete_as}
use Rattle.flow_link.specs.JournalGrows.{given_by_mark}
use Rattle.flow_link.specs.Layout.{Layout}
use Rattle.flow_link.specs.Lists.{every, below, is_empty}
use Rattle.flow_link.specs.Making.{Arrival, arrivals, are_cut, are_groups, rows_weight, before_complete, whole_until, outputs, group_size, batched_join_makes}
use Rattle.flow_link.specs.Trace.{BlockTrace, Run, gave, has_complete, marks_of, held_at, left_at, ports_of}
use Rattle.flow_link.proofs.ListTests.{every_below, passes_below}
use Rattle.flow_intake.specs.Port.{PortState, fresh_port, hand_in}
use Rattle.flow_outlet.specs.Outlet.{head_of, rest_of}
use Rattle.flow_group.specs.Groups.{GroupsLaw, is_whole}
use Rattle.flow_group.specs.Tuple.{held_at as waits_at}
use Rattle.flow_group.proofs.GroupsCut.{groups_tell}
use Rattle.flow_group.proofs.GroupsKeep.{groups_kept}
use Rattle.flow_block.specs.Block.{port_at}
use Rattle.flow_block_law.specs.GroupsKeep.{MayCallBatched, after_at_batched}
use Rattle.flow_block_law.specs.GroupsSeen.{WholeStand, BatchedJoinsAreParts}
use Rattle.flow_block.specs.Node.{NodeState, NodeCall, gives_from, in_link_at, out_link_at, holds_in}
use Rattle.flow_block.specs.Planned.{block_makes}
use Rattle.flow_block_law.specs.TuplesSeen.{IsPortsOf}
use Rattle.flow_block_law.proofs.GroupsOfRows.{none_before, passes_before, every_of}
use Rattle.flow_block_law.proofs.GroupsStand.{one_unfinished}
use Rattle.flow_block_law.proofs.TuplesSeen.{left_shared}
use Rattle.flow_block_law.proofs.RowsHold.{other_side, not_both_so, given_back}
use Rattle.flow_block_law.specs.GroupsLaw.{are_complete, KeepsGroups, WholeBefore}

-- Each call

module _ (size : ℕ) where
  -- nothing is given by this mark
  none_given : (count : ℕ) (journal : List Mark) (mark : Mark) → given_by_mark (λ link. true) mark ≡ []
      → WholeBefore count size journal → WholeBefore count size (journal ++ mark ∷ [])
  none_given count journal mark none law = λ p there. ap (every (is_whole size)) (none_before p journal mark none) ∙ law p there

  taken_in : (node : NodeState) (count p k : ℕ) (value : Option Value) → WholeBefore count size node.journal
      → WholeBefore count size (holds_in p k value node).journal
  taken_in node count p k None law = law
  taken_in node count p k (Some value) law = none_given count node.journal (Took p (in_link_at p k node) value) refl law

  given_out : (order : List ℕ) (node : NodeState) (k : ℕ) (value : Option Value) → head_of node.block.exits ≡ value
      → KeepsGroups size order node.block node.journal → WholeBefore (length node.block.ports) size node.journal
      → WholeBefore (length node.block.ports) size (gives_from k value node).journal
  given_out order node k None head groups law = law
  given_out order node k (Some value) head groups law = λ p there.
      let journal = node.journal in
      let left = node.block.exits.left in
      let complete = are_complete (length node.block.ports) journal in
      passes_before (is_whole size) p journal (out_link_at k node) value (law p there)
      (λ unfinished.
      every_of (is_whole size) (gave journal) value (rest_of left)
      (subst (λ (rows : List Value). every (is_whole size) (gave journal ++ rows) ≡ true) (given_back left value head)
      (other_side (complete && is_empty order) (every (is_whole size) (gave journal ++ left))
      (not_both_so complete (is_empty order) (one_unfinished (length node.block.ports) journal p there unfinished))
      groups.whole)))

module _ {W : Type 0} (layout : Layout W) (meaning : ℕ → Value → Result (List Value) ℕ) (b size weight : ℕ) (order : List ℕ) where
  whole_after : (node : NodeState) (call : NodeCall) → KeepsGroups size order node.block node.journal
      → MayCallBatched layout meaning b size order call node
      → WholeBefore (length node.block.ports) size node.journal
      → WholeBefore (length node.block.ports) size
      (after_at_batched size weight (block_makes layout meaning b) order call node).journal
  whole_after node (NodeCall.want p k) groups may law = law
  whole_after node (NodeCall.turn_down p k) groups may law = law
  whole_after node (NodeCall.postpone p k) groups may law = law
  whole_after node (NodeCall.refuse p k) groups may law = law
  whole_after node (NodeCall.consume p k) groups may law = law
  whole_after node (NodeCall.ask p k) groups may law = law
  whole_after node (NodeCall.claim p k) groups may law = law
  whole_after node (NodeCall.release p k) groups may law = law
  whole_after node (NodeCall.open_with p k value) groups may law = law
  whole_after node (NodeCall.close p k) groups may law =
      taken_in size node (length node.block.ports) p k (hand_in k (port_at p node.block).ends) law
  whole_after node (NodeCall.offer k) groups may law = law
  whole_after node (NodeCall.give k) groups may law = given_out size order node k (head_of node.block.exits) refl groups law
  whole_after node (NodeCall.hold k) groups may law = law
  whole_after node (NodeCall.deny k) groups may law = law
  whole_after node (NodeCall.withdraw k) groups may law = law
  whole_after node (NodeCall.end_link k how) groups may law = law
  whole_after node (NodeCall.look_in p k phase) groups may law = law
  whole_after node (NodeCall.look_out k phase) groups may law = law
  whole_after node (NodeCall.copy call) groups may law = absurd may
  whole_after node NodeCall.begin groups may law = law
  whole_after node NodeCall.make groups may law = law
  whole_after node (NodeCall.complete p) groups may law =
      none_given size (length node.block.ports) node.journal (Complete p) refl law
  whole_after node (NodeCall.fault number) groups may law =
      none_given size (length node.block.ports) node.journal (Fault number) refl law
  whole_after node NodeCall.finish groups may law = none_given size (length node.block.ports) node.journal Done refl law

pub whole_stand : (W : Type 0) → WholeStand W
whole_stand W layout meaning b size weight order node call groups may law =
    whole_after layout meaning b size weight order node call groups may law

-- What a run tells

-- what is left of rows that are all whole is whole
every_behind : (test : Value → Bool) (front rest : List Value) → every test (front ++ rest) ≡ true → every test rest ≡ true
every_behind test [] rest all = all
every_behind test (first ∷ front) rest all =
    every_behind test front rest (and_parts (test first) (every test (front ++ rest)) all).1

left_whole : (complete all none : Bool) (test : Value → Bool) (given left : List Value) → (all ≡ true → complete ≡ true)
    → ((all && none) || every test (given ++ left)) ≡ true → (complete || every test left) ≡ true
left_whole true all none test given left each e = refl
left_whole false true none test given left each e = let never : false ≡ true = each refl in absurd (cc)
left_whole false false none test given left each e = every_behind test given left e

module _ {W : Type 0} (run : Run W) (b : ℕ) (node : NodeState) (part : IsPortsOf run b node) where
  abbrev ports : List PortState
  ports = node.block.ports

  pub marks_are : marks_of run b ≡ node.journal
  marks_are = ap (λ (t : BlockTrace). t.journal) part.trace

  pub left_is : left_at run b ≡ node.block.exits.left
  left_is = ap (λ (t : BlockTrace). t.left) part.trace ∙ left_shared node.block part.shares

  pub held_is : (p : ℕ) → held_at run b p ≡ waits_at ports p
  held_is p =
      ap (λ (t : BlockTrace). get_or t.held p []) part.trace ∙ get_or-map (λ (port : PortState). port.waiting) ports p (fresh_port None)

  outputs_are : gave node.journal ++ node.block.exits.left ≡ outputs run b
  outputs_are = sym (ap₂ (λ (marks : List Mark) (left : List Value). gave marks ++ left) marks_are left_is)

  pub numbers_are : ports_of run b ≡ below (length ports)
  numbers_are = ap below (sym part.count)

  abbrev size : ℕ
  size = group_size run b

  whole_so : (order : List ℕ) → KeepsGroups size order node.block node.journal → WholeBefore (length ports) size node.journal
      → (p : ℕ) → p < length ports → whole_until rows_weight size (marks_of run b) (left_at run b) p ≡ true
  whole_so order groups law p there =
      let before : every (is_whole size) (gave (before_complete p (marks_of run b))) ≡ true =
      ap (λ (marks : List Mark). every (is_whole size) (gave (before_complete p marks))) marks_are ∙ law p there in
      let left : (has_complete p (marks_of run b) || every (is_whole size) (left_at run b)) ≡ true =
      ap₂ (λ (marks : List Mark) (rows : List Value). has_complete p marks || every (is_whole size) rows) marks_are left_is
      ∙ left_whole (has_complete p node.journal) (are_complete (length ports) node.journal) (is_empty order) (is_whole size)
      (gave node.journal) node.block.exits.left
      (λ all. passes_below (λ q. has_complete q node.journal) (length ports) p all there) groups.whole in
      and_from (every (is_whole size) (gave (before_complete p (marks_of run b))))
      (has_complete p (marks_of run b) || every (is_whole size) (left_at run b)) before left

  makes_so : (order : List ℕ) → KeepsGroups size order node.block node.journal → WholeBefore (length ports) size node.journal
      → batched_join_makes run b ≡ true
  makes_so order groups law =
      let made = outputs run b in
      let rows = gave node.journal ++ node.block.exits.left in
      let complete = are_complete (length ports) node.journal in
      let seen : GroupsLaw (length ports) size complete (arrivals node.journal) rows order (held_at run b) =
      groups_kept.same (length ports) size complete (arrivals node.journal) rows order (waits_at ports) (held_at run b) groups
      (λ p there. held_is p) in
      let tells = groups_tell.each (length ports) size complete (arrivals node.journal) rows order (held_at run b) seen in
      let cut : are_cut (ports_of run b) (held_at run b) (arrivals (marks_of run b)) made ≡ true =
      ap (λ (ps : List ℕ). are_cut ps (held_at run b) (arrivals (marks_of run b)) made) numbers_are
      ∙ ap₂ (λ (came : List Arrival) (outs : List Value). are_cut (below (length ports)) (held_at run b) came outs)
      (ap arrivals marks_are) (sym outputs_are)
      ∙ tells.are_cut in
      let sized : are_groups rows_weight size made ≡ true = ap (are_groups rows_weight size) (sym outputs_are) ∙ groups.sized in
      let whole : every (whole_until rows_weight size (marks_of run b) (left_at run b)) (ports_of run b) ≡ true =
      ap (every (whole_until rows_weight size (marks_of run b) (left_at run b))) numbers_are
      ∙ every_below (whole_until rows_weight size (marks_of run b) (left_at run b)) (length ports) (whole_so order groups law) in
      and_from (are_cut (ports_of run b) (held_at run b) (arrivals (marks_of run b)) made && are_groups rows_weight size made)
      (every (whole_until rows_weight size (marks_of run b) (left_at run b)) (ports_of run b))
      (and_from (are_cut (ports_of run b) (held_at run b) (arrivals (marks_of run b)) made) (are_groups rows_weight size made) cut
      sized)
      whole

  complete_so : is_complete_as run BatchedJoin b ≡ are_complete (length ports) node.journal
  complete_so =
      ap₂ (λ (marks : List Mark) (ps : List ℕ). every (λ p. has_complete p marks) ps) marks_are numbers_are

pub batched_joins_are_parts : (W : Type 0) → BatchedJoinsAreParts W
batched_joins_are_parts W run b node part = record { makes = makes_so run b node part; complete = complete_so run b node part }
