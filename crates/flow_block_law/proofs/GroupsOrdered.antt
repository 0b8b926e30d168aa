-- The journal of a batched join's node tells the order in which came in what is in no group, whatever the node does.
use Rattle.std.proofs.Common.{◌≡◌, ℕ, zero, suc, ◌+◌, ◌-◌, ◌<◌, ◌≤◌, List, [], ◌∷◌, ◌++◌, length, take, drop, Option, Some, None, Result, refl, ap, sym, ◌∙◌, arith, subst, append-nil, length-append, length-drop}
use Rattle.std.proofs.Math.Seq.{drop-nil}
use Rattle.std.proofs.lemmas.List.{length-map, length-set}
use Rattle.flow_value.specs.declared.value.Value.{Value}
use Rattle.flow_link.specs.Layout.{Layout}
use Rattle.flow_link.specs.declared.trace.Mark.{Mark}
use Rattle.flow_link.specs.declared.trace.Mark.TheVariants.{Took, Gave, Complete, Fault, Done}
use Rattle.flow_intake.specs.Port.{PortState}
use Rattle.flow_intake.specs.Calls.{wants, turns_down, postpones, refuses, consumes, asks, claims, releases, opens, closes, looks as port_looks, port_closes}
use Rattle.flow_outlet.specs.Outlet.{head_of, gives}
use Rattle.flow_group.proofs.GroupsCut.{as_many_taken}
use Rattle.flow_block.specs.Block.{BlockState, port_at, with_port}
use Rattle.flow_block.specs.Groups.{ports_in, marks_until}
use Rattle.flow_block_law.specs.GroupsLaw.{KeepsGroups, OrderedGroups, WholeBefore}
use Rattle.flow_block_law.specs.GroupsKeep.{MayCallBatched, after_at_batched, order_after, order_taken}
use Rattle.flow_block_law.specs.GroupsOrdered.{after_in_order, GroupsOrdered}
use Rattle.flow_block.specs.Node.{NodeState, NodeCall, holds_in, gives_from, hand_at, order_in}
use Rattle.flow_block.specs.Planned.{block_makes}
use Rattle.flow_block_law.proofs.GroupsSeen.{whole_stand}
use Rattle.flow_block_law.proofs.GroupsStand.{groups_stand}
use Rattle.flow_block.proofs.RoomBack.{length_back}

-- Marks and the ports that they tell

drop_more : (count : ℕ) (marks : List Mark) (mark : Mark) → count ≤ length marks
    → drop count (marks ++ mark ∷ []) ≡ drop count marks ++ mark ∷ []
drop_more zero marks mark few = refl
drop_more (suc count) [] mark few = absurd (omega (arith, few))
drop_more (suc count) (first ∷ marks) mark few = drop_more count marks mark (omega (arith, few))

ports_append : (marks more : List Mark) → ports_in (marks ++ more) ≡ ports_in marks ++ ports_in more
ports_append [] more = refl
ports_append (Took p l value ∷ marks) more = ap (λ (ports : List ℕ). p ∷ ports) (ports_append marks more)
ports_append (Gave l value ∷ marks) more = ports_append marks more
ports_append (Complete p ∷ marks) more = ports_append marks more
ports_append (Fault number ∷ marks) more = ports_append marks more
ports_append (Done ∷ marks) more = ports_append marks more

drop_twice : (first second : ℕ) (marks : List Mark) → drop (first + second) marks ≡ drop second (drop first marks)
drop_twice zero second marks = let same : 0 + second ≡ second = omega arith in rw same refl
drop_twice (suc first) second [] = drop-nil (suc first + second) ∙ sym (drop-nil second)
drop_twice (suc first) second (mark ∷ marks) =
    let same : suc first + second ≡ suc (first + second) = omega arith in
    rw same (drop_twice first second marks)

-- the marks of so many messages hold the ports of as many, and are there
ports_behind : (marks : List Mark) (count : ℕ) → ports_in (drop (marks_until marks count) marks) ≡ drop count (ports_in marks)
ports_behind [] zero = refl
ports_behind [] (suc count) = refl
ports_behind (Took p l value ∷ marks) zero = refl
ports_behind (Took p l value ∷ marks) (suc count) =
    let one : 1 + marks_until marks count ≡ suc (marks_until marks count) = omega arith in
    rw one (ports_behind marks count)
ports_behind (Gave l value ∷ marks) zero = refl
ports_behind (Gave l value ∷ marks) (suc count) =
    let one : 1 + marks_until marks (suc count) ≡ suc (marks_until marks (suc count)) = omega arith in
    rw one (ports_behind marks (suc count))
ports_behind (Complete p ∷ marks) zero = refl
ports_behind (Complete p ∷ marks) (suc count) =
    let one : 1 + marks_until marks (suc count) ≡ suc (marks_until marks (suc count)) = omega arith in
    rw one (ports_behind marks (suc count))
ports_behind (Fault number ∷ marks) zero = refl
ports_behind (Fault number ∷ marks) (suc count) =
    let one : 1 + marks_until marks (suc count) ≡ suc (marks_until marks (suc count)) = omega arith in
    rw one (ports_behind marks (suc count))
ports_behind (Done ∷ marks) zero = refl
ports_behind (Done ∷ marks) (suc count) =
    let one : 1 + marks_until marks (suc count) ≡ suc (marks_until marks (suc count)) = omega arith in
    rw one (ports_behind marks (suc count))

until_there : (marks : List Mark) (count : ℕ) → marks_until marks count ≤ length marks
until_there [] count = omega arith
until_there (Took p l value ∷ marks) zero = omega arith
until_there (Took p l value ∷ marks) (suc count) = omega (arith, until_there marks count)
until_there (Gave l value ∷ marks) zero = omega arith
until_there (Gave l value ∷ marks) (suc count) = omega (arith, until_there marks (suc count))
until_there (Complete p ∷ marks) zero = omega arith
until_there (Complete p ∷ marks) (suc count) = omega (arith, until_there marks (suc count))
until_there (Fault number ∷ marks) zero = omega arith
until_there (Fault number ∷ marks) (suc count) = omega (arith, until_there marks (suc count))
until_there (Done ∷ marks) zero = omega arith
until_there (Done ∷ marks) (suc count) = omega (arith, until_there marks (suc count))

-- The order after a call

-- where the marks of the messages in groups end, and which ports those behind tell
pub record Ordered (grouped : ℕ) (journal : List Mark) (order : List ℕ) : Type 0 where
  pub within : grouped ≤ length journal
  pub order_is : ports_in (drop grouped journal) ≡ order

-- one more mark
marked : (grouped : ℕ) (journal : List Mark) (mark : Mark) → grouped ≤ length journal
    → Ordered grouped (journal ++ mark ∷ []) (ports_in (drop grouped journal) ++ ports_in (mark ∷ []))
marked grouped journal mark within =
    let longer : length (journal ++ mark ∷ []) ≡ length journal + 1 = length-append journal (mark ∷ []) in
    record {
      within = omega (arith, within, longer);
      order_is = ap ports_in (drop_more grouped journal mark within) ∙ ports_append (drop grouped journal) (mark ∷ []);
    }

-- one more mark of no message
marked_so : (grouped : ℕ) (journal : List Mark) (mark : Mark) → grouped ≤ length journal → ports_in (mark ∷ []) ≡ []
    → Ordered grouped (journal ++ mark ∷ []) (ports_in (drop grouped journal))
marked_so grouped journal mark within none =
    let more = marked grouped journal mark within in
    record {
      within = more.within;
      order_is = more.order_is ∙ ap (λ (ports : List ℕ). ports_in (drop grouped journal) ++ ports) none
          ∙ append-nil (ports_in (drop grouped journal));
    }

-- a group is made of the first so many
grouped_on : (size grouped : ℕ) (journal : List Mark) → grouped ≤ length journal
    → Ordered (grouped + marks_until (drop grouped journal) size) journal (drop size (ports_in (drop grouped journal)))
grouped_on size grouped journal within =
    let rest : length (drop grouped journal) ≡ length journal - grouped = length-drop grouped journal in
    let there = until_there (drop grouped journal) size in
    record {
      within = omega (arith, within, rest, there);
      order_is = ap ports_in (drop_twice grouped (marks_until (drop grouped journal) size) journal)
          ∙ ports_behind (drop grouped journal) size;
    }

module _ {W : Type 0} (layout : Layout W) (meaning : ℕ → Value → Result (List Value) ℕ) (b : ℕ) where
  abbrev result : Value → Result (List Value) ℕ
  result = block_makes layout meaning b

  abbrev IsOrdered : NodeState → List ℕ → Type 0
  IsOrdered node order = Ordered node.grouped node.journal order

  as_it_was : (node : NodeState) → node.grouped ≤ length node.journal → IsOrdered node (order_in node)
  as_it_was node within = record { within = within; order_is = refl }

  taken : (node : NodeState) → node.grouped ≤ length node.journal → (p k : ℕ) (value : Option Value)
      → IsOrdered (holds_in p k value node) (order_taken p value (order_in node))
  taken node within p k None = as_it_was node within
  taken node within p k (Some value) = marked node.grouped node.journal (Took p _ value) within

  given : (node : NodeState) → node.grouped ≤ length node.journal → (k : ℕ) (value : Option Value)
      → IsOrdered (gives_from k value node) (order_in node)
  given node within k None = as_it_was node within
  given node within k (Some value) = marked_so node.grouped node.journal (Gave _ value) within refl

  ordered_after : (node : NodeState) (call : NodeCall) → node.grouped ≤ length node.journal
      → MayCallBatched layout meaning b node.block.size (order_in node) call node
      → IsOrdered (after_in_order result call node) (order_after node.block.size 0 call node (order_in node))
  ordered_after node (NodeCall.close p k) within may = taken node within p k (hand_at p k node)
  ordered_after node (NodeCall.give k) within may = given node within k (head_of node.block.exits)
  ordered_after node (NodeCall.copy call) within may = absurd may
  ordered_after node NodeCall.make within may = grouped_on node.block.size node.grouped node.journal within
  ordered_after node (NodeCall.complete p) within may = marked_so node.grouped node.journal (Complete p) within refl
  ordered_after node (NodeCall.fault number) within may = marked_so node.grouped node.journal (Fault number) within refl
  ordered_after node NodeCall.finish within may = marked_so node.grouped node.journal Done within refl
  ordered_after node (NodeCall.want p k) within may = as_it_was node within
  ordered_after node (NodeCall.turn_down p k) within may = as_it_was node within
  ordered_after node (NodeCall.postpone p k) within may = as_it_was node within
  ordered_after node (NodeCall.refuse p k) within may = as_it_was node within
  ordered_after node (NodeCall.consume p k) within may = as_it_was node within
  ordered_after node (NodeCall.ask p k) within may = as_it_was node within
  ordered_after node (NodeCall.claim p k) within may = as_it_was node within
  ordered_after node (NodeCall.release p k) within may = as_it_was node within
  ordered_after node (NodeCall.open_with p k value) within may = as_it_was node within
  ordered_after node (NodeCall.offer k) within may = as_it_was node within
  ordered_after node (NodeCall.hold k) within may = as_it_was node within
  ordered_after node (NodeCall.deny k) within may = as_it_was node within
  ordered_after node (NodeCall.withdraw k) within may = as_it_was node within
  ordered_after node (NodeCall.end_link k how) within may = as_it_was node within
  ordered_after node (NodeCall.look_in p k phase) within may = as_it_was node within
  ordered_after node (NodeCall.look_out k phase) within may = as_it_was node within
  ordered_after node NodeCall.begin within may = as_it_was node within

  -- what is made of the block and of the journal is as by any order, and the block has its ports and its size
  record SameAfter (call : NodeCall) (node : NodeState) : Type 0 where
    block : (after_in_order result call node).block ≡ (after_at_batched node.block.size 0 result (order_in node) call node).block
    journal : (after_in_order result call node).journal ≡ (after_at_batched node.block.size 0 result (order_in node) call node).journal
    size : (after_in_order result call node).block.size ≡ node.block.size
    count : length (after_in_order result call node).block.ports ≡ length node.block.ports

  at_port : (p : ℕ) (change : PortState → PortState) (block : BlockState)
      → length (with_port p change block).ports ≡ length block.ports
  at_port p change block = length-set block.ports p (change (port_at p block))

  taken_same : (node : NodeState) (p k : ℕ) (value : Option Value)
      → ((holds_in p k value node).block.size ≡ node.block.size)
      × (length (holds_in p k value node).block.ports ≡ length node.block.ports)
  taken_same node p k None = (refl, refl)
  taken_same node p k (Some value) = (refl, at_port p (closes k value) node.block)

  given_same : (node : NodeState) (k : ℕ) (value : Option Value)
      → ((gives_from k value node).block.size ≡ node.block.size)
      × (length (gives_from k value node).block.ports ≡ length node.block.ports)
  given_same node k None = (refl, refl)
  given_same node k (Some value) =
      let block = node.block in
      (refl, length_back (gives k block.exits) block.copies block.kind (head_of block.exits) block.ports)

  same_after : (node : NodeState) (call : NodeCall) → MayCallBatched layout meaning b node.block.size (order_in node) call node
      → SameAfter call node
  same_after node (NodeCall.want p k) may = record { block = refl; journal = refl; size = refl; count = at_port p (wants k) node.block }
  same_after node (NodeCall.turn_down p k) may =
      record { block = refl; journal = refl; size = refl; count = at_port p (turns_down k) node.block }
  same_after node (NodeCall.postpone p k) may =
      record { block = refl; journal = refl; size = refl; count = at_port p (postpones k) node.block }
  same_after node (NodeCall.refuse p k) may =
      record { block = refl; journal = refl; size = refl; count = at_port p (refuses k) node.block }
  same_after node (NodeCall.consume p k) may =
      record { block = refl; journal = refl; size = refl; count = at_port p (consumes k) node.block }
  same_after node (NodeCall.ask p k) may =
      record { block = refl; journal = refl; size = refl; count = at_port p (asks k) node.block }
  same_after node (NodeCall.claim p k) may =
      record { block = refl; journal = refl; size = refl; count = at_port p (claims k) node.block }
  same_after node (NodeCall.release p k) may =
      record { block = refl; journal = refl; size = refl; count = at_port p (releases k) node.block }
  same_after node (NodeCall.open_with p k value) may =
      record { block = refl; journal = refl; size = refl; count = at_port p (opens k value) node.block }
  same_after node (NodeCall.close p k) may =
      let same = taken_same node p k (hand_at p k node) in
      record { block = refl; journal = refl; size = same.0; count = same.1 }
  same_after node (NodeCall.offer k) may = record { block = refl; journal = refl; size = refl; count = refl }
  same_after node (NodeCall.give k) may =
      let same = given_same node k (head_of node.block.exits) in
      record { block = refl; journal = refl; size = same.0; count = same.1 }
  same_after node (NodeCall.hold k) may = record { block = refl; journal = refl; size = refl; count = refl }
  same_after node (NodeCall.deny k) may = record { block = refl; journal = refl; size = refl; count = refl }
  same_after node (NodeCall.withdraw k) may = record { block = refl; journal = refl; size = refl; count = refl }
  same_after node (NodeCall.end_link k how) may = record { block = refl; journal = refl; size = refl; count = refl }
  same_after node (NodeCall.look_in p k phase) may =
      record { block = refl; journal = refl; size = refl; count = at_port p (port_looks k phase) node.block }
  same_after node (NodeCall.look_out k phase) may = record { block = refl; journal = refl; size = refl; count = refl }
  same_after node (NodeCall.copy call) may = absurd may
  same_after node NodeCall.begin may = record { block = refl; journal = refl; size = refl; count = refl }
  same_after node NodeCall.make may = record {
    block = refl;
    journal = refl;
    size = refl;
    count = as_many_taken 0 (take node.block.size (order_in node)) node.block.ports;
  }
  same_after node (NodeCall.complete p) may =
      record { block = refl; journal = refl; size = refl; count = at_port p port_closes node.block }
  same_after node (NodeCall.fault number) may =
      record { block = refl; journal = refl; size = refl; count = length-map node.block.ports port_closes }
  same_after node NodeCall.finish may =
      record { block = refl; journal = refl; size = refl; count = length-map node.block.ports port_closes }

  each_call : (node : NodeState) (call : NodeCall) → 0 < node.block.size → OrderedGroups node
      → MayCallBatched layout meaning b node.block.size (order_in node) call node → OrderedGroups (after_in_order result call node)
  each_call node call some law may =
      let size = node.block.size in
      let new = after_in_order result call node in
      let by_order = after_at_batched size 0 result (order_in node) call node in
      let order = order_after size 0 call node (order_in node) in
      let is_ordered = ordered_after node call law.within may in
      let same = same_after node call may in
      let groups = groups_stand W layout meaning b size 0 some (order_in node) node call law.groups may in
      let whole = whole_stand W layout meaning b size 0 (order_in node) node call law.groups may law.whole in
      record {
        within = is_ordered.within;
        groups =
            subst (λ (size : ℕ). KeepsGroups size (order_in new) new.block new.journal) (sym same.size)
            (subst (λ (order : List ℕ). KeepsGroups size order new.block new.journal) (sym is_ordered.order_is)
            (subst (λ (block : BlockState). KeepsGroups size order block new.journal) (sym same.block)
            (subst (λ (journal : List Mark). KeepsGroups size order by_order.block journal) (sym same.journal) groups)));
        whole =
            subst (λ (size : ℕ). WholeBefore (length new.block.ports) size new.journal) (sym same.size)
            (subst (λ (count : ℕ). WholeBefore count size new.journal) (sym same.count)
            (subst (λ (journal : List Mark). WholeBefore (length node.block.ports) size journal) (sym same.journal) whole));
      }

pub groups_ordered : (W : Type 0) → GroupsOrdered W
groups_ordered W layout meaning b node call some law may = each_call layout meaning b node call some law may
