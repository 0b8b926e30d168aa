-- Whatever a block does, its journal goes on.
use Rattle.std.proofs.Common.{◌≡◌, ℕ, Bool, true, false, cond, List, [], ◌∷◌, ◌++◌, Option, Some, None, Result, Ok, refl, sym, subst}
use Rattle.flow_value.specs.declared.value.Value.{Value}
use Rattle.flow_link.specs.declared.trace.Mark.{Mark}
use Rattle.flow_block.specs.Block.{is_batched_join}
use Rattle.flow_block.specs.Copies.{CopyCall}
use Rattle.flow_block.specs.Node.{NodeState, NodeCall, after, marks_copy, marks_copied, holds_in, gives_from, hand_at}
use Rattle.flow_outlet.specs.Outlet.{head_of}
use Rattle.flow_spread.specs.Spread.{SpreadState, link_at}
use Rattle.flow_moves.specs.Calls.{Calls, called}
use Rattle.flow_poll.specs.Turns.{Extends}
use Rattle.flow_poll.proofs.EachGoes.{extends_itself}

pub one_more : (journal : List Mark) (mark : Mark) → Extends journal (journal ++ mark ∷ [])
one_more [] mark = tt
one_more (first ∷ journal) mark = (refl, one_more journal mark)

copied_grows : (link : ℕ) (value : Option Value) (journal : List Mark) → Extends journal (marks_copied link value journal)
copied_grows link None journal = extends_itself journal
copied_grows link (Some value) journal = one_more journal _

copy_grows : (call : CopyCall) (copies : SpreadState) (journal : List Mark) → Extends journal (marks_copy call copies journal)
copy_grows (CopyCall.give k) copies journal = copied_grows (link_at copies k).rule.id copies.element journal
copy_grows _ copies journal = extends_itself journal

taken_grows : (p k : ℕ) (hand : Option Value) (node : NodeState) → Extends node.journal (holds_in p k hand node).journal
taken_grows p k None node = extends_itself node.journal
taken_grows p k (Some value) node = one_more node.journal _

given_grows : (k : ℕ) (value : Option Value) (node : NodeState) → Extends node.journal (gives_from k value node).journal
given_grows k None node = extends_itself node.journal
given_grows k (Some value) node = one_more node.journal _

either_stays : (batched : Bool) (node other more : NodeState) → other.journal ≡ node.journal → more.journal ≡ node.journal
    → Extends node.journal (cond batched other more).journal
either_stays true node other more is same = subst (Extends node.journal) (sym is) (extends_itself node.journal)
either_stays false node other more is same = subst (Extends node.journal) (sym same) (extends_itself node.journal)

module _ (result : Value → Result (List Value) ℕ) where
  pub grows : (call : NodeCall) (node : NodeState) → Extends node.journal (after result call node).journal
  grows (NodeCall.close p k) node = taken_grows p k (hand_at p k node) node
  grows (NodeCall.give k) node = given_grows k (head_of node.block.exits) node
  grows (NodeCall.copy call) node = copy_grows call node.block.copies node.journal
  grows NodeCall.make node = either_stays (is_batched_join node.block.kind) node _ _ refl refl
  grows (NodeCall.complete p) node = one_more node.journal _
  grows (NodeCall.fault number) node = one_more node.journal _
  grows NodeCall.finish node = one_more node.journal _
  grows _ node = extends_itself node.journal

  pub called_grows : (call : Option NodeCall) (node : NodeState) → Extends node.journal (called result call node).journal
  called_grows None node = extends_itself node.journal
  called_grows (Some call) node = grows call node

-- after a call, if there was one
pub grown : (call : Option NodeCall) (node new : NodeState) → Calls call node new → Extends node.journal new.journal
grown call node new calls =
    let none : Value → Result (List Value) ℕ = λ value. Ok [] in
    subst (λ (later : NodeState). Extends node.journal later.journal) (sym (calls none)) (called_grows none call node)
