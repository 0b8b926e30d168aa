-- The blocks of a network are taken from its tasks, one by one.
use Rattle.std.proofs.Common.{◌≡◌, ℕ, ◌+◌, ◌<◌, List, [], ◌∷◌, ◌++◌, length, map, get_or, take, drop, Result, sym, ap, ◌∙◌, subst}
use Rattle.std.proofs.lemmas.List.{length_push, map-append}
use Rattle.atomic_table.specs.Seated.{TableId}
use Rattle.flow_value.specs.declared.value.Value.{Value}
use Rattle.flow_link.specs.Lists.{below}
use Rattle.flow_link.specs.Layout.{Layout}
use Rattle.flow_block.specs.Node.{NodeState}
use Rattle.flow_block_law.specs.NodeLaw.{NodeLaw}
use Rattle.flow_core.specs.State.{no_node}
use Rattle.flow_task.specs.Known.{OutKnown, InKnown, ins_due, outs_due}
use Rattle.flow_task.proofs.TakenApart.{first_here, first_next, said_more, holds_more}

module _ {W T L M : Type 0} (layout : Layout W) (works : ℕ → Value → Result (List Value) ℕ) (wires : List TableId)
    (known : L → List OutKnown) (held : M → List (List InKnown)) (its : T → NodeState) (old : List T) where
  -- so many are taken, and these tasks are left
  pub record BlocksTaken (i : ℕ) (nodes : List NodeState) (outs : List L) (ins : List M) (rest : List T) : Type 0 where
    pub count : length nodes ≡ i
    pub left : rest ≡ drop i old
    pub laws : (b : ℕ) → b < i → ∥ NodeLaw layout works b (get_or nodes b no_node) ∥₁
    pub outs_know : map known outs ≡ map (λ b. outs_due layout wires b (get_or nodes b no_node)) (below i)
    pub ins_know : map held ins ≡ map (λ b. ins_due layout wires b (get_or nodes b no_node)) (below i)
    pub nodes_are : nodes ≡ map its (take i old)

  module _ (i : ℕ) (nodes : List NodeState) (outs : List L) (ins : List M) (task : T) (rest : List T)
      (taken : BlocksTaken i nodes outs ins (task ∷ rest)) where
    -- one more
    more : (node : NodeState) (out : L) (into : M) → ∥ NodeLaw layout works i node ∥₁ → known out ≡ outs_due layout wires i node
        → held into ≡ ins_due layout wires i node → node ≡ its task
        → BlocksTaken (i + 1) (nodes ++ node ∷ []) (outs ++ out ∷ []) (ins ++ into ∷ []) rest
    more node out into law knows holds is = record {
      count = length_push nodes node ∙ ap (λ (n : ℕ). n + 1) taken.count;
      left = first_here old rest i task taken.left;
      laws = holds_more (λ b node. ∥ NodeLaw layout works b node ∥₁) i nodes node no_node taken.count taken.laws law;
      outs_know = said_more known (λ node b. outs_due layout wires b node) i outs out nodes node no_node taken.count taken.outs_know knows;
      ins_know = said_more held (λ node b. ins_due layout wires b node) i ins into nodes node no_node taken.count taken.ins_know holds;
      nodes_are = ap (λ (xs : List NodeState). xs ++ node ∷ []) taken.nodes_are
          ∙ ap (λ (x : NodeState). map its (take i old) ++ x ∷ []) is
          ∙ sym (map-append its (take i old) (task ∷ []))
          ∙ ap (map its) (sym (first_next old rest i task taken.left));
    }

    pub block_more : (node : NodeState) (out : L) (into : M) (nodes' : List NodeState) (outs' : List L) (ins' : List M)
        → nodes' ≡ nodes ++ node ∷ [] → outs' ≡ outs ++ out ∷ [] → ins' ≡ ins ++ into ∷ [] → ∥ NodeLaw layout works i node ∥₁
        → known out ≡ outs_due layout wires i node → held into ≡ ins_due layout wires i node → node ≡ its task
        → BlocksTaken (i + 1) nodes' outs' ins' rest
    block_more node out into nodes' outs' ins' en eo ei law knows holds is =
        subst (λ (xs : List NodeState). BlocksTaken (i + 1) xs outs' ins' rest) (sym en)
        (subst (λ (xs : List L). BlocksTaken (i + 1) (nodes ++ node ∷ []) xs ins' rest) (sym eo)
        (subst (λ (xs : List M). BlocksTaken (i + 1) (nodes ++ node ∷ []) (outs ++ out ∷ []) xs rest) (sym ei)
        (more node out into law knows holds is)))
