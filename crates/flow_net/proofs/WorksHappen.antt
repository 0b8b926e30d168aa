-- A block that works at once on a message: the job begins, and its result comes back.
use Rattle.std.proofs.Common.{◌≡◌, ℕ, ◌-◌, ◌<◌, leb, true, false, List, [], ◌∷◌, ◌++◌, length, get_or, set, None, is_none, Result, refl, sym, ap, subst, ◌∙◌, arith, le-leb}
use Rattle.std.proofs.lemmas.Bool.{and_from}
use Rattle.std.proofs.lemmas.List.{get_or-set_same, set-set}
use Rattle.flow_value.specs.declared.value.Value.{Value}
use Rattle.flow_link.specs.Layout.{Layout}
use Rattle.flow_outlet.specs.Outlet.{lacks_ids}
use Rattle.flow_block.specs.Jobs.{JobsState, no_slot, is_out, begins}
use Rattle.flow_block_law.specs.JobsEnd.{after_job, put_at_end}
use Rattle.flow_block.specs.Node.{NodeState}
use Rattle.flow_block.specs.Peeks.{may_end}
use Rattle.flow_block.specs.Planned.{block_makes}
use Rattle.flow_block_law.proofs.GoingOn.{may_begin_tells}
use Rattle.flow_core.specs.Events.{NetEvent, Enabled, with_node, after}
use Rattle.flow_core.specs.State.{NetState, node_at, no_node}
use Rattle.flow_moves.specs.AtOnce.{begun, works_at_once, put_at_once}
use Rattle.flow_net.specs.Happened.{Happened}

-- the message that has begun is out
first_out : (jobs : JobsState) → jobs.slots ≡ [] → is_out jobs.first (begins jobs) ≡ true
first_out jobs idle =
    let at_first : jobs.first - jobs.first ≡ 0 = omega arith in
    and_from (leb jobs.first jobs.first) (is_none (get_or (jobs.slots ++ None ∷ []) (jobs.first - jobs.first) no_slot))
    (le-leb jobs.first jobs.first (omega arith))
    (rw (idle, at_first) refl)

module _ {W : Type 0} (layout : Layout W) (meaning : ℕ → Value → Result (List Value) ℕ) (old : NetState) (b : ℕ)
    (low : b < length old.nodes) (enabled : Enabled layout old (NetEvent.begin b))
    (idle : (node_at old b).block.jobs.slots ≡ []) where
  abbrev makes : Value → Result (List Value) ℕ
  makes = block_makes layout meaning b

  abbrev node : NodeState
  node = node_at old b

  abbrev mid : NetState
  mid = after layout meaning (NetEvent.begin b) old

  there : node_at mid b ≡ begun makes node
  there = get_or-set_same old.nodes b (begun makes node) no_node low

  may_end_there : may_end node.block.jobs.first (node_at mid b).block ≡ true
  may_end_there =
      subst (λ (n : NodeState). may_end node.block.jobs.first n.block ≡ true) (sym there)
      (and_from (is_none node.block.stopped) (is_out node.block.jobs.first (begins node.block.jobs))
      (ap is_none (may_begin_tells node.block enabled.would).going) (first_out node.block.jobs idle))

  pub worked_happened : (new : NetState) → new ≡ with_node b (works_at_once makes) old
      → lacks_ids (put_at_once makes node) node.block.exits ≡ false
      → Happened layout meaning 2 old new
  worked_happened new done has = (
    mid,
    (
      (
        old,
        (
          refl,
          record {
            event = NetEvent.begin b;
            may = record { enabled = enabled; ids = tt };
            new_is = refl;
          },
        ),
      ),
      record {
        event = NetEvent.end_job b node.block.jobs.first;
        may = record {
          enabled = record { there = enabled.there; would = may_end_there };
          ids = ids_there;
        };
        new_is = done ∙ both;
      },
    ),
  )
    where
      ids_there : lacks_ids (put_at_end makes node.block.jobs.first (node_at mid b).block) (node_at mid b).block.exits
          ≡ false
      ids_there =
          subst (λ (n : NodeState). lacks_ids (put_at_end makes node.block.jobs.first n.block) n.block.exits ≡ false)
          (sym there) has

      both : with_node b (works_at_once makes) old ≡ after layout meaning (NetEvent.end_job b node.block.jobs.first) mid
      both =
          ap (λ (nodes : List NodeState). record old { nodes = nodes })
          (sym (set-set old.nodes b (begun makes node) (works_at_once makes node))
          ∙ ap (λ (n : NodeState). set (set old.nodes b (begun makes node)) b (after_job makes node.block.jobs.first n))
          (sym there))
