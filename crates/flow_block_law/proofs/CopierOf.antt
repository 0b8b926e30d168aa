-- A node of a run whose block copies is what the laws of such blocks speak of, and what is quiet of what a block copies.
use Rattle.std.proofs.Common.{◌≡◌, ℕ, Bool, true, false, List, [], None, Result, refl, ap, ◌∙◌}
use Rattle.flow_value.specs.declared.value.Value.{Value}
use Rattle.flow_link.specs.declared.draft.BlockKind.{BlockKind}
use Rattle.flow_link.specs.declared.draft.BlockKind.TheVariants.{Broadcast, WriteOnce}
use Rattle.flow_lawful.specs.Composes.{Ends, NodeMakes}
use Rattle.flow_link.specs.Layout.{Layout}
use Rattle.flow_link.specs.Making.{makes_as}
use Rattle.flow_link.specs.Plan.{is_one_taker, is_write_once, is_broadcast}
use Rattle.flow_link.specs.Trace.{Run}
use Rattle.flow_link.proofs.KindsTell.{kind_tells}
use Rattle.flow_outlet.specs.Fits.{weight_of}
use Rattle.flow_outlet.specs.Outlet.{OutletState, is_empty}
use Rattle.flow_spread.specs.Spread.{is_at_rest, only_waits}
use Rattle.flow_block.specs.Block.{BlockState, held_by}
use Rattle.flow_block_law.specs.CopiesSeen.{IsCopierOf, CopierSeen, CopierStill, CopierRests}
use Rattle.flow_block.specs.Node.{NodeState, source_view, copy_view}
use Rattle.flow_block_law.specs.NodeLaw.{NodeLaw}
use Rattle.flow_block_law.specs.NodeRests.{HasNothingToDo, EndsRest}
use Rattle.flow_block_law.specs.NodeSeen.{IsNodeOf}
use Rattle.flow_block.specs.Peeks.{is_copy_held_up, may_copy}
use Rattle.flow_block.specs.Planned.{out_place}
use Rattle.flow_block_law.proofs.CopiesIdle.{copies_idle}
use Rattle.flow_block_law.proofs.CopiesRest.{copiers_rest, copiers_are_still}
use Rattle.flow_block_law.proofs.CopiesSeen.{copiers_are_parts}

pub makes_copies : {W : Type 0} (run : Run W) (ends : ℕ → Ends) (b : ℕ) (kind : BlockKind) → is_one_taker kind ≡ false
    → makes_as run b kind ≡ true → NodeMakes run ends b kind
makes_copies run ends b Broadcast copying makes = makes
makes_copies run ends b WriteOnce copying makes = makes
makes_copies run ends b _ copying makes = absurd (cc)

pub view_is_copied : (k : ℕ) (node : NodeState) → is_one_taker node.block.kind ≡ false → source_view k node ≡ copy_view k node
view_is_copied k node copying = rw copying refl

-- nothing is under way of what it copies that it does not wait for, and where it goes on it may copy the next message
pub record CopiesQuiet (block : BlockState) : Type 0 where
  pub only_waits : only_waits block.copies ≡ true
  pub at_rest : is_copy_held_up block ≡ true → is_at_rest block.copies ≡ true
  pub may_copy : block.stopped ≡ None → is_empty (held_by block) ≡ false → may_copy block ≡ true

pub quiet_where_shared : {W : Type 0} (layout : Layout W) (meaning : ℕ → Value → Result (List Value) ℕ) (b : ℕ) (node : NodeState)
    → NodeLaw layout meaning b node → is_one_taker node.block.kind ≡ true → CopiesQuiet node.block
quiet_where_shared layout meaning b node law shares =
    let idle = copies_idle layout meaning b node law shares in
    record {
      only_waits = ap only_waits idle;
      at_rest = λ held_up. ap is_at_rest idle;
      may_copy = λ going some. rw (kind_tells is_one_taker true is_broadcast false refl node.block.kind shares) refl;
    }

module _ {W : Type 0} (run : Run W) (ends : ℕ → Ends) (b : ℕ) (node : NodeState) (law : NodeLaw run.layout run.meaning b node)
    (part : IsNodeOf run ends b node) (copying : is_one_taker node.block.kind ≡ false) where
  pub copier_of : IsCopierOf run ends b node
  copier_of = record {
    trace = part.trace;
    kind_is = law.shape.kind_is;
    copying = copying;
    sources = λ l small from. part.sources l small from ∙ view_is_copied (out_place run.layout b l) node copying;
    law = law.copies.copier copying;
    stopped_is = law.ends.stopped_is;
  }

  pub copier_seen : CopierSeen run ends b node
  copier_seen = copiers_are_parts W run ends b node copier_of

  pub copier_still : HasNothingToDo node → CopierStill run ends b node
  copier_still nothing = copiers_are_still W run ends b node copier_of nothing.copies

  pub copier_rests : HasNothingToDo node → EndsRest node → CopierRests run ends b node
  copier_rests nothing rest = copiers_rest W run ends b node copier_of nothing.copies rest.copies

  pub quiet_where_copied : HasNothingToDo node → EndsRest node → CopiesQuiet node.block
  quiet_where_copied nothing rest =
      let rests = copier_rests nothing rest in
      record {
        only_waits = rests.only_waits;
        at_rest = rests.at_rest;
        may_copy = λ going some. may_where (is_broadcast node.block.kind) refl rests going some;
      }
    where
      may_where : (broadcast : Bool) → is_broadcast node.block.kind ≡ broadcast → CopierRests run ends b node
          → node.block.stopped ≡ None → is_empty (held_by node.block) ≡ false → may_copy node.block ≡ true
      may_where true is rests going some = rw is (rests.may_put (kind_tells is_broadcast true is_write_once false refl node.block.kind is) going some)
      may_where false is rests going some = rw is refl

  pub none_shared : (node.block.exits.left ≡ []) × (weight_of node.block.exits.groups ≡ 0)
  none_shared =
      let idle = (law.copies.copier copying).idle_exits in
      (ap (λ (exits : OutletState). exits.left) idle, ap (λ (exits : OutletState). weight_of exits.groups) idle)

-- either way
pub copies_quiet : {W : Type 0} (run : Run W) (ends : ℕ → Ends) (b : ℕ) (node : NodeState)
    → NodeLaw run.layout run.meaning b node → IsNodeOf run ends b node → HasNothingToDo node → EndsRest node
    → (sharing : Bool) → is_one_taker node.block.kind ≡ sharing → CopiesQuiet node.block
copies_quiet run ends b node law part nothing rest true shares = quiet_where_shared run.layout run.meaning b node law shares
copies_quiet run ends b node law part nothing rest false copying = quiet_where_copied run ends b node law part copying nothing rest
