-- What is kept for a target is kept for it alone, and is not denied when it is claimed.
use Rattle.std.proofs.Common.{◌≡◌, ℕ, cond, Bool, true, false, Option, Some, refl, ap, sym}
use Rattle.flow_value.specs.declared.value.Value.{Value}
use Rattle.flow_link.specs.declared.phase.Move.{Move}
use Rattle.flow_link.specs.declared.phase.Move.TheVariants.{Deny}
use Rattle.flow_link.specs.declared.plan.LinkSource.{LinkSource}
use Rattle.flow_link.specs.declared.plan.LinkSource.TheVariants.{Block, Input}
use Rattle.flow_link.specs.declared.stage.SourceStage.{SourceStage as SourceKept}
use Rattle.flow_link.specs.declared.stage.SourceStage.TheVariants.{Claimed}
use Rattle.flow_link.specs.declared.trace.Outcome.{Outcome}
use Rattle.flow_link.specs.Layout.{Layout}
use Rattle.flow_link.specs.Plan.{link_in, is_one_taker}
use Rattle.flow_link.specs.Stage.{source_stage_of}
use Rattle.flow_link.specs.Views.{SourceStage, SourceView}
use Rattle.flow_outlet.specs.Outlet.{OutletState, stage_at, move_at as out_move_at}
use Rattle.flow_spread.specs.Spread.{SpreadState, stage_at as copy_stage, move_at as copy_move_at}
use Rattle.flow_input.specs.Input.{InputState, move_from}
use Rattle.flow_block.specs.Node.{out_view, copy_view}
use Rattle.flow_block.specs.Peeks.{is_held_up, is_copy_held_up}
use Rattle.flow_block.specs.Planned.{out_place}
use Rattle.flow_input.specs.InputKeeps.{InputsAreParts}
use Rattle.flow_block_law.specs.NextCopies.{next_copy}
use Rattle.flow_block_law.specs.NextMoves.{next_out}
use Rattle.flow_block_law.specs.NodeSeen.{NodesAreLawful}
use Rattle.flow_core.specs.Events.{source_peek}
use Rattle.flow_core.specs.State.{NetState, node_at, input_at, source_from}
use Rattle.flow_core.specs.Statements.{KeptIsHeld}
use Rattle.flow_core.proofs.KeptIsLawful.{kept_in_order, parts_keep}

abbrev is_claimed : SourceStage → Bool
is_claimed (SourceStage.claimed i) = true
is_claimed _ = false

abbrev denies : Option Move → Bool
denies (Some Deny) = true
denies _ = false

-- each kind of source gives what is claimed, by its own data
out_gives : (o : OutletState) (k : ℕ) (stopped : Option Outcome) (up : Bool) (stage : SourceKept)
    → is_claimed (source_stage_of stage) ≡ true → denies (out_move_at o k stopped up stage) ≡ false
out_gives o k stopped up (Claimed i) e = refl
out_gives o k stopped up _ e = absurd (cc)

copy_gives : (s : SpreadState) (k : ℕ) (stopped : Option Outcome) (up : Bool) (stage : SourceKept)
    → is_claimed (source_stage_of stage) ≡ true → denies (copy_move_at s k stopped up stage) ≡ false
copy_gives s k stopped up (Claimed i) e = refl
copy_gives s k stopped up _ e = absurd (cc)

input_gives : (input : InputState) (stage : SourceKept) → is_claimed (source_stage_of stage) ≡ true
    → denies (move_from input stage) ≡ false
input_gives input (Claimed i) e = refl
input_gives input _ e = absurd (cc)

by_form : (sharing : Bool) (one other : SourceView Value) (first second : Option Move)
    → (is_claimed one.stage ≡ true → denies first ≡ false) → (is_claimed other.stage ≡ true → denies second ≡ false)
    → is_claimed (cond sharing one other).stage ≡ true → denies (cond sharing first second) ≡ false
by_form true one other first second gives copies e = gives e
by_form false one other first second gives copies e = copies e

source_gives : {W : Type 0} (layout : Layout W) (net : NetState) (l : ℕ) (from : LinkSource)
    → is_claimed (source_from layout net l from).stage ≡ true → denies (source_peek layout net l from) ≡ false
source_gives layout net l (Block s) e =
    let node = node_at net s in
    let k = out_place layout s l in
    by_form (is_one_taker node.block.kind) (out_view k node) (copy_view k node) (next_out k node) (next_copy k node)
    (out_gives node.block.exits k node.block.stopped (is_held_up node.block) (stage_at node.block.exits k))
    (copy_gives node.block.copies k node.block.stopped (is_copy_held_up node.block) (copy_stage node.block.copies k)) e
source_gives layout net l (Input b) e = input_gives (input_at layout net b) (input_at layout net b).stage e

pub kept_is_held : {W : Type 0} → NodesAreLawful W → InputsAreParts W → KeptIsHeld W
kept_is_held nodes inputs layout meaning runs net keeps =
    let parts = parts_keep layout meaning runs net (kept_in_order keeps) nodes inputs in
    record {
      alone = λ b there shares. (parts.nodes b there).one_at_a_time shares;
      granted = λ l i there claimed may.
          let gives = source_gives layout net l (link_in layout.links l).source (ap is_claimed claimed) in
          absurd (cc (gives, sym (ap denies may.peek)));
    }
