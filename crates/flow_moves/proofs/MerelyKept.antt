-- What is known of a network that merely is in order: it goes on being so, all that code asks of it holds, and its run is
-- lawful, and quiet where nothing may happen any more.
use Rattle.std.proofs.Common.{◌≡◌, ℕ, ◌<◌, ◌^◌, Bool, true, false, List, [], length, Some, Result, refl}
use Rattle.std.proofs.Math.Logic.{∥∥₁_elim, ∥∥₁_map}
use Rattle.std.proofs.Math.Nat.{ℕ_set}
use Rattle.flow_value.specs.declared.value.Value.{Value}
use Rattle.flow_link.specs.declared.phase.Move.{Move}
use Rattle.flow_link.specs.declared.phase.Move.TheVariants.{Offer}
use Rattle.flow_lawful.specs.Lawful.{Lawful}
use Rattle.flow_link.specs.Layout.{Layout}
use Rattle.flow_link.specs.Plan.{has_work}
use Rattle.flow_lawful.specs.Quiet.{Quiet}
use Rattle.flow_link.proofs.KindsTell.{kind_tells}
use Rattle.flow_block.specs.Routes.{route_of}
use Rattle.flow_block.specs.Block.{held_by, has_ports}
use Rattle.flow_block.specs.Jobs.{JobsState, is_out}
use Rattle.flow_block.specs.Node.{NodeState}
use Rattle.flow_block.specs.Planned.{block_makes}
use Rattle.flow_block_law.specs.NodeLaw.{NodeLaw}
use Rattle.flow_block_law.proofs.OnceMakesNone.{makes_many}
use Rattle.flow_block_law.proofs.JobsEnd.{none_out}
use Rattle.flow_block_law.proofs.JobsHold.{begun_held}
use Rattle.flow_block_law.proofs.KindsBuilt.{has_one_port}
use Rattle.flow_core.specs.Events.{NetEvent, LinkMay, HasIds, MayHappen, after}
use Rattle.flow_core.specs.Keeps.{IsRun, NetKeeps}
use Rattle.flow_core.specs.State.{NetState, node_at, run_of_net}
use Rattle.flow_core.specs.Statements.{IsStill}
use Rattle.flow_core.proofs.NetworksInOrder.{all_events_keep, kept_nets_are_lawful, still_nets_are_quiet}
use Rattle.flow_moves.specs.Passes.{MayPass, may_pass}
use Rattle.flow_moves.specs.Ready.{IsThere, IsReady}
use Rattle.flow_moves.specs.Statements.{IsPlanned, BlocksArePlanned, source_would, target_would}
use Rattle.flow_moves.proofs.LinksThere.{links_are_there}
use Rattle.flow_moves.proofs.MovesReady.{moves_are_ready}
use Rattle.flow_moves.proofs.NextMovesHappen.{sources_may as sources_happen, targets_may as targets_happen}
use Rattle.flow_moves.proofs.OneProof.{lawful_prop, quiet_prop, planned_prop, link_may_prop, there_prop, ready_prop, pass_prop}
use Rattle.flow_moves.proofs.PassesHappen.{passes_happen}

-- only a block with a function has jobs out
works_where : (jobs : JobsState) (ticket : ℕ) (works : Bool) → (works ≡ false → jobs.slots ≡ [])
    → is_out ticket jobs ≡ true → works ≡ true
works_where jobs ticket true none out = refl
works_where jobs ticket false none out = absurd (none_out ticket jobs (none refl) out)

-- a block is of the kind that the plan has there, and has one port, if it is no join of either kind
pub block_planned : {W : Type 0} (layout : Layout W) (meaning : ℕ → Value → Result (List Value) ℕ) (b : ℕ) (node : NodeState)
    → NodeLaw layout meaning b node → IsPlanned layout b node.block
block_planned layout meaning b node law =
    let block = node.block in
    record {
      kind_is = law.shape.kind_is;
      alone = has_one_port layout meaning b block law.shape;
      some_port = law.shape.some_port;
      alone_at_work = λ works.
          has_one_port layout meaning b block law.shape (kind_tells has_work true has_ports false refl block.kind works);
      many = makes_many layout meaning b node law;
      begun = begun_held (block_makes layout meaning b) (held_by block) block.jobs.slots law.jobs.results;
      drained = law.jobs.drained;
      works = λ ticket out.
          works_where block.jobs ticket (has_work block.kind) (λ idle. law.jobs.only_works idle) out;
    }

planned_by : {W : Type 0} (layout : Layout W) (meaning : ℕ → Value → Result (List Value) ℕ) (net : NetState)
    → NetKeeps layout meaning net → (b : ℕ) → b < length layout.blocks → IsPlanned layout b (node_at net b).block
planned_by layout meaning net keeps b low = block_planned layout meaning b (node_at net b) (keeps.nodes b low)

pub blocks_are_planned : (W : Type 0) → BlocksArePlanned W
blocks_are_planned W layout meaning runs net keeps b low = planned_by layout meaning net keeps b low

module _ {W : Type 0} (layout : Layout W) (meaning : ℕ → Value → Result (List Value) ℕ) (net : NetState)
    (kept : ∥ NetKeeps layout meaning net ∥₁) where
  pub node_count_is : length net.nodes ≡ length layout.blocks
  node_count_is = ∥∥₁_elim kept (ℕ_set _ _) (λ keeps. keeps.node_count)

  pub line_count_is : length net.lines ≡ length layout.links
  line_count_is = ∥∥₁_elim kept (ℕ_set _ _) (λ keeps. keeps.line_count)

  -- a block is of the kind that the plan has there, and has one port, if it is no join of either kind
  pub blocks_planned : (b : ℕ) → b < length layout.blocks → IsPlanned layout b (node_at net b).block
  blocks_planned b low =
      ∥∥₁_elim kept (planned_prop layout b (node_at net b).block) (λ keeps. planned_by layout meaning net keeps b low)

  module _ (runs : IsRun layout) where
    -- a link has its two ends at the places that its way names
    pub links_there : (l : ℕ) → l < length layout.links → IsThere net l (route_of layout l)
    links_there l there =
        ∥∥₁_elim kept (there_prop net l (route_of layout l))
        (λ keeps. links_are_there W layout meaning runs net keeps l there)

    -- what an end of a link would do next may happen
    pub sources_may : (l : ℕ) (next : Move) → l < length layout.links → source_would layout net l ≡ Some next
        → LinkMay layout net l next
    sources_may l next there would =
        ∥∥₁_elim kept (link_may_prop layout net l next)
        (λ keeps. sources_happen W layout meaning runs net keeps l next there would)

    pub targets_may : (l : ℕ) (next : Move) → l < length layout.links → target_would layout net l ≡ Some next
        → LinkMay layout net l next
    targets_may l next there would =
        ∥∥₁_elim kept (link_may_prop layout net l next)
        (λ keeps. targets_happen W layout meaning runs net keeps l next there would)

    -- and all stands ready for it
    pub moves_ready : (l : ℕ) (next : Move) → LinkMay layout net l next
        → HasIds layout meaning (NetEvent.at_link l next) net → IsReady net l (route_of layout l) next
    moves_ready l next may ids =
        ∥∥₁_elim kept (ready_prop net l (route_of layout l) next)
        (λ keeps. moves_are_ready W layout meaning runs net keeps l next may ids)

    -- where a message may go over a link in one call, all five events of it may happen
    pub passes_may : (l i : ℕ) → l < length layout.links → source_would layout net l ≡ Some (Offer i) → i < 2 ^ 59
        → may_pass l (route_of layout l) net ≡ true → MayPass layout meaning l i net
    passes_may l i there would small may =
        ∥∥₁_elim kept (pass_prop layout meaning l i net)
        (λ keeps. passes_happen W layout meaning runs net keeps l i there would small may)

    -- whatever may happen leaves it in order
    pub kept_after : (event : NetEvent) → MayHappen layout meaning event net
        → ∥ NetKeeps layout meaning (after layout meaning event net) ∥₁
    kept_after event may = ∥∥₁_map kept (λ keeps. all_events_keep W layout meaning runs net event keeps may)

    pub lawful_merely : Lawful (run_of_net layout meaning net)
    lawful_merely =
        ∥∥₁_elim kept (lawful_prop (run_of_net layout meaning net))
        (λ keeps. kept_nets_are_lawful W layout meaning runs net keeps)

    pub quiet_merely : IsStill layout meaning net → Quiet (run_of_net layout meaning net)
    quiet_merely still =
        ∥∥₁_elim kept (quiet_prop (run_of_net layout meaning net))
        (λ keeps. still_nets_are_quiet W layout meaning runs net keeps still)
