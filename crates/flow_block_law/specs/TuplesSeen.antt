-- A join as a part of a run: what its node knows of its tuples is what the laws of a run say of a join.
use Rattle.std.specs.Prelude.{◌≡◌, ℕ, ◌+◌, ◌<◌, true, false, length, is_some}
use Rattle.flow_link.specs.declared.draft.BlockKind.TheVariants.{Join}
use Rattle.flow_lawful.specs.Endings.{is_complete_as}
use Rattle.flow_link.specs.Making.{join_makes, load_as}
use Rattle.flow_link.specs.Plan.{port_count, is_one_taker}
use Rattle.flow_lawful.specs.Quiet.{has_no_row}
use Rattle.flow_link.specs.Trace.{Run, has_complete, block_of, trace_of}
use Rattle.flow_intake.specs.PortLaw.{has_ended}
use Rattle.flow_outlet.specs.Fits.{weight_of}
use Rattle.flow_group.specs.Tuple.{has_tuple, is_join_complete}
use Rattle.flow_block.specs.Block.{port_at}
use Rattle.flow_block.specs.Node.{NodeState, node_trace}
use Rattle.flow_block_law.specs.NodeLaw.{weighed, KeepsTuples}

module _ {W : Type 0} (run : Run W) (b : ℕ) (node : NodeState) where
  -- the node's trace is the block's, it has as many ports as the plan says, and shares its messages out
  pub record IsPortsOf : Type 0 where
    pub trace : trace_of run b ≡ node_trace node
    pub count : length node.block.ports ≡ port_count (block_of run b)
    pub shares : is_one_taker node.block.kind ≡ true

  -- a port has ended just where its journal has the port's Complete: the block has not stopped
  abbrev pub EndsByComplete : Type 0
  EndsByComplete =
      (p : ℕ) → p < length node.block.ports → has_ended (port_at p node.block).refusing ≡ has_complete p node.journal

  pub record JoinSeen : Type 0 where
    -- its outputs are rows of one message from each port, in order, and the rest is held
    pub makes : KeepsTuples node.block node.journal → join_makes run b ≡ true
    -- at each port a place is taken by what waits there, and by each tuple that is left
    pub load : (p : ℕ) → is_some (block_of run b).capacity ≡ true
        → node.block.exits.groups ≡ weighed (block_of run b).capacity node.block.exits.next node.block.exits.left
        → load_as run b Join p ≡ length (port_at p node.block).waiting + weight_of node.block.exits.groups
    -- it is complete as its ports tell
    pub complete : EndsByComplete → is_complete_as run Join b ≡ is_join_complete node.block.ports
    -- where it has no tuple to make, what it holds could not be worked on
    pub rests : has_tuple node.block.ports ≡ false → has_no_row run b false ≡ true

abbrev pub JoinsAreParts : Type 0 → Type 0
JoinsAreParts W = (run : Run W) (b : ℕ) (node : NodeState) → IsPortsOf run b node → JoinSeen run b node
