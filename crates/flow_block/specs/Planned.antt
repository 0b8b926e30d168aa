-- What a layout says of one of its blocks: its ports, and its ends of the links that lead into it and out of it.
use Rattle.std.specs.Prelude.{ℕ, Bool, true, false, cond, List, [], map, filter, length, take, count_by, unwrap_or, Option, Some, None, Result}
use Rattle.flow_value.specs.declared.value.Value.{Value}
use Rattle.flow_link.specs.declared.draft.BlockDef.{BlockDef}
use Rattle.flow_link.specs.declared.draft.BlockKind.{BlockKind}
use Rattle.flow_link.specs.declared.kinds.BlockUnit.{BlockUnit}
use Rattle.flow_link.specs.declared.kinds.BlockUnit.TheVariants.{Message, Row, Tuple, Group, Copy, OneCopy}
use Rattle.flow_link.specs.declared.plan.Link.{Link}
use Rattle.flow_link.specs.declared.plan.LinkSource.{LinkSource}
use Rattle.flow_link.specs.declared.plan.LinkSource.TheVariants.{Block, Input}
use Rattle.flow_link.specs.declared.plan.LinkTarget.{LinkTarget}
use Rattle.flow_link.specs.declared.plan.LinkTarget.TheVariants.{Port, Exit}
use Rattle.flow_link.specs.Kinds.{unit_of}
use Rattle.flow_link.specs.Layout.{Layout}
use Rattle.flow_link.specs.Lists.{below}
use Rattle.flow_link.specs.Making.{result_of}
use Rattle.flow_link.specs.Plan.{block_in, link_in, begins_at, ends_at, ends_at_port, port_count, is_steady, is_sole, is_reserving}
use Rattle.flow_intake.specs.Port.{PortState, fresh_port, fresh_end}
use Rattle.flow_group.specs.declared.round.RoundStep.TheVariants as steps
use Rattle.flow_group.specs.declared.round.Source.{Source}
use Rattle.flow_outlet.specs.declared.ends.LinkRule.{LinkRule}
use Rattle.flow_outlet.specs.Outlet.{fresh_outlet}
use Rattle.flow_block.specs.Block.{BlockState}
use Rattle.flow_block.specs.Copies.{shared_rules, fresh_copies}
use Rattle.flow_block.specs.Jobs.{fresh_jobs}
use Rattle.flow_block.specs.Node.{NodeState}

-- for how many messages a block has room: for one, where it takes one message in all
abbrev pub room_by_unit : BlockUnit → Option ℕ → Option ℕ
room_by_unit Message capacity = capacity
room_by_unit Row capacity = capacity
room_by_unit Tuple capacity = capacity
room_by_unit Group capacity = capacity
room_by_unit Copy capacity = capacity
room_by_unit OneCopy capacity = Some 1

abbrev pub room_by : BlockKind → Option ℕ → Option ℕ
room_by kind capacity = room_by_unit (unit_of kind) capacity

abbrev pub room_of : {W : Type 0} → BlockDef W → Option ℕ
room_of block = room_by block.kind block.capacity

-- the link leads out of the network
abbrev pub is_exit : LinkTarget → Bool
is_exit (Port b p) = false
is_exit Exit = true

-- the block from which a link comes: that of an input is the block that it feeds
abbrev pub block_from : LinkSource → ℕ
block_from (Block s) = s
block_from (Input s) = s

module _ {W : Type 0} (layout : Layout W) where
  abbrev pub is_out_of : ℕ → ℕ → Bool
  is_out_of b l = begins_at b (link_in layout.links l).source

  abbrev pub is_into : ℕ → ℕ → ℕ → Bool
  is_into b p l = ends_at_port b p (link_in layout.links l).target

  abbrev pub enters : ℕ → ℕ → Bool
  enters b l = ends_at b (link_in layout.links l).target

  -- the links that leave a block, and those that enter one of its ports, in the order of the links
  abbrev pub links_from : ℕ → List ℕ
  links_from b = filter (is_out_of b) (below (length layout.links))

  abbrev pub links_to : ℕ → ℕ → List ℕ
  links_to b p = filter (is_into b p) (below (length layout.links))

  abbrev pub rule_by : ℕ → Link → LinkRule
  rule_by l link = record {
    id = l;
    when = link.when;
    max = link.max;
    passes = link.propagate;
    steady = is_steady layout.blocks link.target;
    sole = is_sole layout.blocks layout.links link.target;
  }

  abbrev pub rule_of : ℕ → LinkRule
  rule_of l = rule_by l (link_in layout.links l)

  -- the place of a link among those that leave its source, and among those that enter its target's port
  abbrev pub out_place : ℕ → ℕ → ℕ
  out_place b l = length (filter (is_out_of b) (below l))

  abbrev pub in_place : ℕ → ℕ → ℕ → ℕ
  in_place b p l = length (filter (is_into b p) (below l))

  -- the links that lead out of the network, and the place of one among them: that of its exit among all exits
  abbrev pub leads_out : ℕ → Bool
  leads_out l = is_exit (link_in layout.links l).target

  abbrev pub links_out : List ℕ
  links_out = filter leads_out (below (length layout.links))

  abbrev pub exit_place : ℕ → ℕ
  exit_place l = length (filter leads_out (below l))

  -- the place of a block's input among all inputs
  abbrev pub input_place : ℕ → ℕ
  input_place b = count_by (λ block. block.input) (take b layout.blocks)

  -- a port and a node in which nothing has happened; messages are counted from 1 on
  abbrev pub port_of_plan : ℕ → ℕ → PortState
  port_of_plan b p = record (fresh_port (room_of (block_in layout.blocks b))) {
    reserves = is_reserving (block_in layout.blocks b);
    ends = map fresh_end (links_to b p);
  }

  abbrev pub source_by : ℕ → Source
  source_by l = record { link = l; block = block_from (link_in layout.links l).source }

  -- the sources of a join that reserves, of all links into it; another block has none
  abbrev pub sources_of : ℕ → List Source
  sources_of b = cond (is_reserving (block_in layout.blocks b)) (map source_by (filter (enters b) (below (length layout.links)))) []

  -- how many messages a block may work on at once
  abbrev pub lanes_of : ℕ → ℕ
  lanes_of b = unwrap_or (block_in layout.blocks b).lanes 1

  -- how many messages a batch makes a row of
  abbrev pub size_of : ℕ → ℕ
  size_of b = unwrap_or (block_in layout.blocks b).size 0

  abbrev pub fresh_node : ℕ → NodeState
  fresh_node b = record {
    block = record {
      kind = (block_in layout.blocks b).kind;
      size = size_of b;
      ports = map (port_of_plan b) (below (port_count (block_in layout.blocks b)));
      exits = fresh_outlet (shared_rules (block_in layout.blocks b).kind (map rule_of (links_from b))) 1;
      copies = fresh_copies (block_in layout.blocks b).kind (map rule_of (links_from b));
      jobs = fresh_jobs (lanes_of b);
      recorded = [];
      fault = None;
      stopped = None;
    };
    journal = [];
    grouped = 0;
    round = record { sources = sources_of b; step = steps.Asks };
  }

  -- the block that a node begins with
  abbrev pub planned_block : ℕ → BlockState
  planned_block b = (fresh_node b).block

  -- what a block makes of one message
  abbrev pub block_makes : (ℕ → Value → Result (List Value) ℕ) → ℕ → Value → Result (List Value) ℕ
  block_makes meaning b value = result_of (block_in layout.blocks b).kind (meaning b value)
