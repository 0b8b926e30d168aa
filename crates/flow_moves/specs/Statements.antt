-- What holds in a network in order of what would happen next: whatever an end of a link or a block would do may happen, all
-- stands ready for it, and it is a move along the link's route; and where nobody would do anything, nothing may happen.
use Rattle.std.specs.Prelude.{◌≡◌, ℕ, ◌<◌, ◌≤◌, true, false, length, List, Option, Some, None, Result}
use Rattle.flow_value.specs.declared.value.Value.{Value}
use Rattle.flow_link.specs.declared.phase.Move.{Move}
use Rattle.flow_link.specs.declared.phase.Phase.{Phase}
use Rattle.flow_link.specs.declared.plan.LinkSource.TheVariants.{Input}
use Rattle.flow_link.specs.Layout.{Layout}
use Rattle.flow_link.specs.Phase.{phase_after}
use Rattle.flow_link.specs.Plan.{block_in, link_in, has_work, is_write_once}
use Rattle.flow_block.specs.Block.{BlockState, held_by, has_ports}
use Rattle.flow_block.specs.Jobs.{is_front_back, is_out}
use Rattle.flow_block.specs.Peeks.{may_work, may_make, may_begin, may_end, may_complete, next_fault, may_finish}
use Rattle.flow_block.specs.Planned.{block_makes}
use Rattle.flow_block.specs.Routes.{source_place, target_place, route_of}
use Rattle.flow_core.specs.Events.{NetEvent, LinkMay, HasIds, is_of_source, after, after_post}
use Rattle.flow_core.specs.Keeps.{NetKeeps}
use Rattle.flow_core.specs.State.{NetState, node_at, line_at}
use Rattle.flow_core.specs.Statements.{OfEachNet, IsStill}
use Rattle.flow_moves.specs.Ready.{IsThere, IsReady}
use Rattle.flow_moves.specs.Ways.{source_next, target_next, moved_along, posted_along}

-- a block would do nothing by itself
pub record HasNothingToDo (block : BlockState) : Type 0 where
  pub make : may_make block ≡ false
  pub begin : may_begin block ≡ false
  pub end : (ticket : ℕ) → may_end ticket block ≡ false
  pub complete : (p : ℕ) → p < length block.ports → may_complete p block ≡ false
  pub fault : next_fault block ≡ None
  pub finish : may_finish block ≡ false

module _ {W : Type 0} (layout : Layout W) (net : NetState) where
  -- what the two ends of a link would do next
  abbrev pub source_would : ℕ → Option Move
  source_would l = source_next net (link_in layout.links l).source (source_place layout (link_in layout.links l).source l)

  abbrev pub target_would : ℕ → Option Move
  target_would l = target_next net (link_in layout.links l).target (target_place layout (link_in layout.links l).target l)

  -- neither end of a link would do anything
  pub record LinkIsIdle (l : ℕ) : Type 0 where
    pub source : source_would l ≡ None
    pub target : target_would l ≡ None

  pub record NothingNext : Type 0 where
    pub links : (l : ℕ) → l < length layout.links → LinkIsIdle l
    pub blocks : (b : ℕ) → b < length layout.blocks → HasNothingToDo (node_at net b).block

-- a block is of the kind that the plan has there, and has one port, if it is no join of either kind
pub record IsPlanned {W : Type 0} (layout : Layout W) (b : ℕ) (block : BlockState) : Type 0 where
  pub kind_is : block.kind ≡ (block_in layout.blocks b).kind
  pub alone : has_ports block.kind ≡ false → length block.ports ≡ 1
  pub some_port : 0 < length block.ports
  pub alone_at_work : has_work block.kind ≡ true → length block.ports ≡ 1
  -- what takes one message in all copies it at once, and has none to make something of
  pub many : may_work block ≡ true → is_write_once block.kind ≡ false
  -- it works on no more messages than it holds, and what came back in its turn came out
  pub begun : length block.jobs.slots ≤ length (held_by block)
  pub drained : block.fault ≡ None → is_front_back block.jobs.slots ≡ false
  pub works : (ticket : ℕ) → is_out ticket block.jobs ≡ true → has_work block.kind ≡ true

module _ (W : Type 0) where
  -- of each network in order
  abbrev pub InEachNet : ((layout : Layout W) → (ℕ → Value → Result (List Value) ℕ) → NetState → Type 0) → Type 0
  InEachNet P = OfEachNet W λ layout meaning. (net : NetState) → NetKeeps layout meaning net → P layout meaning net

  abbrev pub LinksAreThere : Type 0
  LinksAreThere = InEachNet λ layout meaning net. (l : ℕ) → l < length layout.links → IsThere net l (route_of layout l)

  abbrev pub BlocksArePlanned : Type 0
  BlocksArePlanned = InEachNet λ layout meaning net. (b : ℕ) → b < length layout.blocks → IsPlanned layout b (node_at net b).block

  -- what an end of a link would do next may happen
  abbrev pub SourcesMay : Type 0
  SourcesMay = InEachNet λ layout meaning net.
      (l : ℕ) (next : Move) → l < length layout.links → source_would layout net l ≡ Some next → LinkMay layout net l next

  abbrev pub TargetsMay : Type 0
  TargetsMay = InEachNet λ layout meaning net.
      (l : ℕ) (next : Move) → l < length layout.links → target_would layout net l ≡ Some next → LinkMay layout net l next

  -- and all stands ready for it
  abbrev pub MovesAreReady : Type 0
  MovesAreReady = InEachNet λ layout meaning net.
      (l : ℕ) (next : Move) → LinkMay layout net l next → HasIds layout meaning (NetEvent.at_link l next) net
      → IsReady net l (route_of layout l) next

  -- it is a move along the link's route
  abbrev pub MovesGoAlong : Type 0
  MovesGoAlong =
      (layout : Layout W) (meaning : ℕ → Value → Result (List Value) ℕ) (net : NetState) (l : ℕ) (next : Move) (phase : Phase)
      → phase_after (line_at net l).phase next ≡ Some phase
      → after layout meaning (NetEvent.at_link l next) net
      ≡ moved_along (block_makes layout meaning) (is_of_source next) l next phase (route_of layout l) net

  -- and so does a value that the caller of an input posts
  abbrev pub PostsGoAlong : Type 0
  PostsGoAlong =
      (layout : Layout W) (meaning : ℕ → Value → Result (List Value) ℕ) (net : NetState) (l b : ℕ) (value : Value)
      → (link_in layout.links l).source ≡ Input b
      → after_post layout meaning l b value net ≡ posted_along (block_makes layout meaning) l value (route_of layout l) net

  -- where nobody would do anything, nothing may happen
  abbrev pub NothingIsStill : Type 0
  NothingIsStill =
      (layout : Layout W) (meaning : ℕ → Value → Result (List Value) ℕ) (net : NetState) → NothingNext layout net
      → IsStill layout meaning net
