-- What a contract sees of the parts of a scattered network.
use Rattle.std.specs.Prelude.{◌≡◌, ℕ, Bool, false, List, [], ◌∷◌, Option, None}
use Rattle.std.specs.declared.snapshot.Snapshot.{Snapshot}
use Rattle.atomic_table.specs.Seated.{TableId}
use Rattle.flow_link.specs.declared.plan.Plan.{Plan}
use Rattle.flow_link.specs.declared.trace.LinkState.{LinkState}
use Rattle.flow_link.specs.declared.plan.LinkSource.{LinkSource}
use Rattle.flow_link.specs.declared.plan.LinkSource.TheVariants.{Block, Input}
use Rattle.flow_link.specs.declared.trace.Mark.{Mark}
use Rattle.flow_link.specs.declared.trace.Outcome.{Outcome}
use Rattle.flow_link.specs.Layout.{Layout}
use Rattle.flow_link.specs.Planned.{layout_of}
use Rattle.flow_block.specs.Node.{NodeState}
use Rattle.flow_core.specs.State.{no_node}
use Rattle.flow_exit.specs.Exit.{ExitState}
use Rattle.flow_input.specs.Input.{InputState}
use Rattle.flow_moves.specs.declared.apart.NetParts.{NetParts}
use Rattle.flow_task.specs.Laned.{stands_in}
use Rattle.flow_task.specs.LaneTasks.{job_of}
use Rattle.flow_task.specs.declared.board.Board.{Board}
use Rattle.flow_task.specs.declared.numbered.Entry.{Entry}
use Rattle.flow_task.specs.declared.numbered.Exit.{Exit}
use Rattle.flow_task.specs.declared.numbered.Kind.{Kind}
use Rattle.flow_task.specs.declared.numbered.Kind.TheVariants as kind
use Rattle.flow_task.specs.declared.numbered.Task.{Task}
use Rattle.flow_task.specs.declared.numbered.Watch.{Watch}

-- the block at which a link begins, or that of the input at which it does
abbrev pub block_of : LinkSource → ℕ
block_of (Block b) = b
block_of (Input b) = b

-- the layout of the network that was scattered
abbrev pub board_layout : {W : Type 0} → Board W → Layout W
board_layout board = layout_of board.rest.plan

-- its plan, its links, and the network as it was scattered
abbrev pub board_plan : {W : Type 0} → Board W → Plan W
board_plan board = board.rest.plan

abbrev pub board_lines : {W : Type 0} → Board W → List LinkState
board_lines board = board.rest.lines.items

abbrev pub board_begun : {W : Type 0} → Board W → Snapshot (NetParts W)
board_begun board = board.begun

-- its wires by the numbers of their links, and of each input whether it is an entry
abbrev pub board_wires : {W : Type 0} → Board W → List TableId
board_wires board = board.wires.items

abbrev pub board_opens : {W : Type 0} → Board W → List Bool
board_opens board = board.opens.items

module _ {W : Type 0} {w : _} {e : _} where
  -- the board that it is of
  abbrev pub board_by : Kind W w e → Board W
  board_by (kind.Block task) = task.block.of.value
  board_by (kind.Input task) = task.of.value
  board_by (kind.Lane task) = task.of.value

  abbrev pub board_of : Task W w e → Board W
  board_of task = board_by task.kind

  -- the marks of its block; none of an input or a lane
  abbrev pub marks_by : Kind W w e → List Mark
  marks_by (kind.Block task) = task.block.node.journal
  marks_by (kind.Input task) = []
  marks_by (kind.Lane task) = []

  abbrev pub marks_in : Task W w e → List Mark
  marks_in task = marks_by task.kind

  -- its block; one that holds nothing of an input or a lane
  abbrev pub node_by : Kind W w e → NodeState
  node_by (kind.Block task) = task.block.node
  node_by (kind.Input task) = no_node
  node_by (kind.Lane task) = no_node

  abbrev pub node_in : Task W w e → NodeState
  node_in task = node_by task.kind

  -- a job with this ticket stands in a lane of its block; in none of an input's, nor of the task of a lane
  abbrev pub stands_by : ℕ → Kind W w e → Bool
  stands_by ticket (kind.Block task) = stands_in ticket task.lanes
  stands_by ticket (kind.Input task) = false
  stands_by ticket (kind.Lane task) = false

  abbrev pub stands_in_lane : ℕ → Task W w e → Bool
  stands_in_lane ticket task = stands_by ticket task.kind

  -- the job that a lane does next, if one has come
  abbrev pub job_by : Kind W w e → Option (ℕ × ℕ)
  job_by (kind.Block task) = None
  job_by (kind.Input task) = None
  job_by (kind.Lane task) = job_of task

  abbrev pub job_in : Task W w e → Option (ℕ × ℕ)
  job_in task = job_by task.kind

  abbrev pub task_number : Task W w e → ℕ
  task_number task = task.number

  abbrev pub entry_number : Entry W w e → ℕ
  entry_number entry = entry.number

  -- its board, the link that begins there, and where its end of the link stands
  abbrev pub entry_board : Entry W w e → Board W
  entry_board entry = entry.input.of.value

  abbrev pub entry_link : Entry W w e → ℕ
  entry_link entry = entry.input.link

  abbrev pub entry_state : Entry W w e → InputState
  entry_state entry = entry.input.input

  abbrev pub exit_number : Exit W w e → ℕ
  exit_number exit = exit.number

  -- its board, its link, and where its end of that stands
  abbrev pub exit_board : Exit W w e → Board W
  exit_board exit = exit.of.value

  abbrev pub exit_link : Exit W w e → ℕ
  exit_link exit = exit.link

  abbrev pub exit_state : Exit W w e → ExitState
  exit_state exit = exit.exit

  abbrev pub watched_block : Watch W w e → ℕ
  watched_block watch = watch.block

  abbrev pub watched_board : Watch W w e → Board W
  watched_board watch = watch.of.value

  -- how the block has ended, as far as it knows
  abbrev pub watched_outcome : Watch W w e → Option Outcome
  watched_outcome watch = watch.note.known

  -- it watches the same block of the same board, and knows the same
  pub record IsWatchOf (one other : Watch W w e) : Type 0 where
    pub board : watched_board other ≡ watched_board one
    pub block : watched_block other ≡ watched_block one
    pub knows : watched_outcome other ≡ watched_outcome one

  -- each of these is of this board
  abbrev pub AllTasksOf : Board W → List (Task W w e) → Type 0
  AllTasksOf board [] = Unit {0}
  AllTasksOf board (task ∷ tasks) = (board_of task ≡ board) × AllTasksOf board tasks

  abbrev pub AllEntriesOf : Board W → List (Entry W w e) → Type 0
  AllEntriesOf board [] = Unit {0}
  AllEntriesOf board (entry ∷ entries) = (entry_board entry ≡ board) × AllEntriesOf board entries

  abbrev pub AllExitsOf : Board W → List (Exit W w e) → Type 0
  AllExitsOf board [] = Unit {0}
  AllExitsOf board (exit ∷ exits) = (exit.of.value ≡ board) × AllExitsOf board exits

  abbrev pub AllWatchesOf : Board W → List (Watch W w e) → Type 0
  AllWatchesOf board [] = Unit {0}
  AllWatchesOf board (watch ∷ watches) = (watch.of.value ≡ board) × AllWatchesOf board watches
