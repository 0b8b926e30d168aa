-- The laws of networks, from those of their blocks and inputs.
use Rattle.flow_block_law.proofs.FreshNodes.{fresh_in_order}
use Rattle.flow_block_law.proofs.JobsEnd.{jobs_end_well}
use Rattle.flow_block_law.proofs.NextMoves.{next_moves_may}
use Rattle.flow_block_law.proofs.NodesAreLawful.{nodes_are_lawful}
use Rattle.flow_block_law.proofs.NodesAreStill.{nodes_are_still}
use Rattle.flow_block_law.proofs.NodesKept.{nodes_kept}
use Rattle.flow_block_law.proofs.NodesRest.{nodes_rest}
use Rattle.flow_block_law.proofs.ViewsMove.{calls_move_views}
use Rattle.flow_exit.proofs.ExitsKeep.{exits_keep}
use Rattle.flow_input.proofs.InputsAreParts.{inputs_are_parts}
use Rattle.flow_input.proofs.InputsMove.{inputs_keep}
use Rattle.flow_core.specs.Numbers.{BlocksFaultByNumber}
use Rattle.flow_core.specs.Statements.{AcceptedWasTaken, EntryCallsKeep, EventsKeep, ExitCallsKeep, FreshKeeps, InOrderIsLawful, KeptIsHeld, KeptIsLawful, PostsKeep, ReceivedWasGiven, SchedulesGoWell, StillIsQuiet}
use Rattle.flow_core.proofs.AcceptedTaken.{accepted_was_taken}
use Rattle.flow_core.proofs.BlocksMove.{blocks_move}
use Rattle.flow_core.proofs.CallersKeep.{exit_calls_keep}
use Rattle.flow_core.proofs.EntriesKeep.{entry_calls_keep}
use Rattle.flow_core.proofs.EventsKeep.{events_keep, posts_keep}
use Rattle.flow_core.proofs.ExitsMove.{exits_move}
use Rattle.flow_core.proofs.FaultsNumbered.{blocks_fault_by_number}
use Rattle.flow_core.proofs.FreshNets.{fresh_keeps}
use Rattle.flow_core.proofs.InputsMove.{inputs_move}
use Rattle.flow_core.proofs.KeptForOne.{kept_is_held}
use Rattle.flow_core.proofs.KeptIsLawful.{in_order_is_lawful, kept_is_lawful}
use Rattle.flow_core.proofs.ReceivedGiven.{received_was_given}
use Rattle.flow_core.proofs.SchedulesGoWell.{schedules_go_well}
use Rattle.flow_core.proofs.StillIsQuiet.{still_is_quiet}
use Rattle.flow_core.proofs.TargetsMove.{targets_move}

pub fresh_nets_keep : (W : Type 0) → FreshKeeps W
fresh_nets_keep W = fresh_keeps (fresh_in_order W) inputs_keep exits_keep

pub all_events_keep : (W : Type 0) → EventsKeep W
all_events_keep W =
    events_keep (nodes_kept W) (jobs_end_well W) (calls_move_views W) next_moves_may inputs_keep exits_keep
    (blocks_move (nodes_kept W) (calls_move_views W) next_moves_may) (inputs_move inputs_keep)
    (targets_move (calls_move_views W) next_moves_may) (exits_move exits_keep)

pub all_posts_keep : (W : Type 0) → PostsKeep W
all_posts_keep W =
    posts_keep (nodes_kept W) (jobs_end_well W) (calls_move_views W) next_moves_may inputs_keep exits_keep
    (blocks_move (nodes_kept W) (calls_move_views W) next_moves_may) (inputs_move inputs_keep)
    (targets_move (calls_move_views W) next_moves_may) (exits_move exits_keep)

pub all_entry_calls_keep : (W : Type 0) → EntryCallsKeep W
all_entry_calls_keep W = entry_calls_keep inputs_keep

pub all_accepted_was_taken : (W : Type 0) → AcceptedWasTaken W
all_accepted_was_taken W = accepted_was_taken (nodes_are_lawful W) (inputs_are_parts W)

pub all_exit_calls_keep : (W : Type 0) → ExitCallsKeep W
all_exit_calls_keep W = exit_calls_keep exits_keep

pub all_received_was_given : (W : Type 0) → ReceivedWasGiven W
all_received_was_given W = received_was_given (nodes_are_lawful W) (inputs_are_parts W)

pub nets_in_order_are_lawful : (W : Type 0) → InOrderIsLawful W
nets_in_order_are_lawful W = in_order_is_lawful (nodes_are_lawful W) (inputs_are_parts W)

pub kept_nets_are_lawful : (W : Type 0) → KeptIsLawful W
kept_nets_are_lawful W = kept_is_lawful (nodes_are_lawful W) (inputs_are_parts W)

pub kept_nets_hold : (W : Type 0) → KeptIsHeld W
kept_nets_hold W = kept_is_held (nodes_are_lawful W) (inputs_are_parts W)

pub still_nets_are_quiet : (W : Type 0) → StillIsQuiet W
still_nets_are_quiet W =
    still_is_quiet (nodes_are_still W) (nodes_rest W) (nodes_are_lawful W) (inputs_are_parts W)

pub all_schedules_go_well : (W : Type 0) → SchedulesGoWell W
all_schedules_go_well W =
    schedules_go_well (all_events_keep W) (fresh_nets_keep W) (kept_nets_are_lawful W) (kept_nets_hold W) (still_nets_are_quiet W)

pub all_blocks_fault_by_number : (W : Type 0) → BlocksFaultByNumber W
all_blocks_fault_by_number W = blocks_fault_by_number (all_events_keep W) (fresh_nets_keep W)
