-- What a contract sees of the parts of a scattered network.
pub use Rattle.flow_task.specs.Parts.{AllEntriesOf, AllExitsOf, AllTasksOf, AllWatchesOf, IsWatchOf, block_of, board_begun, board_by, board_layout, board_lines, board_of, board_opens, board_plan, board_wires, entry_board, entry_link, entry_number, entry_state, exit_board, exit_link, exit_number, exit_state, job_by, job_in, marks_by, marks_in, task_number, watched_block, watched_board, watched_outcome}
