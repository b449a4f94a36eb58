-- The words in which the proofs of this crate speak: those of sj_core, and rows, stores, plans and what a worker works on.
pub use Rattle.sj_core.proofs.Words.{a_transfer, Access, after, after_claim, area, arguments_fit, arrived, AtNode, CanClaim, CanDrop, CanRun, Cell, cell_info, cell_state, CellInfo, cells_of, cells_of_program, CellState, Claim, claimed_mark, Codelet, Coherent, Coming, commuting_cells, copy_of, covers, data_operands, dims_fit, dims_of, distinct, Drop, End, Event, FitsCodelet, formals_of, free, fresh_cells, has_cell, has_room, has_written, idle_row, Invalid, is_active, is_begun, is_claimed_by, is_coming_by, is_entry, is_fresh, is_gone, is_in_use, is_leaving, is_leaving_by, is_pinned, is_redux, is_running_on, is_scratch, is_task_of, is_valid, is_written, IsCopyOf, IsMachineFor, IsOwnedBy, IsSound, IsTransferTo, leave, Leaving, Lowered, Machine, Mark, mark, mark_in, May, missing, Mode, Move, Moved, mover_of, no_cell, no_copy, no_task, Node, node_of, node_size, none_leaving, OnDisk, opening, order, owned_at, pins, Place, Program, progress, Proper, R, Redux, renewed, Run, same_cell, same_worker, scratch, scratch_bytes, shortest_suffix, State, Task, task_of, tasks_of, tile_bytes, to_come, to_front, transfer, Uses, victims, victims_for, victims_of, with_mark, with_row, with_transfer, without, worked_on, Worker, worker_of, worker_state, workers_at, workers_of, WorkerState, writes, written_cells, written_once_more}
pub use Rattle.sj_base.specs.Mode.{is_data}
pub use Rattle.sj_core.specs.Coherent.{IsHeld}
pub use Rattle.sj_core.specs.declared.progress.Progress.{Progress}
pub use Rattle.sj_core.specs.declared.progress.Progress.TheVariants.{Claimed, Done, Running, Waiting}
pub use Rattle.sj_core.specs.declared.progress.Transfer.{Transfer}
pub use Rattle.sj_machine.specs.Cells.{mark_at, row_of, with_row_of, with_rows_of}
pub use Rattle.sj_machine.specs.Choosing.{HasNumbers, is_brought, is_to_come, leaves_in, next_cell, next_victim}
pub use Rattle.sj_machine.specs.Ending.{CanCount, CanRelease, let_go, released, unpinned_each, written_each}
pub use Rattle.sj_machine.specs.Gone.{AreGone, AreGoneIn, KnownGone}
pub use Rattle.sj_machine.specs.Operands.{CanWorkOn, first_held, is_held, worked_among, written_among}
pub use Rattle.sj_machine.specs.Plan.{admitting, CanHold, CanTakeAll, ClaimPlan, holding, IsPlan, IsSmallCell, marked, plan_with, row_with, store_at, taken, taking}
pub use Rattle.sj_machine.specs.Planning.{AnotherHasTask, chosen_on, commuter_in_use, CommutersAreFree, HasSmallTask, HasSmallWork, HoldsCommutersAlone, is_leaving_at, IsAnswer, IsWhy, lacking, MayClaim, need_on, NoneLeavesFor, planned, victims_left}
pub use Rattle.sj_machine.specs.Rows.{has_happened, MayHappen, Rows, rows_at_start}
pub use Rattle.sj_machine.specs.Running.{AreUnpinned, evicted_at, owned_each}
pub use Rattle.sj_machine.specs.Stores.{AreMarked, HasStores, KeepsStores, node_entry_of, order_in, pins_on, PinsFew, row_at, state_in, store_of, transfer_in, with_transfer_of}
pub use Rattle.sj_machine.specs.declared.plan.Why.{Why}
pub use Rattle.sj_machine.specs.declared.plan.Why.TheVariants.{Commute, NoRoom}
pub use Rattle.sj_node.specs.Entry.{AreDistinctCells, entry_to_front, has_entry, is_of_cell, is_of_cells, is_spare, NodeEntry, pins_of, put_cells, repinned, total, without_all, without_entry}
pub use Rattle.sj_node.specs.Store.{empty, free_bytes, Store, store, with_entries}
pub use Rattle.std.proofs.Common.{[], ap, arith, Bool, cond, drop, false, filter, find, fold, get_or, inl, inr, is_some, length, List, map, nat_eq, None, not, Option, option_map, refl, replicate, reverse, rules, set, slice_index_or, slice_set, Some, subst, suc, sum, sum_by, sym, take, true, zero, ℕ, ◌&&◌, ◌*◌, ◌++◌, ◌+◌, ◌-◌, ◌<◌, ◌^◌, ◌||◌, ◌∙◌, ◌∷◌, ◌≡◌, ◌≢◌, ◌≤◌, ◌⊎◌}
pub use Rattle.std.specs.List.{AllByRecursion, list_all, list_any}
pub use Rattle.std.specs.Option.{ok_or}
pub use Rattle.std.specs.Prelude.{All, AllPairs, Contains, count_by, Err, IfErr, IfOk, IfSome, if◌then◌else◌, IsTrue, Ok, OnErr, Result}
