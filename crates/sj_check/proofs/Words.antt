-- The words in which the proofs of this crate speak: those of sj_core and sj_machine, and what a checker watches.
pub use Rattle.sj_core.proofs.Words.{Block, CanFollow, CanMoveIn, cell_block_bytes, DiskNo, done_in, done_tasks, first_fit, footprint, is_done, is_idle, is_moving, is_present, IsComplete, IsFinished, IsLegal, place, place_after, Ready, source_of, state_of}
pub use Rattle.sj_machine.proofs.Words.{after, Cell, CellInfo, Claim, Claimed, ClaimPlan, Coherent, Coming, commuting_cells, Done, End, Event, has_happened, is_begun, is_coming_by, is_in_use, is_task_of, IsWhy, Machine, mark, May, MayHappen, Node, node_of, opening, Program, Progress, progress, Rows, rows_at_start, Run, Running, State, Task, transfer, Waiting, Worker, written_cells}
pub use Rattle.sj_check.specs.Judging.{HappensLegally, IsRefused, Judges}
pub use Rattle.sj_check.specs.Refusal.{IsFirstBad}
pub use Rattle.sj_check.specs.Watching.{AreHomes, HasTasks, task_in, Watches}
pub use Rattle.sj_core.specs.Laws.{TracesGoOn}
pub use Rattle.sj_deps.specs.Progress.{after_done, Dependencies, dependencies}
pub use Rattle.sj_machine.specs.ReadyTasks.{CountsDone}
pub use Rattle.sj_machine.specs.declared.plan.Why.{Why}
pub use Rattle.sj_machine.specs.declared.plan.Why.TheVariants.{Commute, Leaving, NoRoom}
pub use Rattle.sj_replica.specs.Mark.{claimant_of}
pub use Rattle.std.proofs.Common.{[], add-one, ap, arith, Bool, cond, Contains, drop, drop-cons, false, get_or, inl, inr, is_some, IsTrue, length, length-set, List, map, None, not, Option, refl, replicate, Result, rules, set, Some, subst, suc, sym, take, true, w64, zero, ℕ, ◌&&◌, ◌++◌, ◌+◌, ◌<◌, ◌↔◌, ◌∙◌, ◌∷◌, ◌≡◌, ◌≢◌, ◌≤◌}
pub use Rattle.std.specs.List.{find, list_all, slice_index_or}
pub use Rattle.std.specs.Prelude.{IfErr, IfSome, IsOk, OnOk, option_and_then, option_map, slice_get, slice_set, unwrap_or}
