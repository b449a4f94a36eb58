-- The words in which the proofs of this crate speak: those of sj_core, and statements, names, blocks of tasks, what they leave.
pub use Rattle.sj_core.proofs.Words.{Access, access, after_chosen, after_task, area, arguments_fit, Array, Cell, cell_info, CellInfo, Codelet, codelet_of, combine_of, combined, commutes_of, Contents, contributes_of, copy_of, data_operands, Deliver, Dims, dims_fit, dims_of, fits, FitsCodelet, Formal, formals_of, found, given, gives_value, has_reduction, HasDeliveries, HasPhases, HasValueBefore, held_before, held_in, init_of, is_commute, is_known, is_output, is_read_only, is_redux, is_scratch, is_written, IsCall, IsCombine, IsContribution, IsCopyOf, IsFirstUnit, IsInit, IsLawful, IsOfPhase, IsOpenAt, IsPhase, IsPlain, IsReduction, IsTile, IsUnaliased, IsWithinLimits, Kernel, kernel_of, Least, Load, Lowered, MayHaveModes, Mode, mode_of, NamesCells, no_cell, no_task, operand, out, outputs_among, Phase, Plus, Program, Proper, R, reads_value, ReadsValues, Reduction, Redux, result_of, results, RW, same_cell, Scratch, task, task_number, task_of, Touches, unit_of, W, worked_on, Worker, written_cells, zeros}
pub use Rattle.indexmap.specs.IndexMap.{get, IndexMap, with_entries}
pub use Rattle.sj_base.specs.Array.{array, element}
pub use Rattle.sj_base.specs.Mode.{is_data}
pub use Rattle.sj_base.specs.Window.{in_rect, item, pasted, read_rect, table}
pub use Rattle.sj_base.specs.declared.ids.Line.{Line}
pub use Rattle.sj_base.specs.declared.ids.Root.{Root}
pub use Rattle.sj_base.specs.declared.mode.Mode.TheVariants.{Commute}
pub use Rattle.sj_base.specs.declared.program.Delivery.{Delivery}
pub use Rattle.sj_codelet.specs.Equations.{loadfill}
pub use Rattle.sj_codelet.specs.Kernel.{commutes_in, contributes_in, fits_in, has_name, kernels, new_arrays, same}
pub use Rattle.sj_codelet.specs.Ring.{wrap}
pub use Rattle.sj_codelet.specs.Runs.{formals_in}
pub use Rattle.sj_codelet.specs.declared.formal.Formal.TheVariants.{R as FormalR, RW as FormalRW, Scratch as FormalScratch, W as FormalW}
pub use Rattle.sj_codelet.specs.declared.kernel.Kernel.TheVariants.{LoadFill, Paste as PasteKernel}
pub use Rattle.sj_core.specs.Proper.{names_as}
pub use Rattle.sj_job.specs.Judge.{first_of, judged, name_reasons, plan_reasons, print_reasons, redux_reasons, register_reasons, Scope, scope_of}
pub use Rattle.sj_job.specs.Names.{gives_values}
pub use Rattle.sj_job.specs.Sentence.{init_said, parts_said, registered_by}
pub use Rattle.sj_job.specs.Track.{all_valued, children_count, even, is_set, IsSmallPlan, none_valued, number, with_child_valued}
pub use Rattle.sj_job.specs.Well.{IsAllowed, IsWell}
pub use Rattle.sj_job.specs.declared.form.Form.{Form}
pub use Rattle.sj_job.specs.declared.form.TaskForm.{TaskForm}
pub use Rattle.sj_lower.specs.Cells.{cell_of, Cells, cells_from, child_cell, copy_at, copy_info, first_cell, first_partial, Handle, info_at, next_handle, no_cells, rect_cell, same_parts, take, take_by, taking_plan, with_copies, with_first, with_handle, with_new_root, with_partials}
pub use Rattle.sj_lower.specs.Delivering.{Assemble, DeliversInOrder, DeliversPrinted, NamesDeliverTasks, part_of, printed_as}
pub use Rattle.sj_lower.specs.Job.{IsJob, IsJobIn}
pub use Rattle.sj_lower.specs.Limits.{above_at_end, cells_in, first_above, late_cells, late_limit, late_tasks, line_or, most, tasks_in}
pub use Rattle.sj_lower.specs.Lowering.{a_delivery, access_of, active_cell, active_cells, add_own, all_closed, begin_rows, begun, cells_after, closed, closed_by, contributions, deliver_rows, extended, finished, is_other_access, leaves_plan, load_rows, lower_from, lower_one, lowered, lowered_program, Lowering, nothing, opened, opened_for, parts_in, phase_turned, plan_rows, prepared, print_deliveries, rows_added, task_row, with_phase}
pub use Rattle.sj_lower.specs.Progress.{AreCopied, cell_by, cells_by, closing_by, contributed_by, Goes, GoesOwn, HasActive, HasAt, HasComing, HasCopies, is_contributed, is_other, IsActiveOperand, IsComing, IsFull, IsFullBy, IsFullOwn, IsLate, IsOverLimit, NamesActives, opening_all, opening_for, over_after, Prepares, preparing_by, StandsAt}
pub use Rattle.sj_lower.specs.Rows.{combine_row, combine_rows, deliver_row, fill_arguments, fill_row, init_row, init_rows, load_row, own_task, paste_arguments, paste_mode, paste_row, task_by}
pub use Rattle.sj_lower.specs.Seen.{access_by, active_at, actives_after_writes, AreActive, AreIn, CanPass, children_after, Does, first_after, handle_in, HasNext, HasPass, HasRoomFor, IsActive, IsCut, Lays, lowered_task, MayComeNext, no_active, Passes, pasted_by, plan_taken, same_taken}
pub use Rattle.sj_lower.specs.declared.layout.Layout.{Layout}
pub use Rattle.sj_lower.specs.declared.layout.Taken.{Taken}
pub use Rattle.sj_lower.specs.declared.lower.LowerRefusal.{LowerRefusal}
pub use Rattle.sj_lower.specs.declared.lower.LowerRefusal.TheVariants.{OutOfMemory, TooManyCells, TooManyTasks}
pub use Rattle.sj_lower.specs.declared.lower.LoweringProgress.{LoweringProgress}
pub use Rattle.sj_lower.specs.declared.lowerer.Active.{Active}
pub use Rattle.sj_lower.specs.declared.lowerer.Lowerer.{Lowerer}
pub use Rattle.sj_lower.specs.declared.phase.OpenPhase.{OpenPhase}
pub use Rattle.sj_lower.specs.declared.rows.Placed.{Placed}
pub use Rattle.sj_meaning.specs.Act.{Act, Invalidate, Invalidate as Invalidates, Plan, Plan as Plans, Print, Print as Prints, Redux as Reduces, Register as Registers, Statement, Task, Task as Tasks, Unregister, Unregister as Unregisters}
pub use Rattle.sj_meaning.specs.Meaning.{apply, change, child_array, child_unit, contributed_to, first_elements, found_by, integers_of, invalidate, no_values, operand_array, plan, Printed, printed, printed_from, prints, put, put_all, reduce, register, registered_root, root_array, run_from, run_task, seen_by, unregister, with_child, with_elements, with_parts, with_reduction, written_of, written_of as written_operands}
pub use Rattle.sj_meaning.specs.Sound.{child_dims, clashes, has_child, has_child_values, has_none, has_root, has_valued_root, InitFits, is_aliased, is_lawful, is_unordered, IsSoundAct, IsSoundPlan, IsSoundRegistration, IsSoundTask, mode_fits, modes_fit, needs_value, reduction_of, root_dims}
pub use Rattle.sj_meaning.specs.State.{child_elements, child_rect, has_no_value, is_child, is_valued, is_valued_child, JobState, root_of, RootState, start}
pub use Rattle.sj_meaning.specs.Statement.{Operand, Register, Register as Registration, TaskLine}
pub use Rattle.sj_meaning.specs.Table.{a_root, AreDistinct, info_of, IsTable, name_of, Table, undivided}
pub use Rattle.sj_meaning.specs.View.{act_seen, ActsArePlaced, count_after, count_from, IsNumbered, IsPlaced, operand_seen, registration, seen_from, statement_seen, statements_of, task_seen}
pub use Rattle.sj_meaning.specs.declared.job.Act.{Act as Kept, Act as KeptAct}
pub use Rattle.sj_meaning.specs.declared.job.Init.{Init}
pub use Rattle.sj_meaning.specs.declared.job.Init.TheVariants.{Fill, Nothing, Values}
pub use Rattle.sj_meaning.specs.declared.job.Kind.{Kind}
pub use Rattle.sj_meaning.specs.declared.job.Operand.{Operand as KeptOperand}
pub use Rattle.sj_meaning.specs.declared.job.RootInfo.{RootInfo}
pub use Rattle.sj_meaning.specs.declared.job.TaskLine.{TaskLine as KeptTask}
pub use Rattle.sj_plan.specs.Interval.{part_len}
pub use Rattle.sj_plan.specs.Parts.{Fits, IsPlace, places}
pub use Rattle.sj_plan.specs.Paste.{is_first, IsPasteBetween, overlaps, paste_at, paste_copy, pastes_of, pastes_to, pieces, same_child_place}
pub use Rattle.sj_plan.specs.Pieces.{all_copied, BeginOnce, begins, copied, Copy}
pub use Rattle.sj_plan.specs.Rect.{child, children_of, holds, place_of, rect_dims, Within}
pub use Rattle.sj_plan.specs.Window.{gathered, IsWhole, window}
pub use Rattle.sj_plan.specs.declared.parts.Parts.{Parts}
pub use Rattle.sj_plan.specs.declared.paste.Paste.{Paste}
pub use Rattle.sj_plan.specs.declared.rect.Rect.{Rect}
pub use Rattle.std.proofs.Common.{[], All, ap, append_assoc, arith, Bool, cond, drop, Err, false, fold, get_or, get_or-set_other, get_or-set_same, IfErr, IfNone, IfSome, if◌then◌else◌, inl, inr, IsErrAnd, length, length-append, List, map, map as each_of, nat_lt, None, not, Ok, Option, option_map, pos, refl, replicate, Result, rules, Some, subst, suc, sym, true, unwrap_or, vec_len, zero, ℕ, ℤ, ◌%◌, ◌&&◌, ◌*ℤ◌, ◌*◌, ◌++◌, ◌+ℤ◌, ◌+◌, ◌-◌, ◌/◌, ◌<◌, ◌^◌, ◌||◌, ◌∙◌, ◌∷◌, ◌≡◌, ◌≤◌}
pub use Rattle.std.specs.Cmp.Lexicographic.{slice_cmp}
pub use Rattle.std.specs.Int.RustNames.{int_le}
pub use Rattle.std.specs.List.{AllByRecursion, AllPairs, filter, find, flat_map, last_or, list_all, list_any, range_with_len, zip}
pub use Rattle.std.specs.Option.{is_none, is_some, option_copied}
pub use Rattle.std.specs.Ordering.{nat_cmp}
pub use Rattle.std.specs.Prelude.{Contains, count_by, IsPermutation, nat_eq, set, slice_get, slice_index_or, ◌⊎◌}
pub use Rattle.std.specs.Str.{bytes_eq}
pub use Rattle.std.specs.Vec.Iter.{into_iter_items, into_iter_len}
