-- What a run hands over is what the deliver tasks have to hand over.
use Rattle.std.proofs.Common.{◌≡◌, ℕ, suc, ◌+◌, ◌<◌, Bool, true, false, cond, List, [], ◌∷◌, length, get_or, refl, sym, ap, ◌∙◌, subst, arith, nat_eq, Some, inl, inr}
use Rattle.std.specs.Prelude.{All, Contains, IsTrue}
use Rattle.std.specs.List.{range_with_len}
use Rattle.std.proofs.lemmas.Bool.{cases_lt, false≢true}
use Rattle.std.proofs.lemmas.Bool.Decides.{Decides-eqb}
use Rattle.std.proofs.lemmas.List.{get_or_past}
use Rattle.std.proofs.lemmas.List.Sums.{sum_by-cons}
use Rattle.std.proofs.lemmas.List.Elements.{All-contains, All-contains_itself, All-weaker}
use Rattle.sj_base.specs.declared.ids.Task.{Task}
use Rattle.sj_base.specs.declared.program.Codelet.{Codelet}
use Rattle.sj_base.specs.declared.program.Delivery.{Delivery}
use Rattle.sj_base.specs.declared.program.Lowered.{Lowered}
use Rattle.sj_base.specs.declared.program.Program.{Program}
use Rattle.sj_base.specs.declared.tile.Dims.{Dims}
use Rattle.sj_base.specs.Array.{Array, zeros}
use Rattle.sj_base.proofs.Bools.{tally}
use Rattle.sj_base.specs.Ids.{task}
use Rattle.sj_codelet.specs.declared.kernel.Kernel.{Kernel}
use Rattle.sj_codelet.specs.declared.kernel.Kernel.TheVariants.{Deliver}
use Rattle.sj_codelet.specs.Kernel.{kernel_of, out}
use Rattle.sj_core.specs.Fold.{given}
use Rattle.sj_core.specs.Laws.{IsLawful}
use Rattle.sj_core.specs.Program.{dims_of, no_task, task_of}
use Rattle.sj_core.specs.Proper.{Proper}
use Rattle.sj_core.proofs.Folding.{map-same}
use Rattle.sj_core.proofs.Readiness.{Contains-from_filter}
use Rattle.sj_core.proofs.Sized.{after_chosen-sized}
use Rattle.sj_board.specs.Delivery.{delivered_cell, is_deliver_task, is_delivery}
use Rattle.sj_board.specs.Delivered.{DeliversEach, times_delivered}
use Rattle.sj_meaning.specs.Table.{Table, info_of, name_of}
use Rattle.sj_lower.specs.Delivering.{NamesDeliverTasks, deliveries_for}
use Rattle.sj_plan.specs.Rect.{Within}
use Rattle.sj_plan.specs.Window.{gathered}
use Rattle.sj_top.specs.Gathering.{AreAmong, HandedArrays, HandedOver, IsIndex, IsShown, all_shown, array_found, part_by, prints_of, rect_at, delivered_root, shown}
use Rattle.sj_top.proofs.Finding.{finds-delivery, found-among, tasks_in}

-- ---- what a table finds

-- the table finds for each delivery an array that its task handed over
pub found-each : (p : Program) (h : HandedArrays) (pairs : List (Task × Array)) → h.pairs ≡ pairs → IsIndex h.places h.pairs → HandedOver p pairs → AreAmong p pairs (array_found h)
found-each p h pairs e index handed =
    let own : HandedOver p h.pairs = subst (HandedOver p) (sym e) handed in
    All-weaker (Contains p.deliveries) (λ (d : Delivery). Contains pairs (d.task, array_found h d.task))
    (λ d has. subst (λ (xs : List (Task × Array)). Contains xs (d.task, array_found h d.task)) e (found-among h d.task (finds-delivery p h.places h.pairs d own index has)))
    p.deliveries (All-contains_itself p.deliveries)

-- it has the dimensions of what the task has to hand over
pub dims-found : (p : Program) (pairs : List (Task × Array)) (arrays : Task → Array) → HandedOver p pairs → AreAmong p pairs arrays → All (λ (d : Delivery). (arrays d.task).dims ≡ (given out p d.task).dims) p.deliveries
dims-found p pairs arrays handed among =
    All-weaker (λ (d : Delivery). Contains pairs (d.task, arrays d.task)) (λ (d : Delivery). (arrays d.task).dims ≡ (given out p d.task).dims)
    (λ d has. All-contains (λ (pair : Task × Array). pair.1.dims ≡ (given out p pair.0).dims) pairs (d.task, arrays d.task) handed.dims has) p.deliveries among

-- so the deliveries of a print statement lie in their root
pub shown-by : (T : Table) (p : Program) (k : ℕ) (arrays : Task → Array) → All (λ (d : Delivery). (arrays d.task).dims ≡ (given out p d.task).dims) p.deliveries → IsShown T (given out p) (deliveries_for p k) → IsShown T arrays (deliveries_for p k)
shown-by T p k arrays same shown =
    let ds = deliveries_for p k in
    let dims = (info_of T (delivered_root ds)).dims in
    record {
      some = shown.some;
      rooted = shown.rooted;
      within = λ i d below.
          let x = get_or ds i d in
          let among : Contains p.deliveries x = Contains-from_filter (λ (e : Delivery). nat_eq e.print k) p.deliveries x (All-contains_itself ds i d below) in
          let has = All-contains (λ (e : Delivery). (arrays e.task).dims ≡ (given out p e.task).dims) p.deliveries x same among in
          subst (λ (z : Dims). Within (rect_at x z) dims) (sym has) (shown.within i d below);
    }

-- where each array is what its task has to hand over, the deliveries show the same as these
pub same-shown : (T : Table) (p : Program) (pairs : List (Task × Array)) (arrays : Task → Array) → AreAmong p pairs arrays → All (λ (pair : Task × Array). pair.1 ≡ given out p pair.0) pairs → all_shown T arrays p ≡ all_shown T (given out p) p
same-shown T p pairs arrays among are = map-same (λ k. shown T arrays (deliveries_for p k)) (λ k. shown T (given out p) (deliveries_for p k)) (range_with_len 0 (prints_of p)) (λ k h. same-of k)
  where
    same-of : (k : ℕ) → shown T arrays (deliveries_for p k) ≡ shown T (given out p) (deliveries_for p k)
    same-of k =
        let ds = deliveries_for p k in
        let parts = map-same (part_by arrays) (part_by (given out p)) ds (λ d h.
        let own : Contains p.deliveries d = Contains-from_filter (λ (e : Delivery). nat_eq e.print k) p.deliveries d h in
        let has = All-contains (λ (e : Delivery). Contains pairs (e.task, arrays e.task)) p.deliveries d among own in
        let is = All-contains (λ (pair : Task × Array). pair.1 ≡ given out p pair.0) pairs (d.task, arrays d.task) are has in
        ap (λ (a : Array). (rect_at d a.dims, a)) is) in
        let info = info_of T (delivered_root ds) in
        λ i. record { name = name_of T (delivered_root ds); kind = info.kind; array = gathered (zeros info.dims) (parts i) }

-- ---- what a run hands over

-- a task that is counted is there
one-counted : (t : Task) (pairs : List (Task × Array)) → 0 < times_delivered pairs t → Contains (tasks_in pairs) t
one-counted t [] some = absurd (omega arith)
one-counted t (pair ∷ pairs) some = by_first (nat_eq pair.0.0 t.0) refl (one-counted t pairs)
  where
    by_first : (b : Bool) → nat_eq pair.0.0 t.0 ≡ b → (0 < times_delivered pairs t → Contains (tasks_in pairs) t) → Contains (pair.0 ∷ tasks_in pairs) t
    by_first true e later = (0, omega arith, ap task ((Decides-eqb pair.0.0 t.0).0 e))
    by_first false e later =
        let n : times_delivered (pair ∷ pairs) t ≡ tally (nat_eq pair.0.0 t.0) + times_delivered pairs t = sum_by-cons (λ (d : Task × Array). cond (nat_eq d.0.0 t.0) 1 0) pair pairs in
        let none : tally (nat_eq pair.0.0 t.0) ≡ tally false = ap tally e in
        let h = later (omega (arith, n, none, some)) in
        (suc h.0, omega (arith, h.1), h.2)

-- a deliver task is a task of the program
deliver-inside : (p : Program) (t : Task) → IsTrue (is_deliver_task p t) → t.0 < length p.tasks
deliver-inside p t is = elim (cases_lt t.0 (length p.tasks)) [
  | inl inside ↦ inside
  | inr past ↦ absurd (false≢true (sym (ap (λ (l : Lowered). is_delivery l.codelet) (get_or_past p.tasks t.0 no_task past)) ∙ is))
]

kernel-delivery : (id : Codelet) → kernel_of id ≡ Some Deliver → is_delivery id ≡ true
kernel-delivery id e = rw e refl

-- what all tasks before it leave in a deliver task's cell has the cell's dimensions
given-dims : (has : Kernel → Bool) (p : Program) (t : Task) → Proper p → IsLawful out has p → 0 < p.workers → t.0 < length p.tasks → (given out p t).dims ≡ dims_of p (delivered_cell p t)
given-dims has p t proper lawful some inside = (after_chosen-sized out has p proper lawful (λ u. true) (λ u. record { 0 = 0 }) (λ u. some) t.0 (omega (arith, inside)) (delivered_cell p t)).dims

pub handed-over : (has : Kernel → Bool) (p : Program) (Tells : Type 0) (pairs : List (Task × Array)) → Proper p → IsLawful out has p → 0 < p.workers → NamesDeliverTasks p → DeliversEach out p Tells pairs → HandedOver p pairs
handed-over has p Tells pairs proper lawful some named each = record {
  of_program = All-weaker (λ (d : Task × Array). IsTrue (is_deliver_task p d.0)) (λ (d : Task × Array). d.0.0 < length p.tasks) (λ d is. deliver-inside p d.0 is) pairs each.only;
  dims = λ i d below.
      let x = get_or pairs i d in
      each.dims i d below ∙ sym (given-dims has p x.0 proper lawful some (deliver-inside p x.0 (each.only i d below)));
  every = All-weaker (λ (d : Delivery). (d.task.0 < length p.tasks) × (kernel_of (task_of p d.task).codelet ≡ Some Deliver)) (λ (d : Delivery). Contains (tasks_in pairs) d.task)
      (λ d is. let one = each.once d.task (kernel-delivery (task_of p d.task).codelet is.1) in one-counted d.task pairs (omega (arith, one))) p.deliveries named;
}
