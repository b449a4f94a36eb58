-- A task's operands are ready for its codelet, and what its kernel leaves are the task's results.
use Rattle.std.proofs.Common.{◌≡◌, ℕ, zero, suc, ◌<◌, Bool, true, false, ◌&&◌, cond, List, [], ◌∷◌, map, length, refl, sym, ap, ◌∙◌, subst, Option, None, Some, arith}
use Rattle.std.specs.Prelude.{All, IsTrue, not, ◌||◌}
use Rattle.std.specs.List.{AllZip, slice_index_or}
use Rattle.std.proofs.lemmas.Bool.{and_parts, false≢true}
use Rattle.std.proofs.lemmas.List.Elements.{All-get_or}
use Rattle.sj_base.specs.declared.ids.Cell.{Cell}
use Rattle.sj_base.specs.declared.ids.Task.{Task}
use Rattle.sj_base.specs.declared.ids.Worker.{Worker}
use Rattle.sj_base.specs.declared.mode.Access.{Access}
use Rattle.sj_base.specs.declared.mode.Mode.{Mode}
use Rattle.sj_base.specs.declared.mode.Mode.TheVariants.{R, W, RW, Scratch, Redux, Commute}
use Rattle.sj_base.specs.declared.mode.Reduction.{Reduction}
use Rattle.sj_base.specs.declared.program.Lowered.{Lowered}
use Rattle.sj_base.specs.declared.program.Program.{Program}
use Rattle.sj_base.specs.declared.tile.Dims.{Dims}
use Rattle.sj_base.specs.Array.{Array, zeros}
use Rattle.sj_base.specs.Mode.{is_written, reads_value, access, reads_of, writes_of}
use Rattle.sj_codelet.specs.declared.formal.Formal.{Formal}
use Rattle.sj_codelet.specs.declared.formal.Formal.TheVariants.{R as ReadFormal, W as WriteFormal, RW as UpdateFormal, Scratch as ScratchFormal}
use Rattle.sj_codelet.specs.declared.kernel.Kernel.{Kernel}
use Rattle.sj_codelet.specs.Frame.{AllKeep, AreReady, Frame, SuitsFormal, KeepsOperand, Slot, all_dims, arrays, own, shared, written_arrays}
use Rattle.sj_codelet.specs.Kernel.{commutes_of, contributes_of, fits, fits_in, formals_of, out}
use Rattle.sj_codelet.specs.Runs.{IsReadyFor, IsRun, formals_in}
use Rattle.sj_core.specs.Laws.{IsLawful, is_known}
use Rattle.sj_core.specs.Operands.{found, results, worked_on}
use Rattle.sj_core.specs.Program.{dims_of, no_task, task_of, written_operands}
use Rattle.sj_core.specs.Proper.{Commuting, Contributing, FirstPaste, FitsCodelet, MayHaveModes, Own, Proper, mode_of, modes_writing_by}
use Rattle.sj_engine.specs.Operands.{AreSharesOf, first_share, held_for, later_shares, operand_from, operands_from, read_operands}
use Rattle.sj_codelet.proofs.Table.{by_table}
use Rattle.sj_base.proofs.Lists.{cons_same}
use Rattle.sj_core.proofs.Sized.{task-fits}
use Rattle.sj_board.specs.Shares.{IsShare}
use Rattle.sj_base.proofs.Bools.{implied}
use Rattle.sj_base.specs.declared.mode.Reduction.TheVariants.{Plus, Least}

-- ---- which modes go with which formals

abbrev suits : Formal → Mode → Bool
suits ReadFormal R = true
suits WriteFormal W = true
suits UpdateFormal W = true
suits UpdateFormal RW = true
suits UpdateFormal Redux = true
suits UpdateFormal Commute = true
suits ScratchFormal Scratch = true
suits _ _ = false

abbrev all_suit : List Formal → List Mode → Bool
all_suit [] [] = true
all_suit (f ∷ fs) (x ∷ xs) = suits f x && all_suit fs xs
all_suit _ _ = false

own-suit : (fs : List Formal) → all_suit fs (map mode_of fs) ≡ true
own-suit [] = refl
own-suit (ReadFormal ∷ fs) = own-suit fs
own-suit (WriteFormal ∷ fs) = own-suit fs
own-suit (UpdateFormal ∷ fs) = own-suit fs
own-suit (ScratchFormal ∷ fs) = own-suit fs

commuting-suit : (k : Kernel) → commutes_of k ≡ true → all_suit (formals_of k) (modes_writing_by Commute k) ≡ true
commuting-suit k h = implied (commutes_of k) (all_suit (formals_of k) (modes_writing_by Commute k)) (by_table (λ k. not (commutes_of k) || all_suit (formals_of k) (modes_writing_by Commute k)) refl k) h

contributing-suit : (k : Kernel) (by : Reduction) → contributes_of k by ≡ true → all_suit (formals_of k) (modes_writing_by Redux k) ≡ true
contributing-suit k Plus h = implied (contributes_of k Plus) (all_suit (formals_of k) (modes_writing_by Redux k)) (by_table (λ k. not (contributes_of k Plus) || all_suit (formals_of k) (modes_writing_by Redux k)) refl k) h
contributing-suit k Least h = implied (contributes_of k Least) (all_suit (formals_of k) (modes_writing_by Redux k)) (by_table (λ k. not (contributes_of k Least) || all_suit (formals_of k) (modes_writing_by Redux k)) refl k) h

modes-suit : (k : Kernel) (ms : List Mode) → MayHaveModes k ms → all_suit (formals_of k) ms ≡ true
modes-suit k ms (Own e) = ap (all_suit (formals_of k)) e ∙ own-suit (formals_of k)
modes-suit k ms (FirstPaste paste e) = ap (all_suit (formals_of k)) e ∙ ap (λ (j : Kernel). all_suit (formals_of j) (modes_writing_by W j)) paste
modes-suit k ms (Commuting may one e) = ap (all_suit (formals_of k)) e ∙ commuting-suit k may
modes-suit k ms (Contributing by may one e) = ap (all_suit (formals_of k)) e ∙ contributing-suit k by may

-- ---- operands made of shares

ready-one : (p : Program) (f : Formal) (x : Mode) (d : Cell) (y : Array) → suits f x ≡ true → (reads_value x ≡ true → SuitsFormal f (operand_from (access x d) y)) × (reads_value x ≡ false → SuitsFormal f (own (zeros (dims_of p d))))
ready-one p ReadFormal R d y h = ((λ e. tt), (λ e. tt))
ready-one p ReadFormal W d y h = absurd (false≢true h)
ready-one p ReadFormal RW d y h = absurd (false≢true h)
ready-one p ReadFormal Scratch d y h = absurd (false≢true h)
ready-one p ReadFormal Redux d y h = absurd (false≢true h)
ready-one p ReadFormal Commute d y h = absurd (false≢true h)
ready-one p WriteFormal R d y h = absurd (false≢true h)
ready-one p WriteFormal W d y h = ((λ e. absurd (false≢true e)), (λ e. (refl, refl)))
ready-one p WriteFormal RW d y h = absurd (false≢true h)
ready-one p WriteFormal Scratch d y h = absurd (false≢true h)
ready-one p WriteFormal Redux d y h = absurd (false≢true h)
ready-one p WriteFormal Commute d y h = absurd (false≢true h)
ready-one p UpdateFormal R d y h = absurd (false≢true h)
ready-one p UpdateFormal W d y h = ((λ e. absurd (false≢true e)), (λ e. refl))
ready-one p UpdateFormal RW d y h = ((λ e. refl), (λ e. refl))
ready-one p UpdateFormal Scratch d y h = absurd (false≢true h)
ready-one p UpdateFormal Redux d y h = ((λ e. refl), (λ e. refl))
ready-one p UpdateFormal Commute d y h = ((λ e. refl), (λ e. refl))
ready-one p ScratchFormal R d y h = absurd (false≢true h)
ready-one p ScratchFormal W d y h = absurd (false≢true h)
ready-one p ScratchFormal RW d y h = absurd (false≢true h)
ready-one p ScratchFormal Scratch d y h = ((λ e. absurd (false≢true e)), (λ e. (refl, refl)))
ready-one p ScratchFormal Redux d y h = absurd (false≢true h)
ready-one p ScratchFormal Commute d y h = absurd (false≢true h)

abbrev modes_in : List Access → List Mode
modes_in accesses = map (λ a. a.mode) accesses

ready-from : (p : Program) (fs : List Formal) (accesses : List Access) (xs : List Array) → all_suit fs (modes_in accesses) ≡ true → AreReady fs (operands_from p accesses xs)
ready-from p [] accesses xs h = tt
ready-from p (f ∷ fs) [] xs h = tt
ready-from p (f ∷ fs) (a ∷ accesses) xs h = by_reads (reads_value a.mode) refl (λ ys. ready-from p fs accesses ys (and_parts (suits f a.mode) (all_suit fs (modes_in accesses)) h).1)
  where
    one : (y : Array) → (reads_value a.mode ≡ true → SuitsFormal f (operand_from a y)) × (reads_value a.mode ≡ false → SuitsFormal f (own (zeros (dims_of p a.cell))))
    one y = ready-one p f a.mode a.cell y (and_parts (suits f a.mode) (all_suit fs (modes_in accesses)) h).0

    by_reads : (b : Bool) → reads_value a.mode ≡ b → ((ys : List Array) → AreReady fs (operands_from p accesses ys)) → AreReady (f ∷ fs) (operands_from p (a ∷ accesses) xs)
    by_reads true e rest = subst (λ b. AreReady (f ∷ fs) (cond b (operand_from a (first_share p a xs) ∷ operands_from p accesses (later_shares xs)) (own (zeros (dims_of p a.cell)) ∷ operands_from p accesses xs))) (sym e) ((one (first_share p a xs)).0 e, rest (later_shares xs))
    by_reads false e rest = subst (λ b. AreReady (f ∷ fs) (cond b (operand_from a (first_share p a xs) ∷ operands_from p accesses (later_shares xs)) (own (zeros (dims_of p a.cell)) ∷ operands_from p accesses xs))) (sym e) ((one (first_share p a xs)).1 e, rest xs)

operand-array : (a : Access) (x : Array) → (operand_from a x).array ≡ x
operand-array a x = by_written (is_written a.mode)
  where
    by_written : (b : Bool) → (cond b (own x) (shared x)).array ≡ x
    by_written true = refl
    by_written false = refl

dims-from : (p : Program) (accesses : List Access) (slots : List Slot) → AllZip (IsShare p) (reads_of accesses) slots → all_dims (operands_from p accesses (arrays slots)) ≡ map (λ a. dims_of p a.cell) accesses
dims-from p [] slots h = refl
dims-from p (a ∷ accesses) slots h = by_reads (reads_value a.mode) refl slots h (λ rest k. dims-from p accesses rest k)
  where
    by_reads : (b : Bool) → reads_value a.mode ≡ b → (slots : List Slot) → AllZip (IsShare p) (reads_of (a ∷ accesses)) slots → ((rest : List Slot) → AllZip (IsShare p) (reads_of accesses) rest → all_dims (operands_from p accesses (arrays rest)) ≡ map (λ a. dims_of p a.cell) accesses) → all_dims (operands_from p (a ∷ accesses) (arrays slots)) ≡ map (λ a. dims_of p a.cell) (a ∷ accesses)
    by_reads true e [] h later = absurd (subst (λ b. AllZip (IsShare p) (cond b (a ∷ reads_of accesses) (reads_of accesses)) []) e h)
    by_reads true e (s ∷ slots) h later =
        let both : IsShare p a s × AllZip (IsShare p) (reads_of accesses) slots = subst (λ b. AllZip (IsShare p) (cond b (a ∷ reads_of accesses) (reads_of accesses)) (s ∷ slots)) e h in
        ap (λ b. all_dims (cond b (operand_from a s.array ∷ operands_from p accesses (arrays slots)) (own (zeros (dims_of p a.cell)) ∷ operands_from p accesses (arrays (s ∷ slots))))) e
        ∙ ap (λ (d : Dims). d ∷ all_dims (operands_from p accesses (arrays slots))) (ap (λ (x : Array). x.dims) (operand-array a s.array) ∙ both.0.dims)
        ∙ ap (λ (l : List Dims). dims_of p a.cell ∷ l) (later slots both.1)
    by_reads false e slots h later =
        let rest : AllZip (IsShare p) (reads_of accesses) slots = subst (λ b. AllZip (IsShare p) (cond b (a ∷ reads_of accesses) (reads_of accesses)) slots) e h in
        ap (λ b. all_dims (cond b (operand_from a (first_share p a (arrays slots)) ∷ operands_from p accesses (later_shares (arrays slots))) (own (zeros (dims_of p a.cell)) ∷ operands_from p accesses (arrays slots)))) e
        ∙ ap (λ (l : List Dims). dims_of p a.cell ∷ l) (later slots rest)

found-reads : (p : Program) (w : Worker) (held : Cell → Array) (a : Access) (b : Bool) → reads_value a.mode ≡ b → found p w held a ≡ cond b (held (worked_on p w a)) (zeros (dims_of p a.cell))
found-reads p w held a true e = ap (λ b. cond (not b) (zeros (dims_of p a.cell)) (held (worked_on p w a))) e
found-reads p w held a false e = ap (λ b. cond (not b) (zeros (dims_of p a.cell)) (held (worked_on p w a))) e

arrays-from : (p : Program) (w : Worker) (held : Cell → Array) (accesses : List Access) → arrays (operands_from p accesses (held_for p w held (reads_of accesses))) ≡ map (found p w held) accesses
arrays-from p w held [] = refl
arrays-from p w held (a ∷ accesses) = by_reads (reads_value a.mode) refl (arrays-from p w held accesses)
  where
    by_reads : (b : Bool) → reads_value a.mode ≡ b → arrays (operands_from p accesses (held_for p w held (reads_of accesses))) ≡ map (found p w held) accesses → arrays (operands_from p (a ∷ accesses) (held_for p w held (reads_of (a ∷ accesses)))) ≡ map (found p w held) (a ∷ accesses)
    by_reads true e rest =
        let y = held (worked_on p w a) in
        let ys = held_for p w held (reads_of accesses) in
        ap (λ b. arrays (cond b (operand_from a (first_share p a (held_for p w held (cond b (a ∷ reads_of accesses) (reads_of accesses)))) ∷ operands_from p accesses (later_shares (held_for p w held (cond b (a ∷ reads_of accesses) (reads_of accesses))))) (own (zeros (dims_of p a.cell)) ∷ operands_from p accesses (held_for p w held (cond b (a ∷ reads_of accesses) (reads_of accesses)))))) e
        ∙ ap (λ (x : Array). x ∷ arrays (operands_from p accesses ys)) (operand-array a y ∙ sym (found-reads p w held a true e))
        ∙ ap (λ (l : List Array). found p w held a ∷ l) rest
    by_reads false e rest =
        let ys = held_for p w held (reads_of accesses) in
        ap (λ b. arrays (cond b (operand_from a (first_share p a (held_for p w held (cond b (a ∷ reads_of accesses) (reads_of accesses)))) ∷ operands_from p accesses (later_shares (held_for p w held (cond b (a ∷ reads_of accesses) (reads_of accesses))))) (own (zeros (dims_of p a.cell)) ∷ operands_from p accesses (held_for p w held (cond b (a ∷ reads_of accesses) (reads_of accesses)))))) e
        ∙ ap (λ (x : Array). x ∷ arrays (operands_from p accesses ys)) (sym (found-reads p w held a false e))
        ∙ ap (λ (l : List Array). found p w held a ∷ l) rest

-- ---- what a kernel leaves

written-suits : (f : Formal) (x : Mode) → suits f x ≡ true → is_written x ≡ false → (s t : Slot) (fs : List Formal) (new : List Slot) → KeepsOperand f s t → written_arrays (f ∷ fs) (t ∷ new) ≡ written_arrays fs new
written-suits ReadFormal x h e s t fs new k = refl
written-suits ScratchFormal x h e s t fs new k = refl
written-suits WriteFormal R h e s t fs new k = absurd (false≢true h)
written-suits WriteFormal W h e s t fs new k = absurd (false≢true (sym e))
written-suits WriteFormal RW h e s t fs new k = absurd (false≢true h)
written-suits WriteFormal Scratch h e s t fs new k = absurd (false≢true h)
written-suits WriteFormal Redux h e s t fs new k = absurd (false≢true h)
written-suits WriteFormal Commute h e s t fs new k = absurd (false≢true h)
written-suits UpdateFormal R h e s t fs new k = absurd (false≢true h)
written-suits UpdateFormal W h e s t fs new k = absurd (false≢true (sym e))
written-suits UpdateFormal RW h e s t fs new k = absurd (false≢true (sym e))
written-suits UpdateFormal Scratch h e s t fs new k = absurd (false≢true h)
written-suits UpdateFormal Redux h e s t fs new k = absurd (false≢true (sym e))
written-suits UpdateFormal Commute h e s t fs new k = absurd (false≢true (sym e))

record Writes (s t : Slot) (f : Formal) (fs : List Formal) (new : List Slot) : Type 0 where
  pub first : written_arrays (f ∷ fs) (t ∷ new) ≡ t.array ∷ written_arrays fs new
  pub dims : t.array.dims ≡ s.array.dims

written-suits-too : (f : Formal) (x : Mode) → suits f x ≡ true → is_written x ≡ true → (s t : Slot) (fs : List Formal) (new : List Slot) → KeepsOperand f s t → Writes s t f fs new
written-suits-too WriteFormal x h e s t fs new k = record { first = refl; dims = k.1 }
written-suits-too UpdateFormal x h e s t fs new k = record { first = refl; dims = k.1 }
written-suits-too ReadFormal R h e s t fs new k = absurd (false≢true e)
written-suits-too ReadFormal W h e s t fs new k = absurd (false≢true h)
written-suits-too ReadFormal RW h e s t fs new k = absurd (false≢true h)
written-suits-too ReadFormal Scratch h e s t fs new k = absurd (false≢true h)
written-suits-too ReadFormal Redux h e s t fs new k = absurd (false≢true h)
written-suits-too ReadFormal Commute h e s t fs new k = absurd (false≢true h)
written-suits-too ScratchFormal R h e s t fs new k = absurd (false≢true h)
written-suits-too ScratchFormal W h e s t fs new k = absurd (false≢true h)
written-suits-too ScratchFormal RW h e s t fs new k = absurd (false≢true h)
written-suits-too ScratchFormal Scratch h e s t fs new k = absurd (false≢true e)
written-suits-too ScratchFormal Redux h e s t fs new k = absurd (false≢true h)
written-suits-too ScratchFormal Commute h e s t fs new k = absurd (false≢true h)

results-dims : (p : Program) (fs : List Formal) (accesses : List Access) (old new : List Slot) → all_suit fs (modes_in accesses) ≡ true → all_dims old ≡ map (λ a. dims_of p a.cell) accesses → AllKeep fs old new → AllZip (IsShare p) (writes_of accesses) (map shared (written_arrays fs new))
results-dims p [] [] [] [] h d k = tt
results-dims p [] [] [] (t ∷ new) h d k = absurd k
results-dims p [] [] (s ∷ old) [] h d k = absurd k
results-dims p [] [] (s ∷ old) (t ∷ new) h d k = absurd k
results-dims p [] (a ∷ accesses) old new h d k = absurd (false≢true h)
results-dims p (f ∷ fs) [] old new h d k = absurd (false≢true h)
results-dims p (f ∷ fs) (a ∷ accesses) [] [] h d k = absurd k
results-dims p (f ∷ fs) (a ∷ accesses) [] (t ∷ new) h d k = absurd k
results-dims p (f ∷ fs) (a ∷ accesses) (s ∷ old) [] h d k = absurd k
results-dims p (f ∷ fs) (a ∷ accesses) (s ∷ old) (t ∷ new) h d k =
    by_written (is_written a.mode) refl (results-dims p fs accesses old new (and_parts (suits f a.mode) (all_suit fs (modes_in accesses)) h).1 (cons_same s.array.dims (dims_of p a.cell) (all_dims old) (map (λ (b : Access). dims_of p b.cell) accesses) d).1 k.1)
  where
    by_written : (b : Bool) → is_written a.mode ≡ b → AllZip (IsShare p) (writes_of accesses) (map shared (written_arrays fs new)) → AllZip (IsShare p) (writes_of (a ∷ accesses)) (map shared (written_arrays (f ∷ fs) (t ∷ new)))
    by_written false e rest =
        subst (λ (l : List Array). AllZip (IsShare p) (writes_of (a ∷ accesses)) (map shared l)) (sym (written-suits f a.mode (and_parts (suits f a.mode) (all_suit fs (modes_in accesses)) h).0 e s t fs new k.0))
        (subst (λ b. AllZip (IsShare p) (cond b (a ∷ writes_of accesses) (writes_of accesses)) (map shared (written_arrays fs new))) (sym e) rest)
    by_written true e rest =
        let w : Writes s t f fs new = written-suits-too f a.mode (and_parts (suits f a.mode) (all_suit fs (modes_in accesses)) h).0 e s t fs new k.0 in
        let same : s.array.dims ≡ dims_of p a.cell = (cons_same s.array.dims (dims_of p a.cell) (all_dims old) (map (λ (b : Access). dims_of p b.cell) accesses) d).0 in
        let first : IsShare p a (shared t.array) = record { shared = refl; dims = w.dims ∙ same } in
        subst (λ (l : List Array). AllZip (IsShare p) (writes_of (a ∷ accesses)) (map shared l)) (sym w.first)
        (subst (λ b. AllZip (IsShare p) (cond b (a ∷ writes_of accesses) (writes_of accesses)) (shared t.array ∷ map shared (written_arrays fs new))) (sym e) (first, rest))

kept-length : (fs : List Formal) (old new : List Slot) → AllKeep fs old new → length fs ≡ length new
kept-length [] [] [] k = refl
kept-length [] [] (t ∷ new) k = absurd k
kept-length [] (s ∷ old) [] k = absurd k
kept-length [] (s ∷ old) (t ∷ new) k = absurd k
kept-length (f ∷ fs) [] [] k = absurd k
kept-length (f ∷ fs) [] (t ∷ new) k = absurd k
kept-length (f ∷ fs) (s ∷ old) [] k = absurd k
kept-length (f ∷ fs) (s ∷ old) (t ∷ new) k = ap suc (kept-length fs old new k.1)

shared-arrays : (xs : List Array) → arrays (map shared xs) ≡ xs
shared-arrays [] = refl
shared-arrays (x ∷ xs) = ap (λ l. x ∷ l) (shared-arrays xs)

shares-shared : (p : Program) (accesses : List Access) (slots : List Slot) → AllZip (IsShare p) accesses slots → All (λ s. s.owned ≡ false) slots
shares-shared p accesses slots h = λ k d i. at accesses slots h k d i
  where
    at : (accesses : List Access) (slots : List Slot) → AllZip (IsShare p) accesses slots → (k : ℕ) (d : Slot) → k < length slots → (slice_index_or slots k d).owned ≡ false
    at accesses [] h k d i = absurd (omega arith)
    at [] (s ∷ slots) h k d i = absurd h
    at (a ∷ accesses) (s ∷ slots) h zero d i = h.0.shared
    at (a ∷ accesses) (s ∷ slots) h (suc k) d i = at accesses slots h.1 k d (omega arith)

shares-length : (p : Program) (accesses : List Access) (slots : List Slot) → AllZip (IsShare p) accesses slots → length slots ≡ length accesses
shares-length p [] [] h = refl
shares-length p [] (s ∷ slots) h = absurd h
shares-length p (a ∷ accesses) [] h = absurd h
shares-length p (a ∷ accesses) (s ∷ slots) h = ap suc (shares-length p accesses slots h.1)

-- ---- a task

module _ (p : Program) (proper : Proper p) (t : Task) (inside : t.0 < length p.tasks) where
  abbrev the-fit : FitsCodelet p (task_of p t)
  the-fit = task-fits p proper t inside

  the-suit : all_suit (formals_of the-fit.kernel) (modes_in (task_of p t).accesses) ≡ true
  the-suit = modes-suit the-fit.kernel (modes_in (task_of p t).accesses) the-fit.modes

  the-formals : formals_in (task_of p t).codelet ≡ formals_of the-fit.kernel
  the-formals = ap (λ (o : Option Kernel). elim o as (λ _. List Formal) [ None ↦ [] | Some k ↦ formals_of k ]) the-fit.codelet

  module _ (taken : List Slot) (shares : AreSharesOf p t taken) where
    pub taken-shared : All (λ s. s.owned ≡ false) taken
    taken-shared = shares-shared p (read_operands p t) taken shares

    pub taken-count : length taken ≡ length (read_operands p t)
    taken-count = shares-length p (read_operands p t) taken shares

    pub frame-dims : all_dims (operands_from p (task_of p t).accesses (arrays taken)) ≡ map (λ (a : Access). dims_of p a.cell) (task_of p t).accesses
    frame-dims = dims-from p (task_of p t).accesses taken shares

    pub frame-ready : IsReadyFor (task_of p t).codelet (operands_from p (task_of p t).accesses (arrays taken))
    frame-ready = record {
      ready = subst (λ (fs : List Formal). AreReady fs (operands_from p (task_of p t).accesses (arrays taken))) (sym the-formals) (ready-from p (formals_of the-fit.kernel) (task_of p t).accesses (arrays taken) the-suit);
    }

    pub frame-fits : (has : Kernel → Bool) → IsLawful out has p → IsTrue (fits_in has (task_of p t).codelet (task_of p t).args (all_dims (operands_from p (task_of p t).accesses (arrays taken))))
    frame-fits has lawful =
        let l = task_of p t in
        let ds = all_dims (operands_from p l.accesses (arrays taken)) in
        let operands : fits the-fit.kernel l.args ds ≡ true = ap (fits the-fit.kernel l.args) frame-dims ∙ the-fit.operands in
        let known : is_known has l.codelet ≡ true = All-get_or (λ (m : Lowered). IsTrue (is_known has m.codelet)) p.tasks t.0 no_task inside lawful.known in
        let knows : has the-fit.kernel ≡ true = sym (ap (λ (o : Option Kernel). elim o as (λ _. Bool) [ None ↦ false | Some k ↦ has k ]) the-fit.codelet) ∙ known in
        ap (λ (o : Option Kernel). elim o as (λ _. Bool) [ None ↦ false | Some k ↦ has k && fits k l.args ds ]) the-fit.codelet ∙ ap (λ b. b && fits the-fit.kernel l.args ds) knows ∙ operands

    module _ (old new : Frame) (made : old.slots ≡ operands_from p (task_of p t).accesses (arrays taken)) (ran : IsRun (task_of p t).codelet (task_of p t).args old new) where
      pub ran-length : length (formals_in (task_of p t).codelet) ≡ length new.slots
      ran-length = kept-length (formals_in (task_of p t).codelet) old.slots new.slots ran.kept

      pub ran-dims : AllZip (IsShare p) (written_operands (task_of p t)) (map shared (written_arrays (formals_in (task_of p t).codelet) new.slots))
      ran-dims =
          let fs = formals_in (task_of p t).codelet in
          let suit : all_suit fs (modes_in (task_of p t).accesses) ≡ true = ap (λ (l : List Formal). all_suit l (modes_in (task_of p t).accesses)) the-formals ∙ the-suit in
          results-dims p fs (task_of p t).accesses old.slots new.slots suit (ap all_dims made ∙ frame-dims) ran.kept

      pub ran-results : (w : Worker) (held : Cell → Array) → arrays taken ≡ held_for p w held (read_operands p t) → arrays (map shared (written_arrays (formals_in (task_of p t).codelet) new.slots)) ≡ results out p t w held
      ran-results w held e =
          let l = task_of p t in
          shared-arrays (written_arrays (formals_in l.codelet) new.slots) ∙ ran.written
          ∙ ap (λ (ins : List Array). out l.codelet l.args ins) (ap arrays made ∙ ap (λ (xs : List Array). arrays (operands_from p l.accesses xs)) e ∙ arrays-from p w held l.accesses)

-- the same of the task as it is read
module _ (p : Program) (proper : Proper p) (t : Task) (inside : t.0 < length p.tasks) (taken : List Slot) (shares : AreSharesOf p t taken) (l : Lowered) (is : l ≡ task_of p t) (items : List Access) (at : items ≡ l.accesses) where
  pub compute-count : length taken ≡ length (reads_of items)
  compute-count = taken-count p proper t inside taken shares ∙ ap (λ (x : Lowered). length (reads_of x.accesses)) (sym is) ∙ ap (λ (xs : List Access). length (reads_of xs)) (sym at)

  module _ (old : Frame) (made : old.slots ≡ operands_from p items (arrays taken)) where
    its-slots : old.slots ≡ operands_from p (task_of p t).accesses (arrays taken)
    its-slots = made ∙ ap (λ (xs : List Access). operands_from p xs (arrays taken)) (at ∙ ap (λ (x : Lowered). x.accesses) is)

    pub compute-fits : (has : Kernel → Bool) → IsLawful out has p → IsTrue (fits_in has l.codelet l.args (all_dims old.slots))
    compute-fits has lawful =
        subst (λ (x : Lowered). IsTrue (fits_in has x.codelet x.args (all_dims old.slots))) (sym is)
        (subst (λ (xs : List Slot). IsTrue (fits_in has (task_of p t).codelet (task_of p t).args (all_dims xs))) (sym its-slots) (frame-fits p proper t inside taken shares has lawful))

    pub compute-ready : IsReadyFor l.codelet old.slots
    compute-ready =
        subst (λ (x : Lowered). IsReadyFor x.codelet old.slots) (sym is)
        (subst (λ (xs : List Slot). IsReadyFor (task_of p t).codelet xs) (sym its-slots) (frame-ready p proper t inside taken shares))

    module _ (new : Frame) (run : IsRun l.codelet l.args old new) where
      its-run : IsRun (task_of p t).codelet (task_of p t).args old new
      its-run = subst (λ (x : Lowered). IsRun x.codelet x.args old new) is run

      pub compute-length : length (formals_in l.codelet) ≡ length new.slots
      compute-length = ap (λ (x : Lowered). length (formals_in x.codelet)) is ∙ ran-length p proper t inside taken shares old new its-slots its-run

      module _ (f : Frame) (given : f.slots ≡ map shared (written_arrays (formals_in l.codelet) new.slots)) where
        its-given : f.slots ≡ map shared (written_arrays (formals_in (task_of p t).codelet) new.slots)
        its-given = given ∙ ap (λ (x : Lowered). map shared (written_arrays (formals_in x.codelet) new.slots)) is

        pub compute-dims : AllZip (IsShare p) (written_operands (task_of p t)) f.slots
        compute-dims = subst (λ (xs : List Slot). AllZip (IsShare p) (written_operands (task_of p t)) xs) (sym its-given) (ran-dims p proper t inside taken shares old new its-slots its-run)

        pub compute-results : (w : Worker) (held : Cell → Array) → arrays taken ≡ held_for p w held (read_operands p t) → arrays f.slots ≡ results out p t w held
        compute-results w held e = ap arrays its-given ∙ ran-results p proper t inside taken shares old new its-slots its-run w held e
