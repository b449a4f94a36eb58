-- The kernels of shortest ways on a task's frame.
use Rattle.std.proofs.Common.{◌≡◌, ℕ, true, ◌&&◌, nat_eq, List, [], ◌∷◌, ◌++◌, ℤ, length, get_or, refl, sym, ap, ◌∙◌, arith}
use Rattle.std.proofs.lemmas.Bool.Decides.{nat_tests}
use Rattle.sj_base.specs.declared.tile.Dims.{Dims}
use Rattle.sj_base.specs.Array.{Array, array}
use Rattle.sj_base.specs.Lending.{written_over}
use Rattle.sj_codelet.specs.declared.kernel.Kernel.{Kernel}
use Rattle.sj_codelet.specs.declared.kernel.Kernel.TheVariants.{FwDiag, FwRow, FwCol}
use Rattle.sj_codelet.specs.Frame.{Slot, own, arrays, all_dims}
use Rattle.sj_codelet.specs.Kernel.{dims_at, is_square, new_arrays, operand}
use Rattle.sj_codelet.specs.Equations.{fwdiag, fwrow, fwcol, matrix}
use Rattle.sj_codelet.proofs.Operands.{dims_go, dims_at-all_dims, with_all}
use Rattle.sj_kernels.specs.Last.{CanWriteLast, WritesLast}
use Rattle.sj_kernels.proofs.Last.{ready_of, read_before, last_itself, written_as}
use Rattle.sj_minplus.specs.Turns.{diagonal_turn, row_turn, column_turn}
use Rattle.sj_minplus.proofs.Turns.{dims-after_turns}

-- a kernel whose last operand ends as `made`
block_written : (k' k : Kernel) → k' ≡ k → (args : List ℤ) (before : List Slot) (y made : Array) (xs : List ℤ) → length xs ≡ length y.elements → made.dims ≡ y.dims → xs ≡ made.elements → new_arrays k args (arrays (before ++ own y ∷ [])) ≡ made ∷ [] → WritesLast k' args before y (written_over y xs)
block_written k' k is args before y made xs long d x o =
    written_as k' k is args before y (written_over y xs) made o (with_all y xs long ∙ ap (array y.dims) x ∙ ap (λ q. array q made.elements) (sym d)) refl

matrix_is : (x : Array) (m n : ℕ) (xs : List ℤ) → m ≡ x.dims.rows → n ≡ x.dims.cols → xs ≡ x.elements → matrix m n xs ≡ x
matrix_is x m n xs r c e =
    ap (λ q. matrix q n xs) r ∙ ap (λ q. matrix x.dims.rows q xs) c ∙ ap (matrix x.dims.rows x.dims.cols) e

square_rows : (d : Dims) → is_square d ≡ true → d.rows ≡ d.cols
square_rows d h = grind (arith, nat_tests)

pub fwdiag_written : (k : Kernel) → k ≡ FwDiag → (args : List ℤ) (before : List Slot) (y : Array) (n : ℕ) (ys xs : List ℤ) → CanWriteLast k args before y → n ≡ y.dims.rows → ys ≡ y.elements → length xs ≡ length ys → xs ≡ (fwdiag (matrix n n ys)).elements → WritesLast k args before y (written_over y xs)
fwdiag_written k k_is args before y n ys xs r rows whole long x =
    let slots = before ++ own y ∷ [] in
    let ready = ready_of k FwDiag k_is args before y r in
    let last = last_itself FwDiag args before y ready 0 refl in
    let fits = dims_go FwDiag args slots ready.ready in
    let d : dims_at (all_dims slots) 0 ≡ y.dims = dims_at-all_dims slots 0 ∙ ap (λ a. a.dims) last in
    let square : y.dims.rows ≡ y.dims.cols = square_rows y.dims (ap is_square (sym d) ∙ fits) in
    let is : matrix n n ys ≡ y = matrix_is y n n ys rows (rows ∙ square) whole in
    block_written k FwDiag k_is args before y (fwdiag y) xs (long ∙ ap length whole) (dims-after_turns diagonal_turn (λ k a. refl) y.dims.rows y) (x ∙ ap (λ a. (fwdiag a).elements) is) (ap (λ a. fwdiag a ∷ []) last)

-- a square block d beside y, by their dimensions
record IsBeside (d : Dims) (n : ℕ) : Type 0 where
  pub rows : n ≡ d.rows
  pub cols : n ≡ d.cols

beside_row : (d e : Dims) → (is_square d && nat_eq d.cols e.rows) ≡ true → IsBeside d e.rows
beside_row d e h = record { rows = grind (arith, nat_tests); cols = grind (arith, nat_tests) }

beside_col : (d e : Dims) → (is_square d && nat_eq e.cols d.rows) ≡ true → IsBeside d e.cols
beside_col d e h = record { rows = grind (arith, nat_tests); cols = grind (arith, nat_tests) }

pub fwrow_written : (k : Kernel) → k ≡ FwRow → (args : List ℤ) (before : List Slot) (b y : Array) (n m : ℕ) (bs ys xs : List ℤ) → CanWriteLast k args before y → b ≡ (get_or before 0 (own b)).array → n ≡ y.dims.rows → m ≡ y.dims.cols → bs ≡ b.elements → ys ≡ y.elements → length xs ≡ length ys → xs ≡ (fwrow (matrix n n bs) (matrix n m ys)).elements → WritesLast k args before y (written_over y xs)
fwrow_written k k_is args before b y n m bs ys xs r read rows cols whole_b whole long x =
    let slots = before ++ own y ∷ [] in
    let ready = ready_of k FwRow k_is args before y r in
    let last = last_itself FwRow args before y ready 1 refl in
    let block = read_before FwRow args before y ready 0 b (omega arith) read in
    let fits = dims_go FwRow args slots ready.ready in
    let d : dims_at (all_dims slots) 0 ≡ b.dims = dims_at-all_dims slots 0 ∙ ap (λ a. a.dims) (sym block) in
    let f : dims_at (all_dims slots) 1 ≡ y.dims = dims_at-all_dims slots 1 ∙ ap (λ a. a.dims) last in
    let beside : IsBeside b.dims y.dims.rows = beside_row b.dims y.dims (ap (λ q. is_square q && nat_eq q.cols y.dims.rows) (sym d) ∙ ap (λ q. is_square (dims_at (all_dims slots) 0) && nat_eq (dims_at (all_dims slots) 0).cols q.rows) (sym f) ∙ fits) in
    let b_is : matrix n n bs ≡ b = matrix_is b n n bs (rows ∙ beside.rows) (rows ∙ beside.cols) whole_b in
    let y_is : matrix n m ys ≡ y = matrix_is y n m ys rows cols whole in
    block_written k FwRow k_is args before y (fwrow b y) xs (long ∙ ap length whole) (dims-after_turns (row_turn b) (λ k a. refl) b.dims.rows y) (x ∙ ap (λ a. (fwrow a (matrix n m ys)).elements) b_is ∙ ap (λ a. (fwrow b a).elements) y_is) (ap (λ a. fwrow a (operand (arrays slots) 1) ∷ []) (sym block) ∙ ap (λ a. fwrow b a ∷ []) last)

pub fwcol_written : (k : Kernel) → k ≡ FwCol → (args : List ℤ) (before : List Slot) (b y : Array) (n m : ℕ) (bs ys xs : List ℤ) → CanWriteLast k args before y → b ≡ (get_or before 0 (own b)).array → n ≡ y.dims.cols → m ≡ y.dims.rows → bs ≡ b.elements → ys ≡ y.elements → length xs ≡ length ys → xs ≡ (fwcol (matrix n n bs) (matrix m n ys)).elements → WritesLast k args before y (written_over y xs)
fwcol_written k k_is args before b y n m bs ys xs r read cols rows whole_b whole long x =
    let slots = before ++ own y ∷ [] in
    let ready = ready_of k FwCol k_is args before y r in
    let last = last_itself FwCol args before y ready 1 refl in
    let block = read_before FwCol args before y ready 0 b (omega arith) read in
    let fits = dims_go FwCol args slots ready.ready in
    let d : dims_at (all_dims slots) 0 ≡ b.dims = dims_at-all_dims slots 0 ∙ ap (λ a. a.dims) (sym block) in
    let f : dims_at (all_dims slots) 1 ≡ y.dims = dims_at-all_dims slots 1 ∙ ap (λ a. a.dims) last in
    let beside : IsBeside b.dims y.dims.cols = beside_col b.dims y.dims (ap (λ q. is_square q && nat_eq y.dims.cols q.rows) (sym d) ∙ ap (λ q. is_square (dims_at (all_dims slots) 0) && nat_eq q.cols (dims_at (all_dims slots) 0).rows) (sym f) ∙ fits) in
    let b_is : matrix n n bs ≡ b = matrix_is b n n bs (cols ∙ beside.rows) (cols ∙ beside.cols) whole_b in
    let y_is : matrix m n ys ≡ y = matrix_is y m n ys rows cols whole in
    block_written k FwCol k_is args before y (fwcol b y) xs (long ∙ ap length whole) (dims-after_turns (column_turn b) (λ k a. refl) b.dims.rows y) (x ∙ ap (λ a. (fwcol a (matrix m n ys)).elements) b_is ∙ ap (λ a. (fwcol b a).elements) y_is) (ap (λ a. fwcol a (operand (arrays slots) 1) ∷ []) (sym block) ∙ ap (λ a. fwcol b a ∷ []) last)
