-- The table of codelets: for each its name, arguments, formals, dimensions and new elements. A codelet's id is its place.
use Rattle.std.specs.Prelude.{ℕ, ◌+◌, Bool, true, false, ◌&&◌, nat_eq, nat_le, Option, Some, None, List, [], ◌∷◌, ℤ, pos, length, codes, slice_get, find, option_map, if◌then◌else◌}
use Rattle.std.specs.List.{slice_index_or, list_all}
use Rattle.std.specs.Str.{bytes_eq}
use Rattle.std.specs.Int.RustNames.{int_le}
use Rattle.sj_base.specs.declared.tile.Dims.{Dims}
use Rattle.sj_base.specs.declared.program.Codelet.{Codelet}
use Rattle.sj_base.specs.declared.mode.Reduction.{Reduction}
use Rattle.sj_base.specs.declared.mode.Reduction.TheVariants.{Plus, Least}
use Rattle.sj_base.specs.Array.{Array, array, area, at, zeros}
use Rattle.sj_codelet.specs.declared.kernel.Kernel.{Kernel}
use Rattle.sj_codelet.specs.declared.kernel.Kernel.TheVariants.{Fill, Copy, Scale, Add, Axpy, Butterfly, Gemm, GemmThree, Transpose, Dot, Sum, Lowest, MinGemm, FwDiag, FwRow, FwCol, Load, LoadFill, Paste, Deliver, InitPlus, InitLeast}
use Rattle.sj_codelet.specs.declared.formal.Formal.{Formal}
use Rattle.sj_codelet.specs.declared.formal.Formal.TheVariants.{R, W, RW, Scratch}
use Rattle.sj_codelet.specs.Equations.{fill, scale, add, subtract, axpy, gemm, gemm3, transpose, dot, sum, lowest, mingemm, fwdiag, fwrow, fwcol, loadfill, paste, all_inf}
use Rattle.sj_codelet.specs.Window.{count_at, window_of}

-- the codelets in the order of their ids
abbrev pub kernels : List Kernel
kernels = Fill ∷ Copy ∷ Scale ∷ Add ∷ Axpy ∷ Butterfly ∷ Gemm ∷ GemmThree ∷ Transpose ∷ Dot ∷ Sum ∷ Lowest ∷ MinGemm ∷ FwDiag ∷ FwRow ∷ FwCol ∷ Load ∷ LoadFill ∷ Paste ∷ Deliver ∷ InitPlus ∷ InitLeast ∷ []

-- the codelet of an id
abbrev pub kernel_of : Codelet → Option Kernel
kernel_of id = slice_get kernels id.0

-- the id of a codelet
abbrev pub id_of : Kernel → ℕ
id_of Fill = 0
id_of Copy = 1
id_of Scale = 2
id_of Add = 3
id_of Axpy = 4
id_of Butterfly = 5
id_of Gemm = 6
id_of GemmThree = 7
id_of Transpose = 8
id_of Dot = 9
id_of Sum = 10
id_of Lowest = 11
id_of MinGemm = 12
id_of FwDiag = 13
id_of FwRow = 14
id_of FwCol = 15
id_of Load = 16
id_of LoadFill = 17
id_of Paste = 18
id_of Deliver = 19
id_of InitPlus = 20
id_of InitLeast = 21

abbrev pub codelet_of : Kernel → Codelet
codelet_of k = record { 0 = id_of k }

-- the name by which a job calls it; the runtime's own codelets have none
abbrev pub kernel_name : Kernel → Option (List ℕ)
kernel_name Fill = Some (codes "fill")
kernel_name Copy = Some (codes "copy")
kernel_name Scale = Some (codes "scale")
kernel_name Add = Some (codes "add")
kernel_name Axpy = Some (codes "axpy")
kernel_name Butterfly = Some (codes "butterfly")
kernel_name Gemm = Some (codes "gemm")
kernel_name GemmThree = Some (codes "gemm3")
kernel_name Transpose = Some (codes "transpose")
kernel_name Dot = Some (codes "dot")
kernel_name Sum = Some (codes "sum")
kernel_name Lowest = Some (codes "lowest")
kernel_name MinGemm = Some (codes "mingemm")
kernel_name FwDiag = Some (codes "fwdiag")
kernel_name FwRow = Some (codes "fwrow")
kernel_name FwCol = Some (codes "fwcol")
kernel_name Load = None
kernel_name LoadFill = None
kernel_name Paste = None
kernel_name Deliver = None
kernel_name InitPlus = None
kernel_name InitLeast = None

abbrev pub has_name : List ℕ → Kernel → Bool
has_name name k = elim (kernel_name k) [ None ↦ false | Some own ↦ bytes_eq own name ]

-- the codelet of that name in a set that knows these
abbrev pub named_in : (Kernel → Bool) → List ℕ → Option Codelet
named_in knows name = option_map codelet_of (find (λ k. knows k && has_name name k) kernels)

-- how many arguments; `load` has as many as its operand has elements, which isn't counted here
abbrev pub arguments_of : Kernel → ℕ
arguments_of Fill = 2
arguments_of Scale = 1
arguments_of Axpy = 1
arguments_of LoadFill = 5
arguments_of Paste = 6
arguments_of _ = 0

-- the modes of the operands in order
abbrev pub formals_of : Kernel → List Formal
formals_of Fill = W ∷ []
formals_of Copy = R ∷ W ∷ []
formals_of Scale = RW ∷ []
formals_of Add = R ∷ RW ∷ []
formals_of Axpy = R ∷ RW ∷ []
formals_of Butterfly = RW ∷ RW ∷ []
formals_of Gemm = R ∷ R ∷ RW ∷ []
formals_of GemmThree = R ∷ R ∷ R ∷ Scratch ∷ RW ∷ []
formals_of Transpose = R ∷ W ∷ []
formals_of Dot = R ∷ R ∷ RW ∷ []
formals_of Sum = R ∷ RW ∷ []
formals_of Lowest = R ∷ RW ∷ []
formals_of MinGemm = R ∷ R ∷ RW ∷ []
formals_of FwDiag = RW ∷ []
formals_of FwRow = R ∷ RW ∷ []
formals_of FwCol = R ∷ RW ∷ []
formals_of Load = W ∷ []
formals_of LoadFill = W ∷ []
formals_of Paste = R ∷ RW ∷ []
formals_of Deliver = R ∷ []
formals_of InitPlus = W ∷ []
formals_of InitLeast = W ∷ []

-- the dimensions of an operand
abbrev pub dims_at : List Dims → ℕ → Dims
dims_at ds n = slice_index_or ds n (record { rows = 0; cols = 0 })

abbrev pub same : Dims → Dims → Bool
same d e = nat_eq d.rows e.rows && nat_eq d.cols e.cols

abbrev pub is_single : Dims → Bool
is_single d = nat_eq d.rows 1 && nat_eq d.cols 1

abbrev pub is_square : Dims → Bool
is_square d = nat_eq d.rows d.cols

-- b may be multiplied to the right of a, and c is as large as the product
abbrev pub multiply : Dims → Dims → Dims → Bool
multiply a b c = nat_eq a.cols b.rows && nat_eq a.rows c.rows && nat_eq b.cols c.cols

abbrev pub is_transposed : Dims → Dims → Bool
is_transposed d e = nat_eq d.rows e.cols && nat_eq d.cols e.rows

-- a window of so many rows and columns from (row, col) on lies in an array of these dimensions
abbrev pub lies_in : ℕ → ℕ → ℕ → ℕ → Dims → Bool
lies_in row col rows cols d = nat_le (row + rows) d.rows && nat_le (col + cols) d.cols

-- no argument is negative, and the window that they name lies in both arrays
abbrev pub window_fits : List ℤ → Dims → Dims → Bool
window_fits args old new =
    list_all (int_le (pos 0)) args && lies_in (count_at args 0) (count_at args 1) (count_at args 4) (count_at args 5) old
    && lies_in (count_at args 2) (count_at args 3) (count_at args 4) (count_at args 5) new

-- the operands, as many as the formals, have dimensions that go together
abbrev pub dims_fit : Kernel → List ℤ → List Dims → Bool
dims_fit Copy args ds = same (dims_at ds 0) (dims_at ds 1)
dims_fit Add args ds = same (dims_at ds 0) (dims_at ds 1)
dims_fit Axpy args ds = same (dims_at ds 0) (dims_at ds 1)
dims_fit Butterfly args ds = same (dims_at ds 0) (dims_at ds 1)
dims_fit Lowest args ds = same (dims_at ds 0) (dims_at ds 1)
dims_fit Gemm args ds = multiply (dims_at ds 0) (dims_at ds 1) (dims_at ds 2)
dims_fit MinGemm args ds = multiply (dims_at ds 0) (dims_at ds 1) (dims_at ds 2)
dims_fit GemmThree args ds = multiply (dims_at ds 0) (dims_at ds 1) (dims_at ds 3) && multiply (dims_at ds 3) (dims_at ds 2) (dims_at ds 4)
dims_fit Transpose args ds = is_transposed (dims_at ds 0) (dims_at ds 1)
dims_fit Dot args ds = same (dims_at ds 0) (dims_at ds 1) && is_single (dims_at ds 2)
dims_fit Sum args ds = is_single (dims_at ds 1)
dims_fit FwDiag args ds = is_square (dims_at ds 0)
dims_fit FwRow args ds = is_square (dims_at ds 0) && nat_eq (dims_at ds 0).cols (dims_at ds 1).rows
dims_fit FwCol args ds = is_square (dims_at ds 0) && nat_eq (dims_at ds 1).cols (dims_at ds 0).rows
dims_fit Paste args ds = window_fits args (dims_at ds 0) (dims_at ds 1)
dims_fit _ args ds = true

-- the number of arguments is the codelet's
abbrev pub arguments_fit : Kernel → List ℤ → List Dims → Bool
arguments_fit Load args ds = nat_eq (length args) (area (dims_at ds 0))
arguments_fit k args ds = nat_eq (length args) (arguments_of k)

-- arguments and operands are as many as the codelet has, and their dimensions go together
abbrev pub fits : Kernel → List ℤ → List Dims → Bool
fits k args ds = nat_eq (length ds) (length (formals_of k)) && arguments_fit k args ds && dims_fit k args ds

-- the same of an id in a set that knows these codelets
abbrev pub fits_in : (Kernel → Bool) → Codelet → List ℤ → List Dims → Bool
fits_in knows id args ds = elim (kernel_of id) [ None ↦ false | Some k ↦ knows k && fits k args ds ]

-- an operand among the arrays that a task sees
abbrev pub operand : List Array → ℕ → Array
operand ins n = slice_index_or ins n (array (record { rows = 0; cols = 0 }) [])

-- the new arrays of the written operands in order, from the arguments and all operands as the task sees them
abbrev pub new_arrays : Kernel → List ℤ → List Array → List Array
new_arrays Fill args ins = fill (at args 0) (at args 1) (operand ins 0) ∷ []
new_arrays Copy args ins = operand ins 0 ∷ []
new_arrays Scale args ins = scale (at args 0) (operand ins 0) ∷ []
new_arrays Add args ins = add (operand ins 0) (operand ins 1) ∷ []
new_arrays Axpy args ins = axpy (at args 0) (operand ins 0) (operand ins 1) ∷ []
new_arrays Butterfly args ins = add (operand ins 1) (operand ins 0) ∷ subtract (operand ins 1) (operand ins 0) ∷ []
new_arrays Gemm args ins = gemm (operand ins 0) (operand ins 1) (operand ins 2) ∷ []
new_arrays GemmThree args ins = gemm3 (operand ins 0) (operand ins 1) (operand ins 2) (operand ins 4) ∷ []
new_arrays Transpose args ins = transpose (operand ins 0) (operand ins 1) ∷ []
new_arrays Dot args ins = dot (operand ins 0) (operand ins 1) (operand ins 2) ∷ []
new_arrays Sum args ins = sum (operand ins 0) (operand ins 1) ∷ []
new_arrays Lowest args ins = lowest (operand ins 0) (operand ins 1) ∷ []
new_arrays MinGemm args ins = mingemm (operand ins 0) (operand ins 1) (operand ins 2) ∷ []
new_arrays FwDiag args ins = fwdiag (operand ins 0) ∷ []
new_arrays FwRow args ins = fwrow (operand ins 0) (operand ins 1) ∷ []
new_arrays FwCol args ins = fwcol (operand ins 0) (operand ins 1) ∷ []
new_arrays Load args ins = array (operand ins 0).dims args ∷ []
new_arrays LoadFill args ins =
    loadfill (at args 0) (at args 1) (at args 2) (at args 3) (at args 4) (operand ins 0) ∷ []
new_arrays Paste args ins = paste (window_of args) (operand ins 0) (operand ins 1) ∷ []
new_arrays Deliver args ins = []
new_arrays InitPlus args ins = zeros (operand ins 0).dims ∷ []
new_arrays InitLeast args ins = all_inf (operand ins 0).dims ∷ []

-- the equations of codelets: the new arrays of each, by its id, from its arguments and the arrays of its operands
abbrev pub Equations : Type 0
Equations = Codelet → List ℤ → List Array → List Array

-- those of the table
abbrev pub out : Equations
out id args ins = elim (kernel_of id) [ None ↦ [] | Some k ↦ new_arrays k args ins ]

-- the name of an id in a set that has these codelets
abbrev pub name_in : (Kernel → Bool) → Codelet → Option (List ℕ)
name_in has id = elim (kernel_of id) [ None ↦ None | Some k ↦ if has k then kernel_name k else None ]

-- it is one of min-plus: the others are of ring arithmetic, or move elements as they are
abbrev pub is_min_plus : Kernel → Bool
is_min_plus Lowest = true
is_min_plus MinGemm = true
is_min_plus FwDiag = true
is_min_plus FwRow = true
is_min_plus FwCol = true
is_min_plus InitLeast = true
is_min_plus _ = false

-- two runs of it on one array may change places
abbrev pub commutes_of : Kernel → Bool
commutes_of Scale = true
commutes_of Add = true
commutes_of Axpy = true
commutes_of Gemm = true
commutes_of GemmThree = true
commutes_of Dot = true
commutes_of Sum = true
commutes_of Lowest = true
commutes_of MinGemm = true
commutes_of _ = false

-- a run of it adds a contribution to what the reduction combines
abbrev pub contributes_of : Kernel → Reduction → Bool
contributes_of Add Plus = true
contributes_of Axpy Plus = true
contributes_of Gemm Plus = true
contributes_of GemmThree Plus = true
contributes_of Dot Plus = true
contributes_of Sum Plus = true
contributes_of Lowest Least = true
contributes_of MinGemm Least = true
contributes_of _ _ = false

-- the codelet that makes a reduction's unit
abbrev pub init_of : Reduction → Kernel
init_of Plus = InitPlus
init_of Least = InitLeast

-- the codelet that combines a partial copy into another
abbrev pub combine_of : Reduction → Kernel
combine_of Plus = Add
combine_of Least = Lowest

-- a set that has these codelets has the reduction
abbrev pub has_reduction : (Kernel → Bool) → Reduction → Bool
has_reduction has by = has (init_of by) && has (combine_of by)

-- the two columns of an id in such a set
abbrev pub commutes_in : (Kernel → Bool) → Codelet → Bool
commutes_in has id = elim (kernel_of id) [ None ↦ false | Some k ↦ has k && commutes_of k ]

abbrev pub contributes_in : (Kernel → Bool) → Codelet → Reduction → Bool
contributes_in has id by =
    elim (kernel_of id) [ None ↦ false | Some k ↦ has k && contributes_of k by && has_reduction has by ]
