-- The text of the printed arrays, or a line of each.
use Rattle.std.specs.Prelude.{ℕ, Bool, ◌*◌, ℤ, List, ◌++◌, map, take, drop, codes, decimal, flat_map, if◌then◌else◌}
use Rattle.std.specs.List.{join_with_byte, range_with_len}
use Rattle.std.specs.Fmt.{signed_decimal}
use Rattle.sj_apps.specs.Summary.{summary_line}
use Rattle.sj_base.specs.Array.{Array}
use Rattle.sj_codelet.specs.MinPlus.{is_inf}
use Rattle.sj_meaning.specs.declared.job.Kind.{Kind}
use Rattle.sj_meaning.specs.declared.job.Kind.TheVariants.{Vector, Matrix}
use Rattle.sj_meaning.specs.Meaning.{Printed}

-- an element: decimal, or `inf`
abbrev pub element_text : ℤ → List ℕ
element_text z = if is_inf z then codes "inf" else signed_decimal z

-- elements separated by one space, and LF
abbrev pub row_text : List ℤ → List ℕ
row_text xs = join_with_byte 32 (map element_text xs) ++ codes "\n"

-- the rows of an array
abbrev pub printed_rows : Array → List (List ℤ)
printed_rows a = map (λ i. take a.dims.cols (drop (i * a.dims.cols) a.elements)) (range_with_len 0 a.dims.rows)

-- a vector gives `NAME: ` and its elements; a matrix `NAME R C:` and one line per row
abbrev pub block_text : Kind → List ℕ → Array → List ℕ
block_text Vector name a = name ++ codes ": " ++ row_text a.elements
block_text Matrix name a =
    name ++ codes " " ++ decimal a.dims.rows ++ codes " " ++ decimal a.dims.cols ++ codes ":\n"
    ++ flat_map row_text (printed_rows a)

-- what is written for what a print statement finds: where a summary is asked for, one line of the array
abbrev pub printed_block : Bool → Printed → List ℕ
printed_block summary p = if summary then summary_line p.name p.array else block_text p.kind p.name p.array

-- what is written for the arrays that a job prints, in order
abbrev pub output : Bool → List Printed → List ℕ
output summary ps = flat_map (printed_block summary) ps
