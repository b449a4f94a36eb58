-- Words of programs and jobs: integers, codelets with their arguments, and the line that words make.
use Rattle.std.specs.Prelude.{ℕ, ℤ, Some, None, unwrap_or, List, [], ◌∷◌, ◌++◌, map, flat_map, codes, decimal, if◌then◌else◌}
use Rattle.std.specs.Fmt.{signed_decimal}
use Rattle.std.specs.List.{join_with_byte}
use Rattle.sj_base.specs.declared.program.Codelet.{Codelet}
use Rattle.sj_codelet.specs.Kernel.{kernel_of, kernel_name}
use Rattle.sj_codelet.specs.MinPlus.{is_inf}
use Rattle.sj_codelet.specs.declared.kernel.Kernel.{Kernel}
use Rattle.sj_codelet.specs.declared.kernel.Kernel.TheVariants.{Load, LoadFill, Paste, Deliver, InitPlus, InitLeast}
use Rattle.sj_job.specs.Grammar.{bracketed_word}

-- decimal, or `inf`
abbrev pub integer_word : ℤ → List ℕ
integer_word z = if is_inf z then codes "inf" else signed_decimal z

-- the name of a codelet that no job calls
abbrev pub inner_word : Kernel → List ℕ
inner_word Load = codes "load"
inner_word LoadFill = codes "loadfill"
inner_word Paste = codes "paste"
inner_word Deliver = codes "deliver"
inner_word InitPlus = codes "init_plus"
inner_word InitLeast = codes "init_least"
inner_word k = []

-- the name by which a job calls a codelet, else that one
abbrev pub kernel_word : Kernel → List ℕ
kernel_word k = unwrap_or (kernel_name k) (inner_word k)

-- the same of an id; the number of one that no codelet has
abbrev pub codelet_name : Codelet → List ℕ
codelet_name id = elim (kernel_of id) [ None ↦ decimal id.0 | Some k ↦ kernel_word k ]

-- a word with arguments: `WORD`, or `WORD(I1,I2,..)`
abbrev pub word_with : List ℕ → List ℤ → List ℕ
word_with name args = bracketed_word 40 41 name (map integer_word args)

-- words, each behind a space
abbrev pub spaced : List (List ℕ) → List ℕ
spaced = flat_map (λ w. 32 ∷ w)

-- words with one space between them, and LF
abbrev pub line_of_words : List (List ℕ) → List ℕ
line_of_words ws = join_with_byte 32 ws ++ codes "\n"
