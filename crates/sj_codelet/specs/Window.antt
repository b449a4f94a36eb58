-- The window that the arguments of a paste name.
use Rattle.std.specs.Prelude.{ℕ, ℤ, List}
use Rattle.std.specs.Int.RustNames.{unsigned_abs}
use Rattle.sj_base.specs.Array.{at}
use Rattle.sj_codelet.specs.declared.window.Window.{Window}

-- an argument as a number of rows, columns or the like
abbrev pub count_at : List ℤ → ℕ → ℕ
count_at args n = unsigned_abs (at args n)

-- the window that six arguments name
abbrev pub window_of : List ℤ → Window
window_of args = record { old_row = count_at args 0; old_col = count_at args 1; new_row = count_at args 2; new_col = count_at args 3; rows = count_at args 4; cols = count_at args 5 }
