-- Which codelets the whole library has.
use Rattle.std.specs.Prelude.{Bool, true}
use Rattle.sj_codelet.specs.declared.kernel.Kernel.{Kernel}

-- every codelet of the table
abbrev pub library_has : Kernel → Bool
library_has k = true
