-- Which codelets the set of ring arithmetic has.
use Rattle.std.specs.Prelude.{Bool, not}
use Rattle.sj_codelet.specs.declared.kernel.Kernel.{Kernel}
use Rattle.sj_codelet.specs.Kernel.{is_min_plus}

-- all of the table but the codelets of min-plus
abbrev pub ring_has : Kernel → Bool
ring_has k = not (is_min_plus k)
