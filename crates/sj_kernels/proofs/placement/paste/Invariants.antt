use Rattle.std.proofs.Common.{◌≡◌}
use Rattle.sj_base.specs.Array.{array}
use Rattle.sj_codelet.specs.Equations.{paste}
use Rattle.sj_kernels.proofs.placement.paste.Given as goal

-- the first i rows of the window are there
abbrev pub invariant-loop-i : goal.invariant-loop-i
invariant-loop-i l = l.new ≡ (paste (record l.fn.window { rows = l.i }) (array l.fn.old_dims l.old) (array l.fn.new_dims l.initial.new)).elements
