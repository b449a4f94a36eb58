use Rattle.std.proofs.Common.{arith, length, subst, sym, ◌≤◌, ◌^◌}
use Rattle.sj_base.specs.declared.program.Program.{Program}
use Rattle.sj_engine.proofs.dealing.deal_first.Goals as goal

pub overflow_cast-count : goal.overflow_cast-count
overflow_cast-count g c =
    let few = subst (λ (p : Program). length p.tasks ≤ 2 ^ 22) (sym c.program.ensures) c.requires.few in
    omega (arith, few)

pub overflow_add-dealt : goal.overflow_add-dealt
overflow_add-dealt g c = omega (arith, c.loop-i.invariant.dealt)
