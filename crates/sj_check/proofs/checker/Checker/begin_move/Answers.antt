use Rattle.sj_check.proofs.Words.{refl}
use Rattle.sj_check.proofs.Keeping.{watches-still}
use Rattle.sj_check.proofs.checker.Checker.begin_move.Goals as goal

pub invariant_of-self : goal.invariant_of-self
invariant_of-self c = watches-still c.self.inside.rows c.self.inside.homes.items c.self.inside.tasks.items c.self.inside.deps c.self.invariant c.begin_move.new.self _ c.begin_move.ensures refl
