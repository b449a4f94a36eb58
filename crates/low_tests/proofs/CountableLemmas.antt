-- Programs that pass the test.
use Rattle.std.proofs.Common.{◌≡◌, ℕ, ◌<◌, ◌≤◌, length, refl, subst}
use Rattle.sj_base.specs.declared.program.Program.{Program}
use Rattle.sj_deps.specs.declared.manner.Usage.{Usage}
use Rattle.sj_deps.specs.Conflict.{HasDependencies, usage, usages}
use Rattle.low_tests.specs.Countable.{Agrees, IsCountable}
use Rattle.sj_deps.proofs.Starting.{Uses-task}

pub HasDependencies-from : (P : Program) → length P.tasks ≤ 4194304 → ((t : ℕ) → t < length P.tasks → IsCountable P t) → HasDependencies P
HasDependencies-from P few each = record {
  tasks = few;
  cells = λ t c m uses. subst (λ (u : Usage). u.cell < length P.cells) uses.2 ((each t (Uses-task P t c m uses)).cells uses.0 (usage m c) uses.1);
  manners = λ t c m n a b.
      let all : Agrees (usages P t) (usage n c) = subst (Agrees (usages P t)) b.2 ((each t (Uses-task P t c n b)).manners b.0 (usage n c) b.1) in
      subst (λ (u : Usage). u.cell ≡ c → u.manner ≡ n) a.2 (all a.0 (usage m c) a.1) refl;
}
