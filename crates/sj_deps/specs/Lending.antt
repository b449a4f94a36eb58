-- What a `Deps` ends as while the answers of `done` are lent.
use Rattle.std.specs.Prelude.{◌≡◌, ℕ, ⊤}
use Rattle.std.specs.Borrow.{MutBor, Fml, follows_so}
use mathlib.Core.Option.{none}
use Rattle.sj_deps.specs.Progress.{Dependencies, after_done}
use Rattle.sj_deps.specs.contracts.deps.Deps.{the_row}

-- the task is done in the end
abbrev pub EndsAfter : MutBor Dependencies → ℕ → Fml
EndsAfter s t = follows_so the_row the_row s.ghost_name none (λ _ _. ⊤) (λ p. p ≡ after_done s.now t)
