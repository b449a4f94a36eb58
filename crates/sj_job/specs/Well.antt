-- Statements that lines may say without complaint, one after another.
use Rattle.std.specs.Prelude.{◌≡◌, ℕ, ◌+◌, Bool, Ok, List, [], ◌∷◌}
use Rattle.sj_codelet.specs.declared.kernel.Kernel.{Kernel}
use Rattle.sj_job.specs.declared.form.Form.{Form}
use Rattle.sj_meaning.specs.Act.{Act, Statement}
use Rattle.sj_job.specs.Sentence.{said}
use Rattle.sj_meaning.specs.State.{JobState}
use Rattle.sj_meaning.specs.Meaning.{apply}
use Rattle.sj_job.specs.Judge.{Scope, scope_of, judged}

-- words say this act, and no reason stands against it
pub record IsAllowed (has : Kernel → Bool) (scope : Scope) (act : Act (List ℕ)) : Type 0 where
  pub words : List (List ℕ)
  pub form : Form
  pub spelled : said words ≡ Ok form
  pub judged : judged has scope form ≡ Ok act

-- each statement is allowed in the state that those before it leave, of which k stand before the first
abbrev pub IsWell : (Kernel → Bool) → ℕ → JobState → List (Statement (List ℕ)) → Type 0
IsWell has k S [] = Unit {0}
IsWell has k S (s ∷ ss) = IsAllowed has (scope_of k S) s.act × IsWell has (k + 1) (apply s.act S) ss
