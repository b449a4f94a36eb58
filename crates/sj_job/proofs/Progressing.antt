-- A text read one line further.
use Rattle.std.proofs.Common.{◌≡◌, ℕ, ◌+◌, Bool, List, [], ◌∷◌, ◌++◌, length, refl, ap, ◌∙◌, sym, Result, Ok, Err, append_assoc, length-append}
use Rattle.sj_codelet.specs.declared.kernel.Kernel.{Kernel}
use Rattle.sj_meaning.specs.Act.{Act}
use Rattle.sj_meaning.specs.Act.{Statement}
use Rattle.sj_job.specs.declared.reason.Reason.{Reason}
use Rattle.sj_job.specs.Verdict.{Verdict}
use Rattle.sj_job.specs.Verdict.{Skipped, Does, Bad}
use Rattle.sj_meaning.specs.State.{JobState, start}
use Rattle.sj_meaning.specs.Meaning.{apply, run_from}
use Rattle.sj_job.specs.Judge.{scope_of}
use Rattle.sj_job.specs.Reading.{Refusal, refusal, statement, before, reading, verdict_of}
use Rattle.sj_job.specs.Progress.{followed_by, text_with}

pub run_from-push : (S : JobState) (ss : List (Statement (List ℕ))) (s : Statement (List ℕ)) → run_from S (ss ++ s ∷ []) ≡ apply s.act (run_from S ss)
run_from-push S [] s = refl
run_from-push S (t ∷ ts) s = run_from-push (apply t.act S) ts s

pub followed_by-push : (ss : List (Statement (List ℕ))) (s : Statement (List ℕ)) (r : Result (List (Statement (List ℕ))) Refusal) → followed_by (ss ++ s ∷ []) r ≡ followed_by ss (before s r)
followed_by-push ss s (Ok more) = ap Ok (append_assoc ss (s ∷ []) more)
followed_by-push ss s (Err e) = refl

by_verdict : (has : Kernel → Bool) (k : ℕ) (S : JobState) (n : ℕ) (ls : List (List ℕ)) → Verdict → Result (List (Statement (List ℕ))) Refusal
by_verdict has k S n ls v = elim v [
  | Skipped ↦ reading has k S (n + 1) ls
  | Bad why ↦ Err (refusal n why)
  | Does act ↦ before (statement n act) (reading has (k + 1) (apply act S) (n + 1) ls)
]

-- a line that says nothing
pub text_skipped : (has : Kernel → Bool) (ss : List (Statement (List ℕ))) (n : ℕ) (l : List ℕ) (ls : List (List ℕ)) → verdict_of has (scope_of (length ss) (run_from start ss)) l ≡ Skipped → text_with has ss n (l ∷ ls) ≡ text_with has ss (n + 1) ls
unfolding by_verdict
text_skipped has ss n l ls e = ap (λ v. followed_by ss (by_verdict has (length ss) (run_from start ss) n ls v)) e

-- a bad line ends the text
pub text_bad : (has : Kernel → Bool) (ss : List (Statement (List ℕ))) (n : ℕ) (l : List ℕ) (ls : List (List ℕ)) (why : Reason) → verdict_of has (scope_of (length ss) (run_from start ss)) l ≡ Bad why → text_with has ss n (l ∷ ls) ≡ Err (refusal n why)
unfolding by_verdict
text_bad has ss n l ls why e = ap (λ v. followed_by ss (by_verdict has (length ss) (run_from start ss) n ls v)) e

pub text_does : (has : Kernel → Bool) (ss : List (Statement (List ℕ))) (n : ℕ) (l : List ℕ) (ls : List (List ℕ)) (act : Act (List ℕ)) → verdict_of has (scope_of (length ss) (run_from start ss)) l ≡ Does act → text_with has ss n (l ∷ ls) ≡ text_with has (ss ++ statement n act ∷ []) (n + 1) ls
unfolding by_verdict
text_does has ss n l ls act e =
    ap (λ v. followed_by ss (by_verdict has (length ss) (run_from start ss) n ls v)) e
    ∙ sym (followed_by-push ss (statement n act) (reading has (length ss + 1) (apply act (run_from start ss)) (n + 1) ls))
    ∙ ap (λ k. followed_by (ss ++ statement n act ∷ []) (reading has k (apply act (run_from start ss)) (n + 1) ls)) (sym (length-append ss (statement n act ∷ [])))
    ∙ ap (λ S. followed_by (ss ++ statement n act ∷ []) (reading has (length (ss ++ statement n act ∷ [])) S (n + 1) ls)) (sym (run_from-push start ss (statement n act)))
