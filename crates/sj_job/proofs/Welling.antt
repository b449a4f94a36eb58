-- What a text says is well: each statement is allowed where it stands.
use Rattle.std.proofs.Common.{◌≡◌, ℕ, ◌+◌, not, Bool, true, false, List, [], ◌∷◌, refl, ◌∙◌, subst, Result, Ok, Err, cond}
use Rattle.std.specs.List.{list_all}
use Rattle.sj_codelet.specs.declared.kernel.Kernel.{Kernel}
use Rattle.sj_meaning.specs.Act.{Act}
use Rattle.sj_meaning.specs.Act.{Statement}
use Rattle.sj_job.specs.declared.reason.Reason.{Reason}
use Rattle.sj_job.specs.declared.reason.Reason.TheVariants.{Word}
use Rattle.sj_job.specs.declared.form.Form.{Form}
use Rattle.sj_job.specs.Verdict.{Verdict}
use Rattle.sj_job.specs.Verdict.{Skipped, Does, Bad}
use Rattle.sj_meaning.specs.State.{JobState}
use Rattle.sj_meaning.specs.Meaning.{apply}
use Rattle.sj_job.specs.Word.{words, is_allowed, is_skipped}
use Rattle.sj_job.specs.Sentence.{said}
use Rattle.sj_job.specs.Judge.{Scope, scope_of, judged}
use Rattle.sj_job.specs.Reading.{Refusal, refusal, statement, before, act_in, statement_in, reading, verdict_of}
use Rattle.sj_job.specs.Well.{IsAllowed, IsWell}

by_form : (has : Kernel → Bool) (scope : Scope) (ws : List (List ℕ)) (act : Act (List ℕ)) (r : Result Form Reason) → said ws ≡ r → (elim r as (λ _. Result (Act (List ℕ)) Reason) [ Err why ↦ Err why | Ok f ↦ judged has scope f ]) ≡ Ok act → IsAllowed has scope act
by_form has scope ws act (Err why) p e = absurd (cc)
by_form has scope ws act (Ok f) p e = record { words = ws; form = f; spelled = p; judged = e }

by_allowed : (has : Kernel → Bool) (scope : Scope) (l : List ℕ) (act : Act (List ℕ)) (b : Bool) → cond b (Err Word) (act_in has scope (words l)) ≡ Ok act → IsAllowed has scope act
by_allowed has scope l act true e = absurd (cc)
by_allowed has scope l act false e = by_form has scope (words l) act (said (words l)) refl e

by_skipped : (has : Kernel → Bool) (scope : Scope) (l : List ℕ) (act : Act (List ℕ)) (b : Bool) (r : Result (Act (List ℕ)) Reason) → statement_in has scope l ≡ r → (cond b Skipped (elim r as (λ _. Verdict) [ Err why ↦ Bad why | Ok a ↦ Does a ])) ≡ Does act → IsAllowed has scope act
by_skipped has scope l act true r p e = absurd (cc)
by_skipped has scope l act false (Err why) p e = absurd (cc)
by_skipped has scope l act false (Ok a) p e = by_allowed has scope l act (not (list_all is_allowed l)) (p ∙ cc)

-- what a line does is allowed
pub allowed_from_verdict : (has : Kernel → Bool) (scope : Scope) (l : List ℕ) (act : Act (List ℕ)) → verdict_of has scope l ≡ Does act → IsAllowed has scope act
allowed_from_verdict has scope l act e = by_skipped has scope l act (is_skipped (words l)) (statement_in has scope l) refl e

well_before : (has : Kernel → Bool) (k : ℕ) (S : JobState) (s : Statement (List ℕ)) (ss : List (Statement (List ℕ))) (r : Result (List (Statement (List ℕ))) Refusal) → before s r ≡ Ok ss → IsAllowed has (scope_of k S) s.act → ((ts : List (Statement (List ℕ))) → r ≡ Ok ts → IsWell has (k + 1) (apply s.act S) ts) → IsWell has k S ss
well_before has k S s ss (Err e) h a rest = absurd (cc)
well_before has k S s [] (Ok ts) h a rest = absurd (cc)
well_before has k S s (t ∷ us) (Ok ts) h a rest =
    let e : s ≡ t = cc in
    let f : ts ≡ us = cc in
    subst (λ (x : Statement (List ℕ)). IsAllowed has (scope_of k S) x.act × IsWell has (k + 1) (apply x.act S) us) e (a, subst (λ (xs : List (Statement (List ℕ))). IsWell has (k + 1) (apply s.act S) xs) f (rest ts refl))

well_by_verdict : (has : Kernel → Bool) (k : ℕ) (S : JobState) (n : ℕ) (l : List ℕ) (ls : List (List ℕ)) (ss : List (Statement (List ℕ))) → ((j : ℕ) (T : JobState) (ts : List (Statement (List ℕ))) → reading has j T (n + 1) ls ≡ Ok ts → IsWell has j T ts) → (v : Verdict) → verdict_of has (scope_of k S) l ≡ v → (elim v as (λ _. Result (List (Statement (List ℕ))) Refusal) [
  | Skipped ↦ reading has k S (n + 1) ls
  | Bad why ↦ Err (refusal n why)
  | Does act ↦ before (statement n act) (reading has (k + 1) (apply act S) (n + 1) ls)
]) ≡ Ok ss → IsWell has k S ss
well_by_verdict has k S n l ls ss rest Skipped v e = rest k S ss e
well_by_verdict has k S n l ls ss rest (Bad why) v e = absurd (cc)
well_by_verdict has k S n l ls ss rest (Does act) v e =
    well_before has k S (statement n act) ss (reading has (k + 1) (apply act S) (n + 1) ls) e (allowed_from_verdict has (scope_of k S) l act v) (rest (k + 1) (apply act S))

pub well_from_reading : (has : Kernel → Bool) (k : ℕ) (S : JobState) (n : ℕ) (ls : List (List ℕ)) (ss : List (Statement (List ℕ))) → reading has k S n ls ≡ Ok ss → IsWell has k S ss
well_from_reading has k S n [] [] e = tt
well_from_reading has k S n [] (s ∷ ss) e = absurd (cc)
well_from_reading has k S n (l ∷ ls) ss e =
    well_by_verdict has k S n l ls ss (λ j T ts h. well_from_reading has j T (n + 1) ls ts h) (verdict_of has (scope_of k S) l) refl e
