-- A canonical text is read, line after line.
use Rattle.std.proofs.Common.{◌≡◌, ℕ, ◌+◌, ◌≤◌, Bool, true, false, not, cond, Result, Ok, Err, List, [], ◌∷◌, ◌++◌, length, refl, sym, ap, ◌∙◌, arith}
use Rattle.std.specs.List.{join_with_byte, list_all}
use Rattle.std.proofs.lemmas.Bool.{le-ltb}
use Rattle.sj_codelet.specs.declared.kernel.Kernel.{Kernel}
use Rattle.sj_job.specs.declared.form.Form.{Form}
use Rattle.sj_job.specs.declared.reason.Reason.{Reason}
use Rattle.sj_job.specs.declared.reason.Reason.TheVariants.{Word}
use Rattle.sj_meaning.specs.declared.settings.Settings.{Settings}
use Rattle.sj_meaning.specs.Act.{Act, Statement}
use Rattle.sj_job.specs.Grammar.{form_words}
use Rattle.sj_meaning.specs.Job.{Job}
use Rattle.sj_job.specs.Judge.{Scope, judged, scope_of}
use Rattle.sj_meaning.specs.Meaning.{apply}
use Rattle.sj_job.specs.Reading.{Refusal, act_in, before, job_of, reading, reading_header, reading_settings, refusal, statement, statement_in, text_limit, verdict_of, with_settings}
use Rattle.sj_job.specs.Sentence.{said}
use Rattle.sj_meaning.specs.Settings.{SettingsAreInRange, unset}
use Rattle.sj_meaning.specs.State.{JobState, start}
use Rattle.sj_job.specs.Verdict.{Verdict, Skipped, Does as Says, Bad}
use Rattle.sj_job.specs.Well.{IsWell}
use Rattle.sj_job.specs.Word.{is_skipped, lines, words}
use Rattle.sj_job.proofs.Telling.{says-said}
use Rattle.sj_text.specs.Again.{first_statement_line, renumbered, said_again, settings_said}
use Rattle.sj_text.specs.Forms.{Plans, form_of_act, no_plans, plans_after}
use Rattle.sj_text.specs.Text.{header_line, settings_lines, statement_lines, text_of_job}
use Rattle.sj_text.proofs.Bytes.{allowed-joined, is_word, line-cut, words-joined}
use Rattle.sj_text.proofs.Canonical.{Does, canonical-does}
use Rattle.sj_text.proofs.Following.{Follows, follows-act, follows-start}
use Rattle.sj_text.proofs.Front.{form-begins, settings-read, statement-begins}
use Rattle.sj_text.proofs.Written.{written-words}

-- ---- the line of a form

abbrev act_by : (Kernel → Bool) → Scope → Result Form Reason → Result (Act (List ℕ)) Reason
act_by has s r = elim r as (λ _. Result (Act (List ℕ)) Reason) [ Err why ↦ Err why | Ok f ↦ judged has s f ]

abbrev verdict_by : Result (Act (List ℕ)) Reason → Verdict
verdict_by r = elim r as (λ _. Verdict) [ Err why ↦ Bad why | Ok act ↦ Says act ]

-- the words of the form say it
said-again : (f : Form) (h : list_all is_word (form_words f) ≡ true) → Rattle.sj_job.specs.Grammar.is_proper f ≡ true → Rattle.sj_job.specs.Sentence.is_numbered f ≡ true → said (words (join_with_byte 32 (form_words f))) ≡ Ok f
said-again f h proper numbered =
    ap said (words-joined (form_words f) h) ∙ says-said (form_words f) (Ok f) (record { spelled = record { line = refl; proper = proper }; numbered = numbered })

line-does : (has : Kernel → Bool) (s : Scope) (f : Form) (act : Act (List ℕ)) → Does has s f act → verdict_of has s (join_with_byte 32 (form_words f)) ≡ Says act
line-does has s f act d =
    let h = written-words f d.proper d.numbered in
    let line = join_with_byte 32 (form_words f) in
    ap (λ (b : Bool). cond b Skipped (verdict_by (statement_in has s line))) (ap is_skipped (words-joined (form_words f) h) ∙ (form-begins f).0)
    ∙ ap (λ (b : Bool). verdict_by (cond (not b) (Err Word) (act_in has s (words line)))) (allowed-joined (form_words f) h)
    ∙ ap (λ (r : Result Form Reason). verdict_by (act_by has s r)) (said-again f h d.proper d.numbered)
    ∙ ap verdict_by d.judged

-- ---- statements

abbrev reads_on : (Kernel → Bool) → ℕ → JobState → ℕ → List (List ℕ) → Verdict → Result (List (Statement (List ℕ))) Refusal
reads_on has k S n ls v = elim v as (λ _. Result (List (Statement (List ℕ))) Refusal) [
  | Skipped ↦ reading has k S (n + 1) ls
  | Bad why ↦ Err (refusal n why)
  | Says act ↦ before (statement n act) (reading has (k + 1) (apply act S) (n + 1) ls)
]

statements-read : (has : Kernel → Bool) (k : ℕ) (S : JobState) (n : ℕ) (plans : Plans) (ss : List (Statement (List ℕ))) → Follows plans S → IsWell has k S ss → reading has k S n (lines (statement_lines plans ss)) ≡ Ok (renumbered n ss)
statements-read has k S n plans [] f w = refl
statements-read has k S n plans (s ∷ ss) f w =
    let form = form_of_act plans s.act in
    let d = canonical-does has k S plans s.act f w.0 in
    let rest = statement_lines (plans_after s.act plans) ss in
    ap (reading has k S n) (line-cut (form_words form) rest (written-words form d.proper d.numbered))
    ∙ ap (reads_on has k S n (lines rest)) (line-does has (scope_of k S) form s.act d)
    ∙ ap (before (statement n s.act)) (statements-read has (k + 1) (apply s.act S) (n + 1) (plans_after s.act plans) ss (follows-act s.act plans S f) w.1)

-- behind the settings
behind-settings : (has : Kernel → Bool) (g : Settings) (n : ℕ) (ss : List (Statement (List ℕ))) → IsWell has 0 start ss → reading_settings has g n (lines (statement_lines no_plans ss)) ≡ with_settings g (reading has 0 start n (lines (statement_lines no_plans ss)))
behind-settings has g n [] w = refl
behind-settings has g n (s ∷ ss) w =
    let form = form_of_act no_plans s.act in
    let d = canonical-does has 0 start no_plans s.act follows-start w.0 in
    let rest = statement_lines (plans_after s.act no_plans) ss in
    let h = written-words form d.proper d.numbered in
    let cut = line-cut (form_words form) rest h in
    ap (reading_settings has g n) cut ∙ statement-begins has g n form (lines rest) h ∙ ap (λ ls. with_settings g (reading has 0 start n ls)) (sym cut)

-- ---- a text

header-read : (has : Kernel → Bool) (rest : List ℕ) → reading_header has 1 (lines (header_line ++ rest)) ≡ reading_settings has unset 2 (lines rest)
header-read has rest = refl

pub text-read : (has : Kernel → Bool) (j : Job) → SettingsAreInRange j.settings → IsWell has 0 start j.statements → length (text_of_job j) ≤ text_limit → job_of has (text_of_job j) ≡ Ok (said_again j)
text-read has j within well fits =
    let text = text_of_job j in
    let g = j.settings in
    let behind = statement_lines no_plans j.statements in
    let n = first_statement_line g in
    let at : length (Rattle.sj_meaning.specs.Settings.nodes_of g) + 2 + 2 ≡ n = omega arith in
    ap (λ (b : Bool). cond b (Err (refusal 0 (Rattle.sj_job.specs.declared.reason.Reason.TheVariants.Limit Rattle.sj_job.specs.declared.reason.LimitKind.TheVariants.Text))) (reading_header has 1 (lines text))) (le-ltb text_limit (length text) fits)
    ∙ header-read has (settings_lines g ++ behind)
    ∙ settings-read has g 2 behind within
    ∙ ap (λ (k : ℕ). reading_settings has (settings_said g) k (lines behind)) at
    ∙ behind-settings has (settings_said g) n j.statements well
    ∙ ap (with_settings (settings_said g)) (statements-read has 0 start n no_plans j.statements follows-start well)
