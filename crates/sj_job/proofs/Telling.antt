-- What a statement line says, by the function and by the grammar.
use Rattle.std.proofs.Common.{◌≡◌, ℕ, not, Bool, true, false, List, ap, ◌∙◌, refl, subst, Option, Some, None, cond, Result, Ok, Err}
use Rattle.std.proofs.lemmas.Bool.{not-true}
use Rattle.sj_job.specs.declared.form.Form.{Form}
use Rattle.sj_job.specs.declared.reason.Reason.{Reason}
use Rattle.sj_job.specs.declared.reason.Reason.TheVariants.{Word, Number}
use Rattle.sj_job.specs.Form.{form_of}
use Rattle.sj_job.specs.Sentence.{is_numbered, said_of, said}
use Rattle.sj_job.specs.Grammar.{Spells, Says}
use Rattle.sj_job.proofs.Stating.{form-read, form-back}

pub found-spells : (ws : List (List ℕ)) (f : Form) → form_of ws ≡ Some f → Spells ws f
found-spells ws f e = let p = form-read ws f e in record { line = p.0; proper = p.1 }

pub spells-found : (ws : List (List ℕ)) (f : Form) → Spells ws f → form_of ws ≡ Some f
spells-found ws f h = ap form_of h.line ∙ form-back f h.proper

abbrev said_when : Bool → Form → Result Form Reason
said_when numbered f = cond numbered (Ok f) (Err Number)

abbrev said_from : Option Form → Result Form Reason
said_from o = elim o as (λ _. Result Form Reason) [ None ↦ Err Word | Some f ↦ said_of f ]

form_says : (ws : List (List ℕ)) (f : Form) (n : Bool) → form_of ws ≡ Some f → is_numbered f ≡ n → Says ws (said_when n f)
form_says ws f false e h = record { form = f; spelled = found-spells ws f e; unnumbered = ap not h }
form_says ws f true e h = record { spelled = found-spells ws f e; numbered = h }

line_says : (ws : List (List ℕ)) (o : Option Form) → form_of ws ≡ o → Says ws (said_from o)
line_says ws None e = λ f s. let k = spells-found ws f s in absurd (cc)
line_says ws (Some f) e = form_says ws f (is_numbered f) e refl

pub said-says : (ws : List (List ℕ)) (r : Result Form Reason) → said ws ≡ r → Says ws r
said-says ws r e = subst (Says ws) e (line_says ws (form_of ws) refl)

spelled : (ws : List (List ℕ)) (f : Form) → Spells ws f → said ws ≡ said_when (is_numbered f) f
spelled ws f h = ap said_from (spells-found ws f h)

word_by : (ws : List (List ℕ)) (o : Option Form) → form_of ws ≡ o → ((f : Form) → ¬ (Spells ws f)) → said_from o ≡ Err Word
word_by ws None e h = refl
word_by ws (Some f) e h = absurd (h f (found-spells ws f e))

pub says-said : (ws : List (List ℕ)) (r : Result Form Reason) → Says ws r → said ws ≡ r
says-said ws (Ok f) h = spelled ws f h.spelled ∙ ap (λ n. said_when n f) h.numbered
says-said ws (Err Word) h = word_by ws (form_of ws) refl h
says-said ws (Err Number) h = spelled ws h.form h.spelled ∙ ap (λ n. said_when n h.form) (not-true (is_numbered h.form) h.unnumbered)
says-said ws (Err why) h = absurd h
