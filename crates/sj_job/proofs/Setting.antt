-- A settings line and the grammar: each form is read from what is written of it, and from nothing else.
use Rattle.std.proofs.Common.{◌≡◌, ℕ, Bool, true, false, List, [], ◌∷◌, refl, ap, ◌∙◌, Option, Some, None, option_map, cond, bytes_eq, codes}
use Rattle.sj_base.specs.declared.mode.Policy.{Policy}
use Rattle.sj_base.proofs.Texts.{same_text}
use Rattle.sj_job.specs.declared.form.SettingForm.{SettingForm}
use Rattle.sj_job.specs.declared.form.SettingForm.TheVariants as form
use Rattle.sj_job.specs.Form.{alone, policy_in, policy_of}
use Rattle.sj_job.specs.Settings.{setting_of, setting_written}
use Rattle.sj_job.proofs.Spelling.{some_from}
use Rattle.sj_job.proofs.Saying.{policies}

alone-read : (ws : List (List ℕ)) (w : List ℕ) → alone ws ≡ Some w → ws ≡ w ∷ []
alone-read [] w e = absurd (cc)
alone-read (v ∷ []) w e = let same : v ≡ w = cc in ap (λ w. w ∷ []) same
alone-read (v ∷ u ∷ ws) w e = absurd (cc)

-- a word alone behind a first word
alone_by : (make : List ℕ → SettingForm) (first : List ℕ) → ((w : List ℕ) → first ∷ w ∷ [] ≡ setting_written (make w)) → (ws : List (List ℕ)) (f : SettingForm) → option_map make (alone ws) ≡ Some f → first ∷ ws ≡ setting_written f
alone_by make first spelled ws f e =
    let p = some_from make (alone ws) f e in
    ap (λ ws. first ∷ ws) (alone-read ws p.0 p.1.0) ∙ spelled p.0 ∙ ap setting_written p.1.1

policy_by : (w : List ℕ) (o : Option Policy) (f : SettingForm) → policy_of w ≡ o → option_map form.Policy o ≡ Some f → codes "policy" ∷ w ∷ [] ≡ setting_written f
policy_by w None f h e = absurd (cc)
policy_by w (Some p) f h e =
    let same : form.Policy p ≡ f = cc in
    ap (λ w. codes "policy" ∷ w ∷ []) (policies.read w p h).0 ∙ ap setting_written same

policy-read : (ws : List (List ℕ)) (f : SettingForm) → option_map form.Policy (policy_in ws) ≡ Some f → codes "policy" ∷ ws ≡ setting_written f
policy-read [] f e = absurd (cc)
policy-read (w ∷ []) f e = policy_by w (policy_of w) f refl e
policy-read (w ∷ v ∷ ws) f e = absurd (cc)

by_word : (w : List ℕ) (ws : List (List ℕ)) (f : SettingForm) (a b c : Bool) → (a ≡ true → w ≡ codes "workers") → (b ≡ true → w ≡ codes "node") → (c ≡ true → w ≡ codes "policy")
    → cond a (option_map form.Workers (alone ws)) (cond b (option_map form.Node (alone ws)) (cond c (option_map form.Policy (policy_in ws)) None)) ≡ Some f → w ∷ ws ≡ setting_written f
by_word w ws f true b c g h k e = ap (λ w. w ∷ ws) (g refl) ∙ alone_by form.Workers (codes "workers") (λ n. refl) ws f e
by_word w ws f false true c g h k e = ap (λ w. w ∷ ws) (h refl) ∙ alone_by form.Node (codes "node") (λ n. refl) ws f e
by_word w ws f false false true g h k e = ap (λ w. w ∷ ws) (k refl) ∙ policy-read ws f e
by_word w ws f false false false g h k e = absurd (cc)

pub setting-read : (ws : List (List ℕ)) (f : SettingForm) → setting_of ws ≡ Some f → ws ≡ setting_written f
setting-read [] f e = absurd (cc)
setting-read (w ∷ ws) f e =
    by_word w ws f (bytes_eq w (codes "workers")) (bytes_eq w (codes "node")) (bytes_eq w (codes "policy"))
    (same_text w (codes "workers")) (same_text w (codes "node")) (same_text w (codes "policy")) e

setting_back : (f : SettingForm) → setting_of (setting_written f) ≡ Some f
setting_back (form.Workers n) = refl
setting_back (form.Node n) = refl
setting_back (form.Policy p) = ap (option_map form.Policy) (policies.back p refl)

pub setting-back : (ws : List (List ℕ)) (f : SettingForm) → ws ≡ setting_written f → setting_of ws ≡ Some f
setting-back ws f e = ap setting_of e ∙ setting_back f
