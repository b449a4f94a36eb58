-- The last byte of a kind in a word, and the last word of a line.
use Rattle.std.proofs.Common.{◌≡◌, ℕ, suc, ◌+◌, ◌<◌, ◌&&◌, not, Bool, true, false, List, [], ◌∷◌, ◌++◌, length, take, drop, get_or, refl, ap, ◌∙◌, sym, arith, Option, Some, None, unwrap_or, cond, nat_eq, length-drop}
use Rattle.std.specs.List.{list_all}
use Rattle.std.proofs.Math.Seq.{drop-cons}
use Rattle.std.proofs.lemmas.List.{get_or-drop, take-append-drop}
use Rattle.std.proofs.lemmas.Bool.Decides.{Decides-eqb}
use Rattle.std.specs.Option.{MatchOption}
use Rattle.std.proofs.lemmas.Bool.{not-true, and_parts}
use Rattle.sj_base.proofs.Bools.{nat_eq-itself}
use Rattle.memchr.specs.Find.{IsLastByte, Nowhere, Passes, is_byte}
use Rattle.sj_job.specs.Form.{around_last, priority_of, with_priority}

-- ---- the last byte

not-so : (t : Bool) → ¬ (t ≡ true) → not t ≡ true
not-so true n = absurd (n refl)
not-so false n = refl

-- no byte is such a byte
none-in : (b : ℕ) (w : List ℕ) → ((k : ℕ) → k < length w → ¬ (nat_eq (get_or w k 0) b ≡ true)) → list_all (λ c. not (nat_eq c b)) w ≡ true
none-in b [] none = refl
none-in b (c ∷ w) none =
    ap (λ t. t && list_all (λ c. not (nat_eq c b)) w) (not-so (nat_eq c b) (none 0 (omega arith)))
    ∙ none-in b w (λ k lt. none (suc k) (omega arith))

-- none behind a place
none-behind : (b : ℕ) (w : List ℕ) (k : ℕ) → Nowhere (Passes (is_byte b) w) (k + 1) (length w) → list_all (λ c. not (nat_eq c b)) (drop (k + 1) w) ≡ true
none-behind b w k none =
    none-in b (drop (k + 1) w) (λ j lt passes. none (k + 1 + j) (omega arith) (omega (arith, length-drop (k + 1) w)) (ap (λ c. nat_eq c b) (sym (get_or-drop (k + 1) w j 0)) ∙ passes))

-- the place of the last such byte, if there is one
pub last-place : (b : ℕ) (w : List ℕ) (r : Option ℕ) → IsLastByte (is_byte b) w r → MatchOption r (list_all (λ c. not (nat_eq c b)) w ≡ true)
    (λ at. (at < length w) × (get_or w at 0 ≡ b) × (list_all (λ c. not (nat_eq c b)) (drop (at + 1) w) ≡ true))
last-place b w None none = none-in b w (λ k lt. none k (omega arith) lt)
last-place b w (Some at) found = (found.0.high, (Decides-eqb (get_or w at 0) b).0 found.1, none-behind b w at found.0.after)

abbrev onto : ℕ → Bool → List ℕ → Option (List ℕ × List ℕ) → Option (List ℕ × List ℕ)
onto c t w o = elim o as (λ _. Option (List ℕ × List ℕ)) [ Some p ↦ Some (c ∷ p.0, p.1) | None ↦ cond t (Some ([], w)) None ]

pub around-none : (b : ℕ) (w : List ℕ) → list_all (λ c. not (nat_eq c b)) w ≡ true → around_last b w ≡ None
around-none b [] h = refl
around-none b (c ∷ w) h =
    let q = and_parts (not (nat_eq c b)) (list_all (λ c. not (nat_eq c b)) w) h in
    ap (onto c (nat_eq c b) w) (around-none b w q.1) ∙ ap (λ t. onto c t w None) (not-true (nat_eq c b) q.0)

pub around-at : (b : ℕ) (front back : List ℕ) → list_all (λ c. not (nat_eq c b)) back ≡ true → around_last b (front ++ b ∷ back) ≡ Some (front, back)
around-at b [] back h = ap (onto b (nat_eq b b) back) (around-none b back h) ∙ ap (λ t. onto b t back None) (nat_eq-itself b)
around-at b (c ∷ front) back h = ap (onto c (nat_eq c b) (front ++ b ∷ back)) (around-at b front back h)

-- the same by the place of the byte
pub around-place : (b : ℕ) (w : List ℕ) (k : ℕ) → k < length w → get_or w k 0 ≡ b → list_all (λ c. not (nat_eq c b)) (drop (k + 1) w) ≡ true → around_last b w ≡ Some (take k w, drop (k + 1) w)
around-place b w k lt e h =
    let s : suc k ≡ k + 1 = omega arith in
    ap (around_last b) (sym (take-append-drop k w) ∙ ap (λ l. take k w ++ l) (drop-cons w k 0 lt) ∙ ap (λ c. take k w ++ c ∷ drop (suc k) w) e ∙ ap (λ i. take k w ++ b ∷ drop i w) s)
    ∙ around-at b (take k w) (drop (k + 1) w) h

front_is : (p q : List ℕ × List ℕ) → Some p ≡ Some q → p.0 ≡ q.0
front_is p q e = ap (λ (o : Option (List ℕ × List ℕ)). (unwrap_or o p).0) e

back_is : (p q : List ℕ × List ℕ) → Some p ≡ Some q → p.1 ≡ q.1
back_is p q e = ap (λ (o : Option (List ℕ × List ℕ)). (unwrap_or o p).1) e

around_by : (b c : ℕ) (w front back : List ℕ) (o : Option (List ℕ × List ℕ)) (t : Bool) → ((f g : List ℕ) → o ≡ Some (f, g) → w ≡ f ++ b ∷ g) → (t ≡ true → c ≡ b) → onto c t w o ≡ Some (front, back) → c ∷ w ≡ front ++ b ∷ back
around_by b c w front back (Some p) t h k e =
    let r : List ℕ × List ℕ = (c ∷ p.0, p.1) in
    ap (λ l. c ∷ l) (h p.0 p.1 refl) ∙ ap (λ l. l ++ b ∷ p.1) (front_is r (front, back) e) ∙ ap (λ l. front ++ b ∷ l) (back_is r (front, back) e)
around_by b c w front back None true h k e =
    let r : List ℕ × List ℕ = ([], w) in
    ap (λ x. x ∷ w) (k refl) ∙ ap (λ l. b ∷ l) (back_is r (front, back) e) ∙ ap (λ l. l ++ b ∷ back) (front_is r (front, back) e)
around_by b c w front back None false h k e = absurd (cc)

-- a word with such a byte is what stands before the last, the byte, and what follows
pub around-joins : (b : ℕ) (w front back : List ℕ) → around_last b w ≡ Some (front, back) → w ≡ front ++ b ∷ back
around-joins b [] front back e = absurd (cc)
around-joins b (c ∷ w) front back e = around_by b c w front back (around_last b w) (nat_eq c b) (λ f g. around-joins b w f g) ((Decides-eqb c b).0) e

-- ---- the last word

abbrev pub ended_by : List ℕ → Option (List ℕ) → List (List ℕ) × Option (List ℕ)
ended_by w o = elim o as (λ _. List (List ℕ) × Option (List ℕ)) [ Some p ↦ ([], Some p) | None ↦ (w ∷ [], None) ]

pub priority-last : (ws : List (List ℕ)) (w p : List ℕ) → priority_of w ≡ Some p → with_priority (ws ++ w ∷ []) ≡ (ws, Some p)
priority-last [] w p e = ap (ended_by w) e
priority-last (v ∷ []) w p e = ap (λ (r : List (List ℕ) × Option (List ℕ)). (v ∷ r.0, r.1)) (ap (ended_by w) e)
priority-last (v ∷ u ∷ ws) w p e = ap (λ (r : List (List ℕ) × Option (List ℕ)). (v ∷ r.0, r.1)) (priority-last (u ∷ ws) w p e)
