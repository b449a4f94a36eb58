-- The words of a line one behind another, and the lines of a list one behind another.
use Rattle.std.proofs.Common.{◌≡◌, ℕ, ◌+◌, ◌<◌, ℤ, List, [], ◌∷◌, ◌++◌, length, map, take, get_or, refl, ap, sym, ◌∙◌, arith, codes, append_assoc}
use Rattle.std.specs.List.{enumerate_from, flat_map, join_with_byte}
use Rattle.std.proofs.lemmas.List.{append-nil, flat_map_more, length-take, take_more}
use Rattle.std.proofs.lemmas.Grind.{flat_map-append}
use Rattle.std.proofs.lemmas.List.Folds.{flat_map-map}
use Rattle.sj_show.specs.Words.{integer_word, line_of_words, spaced, word_with}

-- the first word, and the others each behind a byte
pub joined-behind : (b : ℕ) (w : List ℕ) (ws : List (List ℕ)) → join_with_byte b (w ∷ ws) ≡ w ++ flat_map (λ v. b ∷ v) ws
joined-behind b w [] = sym (append-nil w)
joined-behind b w (v ∷ ws) = ap (λ t. w ++ (b ∷ t)) (joined-behind b v ws)

-- words behind the first ones of a line, and its end
pub line-written : (old first now new : List ℕ) (ws more : List (List ℕ)) → now ≡ old ++ (first ++ spaced ws) → new ≡ (now ++ spaced more) ++ 10 ∷ [] → new ≡ old ++ line_of_words (first ∷ (ws ++ more))
line-written old first now new ws more h e =
    e ∙ ap (λ t. (t ++ spaced more) ++ 10 ∷ []) h
    ∙ ap (λ t. t ++ 10 ∷ []) (append_assoc old (first ++ spaced ws) (spaced more) ∙ ap (λ t. old ++ t) (append_assoc first (spaced ws) (spaced more)))
    ∙ append_assoc old (first ++ (spaced ws ++ spaced more)) (10 ∷ [])
    ∙ ap (λ t. old ++ ((first ++ t) ++ 10 ∷ [])) (sym (flat_map-append (λ w. 32 ∷ w) ws more))
    ∙ ap (λ t. old ++ (t ++ 10 ∷ [])) (sym (joined-behind 32 first (ws ++ more)))

-- the first words of a cell's line, a piece behind another
pub cell-written : (old a b d e p q r s : List ℕ) → p ≡ old ++ (codes "cell c" ++ a) → q ≡ p ++ (codes " r" ++ b) → r ≡ q ++ (codes " " ++ d) → s ≡ r ++ (codes " " ++ e) → s ≡ old ++ (codes "cell" ++ spaced ((codes "c" ++ a) ∷ (codes "r" ++ b) ∷ d ∷ e ∷ []))
cell-written old a b d e p q r s hp hq hr hs = rw (hs, hr, hq, hp) (simp (append_assoc, append-nil) refl)

-- the same of a task's
pub task-written : (old a b d e p q r s t u : List ℕ) → p ≡ old ++ (codes "task t" ++ a) → q ≡ p ++ (codes " line " ++ b) → r ≡ q ++ codes " prio " → s ≡ r ++ d → t ≡ s ++ 32 ∷ [] → u ≡ t ++ e → u ≡ old ++ (codes "task" ++ spaced ((codes "t" ++ a) ∷ codes "line" ∷ b ∷ codes "prio" ∷ d ∷ e ∷ []))
task-written old a b d e p q r s t u hp hq hr hs ht hu = rw (hu, ht, hs, hr, hq, hp) (simp (append_assoc, append-nil) refl)

-- a word and its arguments
pub arguments-written : (old name a b d e : List ℕ) (args more : List ℤ) (x : ℤ) → args ≡ x ∷ more → a ≡ old ++ name → b ≡ (a ++ 40 ∷ []) ++ integer_word x → d ≡ b ++ flat_map (λ z. 44 ∷ integer_word z) more → e ≡ d ++ 41 ∷ [] → e ≡ old ++ word_with name args
arguments-written old name a b d e args more x is ha hb hd he =
    let behind : flat_map (λ z. 44 ∷ integer_word z) more ≡ flat_map (λ v. 44 ∷ v) (map integer_word more) = sym (flat_map-map (λ v. 44 ∷ v) integer_word more) in
    let inner : integer_word x ++ flat_map (λ z. 44 ∷ integer_word z) more ≡ join_with_byte 44 (integer_word x ∷ map integer_word more) =
    ap (λ t. integer_word x ++ t) behind ∙ sym (joined-behind 44 (integer_word x) (map integer_word more)) in
    he ∙ ap (λ t. t ++ 41 ∷ []) (hd ∙ ap (λ t. t ++ flat_map (λ z. 44 ∷ integer_word z) more) (hb ∙ ap (λ t. (t ++ 40 ∷ []) ++ integer_word x) ha))
    ∙ ap (λ t. t ++ 41 ∷ []) (append_assoc ((old ++ name) ++ 40 ∷ []) (integer_word x) (flat_map (λ z. 44 ∷ integer_word z) more) ∙ ap (λ t. ((old ++ name) ++ 40 ∷ []) ++ t) inner)
    ∙ append_assoc ((old ++ name) ++ 40 ∷ []) (join_with_byte 44 (integer_word x ∷ map integer_word more)) (41 ∷ [])
    ∙ append_assoc (old ++ name) (40 ∷ []) (join_with_byte 44 (integer_word x ∷ map integer_word more) ++ 41 ∷ [])
    ∙ append_assoc old name (40 ∷ (join_with_byte 44 (integer_word x ∷ map integer_word more) ++ 41 ∷ []))
    ∙ ap (λ zs. old ++ word_with name zs) (sym is)

-- the last item has the last number
pub enumerate-last : {X : Type 0} (n : ℕ) (xs : List X) (x : X) → enumerate_from n (xs ++ x ∷ []) ≡ enumerate_from n xs ++ (n + length xs, x) ∷ []
enumerate-last n [] x = ap (λ (m : ℕ). (m, x) ∷ []) (omega arith)
enumerate-last n (y ∷ ys) x =
    ap (λ l. (n, y) ∷ l) (enumerate-last (n + 1) ys x ∙ ap (λ (m : ℕ). enumerate_from (n + 1) ys ++ (m, x) ∷ []) (omega arith))

-- one line more
pub one-more : {X : Type 0} (f : ℕ × X → List ℕ) (xs : List X) (i : ℕ) (d x : X) (old now new : List ℕ) → i < length xs → get_or xs i d ≡ x → now ≡ old ++ flat_map f (enumerate_from 0 (take i xs)) → new ≡ now ++ f (i, x) → new ≡ old ++ flat_map f (enumerate_from 0 (take (i + 1) xs))
one-more f xs i d x old now new in' here before e =
    let more : take (i + 1) xs ≡ take i xs ++ x ∷ [] = take_more xs i d in' ∙ ap (λ y. take i xs ++ y ∷ []) here in
    let long : 0 + length (take i xs) ≡ i = omega (arith, length-take i xs) in
    e ∙ ap (λ t. t ++ f (i, x)) before ∙ flat_map_more f old (enumerate_from 0 (take i xs)) (i, x)
    ∙ ap (λ (m : ℕ). old ++ flat_map f (enumerate_from 0 (take i xs) ++ (m, x) ∷ [])) (sym long)
    ∙ ap (λ l. old ++ flat_map f l) (sym (enumerate-last 0 (take i xs) x) ∙ ap (λ ys. enumerate_from 0 ys) (sym more))
