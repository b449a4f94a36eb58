-- Lines put together from their pieces.
use Rattle.std.proofs.Common.{◌≡◌, ℕ, ℤ, List, [], ◌∷◌, ◌++◌, map, codes, refl, ap, sym, ◌∙◌, append_assoc}
use Rattle.std.specs.List.{flat_map, join_with_byte}
use Rattle.std.proofs.lemmas.Grind.{flat_map-append}
use Rattle.std.proofs.lemmas.List.{append-nil}
use Rattle.std.proofs.lemmas.List.Folds.{flat_map-map}
use Rattle.sj_show.proofs.Lines.{joined-behind, line-written}
use Rattle.sj_show.specs.Words.{integer_word, line_of_words, spaced}

-- the first words of a vector's line
pub vector-told : (old name n a b d : List ℕ) (more : List (List ℕ)) → a ≡ old ++ codes "vector " → b ≡ a ++ name → d ≡ b ++ (codes " " ++ n) → d ++ spaced more ≡ old ++ join_with_byte 32 (codes "vector" ∷ name ∷ n ∷ more)
vector-told old name n a b d more ha hb hd =
    let behind : d ++ spaced more ≡ old ++ (codes "vector" ++ 32 ∷ (name ++ 32 ∷ (n ++ spaced more))) = rw (hd, hb, ha) (simp append_assoc refl) in
    behind ∙ ap (λ t. old ++ (codes "vector" ++ 32 ∷ (name ++ 32 ∷ t))) (sym (joined-behind 32 n more))

-- the same of a matrix
pub matrix-told : (old name m n a b d e : List ℕ) (more : List (List ℕ)) → a ≡ old ++ codes "matrix " → b ≡ a ++ name → d ≡ b ++ (codes " " ++ m) → e ≡ d ++ (codes " " ++ n) → e ++ spaced more ≡ old ++ join_with_byte 32 (codes "matrix" ∷ name ∷ m ∷ n ∷ more)
matrix-told old name m n a b d e more ha hb hd he =
    let behind : e ++ spaced more ≡ old ++ (codes "matrix" ++ 32 ∷ (name ++ 32 ∷ (m ++ 32 ∷ (n ++ spaced more)))) = rw (he, hd, hb, ha) (simp append_assoc refl) in
    behind ∙ ap (λ t. old ++ (codes "matrix" ++ 32 ∷ (name ++ 32 ∷ (m ++ 32 ∷ t)))) (sym (joined-behind 32 n more))

-- the values of an array
pub values-told : (old a b : List ℕ) (zs : List ℤ) → a ≡ old ++ codes " values" → b ≡ a ++ flat_map (λ z. 32 ∷ integer_word z) zs → b ≡ old ++ spaced (codes "values" ∷ map integer_word zs)
values-told old a b zs ha hb =
    hb ∙ ap (λ t. t ++ flat_map (λ z. 32 ∷ integer_word z) zs) ha
    ∙ append_assoc old (codes " values") (flat_map (λ z. 32 ∷ integer_word z) zs)
    ∙ ap (λ t. old ++ (codes " values" ++ t)) (sym (flat_map-map (λ w. 32 ∷ w) integer_word zs))

-- the line of a task
pub task-told : (old name a b d e f : List ℕ) (operands more : List (List ℕ)) → a ≡ old ++ codes "task " → b ≡ a ++ name → d ≡ b ++ spaced operands → e ≡ d ++ spaced more → f ≡ e ++ 10 ∷ [] → f ≡ old ++ line_of_words (codes "task" ∷ name ∷ (operands ++ more))
task-told old name a b d e f operands more ha hb hd he hf =
    let start : b ≡ old ++ (codes "task" ++ spaced (name ∷ [])) = rw (hb, ha) (simp (append_assoc, append-nil) refl) in
    let behind : f ≡ (b ++ spaced (operands ++ more)) ++ 10 ∷ [] =
    hf ∙ ap (λ t. t ++ 10 ∷ []) (he ∙ ap (λ t. t ++ spaced more) hd ∙ append_assoc b (spaced operands) (spaced more) ∙ ap (λ t. b ++ t) (sym (flat_map-append (λ w. 32 ∷ w) operands more))) in
    line-written old (codes "task") b f (name ∷ []) (operands ++ more) start behind

-- the line of a registration, whose first words may be followed by any
pub array-told : (old a b d e : List ℕ) (words : List (List ℕ) → List (List ℕ)) (parts init : List (List ℕ)) → ((more : List (List ℕ)) → a ++ spaced more ≡ old ++ join_with_byte 32 (words more)) → b ≡ a ++ spaced parts → d ≡ b ++ spaced init → e ≡ d ++ 10 ∷ [] → e ≡ old ++ line_of_words (words (parts ++ init))
array-told old a b d e words parts init start hb hd he =
    he ∙ ap (λ t. t ++ 10 ∷ []) (hd ∙ ap (λ t. t ++ spaced init) hb ∙ append_assoc a (spaced parts) (spaced init) ∙ ap (λ t. a ++ t) (sym (flat_map-append (λ w. 32 ∷ w) parts init)) ∙ start (parts ++ init))
    ∙ append_assoc old (join_with_byte 32 (words (parts ++ init))) (10 ∷ [])
