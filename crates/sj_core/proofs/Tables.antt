-- Reading a table after rows of it were written.
use Rattle.sj_core.proofs.Words.{ap, arith, enumerate_from, get_or, length, List, renewed, ℕ, ◌<◌, ◌∙◌, ◌≡◌}
use Rattle.std.proofs.lemmas.{Bool.cases_lt, List.get_or-map, List.get_or_past, List.length-map, List.FromFn.get_or-enumerate_from, List.FromFn.length-enumerate_from}

pub length-renewed : {X : Type 0} (f : ℕ → X → X) (xs : List X) → length (renewed f xs) ≡ length xs
length-renewed f xs = length-map (enumerate_from 0 xs) (λ row. f row.0 row.1) ∙ length-enumerate_from 0 xs

-- a row of a table in which every row was renewed
pub renewed-at : {X : Type 0} (f : ℕ → X → X) (xs : List X) (i : ℕ) (d : X) → i < length xs → get_or (renewed f xs) i d ≡ f i (get_or xs i d)
renewed-at {X} f xs i d h =
    let inside : i < length (enumerate_from 0 xs) = omega (arith, length-enumerate_from 0 xs) in
    let g : (ℕ × X) → X = λ row. f row.0 row.1 in
    let e = get_or-map g (enumerate_from 0 xs) i (i, d) d inside in
    let r : get_or (enumerate_from 0 xs) i (i, d) ≡ (i, get_or xs i d) = get_or-enumerate_from 0 xs i (i, d) h ∙ ap (λ (k : ℕ). (k, get_or xs i d)) (omega arith) in
    e ∙ ap g r

-- past the end too, where f keeps the default
pub renewed-at_or : {X : Type 0} (f : ℕ → X → X) (xs : List X) (i : ℕ) (d : X) → f i d ≡ d → get_or (renewed f xs) i d ≡ f i (get_or xs i d)
renewed-at_or f xs i d k = search (arith, cases_lt, renewed-at, get_or_past, length-renewed)
