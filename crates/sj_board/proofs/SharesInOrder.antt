-- The operands of a task, one after another.
use Rattle.sj_board.proofs.Words.{[], Access, ap, arith, drop, get_or, length, List, reads_of, reads_value, sym, take, ℕ, ◌++◌, ◌+◌, ◌<◌, ◌∙◌, ◌∷◌, ◌≡◌, ◌≤◌}
use Rattle.std.proofs.lemmas.{List.length-append, List.take-append-drop, List.take_more, List.Elements.filter-append}

pub read-append : (xs ys : List Access) → reads_of (xs ++ ys) ≡ reads_of xs ++ reads_of ys
read-append xs ys = filter-append (λ a. reads_value a.mode) xs ys

-- one operand more
pub read-more : (xs : List Access) (i : ℕ) (d : Access) → i < length xs → length (reads_of (take (i + 1) xs)) ≡ length (reads_of (take i xs)) + length (reads_of (get_or xs i d ∷ []))
read-more xs i d h = ap (λ (l : List Access). length (reads_of l)) (take_more xs i d h) ∙ ap length (read-append (take i xs) (get_or xs i d ∷ [])) ∙ length-append (reads_of (take i xs)) (reads_of (get_or xs i d ∷ []))

-- the operands so far are no more than all
pub read-some : (xs : List Access) (i : ℕ) → length (reads_of (take i xs)) ≤ length (reads_of xs)
read-some xs i =
    let all : length (reads_of xs) ≡ length (reads_of (take i xs)) + length (reads_of (drop i xs)) =
    ap (λ (l : List Access). length (reads_of l)) (sym (take-append-drop i xs)) ∙ ap length (read-append (take i xs) (drop i xs)) ∙ length-append (reads_of (take i xs)) (reads_of (drop i xs)) in
    omega arith
