-- Which victims are gone.
use Rattle.sj_machine.proofs.Words.{[], ap, AreGone, AreGoneIn, arith, Bool, Cell, CellState, cond, drop, false, get_or, inl, inr, is_gone, is_leaving_by, leaves_in, length, List, list_all, Machine, mark, next_victim, Node, node_of, not, refl, reverse, Some, State, suc, sym, take, true, victims_of, Worker, zero, ℕ, ◌&&◌, ◌++◌, ◌+◌, ◌-◌, ◌<◌, ◌∙◌, ◌∷◌, ◌≡◌, ◌≤◌}
use Rattle.std.specs.List.{find}
use Rattle.std.proofs.Math.ListN.{drop_of_length-le}
use Rattle.std.proofs.Math.Path.{fun_ext}
use Rattle.std.proofs.Math.Seq.{drop-append_seam}
use Rattle.std.proofs.lemmas.{Bool.and_from, Bool.and_parts, Bool.cases_lt, Bool.not-true, List.get_or-reverse, List.length-drop, List.length-reverse, List.reverse-append, List.take-append-drop, List.Folds.list_all_more}
use Rattle.sj_base.proofs.Bools.{not_not}

-- one more is gone, where its copy doesn't leave
pub gone_more : (rows : List CellState) (n : Node) (w : Worker) (victims : List Cell) (i : ℕ) (d : Cell) → i < length victims → AreGoneIn rows n w victims i → leaves_in rows n w (get_or victims (length victims - 1 - i) d) ≡ false → AreGoneIn rows n w victims (i + 1)
gone_more rows n w victims i d inside gone stays =
    let f : Cell → Bool = λ c. not (leaves_in rows n w c) in
    list_all_more f (reverse victims) i d (omega (arith, inside, length-reverse victims))
    ∙ and_from (list_all f (take i (reverse victims))) (f (get_or (reverse victims) i d)) gone (ap f (get_or-reverse victims i d inside) ∙ ap not stays)

pub and_first : (a b : Bool) → (a && b) ≡ true → a ≡ true
and_first a b h = (and_parts a b h).0

-- the first that passes is behind those that don't
find-rest : (f : Cell → Bool) (xs : List Cell) (k : ℕ) → list_all (λ c. not (f c)) (take k xs) ≡ true → find f xs ≡ find f (drop k xs)
find-rest f [] zero h = refl
find-rest f [] (suc k) h = refl
find-rest f (x ∷ xs) zero h = refl
find-rest f (x ∷ xs) (suc k) h = (let parts = and_parts (not (f x)) (list_all (λ c. not (f c)) (take k xs)) h in ap (λ b. cond b (Some x) (find f xs)) (not-true (f x) parts.0) ∙ find-rest f xs k parts.1)

-- without so many at the end, from behind
pub rest-is : (xs : List Cell) (k : ℕ) → reverse (take (length xs - k) xs) ≡ drop k (reverse xs)
rest-is xs k = elim (cases_lt (length xs) k) [
  | inl past ↦
      ap (λ (n : ℕ). reverse (take n xs)) (let none : length xs - k ≡ 0 = omega (arith, past) in none)
      ∙ sym (drop_of_length-le (reverse xs) (let le : length (reverse xs) ≤ k = omega (arith, past, length-reverse xs) in le))
  | inr within ↦
      let j = length xs - k in
      let behind : length (reverse (drop j xs)) ≡ k = omega (arith, within, length-reverse (drop j xs), length-drop j xs) in
      sym (ap (λ (n : ℕ). drop n (reverse (drop j xs) ++ reverse (take j xs))) (sym behind) ∙ drop-append_seam (reverse (drop j xs)) (reverse (take j xs)))
      ∙ ap (drop k) (sym (reverse-append (take j xs) (drop j xs)) ∙ ap reverse (take-append-drop j xs))
]

-- the next victim isn't among those that are gone
pub next_left : (m : Machine) (s : State) (w : Worker) (count : ℕ) → AreGone m s w count → find (leaves_in s.cells (node_of m w) w) (reverse (take (length (victims_of s w) - count) (victims_of s w))) ≡ next_victim m s w
next_left m s w count gone =
    let f = leaves_in s.cells (node_of m w) w in
    ap (find f) (rest-is (victims_of s w) count) ∙ sym (find-rest f (reverse (victims_of s w)) count gone)
    ∙ ap (λ (g : Cell → Bool). find g (reverse (victims_of s w))) (fun_ext {f = f} {g = λ c. not (is_gone m s w c)} (λ c. sym (not_not (is_leaving_by w (mark s c (node_of m w))))))
