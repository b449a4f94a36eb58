-- Elements joined by spaces, one at a time, and rows within an array.
use Rattle.std.proofs.Common.{◌≡◌, ℕ, ◌+◌, ℤ, List, [], ◌∷◌, ◌++◌, map, ap, ◌∙◌, sym, arith, append_assoc}
use Rattle.std.specs.List.{join_with_byte, flat_map}
use Rattle.std.proofs.lemmas.List.{append-nil}
use Rattle.std.proofs.lemmas.List.FromFn.{map-range_with_len_more}
use Rattle.std.proofs.lemmas.List.{flat_map_more}
use Rattle.std.specs.List.{range_with_len}
use Rattle.sj_top.specs.Output.{element_text}

pub joined : (x : ℤ) (xs : List ℤ) → element_text x ++ flat_map (λ e. 32 ∷ element_text e) xs ≡ join_with_byte 32 (map element_text (x ∷ xs))
joined x [] = append-nil (element_text x)
joined x (y ∷ ys) = ap (λ t. element_text x ++ (32 ∷ t)) (joined y ys)

-- the elements go behind what the text had
pub joined_behind : (old new : List ℕ) (last : List ℕ) (xs : List ℤ) (x : ℤ) (more : List ℤ) → xs ≡ x ∷ more → new ≡ old ++ element_text x → last ≡ new ++ flat_map (λ e. 32 ∷ element_text e) more → last ≡ old ++ join_with_byte 32 (map element_text xs)
joined_behind old new last xs x more e h k =
    k ∙ ap (λ t. t ++ flat_map (λ e. 32 ∷ element_text e) more) h ∙ append_assoc old (element_text x) (flat_map (λ e. 32 ∷ element_text e) more)
    ∙ ap (λ t. old ++ t) (joined x more) ∙ ap (λ ys. old ++ join_with_byte 32 (map element_text ys)) (sym e)

-- one row more
pub rows_more : {X : Type 0} (f : X → List ℕ) (g : ℕ → X) (i : ℕ) (old now new : List ℕ) (x : X) → now ≡ old ++ flat_map f (map g (range_with_len 0 i)) → new ≡ now ++ f x → x ≡ g i → new ≡ old ++ flat_map f (map g (range_with_len 0 (i + 1)))
rows_more f g i old now new x h k e =
    k ∙ ap (λ t. t ++ f x) h ∙ flat_map_more f old (map g (range_with_len 0 i)) x
    ∙ ap (λ y. old ++ flat_map f (map g (range_with_len 0 i) ++ y ∷ [])) e
    ∙ ap (λ ys. old ++ flat_map f ys) (sym (map-range_with_len_more g 0 i i (omega arith)))
