-- Lists to which a loop appends.
use Rattle.sj_lower.proofs.Words.{[], ap, append_assoc, get_or, length, List, map, sym, ℕ, ◌++◌, ◌+◌, ◌<◌, ◌∙◌, ◌∷◌, ◌≡◌}
use Rattle.std.proofs.Common.{take}
use Rattle.std.proofs.lemmas.List.{take_more, map-append}

-- one item more
pub pushed : {X Y : Type 0} (f : X → Y) (xs : List X) (start now next : List Y) (i : ℕ) (x : X) → i < length xs → now ≡ start ++ map f (take i xs) → next ≡ now ++ f x ∷ [] → x ≡ get_or xs i x → next ≡ start ++ map f (take (i + 1) xs)
pushed f xs start now next i x below e more is =
    more ∙ ap (λ ys. ys ++ f x ∷ []) e ∙ append_assoc start (map f (take i xs)) (f x ∷ []) ∙ ap (λ y. start ++ (map f (take i xs) ++ f y ∷ [])) is
    ∙ ap (λ ys. start ++ ys) (sym (map-append f (take i xs) (get_or xs i x ∷ [])) ∙ ap (map f) (sym (take_more xs i x below)))
