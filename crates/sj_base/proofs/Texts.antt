-- Texts that are equal byte by byte.
use Rattle.std.proofs.Common.{◌≡◌, ℕ, true, false, List, sym, ap, refl, ◌∙◌}
use Rattle.std.specs.Str.{bytes_eq}
use Rattle.std.proofs.lemmas.Bool.{false≢true}
use Rattle.std.proofs.lemmas.Slice.Eq.{bytes_eq-Decides}

pub same_text : (a b : List ℕ) → bytes_eq a b ≡ true → a ≡ b
same_text a b e = (bytes_eq-Decides a b).0 e

pub other_text : (a b : List ℕ) → bytes_eq a b ≡ false → a ≡ b → ⊥
other_text a b e same = false≢true (sym e ∙ ap (bytes_eq a) (sym same) ∙ (bytes_eq-Decides a a).1 refl)
