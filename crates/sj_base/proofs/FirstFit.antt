-- What the first fit of a block says.
use Rattle.std.proofs.Common.{◌≡◌, ℕ, ◌+◌, ◌<◌, ◌≤◌, Bool, true, Option, Some, List, length, get_or, sym, ap, ◌∙◌, arith, nat_le, zip}
use Rattle.std.proofs.lemmas.Bool.Decides.{nat_tests}
use Rattle.std.proofs.lemmas.List.Quantifiers.{position-Some}
use Rattle.sj_base.specs.FirstFit.{first_fit}
use Rattle.sj_base.proofs.Lists.{get_or-zip, length-zip_same}

-- the disk is there, and has the bytes
pub first_fit-room : (sizes taken : List ℕ) (need d : ℕ) → length taken ≡ length sizes → first_fit sizes taken need ≡ Some d → (d < length sizes) × (get_or taken d 0 + need ≤ get_or sizes d 0)
first_fit-room sizes taken need d n e =
    let fits : ℕ × ℕ → Bool = λ x. nat_le (x.1 + need) x.0 in
    let h = position-Some fits (zip sizes taken) d (0, 0) e in
    let room : nat_le (get_or taken d 0 + need) (get_or sizes d 0) ≡ true = sym (ap fits (get_or-zip sizes taken d n)) ∙ h.1 in
    (omega (arith, h.0, length-zip_same sizes taken n), grind (arith, nat_tests, room))
