-- What a test of one mark says of it.
use Rattle.sj_core.proofs.Words.{ap, arith, claimant_of, Coming, false, Invalid, is_coming_by, is_entry, is_leaving, is_leaving_by, is_valid, Leaving, Mark, refl, same_worker, sym, true, Valid, Worker, ◌∙◌, ◌≡◌, ◌⊎◌}
use Rattle.std.proofs.lemmas.{Bool.false≢true, Bool.Decides.Decides-eqb}

pub same_worker-is : (v w : Worker) → same_worker v w ≡ true → v ≡ w
same_worker-is v w h = ap (λ i. let j : Worker = record { 0 = i } in j) ((Decides-eqb v.0 w.0).0 h)

pub same_worker-refl : (w : Worker) → same_worker w w ≡ true
same_worker-refl w = (Decides-eqb w.0 w.0).1 refl

pub coming_by-is : (w : Worker) (r : Mark) → is_coming_by w r ≡ true → r ≡ Coming w
coming_by-is w r h = search (arith, false≢true, same_worker-is)

pub leaving_by-is : (w : Worker) (r : Mark) → is_leaving_by w r ≡ true → r ≡ Leaving w
leaving_by-is w (Leaving v) h = ap (λ (u : Worker). Leaving u) (same_worker-is v w h)
leaving_by-is w r h = absurd (false≢true h)

pub leaving-by_some : (r : Mark) → is_leaving r ≡ true → (w : Worker) × (is_leaving_by w r ≡ true)
leaving-by_some (Leaving v) h = (v, same_worker-refl v)
leaving-by_some r h = absurd (false≢true h)

-- an entry comes or is valid, and doesn't leave
pub entry-cases : (r : Mark) → is_entry r ≡ true → ((w : Worker) × (r ≡ Coming w)) ⊎ (r ≡ Valid)
entry-cases r h = search (arith, false≢true)

-- a copy that doesn't leave is an entry
pub valid-entry : (r : Mark) → is_valid r ≡ true → is_leaving r ≡ false → is_entry r ≡ true
valid-entry Invalid v l = absurd (false≢true v)
valid-entry (Coming w) v l = absurd (false≢true v)
valid-entry Valid v l = refl
valid-entry (Leaving w) v l = absurd (false≢true (sym l))

-- what doesn't leave and is no entry is invalid
pub invalid-is : (r : Mark) → is_entry r ≡ false → is_leaving r ≡ false → r ≡ Invalid
invalid-is r h k = search (arith, false≢true)

pub leaving_by-leaves : (w : Worker) (r : Mark) → is_leaving_by w r ≡ true → is_leaving r ≡ true
leaving_by-leaves w r h = ap is_leaving (leaving_by-is w r h)

pub leaving_by-valid : (w : Worker) (r : Mark) → is_leaving_by w r ≡ true → is_valid r ≡ true
leaving_by-valid w r h = ap is_valid (leaving_by-is w r h)

pub leaving_by-no_entry : (w : Worker) (r : Mark) → is_leaving_by w r ≡ true → is_entry r ≡ false
leaving_by-no_entry w r h = ap is_entry (leaving_by-is w r h)

-- a copy leaves by one claim, and comes by one
pub leaving_by-one : (v w : Worker) (r : Mark) → is_leaving_by v r ≡ true → is_leaving_by w r ≡ true → v ≡ w
leaving_by-one v w r hv hw = ap claimant_of (sym (leaving_by-is v r hv) ∙ leaving_by-is w r hw)

pub coming_by-one : (v w : Worker) (r : Mark) → is_coming_by v r ≡ true → is_coming_by w r ≡ true → v ≡ w
coming_by-one v w r hv hw = ap claimant_of (sym (coming_by-is v r hv) ∙ coming_by-is w r hw)

pub leaving-is_none : (r : Mark) → is_leaving r ≡ true → is_entry r ≡ false
leaving-is_none r h = let by = leaving-by_some r h in leaving_by-no_entry by.0 r by.1
