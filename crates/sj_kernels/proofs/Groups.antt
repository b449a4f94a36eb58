-- Elements that are written eight at a time, and products and sums whose numbers were passed on.
use Rattle.std.proofs.Common.{◌≡◌, ℕ, ◌+◌, ℤ, ◌+ℤ◌, ◌*ℤ◌, [], ◌∷◌, w64, to_z, of_z, sym, ap, ◌∙◌}
use Rattle.sj_codelet.specs.Ring.{wrap, sum_below}
use Rattle.sj_codelet.specs.Listing.{listing}
use Rattle.sj_codelet.proofs.Sums.{total_more}
use Rattle.sj_kernels.proofs.Places.{passed_start}

pub eight : (f : ℕ → ℤ) (s t u v w x y z : ℤ) → s ≡ f 0 → t ≡ f 1 → u ≡ f 2 → v ≡ f 3 → w ≡ f 4 → x ≡ f 5 → y ≡ f 6 → z ≡ f 7 → s ∷ t ∷ u ∷ v ∷ w ∷ x ∷ y ∷ z ∷ [] ≡ listing 8 f
unfolding listing
eight f s t u v w x y z es et eu ev ew ex ey ez = cc

pub product_of : (a x r s v : ℤ) → v ≡ wrap (r *ℤ s) → r ≡ a → s ≡ x → to_z w64 (of_z w64 v) ≡ wrap (a *ℤ x)
product_of a x r s v h ea ex = passed_start v (r *ℤ s) h ∙ ap (λ (z : ℤ). wrap (z *ℤ s)) ea ∙ ap (λ (z : ℤ). wrap (a *ℤ z)) ex

pub sum_of : (t a x q r s v : ℤ) → v ≡ wrap (q +ℤ (r *ℤ s)) → q ≡ t → r ≡ a → s ≡ x → to_z w64 (of_z w64 v) ≡ wrap (t +ℤ (a *ℤ x))
sum_of t a x q r s v h et ea ex =
    passed_start v (q +ℤ (r *ℤ s)) h ∙ ap (λ (z : ℤ). wrap (z +ℤ (r *ℤ s))) et ∙ ap (λ (z : ℤ). wrap (t +ℤ (z *ℤ s))) ea ∙ ap (λ (z : ℤ). wrap (t +ℤ (a *ℤ z))) ex

-- a running total of products, one term on
pub products_more : (x y : ℕ → ℤ) (n m : ℕ) (s p r v : ℤ) → v ≡ wrap (s +ℤ (p *ℤ r)) → s ≡ wrap (sum_below n (λ k. x k *ℤ y k)) → p ≡ x n → r ≡ y n → m ≡ n + 1 → to_z w64 (of_z w64 v) ≡ wrap (sum_below m (λ k. x k *ℤ y k))
products_more x y n m s p r v h e ep er em =
    let f = λ (k : ℕ). x k *ℤ y k in
    let term : p *ℤ r ≡ f n = ap (λ (z : ℤ). z *ℤ r) ep ∙ ap (λ (z : ℤ). x n *ℤ z) er in
    passed_start v (sum_below m f) (total_more s v n f e (h ∙ ap (λ (z : ℤ). wrap (s +ℤ z)) term) ∙ sym (ap (λ (k : ℕ). wrap (sum_below k f)) em))
