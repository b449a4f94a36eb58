-- Ids, places and names of the table belong to one codelet each.
use Rattle.std.proofs.Common.{◌≡◌, ℕ, zero, suc, ◌+◌, Bool, true, false, ◌&&◌, ◌||◌, not, cond, Option, Some, None, List, [], ◌∷◌, refl, sym, ap, subst, ◌∙◌, arith}
use Rattle.std.specs.Prelude.{find, slice_get, option_map, IfSome, nat_eq}
use Rattle.std.specs.List.{list_all}
use Rattle.std.specs.Str.{bytes_eq}
use Rattle.std.proofs.lemmas.Bool.{and_from, and_parts, false≢true}
use Rattle.std.proofs.lemmas.Bool.Decides.{Decides-eqb}
use Rattle.std.proofs.lemmas.Slice.Eq.{bytes_eq-Decides}
use Rattle.sj_base.proofs.Bools.{implied}
use Rattle.sj_codelet.specs.declared.kernel.Kernel.{Kernel}
use Rattle.sj_codelet.specs.Kernel.{kernels, id_of, kernel_name, has_name, kernel_of, codelet_of, named_in}
use Rattle.sj_codelet.proofs.Table.{kernel_of-codelet_of, by_table, passes-at}
use Rattle.sj_base.specs.declared.program.Codelet.{Codelet}

-- each codelet's id is its place, counted from here
abbrev are_in_place : List Kernel → ℕ → Bool
are_in_place [] from = true
are_in_place (k ∷ ks) from = nat_eq (id_of k) from && are_in_place ks (suc from)

place_of : (ks : List Kernel) (from n : ℕ) (k : Kernel) → are_in_place ks from ≡ true → slice_get ks n ≡ Some k → id_of k ≡ n + from
place_of [] from n k h e = cc
place_of (j ∷ ks) from zero k h e =
    let same : j ≡ k = cc in
    let here : id_of j ≡ from = (Decides-eqb (id_of j) from).0 (and_parts (nat_eq (id_of j) from) (are_in_place ks (suc from)) h).0 in
    ap id_of (sym same) ∙ here ∙ omega arith
place_of (j ∷ ks) from (suc n) k h e =
    let rest = place_of ks (suc from) n k (and_parts (nat_eq (id_of j) from) (are_in_place ks (suc from)) h).1 e in omega arith

-- the place of a codelet in the table is its id
pub id_of_place : (n : ℕ) (k : Kernel) → slice_get kernels n ≡ Some k → id_of k ≡ n
id_of_place n k e = let p = place_of kernels 0 n k refl e in omega arith

abbrev codelet_at : ℕ → Codelet
codelet_at n = record { 0 = n }

-- of two codelets the first has the second's name only where it has its id too
abbrev are_apart : Kernel → Kernel → Bool
are_apart j k = not (elim (kernel_name k) [ None ↦ false | Some name ↦ has_name name j ]) || nat_eq (id_of j) (id_of k)

named_alike : (j k : Kernel) (n : List ℕ) → kernel_name k ≡ Some n → has_name n j ≡ true → j ≡ k
named_alike j k n own named =
    let row = by_table (λ i. list_all (are_apart i) kernels) refl j in
    let apart = passes-at (are_apart j) kernels (id_of k) k row (kernel_of-codelet_of k) in
    let known = subst (λ (o : Option (List ℕ)). (not (elim o as (λ _. Bool) [ None ↦ false | Some name ↦ has_name name j ]) || nat_eq (id_of j) (id_of k)) ≡ true) own apart in
    let ids : id_of j ≡ id_of k = (Decides-eqb (id_of j) (id_of k)).0 (implied (has_name n j) (nat_eq (id_of j) (id_of k)) known named) in
    let both : Some j ≡ Some k = sym (kernel_of-codelet_of j) ∙ ap (λ (i : ℕ). kernel_of (codelet_at i)) ids ∙ kernel_of-codelet_of k in
    cc

-- the only one that passes is the one that is found
find-only : (test : Kernel → Bool) (ks : List Kernel) (n : ℕ) (k : Kernel) → slice_get ks n ≡ Some k → test k ≡ true → ((j : Kernel) → test j ≡ true → j ≡ k) → find test ks ≡ Some k
find-only test [] n k e h only = cc
find-only test (j ∷ ks) n k e h only = by_test (test j) refl n e (λ m there. find-only test ks m k there h only)
  where
    by_test : (b : Bool) → test j ≡ b → (m : ℕ) → slice_get (j ∷ ks) m ≡ Some k → ((m : ℕ) → slice_get ks m ≡ Some k → find test ks ≡ Some k) → cond b (Some j) (find test ks) ≡ Some k
    by_test true passes m here rest = ap (λ (i : Kernel). Some i) (only j passes)
    by_test false fails zero here rest = let same : j ≡ k = cc in absurd (false≢true (sym fails ∙ ap test same ∙ h))
    by_test false fails (suc m) there rest = rest m there

-- the codelet that is found by its own name
pub found_by_name : (has : Kernel → Bool) (k : Kernel) (n : List ℕ) → has k ≡ true → kernel_name k ≡ Some n → find (λ j. has j && has_name n j) kernels ≡ Some k
found_by_name has k n h e =
    let itself : has_name n k ≡ true = subst (λ (o : Option (List ℕ)). (elim o as (λ _. Bool) [ None ↦ false | Some own ↦ bytes_eq own n ]) ≡ true) (sym e) ((bytes_eq-Decides n n).1 refl) in
    find-only (λ j. has j && has_name n j) kernels (id_of k) k (kernel_of-codelet_of k) (and_from (has k) (has_name n k) h itself)
    (λ j both. named_alike j k n e (and_parts (has j) (has_name n j) both).1)

-- an id of the table is its codelet's
pub id_of_kernel : (id : Codelet) (k : Kernel) → kernel_of id ≡ Some k → codelet_of k ≡ id
id_of_kernel id k e = ap (λ (n : ℕ). codelet_at n) (id_of_place id.0 k e)

-- the codelet that a set finds by its own name
pub named_by_own : (has : Kernel → Bool) (id : Codelet) (k : Kernel) (n : List ℕ) → kernel_of id ≡ Some k → has k ≡ true → kernel_name k ≡ Some n → named_in has n ≡ Some id
named_by_own has id k n e h own =
    ap (λ (r : Option Kernel). option_map codelet_of r) (found_by_name has k n h own) ∙ ap (λ (i : Codelet). Some i) (id_of_kernel id k e)

pub if_some_of : {X : Type 0} (f : X → List ℕ) (r : Option X) (o : Option (List ℕ)) (P : List ℕ → Type 0) → option_map f r ≡ o → ((n : List ℕ) → o ≡ Some n → P n) → IfSome r (λ x. P (f x))
if_some_of f None o P e h = tt
if_some_of f (Some x) o P e h = h (f x) (sym e)
