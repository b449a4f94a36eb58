-- What holds of each codelet of the table, by a look at each row: no other file goes through the rows for it.
use Rattle.std.proofs.Common.{◌+◌, None, Option, nat_eq, ◌≡◌, ◌≤◌, ◌<◌, get_or, ℕ, zero, suc, Bool, true, false, Some, List, [], ◌∷◌, ℤ, length, map, refl, sym, ap, ◌∙◌, arith}
use Rattle.std.specs.Prelude.{slice_get, nat_le, ◌&&◌, if◌then◌else◌}
use Rattle.std.specs.List.{list_all, filter}
use Rattle.sj_base.specs.declared.tile.Dims.{Dims}
use Rattle.sj_base.specs.Array.{Array}
use Rattle.sj_codelet.specs.declared.kernel.Kernel.{Kernel}
use Rattle.sj_codelet.specs.declared.kernel.Kernel.TheVariants.{Deliver}
use Rattle.sj_codelet.specs.declared.formal.Formal.{Formal}
use Rattle.std.proofs.lemmas.Bool.{and_parts, leb-true}
use Rattle.std.proofs.lemmas.{Bool.Decides.Decides-eqb}
use Rattle.sj_base.specs.declared.program.Codelet.{Codelet}
use Rattle.std.proofs.lemmas.Option.{slice_get-get_or}
use Rattle.sj_base.proofs.Bools.{and_rest}
use Rattle.sj_codelet.specs.Equations.{after_turns}
use Rattle.sj_codelet.specs.Formal.{is_output, outputs_among}
use Rattle.sj_codelet.specs.Kernel.{kernels, kernel_of, codelet_of, id_of, formals_of, dims_at, dims_fit, operand, new_arrays, out}
use Rattle.sj_codelet.proofs.Operands.{same_dims}

-- each codelet stands in the table at its id
pub kernel_of-codelet_of : (k : Kernel) → kernel_of (codelet_of k) ≡ Some k
kernel_of-codelet_of Deliver = refl
kernel_of-codelet_of k = refl

-- the codelets of a list have their places, from n on, as ids
abbrev stand_from : ℕ → List Kernel → Bool
stand_from n [] = true
stand_from n (x ∷ xs) = nat_eq (id_of x) n && stand_from (suc n) xs

stands-at : (n : ℕ) (xs : List Kernel) (i : ℕ) (k : Kernel) → stand_from n xs ≡ true → slice_get xs i ≡ Some k → n + i ≡ id_of k
stands-at n [] i k all e = absurd (cc)
stands-at n (x ∷ xs) zero k all e =
    let both = and_parts (nat_eq (id_of x) n) (stand_from (suc n) xs) all in
    let is : x ≡ k = cc in
    let own : id_of x ≡ n = (Decides-eqb (id_of x) n).0 both.0 in
    omega (arith, own, ap id_of is)
stands-at n (x ∷ xs) (suc i) k all e =
    let both = and_parts (nat_eq (id_of x) n) (stand_from (suc n) xs) all in
    let rest : suc n + i ≡ id_of k = stands-at (suc n) xs i k both.1 e in
    omega (arith, rest)

-- an id is that of the codelet that stands there
pub codelet_of-kernel : (id : Codelet) (k : Kernel) → kernel_of id ≡ Some k → id ≡ codelet_of k
codelet_of-kernel id k e = ap (λ (n : ℕ). let c : Codelet = record { 0 = n } in c) (let n : id.0 ≡ id_of k = (let at : 0 + id.0 ≡ id_of k = stands-at 0 kernels id.0 k refl e in omega (arith, at)) in n)

-- the table's equation of a codelet
pub out-kernel : (k : Kernel) (args : List ℤ) (ins : List Array) → out (codelet_of k) args ins ≡ new_arrays k args ins
out-kernel k args ins = ap (λ (o : Option Kernel). elim o as (λ _. List Array) [ None ↦ [] | Some j ↦ new_arrays j args ins ]) (kernel_of-codelet_of k)

-- what stands at a place of the table
pub kernel_at : (n : ℕ) (d : Kernel) → n < length kernels → slice_get kernels n ≡ Some (get_or kernels n d)
kernel_at n d h = slice_get-get_or kernels n d h

-- what all rows pass, the row at a place passes
pub passes-at : {X : Type 0} (test : X → Bool) (xs : List X) (n : ℕ) (x : X) → list_all test xs ≡ true → slice_get xs n ≡ Some x → test x ≡ true
passes-at test [] n x all e = cc
passes-at test (y ∷ xs) zero x all e = by_parts (test y) (list_all test xs) refl all
  where
    by_parts : (a b : Bool) → test y ≡ a → (a && b) ≡ true → test x ≡ true
    by_parts true b h t = let is : y ≡ x = cc in ap test (sym is) ∙ h
    by_parts false b h t = absurd (cc)
passes-at test (y ∷ xs) (suc n) x all e = passes-at test xs n x (and_rest (test y) (list_all test xs) all) e

-- a test that each row passes: `by_table test refl k`
pub by_table : (test : Kernel → Bool) → list_all test kernels ≡ true → (k : Kernel) → test k ≡ true
by_table test all k = passes-at test kernels (id_of k) k all (kernel_of-codelet_of k)

-- no codelet has more than five operands
pub few-formals : (k : Kernel) → length (formals_of k) ≤ 5
few-formals k = leb-true (length (formals_of k)) 5 (by_table (λ k. nat_le (length (formals_of k)) 5) refl k)

-- ---- new arrays

-- a codelet has a new array for each operand that it writes
pub new_arrays-count : (k : Kernel) (args : List ℤ) (ins : List Array) → length (new_arrays k args ins) ≡ length (filter is_output (formals_of k))
new_arrays-count Deliver args ins = refl
new_arrays-count k args ins = refl

turns-dims : (n : ℕ) (turn : ℕ → Array → Array) (a : Array) → ((k : ℕ) (m : Array) → (turn k m).dims ≡ m.dims) → (after_turns n turn a).dims ≡ a.dims
turns-dims zero turn a h = refl
turns-dims (suc n) turn a h = h n (after_turns n turn a) ∙ turns-dims n turn a h

abbrev pub each_dims : List Array → List Dims
each_dims xs = map (λ (a : Array). a.dims) xs

-- the dimensions of the operands that get new arrays, by their places
abbrev at_outputs : List Formal → (ℕ → Dims) → List Dims
at_outputs [] dims = []
at_outputs (f ∷ fs) dims = if is_output f then dims 0 ∷ at_outputs fs (λ n. dims (suc n)) else at_outputs fs (λ n. dims (suc n))

outputs_among-at : (fs : List Formal) (ins : List Array) → length ins ≡ length fs → at_outputs fs (λ n. (operand ins n).dims) ≡ outputs_among fs (each_dims ins)
outputs_among-at [] ins l = refl
outputs_among-at (f ∷ fs) [] l = absurd (omega arith)
outputs_among-at (f ∷ fs) (a ∷ ins) l =
    ap (λ ds. if is_output f then a.dims ∷ ds else ds) (outputs_among-at fs ins (omega (arith, l)))

-- the dimensions of an operand
pub dims_at-each_dims : (ins : List Array) (n : ℕ) → dims_at (each_dims ins) n ≡ (operand ins n).dims
dims_at-each_dims [] n = refl
dims_at-each_dims (a ∷ ins) zero = refl
dims_at-each_dims (a ∷ ins) (suc n) = dims_at-each_dims ins n

ruleset kept_dims = (same_dims, dims_at-each_dims, turns-dims)

dims-new : (k : Kernel) (args : List ℤ) (ins : List Array) → dims_fit k args (each_dims ins) ≡ true → each_dims (new_arrays k args ins) ≡ at_outputs (formals_of k) (λ n. (operand ins n).dims)
dims-new Deliver args ins h = refl
dims-new k args ins h = search (arith, kept_dims)

-- new arrays have the dimensions of the operands whose place they take
pub new_arrays-dims : (k : Kernel) (args : List ℤ) (ins : List Array) → length ins ≡ length (formals_of k) → dims_fit k args (each_dims ins) ≡ true → each_dims (new_arrays k args ins) ≡ outputs_among (formals_of k) (each_dims ins)
new_arrays-dims k args ins l h = dims-new k args ins h ∙ outputs_among-at (formals_of k) ins l
