-- A codelet gives as many arrays as a task writes operands.
use Rattle.std.proofs.Common.{◌≡◌, ℕ, Bool, true, false, ◌&&◌, List, [], ◌∷◌, length, refl, ◌∙◌, sym, Option, Some, None, cond, ℤ, map as each_of, filter, arith, nat_eq}
use Rattle.std.proofs.lemmas.Bool.Decides.{nat_tests}
use Rattle.std.proofs.lemmas.List.{length-map}
use Rattle.std.proofs.lemmas.Bool.{and_parts}
use Rattle.sj_base.specs.declared.tile.Dims.{Dims}
use Rattle.sj_base.specs.declared.mode.Mode.{Mode}
use Rattle.sj_base.specs.declared.mode.Mode.TheVariants.{R, W, RW, Scratch, Redux, Commute}
use Rattle.sj_base.specs.Array.{Array}
use Rattle.sj_base.specs.Mode.{is_written}
use Rattle.sj_codelet.specs.declared.kernel.Kernel.{Kernel}
use Rattle.sj_codelet.specs.declared.formal.Formal.{Formal}
use Rattle.sj_codelet.specs.declared.formal.Formal.TheVariants.{R as FormalR, W as FormalW, RW as FormalRW, Scratch as FormalScratch}
use Rattle.sj_codelet.specs.Kernel.{kernel_of, formals_of, arguments_fit, dims_fit, fits, new_arrays, out}
use Rattle.sj_codelet.specs.Formal.{is_output}
use Rattle.sj_codelet.proofs.Table.{new_arrays-count}
use Rattle.sj_meaning.specs.Statement.{Operand, TaskLine}
use Rattle.sj_meaning.specs.State.{JobState}
use Rattle.sj_meaning.specs.Meaning.{written_of}
use Rattle.sj_meaning.specs.Sound.{mode_fits, modes_fit}
use Rattle.sj_meaning.specs.Sound.{child_dims, IsSoundTask}

pub written_as : (f : Formal) (m : Mode) → mode_fits f m ≡ true → is_written m ≡ is_output f
written_as FormalR R e = refl
written_as FormalR W e = absurd (cc)
written_as FormalR RW e = absurd (cc)
written_as FormalR Scratch e = absurd (cc)
written_as FormalR Redux e = absurd (cc)
written_as FormalR Commute e = absurd (cc)
written_as FormalW R e = absurd (cc)
written_as FormalW W e = refl
written_as FormalW RW e = absurd (cc)
written_as FormalW Scratch e = absurd (cc)
written_as FormalW Redux e = refl
written_as FormalW Commute e = refl
written_as FormalRW R e = absurd (cc)
written_as FormalRW W e = absurd (cc)
written_as FormalRW RW e = refl
written_as FormalRW Scratch e = absurd (cc)
written_as FormalRW Redux e = refl
written_as FormalRW Commute e = refl
written_as FormalScratch R e = absurd (cc)
written_as FormalScratch W e = absurd (cc)
written_as FormalScratch RW e = absurd (cc)
written_as FormalScratch Scratch e = refl
written_as FormalScratch Redux e = absurd (cc)
written_as FormalScratch Commute e = absurd (cc)

one_more : {X Y : Type 0} (b c : Bool) (x : X) (xs : List X) (y : Y) (ys : List Y) → b ≡ c → length xs ≡ length ys → length (cond b (x ∷ xs) xs) ≡ length (cond c (y ∷ ys) ys)
one_more true true x xs y ys e l = omega (arith, l)
one_more true false x xs y ys e l = absurd (cc)
one_more false true x xs y ys e l = absurd (cc)
one_more false false x xs y ys e l = l

written_formals : (fs : List Formal) (os : List (Operand (List ℕ))) → length os ≡ length fs → modes_fit fs os ≡ true → length (filter (λ o. is_written o.mode) os) ≡ length (filter is_output fs)
written_formals [] [] l e = refl
written_formals [] (o ∷ os) l e = absurd (omega (arith, l))
written_formals (f ∷ fs) [] l e = absurd (omega (arith, l))
written_formals (f ∷ fs) (o ∷ os) l e =
    let m = and_parts (mode_fits f o.mode) (modes_fit fs os) e in
    one_more (is_written o.mode) (is_output f) o (filter (λ p. is_written p.mode) os) f (filter is_output fs) (written_as f o.mode m.0) (written_formals fs os (omega (arith, l)) m.1)

written_length : (fs : List Formal) (os : List (Operand (List ℕ))) → length os ≡ length fs → modes_fit fs os ≡ true → length (written_of os) ≡ length (filter is_output fs)
written_length fs os l e = written_formals fs os l e

same_length : (a b : ℕ) → nat_eq a b ≡ true → a ≡ b
same_length a b e = grind (arith, nat_tests)

by_kernel : (has : Kernel → Bool) (args : List ℤ) (ds : List Dims) (os : List (Operand (List ℕ))) (ins : List Array) (o : Option Kernel) → length ds ≡ length os → (elim o as (λ _. Bool) [ None ↦ false | Some k ↦ has k && fits k args ds ]) ≡ true → modes_fit (elim o as (λ _. List Formal) [ None ↦ [] | Some k ↦ formals_of k ]) os ≡ true → length (elim o as (λ _. List Array) [ None ↦ [] | Some k ↦ new_arrays k args ins ]) ≡ length (written_of os)
by_kernel has args ds os ins None l f m = absurd (cc)
by_kernel has args ds os ins (Some k) l f m =
    let counted = (and_parts (nat_eq (length ds) (length (formals_of k))) (arguments_fit k args ds) (and_parts (nat_eq (length ds) (length (formals_of k)) && arguments_fit k args ds) (dims_fit k args ds) (and_parts (has k) (fits k args ds) f).1).0).0 in
    let as_many : length os ≡ length (formals_of k) = sym l ∙ same_length (length ds) (length (formals_of k)) counted in
    new_arrays-count k args ins ∙ sym (written_length (formals_of k) os as_many m)

pub gives_all : (has : Kernel → Bool) (S : JobState) (t : TaskLine (List ℕ)) (ins : List Array) → IsSoundTask has S t → length (out t.codelet t.args ins) ≡ length (written_of t.operands)
gives_all has S t ins h =
    by_kernel has t.args (each_of (child_dims S) t.operands) t.operands ins (kernel_of t.codelet) (length-map t.operands (child_dims S)) h.fits h.modes
