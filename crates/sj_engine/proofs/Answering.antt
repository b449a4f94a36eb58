-- From what a value is to what a clause says of it.
use Rattle.std.proofs.Common.{◌≡◌, None, Option, Some, refl}
use Rattle.std.specs.Prelude.{IfNone, IfSome}

pub if-some : {A : Type 0} (o : Option A) (P : A → Type 0) → ((x : A) → o ≡ Some x → P x) → IfSome o P
if-some None P f = tt
if-some (Some x) P f = f x refl

pub if-none : {A : Type 0} (o : Option A) (P : Type 0) → (o ≡ None → P) → IfNone o P
if-none None P f = f refl
if-none (Some x) P f = tt
