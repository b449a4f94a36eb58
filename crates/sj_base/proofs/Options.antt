-- What is said of the value in an `Option`.
use Rattle.std.proofs.Common.{◌≡◌, Option, Some, None, refl, sym, subst}
use Rattle.std.specs.Prelude.{IfSome, IsSomeAnd}
use Rattle.std.proofs.lemmas.Option.{same_Some, none-some}

-- a term with its type
pub the : (X : Type 0) → X → X
the X x = x

pub IfSome-at : {X : Type 0} (P : X → Type 0) (o : Option X) (x : X) → o ≡ Some x → IfSome o P → P x
IfSome-at P None x e h = absurd (none-some x e)
IfSome-at P (Some y) x e h = subst P (same_Some y x e) h

pub IfSome-from : {X : Type 0} (P : X → Type 0) (o : Option X) (x : X) → o ≡ Some x → P x → IfSome o P
IfSome-from P None x e h = tt
IfSome-from P (Some y) x e h = subst P (sym (same_Some y x e)) h

pub IsSomeAnd-from : {X : Type 0} (P : X → Type 0) (o : Option X) (x : X) → o ≡ Some x → P x → IsSomeAnd o P
IsSomeAnd-from P o x e h = subst (λ y. IsSomeAnd y P) (sym e) h

pub IsSomeAnd-at : {X : Type 0} (P : X → Type 0) (o : Option X) → IsSomeAnd o P → (x : X) × (o ≡ Some x) × P x
IsSomeAnd-at P None h = absurd h
IsSomeAnd-at P (Some x) h = (x, refl, h)
