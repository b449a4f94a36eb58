-- From what one clause says of a result to what another says.
use Rattle.std.proofs.Common.{Err, Ok, Result}
use Rattle.sj_machine.proofs.Words.{IfOk}

pub if-ok : {A E : Type 0} (r : Result A E) (P Q : A → Type 0) → IfOk r P → ((x : A) → P x → Q x) → IfOk r Q
if-ok (Ok x) P Q h f = f x h
if-ok (Err e) P Q h f = tt
