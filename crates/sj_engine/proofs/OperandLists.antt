-- The operands of a task made of shares, the last first.
use Rattle.std.proofs.Common.{◌≡◌, ◌+◌, Bool, true, false, cond, List, [], ◌∷◌, ◌++◌, length, refl, sym, ap, ◌∙◌, subst, arith}
use Rattle.std.specs.Prelude.{All, MatchBool}
use Rattle.std.proofs.lemmas.List.{append-nil, length_push, map-append, length-map}
use Rattle.std.proofs.lemmas.List.Elements.{filter-append}
use Rattle.sj_base.specs.declared.mode.Access.{Access}
use Rattle.sj_base.specs.declared.program.Program.{Program}
use Rattle.sj_base.specs.Array.{Array, zeros}
use Rattle.sj_base.specs.Mode.{reads_value, reads_of}
use Rattle.sj_codelet.specs.Frame.{Slot, arrays, own, shared}
use Rattle.sj_core.specs.Program.{dims_of}
use Rattle.sj_engine.specs.Operands.{IsFresh, MakesOperand, TakesLast, first_share, later_shares, operand_from, operands_from}
use Rattle.sj_base.proofs.Lists.{All-front}

pub reads-push : (xs : List Access) (a : Access) → reads_of (xs ++ a ∷ []) ≡ reads_of xs ++ cond (reads_value a.mode) (a ∷ []) []
reads-push xs a = filter-append (λ (b : Access). reads_value b.mode) xs (a ∷ [])

-- the operands of some accesses and then of more
pub operands_from-append : (p : Program) (xs ys : List Access) (vs us : List Array) → length vs ≡ length (reads_of xs) → operands_from p (xs ++ ys) (vs ++ us) ≡ operands_from p xs vs ++ operands_from p ys us
operands_from-append p [] ys [] us n = refl
operands_from-append p [] ys (a ∷ vs) us n = absurd (omega arith)
operands_from-append p (x ∷ xs) ys vs us n = by_cases (reads_value x.mode) refl vs n (λ ts. operands_from-append p xs ys ts us)
  where
    by_cases : (b : Bool) → reads_value x.mode ≡ b → (vs : List Array) → length vs ≡ length (reads_of (x ∷ xs)) → ((ts : List Array) → length ts ≡ length (reads_of xs) → operands_from p (xs ++ ys) (ts ++ us) ≡ operands_from p xs ts ++ operands_from p ys us) → operands_from p ((x ∷ xs) ++ ys) (vs ++ us) ≡ operands_from p (x ∷ xs) vs ++ operands_from p ys us
    by_cases true h [] n front = absurd (let k : 0 ≡ length (cond true (x ∷ reads_of xs) (reads_of xs)) = n ∙ ap (λ b. length (cond b (x ∷ reads_of xs) (reads_of xs))) h in omega arith)
    by_cases true h (a ∷ vs) n front =
        let k : length (a ∷ vs) ≡ length (cond true (x ∷ reads_of xs) (reads_of xs)) = n ∙ ap (λ b. length (cond b (x ∷ reads_of xs) (reads_of xs))) h in
        ap (λ b. cond b (operand_from x a ∷ operands_from p (xs ++ ys) (vs ++ us)) (own (zeros (dims_of p x.cell)) ∷ operands_from p (xs ++ ys) ((a ∷ vs) ++ us))) h
        ∙ ap (λ (l : List Slot). operand_from x a ∷ l) (front vs (omega arith))
        ∙ ap (λ b. cond b (operand_from x a ∷ operands_from p xs vs) (own (zeros (dims_of p x.cell)) ∷ operands_from p xs (a ∷ vs)) ++ operands_from p ys us) (sym h)
    by_cases false h vs n front =
        let k : length vs ≡ length (cond false (x ∷ reads_of xs) (reads_of xs)) = n ∙ ap (λ b. length (cond b (x ∷ reads_of xs) (reads_of xs))) h in
        ap (λ b. cond b (operand_from x (first_share p x (vs ++ us)) ∷ operands_from p (xs ++ ys) (later_shares (vs ++ us))) (own (zeros (dims_of p x.cell)) ∷ operands_from p (xs ++ ys) (vs ++ us))) h
        ∙ ap (λ (l : List Slot). own (zeros (dims_of p x.cell)) ∷ l) (front vs k)
        ∙ ap (λ b. cond b (operand_from x (first_share p x vs) ∷ operands_from p xs (later_shares vs)) (own (zeros (dims_of p x.cell)) ∷ operands_from p xs vs) ++ operands_from p ys us) (sym h)

-- one step: the last operand is made, and then those before it
module _ (p : Program) (accesses before : List Access) (last : Access) (e : accesses ≡ before ++ last ∷ []) (slots rest : List Slot) (slot : Slot) (made : MakesOperand p last slots rest slot) (count : length slots ≡ length (reads_of accesses)) where
  module _ (h : reads_value last.mode ≡ true) where
    takes : TakesLast last slots rest slot
    takes = subst (λ b. MatchBool b (TakesLast last slots rest slot) (IsFresh p last slots rest slot)) h made

  fresh : reads_value last.mode ≡ false → IsFresh p last slots rest slot
  fresh h = subst (λ b. MatchBool b (TakesLast last slots rest slot) (IsFresh p last slots rest slot)) h made

  reads-are : (b : Bool) → reads_value last.mode ≡ b → reads_of accesses ≡ reads_of before ++ cond b (last ∷ []) []
  reads-are b h = ap reads_of e ∙ reads-push before last ∙ ap (λ c. reads_of before ++ cond c (last ∷ []) []) h

  pub count-before : length rest ≡ length (reads_of before)
  count-before = by_cases (reads_value last.mode) refl
    where
      by_cases : (b : Bool) → reads_value last.mode ≡ b → length rest ≡ length (reads_of before)
      by_cases true h =
          let n : length (reads_of accesses) ≡ length (reads_of before) + 1 = ap length (reads-are true h) ∙ length_push (reads_of before) last in
          let k : length slots ≡ length rest + 1 = ap length (takes h).taken ∙ length_push rest (shared (takes h).share) in
          omega arith
      by_cases false h =
          let n : length (reads_of accesses) ≡ length (reads_of before) = ap length (reads-are false h ∙ append-nil (reads_of before)) in
          ap length (fresh h).stays ∙ count ∙ n

  pub shared-before : All (λ s. s.owned ≡ false) slots → All (λ s. s.owned ≡ false) rest
  shared-before all = by_cases (reads_value last.mode) refl
    where
      by_cases : (b : Bool) → reads_value last.mode ≡ b → All (λ s. s.owned ≡ false) rest
      by_cases true h = All-front (λ (s : Slot). s.owned ≡ false) slots rest (shared (takes h).share) (takes h).taken all
      by_cases false h = subst (λ (l : List Slot). All (λ s. s.owned ≡ false) l) (sym (fresh h).stays) all

  pub operands-are : (new more : List Slot) → new ≡ operands_from p before (arrays rest) → more ≡ new ++ slot ∷ [] → more ≡ operands_from p accesses (arrays slots)
  operands-are new more f g = by_cases (reads_value last.mode) refl
    where
      n : length (arrays rest) ≡ length (reads_of before)
      n = length-map rest (λ (s : Slot). s.array) ∙ count-before

      joined : (tail : List Slot) → tail ≡ slot ∷ [] → more ≡ operands_from p before (arrays rest) ++ tail
      joined tail k = g ∙ ap (λ (l : List Slot). l ++ slot ∷ []) f ∙ ap (λ (l : List Slot). operands_from p before (arrays rest) ++ l) (sym k)

      by_cases : (b : Bool) → reads_value last.mode ≡ b → more ≡ operands_from p accesses (arrays slots)
      by_cases true h =
          let x = (takes h).share in
          let one : operands_from p (last ∷ []) (x ∷ []) ≡ slot ∷ [] = ap (λ b. cond b (operand_from last x ∷ []) (own (zeros (dims_of p last.cell)) ∷ [])) h ∙ ap (λ (s : Slot). s ∷ []) (sym (takes h).made) in
          let a : arrays slots ≡ arrays rest ++ x ∷ [] = ap arrays (takes h).taken ∙ map-append (λ (s : Slot). s.array) rest (shared x ∷ []) in
          joined (operands_from p (last ∷ []) (x ∷ [])) one
          ∙ sym (operands_from-append p before (last ∷ []) (arrays rest) (x ∷ []) n)
          ∙ ap (λ (l : List Array). operands_from p (before ++ last ∷ []) l) (sym a)
          ∙ ap (λ (l : List Access). operands_from p l (arrays slots)) (sym e)
      by_cases false h =
          let one : operands_from p (last ∷ []) [] ≡ slot ∷ [] = ap (λ b. cond b (operand_from last (first_share p last []) ∷ []) (own (zeros (dims_of p last.cell)) ∷ [])) h ∙ ap (λ (s : Slot). s ∷ []) (sym (fresh h).made) in
          let a : arrays slots ≡ arrays rest ++ [] = ap arrays (sym (fresh h).stays) ∙ sym (append-nil (arrays rest)) in
          joined (operands_from p (last ∷ []) []) one
          ∙ sym (operands_from-append p before (last ∷ []) (arrays rest) [] n)
          ∙ ap (λ (l : List Array). operands_from p (before ++ last ∷ []) l) (sym a)
          ∙ ap (λ (l : List Access). operands_from p l (arrays slots)) (sym e)
