-- Going over the words behind a codelet, one more.
use Rattle.std.proofs.Common.{◌≡◌, ℕ, List, [], ◌∷◌, ◌++◌, refl, ap, ◌∙◌, sym, Option, Some, None, option_map, append_assoc}
use Rattle.sj_job.specs.declared.form.OperandForm.{OperandForm}
use Rattle.sj_job.specs.Form.{each_some, operand_of}

abbrev Said : Type 0
Said = List OperandForm × Option (List ℕ)

-- operands behind others that were read, and a priority
abbrev behind : List OperandForm → Option (List ℕ) → Option (List OperandForm) → Option Said
behind front p o = option_map {U = Said} (λ os. (front ++ os, p)) o

-- what the words of operands and a priority say behind operands that were read
abbrev pub said_after : List OperandForm → List (List ℕ) × Option (List ℕ) → Option Said
said_after front p = behind front p.1 (each_some operand_of p.0)

abbrev onto : Option OperandForm → Option (List OperandForm) → Option (List OperandForm)
onto o rest = elim o [ None ↦ None | Some y ↦ option_map (λ ys. y ∷ ys) rest ]

moved : (front : List OperandForm) (y : OperandForm) (p : Option (List ℕ)) (o : Option (List OperandForm)) → behind front p (option_map (λ ys. y ∷ ys) o) ≡ behind (front ++ y ∷ []) p o
moved front y p None = refl
moved front y p (Some os) = ap (λ (l : List OperandForm). Some (let s : Said = (l, p) in s)) (sym (append_assoc front (y ∷ []) os))

-- a word of an operand goes behind the front
pub walk-more : (front : List OperandForm) (w : List ℕ) (ws : List (List ℕ)) (p : Option (List ℕ)) (y : OperandForm) → operand_of w ≡ Some y → behind front p (each_some operand_of (w ∷ ws)) ≡ behind (front ++ y ∷ []) p (each_some operand_of ws)
walk-more front w ws p y e =
    ap (λ o. behind front p (onto o (each_some operand_of ws))) e
    ∙ moved front y p (each_some operand_of ws)
