-- What shows in many operands, where no list of them is kept.
use Rattle.std.specs.Prelude.{ℕ, ℤ, Bool, ◌&&◌, ◌||◌, not, nat_le, nat_lt, Option, is_some, option_map, List, [], ◌∷◌, length, if◌then◌else◌}
use Rattle.std.specs.List.{list_all, list_any}
use Rattle.sj_codelet.specs.declared.kernel.Kernel.{Kernel}
use Rattle.sj_job.specs.declared.crowd.Crowd.{Crowd}
use Rattle.sj_job.specs.declared.form.OperandForm.{OperandForm}
use Rattle.sj_job.specs.declared.reason.Reason.{Reason}
use Rattle.sj_job.specs.declared.reason.Reason.TheVariants.{UnknownName, EndedName, UnknownCodelet, OperandCount, Limit}
use Rattle.sj_job.specs.declared.reason.LimitKind.TheVariants.{Statements, Priority}
use Rattle.sj_job.specs.Form.{each_some, operand_of, with_priority}
use Rattle.sj_job.specs.Judge.{Scope, is_ended, is_full, is_unknown, kernel_named}
use Rattle.sj_job.specs.Sentence.{are_counts, is_numbered_priority}
use Rattle.sj_job.specs.Word.{is_integer}
use Rattle.sj_meaning.specs.Sound.{is_priority}

-- more operands than any codelet has are no more than six here
abbrev pub up_to_six : ℕ → ℕ
up_to_six n = if nat_lt n 6 then n else 6

-- what shows in operands: whether each index has counts, whether a name is unknown, whether one is ended, and how many they are
abbrev pub crowd_of : Scope → List OperandForm → Crowd
crowd_of s os = record {
  numbered = list_all (λ o. are_counts o.child) os;
  unknown = list_any (λ o. is_unknown s o.name) os;
  ended = list_any (λ o. is_ended s o.name) os;
  count = up_to_six (length os);
}

-- what shows in the operands that these words spell, and the priority behind them
abbrev pub shown_in : Scope → List (List ℕ) → Option (Crowd × Option (List ℕ))
shown_in s ws = option_map (λ os. (crowd_of s os, (with_priority ws).1)) (each_some operand_of (with_priority ws).0)

-- each place of a number has one, in these operands, arguments and priority
abbrev pub has_numbers : Crowd → List (List ℕ) → Option (List ℕ) → Bool
has_numbers c args priority =
    list_all is_integer args && c.numbered && is_numbered_priority priority

-- the conditions of a call that go before those of its operands, by what shows in these, with so many arguments at least
abbrev pub call_reasons : (Kernel → Bool) → Scope → List ℕ → Crowd → ℕ → ℤ → List (Bool × Reason)
call_reasons has s codelet c n priority =
    (is_full s, Limit Statements)
    ∷ (not (is_priority priority), Limit Priority)
    ∷ (c.unknown, UnknownName)
    ∷ (c.ended, EndedName)
    ∷ (not (is_some (kernel_named has codelet)), UnknownCodelet)
    ∷ (nat_le 6 c.count || nat_lt 6 n, OperandCount)
    ∷ []
