-- The rule of a queue: what it holds, and what each pass of it put and took.
use Rattle.std.specs.Prelude.{◌≡◌, ℕ, ◌+◌, ◌-◌, List, [], ◌∷◌, ◌++◌, ◌==◌, count_by, sum_by}
use mathlib.Core.Option.{some}
use lib.ListN.{get_elem?}
use Rattle.sj_base.specs.declared.ids.Task.{Task}
use Rattle.sj_steal.specs.declared.account.Account.{Account}

abbrev pub account : ℕ → List Task → List Task → Account
account parts put taken = record { parts = parts; put = put; taken = taken }

-- how often the task stands in a list
abbrev pub times : Task → List Task → ℕ
times t = count_by (λ u. u.0 == t.0)

-- the account, after a task more was put, and after one more was taken
abbrev pub after_put : Account → Task → Account
after_put v t = account v.parts (v.put ++ t ∷ []) v.taken

abbrev pub after_take : Account → Task → Account
after_take v t = account v.parts v.put (v.taken ++ t ∷ [])

-- the account, after one of its parts was given away
abbrev pub after_deal : Account → Account
after_deal v = account (v.parts - 1) v.put v.taken

-- two accounts in one
abbrev pub as_one : Account → Account → Account
as_one v w = account (v.parts + w.parts) (v.put ++ w.put) (v.taken ++ w.taken)

-- All parts are 256. As often as a task was put, it was taken or is still there. Who has no part has put and taken nothing
pub record IsFair (items : List Task) (views : List Account) : Type 0 where
  pub parts : sum_by (λ v. v.parts) views ≡ 256
  pub even : (t : Task) → sum_by (λ v. times t v.put) views ≡ sum_by (λ v. times t v.taken) views + times t items
  pub idle : (port : ℕ) (v : Account) → get_elem? views port ≡ some v → v.parts ≡ 0 → (v.put ≡ []) × (v.taken ≡ [])

-- as often as the account put a task, it took it or it is in the list
abbrev pub Balances : Account → List Task → Type 0
Balances v items = (t : Task) → times t v.put ≡ times t v.taken + times t items

-- who has every part knows what the queue holds
abbrev pub Knows : Account → List Task → Type 0
Knows v items = v.parts ≡ 256 → Balances v items
