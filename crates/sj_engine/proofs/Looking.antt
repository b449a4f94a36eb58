-- What a look has tried, from one try to the next.
use Rattle.std.proofs.Common.{◌≡◌, ℕ, ◌+◌, ◌<◌, ◌≤◌, ◌∙◌, ◌++◌, ◌∷◌, [], List, Option, Some, IfSome, arith, inl, inr, length, refl, slice_index_or, slice_set, subst, sym, take}
use Rattle.std.proofs.lemmas.Bool.{cases_lt}
use Rattle.std.proofs.lemmas.List.{get_or_append_left, get_or_push, length-take-le, length_push, take-append-le, take_more_set}
use Rattle.std.proofs.Math.Seq.{take-append_seam}
use Rattle.sj_base.specs.declared.ids.Task.{Task}
use Rattle.sj_base.specs.declared.ids.Worker.{Worker}
use Rattle.sj_base.specs.declared.trace.Event.{Event}
use Rattle.sj_core.specs.Legal.{state_of}
use Rattle.sj_core.specs.Needs.{footprint, node_of, node_size}
use Rattle.sj_machine.specs.Planning.{IsWhy}
use Rattle.sj_board.specs.Board.{BoardState}
use Rattle.sj_board.specs.BoardRow.{BoardKey, key_of}
use Rattle.sj_board.specs.Passing.{HasLost}
use Rattle.sj_engine.specs.Looking.{CannotClaim, HasPassed, IsLeftTo, IsPassed, NoneIsLeftTo, PoolStands}
use Rattle.sj_engine.specs.Turn.{NothingHappens}

abbrev first-task : Task
first-task = record { 0 = 0 }

module _ {D : Type 0} (w : Worker) where
  -- ---- what is so on a board where each task stands in the pool as often

  module _ (a b : BoardState D) (key : key_of b ≡ key_of a) where
    pub left-same : PoolStands a b → (passed : List Task) (t : Task) → IsLeftTo b w passed t → IsLeftTo a w passed t
    left-same pool passed t l = record {
      stands = subst (λ (n : ℕ). 0 < n) (pool t) l.stands;
      fits = subst (λ (k : BoardKey D). footprint k.program t ≤ node_size k.machine (node_of k.machine w)) key l.fits;
      not_passed = l.not_passed;
    }

    pub cannot-same : NothingHappens a b → (t : Task) → CannotClaim b w t → CannotClaim a w t
    cannot-same nothing t c = record {
      why = c.why;
      holds =
          subst (λ (l : List Event). IsWhy a.run.program a.run.machine (state_of a.run.program a.run.machine l) t w c.why) nothing
          (subst (λ (k : BoardKey D). IsWhy k.program k.machine (state_of k.program k.machine b.run.trace) t w c.why) key c.holds);
    }

  pub none-same : (a b : BoardState D) → key_of b ≡ key_of a → PoolStands a b → (passed : List Task) → NoneIsLeftTo b w passed → NoneIsLeftTo a w passed
  none-same a b key pool passed none = λ t l. none t (left-same b a (sym key) (λ u. sym (pool u)) passed t l)

  -- ---- one more

  pub passed-push : (b : BoardState D) (xs : List Task) (t : Task) → HasPassed b w xs → IsPassed b w xs t → HasPassed b w (xs ++ t ∷ [])
  passed-push b xs t each here k inside =
      elim (cases_lt k (length xs)) as (λ _. IsPassed b w (take k (xs ++ t ∷ [])) (slice_index_or (xs ++ t ∷ []) k first-task)) [
        | inl before ↦
            subst (λ (l : List Task). IsPassed b w l (slice_index_or (xs ++ t ∷ []) k first-task)) (sym (take-append-le k xs (t ∷ []) (omega (arith, before))))
            (subst (IsPassed b w (take k xs)) (sym (get_or_append_left xs (t ∷ []) first-task k before)) (each k before))
        | inr past ↦
            let last : k ≡ length xs = omega (arith, past, inside, length_push xs t) in
            subst (λ (n : ℕ). IsPassed b w (take n (xs ++ t ∷ [])) (slice_index_or (xs ++ t ∷ []) n first-task)) (sym last)
            (subst (λ (l : List Task). IsPassed b w l (slice_index_or (xs ++ t ∷ []) (length xs) first-task)) (sym (take-append_seam xs (t ∷ [])))
            (subst (IsPassed b w xs) (sym (get_or_push xs t first-task (length xs) refl)) here))
      ]

  pub passed-more : (b : BoardState D) (xs : List Task) (i : ℕ) (t : Task) → i < length xs → HasPassed b w (take i xs) → IsPassed b w (take i xs) t → HasPassed b w (take (i + 1) (slice_set xs i t))
  passed-more b xs i t inside each here = subst (HasPassed b w) (sym (take_more_set xs i t inside)) (passed-push b (take i xs) t each here)

-- the pool has the task again that it had lost
pub pool-again : {D : Type 0} (a l mid new : BoardState D) (o : Option Task) (t : Task) → o ≡ Some t → PoolStands a l → HasLost o l.pool mid.pool → HasLost (Some t) new.pool mid.pool → PoolStands a new
pool-again a l mid new o t is stands lost back = λ u. omega (arith, stands u, subst (λ (k : Option Task). HasLost k l.pool mid.pool) is lost u, back u)

pub some-left : {D : Type 0} (b : BoardState D) (w : Worker) (passed : List Task) (o : Option Task) (t : Task) → o ≡ Some t → IfSome o (IsLeftTo b w passed) → IsLeftTo b w passed t
some-left b w passed o t is left = subst (λ (k : Option Task). IfSome k (IsLeftTo b w passed)) is left

pub length-taken : (xs : List Task) (i n : ℕ) → length xs ≡ 64 → n ≤ 64 → i ≡ n → length (take i xs) ≡ n
length-taken xs i n long few last = length-take-le i xs (omega (arith, long, few, last)) ∙ last
