-- The passes of a pool: how they are made, and how they are joined.
use Rattle.std.proofs.Common.{◌≡◌, ℕ, ◌<◌, ◌+◌, List, [], ◌∷◌, ◌++◌, length, get_or, map, Option, Some, None, MatchOption, IfNone, All, sum_by, sym, ap, ◌∙◌, subst, arith, Result, Ok, Err, IfOk, length-append}
use Rattle.std.proofs.lemmas.List.{get_or_append_left}
use Rattle.std.proofs.lemmas.List.Sums.{sum_by_push}
use Rattle.std.proofs.Math.Seq.{get_or-append_seam}
use Rattle.std.proofs.lemmas.List.FromFn.{length-map-range_with_len, get_or-map-range_with_len, map-range_with_len_more}
use Rattle.std.proofs.lemmas.List.Elements.{All-pop}
use Rattle.std.specs.List.{range_with_len}
use Rattle.sj_base.specs.declared.ids.Task.{Task}
use Rattle.sj_steal.specs.declared.account.Account.{Account}
use Rattle.sj_steal.specs.Account.{times, Knows}
use Rattle.sj_steal.specs.Facts.{SharedFacts, PassFacts, new_pass, new_passes, AreAllPasses, HasShare, AreBalanced}
use Rattle.std.specs.Global.{Vec}
use Rattle.sj_base.specs.declared.memory.OutOfMemory.{OutOfMemory}

-- what a take that finds nothing learns, told of a account that is the same
pub none_known : (r : Option Task) (same : Type 0) (then : Task → Type 0) (v w : Account) → MatchOption r (same × Knows v []) then → v ≡ w → IfNone r (Knows w [])
none_known None same then v w h e = subst (λ (u : Account). Knows u []) e h.1
none_known (Some t) same then v w h e = tt

-- what was put and taken by all passes, and what was drained by one that has all of it
pub balanced : (r : Result (Vec Task) OutOfMemory) (put_all taken_all : List Task) (passes : List PassFacts) → IfOk r (λ left. (t : Task) → times t put_all ≡ times t taken_all + times t left.items)
    → ((t : Task) → times t put_all ≡ sum_by (λ p. times t p.put) passes) → ((t : Task) → times t taken_all ≡ sum_by (λ p. times t p.taken) passes)
    → IfOk r (λ left. AreBalanced passes left.items)
balanced (Ok left) put_all taken_all passes even put taken = λ t. omega (arith, even t, put t, taken t)
balanced (Err e) put_all taken_all passes even put taken = tt

-- of a list whose last element is known
pub split_sum : {X : Type 0} (f : X → ℕ) (xs ys : List X) (x : X) → xs ≡ ys ++ x ∷ [] → sum_by f xs ≡ sum_by f ys + f x
split_sum f xs ys x e = ap (sum_by f) e ∙ sum_by_push f ys x

abbrev AreNumbered : List PassFacts → Type 0
AreNumbered passes = (k : ℕ) (d : PassFacts) → k < length passes → (get_or passes k d).number ≡ k

-- the last of some passes that stand at their places, and the others
pub record Last (shared : SharedFacts) (passes : List PassFacts) (rest : List PassFacts) (p : PassFacts) : Type 0 where
  pub longer : length passes ≡ length rest + 1
  pub number : p.number ≡ length rest
  pub of : p.shared ≡ shared
  pub each : All (λ q. q.shared ≡ shared) rest
  pub numbers : AreNumbered rest

pub last_of : (shared : SharedFacts) (passes rest : List PassFacts) (p : PassFacts) → passes ≡ rest ++ p ∷ [] → All (λ q. q.shared ≡ shared) passes → AreNumbered passes → Last shared passes rest p
last_of shared passes rest p e each numbers =
    let long : length passes ≡ length rest + 1 = ap length e ∙ length-append rest (p ∷ []) in
    let parts = All-pop (λ (q : PassFacts). q.shared ≡ shared) passes rest (Some p) e each in
    record {
      longer = long;
      number = ap (λ (q : PassFacts). q.number) (sym (get_or-append_seam rest p [] p)) ∙ ap (λ l. (get_or l (length rest) p).number) (sym e) ∙ numbers (length rest) p (omega (arith, long));
      of = parts.1;
      each = parts.0;
      numbers = λ k d below. ap (λ (q : PassFacts). q.number) (sym (get_or_append_left rest (p ∷ []) d k below)) ∙ ap (λ l. (get_or l k d).number) (sym e) ∙ numbers k d (omega (arith, long));
    }

-- one more pass was made
pub made_more : (shared : SharedFacts) (passes more : List PassFacts) (n : ℕ) (p : PassFacts) → passes ≡ map (new_pass shared) (range_with_len 0 n) → more ≡ passes ++ p ∷ [] → p ≡ new_pass shared n
    → more ≡ map (new_pass shared) (range_with_len 0 (n + 1))
made_more shared passes more n p made e is = e ∙ (λ i. made i ++ is i ∷ []) ∙ sym (map-range_with_len_more (new_pass shared) 0 n n (omega arith))

pub new_in_place : (shared : SharedFacts) (passes : List PassFacts) → passes ≡ new_passes shared → AreAllPasses shared passes
new_in_place shared passes e = subst (AreAllPasses shared) (sym e) (record {
  count = length-map-range_with_len (new_pass shared) 0 shared.workers;
  of = λ k d within. ap (λ (p : PassFacts). p.shared) (new_at k d (omega (arith, length-map-range_with_len (new_pass shared) 0 shared.workers)));
  numbers = λ k d below. ap (λ (p : PassFacts). p.number) (new_at k d below);
}) where
  new_at : (k : ℕ) (d : PassFacts) → k < shared.workers → get_or (new_passes shared) k d ≡ new_pass shared k
  new_at k d below = get_or-map-range_with_len (new_pass shared) 0 shared.workers k k d below (omega arith)
