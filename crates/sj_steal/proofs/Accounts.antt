-- Each step of a queue keeps its rule.
use Rattle.std.proofs.Common.{◌≡◌, ◌≢◌, ℕ, zero, suc, ◌<◌, ◌≤◌, ◌+◌, ◌-◌, List, [], ◌∷◌, ◌++◌, set, sum_by, refl, sym, ap, ◌∙◌, subst, ⊎_elim, arith, ◌==◌, cond}
use Rattle.std.proofs.lemmas.List.Sums.{sum_by-cons, sum_by-append, sum_by_push}
use mathlib.Core.Option.{some, some-injective, some-ne-none}
use lib.ListN.{get_elem?}
use Rattle.crossbeam_queue.specs.Fifo.{Pushes, Pops, Forks, Merges, Learns}
use Rattle.crossbeam_queue.proofs.Lists.{at_set, at_snoc}
use Rattle.sj_base.specs.declared.ids.Task.{Task}
use Rattle.sj_steal.specs.declared.account.Account.{Account}
use Rattle.sj_steal.specs.Account.{account, times, after_put, after_take, as_one, IsFair, Knows}

-- a sum over the views, after one of them changed
total_set : (f : Account → ℕ) (views : List Account) (port : ℕ) (v w : Account) → get_elem? views port ≡ some v → sum_by f (set views port w) + f v ≡ sum_by f views + f w
total_set f [] port v w at = absurd (some-ne-none v (sym at))
total_set f (x ∷ xs) zero v w at = omega (arith, sum_by-cons f w xs, sum_by-cons f x xs, ap f (some-injective x v at))
total_set f (x ∷ xs) (suc port) v w at = omega (arith, sum_by-cons f x (set xs port w), sum_by-cons f x xs, total_set f xs port v w at)

pub times_append : (t : Task) (xs ys : List Task) → times t (xs ++ ys) ≡ times t xs + times t ys
times_append t xs ys = sum_by-append (λ u. cond (u.0 == t.0) 1 0) xs ys

abbrev AreIdle : List Account → Type 0
AreIdle views = (port : ℕ) (v : Account) → get_elem? views port ≡ some v → v.parts ≡ 0 → (v.put ≡ []) × (v.taken ≡ [])

idle_set : (views : List Account) (port : ℕ) (w : Account) → (w.parts ≡ 0 → (w.put ≡ []) × (w.taken ≡ [])) → AreIdle views → AreIdle (set views port w)
idle_set views port w mine others j u at = ⊎_elim (λ (x : (j ≡ port) × (w ≡ u)). subst (λ (y : Account). y.parts ≡ 0 → (y.put ≡ []) × (y.taken ≡ [])) x.1 mine)
    (λ (x : (j ≢ port) × (get_elem? views j ≡ some u)). others j u x.1) (at_set views port j w u at)

pub begins : IsFair [] (account 256 [] [] ∷ [])
begins = record {
  parts = refl;
  even = λ t. refl;
  idle = λ port v at none. only_whole port v at none;
} where
  only_whole : (port : ℕ) (v : Account) → get_elem? (account 256 [] [] ∷ []) port ≡ some v → v.parts ≡ 0 → (v.put ≡ []) × (v.taken ≡ [])
  only_whole zero v at none = absurd (omega (arith, ap (λ (h : Account). h.parts) (some-injective (account 256 [] []) v at)))
  only_whole (suc port) v at none = absurd (some-ne-none v (sym at))

pub puts : (n port : ℕ) (v : Account) (t : Task) → 0 < v.parts → Pushes IsFair n port v t (λ w. w ≡ after_put v t)
puts n port v t part items views room h at = let w = after_put v t in (
  w,
  record {
    parts = omega (arith, total_set (λ u. u.parts) views port v w at, h.parts);
    even = λ x. omega (
      arith,
      total_set (λ u. times x u.put) views port v w at,
      total_set (λ u. times x u.taken) views port v w at,
      h.even x,
      times_append x v.put (t ∷ []),
      times_append x items (t ∷ []),
    );
    idle = idle_set views port w (λ none. absurd (omega arith)) h.idle;
  },
  refl,
)

pub takes : (port : ℕ) (v : Account) → 0 < v.parts → Pops IsFair port v (λ t w. w ≡ after_take v t)
takes port v part t items views h at = let w = after_take v t in (
  w,
  record {
    parts = omega (arith, total_set (λ u. u.parts) views port v w at, h.parts);
    even = λ x. omega (
      arith,
      total_set (λ u. times x u.put) views port v w at,
      total_set (λ u. times x u.taken) views port v w at,
      h.even x,
      times_append x v.taken (t ∷ []),
      times_append x (t ∷ []) items,
    );
    idle = idle_set views port w (λ none. absurd (omega arith)) h.idle;
  },
  refl,
)

pub forks : (port : ℕ) (v : Account) → 1 < v.parts → Forks IsFair port v (account (v.parts - 1) v.put v.taken) (account 1 [] [])
forks port v parts items views h at = let l = account (v.parts - 1) v.put v.taken in let r = account 1 [] [] in let vs = set views port l in record {
  parts = omega (arith, total_set (λ u. u.parts) views port v l at, sum_by_push (λ (u : Account). u.parts) vs r, h.parts);
  even = λ x. omega (
    arith,
    total_set (λ u. times x u.put) views port v l at,
    total_set (λ u. times x u.taken) views port v l at,
    h.even x,
    sum_by_push (λ (u : Account). times x u.put) vs r,
    sum_by_push (λ (u : Account). times x u.taken) vs r,
  );
  idle = λ j u e none. ⊎_elim (λ x. idle_set views port l (λ z. absurd (omega arith)) h.idle j u x none)
      (λ (is : r ≡ u). absurd (omega (arith, ap (λ (y : Account). y.parts) is))) (at_snoc vs r u j e);
}

pub merges : (port : ℕ) (v : Account) (other : ℕ) (u : Account) → 0 < v.parts → Merges IsFair port v other u (as_one v u) (account 0 [] [])
merges port v other u part items views h at two at' = let b = as_one v u in let s = account 0 [] [] in let vs = set views port b in record {
  parts = omega (arith, total_set (λ y. y.parts) views port v b at, total_set (λ y. y.parts) vs other u s at', h.parts);
  even = λ x. omega (
    arith,
    total_set (λ y. times x y.put) views port v b at,
    total_set (λ y. times x y.taken) views port v b at,
    total_set (λ y. times x y.put) vs other u s at',
    total_set (λ y. times x y.taken) vs other u s at',
    h.even x,
    times_append x v.put u.put,
    times_append x v.taken u.taken,
  );
  idle = idle_set vs other s (λ z. (refl, refl)) (idle_set views port b (λ z. absurd (omega arith)) h.idle);
}

-- where no view has a part, a count that is 0 of such views is 0 of all
nothing : (f : Account → ℕ) (views : List Account) → ((port : ℕ) (u : Account) → get_elem? views port ≡ some u → u.parts ≡ 0 → f u ≡ 0) → sum_by (λ u. u.parts) views ≡ 0 → sum_by f views ≡ 0
nothing f [] idle none = refl
nothing f (x ∷ xs) idle none = let e = sum_by-cons (λ (u : Account). u.parts) x xs in
    omega (arith, sum_by-cons f x xs, idle 0 x refl (omega arith), nothing f xs (λ j u at. idle (suc j) u at) (omega arith))

-- who has all parts has the whole of such a count
only : (f : Account → ℕ) (views : List Account) (port : ℕ) (v : Account) → ((j : ℕ) (u : Account) → get_elem? views j ≡ some u → u.parts ≡ 0 → f u ≡ 0) → get_elem? views port ≡ some v
    → sum_by (λ u. u.parts) views ≡ v.parts → sum_by f views ≡ f v
only f [] port v idle at all = absurd (some-ne-none v (sym at))
only f (x ∷ xs) zero v idle at all = let is = some-injective x v at in let e = sum_by-cons (λ (u : Account). u.parts) x xs in let p = ap (λ (u : Account). u.parts) is in
    omega (arith, sum_by-cons f x xs, ap f is, nothing f xs (λ j u. idle (suc j) u) (omega arith))
only f (x ∷ xs) (suc port) v idle at all = let e = sum_by-cons (λ (u : Account). u.parts) x xs in let le = part_of xs port v at in
    omega (arith, sum_by-cons f x xs, idle 0 x refl (omega arith), only f xs port v (λ j u. idle (suc j) u) at (omega arith))
  where
    part_of : (views : List Account) (port : ℕ) (v : Account) → get_elem? views port ≡ some v → v.parts ≤ sum_by (λ u. u.parts) views
    part_of views port v at = omega (arith, total_set (λ (u : Account). u.parts) views port v (account 0 [] []) at)

pub knows : (port : ℕ) (v : Account) → Learns IsFair port v (Knows v)
knows port v items views h at all t =
    let whole = h.parts ∙ sym all in
    let p = only (λ u. times t u.put) views port v (λ j u e none. ap (times t) (h.idle j u e none).0) at whole in
    let q = only (λ u. times t u.taken) views port v (λ j u e none. ap (times t) (h.idle j u e none).1) at whole in
    omega (arith, p, q, h.even t)
