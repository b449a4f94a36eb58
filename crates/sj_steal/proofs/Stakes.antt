-- The stakes of a pass, one in each queue: what changes with one of them, and what is known when there is one alone.
use Rattle.std.proofs.Common.{◌≡◌, ◌≢◌, ℕ, zero, suc, ◌<◌, ◌+◌, ◌-◌, true, false, true≢false, List, [], ◌∷◌, ◌++◌, length, get_or, set, take, drop, map, All, sum_by, Option, Some, None, IfSome, IfNone, Result, Ok, Err, OnOk, OnErr, refl, sym, ap, ◌∙◌, subst, ⊎_elim, arith, append_assoc, add-one, length-append}
use Rattle.std.specs.List.{flat_map}
use Rattle.std.proofs.lemmas.List.{append-nil, get_or-map, get_or-set_other, length-map, length-set, map-append, map-set, set-get_or, take_at}
use Rattle.std.proofs.lemmas.List.Elements.{All-pop}
use lib.Seq.{map-set_same}
use Rattle.std.proofs.lemmas.Bool.{cases_eq}
use Rattle.std.proofs.lemmas.List.Sums.{sum_by-cons, sum_by-set, sum_by_push}
use Rattle.std.specs.declared.alloc.Global.{Global}
use Rattle.crossbeam_queue.specs.SegTies.{SegId}
use Rattle.sj_base.specs.declared.ids.Task.{Task}
use Rattle.sj_base.specs.declared.memory.OutOfMemory.{OutOfMemory}
use Rattle.sj_base.specs.declared.mode.Policy.{Policy}
use Rattle.sj_base.specs.declared.mode.Policy.TheVariants.{Eager, Prio, Ws}
use Rattle.sj_steal.specs.declared.account.Account.{Account}
use Rattle.sj_steal.specs.Account.{after_put, after_take, as_one, times, Knows}
use Rattle.sj_steal.specs.Facts.{StakeFacts, SharedFacts, PassFacts, pool, new_pass, new_stake, with_a_part_less, lanes_of, parts_of, put_through, taken_through, having_put, having_taken, HasShare, HasTaken, HasTakenAll, AreStakes}
use Rattle.sj_pool.specs.Pool.{queue_count, home}
use Rattle.sj_steal.proofs.Accounts.{times_append}

-- ---- a list of which the elements up to a place, or from it on, are changed already

module _ {X : Type 0} (f : X → X) where
  abbrev pub changed_to : ℕ → List X → List X
  changed_to k xs = map f (take k xs) ++ drop k xs

  pub changed_to-at : (xs : List X) (k : ℕ) (d : X) → k < length xs → get_or (changed_to k xs) k d ≡ get_or xs k d
  changed_to-at [] k d lt = absurd (omega arith)
  changed_to-at (x ∷ xs) zero d lt = refl
  changed_to-at (x ∷ xs) (suc k) d lt = changed_to-at xs k d (omega arith)

  pub changed_to-more : (xs : List X) (k : ℕ) (d : X) → k < length xs → set (changed_to k xs) k (f (get_or xs k d)) ≡ changed_to (suc k) xs
  changed_to-more [] k d lt = absurd (omega arith)
  changed_to-more (x ∷ xs) zero d lt = refl
  changed_to-more (x ∷ xs) (suc k) d lt = ap (λ l. f x ∷ l) (changed_to-more xs k d (omega arith))

  abbrev pub changed_from : ℕ → List X → List X
  changed_from k xs = take k xs ++ map f (drop k xs)

  pub changed_from-at : (xs : List X) (k : ℕ) (d : X) → k < length xs → get_or (changed_from (suc k) xs) k d ≡ get_or xs k d
  changed_from-at [] k d lt = absurd (omega arith)
  changed_from-at (x ∷ xs) zero d lt = refl
  changed_from-at (x ∷ xs) (suc k) d lt = changed_from-at xs k d (omega arith)

  pub changed_from-more : (xs : List X) (k : ℕ) (d : X) → k < length xs → set (changed_from (suc k) xs) k (f (get_or xs k d)) ≡ changed_from k xs
  changed_from-more [] k d lt = absurd (omega arith)
  changed_from-more (x ∷ xs) zero d lt = refl
  changed_from-more (x ∷ xs) (suc k) d lt = ap (λ l. x ∷ l) (changed_from-more xs k d (omega arith))

-- ---- lists joined

module _ {X : Type 0} (f : X → List Task) where
  pub times-flat_map : (t : Task) (xs : List X) → times t (flat_map f xs) ≡ sum_by (λ x. times t (f x)) xs
  times-flat_map t [] = refl
  times-flat_map t (x ∷ xs) = omega (arith, times_append t (f x) (flat_map f xs), times-flat_map t xs, sum_by-cons (λ (y : X). times t (f y)) x xs)

  pub times_more : (t : Task) (xs : List X) (k : ℕ) (y d : X) → k < length xs → times t (flat_map f (set xs k y)) + times t (f (get_or xs k d)) ≡ times t (flat_map f xs) + times t (f y)
  times_more t xs k y d lt = omega (arith, times-flat_map t xs, times-flat_map t (set xs k y), sum_by-set (λ (x : X). times t (f x)) xs k y d lt)

  pub times_last : (t : Task) (xs ys : List X) (x : X) → xs ≡ ys ++ x ∷ [] → times t (flat_map f xs) ≡ times t (flat_map f ys) + times t (f x)
  times_last t xs ys x e = omega (arith, times-flat_map t xs, times-flat_map t ys, ap (sum_by (λ y. times t (f y))) e, sum_by_push (λ (y : X). times t (f y)) ys x)

  pub nothing_in : (xs : List X) → All (λ l. l ≡ []) (map f xs) → flat_map f xs ≡ []
  nothing_in [] none = refl
  nothing_in (x ∷ xs) none = ap (λ l. l ++ flat_map f xs) (none 0 [] (omega arith)) ∙ nothing_in xs (λ k d lt. none (suc k) d (omega arith))

  -- one element's list is longer by one, and those behind it are empty
  pub longer_by_one : (xs : List X) (k : ℕ) (y d : X) (t : Task) → k < length xs → f y ≡ f (get_or xs k d) ++ t ∷ [] → ((j : ℕ) (e : List Task) → k < j → j < length xs → get_or (map f xs) j e ≡ [])
      → flat_map f (set xs k y) ≡ flat_map f xs ++ t ∷ []
  longer_by_one [] k y d t lt e none = absurd (omega arith)
  longer_by_one (x ∷ xs) zero y d t lt e none =
      let no : flat_map f xs ≡ [] = nothing_in xs (λ k d lt. none (suc k) d (omega arith) (omega (arith, length-map xs f))) in
      (λ i. e i ++ no i) ∙ append-nil _ ∙ sym (ap (λ l. (f x ++ l) ++ t ∷ []) no ∙ ap (λ l. l ++ t ∷ []) (append-nil (f x)))
  longer_by_one (x ∷ xs) (suc k) y d t lt e none = ap (λ l. f x ++ l) (longer_by_one xs k y d t (omega arith) e (λ j z a b. none (suc j) z (omega arith) (omega arith))) ∙ sym (append_assoc (f x) (flat_map f xs) (t ∷ []))

  pub alone_in : (xs : List X) (d : X) → length xs ≡ 1 → flat_map f xs ≡ f (get_or xs 0 d)
  alone_in [] d one = absurd (omega arith)
  alone_in (x ∷ []) d one = append-nil (f x)
  alone_in (x ∷ y ∷ xs) d one = absurd (omega arith)

  -- an element is changed whose list stays
  pub same_flat : (xs : List X) (k : ℕ) (y d : X) → f y ≡ f (get_or xs k d) → flat_map f (set xs k y) ≡ flat_map f xs
  same_flat [] k y d e = refl
  same_flat (x ∷ xs) zero y d e = ap (λ l. l ++ flat_map f xs) e
  same_flat (x ∷ xs) (suc k) y d e = ap (λ l. f x ++ l) (same_flat xs k y d e)

-- ---- a stake of some

-- its parts
pub part_at : (P : ℕ → Type 0) (xs : List StakeFacts) (k : ℕ) (s : StakeFacts) → k < length xs → s ≡ get_or xs k s → All P (parts_of xs) → P s.account.parts
part_at P xs k s lt e all = subst P (get_or-map (λ (x : StakeFacts). x.account.parts) xs k s 0 lt ∙ ap (λ (x : StakeFacts). x.account.parts) (sym e))
    (all k 0 (omega (arith, length-map xs (λ (x : StakeFacts). x.account.parts))))

-- its queue
pub lane_at : (xs : List StakeFacts) (lanes : List (SegId Global)) (k : ℕ) (s : StakeFacts) (l : SegId Global) → lanes_of xs ≡ lanes → k < length xs → s ≡ get_or xs k s → l ≡ get_or lanes k l → s.lane ≡ l
lane_at xs lanes k s l same lt e at = ap (λ (x : StakeFacts). x.lane) e ∙ sym (get_or-map (λ (x : StakeFacts). x.lane) xs k s l lt) ∙ ap (λ ls. get_or ls k l) same ∙ sym at

-- one that a part is dealt from, and one that others are given to
pub part_to_deal : (xs0 xs : List StakeFacts) (k : ℕ) (s : StakeFacts) → xs ≡ changed_to with_a_part_less k xs0 → k < length xs0 → s ≡ get_or xs k s → All (λ n. 1 < n) (parts_of xs0) → 1 < s.account.parts
part_to_deal xs0 xs k s is lt e all = part_at (λ n. 1 < n) xs0 k s lt (e ∙ ap (λ l. get_or l k s) is ∙ changed_to-at with_a_part_less xs0 k s lt) all

pub dealt_more : (xs0 xs : List StakeFacts) (k : ℕ) (s s' : StakeFacts) → xs ≡ changed_to with_a_part_less k xs0 → k < length xs0 → s ≡ get_or xs k s → s' ≡ with_a_part_less s → set xs k s' ≡ changed_to with_a_part_less (k + 1) xs0
dealt_more xs0 xs k s s' is lt e less =
    let at : s ≡ get_or xs0 k s = e ∙ ap (λ l. get_or l k s) is ∙ changed_to-at with_a_part_less xs0 k s lt in
    (λ i. set (is i) k ((less ∙ ap with_a_part_less at) i)) ∙ changed_to-more with_a_part_less xs0 k s lt ∙ ap (λ n. changed_to with_a_part_less n xs0) (sym (add-one k))

pub last_part : (P : ℕ → Type 0) (xs ys rest : List StakeFacts) (s : StakeFacts) → (ys ++ s ∷ []) ++ rest ≡ xs → All P (parts_of xs) → P s.account.parts
last_part P xs ys rest s all h = part_at P xs (length ys) s (omega (arith, ap length all, length-append (ys ++ s ∷ []) rest, length-append ys (s ∷ []))) (sym (seam ys) ∙ ap (λ zs. get_or zs (length ys) s) all) h
  where
    seam : (zs : List StakeFacts) → get_or ((zs ++ s ∷ []) ++ rest) (length zs) s ≡ s
    seam [] = refl
    seam (z ∷ zs) = seam zs

-- ---- a pass whose worker put or took a task

abbrev pub seen : Policy → ℕ → ℕ → List StakeFacts → PassFacts
seen p workers number xs = record { shared = pool p workers (lanes_of xs); number = number; put = put_through xs; taken = taken_through xs }

pub home_below : (p : Policy) (number workers : ℕ) → number < workers → home p number < queue_count p workers
home_below Eager number workers h = omega arith
home_below Prio number workers h = omega arith
home_below Ws number workers h = h

pub one_lane : (p : Policy) (workers : ℕ) → workers ≡ 1 → queue_count p workers ≡ 1
one_lane Eager workers h = refl
one_lane Prio workers h = refl
one_lane Ws workers h = h

module _ (p : Policy) (number workers : ℕ) (xs : List StakeFacts) (k : ℕ) (s : StakeFacts) (h : AreStakes p number workers xs) (inside : k < length xs) (is : s ≡ get_or xs k s) where
  pub some_part : workers < 257 → 0 < s.account.parts
  some_part few = let share = part_at (HasShare number workers) xs k s inside is h.shares in
      ⊎_elim (λ (last : number + 1 ≡ workers). omega (arith, share.1 last)) (λ (other : number + 1 ≢ workers). omega (arith, share.0 (omega (arith, h.worker)))) (cases_eq (number + 1) workers)

  same_lanes : (t : StakeFacts) → t.lane ≡ s.lane → lanes_of (set xs k t) ≡ lanes_of xs
  same_lanes t e = map-set_same (λ (x : StakeFacts). x.lane) xs k t s (e ∙ ap (λ (x : StakeFacts). x.lane) is)

  pub still_of : (t : StakeFacts) (P : PassFacts) (c : SharedFacts) → t.lane ≡ s.lane → seen p workers number xs ≡ P → P.shared ≡ c → pool p workers (lanes_of (set xs k t)) ≡ c
  still_of t P c e view of = ap (pool p workers) (same_lanes t e) ∙ ap (λ (q : PassFacts). q.shared) view ∙ of

  same_stakes : (t : StakeFacts) → t.lane ≡ s.lane → t.account ≡ s.account → set xs k t ≡ xs
  same_stakes t l a = let e : t ≡ s = (λ i. record { lane = l i; account = a i }) in ap (set xs k) (e ∙ is) ∙ set-get_or xs k s

  with_parts : (t : StakeFacts) → t.account.parts ≡ s.account.parts → All (HasShare number workers) (parts_of (set xs k t))
  with_parts t e = subst (All (HasShare number workers)) (sym (map-set_same (λ (x : StakeFacts). x.account.parts) xs k t s (e ∙ ap (λ (x : StakeFacts). x.account.parts) is))) h.shares

  put_stakes : (t : StakeFacts) → k ≡ home p number → t.account.parts ≡ s.account.parts → AreStakes p number workers (set xs k t)
  put_stakes t own e = record {
    worker = h.worker;
    count = length-set xs k t ∙ h.count;
    shares = with_parts t e;
    own = λ j d low high. ap (λ l. get_or l j d) (map-set (λ (x : StakeFacts). x.account.put) xs k t)
        ∙ get_or-set_other (map (λ (x : StakeFacts). x.account.put) xs) k j t.account.put d (λ same. absurd (omega arith)) ∙ h.own j d low high;
  }

  taken_stakes : (t : StakeFacts) → t.account.parts ≡ s.account.parts → t.account.put ≡ s.account.put → AreStakes p number workers (set xs k t)
  taken_stakes t e put = record {
    worker = h.worker;
    count = length-set xs k t ∙ h.count;
    shares = with_parts t e;
    own = λ j d low high. ap (λ l. get_or l j d) (map-set_same (λ (x : StakeFacts). x.account.put) xs k t s (put ∙ ap (λ (x : StakeFacts). x.account.put) is)) ∙ h.own j d low high;
  }

  pub keeps_put : (r : Result (Unit {0}) OutOfMemory) (t : StakeFacts) (u : Task) → k ≡ home p number → OnOk r (t.account ≡ after_put s.account u) → OnErr r (t.account ≡ s.account) → AreStakes p number workers (set xs k t)
  keeps_put (Ok x) t u own ok err = put_stakes t own (ap (λ (a : Account). a.parts) ok)
  keeps_put (Err e) t u own ok err = put_stakes t own (ap (λ (a : Account). a.parts) err)

  pub keeps_taken : (r : Option Task) (t : StakeFacts) → IfSome r (λ u. t.account ≡ after_take s.account u) → IfNone r (t.account ≡ s.account) → AreStakes p number workers (set xs k t)
  keeps_taken (Some u) t some none = taken_stakes t (ap (λ (a : Account). a.parts) some) (ap (λ (a : Account). a.put) some)
  keeps_taken None t some none = taken_stakes t (ap (λ (a : Account). a.parts) none) (ap (λ (a : Account). a.put) none)

  module _ (t : StakeFacts) (lane : t.lane ≡ s.lane) (P : PassFacts) (view : seen p workers number xs ≡ P) where
    pub put_ok : (r : Result (Unit {0}) OutOfMemory) (u : Task) → k ≡ home p number → OnOk r (t.account ≡ after_put s.account u) → OnOk r (seen p workers number (set xs k t) ≡ having_put P u)
    put_ok (Err e) u own ok = tt
    put_ok (Ok x) u own ok = (λ i. record { shared = pool p workers (same_lanes t lane i); number = number; put = puts i; taken = takes i }) ∙ ap (λ q. having_put q u) view
      where
        puts : put_through (set xs k t) ≡ put_through xs ++ u ∷ []
        puts = longer_by_one (λ (x : StakeFacts). x.account.put) xs k t s u inside (ap (λ (a : Account). a.put) ok ∙ ap (λ (x : StakeFacts). x.account.put ++ u ∷ []) is) (λ j e after before. h.own j e (omega arith) (omega (arith, h.count)))

        takes : taken_through (set xs k t) ≡ taken_through xs
        takes = same_flat (λ (x : StakeFacts). x.account.taken) xs k t s (ap (λ (a : Account). a.taken) ok ∙ ap (λ (x : StakeFacts). x.account.taken) is)

    pub put_err : (r : Result (Unit {0}) OutOfMemory) → OnErr r (t.account ≡ s.account) → OnErr r (seen p workers number (set xs k t) ≡ P)
    put_err (Ok x) err = tt
    put_err (Err e) err = ap (seen p workers number) (same_stakes t lane err) ∙ view

    takes_more : (u v : Task) → t.account ≡ after_take s.account u → times v (taken_through (set xs k t)) ≡ times v (taken_through xs) + times v (u ∷ [])
    takes_more u v e = omega (
      arith,
      times_more (λ (x : StakeFacts). x.account.taken) v xs k t s inside,
      ap (λ (x : StakeFacts). times v x.account.taken) is,
      ap (λ (a : Account). times v a.taken) e,
      times_append v s.account.taken (u ∷ []),
    )

    puts_same : (u : Task) → t.account ≡ after_take s.account u → put_through (set xs k t) ≡ put_through xs
    puts_same u e = same_flat (λ (x : StakeFacts). x.account.put) xs k t s (ap (λ (a : Account). a.put) e ∙ ap (λ (x : StakeFacts). x.account.put) is)

    pub take_some : (r : Option Task) → IfSome r (λ u. t.account ≡ after_take s.account u) → IfSome r (λ u. HasTaken P u (seen p workers number (set xs k t)))
    take_some None e = tt
    take_some (Some u) e = subst (λ (q : PassFacts). HasTaken q u (seen p workers number (set xs k t))) view (record { put = puts_same u e; taken = λ v. takes_more u v e })

    in_order : (u : Task) → length xs ≡ 1 → t.account ≡ after_take s.account u → seen p workers number (set xs k t) ≡ having_taken (seen p workers number xs) u
    in_order u one e = λ i. record { shared = pool p workers (same_lanes t lane i); number = number; put = puts_same u e i; taken = takes i }
      where
        takes : taken_through (set xs k t) ≡ taken_through xs ++ u ∷ []
        takes = longer_by_one (λ (x : StakeFacts). x.account.taken) xs k t s u inside (ap (λ (a : Account). a.taken) e ∙ ap (λ (x : StakeFacts). x.account.taken ++ u ∷ []) is) (λ j d after before. absurd (omega (arith, one)))

    pub take_in_order : (r : Option Task) (policy : Policy) → policy ≡ p → IfSome r (λ u. t.account ≡ after_take s.account u) → IfSome r (λ u. policy ≡ Eager → seen p workers number (set xs k t) ≡ having_taken P u)
    take_in_order None policy same e = tt
    take_in_order (Some u) policy same e = λ eager. in_order u (h.count ∙ ap (λ q. queue_count q workers) (sym same ∙ eager)) e ∙ ap (λ q. having_taken q u) view

    pub take_none : (r : Option Task) → IfNone r (t.account ≡ s.account) → IfNone r (seen p workers number (set xs k t) ≡ P)
    take_none (Some u) e = tt
    take_none None e = ap (seen p workers number) (same_stakes t lane e) ∙ view

    all_taken : workers ≡ 1 → Knows s.account [] → HasTakenAll (seen p workers number xs)
    all_taken single known v = omega (arith, puts, takes, known whole v)
      where
        one : length xs ≡ 1
        one = h.count ∙ one_lane p workers single

        at : s ≡ get_or xs 0 s
        at = is ∙ ap (λ j. get_or xs j s) (omega (arith, one))

        whole : s.account.parts ≡ 256
        whole = let share = part_at (HasShare number workers) xs k s inside is h.shares in omega (arith, share.1 (omega (arith, h.worker)), single)

        puts : times v (put_through xs) ≡ times v s.account.put
        puts = ap (times v) (alone_in (λ (x : StakeFacts). x.account.put) xs s one ∙ ap (λ (x : StakeFacts). x.account.put) (sym at))

        takes : times v (taken_through xs) ≡ times v s.account.taken
        takes = ap (times v) (alone_in (λ (x : StakeFacts). x.account.taken) xs s one ∙ ap (λ (x : StakeFacts). x.account.taken) (sym at))

    pub take_empty : (r : Option Task) (n : ℕ) → n ≡ workers → IfNone r (Knows s.account []) → IfNone r (n ≡ 1 → HasTakenAll P)
    take_empty (Some u) n same known = tt
    take_empty None n same known = λ single. subst HasTakenAll view (all_taken (sym same ∙ single) known)

-- ---- one stake more given to another, and one more drained

-- `x` was the last of some stakes, with `rest` behind it, and goes to the one of its queue
module _ (lanes : List (SegId Global)) (whole whole0 stakes popped stakes0 rest : List StakeFacts) (k : ℕ) (s t x : StakeFacts) (l : SegId Global) (of : lanes_of whole ≡ lanes)
    (of0 : (lanes_of whole0 ≡ lanes) × (lanes_of stakes0 ≡ lanes)) (all : stakes ++ rest ≡ stakes0) (e : stakes ≡ popped ++ x ∷ []) (at : k ≡ length popped) (is : s ≡ get_or whole k s) (lane : l ≡ get_or lanes k l) where
  lengths : (length whole ≡ length lanes) × (length whole0 ≡ length lanes) × (k < length lanes) × (length stakes ≡ suc k)
  lengths =
      let longer : length stakes ≡ length popped + 1 = ap length e ∙ length-append popped (x ∷ []) in
      let a : length whole ≡ length lanes = omega (arith, ap length of, length-map whole (λ (y : StakeFacts). y.lane)) in
      let b : length whole0 ≡ length lanes = omega (arith, ap length of0.0, length-map whole0 (λ (y : StakeFacts). y.lane)) in
      (a, b, omega (arith, longer, ap length of0.1, length-map stakes0 (λ (y : StakeFacts). y.lane), ap length all, length-append stakes rest), omega (arith, longer))

  inside : k < length whole
  inside = omega (arith, lengths.0, lengths.2)

  inside0 : k < length (parts_of whole0)
  inside0 = omega (arith, lengths.1, lengths.2, length-map whole0 (λ (y : StakeFacts). y.account.parts))

  pub merged_lanes : t.lane ≡ l → lanes_of (set whole k t) ≡ lanes
  merged_lanes g = map-set_same (λ (y : StakeFacts). y.lane) whole k t s (g ∙ sym (lane_at whole lanes k s l of inside is lane) ∙ ap (λ (y : StakeFacts). y.lane) is) ∙ of

  module _ (parts : parts_of whole ≡ changed_from (λ n. n + 1) (length stakes) (parts_of whole0)) where
    parts' : parts_of whole ≡ changed_from (λ n. n + 1) (suc k) (parts_of whole0)
    parts' = parts ∙ ap (λ n. changed_from (λ n. n + 1) n (parts_of whole0)) lengths.3

    part : s.account.parts ≡ get_or (parts_of whole0) k 0
    part = ap (λ (y : StakeFacts). y.account.parts) is ∙ sym (get_or-map (λ (y : StakeFacts). y.account.parts) whole k s 0 inside) ∙ ap (λ ns. get_or ns k 0) parts' ∙ changed_from-at (λ n. n + 1) (parts_of whole0) k 0 inside0

    pub merged_some : All (λ n. 0 < n) (parts_of whole0) → 0 < s.account.parts
    merged_some some = subst (λ n. 0 < n) (sym part) (some k 0 inside0)

    pub merged_parts : All (λ n. n ≡ 1) (parts_of stakes0) → t.account ≡ as_one s.account x.account → parts_of (set whole k t) ≡ changed_from (λ n. n + 1) (length popped) (parts_of whole0)
    merged_parts one both =
        let mine : x.account.parts ≡ 1 = last_part (λ n. n ≡ 1) stakes0 popped rest x (ap (λ ys. ys ++ rest) (sym e) ∙ all) one in
        let now : t.account.parts ≡ get_or (parts_of whole0) k 0 + 1 = omega (arith, ap (λ (a : Account). a.parts) both, mine, part) in
        map-set (λ (y : StakeFacts). y.account.parts) whole k t ∙ (λ i. set (parts' i) k (now i)) ∙ changed_from-more (λ n. n + 1) (parts_of whole0) k 0 inside0 ∙ ap (λ n. changed_from (λ n. n + 1) n (parts_of whole0)) at

  module _ (f : StakeFacts → List Task) (both : f t ≡ f s ++ f x) (v : Task) where
    pub merged_times : (n : ℕ) → times v (flat_map f whole) + times v (flat_map f stakes) ≡ n → times v (flat_map f (set whole k t)) + times v (flat_map f popped) ≡ n
    merged_times n even = omega (
      arith,
      times_more f v whole k t s inside,
      ap (λ y. times v (f y)) is,
      ap (times v) both,
      times_append v (f s) (f x),
      times_last f v stakes popped x e,
      even,
    )

-- two lists of one length, with one element more each
pub all_but_last : {X : Type 0} (xs ys : List X) (x y : X) → xs ++ x ∷ [] ≡ ys ++ y ∷ [] → xs ≡ ys
all_but_last xs ys x y e = sym (take_at xs (x ∷ []) (length ys) (omega (arith, ap length e, length-append xs (x ∷ []), length-append ys (y ∷ [])))) ∙ ap (take (length ys)) e ∙ take_at ys (y ∷ []) (length ys) refl

pub parts_popped : (P : ℕ → Type 0) (xs ys : List StakeFacts) (s : StakeFacts) → xs ≡ ys ++ s ∷ [] → All P (parts_of xs) → All P (parts_of ys)
parts_popped P xs ys s e h = (All-pop P (parts_of xs) (parts_of ys) (Some s.account.parts) (ap parts_of e ∙ map-append (λ (x : StakeFacts). x.account.parts) ys (s ∷ [])) h).0

pub none_through : (f : StakeFacts → List Task) (v : Task) (xs : List StakeFacts) → length xs ≡ 0 → times v (flat_map f xs) ≡ 0
none_through f v [] e = refl
none_through f v (x ∷ xs) e = absurd (omega arith)

pub none_from : (n : ℕ) → (0 < n → false ≡ true) → n ≡ 0
none_from zero h = refl
none_from (suc n) h = absurd (true≢false (sym (h (omega arith))))

-- ---- stakes of passes

pub all_ones : (number workers : ℕ) (xs : List StakeFacts) → number + 1 < workers → All (HasShare number workers) (parts_of xs) → All (λ n. n ≡ 1) (parts_of xs)
all_ones number workers xs other h k d lt = (h k d lt).0 other

pub all_last : (number workers : ℕ) (xs : List StakeFacts) → number + 1 ≡ workers → All (HasShare number workers) (parts_of xs) → All (λ n. n + number ≡ 256) (parts_of xs)
all_last number workers xs last h k d lt = omega (arith, (h k d lt).1 last)

pub one_each : (m n : ℕ) (ns ns' : List ℕ) → m ≡ n + 1 → ns' ≡ map (λ p. p + 1) ns → All (λ p. p + m ≡ 256) ns → All (λ p. p + n ≡ 256) ns'
one_each m n ns ns' e is h = subst (All (λ p. p + n ≡ 256)) (sym is) (λ k d lt. omega (
  arith,
  get_or-map (λ p. p + 1) ns k 0 d (omega (arith, length-map ns (λ p. p + 1))),
  h k 0 (omega (arith, length-map ns (λ p. p + 1))),
))

-- ---- stakes of which nobody made use

pub new_lanes : (parts : ℕ) (lanes : List (SegId Global)) → lanes_of (map (new_stake parts) lanes) ≡ lanes
new_lanes parts [] = refl
new_lanes parts (l ∷ ls) = ap (λ rest. l ∷ rest) (new_lanes parts ls)

pub new_put : (parts : ℕ) (lanes : List (SegId Global)) → put_through (map (new_stake parts) lanes) ≡ []
new_put parts [] = refl
new_put parts (l ∷ ls) = new_put parts ls

pub new_taken : (parts : ℕ) (lanes : List (SegId Global)) → taken_through (map (new_stake parts) lanes) ≡ []
new_taken parts [] = refl
new_taken parts (l ∷ ls) = new_taken parts ls

pub new_parts : (parts : ℕ) (P : ℕ → Type 0) → P parts → (lanes : List (SegId Global)) → All P (parts_of (map (new_stake parts) lanes))
new_parts parts P h [] k d lt = absurd (omega arith)
new_parts parts P h (l ∷ ls) zero d lt = h
new_parts parts P h (l ∷ ls) (suc k) d lt = new_parts parts P h ls k d (omega arith)

new_lists : (parts : ℕ) (lanes : List (SegId Global)) → All (λ put. put ≡ []) (map (λ (s : StakeFacts). s.account.put) (map (new_stake parts) lanes))
new_lists parts [] k d lt = absurd (omega arith)
new_lists parts (l ∷ ls) zero d lt = refl
new_lists parts (l ∷ ls) (suc k) d lt = new_lists parts ls k d (omega arith)

pub new_are_stakes : (p : Policy) (number workers parts : ℕ) (lanes : List (SegId Global)) → number < workers → length lanes ≡ queue_count p workers → HasShare number workers parts
    → AreStakes p number workers (map (new_stake parts) lanes)
new_are_stakes p number workers parts lanes below count share = record {
  worker = below;
  count = length-map lanes (new_stake parts) ∙ count;
  shares = new_parts parts (HasShare number workers) share lanes;
  own = λ k d low high. new_lists parts lanes k d (omega (arith, count, length-map (map (new_stake parts) lanes) (λ (s : StakeFacts). s.account.put), length-map lanes (new_stake parts)));
}

pub less_new : (parts : ℕ) (lanes : List (SegId Global)) → map with_a_part_less (map (new_stake parts) lanes) ≡ map (new_stake (parts - 1)) lanes
less_new parts [] = refl
less_new parts (l ∷ ls) = ap (λ rest. new_stake (parts - 1) l ∷ rest) (less_new parts ls)

pub seen_new : (p : Policy) (workers number parts : ℕ) (lanes : List (SegId Global)) (xs : List StakeFacts) → xs ≡ map (new_stake parts) lanes → seen p workers number xs ≡ new_pass (pool p workers lanes) number
seen_new p workers number parts lanes xs e = ap (seen p workers number) e ∙ (λ i. record { shared = pool p workers (new_lanes parts lanes i); number = number; put = new_put parts lanes i; taken = new_taken parts lanes i })
