-- Writes and looks in several calls.
use Rattle.std.proofs.Common.{◌≡◌, ℕ, ◌+◌, ◌-◌, ◌≤◌, Bool, false, List, [], ◌++◌, length, take, drop, slice_range, refl, sym, ap, ◌∙◌, subst, append_assoc, arith, Option, Some, None, Result, Ok, Err, length-append}
use Rattle.std.specs.Prelude.{replicate, option_map, IsErr, IsTrue, is_err}
use Rattle.std.proofs.Math.Seq.{take-add, take-append_seam, drop-append-add}
use Rattle.std.proofs.lemmas.List.{drop-drop, take-append-drop, length-take-le, length-replicate, append-nil}
use Rattle.std.proofs.lemmas.Result.{on_ok_weaker}
use Rattle.sj_base.proofs.Options.{the}
use Rattle.sj_edge.specs.declared.source.Failed.{Failed}
use Rattle.sj_edge.specs.Faults.{Counts, counted}
use Rattle.sj_edge.specs.Held.{Fills, GivesHeld, HoldsAnyIn, written}
use Rattle.sj_edge.proofs.Ranges.{length-slice_range, range-rest}
use Rattle.sj_disk.specs.Transfers.{Looks, Writes}

-- ---- bytes put into a list

written-none : (xs : List ℕ) (at : ℕ) → written at [] xs ≡ xs
written-none xs at = ap (λ ys. ys ++ drop (at + 0) xs) (append-nil (take at xs)) ∙ ap (λ n. take at xs ++ drop n xs) (the (at + 0 ≡ at) (omega arith)) ∙ take-append-drop at xs

-- bytes put behind others
written-then : (xs bs cs : List ℕ) (at : ℕ) → at + length bs + length cs ≤ length xs → written (at + length bs) cs (written at bs xs) ≡ written at (bs ++ cs) xs
written-then xs bs cs at within =
    let front : List ℕ = take at xs ++ bs in
    let back : List ℕ = drop (at + length bs) xs in
    let long : length front ≡ at + length bs = omega (arith, length-append (take at xs) bs, length-take-le at xs (omega arith)) in
    let before : take (at + length bs) (front ++ back) ≡ front = ap (λ n. take n (front ++ back)) (sym long) ∙ take-append_seam front back in
    let after : drop (at + length bs + length cs) (front ++ back) ≡ drop (at + length (bs ++ cs)) xs =
    ap (λ n. drop n (front ++ back)) (the (at + length bs + length cs ≡ length front + length cs) (omega arith))
    ∙ drop-append-add front back (length cs)
    ∙ drop-drop (length cs) (at + length bs) xs
    ∙ ap (λ n. drop n xs) (the (at + length bs + length cs ≡ at + length (bs ++ cs)) (omega (arith, length-append bs cs))) in
    ap (λ ys. (ys ++ cs) ++ drop (at + length bs + length cs) (front ++ back)) before
    ∙ ap (λ ys. (front ++ cs) ++ ys) after
    ∙ ap (λ ys. ys ++ drop (at + length (bs ++ cs)) xs) (append_assoc (take at xs) bs cs)

-- bytes put in are put in together with those behind them
written-wider : (xs bs : List ℕ) (at n : ℕ) → at + length bs + n ≤ length xs → written at bs xs ≡ written at (bs ++ slice_range xs (at + length bs) (at + length bs + n)) xs
written-wider xs bs at n within =
    let more : List ℕ = slice_range xs (at + length bs) (at + length bs + n) in
    let many : length more ≡ n = length-slice_range xs (at + length bs) n within in
    ap (λ ys. (take at xs ++ bs) ++ ys) (sym (range-rest xs (at + length bs) n))
    ∙ sym (append_assoc (take at xs ++ bs) more (drop (at + length bs + n) xs))
    ∙ ap (λ ys. ys ++ drop (at + length bs + n) xs) (append_assoc (take at xs) bs more)
    ∙ ap (λ k. (take at xs ++ (bs ++ more)) ++ drop k xs) (the (at + length bs + n ≡ at + length (bs ++ more)) (omega (arith, length-append bs more)))

held-then : (held : Option (List ℕ)) (bs cs : List ℕ) (at size : ℕ) → Fills held size → at + length bs + length cs ≤ size → option_map (written (at + length bs) cs) (option_map (written at bs) held) ≡ option_map (written at (bs ++ cs)) held
held-then None bs cs at size filled within = refl
held-then (Some xs) bs cs at size filled within = ap Some (written-then xs bs cs at (omega (arith, the (length xs ≡ size) filled)))

-- ---- any bytes in a range

any-none : (held : Option (List ℕ)) (at : ℕ) → HoldsAnyIn at 0 held held
any-none None at = ([], refl, refl)
any-none (Some xs) at = ([], refl, ap Some (sym (written-none xs at)))

any-then : (a b c : Option (List ℕ)) (bs : List ℕ) (at n size : ℕ) → Fills a size → at + length bs + n ≤ size → b ≡ option_map (written at bs) a → HoldsAnyIn (at + length bs) n b c → HoldsAnyIn at (length bs + n) a c
any-then a b c bs at n size filled within put (zs, many, there) = (
  bs ++ zs,
  length-append bs zs ∙ ap (λ k. length bs + k) many,
  there ∙ ap (option_map (written (at + length bs) zs)) put ∙ held-then a bs zs at size filled (omega arith),
)

any-wider : (a b : Option (List ℕ)) (at n m size : ℕ) → Fills a size → at + n + m ≤ size → HoldsAnyIn at n a b → HoldsAnyIn at (n + m) a b
any-wider None b at n m size filled within (zs, many, there) =
    let nothing : ℕ = 0 in
    let more : List ℕ = replicate m nothing in
    (zs ++ more, omega (arith, length-append zs more, many, length-replicate {A = ℕ} m nothing), there)
any-wider (Some xs) b at n m size filled within (zs, many, there) =
    let enough : at + length zs + m ≤ length xs = omega (arith, the (length xs ≡ size) filled, many) in
    let more : List ℕ = slice_range xs (at + length zs) (at + length zs + m) in (
      zs ++ more,
      omega (arith, length-append zs more, many, length-slice_range xs (at + length zs) m enough),
      there ∙ ap Some (written-wider xs zs at m enough),
    )

-- ---- a range that was read in two

pub gives-none : (held : Option (List ℕ)) (at : ℕ) → GivesHeld held at []
gives-none None at = tt
gives-none (Some xs) at = sym (ap (λ n. take n (drop at xs)) (the (at + 0 - at ≡ 0) (omega arith)))

pub gives-then : (held : Option (List ℕ)) (at : ℕ) (bs cs : List ℕ) → GivesHeld held at bs → GivesHeld held (at + length bs) cs → GivesHeld held at (bs ++ cs)
gives-then None at bs cs first second = tt
gives-then (Some xs) at bs cs first second =
    let n : ℕ = length bs in
    let m : ℕ = length cs in
    let one : bs ≡ take n (drop at xs) = first ∙ ap (λ k. take k (drop at xs)) (the (at + n - at ≡ n) (omega arith)) in
    let two : cs ≡ take m (drop (at + n) xs) = second ∙ ap (λ k. take k (drop (at + n) xs)) (the (at + n + m - (at + n) ≡ m) (omega arith)) in
    ap (λ ys. ys ++ cs) one
    ∙ ap (λ ys. take n (drop at xs) ++ ys) (two ∙ ap (take m) (sym (drop-drop n at xs)))
    ∙ sym (take-add n m (drop at xs))
    ∙ ap (λ k. take k (drop at xs)) (the (n + m ≡ at + length (bs ++ cs) - at) (omega (arith, length-append bs cs)))

counts-same : (a b : ℕ) → b ≡ a → Counts a b (IsTrue false)
counts-same a b e = record { never_falls = omega arith; only_where_it_rose = λ p. absurd (the ⊥ (cc)) }

module _ {D : Type 0} (size faults mismatches : D → ℕ) (held : D → Option (List ℕ)) where
  -- ---- writes

  pub writes-none : {A E : Type 0} (at : ℕ) (x : A) (d : D) → Writes {A = A} {E = E} size faults mismatches held at [] (Ok x) d d
  writes-none at x d = record {
    size_stays = refl;
    told_bytes_fill_the_size = λ filled. filled;
    puts_the_bytes = put (held d);
    changes_no_byte_outside = any-none (held d) at;
    a_fault_is_counted_once = refl;
    fails_only_where_faults_rose = record { never_falls = omega arith; only_where_it_rose = λ p. absurd (the ⊥ (cc)) };
    mismatches_stay = refl;
  }
    where
      put : (h : Option (List ℕ)) → h ≡ option_map (written at []) h
      put None = refl
      put (Some xs) = ap Some (sym (written-none xs at))

  -- a write behind one that ended well
  pub writes-then : {A B E F : Type 0} (at : ℕ) (bs cs : List ℕ) (x : A) (r : Result B F) (a b c : D) → Fills (held a) (size a) → at + length bs + length cs ≤ size a → Writes {A = A} {E = E} size faults mismatches held at bs (Ok x) a b → Writes size faults mismatches held (at + length bs) cs r b c → Writes size faults mismatches held at (bs ++ cs) r a c
  writes-then at bs cs x r a b c filled within first second = record {
    size_stays = second.size_stays ∙ first.size_stays;
    told_bytes_fill_the_size = λ f. second.told_bytes_fill_the_size (first.told_bytes_fill_the_size f);
    puts_the_bytes = on_ok_weaker r (λ put. put ∙ ap (option_map (written (at + length bs) cs)) first.puts_the_bytes ∙ held-then (held a) bs cs at (size a) filled within) second.puts_the_bytes;
    changes_no_byte_outside = subst (λ n. HoldsAnyIn at n (held a) (held c)) (sym (length-append bs cs)) (any-then (held a) (held b) (held c) bs at (length cs) (size a) filled within first.puts_the_bytes second.changes_no_byte_outside);
    a_fault_is_counted_once = second.a_fault_is_counted_once ∙ ap (λ n. counted n (is_err r)) first.a_fault_is_counted_once;
    fails_only_where_faults_rose = subst (λ n. Counts n (faults c) (IsErr r)) first.a_fault_is_counted_once second.fails_only_where_faults_rose;
    mismatches_stay = second.mismatches_stay ∙ first.mismatches_stay;
  }

  -- a write that failed is one of more bytes that failed
  pub writes-wider : {A E B F : Type 0} (at : ℕ) (bs cs : List ℕ) (r : Result A E) (q : Result B F) (a b : D) → IsErr r → IsErr q → Fills (held a) (size a) → at + length bs + length cs ≤ size a → Writes size faults mismatches held at bs r a b → Writes size faults mismatches held at (bs ++ cs) q a b
  writes-wider at bs cs (Ok x) q a b bad worse filled within w = absurd (the ⊥ (cc))
  writes-wider at bs cs (Err e) (Ok x) a b bad worse filled within w = absurd (the ⊥ (cc))
  writes-wider at bs cs (Err e) (Err f) a b bad worse filled within w = record {
    size_stays = w.size_stays;
    told_bytes_fill_the_size = w.told_bytes_fill_the_size;
    puts_the_bytes = tt;
    changes_no_byte_outside = subst (λ n. HoldsAnyIn at n (held a) (held b)) (sym (length-append bs cs)) (any-wider (held a) (held b) at (length bs) (length cs) (size a) filled within w.changes_no_byte_outside);
    a_fault_is_counted_once = w.a_fault_is_counted_once;
    fails_only_where_faults_rose = w.fails_only_where_faults_rose;
    mismatches_stay = w.mismatches_stay;
  }

  -- ---- looks

  pub looks-none : (d : D) → Looks size faults mismatches held false false d d
  looks-none d = record {
    size_stays = refl;
    told_bytes_stay = refl;
    a_fault_is_counted_once = refl;
    fails_only_where_faults_rose = counts-same (faults d) (faults d) refl;
    a_mismatch_is_counted_once = refl;
    differs_only_where_mismatches_rose = counts-same (mismatches d) (mismatches d) refl;
  }

  -- a look behind one that ended well
  pub looks-then : (failed differed : Bool) (a b c : D) → Looks size faults mismatches held false false a b → Looks size faults mismatches held failed differed b c → Looks size faults mismatches held failed differed a c
  looks-then failed differed a b c first second = record {
    size_stays = second.size_stays ∙ first.size_stays;
    told_bytes_stay = second.told_bytes_stay ∙ first.told_bytes_stay;
    a_fault_is_counted_once = second.a_fault_is_counted_once ∙ ap (λ n. counted n failed) first.a_fault_is_counted_once;
    fails_only_where_faults_rose = subst (λ n. Counts n (faults c) (IsTrue failed)) first.a_fault_is_counted_once second.fails_only_where_faults_rose;
    a_mismatch_is_counted_once = second.a_mismatch_is_counted_once ∙ ap (λ n. counted n differed) first.a_mismatch_is_counted_once;
    differs_only_where_mismatches_rose = subst (λ n. Counts n (mismatches c) (IsTrue differed)) first.a_mismatch_is_counted_once second.differs_only_where_mismatches_rose;
  }

-- these bytes were written, and no call failed
abbrev pub HasWritten : {D : Type 0} → (D → ℕ) → (D → ℕ) → (D → ℕ) → (D → Option (List ℕ)) → ℕ → List ℕ → D → D → Type 0
HasWritten size faults mismatches held at bytes old new = Writes {A = Unit {0}} {E = Failed} size faults mismatches held at bytes (Ok tt) old new
