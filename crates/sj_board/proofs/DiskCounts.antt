-- What a store and a fetch count, and that a refusal has its cause.
use Rattle.sj_board.proofs.Words.{AllTell, AllZip, ap, AreCounted, AreGivenBack, arith, Array, block, Bool, ChangesAt, counted, Counts, CountsFaults, differed_at, DiskNo, DiskRefusal, Equations, Err, Extent, extent_of, failed_at, false, fault_of, Fetches, HasCause, HasRisen, Header, header, IfErr, inl, inr, is_damage, is_err, is_fault, IsGivenBack, IsLaidOut, IsLastWritten, IsSomeAnd, Keeps, LendingState, length, List, Looks, map, nat_eq, Ok, Option, refl, RefusesFor, Result, Rose, Rows, slice_get, Some, StandingBy, state, Stores, subst, sym, true, Writes, ℕ, ℤ, ◌&&◌, ◌<◌, ◌∙◌, ◌≡◌, ◌≢◌, ◌≤◌}
use Rattle.std.proofs.lemmas.{Bool.and_right, Bool.cases_Bool, Bool.eqb-false, Bool.eqb-true, Bool.false≢true, List.length-map, Option.same_Some, Slice.Zip.AllZip-right}
use Rattle.sj_base.proofs.{Bools.and_true, Options.IfSome-at, Options.IsSomeAnd-at, Options.IsSomeAnd-from, Options.the}
use Rattle.sj_disk.specs.declared.refusal.DiskRefusal.TheVariants.{Damaged, DiskFault}
use Rattle.sj_disk.proofs.Sounding.{found}
use Rattle.sj_board.proofs.Storing.{tell-still}

-- ---- a call of one disk

-- what the call counted at its disk
pub record IsCall {D A : Type 0} (faults mismatches : D → ℕ) (result : Result A DiskRefusal) (old new : D) : Type 0 where
  pub of_faults : faults new ≡ counted (faults old) (is_fault result)
  pub of_mismatches : mismatches new ≡ counted (mismatches old) (is_damage result)
  pub faults_rose : Counts (faults old) (faults new) (is_fault result ≡ true)
  pub mismatches_rose : Counts (mismatches old) (mismatches new) (is_damage result ≡ true)

changes-map : {D : Type 0} (d : ℕ) (P Q : D → D → Type 0) (old new : List D) → ((x y : D) → P x y → Q x y) → ChangesAt d P old new → ChangesAt d Q old new
changes-map d P Q old new f changes = record { as_many = changes.as_many; others_stay = changes.others_stay; there = λ x y ox oy. f x y (changes.there x y ox oy) }

-- each disk counts what the call answers of it
pub call-counted : {D A : Type 0} (faults mismatches : D → ℕ) (number : DiskNo) (want : Header) (result : Result A DiskRefusal) (old new : List D) → RefusesFor number want result → ChangesAt number.0 (IsCall faults mismatches result) old new → AreCounted faults mismatches result old new
call-counted {D} {A} faults mismatches number want result old new refuses changes = record { as_many = changes.as_many; each = each }
  where
    failed-is : (r : Result A DiskRefusal) → RefusesFor number want r → (k : ℕ) (here : Bool) → nat_eq number.0 k ≡ here → failed_at r k ≡ (is_fault r && here)
    failed-is (Err (DiskFault d)) n k here e = ap (λ (j : DiskNo). nat_eq j.0 k) n ∙ e
    failed-is r n k here e = refl

    differed-is : (r : Result A DiskRefusal) → RefusesFor number want r → (k : ℕ) (here : Bool) → nat_eq number.0 k ≡ here → differed_at r k ≡ (is_damage r && here)
    differed-is (Err (Damaged d w f)) n k here e = ap (λ (j : DiskNo). nat_eq j.0 k) n.0 ∙ e
    differed-is r n k here e = refl

    each : (k : ℕ) (x y : D) → slice_get old k ≡ Some x → slice_get new k ≡ Some y → CountsFaults faults mismatches (failed_at result k) (differed_at result k) x y
    each k x y ox oy = elim (cases_Bool (nat_eq number.0 k)) [
      | inl at ↦
          let here = eqb-true number.0 k at in
          let is = changes.there x y (ap (slice_get old) here ∙ ox) (ap (slice_get new) here ∙ oy) in
          record {
            of_faults = is.of_faults ∙ ap (counted (faults x)) (sym (failed-is result refuses k true at ∙ and_true (is_fault result)));
            of_mismatches = is.of_mismatches ∙ ap (counted (mismatches x)) (sym (differed-is result refuses k true at ∙ and_true (is_damage result)));
          }
      | inr away ↦
          let same : y ≡ x = same_Some y x (sym oy ∙ changes.others_stay k (λ e. eqb-false number.0 k away (sym e)) ∙ ox) in
          record {
            of_faults = ap faults same ∙ ap (counted (faults x)) (sym (failed-is result refuses k false away ∙ and_right (is_fault result) false refl));
            of_mismatches = ap mismatches same ∙ ap (counted (mismatches x)) (sym (differed-is result refuses k false away ∙ and_right (is_damage result) false refl));
          }
    ]

-- ---- the cause of a refusal

-- a count that rose at a disk is above what it was when the run was made
risen-from : (o x y : ℕ) → o ≤ x → Rose x y → x ≤ y → Rose o y
risen-from o x y grew rose never below = let last = rose (omega (arith, grew, below)) in (omega (arith, last.0, last.1, grew, below), last.1)

risen-at : {D : Type 0} (count : D → ℕ) (Q : D → D → Type 0) (d : ℕ) (P : D → D → Type 0) (opened old new : List D) → ((x y : D) → Q x y → count x ≤ count y) → ((x y : D) → P x y → Rose (count x) (count y) × (count x ≤ count y)) → AllZip Q opened old → d < length old → ChangesAt d P old new → HasRisen count opened new d
risen-at {D} count Q d P opened old new grew rises back inside changes =
    let x = found old d inside in
    let y = found new d (omega (arith, inside, changes.as_many)) in
    let o = IsSomeAnd-at (λ (u : D). Q u x.0) (slice_get opened d) (IfSome-at (λ (v : D). IsSomeAnd (slice_get opened d) (λ u. Q u v)) (slice_get old d) x.0 x.1 (AllZip-right Q opened old back d)) in
    let rose = rises x.0 y.0 (changes.there x.0 y.0 x.1 y.1) in
    IsSomeAnd-from (λ (u : D). IsSomeAnd (slice_get new d) (λ v. Rose (count u) (count v))) (slice_get opened d) o.0 o.1 (IsSomeAnd-from (λ (v : D). Rose (count o.0) (count v)) (slice_get new d) y.0 y.1 (risen-from (count o.0) (count x.0) (count y.0) (grew o.0 x.0 o.2) rose.0 rose.1))

-- a refusal is a fault that has its cause
pub call-cause : {D A : Type 0} {eq : Equations} (size faults mismatches : D → ℕ) (held : D → Option (List ℕ)) (b : StandingBy eq D) (new : LendingState D) (number : DiskNo) (want : Header) (result : Result A DiskRefusal) → AreGivenBack size faults mismatches held b.opened b.disks.disks → number.0 < length b.disks.disks → RefusesFor number want result → ChangesAt number.0 (IsCall faults mismatches result) b.disks.disks new.set.disks → (is_damage result ≡ true → AllTell held b → ⊥) → (is_damage result ≡ true → IsLastWritten b.program b.machine (state b) number want) → IfErr result (λ r. HasCause faults mismatches held (record b { disks = new.set; out = new.out }) (fault_of r))
call-cause size faults mismatches held b new number want (Ok a) back inside named changes untold last = tt
call-cause {D} {A} size faults mismatches held b new number want (Err (DiskFault d)) back inside named changes untold last =
    subst (λ (k : DiskNo). HasRisen faults b.opened new.set.disks k.0) (sym named)
    (risen-at faults (IsGivenBack size faults mismatches held) number.0 (IsCall faults mismatches (Err (DiskFault d))) b.opened b.disks.disks new.set.disks (λ x y (is : IsGivenBack size faults mismatches held x y). is.faults_never_fall) (λ x y (is : IsCall {A = A} faults mismatches (Err (DiskFault d)) x y). (is.faults_rose.only_where_it_rose refl, is.faults_rose.never_falls)) back inside changes)
call-cause {D} {A} size faults mismatches held b new number want (Err (Damaged d w found)) back inside named changes untold last = (
  subst (λ (k : DiskNo). HasRisen mismatches b.opened new.set.disks k.0) (sym named.0)
      (risen-at mismatches (IsGivenBack size faults mismatches held) number.0 (IsCall faults mismatches (Err (Damaged d w found))) b.opened b.disks.disks new.set.disks (λ x y (is : IsGivenBack size faults mismatches held x y). is.mismatches_never_fall) (λ x y (is : IsCall {A = A} faults mismatches (Err (Damaged d w found)) x y). (is.mismatches_rose.only_where_it_rose refl, is.mismatches_rose.never_falls)) back inside changes),
  (λ same. named.2 (sym same ∙ named.1)),
  untold refl,
  subst (λ (k : DiskNo). IsLastWritten b.program b.machine (state b) k w) (sym named.0) (subst (IsLastWritten b.program b.machine (state b) number) (sym named.1) (last refl)),
)

-- ---- a store

-- its refusal is a fault of its disk
refused-fault : {A : Type 0} (number : DiskNo) (want : Header) (result : Result A DiskRefusal) → IfErr result (λ r. r ≡ DiskFault number) → (is_err result ≡ is_fault result) × (is_damage result ≡ false) × RefusesFor number want result
refused-fault number want (Ok a) only = (refl, refl, tt)
refused-fault number want (Err (DiskFault d)) only = (refl, refl, the (d ≡ number) (let is : DiskFault d ≡ DiskFault number = only in cc))
refused-fault number want (Err (Damaged d w found)) only = absurd (let clash : Damaged d w found ≡ DiskFault number = only in cc)

module _ {D A : Type 0} {eq : Equations} (size faults mismatches : D → ℕ) (held : D → Option (List ℕ)) (b : StandingBy eq D) (new : LendingState D) (c n : ℕ) (xs : List ℤ) (result : Result A DiskRefusal) (e : Extent) where
  store-call : Stores size faults mismatches held c n xs result b.disks new.set e → ChangesAt e.disk.0 (IsCall faults mismatches result) b.disks.disks new.set.disks
  store-call is =
      let only = refused-fault e.disk (header c n e.length) result is.refused_by_its_disk in
      changes-map e.disk.0 (Writes size faults mismatches held e.position (block c n xs) result) (IsCall faults mismatches result) b.disks.disks new.set.disks
      (λ x y (w : Writes size faults mismatches held e.position (block c n xs) result x y). record {
        of_faults = w.a_fault_is_counted_once ∙ ap (counted (faults x)) only.0;
        of_mismatches = w.mismatches_stay ∙ ap (counted (mismatches x)) (sym only.1);
        faults_rose = subst (λ (failed : Bool). Counts (faults x) (faults y) (failed ≡ true)) only.0 w.fails_only_where_faults_rose;
        mismatches_rose = record { never_falls = omega (arith, w.mismatches_stay); only_where_it_rose = λ damaged. absurd (false≢true (sym only.1 ∙ damaged)) };
      })
      is.writes_the_block

  fetch-call : Fetches size faults mismatches held c n xs result b.disks new.set e → ChangesAt e.disk.0 (IsCall faults mismatches result) b.disks.disks new.set.disks
  fetch-call is =
      changes-map e.disk.0 (Looks size faults mismatches held (is_fault result) (is_damage result)) (IsCall faults mismatches result) b.disks.disks new.set.disks
      (λ x y (w : Looks size faults mismatches held (is_fault result) (is_damage result) x y). record {
        of_faults = w.a_fault_is_counted_once;
        of_mismatches = w.a_mismatch_is_counted_once;
        faults_rose = w.fails_only_where_faults_rose;
        mismatches_rose = w.differs_only_where_mismatches_rose;
      })
      is.looks_at_its_disk

-- ---- as a run's store and fetch tell it

module _ {D A : Type 0} {eq : Equations} (size faults mismatches : D → ℕ) (held : D → Option (List ℕ)) (b : StandingBy eq D) (rows : Rows) (tiles : List (List (Option Array))) (spare : ℕ) (keeps : Keeps size faults mismatches held b rows tiles spare) (new : LendingState D) (c n : ℕ) (xs : List ℤ) (result : Result A DiskRefusal) (laid : IsLaidOut (map size b.disks.disks) b.disks.taken b.disks.directory) (e : Extent) (its : extent_of b.disks.directory c ≡ Some e) where
  -- the disk of the cell's block is there
  on_a_disk : e.disk.0 < length b.disks.disks
  on_a_disk = omega (arith, laid.on_a_disk c e its, length-map b.disks.disks size)

  module _ (is : Stores size faults mismatches held c n xs result b.disks new.set e) where
    only : (is_err result ≡ is_fault result) × (is_damage result ≡ false) × RefusesFor e.disk (header c n e.length) result
    only = refused-fault e.disk (header c n e.length) result is.refused_by_its_disk

    pub stores-counted : AreCounted faults mismatches result b.disks.disks new.set.disks
    stores-counted = call-counted faults mismatches e.disk (header c n e.length) result b.disks.disks new.set.disks only.2 (store-call size faults mismatches held b new c n xs result e is)

    pub stores-cause : IfErr result (λ r. HasCause faults mismatches held (record b { disks = new.set; out = new.out }) (fault_of r))
    stores-cause = call-cause size faults mismatches held b new e.disk (header c n e.length) result keeps.sound.given_back on_a_disk only.2 (store-call size faults mismatches held b new c n xs result e is) (λ damaged tells. false≢true (sym only.1 ∙ damaged)) (λ damaged. absurd (false≢true (sym only.1 ∙ damaged)))

  module _ (is : Fetches size faults mismatches held c n xs result b.disks new.set e) where
    pub fetches-counted : AreCounted faults mismatches result b.disks.disks new.set.disks
    fetches-counted = call-counted faults mismatches e.disk (header c n e.length) result b.disks.disks new.set.disks is.refused_by_its_disk (fetch-call size faults mismatches held b new c n xs result e is)

    pub fetches-cause : IsLastWritten b.program b.machine (state b) e.disk (header c n e.length) → IfErr result (λ r. HasCause faults mismatches held (record b { disks = new.set; out = new.out }) (fault_of r))
    fetches-cause last =
        call-cause size faults mismatches held b new e.disk (header c n e.length) result keeps.sound.given_back on_a_disk is.refused_by_its_disk (fetch-call size faults mismatches held b new c n xs result e is)
        (λ damaged tells. false≢true (sym (is.undamaged_where_it_tells (tell-still size faults mismatches held b.opened b.disks.disks keeps.sound.given_back tells e.disk.0)) ∙ damaged)) (λ damaged. last)
