-- The disks in workers' hands: what is in hand is out, and only that.
use Rattle.sj_board.proofs.Words.{[], All, ap, arith, Bool, Cell, DiskState, empty_hand, Equations, Event, Extent, extent_of, false, first_hands, get_or, Hand, hand_in, inl, inr, is_out, IsInHand, IsSomeAnd, length, lent, List, None, NoneIsOut, Option, option_and_then, option_map, Program, refl, replicate, set, slice_set, Some, StandingBy, subst, suc, sym, true, unit_at, unit_state, UnitsStand, UnitState, with_event, Worker, worker, zero, ℕ, ◌<◌, ◌∙◌, ◌∷◌, ◌≡◌, ◌≢◌, ◌⊎◌}
use Rattle.std.proofs.Common.{slice_get}
use Rattle.std.proofs.lemmas.{Bool.cases_eq, Bool.cases_lt, Bool.false≢true, List.get_or-set_other, List.get_or-set_same, List.get_or_past, List.length-set, List.Elements.All-get_or, Option.none-some, Option.same_Some}
use Rattle.sj_base.proofs.{Lists.get_or-replicate_same, Options.IsSomeAnd-at, Options.IsSomeAnd-from, SameIds.workers_differ}

-- ---- where no unit is taken or put

-- hands of which each has the same unit
pub units-same : {D : Type 0} (disks : DiskState D) (out : List Bool) (hands hands' : List Hand) → ((v : Worker) → (hand_in hands' v).unit ≡ (hand_in hands v).unit) → UnitsStand disks out hands → UnitsStand disks out hands'
units-same disks out hands hands' same stand = record {
  in_hand_is_out = λ w c e. stand.in_hand_is_out w c (sym (same w) ∙ e);
  in_one_hand = λ v w c d e f ev ew. stand.in_one_hand v w c d e f (sym (same v) ∙ ev) (sym (same w) ∙ ew);
  out_is_in_hand = λ d is. (let one = stand.out_is_in_hand d is in record { worker = one.worker; cell = one.cell; extent = one.extent; in_hand = same one.worker ∙ one.in_hand; its_extent = one.its_extent; its_disk = one.its_disk });
}

unit-set : (hands : List Hand) (i : ℕ) (h : Hand) → h.unit ≡ (get_or hands i empty_hand).unit → (k : ℕ) → (get_or (set hands i h) k empty_hand).unit ≡ (get_or hands k empty_hand).unit
unit-set [] i h e k = refl
unit-set (x ∷ hands) zero h e zero = e
unit-set (x ∷ hands) zero h e (suc k) = refl
unit-set (x ∷ hands) (suc i) h e zero = refl
unit-set (x ∷ hands) (suc i) h e (suc k) = unit-set hands i h e k

-- one hand is another, with the same unit
pub units-set : {D : Type 0} (disks : DiskState D) (out : List Bool) (hands hands' : List Hand) (w : Worker) (h : Hand) → hands' ≡ slice_set hands w.0 h → h.unit ≡ (hand_in hands w).unit → UnitsStand disks out hands → UnitsStand disks out hands'
units-set disks out hands hands' w h is same stand =
    units-same disks out hands hands' (λ v. ap (λ (hs : List Hand). (hand_in hs v).unit) is ∙ unit-set hands w.0 h same v.0) stand

-- an event happens
pub units-event : {D : Type 0} {eq : Equations} (run run' : StandingBy eq D) (hands : List Hand) (e : Event) → run' ≡ with_event run e → UnitsStand run.disks run.out hands → UnitsStand run'.disks run'.out hands
units-event run run' hands e is stand = subst (λ (r : StandingBy _ _). UnitsStand r.disks r.out hands) (sym is) stand

-- ---- at the beginning and at the end

pub units-first : {D : Type 0} (p : Program) (disks : DiskState D) (n : ℕ) (hands : List Hand) → hands ≡ first_hands p → UnitsStand disks (replicate n false) hands
units-first {D} p disks n hands is = subst (λ (hs : List Hand). UnitsStand disks (replicate n false) hs) (sym is) (record {
  in_hand_is_out = λ w c e. absurd (none-some c (sym (no-unit w) ∙ e));
  in_one_hand = λ v w c d e f ev ew. absurd (none-some c (sym (no-unit v) ∙ ev));
  out_is_in_hand = λ d is. absurd (false≢true (sym (get_or-replicate_same n d false) ∙ is));
})
  where
    no-unit : (v : Worker) → (hand_in (first_hands p) v).unit ≡ None
    no-unit v = ap (λ (h : Hand). h.unit) (get_or-replicate_same p.workers v.0 empty_hand)

-- where no hand has a unit, no disk is out
pub units-none : {D : Type 0} {eq : Equations} (run : StandingBy eq D) (hands : List Hand) → UnitsStand run.disks run.out hands → All (λ (h : Hand). h.unit ≡ None) hands → NoneIsOut (lent run)
units-none run hands stand none d = by_out (is_out run.out d) refl
  where
    empty : (k : ℕ) → (get_or hands k empty_hand).unit ≡ None
    empty k = elim (cases_lt k (length hands)) [
      | inl inside ↦ All-get_or (λ (h : Hand). h.unit ≡ None) hands k empty_hand inside none
      | inr past ↦ ap (λ (h : Hand). h.unit) (get_or_past hands k empty_hand past)
    ]

    by_out : (b : Bool) → is_out run.out d ≡ b → b ≡ false
    by_out false e = refl
    by_out true e = let one = stand.out_is_in_hand d e in absurd (none-some one.cell (sym (empty one.worker.0) ∙ one.in_hand))

-- ---- a unit is taken

-- a disk that was out still is
still-out : (out : List Bool) (d k : ℕ) → is_out out k ≡ true → is_out (slice_set out d true) k ≡ true
still-out [] d k e = e
still-out (x ∷ out) zero zero e = refl
still-out (x ∷ out) zero (suc k) e = e
still-out (x ∷ out) (suc d) zero e = e
still-out (x ∷ out) (suc d) (suc k) e = still-out out d k e

-- and of those that are out, all but the one were
was-out : (out : List Bool) (d k : ℕ) → k ≢ d → is_out (slice_set out d true) k ≡ true → is_out out k ≡ true
was-out out d k far e = sym (get_or-set_other out d k true false far) ∙ e

module _ {D : Type 0} (disks : DiskState D) (out : List Bool) (hands : List Hand) (stand : UnitsStand disks out hands) (w : Worker) (inside : w.0 < length hands) where
  other-hand : (h : Hand) (v : Worker) → v ≢ w → hand_in (slice_set hands w.0 h) v ≡ hand_in hands v
  other-hand h v far = get_or-set_other hands w.0 v.0 h empty_hand (λ e. far (ap worker e))

  own-hand : (h : Hand) → hand_in (slice_set hands w.0 h) w ≡ h
  own-hand h = get_or-set_same hands w.0 h empty_hand inside

  own-unit : (h : Hand) (v : Worker) → v ≡ w → (hand_in (slice_set hands w.0 h) v).unit ≡ h.unit
  own-unit h v e = ap (λ (x : Worker). (hand_in (slice_set hands w.0 h) x).unit) e ∙ ap (λ (x : Hand). x.unit) (own-hand h)

  module _ (none : (hand_in hands w).unit ≡ None) (c : Cell) (x : Extent) (its : extent_of disks.directory c.0 ≡ Some x) (was_in : is_out out x.disk.0 ≡ false) (now_out : is_out (slice_set out x.disk.0 true) x.disk.0 ≡ true) where
    abbrev hands' : List Hand
    hands' = slice_set hands w.0 (record (hand_in hands w) { unit = Some c })

    abbrev out' : List Bool
    out' = slice_set out x.disk.0 true

    mine : (v : Worker) → v ≡ w → (hand_in hands' v).unit ≡ Some c
    mine v e = own-unit (record (hand_in hands w) { unit = Some c }) v e

    theirs : (v : Worker) → v ≢ w → (hand_in hands' v).unit ≡ (hand_in hands v).unit
    theirs v far = ap (λ (h : Hand). h.unit) (other-hand (record (hand_in hands w) { unit = Some c }) v far)

    same-cell : (d : Cell) (v : Worker) → v ≡ w → (hand_in hands' v).unit ≡ Some d → d ≡ c
    same-cell d v e is = same_Some d c (sym is ∙ mine v e)

    -- what another has in hand is another disk
    apart : (v : Worker) (d : Cell) (f : Extent) → v ≢ w → (hand_in hands' v).unit ≡ Some d → extent_of disks.directory d.0 ≡ Some f → f.disk.0 ≢ x.disk.0
    apart v d f far is ext same =
        let was = IsSomeAnd-at (λ e. is_out out e.disk.0 ≡ true) (extent_of disks.directory d.0) (stand.in_hand_is_out v d (sym (theirs v far) ∙ is)) in
        let one : was.0 ≡ f = same_Some was.0 f (sym was.1 ∙ ext) in
        false≢true (sym was_in ∙ ap (is_out out) (sym same) ∙ ap (λ (e : Extent). is_out out e.disk.0) (sym one) ∙ was.2)

    pub units-taken : UnitsStand disks (slice_set out x.disk.0 true) (slice_set hands w.0 (record (hand_in hands w) { unit = Some c }))
    units-taken = record {
      in_hand_is_out = λ v d is. in_hand v d is (workers_differ v w);
      in_one_hand = λ v u d f e g iv iu ed ef same. one_hand v u d f e g iv iu ed ef same (workers_differ v w) (workers_differ u w);
      out_is_in_hand = λ d is. out_in d is (cases_eq d x.disk.0);
    }
      where
        in_hand : (v : Worker) (d : Cell) → (hand_in hands' v).unit ≡ Some d → (v ≡ w) ⊎ (v ≢ w) → IsSomeAnd (extent_of disks.directory d.0) (λ e. is_out out' e.disk.0 ≡ true)
        in_hand v d is (inl e) = subst (λ (q : Cell). IsSomeAnd (extent_of disks.directory q.0) (λ e. is_out out' e.disk.0 ≡ true)) (sym (same-cell d v e is)) (IsSomeAnd-from (λ e. is_out out' e.disk.0 ≡ true) (extent_of disks.directory c.0) x its now_out)
        in_hand v d is (inr far) =
            let was = IsSomeAnd-at (λ e. is_out out e.disk.0 ≡ true) (extent_of disks.directory d.0) (stand.in_hand_is_out v d (sym (theirs v far) ∙ is)) in
            IsSomeAnd-from (λ e. is_out out' e.disk.0 ≡ true) (extent_of disks.directory d.0) was.0 was.1 (still-out out x.disk.0 was.0.disk.0 was.2)

        mine-at : (v : Worker) (d : Cell) (e : Extent) → v ≡ w → (hand_in hands' v).unit ≡ Some d → extent_of disks.directory d.0 ≡ Some e → e ≡ x
        mine-at v d e mv iv ed = same_Some e x (sym ed ∙ ap (λ (q : Cell). extent_of disks.directory q.0) (same-cell d v mv iv) ∙ its)

        one_hand : (v u : Worker) (d f : Cell) (e g : Extent) → (hand_in hands' v).unit ≡ Some d → (hand_in hands' u).unit ≡ Some f → extent_of disks.directory d.0 ≡ Some e → extent_of disks.directory f.0 ≡ Some g → e.disk.0 ≡ g.disk.0 → (v ≡ w) ⊎ (v ≢ w) → (u ≡ w) ⊎ (u ≢ w) → v ≡ u
        one_hand v u d f e g iv iu ed ef same (inl mv) (inl mu) = mv ∙ sym mu
        one_hand v u d f e g iv iu ed ef same (inl mv) (inr fu) = absurd (apart u f g fu iu ef (sym same ∙ ap (λ (k : Extent). k.disk.0) (mine-at v d e mv iv ed)))
        one_hand v u d f e g iv iu ed ef same (inr fv) (inl mu) = absurd (apart v d e fv iv ed (same ∙ ap (λ (k : Extent). k.disk.0) (mine-at u f g mu iu ef)))
        one_hand v u d f e g iv iu ed ef same (inr fv) (inr fu) = stand.in_one_hand v u d f e g (sym (theirs v fv) ∙ iv) (sym (theirs u fu) ∙ iu) ed ef same

        out_in : (d : ℕ) → is_out out' d ≡ true → (d ≡ x.disk.0) ⊎ (d ≢ x.disk.0) → IsInHand disks hands' d
        out_in d is (inl e) = record { worker = w; cell = c; extent = x; in_hand = mine w refl; its_extent = its; its_disk = sym e }
        out_in d is (inr far) =
            let one = stand.out_is_in_hand d (was-out out x.disk.0 d far is) in
            elim (workers_differ one.worker w) as (λ _. IsInHand disks hands' d) [
              | inl e ↦ absurd (none-some one.cell (sym none ∙ ap (λ (v : Worker). (hand_in hands v).unit) (sym e) ∙ one.in_hand))
              | inr f ↦ record { worker = one.worker; cell = one.cell; extent = one.extent; in_hand = theirs one.worker f ∙ one.in_hand; its_extent = one.its_extent; its_disk = one.its_disk }
            ]

  -- ---- a unit is put back

  module _ (c : Cell) (held : (hand_in hands w).unit ≡ Some c) (x y : Extent) (its : extent_of disks.directory c.0 ≡ Some x) (same_disk : y.disk ≡ x.disk) (z : D) where
    abbrev given : List Hand
    given = slice_set hands w.0 (record (hand_in hands w) { unit = None })

    abbrev less : List Bool
    less = slice_set out y.disk.0 false

    abbrev directory' : List (Option Extent)
    directory' = slice_set disks.directory c.0 (Some y)

    abbrev disks' : DiskState D
    disks' = record disks { disks = slice_set disks.disks y.disk.0 z; directory = slice_set disks.directory c.0 (Some y) }

    none-left : (v : Worker) → v ≡ w → (hand_in given v).unit ≡ None
    none-left v e = own-unit (record (hand_in hands w) { unit = None }) v e

    kept : (v : Worker) → v ≢ w → (hand_in given v).unit ≡ (hand_in hands v).unit
    kept v far = ap (λ (h : Hand). h.unit) (other-hand (record (hand_in hands w) { unit = None }) v far)

    -- another's cell is another one, on another disk
    elsewhere : (v : Worker) (d : Cell) (f : Extent) → v ≢ w → (hand_in hands v).unit ≡ Some d → extent_of disks.directory d.0 ≡ Some f → f.disk.0 ≢ x.disk.0
    elsewhere v d f far is ext same = far (stand.in_one_hand v w d c f x is held ext its same)

    another : (v : Worker) (d : Cell) → v ≢ w → (hand_in hands v).unit ≡ Some d → d.0 ≢ c.0
    another v d far is e = elsewhere v d x far is (ap (extent_of disks.directory) e ∙ its) refl

    stays : (v : Worker) (d : Cell) → v ≢ w → (hand_in hands v).unit ≡ Some d → extent_of directory' d.0 ≡ extent_of disks.directory d.0
    stays v d far is = get_or-set_other disks.directory c.0 d.0 (Some y) None (another v d far is)

    has-none : (v : Worker) (d : Cell) → v ≡ w → (hand_in given v).unit ≡ Some d → ⊥
    has-none v d e is = none-some d (sym (none-left v e) ∙ is)

    -- the disk that came back is in
    is-in : is_out less x.disk.0 ≡ true → ⊥
    is-in out-still = elim (cases_lt x.disk.0 (length out)) [
      | inl within ↦ false≢true (sym (get_or-set_same out x.disk.0 false false within) ∙ sym (ap (λ (k : ℕ). is_out (slice_set out k false) x.disk.0) (ap (λ d. d.0) same_disk)) ∙ out-still)
      | inr past ↦ false≢true (sym (get_or_past less x.disk.0 false (omega (arith, past, length-set out y.disk.0 false))) ∙ out-still)
    ]

    pub units-back : UnitsStand disks' less given
    units-back = record {
      in_hand_is_out = λ v d is. in_hand v d is (workers_differ v w);
      in_one_hand = λ v u d f e g iv iu ed ef same. one_hand v u d f e g iv iu ed ef same (workers_differ v w) (workers_differ u w);
      out_is_in_hand = λ d is. out_in d is (cases_eq d x.disk.0);
    }
      where
        in_hand : (v : Worker) (d : Cell) → (hand_in given v).unit ≡ Some d → (v ≡ w) ⊎ (v ≢ w) → IsSomeAnd (extent_of directory' d.0) (λ e. is_out less e.disk.0 ≡ true)
        in_hand v d is (inl e) = absurd (has-none v d e is)
        in_hand v d is (inr far) =
            let had : (hand_in hands v).unit ≡ Some d = sym (kept v far) ∙ is in
            let was = IsSomeAnd-at (λ e. is_out out e.disk.0 ≡ true) (extent_of disks.directory d.0) (stand.in_hand_is_out v d had) in
            IsSomeAnd-from (λ e. is_out less e.disk.0 ≡ true) (extent_of directory' d.0) was.0 (stays v d far had ∙ was.1)
            (get_or-set_other out y.disk.0 was.0.disk.0 false false (λ e. elsewhere v d was.0 far had was.1 (e ∙ ap (λ d. d.0) same_disk)) ∙ was.2)

        one_hand : (v u : Worker) (d f : Cell) (e g : Extent) → (hand_in given v).unit ≡ Some d → (hand_in given u).unit ≡ Some f → extent_of directory' d.0 ≡ Some e → extent_of directory' f.0 ≡ Some g → e.disk.0 ≡ g.disk.0 → (v ≡ w) ⊎ (v ≢ w) → (u ≡ w) ⊎ (u ≢ w) → v ≡ u
        one_hand v u d f e g iv iu ed ef same (inl mv) mu = absurd (has-none v d mv iv)
        one_hand v u d f e g iv iu ed ef same (inr fv) (inl mu) = absurd (has-none u f mu iu)
        one_hand v u d f e g iv iu ed ef same (inr fv) (inr fu) =
            let hv : (hand_in hands v).unit ≡ Some d = sym (kept v fv) ∙ iv in
            let hu : (hand_in hands u).unit ≡ Some f = sym (kept u fu) ∙ iu in
            stand.in_one_hand v u d f e g hv hu (sym (stays v d fv hv) ∙ ed) (sym (stays u f fu hu) ∙ ef) same

        out_in : (d : ℕ) → is_out less d ≡ true → (d ≡ x.disk.0) ⊎ (d ≢ x.disk.0) → IsInHand disks' given d
        out_in d is (inl e) = absurd (is-in (sym (ap (is_out less) e) ∙ is))
        out_in d is (inr far) =
            let one = stand.out_is_in_hand d (sym (get_or-set_other out y.disk.0 d false false (λ e. far (e ∙ ap (λ d. d.0) same_disk))) ∙ is) in
            elim (workers_differ one.worker w) as (λ _. IsInHand disks' given d) [
              | inl e ↦ absurd (
                  let has : Some c ≡ Some one.cell = sym held ∙ ap (λ (v : Worker). (hand_in hands v).unit) (sym e) ∙ one.in_hand in
                  let same : one.extent ≡ x = same_Some one.extent x (sym one.its_extent ∙ ap (λ (q : Cell). extent_of disks.directory q.0) (sym (same_Some c one.cell has)) ∙ its) in
                  far (sym one.its_disk ∙ ap (λ (k : Extent). k.disk.0) same)
                  )
              | inr f ↦ record { worker = one.worker; cell = one.cell; extent = one.extent; in_hand = kept one.worker f ∙ one.in_hand; its_extent = stays one.worker one.cell f one.in_hand ∙ one.its_extent; its_disk = one.its_disk }
            ]

    -- the units in the hands of others are as they were
    pub others-keep : (v : Worker) → v ≢ w → option_and_then (unit_at disks') (hand_in given v).unit ≡ option_and_then (unit_at disks) (hand_in hands v).unit
    others-keep v far = ap (option_and_then (unit_at disks')) (kept v far) ∙ by_unit (hand_in hands v).unit refl
      where
        unit-in : (d : Cell) → Option Extent → List D → Option (UnitState D)
        unit-in d o ds = option_and_then (λ (e : Extent). option_map (λ q. unit_state q d e) (slice_get ds e.disk.0)) o

        by_extent : (d : Cell) → (hand_in hands v).unit ≡ Some d → (o : Option Extent) → extent_of disks.directory d.0 ≡ o → unit-in d o (slice_set disks.disks y.disk.0 z) ≡ unit-in d o disks.disks
        by_extent d is None e = refl
        by_extent d is (Some f) e = ap (option_map (λ q. unit_state q d f)) (get-other disks.disks y.disk.0 f.disk.0 z (λ same. elsewhere v d f far is e (same ∙ ap (λ d. d.0) same_disk)))
          where
            get-other : (ds : List D) (i k : ℕ) (q : D) → k ≢ i → slice_get (slice_set ds i q) k ≡ slice_get ds k
            get-other [] i k q ne = refl
            get-other (a ∷ ds) zero zero q ne = absurd (ne refl)
            get-other (a ∷ ds) zero (suc k) q ne = refl
            get-other (a ∷ ds) (suc i) zero q ne = refl
            get-other (a ∷ ds) (suc i) (suc k) q ne = get-other ds i k q (λ e. ne (ap suc e))

        by_unit : (o : Option Cell) → (hand_in hands v).unit ≡ o → option_and_then (unit_at disks') o ≡ option_and_then (unit_at disks) o
        by_unit None e = refl
        by_unit (Some d) e =
            ap (λ (o : Option Extent). unit-in d o (slice_set disks.disks y.disk.0 z)) (stays v d far e)
            ∙ by_extent d e (extent_of disks.directory d.0) refl
