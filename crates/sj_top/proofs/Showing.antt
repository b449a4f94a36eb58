-- What the deliveries of the print statements show is what the statements print.
use Rattle.std.proofs.Common.{◌≡◌, ℕ, ◌+◌, ◌-◌, ◌<◌, ◌≤◌, List, [], ◌∷◌, length, map, get_or, refl, sym, ap, ◌∙◌, subst, arith, inl, inr, Option, Some, None, nat_eq}
use Rattle.std.specs.Prelude.{All, AllPairs, Contains}
use Rattle.std.specs.List.{range_with_len}
use Rattle.std.proofs.lemmas.Bool.{cases_eq, cases_lt}
use Rattle.std.proofs.lemmas.Bool.Decides.{Decides-eqb}
use Rattle.std.proofs.lemmas.List.{get_or_default}
use Rattle.std.proofs.lemmas.List.Elements.{All-contains}
use Rattle.std.proofs.lemmas.List.FromFn.{fill_by_all}
use Rattle.std.proofs.lemmas.List.Sorted.{IsPermutation-refl}
use Rattle.std.proofs.lemmas.Option.{slice_get_cases, slice_get-get_or}
use Rattle.sj_base.specs.declared.program.Delivery.{Delivery}
use Rattle.sj_base.specs.declared.program.Program.{Program}
use Rattle.sj_base.specs.declared.tile.Dims.{Dims}
use Rattle.sj_base.specs.Array.{array, zeros}
use Rattle.sj_core.proofs.Readiness.{Contains-from_filter, filter-Contains}
use Rattle.sj_codelet.specs.Kernel.{out}
use Rattle.sj_core.specs.Fold.{given}
use Rattle.sj_plan.specs.Rect.{Within}
use Rattle.sj_plan.specs.Window.{gathered}
use Rattle.sj_meaning.specs.Act.{Statement}
use Rattle.sj_meaning.specs.declared.job.Kind.TheVariants.{Vector}
use Rattle.sj_meaning.specs.Meaning.{Printed, printed}
use Rattle.sj_meaning.specs.Table.{Table, info_of}
use Rattle.sj_lower.specs.Delivering.{DeliversPrinted, IsPrinted, deliveries_for, part_of}
use Rattle.sj_top.specs.Gathering.{AreGrouped, IsShown, all_shown, assembled, no_delivery, prints_of, delivered_root, shown}

-- a delivery in a list that has some
first-in : (ds : List Delivery) → 0 < length ds → Contains ds (get_or ds 0 no_delivery)
first-in [] some = absurd (omega arith)
first-in (d ∷ ds) some = (0, some, refl)

-- of print statement k, and one of the program's
of-print : (p : Program) (k : ℕ) (d : Delivery) → Contains (deliveries_for p k) d → d.print ≡ k
of-print p k d has = (Decides-eqb d.print k).0 (filter-Contains (λ e. nat_eq e.print k) p.deliveries d has)

-- of items in order the last one has the greatest number
last-greatest : (ds : List Delivery) (last d : Delivery) → AllPairs (λ x y. x.print ≤ y.print) ds → get_or ds (length ds - 1) last ≡ last → Contains ds d → d.print ≤ last.print
last-greatest ds last d asc is (i, inside, at) = elim (cases_eq i (length ds - 1)) [
  | inl e ↦
      let same : d ≡ last = sym at ∙ get_or_default ds i d last inside ∙ ap (λ n. get_or ds n last) e ∙ is in
      subst (λ (x : Delivery). x.print ≤ last.print) (sym same) (omega arith)
  | inr other ↦
      let end : length ds - 1 < length ds = omega (arith, inside) in
      let below : (get_or ds i d).print ≤ (get_or ds (length ds - 1) d).print = asc i (length ds - 1) d (omega (arith, inside, other)) end in
      let there : get_or ds (length ds - 1) d ≡ last = get_or_default ds (length ds - 1) d last end ∙ is in
      subst (λ (x : Delivery). d.print ≤ x.print) there (subst (λ (x : Delivery). x.print ≤ (get_or ds (length ds - 1) d).print) at below)
]

-- how many print statements there are, from the last delivery
abbrev prints_to : Option Delivery → ℕ
prints_to o = elim o [ None ↦ 0 | Some d ↦ d.print + 1 ]

module _ (T : Table) (p : Program) (ss : List (Statement (List ℕ))) (h : DeliversPrinted T p ss) where
  abbrev pub nothing_found : Printed
  nothing_found = record { name = []; kind = Vector; array = array (record { rows = 0; cols = 0 }) [] }

  abbrev pub found : ℕ → Printed
  found k = get_or (printed ss) k nothing_found

  each : (k : ℕ) → k < length (printed ss) → IsPrinted T p k (found k)
  each k below = h.each k (found k) (slice_get-get_or (printed ss) k nothing_found below)

  abbrev first_delivery : ℕ → Delivery
  first_delivery k = get_or (deliveries_for p k) 0 no_delivery

  first-of-print : (k : ℕ) → k < length (printed ss) → ((first_delivery k).print ≡ k) × Contains p.deliveries (first_delivery k)
  first-of-print k below =
      let has = first-in (deliveries_for p k) (each k below).some in
      (of-print p k (first_delivery k) has, Contains-from_filter (λ (e : Delivery). nat_eq e.print k) p.deliveries (first_delivery k) has)

  pub count-prints : prints_of p ≡ length (printed ss)
  count-prints = elim (slice_get_cases p.deliveries (length p.deliveries - 1)).1 [
    | inl some ↦
        let last = some.0 in
        let is : prints_of p ≡ last.print + 1 = ap prints_to some.2 in
        let below : last.print < length (printed ss) = subst (λ (d : Delivery). d.print < length (printed ss)) some.3 (h.below (length p.deliveries - 1) last some.1) in
        let least : length (printed ss) ≤ last.print + 1 = elim (cases_lt (last.print + 1) (length (printed ss))) [
          | inl more ↦
              let k = last.print + 1 in
              let of_k = first-of-print k more in
              absurd (let h = last-greatest p.deliveries last (first_delivery k) h.ascending some.3 of_k.1 in omega (arith, h, of_k.0))
          | inr le ↦ le
        ] in
        is ∙ omega (arith, below, least)
    | inr none ↦
        let is : prints_of p ≡ 0 = ap prints_to none.1 in
        elim (cases_lt 0 (length (printed ss))) [
          | inl some ↦ let in_none = (first-of-print 0 some).1 in absurd (omega (arith, in_none.1, none.0))
          | inr le ↦ is ∙ omega (arith, le)
        ]
  ]

  -- what the deliveries of a print statement show is what it finds
  pub shown-is : (k : ℕ) → k < length (printed ss) → shown T (given out p) (deliveries_for p k) ≡ found k
  shown-is k below =
      let x = found k in
      let is = each k below in
      let ds = deliveries_for p k in
      let named = is.named 0 no_delivery is.some in
      let dims : (info_of T (delivered_root ds)).dims ≡ x.array.dims = is.dims 0 no_delivery is.some in
      let made : assembled (given out p) (info_of T (delivered_root ds)).dims ds ≡ x.array = ap (λ (d : Dims). gathered (zeros d) (map (part_of p) ds)) dims ∙ is.array (map (part_of p) ds) (IsPermutation-refl (map (part_of p) ds)) in
      λ i. record { name = (named i).0; kind = (named i).1; array = made i }

  grouped-each : (k : ℕ) → k < prints_of p → IsShown T (given out p) (deliveries_for p k)
  grouped-each k below =
      let inside : k < length (printed ss) = omega (arith, count-prints) in
      let is = each k inside in
      let ds = deliveries_for p k in
      record {
        some = is.some;
        rooted = All-contains (λ (d : Delivery). d.root.0 < length T.names) p.deliveries (first_delivery k) h.rooted (first-of-print k inside).1;
        within = subst (λ (d : Dims). All (λ e. Within (part_of p e).0 d) ds) (sym (is.dims 0 no_delivery is.some)) is.within;
      }

  pub grouped : AreGrouped T p
  grouped = record { ascending = h.ascending; each = grouped-each }

  pub all-shown : all_shown T (given out p) p ≡ printed ss
  all-shown =
      let f = λ (k : ℕ). shown T (given out p) (deliveries_for p k) in
      ap (λ n. map f (range_with_len 0 n)) count-prints ∙ sym (fill_by_all f (printed ss) (length (printed ss)) nothing_found refl (λ k below. sym (shown-is k below)))
