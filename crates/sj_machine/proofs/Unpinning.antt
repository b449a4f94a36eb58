-- Entries of a node whose pins are taken off.
use Rattle.sj_machine.proofs.Words.{[], ap, arith, Cell, drop, get_or, has_cell, length, List, NodeEntry, pins_of, refl, repinned, same_cell, sym, take, true, unpinned_each, ℕ, ◌+◌, ◌-◌, ◌<◌, ◌∙◌, ◌∷◌, ◌≡◌, ◌≤◌}
use Rattle.sj_core.proofs.{CellLists.same_cell-refl, CellLists.same_cell-sym, CellLists.times, CellLists.times-append, CellLists.times-cons, Reading.same_cell-is, Sums.tally}
use Rattle.std.proofs.lemmas.{Bool.cases_Bool, Bool.false≢true, List.take-append-drop, List.take_more, List.Folds.list_any_at}
use Rattle.std.proofs.{Math.Path.fun_ext}
use Rattle.sj_machine.proofs.{ClaimEntries.entries}

module _ (bytes : Cell → ℕ) where
  -- one pin less for a cell
  one-less : (f : Cell → ℕ) (d : Cell) (cs : List Cell) → repinned (λ k. k - 1) d (entries bytes f cs) ≡ entries bytes (λ c. f c - tally (same_cell d c)) cs
  one-less f d [] = refl
  one-less f d (x ∷ cs) = search (arith, cases_Bool, one-less f d cs)

  -- one for each of these
  pub all-less : (ds : List Cell) (f : Cell → ℕ) (cs : List Cell) → unpinned_each ds (entries bytes f cs) ≡ entries bytes (λ c. f c - times ds c) cs
  all-less [] f cs = ap (λ (g : Cell → ℕ). entries bytes g cs) (fun_ext {f = f} {g = λ c. f c - 0} (λ c. (let z : f c ≡ f c - 0 = omega arith in z)))
  all-less (d ∷ ds) f cs =
      ap (λ (es : List NodeEntry). unpinned_each ds es) (one-less f d cs) ∙ all-less ds (λ c. f c - tally (same_cell d c)) cs
      ∙ ap (λ (g : Cell → ℕ). entries bytes g cs) (fun_ext {f = λ c. f c - tally (same_cell d c) - times ds c} {g = λ c. f c - times (d ∷ ds) c} (λ c. (let t = times-cons d ds c in let z : f c - tally (same_cell d c) - times ds c ≡ f c - times (d ∷ ds) c = omega arith in z)))

  -- the pins of an entry that is there
  pins-there : (f : Cell → ℕ) (cs : List Cell) (d : Cell) → has_cell cs d ≡ true → pins_of (entries bytes f cs) d ≡ f d
  pins-there f [] d h = absurd (false≢true h)
  pins-there f (x ∷ cs) d h = search (arith, cases_Bool, same_cell-sym, same_cell-is, pins-there f cs d)

  -- a pin can be taken off for each of these, where there are as many
  pub can-unpin : (ds : List Cell) (f : Cell → ℕ) (cs : List Cell) → ((c : Cell) → has_cell ds c ≡ true → has_cell cs c ≡ true) → ((c : Cell) → times ds c ≤ f c) → (i : ℕ) (d : Cell) → i < length ds → 0 < pins_of (unpinned_each (take i ds) (entries bytes f cs)) (get_or ds i d)
  can-unpin ds f cs among enough i d inside =
      let c : Cell = get_or ds i d in
      let has : has_cell ds c ≡ true = list_any_at (λ e. same_cell e c) ds i d inside (same_cell-refl c) in
      let there : pins_of (unpinned_each (take i ds) (entries bytes f cs)) c ≡ f c - times (take i ds) c = ap (λ (es : List NodeEntry). pins_of es c) (all-less (take i ds) f cs) ∙ pins-there (λ x. f x - times (take i ds) x) cs c (among c has) in
      let more : times (take (i + 1) ds) c ≡ times (take i ds) c + times (c ∷ []) c = ap (λ (l : List Cell). times l c) (take_more ds i d inside) ∙ times-append (take i ds) (c ∷ []) c in
      let one : times (c ∷ []) c ≡ 1 = times-cons c [] c ∙ ap (λ b. tally b + 0) (same_cell-refl c) in
      let whole : times ds c ≡ times (take (i + 1) ds) c + times (drop (i + 1) ds) c = ap (λ (l : List Cell). times l c) (sym (take-append-drop (i + 1) ds)) ∙ times-append (take (i + 1) ds) (drop (i + 1) ds) c in
      omega (arith, enough c)
