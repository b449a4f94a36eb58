-- Accesses to one cell after another are appended.
use Rattle.std.proofs.Common.{◌≡◌, ℕ, ◌+◌, ◌<◌, List, [], ◌∷◌, ◌++◌, length, sym, ap, refl, ◌∙◌, arith, ⊎_elim, inl, inr, slice_set}
use Rattle.std.specs.Prelude.{Result, Ok, Err, OnOk}
use Rattle.std.specs.List.{range_with_len}
use Rattle.std.proofs.lemmas.List.{append_assoc, get_or-set_same, set-set, map-id}
use Rattle.std.proofs.lemmas.List.FromFn.{map-range_with_len_more}
use Rattle.std.proofs.lemmas.Bool.{cases_lt}
use Rattle.sj_deps.specs.declared.chain.Member.{Member}
use Rattle.sj_deps.specs.declared.entry.Entered.{Entered}
use Rattle.sj_deps.specs.Counts.{Appends, cells_at}

range_more : (a n : ℕ) → range_with_len a (n + 1) ≡ range_with_len a n ++ range_with_len (a + n) 1
range_more a n = sym (map-id (range_with_len a (n + 1))) ∙ map-range_with_len_more (λ x. x) a n (a + n) refl ∙ ap (λ (xs : List ℕ). xs ++ (a + n) ∷ []) (map-id (range_with_len a n))

pub Appends-more : (e₀ e new : Entered) (x : Member) (first k : ℕ) → x.party < length e₀.cells.items → Appends e₀ e x first k → Appends e new x (first + k) 1 → Appends e₀ new x first (k + 1)
Appends-more e₀ e new x first k known before last =
    let row : List ℕ = cells_at e₀.cells.items x.party ++ range_with_len first k in
    let now : cells_at e.cells.items x.party ≡ row = ap (λ (cs : List (List ℕ)). cells_at cs x.party) before.cells ∙ get_or-set_same e₀.cells.items x.party row [] known in
    record {
      len = last.len ∙ before.len;
      pushed = λ c low high. ⊎_elim (λ lower. last.others c (inl (omega arith)) ∙ before.pushed c low lower) (λ above. last.pushed c above (omega arith) ∙ ap (λ (ms : List Member). ms ++ x ∷ []) (before.others c (inr above))) (cases_lt c (first + k));
      others = λ c outer. last.others c (⊎_elim (λ low. inl (omega arith)) (λ high. inr (omega arith)) outer) ∙ before.others c (⊎_elim (λ low. inl low) (λ high. inr (omega arith)) outer);
      cells = last.cells ∙ ap (λ (r : List ℕ). slice_set e.cells.items x.party (r ++ range_with_len (first + k) 1)) now ∙ ap (λ (cs : List (List ℕ)). slice_set cs x.party (row ++ range_with_len (first + k) 1)) before.cells ∙ set-set e₀.cells.items x.party row (row ++ range_with_len (first + k) 1) ∙ ap (slice_set e₀.cells.items x.party) (append_assoc (cells_at e₀.cells.items x.party) (range_with_len first k) (range_with_len (first + k) 1) ∙ ap (λ (xs : List ℕ). cells_at e₀.cells.items x.party ++ xs) (sym (range_more first k)));
      tasks = last.tasks ∙ before.tasks;
    }

pub on_ok : {A E : Type 0} (r : Result A E) (P Q : Type 0) → (P → Q) → OnOk r P → OnOk r Q
on_ok (Ok x) P Q f h = f h
on_ok (Err e) P Q f h = h
