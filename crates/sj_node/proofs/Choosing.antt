-- A search from the least recently used entry on finds the shortest end of the unpinned ones that covers a need.
use Rattle.std.proofs.Common.{◌≡◌, ℕ, ◌+◌, ◌-◌, ◌<◌, Bool, true, false, not, cond, nat_eq, nat_le, List, [], ◌∷◌, ◌++◌, map, filter, reverse, Option, Some, None, refl, sym, ap, ◌∙◌, append_assoc, append-nil, arith}
use Rattle.std.specs.Bool.{then_some}
use Rattle.std.proofs.lemmas.Bool.{and_from}
use Rattle.std.proofs.lemmas.Bool.Decides.{nat_tests}
use Rattle.std.proofs.lemmas.List.{map-append, reverse-append}
use Rattle.std.proofs.lemmas.List.Elements.{filter-append}
use Rattle.std.proofs.lemmas.List.Sums.{sum_by-cons}
use Rattle.sj_base.specs.declared.ids.Cell.{Cell}
use Rattle.sj_node.specs.Entry.{NodeEntry, is_of_cells, is_spare, is_unpinned, total, victim_cells}
use Rattle.sj_node.specs.Victims.{covers, shortest_suffix}

-- an end that passes is the shortest of each longer list, where it is of itself
pub shortest_suffix-append : {X : Type 0} (test : List X → Bool) (xs vs ws : List X) → shortest_suffix test vs ≡ Some ws → shortest_suffix test (xs ++ vs) ≡ Some ws
shortest_suffix-append test [] vs ws h = h
shortest_suffix-append test (x ∷ xs) vs ws h = rw (shortest_suffix-append test xs vs ws h)

-- what is lacking is nothing exactly where the need is covered
none_lacking : (need have : ℕ) → nat_le need have ≡ nat_eq (need - have) 0
none_lacking need have = grind (arith, nat_tests)

then : {X : Type 0} (b : Bool) (x : X) → then_some b x ≡ cond b (Some x) None
then true x = refl
then false x = refl

-- an entry that nothing pins and that isn't held is spare
pub spare : (held : List Cell) (e : NodeEntry) → is_unpinned e ≡ true → not (is_of_cells held e) ≡ true → is_spare held e ≡ true
spare held e free apart = and_from (is_unpinned e) (not (is_of_cells held e)) free apart

module _ (held : List Cell) (free need : ℕ) where
  abbrev test : List NodeEntry → Bool
  test = covers (λ e. e.bytes) free need

  abbrev is_it : List NodeEntry → ℕ → Option (List NodeEntry)
  is_it vs lacking = cond (nat_eq lacking 0) (Some vs) None

  -- the entries behind `rest` were passed: `found` are the unpinned ones among them, and so much is lacking
  pub record IsSearch (order rest : List NodeEntry) (found : List Cell) (lacking : ℕ) : Type 0 where
    pub passed : List NodeEntry
    pub parts : rest ++ passed ≡ order
    pub cells : found ≡ map (λ e. e.cell) (reverse (filter (is_spare held) passed))
    pub left : lacking ≡ need - (free + total (filter (is_spare held) passed))
    pub shortest : shortest_suffix test (filter (is_spare held) passed) ≡ is_it (filter (is_spare held) passed) lacking

  covered : (vs : List NodeEntry) (lacking : ℕ) → lacking ≡ need - (free + total vs) → then_some (test vs) vs ≡ is_it vs lacking
  covered vs lacking h = rw h (then (test vs) vs ∙ ap (λ b. cond b (Some vs) None) (none_lacking need (free + total vs)))

  pub search_begins : (order : List NodeEntry) → IsSearch order order [] (need - free)
  search_begins order = record {
    passed = [];
    parts = append-nil order;
    cells = refl;
    left = omega arith;
    shortest = covered [] (need - free) (omega arith);
  }

  pub search_passes : (order rest : List NodeEntry) (e : NodeEntry) (found : List Cell) (lacking : ℕ) → is_spare held e ≡ false → IsSearch order (rest ++ e ∷ []) found lacking → IsSearch order rest found lacking
  search_passes order rest e found lacking pinned s = record {
    passed = e ∷ s.passed;
    parts = sym (append_assoc rest (e ∷ []) s.passed) ∙ s.parts;
    cells = rw pinned s.cells;
    left = rw pinned s.left;
    shortest = rw pinned s.shortest;
  }

  pub search_takes : (order rest : List NodeEntry) (e : NodeEntry) (found : List Cell) (lacking : ℕ) → is_spare held e ≡ true → 0 < lacking → IsSearch order (rest ++ e ∷ []) found lacking → IsSearch order rest (found ++ e.cell ∷ []) (lacking - e.bytes)
  search_takes order rest e found lacking unpinned some s =
      let vs = filter (is_spare held) s.passed in
      let none : shortest_suffix test vs ≡ None = s.shortest ∙ (let b : nat_eq lacking 0 ≡ false = grind (arith, nat_tests) in rw b refl) in
      let less : lacking - e.bytes ≡ need - (free + total (e ∷ vs)) = omega (arith, s.left, sum_by-cons (λ (x : NodeEntry). x.bytes) e vs) in
      record {
        passed = e ∷ s.passed;
        parts = sym (append_assoc rest (e ∷ []) s.passed) ∙ s.parts;
        cells = rw (unpinned, reverse-append (e ∷ []) vs) (ap (λ cs. cs ++ e.cell ∷ []) s.cells ∙ sym (map-append (λ (x : NodeEntry). x.cell) (reverse vs) (e ∷ [])));
        left = rw unpinned less;
        shortest = rw (unpinned, none) (covered (e ∷ vs) (lacking - e.bytes) less);
      }

  pub search_finds : (order rest : List NodeEntry) (found : List Cell) (lacking : ℕ) → lacking ≡ 0 → IsSearch order rest found lacking → Some found ≡ victim_cells held order free need
  search_finds order rest found lacking all s =
      let vs = filter (is_spare held) s.passed in
      let here : shortest_suffix test vs ≡ Some vs = s.shortest ∙ rw all refl in
      let whole : filter (is_spare held) order ≡ filter (is_spare held) rest ++ vs = ap (filter (is_spare held)) (sym s.parts) ∙ filter-append (is_spare held) rest s.passed in
      let chosen : shortest_suffix test (filter (is_spare held) order) ≡ Some vs = rw whole (shortest_suffix-append test (filter (is_spare held) rest) vs vs here) in
      rw chosen (ap Some s.cells)

  pub search_fails : (order : List NodeEntry) (found : List Cell) (lacking : ℕ) → 0 < lacking → IsSearch order [] found lacking → None ≡ victim_cells held order free need
  search_fails order found lacking some s =
      let none : shortest_suffix test (filter (is_spare held) order) ≡ None = ap (λ es. shortest_suffix test (filter (is_spare held) es)) (sym s.parts) ∙ s.shortest ∙ (let b : nat_eq lacking 0 ≡ false = grind (arith, nat_tests) in rw b refl) in
      rw none refl
