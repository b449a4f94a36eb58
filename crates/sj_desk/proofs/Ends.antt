-- How a desk opens and deals its seats, and how it closes.
use Rattle.std.proofs.Common.{◌≡◌, ℕ, zero, suc, ◌+◌, ◌-◌, ◌<◌, List, [], ◌∷◌, ◌++◌, map, length, get_or, sym, refl, ap, ◌∙◌, subst, arith, All, Contains, Option, Some, None, option_to_list, append_assoc}
use Rattle.std.specs.List.{AllByRecursion, AllZip, range_with_len}
use Rattle.std.proofs.lemmas.List.Elements.{All-from_recursion, recursion_from_All}
use mathlib.Core.Option.{some, some-injective}
use lib.ListN.{get_elem?}
use Rattle.atomic_table.specs.Seated.{TableId}
use Rattle.atomic_table.specs.Table.{Me, Allows, Splits, Joins, Final, Seen, rest}
use Rattle.sj_desk.specs.declared.view.View.{View}
use Rattle.sj_desk.specs.declared.view.Opening.{Opening}
use Rattle.sj_desk.specs.declared.view.Heard.{Heard}
use Rattle.sj_desk.specs.Seats.{DeskFacts, SeatFacts, new_seat, HasRowLeft, HasEachNumber}
use Rattle.sj_desk.specs.Views.{no_tally, HasOwnRow, seat_facts, value_left, sitting, ended, opening_rows, first_view, at_stage, dealing, dealt, joined_seat, seated, desk_facts, opening_of, IsRowOf, IsOutOfTurn, IsDealer, Gathered}
use Rattle.sj_desk.specs.Turns.{IsRuled, FillsSlot, OpensDesk}
use Rattle.sj_desk.proofs.Lists.{opening_next}
use Rattle.std.proofs.lemmas.List.FromFn.{map-range_with_len_more}
use Rattle.sj_base.proofs.Options.{IsSomeAnd-from}
use Rattle.sj_desk.proofs.Seats.{sits}
use Rattle.sj_desk.proofs.Steps.{fills, opens, deals, gathers, Closes, closes}

module _ {X Y : Type 0} (R : X → Y → Type 0) where
  pub zip_contains : (xs : List X) (ys : List Y) (x : X) (k : ℕ) → AllZip R xs ys → k < length xs → get_or xs k x ≡ x → (y : Y) × Contains ys y × R x y
  zip_contains [] ys x k h less e = absurd (omega arith)
  zip_contains (x' ∷ xs) [] x k h less e = absurd h
  zip_contains (x' ∷ xs) (y ∷ ys) x zero h less e = (y, (0, omega arith, refl), subst (λ z. R z y) e h.0)
  zip_contains (x' ∷ xs) (y ∷ ys) x (suc k) h less e = let t = zip_contains xs ys x k h.1 (omega arith) e in let there = t.1.1 in (t.0, (suc t.1.0, omega arith, t.1.2), t.2)

module _ {T : Type 0} where
  pub rows_left : {R : Type 0} (row_of : T → ℕ → R) (value : T) (seats : List (SeatFacts T)) (rows : List (ℕ × T)) → AllZip IsRowOf seats rows
      → AllByRecursion (λ r. row_of value r.0 ≡ row_of r.1 r.0) rows → AllByRecursion (HasRowLeft row_of value) seats
  rows_left row_of value [] rows zipped same = tt
  rows_left row_of value (s ∷ ss) [] zipped same = absurd zipped
  rows_left row_of value (s ∷ ss) (r ∷ rs) zipped same =
      let n = zipped.0.0 in
      (IsSomeAnd-from (λ left. row_of value s.number ≡ row_of left s.number) s.left r.1 zipped.0.1 (ap (row_of value) n ∙ same.0 ∙ ap (row_of r.1) (sym n)), rows_left row_of value ss rs zipped.1 same.1)

  pub all_rows_left : {R : Type 0} (row_of : T → ℕ → R) (value : T) (seats : List (SeatFacts T)) (rows : List (ℕ × T)) → AllZip IsRowOf seats rows
      → All (λ r. row_of value r.0 ≡ row_of r.1 r.0) rows → All (HasRowLeft row_of value) seats
  all_rows_left row_of value seats rows zipped same =
      All-from_recursion (HasRowLeft row_of value) seats (rows_left row_of value seats rows zipped (recursion_from_All (λ r. row_of value r.0 ≡ row_of r.1 r.0) rows same))

  pub has_rows : (d : DeskFacts T) (seats : List (SeatFacts T)) (rows : List (ℕ × T)) → AllZip IsRowOf seats rows → HasEachNumber d seats
      → (n : ℕ) → n < d.seats → (r : ℕ × T) × Contains rows r × (r.0 ≡ n)
  has_rows d seats rows zipped whole n below =
      let w = whole n below in
      let t = zip_contains IsRowOf seats rows w.0 w.1.0 zipped w.1.1 w.1.2 in
      (t.0, t.1, sym t.2.0 ∙ w.2)

  -- the first seat is taken from the list, and then another
  pub gathered_first : (all rest : List (SeatFacts T)) (x : SeatFacts T) (rows : List (ℕ × T)) (r : ℕ × T) → all ≡ rest ++ option_to_list (Some x) → rows ≡ r ∷ [] → IsRowOf x r → Gathered all rest rows
  gathered_first all rest x rows r e is mine = (x ∷ [], e, subst (AllZip IsRowOf (x ∷ [])) (sym is) (mine, tt))

  pub gathered_more : (all left rest : List (SeatFacts T)) (x : SeatFacts T) (rows more : List (ℕ × T)) (r : ℕ × T) → Gathered all left rows → left ≡ rest ++ option_to_list (Some x)
      → more ≡ r ∷ rows → IsRowOf x r → Gathered all rest more
  gathered_more all left rest x rows more r g e is mine =
      (x ∷ g.0, g.1 ∙ ap (λ l. l ++ g.0) e ∙ append_assoc rest (x ∷ []) g.0, subst (AllZip IsRowOf (x ∷ g.0)) (sym is) (mine, g.2))

  pub gathered_all : (all left : List (SeatFacts T)) (rows : List (ℕ × T)) → Gathered all left rows → left ≡ [] → AllZip IsRowOf all rows
  gathered_all all left rows g e = subst (λ l. AllZip IsRowOf l rows) (sym (g.1 ∙ ap (λ l. l ++ g.0) e)) g.2

  pub none_without : (d : DeskFacts T) (seats : List (SeatFacts T)) → HasEachNumber d seats → 0 < d.seats → length seats ≡ 0 → ⊥
  none_without d seats whole positive none = let w = whole 0 positive in let less : w.1.0 < length seats = w.1.1 in omega arith

  -- after a seat is dealt: the dealer, and the seat
  pub dealer_next : (d : DeskFacts T) (a : ℕ) (m n : Me (Option T) (View T)) → a < d.seats → m ≡ (sitting (opening_of d) (opening_rows d.opening a (d.seats - a)) no_tally 2, []) → n ≡ (dealing m.0, m.1)
      → n ≡ (sitting (opening_of d) (opening_rows d.opening (a + 1) (d.seats - (a + 1))) no_tally 2, [])
  dealer_next d a m n below e is =
      is ∙ ap (λ (x : Me (Option T) (View T)). (dealing x.0, x.1)) (e ∙ ap (λ (l : List (ℕ × T)). (sitting (opening_of d) l no_tally 2, [])) (opening_next d.opening a d.seats below))

  pub dealt_me : (d : DeskFacts T) (a : ℕ) (m n : Me (Option T) (View T)) → a < d.seats → m ≡ (sitting (opening_of d) (opening_rows d.opening a (d.seats - a)) no_tally 2, []) → n ≡ (dealt m.0, [])
      → n ≡ seated (opening_of d) a d.opening None no_tally
  dealt_me d a m n below e is =
      is ∙ ap (λ (x : Me (Option T) (View T)). (dealt x.0, [])) (e ∙ ap (λ (l : List (ℕ × T)). (sitting (opening_of d) l no_tally 2, [])) (opening_next d.opening a d.seats below))

  pub dealt_facts : (d : DeskFacts T) (ts : TableId) (a : ℕ) (n : Me (Option T) (View T)) → ts ≡ d.table → n ≡ seated (opening_of d) a d.opening None no_tally → seat_facts ts a n.0 ≡ new_seat d a
  dealt_facts d ts a n table e = λ i. seat_facts (table i) a (e i).0

  pub dealt_list : (d : DeskFacts T) (a : ℕ) (xs ys : List (SeatFacts T)) (s : SeatFacts T) → xs ≡ map (new_seat d) (range_with_len 0 a) → ys ≡ xs ++ s ∷ [] → s ≡ new_seat d a
      → ys ≡ map (new_seat d) (range_with_len 0 (a + 1))
  dealt_list d a xs ys s e is same =
      is ∙ ap (λ l. l ++ s ∷ []) e ∙ ap (λ x. map (new_seat d) (range_with_len 0 a) ++ x ∷ []) same ∙ sym (map-range_with_len_more (new_seat d) 0 a a (omega arith))

  -- a seat that was taken from the list
  pub record IsTaken (ts : TableId) (number : ℕ) (me : Me (Option T) (View T)) (d : DeskFacts T) (s : SeatFacts T) : Type 0 where
    pub table : ts ≡ d.table
    pub idle : IsOutOfTurn d me.0.rows me
    pub left : T
    pub rows : me.0.rows ≡ (number, left) ∷ []
    pub row : IsRowOf s (number, left)

  pub taken : (ts td : TableId) (number : ℕ) (heard : Option Heard) (me : Me (Option T) (View T)) (k : Opening T) (d : DeskFacts T) (s : SeatFacts T) → HasOwnRow number heard me → seat_facts ts number me.0 ≡ s → desk_facts td k ≡ d
      → s.desk ≡ Some d → s.found ≡ None → IsTaken ts number me d s
  taken ts td number heard me k d s sat seen desk of idle =
      let at = sits ts td number heard me k None s d sat seen desk of idle in
      let rows : me.0.rows ≡ (number, at.left) ∷ [] = ap (λ (x : Me (Option T) (View T)). x.0.rows) at.me_is in
      let key : k ≡ opening_of d = ap (λ (x : DeskFacts T). opening_of x) desk in
      record {
        table = at.table ∙ ap (λ (x : DeskFacts T). x.table) desk;
        idle = (at.tally, at.me_is ∙ (λ i. (sitting (key i) (sym rows i) at.tally 2, [])));
        left = at.left;
        rows = rows;
        row = (ap (λ (x : SeatFacts T). x.number) (sym seen), ap (λ (x : SeatFacts T). x.left) (sym seen) ∙ ap value_left rows);
      }

  pub joined_idle : (d : DeskFacts T) (m n : Me (Option T) (View T)) (w : View T) → IsOutOfTurn d m.0.rows m → n ≡ (joined_seat m.0 w, m.1) → IsOutOfTurn d n.0.rows n
  joined_idle d m n w idle is =
      let e : n ≡ (sitting (opening_of d) (w.rows ++ m.0.rows) idle.0 2, []) = is ∙ ap (λ (x : Me (Option T) (View T)). (joined_seat x.0 w, x.1)) idle.1 in
      let rows : n.0.rows ≡ w.rows ++ m.0.rows = ap (λ (x : Me (Option T) (View T)). x.0.rows) e in
      (idle.0, e ∙ ap (λ (l : List (ℕ × T)). (sitting (opening_of d) l idle.0 2, [])) (sym rows))

  pub joined_rows : (m n : Me (Option T) (View T)) (w : View T) (r : ℕ × T) → w.rows ≡ r ∷ [] → n ≡ (joined_seat m.0 w, m.1) → n.0.rows ≡ r ∷ m.0.rows
  joined_rows m n w r e is = ap (λ (x : Me (Option T) (View T)). x.0.rows) is ∙ ap (λ (l : List (ℕ × T)). l ++ m.0.rows) e

module _ {T R : Type 0} (row_of : T → ℕ → R) (fits : Opening T → T → Type 0) (k : Opening T) (td : TableId) (d : DeskFacts T) (desk : desk_facts td k ≡ d) where
  abbrev same_key : opening_of d ≡ k
  same_key = ap (λ (x : DeskFacts T). opening_of x) (sym desk)

  pub fills_at : (slots id : ℕ) (me : Me (Option T) (View T)) → slots ≡ 1 → id ≡ 0 → me ≡ (first_view (opening_of d), [])
      → Allows (IsRuled row_of fits k) slots id me 0 (λ n. n) (λ _ n. FillsSlot me n)
  fills_at slots id me one first e =
      subst (λ x. Allows (IsRuled row_of fits k) x id me 0 (λ n. n) (λ _ n. FillsSlot me n)) (sym one)
      (subst (λ (y : Me (Option T) (View T)). Allows (IsRuled row_of fits k) 1 id y 0 (λ n. n) (λ _ n. FillsSlot y n)) (sym (e ∙ ap (λ (x : Opening T). (first_view x, [])) same_key))
      (fills row_of fits k id first))

  pub filled_in : (value : T) (m n o : Me (Option T) (View T)) → m ≡ (first_view (opening_of d), []) → FillsSlot m n → o ≡ (n.0, (0, Some value) ∷ rest n.1) → value ≡ d.opening
      → o ≡ (at_stage 1 (first_view k), (0, Some k.value) ∷ [])
  filled_in value m n o e f is opening =
      is ∙ ap (λ (x : Me (Option T) (View T)). (x.0, (0, Some value) ∷ rest x.1)) (f ∙ ap (λ (x : Me (Option T) (View T)). (at_stage 1 x.0, (0, None) ∷ x.1)) (e ∙ ap (λ (x : Opening T). (first_view x, [])) same_key))
      ∙ ap (λ (x : T). (at_stage 1 (first_view k), (0, Some x) ∷ [])) (opening ∙ ap (λ (x : DeskFacts T). x.opening) (sym desk))

  pub opens_at : (slots id : ℕ) (me : Me (Option T) (View T)) → slots ≡ 1 → id ≡ 0 → fits k k.value → me ≡ (at_stage 1 (first_view k), (0, Some k.value) ∷ [])
      → Allows (IsRuled row_of fits k) slots id me 0 (λ _. 0) (λ _ n. OpensDesk me n)
  opens_at slots id me one first fit e =
      subst (λ x. Allows (IsRuled row_of fits k) x id me 0 (λ _. 0) (λ _ n. OpensDesk me n)) (sym one)
      (subst (λ (y : Me (Option T) (View T)). Allows (IsRuled row_of fits k) 1 id y 0 (λ _. 0) (λ _ n. OpensDesk y n)) (sym e)
      (opens row_of fits k id first fit))

  pub opened_in : (m n : Me (Option T) (View T)) → m ≡ (at_stage 1 (first_view k), (0, Some k.value) ∷ []) → OpensDesk m n → IsDealer d 0 n
  opened_in m n e f =
      let whole : k.seats ≡ k.seats - 0 = omega arith in
      f ∙ ap (λ (x : Me (Option T) (View T)). (at_stage 2 x.0, rest x.1)) e ∙ ap (λ (n : ℕ). (sitting k (opening_rows k.value 0 n) no_tally 2, [])) whole
      ∙ ap (λ (x : DeskFacts T). (sitting (opening_of x) (opening_rows x.opening 0 (x.seats - 0)) no_tally 2, [])) desk

  pub deals_at : (id a : ℕ) (me : Me (Option T) (View T)) → a < d.seats → me ≡ (sitting (opening_of d) (opening_rows d.opening a (d.seats - a)) no_tally 2, [])
      → Splits (IsRuled row_of fits k) id me.0 (dealing me.0) (dealt me.0)
  deals_at id a me below e =
      let to_key : sitting (opening_of d) ((a, d.opening) ∷ opening_rows d.opening (a + 1) (d.seats - (a + 1))) no_tally 2 ≡ sitting k ((a, k.value) ∷ opening_rows k.value (a + 1) (d.seats - (a + 1))) no_tally 2 =
      ap (λ (x : Opening T). sitting x ((a, x.value) ∷ opening_rows x.value (a + 1) (d.seats - (a + 1))) no_tally 2) same_key in
      let v : me.0 ≡ sitting k ((a, k.value) ∷ opening_rows k.value (a + 1) (d.seats - (a + 1))) no_tally 2 =
      ap (λ (x : Me (Option T) (View T)). x.0) e ∙ ap (λ (l : List (ℕ × T)). sitting (opening_of d) l no_tally 2) (opening_next d.opening a d.seats below) ∙ to_key in
      subst (λ (y : View T). Splits (IsRuled row_of fits k) id y (dealing y) (dealt y)) (sym v) (deals row_of fits k id a (d.seats - (a + 1)))

  pub joins_at : (id other : ℕ) (m n : Me (Option T) (View T)) (rows more : List (ℕ × T)) → IsOutOfTurn d rows m → IsOutOfTurn d more n
      → Joins (IsRuled row_of fits k) id m.0 other n.0 (joined_seat m.0 n.0) ended
  joins_at id other m n rows more idle idle' =
      let v : m.0 ≡ sitting k rows idle.0 2 = ap (λ (x : Me (Option T) (View T)). x.0) idle.1 ∙ ap (λ (x : Opening T). sitting x rows idle.0 2) same_key in
      let w : n.0 ≡ sitting k more idle'.0 2 = ap (λ (x : Me (Option T) (View T)). x.0) idle'.1 ∙ ap (λ (x : Opening T). sitting x more idle'.0 2) same_key in
      subst (λ (y : View T). Joins (IsRuled row_of fits k) id y other n.0 (joined_seat y n.0) ended) (sym v)
      (subst (λ (y : View T). Joins (IsRuled row_of fits k) id (sitting k rows idle.0 2) other y (joined_seat (sitting k rows idle.0 2) y) ended) (sym w)
      (gathers row_of fits k id other rows more idle.0 idle'.0))

  pub closes_at : (id : ℕ) (me : Me (Option T) (View T)) (words : List ℕ) (slots : List (Option T)) → IsOutOfTurn d me.0.rows me
      → ((n : ℕ) → n < d.seats → (r : ℕ × T) × Contains me.0.rows r × (r.0 ≡ n)) → Final (Seen (IsRuled row_of fits k) id me.0) words slots → Closes row_of fits k me.0.rows slots
  closes_at id me words slots idle whole final =
      let v : me.0 ≡ sitting k me.0.rows idle.0 2 = ap (λ (x : Me (Option T) (View T)). x.0) idle.1 ∙ ap (λ (x : Opening T). sitting x me.0.rows idle.0 2) same_key in
      closes row_of fits k id me.0.rows idle.0 words slots (λ n below. whole n (subst (λ x. n < x) (ap (λ (x : DeskFacts T). x.seats) desk) below))
      (subst (λ (y : View T). Final (Seen (IsRuled row_of fits k) id y) words slots) v final)

module _ {T R : Type 0} (row_of : T → ℕ → R) (fits : Opening T → T → Type 0) (k : Opening T) where
  pub closed_value : (rows : List (ℕ × T)) (slots : List (Option T)) (x : Closes row_of fits k rows slots) (r : Option T) → get_elem? slots 0 ≡ some r → r ≡ Some x.value
  closed_value rows slots x r e = some-injective r (Some x.value) (sym e ∙ x.there)
