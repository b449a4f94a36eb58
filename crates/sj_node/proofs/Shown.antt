-- What the cache's words say of its pairs, in the words of what it shows of them.
use Rattle.std.proofs.Common.{◌≡◌, ℕ, ◌+◌, Bool, true, false, not, ◌||◌, cond, nat_eq, List, [], ◌∷◌, ◌++◌, map, filter, Option, Some, None, is_some, option_map, option_to_list, unwrap_or, sum_by, refl, sym, ap, ◌∙◌, subst, arith}
use Rattle.std.specs.List.{AllByRecursion, IsDistinct, find}
use Rattle.std.specs.Option.{option_map_or}
use Rattle.std.specs.Map.{keys_of, values_of, lookup, lookup_entry, remove_entry, set_value}
use Rattle.std.proofs.lemmas.Bool.{eqb-true}
use Rattle.std.proofs.lemmas.List.Folds.{fold-map}
use Rattle.std.proofs.lemmas.Map.Entries.{sum_by-remove_entry}
use Rattle.std.proofs.lemmas.Map.Keys.{IsDistinct-head, IsDistinct-tail}
use Rattle.lru.specs.LruCache.{promoted}
use Rattle.sj_base.specs.declared.ids.Cell.{Cell}
use Rattle.sj_node.specs.Entry.{NodeEntry, is_of_cell, has_entry, pins_of, total, without_entry, entry_to_front, repinned}
use Rattle.sj_node.specs.Entries.{as_entry}
use Rattle.sj_node.specs.declared.entries.Room.{Room}

-- no key is k
abbrev pub Lacks : ℕ → List (ℕ × Room) → Type 0
Lacks k es = AllByRecursion (λ y. nat_eq k y ≡ false) (keys_of es)

-- a key equal to the first one stands nowhere after it
pub lacks_after : (k : ℕ) (e : ℕ × Room) (es : List (ℕ × Room)) → nat_eq k e.0 ≡ true → IsDistinct nat_eq (keys_of (e ∷ es)) → Lacks k es
lacks_after k e es t d = subst (λ n. AllByRecursion (λ y. nat_eq n y ≡ false) (keys_of es)) (sym (eqb-true k e.0 t)) (IsDistinct-head nat_eq e.0 (keys_of es) d)

module _ (c : Cell) where
  abbrev test : ℕ → Bool
  test = nat_eq c.0

  -- ---- reading

  pub has_entry-shown : (es : List (ℕ × Room)) → has_entry (map as_entry es) c ≡ is_some (lookup test es)
  has_entry-shown [] = refl
  has_entry-shown (e ∷ es) = elim (nat_eq c.0 e.0) as (λ b. (b || has_entry (map as_entry es) c) ≡ is_some (cond b (Some e.1) (lookup test es))) [
    | true ↦ refl
    | false ↦ has_entry-shown es
  ]

  pub pins_of-shown : (es : List (ℕ × Room)) → pins_of (map as_entry es) c ≡ option_map_or (λ r. r.pins) (lookup test es) 0
  pins_of-shown [] = refl
  pins_of-shown (e ∷ es) = elim (nat_eq c.0 e.0) as (λ b. option_map_or (λ (x : NodeEntry). x.pins) (cond b (Some (as_entry e)) (find (is_of_cell c) (map as_entry es))) 0 ≡ option_map_or (λ r. r.pins) (cond b (Some e.1) (lookup test es)) 0) [
    | true ↦ refl
    | false ↦ pins_of-shown es
  ]

  -- ---- where the cell has no entry

  without-lacks : (es : List (ℕ × Room)) → Lacks c.0 es → without_entry c (map as_entry es) ≡ map as_entry es
  without-lacks [] h = refl
  without-lacks (e ∷ es) h = let here : nat_eq c.0 e.0 ≡ false = h.0 in rw here (ap (λ xs. as_entry e ∷ xs) (without-lacks es h.1))

  filter-lacks : (es : List (ℕ × Room)) → Lacks c.0 es → filter (is_of_cell c) (map as_entry es) ≡ []
  filter-lacks [] h = refl
  filter-lacks (e ∷ es) h = let here : nat_eq c.0 e.0 ≡ false = h.0 in rw here (filter-lacks es h.1)

  repinned-lacks : (f : ℕ → ℕ) (es : List (ℕ × Room)) → Lacks c.0 es → repinned f c (map as_entry es) ≡ map as_entry es
  repinned-lacks f [] h = refl
  repinned-lacks f (e ∷ es) h = let here : nat_eq c.0 e.0 ≡ false = h.0 in rw here (ap (λ xs. as_entry e ∷ xs) (repinned-lacks f es h.1))

  remove_entry-absent : (es : List (ℕ × Room)) → lookup_entry test es ≡ None → remove_entry test es ≡ es
  remove_entry-absent [] h = refl
  remove_entry-absent (e ∷ es) h = (elim (nat_eq c.0 e.0) as (λ b. cond b (Some e) (lookup_entry test es) ≡ None → cond b es (e ∷ remove_entry test es) ≡ e ∷ es) [
    | true ↦ λ n. absurd (cc)
    | false ↦ λ n. ap (λ xs. e ∷ xs) (remove_entry-absent es n)
  ]) h

  -- ---- changing

  pub without-shown : (es : List (ℕ × Room)) → IsDistinct nat_eq (keys_of es) → without_entry c (map as_entry es) ≡ map as_entry (remove_entry test es)
  without-shown [] d = refl
  without-shown (e ∷ es) d = (elim (nat_eq c.0 e.0) as (λ b. nat_eq c.0 e.0 ≡ b → cond (not b) (as_entry e ∷ without_entry c (map as_entry es)) (without_entry c (map as_entry es)) ≡ map as_entry (cond b es (e ∷ remove_entry test es))) [
    | true ↦ λ t. without-lacks es (lacks_after c.0 e es t d)
    | false ↦ λ t. ap (λ xs. as_entry e ∷ xs) (without-shown es (IsDistinct-tail nat_eq e.0 (keys_of es) d))
  ]) refl

  filter-shown : (es : List (ℕ × Room)) → IsDistinct nat_eq (keys_of es) → filter (is_of_cell c) (map as_entry es) ≡ option_to_list (option_map as_entry (lookup_entry test es))
  filter-shown [] d = refl
  filter-shown (e ∷ es) d = (elim (nat_eq c.0 e.0) as (λ b. nat_eq c.0 e.0 ≡ b → cond b (as_entry e ∷ filter (is_of_cell c) (map as_entry es)) (filter (is_of_cell c) (map as_entry es)) ≡ option_to_list (option_map as_entry (cond b (Some e) (lookup_entry test es)))) [
    | true ↦ λ t. ap (λ xs. as_entry e ∷ xs) (filter-lacks es (lacks_after c.0 e es t d))
    | false ↦ λ t. filter-shown es (IsDistinct-tail nat_eq e.0 (keys_of es) d)
  ]) refl

  joined : (es : List (ℕ × Room)) (o : Option (ℕ × Room)) → lookup_entry test es ≡ o → option_to_list (option_map as_entry o) ++ map as_entry (remove_entry test es) ≡ map as_entry (option_map_or (λ e. e ∷ remove_entry test es) o es)
  joined es None h = ap (map as_entry) (remove_entry-absent es h)
  joined es (Some e) h = refl

  pub to_front-shown : (es : List (ℕ × Room)) → IsDistinct nat_eq (keys_of es) → entry_to_front c (map as_entry es) ≡ map as_entry (promoted test es)
  to_front-shown es d = rw (filter-shown es d, without-shown es d) (joined es (lookup_entry test es) refl)

  pub repinned-shown : (f : ℕ → ℕ) (es : List (ℕ × Room)) (v w : Room) → IsDistinct nat_eq (keys_of es) → lookup test es ≡ Some v → w.bytes ≡ v.bytes → w.pins ≡ f v.pins → repinned f c (map as_entry es) ≡ map as_entry (set_value test es w)
  repinned-shown f [] v w d h bytes pins = refl
  repinned-shown f (e ∷ es) v w d h bytes pins = (elim (nat_eq c.0 e.0) as (λ b. nat_eq c.0 e.0 ≡ b → cond b (Some e.1) (lookup test es) ≡ Some v → cond b (record (as_entry e) { pins = f e.1.pins }) (as_entry e) ∷ repinned f c (map as_entry es) ≡ map as_entry (cond b ((e.0, w) ∷ es) (e ∷ set_value test es w))) [
    | true ↦ λ t is. let old : e.1 ≡ v = cc in rw (repinned-lacks f es (lacks_after c.0 e es t d), bytes, pins, ← old) refl
    | false ↦ λ t is. ap (λ xs. as_entry e ∷ xs) (repinned-shown f es v w (IsDistinct-tail nat_eq e.0 (keys_of es) d) is bytes pins)
  ]) refl h

-- the bytes that go with the cell's entry
pub total-as_entry : (es : List (ℕ × Room)) → total (map as_entry es) ≡ sum_by (λ r. r.bytes) (values_of es)
total-as_entry es = fold-map (λ a (e : NodeEntry). a + e.bytes) as_entry 0 es ∙ sym (fold-map (λ a (r : Room). a + r.bytes) (λ (e : ℕ × Room). e.1) 0 es)

pub total-removed : (k : ℕ) (es : List (ℕ × Room)) (o : Option Room) → lookup (nat_eq k) es ≡ o → unwrap_or (option_map (λ r. r.bytes) o) 0 + total (map as_entry (remove_entry (nat_eq k) es)) ≡ total (map as_entry es)
total-removed k es o found =
    let all = sum_by-remove_entry (λ (r : Room). r.bytes) (nat_eq k) es in
    let gone : unwrap_or (option_map (λ r. r.bytes) (lookup (nat_eq k) es)) 0 ≡ unwrap_or (option_map (λ r. r.bytes) o) 0 = ap (λ p. unwrap_or (option_map (λ (r : Room). r.bytes) p) 0) found in
    omega (arith, all, gone, total-as_entry es, total-as_entry (remove_entry (nat_eq k) es))
