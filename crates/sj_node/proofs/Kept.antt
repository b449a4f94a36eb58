-- The cache's own changes keep its keys apart and few.
use Rattle.std.proofs.Common.{◌≡◌, ℕ, ◌+◌, suc, ◌-◌, ◌<◌, ◌≤◌, Bool, true, false, cond, nat_eq, List, [], ◌∷◌, take_all, length, Option, Some, None, is_some, option_map, option_to_list, refl, sym, ap, ◌∙◌, subst, arith}
use Rattle.std.specs.List.{IsDistinct}
use Rattle.std.specs.Option.{option_map_or}
use Rattle.std.specs.Map.{keys_of, lookup, lookup_entry, remove_entry, set_value}
use Rattle.std.proofs.lemmas.Bool.{eqb-true}
use Rattle.std.proofs.lemmas.Map.{keys-set_value, length-set_value}
use Rattle.std.proofs.lemmas.Map.Keys.{IsDistinct-head, IsDistinct-tail, IsDistinct-cons}
use Rattle.lru.specs.LruCache.{LruCache, lru_cache, promoted, put_entries}
use Rattle.lru.proofs.CallerLemmas.{Contains-lookup_entry}
use Rattle.sj_node.specs.Entries.{IsListed}
use Rattle.sj_node.specs.declared.entries.Room.{Room}
use Rattle.sj_node.proofs.Shown.{Lacks, lacks_after}

module _ (k : ℕ) where
  abbrev test : ℕ → Bool
  test = nat_eq k

  lacks_none : (es : List (ℕ × Room)) → is_some (lookup test es) ≡ false → Lacks k es
  lacks_none [] h = tt
  lacks_none (e ∷ es) h = (elim (nat_eq k e.0) as (λ b. nat_eq k e.0 ≡ b → is_some (cond b (Some e.1) (lookup test es)) ≡ false → Lacks k (e ∷ es)) [
    | true ↦ λ t n. absurd (cc)
    | false ↦ λ t n. (t, lacks_none es n)
  ]) refl h

  lacks-removed : (n : ℕ) (es : List (ℕ × Room)) → Lacks n es → Lacks n (remove_entry test es)
  lacks-removed n [] h = tt
  lacks-removed n (e ∷ es) h = elim (nat_eq k e.0) as (λ b. Lacks n (cond b es (e ∷ remove_entry test es))) [
    | true ↦ h.1
    | false ↦ (h.0, lacks-removed n es h.1)
  ]

  removed_lacks : (es : List (ℕ × Room)) → IsDistinct nat_eq (keys_of es) → Lacks k (remove_entry test es)
  removed_lacks [] d = tt
  removed_lacks (e ∷ es) d = (elim (nat_eq k e.0) as (λ b. nat_eq k e.0 ≡ b → Lacks k (cond b es (e ∷ remove_entry test es))) [
    | true ↦ λ t. lacks_after k e es t d
    | false ↦ λ t. (t, removed_lacks es (IsDistinct-tail nat_eq e.0 (keys_of es) d))
  ]) refl

  removed_distinct : (es : List (ℕ × Room)) → IsDistinct nat_eq (keys_of es) → IsDistinct nat_eq (keys_of (remove_entry test es))
  removed_distinct [] d = d
  removed_distinct (e ∷ es) d = elim (nat_eq k e.0) as (λ b. IsDistinct nat_eq (keys_of (cond b es (e ∷ remove_entry test es)))) [
    | true ↦ IsDistinct-tail nat_eq e.0 (keys_of es) d
    | false ↦ IsDistinct-cons nat_eq e.0 (keys_of (remove_entry test es)) (lacks-removed e.0 es (IsDistinct-head nat_eq e.0 (keys_of es) d)) (removed_distinct es (IsDistinct-tail nat_eq e.0 (keys_of es) d))
  ]

  length-removed : (es : List (ℕ × Room)) → length (remove_entry test es) + length (option_to_list (lookup_entry test es)) ≡ length es
  length-removed [] = refl
  length-removed (e ∷ es) = elim (nat_eq k e.0) as (λ b. length (cond b es (e ∷ remove_entry test es)) + length (option_to_list (cond b (Some e) (lookup_entry test es))) ≡ length (e ∷ es)) [
    | true ↦ omega arith
    | false ↦ let rest = length-removed es in omega arith
  ]

  -- ---- what holds of the cache

  pub IsListed-removed : (c : LruCache ℕ Room) (limit : ℕ) → IsListed c limit → IsListed (lru_cache (remove_entry test c.entries) c.cap) limit
  IsListed-removed c limit h = record {
    distinct = removed_distinct c.entries h.distinct;
    few = omega (arith, h.few, length-removed c.entries);
    room = h.room;
  }

  pub IsListed-set : (c : LruCache ℕ Room) (limit : ℕ) (w : Room) → IsListed c limit → IsListed (lru_cache (set_value test c.entries w) c.cap) limit
  IsListed-set c limit w h = record {
    distinct = rw (keys-set_value test c.entries w) h.distinct;
    few = rw (length-set_value test c.entries w) h.few;
    room = h.room;
  }

  first_distinct : (es : List (ℕ × Room)) → IsDistinct nat_eq (keys_of es) → (o : Option (ℕ × Room)) → lookup_entry test es ≡ o → IsDistinct nat_eq (keys_of (option_map_or (λ e. e ∷ remove_entry test es) o es))
  first_distinct es d None h = d
  first_distinct es d (Some e) h =
      let same : k ≡ e.0 = eqb-true k e.0 (Contains-lookup_entry test es e h).1 in
      IsDistinct-cons nat_eq e.0 (keys_of (remove_entry test es)) (subst (λ n. Lacks n (remove_entry test es)) same (removed_lacks es d)) (removed_distinct es d)

  first_few : (es : List (ℕ × Room)) (o : Option (ℕ × Room)) → lookup_entry test es ≡ o → length (option_map_or (λ e. e ∷ remove_entry test es) o es) ≤ length es
  first_few es None h = omega arith
  first_few es (Some e) h = let rest = length-removed es in let one : length (option_to_list (lookup_entry test es)) ≡ 1 = ap (λ o. length (option_to_list o)) h in omega arith

  pub IsListed-promoted : (c : LruCache ℕ Room) (limit : ℕ) → IsListed c limit → IsListed (lru_cache (promoted test c.entries) c.cap) limit
  IsListed-promoted c limit h = record {
    distinct = first_distinct c.entries h.distinct (lookup_entry test c.entries) refl;
    few = let now : length (promoted test c.entries) ≤ length c.entries = first_few c.entries (lookup_entry test c.entries) refl in omega (arith, now, h.few);
    room = h.room;
  }

  lookup-entry : (es : List (ℕ × Room)) → lookup test es ≡ option_map (λ (e : ℕ × Room). e.1) (lookup_entry test es)
  lookup-entry [] = refl
  lookup-entry (e ∷ es) = elim (nat_eq k e.0) as (λ b. cond b (Some e.1) (lookup test es) ≡ option_map (λ (x : ℕ × Room). x.1) (cond b (Some e) (lookup_entry test es))) [
    | true ↦ refl
    | false ↦ lookup-entry es
  ]

  first_lookup : (es : List (ℕ × Room)) (o : Option (ℕ × Room)) → lookup_entry test es ≡ o → lookup test (option_map_or (λ e. e ∷ remove_entry test es) o es) ≡ option_map (λ (e : ℕ × Room). e.1) o
  first_lookup es None h = lookup-entry es ∙ ap (option_map (λ (e : ℕ × Room). e.1)) h
  first_lookup es (Some e) h = ap (λ b. cond b (Some e.1) (lookup test (remove_entry test es))) (Contains-lookup_entry test es e h).1

  -- what is found doesn't depend on the order
  pub lookup-promoted : (es : List (ℕ × Room)) → lookup test (promoted test es) ≡ lookup test es
  lookup-promoted es = first_lookup es (lookup_entry test es) refl ∙ sym (lookup-entry es)

  absent_entry : (es : List (ℕ × Room)) → is_some (lookup test es) ≡ false → lookup_entry test es ≡ None
  absent_entry [] h = refl
  absent_entry (e ∷ es) h = (elim (nat_eq k e.0) as (λ b. is_some (cond b (Some e.1) (lookup test es)) ≡ false → cond b (Some e) (lookup_entry test es) ≡ None) [
    | true ↦ λ n. absurd (cc)
    | false ↦ λ n. absent_entry es n
  ]) h

  -- a key that isn't there, in a cache with room, goes before the others
  pub put_entries-absent : (c : LruCache ℕ Room) (r : Room) → is_some (lookup test c.entries) ≡ false → length c.entries < c.cap → put_entries nat_eq c k r ≡ (k, r) ∷ c.entries
  put_entries-absent c r absent few = rw (absent_entry c.entries absent) (ap (λ es. (k, r) ∷ es) (take_all (c.cap - 1) c.entries (omega arith)))

  pub IsListed-put : (c : LruCache ℕ Room) (limit : ℕ) (r : Room) → is_some (lookup test c.entries) ≡ false → length c.entries < limit → IsListed c limit → IsListed (lru_cache ((k, r) ∷ c.entries) c.cap) limit
  IsListed-put c limit r absent few h = record {
    distinct = IsDistinct-cons nat_eq k (keys_of c.entries) (lacks_none c.entries absent) h.distinct;
    few = let s : suc (length c.entries) ≤ limit = omega arith in s;
    room = h.room;
  }
