use Rattle.std.proofs.Common.{◌≡◌, ◌+◌, ℕ, Bool, List, Some, None, true, false, is_some, nat_eq, refl, sym, ap, ◌∙◌, arith}
use Rattle.std.specs.Map.{lookup}
use Rattle.std.specs.Option.{option_copied_mut, option_map_or}
use Rattle.lru.specs.LruCache.{lru_cache, promoted}
use Rattle.sj_node.specs.Entry.{has_entry, pins_of, repinned}
use Rattle.sj_node.specs.Entries.{Listed, listed}
use Rattle.sj_node.specs.declared.entries.Room.{Room}
use Rattle.sj_node.proofs.Kept.{IsListed-promoted, IsListed-set, lookup-promoted}
use Rattle.sj_node.proofs.Shown.{has_entry-shown, pins_of-shown, repinned-shown, to_front-shown}
use Rattle.sj_node.proofs.entries.Entries.touch_and_pin.Goals as goal
use Rattle.sj_node.proofs.entries.Entries.touch_and_pin.Goals.{in-Some, in_default}

pub overflow_add-first : goal.overflow_add-first
overflow_add-first c =
    let found : lookup (nat_eq c.args.cell.0) c.self.inside.cache.entries ≡ Some c.in-Some.first.now = sym c.get_mut.ensures.value ∙ ap option_copied_mut c.in-Some.is in
    let old : pins_of c.args.self.now.order c.args.cell ≡ c.in-Some.first.now.pins = ap (λ (v : Listed). pins_of v.order c.args.cell) (sym c.self.view_is) ∙ pins_of-shown c.args.cell c.self.inside.cache.entries ∙ ap (λ o. option_map_or (λ r. r.pins) o 0) found in
    omega (arith, c.requires.few)

pub invariant_of-self : goal.invariant_of-self
invariant_of-self c = elim c.match-get_mut.branch [
  | in-Some w ↦ rw w.self-inside-is (IsListed-set c.args.cell.0 (lru_cache (promoted (nat_eq c.args.cell.0) c.self.inside.cache.entries) c.self.inside.cache.cap) c.self.inside.limit _ (IsListed-promoted c.args.cell.0 c.self.inside.cache c.self.inside.limit c.self.invariant))
  | in_default w ↦ rw w.self-inside-is c.self.invariant
]

pub returns : goal.returns
returns c =
    let test : ℕ → Bool = nat_eq c.args.cell.0 in
    let entries : List (ℕ × Room) = c.self.inside.cache.entries in
    elim c.match-get_mut.branch [
      | in-Some w ↦
          let kept = IsListed-promoted c.args.cell.0 c.self.inside.cache c.self.inside.limit c.self.invariant in
          let found : lookup test (promoted test entries) ≡ Some w.in-Some.first.now = lookup-promoted c.args.cell.0 entries ∙ sym c.get_mut.ensures.value ∙ ap option_copied_mut w.in-Some.is in
          let first = to_front-shown c.args.cell entries c.self.invariant.distinct in
          rw (w.self-inside-is, ← c.self.view_is) (ap (λ es. listed es c.self.inside.limit) (sym (ap (repinned (λ n. n + 1) c.args.cell) first ∙ repinned-shown c.args.cell (λ n. n + 1) (promoted test entries) w.in-Some.first.now _ kept.distinct found refl refl)))
      | in_default w ↦
          let none : lookup test entries ≡ None = sym c.get_mut.ensures.value ∙ ap option_copied_mut w.in_default.is in
          let there : true ≡ false = sym c.requires.present ∙ ap (λ (v : Listed). has_entry v.order c.args.cell) (sym c.self.view_is) ∙ has_entry-shown c.args.cell entries ∙ ap is_some none in
          absurd (cc)
    ]
