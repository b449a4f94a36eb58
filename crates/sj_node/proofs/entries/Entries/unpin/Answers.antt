use Rattle.std.proofs.Common.{◌≡◌, ◌-◌, Some, None, nat_eq, refl, sym, ap, ◌∙◌, arith}
use Rattle.std.specs.Map.{lookup}
use Rattle.std.specs.Option.{option_copied_mut, option_map_or}
use Rattle.sj_node.specs.Entry.{pins_of}
use Rattle.sj_node.specs.Entries.{Listed, listed}
use Rattle.sj_node.proofs.Kept.{IsListed-set}
use Rattle.sj_node.proofs.Shown.{pins_of-shown, repinned-shown}
use Rattle.sj_node.proofs.entries.Entries.unpin.Goals as goal
use Rattle.sj_node.proofs.entries.Entries.unpin.Goals.{in-Some, in_default}

pub overflow_sub-room : goal.overflow_sub-room
overflow_sub-room c =
    let found : lookup (nat_eq c.args.cell.0) c.self.inside.cache.entries ≡ Some c.in-Some.room.now = sym c.peek_mut.ensures.value ∙ ap option_copied_mut c.in-Some.is in
    let old : pins_of c.args.self.now.order c.args.cell ≡ c.in-Some.room.now.pins = ap (λ (v : Listed). pins_of v.order c.args.cell) (sym c.self.view_is) ∙ pins_of-shown c.args.cell c.self.inside.cache.entries ∙ ap (λ o. option_map_or (λ r. r.pins) o 0) found in
    omega (arith, c.requires)

pub invariant_of-self : goal.invariant_of-self
invariant_of-self c = elim c.match-peek_mut.branch [
  | in-Some w ↦ rw w.self-inside-is (IsListed-set c.args.cell.0 c.self.inside.cache c.self.inside.limit _ c.self.invariant)
  | in_default w ↦ rw w.self-inside-is c.self.invariant
]

pub returns : goal.returns
returns c = elim c.match-peek_mut.branch [
  | in-Some w ↦
      let found : lookup (nat_eq c.args.cell.0) c.self.inside.cache.entries ≡ Some w.in-Some.room.now = sym c.peek_mut.ensures.value ∙ ap option_copied_mut w.in-Some.is in
      rw (w.self-inside-is, ← c.self.view_is) (ap (λ es. listed es c.self.inside.limit) (sym (repinned-shown c.args.cell (λ n. n - 1) c.self.inside.cache.entries w.in-Some.room.now _ c.self.invariant.distinct found refl refl)))
  | in_default w ↦
      let none : lookup (nat_eq c.args.cell.0) c.self.inside.cache.entries ≡ None = sym c.peek_mut.ensures.value ∙ ap option_copied_mut w.in_default.is in
      let there : pins_of c.args.self.now.order c.args.cell ≡ 0 = ap (λ (v : Listed). pins_of v.order c.args.cell) (sym c.self.view_is) ∙ pins_of-shown c.args.cell c.self.inside.cache.entries ∙ ap (λ o. option_map_or (λ r. r.pins) o 0) none in
      absurd (omega arith)
]
