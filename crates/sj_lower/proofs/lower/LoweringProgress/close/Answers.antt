use Rattle.sj_lower.proofs.Words.{refl, sym, ◌∙◌}
use Rattle.std.proofs.lemmas.{Bool.leb-false, Bool.leb-true, Result.on_ok_weaker}
use Rattle.sj_lower.proofs.Preparing.{is-over, none-over, copies-at, closes-over, closes-late, closes-on}
use Rattle.sj_lower.proofs.lower.LoweringProgress.close.Goals as goal

pub returns-then-is_some : goal.returns-then-is_some
returns-then-is_some c = closes-over c.args.self.now c.args.line c.args.cell (is-over c.args.self.now.over c.is_some.result c.is_some.ensures c.if-is_some.true)

pub returns-then-not-has_room : goal.returns-then-not-has_room
returns-then-not-has_room c =
    let g = c.args.self.now in
    let none = none-over g.over c.is_some.result c.is_some.ensures c.if-is_some.false in
    let many = leb-false _ _ (sym c.has_room.ensures ∙ c.if-not-has_room.true) in
    closes-late g _ c.args.line c.args.cell c.in-Some.phase none refl (record { layout = refl; workers = refl; last = refl; actives = refl; deliveries = refl; prints = refl }) refl
    (sym c.swap_remove.ensures.value ∙ c.in-Some.is) many

pub push_close-requires : goal.push_close-requires
push_close-requires c =
    let g = c.args.self.now in
    let none = none-over g.over c.is_some.result c.is_some.ensures c.if-is_some.false in
    record { cells = copies-at g c.args.cell c.in-Some.phase c.requires.at none (sym c.swap_remove.ensures.value ∙ c.in-Some.is) }

pub returns : goal.returns
returns c =
    let g = c.args.self.now in
    let none = none-over g.over c.is_some.result c.is_some.ensures c.if-is_some.false in
    let few = leb-true _ _ (sym c.has_room.ensures ∙ c.if-not-has_room.false) in
    on_ok_weaker c.push_close.result (λ pushed. closes-on g _ c.args.line c.args.cell c.in-Some.phase none none (record { layout = refl; workers = refl; last = refl; actives = refl; deliveries = refl; prints = refl }) pushed
    c.swap_remove.ensures.updates.0 (sym c.swap_remove.ensures.value ∙ c.in-Some.is) few) c.push_close.ensures
