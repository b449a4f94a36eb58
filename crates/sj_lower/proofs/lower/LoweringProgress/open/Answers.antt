use Rattle.sj_lower.proofs.Words.{ap, option_copied, refl, sym, ◌∙◌}
use Rattle.std.proofs.lemmas.{Bool.leb-false, Bool.leb-true, Result.on_ok_weaker}
use Rattle.sj_lower.proofs.{Preparations.opens-late, Preparations.opens-more, Preparations.opens-on, Preparations.opens-over, Preparing.is-over, Preparing.none-over}
use Rattle.sj_lower.proofs.lower.LoweringProgress.open.Goals as goal

pub returns-then-is_some : goal.returns-then-is_some
returns-then-is_some c = opens-over c.args.self.now c.args.phase.by c.args.valued c.args.phase.line c.args.cell c.args.phase.copies (is-over c.args.self.now.over c.is_some.result c.is_some.ensures c.if-is_some.true) c.requires.copies

pub returns-in-Some : goal.returns-in-Some
returns-in-Some c =
    let g = c.args.self.now in
    let none = none-over g.over c.is_some.result c.is_some.ensures c.if-is_some.false in
    opens-more g _ c.args.phase.by c.args.valued c.args.phase.line c.args.cell c.in-Some.open.now c.requires.at none none (record { layout = refl; workers = refl; last = refl; actives = refl; deliveries = refl; prints = refl }) refl
    c.in_ok-insert.ensures.updates.0 (sym c.get.ensures.value ∙ ap option_copied c.in-Some.is)

pub returns-then-not-has_room : goal.returns-then-not-has_room
returns-then-not-has_room c =
    let g = c.args.self.now in
    let none = none-over g.over c.is_some.result c.is_some.ensures c.if-is_some.false in
    let many = leb-false _ _ (sym c.has_room.ensures ∙ c.if-not-has_room.true) in
    opens-late g _ c.args.phase.by c.args.valued c.args.phase.line c.args.cell c.args.phase.copies c.begin_count.result (c.begin_count.ensures c.args.phase.by c.args.phase.copies c.args.cell c.args.phase.line) c.requires.copies none refl (record { layout = refl; workers = refl; last = refl; actives = refl; deliveries = refl; prints = refl }) refl
    (sym c.get.ensures.value ∙ ap option_copied c.in_default.is) many

pub returns : goal.returns
returns c =
    let g = c.args.self.now in
    let none = none-over g.over c.is_some.result c.is_some.ensures c.if-is_some.false in
    let few = leb-true _ _ (sym c.has_room.ensures ∙ c.if-not-has_room.false) in
    on_ok_weaker c.push_begin.result (λ pushed. opens-on g _ c.args.phase.by c.args.valued c.args.phase.line c.args.cell c.args.phase.copies c.begin_count.result (c.begin_count.ensures c.args.phase.by c.args.phase.copies c.args.cell c.args.phase.line) c.requires.copies none none (record { layout = refl; workers = refl; last = refl; actives = refl; deliveries = refl; prints = refl }) pushed
    c.in_ok-insert-2.ensures.updates.0 (sym c.get.ensures.value ∙ ap option_copied c.in_default.is) few) c.push_begin.ensures
