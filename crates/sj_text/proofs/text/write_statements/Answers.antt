use Rattle.std.proofs.Common.{◌≡◌, ◌≤◌, ◌++◌, List, length, subst, sym}
use Rattle.sj_meaning.specs.View.{IsPlaced, act_seen, count_after}
use Rattle.sj_plan.specs.declared.parts.Parts.{Parts}
use Rattle.sj_text.specs.Forms.{Plans}
use Rattle.sj_text.specs.Text.{AreCurrent, act_line}
use Rattle.sj_text.proofs.Told.{GoesOn, begins, ends, goes-on, may-tell, next, whole_of}
use Rattle.sj_text.proofs.text.write_statements.Goals as goal

pub loop-statement-init : goal.loop-statement-init
loop-statement-init c =
    let whole = whole_of c.args.roots.now c.args.statements.now c.args.text.now.items in
    subst (λ (ps : List Parts). GoesOn c.args.roots.now ps c.args.statements.now c.args.text.now.items whole) (sym c.new-plans.ensures.items)
    (begins c.args.roots.now c.args.statements.now c.args.text.now.items c.requires)

pub write_act-requires-clause-placed : goal.write_act-requires-clause-placed
write_act-requires-clause-placed c =
    let s = c.statement-item.result in
    let g = next c.args.roots.now c.loop-statement.plans.items c.args.statements.now c.loop-statement.statement-index s s _ _ c.loop-statement-test.true (sym c.statement-item.is) c.loop-statement.invariant in
    subst (λ (ps : List Parts). IsPlaced (length ps) s.act) (sym c.deref.ensures.value) (may-tell _ _ s _ _ _ g).0

pub write_act-requires-clause-registered : goal.write_act-requires-clause-registered
write_act-requires-clause-registered c =
    let s = c.statement-item.result in
    let g = next c.args.roots.now c.loop-statement.plans.items c.args.statements.now c.loop-statement.statement-index s s _ _ c.loop-statement-test.true (sym c.statement-item.is) c.loop-statement.invariant in
    subst (λ (ps : List Parts). count_after (length ps) s.act ≤ length c.args.roots.now.names) (sym c.deref.ensures.value) (may-tell _ _ s _ _ _ g).1

pub activate-requires-clause-placed : goal.activate-requires-clause-placed
activate-requires-clause-placed c =
    let s = c.statement-item.result in
    let g = next c.args.roots.now c.loop-statement.plans.items c.args.statements.now c.loop-statement.statement-index s s _ _ c.loop-statement-test.true (sym c.statement-item.is) c.loop-statement.invariant in
    (may-tell _ _ s _ _ _ g).0

pub activate-requires-clause-registered : goal.activate-requires-clause-registered
activate-requires-clause-registered c =
    let s = c.statement-item.result in
    let g = next c.args.roots.now c.loop-statement.plans.items c.args.statements.now c.loop-statement.statement-index s s _ _ c.loop-statement-test.true (sym c.statement-item.is) c.loop-statement.invariant in
    (may-tell _ _ s _ _ _ g).1

pub loop-statement-preserved : goal.loop-statement-preserved
loop-statement-preserved c =
    let s = c.statement-item.result in
    let parts = c.loop-statement.plans.items in
    let g = next c.args.roots.now parts c.args.statements.now c.loop-statement.statement-index s s _ _ c.loop-statement-test.true (sym c.statement-item.is) c.loop-statement.invariant in
    let written = subst (λ (ps : List Parts). (active : Plans) → AreCurrent c.args.roots.now ps active → c.write_act.new.text.items ≡ c.loop-statement.text.items ++ act_line active (act_seen c.args.roots.now (length ps) s.act)) c.deref.ensures.value c.in_ok-write_act.ensures in
    goes-on c.args.roots.now parts c.activate.new.plans.items s _ c.loop-statement.text.items c.write_act.new.text.items _ g written c.in_ok-activate.ensures.counted c.in_ok-activate.ensures.active

pub returns : goal.returns
returns c = ends c.args.roots.now c.loop-statement.plans.items c.args.statements.now c.loop-statement.statement-index _ _ c.loop-statement-test.false c.loop-statement.invariant
