use Rattle.sj_lower.proofs.Words.{Active, Bool, Cell, Cells, cells_from, get_or, IfNone, IfSome, is_set, IsActiveOperand, Lays, length, LoweringProgress, most, None, Option, Placed, Reduction, refl, Some, subst, Table, with_copies, ◌<◌, ◌≡◌}
use Rattle.sj_meaning.specs.declared.job.Operand.{Operand}
use Rattle.sj_lower.proofs.{Preparations.copied_by, Preparations.copies-prepare, Preparations.copies-there, Preparations.IsCopying, Preparing.has-at, Steps.found-there, Steps.opens-crowded, Steps.opens-operand, Steps.Reads}
use Rattle.sj_lower.proofs.lower.LoweringProgress.open_for.Goals as goal

none_at : {X : Type 0} (o : Option X) (P : Type 0) → o ≡ None → IfNone o P → P
none_at o P e h = subst (λ o. IfNone o P) e h

some_at : {X : Type 0} (o : Option X) (x : X) (P : X → Type 0) → o ≡ Some x → IfSome o P → P x
some_at o x P e h = subst (λ o. IfSome o P) e h

reads : (g : LoweringProgress) (o : Operand) (a : Active) (placed : Placed) (c : Cell) (by : Reduction) (v : Bool) → IsActiveOperand g o → a ≡ get_or g.lowerer.actives.items o.root.0 a → (placed.parts ≡ a.tracked.parts) × (placed.first ≡ a.first) → c ≡ cells_from placed.first placed.parts o.place → a.reduction ≡ Some by → v ≡ is_set a.tracked o.place → Reads g o c by v
reads g o a placed c by v active read its cell reduction valued = record { active = active; plan = a; first = placed.first; parts = placed.parts; read = read; its_parts = its.0; its_first = its.1; cell = cell; reduction = reduction; valued = valued }

pub returns-in_default-2-clause-full : goal.returns-in_default-2-clause-full
returns-in_default-2-clause-full c =
    let g = c.args.self.now in
    let r = reads g c.args.operand.now c.index-active.result.now c.placed.result c.cell-cell.result c.in-Some.by c.is_valued-valued.result c.requires.operand c.index-active.ensures (c.placed.ensures.parts, c.placed.ensures.first) c.cell-cell.ensures c.in-Some.is c.is_valued-valued.ensures in
    let full = none_at c.in_ok-copies.field-0 ((T : Table) (C : Cells) → Lays T g.layout C → most < length (with_copies g.workers c.cell-cell.result C).rows) c.in_default-2.is c.in_ok-copies.ensures.full in
    (refl, opens-crowded g c.args.line c.args.operand.now c.cell-cell.result c.in-Some.by c.is_valued-valued.result r full)

pub open-requires-clause-at : goal.open-requires-clause-at
open-requires-clause-at c =
    let g = c.args.self.now in
    let r = reads g c.args.operand.now c.index-active.result.now c.placed.result c.cell-cell.result c.in-Some.by c.is_valued-valued.result c.requires.operand c.index-active.ensures (c.placed.ensures.parts, c.placed.ensures.first) c.cell-cell.ensures c.in-Some.is c.is_valued-valued.ensures in
    let mid : LoweringProgress = record { workers = g.workers; layout = c.copies.new.self; lowerer = g.lowerer; over = g.over; last = g.last } in
    let there = found-there g c.args.line c.args.operand.now c.cell-cell.result c.in-Some.by c.is_valued-valued.result r in
    let copies = some_at c.in_ok-copies.field-0 c.in-Some-2.copies (IsCopying g.layout c.copies.new.self g.workers c.cell-cell.result) c.in-Some-2.is c.in_ok-copies.ensures.copied in
    has-at g mid c.args.line (copied_by g.workers c.cell-cell.result) (copies-prepare g mid c.args.line c.cell-cell.result c.in-Some-2.copies there copies c.in_ok-copies.ensures.few refl c.requires.at refl refl refl) c.requires.at

pub open-requires-clause-copies : goal.open-requires-clause-copies
open-requires-clause-copies c =
    let g = c.args.self.now in
    let r = reads g c.args.operand.now c.index-active.result.now c.placed.result c.cell-cell.result c.in-Some.by c.is_valued-valued.result c.requires.operand c.index-active.ensures (c.placed.ensures.parts, c.placed.ensures.first) c.cell-cell.ensures c.in-Some.is c.is_valued-valued.ensures in
    let mid : LoweringProgress = record { workers = g.workers; layout = c.copies.new.self; lowerer = g.lowerer; over = g.over; last = g.last } in
    let there = found-there g c.args.line c.args.operand.now c.cell-cell.result c.in-Some.by c.is_valued-valued.result r in
    let copies = some_at c.in_ok-copies.field-0 c.in-Some-2.copies (IsCopying g.layout c.copies.new.self g.workers c.cell-cell.result) c.in-Some-2.is c.in_ok-copies.ensures.copied in
    copies-there g mid c.args.line c.cell-cell.result c.in-Some-2.copies there copies c.in_ok-copies.ensures.few refl c.requires.at

pub returns-clause-opens : goal.returns-clause-opens
returns-clause-opens c =
    let g = c.args.self.now in
    let r = reads g c.args.operand.now c.index-active.result.now c.placed.result c.cell-cell.result c.in-Some.by c.is_valued-valued.result c.requires.operand c.index-active.ensures (c.placed.ensures.parts, c.placed.ensures.first) c.cell-cell.ensures c.in-Some.is c.is_valued-valued.ensures in
    let mid : LoweringProgress = record { workers = g.workers; layout = c.copies.new.self; lowerer = g.lowerer; over = g.over; last = g.last } in
    let copies = some_at c.in_ok-copies.field-0 c.in-Some-2.copies (IsCopying g.layout c.copies.new.self g.workers c.cell-cell.result) c.in-Some-2.is c.in_ok-copies.ensures.copied in
    opens-operand g c.args.line c.args.operand.now c.cell-cell.result c.in-Some.by c.is_valued-valued.result r mid c.open.new.self c.in-Some-2.copies copies c.in_ok-copies.ensures.few refl c.requires.at refl refl refl c.in_ok-open.ensures
