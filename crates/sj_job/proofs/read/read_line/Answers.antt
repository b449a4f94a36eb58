use Rattle.std.proofs.Common.{◌+◌, ◌∷◌, ◌∙◌, ap, sym, subst, List}
use Rattle.sj_meaning.specs.declared.job.Statement.{Statement as Kept}
use Rattle.sj_job.specs.declared.names.Names.{Names}
use Rattle.sj_job.specs.declared.reason.ReadRefusal.{ReadRefusal}
use Rattle.sj_job.specs.Reading.{IsReadRefusal}
use Rattle.sj_job.specs.Progress.{text_with}
use Rattle.sj_job.specs.Submits.{AreRead}
use Rattle.sj_meaning.specs.View.{seen_from}
use Rattle.sj_job.proofs.Reading.{read-skipped, read-refused, read-more, read-does}
use Rattle.sj_job.proofs.read.read_line.Goals as goal

pub returns-in-Ok-None-clause-ok : goal.returns-in-Ok-None-clause-ok
returns-in-Ok-None-clause-ok g c = λ rest.
    let ss = c.args.statements.now.items in
    let skips = rw c.in-Ok-None.field-0-is at c.in-Ok-None.ensures.skips in
    read-skipped g.C.Codelets.has c.args.names.now ss c.args.number c.args.line.now rest c.requires skips.1
    ∙ ap (λ (names : Names). text_with g.C.Codelets.has (seen_from names.roots 0 ss) (c.args.number + 1) rest) (sym skips.0)

pub returns-in_ok-push-in-Ok-Some-clause-names : goal.returns-in_ok-push-in-Ok-Some-clause-names
returns-in_ok-push-in-Ok-Some-clause-names g c =
    subst (λ (ss : List Kept). AreRead c.act_of_line.new.names ss) (sym c.in_ok-push-in-Ok-Some.ensures.items)
    (read-more g.C.Codelets.has c.args.names.now c.act_of_line.new.names c.args.statements.now.items c.args.number c.args.line.now c.in-Ok-Some.act c.requires (rw c.in-Ok-Some.field-0-is at c.in-Ok-Some.ensures.does))

pub returns-in_ok-push-in-Ok-Some-clause-ok : goal.returns-in_ok-push-in-Ok-Some-clause-ok
returns-in_ok-push-in-Ok-Some-clause-ok g c = λ rest.
    read-does g.C.Codelets.has c.args.names.now c.act_of_line.new.names c.args.statements.now.items c.args.number c.args.line.now rest c.in-Ok-Some.act c.requires (rw c.in-Ok-Some.field-0-is at c.in-Ok-Some.ensures.does)
    ∙ ap (λ (ss : List Kept). text_with g.C.Codelets.has (seen_from c.act_of_line.new.names.roots 0 ss) (c.args.number + 1) rest) (sym c.in_ok-push-in-Ok-Some.ensures.items)

pub returns-in-Err-clause-err : goal.returns-in-Err-clause-err
returns-in-Err-clause-err g c = λ rest.
    subst (λ (r : ReadRefusal). IsReadRefusal r (text_with g.C.Codelets.has (seen_from c.args.names.now.roots 0 c.args.statements.now.items) c.args.number (c.args.line.now ∷ rest))) (sym c.refused.ensures)
    (read-refused g.C.Codelets.has c.args.names.now c.args.statements.now.items c.args.number c.args.line.now rest c.in-Err.why c.requires c.in-Err.ensures.err)
