use Rattle.std.proofs.Common.{◌≡◌, false, map, ap, refl, subst, sym, Option, Some, None, List, Vec, Global}
use Rattle.sj_words.specs.Options.{options}
use Rattle.sj_words.specs.Spelling.{texts}
use Rattle.sj_words.specs.declared.options.Options.{Options}
use Rattle.sj_top.specs.declared.status.Status.{Status}
use Rattle.sj_top.specs.Device.{Device, devices, in_use, seen}
use Rattle.sj_top.specs.Solving.{TakesAnswer}
use Rattle.sj_top.specs.declared.status.Status.TheVariants.{OutOfMemory}
use Rattle.sj_base.specs.declared.trace.Event.{Event}
use Rattle.sj_top.specs.Top.{StatusHasCause, IsSilent, TakesText}
use Rattle.sj_ready.specs.Work.{asked_by, said_by}
use Rattle.sj_top.specs.Work.{Asked, asked_through, reads_source}
use Rattle.sj_top.proofs.Leaving.{come-back-same}
use Rattle.sj_top.proofs.Tops.{unread-memory}
use Rattle.sj_top.proofs.top.answer_words.Goals as goal

pub returns-in-Ok-clause-printed : goal.returns-in-Ok-clause-printed
returns-in-Ok-clause-printed g c = λ tells.
    let sizes = map g.D.Disk.size c.args.disks.items in
    subst (λ (o : Option Options). TakesText (asked_through (λ o. said_by o sizes) o (g.S.Source.left c.args.source.now)) c.answer_options.result.status
    (seen g.O.Sink.taken g.O.Sink.faults c.args.out.now) (seen g.O.Sink.taken g.O.Sink.faults c.answer_options.new.out) c.answer_options.result.trace.events)
    (sym c.in-Ok.ensures.ok) (c.answer_options.ensures.printed tells)

pub returns-in-Ok-clause-answered : goal.returns-in-Ok-clause-answered
returns-in-Ok-clause-answered g c =
    let sizes = map g.D.Disk.size c.args.disks.items in
    let before = devices g.S.Source g.O.Sink g.D.Disk c.args.source.now c.args.out.now c.args.disks.items in
    let after = devices g.S.Source g.O.Sink g.D.Disk c.answer_options.new.source c.answer_options.new.out c.answer_options.result.disks.items in
    subst (λ (o : Option Options). StatusHasCause (asked_through (λ o. asked_by o sizes) o (g.S.Source.left c.args.source.now)) (in_use (reads_source o) before) (in_use (reads_source o) after) c.answer_options.result.trace.events c.answer_options.result.status)
    (sym c.in-Ok.ensures.ok) c.answer_options.ensures.answered

pub returns-in-Ok-clause-solved : goal.returns-in-Ok-clause-solved
returns-in-Ok-clause-solved g c = λ tells.
    subst (λ (o : Option Options). TakesAnswer o c.answer_options.result.status
    (seen g.O.Sink.taken g.O.Sink.faults c.args.out.now) (seen g.O.Sink.taken g.O.Sink.faults c.answer_options.new.out) c.answer_options.result.trace.events)
    (sym c.in-Ok.ensures.ok) (c.answer_options.ensures.solved tells)

pub returns-in-Ok-clause-reads_nothing : goal.returns-in-Ok-clause-reads_nothing
returns-in-Ok-clause-reads_nothing g c = λ none.
    c.answer_options.ensures.reads_nothing (subst (λ (o : Option Options). reads_source o ≡ false) c.in-Ok.ensures.ok none)

pub returns-in-Ok-clause-refuses_no_application : goal.returns-in-Ok-clause-refuses_no_application
returns-in-Ok-clause-refuses_no_application g c = λ none.
    c.answer_options.ensures.refuses_no_application (subst (λ (o : Option Options). reads_source o ≡ false) c.in-Ok.ensures.ok none)

pub returns-in-Ok-clause-out_stays : goal.returns-in-Ok-clause-out_stays
returns-in-Ok-clause-out_stays g c = λ silent.
    let sizes = map g.D.Disk.size c.args.disks.items in
    c.answer_options.ensures.out_stays (subst (λ (o : Option Options). IsSilent (asked_through (λ o. asked_by o sizes) o (g.S.Source.left c.args.source.now)) c.answer_options.result.status) c.in-Ok.ensures.ok silent)

pub returns-in-Err-Unaccepted-clause-answered : goal.returns-in-Err-Unaccepted-clause-answered
returns-in-Err-Unaccepted-clause-answered g c =
    let u = c.unread in
    let sizes = map g.D.Disk.size c.args.disks.items in
    let before = devices g.S.Source g.O.Sink g.D.Disk c.args.source.now c.args.out.now c.args.disks.items in
    let after = devices g.S.Source g.O.Sink g.D.Disk c.args.source.now c.args.out.now u.result.disks.items in
    let asked : Option Options → Asked = λ o. asked_through (λ o. asked_by o sizes) o (g.S.Source.left c.args.source.now) in
    let none = c.in-Err-Unaccepted.ensures.unaccepted c.in-Err-Unaccepted.field-0-is in
    let reads = reads_source (options (texts c.args.words.now)) in
    subst (λ (s : Status). StatusHasCause (asked (options (texts c.args.words.now))) (in_use reads before) (in_use reads after) u.result.trace.events s) (sym u.ensures.status)
    (record { cause = ap asked none; nothing_ran = u.ensures.trace })

pub returns-in-Err-Unaccepted-clause-solved : goal.returns-in-Err-Unaccepted-clause-solved
returns-in-Err-Unaccepted-clause-solved g c = λ tells.
    let u = c.unread in
    let out = seen g.O.Sink.taken g.O.Sink.faults c.args.out.now in
    let none = c.in-Err-Unaccepted.ensures.unaccepted c.in-Err-Unaccepted.field-0-is in
    subst (λ (o : Option Options). TakesAnswer o u.result.status out out u.result.trace.events) (sym none) tt

pub returns-in-Err-Unaccepted-clause-disks_come_back : goal.returns-in-Err-Unaccepted-clause-disks_come_back
returns-in-Err-Unaccepted-clause-disks_come_back g c =
    let u = c.unread in
    come-back-same g.D.Disk u.result.status c.args.disks.items u.result.disks.items (ap (λ (v : Vec g.row.D.Denot Global). v.items) u.ensures.disks)

pub returns-in-Err-OutOfMemory-clause-answered : goal.returns-in-Err-OutOfMemory-clause-answered
returns-in-Err-OutOfMemory-clause-answered g c =
    let u = c.unread-in-Err-OutOfMemory in
    let sizes = map g.D.Disk.size c.args.disks.items in
    let before = devices g.S.Source g.O.Sink g.D.Disk c.args.source.now c.args.out.now c.args.disks.items in
    let after = devices g.S.Source g.O.Sink g.D.Disk c.args.source.now c.args.out.now u.result.disks.items in
    let asked = asked_through (λ o. asked_by o sizes) (options (texts c.args.words.now)) (g.S.Source.left c.args.source.now) in
    let reads = reads_source (options (texts c.args.words.now)) in
    subst (λ (s : Status). StatusHasCause asked (in_use reads before) (in_use reads after) u.result.trace.events s) (sym u.ensures.status)
    (unread-memory asked (in_use reads before) (in_use reads after) u.result.trace.events u.ensures.trace refl)

no-answer : (o : Option Options) (out out' : Device) (trace : List Event) → TakesAnswer o OutOfMemory out out' trace
no-answer None out out' trace = tt
no-answer (Some o) out out' trace = tt

pub returns-in-Err-OutOfMemory-clause-solved : goal.returns-in-Err-OutOfMemory-clause-solved
returns-in-Err-OutOfMemory-clause-solved g c = λ tells.
    let u = c.unread-in-Err-OutOfMemory in
    let out = seen g.O.Sink.taken g.O.Sink.faults c.args.out.now in
    let o = options (texts c.args.words.now) in
    subst (λ (s : Status). TakesAnswer o s out out u.result.trace.events) (sym u.ensures.status) (no-answer o out out u.result.trace.events)

pub returns-in-Err-OutOfMemory-clause-disks_come_back : goal.returns-in-Err-OutOfMemory-clause-disks_come_back
returns-in-Err-OutOfMemory-clause-disks_come_back g c =
    let u = c.unread-in-Err-OutOfMemory in
    come-back-same g.D.Disk u.result.status c.args.disks.items u.result.disks.items (ap (λ (v : Vec g.row.D.Denot Global). v.items) u.ensures.disks)
