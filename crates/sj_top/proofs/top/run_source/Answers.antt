use Rattle.std.proofs.Common.{◌≡◌, ℕ, Bool, List, map, ap, subst, sym, IfSome, Option, Some, None, Result, Err, Vec, Global}
use Rattle.std.specs.Prelude.{option_map}
use Rattle.sj_codelet.specs.declared.kernel.Kernel.{Kernel}
use Rattle.sj_job.specs.Reading.{job_of}
use Rattle.sj_edge.specs.Faults.{counted}
use Rattle.sj_engine.specs.Outcome.{AllDisksTell}
use Rattle.sj_top.specs.declared.source_text.Unread.{Unread}
use Rattle.sj_top.specs.declared.status.Status.{Status}
use Rattle.sj_top.specs.Device.{devices, seen}
use Rattle.sj_top.specs.Streams.{is_source_fault}
use Rattle.sj_top.specs.Top.{StatusHasCause}
use Rattle.sj_top.specs.Work.{told}
use Rattle.sj_ready.specs.Work.{asked_by}
use Rattle.sj_top.proofs.ReadingWhole.{short}
use Rattle.sj_top.proofs.Leaving.{come-back-same}
use Rattle.sj_top.proofs.Tops.{caused-by, printed-by, silent-by, unread-memory}
use Rattle.sj_top.proofs.top.run_source.Goals as goal

-- what a text that was read says is what the source's bytes say
same-jobs : (has : Kernel → Bool) (text : List ℕ) (bytes : Option (List ℕ)) → IfSome bytes (λ whole. job_of has whole ≡ job_of has text) → IfSome (option_map (job_of has) bytes) (λ whole. whole ≡ job_of has text)
same-jobs has text None h = tt
same-jobs has text (Some whole) h = h

pub returns-in-Ok-clause-printed : goal.returns-in-Ok-clause-printed
returns-in-Ok-clause-printed g c = λ tells.
    let has = g.C.Codelets.has in
    let left = g.S.Source.left c.args.source.now in
    printed-by c.args.options.now (map g.D.Disk.size c.args.disks.items) (option_map (job_of has) left) (job_of has c.in-Ok.text.items) (same-jobs has c.in-Ok.text.items left (c.in-Ok.ensures.job has))
    (AllDisksTell g.D.Disk.held c.args.disks.items) c.answer_input.result.status
    (seen g.O.Sink.taken g.O.Sink.faults c.args.out.now) (seen g.O.Sink.taken g.O.Sink.faults c.answer_input.new.out) c.answer_input.result.trace.events
    c.answer_input.ensures.answered tells

pub returns-in-Ok-clause-answered : goal.returns-in-Ok-clause-answered
returns-in-Ok-clause-answered g c =
    let r = c.in-Ok.ensures in
    let has = g.C.Codelets.has in
    let left = g.S.Source.left c.args.source.now in
    let text = c.in-Ok.text.items in
    let before = devices g.S.Source g.O.Sink g.D.Disk c.args.source.now c.args.out.now c.args.disks.items in
    let after = devices g.S.Source g.O.Sink g.D.Disk c.read_source.new.source c.answer_input.new.out c.answer_input.result.disks.items in
    caused-by c.args.options.now (map g.D.Disk.size c.args.disks.items) (option_map (job_of has) left) (job_of has text) (same-jobs has text left (r.job has))
    g.D.Disk before after c.answer_input.result.trace.events r.read (λ ok. r.end (short has text ok))
    c.answer_input.result.status c.answer_input.ensures.answered c.answer_input.ensures.disks

pub returns-in-Ok-clause-out_stays : goal.returns-in-Ok-clause-out_stays
returns-in-Ok-clause-out_stays g c = λ silent.
    let has = g.C.Codelets.has in
    let left = g.S.Source.left c.args.source.now in
    c.answer_input.ensures.out_stays (silent-by c.args.options.now (map g.D.Disk.size c.args.disks.items) (option_map (job_of has) left) (job_of has c.in-Ok.text.items)
    (same-jobs has c.in-Ok.text.items left (c.in-Ok.ensures.job has)) c.answer_input.result.status silent)

pub returns-in-Ok-clause-disks_come_back : goal.returns-in-Ok-clause-disks_come_back
returns-in-Ok-clause-disks_come_back g c = c.answer_input.ensures.disks.come_back

pub returns-in-Err-Fault-clause-disks_come_back : goal.returns-in-Err-Fault-clause-disks_come_back
returns-in-Err-Fault-clause-disks_come_back g c =
    let u = c.unread in
    come-back-same g.D.Disk u.result.status c.args.disks.items u.result.disks.items (ap (λ (v : Vec g.row.D.Denot Global). v.items) u.ensures.disks)

abbrev failed : Unread → Result (Vec ℕ Global) Unread
failed x = Err x

pub returns-in-Err-OutOfMemory-clause-answered : goal.returns-in-Err-OutOfMemory-clause-answered
returns-in-Err-OutOfMemory-clause-answered g c =
    let u = c.unread-in-Err-OutOfMemory in
    let before = devices g.S.Source g.O.Sink g.D.Disk c.args.source.now c.args.out.now c.args.disks.items in
    let after = devices g.S.Source g.O.Sink g.D.Disk c.read_source.new.source c.args.out.now u.result.disks.items in
    let asked = told (option_map (asked_by c.args.options.now (map g.D.Disk.size c.args.disks.items)) (option_map (job_of g.C.Codelets.has) (g.S.Source.left c.args.source.now))) in
    let same = subst (λ (x : Unread). after.source.faults ≡ counted before.source.faults (is_source_fault (failed x))) c.in-Err-OutOfMemory.field-0-is c.in-Err-OutOfMemory.ensures.rises_by_one in
    subst (λ (s : Status). StatusHasCause asked before after u.result.trace.events s) (sym u.ensures.status)
    (unread-memory asked before after u.result.trace.events u.ensures.trace same)

pub returns-in-Err-OutOfMemory-clause-disks_come_back : goal.returns-in-Err-OutOfMemory-clause-disks_come_back
returns-in-Err-OutOfMemory-clause-disks_come_back g c =
    let u = c.unread-in-Err-OutOfMemory in
    come-back-same g.D.Disk u.result.status c.args.disks.items u.result.disks.items (ap (λ (v : Vec g.row.D.Denot Global). v.items) u.ensures.disks)
