use Rattle.std.proofs.Common.{◌≡◌, false, map, refl, subst, sym, Option, Some, Ok}
use Rattle.std.specs.Prelude.{IfSome, is_none, option_map}
use Rattle.std.proofs.lemmas.Bool.{true≢false}
use Rattle.sj_apps.specs.Application.{IsSized, job_for}
use Rattle.sj_apps.specs.declared.application.Application.{Application}
use Rattle.sj_engine.specs.Outcome.{AllDisksTell}
use Rattle.sj_top.specs.Device.{devices, in_use, seen}
use Rattle.sj_top.specs.Top.{StatusHasCause, IsSilent, TakesText}
use Rattle.sj_ready.specs.Work.{asked_by, said_by}
use Rattle.sj_top.specs.Work.{job_by, told}
use Rattle.sj_top.proofs.Solving.{solved}
use Rattle.sj_top.proofs.Tops.{caused-by, printed-by, silent-by}
use Rattle.sj_top.proofs.Unrefused.{unrefused}
use Rattle.sj_top.proofs.top.answer_options.Goals as goal

-- ---- with an application

pub returns-in-Some-clause-printed : goal.returns-in-Some-clause-printed
returns-in-Some-clause-printed g c = λ tells.
    let sizes = map g.D.Disk.size c.args.disks.items in
    let o = c.args.options.now in
    let job = Ok (job_for c.in-Some.application) in
    let out = seen g.O.Sink.taken g.O.Sink.faults c.args.out.now in
    let out' = seen g.O.Sink.taken g.O.Sink.faults c.answer_input.new.out in
    subst (λ (x : Option Application). TakesText (told (option_map (said_by o sizes) (job_by x (g.S.Source.left c.args.source.now)))) c.answer_input.result.status out out' c.answer_input.result.trace.events)
    (sym c.in-Some.is) (printed-by o sizes (Some job) job refl (AllDisksTell g.D.Disk.held c.args.disks.items) c.answer_input.result.status out out' c.answer_input.result.trace.events c.answer_input.ensures.answered tells)

pub returns-in-Some-clause-answered : goal.returns-in-Some-clause-answered
returns-in-Some-clause-answered g c =
    let sizes = map g.D.Disk.size c.args.disks.items in
    let o = c.args.options.now in
    let job = Ok (job_for c.in-Some.application) in
    let before = devices g.S.Source g.O.Sink g.D.Disk c.args.source.now c.args.out.now c.args.disks.items in
    let after = devices g.S.Source g.O.Sink g.D.Disk c.args.source.now c.answer_input.new.out c.answer_input.result.disks.items in
    subst (λ (x : Option Application). StatusHasCause (told (option_map (asked_by o sizes) (job_by x (g.S.Source.left c.args.source.now)))) (in_use (is_none x) before) (in_use (is_none x) after) c.answer_input.result.trace.events c.answer_input.result.status)
    (sym c.in-Some.is)
    (caused-by o sizes (Some job) job refl g.D.Disk (in_use false before) (in_use false after) c.answer_input.result.trace.events (record { taken = refl; never_failed = refl }) (λ ok. refl)
    c.answer_input.result.status c.answer_input.ensures.answered c.answer_input.ensures.disks)

pub returns-in-Some-clause-out_stays : goal.returns-in-Some-clause-out_stays
returns-in-Some-clause-out_stays g c = λ silent.
    let sizes = map g.D.Disk.size c.args.disks.items in
    let o = c.args.options.now in
    let job = Ok (job_for c.in-Some.application) in
    c.answer_input.ensures.out_stays (silent-by o sizes (Some job) job refl c.answer_input.result.status
    (subst (λ (x : Option Application). IsSilent (told (option_map (asked_by o sizes) (job_by x (g.S.Source.left c.args.source.now)))) c.answer_input.result.status) c.in-Some.is silent))

pub returns-in-Some-clause-disks_come_back : goal.returns-in-Some-clause-disks_come_back
returns-in-Some-clause-disks_come_back g c = c.answer_input.ensures.disks.come_back

pub returns-in-Some-clause-solved : goal.returns-in-Some-clause-solved
returns-in-Some-clause-solved g c = λ tells.
    let sizes = map g.D.Disk.size c.args.disks.items in
    let o = c.args.options.now in
    let left = g.S.Source.left c.args.source.now in
    let job = Ok (job_for c.in-Some.application) in
    let out = seen g.O.Sink.taken g.O.Sink.faults c.args.out.now in
    let out' = seen g.O.Sink.taken g.O.Sink.faults c.answer_input.new.out in
    let r = c.answer_input.result in
    solved o sizes left out out' r.trace.events r.status c.requires.options.application
    (subst (λ (x : Option Application). TakesText (told (option_map (said_by o sizes) (job_by x left))) r.status out out' r.trace.events)
    (sym c.in-Some.is) (printed-by o sizes (Some job) job refl (AllDisksTell g.D.Disk.held c.args.disks.items) r.status out out' r.trace.events c.answer_input.ensures.answered tells))

pub returns-in-Some-clause-refuses_no_application : goal.returns-in-Some-clause-refuses_no_application
returns-in-Some-clause-refuses_no_application g c = λ none.
    let r = c.answer_input.result in
    unrefused c.args.options.now (map g.D.Disk.size c.args.disks.items) c.in-Some.application
    (subst (λ (x : Option Application). IfSome x IsSized) c.in-Some.is c.requires.options.application) (AllDisksTell g.D.Disk.held c.args.disks.items) r.status _ _ r.trace.events c.answer_input.ensures.answered

-- ---- without

pub returns-in-None-clause-printed : goal.returns-in-None-clause-printed
returns-in-None-clause-printed g c = λ tells.
    let sizes = map g.D.Disk.size c.args.disks.items in
    let o = c.args.options.now in
    let out = seen g.O.Sink.taken g.O.Sink.faults c.args.out.now in
    let out' = seen g.O.Sink.taken g.O.Sink.faults c.run_source.new.out in
    subst (λ (x : Option Application). TakesText (told (option_map (said_by o sizes) (job_by x (g.S.Source.left c.args.source.now)))) c.run_source.result.status out out' c.run_source.result.trace.events)
    (sym c.in-None.is) (c.run_source.ensures.printed tells)

pub returns-in-None-clause-answered : goal.returns-in-None-clause-answered
returns-in-None-clause-answered g c =
    let sizes = map g.D.Disk.size c.args.disks.items in
    let o = c.args.options.now in
    let before = devices g.S.Source g.O.Sink g.D.Disk c.args.source.now c.args.out.now c.args.disks.items in
    let after = devices g.S.Source g.O.Sink g.D.Disk c.run_source.new.source c.run_source.new.out c.run_source.result.disks.items in
    subst (λ (x : Option Application). StatusHasCause (told (option_map (asked_by o sizes) (job_by x (g.S.Source.left c.args.source.now)))) (in_use (is_none x) before) (in_use (is_none x) after) c.run_source.result.trace.events c.run_source.result.status)
    (sym c.in-None.is) c.run_source.ensures.answered

pub returns-in-None-clause-reads_nothing : goal.returns-in-None-clause-reads_nothing
returns-in-None-clause-reads_nothing g c = λ none.
    absurd (true≢false (subst (λ (x : Option Application). is_none x ≡ false) c.in-None.is none))

pub returns-in-None-clause-refuses_no_application : goal.returns-in-None-clause-refuses_no_application
returns-in-None-clause-refuses_no_application g c = λ none.
    absurd (true≢false (subst (λ (x : Option Application). is_none x ≡ false) c.in-None.is none))

pub returns-in-None-clause-out_stays : goal.returns-in-None-clause-out_stays
returns-in-None-clause-out_stays g c = λ silent.
    let sizes = map g.D.Disk.size c.args.disks.items in
    let o = c.args.options.now in
    c.run_source.ensures.out_stays
    (subst (λ (x : Option Application). IsSilent (told (option_map (asked_by o sizes) (job_by x (g.S.Source.left c.args.source.now)))) c.run_source.result.status) c.in-None.is silent)

pub returns-in-None-clause-solved : goal.returns-in-None-clause-solved
returns-in-None-clause-solved g c = λ tells.
    let sizes = map g.D.Disk.size c.args.disks.items in
    let o = c.args.options.now in
    let left = g.S.Source.left c.args.source.now in
    let out = seen g.O.Sink.taken g.O.Sink.faults c.args.out.now in
    let out' = seen g.O.Sink.taken g.O.Sink.faults c.run_source.new.out in
    let r = c.run_source.result in
    solved o sizes left out out' r.trace.events r.status c.requires.options.application
    (subst (λ (x : Option Application). TakesText (told (option_map (said_by o sizes) (job_by x left))) r.status out out' r.trace.events)
    (sym c.in-None.is) (c.run_source.ensures.printed tells))
