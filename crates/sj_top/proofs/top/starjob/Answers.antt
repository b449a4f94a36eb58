use Rattle.std.proofs.Common.{ap, map, Result}
use Rattle.sj_meaning.specs.Job.{Job}
use Rattle.sj_job.specs.Reading.{Refusal}
use Rattle.sj_ready.specs.Work.{WorkOrRefusal, asked_by}
use Rattle.sj_words.specs.Options.{options}
use Rattle.sj_words.specs.Spelling.{texts}
use Rattle.sj_words.specs.declared.options.Options.{Options}
use Rattle.sj_top.specs.Device.{devices, in_use}
use Rattle.sj_top.specs.Work.{asked_through, reads_source}
use Rattle.sj_top.proofs.Due.{due-comes, unread-stays}
use Rattle.sj_top.proofs.top.starjob.Goals as goal

pub returns-clause-due_status_comes : goal.returns-clause-due_status_comes
returns-clause-due_status_comes g c = λ due is.
    let o = options (texts c.args.words.now) in
    let reading : Options → Result Job Refusal → WorkOrRefusal = λ o. asked_by o (map g.D.Disk.size c.args.disks.items) in
    let left = g.S.Source.left c.args.source.now in
    let before = devices g.S.Source g.O.Sink g.D.Disk c.args.source.now c.args.out.now c.args.disks.items in
    let after = devices g.S.Source g.O.Sink g.D.Disk c.answer_words-outcome.new.source c.answer_words-outcome.new.out c.answer_words-outcome.result.disks.items in
    due-comes (in_use (reads_source o) before) (in_use (reads_source o) after) c.answer_words-outcome.result.trace.events c.answer_words-outcome.result.status
    (asked_through reading o left) c.answer_words-outcome.ensures.answered (unread-stays o reading left before after)
    (λ silent. ap g.O.Sink.faults (c.answer_words-outcome.ensures.out_stays silent)) due is
