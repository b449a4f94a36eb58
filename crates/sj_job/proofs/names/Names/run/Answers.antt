use Rattle.std.proofs.Common.{◌≡◌, ◌+◌, ◌∙◌, ap, map, get_or, List}
use Rattle.sj_codelet.specs.Kernel.{out}
use Rattle.sj_meaning.specs.declared.job.Operand.{Operand as Access}
use Rattle.sj_meaning.specs.Meaning.{operand_array}
use Rattle.sj_job.specs.Names.{after_writes}
use Rattle.sj_meaning.specs.View.{task_seen}
use Rattle.sj_meaning.proofs.Giving.{gives_all}
use Rattle.sj_job.proofs.Seen.{shows_put, fits-in, counted-written}
use Rattle.sj_job.proofs.names.Names.run.Goals as goal

pub returns-clause-names : goal.returns-clause-names
returns-clause-names c = λ has n S h s.
    let old = c.args.self.now in
    let t = task_seen old.roots c.args.task.now in
    let arrays = out t.codelet t.args (map (operand_array S) t.operands) in
    let done = c.in_ok-write_all.ensures in
    let new = c.write_all.new.self in
    let standings : new.standings.items ≡ after_writes c.args.task.now.operands old.standings.items = done.standings ∙ ap (λ (os : List Access). after_writes os old.standings.items) c.items.ensures in
    let shown = shows_put old new S c.args.task.now.operands arrays (gives_all has S t (map (operand_array S) t.operands) s) h.shows (counted-written old new c.args.task.now.operands c.requires.counted done.roots standings) done.roots standings
    (λ k d lt. fits-in old (get_or c.args.task.now.operands k d) c.requires.counted (c.requires.roots k d lt) (c.requires.places k d lt)) in
    record {
      statements = ap (λ m. m + 1) (done.count ∙ h.statements);
      shows = record { counted = shown.counted; registered = shown.registered; ended = shown.ended; found = shown.found };
    }
