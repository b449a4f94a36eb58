use Rattle.std.proofs.Common.{◌≤◌, ◌^◌, ℕ, List, [], Result, IfErr, subst, sym}
use Rattle.std.specs.Prelude.{All}
use Rattle.std.proofs.lemmas.List.Elements.{All-cons, All-nil}
use Rattle.sj_minplus.specs.Has.{library_has}
use Rattle.sj_ready.specs.Input.{work_in}
use Rattle.sj_judge.specs.Judged.{RefusalHasCause, TraceIsWhole}
use Rattle.sj_judge.proofs.judging.judged.Goals as goal

pub judged_on-requires-clause-small : goal.judged_on-requires-clause-small
judged_on-requires-clause-small c =
    subst (λ (ds : List ℕ). All (λ n. n ≤ 2 ^ 40) ds) (sym c.in_ok-disks.ensures)
    (All-cons (λ (n : ℕ). n ≤ 2 ^ 40) c.args.swap [] c.requires.swap (All-nil (λ (n : ℕ). n ≤ 2 ^ 40)))

pub returns-clause-legal_and_complete : goal.returns-clause-legal_and_complete
returns-clause-legal_and_complete c = λ ok.
    subst (λ (ds : List ℕ). TraceIsWhole (work_in library_has c.args.options.now ds c.args.job) c.args.trace.now) c.in_ok-disks.ensures (c.judged_on.ensures.whole ok)

pub returns-clause-cause : goal.returns-clause-cause
returns-clause-cause c =
    subst (λ (ds : List ℕ). IfErr c.judged_on.result (RefusalHasCause (work_in library_has c.args.options.now ds c.args.job) c.args.trace.now)) c.in_ok-disks.ensures c.judged_on.ensures.cause

pub returns-clause-complete : goal.returns-clause-complete
returns-clause-complete c = λ whole.
    c.judged_on.ensures.complete (subst (λ (ds : List ℕ). TraceIsWhole (work_in library_has c.args.options.now ds c.args.job) c.args.trace.now) (sym c.in_ok-disks.ensures) whole)
