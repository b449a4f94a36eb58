use Rattle.std.proofs.Common.{refl, Result, ◌∙◌, subst, sym}
use Rattle.std.specs.Prelude.{IsOkAnd}
use Rattle.std.proofs.lemmas.Bool.{false≢true}
use Rattle.sj_meaning.specs.Job.{Job}
use Rattle.sj_job.specs.Reading.{Refusal, job_of}
use Rattle.sj_meaning.specs.View.{job_seen}
use Rattle.own_set.specs.Turns.{HasCodelets, small_program, turns_has}
use Rattle.own_set.proofs.Preparing.{ready-by}
use Rattle.own_set.proofs.make_ready.Goals as goal

pub returns-clause-ok : goal.returns-clause-ok
returns-clause-ok c =
    let lowered = c.in_ok-program in
    ready-by (job_of turns_has c.args.text.now) (job_seen c.in_ok-job.job) lowered.field-0.program c.args.disks.items (record { program = c.in_ok-program-2.program; footprints = c.in_ok-footprints.footprints; machine = c.in_ok-machine.machine })
    c.in_ok-job.ensures.ok lowered.ensures.is c.in_ok-program-2.ensures c.in_ok-machine.ensures lowered.ensures.proper
    (c.has_codelets.ensures.0 c.if-not-has_codelets.false) c.arguments_fit.ensures c.requires.few (c.in_ok-footprints.ensures.swap refl) c.in_ok-footprints.ensures.footprints

pub returns-then-not-has_codelets-clause-err : goal.returns-then-not-has_codelets-clause-err
returns-then-not-has_codelets-clause-err c =
    let is = c.in_ok-program.ensures.is in
    let lacks : ¬ HasCodelets (small_program (job_seen c.in_ok-job.job).statements) =
    λ has. false≢true (sym c.if-not-has_codelets.true ∙ c.has_codelets.ensures.1 (subst HasCodelets (sym is) has)) in
    subst (λ (o : Result Job Refusal). IsOkAnd o (λ j. ¬ HasCodelets (small_program j.statements))) (sym c.in_ok-job.ensures.ok) lacks
