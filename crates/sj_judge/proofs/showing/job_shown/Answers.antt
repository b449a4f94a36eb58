use Rattle.std.proofs.Common.{◌≤◌, ◌∙◌, ap, length, subst}
use Rattle.sj_meaning.specs.View.{job_seen}
use Rattle.sj_job.specs.Reading.{job_of, text_limit}
use Rattle.sj_minplus.specs.Has.{library_has}
use Rattle.sj_text.proofs.Whole.{text-read}
use Rattle.sj_judge.proofs.showing.job_shown.Goals as goal

pub returns-clause-shown : goal.returns-clause-shown
returns-clause-shown c =
    let said = c.in_ok-job.ensures in
    let shown = c.in_ok-text.ensures.text in
    record {
      job = job_seen c.in_ok-job.job;
      said_by = said.ok;
      shown = shown;
      reads_back = λ fits. ap (job_of library_has) shown ∙ text-read library_has (job_seen c.in_ok-job.job) said.within said.well (subst (λ t. length t ≤ text_limit) shown fits);
    }
