-- What is shown of a job: its lowered program, or its canonical text.
use Rattle.std.specs.Prelude.{◌≡◌, ℕ, ◌≤◌, Ok, List, length}
use Rattle.sj_meaning.specs.Job.{Job}
use Rattle.sj_job.specs.Reading.{job_of, text_limit}
use Rattle.sj_minplus.specs.Has.{library_has}
use Rattle.sj_ready.specs.Work.{Work, WorkOrRefusal, program_of}
use Rattle.sj_show.specs.Program.{text_of_program}
use Rattle.sj_text.specs.Again.{said_again}
use Rattle.sj_text.specs.Text.{text_of_job}

-- this work is asked for, and the text is that of its program
pub record IsProgramText (asked : WorkOrRefusal) (text : List ℕ) : Type 0 where
  pub work : Work
  pub asked_for : asked ≡ Ok work
  pub shown : text ≡ text_of_program (program_of work)

-- the first text says this job, and the other one is its canonical text, which says the job again, with all its settings said
-- and its lines numbered anew, where it isn't longer than a text may be
pub record IsTextOfJob (said text : List ℕ) : Type 0 where
  pub job : Job
  pub said_by : job_of library_has said ≡ Ok job
  pub shown : text ≡ text_of_job job
  pub reads_back : length text ≤ text_limit → job_of library_has text ≡ Ok (said_again job)
