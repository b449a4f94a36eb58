-- What reading a job's canonical text gives: the job again, with all its settings said and its lines numbered anew.
use Rattle.std.specs.Prelude.{ℕ, ◌+◌, Some, List, [], ◌∷◌, length}
use Rattle.sj_meaning.specs.Act.{Statement}
use Rattle.sj_meaning.specs.Job.{Job, job}
use Rattle.sj_job.specs.Reading.{statement}
use Rattle.sj_meaning.specs.Settings.{nodes_of, policy_set, worker_count}
use Rattle.sj_meaning.specs.declared.settings.Settings.{Settings}

-- the same settings, with what no line set
abbrev pub settings_said : Settings → Settings
settings_said g = record { workers = Some (worker_count g); nodes = nodes_of g; policy = Some (policy_set g) }

-- the same acts, in the lines from this one on
abbrev pub renumbered : ℕ → List (Statement (List ℕ)) → List (Statement (List ℕ))
renumbered n [] = []
renumbered n (s ∷ ss) = statement n s.act ∷ renumbered (n + 1) ss

-- the line of the first statement: behind the header, the workers, a line for each node, and the policy
abbrev pub first_statement_line : Settings → ℕ
first_statement_line g = length (nodes_of g) + 4

abbrev pub said_again : Job → Job
said_again j = job (settings_said j.settings) (renumbered (first_statement_line j.settings) j.statements)
