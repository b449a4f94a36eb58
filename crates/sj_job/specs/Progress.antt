-- How far a text is read.
use Rattle.std.specs.Prelude.{ℕ, Bool, Result, Ok, Err, List, ◌++◌, length}
use Rattle.sj_codelet.specs.declared.kernel.Kernel.{Kernel}
use Rattle.sj_meaning.specs.Act.{Statement}
use Rattle.sj_meaning.specs.State.{start}
use Rattle.sj_meaning.specs.Meaning.{run_from}
use Rattle.sj_job.specs.Reading.{Refusal, reading}

-- the statements read so far, before what the further lines say
abbrev pub followed_by : List (Statement (List ℕ)) → Result (List (Statement (List ℕ))) Refusal → Result (List (Statement (List ℕ))) Refusal
followed_by ss (Ok more) = Ok (ss ++ more)
followed_by ss (Err e) = Err e

-- what a text says whose statements so far are ss and whose further lines, from line n on, are ls
abbrev pub text_with : (Kernel → Bool) → List (Statement (List ℕ)) → ℕ → List (List ℕ) → Result (List (Statement (List ℕ))) Refusal
text_with set ss n ls = followed_by ss (reading set (length ss) (run_from start ss) n ls)
