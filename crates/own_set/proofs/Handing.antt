-- What a run of a ready program hands over is what the job's deliver tasks have to hand over.
use Rattle.std.proofs.Common.{◌≡◌, List, Result, Ok, Err, subst}
use Rattle.std.specs.Prelude.{IsOkAnd}
use Rattle.sj_base.specs.declared.ids.Task.{Task}
use Rattle.sj_base.specs.declared.program.Program.{Program}
use Rattle.sj_base.specs.Array.{Array}
use Rattle.sj_codelet.specs.Kernel.{out}
use Rattle.sj_meaning.specs.Job.{Job}
use Rattle.sj_job.specs.Reading.{Refusal}
use Rattle.sj_board.specs.Delivered.{DeliversEach}
use Rattle.own_set.specs.Turns.{small_program}

pub delivers_of : (job : Result Job Refusal) (p : Program) (Tells : Type 0) (pairs : List (Task × Array)) → IsOkAnd job (λ j. p ≡ small_program j.statements) → DeliversEach out p Tells pairs → IsOkAnd job (λ j. DeliversEach out (small_program j.statements) Tells pairs)
delivers_of (Ok j) p Tells pairs is each = subst (λ (q : Program). DeliversEach out q Tells pairs) is each
delivers_of (Err e) p Tells pairs is each = is
