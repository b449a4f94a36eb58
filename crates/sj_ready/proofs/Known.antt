-- The lines of a job that a set with the program's own codelets accepts.
use Rattle.std.proofs.Common.{Bool, List, refl, subst, sym, true, ℕ}
use Rattle.std.specs.Prelude.{IsTrue}
use Rattle.sj_codelet.specs.declared.kernel.Kernel.{Kernel}
use Rattle.sj_meaning.specs.Act.{Statement}
use Rattle.sj_meaning.specs.State.{start}
use Rattle.sj_job.specs.Well.{IsWell}
use Rattle.sj_lower.specs.Job.{IsJobIn}
use Rattle.sj_ready.specs.Ready.{HasOwnCodelets}

pub job-in : (has : Kernel → Bool) → HasOwnCodelets has → (ss : List (Statement (List ℕ))) → IsWell has 0 start ss → IsJobIn has ss
job-in has own ss well = record { well = well; own = rw (own.load, own.loadfill, own.paste, own.deliver) refl }

-- what lines may say where all codelets are there, they may say where a set has all
pub well-in : (has : Kernel → Bool) → ((k : Kernel) → IsTrue (has k)) → (ss : List (Statement (List ℕ))) → IsWell (λ _. true) 0 start ss → IsWell has 0 start ss
well-in has every ss well = subst (λ (h : Kernel → Bool). IsWell h 0 start ss) (sym (λ i k. every k i)) well
