-- What was read, lowered and found to fit can be run.
use Rattle.std.proofs.Common.{◌≡◌, ◌≤◌, ◌∷◌, [], ℕ, List, Bool, ap, arith, length, refl, sym}
use Rattle.std.specs.Prelude.{All, FitsSigned, IsTrue}
use Rattle.std.specs.Int.{w64}
use Rattle.sj_base.specs.declared.program.Machine.{Machine}
use Rattle.sj_base.specs.declared.program.Program.{Program}
use Rattle.sj_codelet.specs.declared.kernel.Kernel.{Kernel}
use Rattle.sj_codelet.specs.Kernel.{out}
use Rattle.sj_codelet.proofs.NewArrays.{out-makes_tiles}
use Rattle.sj_core.specs.Laws.{is_known}
use Rattle.sj_core.specs.Proper.{HasSwapFor, Proper}
use Rattle.sj_meaning.specs.Act.{Statement}
use Rattle.sj_meaning.specs.State.{start}
use Rattle.sj_job.specs.Well.{IsWell}
use Rattle.sj_kernels.specs.Has.{ring_has}
use Rattle.sj_kernels.specs.RingLaws.{ring_commuting, ring_contributing, ring_reducing}
use Rattle.sj_lower.specs.Job.{IsJobIn}
use Rattle.sj_lower.specs.Lowering.{lowered}
use Rattle.sj_board.specs.Sound.{IsRunnableOn}

pub run-of : (ss : List (Statement (List ℕ))) (p : Program) (m : Machine) (disk : ℕ) → p ≡ lowered ss m.workers → IsWell ring_has 0 start ss → Proper p
    → ((has : Kernel → Bool) → IsJobIn has ss → All (λ l. IsTrue (is_known has l.codelet)) p.tasks) → All (λ l. All (FitsSigned w64) l.args) p.tasks
    → (1 ≤ m.workers) × (m.workers ≤ 64) → (1 ≤ length m.nodes) × (length m.nodes ≤ 16) → m.disks ≡ disk ∷ [] → HasSwapFor p m → IsRunnableOn out p m
run-of ss p m disk is well proper known arguments workers nodes disks swap =
    let one : length m.disks ≡ 1 = ap length disks in
    record {
      proper = proper;
      has = ring_has;
      lawful = record {
        known = known ring_has (record { well = well; own = refl });
        arguments = arguments;
        making = λ k h. out-makes_tiles k;
        commuting = ring_commuting;
        contributing = ring_contributing;
        reducing = ring_reducing;
      };
      machine = record {
        workers = sym (ap (λ (q : Program). q.workers) is);
        some_worker = workers.0;
        few_workers = workers.1;
        some_node = nodes.0;
        few_nodes = nodes.1;
        few_disks = omega (arith, one);
      };
      swap = swap;
    }
