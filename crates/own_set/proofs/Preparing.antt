-- A job that was read and lowered, whose program the set has the codelets of and the machine the room for, is ready to be run.
use Rattle.std.proofs.Common.{◌≡◌, ◌≤◌, ℕ, List, Result, Ok, All, length, ap, subst, sym, ◌∙◌, arith}
use Rattle.std.specs.Prelude.{FitsSigned, IsOkAnd}
use Rattle.std.specs.Int.{w64}
use Rattle.sj_base.specs.declared.program.Machine.{Machine}
use Rattle.sj_base.specs.declared.program.Program.{Program}
use Rattle.sj_codelet.proofs.NewArrays.{out-makes_tiles}
use Rattle.sj_core.specs.Needs.{AreFootprints}
use Rattle.sj_core.specs.Proper.{HasSwapFor, IsMachineFor, Proper}
use Rattle.sj_meaning.specs.Job.{Job}
use Rattle.sj_job.specs.Reading.{Refusal}
use Rattle.own_set.specs.declared.SetRun.{SetRun}
use Rattle.own_set.specs.NotRun.{IsSetRun}
use Rattle.own_set.specs.Turns.{HasCodelets, small_program, small_machine, turns_commuting, turns_contributing, turns_reducing}

abbrev HasFittingArguments : Program → Type 0
HasFittingArguments p = All (λ l. All (FitsSigned w64) l.args) p.tasks

pub ready-by : (job : Result Job Refusal) (j : Job) (p : Program) (disks : List ℕ) (r : SetRun) → job ≡ Ok j → p ≡ small_program j.statements → r.program.value ≡ p → r.machine ≡ small_machine disks
    → Proper p → HasCodelets p → All (λ l. All (FitsSigned w64) l.args) p.tasks → length disks ≤ 16 → HasSwapFor p r.machine → AreFootprints p r.footprints.items → IsSetRun job disks r
ready-by job j p disks r read is same on proper known arguments few swap listed =
    let workers : r.program.value.workers ≡ 2 = ap (λ (q : Program). q.workers) (same ∙ is) in
    record {
      program = subst (λ (o : Result Job Refusal). IsOkAnd o (λ i. r.program.value ≡ small_program i.statements)) (sym read) (same ∙ is);
      machine = on;
      proper = subst Proper (sym same) proper;
      lawful = record {
        known = subst HasCodelets (sym same) known;
        arguments = subst HasFittingArguments (sym same) arguments;
        making = λ k h. out-makes_tiles k;
        commuting = turns_commuting;
        contributing = turns_contributing;
        reducing = turns_reducing;
      };
      machine_for = subst (λ (n : Machine). IsMachineFor r.program.value n) (sym on) (record {
        workers = sym workers;
        some_worker = omega arith;
        few_workers = omega arith;
        some_node = omega arith;
        few_nodes = omega arith;
        few_disks = few;
      });
      swap = subst (λ (q : Program). HasSwapFor q r.machine) (sym same) swap;
      footprints = subst (λ (q : Program). AreFootprints q r.footprints.items) (sym same) listed;
    }
