use Rattle.std.proofs.Common.{refl}
use Rattle.std.proofs.lemmas.Bool.{true≢false}
use Rattle.sj_top.specs.declared.status.Status.TheVariants.{DiskFault}
use Rattle.sj_program.proofs.Endings.{line_behind, no_memory}
use Rattle.sj_program.proofs.running.end_without_swap.Goals as goal

pub returns-then-eq : goal.returns-then-eq
returns-then-eq g c =
    let ended = c.end_without_memory.ensures in
    record { ends_for_want_of_memory_or_of_a_disk = no_memory _ _ _ _ ended.ends_with_its_code ended.err_takes_its_line }

pub returns : goal.returns
returns g c = record {
  ends_for_want_of_memory_or_of_a_disk = record {
    status = DiskFault (record { 0 = 0 });
    cause = (refl, refl);
    is_its_code = c.end_with.ensures.ends_with_its_code;
    err_takes_its_line = line_behind _ _ _ _ _ (λ silent. absurd (true≢false silent)) c.write_remark.ensures.takes c.end_with.ensures.err_takes_its_line;
  };
}
