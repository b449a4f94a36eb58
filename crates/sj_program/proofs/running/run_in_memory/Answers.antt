use Rattle.std.proofs.Common.{◌∙◌, ap, inl, inr, refl}
use Rattle.sj_top.specs.Device.{seen}
use Rattle.sj_program.proofs.Endings.{no_memory}
use Rattle.sj_program.proofs.running.run_in_memory.Goals as goal

pub returns-in_default : goal.returns-in_default
returns-in_default g c =
    let ended = c.ended_without_memory.ensures in
    record { ends_as_wished = inr (inr (record { ends = no_memory _ _ _ _ ended.ends_with_its_code ended.err_takes_its_line; source_stays = refl; out_stays = ap (seen g.O.Sink.taken g.O.Sink.faults) ended.out_stays })) }

pub returns-in_default-memory_disk : goal.returns-in_default-memory_disk
returns-in_default-memory_disk g c =
    let ended = c.ended_without_memory-in_default-memory_disk.ensures in
    record { ends_as_wished = inr (inr (record { ends = no_memory _ _ _ _ ended.ends_with_its_code ended.err_takes_its_line; source_stays = refl; out_stays = ap (seen g.O.Sink.taken g.O.Sink.faults) ended.out_stays })) }

pub returns : goal.returns
returns g c = record {
  ends_as_wished = inl (record {
    swap = _;
    is_wished = record { has_the_size = c.in-Some-memory_disk.ensures.size ∙ c.requires.size_is_wished; tells_in_memory = λ none. c.in-Some-memory_disk.ensures.tells };
    ends = c.run_with.ensures.ends_by_a_status_that_has_its_cause;
  });
}
