use Rattle.std.proofs.Common.{ap, inr, refl}
use Rattle.sj_top.specs.Device.{seen}
use Rattle.sj_program.proofs.Endings.{no_memory}
use Rattle.sj_program.proofs.running.run_words.Goals as goal

pub returns-in_default : goal.returns-in_default
returns-in_default g c =
    let ended = c.ended_without_memory.ensures in
    record { ends_as_wished = inr (inr (record { ends = no_memory _ _ _ _ ended.ends_with_its_code ended.err_takes_its_line; source_stays = refl; out_stays = ap (seen g.O.Sink.taken g.O.Sink.faults) ended.out_stays })) }
