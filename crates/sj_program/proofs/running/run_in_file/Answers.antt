use Rattle.std.proofs.Common.{◌∙◌, Option, List, ℕ, ap, inl, inr, refl, subst}
use Rattle.std.proofs.lemmas.Bool.{false≢true}
use Rattle.std.specs.Prelude.{IsSome}
use Rattle.sj_top.specs.Device.{seen}
use Rattle.sj_program.proofs.Endings.{at_the_path, no_memory}
use Rattle.sj_program.proofs.running.run_in_file.Goals as goal

pub returns-in_default : goal.returns-in_default
returns-in_default g c =
    let ended = c.ended_without_memory.ensures in
    record { ends_as_wished = inr (inr (record { ends = no_memory _ _ _ _ ended.ends_with_its_code ended.err_takes_its_line; source_stays = refl; out_stays = ap (seen g.O.Sink.taken g.O.Sink.faults) ended.out_stays })) }

pub returns-in-Ok : goal.returns-in-Ok
returns-in-Ok g c = record {
  ends_as_wished = inr (inl (record {
    swap = _;
    is_wished = record {
      has_the_size = c.in-Ok.ensures.size ∙ c.requires.size_is_wished;
      tells_in_memory = λ none. absurd (false≢true (subst (λ (x : Option (List ℕ)). IsSome x) (c.requires.path_is_wished ∙ none) refl));
    };
    ends = c.run_with.ensures.ends_by_a_status_that_has_its_cause;
  }));
}

pub returns-in-Err : goal.returns-in-Err
returns-in-Err g c = record {
  ends_as_wished = inr (inr (record {
    ends = at_the_path _ _ _ _ _ c.requires.path_is_wished c.end_without_swap-code.ensures.ends_for_want_of_memory_or_of_a_disk;
    source_stays = refl;
    out_stays = refl;
  }));
}
