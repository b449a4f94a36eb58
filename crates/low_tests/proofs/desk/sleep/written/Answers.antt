use Rattle.std.proofs.Common.{◌∙◌, sym, subst, arith}
use Rattle.sj_desk.specs.Seats.{HasEachNumber}
use Rattle.sj_desk.proofs.Places.{each_number, lent_back}
use Rattle.low_tests.proofs.desk.sleep.written.Goals as goal

pub close-requires-clause-all_its_seats : goal.close-requires-clause-all_its_seats
close-requires-clause-all_its_seats g c =
    subst (HasEachNumber c.in_ok-desk.desk)
    (sym (lent_back c.in_ok-desk.seats.len c.keep_and_wait.new.seats c.in_ok-desk.seats.items (omega arith) (c.keep_and_wait.ensures.count ∙ sym c.in_ok-desk.ensures.count)))
    (each_number c.in_ok-desk.desk c.keep_and_wait.new.seats c.keep_and_wait.ensures)
