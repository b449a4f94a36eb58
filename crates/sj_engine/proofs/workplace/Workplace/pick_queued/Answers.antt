use Rattle.std.proofs.Common.{Err, Ok, OnOk, Result, false, is_err, sym, take, ◌≡◌, ◌∙◌}
use Rattle.sj_engine.proofs.Numbers.{look-ends}
use Rattle.sj_engine.proofs.Sources.{stays-then}
use Rattle.sj_engine.proofs.workplace.Workplace.pick_queued.Goals as goal

pub returns-then-is_err-clause-stays : goal.returns-then-is_err-clause-stays
returns-then-is_err-clause-stays g c = stays-then c.args.ready.now c.try_numbers-picked.new.ready c.put_all.new.ready c.try_numbers-picked.ensures.stays c.put_all.ensures.stays

pub returns-clause-stays : goal.returns-clause-stays
returns-clause-stays g c = stays-then c.args.ready.now c.try_numbers-picked.new.ready c.put_all.new.ready c.try_numbers-picked.ensures.stays c.put_all.ensures.stays

unless-err : {A E P : Type 0} (r : Result A E) → is_err r ≡ false → OnOk r P → P
unless-err (Ok x) none p = p
unless-err (Err e) none p = absurd (cc)

pub returns-clause-numbers : goal.returns-clause-numbers
returns-clause-numbers g c = λ look. look-ends c.args.board.now c.args.ready.now (take c.try_numbers-picked.result.1 c.try_numbers-picked.new.held) c.try_numbers-picked.new.ready c.try_numbers-picked.result.0 c.put_all.new.ready
    (c.try_numbers-picked.ensures.numbers look) (unless-err c.put_all.result (sym c.is_err.ensures.value ∙ c.if-is_err.false) c.put_all.ensures.ok)
