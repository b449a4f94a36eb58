use Rattle.std.proofs.lemmas.List.{length-take-le}
use Rattle.std.proofs.Common.{◌<◌, ◌∙◌, ap, arith, inl, inr, length-set, sym, subst, take}
use Rattle.std.specs.Prelude.{IsTrue, is_some}
use Rattle.sj_board.specs.Board.{BoardState}
use Rattle.sj_board.specs.BoardRow.{BoardKey}
use Rattle.sj_engine.specs.Picking.{AfterClaim, PickMakes}
use Rattle.sj_engine.specs.Stage.{IsFreeRow, row_in}
use Rattle.sj_engine.specs.Turn.{IsTurnOf, NothingHappens}
use Rattle.sj_engine.proofs.ClaimTurns.{picks-then}
use Rattle.sj_engine.proofs.Looking.{cannot-same, left-same, length-taken, none-same, passed-more, pool-again, some-left}
use Rattle.sj_engine.proofs.Turning.{turn-then}
use Rattle.sj_engine.proofs.shared_board.SharedBoard.claim_some.Goals as goal

pub returns-in_default : goal.returns-in_default
returns-in_default g c = record {
  turn = turn-then g.D.Disk.faults g.D.Disk.mismatches c.args.w c.args.self.now c.loop-i.self c.give_next.new.self c.loop-i.invariant.nothing c.loop-i.invariant.turn c.give_next.ensures.turn;
  row = c.in_default.ensures.none;
  event = c.give_next.ensures.no_event ∙ c.loop-i.invariant.nothing;
  failed = λ e. absurd (cc);
  looked = λ e. record {
    passed = (take c.loop-i.i c.loop-i.passed);
    each = c.loop-i.invariant.passed;
    few = omega (arith, length-take-le c.loop-i.i c.loop-i.passed (omega (arith, c.loop-i.invariant.long, c.loop-i-test.true, c.tries_after-tries.ensures.few)), c.loop-i-test.true, c.tries_after-tries.ensures.few);
    enough = inr (none-same c.args.w c.args.self.now c.loop-i.self c.loop-i.invariant.turn.key c.loop-i.invariant.pool (take c.loop-i.i c.loop-i.passed) (c.give_next.ensures.none_left c.in_default.is));
  };
}

pub returns-in_default-claim_given : goal.returns-in_default-claim_given
returns-in_default-claim_given g c =
    let same = sym c.note_found.ensures in
    let nothing = c.give_next.ensures.no_event ∙ c.loop-i.invariant.nothing in
    record {
      turn = subst (λ (b : BoardState g.row.D.Denot). IsTurnOf g.D.Disk.faults g.D.Disk.mismatches c.args.w c.args.self.now b) same (turn-then g.D.Disk.faults g.D.Disk.mismatches c.args.w c.args.self.now c.give_next.new.self c.claim_given.new.self nothing (turn-then g.D.Disk.faults g.D.Disk.mismatches c.args.w c.args.self.now c.loop-i.self c.give_next.new.self c.loop-i.invariant.nothing c.loop-i.invariant.turn c.give_next.ensures.turn) c.claim_given.ensures.turn);
      row = subst (λ (b : BoardState g.row.D.Denot). AfterClaim c.args.w (row_in b c.args.w) c.claim_given.result) same c.claim_given.ensures.row;
      event = subst (λ (b : BoardState g.row.D.Denot). PickMakes c.args.w c.args.self.now b c.claim_given.result) same (picks-then c.args.w c.args.self.now c.give_next.new.self c.claim_given.new.self c.claim_given.result nothing c.claim_given.ensures.event);
      failed = λ e. subst (λ (b : BoardState g.row.D.Denot). IsTrue (is_some b.fault)) same (c.claim_given.ensures.failed e);
      looked = λ e. absurd (c.in_default-claim_given.not-Nothing e);
    }

pub loop-i-preserved : goal.loop-i-preserved
loop-i-preserved g c = record {
  turn = turn-then g.D.Disk.faults g.D.Disk.mismatches c.args.w c.args.self.now c.give_next.new.self c.claim_given.new.self (c.give_next.ensures.no_event ∙ c.loop-i.invariant.nothing) (turn-then g.D.Disk.faults g.D.Disk.mismatches c.args.w c.args.self.now c.loop-i.self c.give_next.new.self c.loop-i.invariant.nothing c.loop-i.invariant.turn c.give_next.ensures.turn) c.claim_given.ensures.turn;
  worker = subst (λ (k : BoardKey g.row.D.Denot). c.args.w.0 < k.program.workers) (sym (c.claim_given.ensures.turn.key ∙ c.give_next.ensures.turn.key)) c.loop-i.invariant.worker;
  free = subst (AfterClaim c.args.w (row_in c.claim_given.new.self c.args.w)) c.in-Nothing.is c.claim_given.ensures.row;
  no_fault = c.claim_given.ensures.no_fault c.in-Nothing.is;
  nothing = subst (PickMakes c.args.w c.give_next.new.self c.claim_given.new.self) c.in-Nothing.is c.claim_given.ensures.event ∙ c.give_next.ensures.no_event ∙ c.loop-i.invariant.nothing;
  pool = pool-again c.args.self.now c.loop-i.self c.give_next.new.self c.claim_given.new.self c.give_next.result c.in-Some.t c.in-Some.is c.loop-i.invariant.pool c.give_next.ensures.lost (c.claim_given.ensures.back c.in-Nothing.is);
  long = length-set c.loop-i.passed c.loop-i.i c.in-Some.t ∙ c.loop-i.invariant.long;
  passed =
      passed-more c.args.w c.args.self.now c.loop-i.passed c.loop-i.i c.in-Some.t (omega (arith, c.loop-i.invariant.long, c.loop-i-test.true, c.tries_after-tries.ensures.few)) c.loop-i.invariant.passed
      (record {
        left = left-same c.args.w c.args.self.now c.loop-i.self c.loop-i.invariant.turn.key c.loop-i.invariant.pool (take c.loop-i.i c.loop-i.passed) c.in-Some.t (some-left c.loop-i.self c.args.w (take c.loop-i.i c.loop-i.passed) c.give_next.result c.in-Some.t c.in-Some.is c.give_next.ensures.left);
        cannot = cannot-same c.args.w c.args.self.now c.give_next.new.self (c.give_next.ensures.turn.key ∙ c.loop-i.invariant.turn.key) (c.give_next.ensures.no_event ∙ c.loop-i.invariant.nothing) c.in-Some.t (c.claim_given.ensures.cannot c.in-Nothing.is);
      });
}

pub returns : goal.returns
returns g c = record {
  turn = subst (λ (b : BoardState g.row.D.Denot). IsTurnOf g.D.Disk.faults g.D.Disk.mismatches c.args.w c.args.self.now b) (sym c.note_miss.ensures) c.loop-i.invariant.turn;
  row = subst (λ (b : BoardState g.row.D.Denot). IsFreeRow (row_in b c.args.w)) (sym c.note_miss.ensures) c.loop-i.invariant.free;
  event = subst (λ (b : BoardState g.row.D.Denot). NothingHappens c.args.self.now b) (sym c.note_miss.ensures) c.loop-i.invariant.nothing;
  failed = λ e. absurd (cc);
  looked = λ e. record {
    passed = (take c.loop-i.i c.loop-i.passed);
    each = c.loop-i.invariant.passed;
    few = omega (arith, length-taken c.loop-i.passed c.loop-i.i c.tries_after-tries.result c.loop-i.invariant.long c.tries_after-tries.ensures.few (omega (arith, c.loop-i-test.false, c.loop-i.auto.i-end)), c.tries_after-tries.ensures.few);
    enough = inl (omega (arith, length-taken c.loop-i.passed c.loop-i.i c.tries_after-tries.result c.loop-i.invariant.long c.tries_after-tries.ensures.few (omega (arith, c.loop-i-test.false, c.loop-i.auto.i-end)), c.tries_after-tries.ensures.enough));
  };
}

pub give_next-requires : goal.give_next-requires
give_next-requires g c = record { worker = c.loop-i.invariant.worker; by_urgency = ap (λ (k : BoardKey g.row.D.Denot). k.machine.policy) c.loop-i.invariant.turn.key ∙ c.requires.by_urgency; free = c.loop-i.invariant.free }

pub claim_given-requires-clause-worker : goal.claim_given-requires-clause-worker
claim_given-requires-clause-worker g c = subst (λ (k : BoardKey g.row.D.Denot). c.args.w.0 < k.program.workers) (sym c.give_next.ensures.turn.key) c.loop-i.invariant.worker

pub claim_given-requires-clause-no_fault : goal.claim_given-requires-clause-no_fault
claim_given-requires-clause-no_fault g c = c.give_next.ensures.fault ∙ c.loop-i.invariant.no_fault

pub claim_given-requires-clause-by_urgency : goal.claim_given-requires-clause-by_urgency
claim_given-requires-clause-by_urgency g c = ap (λ (k : BoardKey g.row.D.Denot). k.machine.policy) (c.give_next.ensures.turn.key ∙ c.loop-i.invariant.turn.key) ∙ c.requires.by_urgency
