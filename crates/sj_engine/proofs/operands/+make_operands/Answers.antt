use Rattle.std.proofs.Common.{◌≡◌, ◌++◌, ◌∷◌, [], ◌+◌, ap, ◌∙◌, length, arith, rules}
use Rattle.std.proofs.lemmas.List.{length_push}
use Rattle.sj_codelet.specs.Slot.{slot_of}
use Rattle.sj_engine.specs.Operands.{IsSmall}
use Rattle.sj_engine.proofs.OperandLists.{count-before, operands-are, shared-before}
use Rattle.sj_engine.proofs.operands.+make_operands.Goals as goal
use Rattle.sj_base.proofs.Lists.{All-front}

pub make_operands-requires : goal.make_operands-requires
make_operands-requires t c =
    let before = c.in-Some.before.now in
    let last = c.in-Some.last.now in
    let p = c.args.program.now in
    let e : c.args.accesses.now ≡ before ++ last ∷ [] = search rules in
    let n : length c.args.accesses.now ≡ length before + 1 = ap length e ∙ length_push before last in
    let made = c.in_ok-operand.ensures.operand in
    let slot = slot_of c.in_ok-operand.operand in
    let old = c.args.frame.now.slots in
    let new = c.operand.new.shares.slots in (
      search rules,
      (
        All-front (IsSmall p) c.args.accesses.now before last e c.requires.small,
        (
          shared-before p c.args.accesses.now before last e old new slot made c.requires.count c.requires.shared,
          (count-before p c.args.accesses.now before last e old new slot made c.requires.count, omega (arith, n, c.requires.room, c.in_ok-operand.ensures.room)),
        ),
      ),
    )

pub returns-clause-slots : goal.returns-clause-slots
returns-clause-slots t c =
    let before = c.in-Some.before.now in
    let last = c.in-Some.last.now in
    let p = c.args.program.now in
    let e : c.args.accesses.now ≡ before ++ last ∷ [] = search rules in
    let made = c.in_ok-operand.ensures.operand in
    let slot = slot_of c.in_ok-operand.operand in
    operands-are p c.args.accesses.now before last e c.args.frame.now.slots c.operand.new.shares.slots slot made c.requires.count
    c.make_operands.new.frame.slots c.push.new.self.slots c.in_ok-make_operands.ensures.slots c.push.ensures.slots
