use Rattle.std.proofs.Common.{◌≤◌, ℕ, ◌<◌, ◌^◌, arith, decimal, drop, length}
use Rattle.std.proofs.lemmas.Fmt.{length-decimal-le}
use Rattle.sj_trace.proofs.Writing.{word-written}
use Rattle.sj_trace.proofs.text.write_word.Goals as goal

short : (n : ℕ) → n < 2 ^ 32 → length (decimal n) ≤ 10
short n lt = length-decimal-le 10 n (omega arith) (omega arith) (omega arith)

pub write_digits-start-requires : goal.write_digits-start-requires
write_digits-start-requires c = (omega (arith, short c.args.number c.ranges.number.fits, c.requires.room), c.requires.end)

pub overflow_sub-line : goal.overflow_sub-line
overflow_sub-line c = omega (arith, short c.args.number c.ranges.number.fits, c.requires.room, c.write_digits-start.ensures.start)

pub overflow_sub-line-2 : goal.overflow_sub-line-2
overflow_sub-line-2 c = omega (arith, short c.args.number c.ranges.number.fits, c.requires.room, c.write_digits-start.ensures.start)

pub overflow_sub-result : goal.overflow_sub-result
overflow_sub-result c = omega (arith, short c.args.number c.ranges.number.fits, c.requires.room, c.write_digits-start.ensures.start)

pub returns-clause-start : goal.returns-clause-start
returns-clause-start c = omega (arith, short c.args.number c.ranges.number.fits, c.requires.room, c.write_digits-start.ensures.start)

pub returns-clause-written : goal.returns-clause-written
returns-clause-written c =
    let start = c.write_digits-start.result in
    let room : 2 ≤ start = omega (arith, short c.args.number c.ranges.number.fits, c.requires.room, c.write_digits-start.ensures.start) in
    let within : start ≤ length c.write_digits-start.new.buf = omega (arith, c.write_digits-start.ensures.start, c.requires.end, c.write_digits-start.auto.buf) in
    word-written c.write_digits-start.new.buf (decimal c.args.number) (drop c.args.end c.args.line.now) start c.args.letter room within c.write_digits-start.ensures.written
