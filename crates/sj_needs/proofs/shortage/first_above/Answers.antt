use Rattle.std.proofs.Common.{◌≡◌, ℕ, Bool, true, false, nat_lt, drop, find, length, ap, sym, ◌∙◌, arith}
use Rattle.std.proofs.lemmas.Bool.Decides.{nat_tests}
use Rattle.sj_base.specs.declared.ids.Task.{Task}
use Rattle.sj_core.specs.Needs.{footprint}
use Rattle.sj_core.specs.Program.{tasks_of}
use Rattle.sj_needs.proofs.Tasks.{finds-next, finds-none, finds-this}
use Rattle.sj_needs.proofs.shortage.first_above.Goals as goal

pub returns-then-room-bytes_of-clause-first : goal.returns-then-room-bytes_of-clause-first
returns-then-room-bytes_of-clause-first c =
    let p = c.args.program.now in
    let test : Task → Bool = λ t. nat_lt c.args.room (footprint p t) in
    let i = c.loop-i.i in
    let found : test (record { 0 = i }) ≡ true = grind (arith, nat_tests, c.bytes_of.ensures, c.if-room-bytes_of.true) in
    sym (finds-this p test i (omega (arith, c.loop-i-test.true, c.len-i-end.ensures)) found) ∙ c.loop-i.invariant

pub loop-i-preserved : goal.loop-i-preserved
loop-i-preserved c =
    let p = c.args.program.now in
    let test : Task → Bool = λ t. nat_lt c.args.room (footprint p t) in
    let i = c.loop-i.i in
    let passed : test (record { 0 = i }) ≡ false = grind (arith, nat_tests, c.bytes_of.ensures, c.if-room-bytes_of.false) in
    sym (finds-next p test i (omega (arith, c.loop-i-test.true, c.len-i-end.ensures)) passed) ∙ c.loop-i.invariant

pub returns-clause-first : goal.returns-clause-first
returns-clause-first c =
    let p = c.args.program.now in
    let test : Task → Bool = λ t. nat_lt c.args.room (footprint p t) in
    let past : c.loop-i.i ≡ length p.tasks = omega (arith, c.loop-i-test.false, c.len-i-end.ensures, c.loop-i.auto.i-end) in
    sym (finds-none p test) ∙ ap (λ (n : ℕ). find test (drop n (tasks_of p))) (sym past) ∙ c.loop-i.invariant
