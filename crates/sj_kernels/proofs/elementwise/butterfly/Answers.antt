use Rattle.std.proofs.Common.{ℕ, ◌-ℤ◌, sym, ap, ◌∙◌, arith, rules}
use Rattle.sj_base.specs.Array.{at, each}
use Rattle.sj_codelet.specs.Ring.{wrap}
use Rattle.std.proofs.lemmas.Int.{wraps}
use Rattle.sj_codelet.proofs.Filling.{begun_none, begun_step, begun_read, each_from_begun}
use Rattle.sj_kernels.proofs.elementwise.butterfly.Goals as goal

pub loop-i-init : goal.loop-i-init
loop-i-init c = record { sums = begun_none _ _; differences = begun_none _ _ }

pub loop-i-preserved : goal.loop-i-preserved
loop-i-preserved c =
    let i = c.loop-i.i in
    let x = begun_read i _ c.args.x.now c.loop-i.x c.loop-i.invariant.sums c.loop-i-test.true in
    let y = begun_read i _ c.args.y.now c.loop-i.y c.loop-i.invariant.differences (omega arith) in
    record {
      sums = begun_step i _ c.args.x.now _ _ c.loop-i.invariant.sums c.loop-i-test.true (λ _. rw (x, y) (search (rules, wraps)));
      differences = begun_step i _ c.args.y.now _ _ c.loop-i.invariant.differences (omega arith) (λ _. rw (x, y) (search (rules, wraps)));
    }

pub returns : goal.returns
returns c = record {
  sums = each_from_begun _ _ _ _ c.loop-i-test.false c.loop-i.auto.i-end c.loop-i.invariant.sums;
  differences =
      each_from_begun _ _ c.args.y.now _ (omega arith) (omega arith) c.loop-i.invariant.differences
      ∙ ap (λ (n : ℕ). (each (record { rows = 1; cols = n }) (λ p. wrap (at c.args.x.now p -ℤ at c.args.y.now p))).elements) (sym c.requires);
}
