use Rattle.std.proofs.Common.{◌≡◌, ℕ, ◌+◌, ℤ, pos, FitsSigned, ◌+ℤ◌, ◌*ℤ◌, w64, sym, ap, ◌∙◌, rules, to_z, of_z}
use Rattle.std.proofs.lemmas.Int.{wraps, to_z-of_z, int_wrap_fits, int_wrap-add_left}
use Rattle.sj_codelet.specs.Ring.{wrap}
use Rattle.sj_codelet.specs.Equations.{vector, fill}
use Rattle.sj_codelet.proofs.Integers.{int_linear_more, int_mul-zero, int_add-zero}
use Rattle.sj_codelet.proofs.Filling.{begun_none, begun_step, each_from_begun}
use Rattle.sj_kernels.proofs.elementwise.fill.Goals as goal

begins : (a b : ℤ) → FitsSigned w64 a → to_z w64 (of_z w64 a) ≡ wrap (to_z w64 (of_z w64 a) +ℤ (to_z w64 (of_z w64 b) *ℤ pos 0))
begins a b fits =
    let z = to_z w64 (of_z w64 b) in
    let same = to_z-of_z w64 a fits in
    same ∙ sym (ap (λ (y : ℤ). wrap (y +ℤ (z *ℤ pos 0))) same ∙ ap (λ (y : ℤ). wrap (a +ℤ y)) (int_mul-zero z) ∙ ap (λ (y : ℤ). wrap y) (int_add-zero a) ∙ int_wrap_fits w64 a fits)

int_wrap_step : (v a b : ℤ) (i : ℕ) → v ≡ wrap (a +ℤ (b *ℤ pos i)) → wrap (v +ℤ b) ≡ wrap (a +ℤ (b *ℤ pos (i + 1)))
int_wrap_step v a b i e = ap (λ (y : ℤ). wrap (y +ℤ b)) e ∙ int_wrap-add_left w64 (a +ℤ (b *ℤ pos i)) b ∙ ap (λ (y : ℤ). wrap y) (int_linear_more a b i)

pub loop-i-init : goal.loop-i-init
loop-i-init c = record { value = begins c.args.a c.args.b c.ranges.a; done = begun_none _ _ }

pub loop-i-preserved : goal.loop-i-preserved
loop-i-preserved c = record {
  value = search (rules, wraps) ∙ int_wrap_step (to_z w64 c.loop-i.value-bits) (to_z w64 (of_z w64 c.args.a)) (to_z w64 (of_z w64 c.args.b)) c.loop-i.i c.loop-i.invariant.value;
  done = begun_step _ _ _ _ _ c.loop-i.invariant.done c.loop-i-test.true (λ _. c.loop-i.invariant.value);
}

pub returns : goal.returns
returns c = each_from_begun _ _ _ _ c.loop-i-test.false c.loop-i.auto.i-end c.loop-i.invariant.done
    ∙ ap (λ (a : ℤ). (fill a (to_z w64 (of_z w64 c.args.b)) (vector c.args.x.now)).elements) (to_z-of_z w64 c.args.a c.ranges.a)
    ∙ ap (λ (b : ℤ). (fill c.args.a b (vector c.args.x.now)).elements) (to_z-of_z w64 c.args.b c.ranges.b)
