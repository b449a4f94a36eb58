use Rattle.std.proofs.Common.{ap, arith, ◌∙◌, [], ◌∷◌}
use Rattle.sj_steal.specs.declared.account.Account.{Account}
use Rattle.sj_steal.specs.Account.{times}
use Rattle.sj_steal.proofs.Accounts.{times_append}
use Rattle.sj_steal.proofs.lane.drain.Goals as goal

pub loop-preserved : goal.loop-preserved
loop-preserved g c =
    let inv = c.loop.invariant in
    let h = c.in-Some-take.ensures.some in
    let t = c.in-Some-take.t in
    record {
      of = c.take.ensures.of;
      parts = ap (λ (v : Account). v.parts) h ∙ inv.parts;
      put = ap (λ (v : Account). v.put) h ∙ inv.put;
      taken = λ x. omega (
        arith,
        ap (λ (v : Account). times x v.taken) h,
        times_append x c.loop.stake.account.taken (t ∷ []),
        ap (times x) c.in_ok-push.ensures.items,
        times_append x c.loop.left.items (t ∷ []),
        inv.taken x,
      );
    }

pub returns-in_default : goal.returns-in_default
returns-in_default g c = λ x. omega (arith, c.in_default.ensures.empty c.loop.invariant.parts x, c.loop.invariant.taken x, ap (times x) c.loop.invariant.put)
