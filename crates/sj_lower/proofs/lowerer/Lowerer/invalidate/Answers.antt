use Rattle.sj_lower.proofs.Words.{active_at, arith, even, false, refl, ◌∙◌, ◌≡◌}
use Rattle.std.proofs.Math.ListN.{set}
use Rattle.sj_lower.proofs.Following.{does-invalidate, at-default}
use Rattle.sj_lower.proofs.lowerer.Lowerer.invalidate.Goals as goal

pub returns-clause-does : goal.returns-clause-does
returns-clause-does c =
    let l = c.args.self.now in
    let i = c.args.root.0 in
    let next = c.requires.next.next in
    let is : c.index_mut.result.now ≡ active_at l.actives.items i = c.index_mut.ensures.value ∙ at-default l.actives.items i c.index_mut.result.now (omega (arith, next.placed, next.follows.actives.counted)) in
    does-invalidate c.args.roots.now l _ c.args.root c.args.line refl refl refl refl
    ((λ k. set l.actives.items i (record { tracked = c.invalidate.ensures k; first = c.index_mut.result.now.first; reduction = c.index_mut.result.now.reduction }))
    ∙ (λ k. set l.actives.items i (record { tracked = even (is k).tracked.parts false; first = (is k).first; reduction = (is k).reduction })))
