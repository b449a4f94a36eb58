use Rattle.std.proofs.lemmas.Result.{IfErr-weaker, on_ok_weaker}
use Rattle.sj_lower.proofs.Words.{IsFull}
use Rattle.sj_lower.proofs.{Coming.full-before, Coming.full-own, Coming.goes-whole, Coming.last-has, Coming.last-names, Coming.still-has, Steps.handed-on}
use Rattle.sj_lower.proofs.lower.LoweringProgress.add.Goals as goal

pub prepare-requires-clause-at : goal.prepare-requires-clause-at
prepare-requires-clause-at c = last-has c.args.roots.now c.args.self.now c.args.statement c.requires

pub prepare-requires-clause-actives : goal.prepare-requires-clause-actives
prepare-requires-clause-actives c = last-names c.args.roots.now c.args.self.now c.args.statement c.requires

pub returns-in_err-prepare-clause-full : goal.returns-in_err-prepare-clause-full
returns-in_err-prepare-clause-full c =
    let T = c.args.roots.now in
    let e = c.in_err-prepare.field-0.0 in
    handed-on c.from_residual.result e (IsFull T c.args.self.now c.args.statement) c.from_residual.ensures.1 (full-before T c.args.self.now c.args.statement e c.in_err-prepare.ensures.full)

pub add_own-requires : goal.add_own-requires
add_own-requires c = still-has c.args.roots.now c.args.self.now c.prepare.new.self c.args.statement c.in_ok-prepare.ensures.prepares c.requires

pub returns-clause-goes : goal.returns-clause-goes
returns-clause-goes c = on_ok_weaker c.add_own.result (goes-whole c.args.roots.now c.args.self.now c.prepare.new.self c.args.statement c.in_ok-prepare.ensures.prepares c.add_own.new.self) c.add_own.ensures.goes

pub returns-clause-full : goal.returns-clause-full
returns-clause-full c = IfErr-weaker c.add_own.result _ _ (full-own c.args.roots.now c.args.self.now c.prepare.new.self c.args.statement c.in_ok-prepare.ensures.prepares) c.add_own.ensures.full
