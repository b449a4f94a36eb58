use Rattle.std.proofs.Common.{◌≡◌, ◌+◌, ◌∷◌, ◌∙◌, ap, sym, subst, get_or, drop}
use Rattle.std.proofs.lemmas.List.{get_or_default}
use Rattle.sj_base.specs.declared.mode.Mode.TheVariants.{R}
use Rattle.sj_meaning.specs.declared.job.Operand.{Operand as Access}
use Rattle.sj_meaning.specs.Table.{Table, IsRoot}
use Rattle.sj_job.specs.declared.names.RootStanding.TheVariants.{Ended}
use Rattle.sj_job.specs.Names.{IsPlaceIn, plan_in}
use Rattle.sj_job.proofs.Each.{begins}
use Rattle.sj_job.proofs.Seen.{written_more, counted-once, plan-written, below-length}
use Rattle.sj_job.proofs.names.Names.write_all.Goals as goal

abbrev no_operand : Access
no_operand = record { root = record { 0 = 0 }; place = (0, 0); mode = R }

pub write-requires-clause-root : goal.write-requires-clause-root
write-requires-clause-root c =
    subst (λ (T : Table). IsRoot T (get_or c.args.operands.now c.loop-operand.operand-index no_operand).root) (sym c.loop-operand.invariant.rooted)
    (c.requires.roots c.loop-operand.operand-index no_operand c.loop-operand-test.true)

pub write-requires-clause-place : goal.write-requires-clause-place
write-requires-clause-place c =
    let o = get_or c.args.operands.now c.loop-operand.operand-index no_operand in
    subst (λ p. IsPlaceIn p o.place) (sym (c.loop-operand.invariant.plans o.root.0))
    (c.requires.places c.loop-operand.operand-index no_operand c.loop-operand-test.true)

pub loop-operand-preserved : goal.loop-operand-preserved
loop-operand-preserved c =
    let now = c.loop-operand.self in
    let i = c.loop-operand.operand-index in
    let os = c.args.operands.now in
    let o = get_or os i no_operand in
    let root : IsRoot now.roots o.root = subst (λ (T : Table). IsRoot T o.root) (sym c.loop-operand.invariant.rooted) (c.requires.roots i no_operand c.loop-operand-test.true) in
    let rest : drop i os ≡ o ∷ drop (i + 1) os = begins os i o c.loop-operand-test.true (get_or_default os i o no_operand c.loop-operand-test.true) in
    let done = c.in_ok-write.ensures in
    record {
      counted = done.count ∙ c.loop-operand.invariant.counted;
      rooted = done.roots ∙ c.loop-operand.invariant.rooted;
      standing = counted-once now c.write.new.self o c.loop-operand.invariant.standing done.roots done.standings;
      plans = λ n. ap (λ sts. plan_in (get_or sts n Ended)) done.standings ∙ plan-written o now.standings.items n (below-length now o.root c.loop-operand.invariant.standing root) ∙ c.loop-operand.invariant.plans n;
      standings = written_more os i o now.standings.items c.write.new.self.standings.items rest done.standings ∙ c.loop-operand.invariant.standings;
    }
