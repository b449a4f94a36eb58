use Rattle.std.proofs.Common.{rules, ◌≡◌, false, is_some, subst, sym}
use Rattle.std.specs.List.{list_any}
use Rattle.sj_engine.proofs.Sleeping.{quiet-left, quiet-woken}
use Rattle.sj_engine.proofs.sleepers.Sleepers.pass.Goals as goal

pub returns-then-not-self-clause-woken : goal.returns-then-not-self-clause-woken
returns-then-not-self-clause-woken c =
    let quiet : c.self.inside.somebody ≡ false = search rules in
    sym (quiet-woken c.args.w.0 c.args.is_over c.args.gives_way c.args.leaves c.args.self.now (subst (λ l. list_any is_some l ≡ false) c.self.view_is (c.self.invariant quiet)))

pub returns-then-not-self-clause-noted : goal.returns-then-not-self-clause-noted
returns-then-not-self-clause-noted c =
    let quiet : c.self.inside.somebody ≡ false = search rules in
    sym (quiet-left c.args.w.0 c.args.is_over c.args.gives_way c.args.leaves c.args.self.now (subst (λ l. list_any is_some l ≡ false) c.self.view_is (c.self.invariant quiet)))
