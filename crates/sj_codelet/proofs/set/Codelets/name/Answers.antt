use Rattle.std.proofs.Common.{◌≡◌, Some, sym, ◌∙◌}
use Rattle.sj_codelet.specs.Kernel.{kernel_name, named_in}
use Rattle.sj_codelet.proofs.Names.{if_some_of, named_by_own}
use Rattle.sj_codelet.proofs.set.Codelets.name.Goals as goal

pub returns-in-Some-clause-found_by_it : goal.returns-in-Some-clause-found_by_it
returns-in-Some-clause-found_by_it g c =
    let k = c.in-Some.kernel in
    let has = g.Self.Codelets.has in
    if_some_of (λ n. n.now) c.name.result (kernel_name k) (λ n. named_in has n ≡ Some c.args.id) c.name.ensures (λ n own. named_by_own has c.args.id k n (sym c.of.ensures ∙ c.in-Some.is) (sym c.knows.ensures ∙ c.if-knows.true) own)
