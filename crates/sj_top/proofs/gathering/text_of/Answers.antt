use Rattle.std.proofs.Common.{◌<◌, ◌≤◌, ℕ, ap, ◌∙◌, subst, sym, Result, Ok, Err, IfOk}
use Rattle.std.specs.Prelude.{AllPairs}
use Rattle.sj_base.specs.declared.program.Program.{Program}
use Rattle.sj_top.specs.Gathering.{IsShown, all_shown, array_found, prints_of}
use Rattle.sj_top.specs.Output.{output}
use Rattle.sj_lower.specs.Delivering.{deliveries_for}
use Rattle.sj_top.proofs.Handing.{dims-found, found-each, shown-by}
use Rattle.sj_top.proofs.gathering.text_of.Goals as goal

pub write_prints-requires-clause-shown : goal.write_prints-requires-clause-shown
write_prints-requires-clause-shown c =
    let p = c.args.program.now in
    let T = c.args.roots.now in
    let h = c.in_ok-handed.handed in
    let pairs = c.args.delivered.now.pairs in
    let found = found-each p h pairs c.in_ok-handed.ensures.pairs c.in_ok-handed.ensures.index c.requires.handed in
    let dims = dims-found p pairs (array_found h) c.requires.handed found in
    subst (λ (q : Program). (k : ℕ) → k < prints_of q → IsShown T (array_found h) (deliveries_for q k)) (sym c.in_ok-handed.ensures.program)
    (λ k below. shown-by T p k (array_found h) dims (c.requires.grouped.each k below))

pub write_prints-requires-clause-ascending : goal.write_prints-requires-clause-ascending
write_prints-requires-clause-ascending c =
    subst (λ (q : Program). AllPairs (λ d e. d.print ≤ e.print) q.deliveries) (sym c.in_ok-handed.ensures.program) c.requires.grouped.ascending

where-ok : {T E : Type 0} {P Q : T → Type 0} (r : Result T E) → IfOk r P → ((x : T) → P x → Q x) → IfOk r Q
where-ok (Ok x) h f = f x h
where-ok (Err e) h f = tt

pub returns : goal.returns
returns c =
    let p = c.args.program.now in
    let T = c.args.roots.now in
    let h = c.in_ok-handed.handed in
    let pairs = c.args.delivered.now.pairs in
    where-ok c.write_prints.result c.write_prints.ensures (λ text is. record {
      arrays = array_found h;
      among = found-each p h pairs c.in_ok-handed.ensures.pairs c.in_ok-handed.ensures.index c.requires.handed;
      text_is = is ∙ ap (λ (q : Program). output c.args.summary (all_shown T (array_found h) q)) c.in_ok-handed.ensures.program;
    })
