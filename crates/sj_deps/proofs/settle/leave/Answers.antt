use Rattle.std.proofs.Common.{◌≡◌, ◌-◌, ◌<◌, [], ℕ, List, sym, subst, arith, rules, slice_set}
use Rattle.std.proofs.lemmas.Grind.{common_steps}
use Rattle.sj_deps.specs.Counts.{CanSettle, Settles, CountsFit, cells_at}
use Rattle.sj_deps.proofs.Leaving.{can_settle, Fits-settled, Fits-still}
use Rattle.sj_deps.proofs.settle.leave.Goals as goal

pub settle-requires-clause-counts : goal.settle-requires-clause-counts
settle-requires-clause-counts c =
    let cells : c.items.result.now ≡ cells_at c.args.cells.now c.args.party = first_of (search rules, grind (arith, common_steps)) in
    subst (CanSettle c.args.chains.now.items c.args.waits.now.items) (sym cells) (can_settle c.args.left.now.items c.args.party c.requires.party c.requires.some c.args.chains.now.items c.args.cells.now c.args.waits.now.items c.requires.fits c.requires.free)

pub returns-then-rest-eq0-clause-fits : goal.returns-then-rest-eq0-clause-fits
returns-then-rest-eq0-clause-fits c =
    let cells : c.items.result.now ≡ cells_at c.args.cells.now c.args.party = first_of (search rules, grind (arith, common_steps)) in
    let zero : c.index.result.now - 1 ≡ 0 = omega arith in
    subst (λ v. CountsFit (slice_set c.args.left.now.items c.args.party v) c.settle.new.chains.items c.args.cells.now c.settle.new.waits.items) (sym zero) (Fits-settled c.args.left.now.items c.args.party c.requires.party c.requires.some c.args.chains.now.items c.args.cells.now c.args.waits.now.items c.requires.fits c.requires.free c.settle.new.chains.items c.settle.new.waits.items (subst (λ (cs : List ℕ). Settles c.args.chains.now.items c.settle.new.chains.items cs []) cells c.settle.ensures.chains) c.settle.ensures.settled)

pub returns-else-rest-eq0-clause-fits : goal.returns-else-rest-eq0-clause-fits
returns-else-rest-eq0-clause-fits c =
    let more : 0 < c.index.result.now - 1 = omega arith in
    Fits-still c.args.left.now.items c.args.party c.requires.party c.requires.some c.args.chains.now.items c.args.cells.now c.args.waits.now.items c.requires.fits c.requires.free (c.index.result.now - 1) more
