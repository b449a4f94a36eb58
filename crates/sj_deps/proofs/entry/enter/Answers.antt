use Rattle.std.proofs.Common.{◌≡◌, ◌∙◌, sym, ap, true, false}
use Rattle.std.proofs.lemmas.List.{get_or_default}
use Rattle.sj_deps.specs.declared.chain.Chain.{Chain}
use Rattle.sj_deps.specs.Chains.{no_chain, chain_at, members_at}
use Rattle.sj_deps.specs.Counts.{ends_with_party}
use Rattle.sj_deps.proofs.Appending.{on_ok}
use Rattle.sj_deps.proofs.Entering.{Entering-skip, Entering-own}
use Rattle.sj_deps.proofs.entry.enter.Goals as goal

pub returns-then-ends_with_party-clause-entered : goal.returns-then-ends_with_party-clause-entered
returns-then-ends_with_party-clause-entered c =
    let at_cell : c.index.result.now ≡ chain_at c.args.entered.now.chains.items c.args.cell = c.index.ensures ∙ get_or_default c.args.entered.now.chains.items c.args.cell _ no_chain c.requires.cell in
    let ends : ends_with_party (members_at c.args.entered.now.chains.items c.args.cell) c.args.t ≡ true = ap (λ (ch : Chain). ends_with_party ch.members c.args.t) (sym at_cell) ∙ sym c.ends_with_party.ensures ∙ c.if-ends_with_party.true in
    λ P us deps task uses plain entering. Entering-skip P deps c.args.t task us c.args.entered.now entering c.args.manner c.args.cell uses plain ends

pub returns-clause-entered : goal.returns-clause-entered
returns-clause-entered c =
    let at_cell : c.index.result.now ≡ chain_at c.args.entered.now.chains.items c.args.cell = c.index.ensures ∙ get_or_default c.args.entered.now.chains.items c.args.cell _ no_chain c.requires.cell in
    let ends : ends_with_party (members_at c.args.entered.now.chains.items c.args.cell) c.args.t ≡ false = ap (λ (ch : Chain). ends_with_party ch.members c.args.t) (sym at_cell) ∙ sym c.ends_with_party.ensures ∙ c.if-ends_with_party.false in
    on_ok c.append.result _ _ (λ app P us deps task uses plain entering. Entering-own P deps c.args.t task us c.args.entered.now entering c.args.manner c.args.cell uses plain c.append.new.entered ends c.requires.listed app) c.append.ensures.appended
