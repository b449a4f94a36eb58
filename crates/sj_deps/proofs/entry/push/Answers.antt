use Rattle.std.proofs.Common.{◌≡◌, ◌+◌, ◌∙◌, ℕ, true, false, sym, ap, refl, subst, arith, rules, length, slice_set}
use Rattle.std.proofs.lemmas.Grind.{common_steps}
use Rattle.std.proofs.lemmas.List.{get_or_default}
use Rattle.std.proofs.lemmas.Bool.{cond-true, cond-false}
use Rattle.sj_deps.specs.declared.chain.Chain.{Chain}
use Rattle.sj_deps.specs.Chains.{no_chain, chain_at, party_at, waits_of, Pushes}
use Rattle.sj_deps.proofs.Pushing.{Begun-pushed, closed_at}
use Rattle.sj_deps.proofs.entry.push.Goals as goal

pub returns-in_ok-more-clause-begun : goal.returns-in_ok-more-clause-begun
returns-in_ok-more-clause-begun c =
    let chains = c.args.entered.now.chains.items in
    let waits = c.args.entered.now.waits.items in
    let at_index : c.index.result.now ≡ chain_at chains c.args.cell = c.index.ensures ∙ get_or_default chains c.args.cell _ no_chain c.requires.cell in
    let at_mut : c.index_mut.result.now ≡ chain_at chains c.args.cell = c.index_mut.ensures.value ∙ get_or_default chains c.args.cell _ no_chain c.requires.cell in
    let pushed : Pushes (chain_at chains c.args.cell) c.push.new.self c.args.member c.in_ok-at_once.at_once = subst (λ (ch : Chain). Pushes ch c.push.new.self c.args.member c.in_ok-at_once.at_once) at_mut c.in_ok-at_once.ensures in
    let no : c.in_ok-at_once.at_once ≡ false = first_of (search rules, grind (arith, common_steps)) in
    let more : c.in_ok-more.more ≡ waits_of waits c.args.member.party + 1 = first_of (search rules, grind (arith, common_steps)) in
    Begun-pushed c.args.entered.now _ c.args.member c.args.cell c.push.new.self c.in_ok-at_once.at_once c.requires.begun c.requires.cell c.requires.party pushed refl refl (ap (slice_set waits c.args.member.party) more ∙ sym (cond-false c.in_ok-at_once.at_once waits (slice_set waits c.args.member.party (waits_of waits c.args.member.party + 1)) no)) c.close_last.ensures.len c.close_last.ensures.kept (subst (λ (ch : Chain). (p : ℕ) → p + 1 ≡ length ch.members → closed_at c.close_last.new.is_closed.items (party_at ch.members p) ≡ true) at_index c.close_last.ensures.last)

pub returns-else-not-at_once-clause-begun : goal.returns-else-not-at_once-clause-begun
returns-else-not-at_once-clause-begun c =
    let chains = c.args.entered.now.chains.items in
    let waits = c.args.entered.now.waits.items in
    let at_index : c.index.result.now ≡ chain_at chains c.args.cell = c.index.ensures ∙ get_or_default chains c.args.cell _ no_chain c.requires.cell in
    let at_mut : c.index_mut.result.now ≡ chain_at chains c.args.cell = c.index_mut.ensures.value ∙ get_or_default chains c.args.cell _ no_chain c.requires.cell in
    let pushed : Pushes (chain_at chains c.args.cell) c.push.new.self c.args.member c.in_ok-at_once.at_once = subst (λ (ch : Chain). Pushes ch c.push.new.self c.args.member c.in_ok-at_once.at_once) at_mut c.in_ok-at_once.ensures in
    let yes : c.in_ok-at_once.at_once ≡ true = first_of (search rules, grind (arith, common_steps)) in
    Begun-pushed c.args.entered.now _ c.args.member c.args.cell c.push.new.self c.in_ok-at_once.at_once c.requires.begun c.requires.cell c.requires.party pushed refl refl (sym (cond-true c.in_ok-at_once.at_once waits (slice_set waits c.args.member.party (waits_of waits c.args.member.party + 1)) yes)) c.close_last.ensures.len c.close_last.ensures.kept (subst (λ (ch : Chain). (p : ℕ) → p + 1 ≡ length ch.members → closed_at c.close_last.new.is_closed.items (party_at ch.members p) ≡ true) at_index c.close_last.ensures.last)
