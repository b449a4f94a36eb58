use Rattle.std.proofs.Common.{◌≡◌, ℕ, subst, length, arith, rules}
use Rattle.std.proofs.lemmas.Grind.{common_steps}
use Rattle.sj_deps.specs.declared.manner.Manner.TheVariants.{Contribute}
use Rattle.sj_deps.specs.Chains.{member}
use Rattle.sj_deps.specs.Counts.{Appends}
use Rattle.sj_deps.proofs.Appending.{on_ok}
use Rattle.sj_deps.proofs.entry.open.Goals as goal

pub returns-clause-opens : goal.returns-clause-opens
returns-clause-opens c =
    let party : c.len-party.result ≡ length c.args.entered.now.tasks.items = first_of (search rules, grind (arith, common_steps)) in
    on_ok c.append.result _ _ (λ app. record { between = c.add_party.new.entered; adds = c.in_ok-add_party.ensures.adds; appends = subst (λ (n : ℕ). Appends c.add_party.new.entered c.append.new.entered (member n Contribute) c.args.first c.args.count) party app }) c.append.ensures.appended
