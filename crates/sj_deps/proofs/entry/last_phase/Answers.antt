use Rattle.std.proofs.Common.{◌≡◌, ◌-◌, ◌<◌, ◌∙◌, ap, length, arith, rules}
use Rattle.std.proofs.lemmas.Grind.{common_steps}
use Rattle.sj_deps.specs.declared.chain.Member.{Member}
use Rattle.sj_deps.specs.Chains.{member_at}
use Rattle.sj_deps.proofs.entry.last_phase.Goals as goal

pub returns-in-Contribute : goal.returns-in-Contribute
returns-in-Contribute c =
    let ms = c.args.chain.now.members in
    let some : 0 < length ms = first_of (search rules, grind (arith, common_steps)) in
    let here : member_at ms (length ms - 1) ≡ c.in_ok-last.last.now = first_of (search rules, grind (arith, common_steps)) in
    record {
      place = length ms - 1;
      last = omega arith;
      party = ap (λ (m : Member). m.party) here;
      manner = ap (λ (m : Member). m.manner) here ∙ c.in-Contribute.is;
    }
