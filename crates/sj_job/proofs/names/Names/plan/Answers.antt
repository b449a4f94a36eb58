use Rattle.std.proofs.Common.{◌∙◌, ◌+◌, ap, refl, rules}
use Rattle.std.proofs.Math.ListN.{set}
use Rattle.sj_job.specs.Names.{replanned}
use Rattle.sj_job.proofs.Seen.{shows_planned, at-standing}
use Rattle.sj_job.proofs.names.Names.plan.Goals as goal

pub returns-clause-names : goal.returns-clause-names
returns-clause-names c = λ n S h s.
    let sts = c.args.self.now.standings.items in
    let st = at-standing sts c.args.root.0 c.index_mut.result.now (search rules) (search rules) in
    record {
      statements = ap (λ m. m + 1) h.statements;
      shows = shows_planned c.args.self.now _ S c.args.root c.args.parts h.shows (record { roots = refl; standings = ap (set sts c.args.root.0) (c.plan.ensures ∙ ap (replanned c.args.parts) st); root = c.requires.root; below = search rules }) c.requires.counted s;
    }
