use Rattle.std.proofs.Common.{◌∙◌, ◌+◌, ap, refl, rules}
use Rattle.std.proofs.Math.ListN.{set}
use Rattle.sj_job.specs.Names.{reduced}
use Rattle.sj_job.proofs.Seen.{shows_reduced, at-standing}
use Rattle.sj_job.proofs.names.Names.reduce.Goals as goal

pub returns-clause-names : goal.returns-clause-names
returns-clause-names c = λ n S h.
    let sts = c.args.self.now.standings.items in
    let st = at-standing sts c.args.root.0 c.index_mut.result.now (search rules) (search rules) in
    record {
      statements = ap (λ m. m + 1) h.statements;
      shows = shows_reduced c.args.self.now _ S c.args.root c.args.by h.shows (record { roots = refl; standings = ap (set sts c.args.root.0) (c.reduce.ensures ∙ ap (reduced c.args.by) st); root = c.requires.root; below = search rules }) c.requires.counted;
    }
