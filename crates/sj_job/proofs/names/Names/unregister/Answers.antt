use Rattle.std.proofs.Common.{ap, ◌+◌, refl, rules}
use Rattle.sj_job.proofs.Seen.{shows_ended}
use Rattle.sj_job.proofs.names.Names.unregister.Goals as goal

pub returns-clause-names : goal.returns-clause-names
returns-clause-names c = λ n S h. record {
  statements = ap (λ m. m + 1) h.statements;
  shows = shows_ended c.args.self.now _ S c.args.root h.shows (record { roots = refl; standings = refl; root = c.requires.root; below = search rules }) c.requires.counted;
}
