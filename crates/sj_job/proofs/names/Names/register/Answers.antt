use Rattle.std.proofs.Common.{ap, ◌+◌, ◌∙◌, ◌∷◌, ◌++◌, [], length, arith, length-append}
use Rattle.sj_meaning.specs.Table.{Table}
use Rattle.sj_job.proofs.Seen.{shows_registered}
use Rattle.sj_job.proofs.names.Names.register.Goals as goal

pub returns-clause-names : goal.returns-clause-names
returns-clause-names c = λ n S h s.
    let name = c.args.name.now in
    let info = c.args.info in
    let init = c.args.init.now in
    let names = ap (λ (T : Table). length T.names) c.in_ok-add.ensures.added in
    record {
      statements = ap (λ m. m + 1) h.statements;
      shows = shows_registered c.args.self.now _ S name info init s h.shows c.requires.fresh c.add.ensures.whole
          c.in_ok-add.ensures.added (c.in_ok-push.ensures.items ∙ ap (λ st. c.args.self.now.standings.items ++ st ∷ []) c.first_standing.ensures)
          (omega (arith, c.in_ok-push.ensures.len, names, length-append c.args.self.now.roots.names (name ∷ []), c.requires.counted));
    }
