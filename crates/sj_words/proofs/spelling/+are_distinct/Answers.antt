use Rattle.std.proofs.Common.{◌∙◌, ◌&&◌, ap, not, map}
use Rattle.sj_words.specs.Steps.{are_distinct}
use Rattle.sj_words.proofs.Spelled.{distinct_more}
use Rattle.sj_words.proofs.spelling.+are_distinct.Goals as goal

pub returns-then-not-stands_among : goal.returns-then-not-stands_among
returns-then-not-stands_among t c =
    c.are_distinct.ensures ∙ ap (λ b. not b && are_distinct (map (λ n. n.now) c.in-Some.rest.now)) c.if-not-stands_among.ensures
    ∙ distinct_more c.in-Some.name.now c.args.names.now c.in-Some.rest.now c.in-Some.ensures.cases.0

pub returns-else-not-stands_among : goal.returns-else-not-stands_among
returns-else-not-stands_among t c =
    ap not c.if-not-stands_among.false ∙ ap (λ b. not b && are_distinct (map (λ n. n.now) c.in-Some.rest.now)) c.if-not-stands_among.ensures
    ∙ distinct_more c.in-Some.name.now c.args.names.now c.in-Some.rest.now c.in-Some.ensures.cases.0
