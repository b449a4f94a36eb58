use Rattle.std.proofs.Common.{◌≡◌, ◌∙◌, sym, true}
use Rattle.sj_job.specs.Word.{is_space}
use Rattle.sj_job.proofs.Dividing.{words-before_blank, allowed-before_blank}
use Rattle.sj_job.proofs.line.trimmed.Goals as goal

pub loop-last-preserved : goal.loop-last-preserved
loop-last-preserved c =
    let blank : is_space c.in-Some.last.now ≡ true = sym c.is_space.ensures ∙ c.if-not-is_space.false in
    let at = c.in-Some.ensures.cases.0 in
    record {
      words = words-before_blank c.loop-last.rest.now c.in-Some.front.now c.in-Some.last.now at blank ∙ c.loop-last.invariant.words;
      allowed = allowed-before_blank c.loop-last.rest.now c.in-Some.front.now c.in-Some.last.now at blank ∙ c.loop-last.invariant.allowed;
    }
