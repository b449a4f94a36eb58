use Rattle.std.proofs.Common.{◌∙◌, ap, map, sym, option_map, Bor}
use Rattle.std.proofs.lemmas.Result.{IfErr-weaker, IfOk-weaker}
use Rattle.sj_words.specs.Spelling.{Text, texts}
use Rattle.sj_words.specs.Steps.{are_distinct}
use Rattle.sj_words.proofs.Reading.{accepted, are_said, are_spelled, refused, unsaid}
use Rattle.sj_words.proofs.options.read_words.Goals as goal

pub returns-in_default-clause-unaccepted : goal.returns-in_default-clause-unaccepted
returns-in_default-clause-unaccepted c = λ _. unsaid (texts c.args.words.now) (sym c.in_ok-names.ensures ∙ ap (option_map (λ names. map (λ n. n.now) names.items)) c.in_default.is)

pub returns-then-not-are_distinct-clause-unaccepted :
    goal.returns-then-not-are_distinct-clause-unaccepted
returns-then-not-are_distinct-clause-unaccepted c = λ _.
    let s = are_said (texts c.args.words.now) (map (λ n. n.now) c.in-Some.names.items) (sym c.in_ok-names.ensures ∙ ap (option_map (λ names. map (λ n. n.now) names.items)) c.in-Some.is) in
    refused (texts c.args.words.now) (map (λ n. n.now) c.in-Some.names.items) s (c.if-not-are_distinct.ensures ∙ ap (λ ns. are_distinct (map (λ (n : Bor Text). n.now) ns)) c.as_slice.ensures.value)

pub returns-clause-ok : goal.returns-clause-ok
returns-clause-ok c =
    let s = are_said (texts c.args.words.now) (map (λ n. n.now) c.in-Some.names.items) (sym c.in_ok-names.ensures ∙ ap (option_map (λ names. map (λ n. n.now) names.items)) c.in-Some.is) in
    IfOk-weaker c.asked_for.result _ _ (λ o h. accepted (texts c.args.words.now) (map (λ n. n.now) c.in-Some.names.items) s (c.if-not-are_distinct.ensures ∙ ap (λ ns. are_distinct (map (λ (n : Bor Text). n.now) ns)) c.as_slice.ensures.value) ∙ h s.ps (c.in_ok-matches.ensures s.ps s.said_are)) c.asked_for.ensures.ok

pub returns-clause-unaccepted : goal.returns-clause-unaccepted
returns-clause-unaccepted c =
    let s = are_said (texts c.args.words.now) (map (λ n. n.now) c.in-Some.names.items) (sym c.in_ok-names.ensures ∙ ap (option_map (λ names. map (λ n. n.now) names.items)) c.in-Some.is) in
    IfErr-weaker c.asked_for.result _ _ (λ e h is. accepted (texts c.args.words.now) (map (λ n. n.now) c.in-Some.names.items) s (c.if-not-are_distinct.ensures ∙ ap (λ ns. are_distinct (map (λ (n : Bor Text). n.now) ns)) c.as_slice.ensures.value) ∙ h is s.ps (c.in_ok-matches.ensures s.ps s.said_are)) c.asked_for.ensures.unaccepted

pub matches_of-requires : goal.matches_of-requires
matches_of-requires c =
    let s = are_said (texts c.args.words.now) (map (λ n. n.now) c.in-Some.names.items) (sym c.in_ok-names.ensures ∙ ap (option_map (λ names. map (λ n. n.now) names.items)) c.in-Some.is) in
    record { spelled = are_spelled (texts c.args.words.now) (map (λ n. n.now) c.in-Some.names.items) s (c.if-not-are_distinct.ensures ∙ ap (λ ns. are_distinct (map (λ (n : Bor Text). n.now) ns)) c.as_slice.ensures.value) }
