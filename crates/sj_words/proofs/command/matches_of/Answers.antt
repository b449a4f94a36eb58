use Rattle.std.proofs.Common.{◌≡◌, ◌∙◌, ap, subst, sym, true}
use Rattle.std.proofs.lemmas.Option.{same_Some}
use Rattle.clap.specs.Words.{App, found_of, is_simple, matches_of, takes}
use Rattle.sj_words.specs.Spelling.{stands_once, texts}
use Rattle.sj_words.proofs.Passing.{takes_said}
use Rattle.sj_words.proofs.Walking.{the_app_is_simple, holds_given}
use Rattle.sj_words.proofs.command.matches_of.Goals as goal

pub returns-in-Ok-try_get_matches_from : goal.returns-in-Ok-try_get_matches_from
returns-in-Ok-try_get_matches_from c = λ ps said.
    let m = c.in-Ok-try_get_matches_from in
    let rows = (m.ensures.matches (ap is_simple c.in-Ok.ensures ∙ the_app_is_simple)).0 ∙ ap (λ (a : App). matches_of a (texts c.args.words.now)) c.in-Ok.ensures in
    let same = same_Some _ _ (sym c.requires.spelled.said_are ∙ said) in
    holds_given (found_of m.matches) (texts c.args.words.now) ps rows said (subst (λ x. stands_once x ≡ true) same c.requires.spelled.once)

pub unreachable-requires : goal.unreachable-requires
unreachable-requires c =
    let takes_them = ap (λ (a : App). takes a (texts c.args.words.now)) c.in-Ok.ensures ∙ takes_said (texts c.args.words.now) c.requires.spelled.ps c.requires.spelled.said_are c.requires.spelled.once in
    c.in_default-kind.not-OutOfMemory (c.kind.ensures ∙ c.in-Err.ensures.passes takes_them)
