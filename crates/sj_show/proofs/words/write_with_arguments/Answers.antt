use Rattle.std.proofs.Common.{rules, ◌≡◌, ◌++◌, ◌∙◌, ap, w64, to_z, of_z, FitsSigned}
use Rattle.std.proofs.lemmas.Int.{to_z-of_z}
use Rattle.sj_show.specs.Words.{integer_word}
use Rattle.sj_show.proofs.Lines.{arguments-written}
use Rattle.sj_show.proofs.words.write_with_arguments.Goals as goal

pub returns-in_ok-push-in-Some-2 : goal.returns-in_ok-push-in-Some-2
returns-in_ok-push-in-Some-2 c =
    let fits : FitsSigned w64 c.in-Some.first.now = search rules in
    let same : to_z w64 (of_z w64 c.in-Some.first.now) ≡ c.in-Some.first.now = to_z-of_z _ _ fits in
    arguments-written c.args.text.now.items c.args.name.now _ _ _ _ c.args.args.now c.in-Some.more.now c.in-Some.first.now (search rules)
    c.in_ok-extend_from_slice.ensures.items
    (c.in_ok-write_integer-in-Some.ensures ∙ ap (λ z. c.push.new.self.items ++ integer_word z) same ∙ ap (λ t. t ++ integer_word c.in-Some.first.now) c.in_ok-push-in-Some.ensures.items)
    c.in_ok-write_integers-in-Some.ensures
    c.in_ok-push-in-Some-2.ensures.items
