use Rattle.std.proofs.Common.{◌≡◌, ◌++◌, ◌∷◌, ◌∙◌, ap, sym, subst}
use Rattle.std.specs.List.{flat_map}
use Rattle.sj_job.specs.Grammar.{init_words}
use Rattle.sj_meaning.specs.declared.job.Init.{Init}
use Rattle.sj_show.specs.Words.{integer_word, spaced}
use Rattle.sj_text.specs.Forms.{init_form}
use Rattle.sj_text.proofs.Words.{values-told}
use Rattle.sj_text.proofs.array.write_init.Goals as goal

pub returns-in_ok-write_integers-in-Values : goal.returns-in_ok-write_integers-in-Values
returns-in_ok-write_integers-in-Values c =
    let old = c.args.text.now.items in
    let written = c.in_ok-write_integers-in-Values.ensures ∙ ap (λ zs. c.extend_from_slice.new.self.items ++ flat_map (λ z. 32 ∷ integer_word z) zs) c.items.ensures in
    subst (λ (i : Init). c.write_integers.new.text.items ≡ old ++ spaced (init_words (init_form i))) (sym c.in-Values.is)
    (values-told old _ c.write_integers.new.text.items c.in-Values.values c.in_ok-extend_from_slice-in-Values.ensures.items written)
