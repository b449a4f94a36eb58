use Rattle.sj_job.specs.Grammar.{init_words, parts_words, sized}
use Rattle.sj_text.specs.Forms.{init_form, pair_under, size_form}
use Rattle.sj_text.proofs.Words.{array-told}
use Rattle.sj_text.proofs.array.write_array.Goals as goal

pub returns : goal.returns
returns c = λ plans.
    let info = c.args.info in
    array-told c.args.text.now.items _ _ _ _ (λ more. sized c.args.name.now (size_form info.kind info.dims) more)
    (parts_words (pair_under info.parts (info.parts.r, info.parts.c))) (init_words (init_form c.args.init.now))
    c.in_ok-write_size.ensures c.in_ok-write_parts.ensures c.in_ok-write_init.ensures c.in_ok-push.ensures.items
