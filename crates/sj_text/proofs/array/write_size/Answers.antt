use Rattle.std.proofs.Common.{◌≡◌, ◌++◌, decimal, subst, sym}
use Rattle.std.specs.List.{join_with_byte}
use Rattle.sj_job.specs.Grammar.{sized}
use Rattle.sj_meaning.specs.declared.job.Kind.{Kind}
use Rattle.sj_show.specs.Words.{spaced}
use Rattle.sj_text.specs.Forms.{size_form}
use Rattle.sj_text.proofs.Words.{matrix-told, vector-told}
use Rattle.sj_text.proofs.array.write_size.Goals as goal

pub returns-in_ok-write_numbered-in-Vector : goal.returns-in_ok-write_numbered-in-Vector
returns-in_ok-write_numbered-in-Vector c = λ more.
    let old = c.args.text.now.items in
    subst (λ (k : Kind). c.write_numbered.new.text.items ++ spaced more ≡ old ++ join_with_byte 32 (sized c.args.name.now (size_form k c.args.dims) more)) (sym c.in-Vector.is)
    (vector-told old c.args.name.now (decimal c.args.dims.cols) _ _ _ more c.in_ok-extend_from_slice-in-Vector.ensures.items c.in_ok-extend_from_slice-in-Vector-2.ensures.items c.in_ok-write_numbered-in-Vector.ensures)

pub returns-in_ok-write_numbered-in-Matrix-2 : goal.returns-in_ok-write_numbered-in-Matrix-2
returns-in_ok-write_numbered-in-Matrix-2 c = λ more.
    let old = c.args.text.now.items in
    subst (λ (k : Kind). c.write_numbered-in-Matrix-2.new.text.items ++ spaced more ≡ old ++ join_with_byte 32 (sized c.args.name.now (size_form k c.args.dims) more)) (sym c.in-Matrix.is)
    (matrix-told old c.args.name.now (decimal c.args.dims.rows) (decimal c.args.dims.cols) _ _ _ _ more c.in_ok-extend_from_slice-in-Matrix.ensures.items c.in_ok-extend_from_slice-in-Matrix-2.ensures.items c.in_ok-write_numbered-in-Matrix.ensures c.in_ok-write_numbered-in-Matrix-2.ensures)
