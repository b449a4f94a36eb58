use Rattle.std.proofs.Common.{◌≡◌, true, false, Result, Ok, Err, OnOk, OnErr, is_err, take, sym, ap, ◌∙◌, arith}
use Rattle.std.specs.List.{zip}
use Rattle.sj_node.specs.Entries.{listed}
use Rattle.sj_node.proofs.Putting.{next_absent, put_news-undone, put_news_more, put_news_all, length-put_news, length-take_zip}
use Rattle.sj_node.proofs.entries.Entries.put_all.Goals as goal

pub put-requires-clause-absent : goal.put-requires-clause-absent
put-requires-clause-absent c =
    rw c.loop-i.invariant (next_absent c.args.cells.now c.args.bytes.now c.loop-i.i (record { 0 = 0 }) c.args.self.now.order c.requires.paired c.requires.distinct c.requires.absent c.loop-i-test.true)

pub put-requires-clause-few : goal.put-requires-clause-few
put-requires-clause-few c =
    rw c.loop-i.invariant (omega (arith, c.requires.few, length-put_news (take c.loop-i.i (zip c.args.cells.now c.args.bytes.now)) c.args.self.now.order, length-take_zip c.args.cells.now c.args.bytes.now c.loop-i.i c.requires.paired (omega arith)))

at_err : {T E : Type 0} (r : Result T E) (P : Type 0) → true ≡ is_err r → OnErr r P → P
at_err (Ok x) P h p = absurd (cc)
at_err (Err e) P h p = p

at_ok : {T E : Type 0} (r : Result T E) (P : Type 0) → false ≡ is_err r → OnOk r P → P
at_ok (Ok x) P h p = p
at_ok (Err e) P h p = absurd (cc)

pub returns-then-is_err-clause-err : goal.returns-then-is_err-clause-err
returns-then-is_err-clause-err c =
    let same = at_err c.put.result _ c.if-is_err.ensures.value c.put.ensures.err in
    c.take_out_all.ensures
    ∙ rw (same, c.loop-i.invariant) (ap (λ es. listed es c.args.self.now.limit) (put_news-undone c.args.cells.now c.args.bytes.now c.loop-i.i c.args.self.now.order c.requires.paired c.requires.absent))

pub loop-i-preserved : goal.loop-i-preserved
loop-i-preserved c =
    at_ok c.put.result _ c.if-is_err.ensures.value c.put.ensures.ok
    ∙ rw c.loop-i.invariant (ap (λ es. listed es c.args.self.now.limit) (sym (put_news_more c.args.cells.now c.args.bytes.now c.loop-i.i (record { 0 = 0 }) c.args.self.now.order c.requires.paired c.loop-i-test.true)))

pub returns-clause-ok : goal.returns-clause-ok
returns-clause-ok c = c.loop-i.invariant ∙ ap (λ es. listed es c.args.self.now.limit) (put_news_all c.args.cells.now c.args.bytes.now c.loop-i.i c.args.self.now.order c.requires.paired (omega arith))
