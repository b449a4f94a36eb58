use Rattle.sj_board.proofs.Words.{ap, arith, array_in, arrays_in, get_or, length, None, ◌∙◌}
use Rattle.std.proofs.lemmas.List.{length-map, length-set}
use Rattle.sj_board.proofs.LoanedTiles.{all-out, set-more}
use Rattle.sj_board.proofs.tiles.take_all_out.Goals as goal

pub loop-k-preserved : goal.loop-k-preserved
loop-k-preserved c =
    let now = c.loop-k.places in
    let next = c.take_out.new.places in
    let many = length-map now array_in in
    let more = ap length c.take_out.ensures in
    record {
      every = (let same = length-map next array_in in let kept = length-set (arrays_in now) c.loop-k.k None in omega (arith, many, more, same, kept, c.loop-k.invariant.every));
      done = λ k d h. ap (λ ts. get_or ts k d) c.take_out.ensures ∙ set-more (arrays_in now) c.loop-k.k None (omega (arith, many, c.loop-k-test.true, c.loop-k.invariant.every)) c.loop-k.invariant.done k d h;
    }

pub returns : goal.returns
returns c =
    let now = c.loop-k.places in
    let many = length-map now array_in in
    let first = length-map c.args.places.now array_in in
    all-out (arrays_in c.args.places.now) (arrays_in now) (omega (arith, many, first, c.loop-k.invariant.every)) (λ k d h. c.loop-k.invariant.done k d (omega (arith, h, first, c.loop-k-test.false)))
