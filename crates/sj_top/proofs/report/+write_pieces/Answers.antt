use Rattle.std.proofs.Common.{sym, subst, List, ℕ, Bor, flat_map, OnErr}
use Rattle.sj_top.specs.Streams.{TakesPrefix}
use Rattle.sj_top.proofs.Streams.{then-prefix}
use Rattle.sj_top.proofs.report.+write_pieces.Goals as goal

pub returns-in_ok-write_text-in-Some-clause-err : goal.returns-in_ok-write_text-in-Some-clause-err
returns-in_ok-write_text-in-Some-clause-err g t c =
    subst (λ (ps : List (Bor (List ℕ))). OnErr c.write_pieces.result (TakesPrefix (g.E.Sink.taken c.args.err.now) (g.E.Sink.taken c.write_pieces.new.err) (flat_map (λ (p : Bor (List ℕ)). p.now) ps)))
    (sym c.in-Some.ensures.cases.0)
    (then-prefix c.write_pieces.result _ _ _ c.in-Some.first.now.now (flat_map (λ (p : Bor (List ℕ)). p.now) c.in-Some.rest.now) c.in_ok-write_text-in-Some.ensures.ok c.write_pieces.ensures.err)
