use Rattle.sj_check.proofs.Words.{ap, arith, footprint, Program, sym, ◌∙◌, ◌≡◌, ◌≤◌}
use Rattle.std.proofs.lemmas.Bool.{false≢true}
use Rattle.sj_check.proofs.Counting.{ready-counted}
use Rattle.sj_core.proofs.Testing.{waiting-is}
use Rattle.sj_check.proofs.judging.may_claim.Goals as goal

pub returns-then-not-is_ready : goal.returns-then-not-is_ready
returns-then-not-is_ready c =
    let r = c.args.rows.now in (
      λ h. absurd (false≢true h),
      λ may. absurd (false≢true (sym c.if-not-is_ready.true ∙ c.is_ready.ensures.1 ((ready-counted r.program r.state c.args.deps.now c.requires.done c.args.t).1 may.ready))),
    )

pub returns : goal.returns
returns c =
    let r = c.args.rows.now in
    let bytes : c.footprint.result ≡ footprint r.program c.args.t = c.footprint.ensures.bytes ∙ ap (λ (p : Program). footprint p c.args.t) c.program-2.ensures in (
      λ h. record {
        worker = omega (arith, c.if-w-program.false, ap (λ (p : Program). p.workers) c.program.ensures);
        waiting = sym c.progress_of.ensures ∙ waiting-is c.progress_of.result (sym c.is_waiting.ensures ∙ c.if-not-is_waiting.false);
        ready = (ready-counted r.program r.state c.args.deps.now c.requires.done c.args.t).0 (c.is_ready.ensures.0 c.if-not-is_ready.false);
        idle = sym c.is_idle.ensures ∙ c.if-not-is_idle.false;
        fits = (let le : c.footprint.result ≤ c.node_size.result = grind (arith, h) in omega (arith, le, bytes, c.node_size.ensures));
      },
      λ may. (let le : c.footprint.result ≤ c.node_size.result = omega (arith, may.fits, bytes, c.node_size.ensures) in grind arith),
    )
