use Rattle.sj_check.proofs.Words.{ap, arith, is_done, length, Program, refl, sym, ◌<◌, ◌∙◌, ◌≤◌}
use Rattle.std.proofs.lemmas.Bool.{false≢true}
use Rattle.sj_check.proofs.Completing.{done-all, done-more, done-not}
use Rattle.sj_check.proofs.judging.are_done.Goals as goal

pub loop-i-init : goal.loop-i-init
loop-i-init c = λ k within. absurd (omega (arith, within))

pub returns-then-not-is_done : goal.returns-then-not-is_done
returns-then-not-is_done c =
    let b = c.args.rows.now in
    let inside : c.loop-i.i < length b.program.tasks = omega (arith, c.loop-i-test.true, c.len-count.ensures, ap (λ (p : Program). length p.tasks) c.program.ensures) in
    (λ h. absurd (false≢true h), λ complete. absurd (done-not b.state c.loop-i.i b.program b.machine c.is_sound.ensures.coherent inside (ap is_done (sym c.progress_of.ensures) ∙ sym c.is_done.ensures ∙ c.if-not-is_done.true) complete))

pub loop-i-preserved : goal.loop-i-preserved
loop-i-preserved c =
    done-more c.args.rows.now.state c.loop-i.i c.loop-i.invariant (ap is_done (sym c.progress_of.ensures) ∙ sym c.is_done.ensures ∙ c.if-not-is_done.false)

pub returns : goal.returns
returns c =
    let b = c.args.rows.now in
    let past : length b.program.tasks ≤ c.loop-i.i = omega (arith, c.loop-i-test.false, c.len-count.ensures, ap (λ (p : Program). length p.tasks) c.program.ensures) in
    (λ h. done-all b.state c.loop-i.i b.program b.machine c.is_sound.ensures.coherent c.loop-i.invariant past, λ complete. refl)
