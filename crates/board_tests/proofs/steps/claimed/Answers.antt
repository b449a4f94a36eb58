use Rattle.std.proofs.Common.{rules, ◌<◌, ◌∙◌, ap, subst, sym}
use Rattle.sj_board.specs.Board.{BoardState}
use Rattle.board_tests.proofs.Claiming.{claims-it, is-given, is-step}
use Rattle.board_tests.specs.Steps.{IsStepOf}
use Rattle.board_tests.proofs.steps.claimed.Goals as goal

pub claim-requires-clause-may : goal.claim-requires-clause-may
claim-requires-clause-may g c = record {
  given = λ prio. search rules;
  outside = λ other. absurd (other (ap (λ (k : BoardState _). k.run.machine.policy) c.next.ensures.given ∙ c.requires.by_urgency));
}

pub returns-in-Ok-clause-claims : goal.returns-in-Ok-clause-claims
returns-in-Ok-clause-claims g c =
    let free = c.requires.free in
    claims-it g.D.Disk.size g.D.Disk.faults g.D.Disk.mismatches g.D.Disk.held c.args.board.now c.next.new.self c.claim.new.self c.args.w c.in-Some.t c.is_sound-2.ensures free c.requires.no_fault c.next.result c.next.ensures.given c.in-Ok.ensures.can c.in-Ok.ensures.ok
    (subst (λ n. c.args.w.0 < n) (sym c.is_sound.ensures.inside.hands_agree.every_worker) free.idle.works.known)

pub returns-in-Ok-clause-alone : goal.returns-in-Ok-clause-alone
returns-in-Ok-clause-alone g c =
    is-step g.D.Disk.size g.D.Disk.faults g.D.Disk.mismatches g.D.Disk.held c.args.board.now c.next.new.self c.claim.new.self c.args.w c.in-Some.t c.is_sound-2.ensures c.requires.free c.requires.no_fault c.next.result c.next.ensures.given c.in-Ok.ensures.can c.in-Ok.ensures.ok

pub returns-in-Err-clause-alone : goal.returns-in-Err-clause-alone
returns-in-Err-clause-alone g c =
    subst (λ (k : BoardState _). IsStepOf c.args.w c.args.board.now k) (sym c.in-Err.ensures.err) (is-given c.args.board.now c.next.new.self c.args.w c.next.result c.next.ensures.given)
