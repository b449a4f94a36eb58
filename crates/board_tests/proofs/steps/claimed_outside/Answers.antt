use Rattle.std.proofs.Common.{◌<◌, None, ap, subst, sym}
use Rattle.sj_board.specs.Board.{BoardState, released_of}
use Rattle.board_tests.proofs.Claiming.{claims-it, given-none, is-step}
use Rattle.board_tests.proofs.steps.claimed_outside.Goals as goal

pub claim-requires-clause-may : goal.claim-requires-clause-may
claim-requires-clause-may g c = record {
  given = λ prio. absurd (c.requires.outside prio);
  outside = λ _. (c.in-Yes.ensures.0, c.in-Yes.ensures.1);
}

pub returns-in-Ok-clause-claims : goal.returns-in-Ok-clause-claims
returns-in-Ok-clause-claims g c =
    let b = c.args.board.now in
    claims-it g.D.Disk.size g.D.Disk.faults g.D.Disk.mismatches g.D.Disk.held b b c.claim.new.self c.args.w c.args.t c.is_sound.ensures c.requires.free c.requires.no_fault None (given-none b c.args.w c.requires.free) c.in-Ok.ensures.can c.in-Ok.ensures.ok
    (subst (λ n. c.args.w.0 < n) (sym c.is_sound.ensures.inside.hands_agree.every_worker) c.requires.free.idle.works.known)

pub returns-in-Ok-clause-alone : goal.returns-in-Ok-clause-alone
returns-in-Ok-clause-alone g c =
    let b = c.args.board.now in
    is-step g.D.Disk.size g.D.Disk.faults g.D.Disk.mismatches g.D.Disk.held b b c.claim.new.self c.args.w c.args.t c.is_sound.ensures c.requires.free c.requires.no_fault None (given-none b c.args.w c.requires.free) c.in-Ok.ensures.can c.in-Ok.ensures.ok

pub returns-in-Ok-clause-released : goal.returns-in-Ok-clause-released
returns-in-Ok-clause-released g c = ap (λ (k : BoardState _). released_of k c.args.w) c.in-Ok.ensures.ok
