use Rattle.std.proofs.Common.{◌∙◌, ap, sym}
use Rattle.sj_job.specs.Form.{with_priority}
use Rattle.sj_job.specs.Names.{scope_in}
use Rattle.sj_job.proofs.Crowding.{crowd-more, shown-first, shown-more}
use Rattle.sj_job.proofs.crowd.crowd_of.Goals as goal

pub loop-word-init : goal.loop-word-init
loop-word-init c =
    let s = scope_in c.args.names.now in
    shown-first s c.none-crowd.result c.again-rest.result c.args.words.now (c.none-crowd.ensures s) c.again-rest.ensures

pub loop-word-preserved : goal.loop-word-preserved
loop-word-preserved c =
    let s = scope_in c.args.names.now in
    let cut = ap with_priority c.in-Some.ensures ∙ c.in_default-last_priority.ensures in
    shown-more s c.loop-word.crowd c.add.new.self c.in-Some.word.now c.in-Some.behind c.loop-word.rest c.args.words.now c.in_ok-operand.operand
    c.loop-word.invariant cut (sym c.operand_of.ensures ∙ c.in_ok-operand.was)
    (λ os is. crowd-more s os c.in_ok-operand.operand c.loop-word.crowd c.add.new.self is c.add.ensures.numbered c.add.ensures.unknown c.add.ensures.ended c.add.ensures.count)
