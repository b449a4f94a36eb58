use Rattle.std.proofs.Common.{◌≡◌, ◌++◌, ◌∷◌, [], false, true, rules}
use Rattle.sj_codelet.specs.Slot.{slot_of}
use Rattle.sj_codelet.specs.Formal.{is_output}
use Rattle.sj_engine.proofs.ResultLists.{share-skips, share-adds}
use Rattle.sj_engine.proofs.results.+share_written.Goals as goal

pub returns-then-not-is_output-clause-slots : goal.returns-then-not-is_output-clause-slots
returns-then-not-is_output-clause-slots t c =
    let before = c.in-Some.before.now in
    let last = c.in-Some.last.now in
    let e : c.args.formals.now ≡ before ++ last ∷ [] = search rules in
    let h : is_output last ≡ false = search rules in
    share-skips c.args.formals.now before last c.args.frame.now.slots c.take_last-operand.new.self.slots (slot_of c.take_last-operand.result) c.share_written.new.frame.slots e c.take_last-operand.ensures.slots c.requires h c.in_ok-share_written.ensures.slots

pub returns-clause-slots : goal.returns-clause-slots
returns-clause-slots t c =
    let before = c.in-Some.before.now in
    let last = c.in-Some.last.now in
    let e : c.args.formals.now ≡ before ++ last ∷ [] = search rules in
    let h : is_output last ≡ true = search rules in
    share-adds c.args.formals.now before last c.args.frame.now.slots c.take_last-operand.new.self.slots (slot_of c.take_last-operand.result) c.share_written.new.frame.slots c.push_shared.new.self.slots c.in_ok-share.field-0.value e c.take_last-operand.ensures.slots c.requires h c.in_ok-share_written.ensures.slots c.push_shared.ensures.slots c.in_ok-share.ensures
