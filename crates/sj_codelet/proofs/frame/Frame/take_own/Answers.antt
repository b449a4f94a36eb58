use Rattle.std.proofs.Common.{sym, ap, ◌∙◌}
use Rattle.std.proofs.lemmas.Bool.{false≢true}
use Rattle.sj_codelet.specs.Frame.{ends_owned, shared}
use Rattle.sj_codelet.specs.Slot.{slot_of}
use Rattle.sj_codelet.proofs.Operands.{ends_owned-push}
use Rattle.sj_codelet.proofs.frame.Frame.take_own.Goals as goal

pub unreachable-requires : goal.unreachable-requires
unreachable-requires c =
    let before = c.take_last.new.self.slots in
    let last = ap slot_of c.in-Shared.is in
    let slots = rw last at c.take_last.ensures.slots in
    false≢true (sym (ends_owned-push before (shared c.in-Shared.field-0.value)) ∙ sym (ap ends_owned slots) ∙ c.requires)
