use Rattle.sj_lower.proofs.Words.{act_seen, AreDistinct, Cells, cells_after, children_after, count_after, first_after, IfNone, IfSome, Kept, Lays, length, most, None, Option, Some, subst, sym, ◌+◌, ◌<◌, ◌≡◌, ◌≤◌}
use Rattle.std.proofs.lemmas.Option.{IfSome_then}
use Rattle.sj_lower.proofs.Laying.{lays_register, full_register}
use Rattle.sj_lower.proofs.layout.Layout.lay.Goals as goal

pub returns-in_ok-first-in-Register-clause-laid : goal.returns-in_ok-first-in-Register-clause-laid
returns-in_ok-first-in-Register-clause-laid c =
    let T = c.args.roots.now in
    let l = c.args.self.now in
    let is = c.in-Register.is in
    let fits : l.roots + 1 ≤ length T.names = subst (λ (a : Kept). count_after l.roots a ≤ length T.names) is c.requires.fits in
    subst (λ (a : Kept). IfSome c.in_ok-first-in-Register.first (λ f. (C : Cells) → Lays T l C → AreDistinct T.names → Lays T c.take.new.self (cells_after (act_seen T l.roots a) C) × (first_after (act_seen T l.roots a) (cells_after (act_seen T l.roots a) C) ≡ f) × (f + children_after (act_seen T l.roots a) ≤ length (cells_after (act_seen T l.roots a) C).rows))) (sym is)
    (IfSome_then c.in_ok-first-in-Register.first c.in_ok-first-in-Register.ensures.taken (λ f h C s distinct.
    lays_register T l c.take.new.self C c.info-info.result c.in-Register.field-0 f s distinct fits c.info-info.ensures (λ D. h T D)))

none_then : {X : Type 0} (o : Option X) (P Q : Type 0) → (P → Q) → IfNone o P → IfNone o Q
none_then None P Q f h = f h
none_then (Some x) P Q f h = tt

pub returns-in_ok-first-in-Register-clause-full : goal.returns-in_ok-first-in-Register-clause-full
returns-in_ok-first-in-Register-clause-full c =
    let T = c.args.roots.now in
    let l = c.args.self.now in
    let is = c.in-Register.is in
    let fits : l.roots + 1 ≤ length T.names = subst (λ (a : Kept). count_after l.roots a ≤ length T.names) is c.requires.fits in
    subst (λ (a : Kept). IfNone c.in_ok-first-in-Register.first ((C : Cells) → Lays T l C → AreDistinct T.names → most < length (cells_after (act_seen T l.roots a) C).rows)) (sym is)
    (none_then c.in_ok-first-in-Register.first _ _ (λ h C s distinct.
    full_register T l C c.info-info.result c.in-Register.field-0 s distinct fits c.info-info.ensures (λ D. h T D)) c.in_ok-first-in-Register.ensures.full)
