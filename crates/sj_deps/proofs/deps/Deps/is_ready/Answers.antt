use Rattle.std.proofs.Common.{◌≡◌, ◌<◌, ◌∙◌, sym, subst, IsTrue, false, true, length, arith, nat_eq}
use Rattle.std.proofs.lemmas.List.{get_or_default}
use Rattle.std.proofs.lemmas.Bool.{false≢true}
use Rattle.sj_deps.specs.Conflict.{Ready}
use Rattle.sj_deps.specs.Progress.{Dependencies}
use Rattle.sj_deps.specs.Chains.{waits_of}
use Rattle.sj_deps.proofs.Readiness.{flag_at}
use Rattle.sj_deps.proofs.Keeping.{ready_done, ready_iff}
use Rattle.sj_deps.proofs.deps.Deps.is_ready.Goals as goal

pub returns-then-index : goal.returns-then-index
returns-then-index c =
    let P = c.self.inside.program.value in
    let k = c.self.inside.counters in
    let every = c.self.invariant.ledger.every_flag in
    let every' = c.self.invariant.every_task in
    let inside : c.args.t.0 < length k.is_done.items = omega arith in
    let done : flag_at k.is_done.items c.args.t.0 ≡ true = get_or_default k.is_done.items c.args.t.0 false _ inside ∙ sym c.index.ensures ∙ c.if-index.true in
    subst (λ (v : Dependencies). (IsTrue false → Ready v.program v.done c.args.t.0) × (Ready v.program v.done c.args.t.0 → IsTrue false)) c.self.view_is (λ no'. absurd (false≢true no'), λ ready. absurd (ready_done P k c.self.invariant c.args.t.0 done ready))

pub returns : goal.returns
returns c =
    let P = c.self.inside.program.value in
    let k = c.self.inside.counters in
    let every = c.self.invariant.ledger.every_flag in
    let every' = c.self.invariant.every_task in
    let inside : c.args.t.0 < length k.is_done.items = omega arith in
    let inside' : c.args.t.0 < length k.held.items = omega arith in
    let idle : flag_at k.is_done.items c.args.t.0 ≡ false = get_or_default k.is_done.items c.args.t.0 false _ inside ∙ sym c.index.ensures ∙ c.if-index.false in
    let waits : waits_of k.held.items c.args.t.0 ≡ c.index-2.result.now = get_or_default k.held.items c.args.t.0 0 _ inside' ∙ sym c.index-2.ensures in
    let iff : (IsTrue (nat_eq c.index-2.result.now 0) → Ready P k.order.items c.args.t.0) × (Ready P k.order.items c.args.t.0 → IsTrue (nat_eq c.index-2.result.now 0)) = subst (λ n. (IsTrue (nat_eq n 0) → Ready P k.order.items c.args.t.0) × (Ready P k.order.items c.args.t.0 → IsTrue (nat_eq n 0))) waits (ready_iff P k c.self.invariant c.args.t.0 (omega arith) idle) in
    subst (λ (v : Dependencies). (IsTrue (nat_eq c.index-2.result.now 0) → Ready v.program v.done c.args.t.0) × (Ready v.program v.done c.args.t.0 → IsTrue (nat_eq c.index-2.result.now 0))) c.self.view_is iff
