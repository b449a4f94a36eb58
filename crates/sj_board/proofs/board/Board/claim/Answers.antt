use Rattle.sj_board.proofs.Words.{AnotherHasTask, ap, BoardState, CanHappen, Claim, ClaimPlan, IfErr, IsIdle, IsWhy, KnownGone, List, MayAsk, None, OnErr, OnOk, refl, Result, state, subst, sym, Why, ℕ, ◌∙◌, ◌≡◌}
use Rattle.sj_board.proofs.{BoardEnds.claims-alone, BoardEnds.stays-claimed, SparingBoards.told-spares, StillGone.knows-claimed, Taking.keeps-claimed_left, Taking.lone-refusal, Taking.may-claim, UnitHands.units-event, UnitHands.units-set}
use Rattle.sj_board.proofs.board.Board.claim.Goals as goal

pub claim_plan_knowing-requires-clause-gone : goal.claim_plan_knowing-requires-clause-gone
claim_plan_knowing-requires-clause-gone g c = subst (λ (counts : List ℕ). KnownGone c.self.inside.run.machine (state c.self.inside.run) counts) (sym c.deref.ensures.value) c.self.invariant.victims.gone

pub claim_plan_knowing-requires-clause-may : goal.claim_plan_knowing-requires-clause-may
claim_plan_knowing-requires-clause-may g c =
    let asks = subst (λ (b : BoardState _). MayAsk b c.args.w c.args.t) (sym c.self.view_is) c.requires.may in
    let idle = subst (λ (b : BoardState _). IsIdle b c.args.w) (sym c.self.view_is) c.requires.idle in
    let none = subst (λ (b : BoardState _). b.fault ≡ None) (sym c.self.view_is) c.requires.no_fault in
    may-claim _ _ _ _ _ _ _ c.self.invariant.board c.is_sound.ensures c.args.w idle.works c.args.t asks idle.no_task none

pub returns-in-Err-clause-why : goal.returns-in-Err-clause-why
returns-in-Err-clause-why g c =
    let why = subst (λ (found : Result ClaimPlan Why). IfErr found (IsWhy c.self.inside.run.program c.self.inside.run.machine (state c.self.inside.run) c.args.t c.args.w)) c.in-Err.is c.in-Ok.ensures.why in
    subst (λ (b : BoardState _). IsWhy b.run.program b.run.machine (state b.run) c.args.t c.args.w c.in-Err.why) c.self.view_is why

pub invariant_of-self-2 : goal.invariant_of-self-2
invariant_of-self-2 g c =
    let asks = subst (λ (b : BoardState _). MayAsk b c.args.w c.args.t) (sym c.self.view_is) c.requires.may in
    let idle = subst (λ (b : BoardState _). IsIdle b c.args.w) (sym c.self.view_is) c.requires.idle in
    let none = subst (λ (b : BoardState _). b.fault ≡ None) (sym c.self.view_is) c.requires.no_fault in
    let can = subst (λ (found : Result ClaimPlan Why). OnOk found (CanHappen c.self.inside.run (Claim c.args.t c.args.w))) c.in-Ok-found.is c.in-Ok.ensures.can in
    record {
      board = keeps-claimed_left _ _ _ _ _ _ _ c.self.invariant.board c.is_sound.ensures c.args.w idle.works c.args.t asks idle.no_task none can _ _ c.in-Ok-claim.ensures.ok c.take.ensures;
      ends = stays-claimed g.D.Disk.held c.self.inside.run _ _ _ _ c.self.invariant.ends _ _ _ c.is_sound.ensures c.args.t c.args.w can _ c.in-Ok-claim.ensures.ok;
      victims = knows-claimed _ _ _ _ c.self.inside.run c.is_sound.ensures _ c.self.invariant.victims c.args.t c.args.w can _ c.in-Ok-claim.ensures.ok _ c.note_gone.ensures;
      units = units-set _ _ _ _ c.args.w _ c.take.ensures refl (units-event _ _ _ _ c.in-Ok-claim.ensures.ok c.self.invariant.units);
    }

pub returns-clause-can : goal.returns-clause-can
returns-clause-can g c =
    let can = subst (λ (found : Result ClaimPlan Why). OnOk found (CanHappen c.self.inside.run (Claim c.args.t c.args.w))) c.in-Ok-found.is c.in-Ok.ensures.can in
    subst (λ (b : BoardState _). CanHappen b.run (Claim c.args.t c.args.w)) c.self.view_is can

pub returns-clause-spares : goal.returns-clause-spares
returns-clause-spares g c =
    let can = subst (λ (found : Result ClaimPlan Why). OnOk found (CanHappen c.self.inside.run (Claim c.args.t c.args.w))) c.in-Ok-found.is c.in-Ok.ensures.can in
    told-spares _ _ _ _ c.self.inside.run c.is_sound.ensures (Claim c.args.t c.args.w) can _ c.in-Ok-claim.ensures.ok _ (ap (λ (b : BoardState _). b.run) c.self.view_is)

pub returns-clause-one_worker : goal.returns-clause-one_worker
returns-clause-one_worker g c =
    let can = subst (λ (found : Result ClaimPlan Why). OnOk found (CanHappen c.self.inside.run (Claim c.args.t c.args.w))) c.in-Ok-found.is c.in-Ok.ensures.can in
    claims-alone _ _ _ _ c.self.inside.run c.is_sound.ensures c.args.t c.args.w can _ c.in-Ok-claim.ensures.ok _ (ap (λ (b : BoardState _). b.run.program) c.self.view_is)

pub returns-in-Err-clause-lone : goal.returns-in-Err-clause-lone
returns-in-Err-clause-lone g c =
    let asks = subst (λ (b : BoardState _). MayAsk b c.args.w c.args.t) (sym c.self.view_is) c.requires.may in
    let idle = subst (λ (b : BoardState _). IsIdle b c.args.w) (sym c.self.view_is) c.requires.idle in
    let none = subst (λ (b : BoardState _). b.fault ≡ None) (sym c.self.view_is) c.requires.no_fault in
    let may = may-claim _ _ _ _ _ _ _ c.self.invariant.board c.is_sound.ensures c.args.w idle.works c.args.t asks idle.no_task none in
    let why = subst (λ (found : Result ClaimPlan Why). IfErr found (IsWhy c.self.inside.run.program c.self.inside.run.machine (state c.self.inside.run) c.args.t c.args.w)) c.in-Err.is c.in-Ok.ensures.why in
    λ one. lone-refusal _ _ _ _ c.self.inside.run c.is_sound.ensures c.args.t c.args.w may (ap (λ (b : BoardState _). b.run.program.workers) c.self.view_is ∙ one) c.in-Err.why why

pub returns-in-Err-clause-another : goal.returns-in-Err-clause-another
returns-in-Err-clause-another g c =
    let waits = subst (λ (found : Result ClaimPlan Why). OnErr found (AnotherHasTask (state c.self.inside.run) c.args.w)) c.in-Err.is c.in-Ok.ensures.another in
    subst (λ (b : BoardState _). AnotherHasTask (state b.run) c.args.w) c.self.view_is waits
