use Rattle.std.proofs.Common.{◌++◌, ◌∙◌, ap, length, sym}
use Rattle.std.proofs.lemmas.Result.{on_ok_weaker}
use Rattle.sj_meaning.specs.Act.{Register, Plan, Redux, Invalidate}
use Rattle.sj_meaning.specs.Table.{a_root, name_of}
use Rattle.sj_meaning.specs.View.{act_seen, registration}
use Rattle.sj_meaning.specs.declared.job.Act.{Act as KeptAct}
use Rattle.sj_meaning.specs.declared.job.RootInfo.{RootInfo}
use Rattle.sj_text.specs.Text.{act_line}
use Rattle.sj_text.proofs.act.write_act.Goals as goal

pub returns-in-Register : goal.returns-in-Register
returns-in-Register c =
    on_ok_weaker c.write_array.result
    (λ h active _.
    let old = c.args.text.now.items in
    let T = c.args.roots.now in
    let k = length c.args.plans.now in
    let init = c.in-Register.init in
    h active ∙ ap (λ n. old ++ act_line active (Register (registration n c.info.result init))) c.name.ensures
    ∙ ap (λ (i : RootInfo). old ++ act_line active (Register (registration (name_of T (a_root k)) i init))) c.info.ensures
    ∙ ap (λ (x : KeptAct). old ++ act_line active (act_seen T k x)) (sym c.in-Register.is))
    c.write_array.ensures

pub returns-in-Plan : goal.returns-in-Plan
returns-in-Plan c =
    on_ok_weaker c.write_plan.result
    (λ h active _.
    let old = c.args.text.now.items in
    h active ∙ ap (λ n. old ++ act_line active (Plan n c.in-Plan.parts)) c.name-in-Plan.ensures
    ∙ ap (λ (x : KeptAct). old ++ act_line active (act_seen c.args.roots.now (length c.args.plans.now) x)) (sym c.in-Plan.is))
    c.write_plan.ensures

pub returns-in-Redux : goal.returns-in-Redux
returns-in-Redux c =
    on_ok_weaker c.write_redux.result
    (λ h active _.
    let old = c.args.text.now.items in
    h active ∙ ap (λ n. old ++ act_line active (Redux n c.in-Redux.by)) c.name-in-Redux.ensures
    ∙ ap (λ (x : KeptAct). old ++ act_line active (act_seen c.args.roots.now (length c.args.plans.now) x)) (sym c.in-Redux.is))
    c.write_redux.ensures

pub returns-in-Invalidate : goal.returns-in-Invalidate
returns-in-Invalidate c =
    on_ok_weaker c.write_line-in-Invalidate.result
    (λ h active _.
    let old = c.args.text.now.items in
    h ∙ ap (λ n. old ++ act_line active (Invalidate n)) c.name-in-Invalidate.ensures
    ∙ ap (λ (x : KeptAct). old ++ act_line active (act_seen c.args.roots.now (length c.args.plans.now) x)) (sym c.in-Invalidate.is))
    c.write_line-in-Invalidate.ensures
