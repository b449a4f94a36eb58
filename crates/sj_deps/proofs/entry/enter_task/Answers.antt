use Rattle.std.proofs.Common.{◌≡◌, ◌∙◌, List, ap, sym, subst, arith, rules, refl, length, slice_index_or}
use Rattle.std.specs.Prelude.{Contains}
use Rattle.std.specs.List.{flat_map}
use Rattle.std.proofs.lemmas.Grind.{common_steps}
use Rattle.std.proofs.lemmas.List.{take_all}
use Rattle.std.proofs.lemmas.Option.{slice_get_read}
use Rattle.sj_deps.specs.declared.manner.Usage.{Usage}
use Rattle.sj_deps.specs.Conflict.{usage, usages, usages_of}
use Rattle.sj_deps.specs.Counts.{Entering}
use Rattle.sj_deps.proofs.Accessing.{flat_has, flat_more, usages_at}
use Rattle.sj_deps.proofs.Starting.{Entering-next}
use Rattle.sj_deps.proofs.entry.enter_task.Goals as goal

pub enter_access-requires-clause-uses : goal.enter_access-requires-clause-uses
enter_access-requires-clause-uses c =
    let P = c.args.program.now in
    let is : c.index-items-t.result ≡ slice_index_or P.tasks c.args.t c.index-items-t.result = first_of (search rules, grind (arith, common_steps)) in
    let items : c.items-access-items.result.now ≡ c.index-items-t.result.accesses = c.items-access-items.ensures in
    let us_are : usages P c.args.t ≡ flat_map (usages_of P c.index-items-t.result.codelet) c.items-access-items.result.now = usages_at P c.args.t c.index-items-t.result (slice_get_read P.tasks (length P.tasks) c.args.t c.index-items-t.result refl c.requires.task is) ∙ ap (flat_map (usages_of P c.index-items-t.result.codelet)) (sym items) in
    λ d m h. subst (λ (us : List Usage). Contains us (usage m d)) (sym us_are) (flat_has (usages_of P c.index-items-t.result.codelet) c.items-access-items.result.now c.loop-access.access-index _ (usage m d) (omega arith) h)

pub loop-access-preserved : goal.loop-access-preserved
loop-access-preserved c =
    let P = c.args.program.now in
    (c.in_ok-enter_access.ensures.begun, subst (λ (us : List Usage). Entering P c.args.t us c.enter_access.new.entered) (sym (flat_more (usages_of P c.index-items-t.result.codelet) c.items-access-items.result.now c.loop-access.access-index _ (omega arith))) (c.in_ok-enter_access.ensures.entered _ c.loop-access.invariant.1))

pub returns-clause-entered : goal.returns-clause-entered
returns-clause-entered c =
    let P = c.args.program.now in
    let is : c.index-items-t.result ≡ slice_index_or P.tasks c.args.t c.index-items-t.result = first_of (search rules, grind (arith, common_steps)) in
    let items : c.items-access-items.result.now ≡ c.index-items-t.result.accesses = c.items-access-items.ensures in
    let us_are : usages P c.args.t ≡ flat_map (usages_of P c.index-items-t.result.codelet) c.items-access-items.result.now = usages_at P c.args.t c.index-items-t.result (slice_get_read P.tasks (length P.tasks) c.args.t c.index-items-t.result refl c.requires.task is) ∙ ap (flat_map (usages_of P c.index-items-t.result.codelet)) (sym items) in
    let whole = take_all c.loop-access.access-index c.items-access-items.result.now (omega arith) in
    Entering-next P c.args.t c.loop-access.entered (subst (λ (us : List Usage). Entering P c.args.t us c.loop-access.entered) (ap (flat_map (usages_of P c.index-items-t.result.codelet)) whole ∙ sym us_are) c.loop-access.invariant.1)
