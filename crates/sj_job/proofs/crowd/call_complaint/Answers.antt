use Rattle.std.proofs.Common.{◌≡◌, ◌∙◌, ◌||◌, ap, sym, not, arith, true, false, rules, w64, FitsSigned, is_some}
use Rattle.std.specs.Prelude.{nat_le, nat_lt}
use Rattle.std.proofs.lemmas.Bool.Decides.{nat_tests}
use Rattle.std.proofs.lemmas.Int.{to_z-of_z}
use Rattle.sj_job.specs.Judge.{is_full, kernel_named}
use Rattle.sj_job.specs.Names.{scope_in}
use Rattle.sj_meaning.specs.Sound.{is_priority}
use Rattle.sj_job.proofs.Crowding.{first_by}
use Rattle.sj_job.proofs.crowd.call_complaint.Goals as goal

pub returns-then-is_none : goal.returns-then-is_none
returns-then-is_none g c =
    let full : is_full (scope_in c.args.names.now) ≡ false = grind (arith, nat_tests, c.if-names-ge-STATEMENTS.false) in
    let wide : FitsSigned w64 c.args.priority = search rules in
    let early : is_priority c.args.priority ≡ true = ap is_priority (sym (to_z-of_z w64 c.args.priority wide)) ∙ sym c.has_priority.ensures ∙ c.if-not-has_priority.false in
    let some = ap is_some (ap (kernel_named g.C.Codelets.has) (sym c.bytes.ensures) ∙ sym c.kernel_named.ensures) ∙ c.is_none.ensures in
    let named : is_some (kernel_named g.C.Codelets.has c.args.codelet.now) ≡ false = some ∙ ap not c.if-is_none.true in
    λ i. first_by (sym full i) (sym early i) (sym c.if-crowd.false i) (sym c.if-crowd-2.false i) (sym named i) (nat_le 6 c.args.crowd.count || nat_lt 6 c.args.count)

pub returns-then-are_many : goal.returns-then-are_many
returns-then-are_many g c =
    let full : is_full (scope_in c.args.names.now) ≡ false = grind (arith, nat_tests, c.if-names-ge-STATEMENTS.false) in
    let wide : FitsSigned w64 c.args.priority = search rules in
    let early : is_priority c.args.priority ≡ true = ap is_priority (sym (to_z-of_z w64 c.args.priority wide)) ∙ sym c.has_priority.ensures ∙ c.if-not-has_priority.false in
    let some = ap is_some (ap (kernel_named g.C.Codelets.has) (sym c.bytes.ensures) ∙ sym c.kernel_named.ensures) ∙ c.is_none.ensures in
    let named : is_some (kernel_named g.C.Codelets.has c.args.codelet.now) ≡ true = some ∙ ap not c.if-is_none.false in
    let many = sym c.are_many.ensures ∙ c.if-are_many.true in
    λ i. first_by (sym full i) (sym early i) (sym c.if-crowd.false i) (sym c.if-crowd-2.false i) (sym named i) (sym many i)

pub returns-else-are_many : goal.returns-else-are_many
returns-else-are_many g c =
    let full : is_full (scope_in c.args.names.now) ≡ false = grind (arith, nat_tests, c.if-names-ge-STATEMENTS.false) in
    let wide : FitsSigned w64 c.args.priority = search rules in
    let early : is_priority c.args.priority ≡ true = ap is_priority (sym (to_z-of_z w64 c.args.priority wide)) ∙ sym c.has_priority.ensures ∙ c.if-not-has_priority.false in
    let some = ap is_some (ap (kernel_named g.C.Codelets.has) (sym c.bytes.ensures) ∙ sym c.kernel_named.ensures) ∙ c.is_none.ensures in
    let named : is_some (kernel_named g.C.Codelets.has c.args.codelet.now) ≡ true = some ∙ ap not c.if-is_none.false in
    let many = sym c.are_many.ensures ∙ c.if-are_many.false in
    λ i. first_by (sym full i) (sym early i) (sym c.if-crowd.false i) (sym c.if-crowd-2.false i) (sym named i) (sym many i)
