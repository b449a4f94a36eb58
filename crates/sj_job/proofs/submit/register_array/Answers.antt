use Rattle.std.proofs.Common.{◌≡◌, ◌∙◌, sym, ℕ, None}
use Rattle.sj_plan.specs.declared.parts.Parts.{Parts}
use Rattle.sj_meaning.specs.State.{dims_with, plan_of_parts}
use Rattle.sj_meaning.specs.declared.job.Kind.{Kind}
use Rattle.sj_meaning.specs.declared.job.RootInfo.{RootInfo}
use Rattle.sj_job.specs.Sentence.{init_said}
use Rattle.sj_job.specs.Names.{scope_in}
use Rattle.sj_job.specs.Judge.{first_of, register_reasons}
use Rattle.sj_job.proofs.Submitting.{registers}
use Rattle.sj_job.proofs.Counting.{kept, told}
use Rattle.sj_job.proofs.submit.register_array.Goals as goal

pub returns-clause-ok : goal.returns-clause-ok
returns-clause-ok c = λ has.
    let a = c.args.array.now in
    let init = c.args.init in
    let name = c.bytes-name.result.now in
    let name_is = c.bytes-name.ensures in
    let plan = c.narrowed-parts.ensures ∙ c.requires.parts in
    let mk : Kind → ℕ → ℕ → Parts → RootInfo = λ k r s p. record { kind = k; dims = record { rows = r; cols = s }; parts = p } in
    let s = scope_in c.args.names.now in
    let dims = dims_with c.args.size.0 c.args.size.1 in
    let cut = plan_of_parts c.args.parts.0 c.args.parts.1 in
    let said = init_said a.init in
    let none : first_of (register_reasons s name dims cut said) ≡ None =
    sym (told s name dims cut init said c.requires.init) ∙ sym c.in_default.ensures.first in
    registers has c.args.names.now _ a name (mk c.kind_of-kind.result c.args.size.0 c.args.size.1 c.narrowed-parts.result) init (record {
      name_is = name_is;
      info_is = λ i. mk (c.kind_of-kind.ensures i) (c.requires.rows i) (c.requires.cols i) (plan i);
      init_is = kept s name dims cut init said c.requires.init none;
      numbered = c.requires.numbered;
      unopposed = (λ i. first_of (register_reasons s (sym name_is i) (dims_with (sym c.requires.rows i) (sym c.requires.cols i)) (sym c.requires.parts i) said)) ∙ none;
      whole = c.register.ensures.whole;
      roots = c.in_ok-register.ensures.roots;
      sees = c.in_ok-register.ensures.names;
    })
