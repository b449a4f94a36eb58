use Rattle.std.proofs.Common.{rules, ◌≡◌, ◌∙◌, ◌++◌, ℕ, List, ap, append_assoc, codes, w64, of_z, to_z}
use Rattle.std.specs.Prelude.{decimal}
use Rattle.std.specs.Fmt.{signed_decimal}
use Rattle.sj_apps.specs.Summary.{bound_text, tallied_line}
use Rattle.sj_apps.proofs.summary.write_line.Goals as goal

-- a label and what it names go behind what was appended
behind : (old so_far now new label said : List ℕ) → now ≡ old ++ so_far → new ≡ now ++ label ++ said → new ≡ old ++ (so_far ++ label ++ said)
behind old so_far now new label said h k =
    k ∙ ap (λ t. t ++ label ++ said) h ∙ ap (λ t. t ++ said) (append_assoc old so_far label) ∙ append_assoc old (so_far ++ label) said

pub returns : goal.returns
returns c =
    let a = c.args in
    let old = a.text.now.items in
    let sum = to_z w64 (of_z w64 a.sum) in
    let rows = a.name.now ++ codes " " ++ decimal a.dims.rows in
    let cols = rows ++ codes " " ++ decimal a.dims.cols in
    let total = cols ++ codes ": sum " ++ signed_decimal sum in
    let lowest = total ++ codes " min " ++ bound_text a.bounds.0 in
    let highest = lowest ++ codes " max " ++ bound_text a.bounds.1 in
    let infs = highest ++ codes " inf " ++ decimal a.infs in
    let e1 = behind old a.name.now _ c.write_count.new.text.items (codes " ") (decimal a.dims.rows) c.in_ok-extend_from_slice.ensures.items c.in_ok-write_count.ensures in
    let e2 = behind old rows _ c.write_count-2.new.text.items (codes " ") (decimal a.dims.cols) e1 c.in_ok-write_count-2.ensures in
    let e3 = behind old cols _ c.write_bound.new.text.items (codes ": sum ") (signed_decimal sum) e2 c.in_ok-write_bound.ensures in
    let e4 = behind old total _ c.write_bound-2.new.text.items (codes " min ") (bound_text a.bounds.0) e3 c.in_ok-write_bound-2.ensures in
    let e5 = behind old lowest _ c.write_bound-3.new.text.items (codes " max ") (bound_text a.bounds.1) e4 c.in_ok-write_bound-3.ensures in
    let e6 = behind old highest _ c.write_count-3.new.text.items (codes " inf ") (decimal a.infs) e5 c.in_ok-write_count-3.ensures in
    let same : sum ≡ a.sum = search rules in
    c.in_ok-push.ensures.items ∙ ap (λ t. t ++ codes "\n") e6 ∙ append_assoc old infs (codes "\n")
    ∙ ap (λ z. old ++ tallied_line a.name.now a.dims z a.bounds.0 a.bounds.1 a.infs) same
