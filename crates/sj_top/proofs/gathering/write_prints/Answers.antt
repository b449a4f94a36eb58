use Rattle.std.proofs.Common.{◌≡◌, ◌<◌, ◌+◌, ◌++◌, sym, ap, ◌∙◌, subst, arith, List, [], ◌∷◌, ℕ, map}
use Rattle.std.specs.Prelude.{All, Contains}
use Rattle.std.proofs.lemmas.List.{append-nil}
use Rattle.std.proofs.lemmas.List.FromFn.{map-range_with_len_more}
use Rattle.std.proofs.lemmas.Grind.{flat_map-append}
use Rattle.std.specs.List.{range_with_len}
use Rattle.sj_base.specs.declared.program.Delivery.{Delivery}
use Rattle.sj_base.specs.declared.program.Program.{Program}
use Rattle.sj_meaning.specs.Meaning.{Printed}
use Rattle.sj_lower.specs.Delivering.{deliveries_for}
use Rattle.sj_top.specs.Gathering.{IsShown, array_found, prints_of, shown}
use Rattle.sj_top.specs.Output.{output, printed_block}
use Rattle.sj_top.proofs.Grouping.{cut, from-zero, of-among}
use Rattle.sj_top.proofs.gathering.write_prints.Goals as goal

abbrev print_number : Delivery → ℕ
print_number d = d.print

pub loop-print-init : goal.loop-print-init
loop-print-init c = record {
  text = c.new-text.ensures.items;
  rest = c.items-rest.ensures ∙ ap (λ (p : Program). p.deliveries) c.program-program.ensures ∙ sym (from-zero print_number c.args.handed.now.program.deliveries);
}

pub write_print-requires-clause-handed : goal.write_print-requires-clause-handed
write_print-requires-clause-handed c =
    let ds = c.args.handed.now.program.deliveries in
    let k = c.loop-print.print in
    let both = cut print_number k c.count_of.result ds c.loop-print.rest.now c.split_at.result.0.now c.split_at.result.1.now c.requires.ascending c.loop-print.invariant.rest c.count_of.ensures.count c.split_at.ensures.front c.split_at.ensures.back in
    subst (All (Contains ds)) (sym both.0) (of-among print_number k ds)

pub write_print-requires-clause-shown : goal.write_print-requires-clause-shown
write_print-requires-clause-shown c =
    let ds = c.args.handed.now.program.deliveries in
    let k = c.loop-print.print in
    let both = cut print_number k c.count_of.result ds c.loop-print.rest.now c.split_at.result.0.now c.split_at.result.1.now c.requires.ascending c.loop-print.invariant.rest c.count_of.ensures.count c.split_at.ensures.front c.split_at.ensures.back in
    let below : k < prints_of c.args.handed.now.program = subst (λ (n : ℕ). k < n) (c.prints_of-print-end.ensures ∙ ap prints_of c.program-program.ensures) c.loop-print-test.true in
    subst (IsShown c.args.roots.now (array_found c.args.handed.now)) (sym both.0) (c.requires.shown k below)

pub loop-print-preserved : goal.loop-print-preserved
loop-print-preserved c =
    let p = c.args.handed.now.program in
    let T = c.args.roots.now in
    let k = c.loop-print.print in
    let both = cut print_number k c.count_of.result p.deliveries c.loop-print.rest.now c.split_at.result.0.now c.split_at.result.1.now c.requires.ascending c.loop-print.invariant.rest c.count_of.ensures.count c.split_at.ensures.front c.split_at.ensures.back in
    let arrays = array_found c.args.handed.now in
    let f : ℕ → Printed = λ n. shown T arrays (deliveries_for p n) in
    let one : printed_block c.args.summary (shown T arrays c.split_at.result.0.now) ≡ printed_block c.args.summary (f k) = ap (λ (ds : List Delivery). printed_block c.args.summary (shown T arrays ds)) both.0 in
    let more : output c.args.summary (map f (range_with_len 0 (k + 1))) ≡ output c.args.summary (map f (range_with_len 0 k)) ++ printed_block c.args.summary (f k) =
    ap (output c.args.summary) (map-range_with_len_more f 0 k k (omega arith)) ∙ flat_map-append (printed_block c.args.summary) (map f (range_with_len 0 k)) (f k ∷ []) ∙ ap (λ (xs : List ℕ). output c.args.summary (map f (range_with_len 0 k)) ++ xs) (append-nil (printed_block c.args.summary (f k))) in
    record {
      text = c.in_ok-write_print.ensures ∙ ap (λ (xs : List ℕ). xs ++ printed_block c.args.summary (shown T arrays c.split_at.result.0.now)) c.loop-print.invariant.text ∙ ap (λ (xs : List ℕ). output c.args.summary (map f (range_with_len 0 k)) ++ xs) one ∙ sym more;
      rest = both.1;
    }

pub returns : goal.returns
returns c =
    let p = c.args.handed.now.program in
    let arrays = array_found c.args.handed.now in
    let end : c.loop-print.print ≡ prints_of p = omega (arith, c.loop-print-test.false, c.loop-print.auto.print-end, c.prints_of-print-end.ensures, ap prints_of c.program-program.ensures) in
    c.loop-print.invariant.text ∙ ap (λ (n : ℕ). output c.args.summary (map (λ k. shown c.args.roots.now arrays (deliveries_for p k)) (range_with_len 0 n))) end
