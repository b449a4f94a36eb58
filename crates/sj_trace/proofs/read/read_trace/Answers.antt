use Rattle.std.proofs.Common.{◌≡◌, ◌+◌, List, [], ◌∷◌, ◌++◌, map, ap, sym, ◌∙◌, subst, arith}
use Rattle.sj_base.specs.declared.trace.Event.{Event}
use Rattle.sj_trace.specs.Text.{line_of, whole_lines}
use Rattle.sj_trace.proofs.Progress.{AreRead, bad-line, fewer, lines-behind, no-others, none-bad, one-more, some_line}
use Rattle.sj_trace.proofs.read.read_trace.Goals as goal

pub overflow_cast-number : goal.overflow_cast-number
overflow_cast-number c =
    let first = some_line c.loop-rest.rest.now (sym c.is_empty.ensures ∙ c.loop-rest-test.true) in
    omega (arith, c.len.ensures, c.requires.few_lines, fewer c.args.text.now c.loop-rest.rest.now c.loop-rest.trace.events c.loop-rest.invariant first)

pub overflow_add-number : goal.overflow_add-number
overflow_add-number c =
    let first = some_line c.loop-rest.rest.now (sym c.is_empty.ensures ∙ c.loop-rest-test.true) in
    omega (arith, c.len.ensures, c.requires.few_lines, fewer c.args.text.now c.loop-rest.rest.now c.loop-rest.trace.events c.loop-rest.invariant first)

pub returns-in_default-clause-bad_line : goal.returns-in_default-clause-bad_line
returns-in_default-clause-bad_line c =
    let rest = c.loop-rest.rest.now in
    let events = c.loop-rest.trace.events in
    let first = some_line rest (sym c.is_empty.ensures ∙ c.loop-rest-test.true) in record {
      before = events;
      line = first.line;
      behind = whole_lines first.behind;
      fit = c.loop-rest.invariant.fit;
      divides = lines-behind c.args.text.now rest events c.loop-rest.invariant ∙ ap (λ l. map line_of events ++ l) first.divides;
      counts = ap (λ n. n + 1) c.len.ensures;
      bad = bad-line rest first c.in_default.ensures;
    }

pub returns-in_default-clause-refuses_no_trace : goal.returns-in_default-clause-refuses_no_trace
returns-in_default-clause-refuses_no_trace c = λ events is.
    let rest = c.loop-rest.rest.now in
    let first = some_line rest (sym c.is_empty.ensures ∙ c.loop-rest-test.true) in
    let divides = lines-behind c.args.text.now rest c.loop-rest.trace.events c.loop-rest.invariant ∙ ap (λ l. map line_of c.loop-rest.trace.events ++ l) first.divides in
    absurd (none-bad c.args.text.now first.line events c.loop-rest.trace.events (whole_lines first.behind) is divides (bad-line rest first c.in_default.ensures))

pub loop-rest-preserved : goal.loop-rest-preserved
loop-rest-preserved c =
    let added : c.loop-rest.trace.events ++ c.in-Some.event ∷ [] ≡ c.add.new.self.events =
    ap (λ es. es ++ c.in-Some.event ∷ []) (sym c.in_ok-reserve.ensures.events) ∙ sym c.add.ensures.events in
    let more = one-more c.args.text.now c.loop-rest.rest.now c.in-Some.behind.now c.loop-rest.trace.events c.in-Some.event c.loop-rest.invariant c.in-Some.ensures in
    subst (λ (es : List Event). AreRead c.args.text.now es c.in-Some.behind.now) added more

pub returns-clause-reads_back : goal.returns-clause-reads_back
returns-clause-reads_back c = λ events is. no-others c.args.text.now c.loop-rest.rest.now c.loop-rest.trace.events events c.loop-rest.invariant (sym c.is_empty.ensures ∙ c.loop-rest-test.false) is
