use Rattle.std.proofs.Common.{◌≡◌, ◌+◌, ◌-◌, ◌++◌, ◌∷◌, [], length, take, drop, ap, sym, ◌∙◌, arith}
use Rattle.std.proofs.lemmas.List.{take_more, take_all, take_rest}
use Rattle.std.proofs.lemmas.Option.{get_or_from_slice_get, slice_get_within}
use Rattle.sj_trace.specs.Text.{line_of}
use Rattle.sj_trace.proofs.Progress.{text-more, line-each}
use Rattle.sj_trace.proofs.text.text.Goals as goal

pub loop-i-preserved : goal.loop-i-preserved
loop-i-preserved c =
    let events = c.args.trace.now.events in
    let event = c.get-event.result in
    let here = get_or_from_slice_get events c.loop-i.i event event c.get-event.ensures in
    let more : take (c.loop-i.i + 1) events ≡ take c.loop-i.i events ++ event ∷ [] = take_more events c.loop-i.i event (slice_get_within events c.loop-i.i event c.get-event.ensures) ∙ ap (λ e. take c.loop-i.i events ++ e ∷ []) here in
    let line = c.write_line-start.new.line in
    let start = c.write_line-start.result in
    let written : take (48 - start) (drop start line) ≡ line_of event = ap (λ n. take (n - start) (drop start line)) (sym c.write_line-start.array_long) ∙ take_rest line start ∙ c.write_line-start.ensures in
    let whole : c.extend_from_slice.new.self.items ≡ c.loop-i.text.items ++ line_of event = c.in_ok-extend_from_slice.ensures.items ∙ ap (λ l. c.loop-i.text.items ++ l) written in
    rw (more, whole) (text-more c.loop-i.text.items (take c.loop-i.i events) event c.loop-i.invariant c.event_fits.ensures)

pub returns-clause-a_line_each : goal.returns-clause-a_line_each
returns-clause-a_line_each c =
    let events = c.args.trace.now.events in
    let all : take c.loop-i.i events ≡ events = take_all c.loop-i.i events (omega arith) in
    line-each c.loop-i.text.items (take c.loop-i.i events) c.loop-i.invariant ∙ ap length all
