-- No two lists of events have the same lines.
use Rattle.std.proofs.Common.{◌≡◌, List, [], ◌∷◌, ◌++◌, map, ap, drop, get_or, refl}
use Rattle.std.specs.List.{All}
use Rattle.std.proofs.lemmas.List.Elements.{All-head, All-tail}
use Rattle.sj_base.specs.declared.trace.Event.{Event}
use Rattle.sj_trace.specs.Text.{line_of}
use Rattle.sj_trace.specs.Reading.{EventFits}
use Rattle.sj_trace.proofs.Taking.{event-first}

pub lines-same : (es fs : List Event) → All EventFits es → All EventFits fs → map line_of es ≡ map line_of fs → es ≡ fs
lines-same [] [] l k h = refl
lines-same [] (f ∷ fs) l k h = absurd (cc)
lines-same (e ∷ es) [] l k h = absurd (cc)
lines-same (e ∷ es) (f ∷ fs) l k h =
    let first = event-first e f [] [] (All-head EventFits e es l) (All-head EventFits f fs k) (ap (λ ls. get_or ls 0 [] ++ []) h) in
    let others = lines-same es fs (All-tail EventFits e es l) (All-tail EventFits f fs k) (ap (drop 1) h) in
    cc (first.0, others)
