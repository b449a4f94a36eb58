use Rattle.std.proofs.Common.{◌≡◌, ◌≤◌, ◌-◌, length, take}
use Rattle.std.specs.Io.KnownBytes.{Appends}
use Rattle.sj_top.proofs.sink_text.write_some.Given as goal

abbrev pub invariant-loop-at : goal.invariant-loop-at
invariant-loop-at g l = record {
  bound : l.at ≤ length l.text;
  faults : g.O.Sink.faults l.sink ≡ g.O.Sink.faults l.initial.sink;
  taken : Appends (g.O.Sink.taken l.initial.sink) (g.O.Sink.taken l.sink) (take l.at l.text);
}

abbrev pub decreases-loop-at : goal.decreases-loop-at
decreases-loop-at g l = length l.text - l.at
