use Rattle.std.proofs.Common.{◌≡◌, ◌++◌, ◌*◌, take, drop, map}
use Rattle.std.specs.List.{flat_map, range_with_len}
use Rattle.sj_top.specs.Output.{row_text}
use Rattle.sj_top.proofs.output.write_rows.Given as goal

abbrev pub invariant-loop-i : goal.invariant-loop-i
invariant-loop-i l = l.text.items ≡ l.initial.text.items ++ flat_map row_text (map (λ i. take l.fn.dims.cols (drop (i * l.fn.dims.cols) l.elements)) (range_with_len 0 l.i))
