use Rattle.std.proofs.Common.{◌≡◌, ◌++◌, take}
use Rattle.std.specs.List.{flat_map}
use Rattle.sj_text.specs.Text.{node_line}
use Rattle.sj_text.proofs.settings.write_node_lines.Given as goal

abbrev pub invariant-loop-bytes : goal.invariant-loop-bytes
invariant-loop-bytes l = l.text.items ≡ l.initial.text.items ++ flat_map node_line (take l.bytes-index l.nodes)
