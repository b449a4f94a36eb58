use Rattle.sj_machine.proofs.Words.{ap, arith, empty, has_entry, length, Node, Store, ◌<◌, ◌∙◌}
use Rattle.std.proofs.lemmas.{Bool.cases_eq, Grind.get_or-set_at, List.get_or-set_other, List.length-set}
use Rattle.sj_machine.proofs.running.evict_elsewhere.Goals as goal

pub loop-k-preserved : goal.loop-k-preserved
loop-k-preserved c =
    let inside : c.loop-k.k < length c.loop-k.nodes.items = omega (arith, c.loop-k.invariant.every) in
    record {
      every = (let next = c.evict_at.ensures (empty 0 0) in search (arith, length-set, c.loop-k.invariant.every));
      done = λ j d below within. (let next = c.evict_at.ensures d in let was = c.loop-k.invariant.rest j d in let had = c.loop-k.invariant.done j d in search (arith, cases_eq, get_or-set_at, get_or-set_other, was, had));
      rest = λ j d above. (let next = c.evict_at.ensures d in let was = c.loop-k.invariant.rest j d in search (arith, get_or-set_other, was));
    }

pub evict_at-requires-clause-marked : goal.evict_at-requires-clause-marked
evict_at-requires-clause-marked c = λ d cell.
    let k : Node = record { 0 = c.loop-k.k } in
    ap (λ (x : Store). has_entry x.entries cell) (c.loop-k.invariant.rest c.loop-k.k d (omega arith)) ∙ c.requires.marked k d (omega (arith, c.loop-k-test.true, c.len-k-end.ensures)) cell
