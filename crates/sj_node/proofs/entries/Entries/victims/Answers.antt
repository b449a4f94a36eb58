use Rattle.std.proofs.Common.{rules, ◌-◌, ◌≡◌, ◌∙◌, ◌++◌, ◌∷◌, [], map, arith, not, true, ap, subst}
use Rattle.std.proofs.lemmas.List.{map-append}
use Rattle.sj_node.specs.Entry.{is_of_cells, is_unpinned}
use Rattle.sj_node.specs.Entries.{as_entry}
use Rattle.sj_node.proofs.Choosing.{IsSearch, search_finds, search_takes, spare}
use Rattle.sj_node.proofs.entries.Entries.victims.Goals as goal

pub loop-lacking-preserved-then-not-contains : goal.loop-lacking-preserved-then-not-contains
loop-lacking-preserved-then-not-contains c =
    let e = as_entry (c.in-Some.cell.now, c.in-Some.room.now) in
    let is_free : is_unpinned e ≡ true = search rules in
    let is_apart : not (is_of_cells c.args.held.now e) ≡ true = search rules in
    let split : c.loop-lacking.rest ≡ c.next_back.new.self ++ (c.in-Some.cell.now, c.in-Some.room.now) ∷ [] = search rules in
    let shows : map as_entry c.loop-lacking.rest ≡ map as_entry c.next_back.new.self ++ e ∷ [] = ap (map as_entry) split ∙ map-append as_entry c.next_back.new.self ((c.in-Some.cell.now, c.in-Some.room.now) ∷ []) in
    let before = subst (λ es. IsSearch c.args.held.now c.args.free c.args.need c.args.self.now.order es c.loop-lacking.found.items c.loop-lacking.lacking) shows c.loop-lacking.invariant in
    let found : c.push.new.self.items ≡ c.loop-lacking.found.items ++ e.cell ∷ [] = search rules in
    let less : c.saturating_sub-lacking-then-not-contains.result ≡ c.loop-lacking.lacking - e.bytes = search rules in
    rw (found, less) (search_takes c.args.held.now c.args.free c.args.need c.args.self.now.order (map as_entry c.next_back.new.self) e c.loop-lacking.found.items c.loop-lacking.lacking (spare c.args.held.now e is_free is_apart) (search rules) before)

pub returns : goal.returns
returns c = search_finds c.args.held.now c.args.free c.args.need c.args.self.now.order (map as_entry c.loop-lacking.rest) c.loop-lacking.found.items c.loop-lacking.lacking (omega arith) c.loop-lacking.invariant
