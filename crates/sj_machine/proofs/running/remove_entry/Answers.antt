use Rattle.sj_machine.proofs.Words.{ap, false, is_entry, List, mark_at, NodeEntry, rules, sym, with_entries, ◌∙◌, ◌≡◌}
use Rattle.sj_machine.proofs.Entries.{without_entry-absent}
use Rattle.sj_machine.proofs.running.remove_entry.Goals as goal

pub returns-then-not-is_entry_mark : goal.returns-then-not-is_entry_mark
returns-then-not-is_entry_mark c =
    let told : is_entry (mark_at c.args.rows.now c.args.k c.args.cell) ≡ false = search rules in
    ap (λ (es : List NodeEntry). with_entries c.args.node.now es) (sym (without_entry-absent c.args.cell c.args.node.now.entries (c.requires.absent told)))

pub returns-else-has : goal.returns-else-has
returns-else-has c = ap (λ (es : List NodeEntry). with_entries c.args.node.now es) (sym (without_entry-absent c.args.cell c.args.node.now.entries (sym c.has.ensures ∙ c.if-has.false)))
