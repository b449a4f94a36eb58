use Rattle.std.proofs.Common.{◌≡◌, ◌<◌, ◌∷◌, false, is_some, nat_eq, map, length, sym, ap, ◌∙◌, arith}
use Rattle.std.specs.Map.{lookup}
use Rattle.std.proofs.lemmas.List.{length-map}
use Rattle.lru.specs.LruCache.{lru_cache}
use Rattle.sj_node.specs.Entry.{has_entry}
use Rattle.sj_node.specs.Entries.{Listed, as_entry}
use Rattle.sj_node.proofs.Kept.{put_entries-absent, IsListed-put}
use Rattle.sj_node.proofs.Shown.{has_entry-shown}
use Rattle.sj_node.proofs.entries.Entries.put.Goals as goal

absent : (c : goal.In_ok-put) → is_some (lookup (nat_eq c.args.cell.0) c.self.inside.cache.entries) ≡ false
absent c = sym (has_entry-shown c.args.cell c.self.inside.cache.entries) ∙ (ap (λ (v : Listed). has_entry v.order c.args.cell) c.self.view_is ∙ c.requires.absent)

few : (c : goal.In_ok-put) → length c.self.inside.cache.entries < c.self.inside.limit
few c =
    let same : length (map as_entry c.self.inside.cache.entries) ≡ length c.args.self.now.order = ap (λ (v : Listed). length v.order) c.self.view_is in
    let limit : c.self.inside.limit ≡ c.args.self.now.limit = ap (λ (v : Listed). v.limit) c.self.view_is in
    omega (arith, c.requires.few, length-map c.self.inside.cache.entries as_entry)

put : (c : goal.In_ok-put) → c.put.new.self ≡ lru_cache ((c.args.cell.0, record { bytes = c.args.bytes; pins = 0 }) ∷ c.self.inside.cache.entries) c.self.inside.cache.cap
put c = c.in_ok-put.ensures.entries ∙ ap (λ es. lru_cache es c.self.inside.cache.cap) (put_entries-absent c.args.cell.0 c.self.inside.cache _ (absent c) (omega (arith, few c)))

pub invariant_of-self-2 : goal.invariant_of-self-2
invariant_of-self-2 c = rw (put c) (IsListed-put c.args.cell.0 c.self.inside.cache c.self.inside.limit _ (absent c) (few c) c.self.invariant)

pub returns-clause-ok : goal.returns-clause-ok
returns-clause-ok c = rw (put c, ← c.self.view_is)
