-- The turns of an admission: the cells are in, and the victims go out one after another.
use Rattle.std.proofs.Common.{◌≡◌, ℕ, ◌+◌, ◌-◌, ◌<◌, ◌≤◌, true, false, List, length, take, take_all, get_or, sum, sym, ap, ◌∙◌, arith}
use Rattle.std.specs.List.{All}
use Rattle.std.proofs.lemmas.List.Elements.{All-take}
use Rattle.sj_base.specs.declared.ids.Cell.{Cell}
use Rattle.sj_node.specs.Entry.{has_entry, total, without_entry, without_all, put_cells, admitted}
use Rattle.sj_node.specs.Entries.{Listed, listed}
use Rattle.sj_node.specs.Store.{Store, used_bytes, free_bytes, with_entries}
use Rattle.sj_node.proofs.Putting.{without_all-none, without_all_more, total-put_cells, total-without_all-put_cells, total-without_all-le, without_all-put_cells}

module _ (old : Store) (victims cells : List Cell) (bytes : List ℕ) where
  -- the first i of the victims are out, and their bytes are counted off already
  pub record IsTurn (i : ℕ) (entries : Listed) (size scratch filled : ℕ) : Type 0 where
    pub now : entries ≡ listed (without_all (take i victims) (put_cells cells bytes old.entries)) old.limit
    pub counted : filled + sum bytes ≡ total entries.order
    pub sized : size ≡ old.size
    pub held : scratch ≡ old.scratch

  -- what the last turn leaves
  pub record IsLast (entries : Listed) (size scratch filled : ℕ) : Type 0 where
    pub now : entries ≡ listed (admitted victims cells bytes old.entries) old.limit
    pub counted : filled + sum bytes ≡ total entries.order
    pub within : filled + sum bytes + scratch ≤ size
    pub sized : size ≡ old.size
    pub held : scratch ≡ old.scratch

  -- what the cells must be, and the victims
  pub record IsFair : Type 0 where
    pub paired : length cells ≡ length bytes
    pub there : All (λ v. has_entry old.entries v ≡ true) victims
    pub absent : All (λ c. has_entry old.entries c ≡ false) cells

module _ {old : Store} {victims cells : List Cell} {bytes : List ℕ} (fair : IsFair old victims cells bytes) where
  bytes_at : (i : ℕ) → total (without_all (take i victims) (put_cells cells bytes old.entries)) ≡ sum bytes + total (without_all (take i victims) old.entries)
  bytes_at i = total-without_all-put_cells (take i victims) cells bytes old.entries fair.paired (All-take (λ v. has_entry old.entries v ≡ true) i victims fair.there) fair.absent

  pub turn_first : {entries : Listed} {size scratch filled : ℕ} → entries ≡ listed (put_cells cells bytes old.entries) old.limit → filled ≡ total old.entries → size ≡ old.size → scratch ≡ old.scratch → IsTurn old victims cells bytes 0 entries size scratch filled
  turn_first {entries} now counted sized held = record {
    now = now ∙ ap (λ es. listed es old.limit) (sym (without_all-none (put_cells cells bytes old.entries)));
    counted = let all : total entries.order ≡ sum bytes + total old.entries = ap (λ (v : Listed). total v.order) now ∙ total-put_cells cells bytes old.entries fair.paired in omega arith;
    sized = sized;
    held = held;
  }

  -- the bytes that the next victim gives are counted, and stay so
  pub turn_next : {i : ℕ} {entries new : Listed} {size scratch filled freed : ℕ} → IsTurn old victims cells bytes i entries size scratch filled → i < length victims → new ≡ listed (without_entry (get_or victims i (record { 0 = 0 })) entries.order) entries.limit → freed + total new.order ≡ total entries.order → (freed ≤ filled) × IsTurn old victims cells bytes (i + 1) new size scratch (filled - freed)
  turn_next {i} {entries} {new} t within out gives =
      let now : new ≡ listed (without_all (take (i + 1) victims) (put_cells cells bytes old.entries)) old.limit = out ∙ rw t.now (ap (λ es. listed es old.limit) (sym (without_all_more victims i (record { 0 = 0 }) (put_cells cells bytes old.entries) within))) in
      let left : total new.order ≡ sum bytes + total (without_all (take (i + 1) victims) old.entries) = ap (λ (v : Listed). total v.order) now ∙ bytes_at (i + 1) in (
        omega (arith, t.counted),
        record {
          now = now;
          counted = omega (arith, t.counted);
          sized = t.sized;
          held = t.held;
        },
      )

  pub turn_last : {i : ℕ} {entries : Listed} {size scratch filled : ℕ} → IsTurn old victims cells bytes i entries size scratch filled → length victims ≤ i → used_bytes old ≤ old.size → sum bytes ≤ free_bytes (with_entries old (without_all victims old.entries)) → IsLast old victims cells bytes entries size scratch filled
  turn_last {i} {entries} t all fit fits =
      let each : take i victims ≡ victims = take_all i victims all in
      let left : total entries.order ≡ sum bytes + total (without_all victims old.entries) = ap (λ (v : Listed). total v.order) t.now ∙ bytes_at i ∙ ap (λ vs. sum bytes + total (without_all vs old.entries)) each in
      record {
        now = t.now ∙ ap (λ vs. listed (without_all vs (put_cells cells bytes old.entries)) old.limit) each ∙ ap (λ es. listed es old.limit) (without_all-put_cells victims cells bytes old.entries fair.paired fair.there fair.absent);
        counted = t.counted;
        within = omega (arith, t.counted, t.sized, t.held, total-without_all-le victims old.entries);
        sized = t.sized;
        held = t.held;
      }
