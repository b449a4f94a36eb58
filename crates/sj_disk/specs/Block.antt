-- A block: the bytes that a disk keeps of a cell.
use Rattle.std.specs.Prelude.{ℕ, ◌+◌, ◌*◌, ℤ, List, ◌++◌, length, flat_map}
use Rattle.std.specs.Int.{w64, to_le_bytes, cast_unsigned}
use Rattle.sj_disk.specs.declared.header.Header.{Header}

-- the eight bytes of a number, the lowest first
unfoldable pub word : ℕ → List ℕ
word n = to_le_bytes w64 n

-- the 24 bytes of a header: the cell, its write count, and how many elements follow
unfoldable pub header_bytes : Header → List ℕ
header_bytes h = word h.cell ++ word h.writes ++ word h.length

-- the bytes of elements, eight for each, in two's complement
unfoldable pub element_bytes : List ℤ → List ℕ
element_bytes xs = flat_map (λ z. word (cast_unsigned w64 z)) xs

abbrev pub header : ℕ → ℕ → ℕ → Header
header c writes n = record { cell = c; writes = writes; length = n }

-- the block of a cell that was written so often and has these elements
abbrev pub block : ℕ → ℕ → List ℤ → List ℕ
block c writes xs = header_bytes (header c writes (length xs)) ++ element_bytes xs

-- how many bytes the block of so many elements has
abbrev pub block_bytes : ℕ → ℕ
block_bytes n = 24 + 8 * n
