-- What the memories of a store have reserved and used in all. The rules here are own: CP/M has one memory and no store.
use Rattle.std.specs.Prelude.{ℕ, List, Option, Some, None, count_by, sum_by, is_some}
use Rattle.cpm_memory.specs.Contents.{Contents, touched_of, room_of}

-- how many pages of a table's memory may be written; none where the table is not taken (own)
abbrev pub limit_at : Option Contents → ℕ
limit_at None = 0
limit_at (Some c) = c.limit

-- how many of them were written (own)
abbrev pub touched_at : Option Contents → ℕ
touched_at None = 0
touched_at (Some c) = touched_of c

-- how many more may be written (own)
abbrev pub room_at : Option Contents → ℕ
room_at None = 0
room_at (Some c) = room_of c

-- how many tables are taken (own)
abbrev pub taken_in : List (Option Contents) → ℕ
taken_in memories = count_by is_some memories

-- how many frames the tables have reserved (own)
abbrev pub reserved_in : List (Option Contents) → ℕ
reserved_in memories = sum_by limit_at memories

-- how many pages of all memories were written (own)
abbrev pub touched_in : List (Option Contents) → ℕ
touched_in memories = sum_by touched_at memories

-- how many frames the tables have reserved and not used (own)
abbrev pub unused_in : List (Option Contents) → ℕ
unused_in memories = sum_by room_at memories
