-- To believe. The ID of an INQUIRE. Assumes nothing.
use Rattle.std.specs.Prelude.{ℕ, ◌+◌, ◌%◌, ◌^◌}

-- "the INQUIRE's is one more, and 4294967295 is followed by 0"
abbrev pub id_after : ℕ → ℕ
id_after id = (id + 1) % 2 ^ 32
