-- For how many hints a deque has room.
use Rattle.std.specs.Prelude.{ℕ, min, max}

-- one for each number below the bound n, but not fewer than 64 and not more than 1,024
abbrev pub room_for : ℕ → ℕ
room_for n = min (max n 64) 1024
