use Rattle.std.specs.Prelude.{◌≡◌, ℕ, ◌+◌, ◌-◌, ◌^◌, ◌<◌, ◌≤◌, min, ◌⊎◌, ⊤, Bool, true, false, Option, Some, None}

-- a count rose, or stands at its last value
abbrev pub Rose : ℕ → ℕ → Type 0
Rose old new = (old < new) ⊎ (new ≡ 18446744073709551615)

-- a count of 64 bits after one more
abbrev pub next_count : ℕ → ℕ
next_count n = min (n + 1) (2 ^ 64 - 1)

-- the same where there is one more
abbrev pub count_if : Bool → ℕ → ℕ
count_if true n = next_count n
count_if false n = n

-- where calls are counted, at most n more were made
abbrev pub MadeAtMost : Option ℕ → Option ℕ → ℕ → Type 0
MadeAtMost None new n = ⊤
MadeAtMost (Some before) None n = ⊥
MadeAtMost (Some before) (Some after) n = after ≤ before + n
