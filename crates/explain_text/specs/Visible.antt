-- Bytes as they are written: one that is not printable, but for a newline, as `\x` and two hexadecimal digits.
use Rattle.std.specs.Prelude.{◌≡◌, ℕ, ◌+◌, ◌<◌, ◌⊎◌, ◌==◌, nat_le, nat_lt, ◌/◌, ◌%◌, Bool, cond, ◌&&◌, ◌||◌, List, [], ◌∷◌, ◌++◌, length, flat_map}

abbrev pub is_plain : ℕ → Bool
is_plain b = (b == 10) || (nat_le 32 b && nat_le b 126)

abbrev pub hex_digit : ℕ → ℕ
hex_digit n = cond (nat_lt n 10) (48 + n) (87 + n)

abbrev pub visible_byte : ℕ → List ℕ
visible_byte b = cond (is_plain b) (b ∷ []) (92 ∷ 120 ∷ hex_digit ((b / 16) % 16) ∷ hex_digit (b % 16) ∷ [])

abbrev pub visible : List ℕ → List ℕ
visible bs = flat_map visible_byte bs

-- bytes are the others, or a front of them that has more bytes than this
abbrev pub IsFrontOf : ℕ → List ℕ → List ℕ → Type 0
IsFrontOf most front all = (front ≡ all) ⊎ ((most < length front) × (rest : List ℕ) × (all ≡ front ++ rest))
