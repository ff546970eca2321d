-- Lines and words as they are told, and how many more there are.
use Rattle.std.specs.Prelude.{◌≡◌, ℕ, ◌+◌, ◌-◌, ◌≤◌, ◌==◌, nat_lt, cond, List, [], ◌∷◌, ◌++◌, length, take, drop, Contains, codes, decimal}
use Rattle.std.specs.Str.{bytes_eq}
use Rattle.graph_words.specs.Words.{pieces}
use Rattle.explain_text.specs.declared.bounds.TheConstants.{MAX_SHOWN, NEAR_FRONT, BEFORE_WORD}

-- a line or a word as it is told: of a long one the front, and `..`
abbrev pub shown : List ℕ → List ℕ
shown l = cond (nat_lt MAX_SHOWN (length l)) (take (MAX_SHOWN - 2) l ++ codes "..") l

-- the place in bytes of a word among words with one byte between them, the first of which stands at place n; 0 where it is none of them
abbrev pub place_of : List ℕ → ℕ → List (List ℕ) → ℕ
place_of w n [] = 0
place_of w n (x ∷ xs) = cond (bytes_eq x w) n (place_of w (n + length x + 1) xs)

-- what stands from a place of a long line on, with `..` before it, and behind it where it is long
abbrev pub shown_behind : List ℕ → List ℕ
shown_behind rest = codes ".." ++ cond (nat_lt (MAX_SHOWN - 2) (length rest)) (take (MAX_SHOWN - 4) rest ++ codes "..") rest

-- the part of a long line around a place: its front, or what stands from a few bytes before the place on
abbrev pub shown_at : ℕ → List ℕ → List ℕ
shown_at p l = cond (nat_lt p NEAR_FRONT) (shown l) (shown_behind (drop (p - BEFORE_WORD) l))

-- a line as it is told for a word of it: of a long one the part around the word
abbrev pub shown_for : List ℕ → List ℕ → List ℕ
shown_for w l = cond (nat_lt MAX_SHOWN (length l)) (shown_at (place_of w 0 (pieces 32 l)) l) l

-- bytes have others among them, one behind the other
abbrev pub HasPart : List ℕ → List ℕ → Type 0
HasPart bs w = (k : ℕ) × (take (length w) (drop k bs) ≡ w)

-- a line that is told for a word is told in few bytes, and the word is among them, where it is one of the line's and is not long
pub record TellsWord (w l : List ℕ) : Type 0 where
  pub few : length (shown_for w l) ≤ MAX_SHOWN
  pub told : Contains (pieces 32 l) w → length w ≤ MAX_SHOWN - NEAR_FRONT - 2 → HasPart (shown_for w l) w

-- how many more there are
abbrev pub more_text : ℕ → List ℕ
more_text n = cond (n == 0) [] (codes "and " ++ (decimal n ++ codes " more\n"))
