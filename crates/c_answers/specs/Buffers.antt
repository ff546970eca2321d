-- A text that is handed out in a caller's buffer.
use Rattle.std.specs.Prelude.{◌≡◌, ℕ, ◌<◌, List, length, take, drop}

-- the buffer begins with all of the text, and what stands behind it stays
pub record Holds (text old new : List ℕ) (written : ℕ) : Type 0 where
  pub size : length new ≡ length old
  pub count : written ≡ length text
  pub front : take written new ≡ text
  pub rest : drop written new ≡ drop written old

-- the buffer is too short for the text, and is the first part of it; how long the text is was told
pub record IsCut (text old new : List ℕ) (written : ℕ) : Type 0 where
  pub short : length old < length text
  pub count : written ≡ length text
  pub front : new ≡ take (length old) text
