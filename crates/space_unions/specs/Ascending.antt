-- Intervals that ascend, and two lists of them gone through side by side.
use Rattle.std.specs.Prelude.{◌≡◌, ℕ, ◌+◌, ◌^◌, ◌<◌, ◌≤◌, ◌||◌, List, [], ◌∷◌, length, get_or}
use Rattle.index_spaces.specs.Space.{interval_has, has_point}

-- intervals that ascend from low, and end two below high
abbrev pub AscendTo : ℕ → List (ℕ × ℕ) → ℕ → Type 0
AscendTo low [] high = low ≤ high
AscendTo low (i ∷ s) high = (low ≤ i.0) × (i.0 ≤ i.1) × (i.1 < 2 ^ 32) × AscendTo (i.1 + 2) s high

-- the interval at a of the first list is there, and that at b of the second does not begin below it
pub record IsNext (s t : List (ℕ × ℕ)) (a b : ℕ) : Type 0 where
  pub there : a < length s
  pub low : b < length t → (get_or s a (0, 0)).0 ≤ (get_or t b (0, 0)).0

-- what is done and what is last has the points of the next interval besides
pub record Absorbs (old : List (ℕ × ℕ)) (last next : ℕ × ℕ) (new : List (ℕ × ℕ)) (now : ℕ × ℕ) : Type 0 where
  pub points : (p : ℕ) → (has_point new p || interval_has now p) ≡ ((has_point old p || interval_has last p) || interval_has next p)
  pub ascending : AscendTo 0 new now.0
  pub low : now.0 ≤ now.1
  pub begins : now.0 ≤ next.0
