-- Seats that were split off and joined again.
use Rattle.std.specs.Prelude.{ℕ, ◌⊎◌, Contains}
use Rattle.run_words.specs.Answered.{IsOut}
use Rattle.run_words.specs.Words.{numbers_of, splits_of}
use Rattle.run_words.specs.declared.seats.WordSeat.{WordSeat}
use Rattle.run_words.specs.declared.works.WordWork.{WordWork}

-- in between, a seat kept what had been joined into it, and each seat that was split off it was joined into it
pub record Rejoined (s t : WordSeat) : Type 0 where
  pub kept : (n : ℕ) → Contains (numbers_of s) n → Contains (numbers_of t) n
  pub back : (n : ℕ) → Contains (splits_of t) n → Contains (splits_of s) n ⊎ Contains (numbers_of t) n

-- after that, a seat was split off, which the work has
abbrev pub HasTaken : WordSeat → WordSeat → WordWork → Type 0
HasTaken s t k = (between : WordSeat) × Rejoined s between × IsOut between t k
