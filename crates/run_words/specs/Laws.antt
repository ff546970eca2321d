-- When seats that were split off were joined again: as seats go from one to the next, and whether all are back.
use Rattle.std.specs.Prelude.{◌≡◌, ℕ, [], ◌∷◌, ◌++◌}
use Rattle.run_words.specs.Answered.{IsOut, AreBack, work_numbers, work_splits}
use Rattle.run_words.specs.Rejoined.{Rejoined}
use Rattle.run_words.specs.Words.{numbers_of, splits_of, HasAll}
use Rattle.run_words.specs.declared.seats.WordSeat.{WordSeat}
use Rattle.run_words.specs.declared.works.WordWork.{WordWork}

-- nothing was done, and one thing after another
abbrev pub RejoinedAtFirst : Type 0
RejoinedAtFirst = (s : WordSeat) → Rejoined s s

abbrev pub RejoinedFurther : Type 0
RejoinedFurther = (s t u : WordSeat) → Rejoined s t → Rejoined t u → Rejoined s u

-- no seat was split off or joined
abbrev pub RejoinedAsBefore : Type 0
RejoinedAsBefore = (s t : WordSeat) → (numbers_of t ≡ numbers_of s) × (splits_of t ≡ splits_of s) → Rejoined s t

-- those that were split off were joined at once
abbrev pub RejoinedAtOnce : Type 0
RejoinedAtOnce = (s t : WordSeat) → AreBack s t → Rejoined s t

-- the seat of a work was split off, others were and were joined again, and then it was joined
abbrev pub RejoinedWithWork : Type 0
RejoinedWithWork = (s t u v : WordSeat) (k : WordWork) → IsOut s t k → Rejoined t u
    → (numbers_of v ≡ numbers_of u ++ work_numbers k) × (splits_of v ≡ splits_of u ++ work_splits k) → Rejoined s v

-- a seat was split off, both were driven, and it was joined
abbrev pub RejoinedWithOther : Type 0
RejoinedWithOther = (s t p one other last : WordSeat)
    → (n : ℕ) × (numbers_of p ≡ n ∷ []) × (splits_of p ≡ []) × (numbers_of t ≡ numbers_of s) × (splits_of t ≡ splits_of s ++ n ∷ [])
    → Rejoined t one → Rejoined p other
    → (numbers_of last ≡ numbers_of one ++ numbers_of other) × (splits_of last ≡ splits_of one ++ splits_of other) → Rejoined s last

-- all are back at first, and stay so
abbrev pub AllAtFirst : Type 0
AllAtFirst = (s : WordSeat) → (numbers_of s ≡ 0 ∷ []) × (splits_of s ≡ []) → HasAll s

abbrev pub AllStill : Type 0
AllStill = (s t : WordSeat) → HasAll s → Rejoined s t → HasAll t
