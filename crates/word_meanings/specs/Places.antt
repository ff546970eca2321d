-- Words in their places and the numbers that they spell.
use Rattle.std.specs.Prelude.{◌≡◌, ℕ, ◌^◌, ◌<◌, ◌≤◌, true, false, List, [], length, decimal, codes}
use Rattle.std.specs.List.{list_any}
use Rattle.graph_terms.specs.declared.verb.Line.{Line}
use Rattle.graph_terms.specs.Graph.{GraphValue, named_spaces, columns, data_columns, locks, barriers, line_passes, is_user, is_phase, is_acquire, is_release_of, ends_user}
use Rattle.graph_terms.specs.Spelling.{space_name, lock_name, barrier_name, line_name, column_name, data_name}
use Rattle.graph_terms.specs.Limits.{limits}
use Rattle.graph_words.specs.Draft.{Place, NewName, SpaceName, LockName, BarrierName, UserName, PhaseName, AcquireName, EventName, CallName, Column, DataColumn, Fields, Value, Times, Weight, Shared, Count, Intervals, number_in_place}
use Rattle.word_meanings.specs.WordFaults.{misnamed, unknown, twice, unlike, misnumbered, misordered}
use Rattle.word_meanings.specs.Words.{IsWord}

-- how a number is spelled in a place
abbrev pub spell : GraphValue → Place → ℕ → List ℕ
spell g SpaceName n = space_name g n
spell g LockName n = lock_name g n
spell g BarrierName n = barrier_name g n
spell g UserName n = line_name g n
spell g PhaseName n = line_name g n
spell g AcquireName n = line_name g n
spell g EventName n = line_name g n
spell g Column n = column_name g n
spell g DataColumn n = data_name g n
spell g CallName n = []
spell g Value n = decimal n
spell g Times n = codes "times"
spell g Shared n = codes "shared"
spell g Weight n = decimal n
spell g Count n = decimal n
spell g NewName n = []
spell g Fields n = []
spell g Intervals n = []

-- no reason refuses the word in its place
pub record IsFine (g : GraphValue) (p : Place) (w : List ℕ) : Type 0 where
  pub named : misnamed g.format p w ≡ false
  pub once : twice g p w ≡ false
  pub known : unknown g p w ≡ false
  pub alike : unlike g p w ≡ false
  pub numbered : misnumbered g.format p w ≡ false
  pub ordered : misordered p w ≡ false

-- a number that fits its place
abbrev pub FitsPlace : GraphValue → Place → ℕ → Type 0
FitsPlace g SpaceName n = n < length (named_spaces g)
FitsPlace g LockName n = n < length (locks g)
FitsPlace g BarrierName n = n < length (barriers g)
FitsPlace g UserName n = (line_passes is_user g n ≡ true) × (list_any (λ (l : Line). ends_user n l.verb) g.lines ≡ false)
FitsPlace g PhaseName n = line_passes is_phase g n ≡ true
FitsPlace g AcquireName n = (line_passes is_acquire g n ≡ true) × (list_any (λ (l : Line). is_release_of n l.verb) g.lines ≡ false)
FitsPlace g EventName n = n < length g.lines
FitsPlace g Column n = n < length (columns g)
FitsPlace g DataColumn n = n < length (data_columns g)
FitsPlace g CallName n = ⊥
FitsPlace g Value n = n < 2 ^ 64
FitsPlace g Times n = n ≡ 0
FitsPlace g Shared n = n ≡ 0
FitsPlace g Weight n = (1 < n) × (n ≤ (limits g.format).count)
FitsPlace g Count n = (0 < n) × (n ≤ (limits g.format).count)
FitsPlace g NewName n = ⊥
FitsPlace g Fields n = ⊥
FitsPlace g Intervals n = ⊥

-- the word is read as the number
pub record Reads (g : GraphValue) (p : Place) (n : ℕ) (w : List ℕ) : Type 0 where
  pub fine : IsFine g p w
  pub number_is : number_in_place g p w ≡ n
  pub word : IsWord w

-- a place of a number or of a name that stands for one
abbrev pub IsNumbered : Place → Type 0
IsNumbered NewName = ⊥
IsNumbered CallName = ⊥
IsNumbered Fields = ⊥
IsNumbered Intervals = ⊥
IsNumbered _ = Unit {0}

-- what a number has where its place bounds it
abbrev pub IsBounded : Place → ℕ → Type 0
IsBounded Value n = n < 2 ^ 64
IsBounded Weight n = (1 < n) × (n ≤ 65536)
IsBounded Count n = (0 < n) × (n ≤ 65536)
IsBounded _ n = Unit {0}

-- the word is the spelling of the number that it is read as
pub record IsSpelled (g : GraphValue) (p : Place) (w : List ℕ) : Type 0 where
  pub word_is : spell g p (number_in_place g p w) ≡ w
  pub bounded : IsBounded p (number_in_place g p w)
