-- Intervals that do not ascend.
use Rattle.std.specs.Prelude.{ℕ, ◌+◌, ◌==◌, nat_lt, cond, List, [], ◌∷◌, ◌++◌, codes, decimal, Option, Some, None}
use Rattle.std.specs.Option.{option_map_or}
use Rattle.graph_words.specs.Words.{intervals_of}
use Rattle.word_forms.specs.declared.order.OrderFault.{OrderFault}
use Rattle.word_forms.specs.declared.order.OrderFault.TheVariants.{Reversed, Near}

abbrev pub interval_text : ℕ → ℕ → List ℕ
interval_text low high = decimal low ++ (codes ".." ++ decimal high)

-- one that ends before it begins
abbrev pub reversed_text : ℕ × ℕ → List ℕ
reversed_text i = interval_text i.0 i.1 ++ codes " ends before it begins\n"

-- two that touch are written as one
abbrev pub touching_text : ℕ → ℕ → List ℕ
touching_text low high = codes " touch: write " ++ (interval_text low high ++ codes "\n")

-- what is wrong between two
abbrev pub gap_text : ℕ × ℕ → ℕ × ℕ → List ℕ
gap_text i j = cond (i.1 + 1 == j.0) (touching_text i.0 j.1) (codes ": an interval begins at least 2 above the end of the one before it\n")

-- one that does not begin at least 2 above the end of the one before it
abbrev pub near_text : ℕ × ℕ → ℕ × ℕ → List ℕ
near_text i j = interval_text i.0 i.1 ++ (codes " and " ++ (interval_text j.0 j.1 ++ gap_text i j))

abbrev pub fault_text : OrderFault → List ℕ
fault_text (Reversed i) = reversed_text i
fault_text (Near i j) = near_text i j

-- the first interval that is not in order behind one that is
abbrev pub fault_from : ℕ × ℕ → List (ℕ × ℕ) → Option OrderFault
fault_from i [] = None
fault_from i (j ∷ js) = cond (nat_lt j.1 j.0) (Some (Reversed j)) (cond (nat_lt j.0 (i.1 + 2)) (Some (Near i j)) (fault_from j js))

abbrev pub first_fault : List (ℕ × ℕ) → Option OrderFault
first_fault [] = None
first_fault (i ∷ is) = cond (nat_lt i.1 i.0) (Some (Reversed i)) (fault_from i is)

abbrev pub order_text : List (ℕ × ℕ) → List ℕ
order_text is = option_map_or fault_text (first_fault is) []

-- of the intervals that a word spells
abbrev pub intervals_text : List ℕ → List ℕ
intervals_text w = option_map_or order_text (intervals_of w) []
