-- Words of a line, and how names and numbers are spelled.
use Rattle.std.specs.Prelude.{ℕ, ◌+◌, ◌==◌, nat_lt, nat_le, Bool, true, false, cond, ◌&&◌, List, [], ◌∷◌, Option, Some, None, map}
use Rattle.std.specs.List.{list_all, slice_split}
use Rattle.index_spaces.specs.declared.limits.TheConstants.{LAST_POINT}
use Rattle.graph_terms.specs.Limits.{limits}
use Rattle.graph_terms.specs.declared.format.Format.{Format}
use Rattle.graph_terms.specs.Name.{is_name_in}
use Rattle.basics.specs.Numbers.{number_up_to}
use Rattle.std.proofs.Common.{Bor}

-- the pieces of bytes between those that are c, one more than there are of these
abbrev pub pieces : ℕ → List ℕ → List (List ℕ)
pieces c bs = slice_split (λ b. b == c) bs

abbrev pub value_of : List ℕ → Option ℕ
value_of w = number_up_to 18446744073709551615 w

-- a number that is above another
abbrev pub above : ℕ → Option ℕ → Option ℕ
above low None = None
above low (Some n) = cond (nat_lt low n) (Some n) None

-- a number from 1 to the most arrivals that a phase of a format counts
abbrev pub count_of : Format → List ℕ → Option ℕ
count_of format w = above 0 (number_up_to (limits format).count w)

-- a number from 2 to as many
abbrev pub weight_of : Format → List ℕ → Option ℕ
weight_of format w = above 1 (number_up_to (limits format).count w)

abbrev pub both_numbers : Option ℕ → Option ℕ → Option (ℕ × ℕ)
both_numbers (Some lo) (Some hi) = Some (lo, hi)
both_numbers _ _ = None

-- two ends with two dots between them
abbrev pub interval_of : List (List ℕ) → Option (ℕ × ℕ)
interval_of (lo ∷ [] ∷ hi ∷ []) = both_numbers (number_up_to LAST_POINT lo) (number_up_to LAST_POINT hi)
interval_of _ = None

abbrev pub with_interval : Option (ℕ × ℕ) → Option (List (ℕ × ℕ)) → Option (List (ℕ × ℕ))
with_interval (Some i) (Some is) = Some (i ∷ is)
with_interval _ _ = None

abbrev pub all_intervals : List (List ℕ) → Option (List (ℕ × ℕ))
all_intervals [] = Some []
all_intervals (w ∷ ws) = with_interval (interval_of (pieces 46 w)) (all_intervals ws)

-- the intervals that a word spells
abbrev pub intervals_of : List ℕ → Option (List (ℕ × ℕ))
intervals_of w = all_intervals (pieces 44 w)

-- whether intervals ascend from a least number on, none reversed and none touching
abbrev pub ascend_from : ℕ → List (ℕ × ℕ) → Bool
ascend_from low [] = true
ascend_from low (i ∷ is) = nat_le low i.0 && (nat_le i.0 i.1 && ascend_from (i.1 + 2) is)

-- whether a word spells names of fields, in a format
abbrev pub is_fields : Format → List ℕ → Bool
is_fields format w = list_all (is_name_in format) (pieces 44 w)

-- an instance and a field with a dot between them
abbrev pub is_two_names : Format → List (List ℕ) → Bool
is_two_names format (inst ∷ field ∷ []) = is_name_in format inst && is_name_in format field
is_two_names format _ = false

abbrev pub is_column : Format → List ℕ → Bool
is_column format w = is_two_names format (pieces 46 w)

abbrev pub first_piece : List (List ℕ) → List ℕ
first_piece [] = []
first_piece (p ∷ ps) = p

abbrev pub words_of : List (Bor (List ℕ)) → List (List ℕ)
words_of ws = map (λ w. w.now) ws
