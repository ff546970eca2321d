-- How far a line goes with the form of a call, of which some words may stand any number of times.
use Rattle.std.specs.Prelude.{ℕ, ◌+◌, nat_lt, cond, List, [], ◌∷◌, codes, is_some, Option, Some, None}
use Rattle.std.specs.Option.{option_map_or}
use Rattle.std.specs.Str.{bytes_eq}
use Rattle.graph_terms.specs.declared.limits.TheConstants.{MAX_CALL_VALUES}
use Rattle.graph_words.specs.Calls.{begins_with_digit, mode_of}
use Rattle.line_forms.specs.declared.calls.Expected.{Expected}
use Rattle.line_forms.specs.declared.calls.Expected.TheVariants.{Value, Access, Column, Space, Event}

-- what may stand behind a word that begins an access, and behind `on`
abbrev pub begins_access : List ℕ → Option Expected
begins_access w = cond (is_some (mode_of w)) (Some Column) (cond (bytes_eq w (codes "on")) (Some Event) None)

-- one more value, where it is not one too many
abbrev pub more_values : ℕ → Option Expected
more_values n = cond (nat_lt n MAX_CALL_VALUES) (Some (Value (n + 1))) None

-- what may stand behind a word, where it may stand there itself
abbrev pub expected_next : Expected → List ℕ → Option Expected
expected_next (Value n) w = cond (begins_with_digit w) (more_values n) (begins_access w)
expected_next Access w = begins_access w
expected_next Column w = Some Space
expected_next Space w = Some Access
expected_next Event w = Some Event

-- how many words stand as they may
abbrev pub follow_call : Expected → List (List ℕ) → ℕ
follow_call a [] = 0
follow_call a (w ∷ ws) = option_map_or (λ next. 1 + follow_call next ws) (expected_next a w) 0

-- what may stand behind words, where all of them stand as they may
abbrev pub expected_behind : Expected → List (List ℕ) → Option Expected
expected_behind a [] = Some a
expected_behind a (w ∷ ws) = option_map_or (λ next. expected_behind next ws) (expected_next a w) None
