-- The two lines to write for one that waits for several events.
use Rattle.std.specs.Prelude.{ℕ, ◌-◌, nat_le, Bool, not, ◌&&◌, ◌||◌, List, ◌∷◌, ◌++◌, length, take, drop, flat_map, codes}
use Rattle.std.specs.List.{list_any}
use Rattle.std.specs.Str.{bytes_eq}
use Rattle.graph_terms.specs.declared.limits.TheConstants.{MAX_EVENTS}
use Rattle.line_forms.specs.declared.form.Form.{Form}
use Rattle.line_forms.specs.declared.form.Form.TheVariants as forms
use Rattle.line_forms.specs.Blanks.{begins_comment}

abbrev pub before_space : List ℕ → List ℕ
before_space w = 32 ∷ w

abbrev pub behind_space : List ℕ → List ℕ
behind_space w = w ++ codes " "

-- a word that names no event
abbrev pub is_no_event : List ℕ → Bool
is_no_event w = begins_comment w || (bytes_eq w (codes "on") || (bytes_eq w (codes "merge") || (bytes_eq w (codes "mergei") || bytes_eq w (codes "and"))))

-- words may name the events of a merge of formats 1 and 2, which names no more than these
abbrev pub may_merge : List (List ℕ) → Bool
may_merge ws = nat_le (length ws) MAX_EVENTS && not (list_any is_no_event ws)

-- the words from number n - 1 on may
abbrev pub are_events : List (List ℕ) → ℕ → Bool
are_events ws n = may_merge (drop (n - 1) ws)

-- the merge that the line may wait for: a release waits for one that ignores faults
abbrev pub merge_words : Form → List ℕ
merge_words forms.Release = codes "on takes one event: put a mergei above, and wait for that\nNAME = mergei"
merge_words _ = codes "on takes one event: put a merge above, and wait for that\nNAME = merge"

-- the format in which the line may wait for its events without a merge
abbrev pub later_format : List ℕ
later_format = codes "or write it in format 3, where on takes several events\n"

-- a merge of events, a line of words with the merge behind them, and the format that takes the events themselves
abbrev pub merge_lines : Form → List (List ℕ) → List (List ℕ) → List ℕ
merge_lines f ws events = merge_words f ++ (flat_map before_space events ++ (codes "\n" ++ (flat_map behind_space ws ++ (codes "NAME\n" ++ later_format))))

-- a merge of the events from word n - 1 on, and the line up to there with the merge
abbrev pub merge_hint : Form → List (List ℕ) → ℕ → List ℕ
merge_hint f ws n = merge_lines f (take (n - 1) ws) (drop (n - 1) ws)
