-- The words of a call behind the fixed one: which of them are its values, its accesses and the events behind `on`.
use Rattle.std.specs.Prelude.{ℕ, nat_le, Bool, false, cond, ◌&&◌, List, [], ◌∷◌, length, Option, Some, None, is_some, option_map, codes}
use Rattle.std.specs.Option.{option_map_or}
use Rattle.std.specs.Str.{bytes_eq}
use Rattle.basics.specs.Words.{contents}
use Rattle.graph_terms.specs.declared.limits.TheConstants.{MAX_CALL_VALUES}
use Rattle.graph_terms.specs.declared.verb.Mode.{Mode}
use Rattle.graph_terms.specs.declared.verb.Mode.TheVariants.{Read, Write, Sum, Least, Most}
use Rattle.graph_words.specs.declared.calls.CallWords as code

-- the words of one access
pub record AccessWords : Type 0 where
  pub mode : Mode
  pub column : List ℕ
  pub space : List ℕ

-- the words of a call in their parts
pub record CallWords : Type 0 where
  pub word : List ℕ
  pub values : List (List ℕ)
  pub accesses : List AccessWords
  pub events : List (List ℕ)

-- a word that begins with a digit
abbrev pub begins_with_digit : List ℕ → Bool
begins_with_digit [] = false
begins_with_digit (b ∷ bs) = nat_le 48 b && nat_le b 57

-- the words of values that words begin with
abbrev pub value_words : List (List ℕ) → List (List ℕ)
value_words [] = []
value_words (w ∷ ws) = cond (begins_with_digit w) (w ∷ value_words ws) []

-- and those behind them
abbrev pub behind_values : List (List ℕ) → List (List ℕ)
behind_values [] = []
behind_values (w ∷ ws) = cond (begins_with_digit w) (behind_values ws) (w ∷ ws)

-- how a call uses a column, by the word that says it
abbrev pub mode_of : List ℕ → Option Mode
mode_of w = cond (bytes_eq w (codes "read")) (Some Read)
    (cond (bytes_eq w (codes "write")) (Some Write)
    (cond (bytes_eq w (codes "sum")) (Some Sum)
    (cond (bytes_eq w (codes "min")) (Some Least)
    (cond (bytes_eq w (codes "max")) (Some Most) None))))

-- the accesses that words begin with, each of three words
abbrev pub access_words : List (List ℕ) → List AccessWords
access_words (m ∷ c ∷ s ∷ ws) = option_map_or (λ mode. record { «mode» = mode; column = c; space = s } ∷ access_words ws) (mode_of m) []
access_words _ = []

-- and the words behind them
abbrev pub behind_accesses : List (List ℕ) → List (List ℕ)
behind_accesses (m ∷ c ∷ s ∷ ws) = cond (is_some (mode_of m)) (behind_accesses ws) (m ∷ c ∷ s ∷ ws)
behind_accesses ws = ws

-- the words of events behind `on`, or of none where nothing stands there
abbrev pub events_behind : List (List ℕ) → Option (List (List ℕ))
events_behind [] = Some []
events_behind (w ∷ []) = None
events_behind (w ∷ e ∷ es) = cond (bytes_eq w (codes "on")) (Some (e ∷ es)) None

-- the parts of the words behind the values, where these are few enough
abbrev pub parted : List ℕ → List (List ℕ) → List (List ℕ) → Option CallWords
parted w values ws = cond (nat_le (length values) MAX_CALL_VALUES)
    (option_map (λ es. record { word = w; «values» = values; accesses = access_words ws; events = es }) (events_behind (behind_accesses ws)))
    None

-- the words of a call in their parts
abbrev pub call_words : List (List ℕ) → Option CallWords
call_words [] = None
call_words (w ∷ ws) = parted w (value_words ws) (behind_values ws)

-- the words that the code has, in their parts
abbrev pub in_parts : code.CallWords → CallWords
in_parts c = record { word = c.word.now; values = contents c.values.now; accesses = access_words (contents c.accesses.now); events = contents c.events.now }
