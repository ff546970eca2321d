-- Which refused lines have a word that is refused, or a quantity that is above its bound.
use Rattle.std.specs.Prelude.{◌≡◌, ℕ, ◌<◌, ◌⊎◌, nat_lt, Bool, true, false, List, length, Option, Some, is_some}
use Rattle.std.specs.Option.{option_map_or}
use Rattle.graph_terms.specs.declared.decl.Decl.{Decl}
use Rattle.graph_terms.specs.declared.verb.Line.{Line}
use Rattle.graph_terms.specs.declared.why.Why.{Why}
use Rattle.graph_terms.specs.declared.why.Why.TheVariants as reasons
use Rattle.graph_terms.specs.Graph.{GraphValue}
use Rattle.graph_terms.specs.Limits.{limits}
use Rattle.graph_terms.specs.Fits.{IsGraph}
use Rattle.graph_terms.specs.Spelling.{head}
use Rattle.graph_words.specs.Draft.{Draft, draft}
use Rattle.graph_reader.specs.FirstFault.{words_fault}
use Rattle.graph_reader.specs.Reading.{with_value}
use Rattle.refused_words.specs.Refused.{IsRefusedAt}
use Rattle.refused_words.specs.Limits.{limit_of}

-- some word of the line is refused
abbrev pub HasRefusedWord : GraphValue → Why → List (List ℕ) → Type 0
HasRefusedWord g reason ws = (k : ℕ) × (k < length ws) × IsRefusedAt g reason ws k

-- the reasons of which each line that they refuse first has such a word
abbrev pub has_word : Why → Bool
has_word reasons.Name = true
has_word reasons.Space = true
has_word reasons.Outside = true
has_word reasons.Meets = true
has_word reasons.Arrivals = true
has_word _ = false

abbrev pub RefusedHasWord : Type 0
RefusedHasWord = (g : GraphValue) (reason : Why) (ws : List (List ℕ)) → has_word reason ≡ true → words_fault g ws ≡ Some reason → HasRefusedWord g reason ws

-- the text of a graph with this item at its end is too long
abbrev pub is_long_with : GraphValue → Decl ⊎ Line → Bool
is_long_with g item = nat_lt (limits g.format).text (length (head (with_value g item)))

-- with what was spelled, and with what a line of these words spells
abbrev pub is_long_in : GraphValue → Option Draft → Bool
is_long_in g o = option_map_or (λ (d : Draft). is_long_with g d.item) o false

abbrev pub is_long_by : GraphValue → List (List ℕ) → Bool
is_long_by g ws = is_long_in g (draft g ws)

-- a line whose first reason is Limit brings a quantity above its bound, or makes the text too long
abbrev pub LimitHasQuantity : Type 0
LimitHasQuantity = (g : GraphValue) (ws : List (List ℕ)) → IsGraph g → words_fault g ws ≡ Some reasons.Limit → (is_some (limit_of g ws) ≡ true) ⊎ (is_long_by g ws ≡ true)
