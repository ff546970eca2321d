-- Calls, whose words stand for what is the host's.
use Rattle.std.specs.Prelude.{◌≡◌, ℕ, Bool, cond, ◌||◌, List, [], ◌∷◌, ◌++◌, Option, Some, None}
use Rattle.graph_terms.specs.declared.why.Why.{Why}
use Rattle.graph_terms.specs.declared.why.Why.TheVariants as why
use Rattle.graph_terms.specs.Fits.{first_reason}
use Rattle.graph_words.specs.Calls.{CallWords}
use Rattle.graph_words.specs.Draft.{Placed, CallName, values_placed, accesses_placed, events_placed}
use Rattle.word_meanings.specs.declared.faults.Faults.{Faults}

-- a word that is spelled as a name, in its place
abbrev pub word_placed : List ℕ → List Placed
word_placed w = (CallName, w) ∷ []

-- the words of a call in their places
abbrev pub call_placed : CallWords → List Placed
call_placed c = (CallName, c.word) ∷ values_placed c.values ++ (accesses_placed c.accesses ++ events_placed c.events)

-- the first reason that refuses the words of a line, by whether its name is in use, what is to be said of the words and whether an event stands there twice
abbrev pub seen_reason : Bool → Faults → Bool → Option Why
seen_reason used f again = first_reason ((f.misnamed, why.Name) ∷ (used || (f.twice || again), why.Twice) ∷ (f.unknown, why.Unknown) ∷ (f.unlike, why.Kind) ∷ (f.misnumbered, why.Number) ∷ [])

-- the same reason, which is left open where there is none but that the name may be in use
abbrev pub IsSeenFault : Bool → Faults → Bool → Option Why → Type 0
IsSeenFault used f again (Some w) = seen_reason used f again ≡ Some w
IsSeenFault used f again None = seen_reason used f again ≡ cond used (Some why.Twice) None
