-- What taking the columns of a line and giving them back asks and leaves: before and after, of the seat and of what the line holds.
use Rattle.std.specs.Prelude.{◌≡◌, ℕ, suc, List, Some, slice_get}
use Rattle.graph_terms.specs.declared.verb.Access.{Access}
use Rattle.graph_terms.specs.Access.{accesses}
use Rattle.graph_terms.specs.Graph.{GraphValue}
use Rattle.word_steps.specs.declared.content.Content.{Content}
use Rattle.word_steps.specs.declared.view.View.{View}
use Rattle.word_steps.specs.Claims.{Claim}
use Rattle.word_steps.specs.Plays.{Sat, saw_all}
use Rattle.word_loads.specs.declared.loads.Load.{Load}
use Rattle.word_loads.specs.Laden.{IsFree, AreFree, IsAway, Taking, TookFree}

-- a line has taken what its first k accesses name
abbrev pub HasFirst : GraphValue → ℕ → ℕ → Sat → Load → Type 0
HasFirst g line k m x = (v : View) × (cl : Claim) × (left : List (ℕ × Content)) × Taking g line k v cl left m x.held x.numbers

-- of what its first k accesses name it has that of the first j again
abbrev pub GivesBack : GraphValue → ℕ → ℕ → ℕ → Sat → Load → Sat → Load → Type 0
GivesBack g line k j m x n y = (v : View) (cl : Claim) (left : List (ℕ × Content)) → Taking g line k v cl left m x.held x.numbers → Taking g line j v cl left n y.held y.numbers

-- it takes what access k names, if there is one, and found it free
abbrev pub TakesAccess : GraphValue → ℕ → ℕ → Sat → Load → Sat → Load → Type 0
TakesAccess g line k m x n y = (v : View) (cl : Claim) (left : List (ℕ × Content)) → Taking g line k v cl left m x.held x.numbers
    → (found : List (ℕ × ℕ)) × IsFree g line k found × Taking g line (suc k) (saw_all v found) cl left n y.held y.numbers

-- it finds it with another line, and has what it had
abbrev pub FindsAccess : GraphValue → ℕ → ℕ → Sat → Load → Sat → Load → Type 0
FindsAccess g line k m x n y = (v : View) (cl : Claim) (left : List (ℕ × Content)) → Taking g line k v cl left m x.held x.numbers
    → (found : List (ℕ × ℕ)) × (a : Access) × (slice_get (accesses g line) k ≡ Some a) × IsAway g line a found × Taking g line k (saw_all v found) cl left n y.held y.numbers

-- it takes all that it accesses, each of which it found free
abbrev pub TakesAll : GraphValue → ℕ → Sat → Load → Sat → Load → Type 0
TakesAll g line m x n y = (v : View) (cl : Claim) (left : List (ℕ × Content)) → Taking g line 0 v cl left m x.held x.numbers → TookFree g line 3 v cl left n y.held y.numbers

-- it takes what its first k accesses name, and finds what the next one names with another line
abbrev pub StopsAt : GraphValue → ℕ → ℕ → Sat → Load → Sat → Load → Type 0
StopsAt g line k m x n y = (v : View) (cl : Claim) (left : List (ℕ × Content)) → Taking g line 0 v cl left m x.held x.numbers
    → (before found : List (ℕ × ℕ)) × (a : Access) × AreFree g line k before × (slice_get (accesses g line) k ≡ Some a) × IsAway g line a found
    × Taking g line k (saw_all (saw_all v before) found) cl left n y.held y.numbers
