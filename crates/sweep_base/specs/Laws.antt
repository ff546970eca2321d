-- What sweeps rest on: laws of words, lists and edges, and of rules that are tried for blocks of 64 lines.
use Rattle.std.specs.Prelude.{◌≡◌, ℕ, ◌+◌, ◌-◌, ◌*◌, ◌%◌, ◌^◌, ◌<◌, ◌≤◌, ◌⊎◌, ◌↔◌, Bool, true, false, not, ◌&&◌, ◌||◌, List, length, take, Contains, Option, Some, None, IsTrue, MatchOption, slice_get}
use Rattle.std.specs.List.{slice_index_or}
use Rattle.std.specs.Int.{bit_not}
use Rattle.std.specs.Int.RustNames.{bit_or}
use lib.Bits.{bit_and}
use mir.Syntax.{w64}
use Rattle.graph_terms.specs.declared.verb.Edge.{Edge}
use Rattle.graph_terms.specs.declared.verb.EdgeKind.TheVariants.{Passes}
use Rattle.graph_terms.specs.declared.verb.Line.{Line}
use Rattle.graph_terms.specs.Graph.{GraphValue, verb_at}
use Rattle.graph_terms.specs.Edges.{edges, edges_into}
use Rattle.graph_terms.specs.Fits.{IsGraph}
use Rattle.graph_meaning.specs.Laws.{EdgesBetweenLines}
use Rattle.graph_meaning.specs.Rules.{Everywhere, EverywhereTwice, FailsFirstTwice, Section}
use Rattle.graph_terms.specs.Reservations.{both_shared}
use Rattle.sweep_base.specs.Bits.{bit_in}
use Rattle.sweep_base.specs.BlockRules.{HoldsIn, FailsFirstIn, IsLeast, IsLowest, NoneLow}
use Rattle.sweep_base.specs.Held.{IsHeld, LieApart, Exclude, acquire_in}
use Rattle.sweep_base.specs.declared.line_sections.Held.{Held}

-- the bits of words joined by `&`, `|` and `!`
abbrev pub BitsOfBoth : Type 0
BitsOfBoth = (x y b : ℕ) → bit_in (bit_and x y) b ≡ (bit_in x b && bit_in y b)

abbrev pub BitsOfEither : Type 0
BitsOfEither = (x y b : ℕ) → bit_in (bit_or x y) b ≡ (bit_in x b || bit_in y b)

abbrev pub BitsOfOthers : Type 0
BitsOfOthers = (x b : ℕ) → x < 2 ^ 64 → b < 64 → bit_in (bit_not w64 x) b ≡ not (bit_in x b)

-- a bit of one of two words joined by `|`
abbrev pub OldBitStays : Type 0
OldBitStays = (x y b : ℕ) → bit_in x b ≡ true → bit_in (bit_or x y) b ≡ true

abbrev pub NewBitIsAdded : Type 0
NewBitIsAdded = (x y b : ℕ) → bit_in y b ≡ true → bit_in (bit_or x y) b ≡ true

-- one bit, shifted to its place
abbrev pub ShiftedBitIsThere : Type 0
ShiftedBitIsThere = (s : ℕ) → s < 64 → bit_in (1 * 2 ^ s % 2 ^ 64) s ≡ true

abbrev pub ShiftedBitIsAlone : Type 0
ShiftedBitIsAlone = (s b : ℕ) → s < 64 → bit_in (1 * 2 ^ s % 2 ^ 64) b ≡ true → b ≡ s

-- 0 has no bits
abbrev pub ZeroHasNoBits : Type 0
ZeroHasNoBits = (word b : ℕ) → word ≡ 0 → bit_in word b ≡ true → ⊥

-- what stands among the first i + 1 items stands among the first i or is the next one
abbrev pub TakenOrNext : (X : Type 0) → List X → Type 0
TakenOrNext X xs = (i : ℕ) (d y : X) → i < length xs → Contains (take (i + 1) xs) y → Contains (take i xs) y ⊎ (slice_index_or xs i d ≡ y)

-- all items stand among as many
abbrev pub AllAreTaken : (X : Type 0) → List X → Type 0
AllAreTaken X xs = (i : ℕ) (y : X) → length xs ≤ i → Contains xs y → Contains (take i xs) y

-- the answers of a loop that looks for one
abbrev pub NoWhereNone : Type 0 → Type 0
NoWhereNone Q = (Q → ⊥) → IsTrue false ↔ Q

abbrev pub YesWhereOne : Type 0 → Type 0
YesWhereOne Q = Q → IsTrue true ↔ Q

-- an edge that is read past the end of a list
abbrev pub no_edge : Edge
no_edge = record { «from» = 0; «to» = 0; «kind» = Passes }

-- an edge into a line, as a loop goes over them, is one of the graph's, and its source a line
abbrev pub EdgeIntoLine : Type 0
EdgeIntoLine = (g : GraphValue) (i k : ℕ) (es : List Edge) → es ≡ edges_into g i → k < length es → Contains (edges g) (slice_index_or es k no_edge) × ((slice_index_or es k no_edge).to ≡ i)

abbrev pub SourceIsLine : Type 0
SourceIsLine = (g : GraphValue) → IsGraph g → EdgesBetweenLines → (i k : ℕ) (es : List Edge) → es ≡ edges_into g i → k < length es → (slice_index_or es k no_edge).from < length g.lines

-- the verb of a line that was read
abbrev pub VerbOfRead : Type 0
VerbOfRead = (g : GraphValue) (i : ℕ) (l : Line) → slice_get g.lines i ≡ Some l → verb_at g i ≡ Some l.verb

-- what is kept for a line: its section, and sections of two lines that are apart
abbrev pub SectionOfKept : Type 0
SectionOfKept = (g : GraphValue) (h : Held) → IsHeld g h → (l i q : ℕ) → acquire_in h l i ≡ Some q → Section g l q i

abbrev pub KeptApart : Type 0
KeptApart = (g : GraphValue) (h : Held) → IsHeld g h → (l i j q k : ℕ) → acquire_in h l i ≡ Some q → acquire_in h l j ≡ Some k → (q ≡ k → ⊥) → both_shared g q k ≡ false → LieApart g i j

abbrev pub ExcludedLieApart : Type 0
ExcludedLieApart = (g : GraphValue) (h : Held) → IsHeld g h → (i j : ℕ) → ((l : ℕ) × Exclude g (acquire_in h l i) (acquire_in h l j)) → LieApart g i j

-- the search of a block begins, goes on past a line at which no lesser rule fails, and finds one
abbrev pub SearchBegins : (ℕ → ℕ → Type 0) → Type 0
SearchBegins R = (first found n : ℕ) → ((b m : ℕ) → m < n → R (first + b) m) → IsLeast R first 64 found n

abbrev pub SearchGoesOn : (ℕ → ℕ → Type 0) → Type 0
SearchGoesOn R = (first limit found n : ℕ) → IsLeast R first limit found n → NoneLow R first limit n → IsLeast R first limit found (n + 1)

abbrev pub SearchFinds : (ℕ → ℕ → Type 0) → Type 0
SearchFinds R = (first limit found n bit : ℕ) → IsLeast R first limit found n → IsLowest R first limit n bit → IsLeast R first bit n (n + 1)

-- what it tells of the block
abbrev pub FoundFails : (ℕ → ℕ → Type 0) → Type 0
FoundFails R = (first limit found n : ℕ) → ((i j : ℕ) → (n ≤ i) ⊎ (n ≤ j) → R i j) → limit < 64 → IsLeast R first limit found n → (first + limit < n) × (found < n) × FailsFirstIn R first n (first + limit) found

abbrev pub NotFoundHolds : (ℕ → ℕ → Type 0) → Type 0
NotFoundHolds R = (first limit found n : ℕ) → 64 ≤ limit → IsLeast R first limit found n → HoldsIn R first n

-- what the blocks tell of all lines
abbrev pub BlockFails : (ℕ → ℕ → Type 0) → Type 0
BlockFails R = (first n i j : ℕ) → ((i j : ℕ) → (n ≤ i) ⊎ (n ≤ j) → R i j) → ((k : ℕ) → k < first → Everywhere (R k)) → FailsFirstIn R first n i j → FailsFirstTwice R i j

abbrev pub BlockHolds : (ℕ → ℕ → Type 0) → Type 0
BlockHolds R = (first n : ℕ) → ((i j : ℕ) → (n ≤ i) ⊎ (n ≤ j) → R i j) → ((k : ℕ) → k < first → Everywhere (R k)) → HoldsIn R first n → (k : ℕ) → k < first + 64 → Everywhere (R k)

abbrev pub LinesHold : (ℕ → ℕ → Type 0) → Type 0
LinesHold R = (n : ℕ) → ((i j : ℕ) → n ≤ i → R i j) → ((k : ℕ) → k < n → Everywhere (R k)) → EverywhereTwice R

-- what holds of what was found, where something was or nothing
abbrev pub HoldsOfFound : (X : Type 0) → Type 0 → (X → Type 0) → Type 0
HoldsOfFound X A B = (o : Option X) (x : X) → o ≡ Some x → MatchOption o A B → B x

abbrev pub HoldsOfNone : (X : Type 0) → Type 0 → (X → Type 0) → Type 0
HoldsOfNone X A B = (o : Option X) → o ≡ None → MatchOption o A B → A
