-- What holds of the words of a table: chains of waiters, slots and marks.
use Rattle.std.specs.Prelude.{◌≡◌, ◌≢◌, ℕ, List, set, ◌≤◌, ◌+◌, ◌*◌, ◌/◌, ◌%◌, ◌<◌, length, Some}
use mathlib.Core.Option.{some}
use lib.ListN.{get_elem?}
use Rattle.event_table.specs.declared.handle.Shape.{Shape}
use Rattle.event_table.specs.Words.{code, Linked, turns_of, Shows, mark, fate_code, fate_by, place_of, mark_words, mark_word}
use Rattle.event_table.specs.Chains.{chain_in}
use Rattle.event_table.specs.declared.handle.Handle.{Handle}
use Rattle.event_table.specs.declared.handle.Fate.{Fate}
use Rattle.event_table.specs.EventMap.{answer_of, EventMap, answer}
use Rattle.event_table.specs.declared.handle.Answer.TheVariants.{Pending}
use Rattle.event_table.specs.Maps.{IsNow}
use Rattle.event_table.specs.declared.handle.Answer.{Answer}

-- what holds of the item that is set, and of each other, holds of each
abbrev pub MembersAfterSet : (A : Type 0) → (A → Type 0) → Type 0
MembersAfterSet A P = (xs : List A) (i : ℕ) (x : A) (j : ℕ) (y : A) → get_elem? (set xs i x) j ≡ some y → P x → (j ≢ i → get_elem? xs j ≡ some y → P y) → P y

-- the code of a chain is at most the number of waiters
abbrev pub ChainBelowWaiters : Type 0
ChainBelowWaiters = (key : Shape) (ws c : List ℕ) → Linked key ws c → code c ≤ key.waiters

-- the turns of a word, by what it says of its chain
abbrev pub TurnsByChainCode : Type 0
TurnsByChainCode = (w t : ℕ) → (w % 4294967296 ≡ 0 → t ≡ 2 * (w / 4294967296)) → (w % 4294967296 ≡ 4294967295 → t ≡ 2 * (w / 4294967296) + 2) →
    (0 < w % 4294967296 → w % 4294967296 < 4294967295 → t ≡ 2 * (w / 4294967296) + 1) → turns_of w ≡ t

-- a word that shows turns has those
abbrev pub TurnsAreShown : Type 0
TurnsAreShown = (last t : ℕ) (c : List ℕ) (w : ℕ) → Shows last t c w → code c ≤ 65536 → turns_of w ≡ t

-- a write below the links leaves each chain linked
abbrev pub LinksStayBelow : Type 0
LinksStayBelow = (key : Shape) (ws c : List ℕ) (i x : ℕ) → i < key.slots → Linked key ws c → Linked key (set ws i x) c

-- the words give the chain back
abbrev pub ChainsAreFollowed : Type 0
ChainsAreFollowed = (key : Shape) (ws c : List ℕ) (n : ℕ) → Linked key ws c → length c ≤ n → chain_in n key.slots ws (code c) ≡ c

-- a write below the marks leaves each mark
abbrev pub MarksStayBelow : Type 0
MarksStayBelow = (key : Shape) (ws : List ℕ) (i x : ℕ) (h : Handle) → i < key.slots + key.waiters → mark key (set ws i x) h ≡ mark key ws h

-- a code below 2 is that of its fate
abbrev pub FateOfCode : Type 0
FateOfCode = (n : ℕ) → n < 2 → n ≡ fate_code (fate_by n)

-- two fates with one code are one
abbrev pub CodesTellFates : Type 0
CodesTellFates = (f g : Fate) → fate_code f ≡ fate_code g → f ≡ g

-- two handles with one place have one slot and one generation
abbrev pub PlacesTellHandles : Type 0
PlacesTellHandles = (last : ℕ) (x y : Handle) → x.gen_ ≤ last → y.gen_ ≤ last → place_of last x ≡ place_of last y → (x.slot ≡ y.slot) × (x.gen_ ≡ y.gen_)

-- the mark of a handle stands in a word of the table
abbrev pub MarksAreInWords : Type 0
MarksAreInWords = (key : Shape) (x : Handle) → x.slot < key.slots → x.gen_ ≤ key.last_gen → mark_word key x < key.slots + key.waiters + mark_words key

-- no fate answers Pending
abbrev pub NoFateIsPending : Type 0
NoFateIsPending = (f : Fate) → Pending ≡ answer_of f → ⊥

-- a handle that is pending is of the last generation of its slot
abbrev pub PendingIsNow : Type 0
PendingIsNow = (m : EventMap) (h : Handle) → answer m h ≡ Some Pending → IsNow m h

-- two handles are the same, or of two slots, or of two generations of one slot
abbrev pub HandlesByCases : Type 0 → Type 0
HandlesByCases P = (h k : Handle) → (h ≡ k → P) → (h.slot ≢ k.slot → P) → (h.slot ≡ k.slot → h.gen_ ≢ k.gen_ → P) → P

-- handles with one slot and one generation are the same
abbrev pub HandleOfParts : Type 0
HandleOfParts = (h k : Handle) → h.slot ≡ k.slot → h.gen_ ≡ k.gen_ → h ≡ k

-- a handle that is answered has a slot
abbrev pub AnsweredHandleHasSlot : Type 0
AnsweredHandleHasSlot = (m : EventMap) (h : Handle) (a : Answer) → answer m h ≡ Some a → h.slot < length m.slots
