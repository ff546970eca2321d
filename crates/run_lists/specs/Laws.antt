-- What holds of these lists and of the lines that they speak of.
use Rattle.std.specs.Prelude.{◌≡◌, ℕ, ◌<◌, ◌+◌, Bool, true, false, List, [], ◌∷◌, ◌++◌, length, map, replicate, Some, slice_get, slice_index_or}
use Rattle.basics.specs.Lists.{numbers_below, count_below}
use Rattle.graph_terms.specs.declared.verb.Line.{Line}
use Rattle.graph_terms.specs.declared.verb.Verb.TheVariants.{Acquire, Release}
use Rattle.graph_terms.specs.Graph.{GraphValue, locks}
use Rattle.graph_terms.specs.Fits.{IsGraph}
use Rattle.graph_terms.specs.Reservations.{Acquires, Releases}
use Rattle.run_state.specs.Run.{is_listed, list_at}
use Rattle.run_parts.specs.declared.locks.LockState.{LockState}
use Rattle.run_parts.specs.declared.locks.LockState.TheVariants.{Shared}
use Rattle.run_lists.specs.Holders.{holders_by, AreHeld}

-- A LINE by its verb: what it acquires or releases, and what it releases is a line
abbrev pub AcquiresByVerb : Type 0
AcquiresByVerb = (g : GraphValue) (i l : ℕ) (s : Bool) (line : Line) → slice_get g.lines i ≡ Some line → line.verb ≡ Acquire l s → Acquires g i l

abbrev pub ReleasesByVerb : Type 0
ReleasesByVerb = (g : GraphValue) (i q : ℕ) (line : Line) → slice_get g.lines i ≡ Some line → line.verb ≡ Release q → Releases g i q

abbrev pub ReleasedIsALine : Type 0
ReleasedIsALine = (g : GraphValue) → IsGraph g → (i q : ℕ) (line : Line) → slice_get g.lines i ≡ Some line → line.verb ≡ Release q → q < length g.lines

-- THE HOLDERS: a reservation that is acquired has a list of them
abbrev pub AcquiredHasHolders : Type 0
AcquiredHasHolders = (g : GraphValue) → IsGraph g → (holding : List Bool) (q l : ℕ) → Acquires g q l → l < length (holders_by g holding)

-- at first nobody holds
abbrev pub AtFirstAreHeld : Type 0
AtFirstAreHeld = (g : GraphValue) (holding : List Bool) (held : List LockState) → holding ≡ replicate (length g.lines) false → held ≡ replicate (length (locks g)) (Shared 0) → AreHeld g holding held

abbrev pub AtFirstNoHolders : Type 0
AtFirstNoHolders = (g : GraphValue) → holders_by g (replicate (length g.lines) false) ≡ map (λ (l : ℕ). []) (numbers_below (length (locks g)))

abbrev pub AtFirstNobodyListed : Type 0
AtFirstNobodyListed = (g : GraphValue) (holding : List Bool) → holding ≡ replicate (length g.lines) false → (l q : ℕ) → is_listed (list_at (holders_by g holding) l) q ≡ true → ⊥

-- LISTS: where some are counted there is one
abbrev pub CountedIsThere : Type 0
CountedIsThere = (t : ℕ → Bool) (n : ℕ) → 0 < count_below t n → (k : ℕ) × (t k ≡ true)

-- each item of many of one thing is that
abbrev pub EachOfMany : Type 0 → Type 0
EachOfMany X = (n i : ℕ) (x : X) → slice_index_or (replicate n x) i x ≡ x

-- a list that is made line by line, with one line more, and how long it is
abbrev pub MadeWithOneMore : Type 0 → Type 0
MadeWithOneMore X = (f : ℕ → X) (k : ℕ) (x : X) (old new : List X) → old ≡ map f (numbers_below k) → x ≡ f k → new ≡ old ++ x ∷ [] → new ≡ map f (numbers_below (k + 1))

abbrev pub CountedWithOneMore : Type 0 → Type 0
CountedWithOneMore X = (x : X) (old new : List X) (a b k : ℕ) → a ≡ length old → b ≡ length new → new ≡ old ++ x ∷ [] → a ≡ k → b ≡ k + 1
