-- How the words of a one-thread table show its map.
use Rattle.std.specs.Prelude.{◌≡◌, ◌≢◌, ℕ, zero, suc, ◌+◌, ◌*◌, ◌/◌, ◌%◌, ◌<◌, ◌≤◌, ◌==◌, cond, List, [], ◌∷◌, ◌++◌, length, slice_index, slice_index_or, Contains}
use Rattle.std.specs.Int.{bit_at}
use Rattle.basics.specs.Sums.{total, below}
use Rattle.event_table.specs.declared.limits.TheConstants.{MAX_SLOTS, MAX_WAITERS, MAX_HANDLES}
use Rattle.event_table.specs.Words.{turns_of, mark, mark_word, place_of, fate_code, Linked, Shows, fate_by, handle_at}
use Rattle.event_table.specs.Chains.{chain_in, chain_at}
use Rattle.event_table.specs.EventMap.{EventMap, SlotLife, life_at, MayServe, all_on, weight}
use Rattle.event_table.specs.declared.handle.Handle.{Handle}
use Rattle.event_table.specs.declared.handle.Fate.{Fate}
use Rattle.event_table.specs.declared.handle.Fate.TheVariants.{Ok}
use Rattle.event_table.specs.declared.handle.Shape.{Shape}
use Rattle.event_table.specs.declared.chain.Chain.{Chain}

-- f of the n numbers from i on
abbrev pub read : {X : Type 0} → (ℕ → X) → ℕ → ℕ → List X
read f i zero = []
read f i (suc n) = f i ∷ read f (i + 1) n

abbrev pub fate_in : Shape → List ℕ → ℕ → ℕ → Fate
fate_in shape words i g = fate_by (mark shape words (handle_at i g))

-- what the words show of a slot
abbrev pub life_in : Shape → List ℕ → ℕ → SlotLife
life_in shape words i = record {
  fates = read (fate_in shape words i) 0 (turns_of (slice_index words i) / 2);
  is_pending = turns_of (slice_index words i) % 2 == 1;
  waiting = cond (turns_of (slice_index words i) % 2 == 1) (chain_at shape words i) [];
}

-- what they show of the chains that were caught, of which the last is given first
abbrev pub caught_in : Shape → List ℕ → List Chain → List (ℕ × Handle)
caught_in shape words [] = []
caught_in shape words (c ∷ cs) = caught_in shape words cs ++ all_on c.handle (chain_in shape.waiters shape.slots words (c.first + 1))

abbrev pub map_in : Shape → List ℕ → List Chain → EventMap
map_in shape words caught = record {
  waiters = shape.waiters;
  last_gen = shape.last_gen;
  slots = read (life_in shape words) 0 shape.slots;
  caught = caught_in shape words caught;
}

-- how often a slot with this life was created and ended
abbrev pub turns_in : SlotLife → ℕ
turns_in life = 2 * length life.fates + cond life.is_pending 1 0

-- the words show this life of the slot i
pub record IsSlot (shape : Shape) (words : List ℕ) (i : ℕ) (life : SlotLife) : Type 0 where
  pub word : Shows shape.last_gen (turns_in life) life.waiting (slice_index words i)
  pub linked : Linked shape words life.waiting
  pub marks : (g : ℕ) → g < length life.fates → mark shape words (handle_at i g) ≡ fate_code (slice_index_or life.fates g Ok)

-- they show these waiters as caught
abbrev pub AreCaught : Shape → List ℕ → List Chain → List (ℕ × Handle) → Type 0
AreCaught shape words [] ps = ps ≡ []
AreCaught shape words (c ∷ cs) ps = (ks : List ℕ) × (rest : List (ℕ × Handle)) × (ps ≡ rest ++ all_on c.handle (c.first ∷ ks)) × Linked shape words (c.first ∷ ks) × AreCaught shape words cs rest

-- the words and the chains that were caught show the map
pub record AreShown (shape : Shape) (words : List ℕ) (caught : List Chain) (m : EventMap) : Type 0 where
  pub waiters : m.waiters ≡ shape.waiters
  pub last : m.last_gen ≡ shape.last_gen
  -- poison words behind the end of the list count as 0
  pub wide : shape.slots + shape.waiters ≤ length words
  pub high : length m.slots ≡ shape.slots
  pub each : (i : ℕ) → i < shape.slots → IsSlot shape words i (life_at m i)
  pub chains : AreCaught shape words caught m.caught
  -- each waiter is placed or caught at most once
  pub once : (f : ℕ → ℕ) → weight f m ≤ below f shape.waiters

-- the slots that may serve stand in the list, each once
pub record AreFree (slots : ℕ) (m : EventMap) (free : List ℕ) : Type 0 where
  pub served : (i : ℕ) → Contains free i → MayServe m i
  pub spare : (i : ℕ) → MayServe m i → Contains free i
  pub apart : (f : ℕ → ℕ) → total f free ≤ below f slots

pub record AreKept (shape : Shape) (words free : List ℕ) (caught : List Chain) (m : EventMap) : Type 0 where
  pub shown : AreShown shape words caught m
  pub frees : AreFree shape.slots m free

abbrev pub IsSized : Shape → Type 0
IsSized shape = (0 < shape.slots) × (shape.slots ≤ MAX_SLOTS) × (shape.waiters ≤ MAX_WAITERS) × (shape.slots * (shape.last_gen + 1) ≤ MAX_HANDLES)

-- the fate of one handle was written to its poison bit, and no other bit changed
pub record IsMarked (shape : Shape) (old new : List ℕ) (h : Handle) (f : Fate) : Type 0 where
  pub here : mark shape new h ≡ fate_code f
  pub beside : (b : ℕ) → b < 64 → b ≢ place_of shape.last_gen h % 64 → bit_at (slice_index new (mark_word shape h)) b ≡ bit_at (slice_index old (mark_word shape h)) b
  pub others : (i : ℕ) → i ≢ mark_word shape h → slice_index new i ≡ slice_index old i
  pub size : length old ≤ length new

-- the words of a table show of the slot i, without its waiters, what the old words of a table with another last generation show
pub record IsTakenOver (to from : Shape) (words old : List ℕ) (i : ℕ) : Type 0 where
  pub word : Shows to.last_gen (turns_of (slice_index old i)) [] (slice_index words i)
  pub marks : (g : ℕ) → 2 * g + 2 ≤ turns_of (slice_index old i) → mark to words (handle_at i g) ≡ mark from old (handle_at i g)
