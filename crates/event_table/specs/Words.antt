-- What the words of a table mean.
-- A slot is created and ended by turns. Its generation g is created by its turn 2 g + 1, and ended by its turn 2 g + 2. So what becomes of a handle is told by the number of turns that its slot has had.
use Rattle.std.specs.Prelude.{◌≡◌, ℕ, ◌+◌, ◌*◌, ◌/◌, ◌%◌, ◌<◌, ◌≤◌, List, [], ◌∷◌, slice_index, cond, ◌==◌, zero, suc}
use Rattle.event_table.specs.declared.handle.Handle.{Handle}
use Rattle.event_table.specs.declared.handle.Fate.{Fate}
use Rattle.event_table.specs.declared.handle.Fate.TheVariants.{Ok, Poison}
use Rattle.std.specs.Int.{bit_at}
use Rattle.event_table.specs.declared.handle.Shape.{Shape}

-- The abstract map: the answer of a handle, by the turns of its slot
abbrev pub IsMade : List ℕ → Handle → Type 0
IsMade turns h = 2 * h.gen_ + 1 ≤ slice_index turns h.slot

abbrev pub IsPending : List ℕ → Handle → Type 0
IsPending turns h = slice_index turns h.slot ≡ 2 * h.gen_ + 1

abbrev pub IsEnded : List ℕ → Handle → Type 0
IsEnded turns h = 2 * h.gen_ + 2 ≤ slice_index turns h.slot

-- the turns that a word shows
abbrev pub turns_of : ℕ → ℕ
turns_of w = 2 * (w / 4294967296) + cond (w % 4294967296 == 0) 0 (cond (w % 4294967296 == 4294967295) 2 1)

-- The words: a chain begins with the number of its first waiter plus one, or 0
abbrev pub code : List ℕ → ℕ
code [] = 0
code (k ∷ ks) = k + 1

-- each waiter's link word leads to the next
abbrev pub Linked : Shape → List ℕ → List ℕ → Type 0
Linked key words [] = Unit {0}
Linked key words (k ∷ ks) = (k < key.waiters) × (slice_index words (key.slots + k) ≡ code ks) × Linked key words ks

-- the word of a slot that has had t turns, with the chain c
pub record Shows (last t : ℕ) (c : List ℕ) (w : ℕ) : Type 0 where
  pub few : t ≤ 2 * last + 2
  pub free : t % 2 ≡ 0 → t ≤ 2 * last → w ≡ (t / 2) * 4294967296
  pub pending : t % 2 ≡ 1 → w ≡ (t / 2) * 4294967296 + 1 + code c
  pub retired : t ≡ 2 * last + 2 → w ≡ last * 4294967296 + 4294967295
  pub bare : t % 2 ≡ 0 → c ≡ []

-- the word of the slot once the generation g has ended
abbrev pub Follows : ℕ → ℕ → ℕ → Type 0
Follows last g next = (g < last → next ≡ (g + 1) * 4294967296) × (g ≡ last → next ≡ last * 4294967296 + 4294967295)

-- The poison words: each handle has a bit, which is set before it ends with Poison, and by nobody else
abbrev pub place_of : ℕ → Handle → ℕ
place_of last h = h.slot * (last + 1) + h.gen_

abbrev pub mark_words : Shape → ℕ
mark_words key = (key.slots * (key.last_gen + 1) + 63) / 64

abbrev pub mark_word : Shape → Handle → ℕ
mark_word key h = key.slots + key.waiters + place_of key.last_gen h / 64

abbrev pub mark : Shape → List ℕ → Handle → ℕ
mark key words h = bit_at (slice_index words (mark_word key h)) (place_of key.last_gen h % 64)

abbrev pub fate_code : Fate → ℕ
fate_code Ok = 0
fate_code Poison = 1

abbrev pub fate_by : ℕ → Fate
fate_by zero = Ok
fate_by (suc n) = Poison

abbrev pub handle_at : ℕ → ℕ → Handle
handle_at i g = record { slot = i; gen_ = g }
