-- The rule of the table.
use Rattle.std.specs.Prelude.{◌≡◌, ℕ, zero, suc, ◌+◌, ◌%◌, ◌<◌, ◌≤◌, ◌⊎◌, List, [], ◌∷◌, length, slice_index, slice_index_or, Contains, cond, ◌==◌}
use mathlib.Core.Option.{some}
use lib.ListN.{get_elem?}
use Rattle.atomic_table.specs.Table.{State}
use Rattle.basics.specs.Sums.{total, below}
use Rattle.event_table.specs.declared.limits.TheConstants.{MAX_WAITERS}
use Rattle.event_table.specs.declared.handle.Handle.{Handle}
use Rattle.event_table.specs.declared.handle.Fate.{Fate}
use Rattle.event_table.specs.declared.handle.Shape.{Shape}
use Rattle.shared_events.specs.declared.view.View.{View}
use Rattle.event_table.specs.Words.{IsEnded, IsMade, IsPending, Linked, Shows, fate_code, mark, mark_words, turns_of}

-- A view
abbrev pub held : (ℕ → ℕ) → View → ℕ
held f v = total (λ (p : ℕ × ℕ). f p.0) v.hand + total f v.caught

abbrev pub ends_at : ℕ → Handle → ℕ
ends_at i h = cond (h.slot == i) 1 0

abbrev pub rights_at : ℕ → View → ℕ
rights_at i v = total (ends_at i) v.rights

abbrev pub maker : View → ℕ
maker v = v.makes

-- the seat has seen each handle of which it knows a fate, and each that it left, found to have ended or may end
abbrev pub AllSeen : View → Type 0
AllSeen v = ((h : Handle) (f : Fate) → Contains v.known (h, f) → Contains v.seen h)
    × ((h : Handle) → Contains v.left h → Contains v.seen h)
    × ((h : Handle) → Contains v.past h → Contains v.seen h)
    × ((h : Handle) → Contains v.rights h → Contains v.seen h)

-- what holds of a view where the slots have had these turns, and these are all placings that were made
pub record Fits (key : Shape) (words turns : List ℕ) (log : List (ℕ × Handle)) (v : View) : Type 0 where
  pub keys : (x : Shape) → Contains v.keys x → x ≡ key
  pub all_seen : AllSeen v
  pub seen : (h : Handle) → Contains v.seen h → IsMade turns h
  pub known : (h : Handle) (f : Fate) → Contains v.known (h, f) → IsEnded turns h × (mark key words h ≡ fate_code f)
  pub placed : (p : ℕ × Handle) → Contains v.placed p → Contains log p
  pub given : (p : ℕ × Handle) → Contains v.given p → Contains log p × IsEnded turns p.1
  pub emptied : (h : Handle) → Contains v.emptied h → IsEnded turns h × ((k : ℕ) → Contains log (k, h) → Contains v.given (k, h))
  pub left : (h : Handle) → Contains v.left h → IsPending turns h
  pub saw : (p : ℕ × ℕ) → Contains v.saw p → turns_of p.1 ≤ slice_index turns p.0
  pub rights : (h : Handle) → Contains v.rights h → IsPending turns h
  pub past : (h : Handle) → Contains v.past h → IsEnded turns h
  pub marked : (h : Handle) → Contains v.marked h → mark key words h ≡ 1
  pub clear : (h : Handle) → Contains v.rights h → (Contains v.marked h → ⊥) → mark key words h ≡ 0
  pub hand : (p : ℕ × ℕ) → Contains v.hand p → (p.0 < key.waiters) × (slice_index words (key.slots + p.0) ≡ p.1)
  pub caught : Linked key words v.caught
  pub chased : (h : Handle) → Contains v.chased h → IsEnded turns h × ((k : ℕ) → Contains log (k, h) → Contains v.caught k ⊎ Contains v.given (k, h))
  pub chain : (h : Handle) (k : ℕ) → Contains v.chased h → Contains v.caught k → Contains log (k, h)
  pub own : (h : Handle) → Contains v.made h → IsMade turns h
  pub made : v.makes ≡ 1 → (h : Handle) → IsMade turns h → Contains v.made h
  pub spare : v.makes ≡ 1 → (p : ℕ × ℕ) → Contains v.spare p → (p.0 < key.slots) × (slice_index words p.0 ≡ p.1) × (slice_index turns p.0 % 2 ≡ 0)

pub record Orderly (key : Shape) (s : State Unit View) : Type 0 where
  -- how many creates and ends each slot has had
  pub turns : List ℕ
  -- the waiters on the pending handle of each slot, the last that was placed first
  pub chains : List (List ℕ)
  -- all placings that were made
  pub log : List (ℕ × Handle)
  pub wide : length s.words ≡ key.slots + key.waiters + mark_words key
  pub high : length turns ≡ key.slots
  pub rows : length chains ≡ key.slots
  pub small : key.waiters ≤ MAX_WAITERS
  -- a handle that was not created is not marked
  pub clean : (h : Handle) → h.slot < key.slots → h.gen_ ≤ key.last_gen → (IsMade turns h → ⊥) → mark key s.words h ≡ 0
  pub each_slot : (i : ℕ) → i < key.slots → Shows key.last_gen (slice_index turns i) (slice_index_or chains i []) (slice_index s.words i) × Linked key s.words (slice_index_or chains i [])
  pub each_view : (j : ℕ) (v : View) → get_elem? s.views j ≡ some v → Fits key s.words turns log v
  -- each waiter is in one hand, on one handle, or caught by one seat
  pub once : (f : ℕ → ℕ) → total (held f) s.views + total (total f) chains ≡ below f key.waiters
  pub one_maker : total maker s.views ≤ 1
  pub one_right : (i : ℕ) → total (rights_at i) s.views ≤ 1
  -- nobody may end a handle that was left
  pub no_right : (j : ℕ) (v : View) (h : Handle) → get_elem? s.views j ≡ some v → Contains v.left h → total (rights_at h.slot) s.views ≡ 0
  -- a placing stands in the chain until its handle ends, and each item of a chain is a placing
  pub stands : (k : ℕ) (h : Handle) → Contains log (k, h) → IsMade turns h × (IsPending turns h → Contains (slice_index_or chains h.slot []) k)
  pub stood : (k : ℕ) (h : Handle) → IsPending turns h → Contains (slice_index_or chains h.slot []) k → Contains log (k, h)

-- the waiters from n on, none of which has a next
abbrev pub undealt : ℕ → ℕ → List (ℕ × ℕ)
undealt n zero = []
undealt n (suc m) = (n, 0) ∷ undealt (n + 1) m

abbrev pub opener : Shape → View
opener key = record { keys = key ∷ []; seen = []; known = []; placed = []; given = []; emptied = []; left = []; past = []; saw = []; makes = 1; made = []; spare = []; rights = []; marked = []; hand = undealt 0 key.waiters; chased = []; caught = [] }
