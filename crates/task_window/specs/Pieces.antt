-- What holds of the tasks that used each piece last.
use Rattle.std.specs.Prelude.{◌≡◌, ◌⊎◌, ℕ, ◌+◌, ◌-◌, ◌^◌, ◌<◌, ◌≤◌, Bool, true, false, cond, List, [], ◌∷◌, length, take, drop, sum, Contains, slice_index, slice_index_or}
use Rattle.std.specs.Vec.{vec_capacity}
use Rattle.task_order.specs.declared.access.Access.{Access}
use Rattle.task_order.specs.Tasks.{uses, changes, accesses_of}
use Rattle.task_window.specs.declared.links.Link.{Link}
use Rattle.task_window.specs.declared.pieces.Pieces.{Pieces}
use Rattle.task_window.specs.Chains.{link_at}

-- accesses of tasks that have so many each
abbrev pub cut : List ℕ → List Access → List (List Access)
cut [] accesses = []
cut (n ∷ sizes) accesses = take n accesses ∷ cut sizes (drop n accesses)

abbrev pub tasks_of : Pieces → List (List Access)
tasks_of p = cut p.sizes.items p.accesses.items

abbrev pub no_access : Access
no_access = record { first = 0; count = 0; writes = false }

abbrev pub access_at : List Access → ℕ → Access
access_at accesses k = slice_index_or accesses k no_access

-- each access is of pieces below this
abbrev pub AreWithin : ℕ → List Access → Type 0
AreWithin pieces accesses = (k : ℕ) → k < length accesses → (access_at accesses k).first + (access_at accesses k).count ≤ pieces

-- task i uses piece p, and may change it
abbrev pub used_by : List (List Access) → ℕ → ℕ → Bool
used_by tasks i p = uses (accesses_of tasks i) p

abbrev pub changed_by : List (List Access) → ℕ → ℕ → Bool
changed_by tasks i p = changes (accesses_of tasks i) p

-- of n tasks that may change these pieces, e is one more than the last that may change piece p, or 0
pub record IsLastWriter (n : ℕ) (changed : ℕ → ℕ → Bool) (p e : ℕ) : Type 0 where
  pub within : e ≤ n
  pub is : 0 < e → changed (e - 1) p ≡ true
  pub others : (k : ℕ) → e ≤ k → k < n → changed k p ≡ false

abbrev pub IsLinked : List Link → ℕ → ℕ → Type 0
IsLinked links p i = (x : ℕ) × (x < length links) × ((link_at links x).key ≡ p) × ((link_at links x).value ≡ i)

-- of n tasks that use and may change these pieces: by piece the last that may change it, and links to those that read it
pub record AreNoted (n : ℕ) (used changed : ℕ → ℕ → Bool) (writer : List ℕ) (links : List Link) : Type 0 where
  pub writers : (p : ℕ) → p < length writer → IsLastWriter n changed p (slice_index writer p)
  pub readers : (x : ℕ) → x < length links → ((link_at links x).value < n) × (used (link_at links x).value (link_at links x).key ≡ true)
  pub all : (i p : ℕ) → used i p ≡ true → (changed i p ≡ true) ⊎ IsLinked links p i
  pub ascend : (x y : ℕ) → x ≤ y → y < length links → (link_at links x).value ≤ (link_at links y).value

abbrev pub AreNotedOf : List (List Access) → List ℕ → List Link → Type 0
AreNotedOf tasks writer links = AreNoted (length tasks) (used_by tasks) (changed_by tasks) writer links

pub record ArePieces (p : Pieces) : Type 0 where
  pub noted : AreNotedOf (tasks_of p) p.writer.items p.readers.links
  pub cuts : sum p.sizes.items ≡ length p.accesses.items
  pub keys : p.readers.keys ≤ length p.writer.items
  pub few : p.readers.keys < 2 ^ 32
  pub used : (i k : ℕ) → used_by (tasks_of p) i k ≡ true → k < p.readers.keys

-- task i is a source of the next task, by piece p, if that uses the piece or writes it
pub record IsMet (tasks : List (List Access)) (p : ℕ) (writes : Bool) (i : ℕ) : Type 0 where
  pub known : i < length tasks
  pub one : used_by tasks i p ≡ true
  pub change : (changed_by tasks i p ≡ true) ⊎ (writes ≡ true)
  pub next : (k : ℕ) → i < k → k < length tasks → changed_by tasks k p ≡ false

-- by one of the pieces from lo to hi
abbrev pub IsMetIn : List (List Access) → ℕ → ℕ → Bool → ℕ → Type 0
IsMetIn tasks lo hi writes i = (p : ℕ) × (lo ≤ p) × (p < hi) × IsMet tasks p writes i

-- by one of the first n accesses
abbrev pub IsMetBy : List (List Access) → List Access → ℕ → ℕ → Type 0
IsMetBy tasks accesses n i = (k : ℕ) × (k < n) × IsMetIn tasks (access_at accesses k).first ((access_at accesses k).first + (access_at accesses k).count) (access_at accesses k).writes i

-- a link leads from piece p to task i, from link e on, and the task is not below this
abbrev pub IsReaderFrom : List Link → ℕ → ℕ → ℕ → ℕ → Type 0
IsReaderFrom links e p writer i = (x : ℕ) × (e ≤ x) × (x < length links) × ((link_at links x).key ≡ p) × ((link_at links x).value ≡ i) × (writer ≤ i)

-- a list has what it had, and the numbers of which this holds
pub record Collects (old new : List ℕ) (P : ℕ → Type 0) : Type 0 where
  pub kept : (i : ℕ) → Contains old i → Contains new i
  pub found : (i : ℕ) → P i → Contains new i
  pub only : (i : ℕ) → Contains new i → Contains old i ⊎ P i

-- how many pieces these accesses only read
abbrev pub reads_of : List Access → ℕ
reads_of [] = 0
reads_of (a ∷ rest) = cond a.writes 0 a.count + reads_of rest

-- room for a task with these accesses
pub record HasPieceRoom (p : Pieces) (of : List Access) : Type 0 where
  pub sizes : length p.sizes.items < vec_capacity p.sizes
  pub accesses : length p.accesses.items + length of ≤ vec_capacity p.accesses
  pub links : length p.readers.links + reads_of of ≤ p.readers.room
