-- Classes of reductions whose members all lie in sections of one reservation, which guards them.
use Rattle.std.specs.Prelude.{◌≡◌, ℕ, ◌+◌, ◌<◌, ◌≤◌, cond, List, length, Option, Some, IsTrue, slice_get, slice_index}
use Rattle.graph_terms.specs.declared.verb.Access.{Access}
use Rattle.graph_terms.specs.Graph.{GraphValue, line_passes, is_shared}
use Rattle.graph_meaning.specs.Rules.{modes_commute}
use Rattle.sweep_base.specs.declared.line_sections.Held.{Held}
use Rattle.conflict_classes.specs.Classes.{kept_at, place_at}
use Rattle.sweep_base.specs.Held.{acquire_in, LieApart}

-- two classes of modes that commute have the same guard
pub record AreGuarded (keys : List Access) (guards : List (Option ℕ)) (c d : ℕ) : Type 0 where
  pub one : Access
  pub other : Access
  pub one_is : slice_get keys c ≡ Some one
  pub other_is : slice_get keys d ≡ Some other
  pub commute : IsTrue (modes_commute one.mode other.mode)
  pub lock : ℕ
  pub guards_one : kept_at guards c ≡ Some lock
  pub guards_other : kept_at guards d ≡ Some lock

-- a member of a class that lies before the start kept for a member of another one, with the same guard, lies in another section than it
pub record AreGuards (g : GraphValue) (lines : List ℕ) (keys : List Access) (classes sites : List ℕ) (guards : List (Option ℕ)) (starts : List ℕ) : Type 0 where
  pub size : length guards ≡ length keys
  pub numbers : length starts ≡ length classes
  pub apart : (r s c d : ℕ) → slice_get classes r ≡ Some d → slice_get classes s ≡ Some c → AreGuarded keys guards c d → place_at sites r < slice_index starts s → LieApart g (slice_index lines (place_at sites r)) (slice_index lines (place_at sites s))

-- where the opening of an acquire of reservation l is kept: in a slot of its own, and in one for all that are shared
abbrev pub slot_of : GraphValue → ℕ → ℕ → ℕ
slot_of g l q = cond (line_passes is_shared g q) (length g.lines + l) q

-- the members below number m of a class that is guarded lie in sections of its guard, at or behind the opening of the acquire
abbrev pub AreOpened : GraphValue → Held → List ℕ → List ℕ → List ℕ → List (Option ℕ) → List ℕ → ℕ → Type 0
AreOpened g h lines classes sites guards openings m = (r d l : ℕ) → r < m → slice_get classes r ≡ Some d → kept_at guards d ≡ Some l →
    (q : ℕ) × (acquire_in h l (slice_index lines (place_at sites r)) ≡ Some q) × (slice_index openings (slot_of g l q) ≤ place_at sites r)

-- the class of the access of number m is guarded, and place x lies before the opening of the acquire of its section
pub record IsBeforeStart (g : GraphValue) (h : Held) (lines classes sites : List ℕ) (guards : List (Option ℕ)) (openings : List ℕ) (m x : ℕ) : Type 0 where
  pub class : ℕ
  pub lock : ℕ
  pub acquire : ℕ
  pub class_is : slice_get classes m ≡ Some class
  pub lock_is : kept_at guards class ≡ Some lock
  pub acquire_is : acquire_in h lock (slice_index lines (place_at sites m)) ≡ Some acquire
  pub before : x < slice_index openings (slot_of g lock acquire)
