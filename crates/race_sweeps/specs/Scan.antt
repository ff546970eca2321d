-- The scan for conflicts that no path settles, 64 lines at a time.
use Rattle.std.specs.Prelude.{◌≡◌, ◌≢◌, ℕ, ◌+◌, ◌<◌, ◌≤◌, ◌⊎◌, Bool, true, List, length, Some, IsTrue, Contains, slice_get, slice_index}
use Rattle.graph_terms.specs.declared.verb.Access.{Access}
use Rattle.graph_terms.specs.declared.verb.Mode.{Mode}
use Rattle.graph_terms.specs.declared.verb.Mode.TheVariants.{Read, Write}
use Rattle.graph_terms.specs.Graph.{GraphValue}
use Rattle.graph_terms.specs.Access.{all_accesses, is_reduction, AccessesConflict}
use Rattle.graph_meaning.specs.Rules.{Section, modes_commute}
use Rattle.race_sweeps.specs.declared.marks.Mark.{Mark}
use Rattle.conflict_classes.specs.declared.lookups.Table.{Table}
use Rattle.conflict_classes.specs.Classes.{IsNear, place_at}
use Rattle.conflict_classes.specs.Guards.{AreGuarded}
use Rattle.sweep_base.specs.Held.{LieApart}
use Rattle.sweep_base.specs.Bits.{bit_in}
use Rattle.race_sweeps.specs.Marks.{IsMarked}
use Rattle.race_sweeps.specs.Enough.{IsSettledOrNoted}

-- an access of line i that no exemption covers: a write, or a reduction outside of all sections
abbrev pub IsHard : GraphValue → ℕ → Mode → Type 0
IsHard g i mode = (mode ≡ Write) ⊎ ((is_reduction mode ≡ true) × ((l q : ℕ) → Section g l q i → ⊥))

-- line i stands below a limit and has such an access of a column and a space
pub record HasHard (g : GraphValue) (limit i column space : ℕ) : Type 0 where
  pub below : i < limit
  pub access : Access
  pub listed : Contains (all_accesses g i) access
  pub column_is : access.column ≡ column
  pub space_is : access.space ≡ space
  pub hard : IsHard g i access.mode

-- a number above 0 kept for a class is a place before `end` with a hard access of the class's column and space
pub record IsHardTo (g : GraphValue) (t : Table) (hard : List ℕ) (end : ℕ) : Type 0 where
  pub size : length hard ≡ length t.keys.items
  pub below : (c : ℕ) → 0 < slice_index hard c → slice_index hard c < end
  pub is : (c : ℕ) (a : Access) → slice_get t.keys.items c ≡ Some a → 0 < slice_index hard c → HasHard g t.limit (slice_index t.lines.items (slice_index hard c)) a.column a.space

-- class d is asked about targets of class c
abbrev pub IsAskable : Table → ℕ → ℕ → Type 0
IsAskable t c d = IsNear t.near.items c d ⊎ ((d ≡ c) × ((a : Access) × (slice_get t.keys.items c ≡ Some a) × (a.mode ≢ Read)))

-- a member of class d at place x is asked about line b of a mark, or a hard access of the mark's class or of d follows it, or it stands before the mark's floor where both classes are guarded
abbrev pub IsAnswerable : Table → List ℕ → List Mark → Mark → ℕ → ℕ → ℕ → Type 0
IsAnswerable t hard asks m d b x = (x < slice_index hard m.class) ⊎ ((x < slice_index hard d) ⊎ ((AreGuarded t.keys.items t.guards.items m.class d × (x < m.floor)) ⊎ IsMarked asks d b x))

-- and this for each member of class d below number `limit` and each line of the mark
abbrev pub IsAsked : Table → List ℕ → List Mark → ℕ → Mark → ℕ → Type 0
IsAsked t hard asks limit m d = (r b : ℕ) → r < limit → slice_get t.classes.items r ≡ Some d → bit_in m.word b ≡ true → IsAnswerable t hard asks m d b (place_at t.sites.items r)

-- and this for each class that a mark asks about
abbrev pub IsMarkAsked : Table → List ℕ → List Mark → ℕ → Mark → Type 0
IsMarkAsked t hard asks limit m = (d : ℕ) → IsAskable t m.class d → IsAsked t hard asks limit m d

-- each line of a word that stands behind place x is settled with the line there, or both are noted
abbrev pub AreSettledWith : GraphValue → List ℕ → List Bool → ℕ → ℕ → ℕ → Type 0
AreSettledWith g lines racing first x word = (b : ℕ) → b < 64 → first + b < length lines → bit_in word b ≡ true → x < first + b → IsSettledOrNoted g racing (slice_index lines x) (slice_index lines (first + b))

-- the members of a mark's class from its floor on, below number `limit`, are settled with the mark's lines, or noted as they are
abbrev pub IsWalked : GraphValue → Table → List Bool → ℕ → ℕ → Mark → Type 0
IsWalked g t racing first limit m = (r : ℕ) → r < limit → slice_get t.classes.items r ≡ Some m.class → m.floor ≤ place_at t.sites.items r → AreSettledWith g t.lines.items racing first (place_at t.sites.items r) m.word

-- an access of the line at place x and one of the line at place u are answered for: by the lines themselves, which are settled or noted, by their sections where the modes commute, or by a hard access of one of the two spaces between them
abbrev pub IsAnswered : GraphValue → ℕ → List ℕ → List Bool → ℕ → ℕ → Access → Access → Type 0
IsAnswered g limit lines racing x u a b = IsSettledOrNoted g racing (slice_index lines x) (slice_index lines u)
    ⊎ ((IsTrue (modes_commute a.mode b.mode) × LieApart g (slice_index lines x) (slice_index lines u))
    ⊎ ((w : ℕ) × (x < w) × (w < u) × (HasHard g limit (slice_index lines w) a.column a.space ⊎ HasHard g limit (slice_index lines w) b.column b.space)))

-- where it stands below the limit, all conflicts of the line at place u with such lines before it are answered for
abbrev pub AreAnsweredAt : GraphValue → ℕ → List ℕ → List Bool → ℕ → Type 0
AreAnsweredAt g limit lines racing u = (x : ℕ) (a b : Access) → x < u → slice_index lines x < limit → slice_index lines u < limit → Contains (all_accesses g (slice_index lines x)) a → Contains (all_accesses g (slice_index lines u)) b → AccessesConflict g a b → IsAnswered g limit lines racing x u a b
