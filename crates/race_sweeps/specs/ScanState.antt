-- What holds between the slices of a scan.
use Rattle.std.specs.Prelude.{◌≡◌, ℕ, ◌-◌, ◌<◌, ◌≤◌, List, length, Some, slice_get, slice_index}
use Rattle.graph_terms.specs.Graph.{GraphValue}
use Rattle.race_sweeps.specs.declared.marks.Mark.{Mark}
use Rattle.race_sweeps.specs.declared.members.Members.{Members}
use Rattle.race_sweeps.specs.declared.scan.Scan.{Scan}
use Rattle.conflict_classes.specs.declared.lookups.Table.{Table}
use Rattle.conflict_classes.specs.Classes.{place_at}
use Rattle.race_sweeps.specs.Marks.{IsMarked}
use Rattle.race_sweeps.specs.Members.{AreMembers}
use Rattle.race_sweeps.specs.Reach.{IsBounded}
use Rattle.race_sweeps.specs.Scan.{IsHardTo}

-- the members below number m are listed
pub record AreListed (t : Table) (s : Members) (m : ℕ) : Type 0 where
  pub firsts : length s.first.items ≡ length t.keys.items
  pub lasts : length s.last.items ≡ length t.keys.items
  pub members : AreMembers t.classes.items s.last.items s.earlier.items m

-- the lines before place `first` are scanned
pub record IsScanned (g : GraphValue) (t : Table) (s : Scan) (first : ℕ) : Type 0 where
  pub listed : AreListed t s.members (slice_index t.begins.items first)
  pub hard : IsHardTo g t s.hard.items first
  pub reach : IsBounded (length t.lines.items) s.reach
  pub groups : length s.groups.slots.items ≡ length t.keys.items
  pub asks : length s.asks.slots.items ≡ length t.keys.items

-- the accesses of a slice up to a number are in the groups of their classes, with floors up to their starts
abbrev pub AreGrouped : Table → List Mark → ℕ → ℕ → Type 0
AreGrouped t groups first m = (r c : ℕ) → slice_index t.begins.items first ≤ r → r < m → slice_get t.classes.items r ≡ Some c → IsMarked groups c (place_at t.sites.items r - first) (slice_index t.starts.items r)
