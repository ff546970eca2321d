-- Laws on the accesses of lines, and on conflicts that are settled.
use Rattle.std.specs.Prelude.{◌≡◌, ℕ, ◌<◌, ◌≤◌, false, length, None, Contains, slice_get}
use Rattle.graph_terms.specs.declared.verb.Access.{Access}
use Rattle.graph_terms.specs.Graph.{GraphValue}
use Rattle.graph_terms.specs.Access.{all_accesses}
use Rattle.graph_terms.specs.Fits.{IsGraph}
use Rattle.sweep_base.specs.Held.{LieApart}
use Rattle.conflict_classes.specs.Clash.{LinesClash}
use Rattle.conflict_classes.specs.Settled.{IsSettled}

-- a line has at most eight accesses
abbrev pub AccessesAreFew : Type 0
AccessesAreFew = (g : GraphValue) → IsGraph g → (i : ℕ) → length (all_accesses g i) ≤ 8

-- no access stands from one on that is not there
abbrev pub NoneBehindMissing : Type 0
NoneBehindMissing = (g : GraphValue) (i k : ℕ) → slice_get (all_accesses g i) k ≡ None → length (all_accesses g i) ≤ k

-- what has an access is a line
abbrev pub AccessOfLine : Type 0
AccessOfLine = (g : GraphValue) (i : ℕ) (a : Access) → Contains (all_accesses g i) a → i < length g.lines

-- lines that clash by uses that commute alone, and lie apart, are settled
abbrev pub ApartAreSettled : Type 0
ApartAreSettled = (g : GraphValue) (i j : ℕ) → (LinesClash g false i j → ⊥) → LieApart g i j → IsSettled g i j

-- lines are settled either way round
abbrev pub SettledBack : Type 0
SettledBack = (g : GraphValue) (i j : ℕ) → IsSettled g i j → IsSettled g j i
