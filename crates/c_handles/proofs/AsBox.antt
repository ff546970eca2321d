-- A box of the heap, which a pointer that isn't null and its parts own.
use mir.Syntax.{Args, a_type, impl, tnil, dnil}
use mathlib.Core.List.{[], ◌∷◌}
use denote.Param.{layouts}
use denote.Param.Laws.{Laws}
use denote.RattleType.{RattleType}
use Rattle.std.proofs.alloc.Calls.{Al}
use Rattle.std.proofs.BoxSteps.Form.{Bx, R}
use Rattle.std_heap.specs.contracts.Global as Heap
use Rattle.std_heap.specs.contracts.GlobalAllocator.TheImpl.{ghosts, dict}
use Rattle.std_heap.proofs.Global.TheLaws as heap
use Rattle.c_handles.specs.contracts.parts.Parts as Parts
use Rattle.c_handles.specs.contracts.box_or_null.BoxOrNull as BoxOrNull

abbrev pub heap_alloc : Al
heap_alloc = record { row = Heap.the_row; laws = heap.the_row_laws; g = ghosts; d = dict; drops = impl [] tnil dnil }

module _ (X : RattleType) (LX : Laws X) where
  abbrev pub E : Bx
  E = record { row = X; laws = LX; al = heap_alloc }

  abbrev pub PartsRow : RattleType
  PartsRow = Parts.the_row (R E) Heap.the_row ghosts

  abbrev pub OrNull : RattleType
  OrNull = BoxOrNull.the_row (R E)

abbrev pub args : RattleType → Args
args X = layouts (a_type ∷ []) (X, tt)
