-- What a pointer owns that may be null: a box of the heap, or nothing.
use Rattle.std.specs.Prelude.{Option, Some, None}
use base.Fml.{Fml, feq}
use denote.RattleType.{RattleType}
use denote.RawPtr.{Ptr, null_ptr}
use Rattle.std.specs.Box.Ownership.{box_owns}
use Rattle.std.specs.Global.{Global}
use Rattle.std_heap.specs.contracts.GlobalAllocator.TheImpl.{ghosts}

abbrev pub box_or_null_owns : (row : RattleType) → Global → Ptr → Option row.Denot → Fml
box_or_null_owns row alloc p None = feq Ptr p null_ptr
box_or_null_owns row alloc p (Some t) = box_owns (ghosts.dealloc_token alloc) row p t
