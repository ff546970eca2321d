use denote.RattleType.{RattleType}
use denote.Memory.{raw_all}
use denote.Param.Send.{IsSend, IsSync, Frees, whole-keyless}
use Rattle.core.specs.declared.alloc.Allocator.{Ghosts}
use Rattle.shared_parts.specs.contracts.lending.Lender.{the_row}
use Rattle.shared_parts.proofs.lending.Lender.TheSendSync.Send.{send}

pub sync : (T A : RattleType) (g : Ghosts A.Denot) → IsSend T → IsSend A → Frees g g.dealloc_token → IsSync (the_row T A g)
sync T A g s sa f =
    let whole = send T A g s sa f in
    record { shared = λ d b o κ q. whole-keyless (raw_all (the_row T A g).mir) (the_row T A g).own_val whole.owned q d b o }
