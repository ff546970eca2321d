use Rattle.std.proofs.Common.{◌≢◌, refl, arith, rules}
use Rattle.realm_audit.specs.declared.refusal.AuditRefusal.TheVariants.{Repeat, Waits, Source, Overlap, Missing, NoMemory}
use Rattle.realm_c.proofs.words.fault_word.Goals as goal

pub returns-in-1-clause-some : goal.returns-in-1-clause-some
returns-in-1-clause-some c = let some : Repeat 0 ≢ NoMemory = search rules in (Repeat 0, some, c.in-1.is, refl)

pub returns-in-2-clause-some : goal.returns-in-2-clause-some
returns-in-2-clause-some c = let some : Waits 0 ≢ NoMemory = search rules in (Waits 0, some, c.in-2.is, refl)

pub returns-in-3-clause-some : goal.returns-in-3-clause-some
returns-in-3-clause-some c = let some : Source 0 0 ≢ NoMemory = search rules in (Source 0 0, some, c.in-3.is, refl)

pub returns-in-4-clause-some : goal.returns-in-4-clause-some
returns-in-4-clause-some c = let some : Overlap 0 0 ≢ NoMemory = search rules in (Overlap 0 0, some, c.in-4.is, refl)

pub returns-in-5-clause-some : goal.returns-in-5-clause-some
returns-in-5-clause-some c = let some : Missing 0 ≢ NoMemory = search rules in (Missing 0, some, c.in-5.is, refl)

pub returns-in_default-clause-none : goal.returns-in_default-clause-none
returns-in_default-clause-none c = λ p. omega arith
