use Rattle.std.proofs.Common.{◌≢◌, refl, arith, rules}
use Rattle.race_check.specs.declared.checked.CheckRefusal.TheVariants.{Cycle, Unreleased, Section, Descends, ReleaseFault, Race, NoMemory}
use Rattle.realm_c.proofs.words.rule_word.Goals as goal

pub returns-in-1-clause-some : goal.returns-in-1-clause-some
returns-in-1-clause-some c = let some : Cycle 0 ≢ NoMemory = search rules in (Cycle 0, some, c.in-1.is, refl)

pub returns-in-2-clause-some : goal.returns-in-2-clause-some
returns-in-2-clause-some c = let some : Unreleased 0 ≢ NoMemory = search rules in (Unreleased 0, some, c.in-2.is, refl)

pub returns-in-3-clause-some : goal.returns-in-3-clause-some
returns-in-3-clause-some c = let some : Section 0 0 ≢ NoMemory = search rules in (Section 0 0, some, c.in-3.is, refl)

pub returns-in-4-clause-some : goal.returns-in-4-clause-some
returns-in-4-clause-some c = let some : Descends 0 0 ≢ NoMemory = search rules in (Descends 0 0, some, c.in-4.is, refl)

pub returns-in-5-clause-some : goal.returns-in-5-clause-some
returns-in-5-clause-some c = let some : ReleaseFault 0 ≢ NoMemory = search rules in (ReleaseFault 0, some, c.in-5.is, refl)

pub returns-in-6-clause-some : goal.returns-in-6-clause-some
returns-in-6-clause-some c = let some : Race 0 0 ≢ NoMemory = search rules in (Race 0 0, some, c.in-6.is, refl)

pub returns-in_default-clause-none : goal.returns-in_default-clause-none
returns-in_default-clause-none c = λ p. omega arith
