-- The reservation that a line acquires, by computing.
use Rattle.std.proofs.Common.{◌≡◌, ℕ, Bool, ap}
use Rattle.std.specs.Prelude.{Option, Some, None, option_and_then}
use Rattle.std.proofs.lemmas.Option.{none-some, same_Some}
use Rattle.graph_terms.specs.declared.verb.Verb.{Verb}
use Rattle.graph_terms.specs.declared.verb.Verb.TheVariants.{User, Trigger, Cancel, Merge, MergeIgnore, Phase, Arrive, Acquire, Release, Fill, Copy, Reduce, Task, Call}
use Rattle.graph_terms.specs.Graph.{GraphValue, verb_at}
use Rattle.graph_terms.specs.Reservations.{Acquires, taken_by, lock_at}
use Rattle.graph_terms.proofs.Public.{acquire_is, is_acquire_from}

taken_from : (l : ℕ) (o : Option Verb) → option_and_then taken_by o ≡ Some l → (s : Bool) × (o ≡ Some (Acquire l s))
taken_from l None h = absurd (none-some l h)
taken_from l (Some (Acquire k s)) h = (s, ap (λ x. Some (Acquire x s)) (same_Some k l h))
taken_from l (Some User) h = absurd (none-some l h)
taken_from l (Some (Trigger u)) h = absurd (none-some l h)
taken_from l (Some (Cancel u)) h = absurd (none-some l h)
taken_from l (Some (Merge es)) h = absurd (none-some l h)
taken_from l (Some (MergeIgnore es)) h = absurd (none-some l h)
taken_from l (Some (Phase b)) h = absurd (none-some l h)
taken_from l (Some (Arrive p v w)) h = absurd (none-some l h)
taken_from l (Some (Release q)) h = absurd (none-some l h)
taken_from l (Some (Fill c s v)) h = absurd (none-some l h)
taken_from l (Some (Copy a b s)) h = absurd (none-some l h)
taken_from l (Some (Reduce o a b s)) h = absurd (none-some l h)
taken_from l (Some (Task k)) h = absurd (none-some l h)
taken_from l (Some (Call c)) h = absurd (none-some l h)

-- the reservation of an acquire, both ways
pub lock_is : (g : GraphValue) (q l : ℕ) → Acquires g q l → lock_at g q ≡ Some l
lock_is g q l a = ap (option_and_then taken_by) (acquire_is g q l a)

pub acquires_from : (g : GraphValue) (q l : ℕ) → lock_at g q ≡ Some l → Acquires g q l
acquires_from g q l e = let t = taken_from l (verb_at g q) e in is_acquire_from g q l t.0 t.1
