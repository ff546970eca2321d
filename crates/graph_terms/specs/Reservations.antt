-- The reservations and acquires that lines name.
use Rattle.std.specs.Prelude.{ℕ, nat_lt, Bool, true, Option, Some, None, ◌&&◌, IsTrue}
use Rattle.std.specs.Option.{option_and_then}
use Rattle.graph_terms.specs.declared.verb.Verb.{Verb}
use Rattle.graph_terms.specs.declared.verb.Verb.TheVariants.{Acquire, Release}
use Rattle.graph_terms.specs.Graph.{GraphValue, verb_at, line_passes, is_acquire_of, is_shared, is_release_of}

-- the reservation that a verb acquires, and the acquire that it releases
abbrev pub taken_by : Verb → Option ℕ
taken_by (Acquire l s) = Some l
taken_by _ = None

abbrev pub freed_by : Verb → Option ℕ
freed_by (Release q) = Some q
freed_by _ = None

-- the reservation that a line acquires, and the acquire that it releases
abbrev pub lock_at : GraphValue → ℕ → Option ℕ
lock_at g i = option_and_then taken_by (verb_at g i)

abbrev pub acquire_at : GraphValue → ℕ → Option ℕ
acquire_at g i = option_and_then freed_by (verb_at g i)

-- whether one reservation is declared before another, as far as both are there
abbrev pub is_lower : Option ℕ → Option ℕ → Bool
is_lower (Some l) (Some k) = nat_lt l k
is_lower _ _ = true

-- line q acquires reservation l
abbrev pub Acquires : GraphValue → ℕ → ℕ → Type 0
Acquires g q l = IsTrue (line_passes (is_acquire_of l) g q)

-- line r releases what line q acquires
abbrev pub Releases : GraphValue → ℕ → ℕ → Type 0
Releases g r q = IsTrue (line_passes (is_release_of q) g r)

-- two acquires that are both shared may hold one reservation together
abbrev pub both_shared : GraphValue → ℕ → ℕ → Bool
both_shared g q k = line_passes is_shared g q && line_passes is_shared g k
