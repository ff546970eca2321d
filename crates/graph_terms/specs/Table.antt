-- The kinds of operation lines as one table: the words that a line begins with, and what stands in the place of each word behind them.
use Rattle.std.specs.Prelude.{ℕ, ◌+◌, ◌==◌, nat_le, Bool, true, false, not, ◌&&◌, ◌||◌, List, [], ◌∷◌, length, zip, Option, Some, None, slice_index, slice_get, codes, ◌≡◌}
use Rattle.std.specs.Option.{option_map_or}
use Rattle.std.specs.List.{list_any}
use Rattle.index_spaces.specs.declared.Op.{Op}
use Rattle.graph_terms.specs.declared.format.Format.{Format}
use Rattle.graph_terms.specs.declared.format.Format.TheVariants.{One, Two}
use Rattle.index_spaces.specs.declared.Op.TheVariants as op
use Rattle.graph_terms.specs.declared.table.TheConstants.{MOST_PLACES}
use Rattle.graph_terms.specs.declared.table.Kind.{Kind}
use Rattle.graph_terms.specs.declared.table.Kind.TheVariants as kinds
use Rattle.graph_terms.specs.declared.table.Place.{Place}
use Rattle.graph_terms.specs.declared.table.Place.TheVariants.{User, Phase, Acquire, Lock, Barrier, Space, Value, Times, Weight, Shared, Column}
use Rattle.graph_terms.specs.declared.table.Parts.{Parts}
use Rattle.graph_terms.specs.declared.verb.Mode.TheVariants.{Read, Write, Sum, Least, Most}
use Rattle.graph_terms.specs.declared.verb.Verb.{Verb}
use Rattle.graph_terms.specs.declared.verb.Verb.TheVariants as verbs
use Rattle.graph_terms.specs.declared.table.Kernel.{Kernel}
use Rattle.graph_terms.specs.declared.table.Kernel.TheVariants.{Iota, Axpy, Stencil, Scan, Hist, Dot, Expect, Gather}

-- what the lines of a kind have in common
pub record Row : Type 0 where
  pub words : List (List ℕ)
  pub places : List Place
  pub takes_on : Bool
  pub since : Format

abbrev pub with_on : List (List ℕ) → List Place → Row
with_on words places = record { words = words; places = places; takes_on = true; since = One }

abbrev pub without_on : List (List ℕ) → List Place → Row
without_on words places = record { words = words; places = places; takes_on = false; since = One }

-- the same in format 2 alone
abbrev pub since_two : Row → Row
since_two row = record { words = row.words; places = row.places; takes_on = row.takes_on; since = Two }

-- the table
abbrev pub kind_row : Kind → Row
kind_row kinds.User = without_on (codes "user" ∷ []) []
kind_row kinds.Trigger = with_on (codes "trigger" ∷ []) (User ∷ [])
kind_row kinds.Cancel = with_on (codes "cancel" ∷ []) (User ∷ [])
kind_row kinds.Phase = without_on (codes "phase" ∷ []) (Barrier ∷ [])
kind_row kinds.Arrive = with_on (codes "arrive" ∷ []) (Phase ∷ Value ∷ [])
kind_row kinds.ArriveTimes = since_two (with_on (codes "arrive" ∷ []) (Phase ∷ Value ∷ Times ∷ Weight ∷ []))
kind_row kinds.Acquire = with_on (codes "acquire" ∷ []) (Lock ∷ [])
kind_row kinds.AcquireShared = since_two (with_on (codes "acquire" ∷ []) (Lock ∷ Shared ∷ []))
kind_row kinds.Release = with_on (codes "release" ∷ []) (Acquire ∷ [])
kind_row kinds.Fill = with_on (codes "fill" ∷ []) (Column Write 1 ∷ Space ∷ Value ∷ [])
kind_row kinds.Copy = with_on (codes "copy" ∷ []) (Column Read 2 ∷ Column Write 2 ∷ Space ∷ [])
kind_row kinds.ReduceSum = with_on (codes "reduce" ∷ codes "sum" ∷ []) (Column Read 2 ∷ Column Sum 2 ∷ Space ∷ [])
kind_row kinds.ReduceMin = with_on (codes "reduce" ∷ codes "min" ∷ []) (Column Read 2 ∷ Column Least 2 ∷ Space ∷ [])
kind_row kinds.ReduceMax = with_on (codes "reduce" ∷ codes "max" ∷ []) (Column Read 2 ∷ Column Most 2 ∷ Space ∷ [])
kind_row kinds.Iota = with_on (codes "task" ∷ codes "iota" ∷ []) (Column Write 1 ∷ Space ∷ Value ∷ [])
kind_row kinds.Axpy = with_on (codes "task" ∷ codes "axpy" ∷ []) (Column Read 2 ∷ Column Sum 2 ∷ Space ∷ Value ∷ [])
kind_row kinds.Stencil = with_on (codes "task" ∷ codes "stencil" ∷ []) (Column Read 2 ∷ Column Write 3 ∷ Space ∷ Space ∷ [])
kind_row kinds.Scan = with_on (codes "task" ∷ codes "scan" ∷ []) (Column Read 2 ∷ Column Write 2 ∷ Space ∷ [])
kind_row kinds.Hist = with_on (codes "task" ∷ codes "hist" ∷ []) (Column Read 2 ∷ Column Sum 3 ∷ Space ∷ Space ∷ [])
kind_row kinds.Dot = with_on (codes "task" ∷ codes "dot" ∷ []) (Column Read 3 ∷ Column Read 3 ∷ Column Sum 4 ∷ Space ∷ Space ∷ [])
kind_row kinds.Expect = with_on (codes "task" ∷ codes "expect" ∷ []) (Column Read 1 ∷ Space ∷ Value ∷ Value ∷ [])
kind_row kinds.Gather = with_on (codes "task" ∷ codes "gather" ∷ []) (Column Read 3 ∷ Column Read 4 ∷ Column Write 3 ∷ Space ∷ Space ∷ [])

abbrev pub kind_words : Kind → List (List ℕ)
kind_words kind = (kind_row kind).words

abbrev pub kind_places : Kind → List Place
kind_places kind = (kind_row kind).places

abbrev pub kind_takes_on : Kind → Bool
kind_takes_on kind = (kind_row kind).takes_on

abbrev pub kind_since : Kind → Format
kind_since kind = (kind_row kind).since

-- what the code of all kinds rests on: columns stand before what else there is, each is over a space, and each space is that of a column
abbrev pub is_column : Place → Bool
is_column (Column mode over) = true
is_column _ = false

abbrev pub is_space : Place → Bool
is_space Space = true
is_space _ = false

abbrev pub is_over : ℕ → Place → Bool
is_over n (Column mode over) = over == n
is_over n _ = false

abbrev pub columns_first : List Place → Bool
columns_first [] = true
columns_first (Column mode over ∷ ps) = columns_first ps
columns_first (p ∷ ps) = not (list_any is_column ps)

-- whether the place of number n is in order
abbrev pub in_order : List Place → ℕ → Place → Bool
in_order all n (Column mode over) = option_map_or is_space (slice_get all over) false
in_order all n Space = list_any (is_over n) all
in_order all n _ = true

-- the places from the number n on
abbrev pub each_in_order : List Place → ℕ → List Place → Bool
each_in_order all n [] = true
each_in_order all n (p ∷ ps) = in_order all n p && each_in_order all (n + 1) ps

abbrev pub is_row : List Place → Bool
is_row ps = nat_le (length ps) MOST_PLACES && (columns_first ps && each_in_order ps 0 ps)

-- a verb as its kind and a number for each place; merges and calls, which take any number of words, have no kind
abbrev pub kernel_kind : Kernel → Kind
kernel_kind (Iota x s value) = kinds.Iota
kernel_kind (Axpy x y s factor) = kinds.Axpy
kernel_kind (Stencil x y r s) = kinds.Stencil
kernel_kind (Scan x y s) = kinds.Scan
kernel_kind (Hist x y s t) = kinds.Hist
kernel_kind (Dot x y z s t) = kinds.Dot
kernel_kind (Expect x s low high) = kinds.Expect
kernel_kind (Gather x y z s t) = kinds.Gather

abbrev pub reduce_kind : Op → Kind
reduce_kind op.Sum = kinds.ReduceSum
reduce_kind op.Min = kinds.ReduceMin
reduce_kind op.Max = kinds.ReduceMax

-- an arrival of weight 1 is spelled without its weight
abbrev pub arrive_kind : Bool → Kind
arrive_kind true = kinds.Arrive
arrive_kind false = kinds.ArriveTimes

-- an acquire that is not shared is spelled without a word for it
abbrev pub acquire_kind : Bool → Kind
acquire_kind false = kinds.Acquire
acquire_kind true = kinds.AcquireShared

abbrev pub verb_kind : Verb → Option Kind
verb_kind verbs.User = Some kinds.User
verb_kind (verbs.Trigger user) = Some kinds.Trigger
verb_kind (verbs.Cancel user) = Some kinds.Cancel
verb_kind (verbs.Merge events) = None
verb_kind (verbs.MergeIgnore events) = None
verb_kind (verbs.Phase barrier) = Some kinds.Phase
verb_kind (verbs.Arrive phase value weight) = Some (arrive_kind (weight == 1))
verb_kind (verbs.Acquire lock shared) = Some (acquire_kind shared)
verb_kind (verbs.Release acquire) = Some kinds.Release
verb_kind (verbs.Fill target space value) = Some kinds.Fill
verb_kind (verbs.Copy source target space) = Some kinds.Copy
verb_kind (verbs.Reduce op source target space) = Some (reduce_kind op)
verb_kind (verbs.Task kernel) = Some (kernel_kind kernel)
verb_kind (verbs.Call call) = None

abbrev pub kernel_parts : Kernel → List ℕ
kernel_parts (Iota x s value) = x ∷ s ∷ value ∷ []
kernel_parts (Axpy x y s factor) = x ∷ y ∷ s ∷ factor ∷ []
kernel_parts (Stencil x y r s) = x ∷ y ∷ r ∷ s ∷ []
kernel_parts (Scan x y s) = x ∷ y ∷ s ∷ []
kernel_parts (Hist x y s t) = x ∷ y ∷ s ∷ t ∷ []
kernel_parts (Dot x y z s t) = x ∷ y ∷ z ∷ s ∷ t ∷ []
kernel_parts (Expect x s low high) = x ∷ s ∷ low ∷ high ∷ []
kernel_parts (Gather x y z s t) = x ∷ y ∷ z ∷ s ∷ t ∷ []

abbrev pub arrive_parts : Bool → ℕ → ℕ → ℕ → List ℕ
arrive_parts true phase value weight = phase ∷ value ∷ []
arrive_parts false phase value weight = phase ∷ value ∷ 0 ∷ weight ∷ []

abbrev pub acquire_parts : Bool → ℕ → List ℕ
acquire_parts false lock = lock ∷ []
acquire_parts true lock = lock ∷ 0 ∷ []

abbrev pub verb_parts : Verb → List ℕ
verb_parts verbs.User = []
verb_parts (verbs.Trigger user) = user ∷ []
verb_parts (verbs.Cancel user) = user ∷ []
verb_parts (verbs.Merge events) = []
verb_parts (verbs.MergeIgnore events) = []
verb_parts (verbs.Phase barrier) = barrier ∷ []
verb_parts (verbs.Arrive phase value weight) = arrive_parts (weight == 1) phase value weight
verb_parts (verbs.Acquire lock shared) = acquire_parts shared lock
verb_parts (verbs.Release acquire) = acquire ∷ []
verb_parts (verbs.Fill target space value) = target ∷ space ∷ value ∷ []
verb_parts (verbs.Copy source target space) = source ∷ target ∷ space ∷ []
verb_parts (verbs.Reduce op source target space) = source ∷ target ∷ space ∷ []
verb_parts (verbs.Task kernel) = kernel_parts kernel
verb_parts (verbs.Call call) = []

-- the verb of a kind and a number for each of its places
abbrev pub verb_of : Kind → List ℕ → Verb
verb_of kinds.User n = verbs.User
verb_of kinds.Trigger n = verbs.Trigger (slice_index n 0)
verb_of kinds.Cancel n = verbs.Cancel (slice_index n 0)
verb_of kinds.Phase n = verbs.Phase (slice_index n 0)
verb_of kinds.Arrive n = verbs.Arrive (slice_index n 0) (slice_index n 1) 1
verb_of kinds.ArriveTimes n = verbs.Arrive (slice_index n 0) (slice_index n 1) (slice_index n 3)
verb_of kinds.Acquire n = verbs.Acquire (slice_index n 0) false
verb_of kinds.AcquireShared n = verbs.Acquire (slice_index n 0) true
verb_of kinds.Release n = verbs.Release (slice_index n 0)
verb_of kinds.Fill n = verbs.Fill (slice_index n 0) (slice_index n 1) (slice_index n 2)
verb_of kinds.Copy n = verbs.Copy (slice_index n 0) (slice_index n 1) (slice_index n 2)
verb_of kinds.ReduceSum n = verbs.Reduce op.Sum (slice_index n 0) (slice_index n 1) (slice_index n 2)
verb_of kinds.ReduceMin n = verbs.Reduce op.Min (slice_index n 0) (slice_index n 1) (slice_index n 2)
verb_of kinds.ReduceMax n = verbs.Reduce op.Max (slice_index n 0) (slice_index n 1) (slice_index n 2)
verb_of kinds.Iota n = verbs.Task (Iota (slice_index n 0) (slice_index n 1) (slice_index n 2))
verb_of kinds.Axpy n = verbs.Task (Axpy (slice_index n 0) (slice_index n 1) (slice_index n 2) (slice_index n 3))
verb_of kinds.Stencil n = verbs.Task (Stencil (slice_index n 0) (slice_index n 1) (slice_index n 2) (slice_index n 3))
verb_of kinds.Scan n = verbs.Task (Scan (slice_index n 0) (slice_index n 1) (slice_index n 2))
verb_of kinds.Hist n = verbs.Task (Hist (slice_index n 0) (slice_index n 1) (slice_index n 2) (slice_index n 3))
verb_of kinds.Dot n = verbs.Task (Dot (slice_index n 0) (slice_index n 1) (slice_index n 2) (slice_index n 3) (slice_index n 4))
verb_of kinds.Expect n = verbs.Task (Expect (slice_index n 0) (slice_index n 1) (slice_index n 2) (slice_index n 3))
verb_of kinds.Gather n = verbs.Task (Gather (slice_index n 0) (slice_index n 1) (slice_index n 2) (slice_index n 3) (slice_index n 4))

-- a place and the number that stands there
abbrev pub Placed : Type 0
Placed = Place × ℕ

abbrev pub verb_places : Verb → List Place
verb_places v = option_map_or kind_places (verb_kind v) []

-- the numbers of a verb, each in its place
abbrev pub verb_placed : Verb → List Placed
verb_placed v = zip (verb_places v) (verb_parts v)

-- whether a number passes a test in its place; the first place is asked last, so that where the others pass no test this computes to what that one gives
abbrev pub any_placed : (Place → ℕ → Bool) → List Placed → Bool
any_placed test [] = false
any_placed test (p ∷ ps) = any_placed test ps || test p.0 p.1

-- the number of a place among the parts of the code: a value, or the number of a name
abbrev pub part_in : Place → ℕ → Parts → ℕ
part_in Value n parts = slice_index parts.values n
part_in _ n parts = slice_index parts.numbers n

-- the numbers from the place n on
abbrev pub parts_from : ℕ → List Place → Parts → List ℕ
parts_from n [] parts = []
parts_from n (p ∷ ps) parts = part_in p n parts ∷ parts_from (n + 1) ps parts

-- the numbers of a kind
abbrev pub parts_of : Kind → Parts → List ℕ
parts_of kind parts = parts_from 0 (kind_places kind) parts

-- an arrival that is spelled with its weight has another than 1; 0 stands for the words before a weight and behind a shared reservation
abbrev pub NumbersFit : Kind → List ℕ → Type 0
NumbersFit kinds.ArriveTimes ns = (slice_index ns 2 ≡ 0) × ((slice_index ns 3 == 1) ≡ false)
NumbersFit kinds.AcquireShared ns = slice_index ns 1 ≡ 0
NumbersFit k ns = Unit {0}
