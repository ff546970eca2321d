-- Small graphs, on which the definitions are tried.
use Rattle.std.specs.Prelude.{ℕ, Bool, true, false, List, [], ◌∷◌, codes}
use Rattle.index_spaces.specs.declared.Op.TheVariants as op
use Rattle.graph_terms.specs.declared.format.Format.TheVariants.{One, Two}
use Rattle.graph_terms.specs.declared.decl.Decl.{Decl}
use Rattle.graph_terms.specs.declared.decl.Decl.TheVariants.{Space, Inst, Lock, Barrier}
use Rattle.graph_terms.specs.declared.verb.Line.{Line}
use Rattle.graph_terms.specs.declared.verb.Verb.{Verb}
use Rattle.graph_terms.specs.declared.verb.Verb.TheVariants.{User, Trigger, Cancel, Merge, MergeIgnore, Phase, Arrive, Acquire, Release, Fill, Copy, Reduce, Task}
use Rattle.graph_terms.specs.declared.table.Kernel.TheVariants.{Iota, Axpy, Stencil, Scan, Hist, Dot, Expect, Gather}
use Rattle.graph_terms.specs.Graph.{GraphValue}

abbrev pub line : List ℕ → Verb → List ℕ → Line
line name verb on = record { name = name; verb = verb; on = on }

abbrev pub graph : List Decl → List Line → GraphValue
graph decls lines = record { format = One; decls = decls; lines = lines }

abbrev pub graph_two : List Decl → List Line → GraphValue
graph_two decls lines = record { format = Two; decls = decls; lines = lines }

-- one fill
abbrev pub one_fill : GraphValue
one_fill = graph (Space (codes "s") ((0, 3) ∷ []) ∷ Inst (codes "a") 0 (codes "x" ∷ []) ∷ []) (line (codes "f") (Fill 0 0 7) [] ∷ [])

abbrev pub two_columns : List Decl
two_columns = Space (codes "s") ((0, 1) ∷ []) ∷ Inst (codes "a") 0 (codes "x" ∷ codes "y" ∷ []) ∷ []

-- a line that waits for a user event, whose trigger stands below it
abbrev pub late_trigger : GraphValue
late_trigger = graph two_columns
    (line (codes "u") User [] ∷ line (codes "f") (Fill 0 0 5) (0 ∷ []) ∷ line (codes "g") (Fill 1 0 6) [] ∷ line (codes "t") (Trigger 0) (2 ∷ []) ∷ [])

-- the same without the trigger
abbrev pub no_trigger : GraphValue
no_trigger = graph two_columns
    (line (codes "u") User [] ∷ line (codes "f") (Fill 0 0 5) (0 ∷ []) ∷ line (codes "g") (Fill 1 0 6) [] ∷ [])

-- a fault, and what it cancels
abbrev pub broken_paths : GraphValue
broken_paths = graph two_columns
    (line (codes "f") (Fill 0 0 7) [] ∷ line (codes "k") (Task (Expect 0 0 0 5)) (0 ∷ []) ∷ line (codes "c") (Copy 0 1 0) (1 ∷ [])
    ∷ line (codes "m") (Merge (1 ∷ 2 ∷ [])) [] ∷ line (codes "n") (MergeIgnore (1 ∷ 2 ∷ [])) [] ∷ line (codes "g") (Fill 1 0 9) (4 ∷ []) ∷ [])

-- a cancelled user event and a barrier
abbrev pub cancelled_arrival : GraphValue
cancelled_arrival = graph (Barrier (codes "b") 1 op.Sum 10 ∷ [])
    (line (codes "u") User [] ∷ line (codes "p0") (Phase 0) [] ∷ line (codes "p1") (Phase 0) []
    ∷ line (codes "a0") (Arrive 1 5 1) (0 ∷ []) ∷ line (codes "a1") (Arrive 2 6 1) [] ∷ line (codes "c") (Cancel 0) [] ∷ [])

-- a sum that wraps
abbrev pub wrapping_sum : GraphValue
wrapping_sum = graph (Barrier (codes "b") 2 op.Sum 18446744073709551615 ∷ [])
    (line (codes "p") (Phase 0) [] ∷ line (codes "v") (Arrive 0 1 1) [] ∷ line (codes "w") (Arrive 0 5 1) [] ∷ [])

-- a phase that is short of arrivals
abbrev pub short_phase : GraphValue
short_phase = graph (Barrier (codes "b") 2 op.Sum 0 ∷ [])
    (line (codes "p0") (Phase 0) [] ∷ line (codes "p1") (Phase 0) [] ∷ line (codes "v") (Arrive 0 1 1) []
    ∷ line (codes "w") (Arrive 1 1 1) [] ∷ line (codes "x") (Arrive 1 1 1) [] ∷ [])

-- two fills that race
abbrev pub racing_fills : GraphValue
racing_fills = graph (Space (codes "s") ((0, 3) ∷ []) ∷ Inst (codes "a") 0 (codes "x" ∷ []) ∷ [])
    (line (codes "f") (Fill 0 0 7) [] ∷ line (codes "g") (Fill 0 0 8) [] ∷ [])

-- the same, one after the other
abbrev pub ordered_fills : GraphValue
ordered_fills = graph (Space (codes "s") ((0, 3) ∷ []) ∷ Inst (codes "a") 0 (codes "x" ∷ []) ∷ [])
    (line (codes "f") (Fill 0 0 7) [] ∷ line (codes "g") (Fill 0 0 8) (0 ∷ []) ∷ [])

-- sums under one reservation
abbrev pub reserved_decls : List Decl
reserved_decls = Space (codes "s") ((0, 1) ∷ []) ∷ Inst (codes "a") 0 (codes "x" ∷ codes "y" ∷ codes "z" ∷ []) ∷ Lock (codes "l") ∷ []

abbrev pub reserved_sums : GraphValue
reserved_sums = graph reserved_decls
    (line (codes "f") (Fill 0 0 3) [] ∷ line (codes "g") (Fill 1 0 4) []
    ∷ line (codes "q") (Acquire 0 false) (0 ∷ []) ∷ line (codes "d") (Reduce op.Sum 0 2 0) (2 ∷ []) ∷ line (codes "m") (MergeIgnore (3 ∷ [])) [] ∷ line (codes "r") (Release 2) (4 ∷ [])
    ∷ line (codes "k") (Acquire 0 false) (1 ∷ []) ∷ line (codes "e") (Reduce op.Sum 1 2 0) (6 ∷ []) ∷ line (codes "n") (MergeIgnore (7 ∷ [])) [] ∷ line (codes "t") (Release 6) (8 ∷ []) ∷ [])

-- the two sums in one section
abbrev pub one_section : GraphValue
one_section = graph reserved_decls
    (line (codes "q") (Acquire 0 false) [] ∷ line (codes "d") (Reduce op.Sum 0 2 0) (0 ∷ []) ∷ line (codes "e") (Reduce op.Sum 1 2 0) (0 ∷ [])
    ∷ line (codes "m") (MergeIgnore (1 ∷ 2 ∷ [])) [] ∷ line (codes "r") (Release 0) (3 ∷ []) ∷ [])

-- sections that do not descend
abbrev pub climbing_sections : GraphValue
climbing_sections = graph (Lock (codes "l") ∷ Lock (codes "k") ∷ [])
    (line (codes "q") (Acquire 1 false) [] ∷ line (codes "p") (Acquire 0 false) (0 ∷ []) ∷ line (codes "m") (MergeIgnore (1 ∷ [])) [] ∷ line (codes "r") (Release 1) (2 ∷ [])
    ∷ line (codes "n") (MergeIgnore (3 ∷ [])) [] ∷ line (codes "t") (Release 0) (4 ∷ []) ∷ [])

-- a release that a fault would cancel
abbrev pub plain_release : GraphValue
plain_release = graph (Lock (codes "l") ∷ [])
    (line (codes "q") (Acquire 0 false) [] ∷ line (codes "m") (Merge (0 ∷ [])) [] ∷ line (codes "r") (Release 0) (1 ∷ []) ∷ [])

-- a line from outside on the way to a release
abbrev pub open_section : GraphValue
open_section = graph (Lock (codes "l") ∷ [])
    (line (codes "u") User [] ∷ line (codes "q") (Acquire 0 false) [] ∷ line (codes "m") (MergeIgnore (1 ∷ 0 ∷ [])) []
    ∷ line (codes "r") (Release 1) (2 ∷ []) ∷ line (codes "t") (Trigger 0) [] ∷ [])

-- an acquire without a release
abbrev pub no_release : GraphValue
no_release = graph (Lock (codes "l") ∷ []) (line (codes "q") (Acquire 0 false) [] ∷ [])

-- nine fills of one point each that wait for one user event
abbrev pub nine_fills : GraphValue
nine_fills = graph
    (Space (codes "s1") ((1, 1) ∷ []) ∷ Space (codes "s2") ((2, 2) ∷ []) ∷ Space (codes "s3") ((3, 3) ∷ []) ∷ Space (codes "s4") ((4, 4) ∷ []) ∷ Space (codes "s5") ((5, 5) ∷ [])
    ∷ Space (codes "s6") ((6, 6) ∷ []) ∷ Space (codes "s7") ((7, 7) ∷ []) ∷ Space (codes "s8") ((8, 8) ∷ []) ∷ Space (codes "s9") ((9, 9) ∷ []) ∷ Space (codes "w") ((1, 9) ∷ [])
    ∷ Inst (codes "a") 9 (codes "x" ∷ []) ∷ [])
    (line (codes "u") User [] ∷ line (codes "f1") (Fill 0 0 1) (0 ∷ []) ∷ line (codes "f2") (Fill 0 1 2) (0 ∷ []) ∷ line (codes "f3") (Fill 0 2 3) (0 ∷ [])
    ∷ line (codes "f4") (Fill 0 3 4) (0 ∷ []) ∷ line (codes "f5") (Fill 0 4 5) (0 ∷ []) ∷ line (codes "f6") (Fill 0 5 6) (0 ∷ []) ∷ line (codes "f7") (Fill 0 6 7) (0 ∷ [])
    ∷ line (codes "f8") (Fill 0 7 8) (0 ∷ []) ∷ line (codes "f9") (Fill 0 8 9) (0 ∷ []) ∷ line (codes "t") (Trigger 0) [] ∷ [])

-- two sections of one reservation
abbrev pub two_sections : GraphValue
two_sections = graph (Lock (codes "l") ∷ [])
    (line (codes "q") (Acquire 0 false) [] ∷ line (codes "m") (MergeIgnore (0 ∷ [])) [] ∷ line (codes "r") (Release 0) (1 ∷ [])
    ∷ line (codes "k") (Acquire 0 false) [] ∷ line (codes "n") (MergeIgnore (3 ∷ [])) [] ∷ line (codes "t") (Release 3) (4 ∷ []) ∷ [])

-- a cycle
abbrev pub cycle : GraphValue
cycle = graph [] (line (codes "u") User [] ∷ line (codes "x") (Merge (0 ∷ [])) [] ∷ line (codes "t") (Trigger 0) (1 ∷ []) ∷ [])

-- each kernel, one after the other
abbrev pub kernels : GraphValue
kernels = graph
    (Space (codes "s") ((0, 3) ∷ []) ∷ Space (codes "t") ((0, 1) ∷ []) ∷ Space (codes "o") ((0, 0) ∷ [])
    ∷ Inst (codes "a") 0 (codes "x" ∷ codes "y" ∷ codes "z" ∷ []) ∷ Inst (codes "b") 2 (codes "d" ∷ []) ∷ [])
    (line (codes "e1") (Task (Iota 0 0 1)) [] ∷ line (codes "e2") (Task (Scan 0 1 0)) (0 ∷ []) ∷ line (codes "e3") (Task (Stencil 0 2 0 0)) (1 ∷ [])
    ∷ line (codes "e4") (Task (Axpy 1 2 0 10)) (2 ∷ []) ∷ line (codes "e5") (Task (Hist 2 1 0 1)) (3 ∷ []) ∷ line (codes "e6") (Task (Dot 0 1 3 0 2)) (4 ∷ [])
    ∷ line (codes "e7") (Task (Gather 0 1 2 0 1)) (5 ∷ []) ∷ line (codes "e8") (Reduce op.Max 0 2 0) (6 ∷ []) ∷ line (codes "e9") (Reduce op.Min 0 1 0) (7 ∷ []) ∷ [])

-- a space of two intervals
abbrev pub two_intervals : GraphValue
two_intervals = graph (Space (codes "p") ((0, 1) ∷ (4, 5) ∷ []) ∷ Inst (codes "a") 0 (codes "x" ∷ []) ∷ []) (line (codes "f") (Task (Iota 0 0 10)) [] ∷ [])

-- a phase of three arrivals of which one counts for two, and the same without the other
abbrev pub weighted_phase : GraphValue
weighted_phase = graph_two (Barrier (codes "b") 3 op.Sum 0 ∷ [])
    (line (codes "p") (Phase 0) [] ∷ line (codes "v") (Arrive 0 5 2) [] ∷ line (codes "w") (Arrive 0 1 1) [] ∷ [])

abbrev pub light_phase : GraphValue
light_phase = graph_two (Barrier (codes "b") 3 op.Sum 0 ∷ [])
    (line (codes "p") (Phase 0) [] ∷ line (codes "v") (Arrive 0 5 2) [] ∷ [])

-- two greatest values of format 2, each in a section of an acquire of its own
abbrev pub reserved_greatest : GraphValue
reserved_greatest = graph_two reserved_decls
    (line (codes "f") (Fill 0 0 3) [] ∷ line (codes "g") (Fill 1 0 4) []
    ∷ line (codes "q") (Acquire 0 false) (0 ∷ []) ∷ line (codes "d") (Reduce op.Max 0 2 0) (2 ∷ []) ∷ line (codes "m") (MergeIgnore (3 ∷ [])) [] ∷ line (codes "r") (Release 2) (4 ∷ [])
    ∷ line (codes "k") (Acquire 0 false) (1 ∷ []) ∷ line (codes "e") (Reduce op.Max 1 2 0) (6 ∷ []) ∷ line (codes "n") (MergeIgnore (7 ∷ [])) [] ∷ line (codes "t") (Release 6) (8 ∷ []) ∷ [])

-- two sums in format 2, each in a section of an acquire of its own, which is shared or not
abbrev pub sums_under : Bool → Bool → GraphValue
sums_under one other = graph_two reserved_decls
    (line (codes "f") (Fill 0 0 3) [] ∷ line (codes "g") (Fill 1 0 4) []
    ∷ line (codes "q") (Acquire 0 one) (0 ∷ []) ∷ line (codes "d") (Reduce op.Sum 0 2 0) (2 ∷ []) ∷ line (codes "m") (MergeIgnore (3 ∷ [])) [] ∷ line (codes "r") (Release 2) (4 ∷ [])
    ∷ line (codes "k") (Acquire 0 other) (1 ∷ []) ∷ line (codes "e") (Reduce op.Sum 1 2 0) (6 ∷ []) ∷ line (codes "n") (MergeIgnore (7 ∷ [])) [] ∷ line (codes "t") (Release 6) (8 ∷ []) ∷ [])

abbrev pub shared_sums : GraphValue
shared_sums = sums_under true true

abbrev pub sum_beside_shared : GraphValue
sum_beside_shared = sums_under true false
