-- The steps of an engine that takes or puts back a whole line in one call.
use Rattle.std.specs.Prelude.{ℕ, List, [], ◌∷◌, ◌++◌, map, Option, Some, None, slice_get, slice_index, slice_set}
use Rattle.std.specs.Option.{option_map_or}
use Rattle.index_spaces.specs.declared.Op.{Op}
use Rattle.index_spaces.specs.declared.Op.TheVariants as op
use Rattle.graph_terms.specs.declared.outcome.End.{End}
use Rattle.graph_terms.specs.declared.outcome.End.TheVariants.{Done, Faulted, Cancelled, Waiting}
use Rattle.graph_terms.specs.declared.verb.Access.{Access}
use Rattle.graph_terms.specs.declared.verb.Verb.{Verb}
use Rattle.graph_terms.specs.declared.verb.Verb.TheVariants.{Phase, Arrive, Acquire, Release}
use Rattle.graph_terms.specs.declared.decl.BarrierInfo.{BarrierInfo}
use Rattle.graph_terms.specs.Graph.{GraphValue, barriers, verb_at}
use Rattle.graph_terms.specs.Access.{accesses}
use Rattle.graph_meaning.specs.Evaluation.{combined}
use Rattle.run_state.specs.Run.{Place, Home, Had, Run, stage_at, list_at, end_so_far}
use Rattle.run_state.specs.Moves.{claim, inserted, without, draw, ending, close}

-- the columns of a line, and its reservation
abbrev pub column_list : GraphValue → ℕ → List ℕ
column_list g i = map (λ (a : Access). a.column) (accesses g i)

abbrev pub lock_by : Verb → Option ℕ
lock_by (Acquire l shared) = Some l
lock_by _ = None

abbrev pub lock_of : GraphValue → ℕ → Option ℕ
lock_of g i = option_map_or lock_by (verb_at g i) None

-- several columns out, one after another
abbrev pub all_had : List Place → ℕ → List ℕ → List Place
all_had places i [] = places
all_had places i (c ∷ cs) = all_had (slice_set places c (Had i)) i cs

abbrev pub columns_out : Run → ℕ → List ℕ → Run
columns_out run i cs = record run { places = all_had run.places i cs }

-- a reservation taken, where there is one to take
abbrev pub holders_with : List (List ℕ) → ℕ → Option ℕ → List (List ℕ)
holders_with holders i None = holders
holders_with holders i (Some l) = slice_set holders l (inserted i (list_at holders l))

abbrev pub hold_some : Run → ℕ → Option ℕ → Run
hold_some run i o = record run { holders = holders_with run.holders i o }

-- a line taken that is not cancelled (one that is cancelled is only claimed)
abbrev pub take_whole : GraphValue → Run → ℕ → Run
take_whole g run i = columns_out (hold_some (claim run i) i (lock_of g i)) i (column_list g i)

-- several columns put back, one after another
abbrev pub all_home : List Place → (ℕ → List ℕ) → List ℕ → List Place
all_home places xs [] = places
all_home places xs (c ∷ cs) = all_home (slice_set places c (Home (xs c))) xs cs

abbrev pub all_back : List (List ℕ) → ℕ → List ℕ → List (List ℕ)
all_back back i [] = back
all_back back i (c ∷ cs) = all_back (slice_set back c (i ∷ list_at back c)) i cs

abbrev pub columns_back : Run → ℕ → (ℕ → List ℕ) → List ℕ → Run
columns_back run i xs cs = record run { places = all_home run.places xs cs; back = all_back run.back i cs }

-- an arrival put in, where there is one: the operation, the phase and the value
abbrev pub values_with : List ℕ → Option (Op × ℕ × ℕ) → List ℕ
values_with values None = values
values_with values (Some a) = slice_set values a.1 (combined a.0 (slice_index values a.1) a.2)

abbrev pub arrived_with : List ℕ → ℕ → Option (Op × ℕ × ℕ) → List ℕ
arrived_with arrived i None = arrived
arrived_with arrived i (Some a) = arrived ++ i ∷ []

abbrev pub arrive_some : Run → ℕ → Option (Op × ℕ × ℕ) → Run
arrive_some run i o = record run { values = values_with run.values o; arrived = arrived_with run.arrived i o }

-- a reservation freed, where there is one: the reservation and its acquire
abbrev pub holders_without : List (List ℕ) → Option (ℕ × ℕ) → List (List ℕ)
holders_without holders None = holders
holders_without holders (Some a) = slice_set holders a.0 (without a.1 (list_at holders a.0))

abbrev pub freed_with : List ℕ → ℕ → Option (ℕ × ℕ) → List ℕ
freed_with freed r None = freed
freed_with freed r (Some a) = r ∷ freed

abbrev pub free_some : Run → ℕ → Option (ℕ × ℕ) → Run
free_some run r o = record run { holders = holders_without run.holders o; freed = freed_with run.freed r o }

-- the columns of a line that ends so
abbrev pub columns_for : GraphValue → ℕ → End → List ℕ
columns_for g i Cancelled = []
columns_for g i Done = column_list g i
columns_for g i Faulted = column_list g i
columns_for g i Waiting = column_list g i

-- what a line that ends so brings to a phase
abbrev pub op_by : GraphValue → Verb → Op
op_by g (Phase b) = option_map_or (λ (x : BarrierInfo). x.op) (slice_get (barriers g) b) op.Sum
op_by g _ = op.Sum

abbrev pub phase_op : GraphValue → ℕ → Op
phase_op g p = option_map_or (op_by g) (verb_at g p) op.Sum

abbrev pub arrival_by : GraphValue → Verb → Option (Op × ℕ × ℕ)
arrival_by g (Arrive p v w) = Some (phase_op g p, p, v)
arrival_by g _ = None

abbrev pub arrival_for : GraphValue → ℕ → End → Option (Op × ℕ × ℕ)
arrival_for g i Cancelled = None
arrival_for g i Done = option_map_or (arrival_by g) (verb_at g i) None
arrival_for g i Faulted = option_map_or (arrival_by g) (verb_at g i) None
arrival_for g i Waiting = option_map_or (arrival_by g) (verb_at g i) None

-- what a line frees: the reservation of its acquire, where that is done
abbrev pub freed_lock : ℕ → End → Option ℕ → Option (ℕ × ℕ)
freed_lock q Done (Some l) = Some (l, q)
freed_lock q _ _ = None

abbrev pub frees_by : GraphValue → Run → Verb → Option (ℕ × ℕ)
frees_by g run (Release q) = freed_lock q (end_so_far (stage_at run.stages q)) (lock_of g q)
frees_by g run _ = None

abbrev pub frees_for : GraphValue → Run → ℕ → Option (ℕ × ℕ)
frees_for g run i = option_map_or (frees_by g run) (verb_at g i) None

-- a line put back that ends with x, and leaves these cells on its columns
abbrev pub put_back_whole : GraphValue → Run → ℕ → End → (ℕ → List ℕ) → Run
put_back_whole g run i x xs =
    close (free_some (ending (draw (arrive_some (columns_back run i xs (columns_for g i x)) i (arrival_for g i x)) i) i x) i (frees_for g run i)) i x
