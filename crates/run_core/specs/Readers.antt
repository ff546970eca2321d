-- Which lines have shares of which columns, and how the columns are lent to them.
use Rattle.std.specs.Prelude.{◌≡◌, ℕ, ◌<◌, ◌&&◌, cond, Bool, not, false, List, [], length, map, filter, replicate, Option, Some, None, IsTrue}
use Rattle.basics.specs.Lists.{numbers_below, count_below}
use Rattle.graph_terms.specs.declared.outcome.End.{End}
use Rattle.graph_terms.specs.declared.outcome.End.TheVariants.{Done, Faulted, Cancelled, Waiting}
use Rattle.graph_terms.specs.declared.verb.Access.{Access}
use Rattle.graph_terms.specs.Graph.{GraphValue, columns}
use Rattle.graph_terms.specs.Access.{accesses, is_read}
use Rattle.lent_columns.specs.Lendings.{Lending, lending_in, readers_of, HasOneMore, one_fewer}
use Rattle.run_state.specs.Run.{LineStage, is_listed, out}
use Rattle.run_state.specs.Sound.{OnlyReads}
use Rattle.run_state.specs.Quiet.{kept_cancels}

-- the columns that a line only reads
abbrev pub reads : Access → Bool
reads a = is_read a.mode

abbrev pub read_list : GraphValue → ℕ → List ℕ
read_list g i = map (λ (a : Access). a.column) (filter reads (accesses g i))

-- a line that is out, and that its sources don't cancel, has a share of each column that it only reads
pub record IsReading (g : GraphValue) (stages : List LineStage) (k c : ℕ) : Type 0 where
  pub is_out : IsTrue (out stages k)
  pub reads : OnlyReads g k c
  pub runs : kept_cancels g stages k ≡ false

abbrev pub is_reading : GraphValue → List LineStage → ℕ → ℕ → Bool
is_reading g stages c k = out stages k && (is_listed (read_list g k) c && not (kept_cancels g stages k))

-- before any line is out no column is lent
abbrev pub no_lendings : GraphValue → List (Option Lending)
no_lendings g = replicate (length (columns g)) None

-- a column is lent to those lines alone, and where there are some
pub record AreLent (g : GraphValue) (stages : List LineStage) (lendings : List (Option Lending)) : Type 0 where
  pub each : length lendings ≡ length (columns g)
  pub readers : (c : ℕ) → readers_of (lending_in lendings c) ≡ count_below (is_reading g stages c) (length g.lines)
  pub some : (c : ℕ) (l : Lending) → lending_in lendings c ≡ Some l → 0 < l.readers

-- a line that is taken is a reader more of each column that it only reads
pub record SharesTaken (g : GraphValue) (i : ℕ) (old new : List (Option Lending)) : Type 0 where
  pub each : length new ≡ length old
  pub more : (c : ℕ) → OnlyReads g i c → (l : Lending) × (lending_in new c ≡ Some l) × HasOneMore (lending_in old c) l
  pub others : (c : ℕ) → (OnlyReads g i c → ⊥) → lending_in new c ≡ lending_in old c

-- the columns of which a line that ends so has a share
abbrev pub read_for : GraphValue → ℕ → End → List ℕ
read_for g i Cancelled = []
read_for g i Done = read_list g i
read_for g i Faulted = read_list g i
read_for g i Waiting = read_list g i

-- the lendings once it has given these back: each has a reader fewer, and the last one ends it
abbrev pub lendings_left : GraphValue → ℕ → End → List (Option Lending) → List (Option Lending)
lendings_left g i x lendings = map (λ c. cond (is_listed (read_for g i x) c) (one_fewer (lending_in lendings c)) (lending_in lendings c)) (numbers_below (length lendings))
