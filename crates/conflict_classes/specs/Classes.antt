-- The classes of accesses: one for each column, space and mode that some line uses. The accesses of all lines are numbered, place by place.
use Rattle.std.specs.Prelude.{◌≡◌, ℕ, ◌+◌, ◌*◌, ◌<◌, ◌≤◌, ◌⊎◌, List, length, Option, Some, None, Vec, Contains, slice_get, slice_index}
use Rattle.std.specs.Global.{Global}
use Rattle.std.specs.List.{slice_index_or}
use Rattle.graph_terms.specs.declared.verb.Access.{Access}
use Rattle.graph_terms.specs.Graph.{GraphValue}
use Rattle.graph_terms.specs.Access.{all_accesses, AccessesConflict}

-- what is kept for a number, where something is
abbrev pub kept_at : List (Option ℕ) → ℕ → Option ℕ
kept_at items m = slice_index_or items m None

-- the place of the line whose access has this number
abbrev pub place_at : List ℕ → ℕ → ℕ
place_at sites r = slice_index sites r

-- the accesses of the lines before place p have the numbers below m
pub record IsBegin (sites : List ℕ) (p m : ℕ) : Type 0 where
  pub within : m ≤ length sites
  pub before : (r : ℕ) → r < m → place_at sites r < p
  pub behind : (r : ℕ) → m ≤ r → r < length sites → p ≤ place_at sites r

-- each access that has a number has a class and a place, and accesses are numbered place by place
pub record AreNumbered (classes sites : List ℕ) : Type 0 where
  pub size : length sites ≡ length classes
  pub ascending : (r s : ℕ) → r ≤ s → s < length sites → place_at sites r ≤ place_at sites s

-- an access of the line at place p has a number, by its class
pub record HasNumber (keys : List Access) (classes sites : List ℕ) (p : ℕ) (a : Access) : Type 0 where
  pub number : ℕ
  pub class : ℕ
  pub class_is : slice_get classes number ≡ Some class
  pub key_is : slice_get keys class ≡ Some a
  pub place_is : place_at sites number ≡ p

-- a number is that of an access of the line at its place
abbrev pub AreOwn : GraphValue → List ℕ → List Access → List ℕ → List ℕ → Type 0
AreOwn g lines keys classes sites = (r c : ℕ) (a : Access) → slice_get classes r ≡ Some c → slice_get keys c ≡ Some a → Contains (all_accesses g (slice_index lines (place_at sites r))) a

-- each access of the lines below a limit has its number and its class, and nothing else has one
pub record AreClasses (g : GraphValue) (limit : ℕ) (lines : List ℕ) (keys : List Access) (classes sites begins : List ℕ) : Type 0 where
  pub numbered : AreNumbered classes sites
  pub within : (r : ℕ) → r < length sites → place_at sites r < length lines
  pub limited : (r : ℕ) → r < length sites → slice_index lines (place_at sites r) < limit
  pub begin_count : length begins ≡ length lines + 1
  pub begin : (p : ℕ) → p ≤ length lines → IsBegin sites p (slice_index begins p)
  pub own : AreOwn g lines keys classes sites
  pub each : (p : ℕ) (a : Access) → p < length lines → slice_index lines p < limit → Contains (all_accesses g (slice_index lines p)) a → HasNumber keys classes sites p a
  pub known : (r c : ℕ) → slice_get classes r ≡ Some c → c < length keys
  pub few : length keys ≤ length classes
  pub count : length classes ≤ 8 * length lines

-- the same of the accesses of the lines before place p and the first k of the line there
pub record AreClassesTo (g : GraphValue) (limit : ℕ) (lines : List ℕ) (keys : List Access) (classes sites begins : List ℕ) (p k : ℕ) : Type 0 where
  pub numbered : AreNumbered classes sites
  pub within : (r : ℕ) → r < length sites → place_at sites r < length lines
  pub limited : (r : ℕ) → r < length sites → slice_index lines (place_at sites r) < limit
  pub low : (r : ℕ) → r < length sites → place_at sites r ≤ p
  pub begin_count : length begins ≡ p + 1
  pub begin : (q : ℕ) → q ≤ p → IsBegin sites q (slice_index begins q)
  pub own : AreOwn g lines keys classes sites
  pub each : (q m : ℕ) (a : Access) → q < length lines → slice_index lines q < limit → (q < p) ⊎ ((q ≡ p) × (m < k)) → slice_get (all_accesses g (slice_index lines q)) m ≡ Some a → HasNumber keys classes sites q a
  pub known : (r c : ℕ) → slice_get classes r ≡ Some c → c < length keys
  pub few : length keys ≤ length classes
  pub count : length classes ≤ 8 * p + k

-- class d is kept beside class c
abbrev pub IsNear : List (Vec ℕ Global) → ℕ → ℕ → Type 0
IsNear near c d = (v : Vec ℕ Global) × (slice_get near c ≡ Some v) × Contains v.items d

-- classes that conflict are kept beside one another
pub record AreNear (g : GraphValue) (keys : List Access) (near : List (Vec ℕ Global)) : Type 0 where
  pub size : length near ≡ length keys
  pub known : (c d : ℕ) → IsNear near c d → d < length keys
  pub each : (c d : ℕ) (a b : Access) → slice_get keys c ≡ Some a → slice_get keys d ≡ Some b → AccessesConflict g a b → (c ≡ d) ⊎ IsNear near c d
