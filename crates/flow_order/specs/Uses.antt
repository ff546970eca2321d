-- Which lines stand for the uses of a column: in classes, one for each space that it is used over.
use Rattle.std.specs.Prelude.{◌≡◌, ℕ, zero, suc, ◌<◌, ◌⊎◌, ◌&&◌, Bool, true, false, cond, List, [], ◌∷◌, ◌++◌, length, map, Contains, Some, slice_get, slice_set}
use Rattle.std.specs.List.{list_any}
use Rattle.index_spaces.specs.Space.{has_point, points}
use Rattle.graph_terms.specs.declared.verb.Access.{Access}
use Rattle.graph_terms.specs.declared.verb.Mode.{Mode}
use Rattle.graph_terms.specs.Graph.{GraphValue, columns, named_spaces, space_at}
use Rattle.graph_terms.specs.Access.{accesses}
use Rattle.flow_order.specs.Bits.{word_bit}
use Rattle.flow_order.specs.SourceParts.{has, tied_by}
use Rattle.flow_order.specs.Meaning.{order_counts, Chain}
use Rattle.flow_order.specs.Ends.{AreEnds}
use Rattle.flow_order.specs.declared.ends.Ends.{Ends}
use Rattle.flow_order.specs.declared.uses.Class.{Class}
use Rattle.flow_order.specs.declared.uses.ColumnUses.{ColumnUses}

-- a line with each of these accesses
abbrev pub uses_at : ℕ → List Access → List (ℕ × Access)
uses_at n bs = map (λ b. (n, b)) bs

-- the accesses of the first n lines, each with its line
abbrev pub uses_before : GraphValue → ℕ → List (ℕ × Access)
uses_before f zero = []
uses_before f (suc n) = uses_before f n ++ uses_at n (accesses f n)

-- line i is one of these, or has a chain to one
abbrev pub IsHeld : GraphValue → Bool → List ℕ → ℕ → Type 0
IsHeld f commute ks i = (k : ℕ) × Contains ks k × ((k ≡ i) ⊎ Chain f commute i k)

-- a class of column c after these uses: the latest, which are in one mode, stand for all of them; and where that mode has no order against itself, those before stand for all that have an order against it
pub record IsClass (f : GraphValue) (commute : Bool) (us : List (ℕ × Access)) (c : ℕ) (x : Class) : Type 0 where
  pub fits : x.space < length (named_spaces f)
  pub ends_are : AreEnds (space_at f x.space) x.ends
  pub latest_use : (i : ℕ) → Contains x.latest i → (a : Access) × Contains us (i, a) × (a.column ≡ c) × (a.space ≡ x.space) × (a.mode ≡ x.mode)
  pub before_use : (i : ℕ) → Contains x.before i → (a : Access) × Contains us (i, a) × (a.column ≡ c) × (a.space ≡ x.space) × (order_counts commute a.mode x.mode ≡ true)
  pub latest_hold : (i : ℕ) (a : Access) → Contains us (i, a) → a.column ≡ c → a.space ≡ x.space → IsHeld f commute x.latest i
  pub before_hold : order_counts commute x.mode x.mode ≡ false → (i : ℕ) (a : Access) → Contains us (i, a) → a.column ≡ c → a.space ≡ x.space → order_counts commute a.mode x.mode ≡ true → IsHeld f commute x.before i

-- the classes of column c after these uses: one for each space that it was used over
pub record AreClasses (f : GraphValue) (commute : Bool) (us : List (ℕ × Access)) (c : ℕ) (xs : List Class) : Type 0 where
  pub each : (k : ℕ) (x : Class) → slice_get xs k ≡ Some x → IsClass f commute us c x
  pub apart : (k l : ℕ) (x y : Class) → slice_get xs k ≡ Some x → slice_get xs l ≡ Some y → x.space ≡ y.space → k ≡ l
  pub all : (i : ℕ) (a : Access) → Contains us (i, a) → a.column ≡ c → (k : ℕ) × (x : Class) × (slice_get xs k ≡ Some x) × (x.space ≡ a.space)

-- the classes of each column after these uses
pub record AreUses (f : GraphValue) (commute : Bool) (us : List (ℕ × Access)) (cs : List ColumnUses) : Type 0 where
  pub count : length cs ≡ length (columns f)
  pub each : (c : ℕ) (x : ColumnUses) → slice_get cs c ≡ Some x → AreClasses f commute us c x.classes.items

-- what is left of a list of lines: those with these bits may be left out
pub record IsRest (row : List ℕ) (old rest : List ℕ) : Type 0 where
  pub kept : (i : ℕ) → Contains rest i → Contains old i
  pub gone : (i : ℕ) → Contains old i → Contains rest i ⊎ (word_bit row i ≡ true)

-- a class with one more use, beside so much of its latest lines where the order does not count
abbrev pub with_use : Bool → Class → List ℕ → Mode → ℕ → Class
with_use commute x rest mode n = cond (order_counts commute x.mode mode) (record { space = x.space; ends = x.ends; mode = mode; latest = n ∷ []; before = x.latest }) (record { space = x.space; ends = x.ends; mode = x.mode; latest = rest ++ n ∷ []; before = x.before })

-- a class with one more use, by a line that is reached by those with these bits
pub record HasUse (commute : Bool) (x : Class) (mode : Mode) (n : ℕ) (row : List ℕ) (y : Class) : Type 0 where
  pub rest : List ℕ
  pub is_rest : IsRest row x.latest rest
  pub has_use : y ≡ with_use commute x rest mode n

abbrev pub first_use : Access → Ends → ℕ → Class
first_use a e n = record { space = a.space; ends = e; mode = a.mode; latest = n ∷ []; before = [] }

-- the classes of a column with one more use, over this space: its class has it, or is new
pub data PutsUse (commute : Bool) (old : List Class) (a : Access) (s : List (ℕ × ℕ)) (n : ℕ) (row : List ℕ) (new : List Class) : Type 0 where
  joins : (k : ℕ) (x y : Class) → slice_get old k ≡ Some x → x.space ≡ a.space → HasUse commute x a.mode n row y → new ≡ slice_set old k y → PutsUse commute old a s n row new
  begins : (e : Ends) → AreEnds s e → ((k : ℕ) (x : Class) → slice_get old k ≡ Some x → x.space ≡ a.space → ⊥) → new ≡ old ++ first_use a e n ∷ [] → PutsUse commute old a s n row new

-- the lines of a class that stand for those that a use in this mode has an order against
abbrev pub group_for : Bool → Class → Mode → List ℕ
group_for commute x mode = cond (order_counts commute x.mode mode) x.latest x.before

-- whether two spaces share a point
abbrev pub spaces_meet : GraphValue → ℕ → ℕ → Bool
spaces_meet f s t = list_any (has_point (space_at f s)) (points (space_at f t))

-- whether line i is of the class and stands for lines that this access ties
abbrev pub stands_in : GraphValue → Bool → Access → Class → ℕ → Bool
stands_in f commute b x i = spaces_meet f x.space b.space && has (group_for commute x b.mode) i

-- these bits are of lines that access b of line n ties, and each line that it ties has a bit, or a chain to one that has
pub record AreAsked (f : GraphValue) (commute : Bool) (n : ℕ) (b : Access) (row : List ℕ) : Type 0 where
  pub sound : (i : ℕ) → word_bit row i ≡ true → Contains (tied_by f commute n b) i
  pub complete : (i : ℕ) → Contains (tied_by f commute n b) i → (k : ℕ) × (word_bit row k ≡ true) × ((k ≡ i) ⊎ Chain f commute i k)
