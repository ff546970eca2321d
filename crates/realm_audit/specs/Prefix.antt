-- What is kept of the items of a trace before a place.
use Rattle.std.specs.Prelude.{◌≡◌, ◌≢◌, ℕ, Bool, true, false, not, ◌&&◌, List, length, Contains, ◌↔◌}
use Rattle.std.specs.List.{slice_index_or}
use Rattle.graph_terms.specs.declared.outcome.End.TheVariants.{Done, Waiting}
use Rattle.basics.specs.Lists.{count_below}
use Rattle.graph_terms.specs.declared.verb.Verb.{Verb}
use Rattle.graph_terms.specs.Graph.{GraphValue, locks, line_passes, is_acquire_of, is_shared}
use Rattle.graph_terms.specs.Edges.{sources}
use Rattle.graph_terms.specs.Reservations.{Acquires}
use Rattle.graph_meaning.specs.Evaluation.{eval_end}
use Rattle.realm_audit.specs.Lawful.{StandsEarlier, IsOpenAt}
use Rattle.realm_audit.specs.declared.prefix.Prefix.{Prefix}
use Rattle.realm_audit.specs.declared.sections.Sections.{Sections}

-- line q acquires reservation l and ended Done
abbrev pub Takes : GraphValue → ℕ → ℕ → Type 0
Takes g q l = Acquires g q l × (eval_end g q ≡ Done)

-- which lines stand before place k
abbrev pub AreEarlier : List ℕ → ℕ → (ℕ → Bool) → Type 0
AreEarlier trace k stands = (i : ℕ) → (stands i ≡ true) ↔ StandsEarlier trace k i

-- as a list with an item for each line
abbrev pub stands_in : List Bool → ℕ → Bool
stands_in stands i = slice_index_or stands i false

-- which acquires have a section that is open at place k
abbrev pub AreOpen : GraphValue → List ℕ → ℕ → (ℕ → Bool) → Type 0
AreOpen g trace k opened = (q : ℕ) → (opened q ≡ true) ↔ ((l : ℕ) × Takes g q l × IsOpenAt g trace k q)

-- the number of a reservation in a list with one for each
abbrev pub number_in : List ℕ → ℕ → ℕ
number_in counts l = slice_index_or counts l 0

-- an acquire of this reservation that is not shared
abbrev pub is_exclusive_of : ℕ → Verb → Bool
is_exclusive_of l v = not (is_shared v) && is_acquire_of l v

-- how many open sections are of lines whose verb passes a test
abbrev pub open_count : GraphValue → (ℕ → Bool) → (Verb → Bool) → ℕ
open_count g opened test = count_below (λ q. opened q && line_passes test g q) (length g.lines)

-- the tables have an item for each line and each reservation, and count the open sections
pub record AreCounted (g : GraphValue) (s : Sections) : Type 0 where
  pub opened_size : length s.opened.items ≡ length g.lines
  pub all_size : length s.all.items ≡ length (locks g)
  pub exclusive_size : length s.exclusive.items ≡ length (locks g)
  pub all : (l : ℕ) → number_in s.all.items l ≡ open_count g (stands_in s.opened.items) (is_acquire_of l)
  pub exclusive : (l : ℕ) → number_in s.exclusive.items l ≡ open_count g (stands_in s.opened.items) (is_exclusive_of l)

pub record AreSectionsAt (g : GraphValue) (trace : List ℕ) (k : ℕ) (s : Sections) : Type 0 where
  pub counted : AreCounted g s
  pub are : AreOpen g trace k (stands_in s.opened.items)

-- the section of acquire q is closed in the one list and open in the other, and nothing else differs
pub record OpensSection (before after : List Bool) (q : ℕ) : Type 0 where
  pub closed : stands_in before q ≡ false
  pub opened : stands_in after q ≡ true
  pub others : (p : ℕ) → (p ≡ q → ⊥) → stands_in after p ≡ stands_in before p

pub record IsPrefix (g : GraphValue) (trace : List ℕ) (k : ℕ) (p : Prefix) : Type 0 where
  pub size : length p.stands.items ≡ length g.lines
  pub earlier : AreEarlier trace k (stands_in p.stands.items)
  pub sections : AreSectionsAt g trace k p.sections

-- line j does not wait, and is not among those that stand
abbrev pub IsLeft : GraphValue → List Bool → ℕ → Type 0
IsLeft g stands j = (eval_end g j ≢ Waiting) × (stands_in stands j ≡ false)

-- such a line is a source of line i
abbrev pub IsLate : GraphValue → List Bool → ℕ → ℕ → Type 0
IsLate g stands i j = Contains (sources g i) j × IsLeft g stands j

-- the section of acquire q of reservation l is open, and q and another acquire of it are not both shared
pub record IsOpenBeside (g : GraphValue) (opened : List Bool) (l : ℕ) (shared : Bool) (q : ℕ) : Type 0 where
  pub is_open : stands_in opened q ≡ true
  pub acquires : Acquires g q l
  pub apart : (line_passes is_shared g q && shared) ≡ false

-- such an acquire is of the reservation that line i takes
abbrev pub IsRival : GraphValue → List Bool → ℕ → ℕ → Type 0
IsRival g opened i q = (l : ℕ) × Takes g i l × IsOpenBeside g opened l (line_passes is_shared g i) q
