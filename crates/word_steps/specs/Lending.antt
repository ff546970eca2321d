-- A column as it lies in a run: alone in its slot, or lent by shares, each in a place of its own.
use Rattle.std.specs.Prelude.{◌≡◌, ℕ, zero, suc, ◌+◌, ◌-◌, ◌^◌, ◌<◌, ◌≤◌, ◌==◌, nat_lt, min, List, cond, Option, Some, None}
use mathlib.Core.Option.{some}
use lib.ListN.{get_elem?}
use Rattle.index_spaces.specs.Column.{ColumnValue}
use Rattle.index_spaces.specs.Shares.{ShareValue}
use Rattle.graph_terms.specs.Graph.{GraphValue}
use Rattle.word_steps.specs.declared.content.Content.{Content}
use Rattle.word_steps.specs.declared.content.Content.TheVariants.{Nothing, PendingEvent, EventReceipt, Cells, Lent, Share, Issuer}
use Rattle.word_steps.specs.Layout.{size_of, column_slot, share_slot}
use Rattle.share_words.specs.Shares.{share_count}

-- what lies in the slot of a column with so many shares, where it is of lending d
abbrev pub home_for : ℕ → ℕ → ColumnValue → Content
home_for count d x = cond (count == 0) (Cells x) (Lent (record { column = x; lending = d }))

-- all of these shares, where there are some
abbrev pub all_for : ℕ → ℕ → ColumnValue → Option ShareValue
all_for count d x = cond (count == 0) None (Some (record { column = x; lending = d; count = 2 ^ 63 }))

-- how much of a lending share j is, of so many: one, but for the first, which is all the rest
abbrev pub count_for : ℕ → ℕ → ℕ
count_for count zero = 2 ^ 63 + 1 - count
count_for count (suc j) = 1

-- what lies in the place of share j, of so many: the share, or nothing where there are no more than j
abbrev pub place_for : ℕ → ℕ → ℕ → ColumnValue → Content
place_for count j d x = cond (nat_lt j count) (Share (record { column = x; lending = d; count = count_for count j })) Nothing

-- what is left of all shares, of so many, once those from number 1 to below n lie in their places
abbrev pub rest_for : ℕ → ℕ → ℕ → ColumnValue → Content
rest_for count n d x = cond (count == 0) Nothing (Share (record { column = x; lending = d; count = 2 ^ 63 + 1 - min n count }))

-- the shares of the numbers below n together, of so many
abbrev pub first_for : ℕ → ℕ → ℕ → ColumnValue → Option ShareValue
first_for count n d x = cond (min n count == 0) None (Some (record { column = x; lending = d; count = 2 ^ 63 + min n count - count }))

-- these make the column again: it is alone, or all its shares are there
abbrev pub AreWhole : Content → Option ShareValue → ColumnValue → Type 0
AreWhole (Cells y) all x = y ≡ x
AreWhole (Lent l) None x = ⊥
AreWhole (Lent l) (Some s) x = (l.column ≡ x) × (s.lending ≡ l.lending) × (s.count ≡ 2 ^ 63)
AreWhole Nothing all x = ⊥
AreWhole (PendingEvent p) all x = ⊥
AreWhole (EventReceipt r) all x = ⊥
AreWhole (Share s) all x = ⊥
AreWhole (Issuer d) all x = ⊥

-- what lies in a place may be put to some shares of a column
abbrev pub MayJoin : Option ShareValue → Content → Type 0
MayJoin all Nothing = Unit {0}
MayJoin None (Share s) = Unit {0}
MayJoin (Some t) (Share s) = (s.lending ≡ t.lending) × (0 < t.count) × (t.count + s.count ≤ 2 ^ 63)
MayJoin all (PendingEvent p) = ⊥
MayJoin all (EventReceipt r) = ⊥
MayJoin all (Cells x) = ⊥
MayJoin all (Lent l) = ⊥
MayJoin all (Issuer d) = ⊥

-- and these are the shares then
abbrev pub joined : Option ShareValue → Content → Option ShareValue
joined None (Share s) = Some s
joined (Some t) (Share s) = Some (record t { count = t.count + s.count })
joined all x = all

-- a column lies in its slot and in the places of its shares
pub record LiesIn (g : GraphValue) (slots : List Content) (c : ℕ) (x : ColumnValue) : Type 0 where
  pub lending : ℕ
  pub home : get_elem? slots (column_slot (size_of g) c) ≡ some (home_for (share_count g c) lending x)
  pub places : (j : ℕ) → j < (size_of g).planes → get_elem? slots (share_slot (size_of g) c j) ≡ some (place_for (share_count g c) j lending x)

-- what lies in a place with these shares
abbrev pub in_place : Option ShareValue → Content
in_place None = Nothing
in_place (Some s) = Share s
