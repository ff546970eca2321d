-- The quantities of a graph that have greatest values, and which of them an item at its end brings above that.
use Rattle.std.specs.Prelude.{ℕ, ◌+◌, ◌*◌, nat_lt, Bool, cond, List, [], ◌∷◌, ◌++◌, length, filter, find, codes, Option, None, ◌⊎◌}
use Rattle.std.specs.Option.{option_map_or}
use Rattle.std.proofs.Common.{inl, inr}
use Rattle.index_spaces.specs.Space.{space_size}
use Rattle.graph_terms.specs.declared.limits.TheConstants.{MAX_SPACES, MAX_CALL_ACCESSES}
use Rattle.graph_terms.specs.Limits.{limits}
use Rattle.graph_terms.specs.declared.decl.Decl.{Decl}
use Rattle.graph_terms.specs.declared.decl.Decl.TheVariants.{Space, Inst, Data, Lock, Barrier}
use Rattle.graph_terms.specs.declared.format.Format.{Format}
use Rattle.graph_terms.specs.declared.format.Format.TheVariants.{Three}
use Rattle.graph_terms.specs.Format.{has_since}
use Rattle.graph_terms.specs.declared.verb.Line.{Line}
use Rattle.graph_terms.specs.declared.verb.Verb.{Verb}
use Rattle.graph_terms.specs.declared.verb.Verb.TheVariants.{Merge, MergeIgnore, Call}
use Rattle.graph_terms.specs.Graph.{GraphValue, named_spaces, columns, data_columns, locks, barriers, space_at}
use Rattle.graph_terms.specs.Edges.{edges}
use Rattle.graph_terms.specs.Fits.{is_inst, cell_count, with_decl, with_line}
use Rattle.graph_words.specs.Draft.{Draft, draft}
use Rattle.refused_words.specs.declared.limits.Quantity.{Quantity}
use Rattle.refused_words.specs.declared.places.CallSize.{CallSize}

-- a quantity with its greatest value
pub record QuantityValue : Type 0 where
  pub name : List ℕ
  pub value : ℕ
  pub bound : ℕ

abbrev pub quantity_value : Quantity → QuantityValue
quantity_value q = record { name = q.name.now; value = q.value; bound = q.bound }

abbrev pub quantity : List ℕ → ℕ → ℕ → QuantityValue
quantity name value bound = record { name = name; value = value; bound = bound }

abbrev pub is_above : QuantityValue → Bool
is_above q = nat_lt q.bound q.value

-- so many spaces, which are limited in format 3: where the text is longer than the formats before it allow
abbrev pub spaces_quantity : Format → ℕ → QuantityValue
spaces_quantity format n = quantity (codes "spaces") (cond (has_since Three format) n 0) MAX_SPACES

-- the spaces of a graph come last: where one is refused for a limit and no other quantity is above its bound, its text is as long
abbrev pub spaces_of : GraphValue → List QuantityValue
spaces_of g = spaces_quantity g.format (length (named_spaces g)) ∷ []

-- of a space, and of a graph at whose end a declaration stands
abbrev pub space_quantities : Format → List (ℕ × ℕ) → List QuantityValue
space_quantities format is = quantity (codes "intervals of a space") (length is) (limits format).space.intervals ∷ quantity (codes "points of a space") (space_size is) (limits format).space.points ∷ []

-- the columns of instances and of data
abbrev pub column_count : GraphValue → ℕ
column_count g = length (columns g) + length (data_columns g)

-- so many columns
abbrev pub columns_quantity : Format → ℕ → QuantityValue
columns_quantity format n = quantity (codes "columns") n (limits format).columns

abbrev pub decl_quantities : GraphValue → Decl → List QuantityValue
decl_quantities g (Space name space) = space_quantities g.format space
decl_quantities g (Inst name space fields) =
    quantity (codes "instances") (length (filter is_inst g.decls)) (limits g.format).insts
    ∷ columns_quantity g.format (column_count g)
    ∷ quantity (codes "cells") (cell_count g) (limits g.format).cells
    ∷ []
decl_quantities g (Data name space fields) = columns_quantity g.format (column_count g) ∷ []
decl_quantities g (Lock name) = quantity (codes "reservations") (length (locks g)) (limits g.format).locks ∷ []
decl_quantities g (Barrier name count op first) = quantity (codes "barriers") (length (barriers g)) (limits g.format).barriers ∷ []

-- of a merge or a call, of the events behind `on`, and of a graph at whose end a line stands
abbrev pub verb_quantities : Format → Verb → List QuantityValue
verb_quantities format (Merge events) = quantity (codes "events of a merge") (length events) (limits format).events ∷ []
verb_quantities format (MergeIgnore events) = quantity (codes "events of a merge") (length events) (limits format).events ∷ []
verb_quantities format (Call call) = quantity (codes "accesses of a call") (length call.accesses) MAX_CALL_ACCESSES ∷ []
verb_quantities format _ = []

abbrev pub on_quantities : Format → List ℕ → List QuantityValue
on_quantities format [] = []
on_quantities format (e ∷ es) = quantity (codes "events behind on") (length (e ∷ es)) (limits format).events ∷ []

abbrev pub event_quantities : Format → Line → List QuantityValue
event_quantities format l = verb_quantities format l.verb ++ on_quantities format l.on

abbrev pub line_quantities : GraphValue → Line → List QuantityValue
line_quantities g l = quantity (codes "operations") (length g.lines) (limits g.format).lines ∷ event_quantities g.format l ++ quantity (codes "edges") (length (edges g)) (limits g.format).edges ∷ []

-- of a graph with a declaration or a line at its end, those that it is part of
abbrev pub item_quantities : GraphValue → Decl ⊎ Line → List QuantityValue
item_quantities g (inl d) = decl_quantities (with_decl g d) d ++ spaces_of (with_decl g d)
item_quantities g (inr l) = line_quantities (with_line g l) l ++ spaces_of (with_line g l)

-- the first that is above its bound with what was spelled at the end of the graph
abbrev pub limit_in : GraphValue → Option Draft → Option QuantityValue
limit_in g o = option_map_or (λ (d : Draft). find is_above (item_quantities g d.item)) o None

-- what a line of these words brings above its bound
abbrev pub limit_of : GraphValue → List (List ℕ) → Option QuantityValue
limit_of g ws = limit_in g (draft g ws)

-- the same of a space of these intervals, of an instance of so many fields over the space of this number, and of data of so many fields
abbrev pub intervals_limit : GraphValue → List (ℕ × ℕ) → Option QuantityValue
intervals_limit g is = find is_above (space_quantities g.format is ++ spaces_quantity g.format (length (named_spaces g) + 1) ∷ [])

abbrev pub inst_limit : GraphValue → ℕ → ℕ → Option QuantityValue
inst_limit g space fields = find is_above (
    quantity (codes "instances") (length (filter is_inst g.decls) + 1) (limits g.format).insts
    ∷ columns_quantity g.format (column_count g + fields)
    ∷ quantity (codes "cells") (cell_count g + fields * space_size (space_at g space)) (limits g.format).cells
    ∷ spaces_of g)

abbrev pub data_limit : GraphValue → ℕ → Option QuantityValue
data_limit g fields = find is_above (columns_quantity g.format (column_count g + fields) ∷ spaces_of g)

-- of a call of this size
abbrev pub size_limit : GraphValue → CallSize → Option QuantityValue
size_limit g size = find is_above (
    quantity (codes "operations") (length g.lines + 1) (limits g.format).lines
    ∷ quantity (codes "accesses of a call") size.accesses MAX_CALL_ACCESSES
    ∷ quantity (codes "events behind on") size.events (limits g.format).events
    ∷ quantity (codes "edges") (length (edges g) + size.events) (limits g.format).edges
    ∷ spaces_of g)
