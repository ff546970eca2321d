-- Which accesses of a call meet and may not, by the words of their columns.
use Rattle.std.specs.Prelude.{ℕ, ◌+◌, ◌-◌, Bool, true, false, cond, List, [], find, Option, Some, None, option_map, slice_index_or}
use Rattle.basics.specs.Lists.{numbers_below}
use Rattle.graph_terms.specs.declared.verb.Access.{Access}
use Rattle.graph_terms.specs.Fits.{accesses_clash}
use Rattle.graph_terms.specs.Graph.{GraphValue}
use Rattle.graph_words.specs.Calls.{mode_of}
use Rattle.graph_words.specs.Draft.{Place, DataColumn, access_spelled}
use Rattle.refused_words.specs.Places.{place_at}

abbrev pub is_data_column : Option Place → Bool
is_data_column (Some DataColumn) = true
is_data_column _ = false

-- the access of which word k is the column: how that is used stands before it, and the space behind it
abbrev pub word_access : GraphValue → List (List ℕ) → ℕ → Option Access
word_access g ws k = option_map (λ mode. access_spelled g (record { «mode» = mode; column = slice_index_or ws k []; space = slice_index_or ws (k + 1) [] })) (mode_of (slice_index_or ws (k - 1) []))

-- none where word k is no column of a call
abbrev pub access_at : GraphValue → List (List ℕ) → ℕ → Option Access
access_at g ws k = cond (is_data_column (place_at g.format ws k)) (word_access g ws k) None

-- two accesses clash, where there are two
abbrev pub both_clash : GraphValue → Option Access → Option Access → Bool
both_clash g (Some a) (Some b) = accesses_clash g a b
both_clash g _ _ = false

-- the first word before word k that is the column of an access which meets that of word k and may not
abbrev pub met_word : GraphValue → List (List ℕ) → ℕ → Option ℕ
met_word g ws k = find (λ j. both_clash g (access_at g ws j) (access_at g ws k)) (numbers_below k)
