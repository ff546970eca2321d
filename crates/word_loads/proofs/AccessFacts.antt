-- What an access of a line tells.
use Rattle.std.proofs.Common.{◌≡◌, ℕ, ◌<◌, length, refl, sym, ◌∙◌, ap, subst}
use Rattle.std.specs.Prelude.{Contains, Option, Some, None, slice_get, option_map}
use Rattle.graph_terms.specs.declared.verb.Access.{Access}
use Rattle.graph_terms.specs.Access.{accesses, is_read}
use Rattle.graph_terms.specs.Graph.{GraphValue, columns}
use Rattle.graph_terms.specs.Fits.{IsGraph}
use Rattle.run_state.specs.Sound.{AccessesColumn}
use Rattle.run_state.specs.Sharing.{ChangesColumn}
use Rattle.run_state.specs.WholeLine.{column_list}
use Rattle.run_state.proofs.Public.{column_there, columns_once}
use Rattle.basics.proofs.ListFacts.{got_contains}
use Rattle.word_loads.proofs.TakenFacts.{get_map}

-- that is read of a graph which is this one
module _ (g g' : GraphValue) (i k : ℕ) (o : Option Access) (same : g' ≡ g) (is : o ≡ slice_get (accesses g' i) k) where
  pub no_access : o ≡ None → slice_get (accesses g i) k ≡ None
  no_access none = subst (λ y. slice_get (accesses y i) k ≡ None) same (sym is ∙ none)

  module _ (a : Access) (some_a : o ≡ Some a) where
    pub access_is : slice_get (accesses g i) k ≡ Some a
    access_is = subst (λ y. slice_get (accesses y i) k ≡ Some a) same (sym is ∙ some_a)

    pub access_in : Contains (accesses g i) a
    access_in = got_contains (accesses g i) k a access_is

    pub is_accessed : AccessesColumn g i a.column
    is_accessed = (a, access_in, refl)

    pub is_changed : is_read a.mode ≡ Rattle.std.specs.Prelude.false → ChangesColumn g i a.column
    is_changed own = (a, access_in, refl, own)

    pub column_known : IsGraph g' → a.column < length (columns g)
    column_known graph = column_there (subst IsGraph same graph) i a.column is_accessed

    pub at_most_one : IsGraph g' → (j : ℕ) → slice_get (column_list g i) j ≡ Some a.column → j ≡ k
    at_most_one graph j at = columns_once g (subst IsGraph same graph) i j k a.column at (get_map (λ (x : Access). x.column) (accesses g i) k ∙ ap (option_map (λ (x : Access). x.column)) access_is)
