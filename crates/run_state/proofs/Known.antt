-- The columns that a line of a graph that fits accesses: each is one of the graph, and none is named twice.
use Rattle.std.proofs.Common.{◌≡◌, ℕ, ◌<◌, length, sym, ◌∙◌, subst, inl, inr, List, map, refl}
use Rattle.graph_terms.specs.Graph.{GraphValue, columns}
use Rattle.graph_terms.specs.Fits.{IsGraph}
use Rattle.graph_meaning.proofs.Public.{accesses_fit, columns_differ}
use Rattle.std.specs.Prelude.{Option, Some, None, slice_get, option_map}
use Rattle.std.proofs.lemmas.Option.{none-some, same_Some, slice_get-map}
use Rattle.graph_terms.specs.declared.verb.Access.{Access}
use Rattle.graph_terms.specs.Access.{accesses}
use Rattle.run_state.proofs.Reductions.{Fresh, once_fresh}
use Rattle.std.proofs.lemmas.Bool.{cases_order}
use Rattle.run_state.specs.Laws.{AccessedColumnsAreDeclared, ColumnsAccessedOnce}

-- a column that a line accesses is one of the graph
pub column_there : {g : GraphValue} → AccessedColumnsAreDeclared g
column_there {g} f i c a = subst (λ x. x < length (columns g)) a.2 (accesses_fit g i a.0 f a.1).column

-- a line accesses no column twice
column_got : (accessed : List Access) (k c : ℕ) → slice_get (map (λ (a : Access). a.column) accessed) k ≡ Some c → (a : Access) × (slice_get accessed k ≡ Some a) × (a.column ≡ c)
column_got accessed k c h = got (slice_get accessed k) refl (sym (slice_get-map (λ (a : Access). a.column) accessed k) ∙ h)
  where
    got : (o : Option Access) → slice_get accessed k ≡ o → option_map (λ (a : Access). a.column) o ≡ Some c → (a : Access) × (slice_get accessed k ≡ Some a) × (a.column ≡ c)
    got None e h = absurd (none-some c h)
    got (Some a) e h = (a, e, same_Some a.column c h)

pub columns_once : ColumnsAccessedOnce
columns_once g f i j k c hj hk =
    let a = column_got (accesses g i) j c hj in
    let b = column_got (accesses g i) k c hk in
    elim (cases_order j k) [
      | inl e ↦ e
      | inr (inl below) ↦ absurd (columns_differ g i j k a.0 b.0 f below a.1 b.1 (a.2 ∙ sym b.2))
      | inr (inr above) ↦ absurd (columns_differ g i k j b.0 a.0 f above b.1 a.1 (b.2 ∙ sym a.2))
    ]

pub columns_fresh : (g : GraphValue) → IsGraph g → (i : ℕ) → Fresh (map (λ (a : Access). a.column) (accesses g i))
columns_fresh g f i = once_fresh (map (λ (a : Access). a.column) (accesses g i)) (columns_once g f i)
