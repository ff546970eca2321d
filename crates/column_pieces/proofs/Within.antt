-- Pieces lie within their columns.
use Rattle.std.proofs.Common.{◌≡◌, ℕ, ◌<◌, true, ◌⊎◌, inl, inr, length, get_or, subst, arith}
use Rattle.std.proofs.lemmas.List.Elements.{Contains-get_or}
use Rattle.index_spaces.specs.Space.{has_point}
use Rattle.graph_terms.specs.Fits.{IsGraph}
use Rattle.graph_terms.specs.Graph.{GraphValue, columns, column_space}
use Rattle.graph_meaning.proofs.Public.{accesses_fit}
use Rattle.column_pieces.specs.Pieces.{IsAccessed, HasManyApart, HasWide, Linked, one, more}
use Rattle.column_pieces.specs.Laws.{PiecesLieWithin, ConnectedLieWithin}

module _ (g : GraphValue) (fits : IsGraph g) where
  accessed_below : (c s : ℕ) → IsAccessed g c s → c < length (columns g)
  accessed_below c s a = subst (λ k. k < length (columns g)) a.3 (accesses_fit g a.0 a.1 fits a.2).column

  -- a column that stays whole is accessed
  whole_below : (c : ℕ) → HasManyApart g c ⊎ HasWide g c → c < length (columns g)
  whole_below c (inl apart) =
      let many : 64 < length apart.spaces = apart.many in
      accessed_below c (get_or apart.spaces 0 0) (apart.accessed (get_or apart.spaces 0 0) (Contains-get_or apart.spaces 0 0 (omega arith)))
  whole_below c (inr wide) = accessed_below c wide.connected.space wide.connected.accessed

  -- a point that is linked is one of the column
  linked_within : {c p q : ℕ} → Linked g c p q → has_point (column_space g c) p ≡ true
  linked_within {c} {p} {q} (one i a k e hp hq) = subst (λ d. has_point (column_space g d) p ≡ true) e ((accesses_fit g i a fits k).within p hp)
  linked_within (more l m) = linked_within l

pub connected_lie_within : ConnectedLieWithin
connected_lie_within g c t fits connected p h = linked_within g fits (connected.linked p p h h)

pub pieces_lie_within : PiecesLieWithin
pieces_lie_within g us pieces x fits are here = elim (are.over x here) [
  | inl connected ↦ (accessed_below g fits x.column connected.space connected.accessed, connected_lie_within g x.column _ fits connected)
  | inr whole ↦ (whole_below g fits x.column whole.cause, whole.no_others)
]
