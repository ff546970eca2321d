-- Which conflicts are settled.
use Rattle.std.proofs.Common.{ℕ, false, not, inl, inr, ap}
use Rattle.std.proofs.lemmas.Bool.{cases_Bool}
use Rattle.graph_terms.specs.Graph.{GraphValue}
use Rattle.graph_meaning.specs.Rules.{modes_commute}
use Rattle.graph_meaning.proofs.Public.{lines_back, exempt_back}
use Rattle.sweep_base.specs.Held.{LieApart}
use Rattle.conflict_classes.specs.Clash.{LinesClash}
use Rattle.conflict_classes.specs.Settled.{IsSettled}

-- what does not clash is settled, and what clashes by uses that commute alone, where the lines lie apart
pub exempt_by : (g : GraphValue) (i j : ℕ) → (LinesClash g false i j → ⊥) → LieApart g i j → IsSettled g i j
exempt_by g i j soft a c = inr (inr (record {
  commute = λ x y hx hy conflict. elim (cases_Bool (modes_commute x.mode y.mode)) [
    | inl both ↦ both
    | inr no' ↦ absurd (soft (x, hx, (y, hy, record { conflict = conflict; counts = ap not no' })))
  ];
  lock = a.0;
  one = a.1;
  other = a.2;
  different = a.3;
  apart = a.4;
  one_section = a.5;
  other_section = a.6;
}))

-- and so are lines seen the other way round
pub settled_back : (g : GraphValue) (i j : ℕ) → IsSettled g i j → IsSettled g j i
settled_back g i j settled c = elim (settled (lines_back g j i c)) [
  | inl path ↦ inr (inl path)
  | inr (inl back) ↦ inl back
  | inr (inr exempt) ↦ inr (inr (exempt_back g i j exempt))
]
