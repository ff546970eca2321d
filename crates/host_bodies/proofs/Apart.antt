-- Lines whose sources have ended and that have not: where they use one cell that one of them may change, both reduce into it.
use Rattle.std.proofs.Common.{◌≡◌, ℕ, Bool, true, false, inl, inr, sym, ◌∙◌, subst}
use Rattle.std.specs.Prelude.{Contains, ◌≢◌}
use Rattle.std.proofs.lemmas.Bool.{true≢false}
use Rattle.graph_terms.specs.declared.verb.Access.{Access}
use Rattle.graph_terms.specs.declared.verb.Edge.{Edge}
use Rattle.graph_terms.specs.Graph.{GraphValue}
use Rattle.graph_terms.specs.Access.{is_read, is_reduction}
use Rattle.graph_terms.specs.Edges.{edges}
use Rattle.graph_meaning.specs.Path.{HasPath}
use Rattle.graph_meaning.specs.Rules.{Accepted}
use Rattle.graph_meaning.proofs.Public.{path_or_exempt, before_ended, commute_parts}
use Rattle.host_bodies.proofs.Cells.{Covered, conflict_by}

-- a line that is left, and whose sources have ended
pub record IsOpen (g : GraphValue) (ended : ℕ → Bool) (i : ℕ) : Type 0 where
  pub left : ended i ≡ false
  pub ready : (e : Edge) → Contains (edges g) e → e.to ≡ i → ended e.from ≡ true

module _ (g : GraphValue) (accepted : Accepted g) (ended : ℕ → Bool) (closed : (e : Edge) → Contains (edges g) e → ended e.to ≡ true → ended e.from ≡ true) where
  no_path : (i j : ℕ) → IsOpen g ended i → IsOpen g ended j → HasPath g i j → ⊥
  no_path i j oi oj path = true≢false (sym (before_ended (edges g) ended closed i j oj.ready path) ∙ oi.left)

  -- the accesses by which they do are reductions both
  pub both_reduce : (i j c p : ℕ) (a b : Access) → i ≢ j → IsOpen g ended i → IsOpen g ended j → Covered g i c p a → Covered g j c p b → is_read b.mode ≡ false →
      (is_reduction a.mode ≡ true) × (is_reduction b.mode ≡ true)
  both_reduce i j c p a b ne oi oj va vb r =
      let x = conflict_by g i j c p a b ne va vb r in
      elim (path_or_exempt g accepted i j x) [
        | inl forth ↦ absurd (no_path i j oi oj forth)
        | inr (inl back) ↦ absurd (no_path j i oj oi back)
        | inr (inr e) ↦ (
            let q = commute_parts a.mode b.mode (e.commute a b va.listed vb.listed x.conflict) in
            (q.0, subst (λ m. is_reduction m ≡ true) q.1 q.0))
      ]
