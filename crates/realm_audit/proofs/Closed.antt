-- Before places without a fault each line stands once, and after its sources.
use Rattle.std.proofs.Common.{◌≡◌, ℕ, ◌<◌, inl, inr, List, sym, subst, arith}
use Rattle.std.specs.Prelude.{◌≢◌, Contains, Some, slice_get}
use Rattle.std.proofs.lemmas.Bool.{cases_order}
use Rattle.graph_terms.specs.declared.verb.Edge.{Edge}
use Rattle.graph_terms.specs.declared.outcome.End.TheVariants.{Waiting}
use Rattle.graph_terms.specs.Graph.{GraphValue}
use Rattle.graph_terms.specs.Edges.{edges}
use Rattle.graph_meaning.specs.Evaluation.{eval_end}
use Rattle.graph_meaning.specs.Path.{Path, last, first}
use Rattle.graph_meaning.specs.Laws.{OrderListsEnded}
use Rattle.realm_audit.specs.Lawful.{StandsEarlier, IsSoundAt, IsSoundBefore}
use Rattle.realm_audit.proofs.Earlier.{earlier_or_not, earlier_by}
use Rattle.realm_audit.proofs.EndFacts.{source_listed, source_ended}

pub stands_once : (g : GraphValue) (trace : List ℕ) (n : ℕ) → IsSoundBefore g trace n → (k m i : ℕ) → k < n → m < n → slice_get trace k ≡ Some i → slice_get trace m ≡ Some i → k ≡ m
stands_once g trace n sound k m i hk hm ek em = elim (cases_order k m) [
  | inl same ↦ same
  | inr (inl below) ↦ absurd ((sound m hm).once (i, em, (k, below, ek)))
  | inr (inr above) ↦ absurd ((sound k hk).once (i, ek, (m, above, em)))
]

pub stands_ended : (g : GraphValue) (trace : List ℕ) (k i : ℕ) → IsSoundAt g trace k → slice_get trace k ≡ Some i → eval_end g i ≢ Waiting
stands_ended g trace k i sound at w = sound.ends (i, at, w)

pub source_earlier : OrderListsEnded → (g : GraphValue) (trace : List ℕ) (k : ℕ) → IsSoundAt g trace k → (e : Edge) → Contains (edges g) e → slice_get trace k ≡ Some e.to → StandsEarlier trace k e.from
source_earlier law g trace k sound e c at = elim (earlier_or_not trace k e.from) [
  | inl s ↦ s
  | inr none ↦ absurd (sound.sources e.from (e.to, at, source_listed g e c, source_ended law g e c (stands_ended g trace k e.to sound at), none))
]

-- what has a path to a line stands before it
pub path_earlier : OrderListsEnded → (g : GraphValue) (trace : List ℕ) (n : ℕ) → IsSoundBefore g trace n → {i j : ℕ} → Path (edges g) i j → (k : ℕ) → k < n → slice_get trace k ≡ Some j → StandsEarlier trace k i
path_earlier law g trace n sound {i} {j} (last e c p q) k h at =
    subst (λ x. StandsEarlier trace k x) p (source_earlier law g trace k (sound k h) e c (subst (λ y. slice_get trace k ≡ Some y) (sym q) at))
path_earlier law g trace n sound {i} {j} (first e c p rest) k h at =
    let s = path_earlier law g trace n sound rest k h at in
    let b : s.0 < k = s.1 in
    let f = source_earlier law g trace s.0 (sound s.0 (omega arith)) e c s.2 in
    subst (λ x. StandsEarlier trace k x) p (earlier_by trace s.0 k e.from (omega arith) f)
