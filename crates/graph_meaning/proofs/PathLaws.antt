-- Laws of paths.
use Rattle.std.proofs.Common.{ℕ, List, refl, sym, subst, ◌≡◌, true, inl, inr, ◌∙◌, ap}
use Rattle.std.specs.Prelude.{Contains}
use Rattle.graph_terms.specs.declared.verb.Edge.{Edge}
use Rattle.graph_meaning.specs.Path.{Path, last, first}
use Rattle.std.specs.List.{list_any}
use Rattle.std.proofs.lemmas.Bool.{true≢false}
use Rattle.graph_terms.specs.declared.verb.Line.{Line}
use Rattle.graph_terms.specs.Graph.{line_passes, is_user, is_phase, ends_user}
use Rattle.graph_terms.proofs.Public.{passes_verb, verb_passes, never_as, edge_enters_user}
use Rattle.graph_meaning.specs.Laws.{PathsAppend, PathAndEdge, PassesAlongPaths, PassesBackAlongPaths, ReachedNeverIsPhase}

-- one path after another is a path
pub path_append : {all : List Edge} {i k j : ℕ} → PathsAppend all i k j
path_append {all} {i} {k} {j} (last e c p q) r = first e c p (subst (λ x. Path all x j) (sym q) r)
path_append (first e c p s) r = first e c p (path_append s r)

-- a path and an edge behind it
pub path_snoc : {all : List Edge} {i : ℕ} → PathAndEdge all i
path_snoc e c p = path_append p (last e c refl refl)

-- what passes along each edge passes along a path
pub along_path : {all : List Edge} (P : ℕ → Type 0) {i j : ℕ} → PassesAlongPaths all P i j
along_path P step (last e c p q) h = subst P q (step e c (subst P (sym p) h))
along_path P step (first e c p r) h = along_path P step r (step e c (subst P (sym p) h))

-- and what passes back along each edge passes back along a path
pub back_path : {all : List Edge} (P : ℕ → Type 0) {i j : ℕ} → PassesBackAlongPaths all P i j
back_path P step (last e c p q) h = subst P p (step e c (subst P (sym q) h))
back_path P step (first e c p r) h = subst P p (step e c (back_path P step r h))

-- the last edge of a path
pub last_edge : {all : List Edge} {i j : ℕ} → Path all i j → (e : Edge) × Contains all e × (e.to ≡ j)
last_edge (last e c p q) = (e, c, q)
last_edge (first e c p r) = last_edge r

-- a line that never comes, and that a path leads to, is a phase
pub never_with_path : ReachedNeverIsPhase
never_with_path g f q j p never =
    let v = passes_verb _ g j never in
    elim (never_as g j v.0 v.2) [
      | inl phase ↦ verb_passes is_phase g j v.0 v.1 ∙ phase
      | inr user ↦ (
          let e = last_edge p in
          let is : line_passes is_user g e.0.to ≡ true = ap (line_passes is_user g) e.2 ∙ (verb_passes is_user g j v.0 v.1 ∙ ap is_user user.0) in
          absurd (true≢false (sym (edge_enters_user g f e.0 e.1 is) ∙ (ap (λ u. list_any (λ (x : Line). ends_user u x.verb) g.lines) e.2 ∙ user.1))))
    ]
