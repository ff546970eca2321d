-- Sections that lie apart seen from the other line; clashes of accesses and of lines, by computing.
use Rattle.std.proofs.Common.{◌≡◌, ℕ, Bool, true, false, not, ◌&&◌, ◌⊎◌, inl, inr, List, sym, ◌∙◌}
use Rattle.std.specs.Prelude.{◌==◌}
use Rattle.std.specs.List.{list_any}
use Rattle.std.proofs.lemmas.Bool.{true≢false, eq-eqb, eqb-true, and_parts, and_from, cases_Bool}
use Rattle.index_spaces.specs.Space.{has_point, points, Meet}
use Rattle.index_spaces.proofs.Public.{points_are_listed}
use Rattle.basics.proofs.ListFacts.{some_passes, passes_some}
use Rattle.graph_meaning.proofs.RulesTable.{meet, accesses_conflict}
use Rattle.graph_terms.proofs.Public.{both_shared_swap}
use Rattle.conflict_classes.specs.Clash.{Clash, LinesClash}
use Rattle.sweep_base.specs.Held.{LieApart}
use Rattle.graph_terms.specs.declared.verb.Access.{Access}
use Rattle.graph_terms.specs.Graph.{GraphValue, space_at}
use Rattle.graph_terms.specs.Access.{all_accesses, AccessesConflict, modes_clash}
use Rattle.graph_meaning.specs.Rules.{modes_commute}

pub apart_back : (g : GraphValue) (i j : ℕ) → LieApart g i j → LieApart g j i
apart_back g i j x = (x.0, x.2, x.1, (λ e. x.3 (sym e)), both_shared_swap g x.2 x.1 ∙ x.4, x.6, x.5)

-- whether two accesses clash other than by uses that commute, by computing
abbrev clash_test : GraphValue → Access → Access → Bool
clash_test g a b = accesses_conflict g a b && not (modes_commute a.mode b.mode)

points_meet : (s t : List (ℕ × ℕ)) → meet s t ≡ true → Meet s t
points_meet s t h = let p = some_passes (has_point t) (points s) h in (p.0, (points_are_listed s p.0).0 p.1, p.2)

clash_from : (g : GraphValue) (a b : Access) → clash_test g a b ≡ true → Clash g false a b
clash_from g a b h =
    let both = and_parts (accesses_conflict g a b) (not (modes_commute a.mode b.mode)) h in
    let column = and_parts (a.column == b.column) (meet (space_at g a.space) (space_at g b.space) && modes_clash a.mode b.mode) both.0 in
    let rest = and_parts (meet (space_at g a.space) (space_at g b.space)) (modes_clash a.mode b.mode) column.1 in
    record {
      conflict = record { column = eqb-true a.column b.column column.0; meet = points_meet (space_at g a.space) (space_at g b.space) rest.0; clash = rest.1 };
      counts = both.1;
    }

conflict_passes : (g : GraphValue) (a b : Access) → AccessesConflict g a b → accesses_conflict g a b ≡ true
conflict_passes g a b c = and_from (a.column == b.column) (meet (space_at g a.space) (space_at g b.space) && modes_clash a.mode b.mode) (eq-eqb a.column b.column c.column)
    (and_from (meet (space_at g a.space) (space_at g b.space)) (modes_clash a.mode b.mode) (passes_some (has_point (space_at g b.space)) (points (space_at g a.space)) c.meet.0 ((points_are_listed (space_at g a.space) c.meet.0).1 c.meet.1) c.meet.2) c.clash)

abbrev lines_test : GraphValue → ℕ → ℕ → Bool
lines_test g i j = list_any (λ a. list_any (clash_test g a) (all_accesses g j)) (all_accesses g i)

clash_passes : (g : GraphValue) (i j : ℕ) → LinesClash g false i j → lines_test g i j ≡ true
clash_passes g i j c = passes_some (λ a. list_any (clash_test g a) (all_accesses g j)) (all_accesses g i) c.0 c.1
    (passes_some (clash_test g c.0) (all_accesses g j) c.2.0 c.2.1 (and_from (accesses_conflict g c.0 c.2.0) (not (modes_commute c.0.mode c.2.0.mode)) (conflict_passes g c.0 c.2.0 c.2.2.conflict) c.2.2.counts))

pub lines_decided : (g : GraphValue) (i j : ℕ) → LinesClash g false i j ⊎ (LinesClash g false i j → ⊥)
lines_decided g i j = elim (cases_Bool (lines_test g i j)) [
  | inl yes' ↦ (
      let a = some_passes (λ a. list_any (clash_test g a) (all_accesses g j)) (all_accesses g i) yes' in
      let b = some_passes (clash_test g a.0) (all_accesses g j) a.2 in
      inl (a.0, a.1, (b.0, b.1, clash_from g a.0 b.0 b.2)))
  | inr no' ↦ inr (λ c. true≢false (sym (clash_passes g i j c) ∙ no'))
]
