-- Effects that are none of our verbs': bodies that overwrite, accumulate and fault keep to the accesses of a graph, and are evaluated from first cells that are not 0.
use Rattle.std.proofs.Common.{◌≡◌, ℕ, zero, suc, ◌+◌, ◌*◌, Bool, true, not, cond, List, [], ◌∷◌, map, refl, sym, ◌∙◌, ap, arith}
use Rattle.std.specs.Prelude.{◌==◌, Contains, nat_lt, codes}
use Rattle.std.proofs.lemmas.Bool.{true≢false, eq-eqb, not-true}
use Rattle.index_spaces.specs.Column.{ColumnValue}
use Rattle.index_spaces.specs.Space.{points}
use Rattle.graph_terms.specs.declared.outcome.Verdict.{Verdict}
use Rattle.graph_terms.specs.declared.outcome.Verdict.TheVariants.{Fine, Fault}
use Rattle.graph_terms.specs.declared.outcome.End.TheVariants.{Done, Faulted, Cancelled}
use Rattle.graph_terms.specs.declared.decl.Decl.TheVariants.{Space, Inst}
use Rattle.graph_terms.specs.declared.verb.Access.{Access}
use Rattle.graph_terms.specs.declared.verb.Edge.{Edge}
use Rattle.graph_terms.specs.declared.verb.Mode.TheVariants.{Read, Write}
use Rattle.graph_terms.specs.declared.verb.Verb.TheVariants.{Fill, Copy}
use Rattle.graph_terms.specs.Graph.{GraphValue, space_at}
use Rattle.graph_terms.specs.Edges.{edges}
use Rattle.graph_terms.specs.Access.{access, all_accesses}
use Rattle.graph_meaning.specs.Rules.{Accepted}
use Rattle.graph_meaning.specs.Effect.{Cells, zero_cells, Set, CellChange, cells_after, Effect, Effects, changes_at, wrapped}
use Rattle.graph_meaning.specs.Evaluation.{order_with, changes_with, outcome_with}
use Rattle.graph_meaning.specs.Laws.{IsWithinAccess, IsReadyAmongWith, AgreeWhereAccessed, cells_put_with, step_on_with, KeepsToAccesses, DoesAsEvaluatedWith}
use Rattle.basics.proofs.ListFacts.{contains_none, passes_each}
use Rattle.graph_meaning.proofs.Changes.{at_write, changes_agree, listed_point}
use Rattle.graph_meaning.proofs.RulesTable.{implies, implied, accepted_by_computing}
use Rattle.graph_meaning.proofs.GraphLaws.{order_is_irrelevant_with}
use Rattle.graph_terms.proofs.examples.Graphs.{line, graph}

-- columns x, y, z and w of two points. Line 0 writes w; line 1 writes x; line 2, after it, reads x and writes y; line 3, after that, reads y and writes z; line 4, after that, writes z.
abbrev five_lines : GraphValue
five_lines = graph (Space (codes "s") ((0, 1) ∷ []) ∷ Inst (codes "a") 0 (codes "x" ∷ codes "y" ∷ codes "z" ∷ codes "w" ∷ []) ∷ [])
    (line (codes "o") (Fill 3 0 0) [] ∷ line (codes "p") (Fill 0 0 0) [] ∷ line (codes "q") (Copy 0 1 0) (1 ∷ [])
    ∷ line (codes "r") (Copy 1 2 0) (2 ∷ []) ∷ line (codes "t") (Fill 2 0 0) (3 ∷ []) ∷ [])

abbrev two_points : List ℕ
two_points = points (space_at five_lines 0)

abbrev effect_of : Verdict → List CellChange → Effect
effect_of verdict changes = record { «verdict» = verdict; «changes» = changes }

-- each cell of column c is overwritten
abbrev overwrite : ℕ → ℕ → Effect
overwrite c value = effect_of Fine (changes_at (λ p. Set (value + p)) c two_points)

-- each cell of x is added to that of y, which the line reads to write it
abbrev accumulate : Cells → Effect
accumulate cells = effect_of Fine (changes_at (λ p. Set (wrapped (cells 1 p + cells 0 p))) 1 two_points)

-- z would be overwritten, but it is a fault where y is above 25 at point 0
abbrev fault_above : ℕ → Verdict
fault_above n = cond (nat_lt 25 n) Fault Fine

abbrev guard : Cells → Effect
guard cells = effect_of (fault_above (cells 1 0)) (changes_at (λ p. Set 99) 2 two_points)

abbrev bodies : Effects
bodies zero cells = overwrite 3 70
bodies (suc zero) cells = overwrite 0 20
bodies (suc (suc zero)) cells = accumulate cells
bodies (suc (suc (suc zero))) cells = guard cells
bodies (suc (suc (suc (suc zero)))) cells = overwrite 2 7
bodies i cells = effect_of Fine []

bodies_within : (i : ℕ) (cells : Cells) (x : CellChange) → Contains (bodies i cells).changes x → IsWithinAccess (space_at five_lines) (all_accesses five_lines i) x
bodies_within zero cells x c = at_write (space_at five_lines) (all_accesses five_lines 0) (λ p. Set (70 + p)) 3 0 x (0, omega arith, refl) c
bodies_within (suc zero) cells x c = at_write (space_at five_lines) (all_accesses five_lines 1) (λ p. Set (20 + p)) 0 0 x (0, omega arith, refl) c
bodies_within (suc (suc zero)) cells x c = at_write (space_at five_lines) (all_accesses five_lines 2) (λ p. Set (wrapped (cells 1 p + cells 0 p))) 1 0 x (1, omega arith, refl) c
bodies_within (suc (suc (suc zero))) cells x c = at_write (space_at five_lines) (all_accesses five_lines 3) (λ p. Set 99) 2 0 x (1, omega arith, refl) c
bodies_within (suc (suc (suc (suc zero)))) cells x c = at_write (space_at five_lines) (all_accesses five_lines 4) (λ p. Set (7 + p)) 2 0 x (0, omega arith, refl) c
bodies_within (suc (suc (suc (suc (suc i))))) cells x c = absurd (contains_none x c)

sum_same : (a b c d : ℕ) → a ≡ b → c ≡ d → Set (wrapped (a + c)) ≡ Set (wrapped (b + d))
sum_same a b c d p q = cc

bodies_agree : (i : ℕ) (cells others : Cells) → AgreeWhereAccessed five_lines i cells others → bodies i cells ≡ bodies i others
bodies_agree zero cells others h = refl
bodies_agree (suc zero) cells others h = refl
bodies_agree (suc (suc zero)) cells others h = ap (effect_of Fine) (changes_agree _ _ 1 two_points (λ p k.
    sum_same _ _ _ _ (h (access 1 0 Write) (1, omega arith, refl) refl p (listed_point (space_at five_lines 0) p k)) (h (access 0 0 Read) (0, omega arith, refl) refl p (listed_point (space_at five_lines 0) p k))))
bodies_agree (suc (suc (suc zero))) cells others h = ap (λ n. effect_of (fault_above n) (changes_at (λ p. Set 99) 2 two_points)) (h (access 1 0 Read) (0, omega arith, refl) refl 0 refl)
bodies_agree (suc (suc (suc (suc zero)))) cells others h = refl
bodies_agree (suc (suc (suc (suc (suc i))))) cells others h = refl

pub bodies-keep : KeepsToAccesses five_lines bodies
bodies-keep = record { within = bodies_within; agrees = bodies_agree }

five_lines-accepted : Accepted five_lines
five_lines-accepted = accepted_by_computing five_lines refl

-- first x is 1, 2 and y is 11, 12 and z is 21, 22 and w is 31, 32
abbrev first : Cells
first c p = 10 * c + (p + 1)

-- Line 0 makes w 70, 71, line 1 makes x 20, 21, and line 2 makes y 11 + 20 = 31 and 12 + 21 = 33. Line 3 finds 31 in y, above 25: it faults, its changes of z are not made, and line 4 is cancelled.
bodies-order : order_with bodies first five_lines ≡ 0 ∷ 1 ∷ 2 ∷ 3 ∷ 4 ∷ []
bodies-order = refl

bodies-ends : (outcome_with bodies first five_lines []).ends ≡ Done ∷ Done ∷ Done ∷ Faulted ∷ Cancelled ∷ []
bodies-ends = refl

bodies-cells : map (λ (c : ColumnValue). c.cells) (outcome_with bodies first five_lines []).columns ≡ (20 ∷ 21 ∷ []) ∷ (31 ∷ 33 ∷ []) ∷ (21 ∷ 22 ∷ []) ∷ (70 ∷ 71 ∷ []) ∷ []
bodies-cells = refl

-- from cells of 0 it makes y 20, 21: nothing faults, z is 7, 8 in the end
bodies-from_zero : map (λ (c : ColumnValue). c.cells) (outcome_with bodies zero_cells five_lines []).columns ≡ (20 ∷ 21 ∷ []) ∷ (20 ∷ 21 ∷ []) ∷ (7 ∷ 8 ∷ []) ∷ (70 ∷ 71 ∷ []) ∷ []
bodies-from_zero = refl

-- line 1 alone has ended: line 2 is ready, and line 0, which ends first in the evaluation, is still out
abbrev one_ended : ℕ → Bool
one_ended k = k == 1

one_ended-closed : (e : Edge) → Contains (edges five_lines) e → one_ended e.to ≡ true → one_ended e.from ≡ true
one_ended-closed e c h = implied (one_ended e.to) (one_ended e.from) (passes_each (λ (e : Edge). implies (one_ended e.to) (one_ended e.from)) (edges five_lines) refl e c) h

ready_among : (does : Effects) → IsReadyAmongWith does first five_lines 2 one_ended (λ c k. one_ended k)
ready_among does = record {
  closed = one_ended-closed;
  ready = λ e c to. implied (e.to == 2) (one_ended e.from) (passes_each (λ (e : Edge). implies (e.to == 2) (one_ended e.from)) (edges five_lines) refl e c) (eq-eqb e.to 2 to);
  left = refl;
  out = λ c. refl;
  put_ready = λ c k h e ce to. one_ended-closed e ce (ap one_ended to ∙ h);
  kept = λ k x h hx. h;
}

-- so it does then what it does in the evaluation
accumulate-early : (cells : Cells) → AgreeWhereAccessed five_lines 2 cells (cells_put_with bodies first five_lines (λ c k. one_ended k)) → DoesAsEvaluatedWith bodies first five_lines 2 cells
accumulate-early = (order_is_irrelevant_with bodies first five_lines 2 one_ended (λ c k. one_ended k) five_lines-accepted bodies-keep refl (ready_among bodies)).0

-- The premise is needed. Line 2 copies w, which is none of its accesses: its changes then rest on whether line 0 has ended, and such effects do not keep to the accesses.
abbrev unlisted_read : Cells → Effect
unlisted_read cells = effect_of Fine (changes_at (λ p. Set (cells 3 p)) 1 two_points)

abbrev with_unlisted_read : Effects
with_unlisted_read i cells = cond (i == 2) (unlisted_read cells) (bodies i cells)

abbrev changes_of_y : ℕ → ℕ → List CellChange
changes_of_y a b = record { column = 1; point = 0; change = Set a } ∷ record { column = 1; point = 1; change = Set b } ∷ []

unlisted_read-evaluated : changes_with with_unlisted_read first five_lines 2 ≡ changes_of_y 70 71
unlisted_read-evaluated = refl

unlisted_read-early : (step_on_with with_unlisted_read first five_lines 2 (cells_put_with with_unlisted_read first five_lines (λ c k. one_ended k))).changes ≡ changes_of_y 31 32
unlisted_read-early = refl

-- cells that are 0, but for 1 in w
abbrev one_in_w : Cells
one_in_w c p = cond (c == 3) 1 0

unused_w : AgreeWhereAccessed five_lines 2 zero_cells one_in_w
unused_w a listed ne p h = sym (ap (λ b. cond b 1 0) (not-true (a.column == 3) (passes_each (λ (a : Access). not (a.column == 3)) (all_accesses five_lines 2) refl a listed)))

zero_or_one : (a b : ℕ) → a ≡ 0 → b ≡ 1 → a ≡ b → ⊥
zero_or_one a b p q e = omega arith

with_unlisted_read-refused : KeepsToAccesses five_lines with_unlisted_read → ⊥
with_unlisted_read-refused keeps = zero_or_one _ _ refl refl (ap (λ (e : Effect). cells_after zero_cells e.changes 1 0) (keeps.agrees 2 zero_cells one_in_w unused_w))

-- nor do effects that write a column which is none of the line's accesses
abbrev with_unlisted_write : Effects
with_unlisted_write i cells = cond (i == 0) (overwrite 0 70) (bodies i cells)

with_unlisted_write-refused : KeepsToAccesses five_lines with_unlisted_write → ⊥
with_unlisted_write-refused keeps =
    let w = keeps.within 0 zero_cells (record { column = 0; point = 0; change = Set 70 }) (0, omega arith, refl) in
    true≢false (sym (passes_each (λ (a : Access). not (a.column == 0)) (all_accesses five_lines 0) refl w.access w.listed) ∙ ap not (eq-eqb w.access.column 0 w.column))
