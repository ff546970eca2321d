-- The bodies keep to what the calls of the graph access.
use Rattle.std.proofs.Common.{◌≡◌, ℕ, zero, suc, ◌/◌, inl, inr, [], ◌∷◌, refl, ap, ap₂, subst}
use Rattle.std.specs.Prelude.{Contains}
use Rattle.basics.proofs.ListFacts.{contains_cases, contains_here, contains_there, contains_none}
use Rattle.graph_terms.specs.Access.{all_accesses}
use Rattle.graph_terms.specs.Graph.{space_at}
use Rattle.graph_meaning.specs.Effect.{Cells, CellChange, Effect}
use Rattle.graph_meaning.specs.Laws.{IsWithinAccess, KeepsToAccesses, AgreeWhereAccessed}
use Rattle.embedded_calls.specs.declared.accounts.Accounts.{Accounts}
use Rattle.embedded_calls.specs.declared.accounts.Body.{Body}
use Rattle.embedded_calls.specs.declared.accounts.Body.TheVariants.{Halve, Move, Double}
use Rattle.embedded_calls.specs.Accounts.{verdict_of, accounts_after, accounts_in, holds, changes_by, accounts_do}
use Rattle.embedded_calls.specs.CallGraph.{of_x, of_y, call_graph}

abbrev Within : ℕ → CellChange → Type 0
Within i x = IsWithinAccess (space_at call_graph) (all_accesses call_graph i) x

x_within : (i amount : ℕ) → Contains (all_accesses call_graph i) of_x → Within i (holds 0 amount)
x_within i amount listed = record { access = of_x; «listed» = listed; column = refl; point = refl; mode = tt }

y_within : (i amount : ℕ) → Contains (all_accesses call_graph i) of_y → Within i (holds 1 amount)
y_within i amount listed = record { access = of_y; «listed» = listed; column = refl; point = refl; mode = tt }

changes_within : (i : ℕ) (cells : Cells) (x : CellChange) → Contains (accounts_do call_graph i cells).changes x → Within i x
changes_within zero cells x c = elim (contains_cases (holds 0 (cells 0 0 / 2)) [] x c) [
  | inl is ↦ subst (Within 0) is (x_within 0 (cells 0 0 / 2) (contains_here of_x []))
  | inr none ↦ absurd (contains_none x none)
]
changes_within (suc zero) cells x c =
    let a = accounts_after Move 15 (accounts_in cells) in
    elim (contains_cases (holds 0 a.x) (holds 1 a.y ∷ []) x c) [
      | inl is ↦ subst (Within 1) is (x_within 1 a.x (contains_here of_x (of_y ∷ [])))
      | inr d ↦ elim (contains_cases (holds 1 a.y) [] x d) [
        | inl is ↦ subst (Within 1) is (y_within 1 a.y (contains_there of_x (of_y ∷ []) of_y (contains_here of_y [])))
        | inr none ↦ absurd (contains_none x none)
      ]
    ]
changes_within (suc (suc zero)) cells x c =
    let a = accounts_after Double 0 (accounts_in cells) in
    elim (contains_cases (holds 1 a.y) [] x c) [
      | inl is ↦ subst (Within 2) is (y_within 2 a.y (contains_here of_y []))
      | inr none ↦ absurd (contains_none x none)
    ]
changes_within (suc (suc (suc k))) cells x c = absurd (contains_none x c)

abbrev by_accounts : Body → ℕ → Accounts → Effect
by_accounts body amount a = record { verdict = verdict_of body amount a; changes = changes_by body (accounts_after body amount a) }

does_alike : (i : ℕ) (cells others : Cells) → AgreeWhereAccessed call_graph i cells others → accounts_do call_graph i cells ≡ accounts_do call_graph i others
does_alike zero cells others same = ap (λ v. by_accounts Halve 0 (record { x = v; y = 0 })) (same of_x (contains_here of_x []) refl 0 refl)
does_alike (suc zero) cells others same =
    ap₂ (λ v u. by_accounts Move 15 (record { x = v; y = u })) (same of_x (contains_here of_x (of_y ∷ [])) refl 0 refl) (same of_y (contains_there of_x (of_y ∷ []) of_y (contains_here of_y [])) refl 0 refl)
does_alike (suc (suc zero)) cells others same = ap (λ v. by_accounts Double 0 (record { x = 0; y = v })) (same of_y (contains_here of_y []) refl 0 refl)
does_alike (suc (suc (suc k))) cells others same = refl

pub bodies_keep : KeepsToAccesses call_graph (accounts_do call_graph)
bodies_keep = record { within = changes_within; agrees = does_alike }
