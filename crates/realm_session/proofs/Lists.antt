-- The lines of graphs, one after the other.
use Rattle.std.proofs.Common.{◌≡◌, ℕ, zero, suc, ◌+◌, ◌<◌, ◌⊎◌, List, [], ◌∷◌, ◌++◌, length, sym, refl, ap, ◌∙◌, subst, inl, inr, ⊎_elim, arith, append_assoc, Some, None}
use Rattle.std.specs.Prelude.{Contains, slice_get, slice_index_or}
use Rattle.std.proofs.lemmas.List.{append-nil, get_or_read}
use Rattle.std.proofs.lemmas.List.Elements.{Contains-append_left, Contains-append_right}
use Rattle.basics.proofs.ListFacts.{got_contains}
use Rattle.basics.proofs.Sums.{total-append}
use Rattle.realm_session.specs.declared.line.Line.{Line}
use Rattle.realm_session.specs.Recorded.{lines_in, waiting_in, waits}

pub lines_push : (gs : List (List Line)) (g : List Line) → lines_in (gs ++ g ∷ []) ≡ lines_in gs ++ g
lines_push [] g = append-nil g
lines_push (x ∷ gs) g = ap (λ l. x ++ l) (lines_push gs g) ∙ sym (append_assoc x (lines_in gs) g)

pub waiting_append : (xs ys : List Line) → waiting_in (xs ++ ys) ≡ waiting_in xs + waiting_in ys
waiting_append xs ys = total-append (λ (x : Line). waits x.end) xs ys

none_some : (x : Line) → None ≡ Some x → ⊥
none_some x e = cc

-- a line of a graph is among the lines of all
pub line_has : (gs : List (List Line)) (g l : ℕ) (x : Line) → slice_get (slice_index_or gs g []) l ≡ Some x → Contains (lines_in gs) x
line_has [] g l x e = absurd (none_some x e)
line_has (y ∷ gs) zero l x e = Contains-append_left y (lines_in gs) x (got_contains y l x e)
line_has (y ∷ gs) (suc g) l x e = Contains-append_right y (lines_in gs) x (line_has gs g l x e)

-- a line is of a graph that was there, or of the one that was added
pub line_cases : (gs : List (List Line)) (new : List Line) (g l : ℕ) (x : Line) → slice_get (slice_index_or (gs ++ new ∷ []) g []) l ≡ Some x
    → (slice_get (slice_index_or gs g []) l ≡ Some x) ⊎ ((g ≡ length gs) × (slice_get new l ≡ Some x))
line_cases [] new zero l x e = inr (refl, e)
line_cases [] new (suc g) l x e = absurd (none_some x e)
line_cases (y ∷ gs) new zero l x e = inl e
line_cases (y ∷ gs) new (suc g) l x e = ⊎_elim (λ a. inl a) (λ b. inr (ap suc b.0, b.1)) (line_cases gs new g l x e)

-- a graph that has a line was recorded
pub graph_near : (gs : List (List Line)) (g l : ℕ) → l < length (slice_index_or gs g []) → g < length gs
graph_near [] g l h = absurd (omega arith)
graph_near (y ∷ gs) zero l h = omega arith
graph_near (y ∷ gs) (suc g) l h = let a = graph_near gs g l h in omega arith

-- the line of a graph that was looked up
pub line_here : (gs : List (List Line)) (g l : ℕ) (item : List Line) (x : Line) → l < length (slice_index_or gs g []) → item ≡ slice_index_or gs g item → slice_get item l ≡ Some x → slice_get (slice_index_or gs g []) l ≡ Some x
line_here gs g l item x near is at = subst (λ k. slice_get k l ≡ Some x) (get_or_read gs g item (graph_near gs g l near) is []) at
