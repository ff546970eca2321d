-- How many of the lines of a graph wait.
use Rattle.std.proofs.Common.{◌≡◌, ℕ, zero, suc, ◌+◌, ◌≤◌, List, [], ◌∷◌, ◌++◌, length, map, take, sym, refl, ap, ◌∙◌, arith, Some}
use Rattle.std.proofs.lemmas.List.{take_more, map-append}
use Rattle.std.specs.Prelude.{slice_get}
use Rattle.std.proofs.lemmas.Option.{slice_get_within, get_or_from_slice_get}
use Rattle.basics.specs.Sums.{total}
use Rattle.basics.proofs.Sums.{total-append}
use Rattle.event_table.specs.declared.handle.Handle.{Handle}
use Rattle.graph_terms.specs.declared.outcome.End.{End}
use Rattle.graph_terms.specs.declared.outcome.End.TheVariants.{Done, Faulted, Cancelled, Waiting}
use Rattle.realm_session.specs.declared.line.Line.{Line}
use Rattle.realm_session.specs.Recorded.{waits, waiting_in, end_in}

take_next : {X : Type 0} (xs : List X) (i : ℕ) (x : X) → slice_get xs i ≡ Some x → take (i + 1) xs ≡ take i xs ++ x ∷ []
take_next xs i x e = take_more xs i x (slice_get_within xs i x e) ∙ ap (λ y. take i xs ++ y ∷ []) (get_or_from_slice_get xs i x x e)

pub count_more : (es : List End) (i : ℕ) (e : End) → slice_get es i ≡ Some e → total waits (take (i + 1) es) ≡ total waits (take i es) + waits e
count_more es i e at = ap (total waits) (take_next es i e at) ∙ (let a = total-append waits (take i es) (e ∷ []) in omega (arith, a))

pub waits_one : (e : End) → waits e ≤ 1
waits_one Done = omega arith
waits_one Faulted = omega arith
waits_one Cancelled = omega arith
waits_one Waiting = omega arith

-- the first i of the lines are no more than all
pub count_first : (es : List End) (i : ℕ) → total waits (take i es) ≤ total waits es
count_first [] zero = omega arith
count_first [] (suc i) = omega arith
count_first (e ∷ es) zero = omega arith
count_first (e ∷ es) (suc i) = let a = count_first es i in omega (arith, a)

pub take_all : {X : Type 0} (xs : List X) (n : ℕ) → n ≡ length xs → take n xs ≡ xs
take_all [] zero e = refl
take_all [] (suc n) e = absurd (omega arith)
take_all (x ∷ xs) zero e = absurd (omega arith)
take_all (x ∷ xs) (suc n) e = ap (λ l. x ∷ l) (take_all xs n (omega arith))

pub waiting_ends : (xs : List Line) → waiting_in xs ≡ total waits (map end_in xs)
waiting_ends [] = refl
waiting_ends (x ∷ xs) = ap (λ n. waits x.end + n) (waiting_ends xs)

-- one line more, which ended as the next of the list
pub ends_more : (xs : List Line) (h : Handle) (es : List End) (i : ℕ) (e : End) → map end_in xs ≡ take i es → slice_get es i ≡ Some e → map end_in (xs ++ record { handle = h; end = e } ∷ []) ≡ take (i + 1) es
ends_more xs h es i e so at = map-append end_in xs (record { handle = h; end = e } ∷ []) ∙ (ap (λ l. l ++ e ∷ []) so ∙ sym (take_next es i e at))
