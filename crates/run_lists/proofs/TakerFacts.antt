-- The lines that took the columns last, as the accesses of a line are read one after another.
use Rattle.std.proofs.Common.{◌≡◌, ℕ, zero, suc, ◌+◌, ◌≤◌, true, false, cond, not, List, [], ◌∷◌, ◌++◌, length, map, take, refl, sym, ◌∙◌, ap, arith}
use Rattle.std.specs.Prelude.{filter, Some, None, slice_get, slice_set}
use Rattle.std.proofs.lemmas.Option.{none-some, slice_get_within, get_or_from_slice_get}
use Rattle.std.proofs.lemmas.List.{take_more, take_all}
use Rattle.std.proofs.lemmas.List.Elements.{filter-append}
use mathlib.Core.List.{map-append}
use Rattle.graph_terms.specs.declared.verb.Access.{Access}
use Rattle.graph_terms.specs.Graph.{GraphValue}
use Rattle.graph_terms.specs.Access.{accesses, is_read}
use Rattle.graph_meaning.proofs.Public.{accesses_are_few}
use Rattle.run_state.specs.Sharing.{is_change, changed_list}
use Rattle.run_lists.specs.Columns.{takers_with}

-- the columns that the first accesses change
abbrev pub changed_in : List Access → List ℕ
changed_in accessed = map (λ (a : Access). a.column) (filter is_change accessed)

pub takers_start : (takers : List ℕ) (i : ℕ) (all : List Access) → takers ≡ takers_with takers i (changed_in (take 0 all))
takers_start takers i [] = refl
takers_start takers i (a ∷ all) = refl

takers_more : (takers : List ℕ) (i : ℕ) (cs : List ℕ) (c : ℕ) → takers_with takers i (cs ++ c ∷ []) ≡ slice_set (takers_with takers i cs) c i
takers_more takers i [] c = refl
takers_more takers i (d ∷ cs) c = takers_more (slice_set takers d i) i cs c

one_changed : (a : Access) → is_read a.mode ≡ false → changed_in (a ∷ []) ≡ a.column ∷ []
one_changed a e = ap (λ b. map (λ (x : Access). x.column) (cond (not b) (a ∷ []) [])) e

none_changed : (a : Access) → is_read a.mode ≡ true → changed_in (a ∷ []) ≡ []
none_changed a e = ap (λ b. map (λ (x : Access). x.column) (cond (not b) (a ∷ []) [])) e

changed_more : (all : List Access) (a : Access) → changed_in (all ++ a ∷ []) ≡ changed_in all ++ changed_in (a ∷ [])
changed_more all a = ap (map (λ (x : Access). x.column)) (filter-append is_change all (a ∷ [])) ∙ map-append (λ (x : Access). x.column) (filter is_change all) (filter is_change (a ∷ []))

append_none : (xs : List ℕ) → xs ++ [] ≡ xs
append_none [] = refl
append_none (x ∷ xs) = ap (λ ys. x ∷ ys) (append_none xs)

next_access : (g : GraphValue) (i k : ℕ) (a : Access) → slice_get (accesses g i) k ≡ Some a → take (k + 1) (accesses g i) ≡ take k (accesses g i) ++ a ∷ []
next_access g i k a at = take_more (accesses g i) k a (slice_get_within (accesses g i) k a at) ∙ ap (λ x. take k (accesses g i) ++ x ∷ []) (get_or_from_slice_get (accesses g i) k a a at)

pub taker_one : (g : GraphValue) (i k : ℕ) (a : Access) (old takers after : List ℕ) → takers ≡ takers_with old i (changed_in (take k (accesses g i))) → slice_get (accesses g i) k ≡ Some a → is_read a.mode ≡ false → after ≡ slice_set takers a.column i →
    after ≡ takers_with old i (changed_in (take (k + 1) (accesses g i)))
taker_one g i k a old takers after so_far at changes w =
    let all = take k (accesses g i) in
    w ∙ (ap (λ ts. slice_set ts a.column i) so_far ∙ (sym (takers_more old i (changed_in all) a.column)
    ∙ ap (takers_with old i) (sym (ap changed_in (next_access g i k a at) ∙ (changed_more all a ∙ ap (λ ys. changed_in all ++ ys) (one_changed a changes))))))

pub taker_read : (g : GraphValue) (i k : ℕ) (a : Access) (old takers : List ℕ) → takers ≡ takers_with old i (changed_in (take k (accesses g i))) → slice_get (accesses g i) k ≡ Some a → is_read a.mode ≡ true →
    takers ≡ takers_with old i (changed_in (take (k + 1) (accesses g i)))
taker_read g i k a old takers so_far at reads =
    let all = take k (accesses g i) in
    so_far ∙ ap (takers_with old i) (sym (ap changed_in (next_access g i k a at) ∙ (changed_more all a ∙ (ap (λ ys. changed_in all ++ ys) (none_changed a reads) ∙ append_none (changed_in all)))))

none_past : {X : Type 0} (xs : List X) (k : ℕ) → slice_get xs k ≡ None → length xs ≤ k
none_past [] k none = omega arith
none_past (x ∷ xs) zero none = absurd (none-some x (sym none))
none_past (x ∷ xs) (suc k) none = (let z : length xs ≤ k = none_past xs k none in omega (arith, z))

pub taker_skip : (g : GraphValue) (i k : ℕ) (old takers : List ℕ) → takers ≡ takers_with old i (changed_in (take k (accesses g i))) → slice_get (accesses g i) k ≡ None → takers ≡ takers_with old i (changed_in (take (k + 1) (accesses g i)))
taker_skip g i k old takers so_far none =
    let past : length (accesses g i) ≤ k = none_past (accesses g i) k none in
    so_far ∙ ap (λ all. takers_with old i (changed_in all)) (take_all k (accesses g i) past ∙ sym (take_all (k + 1) (accesses g i) (let z : length (accesses g i) ≤ k + 1 = omega (arith, past) in z)))

pub takers_all : (g : GraphValue) (i k : ℕ) (old takers : List ℕ) → takers ≡ takers_with old i (changed_in (take k (accesses g i))) → 3 ≤ k → takers ≡ takers_with old i (changed_list g i)
takers_all g i k old takers so_far far =
    let few : length (accesses g i) ≤ 3 = accesses_are_few g i in
    so_far ∙ ap (λ all. takers_with old i (changed_in all)) (take_all k (accesses g i) (let z : length (accesses g i) ≤ k = omega (arith, few, far) in z))
