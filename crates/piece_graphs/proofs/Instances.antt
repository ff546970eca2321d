-- The instances of pieces, put in one by one: those over one space that follow one another are fields of one.
use Rattle.std.proofs.Common.{◌≡◌, ℕ, zero, suc, ◌+◌, ◌-◌, ◌<◌, ◌≤◌, Bool, true, false, not, cond, inl, inr, List, [], ◌∷◌, ◌++◌, length, drop, append_assoc, append-nil, refl, sym, ◌∙◌, ap, subst, arith}
use Rattle.std.specs.Prelude.{Option, Some, None, slice_get, ◌==◌}
use Rattle.std.specs.Option.{option_map_or}
use Rattle.std.proofs.lemmas.Bool.{both_ways, true≢false, cases_lt, cond-true, cond-false, eq-eqb, eqb-true, false_from_ne_true}
use Rattle.std.proofs.lemmas.List.{drop-drop, drop_all}
use Rattle.std.proofs.lemmas.Option.{none-some, same_Some, slice_get_within}
use Rattle.graph_terms.specs.declared.decl.Decl.{Decl}
use Rattle.graph_terms.specs.declared.decl.Decl.TheVariants.{Space, Inst, Data, Lock, Barrier}
use Rattle.graph_terms.specs.declared.format.Format.TheVariants.{Three}
use Rattle.graph_terms.specs.Graph.{GraphValue}
use Rattle.graph_terms.specs.Fits.{DeclsFit, decl_fault, with_decl}
use Rattle.column_pieces.specs.Pieces.{piece_name, piece_decl, with_piece, piece_decls}
use Rattle.column_pieces.specs.declared.pieces.Piece.{Piece}
use Rattle.piece_graphs.specs.Items.{of_decls, piece_names, is_last}
use Rattle.piece_graphs.proofs.Items.{no_more_fit}

-- one more name
pub names_more : (n k : ℕ) → piece_names n (suc k) ≡ piece_names n k ++ piece_name (n + k) ∷ []
names_more n zero = ap (λ m. piece_name m ∷ []) (let e : n ≡ n + 0 = omega arith in e)
names_more n (suc k) = ap (λ ys. piece_name n ∷ ys) (names_more (n + 1) k ∙ ap (λ m. piece_names (n + 1) k ++ piece_name m ∷ []) (let e : n + 1 + k ≡ n + suc k = omega arith in e))

pub names_number : (n k : ℕ) → length (piece_names n k) ≡ k
names_number n zero = refl
names_number n (suc k) = ap suc (names_number (n + 1) k)

-- A RUN
-- a piece stands in the first instance of those in front of which it is put
first_of : (k : ℕ) (x : Piece) (ds : List Decl) → (fs : List (List ℕ)) × (es : List Decl) × (with_piece k x ds ≡ piece_decl k x.space fs ∷ es)
first_of k x [] = ([], [], refl)
first_of k x (Inst n s fs ∷ ds) = by (x.space == s)
  where
    by : (b : Bool) → (gs : List (List ℕ)) × (es : List Decl) × (cond b (piece_decl k x.space fs ∷ ds) (piece_decl k x.space [] ∷ Inst n s fs ∷ ds) ≡ piece_decl k x.space gs ∷ es)
    by true = (fs, ds, refl)
    by false = ([], Inst n s fs ∷ ds, refl)
first_of k x (Space n s ∷ ds) = ([], Space n s ∷ ds, refl)
first_of k x (Data n s fs ∷ ds) = ([], Data n s fs ∷ ds, refl)
first_of k x (Lock n ∷ ds) = ([], Lock n ∷ ds, refl)
first_of k x (Barrier n m o v ∷ ds) = ([], Barrier n m o v ∷ ds, refl)

not_true : (b : Bool) → not b ≡ true → b ≡ false
not_true true h = absurd (true≢false (sym h))
not_true false h = refl

-- the pieces up to the last one over a space are the fields of an instance
one_run : (m n : ℕ) (xs : List Piece) (z : Piece) → slice_get xs m ≡ Some z → ((j : ℕ) (x : Piece) → j < m → slice_get xs j ≡ Some x → x.space ≡ z.space) → is_last xs m z.space ≡ true →
    piece_decls n xs ≡ Inst (piece_name n) z.space (piece_names n (suc m)) ∷ piece_decls (n + suc m) (drop (suc m) xs)
one_run m n [] z at same last = absurd (none-some z at)
one_run zero n (x ∷ []) z at same last = ap (λ (y : Piece). piece_decl n y.space [] ∷ []) (same_Some x z at)
one_run zero n (x ∷ y ∷ ys) z at same last =
    let f = first_of (n + 1) y (piece_decls (n + 1 + 1) ys) in
    let is : x ≡ z = same_Some x z at in
    let other : (x.space == y.space) ≡ false = false_from_ne_true (x.space == y.space) (λ e. both_ways (y.space == z.space) (not_true (y.space == z.space) last)
    (eq-eqb y.space z.space (sym (eqb-true x.space y.space e) ∙ ap (λ (w : Piece). w.space) is))) in
    ap (with_piece n x) f.2
    ∙ (cond-false (x.space == y.space) _ _ other
    ∙ (ap (λ ds. piece_decl n x.space [] ∷ ds) (sym f.2) ∙ ap (λ (w : Piece). piece_decl n w.space [] ∷ piece_decls (n + 1) (y ∷ ys)) is))
one_run (suc m) n (x ∷ xs) z at same last =
    let over : x.space ≡ z.space = same 0 x (omega arith) refl in
    let rest = one_run m (n + 1) xs z at (λ j y below got. same (suc j) y (omega (arith, below)) got)
    (subst (λ k. option_map_or (λ (y : Piece). not (y.space == z.space)) (slice_get (x ∷ xs) k) true ≡ true) (let e : suc m + 1 ≡ suc (m + 1) = omega arith in e) last) in
    ap (with_piece n x) rest
    ∙ (cond-true (x.space == z.space) _ _ (eq-eqb x.space z.space over)
    ∙ (ap (λ s. piece_decl n s (piece_names (n + 1) (suc m)) ∷ piece_decls (n + 1 + suc m) (drop (suc m) xs)) over
    ∙ ap (λ k. piece_decl n z.space (piece_names (n + 1) (suc m)) ∷ piece_decls k (drop (suc m) xs)) (let e : n + 1 + suc m ≡ n + suc (suc m) = omega arith in e)))

slice_drop : (n : ℕ) (xs : List Piece) (k : ℕ) → slice_get (drop n xs) k ≡ slice_get xs (n + k)
slice_drop zero xs k = ap (slice_get xs) (let e : k ≡ 0 + k = omega arith in e)
slice_drop (suc n) [] k = refl
slice_drop (suc n) (x ∷ xs) k = slice_drop n xs k ∙ ap (slice_get (x ∷ xs)) (let e : suc (n + k) ≡ suc n + k = omega arith in e)

-- ALL RUNS
-- The instances of the pieces before a number are put in, and those from there up to another number are over one space, with the next one.
pub record AreRuns (cut : GraphValue) (ds : List Decl) (xs : List Piece) (first k : ℕ) : Type 0 where
  pub runs : List Decl
  pub put : cut ≡ of_decls (ds ++ runs)
  pub all : piece_decls 0 xs ≡ runs ++ piece_decls first (drop first xs)
  pub order : first ≤ k
  pub more : first < k → k < length xs
  pub same : (j : ℕ) (x z : Piece) → first ≤ j → j < k → slice_get xs j ≡ Some x → slice_get xs k ≡ Some z → x.space ≡ z.space

pub no_runs : (cut : GraphValue) (xs : List Piece) → cut ≡ of_decls cut.decls → AreRuns cut cut.decls xs 0 0
no_runs cut xs bare = record {
  runs = [];
  put = bare ∙ ap of_decls (sym (append-nil cut.decls));
  all = refl;
  order = omega arith;
  more = λ h. absurd (omega (arith, h));
  same = λ j x z low high. absurd (omega (arith, high));
}

-- the instance up to a piece
abbrev run_decl : ℕ → ℕ → ℕ → Decl
run_decl first k s = Inst (piece_name first) s (piece_names first (k + 1 - first))

run_ends : (cut : GraphValue) (ds : List Decl) (xs : List Piece) (first k : ℕ) (z : Piece) → AreRuns cut ds xs first k → slice_get xs k ≡ Some z → is_last xs k z.space ≡ true →
    piece_decls first (drop first xs) ≡ run_decl first k z.space ∷ piece_decls (k + 1) (drop (k + 1) xs)
run_ends cut ds xs first k z are at last =
    let low : first ≤ k = are.order in
    let m : ℕ = k - first in
    let there : first + m ≡ k = omega (arith, low) in
    let next : first + (m + 1) ≡ k + 1 = omega (arith, low) in
    let long : suc m ≡ k + 1 - first = omega (arith, low) in
    let past : first + suc m ≡ k + 1 = omega (arith, low) in
    one_run m first (drop first xs) z (slice_drop first xs m ∙ (ap (slice_get xs) there ∙ at))
    (λ j x below got. are.same (first + j) x z (omega arith) (omega (arith, below, there)) (sym (slice_drop first xs j) ∙ got) at)
    (ap (λ o. option_map_or (λ (y : Piece). not (y.space == z.space)) o true) (slice_drop first xs (m + 1) ∙ ap (slice_get xs) next) ∙ last)
    ∙ (ap (λ n. Inst (piece_name first) z.space (piece_names first n) ∷ piece_decls (first + suc m) (drop (suc m) (drop first xs))) long
    ∙ (ap (λ n. run_decl first k z.space ∷ piece_decls n (drop (suc m) (drop first xs))) past
    ∙ ap (λ ys. run_decl first k z.space ∷ piece_decls (k + 1) ys) (drop-drop (suc m) first xs ∙ ap (λ n. drop n xs) past)))

pub run_put : (cut new : GraphValue) (ds : List Decl) (xs : List Piece) (first k : ℕ) (z : Piece) (e : Decl) → AreRuns cut ds xs first k → slice_get xs k ≡ Some z → is_last xs k z.space ≡ true → e ≡ run_decl first k z.space → new ≡ with_decl cut e →
    AreRuns new ds xs (k + 1) (k + 1)
run_put cut new ds xs first k z e are at last made added = record {
  runs = are.runs ++ e ∷ [];
  put = added ∙ (ap (λ g. with_decl g e) are.put ∙ ap of_decls (append_assoc ds are.runs (e ∷ [])));
  all =
      are.all
      ∙ (ap (λ ys. are.runs ++ ys) (run_ends cut ds xs first k z are at last ∙ ap (λ d. d ∷ piece_decls (k + 1) (drop (k + 1) xs)) (sym made))
      ∙ sym (append_assoc are.runs (e ∷ []) (piece_decls (k + 1) (drop (k + 1) xs))));
  order = omega arith;
  more = λ h. absurd (omega (arith, h));
  same = λ j x y low high. absurd (omega (arith, low, high));
}

pub run_refused : (cut : GraphValue) (ds : List Decl) (xs : List Piece) (first k : ℕ) (z : Piece) (e : Decl) → AreRuns cut ds xs first k → slice_get xs k ≡ Some z → is_last xs k z.space ≡ true → e ≡ run_decl first k z.space → (decl_fault cut e ≡ None → ⊥) →
    DeclsFit Three [] (ds ++ piece_decls 0 xs) → ⊥
run_refused cut ds xs first k z e are at last made refused =
    let rest : List Decl = piece_decls (k + 1) (drop (k + 1) xs) in
    no_more_fit (ds ++ are.runs) e rest (ds ++ piece_decls 0 xs)
    (ap (λ ys. ds ++ ys) (are.all ∙ ap (λ ys. are.runs ++ ys) (run_ends cut ds xs first k z are at last ∙ ap (λ d. d ∷ rest) (sym made))) ∙ sym (append_assoc ds are.runs (e ∷ rest)))
    (λ n. refused (ap (λ g. decl_fault g e) are.put ∙ n))

pub run_longer : (cut : GraphValue) (ds : List Decl) (xs : List Piece) (first k : ℕ) (z : Piece) → AreRuns cut ds xs first k → slice_get xs k ≡ Some z → is_last xs k z.space ≡ false → AreRuns cut ds xs first (k + 1)
run_longer cut ds xs first k z are at follows = record {
  runs = are.runs;
  put = are.put;
  all = are.all;
  order = omega (arith, are.order);
  more = λ h. next (slice_get xs (k + 1)) refl follows;
  same = λ j x y low high got there. elim (cases_lt j k) [
    | inl early ↦ are.same j x z low early got at ∙ over y there
    | inr late ↦ (
        let here : j ≡ k = omega (arith, late, high) in
        ap (λ (w : Piece). w.space) (same_Some x z (sym got ∙ (ap (slice_get xs) here ∙ at))) ∙ over y there)
  ];
}
  where
    next : (o : Option Piece) → slice_get xs (k + 1) ≡ o → option_map_or (λ (y : Piece). not (y.space == z.space)) o true ≡ false → k + 1 < length xs
    next None e f = absurd (true≢false f)
    next (Some y) e f = slice_get_within xs (k + 1) y e

    not_false : (b : Bool) → not b ≡ false → b ≡ true
    not_false true f = refl
    not_false false f = absurd (true≢false f)

    over : (y : Piece) → slice_get xs (k + 1) ≡ Some y → z.space ≡ y.space
    over y there = sym (eqb-true y.space z.space (not_false (y.space == z.space) (sym (ap (λ o. option_map_or (λ (w : Piece). not (w.space == z.space)) o true) there) ∙ follows)))

pub all_runs : (cut : GraphValue) (ds : List Decl) (xs : List Piece) (first k : ℕ) → AreRuns cut ds xs first k → length xs ≤ k → cut ≡ of_decls (ds ++ piece_decls 0 xs)
all_runs cut ds xs first k are past =
    let done : length xs ≤ first = elim (cases_lt first k) [
      | inl below ↦ (let short : k < length xs = are.more below in absurd (omega (arith, short, past)))
      | inr all ↦ omega (arith, all, past)
    ] in
    are.put ∙ ap (λ ys. of_decls (ds ++ ys)) (sym (are.all ∙ (ap (λ ys. are.runs ++ piece_decls first ys) (drop_all first xs done) ∙ append-nil are.runs)))
