-- The lines of a row keep the shape of the lines that stand.
use Rattle.std.proofs.Common.{◌≡◌, ℕ, zero, suc, ◌+◌, ◌*◌, ◌<◌, ◌≤◌, Bool, true, false, cond, ◌⊎◌, inl, inr, List, [], ◌∷◌, ◌++◌, length, refl, sym, ◌∙◌, ap, subst, arith}
use Rattle.std.specs.Prelude.{Contains, Option, Some}
use Rattle.std.specs.Option.{option_map_or}
use Rattle.std.specs.List.{list_any, AllByRecursion}
use Rattle.std.proofs.lemmas.Bool.{true≢false, eqb-true, or_parts}
use Rattle.std.proofs.lemmas.List.Elements.{All-from_recursion, All-contains}
use Rattle.graph_terms.specs.declared.verb.Access.{Access}
use Rattle.graph_terms.specs.declared.verb.Edge.{Edge}
use Rattle.graph_terms.specs.declared.verb.EdgeKind.TheVariants.{Passes, Ignores}
use Rattle.graph_terms.specs.declared.verb.Line.{Line}
use Rattle.graph_terms.specs.declared.verb.Verb.{Verb}
use Rattle.graph_terms.specs.Graph.{is_user, is_acquire_of, is_release_of}
use Rattle.graph_terms.specs.Edges.{edge}
use Rattle.basics.proofs.ListFacts.{contains_cases, contains_none, contains_here, contains_there}
use Rattle.graph_gen.specs.declared.draw.Row.{Row}
use Rattle.graph_gen.specs.declared.draw.Row.TheVariants.{Fill, Settle, Copy, Sum, Event, Section}
use Rattle.graph_gen.specs.declared.draw.Draw.{Draw}
use Rattle.graph_gen.specs.MadeGraph.{row_lines}
use Rattle.graph_gen.proofs.AddedLines.{verb_in, uses_of, edges_in, got_new, verb_new, verb_old, edge_cases}
use Rattle.graph_gen.proofs.Rows.{LastsStand}
use Rattle.graph_gen.proofs.RowEdges.{row_waits, inner_edges, row_edge_cases, inner_edge}
use Rattle.graph_gen.proofs.Shapes.{weight_by, weight, weight_least, Held, Shape, NewLines}

-- a test that no line of a list passes
none_at : (t : Verb → Bool) (xs : List Line) → list_any (λ (l : Line). t l.verb) xs ≡ false → (k : ℕ) → option_map_or t (verb_in xs k) false ≡ false
none_at t [] h k = refl
none_at t (x ∷ xs) h zero = (or_parts (t x.verb) (list_any (λ (l : Line). t l.verb) xs) h).0
none_at t (x ∷ xs) h (suc k) = none_at t xs (or_parts (t x.verb) (list_any (λ (l : Line). t l.verb) xs) h).1 k

-- uses of columns below 8 alone
abbrev UsesFew : Verb → Type 0
UsesFew v = AllByRecursion (λ (a : Access). a.column < 8) (uses_of (Some v))

few_at : (xs : List Line) → AllByRecursion (λ (l : Line). UsesFew l.verb) xs → (k : ℕ) (a : Access) → Contains (uses_of (verb_in xs k)) a → a.column < 8
few_at [] h k a c = absurd (contains_none a c)
few_at (x ∷ xs) h zero a c = All-contains (λ (a : Access). a.column < 8) (uses_of (Some x.verb)) a (All-from_recursion (λ (a : Access). a.column < 8) (uses_of (Some x.verb)) h.0) c
few_at (x ∷ xs) h (suc k) a c = few_at xs h.1 k a c

weight_plain : (v : Option Verb) (i m : ℕ) → option_map_or is_user v false ≡ false → i < m → weight_by v i < 2 * m
weight_plain v i m h b = let e : weight_by v i ≡ 2 * i = same (option_map_or is_user v false) i h in omega arith
  where
    same : (b : Bool) (i : ℕ) → b ≡ false → cond b (2 * i + 3) (2 * i) ≡ 2 * i
    same true i e = absurd (true≢false e)
    same false i e = refl

module _ (d : Draw) (column : d.column < 8) (other : d.other < 8) (lasts : List (Option ℕ)) (ls : List Line) (stand : LastsStand lasts (length ls)) (shape : Shape ls) where
  abbrev n : ℕ
  n = length ls

  abbrev lines : Row → List Line
  lines row = row_lines row d lasts n

  abbrev all : Row → List Line
  all row = ls ++ lines row

  waits_from : (row : Row) → n ≤ row_waits row n
  waits_from Fill = omega arith
  waits_from row = omega arith

  waits_below : (row : Row) → row_waits row n < n + length (lines row)
  waits_below Fill = omega arith
  waits_below row = omega arith

  -- what holds of an edge between lines of a row
  record IsInner (row : Row) (e : Edge) : Type 0 where
    enters : n ≤ e.to
    starts : e.from < n + length (lines row)
    ends : e.to < n + length (lines row)
    rises : weight (all row) e.from < weight (all row) e.to

  rises_at : (row : Row) (i j k m : ℕ) → i ≡ n + k → j ≡ n + m → weight_by (verb_in (lines row) k) i < weight_by (verb_in (lines row) m) j → weight (all row) i < weight (all row) j
  rises_at row i j k m e f h =
      subst (λ v. weight_by v i < weight (all row) j) (sym (verb_new ls (lines row) i k e)) (subst (λ v. weight_by (verb_in (lines row) k) i < weight_by v j) (sym (verb_new ls (lines row) j m f)) h)

  inner_all : (row : Row) → AllByRecursion (IsInner row) (inner_edges row n)
  inner_all Copy = (record { enters = omega arith; starts = omega arith; ends = omega arith; rises = rises_at Copy n (n + 1) 0 1 (omega arith) (omega arith) (omega arith) }, tt)
  inner_all Sum = (record { enters = omega arith; starts = omega arith; ends = omega arith; rises = rises_at Sum n (n + 1) 0 1 (omega arith) (omega arith) (omega arith) }, tt)
  inner_all Event = (record { enters = omega arith; starts = omega arith; ends = omega arith; rises = rises_at Event (n + 1) n 1 0 (omega arith) (omega arith) (omega arith) }, tt)
  inner_all Section = (
    record { enters = omega arith; starts = omega arith; ends = omega arith; rises = rises_at Section n (n + 1) 0 1 (omega arith) (omega arith) (omega arith) },
    (
      record { enters = omega arith; starts = omega arith; ends = omega arith; rises = rises_at Section (n + 1) (n + 2) 1 2 (omega arith) (omega arith) (omega arith) },
      (record { enters = omega arith; starts = omega arith; ends = omega arith; rises = rises_at Section (n + 2) (n + 3) 2 3 (omega arith) (omega arith) (omega arith) }, tt),
    ),
  )
  inner_all row = tt

  is_inner : (row : Row) (e : Edge) → Contains (inner_edges row n) e → IsInner row e
  is_inner row e c = All-contains (IsInner row) (inner_edges row n) e (All-from_recursion (IsInner row) (inner_edges row n) (inner_all row)) c

  -- an edge from a line that stood rises
  rises_in : (row : Row) (i j : ℕ) → i < n → n ≤ j → weight (all row) i < weight (all row) j
  rises_in row i j h k =
      let few : weight ls i < 2 * n = shape.light i h in
      let same : weight (all row) i ≡ weight ls i = ap (λ v. weight_by v i) (verb_old ls (lines row) i h) in
      let most : 2 * j ≤ weight (all row) j = weight_least (verb_in (all row) j) j in
      bound (weight (all row) i) (weight ls i) n j (weight (all row) j) same few k most
    where
      bound : (x y n j z : ℕ) → x ≡ y → y < 2 * n → n ≤ j → 2 * j ≤ z → x < z
      bound x y n j z e f g h = omega arith

  -- the edges into the later lines of a section come from the line before
  section_into : (e : Edge) → Contains (edges_in (all Section)) e → n < e.to → e.to ≡ e.from + 1
  section_into e c h = elim (edge_cases ls (lines Section) e c) [
    | inl old ↦ absurd (let b : e.to < n = (shape.within e old).1 in omega arith)
    | inr new ↦ elim (row_edge_cases Section d lasts ls e new) [
      | inl from_last ↦ absurd (let b : e.to ≡ n = from_last.2 in omega arith)
      | inr inner ↦ elim (contains_cases (edge n (n + 1) Passes) (edge (n + 1) (n + 2) Ignores ∷ edge (n + 2) (n + 3) Passes ∷ []) e inner) [
        | inl x ↦ steps n (n + 1) e (ap (λ (y : Edge). y.from) x) (ap (λ (y : Edge). y.to) x) refl
        | inr more ↦ elim (contains_cases (edge (n + 1) (n + 2) Ignores) (edge (n + 2) (n + 3) Passes ∷ []) e more) [
          | inl x ↦ steps (n + 1) (n + 2) e (ap (λ (y : Edge). y.from) x) (ap (λ (y : Edge). y.to) x) (omega arith)
          | inr most ↦ elim (contains_cases (edge (n + 2) (n + 3) Passes) [] e most) [
            | inl x ↦ steps (n + 2) (n + 3) e (ap (λ (y : Edge). y.from) x) (ap (λ (y : Edge). y.to) x) (omega arith)
            | inr none ↦ absurd (contains_none e none)
          ]
        ]
      ]
    ]
  ]
    where
      steps : (a b : ℕ) (e : Edge) → a ≡ e.from → b ≡ e.to → b ≡ a + 1 → e.to ≡ e.from + 1
      steps a b e f g h = omega arith

  held : Held (all Section) n
  held =
      let inner : List Edge = inner_edges Section n in
      record {
        column = d.column;
        small = column;
        acquire = verb_new ls (lines Section) n 0 (omega arith);
        sum = verb_new ls (lines Section) (n + 1) 1 refl;
        merge = verb_new ls (lines Section) (n + 2) 2 refl;
        release = got_new ls (lines Section) (n + 3) 3 refl;
        to_sum = inner_edge Section d lasts ls (edge n (n + 1) Passes) (contains_here (edge n (n + 1) Passes) (edge (n + 1) (n + 2) Ignores ∷ edge (n + 2) (n + 3) Passes ∷ []));
        to_merge = inner_edge Section d lasts ls (edge (n + 1) (n + 2) Ignores)
            (contains_there (edge n (n + 1) Passes) (edge (n + 1) (n + 2) Ignores ∷ edge (n + 2) (n + 3) Passes ∷ []) (edge (n + 1) (n + 2) Ignores) (contains_here (edge (n + 1) (n + 2) Ignores) (edge (n + 2) (n + 3) Passes ∷ [])));
        to_release = inner_edge Section d lasts ls (edge (n + 2) (n + 3) Passes)
            (contains_there (edge n (n + 1) Passes) (edge (n + 1) (n + 2) Ignores ∷ edge (n + 2) (n + 3) Passes ∷ []) (edge (n + 2) (n + 3) Passes)
            (contains_there (edge (n + 1) (n + 2) Ignores) (edge (n + 2) (n + 3) Passes ∷ []) (edge (n + 2) (n + 3) Passes) (contains_here (edge (n + 2) (n + 3) Passes) [])));
        into_sum = λ e c t. (let s : e.to ≡ e.from + 1 = section_into e c (omega arith) in omega arith);
        into_merge = λ e c t. (let s : e.to ≡ e.from + 1 = section_into e c (omega arith) in omega arith);
        into_release = λ e c t. (let s : e.to ≡ e.from + 1 = section_into e c (omega arith) in omega arith);
      }

  not_true : (b : Bool) → b ≡ false → b ≡ true → ⊥
  not_true b e h = true≢false (sym h ∙ e)

  row_acquires : (row : Row) (k l : ℕ) → option_map_or (is_acquire_of l) (verb_in (lines row) k) false ≡ true → Held (all row) (n + k)
  row_acquires Section zero l h = subst (Held (all Section)) (let e : n ≡ n + 0 = omega arith in e) held
  row_acquires Section (suc k) l h = absurd (not_true _ (none_at (is_acquire_of l) (tail (lines Section)) refl k) h)
    where
      tail : List Line → List Line
      tail [] = []
      tail (x ∷ xs) = xs
  row_acquires row k l h = absurd (not_true _ (none_at (is_acquire_of l) (lines row) refl k) h)

  row_releases : (row : Row) (k q : ℕ) → option_map_or (is_release_of q) (verb_in (lines row) k) false ≡ true → (n + k ≡ q + 3) × Held (all row) q
  row_releases Section zero q h = absurd (true≢false (sym h))
  row_releases Section (suc zero) q h = absurd (true≢false (sym h))
  row_releases Section (suc (suc zero)) q h = absurd (true≢false (sym h))
  row_releases Section (suc (suc (suc zero))) q h = let e : n ≡ q = eqb-true n q h in (omega arith, subst (Held (all Section)) e held)
  row_releases Section (suc (suc (suc (suc k)))) q h = absurd (true≢false (sym h))
  row_releases row k q h = absurd (not_true _ (none_at (is_release_of q) (lines row) refl k) h)

  row_uses : (row : Row) (k : ℕ) (a : Access) → Contains (uses_of (verb_in (lines row) k)) a → (a.column < 8) ⊎ ((q : ℕ) × (n + k ≡ q + 1) × Held (all row) q)
  row_uses Settle k a c = inl (few_at (lines Settle) (tt, tt) k a c)
  row_uses Copy k a c = inl (few_at (lines Copy) (tt, ((column, (other, tt)), tt)) k a c)
  row_uses Sum k a c = inl (few_at (lines Sum) (tt, ((column, (other, tt)), tt)) k a c)
  row_uses Event k a c = inl (few_at (lines Event) (tt, (tt, tt)) k a c)
  row_uses Section zero a c = absurd (contains_none a c)
  row_uses Section (suc zero) a c = inr (n, refl, held)
  row_uses Section (suc (suc zero)) a c = absurd (contains_none a c)
  row_uses Section (suc (suc (suc zero))) a c = absurd (contains_none a c)
  row_uses Section (suc (suc (suc (suc k)))) a c = absurd (contains_none a c)
  row_uses row k a c = inl (few_at (lines row) ((column, tt), tt) k a c)

  row_light : (row : Row) (k : ℕ) → k < length (lines row) → weight_by (verb_in (lines row) k) (n + k) < 2 * (n + length (lines row))
  row_light Event zero h = omega arith
  row_light Event (suc zero) h = omega arith
  row_light Event (suc (suc k)) h = absurd (omega arith)
  row_light row k h = weight_plain _ (n + k) (n + length (lines row)) (none_at is_user (lines row) refl k) (omega arith)

  -- the lines of each row keep the shape
  pub row_shape : (row : Row) → NewLines ls (lines row)
  row_shape row = record {
    within = λ e c. elim (row_edge_cases row d lasts ls e c) [
      | inl s ↦ (let from : e.from < n = stand s.0 e.from s.1 in let to : e.to ≡ row_waits row n = s.2 in let b = waits_below row in (omega arith, omega arith))
      | inr inner ↦ (let i = is_inner row e inner in (i.starts, i.ends))
    ];
    enters = λ e c. elim (row_edge_cases row d lasts ls e c) [
      | inl s ↦ (let to : e.to ≡ row_waits row n = s.2 in let b = waits_from row in omega arith)
      | inr inner ↦ (is_inner row e inner).enters
    ];
    rises = λ e c. elim (row_edge_cases row d lasts ls e c) [
      | inl s ↦ (let to : e.to ≡ row_waits row n = s.2 in let b = waits_from row in rises_in row e.from e.to (stand s.0 e.from s.1) (omega arith))
      | inr inner ↦ (is_inner row e inner).rises
    ];
    light = row_light row;
    acquires = row_acquires row;
    releases = row_releases row;
    uses = row_uses row;
  }
