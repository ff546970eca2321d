-- The lines that use a column stand on one chain, at whose end its last line is.
use Rattle.std.proofs.Common.{◌≡◌, ℕ, zero, suc, ◌+◌, ◌<◌, Bool, true, false, cond, ◌⊎◌, inl, inr, List, [], ◌∷◌, ◌++◌, length, refl, sym, ◌∙◌, ap, subst, arith}
use Rattle.std.specs.Prelude.{◌≢◌, ◌==◌, Contains, Option, Some, None, IsTrue, slice_set}
use Rattle.std.proofs.lemmas.Bool.{true≢false, cases_Bool, cases_order, eqb-true}
use Rattle.std.proofs.lemmas.Option.{none-some, same_Some}
use Rattle.std.proofs.lemmas.List.{get_or-set_other, length-set}
use Rattle.std.proofs.lemmas.Grind.{get_or-set_at}
use Rattle.graph_terms.specs.declared.verb.Access.{Access}
use Rattle.graph_terms.specs.declared.verb.Edge.{Edge}
use Rattle.graph_terms.specs.declared.verb.EdgeKind.TheVariants.{Passes, Ignores}
use Rattle.graph_terms.specs.declared.verb.Line.{Line}
use Rattle.graph_terms.specs.declared.verb.Mode.TheVariants as mode
use Rattle.graph_terms.specs.Access.{access}
use Rattle.graph_terms.specs.Edges.{edge}
use Rattle.graph_meaning.specs.Path.{Path, last, first}
use Rattle.basics.proofs.ListFacts.{contains_cases, contains_none, contains_here, contains_there}
use Rattle.graph_meaning.proofs.Public.{path_append}
use Rattle.graph_gen.specs.declared.draw.Row.{Row}
use Rattle.graph_gen.specs.declared.draw.Row.TheVariants.{Fill, Iota, Expect, Settle, Copy, Sum, Event, Section}
use Rattle.graph_gen.specs.declared.draw.Draw.{Draw}
use Rattle.graph_gen.specs.MadeGraph.{last_of, merged, row_lines, lasts_after, total_column, on_lines}
use Rattle.graph_gen.proofs.AddedLines.{uses_of, uses_in, edges_in, old_or_new, verb_old, verb_new, edge_old, path_more, UpTo}
use Rattle.graph_gen.proofs.RowEdges.{row_sources, row_waits, row_kind, inner_edge, waits_edge}

-- a line uses a column
abbrev pub Touches : List Line → ℕ → ℕ → Type 0
Touches ls i c = (a : Access) × Contains (uses_in ls i) a × (a.column ≡ c)

-- the lines that use a column have paths to its last line, and each two of them a path
pub record Ordered (ls : List Line) (lasts : List (Option ℕ)) : Type 0 where
  pub known : (c i : ℕ) → c < 8 → Touches ls i c → (e : ℕ) × (last_of lasts c ≡ Some e) × UpTo (edges_in ls) i e
  pub paths : (c i j : ℕ) → c < 8 → Touches ls i c → Touches ls j c → i < j → Path (edges_in ls) i j

path_up : {all : List Edge} {i j k : ℕ} → Path all i j → UpTo all j k → Path all i k
path_up {all} {i} {j} {k} p (inl e) = subst (λ x. Path all i x) e p
path_up p (inr q) = path_append p q

up_path : {all : List Edge} {i j k : ℕ} → UpTo all i j → Path all j k → Path all i k
up_path {all} {i} {j} {k} (inl e) p = subst (λ x. Path all x k) (sym e) p
up_path (inr q) p = path_append q p

up_up : {all : List Edge} {i j k : ℕ} → UpTo all i j → UpTo all j k → UpTo all i k
up_up {all} {i} {j} {k} (inl e) u = subst (λ x. UpTo all x k) (sym e) u
up_up (inr q) u = inr (path_up q u)

up_more : (ls row : List Line) (i j : ℕ) → UpTo (edges_in ls) i j → UpTo (edges_in (ls ++ row)) i j
up_more ls row i j (inl e) = inl e
up_more ls row i j (inr p) = inr (path_more (edge_old ls row) p)

-- the line of a row that uses columns, and the last line of the columns that it moves
abbrev row_touch : Row → ℕ → ℕ
row_touch Copy n = n + 1
row_touch Sum n = n + 1
row_touch Section n = n + 1
row_touch _ n = n

abbrev row_last : Row → ℕ → ℕ
row_last Copy n = n + 1
row_last Sum n = n + 1
row_last Section n = n + 3
row_last _ n = n

abbrev is_joined : Row → Bool
is_joined Copy = true
is_joined Sum = true
is_joined _ = false

-- the columns whose last line a row moves
abbrev Moves : Row → Draw → ℕ → Type 0
Moves row d c = (c ≡ d.column) ⊎ (IsTrue (is_joined row) × (c ≡ d.other))

same_or_other : (a b : ℕ) → (a ≡ b) ⊎ (a ≢ b)
same_or_other a b = elim (cases_order a b) [ inl e ↦ inl e | inr (inl l) ↦ inr (λ e. omega arith) | inr (inr l) ↦ inr (λ e. omega arith) ]

moves_or_not : (row : Row) (d : Draw) (c : ℕ) → Moves row d c ⊎ (Moves row d c → ⊥)
moves_or_not row d c = elim (same_or_other c d.column) [
  | inl e ↦ inl (inl e)
  | inr ne ↦ elim (same_or_other c d.other) [
    | inl e ↦ elim (cases_Bool (is_joined row)) [ inl j ↦ inl (inr (j, e)) | inr f ↦ inr (λ m. elim m [ inl s ↦ ne s | inr j ↦ true≢false (sym j.0 ∙ f) ]) ]
    | inr still ↦ inr (λ m. elim m [ inl s ↦ ne s | inr j ↦ still j.1 ])
  ]
]

merged_has : (o p : Option ℕ) (s : ℕ) → (o ≡ Some s) ⊎ (p ≡ Some s) → Contains (merged o p) s
merged_has None None s h = absurd (elim h [ inl e ↦ none-some s e | inr e ↦ none-some s e ])
merged_has None (Some f) s h = elim h [ inl e ↦ absurd (none-some s e) | inr e ↦ subst (Contains (f ∷ [])) (same_Some f s e) (contains_here f []) ]
merged_has (Some e) None s h = elim h [ inl f ↦ subst (Contains (e ∷ [])) (same_Some e s f) (contains_here e []) | inr f ↦ absurd (none-some s f) ]
merged_has (Some e) (Some f) s h = chosen (e == f) refl (elim h [ inl x ↦ inl (same_Some e s x) | inr x ↦ inr (same_Some f s x) ])
  where
    chosen : (b : Bool) → (e == f) ≡ b → (e ≡ s) ⊎ (f ≡ s) → Contains (cond b (e ∷ []) (e ∷ f ∷ [])) s
    chosen true t (inl x) = subst (Contains (e ∷ [])) x (contains_here e [])
    chosen true t (inr x) = subst (Contains (e ∷ [])) (eqb-true e f t ∙ x) (contains_here e [])
    chosen false t (inl x) = subst (Contains (e ∷ f ∷ [])) x (contains_here e (f ∷ []))
    chosen false t (inr x) = subst (Contains (e ∷ f ∷ [])) x (contains_there e (f ∷ []) f (contains_here f []))

on_has : (o : Option ℕ) (s : ℕ) → o ≡ Some s → Contains (on_lines o) s
on_has None s h = absurd (none-some s h)
on_has (Some e) s h = subst (Contains (e ∷ [])) (same_Some e s h) (contains_here e [])

only_column : (row : Row) (d : Draw) (c : ℕ) → is_joined row ≡ false → Moves row d c → c ≡ d.column
only_column row d c h (inl e) = e
only_column row d c h (inr j) = absurd (true≢false (sym j.0 ∙ h))

-- the last line of a column before
old_last : (row : Row) (d : Draw) (lasts : List (Option ℕ)) (c s : ℕ) → is_joined row ≡ false → Moves row d c → last_of lasts c ≡ Some s → last_of lasts d.column ≡ Some s
old_last row d lasts c s h m e = ap (last_of lasts) (sym (only_column row d c h m)) ∙ e

moved_source : (row : Row) (d : Draw) (lasts : List (Option ℕ)) (c s : ℕ) → Moves row d c → last_of lasts c ≡ Some s → Contains (row_sources row d lasts) s
moved_source Settle d lasts c s m e = merged_has (last_of lasts d.column) None s (inl (old_last Settle d lasts c s refl m e))
moved_source Copy d lasts c s m e = merged_has (last_of lasts d.column) (last_of lasts d.other) s (elim m [ inl x ↦ inl (ap (last_of lasts) (sym x) ∙ e) | inr x ↦ inr (ap (last_of lasts) (sym x.1) ∙ e) ])
moved_source Sum d lasts c s m e = merged_has (last_of lasts d.column) (last_of lasts d.other) s (elim m [ inl x ↦ inl (ap (last_of lasts) (sym x) ∙ e) | inr x ↦ inr (ap (last_of lasts) (sym x.1) ∙ e) ])
moved_source row d lasts c s m e = on_has (last_of lasts d.column) s (old_last row d lasts c s refl m e)

module _ (d : Draw) (column : d.column < 8) (other : d.other < 8) (lasts : List (Option ℕ)) (wide : length lasts ≡ 8) (n : ℕ) where
  one_moved : (row : Row) (c x : ℕ) → is_joined row ≡ false → Moves row d c → last_of (slice_set lasts d.column (Some x)) c ≡ Some x
  one_moved row c x h m = get_or-set_at lasts d.column c (Some x) None (only_column row d c h m) (omega arith)

  two_moved : (row : Row) (c x : ℕ) → Moves row d c → last_of (slice_set (slice_set lasts d.column (Some x)) d.other (Some x)) c ≡ Some x
  two_moved row c x m =
      let w : length (slice_set lasts d.column (Some x)) ≡ 8 = length-set lasts d.column (Some x) ∙ wide in
      elim (same_or_other c d.other) [
        | inl e ↦ get_or-set_at (slice_set lasts d.column (Some x)) d.other c (Some x) None e (omega arith)
        | inr ne ↦ get_or-set_other (slice_set lasts d.column (Some x)) d.other c (Some x) None ne ∙ get_or-set_at lasts d.column c (Some x) None (elim m [ inl e ↦ e | inr j ↦ absurd (ne j.1) ]) (omega arith)
      ]

  lasts_moved : (row : Row) (c : ℕ) → Moves row d c → last_of (lasts_after row d lasts n) c ≡ Some (row_last row n)
  lasts_moved Copy c m = two_moved Copy c (n + 1) m
  lasts_moved Sum c m = two_moved Sum c (n + 1) m
  lasts_moved row c m = one_moved row c (row_last row n) refl m

  one_kept : (row : Row) (c x : ℕ) → (Moves row d c → ⊥) → last_of (slice_set lasts d.column (Some x)) c ≡ last_of lasts c
  one_kept row c x still = get_or-set_other lasts d.column c (Some x) None (λ e. still (inl e))

  two_kept : (row : Row) (c x : ℕ) → is_joined row ≡ true → (Moves row d c → ⊥) → last_of (slice_set (slice_set lasts d.column (Some x)) d.other (Some x)) c ≡ last_of lasts c
  two_kept row c x h still = get_or-set_other (slice_set lasts d.column (Some x)) d.other c (Some x) None (λ e. still (inr (h, e))) ∙ one_kept row c x still

  lasts_kept : (row : Row) (c : ℕ) → (Moves row d c → ⊥) → last_of (lasts_after row d lasts n) c ≡ last_of lasts c
  lasts_kept Copy c still = two_kept Copy c (n + 1) refl still
  lasts_kept Sum c still = two_kept Sum c (n + 1) refl still
  lasts_kept row c still = one_kept row c (row_last row n) still

  -- a line of one access, and of two
  one_used : (x : Access) (a : Access) (c : ℕ) → Contains (x ∷ []) a → a.column ≡ c → c ≡ x.column
  one_used x a c at e = elim (contains_cases x [] a at) [ inl s ↦ sym (ap (λ (y : Access). y.column) s ∙ e) | inr r ↦ absurd (contains_none a r) ]

  two_used : (x y : Access) (a : Access) (c : ℕ) → Contains (x ∷ y ∷ []) a → a.column ≡ c → (c ≡ x.column) ⊎ (c ≡ y.column)
  two_used x y a c at e = elim (contains_cases x (y ∷ []) a at) [ inl s ↦ inl (sym (ap (λ (z : Access). z.column) s ∙ e)) | inr r ↦ inr (one_used y a c r e) ]

  -- what a line of a row uses
  touch_is : (row : Row) (k c : ℕ) → c < 8 → Touches (row_lines row d lasts n) k c → (n + k ≡ row_touch row n) × Moves row d c
  touch_is Fill zero c small t = (omega arith, inl (one_used (access d.column 0 mode.Write) t.0 c t.1 t.2))
  touch_is Fill (suc k) c small t = absurd (contains_none t.0 t.1)
  touch_is Iota zero c small t = (omega arith, inl (one_used (access d.column 0 mode.Write) t.0 c t.1 t.2))
  touch_is Iota (suc k) c small t = absurd (contains_none t.0 t.1)
  touch_is Expect zero c small t = (omega arith, inl (one_used (access d.column 0 mode.Read) t.0 c t.1 t.2))
  touch_is Expect (suc k) c small t = absurd (contains_none t.0 t.1)
  touch_is Settle zero c small t = absurd (contains_none t.0 t.1)
  touch_is Settle (suc k) c small t = absurd (contains_none t.0 t.1)
  touch_is Copy zero c small t = absurd (contains_none t.0 t.1)
  touch_is Copy (suc zero) c small t = (refl, elim (two_used (access d.column 0 mode.Read) (access d.other 0 mode.Write) t.0 c t.1 t.2) [ inl e ↦ inl e | inr e ↦ inr (refl, e) ])
  touch_is Copy (suc (suc k)) c small t = absurd (contains_none t.0 t.1)
  touch_is Sum zero c small t = absurd (contains_none t.0 t.1)
  touch_is Sum (suc zero) c small t = (refl, elim (two_used (access d.column 0 mode.Read) (access d.other 0 mode.Sum) t.0 c t.1 t.2) [ inl e ↦ inl e | inr e ↦ inr (refl, e) ])
  touch_is Sum (suc (suc k)) c small t = absurd (contains_none t.0 t.1)
  touch_is Event zero c small t = absurd (contains_none t.0 t.1)
  touch_is Event (suc zero) c small t = absurd (contains_none t.0 t.1)
  touch_is Event (suc (suc k)) c small t = absurd (contains_none t.0 t.1)
  touch_is Section zero c small t = absurd (contains_none t.0 t.1)
  touch_is Section (suc zero) c small t = (refl, elim (two_used (access d.column 0 mode.Read) (access total_column 0 mode.Sum) t.0 c t.1 t.2) [ inl e ↦ inl e | inr e ↦ absurd (let f : c ≡ 8 = e in omega arith) ])
  touch_is Section (suc (suc zero)) c small t = absurd (contains_none t.0 t.1)
  touch_is Section (suc (suc (suc zero))) c small t = absurd (contains_none t.0 t.1)
  touch_is Section (suc (suc (suc (suc k)))) c small t = absurd (contains_none t.0 t.1)

module _ (d : Draw) (column : d.column < 8) (other : d.other < 8) (lasts : List (Option ℕ)) (wide : length lasts ≡ 8) (ls : List Line) where
  abbrev n : ℕ
  n = length ls

  abbrev all : Row → List Line
  all row = ls ++ row_lines row d lasts n

  waits_touch : (row : Row) → UpTo (edges_in (all row)) (row_waits row n) (row_touch row n)
  waits_touch Copy = inr (last (edge n (n + 1) Passes) (inner_edge Copy d lasts ls (edge n (n + 1) Passes) (contains_here (edge n (n + 1) Passes) [])) refl refl)
  waits_touch Sum = inr (last (edge n (n + 1) Passes) (inner_edge Sum d lasts ls (edge n (n + 1) Passes) (contains_here (edge n (n + 1) Passes) [])) refl refl)
  waits_touch Event = inr (last (edge (n + 1) n Passes) (inner_edge Event d lasts ls (edge (n + 1) n Passes) (contains_here (edge (n + 1) n Passes) [])) refl refl)
  waits_touch Section = inr (last (edge n (n + 1) Passes) (inner_edge Section d lasts ls (edge n (n + 1) Passes) (contains_here (edge n (n + 1) Passes) (edge (n + 1) (n + 2) Ignores ∷ edge (n + 2) (n + 3) Passes ∷ []))) refl refl)
  waits_touch row = inl refl

  touch_last : (row : Row) → UpTo (edges_in (all row)) (row_touch row n) (row_last row n)
  touch_last Section =
      let one : Edge = edge n (n + 1) Passes in
      let two : Edge = edge (n + 1) (n + 2) Ignores in
      let three : Edge = edge (n + 2) (n + 3) Passes in
      inr (first two (inner_edge Section d lasts ls two (contains_there one (two ∷ three ∷ []) two (contains_here two (three ∷ [])))) refl
      (last three (inner_edge Section d lasts ls three (contains_there one (two ∷ three ∷ []) three (contains_there two (three ∷ []) three (contains_here three [])))) refl refl))
  touch_last row = inl refl

  -- from the last line of a column that a row moves a path leads to the line of the row that uses it
  source_path : (row : Row) (c s : ℕ) → Moves row d c → last_of lasts c ≡ Some s → Path (edges_in (all row)) s (row_touch row n)
  source_path row c s m e = path_up (last (edge s (row_waits row n) (row_kind row)) (waits_edge row d lasts ls s (moved_source row d lasts c s m e)) refl refl) (waits_touch row)

  -- the last line before is the last line after, or has a path to it
  reaches : (row : Row) (c s : ℕ) → last_of lasts c ≡ Some s → (e : ℕ) × (last_of (lasts_after row d lasts n) c ≡ Some e) × UpTo (edges_in (all row)) s e
  reaches row c s e = elim (moves_or_not row d c) [
    | inl m ↦ (row_last row n, lasts_moved d column other lasts wide n row c m, inr (path_up (source_path row c s m e) (touch_last row)))
    | inr still ↦ (s, lasts_kept d column other lasts wide n row c still ∙ e, inl refl)
  ]

  touch_old : (row : Row) (i c : ℕ) → i < n → Touches (all row) i c → Touches ls i c
  touch_old row i c h t = (t.0, subst (λ v. Contains (uses_of v) t.0) (verb_old ls (row_lines row d lasts n) i h) t.1, t.2)

  -- a line of the row uses a column
  touch_new : (row : Row) (i k c : ℕ) → i ≡ n + k → c < 8 → Touches (all row) i c → (i ≡ row_touch row n) × Moves row d c
  touch_new row i k c e small t =
      let is = touch_is d column other lasts wide n row k c small (t.0, subst (λ v. Contains (uses_of v) t.0) (verb_new ls (row_lines row d lasts n) i k e) t.1, t.2) in
      (e ∙ is.0, is.1)

  module _ (row : Row) (before : Ordered ls lasts) where
    known_at : (c i : ℕ) → (i < n) ⊎ ((k : ℕ) × (i ≡ n + k)) → c < 8 → Touches (all row) i c → (e : ℕ) × (last_of (lasts_after row d lasts n) c ≡ Some e) × UpTo (edges_in (all row)) i e
    known_at c i (inl old) small t =
        let o = before.known c i small (touch_old row i c old t) in
        let r = reaches row c o.0 o.1 in
        (r.0, r.1, up_up (up_more ls (row_lines row d lasts n) i o.0 o.2) r.2)
    known_at c i (inr new) small t =
        let is = touch_new row i new.0 c new.1 small t in
        (row_last row n, lasts_moved d column other lasts wide n row c is.1, subst (λ x. UpTo (edges_in (all row)) x (row_last row n)) (sym is.0) (touch_last row))

    paths_at : (c i j : ℕ) → (i < n) ⊎ ((k : ℕ) × (i ≡ n + k)) → (j < n) ⊎ ((k : ℕ) × (j ≡ n + k)) → c < 8 → Touches (all row) i c → Touches (all row) j c → i < j → Path (edges_in (all row)) i j
    paths_at c i j (inl old) (inl older) small t u less = path_more (edge_old ls (row_lines row d lasts n)) (before.paths c i j small (touch_old row i c old t) (touch_old row j c older u) less)
    paths_at c i j (inl old) (inr new) small t u less =
        let o = before.known c i small (touch_old row i c old t) in
        let is = touch_new row j new.0 c new.1 small u in
        subst (λ x. Path (edges_in (all row)) i x) (sym is.0) (up_path (up_more ls (row_lines row d lasts n) i o.0 o.2) (source_path row c o.0 is.1 o.1))
    paths_at c i j (inr new) (inl old) small t u less = absurd (let e : i ≡ n + new.0 = new.1 in omega arith)
    paths_at c i j (inr new) (inr newer) small t u less =
        let a : i ≡ row_touch row n = (touch_new row i new.0 c new.1 small t).0 in
        let b : j ≡ row_touch row n = (touch_new row j newer.0 c newer.1 small u).0 in
        absurd (omega arith)

    -- the lines of each row keep the order
    pub row_ordered : Ordered (all row) (lasts_after row d lasts n)
    row_ordered = record {
      known = λ c i small t. known_at c i (old_or_new n i) small t;
      paths = λ c i j small t u less. paths_at c i j (old_or_new n i) (old_or_new n j) small t u less;
    }
