-- The shape of the lines of a generated graph: edges rise, and sections stand in four lines each.
use Rattle.std.proofs.Common.{◌≡◌, ℕ, ◌+◌, ◌*◌, ◌<◌, ◌≤◌, Bool, true, false, cond, ◌⊎◌, inl, inr, List, [], ◌∷◌, ◌++◌, length, sym, ◌∙◌, ap, subst, length-append, arith}
use Rattle.std.specs.Prelude.{Contains, Option, Some, slice_get}
use Rattle.std.specs.Option.{option_map_or}
use Rattle.std.proofs.lemmas.Option.{slice_get_within}
use Rattle.index_spaces.specs.declared.Op.TheVariants as op
use Rattle.graph_terms.specs.declared.verb.Access.{Access}
use Rattle.graph_terms.specs.declared.verb.Edge.{Edge}
use Rattle.graph_terms.specs.declared.verb.EdgeKind.TheVariants.{Passes, Ignores}
use Rattle.graph_terms.specs.declared.verb.Line.{Line}
use Rattle.graph_terms.specs.declared.verb.Verb.{Verb}
use Rattle.graph_terms.specs.declared.verb.Verb.TheVariants as verb
use Rattle.graph_terms.specs.Graph.{is_user, is_acquire_of, is_release_of}
use Rattle.graph_terms.specs.Edges.{edge, edges_after}
use Rattle.graph_gen.specs.MadeGraph.{total_column, made_line}
use Rattle.graph_gen.proofs.AddedLines.{verb_in, uses_of, uses_in, edges_in, old_or_new, got_old, verb_old, verb_new, edge_old, edge_cases}

-- a weight that rises along each edge: a user event stands behind its trigger, which is the next line
abbrev pub weight_by : Option Verb → ℕ → ℕ
weight_by v i = cond (option_map_or is_user v false) (2 * i + 3) (2 * i)

abbrev pub weight : List Line → ℕ → ℕ
weight ls i = weight_by (verb_in ls i) i

pub weight_least : (v : Option Verb) (i : ℕ) → 2 * i ≤ weight_by v i
weight_least v i = bound (option_map_or is_user v false) i
  where
    bound : (b : Bool) (i : ℕ) → 2 * i ≤ cond b (2 * i + 3) (2 * i)
    bound true i = omega arith
    bound false i = omega arith

-- the section of an acquire: the three lines after it, each with the one before it as its only source
pub record Held (ls : List Line) (q : ℕ) : Type 0 where
  pub column : ℕ
  pub small : column < 8
  pub acquire : verb_in ls q ≡ Some (verb.Acquire 0 false)
  pub sum : verb_in ls (q + 1) ≡ Some (verb.Reduce op.Sum column total_column 0)
  pub merge : verb_in ls (q + 2) ≡ Some (verb.MergeIgnore ((q + 1) ∷ []))
  pub release : slice_get ls (q + 3) ≡ Some (made_line (q + 3) (verb.Release q) (Some (q + 2)))
  pub to_sum : Contains (edges_in ls) (edge q (q + 1) Passes)
  pub to_merge : Contains (edges_in ls) (edge (q + 1) (q + 2) Ignores)
  pub to_release : Contains (edges_in ls) (edge (q + 2) (q + 3) Passes)
  pub into_sum : (e : Edge) → Contains (edges_in ls) e → e.to ≡ q + 1 → e.from ≡ q
  pub into_merge : (e : Edge) → Contains (edges_in ls) e → e.to ≡ q + 2 → e.from ≡ q + 1
  pub into_release : (e : Edge) → Contains (edges_in ls) e → e.to ≡ q + 3 → e.from ≡ q + 2

-- what holds of the lines that stand
pub record Shape (ls : List Line) : Type 0 where
  pub within : (e : Edge) → Contains (edges_in ls) e → (e.from < length ls) × (e.to < length ls)
  pub rises : (e : Edge) → Contains (edges_in ls) e → weight ls e.from < weight ls e.to
  pub light : (i : ℕ) → i < length ls → weight ls i < 2 * length ls
  pub acquires : (q l : ℕ) → option_map_or (is_acquire_of l) (verb_in ls q) false ≡ true → Held ls q
  pub releases : (r q : ℕ) → option_map_or (is_release_of q) (verb_in ls r) false ≡ true → (r ≡ q + 3) × Held ls q
  pub uses : (i : ℕ) (a : Access) → Contains (uses_in ls i) a → (a.column < 8) ⊎ ((q : ℕ) × (i ≡ q + 1) × Held ls q)

-- what holds of lines that are added to them
pub record NewLines (ls row : List Line) : Type 0 where
  pub within : (e : Edge) → Contains (edges_after ls row) e → (e.from < length ls + length row) × (e.to < length ls + length row)
  pub enters : (e : Edge) → Contains (edges_after ls row) e → length ls ≤ e.to
  pub rises : (e : Edge) → Contains (edges_after ls row) e → weight (ls ++ row) e.from < weight (ls ++ row) e.to
  pub light : (k : ℕ) → k < length row → weight_by (verb_in row k) (length ls + k) < 2 * (length ls + length row)
  pub acquires : (k l : ℕ) → option_map_or (is_acquire_of l) (verb_in row k) false ≡ true → Held (ls ++ row) (length ls + k)
  pub releases : (k q : ℕ) → option_map_or (is_release_of q) (verb_in row k) false ≡ true → (length ls + k ≡ q + 3) × Held (ls ++ row) q
  pub uses : (k : ℕ) (a : Access) → Contains (uses_of (verb_in row k)) a → (a.column < 8) ⊎ ((q : ℕ) × (length ls + k ≡ q + 1) × Held (ls ++ row) q)

module _ (ls row : List Line) (added : NewLines ls row) where
  abbrev all : List Line
  all = ls ++ row

  longer : length (ls ++ row) ≡ length ls + length row
  longer = length-append ls row

  -- an edge to a line that stood is one that stood
  old_into : (e : Edge) → Contains (edges_in all) e → e.to < length ls → Contains (edges_in ls) e
  old_into e c h = elim (edge_cases ls row e c) [ inl o ↦ o | inr n ↦ absurd (let b : length ls ≤ e.to = added.enters e n in omega arith) ]

  held_more : (q : ℕ) → Held ls q → Held all q
  held_more q h =
      let there : q + 3 < length ls = slice_get_within ls (q + 3) _ h.release in
      record {
        column = h.column;
        small = h.small;
        acquire = verb_old ls row q (omega arith) ∙ h.acquire;
        sum = verb_old ls row (q + 1) (omega arith) ∙ h.sum;
        merge = verb_old ls row (q + 2) (omega arith) ∙ h.merge;
        release = got_old ls row (q + 3) there ∙ h.release;
        to_sum = edge_old ls row (edge q (q + 1) Passes) h.to_sum;
        to_merge = edge_old ls row (edge (q + 1) (q + 2) Ignores) h.to_merge;
        to_release = edge_old ls row (edge (q + 2) (q + 3) Passes) h.to_release;
        into_sum = λ e c t. h.into_sum e (old_into e c (omega arith)) t;
        into_merge = λ e c t. h.into_merge e (old_into e c (omega arith)) t;
        into_release = λ e c t. h.into_release e (old_into e c (omega arith)) t;
      }

  weight_old : (i : ℕ) → i < length ls → weight all i ≡ weight ls i
  weight_old i h = ap (λ v. weight_by v i) (verb_old ls row i h)

  light_at : (i : ℕ) → (i < length ls) ⊎ ((k : ℕ) × (i ≡ length ls + k)) → Shape ls → i < length all → weight all i < 2 * length all
  light_at i (inl old) s h =
      let same : weight all i ≡ weight ls i = weight_old i old in
      let few : weight ls i < 2 * length ls = s.light i old in
      bound (weight all i) (weight ls i) (length ls) (length row) (length all) same few longer
    where
      bound : (x y n m k : ℕ) → x ≡ y → y < 2 * n → k ≡ n + m → x < 2 * k
      bound x y n m k e f g = omega arith
  light_at i (inr at) s h =
      let few : weight_by (verb_in row at.0) (length ls + at.0) < 2 * (length ls + length row) = added.light at.0 (let e = longer in let f : i ≡ length ls + at.0 = at.1 in omega arith) in
      let same : weight all i ≡ weight_by (verb_in row at.0) (length ls + at.0) = ap (λ v. weight_by v i) (verb_new ls row i at.0 at.1) ∙ ap (weight_by (verb_in row at.0)) at.1 in
      subst (λ k. weight all i < 2 * k) (sym longer) (subst (λ x. x < 2 * (length ls + length row)) (sym same) few)

  acquires_at : (q l : ℕ) → (q < length ls) ⊎ ((k : ℕ) × (q ≡ length ls + k)) → Shape ls → option_map_or (is_acquire_of l) (verb_in all q) false ≡ true → Held all q
  acquires_at q l (inl old) s h = held_more q (s.acquires q l (ap (λ v. option_map_or (is_acquire_of l) v false) (sym (verb_old ls row q old)) ∙ h))
  acquires_at q l (inr at) s h = subst (Held all) (sym at.1) (added.acquires at.0 l (ap (λ v. option_map_or (is_acquire_of l) v false) (sym (verb_new ls row q at.0 at.1)) ∙ h))

  releases_at : (r q : ℕ) → (r < length ls) ⊎ ((k : ℕ) × (r ≡ length ls + k)) → Shape ls → option_map_or (is_release_of q) (verb_in all r) false ≡ true → (r ≡ q + 3) × Held all q
  releases_at r q (inl old) s h = let o = s.releases r q (ap (λ v. option_map_or (is_release_of q) v false) (sym (verb_old ls row r old)) ∙ h) in (o.0, held_more q o.1)
  releases_at r q (inr at) s h = let o = added.releases at.0 q (ap (λ v. option_map_or (is_release_of q) v false) (sym (verb_new ls row r at.0 at.1)) ∙ h) in (at.1 ∙ o.0, o.1)

  uses_at : (i : ℕ) (a : Access) → (i < length ls) ⊎ ((k : ℕ) × (i ≡ length ls + k)) → Shape ls → Contains (uses_in all i) a → (a.column < 8) ⊎ ((q : ℕ) × (i ≡ q + 1) × Held all q)
  uses_at i a (inl old) s c = elim (s.uses i a (subst (λ v. Contains (uses_of v) a) (verb_old ls row i old) c)) [ inl small ↦ inl small | inr o ↦ inr (o.0, o.1, held_more o.0 o.2) ]
  uses_at i a (inr at) s c = elim (added.uses at.0 a (subst (λ v. Contains (uses_of v) a) (verb_new ls row i at.0 at.1) c)) [ inl small ↦ inl small | inr o ↦ inr (o.0, at.1 ∙ o.1, o.2) ]

  pub shape_more : Shape ls → Shape all
  shape_more s = record {
    within = λ e c. elim (edge_cases ls row e c) [
      | inl o ↦ (let w = s.within e o in let from : e.from < length ls = w.0 in let to : e.to < length ls = w.1 in let l = longer in (omega arith, omega arith))
      | inr n ↦ (let w = added.within e n in let from : e.from < length ls + length row = w.0 in let to : e.to < length ls + length row = w.1 in let l = longer in (omega arith, omega arith))
    ];
    rises = λ e c. elim (edge_cases ls row e c) [
      | inl o ↦ (let w = s.within e o in subst (λ x. x < weight all e.to) (sym (weight_old e.from w.0)) (subst (λ x. weight ls e.from < x) (sym (weight_old e.to w.1)) (s.rises e o)))
      | inr n ↦ added.rises e n
    ];
    light = λ i h. light_at i (old_or_new (length ls) i) s h;
    acquires = λ q l h. acquires_at q l (old_or_new (length ls) q) s h;
    releases = λ r q h. releases_at r q (old_or_new (length ls) r) s h;
    uses = λ i a c. uses_at i a (old_or_new (length ls) i) s c;
  }
