-- What a line does to pieces is what it does to columns, moved.
use Rattle.std.proofs.Common.{◌≡◌, ℕ, ◌+◌, ◌*◌, Bool, true, false, cond, not, ◌&&◌, ◌||◌, inl, inr, List, [], ◌∷◌, map, refl, sym, ◌∙◌, ap, subst, arith}
use Rattle.std.specs.Prelude.{Option, Some, None, Contains, option_map, filter, count_by, ◌==◌, nat_le, ◌%◌}
use Rattle.std.specs.Option.{option_map_or}
use Rattle.std.specs.List.{list_any}
use Rattle.std.proofs.lemmas.Bool.{and_parts, and_right, eq-eqb, ne_eqb, eqb-true, cases_eq}
use Rattle.std.proofs.lemmas.Option.{none-some, same_Some}
use Rattle.basics.proofs.ListFacts.{contains_here, contains_there, some_passes}
use Rattle.index_spaces.specs.Space.{has_point, points, space_size, rank, point_at}
use Rattle.graph_terms.specs.declared.outcome.Verdict.TheVariants.{Fine, Fault}
use Rattle.graph_terms.specs.declared.verb.Access.{Access}
use Rattle.graph_terms.specs.declared.verb.Mode.TheVariants.{Read, Write, Sum, Least, Most}
use Rattle.graph_terms.specs.declared.verb.Verb.{Verb}
use Rattle.graph_terms.specs.declared.verb.Verb.TheVariants.{Fill, Copy, Reduce, Task}
use Rattle.graph_terms.specs.declared.table.Kernel.{Kernel}
use Rattle.graph_terms.specs.declared.table.Kernel.TheVariants.{Iota, Axpy, Stencil, Scan, Hist, Dot, Expect, Gather}
use Rattle.index_spaces.specs.declared.Op.TheVariants as op
use Rattle.graph_terms.specs.Access.{access, is_read, is_reduction, verb_accesses, kernel_accesses}
use Rattle.graph_meaning.specs.Effect.{Cells, Change, Set, CellChange, cell_after_if, cells_after_one, cells_after, changes_at, around, reduced, may_read, seen, kernel_value, target, change_by, changes_of, kernel_changes, all_within, verdict_on, kernel_verdict, verb_changes, verb_verdict, wrapped, wrapped_sum}
use Rattle.graph_meaning.proofs.Public.{listed_point}
use Rattle.column_pieces.specs.Cut.{kernel_on, verb_on}

-- an access of another column
abbrev pub access_on : (ℕ → ℕ) → Access → Access
access_on r a = record { column = r a.column; space = a.space; mode = a.mode }

pub kernel_accesses_on : (r : ℕ → ℕ) (k : Kernel) → kernel_accesses (kernel_on r k) ≡ map (access_on r) (kernel_accesses k)
kernel_accesses_on r (Iota x s value) = refl
kernel_accesses_on r (Axpy x y s factor) = refl
kernel_accesses_on r (Stencil x y b s) = refl
kernel_accesses_on r (Scan x y s) = refl
kernel_accesses_on r (Hist x y s t) = refl
kernel_accesses_on r (Dot x y z s t) = refl
kernel_accesses_on r (Expect x s low high) = refl
kernel_accesses_on r (Gather x y z s t) = refl

-- spaces that are the same where there are accesses
abbrev pub SameSpaces : (ℕ → List (ℕ × ℕ)) → (ℕ → List (ℕ × ℕ)) → List Access → Type 0
SameSpaces others space list = (a : Access) → Contains list a → others a.space ≡ space a.space

-- what a kernel computes over them is the same
value_over : (others space : ℕ → List (ℕ × ℕ)) (f : Cells) (k : Kernel) → SameSpaces others space (kernel_accesses k) → kernel_value others f k ≡ kernel_value space f k
value_over others space f (Iota x s value) h = ap (λ z p. wrapped (value + rank z p)) (h (access x s Write) (0, omega arith, refl))
value_over others space f (Axpy x y s factor) h = refl
value_over others space f (Stencil x y b s) h = ap (λ z p. wrapped_sum (f x) (filter (has_point z) (around p))) (h (access x b Read) (0, omega arith, refl))
value_over others space f (Scan x y s) h = ap (λ z p. wrapped_sum (f x) (filter (λ q. nat_le q p) (points z))) (h (access x s Read) (0, omega arith, refl))
value_over others space f (Hist x y s t) h =
    ap (λ z q. count_by (λ p. f x p % space_size (others t) == rank (others t) q) (points z)) (h (access x s Read) (0, omega arith, refl))
    ∙ ap (λ z q. count_by (λ p. f x p % space_size z == rank z q) (points (space s))) (h (access y t Sum) (1, omega arith, refl))
value_over others space f (Dot x y z s t) h = ap (λ w q. wrapped_sum (λ p. f x p * f y p) (points w)) (h (access x s Read) (0, omega arith, refl))
value_over others space f (Expect x s low high) h = refl
value_over others space f (Gather x y z s t) h = ap (λ w p. f y (point_at w (f x p % space_size w))) (h (access y t Read) (1, omega arith, refl))

verdict_over : (others space : ℕ → List (ℕ × ℕ)) (f : Cells) (k : Kernel) → SameSpaces others space (kernel_accesses k) → verdict_on others f k ≡ verdict_on space f k
verdict_over others space f (Expect x s low high) h = ap (λ z. cond (all_within (f x) low high (points z)) Fine Fault) (h (access x s Read) (0, omega arith, refl))
verdict_over others space f k h = refl

-- a kernel on other columns computes what it does where the columns have the cells of those
value_on : (space : ℕ → List (ℕ × ℕ)) (r : ℕ → ℕ) (f : Cells) (k : Kernel) → kernel_value space f (kernel_on r k) ≡ kernel_value space (λ x. f (r x)) k
value_on space r f (Iota x s value) = refl
value_on space r f (Axpy x y s factor) = refl
value_on space r f (Stencil x y b s) = refl
value_on space r f (Scan x y s) = refl
value_on space r f (Hist x y s t) = refl
value_on space r f (Dot x y z s t) = refl
value_on space r f (Expect x s low high) = refl
value_on space r f (Gather x y z s t) = refl

verdict_of : (space : ℕ → List (ℕ × ℕ)) (r : ℕ → ℕ) (f : Cells) (k : Kernel) → verdict_on space f (kernel_on r k) ≡ verdict_on space (λ x. f (r x)) k
verdict_of space r f (Expect x s low high) = refl
verdict_of space r f (Iota x s value) = refl
verdict_of space r f (Axpy x y s factor) = refl
verdict_of space r f (Stencil x y b s) = refl
verdict_of space r f (Scan x y s) = refl
verdict_of space r f (Hist x y s t) = refl
verdict_of space r f (Dot x y z s t) = refl
verdict_of space r f (Gather x y z s t) = refl

target_on : (r : ℕ → ℕ) (k : Kernel) → target (kernel_accesses (kernel_on r k)) ≡ option_map (access_on r) (target (kernel_accesses k))
target_on r (Iota x s value) = refl
target_on r (Axpy x y s factor) = refl
target_on r (Stencil x y b s) = refl
target_on r (Scan x y s) = refl
target_on r (Hist x y s t) = refl
target_on r (Dot x y z s t) = refl
target_on r (Expect x s low high) = refl
target_on r (Gather x y z s t) = refl

target_listed : (list : List Access) (a : Access) → target list ≡ Some a → Contains list a
target_listed [] a e = absurd (none-some a e)
target_listed (b ∷ bs) a e = by_read (is_read b.mode) (target_listed bs a) e
  where
    by_read : (read : Bool) → (target bs ≡ Some a → Contains bs a) → cond read (target bs) (Some b) ≡ Some a → Contains (b ∷ bs) a
    by_read true behind e = contains_there b bs a (behind e)
    by_read false behind e = subst (Contains (b ∷ bs)) (same_Some b a e) (contains_here b bs)

-- CELLS AND CHANGES BY PIECES
module _ (piece : ℕ → ℕ → ℕ) (column : ℕ → ℕ) (cell : (c p : ℕ) → column (piece c p) ≡ c) where
  -- the cells of columns, where these are the cells of pieces
  abbrev pub pulled : Cells → Cells
  pulled cells c p = cells (piece c p) p

  -- a change of the piece that has the cell
  abbrev pub moved : CellChange → CellChange
  moved x = record { column = piece x.column x.point; point = x.point; change = x.change }

  touched : (c p d q : ℕ) → ((piece c p == piece d q) && (p == q)) ≡ ((c == d) && (p == q))
  touched c p d q = by_point (p == q) refl
    where
      by_column : p ≡ q → (piece c p == piece d q) ≡ (c == d)
      by_column same = elim (cases_eq c d) [
        | inl e ↦ eq-eqb (piece c p) (piece d q) (ap (λ x. piece x p) e ∙ ap (piece d) same) ∙ sym (eq-eqb c d e)
        | inr n ↦ ne_eqb (piece c p) (piece d q) (λ e. n (sym (cell c p) ∙ (ap column e ∙ cell d q))) ∙ sym (ne_eqb c d n)
      ]

      by_point : (b : Bool) → (p == q) ≡ b → ((piece c p == piece d q) && b) ≡ ((c == d) && b)
      by_point true e = ap (λ x. x && true) (by_column (eqb-true p q e))
      by_point false e = and_right (piece c p == piece d q) false refl ∙ sym (and_right (c == d) false refl)

  pulled_one : (cells : Cells) (x : CellChange) → pulled (cells_after_one cells (moved x)) ≡ cells_after_one (pulled cells) x
  pulled_one cells x = λ i c p. ap (λ b. cell_after_if b x.change (cells (piece c p) p)) (touched c p x.column x.point) i

  -- the cells after changes that are moved
  pub pulled_after : (cells : Cells) (xs : List CellChange) → pulled (cells_after cells (map moved xs)) ≡ cells_after (pulled cells) xs
  pulled_after cells [] = refl
  pulled_after cells (x ∷ xs) = pulled_after (cells_after_one cells (moved x)) xs ∙ ap (λ z. cells_after z xs) (pulled_one cells x)

  -- changes at points of one piece
  changes_moved : (f g : ℕ → Change) (c d : ℕ) (ps : List ℕ) → ((p : ℕ) → Contains ps p → piece c p ≡ d) → ((p : ℕ) → Contains ps p → f p ≡ g p) →
      changes_at f d ps ≡ map moved (changes_at g c ps)
  changes_moved f g c d [] h e = refl
  changes_moved f g c d (p ∷ ps) h e = same
      (sym (h p (contains_here p ps))) (e p (contains_here p ps))
      (changes_moved f g c d ps (λ q k. h q (contains_there p ps q k)) (λ q k. e q (contains_there p ps q k)))
    where
      same : {d d' : ℕ} {u v : Change} {xs ys : List CellChange} → d ≡ d' → u ≡ v → xs ≡ ys →
          record { column = d; point = p; change = u } ∷ xs ≡ record { column = d'; point = p; change = v } ∷ ys
      same a b e = cc

  -- A LINE ON PIECES
  module _ (r : ℕ → ℕ) (back : (c : ℕ) → column (r c) ≡ c) (others space : ℕ → List (ℕ × ℕ)) where
    -- the points of these accesses lie in the pieces that r gives
    abbrev pub Within : List Access → Type 0
    Within list = (a : Access) (p : ℕ) → Contains list a → has_point (space a.space) p ≡ true → piece a.column p ≡ r a.column

    same_column : (c d : ℕ) → (r c == r d) ≡ (c == d)
    same_column c d = elim (cases_eq c d) [
      | inl e ↦ eq-eqb (r c) (r d) (ap r e) ∙ sym (eq-eqb c d e)
      | inr n ↦ ne_eqb (r c) (r d) (λ e. n (sym (back c) ∙ (ap column e ∙ back d))) ∙ sym (ne_eqb c d n)
    ]

    may_read_on : (list : List Access) (x q : ℕ) → SameSpaces others space list → list_any (may_read others (r x) q) (map (access_on r) list) ≡ list_any (may_read space x q) list
    may_read_on [] x q h = refl
    may_read_on (a ∷ list) x q h =
        ap (λ b. (not (is_reduction a.mode) && (b && has_point (others a.space) q)) || list_any (may_read others (r x) q) (map (access_on r) list)) (same_column a.column x)
        ∙ (ap (λ z. (not (is_reduction a.mode) && ((a.column == x) && has_point z q)) || list_any (may_read others (r x) q) (map (access_on r) list)) (h a (contains_here a list))
        ∙ ap (λ b. may_read space x q a || b) (may_read_on list x q (λ b k. h b (contains_there a list b k))))

    -- what a line sees in its pieces is what it sees in its columns
    seen_on : (list : List Access) (cells : Cells) → SameSpaces others space list → Within list →
        (λ x. seen others (map (access_on r) list) cells (r x)) ≡ seen space list (pulled cells)
    seen_on list cells h w = λ i x q. (ap (λ b. cond b (cells (r x) q) 0) (may_read_on list x q h) ∙ each x q (list_any (may_read space x q) list) refl) i
      where
        each : (x q : ℕ) (b : Bool) → list_any (may_read space x q) list ≡ b → cond b (cells (r x) q) 0 ≡ cond b (cells (piece x q) q) 0
        each x q false e = refl
        each x q true e =
            let s = some_passes (may_read space x q) list e in
            let parts = and_parts (not (is_reduction s.0.mode)) ((s.0.column == x) && has_point (space s.0.space) q) s.2 in
            let at = and_parts (s.0.column == x) (has_point (space s.0.space) q) parts.1 in
            let same : s.0.column ≡ x = eqb-true s.0.column x at.0 in
            ap (λ z. cells z q) (subst (λ z. r z ≡ piece z q) same (sym (w s.0 q s.1 at.1)))

    kernel_seen : (k : Kernel) (cells : Cells) → SameSpaces others space (kernel_accesses k) → Within (kernel_accesses k) →
        (λ x. seen others (kernel_accesses (kernel_on r k)) cells (r x)) ≡ seen space (kernel_accesses k) (pulled cells)
    kernel_seen k cells h w = ap (λ list x. seen others list cells (r x)) (kernel_accesses_on r k) ∙ seen_on (kernel_accesses k) cells h w

    kernel_values : (k : Kernel) (cells : Cells) → SameSpaces others space (kernel_accesses k) → Within (kernel_accesses k) →
        kernel_value others (seen others (kernel_accesses (kernel_on r k)) cells) (kernel_on r k) ≡ kernel_value space (seen space (kernel_accesses k) (pulled cells)) k
    kernel_values k cells h w =
        value_on others r (seen others (kernel_accesses (kernel_on r k)) cells) k
        ∙ (value_over others space (λ x. seen others (kernel_accesses (kernel_on r k)) cells (r x)) k h
        ∙ ap (λ f. kernel_value space f k) (kernel_seen k cells h w))

    verdict_alike : (k : Kernel) (cells : Cells) → SameSpaces others space (kernel_accesses k) → Within (kernel_accesses k) →
        kernel_verdict others cells (kernel_on r k) ≡ kernel_verdict space (pulled cells) k
    verdict_alike k cells h w =
        verdict_of others r (seen others (kernel_accesses (kernel_on r k)) cells) k
        ∙ (verdict_over others space (λ x. seen others (kernel_accesses (kernel_on r k)) cells (r x)) k h
        ∙ ap (λ f. verdict_on space f k) (kernel_seen k cells h w))

    at_points : (list : List Access) (a : Access) → SameSpaces others space list → Within list → Contains list a → (f g : ℕ → Change) → ((p : ℕ) → Contains (points (space a.space)) p → f p ≡ g p) →
        changes_at f (r a.column) (points (others a.space)) ≡ map moved (changes_at g a.column (points (space a.space)))
    at_points list a h w k f g e =
        ap (λ z. changes_at f (r a.column) (points z)) (h a k)
        ∙ changes_moved f g a.column (r a.column) (points (space a.space)) (λ p m. w a p k (listed_point (space a.space) p m)) e

    by_target : (k : Kernel) (cells : Cells) → SameSpaces others space (kernel_accesses k) → Within (kernel_accesses k) → (o : Option Access) → target (kernel_accesses k) ≡ o → (v : ℕ → ℕ) →
        option_map_or (changes_of others v) (option_map (access_on r) o) [] ≡ map moved (option_map_or (changes_of space v) o [])
    by_target k cells h w None e v = refl
    by_target k cells h w (Some a) e v =
        at_points (kernel_accesses k) a h w (target_listed (kernel_accesses k) a e) (λ p. change_by a.mode (v p)) (λ p. change_by a.mode (v p)) (λ p m. refl)

    kernel_moved : (k : Kernel) (cells : Cells) → SameSpaces others space (kernel_accesses k) → Within (kernel_accesses k) →
        kernel_changes others cells (kernel_on r k) ≡ map moved (kernel_changes space (pulled cells) k)
    kernel_moved k cells h w =
        ap (λ v. option_map_or (changes_of others v) (target (kernel_accesses (kernel_on r k))) []) (kernel_values k cells h w)
        ∙ (ap (λ o. option_map_or (changes_of others (kernel_value space (seen space (kernel_accesses k) (pulled cells)) k)) o []) (target_on r k)
        ∙ by_target k cells h w (target (kernel_accesses k)) refl (kernel_value space (seen space (kernel_accesses k) (pulled cells)) k))

    -- the cells of a source at the points of its access
    source_cells : (list : List Access) (cells : Cells) (c s p : ℕ) → Within list → Contains list (access c s Read) → Contains (points (space s)) p → cells (r c) p ≡ pulled cells c p
    source_cells list cells c s p w k m = ap (λ z. cells z p) (sym (w (access c s Read) p k (listed_point (space s) p m)))

    -- the changes of a verb on pieces are those of the verb, moved
    pub changes_on : (cells : Cells) (v : Verb) → SameSpaces others space (verb_accesses v) → Within (verb_accesses v) →
        verb_changes others cells (verb_on r v) ≡ map moved (verb_changes space (pulled cells) v)
    changes_on cells (Fill c s value) h w = at_points (verb_accesses (Fill c s value)) (access c s Write) h w (0, omega arith, refl) (λ p. Set value) (λ p. Set value) (λ p m. refl)
    changes_on cells (Copy c d s) h w =
        let list = verb_accesses (Copy c d s) in
        at_points list (access d s Write) h w (1, omega arith, refl) (λ p. Set (cells (r c) p)) (λ p. Set (pulled cells c p)) (λ p m. ap Set (source_cells list cells c s p w (0, omega arith, refl) m))
    changes_on cells (Reduce op.Sum c d s) h w =
        let list = verb_accesses (Reduce op.Sum c d s) in
        at_points list (access d s Sum) h w (1, omega arith, refl) (λ p. reduced op.Sum (cells (r c) p)) (λ p. reduced op.Sum (pulled cells c p)) (λ p m. ap (reduced op.Sum) (source_cells list cells c s p w (0, omega arith, refl) m))
    changes_on cells (Reduce op.Min c d s) h w =
        let list = verb_accesses (Reduce op.Min c d s) in
        at_points list (access d s Least) h w (1, omega arith, refl) (λ p. reduced op.Min (cells (r c) p)) (λ p. reduced op.Min (pulled cells c p)) (λ p m. ap (reduced op.Min) (source_cells list cells c s p w (0, omega arith, refl) m))
    changes_on cells (Reduce op.Max c d s) h w =
        let list = verb_accesses (Reduce op.Max c d s) in
        at_points list (access d s Most) h w (1, omega arith, refl) (λ p. reduced op.Max (cells (r c) p)) (λ p. reduced op.Max (pulled cells c p)) (λ p m. ap (reduced op.Max) (source_cells list cells c s p w (0, omega arith, refl) m))
    changes_on cells (Task k) h w = kernel_moved k cells h w
    changes_on cells v h w = refl

    pub verdict_alike_on : (cells : Cells) (v : Verb) → SameSpaces others space (verb_accesses v) → Within (verb_accesses v) →
        verb_verdict others cells (verb_on r v) ≡ verb_verdict space (pulled cells) v
    verdict_alike_on cells (Task k) h w = verdict_alike k cells h w
    verdict_alike_on cells v h w = refl
