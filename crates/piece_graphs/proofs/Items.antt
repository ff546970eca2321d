-- The items of the graph of pieces, put in one by one.
use Rattle.std.proofs.Common.{◌≡◌, ℕ, zero, suc, ◌+◌, ◌/◌, ◌%◌, ◌≤◌, Bool, true, false, cond, List, [], ◌∷◌, ◌++◌, length, take, refl, sym, ◌∙◌, ap, subst, append_assoc, append-nil, arith}
use Rattle.std.specs.Prelude.{Option, Some, None, is_some, slice_get, filter, nat_le, IsTrue, IfSome}
use Rattle.std.specs.List.{list_all, AllByRecursion}
use Rattle.std.specs.Char.{is_ascii_lowercase, is_ascii_digit}
use Rattle.std.proofs.lemmas.Bool.{true≢false, and_from, or_left, le-leb}
use Rattle.std.proofs.lemmas.Option.{none-some, same_Some}
use Rattle.std.proofs.lemmas.List.{take_all}
use Rattle.basics.proofs.ListParts.{take_more}
use Rattle.graph_terms.specs.declared.decl.Decl.{Decl}
use Rattle.graph_terms.specs.declared.decl.Decl.TheVariants.{Space, Inst, Data, Lock, Barrier}
use Rattle.graph_terms.specs.declared.format.Format.{Format}
use Rattle.graph_terms.specs.declared.format.Format.TheVariants.{Three}
use Rattle.graph_terms.specs.declared.verb.Line.{Line}
use Rattle.graph_terms.specs.declared.why.Why.{Why}
use Rattle.graph_terms.specs.Name.{is_later_byte, is_first_byte, is_name_in}
use Rattle.graph_terms.specs.Graph.{GraphValue}
use Rattle.graph_terms.specs.Fits.{is_decl_named, IsDecl, DeclsFit, LinesFit, decl_fault, line_fault, with_decl, with_line}
use Rattle.column_pieces.specs.Cut.{line_on, lines_on}
use Rattle.column_pieces.specs.Pieces.{Unions, letter, union_name, union_decls, piece_name, is_kept}
use Rattle.piece_graphs.specs.Items.{of_decls, with_kept}

-- NAMES
letter_is : (n : ℕ) → is_ascii_lowercase (letter n) ≡ true
letter_is n =
    let low : 97 ≤ 97 + n % 16 = omega arith in
    let high : 97 + n % 16 ≤ 122 = omega arith in
    and_from (nat_le 97 (letter n)) (nat_le (letter n) 122) (le-leb 97 (97 + n % 16) low) (le-leb (97 + n % 16) 122 high)

later_is : (n : ℕ) → is_later_byte (letter n) ≡ true
later_is n = or_left (is_first_byte (letter n)) (is_ascii_digit (letter n)) (or_left (is_ascii_lowercase (letter n)) _ (letter_is n))

pub piece_named : (k : ℕ) → is_name_in Three (piece_name k) ≡ true
piece_named k =
    and_from (is_later_byte (letter (k / 4096))) _ (later_is (k / 4096))
    (and_from (is_later_byte (letter (k / 256))) _ (later_is (k / 256))
    (and_from (is_later_byte (letter (k / 16))) _ (later_is (k / 16))
    (and_from (is_later_byte (letter k)) true (later_is k) refl)))

pub union_named : (k : ℕ) → is_name_in Three (union_name k) ≡ true
union_named k =
    and_from (is_later_byte (letter (k / 4096))) _ (later_is (k / 4096))
    (and_from (is_later_byte (letter (k / 256))) _ (later_is (k / 256))
    (and_from (is_later_byte (letter (k / 16))) _ (later_is (k / 16))
    (and_from (is_later_byte (letter k)) true (later_is k) refl)))

-- DECLARATIONS
-- each of them fits after those before it
next_fits : (before ds : List Decl) (d : Decl) (rest : List Decl) → DeclsFit Three before (ds ++ d ∷ rest) → decl_fault (of_decls (before ++ ds)) d ≡ None
next_fits before [] d rest f = subst (λ b. decl_fault (of_decls b) d ≡ None) (sym (append-nil before)) f.1
next_fits before (e ∷ ds) d rest f = subst (λ b. decl_fault (of_decls b) d ≡ None) (append_assoc before (e ∷ []) ds) (next_fits (before ++ e ∷ []) ds d rest f.2)

-- the first of them fit
pub first_fit : (before ds rest : List Decl) → DeclsFit Three before (ds ++ rest) → DeclsFit Three before ds
first_fit before [] rest f = tt
first_fit before (d ∷ ds) rest f = (f.0, f.1, first_fit (before ++ d ∷ []) ds rest f.2, f.3)

-- one that does not fit
pub no_more_fit : (ds : List Decl) (d : Decl) (rest all : List Decl) → all ≡ ds ++ d ∷ rest → (decl_fault (of_decls ds) d ≡ None → ⊥) → DeclsFit Three [] all → ⊥
no_more_fit ds d rest all same unfit f = unfit (next_fits [] ds d rest (subst (DeclsFit Three []) same f))

-- the declarations that are kept
pub kept_unless : (d : Decl) → ((name : List ℕ) (space : ℕ) (fields : List (List ℕ)) → d ≡ Inst name space fields → ⊥) → is_kept d ≡ true
kept_unless (Space name space) other = refl
kept_unless (Inst name space fields) other = absurd (other name space fields refl)
kept_unless (Data name space fields) other = refl
kept_unless (Lock name) other = refl
kept_unless (Barrier name count op first) other = refl

pub kept_more : (ds : List Decl) (k : ℕ) (d : Decl) → slice_get ds k ≡ Some d → (b : Bool) → is_kept d ≡ b → filter is_kept (take (k + 1) ds) ≡ filter is_kept (take k ds) ++ cond b (d ∷ []) []
kept_more ds k d at b e = ap (filter is_kept) (take_more ds k d at) ∙ (pushed (take k ds) ∙ ap (λ c. filter is_kept (take k ds) ++ cond c (d ∷ []) []) e)
  where
    pushed : (xs : List Decl) → filter is_kept (xs ++ d ∷ []) ≡ filter is_kept xs ++ cond (is_kept d) (d ∷ []) []
    pushed [] = refl
    pushed (x ∷ xs) = by (is_kept x) (pushed xs)
      where
        by : (c : Bool) → filter is_kept (xs ++ d ∷ []) ≡ filter is_kept xs ++ cond (is_kept d) (d ∷ []) [] →
            cond c (x ∷ filter is_kept (xs ++ d ∷ [])) (filter is_kept (xs ++ d ∷ [])) ≡ cond c (x ∷ filter is_kept xs) (filter is_kept xs) ++ cond (is_kept d) (d ∷ []) []
        by true again = ap (λ ys. x ∷ ys) again
        by false again = again

-- and those behind the first
pub kept_rest : (ds : List Decl) (k : ℕ) (d : Decl) → slice_get ds k ≡ Some d → is_kept d ≡ true → (rest : List Decl) × (filter is_kept ds ≡ filter is_kept (take k ds) ++ d ∷ rest)
kept_rest [] k d at kept = absurd (none-some d at)
kept_rest (x ∷ xs) zero d at kept = (filter is_kept xs, ap (λ (y : Decl). cond (is_kept y) (y ∷ filter is_kept xs) (filter is_kept xs)) (same_Some x d at) ∙ ap (λ b. cond b (d ∷ filter is_kept xs) (filter is_kept xs)) kept)
kept_rest (x ∷ xs) (suc k) d at kept = by (is_kept x) (kept_rest xs k d at kept)
  where
    by : (c : Bool) → (rest : List Decl) × (filter is_kept xs ≡ filter is_kept (take k xs) ++ d ∷ rest) →
        (rest : List Decl) × (cond c (x ∷ filter is_kept xs) (filter is_kept xs) ≡ cond c (x ∷ filter is_kept (take k xs)) (filter is_kept (take k xs)) ++ d ∷ rest)
    by true again = (again.0, ap (λ ys. x ∷ ys) again.1)
    by false again = again

pub kept_step : (cut new : GraphValue) (ds : List Decl) (k : ℕ) (d : Decl) → slice_get ds k ≡ Some d → cut ≡ of_decls (filter is_kept (take k ds)) → new ≡ with_kept cut d → new ≡ of_decls (filter is_kept (take (k + 1) ds))
kept_step cut new ds k d at is added = added ∙ (ap (λ x. with_kept x d) is ∙ ap of_decls (sym (kept_more ds k d at (is_kept d) refl)))

pub kept_unfit : (cut : GraphValue) (ds : List Decl) (k : ℕ) (d : Decl) → slice_get ds k ≡ Some d → cut ≡ of_decls (filter is_kept (take k ds)) → (is_kept d ≡ true) × (decl_fault cut d ≡ None → ⊥) → DeclsFit Three [] (filter is_kept ds) → ⊥
kept_unfit cut ds k d at is refused =
    let r = kept_rest ds k d at refused.0 in
    no_more_fit (filter is_kept (take k ds)) d r.0 (filter is_kept ds) r.1 (λ e. refused.1 (ap (λ x. decl_fault x d) is ∙ e))

split_at : {X : Type 0} (xs : List X) (k : ℕ) (x : X) → slice_get xs k ≡ Some x → (rest : List X) × (xs ≡ take k xs ++ x ∷ rest)
split_at [] k x at = absurd (none-some x at)
split_at (y ∷ ys) zero x at = (ys, ap (λ z. z ∷ ys) (same_Some y x at))
split_at (y ∷ ys) (suc k) x at = let r = split_at ys k x at in (r.0, ap (λ zs. y ∷ zs) r.1)

-- one more declaration of a list
items_step : (cut new : GraphValue) (ds es : List Decl) (k : ℕ) (d e : Decl) → slice_get es k ≡ Some d → cut ≡ of_decls (ds ++ take k es) → e ≡ d → new ≡ with_decl cut e → new ≡ of_decls (ds ++ take (k + 1) es)
items_step cut new ds es k d e at is same added =
    added ∙ (ap (λ y. with_decl y e) is ∙ (ap (with_decl (of_decls (ds ++ take k es))) same
    ∙ ap of_decls (append_assoc ds (take k es) (d ∷ []) ∙ ap (λ ys. ds ++ ys) (sym (take_more es k d at)))))

items_unfit : (cut : GraphValue) (ds es : List Decl) (k : ℕ) (d e : Decl) → slice_get es k ≡ Some d → cut ≡ of_decls (ds ++ take k es) → e ≡ d → (decl_fault cut e ≡ None → ⊥) → DeclsFit Three [] (ds ++ es) → ⊥
items_unfit cut ds es k d e at is same refused =
    let r = split_at es k d at in
    no_more_fit (ds ++ take k es) d r.0 (ds ++ es) (ap (λ ys. ds ++ ys) r.1 ∙ sym (append_assoc ds (take k es) (d ∷ r.0)))
    (λ n. refused (ap (λ y. decl_fault y e) is ∙ (ap (decl_fault (of_decls (ds ++ take k es))) same ∙ n)))

-- the declarations of unions
unions_length : (n : ℕ) (us : Unions) → length (union_decls n us) ≡ length us
unions_length n [] = refl
unions_length n (u ∷ us) = ap suc (unions_length (n + 1) us)

unions_got : (n : ℕ) (us : Unions) (k : ℕ) (t : List (ℕ × ℕ)) → slice_get us k ≡ Some t → slice_get (union_decls n us) k ≡ Some (Space (union_name (n + k)) t)
unions_got n [] k t at = absurd (none-some t at)
unions_got n (u ∷ us) zero t at =
    let same : n ≡ n + zero = omega arith in
    subst (λ m. Some (Space (union_name n) u) ≡ Some (Space (union_name m) t)) same (ap (λ v. Some (Space (union_name n) v)) (same_Some u t at))
unions_got n (u ∷ us) (suc k) t at =
    let same : n + 1 + k ≡ n + suc k = omega arith in
    subst (λ m. slice_get (union_decls (n + 1) us) k ≡ Some (Space (union_name m) t)) same (unions_got (n + 1) us k t at)

union_at : (us : Unions) (k : ℕ) (t : List (ℕ × ℕ)) → slice_get us k ≡ Some t → slice_get (union_decls 0 us) k ≡ Some (Space (union_name k) t)
union_at us k t at =
    let same : 0 + k ≡ k = omega arith in
    subst (λ m. slice_get (union_decls 0 us) k ≡ Some (Space (union_name m) t)) same (unions_got 0 us k t at)

pub unions_all : (ds : List Decl) (us : Unions) (k : ℕ) → length us ≤ k → ds ++ take k (union_decls 0 us) ≡ ds ++ union_decls 0 us
unions_all ds us k all =
    let size : length (union_decls 0 us) ≡ length us = unions_length 0 us in
    let enough : length (union_decls 0 us) ≤ k = omega (arith, size, all) in
    ap (λ ys. ds ++ ys) (take_all k (union_decls 0 us) enough)

pub union_next : (cut new : GraphValue) (ds : List Decl) (us : Unions) (k : ℕ) (t : List (ℕ × ℕ)) (e : Decl) → slice_get us k ≡ Some t → cut ≡ of_decls (ds ++ take k (union_decls 0 us)) → e ≡ Space (union_name k) t → new ≡ with_decl cut e →
    new ≡ of_decls (ds ++ take (k + 1) (union_decls 0 us))
union_next cut new ds us k t e at = items_step cut new ds (union_decls 0 us) k (Space (union_name k) t) e (union_at us k t at)

pub union_refused : (cut : GraphValue) (ds : List Decl) (us : Unions) (k : ℕ) (t : List (ℕ × ℕ)) (e : Decl) → slice_get us k ≡ Some t → cut ≡ of_decls (ds ++ take k (union_decls 0 us)) → e ≡ Space (union_name k) t → (decl_fault cut e ≡ None → ⊥) →
    DeclsFit Three [] (ds ++ union_decls 0 us) → ⊥
union_refused cut ds us k t e at = items_unfit cut ds (union_decls 0 us) k (Space (union_name k) t) e (union_at us k t at)

-- names that are names in format 3
all_named : (fields : List (List ℕ)) → AllByRecursion (λ f. IsTrue (is_name_in Three f)) fields → list_all (is_name_in Three) fields ≡ true
all_named [] h = refl
all_named (f ∷ fs) h = and_from (is_name_in Three f) (list_all (is_name_in Three) fs) h.0 (all_named fs h.1)

pub decl_named : (fm : Format) (d : Decl) → fm ≡ Three → IsDecl d → is_decl_named fm d ≡ true
decl_named fm d three is = ap (λ f. is_decl_named f d) three ∙ by d is
  where
    by : (d : Decl) → IsDecl d → is_decl_named Three d ≡ true
    by (Space name space) is = is.0
    by (Inst name space fields) is = and_from (is_name_in Three name) (list_all (is_name_in Three) fields) is.0 (all_named fields is.2)
    by (Data name space fields) is = and_from (is_name_in Three name) (list_all (is_name_in Three) fields) is.0 (all_named fields is.2)
    by (Lock name) is = is
    by (Barrier name count op first) is = is.0

-- LINES
module _ (named : ℕ → ℕ → ℕ) where
  lines_length : (n : ℕ) (ls : List Line) → length (lines_on named n ls) ≡ length ls
  lines_length n [] = refl
  lines_length n (l ∷ ls) = ap suc (lines_length (n + 1) ls)

  lines_got : (n : ℕ) (ls : List Line) (k : ℕ) (l : Line) → slice_get ls k ≡ Some l → slice_get (lines_on named n ls) k ≡ Some (line_on (named (n + k)) l)
  lines_got n [] k l at = absurd (none-some l at)
  lines_got n (x ∷ xs) zero l at =
      let same : n ≡ n + zero = omega arith in
      subst (λ m. Some (line_on (named n) x) ≡ Some (line_on (named m) l)) same (ap (λ y. Some (line_on (named n) y)) (same_Some x l at))
  lines_got n (x ∷ xs) (suc k) l at =
      let same : n + 1 + k ≡ n + suc k = omega arith in
      subst (λ m. slice_get (lines_on named (n + 1) xs) k ≡ Some (line_on (named m) l)) same (lines_got (n + 1) xs k l at)

  line_at : (ls : List Line) (k : ℕ) (l : Line) → slice_get ls k ≡ Some l → slice_get (lines_on named 0 ls) k ≡ Some (line_on (named k) l)
  line_at ls k l at =
      let same : 0 + k ≡ k = omega arith in
      subst (λ m. slice_get (lines_on named 0 ls) k ≡ Some (line_on (named m) l)) same (lines_got 0 ls k l at)

  pub lines_more : (ls : List Line) (k : ℕ) (l : Line) → slice_get ls k ≡ Some l → take (k + 1) (lines_on named 0 ls) ≡ take k (lines_on named 0 ls) ++ line_on (named k) l ∷ []
  lines_more ls k l at = take_more (lines_on named 0 ls) k (line_on (named k) l) (line_at ls k l at)

  pub lines_all : (ls : List Line) (k : ℕ) → length ls ≤ k → take k (lines_on named 0 ls) ≡ lines_on named 0 ls
  lines_all ls k all =
      let size : length (lines_on named 0 ls) ≡ length ls = lines_length 0 ls in
      let enough : length (lines_on named 0 ls) ≤ k = omega (arith, size, all) in
      take_all k (lines_on named 0 ls) enough

  -- a line that does not fit
  line_unfit : (ds : List Decl) (ls : List Line) (k : ℕ) (l : Line) → slice_get ls k ≡ Some l → (line_fault (record { format = Three; decls = ds; lines = take k (lines_on named 0 ls) }) (line_on (named k) l) ≡ None → ⊥) →
      LinesFit Three ds [] (lines_on named 0 ls) → ⊥
  line_unfit ds ls k l at unfit f = unfit (fits_at ds [] (lines_on named 0 ls) f k (line_on (named k) l) (line_at ls k l at))
    where
      fits_at : (decls : List Decl) (before ls : List Line) → LinesFit Three decls before ls → (k : ℕ) (l : Line) → slice_get ls k ≡ Some l →
          line_fault (record { format = Three; decls = decls; lines = before ++ take k ls }) l ≡ None
      fits_at decls before [] f k l at = absurd (none-some l at)
      fits_at decls before (x ∷ xs) f zero l at =
          subst (λ b. line_fault (record { format = Three; decls = decls; lines = b }) l ≡ None) (sym (append-nil before))
          (subst (λ y. line_fault (record { format = Three; decls = decls; lines = before }) y ≡ None) (same_Some x l at) f.1)
      fits_at decls before (x ∷ xs) f (suc k) l at =
          subst (λ b. line_fault (record { format = Three; decls = decls; lines = b }) l ≡ None) (append_assoc before (x ∷ []) (take k xs))
          (fits_at decls (before ++ x ∷ []) xs f.2 k l at)

  abbrev pub so_far : List Decl → List Line → ℕ → GraphValue
  so_far ds ls k = record { format = Three; decls = ds; lines = take k (lines_on named 0 ls) }

  pub line_step : (cut new : GraphValue) (ds : List Decl) (ls : List Line) (k : ℕ) (l line : Line) → slice_get ls k ≡ Some l → cut ≡ so_far ds ls k → line ≡ line_on (named k) l → new ≡ with_line cut line → new ≡ so_far ds ls (k + 1)
  line_step cut new ds ls k l line at is same added =
      added ∙ (ap (λ x. with_line x line) is ∙ (ap (with_line (so_far ds ls k)) same
      ∙ ap (λ (x : List Line). record { format = Three; decls = ds; lines = x }) (sym (lines_more ls k l at))))

  pub line_refused : (cut : GraphValue) (ds : List Decl) (ls : List Line) (k : ℕ) (l line : Line) (o : Option Why) → slice_get ls k ≡ Some l → cut ≡ so_far ds ls k → line ≡ line_on (named k) l → o ≡ line_fault cut line → is_some o ≡ true →
      LinesFit Three ds [] (lines_on named 0 ls) → ⊥
  line_refused cut ds ls k l line o at is same told some = line_unfit ds ls k l at (λ none. true≢false (sym some ∙ ap is_some (told ∙ (ap (λ x. line_fault x line) is ∙ (ap (line_fault (so_far ds ls k)) same ∙ none)))))

pub some_holds : {X : Type 0} (P : X → Type 0) (o : Option X) (x : X) → IfSome o P → o ≡ Some x → P x
some_holds P None x h e = absurd (none-some x e)
some_holds P (Some y) x h e = subst P (same_Some y x e) h

pub none_is : {X : Type 0} (o : Option X) → is_some o ≡ false → o ≡ None
none_is None e = refl
none_is (Some x) e = absurd (true≢false e)
