-- The names of a graph: each stands once, and is found again by its word.
use Rattle.std.proofs.Common.{◌≡◌, ℕ, zero, suc, ◌<◌, Bool, true, false, ◌&&◌, ◌||◌, List, [], ◌∷◌, ◌++◌, length, map, refl, sym, ◌∙◌, ap, subst, append_assoc, append-nil, arith}
use Rattle.std.specs.Prelude.{Contains, Option, Some, None, position, bytes_eq, filter_map, flat_map, slice_get, unwrap_or}
use Rattle.std.specs.List.{list_any, list_all, AllByRecursion, cons_option}
use Rattle.std.proofs.lemmas.Bool.{or_parts, or_from, and_left, and_right, and_parts}
use Rattle.std.proofs.lemmas.Option.{none-some, same_Some}
use Rattle.std.proofs.lemmas.List.{map-append}
use Rattle.std.proofs.lemmas.List.Elements.{Contains-append_left, Contains-append_right}
use Rattle.graph_terms.specs.declared.format.Format.{Format}
use Rattle.graph_terms.specs.declared.decl.Decl.{Decl}
use Rattle.graph_terms.specs.declared.decl.Decl.TheVariants as decl
use Rattle.graph_terms.specs.declared.verb.Line.{Line}
use Rattle.graph_terms.specs.Name.{is_name_in}
use Rattle.graph_terms.specs.declared.decl.ColumnInfo.{ColumnInfo}
use Rattle.graph_terms.specs.declared.decl.BarrierInfo.{BarrierInfo}
use Rattle.graph_terms.specs.Graph.{GraphValue, decl_name, space_of, lock_of, barrier_of, named_spaces, locks, barriers}
use Rattle.graph_terms.specs.Fits.{repeats, names, is_used, decl_repeats, decl_tests, line_tests, DeclsFit, LinesFit}
use Rattle.basics.proofs.ListFacts.{passes_some, contains_map, contains_here, contains_there}
use Rattle.graph_words.proofs.Public.{each_fails, found_of, repeats_left, repeats_right, repeats_append, repeats_map, repeats_push}
use Rattle.word_meanings.specs.Lookups.{own_columns, kept_columns}
use Rattle.word_meanings.specs.Names.{IsNamed, IsNamedDecl}
use Rattle.word_meanings.proofs.WordFacts.{names_each}
use Rattle.basics.proofs.TestedLists.{same_bytes, bytes_same, any_left, any_append, each_contained, each_append, found_is, mapped_from}
use Rattle.word_meanings.specs.Laws.{GraphsAreNamed}

abbrev pub line_names : List Line → List (List ℕ)
line_names ls = map (λ (l : Line). l.name) ls

named_decls : (fm : Format) (before ds : List Decl) → repeats bytes_eq (map decl_name before) ≡ false → DeclsFit fm before ds →
    (repeats bytes_eq (map decl_name (before ++ ds)) ≡ false) × AllByRecursion (IsNamedDecl fm) ds
named_decls fm before [] r f = (subst (λ xs. repeats bytes_eq (map decl_name xs) ≡ false) (sym (append-nil before)) r, tt)
named_decls fm before (d ∷ ds) r f =
    let t = each_fails (decl_tests (record { format = fm; decls = before; lines = [] }) d) f.1 in
    let u = or_parts (list_any (bytes_eq (decl_name d)) (map decl_name before ++ [])) (decl_repeats d) t.0 in
    let more : repeats bytes_eq (map decl_name (before ++ d ∷ [])) ≡ false = ap (repeats bytes_eq) (map-append decl_name before (d ∷ [])) ∙ repeats_push (map decl_name before) (decl_name d) r (any_left (bytes_eq (decl_name d)) (map decl_name before) [] u.0) in
    let rest = named_decls fm (before ++ d ∷ []) ds more f.2 in
    (subst (λ xs. repeats bytes_eq (map decl_name xs) ≡ false) (append_assoc before (d ∷ []) ds) rest.0, ((f.3, u.1), rest.1))

named_lines : (fm : Format) (decls : List Decl) (before ls : List Line) → repeats bytes_eq (map decl_name decls ++ line_names before) ≡ false → LinesFit fm decls before ls →
    (repeats bytes_eq (map decl_name decls ++ line_names (before ++ ls)) ≡ false) × AllByRecursion (λ (l : Line). is_name_in fm l.name ≡ true) ls
named_lines fm decls before [] r f = (subst (λ xs. repeats bytes_eq (map decl_name decls ++ line_names xs) ≡ false) (sym (append-nil before)) r, tt)
named_lines fm decls before (l ∷ ls) r f =
    let t = each_fails (line_tests (record { format = fm; decls = decls; lines = before }) l) f.1 in
    let u = or_parts (list_any (bytes_eq l.name) (map decl_name decls ++ line_names before)) _ t.0 in
    let joined : map decl_name decls ++ line_names (before ++ l ∷ []) ≡ (map decl_name decls ++ line_names before) ++ l.name ∷ [] =
    ap (λ xs. map decl_name decls ++ xs) (map-append (λ (x : Line). x.name) before (l ∷ [])) ∙ sym (append_assoc (map decl_name decls) (line_names before) (l.name ∷ [])) in
    let more : repeats bytes_eq (map decl_name decls ++ line_names (before ++ l ∷ [])) ≡ false = ap (repeats bytes_eq) joined ∙ repeats_push (map decl_name decls ++ line_names before) l.name r u.0 in
    let rest = named_lines fm decls (before ++ l ∷ []) ls more f.2 in
    (subst (λ xs. repeats bytes_eq (map decl_name decls ++ line_names xs) ≡ false) (append_assoc before (l ∷ []) ls) rest.0, (f.3, rest.1))

-- the names of a graph whose items fit
pub is_named : GraphsAreNamed
is_named g f =
    let d = named_decls g.format [] g.decls refl f.decls in
    let l = named_lines g.format g.decls [] g.lines (subst (λ xs. repeats bytes_eq xs ≡ false) (sym (append-nil (map decl_name g.decls))) d.0) f.lines in
    record { apart = l.0; decls = d.1; lines = l.1 }

-- the names of one kind
unlisted_by : {X Y : Type 0} (name : X → List ℕ) (f : X → Option Y) (key : Y → List ℕ) (w : List ℕ) (x : X) (xs : List X) (o : Option Y) → f x ≡ o → ((y : Y) → f x ≡ Some y → key y ≡ name x) → bytes_eq w (name x) ≡ false →
    list_any (λ y. bytes_eq w (key y)) (filter_map f xs) ≡ false → list_any (λ y. bytes_eq w (key y)) (cons_option o (filter_map f xs)) ≡ false
unlisted_by name f key w x xs None e agree here rest = rest
unlisted_by name f key w x xs (Some y) e agree here rest = or_from (bytes_eq w (key y)) (list_any (λ z. bytes_eq w (key z)) (filter_map f xs)) (ap (bytes_eq w) (agree y e) ∙ here) rest

pub unlisted : {X Y : Type 0} (name : X → List ℕ) (f : X → Option Y) (key : Y → List ℕ) → ((x : X) (y : Y) → f x ≡ Some y → key y ≡ name x) → (w : List ℕ) (xs : List X) → list_any (bytes_eq w) (map name xs) ≡ false →
    list_any (λ y. bytes_eq w (key y)) (filter_map f xs) ≡ false
unlisted name f key agree w [] h = refl
unlisted name f key agree w (x ∷ xs) h = let p = or_parts (bytes_eq w (name x)) (list_any (bytes_eq w) (map name xs)) h in
    unlisted_by name f key w x xs (f x) refl (agree x) p.0 (unlisted name f key agree w xs p.1)

apart_by : {X Y : Type 0} (name : X → List ℕ) (f : X → Option Y) (key : Y → List ℕ) → ((x : X) (y : Y) → f x ≡ Some y → key y ≡ name x) → (x : X) (xs : List X) (o : Option Y) → f x ≡ o → list_any (bytes_eq (name x)) (map name xs) ≡ false →
    repeats (λ a b. bytes_eq (key a) (key b)) (filter_map f xs) ≡ false → repeats (λ a b. bytes_eq (key a) (key b)) (cons_option o (filter_map f xs)) ≡ false
apart_by name f key agree x xs None e here rest = rest
apart_by name f key agree x xs (Some y) e here rest =
    or_from (list_any (λ b. bytes_eq (key y) (key b)) (filter_map f xs)) (repeats (λ a b. bytes_eq (key a) (key b)) (filter_map f xs))
    (subst (λ w. list_any (λ b. bytes_eq w (key b)) (filter_map f xs) ≡ false) (sym (agree x y e)) (unlisted name f key agree (name x) xs here)) rest

apart_map : {X Y : Type 0} (name : X → List ℕ) (f : X → Option Y) (key : Y → List ℕ) → ((x : X) (y : Y) → f x ≡ Some y → key y ≡ name x) → (xs : List X) → repeats bytes_eq (map name xs) ≡ false →
    repeats (λ a b. bytes_eq (key a) (key b)) (filter_map f xs) ≡ false
apart_map name f key agree [] h = refl
apart_map name f key agree (x ∷ xs) h = let p = or_parts (list_any (bytes_eq (name x)) (map name xs)) (repeats bytes_eq (map name xs)) h in
    apart_by name f key agree x xs (f x) refl p.0 (apart_map name f key agree xs p.1)

pub decls_apart : (g : GraphValue) → IsNamed g → repeats bytes_eq (map decl_name g.decls) ≡ false
decls_apart g n = repeats_left bytes_eq (map decl_name g.decls) (line_names g.lines) n.apart

-- what a word of one kind has: its element, whose name is spelled as a name and is in use
abbrev pub KnownAs : {X : Type 0} → GraphValue → (X → List ℕ) → List X → ℕ → Type 0
KnownAs {X} g key xs n = (x : X) × (slice_get xs n ≡ Some x) × (is_name_in g.format (key x) ≡ true) × (is_used g (key x) ≡ true)

element : {X : Type 0} (xs : List X) (n : ℕ) → n < length xs → (x : X) × (slice_get xs n ≡ Some x)
element [] n h = absurd (omega arith)
element (x ∷ xs) zero h = (x, refl)
element (x ∷ xs) (suc n) h = element xs n (omega arith)

pub used_decl : (g : GraphValue) (d : Decl) (w : List ℕ) → Contains g.decls d → w ≡ decl_name d → is_used g w ≡ true
used_decl g d w c e = passes_some (bytes_eq w) (names g) (decl_name d) (Contains-append_left (map decl_name g.decls) (line_names g.lines) (decl_name d) (contains_map decl_name g.decls d c)) (bytes_same w (decl_name d) e)

-- a name stands for its number, and a word that is listed for the number of its name
pub read_name : {X : Type 0} (key : X → List ℕ) (xs : List X) (n : ℕ) (x : X) → repeats (λ a b. bytes_eq (key a) (key b)) xs ≡ false → slice_get xs n ≡ Some x →
    unwrap_or (position (λ y. bytes_eq (key y) (key x)) xs) 0 ≡ n
read_name key xs n x r e = found_of (λ a b. bytes_eq (key a) (key b)) xs n x r e (bytes_same (key x) (key x) refl)

pub spelled_name : {X : Type 0} (key : X → List ℕ) (xs : List X) (w : List ℕ) → list_any (λ y. bytes_eq (key y) w) xs ≡ true →
    (x : X) × (slice_get xs (unwrap_or (position (λ y. bytes_eq (key y) w) xs) 0) ≡ Some x) × (key x ≡ w)
spelled_name key xs w h = let f = found_is (λ y. bytes_eq (key y) w) xs h in (f.0, f.1, same_bytes (key f.0) w f.2)

pub listed_name : {X : Type 0} (key : X → List ℕ) (xs : List X) (n : ℕ) (x : X) → slice_get xs n ≡ Some x → list_any (λ y. bytes_eq (key y) (key x)) xs ≡ true
listed_name key [] n x e = absurd (none-some x e)
listed_name key (y ∷ ys) zero x e = ap (λ b. b || list_any (λ z. bytes_eq (key z) (key x)) ys) (bytes_same (key y) (key x) (ap key (same_Some y x e)))
listed_name key (y ∷ ys) (suc n) x e = ap (λ b. bytes_eq (key y) (key x) || b) (listed_name key ys n x e) ∙ or_true (bytes_eq (key y) (key x))
  where
    or_true : (b : Bool) → (b || true) ≡ true
    or_true true = refl
    or_true false = refl

-- spaces
pub space_agrees : (d : Decl) (y : List ℕ × List (ℕ × ℕ)) → space_of d ≡ Some y → y.0 ≡ decl_name d
space_agrees (decl.Space name space) y e = ap (λ (x : List ℕ × List (ℕ × ℕ)). x.0) (sym (same_Some (name, space) y e))
space_agrees (decl.Inst name space fields) y e = absurd (none-some y e)
space_agrees (decl.Data name space fields) y e = absurd (none-some y e)
space_agrees (decl.Lock name) y e = absurd (none-some y e)
space_agrees (decl.Barrier name count op first) y e = absurd (none-some y e)

pub named_is : (fm : Format) (d : Decl) → IsNamedDecl fm d → is_name_in fm (decl_name d) ≡ true
named_is fm (decl.Space name space) h = h.0
named_is fm (decl.Inst name space fields) h = (and_parts (is_name_in fm name) (list_all (is_name_in fm) fields) h.0).0
named_is fm (decl.Data name space fields) h = (and_parts (is_name_in fm name) (list_all (is_name_in fm) fields) h.0).0
named_is fm (decl.Lock name) h = h.0
named_is fm (decl.Barrier name count op first) h = h.0

pub spaces_apart : (g : GraphValue) → IsNamed g → repeats (λ (a b : List ℕ × List (ℕ × ℕ)). bytes_eq a.0 b.0) (named_spaces g) ≡ false
spaces_apart g n = apart_map decl_name space_of (λ (x : List ℕ × List (ℕ × ℕ)). x.0) space_agrees g.decls (decls_apart g n)

pub known_space : (g : GraphValue) → IsNamed g → (n : ℕ) → n < length (named_spaces g) → KnownAs g (λ (x : List ℕ × List (ℕ × ℕ)). x.0) (named_spaces g) n
known_space g h n l =
    let x = element (named_spaces g) n l in
    let m = mapped_from (IsNamedDecl g.format) space_of g.decls h.decls n x.0 x.1 in
    let e : x.0.0 ≡ decl_name m.0 = space_agrees m.0 x.0 m.2 in
    (x.0, x.1, ap (is_name_in g.format) e ∙ named_is g.format m.0 m.1, used_decl g m.0 x.0.0 m.3 e)

-- reservations
pub lock_agrees : (d : Decl) (y : List ℕ) → lock_of d ≡ Some y → y ≡ decl_name d
lock_agrees (decl.Lock name) y e = sym (same_Some name y e)
lock_agrees (decl.Space name space) y e = absurd (none-some y e)
lock_agrees (decl.Inst name space fields) y e = absurd (none-some y e)
lock_agrees (decl.Data name space fields) y e = absurd (none-some y e)
lock_agrees (decl.Barrier name count op first) y e = absurd (none-some y e)

pub locks_apart : (g : GraphValue) → IsNamed g → repeats (λ (a b : List ℕ). bytes_eq a b) (locks g) ≡ false
locks_apart g n = apart_map decl_name lock_of (λ (x : List ℕ). x) lock_agrees g.decls (decls_apart g n)

pub known_lock : (g : GraphValue) → IsNamed g → (n : ℕ) → n < length (locks g) → KnownAs g (λ (x : List ℕ). x) (locks g) n
known_lock g h n l =
    let x = element (locks g) n l in
    let m = mapped_from (IsNamedDecl g.format) lock_of g.decls h.decls n x.0 x.1 in
    let e : x.0 ≡ decl_name m.0 = lock_agrees m.0 x.0 m.2 in
    (x.0, x.1, ap (is_name_in g.format) e ∙ named_is g.format m.0 m.1, used_decl g m.0 x.0 m.3 e)

-- barriers
pub barrier_agrees : (d : Decl) (y : BarrierInfo) → barrier_of d ≡ Some y → y.name ≡ decl_name d
barrier_agrees (decl.Barrier name count op first) y e = ap (λ (x : BarrierInfo). x.name) (sym (same_Some (record { name = name; count = count; op = op; first = first }) y e))
barrier_agrees (decl.Lock name) y e = absurd (none-some y e)
barrier_agrees (decl.Space name space) y e = absurd (none-some y e)
barrier_agrees (decl.Inst name space fields) y e = absurd (none-some y e)
barrier_agrees (decl.Data name space fields) y e = absurd (none-some y e)

pub barriers_apart : (g : GraphValue) → IsNamed g → repeats (λ (a b : BarrierInfo). bytes_eq a.name b.name) (barriers g) ≡ false
barriers_apart g n = apart_map decl_name barrier_of (λ (x : BarrierInfo). x.name) barrier_agrees g.decls (decls_apart g n)

pub known_barrier : (g : GraphValue) → IsNamed g → (n : ℕ) → n < length (barriers g) → KnownAs g (λ (x : BarrierInfo). x.name) (barriers g) n
known_barrier g h n l =
    let x = element (barriers g) n l in
    let m = mapped_from (IsNamedDecl g.format) barrier_of g.decls h.decls n x.0 x.1 in
    let e : x.0.name ≡ decl_name m.0 = barrier_agrees m.0 x.0 m.2 in
    (x.0, x.1, ap (is_name_in g.format) e ∙ named_is g.format m.0 m.1, used_decl g m.0 x.0.name m.3 e)

-- lines
pub lines_apart : (g : GraphValue) → IsNamed g → repeats (λ (a b : Line). bytes_eq a.name b.name) g.lines ≡ false
lines_apart g n = sym (repeats_map bytes_eq (λ (l : Line). l.name) g.lines) ∙ repeats_right bytes_eq (map decl_name g.decls) (line_names g.lines) n.apart

line_contained : (ls : List Line) (n : ℕ) (x : Line) → slice_get ls n ≡ Some x → Contains ls x
line_contained [] n x e = absurd (none-some x e)
line_contained (l ∷ ls) zero x e = subst (λ y. Contains (l ∷ ls) y) (same_Some l x e) (contains_here l ls)
line_contained (l ∷ ls) (suc n) x e = let c = line_contained ls n x e in (suc c.0, (let h : c.0 < length ls = c.1 in omega arith), c.2)

pub known_line_at : (g : GraphValue) → IsNamed g → (n : ℕ) (x : Line) → slice_get g.lines n ≡ Some x → (is_name_in g.format x.name ≡ true) × (is_used g x.name ≡ true)
known_line_at g h n x e = (
  each_contained (λ (l : Line). is_name_in g.format l.name ≡ true) g.lines h.lines n x e,
  passes_some (bytes_eq x.name) (names g) x.name (Contains-append_right (map decl_name g.decls) (line_names g.lines) x.name (contains_map (λ (l : Line). l.name) g.lines x (line_contained g.lines n x e))) (bytes_same x.name x.name refl),
)

pub known_line : (g : GraphValue) → IsNamed g → (n : ℕ) → n < length g.lines → KnownAs g (λ (x : Line). x.name) g.lines n
known_line g h n l = let x = element g.lines n l in let k = known_line_at g h n x.0 x.1 in (x.0, x.1, k.0, k.1)

-- columns
abbrev pub same_column : ColumnInfo → ColumnInfo → Bool
same_column a b = bytes_eq a.inst b.inst && bytes_eq a.field b.field

abbrev column_of : List ℕ → ℕ → List ℕ → ColumnInfo
column_of name space f = record { inst = name; field = f; space = space }

fields_unlisted : (w f name : List ℕ) (space : ℕ) (fields : List (List ℕ)) → bytes_eq w name ≡ false → list_any (λ (y : ColumnInfo). bytes_eq w y.inst && bytes_eq f y.field) (map (column_of name space) fields) ≡ false
fields_unlisted w f name space [] h = refl
fields_unlisted w f name space (e ∷ es) h = or_from (bytes_eq w name && bytes_eq f e) _ (and_left (bytes_eq w name) (bytes_eq f e) h) (fields_unlisted w f name space es h)

decl_unlisted : (w f : List ℕ) (hosted : Bool) (d : Decl) → bytes_eq w (decl_name d) ≡ false → list_any (λ (y : ColumnInfo). bytes_eq w y.inst && bytes_eq f y.field) (own_columns hosted d) ≡ false
decl_unlisted w f false (decl.Inst name space fields) h = fields_unlisted w f name space fields h
decl_unlisted w f true (decl.Data name space fields) h = fields_unlisted w f name space fields h
decl_unlisted w f false d h = refl
decl_unlisted w f true d h = refl

columns_unlisted : (w f : List ℕ) (hosted : Bool) (ds : List Decl) → list_any (bytes_eq w) (map decl_name ds) ≡ false → list_any (λ (y : ColumnInfo). bytes_eq w y.inst && bytes_eq f y.field) (flat_map (own_columns hosted) ds) ≡ false
columns_unlisted w f hosted [] h = refl
columns_unlisted w f hosted (d ∷ ds) h = let p = or_parts (bytes_eq w (decl_name d)) (list_any (bytes_eq w) (map decl_name ds)) h in
    any_append (λ (y : ColumnInfo). bytes_eq w y.inst && bytes_eq f y.field) (own_columns hosted d) (flat_map (own_columns hosted) ds) (decl_unlisted w f hosted d p.0) (columns_unlisted w f hosted ds p.1)

field_apart : (name : List ℕ) (space : ℕ) (f : List ℕ) (fs : List (List ℕ)) → list_any (bytes_eq f) fs ≡ false → list_any (same_column (column_of name space f)) (map (column_of name space) fs) ≡ false
field_apart name space f [] h = refl
field_apart name space f (e ∷ es) h = let p = or_parts (bytes_eq f e) (list_any (bytes_eq f) es) h in
    or_from (bytes_eq name name && bytes_eq f e) _ (and_right (bytes_eq name name) (bytes_eq f e) p.0) (field_apart name space f es p.1)

fields_apart : (name : List ℕ) (space : ℕ) (fields : List (List ℕ)) → repeats bytes_eq fields ≡ false → repeats same_column (map (column_of name space) fields) ≡ false
fields_apart name space [] h = refl
fields_apart name space (f ∷ fs) h = let p = or_parts (list_any (bytes_eq f) fs) (repeats bytes_eq fs) h in
    or_from (list_any (same_column (column_of name space f)) (map (column_of name space) fs)) _ (field_apart name space f fs p.0) (fields_apart name space fs p.1)

each_field : (P : ColumnInfo → Type 0) (name : List ℕ) (space : ℕ) (fields : List (List ℕ)) → ((f : List ℕ) → P (column_of name space f)) → AllByRecursion P (map (column_of name space) fields)
each_field P name space [] h = tt
each_field P name space (f ∷ fs) h = (h f, each_field P name space fs h)

decl_columns_apart : (fm : Format) (hosted : Bool) (d : Decl) (ds : List Decl) → IsNamedDecl fm d → list_any (bytes_eq (decl_name d)) (map decl_name ds) ≡ false →
    (repeats same_column (own_columns hosted d) ≡ false) × AllByRecursion (λ x. list_any (same_column x) (flat_map (own_columns hosted) ds) ≡ false) (own_columns hosted d)
decl_columns_apart fm false (decl.Inst name space fields) ds h u =
    (fields_apart name space fields h.1, each_field (λ x. list_any (same_column x) (flat_map (own_columns false) ds) ≡ false) name space fields (λ f. columns_unlisted name f false ds u))
decl_columns_apart fm true (decl.Data name space fields) ds h u =
    (fields_apart name space fields h.1, each_field (λ x. list_any (same_column x) (flat_map (own_columns true) ds) ≡ false) name space fields (λ f. columns_unlisted name f true ds u))
decl_columns_apart fm false d ds h u = (refl, tt)
decl_columns_apart fm true d ds h u = (refl, tt)

columns_apart_of : (fm : Format) (hosted : Bool) (ds : List Decl) → AllByRecursion (IsNamedDecl fm) ds → repeats bytes_eq (map decl_name ds) ≡ false → repeats same_column (flat_map (own_columns hosted) ds) ≡ false
columns_apart_of fm hosted [] h r = refl
columns_apart_of fm hosted (d ∷ ds) h r =
    let p = or_parts (list_any (bytes_eq (decl_name d)) (map decl_name ds)) (repeats bytes_eq (map decl_name ds)) r in
    let c = decl_columns_apart fm hosted d ds h.0 p.0 in
    repeats_append same_column (own_columns hosted d) (flat_map (own_columns hosted) ds) c.0 (columns_apart_of fm hosted ds h.1 p.1) c.1

pub columns_apart : (g : GraphValue) → IsNamed g → (hosted : Bool) → repeats same_column (kept_columns hosted g) ≡ false
columns_apart g n hosted = columns_apart_of g.format hosted g.decls n.decls (decls_apart g n)

-- a column's instance and field are names
abbrev IsNamedColumn : Format → List Decl → ColumnInfo → Type 0
IsNamedColumn fm ds x = (is_name_in fm x.inst ≡ true) × (is_name_in fm x.field ≡ true) × (d : Decl) × Contains ds d × (x.inst ≡ decl_name d)

fields_named : (fm : Format) (d : Decl) (ds : List Decl) (name : List ℕ) (space : ℕ) (fields : List (List ℕ)) → is_name_in fm name ≡ true → name ≡ decl_name d → Contains ds d → AllByRecursion (λ f. is_name_in fm f ≡ true) fields → AllByRecursion (IsNamedColumn fm ds) (map (column_of name space) fields)
fields_named fm d ds name space [] h e c a = tt
fields_named fm d ds name space (f ∷ fs) h e c a = ((h, a.0, d, c, e), fields_named fm d ds name space fs h e c a.1)

decl_columns_named : (fm : Format) (hosted : Bool) (d : Decl) (ds : List Decl) → IsNamedDecl fm d → Contains ds d → AllByRecursion (IsNamedColumn fm ds) (own_columns hosted d)
decl_columns_named fm false (decl.Inst name space fields) ds h c =
    let p = and_parts (is_name_in fm name) (list_all (is_name_in fm) fields) h.0 in
    fields_named fm (decl.Inst name space fields) ds name space fields p.0 refl c (names_each fm fields p.1)
decl_columns_named fm true (decl.Data name space fields) ds h c =
    let p = and_parts (is_name_in fm name) (list_all (is_name_in fm) fields) h.0 in
    fields_named fm (decl.Data name space fields) ds name space fields p.0 refl c (names_each fm fields p.1)
decl_columns_named fm false d ds h c = tt
decl_columns_named fm true d ds h c = tt

columns_named : (fm : Format) (hosted : Bool) (all ds : List Decl) → AllByRecursion (IsNamedDecl fm) ds → ((d : Decl) → Contains ds d → Contains all d) → AllByRecursion (IsNamedColumn fm all) (flat_map (own_columns hosted) ds)
columns_named fm hosted all [] h f = tt
columns_named fm hosted all (d ∷ ds) h f = each_append (IsNamedColumn fm all) (own_columns hosted d) (flat_map (own_columns hosted) ds) (decl_columns_named fm hosted d all h.0 (f d (contains_here d ds)))
    (columns_named fm hosted all ds h.1 (λ e c. f e (contains_there d ds e c)))

pub record IsColumnAt (g : GraphValue) (hosted : Bool) (n : ℕ) (x : ColumnInfo) : Type 0 where
  pub at : slice_get (kept_columns hosted g) n ≡ Some x
  pub inst : is_name_in g.format x.inst ≡ true
  pub field : is_name_in g.format x.field ≡ true
  pub used : is_used g x.inst ≡ true

pub known_column : (g : GraphValue) → IsNamed g → (hosted : Bool) (n : ℕ) → n < length (kept_columns hosted g) → (x : ColumnInfo) × IsColumnAt g hosted n x
known_column g h hosted n l =
    let x = element (kept_columns hosted g) n l in
    let c = each_contained (IsNamedColumn g.format g.decls) (kept_columns hosted g) (columns_named g.format hosted g.decls g.decls h.decls (λ d c. c)) n x.0 x.1 in
    (x.0, record { at = x.1; inst = c.0; field = c.1; used = used_decl g c.2 x.0.inst c.3 c.4 })
