-- Where a link fits after a graph and its earlier links, each taken as a trigger, it fits after the graph and the lines that these add, as a trigger and as a cancel.
use Rattle.std.proofs.Common.{◌≡◌, ℕ, zero, suc, ◌+◌, ◌<◌, ◌≤◌, Bool, true, false, cond, not, ◌||◌, ◌&&◌, List, [], ◌∷◌, ◌++◌, length, map, filter, refl, sym, ◌∙◌, ap, append_assoc, length-append, arith}
use Rattle.std.specs.Prelude.{Option, Some, None, filter_map, position, unwrap_or, is_some, nat_lt, nat_le, codes, slice_get, bytes_eq}
use Rattle.std.specs.Option.{option_map_or}
use Rattle.std.specs.List.{list_any, position_or_len, join_with_byte, AllByRecursion}
use Rattle.std.proofs.lemmas.Bool.{true≢false, cond-true, cond-false, or_parts, or_from, le-ltb, lt-leb, ltb-true, ltb-false, lt-ltb}
use Rattle.std.proofs.lemmas.List.{map-append}
use Rattle.std.proofs.lemmas.List.Folds.{list_any-append}
use Rattle.graph_terms.specs.declared.verb.Line.{Line}
use Rattle.graph_terms.specs.declared.verb.Verb.{Verb}
use Rattle.graph_terms.specs.declared.verb.Verb.TheVariants.{Trigger, Cancel}
use Rattle.graph_terms.specs.declared.format.Format.{Format}
use Rattle.graph_terms.specs.declared.format.Format.TheVariants.{One, Two, Three}
use Rattle.graph_terms.specs.declared.why.Why.TheVariants as why
use Rattle.graph_terms.specs.declared.limits.TheConstants.{MAX_TEXT, MAX_SPACES}
use Rattle.graph_terms.specs.declared.limits.Limits.{Limits}
use Rattle.graph_terms.specs.Limits.{limits}
use Rattle.graph_terms.specs.Graph.{GraphValue, space_of, named_spaces, columns, data_columns, locks, barriers, decl_name, line_passes, is_user, ends_user}
use Rattle.graph_terms.specs.Edges.{edges, line_edges}
use Rattle.graph_terms.specs.Spelling.{head, spelled, line_words, line_name}
use Rattle.graph_terms.specs.Fits.{first_reason, is_used, with_line, line_fault, line_tests, cell_count, is_inst, has_many_spaces, is_beyond, on_unlike, names_many, format_lacks}
use Rattle.graph_terms.proofs.Public.{head_with_line, edges_push}
use Rattle.graph_words.specs.Draft.{line_number}
use Rattle.word_meanings.specs.WordFaults.{is_line_name}
use Rattle.graph_words.proofs.Public.{each_fails, none_where_each_fails}
use Rattle.basics.proofs.TestedLists.{position_any}
use Rattle.session_text.specs.declared.entry.Link.{Link}
use Rattle.session_text.specs.Fits.{trigger_line, trigger_reason}
use Rattle.session_text.proofs.Naming.{never_fits}
use Rattle.session_run.specs.Linked.{cancel_line}

-- a graph with more lines
abbrev pub longer : GraphValue → List Line → GraphValue
longer g xs = record { format = g.format; decls = g.decls; lines = g.lines ++ xs }

abbrev pub name_of : Line → List ℕ
name_of l = l.name

-- the second lines are fewer than the first, and take no more
pub record IsLeaner (g : GraphValue) (ts ks : List Line) : Type 0 where
  pub names : (w : List ℕ) → list_any (bytes_eq w) (map name_of ts) ≡ false → list_any (bytes_eq w) (map name_of ks) ≡ false
  pub ends : (u : ℕ) → list_any (λ (l : Line). ends_user u l.verb) ts ≡ false → list_any (λ (l : Line). ends_user u l.verb) ks ≡ false
  pub users : (i : ℕ) → line_passes is_user (longer g ts) i ≡ true → i < length g.lines
  pub text : length (head (longer g ks)) ≤ length (head (longer g ts))
  pub count : length ks ≤ length ts
  pub edges : length (edges (longer g ks)) ≤ length (edges (longer g ts))

-- what is found in the first lines
front_by : {X : Type 0} (test : X → Bool) (x : X) (xs ys zs : List X) (b : Bool) → test x ≡ b → cond (not b) (1 + position_or_len test (xs ++ ys)) 0 < suc (length xs) → (position_or_len test (xs ++ ys) < length xs → position_or_len test (xs ++ zs) ≡ position_or_len test (xs ++ ys)) →
    cond (not b) (1 + position_or_len test (xs ++ zs)) 0 ≡ cond (not b) (1 + position_or_len test (xs ++ ys)) 0
front_by test x xs ys zs true e h again = refl
front_by test x xs ys zs false e h again = ap (λ n. 1 + n) (again (omega arith))

front_place : {X : Type 0} (test : X → Bool) (xs ys zs : List X) → position_or_len test (xs ++ ys) < length xs → position_or_len test (xs ++ zs) ≡ position_or_len test (xs ++ ys)
front_place test [] ys zs h = absurd (omega arith)
front_place test (x ∷ xs) ys zs h =
    ap (λ b. cond (not b) (1 + position_or_len test (xs ++ zs)) 0) refl
    ∙ front_by test x xs ys zs (test x) refl h (λ k. front_place test xs ys zs k)

place_some : {X : Type 0} (test : X → Bool) (xs : List X) (n : ℕ) → position_or_len test xs ≡ n → n < length xs → position test xs ≡ Some n
place_some test xs n e h = cond-true (nat_lt (position_or_len test xs) (length xs)) (Some (position_or_len test xs)) None (lt-ltb (position_or_len test xs) (length xs) (omega arith)) ∙ ap (λ k. Some k) e

some_place : {X : Type 0} (test : X → Bool) (xs : List X) → list_any test xs ≡ true → (position_or_len test xs < length xs) × (unwrap_or (position test xs) 0 ≡ position_or_len test xs)
some_place test xs h = by_test (nat_lt (position_or_len test xs) (length xs)) refl
  where
    by_test : (b : Bool) → nat_lt (position_or_len test xs) (length xs) ≡ b → (position_or_len test xs < length xs) × (unwrap_or (position test xs) 0 ≡ position_or_len test xs)
    by_test true e = (ltb-true (position_or_len test xs) (length xs) e, ap (λ t. unwrap_or (cond t (Some (position_or_len test xs)) None) 0) e)
    by_test false e = absurd (true≢false (sym h ∙ (position_any test xs ∙ ap (λ t. is_some (cond t (Some (position_or_len test xs)) None)) e)))

-- the number of a user line of the graph
same_number : (g : GraphValue) (ts ks : List Line) (w : List ℕ) → is_line_name (longer g ts) w ≡ true → line_number (longer g ts) w < length g.lines → (line_number (longer g ks) w ≡ line_number (longer g ts) w)
same_number g ts ks w named h =
    let test : Line → Bool = λ l. bytes_eq l.name w in
    let t = some_place test (g.lines ++ ts) named in
    let near : position_or_len test (g.lines ++ ts) < length g.lines = omega (arith, t.1, h) in
    let same : position_or_len test (g.lines ++ ks) ≡ position_or_len test (g.lines ++ ts) = front_place test g.lines ts ks near in
    let far : position_or_len test (g.lines ++ ts) < length (g.lines ++ ks) = omega (arith, near, length-append g.lines ks) in
    ap (λ o. unwrap_or o 0) (place_some test (g.lines ++ ks) (position_or_len test (g.lines ++ ts)) same far) ∙ sym t.1

still_named : (g : GraphValue) (ts ks : List Line) (w : List ℕ) → is_line_name (longer g ts) w ≡ true → line_number (longer g ts) w < length g.lines → is_line_name (longer g ks) w ≡ true
still_named g ts ks w named h =
    let test : Line → Bool = λ l. bytes_eq l.name w in
    let t = some_place test (g.lines ++ ts) named in
    let near : position_or_len test (g.lines ++ ts) < length g.lines = omega (arith, t.1, h) in
    let same : position_or_len test (g.lines ++ ks) ≡ position_or_len test (g.lines ++ ts) = front_place test g.lines ts ks near in
    let far : position_or_len test (g.lines ++ ts) < length (g.lines ++ ks) = omega (arith, near, length-append g.lines ks) in
    position_any test (g.lines ++ ks) ∙ ap (λ (o : Option ℕ). is_some o) (place_some test (g.lines ++ ks) (position_or_len test (g.lines ++ ts)) same far)

-- a line of the graph stays
line_stays : (xs ys : List Line) (i : ℕ) → i < length xs → slice_get (xs ++ ys) i ≡ slice_get xs i
line_stays [] ys i h = absurd (omega arith)
line_stays (x ∷ xs) ys zero h = refl
line_stays (x ∷ xs) ys (suc i) h = line_stays xs ys i (omega arith)

user_stays : (g : GraphValue) (ts ks : List Line) (i : ℕ) → i < length g.lines → line_passes is_user (longer g ts) i ≡ true → line_passes is_user (longer g ks) i ≡ true
user_stays g ts ks i h e =
    let same : slice_get (g.lines ++ ks) i ≡ slice_get (g.lines ++ ts) i = line_stays g.lines ks i h ∙ sym (line_stays g.lines ts i h) in
    ap (λ (o : Option Line). option_map_or is_user (Rattle.std.specs.Prelude.option_map (λ (l : Line). l.verb) o) false) same ∙ e

name_stays : (g : GraphValue) (ts ks : List Line) (i : ℕ) → i < length g.lines → line_name (longer g ks) i ≡ line_name (longer g ts) i
name_stays g ts ks i h = ap (λ (o : Option Line). option_map_or (λ (l : Line). l.name) o []) (line_stays g.lines ks i h ∙ sym (line_stays g.lines ts i h))

-- how long the line of a link is
four_words : (a c n : List ℕ) → length (spelled (a ∷ codes "=" ∷ c ∷ n ∷ [])) ≡ length a + length c + length n + 5
four_words a c n =
    let x : length ((a ++ 32 ∷ 61 ∷ 32 ∷ (c ++ 32 ∷ n)) ++ 10 ∷ []) ≡ length (a ++ 32 ∷ 61 ∷ 32 ∷ (c ++ 32 ∷ n)) + 1 = length-append (a ++ 32 ∷ 61 ∷ 32 ∷ (c ++ 32 ∷ n)) (10 ∷ []) in
    let y : length (a ++ 32 ∷ 61 ∷ 32 ∷ (c ++ 32 ∷ n)) ≡ length a + suc (suc (suc (length (c ++ 32 ∷ n)))) = length-append a (32 ∷ 61 ∷ 32 ∷ (c ++ 32 ∷ n)) in
    let z : length (c ++ 32 ∷ n) ≡ length c + suc (length n) = length-append c (32 ∷ n) in
    omega (arith, x, y, z)

trigger_size : (g : GraphValue) (name : List ℕ) (u : ℕ) → length (spelled (line_words g (record { name = name; verb = Trigger u; on = [] }))) ≡ length name + length (line_name g u) + 12
trigger_size g name u = let e = four_words name (codes "trigger") (line_name g u) in omega (arith, e)

cancel_size : (g : GraphValue) (name : List ℕ) (u : ℕ) → length (spelled (line_words g (record { name = name; verb = Cancel u; on = [] }))) ≡ length name + length (line_name g u) + 11
cancel_size g name u = let e = four_words name (codes "cancel") (line_name g u) in omega (arith, e)

-- the lines of graphs with more lines
pub pushed : (g : GraphValue) (xs : List Line) (l : Line) → with_line (longer g xs) l ≡ longer g (xs ++ l ∷ [])
pushed g xs l = ap (λ ls. record { format = g.format; decls = g.decls; lines = ls }) (append_assoc g.lines xs (l ∷ []))

pub text_push : (g : GraphValue) (xs : List Line) (l : Line) → length (head (longer g (xs ++ l ∷ []))) ≡ length (head (longer g xs)) + length (spelled (line_words (longer g xs) l))
text_push g xs l = ap (λ h. length (head h)) (sym (pushed g xs l)) ∙ (ap length (head_with_line (longer g xs) l) ∙ length-append (head (longer g xs)) (spelled (line_words (longer g xs) l)))

pub edges_count : (g : GraphValue) (xs : List Line) (l : Line) → length (edges (longer g (xs ++ l ∷ []))) ≡ length (edges (longer g xs)) + length (line_edges (g.lines ++ xs) l)
edges_count g xs l = ap (λ h. length (edges h)) (sym (pushed g xs l)) ∙ (ap length (edges_push (longer g xs) l) ∙ length-append (edges (longer g xs)) (line_edges (g.lines ++ xs) l))

-- the tests of the line of a link
abbrev pub link_as : Link → Verb → Line
link_as l v = record { name = l.line; verb = v; on = [] }

-- a trigger or a cancel of a user line
abbrev pub ender : Bool → ℕ → Verb
ender true u = Trigger u
ender false u = Cancel u

-- each format has such a line without events behind `on`
abbrev lacks_line : Format → Verb → Bool
lacks_line fm v = on_unlike fm v [] || format_lacks fm v

lacks_no_ender : (fm : Format) (b : Bool) (u : ℕ) → lacks_line fm (ender b u) ≡ false
lacks_no_ender One true u = refl
lacks_no_ender Two true u = refl
lacks_no_ender Three true u = refl
lacks_no_ender One false u = refl
lacks_no_ender Two false u = refl
lacks_no_ender Three false u = refl

names_none : (fm : Format) (b : Bool) (u : ℕ) → names_many fm (ender b u) [] ≡ false
names_none One true u = refl
names_none Two true u = refl
names_none Three true u = refl
names_none One false u = refl
names_none Two false u = refl
names_none Three false u = refl

used_less : (g : GraphValue) (ts ks : List Line) (w : List ℕ) → IsLeaner g ts ks → is_used (longer g ts) w ≡ false → is_used (longer g ks) w ≡ false
used_less g ts ks w r h =
    let p = or_parts _ _ (sym (list_any-append (bytes_eq w) (map decl_name g.decls) (map name_of (g.lines ++ ts))) ∙ h) in
    let q = or_parts _ _ (sym (ap (list_any (bytes_eq w)) (map-append name_of g.lines ts) ∙ list_any-append (bytes_eq w) (map name_of g.lines) (map name_of ts)) ∙ p.1) in
    list_any-append (bytes_eq w) (map decl_name g.decls) (map name_of (g.lines ++ ks))
    ∙ or_from (list_any (bytes_eq w) (map decl_name g.decls)) _ p.0
    (ap (list_any (bytes_eq w)) (map-append name_of g.lines ks) ∙ (list_any-append (bytes_eq w) (map name_of g.lines) (map name_of ks) ∙ or_from (list_any (bytes_eq w) (map name_of g.lines)) _ q.0 (r.names w q.1)))

abbrev pub ends_it : ℕ → Line → Bool
ends_it u l = ends_user u l.verb

ended_less : (g : GraphValue) (ts ks : List Line) (u : ℕ) → IsLeaner g ts ks → list_any (ends_it u) (g.lines ++ ts) ≡ false → list_any (ends_it u) (g.lines ++ ks) ≡ false
ended_less g ts ks u r h =
    let p = or_parts _ _ (sym (list_any-append (ends_it u) g.lines ts) ∙ h) in
    list_any-append (ends_it u) g.lines ks ∙ or_from (list_any (ends_it u) g.lines) _ p.0 (r.ends u p.1)

less_is : (most n m : ℕ) → n ≤ m → nat_lt most m ≡ false → nat_lt most n ≡ false
less_is most n m l h = let k : m ≤ most = ltb-false most m h in le-ltb most n (omega arith)

line_size : (g : GraphValue) (ts ks : List Line) (l : Link) (u : ℕ) (b : Bool) → u < length g.lines → length (spelled (line_words (longer g ks) (link_as l (ender b u)))) ≤ length (spelled (line_words (longer g ts) (link_as l (Trigger u))))
line_size g ts ks l u true h =
    let a = trigger_size (longer g ks) l.line u in let b = trigger_size (longer g ts) l.line u in let c = ap length (name_stays g ts ks u h) in omega (arith, a, b, c)
line_size g ts ks l u false h =
    let a = cancel_size (longer g ks) l.line u in let b = trigger_size (longer g ts) l.line u in let c = ap length (name_stays g ts ks u h) in omega (arith, a, b, c)

one_edge : (ls : List Line) (l : Link) (u : ℕ) (b : Bool) → length (line_edges ls (link_as l (ender b u))) ≡ 1
one_edge ls l u true = refl
one_edge ls l u false = refl

-- the quantities with one line more
pub text_less : (g : GraphValue) (ts ks : List Line) (l : Link) (u : ℕ) (b : Bool) → IsLeaner g ts ks → u < length g.lines → length (head (longer g (ks ++ link_as l (ender b u) ∷ []))) ≤ length (head (longer g (ts ++ link_as l (Trigger u) ∷ [])))
text_less g ts ks l u b r h =
    let x = text_push g ks (link_as l (ender b u)) in
    let y = text_push g ts (link_as l (Trigger u)) in
    let z = line_size g ts ks l u b h in
    omega (arith, x, y, z, r.text)

pub count_less : (g : GraphValue) (ts ks : List Line) (k t : Line) → length ks ≤ length ts → length (ks ++ k ∷ []) ≤ length (ts ++ t ∷ [])
count_less g ts ks k t h = omega (arith, length-append ks (k ∷ []), length-append ts (t ∷ []), h)

pub edges_less : (g : GraphValue) (ts ks : List Line) (l : Link) (u : ℕ) (b : Bool) → IsLeaner g ts ks → length (edges (longer g (ks ++ link_as l (ender b u) ∷ []))) ≤ length (edges (longer g (ts ++ link_as l (Trigger u) ∷ [])))
edges_less g ts ks l u b r =
    let x = edges_count g ks (link_as l (ender b u)) in
    let y = edges_count g ts (link_as l (Trigger u)) in
    let z = one_edge (g.lines ++ ks) l u b in
    omega (arith, x, y, z, r.edges)

-- more spaces than a long text may declare
many_less : (g h : GraphValue) → h.decls ≡ g.decls → length (head h) ≤ length (head g) → has_many_spaces g ≡ false → has_many_spaces h ≡ false
many_less g h same shorter passed = by_spaces (nat_lt MAX_SPACES (length (named_spaces g))) refl
  where
    spaces : nat_lt MAX_SPACES (length (named_spaces h)) ≡ nat_lt MAX_SPACES (length (named_spaces g))
    spaces = ap (λ ds. nat_lt MAX_SPACES (length (filter_map space_of ds))) same

    by_spaces : (b : Bool) → nat_lt MAX_SPACES (length (named_spaces g)) ≡ b → has_many_spaces h ≡ false
    by_spaces true e = ap (λ b. b && nat_lt MAX_TEXT (length (head h))) (spaces ∙ e) ∙ less_is MAX_TEXT (length (head h)) (length (head g)) shorter (ap (λ b. b && nat_lt MAX_TEXT (length (head g))) (sym e) ∙ passed)
    by_spaces false e = ap (λ b. b && nat_lt MAX_TEXT (length (head h))) (spaces ∙ e)

-- four of nine tests are replaced
four_of : (a s b c d e f l m x t y z : Bool) → (a || (s || (b || (c || (d || (e || (f || (l || m)))))))) ≡ false → (a ≡ false → x ≡ false) → (s ≡ false → t ≡ false) → (l ≡ false → y ≡ false) → (m ≡ false → z ≡ false)
    → (x || (t || (b || (c || (d || (e || (f || (y || z)))))))) ≡ false
four_of a s b c d e f l m x t y z h p n q r =
    let h0 = or_parts a (s || (b || (c || (d || (e || (f || (l || m))))))) h in
    let hs = or_parts s (b || (c || (d || (e || (f || (l || m)))))) h0.1 in
    let h1 = or_parts b (c || (d || (e || (f || (l || m))))) hs.1 in
    let h2 = or_parts c (d || (e || (f || (l || m)))) h1.1 in
    let h3 = or_parts d (e || (f || (l || m))) h2.1 in
    let h4 = or_parts e (f || (l || m)) h3.1 in
    let h5 = or_parts f (l || m) h4.1 in
    let h6 = or_parts l m h5.1 in
    or_from x (t || (b || (c || (d || (e || (f || (y || z))))))) (p h0.0) (or_from t (b || (c || (d || (e || (f || (y || z)))))) (n hs.0) (or_from b (c || (d || (e || (f || (y || z))))) h1.0
    (or_from c (d || (e || (f || (y || z)))) h2.0 (or_from d (e || (f || (y || z))) h3.0 (or_from e (f || (y || z)) h4.0 (or_from f (y || z) h5.0 (or_from y z (q h6.0) (r h6.1))))))))

beyond_less : (g : GraphValue) (ts ks : List Line) (l : Link) (u : ℕ) (b : Bool) → IsLeaner g ts ks → u < length g.lines → is_beyond (with_line (longer g ts) (link_as l (Trigger u))) ≡ false → is_beyond (with_line (longer g ks) (link_as l (ender b u))) ≡ false
beyond_less g ts ks l u b r h passed =
    let T : GraphValue = longer g (ts ++ link_as l (Trigger u) ∷ []) in
    let K : GraphValue = longer g (ks ++ link_as l (ender b u) ∷ []) in
    let most : Limits = limits g.format in
    let all : is_beyond T ≡ false = ap is_beyond (sym (pushed g ts (link_as l (Trigger u)))) ∙ passed in
    let text : length (head K) ≤ length (head T) = text_less g ts ks l u b r h in
    let lines : length (g.lines ++ (ks ++ link_as l (ender b u) ∷ [])) ≤ length (g.lines ++ (ts ++ link_as l (Trigger u) ∷ [])) =
    omega (arith, length-append g.lines (ks ++ link_as l (ender b u) ∷ []), length-append g.lines (ts ++ link_as l (Trigger u) ∷ []), count_less g ts ks (link_as l (ender b u)) (link_as l (Trigger u)) r.count) in
    ap is_beyond (pushed g ks (link_as l (ender b u)))
    ∙ four_of (nat_lt most.text (length (head T))) (has_many_spaces T) (nat_lt most.insts (length (filter is_inst g.decls))) (nat_lt most.columns (length (columns T) + length (data_columns T))) (nat_lt most.cells (cell_count T)) (nat_lt most.locks (length (locks T))) (nat_lt most.barriers (length (barriers T))) (nat_lt most.lines (length T.lines)) (nat_lt most.edges (length (edges T)))
    (nat_lt most.text (length (head K))) (has_many_spaces K) (nat_lt most.lines (length K.lines)) (nat_lt most.edges (length (edges K))) all
    (less_is most.text (length (head K)) (length (head T)) text) (many_less T K refl text) (less_is most.lines (length K.lines) (length T.lines) lines) (less_is most.edges (length (edges K)) (length (edges T)) (edges_less g ts ks l u b r))

flip : (b : Bool) → not b ≡ false → b ≡ true
flip true x = refl
flip false x = absurd (true≢false x)

far_off : (g : GraphValue) (ks : List Line) (u : ℕ) → u < length g.lines → nat_le (length (g.lines ++ ks)) u ≡ false
far_off g ks u near = lt-leb (length (g.lines ++ ks)) u (omega (arith, near, length-append g.lines ks))

fits_as : (g : GraphValue) (ks : List Line) (l : Link) (u : ℕ) (b : Bool) → is_used (longer g ks) l.line ≡ false → list_any (ends_it u) (g.lines ++ ks) ≡ false → line_passes is_user (longer g ks) u ≡ true → u < length g.lines →
    is_beyond (with_line (longer g ks) (link_as l (ender b u))) ≡ false → line_fault (longer g ks) (link_as l (ender b u)) ≡ None
fits_as g ks l u true used ends passes near beyond = none_where_each_fails (line_tests (longer g ks) (link_as l (Trigger u))) (
  or_from (is_used (longer g ks) l.line) (list_any (ends_it u) (g.lines ++ ks) || false) used (or_from (list_any (ends_it u) (g.lines ++ ks)) false ends refl),
  (
    or_from (nat_le (length (g.lines ++ ks)) u || false) false (or_from (nat_le (length (g.lines ++ ks)) u) false (far_off g ks u near) refl) refl,
    (or_from (not (line_passes is_user (longer g ks) u)) (lacks_line g.format (Trigger u)) (ap not passes) (lacks_no_ender g.format true u), (refl, (refl, (refl, (refl, (or_from (names_many g.format (Trigger u) []) (is_beyond (with_line (longer g ks) (link_as l (Trigger u)))) (names_none g.format true u) beyond, tt)))))),
  ),
)
fits_as g ks l u false used ends passes near beyond = none_where_each_fails (line_tests (longer g ks) (link_as l (Cancel u))) (
  or_from (is_used (longer g ks) l.line) (list_any (ends_it u) (g.lines ++ ks) || false) used (or_from (list_any (ends_it u) (g.lines ++ ks)) false ends refl),
  (
    or_from (nat_le (length (g.lines ++ ks)) u || false) false (or_from (nat_le (length (g.lines ++ ks)) u) false (far_off g ks u near) refl) refl,
    (or_from (not (line_passes is_user (longer g ks) u)) (lacks_line g.format (Cancel u)) (ap not passes) (lacks_no_ender g.format false u), (refl, (refl, (refl, (refl, (or_from (names_many g.format (Cancel u) []) (is_beyond (with_line (longer g ks) (link_as l (Cancel u)))) (names_none g.format false u) beyond, tt)))))),
  ),
)

-- what a trigger that fits after the first lines says of its user line
pub record FitsThere (g : GraphValue) (ts : List Line) (l : Link) (u : ℕ) : Type 0 where
  pub unused : is_used (longer g ts) l.line ≡ false
  pub open_user : list_any (ends_it u) (g.lines ++ ts) ≡ false
  pub passes : line_passes is_user (longer g ts) u ≡ true
  pub beyond : is_beyond (with_line (longer g ts) (link_as l (Trigger u))) ≡ false

fits_there : (g : GraphValue) (ts : List Line) (l : Link) (u : ℕ) → line_fault (longer g ts) (link_as l (Trigger u)) ≡ None → FitsThere g ts l u
fits_there g ts l u none =
    let T : GraphValue = longer g ts in
    let h = each_fails (line_tests T (link_as l (Trigger u))) none in
    let twice = or_parts (is_used T l.line) (list_any (ends_it u) (g.lines ++ ts) || false) h.0 in
    record {
      unused = twice.0;
      open_user = (or_parts (list_any (ends_it u) (g.lines ++ ts)) false twice.1).0;
      passes = flip (line_passes is_user T u) (or_parts (not (line_passes is_user T u)) (lacks_line g.format (Trigger u)) h.1.1.0).0;
      beyond = (or_parts (names_many g.format (Trigger u) []) (is_beyond (with_line T (link_as l (Trigger u)))) h.1.1.1.1.1.1.1.0).1;
    }

-- the link fits after the second lines, whichever line it adds
line_fits : (g : GraphValue) (ts ks : List Line) (l : Link) (u : ℕ) (b : Bool) → IsLeaner g ts ks → line_fault (longer g ts) (link_as l (Trigger u)) ≡ None → line_fault (longer g ks) (link_as l (ender b u)) ≡ None
line_fits g ts ks l u b r none =
    let f = fits_there g ts l u none in
    let near : u < length g.lines = r.users u f.passes in
    fits_as g ks l u b (used_less g ts ks l.line r f.unused) (ended_less g ts ks u r f.open_user) (user_stays g ts ks u near f.passes) near (beyond_less g ts ks l u b r near f.beyond)

-- a link that fits after the triggers
pub record LinkFits (g : GraphValue) (ts ks : List Line) (l : Link) : Type 0 where
  pub number : ℕ
  pub number_in : line_number (longer g ts) l.user ≡ number
  pub number_is : line_number (longer g ks) l.user ≡ number
  pub near : number < length g.lines
  pub named : is_line_name (longer g ks) l.user ≡ true
  pub trigger : line_fault (longer g ks) (trigger_line (longer g ks) l) ≡ None
  pub cancel : line_fault (longer g ks) (cancel_line (longer g ks) l) ≡ None

pub link_fits : (g : GraphValue) (ts ks : List Line) (l : Link) → IsLeaner g ts ks → trigger_reason (longer g ts) l ≡ None → LinkFits g ts ks l
link_fits g ts ks l r none = by_name (is_line_name (longer g ts) l.user) refl
  where
    by_name : (b : Bool) → is_line_name (longer g ts) l.user ≡ b → LinkFits g ts ks l
    by_name true e =
        (let T : GraphValue = longer g ts in
        let u : ℕ = line_number T l.user in
        let fault : line_fault T (link_as l (Trigger u)) ≡ None = sym (cond-true (is_line_name T l.user) (line_fault T (trigger_line T l)) (first_reason ((is_used T l.line, why.Twice) ∷ (not (is_used T l.user), why.Unknown) ∷ (true, why.Kind) ∷ [])) e) ∙ none in
        let near : u < length g.lines = r.users u (fits_there g ts l u fault).passes in
        let same : line_number (longer g ks) l.user ≡ u = same_number g ts ks l.user e near in
        record {
          number = u;
          number_in = refl;
          number_is = same;
          near = near;
          named = still_named g ts ks l.user e near;
          trigger = ap (λ k. line_fault (longer g ks) (link_as l (Trigger k))) same ∙ line_fits g ts ks l u true r fault;
          cancel = ap (λ k. line_fault (longer g ks) (link_as l (Cancel k))) same ∙ line_fits g ts ks l u false r fault;
        })
    by_name false e = absurd (never_fits (is_used (longer g ts) l.line) (not (is_used (longer g ts) l.user))
        (sym (cond-false (is_line_name (longer g ts) l.user) (line_fault (longer g ts) (trigger_line (longer g ts) l)) (first_reason ((is_used (longer g ts) l.line, why.Twice) ∷ (not (is_used (longer g ts) l.user), why.Unknown) ∷ (true, why.Kind) ∷ [])) e) ∙ none))
