-- The names of a graph's lines: how they are spelled, and what is found of them.
use Rattle.std.proofs.Common.{◌≡◌, ℕ, zero, suc, ◌<◌, true, false, List, [], ◌∷◌, ◌++◌, length, map, refl, sym, ◌∙◌, ap, subst, get_or, arith}
use Rattle.std.specs.Prelude.{Option, Some, None, MatchOption, slice_get, ◌==◌, nat_le}
use Rattle.std.specs.Option.{option_map_or}
use Rattle.std.specs.List.{list_any, list_all}
use Rattle.std.specs.Str.{bytes_eq}
use Rattle.std.proofs.lemmas.Bool.{true≢false, false_from_ne_true, eqb-true, and_parts, or_parts, or_from, or_left, or_right}
use Rattle.std.proofs.lemmas.Option.{none-some, same_Some, slice_get-get_or}
use Rattle.std.proofs.lemmas.List.{map-append}
use Rattle.std.proofs.lemmas.List.Folds.{list_any-append}
use Rattle.std.proofs.lemmas.List.Quantifiers.{position-Some}
use Rattle.std.proofs.lemmas.Slice.Eq.{bytes_eq-Decides}
use Rattle.graph_terms.specs.declared.format.Format.{Format}
use Rattle.graph_terms.specs.declared.format.Format.TheVariants.{Three}
use Rattle.graph_terms.specs.declared.decl.Decl.{Decl}
use Rattle.graph_terms.specs.declared.found.Found.{Found}
use Rattle.graph_terms.specs.declared.found.Found.TheVariants as found
use Rattle.graph_terms.specs.declared.verb.Line.{Line}
use Rattle.graph_terms.specs.declared.verb.Verb.TheVariants.{User}
use Rattle.graph_terms.specs.Graph.{GraphValue, decl_name}
use Rattle.graph_terms.specs.Fits.{IsGraph, LinesFit, is_used}
use Rattle.graph_terms.specs.Name.{is_name_in, is_first_byte, is_later_byte}
use Rattle.graph_terms.specs.Names.{StandsFor}
use Rattle.graph_terms.specs.Spelling.{line_name}
use Rattle.graph_terms.proofs.Public.{fit_at}
use Rattle.graph_model.proofs.Naming.{unused_line_name, stands_not_unused}
use Rattle.realm_audit.specs.Reading.{has_newline}

-- the line of each number below their count, and its name
pub line_at : (ls : List Line) (i : ℕ) → i < length ls → (l : Line) × (slice_get ls i ≡ Some l)
line_at [] i h = absurd (omega arith)
line_at (l ∷ ls) zero h = (l, refl)
line_at (l ∷ ls) (suc i) h = line_at ls i (omega arith)

pub name_is : (g : GraphValue) (i : ℕ) (l : Line) → slice_get g.lines i ≡ Some l → line_name g i ≡ l.name
name_is g i l e = ap (λ o. option_map_or (λ (x : Line). x.name) o []) e

named_at : (fm : Format) (decls : List Decl) (before ls : List Line) → LinesFit fm decls before ls → (i : ℕ) (l : Line) → slice_get ls i ≡ Some l → is_name_in Three l.name ≡ true
named_at fm decls before [] f i l e = absurd (none-some l e)
named_at fm decls before (m ∷ ls) f zero l e = subst (λ (x : Line). is_name_in Three x.name ≡ true) (same_Some m l e) f.0.named
named_at fm decls before (m ∷ ls) f (suc i) l e = named_at fm decls (before ++ m ∷ []) ls f.2 i l e

-- the name of a line is spelled as a name
pub is_spelled : (g : GraphValue) → IsGraph g → (i : ℕ) → i < length g.lines → is_name_in Three (line_name g i) ≡ true
is_spelled g f i h = let l = line_at g.lines i h in ap (is_name_in Three) (name_is g i l.0 l.1) ∙ named_at g.format g.decls [] g.lines f.lines i l.0 l.1

-- so no newline is in it
one_byte : (b : ℕ) → is_later_byte b ≡ true → (b == 10) ≡ false
one_byte b h = false_from_ne_true (b == 10) (λ e. true≢false (sym (subst (λ x. is_later_byte x ≡ true) (eqb-true b 10 e) h)))

first_byte : (b : ℕ) (rest : List ℕ) → is_name_in Three (b ∷ rest) ≡ true → (b == 10) ≡ false
first_byte b rest h =
    let first = and_parts (nat_le (length (b ∷ rest)) 63) (is_first_byte b) (and_parts _ (list_all is_later_byte rest) h).0 in
    one_byte b (or_left (is_first_byte b) _ first.1)

bytes_one_line : (bs : List ℕ) → list_all is_later_byte bs ≡ true → has_newline bs ≡ false
bytes_one_line [] h = refl
bytes_one_line (b ∷ bs) h = let p = and_parts (is_later_byte b) (list_all is_later_byte bs) h in or_from (b == 10) (has_newline bs) (one_byte b p.0) (bytes_one_line bs p.1)

name_one_line : (w : List ℕ) → is_name_in Three w ≡ true → has_newline w ≡ false
name_one_line [] h = refl
name_one_line (b ∷ bs) h = or_from (b == 10) (has_newline bs) (first_byte b bs h) (bytes_one_line bs (and_parts _ (list_all is_later_byte bs) h).1)

pub line_name_one_line : (g : GraphValue) → IsGraph g → (i : ℕ) → i < length g.lines → has_newline (line_name g i) ≡ false
line_name_one_line g f i h = name_one_line (line_name g i) (is_spelled g f i h)

-- a name that is not in use is not that of a line
same_bytes : (a b : List ℕ) → a ≡ b → bytes_eq a b ≡ true
same_bytes a b e = (bytes_eq-Decides a b).1 e

listed : (q : List ℕ) (ls : List Line) → list_any (bytes_eq q) (map (λ (x : Line). x.name) ls) ≡ false → (i : ℕ) (l : Line) → slice_get ls i ≡ Some l → q ≡ l.name → ⊥
listed q [] n i l e s = none-some l e
listed q (m ∷ ls) n zero l e s = true≢false (sym (same_bytes q m.name (s ∙ ap (λ (x : Line). x.name) (sym (same_Some m l e)))) ∙ (or_parts (bytes_eq q m.name) _ n).0)
listed q (m ∷ ls) n (suc i) l e s = listed q ls (or_parts (bytes_eq q m.name) _ n).1 i l e s

unused : (g : GraphValue) (i : ℕ) (l : Line) → slice_get g.lines i ≡ Some l → is_used g l.name ≡ false → ⊥
unused g i l e n = listed l.name g.lines
    (or_parts _ _ (sym (list_any-append (bytes_eq l.name) (map decl_name g.decls) (map (λ (x : Line). x.name) g.lines)) ∙ n)).1 i l e refl

-- where a line fits, no declaration has its name
undeclared : (g : GraphValue) → IsGraph g → (i : ℕ) (l : Line) → slice_get g.lines i ≡ Some l → (x : Found) → ((before : List Line) → StandsFor (record { format = g.format; decls = g.decls; lines = before }) l.name x) → ⊥
undeclared g f i l e x s =
    let fit = fit_at g.format g.decls [] g.lines f.lines i l e in
    let before : GraphValue = record { format = g.format; decls = g.decls; lines = fit.0 } in
    stands_not_unused before l.name x (s fit.0) (unused_line_name before l fit.1)

-- so what is found under the name of a line is a line
other_at : (g : GraphValue) → IsGraph g → (o : Option Found) → ((j : ℕ) → o ≡ Some (found.Line j) → ⊥) → (i : ℕ) (l : Line) → slice_get g.lines i ≡ Some l → MatchOption o (is_used g l.name ≡ false) (StandsFor g l.name) → ⊥
other_at g f None n i l e h = unused g i l e h
other_at g f (Some (found.Space s)) n i l e h = undeclared g f i l e (found.Space s) (λ before. h)
other_at g f (Some (found.Inst s)) n i l e h = undeclared g f i l e (found.Inst s) (λ before. h)
other_at g f (Some (found.Data s)) n i l e h = undeclared g f i l e (found.Data s) (λ before. h)
other_at g f (Some (found.Lock s)) n i l e h = undeclared g f i l e (found.Lock s) (λ before. h)
other_at g f (Some (found.Barrier s)) n i l e h = undeclared g f i l e (found.Barrier s) (λ before. h)
other_at g f (Some (found.Line j)) n i l e h = n j refl

pub found_other : (g : GraphValue) (q : List ℕ) (o : Option Found) → IsGraph g → MatchOption o (is_used g q ≡ false) (StandsFor g q) → ((j : ℕ) → o ≡ Some (found.Line j) → ⊥) → (i : ℕ) → i < length g.lines → q ≡ line_name g i → ⊥
found_other g q o f h n i b e =
    let l = line_at g.lines i b in
    other_at g f o n i l.0 l.1 (subst (λ w. MatchOption o (is_used g w ≡ false) (StandsFor g w)) (e ∙ name_is g i l.0 l.1) h)

-- and the line that is found has the name
pub found_line : (g : GraphValue) (q : List ℕ) (i : ℕ) → StandsFor g q (found.Line i) → (i < length g.lines) × (line_name g i ≡ q)
found_line g q i h =
    let l : Line = record { name = []; verb = User; on = [] } in
    let at = position-Some (λ (x : Line). bytes_eq x.name q) g.lines i l h in
    (at.0, name_is g i (get_or g.lines i l) (slice_get-get_or g.lines i l at.0) ∙ (bytes_eq-Decides (get_or g.lines i l).name q).0 at.1)

-- a name stays listed, and the name of the last line is
still_listed : (q : List ℕ) (before : List Line) (l : Line) → list_any (bytes_eq q) (map (λ (x : Line). x.name) before) ≡ true → list_any (bytes_eq q) (map (λ (x : Line). x.name) (before ++ l ∷ [])) ≡ true
still_listed q before l h =
    ap (list_any (bytes_eq q)) (map-append (λ (x : Line). x.name) before (l ∷ []))
    ∙ (list_any-append (bytes_eq q) (map (λ (x : Line). x.name) before) (l.name ∷ []) ∙ or_left (list_any (bytes_eq q) (map (λ (x : Line). x.name) before)) _ h)

last_listed : (before : List Line) (l : Line) → list_any (bytes_eq l.name) (map (λ (x : Line). x.name) (before ++ l ∷ [])) ≡ true
last_listed before l =
    ap (list_any (bytes_eq l.name)) (map-append (λ (x : Line). x.name) before (l ∷ []))
    ∙ (list_any-append (bytes_eq l.name) (map (λ (x : Line). x.name) before) (l.name ∷ [])
    ∙ or_right (list_any (bytes_eq l.name) (map (λ (x : Line). x.name) before)) _ (or_left (bytes_eq l.name l.name) false (same_bytes l.name l.name refl)))

-- two lines have two names: what stands before a line that fits has another
later : (fm : Format) (decls : List Decl) (before ls : List Line) → LinesFit fm decls before ls → (q : List ℕ) → list_any (bytes_eq q) (map (λ (x : Line). x.name) before) ≡ true → (k : ℕ) (m : Line) → slice_get ls k ≡ Some m → m.name ≡ q → ⊥
later fm decls before [] f q h k m e s = none-some m e
later fm decls before (l ∷ ls) f q h zero m e s =
    let same : l.name ≡ q = ap (λ (x : Line). x.name) (same_Some l m e) ∙ s in
    let names = list_any-append (bytes_eq l.name) (map decl_name decls) (map (λ (x : Line). x.name) before) in
    let none = (or_parts _ _ (sym names ∙ unused_line_name (record { format = fm; decls = decls; lines = before }) l f.1)).1 in
    true≢false (sym h ∙ (ap (λ n. list_any (bytes_eq n) (map (λ (x : Line). x.name) before)) (sym same) ∙ none))
later fm decls before (l ∷ ls) f q h (suc k) m e s = later fm decls (before ++ l ∷ []) ls f.2 q (still_listed q before l h) k m e s

apart : (fm : Format) (decls : List Decl) (before ls : List Line) → LinesFit fm decls before ls → (i j : ℕ) (l m : Line) → slice_get ls i ≡ Some l → slice_get ls j ≡ Some m → l.name ≡ m.name → i ≡ j
apart fm decls before [] f i j l m d e s = absurd (none-some l d)
apart fm decls before (x ∷ xs) f zero zero l m d e s = refl
apart fm decls before (x ∷ xs) f zero (suc j) l m d e s = absurd (later fm decls (before ++ x ∷ []) xs f.2 x.name (last_listed before x) j m e (sym s ∙ ap (λ (y : Line). y.name) (sym (same_Some x l d))))
apart fm decls before (x ∷ xs) f (suc i) zero l m d e s = absurd (later fm decls (before ++ x ∷ []) xs f.2 x.name (last_listed before x) i l d (s ∙ ap (λ (y : Line). y.name) (sym (same_Some x m e))))
apart fm decls before (x ∷ xs) f (suc i) (suc j) l m d e s = ap suc (apart fm decls (before ++ x ∷ []) xs f.2 i j l m d e s)

pub one_line_named : (g : GraphValue) → IsGraph g → (i j : ℕ) → i < length g.lines → j < length g.lines → line_name g i ≡ line_name g j → i ≡ j
one_line_named g f i j a b e =
    let l = line_at g.lines i a in
    let m = line_at g.lines j b in
    apart g.format g.decls [] g.lines f.lines i j l.0 m.0 l.1 m.1 (sym (name_is g i l.0 l.1) ∙ (e ∙ name_is g j m.0 m.1))
