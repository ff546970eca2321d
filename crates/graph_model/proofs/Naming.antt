-- The names of a graph with one more item.
use Rattle.std.proofs.Common.{◌≡◌, ℕ, ◌+◌, ◌<◌, Bool, true, false, cond, ◌||◌, ◌&&◌, List, [], ◌∷◌, ◌++◌, length, map, refl, sym, ◌∙◌, ap, subst, append-nil, length-append, arith, get_or}
use Rattle.std.specs.Prelude.{filter_map, Option, Some, None, position, nat_lt, nat_eq, is_some, MatchOption}
use Rattle.std.specs.List.{list_any, cons_option, position_or_len}
use Rattle.std.specs.Str.{bytes_eq}
use Rattle.std.proofs.lemmas.Bool.{true≢false, cond-true, lt-ltb, or_parts, or_from, and_parts, false_from_ne_true}
use Rattle.std.proofs.lemmas.List.{get_or_append_left, get_or_push, map-append}
use Rattle.std.proofs.lemmas.List.Elements.{filter_map-append}
use Rattle.std.proofs.lemmas.List.Folds.{list_any-append, list_any_at}
use Rattle.std.proofs.lemmas.List.Quantifiers.{position-Some}
use Rattle.std.proofs.lemmas.List.Sums.{position_or_len_is}
use Rattle.std.proofs.lemmas.Option.{none-some, same_Some}
use Rattle.std.proofs.lemmas.Slice.Eq.{bytes_eq-Decides}
use Rattle.graph_terms.specs.declared.decl.Decl.{Decl}
use Rattle.graph_terms.specs.declared.decl.Decl.TheVariants.{Space, Inst, Data, Lock, Barrier}
use Rattle.graph_terms.specs.declared.found.Found.{Found}
use Rattle.graph_terms.specs.declared.found.Found.TheVariants as found
use Rattle.index_spaces.specs.declared.Op.TheVariants as op
use Rattle.graph_terms.specs.declared.verb.Line.{Line}
use Rattle.graph_terms.specs.declared.verb.Verb.TheVariants.{User}
use Rattle.graph_terms.specs.Graph.{GraphValue, decl_name, space_of, lock_of, barrier_of, named_spaces, locks, barriers}
use Rattle.graph_terms.specs.declared.decl.BarrierInfo.{BarrierInfo}
use Rattle.graph_terms.specs.Fits.{is_inst, is_data, is_used, repeats, decl_repeats, verb_repeats, decl_tests, decl_fault, line_tests, line_fault, with_decl, with_line}
use Rattle.graph_terms.specs.declared.verb.Access.{Access}
use Rattle.graph_terms.specs.declared.why.Why.TheVariants as why
use Rattle.graph_terms.specs.Access.{verb_accesses}
use Rattle.graph_terms.proofs.Public.{none_first}
use Rattle.graph_terms.specs.Names.{is_inst_named, is_data_named, StandsFor, found_decl}
use Rattle.graph_indexes.specs.Names.{AreNamesOf, NamesValue, named}

-- the first place that passes
position_is : {X : Type 0} (p : X → Bool) (xs : List X) (k : ℕ) (d : X) → k < length xs → p (get_or xs k d) ≡ true → ((j : ℕ) → j < k → p (get_or xs j d) ≡ false) → position p xs ≡ Some k
position_is p xs k d h here before =
    let at : position_or_len p xs ≡ k = position_or_len_is p xs k d (omega arith) before (λ b. here) in
    cond-true (nat_lt (position_or_len p xs) (length xs)) (Some (position_or_len p xs)) None (lt-ltb (position_or_len p xs) (length xs) (omega arith)) ∙ ap (λ n. Some n) at

-- it stays with one more item
position_kept : {X : Type 0} (p : X → Bool) (xs : List X) (x : X) (k : ℕ) → position p xs ≡ Some k → position p (xs ++ x ∷ []) ≡ Some k
position_kept p xs x k h =
    let s = position-Some p xs k x h in
    let l : length (xs ++ x ∷ []) ≡ length xs + 1 = length-append xs (x ∷ []) in
    let below : k < length xs = s.0 in
    position_is p (xs ++ x ∷ []) k x (omega arith) (ap p (get_or_append_left xs (x ∷ []) x k below) ∙ s.1)
    (λ j b. let c : j < length xs = omega arith in ap p (get_or_append_left xs (x ∷ []) x j c) ∙ s.2 j b)

-- and it is the new item where none passed
position_new : {X : Type 0} (p : X → Bool) (xs : List X) (x : X) → list_any p xs ≡ false → p x ≡ true → position p (xs ++ x ∷ []) ≡ Some (length xs)
position_new p xs x none here =
    let l : length (xs ++ x ∷ []) ≡ length xs + 1 = length-append xs (x ∷ []) in
    position_is p (xs ++ x ∷ []) (length xs) x (omega arith) (ap p (get_or_push xs x x (length xs) refl) ∙ here)
    (λ j b. ap p (get_or_append_left xs (x ∷ []) x j b) ∙ false_from_ne_true (p (get_or xs j x)) (λ e. true≢false (sym (list_any_at p xs j x b e) ∙ none)))

-- names that are equal by the test
same_bytes : (a b : List ℕ) → bytes_eq a b ≡ true → a ≡ b
same_bytes a b e = (bytes_eq-Decides a b).0 e

bytes_of_same : (a b : List ℕ) → a ≡ b → bytes_eq a b ≡ true
bytes_of_same a b e = (bytes_eq-Decides a b).1 e

-- a name that no declaration has is the name of no space, and so on
unused_by : {Y : Type 0} (key : Y → List ℕ) (q name : List ℕ) (o : Option Y) (ys : List Y) → ((y : Y) → o ≡ Some y → key y ≡ name) → bytes_eq q name ≡ false → list_any (λ y. bytes_eq (key y) q) ys ≡ false → list_any (λ y. bytes_eq (key y) q) (cons_option o ys) ≡ false
unused_by key q name None ys k n h = h
unused_by key q name (Some y) ys k n h = or_from (bytes_eq (key y) q) (list_any (λ z. bytes_eq (key z) q) ys)
    (false_from_ne_true (bytes_eq (key y) q) (λ e. true≢false (sym (bytes_of_same q name (sym (same_bytes (key y) q e) ∙ k y refl)) ∙ n))) h

unused_in : {Y : Type 0} (f : Decl → Option Y) (key : Y → List ℕ) → ((d : Decl) (y : Y) → f d ≡ Some y → key y ≡ decl_name d) → (q : List ℕ) (ds : List Decl) → list_any (bytes_eq q) (map decl_name ds) ≡ false → list_any (λ y. bytes_eq (key y) q) (filter_map f ds) ≡ false
unused_in f key k q [] h = refl
unused_in f key k q (d ∷ ds) h =
    let p = or_parts (bytes_eq q (decl_name d)) (list_any (bytes_eq q) (map decl_name ds)) h in
    unused_by key q (decl_name d) (f d) (filter_map f ds) (k d) p.0 (unused_in f key k q ds p.1)

unused_decl_by : (kind : Decl → Bool) (q : List ℕ) (ds : List Decl) → list_any (bytes_eq q) (map decl_name ds) ≡ false → list_any (λ d. kind d && bytes_eq (decl_name d) q) ds ≡ false
unused_decl_by kind q [] h = refl
unused_decl_by kind q (d ∷ ds) h =
    let p = or_parts (bytes_eq q (decl_name d)) (list_any (bytes_eq q) (map decl_name ds)) h in
    or_from (kind d && bytes_eq (decl_name d) q) (list_any (λ x. kind x && bytes_eq (decl_name x) q) ds)
    (false_from_ne_true (kind d && bytes_eq (decl_name d) q) (λ e. true≢false (sym (bytes_of_same q (decl_name d) (sym (same_bytes (decl_name d) q (and_parts (kind d) (bytes_eq (decl_name d) q) e).1))) ∙ p.0)))
    (unused_decl_by kind q ds p.1)

unused_inst : (q : List ℕ) (ds : List Decl) → list_any (bytes_eq q) (map decl_name ds) ≡ false → list_any (is_inst_named q) ds ≡ false
unused_inst q ds h = unused_decl_by is_inst q ds h

unused_data : (q : List ℕ) (ds : List Decl) → list_any (bytes_eq q) (map decl_name ds) ≡ false → list_any (is_data_named q) ds ≡ false
unused_data q ds h = unused_decl_by is_data q ds h

unused_lines : (q : List ℕ) (ls : List Line) → list_any (bytes_eq q) (map (λ (l : Line). l.name) ls) ≡ false → list_any (λ (x : Line). bytes_eq x.name q) ls ≡ false
unused_lines q [] h = refl
unused_lines q (l ∷ ls) h =
    let p = or_parts (bytes_eq q l.name) (list_any (bytes_eq q) (map (λ (x : Line). x.name) ls)) h in
    or_from (bytes_eq l.name q) (list_any (λ (x : Line). bytes_eq x.name q) ls)
    (false_from_ne_true (bytes_eq l.name q) (λ e. true≢false (sym (bytes_of_same q l.name (sym (same_bytes l.name q e))) ∙ p.0)))
    (unused_lines q ls p.1)

space_key : (d : Decl) (y : List ℕ × List (ℕ × ℕ)) → space_of d ≡ Some y → y.0 ≡ decl_name d
space_key (Space name space) y e = cc
space_key (Inst name space fields) y e = absurd (none-some y e)
space_key (Data name space fields) y e = absurd (none-some y e)
space_key (Lock name) y e = absurd (none-some y e)
space_key (Barrier name count op first) y e = absurd (none-some y e)

lock_key : (d : Decl) (y : List ℕ) → lock_of d ≡ Some y → y ≡ decl_name d
lock_key (Space name space) y e = absurd (none-some y e)
lock_key (Inst name space fields) y e = absurd (none-some y e)
lock_key (Data name space fields) y e = absurd (none-some y e)
lock_key (Lock name) y e = cc
lock_key (Barrier name count op first) y e = absurd (none-some y e)

barrier_key : (d : Decl) (y : BarrierInfo) → barrier_of d ≡ Some y → y.name ≡ decl_name d
barrier_key (Space name space) y e = absurd (none-some y e)
barrier_key (Inst name space fields) y e = absurd (none-some y e)
barrier_key (Data name space fields) y e = absurd (none-some y e)
barrier_key (Lock name) y e = absurd (none-some y e)
barrier_key (Barrier name count op first) y e = ap (λ (x : BarrierInfo). x.name) (sym (same_Some (record { name = name; count = count; op = op; first = first }) y e))

-- a pushed item that f gives something of
pushed : {Y : Type 0} (f : Decl → Option Y) (ds : List Decl) (d : Decl) (y : Y) → f d ≡ Some y → filter_map f (ds ++ d ∷ []) ≡ filter_map f ds ++ y ∷ []
pushed f ds d y e = filter_map-append f ds (d ∷ []) ∙ ap (λ o. filter_map f ds ++ cons_option o []) e

not_pushed : {Y : Type 0} (f : Decl → Option Y) (ds : List Decl) (d : Decl) → f d ≡ None → filter_map f (ds ++ d ∷ []) ≡ filter_map f ds
not_pushed f ds d e = filter_map-append f ds (d ∷ []) ∙ (ap (λ o. filter_map f ds ++ cons_option o []) e ∙ append-nil (filter_map f ds))

flipped_lock : (q : List ℕ) (xs : List (List ℕ)) → list_any (λ y. bytes_eq y q) xs ≡ false → list_any (bytes_eq q) xs ≡ false
flipped_lock q [] h = refl
flipped_lock q (x ∷ xs) h =
    let p = or_parts (bytes_eq x q) (list_any (λ y. bytes_eq y q) xs) h in
    or_from (bytes_eq q x) (list_any (bytes_eq q) xs) (false_from_ne_true (bytes_eq q x) (λ e. true≢false (sym (bytes_of_same x q (sym (same_bytes q x e))) ∙ p.0))) (flipped_lock q xs p.1)

decls_unused : (g : GraphValue) (q : List ℕ) → is_used g q ≡ false → list_any (bytes_eq q) (map decl_name g.decls) ≡ false
decls_unused g q h = (or_parts _ _ (sym (list_any-append (bytes_eq q) (map decl_name g.decls) (map (λ (l : Line). l.name) g.lines)) ∙ h)).0

lines_unused : (g : GraphValue) (q : List ℕ) → is_used g q ≡ false → list_any (bytes_eq q) (map (λ (l : Line). l.name) g.lines) ≡ false
lines_unused g q h = (or_parts _ _ (sym (list_any-append (bytes_eq q) (map decl_name g.decls) (map (λ (l : Line). l.name) g.lines)) ∙ h)).1

stands_new : (g : GraphValue) (d : Decl) → is_used g (decl_name d) ≡ false → StandsFor (with_decl g d) (decl_name d) (found_decl g d)
stands_new g (Space name space) h =
    let none = unused_in space_of (λ (x : List ℕ × List (ℕ × ℕ)). x.0) space_key name g.decls (decls_unused g name h) in
    ap (position (λ (x : List ℕ × List (ℕ × ℕ)). bytes_eq x.0 name)) (pushed space_of g.decls (Space name space) (name, space) refl)
    ∙ position_new (λ (x : List ℕ × List (ℕ × ℕ)). bytes_eq x.0 name) (named_spaces g) (name, space) none (bytes_of_same name name refl)
stands_new g (Inst name space fields) h = position_new (is_inst_named name) g.decls (Inst name space fields) (unused_inst name g.decls (decls_unused g name h)) (bytes_of_same name name refl)
stands_new g (Data name space fields) h = position_new (is_data_named name) g.decls (Data name space fields) (unused_data name g.decls (decls_unused g name h)) (bytes_of_same name name refl)
stands_new g (Lock name) h =
    let none = flipped_lock name (locks g) (unused_in lock_of (λ (x : List ℕ). x) lock_key name g.decls (decls_unused g name h)) in
    ap (position (bytes_eq name)) (pushed lock_of g.decls (Lock name) name refl) ∙ position_new (bytes_eq name) (locks g) name none (bytes_of_same name name refl)
stands_new g (Barrier name count op first) h =
    let info : BarrierInfo = record { name = name; count = count; op = op; first = first } in
    let none = unused_in barrier_of (λ (x : BarrierInfo). x.name) barrier_key name g.decls (decls_unused g name h) in
    ap (position (λ (x : BarrierInfo). bytes_eq x.name name)) (pushed barrier_of g.decls (Barrier name count op first) info refl)
    ∙ position_new (λ (x : BarrierInfo). bytes_eq x.name name) (barriers g) info none (bytes_of_same name name refl)

filtered_kept : {Y : Type 0} (f : Decl → Option Y) (p : Y → Bool) (ds : List Decl) (d : Decl) (k : ℕ) → position p (filter_map f ds) ≡ Some k → position p (filter_map f (ds ++ d ∷ [])) ≡ Some k
filtered_kept f p ds d k h = filtered_by f p ds d k (f d) refl h
  where
    filtered_by : {Y : Type 0} (f : Decl → Option Y) (p : Y → Bool) (ds : List Decl) (d : Decl) (k : ℕ) (o : Option Y) → f d ≡ o → position p (filter_map f ds) ≡ Some k → position p (filter_map f (ds ++ d ∷ [])) ≡ Some k
    filtered_by f p ds d k None e h = ap (position p) (not_pushed f ds d e) ∙ h
    filtered_by f p ds d k (Some y) e h = ap (position p) (pushed f ds d y e) ∙ position_kept p (filter_map f ds) y k h

stands_kept : (g : GraphValue) (d : Decl) (q : List ℕ) (x : Found) → StandsFor g q x → StandsFor (with_decl g d) q x
stands_kept g d q (found.Space s) h = filtered_kept space_of (λ (x : List ℕ × List (ℕ × ℕ)). bytes_eq x.0 q) g.decls d s h
stands_kept g d q (found.Inst i) h = position_kept (is_inst_named q) g.decls d i h
stands_kept g d q (found.Data i) h = position_kept (is_data_named q) g.decls d i h
stands_kept g d q (found.Lock l) h = filtered_kept lock_of (bytes_eq q) g.decls d l h
stands_kept g d q (found.Barrier b) h = filtered_kept barrier_of (λ (x : BarrierInfo). bytes_eq x.name q) g.decls d b h
stands_kept g d q (found.Line i) h = h

stands_kept_line : (g : GraphValue) (l : Line) (q : List ℕ) (x : Found) → StandsFor g q x → StandsFor (with_line g l) q x
stands_kept_line g l q (found.Space s) h = h
stands_kept_line g l q (found.Inst i) h = h
stands_kept_line g l q (found.Data i) h = h
stands_kept_line g l q (found.Lock k) h = h
stands_kept_line g l q (found.Barrier b) h = h
stands_kept_line g l q (found.Line i) h = position_kept (λ (x : Line). bytes_eq x.name q) g.lines l i h

stays_unused : (name q : List ℕ) → bytes_eq name q ≡ false → bytes_eq q name ≡ false
stays_unused name q h = false_from_ne_true (bytes_eq q name) (λ e. true≢false (sym (bytes_of_same name q (sym (same_bytes q name e))) ∙ h))

unused_decl : (g : GraphValue) (d : Decl) (q : List ℕ) → bytes_eq (decl_name d) q ≡ false → is_used g q ≡ false → is_used (with_decl g d) q ≡ false
unused_decl g d q n h =
    let here : list_any (bytes_eq q) (map decl_name (g.decls ++ d ∷ [])) ≡ false =
    ap (list_any (bytes_eq q)) (map-append decl_name g.decls (d ∷ [])) ∙ (list_any-append (bytes_eq q) (map decl_name g.decls) (decl_name d ∷ [])
    ∙ or_from _ _ (decls_unused g q h) (or_from _ _ (stays_unused (decl_name d) q n) refl)) in
    list_any-append (bytes_eq q) (map decl_name (g.decls ++ d ∷ [])) (map (λ (l : Line). l.name) g.lines) ∙ or_from _ _ here (lines_unused g q h)

unused_line : (g : GraphValue) (l : Line) (q : List ℕ) → bytes_eq l.name q ≡ false → is_used g q ≡ false → is_used (with_line g l) q ≡ false
unused_line g l q n h =
    let here : list_any (bytes_eq q) (map (λ (x : Line). x.name) (g.lines ++ l ∷ [])) ≡ false =
    ap (list_any (bytes_eq q)) (map-append (λ (x : Line). x.name) g.lines (l ∷ [])) ∙ (list_any-append (bytes_eq q) (map (λ (x : Line). x.name) g.lines) (l.name ∷ [])
    ∙ or_from _ _ (lines_unused g q h) (or_from _ _ (stays_unused l.name q n) refl)) in
    list_any-append (bytes_eq q) (map decl_name g.decls) (map (λ (x : Line). x.name) (g.lines ++ l ∷ [])) ∙ or_from _ _ (decls_unused g q h) here

-- one more name among the pairs
Grows : NamesValue → NamesValue → List ℕ → Found → Type 0
Grows before after name x = (q : List ℕ) → named after q ≡ cond (bytes_eq name q) (Some x) (named before q)

each_by : (g h : GraphValue) (name q : List ℕ) (x : Found) (b : Bool) (o : Option Found) → bytes_eq name q ≡ b → MatchOption o (is_used g q ≡ false) (StandsFor g q) →
    StandsFor h name x → ((y : Found) → StandsFor g q y → StandsFor h q y) → (bytes_eq name q ≡ false → is_used g q ≡ false → is_used h q ≡ false) →
    MatchOption (cond b (Some x) o) (is_used h q ≡ false) (StandsFor h q)
each_by g h name q x true o e m new kept none = subst (λ n. StandsFor h n x) (same_bytes name q e) new
each_by g h name q x false None e m new kept none = none e m
each_by g h name q x false (Some y) e m new kept none = kept y m

pub names_decl : (g : GraphValue) (d : Decl) (before after : NamesValue) → AreNamesOf g before → is_used g (decl_name d) ≡ false →
    ((q : List ℕ) → named after q ≡ cond (bytes_eq (decl_name d) q) (Some (found_decl g d)) (named before q)) → AreNamesOf (with_decl g d) after
names_decl g d before after a unused grows = record {
  each = λ q. subst (λ o. MatchOption o (is_used (with_decl g d) q ≡ false) (StandsFor (with_decl g d) q)) (sym (grows q))
      (each_by g (with_decl g d) (decl_name d) q (found_decl g d) (bytes_eq (decl_name d) q) (named before q) refl (a.each q) (stands_new g d unused) (stands_kept g d q) (unused_decl g d q));
}

pub names_line : (g : GraphValue) (l : Line) (before after : NamesValue) → AreNamesOf g before → is_used g l.name ≡ false →
    ((q : List ℕ) → named after q ≡ cond (bytes_eq l.name q) (Some (found.Line (length g.lines))) (named before q)) → AreNamesOf (with_line g l) after
names_line g l before after a unused grows = record {
  each = λ q. subst (λ o. MatchOption o (is_used (with_line g l) q ≡ false) (StandsFor (with_line g l) q)) (sym (grows q))
      (each_by g (with_line g l) l.name q (found.Line (length g.lines)) (bytes_eq l.name q) (named before q) refl (a.each q)
      (position_new (λ (x : Line). bytes_eq x.name l.name) g.lines l (unused_lines l.name g.lines (lines_unused g l.name unused)) (bytes_of_same l.name l.name refl))
      (stands_kept_line g l q) (unused_line g l q));
}

back_by : (g : GraphValue) (name q : List ℕ) (x : Found) (b : Bool) (o : Option Found) → bytes_eq name q ≡ b → is_used g name ≡ false → MatchOption o (is_used g q ≡ false) (StandsFor g q) →
    MatchOption (cond b None (cond b (Some x) o)) (is_used g q ≡ false) (StandsFor g q)
back_by g name q x true o e h m = subst (λ n. is_used g n ≡ false) (same_bytes name q e) h
back_by g name q x false o e h m = m

-- a name put in and taken out again
pub names_back : (g : GraphValue) (name : List ℕ) (x : Found) (before mid after : NamesValue) → AreNamesOf g before → is_used g name ≡ false →
    ((q : List ℕ) → named mid q ≡ cond (bytes_eq name q) (Some x) (named before q)) → ((q : List ℕ) → named after q ≡ cond (bytes_eq name q) None (named mid q)) → AreNamesOf g after
names_back g name x before mid after a unused put out = record {
  each = λ q.
      subst (λ o. MatchOption o (is_used g q ≡ false) (StandsFor g q)) (sym (out q ∙ ap (λ o. cond (bytes_eq name q) None o) (put q)))
      (back_by g name q x (bytes_eq name q) (named before q) refl unused (a.each q));
}

-- a name of an item that fits is not in use
pub unused_decl_name : (g : GraphValue) (d : Decl) → decl_fault g d ≡ None → is_used g (decl_name d) ≡ false
unused_decl_name g d h = (or_parts _ _ (none_first (decl_tests g d) h (is_used g (decl_name d) || decl_repeats d, why.Twice) (0, omega arith, refl))).0

pub unused_line_name : (g : GraphValue) (l : Line) → line_fault g l ≡ None → is_used g l.name ≡ false
unused_line_name g l h = (or_parts (is_used g l.name) _ (none_first (line_tests g l) h (is_used g l.name || (verb_repeats g l.verb || (repeats nat_eq (map (λ (a : Access). a.column) (verb_accesses l.verb)) || repeats nat_eq l.on)), why.Twice) (0, omega arith, refl))).0

-- what stands for a name has it
at_some : {X : Type 0} (p : X → Bool) (xs : List X) (k : ℕ) (d : X) → position p xs ≡ Some k → list_any p xs ≡ false → ⊥
at_some p xs k d e none = let s = position-Some p xs k d e in true≢false (sym (list_any_at p xs k d s.0 s.1) ∙ none)

pub stands_not_unused : (g : GraphValue) (q : List ℕ) (x : Found) → StandsFor g q x → is_used g q ≡ false → ⊥
stands_not_unused g q (found.Space s) h n = at_some (λ (x : List ℕ × List (ℕ × ℕ)). bytes_eq x.0 q) (named_spaces g) s ([], []) h (unused_in space_of (λ (x : List ℕ × List (ℕ × ℕ)). x.0) space_key q g.decls (decls_unused g q n))
stands_not_unused g q (found.Inst d) h n = at_some (is_inst_named q) g.decls d (Lock []) h (unused_inst q g.decls (decls_unused g q n))
stands_not_unused g q (found.Data d) h n = at_some (is_data_named q) g.decls d (Lock []) h (unused_data q g.decls (decls_unused g q n))
stands_not_unused g q (found.Lock l) h n = at_some (bytes_eq q) (locks g) l [] h (flipped_lock q (locks g) (unused_in lock_of (λ (x : List ℕ). x) lock_key q g.decls (decls_unused g q n)))
stands_not_unused g q (found.Barrier b) h n = at_some (λ (x : BarrierInfo). bytes_eq x.name q) (barriers g) b (record { name = []; count = 0; op = op.Sum; first = 0 }) h (unused_in barrier_of (λ (x : BarrierInfo). x.name) barrier_key q g.decls (decls_unused g q n))
stands_not_unused g q (found.Line i) h n = at_some (λ (x : Line). bytes_eq x.name q) g.lines i (record { name = []; verb = User; on = [] }) h (unused_lines q g.lines (lines_unused g q n))

pub found_is_used : (g : GraphValue) (q : List ℕ) (o : Option Found) → MatchOption o (is_used g q ≡ false) (StandsFor g q) → is_some o ≡ is_used g q
found_is_used g q None m = sym m
found_is_used g q (Some x) m = used_by (is_used g q) (stands_not_unused g q x m)
  where
    used_by : (b : Bool) → (b ≡ false → ⊥) → true ≡ b
    used_by true h = refl
    used_by false h = absurd (h refl)

-- the same names, however they are kept
pub names_same : (g : GraphValue) (before after : NamesValue) → AreNamesOf g before → ((q : List ℕ) → named after q ≡ named before q) → AreNamesOf g after
names_same g before after a same = record { each = λ q. subst (λ o. MatchOption o (is_used g q ≡ false) (StandsFor g q)) (sym (same q)) (a.each q) }
