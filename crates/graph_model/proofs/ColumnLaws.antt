-- The column of a field of an instance or of data, by how many columns are before the declaration.
use Rattle.std.proofs.Common.{◌≡◌, ℕ, zero, suc, ◌+◌, ◌<◌, Bool, true, false, cond, not, ◌||◌, ◌&&◌, List, [], ◌∷◌, ◌++◌, length, map, refl, sym, ◌∙◌, ap, length-append, arith}
use Rattle.std.specs.Prelude.{flat_map, Some, None, position, slice_get, nat_lt}
use Rattle.std.specs.List.{list_any, position_or_len}
use Rattle.std.specs.Str.{bytes_eq}
use Rattle.std.proofs.lemmas.Bool.{or_parts, cond-true, lt-ltb, ltb-true}
use Rattle.std.proofs.lemmas.Option.{none-some, same_Some}
use Rattle.graph_terms.specs.declared.decl.Decl.{Decl}
use Rattle.graph_terms.specs.declared.decl.Decl.TheVariants.{Space, Inst, Data, Lock, Barrier}
use Rattle.graph_terms.specs.declared.decl.ColumnInfo.{ColumnInfo}
use Rattle.graph_terms.specs.Graph.{GraphValue, columns_of, columns, data_columns_of, data_columns}
use Rattle.graph_terms.specs.Names.{is_inst_named, is_data_named, is_column_named}
use Rattle.graph_indexes.specs.Tables.{TablesValue, firsts_of, tables_of}

-- the first place that passes
pub record IsFirst {X : Type 0} (p : X → Bool) (xs : List X) (k : ℕ) : Type 0 where
  pub at : position_or_len p xs ≡ k
  pub within : k < length xs

first_by : {X : Type 0} (p : X → Bool) (xs : List X) (k : ℕ) → position p xs ≡ Some k → IsFirst p xs k
first_by p xs k h = by_test (nat_lt (position_or_len p xs) (length xs)) refl h
  where
    by_test : (b : Bool) → nat_lt (position_or_len p xs) (length xs) ≡ b → cond b (Some (position_or_len p xs)) None ≡ Some k → IsFirst p xs k
    by_test true t e =
        let is : position_or_len p xs ≡ k = same_Some (position_or_len p xs) k e in
        let below : position_or_len p xs < length xs = ltb-true (position_or_len p xs) (length xs) t in
        record { at = is; within = omega (arith, is, below) }
    by_test false t e = absurd (none-some k e)

pub first_below : {X : Type 0} (p : X → Bool) (xs : List X) (k : ℕ) → position p xs ≡ Some k → k < length xs
first_below p xs k h = (first_by p xs k h).within

first_is : {X : Type 0} (p : X → Bool) (xs : List X) (k : ℕ) → IsFirst p xs k → position p xs ≡ Some k
first_is p xs k f =
    let at : position_or_len p xs ≡ k = f.at in
    let within : k < length xs = f.within in
    cond-true (nat_lt (position_or_len p xs) (length xs)) (Some (position_or_len p xs)) None (lt-ltb (position_or_len p xs) (length xs) (omega (arith, at, within))) ∙ ap (λ n. Some n) at

-- behind items of which none passes
past_none : {X : Type 0} (p : X → Bool) (xs ys : List X) → list_any p xs ≡ false → position_or_len p (xs ++ ys) ≡ length xs + position_or_len p ys
past_none p [] ys h = let e : position_or_len p ys ≡ 0 + position_or_len p ys = omega arith in e
past_none p (x ∷ xs) ys h =
    let parts = or_parts (p x) (list_any p xs) h in
    ap (λ b. cond (not b) (1 + position_or_len p (xs ++ ys)) 0) parts.0 ∙ (let again : position_or_len p (xs ++ ys) ≡ length xs + position_or_len p ys = past_none p xs ys parts.1 in let e : 1 + position_or_len p (xs ++ ys) ≡ suc (length xs) + position_or_len p ys = omega (arith, again) in e)

-- before further items
before_more : {X : Type 0} (p : X → Bool) (xs ys : List X) → position_or_len p xs < length xs → position_or_len p (xs ++ ys) ≡ position_or_len p xs
before_more p [] ys h = absurd (let b : 0 < 0 = h in omega (arith, b))
before_more p (x ∷ xs) ys h = by_first (p x) refl (before_more p xs ys) h
  where
    by_first : (b : Bool) → p x ≡ b → (position_or_len p xs < length xs → position_or_len p (xs ++ ys) ≡ position_or_len p xs) → cond (not b) (1 + position_or_len p xs) 0 < suc (length xs) → cond (not b) (1 + position_or_len p (xs ++ ys)) 0 ≡ cond (not b) (1 + position_or_len p xs) 0
    by_first true e again h = refl
    by_first false e again h = ap (λ n. 1 + n) (again (let b : 1 + position_or_len p xs < suc (length xs) = h in omega (arith, b)))

-- the columns of these fields
abbrev fields_of : List ℕ → ℕ → List (List ℕ) → List ColumnInfo
fields_of name s fields = map (λ f. record { inst = name; field = f; space = s }) fields

-- the fields of an owner of this name
module _ (inst field : List ℕ) where
  field_place : (name : List ℕ) (s : ℕ) (fields : List (List ℕ)) → bytes_eq name inst ≡ true →
      position_or_len (is_column_named inst field) (fields_of name s fields) ≡ position_or_len (λ f. bytes_eq f field) fields
  field_place name s [] e = refl
  field_place name s (f ∷ fs) e =
      ap (λ b. cond (not (b && bytes_eq f field)) (1 + (position_or_len (is_column_named inst field) (fields_of name s fs))) 0) e
      ∙ ap (λ n. cond (not (bytes_eq f field)) (1 + n) 0) (field_place name s fs e)

  length-fields : (name : List ℕ) (s : ℕ) (fields : List (List ℕ)) → length (fields_of name s fields) ≡ length fields
  length-fields name s [] = refl
  length-fields name s (f ∷ fs) = ap suc (length-fields name s fs)

  none_of : (name : List ℕ) (s : ℕ) (fields : List (List ℕ)) → bytes_eq name inst ≡ false → list_any (is_column_named inst field) (fields_of name s fields) ≡ false
  none_of name s [] e = refl
  none_of name s (f ∷ fs) e = ap (λ b. (b && bytes_eq f field) || list_any (is_column_named inst field) (fields_of name s fs)) e ∙ none_of name s fs e

  -- no column of a declaration that is not this owner
  none_of_inst : (d : Decl) → is_inst_named inst d ≡ false → list_any (is_column_named inst field) (columns_of d) ≡ false
  none_of_inst (Space name space) e = refl
  none_of_inst (Inst name s fields) e = none_of name s fields e
  none_of_inst (Data name s fields) e = refl
  none_of_inst (Lock name) e = refl
  none_of_inst (Barrier name count op first) e = refl

  none_of_data : (d : Decl) → is_data_named inst d ≡ false → list_any (is_column_named inst field) (data_columns_of d) ≡ false
  none_of_data (Space name space) e = refl
  none_of_data (Inst name s fields) e = refl
  none_of_data (Data name s fields) e = none_of name s fields e
  none_of_data (Lock name) e = refl
  none_of_data (Barrier name count op first) e = refl

  -- the same for both kinds of owners: this test finds one, f gives the columns of each declaration
  module _ (test : Decl → Bool) (f : Decl → List ColumnInfo) (none_here : (d : Decl) → test d ≡ false → list_any (is_column_named inst field) (f d) ≡ false) where
    -- the column of a field, with how many columns are before its owner
    record IsColumn (n : ℕ) (ds : List Decl) (first i : ℕ) : Type 0 where
      before : ℕ
      is : first ≡ n + before
      found : IsFirst (is_column_named inst field) (flat_map f ds) (before + i)

    -- an owner with these fields
    record Owns (d : Decl) (fields : List (List ℕ)) : Type 0 where
      name : List ℕ
      space : ℕ
      own : test d ≡ true → bytes_eq name inst ≡ true
      gives : f d ≡ fields_of name space fields

    column_place : (n : ℕ) (ds : List Decl) (k first i : ℕ) (o : Decl) (fields : List (List ℕ)) → Owns o fields → IsFirst test ds k → slice_get ds k ≡ Some o →
        slice_get (firsts_of f n ds) k ≡ Some first → IsFirst (λ x. bytes_eq x field) fields i → IsColumn n ds first i
    column_place n [] k first i o fields w p at has q = absurd (let b : k < 0 = p.within in omega (arith, b))
    column_place n (d ∷ ds) k first i o fields w p at has q = by_test (test d) refl (λ j fst. column_place (n + length (f d)) ds j fst i o fields w) p.at at has
      where
        here : (e : d ≡ o) → test d ≡ true → n ≡ first → IsColumn n (d ∷ ds) first i
        here e t same =
            let own : bytes_eq w.name inst ≡ true = w.own (sym (ap test e) ∙ t) in
            let gives : f d ≡ fields_of w.name w.space fields = ap f e ∙ w.gives in
            let place : position_or_len (is_column_named inst field) (f d) ≡ i = ap (position_or_len (is_column_named inst field)) gives ∙ (field_place w.name w.space fields own ∙ q.at) in
            let long : length (f d) ≡ length fields = ap length gives ∙ length-fields w.name w.space fields in
            let within : i < length fields = q.within in
            let below : position_or_len (is_column_named inst field) (f d) < length (f d) = omega (arith, place, long, within) in
            let all : length (f d ++ flat_map f ds) ≡ length (f d) + length (flat_map f ds) = length-append (f d) (flat_map f ds) in
            let first_at : position_or_len (is_column_named inst field) (f d ++ flat_map f ds) ≡ i = before_more (is_column_named inst field) (f d) (flat_map f ds) below ∙ place in
            record { before = 0; is = omega (arith, same); found = record { at = omega (arith, first_at); within = omega (arith, all, long, within) } }

        there : (j : ℕ) → test d ≡ false → IsColumn (n + length (f d)) ds first i → IsColumn n (d ∷ ds) first i
        there j t c =
            let all : length (f d ++ flat_map f ds) ≡ length (f d) + length (flat_map f ds) = length-append (f d) (flat_map f ds) in
            let later : first ≡ (n + length (f d)) + c.before = c.is in
            let past : position_or_len (is_column_named inst field) (f d ++ flat_map f ds) ≡ length (f d) + position_or_len (is_column_named inst field) (flat_map f ds) =
            past_none (is_column_named inst field) (f d) (flat_map f ds) (none_here d t) in
            let at : position_or_len (is_column_named inst field) (flat_map f ds) ≡ c.before + i = c.found.at in
            let within : c.before + i < length (flat_map f ds) = c.found.within in
            record { before = length (f d) + c.before; is = omega (arith, later); found = record { at = omega (arith, past, at); within = omega (arith, all, within) } }

        by_place : (j : ℕ) → 1 + (position_or_len test ds) ≡ j → j < suc (length ds) → test d ≡ false →
            ((j fst : ℕ) → IsFirst test ds j → slice_get ds j ≡ Some o → slice_get (firsts_of f (n + length (f d)) ds) j ≡ Some fst → IsFirst (λ x. bytes_eq x field) fields i → IsColumn (n + length (f d)) ds fst i) →
            slice_get (d ∷ ds) j ≡ Some o → slice_get (firsts_of f n (d ∷ ds)) j ≡ Some first → IsColumn n (d ∷ ds) first i
        by_place zero e b t again at has = absurd (let c : 1 + (position_or_len test ds) ≡ 0 = e in omega (arith, c))
        by_place (suc j) e b t again at has =
            there j t (again j first (record { at = (let c : 1 + (position_or_len test ds) ≡ suc j = e in omega (arith, c)); within = (let c : suc j < suc (length ds) = b in omega (arith, c)) }) at has q)

        by_test : (b : Bool) → test d ≡ b →
            ((j fst : ℕ) → IsFirst test ds j → slice_get ds j ≡ Some o → slice_get (firsts_of f (n + length (f d)) ds) j ≡ Some fst → IsFirst (λ x. bytes_eq x field) fields i → IsColumn (n + length (f d)) ds fst i) →
            cond (not b) (1 + (position_or_len test ds)) 0 ≡ k → slice_get (d ∷ ds) k ≡ Some o → slice_get (firsts_of f n (d ∷ ds)) k ≡ Some first → IsColumn n (d ∷ ds) first i
        by_test true t again e at has =
            here (same_Some d o (ap (slice_get (d ∷ ds)) e ∙ at)) t (same_Some n first (ap (slice_get (firsts_of f n (d ∷ ds))) e ∙ has))
        by_test false t again e at has = by_place k e p.within t again at has

    owner_found : (ds : List Decl) (k first i : ℕ) (o : Decl) (fields : List (List ℕ)) → Owns o fields → position test ds ≡ Some k → slice_get ds k ≡ Some o →
        slice_get (firsts_of f 0 ds) k ≡ Some first → position (λ x. bytes_eq x field) fields ≡ Some i →
        (position (is_column_named inst field) (flat_map f ds) ≡ Some (first + i)) × (first + i < length (flat_map f ds))
    owner_found ds k first i o fields w owner_at at has field_at =
        let c = column_place 0 ds k first i o fields w (first_by test ds k owner_at) at has (first_by (λ x. bytes_eq x field) fields i field_at) in
        let is : first ≡ 0 + c.before = c.is in
        let same : c.before + i ≡ first + i = omega (arith, is) in
        let within : c.before + i < length (flat_map f ds) = c.found.within in
        (first_is (is_column_named inst field) (flat_map f ds) (c.before + i) c.found ∙ ap (λ n. Some n) same, omega (arith, same, within))

-- the same in a graph
pub column_found : (g : GraphValue) (t : TablesValue) (inst field : List ℕ) (k first i : ℕ) (name : List ℕ) (s : ℕ) (fields : List (List ℕ)) → t ≡ tables_of g.decls → position (is_inst_named inst) g.decls ≡ Some k →
    slice_get g.decls k ≡ Some (Inst name s fields) → slice_get t.first_columns k ≡ Some first → position (λ f. bytes_eq f field) fields ≡ Some i →
    (position (is_column_named inst field) (columns g) ≡ Some (first + i)) × (first + i < length (columns g))
column_found g t inst field k first i name s fields tables inst_at at has field_at =
    owner_found inst field (is_inst_named inst) columns_of (none_of_inst inst field) g.decls k first i (Inst name s fields) fields (record { name = name; space = s; own = λ e. e; gives = refl }) inst_at at
    (sym (ap (λ (x : TablesValue). slice_get x.first_columns k) tables) ∙ has) field_at

pub data_column_found : (g : GraphValue) (t : TablesValue) (inst field : List ℕ) (k first i : ℕ) (name : List ℕ) (s : ℕ) (fields : List (List ℕ)) → t ≡ tables_of g.decls → position (is_data_named inst) g.decls ≡ Some k →
    slice_get g.decls k ≡ Some (Data name s fields) → slice_get t.first_data_columns k ≡ Some first → position (λ f. bytes_eq f field) fields ≡ Some i →
    (position (is_column_named inst field) (data_columns g) ≡ Some (first + i)) × (first + i < length (data_columns g))
data_column_found g t inst field k first i name s fields tables data_at at has field_at =
    owner_found inst field (is_data_named inst) data_columns_of (none_of_data inst field) g.decls k first i (Data name s fields) fields (record { name = name; space = s; own = λ e. e; gives = refl }) data_at at
    (sym (ap (λ (x : TablesValue). slice_get x.first_data_columns k) tables) ∙ has) field_at
