-- Each name of a graph is the name of one item, and so of one kind.
use Rattle.std.proofs.Common.{◌≡◌, ℕ, ◌<◌, Bool, true, false, cond, not, ◌&&◌, ◌||◌, List, [], ◌∷◌, ◌++◌, length, map, refl, sym, ◌∙◌, ap, subst, arith}
use Rattle.std.specs.Prelude.{Option, Some, None, is_some, position, find, bytes_eq, filter_map, flat_map, nat_lt}
use Rattle.std.specs.Option.{option_map_or}
use Rattle.std.specs.List.{list_any, position_or_len, AllByRecursion, cons_option}
use Rattle.std.proofs.lemmas.Bool.{ltb-true, true≢false, or_parts, or_from, le-ltb}
use Rattle.std.proofs.lemmas.Option.{none-some, same_Some}
use Rattle.std.proofs.lemmas.List.Folds.{list_any-append}
use Rattle.graph_terms.specs.declared.decl.ColumnInfo.{ColumnInfo}
use Rattle.graph_terms.specs.declared.decl.BarrierInfo.{BarrierInfo}
use Rattle.graph_terms.specs.declared.format.Format.{Format}
use Rattle.graph_terms.specs.declared.decl.Decl.{Decl}
use Rattle.graph_terms.specs.declared.decl.Decl.TheVariants as decl
use Rattle.graph_terms.specs.declared.found.Found.TheVariants as found
use Rattle.graph_terms.specs.declared.verb.Line.{Line}
use Rattle.graph_terms.specs.Name.{is_name_in}
use Rattle.graph_terms.specs.Graph.{GraphValue, decl_name, space_of, lock_of, barrier_of, named_spaces, locks, barriers}
use Rattle.graph_terms.specs.Names.{StandsFor, is_inst_named, is_data_named}
use Rattle.graph_terms.specs.Fits.{repeats, names, is_used, is_inst, is_data, decl_misnumbered, decl_tests, DeclsFit, IsGraph}
use Rattle.word_meanings.specs.WordFaults.{is_inst_name, is_data_name, is_line_name}
use Rattle.word_meanings.specs.Lookups.{IsFound, own_columns, kept_columns}
use Rattle.graph_words.proofs.Public.{each_fails}
use Rattle.word_meanings.proofs.GraphNames.{is_named, unlisted, space_agrees, lock_agrees, barrier_agrees, decls_apart, named_is}
use Rattle.word_meanings.specs.Names.{IsNamed, IsNamedDecl}
use Rattle.basics.proofs.TestedLists.{no_position, position_any, same_bytes, bytes_differ, any_right, any_append, any_map, each_append, each_map, bytes_flip}
use Rattle.word_meanings.specs.Laws.{LineNamesAreUsed, LineNamesAreNames, FoundIsAll}
use Rattle.basics.proofs.Choices.{or_true}

position_by : (b : Bool) (n m k : ℕ) → nat_lt n k ≡ b → cond b (Some n) None ≡ Some m → m < k
position_by true n m k h e = let s : n ≡ m = same_Some n m e in let l : n < k = ltb-true n k h in omega arith
position_by false n m k h e = absurd (none-some m e)

pub position_below : {X : Type 0} (t : X → Bool) (xs : List X) (n : ℕ) → position t xs ≡ Some n → n < length xs
position_below t xs n e = position_by (nat_lt (position_or_len t xs) (length xs)) (position_or_len t xs) n (length xs) refl e

-- the first declaration of a name
abbrev pub owner : List Decl → List ℕ → Option Decl
owner ds w = find (λ d. bytes_eq (decl_name d) w) ds

-- what is listed of one kind under a name is the first declaration of the name
listed_at : {Y : Type 0} (f : Decl → Option Y) (key : Y → List ℕ) (w : List ℕ) (d : Decl) (rest : List Y) (o : Option Y) → ((y : Y) → o ≡ Some y → key y ≡ decl_name d) → bytes_eq (decl_name d) w ≡ true →
    list_any (λ y. bytes_eq (key y) w) rest ≡ false → list_any (λ y. bytes_eq (key y) w) (cons_option o rest) ≡ is_some o
listed_at f key w d rest None agree here none = none
listed_at f key w d rest (Some y) agree here none = ap (λ b. b || list_any (λ z. bytes_eq (key z) w) rest) (ap (λ x. bytes_eq x w) (agree y refl) ∙ here)

passed_at : {Y : Type 0} (key : Y → List ℕ) (w : List ℕ) (d : Decl) (rest : List Y) (o : Option Y) → ((y : Y) → o ≡ Some y → key y ≡ decl_name d) → bytes_eq (decl_name d) w ≡ false →
    list_any (λ y. bytes_eq (key y) w) (cons_option o rest) ≡ list_any (λ y. bytes_eq (key y) w) rest
passed_at key w d rest None agree here = refl
passed_at key w d rest (Some y) agree here = ap (λ b. b || list_any (λ z. bytes_eq (key z) w) rest) (ap (λ x. bytes_eq x w) (agree y refl) ∙ here)

flipped : {Y : Type 0} (key : Y → List ℕ) (w : List ℕ) (ys : List Y) → list_any (λ y. bytes_eq w (key y)) ys ≡ false → list_any (λ y. bytes_eq (key y) w) ys ≡ false
flipped key w [] h = refl
flipped key w (y ∷ ys) h = let p = or_parts (bytes_eq w (key y)) (list_any (λ z. bytes_eq w (key z)) ys) h in
    or_from (bytes_eq (key y) w) (list_any (λ z. bytes_eq (key z) w) ys) (bytes_differ w (key y) p.0) (flipped key w ys p.1)

listed_by : {Y : Type 0} (f : Decl → Option Y) (key : Y → List ℕ) → ((d : Decl) (y : Y) → f d ≡ Some y → key y ≡ decl_name d) → (w : List ℕ) (d : Decl) (ds : List Decl) → list_any (bytes_eq (decl_name d)) (map decl_name ds) ≡ false →
    list_any (λ y. bytes_eq (key y) w) (filter_map f ds) ≡ option_map_or (λ e. is_some (f e)) (owner ds w) false →
    (b : Bool) → bytes_eq (decl_name d) w ≡ b →
    list_any (λ y. bytes_eq (key y) w) (cons_option (f d) (filter_map f ds)) ≡ option_map_or (λ e. is_some (f e)) (cond b (Some d) (owner ds w)) false
listed_by f key agree w d ds none again true here =
    listed_at f key w d (filter_map f ds) (f d) (agree d) here (flipped key w (filter_map f ds) (unlisted decl_name f key agree w ds (subst (λ x. list_any (bytes_eq x) (map decl_name ds) ≡ false) (same_bytes (decl_name d) w here) none)))
listed_by f key agree w d ds none again false here = passed_at key w d (filter_map f ds) (f d) (agree d) here ∙ again

listed : {Y : Type 0} (f : Decl → Option Y) (key : Y → List ℕ) → ((d : Decl) (y : Y) → f d ≡ Some y → key y ≡ decl_name d) → (w : List ℕ) (ds : List Decl) → repeats bytes_eq (map decl_name ds) ≡ false →
    list_any (λ y. bytes_eq (key y) w) (filter_map f ds) ≡ option_map_or (λ e. is_some (f e)) (owner ds w) false
listed f key agree w [] h = refl
listed f key agree w (d ∷ ds) h =
    let p = or_parts (list_any (bytes_eq (decl_name d)) (map decl_name ds)) (repeats bytes_eq (map decl_name ds)) h in
    listed_by f key agree w d ds p.0 (listed f key agree w ds p.1) (bytes_eq (decl_name d) w) refl

-- an instance has a field, and so have data
abbrev IsFielded : Format → Decl → Type 0
IsFielded fm d = decl_misnumbered fm d ≡ false

columns_by : (w : List ℕ) (name : List ℕ) (space : ℕ) (fields : List (List ℕ)) (b : Bool) → bytes_eq name w ≡ b → nat_lt (length fields) 1 ≡ false →
    list_any (λ (x : ColumnInfo). bytes_eq x.inst w) (map (λ f. record { inst = name; field = f; space = space }) fields) ≡ b
columns_by w name space [] b e h = absurd (true≢false h)
columns_by w name space (f ∷ []) b e h = ap (λ x. x || false) e ∙ or_false b
  where
    or_false : (b : Bool) → (b || false) ≡ b
    or_false true = refl
    or_false false = refl
columns_by w name space (f ∷ k ∷ fs) b e h = ap (λ x. x || list_any (λ (x : ColumnInfo). bytes_eq x.inst w) (map (λ f. record { inst = name; field = f; space = space }) (k ∷ fs))) e ∙ (ap (λ x. b || x) (columns_by w name space (k ∷ fs) b e (le-ltb (length (k ∷ fs)) 1 (omega arith))) ∙ or_same b)
  where
    or_same : (b : Bool) → (b || b) ≡ b
    or_same true = refl
    or_same false = refl

-- what has columns: an instance, or data of which the host keeps the memory
abbrev is_own : Bool → Decl → Bool
is_own false = is_inst
is_own true = is_data

abbrev is_own_named : Bool → List ℕ → Decl → Bool
is_own_named hosted w d = is_own hosted d && bytes_eq (decl_name d) w

decl_columns : (fm : Format) (w : List ℕ) (hosted : Bool) (d : Decl) → IsFielded fm d → list_any (λ (x : ColumnInfo). bytes_eq x.inst w) (own_columns hosted d) ≡ is_own_named hosted w d
decl_columns fm w false (decl.Inst name space fields) h = columns_by w name space fields (bytes_eq name w) refl h
decl_columns fm w true (decl.Data name space fields) h = columns_by w name space fields (bytes_eq name w) refl h
decl_columns fm w false d h = refl
decl_columns fm w true d h = refl

-- the name of an instance or of data is that of a column's owner
owners_listed : (fm : Format) (w : List ℕ) (hosted : Bool) (ds : List Decl) → AllByRecursion (IsFielded fm) ds → list_any (λ (x : ColumnInfo). bytes_eq x.inst w) (flat_map (own_columns hosted) ds) ≡ list_any (is_own_named hosted w) ds
owners_listed fm w hosted [] h = refl
owners_listed fm w hosted (d ∷ ds) h = list_any-append (λ (x : ColumnInfo). bytes_eq x.inst w) (own_columns hosted d) (flat_map (own_columns hosted) ds)
    ∙ (ap (λ x. x || list_any (λ (x : ColumnInfo). bytes_eq x.inst w) (flat_map (own_columns hosted) ds)) (decl_columns fm w hosted d h.0) ∙ ap (λ x. is_own_named hosted w d || x) (owners_listed fm w hosted ds h.1))

abbrev owner_of : Bool → Decl → Option (List ℕ)
owner_of hosted d = cond (is_own hosted d) (Some (decl_name d)) None

owner_agrees : (hosted : Bool) (d : Decl) (y : List ℕ) → owner_of hosted d ≡ Some y → y ≡ decl_name d
owner_agrees false (decl.Inst name space fields) y e = sym (same_Some name y e)
owner_agrees true (decl.Data name space fields) y e = sym (same_Some name y e)
owner_agrees false d y e = absurd (none-some y e)
owner_agrees true d y e = absurd (none-some y e)

owner_at : (w : List ℕ) (hosted : Bool) (d : Decl) (rest : List (List ℕ)) → list_any (λ y. bytes_eq y w) (cons_option (owner_of hosted d) rest) ≡ (is_own_named hosted w d || list_any (λ y. bytes_eq y w) rest)
owner_at w false (decl.Inst name space fields) rest = refl
owner_at w true (decl.Data name space fields) rest = refl
owner_at w false d rest = refl
owner_at w true d rest = refl

owners_mapped : (w : List ℕ) (hosted : Bool) (ds : List Decl) → list_any (λ y. bytes_eq y w) (filter_map (owner_of hosted) ds) ≡ list_any (is_own_named hosted w) ds
owners_mapped w hosted [] = refl
owners_mapped w hosted (d ∷ ds) = owner_at w hosted d (filter_map (owner_of hosted) ds) ∙ ap (λ x. is_own_named hosted w d || x) (owners_mapped w hosted ds)

fielded : (fm : Format) (before ds : List Decl) → DeclsFit fm before ds → AllByRecursion (IsFielded fm) ds
fielded fm before [] f = tt
fielded fm before (d ∷ ds) f = ((each_fails (decl_tests (record { format = fm; decls = before; lines = [] }) d) f.1).1.1.1.0, fielded fm (before ++ d ∷ []) ds f.2)

-- the kinds of the first declaration of a word, or of none
pub record Kinds (g : GraphValue) (w : List ℕ) (o : Option Decl) : Type 0 where
  pub spaces : list_any (λ (x : List ℕ × List (ℕ × ℕ)). bytes_eq x.0 w) (named_spaces g) ≡ option_map_or (λ e. is_some (space_of e)) o false
  pub locks : list_any (bytes_eq w) (locks g) ≡ option_map_or (λ e. is_some (lock_of e)) o false
  pub barriers : list_any (λ (x : BarrierInfo). bytes_eq x.name w) (barriers g) ≡ option_map_or (λ e. is_some (barrier_of e)) o false
  pub insts : list_any (is_inst_named w) g.decls ≡ option_map_or is_inst o false
  pub columns : is_inst_name g w ≡ option_map_or is_inst o false
  pub hosts : list_any (is_data_named w) g.decls ≡ option_map_or is_data o false
  pub hosted : is_data_name g w ≡ option_map_or is_data o false
  pub lines : is_some o ≡ true → list_any (λ (x : Line). bytes_eq x.name w) g.lines ≡ false

flip_any : (w : List ℕ) (ys : List (List ℕ)) → list_any (bytes_eq w) ys ≡ list_any (λ y. bytes_eq y w) ys
flip_any w [] = refl
flip_any w (y ∷ ys) = ap (λ b. b || list_any (bytes_eq w) ys) (bytes_flip w y) ∙ ap (λ b. bytes_eq y w || b) (flip_any w ys)

owner_some : (hosted : Bool) (o : Option Decl) → option_map_or (λ e. is_some (owner_of hosted e)) o false ≡ option_map_or (is_own hosted) o false
owner_some hosted None = refl
owner_some false (Some (decl.Inst name space fields)) = refl
owner_some true (Some (decl.Data name space fields)) = refl
owner_some false (Some d) = refl
owner_some true (Some d) = refl

named_owner : (g : GraphValue) → IsNamed g → (hosted : Bool) (w : List ℕ) → list_any (is_own_named hosted w) g.decls ≡ option_map_or (is_own hosted) (owner g.decls w) false
named_owner g n hosted w = sym (owners_mapped w hosted g.decls) ∙ (listed (owner_of hosted) (λ y. y) (owner_agrees hosted) w g.decls (decls_apart g n) ∙ owner_some hosted (owner g.decls w))

-- a name that columns of one kind have is that of no column of the other
abbrev pub owns_columns : Bool → GraphValue → List ℕ → Bool
owns_columns hosted g w = list_any (λ (x : ColumnInfo). bytes_eq x.inst w) (kept_columns hosted g)

fields_none : (w name : List ℕ) (space : ℕ) (fields : List (List ℕ)) → bytes_eq name w ≡ false → list_any (λ (x : ColumnInfo). bytes_eq x.inst w) (map (λ f. record { inst = name; field = f; space = space }) fields) ≡ false
fields_none w name space [] h = refl
fields_none w name space (f ∷ fs) h = or_from (bytes_eq name w) _ h (fields_none w name space fs h)

owner_none : (w : List ℕ) (hosted : Bool) (d : Decl) → is_own_named hosted w d ≡ false → list_any (λ (x : ColumnInfo). bytes_eq x.inst w) (own_columns hosted d) ≡ false
owner_none w false (decl.Inst name space fields) h = fields_none w name space fields h
owner_none w true (decl.Data name space fields) h = fields_none w name space fields h
owner_none w false d h = refl
owner_none w true d h = refl

owners_none : (w : List ℕ) (hosted : Bool) (ds : List Decl) → list_any (is_own_named hosted w) ds ≡ false → list_any (λ (x : ColumnInfo). bytes_eq x.inst w) (flat_map (own_columns hosted) ds) ≡ false
owners_none w hosted [] h = refl
owners_none w hosted (d ∷ ds) h = let p = or_parts (is_own_named hosted w d) (list_any (is_own_named hosted w) ds) h in
    any_append (λ (x : ColumnInfo). bytes_eq x.inst w) (own_columns hosted d) (flat_map (own_columns hosted) ds) (owner_none w hosted d p.0) (owners_none w hosted ds p.1)

one_kind : (hosted : Bool) (o : Option Decl) → option_map_or (is_own hosted) o false ≡ true → option_map_or (is_own (not hosted)) o false ≡ false
one_kind false (Some (decl.Inst name space fields)) h = refl
one_kind true (Some (decl.Data name space fields)) h = refl
one_kind false (Some d) h = absurd (true≢false (sym h))
one_kind true (Some d) h = absurd (true≢false (sym h))
one_kind hosted None h = absurd (true≢false (sym h))

true_from : (b c : Bool) → (b ≡ false → c ≡ false) → c ≡ true → b ≡ true
true_from true c f h = refl
true_from false c f h = absurd (true≢false (sym h ∙ f refl))

pub one_owner : (g : GraphValue) → IsNamed g → (hosted : Bool) (w : List ℕ) → owns_columns hosted g w ≡ true → owns_columns (not hosted) g w ≡ false
one_owner g n hosted w h =
    let named = true_from (list_any (is_own_named hosted w) g.decls) (owns_columns hosted g w) (owners_none w hosted g.decls) h in
    owners_none w (not hosted) g.decls (named_owner g n (not hosted) w ∙ one_kind hosted (owner g.decls w) (sym (named_owner g n hosted w) ∙ named))

owner_named : (w : List ℕ) (ds : List Decl) → is_some (owner ds w) ≡ list_any (λ y. bytes_eq y w) (map decl_name ds)
owner_named w [] = refl
owner_named w (d ∷ ds) = owner_by (bytes_eq (decl_name d) w) d (owner ds w) (list_any (λ y. bytes_eq y w) (map decl_name ds)) (owner_named w ds)
  where
    owner_by : (b : Bool) (d : Decl) (o : Option Decl) (c : Bool) → is_some o ≡ c → is_some (cond b (Some d) o) ≡ (b || c)
    owner_by true d o c h = refl
    owner_by false d o c h = h

-- a name in the first part of a list without repetitions is not in the second
apart_at : (x : List ℕ) (xs ys : List (List ℕ)) (w : List ℕ) → (b : Bool) → bytes_eq x w ≡ b → list_any (bytes_eq x) (xs ++ ys) ≡ false → (list_any (λ y. bytes_eq y w) xs ≡ true → list_any (λ y. bytes_eq y w) ys ≡ false) →
    (b || list_any (λ y. bytes_eq y w) xs) ≡ true → list_any (λ y. bytes_eq y w) ys ≡ false
apart_at x xs ys w true e n again k = flipped (λ y. y) w ys (subst (λ z. list_any (bytes_eq z) ys ≡ false) (same_bytes x w e) (any_right (bytes_eq x) xs ys n))
apart_at x xs ys w false e n again k = again k

apart_lists : (xs ys : List (List ℕ)) (w : List ℕ) → repeats bytes_eq (xs ++ ys) ≡ false → list_any (λ y. bytes_eq y w) xs ≡ true → list_any (λ y. bytes_eq y w) ys ≡ false
apart_lists [] ys w r h = absurd (true≢false (sym h))
apart_lists (x ∷ xs) ys w r h =
    let p = or_parts (list_any (bytes_eq x) (xs ++ ys)) (repeats bytes_eq (xs ++ ys)) r in
    apart_at x xs ys w (bytes_eq x w) refl p.0 (apart_lists xs ys w p.1) h

pub kinds_of : (g : GraphValue) (w : List ℕ) → IsGraph g → Kinds g w (owner g.decls w)
kinds_of g w h =
    let n = is_named g h in
    let d : repeats bytes_eq (map decl_name g.decls) ≡ false = decls_apart g n in
    let fields = fielded g.format [] g.decls h.decls in
    let i : list_any (is_inst_named w) g.decls ≡ option_map_or is_inst (owner g.decls w) false = named_owner g n false w in
    let j : list_any (is_data_named w) g.decls ≡ option_map_or is_data (owner g.decls w) false = named_owner g n true w in
    record {
      spaces = listed space_of (λ (x : List ℕ × List (ℕ × ℕ)). x.0) space_agrees w g.decls d;
      locks = flip_any w (locks g) ∙ listed lock_of (λ (x : List ℕ). x) lock_agrees w g.decls d;
      barriers = listed barrier_of (λ (x : BarrierInfo). x.name) barrier_agrees w g.decls d;
      insts = i;
      columns = owners_listed g.format w false g.decls fields ∙ i;
      hosts = j;
      hosted = owners_listed g.format w true g.decls fields ∙ j;
      lines = λ s. sym (any_map (λ y. bytes_eq y w) (λ (x : Line). x.name) g.lines) ∙ apart_lists (map decl_name g.decls) (map (λ (x : Line). x.name) g.lines) w n.apart (sym (owner_named w g.decls) ∙ s);
    }

pub used_is : (g : GraphValue) (w : List ℕ) → is_used g w ≡ (is_some (owner g.decls w) || list_any (λ (x : Line). bytes_eq x.name w) g.lines)
used_is g w = flip_any w (names g) ∙ (list_any-append (λ y. bytes_eq y w) (map decl_name g.decls) (map (λ (x : Line). x.name) g.lines)
    ∙ (ap (λ b. b || list_any (λ y. bytes_eq y w) (map (λ (x : Line). x.name) g.lines)) (sym (owner_named w g.decls)) ∙ ap (λ b. is_some (owner g.decls w) || b) (any_map (λ y. bytes_eq y w) (λ (x : Line). x.name) g.lines)))

module _ (g : GraphValue) (w : List ℕ) where
  listed_here : {X : Type 0} (t : X → Bool) (xs : List X) (n : ℕ) → position t xs ≡ Some n → list_any t xs ≡ true
  listed_here t xs n h = position_any t xs ∙ ap is_some h

  nsp : list_any (λ (x : List ℕ × List (ℕ × ℕ)). bytes_eq x.0 w) (named_spaces g) ≡ false → position (λ (x : List ℕ × List (ℕ × ℕ)). bytes_eq x.0 w) (named_spaces g) ≡ None
  nsp h = no_position (λ (x : List ℕ × List (ℕ × ℕ)). bytes_eq x.0 w) (named_spaces g) h

  hsp : (n : ℕ) → position (λ (x : List ℕ × List (ℕ × ℕ)). bytes_eq x.0 w) (named_spaces g) ≡ Some n → list_any (λ (x : List ℕ × List (ℕ × ℕ)). bytes_eq x.0 w) (named_spaces g) ≡ true
  hsp n h = listed_here (λ (x : List ℕ × List (ℕ × ℕ)). bytes_eq x.0 w) (named_spaces g) n h

  nlk : list_any (bytes_eq w) (locks g) ≡ false → position (bytes_eq w) (locks g) ≡ None
  nlk h = no_position (bytes_eq w) (locks g) h

  hlk : (n : ℕ) → position (bytes_eq w) (locks g) ≡ Some n → list_any (bytes_eq w) (locks g) ≡ true
  hlk n h = listed_here (bytes_eq w) (locks g) n h

  nbr : list_any (λ (x : BarrierInfo). bytes_eq x.name w) (barriers g) ≡ false → position (λ (x : BarrierInfo). bytes_eq x.name w) (barriers g) ≡ None
  nbr h = no_position (λ (x : BarrierInfo). bytes_eq x.name w) (barriers g) h

  hbr : (n : ℕ) → position (λ (x : BarrierInfo). bytes_eq x.name w) (barriers g) ≡ Some n → list_any (λ (x : BarrierInfo). bytes_eq x.name w) (barriers g) ≡ true
  hbr n h = listed_here (λ (x : BarrierInfo). bytes_eq x.name w) (barriers g) n h

  nln : list_any (λ (x : Line). bytes_eq x.name w) g.lines ≡ false → position (λ (x : Line). bytes_eq x.name w) g.lines ≡ None
  nln h = no_position (λ (x : Line). bytes_eq x.name w) g.lines h

  hln : (n : ℕ) → position (λ (x : Line). bytes_eq x.name w) g.lines ≡ Some n → list_any (λ (x : Line). bytes_eq x.name w) g.lines ≡ true
  hln n h = listed_here (λ (x : Line). bytes_eq x.name w) g.lines n h

  hin : (n : ℕ) → position (is_inst_named w) g.decls ≡ Some n → list_any (is_inst_named w) g.decls ≡ true
  hin n h = listed_here (is_inst_named w) g.decls n h

  hda : (n : ℕ) → position (is_data_named w) g.decls ≡ Some n → list_any (is_data_named w) g.decls ≡ true
  hda n h = listed_here (is_data_named w) g.decls n h

  none_found : (o : Option Decl) → Kinds g w o → (is_some o || list_any (λ (x : Line). bytes_eq x.name w) g.lines) ≡ false → is_used g w ≡ false → IsFound g w None
  none_found (Some d) k u h = absurd (true≢false u)
  none_found None k u h = record { used = h; space = nsp k.spaces; lock = nlk k.locks; barrier = nbr k.barriers; line = nln u; inst = k.columns; hosted = k.hosted }

  space_found : (o : Option Decl) → Kinds g w o → is_used g w ≡ (is_some o || list_any (λ (x : Line). bytes_eq x.name w) g.lines) → (s : ℕ) → StandsFor g w (found.Space s) → IsFound g w (Some (found.Space s))
  space_found None k u s h = absurd (true≢false (sym (hsp s h) ∙ k.spaces))
  space_found (Some (decl.Space n x)) k u s h = record { used = u; space = h; lock = nlk k.locks; barrier = nbr k.barriers; line = nln (k.lines refl); inst = k.columns; hosted = k.hosted }
  space_found (Some (decl.Inst n x f)) k u s h = absurd (true≢false (sym (hsp s h) ∙ k.spaces))
  space_found (Some (decl.Data n x f)) k u s h = absurd (true≢false (sym (hsp s h) ∙ k.spaces))
  space_found (Some (decl.Lock n)) k u s h = absurd (true≢false (sym (hsp s h) ∙ k.spaces))
  space_found (Some (decl.Barrier n c p f)) k u s h = absurd (true≢false (sym (hsp s h) ∙ k.spaces))

  inst_found : (o : Option Decl) → Kinds g w o → is_used g w ≡ (is_some o || list_any (λ (x : Line). bytes_eq x.name w) g.lines) → (s : ℕ) → StandsFor g w (found.Inst s) → IsFound g w (Some (found.Inst s))
  inst_found None k u s h = absurd (true≢false (sym (hin s h) ∙ k.insts))
  inst_found (Some (decl.Inst n x f)) k u s h = record { used = u; space = nsp k.spaces; lock = nlk k.locks; barrier = nbr k.barriers; line = nln (k.lines refl); inst = k.columns; hosted = k.hosted }
  inst_found (Some (decl.Space n x)) k u s h = absurd (true≢false (sym (hin s h) ∙ k.insts))
  inst_found (Some (decl.Data n x f)) k u s h = absurd (true≢false (sym (hin s h) ∙ k.insts))
  inst_found (Some (decl.Lock n)) k u s h = absurd (true≢false (sym (hin s h) ∙ k.insts))
  inst_found (Some (decl.Barrier n c p f)) k u s h = absurd (true≢false (sym (hin s h) ∙ k.insts))

  data_found : (o : Option Decl) → Kinds g w o → is_used g w ≡ (is_some o || list_any (λ (x : Line). bytes_eq x.name w) g.lines) → (s : ℕ) → StandsFor g w (found.Data s) → IsFound g w (Some (found.Data s))
  data_found None k u s h = absurd (true≢false (sym (hda s h) ∙ k.hosts))
  data_found (Some (decl.Data n x f)) k u s h = record { used = u; space = nsp k.spaces; lock = nlk k.locks; barrier = nbr k.barriers; line = nln (k.lines refl); inst = k.columns; hosted = k.hosted }
  data_found (Some d) k u s h = absurd (true≢false (sym (hda s h) ∙ k.hosts))

  lock_found : (o : Option Decl) → Kinds g w o → is_used g w ≡ (is_some o || list_any (λ (x : Line). bytes_eq x.name w) g.lines) → (s : ℕ) → StandsFor g w (found.Lock s) → IsFound g w (Some (found.Lock s))
  lock_found None k u s h = absurd (true≢false (sym (hlk s h) ∙ k.locks))
  lock_found (Some (decl.Lock n)) k u s h = record { used = u; space = nsp k.spaces; lock = h; barrier = nbr k.barriers; line = nln (k.lines refl); inst = k.columns; hosted = k.hosted }
  lock_found (Some (decl.Space n x)) k u s h = absurd (true≢false (sym (hlk s h) ∙ k.locks))
  lock_found (Some (decl.Inst n x f)) k u s h = absurd (true≢false (sym (hlk s h) ∙ k.locks))
  lock_found (Some (decl.Data n x f)) k u s h = absurd (true≢false (sym (hlk s h) ∙ k.locks))
  lock_found (Some (decl.Barrier n c p f)) k u s h = absurd (true≢false (sym (hlk s h) ∙ k.locks))

  barrier_found : (o : Option Decl) → Kinds g w o → is_used g w ≡ (is_some o || list_any (λ (x : Line). bytes_eq x.name w) g.lines) → (s : ℕ) → StandsFor g w (found.Barrier s) → IsFound g w (Some (found.Barrier s))
  barrier_found None k u s h = absurd (true≢false (sym (hbr s h) ∙ k.barriers))
  barrier_found (Some (decl.Barrier n c p f)) k u s h = record { used = u; space = nsp k.spaces; lock = nlk k.locks; barrier = h; line = nln (k.lines refl); inst = k.columns; hosted = k.hosted }
  barrier_found (Some (decl.Space n x)) k u s h = absurd (true≢false (sym (hbr s h) ∙ k.barriers))
  barrier_found (Some (decl.Data n x f)) k u s h = absurd (true≢false (sym (hbr s h) ∙ k.barriers))
  barrier_found (Some (decl.Inst n x f)) k u s h = absurd (true≢false (sym (hbr s h) ∙ k.barriers))
  barrier_found (Some (decl.Lock n)) k u s h = absurd (true≢false (sym (hbr s h) ∙ k.barriers))

  line_found : (o : Option Decl) → Kinds g w o → is_used g w ≡ (is_some o || list_any (λ (x : Line). bytes_eq x.name w) g.lines) → (s : ℕ) → StandsFor g w (found.Line s) → IsFound g w (Some (found.Line s))
  line_found None k u s h = record { used = u ∙ hln s h; space = nsp k.spaces; lock = nlk k.locks; barrier = nbr k.barriers; line = h; inst = k.columns; hosted = k.hosted }
  line_found (Some d) k u s h = absurd (true≢false (sym (hln s h) ∙ k.lines refl))

pub is_found : FoundIsAll
is_found g w n None h = none_found g w (owner g.decls w) (kinds_of g w n) (sym (used_is g w) ∙ h) h
is_found g w n (Some (found.Space s)) h = space_found g w (owner g.decls w) (kinds_of g w n) (used_is g w) s h
is_found g w n (Some (found.Inst s)) h = inst_found g w (owner g.decls w) (kinds_of g w n) (used_is g w) s h
is_found g w n (Some (found.Data s)) h = data_found g w (owner g.decls w) (kinds_of g w n) (used_is g w) s h
is_found g w n (Some (found.Lock s)) h = lock_found g w (owner g.decls w) (kinds_of g w n) (used_is g w) s h
is_found g w n (Some (found.Barrier s)) h = barrier_found g w (owner g.decls w) (kinds_of g w n) (used_is g w) s h
is_found g w n (Some (found.Line s)) h = line_found g w (owner g.decls w) (kinds_of g w n) (used_is g w) s h

-- each name in use is spelled as a name
decls_named : (fm : Format) (ds : List Decl) → AllByRecursion (IsNamedDecl fm) ds → AllByRecursion (λ w. is_name_in fm w ≡ true) (map decl_name ds)
decls_named fm [] h = tt
decls_named fm (d ∷ ds) h = (named_is fm d h.0, decls_named fm ds h.1)

none_misnamed : (fm : Format) (w : List ℕ) (ns : List (List ℕ)) → AllByRecursion (λ n. is_name_in fm n ≡ true) ns → is_name_in fm w ≡ false → list_any (bytes_eq w) ns ≡ false
none_misnamed fm w [] h f = refl
none_misnamed fm w (n ∷ ns) h f = or_from (bytes_eq w n) (list_any (bytes_eq w) ns) (unlike_names (bytes_eq w n) refl) (none_misnamed fm w ns h.1 f)
  where
    unlike_names : (b : Bool) → bytes_eq w n ≡ b → b ≡ false
    unlike_names true e = absurd (true≢false (sym (ap (is_name_in fm) (same_bytes w n e) ∙ h.0) ∙ f))
    unlike_names false e = refl

pub unused_misnamed : (g : GraphValue) (w : List ℕ) → IsGraph g → is_name_in g.format w ≡ false → is_used g w ≡ false
unused_misnamed g w h f = let n = is_named g h in
    none_misnamed g.format w (names g) (each_append (λ w. is_name_in g.format w ≡ true) (map decl_name g.decls) (map (λ (x : Line). x.name) g.lines) (decls_named g.format g.decls n.decls) (each_map (λ w. is_name_in g.format w ≡ true) (λ (x : Line). x.name) g.lines n.lines)) f

-- words that name lines are in use, and spelled as names
pub line_used : LineNamesAreUsed
line_used g w h = used_is g w ∙ (ap (λ b. is_some (owner g.decls w) || b) h ∙ or_true (is_some (owner g.decls w)))

line_named_by : (g : GraphValue) (w : List ℕ) (b : Bool) → IsGraph g → is_line_name g w ≡ true → is_name_in g.format w ≡ b → b ≡ true
line_named_by g w true n h e = refl
line_named_by g w false n h e = absurd (true≢false (sym (line_used g w h) ∙ unused_misnamed g w n e))

pub line_named : LineNamesAreNames
line_named g w n h = line_named_by g w (is_name_in g.format w) n h refl
