-- Words in the place of a column.
use Rattle.std.proofs.Common.{◌≡◌, ℕ, Bool, true, false, cond, not, ◌&&◌, ◌||◌, List, [], ◌∷◌, refl, sym, ◌∙◌, ap, subst}
use Rattle.std.specs.Prelude.{Option, Some, None, is_some, position, unwrap_or, bytes_eq}
use Rattle.std.specs.List.{list_any}
use Rattle.std.proofs.lemmas.Bool.{true≢false, and_parts, and_from}
use Rattle.std.proofs.lemmas.Option.{none-some, same_Some}
use Rattle.graph_terms.specs.declared.decl.ColumnInfo.{ColumnInfo}
use Rattle.graph_terms.specs.declared.format.Format.{Format}
use Rattle.graph_terms.specs.Name.{is_name_in}
use Rattle.graph_terms.specs.Graph.{GraphValue, columns, data_columns}
use Rattle.graph_terms.specs.Names.{is_column_named}
use Rattle.graph_terms.specs.Fits.{IsGraph, is_used}
use Rattle.graph_terms.specs.declared.found.Found.{Found}
use Rattle.graph_words.specs.Words.{pieces, is_two_names, is_column, first_piece}
use Rattle.graph_words.specs.Cuts.{two_pieces}
use Rattle.word_meanings.specs.WordFaults.{has_column, is_inst_name, has_data_column, is_data_name, lacks_field}
use Rattle.word_meanings.specs.Lookups.{kept_columns, column_place, named_pair, column_names, IsFound, is_found_inst, is_found_data}
use Rattle.word_meanings.specs.Telling.{Tells, place_of_column, no_column_seen, named_number, placed_value}
use Rattle.word_meanings.specs.Telling as telling
use Rattle.basics.proofs.TestedLists.{same_bytes, within, first_is, no_position, position_any}
use Rattle.word_meanings.proofs.GraphNames.{is_named, known_column}
use Rattle.word_meanings.specs.Names.{IsNamed}
use Rattle.word_meanings.proofs.Places.{FinePieces, keeps_column, keeps_by, column_number_is, column_parts, column_fine}
use Rattle.word_meanings.proofs.Owners.{owns_columns, one_owner}

pair_by : (b : Bool) (p q r s : List ℕ) → cond {A = Option (List ℕ × List ℕ)} b (Some (p, q)) None ≡ Some (r, s) → (p ≡ r) × (q ≡ s)
pair_by true p q r s h = let e = same_Some (p, q) (r, s) h in (ap (λ (x : List ℕ × List ℕ). x.0) e, ap (λ (x : List ℕ × List ℕ). x.1) e)
pair_by false p q r s h = absurd (none-some (r, s) h)

pieces_by : (fm : Format) (ps : List (List ℕ)) (a b : List ℕ) → named_pair fm (two_pieces ps) ≡ Some (a, b) → ps ≡ a ∷ b ∷ []
pieces_by fm [] a b h = absurd (none-some (a, b) h)
pieces_by fm (p ∷ []) a b h = absurd (none-some (a, b) h)
pieces_by fm (p ∷ q ∷ []) a b h = let e = pair_by (is_name_in fm p && is_name_in fm q) p q a b h in ap (λ x. x ∷ q ∷ []) e.0 ∙ ap (λ x. a ∷ x ∷ []) e.1
pieces_by fm (p ∷ q ∷ r ∷ rs) a b h = absurd (none-some (a, b) h)

-- each column has the names of an instance, or of data, and a field
named_both : (g : GraphValue) (hosted : Bool) (a b : List ℕ) → IsNamed g → (t : Bool) → list_any (is_column_named a b) (kept_columns hosted g) ≡ t → (is_name_in g.format a && is_name_in g.format b) ≡ false → t ≡ false
named_both g hosted a b n false e f = refl
named_both g hosted a b n true e f =
    let x = first_is (is_column_named a b) (kept_columns hosted g) e in
    let k = known_column g n hosted _ (within (kept_columns hosted g) _ x.0 x.1) in
    let same : k.0 ≡ x.0 = same_Some k.0 x.0 (sym k.1.at ∙ x.1) in
    let p = and_parts (bytes_eq (x.0).inst a) (bytes_eq (x.0).field b) x.2 in
    let i : is_name_in g.format a ≡ true = ap (is_name_in g.format) (sym (same_bytes (x.0).inst a p.0)) ∙ (ap (λ (y : ColumnInfo). is_name_in g.format y.inst) (sym same) ∙ k.1.inst) in
    let j : is_name_in g.format b ≡ true = ap (is_name_in g.format) (sym (same_bytes (x.0).field b p.1)) ∙ (ap (λ (y : ColumnInfo). is_name_in g.format y.field) (sym same) ∙ k.1.field) in
    absurd (true≢false (sym (ap (λ y. y && is_name_in g.format b) i ∙ j) ∙ f))

none_by : (b : Bool) (x : List ℕ × List ℕ) → cond b (Some x) None ≡ None → b ≡ false
none_by true x h = absurd (none-some x (sym h))
none_by false x h = refl

no_pair : (g : GraphValue) (hosted : Bool) (ps : List (List ℕ)) → IsNamed g → named_pair g.format (two_pieces ps) ≡ None → column_place g hosted ps ≡ None
no_pair g hosted [] n h = refl
no_pair g hosted (p ∷ []) n h = refl
no_pair g hosted (p ∷ q ∷ []) n h = no_position (is_column_named p q) (kept_columns hosted g)
    (named_both g hosted p q n (list_any (is_column_named p q) (kept_columns hosted g)) refl (none_by (is_name_in g.format p && is_name_in g.format q) (p, q) h))
no_pair g hosted (p ∷ q ∷ r ∷ rs) n h = refl

pub no_column : (g : GraphValue) (hosted : Bool) (w : List ℕ) → IsGraph g → column_names g.format w ≡ None → column_place g hosted (pieces 46 w) ≡ None
unfolding column_names
no_column g hosted w n h = no_pair g hosted (pieces 46 w) (is_named g n) h

-- the words of the definitions
keeps_is : (g : GraphValue) (hosted : Bool) (ps : List (List ℕ)) → keeps_column hosted g ps ≡ is_some (column_place g hosted ps)
keeps_is g false (p ∷ q ∷ []) = position_any (is_column_named p q) (columns g)
keeps_is g true (p ∷ q ∷ []) = position_any (is_column_named p q) (data_columns g)
keeps_is g false ps = refl
keeps_is g true ps = refl

two_named_by : (b : Bool) (x : List ℕ × List ℕ) → b ≡ is_some (cond b (Some x) None)
two_named_by true x = refl
two_named_by false x = refl

two_named : (fm : Format) (ps : List (List ℕ)) → is_two_names fm ps ≡ is_some (named_pair fm (two_pieces ps))
two_named fm [] = refl
two_named fm (p ∷ []) = refl
two_named fm (p ∷ q ∷ []) = two_named_by (is_name_in fm p && is_name_in fm q) (p, q)
two_named fm (p ∷ q ∷ r ∷ rs) = refl

pub is_column_by : (fm : Format) (w : List ℕ) → is_column fm w ≡ is_some (column_names fm w)
unfolding column_names
is_column_by fm w = two_named fm (pieces 46 w)

two_by : (ps : List (List ℕ)) (a b : List ℕ) → two_pieces ps ≡ Some (a, b) → ps ≡ a ∷ b ∷ []
two_by [] a b h = absurd (none-some (a, b) h)
two_by (p ∷ []) a b h = absurd (none-some (a, b) h)
two_by (p ∷ q ∷ []) a b h = let e = pair_by true p q a b h in ap (λ x. x ∷ q ∷ []) e.0 ∙ ap (λ x. a ∷ x ∷ []) e.1
two_by (p ∷ q ∷ r ∷ rs) a b h = absurd (none-some (a, b) h)

-- the column of two names, one of which is spelled as none, or of pieces that are not two
pub place_of_two : (g : GraphValue) (hosted : Bool) (ps : List (List ℕ)) (a b : List ℕ) → two_pieces ps ≡ Some (a, b) → column_place g hosted ps ≡ position (is_column_named a b) (kept_columns hosted g)
place_of_two g hosted ps a b h = ap (column_place g hosted) (two_by ps a b h)

pub place_of_misnamed : (g : GraphValue) (hosted : Bool) (ps : List (List ℕ)) (a b : List ℕ) → IsGraph g → two_pieces ps ≡ Some (a, b) → (is_name_in g.format a && is_name_in g.format b) ≡ false → column_place g hosted ps ≡ None
place_of_misnamed g hosted ps a b n h f = place_of_two g hosted ps a b h ∙ no_position (is_column_named a b) (kept_columns hosted g) (named_both g hosted a b (is_named g n) (list_any (is_column_named a b) (kept_columns hosted g)) refl f)

-- the pieces that name a column
fine_pieces : (g : GraphValue) (hosted : Bool) (ps : List (List ℕ)) (c : ℕ) → IsNamed g → Some c ≡ column_place g hosted ps → FinePieces g hosted ps
fine_pieces g hosted [] c n k = absurd (none-some c (sym k))
fine_pieces g hosted (p ∷ []) c n k = absurd (none-some c (sym k))
fine_pieces g hosted (p ∷ q ∷ r ∷ rs) c n k = absurd (none-some c (sym k))
fine_pieces g hosted (a ∷ b ∷ []) c n k =
    let there : list_any (is_column_named a b) (kept_columns hosted g) ≡ true = position_any (is_column_named a b) (kept_columns hosted g) ∙ ap (λ (x : Option ℕ). is_some x) (sym k) in
    let x = first_is (is_column_named a b) (kept_columns hosted g) there in
    let m = known_column g n hosted _ (within (kept_columns hosted g) _ x.0 x.1) in
    let same : m.0 ≡ x.0 = same_Some m.0 x.0 (sym m.1.at ∙ x.1) in
    let q = and_parts (bytes_eq (x.0).inst a) (bytes_eq (x.0).field b) x.2 in
    let inst : (m.0).inst ≡ a = ap (λ (y : ColumnInfo). y.inst) same ∙ same_bytes (x.0).inst a q.0 in
    let field : (m.0).field ≡ b = ap (λ (y : ColumnInfo). y.field) same ∙ same_bytes (x.0).field b q.1 in
    let own : owns_columns hosted g a ≡ true = ap (owns_columns hosted g) (sym inst) ∙ (column_parts g hosted _ m.0 m.1).0 in
    record {
      named = and_from (is_name_in g.format a) (is_name_in g.format b) (ap (is_name_in g.format) (sym inst) ∙ m.1.inst) (ap (is_name_in g.format) (sym field) ∙ m.1.field);
      used = ap (is_used g) (sym inst) ∙ m.1.used;
      own = own;
      other = one_owner g n hosted a own;
      there = keeps_by g hosted a b there;
    }

-- what is to be said of a column that there is
number_by : (g : GraphValue) (hosted : Bool) (w : List ℕ) → named_number g (place_of_column hosted) w ≡ unwrap_or (column_place g hosted (pieces 46 w)) 0
number_by g false w = column_number_is g false (pieces 46 w)
number_by g true w = column_number_is g true (pieces 46 w)

no_value : (hosted : Bool) (w : List ℕ) → placed_value (place_of_column hosted) w ≡ 0
no_value false w = refl
no_value true w = refl

pub known_tells : (g : GraphValue) (hosted : Bool) (w : List ℕ) (c : ℕ) → IsGraph g → Some c ≡ column_place g hosted (pieces 46 w) → Tells g (place_of_column hosted) w (telling.known_column c)
known_tells g hosted w c n k =
    let fine = column_fine g hosted w (fine_pieces g hosted (pieces 46 w) c (is_named g n) k) in
    record {
      misnamed = sym fine.named;
      twice = sym fine.once;
      unknown = sym fine.known;
      unlike = sym fine.alike;
      misnumbered = sym fine.numbered;
      number = ap (λ (x : Option ℕ). unwrap_or x 0) k ∙ sym (number_by g hosted w);
      value = sym (no_value hosted w);
    }

-- what is to be said of one that there is not
lacks_by : (g : GraphValue) (ps : List (List ℕ)) (o : Option Found) (c d : Bool) → IsFound g (first_piece ps) o → has_column g ps ≡ c → has_data_column g ps ≡ d →
    (not (is_some o) || ((is_found_inst o && not c) || (is_found_data o && not d))) ≡ (not (is_used g (first_piece ps)) || lacks_field g ps)
lacks_by g ps o c d f h k =
    ap (λ b. not b || ((is_found_inst o && not c) || (is_found_data o && not d))) (sym f.used)
    ∙ (ap (λ b. not (is_used g (first_piece ps)) || ((b && not c) || (is_found_data o && not d))) (sym f.inst)
    ∙ (ap (λ b. not (is_used g (first_piece ps)) || ((is_inst_name g (first_piece ps) && not b) || (is_found_data o && not d))) (sym h)
    ∙ (ap (λ b. not (is_used g (first_piece ps)) || ((is_inst_name g (first_piece ps) && not (has_column g ps)) || (b && not d))) (sym f.hosted)
    ∙ ap (λ b. not (is_used g (first_piece ps)) || ((is_inst_name g (first_piece ps) && not (has_column g ps)) || (is_data_name g (first_piece ps) && not b))) (sym k))))

pub no_other : (g : GraphValue) (hosted : Bool) (ps : List (List ℕ)) → column_place g hosted ps ≡ None → keeps_column hosted g ps ≡ false
no_other g hosted ps h = keeps_is g hosted ps ∙ ap (λ (x : Option ℕ). is_some x) h

pub absent_tells : (g : GraphValue) (hosted : Bool) (w : List ℕ) (o : Option Found) (named other : Bool) → is_column g.format w ≡ named → IsFound g (first_piece (pieces 46 w)) o → column_place g hosted (pieces 46 w) ≡ None → keeps_column (not hosted) g (pieces 46 w) ≡ other →
    Tells g (place_of_column hosted) w (no_column_seen hosted (not named) o other)
absent_tells g false w o named other e f h k = record {
  misnamed = ap not (sym e);
  twice = refl;
  unknown = lacks_by g (pieces 46 w) o false other f (no_other g false (pieces 46 w) h) k;
  unlike = ap not (sym f.inst);
  misnumbered = refl;
  number = sym (number_by g false w ∙ ap (λ (x : Option ℕ). unwrap_or x 0) h);
  value = refl;
}
absent_tells g true w o named other e f h k = record {
  misnamed = ap not (sym e);
  twice = refl;
  unknown = lacks_by g (pieces 46 w) o other false f k (no_other g true (pieces 46 w) h);
  unlike = ap not (sym f.hosted);
  misnumbered = refl;
  number = sym (number_by g true w ∙ ap (λ (x : Option ℕ). unwrap_or x 0) h);
  value = refl;
}

-- the same of two names, and of a word that is not spelled as a column
pub absent_named : (g : GraphValue) (hosted : Bool) (w : List ℕ) (p : List ℕ × List ℕ) (o : Option Found) (q : Option ℕ) → column_names g.format w ≡ Some p → IsFound g p.0 o → column_place g hosted (pieces 46 w) ≡ None →
    q ≡ position (is_column_named p.0 p.1) (kept_columns (not hosted) g) → Tells g (place_of_column hosted) w (no_column_seen hosted false o (is_some q))
unfolding column_names
absent_named g hosted w p o q h f none k =
    let e = pieces_by g.format (pieces 46 w) p.0 p.1 h in
    absent_tells g hosted w o true (is_some q) (is_column_by g.format w ∙ ap (λ (x : Option (List ℕ × List ℕ)). is_some x) h) (subst (λ ps. IsFound g (first_piece ps) o) (sym e) f) none
    (keeps_is g (not hosted) (pieces 46 w) ∙ (ap (λ ps. is_some (column_place g (not hosted) ps)) e ∙ ap (λ (x : Option ℕ). is_some x) (sym k)))

pub absent_misspelled : (g : GraphValue) (hosted : Bool) (w : List ℕ) (o : Option Found) → IsGraph g → column_names g.format w ≡ None → IsFound g (first_piece (pieces 46 w)) o → Tells g (place_of_column hosted) w (no_column_seen hosted true o false)
absent_misspelled g hosted w o n h f =
    absent_tells g hosted w o false false (is_column_by g.format w ∙ ap (λ (x : Option (List ℕ × List ℕ)). is_some x) h) f (no_column g hosted w n h) (no_other g (not hosted) (pieces 46 w) (no_column g (not hosted) w n h))
