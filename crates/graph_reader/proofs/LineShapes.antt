-- Words by their number.
use Rattle.std.proofs.Common.{inl, inr, ◌≡◌, ℕ, ◌+◌, ◌<◌, ◌≤◌, Bool, true, false, cond, ◌&&◌, ◌||◌, List, [], ◌∷◌, ◌++◌, length, length-append, drop, refl, sym, ◌∙◌, ap, subst, arith}
use Rattle.std.specs.Prelude.{Option, Some, None, Result, option_map, slice_index_or, codes, find, zip, bytes_eq, nat_le, ◌==◌}
use Rattle.std.specs.List.{starts_with, list_any, list_all}
use Rattle.std.specs.Option.{option_map_or}
use Rattle.std.proofs.lemmas.Bool.{true≢false, and_parts, or_cases, ne_eqb, le-leb, leb-true, cond-true, cond-false, eqb-true}
use Rattle.std.proofs.lemmas.Slice.Eq.{bytes_eq-Decides, starts_is}
use Rattle.index_spaces.specs.declared.Op.{Op}
use Rattle.graph_terms.specs.declared.format.Format.{Format}
use Rattle.graph_terms.specs.declared.format.Format.TheVariants.{One, Two, Three}
use Rattle.graph_terms.specs.declared.verb.Line.{Line}
use Rattle.graph_terms.specs.declared.verb.Verb.{Verb}
use Rattle.graph_terms.specs.declared.why.Why.TheVariants as why
use Rattle.graph_reader.specs.FirstFault.{words_fault, draft_fault}
use Rattle.word_meanings.specs.Words.{is_empty}
use Rattle.graph_terms.specs.declared.verb.Verb.TheVariants.{Merge, MergeIgnore}
use Rattle.graph_terms.specs.Graph.{GraphValue}
use Rattle.graph_reader.specs.declared.item.ItemError.{ItemError}
use Rattle.graph_terms.specs.declared.table.Kind.{Kind}
use Rattle.graph_terms.specs.declared.table.Kind.TheVariants as kinds
use Rattle.graph_terms.specs.declared.table.TheConstants.{KINDS}
use Rattle.graph_reader.specs.Kinds.{kind_draft}
use Rattle.graph_reader.specs.Reading.{IsDone, IsDoneOf}
use Rattle.graph_terms.specs.Format.{has_since}
use Rattle.graph_terms.specs.Table.{kind_words}
use Rattle.graph_words.specs.Draft.{Placed, draft, merge_with, decl_draft_after, form_of, form_draft, has_events, has_room, is_own_word, is_of_form, same_word, merge_draft, line_draft, decl_draft, space_draft, inst_draft, lock_draft, barrier_draft, space_with, columns_with, barrier_with, op_of, data_draft, call_draft}
use Rattle.basics.proofs.TestedLists.{find_mapped}
use Rattle.graph_reader.specs.Laws.{WordsFillPlaces, LineBySign, DeclarationBySign, EmptyByLength, ReservationWords, BarrierWords, InstanceWords, DataWords, LineOfKind, LineOfCall, OperationsHaveTwoWords}

abbrev at : List (List ℕ) → ℕ → List ℕ
at ws i = slice_index_or ws i []

pub space_shape : (g : GraphValue) (ws : List (List ℕ)) → length ws ≡ 3 → space_draft g (drop 1 ws) ≡ Some (space_with (at ws 1) (at ws 2))
space_shape g [] h = absurd (omega (arith, h))
space_shape g (a ∷ []) h = absurd (omega (arith, h))
space_shape g (a ∷ b ∷ []) h = absurd (omega (arith, h))
space_shape g (a ∷ b ∷ c ∷ []) h = refl
space_shape g (a ∷ b ∷ c ∷ d ∷ ds) h = absurd (omega (arith, h))

pub no_space_shape : (g : GraphValue) (ws : List (List ℕ)) → (length ws ≡ 3 → ⊥) → space_draft g (drop 1 ws) ≡ None
no_space_shape g [] h = refl
no_space_shape g (a ∷ []) h = refl
no_space_shape g (a ∷ b ∷ []) h = refl
no_space_shape g (a ∷ b ∷ c ∷ []) h = absurd (h refl)
no_space_shape g (a ∷ b ∷ c ∷ d ∷ ds) h = refl

pub inst_shape : InstanceWords
inst_shape g [] h = absurd (omega (arith, h))
inst_shape g (a ∷ []) h = absurd (omega (arith, h))
inst_shape g (a ∷ b ∷ []) h = absurd (omega (arith, h))
inst_shape g (a ∷ b ∷ c ∷ []) h = absurd (omega (arith, h))
inst_shape g (a ∷ b ∷ c ∷ d ∷ []) h = refl
inst_shape g (a ∷ b ∷ c ∷ d ∷ e ∷ es) h = absurd (omega (arith, h))

pub no_inst_shape : (g : GraphValue) (ws : List (List ℕ)) → (length ws ≡ 4 → ⊥) → inst_draft g (drop 1 ws) ≡ None
no_inst_shape g [] h = refl
no_inst_shape g (a ∷ []) h = refl
no_inst_shape g (a ∷ b ∷ []) h = refl
no_inst_shape g (a ∷ b ∷ c ∷ []) h = refl
no_inst_shape g (a ∷ b ∷ c ∷ d ∷ []) h = absurd (h refl)
no_inst_shape g (a ∷ b ∷ c ∷ d ∷ e ∷ es) h = refl

pub data_shape : DataWords
data_shape g [] h t = absurd (omega (arith, h))
data_shape g (a ∷ []) h t = absurd (omega (arith, h))
data_shape g (a ∷ b ∷ []) h t = absurd (omega (arith, h))
data_shape g (a ∷ b ∷ c ∷ []) h t = absurd (omega (arith, h))
data_shape g (a ∷ b ∷ c ∷ d ∷ []) h t = cond-true (has_since Three g.format) (Some (columns_with g true b c d)) None t
data_shape g (a ∷ b ∷ c ∷ d ∷ e ∷ es) h t = absurd (omega (arith, h))

pub no_data_shape : (g : GraphValue) (ws : List (List ℕ)) → (length ws ≡ 4 → ⊥) → data_draft g (drop 1 ws) ≡ None
no_data_shape g [] h = refl
no_data_shape g (a ∷ []) h = refl
no_data_shape g (a ∷ b ∷ []) h = refl
no_data_shape g (a ∷ b ∷ c ∷ []) h = refl
no_data_shape g (a ∷ b ∷ c ∷ d ∷ []) h = absurd (h refl)
no_data_shape g (a ∷ b ∷ c ∷ d ∷ e ∷ es) h = refl

-- the format has no data
pub no_data_format : (g : GraphValue) (ws : List (List ℕ)) → has_since Three g.format ≡ false → data_draft g ws ≡ None
no_data_format g [] t = refl
no_data_format g (a ∷ []) t = refl
no_data_format g (a ∷ b ∷ []) t = refl
no_data_format g (a ∷ b ∷ c ∷ []) t = cond-false (has_since Three g.format) (Some (columns_with g true a b c)) None t
no_data_format g (a ∷ b ∷ c ∷ d ∷ ds) t = refl

pub lock_shape : ReservationWords
lock_shape g [] h = absurd (omega (arith, h))
lock_shape g (a ∷ []) h = absurd (omega (arith, h))
lock_shape g (a ∷ b ∷ []) h = refl
lock_shape g (a ∷ b ∷ c ∷ cs) h = absurd (omega (arith, h))

pub no_lock_shape : (g : GraphValue) (ws : List (List ℕ)) → (length ws ≡ 2 → ⊥) → lock_draft g (drop 1 ws) ≡ None
no_lock_shape g [] h = refl
no_lock_shape g (a ∷ []) h = refl
no_lock_shape g (a ∷ b ∷ []) h = absurd (h refl)
no_lock_shape g (a ∷ b ∷ c ∷ cs) h = refl

pub barrier_shape : BarrierWords
barrier_shape g [] h = absurd (omega (arith, h))
barrier_shape g (a ∷ []) h = absurd (omega (arith, h))
barrier_shape g (a ∷ b ∷ []) h = absurd (omega (arith, h))
barrier_shape g (a ∷ b ∷ c ∷ []) h = absurd (omega (arith, h))
barrier_shape g (a ∷ b ∷ c ∷ d ∷ []) h = absurd (omega (arith, h))
barrier_shape g (a ∷ b ∷ c ∷ d ∷ e ∷ []) h = refl
barrier_shape g (a ∷ b ∷ c ∷ d ∷ e ∷ f ∷ fs) h = absurd (omega (arith, h))

pub no_barrier_shape : (g : GraphValue) (ws : List (List ℕ)) → (length ws ≡ 5 → ⊥) → barrier_draft g (drop 1 ws) ≡ None
no_barrier_shape g [] h = refl
no_barrier_shape g (a ∷ []) h = refl
no_barrier_shape g (a ∷ b ∷ []) h = refl
no_barrier_shape g (a ∷ b ∷ c ∷ []) h = refl
no_barrier_shape g (a ∷ b ∷ c ∷ d ∷ []) h = refl
no_barrier_shape g (a ∷ b ∷ c ∷ d ∷ e ∷ []) h = absurd (h refl)
no_barrier_shape g (a ∷ b ∷ c ∷ d ∷ e ∷ f ∷ fs) h = refl

-- what is done with the words of a declaration, by each of them
pub inst_done : {T : Type 0} (g new : GraphValue) (ws : List (List ℕ)) (a b c : List ℕ) (r : Result T ItemError) → length ws ≡ 4 → a ≡ at ws 1 → b ≡ at ws 2 → c ≡ at ws 3 → IsDone g (columns_with g false a b c) new r → IsDoneOf g (inst_draft g (drop 1 ws)) new r
inst_done g new ws a b c r l p q s h = subst (λ x. IsDoneOf g x new r) (sym (inst_shape g ws l))
    (subst (λ x. IsDone g (columns_with g false x (at ws 2) (at ws 3)) new r) p (subst (λ x. IsDone g (columns_with g false a x (at ws 3)) new r) q (subst (λ x. IsDone g (columns_with g false a b x) new r) s h)))

pub barrier_done : {T : Type 0} (g new : GraphValue) (ws : List (List ℕ)) (a b c d : List ℕ) (op : Op) (r : Result T ItemError) → length ws ≡ 5 → a ≡ at ws 1 → b ≡ at ws 2 → c ≡ at ws 3 → d ≡ at ws 4 → op_of c ≡ Some op →
    IsDone g (barrier_with g.format a b op d) new r → IsDoneOf g (barrier_draft g (drop 1 ws)) new r
barrier_done g new ws a b c d op r l p q s t o h = subst (λ x. IsDoneOf g x new r) (sym (barrier_shape g ws l ∙ ap (option_map (λ x. barrier_with g.format (at ws 1) (at ws 2) x (at ws 4))) (ap op_of (sym s) ∙ o)))
    (subst (λ x. IsDone g (barrier_with g.format x (at ws 2) op (at ws 4)) new r) p (subst (λ x. IsDone g (barrier_with g.format a x op (at ws 4)) new r) q (subst (λ x. IsDone g (barrier_with g.format a b op x) new r) t h)))

pub data_done : {T : Type 0} (g new : GraphValue) (ws : List (List ℕ)) (a b c : List ℕ) (r : Result T ItemError) → length ws ≡ 4 → has_since Three g.format ≡ true → a ≡ at ws 1 → b ≡ at ws 2 → c ≡ at ws 3 → IsDone g (columns_with g true a b c) new r →
    IsDoneOf g (data_draft g (drop 1 ws)) new r
data_done g new ws a b c r l t p q s h = subst (λ x. IsDoneOf g x new r) (sym (data_shape g ws l t))
    (subst (λ x. IsDone g (columns_with g true x (at ws 2) (at ws 3)) new r) p (subst (λ x. IsDone g (columns_with g true a x (at ws 3)) new r) q (subst (λ x. IsDone g (columns_with g true a b x) new r) s h)))

-- words that begin with none of the first three
decl_later : (g : GraphValue) (w : List ℕ) (ws : List (List ℕ)) (k : List ℕ) → k ≡ w → bytes_eq k (codes "space") ≡ false → bytes_eq k (codes "inst") ≡ false → bytes_eq k (codes "lock") ≡ false →
    decl_draft g (w ∷ ws) ≡ cond (bytes_eq w (codes "barrier")) (barrier_draft g ws) (cond (bytes_eq w (codes "data")) (data_draft g ws) None)
decl_later g w ws k e a b c =
    cond-false (bytes_eq w (codes "space")) (space_draft g ws) _ (ap (λ x. bytes_eq x (codes "space")) (sym e) ∙ a)
    ∙ (cond-false (bytes_eq w (codes "inst")) (inst_draft g ws) _ (ap (λ x. bytes_eq x (codes "inst")) (sym e) ∙ b)
    ∙ cond-false (bytes_eq w (codes "lock")) (lock_draft g ws) _ (ap (λ x. bytes_eq x (codes "lock")) (sym e) ∙ c))

pub decl_barrier : (g : GraphValue) (ws : List (List ℕ)) (k : List ℕ) → k ≡ at ws 0 → bytes_eq k (codes "space") ≡ false → bytes_eq k (codes "inst") ≡ false → bytes_eq k (codes "lock") ≡ false → bytes_eq k (codes "barrier") ≡ true →
    decl_draft g ws ≡ barrier_draft g (drop 1 ws)
decl_barrier g [] k e a b c d = absurd (true≢false (sym d ∙ ap (λ x. bytes_eq x (codes "barrier")) e))
decl_barrier g (w ∷ ws) k e a b c d = decl_later g w ws k e a b c ∙ cond-true (bytes_eq w (codes "barrier")) (barrier_draft g ws) _ (ap (λ x. bytes_eq x (codes "barrier")) (sym e) ∙ d)

pub decl_data : (g : GraphValue) (ws : List (List ℕ)) (k : List ℕ) → k ≡ at ws 0 → bytes_eq k (codes "space") ≡ false → bytes_eq k (codes "inst") ≡ false → bytes_eq k (codes "lock") ≡ false → bytes_eq k (codes "barrier") ≡ false → bytes_eq k (codes "data") ≡ true →
    decl_draft g ws ≡ data_draft g (drop 1 ws)
decl_data g [] k e a b c d f = absurd (true≢false (sym f ∙ ap (λ x. bytes_eq x (codes "data")) e))
decl_data g (w ∷ ws) k e a b c d f = decl_later g w ws k e a b c
    ∙ (cond-false (bytes_eq w (codes "barrier")) (barrier_draft g ws) _ (ap (λ x. bytes_eq x (codes "barrier")) (sym e) ∙ d)
    ∙ cond-true (bytes_eq w (codes "data")) (data_draft g ws) None (ap (λ x. bytes_eq x (codes "data")) (sym e) ∙ f))

pub decl_none : (g : GraphValue) (ws : List (List ℕ)) (k : List ℕ) → k ≡ at ws 0 → bytes_eq k (codes "space") ≡ false → bytes_eq k (codes "inst") ≡ false → bytes_eq k (codes "lock") ≡ false → bytes_eq k (codes "barrier") ≡ false → bytes_eq k (codes "data") ≡ false →
    decl_draft g ws ≡ None
decl_none g [] k e a b c d f = refl
decl_none g (w ∷ ws) k e a b c d f = decl_later g w ws k e a b c
    ∙ (cond-false (bytes_eq w (codes "barrier")) (barrier_draft g ws) _ (ap (λ x. bytes_eq x (codes "barrier")) (sym e) ∙ d)
    ∙ cond-false (bytes_eq w (codes "data")) (data_draft g ws) None (ap (λ x. bytes_eq x (codes "data")) (sym e) ∙ f))

abbrev found_kind : Format → List Kind → List (List ℕ) → Option Kind
found_kind fm ks ws = find (λ k. is_of_form fm ws (form_of k)) ks

no_words : (fm : Format) (k : Kind) → is_of_form fm [] (form_of k) ≡ false
no_words fm kinds.User = refl
no_words fm k = refl

none_there : (fm : Format) (ks : List Kind) → found_kind fm ks [] ≡ None
none_there fm [] = refl
none_there fm (k ∷ ks) = cond-false (is_of_form fm [] (form_of k)) (Some k) (found_kind fm ks []) (no_words fm k) ∙ none_there fm ks

pub line_kind : LineOfKind
line_kind g name [] v o e a b c h = sym (ap (option_map (λ k. kind_draft g k name (drop (length (form_of k).words) []))) (sym h ∙ none_there g.format KINDS))
line_kind g name (w ∷ ws) v o e a b c h =
    cond-false (bytes_eq w (codes "merge")) (merge_draft g name Merge ws) _ (ap (λ x. bytes_eq x (codes "merge")) (sym e) ∙ a)
    ∙ (cond-false (bytes_eq w (codes "mergei")) (merge_draft g name MergeIgnore ws) _ (ap (λ x. bytes_eq x (codes "mergei")) (sym e) ∙ b)
    ∙ (cond-false (bytes_eq w (codes "call")) (call_draft g name ws) _ (ap (λ x. bytes_eq x (codes "call")) (sym e) ∙ c)
    ∙ (ap (option_map (λ f. form_draft g name (drop (length f.words) (w ∷ ws)) f)) (find_mapped (is_of_form g.format (w ∷ ws)) form_of KINDS ∙ ap (option_map form_of) h) ∙ option_twice o)))
  where
    option_twice : (o : Option Kind) → option_map (λ f. form_draft g name (drop (length f.words) (w ∷ ws)) f) (option_map form_of o) ≡ option_map (λ k. kind_draft g k name (drop (length (form_of k).words) (w ∷ ws))) o
    option_twice None = refl
    option_twice (Some k) = refl

-- where events are there, two words at least stand behind the places
pub events_long : (fm : Format) (n m : ℕ) → has_events fm n m ≡ true → n + 2 ≤ m
events_long One n m h = let e : m ≡ n + 2 = eqb-true m (n + 2) h in omega arith
events_long Two n m h = let e : m ≡ n + 2 = eqb-true m (n + 2) h in omega arith
events_long Three n m h = leb-true (n + 2) m h

-- as many words stand behind the fixed ones as the places ask for, or more
room_by : (fm : Format) (t : Bool) (n m : ℕ) (b : Bool) → (n == m || (t && (has_events fm m n && b))) ≡ true → m ≤ n
room_by fm t n m b h = elim (or_cases (n == m) _ h) [
  | inl e ↦ (let k : n ≡ m = eqb-true n m e in omega arith)
  | inr e ↦ (let p = and_parts t (has_events fm m n && b) e in let q = and_parts (has_events fm m n) b p.1 in let k : m + 2 ≤ n = events_long fm m n q.0 in omega arith)
]

-- and there is room for them
pub room_there : (fm : Format) (kind : Kind) (ws : List (List ℕ)) → is_of_form fm ws (form_of kind) ≡ true → has_room fm (form_of kind) (drop (length (form_of kind).words) ws) ≡ true
room_there fm kind ws h =
    let p = and_parts (starts_with same_word ws (form_of kind).words) _ h in
    let q = and_parts (has_since (form_of kind).since fm) _ p.1 in
    (and_parts (has_room fm (form_of kind) (drop (length (form_of kind).words) ws)) (list_all (λ (x : Placed). is_own_word x.0 x.1) (zip (form_of kind).places (drop (length (form_of kind).words) ws))) q.1).0

pub places_there : WordsFillPlaces
places_there fm kind ws h =
    let p = and_parts (starts_with same_word ws (form_of kind).words) _ h in
    let q = and_parts (has_since (form_of kind).since fm) _ p.1 in
    let r = and_parts _ (list_all (λ (x : Placed). is_own_word x.0 x.1) (zip (form_of kind).places (drop (length (form_of kind).words) ws))) q.1 in
    room_by fm (form_of kind).takes_on (length (drop (length (form_of kind).words) ws)) (length (form_of kind).places) _ r.0

-- words of the form of a kind are as many as its fixed ones at least
pub fixed_there : (fm : Format) (kind : Kind) (ws : List (List ℕ)) → is_of_form fm ws (form_of kind) ≡ true → length (kind_words kind) ≤ length ws
fixed_there fm kind ws h =
    let p = and_parts (starts_with same_word ws (kind_words kind)) _ h in
    let cut : ws ≡ kind_words kind ++ drop (length (kind_words kind)) ws = (starts_is (λ a b. bytes_eq-Decides a b) ws (kind_words kind) (starts_with same_word ws (kind_words kind)) refl).0 p.0 in
    omega (arith, ap length cut, length-append (kind_words kind) (drop (length (kind_words kind)) ws))

-- a line of a merge
pub merging_line : (g : GraphValue) (name : List ℕ) (ws : List (List ℕ)) (v : List ℕ) → v ≡ at ws 0 → bytes_eq v (codes "merge") ≡ true → line_draft g name ws ≡ merge_draft g name Merge (drop 1 ws)
merging_line g name [] v e a = absurd (true≢false (sym a ∙ ap (λ x. bytes_eq x (codes "merge")) e))
merging_line g name (w ∷ ws) v e a = cond-true (bytes_eq w (codes "merge")) (merge_draft g name Merge ws) _ (ap (λ x. bytes_eq x (codes "merge")) (sym e) ∙ a)

-- and of one that ignores faults
pub ignoring_line : (g : GraphValue) (name : List ℕ) (ws : List (List ℕ)) (v : List ℕ) → v ≡ at ws 0 → bytes_eq v (codes "merge") ≡ false → bytes_eq v (codes "mergei") ≡ true → line_draft g name ws ≡ merge_draft g name MergeIgnore (drop 1 ws)
ignoring_line g name [] v e a b = absurd (true≢false (sym b ∙ ap (λ x. bytes_eq x (codes "mergei")) e))
ignoring_line g name (w ∷ ws) v e a b =
    cond-false (bytes_eq w (codes "merge")) (merge_draft g name Merge ws) _ (ap (λ x. bytes_eq x (codes "merge")) (sym e) ∙ a)
    ∙ cond-true (bytes_eq w (codes "mergei")) (merge_draft g name MergeIgnore ws) _ (ap (λ x. bytes_eq x (codes "mergei")) (sym e) ∙ b)

-- a line of a call
pub line_call : LineOfCall
line_call g name [] v e a b c = absurd (true≢false (sym c ∙ ap (λ x. bytes_eq x (codes "call")) e))
line_call g name (w ∷ ws) v e a b c =
    cond-false (bytes_eq w (codes "merge")) (merge_draft g name Merge ws) _ (ap (λ x. bytes_eq x (codes "merge")) (sym e) ∙ a)
    ∙ (cond-false (bytes_eq w (codes "mergei")) (merge_draft g name MergeIgnore ws) _ (ap (λ x. bytes_eq x (codes "mergei")) (sym e) ∙ b)
    ∙ cond-true (bytes_eq w (codes "call")) (call_draft g name ws) _ (ap (λ x. bytes_eq x (codes "call")) (sym e) ∙ c))

-- words that begin with a word that is not empty are some
pub word_there : (ws : List (List ℕ)) (v w : List ℕ) → v ≡ at ws 0 → bytes_eq v w ≡ true → bytes_eq [] w ≡ false → 1 ≤ length ws
word_there [] v w e h n = absurd (true≢false (sym h ∙ (ap (λ x. bytes_eq x w) e ∙ n)))
word_there (x ∷ ws) v w e h n = omega arith

pub merge_shape : (g : GraphValue) (name : List ℕ) (verb : List ℕ → Verb) (ws : List (List ℕ)) → 2 ≤ length ws → merge_draft g name verb (drop 1 ws) ≡ Some (merge_with g name verb (drop 1 ws))
merge_shape g name verb [] h = absurd (omega arith)
merge_shape g name verb (a ∷ []) h = absurd (omega arith)
merge_shape g name verb (a ∷ b ∷ bs) h = refl

-- a line is an operation line by its second word
pub line_by_sign : LineBySign
line_by_sign g [] h = absurd (true≢false (sym h))
line_by_sign g (x ∷ []) h = absurd (true≢false (sym h))
line_by_sign g (x ∷ y ∷ ws) h = cond-true (bytes_eq y (codes "=")) (line_draft g x ws) _ (and_parts (nat_le 2 (length (x ∷ y ∷ ws))) (bytes_eq y (codes "=")) h).1

sign_by : (a b : Bool) → a ≡ true → (a && b) ≡ false → b ≡ false
sign_by true b e h = h
sign_by false b e h = absurd (true≢false (sym e))

pub decl_by_sign : DeclarationBySign
decl_by_sign g [] h = refl
decl_by_sign g (x ∷ []) h = refl
decl_by_sign g (x ∷ y ∷ ws) h = cond-false (bytes_eq y (codes "=")) (line_draft g x ws) _ (sign_by (nat_le 2 (length (x ∷ y ∷ ws))) (bytes_eq y (codes "=")) (le-leb 2 (length (x ∷ y ∷ ws)) (omega arith)) h)

pub operation_long : OperationsHaveTwoWords
operation_long ws h = leb-true 2 (length ws) (and_parts (nat_le 2 (length ws)) (bytes_eq (at ws 1) (codes "=")) h).0

pub decl_after_line : (g : GraphValue) (ls : List Line) (ws : List (List ℕ)) → 0 < length ls → decl_draft_after g ls ws ≡ None
decl_after_line g [] ws h = absurd (omega arith)
decl_after_line g (l ∷ ls) ws h = refl

pub decl_first : (g : GraphValue) (ls : List Line) (ws : List (List ℕ)) → length ls ≡ 0 → decl_draft_after g ls ws ≡ decl_draft g ws
decl_first g [] ws h = refl
decl_first g (l ∷ ls) ws h = absurd (omega (arith, h))

pub no_lines : (ls : List Line) → length ls ≡ 0 → ls ≡ []
no_lines [] h = refl
no_lines (l ∷ ls) h = absurd (omega (arith, h))

-- what words without an empty one are read as
pub filled : (g : GraphValue) (ws : List (List ℕ)) → list_any is_empty ws ≡ false → words_fault g ws ≡ option_map_or (draft_fault g) (draft g ws) (Some why.Syntax)
filled g ws h = cond-false (list_any is_empty ws) (Some why.Syntax) _ h

pub words_empty : (g : GraphValue) (ws : List (List ℕ)) → list_any is_empty ws ≡ true → words_fault g ws ≡ Some why.Syntax
words_empty g ws h = cond-true (list_any is_empty ws) (Some why.Syntax) _ h

pub syntax_fault : (g : GraphValue) (ws : List (List ℕ)) → list_any is_empty ws ≡ false → draft g ws ≡ None → words_fault g ws ≡ Some why.Syntax
syntax_fault g ws f h = filled g ws f ∙ ap (λ o. option_map_or (draft_fault g) o (Some why.Syntax)) h

pub empty_is : EmptyByLength
empty_is [] = refl
empty_is (b ∷ bs) = ne_eqb (length (b ∷ bs)) 0 (λ e. absurd (omega (arith, e)))
