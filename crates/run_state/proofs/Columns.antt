-- The steps of columns keep the state sound.
use Rattle.std.proofs.Common.{◌≡◌, ℕ, ◌<◌, true, false, ◌⊎◌, inl, inr, List, [], ◌∷◌, length, refl, sym, ◌∙◌, ap, subst, length-set}
use Rattle.std.specs.Prelude.{◌≢◌, slice_set}
use Rattle.std.proofs.lemmas.List.{get_or-set_same, get_or-set_other}
use Rattle.index_spaces.specs.Space.{points}
use Rattle.graph_terms.specs.declared.outcome.End.TheVariants.{Cancelled}
use Rattle.graph_terms.specs.Graph.{GraphValue, column_space}
use Rattle.graph_meaning.specs.Effect.{cells_after, Effects, zero_cells}
use Rattle.graph_meaning.specs.Evaluation.{end_with, changes_with, cells_of_lines_with, column_of}
use Rattle.run_state.proofs.Verdicts.{keeps_to_accesses}
use Rattle.run_state.specs.Run.{Place, Home, Had, Run, is_listed, stage_at, place_at, list_at, out, started, ended}
use Rattle.run_state.specs.Sound.{AccessesColumn, home_cells_with, SoundColumnsWith, SoundWith}
use Rattle.run_state.specs.Work.{put_cells_with}
use Rattle.run_state.specs.Moves.{column_out, column_unused, column_back}
use Rattle.run_state.proofs.Lists.{each_set, is_there, listed_here, listed_there, listed_cases, out_started, out_not_ended, ended_over}
use Rattle.basics.proofs.ListFacts.{map_same}
use Rattle.run_state.proofs.Known.{column_there}
use Rattle.run_state.proofs.SoundParts.{with_columns}
use Rattle.run_state.proofs.Started.{sources_closed, started_ends, changed_back}
use Rattle.run_state.specs.Premises.{MayTakeColumnWith, MayReturnColumnWith, MayPutBackColumnWith}
use Rattle.run_state.proofs.Evaluated.{turns_with, cell_is_put_back_with}

-- a column that is had, or at home
pub had_not_home : (p : Place) (k : ℕ) (xs : List ℕ) → p ≡ Had k → p ≡ Home xs → ⊥
had_not_home p k xs a b = cc

pub had_one : (i k : ℕ) → Had i ≡ Had k → i ≡ k
had_one i k e = cc

pub home_one : (xs ys : List ℕ) → Home xs ≡ Home ys → xs ≡ ys
home_one xs ys e = cc

-- which columns are had once one is out, or at home again
module _ (places : List Place) (c : ℕ) (there : c < length places) where
  had_now : (i d k : ℕ) → place_at (slice_set places c (Had i)) d ≡ Had k → ((d ≡ c) × (i ≡ k)) ⊎ (place_at places d ≡ Had k)
  had_now i = each_set (λ d p. (k : ℕ) → p ≡ Had k → ((d ≡ c) × (i ≡ k)) ⊎ (place_at places d ≡ Had k)) places (Home []) c (Had i) there (λ k e. inl (refl, had_one i k e)) (λ d ne k e. inr e)

  still_had : (xs : List ℕ) (d k : ℕ) → place_at (slice_set places c (Home xs)) d ≡ Had k → (d ≢ c) × (place_at places d ≡ Had k)
  still_had xs = each_set (λ d p. (k : ℕ) → p ≡ Had k → (d ≢ c) × (place_at places d ≡ Had k)) places (Home []) c (Home xs) there (λ k e. absurd (had_not_home (Home xs) k xs e refl)) (λ d ne k e. (ne, e))

-- one more number in one of the lists
module _ (lists : List (List ℕ)) (c i : ℕ) (there : c < length lists) where
  unfoldable pub with_one : List (List ℕ)
  with_one = slice_set lists c (i ∷ list_at lists c)

  pub one_more : (d k : ℕ) → is_listed (list_at lists d) k ≡ true → is_listed (list_at with_one d) k ≡ true
  unfolding with_one
  one_more = each_set (λ d ks. (k : ℕ) → is_listed (list_at lists d) k ≡ true → is_listed ks k ≡ true) lists [] c (i ∷ list_at lists c) there
      (λ k h. listed_there i k (list_at lists c) h) (λ d ne k h. h)

  pub one_new : is_listed (list_at with_one c) i ≡ true
  unfolding with_one
  one_new = subst (λ ks. is_listed ks i ≡ true) (sym (get_or-set_same lists c (i ∷ list_at lists c) [] there)) (listed_here i (list_at lists c))

  pub one_cases : (d k : ℕ) → is_listed (list_at with_one d) k ≡ true → ((d ≡ c) × (k ≡ i)) ⊎ (is_listed (list_at lists d) k ≡ true)
  unfolding with_one
  one_cases = each_set (λ d ks. (k : ℕ) → is_listed ks k ≡ true → ((d ≡ c) × (k ≡ i)) ⊎ (is_listed (list_at lists d) k ≡ true)) lists [] c (i ∷ list_at lists c) there
      (λ k h. elim (listed_cases i k (list_at lists c) h) [ inl e ↦ inl (refl, e) | inr r ↦ inr r ]) (λ d ne k h. inr h)

-- a cell of a column on which a line is put back is that of the lines put back and this one, in the evaluation's order
pub cell_with_one : {does : Effects} {g : GraphValue} {run : Run} → SoundWith does g run → (c i : ℕ) → out run.stages i ≡ true →
    is_listed (list_at run.back c) i ≡ false → (p : ℕ) →
    cells_after (cells_of_lines_with does zero_cells g (is_listed (list_at run.back c))) (changes_with does zero_cells g i) c p
    ≡ cells_of_lines_with does zero_cells g (is_listed (i ∷ list_at run.back c)) c p
cell_with_one {does} {g} {run} s c i h none p =
    let begun : started run.stages i ≡ true = out_started (stage_at run.stages i) h in
    let t = turns_with does zero_cells g (length g.lines) i (started_ends s.graph s.accepted s.on_lines i begun) in
    cell_is_put_back_with does zero_cells g s.accepted (keeps_to_accesses s.keeps) i t.0 t.1 (ended run.stages) (is_listed (list_at run.back c)) c p
    (sources_closed s.on_lines)
    (λ e ce to. s.on_lines.sources e ce (ap (started run.stages) to ∙ begun))
    (out_not_ended (stage_at run.stages i) h)
    none
    (λ k listed e ce to. s.on_lines.sources e ce (ap (started run.stages) to ∙ s.on_columns.back_started c k listed))
    (λ k e x hx touched. changed_back s c p k (ended_over (stage_at run.stages k) e) x hx touched)

-- so are all its cells
pub put_back_cells : {does : Effects} {g : GraphValue} {run : Run} → SoundWith does g run → (c i : ℕ) → out run.stages i ≡ true →
    is_listed (list_at run.back c) i ≡ false →
    put_cells_with does g i (list_at run.back c) c ≡ home_cells_with does g (i ∷ list_at run.back c) c
put_back_cells {does} {g} {run} s c i h none = map_same
    (λ p. cells_after (cells_of_lines_with does zero_cells g (is_listed (list_at run.back c))) (changes_with does zero_cells g i) c p)
    (λ p. cells_of_lines_with does zero_cells g (is_listed (i ∷ list_at run.back c)) c p) (points (column_space g c)) (cell_with_one s c i h none)

out_columns : {does : Effects} {g : GraphValue} {run : Run} → SoundWith does g run → (c i : ℕ) → MayTakeColumnWith does g run c i → SoundColumnsWith does g run.stages (slice_set run.places c (Had i)) run.back
out_columns {does} {g} {run} s c i m =
    let t = s.on_columns in
    let there : c < length run.places = subst (λ n. c < n) (sym t.each_column) (column_there s.graph i c m.accessed) in
    let now = had_now run.places c there i in
    record {
      each_column = length-set run.places c (Had i) ∙ t.each_column;
      each_back = t.each_back;
      had_out = λ d k h. elim (now d k h) [ inl e ↦ subst (λ x. out run.stages x ≡ true) e.1 m.is_out | inr was ↦ t.had_out d k was ];
      had_accessed = λ d k h. elim (now d k h) [ inl e ↦ subst (λ x. AccessesColumn g k x) (sym e.0) (subst (λ x. AccessesColumn g x c) e.1 m.accessed) | inr was ↦ t.had_accessed d k was ];
      had_not_cancelled = λ d k h. elim (now d k h) [ inl e ↦ subst (λ x. end_with does zero_cells g x ≢ Cancelled) e.1 m.not_cancelled | inr was ↦ t.had_not_cancelled d k was ];
      had_not_back = λ d k h. elim (now d k h) [ inl e ↦ subst (λ x. is_listed (list_at run.back x) k ≡ false) (sym e.0) (subst (λ x. is_listed (list_at run.back c) x ≡ false) e.1 m.not_back) | inr was ↦ t.had_not_back d k was ];
      over_back = t.over_back;
      back_started = t.back_started;
      back_accessed = t.back_accessed;
      back_not_cancelled = t.back_not_cancelled;
      cells = each_set (λ d p. (xs : List ℕ) → p ≡ Home xs → xs ≡ home_cells_with does g (list_at run.back d) d) run.places (Home []) c (Had i) there (λ xs e. absurd (had_not_home (Had i) i xs refl e)) (λ d ne. t.cells d);
    }

-- a column out
pub column_out-sound : {does : Effects} {g : GraphValue} {run : Run} → SoundWith does g run → (c i : ℕ) → MayTakeColumnWith does g run c i → SoundWith does g (column_out run c i)
column_out-sound {does} {g} {run} s c i m = with_columns s (slice_set run.places c (Had i)) run.back (out_columns s c i m)

pub had_there : {does : Effects} {g : GraphValue} {run : Run} → SoundWith does g run → (c i : ℕ) → place_at run.places c ≡ Had i → c < length run.places
had_there {does} {g} {run} s c i h = is_there run.places (Home []) c (λ e. had_not_home (place_at run.places c) i [] h e)

home_columns : {does : Effects} {g : GraphValue} {run : Run} → SoundWith does g run → (c i : ℕ) → place_at run.places c ≡ Had i → (xs : List ℕ) → xs ≡ home_cells_with does g (list_at run.back c) c → SoundColumnsWith does g run.stages (slice_set run.places c (Home xs)) run.back
home_columns {does} {g} {run} s c i h xs same =
    let t = s.on_columns in
    let there : c < length run.places = had_there s c i h in
    let still = still_had run.places c there xs in
    record {
      each_column = length-set run.places c (Home xs) ∙ t.each_column;
      each_back = t.each_back;
      had_out = λ d k e. t.had_out d k (still d k e).1;
      had_accessed = λ d k e. t.had_accessed d k (still d k e).1;
      had_not_cancelled = λ d k e. t.had_not_cancelled d k (still d k e).1;
      had_not_back = λ d k e. t.had_not_back d k (still d k e).1;
      over_back = t.over_back;
      back_started = t.back_started;
      back_accessed = t.back_accessed;
      back_not_cancelled = t.back_not_cancelled;
      cells = each_set (λ d p. (ys : List ℕ) → p ≡ Home ys → ys ≡ home_cells_with does g (list_at run.back d) d) run.places (Home []) c (Home xs) there (λ ys e. sym (home_one xs ys e) ∙ same) (λ d ne. t.cells d);
    }

-- a column given back unchanged
pub column_unused-sound : {does : Effects} {g : GraphValue} {run : Run} → SoundWith does g run → (c i : ℕ) (xs : List ℕ) → MayReturnColumnWith does g run c i xs → SoundWith does g (column_unused run c xs)
column_unused-sound {does} {g} {run} s c i xs m = with_columns s (slice_set run.places c (Home xs)) run.back (home_columns s c i m.has xs m.unchanged)

back_columns : {does : Effects} {g : GraphValue} {run : Run} → SoundWith does g run → (c i : ℕ) → place_at run.places c ≡ Had i → (xs : List ℕ) →
    xs ≡ (column_of g (cells_after (cells_of_lines_with does zero_cells g (is_listed (list_at run.back c))) (changes_with does zero_cells g i)) c).cells →
    SoundColumnsWith does g run.stages (slice_set run.places c (Home xs)) (slice_set run.back c (i ∷ list_at run.back c))
unfolding with_one
back_columns {does} {g} {run} s c i h xs made =
    let t = s.on_columns in
    let there : c < length run.places = had_there s c i h in
    let lists_there : c < length run.back = subst (λ n. c < n) (t.each_column ∙ sym t.each_back) there in
    let is_out : out run.stages i ≡ true = t.had_out c i h in
    let same : xs ≡ home_cells_with does g (i ∷ list_at run.back c) c = made ∙ put_back_cells s c i is_out (t.had_not_back c i h) in
    let still = still_had run.places c there xs in
    record {
      each_column = length-set run.places c (Home xs) ∙ t.each_column;
      each_back = length-set run.back c (i ∷ list_at run.back c) ∙ t.each_back;
      had_out = λ d k e. t.had_out d k (still d k e).1;
      had_accessed = λ d k e. t.had_accessed d k (still d k e).1;
      had_not_cancelled = λ d k e. t.had_not_cancelled d k (still d k e).1;
      had_not_back = λ d k e. ap (λ ks. is_listed ks k) (get_or-set_other run.back c d (i ∷ list_at run.back c) [] (still d k e).0) ∙ t.had_not_back d k (still d k e).1;
      over_back = λ d k o a n. one_more run.back c i lists_there d k (t.over_back d k o a n);
      back_started = λ d k l. elim (one_cases run.back c i lists_there d k l) [ inl e ↦ ap (started run.stages) e.1 ∙ out_started (stage_at run.stages i) is_out | inr r ↦ t.back_started d k r ];
      back_accessed = λ d k l. elim (one_cases run.back c i lists_there d k l) [ inl e ↦ subst (λ x. AccessesColumn g k x) (sym e.0) (subst (λ x. AccessesColumn g x c) (sym e.1) (t.had_accessed c i h)) | inr r ↦ t.back_accessed d k r ];
      back_not_cancelled = λ d k l. elim (one_cases run.back c i lists_there d k l) [ inl e ↦ subst (λ x. end_with does zero_cells g x ≢ Cancelled) (sym e.1) (t.had_not_cancelled c i h) | inr r ↦ t.back_not_cancelled d k r ];
      cells = each_set (λ d p. (ys : List ℕ) → p ≡ Home ys → ys ≡ home_cells_with does g (list_at (slice_set run.back c (i ∷ list_at run.back c)) d) d) run.places (Home []) c (Home xs) there
          (λ ys e. sym (home_one xs ys e) ∙ (same ∙ ap (λ ks. home_cells_with does g ks c) (sym (get_or-set_same run.back c (i ∷ list_at run.back c) [] lists_there))))
          (λ d ne ys e. t.cells d ys e ∙ ap (λ ks. home_cells_with does g ks d) (sym (get_or-set_other run.back c d (i ∷ list_at run.back c) [] ne)));
    }

-- a line put back on a column that it has: its cells are those that it had, changed as in the evaluation
pub column_back-sound : {does : Effects} {g : GraphValue} {run : Run} → SoundWith does g run → (c i : ℕ) (xs : List ℕ) → MayPutBackColumnWith does g run c i xs → SoundWith does g (column_back run c i xs)
column_back-sound {does} {g} {run} s c i xs m = with_columns s (slice_set run.places c (Home xs)) (slice_set run.back c (i ∷ list_at run.back c)) (back_columns s c i m.has xs m.changed)
