-- Lines taken and put back whole, where those that only read a column share it.
use Rattle.std.proofs.Common.{◌≡◌, ℕ, ◌<◌, Bool, true, false, not, ◌⊎◌, inl, inr, List, [], ◌∷◌, length, refl, sym, ◌∙◌, ap, subst, length-set}
use Rattle.std.specs.Prelude.{◌≢◌, Contains, cond, map, filter, slice_set}
use Rattle.std.proofs.lemmas.Bool.{true≢false, false_from_ne_true, not-true}
use Rattle.basics.proofs.ListFacts.{contains_map, map_contains, contains_filter, filter_contains, contains_cases, contains_none}
use Rattle.graph_terms.specs.declared.outcome.End.{End}
use Rattle.graph_terms.specs.declared.outcome.End.TheVariants.{Cancelled}
use Rattle.graph_terms.specs.declared.verb.Access.{Access}
use Rattle.graph_terms.specs.declared.verb.Mode.{Mode}
use Rattle.graph_terms.specs.declared.verb.Mode.TheVariants.{Read}
use Rattle.graph_terms.specs.Graph.{GraphValue}
use Rattle.graph_terms.specs.Access.{accesses, is_read}
use Rattle.graph_terms.specs.Fits.{IsGraph}
use Rattle.graph_meaning.specs.Rules.{Accepted}
use Rattle.graph_meaning.specs.Effect.{Effects, zero_cells}
use Rattle.graph_meaning.specs.Evaluation.{end_with}
use Rattle.run_state.specs.Run.{LineStage, Unissued, Issued, Out, Place, Home, Had, Run, is_listed, stage_at, place_at, list_at, stage_issued, stage_out, stage_started, stage_ended, out, timed}
use Rattle.run_state.specs.Sound.{AccessesColumn, OnlyReads, SoundWith}
use Rattle.run_state.specs.Moves.{staged, issue, claim}
use Rattle.run_state.specs.Premises.{MayIssue}
use Rattle.run_state.specs.WholeLine.{all_had, all_home, columns_back, columns_for, put_back_whole}
use Rattle.run_state.specs.AtRest.{LinesAtRestWith, MayPutBackWith}
use Rattle.run_state.specs.Sharing.{ChangesColumn, is_change, changed_list, take_sharing, AtRestSharingWith, MayTakeSharingWith}
use Rattle.run_state.specs.Start.{start}
use Rattle.run_state.proofs.Lists.{each_set, listed_contains, contains_listed, listed_here, listed_there, stage_there}
use Rattle.run_state.proofs.Known.{column_there, columns_fresh}
use Rattle.run_state.proofs.Reductions.{Fresh}
use Rattle.run_state.proofs.Columns.{had_one, had_not_home}
use Rattle.run_state.proofs.WholeLine.{lines_at_rest, goes_on, all_had_other, taken_sound, taken_lines, taken_out, place_kept, place_new}
use Rattle.run_state.proofs.Start.{no_stage}
use Rattle.run_state.proofs.Between.{start_is_at_rest}
use Rattle.run_state.proofs.PutBack.{for_listed, for_fresh, all_home_other, sound_after, lines_after, out_after}
use Rattle.run_state.proofs.Reading.{each_back-sound}

-- a column that a line accesses is one that it may change, or one that it only reads, and not both
read_or_not : (m : Mode) → (is_read m ≡ false) ⊎ (m ≡ Read)
read_or_not Read = inr refl
read_or_not m = inl refl

abbrev columns_in : List Access → List ℕ
columns_in accessed = map (λ (a : Access). a.column) accessed

not_later : (x : Access) (all : List Access) → is_listed (columns_in all) x.column ≡ false → (y : Access) → Contains all y → x.column ≡ y.column → ⊥
not_later x all none y c same = true≢false (sym (contains_listed (columns_in all) x.column (subst (Contains (columns_in all)) (sym same)
    (contains_map (λ (z : Access). z.column) all y c))) ∙ none)

same_access_by : (x : Access) (all : List Access) (a b : Access) → is_listed (columns_in all) x.column ≡ false → a.column ≡ b.column →
    (Contains all a → Contains all b → a ≡ b) → (x ≡ a) ⊎ Contains all a → (x ≡ b) ⊎ Contains all b → a ≡ b
same_access_by x all a b none e again (inl p) (inl q) = sym p ∙ q
same_access_by x all a b none e again (inl p) (inr r) = absurd (not_later x all none b r (ap (λ (y : Access). y.column) p ∙ e))
same_access_by x all a b none e again (inr r) (inl q) = absurd (not_later x all none a r (ap (λ (y : Access). y.column) q ∙ sym e))
same_access_by x all a b none e again (inr r) (inr t) = again r t

same_access : (all : List Access) (a b : Access) → Fresh (columns_in all) → Contains all a → Contains all b → a.column ≡ b.column → a ≡ b
same_access [] a b f ca cb e = absurd (contains_none a ca)
same_access (x ∷ all) a b f ca cb e = same_access_by x all a b f.0 e (λ r t. same_access all a b f.1 r t e) (contains_cases x all a ca) (contains_cases x all b cb)

pub changes_or_reads : (g : GraphValue) → IsGraph g → (i c : ℕ) → AccessesColumn g i c → ChangesColumn g i c ⊎ OnlyReads g i c
changes_or_reads g fits i c a = elim (read_or_not a.0.mode) [
  | inl other ↦ inl (a.0, a.1, a.2, other)
  | inr read ↦ inr (record {
    accessed = a;
    reads = λ b cb at. ap (λ (y : Access). y.mode) (same_access (accesses g i) b a.0 (columns_fresh g fits i) cb a.1 (at ∙ sym a.2)) ∙ read;
  })
]

pub not_both : (g : GraphValue) (i c : ℕ) → ChangesColumn g i c → OnlyReads g i c → ⊥
not_both g i c a only = true≢false (ap is_read (sym (only.reads a.0 a.1 a.2)) ∙ a.3)

pub change_accesses : (g : GraphValue) (i c : ℕ) → ChangesColumn g i c → AccessesColumn g i c
change_accesses g i c a = (a.0, a.1, a.2)

-- the columns that a line may change, by their numbers
listed_changed : (g : GraphValue) (i c : ℕ) → is_listed (changed_list g i) c ≡ true → ChangesColumn g i c
listed_changed g i c h =
    let a = map_contains (λ (a : Access). a.column) (filter is_change (accesses g i)) c (listed_contains (changed_list g i) c h) in
    let f = filter_contains is_change (accesses g i) a.0 a.1 in
    (a.0, f.0, a.2, not-true (is_read a.0.mode) f.1)

changed_listed : (g : GraphValue) (i c : ℕ) → ChangesColumn g i c → is_listed (changed_list g i) c ≡ true
changed_listed g i c a = contains_listed (changed_list g i) c (subst (Contains (changed_list g i)) a.2
    (contains_map (λ (x : Access). x.column) (filter is_change (accesses g i)) a.0 (contains_filter is_change (accesses g i) a.0 a.1 (ap not a.3))))

fresh_by : (a : Access) (rest : List Access) (b : Bool) → is_listed (columns_in rest) a.column ≡ false → Fresh (columns_in rest) →
    Fresh (columns_in (cond b (a ∷ rest) rest))
fresh_by a rest true none f = (none, f)
fresh_by a rest false none f = f

filtered_fresh : (all : List Access) → Fresh (columns_in all) → Fresh (columns_in (filter is_change all))
filtered_fresh [] f = tt
filtered_fresh (a ∷ all) f = fresh_by a (filter is_change all) (is_change a)
    (false_from_ne_true (is_listed (columns_in (filter is_change all)) a.column) (λ h.
    let c = map_contains (λ (x : Access). x.column) (filter is_change all) a.column (listed_contains (columns_in (filter is_change all)) a.column h) in
    true≢false (sym (contains_listed (columns_in all) a.column (subst (Contains (columns_in all)) c.2
    (contains_map (λ (x : Access). x.column) all c.0 (filter_contains is_change all c.0 c.1).0))) ∙ f.0)))
    (filtered_fresh all f.1)

pub changed_fresh : (g : GraphValue) → IsGraph g → (i : ℕ) → Fresh (changed_list g i)
changed_fresh g fits i = filtered_fresh (accesses g i) (columns_fresh g fits i)

-- a run begins so
pub start_is_sharing : {does : Effects} (g : GraphValue) → IsGraph g → Accepted g → AtRestSharingWith does g (start g)
start_is_sharing {does} g f a = record {
  lines = lines_at_rest (start_is_at_rest g f a);
  out_has = λ i c h. absurd (true≢false (sym (no_stage g f a stage_out i h)));
  out_reads = λ i c h. absurd (true≢false (sym (no_stage g f a stage_out i h)));
}

-- a line that goes on to a stage of a line that is not out leaves it so
staged_sharing : {does : Effects} {g : GraphValue} {run : Run} → AtRestSharingWith does g run → (i : ℕ) (x : LineStage) → i < length run.stages →
    (stage_out x ≡ true → end_with does zero_cells g i ≡ Cancelled) →
    LinesAtRestWith does g (staged run i x) → AtRestSharingWith does g (staged run i x)
staged_sharing {does} {g} {run} rest i x there none lines =
    let before : (k : ℕ) → out (slice_set run.stages i x) k ≡ true → end_with does zero_cells g k ≢ Cancelled → out run.stages k ≡ true =
    each_set (λ k y. stage_out y ≡ true → end_with does zero_cells g k ≢ Cancelled → out run.stages k ≡ true) run.stages Unissued i x there
    (λ h n. absurd (n (none h))) (λ k ne h n. h) in
    record {
      lines = lines;
      out_has = λ k c h n a. rest.out_has k c (before k h n) n a;
      out_reads = λ k c h n a. rest.out_reads k c (before k h n) n a;
    }

pub issue_is_sharing : {does : Effects} {g : GraphValue} {run : Run} → SoundWith does g run → AtRestSharingWith does g run → (i : ℕ) → MayIssue g run i →
    AtRestSharingWith does g (issue run i)
issue_is_sharing {does} {g} {run} s rest i m =
    let there : i < length run.stages = subst (λ n. i < n) (sym s.on_lines.each_line) m.is_line in
    staged_sharing rest i Issued there (λ h. absurd (true≢false (sym h)))
    (goes_on rest.lines i Issued run.places run.holders there refl (ap stage_ended m.unissued) (λ l k h. h)
    (λ l h. absurd (true≢false (sym h))) (λ h. absurd (true≢false (sym h))))

pub claim_is_sharing : {does : Effects} {g : GraphValue} {run : Run} → SoundWith does g run → AtRestSharingWith does g run → (i : ℕ) →
    stage_at run.stages i ≡ Issued → end_with does zero_cells g i ≡ Cancelled → AtRestSharingWith does g (claim run i)
claim_is_sharing {does} {g} {run} s rest i is cancelled =
    let there : i < length run.stages = stage_there run.stages i (ap stage_issued is) in
    staged_sharing rest i Out there (λ h. cancelled)
    (goes_on rest.lines i Out run.places run.holders there refl (ap stage_ended is) (λ l k h. h) (λ l h n. absurd (n cancelled))
    (λ h. false_from_ne_true (timed run.times i) (λ t. true≢false (sym (s.on_times.timed_started i t) ∙ ap stage_started is))))

-- a line taken with the columns that it may change
module _ {does : Effects} {g : GraphValue} {run : Run} (s : SoundWith does g run) (i : ℕ) (m : MayTakeSharingWith does g run i) where
  pub listed_is : (c : ℕ) → is_listed (changed_list g i) c ≡ true → AccessesColumn g i c
  listed_is c h = change_accesses g i c (listed_changed g i c h)

  pub taken_shares_sound : SoundWith does g (take_sharing g run i)
  taken_shares_sound = taken_sound s i m.whole (changed_list g i) (changed_fresh g s.graph i) listed_is

  had_after : (c k : ℕ) → place_at (all_had run.places i (changed_list g i)) c ≡ Had k → (is_listed (changed_list g i) c ≡ true) ⊎ (place_at run.places c ≡ Had k)
  had_after c k e = by_listed (is_listed (changed_list g i) c) refl
    where
      by_listed : (b : Bool) → is_listed (changed_list g i) c ≡ b → (is_listed (changed_list g i) c ≡ true) ⊎ (place_at run.places c ≡ Had k)
      by_listed true l = inl l
      by_listed false l = inr (sym (all_had_other run.places i (changed_list g i) c (λ h. true≢false (sym h ∙ l))) ∙ e)

  pub taken_is_sharing : AtRestSharingWith does g run → AtRestSharingWith does g (take_sharing g run i)
  taken_is_sharing rest = record {
    lines = taken_lines s i m.whole (changed_list g i) (changed_fresh g s.graph i) listed_is rest.lines;
    out_has = λ k c h n a. elim (was k h) [
      | inl e ↦ place_new s i m.whole (changed_list g i) (changed_fresh g s.graph i) listed_is c
          (subst (λ z. is_listed (changed_list g z) c ≡ true) e (changed_listed g k c a)) ∙ ap Had (sym e)
      | inr before ↦ place_kept s i m.whole (changed_list g i) (changed_fresh g s.graph i) listed_is k c (rest.out_has k c before n a)
    ];
    out_reads = λ k c h n only j had. elim (had_after c j had) [
      | inl l ↦ elim (was k h) [
        | inl e ↦ not_both g i c (listed_changed g i c l) (subst (λ z. OnlyReads g z c) e only)
        | inr before ↦ m.unread c k (listed_changed g i c l) before n only
      ]
      | inr old ↦ elim (was k h) [
        | inl e ↦ m.whole.at_home c (subst (λ z. AccessesColumn g z c) e only.accessed) j old
        | inr before ↦ rest.out_reads k c before n only j old
      ]
    ];
  }
    where
      was : (k : ℕ) → out (slice_set run.stages i Out) k ≡ true → (k ≡ i) ⊎ (out run.stages k ≡ true)
      was = taken_out s i m.whole (changed_list g i) (changed_fresh g s.graph i) listed_is

-- a line put back
all_home_had : (places : List Place) (xs : ℕ → List ℕ) (cs : List ℕ) → ((c : ℕ) → is_listed cs c ≡ true → c < length places) → (c k : ℕ) →
    place_at (all_home places xs cs) c ≡ Had k → place_at places c ≡ Had k
all_home_had places xs [] there c k e = e
all_home_had places xs (d ∷ cs) there c k e = each_set (λ z p. p ≡ Had k → place_at places z ≡ Had k) places (Home []) d (Home (xs d)) (there d (listed_here d cs))
    (λ h. absurd (had_not_home (Home (xs d)) k (xs d) h refl)) (λ z ne h. h) c
    (all_home_had (slice_set places d (Home (xs d))) xs cs
    (λ z h. subst (λ n. z < n) (sym (length-set places d (Home (xs d)))) (there z (listed_there d z cs h))) c k e)

module _ {does : Effects} (g : GraphValue) (run : Run) (s : SoundWith does g run) (rest : AtRestSharingWith does g run) (i : ℕ) (x : End) (xs : ℕ → List ℕ)
    (m : MayPutBackWith does g run i x xs) where
  going : end_with does zero_cells g i ≢ Cancelled → x ≢ Cancelled
  going n e = n (m.is_end ∙ e)

  went : x ≢ Cancelled → end_with does zero_cells g i ≢ Cancelled
  went n e = n (sym m.is_end ∙ e)

  not_back : (c : ℕ) → is_listed (list_at run.back c) i ≡ false
  not_back c = false_from_ne_true (is_listed (list_at run.back c) i) (λ h. true≢false (sym (rest.lines.back_ended c i h) ∙ ap stage_ended m.is_out))

  pub put_columns : SoundWith does g (columns_back run i xs (columns_for g i x))
  put_columns = each_back-sound s i xs (columns_for g i x) (for_fresh g i x (columns_fresh g s.graph i)) (λ c h. let f = for_listed g i x c h in record {
    is_out = ap stage_out m.is_out;
    not_cancelled = went f.0;
    not_back = not_back c;
    has_or_reads = elim (changes_or_reads g s.graph i c f.1) [
      | inl a ↦ inl (rest.out_has i c (ap stage_out m.is_out) (went f.0) a)
      | inr only ↦ inr (only, rest.out_reads i c (ap stage_out m.is_out) (went f.0) only)
    ];
    changed = m.leaves c f.1 (went f.0);
  })

  pub put_back_shares_sound : SoundWith does g (put_back_whole g run i x xs)
  put_back_shares_sound = sound_after g run s rest.lines i x xs m put_columns

  -- a column that another line has is none of its own
  pub apart : (k c : ℕ) → (k ≡ i → ⊥) → place_at run.places c ≡ Had k → is_listed (columns_for g i x) c ≡ true → ⊥
  apart k c ne had l = let f = for_listed g i x c l in elim (changes_or_reads g s.graph i c f.1) [
    | inl a ↦ ne (had_one k i (sym had ∙ rest.out_has i c (ap stage_out m.is_out) (went f.0) a))
    | inr only ↦ rest.out_reads i c (ap stage_out m.is_out) (went f.0) only k had
  ]

  column_near : (c : ℕ) → is_listed (columns_for g i x) c ≡ true → c < length run.places
  column_near c h = subst (λ n. c < n) (sym s.on_columns.each_column) (column_there s.graph i c (for_listed g i x c h).1)

  pub put_back_is_sharing : AtRestSharingWith does g (put_back_whole g run i x xs)
  put_back_is_sharing = record {
    lines = lines_after g run s rest.lines i x xs m put_columns;
    out_has = λ k c h n a. (let o = out_after g run s rest.lines i x xs m put_columns k h in let had : place_at run.places c ≡ Had k = rest.out_has k c o.1 n a in
        all_home_other run.places xs (columns_for g i x) c (apart k c o.0 had) ∙ had);
    out_reads = λ k c h n only j had. (let o = out_after g run s rest.lines i x xs m put_columns k h in
        rest.out_reads k c o.1 n only j (all_home_had run.places xs (columns_for g i x) column_near c j had));
  }
