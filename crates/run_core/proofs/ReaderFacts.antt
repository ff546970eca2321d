-- The lines that read a column are those that have shares of it.
use Rattle.std.proofs.Common.{◌≡◌, ℕ, zero, suc, ◌+◌, ◌-◌, ◌<◌, ◌≤◌, Bool, true, false, ◌&&◌, not, ◌⊎◌, inl, inr, List, [], length, refl, sym, ◌∙◌, ap, subst, arith}
use Rattle.std.specs.Prelude.{◌≢◌, cond, nat_lt, map, filter, replicate, Option, Some, None, IsSome, is_some, Contains, slice_get, slice_index_or, option_map}
use Rattle.std.proofs.lemmas.Bool.{true≢false, false≢true, false_from_ne_true, cases_eq, cases_lt, cases_Bool, and_parts, and_from, and_left, and_right, ltb-true, ltb-false}
use Rattle.std.proofs.lemmas.Option.{none-some, same_Some, slice_get-map, slice_get-get_or}
use Rattle.std.proofs.lemmas.List.{get_or_past, length-replicate}
use Rattle.std.proofs.lemmas.List.FromFn.{get_or-map-range_with_len, length-map-range_with_len}
use Rattle.basics.specs.Lists.{numbers_below, count_below}
use Rattle.basics.proofs.ListFacts.{got_contains, contains_map, map_contains, contains_filter, filter_contains, some_below, none_counted, one_more_counted, count_below-max}
use Rattle.graph_terms.specs.declared.outcome.End.{End}
use Rattle.graph_terms.specs.declared.outcome.End.TheVariants.{Done, Faulted, Cancelled, Waiting}
use Rattle.graph_terms.specs.declared.verb.Access.{Access}
use Rattle.graph_terms.specs.declared.verb.Mode.{Mode}
use Rattle.graph_terms.specs.declared.verb.Mode.TheVariants.{Read}
use Rattle.graph_terms.specs.Graph.{GraphValue, columns}
use Rattle.graph_terms.specs.Access.{accesses, is_read}
use Rattle.graph_terms.specs.Fits.{IsGraph}
use Rattle.graph_meaning.specs.Effect.{Effects, zero_cells}
use Rattle.graph_meaning.specs.Evaluation.{end_with}
use Rattle.lent_columns.specs.Lendings.{Lending, lending_in, readers_of, number_of, HasOneMore, one_fewer}
use Rattle.run_state.specs.Run.{LineStage, Run, is_listed, stage_at, stage_out, out, started}
use Rattle.run_state.specs.Sound.{AccessesColumn, OnlyReads, SoundWith}
use Rattle.run_state.specs.Sharing.{ChangesColumn}
use Rattle.run_state.specs.Quiet.{kept_cancels}
use Rattle.run_state.proofs.Public.{listed_contains, contains_listed, none_listed, columns_once, out_started, started_below_with, cancelled_by_kept}
use Rattle.run_core.specs.Readers.{reads, read_list, IsReading, is_reading, no_lendings, AreLent, SharesTaken, read_for, lendings_left}
use Rattle.run_lists.proofs.Public.{some_counted}

-- WHAT A LINE ONLY READS
read_mode : (m : Mode) → is_read m ≡ true → m ≡ Read
read_mode Read e = refl
read_mode m e = absurd (false≢true e)

access_at : (g : GraphValue) (i : ℕ) (a : Access) (m : Contains (accesses g i) a) → slice_get (accesses g i) m.0 ≡ Some a
access_at g i a m = slice_get-get_or (accesses g i) m.0 a m.1 ∙ ap (λ x. Some x) m.2

column_at : (g : GraphValue) (i : ℕ) (a : Access) (m : Contains (accesses g i) a) → slice_get (map (λ (x : Access). x.column) (accesses g i)) m.0 ≡ Some a.column
column_at g i a m = slice_get-map (λ (x : Access). x.column) (accesses g i) m.0 ∙ ap (option_map (λ (x : Access). x.column)) (access_at g i a m)

-- an access of a column is the only one
same_access : (g : GraphValue) → IsGraph g → (i : ℕ) (a b : Access) → Contains (accesses g i) a → Contains (accesses g i) b → a.column ≡ b.column → a ≡ b
same_access g f i a b ma mb e =
    let same : ma.0 ≡ mb.0 = columns_once g f i ma.0 mb.0 b.column (column_at g i a ma ∙ ap (λ c. Some c) e) (column_at g i b mb) in
    same_Some a b (sym (access_at g i a ma) ∙ (ap (slice_get (accesses g i)) same ∙ access_at g i b mb))

pub reads_of : (g : GraphValue) → IsGraph g → (i : ℕ) (a : Access) → Contains (accesses g i) a → is_read a.mode ≡ true → OnlyReads g i a.column
reads_of g f i a m r = record { accessed = (a, m, refl); reads = λ b mb e. ap (λ (x : Access). x.mode) (same_access g f i b a mb m e) ∙ read_mode a.mode r }

pub listed_reads : (g : GraphValue) → IsGraph g → (i c : ℕ) → is_listed (read_list g i) c ≡ true → OnlyReads g i c
listed_reads g f i c h =
    let m = map_contains (λ (a : Access). a.column) (filter reads (accesses g i)) c (listed_contains (read_list g i) c h) in
    let r = filter_contains reads (accesses g i) m.0 m.1 in
    subst (OnlyReads g i) m.2 (reads_of g f i m.0 r.0 r.1)

pub reads_listed : (g : GraphValue) (i c : ℕ) → OnlyReads g i c → is_listed (read_list g i) c ≡ true
reads_listed g i c only =
    let a = only.accessed in
    contains_listed (read_list g i) c (subst (Contains (read_list g i)) a.2 (contains_map (λ (x : Access). x.column) (filter reads (accesses g i)) a.0
    (contains_filter reads (accesses g i) a.0 a.1 (ap is_read (only.reads a.0 a.1 a.2)))))

pub unlisted_reads : (g : GraphValue) (i c : ℕ) → is_listed (read_list g i) c ≡ false → OnlyReads g i c → ⊥
unlisted_reads g i c e only = true≢false (sym (reads_listed g i c only) ∙ e)

pub not_both : (g : GraphValue) (i c : ℕ) → ChangesColumn g i c → OnlyReads g i c → ⊥
not_both g i c a only = true≢false (ap is_read (sym (only.reads a.0 a.1 a.2)) ∙ a.3)

pub change_accesses : (g : GraphValue) (i c : ℕ) → ChangesColumn g i c → AccessesColumn g i c
change_accesses g i c a = (a.0, a.1, a.2)

pub changes_or_reads : (g : GraphValue) → IsGraph g → (i c : ℕ) → AccessesColumn g i c → ChangesColumn g i c ⊎ OnlyReads g i c
changes_or_reads g f i c a = elim (cases_Bool (is_read a.0.mode)) [
  | inl read ↦ inr (subst (OnlyReads g i) a.2 (reads_of g f i a.0 a.1 read))
  | inr other ↦ inl (a.0, a.1, a.2, other)
]

-- WHICH LINES READ
pub reading_is : (g : GraphValue) → IsGraph g → (stages : List LineStage) (c k : ℕ) → is_reading g stages c k ≡ true → IsReading g stages k c
reading_is g f stages c k h =
    let one = and_parts (out stages k) (is_listed (read_list g k) c && not (kept_cancels g stages k)) h in
    let two = and_parts (is_listed (read_list g k) c) (not (kept_cancels g stages k)) one.1 in
    record { is_out = one.0; reads = listed_reads g f k c two.0; runs = not_cancelled (kept_cancels g stages k) two.1 }
  where
    not_cancelled : (b : Bool) → not b ≡ true → b ≡ false
    not_cancelled true e = absurd (false≢true e)
    not_cancelled false e = refl

pub is_reading_so : (g : GraphValue) (stages : List LineStage) (c k : ℕ) → IsReading g stages k c → is_reading g stages c k ≡ true
is_reading_so g stages c k r =
    and_from (out stages k) (is_listed (read_list g k) c && not (kept_cancels g stages k)) r.is_out
    (and_from (is_listed (read_list g k) c) (not (kept_cancels g stages k)) (reads_listed g k c r.reads) (ap not r.runs))

pub not_out_not_reading : (g : GraphValue) (stages : List LineStage) (c k : ℕ) → out stages k ≡ false → is_reading g stages c k ≡ false
not_out_not_reading g stages c k e = and_left (out stages k) (is_listed (read_list g k) c && not (kept_cancels g stages k)) e

-- a line that has been taken is cancelled by the ends that are kept exactly where it is in the evaluation
pub bool_same : (a b : Bool) → (a ≡ true → b ≡ true) → (b ≡ true → a ≡ true) → a ≡ b
bool_same true true f h = refl
bool_same false false f h = refl
bool_same true false f h = sym (f refl)
bool_same false true f h = h refl

module _ {does : Effects} {g : GraphValue} {run : Run} (s : SoundWith does g run) (k : ℕ) (begun : started run.stages k ≡ true) where
  stops_kept : kept_cancels g run.stages k ≡ true → end_with does zero_cells g k ≡ Cancelled
  stops_kept h = (cancelled_by_kept does g run k s (started_below_with s.on_lines k begun) (s.on_lines.comes k begun) (λ e m to. s.on_lines.sources e m (ap (started run.stages) to ∙ begun))).0 h

  pub kept_stops : end_with does zero_cells g k ≡ Cancelled → kept_cancels g run.stages k ≡ true
  kept_stops h = (cancelled_by_kept does g run k s (started_below_with s.on_lines k begun) (s.on_lines.comes k begun) (λ e m to. s.on_lines.sources e m (ap (started run.stages) to ∙ begun))).1 h

  pub kept_runs : end_with does zero_cells g k ≢ Cancelled → kept_cancels g run.stages k ≡ false
  kept_runs runs = false_from_ne_true (kept_cancels g run.stages k) (λ h. runs (stops_kept h))

  pub runs_kept : kept_cancels g run.stages k ≡ false → end_with does zero_cells g k ≢ Cancelled
  runs_kept runs e = true≢false (sym (kept_stops e) ∙ runs)

pub out_begun : (stages : List LineStage) (k : ℕ) → out stages k ≡ true → started stages k ≡ true
out_begun stages k h = out_started (stage_at stages k) h

module _ {does : Effects} {g : GraphValue} {run after : Run} (s : SoundWith does g run) (t : SoundWith does g after) where
  reading_same : (k : ℕ) → out after.stages k ≡ out run.stages k → (c : ℕ) → is_reading g after.stages c k ≡ is_reading g run.stages c k
  reading_same k same c = by_out (out run.stages k) refl
    where
      by_out : (b : Bool) → out run.stages k ≡ b → is_reading g after.stages c k ≡ is_reading g run.stages c k
      by_out false e = not_out_not_reading g after.stages c k (same ∙ e) ∙ sym (not_out_not_reading g run.stages c k e)
      by_out true e =
          let cancels : kept_cancels g after.stages k ≡ kept_cancels g run.stages k = bool_same (kept_cancels g after.stages k) (kept_cancels g run.stages k)
          (λ h. kept_stops s k (out_begun run.stages k e) (stops_kept t k (out_begun after.stages k (same ∙ e)) h))
          (λ h. kept_stops t k (out_begun after.stages k (same ∙ e)) (stops_kept s k (out_begun run.stages k e) h)) in
          (λ j. same j && (is_listed (read_list g k) c && not (cancels j)))

  -- THE LENDINGS, where no line reads more or less
  pub lent_same : ((k : ℕ) → out after.stages k ≡ out run.stages k) → (lendings : List (Option Lending)) → AreLent g run.stages lendings → AreLent g after.stages lendings
  lent_same same lendings lent = record {
    each = lent.each;
    readers = λ c. lent.readers c ∙ ap (λ (f : ℕ → Bool). count_below f (length g.lines)) (λ j k. sym (reading_same k (same k) c) j);
    some = lent.some;
  }

  -- where a line is taken that its sources cancel
  pub lent_claimed : (i : ℕ) → out run.stages i ≡ false → out after.stages i ≡ true → end_with does zero_cells g i ≡ Cancelled → ((k : ℕ) → k ≢ i → out after.stages k ≡ out run.stages k) →
      (lendings : List (Option Lending)) → AreLent g run.stages lendings → AreLent g after.stages lendings
  lent_claimed i before now cancelled others lendings lent = record {
    each = lent.each;
    readers = λ c. lent.readers c ∙ ap (λ (f : ℕ → Bool). count_below f (length g.lines)) (λ j k. sym (same c k) j);
    some = lent.some;
  }
    where
      same : (c k : ℕ) → is_reading g after.stages c k ≡ is_reading g run.stages c k
      same c k = elim (cases_eq k i) [
        | inl here ↦ (
            let stops : kept_cancels g after.stages k ≡ true = ap (kept_cancels g after.stages) here ∙ kept_stops t i (out_begun after.stages i now) cancelled in
            and_right (out after.stages k) (is_listed (read_list g k) c && not (kept_cancels g after.stages k)) (and_right (is_listed (read_list g k) c) (not (kept_cancels g after.stages k)) (ap not stops))
            ∙ sym (not_out_not_reading g run.stages c k (ap (out run.stages) here ∙ before)))
        | inr other ↦ reading_same k (others k other) c
      ]

  -- where a line is taken that runs
  pub lent_taken : (i : ℕ) → i < length g.lines → out run.stages i ≡ false → out after.stages i ≡ true → end_with does zero_cells g i ≢ Cancelled → ((k : ℕ) → k ≢ i → out after.stages k ≡ out run.stages k) →
      (old new : List (Option Lending)) → AreLent g run.stages old → SharesTaken g i old new → AreLent g after.stages new
  lent_taken i near before now runs others old new lent taken = record {
    each = taken.each ∙ lent.each;
    readers = λ c. by_list c (is_listed (read_list g i) c) refl;
    some = λ c l at. some_by c l at (is_listed (read_list g i) c) refl;
  }
    where
      reads_now : (c : ℕ) → is_reading g after.stages c i ≡ is_listed (read_list g i) c
      reads_now c =
          (λ j. now j && (is_listed (read_list g i) c && not (kept_runs t i (out_begun after.stages i now) runs j))) ∙ and_true (is_listed (read_list g i) c)
        where
          and_true : (b : Bool) → (b && true) ≡ b
          and_true true = refl
          and_true false = refl

      by_list : (c : ℕ) (b : Bool) → is_listed (read_list g i) c ≡ b → readers_of (lending_in new c) ≡ count_below (is_reading g after.stages c) (length g.lines)
      by_list c true e =
          let m = taken.more c (listed_reads g s.graph i c e) in
          let here : readers_of (lending_in new c) ≡ readers_of (lending_in old c) + 1 = ap readers_of m.1 ∙ m.2.readers in
          let was : readers_of (lending_in old c) ≡ count_below (is_reading g run.stages c) (length g.lines) = lent.readers c in
          let more : count_below (is_reading g after.stages c) (length g.lines) ≡ count_below (is_reading g run.stages c) (length g.lines) + 1 =
          one_more_counted (is_reading g run.stages c) (is_reading g after.stages c) i (λ k other. reading_same k (others k other) c) (not_out_not_reading g run.stages c i before) (reads_now c ∙ e) (length g.lines) near in
          omega (arith, here, was, more)
      by_list c false e =
          ap readers_of (taken.others c (unlisted_reads g i c e))
          ∙ (lent.readers c ∙ ap (λ (f : ℕ → Bool). count_below f (length g.lines)) (λ j k. sym (same k) j))
        where
          same : (k : ℕ) → is_reading g after.stages c k ≡ is_reading g run.stages c k
          same k = elim (cases_eq k i) [
            | inl here ↦ ap (is_reading g after.stages c) here ∙ ((reads_now c ∙ e) ∙ sym (ap (is_reading g run.stages c) here ∙ not_out_not_reading g run.stages c i before))
            | inr other ↦ reading_same k (others k other) c
          ]

      some_by : (c : ℕ) (l : Lending) → lending_in new c ≡ Some l → (b : Bool) → is_listed (read_list g i) c ≡ b → 0 < l.readers
      some_by c l at true e =
          let m = taken.more c (listed_reads g s.graph i c e) in
          let r : m.0.readers ≡ readers_of (lending_in old c) + 1 = m.2.readers in
          let same : m.0.readers ≡ l.readers = ap (λ (x : Lending). x.readers) (same_Some m.0 l (sym m.1 ∙ at)) in
          omega (arith, r, same)
      some_by c l at false e = lent.some c l (sym (taken.others c (unlisted_reads g i c e)) ∙ at)

-- ONE READER FEWER
fewer_readers : (o : Option Lending) → readers_of (one_fewer o) ≡ readers_of o - 1
fewer_readers None = refl
fewer_readers (Some l) = by_test (nat_lt 1 l.readers) refl
  where
    by_test : (b : Bool) → nat_lt 1 l.readers ≡ b → readers_of (cond b (Some (record { number = l.number; readers = l.readers - 1 })) None) ≡ l.readers - 1
    by_test true e = refl
    by_test false e = (let few : l.readers ≤ 1 = ltb-false 1 l.readers e in omega (arith, few))

fewer_some : (o : Option Lending) (m : Lending) → one_fewer o ≡ Some m → (0 < m.readers) × (number_of o ≡ Some m.number)
fewer_some None m e = absurd (none-some m e)
fewer_some (Some l) m e = by_test (nat_lt 1 l.readers) refl e
  where
    by_test : (b : Bool) → nat_lt 1 l.readers ≡ b → cond b (Some (record { number = l.number; readers = l.readers - 1 })) None ≡ Some m → (0 < m.readers) × (Some l.number ≡ Some m.number)
    by_test false t h = absurd (none-some m h)
    by_test true t h =
        let same = same_Some (record { number = l.number; readers = l.readers - 1 }) m h in
        let two : 1 < l.readers = ltb-true 1 l.readers t in
        let left : l.readers - 1 ≡ m.readers = ap (λ (x : Lending). x.readers) same in
        (omega (arith, two, left), ap (λ (x : Lending). Some x.number) same)

-- the lending of a column once a line has given its shares back
pub left_at : (g : GraphValue) (i : ℕ) (x : End) (lendings : List (Option Lending)) (c : ℕ) →
    lending_in (lendings_left g i x lendings) c ≡ cond (is_listed (read_for g i x) c) (one_fewer (lending_in lendings c)) (lending_in lendings c)
left_at g i x lendings c = elim (cases_lt c (length lendings)) [
  | inl near ↦ get_or-map-range_with_len entry 0 (length lendings) c c None near (omega arith)
  | inr far ↦ get_or_past (lendings_left g i x lendings) c None (subst (λ n. n ≤ c) (sym (length-map-range_with_len entry 0 (length lendings))) far)
      ∙ sym (none_by (is_listed (read_for g i x) c) (lending_in lendings c) (get_or_past lendings c None far))
]
  where
    entry : ℕ → Option Lending
    entry k = cond (is_listed (read_for g i x) k) (one_fewer (lending_in lendings k)) (lending_in lendings k)

    none_by : (b : Bool) (o : Option Lending) → o ≡ None → cond b (one_fewer o) o ≡ None
    none_by true o e = ap one_fewer e
    none_by false o e = e

pub left_long : (g : GraphValue) (i : ℕ) (x : End) (lendings : List (Option Lending)) → length (lendings_left g i x lendings) ≡ length lendings
left_long g i x lendings = length-map-range_with_len (λ c. cond (is_listed (read_for g i x) c) (one_fewer (lending_in lendings c)) (lending_in lendings c)) 0 (length lendings)

-- where a line ends
module _ {does : Effects} {g : GraphValue} {run after : Run} (s : SoundWith does g run) (t : SoundWith does g after) (i : ℕ) (near : i < length g.lines) (before : out run.stages i ≡ true) (now : out after.stages i ≡ false)
    (x : End) (is_end : end_with does zero_cells g i ≡ x) (others : (k : ℕ) → k ≢ i → out after.stages k ≡ out run.stages k) (lendings : List (Option Lending)) (lent : AreLent g run.stages lendings)
  where
    and_true : (b : Bool) → (b && true) ≡ b
    and_true true = refl
    and_true false = refl

    runs_so : end_with does zero_cells g i ≢ Cancelled → (c : ℕ) → is_reading g run.stages c i ≡ is_listed (read_list g i) c
    runs_so runs c = (λ j. before j && (is_listed (read_list g i) c && not (kept_runs s i (out_begun run.stages i before) runs j))) ∙ and_true (is_listed (read_list g i) c)

    read_by : (y : End) → x ≡ y → (c : ℕ) → is_reading g run.stages c i ≡ is_listed (read_for g i y) c
    read_by Cancelled e c =
        let stops : kept_cancels g run.stages i ≡ true = kept_stops s i (out_begun run.stages i before) (is_end ∙ e) in
        and_right (out run.stages i) (is_listed (read_list g i) c && not (kept_cancels g run.stages i)) (and_right (is_listed (read_list g i) c) (not (kept_cancels g run.stages i)) (ap not stops))
    read_by Done e c = runs_so (λ h. (let d : Done ≡ Cancelled = sym (is_end ∙ e) ∙ h in cc)) c
    read_by Faulted e c = runs_so (λ h. (let d : Faulted ≡ Cancelled = sym (is_end ∙ e) ∙ h in cc)) c
    read_by Waiting e c = runs_so (λ h. (let d : Waiting ≡ Cancelled = sym (is_end ∙ e) ∙ h in cc)) c

    read_before : (c : ℕ) → is_reading g run.stages c i ≡ is_listed (read_for g i x) c
    read_before c = read_by x refl c

    left_by : (c : ℕ) (b : Bool) → is_listed (read_for g i x) c ≡ b → lending_in (lendings_left g i x lendings) c ≡ cond b (one_fewer (lending_in lendings c)) (lending_in lendings c)
    left_by c b e = left_at g i x lendings c ∙ ap (λ v. cond v (one_fewer (lending_in lendings c)) (lending_in lendings c)) e

    counted : (c : ℕ) (b : Bool) → is_listed (read_for g i x) c ≡ b → readers_of (lending_in (lendings_left g i x lendings) c) ≡ count_below (is_reading g after.stages c) (length g.lines)
    counted c true e =
        let here : readers_of (lending_in (lendings_left g i x lendings) c) ≡ readers_of (lending_in lendings c) - 1 = ap readers_of (left_by c true e) ∙ fewer_readers (lending_in lendings c) in
        let was : readers_of (lending_in lendings c) ≡ count_below (is_reading g run.stages c) (length g.lines) = lent.readers c in
        let more : count_below (is_reading g run.stages c) (length g.lines) ≡ count_below (is_reading g after.stages c) (length g.lines) + 1 =
        one_more_counted (is_reading g after.stages c) (is_reading g run.stages c) i (λ k other. sym (reading_same s t k (others k other) c)) (not_out_not_reading g after.stages c i now) (read_before c ∙ e) (length g.lines) near in
        omega (arith, here, was, more)
    counted c false e =
        ap readers_of (left_by c false e) ∙ (lent.readers c ∙ ap (λ (f : ℕ → Bool). count_below f (length g.lines)) (λ j k. sym (same k) j))
      where
        same : (k : ℕ) → is_reading g after.stages c k ≡ is_reading g run.stages c k
        same k = elim (cases_eq k i) [
          | inl here ↦ ap (is_reading g after.stages c) here ∙ (not_out_not_reading g after.stages c i now ∙ sym (ap (is_reading g run.stages c) here ∙ (read_before c ∙ e)))
          | inr other ↦ reading_same s t k (others k other) c
        ]

    left_some : (c : ℕ) (l : Lending) → lending_in (lendings_left g i x lendings) c ≡ Some l → (b : Bool) → is_listed (read_for g i x) c ≡ b → 0 < l.readers
    left_some c l at true e = (fewer_some (lending_in lendings c) l (sym (left_by c true e) ∙ at)).0
    left_some c l at false e = lent.some c l (sym (left_by c false e) ∙ at)

    pub lent_ended : AreLent g after.stages (lendings_left g i x lendings)
    lent_ended = record {
      each = left_long g i x lendings ∙ lent.each;
      readers = λ c. counted c (is_listed (read_for g i x) c) refl;
      some = λ c l at. left_some c l at (is_listed (read_for g i x) c) refl;
    }

-- BEFORE ANY LINE IS OUT
pub none_lent_at : (g : GraphValue) (c : ℕ) → lending_in (no_lendings g) c ≡ None
none_lent_at g c = none_at (length (columns g)) c
  where
    none_at : (n k : ℕ) → slice_index_or (replicate {A = Option Lending} n None) k None ≡ None
    none_at zero k = refl
    none_at (suc n) zero = refl
    none_at (suc n) (suc k) = none_at n k

pub lent_first : (g : GraphValue) (stages : List LineStage) → ((k : ℕ) → out stages k ≡ false) → AreLent g stages (no_lendings g)
lent_first g stages nothing = record {
  each = length-replicate (length (columns g)) None;
  readers = λ c. ap readers_of (none_lent_at g c) ∙ sym (none_counted (is_reading g stages c) (λ k h. true≢false (sym h ∙ not_out_not_reading g stages c k (nothing k))) (length g.lines));
  some = λ c l at. absurd (none-some l (sym (none_lent_at g c) ∙ at));
}

-- where nothing is out nothing is lent
lending_by : (o : Option Lending) → ((l : Lending) → o ≡ Some l → 0 < l.readers) → readers_of o ≡ 0 → o ≡ None
lending_by None some e = refl
lending_by (Some l) some e = (let more : 0 < l.readers = some l refl in absurd (omega (arith, more, e)))

pub unlent : (g : GraphValue) (stages : List LineStage) (lendings : List (Option Lending)) → AreLent g stages lendings → ((k : ℕ) → out stages k ≡ false) → (c : ℕ) → lending_in lendings c ≡ None
unlent g stages lendings lent nothing c = lending_by (lending_in lendings c) (λ l at. lent.some c l at)
    (lent.readers c ∙ none_counted (is_reading g stages c) (λ k h. true≢false (sym h ∙ not_out_not_reading g stages c k (nothing k))) (length g.lines))

-- A COLUMN THAT A LINE READS IS LENT, and no column to more lines than there are
lent_by : (o : Option Lending) → 0 < readers_of o → (l : Lending) × (o ≡ Some l)
lent_by None h = absurd (omega (arith, h))
lent_by (Some l) h = (l, refl)

pub reader_lent : (g : GraphValue) (stages : List LineStage) (lendings : List (Option Lending)) → AreLent g stages lendings → (k c : ℕ) → k < length g.lines → IsReading g stages k c → (l : Lending) × (lending_in lendings c ≡ Some l)
reader_lent g stages lendings lent k c near r =
    let some : 1 ≤ count_below (is_reading g stages c) (length g.lines) = some_below (is_reading g stages c) (length g.lines) k near (is_reading_so g stages c k r) in
    let is : readers_of (lending_in lendings c) ≡ count_below (is_reading g stages c) (length g.lines) = lent.readers c in
    lent_by (lending_in lendings c) (omega (arith, some, is))

pub lent_reader : (g : GraphValue) → IsGraph g → (stages : List LineStage) (lendings : List (Option Lending)) → AreLent g stages lendings → (c : ℕ) (l : Lending) → lending_in lendings c ≡ Some l → (k : ℕ) × IsReading g stages k c
lent_reader g f stages lendings lent c l at =
    let is : readers_of (lending_in lendings c) ≡ count_below (is_reading g stages c) (length g.lines) = lent.readers c in
    let here : readers_of (lending_in lendings c) ≡ l.readers = ap readers_of at in
    let more : 0 < l.readers = lent.some c l at in
    let k = some_counted (is_reading g stages c) (length g.lines) (omega (arith, is, here, more)) in
    (k.0, reading_is g f stages c k.0 k.1)

pub readers_few : (g : GraphValue) (stages : List LineStage) (lendings : List (Option Lending)) → AreLent g stages lendings → (c : ℕ) → readers_of (lending_in lendings c) ≤ length g.lines
readers_few g stages lendings lent c =
    let is : readers_of (lending_in lendings c) ≡ count_below (is_reading g stages c) (length g.lines) = lent.readers c in
    let most : count_below (is_reading g stages c) (length g.lines) ≤ length g.lines = count_below-max (is_reading g stages c) (length g.lines) in
    omega (arith, is, most)

-- THE NUMBER OF A LENDING STAYS, while there is a reader
abbrev pub SameNumbers : List (Option Lending) → List (Option Lending) → Type 0
SameNumbers old new = (c : ℕ) (l m : Lending) → lending_in old c ≡ Some l → lending_in new c ≡ Some m → l.number ≡ m.number

pub numbers_same : (lendings : List (Option Lending)) → SameNumbers lendings lendings
numbers_same lendings c l m a b = ap (λ (x : Lending). x.number) (same_Some l m (sym a ∙ b))

pub numbers_taken : (g : GraphValue) → IsGraph g → (i : ℕ) (old new : List (Option Lending)) → SharesTaken g i old new → SameNumbers old new
numbers_taken g f i old new taken c l m a b = by_list (is_listed (read_list g i) c) refl
  where
    by_list : (t : Bool) → is_listed (read_list g i) c ≡ t → l.number ≡ m.number
    by_list true e = (let more = taken.more c (listed_reads g f i c e) in sym (more.2.same l a) ∙ ap (λ (x : Lending). x.number) (same_Some more.0 m (sym more.1 ∙ b)))
    by_list false e = ap (λ (x : Lending). x.number) (same_Some l m (sym a ∙ (sym (taken.others c (unlisted_reads g i c e)) ∙ b)))

pub numbers_left : (g : GraphValue) (i : ℕ) (x : End) (lendings : List (Option Lending)) → SameNumbers lendings (lendings_left g i x lendings)
numbers_left g i x lendings c l m a b = by_list (is_listed (read_for g i x) c) refl
  where
    by_list : (t : Bool) → is_listed (read_for g i x) c ≡ t → l.number ≡ m.number
    by_list true e =
        let left = left_at g i x lendings c ∙ ap (λ v. cond v (one_fewer (lending_in lendings c)) (lending_in lendings c)) e in
        same_Some l.number m.number (sym (ap number_of a) ∙ (fewer_some (lending_in lendings c) m (sym left ∙ b)).1)
    by_list false e =
        let left = left_at g i x lendings c ∙ ap (λ v. cond v (one_fewer (lending_in lendings c)) (lending_in lendings c)) e in
        ap (λ (x : Lending). x.number) (same_Some l m (sym a ∙ (sym left ∙ b)))

pub number_stays : (g : GraphValue) (before after : List LineStage) (old new : List (Option Lending)) → AreLent g before old → AreLent g after new → SameNumbers old new → (k c : ℕ) → k < length g.lines → IsReading g before k c → IsReading g after k c →
    number_of (lending_in new c) ≡ number_of (lending_in old c)
number_stays g before after old new was now same k c near r q =
    let l = reader_lent g before old was k c near r in
    let m = reader_lent g after new now k c near q in
    ap number_of m.1 ∙ (ap (λ n. Some n) (sym (same c l.0 m.0 l.1 m.1)) ∙ sym (ap number_of l.1))
