-- Lines that only read a column, side by side. To be put back on it is to take it and to put it back unchanged.
use Rattle.std.proofs.Common.{◌≡◌, ℕ, true, false, inl, inr, ◌<◌, List, [], ◌∷◌, length, refl, sym, ◌∙◌, ap, subst}
use Rattle.std.specs.Prelude.{◌≢◌, ◌==◌, slice_set}
use Rattle.std.proofs.lemmas.Bool.{true≢false, false_from_ne_true, and_parts, eqb-true}
use Rattle.std.proofs.lemmas.List.{get_or-set_same, get_or-set_other}
use lib.Seq.{set-set, set-get_or}
use mathlib.Core.Logic.{dite}
use native.Mathlib.Decide.{ℕ_discrete}
use Rattle.index_spaces.specs.Space.{points}
use Rattle.basics.proofs.ListFacts.{map_same}
use Rattle.graph_terms.specs.Graph.{GraphValue, column_space}
use Rattle.graph_meaning.specs.Effect.{Cells, Effects, zero_cells, cells_after, touches}
use Rattle.graph_meaning.specs.Evaluation.{changes_with, cells_of_lines_with}
use Rattle.graph_meaning.specs.Laws.{FitsMode}
use Rattle.graph_meaning.proofs.Public.{cells_after_untouched}
use Rattle.run_state.specs.Run.{Place, Home, Had, Run, is_listed, stage_at, place_at, list_at, out}
use Rattle.run_state.specs.Sound.{OnlyReads, home_cells_with, SoundWith}
use Rattle.run_state.specs.Moves.{column_back, column_read}
use Rattle.run_state.specs.Premises.{MayReadColumnWith, MayBackOrReadWith}
use Rattle.run_state.specs.Work.{SeesAllWith, cells_now_with, put_cells_with}
use Rattle.run_state.specs.WholeLine.{column_list, columns_back}
use Rattle.run_state.proofs.Lists.{out_started, listed_cases, listed_here, listed_there}
use Rattle.run_state.proofs.Known.{column_there, columns_fresh}
use Rattle.run_state.proofs.Started.{started_ends, change_access}
use Rattle.run_state.proofs.Columns.{cell_with_one, column_out-sound, column_back-sound}
use Rattle.run_state.proofs.Reductions.{Fresh}
use Rattle.run_state.proofs.WholeLine.{not_the_first}

-- a line changes no cell of a column that it only reads
pub cell_is_left : {does : Effects} {g : GraphValue} {run : Run} → SoundWith does g run → (i c : ℕ) → out run.stages i ≡ true → OnlyReads g i c →
    (cells : Cells) (p : ℕ) → cells_after cells (changes_with does zero_cells g i) c p ≡ cells c p
cell_is_left {does} {g} {run} s i c h only cells p =
    let ends = started_ends s.graph s.accepted s.on_lines i (out_started (stage_at run.stages i) h) in
    cells_after_untouched cells (changes_with does zero_cells g i) c p (λ x hx. false_from_ne_true (touches c p x) (λ t.
    let w = change_access s i ends x hx in
    let at : c ≡ x.column = eqb-true c x.column (and_parts (c == x.column) (p == x.point) t).0 in
    subst (λ m. FitsMode m x.change) (only.reads w.access w.listed (w.column ∙ sym at)) w.mode))

pub read_leaves : {does : Effects} {g : GraphValue} {run : Run} → SoundWith does g run → (i c : ℕ) → out run.stages i ≡ true → OnlyReads g i c →
    put_cells_with does g i (list_at run.back c) c ≡ home_cells_with does g (list_at run.back c) c
read_leaves {does} {g} {run} s i c h only =
    let found : Cells = cells_of_lines_with does zero_cells g (is_listed (list_at run.back c)) in
    map_same (λ p. cells_after found (changes_with does zero_cells g i) c p) (λ p. found c p) (points (column_space g c)) (cell_is_left s i c h only found)

is_home : (p : Place) → ((k : ℕ) → p ≢ Had k) → (xs : List ℕ) × (p ≡ Home xs)
is_home (Home xs) h = (xs, refl)
is_home (Had k) h = absurd (h k refl)

list_there : {does : Effects} {g : GraphValue} {run : Run} → SoundWith does g run → (i c : ℕ) → OnlyReads g i c → c < length run.back
list_there {does} {g} {run} s i c only = subst (λ n. c < n) (sym s.on_columns.each_back) (column_there s.graph i c only.accessed)

pub column_read-sound : {does : Effects} {g : GraphValue} {run : Run} → SoundWith does g run → (c i : ℕ) → MayReadColumnWith does g run c i →
    SoundWith does g (column_read run c i)
column_read-sound {does} {g} {run} s c i m =
    let home = is_home (place_at run.places c) m.at_home in
    let there : c < length run.places = subst (λ n. c < n) (sym s.on_columns.each_column) (column_there s.graph i c m.only_reads.accessed) in
    let taken = column_out-sound s c i record {
      is_out = m.is_out;
      accessed = m.only_reads.accessed;
      not_cancelled = m.not_cancelled;
      not_back = m.not_back;
      at_home = m.at_home;
    } in
    let unchanged : home.0 ≡ put_cells_with does g i (list_at run.back c) c =
    s.on_columns.cells c home.0 home.1 ∙ sym (read_leaves s i c m.is_out m.only_reads) in
    let back = column_back-sound taken c i home.0
    record { has = get_or-set_same run.places c (Had i) (Home []) there; changed = unchanged } in
    let places : slice_set (slice_set run.places c (Had i)) c (Home home.0) ≡ run.places =
    set-set run.places c (Had i) (Home home.0) ∙ (ap (slice_set run.places c) (sym home.1) ∙ set-get_or run.places c (Home [])) in
    subst (λ ps. SoundWith does g (record run { places = ps; back = slice_set run.back c (i ∷ list_at run.back c) })) places back

-- with the line put back on it its cells are the same
pub cell_is_kept : {does : Effects} {g : GraphValue} {run : Run} → SoundWith does g run → (i c : ℕ) → out run.stages i ≡ true → OnlyReads g i c →
    is_listed (list_at run.back c) i ≡ false → (p : ℕ) →
    cells_of_lines_with does zero_cells g (is_listed (i ∷ list_at run.back c)) c p ≡ cells_now_with does g run c p
cell_is_kept {does} {g} {run} s i c h only none p = sym (cell_with_one s c i h none p)
    ∙ cell_is_left s i c h only (cells_of_lines_with does zero_cells g (is_listed (list_at run.back c))) p

pub column_read_leaves_cells : {does : Effects} {g : GraphValue} {run : Run} → SoundWith does g run → (c i : ℕ) → MayReadColumnWith does g run c i →
    (d p : ℕ) → cells_now_with does g (column_read run c i) d p ≡ cells_now_with does g run d p
column_read_leaves_cells {does} {g} {run} s c i m d p =
    let here : cells_now_with does g (column_read run c i) c p ≡ cells_now_with does g run c p =
    ap (λ ks. cells_of_lines_with does zero_cells g (is_listed ks) c p)
    (get_or-set_same run.back c (i ∷ list_at run.back c) [] (list_there s i c m.only_reads))
    ∙ cell_is_kept s i c m.is_out m.only_reads m.not_back p in
    dite (ℕ_discrete d c)
    (λ e. subst (λ z. cells_now_with does g (column_read run c i) z p ≡ cells_now_with does g run z p) (sym e) here)
    (λ ne. ap (λ ks. cells_of_lines_with does zero_cells g (is_listed ks) d p) (get_or-set_other run.back c d (i ∷ list_at run.back c) [] ne))

-- another line is put back nowhere by it
others_not_back : {does : Effects} {g : GraphValue} {run : Run} → SoundWith does g run → (i k c : ℕ) → OnlyReads g k c → i ≢ k →
    ((d : ℕ) → is_listed (list_at run.back d) i ≡ false) → (d : ℕ) → is_listed (list_at (column_read run c k).back d) i ≡ false
others_not_back {does} {g} {run} s i k c only ne none d =
    let new : List ℕ = k ∷ list_at run.back c in
    let here : is_listed (list_at (slice_set run.back c new) c) i ≡ false =
    ap (λ ks. is_listed ks i) (get_or-set_same run.back c new [] (list_there s k c only))
    ∙ false_from_ne_true (is_listed new i) (λ l. elim (listed_cases k i (list_at run.back c) l) [
      | inl e ↦ ne e
      | inr r ↦ true≢false (sym r ∙ none c)
    ]) in
    dite (ℕ_discrete d c)
    (λ e. subst (λ z. is_listed (list_at (slice_set run.back c new) z) i ≡ false) (sym e) here)
    (λ other. ap (λ ks. is_listed ks i) (get_or-set_other run.back c d new [] other) ∙ none d)

pub readers_stay_apart : {does : Effects} {g : GraphValue} {run : Run} → SoundWith does g run → (i k c : ℕ) (cells : Cells) →
    MayReadColumnWith does g run c k → i ≢ k → SeesAllWith does g run i cells → SeesAllWith does g (column_read run c k) i cells
readers_stay_apart s i k c cells m ne w = record {
  is_out = w.is_out;
  not_cancelled = w.not_cancelled;
  not_back = others_not_back s i k c m.only_reads ne w.not_back;
  sees = λ d a p h. w.sees d a p h ∙ sym (column_read_leaves_cells s c k m d p);
}

-- a line put back on a column that it has, or that it only reads and no line has
one_back-sound : {does : Effects} {g : GraphValue} {run : Run} → SoundWith does g run → (c i : ℕ) (xs : List ℕ) →
    MayBackOrReadWith does g run c i xs → SoundWith does g (column_back run c i xs)
one_back-sound {does} {g} {run} s c i xs m = elim m.has_or_reads [
  | inl had ↦ column_back-sound s c i xs record { has = had; changed = m.changed }
  | inr reads ↦ (let home = is_home (place_at run.places c) reads.1 in
      let cells : xs ≡ home.0 = m.changed ∙ (read_leaves s i c m.is_out reads.0 ∙ sym (s.on_columns.cells c home.0 home.1)) in
      let places : run.places ≡ slice_set run.places c (Home xs) =
      sym (set-get_or run.places c (Home [])) ∙ ap (slice_set run.places c) (home.1 ∙ ap Home (sym cells)) in
      subst (λ ps. SoundWith does g (record run { places = ps; back = slice_set run.back c (i ∷ list_at run.back c) })) places
      (column_read-sound s c i record {
        is_out = m.is_out;
        only_reads = reads.0;
        not_cancelled = m.not_cancelled;
        not_back = m.not_back;
        at_home = reads.1;
      }))
]

back_later : {does : Effects} {g : GraphValue} {run : Run} → (c d i : ℕ) (xs ys : List ℕ) → d ≢ c → MayBackOrReadWith does g run d i ys →
    MayBackOrReadWith does g (column_back run c i xs) d i ys
back_later {does} {g} {run} c d i xs ys ne m =
    let place = get_or-set_other run.places c d (Home xs) (Home []) ne in
    let list = get_or-set_other run.back c d (i ∷ list_at run.back c) [] ne in
    record {
      is_out = m.is_out;
      not_cancelled = m.not_cancelled;
      not_back = ap (λ ks. is_listed ks i) list ∙ m.not_back;
      has_or_reads = elim m.has_or_reads [ inl had ↦ inl (place ∙ had) | inr reads ↦ inr (reads.0, (λ k e. reads.1 k (sym place ∙ e))) ];
      changed = m.changed ∙ ap (λ ks. put_cells_with does g i ks d) (sym list);
    }

-- several, one after another
pub each_back-sound : {does : Effects} {g : GraphValue} {run : Run} → SoundWith does g run → (i : ℕ) (xs : ℕ → List ℕ) (cs : List ℕ) → Fresh cs →
    ((c : ℕ) → is_listed cs c ≡ true → MayBackOrReadWith does g run c i (xs c)) → SoundWith does g (columns_back run i xs cs)
each_back-sound s i xs [] f m = s
each_back-sound s i xs (c ∷ cs) f m = each_back-sound (one_back-sound s c i (xs c) (m c (listed_here c cs))) i xs cs f.1
    (λ d h. back_later c d i (xs c) (xs d) (not_the_first c d cs f h) (m d (listed_there c d cs h)))

pub back_or_read-sound : {does : Effects} {g : GraphValue} {run : Run} → SoundWith does g run → (i : ℕ) (xs : ℕ → List ℕ) →
    ((c : ℕ) → is_listed (column_list g i) c ≡ true → MayBackOrReadWith does g run c i (xs c)) → SoundWith does g (columns_back run i xs (column_list g i))
back_or_read-sound {does} {g} {run} s i xs m = each_back-sound s i xs (column_list g i) (columns_fresh g s.graph i) m
