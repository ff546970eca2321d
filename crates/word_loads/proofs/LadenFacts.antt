-- A laden line is put back on one more of its columns.
use Rattle.std.proofs.Common.{◌≡◌, ℕ, suc, ◌<◌, inl, inr, true, false, List, [], ◌∷◌, sym, ◌∙◌, ap, subst, arith}
use Rattle.std.specs.Prelude.{Contains, Some, None, slice_get, slice_index, option_map, ◌≢◌}
use Rattle.std.proofs.lemmas.Bool.{cases_eq}
use Rattle.std.proofs.lemmas.Option.{none-some, same_Some}
use Rattle.index_spaces.specs.Held.{HeldList}
use Rattle.graph_terms.specs.declared.verb.Access.{Access}
use Rattle.graph_terms.specs.Access.{accesses, is_read}
use Rattle.graph_terms.specs.Graph.{GraphValue}
use Rattle.basics.proofs.ListFacts.{contains_there, got_contains}
use Rattle.run_state.specs.Run.{is_listed}
use Rattle.run_state.specs.Sound.{OnlyReads}
use Rattle.run_state.specs.Work.{put_cells}
use Rattle.run_state.specs.WholeLine.{column_list}
use Rattle.run_state.proofs.Public.{listed_here, listed_there, columns_once}
use Rattle.share_words.specs.Shares.{share_count}
use Rattle.word_steps.specs.declared.content.Content.{Content}
use Rattle.word_steps.specs.declared.view.View.{View}
use Rattle.word_steps.specs.Claims.{Claim, TakenShare}
use Rattle.word_steps.specs.Layout.{size_of}
use Rattle.word_steps.specs.Plays.{Sat}
use Rattle.word_loads.specs.Laden.{Taken, Whole, Seen, taken_column, with_taken, hand_of, FitsAccess, Stacked, Apart, Laden}
use Rattle.word_loads.specs.declared.loads.Load.{Load}
use Rattle.word_loads.specs.Gathering.{SeenOnTop, WholeOnTop, MayRead, as_left, LosesOne, less_read, less_whole}
use Rattle.word_steps.proofs.Public.{listed_beside}
use Rattle.word_loads.proofs.TakenFacts.{get_map, fits_column, holds_on, top_of, skip_of, seen_of, whole_of, only_reads}
use Rattle.word_loads.proofs.ReturnFacts.{seen_top, whole_top}

module _ (g : GraphValue) (line k : ℕ) (v : View) (cl : Claim) (left : List (ℕ × Content)) (m : Sat) (x : Load) (l : Laden g line (suc k) v cl left m x.held x.numbers) (a : Access) (at : slice_get (accesses g line) k ≡ Some a) where
  abbrev pub top : (t : Taken) × (more : List Taken) × (l.taken ≡ t ∷ more) × FitsAccess g a t × Stacked g (accesses g line) k more
  top = top_of g (accesses g line) k l.taken a at l.stacked

  abbrev t : Taken
  t = top.0

  abbrev more : List Taken
  more = top.1

  pub column_at : slice_get (column_list g line) k ≡ Some a.column
  column_at = get_map (λ (y : Access). y.column) (accesses g line) k ∙ ap (option_map (λ (y : Access). y.column)) at

  apart : ((u : Taken) → Contains more u → taken_column u ≡ taken_column t → ⊥) × Apart more
  apart = subst Apart top.2 l.apart

  old : (u : Taken) → Contains more u → Contains l.taken u
  old u has = subst (λ (us : List Taken). Contains us u) (sym top.2) (contains_there t more u has)

  other : (u : Taken) → Contains more u → taken_column u ≡ a.column → ⊥
  other u has q = apart.0 u has (q ∙ sym (fits_column g a t top.3))

  pub seen_here : is_read a.mode ≡ true → (s : TakenShare) × (l.taken ≡ Seen s ∷ more) × (a.column ≡ s.column) × (0 < s.number) × (s.number < share_count g s.column)
  seen_here reads = let s = seen_of g a t top.3 reads in (s.0, top.2 ∙ ap (λ u. u ∷ more) s.1, s.2, s.3, s.4)

  abbrev pub on_top_seen : is_read a.mode ≡ true → SeenOnTop g a.column (slice_index x.numbers k) m x.held
  on_top_seen reads =
      let s = seen_here reads in
      seen_top g (accesses g line) k a (put_cells g line) v cl l.puts x.numbers left m x.held l.taken more s.0 at s.1 s.2 l.now l.hand l.apart l.numbered l.holds

  pub number_seen : is_read a.mode ≡ true → (0 < slice_index x.numbers k) × (slice_index x.numbers k < share_count g a.column)
  number_seen reads =
      let s = seen_here reads in
      let number : s.0.number ≡ slice_index x.numbers k = (on_top_seen reads).is.1 in
      (subst (λ n. 0 < n) number s.3, subst (λ n. n < share_count g a.column) number (subst (λ c. s.0.number < share_count g c) (sym s.2) s.4))

  pub whole_here : is_read a.mode ≡ false → (ks : List ℕ) × (ss : List TakenShare) × (l.taken ≡ Whole a.column ks ss ∷ more) × Rattle.word_loads.specs.Laden.AreFirst a.column (share_count g a.column) ss
  whole_here own =
      let w = whole_of g a t top.3 own in
      (w.1, w.2, top.2 ∙ (ap (λ u. u ∷ more) w.3 ∙ ap (λ c. Whole c w.1 w.2 ∷ more) (sym w.4)), subst (λ c. Rattle.word_loads.specs.Laden.AreFirst c (share_count g c) w.2) (sym w.4) w.5)

  abbrev pub on_top_whole : is_read a.mode ≡ false → WholeOnTop g a.column (as_left g a.column) m x.held
  on_top_whole own =
      let w = whole_here own in
      whole_top g (accesses g line) k a (put_cells g line) (as_left g a.column) v cl l.puts left m x.held l.taken more a.column w.0 w.1 w.2 w.3 top.4 l.now l.hand l.apart l.holds (ap (λ j. put_cells g j w.0 a.column) (sym l.line_is))

  -- a line that only reads the column may be put back on it
  pub may_read : (reads : is_read a.mode ≡ true) → MayRead g a.column (on_top_seen reads).claim
  may_read reads = record {
    going = l.going;
    reads = subst (λ j. OnlyReads g j a.column) (sym l.line_is) (only_reads g l.graph line a (got_contains (accesses g line) k a at) reads);
    real = subst (λ j. Rattle.graph_meaning.specs.Evaluation.eval_end g j ≢ Rattle.graph_terms.specs.declared.outcome.End.TheVariants.Cancelled) (sym l.line_is) l.real;
    new = l.new k a.column (omega arith) column_at;
  }

  alone : (j : ℕ) → slice_get (column_list g line) j ≡ Some a.column → j ≡ k
  alone j at' = columns_once g l.graph line j k a.column at' column_at

  less_laden : (n : Sat) (y : Load) → n ≡ (record v { claim = Some (with_taken cl more (a.column ∷ l.puts)) }, hand_of (size_of g) more left) → LosesOne a.column x y → Laden g line k v cl left n y.held y.numbers
  less_laden n y now loses = record {
    taken = more;
    puts = a.column ∷ l.puts;
    line_is = l.line_is;
    going = l.going;
    real = l.real;
    graph = l.graph;
    now = ap (λ (z : Sat). z.0) now;
    hand = ap (λ (z : Sat). z.1) now;
    stacked = top.4;
    apart = apart.1;
    holds = λ u has. holds_on g (put_cells g line) x.held y.held a.column None loses.otherwise u (other u has) (l.holds u (old u has));
    numbered = λ i b s b_at has q. ap (λ ns. slice_index ns i) loses.numbers ∙ l.numbered i b s b_at (old (Seen s) has) q;
    done = λ j d far at'. elim (cases_eq j k) [
      | inl q ↦ subst (λ y. is_listed (a.column ∷ l.puts) y ≡ true) (same_Some a.column d (sym column_at ∙ (ap (slice_get (column_list g line)) (sym q) ∙ at'))) (listed_here a.column l.puts)
      | inr ne ↦ listed_there a.column d l.puts (l.done j d (omega (arith, far, ne)) at')
    ];
    new = λ j d low at'. listed_beside a.column d l.puts (λ q. let same = alone j (at' ∙ ap (λ (c : ℕ). Some c) q) in absurd (omega (arith, low, same))) ∙ l.new j d (omega (arith, low)) at';
  }

  -- the share is given back so, or the whole column
  pub put_seen : (reads : is_read a.mode ≡ true) (n : Sat) (y : Load) → ((o : SeenOnTop g a.column (slice_index x.numbers k) m x.held) → n ≡ less_read a.column m.0 o.claim o.more o.left) → LosesOne a.column x y → Laden g line k v cl left n y.held y.numbers
  put_seen reads n y gone loses = less_laden n y (gone (on_top_seen reads) ∙ ap (λ (u : View). (record u { claim = Some (with_taken cl more (a.column ∷ l.puts)) }, hand_of (size_of g) more left)) l.now) loses

  pub put_whole : (own : is_read a.mode ≡ false) (n : Sat) (y : Load) → ((o : WholeOnTop g a.column (as_left g a.column) m x.held) → n ≡ less_whole m.0 o.claim o.columns (a.column ∷ o.claim.puts) o.more o.left) → LosesOne a.column x y → Laden g line k v cl left n y.held y.numbers
  put_whole own n y gone loses = less_laden n y (gone (on_top_whole own) ∙ ap (λ (u : View). (record u { claim = Some (with_taken cl more (a.column ∷ l.puts)) }, hand_of (size_of g) more left)) l.now) loses

-- an access that is not there changes nothing
pub skip_laden : (g : GraphValue) (line k : ℕ) (v : View) (cl : Claim) (left : List (ℕ × Content)) (m : Sat) (held : HeldList) (numbers : List ℕ) → Laden g line (suc k) v cl left m held numbers → slice_get (accesses g line) k ≡ None → Laden g line k v cl left m held numbers
skip_laden g line k v cl left m held numbers l at =
    let none : slice_get (column_list g line) k ≡ None = get_map (λ (y : Access). y.column) (accesses g line) k ∙ ap (option_map (λ (y : Access). y.column)) at in
    record {
      taken = l.taken;
      puts = l.puts;
      line_is = l.line_is;
      going = l.going;
      real = l.real;
      graph = l.graph;
      now = l.now;
      hand = l.hand;
      stacked = skip_of g (accesses g line) k l.taken at l.stacked;
      apart = l.apart;
      holds = l.holds;
      numbered = l.numbered;
      done = λ j d far at'. elim (cases_eq j k) [
        | inl q ↦ absurd (none-some d (sym none ∙ (ap (slice_get (column_list g line)) (sym q) ∙ at')))
        | inr ne ↦ l.done j d (omega (arith, far, ne)) at'
      ];
      new = λ j d low at'. l.new j d (omega (arith, low)) at';
    }

-- where all are put back the line has no column, and is put back on all
pub all_put : (g : GraphValue) (line : ℕ) (v : View) (cl : Claim) (left : List (ℕ × Content)) (m : Sat) (held : HeldList) (numbers : List ℕ) (l : Laden g line 0 v cl left m held numbers) → m ≡ (record v { claim = Some (with_taken cl [] l.puts) }, left)
all_put g line v cl left m held numbers l = λ t. (
  (l.now ∙ ap (λ (us : List Taken). record v { claim = Some (with_taken cl us l.puts) }) l.stacked) t,
  (l.hand ∙ ap (λ (us : List Taken). hand_of (size_of g) us left) l.stacked) t,
)
