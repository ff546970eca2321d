-- A line takes what one more of its accesses names.
use Rattle.std.proofs.Common.{◌≡◌, ◌≢◌, ℕ, zero, suc, ◌<◌, ◌≤◌, ◌+◌, inl, inr, true, false, cond, List, [], ◌∷◌, ◌++◌, length, refl, sym, ◌∙◌, ap, subst, arith, ⊎_elim}
use Rattle.std.specs.Prelude.{Contains, Option, Some, None, slice_get, slice_index, option_map}
use Rattle.std.proofs.lemmas.Bool.{cases_eq, true≢false}
use Rattle.std.proofs.lemmas.Option.{none-some, same_Some}
use Rattle.std.proofs.lemmas.List.{append-nil}
use Rattle.std.proofs.lemmas.List.Elements.{Contains-append_left, Contains-append_right}
use Rattle.index_spaces.specs.Column.{ColumnValue}
use Rattle.index_spaces.specs.Held.{HeldList, held_at, lending_at}
use Rattle.graph_terms.specs.declared.verb.Access.{Access}
use Rattle.graph_terms.specs.Access.{accesses, is_read}
use Rattle.graph_terms.specs.Graph.{GraphValue}
use Rattle.basics.proofs.ListFacts.{contains_here, contains_there, contains_cases}
use Rattle.run_state.specs.Sound.{AccessesColumn, home_cells}
use Rattle.run_state.specs.WholeLine.{column_list}
use Rattle.share_words.specs.Shares.{share_count}
use Rattle.word_steps.specs.declared.content.Content.{Content}
use Rattle.word_steps.specs.declared.view.View.{View}
use Rattle.word_steps.specs.Claims.{Claim, TakenShare}
use Rattle.word_steps.specs.Layout.{size_of, turn_word, share_word}
use Rattle.word_steps.specs.Rule.{column_with}
use Rattle.word_steps.specs.Plays.{Sat, saw_all}
use Rattle.word_steps.specs.Premises.{Has}
use Rattle.word_loads.specs.Laden.{Taken, Whole, Seen, taken_column, with_taken, hand_of, FitsAccess, HoldsTaken, IsWordOf, IsFree, AreFree, IsAway, FoundOther, Taking, TookFree}
use Rattle.word_loads.specs.declared.loads.Load.{Load}
use Rattle.word_loads.specs.Gathering.{after, MayGather, GainsOne, NotesNumber, TakesWhole, FindsWhole, TakesSome, FindsSeen}
use Rattle.word_loads.specs.Taking.{TakesAccess}
use Rattle.word_loads.proofs.TakenFacts.{get_map, column_taken, share_taken, fits_column, holds_on, seen_one}

abbrev is_seen : Taken → Rattle.std.proofs.Common.Bool
is_seen (Whole c ks us) = false
is_seen (Seen s) = true

not_seen : (c : ℕ) (ks : List ℕ) (us : List TakenShare) (s : TakenShare) → Whole c ks us ≡ Seen s → ⊥
not_seen c ks us s e = true≢false (sym (ap is_seen e))

-- an access that is not there changes nothing
pub skip_ahead : (g : GraphValue) (line k : ℕ) (v : View) (cl : Claim) (left : List (ℕ × Content)) (m : Sat) (held : HeldList) (numbers : List ℕ) → Taking g line k v cl left m held numbers → slice_get (accesses g line) k ≡ None → Taking g line (suc k) v cl left m held numbers
skip_ahead g line k v cl left m held numbers l at = record {
  taken = l.taken;
  line_is = l.line_is;
  going = l.going;
  real = l.real;
  no_puts = l.no_puts;
  now = l.now;
  stacked = inl (at, l.stacked);
  below = λ t has. let b = l.below t has in (b.0, (let less = b.1 in omega (arith, less)), b.2);
  apart = l.apart;
  has = l.has;
  only = l.only;
  numbered = l.numbered;
  size = l.size;
}

-- what was found besides changes nothing
pub taking_found : (g : GraphValue) (line k : ℕ) (v : View) (cl : Claim) (left : List (ℕ × Content)) (m n : Sat) (held : HeldList) (numbers : List ℕ) (found : List (ℕ × ℕ)) → Taking g line k v cl left m held numbers → n ≡ after found m → Taking g line k (saw_all v found) cl left n held numbers
taking_found g line k v cl left m n held numbers found l q = record {
  taken = l.taken;
  line_is = l.line_is;
  going = l.going;
  real = l.real;
  no_puts = l.no_puts;
  now = q ∙ ap (after found) l.now;
  stacked = l.stacked;
  below = l.below;
  apart = l.apart;
  has = l.has;
  only = l.only;
  numbered = l.numbered;
  size = l.size;
}

pub saw_none : (v : View) → v ≡ saw_all v []
saw_none v = λ t. record v { saw = sym (append-nil v.saw) t }

pub saw_more : (v : View) (first more : List (ℕ × ℕ)) → saw_all (saw_all v first) more ≡ saw_all v (first ++ more)
saw_more v first more = λ t. record v { saw = Rattle.std.proofs.Common.append_assoc v.saw first more t }

-- a line that has no access k needs nothing more
pub took_none : (g : GraphValue) (line k : ℕ) (m : Sat) (x : Load) → slice_get (accesses g line) k ≡ None → TakesAccess g line k m x m x
took_none g line k m x at v cl left l = (
  [],
  λ a is. absurd (none-some a (sym at ∙ is)),
  subst (λ u. Taking g line (suc k) u cl left m x.held x.numbers) (saw_none v) (skip_ahead g line k v cl left m x.held x.numbers l at),
)

-- nothing was taken yet
pub took_first : (g : GraphValue) (line : ℕ) (v : View) (cl : Claim) (left : List (ℕ × Content)) (m : Sat) (held : HeldList) (numbers : List ℕ) → Taking g line 0 v cl left m held numbers → TookFree g line 0 v cl left m held numbers
took_first g line v cl left m held numbers l = ([], λ j low. absurd (omega (arith, low)), subst (λ u. Taking g line 0 u cl left m held numbers) (saw_none v) l)

-- what is found free is so with what was found before, and after
pub free_in : (g : GraphValue) (line k : ℕ) (found then : List (ℕ × ℕ)) → ((x : ℕ × ℕ) → Contains found x → Contains then x) → IsFree g line k found → IsFree g line k then
free_in g line k found then up f a at = both (is_read a.mode) (f a at)
  where
    both : (b : Rattle.std.proofs.Common.Bool) → cond b ((n : ℕ) × (0 < n) × (n < share_count g a.column) × Contains found (share_word (size_of g) a.column n, 0)) ((w : ℕ) → IsWordOf g a.column w → Contains found (w, 0))
        → cond b ((n : ℕ) × (0 < n) × (n < share_count g a.column) × Contains then (share_word (size_of g) a.column n, 0)) ((w : ℕ) → IsWordOf g a.column w → Contains then (w, 0))
    both true h = (h.0, h.1, h.2, up (share_word (size_of g) a.column h.0, 0) h.3)
    both false h = λ w i. up (w, 0) (h w i)

pub free_more : (g : GraphValue) (line k : ℕ) (first more : List (ℕ × ℕ)) → AreFree g line k first → IsFree g line k more → AreFree g line (suc k) (first ++ more)
free_more g line k first more all here j low = elim (cases_eq j k) [
  | inl q ↦ subst (λ n. IsFree g line n (first ++ more)) (sym q) (free_in g line k more (first ++ more) (λ x h. Contains-append_right first more x h) here)
  | inr n ↦ free_in g line j first (first ++ more) (λ x h. Contains-append_left first more x h) (all j (omega (arith, low, n)))
]

pub took_more : (g : GraphValue) (line k : ℕ) (v : View) (cl : Claim) (left : List (ℕ × Content)) (m n : Sat) (x y : Load) → TookFree g line k v cl left m x.held x.numbers → TakesAccess g line k m x n y → TookFree g line (suc k) v cl left n y.held y.numbers
took_more g line k v cl left m n x y (first, all, l) takes =
    let f = takes (saw_all v first) cl left l in (
      first ++ f.0,
      free_more g line k first f.0 all f.1,
      subst (λ u. Taking g line (suc k) u cl left n y.held y.numbers) (saw_more v first f.0) f.2,
    )

module _ (g : GraphValue) (line k : ℕ) (v : View) (cl : Claim) (left : List (ℕ × Content)) (m : Sat) (x : Load) (l : Taking g line k v cl left m x.held x.numbers) (a : Access) (at : slice_get (accesses g line) k ≡ Some a)
    (alone : (j : ℕ) → slice_get (column_list g line) j ≡ Some a.column → j ≡ k) where
  column_at : slice_get (column_list g line) k ≡ Some a.column
  column_at = get_map (λ (y : Access). y.column) (accesses g line) k ∙ ap (option_map (λ (y : Access). y.column)) at

  not_taken : (t : Taken) → Contains l.taken t → taken_column t ≡ a.column → ⊥
  not_taken t has q = let b = l.below t has in let same = alone b.0 (b.2 ∙ ap (λ (c : ℕ). Some c) q) in let less = b.1 in absurd (omega (arith, same, less))

  none_of : (o : Option ColumnValue) → held_at x.held a.column ≡ o → held_at x.held a.column ≡ None
  none_of None q = q
  none_of (Some y) q = let h = l.only a.column y q in absurd (not_taken h.0 h.1 h.2)

  pub not_held : held_at x.held a.column ≡ None
  not_held = none_of (held_at x.held a.column) refl

  pub may_gather : AccessesColumn g line a.column → Has m.0 (MayGather g line a.column)
  may_gather accessed = (
    with_taken cl l.taken [],
    ap (λ (y : Sat). y.0.claim) l.now,
    record {
      line_is = l.line_is;
      going = l.going;
      accessed = subst (λ j. AccessesColumn g j a.column) (sym l.line_is) accessed;
      real = subst (λ j. Rattle.graph_meaning.specs.Evaluation.eval_end g j ≢ Rattle.graph_terms.specs.declared.outcome.End.TheVariants.Cancelled) (sym l.line_is) l.real;
      new = refl;
      has_not = λ ks has. let t = column_taken l.taken a.column ks has in not_taken t.0 t.1 t.2;
      none = λ s has q. let t = share_taken g (accesses g line) k l.taken l.stacked s has in not_taken t.0 t.1 (t.2 ∙ q);
    },
  )

  -- one more taken
  module _ (o : Sat) (y : Load) (t : Taken) (found : List (ℕ × ℕ)) (fits : FitsAccess g a t) (now : o ≡ (record (saw_all v found) { claim = Some (with_taken cl (t ∷ l.taken) []) }, hand_of (size_of g) (t ∷ l.taken) left))
      (column : ColumnValue) (lending : Option ℕ) (gains : GainsOne a.column column lending x y) (holds : HoldsTaken g (home_cells g) y.held t)
      (others : (i : ℕ) → i ≢ k → slice_index y.numbers i ≡ slice_index x.numbers i) (number : (s : TakenShare) → t ≡ Seen s → slice_index y.numbers k ≡ s.number) where
    pub taken_more : Taking g line (suc k) (saw_all v found) cl left o y.held y.numbers
    taken_more = record {
      taken = t ∷ l.taken;
      line_is = l.line_is;
      going = l.going;
      real = l.real;
      no_puts = l.no_puts;
      now = now;
      stacked = inr (a, t, l.taken, at, refl, fits, l.stacked);
      below = λ u has. ⊎_elim
          (λ (q : t ≡ u). (k, omega arith, column_at ∙ ap (λ (c : ℕ). Some c) (sym (fits_column g a t fits) ∙ ap taken_column q)))
          (λ (r : Contains l.taken u). let b = l.below u r in (b.0, (let less = b.1 in omega (arith, less)), b.2))
          (contains_cases t l.taken u has);
      apart = (λ u has q. not_taken u has (q ∙ fits_column g a t fits), l.apart);
      has = λ u has. ⊎_elim
          (λ (q : t ≡ u). subst (HoldsTaken g (home_cells g) y.held) q holds)
          (λ (r : Contains l.taken u). holds_on g (home_cells g) x.held y.held a.column (Some column) gains.otherwise u (not_taken u r) (l.has u r))
          (contains_cases t l.taken u has);
      only = λ d z got. elim (cases_eq d a.column) [
        | inl q ↦ (t, contains_here t l.taken, fits_column g a t fits ∙ sym q)
        | inr ne ↦ (let u = l.only d z (sym (gains.otherwise.others d ne) ∙ got) in (u.0, contains_there t l.taken u.0 u.1, u.2))
      ];
      numbered = λ i b s b_at has q. ⊎_elim
          (λ (e : t ≡ Seen s).
          let same = alone i (get_map (λ (z : Access). z.column) (accesses g line) i ∙ (ap (option_map (λ (z : Access). z.column)) b_at ∙ ap (λ (c : ℕ). Some c) (sym q ∙ (sym (ap taken_column e) ∙ fits_column g a t fits)))) in
          ap (slice_index y.numbers) same ∙ number s e)
          (λ (r : Contains l.taken (Seen s)).
          others i (λ e. not_taken (Seen s) r (q ∙ ap (λ (z : Access). z.column) (same_Some b a (sym b_at ∙ (ap (slice_get (accesses g line)) e ∙ at))))) ∙ l.numbered i b s b_at r q)
          (contains_cases t l.taken (Seen s) has);
      size = gains.long ∙ omega (arith, l.size);
    }

  -- the whole column, where the access may change it
  pub takes_whole : (n : Sat) (y : Load) → is_read a.mode ≡ false → TakesWhole g a.column m x n y → (found : List (ℕ × ℕ)) × IsFree g line k found × Taking g line (suc k) (saw_all v found) cl left n y.held y.numbers
  takes_whole n y own (found, ss, back, first, free, now, gains, numbers) = (
    found,
    (λ b is. subst (λ (z : Access). cond (is_read z.mode) ((j : ℕ) × (0 < j) × (j < share_count g z.column) × Contains found (share_word (size_of g) z.column j, 0)) ((w : ℕ) → IsWordOf g z.column w → Contains found (w, 0)))
        (same_Some a b (sym at ∙ is)) (subst (λ c. cond c ((j : ℕ) × (0 < j) × (j < share_count g a.column) × Contains found (share_word (size_of g) a.column j, 0)) ((w : ℕ) → IsWordOf g a.column w → Contains found (w, 0))) (sym own) free)),
    taken_more n y (Whole a.column back ss) found (refl, own, first)
        (now ∙ ap (λ (z : Sat). (Rattle.word_steps.specs.Plays.on_claim (Rattle.word_steps.specs.Plays.took a.column back) (Rattle.word_steps.specs.Plays.on_claim (Rattle.word_loads.specs.Gathering.with_shares ss) (saw_all z.0 found)), (Rattle.word_steps.specs.Layout.column_slot (size_of g) a.column, Rattle.word_steps.specs.declared.content.Content.TheVariants.Nothing) ∷ Rattle.word_loads.specs.Laden.slots_of (size_of g) ss z.1)) l.now)
        (column_with g a.column (home_cells g back a.column)) None gains (gains.otherwise.here, gains.lending_is) (λ i ne. ap (λ (zs : List ℕ). slice_index zs i) numbers) (λ s e. absurd (not_seen a.column back ss s e)),
  )

  -- a share, where it only reads
  pub takes_some : (n : Sat) (y : Load) → is_read a.mode ≡ true → TakesSome g k a.column m x n y → (found : List (ℕ × ℕ)) × IsFree g line k found × Taking g line (suc k) (saw_all v found) cl left n y.held y.numbers
  takes_some n y reads (found, s, in_it, up, few, free, now, gains, notes, back, shows) = (
    found,
    (λ b is. subst (λ (z : Access). cond (is_read z.mode) ((j : ℕ) × (0 < j) × (j < share_count g z.column) × Contains found (share_word (size_of g) z.column j, 0)) ((w : ℕ) → IsWordOf g z.column w → Contains found (w, 0)))
        (same_Some a b (sym at ∙ is)) (subst (λ c. cond c ((j : ℕ) × (0 < j) × (j < share_count g a.column) × Contains found (share_word (size_of g) a.column j, 0)) ((w : ℕ) → IsWordOf g a.column w → Contains found (w, 0))) (sym reads) (s.number, up, few, free))),
    taken_more n y (Seen s) found (sym in_it, reads, up, subst (λ c. s.number < share_count g c) (sym in_it) few, back, subst (λ c. s.cells ≡ home_cells g back c) (sym in_it) shows)
        (now ∙ ap (λ (z : Sat). Rattle.word_loads.specs.Gathering.stacked g (s ∷ []) (after found z)) l.now)
        (column_with g a.column s.cells) (Some s.lending) gains
        (subst (λ c. (held_at y.held c ≡ Some (column_with g c s.cells)) × (lending_at y.held c ≡ Some s.lending)) (sym in_it) (gains.otherwise.here, gains.lending_is))
        notes.others (λ u e. notes.here ∙ ap (λ (z : TakenShare). z.number) (seen_one s u e)),
  )

  -- or what it names was found with another line
  pub finds_whole : (n : Sat) (y : Load) → is_read a.mode ≡ false → FindsWhole g line a.column m x n y → (found : List (ℕ × ℕ)) × (b : Access) × (slice_get (accesses g line) k ≡ Some b) × IsAway g line b found × Taking g line k (saw_all v found) cl left n y.held y.numbers
  finds_whole n y own (found, w, is_word, other, now, same) = (
    found,
    a,
    at,
    subst (λ c. cond c ((j : ℕ) → 0 < j → j < share_count g a.column → FoundOther line (share_word (size_of g) a.column j) found) ((u : ℕ) × IsWordOf g a.column u × FoundOther line u found)) (sym own) (w, is_word, other),
    subst (λ (z : Load). Taking g line k (saw_all v found) cl left n z.held z.numbers) (sym same) (taking_found g line k v cl left m n x.held x.numbers found l now),
  )

  pub finds_seen : (n : Sat) (y : Load) → is_read a.mode ≡ true → FindsSeen g line a.column m x n y → (found : List (ℕ × ℕ)) × (b : Access) × (slice_get (accesses g line) k ≡ Some b) × IsAway g line b found × Taking g line k (saw_all v found) cl left n y.held y.numbers
  finds_seen n y reads (found, other, now, same) = (
    found,
    a,
    at,
    subst (λ c. cond c ((j : ℕ) → 0 < j → j < share_count g a.column → FoundOther line (share_word (size_of g) a.column j) found) ((u : ℕ) × IsWordOf g a.column u × FoundOther line u found)) (sym reads) other,
    subst (λ (z : Load). Taking g line k (saw_all v found) cl left n z.held z.numbers) (sym same) (taking_found g line k v cl left m n x.held x.numbers found l now),
  )
