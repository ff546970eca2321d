-- A line that holds its columns is performed.
use Rattle.std.proofs.Common.{◌≡◌, ℕ, Bool, true, false, zero, suc, List, [], ◌∷◌, map, refl, sym, ◌∙◌, ap, subst, cond, eq-eqb, ne_eqb, ⊎_elim, inl, inr, ◌⊎◌}
use Rattle.std.specs.Prelude.{Contains, Option, Some, None, IsSome, is_some, slice_get, ◌==◌, ◌≢◌}
use Rattle.std.proofs.lemmas.Bool.{false≢true, true≢false}
use Rattle.std.proofs.lemmas.Option.{same_Some}
use Rattle.std.proofs.lemmas.List.Elements.{Contains-append_cases}
use Rattle.index_spaces.specs.Column.{ColumnValue, cell_of}
use Rattle.index_spaces.specs.Held.{HeldList, held_at, lending_at}
use Rattle.index_spaces.specs.Space.{points}
use Rattle.graph_terms.specs.declared.outcome.End.{End}
use Rattle.graph_terms.specs.declared.outcome.End.TheVariants.{Done, Faulted, Cancelled, Waiting}
use Rattle.graph_terms.specs.declared.outcome.Verdict.{Verdict}
use Rattle.graph_terms.specs.declared.outcome.Verdict.TheVariants.{Fine, Fault}
use Rattle.graph_terms.specs.declared.verb.Access.{Access}
use Rattle.graph_terms.specs.Graph.{GraphValue, column_space}
use Rattle.graph_terms.specs.Access.{accesses}
use Rattle.graph_meaning.specs.Effect.{Cells, CellChange, effect, cells_after}
use Rattle.graph_meaning.specs.Evaluation.{eval_end, end_by, made_by, column_of, cells_of_lines}
use Rattle.graph_meaning.proofs.Public.{listed_point}
use Rattle.basics.proofs.ListFacts.{map_agree, map_contains, contains_none, contains_here, contains_there, contains_cases, got_contains}
use Rattle.line_effects.specs.Moved.{moves, HeldShow, OwnsChanged}
use Rattle.line_effects.proofs.Public.{all_made}
use Rattle.run_state.specs.Run.{is_listed}
use Rattle.run_state.specs.Sound.{OnlyReads, home_cells}
use Rattle.run_state.specs.Work.{put_cells}
use Rattle.word_loads.proofs.RunFacts.{cell_of_point, column_space_is, changes_or_reads}
use Rattle.word_steps.specs.declared.content.Content.{Content}
use Rattle.word_steps.specs.declared.view.View.{View}
use Rattle.word_steps.specs.Claims.{Claim, TakenShare}
use Rattle.word_steps.specs.Rule.{column_with}
use Rattle.word_steps.specs.Plays.{Sat, Agrees}
use Rattle.word_loads.specs.Laden.{Taken, Whole, Seen, columns_in, shares_in, taken_column, FitsAccess, Stacked, Apart, HoldsTaken, Laden, Loaded}
use Rattle.word_loads.proofs.GatherFacts.{first_is}
use Rattle.word_loads.proofs.TakenFacts.{column_taken, only_reads, is_whole, share_in, column_in}
use Rattle.word_loads.proofs.ClaimFacts.{no_more}

-- the cells of what a line has taken
abbrev pub cells_in : GraphValue → List Taken → Cells
cells_in g [] c p = zero
cells_in g (Whole d ks ss ∷ ts) c p = cond (d == c) (cells_of_lines g (is_listed ks) c p) (cells_in g ts c p)
cells_in g (Seen s ∷ ts) c p = cond (s.column == c) (cell_of (column_with g c s.cells) p) (cells_in g ts c p)

-- of one of them
abbrev own_cells : GraphValue → Taken → Cells
own_cells g (Whole d ks ss) c p = cells_of_lines g (is_listed ks) c p
own_cells g (Seen s) c p = cell_of (column_with g c s.cells) p

cells_step : (g : GraphValue) (t : Taken) (ts : List Taken) (c p : ℕ) → cells_in g (t ∷ ts) c p ≡ cond (taken_column t == c) (own_cells g t c p) (cells_in g ts c p)
cells_step g (Whole d ks ss) ts c p = refl
cells_step g (Seen s) ts c p = refl

pub cells_are : (g : GraphValue) (ts : List Taken) (t : Taken) (p : ℕ) → Apart ts → Contains ts t → cells_in g ts (taken_column t) p ≡ own_cells g t (taken_column t) p
cells_are g [] t p a m = absurd (contains_none t m)
cells_are g (u ∷ us) t p a m = ⊎_elim
    (λ (q : u ≡ t). subst (λ (y : Taken). cells_in g (u ∷ us) (taken_column y) p ≡ own_cells g y (taken_column y) p) q
    (cells_step g u us (taken_column u) p ∙ ap (λ b. cond b (own_cells g u (taken_column u) p) (cells_in g us (taken_column u) p)) (eq-eqb (taken_column u) (taken_column u) refl)))
    (λ (r : Contains us t). cells_step g u us (taken_column t) p ∙ (ap (λ b. cond b (own_cells g u (taken_column t) p) (cells_in g us (taken_column t) p)) (ne_eqb (taken_column u) (taken_column t) (λ q. a.0 t r (sym q))) ∙ cells_are g us t p a.1 r))
    (contains_cases u us t m)

-- a whole column of the list, and a share that is of none
pub whole_in : (ts : List Taken) (c : ℕ) (ks : List ℕ) → Contains (columns_in ts) (c, ks) → (ss : List TakenShare) × Contains ts (Whole c ks ss)
whole_in [] c ks m = absurd (contains_none {X = ℕ × List ℕ} (c, ks) m)
whole_in (Whole d js ss ∷ ts) c ks m = ⊎_elim
    (λ (q : (d, js) ≡ (c, ks)). (ss, subst (λ (p : ℕ × List ℕ). Contains (Whole d js ss ∷ ts) (Whole p.0 p.1 ss)) q (contains_here (Whole d js ss) ts)))
    (λ (r : Contains {X = ℕ × List ℕ} (columns_in ts) (c, ks)). let h = whole_in ts c ks r in (h.0, contains_there (Whole d js ss) ts (Whole c ks h.0) h.1))
    (contains_cases {X = ℕ × List ℕ} (d, js) (columns_in ts) (c, ks) m)
whole_in (Seen s ∷ ts) c ks m = let h = whole_in ts c ks m in (h.0, contains_there (Seen s) ts (Whole c ks h.0) h.1)

-- each of them fits an access
pub access_of : (g : GraphValue) (xs : List Access) (k : ℕ) (ts : List Taken) → Stacked g xs k ts → (t : Taken) → Contains ts t → (a : Access) × Contains xs a × FitsAccess g a t
access_of g xs zero ts s t m = absurd (contains_none t (subst (λ l. Contains l t) s m))
access_of g xs (suc k) ts s t m = ⊎_elim
    (λ (n : (slice_get xs k ≡ None) × Stacked g xs k ts). access_of g xs k ts n.1 t m)
    (λ (r : (a : Access) × (u : Taken) × (more : List Taken) × (slice_get xs k ≡ Some a) × (ts ≡ u ∷ more) × FitsAccess g a u × Stacked g xs k more). ⊎_elim
    (λ (q : r.1 ≡ t). (r.0, got_contains xs k r.0 r.3, subst (FitsAccess g r.0) q r.5))
    (λ (o : Contains r.2 t). access_of g xs k r.2 r.6 t o)
    (contains_cases r.1 r.2 t (subst (λ l. Contains l t) r.4 m)))
    s

pub seen_in : (ts : List Taken) (s : TakenShare) → Contains (shares_in ts) s → Contains ts (Seen s) ⊎ ((c : ℕ) × (ks : List ℕ) × (ss : List TakenShare) × Contains ts (Whole c ks ss) × Contains ss s)
seen_in [] s m = absurd (contains_none s m)
seen_in (Whole c ks ss ∷ ts) s m = ⊎_elim
    (λ (l : Contains ss s). inr (c, ks, ss, contains_here (Whole c ks ss) ts, l))
    (λ (r : Contains (shares_in ts) s). ⊎_elim
    (λ (a : Contains ts (Seen s)). inl (contains_there (Whole c ks ss) ts (Seen s) a))
    (λ (b : (d : ℕ) × (js : List ℕ) × (us : List TakenShare) × Contains ts (Whole d js us) × Contains us s). inr (b.0, b.1, b.2, contains_there (Whole c ks ss) ts (Whole b.0 b.1 b.2) b.3, b.4))
    (seen_in ts s r))
    (Contains-append_cases ss (shares_in ts) s m)
seen_in (Seen u ∷ ts) s m = ⊎_elim
    (λ (q : u ≡ s). inl (subst (λ (y : TakenShare). Contains (Seen u ∷ ts) (Seen y)) q (contains_here (Seen u) ts)))
    (λ (r : Contains (shares_in ts) s). ⊎_elim
    (λ (a : Contains ts (Seen s)). inl (contains_there (Seen u) ts (Seen s) a))
    (λ (b : (d : ℕ) × (js : List ℕ) × (us : List TakenShare) × Contains ts (Whole d js us) × Contains us s). inr (b.0, b.1, b.2, contains_there (Seen u) ts (Whole b.0 b.1 b.2) b.3, b.4))
    (seen_in ts s r))
    (contains_cases u (shares_in ts) s m)

-- two of one column are one
two_apart : (ts : List Taken) (t u : Taken) → Apart ts → Contains ts t → Contains ts u → taken_column t ≡ taken_column u → (t ≡ u → ⊥) → ⊥
two_apart [] t u a m n q ne = absurd (contains_none t m)
two_apart (w ∷ ws) t u a m n q ne = ⊎_elim
    (λ (e : w ≡ t). ⊎_elim
    (λ (f : w ≡ u). ne (sym e ∙ f))
    (λ (r : Contains ws u). a.0 u r (sym q ∙ ap taken_column (sym e)))
    (contains_cases w ws u n))
    (λ (r : Contains ws t). ⊎_elim
    (λ (f : w ≡ u). a.0 t r (q ∙ ap taken_column (sym f)))
    (λ (o : Contains ws u). two_apart ws t u a.1 r o q ne)
    (contains_cases w ws u n))
    (contains_cases w ws t m)

some_where : (o p : Option ColumnValue) → is_some p ≡ is_some o → IsSome o → (x : ColumnValue) × (p ≡ Some x)
some_where o (Some x) e s = (x, refl)
some_where o None e s = absurd (false≢true (e ∙ s))

module _ (g : GraphValue) (line : ℕ) (v : View) (cl : Claim) (left : List (ℕ × Content)) (m : Sat) (held : HeldList) (numbers : List ℕ) (l : Loaded g line v cl left m held numbers) where
  abbrev pub cells : Cells
  cells = cells_in g l.taken

  pub agrees : Agrees g (columns_in l.taken) (shares_in l.taken) cells
  agrees = record {
    has = λ c ks at p h. let w = whole_in l.taken c ks at in cells_are g l.taken (Whole c ks w.0) p l.apart w.1;
    sees = λ s at alone p h. ⊎_elim
        (λ (a : Contains l.taken (Seen s)). cells_are g l.taken (Seen s) p l.apart a)
        (λ (b : (c : ℕ) × (ks : List ℕ) × (ss : List TakenShare) × Contains l.taken (Whole c ks ss) × Contains ss s).
        let f = access_of g (accesses g line) 3 l.taken l.stacked (Whole b.0 b.1 b.2) b.3 in
        let q : s.column ≡ b.0 = (first_is b.0 (Rattle.share_words.specs.Shares.share_count g b.0) b.2 f.2.2 s b.4).0 in
        absurd (alone b.1 (subst (λ d. Contains {X = ℕ × List ℕ} (columns_in l.taken) (d, b.1)) (sym q) (column_in l.taken b.0 b.1 b.2 b.3))))
        (seen_in l.taken s at);
  }

  -- what is held of each is made of these cells
  own_shows : (t : Taken) → Contains l.taken t → (x : ColumnValue) → held_at held (taken_column t) ≡ Some x → x ≡ column_with g (taken_column t) (map (λ p. own_cells g t (taken_column t) p) (points (column_space g (taken_column t))))
  own_shows (Whole c ks ss) at x got = same_Some x (column_with g c (home_cells g ks c)) (sym got ∙ (l.has (Whole c ks ss) at).0)
  own_shows (Seen s) at x got =
      let f = access_of g (accesses g line) 3 l.taken l.stacked (Seen s) at in
      let is = column_space_is l.ready.graph line s.column (f.0, f.1, f.2.0) in
      let back = f.2.4 in
      same_Some x (column_with g s.column s.cells) (sym got ∙ (l.has (Seen s) at).0)
      ∙ ap (column_with g s.column) (f.2.5 ∙ map_agree (λ p. cells_of_lines g (is_listed back) s.column p) (λ p. cell_of (column_with g s.column s.cells) p) (points (column_space g s.column))
      (λ p hp. sym (ap (λ (xs : List ℕ). cell_of (column_with g s.column xs) p) f.2.5 ∙ cell_of_point (column_space g s.column) is (cells_of_lines g (is_listed back) s.column) p (listed_point (column_space g s.column) p hp))))

  pub shows : HeldShow g cells held
  shows c x got =
      let t = l.only c x got in
      subst (λ d. x ≡ column_of g cells d) t.2
      (own_shows t.0 t.1 x (ap (held_at held) t.2 ∙ got)
      ∙ ap (column_with g (taken_column t.0)) (map_agree (λ p. own_cells g t.0 (taken_column t.0) p) (λ p. cells (taken_column t.0) p) (points (column_space g (taken_column t.0))) (λ p hp. sym (cells_are g l.taken t.0 p l.apart t.1))))

  -- each access has what it names
  taken_for : (a : Access) → Contains (accesses g line) a → (t : Taken) × Contains l.taken t × (taken_column t ≡ a.column)
  taken_for a a_in = elim (changes_or_reads g l.ready.graph line a.column (a, a_in, refl)) [
    | inl changes ↦ (let c = l.all.has a.column changes in column_taken l.taken a.column c.0 c.1)
    | inr reads ↦ (
        let s = l.all.sees a.column reads in
        let t = Rattle.word_loads.proofs.TakenFacts.share_taken g (accesses g line) 3 l.taken l.stacked s.0 s.1 in
        (t.0, t.1, t.2 ∙ s.2))
  ]

  held_taken : (t : Taken) → HoldsTaken g (home_cells g) held t → IsSome (held_at held (taken_column t))
  held_taken (Whole c ks ss) h = subst IsSome (sym h.0) refl
  held_taken (Seen s) h = subst IsSome (sym h.0) refl

  pub moved : (k c : ℕ) → slice_get (moves g line) k ≡ Some c → IsSome (held_at held c)
  moved k c at =
      let a = map_contains (λ (x : Access). x.column) (accesses g line) c (got_contains (moves g line) k c at) in
      let t = taken_for a.0 a.1 in
      subst (λ d. IsSome (held_at held d)) (t.2 ∙ a.2) (held_taken t.0 (l.has t.0 t.1))

  pub owns : OwnsChanged g line held
  owns a listed changes =
      let c = l.all.has a.column (a, listed, refl, changes) in
      let w = whole_in l.taken a.column c.0 c.1 in
      (l.has (Whole a.column c.0 w.0) w.1).1

  module _ (verdict : Verdict) (held' : HeldList) (same : (c : ℕ) → is_some (held_at held' c) ≡ is_some (held_at held c)) (lendings : (c : ℕ) → lending_at held' c ≡ lending_at held c)
      (made : (verdict ≡ (effect g line cells).verdict) × HeldShow g (cells_after cells (effect g line cells).changes) held') (line_is : cl.line ≡ line) (going : cl.ends ≡ None) where
    pub ends_so : eval_end g line ≡ end_by verdict
    ends_so = sym (l.ready.performs cells agrees).end_is ∙ ap end_by (sym made.0)

    changes_same : made_by (effect g line cells).verdict (effect g line cells).changes ≡ (effect g line cells).changes
    changes_same = all_made g line cells (effect g line cells).verdict refl

    -- a share that is seen is of no whole column
    alone : (s : TakenShare) → Contains l.taken (Seen s) → (ks : List ℕ) → Contains (columns_in l.taken) (s.column, ks) → ⊥
    alone s at ks c_in = let w = whole_in l.taken s.column ks c_in in two_apart l.taken (Whole s.column ks w.0) (Seen s) l.apart w.1 at refl (λ q. false≢true (sym (ap is_whole q)))

    -- each is held as the line leaves it
    stays : (t : Taken) → Contains l.taken t → HoldsTaken g (put_cells g line) held' t
    stays (Whole c ks ss) at =
        let h : (held_at held c ≡ Some (column_with g c (home_cells g ks c))) × (lending_at held c ≡ None) = l.has (Whole c ks ss) at in
        let o = some_where (held_at held c) (held_at held' c) (same c) (subst IsSome (sym h.0) refl) in (
          o.1 ∙ ap Some (made.1 c o.0 o.1 ∙ ap (column_with g c) (ap (λ (xs : List CellChange). (column_of g (cells_after cells xs) c).cells) (sym changes_same) ∙ l.ready.leaves cells agrees c ks (column_in l.taken c ks ss at))),
          lendings c ∙ h.1,
        )
    stays (Seen s) at =
        let h : (held_at held s.column ≡ Some (column_with g s.column s.cells)) × (lending_at held s.column ≡ Some s.lending) = l.has (Seen s) at in
        let o = some_where (held_at held s.column) (held_at held' s.column) (same s.column) (subst IsSome (sym h.0) refl) in
        let f = access_of g (accesses g line) 3 l.taken l.stacked (Seen s) at in
        let only = subst (OnlyReads g line) f.2.0 (only_reads g l.ready.graph line f.0 f.1 f.2.1) in (
          o.1 ∙ ap Some (made.1 s.column o.0 o.1 ∙ ap (column_with g s.column) (ap (λ (xs : List CellChange). (column_of g (cells_after cells xs) s.column).cells) (sym changes_same) ∙ l.ready.keeps cells agrees s (share_in l.taken s at) (alone s at) only)),
          lendings s.column ∙ h.1,
        )

    pub laden : eval_end g line ≢ Cancelled → Laden g line 3 v cl left m held' numbers
    laden real = record {
      taken = l.taken;
      puts = [];
      line_is = line_is;
      going = going;
      real = real;
      graph = l.ready.graph;
      now = ap (λ (y : Sat). y.0) l.now;
      hand = ap (λ (y : Sat). y.1) l.now;
      stacked = l.stacked;
      apart = l.apart;
      holds = stays;
      numbered = l.numbered;
      done = λ j c far at. absurd (no_more g line j c far at);
      new = λ j c low at. refl;
    }

-- A LINE THAT RUNS is not cancelled
abbrev is_cancel : End → Bool
is_cancel Done = false
is_cancel Faulted = false
is_cancel Cancelled = true
is_cancel Waiting = false

pub runs_not_cancelled : (v : Verdict) → end_by v ≡ Cancelled → ⊥
runs_not_cancelled Fine q = true≢false (sym (ap is_cancel q))
runs_not_cancelled Fault q = true≢false (sym (ap is_cancel q))
