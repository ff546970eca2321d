-- A line gives back what it took last, as it was.
use Rattle.std.proofs.Common.{◌≡◌, ℕ, suc, ◌<◌, inl, inr, true, false, List, [], ◌∷◌, length, refl, sym, ◌∙◌, ap, subst, arith, ⊎_elim}
use Rattle.std.specs.Prelude.{Contains, Some, None, slice_get, slice_index, option_map}
use Rattle.std.proofs.lemmas.Bool.{cases_eq}
use Rattle.std.proofs.lemmas.Option.{none-some, same_Some}
use Rattle.index_spaces.specs.Held.{HeldList, held_at, lending_at}
use Rattle.graph_terms.specs.declared.verb.Access.{Access}
use Rattle.graph_terms.specs.Access.{accesses, is_read}
use Rattle.graph_terms.specs.Graph.{GraphValue}
use Rattle.basics.proofs.ListFacts.{contains_here, contains_there, contains_cases}
use Rattle.run_state.specs.Sound.{home_cells}
use Rattle.run_state.specs.WholeLine.{column_list}
use Rattle.share_words.specs.Shares.{share_count}
use Rattle.word_steps.specs.declared.content.Content.{Content}
use Rattle.word_steps.specs.declared.view.View.{View}
use Rattle.word_steps.specs.Claims.{Claim, TakenShare}
use Rattle.word_steps.specs.Layout.{size_of, share_slot}
use Rattle.word_steps.specs.Rule.{column_with}
use Rattle.word_steps.specs.Plays.{Sat}
use Rattle.word_loads.specs.Laden.{Taken, Whole, Seen, taken_column, columns_in, shares_in, with_taken, hand_of, slots_of, FitsAccess, Stacked, Apart, HoldsTaken, KnowsNumbers, Taking}
use Rattle.word_loads.specs.declared.loads.Load.{Load}
use Rattle.word_loads.specs.Gathering.{SeenOnTop, WholeOnTop, as_home, LosesOne, less_seen, less_whole}
use Rattle.word_loads.proofs.TakenFacts.{get_map, column_taken, share_taken, fits_column, holds_on, top_of, skip_of, seen_of, whole_of}

-- WHAT LIES ON TOP of a seat that has taken this. A share
abbrev pub seen_top : (g : GraphValue) (xs : List Access) (k : ℕ) (a : Access) (cells : List ℕ → ℕ → List ℕ) (v : View) (cl : Claim) (puts numbers : List ℕ) (left : List (ℕ × Content)) (m : Sat) (held : HeldList) (taken more : List Taken) (s : TakenShare)
    → slice_get xs k ≡ Some a → taken ≡ Seen s ∷ more → a.column ≡ s.column → m.0 ≡ record v { claim = Some (with_taken cl taken puts) } → m.1 ≡ hand_of (size_of g) taken left → Apart taken → KnowsNumbers numbers xs taken → ((t : Taken) → Contains taken t → HoldsTaken g cells held t)
    → SeenOnTop g a.column (slice_index numbers k) m held
seen_top g xs k a cells v cl puts numbers left m held taken more s at is in_it now hand apart numbered holds =
    let here : Contains taken (Seen s) = subst (λ l. Contains l (Seen s)) (sym is) (contains_here (Seen s) more) in
    let number : s.number ≡ slice_index numbers k = sym (numbered k a s at here (sym in_it)) in
    let held_here : (held_at held s.column ≡ Some (column_with g s.column s.cells)) × (lending_at held s.column ≡ Some s.lending) = holds (Seen s) here in
    let alone = (subst Apart is apart).0 in
    record {
      claim = with_taken cl (Seen s ∷ more) puts;
      has = ap (λ (y : View). y.claim) now ∙ ap (λ l. Some (with_taken cl l puts)) is;
      has_not = λ ks c_in. let t = column_taken more a.column ks c_in in alone t.0 t.1 (t.2 ∙ in_it);
      share = s;
      more = shares_in more;
      first = refl;
      is = (sym in_it, number);
      left = hand_of (size_of g) more left;
      hand = hand ∙ (ap (λ l. hand_of (size_of g) l left) is ∙ (ap (λ (p : ℕ × ℕ). (share_slot (size_of g) p.0 p.1, Rattle.word_steps.specs.declared.content.Content.TheVariants.Nothing) ∷ hand_of (size_of g) more left) (λ t. (sym in_it t, number t))));
      holds = subst (λ c. held_at held c ≡ Some (column_with g c s.cells)) (sym in_it) held_here.0;
      lending = subst (λ c. lending_at held c ≡ Some s.lending) (sym in_it) held_here.1;
    }

-- a whole column
abbrev pub whole_top : (g : GraphValue) (xs : List Access) (k : ℕ) (a : Access) (cells : List ℕ → ℕ → List ℕ) (by : Claim → List ℕ → List ℕ) (v : View) (cl : Claim) (puts : List ℕ) (left : List (ℕ × Content)) (m : Sat) (held : HeldList) (taken more : List Taken) (c : ℕ) (ks : List ℕ) (ss : List TakenShare)
    → taken ≡ Whole a.column ks ss ∷ more → Rattle.word_loads.specs.Laden.AreFirst a.column (share_count g a.column) ss → Stacked g xs k more → m.0 ≡ record v { claim = Some (with_taken cl taken puts) } → m.1 ≡ hand_of (size_of g) taken left → Apart taken
    → ((t : Taken) → Contains taken t → HoldsTaken g cells held t) → cells ks a.column ≡ by (with_taken cl (Whole a.column ks ss ∷ more) puts) ks
    → WholeOnTop g a.column by m held
whole_top g xs k a cells by v cl puts left m held taken more c ks ss is first stacked now hand apart holds same =
    let here : Contains taken (Whole a.column ks ss) = subst (λ l. Contains l (Whole a.column ks ss)) (sym is) (contains_here (Whole a.column ks ss) more) in
    let held_here : (held_at held a.column ≡ Some (column_with g a.column (cells ks a.column))) × (lending_at held a.column ≡ None) = holds (Whole a.column ks ss) here in
    let alone = (subst Apart is apart).0 in
    record {
      claim = with_taken cl (Whole a.column ks ss ∷ more) puts;
      has = ap (λ (y : View). y.claim) now ∙ ap (λ l. Some (with_taken cl l puts)) is;
      back = ks;
      columns = columns_in more;
      first = refl;
      once = λ js c_in. let t = column_taken more a.column js c_in in alone t.0 t.1 t.2;
      shares = ss;
      more = shares_in more;
      all = refl;
      are_first = first;
      others = λ s s_in q. let t = share_taken g xs k more stacked s s_in in alone t.0 t.1 (t.2 ∙ q);
      left = hand_of (size_of g) more left;
      hand = hand ∙ ap (λ l. hand_of (size_of g) l left) is;
      holds = held_here.0 ∙ ap (λ l. Some (column_with g a.column l)) same;
      own = held_here.1;
    }

module _ (g : GraphValue) (line k : ℕ) (v : View) (cl : Claim) (left : List (ℕ × Content)) (m : Sat) (x : Load) (l : Taking g line (suc k) v cl left m x.held x.numbers) (a : Access) (at : slice_get (accesses g line) k ≡ Some a) where
  abbrev pub top : (t : Taken) × (more : List Taken) × (l.taken ≡ t ∷ more) × FitsAccess g a t × Stacked g (accesses g line) k more
  top = top_of g (accesses g line) k l.taken a at l.stacked

  abbrev t : Taken
  t = top.0

  abbrev more : List Taken
  more = top.1

  column_at : slice_get (column_list g line) k ≡ Some a.column
  column_at = get_map (λ (y : Access). y.column) (accesses g line) k ∙ ap (option_map (λ (y : Access). y.column)) at

  apart : ((u : Taken) → Contains more u → taken_column u ≡ taken_column t → ⊥) × Apart more
  apart = subst Apart top.2 l.apart

  old : (u : Taken) → Contains more u → Contains l.taken u
  old u has = subst (λ (us : List Taken). Contains us u) (sym top.2) (contains_there t more u has)

  other : (u : Taken) → Contains more u → taken_column u ≡ a.column → ⊥
  other u has q = apart.0 u has (q ∙ sym (fits_column g a t top.3))

  pub seen_here : is_read a.mode ≡ true → (s : TakenShare) × (l.taken ≡ Seen s ∷ more) × (a.column ≡ s.column) × (0 < s.number) × (s.number < share_count g s.column)
  seen_here reads = let s = seen_of g a t top.3 reads in (s.0, top.2 ∙ ap (λ u. u ∷ more) s.1, s.2, s.3, s.4)

  abbrev pub on_top_seen : is_read a.mode ≡ true → SeenOnTop g a.column (slice_index x.numbers k) m x.held
  on_top_seen reads =
      let s = seen_here reads in
      seen_top g (accesses g line) k a (home_cells g) v cl [] x.numbers left m x.held l.taken more s.0 at s.1 s.2 (ap (λ (y : Sat). y.0) l.now) (ap (λ (y : Sat). y.1) l.now) l.apart l.numbered l.has

  pub number_seen : is_read a.mode ≡ true → (0 < slice_index x.numbers k) × (slice_index x.numbers k < share_count g a.column)
  number_seen reads =
      let s = seen_here reads in
      let number : s.0.number ≡ slice_index x.numbers k = (on_top_seen reads).is.1 in
      (subst (λ n. 0 < n) number s.3, subst (λ n. n < share_count g a.column) number (subst (λ c. s.0.number < share_count g c) (sym s.2) s.4))

  pub whole_here : is_read a.mode ≡ false → (ks : List ℕ) × (ss : List TakenShare) × (l.taken ≡ Whole a.column ks ss ∷ more) × Rattle.word_loads.specs.Laden.AreFirst a.column (share_count g a.column) ss
  whole_here own =
      let w = whole_of g a t top.3 own in
      (w.1, w.2, top.2 ∙ (ap (λ u. u ∷ more) w.3 ∙ ap (λ c. Whole c w.1 w.2 ∷ more) (sym w.4)), subst (λ c. Rattle.word_loads.specs.Laden.AreFirst c (share_count g c) w.2) (sym w.4) w.5)

  abbrev pub on_top_whole : is_read a.mode ≡ false → WholeOnTop g a.column (as_home g a.column) m x.held
  on_top_whole own =
      let w = whole_here own in
      whole_top g (accesses g line) k a (home_cells g) (as_home g a.column) v cl [] left m x.held l.taken more a.column w.0 w.1 w.2 w.3 top.4 (ap (λ (y : Sat). y.0) l.now) (ap (λ (y : Sat). y.1) l.now) l.apart l.has refl

  pub less_taken : (n : Sat) (y : Load) → n ≡ (record v { claim = Some (with_taken cl more []) }, hand_of (size_of g) more left) → LosesOne a.column x y → Taking g line k v cl left n y.held y.numbers
  less_taken n y now loses = record {
    taken = more;
    line_is = l.line_is;
    going = l.going;
    real = l.real;
    no_puts = l.no_puts;
    now = now;
    stacked = top.4;
    below = λ u has.
        let b = l.below u (old u has) in
        let ne : b.0 ≡ k → ⊥ = λ q. other u has (same_Some (taken_column u) a.column (sym b.2 ∙ (ap (slice_get (column_list g line)) q ∙ column_at))) in
        (b.0, (let less = b.1 in omega (arith, less, ne)), b.2);
    apart = apart.1;
    has = λ u has. holds_on g (home_cells g) x.held y.held a.column None loses.otherwise u (other u has) (l.has u (old u has));
    only = λ d z got. elim (cases_eq d a.column) [
      | inl q ↦ absurd (none-some z (sym loses.otherwise.here ∙ (ap (held_at y.held) (sym q) ∙ got)))
      | inr ne ↦ (
          let u = l.only d z (sym (loses.otherwise.others d ne) ∙ got) in
          (u.0, ⊎_elim (λ (q : t ≡ u.0). absurd (ne (sym u.2 ∙ (ap taken_column (sym q) ∙ fits_column g a t top.3)))) (λ (r : Contains more u.0). r) (contains_cases t more u.0 (subst (λ us. Contains us u.0) top.2 u.1)), u.2))
    ];
    numbered = λ i b s b_at has q. ap (λ ns. slice_index ns i) loses.numbers ∙ l.numbered i b s b_at (old (Seen s) has) q;
    size = let r = l.size in let q = ap (λ us. length us) top.2 in let short = loses.short in omega (arith, r, q, short);
  }

  -- the share is given back, or the whole column
  pub returned_seen : (reads : is_read a.mode ≡ true) (n : Sat) (y : Load) → ((o : SeenOnTop g a.column (slice_index x.numbers k) m x.held) → n ≡ less_seen m.0 o.claim o.more o.left) → LosesOne a.column x y → Taking g line k v cl left n y.held y.numbers
  returned_seen reads n y gone loses = less_taken n y (gone (on_top_seen reads) ∙ ap (λ (u : View). (record u { claim = Some (with_taken cl more []) }, hand_of (size_of g) more left)) (ap (λ (z : Sat). z.0) l.now)) loses

  pub returned_whole : (own : is_read a.mode ≡ false) (n : Sat) (y : Load) → ((o : WholeOnTop g a.column (as_home g a.column) m x.held) → n ≡ less_whole m.0 o.claim o.columns o.claim.puts o.more o.left) → LosesOne a.column x y → Taking g line k v cl left n y.held y.numbers
  returned_whole own n y gone loses = less_taken n y (gone (on_top_whole own) ∙ ap (λ (u : View). (record u { claim = Some (with_taken cl more []) }, hand_of (size_of g) more left)) (ap (λ (z : Sat). z.0) l.now)) loses

-- an access that is not there changes nothing
pub skip_taking : (g : GraphValue) (line k : ℕ) (v : View) (cl : Claim) (left : List (ℕ × Content)) (m : Sat) (held : HeldList) (numbers : List ℕ) → Taking g line (suc k) v cl left m held numbers → slice_get (accesses g line) k ≡ None → Taking g line k v cl left m held numbers
skip_taking g line k v cl left m held numbers l at = record {
  taken = l.taken;
  line_is = l.line_is;
  going = l.going;
  real = l.real;
  no_puts = l.no_puts;
  now = l.now;
  stacked = skip_of g (accesses g line) k l.taken at l.stacked;
  below = λ u has.
      let b = l.below u has in
      let none : slice_get (column_list g line) k ≡ None = get_map (λ (y : Access). y.column) (accesses g line) k ∙ ap (option_map (λ (y : Access). y.column)) at in
      let ne : b.0 ≡ k → ⊥ = λ q. none-some (taken_column u) (sym none ∙ (ap (slice_get (column_list g line)) (sym q) ∙ b.2)) in
      (b.0, (let less = b.1 in omega (arith, less, ne)), b.2);
  apart = l.apart;
  has = l.has;
  only = l.only;
  numbered = l.numbered;
  size = l.size;
}
