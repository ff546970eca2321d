-- The steps that give a column back: unused, and with the line put back on it.
use Rattle.std.proofs.Common.{◌≡◌, ℕ, ◌<◌, ◌+◌, ◌⊎◌, Bool, true, false, cond, eq-eqb, ne_eqb, inl, inr, List, [], ◌∷◌, ◌++◌, length, set, refl, sym, ◌∙◌, ap, subst, arith, get_or-set_same, ⊎_elim}
use Rattle.std.specs.Prelude.{Contains, Some, ◌==◌}
use Rattle.std.proofs.lemmas.Bool.{cases_eq}
use mathlib.Core.Option.{none, some}
use lib.ListN.{get_elem?}
use Rattle.atomic_table.specs.Table.{gives, Allows}
use Rattle.atomic_table.proofs.Lists.{set_here}
use Rattle.graph_terms.specs.Graph.{GraphValue, columns}
use Rattle.basics.specs.Sums.{total}
use Rattle.shared_events.specs.declared.events.Events.{Events}
use Rattle.basics.proofs.ListFacts.{contains_none, contains_cases, contains_here, contains_there}
use Rattle.run_state.specs.Run.{Place, Home, Had, is_listed, place_at, list_at, out}
use Rattle.run_state.specs.Sound.{home_cells}
use Rattle.run_state.specs.Work.{put_cells}
use Rattle.run_state.specs.Moves.{column_unused, column_back}
use Rattle.word_steps.proofs.RunFacts.{column_unused-sound, column_back-sound, had_not_home, had_there}
use Rattle.run_state.proofs.Public.{listed_here}
use Rattle.word_steps.specs.declared.content.Content.{Content}
use Rattle.word_steps.specs.declared.content.Content.TheVariants.{Cells, Lent}
use Rattle.word_steps.specs.declared.view.View.{View}
use Rattle.word_steps.specs.Claims.{Claim, TakenShare}
use Rattle.share_words.specs.Shares.{share_count}
use Rattle.word_steps.specs.Layout.{size_of, turn_word, column_slot}
use Rattle.word_steps.specs.Views.{issues_at, late_at, owes_at, has_issue_turn}
use Rattle.word_steps.specs.Rule.{Loans, column_with, home_content, ColumnShown, ColumnAt, HasShare, SharesDiffer, HasShares, Progress, Fits, Shown}
use Rattle.word_steps.specs.Plays.{but_first, first_column, lent_anew, shares_anew, top_lending, top_cells, unused, put_on, returns_unused, puts_back, sat}
use Rattle.word_steps.specs.Premises.{IsFirst, Tops}
use Rattle.word_steps.proofs.Aside.{Lends, aside_home, aside_back, other_set, listed_beside}
use Rattle.word_steps.proofs.Frames.{at_column, words_set, slots_set}
use Rattle.word_steps.proofs.Steps.{St, board, sum_same, claim_goes_lent}
use Rattle.word_steps.proofs.Lent.{lent_as, lent_here, lent_else, pair_is}
use Rattle.word_steps.proofs.Turns.{with_claim, on_claimed}

abbrev pub Pairs : Type 0
Pairs = List (ℕ × List ℕ)

-- the claim without that column, whose shares are of the lending in which it goes home, and with it among those it was put back on
abbrev pub less : Claim → Pairs → ℕ → ℕ → List ℕ → Claim
less cl more c d xs = record cl { columns = more; shares = lent_anew c d xs cl.shares }

abbrev pub less_put : Claim → ℕ → Pairs → ℕ → List ℕ → Claim
less_put cl c more d xs = record cl { columns = more; puts = c ∷ cl.puts; shares = lent_anew c d xs cl.shares }

-- SHARES in a new lending: the same numbers of the same columns
abbrev again : ℕ → ℕ → List ℕ → TakenShare → TakenShare
again c d xs t = cond (t.column == c) (record t { cells = xs; lending = d }) t

again_here : (c d : ℕ) (xs : List ℕ) (t : TakenShare) → t.column ≡ c → again c d xs t ≡ record t { cells = xs; lending = d }
again_here c d xs t q = ap (λ b. cond b (record t { cells = xs; lending = d }) t) (eq-eqb t.column c q)

again_else : (c d : ℕ) (xs : List ℕ) (t : TakenShare) → (t.column ≡ c → ⊥) → again c d xs t ≡ t
again_else c d xs t n = ap (λ b. cond b (record t { cells = xs; lending = d }) t) (ne_eqb t.column c n)

again_place : (c d : ℕ) (xs : List ℕ) (t : TakenShare) → ((again c d xs t).column ≡ t.column) × ((again c d xs t).number ≡ t.number)
again_place c d xs t = elim (cases_eq t.column c) [
  | inl q ↦ (let h = again_here c d xs t q in (ap (λ (y : TakenShare). y.column) h, ap (λ (y : TakenShare). y.number) h))
  | inr n ↦ (let h = again_else c d xs t n in (ap (λ (y : TakenShare). y.column) h, ap (λ (y : TakenShare). y.number) h))
]

pub anew_was : (c d : ℕ) (xs : List ℕ) (ss : List TakenShare) (t : TakenShare) → Contains (lent_anew c d xs ss) t → (u : TakenShare) × Contains ss u × (t ≡ again c d xs u)
anew_was c d xs [] t m = absurd (contains_none t m)
anew_was c d xs (s ∷ ss) t m = ⊎_elim
    (λ (q : again c d xs s ≡ t). (s, contains_here s ss, sym q))
    (λ (r : Contains (lent_anew c d xs ss) t). let u = anew_was c d xs ss t r in (u.0, contains_there s ss u.0 u.1, u.2))
    (contains_cases (again c d xs s) (lent_anew c d xs ss) t m)

pub anew_has : (c d : ℕ) (xs : List ℕ) (ss : List TakenShare) (u : TakenShare) → Contains ss u → Contains (lent_anew c d xs ss) (again c d xs u)
anew_has c d xs [] u m = absurd (contains_none u m)
anew_has c d xs (s ∷ ss) u m = ⊎_elim
    (λ (q : s ≡ u). subst (λ y. Contains (lent_anew c d xs (s ∷ ss)) (again c d xs y)) q (contains_here (again c d xs s) (lent_anew c d xs ss)))
    (λ (r : Contains ss u). contains_there (again c d xs s) (lent_anew c d xs ss) (again c d xs u) (anew_has c d xs ss u r))
    (contains_cases s ss u m)

anew_differ : (c d : ℕ) (xs : List ℕ) (ss : List TakenShare) → SharesDiffer ss → SharesDiffer (lent_anew c d xs ss)
anew_differ c d xs [] f = tt
anew_differ c d xs (s ∷ ss) f = (
  λ t m q r. let u = anew_was c d xs ss t m in
      let mine = again_place c d xs s in
      let theirs = again_place c d xs u.0 in
      f.0 u.0 u.1 (sym theirs.0 ∙ (ap (λ (y : TakenShare). y.column) (sym u.2) ∙ (q ∙ mine.0))) (sym theirs.1 ∙ (ap (λ (y : TakenShare). y.number) (sym u.2) ∙ (r ∙ mine.1))),
  anew_differ c d xs ss f.1,
)

module _ (g : GraphValue) (e : Events) (s : St) (o : Shown g e s) (id : ℕ) (v : View) (me : get_elem? s.views id ≡ some v) (c : ℕ) (cl : Claim) (has : v.claim ≡ Some cl) (ks : List ℕ) (more : Pairs) (first : IsFirst c ks more cl) (d : ℕ) (xs : List ℕ) where
  progress : Progress g o.run o.loans cl
  progress = (o.each_view id v me).claim cl has

  had : (place_at o.run.places c ≡ Had cl.line) × (list_at o.run.back c ≡ ks)
  had = progress.has c ks (subst (λ (l : Pairs). Contains l (c, ks)) (sym first.first) (contains_here {X = ℕ × List ℕ} (c, ks) more))

  there : c < length o.run.places
  there = had_there o.sound c cl.line had.0

  near : c < length (columns g)
  near = subst (λ n. c < n) o.sound.on_columns.each_column there

  abbrev places : List Place
  places = set o.run.places c (Home xs)

  now_home : place_at places c ≡ Home xs
  now_home = get_or-set_same o.run.places c (Home xs) (Home []) there

  -- the other columns of the line
  others : (k : ℕ) (js : List ℕ) → Contains more (k, js) → (k ≡ c → ⊥) × (place_at places k ≡ Had cl.line) × (list_at o.run.back k ≡ js)
  others k js d =
      let ne : k ≡ c → ⊥ = λ q. first.once js (subst (λ n. Contains {X = ℕ × List ℕ} more (n, js)) q d) in
      let p = progress.has k js (subst (λ (l : Pairs). Contains l (k, js)) (sym first.first) (contains_there {X = ℕ × List ℕ} (c, ks) more (k, js) d)) in
      (ne, other_set o.run.places (Home []) c k (Home xs) ne ∙ p.0, p.1)

  only : (k : ℕ) → place_at places k ≡ Had cl.line → (js : List ℕ) × Contains more (k, js)
  only k h = elim (cases_eq k c) [
    | inl q ↦ absurd (had_not_home (place_at places k) cl.line xs h (ap (place_at places) q ∙ now_home))
    | inr n ↦ (
        let p = progress.only k (sym (other_set o.run.places (Home []) c k (Home xs) n) ∙ h) in
        ⊎_elim (λ (q : (c, ks) ≡ (k, p.0)). absurd (n (sym (ap (λ (x : ℕ × List ℕ). x.0) q)))) (λ (d : Contains {X = ℕ × List ℕ} more (k, p.0)). (p.0, d))
        (contains_cases {X = ℕ × List ℕ} (c, ks) more (k, p.0) (subst (λ (l : Pairs). Contains l (k, p.0)) first.first p.1)))
  ]

  -- the line has all shares of the column
  all_held : (j : ℕ) → j < share_count g c → o.loans.holder c j ≡ cl.line + 1
  all_held j f = progress.shares.whole c j had.0 f

  abbrev lent : Loans
  lent = lent_as o.loans c d

  lends : Lends g cl.line o.run.places places o.loans lent
  lends = record {
    kept = λ k j i n h. h;
    were = λ k j i n h. h;
    stays = λ k j i n l f h. elim (cases_eq k c) [
      | inl q ↦ absurd (n (let mine = all_held j (subst (λ m. j < share_count g m) q f) in let theirs = subst (λ m. o.loans.holder m j ≡ i + 1) q h in omega (arith, mine, theirs)))
      | inr m ↦ (other_set o.run.places (Home []) c k (Home xs) m, lent_else o.loans c d k m)
    ];
  }

  has_shares : HasShares g places lent cl.line (lent_anew c d xs cl.shares)
  has_shares = record {
    differ = anew_differ c d xs cl.shares progress.shares.differ;
    each = λ t m.
        let u = anew_was c d xs cl.shares t m in
        let x = progress.shares.each u.0 u.1 in
        let same = again_place c d xs u.0 in
        subst (HasShare g places lent cl.line) (sym u.2) (record {
          near = subst (λ (p : ℕ × ℕ). (p.0 < length (columns g)) × (p.1 < share_count g p.0)) (sym (pair_is same.0 same.1)) x.near;
          holder = subst (λ (p : ℕ × ℕ). o.loans.holder p.0 p.1 ≡ cl.line + 1) (sym (pair_is same.0 same.1)) x.holder;
          shows = elim (cases_eq u.0.column c) [
            | inl q ↦ inl (subst (λ (y : TakenShare). (place_at places y.column ≡ Home y.cells) × (lent.lending y.column ≡ y.lending)) (sym (again_here c d xs u.0 q)) (ap (place_at places) q ∙ now_home, ap lent.lending q ∙ lent_here o.loans c d))
            | inr n ↦ subst (λ (y : TakenShare). ((place_at places y.column ≡ Home y.cells) × (lent.lending y.column ≡ y.lending)) ⊎ (place_at places y.column ≡ Had cl.line)) (sym (again_else c d xs u.0 n)) (⊎_elim
                (λ (y : (place_at o.run.places u.0.column ≡ Home u.0.cells) × (o.loans.lending u.0.column ≡ u.0.lending)). inl (other_set o.run.places (Home []) c u.0.column (Home xs) n ∙ y.0, lent_else o.loans c d u.0.column n ∙ y.1))
                (λ (y : place_at o.run.places u.0.column ≡ Had cl.line). inr (other_set o.run.places (Home []) c u.0.column (Home xs) n ∙ y))
                x.shows)
          ];
        });
    all = λ k j l f h.
        let m = progress.shares.all k j l f h in
        let same = again_place c d xs m.0 in
        (again c d xs m.0, anew_has c d xs cl.shares m.0 m.1, same.0 ∙ m.2, same.1 ∙ m.3);
    whole = λ k j h f. elim (cases_eq k c) [
      | inl q ↦ absurd (had_not_home (place_at places k) cl.line xs h (ap (place_at places) q ∙ now_home))
      | inr n ↦ progress.shares.whole k j (sym (other_set o.run.places (Home []) c k (Home xs) n) ∙ h) f
    ];
  }

  is_out : out o.run.stages cl.line ≡ true
  is_out = o.sound.on_columns.had_out c cl.line had.0

  abbrev ws : List ℕ
  ws = set s.words (turn_word (size_of g) c) 0

  abbrev hs : List (mathlib.Core.Option.Option Content)
  hs = set s.homes (column_slot (size_of g) c) (some (home_content g c d xs))

  home_words : (back : List (List ℕ)) (then : Claim) → ((k : ℕ) → late_at k (Some then) ≡ late_at k (Some cl))
      → Rattle.word_steps.specs.Rule.WordsShow g e (size_of g) (record o.run { places = places; back = back }) lent o.handles (λ k. total (issues_at k) (set s.views id (with_claim v then))) (λ k. total (owes_at k) (set s.views id (with_claim v then))) (total has_issue_turn (set s.views id (with_claim v then))) ws hs
  home_words back then same =
      let w : View = with_claim v then in
      at_column g e o.run o.loans o.handles (λ k. total (issues_at k) s.views) (λ k. total (owes_at k) s.views) (total has_issue_turn s.views) s.words s.homes o.words
      (λ k. total (issues_at k) (set s.views id w)) (λ k. total (owes_at k) (set s.views id w)) (total has_issue_turn (set s.views id w))
      (λ k. sum_same (issues_at k) s.views id v w me refl)
      c near (Home xs) d ws hs back
      (words_set (turn_word (size_of g) c) 0 s.words) (slots_set (column_slot (size_of g) c) (some (home_content g c d xs)) s.homes)
      (λ k. sum_same (owes_at k) s.views id v w me (same k ∙ ap (late_at k) (sym has))) (sum_same has_issue_turn s.views id v w me refl)
      (record {
        home = some (home_content g c d xs);
        at = set_here s.homes (column_slot (size_of g) c) (some (home_content g c d xs)) (let d = o.words.deep in omega (arith, d, near));
        shown = (get_or-set_same s.words (turn_word (size_of g) c) 0 0 (let d = o.words.wide in omega (arith, d, near)), refl);
      })
      there
      (λ j f z. let h = all_held j f in absurd (omega (arith, h, z)))

  pub unused_rule : xs ≡ home_cells g ks c → Shown g e (board ws hs (set s.views id (with_claim v (less cl more c d xs))))
  unused_rule is = claim_goes_lent g e s o id v (with_claim v (less cl more c d xs)) me cl (less cl more c d xs) has refl refl refl (column_unused o.run c xs) lent ws hs
      (aside_home c cl.line xs o.run had.0)
      lends
      (record {
        stage = progress.stage;
        has = λ k js d. let p = others k js d in (p.1, p.2);
        only = only;
        shares = has_shares;
        puts = progress.puts;
        arrived = progress.arrived;
        holds = progress.holds;
        time = progress.time;
        freed = progress.freed;
      })
      (column_unused-sound o.sound c cl.line xs (record { has = had.0; unchanged = is ∙ ap (λ l. home_cells g l c) (sym had.1) }))
      (λ j. refl)
      (λ k j l f h. is_out)
      (home_words o.run.back (less cl more c d xs) (λ k. refl))

  abbrev back' : List (List ℕ)
  back' = set o.run.back c (cl.line ∷ list_at o.run.back c)

  pub put_rule : xs ≡ put_cells g cl.line ks c → Shown g e (board ws hs (set s.views id (with_claim v (less_put cl c more d xs))))
  put_rule is = claim_goes_lent g e s o id v (with_claim v (less_put cl c more d xs)) me cl (less_put cl c more d xs) has refl refl refl (column_back o.run c cl.line xs) lent ws hs
      (aside_back c cl.line xs o.run had.0)
      lends
      (record {
        stage = progress.stage;
        has = λ k js d. let p = others k js d in (p.1, other_set o.run.back [] c k (cl.line ∷ list_at o.run.back c) p.0 ∙ p.2);
        only = only;
        shares = has_shares;
        puts = λ k. elim (cases_eq k c) [
          | inl q ↦ subst (λ n. is_listed (list_at back' n) cl.line ≡ is_listed (c ∷ cl.puts) n) (sym q)
              (ap (λ l. is_listed l cl.line) (get_or-set_same o.run.back c (cl.line ∷ list_at o.run.back c) [] (subst (λ n. c < n) (sym o.sound.on_columns.each_back) near)) ∙ (listed_here cl.line (list_at o.run.back c) ∙ sym (listed_here c cl.puts)))
          | inr n ↦ ap (λ l. is_listed l cl.line) (other_set o.run.back [] c k (cl.line ∷ list_at o.run.back c) n) ∙ (progress.puts k ∙ sym (listed_beside c k cl.puts n))
        ];
        arrived = progress.arrived;
        holds = progress.holds;
        time = progress.time;
        freed = progress.freed;
      })
      (column_back-sound o.sound c cl.line xs (record { has = had.0; changed = is ∙ ap (λ l. put_cells g cl.line l c) (sym had.1) }))
      (λ j. refl)
      (λ k j l f h. is_out)
      (home_words back' (less_put cl c more d xs) (λ k. refl))

-- THE TOP OF THE HAND tells the lending and the cells, where the column has shares
told_lending : (g : GraphValue) (c d : ℕ) (xs : List ℕ) (b : Bool) (k : ℕ) (more : List (ℕ × Content)) →
    let x : Content = cond b (Cells (column_with g c xs)) (Lent (record { column = column_with g c xs; lending = d })) in
    let then : ℕ = top_lending ((k, x) ∷ more) in
    (x ≡ cond b (Cells (column_with g c xs)) (Lent (record { column = column_with g c xs; lending = then }))) × (top_cells ((k, x) ∷ more) ≡ xs)
told_lending g c d xs true k more = (refl, refl)
told_lending g c d xs false k more = (refl, refl)

unused_is : (cl : Claim) (c d : ℕ) (ks xs : List ℕ) (more : Pairs) → cl.columns ≡ (c, ks) ∷ more → less cl more c d xs ≡ unused d xs cl
unused_is cl c d ks xs more q = ap (λ (l : Pairs). record cl { columns = but_first l; shares = shares_anew l d xs cl.shares }) (sym q)

put_on_is : (cl : Claim) (c d : ℕ) (ks xs : List ℕ) (more : Pairs) → cl.columns ≡ (c, ks) ∷ more → less_put cl c more d xs ≡ put_on d xs cl
put_on_is cl c d ks xs more q = ap (λ (l : Pairs). record cl { columns = but_first l; puts = first_column l ++ cl.puts; shares = shares_anew l d xs cl.shares }) (sym q)

-- it tells the same of what is in that lending
told_again : (g : GraphValue) (c d : ℕ) (xs : List ℕ) (b : Bool) (k : ℕ) (more : List (ℕ × Content)) →
    let then : ℕ = top_lending ((k, cond b (Cells (column_with g c xs)) (Lent (record { column = column_with g c xs; lending = d }))) ∷ more) in
    let hand : List (ℕ × Content) = (k, cond b (Cells (column_with g c xs)) (Lent (record { column = column_with g c xs; lending = then }))) ∷ more in
    ◌≡◌ {A = ℕ × List ℕ} (then, xs) (top_lending hand, top_cells hand)
told_again g c d xs true k more = refl
told_again g c d xs false k more = refl

told_top : (g : GraphValue) (c d : ℕ) (xs : List ℕ) (left : List (ℕ × Content)) →
    let then : ℕ = top_lending ((column_slot (size_of g) c, home_content g c d xs) ∷ left) in
    let hand : List (ℕ × Content) = (column_slot (size_of g) c, home_content g c then xs) ∷ left in
    ◌≡◌ {A = ℕ × List ℕ} (then, xs) (top_lending hand, top_cells hand)
told_top g c d xs left = told_again g c d xs (share_count g c == 0) (column_slot (size_of g) c) left

-- the hand in the lending that it tells
topped : (g : GraphValue) (c d : ℕ) (xs : List ℕ) (left : List (ℕ × Content)) →
    let hand : List (ℕ × Content) = (column_slot (size_of g) c, home_content g c d xs) ∷ left in
    (hand ≡ (column_slot (size_of g) c, home_content g c (top_lending hand) xs) ∷ left) × (top_cells hand ≡ xs)
topped g c d xs left =
    let t = told_lending g c d xs (share_count g c == 0) (column_slot (size_of g) c) left in
    (ap (λ (x : Content). (column_slot (size_of g) c, x) ∷ left) t.0, t.1)

pub returns_allow : (g : GraphValue) (e : Events) (slots id c : ℕ) (v : View) (hand left : List (ℕ × Content)) (cl : Claim) (ks xs : List ℕ) (more : Pairs) → v.claim ≡ Some cl → IsFirst c ks more cl → Tops g c xs hand left → xs ≡ home_cells g ks c
    → Allows (Shown g e) slots id (v, hand) (turn_word (size_of g) c) (λ _. 0) (λ _. returns_unused (v, hand))
returns_allow g e slots id c v hand left cl ks xs more has first tops is =
    let before : List (ℕ × Content) = (column_slot (size_of g) c, home_content g c tops.0 xs) ∷ left in
    let d : ℕ = top_lending before in
    let told = topped g c tops.0 xs left in
    let then : List (ℕ × Content) = (column_slot (size_of g) c, home_content g c d xs) ∷ left in
    subst (λ l. Allows (Shown g e) slots id (v, l) (turn_word (size_of g) c) (λ _. 0) (λ _. returns_unused (v, l))) (sym (tops.1 ∙ told.0)) (λ s o wide me low. (
      with_claim v (less cl more c d xs),
      gives,
      tt,
      unused_rule g e s o id v me c cl has ks more first d xs is,
      ap (λ (y : View). sat y left) (ap (with_claim v) (unused_is cl c d ks xs more first.first ∙ ap (λ (y : ℕ × List ℕ). unused y.0 y.1 cl) (told_top g c tops.0 xs left)) ∙ on_claimed (unused (top_lending then) (top_cells then)) v cl has),
    ))

pub puts_allow : (g : GraphValue) (e : Events) (slots id c : ℕ) (v : View) (hand left : List (ℕ × Content)) (cl : Claim) (ks xs : List ℕ) (more : Pairs) → v.claim ≡ Some cl → IsFirst c ks more cl → Tops g c xs hand left → xs ≡ put_cells g cl.line ks c
    → Allows (Shown g e) slots id (v, hand) (turn_word (size_of g) c) (λ _. 0) (λ _. puts_back (v, hand))
puts_allow g e slots id c v hand left cl ks xs more has first tops is =
    let before : List (ℕ × Content) = (column_slot (size_of g) c, home_content g c tops.0 xs) ∷ left in
    let d : ℕ = top_lending before in
    let told = topped g c tops.0 xs left in
    let then : List (ℕ × Content) = (column_slot (size_of g) c, home_content g c d xs) ∷ left in
    subst (λ l. Allows (Shown g e) slots id (v, l) (turn_word (size_of g) c) (λ _. 0) (λ _. puts_back (v, l))) (sym (tops.1 ∙ told.0)) (λ s o wide me low. (
      with_claim v (less_put cl c more d xs),
      gives,
      tt,
      put_rule g e s o id v me c cl has ks more first d xs is,
      ap (λ (y : View). sat y left) (ap (with_claim v) (put_on_is cl c d ks xs more first.first ∙ ap (λ (y : ℕ × List ℕ). put_on y.0 y.1 cl) (told_top g c tops.0 xs left)) ∙ on_claimed (put_on (top_lending then) (top_cells then)) v cl has),
    ))
