-- The steps that take a share of a column, give it back, and give it back with the line put back on the column.
use Rattle.std.proofs.Common.{◌≡◌, ◌≢◌, ℕ, zero, suc, ◌<◌, ◌+◌, true, false, inl, inr, List, [], ◌∷◌, ◌++◌, length, set, get_or, refl, sym, ◌∙◌, ap, subst, arith, get_or-set_same, ⊎_elim}
use Rattle.std.specs.Prelude.{Contains, Some, ◌==◌}
use Rattle.std.proofs.lemmas.Bool.{cases_eq}
use Rattle.std.proofs.lemmas.Option.{same_Some}
use mathlib.Core.Option.{none, some}
use lib.ListN.{get_elem?}
use prog.Atomic.{either}
use Rattle.atomic_table.specs.Table.{Act, keeps, takes, gives, Valid, Allows, stepped, carried_after}
use Rattle.atomic_table.proofs.Lists.{exchanged, set_here}
use Rattle.graph_terms.specs.Graph.{GraphValue, columns}
use Rattle.graph_terms.specs.declared.outcome.End.TheVariants.{Cancelled}
use Rattle.graph_meaning.specs.Evaluation.{eval_end}
use Rattle.basics.specs.Sums.{total}
use Rattle.shared_events.specs.declared.events.Events.{Events}
use Rattle.basics.proofs.ListFacts.{contains_cases, contains_here, contains_there}
use Rattle.run_state.specs.Run.{Place, Home, Had, is_listed, place_at, list_at, stage_out, out}
use Rattle.run_state.specs.Sound.{OnlyReads, home_cells}
use Rattle.run_state.specs.Moves.{column_read}
use Rattle.word_steps.proofs.RunFacts.{had_not_home, home_one, column_read-sound}
use Rattle.run_state.proofs.Public.{listed_here}
use Rattle.word_steps.specs.declared.content.Content.{Content}
use Rattle.word_steps.specs.declared.content.Content.TheVariants.{Share}
use Rattle.word_steps.specs.declared.view.View.{View}
use Rattle.word_steps.specs.Claims.{Claim, Ground, TakenShare}
use Rattle.share_words.specs.Shares.{share_count}
use Rattle.word_steps.specs.Layout.{size_of, share_word, share_slot}
use Rattle.word_steps.specs.Views.{issues_at, late_at, owes_at, has_issue_turn, working}
use Rattle.word_steps.specs.Rule.{Loans, ground_of, share_value, ShareShown, SharesDiffer, HasShares, Progress, WordsShow, Shown}
use Rattle.word_steps.specs.Plays.{Sat, on_claim, took_share, GotShare, NotOwnShare, takes_share, but_first, first_shared, without_share, read_on, gives_share, reads_back, saw_at, sat}
use Rattle.word_steps.specs.Premises.{MayTakeShare, MayGiveShare, MayReadBack}
use Rattle.word_steps.proofs.Aside.{Lends, aside_same, aside_read, other_set, listed_beside}
use Rattle.word_steps.proofs.Lent.{held_as, held_here, held_else, same_share, pair_is, share_word_within, share_slot_within, share_word_apart}
use Rattle.word_steps.proofs.Frames.{at_share, words_set, slots_set}
use Rattle.word_steps.proofs.Steps.{St, board, sum_same, claim_goes_lent}
use Rattle.word_steps.proofs.Looks.{saw_rule, kept_word}
use Rattle.word_steps.proofs.Turns.{with_claim, on_claimed}

-- a share that a line has is not there
out_now : (g : GraphValue) (c j line d : ℕ) (p : Place) → ShareShown g c j d p (line + 1) none
out_now g c j line d p = subst (λ n. ShareShown g c j d p n none) (let q : suc line ≡ line + 1 = omega arith in q) refl

-- a share that nobody has is at home
share_here : (g : GraphValue) (c j d : ℕ) (p : Place) (who : ℕ) (home : mathlib.Core.Option.Option Content) → ShareShown g c j d p who home → who ≡ 0 → (xs : List ℕ) × (p ≡ Home xs) × (home ≡ some (Share (share_value g c j d xs)))
share_here g c j d p zero home l q = l
share_here g c j d p (suc i) home l q = absurd (omega (arith, q))

module _ (g : GraphValue) (e : Events) (s : St) (o : Shown g e s) (id : ℕ) (v : View) (me : get_elem? s.views id ≡ some v) (c j : ℕ) (cl : Claim) (has : v.claim ≡ Some cl) (near : c < length (columns g)) (few : j < share_count g c) where
  progress : Progress g o.run o.loans cl
  progress = (o.each_view id v me).claim cl has

  abbrev word : ℕ
  word = share_word (size_of g) c j

  abbrev slot : ℕ
  slot = share_slot (size_of g) c j

  -- the column and the number of which the word tells
  named : (x : Ground) (k n : ℕ) → Contains v.keys x → k < length (columns x.graph) → n < share_count x.graph k → word ≡ share_word (size_of x.graph) k n → (x ≡ ground_of g e) × (c ≡ k) × (j ≡ n)
  named x k n key l f at =
      let same : x ≡ ground_of g e = (o.each_view id v me).keys x key in
      let both : (c ≡ k) × (j ≡ n) = subst (λ (y : Ground). k < length (columns y.graph) → n < share_count y.graph k → word ≡ share_word (size_of y.graph) k n → (c ≡ k) × (j ≡ n)) (sym same) (λ l f at. share_word_apart g c j k n near few l f at) l f at in
      (same, both.0, both.1)

  -- the words after the step, with this holder and these lines put back
  share_words : (who : ℕ) (home : mathlib.Core.Option.Option Content) (back : List (List ℕ)) (saw : List (ℕ × ℕ)) (then : Claim) → ((k : ℕ) → late_at k (Some then) ≡ late_at k (Some cl)) → ShareShown g c j (o.loans.lending c) (place_at o.run.places c) who home
      → WordsShow g e (size_of g) (record o.run { back = back }) (held_as o.loans c j who) o.handles (λ k. total (issues_at k) (set s.views id (record v { saw = saw; claim = Some then }))) (λ k. total (owes_at k) (set s.views id (record v { saw = saw; claim = Some then }))) (total has_issue_turn (set s.views id (record v { saw = saw; claim = Some then }))) (set s.words word who) (set s.homes slot home)
  share_words who home back saw then same shown =
      let w : View = record v { saw = saw; claim = Some then } in
      let in_words = share_word_within g c j near few in
      let in_slots = share_slot_within g c j near few in
      let here : get_or (set s.words word who) word 0 ≡ who = get_or-set_same s.words word who 0 (let d = o.words.wide in let b = in_words.1 in omega (arith, d, b)) in
      at_share g e o.run o.loans o.handles (λ k. total (issues_at k) s.views) (λ k. total (owes_at k) s.views) (total has_issue_turn s.views) s.words s.homes o.words
      (λ k. total (issues_at k) (set s.views id w)) (λ k. total (owes_at k) (set s.views id w)) (total has_issue_turn (set s.views id w))
      (λ k. sum_same (issues_at k) s.views id v w me refl)
      c j near few who (set s.words word who) (set s.homes slot home) back
      (words_set word who s.words) (slots_set slot home s.homes)
      (λ k. sum_same (owes_at k) s.views id v w me (same k ∙ ap (late_at k) (sym has))) (sum_same has_issue_turn s.views id v w me refl)
      here
      (record { home = home; at = set_here s.homes slot home (let d = o.words.deep in let b = in_slots.1 in omega (arith, d, b)); shown = shown })

  -- TAKEN
  module _ (may : MayTakeShare g c j cl) (free : get_or s.words word 0 ≡ 0) where
    nobody : o.loans.holder c j ≡ 0
    nobody = sym (o.words.share_words c j near few) ∙ free

    pub home : (xs : List ℕ) × (place_at o.run.places c ≡ Home xs) × ((o.words.shares c j near few).home ≡ some (Share (share_value g c j (o.loans.lending c) xs)))
    home = share_here g c j (o.loans.lending c) (place_at o.run.places c) (o.loans.holder c j) (o.words.shares c j near few).home (o.words.shares c j near few).shown nobody

    abbrev pub t : TakenShare
    t = record { column = c; number = j; cells = home.0; lending = o.loans.lending c }

    abbrev lent : Loans
    lent = held_as o.loans c j (cl.line + 1)

    lends : Lends g cl.line o.run.places o.run.places o.loans lent
    lends = record {
      kept = λ k n i ne h. elim (same_share k c n j) [
        | inl q ↦ absurd (let z = subst (λ (x : ℕ × ℕ). o.loans.holder x.0 x.1 ≡ i + 1) (pair_is q.0 q.1) h in let f = nobody in omega (arith, z, f))
        | inr m ↦ held_else o.loans c j (cl.line + 1) k n m ∙ h
      ];
      were = λ k n i ne h. elim (same_share k c n j) [
        | inl q ↦ absurd (ne (let z = subst (λ (x : ℕ × ℕ). lent.holder x.0 x.1 ≡ i + 1) (pair_is q.0 q.1) h in let f = held_here o.loans c j (cl.line + 1) in omega (arith, z, f)))
        | inr m ↦ sym (held_else o.loans c j (cl.line + 1) k n m) ∙ h
      ];
      stays = λ k n i ne l f h. (refl, refl);
    }

    -- a share that the line has stays with it
    still_held : (k n : ℕ) → o.loans.holder k n ≡ cl.line + 1 → lent.holder k n ≡ cl.line + 1
    still_held k n h = elim (same_share k c n j) [
      | inl q ↦ subst (λ (x : ℕ × ℕ). lent.holder x.0 x.1 ≡ cl.line + 1) (sym (pair_is q.0 q.1)) (held_here o.loans c j (cl.line + 1))
      | inr m ↦ held_else o.loans c j (cl.line + 1) k n m ∙ h
    ]

    has_shares : HasShares g o.run.places lent cl.line (t ∷ cl.shares)
    has_shares = record {
      differ = ((λ u m q r. let h = (progress.shares.each u m).holder in let z = subst (λ (x : ℕ × ℕ). o.loans.holder x.0 x.1 ≡ cl.line + 1) (pair_is q r) h in let f = nobody in absurd (omega (arith, z, f))), progress.shares.differ);
      each = λ u m. ⊎_elim
          (λ (q : t ≡ u). subst (Rattle.word_steps.specs.Rule.HasShare g o.run.places lent cl.line) q (record { near = (near, few); holder = held_here o.loans c j (cl.line + 1); shows = inl (home.1, refl) }))
          (λ (r : Contains cl.shares u). let x = progress.shares.each u r in record { near = x.near; holder = still_held u.column u.number x.holder; shows = x.shows })
          (contains_cases t cl.shares u m);
      all = λ k n l f h. elim (same_share k c n j) [
        | inl q ↦ (t, contains_here t cl.shares, sym q.0, sym q.1)
        | inr m ↦ (let x = progress.shares.all k n l f (sym (held_else o.loans c j (cl.line + 1) k n m) ∙ h) in (x.0, contains_there t cl.shares x.0 x.1, x.2, x.3))
      ];
      whole = λ k n h f. still_held k n (progress.shares.whole k n h f);
    }

    abbrev w : View
    w = with_claim (saw_at v word 0) (took_share t cl)

    pub take_rule : Shown g e (board (set s.words word (cl.line + 1)) (set s.homes slot none) (set s.views id w))
    take_rule = claim_goes_lent g e s o id v w me cl (took_share t cl) has refl refl refl o.run lent (set s.words word (cl.line + 1)) (set s.homes slot none)
        (aside_same cl.line o.run) lends
        (record {
          stage = progress.stage;
          has = progress.has;
          only = progress.only;
          shares = has_shares;
          puts = progress.puts;
          arrived = progress.arrived;
          holds = progress.holds;
          time = progress.time;
          freed = progress.freed;
        })
        o.sound (λ k. refl)
        (λ k n l f h. ap stage_out (progress.stage ∙ ap working may.going))
        (share_words (cl.line + 1) none o.run.back (v.saw ++ (word, 0) ∷ []) (took_share t cl) (λ k. refl) (out_now g c j cl.line (o.loans.lending c) (place_at o.run.places c)))

    pub take_told : (hand : List (ℕ × Content)) → GotShare word (v, hand) (w, (slot, Share (share_value g c j (o.loans.lending c) home.0)) ∷ hand)
    take_told hand =
        let free_v : View = saw_at v word 0 in
        let top : ℕ × Content = (slot, Share (share_value g c j (o.loans.lending c) home.0)) in
        record {
          back = list_at o.run.back c;
          cells = home.0;
          lending = o.loans.lending c;
          now = λ x k n key l f at.
              let a = named x k n key l f at in
              subst (λ (y : Ground). sat w (top ∷ hand) ≡ sat (on_claim (took_share (record { column = k; number = n; cells = home.0; lending = o.loans.lending c })) free_v) ((share_slot (size_of y.graph) k n, Share (share_value y.graph k n (o.loans.lending c) home.0)) ∷ hand)) (sym a.0)
              (subst (λ (p : ℕ × ℕ). sat w (top ∷ hand) ≡ sat (on_claim (took_share (record { column = p.0; number = p.1; cells = home.0; lending = o.loans.lending c })) free_v) ((share_slot (size_of g) p.0 p.1, Share (share_value g p.0 p.1 (o.loans.lending c) home.0)) ∷ hand)) (pair_is a.1 a.2)
              (ap (λ (y : View). sat y (top ∷ hand)) (on_claimed (took_share t) free_v cl has)));
          shows = λ x k n key l f at.
              let a = named x k n key l f at in
              subst (λ (y : Ground). home.0 ≡ home_cells y.graph (list_at o.run.back c) k) (sym a.0) (subst (λ m. home.0 ≡ home_cells g (list_at o.run.back c) m) a.1 (o.sound.on_columns.cells c home.0 home.1));
          same = λ x k n d u key l f at had m in_it.
              let a = named x k n key l f at in
              let mine : d ≡ cl = same_Some d cl (sym had ∙ has) in
              let at_c : u.column ≡ c = in_it ∙ sym a.1 in
              ⊎_elim
              (λ (y : (place_at o.run.places u.column ≡ Home u.cells) × (o.loans.lending u.column ≡ u.lending)). (sym y.1 ∙ ap o.loans.lending at_c, home_one u.cells home.0 (sym y.0 ∙ (ap (place_at o.run.places) at_c ∙ home.1))))
              (λ (y : place_at o.run.places u.column ≡ Had cl.line). absurd (had_not_home (place_at o.run.places c) cl.line home.0 (ap (place_at o.run.places) (sym at_c) ∙ y) home.1))
              (progress.shares.each u (subst (λ (y : Claim). Contains y.shares u) mine m)).shows;
        }

    pub take_at_home : get_elem? s.homes slot ≡ some (some (Share (share_value g c j (o.loans.lending c) home.0)))
    take_at_home = (o.words.shares c j near few).at ∙ ap some home.2

  pub not_own : NotOwnShare word v (get_or s.words word 0)
  not_own x k n d key l f at had notin own =
      let a = named x k n key l f at in
      let mine : d ≡ cl = same_Some d cl (sym had ∙ has) in
      let held : o.loans.holder c j ≡ cl.line + 1 = sym (o.words.share_words c j near few) ∙ (own ∙ ap (λ (y : Claim). y.line + 1) mine) in
      let m = progress.shares.all c j near few held in
      notin m.0 (subst (λ (y : Claim). Contains y.shares m.0) (sym mine) m.1) (m.2 ∙ a.1) (m.3 ∙ a.2)

  -- GIVEN BACK
  module _ (t : TakenShare) (more : List TakenShare) (first : cl.shares ≡ t ∷ more) (is : (t.column ≡ c) × (t.number ≡ j)) (has_not : (ks : List ℕ) → Contains cl.columns (c, ks) → ⊥) where
    listed : Contains cl.shares t
    listed = subst (λ ss. Contains ss t) (sym first) (contains_here t more)

    -- the column is at home, as the share shows it
    pub at_home : (place_at o.run.places c ≡ Home t.cells) × (o.loans.lending c ≡ t.lending)
    at_home = ⊎_elim
        (λ (y : (place_at o.run.places t.column ≡ Home t.cells) × (o.loans.lending t.column ≡ t.lending)). subst (λ k. (place_at o.run.places k ≡ Home t.cells) × (o.loans.lending k ≡ t.lending)) is.0 y)
        (λ (y : place_at o.run.places t.column ≡ Had cl.line). let n = progress.only c (ap (place_at o.run.places) (sym is.0) ∙ y) in absurd (has_not n.0 n.1))
        (progress.shares.each t listed).shows

    no_line : (k : ℕ) → place_at o.run.places c ≡ Had k → ⊥
    no_line k h = had_not_home (place_at o.run.places c) k t.cells h at_home.0

    mine : o.loans.holder c j ≡ cl.line + 1
    mine = subst (λ (x : ℕ × ℕ). o.loans.holder x.0 x.1 ≡ cl.line + 1) (pair_is is.0 is.1) (progress.shares.each t listed).holder

    abbrev lent' : Loans
    lent' = held_as o.loans c j 0

    lends' : Lends g cl.line o.run.places o.run.places o.loans lent'
    lends' = record {
      kept = λ k n i ne h. elim (same_share k c n j) [
        | inl q ↦ absurd (ne (let z = subst (λ (x : ℕ × ℕ). o.loans.holder x.0 x.1 ≡ i + 1) (pair_is q.0 q.1) h in let f = mine in omega (arith, z, f)))
        | inr m ↦ held_else o.loans c j 0 k n m ∙ h
      ];
      were = λ k n i ne h. elim (same_share k c n j) [
        | inl q ↦ absurd (let z = subst (λ (x : ℕ × ℕ). lent'.holder x.0 x.1 ≡ i + 1) (pair_is q.0 q.1) h in let f = held_here o.loans c j 0 in omega (arith, z, f))
        | inr m ↦ sym (held_else o.loans c j 0 k n m) ∙ h
      ];
      stays = λ k n i ne l f h. (refl, refl);
    }

    differ : SharesDiffer (t ∷ more)
    differ = subst SharesDiffer first progress.shares.differ

    has_shares' : HasShares g o.run.places lent' cl.line more
    has_shares' = record {
      differ = differ.1;
      each = λ u m.
          let x = progress.shares.each u (subst (λ ss. Contains ss u) (sym first) (contains_there t more u m)) in
          record {
            near = x.near;
            holder = held_else o.loans c j 0 u.column u.number (λ q. differ.0 u m (q.0 ∙ sym is.0) (q.1 ∙ sym is.1)) ∙ x.holder;
            shows = x.shows;
          };
      all = λ k n l f h. elim (same_share k c n j) [
        | inl q ↦ absurd (let z = subst (λ (x : ℕ × ℕ). lent'.holder x.0 x.1 ≡ cl.line + 1) (pair_is q.0 q.1) h in let f = held_here o.loans c j 0 in omega (arith, z, f))
        | inr m ↦ (
            let x = progress.shares.all k n l f (sym (held_else o.loans c j 0 k n m) ∙ h) in
            (x.0, ⊎_elim (λ (q : t ≡ x.0). absurd (m (sym x.2 ∙ (ap (λ (y : TakenShare). y.column) (sym q) ∙ is.0), sym x.3 ∙ (ap (λ (y : TakenShare). y.number) (sym q) ∙ is.1)))) (λ r. r) (contains_cases t more x.0 (subst (λ ss. Contains ss x.0) first x.1)), x.2, x.3))
      ];
      whole = λ k n h f. held_else o.loans c j 0 k n (λ q. no_line cl.line (ap (place_at o.run.places) (sym q.0) ∙ h)) ∙ progress.shares.whole k n h f;
    }

    is_out : out o.run.stages cl.line ≡ true
    is_out = o.holders c j cl.line near few mine

    abbrev content : Content
    content = Share (share_value g c j t.lending t.cells)

    goes_home : ShareShown g c j (o.loans.lending c) (place_at o.run.places c) 0 (some content)
    goes_home = (t.cells, at_home.0, ap (λ d. some (Share (share_value g c j d t.cells))) (sym at_home.1))

    pub give_rule : Shown g e (board (set s.words word 0) (set s.homes slot (some content)) (set s.views id (with_claim v (record cl { shares = more }))))
    give_rule = claim_goes_lent g e s o id v (with_claim v (record cl { shares = more })) me cl (record cl { shares = more }) has refl refl refl o.run lent' (set s.words word 0) (set s.homes slot (some content))
        (aside_same cl.line o.run) lends'
        (record {
          stage = progress.stage;
          has = progress.has;
          only = progress.only;
          shares = has_shares';
          puts = progress.puts;
          arrived = progress.arrived;
          holds = progress.holds;
          time = progress.time;
          freed = progress.freed;
        })
        o.sound (λ k. refl)
        (λ k n l f h. is_out)
        (share_words 0 (some content) o.run.back v.saw (record cl { shares = more }) (λ k. refl) goes_home)

    -- with the line put back on the column
    abbrev back' : List (List ℕ)
    back' = set o.run.back c (cl.line ∷ list_at o.run.back c)

    abbrev read_claim : Claim
    read_claim = record cl { shares = more; puts = c ∷ cl.puts }

    pub read_rule : OnlyReads g cl.line c → eval_end g cl.line ≢ Cancelled → is_listed cl.puts c ≡ false → Shown g e (board (set s.words word 0) (set s.homes slot (some content)) (set s.views id (with_claim v read_claim)))
    read_rule reads real new = claim_goes_lent g e s o id v (with_claim v read_claim) me cl read_claim has refl refl refl (column_read o.run c cl.line) lent' (set s.words word 0) (set s.homes slot (some content))
        (aside_read c cl.line o.run no_line) lends'
        (record {
          stage = progress.stage;
          has = λ k ks m. let p = progress.has k ks m in (p.0, other_set o.run.back [] c k (cl.line ∷ list_at o.run.back c) (λ q. no_line cl.line (ap (place_at o.run.places) (sym q) ∙ p.0)) ∙ p.1);
          only = progress.only;
          shares = has_shares';
          puts = λ k. elim (cases_eq k c) [
            | inl q ↦ subst (λ n. is_listed (list_at back' n) cl.line ≡ is_listed (c ∷ cl.puts) n) (sym q)
                (ap (λ l. is_listed l cl.line) (get_or-set_same o.run.back c (cl.line ∷ list_at o.run.back c) [] (subst (λ n. c < n) (sym o.sound.on_columns.each_back) near)) ∙ (listed_here cl.line (list_at o.run.back c) ∙ sym (listed_here c cl.puts)))
            | inr n ↦ ap (λ l. is_listed l cl.line) (other_set o.run.back [] c k (cl.line ∷ list_at o.run.back c) n) ∙ (progress.puts k ∙ sym (listed_beside c k cl.puts n))
          ];
          arrived = progress.arrived;
          holds = progress.holds;
          time = progress.time;
          freed = progress.freed;
        })
        (column_read-sound o.sound c cl.line (record { is_out = is_out; only_reads = reads; not_cancelled = real; not_back = progress.puts c ∙ new; at_home = no_line }))
        (λ k. refl)
        (λ k n l f h. is_out)
        (share_words 0 (some content) back' v.saw read_claim (λ k. refl) goes_home)

pub takes_allow : (g : GraphValue) (e : Events) (slots id c j : ℕ) (m : Sat) (cl : Claim) → m.0.claim ≡ Some cl → c < length (columns g) → j < share_count g c → MayTakeShare g c j cl
    → Allows (Shown g e) slots id m (share_word (size_of g) c j) (λ n. either (n == 0) (cl.line + 1) n) (takes_share (share_word (size_of g) c j) m)
takes_allow g e slots id c j m cl has near few may s o wide me low =
    let v = m.0 in
    let i : ℕ = share_word (size_of g) c j in
    let r = get_or s.words i 0 in
    exchanged r 0 (cl.line + 1) (λ x. (w : View) × (a : Act Content) × Valid s.homes m.1 a × Shown g e (stepped s i x id m.1 w a) × takes_share i m r (w, carried_after m.1 a))
    (λ is. (
      with_claim (saw_at v i 0) (took_share (t g e s o id v me c j cl has near few may is) cl),
      takes (share_slot (size_of g) c j) (Share (share_value g c j (o.loans.lending c) (home g e s o id v me c j cl has near few may is).0)),
      take_at_home g e s o id v me c j cl has near few may is,
      take_rule g e s o id v me c j cl has near few may is,
      ((λ _. take_told g e s o id v me c j cl has near few may is m.1), (λ ne. absurd (ne is))),
    ))
    (λ ne. (
      saw_at v i r,
      keeps,
      tt,
      kept_word g e s i (set s.views id (saw_at v i r)) (saw_rule g e s o id v me i r),
      ((λ is. absurd (ne is)), (λ _. (refl, not_own g e s o id v me c j cl has near few))),
    ))

without_is : (cl : Claim) (t : TakenShare) (more : List TakenShare) → cl.shares ≡ t ∷ more → record cl { shares = more } ≡ without_share cl
without_is cl t more q = ap (λ (l : List TakenShare). record cl { shares = but_first l }) (sym q)

read_on_is : (cl : Claim) (c : ℕ) (t : TakenShare) (more : List TakenShare) → cl.shares ≡ t ∷ more → t.column ≡ c → record cl { shares = more; puts = c ∷ cl.puts } ≡ read_on cl
read_on_is cl c t more q at = ap (λ n. record cl { shares = more; puts = n ∷ cl.puts }) (sym at) ∙ ap (λ (l : List TakenShare). record cl { shares = but_first l; puts = first_shared l ++ cl.puts }) (sym q)

pub gives_allow : (g : GraphValue) (e : Events) (slots id c j : ℕ) (v : View) (hand : List (ℕ × Content)) → c < length (columns g) → j < share_count g c → (may : MayGiveShare g c j (v, hand))
    → Allows (Shown g e) slots id (v, hand) (share_word (size_of g) c j) (λ _. 0) (λ _. gives_share (v, hand))
gives_allow g e slots id c j v hand near few may =
    subst (λ l. Allows (Shown g e) slots id (v, l) (share_word (size_of g) c j) (λ _. 0) (λ _. gives_share (v, l))) (sym may.tops) (λ s o wide me low. (
      with_claim v (record may.claim { shares = may.more }),
      gives,
      tt,
      give_rule g e s o id v me c j may.claim may.has near few may.share may.more may.first may.is may.has_not,
      ap (λ (y : View). sat y may.left) (ap (with_claim v) (without_is may.claim may.share may.more may.first) ∙ on_claimed without_share v may.claim may.has),
    ))

pub reads_allow : (g : GraphValue) (e : Events) (slots id c j : ℕ) (v : View) (hand : List (ℕ × Content)) → c < length (columns g) → j < share_count g c → (may : MayReadBack g c j (v, hand))
    → Allows (Shown g e) slots id (v, hand) (share_word (size_of g) c j) (λ _. 0) (λ _. reads_back (v, hand))
reads_allow g e slots id c j v hand near few back =
    let may = back.gives in
    subst (λ l. Allows (Shown g e) slots id (v, l) (share_word (size_of g) c j) (λ _. 0) (λ _. reads_back (v, l))) (sym may.tops) (λ s o wide me low. (
      with_claim v (record may.claim { shares = may.more; puts = c ∷ may.claim.puts }),
      gives,
      tt,
      read_rule g e s o id v me c j may.claim may.has near few may.share may.more may.first may.is may.has_not back.reads back.real back.new,
      ap (λ (y : View). sat y may.left) (ap (with_claim v) (read_on_is may.claim c may.share may.more may.first may.is.0) ∙ on_claimed read_on v may.claim may.has),
    ))
