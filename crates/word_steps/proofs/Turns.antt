-- The step that takes a column's turn.
use Rattle.std.proofs.Common.{◌≡◌, ℕ, ◌<◌, ◌+◌, inl, inr, List, [], ◌∷◌, length, set, get_or, refl, sym, ◌∙◌, ap, subst, arith, get_or-set_same, ⊎_elim}
use Rattle.std.specs.Prelude.{Contains, Option, Some, option_map, ◌==◌}
use Rattle.std.proofs.lemmas.Bool.{cases_eq}
use Rattle.std.proofs.lemmas.Option.{same_Some}
use mathlib.Core.Option.{none, some}
use lib.ListN.{get_elem?}
use prog.Atomic.{either}
use Rattle.atomic_table.specs.Table.{Act, keeps, takes, Valid, Allows, stepped, carried_after}
use Rattle.atomic_table.proofs.Lists.{exchanged, set_here}
use Rattle.graph_terms.specs.Graph.{GraphValue, columns}
use Rattle.basics.specs.Sums.{total}
use Rattle.shared_events.specs.declared.events.Events.{Events}
use Rattle.basics.proofs.ListFacts.{contains_cases, contains_here, contains_there}
use Rattle.run_state.specs.Run.{Run, Place, Home, Had, place_at, list_at, stage_out}
use Rattle.run_state.specs.Sound.{Sound, home_cells}
use Rattle.run_state.specs.Moves.{column_out}
use Rattle.word_steps.proofs.RunFacts.{column_out-sound, had_not_home, change_accesses}
use Rattle.share_words.specs.Shares.{share_count}
use Rattle.word_steps.specs.declared.content.Content.{Content}
use Rattle.word_steps.specs.declared.view.View.{View}
use Rattle.word_steps.specs.Claims.{Claim, Ground, TakenShare}
use Rattle.word_steps.specs.Layout.{size_of, turn_word, column_slot}
use Rattle.word_steps.specs.Views.{issues_at, late_at, owes_at, has_issue_turn, working}
use Rattle.word_steps.specs.Rule.{ground_of, home_content, ColumnShown, HasShares, Progress, Shown}
use Rattle.word_steps.specs.Plays.{Sat, on_claim, took, HasTurn, NotOwn, FreeByShares, turns, saw_at, sat}
use Rattle.word_steps.specs.Premises.{MayTake}
use Rattle.word_steps.proofs.Aside.{Lends, aside_out, other_set}
use Rattle.word_steps.proofs.Lent.{lent_as, lent_else, pair_is}
use Rattle.word_steps.proofs.Frames.{at_column, words_set, slots_set}
use Rattle.word_steps.proofs.Steps.{St, board, sum_same, claim_goes_lent}
use Rattle.word_steps.proofs.Looks.{saw_rule, kept_word}

abbrev pub with_claim : View → Claim → View
with_claim v c = record v { claim = Some c }

pub on_claimed : (f : Claim → Claim) (v : View) (c : Claim) → v.claim ≡ Some c → with_claim v (f c) ≡ on_claim f v
on_claimed f v c e = ap (λ (x : Option Claim). record v { claim = option_map f x }) (sym e)

-- where the word of a column is 0 it is at home, and else some line has it
pub at_home : (g : GraphValue) (c d : ℕ) (p : Place) (w : ℕ) (home : mathlib.Core.Option.Option Content) → ColumnShown g c d p w home → w ≡ 0 → (xs : List ℕ) × (p ≡ Home xs) × (home ≡ some (home_content g c d xs))
at_home g c d (Home xs) w home l z = (xs, refl, l.1)
at_home g c d (Had i) w home l z = absurd (let q = l.0 in omega arith)

pub is_had : (g : GraphValue) (c d : ℕ) (p : Place) (w : ℕ) (home : mathlib.Core.Option.Option Content) → ColumnShown g c d p w home → (w ≡ 0 → ⊥) → (i : ℕ) × (p ≡ Had i) × (w ≡ i + 1)
is_had g c d (Home xs) w home l n = absurd (n l.0)
is_had g c d (Had i) w home l n = (i, refl, l.0)

-- the word of a column at home is 0
pub home_word : (g : GraphValue) (c d : ℕ) (p : Place) (w : ℕ) (home : mathlib.Core.Option.Option Content) (xs : List ℕ) → ColumnShown g c d p w home → p ≡ Home xs → w ≡ 0
home_word g c d p w home xs l q = (subst (λ y. ColumnShown g c d y w home) q l).0

module _ (g : GraphValue) (e : Events) (s : St) (o : Shown g e s) (id : ℕ) (v : View) (me : get_elem? s.views id ≡ some v) (c : ℕ) (cl : Claim) (has : v.claim ≡ Some cl) (near : c < length (columns g)) where
  progress : Progress g o.run o.loans cl
  progress = (o.each_view id v me).claim cl has

  -- a share of a column that the line has not whole shows it at home
  pub share_home : ((ks : List ℕ) → Contains cl.columns (c, ks) → ⊥) → (t : TakenShare) → Contains cl.shares t → t.column ≡ c → (place_at o.run.places c ≡ Home t.cells) × (o.loans.lending c ≡ t.lending)
  share_home notin t m at = ⊎_elim
      (λ (y : (place_at o.run.places t.column ≡ Home t.cells) × (o.loans.lending t.column ≡ t.lending)). subst (λ k. (place_at o.run.places k ≡ Home t.cells) × (o.loans.lending k ≡ t.lending)) at y)
      (λ (y : place_at o.run.places t.column ≡ Had cl.line). let n = progress.only c (ap (place_at o.run.places) (sym at) ∙ y) in absurd (notin n.0 n.1))
      (progress.shares.each t m).shows

  module _ (may : MayTake g c cl) (free : get_or s.words (turn_word (size_of g) c) 0 ≡ 0) where
    pub home : (xs : List ℕ) × (place_at o.run.places c ≡ Home xs) × ((o.words.columns c near).home ≡ some (home_content g c (o.loans.lending c) xs))
    home = at_home g c (o.loans.lending c) (place_at o.run.places c) (get_or s.words (turn_word (size_of g) c) 0) (o.words.columns c near).home (o.words.columns c near).shown free

    there : c < length o.run.places
    there = subst (λ n. c < n) (sym o.sound.on_columns.each_column) near

    nobody : (k : ℕ) → place_at o.run.places c ≡ Had k → ⊥
    nobody k h = had_not_home (place_at o.run.places c) k home.0 h home.1

    pub not_had : (ks : List ℕ) → Contains cl.columns (c, ks) → ⊥
    not_had ks m = nobody cl.line (progress.has c ks m).0

    abbrev after : Run
    after = column_out o.run c cl.line

    abbrev back : List ℕ
    back = list_at o.run.back c

    sound : Sound g after
    sound = column_out-sound o.sound c cl.line (record {
      is_out = ap stage_out (progress.stage ∙ ap working may.going);
      accessed = change_accesses g cl.line c may.changed;
      not_cancelled = may.real;
      not_back = progress.puts c ∙ may.new;
      at_home = nobody;
    })

    now_had : place_at after.places c ≡ Had cl.line
    now_had = get_or-set_same o.run.places c (Had cl.line) (Home []) there

    -- the line has all shares of the column
    all_held : (j : ℕ) → j < share_count g c → o.loans.holder c j ≡ cl.line + 1
    all_held j f =
        let m = may.all j f in
        subst (λ (x : ℕ × ℕ). o.loans.holder x.0 x.1 ≡ cl.line + 1) (pair_is m.2 m.3) (progress.shares.each m.0 m.1).holder

    -- of this column no other line has a share, and the others stay where they are
    lends : Lends g cl.line o.run.places after.places o.loans (lent_as o.loans c (o.loans.lending c))
    lends = record {
      kept = λ k j i n h. h;
      were = λ k j i n h. h;
      stays = λ k j i n l f h. elim (cases_eq k c) [
        | inl q ↦ absurd (n (let mine = all_held j (subst (λ m. j < share_count g m) q f) in let theirs = subst (λ m. o.loans.holder m j ≡ i + 1) q h in omega (arith, mine, theirs)))
        | inr m ↦ (other_set o.run.places (Home []) c k (Had cl.line) m, lent_else o.loans c (o.loans.lending c) k m)
      ];
    }

    has_shares : HasShares g after.places (lent_as o.loans c (o.loans.lending c)) cl.line cl.shares
    has_shares = record {
      differ = progress.shares.differ;
      each = λ t m.
          let x = progress.shares.each t m in
          record {
            near = x.near;
            holder = x.holder;
            shows = elim (cases_eq t.column c) [
              | inl q ↦ inr (ap (place_at after.places) q ∙ now_had)
              | inr n ↦ ⊎_elim
                  (λ (y : (place_at o.run.places t.column ≡ Home t.cells) × (o.loans.lending t.column ≡ t.lending)). inl (other_set o.run.places (Home []) c t.column (Had cl.line) n ∙ y.0, lent_else o.loans c (o.loans.lending c) t.column n ∙ y.1))
                  (λ (y : place_at o.run.places t.column ≡ Had cl.line). inr (other_set o.run.places (Home []) c t.column (Had cl.line) n ∙ y))
                  x.shows
            ];
          };
      all = progress.shares.all;
      whole = λ k j h f. elim (cases_eq k c) [
        | inl q ↦ subst (λ m. j < share_count g m → o.loans.holder m j ≡ cl.line + 1) (sym q) (all_held j) f
        | inr n ↦ progress.shares.whole k j (sym (other_set o.run.places (Home []) c k (Had cl.line) n) ∙ h) f
      ];
    }

    goes_on : Progress g after (lent_as o.loans c (o.loans.lending c)) (took c back cl)
    goes_on = record {
      stage = progress.stage;
      has = λ k ks m. ⊎_elim
          (λ (q : (c, back) ≡ (k, ks)). subst (λ (p : ℕ × List ℕ). (place_at after.places p.0 ≡ Had cl.line) × (list_at after.back p.0 ≡ p.1)) q (now_had, refl))
          (λ (d : Contains {X = ℕ × List ℕ} cl.columns (k, ks)). let p = progress.has k ks d in (other_set o.run.places (Home []) c k (Had cl.line) (λ q. nobody cl.line (ap (place_at o.run.places) (sym q) ∙ p.0)) ∙ p.0, p.1))
          (contains_cases {X = ℕ × List ℕ} (c, back) cl.columns (k, ks) m);
      only = λ k h. elim (cases_eq k c) [
        | inl q ↦ (back, subst (λ n. Contains {X = ℕ × List ℕ} ((c, back) ∷ cl.columns) (n, back)) (sym q) (contains_here {X = ℕ × List ℕ} (c, back) cl.columns))
        | inr n ↦ (let p = progress.only k (sym (other_set o.run.places (Home []) c k (Had cl.line) n) ∙ h) in (p.0, contains_there {X = ℕ × List ℕ} (c, back) cl.columns (k, p.0) p.1))
      ];
      shares = has_shares;
      puts = progress.puts;
      arrived = progress.arrived;
      holds = progress.holds;
      time = progress.time;
      freed = progress.freed;
    }

    abbrev w : View
    w = with_claim (saw_at v (turn_word (size_of g) c) 0) (took c back cl)

    pub turn_rule : Shown g e (board (set s.words (turn_word (size_of g) c) (cl.line + 1)) (set s.homes (column_slot (size_of g) c) none) (set s.views id w))
    turn_rule = claim_goes_lent g e s o id v w me cl (took c back cl) has refl refl refl after (lent_as o.loans c (o.loans.lending c))
        (set s.words (turn_word (size_of g) c) (cl.line + 1)) (set s.homes (column_slot (size_of g) c) none)
        (aside_out c cl.line o.run nobody) lends goes_on sound (λ j. refl)
        (λ k j l f h. ap stage_out (progress.stage ∙ ap working may.going))
        (at_column g e o.run o.loans o.handles (λ k. total (issues_at k) s.views) (λ k. total (owes_at k) s.views) (total has_issue_turn s.views) s.words s.homes o.words
        (λ k. total (issues_at k) (set s.views id w)) (λ k. total (owes_at k) (set s.views id w)) (total has_issue_turn (set s.views id w))
        (λ k. sum_same (issues_at k) s.views id v w me refl)
        c near (Had cl.line) (o.loans.lending c) (set s.words (turn_word (size_of g) c) (cl.line + 1)) (set s.homes (column_slot (size_of g) c) none) o.run.back
        (words_set (turn_word (size_of g) c) (cl.line + 1) s.words) (slots_set (column_slot (size_of g) c) none s.homes)
        (λ k. sum_same (owes_at k) s.views id v w me (ap (late_at k) (sym has))) (sum_same has_issue_turn s.views id v w me refl)
        (record {
          home = none;
          at = set_here s.homes (column_slot (size_of g) c) none (let d = o.words.deep in omega (arith, d, near));
          shown = (get_or-set_same s.words (turn_word (size_of g) c) (cl.line + 1) 0 (let d = o.words.wide in omega (arith, d, near)), refl);
        })
        there
        (λ j f z. let h = all_held j f in absurd (omega (arith, h, z))))

    abbrev content : List ℕ → Content
    content xs = home_content g c (o.loans.lending c) xs

    pub turn_told : (hand : List (ℕ × Content)) → ((ks : List ℕ) → Contains cl.columns (c, ks) → ⊥) → HasTurn (turn_word (size_of g) c) (v, hand) (w, (column_slot (size_of g) c, content home.0) ∷ hand)
    turn_told hand notin = let free_v : View = saw_at v (turn_word (size_of g) c) 0 in record {
      back = back;
      lending = o.loans.lending c;
      now = λ x k key at.
          let same : x ≡ ground_of g e = (o.each_view id v me).keys x key in
          let here : c ≡ k = (let q : turn_word (size_of g) c ≡ turn_word (size_of g) k = at ∙ ap (λ (y : Ground). turn_word (size_of y.graph) k) same in omega (arith, q)) in
          subst (λ (y : Ground). sat w ((column_slot (size_of g) c, content home.0) ∷ hand) ≡ sat (on_claim (took k back) free_v) ((column_slot (size_of y.graph) k, home_content y.graph k (o.loans.lending c) (home_cells y.graph back k)) ∷ hand)) (sym same)
          (subst (λ j. sat w ((column_slot (size_of g) c, content home.0) ∷ hand) ≡ sat (on_claim (took j back) free_v) ((column_slot (size_of g) j, home_content g j (o.loans.lending c) (home_cells g back j)) ∷ hand)) here
          (ap (λ (y : View). sat y ((column_slot (size_of g) c, content home.0) ∷ hand)) (on_claimed (took c back) free_v cl has)
          ∙ ap (λ (xs : List ℕ). sat (on_claim (took c back) free_v) ((column_slot (size_of g) c, content xs) ∷ hand)) (o.sound.on_columns.cells c home.0 home.1)));
      same = λ x k d t key at had m in_it.
          let same : x ≡ ground_of g e = (o.each_view id v me).keys x key in
          let here : c ≡ k = (let q : turn_word (size_of g) c ≡ turn_word (size_of g) k = at ∙ ap (λ (y : Ground). turn_word (size_of y.graph) k) same in omega (arith, q)) in
          let mine : d ≡ cl = same_Some d cl (sym had ∙ has) in
          let h = share_home notin t (subst (λ (y : Claim). Contains y.shares t) mine m) (in_it ∙ sym here) in
          (sym h.1, subst (λ (y : Ground). t.cells ≡ home_cells y.graph back k) (sym same) (subst (λ n. t.cells ≡ home_cells g back n) here (o.sound.on_columns.cells c t.cells h.0)));
    }

    pub turn_at_home : get_elem? s.homes (column_slot (size_of g) c) ≡ some (some (content home.0))
    turn_at_home = (o.words.columns c near).at ∙ ap some home.2

  pub not_own : (get_or s.words (turn_word (size_of g) c) 0 ≡ 0 → ⊥) → NotOwn (turn_word (size_of g) c) v (get_or s.words (turn_word (size_of g) c) 0)
  not_own ne x k d key at had notin own =
      let same : x ≡ ground_of g e = (o.each_view id v me).keys x key in
      let here : c ≡ k = (let q : turn_word (size_of g) c ≡ turn_word (size_of g) k = at ∙ ap (λ (y : Ground). turn_word (size_of y.graph) k) same in omega (arith, q)) in
      let j = is_had g c (o.loans.lending c) (place_at o.run.places c) (get_or s.words (turn_word (size_of g) c) 0) (o.words.columns c near).home (o.words.columns c near).shown ne in
      let mine : cl ≡ d = same_Some cl d (sym has ∙ had) in
      let line : j.0 ≡ cl.line = (let a = j.2 in let b = ap (λ (y : Claim). y.line) mine in omega (arith, a, b, own)) in
      let in_it = ((o.each_view id v me).claim cl has).only c (j.1 ∙ ap Had line) in
      notin in_it.0 (subst (λ (y : Claim). Contains {X = ℕ × List ℕ} y.columns (k, in_it.0)) mine (subst (λ n. Contains {X = ℕ × List ℕ} cl.columns (n, in_it.0)) here in_it.1))

  pub free_by_shares : FreeByShares (turn_word (size_of g) c) v (get_or s.words (turn_word (size_of g) c) 0)
  free_by_shares x k d t key at had notin m in_it =
      let same : x ≡ ground_of g e = (o.each_view id v me).keys x key in
      let here : c ≡ k = (let q : turn_word (size_of g) c ≡ turn_word (size_of g) k = at ∙ ap (λ (y : Ground). turn_word (size_of y.graph) k) same in omega (arith, q)) in
      let mine : d ≡ cl = same_Some d cl (sym had ∙ has) in
      let h = share_home (λ ks c_in. notin ks (subst (λ (y : Claim). Contains {X = ℕ × List ℕ} y.columns (k, ks)) (sym mine) (subst (λ n. Contains {X = ℕ × List ℕ} cl.columns (n, ks)) here c_in))) t (subst (λ (y : Claim). Contains y.shares t) mine m) (in_it ∙ sym here) in
      home_word g c (o.loans.lending c) (place_at o.run.places c) (get_or s.words (turn_word (size_of g) c) 0) (o.words.columns c near).home t.cells (o.words.columns c near).shown h.0

pub turns_allow : (g : GraphValue) (e : Events) (slots id c : ℕ) (m : Sat) (cl : Claim) → m.0.claim ≡ Some cl → c < length (columns g) → MayTake g c cl
    → Allows (Shown g e) slots id m (turn_word (size_of g) c) (λ n. either (n == 0) (cl.line + 1) n) (turns (turn_word (size_of g) c) m)
turns_allow g e slots id c m cl has near may s o wide me low =
    let v = m.0 in
    let i : ℕ = turn_word (size_of g) c in
    let r = get_or s.words i 0 in
    exchanged r 0 (cl.line + 1) (λ x. (w : View) × (a : Act Content) × Valid s.homes m.1 a × Shown g e (stepped s i x id m.1 w a) × turns i m r (w, carried_after m.1 a))
    (λ is. (
      with_claim (saw_at v i 0) (took c (list_at o.run.back c) cl),
      takes (column_slot (size_of g) c) (home_content g c (o.loans.lending c) (home g e s o id v me c cl has near may is).0),
      turn_at_home g e s o id v me c cl has near may is,
      turn_rule g e s o id v me c cl has near may is,
      ((λ _. turn_told g e s o id v me c cl has near may is m.1 (not_had g e s o id v me c cl has near may is)), (λ ne. absurd (ne is)), free_by_shares g e s o id v me c cl has near),
    ))
    (λ ne. (
      saw_at v i r,
      keeps,
      tt,
      kept_word g e s i (set s.views id (saw_at v i r)) (saw_rule g e s o id v me i r),
      ((λ is. absurd (ne is)), (λ _. (refl, not_own g e s o id v me c cl has near ne)), free_by_shares g e s o id v me c cl has near),
    ))
