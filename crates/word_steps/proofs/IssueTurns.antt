-- The steps that take and give the issue turn.
use Rattle.std.proofs.Common.{◌≡◌, ℕ, zero, suc, ◌≤◌, inl, inr, List, [], ◌∷◌, length, set, get_or, refl, sym, ◌∙◌, ap, subst, arith, get_or-set_same, ⊎_elim}
use Rattle.std.specs.Prelude.{Contains, Some, None, ◌==◌}
use Rattle.std.proofs.lemmas.Bool.{cases_lt}
use Rattle.std.proofs.lemmas.Option.{none-some, same_Some}
use Rattle.std.proofs.lemmas.List.Elements.{Contains-append_cases, Contains-append_left, Contains-append_right, Contains-push_cases}
use mathlib.Core.Option.{none, some}
use lib.ListN.{get_elem?}
use prog.Atomic.{either}
use Rattle.atomic_table.specs.Table.{Act, keeps, takes, gives, Valid, Allows, stepped, carried_after}
use Rattle.atomic_table.proofs.Lists.{exchanged, set_here}
use Rattle.basics.specs.Lists.{numbers_below}
use Rattle.graph_terms.specs.Graph.{GraphValue}
use Rattle.basics.specs.Sums.{total}
use Rattle.shared_events.specs.Seats.{Begins}
use Rattle.event_table.specs.declared.handle.Handle.{Handle}
use Rattle.shared_events.specs.declared.events.Events.{Events}
use Rattle.basics.proofs.Sums.{total-set}
use Rattle.run_state.proofs.Public.{stage_there}
use Rattle.basics.proofs.ListFacts.{below_contains, contains_none, contains_here}
use Rattle.word_steps.specs.declared.content.Content.{Content}
use Rattle.word_steps.specs.declared.content.IssueState.{IssueState}
use Rattle.word_steps.specs.declared.view.View.{View}
use Rattle.word_steps.specs.Claims.{Ground}
use Rattle.word_steps.specs.declared.content.Content.TheVariants.{Issuer}
use Rattle.word_steps.specs.Layout.{size_of, issue_turn_word, issue_turn_slot}
use Rattle.word_steps.specs.Views.{issues_at, owes_at, turn_of, has_issue_turn}
use Rattle.word_steps.specs.Rule.{ground_of, IsIssueState, HasIssueState, IssueTurnShown, Shown}
use Rattle.word_steps.specs.Plays.{Sat, with_issue_turn, HasIssueTurn, takes_issue_turn, without_issue_turn, named_by, gives_issue_turn, saw_at, sat}
use Rattle.word_steps.proofs.Frames.{at_issue_turn, words_set, slots_set}
use Rattle.word_steps.proofs.Known.{still}
use Rattle.word_steps.proofs.Steps.{St, board, sum_same, run_stays}
use Rattle.word_steps.proofs.Looks.{saw_rule, kept_word}

-- where the word of the issue turn is 0 it is at home, and nobody has its turn
issue_turn_at_home : (e : Events) (n : ℕ) (handles : List Handle) (k w : ℕ) (home : mathlib.Core.Option.Option Content) → IssueTurnShown e n handles k w home → w ≡ 0 → (k ≡ 0) × HasIssueState e n handles home
issue_turn_at_home e n handles zero w home d z = (refl, d.1)
issue_turn_at_home e n handles (suc k) w home d z = absurd (let q = d.1 in omega arith)

-- at most one seat has its turn
pub issue_turn_once : (e : Events) (n : ℕ) (handles : List Handle) (k w : ℕ) (home : mathlib.Core.Option.Option Content) → IssueTurnShown e n handles k w home → k ≤ 1
issue_turn_once e n handles zero w home d = omega arith
issue_turn_once e n handles (suc k) w home d = let q = d.0 in omega arith

pub issue_turn_alone : (g : GraphValue) (e : Events) (s : St) (o : Shown g e s) → total has_issue_turn s.views ≤ 1
issue_turn_alone g e s o = issue_turn_once e (size_of g).lines o.handles (total has_issue_turn s.views) (get_or s.words (issue_turn_word (size_of g)) 0) o.words.issue_turn.home o.words.issue_turn.shown

-- the handles are not more than the lines
pub handles_few : (g : GraphValue) (e : Events) (s : St) (o : Shown g e s) → length o.handles ≤ length g.lines
handles_few g e s o = elim (cases_lt (length g.lines) (length o.handles)) [
  | inl h ↦ (let a = stage_there o.run.stages (length g.lines) ((o.are_handles.each_issued (length g.lines)).1 h) in let b = o.sound.on_lines.each_line in absurd (omega (arith, a, b)))
  | inr h ↦ h
]

begins_self : {X : Type 0} (xs : List X) → Begins xs xs
begins_self xs = ([], grind (arith, Rattle.std.proofs.lemmas.List.append-nil xs))

module _ (g : GraphValue) (e : Events) (s : St) (o : Shown g e s) (id : ℕ) (v : View) (me : get_elem? s.views id ≡ some v) where
  module _ (free : get_or s.words (issue_turn_word (size_of g)) 0 ≡ 0) (idle : v.issue_turn ≡ None) (own : (n : ℕ) × (ns : List ℕ) × (v.mine ≡ n ∷ ns)) where
    pub home : (total has_issue_turn s.views ≡ 0) × HasIssueState e (size_of g).lines o.handles o.words.issue_turn.home
    home = issue_turn_at_home e (size_of g).lines o.handles (total has_issue_turn s.views) (get_or s.words (issue_turn_word (size_of g)) 0) o.words.issue_turn.home o.words.issue_turn.shown free

    abbrev w : View
    w = with_issue_turn v o.handles home.1.issue_state

    pub issue_turn_rule : Shown g e (board (set s.words (issue_turn_word (size_of g)) 1) (set s.homes (issue_turn_slot (size_of g)) none) (set s.views id w))
    issue_turn_rule =
        let f = o.each_view id v me in
        let z = size_of g in
        let before : has_issue_turn v ≡ 0 = ap turn_of idle in
        let moved = total-set has_issue_turn s.views id v w me in
        let now : total has_issue_turn (set s.views id w) ≡ 1 = (let h = home.0 in omega (arith, before, moved, h)) in
        run_stays g e s o id v w me refl refl refl (λ k. refl)
        (record {
          keys = f.keys;
          issued = λ j c. ⊎_elim (λ d. f.issued j d) (λ d. (o.are_handles.each_issued j).1 (below_contains (length o.handles) j d)) (Contains-append_cases v.issued (numbers_below (length o.handles)) j c);
          ended = f.ended;
          times = f.times;
          named = λ hs c. ⊎_elim (λ d. f.named hs d) (λ (q : o.handles ≡ hs). subst (λ l. Begins l o.handles) q (begins_self o.handles)) (Contains-push_cases v.named o.handles hs c);
          claim = f.claim;
          event = f.event;
          issuing = f.issuing;
          issuer = λ k q. (o.handles, refl);
          issue_turn = λ hs q. sym (same_Some o.handles hs q);
          idle = λ n. absurd (grind (arith, n, own.2));
        })
        (still o.run o.handles v w (record { issued = λ j c. Contains-append_left v.issued (numbers_below (length o.handles)) j c; ended = λ j x c. c; times = λ j t c. c })
        (λ _. inl (Contains-append_right v.named (o.handles ∷ []) o.handles (contains_here o.handles []))))
        (set s.words (issue_turn_word z) 1) (set s.homes (issue_turn_slot z) none)
        (at_issue_turn g e o.run o.loans o.handles (λ k. total (issues_at k) s.views) (λ k. total (owes_at k) s.views) (total has_issue_turn s.views) s.words s.homes o.words
        (λ k. total (issues_at k) (set s.views id w)) (λ k. total (owes_at k) (set s.views id w)) (total has_issue_turn (set s.views id w))
        (λ k. sum_same (issues_at k) s.views id v w me refl)
        (set s.words (issue_turn_word z) 1) (set s.homes (issue_turn_slot z) none) (words_set (issue_turn_word z) 1 s.words) (slots_set (issue_turn_slot z) none s.homes)
        (λ k. sum_same (owes_at k) s.views id v w me refl)
        (record {
          home = none;
          at = set_here s.homes (issue_turn_slot z) none (let d = o.words.deep in omega (arith, d));
          shown = subst (λ k. IssueTurnShown e z.lines o.handles k (get_or (set s.words (issue_turn_word z) 1) (issue_turn_word z) 0) none) (sym now)
              (refl, get_or-set_same s.words (issue_turn_word z) 1 0 (let d = o.words.wide in omega (arith, d)), refl);
        }))

    pub issue_turn_told : (hand : List (ℕ × Content)) → HasIssueTurn (v, hand) (w, (issue_turn_slot (size_of g), Issuer home.1.issue_state) ∷ hand)
    issue_turn_told hand =
        let same : (x : Ground) → Contains v.keys x → ground_of g e ≡ x = λ x c. sym ((o.each_view id v me).keys x c) in
        record {
          handles = o.handles;
          issue_state = home.1.issue_state;
          now = λ x c. subst (λ (y : Ground). sat w ((issue_turn_slot (size_of g), Issuer home.1.issue_state) ∷ hand) ≡ sat w ((issue_turn_slot (size_of y.graph), Issuer home.1.issue_state) ∷ hand)) (same x c) refl;
          is_issue_state = λ x c. subst (λ (y : Ground). IsIssueState y.events (length y.graph.lines) o.handles home.1.issue_state) (same x c) home.1.is_issue_state;
          few = λ x c. subst (λ (y : Ground). length o.handles ≤ length y.graph.lines) (same x c) (handles_few g e s o);
        }

    pub issue_turn_there : get_elem? s.homes (issue_turn_slot (size_of g)) ≡ some (some (Issuer home.1.issue_state))
    issue_turn_there = o.words.issue_turn.at ∙ ap some home.1.here

  -- given back with what lies on it
  module _ (hs : List Handle) (turn : v.issue_turn ≡ Some hs) (quiet : v.issuing ≡ None) (issue_state : IssueState) (is_issue_state : IsIssueState e (length g.lines) hs issue_state) where
    abbrev w' : View
    w' = without_issue_turn v (issue_state ∷ [])

    pub give_rule : Shown g e (board (set s.words (issue_turn_word (size_of g)) 0) (set s.homes (issue_turn_slot (size_of g)) (some (Issuer issue_state))) (set s.views id w'))
    give_rule =
        let f = o.each_view id v me in
        let z = size_of g in
        let mine : hs ≡ o.handles = f.issue_turn hs turn in
        let before : has_issue_turn v ≡ 1 = ap turn_of turn in
        let moved = total-set has_issue_turn s.views id v w' me in
        let most = issue_turn_alone g e s o in
        let now : total has_issue_turn (set s.views id w') ≡ 0 = omega (arith, before, moved, most) in
        run_stays g e s o id v w' me refl refl refl (λ k. refl)
        (record {
          keys = f.keys;
          issued = f.issued;
          ended = f.ended;
          times = f.times;
          named = λ l c. ⊎_elim (λ d. f.named l d)
              (λ d. ⊎_elim (λ (q : hs ≡ l). subst (λ y. Begins y o.handles) (sym mine ∙ q) (begins_self o.handles)) (λ n. absurd (contains_none l n)) (Rattle.basics.proofs.ListFacts.contains_cases hs [] l (subst (λ o'. Contains (named_by o') l) turn d)))
              (Contains-append_cases v.named (named_by v.issue_turn) l c);
          claim = f.claim;
          event = f.event;
          issuing = f.issuing;
          issuer = λ k q. absurd (none-some k (sym quiet ∙ q));
          issue_turn = λ l q. absurd (none-some l q);
          idle = λ n. let i = f.idle n in (i.0, i.1, refl);
        })
        (still o.run o.handles v w' (record { issued = λ j c. c; ended = λ j x c. c; times = λ j t c. c })
        (λ h. inl (⊎_elim
        (λ c. Contains-append_left v.named (named_by v.issue_turn) o.handles c)
        (λ q. Contains-append_right v.named (named_by v.issue_turn) o.handles (subst (λ d. Contains (named_by d) o.handles) (sym q) (contains_here o.handles [])))
        h)))
        (set s.words (issue_turn_word z) 0) (set s.homes (issue_turn_slot z) (some (Issuer issue_state)))
        (at_issue_turn g e o.run o.loans o.handles (λ k. total (issues_at k) s.views) (λ k. total (owes_at k) s.views) (total has_issue_turn s.views) s.words s.homes o.words
        (λ k. total (issues_at k) (set s.views id w')) (λ k. total (owes_at k) (set s.views id w')) (total has_issue_turn (set s.views id w'))
        (λ k. sum_same (issues_at k) s.views id v w' me refl)
        (set s.words (issue_turn_word z) 0) (set s.homes (issue_turn_slot z) (some (Issuer issue_state))) (words_set (issue_turn_word z) 0 s.words) (slots_set (issue_turn_slot z) (some (Issuer issue_state)) s.homes)
        (λ k. sum_same (owes_at k) s.views id v w' me refl)
        (record {
          home = some (Issuer issue_state);
          at = set_here s.homes (issue_turn_slot z) (some (Issuer issue_state)) (let d = o.words.deep in omega (arith, d));
          shown = subst (λ k. IssueTurnShown e z.lines o.handles k (get_or (set s.words (issue_turn_word z) 0) (issue_turn_word z) 0) (some (Issuer issue_state))) (sym now)
              (get_or-set_same s.words (issue_turn_word z) 0 0 (let d = o.words.wide in omega (arith, d)), record { issue_state = issue_state; here = refl; is_issue_state = subst (λ l. IsIssueState e (length g.lines) l issue_state) mine is_issue_state });
        }))

pub takes_issue_turn_allow : (g : GraphValue) (e : Events) (slots id : ℕ) (m : Sat) → m.0.issue_turn ≡ None → ((n : ℕ) × (ns : List ℕ) × (m.0.mine ≡ n ∷ ns)) → Allows (Shown g e) slots id m (issue_turn_word (size_of g)) (λ n. either (n == 0) 1 n) (takes_issue_turn (issue_turn_word (size_of g)) m)
takes_issue_turn_allow g e slots id m idle own s o wide me low =
    let v = m.0 in
    let i : ℕ = issue_turn_word (size_of g) in
    let r = get_or s.words i 0 in
    exchanged r 0 1 (λ x. (w : View) × (a : Act Content) × Valid s.homes m.1 a × Shown g e (stepped s i x id m.1 w a) × takes_issue_turn i m r (w, carried_after m.1 a))
    (λ is. (
      with_issue_turn v o.handles (home g e s o id v me is idle own).1.issue_state,
      takes (issue_turn_slot (size_of g)) (Issuer (home g e s o id v me is idle own).1.issue_state),
      issue_turn_there g e s o id v me is idle own,
      issue_turn_rule g e s o id v me is idle own,
      ((λ _. issue_turn_told g e s o id v me is idle own m.1), (λ ne. absurd (ne is))),
    ))
    (λ ne. (
      saw_at v i r,
      keeps,
      tt,
      kept_word g e s i (set s.views id (saw_at v i r)) (saw_rule g e s o id v me i r),
      ((λ is. absurd (ne is)), (λ _. refl)),
    ))

pub gives_issue_turn_allow : (g : GraphValue) (e : Events) (slots id : ℕ) (v : View) (hand left : List (ℕ × Content)) (hs : List Handle) (issue_state : IssueState) → v.issue_turn ≡ Some hs → v.issuing ≡ None → hand ≡ (issue_turn_slot (size_of g), Issuer issue_state) ∷ left → IsIssueState e (length g.lines) hs issue_state
    → Allows (Shown g e) slots id (v, hand) (issue_turn_word (size_of g)) (λ _. 0) (λ _. gives_issue_turn (v, hand))
gives_issue_turn_allow g e slots id v hand left hs issue_state turn quiet tops is_issue_state =
    subst (λ l. Allows (Shown g e) slots id (v, l) (issue_turn_word (size_of g)) (λ _. 0) (λ _. gives_issue_turn (v, l))) (sym tops) (λ s o wide me low. (
      without_issue_turn v (issue_state ∷ []),
      gives,
      tt,
      give_rule g e s o id v me hs turn quiet issue_state is_issue_state,
      refl,
    ))
