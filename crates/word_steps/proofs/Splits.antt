-- Splitting a seat and joining two keeps the rule.
use Rattle.std.proofs.Common.{◌≡◌, ◌≢◌, ℕ, inl, inr, List, [], ◌∷◌, ◌++◌, length, set, refl, sym, ◌∙◌, ap, subst, arith, ⊎_elim}
use Rattle.std.specs.Prelude.{Contains, None}
use Rattle.std.proofs.lemmas.Option.{none-some}
use Rattle.std.proofs.lemmas.List.Elements.{Contains-append_cases, Contains-append_left, Contains-append_right}
use mathlib.Core.Option.{some}
use lib.ListN.{get_elem?}
use Rattle.atomic_table.specs.Table.{Splits, Joins}
use Rattle.atomic_table.proofs.Lists.{at_set, at_snoc}
use Rattle.graph_terms.specs.declared.outcome.End.{End}
use Rattle.graph_terms.specs.Graph.{GraphValue}
use Rattle.basics.specs.Sums.{total}
use Rattle.event_table.specs.declared.handle.Handle.{Handle}
use Rattle.shared_events.specs.declared.events.Events.{Events}
use Rattle.basics.proofs.Sums.{total-set, total-append}
use Rattle.basics.proofs.ListFacts.{contains_none}
use Rattle.run_state.specs.Run.{Run}
use Rattle.word_steps.specs.declared.view.View.{View}
use Rattle.word_steps.specs.Views.{claim_at, runs_at, number_at, issues_at, late_at, owes_at, turn_of, has_issue_turn}
use Rattle.word_steps.specs.Rule.{Loans, Fits, AreNumbered, HasHandles, IsKnown, Shown}
use Rattle.word_steps.specs.Plays.{no_view, parent_of, child_of, joined}
use Rattle.word_steps.specs.Premises.{HasNoRights}
use Rattle.word_steps.proofs.Frames.{at_views}
use Rattle.word_steps.proofs.Known.{longer_known, of_joined, known_on, still}
use Rattle.word_steps.proofs.Steps.{St, board, sum_same}
use Rattle.word_steps.proofs.Numbers.{split_numbers, join_numbers}

-- other views of the same weights, each of which fits
pub same_board : (g : GraphValue) (e : Events) (s : St) (o : Shown g e s) (vs : List View) → ((k : ℕ) → total (issues_at k) vs ≡ total (issues_at k) s.views) → ((k : ℕ) → total (owes_at k) vs ≡ total (owes_at k) s.views) → total has_issue_turn vs ≡ total has_issue_turn s.views
    → ((k : ℕ) → total (runs_at k) vs ≡ total (runs_at k) s.views) → ((j : ℕ) (u : View) → get_elem? vs j ≡ some u → Fits g e o.run o.loans o.handles u) → AreNumbered vs → IsKnown o.run o.handles vs → Shown g e (board s.words s.homes vs)
same_board g e s o vs ei eo ed er fits numbers known = record {
  run = o.run;
  loans = o.loans;
  handles = o.handles;
  sound = o.sound;
  are_handles = o.are_handles;
  words = at_views g e o.run o.loans o.handles (λ k. total (issues_at k) s.views) (λ k. total (owes_at k) s.views) (total has_issue_turn s.views) s.words s.homes o.words
      (λ k. total (issues_at k) vs) (λ k. total (owes_at k) vs) (total has_issue_turn vs) ei eo ed;
  each_view = fits;
  works = λ k. er k ∙ o.works k;
  holders = o.holders;
  numbers = numbers;
  known = known;
}

-- a view that knows what another does, and has no rights
pub no_rights : {g : GraphValue} {e : Events} {run : Run} {loans : Loans} {handles : List Handle} (v w : View) → Fits g e run loans handles v → w.keys ≡ v.keys → w.issued ≡ v.issued → w.ended ≡ v.ended → w.named ≡ v.named → w.times ≡ [] → w.claim ≡ None → w.issuing ≡ None → w.issue_turn ≡ None → Fits g e run loans handles w
no_rights v w f ek ei ee en et c i d = record {
  keys = λ x h. f.keys x (subst (λ l. Contains l x) ek h);
  issued = λ j h. f.issued j (subst (λ l. Contains l j) ei h);
  ended = λ j x h. f.ended j x (subst (λ (l : List (ℕ × End)). Contains l (j, x)) ee h);
  times = λ j t h. absurd (contains_none {X = ℕ × ℕ} (j, t) (subst (λ (l : List (ℕ × ℕ)). Contains l (j, t)) et h));
  named = λ l h. f.named l (subst (λ m. Contains m l) en h);
  claim = λ y q. absurd (none-some y (sym c ∙ q));
  event = λ y q. absurd (none-some y (sym c ∙ q));
  issuing = λ y q. absurd (none-some y (sym i ∙ q));
  issuer = λ y q. absurd (none-some y (sym i ∙ q));
  issue_turn = λ y q. absurd (none-some y (sym d ∙ q));
  idle = λ _. (c, i, d);
}

pub none_fits : (g : GraphValue) (e : Events) (run : Run) (loans : Loans) (handles : List Handle) → Fits g e run loans handles no_view
none_fits g e run loans handles = record {
  keys = λ x h. absurd (contains_none x h);
  issued = λ j h. absurd (contains_none j h);
  ended = λ j x h. absurd (contains_none {X = ℕ × End} (j, x) h);
  times = λ j t h. absurd (contains_none {X = ℕ × ℕ} (j, t) h);
  named = λ l h. absurd (contains_none l h);
  claim = λ y q. absurd (none-some y q);
  event = λ y q. absurd (none-some y q);
  issuing = λ y q. absurd (none-some y q);
  issuer = λ y q. absurd (none-some y q);
  issue_turn = λ y q. absurd (none-some y q);
  idle = λ _. (refl, refl, refl);
}

parent_fits : {g : GraphValue} {e : Events} {run : Run} {loans : Loans} {handles : List Handle} (v : View) → Fits g e run loans handles v → Fits g e run loans handles (parent_of v)
parent_fits v f = record { keys = f.keys; issued = f.issued; ended = f.ended; times = f.times; named = f.named; claim = f.claim; event = f.event; issuing = f.issuing; issuer = f.issuer; issue_turn = f.issue_turn; idle = f.idle }

-- a seat that is split off weighs nothing
split_sum : (f : View → ℕ) (vs : List View) (id : ℕ) (v : View) → get_elem? vs id ≡ some v → f (parent_of v) ≡ f v → f (child_of v) ≡ 0 → total f (set vs id (parent_of v) ++ child_of v ∷ []) ≡ total f vs
split_sum f vs id v me ep ec = let a = total-append f (set vs id (parent_of v)) (child_of v ∷ []) in let b = sum_same f vs id v (parent_of v) me ep in omega (arith, a, b, ec)

pub splits : (g : GraphValue) (e : Events) (id : ℕ) (v : View) (p : ℕ) (ps : List ℕ) → v.mine ≡ p ∷ ps → Splits (Shown g e) id v (parent_of v) (child_of v)
splits g e id v p ps own s o me = same_board g e s o (set s.views id (parent_of v) ++ child_of v ∷ [])
    (λ k. split_sum (issues_at k) s.views id v me refl refl) (λ k. split_sum (owes_at k) s.views id v me refl refl) (split_sum has_issue_turn s.views id v me refl refl) (λ k. split_sum (runs_at k) s.views id v me refl refl)
    (λ j u at. ⊎_elim
    (λ l. elim (at_set s.views id j (parent_of v) u l) [ inl (here, is) ↦ subst (Fits g e o.run o.loans o.handles) is (parent_fits v (o.each_view id v me)) | inr (other, before) ↦ o.each_view j u before ])
    (λ (q : child_of v ≡ u). subst (Fits g e o.run o.loans o.handles) q (no_rights v (child_of v) (o.each_view id v me) refl refl refl refl refl refl refl refl))
    (at_snoc (set s.views id (parent_of v)) (child_of v) u j at))
    (split_numbers s.views o.numbers id v me p ps own)
    (longer_known (set s.views id (parent_of v)) (child_of v ∷ []) (known_on s.views id v (parent_of v) me refl (still o.run o.handles v (parent_of v) (record { issued = λ j c. c; ended = λ j x c. c; times = λ j t c. c }) (λ h. h)) o.known))

joined_fits : {g : GraphValue} {e : Events} {run : Run} {loans : Loans} {handles : List Handle} (v w : View) (p : ℕ) (ps : List ℕ) → v.mine ≡ p ∷ ps → Fits g e run loans handles v → Fits g e run loans handles w → Fits g e run loans handles (joined v w)
joined_fits v w p ps own f h = record {
  keys = f.keys;
  issued = λ j c. ⊎_elim (f.issued j) (h.issued j) (Contains-append_cases v.issued w.issued j c);
  ended = λ j x c. ⊎_elim (f.ended j x) (h.ended j x) (Contains-append_cases v.ended w.ended (j, x) c);
  times = λ j t c. ⊎_elim (f.times j t) (h.times j t) (Contains-append_cases v.times w.times (j, t) c);
  named = λ l c. ⊎_elim (f.named l) (h.named l) (Contains-append_cases v.named w.named l c);
  claim = f.claim;
  event = f.event;
  issuing = f.issuing;
  issuer = f.issuer;
  issue_turn = f.issue_turn;
  idle = λ n. absurd (grind (arith, ap (λ (l : List ℕ). length (l ++ w.mine)) (sym own), ap (λ (l : List ℕ). length l) n));
}

join_sum : (f : View → ℕ) (vs : List View) (id other : ℕ) (v w : View) → get_elem? vs id ≡ some v → (other ≡ id → ⊥) → get_elem? (set vs id (joined v w)) other ≡ some w → f (joined v w) ≡ f v → f w ≡ 0 → f no_view ≡ 0 → total f (set (set vs id (joined v w)) other no_view) ≡ total f vs
join_sum f vs id other v w me apart them ej ew en = let a = total-set f vs id v (joined v w) me in let b = total-set f (set vs id (joined v w)) other w no_view them in omega (arith, a, b, ej, ew, en)

joined_known : {run : Run} {handles : List Handle} (vs : List View) (id other : ℕ) (v w : View) → get_elem? vs id ≡ some v → get_elem? vs other ≡ some w → (other ≡ id → ⊥) → (p : ℕ) (ps : List ℕ) → v.mine ≡ p ∷ ps → w.issue_turn ≡ None
    → IsKnown run handles vs → IsKnown run handles (set (set vs id (joined v w)) other no_view)
joined_known {handles = handles} vs id other v w me there apart p ps own none k =
    let whole : (joined v w).mine ≢ [] = λ n. absurd (grind (arith, ap (λ (l : List ℕ). length (l ++ w.mine)) (sym own), ap (λ (l : List ℕ). length l) n)) in
    record {
      issued = λ j h. of_joined (λ (u : View). Contains u.issued j) vs id other v w (joined v w) no_view me there apart whole (Contains-append_left v.issued w.issued j) (Contains-append_right v.issued w.issued j) (k.issued j h);
      ended = λ j x h. of_joined (λ (u : View). Contains u.ended (j, x)) vs id other v w (joined v w) no_view me there apart whole (Contains-append_left v.ended w.ended (j, x)) (Contains-append_right v.ended w.ended (j, x)) (k.ended j x h);
      times = λ j t h. of_joined (λ (u : View). Contains u.times (j, t)) vs id other v w (joined v w) no_view me there apart whole (Contains-append_left v.times w.times (j, t)) (Contains-append_right v.times w.times (j, t)) (k.times j t h);
      named = ⊎_elim (λ n. inl n) (λ h. inr (of_joined (HasHandles handles) vs id other v w (joined v w) no_view me there apart whole
          (⊎_elim (λ c. inl (Contains-append_left v.named w.named handles c)) (λ q. inr q))
          (⊎_elim (λ c. inl (Contains-append_right v.named w.named handles c)) (λ q. absurd (none-some handles (sym none ∙ q))))
          h)) k.named;
    }

pub joins : (g : GraphValue) (e : Events) (id other : ℕ) (v w : View) (p : ℕ) (ps : List ℕ) → v.mine ≡ p ∷ ps → HasNoRights w → Joins (Shown g e) id v other w (joined v w) no_view
joins g e id other v w p ps own free s o me apart them =
    let there : get_elem? s.views other ≡ some w = sym (Rattle.atomic_table.proofs.Lists.set_else s.views id other (joined v w) apart) ∙ them in
    same_board g e s o (set (set s.views id (joined v w)) other no_view)
    (λ k. join_sum (issues_at k) s.views id other v w me apart them refl (ap (number_at k) free.issuing) refl)
    (λ k. join_sum (owes_at k) s.views id other v w me apart them refl (ap (late_at k) free.claim) refl)
    (join_sum has_issue_turn s.views id other v w me apart them refl (ap turn_of free.issue_turn) refl)
    (λ k. join_sum (runs_at k) s.views id other v w me apart them refl (ap (claim_at k) free.claim) refl)
    (λ j u at. elim (at_set (set s.views id (joined v w)) other j no_view u at) [
      | inl (here, is) ↦ subst (Fits g e o.run o.loans o.handles) is (none_fits g e o.run o.loans o.handles)
      | inr (away, before) ↦ elim (at_set s.views id j (joined v w) u before) [
        | inl (here, is) ↦ subst (Fits g e o.run o.loans o.handles) is (joined_fits v w p ps own (o.each_view id v me) (o.each_view other w there))
        | inr (far, first) ↦ o.each_view j u first
      ]
    ])
    (join_numbers s.views o.numbers id other v w me apart there p ps own)
    (joined_known s.views id other v w me there apart p ps own free.issue_turn o.known)
