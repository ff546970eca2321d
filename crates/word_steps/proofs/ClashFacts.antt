-- Seats that clash are not there together.
use Rattle.std.proofs.Common.{◌≡◌, ℕ, ◌+◌, ◌-◌, ◌<◌, ◌≤◌, zero, suc, inl, inr, List, [], ◌∷◌, ◌++◌, length, set, refl, sym, ◌∙◌, ap, subst, arith, ⊎_elim}
use Rattle.std.specs.Prelude.{Contains, Some}
use Rattle.std.proofs.lemmas.Option.{none-some}
use Rattle.std.proofs.lemmas.List.Elements.{Contains-append_right}
use mathlib.Core.Option.{some, some-ne-none}
use lib.ListN.{get_elem?}
use Rattle.atomic_table.specs.Table.{Allows, Splits, Joins}
use Rattle.atomic_table.proofs.Lists.{at_set, at_last, at_longer, at_snoc, set_else}
use Rattle.basics.specs.Sums.{total}
use Rattle.basics.proofs.Sums.{total-append, total-set}
use Rattle.graph_terms.specs.declared.outcome.End.{End}
use Rattle.graph_terms.specs.Graph.{GraphValue}
use Rattle.graph_meaning.specs.Path.{HasPath}
use Rattle.shared_events.specs.Seats.{no_event}
use Rattle.shared_events.specs.declared.events.Events.{Events}
use Rattle.event_table.specs.declared.handle.Handle.{Handle}
use Rattle.run_state.specs.Run.{Run}
use Rattle.word_steps.specs.declared.content.Content.{Content}
use Rattle.word_steps.specs.declared.view.View.{View}
use Rattle.word_steps.specs.declared.base.Base.{Base}
use Rattle.word_steps.specs.declared.table.WordTable.{WordTable}
use Rattle.word_steps.specs.Clashes.{AreNeverTogether, without_claim, with_claim, impossible_view}
use Rattle.word_steps.specs.Claims.{Claim, new_claim}
use Rattle.word_steps.specs.Plays.{Sat, no_view, parent_of, child_of, end_of_code, ended_by, looked_at, Told}
use Rattle.word_steps.specs.Premises.{Has}
use Rattle.word_steps.specs.Rule.{Loans, Fits, AreNumbered, Shown, ground_of}
use Rattle.word_steps.specs.Views.{runs_at, issues_at, owes_at, has_issue_turn}
use Rattle.word_steps.specs.Table.{graph_of, events_of}
use Rattle.word_steps.proofs.AtKey.{KeyShown, Kept}
use Rattle.word_steps.proofs.Numbers.{split_numbers}
use Rattle.basics.proofs.ListFacts.{contains_none}
use Rattle.word_steps.proofs.Splits.{same_board}
use Rattle.word_steps.proofs.Known.{at_put, longer_known, known_on, still, has_key, ended_shown}
use Rattle.word_steps.proofs.Steps.{St, numbers_on, works_alone, working_not_over}

-- A CLAIM GOES TO A SEAT THAT IS SPLIT OFF
set_last : {X : Type 0} (xs : List X) (c r : X) → set (xs ++ c ∷ []) (length xs) r ≡ xs ++ r ∷ []
set_last [] c r = refl
set_last (x ∷ xs) c r = ap (λ l. x ∷ l) (set_last xs c r)

set_twice : {X : Type 0} (xs ys : List X) (i : ℕ) (v p l : X) → get_elem? xs i ≡ some v → set (set xs i p ++ ys) i l ≡ set xs i l ++ ys
set_twice [] ys i v p l at = absurd (some-ne-none v (sym at))
set_twice (x ∷ xs) ys zero v p l at = refl
set_twice (x ∷ xs) ys (suc i) v p l at = ap (λ zs. x ∷ zs) (set_twice xs ys i v p l at)

moved_sum : (f : View → ℕ) (vs : List View) (id : ℕ) (v l r : View) → get_elem? vs id ≡ some v → f l + f r ≡ f v → total f (set vs id l ++ r ∷ []) ≡ total f vs
moved_sum f vs id v l r me h = let a = total-append f (set vs id l) (r ∷ []) in let b = total-set f vs id v l me in omega (arith, a, b, h)

moved_numbers : (vs : List View) → AreNumbered vs → (id : ℕ) (v : View) → get_elem? vs id ≡ some v → (p : ℕ) (ps : List ℕ) → v.mine ≡ p ∷ ps → AreNumbered (set vs id (without_claim v) ++ with_claim v ∷ [])
moved_numbers vs o id v me p ps own =
    let l : List View = set vs id (parent_of v) in
    let split : AreNumbered (l ++ child_of v ∷ []) = split_numbers vs o id v me p ps own in
    let last : AreNumbered (set (l ++ child_of v ∷ []) (length l) (with_claim v)) = numbers_on (l ++ child_of v ∷ []) (length l) (child_of v) (with_claim v) (at_last l (child_of v) (length l) refl) refl refl refl split in
    let there : AreNumbered (l ++ with_claim v ∷ []) = subst AreNumbered (set_last l (child_of v) (with_claim v)) last in
    let here : get_elem? (l ++ with_claim v ∷ []) id ≡ some (parent_of v) = at_longer l (with_claim v ∷ []) id (parent_of v) (at_put vs id v (parent_of v) me) in
    subst AreNumbered (set_twice vs (with_claim v ∷ []) id v (parent_of v) (without_claim v) me) (numbers_on (l ++ with_claim v ∷ []) id (parent_of v) (without_claim v) here refl refl refl there)

number_of_claim : (l : List ℕ) → (l ≡ [] → ⊥) → (p : ℕ) × (ps : List ℕ) × (l ≡ p ∷ ps)
number_of_claim [] h = absurd (h refl)
number_of_claim (p ∷ ps) h = (p, ps, refl)

module _ {g : GraphValue} {e : Events} {run : Run} {loans : Loans} {handles : List Handle} (v : View) (f : Fits g e run loans handles v) where
  left_fits : Fits g e run loans handles (without_claim v)
  left_fits = record {
    keys = f.keys;
    issued = f.issued;
    ended = f.ended;
    times = f.times;
    named = f.named;
    claim = λ c q. absurd (none-some c q);
    event = λ c q. absurd (none-some c q);
    issuing = f.issuing;
    issuer = f.issuer;
    issue_turn = f.issue_turn;
    idle = λ n. (refl, (f.idle n).1, (f.idle n).2);
  }

  right_fits : Fits g e run loans handles (with_claim v)
  right_fits = record {
    keys = f.keys;
    issued = f.issued;
    ended = f.ended;
    times = λ j t h. absurd (contains_none {X = ℕ × ℕ} (j, t) h);
    named = f.named;
    claim = f.claim;
    event = f.event;
    issuing = λ k q. absurd (none-some k q);
    issuer = λ k q. absurd (none-some k q);
    issue_turn = λ k q. absurd (none-some k q);
    idle = λ n. cc;
  }

claim_moves : (g : GraphValue) (e : Events) (id : ℕ) (v : View) (c : Claim) → v.claim ≡ Some c → Splits (Shown g e) id v (without_claim v) (with_claim v)
claim_moves g e id v c has s o me =
    let f = o.each_view id v me in
    let own = number_of_claim v.mine (λ n. none-some c (sym (f.idle n).0 ∙ has)) in
    let l : View = without_claim v in
    let r : View = with_claim v in
    same_board g e s o (set s.views id l ++ r ∷ [])
    (λ k. moved_sum (issues_at k) s.views id v l r me (omega arith)) (λ k. moved_sum (owes_at k) s.views id v l r me (omega arith)) (moved_sum has_issue_turn s.views id v l r me (omega arith)) (λ k. moved_sum (runs_at k) s.views id v l r me (omega arith))
    (λ j u at. ⊎_elim
    (λ b. elim (at_set s.views id j l u b) [ inl (here, is) ↦ subst (Fits g e o.run o.loans o.handles) is (left_fits v f) | inr (other, before) ↦ o.each_view j u before ])
    (λ (q : r ≡ u). subst (Fits g e o.run o.loans o.handles) q (right_fits v f))
    (at_snoc (set s.views id l) r u j at))
    (moved_numbers s.views o.numbers id v me own.0 own.1 own.2)
    (longer_known (set s.views id l) (r ∷ []) (known_on s.views id v l me refl (still o.run o.handles v l (record { issued = λ j c. c; ended = λ j x c. c; times = λ j t c. c }) (λ h. h)) o.known))

-- SEATS THAT CLASH are not there together
no_clash : (g : GraphValue) (e : Events) (s : St) → Shown g e s → (j k : ℕ) (v w : View) → (k ≡ j → ⊥) → get_elem? s.views j ≡ some v → get_elem? s.views k ≡ some w → AreNeverTogether v w → ⊥
no_clash g e s o j k v w other at there x = elim x.clash [
  | inl same ↦ works_alone g e s o j v v at x.one.line k w x.one x.other other there x.one_has refl x.other_has (sym same)
  | inr (end, known) ↦ working_not_over x.other.ends end (sym ((o.each_view k w there).claim x.other x.other_has).stage ∙ (o.each_view j v at).ended x.other.line end known)
]

clash_joins : (g : GraphValue) (e : Events) (id other : ℕ) (v w both spent : View) → AreNeverTogether w v → Joins (Shown g e) id v other w both spent
clash_joins g e id other v w both spent x s o me apart them = absurd (no_clash g e s o other id w v (λ q. apart (sym q)) (sym (set_else s.views id other both apart) ∙ them) me x)

pub moved_clash : (v w : View) → AreNeverTogether v w → AreNeverTogether (with_claim v) w
moved_clash v w x = record { one = x.one; other = x.other; one_has = x.one_has; other_has = x.other_has; clash = x.clash }

impossible_steps : (g : GraphValue) (e : Events) (slots id i : ℕ) (hand : List (ℕ × Content)) → Allows (Shown g e) slots id (impossible_view, hand) i (λ n. n) (λ _ _. ⊥)
impossible_steps g e slots id i hand s o wide me low = absurd (none-some (new_claim 0 no_event) (sym ((o.each_view id impossible_view me).idle refl).0))

-- the same, by the table's key
module _ (w : WordTable) where
  pub move_step : (id : ℕ) (v : View) (c : Claim) → v.claim ≡ Some c → Splits (Kept w) id v (without_claim v) (with_claim v)
  move_step id v c has = subst (λ (b : Base). Splits (KeyShown b) id v (without_claim v) (with_claim v)) (sym w.keyed) (claim_moves (graph_of w) (events_of w) id v c has)

  pub clash_step : (id other : ℕ) (v u : View) → AreNeverTogether u v → Joins (Kept w) id v other u impossible_view no_view
  clash_step id other v u x = subst (λ (b : Base). Joins (KeyShown b) id v other u impossible_view no_view) (sym w.keyed) (clash_joins (graph_of w) (events_of w) id other v u impossible_view no_view x)

  pub never_step : (slots id i : ℕ) (m : Sat) (hand : List (ℕ × Content)) → m ≡ (impossible_view, hand) → Allows (Kept w) slots id m i (λ n. n) (λ _ _. ⊥)
  never_step slots id i m hand is = subst (λ (b : Base). Allows (KeyShown b) slots id m i (λ n. n) (λ _ _. ⊥)) (sym w.keyed)
      (subst (λ (y : Sat). Allows (Shown (graph_of w) (events_of w)) slots id y i (λ n. n) (λ _ _. ⊥)) (sym is) (impossible_steps (graph_of w) (events_of w) slots id i hand))

-- A SEAT LOOKS AT THE LINE OF ANOTHER
pub looked_clash : (v u w : View) (i r : ℕ) → u ≡ looked_at v i r → 8 ≤ r → (line : ℕ) → Has v (λ cl. cl.line ≡ line) → Has w (λ cl. cl.line ≡ i) → AreNeverTogether u w
looked_clash v u w i r is high line mine theirs = record {
  one = mine.0;
  other = theirs.0;
  one_has = ap (λ (y : View). y.claim) is ∙ mine.1;
  other_has = theirs.1;
  clash = inr (
    end_of_code (r - 8),
    subst (λ (l : List (ℕ × End)). Contains l (theirs.0.line, end_of_code (r - 8))) (sym (ap (λ (y : View). y.ended) is))
        (subst (λ j. Contains {X = ℕ × End} (v.ended ++ ended_by i r) (j, end_of_code (r - 8))) (sym theirs.2) (Contains-append_right v.ended (ended_by i r) (i, end_of_code (r - 8)) (ended_shown i r high))),
  );
}

pub no_path_beside : (g : GraphValue) (e : Events) (v : View) (i r line : ℕ) → v.keys ≡ ground_of g e ∷ [] → Told v i r → r < 8 → Has v (λ cl. cl.line ≡ line) → HasPath g i line → ⊥
no_path_beside g e v i r line keys told low mine path =
    let high : 8 ≤ r = told.before (ground_of g e) mine.0 (has_key v.keys (ground_of g e) keys) mine.1 (subst (HasPath g i) (sym mine.2) path) in
    absurd (omega (arith, high, low))
