-- Each step, cut and join of seats keeps the rule of the lock.
use Rattle.std.proofs.Common.{◌≡◌, ℕ, zero, suc, ◌+◌, ◌-◌, ◌<◌, ◌≤◌, ◌≢◌, Bool, true, false, ◌⊎◌, inl, inr, List, [], ◌∷◌, ◌++◌, length, set, refl, sym, ◌∙◌, ap, subst, arith, ne_eqb}
use Rattle.std.specs.Prelude.{Option, Some, None, ◌==◌, MatchBool}
use Rattle.std.proofs.lemmas.Bool.{true≢false, false≢true, cases_eq, false_from_ne_true}
use Rattle.std.proofs.lemmas.Option.{none-some, same_Some}
use mathlib.Core.Option.{some, none, some-injective, some-ne-none}
use lib.ListN.{get_elem?}
use prog.Atomic.{either}
use Rattle.atomic_table.specs.Table.{State, Act, keeps, takes, gives, Valid, Allows, Splits, Joins, Final, Seen, opening, stepped, rest, carried_after}
use Rattle.atomic_table.proofs.Lists.{at_set, set_else, set_again, at_longer, at_snoc}
use Rattle.graph_terms.specs.Graph.{GraphValue}
use Rattle.basics.specs.Sums.{total}
use Rattle.basics.proofs.Sums.{total-set, total-append, terms_le}
use Rattle.run_state.specs.Run.{out}
use Rattle.run_core.specs.Core.{CoreValue}
use Rattle.run_core.specs.Works.{KeepsWork}
use Rattle.run_core.specs.Finishing.{NothingOut}
use Rattle.lock_engine.specs.declared.view.View.{View}
use Rattle.lock_engine.specs.Turns.{Call, IsOut, Serves, IsTurn, line_taken}
use Rattle.lock_engine.specs.Rule.{Slot, all_parts, parts_of, Fits, Shares, IsAtHome, IsAway, Guards, first_view}
use Rattle.lock_engine.specs.Plays.{Sat, with_turn, with_line, HasCore, turns, HasGiven, without_part, one_part, joined, spent_view}
use Rattle.lock_engine.proofs.TurnFacts.{keeps_same, keeps_on, one_line}

abbrev St : Type 0
St = State Slot View

abbrev board : List ℕ → List (mathlib.Core.Option.Option Slot) → List View → St
board ws hs vs = record { words = ws; homes = hs; views = vs }

set_at : {A : Type 0} (l : List A) (i : ℕ) (a b : A) → get_elem? l i ≡ some a → get_elem? (set l i b) i ≡ some b
set_at [] i a b e = absurd (some-ne-none a (sym e))
set_at (x ∷ xs) zero a b e = refl
set_at (x ∷ xs) (suc i) a b e = set_at xs i a b e

same_view : (vs : List View) (a b : ℕ) (u v : View) → a ≡ b → get_elem? vs a ≡ some u → get_elem? vs b ≡ some v → u ≡ v
same_view vs a b u v same e at = some-injective u v (sym e ∙ (ap (λ k. get_elem? vs k) same ∙ at))

-- THE SAME CORE, UNDER OTHER VIEWS: they fit, their lines and their turn are those of the views before, and no part is lost
record Follows (c : CoreValue) (g : GraphValue) (vs ws : List View) : Type 0 where
  whole : total parts_of ws ≡ all_parts
  each : (a : ℕ) (u : View) → get_elem? ws a ≡ some u → Fits g c u
  back : (a : ℕ) (u : View) (i : ℕ) → get_elem? ws a ≡ some u → u.line ≡ Some i → (x : View) × (get_elem? vs a ≡ some x) × (x.line ≡ Some i)
  forth : (a : ℕ) (x : View) (i : ℕ) → get_elem? vs a ≡ some x → x.line ≡ Some i → (u : View) × (get_elem? ws a ≡ some u) × (u.line ≡ Some i)

-- and the turn is with the same seat
record HasSameTurn (vs ws : List View) : Type 0 where
  turn_back : (a : ℕ) (u : View) → get_elem? ws a ≡ some u → u.has_turn ≡ true → (x : View) × (get_elem? vs a ≡ some x) × (x.has_turn ≡ true) × (u.core ≡ x.core)
  turn_forth : (a : ℕ) (x : View) → get_elem? vs a ≡ some x → x.has_turn ≡ true → (u : View) × (get_elem? ws a ≡ some u) × (u.has_turn ≡ true)

shares_on : (g : GraphValue) (c : CoreValue) (vs ws : List View) → Shares g c vs → Follows c g vs ws → Shares g c ws
shares_on g c vs ws shares f = record {
  graph = shares.graph;
  unhosted = shares.unhosted;
  each = f.each;
  apart = λ a b u v i eu ev lu lv. (
      let x = f.back a u i eu lu in
      let y = f.back b v i ev lv in
      shares.apart a b x.0 y.0 i x.1 y.1 x.2 y.2);
  all_out = λ i o. (
      let who = shares.all_out i o in
      let u = f.forth who.0 who.1 i who.2 who.3 in
      (who.0, u.0, u.1, u.2));
  whole = f.whole;
}

home_on : (c : CoreValue) (s : St) (ws : List View) → IsAtHome c s → HasSameTurn s.views ws → IsAtHome c (board s.words s.homes ws)
home_on c s ws home t = record {
  words = home.words;
  homes = home.homes;
  nobody = λ a u e. false_from_ne_true u.has_turn (λ h. (let x = t.turn_back a u e h in true≢false (sym x.2 ∙ home.nobody a x.0 x.1)));
}

away_on : (c : CoreValue) (s : St) (ws : List View) → IsAway c s → HasSameTurn s.views ws → IsAway c (board s.words s.homes ws)
away_on c s ws away t = record {
  words = away.words;
  homes = away.homes;
  who = away.who;
  one = t.turn_forth away.who away.one.0 away.one.1 away.one.2;
  alone = λ a u e h. (
      let x = t.turn_back a u e h in
      let y = away.alone a x.0 x.1 x.2 in
      (y.0, x.3 ∙ y.1));
}

guards_on : (g : GraphValue) (s : St) (ws : List View) → ((c : CoreValue) → Shares g c s.views → Follows c g s.views ws) → HasSameTurn s.views ws → Guards g s → Guards g (board s.words s.homes ws)
guards_on g s ws follows t (c, shares, inl home) = (c, shares_on g c s.views ws shares (follows c shares), inl (home_on c s ws home t))
guards_on g s ws follows t (c, shares, inr away) = (c, shares_on g c s.views ws shares (follows c shares), inr (away_on c s ws away t))

-- ONE VIEW CHANGES, and keeps its line
module _ (vs : List View) (id : ℕ) (v w : View) (at : get_elem? vs id ≡ some v) (line : w.line ≡ v.line) where
  one_back : (a : ℕ) (u : View) (i : ℕ) → get_elem? (set vs id w) a ≡ some u → u.line ≡ Some i → (x : View) × (get_elem? vs a ≡ some x) × (x.line ≡ Some i)
  one_back a u i e l = elim (at_set vs id a w u e) [
    | inl (here, is) ↦ (v, ap (λ k. get_elem? vs k) here ∙ at, sym line ∙ (ap (λ (y : View). y.line) is ∙ l))
    | inr (other, before) ↦ (u, before, l)
  ]

  one_forth : (a : ℕ) (x : View) (i : ℕ) → get_elem? vs a ≡ some x → x.line ≡ Some i → (u : View) × (get_elem? (set vs id w) a ≡ some u) × (u.line ≡ Some i)
  one_forth a x i e l = elim (cases_eq a id) [
    | inl here ↦ (w, ap (λ k. get_elem? (set vs id w) k) here ∙ set_at vs id v w at, line ∙ (ap (λ (y : View). y.line) (sym (same_view vs a id x v here e at)) ∙ l))
    | inr other ↦ (x, set_else vs id a w other ∙ e, l)
  ]

  one_turn_back : (w.has_turn ≡ v.has_turn) → w.core ≡ v.core → (a : ℕ) (u : View) → get_elem? (set vs id w) a ≡ some u → u.has_turn ≡ true → (x : View) × (get_elem? vs a ≡ some x) × (x.has_turn ≡ true) × (u.core ≡ x.core)
  one_turn_back turn core a u e h = elim (at_set vs id a w u e) [
    | inl (here, is) ↦ (v, ap (λ k. get_elem? vs k) here ∙ at, sym turn ∙ (ap (λ (y : View). y.has_turn) is ∙ h), ap (λ (y : View). y.core) (sym is) ∙ core)
    | inr (other, before) ↦ (u, before, h, refl)
  ]

  one_turn_forth : (w.has_turn ≡ v.has_turn) → (a : ℕ) (x : View) → get_elem? vs a ≡ some x → x.has_turn ≡ true → (u : View) × (get_elem? (set vs id w) a ≡ some u) × (u.has_turn ≡ true)
  one_turn_forth turn a x e h = elim (cases_eq a id) [
    | inl here ↦ (w, ap (λ k. get_elem? (set vs id w) k) here ∙ set_at vs id v w at, turn ∙ (ap (λ (y : View). y.has_turn) (sym (same_view vs a id x v here e at)) ∙ h))
    | inr other ↦ (x, set_else vs id a w other ∙ e, h)
  ]

  one_each : (g : GraphValue) (c : CoreValue) → Fits g c w → ((a : ℕ) (u : View) → get_elem? vs a ≡ some u → Fits g c u) → (a : ℕ) (u : View) → get_elem? (set vs id w) a ≡ some u → Fits g c u
  one_each g c fits each a u e = elim (at_set vs id a w u e) [
    | inl (here, is) ↦ subst (Fits g c) is fits
    | inr (other, before) ↦ each a u before
  ]

-- a view of another graph, number of parts, turn or core, with the same line
fits_as : (g : GraphValue) (c : CoreValue) (v w : View) → Fits g c v → (0 < w.parts → w.core.graph ≡ g) → w.line ≡ v.line → w.core ≡ v.core → (w.parts ≡ 0 → (w.line ≡ None) × (w.has_turn ≡ false)) → Fits g c w
fits_as g c v w f graph line core idle = record {
  «graph» = graph;
  is_out = λ i l. f.is_out i (sym line ∙ l);
  works = λ i l. subst (λ (x : CoreValue). KeepsWork x c i) (sym core) (f.works i (sym line ∙ l));
  «idle» = idle;
}

fits_nothing : (g : GraphValue) (c : CoreValue) (w : View) → (0 < w.parts → w.core.graph ≡ g) → w.line ≡ None → w.has_turn ≡ false → Fits g c w
fits_nothing g c w graph line turn = record {
  «graph» = graph;
  is_out = λ i l. absurd (none-some i (sym line ∙ l));
  works = λ i l. absurd (none-some i (sym line ∙ l));
  idle = λ e. (line, turn);
}

-- THE TURN IS TAKEN
module _ (g : GraphValue) (c : CoreValue) (vs : List View) (id : ℕ) (v : View) (shares : Shares g c vs) (at : get_elem? vs id ≡ some v) (some_part : 0 < v.parts) where
  turn_fits : Fits g c (with_turn v c)
  turn_fits = record {
    graph = λ _. shares.graph;
    is_out = (shares.each id v at).is_out;
    works = λ i l. keeps_same c i;
    idle = λ e. absurd (omega (arith, e, some_part));
  }

  turn_shares : Shares g c (set vs id (with_turn v c))
  turn_shares = shares_on g c vs (set vs id (with_turn v c)) shares (record {
    whole = (let t = total-set parts_of vs id v (with_turn v c) at in let w = shares.whole in omega (arith, t, w));
    each = one_each vs id v (with_turn v c) at refl g c turn_fits shares.each;
    back = one_back vs id v (with_turn v c) at refl;
    forth = one_forth vs id v (with_turn v c) at refl;
  })

  turn_away : ((a : ℕ) (u : View) → get_elem? vs a ≡ some u → u.has_turn ≡ false) → IsAway c (board (1 ∷ []) (none ∷ []) (set vs id (with_turn v c)))
  turn_away nobody = record {
    words = refl;
    homes = refl;
    who = id;
    one = (with_turn v c, set_at vs id v (with_turn v c) at, refl);
    alone = λ a u e h. elim (at_set vs id a (with_turn v c) u e) [
      | inl (here, is) ↦ (here, ap (λ (y : View). y.core) (sym is))
      | inr (other, before) ↦ absurd (true≢false (sym h ∙ nobody a u before))
    ];
  }

abbrev Turned : GraphValue → ℕ → View → List ℕ → List (mathlib.Core.Option.Option Slot) → List View → Type 0
Turned g id v ws hs vs =
    (w : View) × (a : Act Slot) × Valid hs [] a
    × Guards g (stepped (board ws hs vs) 0 (either (Rattle.std.proofs.Common.get_or ws 0 0 == 0) 1 (Rattle.std.proofs.Common.get_or ws 0 0)) id [] w a)
    × turns (v, []) (Rattle.std.proofs.Common.get_or ws 0 0) (w, carried_after [] a)

turned_home : (g : GraphValue) (id : ℕ) (v : View) (c : CoreValue) (s : St) → Shares g c s.views → IsAtHome c s → get_elem? s.views id ≡ some v → 0 < v.parts → Turned g id v (0 ∷ []) (some (Some c) ∷ []) s.views
turned_home g id v c s shares home at part = (
  with_turn v c,
  takes 0 (Some c),
  refl,
  (c, turn_shares g c s.views id v shares at part, inr (turn_away g c s.views id v shares at part home.nobody)),
  record { core = c; now = refl; graph = shares.graph ∙ sym ((shares.each id v at).graph part); works = (shares.each id v at).works },
)

turned_away : (g : GraphValue) (id : ℕ) (v : View) (c : CoreValue) (s : St) → Shares g c s.views → IsAway c s → get_elem? s.views id ≡ some v → Turned g id v (1 ∷ []) (none ∷ []) s.views
turned_away g id v c s shares away at = (
  v,
  keeps,
  tt,
  subst (λ vs. Guards g (board (1 ∷ []) (none ∷ []) vs)) (sym (set_again s.views id v at))
      (c, shares, inr (record { words = refl; homes = refl; who = away.who; one = away.one; alone = away.alone })),
  refl,
)

turned : (g : GraphValue) (id : ℕ) (v : View) (s : St) → Guards g s → get_elem? s.views id ≡ some v → 0 < v.parts → Turned g id v s.words s.homes s.views
turned g id v s (c, shares, inl home) at part = subst (λ ws. Turned g id v ws s.homes s.views) (sym home.words) (subst (λ hs. Turned g id v (0 ∷ []) hs s.views) (sym home.homes) (turned_home g id v c s shares home at part))
turned g id v s (c, shares, inr away) at part = subst (λ ws. Turned g id v ws s.homes s.views) (sym away.words) (subst (λ hs. Turned g id v (1 ∷ []) hs s.views) (sym away.homes) (turned_away g id v c s shares away at))

pub turns_allow : (g : GraphValue) (slots id : ℕ) (v : View) (hand : List (ℕ × Slot)) → hand ≡ [] → 0 < v.parts → Allows (Guards g) slots id (v, hand) 0 (λ n. either (n == 0) 1 n) (turns (v, hand))
turns_allow g slots id v hand empty part = subst (λ l. Allows (Guards g) slots id (v, l) 0 (λ n. either (n == 0) 1 n) (turns (v, l))) (sym empty) (λ s guards each at low. turned g id v s guards at part)

-- THE TURN IS GIVEN BACK
module _ (g : GraphValue) (c c1 : CoreValue) (vs : List View) (id : ℕ) (v : View) (taken : Option ℕ) (shares : Shares g c vs) (at : get_elem? vs id ≡ some v) (part : 0 < v.parts) (serves : Serves c c1 v.line taken) where
  abbrev left : View
  left = with_line v c1 taken

  -- the line of another seat is not this seat's
  others_line : (a : ℕ) (u : View) (i : ℕ) → a ≢ id → get_elem? vs a ≡ some u → u.line ≡ Some i → v.line ≡ Some i → ⊥
  others_line a u i other e lu lv = other (shares.apart a id u v i e at lu lv)

  others_fit : (a : ℕ) (u : View) → a ≢ id → get_elem? vs a ≡ some u → Fits g c1 u
  others_fit a u other e =
      let f = shares.each a u e in
      record {
        graph = f.graph;
        is_out = λ i l. elim (serves.stays i (f.is_out i l)) [
          | inl mine ↦ absurd (others_line a u i other e l mine)
          | inr still ↦ still
        ];
        works = λ i l. keeps_on u.core c c1 i (f.works i l) (serves.works i (λ mine. others_line a u i other e l mine));
        idle = f.idle;
      }

  left_fits : Fits g c1 left
  left_fits = record {
    graph = λ _. serves.graph ∙ shares.graph;
    is_out = λ i l. (serves.is_new i l).0;
    works = λ i l. keeps_same c1 i;
    idle = λ e. absurd (omega (arith, e, part));
  }

  apart_from : (a : ℕ) (u : View) (i : ℕ) → a ≢ id → get_elem? vs a ≡ some u → u.line ≡ Some i → taken ≡ Some i → ⊥
  apart_from a u i other e lu new = others_line a u i other e lu ((serves.is_new i new).1 ((shares.each a u e).is_out i lu))

  given_all : (i : ℕ) → IsOut c1 i → (a : ℕ) × (u : View) × (get_elem? (set vs id left) a ≡ some u) × (u.line ≡ Some i)
  given_all i o = elim (serves.comes i o) [
    | inl new ↦ (id, left, set_at vs id v left at, new)
    | inr (before, other) ↦ (
        let who = shares.all_out i before in
        (who.0, who.1, set_else vs id who.0 left (λ here. other (ap (λ (y : View). y.line) (sym (same_view vs who.0 id who.1 v here who.2 at)) ∙ who.3)) ∙ who.2, who.3))
  ]

  given_apart : (a b : ℕ) (u x : View) (i : ℕ) → get_elem? (set vs id left) a ≡ some u → get_elem? (set vs id left) b ≡ some x → u.line ≡ Some i → x.line ≡ Some i → a ≡ b
  given_apart a b u x i eu ex lu lx = elim (at_set vs id a left u eu) [
    | inl (here, is) ↦ elim (at_set vs id b left x ex) [
      | inl (there, same) ↦ here ∙ sym there
      | inr (other, before) ↦ absurd (apart_from b x i other before lx (ap (λ (y : View). y.line) is ∙ lu))
    ]
    | inr (far, before_u) ↦ elim (at_set vs id b left x ex) [
      | inl (there, same) ↦ absurd (apart_from a u i far before_u lu (ap (λ (y : View). y.line) same ∙ lx))
      | inr (other, before) ↦ shares.apart a b u x i before_u before lu lx
    ]
  ]

  given_shares : Shares g c1 (set vs id left)
  given_shares = record {
    graph = serves.graph ∙ shares.graph;
    unhosted = serves.hosted ∙ shares.unhosted;
    each = λ a u e. elim (at_set vs id a left u e) [
      | inl (here, is) ↦ subst (Fits g c1) is left_fits
      | inr (other, before) ↦ others_fit a u other before
    ];
    apart = given_apart;
    all_out = given_all;
    whole = (let t = total-set parts_of vs id v left at in let w = shares.whole in omega (arith, t, w));
  }

  given_home : (who : ℕ) → ((a : ℕ) (u : View) → get_elem? vs a ≡ some u → u.has_turn ≡ true → (a ≡ who) × (u.core ≡ c)) → v.has_turn ≡ true → IsAtHome c1 (board (0 ∷ []) (some (Some c1) ∷ []) (set vs id left))
  given_home who alone turn = record {
    words = refl;
    homes = refl;
    nobody = λ a u e. elim (at_set vs id a left u e) [
      | inl (here, is) ↦ ap (λ (y : View). y.has_turn) (sym is)
      | inr (other, before) ↦ false_from_ne_true u.has_turn (λ h. other ((alone a u before h).0 ∙ sym (alone id v at turn).0))
    ];
  }

abbrev Given : GraphValue → ℕ → View → CoreValue → List ℕ → List (mathlib.Core.Option.Option Slot) → List View → Type 0
Given g id v c1 ws hs vs =
    (w : View) × (a : Act Slot) × Valid hs ((0, Some c1) ∷ []) a
    × Guards g (stepped (board ws hs vs) 0 0 id ((0, Some c1) ∷ []) w a)
    × HasGiven (v, (0, Some c1) ∷ []) (w, carried_after ((0, Some c1) ∷ []) a)

given : (g : GraphValue) (id : ℕ) (v : View) (c1 : CoreValue) (call : Call) (s : St) → IsTurn v.core v.line call c1 → v.has_turn ≡ true → 0 < v.parts → Guards g s → get_elem? s.views id ≡ some v → Given g id v c1 s.words s.homes s.views
given g id v c1 call s made turn part (c, shares, inl home) at = absurd (true≢false (sym turn ∙ home.nobody id v at))
given g id v c1 call s made turn part (c, shares, inr away) at =
    let same : v.core ≡ c = (away.alone id v at turn).1 in
    let taken = line_taken call in
    let from_here : Serves c c1 v.line taken = subst (λ (x : CoreValue). Serves x c1 v.line taken) same made.serves in
    let at_one : Given g id v c1 (1 ∷ []) (none ∷ []) s.views = (
      with_line v c1 taken,
      gives,
      tt,
      (c1, given_shares g c c1 s.views id v taken shares at part from_here, inl (given_home g c c1 s.views id v taken shares at part from_here away.who away.alone turn)),
      record { core = c1; «call» = call; had = refl; «turn» = made; now = refl },
    ) in
    subst (λ ws. Given g id v c1 ws s.homes s.views) (sym away.words) (subst (λ hs. Given g id v c1 (1 ∷ []) hs s.views) (sym away.homes) at_one)

pub gives_allow : (g : GraphValue) (slots id : ℕ) (v : View) (hand : List (ℕ × Slot)) (c1 : CoreValue) (call : Call) → hand ≡ (0, Some c1) ∷ [] → IsTurn v.core v.line call c1 → v.has_turn ≡ true → 0 < v.parts →
    Allows (Guards g) slots id (v, hand) 0 (λ _. 0) (λ _. HasGiven (v, hand))
gives_allow g slots id v hand c1 call is made turn part = subst (λ l. Allows (Guards g) slots id (v, l) 0 (λ _. 0) (λ _. HasGiven (v, l))) (sym is) (λ s guards each at low. given g id v c1 call s made turn part guards at)

-- A PART IS CUT OFF
pub cuts_split : (g : GraphValue) (id : ℕ) (v : View) → 1 < v.parts → Splits {S = Slot} (Guards g) id v (without_part v) (one_part v)
cuts_split g id v parts s guards at = guards_on g s ws (λ c shares. record {
  whole = (
      let t = total-set parts_of s.views id v (without_part v) at in
      let u = total-append parts_of vs (one_part v ∷ []) in
      let w = shares.whole in
      omega (arith, t, u, w, parts));
  each = λ a u e. (
      let fits = shares.each id v at in
      let graph : v.core.graph ≡ g = fits.graph (omega (arith, parts)) in
      elim (at_snoc vs (one_part v) u a e) [
        | inl before ↦ one_each s.views id v (without_part v) at refl g c (fits_as g c v (without_part v) fits (λ _. graph) refl refl (λ e. absurd (omega (arith, e, parts)))) shares.each a u before
        | inr is ↦ subst (Fits g c) is (fits_nothing g c (one_part v) (λ _. graph) refl refl)
      ]);
  back = λ a u i e l. elim (at_snoc vs (one_part v) u a e) [
    | inl before ↦ one_back s.views id v (without_part v) at refl a u i before l
    | inr is ↦ absurd (none-some i (ap (λ (y : View). y.line) is ∙ l))
  ];
  forth = λ a x i e l. (
      let u = one_forth s.views id v (without_part v) at refl a x i e l in
      (u.0, at_longer vs (one_part v ∷ []) a u.0 u.1, u.2));
}) (record {
  turn_back = λ a u e h. elim (at_snoc vs (one_part v) u a e) [
    | inl before ↦ one_turn_back s.views id v (without_part v) at refl refl refl a u before h
    | inr is ↦ absurd (false≢true (ap (λ (y : View). y.has_turn) is ∙ h))
  ];
  turn_forth = λ a x e h. (
      let u = one_turn_forth s.views id v (without_part v) at refl refl a x e h in
      (u.0, at_longer vs (one_part v ∷ []) a u.0 u.1, u.2));
}) guards
  where
    vs : List View
    vs = set s.views id (without_part v)

    ws : List View
    ws = vs ++ one_part v ∷ []

-- TWO SEATS ARE JOINED
pub joins_join : (g : GraphValue) (id : ℕ) (v : View) (other : ℕ) (w : View) → 0 < v.parts → w.line ≡ None → w.has_turn ≡ false → Joins {S = Slot} (Guards g) id v other w (joined v w) spent_view
joins_join g id v other w parts line turn s guards at apart there = guards_on g s ws (λ c shares. record {
  whole = (
      let t = total-set parts_of s.views id v (joined v w) at in
      let u = total-set parts_of vs other w spent_view there in
      let x = shares.whole in
      omega (arith, t, u, x));
  each = λ a u e. (
      let fits = shares.each id v at in
      one_each vs other w spent_view there (sym line) g c (fits_nothing g c spent_view (λ l. absurd (omega (arith, l))) refl refl)
      (one_each s.views id v (joined v w) at refl g c (fits_as g c v (joined v w) fits (λ _. fits.graph parts) refl refl (λ e. absurd (omega (arith, e, parts)))) shares.each) a u e);
  back = λ a u i e l. (
      let x = one_back vs other w spent_view there (sym line) a u i e l in
      one_back s.views id v (joined v w) at refl a x.0 i x.1 x.2);
  forth = λ a x i e l. (
      let u = one_forth s.views id v (joined v w) at refl a x i e l in
      one_forth vs other w spent_view there (sym line) a u.0 i u.1 u.2);
}) (record {
  turn_back = λ a u e h. elim (at_set vs other a spent_view u e) [
    | inl (here, is) ↦ absurd (false≢true (ap (λ (y : View). y.has_turn) is ∙ h))
    | inr (far, before) ↦ one_turn_back s.views id v (joined v w) at refl refl refl a u before h
  ];
  turn_forth = λ a x e h. (
      let u = one_turn_forth s.views id v (joined v w) at refl refl a x e h in
      one_turn_forth vs other w spent_view there (sym line) (sym turn) a u.0 u.1 u.2);
}) guards
  where
    vs : List View
    vs = set s.views id (joined v w)

    ws : List View
    ws = set vs other spent_view

-- THE LOCK AT THE START
only_one : (v u : View) (a : ℕ) → get_elem? (v ∷ []) a ≡ some u → (a ≡ 0) × (v ≡ u)
only_one v u zero e = (refl, some-injective v u e)
only_one v u (suc a) e = absurd (some-ne-none u (sym e))

pub opens : (c : CoreValue) (g : GraphValue) → c.graph ≡ g → c.hosted ≡ false → NothingOut c → Guards g (opening (0 ∷ []) (Some c ∷ []) (first_view g))
opens c g is hosted nothing = (
  c,
  record {
    graph = is;
    unhosted = hosted;
    each = λ a u e. subst (Fits g c) (only_one (first_view g) u a e).1 (fits_nothing g c (first_view g) (λ _. refl) refl refl);
    apart = λ a b u v i eu ev lu lv. absurd (none-some i (ap (λ (y : View). y.line) (only_one (first_view g) u a eu).1 ∙ lu));
    all_out = λ i o. absurd (true≢false (sym o ∙ nothing i));
    whole = refl;
  },
  inl (record { words = refl; homes = refl; nobody = λ a u e. ap (λ (y : View). y.has_turn) (sym (only_one (first_view g) u a e).1) }),
)

-- THE LOCK AT THE END, where one seat has all parts
module _ (g : GraphValue) (id : ℕ) (v : View) (s : St) (at : get_elem? s.views id ≡ some v) (all : v.parts ≡ all_parts) (line : v.line ≡ None) (c : CoreValue) (shares : Shares g c s.views) where
  idle_else : (a : ℕ) (u : View) → a ≢ id → get_elem? s.views a ≡ some u → (u.line ≡ None) × (u.has_turn ≡ false)
  idle_else a u other e =
      let t = terms_le parts_of s.views id a v u other at e in
      let w = shares.whole in
      (shares.each a u e).idle (omega (arith, t, w, all))

  none_has_line : (a : ℕ) (u : View) → get_elem? s.views a ≡ some u → u.line ≡ None
  none_has_line a u e = elim (cases_eq a id) [
    | inl here ↦ ap (λ (y : View). y.line) (same_view s.views a id u v here e at) ∙ line
    | inr other ↦ (idle_else a u other e).0
  ]

  nothing_out : NothingOut c
  nothing_out i = false_from_ne_true (out c.run.stages i) (λ o. (
      let who = shares.all_out i o in
      none-some i (sym (none_has_line who.0 who.1 who.2) ∙ who.3)))

  not_away : v.has_turn ≡ false → IsAway c s → ⊥
  not_away turn away = elim (cases_eq away.who id) [
    | inl here ↦ true≢false (sym away.one.2 ∙ (ap (λ (y : View). y.has_turn) (same_view s.views away.who id away.one.0 v here away.one.1 at) ∙ turn))
    | inr other ↦ true≢false (sym away.one.2 ∙ (idle_else away.who away.one.0 other away.one.1).1)
  ]

-- what the last slot then holds
abbrev pub Ends : GraphValue → Slot → Type 0
Ends g slot = (c : CoreValue) × (c.graph ≡ g) × NothingOut c × (slot ≡ Some c) × (c.hosted ≡ false)

last_slot : (g : GraphValue) (id : ℕ) (v : View) (words : List ℕ) (slots : List Slot) (r : Slot) → v.parts ≡ all_parts → v.line ≡ None → v.has_turn ≡ false → Final (Seen (Guards g) id v) words slots → get_elem? slots 0 ≡ some r → Ends g r
last_slot g id v words slots r all line turn (s, ((c, shares, inl home), at), is, long, values) there =
    (c, shares.graph, nothing_out g id v s at all line c shares, some-injective r (Some c) (sym there ∙ values 0 (Some c) (ap (λ hs. get_elem? hs 0) home.homes)), shares.unhosted)
last_slot g id v words slots r all line turn (s, ((c, shares, inr away), at), is, long, values) there = absurd (not_away g id v s at all line c shares turn away)

pub closes : (g : GraphValue) (id : ℕ) (v w : View) (words : List ℕ) (slots : List Slot) (r : Slot) → v ≡ w → w.parts ≡ all_parts → w.line ≡ None → w.has_turn ≡ false → Final (Seen (Guards g) id v) words slots → get_elem? slots 0 ≡ some r → Ends g r
closes g id v w words slots r same all line turn = last_slot g id v words slots r (ap (λ (x : View). x.parts) same ∙ all) (ap (λ (x : View). x.line) same ∙ line) (ap (λ (x : View). x.has_turn) same ∙ turn)

-- WHAT A STEP TELLS
pub has_found : (old new : Sat) (found : ℕ) → turns old found new → found ≡ 0 → HasCore old new
has_found old new found tells zero_found = subst (λ n. turns old n new) zero_found tells

pub has_missed : (old new : Sat) (found : ℕ) → turns old found new → found ≢ 0 → new ≡ old
has_missed old new found tells other = subst (λ b. MatchBool b (HasCore old new) (new ≡ old)) (ne_eqb found 0 other) tells

pub hand_shape : (hand : List (ℕ × Slot)) (x : Slot) → hand ≡ (0, x) ∷ [] → (y : Slot) × (hand ≡ (0, y) ∷ rest hand)
hand_shape hand x is = (x, is ∙ ap (λ l. (0, x) ∷ l) (sym (ap rest is)))

abbrev in_front : List (ℕ × Slot) → Slot → Slot
in_front [] d = d
in_front (p ∷ ps) d = p.1

pub first_in_hand : (hand : List (ℕ × Slot)) (x y : Slot) → hand ≡ (0, x) ∷ [] → hand ≡ (0, y) ∷ rest hand → y ≡ x
first_in_hand hand x y is tells = ap (λ l. in_front l x) (sym tells ∙ is)

pub taken_out : (old mid new : Sat) (h : HasCore old mid) (r : Slot) → mid.1 ≡ (0, r) ∷ rest mid.1 → new ≡ (mid.0, (0, None) ∷ rest mid.1) → (r ≡ Some h.core) × (new ≡ (with_turn old.0 h.core, (0, None) ∷ []))
taken_out old mid new h r tells is = (
  first_in_hand mid.1 (Some h.core) r (ap (λ m. m.1) h.now) tells,
  is ∙ ap (λ (m : Sat). (m.0, (0, None) ∷ rest m.1)) h.now,
)

pub put_in : (old mid : Sat) (x : Slot) → old.1 ≡ (0, None) ∷ [] → mid ≡ (old.0, (0, x) ∷ rest old.1) → mid ≡ (old.0, (0, x) ∷ [])
put_in old mid x is tells = tells ∙ ap (λ l. (old.0, (0, x) ∷ rest l)) is

-- the view of a seat that gave the turn back with this core, after this call
pub given_line : (v : View) (c1 : CoreValue) (mid new : Sat) (call : Call) → mid ≡ (v, (0, Some c1) ∷ []) → HasGiven mid new → IsTurn v.core v.line call c1 → new ≡ (with_line v c1 (line_taken call), [])
given_line v c1 mid new call is h made =
    let view : mid.0 ≡ v = ap (λ (m : Sat). m.0) is in
    let core : h.core ≡ c1 = same_Some h.core c1 (ap (λ l. in_front l None) (sym h.had ∙ ap (λ (m : Sat). m.1) is)) in
    let line : line_taken h.call ≡ line_taken call = one_line v.core c1 v.line (line_taken h.call) (line_taken call)
    (subst (λ (x : View). Serves x.core c1 x.line (line_taken h.call)) view (subst (λ (x : CoreValue). Serves mid.0.core x mid.0.line (line_taken h.call)) core h.turn.serves)) made.serves in
    h.now ∙ (ap (λ (x : View). (with_line x h.core (line_taken h.call), [])) view ∙ (ap (λ (x : CoreValue). (with_line v x (line_taken h.call), [])) core ∙ ap (λ l. (with_line v c1 l, [])) line))
