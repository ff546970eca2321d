-- Each step keeps the rule.
use Rattle.std.proofs.Common.{◌≡◌, ℕ, zero, suc, ◌-◌, ◌%◌, ◌<◌, ◌≤◌, ◌≢◌, List, [], ◌∷◌, ◌++◌, length, get_or, set, sym, refl, ap, ◌∙◌, subst, ⊎_elim, arith, cond, eq-eqb}
use Rattle.std.specs.Prelude.{Contains}
use Rattle.std.proofs.lemmas.List.Elements.{Contains-append_cases, Contains-push_cases}
use mathlib.Core.Logic.{dite}
use mathlib.Core.Option.{Option, some}
use native.Mathlib.Decide.{dec_le}
use lib.ListN.{get_elem?}
use lib.Seq.{set-get_or}
use Rattle.atomic_table.specs.Table.{State, keeps, Allows}
use Rattle.event_table.specs.declared.handle.Handle.{Handle}
use Rattle.event_table.specs.declared.handle.Fate.{Fate}
use Rattle.event_table.specs.declared.handle.Shape.{Shape}
use Rattle.shared_events.specs.declared.view.View.{View}
use Rattle.basics.specs.Sums.{total}
use Rattle.event_table.specs.Words.{turns_of, place_of, mark, fate_code, IsMade, IsEnded, Linked, Shows, fate_by}
use Rattle.shared_events.specs.Rule.{held, ends_at, rights_at, maker, Fits, Orderly}
use Rattle.shared_events.specs.Plays.{Sat, found_at, ends_of, Agrees, InRange, Coherent, Rightless, looked, heeded, fated, fates_of, fates_by, reads}
use Rattle.std.specs.Int.{bit_at}
use Rattle.basics.proofs.Sums.{total-set, term_le, item_le}
use Rattle.event_table.proofs.Public.{set_cases, code_le, turns_shown, coded, one_code}
use Rattle.basics.proofs.ListFacts.{contains_none, contains_here}
use Rattle.shared_events.proofs.Found.{fates_in, ends_in}
use Rattle.shared_events.proofs.Frames.{Placings, Leaves, steady}
use Rattle.shared_events.proofs.Parts.{SawFits, whole, facts_fit, placings_fit, rights_fit, chase_fits, making_fits, with_known, with_past}

abbrev pub St : Type 0
St = State Unit View

abbrev pub board : List ℕ → List (Option (Unit {0})) → List View → St
board ws hs vs = record { words = ws; homes = hs; views = vs }

-- words of slots stay as they were, the links of chains too, and so do the marks of handles that were not made
pub rewritten : (key : Shape) (s : St) (o : Orderly key s) (ws : List ℕ) (vs : List View) → length ws ≡ length s.words → ((h : Handle) → h.slot < key.slots → h.gen_ ≤ key.last_gen → (IsMade o.turns h → ⊥) → mark key ws h ≡ mark key s.words h)
    → ((i : ℕ) → i < key.slots → (get_or ws i 0 ≡ get_or s.words i 0) × Linked key ws (get_or o.chains i []))
    → ((j : ℕ) (u : View) → get_elem? vs j ≡ some u → Fits key ws o.turns o.log u) → ((f : ℕ → ℕ) → total (held f) vs ≡ total (held f) s.views) → total maker vs ≤ 1 → ((i : ℕ) → total (rights_at i) vs ≤ 1)
    → ((j : ℕ) (u : View) (h : Handle) → get_elem? vs j ≡ some u → Contains u.left h → total (rights_at h.slot) vs ≡ 0) → Orderly key (board ws s.homes vs)
rewritten key s o ws vs long bits slots views weighs one_maker one_right no_right = record {
  turns = o.turns;
  chains = o.chains;
  log = o.log;
  wide = long ∙ o.wide;
  high = o.high;
  rows = o.rows;
  small = o.small;
  clean = λ h a b n. bits h a b n ∙ o.clean h a b n;
  each_slot = λ i l. let z = slots i l in (subst (λ w. Shows key.last_gen (get_or o.turns i 0) (get_or o.chains i []) w) (sym z.0) (o.each_slot i l).0, z.1);
  each_view = views;
  once = λ f. omega (arith, o.once f, weighs f);
  one_maker = one_maker;
  one_right = one_right;
  no_right = no_right;
  stands = o.stands;
  stood = o.stood;
}

-- views change, and nothing else
pub other_views : (key : Shape) (s : St) (o : Orderly key s) (vs : List View) → ((j : ℕ) (u : View) → get_elem? vs j ≡ some u → Fits key s.words o.turns o.log u) → ((f : ℕ → ℕ) → total (held f) vs ≡ total (held f) s.views)
    → total maker vs ≤ 1 → ((i : ℕ) → total (rights_at i) vs ≤ 1) → ((j : ℕ) (u : View) (h : Handle) → get_elem? vs j ≡ some u → Contains u.left h → total (rights_at h.slot) vs ≡ 0) → Orderly key (board s.words s.homes vs)
other_views key s o vs = rewritten key s o s.words vs refl (λ h a b n. refl) (λ i l. (refl, (o.each_slot i l).1))

-- each view fits once the seat id has the view w, where the step left the others as they were
pub each_after : (key : Shape) (s : St) (o : Orderly key s) (id : ℕ) (w : View) (ws ts : List ℕ) (log : Placings) → Fits key ws ts log w → ((j : ℕ) (u : View) → j ≢ id → get_elem? s.views j ≡ some u → Leaves key s.words ws o.turns ts o.log log u)
    → (j : ℕ) (u : View) → get_elem? (set s.views id w) j ≡ some u → Fits key ws ts log u
each_after key s o id w ws ts log fits leaves j u e = set_cases (Fits key ws ts log) s.views id w j u e fits (λ apart at. steady key s.words ws o.turns ts o.log log u (o.each_view j u at) (leaves j u apart at))

-- the seat keeps its rights, and has left no more
module _ (key : Shape) (s : St) (o : Orderly key s) (id : ℕ) (v w : View) (me : get_elem? s.views id ≡ some v) (rights : w.rights ≡ v.rights) (left : w.left ≡ v.left) where
  same_rights : (i : ℕ) → total (rights_at i) (set s.views id w) ≡ total (rights_at i) s.views
  same_rights i = omega (arith, ap (total (ends_at i)) rights, total-set (rights_at i) s.views id v w me)

  pub one_right_after : (i : ℕ) → total (rights_at i) (set s.views id w) ≤ 1
  one_right_after i = omega (arith, o.one_right i, same_rights i)

  pub no_right_after : (j : ℕ) (u : View) (h : Handle) → get_elem? (set s.views id w) j ≡ some u → Contains u.left h → total (rights_at h.slot) (set s.views id w) ≡ 0
  no_right_after j u h e = set_cases (λ (x : View). Contains x.left h → total (rights_at h.slot) (set s.views id w) ≡ 0) s.views id w j u e
      (λ c. same_rights h.slot ∙ o.no_right id v h me (subst (λ l. Contains l h) left c)) (λ _ at c. same_rights h.slot ∙ o.no_right j u h at c)

  -- it writes words as `rewritten` has them
  pub writes : (ws : List ℕ) → length ws ≡ length s.words → ((h : Handle) → h.slot < key.slots → h.gen_ ≤ key.last_gen → (IsMade o.turns h → ⊥) → mark key ws h ≡ mark key s.words h)
      → ((i : ℕ) → i < key.slots → (get_or ws i 0 ≡ get_or s.words i 0) × Linked key ws (get_or o.chains i []))
      → ((j : ℕ) (u : View) → get_elem? (set s.views id w) j ≡ some u → Fits key ws o.turns o.log u) → ((f : ℕ → ℕ) → held f w ≡ held f v) → w.makes ≡ v.makes → Orderly key (board ws s.homes (set s.views id w))
  writes ws long bits slots views weighs makes = rewritten key s o ws (set s.views id w) long bits slots views (λ f. omega (arith, weighs f, total-set (held f) s.views id v w me)) (omega (arith, o.one_maker, total-set maker s.views id v w me)) one_right_after no_right_after

-- a seat's own view changes, and nothing else
pub own : (key : Shape) (s : St) (o : Orderly key s) (id : ℕ) (v w : View) → get_elem? s.views id ≡ some v → Fits key s.words o.turns o.log w
    → ((f : ℕ → ℕ) → held f w ≡ held f v) → w.makes ≡ v.makes → w.rights ≡ v.rights → w.left ≡ v.left → Orderly key (board s.words s.homes (set s.views id w))
own key s o id v w me fits weighs makes rights left = writes key s o id v w me rights left s.words refl (λ h a b n. refl) (λ i l. (refl, (o.each_slot i l).1))
    (λ j u e. set_cases (Fits key s.words o.turns o.log) s.views id w j u e fits (λ _ at. o.each_view j u at)) weighs makes

-- after a load
pub kept_word : (key : Shape) (s : St) (i : ℕ) (hs : List (Option (Unit {0}))) (vs : List View) → Orderly key (board s.words hs vs) → Orderly key (board (set s.words i (get_or s.words i 0)) hs vs)
kept_word key s i hs vs o = subst (λ ws. Orderly key (board ws hs vs)) (sym (set-get_or s.words i 0)) o

-- the word of a slot shows the slot's turns
pub shown : (key : Shape) (s : St) (o : Orderly key s) (i : ℕ) → i < key.slots → turns_of (get_or s.words i 0) ≡ get_or o.turns i 0
shown key s o i near = let t = o.each_slot i near in let a = code_le key s.words (get_or o.chains i []) t.1 in let b = o.small in
    turns_shown key.last_gen (get_or o.turns i 0) (get_or o.chains i []) (get_or s.words i 0) t.0 (omega arith)

pub found_fits : (key : Shape) (ws ts : List ℕ) (log : List (ℕ × Handle)) (v : View) (i r : ℕ) → turns_of r ≡ get_or ts i 0 → Fits key ws ts log v → Fits key ws ts log (found_at v i r)
found_fits key ws ts log v i r e o =
    let past : (h : Handle) → Contains (v.past ++ ends_of i (turns_of r) v.seen) h → Contains v.seen h × IsEnded ts h = λ h c. ⊎_elim (λ d. (o.all_seen.2 h d, o.past h d))
    (λ d. let q = ends_in i (turns_of r) v.seen h d in let past = q.2 in let at : get_or ts h.slot 0 ≡ turns_of r = ap (λ j. get_or ts j 0) q.1 ∙ sym e in (q.0, omega arith)) (Contains-append_cases v.past (ends_of i (turns_of r) v.seen) h c) in
    let saw : SawFits ts (v.saw ++ (i, r) ∷ []) = λ p c. ⊎_elim (λ d. o.saw p d) (λ (q : (i, r) ≡ p). subst (λ (x : ℕ × ℕ). turns_of x.1 ≤ get_or ts x.0 0) q (omega arith)) (Contains-push_cases v.saw (i, r) p c) in
    whole (found_at v i r) (with_past (v.past ++ ends_of i (turns_of r) v.seen) past (facts_fit o)) saw (placings_fit o) (rights_fit o) o.hand (chase_fits o) (making_fits o)

pub agrees : (key : Shape) (ws ts : List ℕ) (log : List (ℕ × Handle)) (v : View) (i r : ℕ) → turns_of r ≡ get_or ts i 0 → Fits key ws ts log v → Agrees v i r
agrees key ws ts log v i r e o = (
  (λ h c at. let a = o.seen h c in let b : get_or ts h.slot 0 ≡ turns_of r = ap (λ j. get_or ts j 0) at ∙ sym e in omega arith),
  (λ h f c at. let a = (o.known h f c).0 in let b : get_or ts h.slot 0 ≡ turns_of r = ap (λ j. get_or ts j 0) at ∙ sym e in omega arith),
  (λ h c at. let a = o.past h c in let b : get_or ts h.slot 0 ≡ turns_of r = ap (λ j. get_or ts j 0) at ∙ sym e in omega arith),
  (λ h c at. let a = o.rights h c in let b : get_or ts h.slot 0 ≡ turns_of r = ap (λ j. get_or ts j 0) at ∙ sym e in omega arith),
  (λ h c at. let a = (o.emptied h c).0 in let b : get_or ts h.slot 0 ≡ turns_of r = ap (λ j. get_or ts j 0) at ∙ sym e in omega arith),
)

get_or_past : (xs : List ℕ) (i n : ℕ) → length xs ≡ n → n ≤ i → get_or xs i 0 ≡ 0
get_or_past [] i n e h = refl
get_or_past (x ∷ xs) zero n e h = absurd (omega arith)
get_or_past (x ∷ xs) (suc i) n e h = get_or_past xs i (n - 1) (omega arith) (omega arith)

pub made_in : (key : Shape) (s : St) (o : Orderly key s) (h : Handle) → IsMade o.turns h → h.slot < key.slots
made_in key s o h is = dite (dec_le key.slots h.slot) (λ past. let z = get_or_past o.turns h.slot key.slots o.high past in absurd (omega arith)) (λ no. omega arith)

-- a handle that was made is of a generation of the table
pub made_low : (key : Shape) (s : St) (o : Orderly key s) (h : Handle) → IsMade o.turns h → h.gen_ ≤ key.last_gen
made_low key s o h is = let few = (o.each_slot h.slot (made_in key s o h is)).0.few in omega arith

pub in_range : (key : Shape) (s : St) (o : Orderly key s) (v : View) → Fits key s.words o.turns o.log v → InRange v
in_range key s o v fits x h c d = subst (λ (y : Shape). (h.slot < y.slots) × (h.gen_ ≤ y.last_gen)) (sym (fits.keys x c)) (made_in key s o h (fits.seen h d), made_low key s o h (fits.seen h d))

pub coherent : (key : Shape) (ws ts : List ℕ) (log : List (ℕ × Handle)) (v : View) → Fits key ws ts log v → Coherent v
coherent key ws ts log v o = record {
  one_fate = λ h f g c d. one_code f g (sym (o.known h f c).1 ∙ (o.known h g d).1);
  all_given = λ k h c d. (o.emptied h d).1 k (o.placed (k, h) c);
  left_pending = λ h f c d. let a = o.left h c in let b = (o.known h f d).0 in omega arith;
  left_not_past = λ h c d. let a = o.left h c in let b = o.past h d in omega arith;
  known_seen = o.all_seen.0;
  left_seen = o.all_seen.1;
  past_seen = o.all_seen.2;
}

pub rightless : (key : Shape) (s : St) (o : Orderly key s) (id : ℕ) (v : View) → get_elem? s.views id ≡ some v → Rightless v
rightless key s o id v me h left right =
    let one : ends_at h.slot h ≡ 1 = ap (λ b. cond b 1 0) (eq-eqb h.slot h.slot refl) in
    omega (arith, o.no_right id v h me left, term_le (rights_at h.slot) s.views id v me, item_le (ends_at h.slot) v.rights h right, one)

-- what a poison word tells
told : (key : Shape) (s : St) (o : Orderly key s) (v : View) → Fits key s.words o.turns o.log v → (w : ℕ) (ks : List Shape) → ((x : Shape) → Contains ks x → x ≡ key) → (h : Handle) (f : Fate) → Contains (fates_of ks w (get_or s.words w 0) v.past) (h, f) → IsEnded o.turns h × (mark key s.words h ≡ fate_code f)
told key s o v fits w [] keys h f c = absurd (contains_none {X = Handle × Fate} (h, f) c)
told key s o v fits w (x ∷ xs) keys h f c =
    let same : x ≡ key = keys x (contains_here x xs) in
    let q = fates_in key w (get_or s.words w 0) v.past h f (subst (λ (y : Shape). Contains (fates_by y w (get_or s.words w 0) v.past) (h, f)) same c) in
    let bit : ℕ = mark key s.words h in
    let there : bit_at (get_or s.words w 0) (place_of key.last_gen h % 64) ≡ bit = ap (λ i. bit_at (get_or s.words i 0) (place_of key.last_gen h % 64)) (sym q.1) in
    (fits.past h q.0, (coded bit (omega arith) ∙ ap (λ n. fate_code (fate_by n)) (sym there)) ∙ ap fate_code (sym q.2))

fates_past : (ks : List Shape) (w r : ℕ) (hs : List Handle) (h : Handle) (f : Fate) → Contains (fates_of ks w r hs) (h, f) → Contains hs h
fates_past [] w r hs h f c = absurd (contains_none {X = Handle × Fate} (h, f) c)
fates_past (x ∷ xs) w r hs h f c = (fates_in x w r hs h f c).0

pub reads_mark : (key : Shape) (n id w : ℕ) (m : Sat) → Allows (Orderly key) n id m w (λ x. x) (reads w m)
reads_mark key n id w m s o wide me _ =
    let r : ℕ = get_or s.words w 0 in
    let v : View = m.0 in
    let u : View = fated v w r in
    let f = o.each_view id v me in
    let known : (h : Handle) (g : Fate) → Contains (v.known ++ fates_of v.keys w r v.past) (h, g) → Contains v.seen h × IsEnded o.turns h × (mark key s.words h ≡ fate_code g) = λ h g c. ⊎_elim (λ d. (f.all_seen.0 h g d, (f.known h g d).0, (f.known h g d).1))
    (λ d. let t = told key s o v f w v.keys f.keys h g d in (f.all_seen.2 h (fates_past v.keys w r v.past h g d), t.0, t.1)) (Contains-append_cases v.known (fates_of v.keys w r v.past) (h, g) c) in
    let fits : Fits key s.words o.turns o.log u = whole u (with_known (v.known ++ fates_of v.keys w r v.past) known (facts_fit f)) f.saw (placings_fit f) (rights_fit f) f.hand (chase_fits f) (making_fits f) in (
      u,
      keeps,
      tt,
      kept_word key s w s.homes (set s.views id u) (own key s o id v u me fits (λ g. refl) refl refl refl),
      (refl, coherent key s.words o.turns o.log u fits),
    )

pub looks : (key : Shape) (n id i : ℕ) (m : Sat) → i < key.slots → Allows (Orderly key) n id m i (λ x. x) (looked i m)
looks key n id i m near s o wide me _ = let r : ℕ = get_or s.words i 0 in let v : View = m.0 in let e = shown key s o i near in let fits = o.each_view id v me in (
  found_at v i r,
  keeps,
  tt,
  kept_word key s i s.homes (set s.views id (found_at v i r)) (own key s o id v (found_at v i r) me (found_fits key s.words o.turns o.log v i r e fits) (λ f. refl) refl refl refl),
  (refl, agrees key s.words o.turns o.log v i r e fits, in_range key s o v fits, coherent key s.words o.turns o.log (found_at v i r) (found_fits key s.words o.turns o.log v i r e fits), rightless key s o id v me),
)

pub heeds : (key : Shape) (n id i : ℕ) (m : Sat) → Allows (Orderly key) n id m i (λ x. x) (λ _. heeded m)
heeds key n id i m s o wide me _ = let fits = o.each_view id m.0 me in (
  m.0,
  keeps,
  tt,
  kept_word key s i s.homes (set s.views id m.0) (own key s o id m.0 m.0 me fits (λ f. refl) refl refl refl),
  (refl, coherent key s.words o.turns o.log m.0 fits),
)
