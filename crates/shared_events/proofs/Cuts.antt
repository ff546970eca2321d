-- A view is cut in two, or two views are put together.
use Rattle.std.proofs.Common.{◌≡◌, ℕ, ◌+◌, ◌≤◌, ◌⊎◌, List, [], ◌∷◌, ◌++◌, set, sym, refl, ap, ◌∙◌, subst, inl, inr, ⊎_elim, arith}
use Rattle.std.specs.Prelude.{Contains, map}
use Rattle.std.proofs.lemmas.List.Elements.{Contains-append_cases, Contains-append_left, Contains-append_right}
use mathlib.Core.Logic.{dite}
use mathlib.Core.Option.{some}
use native.Mathlib.Decide.{ℕ_discrete}
use lib.ListN.{get_elem?}
use Rattle.atomic_table.specs.Table.{Splits, Joins}
use Rattle.atomic_table.proofs.Lists.{set_else, at_snoc}
use Rattle.event_table.specs.declared.handle.Handle.{Handle}
use Rattle.event_table.specs.declared.handle.Fate.{Fate}
use Rattle.event_table.specs.declared.handle.Shape.{Shape}
use Rattle.shared_events.specs.declared.view.View.{View}
use Rattle.basics.specs.Sums.{total}
use Rattle.event_table.specs.Words.{mark, fate_code, IsMade, IsPending, IsEnded}
use Rattle.shared_events.specs.Rule.{held, ends_at, rights_at, maker, Fits, Orderly}
use Rattle.shared_events.specs.Plays.{first_of, but_first, no_view, copy_of, dealt, dealer, all_dealt, none_left, granted, granter, last_of, receipted, maker_of, no_maker, report, reporter, chaser, unchased, emptier, joined, forsaken, gathered, informed}
use Rattle.basics.proofs.Sums.{total-append, total-set, terms_le}
use Rattle.event_table.proofs.Public.{set_cases}
use Rattle.basics.proofs.ListFacts.{contains_cases, contains_none, contains_here, contains_there, contains_one as Contains-one}
use Rattle.shared_events.proofs.Frames.{Placings}
use Rattle.shared_events.proofs.Parts.{whole, facts_fit, placings_fit, rights_fit, chase_fits, making_fits, with_known, with_left, known_alone, with_past, seen_alone, no_placings, given_alone, fewer_rights, no_rights, no_chase, no_making, none_noted, blank}
use Rattle.shared_events.proofs.Steps.{other_views}
use Rattle.shared_events.proofs.Apart.{right_counts}

-- a view is cut in l and r
pub record Cuts (v l r : View) : Type 0 where
  pub weighs : (f : ℕ → ℕ) → held f l + held f r ≡ held f v
  pub makers : l.makes + r.makes ≡ v.makes
  pub rights : (i : ℕ) → rights_at i l + rights_at i r ≡ rights_at i v
  pub left_l : (h : Handle) → Contains l.left h → Contains v.left h
  pub left_r : (h : Handle) → Contains r.left h → Contains v.left h
  pub fits : (key : Shape) (ws ts : List ℕ) (log : Placings) → Fits key ws ts log v → Fits key ws ts log l × Fits key ws ts log r

pub splits : (key : Shape) (id : ℕ) (v l r : View) → Cuts v l r → Splits {S = Unit {0}} (Orderly key) id v l r
splits key id v l r cut s o me =
    let f = cut.fits key s.words o.turns o.log (o.each_view id v me) in
    let vs : List View = set s.views id l in
    let sum : (g : View → ℕ) → total g (vs ++ r ∷ []) + g v ≡ total g s.views + g l + g r = λ g. omega (arith, total-append g vs (r ∷ []), total-set g s.views id v l me) in
    let who : (j : ℕ) (u : View) (P : View → Type 0) → get_elem? (vs ++ r ∷ []) j ≡ some u → P l → P r → (get_elem? s.views j ≡ some u → P u) → P u = λ j u P e a b c. ⊎_elim
    (λ z. set_cases P s.views id l j u z a (λ _ at. c at)) (λ (q : r ≡ u). subst P q b) (at_snoc vs r u j e) in
    other_views key s o (vs ++ r ∷ [])
    (λ j u e. who j u (Fits key s.words o.turns o.log) e f.0 f.1 (λ z. o.each_view j u z))
    (λ g. omega (arith, sum (held g), cut.weighs g))
    (omega (arith, o.one_maker, sum maker, cut.makers))
    (λ i. omega (arith, o.one_right i, sum (rights_at i), cut.rights i))
    (λ j u h e c. let before : total (rights_at h.slot) s.views ≡ 0 = who j u (λ y. Contains y.left h → total (rights_at h.slot) s.views ≡ 0) e (λ d. o.no_right id v h me (cut.left_l h d)) (λ d. o.no_right id v h me (cut.left_r h d)) (λ z d. o.no_right j u h z d) c in
    omega (arith, sum (rights_at h.slot), cut.rights h.slot))

-- a cut in which l has all handles that were left
cut : (v l r : View) → ((f : ℕ → ℕ) → held f l + held f r ≡ held f v) → l.makes + r.makes ≡ v.makes → ((i : ℕ) → rights_at i l + rights_at i r ≡ rights_at i v) → l.left ≡ v.left → ((h : Handle) → Contains r.left h → Contains v.left h)
    → ((key : Shape) (ws ts : List ℕ) (log : Placings) → Fits key ws ts log v → Fits key ws ts log l × Fits key ws ts log r) → Cuts v l r
cut v l r weighs makers rights left left_r fits = record { weighs = weighs; makers = makers; rights = rights; left_l = λ h c. subst (λ hs. Contains hs h) left c; left_r = left_r; fits = fits }

pub copies : (v : View) → Cuts v v (copy_of v)
copies v = cut v v (copy_of v) (λ f. omega arith) (omega arith) (λ i. omega arith) refl (λ h c. c)
    (λ key ws ts log o. let b = blank key ws ts log in (o, whole (copy_of v) (facts_fit o) b.saw no_placings no_rights b.hand no_chase no_making))

in_tail : {X : Type 0} (xs : List X) (x : X) → Contains (but_first xs) x → Contains xs x
in_tail [] x c = c
in_tail (y ∷ ys) x c = contains_there y ys x c

in_first : {X : Type 0} (xs : List X) (x : X) → Contains (first_of xs) x → Contains xs x
in_first [] x c = c
in_first (y ∷ ys) x c = subst (Contains (y ∷ ys)) (Contains-one y x c) (contains_here y ys)

cut_total : {X : Type 0} (g : X → ℕ) (xs : List X) → total g (but_first xs) + total g (first_of xs) ≡ total g xs
cut_total g [] = refl
cut_total g (x ∷ xs) = omega arith

-- the waiters in hand are dealt out, some to each
deals_hand : (v : View) (ls rs : List (ℕ × ℕ)) → ((g : ℕ × ℕ → ℕ) → total g ls + total g rs ≡ total g v.hand) → ((p : ℕ × ℕ) → Contains ls p → Contains v.hand p) → ((p : ℕ × ℕ) → Contains rs p → Contains v.hand p)
    → Cuts v (record v { hand = ls }) (record no_view { keys = v.keys; hand = rs })
deals_hand v ls rs sum in_ls in_rs = cut v (record v { hand = ls }) (record no_view { keys = v.keys; hand = rs }) (λ f. omega (arith, sum (λ (p : ℕ × ℕ). f p.0))) (omega arith) (λ i. omega arith) refl (λ h c. absurd (contains_none h c))
    (λ key ws ts log o. let b = blank key ws ts log in (
      whole (record v { hand = ls }) (facts_fit o) o.saw (placings_fit o) (rights_fit o) (λ p c. o.hand p (in_ls p c)) (chase_fits o) (making_fits o),
      whole (record no_view { keys = v.keys; hand = rs }) (seen_alone o.keys b.seen) b.saw no_placings no_rights (λ p c. o.hand p (in_rs p c)) no_chase no_making,
    ))

pub deals : (v : View) → Cuts v (dealer v) (dealt v)
deals v = deals_hand v (but_first v.hand) (first_of v.hand) (λ g. cut_total g v.hand) (in_tail v.hand) (in_first v.hand)

pub deals_all : (v : View) → Cuts v (none_left v) (all_dealt v)
deals_all v = deals_hand v [] v.hand (λ g. omega arith) (λ p c. absurd (contains_none p c)) (λ p c. c)

pub grants : (v : View) → Cuts v (granter v) (granted v)
grants v = cut v (granter v) (granted v) (λ f. omega arith) (omega arith) (λ i. omega (arith, cut_total (ends_at i) v.rights)) refl (λ h c. absurd (contains_none h c))
    (λ key ws ts log o. let b = blank key ws ts log in let r = fewer_rights (first_of v.rights) (in_first v.rights) (rights_fit o) in (
      whole (granter v) (facts_fit o) o.saw (placings_fit o) (fewer_rights (but_first v.rights) (in_tail v.rights) (rights_fit o)) o.hand (chase_fits o) (making_fits o),
      whole (granted v) (seen_alone o.keys (λ h c. let a = r.pending h c in omega arith)) b.saw no_placings (record { seen = λ h c. c; pending = r.pending; marked = r.marked; clear = r.clear }) b.hand no_chase no_making,
    ))

in_last : {X : Type 0} (xs : List X) (x : X) → Contains (last_of xs) x → Contains xs x
in_last [] x c = c
in_last (y ∷ []) x c = c
in_last (y ∷ z ∷ zs) x c = contains_there y (z ∷ zs) x (in_last (z ∷ zs) x c)

ends_seen : (ts : List ℕ) (Q : Handle → Fate → Type 0) (ps : List (Handle × Fate)) → ((h : Handle) (f : Fate) → Contains ps (h, f) → IsEnded ts h × Q h f) → (h : Handle) → Contains (map (λ (p : Handle × Fate). p.0) ps) h → IsMade ts h
ends_seen ts Q [] f h c = absurd (contains_none h c)
ends_seen ts Q (p ∷ ps) f h c = ⊎_elim (λ (e : p.0 ≡ h). let a = (f p.0 p.1 (contains_here p ps)).0 in subst (IsMade ts) e (omega arith)) (λ d. ends_seen ts Q ps (λ x y z. f x y (contains_there p ps (x, y) z)) h d) (contains_cases p.0 (map (λ (q : Handle × Fate). q.0) ps) h c)

in_seen : (ps : List (Handle × Fate)) (h : Handle) (f : Fate) → Contains ps (h, f) → Contains (map (λ (p : Handle × Fate). p.0) ps) h
in_seen [] h f c = absurd (contains_none {X = Handle × Fate} (h, f) c)
in_seen (p ∷ ps) h f c = ⊎_elim (λ (e : p ≡ (h, f)). subst (λ (q : Handle × Fate). Contains (p.0 ∷ map (λ (z : Handle × Fate). z.0) ps) q.0) e (contains_here p.0 (map (λ (z : Handle × Fate). z.0) ps)))
    (λ d. contains_there p.0 (map (λ (z : Handle × Fate). z.0) ps) h (in_seen ps h f d)) (contains_cases p ps (h, f) c)

pub receipts : (v : View) → Cuts v v (receipted v)
receipts v = cut v v (receipted v) (λ f. omega arith) (omega arith) (λ i. omega arith) refl (λ h c. absurd (contains_none h c))
    (λ key ws ts log o. let b = blank key ws ts log in
    let knows : (h : Handle) (f : Fate) → Contains (last_of v.known) (h, f) → IsEnded ts h × (mark key ws h ≡ fate_code f) = λ h f c. o.known h f (in_last v.known (h, f) c) in
    let seen = ends_seen ts (λ h f. mark key ws h ≡ fate_code f) (last_of v.known) knows in
    (o, whole (receipted v) (with_known (last_of v.known) (λ h f c. (in_seen (last_of v.known) h f c, (knows h f c).0, (knows h f c).1)) (seen_alone o.keys seen)) b.saw no_placings no_rights b.hand no_chase no_making))

pub appoints : (v : View) → Cuts v (no_maker v) (maker_of v)
appoints v = cut v (no_maker v) (maker_of v) (λ f. omega arith) (omega arith) (λ i. omega arith) refl (λ h c. absurd (contains_none h c))
    (λ key ws ts log o. let b = blank key ws ts log in (
      whole (no_maker v) (facts_fit o) o.saw (placings_fit o) (rights_fit o) o.hand (chase_fits o) no_making,
      whole (maker_of v) (seen_alone o.keys o.seen) b.saw no_placings no_rights b.hand no_chase (none_noted (making_fits o)),
    ))

pub reports : (v : View) → Cuts v (reporter v) (report v)
reports v = cut v (reporter v) (report v) (λ f. omega arith) (omega arith) (λ i. omega arith) refl (λ h c. c)
    (λ key ws ts log o. let b = blank key ws ts log in (
      whole (reporter v) (facts_fit o) b.saw (placings_fit o) (rights_fit o) o.hand (chase_fits o) (making_fits o),
      whole (report v) (facts_fit o) o.saw no_placings no_rights b.hand no_chase no_making,
    ))

pub chases : (v : View) → Cuts v (unchased v) (chaser v)
chases v = cut v (unchased v) (chaser v) (λ f. omega arith) (omega arith) (λ i. omega arith) refl (λ h c. absurd (contains_none h c))
    (λ key ws ts log o. let b = blank key ws ts log in (
      whole (unchased v) (facts_fit o) o.saw (placings_fit o) (rights_fit o) o.hand no_chase (making_fits o),
      whole (chaser v) (known_alone (facts_fit o)) b.saw (given_alone (placings_fit o)) no_rights b.hand (chase_fits o) no_making,
    ))

-- a chain that was given whole
pub empties : (v : View) → v.caught ≡ [] → Cuts v v (emptier v)
empties v none-left = cut v v (emptier v) (λ f. omega arith) (omega arith) (λ i. omega arith) refl (λ h c. absurd (contains_none h c))
    (λ key ws ts log o. let b = blank key ws ts log in
    let all_given : (h : Handle) → Contains v.chased h → IsEnded ts h × ((k : ℕ) → Contains log (k, h) → Contains v.given (k, h)) = λ h c. let q = o.chased h c in (q.0, λ k d. ⊎_elim (λ z. absurd (contains_none k (subst (λ l. Contains l k) none-left z))) (λ z. z) (q.1 k d)) in
    (o, whole (emptier v) (known_alone (facts_fit o)) b.saw (record { placed = b.placed; given = o.given; emptied = all_given }) no_rights b.hand no_chase no_making))

-- w has what v and u had
pub record Merges (v u w : View) : Type 0 where
  pub weighs : (n : ℕ → ℕ) → held n w ≡ held n v + held n u
  pub makers : w.makes ≡ v.makes + u.makes
  pub rights : (i : ℕ) → rights_at i w ≤ rights_at i v + rights_at i u
  -- a handle is left already, or its right is given up now
  pub left : (h : Handle) → Contains w.left h → (Contains v.left h ⊎ Contains u.left h) ⊎ (Contains u.rights h × (rights_at h.slot w ≤ rights_at h.slot v))
  pub fits : (key : Shape) (ws ts : List ℕ) (log : Placings) → v.makes + u.makes ≤ 1 → Fits key ws ts log v → Fits key ws ts log u → Fits key ws ts log w

pub merges : (key : Shape) (id : ℕ) (v : View) (other : ℕ) (u w : View) → Merges v u w → Joins {S = Unit {0}} (Orderly key) id v other u w no_view
merges key id v other u w m s o me apart them =
    let vs : List View = set s.views id w in
    let there : get_elem? s.views other ≡ some u = sym (set_else s.views id other w apart) ∙ them in
    let sum : (n : View → ℕ) → total n (set vs other no_view) + n u + n v ≡ total n s.views + n w + n no_view = λ n. omega (arith, total-set n s.views id v w me, total-set n vs other u no_view them) in
    let who : (j : ℕ) (y : View) (P : View → Type 0) → get_elem? (set vs other no_view) j ≡ some y → P no_view → P w → (get_elem? s.views j ≡ some y → P y) → P y = λ j y P e a b c.
    set_cases P vs other no_view j y e a (λ _ z. set_cases P s.views id w j y z b (λ _ at. c at)) in
    let one : v.makes + u.makes ≤ 1 = omega (arith, o.one_maker, terms_le maker s.views id other v u apart me there) in
    let Z : ℕ → Type 0 = λ i. total (rights_at i) (set vs other no_view) ≡ 0 in
    let still : (i : ℕ) → total (rights_at i) s.views ≡ 0 → Z i = λ i z. omega (arith, sum (rights_at i), m.rights i) in
    let freed : (h : Handle) → Contains u.rights h → rights_at h.slot w ≤ rights_at h.slot v → Z h.slot = λ h c l. omega (arith, o.one_right h.slot, sum (rights_at h.slot), right_counts h u c, terms_le (rights_at h.slot) s.views id other v u apart me there) in
    other_views key s o (set vs other no_view)
    (λ j y e. who j y (Fits key s.words o.turns o.log) e (blank key s.words o.turns o.log) (m.fits key s.words o.turns o.log one (o.each_view id v me) (o.each_view other u there)) (λ z. o.each_view j y z))
    (λ n. omega (arith, sum (held n), m.weighs n))
    (omega (arith, o.one_maker, sum maker, m.makers))
    (λ i. omega (arith, o.one_right i, sum (rights_at i), m.rights i))
    (λ j y h e c. who j y (λ x. Contains x.left h → Z h.slot) e (λ d. absurd (contains_none h d))
    (λ d. ⊎_elim (λ z. still h.slot (⊎_elim (λ x. o.no_right id v h me x) (λ x. o.no_right other u h there x) z)) (λ z. freed h z.0 z.1) (m.left h d))
    (λ z d. still h.slot (o.no_right j y h z d)) c)

-- the second has caught nothing
joined_fits : (v u : View) (key : Shape) (ws ts : List ℕ) (log : Placings) → v.makes + u.makes ≤ 1 → Fits key ws ts log v → Fits key ws ts log u → Fits key ws ts log (joined v u)
joined_fits v u key ws ts log one f g = record {
  keys = f.keys;
  all_seen = (
    (λ h y c. ⊎_elim (λ d. Contains-append_left v.seen u.seen h (f.all_seen.0 h y d)) (λ d. Contains-append_right v.seen u.seen h (g.all_seen.0 h y d)) (Contains-append_cases v.known u.known (h, y) c)),
    (λ h c. ⊎_elim (λ d. Contains-append_left v.seen u.seen h (f.all_seen.1 h d)) (λ d. Contains-append_right v.seen u.seen h (g.all_seen.1 h d)) (Contains-append_cases v.left u.left h c)),
    (λ h c. ⊎_elim (λ d. Contains-append_left v.seen u.seen h (f.all_seen.2 h d)) (λ d. Contains-append_right v.seen u.seen h (g.all_seen.2 h d)) (Contains-append_cases v.past u.past h c)),
    (λ h c. ⊎_elim (λ d. Contains-append_left v.seen u.seen h (f.all_seen.3 h d)) (λ d. Contains-append_right v.seen u.seen h (g.all_seen.3 h d)) (Contains-append_cases v.rights u.rights h c)),
  );
  seen = λ h c. ⊎_elim (λ d. f.seen h d) (λ d. g.seen h d) (Contains-append_cases v.seen u.seen h c);
  known = λ h y c. ⊎_elim (λ d. f.known h y d) (λ d. g.known h y d) (Contains-append_cases v.known u.known (h, y) c);
  placed = λ p c. ⊎_elim (λ d. f.placed p d) (λ d. g.placed p d) (Contains-append_cases v.placed u.placed p c);
  given = λ p c. ⊎_elim (λ d. f.given p d) (λ d. g.given p d) (Contains-append_cases v.given u.given p c);
  emptied = λ h c. ⊎_elim (λ d. let q = f.emptied h d in (q.0, λ k z. Contains-append_left v.given u.given (k, h) (q.1 k z))) (λ d. let q = g.emptied h d in (q.0, λ k z. Contains-append_right v.given u.given (k, h) (q.1 k z))) (Contains-append_cases v.emptied u.emptied h c);
  left = λ h c. ⊎_elim (λ d. f.left h d) (λ d. g.left h d) (Contains-append_cases v.left u.left h c);
  past = λ h c. ⊎_elim (λ d. f.past h d) (λ d. g.past h d) (Contains-append_cases v.past u.past h c);
  saw = λ p c. ⊎_elim (λ d. f.saw p d) (λ d. g.saw p d) (Contains-append_cases v.saw u.saw p c);
  rights = λ h c. ⊎_elim (λ d. f.rights h d) (λ d. g.rights h d) (Contains-append_cases v.rights u.rights h c);
  marked = λ h c. ⊎_elim (λ d. f.marked h d) (λ d. g.marked h d) (Contains-append_cases v.marked u.marked h c);
  clear = λ h c n. ⊎_elim (λ d. f.clear h d (λ z. n (Contains-append_left v.marked u.marked h z))) (λ d. g.clear h d (λ z. n (Contains-append_right v.marked u.marked h z))) (Contains-append_cases v.rights u.rights h c);
  hand = λ p c. ⊎_elim (λ d. f.hand p d) (λ d. g.hand p d) (Contains-append_cases v.hand u.hand p c);
  caught = f.caught;
  chased = λ h c. let q = f.chased h c in (q.0, λ k d. ⊎_elim (λ z. inl z) (λ z. inr (Contains-append_left v.given u.given (k, h) z)) (q.1 k d));
  chain = f.chain;
  own = λ h c. ⊎_elim (λ d. f.own h d) (λ d. g.own h d) (Contains-append_cases v.made u.made h c);
  made = λ e h c. dite (ℕ_discrete v.makes 1) (λ z. Contains-append_left v.made u.made h (f.made z h c)) (λ z. Contains-append_right v.made u.made h (g.made (omega arith) h c));
  spare = λ e p c. absurd (contains_none p c);
}

joined_weigh : (v u : View) → u.caught ≡ [] → (n : ℕ → ℕ) → held n (joined v u) ≡ held n v + held n u
joined_weigh v u none-caught n = omega (arith, total-append (λ (p : ℕ × ℕ). n p.0) v.hand u.hand, ap (total n) none-caught)

pub joined_is : (v u : View) → u.caught ≡ [] → Merges v u (joined v u)
joined_is v u none-caught = record {
  weighs = joined_weigh v u none-caught;
  makers = refl;
  rights = λ i. omega (arith, total-append (ends_at i) v.rights u.rights);
  left = λ h c. inl (Contains-append_cases v.left u.left h c);
  fits = joined_fits v u;
}

pub joins : (key : Shape) (id : ℕ) (v : View) (other : ℕ) (u : View) → u.caught ≡ [] → Joins {S = Unit {0}} (Orderly key) id v other u (joined v u) no_view
joins key id v other u none-caught = merges key id v other u (joined v u) (joined_is v u none-caught)

-- its rights are given up
pub forsakes : (key : Shape) (id : ℕ) (v : View) (other : ℕ) (u : View) → u.caught ≡ [] → Joins {S = Unit {0}} (Orderly key) id v other u (forsaken v u) no_view
forsakes key id v other u none-caught = merges key id v other u (forsaken v u) (record {
  weighs = joined_weigh v u none-caught;
  makers = refl;
  rights = λ i. omega arith;
  left = λ h c. ⊎_elim (λ d. inl (Contains-append_cases v.left u.left h d)) (λ d. inr (d, omega arith)) (Contains-append_cases (v.left ++ u.left) u.rights h c);
  fits = λ key' ws ts log one f g. let o = joined_fits v u key' ws ts log one f g in let r = rights_fit f in
      let left : (h : Handle) → Contains ((v.left ++ u.left) ++ u.rights) h → Contains (v.seen ++ u.seen) h × IsPending ts h = λ h c. ⊎_elim (λ d. (o.all_seen.1 h d, o.left h d)) (λ d. (Contains-append_right v.seen u.seen h (g.all_seen.3 h d), g.rights h d)) (Contains-append_cases (v.left ++ u.left) u.rights h c) in
      whole (forsaken v u) (with_left ((v.left ++ u.left) ++ u.rights) left (facts_fit o)) o.saw (placings_fit o)
      (record { seen = λ h c. Contains-append_left v.seen u.seen h (r.seen h c); pending = r.pending; marked = r.marked; clear = r.clear }) o.hand (chase_fits o) (making_fits o);
})

-- the Maker takes in a seat, and keeps its own list
pub gathers : (key : Shape) (id : ℕ) (v : View) (other : ℕ) (u : View) → u.caught ≡ [] → v.makes ≡ 1 → Joins {S = Unit {0}} (Orderly key) id v other u (gathered v u) no_view
gathers key id v other u none-caught maker' = merges key id v other u (gathered v u) (record {
  weighs = joined_weigh v u none-caught;
  makers = refl;
  rights = λ i. omega (arith, total-append (ends_at i) v.rights u.rights);
  left = λ h c. inl (Contains-append_cases v.left u.left h c);
  fits = λ key' ws ts log one f g. let o = joined_fits v u key' ws ts log one f g in
      whole (gathered v u) (facts_fit o) o.saw (placings_fit o) (rights_fit o) o.hand (chase_fits o) (record { own = f.own; made = λ _ h c. f.made maker' h c; spare = o.spare });
})

known_ended : (ts : List ℕ) (ps : List (Handle × Fate)) → ((h : Handle) (f : Fate) → Contains ps (h, f) → IsEnded ts h) → (h : Handle) → Contains (map (λ (p : Handle × Fate). p.0) ps) h → IsEnded ts h
known_ended ts [] f h c = absurd (contains_none h c)
known_ended ts (p ∷ ps) f h c = ⊎_elim (λ (e : p.0 ≡ h). subst (IsEnded ts) e (f p.0 p.1 (contains_here p ps))) (λ d. known_ended ts ps (λ x y z. f x y (contains_there p ps (x, y) z)) h d) (contains_cases p.0 (map (λ (q : Handle × Fate). q.0) ps) h c)

-- the Maker, which has seen what it made, takes in what a seat with no waiter knows to have ended
pub informs : (key : Shape) (id : ℕ) (v : View) (other : ℕ) (u : View) → v.makes ≡ 1 → v.seen ≡ v.made → u.makes ≡ 0 → u.hand ≡ [] → u.caught ≡ [] → Joins {S = Unit {0}} (Orderly key) id v other u (informed v u) no_view
informs key id v other u maker' seen idle none-held none-caught = merges key id v other u (informed v u) (record {
  weighs = λ n. omega (arith, ap (total (λ (p : ℕ × ℕ). n p.0)) none-held, ap (total n) none-caught);
  makers = omega (arith, idle);
  rights = λ i. omega arith;
  left = λ h c. inl (inl c);
  fits = λ key' ws ts log one f g. let told : List Handle = map (λ (p : Handle × Fate). p.0) u.known in
      let ended : (h : Handle) → Contains (v.past ++ told) h → Contains v.seen h × IsEnded ts h = λ h c. ⊎_elim (λ d. (f.all_seen.2 h d, f.past h d))
      (λ d. let e : IsEnded ts h = known_ended ts u.known (λ x y z. (g.known x y z).0) h d in (subst (λ l. Contains l h) (sym seen) (f.made maker' h (omega arith)), e)) (Contains-append_cases v.past told h c) in
      whole (informed v u) (with_past (v.past ++ told) ended (facts_fit f)) f.saw (placings_fit f) (rights_fit f) f.hand (chase_fits f) (none_noted (making_fits f));
})

-- and finds these past
pub informed_past : (v u : View) (h : Handle) (f : Fate) → Contains u.known (h, f) → Contains (informed v u).past h
informed_past v u h f c = Contains-append_right v.past (map (λ (p : Handle × Fate). p.0) u.known) h (in_seen u.known h f c)
