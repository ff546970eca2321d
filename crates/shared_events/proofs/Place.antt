-- The steps that place a waiter on a handle, and that give it again.
use Rattle.std.proofs.Common.{◌≡◌, ℕ, ◌+◌, ◌*◌, ◌/◌, ◌%◌, ◌<◌, ◌≤◌, List, [], ◌∷◌, ◌++◌, get_or, set, sym, refl, ap, ◌∙◌, subst, inl, inr, ⊎_elim, arith, eqb, length-set}
use Rattle.std.specs.Prelude.{Contains, map}
use Rattle.std.proofs.lemmas.List.Elements.{Contains-append_cases, Contains-append_left, Contains-append_right, Contains-push, Contains-push_cases}
use mathlib.Core.Logic.{dite}
use mathlib.Core.Option.{some}
use native.Mathlib.Decide.{ℕ_discrete}
use lib.ListN.{get_elem?}
use prog.Atomic.{either}
use Rattle.atomic_table.specs.Table.{Act, keeps, Valid, carried_after, stepped, Allows}
use Rattle.atomic_table.proofs.Lists.{exchanged}
use Rattle.event_table.specs.declared.handle.Handle.{Handle}
use Rattle.event_table.specs.declared.handle.Shape.{Shape}
use Rattle.shared_events.specs.declared.view.View.{View}
use Rattle.basics.specs.Sums.{total}
use Rattle.event_table.specs.Words.{mark, IsMade, IsPending, IsEnded, code, Linked, Shows, handle_at}
use Rattle.shared_events.specs.Rule.{held, maker, Fits, Orderly}
use Rattle.shared_events.specs.Plays.{Sat, with_first, but_first, placed_on, put, gave, walked}
use Rattle.basics.proofs.Sums.{total-set, total-put}
use Rattle.basics.proofs.ListFacts.{contains_cases, contains_none, contains_here, contains_there, contains_one as Contains-one}
use Rattle.shared_events.proofs.Frames.{Placings, Leaves, steady}
use Rattle.event_table.proofs.Public.{code_le, linked_low, marks_low}
use Rattle.shared_events.proofs.Apart.{St, same_handle}
use Rattle.shared_events.proofs.Parts.{HandFits, whole, facts_fit, rights_fit, chase_fits, making_fits}
use Rattle.shared_events.proofs.Steps.{board, each_after, one_right_after, no_right_after, own, kept_word, looks}
use Rattle.shared_events.proofs.Slot.{word_here, word_there, link_there, chain_here, chain_there, chain_at, chain_was}

-- a word that shows a chain which begins with c, or none at 0
pub decode : (last t c g : ℕ) (ch : List ℕ) (w : ℕ) → Shows last t ch w → w ≡ g * 4294967296 + 1 + c → c + 1 < 4294967295 → code ch ≤ 65536 → (t ≡ 2 * g + 1) × (code ch ≡ c)
decode last t c g ch w s e small few = let f = s.few in dite (ℕ_discrete (t % 2) 1)
    (λ odd. let p = s.pending odd in let half : t / 2 ≡ g = omega arith in (omega arith, omega arith))
    (λ even. let ev : t % 2 ≡ 0 = omega arith in dite (ℕ_discrete t (2 * last + 2)) (λ z. let r = s.retired z in absurd (omega arith)) (λ z. let r = s.free ev (omega arith) in absurd (omega arith)))

-- the waiter k, first in hand and linked to c, goes onto the handle of the slot i that was pending with the chain c
module _ (key : Shape) (s : St) (o : Orderly key s) (id i old : ℕ) (v : View) (k c : ℕ) (ps : List (ℕ × ℕ)) (me : get_elem? s.views id ≡ some v) (hand : v.hand ≡ (k, c) ∷ ps) (near : i < key.slots) (is : get_or s.words i 0 ≡ old) (shape : old % 4294967296 ≡ c + 1) (small : c + 1 < 4294967295) where
  fits : Fits key s.words o.turns o.log v
  fits = o.each_view id v me

  abbrev g : ℕ
  g = old / 4294967296

  abbrev h : Handle
  h = handle_at i (old / 4294967296)

  abbrev ch : List ℕ
  ch = get_or o.chains i []

  in_hand : (k < key.waiters) × (get_or s.words (key.slots + k) 0 ≡ c)
  in_hand = fits.hand (k, c) (subst (λ l. Contains l (k, c)) (sym hand) (contains_here (k, c) ps))

  decoded : (get_or o.turns i 0 ≡ 2 * (old / 4294967296) + 1) × (code (get_or o.chains i []) ≡ c)
  decoded = let z = o.each_slot i near in let a = code_le key s.words (get_or o.chains i []) z.1 in let b = o.small in
      decode key.last_gen (get_or o.turns i 0) c (old / 4294967296) (get_or o.chains i []) (get_or s.words i 0) z.0 (let e = is in let d = shape in omega arith) small (omega arith)

  pending : IsPending o.turns h
  pending = decoded.0

  abbrev new : ℕ
  new = (old / 4294967296) * 4294967296 + (k + 2)

  abbrev ws' : List ℕ
  ws' = set s.words i new

  abbrev cs' : List (List ℕ)
  cs' = set o.chains i (k ∷ ch)

  abbrev log' : Placings
  log' = o.log ++ (k, h) ∷ []

  abbrev w : View
  w = placed_on v h

  firsts : with_first h v.hand ≡ (k, h) ∷ []
  firsts = ap (with_first h) hand

  others : but_first v.hand ≡ ps
  others = ap (λ (l : List (ℕ × ℕ)). but_first l) hand

  -- a placing on a handle that has ended is an old one
  old_one : (j : ℕ) (x : Handle) → Contains log' (j, x) → IsEnded o.turns x → Contains o.log (j, x)
  old_one j x d e = ⊎_elim (λ z. z) (λ (q : (k, h) ≡ (j, x)). let p : IsPending o.turns x = subst (IsPending o.turns) (ap (λ (y : ℕ × Handle). y.1) q) pending in absurd (omega arith)) (Contains-push_cases o.log (k, h) (j, x) d)

  low_bit : (x : Handle) → mark key ws' x ≡ mark key s.words x
  low_bit x = marks_low key s.words i new x (let a = near in omega arith)

  leaves : (u : View) → Fits key s.words o.turns o.log u → Leaves key s.words ws' o.turns o.turns o.log log' u
  leaves u f = record {
    rises = λ j. omega arith;
    longer = λ p d. Contains-append_left o.log ((k, h) ∷ []) p d;
    old = old_one;
    still = λ x d. refl;
    hand = λ p d. link_there key s o i new 0 near p.0;
    caught = linked_low key s.words u.caught i new near f.caught;
    bits = λ x d. low_bit x;
    stay = λ x d. low_bit x ∙ d;
    made = λ m x d. d;
    spare = λ m p d. let z = (f.spare m p d).2 in let q = pending in (word_there key s o i new 0 near p.0 (λ e. let y : get_or o.turns p.0 0 ≡ get_or o.turns i 0 = ap (λ j. get_or o.turns j 0) e in omega arith), refl);
  }

  mine : Fits key ws' o.turns log' w
  mine = let f = steady key s.words ws' o.turns o.turns o.log log' v fits (leaves v fits) in
      let on : (p : ℕ × Handle) → Contains w.placed p → Contains log' p = λ p d. ⊎_elim (λ z. f.placed p z) (λ z. subst (λ q. Contains log' q) (Contains-one (k, h) p (subst (λ l. Contains l p) firsts z)) (Contains-push o.log (k, h))) (Contains-append_cases v.placed (with_first h v.hand) p d) in
      let in_rest : HandFits key ws' w.hand = λ p d. f.hand p (subst (λ l. Contains l p) (sym hand) (contains_there (k, c) ps p (subst (λ l. Contains l p) others d))) in
      whole w (facts_fit f) f.saw (record { placed = on; given = f.given; emptied = f.emptied }) (rights_fit f) in_rest (chase_fits f) (making_fits f)

  slots_ok : (j : ℕ) → j < key.slots → Shows key.last_gen (get_or o.turns j 0) (get_or cs' j []) (get_or ws' j 0) × Linked key ws' (get_or cs' j [])
  slots_ok j l = dite (ℕ_discrete j i)
      (λ e. subst (λ y. Shows key.last_gen (get_or o.turns y 0) (get_or cs' y []) (get_or ws' y 0) × Linked key ws' (get_or cs' y [])) (sym e)
      (subst (λ y. Shows key.last_gen (get_or o.turns i 0) y (get_or ws' i 0) × Linked key ws' y) (sym (chain_here key s o i (k ∷ ch) near)) (
        (let a = pending in let b = word_here key s o i new 0 near in let f = (o.each_slot i near).0.few in record {
          few = f;
          free = λ y n. absurd (omega arith);
          pending = λ y. omega arith;
          retired = λ y. absurd (omega arith);
          bare = λ y. absurd (omega arith);
        }),
        (in_hand.0, link_there key s o i new 0 near k ∙ (in_hand.1 ∙ sym decoded.1), linked_low key s.words ch i new near (o.each_slot i near).1),
      )))
      (λ n. let z = o.each_slot j l in (
        subst (λ y. Shows key.last_gen (get_or o.turns j 0) y (get_or ws' j 0)) (sym (chain_there key s o i (k ∷ ch) near j n))
            (subst (λ y. Shows key.last_gen (get_or o.turns j 0) (get_or o.chains j []) y) (sym (word_there key s o i new 0 near j n)) z.0),
        subst (λ y. Linked key ws' y) (sym (chain_there key s o i (k ∷ ch) near j n)) (linked_low key s.words (get_or o.chains j []) i new near z.1),
      ))

  pub places_rule : Orderly key (board ws' s.homes (set s.views id w))
  places_rule = record {
    turns = o.turns;
    chains = cs';
    log = log';
    wide = length-set s.words i new ∙ o.wide;
    high = o.high;
    rows = length-set o.chains i (k ∷ ch) ∙ o.rows;
    small = o.small;
    clean = λ x a b n. low_bit x ∙ o.clean x a b n;
    each_slot = slots_ok;
    each_view = each_after key s o id w ws' o.turns log' mine (λ j u apart at. leaves u (o.each_view j u at));
    once = λ f. omega (arith, o.once f, total-set (held f) s.views id v w me, total-put (total f) o.chains i (k ∷ ch) [] (omega (arith, near, o.rows)), ap (total (λ (p : ℕ × ℕ). f p.0)) hand, ap (total (λ (p : ℕ × ℕ). f p.0)) others);
    one_maker = omega (arith, o.one_maker, total-set maker s.views id v w me);
    one_right = one_right_after key s o id v w me refl refl;
    no_right = no_right_after key s o id v w me refl refl;
    stands = λ j x d. ⊎_elim
        (λ z. let old = o.stands j x z in (
          old.0,
          λ p. dite (ℕ_discrete x.slot i) (λ e. subst (λ l. Contains l j) (sym (chain_at key s o i (k ∷ ch) near x.slot e)) (contains_there k ch j (subst (λ l. Contains l j) (chain_was key s o i (k ∷ ch) near x.slot e) (old.1 p))))
              (λ n. subst (λ l. Contains l j) (sym (chain_there key s o i (k ∷ ch) near x.slot n)) (old.1 p)),
        ))
        (λ (q : (k, h) ≡ (j, x)). subst (λ (y : ℕ × Handle). IsMade o.turns y.1 × (IsPending o.turns y.1 → Contains (get_or cs' y.1.slot []) y.0)) q ((let a = pending in omega arith), λ p. subst (λ l. Contains l k) (sym (chain_here key s o i (k ∷ ch) near)) (contains_here k ch)))
        (Contains-push_cases o.log (k, h) (j, x) d);
    stood = λ j x p d. dite (ℕ_discrete x.slot i)
        (λ e. let same : h ≡ x = sym (same_handle x i (old / 4294967296) e (let a = pending in let b : get_or o.turns x.slot 0 ≡ get_or o.turns i 0 = ap (λ y. get_or o.turns y 0) e in omega arith)) in
        ⊎_elim (λ (q : k ≡ j). subst (λ (y : ℕ × Handle). Contains log' y) (λ t. (q t, same t)) (Contains-push o.log (k, h)))
        (λ z. Contains-append_left o.log ((k, h) ∷ []) (j, x) (o.stood j x p (subst (λ l. Contains l j) (sym (chain_was key s o i (k ∷ ch) near x.slot e)) z)))
        (contains_cases k ch j (subst (λ l. Contains l j) (chain_at key s o i (k ∷ ch) near x.slot e) d)))
        (λ n. Contains-append_left o.log ((k, h) ∷ []) (j, x) (o.stood j x p (subst (λ l. Contains l j) (chain_there key s o i (k ∷ ch) near x.slot n) d)));
  }

pub puts : (key : Shape) (n id i old new : ℕ) (m : Sat) (k c : ℕ) (ps : List (ℕ × ℕ)) → m.0.hand ≡ (k, c) ∷ ps → i < key.slots → old % 4294967296 ≡ c + 1 → c + 1 < 4294967295 → new ≡ (old / 4294967296) * 4294967296 + (k + 2)
    → Allows (Orderly key) n id m i (λ y. either (eqb y old) new y) (put i old m)
puts key n id i old new m k c ps hand near low small is_new s o wide me fits =
    exchanged (get_or s.words i 0) old new (λ y. (w : View) × (a : Act (Unit {0})) × Valid s.homes m.1 a × Orderly key (stepped s i y id m.1 w a) × put i old m (get_or s.words i 0) (w, carried_after m.1 a))
    (λ hit. (
      placed_on m.0 (handle_at i (old / 4294967296)),
      keeps,
      tt,
      subst (λ y. Orderly key (board (set s.words i y) s.homes (set s.views id (placed_on m.0 (handle_at i (old / 4294967296)))))) (sym is_new) (places_rule key s o id i old m.0 k c ps me hand near hit low small),
      ((λ _. refl), λ miss. absurd (miss hit)),
    ))
    (λ miss. let q = looks key n id i m near s o wide me fits in (q.0, q.1, q.2, q.3, ((λ hit. absurd (miss hit)), λ _. q.4)))

mapped : (hs : List Handle) (j : ℕ) (p : ℕ × Handle) {k : ℕ} → Contains (map (λ (h : Handle). (j, h)) hs) p → j ≡ k → Contains hs p.1 × (p.0 ≡ k)
mapped [] j p d e = absurd (contains_none p d)
mapped (x ∷ xs) j p d e = ⊎_elim (λ (q : (j, x) ≡ p). (subst (λ (y : ℕ × Handle). Contains (x ∷ xs) y.1) q (contains_here x xs), ap (λ (y : ℕ × Handle). y.0) (sym q) ∙ e))
    (λ z. let q = mapped xs j p z e in (contains_there x xs p.1 q.0, q.1)) (contains_cases (j, x) (map (λ (h : Handle). (j, h)) xs) p d)

map_has : (hs : List Handle) (j : ℕ) (x : Handle) → Contains hs x → Contains {X = ℕ × Handle} (map (λ (h : Handle). (j, h)) hs) (j, x)
map_has [] j y d = absurd (contains_none y d)
map_has (x ∷ xs) j y d = ⊎_elim (λ (e : x ≡ y). subst (λ (z : Handle). Contains {X = ℕ × Handle} ((j, x) ∷ map (λ (h : Handle). (j, h)) xs) (j, z)) e (contains_here {X = ℕ × Handle} (j, x) (map (λ (h : Handle). (j, h)) xs)))
    (λ z. contains_there {X = ℕ × Handle} (j, x) (map (λ (h : Handle). (j, h)) xs) (j, y) (map_has xs j y z)) (contains_cases x xs y d)

-- the first waiter that was caught is taken in hand
pub walks : (key : Shape) (n id i : ℕ) (m : Sat) (k : ℕ) (ks : List ℕ) → m.0.caught ≡ k ∷ ks → i ≡ key.slots + k → Allows (Orderly key) n id m i (λ x. x) (walked m)
walks key n id i m k ks caught at s o wide me _ =
    let v : View = m.0 in
    let w : View = gave v in
    let fits = o.each_view id v me in
    let link : (k < key.waiters) × (get_or s.words (key.slots + k) 0 ≡ code ks) × Linked key s.words ks = subst (Linked key s.words) caught fits.caught in
    let first : get_or v.caught 0 0 ≡ k = ap (λ l. get_or l 0 0) caught in
    let after : but_first v.caught ≡ ks = ap (λ (l : List ℕ). but_first l) caught in
    let caught_k : Contains v.caught k = subst (λ l. Contains l k) (sym caught) (contains_here k ks) in
    let new : List (ℕ × Handle) = map (λ (h : Handle). (get_or v.caught 0 0, h)) v.chased in
    let new_given : (p : ℕ × Handle) → Contains new p → Contains v.chased p.1 × (p.0 ≡ k) = λ p d. mapped v.chased (get_or v.caught 0 0) p d first in
    let given_now : (h : Handle) → Contains v.chased h → Contains {X = ℕ × Handle} new (k, h) = λ h d. subst (λ (x : ℕ). Contains {X = ℕ × Handle} new (x, h)) first (map_has v.chased (get_or v.caught 0 0) h d) in
    let given_on : (j : ℕ) (h : Handle) → Contains v.given (j, h) → Contains (v.given ++ new) (j, h) = λ j h z. Contains-append_left v.given new (j, h) z in
    let in_hand : HandFits key s.words w.hand = λ p d. ⊎_elim (λ (e : (get_or v.caught 0 0, code (but_first v.caught)) ≡ p). subst (λ (q : ℕ × ℕ). (q.0 < key.waiters) × (get_or s.words (key.slots + q.0) 0 ≡ q.1)) ((λ t. (sym first t, code (sym after t))) ∙ e) (link.0, link.1))
    (λ z. fits.hand p z) (contains_cases (get_or v.caught 0 0, code (but_first v.caught)) v.hand p d) in
    let fits' : Fits key s.words o.turns o.log w = whole w (facts_fit fits) fits.saw
    (record {
      placed = fits.placed;
      given = λ p d. ⊎_elim (λ z. fits.given p z) (λ z. let q = new_given p z in (subst (λ j. Contains o.log (j, p.1)) (sym q.1) (fits.chain p.1 k q.0 caught_k), (fits.chased p.1 q.0).0)) (Contains-append_cases v.given new p d);
      emptied = λ h d. let q = fits.emptied h d in (q.0, λ j z. given_on j h (q.1 j z));
    })
    (rights_fit fits) in_hand
    (record {
      caught = subst (Linked key s.words) (sym after) link.2;
      chased = λ h d. let q = fits.chased h d in (
        q.0,
        λ j z. ⊎_elim
            (λ y. ⊎_elim (λ (e : k ≡ j). inr (Contains-append_right v.given new (j, h) (subst (λ (x : ℕ). Contains {X = ℕ × Handle} new (x, h)) e (given_now h d))))
            (λ x. inl (subst (λ l. Contains l j) (sym after) x)) (contains_cases k ks j (subst (λ l. Contains l j) caught y)))
            (λ y. inr (given_on j h y)) (q.1 j z),
      );
      chain = λ h j d z. fits.chain h j d (subst (λ l. Contains l j) (sym caught) (contains_there k ks j (subst (λ l. Contains l j) after z)));
    })
    (making_fits fits) in
    let weighs : (f : ℕ → ℕ) → held f w ≡ held f v = λ f. omega (arith, ap f first, ap (total f) after, ap (total f) caught) in (
      w,
      keeps,
      tt,
      kept_word key s i s.homes (set s.views id w) (own key s o id v w me fits' weighs refl refl refl),
      (let e = ap (λ j. get_or s.words j 0) at ∙ (link.1 ∙ ap code (sym after)) in (e, refl, λ x d. subst (λ (y : Shape). get_or s.words i 0 ≤ y.waiters) (sym (fits.keys x d)) (let a = ap (λ j. get_or s.words j 0) at ∙ link.1 in let b = code_le key s.words ks link.2 in omega arith))),
    )
