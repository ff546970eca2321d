-- The step that creates a handle.
use Rattle.std.proofs.Common.{◌≡◌, ℕ, ◌+◌, ◌*◌, ◌/◌, ◌%◌, ◌<◌, ◌≤◌, ◌≢◌, ◌⊎◌, List, [], ◌∷◌, ◌++◌, get_or, set, sym, refl, ap, ◌∙◌, subst, inl, inr, ⊎_elim, arith, cond, Bool, eqb, eq-eqb, length-set, get_or-set_other, get_or-set_same}
use Rattle.std.specs.Prelude.{Contains}
use Rattle.std.proofs.lemmas.List.Elements.{Contains-append_left, Contains-push, Contains-push_cases}
use mathlib.Core.Logic.{dite}
use mathlib.Core.Option.{some}
use native.Mathlib.Decide.{ℕ_discrete}
use lib.ListN.{get_elem?}
use prog.Atomic.{either}
use Rattle.atomic_table.specs.Table.{keeps, Allows}
use Rattle.event_table.specs.declared.handle.Handle.{Handle}
use Rattle.event_table.specs.declared.handle.Shape.{Shape}
use Rattle.shared_events.specs.declared.view.View.{View}
use Rattle.basics.specs.Sums.{total}
use Rattle.event_table.specs.Words.{mark, IsMade, IsPending, Linked, Shows, handle_at}
use Rattle.shared_events.specs.Rule.{held, ends_at, rights_at, maker, Fits, Orderly}
use Rattle.shared_events.specs.Plays.{Sat, made_at, AreBelow, created}
use Rattle.basics.proofs.Sums.{total-set}
use Rattle.event_table.proofs.Public.{set_cases, linked_low, marks_low}
use Rattle.basics.proofs.ListFacts.{contains_cases, contains_none}
use Rattle.shared_events.proofs.Frames.{Placings, Leaves, steady}
use Rattle.shared_events.proofs.Apart.{St, same_handle, ends_there, even_apart, no_right_at, other_maker}
use Rattle.shared_events.proofs.Parts.{whole, facts_fit, placings_fit, rights_fit, chase_fits}
use Rattle.shared_events.proofs.Steps.{board, each_after}

-- a view without the right to create
abbrev idle : View → View
idle v = record v { makes = 0 }

pub idle_fits : (key : Shape) (ws ts : List ℕ) (log : Placings) (v : View) → Fits key ws ts log v → Fits key ws ts log (idle v)
idle_fits key ws ts log v o = whole (idle v) (facts_fit o) o.saw (placings_fit o) (rights_fit o) o.hand (chase_fits o) (record { own = o.own; made = λ e. absurd (omega arith); spare = λ e. absurd (omega arith) })

module _ (key : Shape) (s : St) (o : Orderly key s) (id i old : ℕ) (v : View) (me : get_elem? s.views id ≡ some v) (maker' : v.makes ≡ 1) (noted : Contains v.spare (i, old)) (low : old % 4294967296 ≡ 0) where
  fits : Fits key s.words o.turns o.log v
  fits = o.each_view id v me

  near : i < key.slots
  near = (fits.spare maker' (i, old) noted).0

  is : get_or s.words i 0 ≡ old
  is = (fits.spare maker' (i, old) noted).1

  even : get_or o.turns i 0 % 2 ≡ 0
  even = (fits.spare maker' (i, old) noted).2

  t : ℕ
  t = get_or o.turns i 0

  sh : Shows key.last_gen (get_or o.turns i 0) (get_or o.chains i []) (get_or s.words i 0)
  sh = (o.each_slot i near).0

  not_last : get_or o.turns i 0 ≤ 2 * key.last_gen
  not_last = let few = sh.few in let e = even in let l = low in let w = is in dite (ℕ_discrete (get_or o.turns i 0) (2 * key.last_gen + 2)) (λ z. let r = sh.retired z in absurd (omega arith)) (λ z. omega arith)

  -- the generation in the word is half the turns
  half : old / 4294967296 ≡ get_or o.turns i 0 / 2
  half = let a = sh.free even not_last in let w = is in omega arith

  abbrev h : Handle
  h = handle_at i (old / 4294967296)

  abbrev ws' : List ℕ
  ws' = set s.words i (old + 1)

  abbrev ts' : List ℕ
  ts' = set o.turns i (get_or o.turns i 0 + 1)

  word_here : get_or ws' i 0 ≡ old + 1
  word_here = get_or-set_same s.words i (old + 1) 0 (let a = o.wide in let b = near in omega arith)

  word_there : (j : ℕ) → j ≢ i → get_or ws' j 0 ≡ get_or s.words j 0
  word_there j n = get_or-set_other s.words i j (old + 1) 0 n

  turn_here : get_or ts' i 0 ≡ get_or o.turns i 0 + 1
  turn_here = get_or-set_same o.turns i (get_or o.turns i 0 + 1) 0 (let a = o.high in let b = near in omega arith)

  turn_there : (j : ℕ) → j ≢ i → get_or ts' j 0 ≡ get_or o.turns j 0
  turn_there j n = get_or-set_other o.turns i j (get_or o.turns i 0 + 1) 0 n

  -- what is so of the slot i and of each other slot is so of each
  by_slot : (P : ℕ → Type 0) (j : ℕ) → P i → (j ≢ i → P j) → P j
  by_slot P j a b = dite (ℕ_discrete j i) (λ e. subst P (sym e) a) b

  rises : (j : ℕ) → get_or o.turns j 0 ≤ get_or ts' j 0
  rises j = by_slot (λ x. get_or o.turns x 0 ≤ get_or ts' x 0) j (let a = turn_here in omega arith) (λ n. let a = turn_there j n in omega arith)

  -- no other handle is made by it
  no_more : (x : Handle) → IsMade ts' x → x.slot ≢ i → IsMade o.turns x
  no_more x m n = let a = turn_there x.slot n in omega arith

  only_this : (x : Handle) → IsMade ts' x → IsMade o.turns x ⊎ (h ≡ x)
  only_this x m = dite (ℕ_discrete x.slot i)
      (λ e. let a : get_or ts' x.slot 0 ≡ get_or o.turns i 0 + 1 = ap (λ y. get_or ts' y 0) e ∙ turn_here in let b = half in let ev = even in let same : get_or o.turns x.slot 0 ≡ get_or o.turns i 0 = ap (λ y. get_or o.turns y 0) e in
      dite (ℕ_discrete x.gen_ (old / 4294967296)) (λ g. inr (sym (same_handle x i (old / 4294967296) e g))) (λ g. inl (omega arith)))
      (λ n. inl (no_more x m n))

  leaves : (u : View) → Fits key s.words o.turns o.log u → ((x : Handle) → Contains u.rights x ⊎ Contains u.left x → x.slot ≢ i) → (u.makes ≡ 1 → ⊥) → Leaves key s.words ws' o.turns ts' o.log o.log u
  leaves u f apart idles = record {
    rises = rises;
    longer = λ p c. c;
    old = λ k x c e. c;
    still = λ x c. turn_there x.slot (apart x c);
    hand = λ p c. word_there (key.slots + p.0) (λ e. let b = near in omega arith);
    caught = linked_low key s.words u.caught i (old + 1) near f.caught;
    bits = λ x d. marks_low key s.words i (old + 1) x (let b = near in omega arith);
    stay = λ x d. marks_low key s.words i (old + 1) x (let b = near in omega arith) ∙ d;
    made = λ m. absurd (idles m);
    spare = λ m. absurd (idles m);
  }

  low_gen : old / 4294967296 ≤ key.last_gen
  low_gen = let a = half in let b = not_last in omega arith

  not_made : IsMade o.turns h → ⊥
  not_made m = let b = half in let ev = even in omega arith

  mine : Fits key ws' ts' o.log (made_at v h)
  mine =
      let f₀ = idle_fits key s.words o.turns o.log v fits in
      let f = steady key s.words ws' o.turns ts' o.log o.log (idle v) f₀ (leaves (idle v) f₀ (λ x c. even_apart key s o id v i x even me c) (λ m. absurd (omega arith))) in
      let this : IsPending ts' h = let a = turn_here in let b = half in let ev = even in omega arith in
      let this_made : IsMade ts' h = omega arith in
      let seen_on : (x : Handle) → Contains v.seen x → Contains (v.seen ++ h ∷ []) x = λ x c. Contains-append_left v.seen (h ∷ []) x c in
      let seen_now : Contains (v.seen ++ h ∷ []) h = Contains-push v.seen h in
      let unmarked : mark key ws' h ≡ 0 = marks_low key s.words i (old + 1) h (let b = near in omega arith) ∙ o.clean h near low_gen not_made in
      whole (made_at v h)
      (record {
        keys = f.keys;
        seen = λ x c. ⊎_elim (λ d. f.seen x d) (λ (e : h ≡ x). subst (IsMade ts') e this_made) (Contains-push_cases v.seen h x c);
        known_seen = λ x y c. seen_on x (f.all_seen.0 x y c);
        known = f.known;
        left_seen = λ x c. seen_on x (f.all_seen.1 x c);
        left = f.left;
        past_seen = λ x c. seen_on x (f.all_seen.2 x c);
        past = f.past;
      })
      f.saw (placings_fit f)
      (record {
        seen = λ x c. ⊎_elim (λ (e : h ≡ x). subst (Contains (v.seen ++ h ∷ [])) e seen_now) (λ d. seen_on x (f.all_seen.3 x d)) (contains_cases h v.rights x c);
        pending = λ x c. ⊎_elim (λ (e : h ≡ x). subst (IsPending ts') e this) (λ d. f.rights x d) (contains_cases h v.rights x c);
        marked = f.marked;
        clear = λ x c n. ⊎_elim (λ (e : h ≡ x). subst (λ y. mark key ws' y ≡ 0) e unmarked) (λ d. f.clear x d n) (contains_cases h v.rights x c);
      })
      f.hand (chase_fits f)
      (record {
        own = λ x c. ⊎_elim (λ d. f.own x d) (λ (e : h ≡ x). subst (IsMade ts') e this_made) (Contains-push_cases v.made h x c);
        made = λ _ x m. ⊎_elim (λ d. Contains-append_left v.made (h ∷ []) x (fits.made maker' x d)) (λ (e : h ≡ x). subst (Contains (v.made ++ h ∷ [])) e (Contains-push v.made h)) (only_this x m);
        spare = λ _ p c. absurd (contains_none p c);
      })

  no_chain : get_or o.chains i [] ≡ []
  no_chain = sh.bare even

  slots_ok : (j : ℕ) → j < key.slots → Shows key.last_gen (get_or ts' j 0) (get_or o.chains j []) (get_or ws' j 0) × Linked key ws' (get_or o.chains j [])
  slots_ok j l = (
    by_slot (λ x. x < key.slots → Shows key.last_gen (get_or ts' x 0) (get_or o.chains x []) (get_or ws' x 0)) j
        (λ _. subst (λ c. Shows key.last_gen (get_or ts' i 0) c (get_or ws' i 0)) (sym no_chain) (let a = turn_here in let b = word_here in let ev = even in let nl = not_last in let hf = half in let lo = low in record {
          few = omega arith;
          free = λ z _. absurd (omega arith);
          pending = λ _. omega arith;
          retired = λ z. absurd (omega arith);
          bare = λ _. refl;
        }))
        (λ n l'. subst (λ w. Shows key.last_gen (get_or ts' j 0) (get_or o.chains j []) w) (sym (word_there j n)) (subst (λ x. Shows key.last_gen x (get_or o.chains j []) (get_or s.words j 0)) (sym (turn_there j n)) (o.each_slot j l').0)) l,
    linked_low key s.words (get_or o.chains j []) i (old + 1) near (o.each_slot j l).1,
  )

  abbrev views' : List View
  views' = set s.views id (made_at v h)

  rights_after : (j : ℕ) → j ≢ i → total (rights_at j) views' ≡ total (rights_at j) s.views
  rights_after j n = let a = ends_there j h (λ e. n (sym e)) in omega (arith, total-set (rights_at j) s.views id v (made_at v h) me)

  pub creates_rule : Orderly key (board ws' s.homes views')
  creates_rule = record {
    turns = ts';
    chains = o.chains;
    log = o.log;
    wide = length-set s.words i (old + 1) ∙ o.wide;
    high = length-set o.turns i (get_or o.turns i 0 + 1) ∙ o.high;
    rows = o.rows;
    small = o.small;
    clean = λ x a b n. marks_low key s.words i (old + 1) x (let c = near in omega arith) ∙ o.clean x a b (λ m. n (let c = rises x.slot in omega arith));
    each_slot = slots_ok;
    each_view = each_after key s o id (made_at v h) ws' ts' o.log mine
        (λ j u apart at. leaves u (o.each_view j u at) (λ x c. even_apart key s o j u i x even at c) (λ m. other_maker key s o id j v u apart me at maker' m));
    once = λ f. omega (arith, o.once f, total-set (held f) s.views id v (made_at v h) me);
    one_maker = omega (arith, o.one_maker, total-set maker s.views id v (made_at v h) me);
    one_right = λ j. by_slot (λ x. total (rights_at x) views' ≤ 1) j
        (let one : ends_at i h ≡ 1 = ap {B = ℕ} (λ (b : Bool). cond b 1 0) (eq-eqb i i refl) in omega (arith, no_right_at key s o i even, total-set (rights_at i) s.views id v (made_at v h) me))
        (λ n. omega (arith, o.one_right j, rights_after j n));
    no_right = λ j u x e. set_cases (λ (y : View). Contains y.left x → total (rights_at x.slot) views' ≡ 0) s.views id (made_at v h) j u e
        (λ c. rights_after x.slot (even_apart key s o id v i x even me (inr c)) ∙ o.no_right id v x me c)
        (λ _ at c. rights_after x.slot (even_apart key s o j u i x even at (inr c)) ∙ o.no_right j u x at c);
    stands = λ k x c. let old' = o.stands k x c in (
      let a = old'.0 in let b = rises x.slot in omega arith,
      λ p. dite (ℕ_discrete x.slot i) (λ e. let m = old'.0 in let a : get_or ts' x.slot 0 ≡ get_or o.turns i 0 + 1 = ap (λ y. get_or ts' y 0) e ∙ turn_here in let same : get_or o.turns x.slot 0 ≡ get_or o.turns i 0 = ap (λ y. get_or o.turns y 0) e in absurd (omega arith))
          (λ n. old'.1 (sym (turn_there x.slot n) ∙ p)),
    );
    stood = λ k x p c. dite (ℕ_discrete x.slot i) (λ e. absurd (contains_none k (subst (λ l. Contains l k) (ap (λ y. get_or o.chains y []) e ∙ no_chain) c)))
        (λ n. o.stood k x (sym (turn_there x.slot n) ∙ p) c);
  }

  pub was_not_made : Contains v.made h → ⊥
  was_not_made c = let a = fits.own h c in let b = half in let ev = even in omega arith

  pub are_below : AreBelow v.made i (old / 4294967296)
  are_below = (
    (λ x c e. let a = fits.own x c in let b = half in let ev = even in let same : get_or o.turns x.slot 0 ≡ get_or o.turns i 0 = ap (λ y. get_or o.turns y 0) e in omega arith),
    (λ k l. fits.made maker' (handle_at i k) (let b = half in let ev = even in omega arith)),
  )

  pub no_later : old / 4294967296 ≤ key.last_gen
  no_later = let a = half in let b = not_last in omega arith

pub creates : (key : Shape) (n id i old : ℕ) (m : Sat) → m.0.makes ≡ 1 → Contains m.0.spare (i, old) → old % 4294967296 ≡ 0
    → Allows (Orderly key) n id m i (λ y. either (eqb y old) (old + 1) y) (created i old m)
creates key n id i old m makes noted low s o wide me _ =
    let is : get_or s.words i 0 ≡ old = ((o.each_view id m.0 me).spare makes (i, old) noted).1 in
    let v : View = m.0 in
    let w : View = made_at v (handle_at i (old / 4294967296)) in (
      w,
      keeps,
      tt,
      subst (λ b. Orderly key (board (set s.words i (either b (old + 1) (get_or s.words i 0))) s.homes (set s.views id w))) (sym (eq-eqb (get_or s.words i 0) old is)) (creates_rule key s o id i old v me makes noted low),
      (is, refl, was_not_made key s o id i old v me makes noted low, λ x c. subst (λ (y : Shape). old / 4294967296 ≤ y.last_gen) (sym ((o.each_view id v me).keys x c)) (no_later key s o id i old v me makes noted low), are_below key s o id i old v me makes noted low),
    )
