-- The step that ends a handle.
use Rattle.std.proofs.Common.{◌≡◌, ℕ, ◌+◌, ◌*◌, ◌<◌, ◌≤◌, ◌≢◌, ◌⊎◌, List, [], ◌∷◌, ◌++◌, get_or, set, sym, refl, ap, ◌∙◌, subst, inl, ⊎_elim, arith, cond, Bool, eq-eqb, length-set}
use Rattle.std.specs.Prelude.{Contains}
use Rattle.std.proofs.lemmas.List.Elements.{Contains-push_cases}
use mathlib.Core.Logic.{dite}
use mathlib.Core.Option.{some}
use native.Mathlib.Decide.{ℕ_discrete}
use lib.ListN.{get_elem?}
use Rattle.atomic_table.specs.Table.{keeps, Allows}
use Rattle.event_table.specs.declared.handle.Handle.{Handle}
use Rattle.event_table.specs.declared.handle.Fate.{Fate}
use Rattle.event_table.specs.declared.handle.Shape.{Shape}
use Rattle.shared_events.specs.declared.view.View.{View}
use Rattle.basics.specs.Sums.{total, below}
use Rattle.event_table.specs.Words.{mark, fate_code, IsMade, IsEnded, code, Linked, Shows, Follows}
use Rattle.shared_events.specs.Rule.{held, ends_at, rights_at, maker, Fits, Orderly}
use Rattle.shared_events.specs.Plays.{Sat, ended_with, HasPlaced, IsOnce, ended, fate_now}
use Rattle.basics.proofs.Sums.{total-set, total-put, term_le, entry_le}
use Rattle.event_table.proofs.Public.{set_cases, code_le, linked_low, marks_low}
use Rattle.basics.proofs.ListFacts.{contains_none, contains_here, contains_there, contains_one as Contains-one}
use Rattle.shared_events.proofs.Frames.{Leaves, steady}
use Rattle.shared_events.proofs.Apart.{St, right_counts, right_apart, left_apart}
use Rattle.shared_events.proofs.Parts.{whole, facts_fit, placings_fit, rights_fit, chase_fits, making_fits, with_known, fewer_rights}
use Rattle.shared_events.proofs.Steps.{board, made_in, each_after}
use Rattle.shared_events.proofs.Slot.{at_slot_or, word_here, word_there, link_there, turn_here, turn_there, turn_at, turn_was, chain_here, chain_there}

module _ (key : Shape) (s : St) (o : Orderly key s) (id next : ℕ) (v : View) (h : Handle) (rest : List Handle) (me : get_elem? s.views id ≡ some v) (rights : v.rights ≡ h ∷ rest) (no_chase : v.caught ≡ []) (marks : (v.marked ≡ []) ⊎ (v.marked ≡ h ∷ [])) (follows : Follows key.last_gen h.gen_ next) where
  i : ℕ
  i = h.slot

  fits : Fits key s.words o.turns o.log v
  fits = o.each_view id v me

  has : Contains v.rights h
  has = subst (λ l. Contains l h) (sym rights) (contains_here h rest)

  is : get_or o.turns h.slot 0 ≡ 2 * h.gen_ + 1
  is = fits.rights h has

  near : h.slot < key.slots
  near = made_in key s o h (let a = is in omega arith)

  sh : Shows key.last_gen (get_or o.turns h.slot 0) (get_or o.chains h.slot []) (get_or s.words h.slot 0)
  sh = (o.each_slot h.slot near).0

  abbrev c : List ℕ
  c = get_or o.chains h.slot []

  abbrev w : View
  w = ended_with v h c

  abbrev ws' : List ℕ
  ws' = set s.words h.slot next

  abbrev t' : ℕ
  t' = 2 * h.gen_ + 2

  abbrev ts' : List ℕ
  ts' = set o.turns h.slot t'

  abbrev cs' : List (List ℕ)
  cs' = set o.chains h.slot []

  th : get_or ts' h.slot 0 ≡ t'
  th = turn_here key s o h.slot next t' near

  tt' : (j : ℕ) → j ≢ h.slot → get_or ts' j 0 ≡ get_or o.turns j 0
  tt' = turn_there key s o h.slot next t' near

  pub found_word : get_or s.words h.slot 0 ≡ h.gen_ * 4294967296 + 1 + code c
  found_word = let a = is in let b = sh.pending (omega arith) in omega arith

  rises : (j : ℕ) → get_or o.turns j 0 ≤ get_or ts' j 0
  rises j = at_slot_or h.slot (λ x. get_or o.turns x 0 ≤ get_or ts' x 0) j (let a = th in let b = is in omega arith) (λ n. let a = tt' j n in omega arith)

  -- no handle is made by it
  no_more : (x : Handle) → IsMade ts' x → IsMade o.turns x
  no_more x m = dite (ℕ_discrete x.slot h.slot) (λ e. let a = turn_at key s o h.slot next t' near x.slot e in let b = turn_was key s o h.slot next t' near x.slot e in let d = is in omega arith) (λ n. let a = tt' x.slot n in omega arith)

  -- who may create has noted another slot
  spare_apart : (u : View) → Fits key s.words o.turns o.log u → u.makes ≡ 1 → (p : ℕ × ℕ) → Contains u.spare p → p.0 ≢ h.slot
  spare_apart u f m p d e = let q = (f.spare m p d).2 in let b = turn_was key s o h.slot next t' near p.0 e in let z = is in omega arith

  my_rest : (x : Handle) → Contains rest x → x.slot ≢ h.slot
  my_rest x d e = let a = right_counts x record v { rights = rest } d in let b : 1 ≤ total (ends_at h.slot) rest = subst (λ y. 1 ≤ total (ends_at y) rest) e a in
      let one : ends_at h.slot h ≡ 1 = ap {B = ℕ} (λ (y : Bool). cond y 1 0) (eq-eqb h.slot h.slot refl) in
      omega (arith, ap (total (ends_at h.slot)) rights, o.one_right h.slot, term_le (rights_at h.slot) s.views id v me)

  low_bit : (x : Handle) → mark key ws' x ≡ mark key s.words x
  low_bit x = marks_low key s.words h.slot next x (let a = near in omega arith)

  -- the bit of the handle is as the seat's marks say
  its_fate : mark key s.words h ≡ fate_code (fate_now v.marked)
  its_fate = ⊎_elim (λ e. fits.clear h has (λ c. contains_none h (subst (λ l. Contains l h) e c)) ∙ ap (λ l. fate_code (fate_now l)) (sym e))
      (λ e. fits.marked h (subst (λ l. Contains l h) (sym e) (contains_here h [])) ∙ ap (λ l. fate_code (fate_now l)) (sym e)) marks

  leaves : (u : View) → Fits key s.words o.turns o.log u → ((x : Handle) → Contains u.rights x ⊎ Contains u.left x → x.slot ≢ h.slot) → Leaves key s.words ws' o.turns ts' o.log o.log u
  leaves u f apart = record {
    rises = rises;
    longer = λ p d. d;
    old = λ k x d e. d;
    still = λ x d. tt' x.slot (apart x d);
    hand = λ p d. link_there key s o h.slot next t' near p.0;
    caught = linked_low key s.words u.caught h.slot next near f.caught;
    bits = λ x d. low_bit x;
    stay = λ x d. low_bit x ∙ d;
    made = λ m x d. no_more x d;
    spare = λ m p d. let n = spare_apart u f m p d in (word_there key s o h.slot next t' near p.0 n, tt' p.0 n);
  }

  abbrev v₀ : View
  v₀ = record v { rights = rest }

  fits₀ : Fits key s.words o.turns o.log v₀
  fits₀ = whole v₀ (facts_fit fits) fits.saw (placings_fit fits) (fewer_rights rest (λ x d. subst (λ l. Contains l x) (sym rights) (contains_there h rest x d)) (rights_fit fits)) fits.hand (chase_fits fits) (making_fits fits)

  but_first_is : Rattle.shared_events.specs.Plays.but_first v.rights ≡ rest
  but_first_is = ap (λ l. Rattle.shared_events.specs.Plays.but_first l) rights

  -- the marks are of this handle alone
  own_mark : (x : Handle) → Contains rest x → Contains v.marked x → ⊥
  own_mark x r c = ⊎_elim (λ e. contains_none x (subst (λ l. Contains l x) e c)) (λ e. my_rest x r (ap (λ (y : Handle). y.slot) (sym (Contains-one h x (subst (λ l. Contains l x) e c))))) marks

  mine : Fits key ws' ts' o.log w
  mine = let f = steady key s.words ws' o.turns ts' o.log o.log v₀ fits₀ (leaves v₀ fits₀ (λ x d. ⊎_elim (λ y. my_rest x y) (λ y. left_apart key s o id id v v h x me me has y) d)) in
      let over : IsEnded ts' h = let a = th in omega arith in
      let known : (x : Handle) (y : Fate) → Contains (v.known ++ (h, fate_now v.marked) ∷ []) (x, y) → Contains v.seen x × IsEnded ts' x × (mark key ws' x ≡ fate_code y) = λ x y d. ⊎_elim (λ z. (f.all_seen.0 x y z, (f.known x y z).0, (f.known x y z).1))
      (λ (e : (h, fate_now v.marked) ≡ (x, y)). subst (λ (q : Handle × Fate). Contains v.seen q.0 × IsEnded ts' q.0 × (mark key ws' q.0 ≡ fate_code q.1)) e (fits.all_seen.3 h has, over, low_bit h ∙ its_fate)) (Contains-push_cases v.known (h, fate_now v.marked) (x, y) d) in
      let in_rest : (x : Handle) → Contains w.rights x → Contains rest x = λ x d. subst (λ l. Contains l x) but_first_is d in
      whole w (with_known (v.known ++ (h, fate_now v.marked) ∷ []) known (facts_fit f)) f.saw (placings_fit f)
      (record {
        seen = λ x d. f.all_seen.3 x (in_rest x d);
        pending = λ x d. f.rights x (in_rest x d);
        marked = λ x d. absurd (contains_none x d);
        clear = λ x d n. low_bit x ∙ fits₀.clear x (in_rest x d) (λ c. own_mark x (in_rest x d) c);
      })
      f.hand
      (record {
        caught = linked_low key s.words c h.slot next near (o.each_slot h.slot near).1;
        chased = λ x d. subst (λ y. IsEnded ts' y × ((k : ℕ) → Contains o.log (k, y) → Contains c k ⊎ Contains v.given (k, y))) (Contains-one h x d) (over, λ k y. inl ((o.stands k h y).1 is));
        chain = λ x k d z. subst (λ y. Contains o.log (k, y)) (Contains-one h x d) (o.stood k h is z);
      })
      (making_fits f)

  slots_ok : (j : ℕ) → j < key.slots → Shows key.last_gen (get_or ts' j 0) (get_or cs' j []) (get_or ws' j 0) × Linked key ws' (get_or cs' j [])
  slots_ok j l = dite (ℕ_discrete j h.slot)
      (λ e. subst (λ y. Shows key.last_gen (get_or ts' y 0) (get_or cs' y []) (get_or ws' y 0) × Linked key ws' (get_or cs' y [])) (sym e)
      (subst (λ y. Shows key.last_gen (get_or ts' h.slot 0) y (get_or ws' h.slot 0) × Linked key ws' y) (sym (chain_here key s o h.slot [] near)) (
        (let a = th in let b = word_here key s o h.slot next t' near in let f = sh.few in let z = is in let f₀ = follows.0 in let f₁ = follows.1 in record {
          few = omega arith;
          free = λ y n. omega arith;
          pending = λ y. absurd (omega arith);
          retired = λ y. omega arith;
          bare = λ _. refl;
        }),
        tt,
      )))
      (λ n. let z = o.each_slot j l in (
        subst (λ y. Shows key.last_gen (get_or ts' j 0) y (get_or ws' j 0)) (sym (chain_there key s o h.slot [] near j n))
            (subst (λ y. Shows key.last_gen (get_or ts' j 0) (get_or o.chains j []) y) (sym (word_there key s o h.slot next t' near j n)) (subst (λ y. Shows key.last_gen y (get_or o.chains j []) (get_or s.words j 0)) (sym (tt' j n)) z.0)),
        subst (λ y. Linked key ws' y) (sym (chain_there key s o h.slot [] near j n)) (linked_low key s.words (get_or o.chains j []) h.slot next near z.1),
      ))

  pub has_placed : HasPlaced v h c
  has_placed k d = (o.stands k h (fits.placed (k, h) d)).1 is

  pub is_once : IsOnce v c
  is_once x d f = subst (λ (y : Shape). total f c ≤ below f y.waiters) (sym (fits.keys x d)) (omega (arith, o.once f, entry_le (total f) o.chains h.slot [] (omega (arith, near, o.rows))))

  abbrev views' : List View
  views' = set s.views id w

  fewer : (j : ℕ) → total (rights_at j) views' + rights_at j v ≡ total (rights_at j) s.views + total (ends_at j) rest
  fewer j = omega (arith, total-set (rights_at j) s.views id v w me, ap (total (ends_at j)) but_first_is)

  still_none : (j : ℕ) → total (rights_at j) s.views ≡ 0 → total (rights_at j) views' ≡ 0
  still_none j z = omega (arith, fewer j, ap (total (ends_at j)) rights, term_le (rights_at j) s.views id v me)

  pub ends_rule : Orderly key (board ws' s.homes views')
  ends_rule = record {
    turns = ts';
    chains = cs';
    log = o.log;
    wide = length-set s.words h.slot next ∙ o.wide;
    high = length-set o.turns h.slot t' ∙ o.high;
    rows = length-set o.chains h.slot [] ∙ o.rows;
    small = o.small;
    clean = λ x a b n. low_bit x ∙ o.clean x a b (λ m. n (let c = rises x.slot in omega arith));
    each_slot = slots_ok;
    each_view = each_after key s o id w ws' ts' o.log mine
        (λ j u apart at. leaves u (o.each_view j u at) (λ x d. ⊎_elim (λ y. right_apart key s o id j v u h x apart me at has y) (λ y. left_apart key s o id j v u h x me at has y) d));
    once = λ f. omega (arith, o.once f, total-set (held f) s.views id v w me, total-put (total f) o.chains h.slot [] [] (omega (arith, near, o.rows)), ap (total f) no_chase);
    one_maker = omega (arith, o.one_maker, total-set maker s.views id v w me);
    one_right = λ j. omega (arith, o.one_right j, fewer j, ap (total (ends_at j)) rights);
    no_right = λ j u x e. set_cases (λ (y : View). Contains y.left x → total (rights_at x.slot) views' ≡ 0) s.views id w j u e
        (λ d. still_none x.slot (o.no_right id v x me d)) (λ _ at d. still_none x.slot (o.no_right j u x at d));
    stands = λ k x d. let z = o.stands k x d in (
      let a = z.0 in let b = rises x.slot in omega arith,
      λ p. dite (ℕ_discrete x.slot h.slot) (λ e. let a = turn_at key s o h.slot next t' near x.slot e in absurd (omega arith))
          (λ n. subst (λ l. Contains l k) (sym (chain_there key s o h.slot [] near x.slot n)) (z.1 (sym (tt' x.slot n) ∙ p))),
    );
    stood = λ k x p d. dite (ℕ_discrete x.slot h.slot) (λ e. let a = turn_at key s o h.slot next t' near x.slot e in absurd (omega arith))
        (λ n. o.stood k x (sym (tt' x.slot n) ∙ p) (subst (λ l. Contains l k) (chain_there key s o h.slot [] near x.slot n) d));
  }

pub ends : (key : Shape) (n id i next : ℕ) (m : Sat) (h : Handle) (rest : List Handle) → m.0.rights ≡ h ∷ rest → h.slot ≡ i → m.0.caught ≡ [] → (m.0.marked ≡ []) ⊎ (m.0.marked ≡ h ∷ []) → Follows key.last_gen h.gen_ next
    → Allows (Orderly key) n id m i (λ _. next) (ended m)
ends key n id i next m h rest rights at none-caught marks follows s o wide me _ = (
  ended_with m.0 h (get_or o.chains h.slot []),
  keeps,
  tt,
  subst (λ j. Orderly key (board (set s.words j next) s.homes (set s.views id (ended_with m.0 h (get_or o.chains h.slot []))))) at (ends_rule key s o id next m.0 h rest me rights none-caught marks follows),
  (
    h,
    rest,
    get_or o.chains h.slot [],
    rights,
    ap (λ j. get_or s.words j 0) (sym at) ∙ found_word key s o id next m.0 h rest me rights none-caught marks follows,
    refl,
    λ x d. subst (λ (y : Shape). code (get_or o.chains h.slot []) ≤ y.waiters) (sym ((o.each_view id m.0 me).keys x d)) (code_le key s.words (get_or o.chains h.slot []) (o.each_slot h.slot (near key s o id next m.0 h rest me rights none-caught marks follows)).1),
    has_placed key s o id next m.0 h rest me rights none-caught marks follows,
    is_once key s o id next m.0 h rest me rights none-caught marks follows,
  ),
)
