-- The step that marks a handle as poisoned, before it ends.
use Rattle.std.proofs.Common.{◌≡◌, ℕ, ◌+◌, ◌*◌, ◌/◌, ◌%◌, ◌<◌, ◌≤◌, List, [], ◌∷◌, ◌++◌, length, get_or, set, sym, refl, ap, ◌∙◌, subst, ⊎_elim, arith, length-set, get_or-set_other, bit_or, ◌^◌, ◌-◌, ◌≢◌, get_or-set_same}
use Rattle.std.specs.Prelude.{Contains}
use mathlib.Core.Logic.{dite}
use mathlib.Core.Option.{some}
use native.Mathlib.Decide.{ℕ_discrete}
use lib.ListN.{get_elem?}
use Rattle.atomic_table.specs.Table.{keeps, Allows}
use Rattle.event_table.specs.declared.handle.Handle.{Handle}
use Rattle.event_table.specs.declared.handle.Shape.{Shape}
use Rattle.shared_events.specs.declared.view.View.{View}
use Rattle.event_table.specs.Words.{place_of, mark_word, mark, IsMade, IsPending, IsEnded, Linked}
use Rattle.shared_events.specs.Rule.{Fits, Orderly}
use Rattle.std.specs.Int.{bit_at}
use Rattle.shared_events.specs.Plays.{Sat, first_of, marked_at, marks}
use Rattle.basics.proofs.ListFacts.{contains_here, contains_there, contains_cases, contains_none}
use Rattle.shared_events.proofs.Frames.{Leaves, steady}
use Rattle.event_table.proofs.Public.{places_apart, word_in}
use Rattle.shared_events.proofs.Apart.{St, same_handle, right_apart}
use Rattle.shared_events.proofs.Parts.{whole, facts_fit, placings_fit, rights_fit, chase_fits, making_fits, fewer_rights}
use Rattle.shared_events.proofs.Steps.{board, made_in, made_low, each_after, writes}
use Rattle.std.proofs.lemmas.Nat.Bits.{bit_at_set_same, bit_at_set_other}
use mir.Syntax.{w64}

pub mark_here : (key : Shape) (ws : List ℕ) (h : Handle) → mark_word key h < length ws → mark key (set ws (mark_word key h) (bit_or (get_or ws (mark_word key h) 0) (1 * 2 ^ (place_of key.last_gen h % 64) % 2 ^ 64))) h ≡ 1
mark_here key ws h l = let k : ℕ = place_of key.last_gen h % 64 in
    ap (λ w. bit_at w k) (get_or-set_same ws (mark_word key h) (bit_or (get_or ws (mark_word key h) 0) (1 * 2 ^ k % 2 ^ 64)) 0 l) ∙ bit_at_set_same w64 (get_or ws (mark_word key h) 0) k (omega arith)

pub mark_there : (key : Shape) (ws : List ℕ) (h x : Handle) → mark_word key h < length ws → place_of key.last_gen x ≢ place_of key.last_gen h
    → mark key (set ws (mark_word key h) (bit_or (get_or ws (mark_word key h) 0) (1 * 2 ^ (place_of key.last_gen h % 64) % 2 ^ 64))) x ≡ mark key ws x
mark_there key ws h x l n =
    let k : ℕ = place_of key.last_gen h % 64 in
    let j : ℕ = place_of key.last_gen x % 64 in
    let v : ℕ = bit_or (get_or ws (mark_word key h) 0) (1 * 2 ^ k % 2 ^ 64) in
    dite (ℕ_discrete (mark_word key x) (mark_word key h))
    (λ e. ap (λ w. bit_at w j) (ap (λ i. get_or (set ws (mark_word key h) v) i 0) e ∙ get_or-set_same ws (mark_word key h) v 0 l) ∙ (bit_at_set_other w64 (get_or ws (mark_word key h) 0) k (omega arith) j (λ z. n (omega arith)) ∙ ap (λ i. bit_at (get_or ws i 0) j) (sym e)))
    (λ e. ap (λ w. bit_at w j) (get_or-set_other ws (mark_word key h) (mark_word key x) v 0 e))

linked_high : (key : Shape) (ws c : List ℕ) (i x : ℕ) → key.slots + key.waiters ≤ i → Linked key ws c → Linked key (set ws i x) c
linked_high key ws [] i x far l = tt
linked_high key ws (k ∷ ks) i x far l = let a = l.0 in (l.0, get_or-set_other ws i (key.slots + k) x 0 (λ e. omega arith) ∙ l.1, linked_high key ws ks i x far l.2)

module _ (key : Shape) (s : St) (o : Orderly key s) (id : ℕ) (v : View) (h : Handle) (rest : List Handle) (me : get_elem? s.views id ≡ some v) (rights : v.rights ≡ h ∷ rest) where
  fits : Fits key s.words o.turns o.log v
  fits = o.each_view id v me

  has : Contains v.rights h
  has = subst (λ l. Contains l h) (sym rights) (contains_here h rest)

  pending : IsPending o.turns h
  pending = fits.rights h has

  made : IsMade o.turns h
  made = let a = pending in omega arith

  near : h.slot < key.slots
  near = made_in key s o h made

  low : h.gen_ ≤ key.last_gen
  low = made_low key s o h made

  abbrev w : ℕ
  w = mark_word key h

  abbrev x' : ℕ
  x' = bit_or (get_or s.words w 0) (1 * 2 ^ (place_of key.last_gen h % 64) % 2 ^ 64)

  abbrev ws' : List ℕ
  ws' = set s.words w x'

  abbrev u' : View
  u' = marked_at v

  inside : w < length s.words
  inside = let a = word_in key h near low in let b = o.wide in omega arith

  here : mark key ws' h ≡ 1
  here = mark_here key s.words h inside

  -- another handle of the table keeps its bit
  there : (x : Handle) → IsMade o.turns x → (x ≡ h → ⊥) → mark key ws' x ≡ mark key s.words x
  there x m n = mark_there key s.words h x inside (λ e. let q = places_apart key.last_gen x h (made_low key s o x m) low e in n (same_handle x h.slot h.gen_ q.0 q.1))

  over : (x : Handle) → IsEnded o.turns x → x ≡ h → ⊥
  over x a e = let b = subst (IsEnded o.turns) e a in let c = pending in omega arith

  stays : (x : Handle) → mark key s.words x ≡ 1 → mark key ws' x ≡ 1
  stays x d = dite (ℕ_discrete (place_of key.last_gen x) (place_of key.last_gen h))
      (λ e. ap (λ p. bit_at (get_or ws' (key.slots + key.waiters + p / 64) 0) (p % 64)) e ∙ here) (λ n. mark_there key s.words h x inside n ∙ d)

  word_low : (i : ℕ) → i < key.slots + key.waiters → get_or ws' i 0 ≡ get_or s.words i 0
  word_low i l = get_or-set_other s.words w i x' 0 (λ e. omega arith)

  leaves : (u : View) → Fits key s.words o.turns o.log u → ((x : Handle) → Contains u.rights x → x ≡ h → ⊥) → Leaves key s.words ws' o.turns o.turns o.log o.log u
  leaves u f apart = record {
    rises = λ i. omega arith;
    longer = λ p d. d;
    old = λ y z d e. d;
    still = λ y d. refl;
    bits = λ x d. ⊎_elim (λ a. there x (omega arith) (over x a)) (λ c. let p = f.rights x c in there x (omega arith) (apart x c)) d;
    stay = stays;
    hand = λ p d. let l = (f.hand p d).0 in word_low (key.slots + p.0) (omega arith);
    caught = linked_high key s.words u.caught w x' (omega arith) f.caught;
    made = λ m y d. d;
    spare = λ m p d. let z = (f.spare m p d).0 in (word_low p.0 (omega arith), refl);
  }

  mine : Fits key ws' o.turns o.log u'
  mine =
      let firsts : first_of v.rights ≡ h ∷ [] = ap (λ (l : List Handle). first_of l) rights in
      let all : u'.marked ≡ h ∷ v.marked = λ t. firsts t ++ v.marked in
      let v₀ : View = record v { rights = [] } in
      let f₀ : Fits key s.words o.turns o.log v₀ = whole v₀ (facts_fit fits) fits.saw (placings_fit fits) (fewer_rights [] (λ x c. absurd (contains_none x c)) (rights_fit fits)) fits.hand (chase_fits fits) (making_fits fits) in
      let f = steady key s.words ws' o.turns o.turns o.log o.log v₀ f₀ (leaves v₀ f₀ (λ x c. absurd (contains_none x c))) in
      whole u' (facts_fit f) f.saw (placings_fit f)
      (record {
        seen = fits.all_seen.3;
        pending = fits.rights;
        marked = λ x c. ⊎_elim (λ (e : h ≡ x). subst (λ y. mark key ws' y ≡ 1) e here) (λ d. stays x (fits.marked x d)) (contains_cases h v.marked x (subst (λ z. Contains z x) all c));
        clear = λ x c n. let p = fits.rights x c in let apart : x ≡ h → ⊥ = λ e. n (subst (λ z. Contains z x) (sym all) (subst (Contains (h ∷ v.marked)) (sym e) (contains_here h v.marked))) in
            there x (omega arith) apart ∙ fits.clear x c (λ d. n (subst (λ z. Contains z x) (sym all) (contains_there h v.marked x d)));
      })
      f.hand (chase_fits f) (making_fits f)

  pub marks_rule : Orderly key (board ws' s.homes (set s.views id u'))
  marks_rule = writes key s o id v u' me refl refl ws' (length-set s.words w x')
      (λ x a b n. mark_there key s.words h x inside (λ e. let q = places_apart key.last_gen x h b low e in n (subst (IsMade o.turns) (sym (same_handle x h.slot h.gen_ q.0 q.1)) made)))
      (λ i l. (word_low i (omega arith), linked_high key s.words (get_or o.chains i []) w x' (omega arith) (o.each_slot i l).1))
      (each_after key s o id u' ws' o.turns o.log mine (λ j u apart at. leaves u (o.each_view j u at) (λ x c e. right_apart key s o id j v u h x apart me at has c (ap (λ (y : Handle). y.slot) e))))
      (λ f. refl) refl

pub sets : (key : Shape) (n id w k : ℕ) (m : Sat) (h : Handle) (rest : List Handle) → m.0.rights ≡ h ∷ rest → w ≡ mark_word key h → k ≡ 1 * 2 ^ (place_of key.last_gen h % 64) % 2 ^ 64 → Allows (Orderly key) n id m w (λ y. bit_or y k) (λ _. marks m)
sets key n id w k m h rest rights at bit s o wide me _ = (
  marked_at m.0,
  keeps,
  tt,
  subst (λ i. Orderly key (board (set s.words i (bit_or (get_or s.words i 0) k)) s.homes (set s.views id (marked_at m.0)))) (sym at)
      (subst (λ z. Orderly key (board (set s.words (mark_word key h) (bit_or (get_or s.words (mark_word key h) 0) z)) s.homes (set s.views id (marked_at m.0)))) (sym bit) (marks_rule key s o id m.0 h rest me rights)),
  refl,
)
