-- How columns are found, added and let go of.
use Rattle.std.proofs.Common.{◌≡◌, ◌≢◌, ℕ, zero, suc, ◌+◌, ◌-◌, ◌<◌, ◌==◌, Bool, true, false, cond, List, [], ◌∷◌, ◌++◌, length, get_or, take, slice_get, Option, Some, None, IsSome, MatchOption, refl, sym, ap, ◌∙◌, arith}
use Rattle.std.specs.List.{remove}
use Rattle.std.proofs.lemmas.Bool.{false≢true, eq-eqb, ne_eqb, eqb-true, cond-true, cond-false}
use Rattle.std.proofs.lemmas.Option.{none-some, same_Some, slice_get-get_or}
use Rattle.std.proofs.lemmas.List.{drop_all, append-nil, length_push, get_or_default}
use Rattle.index_spaces.specs.Held.{HeldEntry, HeldList, held_at, lending_at, NumbersDiffer, entries, is_numbered, StandsAt, AllTaken, AreEntries, HoldsOtherwise}

-- an entry after the others
held_at-push_other : (es : HeldList) (e : HeldEntry) (k : ℕ) → k ≢ e.number → held_at (es ++ e ∷ []) k ≡ held_at es k
held_at-push_other [] e k n = cond-false (e.number == k) (Some e.column) None (ne_eqb e.number k (λ q. n (sym q)))
held_at-push_other (f ∷ es) e k n = ap (λ o. cond (f.number == k) (Some f.column) o) (held_at-push_other es e k n)

lending_at-push_other : (es : HeldList) (e : HeldEntry) (k : ℕ) → k ≢ e.number → lending_at (es ++ e ∷ []) k ≡ lending_at es k
lending_at-push_other [] e k n = cond-false (e.number == k) e.share None (ne_eqb e.number k (λ q. n (sym q)))
lending_at-push_other (f ∷ es) e k n = ap (λ o. cond (f.number == k) f.share o) (lending_at-push_other es e k n)

-- the first of the others has another number than one under which none is held
first_differs : (f : HeldEntry) (es : HeldList) (c : ℕ) → held_at (f ∷ es) c ≡ None → f.number ≢ c
first_differs f es c h q = none-some f.column (sym h ∙ cond-true (f.number == c) (Some f.column) (held_at es c) (eq-eqb f.number c q))

rest_none : (f : HeldEntry) (es : HeldList) (c : ℕ) → held_at (f ∷ es) c ≡ None → held_at es c ≡ None
rest_none f es c h = sym (cond-false (f.number == c) (Some f.column) (held_at es c) (ne_eqb f.number c (first_differs f es c h))) ∙ h

held_at-push : (es : HeldList) (e : HeldEntry) → held_at es e.number ≡ None → held_at (es ++ e ∷ []) e.number ≡ Some e.column
held_at-push [] e h = cond-true (e.number == e.number) (Some e.column) None (eq-eqb e.number e.number refl)
held_at-push (f ∷ es) e h =
    cond-false (f.number == e.number) (Some f.column) (held_at (es ++ e ∷ []) e.number) (ne_eqb f.number e.number (first_differs f es e.number h))
    ∙ held_at-push es e (rest_none f es e.number h)

lending_at-push : (es : HeldList) (e : HeldEntry) → held_at es e.number ≡ None → lending_at (es ++ e ∷ []) e.number ≡ e.share
lending_at-push [] e h = cond-true (e.number == e.number) e.share None (eq-eqb e.number e.number refl)
lending_at-push (f ∷ es) e h =
    cond-false (f.number == e.number) f.share (lending_at (es ++ e ∷ []) e.number) (ne_eqb f.number e.number (first_differs f es e.number h))
    ∙ lending_at-push es e (rest_none f es e.number h)

differ-push : (es : HeldList) (e : HeldEntry) → NumbersDiffer es → held_at es e.number ≡ None → NumbersDiffer (es ++ e ∷ [])
differ-push [] e d h = (refl, tt)
differ-push (f ∷ es) e d h =
    (held_at-push_other es e f.number (first_differs f es e.number h) ∙ d.0, differ-push es e d.1 (rest_none f es e.number h))

entries-push : (ps : List (Option HeldEntry)) (e : HeldEntry) → entries (ps ++ Some e ∷ []) ≡ entries ps ++ e ∷ []
entries-push [] e = refl
entries-push (None ∷ ps) e = entries-push ps e
entries-push (Some f ∷ ps) e = ap (λ es. f ∷ es) (entries-push ps e)

taken-push : (ps : List (Option HeldEntry)) (e : HeldEntry) → AllTaken ps → AllTaken (ps ++ Some e ∷ [])
taken-push [] e t = tt
taken-push (None ∷ ps) e t = absurd t
taken-push (Some f ∷ ps) e t = taken-push ps e t

pub entries_length : (ps : List (Option HeldEntry)) → AllTaken ps → length (entries ps) ≡ length ps
entries_length [] t = refl
entries_length (None ∷ ps) t = absurd t
entries_length (Some e ∷ ps) t = ap suc (entries_length ps t)

-- what a push of an entry leaves
pub record Pushed (ps qs : List (Option HeldEntry)) (e : HeldEntry) : Type 0 where
  pub still : AreEntries qs
  pub held : HoldsOtherwise (entries ps) (entries qs) e.number (Some e.column)
  pub lending : lending_at (entries qs) e.number ≡ e.share
  pub number : length (entries qs) ≡ length (entries ps) + 1

pub pushed_entry : (ps qs : List (Option HeldEntry)) (e : HeldEntry) → AreEntries ps → held_at (entries ps) e.number ≡ None → qs ≡ ps ++ Some e ∷ [] → Pushed ps qs e
pushed_entry ps qs e a h q =
    rw q (
    let same = entries-push ps e in
    let number = ap length same ∙ length_push (entries ps) e in
    record {
      still = record { taken = taken-push ps e a.taken; differ = rw same (differ-push (entries ps) e a.differ h) };
      held = record {
        here = ap (λ es. held_at es e.number) same ∙ held_at-push (entries ps) e h;
        others = λ k n. ap (λ es. held_at es k) same ∙ held_at-push_other (entries ps) e k n;
        lendings = λ k n. ap (λ es. lending_at es k) same ∙ lending_at-push_other (entries ps) e k n;
      };
      lending = ap (λ es. lending_at es e.number) same ∙ lending_at-push (entries ps) e h;
      number = number;
    })

-- what the removal of a place leaves
pub record Removed (ps qs : List (Option HeldEntry)) (x : Option HeldEntry) : Type 0 where
  pub entry : HeldEntry
  pub is_entry : x ≡ Some entry
  pub taken : AllTaken qs
  pub differ : NumbersDiffer (entries qs)
  pub here : held_at (entries ps) entry.number ≡ Some entry.column
  pub share : lending_at (entries ps) entry.number ≡ entry.share
  pub gone : held_at (entries qs) entry.number ≡ None
  pub others : (k : ℕ) → k ≢ entry.number → held_at (entries qs) k ≡ held_at (entries ps) k
  pub lendings : (k : ℕ) → k ≢ entry.number → lending_at (entries qs) k ≡ lending_at (entries ps) k
  pub number : length (entries qs) + 1 ≡ length (entries ps)

removed : (ps : List (Option HeldEntry)) (k : ℕ) (x : Option HeldEntry) → AllTaken ps → NumbersDiffer (entries ps) → k < length ps → x ≡ get_or ps k x → Removed ps (remove ps k) x
removed [] k x t d h e = absurd (omega arith)
removed (None ∷ ps) k x t d h e = absurd t
removed (Some f ∷ ps) zero x t d h e =
    record {
      entry = f;
      is_entry = e;
      taken = t;
      differ = d.1;
      here = cond-true (f.number == f.number) (Some f.column) (held_at (entries ps) f.number) (eq-eqb f.number f.number refl);
      share = cond-true (f.number == f.number) f.share (lending_at (entries ps) f.number) (eq-eqb f.number f.number refl);
      gone = d.0;
      others = λ k n. sym (cond-false (f.number == k) (Some f.column) (held_at (entries ps) k) (ne_eqb f.number k (λ q. n (sym q))));
      lendings = λ k n. sym (cond-false (f.number == k) f.share (lending_at (entries ps) k) (ne_eqb f.number k (λ q. n (sym q))));
      number = omega arith;
    }
removed (Some f ∷ ps) (suc k) x t d h e =
    let r = removed ps k x t d.1 (omega arith) e in
    let apart : f.number ≢ r.entry.number = λ q. none-some r.entry.column (sym d.0 ∙ ap (held_at (entries ps)) q ∙ r.here) in
    let no = ne_eqb f.number r.entry.number apart in
    record {
      entry = r.entry;
      is_entry = r.is_entry;
      taken = r.taken;
      differ = (r.others f.number apart ∙ d.0, r.differ);
      here = cond-false (f.number == r.entry.number) (Some f.column) (held_at (entries ps) r.entry.number) no ∙ r.here;
      share = cond-false (f.number == r.entry.number) f.share (lending_at (entries ps) r.entry.number) no ∙ r.share;
      gone = cond-false (f.number == r.entry.number) (Some f.column) (held_at (entries (remove ps k)) r.entry.number) no ∙ r.gone;
      others = λ j n. ap (λ o. cond (f.number == j) (Some f.column) o) (r.others j n);
      lendings = λ j n. ap (λ o. cond (f.number == j) f.share o) (r.lendings j n);
      number = omega (arith, r.number);
    }

-- what stands under a number is what is held under it
pub record HoldsThere (ps qs : List (Option HeldEntry)) (c : ℕ) (x : Option HeldEntry) : Type 0 where
  pub entry : HeldEntry
  pub is_entry : x ≡ Some entry
  pub here : held_at (entries ps) c ≡ Some entry.column
  pub share : lending_at (entries ps) c ≡ entry.share
  pub still : AreEntries qs
  pub held : HoldsOtherwise (entries ps) (entries qs) c None
  pub number : length (entries qs) + 1 ≡ length (entries ps)

pub stands_there : (ps : List (Option HeldEntry)) (c k : ℕ) (x : Option HeldEntry) → AreEntries ps → StandsAt ps c k → x ≡ get_or ps k x → HoldsThere ps (remove ps k) c x
stands_there ps c k x a at e =
    let r = removed ps k x a.taken a.differ at.0 e in
    let same : get_or ps k None ≡ Some r.entry = get_or_default ps k None x at.0 ∙ sym e ∙ r.is_entry in
    let number : r.entry.number ≡ c = eqb-true r.entry.number c (sym (ap (is_numbered c) same) ∙ at.1) in
    record {
      entry = r.entry;
      is_entry = r.is_entry;
      here = ap (held_at (entries ps)) (sym number) ∙ r.here;
      share = ap (lending_at (entries ps)) (sym number) ∙ r.share;
      still = record { taken = r.taken; differ = r.differ };
      held = record {
        here = ap (held_at (entries (remove ps k))) (sym number) ∙ r.gone;
        others = λ j n. r.others j (λ q. n (q ∙ number));
        lendings = λ j n. r.lendings j (λ q. n (q ∙ number));
      };
      number = r.number;
    }

-- the removal of the last place
pub popped : (ps qs : List (Option HeldEntry)) (x : Option HeldEntry) → AreEntries ps → Some x ≡ slice_get ps (length ps - 1) → 0 < length ps → qs ≡ take (length ps - 1) ps → Removed ps qs x
popped ps qs x a value some rest =
    let last = length ps - 1 in
    let at : x ≡ get_or ps last x = same_Some x (get_or ps last x) (value ∙ slice_get-get_or ps last x (omega arith)) in
    let all : remove ps last ≡ qs = ap (λ ys. take last ps ++ ys) (drop_all (suc last) ps (omega arith)) ∙ append-nil (take last ps) ∙ sym rest in
    rw (← all) (removed ps last x a.taken a.differ (omega arith) at)

-- what is held by a share is held
lent_is_held : (es : HeldList) (c : ℕ) → IsSome (lending_at es c) → IsSome (held_at es c)
lent_is_held [] c h = h
lent_is_held (e ∷ es) c h = by_number (e.number == c) h (lent_is_held es c)
  where
    by_number : (b : Bool) → IsSome (cond b e.share (lending_at es c)) → (IsSome (lending_at es c) → IsSome (held_at es c)) → IsSome (cond b (Some e.column) (held_at es c))
    by_number true lent rest = refl
    by_number false lent rest = rest lent

-- so it is found
pub share_is_found : (ps : List (Option HeldEntry)) (c : ℕ) (o : Option ℕ) → MatchOption o (held_at (entries ps) c ≡ None) (StandsAt ps c) → IsSome (lending_at (entries ps) c) → IsSome o
share_is_found ps c None none lent = absurd (false≢true (rw none at (lent_is_held (entries ps) c lent)))
share_is_found ps c (Some k) at lent = refl

-- no place has the number, and none is held under it
pub none_numbered : (ps : List (Option HeldEntry)) (c : ℕ) → ((j : ℕ) → j < length ps → is_numbered c (get_or ps j None) ≡ false) → held_at (entries ps) c ≡ None
none_numbered [] c h = refl
none_numbered (None ∷ ps) c h = none_numbered ps c (λ j l. h (suc j) (omega arith))
none_numbered (Some e ∷ ps) c h =
    cond-false (e.number == c) (Some e.column) (held_at (entries ps) c) (h 0 (omega arith)) ∙ none_numbered ps c (λ j l. h (suc j) (omega arith))
