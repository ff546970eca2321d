-- What it changes that one pass comes back to the owner of its deque.
use Rattle.std.proofs.Common.{◌≡◌, ◌≢◌, ℕ, ◌+◌, ◌<◌, ◌≤◌, All, List, [], ◌∷◌, ◌++◌, length, get_or, set, sym, refl, ap, ◌∙◌, subst, arith, length-set, length-append, get_or-set_same, get_or-set_other}
use Rattle.std.proofs.lemmas.List.{get_or_default, get_or_append_left}
use Rattle.std.proofs.lemmas.List.Elements.{All-set}
use Rattle.std.proofs.Math.Seq.{get_or-append_seam}
use mathlib.Core.Logic.{dite}
use native.Mathlib.Decide.{ℕ_discrete}
use Rattle.crossbeam_deque.specs.Handles.{worker_deque, worker_view, view, SameWorker}
use Rattle.basics.specs.Sums.{total}
use Rattle.home_queues.specs.DequeRule.{joined}
use Rattle.home_queues.specs.Parts.{Owner, deque_of, stolen, IsStealRight}
use Rattle.home_queues.specs.Closing.{IsOwner, Meets, Gained, put_by, taken_by}
use Rattle.home_queues.specs.declared.deque_view.DequeView.{DequeView}
use Rattle.home_queues.specs.declared.deque.StealRight.{StealRight}
use Rattle.basics.proofs.Sums.{total-append, total-put}

-- the owners `owners` after some of the row came back, of which `row` is left
pub record Gathering (n : ℕ) (olds owners : List Owner) (whole row : List StealRight) : Type 0 where
  pub owned : All (IsOwner n) owners
  pub right : All (IsStealRight n) row
  pub meets : Meets row owners
  pub within : length row ≤ length owners
  pub gained : Gained (length row) olds owners
  pub put : (h : ℕ → ℕ) → total (put_by h) owners ≡ total (put_by h) olds
  pub taken : (h : ℕ → ℕ) → total (taken_by h) owners + total (stolen h) row ≡ total (taken_by h) olds + total (stolen h) whole

pub starts : (n : ℕ) (owners : List Owner) (row : List StealRight) → All (IsOwner n) owners → All (IsStealRight n) row → Meets row owners → length row ≡ length owners → Gathering n owners owners row row
starts n owners row all right meets same = record {
  owned = all;
  right = right;
  meets = meets;
  within = omega arith;
  gained = (refl, λ k w lt. record { deque = refl; before = λ _. refl; from = λ le. absurd (omega arith) });
  put = λ h. refl;
  taken = λ h. refl;
}

owner_joined : (n : ℕ) (w v : Owner) (r : StealRight) → IsOwner n w → IsStealRight n r → worker_view v ≡ joined (worker_view w) (view r.pass) → SameWorker w v → IsOwner n v
owner_joined n w v r o h is same = record {
  flavor = same.1 ∙ o.flavor;
  lines = ap (λ (u : DequeView). u.lines) is ∙ o.lines;
  some_share = let e : (worker_view v).shares ≡ (worker_view w).shares + (view r.pass).shares = ap (λ (u : DequeView). u.shares) is in let a = o.some_share in omega arith;
  most =
      let e : length (worker_view v).put ≡ length ((worker_view w).put ++ (view r.pass).put) = ap (λ (u : DequeView). length u.put) is in
      let p : length (view r.pass).put ≡ 0 = ap length h.put in
      let a = o.most in omega (arith, length-append (worker_view w).put (view r.pass).put);
}

pub gathers : (n : ℕ) (olds owners : List Owner) (whole row rest : List StealRight) (r : StealRight) (w v : Owner) (j : ℕ) → Gathering n olds owners whole row
    → row ≡ rest ++ r ∷ [] → j ≡ length rest → w ≡ get_or owners j w → SameWorker w v → worker_view v ≡ joined (worker_view w) (view r.pass)
    → Gathering n olds (set owners j v) whole rest
gathers n olds owners whole row rest r w v j g split at here same is =
    let more : length row ≡ length rest + 1 = ap length split ∙ length-append rest (r ∷ []) in
    let lt : j < length owners = let a = g.within in omega arith in
    let last : (d : StealRight) → get_or row j d ≡ r = λ d. ap (λ (l : List StealRight). get_or l j d) split ∙ ap (λ (k : ℕ). get_or (rest ++ r ∷ []) k d) at ∙ get_or-append_seam rest r [] d in
    let front : (k : ℕ) (d : StealRight) → k < length rest → get_or row k d ≡ get_or rest k d = λ k d lt'. ap (λ (l : List StealRight). get_or l k d) split ∙ get_or_append_left rest (r ∷ []) d k lt' in
    let mine : IsStealRight n r = subst (IsStealRight n) (last r) (g.right j r (omega arith)) in
    let own : IsOwner n w = subst (IsOwner n) (sym here) (g.owned j w lt) in
    let shares : (worker_view v).shares ≡ (worker_view w).shares + 1 = let e : (worker_view v).shares ≡ (worker_view w).shares + (view r.pass).shares = ap (λ (u : DequeView). u.shares) is in let a = mine.share in omega arith in
    record {
      owned = All-set (IsOwner n) owners j v (owner_joined n w v r own mine is same) g.owned;
      right = λ k d lt'. subst (IsStealRight n) (front k d lt') (g.right k d (omega arith));
      meets = λ k d u lt'. ap deque_of (sym (front k d lt')) ∙ g.meets k d u (omega arith) ∙ ap (λ (y : Owner). worker_deque y) (sym (get_or-set_other owners j k v u (λ e. omega arith)));
      within = let a = g.within in omega (arith, length-set {A = Owner});
      gained = (
        omega (arith, length-set {A = Owner}, g.gained.0),
        λ k u lt'. let old = g.gained.1 k u lt' in dite (ℕ_discrete k j)
            (λ (e : k ≡ j).
            let now : get_or (set owners j v) k u ≡ v = ap (λ (i : ℕ). get_or (set owners j v) i u) e ∙ get_or-set_same owners j v u lt in
            let was : get_or owners k u ≡ w = ap (λ (i : ℕ). get_or owners i u) e ∙ (get_or_default owners j u w lt ∙ sym here) in
            record {
              deque = ap (λ (y : Owner). worker_deque y) now ∙ same.0 ∙ ap (λ (y : Owner). worker_deque y) (sym was) ∙ old.deque;
              before = λ below. absurd (omega arith);
              from = λ _. ap (λ (y : Owner). (worker_view y).shares) now ∙ (shares ∙ ap (λ (m : ℕ). m + 1) (ap (λ (y : Owner). (worker_view y).shares) (sym was) ∙ old.before (omega arith)));
            })
            (λ (ne : k ≢ j).
            let now : get_or (set owners j v) k u ≡ get_or owners k u = get_or-set_other owners j k v u ne in
            record {
              deque = ap (λ (y : Owner). worker_deque y) now ∙ old.deque;
              before = λ below. ap (λ (y : Owner). (worker_view y).shares) now ∙ old.before (omega arith);
              from = λ above. ap (λ (y : Owner). (worker_view y).shares) now ∙ old.from (let n' : k ≡ j → ⊥ = ne in omega arith);
            }),
      );
      put = λ h.
          let a = total-put (put_by h) owners j v w lt in
          let b : put_by h (get_or owners j w) ≡ put_by h w = ap (put_by h) (sym here) in
          let c : put_by h v ≡ total h ((worker_view w).put ++ (view r.pass).put) = ap (λ (u : DequeView). total h u.put) is in
          let d : total h ((worker_view w).put ++ (view r.pass).put) ≡ total h (worker_view w).put + total h (view r.pass).put = total-append h (worker_view w).put (view r.pass).put in
          let e : total h (view r.pass).put ≡ 0 = ap (total h) mine.put in
          let f = g.put h in omega arith;
      taken = λ h.
          let a = total-put (taken_by h) owners j v w lt in
          let b : taken_by h (get_or owners j w) ≡ taken_by h w = ap (taken_by h) (sym here) in
          let c : taken_by h v ≡ total h ((worker_view w).taken ++ (view r.pass).taken) = ap (λ (u : DequeView). total h u.taken) is in
          let d : total h ((worker_view w).taken ++ (view r.pass).taken) ≡ total h (worker_view w).taken + total h (view r.pass).taken = total-append h (worker_view w).taken (view r.pass).taken in
          let e : total (stolen h) row ≡ total (stolen h) (rest ++ r ∷ []) = ap (total (stolen h)) split in
          let i = total-append (stolen h) rest (r ∷ []) in
          let f = g.taken h in omega arith;
    }
