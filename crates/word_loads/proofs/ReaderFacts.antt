-- A line that only reads a column tries its shares.
use Rattle.std.proofs.Common.{◌≡◌, ℕ, suc, ◌<◌, ◌≤◌, ◌+◌, ◌-◌, inl, inr, cond, List, [], ◌∷◌, ◌++◌, sym, ◌∙◌, ap, subst, arith}
use Rattle.std.specs.Prelude.{Contains}
use Rattle.std.proofs.lemmas.Bool.{cases_eq, cases_lt, lt-ltb, le-ltb}
use Rattle.std.proofs.lemmas.List.Elements.{Contains-append_left, Contains-append_right}
use Rattle.basics.proofs.ListFacts.{contains_here}
use Rattle.graph_terms.specs.Graph.{GraphValue}
use Rattle.share_words.specs.Shares.{share_count}
use Rattle.word_loads.specs.declared.loads.Load.{Load}
use Rattle.word_steps.specs.Layout.{size_of, share_word}
use Rattle.word_steps.specs.Plays.{Sat}
use Rattle.word_steps.specs.Premises.{Has, MayTakeShare, ListsShare}
use Rattle.word_loads.specs.Laden.{FoundOther}
use Rattle.word_loads.specs.Gathering.{after, tried_share, FindsShare, MayGather, TakesSeen, TakesSome, FindsSeen}
use Rattle.word_loads.proofs.GatherFacts.{found_more}

-- WHICH SHARES. Those that are tried may be read
pub tried_in : (first i readers : ℕ) → first < readers → i < readers → (0 < tried_share first i readers) × (tried_share first i readers ≤ readers)
tried_in first i readers f h = elim (cases_lt readers (1 + first + i)) [
  | inl far ↦ (
      let is : tried_share first i readers ≡ 1 + first + i - readers = ap (λ b. cond b (1 + first + i - readers) (1 + first + i)) (lt-ltb readers (1 + first + i) far) in
      (omega (arith, is, far, f, h), omega (arith, is, far, f, h)))
  | inr near ↦ (
      let is : tried_share first i readers ≡ 1 + first + i = ap (λ b. cond b (1 + first + i - readers) (1 + first + i)) (le-ltb readers (1 + first + i) near) in
      (omega (arith, is, near), omega (arith, is, near)))
]

-- and all that may be read are tried
pub each_tried : (first readers j : ℕ) → first < readers → 0 < j → j ≤ readers → (i : ℕ) × (i < readers) × (tried_share first i readers ≡ j)
each_tried first readers j f up h = elim (cases_lt first j) [
  | inl over ↦ (
      let i : ℕ = j - 1 - first in
      let sum : 1 + first + i ≡ j = omega (arith, over, up) in
      (i, omega (arith, over, up, h), ap (λ b. cond b (1 + first + i - readers) (1 + first + i)) (le-ltb readers (1 + first + i) (omega (arith, sum, h))) ∙ sum))
  | inr under ↦ (
      let i : ℕ = j - 1 + (readers - first) in
      let sum : 1 + first + i ≡ j + readers = omega (arith, under, up, f) in
      (i, omega (arith, under, up, f), ap (λ b. cond b (1 + first + i - readers) (1 + first + i)) (lt-ltb readers (1 + first + i) (omega (arith, sum, up))) ∙ (let d : 1 + first + i - readers ≡ j = omega (arith, sum) in d)))
]

-- WHAT WAS FOUND. A line that has nothing of a column may take a share
pub may_number : (g : GraphValue) (line c j : ℕ) (m : Sat) → Has m.0 (MayGather g line c) → Has m.0 (λ cl. (cl.line ≡ line) × MayTakeShare g c j cl)
may_number g line c j m (cl, has, may) = (cl, has, (may.line_is, record { going = may.going; accessed = may.accessed; real = may.real; new = may.new; has_not = may.has_not }))

pub lists_none : (g : GraphValue) (line c j : ℕ) (m : Sat) → Has m.0 (MayGather g line c) → Has m.0 (λ cl. ListsShare cl.shares c j → ⊥)
lists_none g line c j m (cl, has, may) = (cl, has, λ l. may.none l.0 l.1 l.2)

-- still so after what it found
pub may_still : (g : GraphValue) (line c : ℕ) (m n : Sat) (found : List (ℕ × ℕ)) → n ≡ after found m → Has m.0 (MayGather g line c) → Has n.0 (MayGather g line c)
may_still g line c m n found q (cl, has, may) = (cl, ap (λ (y : Sat). y.0.claim) q ∙ has, may)

pub other_in : (line w : ℕ) (found then : List (ℕ × ℕ)) → ((x : ℕ × ℕ) → Contains found x → Contains then x) → FoundOther line w found → FoundOther line w then
other_in line w found then up f = (f.0, up (w, f.0) f.1, f.2, f.3)

module _ (g : GraphValue) (line c : ℕ) (m n o : Sat) (found : List (ℕ × ℕ)) (q : n ≡ after found m) where
  -- one more was found with another line
  module _ (j : ℕ) (f : FindsShare g line c j n o) where
    abbrev pub then : List (ℕ × ℕ)
    then = found ++ (share_word (size_of g) c j, f.0) ∷ []

    pub now_more : o ≡ after then m
    now_more = f.3 ∙ (ap (after ((share_word (size_of g) c j, f.0) ∷ [])) q ∙ found_more found ((share_word (size_of g) c j, f.0) ∷ []) m)

    pub other_here : FoundOther line (share_word (size_of g) c j) then
    other_here = (f.0, Contains-append_right found ((share_word (size_of g) c j, f.0) ∷ []) (share_word (size_of g) c j, f.0) (contains_here {X = ℕ × ℕ} (share_word (size_of g) c j, f.0) []), f.1, f.2)

    pub other_more : (first readers tried : ℕ) → j ≡ tried_share first tried readers → ((i : ℕ) → i < tried → FoundOther line (share_word (size_of g) c (tried_share first i readers)) found) → (i : ℕ) → i < suc tried → FoundOther line (share_word (size_of g) c (tried_share first i readers)) then
    other_more first readers tried is all i low = elim (cases_eq i tried) [
      | inl e ↦ subst (λ k. FoundOther line (share_word (size_of g) c k) then) (is ∙ ap (λ k. tried_share first k readers) (sym e)) other_here
      | inr ne ↦ other_in line (share_word (size_of g) c (tried_share first i readers)) found then (λ x h. Contains-append_left found ((share_word (size_of g) c j, f.0) ∷ []) x h) (all i (omega (arith, low, ne)))
    ]

  -- or taken
  pub takes_some : (k j : ℕ) (x y z : Load) → y ≡ x → 0 < j → j < share_count g c → TakesSeen g k c j n y o z → TakesSome g k c m x o z
  takes_some k j x y z same up few (s, in_it, number, now, gains, notes, back, shows) =
      subst (λ (u : Load). TakesSome g k c m u o z) same (
        found ++ (share_word (size_of g) c j, 0) ∷ [],
        s,
        in_it,
        subst (λ i. 0 < i) (sym number) up,
        subst (λ i. i < share_count g c) (sym number) few,
        subst (λ i. Contains {X = ℕ × ℕ} (found ++ (share_word (size_of g) c j, 0) ∷ []) (share_word (size_of g) c i, 0)) (sym number)
            (Contains-append_right found ((share_word (size_of g) c j, 0) ∷ []) (share_word (size_of g) c j, 0) (contains_here {X = ℕ × ℕ} (share_word (size_of g) c j, 0) [])),
        now ∙ (ap (λ (u : Sat). Rattle.word_loads.specs.Gathering.stacked g (s ∷ []) (after ((share_word (size_of g) c j, 0) ∷ []) u)) q ∙ ap (Rattle.word_loads.specs.Gathering.stacked g (s ∷ [])) (found_more found ((share_word (size_of g) c j, 0) ∷ []) m)),
        gains,
        subst (λ i. Rattle.word_loads.specs.Gathering.NotesNumber k i y z) (sym number) notes,
        back,
        shows,
      )

-- all that may be read were found with others
pub finds_seen : (g : GraphValue) (line c first readers : ℕ) (m n : Sat) (x y : Load) (found : List (ℕ × ℕ)) → share_count g c ≡ readers + 1 → first < readers → n ≡ after found m → y ≡ x
    → ((i : ℕ) → i < readers → FoundOther line (share_word (size_of g) c (tried_share first i readers)) found) → FindsSeen g line c m x n y
finds_seen g line c first readers m n x y found count f now same all = (
  found,
  (λ j up few. let t = each_tried first readers j f up (omega (arith, few, count)) in subst (λ i. FoundOther line (share_word (size_of g) c i) found) t.2 (all t.0 t.1)),
  now,
  same,
)
