-- One more link at the end of the others.
use Rattle.std.proofs.Common.{◌≡◌, ◌⊎◌, ℕ, ◌+◌, ◌-◌, ◌<◌, ◌≤◌, inl, inr, List, [], ◌∷◌, ◌++◌, length, sym, ◌∙◌, ap, subst, arith}
use Rattle.std.specs.Prelude.{slice_index, slice_set}
use Rattle.std.proofs.lemmas.Bool.{cases_lt, cases_eq}
use Rattle.std.proofs.lemmas.List.{get_or_append_left, get_or_push, length_push, length-set, get_or-set_same, get_or-set_other}
use Rattle.task_window.specs.declared.links.Link.{Link}
use Rattle.task_window.specs.Chains.{no_link, link_at, IsLatest, AreChained}

pub kept_at : (links : List Link) (l : Link) (x : ℕ) → x < length links → link_at (links ++ l ∷ []) x ≡ link_at links x
kept_at links l x h = get_or_append_left links (l ∷ []) no_link x h

pub new_at : (links : List Link) (l : Link) (x : ℕ) → x ≡ length links → link_at (links ++ l ∷ []) x ≡ l
new_at links l x e = get_or_push links l no_link x (sym e)

pub place : (links : List Link) (l : Link) (x : ℕ) → x < length (links ++ l ∷ []) → (x < length links) ⊎ (x ≡ length links)
place links l x h =
    let s : length (links ++ l ∷ []) ≡ length links + 1 = length_push links l in
    elim (cases_lt x (length links)) [ inl a ↦ inl a | inr b ↦ inr (let e : x ≡ length links = omega arith in e) ]

latest_more : (links : List Link) (l : Link) (k n e : ℕ) → n ≤ length links → IsLatest links k n e → IsLatest (links ++ l ∷ []) k n e
latest_more links l k n e h i = record {
  within = i.within;
  is = λ p. (let w : e ≤ n = i.within in ap (λ (z : Link). z.key) (kept_at links l (e - 1) (omega arith)) ∙ i.is p);
  others = λ x a b s. i.others x a b (sym (ap (λ (z : Link). z.key) (kept_at links l x (omega arith))) ∙ s);
}

module _ (links : List Link) (earlier last : List ℕ) (a : AreChained links earlier last) (l : Link) (h : l.key < length last) where
  next : (k : ℕ) → k < length last → IsLatest (links ++ l ∷ []) k (length (links ++ l ∷ [])) (slice_index (slice_set last l.key (length links + 1)) k)
  next k b =
      let s : length (links ++ l ∷ []) ≡ length links + 1 = length_push links l in
      elim (cases_eq k l.key) [
        | inl e ↦ (
            let at : slice_index (slice_set last l.key (length links + 1)) k ≡ length links + 1 =
            ap (slice_index (slice_set last l.key (length links + 1))) e ∙ get_or-set_same last l.key (length links + 1) 0 h in
            subst (λ z. IsLatest (links ++ l ∷ []) k (length (links ++ l ∷ [])) z) (sym at) (record {
              within = (let w : length links + 1 ≤ length (links ++ l ∷ []) = omega arith in w);
              is = λ p. ap (λ (z : Link). z.key) (new_at links l (length links + 1 - 1) (let e1 : length links + 1 - 1 ≡ length links = omega arith in e1)) ∙ sym e;
              others = λ x lo hi z. absurd (omega arith);
            }))
        | inr ne ↦ (
            let at : slice_index (slice_set last l.key (length links + 1)) k ≡ slice_index last k = get_or-set_other last l.key k (length links + 1) 0 ne in
            let i : IsLatest (links ++ l ∷ []) k (length links) (slice_index last k) = latest_more links l k (length links) (slice_index last k) (omega arith) (a.ends k b) in
            subst (λ z. IsLatest (links ++ l ∷ []) k (length (links ++ l ∷ [])) z) (sym at) (record {
              within = (let w : slice_index last k ≤ length links = i.within in let v : slice_index last k ≤ length (links ++ l ∷ []) = omega arith in v);
              is = i.is;
              others = λ x lo hi z. elim (place links l x hi) [
                | inl old ↦ i.others x lo old z
                | inr new ↦ ne (sym (sym (ap (λ (y : Link). y.key) (new_at links l x new)) ∙ z))
              ];
            }))
      ]

  pub put_chained : (m e : ℕ) → m ≡ length links + 1 → e ≡ slice_index last l.key → length links + 1 < 4294967296 → AreChained (links ++ l ∷ []) (earlier ++ e ∷ []) (slice_set last l.key m)
  put_chained m e em ee few =
      let s : length (links ++ l ∷ []) ≡ length links + 1 = length_push links l in
      let t : length (earlier ++ e ∷ []) ≡ length earlier + 1 = length_push earlier e in
      let u : length earlier ≡ length links = a.size in
      let v : length (slice_set last l.key m) ≡ length last = length-set last l.key m in
      record {
        size = (let r : length (earlier ++ e ∷ []) ≡ length (links ++ l ∷ []) = omega arith in r);
        few = (let r : length (links ++ l ∷ []) < 4294967296 = omega arith in r);
        keys = λ x b. elim (place links l x b) [
          | inl old ↦ (let k : (link_at links x).key < length last = a.keys x old in subst (λ (z : Link). z.key < length (slice_set last l.key m)) (sym (kept_at links l x old)) (let r : (link_at links x).key < length (slice_set last l.key m) = omega arith in r))
          | inr new ↦ subst (λ (z : Link). z.key < length (slice_set last l.key m)) (sym (new_at links l x new)) (let r : l.key < length (slice_set last l.key m) = omega arith in r)
        ];
        before = λ x b. elim (place links l x b) [
          | inl old ↦ subst (λ (z : Link). IsLatest (links ++ l ∷ []) z.key x (slice_index (earlier ++ e ∷ []) x)) (sym (kept_at links l x old))
              (subst (λ y. IsLatest (links ++ l ∷ []) (link_at links x).key x y) (sym (get_or_append_left earlier (e ∷ []) 0 x (omega arith)))
              (latest_more links l (link_at links x).key x (slice_index earlier x) (omega arith) (a.before x old)))
          | inr new ↦ subst (λ (z : Link). IsLatest (links ++ l ∷ []) z.key x (slice_index (earlier ++ e ∷ []) x)) (sym (new_at links l x new))
              (subst (λ y. IsLatest (links ++ l ∷ []) l.key x y) (sym (get_or_push earlier e 0 x (let r : length earlier ≡ x = omega arith in r) ∙ ee))
              (subst (λ y. IsLatest (links ++ l ∷ []) l.key y (slice_index last l.key)) (sym new)
              (latest_more links l l.key (length links) (slice_index last l.key) (omega arith) (a.ends l.key h))))
        ];
        ends = λ k b. subst (λ z. IsLatest (links ++ l ∷ []) k (length (links ++ l ∷ [])) (slice_index (slice_set last l.key z) k)) (sym em) (next k (omega arith));
      }
