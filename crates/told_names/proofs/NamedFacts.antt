-- Lines that give names.
use Rattle.std.proofs.Common.{inl, inr, ◌≡◌, ℕ, zero, suc, map, ◌+◌, ◌-◌, ◌<◌, ◌≤◌, Bool, true, false, cond, ◌||◌, List, [], ◌∷◌, ◌++◌, length, take, drop, refl, sym, ◌∙◌, ap, subst, append_assoc, arith}
use Rattle.std.specs.Prelude.{Contains, Option, Some, None, IfSome}
use Rattle.std.specs.Borrow.{Bor}
use Rattle.std.specs.List.{slice_index_or, list_any}
use Rattle.std.specs.Str.{bytes_eq}
use Rattle.std.proofs.lemmas.Bool.{true≢false, cases_lt, cond-true, or_left, or_right}
use Rattle.std.proofs.lemmas.Option.{none-some, same_Some}
use Rattle.std.proofs.lemmas.List.{take_more, append-nil, length-drop, length-map, map-append, length-take, nil_from_length}
use Rattle.std.proofs.lemmas.List.Elements.{Contains-push_cases}
use Rattle.basics.specs.Words.{contents}
use Rattle.told_names.specs.Named.{IsNamedWord, IsInside, is_name_at, with_name, with_told, once_words, first_place, named_text, named_texts}
use Rattle.told_names.specs.declared.naming.NamedWord.{NamedWord}
use Rattle.explain_text.proofs.Public.{then_put}

giving_by : (n k m : ℕ) (b : Bool) (rest : Option ℕ) → cond b (Some n) rest ≡ Some k → n < m → (rest ≡ Some k → k < m) → k < m
giving_by n k m true rest e below later = subst (λ z. z < m) (same_Some n k e) below
giving_by n k m false rest e below later = later e

-- a line that was found is one of these
pub giving_below : (w : List ℕ) (n : ℕ) (ls : List (List ℕ)) (k : ℕ) → first_place w n ls ≡ Some k → k < n + length ls
giving_below w n [] k e = absurd (none-some k e)
giving_below w n (l ∷ ls) k e = giving_by n k (n + length (l ∷ ls)) (bytes_eq l w) (first_place w (n + 1) ls) e (omega arith) (λ r. (let b : k < n + 1 + length ls = giving_below w (n + 1) ls k r in omega arith))

some_below : (o : Option ℕ) (m : ℕ) → ((k : ℕ) → o ≡ Some k → k < m) → IfSome o (λ k. k < m)
some_below None m h = tt
some_below (Some k) m h = h k refl

pub given_inside : (w : List ℕ) (n m : ℕ) (ls : List (List ℕ)) (o : Option ℕ) → o ≡ first_place w n ls → n + length ls ≤ m → IfSome o (λ k. k < m)
given_inside w n m ls o is few = some_below o m (λ k e. (let b : k < n + length ls = giving_below w n ls k (sym is ∙ e) in omega arith))

-- words, one after the other
named_push : (ls : List (List ℕ)) (xs : List NamedWord) (x : NamedWord) → named_texts ls (xs ++ x ∷ []) ≡ named_texts ls xs ++ named_text ls x
named_push ls [] x = append-nil (named_text ls x)
named_push ls (y ∷ xs) x = ap (λ z. named_text ls y ++ z) (named_push ls xs x) ∙ sym (append_assoc (named_text ls y) (named_texts ls xs) (named_text ls x))

pub named_more : (ls : List (List ℕ)) (old mid new : List ℕ) (xs : List NamedWord) (k : ℕ) (x : NamedWord) → k < length xs → mid ≡ old ++ named_texts ls (take k xs) → new ≡ mid ++ named_text ls (slice_index_or xs k x) → new ≡ old ++ named_texts ls (take (k + 1) xs)
named_more ls old mid new xs k x below first second =
    then_put old mid new (named_texts ls (take k xs)) (named_text ls (slice_index_or xs k x)) first second
    ∙ ap (λ z. old ++ z) (sym (ap (named_texts ls) (take_more xs k x below) ∙ named_push ls (take k xs) (slice_index_or xs k x)))

-- as many lines at most
take_few : (n : ℕ) (ls : List (List ℕ)) → 0 + length (take n ls) ≤ length ls
take_few n ls = omega (arith, length-take n ls)

drop_few : (n : ℕ) (ls : List (List ℕ)) → n ≤ length ls → n + length (drop n ls) ≤ length ls
drop_few n ls within = omega (arith, length-drop n ls)

-- a line below is one of the text
below_inside : (w : List ℕ) (n : ℕ) (ls : List (List ℕ)) (o : Option ℕ) → o ≡ first_place w n (drop n ls) → IfSome o (λ k. k < length ls)
below_inside w n ls o is = elim (cases_lt (length ls) n) [
  | inl past ↦ (
      let none : drop n ls ≡ [] = nil_from_length (drop n ls) (let size : length (drop n ls) ≡ length ls - n = length-drop n ls in omega arith) in
      subst (λ z. IfSome z (λ k. k < length ls)) (sym (is ∙ ap (first_place w n) none)) tt)
  | inr within ↦ given_inside w n (length ls) (drop n ls) o is (drop_few n ls within)
]

-- the lines that give a name are some of the text
pub named_inside : (names : List (Bor (List ℕ))) (number : ℕ) (x : NamedWord) → IsNamedWord (contents names) number x → IsInside (length names) x
named_inside names number x named =
    let w = x.word.now in
    let ls = contents names in
    let size : length ls ≡ length names = length-map names (λ (r : Bor (List ℕ)). r.now) in
    record {
      above = given_inside w 0 (length names) (take (number - 1) ls) x.above named.above (subst (λ n. 0 + length (take (number - 1) ls) ≤ n) size (take_few (number - 1) ls));
      below = subst (λ n. IfSome x.below (λ k. k < n)) size (below_inside w number ls x.below named.below);
    }

-- one more word of a list
pub each_word : (P : NamedWord → Type 0) (xs ys : List NamedWord) (x : NamedWord) → ys ≡ xs ++ x ∷ [] → P x → ((y : NamedWord) → Contains xs y → P y) → (y : NamedWord) → Contains ys y → P y
each_word P xs ys x more here each y c = elim (Contains-push_cases xs x y (subst (λ zs. Contains zs y) more c)) [ inl b ↦ each y b | inr e ↦ subst P e here ]

-- one more name of a list of borrowed ones
any_now : (w : List ℕ) (ks : List (Bor (List ℕ))) → list_any (λ (k : Bor (List ℕ)). bytes_eq w k.now) ks ≡ list_any (bytes_eq w) (contents ks)
any_now w [] = refl
any_now w (k ∷ ks) = ap (λ b. bytes_eq w k.now || b) (any_now w ks)

kept_or_put : (b : Bool) (w : Bor (List ℕ)) (ks : List (Bor (List ℕ))) → contents (cond b ks (ks ++ w ∷ [])) ≡ cond b (contents ks) (contents ks ++ w.now ∷ [])
kept_or_put true w ks = refl
kept_or_put false w ks = map-append (λ (r : Bor (List ℕ)). r.now) ks (w ∷ [])

pub name_put : (w : Bor (List ℕ)) (ks : List (Bor (List ℕ))) → contents (cond (list_any (λ (k : Bor (List ℕ)). bytes_eq w.now k.now) ks) ks (ks ++ w ∷ [])) ≡ with_name (contents ks) w.now
name_put w ks = kept_or_put (list_any (λ (k : Bor (List ℕ)). bytes_eq w.now k.now) ks) w ks ∙ ap (λ b. cond b (contents ks) (contents ks ++ w.now ∷ [])) (any_now w.now ks)

-- the names that are told of one more word
pub once_push : (f : ℕ → Option (List ℕ)) (k : ℕ) (o : Option (List ℕ)) → o ≡ f k → once_words f (k + 1) ≡ with_told (once_words f k) o
once_push f k o is = (let one : k + 1 ≡ suc k = omega arith in ap (once_words f) one) ∙ ap (with_told (once_words f k)) (sym is)

-- the names of a line behind others
pub names_push : (done rest : List (List ℕ)) (all : List (List ℕ)) (x : List ℕ) → done ++ x ∷ rest ≡ all → (done ++ x ∷ []) ++ rest ≡ all
names_push done rest all x is = append_assoc done (x ∷ []) rest ∙ is

-- one more name of a list looked up
pub looked_more : (list : List (List ℕ)) (i : ℕ) (xs ys : List NamedWord) (x : NamedWord) → i < length list → ys ≡ xs ++ x ∷ [] → x.word.now ≡ slice_index_or list i [] → map (λ (y : NamedWord). y.word.now) xs ≡ take i list →
    map (λ (y : NamedWord). y.word.now) ys ≡ take (i + 1) list
looked_more list i xs ys x below more here before =
    ap (map (λ (y : NamedWord). y.word.now)) more ∙ (map-append (λ (y : NamedWord). y.word.now) xs (x ∷ [])
    ∙ (ap (λ z. z ++ x.word.now ∷ []) before ∙ (ap (λ w. take i list ++ w ∷ []) here ∙ sym (take_more list i [] below))))

-- a name that stands at a place is among the names, so it is not put again
stands_among : (w : List ℕ) (ws : List (List ℕ)) (k : ℕ) → is_name_at ws k w ≡ true → list_any (bytes_eq w) ws ≡ true
stands_among w [] k e = absurd (true≢false (sym e))
stands_among w (x ∷ xs) zero e = or_left (bytes_eq w x) (list_any (bytes_eq w) xs) e
stands_among w (x ∷ xs) (suc k) e = or_right (bytes_eq w x) (list_any (bytes_eq w) xs) (stands_among w xs k e)

pub name_is_kept : (ws : List (List ℕ)) (k : ℕ) (w : List ℕ) → is_name_at ws k w ≡ true → ws ≡ with_name ws w
name_is_kept ws k w e = sym (cond-true (list_any (bytes_eq w) ws) ws (ws ++ w ∷ []) (stands_among w ws k e))
