-- Words that spell intervals.
use Rattle.std.proofs.Common.{true, false, true≢false, eqb-true, ◌≡◌, ℕ, zero, suc, ◌+◌, ◌<◌, List, [], ◌∷◌, ◌++◌, length, take, get_or, refl, sym, ◌∙◌, ap, arith, Bor}
use Rattle.std.specs.Prelude.{Option, Some, None, IfSome, ◌==◌}
use Rattle.graph_words.specs.Words.{pieces, both_numbers, interval_of, with_interval, all_intervals, intervals_of, words_of}
use Rattle.basics.specs.Numbers.{number_up_to}
use Rattle.graph_words.specs.Cuts.{IsCut, two_pieces, behind_two, dotted}
use Rattle.std.proofs.lemmas.Option.{none-some, same_Some}
use Rattle.std.specs.List.{list_any}
use Rattle.graph_words.proofs.CutBytes.{one_piece, pieces_cut, some_pieces}
use Rattle.graph_words.proofs.NameLists.{word_more}

pub dots_behind : (w low rest : List ℕ) → IsCut 46 w low rest → dotted (pieces 46 w) ≡ behind_two low (two_pieces (pieces 46 rest))
dots_behind w low rest h = ap dotted (pieces_cut 46 w low rest h)

abbrev pub interval_from : Option (List ℕ × List ℕ) → Option (ℕ × ℕ)
interval_from None = None
interval_from (Some (low, high)) = both_numbers (number_up_to 4294967295 low) (number_up_to 4294967295 high)

pub interval_is : (ps : List (List ℕ)) → interval_of ps ≡ interval_from (dotted ps)
interval_is [] = refl
interval_is (a ∷ []) = refl
interval_is (a ∷ [] ∷ []) = refl
interval_is (a ∷ (b ∷ bs) ∷ []) = refl
interval_is (a ∷ [] ∷ c ∷ []) = refl
interval_is (a ∷ (b ∷ bs) ∷ c ∷ []) = refl
interval_is (a ∷ [] ∷ c ∷ d ∷ ds) = refl
interval_is (a ∷ (b ∷ bs) ∷ c ∷ d ∷ ds) = refl

pub behind_empty : (low b high : List ℕ) → (length b == 0) ≡ true → behind_two low (Some (b, high)) ≡ Some (low, high)
behind_empty low [] high h = refl
behind_empty low (x ∷ xs) high h = absurd (let e : length (x ∷ xs) ≡ 0 = eqb-true (length (x ∷ xs)) 0 h in omega arith)

pub behind_some : (low b high : List ℕ) → (length b == 0) ≡ false → behind_two low (Some (b, high)) ≡ None
behind_some low [] high h = absurd (true≢false h)
behind_some low (x ∷ xs) high h = refl

abbrev AreParts : Option (ℕ × ℕ) → Option (List (ℕ × ℕ)) → List (ℕ × ℕ) → Type 0
AreParts o r ps = (q : ℕ × ℕ) × (qs : List (ℕ × ℕ)) × (o ≡ Some q) × (r ≡ Some qs) × (ps ≡ q ∷ qs)

with_parts : (o : Option (ℕ × ℕ)) (r : Option (List (ℕ × ℕ))) (ps : List (ℕ × ℕ)) → with_interval o r ≡ Some ps → AreParts o r ps
with_parts None r ps h = absurd (none-some ps h)
with_parts (Some q) None ps h = absurd (none-some ps h)
with_parts (Some q) (Some qs) ps h = (q, qs, refl, refl, sym (same_Some (q ∷ qs) ps h))

all_append : (xs : List (List ℕ)) (y : List ℕ) (ps : List (ℕ × ℕ)) (p : ℕ × ℕ) → all_intervals xs ≡ Some ps → interval_of (pieces 46 y) ≡ Some p → all_intervals (xs ++ y ∷ []) ≡ Some (ps ++ p ∷ [])
all_append [] y ps p h e = ap (λ o. with_interval o (Some [])) e ∙ ap (λ x. Some (x ++ p ∷ [])) (same_Some [] ps h)
all_append (x ∷ xs) y ps p h e =
    let w = with_parts (interval_of (pieces 46 x)) (all_intervals xs) ps h in
    ap (λ o. with_interval o (all_intervals (xs ++ y ∷ []))) w.2 ∙ (ap (with_interval (Some w.0)) (all_append xs y w.1 p w.3 e) ∙ ap (λ z. Some (z ++ p ∷ [])) (sym w.4))

-- one interval more
pub all_more : (ws : List (Bor (List ℕ))) (i : ℕ) (d : Bor (List ℕ)) (ps : List (ℕ × ℕ)) (p : ℕ × ℕ) → i < length ws → all_intervals (take i (words_of ws)) ≡ Some ps → interval_of (pieces 46 (get_or ws i d).now) ≡ Some p →
    all_intervals (take (i + 1) (words_of ws)) ≡ Some (ps ++ p ∷ [])
all_more ws i d ps p l h e = ap all_intervals (word_more ws i d l) ∙ all_append (take i (words_of ws)) (get_or ws i d).now ps p h e

with_none : (o : Option (ℕ × ℕ)) → with_interval o None ≡ None
with_none None = refl
with_none (Some q) = refl

-- a word that is no interval
pub none_at : (ws : List (Bor (List ℕ))) (i : ℕ) (d : Bor (List ℕ)) → i < length ws → interval_of (pieces 46 (get_or ws i d).now) ≡ None → all_intervals (words_of ws) ≡ None
none_at [] i d l h = absurd (omega arith)
none_at (w ∷ ws) zero d l h = ap (λ o. with_interval o (all_intervals (words_of ws))) h
none_at (w ∷ ws) (suc i) d l h = ap (with_interval (interval_of (pieces 46 w.now))) (none_at ws i d (omega arith) h) ∙ with_none (interval_of (pieces 46 w.now))

-- a word without a comma spells one interval alone
pub one_alone : (w : List ℕ) (o : Option (ℕ × ℕ)) → o ≡ interval_of (pieces 46 w) → list_any (λ b. b == 44) w ≡ false → IfSome o (λ pair. intervals_of w ≡ Some (pair ∷ []))
one_alone w None e none = tt
one_alone w (Some pair) e none = ap all_intervals (one_piece 44 w none) ∙ ap (λ o. with_interval o (Some [])) (sym e)

-- a word spells one interval at least
pub some_interval : (w : List ℕ) → intervals_of w ≡ Some [] → ⊥
some_interval w h =
    let s = some_pieces 44 w in
    let p = with_parts (interval_of (pieces 46 s.0)) (all_intervals s.1) [] (ap all_intervals (sym s.2) ∙ h) in
    nil_cons p.0 p.1 p.4
  where
    nil_cons : (q : ℕ × ℕ) (qs : List (ℕ × ℕ)) → [] ≡ q ∷ qs → ⊥
    nil_cons q qs e = absurd (let n : 0 ≡ suc (length qs) = ap length e in omega arith)
