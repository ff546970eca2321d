-- Where a loop over bytes stops at the first byte that is sought, and what the pieces are there.
use Rattle.std.proofs.Common.{◌≡◌, ℕ, zero, suc, ◌+◌, ◌-◌, ◌<◌, ◌≤◌, true, false, List, [], ◌∷◌, length, take, drop, get_or, sym, ◌∙◌, ap, refl, Bool, cond, length-drop, take_all, arith, ◌++◌, Bor}
use Rattle.std.specs.Prelude.{◌==◌, Some, None, slice_set}
use Rattle.basics.specs.Words.{contents}
use Rattle.std.proofs.lemmas.List.{append_assoc, map-append, length-append, take_more_set, drop-drop, get_or-drop}
use Rattle.std.specs.List.{list_any, onto_first, position_or_len, after_first}
use Rattle.std.proofs.lemmas.Bool.{ne_eqb, eq-eqb, or_from, or_left, or_right, or_parts, cond-false}
use Rattle.std.proofs.lemmas.List.Sums.{position_or_len_is}
use Rattle.std.proofs.lemmas.List.Splits.{slice_split_first}
use Rattle.graph_words.specs.Words.{pieces, first_piece}
use Rattle.graph_words.specs.Cuts.{IsCut, two_pieces}
use Rattle.basics.proofs.TestedLists.{within, first_is}
use Rattle.graph_words.specs.Laws.{OnePiece, SomePiece, PiecesFromCut, CutAtFirst, NoByteCuts, OneWordMore, LastWord}

stop_in : (c : ℕ) (bs : List ℕ) (i : ℕ) → i < length bs → get_or bs i 0 ≡ c → list_any (λ b. b == c) bs ≡ true
stop_in c [] i l e = absurd (omega arith)
stop_in c (b ∷ bs) zero l e = or_left (b == c) (list_any (λ b. b == c) bs) (eq-eqb b c e)
stop_in c (b ∷ bs) (suc i) l e = or_right (b == c) (list_any (λ b. b == c) bs) (stop_in c bs i (omega arith) e)

pub no_stop : NoByteCuts
no_stop c [] h = refl
no_stop c (b ∷ bs) h = or_from (b == c) (list_any (λ b. b == c) bs) (ne_eqb b c (h 0 (omega arith))) (no_stop c bs (λ k l. h (suc k) (omega arith)))

pub cut_at : CutAtFirst
cut_at c bs i l h e =
    let at : position_or_len (λ b. b == c) bs ≡ i = position_or_len_is (λ b. b == c) bs i 0 (omega arith) (λ k m. ne_eqb (get_or bs k 0) c (h k m)) (λ m. eq-eqb (get_or bs i 0) c e) in record {
      there = stop_in c bs i l e;
      front_is = ap (λ n. take n bs) (sym at);
      back_is = take_all (length bs - (i + 1)) (drop (i + 1) bs) (let n : length (drop (i + 1) bs) ≡ length bs - (i + 1) = length-drop (i + 1) bs in omega arith) ∙ ap (λ n. drop (n + 1) bs) (sym at);
    }

-- the same of the bytes from a start on, and where none is left
behind_start : (c : ℕ) (bs : List ℕ) (start end : ℕ) → ((k : ℕ) → start ≤ k → k < end → get_or bs k 0 ≡ c → ⊥) → (k : ℕ) → start + k < end → get_or (drop start bs) k 0 ≡ c → ⊥
behind_start c bs start end h k l e = h (start + k) (omega arith) l (sym (get_or-drop start bs k 0) ∙ e)

pub cut_behind : (c : ℕ) (bs : List ℕ) (start end : ℕ) → start ≤ end → end < length bs → ((k : ℕ) → start ≤ k → k < end → get_or bs k 0 ≡ c → ⊥) → get_or bs end 0 ≡ c →
    IsCut c (drop start bs) (take (end - start) (drop start bs)) (drop (end + 1) bs)
cut_behind c bs start end begins l h e =
    let size = length-drop start bs in
    let at : start + (end - start) ≡ end = omega (arith, begins) in
    let cut = cut_at c (drop start bs) (end - start) (omega (arith, size, begins, l)) (λ k low. behind_start c bs start end h k (omega (arith, low, begins))) (get_or-drop start bs (end - start) 0 ∙ (ap (λ n. get_or bs n 0) at ∙ e)) in
    let far : start + (end - start + 1) ≡ end + 1 = omega (arith, begins) in
    let rest : drop (end - start + 1) (drop start bs) ≡ drop (end + 1) bs = drop-drop (end - start + 1) start bs ∙ ap (λ n. drop n bs) far in
    record {
      there = cut.there;
      front_is = cut.front_is;
      back_is = sym rest ∙ (sym (take_all (length (drop start bs) - (end - start + 1)) (drop (end - start + 1) (drop start bs)) (let n = length-drop (end - start + 1) (drop start bs) in omega (arith, n))) ∙ cut.back_is);
    }

pub none_behind : (c : ℕ) (bs : List ℕ) (start : ℕ) → ((k : ℕ) → start ≤ k → k < length bs → get_or bs k 0 ≡ c → ⊥) → list_any (λ b. b == c) (drop start bs) ≡ false
none_behind c bs start h = no_stop c (drop start bs) (λ k l. behind_start c bs start (length bs) h k (let n = length-drop start bs in omega (arith, l, n)))

-- without the byte, the bytes are the one piece
pub one_piece : OnePiece
one_piece c [] h = refl
one_piece c (b ∷ bs) h = let p = or_parts (b == c) (list_any (λ x. x == c) bs) h in
    cond-false (b == c) ([] ∷ pieces c bs) (onto_first b (pieces c bs)) p.0 ∙ ap (onto_first b) (one_piece c bs p.1)

-- and with it they are two or more
pub some_pieces : SomePiece
some_pieces c [] = ([], [], refl)
some_pieces c (b ∷ bs) = some_by c b bs (b == c) (some_pieces c bs)
  where
    some_by : (c b : ℕ) (bs : List ℕ) (t : Bool) → (p : List ℕ) × (ps : List (List ℕ)) × (pieces c bs ≡ p ∷ ps) → (p : List ℕ) × (ps : List (List ℕ)) × (cond t ([] ∷ pieces c bs) (onto_first b (pieces c bs)) ≡ p ∷ ps)
    some_by c b bs true r = ([], pieces c bs, refl)
    some_by c b bs false r = (b ∷ r.0, r.1, ap (onto_first b) r.2)

pub pieces_cut : PiecesFromCut
pieces_cut c bs front back h = let f = first_is (λ b. b == c) bs h.there in
    slice_split_first (λ b. b == c) bs 0 (within bs (position_or_len (λ b. b == c) bs) f.0 f.1)
    ∙ (ap (λ x. x ∷ pieces c (after_first (λ b. b == c) bs)) (sym h.front_is) ∙ ap (λ x. front ∷ pieces c x) (sym h.back_is))

pub before_dot_is : (c : ℕ) (bs front back : List ℕ) → IsCut c bs front back → first_piece (pieces c bs) ≡ front
before_dot_is c bs front back h = ap first_piece (pieces_cut c bs front back h)

pub no_dot_is : (c : ℕ) (bs : List ℕ) → list_any (λ b. b == c) bs ≡ false → first_piece (pieces c bs) ≡ bs
no_dot_is c bs h = ap first_piece (one_piece c bs h)

pub not_two : (c : ℕ) (bs : List ℕ) → list_any (λ b. b == c) bs ≡ false → two_pieces (pieces c bs) ≡ None
not_two c bs h = ap two_pieces (one_piece c bs h)

pub are_two : (c : ℕ) (bs front back : List ℕ) → IsCut c bs front back → list_any (λ b. b == c) back ≡ false → two_pieces (pieces c bs) ≡ Some (front, back)
are_two c bs front back h n = ap two_pieces (pieces_cut c bs front back h ∙ ap (λ x. front ∷ x) (one_piece c back n))

pub more_than_two : (c : ℕ) (bs front back one other : List ℕ) → IsCut c bs front back → IsCut c back one other → two_pieces (pieces c bs) ≡ None
more_than_two c bs front back one other h k = let s = some_pieces c other in
    ap two_pieces (pieces_cut c bs front back h ∙ ap (λ x. front ∷ x) (pieces_cut c back one other k ∙ ap (λ x. one ∷ x) s.2))

-- one word more is cut off
pub word_cut : OneWordMore
word_cut c ws more w rest back all e h k =
    ap (λ x. contents x ++ pieces c back) e
    ∙ (ap (λ x. x ++ pieces c back) (map-append (λ (x : Bor (List ℕ)). x.now) ws (w ∷ []))
    ∙ (append_assoc (contents ws) (w.now ∷ []) (pieces c back) ∙ (ap (λ x. contents ws ++ x) (sym (pieces_cut c rest w.now back h)) ∙ k)))

pub last_word : LastWord
last_word c ws more w all h k e =
    ap contents e ∙ (map-append (λ (x : Bor (List ℕ)). x.now) ws (w ∷ []) ∙ (ap (λ x. contents ws ++ x) (sym (one_piece c w.now h)) ∙ k))

-- the same of words one by one, put at their places
pub next_cut : (c : ℕ) (ws more : List (List ℕ)) (w rest back all : List ℕ) → more ≡ ws ++ w ∷ [] → IsCut c rest w back → ws ++ pieces c rest ≡ pieces c all → more ++ pieces c back ≡ pieces c all
next_cut c ws more w rest back all e h k = ap (λ x. x ++ pieces c back) e ∙ (append_assoc ws (w ∷ []) (pieces c back) ∙ (ap (λ x. ws ++ x) (sym (pieces_cut c rest w back h)) ∙ k))

pub last_cut : (c : ℕ) (ws more : List (List ℕ)) (w all : List ℕ) → list_any (λ b. b == c) w ≡ false → ws ++ pieces c w ≡ pieces c all → more ≡ ws ++ w ∷ [] → more ≡ pieces c all
last_cut c ws more w all h k e = e ∙ (ap (λ x. ws ++ x) (sym (one_piece c w h)) ∙ k)

-- a word put at a place that is there, and right behind the end
pub placed_within : (ws more : List (Bor (List ℕ))) (place : ℕ) (w : Bor (List ℕ)) → place < length ws → more ≡ slice_set ws place w → contents (take (place + 1) more) ≡ contents (take place ws) ++ w.now ∷ []
placed_within ws more place w l e = ap (λ xs. contents (take (place + 1) xs)) e ∙ (ap contents (take_more_set ws place w l) ∙ map-append (λ (x : Bor (List ℕ)). x.now) (take place ws) (w ∷ []))

pub placed_behind : (ws more : List (Bor (List ℕ))) (place : ℕ) (w : Bor (List ℕ)) → place ≡ length ws → more ≡ ws ++ w ∷ [] → contents (take (place + 1) more) ≡ contents (take place ws) ++ w.now ∷ []
placed_behind ws more place w l e =
    let whole : length (ws ++ w ∷ []) ≡ place + 1 = omega (arith, length-append ws (w ∷ []), l) in
    ap (λ xs. contents (take (place + 1) xs)) e
    ∙ (ap contents (take_all (place + 1) (ws ++ w ∷ []) (omega (arith, whole)))
    ∙ (map-append (λ (x : Bor (List ℕ)). x.now) ws (w ∷ []) ∙ ap (λ xs. contents xs ++ w.now ∷ []) (sym (take_all place ws (omega (arith, l))))))
