-- Words of a line along those of a form.
use Rattle.std.proofs.Common.{◌≡◌, ℕ, suc, ◌+◌, ◌<◌, ◌≤◌, List, [], ◌∷◌, length, get_or, drop, ◌∙◌, ap, subst, arith, refl, length-drop}
use Rattle.std.specs.Prelude.{Bool, true, false, cond, nat_lt, nat_le, Option, Some, None, ◌==◌}
use Rattle.std.specs.Borrow.{Bor}
use Rattle.std.proofs.lemmas.List.{length-map}
use Rattle.basics.specs.Words.{contents}
use Rattle.graph_words.specs.Words.{pieces}
use Rattle.line_forms.specs.declared.form.Form.{Form}
use Rattle.line_forms.specs.Blanks.{is_empty}
use Rattle.std.proofs.lemmas.Bool.{ne_eqb, ltb-false, leb-true}
use Rattle.std.proofs.lemmas.List.{nil_from_length}
use Rattle.std.proofs.Math.Seq.{drop-cons}
use Rattle.line_forms.specs.Forms.{form_text, fits, follow, follow_on, followed}
use Rattle.line_forms.specs.Calls.{expected_next, follow_call}
use Rattle.line_forms.specs.declared.calls.Expected.{Expected}
use Rattle.line_forms.specs.declared.calls.Expected.TheVariants.{Value}
use Rattle.line_forms.specs.declared.form.Form.TheVariants as forms
use Rattle.std.specs.Option.{option_map_or}

not_below : (a b : ℕ) → nat_lt a b ≡ false → b ≤ a
not_below a b h = ltb-false a b h

past : (xs : List (List ℕ)) (i : ℕ) → length xs ≤ i → drop i xs ≡ []
past xs i h = nil_from_length (drop i xs) (omega (arith, length-drop i xs))

-- where both have a word, the fit of these decides
at_both : (is ws : List (List ℕ)) (i : ℕ) → i < length is → i < length ws →
    follow (drop i is) (drop i ws) ≡ cond (fits (get_or is i []) (get_or ws i [])) (1 + follow (drop (suc i) is) (drop (suc i) ws)) 0
at_both is ws i bi bw = ap (λ z. follow z (drop i ws)) (drop-cons is i [] bi) ∙ ap (λ z. follow (get_or is i [] ∷ drop (suc i) is) z) (drop-cons ws i [] bw)

-- one more word fits
pub follow_more : (is ws : List (List ℕ)) (i total : ℕ) → i < length is → i < length ws → fits (get_or is i []) (get_or ws i []) ≡ true → total ≡ i + follow (drop i is) (drop i ws) →
    total ≡ (i + 1) + follow (drop (i + 1) is) (drop (i + 1) ws)
follow_more is ws i total bi bw e before =
    let s : suc i ≡ i + 1 = omega arith in
    let r : follow (drop i is) (drop i ws) ≡ 1 + follow (drop (suc i) is) (drop (suc i) ws) = at_both is ws i bi bw ∙ ap (λ b. cond b (1 + follow (drop (suc i) is) (drop (suc i) ws)) 0) e in
    let t : total ≡ suc i + follow (drop (suc i) is) (drop (suc i) ws) = omega (arith, before, r) in
    subst (λ k. total ≡ k + follow (drop k is) (drop k ws)) s t

-- one does not
pub follow_stops : (is ws : List (List ℕ)) (i total : ℕ) → i < length is → i < length ws → fits (get_or is i []) (get_or ws i []) ≡ false → total ≡ i + follow (drop i is) (drop i ws) → i ≡ total
follow_stops is ws i total bi bw e before =
    let r : follow (drop i is) (drop i ws) ≡ 0 = at_both is ws i bi bw ∙ ap (λ b. cond b (1 + follow (drop (suc i) is) (drop (suc i) ws)) 0) e in
    omega (arith, before, r)

without_words : (is : List (List ℕ)) → follow is [] ≡ 0
without_words [] = refl
without_words (x ∷ is) = refl

-- the words end
pub words_end : (is ws : List (List ℕ)) (i total : ℕ) → nat_lt i (length ws) ≡ false → total ≡ i + follow (drop i is) (drop i ws) → i ≡ total
words_end is ws i total h before =
    let past_all : length ws ≤ i = not_below i (length ws) h in
    let r : follow (drop i is) (drop i ws) ≡ 0 = ap (follow (drop i is)) (past ws i past_all) ∙ without_words (drop i is) in
    omega (arith, before, r)

-- the form ends
pub form_ends : (is ws : List (List ℕ)) (i total : ℕ) → length is ≤ i → total ≡ i + follow (drop i is) (drop i ws) → i ≡ total
form_ends is ws i total h before =
    let r : follow (drop i is) (drop i ws) ≡ 0 = ap (λ z. follow z (drop i ws)) (past is i h) in
    omega (arith, before, r)

one_more : (b : Bool) (n m : ℕ) → n ≤ m → cond b (1 + n) 0 ≤ m + 1
one_more true n m h = omega (arith, h)
one_more false n m h = omega (arith, h)

follow_few : (is ws : List (List ℕ)) → follow is ws ≤ length ws
follow_few [] ws = omega arith
follow_few (x ∷ is) [] = omega arith
follow_few (x ∷ is) (w ∷ ws) = let h = one_more (fits x w) (follow is ws) (length ws) (follow_few is ws) in omega (arith, h)

-- no more words of a line are those of a form than there are
pub front_few : (items : List (List ℕ)) (ws : List (Bor (List ℕ))) (n : ℕ) → n ≡ follow items (contents ws) → n ≤ length ws
front_few items ws n is =
    let few = follow_few items (contents ws) in
    let size : length (contents ws) ≡ length ws = length-map ws (λ (w : Bor (List ℕ)). w.now) in
    omega (arith, is, few, size)

-- the words behind the word of a call
call_few_by : (o : Option Expected) (ws : List (List ℕ)) → ((a : Expected) → follow_call a ws ≤ length ws) → option_map_or (λ next. 1 + follow_call next ws) o 0 ≤ length ws + 1
call_few_by None ws all = omega arith
call_few_by (Some a) ws all = let h = all a in omega (arith, h)

call_few : (ws : List (List ℕ)) (a : Expected) → follow_call a ws ≤ length ws
call_few [] a = omega arith
call_few (w ∷ ws) a = let h = call_few_by (expected_next a w) ws (call_few ws) in omega (arith, h)

behind_few : (b : Bool) (ws : List (List ℕ)) (n : ℕ) → nat_le 4 n ≡ b → n ≤ length ws → cond b (4 + follow_call (Value 0) (drop 4 ws)) n ≤ length ws
behind_few false ws n e h = h
behind_few true ws n e h =
    let more = call_few (drop 4 ws) (Value 0) in
    let four : 4 ≤ n = leb-true 4 n e in
    let size = length-drop 4 ws in
    omega (arith, more, four, size, h)

follow_on_few : (f : Form) (ws : List (List ℕ)) (n : ℕ) → n ≤ length ws → follow_on f ws n ≤ length ws
follow_on_few forms.Call ws n h = behind_few (nat_le 4 n) ws n refl h
follow_on_few f ws n h = h

-- a word is empty where it has no letter
pub empty_is : (w : List ℕ) → (length w == 0) ≡ is_empty w
empty_is [] = refl
empty_is (b ∷ bs) = ne_eqb (length (b ∷ bs)) 0 (λ e. absurd (omega (arith, e)))

-- no more words follow than there are
pub followed_few : (f : Form) (ws : List (Bor (List ℕ))) (n : ℕ) → n ≡ followed f (contents ws) → n ≤ length ws
followed_few f ws n is =
    let few = follow_on_few f (contents ws) (follow (pieces 32 (form_text f)) (contents ws)) (follow_few (pieces 32 (form_text f)) (contents ws)) in
    let size : length (contents ws) ≡ length ws = length-map ws (λ (w : Bor (List ℕ)). w.now) in
    omega (arith, is, few, size)
