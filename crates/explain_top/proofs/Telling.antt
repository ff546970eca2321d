-- An answer as it is told.
use Rattle.std.proofs.Common.{◌≡◌, ℕ, ◌+◌, ◌-◌, ◌<◌, ◌≤◌, Bool, true, false, cond, List, ◌++◌, length, take, drop, Bor, refl, sym, ◌∙◌, ap, subst, inl, inr, arith}
use Rattle.std.specs.Prelude.{◌&&◌, nat_lt, Contains, Option, Some, None, IfSome, Result, Ok, Err, IfOk, OnOk, codes}
use Rattle.std.specs.Option.{option_map_or}
use Rattle.std.specs.List.{list_all}
use Rattle.std.proofs.lemmas.Bool.{true≢false, lt-ltb}
use Rattle.std.proofs.lemmas.List.Folds.{list_all-append}
use Rattle.std.proofs.lemmas.List.{length-append, length-take-le, length-map, take-append-le, take-append-drop}
use Rattle.basics.specs.Words.{contents}
use Rattle.graph_terms.specs.declared.why.Why.{Why}
use Rattle.graph_terms.specs.declared.why.Why.TheVariants as reasons
use Rattle.graph_terms.specs.Graph.{GraphValue}
use Rattle.graph_words.specs.Draft.{Place}
use Rattle.refused_words.specs.Places.{place_at}
use Rattle.refused_words.specs.Refused.{IsRefusedWord, refuses_in}
use Rattle.explain_text.specs.Visible.{is_plain, visible, IsFrontOf}
use Rattle.told_names.specs.Named.{IsInside, given_names}
use Rattle.told_names.specs.declared.naming.NamedWord.{NamedWord}
use Rattle.explain_top.specs.Answer.{IsWholeAnswer, speaks_of_none, most_bytes, told, IsAnswerIn}
use Rattle.explain_top.specs.declared.answer.Answer.{Answer}

-- the front of a long answer, and the line behind it
pub front_few : (most : ℕ) (whole : List ℕ) → 4 ≤ most → most ≤ length whole → length (take (most - 4) whole ++ codes "\n..\n") ≤ most
front_few most whole some long =
    let both : length (take (most - 4) whole ++ codes "\n..\n") ≡ length (take (most - 4) whole) + 4 = length-append (take (most - 4) whole) (codes "\n..\n") in
    let front : length (take (most - 4) whole) ≡ most - 4 = length-take-le (most - 4) whole (omega (arith, some, long)) in
    omega (arith, some, long, both, front)

pub put_few : {X E : Type 0} (r : Result X E) (most : ℕ) (whole front new : List ℕ) → 4 ≤ most → most ≤ length whole → front ≡ take (most - 4) whole → OnOk r (new ≡ front ++ codes "\n..\n") → OnOk r (length new ≤ most)
put_few (Ok x) most whole front new some long is put = subst (λ z. length z ≤ most) (sym (put ∙ ap (λ z. z ++ codes "\n..\n") is)) (front_few most whole some long)
put_few (Err e) most whole front new some long is put = tt

-- as many names as lines
pub given_size : (names lines : List (Bor (List ℕ))) → contents names ≡ given_names (contents lines) → length names ≡ length lines
given_size names lines given =
    let ones : length (contents names) ≡ length names = simp length-map in
    let all : length (contents lines) ≡ length lines = simp length-map in
    let each : length (given_names (contents lines)) ≡ length (contents lines) = simp length-map in
    sym ones ∙ (ap length given ∙ (each ∙ all))

pub inside_all : (names lines : List (Bor (List ℕ))) (xs : List NamedWord) → contents names ≡ given_names (contents lines) → ((x : NamedWord) → Contains xs x → IsInside (length names) x) → (x : NamedWord) → Contains xs x → IsInside (length lines) x
inside_all names lines xs given inside x c = subst (λ n. IsInside n x) (given_size names lines given) (inside x c)

pub inside_contents : (lines : List (Bor (List ℕ))) (x : NamedWord) → IsInside (length lines) x → IsInside (length (contents lines)) x
inside_contents lines x inside = (let all : length (contents lines) ≡ length lines = simp length-map in subst (λ n. IsInside n x) (sym all) inside)

pub some_inside : (lines : List (Bor (List ℕ))) (o : Option NamedWord) → IfSome o (IsInside (length lines)) → IfSome o (IsInside (length (contents lines)))
some_inside lines None inside = tt
some_inside lines (Some x) inside = inside_contents lines x inside

pub as_answer : {E : Type 0} (r : Result Answer E) (ends all : Bool) (bytes : List ℕ) (w : Answer) (most : ℕ) → most ≡ most_bytes all → IsWholeAnswer ends all bytes w.verdict w.text → IfOk r (λ a. a.verdict ≡ w.verdict)
    → IfOk r (λ a. a.text ≡ told most (visible w.text)) → IfOk r (λ a. length a.text ≤ most) → IfOk r (λ a. list_all is_plain a.text ≡ true) → IfOk r (λ a. IsAnswerIn ends all bytes a.verdict a.text)
as_answer (Ok a) ends all bytes w most is h v t f p =
    record {
      whole = w.text;
      answers = subst (λ x. IsWholeAnswer ends all bytes x w.text) (sym v) h;
      is_told = subst (λ m. a.text ≡ told m (visible w.text)) is t;
      few = subst (λ m. length a.text ≤ m) is f;
      plain = p;
    }
as_answer (Err e) ends all bytes w most is h v t f p = tt

-- a front that is long enough is told as the whole
pub told_front : (most : ℕ) (front all : List ℕ) → IsFrontOf most front all → told most front ≡ told most all
told_front most front all (inl same) = ap (told most) same
told_front most front all (inr (long, rest, is)) =
    let more : most < length all = (let size : length (front ++ rest) ≡ length front + length rest = length-append front rest in let all_is : length all ≡ length (front ++ rest) = ap length is in omega (arith, long, size, all_is)) in
    let cut : take (most - 4) all ≡ take (most - 4) front = ap (take (most - 4)) is ∙ take-append-le (most - 4) front rest (omega (arith, long)) in
    ap (λ b. cond b (take (most - 4) front ++ codes "\n..\n") front) (lt-ltb most (length front) long)
    ∙ sym (ap (λ b. cond b (take (most - 4) all ++ codes "\n..\n") all) (lt-ltb most (length all) more) ∙ ap (λ z. z ++ codes "\n..\n") cut)

-- what is told of plain bytes is plain
and_front : (a b : Bool) → (a && b) ≡ true → a ≡ true
and_front true b e = refl
and_front false b e = e

plain_front : (n : ℕ) (t : List ℕ) → list_all is_plain t ≡ true → list_all is_plain (take n t) ≡ true
plain_front n t e = and_front (list_all is_plain (take n t)) (list_all is_plain (drop n t)) (sym (list_all-append is_plain (take n t) (drop n t)) ∙ (ap (list_all is_plain) (take-append-drop n t) ∙ e))

plain_or : (b : Bool) (x y : List ℕ) → list_all is_plain x ≡ true → list_all is_plain y ≡ true → list_all is_plain (cond b x y) ≡ true
plain_or true x y p q = p
plain_or false x y p q = q

pub told_plain : (most : ℕ) (t : List ℕ) → list_all is_plain t ≡ true → list_all is_plain (told most t) ≡ true
told_plain most t e = plain_or (nat_lt most (length t)) (take (most - 4) t ++ codes "\n..\n") t
    (list_all-append is_plain (take (most - 4) t) (codes "\n..\n") ∙ ap (λ z. z && list_all is_plain (codes "\n..\n")) (plain_front (most - 4) t e)) e

-- a reason that speaks of no single word refuses none
abbrev refuses_none : Why → Type 0
refuses_none why = (g : GraphValue) (ws : List (List ℕ)) (k : ℕ) (p : Place) → refuses_in g ws why p k ≡ false

none_of : (why : Why) → speaks_of_none why ≡ true → refuses_none why
none_of reasons.Header is g ws k p = refl
none_of reasons.Syntax is g ws k p = refl
none_of reasons.Limit is g ws k p = refl
none_of reasons.Missing is g ws k p = refl
none_of reasons.Rest is g ws k p = refl
none_of reasons.Name is g ws k p = absurd (true≢false (sym is))
none_of reasons.Twice is g ws k p = absurd (true≢false (sym is))
none_of reasons.Unknown is g ws k p = absurd (true≢false (sym is))
none_of reasons.Kind is g ws k p = absurd (true≢false (sym is))
none_of reasons.Number is g ws k p = absurd (true≢false (sym is))
none_of reasons.Space is g ws k p = absurd (true≢false (sym is))
none_of reasons.Outside is g ws k p = absurd (true≢false (sym is))
none_of reasons.Meets is g ws k p = absurd (true≢false (sym is))
none_of reasons.Arrivals is g ws k p = absurd (true≢false (sym is))

none_at : (why : Why) (g : GraphValue) (ws : List (List ℕ)) (k : ℕ) (o : Option Place) → speaks_of_none why ≡ true → option_map_or (λ p. refuses_in g ws why p k) o false ≡ false
none_at why g ws k None is = refl
none_at why g ws k (Some p) is = none_of why is g ws k p

pub no_word : (why : Why) (g : GraphValue) (ws : List (List ℕ)) → speaks_of_none why ≡ true → IsRefusedWord g why ws None
no_word why g ws is j low (inl refused) = true≢false (sym refused ∙ none_at why g ws j (place_at g.format ws j) is)
no_word why g ws is j low (inr repeat) = true≢false (sym is ∙ ap speaks_of_none repeat.0)
