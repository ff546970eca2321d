-- What the text of a trace begins with, and the bytes that no text of a trace begins with.
use Rattle.std.proofs.Common.{◌≡◌, ℕ, zero, suc, ◌+◌, ◌<◌, ◌≤◌, false, List, [], ◌∷◌, ◌++◌, length, refl, sym, ◌∙◌, ap, subst, get_or, append_assoc, append-nil, length-append, arith, inl, inr}
use Rattle.std.specs.Prelude.{◌≢◌, ◌⊎◌, Option, Some, None, codes, ◌==◌, MatchOption}
use Rattle.std.proofs.lemmas.Bool.{true≢false}
use Rattle.std.proofs.lemmas.List.{append_cancel_left, append_cancel_right}
use Rattle.std.proofs.lemmas.Option.{none-some, same_Some}
use Rattle.graph_terms.specs.Graph.{GraphValue}
use Rattle.graph_terms.specs.Fits.{IsGraph}
use Rattle.graph_terms.specs.declared.format.Format.TheVariants.{Three}
use Rattle.graph_terms.specs.Name.{is_name_in}
use Rattle.graph_terms.specs.Spelling.{line_name}
use Rattle.realm_audit.specs.Text.{at_text, at_texts, trace_text}
use Rattle.realm_audit.specs.Reading.{AreLines, has_newline, IsFirstLine, front, BeginsNoItem, BeginsText, IsTraceFault, IsNoText, TextTells}
use Rattle.realm_audit.proofs.LineNames.{is_spelled, line_name_one_line, one_line_named}
use Rattle.realm_audit.proofs.Fronts.{same_line, past_line, shared_line, some_bytes, newlines, front_within}

abbrev header : List ℕ
header = codes "realm-trace 1\n"

abbrev closing : List ℕ
closing = codes "done\n"

-- the items of a trace, one by one
pub no_lines : (g : GraphValue) → AreLines g []
no_lines g k i e = absurd (none-some i e)

first_below : (g : GraphValue) (i : ℕ) (is : List ℕ) → AreLines g (i ∷ is) → i < length g.lines
first_below g i is h = h 0 i refl

rest_below : (g : GraphValue) (i : ℕ) (is : List ℕ) → AreLines g (i ∷ is) → AreLines g is
rest_below g i is h = λ k j e. h (suc k) j e

pub lines_push : (g : GraphValue) (trace : List ℕ) (i : ℕ) → AreLines g trace → i < length g.lines → AreLines g (trace ++ i ∷ [])
lines_push g [] i h b zero j e = subst (λ n. n < length g.lines) (same_Some i j e) b
lines_push g [] i h b (suc k) j e = absurd (none-some j e)
lines_push g (x ∷ xs) i h b zero j e = h 0 j e
lines_push g (x ∷ xs) i h b (suc k) j e = lines_push g xs i (rest_below g x xs h) b k j e

pub texts_push : (g : GraphValue) (trace : List ℕ) (i : ℕ) (rest : List ℕ) → at_texts g (trace ++ i ∷ []) ++ rest ≡ at_texts g trace ++ (at_text (line_name g i) ++ rest)
texts_push g [] i rest = ap (λ z. z ++ rest) (append-nil (at_text (line_name g i)))
texts_push g (x ∷ xs) i rest =
    append_assoc (at_text (line_name g x)) (at_texts g (xs ++ i ∷ [])) rest
    ∙ (ap (λ z. at_text (line_name g x) ++ z) (texts_push g xs i rest) ∙ sym (append_assoc (at_text (line_name g x)) (at_texts g xs) (at_text (line_name g i) ++ rest)))

pub texts_length : (g : GraphValue) (trace : List ℕ) → length trace ≤ length (at_texts g trace)
texts_length g [] = omega arith
texts_length g (i ∷ is) =
    let again : length is ≤ length (at_texts g is) = texts_length g is in
    let l : length (at_text (line_name g i) ++ at_texts g is) ≡ length (at_text (line_name g i)) + length (at_texts g is) = length-append (at_text (line_name g i)) (at_texts g is) in
    let some : 3 ≤ length (at_text (line_name g i)) = omega arith in
    omega arith

-- an item is a line
item_line : (name rest : List ℕ) → at_text name ++ rest ≡ (codes "at " ++ name) ++ 10 ∷ rest
item_line name rest = ap (λ z. codes "at " ++ z) (append_assoc name (10 ∷ []) rest)

items_line : (g : GraphValue) (i : ℕ) (is rest : List ℕ) → at_texts g (i ∷ is) ++ rest ≡ (codes "at " ++ line_name g i) ++ 10 ∷ (at_texts g is ++ rest)
items_line g i is rest = append_assoc (at_text (line_name g i)) (at_texts g is) rest ∙ item_line (line_name g i) (at_texts g is ++ rest)

one_line_more : (g : GraphValue) (i : ℕ) (is lines more rest : List ℕ) → lines ≡ at_text (line_name g i) ++ more → more ≡ at_texts g is ++ rest → lines ≡ at_texts g (i ∷ is) ++ rest
one_line_more g i is lines more rest e f = e ∙ (ap (λ z. at_text (line_name g i) ++ z) f ∙ sym (append_assoc (at_text (line_name g i)) (at_texts g is) rest))

behind_header : (g : GraphValue) (lines rest trace other more left : List ℕ) → lines ≡ header ++ more → more ≡ at_texts g trace ++ left → lines ++ rest ≡ trace_text g other → at_texts g trace ++ (left ++ rest) ≡ at_texts g other ++ closing
behind_header g lines rest trace other more left e f t =
    append_cancel_left header (at_texts g trace ++ (left ++ rest)) (at_texts g other ++ closing)
    (sym (ap (λ z. header ++ z) (append_assoc (at_texts g trace) left rest)) ∙ (sym (ap (λ z. z ++ rest) (e ∙ ap (λ z. header ++ z) f)) ∙ t))

-- the closing line begins as no item does
other_byte : (rest name more : List ℕ) → closing ++ rest ≡ at_text name ++ more → ⊥
other_byte rest name more e = true≢false (ap (λ z. get_or z 0 0 == 100) e)

-- each item has a newline
newlines_right : (a b : List ℕ) → newlines b ≤ newlines (a ++ b)
newlines_right [] b = omega arith
newlines_right (c ∷ a) b = let again : newlines b ≤ newlines (a ++ b) = newlines_right a b in omega arith

pub newlines_of_items : (g : GraphValue) (trace more : List ℕ) → length trace + newlines more ≤ newlines (at_texts g trace ++ more)
newlines_of_items g [] more = omega arith
newlines_of_items g (i ∷ is) more =
    let again : length is + newlines more ≤ newlines (at_texts g is ++ more) = newlines_of_items g is more in
    let item : newlines (10 ∷ (at_texts g is ++ more)) ≤ newlines ((codes "at " ++ line_name g i) ++ 10 ∷ (at_texts g is ++ more)) = newlines_right (codes "at " ++ line_name g i) (10 ∷ (at_texts g is ++ more)) in
    let same : newlines (at_texts g (i ∷ is) ++ more) ≡ newlines ((codes "at " ++ line_name g i) ++ 10 ∷ (at_texts g is ++ more)) = ap newlines (items_line g i is more) in
    omega arith

-- bytes have more bytes than items
pub few_items : (g : GraphValue) (bytes trace rest : List ℕ) → bytes ≡ header ++ (at_texts g trace ++ rest) → length trace + 14 ≤ length bytes
few_items g bytes trace rest e =
    let l : length bytes ≡ 14 + length (at_texts g trace ++ rest) = ap length e ∙ length-append header (at_texts g trace ++ rest) in
    let m : length (at_texts g trace ++ rest) ≡ length (at_texts g trace) + length rest = length-append (at_texts g trace) rest in
    let n : length trace ≤ length (at_texts g trace) = texts_length g trace in
    omega arith

-- one item more
pub one_more : (g : GraphValue) (bytes trace more rest after : List ℕ) (i : ℕ) → bytes ≡ header ++ (at_texts g trace ++ rest) → more ≡ trace ++ i ∷ [] → rest ≡ at_text (line_name g i) ++ after → bytes ≡ header ++ (at_texts g more ++ after)
one_more g bytes trace more rest after i e m r =
    e ∙ ap (λ z. header ++ z) (ap (λ z. at_texts g trace ++ z) r ∙ (sym (texts_push g trace i after) ∙ ap (λ z. at_texts g z ++ after) (sym m)))

-- an item whose name is that of a line
pub item_is : (g : GraphValue) (bytes rest line after : List ℕ) (i : ℕ) → bytes ≡ codes "at " ++ rest → IsFirstLine rest line after → line_name g i ≡ line → bytes ≡ at_text (line_name g i) ++ after
item_is g bytes rest line after i e f n = e ∙ (ap (λ z. codes "at " ++ z) (f.bytes_are ∙ ap (λ z. z ++ 10 ∷ after) (sym n)) ∙ sym (item_line (line_name g i) after))

pub none_given : {X P : Type 0} (Q : X → Type 0) (o : Option X) → o ≡ None → P → MatchOption o P Q
none_given Q None e p = p
none_given Q (Some x) e p = absurd (none-some x (sym e))

-- the lines within what a text begins with begin it
begins_within : (g : GraphValue) (bytes trace first more rest : List ℕ) (n : ℕ) → AreLines g trace → bytes ≡ first ++ rest → trace_text g trace ≡ first ++ more → n ≤ newlines first → BeginsText g n bytes
begins_within g bytes trace first more rest n h e t l =
    let w = front_within n first rest l in
    record {
      trace = trace;
      lines = w.0;
      rest = w.1 ++ more;
      are_lines = h;
      front_is = ap (front n) e ∙ w.2;
      text_is = sym (append_assoc w.0 w.1 more) ∙ (ap (λ z. z ++ more) (sym w.3) ∙ sym t);
    }

module _ (g : GraphValue) (is_graph : IsGraph g) where
  -- a line of an item has no newline
  item_one_line : (i : ℕ) → i < length g.lines → has_newline (codes "at " ++ line_name g i) ≡ false
  item_one_line i h = line_name_one_line g is_graph i h

  -- no item begins bytes whose first name is that of no line
  pub no_item : (bytes rest line after : List ℕ) → bytes ≡ codes "at " ++ rest → IsFirstLine rest line after → ((i : ℕ) → i < length g.lines → line ≡ line_name g i → ⊥) → BeginsNoItem g bytes
  no_item bytes rest line after e f n = λ i more b t. (
      let same : codes "at " ++ rest ≡ codes "at " ++ (line_name g i ++ 10 ∷ more) = sym e ∙ (t ∙ item_line (line_name g i) more) in
      n i b (same_line line (line_name g i) after more f.one_line (line_name_one_line g is_graph i b) (sym f.bytes_are ∙ append_cancel_left (codes "at ") rest (line_name g i ++ 10 ∷ more) same)).0
      )

  pub misnamed : (line : List ℕ) → is_name_in Three line ≡ false → (i : ℕ) → i < length g.lines → line ≡ line_name g i → ⊥
  misnamed line h i b e = true≢false (sym (is_spelled g is_graph i b) ∙ (ap (is_name_in Three) (sym e) ∙ h))

  abbrev EndsOrGoesOn : List ℕ → Type 0
  EndsOrGoesOn rest = (rest ≡ closing) ⊎ ((i : ℕ) × (more : List ℕ) × (i < length g.lines) × (rest ≡ at_text (line_name g i) ++ more))

  -- what a text of a trace has behind items is its end or an item more
  left_over : (trace other rest : List ℕ) → AreLines g trace → AreLines g other → at_texts g trace ++ rest ≡ at_texts g other ++ closing → EndsOrGoesOn rest
  left_over [] [] rest h k e = inl e
  left_over [] (i ∷ is) rest h k e = inr (i, at_texts g is ++ closing, first_below g i is k, e ∙ append_assoc (at_text (line_name g i)) (at_texts g is) closing)
  left_over (t ∷ ts) [] rest h k e = absurd (let c : 97 ≡ 100 = ap (λ z. get_or z 0 0) e in omega arith)
  left_over (t ∷ ts) (i ∷ is) rest h k e =
      let here : (codes "at " ++ line_name g t) ++ 10 ∷ (at_texts g ts ++ rest) ≡ (codes "at " ++ line_name g i) ++ 10 ∷ (at_texts g is ++ closing) =
      sym (items_line g t ts rest) ∙ (e ∙ items_line g i is closing) in
      let s = same_line (codes "at " ++ line_name g t) (codes "at " ++ line_name g i) (at_texts g ts ++ rest) (at_texts g is ++ closing)
      (item_one_line t (first_below g t ts h)) (item_one_line i (first_below g i is k)) here in
      left_over ts is rest (rest_below g t ts h) (rest_below g i is k) s.1

  -- the first lines behind items
  past_items : (m n : ℕ) (trace rest lines : List ℕ) → AreLines g trace → m ≡ length trace + n → front m (at_texts g trace ++ rest) ≡ Some lines → (more : List ℕ) × (front n rest ≡ Some more) × (lines ≡ at_texts g trace ++ more)
  past_items m n [] rest lines h e f = (lines, (let k : n ≡ m = omega arith in ap (λ j. front j rest) k ∙ f), refl)
  past_items zero n (i ∷ is) rest lines h e f = absurd (omega arith)
  past_items (suc m) n (i ∷ is) rest lines h e f =
      let p = past_line m (codes "at " ++ line_name g i) (at_texts g is ++ rest) lines (item_one_line i (first_below g i is h)) (ap (front (suc m)) (sym (items_line g i is rest)) ∙ f) in
      let q = past_items m n is rest p.0 (rest_below g i is h) (omega arith) p.1 in
      (q.0, q.1, one_line_more g i is lines p.0 q.0 p.2 q.2)

  -- what the lines of a text of a trace are behind items
  begins_left : (bytes trace rest : List ℕ) (n : ℕ) → AreLines g trace → bytes ≡ header ++ (at_texts g trace ++ rest) → BeginsText g (suc (length trace + n)) bytes → (lines left : List ℕ) × (front n rest ≡ Some lines) × EndsOrGoesOn (lines ++ left)
  begins_left bytes trace rest n h e b =
      let p = past_line (length trace + n) (codes "realm-trace 1") (at_texts g trace ++ rest) b.lines refl (ap (front (suc (length trace + n))) (sym e) ∙ b.front_is) in
      let q = past_items (length trace + n) n trace rest p.0 h refl p.1 in
      (q.0, b.rest, q.1, left_over trace b.trace (q.0 ++ b.rest) h b.are_lines (behind_header g b.lines b.rest trace b.trace p.0 q.0 p.2 q.2 b.text_is))

  no_text_by : (bytes trace rest : List ℕ) → AreLines g trace → bytes ≡ header ++ (at_texts g trace ++ rest) → (EndsOrGoesOn rest → ⊥) → IsNoText g bytes
  no_text_by bytes trace rest h e n = λ other k t. n (left_over trace other rest h k (append_cancel_left header _ _ (sym e ∙ sym t)))

  -- bytes that do not begin with the first line of a trace's text
  pub refused_header : (bytes : List ℕ) → ((rest : List ℕ) → bytes ≡ header ++ rest → ⊥) → IsTraceFault g bytes 1 × IsNoText g bytes
  refused_header bytes n = (
    record {
      fails = λ b. (let s = shared_line bytes b.lines b.rest (codes "realm-trace 1") (at_texts g b.trace ++ closing) b.front_is refl b.text_is in n s.0 s.1);
      before = λ m l. begins_within g bytes [] [] (trace_text g []) bytes m (no_lines g) refl refl (omega arith);
    },
    λ trace h t. n (at_texts g trace ++ closing) (sym t),
  )

  -- bytes that go on behind items with neither an item nor the closing line
  pub refused_line : (bytes trace rest : List ℕ) (n : ℕ) → AreLines g trace → bytes ≡ header ++ (at_texts g trace ++ rest) → ((more : List ℕ) → rest ≡ closing ++ more → ⊥) → BeginsNoItem g rest → n ≡ length trace + 2 → IsTraceFault g bytes n × IsNoText g bytes
  refused_line bytes trace rest n h e no_end no_item is = (
    record {
      fails = λ b. (
          let c = begins_left bytes trace rest 1 h e (subst (λ k. BeginsText g k bytes) (let k : n ≡ suc (length trace + 1) = omega arith in k) b) in
          stops c.0 c.1 c.2 c.3
          );
      before = λ m l. begins_within g bytes trace (header ++ at_texts g trace) closing rest m h (e ∙ sym (append_assoc header (at_texts g trace) rest)) (sym (append_assoc header (at_texts g trace) closing))
          (let k : length trace + 0 ≤ newlines (at_texts g trace ++ []) = newlines_of_items g trace [] in
          let s : newlines (at_texts g trace ++ []) ≡ newlines (at_texts g trace) = ap newlines (append-nil (at_texts g trace)) in omega arith);
    },
    no_text_by bytes trace rest h e goes_nowhere,
  )
    where
      goes_nowhere : EndsOrGoesOn rest → ⊥
      goes_nowhere (inl c) = no_end [] c
      goes_nowhere (inr i) = no_item i.0 i.1 i.2 i.3

      stops : (lines left : List ℕ) → front 1 rest ≡ Some lines → EndsOrGoesOn (lines ++ left) → ⊥
      stops lines left f (inl c) = (let s = shared_line rest lines left (codes "done") [] f refl c in no_end s.0 s.1)
      stops lines left f (inr i) =
          let s = shared_line rest lines left (codes "at " ++ line_name g i.0) i.1 f (item_one_line i.0 i.2) (i.3 ∙ item_line (line_name g i.0) i.1) in
          no_item i.0 s.0 i.2 (s.1 ∙ sym (item_line (line_name g i.0) s.0))

  -- bytes that go on behind the closing line
  pub refused_more : (bytes trace rest after : List ℕ) (n : ℕ) → AreLines g trace → bytes ≡ header ++ (at_texts g trace ++ rest) → rest ≡ closing ++ after → after ≢ [] → n ≡ length trace + 3 → IsTraceFault g bytes n × IsNoText g bytes
  refused_more bytes trace rest after n h e c some is = (
    record {
      fails = λ b. (
          let k : n ≡ suc (length trace + 2) = omega arith in
          let d = begins_left bytes trace (closing ++ after) 2 h whole (subst (λ k. BeginsText g k bytes) k b) in
          let p = past_line 1 (codes "done") after d.0 refl d.2 in
          stops p.0 d.1 p.1 (subst (λ z. EndsOrGoesOn (z ++ d.1)) p.2 d.3)
          );
      before = λ m l. begins_within g bytes trace (header ++ (at_texts g trace ++ closing)) [] after m h
          (whole ∙ sym (append_assoc header (at_texts g trace ++ closing) after ∙ ap (λ z. header ++ z) (append_assoc (at_texts g trace) closing after)))
          (sym (append-nil (header ++ (at_texts g trace ++ closing))))
          (let k : length trace + 1 ≤ newlines (at_texts g trace ++ closing) = newlines_of_items g trace closing in omega arith);
    },
    no_text_by bytes trace (closing ++ after) h whole goes_nowhere,
  )
    where
      whole : bytes ≡ header ++ (at_texts g trace ++ (closing ++ after))
      whole = e ∙ ap (λ z. header ++ (at_texts g trace ++ z)) c

      goes_nowhere : EndsOrGoesOn (closing ++ after) → ⊥
      goes_nowhere (inl d) = some (append_cancel_left closing after [] d)
      goes_nowhere (inr i) = other_byte after (line_name g i.0) i.1 i.3

      stops : (lines left : List ℕ) → front 1 after ≡ Some lines → EndsOrGoesOn (closing ++ lines ++ left) → ⊥
      stops [] left f d = some_bytes 0 after f
      stops (b ∷ lines) left f (inl d) = (let z : b ∷ (lines ++ left) ≡ [] = append_cancel_left closing (b ∷ (lines ++ left)) [] d in let l : suc (length (lines ++ left)) ≡ 0 = ap length z in omega arith)
      stops (b ∷ lines) left f (inr i) = other_byte ((b ∷ lines) ++ left) (line_name g i.0) i.1 i.3

  -- items with one text are the same
  same_items : (trace other : List ℕ) → AreLines g trace → AreLines g other → at_texts g trace ≡ at_texts g other → trace ≡ other
  same_items [] [] h k e = refl
  same_items [] (i ∷ is) h k e = absurd (true≢false (ap (λ z. get_or z 0 0 == 97) (sym e)))
  same_items (t ∷ ts) [] h k e = absurd (true≢false (ap (λ z. get_or z 0 0 == 97) e))
  same_items (t ∷ ts) (i ∷ is) h k e =
      let s = same_line (codes "at " ++ line_name g t) (codes "at " ++ line_name g i) (at_texts g ts) (at_texts g is)
      (item_one_line t (first_below g t ts h)) (item_one_line i (first_below g i is k)) (sym (item_line (line_name g t) (at_texts g ts)) ∙ (e ∙ item_line (line_name g i) (at_texts g is))) in
      let one : t ≡ i = one_line_named g is_graph t i (first_below g t ts h) (first_below g i is k) (append_cancel_left (codes "at ") (line_name g t) (line_name g i) s.0) in
      ap (λ z. z ∷ ts) one ∙ ap (λ z. i ∷ z) (same_items ts is (rest_below g t ts h) (rest_below g i is k) s.1)

pub text_tells : TextTells
text_tells g is_graph trace other h k e =
    same_items g is_graph trace other h k (append_cancel_right (at_texts g trace) (at_texts g other) closing (append_cancel_left header (at_texts g trace ++ closing) (at_texts g other ++ closing) e))
