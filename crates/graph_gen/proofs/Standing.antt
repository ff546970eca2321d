-- What stands while a graph is made, and a line more.
use Rattle.std.proofs.Common.{◌≡◌, ℕ, zero, suc, ◌+◌, ◌*◌, ◌^◌, ◌<◌, ◌≤◌, Bool, false, ◌&&◌, ◌||◌, List, [], ◌∷◌, ◌++◌, length, map, take, refl, sym, ◌∙◌, ap, subst, append_assoc, append-nil, length-append, arith, lit≤}
use Rattle.std.specs.Prelude.{Option, Some, None, true, nat_eq, nat_lt, nat_le, is_some, slice_get, IsTrue}
use Rattle.std.specs.Option.{option_map_or}
use Rattle.std.specs.List.{list_any}
use Rattle.std.specs.Str.{bytes_eq}
use Rattle.std.proofs.lemmas.Bool.{true≢false, false_from_ne_true, ltb-true, or_parts}
use Rattle.std.proofs.lemmas.List.Folds.{list_any-append}
use Rattle.std.proofs.lemmas.List.Sums.{sum_by-cons}
use Rattle.graph_terms.specs.declared.verb.Access.{Access}
use Rattle.graph_terms.specs.declared.format.Format.TheVariants.{One}
use Rattle.graph_terms.specs.declared.limits.TheConstants.{MAX_EVENTS, MAX_CALL_ACCESSES, MAX_COMPARED_ACCESSES}
use Rattle.graph_terms.specs.declared.verb.Line.{Line}
use Rattle.graph_terms.specs.declared.why.Why.TheVariants as why
use Rattle.graph_terms.specs.declared.verb.Verb.{Verb}
use Rattle.graph_terms.specs.declared.verb.Verb.TheVariants.{Call}
use Rattle.graph_terms.specs.Graph.{GraphValue, is_call, ends_user, is_release_of}
use Rattle.graph_terms.specs.Access.{verb_accesses, call_accesses}
use Rattle.graph_indexes.specs.Counts.{words_size}
use Rattle.graph_terms.specs.Edges.{edges, line_edges}
use Rattle.graph_terms.specs.Fits.{first_reason, repeats, is_used, with_line, is_beyond, verb_repeats, named_lines, verb_unknown, access_unknown, data_unknown, line_unknown, verb_unlike, takes_no_on, on_unlike, format_lacks, verb_misnumbered, access_outside, data_outside, accesses_clash, verb_meets, arrives_late, merged_events, names_many, accesses_many, line_fault, is_called, IsVerb, IsLine, LinesFit}
use Rattle.graph_terms.specs.Spelling.{spelled, verb_words, on_words, line_words, line_name, head}
use Rattle.graph_model.proofs.CountLaws.{spelled_size}
use Rattle.graph_terms.proofs.Public.{head_with_line, edges_push, long_names}
use Rattle.graph_gen.specs.MadeGraph.{made_decls, made_name, on_lines, made_line}
use Rattle.graph_gen.proofs.LineNames.{made_is_name, made_differ, made_short}

-- a generated graph with these lines
abbrev pub lined : List Line → GraphValue
lined ls = record { format = One; decls = made_decls; lines = ls }

pub both_false : (a b : Bool) → a ≡ false → b ≡ false → (a || b) ≡ false
both_false a b e f = ap (λ x. x || b) e ∙ f

pub not_less : (a b : ℕ) → b ≤ a → nat_lt a b ≡ false
not_less a b h = false_from_ne_true (nat_lt a b) (λ e. let l : a < b = ltb-true a b e in omega arith)

-- one event behind `on` is named once, and is what a verb of format 1 may take
on_once : (on : Option ℕ) → repeats nat_eq (on_lines on) ≡ false
on_once None = refl
on_once (Some e) = refl

on_is_like : (v : Verb) (on : Option ℕ) → (takes_no_on v && is_some on) ≡ false → on_unlike One v (on_lines on) ≡ false
on_is_like v None h = both_false (takes_no_on v && false) false h refl
on_is_like v (Some e) h = both_false (takes_no_on v && true) false h refl

on_is_few : (v : Verb) (on : Option ℕ) → nat_lt MAX_EVENTS (length (merged_events v)) ≡ false → names_many One v (on_lines on) ≡ false
on_is_few v None h = both_false (nat_lt MAX_EVENTS (length (merged_events v))) false h refl
on_is_few v (Some e) h = both_false (nat_lt MAX_EVENTS (length (merged_events v))) false h refl

-- the lines are named by their numbers, the first of which is n
abbrev pub Numbered : ℕ → List Line → Type 0
Numbered n [] = Unit {0}
Numbered n (l ∷ ls) = (l.name ≡ made_name n) × Numbered (n + 1) ls

numbered_push : (n : ℕ) (ls : List Line) (l : Line) → Numbered n ls → l.name ≡ made_name (n + length ls) → Numbered n (ls ++ l ∷ [])
numbered_push n [] l h e = (e ∙ ap made_name (let x : n + 0 ≡ n = omega arith in x), tt)
numbered_push n (k ∷ ls) l h e = (h.0, numbered_push (n + 1) ls l h.1 (e ∙ ap made_name (let x : n + suc (length ls) ≡ n + 1 + length ls = omega arith in x)))

unused : (n m : ℕ) (ls : List Line) → Numbered n ls → n + length ls ≤ m → m < 2 ^ 64 → list_any (bytes_eq (made_name m)) (map (λ (l : Line). l.name) ls) ≡ false
unused n m [] h b s = refl
unused n m (l ∷ ls) h b s =
    let c : n + suc (length ls) ≤ m = b in
    both_false (bytes_eq (made_name m) l.name) (list_any (bytes_eq (made_name m)) (map (λ (l : Line). l.name) ls)) (ap (bytes_eq (made_name m)) h.0 ∙ made_differ m n s (omega arith) (omega arith)) (unused (n + 1) m ls h.1 (omega arith) s)

name_at : (n : ℕ) (ls : List Line) → Numbered n ls → (i : ℕ) → i < length ls → option_map_or (λ (x : Line). x.name) (slice_get ls i) [] ≡ made_name (n + i)
name_at n [] h i b = absurd (omega arith)
name_at n (l ∷ ls) h zero b = h.0 ∙ ap made_name (let x : n ≡ n + 0 = omega arith in x)
name_at n (l ∷ ls) h (suc i) b = name_at (n + 1) ls h.1 i (let c : suc i < suc (length ls) = b in omega arith) ∙ ap made_name (let x : n + 1 + i ≡ n + suc i = omega arith in x)

-- what holds of the lines that stand
pub record Standing (ls : List Line) : Type 0 where
  pub numbered : Numbered 0 ls
  pub ended : (k : ℕ) → length ls ≤ k → list_any (λ (l : Line). ends_user k l.verb) ls ≡ false
  pub released : (k : ℕ) → length ls ≤ k → list_any (λ (l : Line). is_release_of k l.verb) ls ≡ false
  pub text : length (head (lined ls)) ≤ 1000 + 100 * length ls
  pub few_edges : length (edges (lined ls)) ≤ 2 * length ls

-- the words, each with a byte behind it, are at most so long
pub record Sized (ws : List (List ℕ)) (n : ℕ) : Type 0 where
  pub size : words_size ws ≤ n

-- what may be said against a line besides its name, its columns and the lines that it names
abbrev pub against : List Line → Verb → Option ℕ → Bool
against ls v on = is_call v || (verb_repeats (lined ls) v || (verb_unlike (lined ls) v || ((takes_no_on v && is_some on) || (format_lacks One v || (verb_misnumbered One v || (arrives_late (lined ls) v || nat_lt MAX_EVENTS (length (merged_events v))))))))

-- it names a line, a reservation, a barrier, a column or a space that is not there
abbrev pub names_unknown : List Line → Verb → Option ℕ → Bool
names_unknown ls v on = list_any (λ i. nat_le (length ls) i) (named_lines v ++ on_lines on) || (verb_unknown (lined ls) v || list_any (access_unknown (lined ls)) (verb_accesses v))

-- what holds of a line that may come next
pub record NextFits (ls : List Line) (v : Verb) (on : Option ℕ) : Type 0 where
  pub clear : against ls v on ≡ false
  pub apart : repeats nat_eq (map (λ (a : Access). a.column) (verb_accesses v)) ≡ false
  pub known : names_unknown ls v on ≡ false
  pub within : list_any (access_outside (lined ls)) (verb_accesses v) ≡ false
  pub words : Sized (verb_words (lined ls) v ++ on_words (lined ls) (on_lines on)) 60
  pub few_edges : length (line_edges ls (made_line 0 v on)) ≤ 2
  pub values : IsVerb v
  pub ends_none_later : (k : ℕ) → length ls < k → (ends_user k v || is_release_of k v) ≡ false

words_cons : (w : List ℕ) (ws : List (List ℕ)) → words_size (w ∷ ws) ≡ (length w + 1) + words_size ws
words_cons w ws = sum_by-cons (λ (x : List ℕ). length x + 1) w ws

pub size_cons : (w : List ℕ) (ws : List (List ℕ)) (a b : ℕ) → length w ≤ a → Sized ws b → Sized (w ∷ ws) (suc a + b)
size_cons w ws a b h k = record { size = bound _ _ _ a b (words_cons w ws) h k.size }
  where
    bound : (x y z a b : ℕ) → x ≡ (y + 1) + z → y ≤ a → z ≤ b → x ≤ suc a + b
    bound x y z a b e h k = omega arith

pub size_none : Sized [] 0
size_none = record { size = lit≤ tt }

pub within_sixty : (ws : List (List ℕ)) (n : ℕ) → Sized ws n → n ≤ 60 → Sized ws 60
within_sixty ws n h k = record { size = bound (words_size ws) n h.size k }
  where
    bound : (x n : ℕ) → x ≤ n → n ≤ 60 → x ≤ 60
    bound x n h k = omega arith

-- the name of a line that stands is short
pub name_size : (ls : List Line) (e : ℕ) → Standing ls → e < length ls → length ls ≤ 8192 → length (line_name (lined ls) e) ≤ 6
name_size ls e st b few =
    let is : line_name (lined ls) e ≡ made_name (0 + e) = name_at 0 ls st.numbered e b in
    let same : 0 + e ≡ e = omega arith in
    subst (λ w. length w ≤ 6) (sym (is ∙ ap made_name same)) (made_short e (omega arith))

eight_false : (a b c d e m f g : Bool) → a ≡ false → b ≡ false → c ≡ false → d ≡ false → e ≡ false → m ≡ false → f ≡ false → g ≡ false
    → first_reason ((a, why.Twice) ∷ (b, why.Unknown) ∷ (c, why.Kind) ∷ (d, why.Number) ∷ (e, why.Outside) ∷ (m, why.Meets) ∷ (f, why.Arrivals) ∷ (g, why.Limit) ∷ []) ≡ None
eight_false a b c d e m f g h1 h2 h3 h4 h5 h6 h7 h8 = rw (h1, h2, h3, h4, h5, h6, h7, h8) refl

-- a line that is no call accesses no column of data
no_call : (v : Verb) → is_call v ≡ false → call_accesses v ≡ []
no_call (Call call) e = absurd (true≢false e)
no_call v e = refl

called : (v : Verb) → is_call v ≡ false → IsTrue (is_called v)
called (Call call) e = absurd (true≢false e)
called v e = refl

module _ (ls : List Line) (n : ℕ) (v : Verb) (on : Option ℕ) (count : length ls ≡ n) (room : n < 8192) (st : Standing ls) (fits : NextFits ls v on) where
  abbrev next : Line
  next = made_line n v on

  line_size : length (spelled (line_words (lined ls) next)) ≤ 100
  line_size =
      let rest : List (List ℕ) = verb_words (lined ls) v ++ on_words (lined ls) (on_lines on) in
      let all : length (spelled (line_words (lined ls) next)) ≡ words_size (line_words (lined ls) next) = spelled_size (made_name n) ((61 ∷ []) ∷ rest) in
      let sized : Sized (made_name n ∷ (61 ∷ []) ∷ rest) (suc 6 + (suc 1 + 60)) = size_cons (made_name n) ((61 ∷ []) ∷ rest) 6 (suc 1 + 60) (made_short n (omega arith)) (size_cons (61 ∷ []) rest 1 60 (lit≤ tt) fits.words) in
      subst (λ x. x ≤ 100) (sym all) (within_hundred (words_size (made_name n ∷ (61 ∷ []) ∷ rest)) (suc 6 + (suc 1 + 60)) sized.size (lit≤ tt))
    where
      within_hundred : (x n : ℕ) → x ≤ n → n ≤ 100 → x ≤ 100
      within_hundred x n h k = omega arith

  longer : length (ls ++ next ∷ []) ≡ length ls + 1
  longer = length-append ls (next ∷ [])

  text_more : length (head (lined (ls ++ next ∷ []))) ≤ 1000 + 100 * length (ls ++ next ∷ [])
  text_more =
      let more : length (head (lined (ls ++ next ∷ []))) ≡ length (head (lined ls) ++ spelled (line_words (lined ls) next)) = ap length (head_with_line (lined ls) next) in
      let sum : length (head (lined ls) ++ spelled (line_words (lined ls) next)) ≡ length (head (lined ls)) + length (spelled (line_words (lined ls) next)) = length-append (head (lined ls)) (spelled (line_words (lined ls) next)) in
      bound _ _ _ _ _ (more ∙ sum) st.text line_size longer
    where
      bound : (x a b m k : ℕ) → x ≡ a + b → a ≤ 1000 + 100 * m → b ≤ 100 → k ≡ m + 1 → x ≤ 1000 + 100 * k
      bound x a b m k e h f g = omega arith

  edges_more : length (edges (lined (ls ++ next ∷ []))) ≤ 2 * length (ls ++ next ∷ [])
  edges_more =
      let more : length (edges (lined (ls ++ next ∷ []))) ≡ length (edges (lined ls) ++ line_edges ls next) = ap length (edges_push (lined ls) next) in
      let sum : length (edges (lined ls) ++ line_edges ls next) ≡ length (edges (lined ls)) + length (line_edges ls next) = length-append (edges (lined ls)) (line_edges ls next) in
      bound _ _ _ _ _ (more ∙ sum) st.few_edges fits.few_edges longer
    where
      bound : (x a b m k : ℕ) → x ≡ a + b → a ≤ 2 * m → b ≤ 2 → k ≡ m + 1 → x ≤ 2 * k
      bound x a b m k e h f g = omega arith

  pub next_stands : Standing (ls ++ next ∷ [])
  next_stands = record {
    numbered = numbered_push 0 ls next st.numbered (ap made_name (let e : n ≡ 0 + length ls = omega arith in e));
    ended = λ k b. list_any-append (λ (l : Line). ends_user k l.verb) ls (next ∷ []) ∙ both_false (list_any (λ (l : Line). ends_user k l.verb) ls) (ends_user k v || false) (st.ended k (omega (arith, longer))) (both_false (ends_user k v) false (or_parts (ends_user k v) (is_release_of k v) (fits.ends_none_later k (omega (arith, longer)))).0 refl);
    released = λ k b. list_any-append (λ (l : Line). is_release_of k l.verb) ls (next ∷ []) ∙ both_false (list_any (λ (l : Line). is_release_of k l.verb) ls) (is_release_of k v || false) (st.released k (omega (arith, longer))) (both_false (is_release_of k v) false (or_parts (ends_user k v) (is_release_of k v) (fits.ends_none_later k (omega (arith, longer)))).1 refl);
    text = text_more;
    few_edges = edges_more;
  }

  beyond_not : is_beyond (with_line (lined ls) next) ≡ false
  beyond_not = both_false (nat_lt 1048576 (length (head (lined (ls ++ next ∷ []))))) (nat_lt 8192 (length (ls ++ next ∷ [])) || nat_lt 65536 (length (edges (lined (ls ++ next ∷ [])))))
      (not_less 1048576 (length (head (lined (ls ++ next ∷ [])))) (omega (arith, text_more, longer)))
      (both_false (nat_lt 8192 (length (ls ++ next ∷ []))) (nat_lt 65536 (length (edges (lined (ls ++ next ∷ [])))))
      (not_less 8192 (length (ls ++ next ∷ [])) (omega (arith, longer)))
      (not_less 65536 (length (edges (lined (ls ++ next ∷ [])))) (omega (arith, edges_more, longer))))

  unused_name : is_used (lined ls) (made_name n) ≡ false
  unused_name = unused 0 n ls st.numbered (let e : 0 + length ls ≤ n = omega arith in e) (omega arith)

  pub next_faultless : line_fault (lined ls) next ≡ None
  next_faultless =
      let call = or_parts (is_call v) _ fits.clear in
      let none : call_accesses v ≡ [] = no_call v call.0 in
      let repeated = or_parts (verb_repeats (lined ls) v) _ call.1 in
      let unlike = or_parts (verb_unlike (lined ls) v) _ repeated.1 in
      let bare = or_parts (takes_no_on v && is_some on) _ unlike.1 in
      let there = or_parts (format_lacks One v) _ bare.1 in
      let counted = or_parts (verb_misnumbered One v) _ there.1 in
      let late = or_parts (arrives_late (lined ls) v) (nat_lt MAX_EVENTS (length (merged_events v))) counted.1 in
      let apart : Bool = repeats nat_eq (map (λ (a : Access). a.column) (verb_accesses v)) in
      let alike : on_unlike One v (on_lines on) ≡ false = on_is_like v on bare.0 in
      let named : Bool = list_any (λ i. nat_le (length ls) i) (named_lines v ++ on_lines on) in
      let known = or_parts named _ fits.known in
      let places = or_parts (verb_unknown (lined ls) v) (list_any (access_unknown (lined ls)) (verb_accesses v)) known.1 in
      let data_known : list_any (data_unknown (lined ls)) (call_accesses v) ≡ false = ap (list_any (data_unknown (lined ls))) none in
      let all_known : line_unknown (lined ls) next ≡ false =
      both_false named _ known.0 (both_false (verb_unknown (lined ls) v) _ places.0 (both_false (list_any (access_unknown (lined ls)) (verb_accesses v)) _ places.1 data_known)) in
      let few : accesses_many v ≡ false = ap (λ given. nat_lt MAX_CALL_ACCESSES (length given)) none in
      eight_false (is_used (lined ls) (made_name n) || (verb_repeats (lined ls) v || (apart || repeats nat_eq (on_lines on)))) (line_unknown (lined ls) next) (verb_unlike (lined ls) v || (on_unlike One v (on_lines on) || format_lacks One v)) (verb_misnumbered One v)
      (list_any (access_outside (lined ls)) (verb_accesses v) || list_any (data_outside (lined ls)) (call_accesses v)) (verb_meets (lined ls) v) (arrives_late (lined ls) v)
      (names_many One v (on_lines on) || (accesses_many v || is_beyond (with_line (lined ls) next)))
      (both_false (is_used (lined ls) (made_name n)) _ unused_name (both_false (verb_repeats (lined ls) v) _ repeated.0 (both_false apart (repeats nat_eq (on_lines on)) fits.apart (on_once on))))
      all_known (both_false (verb_unlike (lined ls) v) _ unlike.0 (both_false (on_unlike One v (on_lines on)) (format_lacks One v) alike there.0)) counted.0
      (both_false (list_any (access_outside (lined ls)) (verb_accesses v)) (list_any (data_outside (lined ls)) (call_accesses v)) fits.within (ap (list_any (data_outside (lined ls))) none))
      (ap (λ given. repeats (accesses_clash (lined ls)) (take MAX_COMPARED_ACCESSES given)) none) late.0
      (both_false (names_many One v (on_lines on)) _ (on_is_few v on late.1) (both_false (accesses_many v) (is_beyond (with_line (lined ls) next)) few beyond_not))

  next_is_line : IsLine next
  next_is_line = record { named = long_names (made_name n) (made_is_name n (omega arith)); values = fits.values; called = called v (or_parts (is_call v) _ fits.clear).0 }

-- lines that fit one after the other, and what holds of all then
pub record RowFits (ls row : List Line) : Type 0 where
  pub lines : LinesFit One made_decls ls row
  pub standing : Standing (ls ++ row)

pub row_end : (ls : List Line) → Standing ls → RowFits ls []
row_end ls st = record { lines = tt; standing = subst Standing (sym (append-nil ls)) st }

pub row_more : (ls rest : List Line) (n : ℕ) (v : Verb) (on : Option ℕ) → length ls ≡ n → n < 8192 → Standing ls → NextFits ls v on → RowFits (ls ++ made_line n v on ∷ []) rest → RowFits ls (made_line n v on ∷ rest)
row_more ls rest n v on count room st fits more = record {
  lines = (next_is_line ls n v on count room st fits, next_faultless ls n v on count room st fits, more.lines, made_is_name n (omega (arith, room)));
  standing = subst Standing (append_assoc ls (made_line n v on ∷ []) rest) more.standing;
}
