-- What the first lines of a text tell of a refused line, all lines tell.
use Rattle.std.proofs.Common.{◌≡◌, ℕ, zero, suc, map, ◌+◌, ◌-◌, ◌<◌, Bool, true, false, cond, Bor, List, [], ◌∷◌, ◌++◌, length, take, drop, refl, sym, ◌∙◌, ap, subst, inl, inr, arith}
use Rattle.std.specs.Prelude.{Contains, Option, Some, None, IfSome, option_map, is_some, codes, decimal, Result, Ok, Err, IfOk, MatchOption}
use Rattle.std.specs.List.{slice_index_or}
use Rattle.std.specs.Str.{bytes_eq}
use Rattle.std.proofs.lemmas.Option.{none-some}
use Rattle.std.proofs.lemmas.List.{append-nil, length-map, length-take, map-append, take-append-le, drop-append-le, get_or_append_left}
use Rattle.basics.proofs.ListFacts.{contains_here, contains_there, map_contains}
use Rattle.graph_terms.specs.declared.format.Format.{Format}
use Rattle.graph_terms.specs.declared.why.Why.{Why}
use Rattle.graph_terms.specs.declared.why.Why.TheVariants as reasons
use Rattle.graph_words.specs.Words.{pieces, first_piece}
use Rattle.graph_words.specs.Draft.{Place, NewName, SpaceName, LockName, BarrierName, UserName, PhaseName, AcquireName, EventName, CallName, Column, DataColumn, Fields, Value, Times, Weight, Shared, Count, Intervals}
use Rattle.refused_words.specs.Places.{place_at}
use Rattle.told_names.specs.Named.{IsNamedWord, IsInside, given_names, given_name, first_place, told_new, told_in, told_word, with_told, once_words, third_of, third_at, over_word, space_in, below_text, named_by, named_text, named_texts, space_text}
use Rattle.explain_text.specs.Shown.{shown, shown_for, more_text}
use Rattle.told_names.specs.declared.naming.NamedWord.{NamedWord}
use Rattle.explain_text.proofs.Public.{ended_stays}
use Rattle.told_names.proofs.Public.{place_inside}
use Rattle.explain_text.specs.TextLines.{TextLines}
use Rattle.explain_text.specs.Unread.{unread_text, mark_text, refused_text, limit_text, ended_text}
use Rattle.refused_words.specs.Refused.{IsRefusedWord}
use Rattle.refused_words.specs.Ends.{IsEndedBy}
use Rattle.refused_words.specs.Limits.{quantity_value}
use Rattle.refused_words.specs.declared.limits.Quantity.{Quantity}
use Rattle.explain_top.specs.Answer.{asked, IsMarkedText, IsUnreadText, first_text, AreNamed, TellsSpace, most_names, limit_for, names_for, space_for, tells_names, refused_line, words_of, advice_text}
use Rattle.explain_top.specs.Columns.{columns_text}
use Rattle.explain_top.specs.Missing.{AreSettled, AreSettledBy, IsEndSettled, IsReached, IsTold, with_lines}
use Rattle.explain_top.specs.declared.answer.FrontText.{FrontText}
use Rattle.explain_top.proofs.Marking.{marked, marks}
use Rattle.graph_terms.specs.Graph.{GraphValue}
use Rattle.graph_terms.specs.Spelling.{why_word}
use Rattle.graph_terms.specs.declared.format.Format.TheVariants.{One}
use Rattle.line_forms.specs.Advice.{advice}

-- a line among the first
pub line_kept : (ls more : List (List ℕ)) (k : ℕ) → k < length ls → slice_index_or (ls ++ more) k [] ≡ slice_index_or ls k []
line_kept ls more k below = get_or_append_left ls more [] k below

-- the first place of a name among some, and behind them
kept_by : (b : Bool) (n k : ℕ) (r s : Option ℕ) → (r ≡ Some k → s ≡ Some k) → cond b (Some n) r ≡ Some k → cond b (Some n) s ≡ Some k
kept_by true n k r s h e = e
kept_by false n k r s h e = h e

place_kept : (w : List ℕ) (n k : ℕ) (xs ys : List (List ℕ)) → first_place w n xs ≡ Some k → first_place w n (xs ++ ys) ≡ Some k
place_kept w n k [] ys e = absurd (none-some k e)
place_kept w n k (x ∷ xs) ys e = kept_by (bytes_eq x w) n k (first_place w (n + 1) xs) (first_place w (n + 1) (xs ++ ys)) (place_kept w (n + 1) k xs ys) e

none_by : (b : Bool) (n m : ℕ) (r s : Option ℕ) → (r ≡ None → s ≡ None) → cond b (Some n) r ≡ None → cond b (Some m) s ≡ None
none_by true n m r s h e = absurd (none-some n (sym e))
none_by false n m r s h e = h e

none_from : (w : List ℕ) (n m : ℕ) (ys : List (List ℕ)) → first_place w n ys ≡ None → first_place w m ys ≡ None
none_from w n m [] e = refl
none_from w n m (y ∷ ys) e = none_by (bytes_eq y w) n m (first_place w (n + 1) ys) (first_place w (m + 1) ys) (none_from w (n + 1) (m + 1) ys) e

none_kept : (w : List ℕ) (n : ℕ) (xs ys : List (List ℕ)) → first_place w 0 ys ≡ None → first_place w n xs ≡ None → first_place w n (xs ++ ys) ≡ None
none_kept w n [] ys none e = none_from w 0 n ys none
none_kept w n (x ∷ xs) ys none e = none_by (bytes_eq x w) n n (first_place w (n + 1) xs) (first_place w (n + 1) (xs ++ ys)) (none_kept w (n + 1) xs ys none) e

found_same : (w : List ℕ) (n : ℕ) (xs ys : List (List ℕ)) (o : Option ℕ) → o ≡ first_place w n xs → (o ≡ None → first_place w 0 ys ≡ None) → first_place w n (xs ++ ys) ≡ o
found_same w n xs ys (Some k) is settled = place_kept w n k xs ys (sym is)
found_same w n xs ys None is settled = none_kept w n xs ys (settled refl) (sym is)

-- names that are told alike of each word
once_same : (f g : ℕ → Option (List ℕ)) → ((k : ℕ) → f k ≡ g k) → (n : ℕ) → once_words f n ≡ once_words g n
once_same f g same zero = refl
once_same f g same (suc n) = ap (λ ws. with_told ws (f n)) (once_same f g same n) ∙ ap (with_told (once_words g n)) (same n)

-- a name with the line below that gives it, by all names
abbrev pub refound : List (List ℕ) → ℕ → NamedWord → NamedWord
refound names number x = record { word = x.word; above = x.above; below = first_place x.word.now number (drop number names) }

-- by the names of the first lines, and of all
module _ (first rest : List (List ℕ)) (number : ℕ) (reached : number - 1 < length first) where
  above_same : take (number - 1) (first ++ rest) ≡ take (number - 1) first
  above_same = take-append-le (number - 1) first rest (omega (arith, reached))

  below_is : drop number (first ++ rest) ≡ drop number first ++ rest
  below_is = drop-append-le number first rest (omega (arith, reached))

  new_same : (w : List ℕ) → told_new (first ++ rest) number w ≡ told_new first number w
  new_same w = ap (λ ns. cond (is_some (first_place w 0 ns)) (Some w) None) above_same

  told_same : (p : Option Place) (w : List ℕ) → told_in (first ++ rest) number p w ≡ told_in first number p w
  told_same None w = refl
  told_same (Some NewName) w = new_same w
  told_same (Some SpaceName) w = refl
  told_same (Some LockName) w = refl
  told_same (Some BarrierName) w = refl
  told_same (Some UserName) w = refl
  told_same (Some PhaseName) w = refl
  told_same (Some AcquireName) w = refl
  told_same (Some EventName) w = refl
  told_same (Some CallName) w = refl
  told_same (Some Column) w = refl
  told_same (Some DataColumn) w = refl
  told_same (Some Fields) w = refl
  told_same (Some Value) w = refl
  told_same (Some Times) w = refl
  told_same (Some Weight) w = refl
  told_same (Some Shared) w = refl
  told_same (Some Count) w = refl
  told_same (Some Intervals) w = refl

  names_same : (format : Format) (ws : List (List ℕ)) (why : Why) → names_for format (first ++ rest) number ws why ≡ names_for format first number ws why
  names_same format ws why =
      ap (λ ns. cond (tells_names why) ns []) (once_same (told_word format (first ++ rest) number ws) (told_word format first number ws) (λ k. told_same (place_at format ws k) (slice_index_or ws k [])) (length ws))

  named_again : (x : NamedWord) → IsNamedWord first number x → IsNamedWord (first ++ rest) number (refound (first ++ rest) number x)
  named_again x is = record { above = is.above ∙ sym (ap (first_place x.word.now 0) above_same); below = refl }

  words_again : (xs : List NamedWord) → map (λ (x : NamedWord). x.word.now) (map (refound (first ++ rest) number) xs) ≡ map (λ (x : NamedWord). x.word.now) xs
  words_again [] = refl
  words_again (x ∷ xs) = ap (λ ws. x.word.now ∷ ws) (words_again xs)

  pub names_again : (format : Format) (ws : List (List ℕ)) (why : Why) (most : ℕ) (named : List NamedWord) (more : ℕ) → AreNamed format first number ws why most named more → AreNamed format (first ++ rest) number ws why most (map (refound (first ++ rest) number) named) more
  names_again format ws why most named more are = record {
    words_are = words_again named ∙ (are.words_are ∙ ap (take most) (sym (names_same format ws why)));
    more_is = are.more_is ∙ ap (λ ns. length ns - most) (sym (names_same format ws why));
    each = λ y c. (let found = map_contains (refound (first ++ rest) number) named y c in subst (IsNamedWord (first ++ rest) number) found.2 (named_again found.0 (are.each found.0 found.1)));
  }

  -- and what is told of it
  module _ (ls more : List (List ℕ)) (sized : length first ≡ length ls) where
    below_kept : (w : List ℕ) (o : Option ℕ) → IfSome o (λ k. k < length ls) → below_text (ls ++ more) w o ≡ below_text ls w o
    below_kept w None inside = refl
    below_kept w (Some k) inside = ap (λ l. codes "no line above gives " ++ (shown w ++ (codes ", but line " ++ (decimal (k + 1) ++ (codes ": " ++ (shown_for w l ++ codes "\n")))))) (line_kept ls more k inside)

    by_same : (w : List ℕ) (above below all : Option ℕ) → IfSome above (λ k. k < length ls) → IfSome below (λ k. k < length ls) → (above ≡ None → all ≡ below) → named_by (ls ++ more) w above all ≡ named_by ls w above below
    by_same w (Some k) below all inside under same = ap (λ l. shown w ++ (codes " is given by line " ++ (decimal (k + 1) ++ (codes ": " ++ (shown_for w l ++ codes "\n"))))) (line_kept ls more k inside)
    by_same w None below all inside under same = ap (below_text (ls ++ more) w) (same refl) ∙ below_kept w below under

    text_again : (x : NamedWord) → IsNamedWord first number x → IsInside (length ls) x → (x.above ≡ None → x.below ≡ None → first_place x.word.now 0 rest ≡ None) → named_text (ls ++ more) (refound (first ++ rest) number x) ≡ named_text ls x
    text_again x is inside settled =
        by_same x.word.now x.above x.below (first_place x.word.now number (drop number (first ++ rest))) inside.above inside.below
        (λ none. ap (first_place x.word.now number) below_is ∙ found_same x.word.now number (drop number first) rest x.below is.below (settled none))

    pub texts_again : (xs : List NamedWord) → ((x : NamedWord) → Contains xs x → IsNamedWord first number x) → ((x : NamedWord) → Contains xs x → IsInside (length ls) x) → ((x : NamedWord) → Contains xs x → x.above ≡ None → x.below ≡ None → first_place x.word.now 0 rest ≡ None) →
        named_texts (ls ++ more) (map (refound (first ++ rest) number) xs) ≡ named_texts ls xs
    texts_again [] is inside settled = refl
    texts_again (x ∷ xs) is inside settled =
        ap (λ t. t ++ named_texts (ls ++ more) (map (refound (first ++ rest) number) xs)) (text_again x (is x (contains_here x xs)) (inside x (contains_here x xs)) (settled x (contains_here x xs)))
        ∙ ap (λ t. named_text ls x ++ t) (texts_again xs (λ y c. is y (contains_there x xs y c)) (λ y c. inside y (contains_there x xs y c)) (λ y c. settled y (contains_there x xs y c)))

    third_kept : (o : Option ℕ) → IfSome o (λ k. k < length ls) → third_at (ls ++ more) o ≡ third_at ls o
    third_kept None inside = refl
    third_kept (Some k) inside = ap (λ l. third_of (pieces 32 l)) (line_kept ls more k inside)

    over_same : (owner : List ℕ) → over_word (ls ++ more) (first ++ rest) number owner ≡ over_word ls first number owner
    over_same owner =
        ap (λ ns. third_at (ls ++ more) (first_place owner 0 ns)) above_same
        ∙ third_kept (first_place owner 0 (take (number - 1) first)) (place_inside owner 0 (length ls) (take (number - 1) first) (first_place owner 0 (take (number - 1) first)) refl (omega (arith, sized, length-take (number - 1) first)))

    over_in : (p : Option Place) (w : List ℕ) → space_in (ls ++ more) (first ++ rest) number p w ≡ space_in ls first number p w
    over_in None w = refl
    over_in (Some Column) w = ap Some (over_same (first_piece (pieces 46 w)))
    over_in (Some DataColumn) w = ap Some (over_same (first_piece (pieces 46 w)))
    over_in (Some NewName) w = refl
    over_in (Some SpaceName) w = refl
    over_in (Some LockName) w = refl
    over_in (Some BarrierName) w = refl
    over_in (Some UserName) w = refl
    over_in (Some PhaseName) w = refl
    over_in (Some AcquireName) w = refl
    over_in (Some EventName) w = refl
    over_in (Some CallName) w = refl
    over_in (Some Fields) w = refl
    over_in (Some Value) w = refl
    over_in (Some Times) w = refl
    over_in (Some Weight) w = refl
    over_in (Some Shared) w = refl
    over_in (Some Count) w = refl
    over_in (Some Intervals) w = refl

    space_same : (format : Format) (ws : List (List ℕ)) (why : Why) (mark : Option ℕ) → space_for format (ls ++ more) (first ++ rest) number ws why mark ≡ space_for format ls first number ws why mark
    space_same format ws reasons.Outside (Some k) = over_in (place_at format ws k) (slice_index_or ws k [])
    space_same format ws reasons.Outside None = refl
    space_same format ws reasons.Header mark = refl
    space_same format ws reasons.Syntax mark = refl
    space_same format ws reasons.Name mark = refl
    space_same format ws reasons.Twice mark = refl
    space_same format ws reasons.Unknown mark = refl
    space_same format ws reasons.Kind mark = refl
    space_same format ws reasons.Number mark = refl
    space_same format ws reasons.Space mark = refl
    space_same format ws reasons.Meets mark = refl
    space_same format ws reasons.Arrivals mark = refl
    space_same format ws reasons.Limit mark = refl
    space_same format ws reasons.Missing mark = refl
    space_same format ws reasons.Rest mark = refl

    pub space_again : (format : Format) (ws : List (List ℕ)) (why : Why) (mark : Option ℕ) (space : Option NamedWord) → TellsSpace format ls first number ws why mark space → TellsSpace format (ls ++ more) (first ++ rest) number ws why mark (option_map (refound (first ++ rest) number) space)
    space_again format ws why mark None is = record { word_is = is.word_is ∙ sym (space_same format ws why mark); named = tt }
    space_again format ws why mark (Some x) is = record { word_is = is.word_is ∙ sym (space_same format ws why mark); named = named_again x is.named }

    pub space_told : (format : Format) (ws : List (List ℕ)) (why : Why) (mark : Option ℕ) (space : Option NamedWord) → TellsSpace format ls first number ws why mark space → IfSome space (IsInside (length ls)) → IfSome space (λ (x : NamedWord). x.above ≡ None → x.below ≡ None → first_place x.word.now 0 rest ≡ None) →
        space_text (ls ++ more) (option_map (refound (first ++ rest) number) space) ≡ space_text ls space
    space_told format ws why mark None is inside settled = refl
    space_told format ws why mark (Some x) is inside settled = text_again x is.named inside settled

abbrev done : Result ℕ ℕ
done = Ok 0

-- the text on a line of these words
module _ (number : ℕ) (reason : Why) (g : GraphValue) (mark : Option ℕ) (limit : Option Quantity) (n : ℕ) (ws : List (List ℕ)) where
  abbrev parts : (line ended names space : List ℕ) → List ℕ
  parts line ended names space = refused_text reason number line ws mark ++ (limit_text limit ++ (ended ++ (((names ++ more_text n) ++ space) ++ (columns_text g ws reason mark ++ advice_text g reason line ws mark))))

  parts_same : (l m d e t u s v : List ℕ) → l ≡ m → d ≡ e → t ≡ u → s ≡ v → parts l d t s ≡ parts m e u v
  parts_same l m d e t u s v lines ends names spaces = ap (λ z. parts z d t s) lines ∙ (ap (λ z. parts m z t s) ends ∙ (ap (λ z. parts m e z s) names ∙ ap (parts m e u) spaces))

  -- what the first lines tell of it, all lines tell
  module _ (ls : TextLines) (more : List (List ℕ)) (old new : List ℕ) (ended : Option ℕ) (named : List NamedWord) (space : Option NamedWord) where
    abbrev all_names : List (List ℕ)
    all_names = given_names ls.lines ++ given_names more

    names_are : given_names (ls.lines ++ more) ≡ all_names
    names_are = map-append (λ l. given_name (pieces 32 l)) ls.lines more

    sized : length (given_names ls.lines) ≡ length ls.lines
    sized = simp length-map

    ended_same : IsEndSettled g ls ended → ended_text g (with_lines ls more) ended ≡ ended_text g ls ended
    ended_same = ended_by ended
      where
        ended_by : (o : Option ℕ) → IsEndSettled g ls o → ended_text g (with_lines ls more) o ≡ ended_text g ls o
        ended_by None settled = refl
        ended_by (Some i) settled = ended_stays g ls more i settled

    by_first : number - 1 < length ls.lines → AreSettledBy g ls more named space ended → ws ≡ words_of ls.lines number → IsRefusedWord g reason ws mark → option_map quantity_value limit ≡ limit_for g ws reason → MatchOption mark (ended ≡ None) (λ k. IsEndedBy g ws k ended)
        → AreNamed g.format (given_names ls.lines) number ws reason (most_names ls ws) named n → TellsSpace g.format ls.lines (given_names ls.lines) number ws reason mark space → ((x : NamedWord) → Contains named x → IsInside (length ls.lines) x) → IfSome space (IsInside (length ls.lines))
        → new ≡ old ++ marks ls number reason g mark limit ended named n space ws → IsMarkedText (with_lines ls more) number reason g old new
    by_first reached settled same m l e are tells inside space_inside t =
        let there : number - 1 < length (given_names ls.lines) = omega (arith, reached, sized) in
        marked done (with_lines ls more) number reason g old new mark limit ended (map (refound all_names number) named) n (option_map (refound all_names number) space) ws
        (same ∙ sym (ap (pieces 32) (line_kept ls.lines more (number - 1) reached))) m l e
        (subst (λ names. AreNamed g.format names number ws reason (most_names ls ws) (map (refound all_names number) named) n) (sym names_are) (names_again (given_names ls.lines) (given_names more) number there g.format ws reason (most_names ls ws) named n are))
        (subst (λ names. TellsSpace g.format (ls.lines ++ more) names number ws reason mark (option_map (refound all_names number) space)) (sym names_are) (space_again (given_names ls.lines) (given_names more) number there ls.lines more sized g.format ws reason mark space tells))
        (t ∙ ap (λ z. old ++ z) (sym (parts_same (refused_line (ls.lines ++ more) number) (refused_line ls.lines number) (ended_text g (with_lines ls more) ended) (ended_text g ls ended)
        (named_texts (ls.lines ++ more) (map (refound all_names number) named)) (named_texts ls.lines named) (space_text (ls.lines ++ more) (option_map (refound all_names number) space)) (space_text ls.lines space)
        (line_kept ls.lines more (number - 1) reached) (ended_same settled.end_is)
        (texts_again (given_names ls.lines) (given_names more) number there ls.lines more sized named are.each inside settled.names)
        (space_told (given_names ls.lines) (given_names more) number there ls.lines more sized g.format ws reason mark space tells space_inside settled.space_is))))

    by_none : more ≡ [] → IsMarkedText ls number reason g old new → IsMarkedText (with_lines ls more) number reason g old new
    by_none none t = subst (λ m. IsMarkedText (with_lines ls m) number reason g old new) (sym none) (subst (λ z. IsMarkedText (record { bytes = ls.bytes; lines = z; all = ls.all }) number reason g old new) (sym (append-nil ls.lines)) t)

    pub carried : IsReached ls.lines more number → AreSettled g ls more named space ended → ws ≡ words_of ls.lines number → IsRefusedWord g reason ws mark → option_map quantity_value limit ≡ limit_for g ws reason → MatchOption mark (ended ≡ None) (λ k. IsEndedBy g ws k ended)
        → AreNamed g.format (given_names ls.lines) number ws reason (most_names ls ws) named n → TellsSpace g.format ls.lines (given_names ls.lines) number ws reason mark space → ((x : NamedWord) → Contains named x → IsInside (length ls.lines) x) → IfSome space (IsInside (length ls.lines))
        → new ≡ old ++ marks ls number reason g mark limit ended named n space ws → IsMarkedText (with_lines ls more) number reason g old new
    carried (inl none) settled same m l e are tells inside space_inside t = by_none none (marked done ls number reason g old new mark limit ended named n space ws same m l e are tells t)
    carried (inr reached) (inl none) same m l e are tells inside space_inside t = by_none none (marked done ls number reason g old new mark limit ended named n space ws same m l e are tells t)
    carried (inr reached) (inr settled) same m l e are tells inside space_inside t = by_first reached settled same m l e are tells inside space_inside t

-- the refused line, and the text on it above which no graph is
line_again : (ls more : List (List ℕ)) (number : ℕ) → IsReached ls more number → refused_line (ls ++ more) number ≡ refused_line ls number
line_again ls more number (inl none) = ap (λ m. refused_line (ls ++ m) number) none ∙ ap (λ z. refused_line z number) (append-nil ls)
line_again ls more number (inr reached) = line_kept ls more (number - 1) reached

unread_again : (ls more : List (List ℕ)) (number : ℕ) (reason : Why) → IsReached ls more number → unread_text ls number reason ≡ unread_text (ls ++ more) number reason
unread_again ls more number reason reached =
    ap (λ l. codes "refused line " ++ (decimal number ++ (codes " " ++ (why_word reason ++ (codes "\nline " ++ (decimal number ++ (codes ": " ++ (shown l ++ codes "\n")))))))) (sym (line_again ls more number reached))

first_again : (ls more : List (List ℕ)) (number : ℕ) (reason : Why) → IsReached ls more number → first_text ls number reason ≡ first_text (ls ++ more) number reason
first_again ls more number reason reached = ap (λ l. mark_text number [] [] None ++ advice One false reason l (pieces 32 l)) (sym (line_again ls more number reached))

module _ (ls : TextLines) (more : List (List ℕ)) (number : ℕ) (reason : Why) (reached : IsReached ls.lines more number) (ps qs : List (List ℕ)) (front new : List ℕ) (is : ps ≡ ls.lines) (front_is : front ≡ unread_text ps number reason) where
  pub unread_none : qs ≡ ls.lines → new ≡ front ++ first_text qs number reason → IsUnreadText (with_lines ls more) number reason None new
  unread_none also t =
      t ∙ (ap (λ z. z ++ first_text qs number reason) (front_is ∙ (ap (λ z. unread_text z number reason) is ∙ unread_again ls.lines more number reason reached))
      ∙ ap (λ z. unread_text (ls.lines ++ more) number reason ++ z) (ap (λ z. first_text z number reason) also ∙ first_again ls.lines more number reason reached))

  pub unread_some : (g : GraphValue) → IsMarkedText (with_lines ls more) number reason g front new → IsUnreadText (with_lines ls more) number reason (Some g) new
  unread_some g t = subst (λ z. IsMarkedText (with_lines ls more) number reason g z new) (front_is ∙ (ap (λ z. unread_text z number reason) is ∙ unread_again ls.lines more number reason reached)) t

-- the first lines with those behind them are all
pub all_lines : (ls : TextLines) (parts more : List (List ℕ)) (all : Bool) (bytes : List ℕ) → ls ≡ record { bytes = bytes; lines = parts; all = all } → parts ++ more ≡ pieces 10 bytes → with_lines ls more ≡ asked all bytes
all_lines ls parts more all bytes is both = ap (λ (l : TextLines). with_lines l more) is ∙ ap (λ (z : List (List ℕ)). record { bytes = bytes; lines = z; all = all }) both

pub by_all : {E : Type 0} (r : Result FrontText E) (rest : Option (Bor (List ℕ))) (ls all : TextLines) (number : ℕ) (reason : Why) (above : Option GraphValue) → ls ≡ all → IfOk r (λ t. IsTold rest t.missing → IsUnreadText ls number reason above t.text) → IfOk r (λ t. t.missing ≡ 0 → IsUnreadText all number reason above t.text)
by_all (Ok t) rest ls all number reason above same told = λ none. subst (λ (l : TextLines). IsUnreadText l number reason above t.text) same (told (inr none))
by_all (Err e) rest ls all number reason above same told = tt
