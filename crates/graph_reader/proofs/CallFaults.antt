-- What refuses the words of a call.
use Rattle.std.proofs.Common.{◌≡◌, ℕ, ◌+◌, ◌-◌, ◌*◌, ◌≤◌, Bool, true, false, cond, not, ◌||◌, List, [], ◌∷◌, ◌++◌, length, take, drop, take_all, get_or, map, refl, sym, ◌∙◌, ap, subst, inr, append_assoc, append-nil, length-append, arith, Bor}
use Rattle.std.specs.Prelude.{Some, None, Result, Ok, Err, MatchResult, bytes_eq}
use Rattle.std.specs.Option.{option_map_or}
use Rattle.std.proofs.lemmas.List.{map-append}
use Rattle.std.proofs.lemmas.Grind.{flat_map-append}
use Rattle.basics.specs.Words.{contents}
use Rattle.std.specs.List.{list_any, list_all}
use Rattle.std.proofs.lemmas.Bool.{cond-true, not-false}
use Rattle.graph_terms.specs.declared.verb.Access.{Access}
use Rattle.graph_terms.specs.declared.verb.Mode.{Mode}
use Rattle.graph_terms.specs.declared.verb.Line.{Line}
use Rattle.graph_terms.specs.declared.why.Why.{Why}
use Rattle.graph_terms.specs.declared.why.Why.TheVariants as why
use Rattle.graph_terms.specs.Graph.{GraphValue}
use Rattle.graph_terms.specs.Name.{is_name_in}
use Rattle.graph_terms.specs.Fits.{repeats, first_reason, is_used, line_fault}
use Rattle.graph_words.specs.Calls.{AccessWords, CallWords, mode_of, access_words}
use Rattle.graph_words.specs.Draft.{Placed, EventName, DataColumn, SpaceName, Draft, access_spelled, values_placed, accesses_placed, events_placed, call_with}
use Rattle.graph_reader.specs.FirstFault.{draft_tests, draft_fault, or_else, item_fault}
use Rattle.word_meanings.specs.WordFaults.{misnamed, twice, unknown, unlike, misnumbered, misordered}
use Rattle.graph_reader.specs.Kinds.{later_reason}
use Rattle.graph_reader.specs.Laws.{NoAccessInFew}
use Rattle.word_meanings.specs.Telling.{AllTell}
use Rattle.graph_reader.specs.Calls.{word_placed, call_placed, seen_reason}
use Rattle.word_meanings.specs.declared.faults.Faults.{Faults}
use Rattle.graph_reader.specs.declared.item.ItemError.{ItemError}
use Rattle.graph_reader.specs.declared.item.ItemError.TheVariants as errors
use Rattle.graph_reader.specs.Reading.{IsLineRead}
use Rattle.word_meanings.proofs.Public.{all_tell_both}
use Rattle.basics.proofs.TestedLists.{any_map, any_right}
use Rattle.graph_reader.proofs.Drafts.{event_words, column_words, events_listed, events_no_columns}
use Rattle.graph_reader.proofs.CallForms.{values_no_events, accesses_no_events}
use Rattle.graph_reader.proofs.FormFaults.{fails, none_of, some_fail, reason_by, used_first, or_false, twice_by, left_by, first_fails}

-- accesses so far, by what is to be said of their words
pub record SeenSoFar (g : GraphValue) (ws rest : List (List ℕ)) (xs : List Access) (f : Faults) : Type 0 where
  pub done : List AccessWords
  pub whole : done ++ access_words rest ≡ access_words ws
  pub accesses : xs ≡ map (access_spelled g) done
  pub faults : AllTell g (accesses_placed done) f

-- the access of three words more
abbrev one_access : Mode → List ℕ → List ℕ → AccessWords
one_access m c s = record { mode = m; column = c; space = s }

pub seen_more : (g : GraphValue) (ws now rest : List (List ℕ)) (a b c : List ℕ) (m : Mode) (xs ys : List Access) (x : Access) (f k h : Faults) → SeenSoFar g ws now xs f → now ≡ a ∷ b ∷ c ∷ rest → Some m ≡ mode_of a → x ≡ access_spelled g (one_access m b c) → ys ≡ xs ++ x ∷ [] →
    AllTell g (accesses_placed (one_access m b c ∷ [])) k →
    h.misnamed ≡ (f.misnamed || k.misnamed) → h.twice ≡ (f.twice || k.twice) → h.unknown ≡ (f.unknown || k.unknown) → h.unlike ≡ (f.unlike || k.unlike) → h.misnumbered ≡ (f.misnumbered || k.misnumbered) → SeenSoFar g ws rest ys h
seen_more g ws now rest a b c m xs ys x f k h seen cut mode spelled pushed tell misnamed_with twice_with unknown_with unlike_with misnumbered_with =
    let one : AccessWords = one_access m b c in
    let step : access_words now ≡ one ∷ access_words rest = ap access_words cut ∙ ap (λ o. option_map_or (λ n. one_access n b c ∷ access_words rest) o []) (sym mode) in
    record {
      done = seen.done ++ one ∷ [];
      whole = append_assoc seen.done (one ∷ []) (access_words rest) ∙ (ap (λ zs. seen.done ++ zs) (sym step) ∙ seen.whole);
      accesses = pushed ∙ (ap (λ zs. zs ++ x ∷ []) seen.accesses ∙ (ap (λ z. map (access_spelled g) seen.done ++ z ∷ []) spelled ∙ sym (map-append (access_spelled g) seen.done (one ∷ []))));
      faults = subst (λ qs. AllTell g qs h) (sym (flat_map-append (λ (y : AccessWords). (DataColumn, y.column) ∷ (SpaceName, y.space) ∷ []) seen.done (one ∷ [])))
          (all_tell_both g (accesses_placed seen.done) (accesses_placed (one ∷ [])) f k h seen.faults tell misnamed_with twice_with unknown_with unlike_with misnumbered_with);
    }

pub seen_done : (g : GraphValue) (ws rest : List (List ℕ)) (xs : List Access) (f : Faults) → (seen : SeenSoFar g ws rest xs f) → access_words rest ≡ [] → seen.done ≡ access_words ws
seen_done g ws rest xs f seen h = sym (append-nil seen.done) ∙ (ap (λ zs. seen.done ++ zs) (sym h) ∙ seen.whole)

pub seen_accesses : (g : GraphValue) (ws rest : List (List ℕ)) (xs : List Access) (f : Faults) → SeenSoFar g ws rest xs f → access_words rest ≡ [] → xs ≡ map (access_spelled g) (access_words ws)
seen_accesses g ws rest xs f seen h = seen.accesses ∙ ap (map (access_spelled g)) (seen_done g ws rest xs f seen h)

pub seen_faults : (g : GraphValue) (ws rest : List (List ℕ)) (xs : List Access) (f : Faults) → SeenSoFar g ws rest xs f → access_words rest ≡ [] → AllTell g (accesses_placed (access_words ws)) f
seen_faults g ws rest xs f seen h = subst (λ zs. AllTell g (accesses_placed zs) f) (seen_done g ws rest xs f seen h) seen.faults

-- words of which the first names no mode
pub other_word : (ws rest : List (List ℕ)) (a b c : List ℕ) → ws ≡ a ∷ b ∷ c ∷ rest → None ≡ mode_of a → access_words ws ≡ []
other_word ws rest a b c cut mode = ap access_words cut ∙ ap (λ o. option_map_or (λ n. one_access n b c ∷ access_words rest) o []) (sym mode)

-- the first three words and those behind them
pub three_first : (ws : List (Bor (List ℕ))) (d e f : Bor (List ℕ)) → 3 ≤ length ws → contents ws ≡ (get_or ws 0 d).now ∷ (get_or ws 1 e).now ∷ (get_or ws 2 f).now ∷ contents (take (length ws - 3) (drop 3 ws))
three_first [] d e f h = absurd (omega arith)
three_first (x ∷ []) d e f h = absurd (omega arith)
three_first (x ∷ y ∷ []) d e f h = absurd (omega arith)
three_first (x ∷ y ∷ z ∷ ws) d e f h = ap (λ us. x.now ∷ y.now ∷ z.now ∷ contents us) (sym (take_all (length (x ∷ y ∷ z ∷ ws) - 3) ws (omega arith)))

three_fewer : (ws : List (Bor (List ℕ))) → 3 ≤ length ws → length (take (length ws - 3) (drop 3 ws)) + 3 ≡ length ws
three_fewer [] h = absurd (omega arith)
three_fewer (x ∷ []) h = absurd (omega arith)
three_fewer (x ∷ y ∷ []) h = absurd (omega arith)
three_fewer (x ∷ y ∷ z ∷ ws) h = ap (λ us. length us + 3) (take_all (length (x ∷ y ∷ z ∷ ws) - 3) ws (omega arith)) ∙ (let e : length ws + 3 ≡ length (x ∷ y ∷ z ∷ ws) = omega arith in e)

-- one access more, and three words fewer
pub counted_more : (xs ys : List Access) (x : Access) (rs : List (Bor (List ℕ))) (n : ℕ) → 3 ≤ length rs → ys ≡ xs ++ x ∷ [] → length xs * 3 + length rs ≤ n → length ys * 3 + length (take (length rs - 3) (drop 3 rs)) ≤ n
counted_more xs ys x rs n l e h =
    let fewer : length (take (length rs - 3) (drop 3 rs)) + 3 ≡ length rs = three_fewer rs l in
    let longer : length ys ≡ length xs + 1 = ap length e ∙ length-append xs (x ∷ []) in
    omega arith

-- words that go on with no access
pub few_words : NoAccessInFew
few_words [] h = refl
few_words (a ∷ []) h = refl
few_words (a ∷ b ∷ []) h = refl
few_words (a ∷ b ∷ c ∷ cs) h = absurd (omega arith)

-- values, accesses and events take no intervals
quiet_values : (ws : List (List ℕ)) (ps : List Placed) → fails misordered (values_placed ws ++ ps) ≡ fails misordered ps
quiet_values [] ps = refl
quiet_values (w ∷ ws) ps = quiet_values ws ps

quiet_accesses : (xs : List AccessWords) (ps : List Placed) → fails misordered (accesses_placed xs ++ ps) ≡ fails misordered ps
quiet_accesses [] ps = refl
quiet_accesses (x ∷ xs) ps = quiet_accesses xs ps

quiet_call : (c : CallWords) → fails misordered (call_placed c) ≡ false
quiet_call c = quiet_values c.values (accesses_placed c.accesses ++ events_placed c.events)
    ∙ (quiet_accesses c.accesses (events_placed c.events)
    ∙ (any_map (λ (p : Placed). misordered p.0 p.1) (λ w. (EventName, w)) c.events ∙ none_of c.events))

events_are : (c : CallWords) → event_words (call_placed c) ≡ c.events
events_are c = (values_no_events c.values (accesses_placed c.accesses ++ events_placed c.events)).0 ∙ ((accesses_no_events c.accesses (events_placed c.events)).0 ∙ events_listed c.events)

columns_are : (c : CallWords) → column_words (call_placed c) ≡ []
columns_are c = (values_no_events c.values (accesses_placed c.accesses ++ events_placed c.events)).1 ∙ ((accesses_no_events c.accesses (events_placed c.events)).1 ∙ events_no_columns c.events)

module _ (g : GraphValue) (name : List ℕ) (c : CallWords) where
  abbrev ps : List Placed
  ps = call_placed c

  -- the first reason that refuses a word
  reason_is : is_name_in g.format name ≡ true → (f : Faults) → AllTell g ps f → first_reason (draft_tests g (call_with g name c)) ≡ seen_reason (is_used g name) f (repeats bytes_eq c.events)
  reason_is n f tell =
      reason_by g (call_with g name c) name ps (repeats bytes_eq c.events) false refl n (ap (repeats bytes_eq) (events_are c)) (ap (repeats bytes_eq) (columns_are c)) (quiet_call c)
      ∙ (ap (λ x. first_reason ((x, why.Name) ∷ (is_used g name || (fails (twice g) ps || (repeats bytes_eq c.events || false)), why.Twice) ∷ (fails (unknown g) ps, why.Unknown) ∷ (fails (unlike g) ps, why.Kind) ∷ (fails (misnumbered g.format) ps, why.Number) ∷ [])) (sym tell.misnamed)
      ∙ (ap (λ x. first_reason ((f.misnamed, why.Name) ∷ (is_used g name || (x || (repeats bytes_eq c.events || false)), why.Twice) ∷ (fails (unknown g) ps, why.Unknown) ∷ (fails (unlike g) ps, why.Kind) ∷ (fails (misnumbered g.format) ps, why.Number) ∷ [])) (sym tell.twice)
      ∙ (ap (λ x. first_reason ((f.misnamed, why.Name) ∷ (is_used g name || (f.twice || x), why.Twice) ∷ (fails (unknown g) ps, why.Unknown) ∷ (fails (unlike g) ps, why.Kind) ∷ (fails (misnumbered g.format) ps, why.Number) ∷ [])) (or_false (repeats bytes_eq c.events))
      ∙ (ap (λ x. first_reason ((f.misnamed, why.Name) ∷ (is_used g name || (f.twice || repeats bytes_eq c.events), why.Twice) ∷ (x, why.Unknown) ∷ (fails (unlike g) ps, why.Kind) ∷ (fails (misnumbered g.format) ps, why.Number) ∷ [])) (sym tell.unknown)
      ∙ (ap (λ x. first_reason ((f.misnamed, why.Name) ∷ (is_used g name || (f.twice || repeats bytes_eq c.events), why.Twice) ∷ (f.unknown, why.Unknown) ∷ (x, why.Kind) ∷ (fails (misnumbered g.format) ps, why.Number) ∷ [])) (sym tell.unlike)
      ∙ ap (λ x. first_reason ((f.misnamed, why.Name) ∷ (is_used g name || (f.twice || repeats bytes_eq c.events), why.Twice) ∷ (f.unknown, why.Unknown) ∷ (f.unlike, why.Kind) ∷ (x, why.Number) ∷ [])) (sym tell.misnumbered))))))

  pub call_refused : (f : Faults) → AllTell g ps f → (w : Why) → is_name_in g.format name ≡ true → seen_reason (is_used g name) f (repeats bytes_eq c.events) ≡ Some w → draft_fault g (call_with g name c) ≡ Some w
  call_refused f tell w n h = ap (λ r. or_else r (item_fault g (call_with g name c).item)) (reason_is n f tell ∙ h)

  -- a name in use is the first reason of the line itself
  pub call_left : (f : Faults) → AllTell g ps f → is_name_in g.format name ≡ true → seen_reason (is_used g name) f (repeats bytes_eq c.events) ≡ cond (is_used g name) (Some why.Twice) None → draft_fault g (call_with g name c) ≡ item_fault g (call_with g name c).item
  call_left f tell n h = ap (λ r. or_else r (item_fault g (call_with g name c).item)) (reason_is n f tell ∙ h) ∙ used_first (is_used g name) _ _

  -- where no word is misnamed, each event is spelled as a name
  pub call_events_named : (f : Faults) → AllTell g ps f → f.misnamed ≡ false → list_all (is_name_in g.format) c.events ≡ true
  call_events_named f tell h =
      let test : Placed → Bool = λ p. misnamed g.format p.0 p.1 in
      let behind : List Placed = accesses_placed c.accesses ++ events_placed c.events in
      let all : list_any test ps ≡ false = sym tell.misnamed ∙ h in
      let later : list_any test (values_placed c.values ++ behind) ≡ false = any_right test (word_placed c.word) (values_placed c.values ++ behind) all in
      let more : list_any test behind ≡ false = any_right test (values_placed c.values) behind later in
      let events : list_any test (events_placed c.events) ≡ false = any_right test (accesses_placed c.accesses) (events_placed c.events) more in
      not-false (list_all (is_name_in g.format) c.events) (sym (some_fail (is_name_in g.format) c.events) ∙ (sym (any_map test (λ w. (EventName, w)) c.events) ∙ events))

pub misnamed_call : (g : GraphValue) (name : List ℕ) (c : CallWords) → is_name_in g.format name ≡ false → draft_fault g (call_with g name c) ≡ Some why.Name
misnamed_call g name c h = first_fails g (call_with g name c) (ap (λ b. not b || fails (misnamed g.format) (call_placed c)) h)

pub misnamed_word : (g : GraphValue) (name : List ℕ) (c : CallWords) → is_name_in g.format c.word ≡ false → draft_fault g (call_with g name c) ≡ Some why.Name
misnamed_word g name c h = first_fails g (call_with g name c)
    (ap (λ b. not (is_name_in g.format name) || (not b || fails (misnamed g.format) (values_placed c.values ++ (accesses_placed c.accesses ++ events_placed c.events)))) h ∙ or_yes (not (is_name_in g.format name)))
  where
    or_yes : (b : Bool) → (b || true) ≡ true
    or_yes true = refl
    or_yes false = refl

-- what the line of a call is read as
pub call_line : (g : GraphValue) (d : Draft) (r : Result Line ItemError) (l : Line) → draft_fault g d ≡ line_fault g l → d.item ≡ inr l → MatchResult r (λ m. m ≡ l) (λ e. e ≡ errors.NoMemory) → IsLineRead g d r
call_line g d (Ok m) l h k e = (h ∙ ap (line_fault g) (sym e), k ∙ ap inr (sym e))
call_line g d (Err (errors.Refused w)) l h k e = absurd (cc)
call_line g d (Err errors.NoMemory) l h k e = tt

-- the reasons by what is to be said of the words
pub seen_misnamed : (used again : Bool) (f : Faults) → f.misnamed ≡ true → seen_reason used f again ≡ Some why.Name
seen_misnamed used again f h = cond-true f.misnamed (Some why.Name) _ h

pub seen_twice : (used again : Bool) (f : Faults) → f.misnamed ≡ false → (f.twice || again) ≡ true → seen_reason used f again ≡ Some why.Twice
seen_twice used again f h k = twice_by f.misnamed used (f.twice || again) (later_reason f) h k

pub seen_left : (used again : Bool) (f : Faults) → f.misnamed ≡ false → (f.twice || again) ≡ false → seen_reason used f again ≡ cond used (Some why.Twice) (later_reason f)
seen_left used again f h k = left_by f.misnamed used (f.twice || again) (later_reason f) h k
