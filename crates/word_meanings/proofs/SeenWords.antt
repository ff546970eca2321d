-- What is to be said of a word by what it stands for.
use Rattle.std.proofs.Common.{◌≡◌, ℕ, zero, suc, ◌+◌, ◌<◌, ◌≤◌, Bool, true, false, not, ◌&&◌, ◌||◌, List, [], ◌∷◌, ◌++◌, length, take, drop, get_or, map, refl, sym, ◌∙◌, ap, subst, arith, Bor}
use Rattle.std.specs.Prelude.{Option, Some, None, is_some, IfSome, position, bytes_eq, unwrap_or, slice_index_or}
use Rattle.std.specs.Option.{option_map_or}
use Rattle.std.specs.List.{list_any}
use Rattle.std.proofs.lemmas.List.Folds.{list_any-append}
use Rattle.graph_terms.specs.declared.found.Found.{Found}
use Rattle.graph_terms.specs.declared.format.Format.{Format}
use Rattle.graph_terms.specs.declared.decl.BarrierInfo.{BarrierInfo}
use Rattle.graph_terms.specs.declared.table.Place as table
use Rattle.graph_terms.specs.declared.table.Place.TheVariants as places
use Rattle.graph_terms.specs.declared.verb.Line.{Line}
use Rattle.graph_terms.specs.Graph.{GraphValue, named_spaces, locks, barriers, line_passes, is_user, is_phase, is_acquire, is_release_of, ends_user}
use Rattle.graph_terms.specs.Name.{is_name_in}
use Rattle.graph_words.specs.Draft.{Place, as_place, Placed, line_number, words_in}
use Rattle.graph_words.specs.Words.{words_of}
use Rattle.word_meanings.specs.WordFaults.{misnamed, twice, unknown, unlike, misnumbered, is_line_name}
use Rattle.word_meanings.specs.Lookups.{IsFound, found_line, found_number, found_twice, found_alike}
use Rattle.word_meanings.specs.Telling.{NamesThing, Tells, AllTell, named_number, placed_value}
use Rattle.word_meanings.specs.declared.seen.Seen.{Seen}
use Rattle.word_meanings.specs.declared.faults.Faults.{Faults}
use Rattle.word_meanings.proofs.Owners.{position_below}
use Rattle.basics.proofs.TestedLists.{position_any}
use Rattle.word_meanings.specs.Laws.{OneIsTold, BothAreTold, NextIsTold}

-- a line that is found is there
below_by : (g : GraphValue) (w : List ℕ) (o : Option ℕ) → position (λ (x : Line). bytes_eq x.name w) g.lines ≡ o → IfSome o (λ i. i < length g.lines)
below_by g w None e = tt
below_by g w (Some i) e = position_below (λ (x : Line). bytes_eq x.name w) g.lines i e

pub found_below : (g : GraphValue) (w : List ℕ) (o : Option Found) → IsFound g w o → IfSome (found_line o) (λ i. i < length g.lines)
found_below g w o f = below_by g w (found_line o) f.line

-- a test of the line that a word names
tested : (q : Option ℕ) (t : ℕ → Bool) → (is_some q && t (unwrap_or q 0)) ≡ option_map_or t q false
tested None t = refl
tested (Some i) t = refl

line_test : (g : GraphValue) (w : List ℕ) (o : Option Found) → IsFound g w o → (t : ℕ → Bool) → (is_line_name g w && t (line_number g w)) ≡ option_map_or t (found_line o) false
line_test g w o f t =
    ap (λ b. b && t (line_number g w)) (position_any (λ (x : Line). bytes_eq x.name w) g.lines)
    ∙ (ap (λ q. is_some q && t (unwrap_or q 0)) f.line ∙ tested (found_line o) t)

module _ (g : GraphValue) (w : List ℕ) (o : Option Found) (f : IsFound g w o) where
  pub twice_is : (p : table.Place) → NamesThing p → found_twice g p o ≡ twice g (as_place p) w
  twice_is places.User n = sym (line_test g w o f (λ i. list_any (λ (l : Line). ends_user i l.verb) g.lines))
  twice_is places.Acquire n = sym (line_test g w o f (λ i. list_any (λ (l : Line). is_release_of i l.verb) g.lines))
  twice_is places.Value n = absurd n
  twice_is places.Times n = absurd n
  twice_is places.Shared n = absurd n
  twice_is places.Weight n = absurd n
  twice_is (places.Column mode over) n = absurd n
  twice_is p n = refl

  pub unlike_is : (p : table.Place) → NamesThing p → not (found_alike g p o) ≡ unlike g (as_place p) w
  unlike_is places.User n = ap not (sym (line_test g w o f (line_passes is_user g)))
  unlike_is places.Phase n = ap not (sym (line_test g w o f (line_passes is_phase g)))
  unlike_is places.Acquire n = ap not (sym (line_test g w o f (line_passes is_acquire g)))
  unlike_is places.Lock n = ap not (sym (position_any (bytes_eq w) (locks g) ∙ ap (λ (q : Option ℕ). is_some q) f.lock))
  unlike_is places.Barrier n = ap not (sym (position_any (λ (x : BarrierInfo). bytes_eq x.name w) (barriers g) ∙ ap (λ (q : Option ℕ). is_some q) f.barrier))
  unlike_is places.Space n = ap not (sym (position_any (λ (x : List ℕ × List (ℕ × ℕ)). bytes_eq x.0 w) (named_spaces g) ∙ ap (λ (q : Option ℕ). is_some q) f.space))
  unlike_is places.Value n = absurd n
  unlike_is places.Times n = absurd n
  unlike_is places.Shared n = absurd n
  unlike_is places.Weight n = absurd n
  unlike_is (places.Column mode over) n = absurd n

  pub unknown_is : (p : table.Place) → NamesThing p → not (is_some o) ≡ unknown g (as_place p) w
  unknown_is places.Value n = absurd n
  unknown_is places.Times n = absurd n
  unknown_is places.Shared n = absurd n
  unknown_is places.Weight n = absurd n
  unknown_is (places.Column mode over) n = absurd n
  unknown_is p n = ap not (sym f.used)

  pub number_is : (p : table.Place) → NamesThing p → unwrap_or (found_number p o) 0 ≡ named_number g (as_place p) w
  number_is places.Lock n = ap (λ q. unwrap_or q 0) (sym f.lock)
  number_is places.Barrier n = ap (λ q. unwrap_or q 0) (sym f.barrier)
  number_is places.Space n = ap (λ q. unwrap_or q 0) (sym f.space)
  number_is places.Value n = absurd n
  number_is places.Times n = absurd n
  number_is places.Shared n = absurd n
  number_is places.Weight n = absurd n
  number_is (places.Column mode over) n = absurd n
  number_is p n = ap (λ q. unwrap_or q 0) (sym f.line)

pub misnamed_is : (fm : Format) (p : table.Place) (w : List ℕ) → NamesThing p → not (is_name_in fm w) ≡ misnamed fm (as_place p) w
misnamed_is fm places.Value w n = absurd n
misnamed_is fm places.Times w n = absurd n
misnamed_is fm places.Shared w n = absurd n
misnamed_is fm places.Weight w n = absurd n
misnamed_is fm (places.Column mode over) w n = absurd n
misnamed_is fm p w n = refl

pub name_plain : (fm : Format) (p : table.Place) (w : List ℕ) → NamesThing p → (misnumbered fm (as_place p) w ≡ false) × (placed_value (as_place p) w ≡ 0)
name_plain fm places.Value w n = absurd n
name_plain fm places.Times w n = absurd n
name_plain fm places.Shared w n = absurd n
name_plain fm places.Weight w n = absurd n
name_plain fm (places.Column mode over) w n = absurd n
name_plain fm p w n = (refl, refl)

-- what is said of an option that is none
pub turned : (b c : Bool) → c ≡ not b → b ≡ not c
turned true c h = sym (ap not h)
turned false c h = sym (ap not h)

-- words in their places, from one of them on
pub placed_next : (ps : List table.Place) (ws : List (List ℕ)) (i : ℕ) → i < length ps → i < length ws → drop i (words_in ps ws) ≡ (as_place (slice_index_or ps i places.User), slice_index_or ws i []) ∷ drop (i + 1) (words_in ps ws)
placed_next [] ws i h k = absurd (omega arith)
placed_next (p ∷ ps) [] i h k = absurd (omega arith)
placed_next (p ∷ ps) (w ∷ ws) zero h k = refl
placed_next (p ∷ ps) (w ∷ ws) (suc i) h k = placed_next ps ws i (omega arith) (omega arith)
    ∙ ap (λ m. (as_place (slice_index_or ps i places.User), slice_index_or ws i []) ∷ drop m (words_in (p ∷ ps) (w ∷ ws))) (let e : suc (i + 1) ≡ suc i + 1 = omega arith in e)

pub placed_over : (ps : List table.Place) (ws : List (List ℕ)) (i : ℕ) → length ps ≤ i → drop i (words_in ps ws) ≡ []
placed_over [] ws zero h = refl
placed_over [] ws (suc i) h = refl
placed_over (p ∷ ps) ws zero h = absurd (omega arith)
placed_over (p ∷ ps) [] (suc i) h = refl
placed_over (p ∷ ps) (w ∷ ws) (suc i) h = placed_over ps ws i (omega arith)

-- whether a word passes a test, as far as they were looked at
abbrev pub AnySoFar : (Placed → Bool) → Bool → List Placed → ℕ → Type 0
AnySoFar t b ps i = (b || list_any t (drop i ps)) ≡ list_any t ps

pub or_again : (a b c : Bool) → ((a || b) || c) ≡ (a || (b || c))
or_again true b c = refl
or_again false b c = refl

or_none : (b : Bool) → b ≡ (b || false)
or_none true = refl
or_none false = refl

pub any_next : (t : Placed → Bool) (b c s : Bool) (ps : List Placed) (i : ℕ) (x : Placed) → AnySoFar t b ps i → drop i ps ≡ x ∷ drop (i + 1) ps → s ≡ t x → c ≡ (b || s) → AnySoFar t c ps (i + 1)
any_next t b c s ps i x h d e k =
    ap (λ y. y || list_any t (drop (i + 1) ps)) (k ∙ ap (λ y. b || y) e)
    ∙ (or_again b (t x) (list_any t (drop (i + 1) ps)) ∙ (ap (λ ys. b || list_any t ys) (sym d) ∙ h))

pub any_end : (t : Placed → Bool) (b : Bool) (ps : List Placed) (i : ℕ) → AnySoFar t b ps i → drop i ps ≡ [] → b ≡ list_any t ps
any_end t b ps i h d = or_none b ∙ (ap (λ ys. b || list_any t ys) (sym d) ∙ h)

-- one word more, by what is to be said of it
or_last : (t : Placed → Bool) (ps : List Placed) (x : Placed) (a b c : Bool) → a ≡ list_any t ps → b ≡ t x → c ≡ (a || b) → c ≡ list_any t (ps ++ x ∷ [])
or_last t ps x a b c h k e = e ∙ (ap (λ y. y || b) h ∙ (ap (λ y. list_any t ps || y) (k ∙ or_none (t x)) ∙ sym (list_any-append t ps (x ∷ []))))

pub all_tell_more : (g : GraphValue) (ps : List Placed) (p : Place) (w : List ℕ) (a c : Faults) (s : Seen) → AllTell g ps a → Tells g p w s →
    c.misnamed ≡ (a.misnamed || s.faults.misnamed) → c.twice ≡ (a.twice || s.faults.twice) → c.unknown ≡ (a.unknown || s.faults.unknown) → c.unlike ≡ (a.unlike || s.faults.unlike) → c.misnumbered ≡ (a.misnumbered || s.faults.misnumbered) →
    AllTell g (ps ++ (p, w) ∷ []) c
all_tell_more g ps p w a c s h t misnamed_with twice_with unknown_with unlike_with misnumbered_with = record {
  misnamed = or_last (λ (q : Placed). misnamed g.format q.0 q.1) ps (p, w) _ _ _ h.misnamed t.misnamed misnamed_with;
  twice = or_last (λ (q : Placed). twice g q.0 q.1) ps (p, w) _ _ _ h.twice t.twice twice_with;
  unknown = or_last (λ (q : Placed). unknown g q.0 q.1) ps (p, w) _ _ _ h.unknown t.unknown unknown_with;
  unlike = or_last (λ (q : Placed). unlike g q.0 q.1) ps (p, w) _ _ _ h.unlike t.unlike unlike_with;
  misnumbered = or_last (λ (q : Placed). misnumbered g.format q.0 q.1) ps (p, w) _ _ _ h.misnumbered t.misnumbered misnumbered_with;
}

-- more words, by what is to be said of them
or_both : (t : Placed → Bool) (ps qs : List Placed) (a b c : Bool) → a ≡ list_any t ps → b ≡ list_any t qs → c ≡ (a || b) → c ≡ list_any t (ps ++ qs)
or_both t ps qs a b c h k e = e ∙ (ap (λ y. y || b) h ∙ (ap (λ y. list_any t ps || y) k ∙ sym (list_any-append t ps qs)))

pub all_tell_both : BothAreTold
all_tell_both g ps qs a b c h k misnamed_with twice_with unknown_with unlike_with misnumbered_with = record {
  misnamed = or_both (λ (q : Placed). misnamed g.format q.0 q.1) ps qs _ _ _ h.misnamed k.misnamed misnamed_with;
  twice = or_both (λ (q : Placed). twice g q.0 q.1) ps qs _ _ _ h.twice k.twice twice_with;
  unknown = or_both (λ (q : Placed). unknown g q.0 q.1) ps qs _ _ _ h.unknown k.unknown unknown_with;
  unlike = or_both (λ (q : Placed). unlike g q.0 q.1) ps qs _ _ _ h.unlike k.unlike unlike_with;
  misnumbered = or_both (λ (q : Placed). misnumbered g.format q.0 q.1) ps qs _ _ _ h.misnumbered k.misnumbered misnumbered_with;
}

-- one word, by what is to be said of it
or_alone : (b c : Bool) → b ≡ c → b ≡ (c || false)
or_alone b c h = h ∙ or_none c

pub all_tell_one : OneIsTold
all_tell_one g p w s t = record {
  misnamed = or_alone s.faults.misnamed (misnamed g.format p w) t.misnamed;
  twice = or_alone s.faults.twice (twice g p w) t.twice;
  unknown = or_alone s.faults.unknown (unknown g p w) t.unknown;
  unlike = or_alone s.faults.unlike (unlike g p w) t.unlike;
  misnumbered = or_alone s.faults.misnumbered (misnumbered g.format p w) t.misnumbered;
}

-- words that stand in one place with one word more, by what is to be said of it
pub same_tell_more : NextIsTold
same_tell_more g p ws i d a c s l h t misnamed_with twice_with unknown_with unlike_with misnumbered_with =
    subst (λ ps. AllTell g ps c) (sym (placed_more ws i d l))
    (all_tell_more g (map {B = Placed} (λ w. (p, w)) (take i (words_of ws))) p (get_or ws i d).now a c s h t misnamed_with twice_with unknown_with unlike_with misnumbered_with)
  where
    placed_more : (ws : List (Bor (List ℕ))) (i : ℕ) (d : Bor (List ℕ)) → i < length ws → map {B = Placed} (λ w. (p, w)) (take (i + 1) (words_of ws)) ≡ map {B = Placed} (λ w. (p, w)) (take i (words_of ws)) ++ (p, (get_or ws i d).now) ∷ []
    placed_more [] i d l = absurd (omega arith)
    placed_more (w ∷ ws) zero d l = refl
    placed_more (w ∷ ws) (suc i) d l = ap (λ n. map {B = Placed} (λ w. (p, w)) (take n (words_of (w ∷ ws)))) (let e : suc i + 1 ≡ suc (i + 1) = omega arith in e) ∙ ap (λ ps. (p, w.now) ∷ ps) (placed_more ws i d (omega arith))
