-- What words stand for that no reason refuses.
use Rattle.std.proofs.Common.{◌≡◌, ℕ, zero, suc, ◌<◌, Bool, true, false, not, ◌&&◌, ◌||◌, List, [], ◌∷◌, length, drop, get_or, refl, sym, ◌∙◌, ap, arith, Bor}
use Rattle.std.specs.Prelude.{Option, Some, None, is_some, position, unwrap_or, bytes_eq}
use Rattle.std.specs.Option.{option_map_or}
use Rattle.std.specs.List.{list_any}
use Rattle.std.proofs.lemmas.Bool.{or_left, or_right, true≢false}
use Rattle.std.proofs.lemmas.Option.{none-some}
use Rattle.basics.specs.Words.{contents}
use Rattle.basics.proofs.Choices.{or_true}
use Rattle.basics.proofs.TestedLists.{position_any}
use Rattle.graph_terms.specs.declared.found.Found.{Found}
use Rattle.graph_terms.specs.declared.found.Found.TheVariants as found
use Rattle.graph_terms.specs.declared.table.Place as table
use Rattle.graph_terms.specs.declared.table.Place.TheVariants as places
use Rattle.graph_terms.specs.declared.verb.Line.{Line}
use Rattle.graph_terms.specs.Graph.{GraphValue, named_spaces, line_passes, is_user, is_phase, is_acquire}
use Rattle.graph_terms.specs.Fits.{IsGraph, is_used}
use Rattle.graph_terms.specs.Name.{is_name_in}
use Rattle.graph_words.specs.Draft.{Placed, as_place, EventName, SpaceName, Column, Value, Weight, events_placed}
use Rattle.graph_words.specs.Words.{pieces, first_piece, value_of, weight_of}
use Rattle.word_meanings.specs.WordFaults.{misnamed, twice, unknown, unlike, misnumbered, is_line_name, is_inst_name, has_column, is_data_name, has_data_column}
use Rattle.word_meanings.specs.Lookups.{IsFound, found_number, found_twice, found_alike, column_place}
use Rattle.word_meanings.specs.Telling.{NamesThing, Tells, no_faults, is_refused, any_refused}
use Rattle.word_meanings.proofs.Owners.{is_found, line_used, line_named, unused_misnamed}
use Rattle.word_meanings.proofs.ColumnWords.{no_other}
use Rattle.word_meanings.proofs.SeenWords.{twice_is, unlike_is, unknown_is, number_is, misnamed_is, name_plain}

-- one test that refuses a word is enough
name_refuses : (a b c d e : Bool) → a ≡ true → (a || (b || (c || (d || e)))) ≡ true
name_refuses a b c d e h = or_left a (b || (c || (d || e))) h

twice_refuses : (a b c d e : Bool) → b ≡ true → (a || (b || (c || (d || e)))) ≡ true
twice_refuses a b c d e h = or_right a (b || (c || (d || e))) (or_left b (c || (d || e)) h)

kind_refuses : (a b c d e : Bool) → d ≡ true → (a || (b || (c || (d || e)))) ≡ true
kind_refuses a b c d e h = or_right a (b || (c || (d || e))) (or_right b (c || (d || e)) (or_right c (d || e) (or_left d e h)))

-- what was found has a number in its place
some_found : (p : table.Place) (o : Option Found) (k : ℕ) → found_number p o ≡ Some k → is_some o ≡ true
some_found p (Some x) k h = refl
some_found places.Space None k h = absurd (none-some k h)
some_found places.Lock None k h = absurd (none-some k h)
some_found places.Barrier None k h = absurd (none-some k h)
some_found places.Value None k h = absurd (none-some k h)
some_found places.Times None k h = absurd (none-some k h)
some_found places.Weight None k h = absurd (none-some k h)
some_found places.Shared None k h = absurd (none-some k h)
some_found (places.Column mode over) None k h = absurd (none-some k h)
some_found p None k h = absurd (none-some k h)

pub alike_numbered : (g : GraphValue) (p : table.Place) (o : Option Found) → NamesThing p → found_alike g p o ≡ true → found_number p o ≡ None → ⊥
alike_numbered g places.User o n h e = true≢false (sym h ∙ ap (λ q. option_map_or (line_passes is_user g) q false) e)
alike_numbered g places.Phase o n h e = true≢false (sym h ∙ ap (λ q. option_map_or (line_passes is_phase g) q false) e)
alike_numbered g places.Acquire o n h e = true≢false (sym h ∙ ap (λ q. option_map_or (line_passes is_acquire g) q false) e)
alike_numbered g places.Lock o n h e = true≢false (sym h ∙ ap (λ (q : Option ℕ). is_some q) e)
alike_numbered g places.Barrier o n h e = true≢false (sym h ∙ ap (λ (q : Option ℕ). is_some q) e)
alike_numbered g places.Space o n h e = true≢false (sym h ∙ ap (λ (q : Option ℕ). is_some q) e)
alike_numbered g places.Value o n h e = absurd n
alike_numbered g places.Times o n h e = absurd n
alike_numbered g places.Shared o n h e = absurd n
alike_numbered g places.Weight o n h e = absurd n
alike_numbered g (places.Column mode over) o n h e = absurd n

-- the name of one thing
module _ (g : GraphValue) (w : List ℕ) (o : Option Found) (f : IsFound g w o) (p : table.Place) (n : NamesThing p) where
  pub named_tells : (k : ℕ) → is_name_in g.format w ≡ true → found_twice g p o ≡ false → found_alike g p o ≡ true → found_number p o ≡ Some k → Tells g (as_place p) w (record { faults = no_faults; number = k; value = 0 })
  named_tells k spelled once alike numbered =
      let plain = name_plain g.format p w n in
      record {
        misnamed = sym (ap not spelled) ∙ misnamed_is g.format p w n;
        twice = sym once ∙ twice_is g w o f p n;
        unknown = sym (ap not (some_found p o k numbered)) ∙ unknown_is g w o f p n;
        unlike = sym (ap not alike) ∙ unlike_is g w o f p n;
        misnumbered = sym plain.0;
        number = sym (ap (λ (q : Option ℕ). unwrap_or q 0) numbered) ∙ number_is g w o f p n;
        value = sym plain.1;
      }

  pub misnamed_refused : not (is_name_in g.format w) ≡ true → is_refused g (as_place p) w ≡ true
  misnamed_refused h = name_refuses (misnamed g.format (as_place p) w) (twice g (as_place p) w) (unknown g (as_place p) w) (unlike g (as_place p) w) (misnumbered g.format (as_place p) w) (sym (misnamed_is g.format p w n) ∙ h)

  pub twice_refused : found_twice g p o ≡ true → is_refused g (as_place p) w ≡ true
  twice_refused h = twice_refuses (misnamed g.format (as_place p) w) (twice g (as_place p) w) (unknown g (as_place p) w) (unlike g (as_place p) w) (misnumbered g.format (as_place p) w) (sym (twice_is g w o f p n) ∙ h)

  pub unlike_refused : found_alike g p o ≡ false → is_refused g (as_place p) w ≡ true
  unlike_refused h = kind_refuses (misnamed g.format (as_place p) w) (twice g (as_place p) w) (unknown g (as_place p) w) (unlike g (as_place p) w) (misnumbered g.format (as_place p) w) (sym (unlike_is g w o f p n) ∙ ap not h)

-- the name of a space
used_named_by : (g : GraphValue) (w : List ℕ) (b : Bool) → IsGraph g → is_used g w ≡ true → is_name_in g.format w ≡ b → b ≡ true
used_named_by g w true n h e = refl
used_named_by g w false n h e = absurd (true≢false (sym h ∙ unused_misnamed g w n e))

pub space_tells : (g : GraphValue) (w : List ℕ) (s : ℕ) → IsGraph g → Some s ≡ position (λ (x : List ℕ × List (ℕ × ℕ)). bytes_eq x.0 w) (named_spaces g) → Tells g SpaceName w (record { faults = no_faults; number = s; value = 0 })
space_tells g w s graph h =
    let f = is_found g w graph (Some (found.Space s)) (sym h) in
    named_tells g w (Some (found.Space s)) f places.Space tt s (used_named_by g w (is_name_in g.format w) graph f.used refl) refl refl refl

pub space_refused : (g : GraphValue) (w : List ℕ) → None ≡ position (λ (x : List ℕ × List (ℕ × ℕ)). bytes_eq x.0 w) (named_spaces g) → is_refused g SpaceName w ≡ true
space_refused g w h = kind_refuses (misnamed g.format SpaceName w) (twice g SpaceName w) (unknown g SpaceName w) (unlike g SpaceName w) (misnumbered g.format SpaceName w)
    (ap not (position_any (λ (x : List ℕ × List (ℕ × ℕ)). bytes_eq x.0 w) (named_spaces g) ∙ ap (λ (q : Option ℕ). is_some q) (sym h)))

-- the name of no column: of an instance without the field, or of no instance
column_refused : (m u i h d : Bool) → h ≡ false → (m || (false || ((u || ((i && not h) || d)) || (not i || false)))) ≡ true
column_refused true u i h d e = refl
column_refused false true i h d e = refl
column_refused false false true h d e = ap (λ x. (not x || d) || (false || false)) e
column_refused false false false h d e = or_true d

pub absent_refused : (g : GraphValue) (w : List ℕ) → column_place g false (pieces 46 w) ≡ None → is_refused g Column w ≡ true
absent_refused g w h =
    column_refused (misnamed g.format Column w) (not (is_used g (first_piece (pieces 46 w)))) (is_inst_name g (first_piece (pieces 46 w))) (has_column g (pieces 46 w))
    (is_data_name g (first_piece (pieces 46 w)) && not (has_data_column g (pieces 46 w))) (no_other g false (pieces 46 w) h)

-- numbers
pub value_tells : (g : GraphValue) (w : List ℕ) (v : ℕ) → Some v ≡ value_of w → Tells g Value w (record { faults = no_faults; number = 0; value = v })
value_tells g w v h = record {
  misnamed = refl;
  twice = refl;
  unknown = refl;
  unlike = refl;
  misnumbered = ap (λ (q : Option ℕ). not (is_some q)) h;
  number = refl;
  value = ap (λ (q : Option ℕ). unwrap_or q 0) h;
}

pub value_refused : (g : GraphValue) (w : List ℕ) → None ≡ value_of w → is_refused g Value w ≡ true
value_refused g w h = sym (ap (λ (q : Option ℕ). not (is_some q)) h)

pub weight_tells : (g : GraphValue) (w : List ℕ) (v : ℕ) → Some v ≡ weight_of g.format w → Tells g Weight w (record { faults = no_faults; number = v; value = 0 })
weight_tells g w v h = record {
  misnamed = refl;
  twice = refl;
  unknown = refl;
  unlike = refl;
  misnumbered = ap (λ (q : Option ℕ). not (is_some q)) h;
  number = ap (λ (q : Option ℕ). unwrap_or q 0) h;
  value = refl;
}

pub weight_refused : (g : GraphValue) (w : List ℕ) → None ≡ weight_of g.format w → is_refused g Weight w ≡ true
weight_refused g w h = sym (ap (λ (q : Option ℕ). not (is_some q)) h)

-- events
event_there : (g : GraphValue) (w : List ℕ) (o : Option ℕ) → o ≡ position (λ (x : Line). bytes_eq x.name w) g.lines → is_line_name g w ≡ is_some o
event_there g w o h = position_any (λ (x : Line). bytes_eq x.name w) g.lines ∙ ap (λ (q : Option ℕ). is_some q) (sym h)

pub event_tells : (g : GraphValue) (w : List ℕ) (k : ℕ) → IsGraph g → Some k ≡ position (λ (x : Line). bytes_eq x.name w) g.lines → Tells g EventName w (record { faults = no_faults; number = k; value = 0 })
event_tells g w k graph h =
    let there : is_line_name g w ≡ true = event_there g w (Some k) h in
    record {
      misnamed = sym (ap not (line_named g w graph there));
      twice = refl;
      unknown = sym (ap not (line_used g w there));
      unlike = sym (ap not there);
      misnumbered = refl;
      number = ap (λ (q : Option ℕ). unwrap_or q 0) h;
      value = refl;
    }

event_refused : (g : GraphValue) (w : List ℕ) → None ≡ position (λ (x : Line). bytes_eq x.name w) g.lines → is_refused g EventName w ≡ true
event_refused g w h = kind_refuses (misnamed g.format EventName w) (twice g EventName w) (unknown g EventName w) (unlike g EventName w) (misnumbered g.format EventName w) (ap not (event_there g w None h))

-- words of which one is refused
pub refused_at : (t : Placed → Bool) (ps : List Placed) (i : ℕ) (x : Placed) (rest : List Placed) → drop i ps ≡ x ∷ rest → t x ≡ true → list_any t ps ≡ true
refused_at t [] zero x rest d h = absurd (cc)
refused_at t [] (suc i) x rest d h = absurd (cc)
refused_at t (p ∷ ps) zero x rest d h = or_left (t p) (list_any t ps) (let e : p ≡ x = cc in ap t e ∙ h)
refused_at t (p ∷ ps) (suc i) x rest d h = or_right (t p) (list_any t ps) (refused_at t ps i x rest d h)

pub event_at : (g : GraphValue) (ws : List (Bor (List ℕ))) (i : ℕ) (d : Bor (List ℕ)) → i < length ws → None ≡ position (λ (x : Line). bytes_eq x.name (get_or ws i d).now) g.lines → any_refused g (events_placed (contents ws)) ≡ true
event_at g [] i d l h = absurd (omega arith)
event_at g (w ∷ ws) zero d l h = or_left (is_refused g EventName w.now) (any_refused g (events_placed (contents ws))) (event_refused g w.now h)
event_at g (w ∷ ws) (suc i) d l h = or_right (is_refused g EventName w.now) (any_refused g (events_placed (contents ws))) (event_at g ws i d (omega arith) h)
