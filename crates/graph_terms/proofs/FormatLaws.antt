-- What the formats have of each other: verbs and names of one are those of each later one.
use Rattle.std.proofs.Common.{◌≡◌, ℕ, Bool, true, false, not, ◌&&◌, ◌||◌, ◌≤◌, List, [], ◌∷◌, length, inl, inr, refl, arith}
use Rattle.std.specs.Prelude.{nat_le, nat_lt, ◌==◌}
use Rattle.std.specs.Char.{is_ascii_lowercase, is_ascii_uppercase, is_ascii_digit}
use Rattle.std.specs.List.{list_all}
use Rattle.std.proofs.lemmas.Bool.{false≢true, and_parts, and_from, or_cases, or_left, or_right, or_parts, or_from, leb-true, le-leb, ltb-false, le-ltb}
use Rattle.graph_terms.specs.declared.decl.Decl.TheVariants.{Space, Inst, Lock, Barrier, Data}
use Rattle.graph_terms.specs.declared.format.Format.{Format}
use Rattle.graph_terms.specs.declared.format.Format.TheVariants.{One, Two, Three}
use Rattle.graph_terms.specs.declared.verb.Verb.TheVariants.{Acquire, Call}
use Rattle.graph_terms.specs.Format.{has_since}
use Rattle.graph_terms.specs.Fits.{takes_no_on, merged_events}
use Rattle.graph_terms.specs.declared.limits.Limits.{Limits}
use Rattle.graph_terms.specs.Limits.{limits, limits_before_three, limits_of_three, AllowsNoMore}
use Rattle.graph_terms.specs.Name.{is_name_byte, is_first_byte, is_later_byte, is_name_in}
use Rattle.graph_terms.specs.Laws.{SinceByRank, FormatThreeIsLast, UpgradedFormatIsLater, LaterFormatsHaveVerbs, LaterFormatsTakeEvents, LaterFormatsNameMore, LaterFormatsAllowMore, FormatThreeAllowsMost, LaterFormatsHaveNames, NamesAreLongNames, LaterFormatsHaveDeclarations}

pub since_by_rank : SinceByRank
since_by_rank One One = refl
since_by_rank One Two = refl
since_by_rank One Three = refl
since_by_rank Two One = refl
since_by_rank Two Two = refl
since_by_rank Two Three = refl
since_by_rank Three One = refl
since_by_rank Three Two = refl
since_by_rank Three Three = refl

pub three_is_last : FormatThreeIsLast
three_is_last One = refl
three_is_last Two = refl
three_is_last Three = refl

pub upgraded_later : UpgradedFormatIsLater
upgraded_later One = refl
upgraded_later Two = refl
upgraded_later Three = refl

shared_too : (f h : Format) → has_since f h ≡ true → not (has_since Two f) ≡ false → not (has_since Two h) ≡ false
shared_too One One s e = e
shared_too Two One s e = absurd (false≢true s)
shared_too Three One s e = absurd (false≢true s)
shared_too f Two s e = refl
shared_too f Three s e = refl

calls_too : (f h : Format) → has_since f h ≡ true → not (has_since Three f) ≡ false → not (has_since Three h) ≡ false
calls_too One One s e = e
calls_too Two One s e = absurd (false≢true s)
calls_too Three One s e = absurd (false≢true s)
calls_too One Two s e = e
calls_too Two Two s e = e
calls_too Three Two s e = absurd (false≢true s)
calls_too f Three s e = refl

pub later_verbs : LaterFormatsHaveVerbs
later_verbs f h s (Acquire lock true) e = shared_too f h s e
later_verbs f h s (Acquire lock false) e = refl
later_verbs f h s (Call call) e = calls_too f h s e
later_verbs f h s v e = refl

several_too : (f h : Format) → has_since f h ≡ true → (on : List ℕ) → (not (has_since Three f) && nat_lt 1 (length on)) ≡ false → (not (has_since Three h) && nat_lt 1 (length on)) ≡ false
several_too f Three s on e = refl
several_too One One s on e = e
several_too Two One s on e = absurd (false≢true s)
several_too Three One s on e = absurd (false≢true s)
several_too One Two s on e = e
several_too Two Two s on e = e
several_too Three Two s on e = absurd (false≢true s)

pub later_events : LaterFormatsTakeEvents
later_events f h s v on e =
    let none : Bool = takes_no_on v && nat_lt 0 (length on) in
    let p = or_parts none (not (has_since Three f) && nat_lt 1 (length on)) e in
    or_from none (not (has_since Three h) && nat_lt 1 (length on)) p.0 (several_too f h s on p.1)

-- what each format allows beside the others
fewer_before : AllowsNoMore limits_before_three limits_of_three
fewer_before = record {
  text = omega arith;
  insts = omega arith;
  columns = omega arith;
  cells = omega arith;
  locks = omega arith;
  barriers = omega arith;
  lines = omega arith;
  edges = omega arith;
  events = omega arith;
  count = omega arith;
  intervals = omega arith;
  points = omega arith;
}

same_limits : (a : Limits) → AllowsNoMore a a
same_limits a = record {
  text = omega arith;
  insts = omega arith;
  columns = omega arith;
  cells = omega arith;
  locks = omega arith;
  barriers = omega arith;
  lines = omega arith;
  edges = omega arith;
  events = omega arith;
  count = omega arith;
  intervals = omega arith;
  points = omega arith;
}

pub most_limits : FormatThreeAllowsMost
most_limits One = fewer_before
most_limits Two = fewer_before
most_limits Three = same_limits limits_of_three

pub later_limits : LaterFormatsAllowMore
later_limits One One s = same_limits limits_before_three
later_limits One Two s = same_limits limits_before_three
later_limits One Three s = fewer_before
later_limits Two One s = absurd (false≢true s)
later_limits Two Two s = same_limits limits_before_three
later_limits Two Three s = fewer_before
later_limits Three One s = absurd (false≢true s)
later_limits Three Two s = absurd (false≢true s)
later_limits Three Three s = same_limits limits_of_three

-- a number that is not above a limit
not_above : (a b n : ℕ) → a ≤ b → nat_lt a n ≡ false → nat_lt b n ≡ false
not_above a b n h e = let few : n ≤ a = ltb-false a n e in le-ltb b n (omega (arith, few, h))

pub later_many : LaterFormatsNameMore
later_many f h s v on e =
    let more = (later_limits f h s).events in
    let p = or_parts (nat_lt (limits f).events (length (merged_events v))) (nat_lt (limits f).events (length on)) e in
    or_from (nat_lt (limits h).events (length (merged_events v))) (nat_lt (limits h).events (length on))
    (not_above (limits f).events (limits h).events (length (merged_events v)) more p.0) (not_above (limits f).events (limits h).events (length on) more p.1)

-- the bytes of a name
first_too : (c : ℕ) → is_ascii_lowercase c ≡ true → is_first_byte c ≡ true
first_too c h = or_left (is_ascii_lowercase c) (is_ascii_uppercase c || c == 95) h

byte_too : (c : ℕ) → is_name_byte c ≡ true → is_later_byte c ≡ true
byte_too c h = elim (or_cases (is_ascii_lowercase c) (is_ascii_digit c || c == 95) h) [
  | inl l ↦ or_left (is_first_byte c) (is_ascii_digit c) (first_too c l)
  | inr m ↦ elim (or_cases (is_ascii_digit c) (c == 95) m) [
    | inl d ↦ or_right (is_first_byte c) (is_ascii_digit c) d
    | inr e ↦ or_left (is_first_byte c) (is_ascii_digit c) (or_right (is_ascii_lowercase c) (is_ascii_uppercase c || c == 95) (or_right (is_ascii_uppercase c) (c == 95) e))
  ]
]

bytes_too : (cs : List ℕ) → list_all is_name_byte cs ≡ true → list_all is_later_byte cs ≡ true
bytes_too [] h = refl
bytes_too (c ∷ cs) h =
    let p = and_parts (is_name_byte c) (list_all is_name_byte cs) h in
    and_from (is_later_byte c) (list_all is_later_byte cs) (byte_too c p.0) (bytes_too cs p.1)

pub long_names : NamesAreLongNames
long_names [] h = absurd (false≢true h)
long_names (c ∷ cs) h =
    let n : ℕ = length (c ∷ cs) in
    let p = and_parts (nat_le n 31 && is_ascii_lowercase c) (list_all is_name_byte cs) h in
    let q = and_parts (nat_le n 31) (is_ascii_lowercase c) p.0 in
    let few : n ≤ 31 = leb-true n 31 q.0 in
    and_from (nat_le n 63 && is_first_byte c) (list_all is_later_byte cs) (and_from (nat_le n 63) (is_first_byte c) (le-leb n 63 (omega (arith, few))) (first_too c q.1)) (bytes_too cs p.1)

pub later_names : LaterFormatsHaveNames
later_names One One s w e = e
later_names One Two s w e = e
later_names One Three s w e = long_names w e
later_names Two One s w e = absurd (false≢true s)
later_names Two Two s w e = e
later_names Two Three s w e = long_names w e
later_names Three One s w e = absurd (false≢true s)
later_names Three Two s w e = absurd (false≢true s)
later_names Three Three s w e = e

later_fields : (f h : Format) → has_since f h ≡ true → (fields : List (List ℕ)) → list_all (is_name_in f) fields ≡ true → list_all (is_name_in h) fields ≡ true
later_fields f h s [] e = refl
later_fields f h s (w ∷ ws) e =
    let p = and_parts (is_name_in f w) (list_all (is_name_in f) ws) e in
    and_from (is_name_in h w) (list_all (is_name_in h) ws) (later_names f h s w p.0) (later_fields f h s ws p.1)

pub later_decls : LaterFormatsHaveDeclarations
later_decls f h s (Space name space) e = later_names f h s name e
later_decls f h s (Inst name space fields) e =
    let p = and_parts (is_name_in f name) (list_all (is_name_in f) fields) e in
    and_from (is_name_in h name) (list_all (is_name_in h) fields) (later_names f h s name p.0) (later_fields f h s fields p.1)
later_decls f h s (Data name space fields) e =
    let p = and_parts (is_name_in f name) (list_all (is_name_in f) fields) e in
    and_from (is_name_in h name) (list_all (is_name_in h) fields) (later_names f h s name p.0) (later_fields f h s fields p.1)
later_decls f h s (Lock name) e = later_names f h s name e
later_decls f h s (Barrier name count op first) e = later_names f h s name e
