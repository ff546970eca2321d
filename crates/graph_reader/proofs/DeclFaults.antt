-- What refuses the words of a declaration.
use Rattle.std.proofs.Common.{append-nil, length-append, drop, inr, ◌⊎◌, ◌≡◌, ℕ, ◌+◌, ◌<◌, Bool, true, false, cond, not, ◌&&◌, ◌||◌, List, [], ◌∷◌, length, refl, sym, ◌∙◌, ap, subst, inl, arith}
use Rattle.std.specs.Prelude.{Option, Some, None, Result, Ok, Err, is_some, unwrap_or, position, bytes_eq, nat_lt, nat_le, flat_map, filter}
use Rattle.std.specs.Option.{option_map_or}
use Rattle.std.specs.List.{list_all}
use Rattle.std.proofs.lemmas.Bool.{true≢false, lt-ltb, le-ltb, or_right, or_left, ltb-true, ltb-false, le-leb, lt-leb, cond-true, cond-false}
use Rattle.index_spaces.specs.declared.Op.{Op}
use Rattle.graph_terms.specs.declared.decl.Decl.{Decl}
use Rattle.graph_terms.specs.declared.decl.Decl.TheVariants as decl
use Rattle.graph_terms.specs.declared.verb.Line.{Line}
use Rattle.graph_terms.specs.declared.why.Why.{Why}
use Rattle.graph_terms.specs.declared.why.Why.TheVariants as why
use Rattle.graph_terms.specs.Graph.{GraphValue, named_spaces, columns, columns_of, data_columns, data_columns_of}
use Rattle.index_spaces.specs.Space.{space_size}
use Rattle.index_spaces.specs.declared.limits.SpaceLimits.{SpaceLimits}
use Rattle.graph_terms.specs.Limits.{limits}
use Rattle.graph_terms.specs.Format.{has_since}
use Rattle.graph_terms.specs.declared.format.Format.TheVariants.{Three}
use Rattle.word_meanings.specs.Lookups.{kept_columns}
use Rattle.std.proofs.lemmas.Option.{none-some, same_Some}
use Rattle.std.proofs.lemmas.Grind.{flat_map-append}
use Rattle.std.proofs.lemmas.List.{length-map}
use Rattle.graph_terms.specs.Name.{is_name_in}
use Rattle.graph_terms.specs.Spelling.{head}
use Rattle.graph_terms.specs.Fits.{first_reason, repeats, is_used, decl_fault, decl_unknown, decl_lacks, decl_misnumbered, is_large, is_inst, has_many_spaces, is_beyond, with_decl}
use Rattle.graph_words.specs.Words.{pieces, count_of, value_of, intervals_of, ascend_from, is_fields}
use Rattle.graph_words.specs.Draft.{Draft, NewName, SpaceName, space_with, columns_decl, columns_with, lock_with, barrier_with, space_number}
use Rattle.graph_reader.specs.FirstFault.{draft_tests, draft_fault, or_else, item_fault}
use Rattle.word_meanings.specs.WordFaults.{unlike}
use Rattle.index_spaces.specs.declared.space.SpaceFault.{SpaceFault}
use Rattle.index_spaces.specs.declared.space.SpaceFault.TheVariants as spaces
use Rattle.index_spaces.specs.SpaceFault.{first_misplaced, space_fault_in, or_too_large}
use Rattle.word_meanings.specs.Places.{IsFine}
use Rattle.graph_reader.proofs.Drafts.{fine_words}
use Rattle.std.proofs.lemmas.List.Quantifiers.{position-Some}
use Rattle.basics.proofs.TestedLists.{position_any}
use Rattle.graph_reader.specs.declared.item.ItemError.{ItemError}
use Rattle.graph_reader.specs.declared.item.ItemError.TheVariants as errors
use Rattle.graph_reader.specs.Reading.{IsDone, IsDoneBy, IsDeclOffered, with_value, twice_or, space_error, space_reason, columns_reason, spelled_columns, columns_lack}

-- what is done with the declaration that the words spell
pub done_by : {T : Type 0} (g new : GraphValue) (d : Draft) (x : Decl) (r : Option Why) (result : Result T ItemError) → draft_fault g d ≡ r → d.item ≡ inl x → IsDoneBy g r x new result → IsDone g d new result
done_by g new d x r (Ok u) h i k = (h ∙ k.0, k.1 ∙ ap (with_value g) (sym i))
done_by g new d x r (Err (errors.Refused w)) h i k = (h ∙ k.0, k.1)
done_by g new d x r (Err errors.NoMemory) h i k = k

-- and where a reason refuses them
pub refused_by : (T : Type 0) (g : GraphValue) (d : Draft) (w : Why) (e : ItemError) → e ≡ errors.Refused w → draft_fault g d ≡ Some w → IsDone {T = T} g d g (Err e)
refused_by T g d w e h f = subst (λ x. IsDone {T = T} g d g (Err x)) (sym h) (f, refl)

-- a name in use comes behind the spelling of names alone
named_twice : (n u m e : Bool) (more : List (Bool × Why)) (rest : Option Why) → n ≡ false → u ≡ true → or_else (first_reason ((n, why.Name) ∷ ((u || m) || e, why.Twice) ∷ more)) rest ≡ Some why.Twice
named_twice true u m e more rest h k = absurd (true≢false h)
named_twice false true m e more rest h k = refl
named_twice false false m e more rest h k = absurd (true≢false (sym k))

-- a word that is no number, behind a name that is spelled so
number_left : (n u m o : Bool) (rest : Option Why) → n ≡ false → m ≡ true → or_else (first_reason ((n, why.Name) ∷ ((u || false) || false, why.Twice) ∷ (false, why.Unknown) ∷ (false, why.Kind) ∷ (m, why.Number) ∷ (o, why.Space) ∷ [])) rest ≡ Some (twice_or u why.Number)
number_left true u m o rest h k = absurd (true≢false h)
number_left false true m o rest h k = refl
number_left false false true o rest h k = refl
number_left false false false o rest h k = absurd (true≢false (sym k))

-- a name that is spelled so, and new
lock_by : (u : Bool) (rest : Option Why) (more : Option Why) → rest ≡ cond (u || false) (Some why.Twice) more → or_else (first_reason ((false, why.Name) ∷ ((u || false) || (false || false), why.Twice) ∷ (false, why.Unknown) ∷ (false, why.Kind) ∷ (false, why.Number) ∷ (false, why.Space) ∷ [])) rest ≡ rest
lock_by true rest more h = sym h
lock_by false rest more h = refl

pub lock_is : (g : GraphValue) (name new : List ℕ) → is_name_in g.format name ≡ true → new ≡ name → draft_fault g (lock_with name) ≡ decl_fault g (decl.Lock new)
lock_is g name new h e =
    ap (λ b. or_else (first_reason ((not b || false, why.Name) ∷ ((is_used g name || false) || (false || false), why.Twice) ∷ (false, why.Unknown) ∷ (false, why.Kind) ∷ (false, why.Number) ∷ (false, why.Space) ∷ [])) (decl_fault g (decl.Lock name))) h
    ∙ (lock_by (is_used g name) (decl_fault g (decl.Lock name)) _ refl ∙ ap (λ n. decl_fault g (decl.Lock n)) (sym e))

abbrev as_barrier : List ℕ → ℕ → Op → ℕ → Decl ⊎ Line
as_barrier name count op first = inl (decl.Barrier name count op first)

and_no : (b : Bool) → (b && false) ≡ false
and_no true = refl
and_no false = refl

pub fine_name : (g : GraphValue) (name : List ℕ) → is_name_in g.format name ≡ true → is_used g name ≡ false → IsFine g NewName name
fine_name g name h u = record { named = ap not h; once = u; known = refl; alike = refl; numbered = refl; ordered = refl }

barrier_new : (g : GraphValue) (name arrivals first : List ℕ) (op : Op) (count value : ℕ) → is_name_in g.format name ≡ true → is_used g name ≡ false → count_of g.format arrivals ≡ Some count → value_of first ≡ Some value →
    draft_fault g (barrier_with g.format name arrivals op first) ≡ item_fault g (barrier_with g.format name arrivals op first).item
barrier_new g name arrivals first op count value h u c v =
    fine_words g (barrier_with g.format name arrivals op first) (
      fine_name g name h u,
      (
        record { named = refl; once = refl; known = refl; alike = refl; numbered = ap (λ o. not (is_some o)) c; ordered = refl },
        (record { named = refl; once = refl; known = refl; alike = refl; numbered = ap (λ o. not (is_some o)) v; ordered = refl }, tt),
      ),
    ) refl refl

-- the reasons behind that a name is in use
abbrev later_tests : GraphValue → Draft → List (Bool × Why)
later_tests g d = drop 2 (draft_tests g d)

abbrev later_decl_tests : GraphValue → Decl → List (Bool × Why)
later_decl_tests g d = (decl_unknown g d, why.Unknown) ∷ (decl_lacks g.format d, why.Kind) ∷ (decl_misnumbered g.format d, why.Number) ∷ (is_large g.format d || is_beyond (with_decl g d), why.Limit) ∷ []

-- the first reason of a declaration whose name is in use
used_first : (u r : Bool) (more : List (Bool × Why)) → u ≡ true → first_reason ((u || r, why.Twice) ∷ more) ≡ Some why.Twice
used_first true r more h = refl
used_first false r more h = absurd (true≢false (sym h))

barrier_by : (g : GraphValue) (name arrivals first : List ℕ) (op : Op) (count value : ℕ) (u : Bool) → is_used g name ≡ u → is_name_in g.format name ≡ true → count_of g.format arrivals ≡ Some count → value_of first ≡ Some value →
    (barrier_with g.format name arrivals op first).item ≡ inl (decl.Barrier name count op value) → draft_fault g (barrier_with g.format name arrivals op first) ≡ decl_fault g (decl.Barrier name count op value)
barrier_by g name arrivals first op count value true u h c v i =
    named_twice (not (is_name_in g.format name) || false) (is_used g name) false false (later_tests g (barrier_with g.format name arrivals op first)) (item_fault g (barrier_with g.format name arrivals op first).item) (ap (λ b. not b || false) h) u
    ∙ sym (used_first (is_used g name) false (later_decl_tests g (decl.Barrier name count op value)) u)
barrier_by g name arrivals first op count value false u h c v i = barrier_new g name arrivals first op count value h u c v ∙ ap (item_fault g) i

pub barrier_is : (g : GraphValue) (name new arrivals first : List ℕ) (op : Op) (count value : ℕ) → is_name_in g.format name ≡ true → new ≡ name → count_of g.format arrivals ≡ Some count → value_of first ≡ Some value →
    (draft_fault g (barrier_with g.format name arrivals op first) ≡ decl_fault g (decl.Barrier new count op value)) × ((barrier_with g.format name arrivals op first).item ≡ inl (decl.Barrier new count op value))
barrier_is g name new arrivals first op count value h e c v =
    let i : (barrier_with g.format name arrivals op first).item ≡ inl (decl.Barrier name count op value) =
    ap (λ o. as_barrier name (unwrap_or o 0) op (unwrap_or (value_of first) 0)) c ∙ ap (λ o. as_barrier name count op (unwrap_or o 0)) v in
    (barrier_by g name arrivals first op count value (is_used g name) refl h c v i ∙ ap (λ n. decl_fault g (decl.Barrier n count op value)) (sym e), i ∙ ap (λ n. as_barrier n count op value) (sym e))

pub or_yes : (b : Bool) → (b || true) ≡ true
or_yes true = refl
or_yes false = refl

-- one of its words is no number
pub barrier_misnumbered : (g : GraphValue) (name new arrivals first : List ℕ) (op : Op) → is_name_in g.format name ≡ true → new ≡ name → (not (is_some (count_of g.format arrivals)) || (not (is_some (value_of first)) || false)) ≡ true →
    draft_fault g (barrier_with g.format name arrivals op first) ≡ Some (twice_or (is_used g new) why.Number)
barrier_misnumbered g name new arrivals first op h e m =
    number_left (not (is_name_in g.format name) || false) (is_used g name) (not (is_some (count_of g.format arrivals)) || (not (is_some (value_of first)) || false)) false (item_fault g (barrier_with g.format name arrivals op first).item) (ap (λ b. not b || false) h) m ∙ ap (λ n. Some (twice_or (is_used g n) why.Number)) (sym e)

-- spaces
placed_by : (k low : ℕ) (is : List (ℕ × ℕ)) (i : ℕ × ℕ) (a b : Bool) (e : Option SpaceFault) → nat_lt i.1 i.0 ≡ a → nat_lt i.0 low ≡ b → cond a (Some (spaces.Reversed k)) (cond b (Some (spaces.Order k)) (first_misplaced (k + 1) (i.1 + 2) is)) ≡ e →
    (first_misplaced (k + 1) (i.1 + 2) is ≡ e → ascend_from (i.1 + 2) is ≡ not (is_some e)) → ascend_from low (i ∷ is) ≡ not (is_some e)
placed_by k low is i true b e ha hb h again =
    ap (λ x. nat_le low i.0 && (x && ascend_from (i.1 + 2) is)) (lt-leb i.0 i.1 (ltb-true i.1 i.0 ha)) ∙ (and_no (nat_le low i.0) ∙ ap (λ x. not (is_some x)) h)
placed_by k low is i false true e ha hb h again = ap (λ x. x && (nat_le i.0 i.1 && ascend_from (i.1 + 2) is)) (lt-leb low i.0 (ltb-true i.0 low hb)) ∙ ap (λ x. not (is_some x)) h
placed_by k low is i false false e ha hb h again =
    ap (λ x. x && (nat_le i.0 i.1 && ascend_from (i.1 + 2) is)) (le-leb low i.0 (ltb-false i.0 low hb)) ∙ (ap (λ x. x && ascend_from (i.1 + 2) is) (le-leb i.0 i.1 (ltb-false i.1 i.0 ha)) ∙ again h)

pub ascends_where : (k low : ℕ) (is : List (ℕ × ℕ)) (e : Option SpaceFault) → first_misplaced k low is ≡ e → ascend_from low is ≡ not (is_some e)
ascends_where k low [] e h = ap (λ x. not (is_some x)) h
ascends_where k low (i ∷ is) e h = placed_by k low is i (nat_lt i.1 i.0) (nat_lt i.0 low) e refl refl h (ascends_where (k + 1) (i.1 + 2) is e)

-- the kinds of faults: of order, of size, and others
abbrev kind : SpaceFault → ℕ
kind (spaces.Reversed k) = 0
kind (spaces.Order k) = 0
kind spaces.Many = 1
kind spaces.Large = 1
kind spaces.Empty = 2
kind spaces.NoMemory = 3

order_by : (k low : ℕ) (is : List (ℕ × ℕ)) (a b : Bool) (e : SpaceFault) → cond a (Some (spaces.Reversed k)) (cond b (Some (spaces.Order k)) (first_misplaced (k + 1) low is)) ≡ Some e → (first_misplaced (k + 1) low is ≡ Some e → kind e ≡ 0) → kind e ≡ 0
order_by k low is true b e h again = ap kind (sym (same_Some (spaces.Reversed k) e h))
order_by k low is false true e h again = ap kind (sym (same_Some (spaces.Order k) e h))
order_by k low is false false e h again = again h

of_order : (k low : ℕ) (is : List (ℕ × ℕ)) (e : SpaceFault) → first_misplaced k low is ≡ Some e → kind e ≡ 0
of_order k low [] e h = absurd (none-some e h)
of_order k low (i ∷ is) e h = order_by k (i.1 + 2) is (nat_lt i.1 i.0) (nat_lt i.0 low) e h (of_order (k + 1) (i.1 + 2) is e)

abbrev has_large : SpaceLimits → List (ℕ × ℕ) → Bool
has_large m is = nat_lt m.intervals (length is) || nat_lt m.points (space_size is)

large_by : (a b : Bool) (e : SpaceFault) → cond a (Some spaces.Many) (cond b (Some spaces.Large) None) ≡ Some e → (kind e ≡ 1) × ((a || b) ≡ true)
large_by true b e h = (ap kind (sym (same_Some spaces.Many e h)), refl)
large_by false true e h = (ap kind (sym (same_Some spaces.Large e h)), refl)
large_by false false e h = absurd (none-some e h)

-- what a fault of intervals says
abbrev Faulty : SpaceLimits → List (ℕ × ℕ) → SpaceFault → Type 0
Faulty m is e = ((kind e ≡ 0) × (ascend_from 0 is ≡ false)) ⊎ ((kind e ≡ 1) × (ascend_from 0 is ≡ true) × (has_large m is ≡ true))

faulty_by : (m : SpaceLimits) (is : List (ℕ × ℕ)) (o : Option SpaceFault) (e : SpaceFault) → first_misplaced 0 0 is ≡ o → or_too_large m o is ≡ Some e → Faulty m is e
faulty_by m is (Some f) e h k = inl (of_order 0 0 is e (h ∙ k), ascends_where 0 0 is (Some f) h)
faulty_by m is None e h k = let l = large_by (nat_lt m.intervals (length is)) (nat_lt m.points (space_size is)) e k in inr (l.0, ascends_where 0 0 is None h, l.1)

faulty : (m : SpaceLimits) (is : List (ℕ × ℕ)) (e : SpaceFault) → (is ≡ [] → ⊥) → space_fault_in m is ≡ Some e → Faulty m is e
faulty m [] e some h = absurd (some refl)
faulty m (i ∷ is) e some h = faulty_by m (i ∷ is) (first_misplaced 0 0 (i ∷ is)) e refl h

faultless_by : (m : SpaceLimits) (is : List (ℕ × ℕ)) (o : Option SpaceFault) → first_misplaced 0 0 is ≡ o → or_too_large m o is ≡ None → ascend_from 0 is ≡ true
faultless_by m is (Some f) h k = absurd (none-some f (sym k))
faultless_by m is None h k = ascends_where 0 0 is None h

faultless : (m : SpaceLimits) (is : List (ℕ × ℕ)) → space_fault_in m is ≡ None → ascend_from 0 is ≡ true
faultless m [] h = absurd (none-some spaces.Empty (sym h))
faultless m (i ∷ is) h = faultless_by m (i ∷ is) (first_misplaced 0 0 (i ∷ is)) refl h

-- a space that is too large is above its limit
abbrev beyond_with : GraphValue → Decl → Bool
beyond_with g d = is_beyond (with_decl g d)

limit_left : (u l b : Bool) → l ≡ true → first_reason ((u || false, why.Twice) ∷ (false, why.Unknown) ∷ (false, why.Number) ∷ (l || b, why.Limit) ∷ []) ≡ Some (twice_or u why.Limit)
limit_left true l b h = refl
limit_left false true b h = refl
limit_left false false b h = absurd (true≢false (sym h))

space_limit : (g : GraphValue) (name : List ℕ) (is : List (ℕ × ℕ)) → has_large (limits g.format).space is ≡ true → decl_fault g (decl.Space name is) ≡ Some (twice_or (is_used g name) why.Limit)
space_limit g name is l = limit_left (is_used g name) (has_large (limits g.format).space is) (beyond_with g (decl.Space name is)) l

reason_false : (g : GraphValue) (name : List ℕ) (is : List (ℕ × ℕ)) → ascend_from 0 is ≡ false → space_reason g name is ≡ Some (twice_or (is_used g name) why.Space)
reason_false g name is h = cond-false (ascend_from 0 is) (decl_fault g (decl.Space name is)) (Some (twice_or (is_used g name) why.Space)) h

reason_true : (g : GraphValue) (name : List ℕ) (is : List (ℕ × ℕ)) → ascend_from 0 is ≡ true → space_reason g name is ≡ decl_fault g (decl.Space name is)
reason_true g name is h = cond-true (ascend_from 0 is) (decl_fault g (decl.Space name is)) (Some (twice_or (is_used g name) why.Space)) h

abbrev IsRefusedSpace : GraphValue → List ℕ → List (ℕ × ℕ) → SpaceFault → Type 0
IsRefusedSpace g name is e = IsDoneBy {T = Unit {0}} g (space_reason g name is) (decl.Space name is) g (Err (space_error (is_used g name) e))

space_err_by : (g : GraphValue) (name : List ℕ) (is : List (ℕ × ℕ)) (e : SpaceFault) → Faulty (limits g.format).space is e → IsRefusedSpace g name is e
space_err_by g name is (spaces.Reversed k) (inl f) = (reason_false g name is f.1, refl)
space_err_by g name is (spaces.Order k) (inl f) = (reason_false g name is f.1, refl)
space_err_by g name is spaces.Many (inl f) = absurd (omega (arith, f.0))
space_err_by g name is spaces.Large (inl f) = absurd (omega (arith, f.0))
space_err_by g name is spaces.Empty (inl f) = absurd (omega (arith, f.0))
space_err_by g name is spaces.NoMemory (inl f) = refl
space_err_by g name is (spaces.Reversed k) (inr f) = absurd (omega (arith, f.0))
space_err_by g name is (spaces.Order k) (inr f) = absurd (omega (arith, f.0))
space_err_by g name is spaces.Many (inr f) = (reason_true g name is f.1 ∙ space_limit g name is f.2, refl)
space_err_by g name is spaces.Large (inr f) = (reason_true g name is f.1 ∙ space_limit g name is f.2, refl)
space_err_by g name is spaces.Empty (inr f) = absurd (omega (arith, f.0))
space_err_by g name is spaces.NoMemory (inr f) = refl

unlike_memory : (e : SpaceFault) → 3 ≡ kind e ⊎ (e ≡ spaces.NoMemory → ⊥)
unlike_memory (spaces.Reversed k) = inr (λ h. absurd (let n : 0 ≡ 3 = ap kind h in omega arith))
unlike_memory (spaces.Order k) = inr (λ h. absurd (let n : 0 ≡ 3 = ap kind h in omega arith))
unlike_memory spaces.Many = inr (λ h. absurd (let n : 1 ≡ 3 = ap kind h in omega arith))
unlike_memory spaces.Large = inr (λ h. absurd (let n : 1 ≡ 3 = ap kind h in omega arith))
unlike_memory spaces.Empty = inr (λ h. absurd (let n : 2 ≡ 3 = ap kind h in omega arith))
unlike_memory spaces.NoMemory = inl refl

memory_err : (g : GraphValue) (name : List ℕ) (is : List (ℕ × ℕ)) (e : SpaceFault) → 3 ≡ kind e → IsRefusedSpace g name is e
memory_err g name is (spaces.Reversed k) h = absurd (omega (arith, h))
memory_err g name is (spaces.Order k) h = absurd (omega (arith, h))
memory_err g name is spaces.Many h = absurd (omega (arith, h))
memory_err g name is spaces.Large h = absurd (omega (arith, h))
memory_err g name is spaces.Empty h = absurd (omega (arith, h))
memory_err g name is spaces.NoMemory h = refl

pub space_err : (g : GraphValue) (name : List ℕ) (is : List (ℕ × ℕ)) (e : SpaceFault) → (is ≡ [] → ⊥) → ((e ≡ spaces.NoMemory → ⊥) → space_fault_in (limits g.format).space is ≡ Some e) → IsRefusedSpace g name is e
space_err g name is e some h = elim (unlike_memory e) [ inl m ↦ memory_err g name is e m | inr n ↦ space_err_by g name is e (faulty (limits g.format).space is e some (h n)) ]

pub space_ok : {T : Type 0} (g new : GraphValue) (name : List ℕ) (is s : List (ℕ × ℕ)) (result : Result T ItemError) → s ≡ is → space_fault_in (limits g.format).space is ≡ None → IsDoneBy g (decl_fault g (decl.Space name s)) (decl.Space name s) new result →
    IsDoneBy g (space_reason g name is) (decl.Space name is) new result
space_ok g new name is s result e f h = subst (λ r. IsDoneBy g r (decl.Space name is) new result) (sym (reason_true g name is (faultless (limits g.format).space is f))) (subst (λ x. IsDoneBy g (decl_fault g (decl.Space name x)) (decl.Space name x) new result) e h)

abbrev as_space : List ℕ → List (ℕ × ℕ) → Decl ⊎ Line
as_space name is = inl (decl.Space name is)

space_six : (g : GraphValue) (name w : List ℕ) (rest : Option Why) (is : List (ℕ × ℕ)) → is_name_in g.format name ≡ true → is_used g name ≡ false → intervals_of w ≡ Some is → ascend_from 0 is ≡ false →
    or_else (first_reason (draft_tests g (space_with name w))) rest ≡ Some why.Space
space_six g name w rest is n u i a =
    ap (λ b. or_else (first_reason ((not b || (false || false), why.Name) ∷ ((is_used g name || (false || false)) || (false || false), why.Twice) ∷ (false, why.Unknown) ∷ (false, why.Kind) ∷ (not (is_some (intervals_of w)) || false, why.Number)
    ∷ (not (option_map_or (ascend_from 0) (intervals_of w) true) || false, why.Space) ∷ [])) rest) n
    ∙ (ap (λ b. or_else (first_reason ((false, why.Name) ∷ ((b || (false || false)) || (false || false), why.Twice) ∷ (false, why.Unknown) ∷ (false, why.Kind) ∷ (not (is_some (intervals_of w)) || false, why.Number)
    ∷ (not (option_map_or (ascend_from 0) (intervals_of w) true) || false, why.Space) ∷ [])) rest) u
    ∙ (ap (λ o. or_else (first_reason ((false, why.Name) ∷ (false, why.Twice) ∷ (false, why.Unknown) ∷ (false, why.Kind) ∷ (not (is_some o) || false, why.Number) ∷ (not (option_map_or (ascend_from 0) o true) || false, why.Space) ∷ [])) rest) i
    ∙ ap (λ b. or_else (first_reason ((false, why.Name) ∷ (false, why.Twice) ∷ (false, why.Unknown) ∷ (false, why.Kind) ∷ (false, why.Number) ∷ (not b || false, why.Space) ∷ [])) rest) a))

space_new : (g : GraphValue) (name w : List ℕ) (is : List (ℕ × ℕ)) (b : Bool) → ascend_from 0 is ≡ b → is_name_in g.format name ≡ true → is_used g name ≡ false → intervals_of w ≡ Some is → (space_with name w).item ≡ inl (decl.Space name is) → draft_fault g (space_with name w) ≡ space_reason g name is
space_new g name w is true a n u i e =
    fine_words g (space_with name w) (
      fine_name g name n u,
      (
        record {
          named = refl;
          once = refl;
          known = refl;
          alike = refl;
          numbered = ap (λ o. not (is_some o)) i;
          ordered = ap (λ o. not (option_map_or (ascend_from 0) o true)) i ∙ ap not a;
        },
        tt,
      ),
    ) refl refl
    ∙ (ap (item_fault g) e ∙ sym (reason_true g name is a))
space_new g name w is false a n u i e = space_six g name w (item_fault g (space_with name w).item) is n u i a ∙ (ap (λ b. Some (twice_or b why.Space)) (sym u) ∙ sym (reason_false g name is a))

reason_used : (g : GraphValue) (name : List ℕ) (is : List (ℕ × ℕ)) (b : Bool) → ascend_from 0 is ≡ b → is_used g name ≡ true → space_reason g name is ≡ Some why.Twice
reason_used g name is true a u = reason_true g name is a ∙ used_first (is_used g name) false (later_decl_tests g (decl.Space name is)) u
reason_used g name is false a u = reason_false g name is a ∙ ap (λ b. Some (twice_or b why.Space)) u

space_by : (g : GraphValue) (name w : List ℕ) (is : List (ℕ × ℕ)) (b : Bool) → is_used g name ≡ b → is_name_in g.format name ≡ true → intervals_of w ≡ Some is → (space_with name w).item ≡ inl (decl.Space name is) → draft_fault g (space_with name w) ≡ space_reason g name is
space_by g name w is true u n i e = named_twice (not (is_name_in g.format name) || false) (is_used g name) false false (later_tests g (space_with name w)) (item_fault g (space_with name w).item) (ap (λ b. not b || false) n) u ∙ sym (reason_used g name is (ascend_from 0 is) refl u)
space_by g name w is false u n i e = space_new g name w is (ascend_from 0 is) refl n u i e

pub space_is : (g : GraphValue) (name new w : List ℕ) (is : List (ℕ × ℕ)) → is_name_in g.format name ≡ true → new ≡ name → intervals_of w ≡ Some is →
    (draft_fault g (space_with name w) ≡ space_reason g new is) × ((space_with name w).item ≡ inl (decl.Space new is))
space_is g name new w is n e i =
    let item : (space_with name w).item ≡ as_space name is = ap (λ o. as_space name (unwrap_or o [])) i in (
      space_by g name w is (is_used g name) refl n i item ∙ ap (λ x. space_reason g x is) (sym e),
      item ∙ ap (λ x. as_space x is) (sym e),
    )

-- its word spells no intervals
pub space_misnumbered : (g : GraphValue) (name w : List ℕ) → is_name_in g.format name ≡ true → intervals_of w ≡ None → draft_fault g (space_with name w) ≡ Some (twice_or (is_used g name) why.Number)
space_misnumbered g name w n i = number_left (not (is_name_in g.format name) || false) (is_used g name) (not (is_some (intervals_of w)) || false) (not (option_map_or (ascend_from 0) (intervals_of w) true) || false) (item_fault g (space_with name w).item) (ap (λ b. not b || false) n) (ap (λ o. not (is_some o) || false) i)

-- instances and data
pub columns_reason_is : (g : GraphValue) (hosted : Bool) (name space : List ℕ) (fields : List (List ℕ)) (r k l : Bool) → repeats bytes_eq fields ≡ r → is_used g space ≡ k → unlike g SpaceName space ≡ l →
    columns_reason g hosted name space fields ≡ or_else (first_reason ((r, why.Twice) ∷ (not k, why.Unknown) ∷ (l, why.Kind) ∷ [])) (decl_fault g (spelled_columns g hosted name space fields))
columns_reason_is g hosted name space fields r k l a b c =
    ap (λ x. or_else (first_reason ((x, why.Twice) ∷ (not (is_used g space), why.Unknown) ∷ (unlike g SpaceName space, why.Kind) ∷ [])) (decl_fault g (spelled_columns g hosted name space fields))) a
    ∙ (ap (λ x. or_else (first_reason ((r, why.Twice) ∷ (not x, why.Unknown) ∷ (unlike g SpaceName space, why.Kind) ∷ [])) (decl_fault g (spelled_columns g hosted name space fields))) b
    ∙ ap (λ x. or_else (first_reason ((r, why.Twice) ∷ (not k, why.Unknown) ∷ (x, why.Kind) ∷ [])) (decl_fault g (spelled_columns g hosted name space fields))) c)

columns_six : (r k l : Bool) (rest : Option Why) → or_else (first_reason ((false, why.Name) ∷ ((false || (false || (r || false))) || (false || false), why.Twice) ∷ (false || (k || (false || false)), why.Unknown) ∷ (false || (l || (false || false)), why.Kind) ∷ (false, why.Number) ∷ (false, why.Space) ∷ [])) rest
    ≡ or_else (first_reason ((r, why.Twice) ∷ (k, why.Unknown) ∷ (l, why.Kind) ∷ [])) rest
columns_six true k l rest = refl
columns_six false true l rest = refl
columns_six false false true rest = refl
columns_six false false false rest = refl

abbrev as_columns : GraphValue → Bool → List ℕ → List ℕ → List (List ℕ) → Decl ⊎ Line
as_columns g hosted name space fields = inl (spelled_columns g hosted name space fields)

pub columns_is : (g : GraphValue) (hosted : Bool) (name new space w : List ℕ) (fields : List (List ℕ)) → is_name_in g.format name ≡ true → new ≡ name → is_name_in g.format space ≡ true → list_all (is_name_in g.format) (pieces 44 w) ≡ true → fields ≡ pieces 44 w → is_used g name ≡ false →
    (draft_fault g (columns_with g hosted name space w) ≡ columns_reason g hosted new space fields) × ((columns_with g hosted name space w).item ≡ as_columns g hosted new space fields)
columns_is g hosted name new space w fields n e s f is u = (
  ap (λ b. or_else (first_reason ((not b || (not (is_name_in g.format space) || (not (is_fields g.format w) || false)), why.Name) ∷ ((is_used g name || (false || (repeats bytes_eq (pieces 44 w) || false))) || (false || false), why.Twice)
      ∷ (false || (not (is_used g space) || (false || false)), why.Unknown) ∷ (false || (unlike g SpaceName space || (false || false)), why.Kind) ∷ (false, why.Number) ∷ (false, why.Space) ∷ [])) (decl_fault g (spelled_columns g hosted name space (pieces 44 w)))) n
      ∙ (ap (λ b. or_else (first_reason ((not b || (not (is_fields g.format w) || false), why.Name) ∷ ((is_used g name || (false || (repeats bytes_eq (pieces 44 w) || false))) || (false || false), why.Twice)
      ∷ (false || (not (is_used g space) || (false || false)), why.Unknown) ∷ (false || (unlike g SpaceName space || (false || false)), why.Kind) ∷ (false, why.Number) ∷ (false, why.Space) ∷ [])) (decl_fault g (spelled_columns g hosted name space (pieces 44 w)))) s
      ∙ (ap (λ b. or_else (first_reason ((not b || false, why.Name) ∷ ((is_used g name || (false || (repeats bytes_eq (pieces 44 w) || false))) || (false || false), why.Twice)
      ∷ (false || (not (is_used g space) || (false || false)), why.Unknown) ∷ (false || (unlike g SpaceName space || (false || false)), why.Kind) ∷ (false, why.Number) ∷ (false, why.Space) ∷ [])) (decl_fault g (spelled_columns g hosted name space (pieces 44 w)))) f
      ∙ (ap (λ b. or_else (first_reason ((false, why.Name) ∷ ((b || (false || (repeats bytes_eq (pieces 44 w) || false))) || (false || false), why.Twice)
      ∷ (false || (not (is_used g space) || (false || false)), why.Unknown) ∷ (false || (unlike g SpaceName space || (false || false)), why.Kind) ∷ (false, why.Number) ∷ (false, why.Space) ∷ [])) (decl_fault g (spelled_columns g hosted name space (pieces 44 w)))) u
      ∙ (columns_six (repeats bytes_eq (pieces 44 w)) (not (is_used g space)) (unlike g SpaceName space) (decl_fault g (spelled_columns g hosted name space (pieces 44 w)))
      ∙ (ap (λ x. columns_reason g hosted x space (pieces 44 w)) (sym e) ∙ ap (columns_reason g hosted new space) (sym is)))))),
  ap (λ x. as_columns g hosted x space (pieces 44 w)) (sym e) ∙ ap (as_columns g hosted new space) (sym is),
)

column_count : (g : GraphValue) (hosted : Bool) (name : List ℕ) (space : ℕ) (fields : List (List ℕ)) → length (kept_columns hosted (with_decl g (columns_decl hosted name space fields))) ≡ length (kept_columns hosted g) + length fields
column_count g false name space fields =
    ap length (flat_map-append columns_of g.decls (decl.Inst name space fields ∷ []))
    ∙ (length-append (columns g) (flat_map columns_of (decl.Inst name space fields ∷ []))
    ∙ ap (λ n. length (columns g) + n) (ap length (append-nil (columns_of (decl.Inst name space fields))) ∙ length-map fields _))
column_count g true name space fields =
    ap length (flat_map-append data_columns_of g.decls (decl.Data name space fields ∷ []))
    ∙ (length-append (data_columns g) (flat_map data_columns_of (decl.Data name space fields ∷ []))
    ∙ ap (λ n. length (data_columns g) + n) (ap length (append-nil (data_columns_of (decl.Data name space fields))) ∙ length-map fields _))

-- more columns than the format allows
many_columns : (g : GraphValue) → (limits g.format).columns < length (columns g) + length (data_columns g) → is_beyond g ≡ true
many_columns g l = or_right (nat_lt (limits g.format).text (length (head g))) _ (or_right (has_many_spaces g) _ (or_right (nat_lt (limits g.format).insts (length (filter is_inst g.decls))) _
    (or_left (nat_lt (limits g.format).columns (length (columns g) + length (data_columns g))) _ (lt-ltb (limits g.format).columns (length (columns g) + length (data_columns g)) l))))

many_by : (g : GraphValue) (hosted : Bool) → (limits g.format).columns < length (kept_columns hosted g) → is_beyond g ≡ true
many_by g false l = many_columns g (omega arith)
many_by g true l = many_columns g (omega arith)

-- the last reason is left where no other is
limit_by : (u r s k m l : Bool) → u ≡ false → r ≡ false → s ≡ false → k ≡ false → m ≡ false → l ≡ true →
    first_reason ((u || r, why.Twice) ∷ (s, why.Unknown) ∷ (k, why.Kind) ∷ (m, why.Number) ∷ (l, why.Limit) ∷ []) ≡ Some why.Limit
limit_by false false false false false true a b c d e f = refl
limit_by true r s k m l a b c d e f = absurd (true≢false a)
limit_by false true s k m l a b c d e f = absurd (true≢false b)
limit_by false false true k m l a b c d e f = absurd (true≢false c)
limit_by false false false true m l a b c d e f = absurd (true≢false d)
limit_by false false false false true l a b c d e f = absurd (true≢false e)
limit_by false false false false false false a b c d e f = absurd (true≢false (sym f))

-- more fields than a graph may have columns
fields_by : (g : GraphValue) (hosted : Bool) (name : List ℕ) (space : ℕ) (fields : List (List ℕ)) → columns_lack g.format hosted ≡ false → is_used g name ≡ false → repeats bytes_eq fields ≡ false → nat_le (length (named_spaces g)) space ≡ false → nat_lt (length fields) 1 ≡ false →
    is_beyond (with_decl g (columns_decl hosted name space fields)) ≡ true → decl_fault g (columns_decl hosted name space fields) ≡ Some why.Limit
fields_by g false name space fields t u r s n l = limit_by (is_used g name) (repeats bytes_eq fields) (nat_le (length (named_spaces g)) space) false (nat_lt (length fields) 1) (is_beyond (with_decl g (decl.Inst name space fields))) u r s refl n l
fields_by g true name space fields t u r s n l = limit_by (is_used g name) (repeats bytes_eq fields) (nat_le (length (named_spaces g)) space) (not (has_since Three g.format)) (nat_lt (length fields) 1) (is_beyond (with_decl g (decl.Data name space fields))) u r s t n l

pub fields_limit : (g : GraphValue) (hosted : Bool) (name : List ℕ) (space : List ℕ) (fields : List (List ℕ)) → columns_lack g.format hosted ≡ false → is_used g name ≡ false → repeats bytes_eq fields ≡ false → space_number g space < length (named_spaces g) → (limits g.format).columns < length fields →
    decl_fault g (spelled_columns g hosted name space fields) ≡ Some why.Limit
fields_limit g hosted name space fields t u r s l =
    fields_by g hosted name (space_number g space) fields t u r (lt-leb (length (named_spaces g)) (space_number g space) s) (le-ltb (length fields) 1 (omega arith))
    (many_by (with_decl g (spelled_columns g hosted name space fields)) hosted
    (let n : length (kept_columns hosted (with_decl g (spelled_columns g hosted name space fields))) ≡ length (kept_columns hosted g) + length fields = column_count g hosted name (space_number g space) fields in omega arith))

abbrev space_place : GraphValue → List ℕ → Option ℕ
space_place g w = position (λ (x : List ℕ × List (ℕ × ℕ)). bytes_eq x.0 w) (named_spaces g)

unlike_space : (g : GraphValue) (space : List ℕ) (o : Option ℕ) → space_place g space ≡ o → unlike g SpaceName space ≡ not (is_some o)
unlike_space g space o h = ap not (position_any (λ (x : List ℕ × List (ℕ × ℕ)). bytes_eq x.0 space) (named_spaces g) ∙ ap is_some h)

pub columns_unlike : (g : GraphValue) (hosted : Bool) (name space : List ℕ) (fields : List (List ℕ)) → repeats bytes_eq fields ≡ false → is_used g space ≡ true → space_place g space ≡ None → columns_reason g hosted name space fields ≡ Some why.Kind
columns_unlike g hosted name space fields r u p = columns_reason_is g hosted name space fields false true true r u (unlike_space g space None p)

pub columns_left : (g : GraphValue) (hosted : Bool) (name space : List ℕ) (fields : List (List ℕ)) (s : ℕ) → repeats bytes_eq fields ≡ false → is_used g space ≡ true → space_place g space ≡ Some s → columns_reason g hosted name space fields ≡ decl_fault g (spelled_columns g hosted name space fields)
columns_left g hosted name space fields s r u p = columns_reason_is g hosted name space fields false true false r u (unlike_space g space (Some s) p)

pub space_number_is : (g : GraphValue) (space : List ℕ) (s : ℕ) → space_place g space ≡ Some s → space_number g space ≡ s
space_number_is g space s p = ap (λ o. unwrap_or o 0) p

pub columns_ok : {T : Type 0} (g new : GraphValue) (hosted : Bool) (name space : List ℕ) (fields : List (List ℕ)) (s : ℕ) (result : Result T ItemError) → repeats bytes_eq fields ≡ false → is_used g space ≡ true → space_place g space ≡ Some s →
    IsDeclOffered g (columns_decl hosted name s fields) new result → IsDoneBy g (columns_reason g hosted name space fields) (spelled_columns g hosted name space fields) new result
columns_ok g new hosted name space fields s result r u p h = subst (λ x. IsDoneBy g x (spelled_columns g hosted name space fields) new result) (sym (columns_left g hosted name space fields s r u p))
    (subst (λ n. IsDeclOffered g (columns_decl hosted name n fields) new result) (sym (space_number_is g space s p)) h)

pub columns_many : (g : GraphValue) (hosted : Bool) (name space : List ℕ) (fields : List (List ℕ)) (s : ℕ) → columns_lack g.format hosted ≡ false → is_used g name ≡ false → repeats bytes_eq fields ≡ false → is_used g space ≡ true → space_place g space ≡ Some s → (limits g.format).columns < length fields → columns_reason g hosted name space fields ≡ Some why.Limit
columns_many g hosted name space fields s t n r u p l = columns_left g hosted name space fields s r u p ∙ fields_limit g hosted name space fields t n r
    (let e : space_number g space ≡ s = space_number_is g space s p in let b : s < length (named_spaces g) = (position-Some (λ (x : List ℕ × List (ℕ × ℕ)). bytes_eq x.0 space) (named_spaces g) s ([], []) p).0 in omega arith) l
