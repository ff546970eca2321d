-- What the accesses of calls give, and the columns of data behind the others.
use Rattle.std.proofs.Common.{◌≡◌, ℕ, zero, suc, ◌+◌, ◌<◌, Bool, true, false, not, ◌||◌, List, [], ◌∷◌, ◌++◌, length, take, map, refl, sym, ◌∙◌, ap, append-nil, arith, get_or}
use Rattle.std.specs.Prelude.{Option, Some, None, option_map, slice_get, nat_le, ◌↔◌, IsTrue}
use Rattle.std.specs.Option.{option_map_or}
use Rattle.std.specs.List.{list_any, list_all}
use Rattle.std.proofs.lemmas.Bool.{true≢false, or_parts, leb-false}
use Rattle.std.proofs.lemmas.Option.{none-some, same_Some, slice_get_within, slice_get-get_or, slice_get-map}
use Rattle.index_spaces.specs.Laws.{PointsAreListed}
use Rattle.index_spaces.specs.Space.{has_point, points, Meet, IsWithin}
use Rattle.graph_terms.specs.declared.decl.Decl.TheVariants.{Space, Inst}
use Rattle.graph_terms.specs.declared.format.Format.TheVariants.{One}
use Rattle.graph_terms.specs.declared.verb.Access.{Access}
use Rattle.graph_terms.specs.declared.verb.Mode.TheVariants.{Read}
use Rattle.graph_terms.specs.declared.verb.Line.{Line}
use Rattle.graph_terms.specs.declared.verb.Verb.{Verb}
use Rattle.graph_terms.specs.declared.verb.Verb.TheVariants.{User, Call}
use Rattle.graph_terms.specs.Graph.{GraphValue, verb_at, data_columns}
use Rattle.graph_terms.specs.Access.{access, in_format, verb_accesses, accesses, call_accesses, behind_columns, all_accesses}
use Rattle.graph_terms.specs.Fits.{named_lines, verb_unknown, access_unknown, data_unknown, IsGraph}
use Rattle.graph_terms.proofs.Public.{fits_known, fit_at, outside_is}
use Rattle.basics.proofs.ListFacts.{some_passes, passes_some}
use Rattle.graph_model.proofs.CountLaws.{get_before}

-- the accesses of a call of a graph are known
pub call_known : (g : GraphValue) (i : ℕ) (l : Line) → IsGraph g → slice_get g.lines i ≡ Some l → list_any (data_unknown g) (call_accesses l.verb) ≡ false
call_known g i l f at =
    let fit = fit_at g.format g.decls [] g.lines f.lines i l at in
    let h : GraphValue = record { format = g.format; decls = g.decls; lines = fit.0 } in
    let named : Bool = list_any (λ k. nat_le (length fit.0) k) (named_lines l.verb ++ l.on) in
    let cells : Bool = list_any (access_unknown h) (verb_accesses l.verb) in
    let called : Bool = list_any (data_unknown g) (call_accesses l.verb) in
    let known = or_parts named (verb_unknown h l.verb || (cells || called)) (fits_known h l fit.1) in
    (or_parts cells called (or_parts (verb_unknown h l.verb) (cells || called) known.1).1).1

pub access_known : (g : GraphValue) (given : List Access) (k : ℕ) (a : Access) → list_any (data_unknown g) given ≡ false → slice_get given k ≡ Some a → data_unknown g a ≡ false
access_known g [] k a h e = absurd (none-some a e)
access_known g (x ∷ given) zero a h e = ap (data_unknown g) (sym (same_Some x a e)) ∙ (or_parts (data_unknown g x) (list_any (data_unknown g) given) h).0
access_known g (x ∷ given) (suc k) a h e = access_known g given k a (or_parts (data_unknown g x) (list_any (data_unknown g) given) h).1 e

-- nor is one of the first of them unknown
pub first_known : (g : GraphValue) (n : ℕ) (given : List Access) → list_any (data_unknown g) given ≡ false → list_any (data_unknown g) (take n given) ≡ false
first_known g zero given h = refl
first_known g (suc n) [] h = refl
first_known g (suc n) (x ∷ given) h =
    let parts = or_parts (data_unknown g x) (list_any (data_unknown g) given) h in
    ap (λ b. b || list_any (data_unknown g) (take n given)) parts.0 ∙ first_known g n given parts.1

pub column_known : (g : GraphValue) (a : Access) → data_unknown g a ≡ false → a.column < length (data_columns g)
column_known g a h = leb-false (length (data_columns g)) a.column (or_parts _ _ h).0

-- the verb of a line that is read
verb_of : (g : GraphValue) (i : ℕ) (l : Line) → slice_get g.lines i ≡ Some l → verb_at g i ≡ Some l.verb
verb_of g i l e = ap (option_map (λ (x : Line). x.verb)) e

pub calls_of : (g : GraphValue) (i : ℕ) (l : Line) → slice_get g.lines i ≡ Some l → option_map_or call_accesses (verb_at g i) [] ≡ call_accesses l.verb
calls_of g i l e = ap (λ o. option_map_or call_accesses o []) (verb_of g i l e)

-- an access of a column with cells is one of all
pub among_all : (g : GraphValue) (i k : ℕ) (a : Access) → slice_get (accesses g i) k ≡ Some a → Some a ≡ slice_get (all_accesses g i) k
among_all g i k a e = sym (get_before (accesses g i) (map (behind_columns g) (option_map_or call_accesses (verb_at g i) [])) k (slice_get_within (accesses g i) k a e) ∙ e)

-- a line without such an access of this number has those of a call, or none
pub of_call : (g : GraphValue) (i k : ℕ) → i < length g.lines → slice_get (accesses g i) k ≡ None →
    slice_get (map (behind_columns g) (option_map_or call_accesses (verb_at g i) [])) k ≡ slice_get (all_accesses g i) k
of_call g i k below none =
    let blank : Line = record { name = []; verb = User; on = [] } in
    by_verb (verb_at g i) (get_or g.lines i blank).verb (verb_of g i (get_or g.lines i blank) (slice_get-get_or g.lines i blank below)) none
  where
    Same : Option Verb → Type 0
    Same o = slice_get (map (in_format g.format) (option_map_or verb_accesses o [])) k ≡ None →
        slice_get (map (behind_columns g) (option_map_or call_accesses o [])) k ≡ slice_get (map (in_format g.format) (option_map_or verb_accesses o []) ++ map (behind_columns g) (option_map_or call_accesses o [])) k

    of_verb : (v : Verb) → Same (Some v)
    of_verb (Call call) e = refl
    of_verb v e = sym (ap (λ xs. slice_get xs k) (append-nil (map (in_format g.format) (verb_accesses v))) ∙ e)

    by_verb : (o : Option Verb) (v : Verb) → o ≡ Some v → Same o
    by_verb None v e = absurd (none-some v e)
    by_verb (Some w) v e = of_verb w

-- no call of a graph without data accesses any
none_there : (g : GraphValue) (given : List Access) → length (data_columns g) ≡ 0 → list_any (data_unknown g) given ≡ false → given ≡ []
none_there g [] n h = refl
none_there g (a ∷ given) n h = absurd (let below : a.column < length (data_columns g) = column_known g a (or_parts (data_unknown g a) (list_any (data_unknown g) given) h).0 in omega (arith, n, below))

pub no_data : (g : GraphValue) (i k : ℕ) (l : Line) → IsGraph g → slice_get g.lines i ≡ Some l → length (data_columns g) ≡ 0 →
    None ≡ slice_get (map (behind_columns g) (option_map_or call_accesses (verb_at g i) [])) k
no_data g i k l f at n =
    let none : option_map_or call_accesses (verb_at g i) [] ≡ [] = calls_of g i l at ∙ none_there g (call_accesses l.verb) n (call_known g i l f at) in
    sym (ap (λ given. slice_get (map (behind_columns g) given) k) none)

-- the access of a number of a call that is read
pub call_read : (g : GraphValue) (i k : ℕ) (l : Line) (a : Access) → slice_get g.lines i ≡ Some l → slice_get (call_accesses l.verb) k ≡ Some a →
    Some (behind_columns g a) ≡ slice_get (map (behind_columns g) (option_map_or call_accesses (verb_at g i) [])) k
call_read g i k l a at e =
    sym (ap (λ given. slice_get (map (behind_columns g) given) k) (calls_of g i l at) ∙ (slice_get-map (behind_columns g) (call_accesses l.verb) k ∙ ap (option_map (behind_columns g)) e))

pub call_past : (g : GraphValue) (i k : ℕ) (l : Line) → slice_get g.lines i ≡ Some l → slice_get (call_accesses l.verb) k ≡ None →
    None ≡ slice_get (map (behind_columns g) (option_map_or call_accesses (verb_at g i) [])) k
call_past g i k l at e =
    sym (ap (λ given. slice_get (map (behind_columns g) given) k) (calls_of g i l at) ∙ (slice_get-map (behind_columns g) (call_accesses l.verb) k ∙ ap (option_map (behind_columns g)) e))

-- a column behind others
pub get_behind : {X : Type 0} (xs ys : List X) (k n : ℕ) → n ≡ length xs + k → slice_get (xs ++ ys) n ≡ slice_get ys k
get_behind [] ys k n e = ap (slice_get ys) (let b : n ≡ 0 + k = e in omega (arith, b))
get_behind (x ∷ xs) ys k zero e = absurd (let b : 0 ≡ suc (length xs) + k = e in omega (arith, b))
get_behind (x ∷ xs) ys k (suc n) e = get_behind xs ys k n (let b : suc n ≡ suc (length xs) + k = e in omega (arith, b))

-- two spaces, the second that of a column
abbrev two : List (ℕ × ℕ) → List (ℕ × ℕ) → GraphValue
two s t = record { format = One; decls = Space [] s ∷ Space [] t ∷ Inst [] 1 ([] ∷ []) ∷ []; lines = [] }

-- whether the points of a space lie in another, as the test of an access says
pub lies_outside : PointsAreListed → (s t : List (ℕ × ℕ)) (b : Bool) → IsTrue b ↔ IsWithin s t → not b ≡ not (list_all (has_point t) (points s))
lies_outside l s t b w = outside_is l (two s t) (access 0 0 Read) b w

-- whether two spaces share a point
pub shares_point : PointsAreListed → (s t : List (ℕ × ℕ)) (b : Bool) → IsTrue b ↔ Meet s t → b ≡ list_any (has_point s) (points t)
shares_point l s t b w = by_test b (list_any (has_point s) (points t)) refl w
  where
    by_test : (b a : Bool) → list_any (has_point s) (points t) ≡ a → IsTrue b ↔ Meet s t → b ≡ a
    by_test true true e w = refl
    by_test false false e w = refl
    by_test true false e w =
        let m = w.0 refl in
        absurd (true≢false (sym (passes_some (has_point s) (points t) m.0 ((l t m.0).1 m.2) m.1) ∙ e))
    by_test false true e w =
        let m = some_passes (has_point s) (points t) e in
        absurd (true≢false (sym (w.1 (m.0, m.2, (l t m.0).0 m.1))))
