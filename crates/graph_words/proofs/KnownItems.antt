-- What declarations and lines have that no reason refuses.
use Rattle.std.proofs.Common.{◌≡◌, ℕ, ◌<◌, false, ◌||◌, List, ◌++◌, length, map}
use Rattle.std.specs.Prelude.{nat_eq, nat_le}
use Rattle.std.specs.List.{list_any, AllByRecursion}
use Rattle.std.proofs.lemmas.Bool.{or_parts, leb-false}
use Rattle.graph_terms.specs.declared.verb.Access.{Access}
use Rattle.graph_terms.specs.Graph.{GraphValue, named_spaces, columns, data_columns, decl_name}
use Rattle.graph_terms.specs.Access.{verb_accesses, call_accesses}
use Rattle.graph_terms.specs.Fits.{is_used, repeats, verb_repeats, named_lines, access_unknown, data_unknown, verb_unknown, verb_unlike, on_unlike, format_lacks, line_tests, decl_repeats, decl_tests}
use Rattle.graph_words.proofs.TextLists.{each_fails}
use Rattle.basics.proofs.TestedLists.{any_left, any_right, each_from_none, each_weaker}
use Rattle.graph_words.specs.Known.{IsKnownAccess, IsKnownData}
use Rattle.graph_words.specs.Laws.{LinesNameKnown, DeclarationsNameKnown}

known_access : (g : GraphValue) (a : Access) → access_unknown g a ≡ false → IsKnownAccess g a
known_access g a h = let p = or_parts (nat_le (length (columns g)) a.column) (nat_le (length (named_spaces g)) a.space) h in
    (leb-false (length (columns g)) a.column p.0, leb-false (length (named_spaces g)) a.space p.1)

known_data : (g : GraphValue) (a : Access) → data_unknown g a ≡ false → IsKnownData g a
known_data g a h = let p = or_parts (nat_le (length (data_columns g)) a.column) (nat_le (length (named_spaces g)) a.space) h in
    (leb-false (length (data_columns g)) a.column p.0, leb-false (length (named_spaces g)) a.space p.1)

below_each : (g : GraphValue) (is : List ℕ) → list_any (λ i. nat_le (length g.lines) i) is ≡ false → AllByRecursion (λ i. i < length g.lines) is
below_each g is h = each_weaker (λ i. nat_le (length g.lines) i ≡ false) (λ i. i < length g.lines) (λ i k. leb-false (length g.lines) i k) is (each_from_none (λ i. nat_le (length g.lines) i) is h)

pub known_line_of : LinesNameKnown
known_line_of g l h f =
    let t = each_fails (line_tests g l) f in
    let columns = repeats nat_eq (map (λ (a : Access). a.column) (verb_accesses l.verb)) in
    let u = or_parts (is_used g l.name) (verb_repeats g l.verb || (columns || repeats nat_eq l.on)) t.0 in
    let v = or_parts (verb_repeats g l.verb) (columns || repeats nat_eq l.on) u.1 in
    let o = or_parts columns (repeats nat_eq l.on) v.1 in
    let accesses = list_any (access_unknown g) (verb_accesses l.verb) in
    let data_accesses = list_any (data_unknown g) (call_accesses l.verb) in
    let w = or_parts (list_any (λ i. nat_le (length g.lines) i) (named_lines l.verb ++ l.on)) (verb_unknown g l.verb || (accesses || data_accesses)) t.1.0 in
    let x = or_parts (verb_unknown g l.verb) (accesses || data_accesses) w.1 in
    let a = or_parts accesses data_accesses x.1 in
    let y = or_parts (verb_unlike g l.verb) (on_unlike g.format l.verb l.on || format_lacks g.format l.verb) t.1.1.0 in
    let z = or_parts (on_unlike g.format l.verb l.on) (format_lacks g.format l.verb) y.1 in
    record {
      verb = record {
        accesses = each_weaker (λ a. access_unknown g a ≡ false) (IsKnownAccess g) (known_access g) (verb_accesses l.verb) (each_from_none (access_unknown g) (verb_accesses l.verb) a.0);
        data_accesses = each_weaker (λ a. data_unknown g a ≡ false) (IsKnownData g) (known_data g) (call_accesses l.verb) (each_from_none (data_unknown g) (call_accesses l.verb) a.1);
        events = below_each g (named_lines l.verb) (any_left (λ i. nat_le (length g.lines) i) (named_lines l.verb) l.on w.0);
        once = v.0;
        columns_once = o.0;
        known = x.0;
        alike = y.0;
        counted = t.1.1.1.0;
        there = z.1;
        values = h.values;
        called = h.called;
      };
      new = u.0;
      on_below = below_each g l.on (any_right (λ i. nat_le (length g.lines) i) (named_lines l.verb) l.on w.0);
      on_once = o.1;
      takes_on = z.0;
    }

pub known_decl_of : DeclarationsNameKnown
known_decl_of g d f =
    let t = each_fails (decl_tests g d) f in
    let u = or_parts (is_used g (decl_name d)) (decl_repeats d) t.0 in
    record { new = u.0; once = u.1; known = t.1.0; there = t.1.1.0; counted = t.1.1.1.0 }
