-- Each line that a row adds fits after the lines that stand.
use Rattle.std.proofs.Common.{◌≡◌, ℕ, zero, suc, ◌+◌, ◌<◌, ◌≤◌, true, false, not, ◌||◌, List, [], ◌∷◌, ◌++◌, length, map, refl, ap, length-append, arith, lit≤, lit<}
use Rattle.std.specs.Prelude.{◌≢◌, Option, Some, None, nat_eq, nat_le, slice_get, codes, decimal, option_map}
use Rattle.std.specs.Option.{option_map_or}
use Rattle.std.specs.List.{list_any}
use Rattle.std.proofs.lemmas.Bool.{false_from_ne_true, leb-true, eqb-true}
use Rattle.index_spaces.specs.declared.Op.TheVariants as op
use Rattle.graph_terms.specs.declared.verb.Access.{Access}
use Rattle.graph_terms.specs.declared.verb.Line.{Line}
use Rattle.graph_terms.specs.declared.verb.Mode.{Mode}
use Rattle.graph_terms.specs.declared.verb.Mode.TheVariants.{Read, Write, Sum}
use Rattle.graph_terms.specs.declared.verb.Verb.{Verb}
use Rattle.graph_terms.specs.declared.verb.Verb.TheVariants.{User, Trigger, Merge, MergeIgnore, Acquire, Release, Fill, Copy, Reduce, Task}
use Rattle.graph_terms.specs.declared.table.Kernel.TheVariants.{Iota, Expect}
use Rattle.graph_terms.specs.Graph.{is_user, is_acquire, ends_user, is_release_of}
use Rattle.graph_terms.specs.Access.{access, verb_accesses}
use Rattle.graph_terms.specs.Edges.{on_edges, verb_edges, line_edges}
use Rattle.graph_terms.specs.Fits.{access_unknown, access_outside, repeats, IsVerb}
use Rattle.graph_terms.specs.Spelling.{column_name, line_name, verb_words, on_words}
use Rattle.graph_gen.specs.MadeGraph.{on_lines, made_line}
use Rattle.graph_gen.proofs.LineNames.{decimal_short}
use Rattle.graph_gen.proofs.Standing.{lined, both_false, against, names_unknown, Standing, NextFits, Sized, size_cons, size_none, within_sixty, name_size}

-- what holds of each number below nine
below_nine : (P : ℕ → Type 0) → P 0 → P 1 → P 2 → P 3 → P 4 → P 5 → P 6 → P 7 → P 8 → (c : ℕ) → c < 9 → P c
below_nine P a b c d e f g h i zero l = a
below_nine P a b c d e f g h i (suc zero) l = b
below_nine P a b c d e f g h i (suc (suc zero)) l = c
below_nine P a b c d e f g h i (suc (suc (suc zero))) l = d
below_nine P a b c d e f g h i (suc (suc (suc (suc zero)))) l = e
below_nine P a b c d e f g h i (suc (suc (suc (suc (suc zero))))) l = f
below_nine P a b c d e f g h i (suc (suc (suc (suc (suc (suc zero)))))) l = g
below_nine P a b c d e f g h i (suc (suc (suc (suc (suc (suc (suc zero))))))) l = h
below_nine P a b c d e f g h i (suc (suc (suc (suc (suc (suc (suc (suc zero)))))))) l = i
below_nine P a b c d e f g h i (suc (suc (suc (suc (suc (suc (suc (suc (suc k))))))))) l = absurd (omega arith)

-- the columns are over the space, and their names are short
outside_not : (ls : List Line) (m : Mode) (c : ℕ) → c < 9 → access_outside (lined ls) (access c 0 m) ≡ false
outside_not ls m = below_nine (λ c. access_outside (lined ls) (access c 0 m) ≡ false) refl refl refl refl refl refl refl refl refl

unknown_not : (ls : List Line) (m : Mode) (c : ℕ) → c < 9 → access_unknown (lined ls) (access c 0 m) ≡ false
unknown_not ls m = below_nine (λ c. access_unknown (lined ls) (access c 0 m) ≡ false) refl refl refl refl refl refl refl refl refl

column_size : (ls : List Line) (c : ℕ) → c < 9 → length (column_name (lined ls) c) ≤ 5
column_size ls = below_nine (λ c. length (column_name (lined ls) c) ≤ 5) (lit≤ tt) (lit≤ tt) (lit≤ tt) (lit≤ tt) (lit≤ tt) (lit≤ tt) (lit≤ tt) (lit≤ tt) (lit≤ tt)

-- a precondition stands
abbrev pub Before : ℕ → Option ℕ → Type 0
Before n on = (e : ℕ) → on ≡ Some e → e < n

at_most_not : (n e : ℕ) → e < n → nat_le n e ≡ false
at_most_not n e h = false_from_ne_true (nat_le n e) (λ t. let l : n ≤ e = leb-true n e t in omega arith)

on_known : (n : ℕ) (on : Option ℕ) → Before n on → list_any (λ i. nat_le n i) (on_lines on) ≡ false
on_known n None b = refl
on_known n (Some e) b = both_false (nat_le n e) false (at_most_not n e (b e refl)) refl

equal_not : (a b : ℕ) → a ≢ b → nat_eq a b ≡ false
equal_not a b ne = false_from_ne_true (nat_eq a b) (λ t. ne (eqb-true a b t))

no_edges : (on : Option ℕ) (n : ℕ) → length (on_edges (on_lines on) n) ≤ 1
no_edges None n = lit≤ tt
no_edges (Some e) n = lit≤ tt

edges_few : (ls : List Line) (v : Verb) (on : Option ℕ) → length (verb_edges ls (length ls) v) ≤ 1 → length (line_edges ls (made_line 0 v on)) ≤ 2
edges_few ls v on h =
    let both : length (line_edges ls (made_line 0 v on)) ≡ length (on_edges (on_lines on) (length ls)) + length (verb_edges ls (length ls) v) = length-append (on_edges (on_lines on) (length ls)) (verb_edges ls (length ls) v) in
    let one : length (on_edges (on_lines on) (length ls)) ≤ 1 = no_edges on (length ls) in omega arith

on_size : (ls : List Line) (on : Option ℕ) → Standing ls → length ls ≤ 8192 → Before (length ls) on → Sized (on_words (lined ls) (on_lines on)) 10
on_size ls None st few b = record { size = lit≤ tt }
on_size ls (Some e) st few b = size_cons (codes "on") (line_name (lined ls) e ∷ []) 2 7 (lit≤ tt) (size_cons (line_name (lined ls) e) [] 6 0 (name_size ls e st (b e refl) few) size_none)

value_size : (v : ℕ) → v < 65536 → length (decimal v) ≤ 5
value_size v h = decimal_short 5 v (omega arith) (omega arith) (omega arith)

-- a line fits by what is shown of it
fits_by : (ls : List Line) (v : Verb) (on : Option ℕ) → against ls v on ≡ false → repeats nat_eq (map (λ (a : Access). a.column) (verb_accesses v)) ≡ false → names_unknown ls v on ≡ false
    → list_any (access_outside (lined ls)) (verb_accesses v) ≡ false → Sized (verb_words (lined ls) v ++ on_words (lined ls) (on_lines on)) 60 → length (line_edges ls (made_line 0 v on)) ≤ 2 → IsVerb v
    → ((k : ℕ) → length ls < k → (ends_user k v || is_release_of k v) ≡ false) → NextFits ls v on
fits_by ls v on clear apart known within words few_edges values ends_none_later =
    record { clear = clear; apart = apart; known = known; within = within; words = words; few_edges = few_edges; values = values; ends_none_later = ends_none_later }

module _ (ls : List Line) (st : Standing ls) (few : length ls ≤ 8192) where
  module _ (on : Option ℕ) (b : Before (length ls) on) where
    on_rest : Sized (on_words (lined ls) (on_lines on)) 10
    on_rest = on_size ls on st few b

    -- a line of one access, and of two
    one_known : (c : ℕ) (m : Mode) → c < 9 → list_any (λ i. nat_le (length ls) i) (on_lines on) || list_any (access_unknown (lined ls)) (access c 0 m ∷ []) ≡ false
    one_known c m h = both_false (list_any (λ i. nat_le (length ls) i) (on_lines on)) _ (on_known (length ls) on b) (both_false (access_unknown (lined ls) (access c 0 m)) false (unknown_not ls m c h) refl)

    one_within : (c : ℕ) (m : Mode) → c < 9 → list_any (access_outside (lined ls)) (access c 0 m ∷ []) ≡ false
    one_within c m h = both_false (access_outside (lined ls) (access c 0 m)) false (outside_not ls m c h) refl

    two_known : (a d : ℕ) (m : Mode) → a < 9 → d < 9 → list_any (λ i. nat_le (length ls) i) (on_lines on) || list_any (access_unknown (lined ls)) (access a 0 Read ∷ access d 0 m ∷ []) ≡ false
    two_known a d m h k = both_false (list_any (λ i. nat_le (length ls) i) (on_lines on)) _ (on_known (length ls) on b)
        (both_false (access_unknown (lined ls) (access a 0 Read)) _ (unknown_not ls Read a h) (both_false (access_unknown (lined ls) (access d 0 m)) false (unknown_not ls m d k) refl))

    two_within : (a d : ℕ) (m : Mode) → a < 9 → d < 9 → list_any (access_outside (lined ls)) (access a 0 Read ∷ access d 0 m ∷ []) ≡ false
    two_within a d m h k = both_false (access_outside (lined ls) (access a 0 Read)) _ (outside_not ls Read a h) (both_false (access_outside (lined ls) (access d 0 m)) false (outside_not ls m d k) refl)

    two_apart : (a d : ℕ) → a ≢ d → (nat_eq a d || false) || (false || false) ≡ false
    two_apart a d ne = both_false (nat_eq a d || false) (false || false) (both_false (nat_eq a d) false (equal_not a d ne) refl) refl

    pub fill_fits : (c v : ℕ) → c < 9 → v < 65536 → NextFits ls (Fill c 0 v) on
    fill_fits c v h k = fits_by ls (Fill c 0 v) on refl refl (one_known c Write h) (one_within c Write h)
        (within_sixty _ _ (size_cons (codes "fill") _ 4 _ (lit≤ tt) (size_cons (column_name (lined ls) c) _ 5 _ (column_size ls c h) (size_cons (codes "s") _ 1 _ (lit≤ tt) (size_cons (decimal v) _ 5 10 (value_size v k) on_rest)))) (lit≤ tt))
        (edges_few ls (Fill c 0 v) on (lit≤ tt)) (omega arith) (λ k l. refl)

    pub iota_fits : (c v : ℕ) → c < 9 → v < 65536 → NextFits ls (Task (Iota c 0 v)) on
    iota_fits c v h k = fits_by ls (Task (Iota c 0 v)) on refl refl (one_known c Write h) (one_within c Write h)
        (within_sixty _ _ (size_cons (codes "task") _ 4 _ (lit≤ tt) (size_cons (codes "iota") _ 4 _ (lit≤ tt) (size_cons (column_name (lined ls) c) _ 5 _ (column_size ls c h) (size_cons (codes "s") _ 1 _ (lit≤ tt) (size_cons (decimal v) _ 5 10 (value_size v k) on_rest))))) (lit≤ tt))
        (edges_few ls (Task (Iota c 0 v)) on (lit≤ tt)) (omega arith) (λ k l. refl)

    pub expect_fits : (c : ℕ) → c < 9 → NextFits ls (Task (Expect c 0 0 60000)) on
    expect_fits c h = fits_by ls (Task (Expect c 0 0 60000)) on refl refl (one_known c Read h) (one_within c Read h)
        (within_sixty _ _ (size_cons (codes "task") _ 4 _ (lit≤ tt) (size_cons (codes "expect") _ 6 _ (lit≤ tt) (size_cons (column_name (lined ls) c) _ 5 _ (column_size ls c h) (size_cons (codes "s") _ 1 _ (lit≤ tt)
        (size_cons (decimal 0) _ 5 _ (value_size 0 (lit< tt)) (size_cons (decimal 60000) _ 5 10 (value_size 60000 (lit< tt)) on_rest)))))) (lit≤ tt))
        (edges_few ls (Task (Expect c 0 0 60000)) on (lit≤ tt)) (lit< tt, lit< tt) (λ k l. refl)

    pub copy_fits : (a d : ℕ) → a < 9 → d < 9 → a ≢ d → NextFits ls (Copy a d 0) on
    copy_fits a d h k ne = fits_by ls (Copy a d 0) on refl (two_apart a d ne) (two_known a d Write h k) (two_within a d Write h k)
        (within_sixty _ _ (size_cons (codes "copy") _ 4 _ (lit≤ tt) (size_cons (column_name (lined ls) a) _ 5 _ (column_size ls a h) (size_cons (column_name (lined ls) d) _ 5 _ (column_size ls d k) (size_cons (codes "s") _ 1 10 (lit≤ tt) on_rest)))) (lit≤ tt))
        (edges_few ls (Copy a d 0) on (lit≤ tt)) tt (λ k l. refl)

    pub sum_fits : (a d : ℕ) → a < 9 → d < 9 → a ≢ d → NextFits ls (Reduce op.Sum a d 0) on
    sum_fits a d h k ne = fits_by ls (Reduce op.Sum a d 0) on refl (two_apart a d ne) (two_known a d Sum h k) (two_within a d Sum h k)
        (within_sixty _ _ (size_cons (codes "reduce") _ 6 _ (lit≤ tt) (size_cons (codes "sum") _ 3 _ (lit≤ tt) (size_cons (column_name (lined ls) a) _ 5 _ (column_size ls a h) (size_cons (column_name (lined ls) d) _ 5 _ (column_size ls d k) (size_cons (codes "s") _ 1 10 (lit≤ tt) on_rest))))) (lit≤ tt))
        (edges_few ls (Reduce op.Sum a d 0) on (lit≤ tt)) tt (λ k l. refl)

    pub acquire_fits : NextFits ls (Acquire 0 false) on
    acquire_fits = fits_by ls (Acquire 0 false) on refl refl (both_false (list_any (λ i. nat_le (length ls) i) (on_lines on)) false (on_known (length ls) on b) refl) refl
        (within_sixty _ _ (size_cons (codes "acquire") _ 7 _ (lit≤ tt) (size_cons (codes "l") _ 1 10 (lit≤ tt) on_rest)) (lit≤ tt))
        (edges_few ls (Acquire 0 false) on (lit≤ tt)) tt (λ k l. refl)

    -- the user event or the acquire that a line names stands, and no other line ended or released it
    module _ (u : ℕ) (stands : u < length ls) where
      named_known : (nat_le (length ls) u || list_any (λ i. nat_le (length ls) i) (on_lines on)) || false ≡ false
      named_known = both_false (nat_le (length ls) u || list_any (λ i. nat_le (length ls) i) (on_lines on)) false (both_false (nat_le (length ls) u) (list_any (λ i. nat_le (length ls) i) (on_lines on)) (at_most_not (length ls) u stands) (on_known (length ls) on b)) refl

      pub trigger_fits : list_any (λ (l : Line). ends_user u l.verb) ls ≡ false → option_map_or is_user (option_map (λ (l : Line). l.verb) (slice_get ls u)) false ≡ true → NextFits ls (Trigger u) on
      trigger_fits fresh user = fits_by ls (Trigger u) on (both_false _ _ fresh (both_false _ false (ap not user) refl)) refl named_known refl
          (within_sixty _ _ (size_cons (codes "trigger") _ 7 _ (lit≤ tt) (size_cons (line_name (lined ls) u) _ 6 10 (name_size ls u st stands few) on_rest)) (lit≤ tt))
          (edges_few ls (Trigger u) on (lit≤ tt)) tt (λ k l. both_false (nat_eq u k) false (equal_not u k (omega arith)) refl)

      pub release_fits : list_any (λ (l : Line). is_release_of u l.verb) ls ≡ false → option_map_or is_acquire (option_map (λ (l : Line). l.verb) (slice_get ls u)) false ≡ true → NextFits ls (Release u) on
      release_fits fresh acquire = fits_by ls (Release u) on (both_false _ _ fresh (both_false _ false (ap not acquire) refl)) refl named_known refl
          (within_sixty _ _ (size_cons (codes "release") _ 7 _ (lit≤ tt) (size_cons (line_name (lined ls) u) _ 6 10 (name_size ls u st stands few) on_rest)) (lit≤ tt))
          (edges_few ls (Release u) on (lit≤ tt)) tt (λ k l. equal_not u k (omega arith))

  pub user_fits : NextFits ls User None
  user_fits = fits_by ls User None refl refl refl refl (within_sixty _ _ (size_cons (codes "user") [] 4 0 (lit≤ tt) size_none) (lit≤ tt)) (edges_few ls User None (lit≤ tt)) tt (λ k l. refl)

  -- merges of one line, and of two that differ
  module _ (e : ℕ) (h : e < length ls) where
    alone_known : (nat_le (length ls) e || false) || false ≡ false
    alone_known = both_false (nat_le (length ls) e || false) false (both_false (nat_le (length ls) e) false (at_most_not (length ls) e h) refl) refl

    pub settle_fits : NextFits ls (MergeIgnore (e ∷ [])) None
    settle_fits = fits_by ls (MergeIgnore (e ∷ [])) None refl refl alone_known refl
        (within_sixty _ _ (size_cons (codes "mergei") _ 6 _ (lit≤ tt) (size_cons (line_name (lined ls) e) [] 6 0 (name_size ls e st h few) size_none)) (lit≤ tt))
        (edges_few ls (MergeIgnore (e ∷ [])) None (lit≤ tt)) tt (λ k l. refl)

    pub one_fits : NextFits ls (Merge (e ∷ [])) None
    one_fits = fits_by ls (Merge (e ∷ [])) None refl refl alone_known refl
        (within_sixty _ _ (size_cons (codes "merge") _ 5 _ (lit≤ tt) (size_cons (line_name (lined ls) e) [] 6 0 (name_size ls e st h few) size_none)) (lit≤ tt))
        (edges_few ls (Merge (e ∷ [])) None (lit≤ tt)) tt (λ k l. refl)

    pub two_fit : (f : ℕ) → f < length ls → nat_eq e f ≡ false → NextFits ls (Merge (e ∷ f ∷ [])) None
    two_fit f k ne = fits_by ls (Merge (e ∷ f ∷ [])) None (both_false _ _ (both_false (nat_eq e f || false) (false || false) (both_false (nat_eq e f) false ne refl) refl) refl) refl
        (both_false (nat_le (length ls) e || (nat_le (length ls) f || false)) false (both_false (nat_le (length ls) e) (nat_le (length ls) f || false) (at_most_not (length ls) e h) (both_false (nat_le (length ls) f) false (at_most_not (length ls) f k) refl)) refl) refl
        (within_sixty _ _ (size_cons (codes "merge") _ 5 _ (lit≤ tt) (size_cons (line_name (lined ls) e) _ 6 _ (name_size ls e st h few) (size_cons (line_name (lined ls) f) [] 6 0 (name_size ls f st k few) size_none))) (lit≤ tt)) (lit≤ tt) tt (λ k l. refl)
