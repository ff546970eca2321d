-- Whether a name of a flow passes a test, and the first number of the names.
use Rattle.std.proofs.Common.{◌≡◌, ℕ, suc, ◌+◌, ◌-◌, ◌^◌, ◌<◌, ◌≤◌, Bool, true, false, cond, not, ◌||◌, List, map, sym, ◌∙◌, ap, lit<, arith}
use Rattle.std.proofs.Math.Nat.{pow-le-pow_right}
use Rattle.std.specs.Prelude.{Some, None, find, option_map, slice_get}
use Rattle.std.specs.List.{list_any, range_with_len}
use Rattle.std.proofs.lemmas.Bool.{or_left, or_right}
use Rattle.std.proofs.lemmas.List.Folds.{list_any-append}
use Rattle.graph_terms.specs.declared.decl.Decl.{Decl}
use Rattle.graph_terms.specs.declared.verb.Line.{Line}
use Rattle.graph_terms.specs.Graph.{GraphValue, decl_name}
use Rattle.graph_terms.specs.Fits.{names}
use Rattle.task_flow.specs.Construction.{takes_width, first_number}
use Rattle.basics.proofs.ListParts.{any_found}
use Rattle.basics.proofs.TestedLists.{any_map}

any_names : (t : List ℕ → Bool) (f : GraphValue) → list_any t (names f) ≡ (list_any (λ d. t (decl_name d)) f.decls || list_any (λ (l : Line). t l.name) f.lines)
any_names t f = list_any-append t (map decl_name f.decls) (map (λ (l : Line). l.name) f.lines) ∙ (ap (λ b. b || list_any t (map (λ (l : Line). l.name) f.lines)) (any_map t decl_name f.decls) ∙ ap (λ b. list_any (λ d. t (decl_name d)) f.decls || b) (any_map t (λ (l : Line). l.name) f.lines))

pub decl_takes : (t : List ℕ → Bool) (f : GraphValue) (k : ℕ) (d : Decl) → slice_get f.decls k ≡ Some d → t (decl_name d) ≡ true → list_any t (names f) ≡ true
decl_takes t f k d at h = any_names t f ∙ or_left (list_any (λ d. t (decl_name d)) f.decls) (list_any (λ (l : Line). t l.name) f.lines) (any_found (λ d. t (decl_name d)) f.decls k d at h)

pub line_takes : (t : List ℕ → Bool) (f : GraphValue) (k : ℕ) (l : Line) → slice_get f.lines k ≡ Some l → t l.name ≡ true → list_any t (names f) ≡ true
line_takes t f k l at h = any_names t f ∙ or_right (list_any (λ d. t (decl_name d)) f.decls) (list_any (λ (l : Line). t l.name) f.lines) (any_found (λ (l : Line). t l.name) f.lines k l at h)

abbrev pub is_free : GraphValue → ℕ → Bool
is_free f w = not (list_any (takes_width w) (names f))

found_by : (w n : ℕ) (t : ℕ → Bool) (b : Bool) → t w ≡ b → find t (range_with_len w (suc n)) ≡ cond b (Some w) (find t (range_with_len (w + 1) n))
found_by w n t b e = ap (λ x. cond x (Some w) (find t (range_with_len (w + 1) n))) e

pub first_found : (f : GraphValue) (w first : ℕ) → w < 19 → first ≡ 10 ^ (w - 1) → find (is_free f) (range_with_len 6 13) ≡ find (is_free f) (range_with_len w (19 - w)) → list_any (takes_width w) (names f) ≡ false → Some first ≡ first_number f
unfolding first_number
first_found f w first h is so free =
    let left : 19 - w ≡ suc (18 - w) = omega arith in
    ap (λ n. Some n) is ∙ sym (ap (option_map (λ w. 10 ^ (w - 1))) (so ∙ (ap (λ n. find (is_free f) (range_with_len w n)) left ∙ found_by w (18 - w) (is_free f) true (ap not free))))

pub first_skips : (f : GraphValue) (w : ℕ) → w < 19 → find (is_free f) (range_with_len 6 13) ≡ find (is_free f) (range_with_len w (19 - w)) → list_any (takes_width w) (names f) ≡ true → find (is_free f) (range_with_len 6 13) ≡ find (is_free f) (range_with_len (w + 1) (19 - (w + 1)))
first_skips f w h so taken =
    let left : 19 - w ≡ suc (18 - w) = omega arith in
    let right : 18 - w ≡ 19 - (w + 1) = omega arith in
    so ∙ (ap (λ n. find (is_free f) (range_with_len w n)) left ∙ (found_by w (18 - w) (is_free f) false (ap not taken) ∙ ap (λ n. find (is_free f) (range_with_len (w + 1) n)) right))

pub first_none : (f : GraphValue) (w : ℕ) → 19 ≤ w → find (is_free f) (range_with_len 6 13) ≡ find (is_free f) (range_with_len w (19 - w)) → None ≡ first_number f
unfolding first_number
first_none f w h so = let none : 19 - w ≡ 0 = omega arith in sym (ap (option_map (λ w. 10 ^ (w - 1))) (so ∙ ap (λ n. find (is_free f) (range_with_len w n)) none))

-- the powers are small
pub power_most : (w : ℕ) → w < 19 → 10 ^ (w - 1) ≤ 100000000000000000
power_most w h = let b : 10 ^ (w - 1) ≤ 10 ^ 17 = pow-le-pow_right (lit< tt) (let s : w - 1 ≤ 17 = omega arith in s) in b
