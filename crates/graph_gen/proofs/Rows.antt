-- The lines of each row fit, and what stands is kept from draw to draw.
use Rattle.std.proofs.Common.{◌≡◌, ℕ, ◌+◌, ◌<◌, ◌≤◌, Bool, true, false, cond, not, ◌&&◌, ◌||◌, inl, inr, List, [], ◌∷◌, ◌++◌, length, refl, sym, ◌∙◌, ap, subst, length-append, arith, lit≤, lit<}
use Rattle.std.specs.Prelude.{◌≢◌, ◌==◌, Option, Some, None, nat_le, is_some, slice_get, slice_set, option_map}
use Rattle.std.specs.Option.{option_map_or}
use Rattle.std.specs.List.{list_any}
use Rattle.std.proofs.lemmas.Bool.{true≢false, and_parts, not-true, eq-eqb, leb-true, cases_order}
use Rattle.std.proofs.lemmas.Option.{same_Some}
use Rattle.std.proofs.lemmas.List.{get_or-set_other, length-set}
use Rattle.std.proofs.lemmas.List.Folds.{list_any-append}
use Rattle.std.proofs.lemmas.Grind.{get_or-set_at}
use Rattle.index_spaces.specs.declared.Op.TheVariants as op
use Rattle.graph_terms.specs.declared.verb.Line.{Line}
use Rattle.graph_terms.specs.declared.verb.Verb.{Verb}
use Rattle.graph_terms.specs.declared.verb.Verb.TheVariants as verb
use Rattle.graph_terms.specs.declared.table.Kernel.TheVariants as kernel
use Rattle.graph_terms.specs.Graph.{is_user, is_acquire, ends_user, is_release_of}
use Rattle.graph_gen.specs.declared.draw.Row.{Row}
use Rattle.graph_gen.specs.declared.draw.Row.TheVariants.{Fill, Iota, Expect, Settle, Copy, Sum, Event, Section}
use Rattle.graph_gen.specs.declared.draw.Draw.{Draw}
use Rattle.graph_gen.specs.MadeGraph.{last_of, is_open, merged, made_line, row_lines, lasts_after}
use Rattle.graph_gen.proofs.AddedLines.{got_old}
use Rattle.graph_gen.proofs.Standing.{both_false, Standing, NextFits, next_stands, RowFits, row_end, row_more}
use Rattle.graph_gen.proofs.NextLines.{Before, fill_fits, iota_fits, expect_fits, copy_fits, sum_fits, acquire_fits, trigger_fits, release_fits, user_fits, settle_fits, one_fits, two_fit}

-- a line after lines is one more, and stands at their end
pub one_longer : (ls : List Line) (l : Line) → length (ls ++ l ∷ []) ≡ length ls + 1
one_longer ls l = length-append ls (l ∷ [])

at_end : (ls : List Line) (l : Line) → slice_get (ls ++ l ∷ []) (length ls) ≡ Some l
at_end [] l = refl
at_end (x ∷ ls) l = at_end ls l

none_more : (t : Line → Bool) (ls : List Line) (l : Line) → list_any t ls ≡ false → t l ≡ false → list_any t (ls ++ l ∷ []) ≡ false
none_more t ls l h k = list_any-append t ls (l ∷ []) ∙ both_false (list_any t ls) (t l || false) h (both_false (t l) false k refl)

before_more : (n m : ℕ) (on : Option ℕ) → n ≤ m → Before n on → Before m on
before_more n m on h b e s = let l : e < n = b e s in omega arith

before_some : (n e : ℕ) → e < n → Before n (Some e)
before_some n e h f s = subst (λ x. x < n) (same_Some e f s) h

last_line : (ls : List Line) (n : ℕ) (v : Verb) (on : Option ℕ) → length ls ≡ n → n < 8192 → Standing ls → NextFits ls v on → RowFits ls (made_line n v on ∷ [])
last_line ls n v on e r st f = row_more ls [] n v on e r st f (row_end (ls ++ made_line n v on ∷ []) (next_stands ls n v on e r st f))

settle_row : (ls : List Line) → Standing ls → length ls ≤ 8192 → (o : Option ℕ) → Before (length ls) o → is_some o ≡ true → NextFits ls (verb.MergeIgnore (merged o None)) None
settle_row ls st few None b h = absurd (true≢false (sym h))
settle_row ls st few (Some e) b h = settle_fits ls st few e (b e refl)

merge_row : (ls : List Line) → Standing ls → length ls ≤ 8192 → (o p : Option ℕ) → Before (length ls) o → Before (length ls) p → is_some o ≡ true → is_some p ≡ true → NextFits ls (verb.Merge (merged o p)) None
merge_row ls st few None p b c h k = absurd (true≢false (sym h))
merge_row ls st few (Some e) None b c h k = absurd (true≢false (sym k))
merge_row ls st few (Some e) (Some f) b c h k = chosen (e == f) refl
  where
    chosen : (t : Bool) → (e == f) ≡ t → NextFits ls (verb.Merge (cond t (e ∷ []) (e ∷ f ∷ []))) None
    chosen true s = one_fits ls st few e (b e refl)
    chosen false s = two_fit ls st few e (b e refl) f (c f refl) s

differ : (a b : ℕ) → not (a == b) ≡ true → a ≢ b
differ a b h e = true≢false (sym (eq-eqb a b e) ∙ not-true (a == b) h)

-- the last lines stand
abbrev pub LastsStand : List (Option ℕ) → ℕ → Type 0
LastsStand lasts n = (c : ℕ) → Before n (last_of lasts c)

pub row_size : (row : Row) (d : Draw) (lasts : List (Option ℕ)) (left n : ℕ) → is_open row d lasts left ≡ true → 1 ≤ left → (1 ≤ length (row_lines row d lasts n)) × (length (row_lines row d lasts n) ≤ left)
row_size Copy d lasts left n h k = (lit≤ tt, leb-true 2 left (and_parts (is_some (last_of lasts d.other)) (nat_le 2 left) (and_parts (is_some (last_of lasts d.column)) _ (and_parts (not (d.column == d.other)) _ h).1).1).1)
row_size Sum d lasts left n h k = (lit≤ tt, leb-true 2 left (and_parts (is_some (last_of lasts d.other)) (nat_le 2 left) (and_parts (is_some (last_of lasts d.column)) _ (and_parts (not (d.column == d.other)) _ h).1).1).1)
row_size Event d lasts left n h k = (lit≤ tt, leb-true 2 left h)
row_size Section d lasts left n h k = (lit≤ tt, leb-true 4 left h)
row_size row d lasts left n h k = (lit≤ tt, k)

module _ (d : Draw) (column : d.column < 8) (other : d.other < 8) (value : d.value < 65536) (lasts : List (Option ℕ)) (ls : List Line) (st : Standing ls) (stand : LastsStand lasts (length ls)) where
  abbrev n : ℕ
  n = length ls

  abbrev on : Option ℕ
  on = last_of lasts d.column

  module _ (left : ℕ) (some : 1 ≤ left) (room : length ls + left ≤ 8192) where
    joined_row : (v : Verb) → not (d.column == d.other) && (is_some on && (is_some (last_of lasts d.other) && nat_le 2 left)) ≡ true
        → ((b : List Line) → Standing b → length b ≡ n + 1 → n + 1 ≤ 8192 → d.column ≢ d.other → NextFits b v (Some n))
        → RowFits ls (made_line n (verb.Merge (merged on (last_of lasts d.other))) None ∷ made_line (n + 1) v (Some n) ∷ [])
    joined_row v h next =
        let p = and_parts (not (d.column == d.other)) (is_some on && (is_some (last_of lasts d.other) && nat_le 2 left)) h in
        let q = and_parts (is_some on) (is_some (last_of lasts d.other) && nat_le 2 left) p.1 in
        let r = and_parts (is_some (last_of lasts d.other)) (nat_le 2 left) q.1 in
        let two : 2 ≤ left = leb-true 2 left r.1 in
        let merge : Verb = verb.Merge (merged on (last_of lasts d.other)) in
        let fits : NextFits ls merge None = merge_row ls st (omega arith) on (last_of lasts d.other) (stand d.column) (stand d.other) q.0 r.0 in
        let l : Line = made_line n merge None in
        let after : Standing (ls ++ l ∷ []) = next_stands ls n merge None refl (omega arith) st fits in
        row_more ls (made_line (n + 1) v (Some n) ∷ []) n merge None refl (omega arith) st fits
        (last_line (ls ++ l ∷ []) (n + 1) v (Some n) (one_longer ls l) (omega arith) after (next (ls ++ l ∷ []) after (one_longer ls l) (omega arith) (differ d.column d.other p.0)))

    event_row : nat_le 2 left ≡ true → RowFits ls (made_line n verb.User None ∷ made_line (n + 1) (verb.Trigger n) on ∷ [])
    event_row h =
        let two : 2 ≤ left = leb-true 2 left h in
        let fits : NextFits ls verb.User None = user_fits ls st (omega arith) in
        let l : Line = made_line n verb.User None in
        let after : Standing (ls ++ l ∷ []) = next_stands ls n verb.User None refl (omega arith) st fits in
        let more : length (ls ++ l ∷ []) ≡ n + 1 = one_longer ls l in
        row_more ls (made_line (n + 1) (verb.Trigger n) on ∷ []) n verb.User None refl (omega arith) st fits
        (last_line (ls ++ l ∷ []) (n + 1) (verb.Trigger n) on more (omega arith) after
        (trigger_fits (ls ++ l ∷ []) after (omega arith) on (before_more n (length (ls ++ l ∷ [])) on (omega arith) (stand d.column)) n (omega arith)
        (none_more (λ (x : Line). ends_user n x.verb) ls l (st.ended n (omega arith)) refl)
        (ap (λ o. option_map_or is_user (option_map (λ (x : Line). x.verb) o) false) (at_end ls l))))

    section_row : nat_le 4 left ≡ true → RowFits ls (row_lines Section d lasts n)
    section_row h =
        let four : 4 ≤ left = leb-true 4 left h in
        let a : Line = made_line n (verb.Acquire 0 false) on in
        let fits_a : NextFits ls (verb.Acquire 0 false) on = acquire_fits ls st (omega arith) on (stand d.column) in
        let one : Standing (ls ++ a ∷ []) = next_stands ls n (verb.Acquire 0 false) on refl (omega arith) st fits_a in
        let count_one : length (ls ++ a ∷ []) ≡ n + 1 = one_longer ls a in
        let s : Line = made_line (n + 1) (verb.Reduce op.Sum d.column 8 0) (Some n) in
        let fits_s : NextFits (ls ++ a ∷ []) (verb.Reduce op.Sum d.column 8 0) (Some n) = sum_fits (ls ++ a ∷ []) one (omega arith) (Some n) (before_some (length (ls ++ a ∷ [])) n (omega arith)) d.column 8 (omega arith) (lit< tt) (λ e. omega arith) in
        let two : Standing ((ls ++ a ∷ []) ++ s ∷ []) = next_stands (ls ++ a ∷ []) (n + 1) (verb.Reduce op.Sum d.column 8 0) (Some n) count_one (omega arith) one fits_s in
        let longer_two : length ((ls ++ a ∷ []) ++ s ∷ []) ≡ length (ls ++ a ∷ []) + 1 = one_longer (ls ++ a ∷ []) s in
        let count_two : length ((ls ++ a ∷ []) ++ s ∷ []) ≡ n + 2 = omega arith in
        let m : Line = made_line (n + 2) (verb.MergeIgnore ((n + 1) ∷ [])) None in
        let fits_m : NextFits ((ls ++ a ∷ []) ++ s ∷ []) (verb.MergeIgnore ((n + 1) ∷ [])) None = settle_fits ((ls ++ a ∷ []) ++ s ∷ []) two (omega arith) (n + 1) (omega arith) in
        let three : Standing (((ls ++ a ∷ []) ++ s ∷ []) ++ m ∷ []) = next_stands ((ls ++ a ∷ []) ++ s ∷ []) (n + 2) (verb.MergeIgnore ((n + 1) ∷ [])) None count_two (omega arith) two fits_m in
        let longer_three : length (((ls ++ a ∷ []) ++ s ∷ []) ++ m ∷ []) ≡ length ((ls ++ a ∷ []) ++ s ∷ []) + 1 = one_longer ((ls ++ a ∷ []) ++ s ∷ []) m in
        let count_three : length (((ls ++ a ∷ []) ++ s ∷ []) ++ m ∷ []) ≡ n + 3 = omega arith in
        let unreleased = none_more (λ (x : Line). is_release_of n x.verb) ((ls ++ a ∷ []) ++ s ∷ []) m (none_more (λ (x : Line). is_release_of n x.verb) (ls ++ a ∷ []) s (none_more (λ (x : Line). is_release_of n x.verb) ls a (st.released n (omega arith)) refl) refl) refl in
        let there : slice_get (((ls ++ a ∷ []) ++ s ∷ []) ++ m ∷ []) n ≡ Some a = got_old ((ls ++ a ∷ []) ++ s ∷ []) (m ∷ []) n (omega arith) ∙ (got_old (ls ++ a ∷ []) (s ∷ []) n (omega arith) ∙ at_end ls a) in
        let fits_r : NextFits (((ls ++ a ∷ []) ++ s ∷ []) ++ m ∷ []) (verb.Release n) (Some (n + 2)) = release_fits (((ls ++ a ∷ []) ++ s ∷ []) ++ m ∷ []) three (omega arith) (Some (n + 2)) (before_some (length (((ls ++ a ∷ []) ++ s ∷ []) ++ m ∷ [])) (n + 2) (omega arith)) n (omega arith) unreleased (ap (λ o. option_map_or is_acquire (option_map (λ (x : Line). x.verb) o) false) there) in
        let r : Line = made_line (n + 3) (verb.Release n) (Some (n + 2)) in
        row_more ls (s ∷ m ∷ r ∷ []) n (verb.Acquire 0 false) on refl (omega arith) st fits_a
        (row_more (ls ++ a ∷ []) (m ∷ r ∷ []) (n + 1) (verb.Reduce op.Sum d.column 8 0) (Some n) count_one (omega arith) one fits_s
        (row_more ((ls ++ a ∷ []) ++ s ∷ []) (r ∷ []) (n + 2) (verb.MergeIgnore ((n + 1) ∷ [])) None count_two (omega arith) two fits_m
        (last_line (((ls ++ a ∷ []) ++ s ∷ []) ++ m ∷ []) (n + 3) (verb.Release n) (Some (n + 2)) count_three (omega arith) three fits_r)))

    pub row_fits : (row : Row) → is_open row d lasts left ≡ true → RowFits ls (row_lines row d lasts (length ls))
    row_fits Fill h = last_line ls n (verb.Fill d.column 0 d.value) on refl (omega arith) st (fill_fits ls st (omega arith) on (stand d.column) d.column d.value (omega arith) value)
    row_fits Iota h = last_line ls n (verb.Task (kernel.Iota d.column 0 d.value)) on refl (omega arith) st (iota_fits ls st (omega arith) on (stand d.column) d.column d.value (omega arith) value)
    row_fits Expect h = last_line ls n (verb.Task (kernel.Expect d.column 0 0 60000)) on refl (omega arith) st (expect_fits ls st (omega arith) on (stand d.column) d.column (omega arith))
    row_fits Settle h = last_line ls n (verb.MergeIgnore (merged on None)) None refl (omega arith) st (settle_row ls st (omega arith) on (stand d.column) h)
    row_fits Copy h = joined_row (verb.Copy d.column d.other 0) h (λ b s e m ne. copy_fits b s (omega arith) (Some n) (before_some (length b) n (omega arith)) d.column d.other (omega arith) (omega arith) ne)
    row_fits Sum h = joined_row (verb.Reduce op.Sum d.column d.other 0) h (λ b s e m ne. sum_fits b s (omega arith) (Some n) (before_some (length b) n (omega arith)) d.column d.other (omega arith) (omega arith) ne)
    row_fits Event h = event_row h
    row_fits Section h = section_row h

-- the last lines after a row stand
set_stands : (lasts : List (Option ℕ)) (c x n : ℕ) → c < length lasts → LastsStand lasts n → x < n → LastsStand (slice_set lasts c (Some x)) n
set_stands lasts c x n wide stand h j e s = elim (cases_order j c) [
  | inl same ↦ before_some n x h e (sym (get_or-set_at lasts c j (Some x) None same wide) ∙ s)
  | inr (inl below) ↦ (let ne : j ≢ c = omega arith in stand j e (sym (get_or-set_other lasts c j (Some x) None ne) ∙ s))
  | inr (inr above) ↦ (let ne : j ≢ c = omega arith in stand j e (sym (get_or-set_other lasts c j (Some x) None ne) ∙ s))
]

stand_more : (lasts : List (Option ℕ)) (n m : ℕ) → n ≤ m → LastsStand lasts n → LastsStand lasts m
stand_more lasts n m h s c = before_more n m (last_of lasts c) h (s c)

pub row_lasts : (row : Row) (d : Draw) (lasts : List (Option ℕ)) (n : ℕ) → d.column < 8 → d.other < 8 → length lasts ≡ 8 → LastsStand lasts n
    → LastsStand (lasts_after row d lasts n) (n + length (row_lines row d lasts n)) × (length (lasts_after row d lasts n) ≡ 8)
row_lasts Fill d lasts n c o w s = (set_stands lasts d.column n (n + 1) (omega arith) (stand_more lasts n (n + 1) (omega arith) s) (omega arith), length-set lasts d.column (Some n) ∙ w)
row_lasts Iota d lasts n c o w s = (set_stands lasts d.column n (n + 1) (omega arith) (stand_more lasts n (n + 1) (omega arith) s) (omega arith), length-set lasts d.column (Some n) ∙ w)
row_lasts Expect d lasts n c o w s = (set_stands lasts d.column n (n + 1) (omega arith) (stand_more lasts n (n + 1) (omega arith) s) (omega arith), length-set lasts d.column (Some n) ∙ w)
row_lasts Settle d lasts n c o w s = (set_stands lasts d.column n (n + 1) (omega arith) (stand_more lasts n (n + 1) (omega arith) s) (omega arith), length-set lasts d.column (Some n) ∙ w)
row_lasts Copy d lasts n c o w s =
    let wide : length (slice_set lasts d.column (Some (n + 1))) ≡ 8 = length-set lasts d.column (Some (n + 1)) ∙ w in
    (set_stands (slice_set lasts d.column (Some (n + 1))) d.other (n + 1) (n + 2) (omega arith) (set_stands lasts d.column (n + 1) (n + 2) (omega arith) (stand_more lasts n (n + 2) (omega arith) s) (omega arith)) (omega arith), length-set (slice_set lasts d.column (Some (n + 1))) d.other (Some (n + 1)) ∙ wide)
row_lasts Sum d lasts n c o w s =
    let wide : length (slice_set lasts d.column (Some (n + 1))) ≡ 8 = length-set lasts d.column (Some (n + 1)) ∙ w in
    (set_stands (slice_set lasts d.column (Some (n + 1))) d.other (n + 1) (n + 2) (omega arith) (set_stands lasts d.column (n + 1) (n + 2) (omega arith) (stand_more lasts n (n + 2) (omega arith) s) (omega arith)) (omega arith), length-set (slice_set lasts d.column (Some (n + 1))) d.other (Some (n + 1)) ∙ wide)
row_lasts Event d lasts n c o w s = (set_stands lasts d.column n (n + 2) (omega arith) (stand_more lasts n (n + 2) (omega arith) s) (omega arith), length-set lasts d.column (Some n) ∙ w)
row_lasts Section d lasts n c o w s = (set_stands lasts d.column (n + 3) (n + 4) (omega arith) (stand_more lasts n (n + 4) (omega arith) s) (omega arith), length-set lasts d.column (Some (n + 3)) ∙ w)
