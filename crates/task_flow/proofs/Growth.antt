-- What is made only grows, and one step of the loops that make it.
use Rattle.std.proofs.Common.{◌≡◌, ℕ, zero, suc, ◌+◌, ◌-◌, ◌<◌, ◌≤◌, Bool, true, false, min, inl, inr, List, [], ◌∷◌, ◌++◌, length, map, take, drop, refl, sym, ◌∙◌, ap, subst, append_assoc, length-append, length-drop, arith, lit≤}
use Rattle.std.specs.Prelude.{◌≢◌, nat_le, Option, Some, None, option_to_list, find, bytes_eq, slice_get, option_map, Result, Err}
use Rattle.std.proofs.lemmas.Bool.{cases_lt, false_from_ne_true, le-leb, leb-true}
use Rattle.std.proofs.lemmas.List.{length-map}
use Rattle.std.proofs.lemmas.Option.{none-some, same_Some}
use Rattle.graph_terms.specs.declared.format.Format.{Format}
use Rattle.graph_terms.specs.declared.format.Format.TheVariants.{One, Two, Three}
use Rattle.graph_terms.specs.Limits.{limits}
use Rattle.graph_terms.specs.declared.verb.Line.{Line}
use Rattle.graph_terms.specs.declared.verb.Verb.{Verb}
use Rattle.graph_terms.specs.declared.verb.Verb.TheVariants.{Merge, MergeIgnore, Acquire, Release}
use Rattle.std.specs.Option.{option_map_or}
use Rattle.task_flow.specs.Construction.{Made, most_merged, most_on, on_by, on_for, wait_for, with_flow_line, with_new, in_section, with_line_by, new_name, merge_line, with_merge, merge_by, merge_for, event_for, place_in, events_for}
use Rattle.flow_order.specs.SourceParts.{Parts, with_event}
use Rattle.task_flow.specs.Making.{IsPast}
use Rattle.flow_order.proofs.Lists.{length_with}
use Rattle.basics.proofs.ListParts.{take_more, take_whole}

merge_by_longer : (o : Option (List ℕ × ℕ)) (es : List ℕ) (m : Made) → length m.lines ≤ length (merge_by o es m).0.lines
merge_by_longer (Some x) es m = omega arith
merge_by_longer None es m = let l : length (m.lines ++ merge_line (m.first + length m.lines) es ∷ []) ≡ length m.lines + 1 = length-append m.lines (merge_line (m.first + length m.lines) es ∷ []) in omega arith

pub merge_longer : (es : List ℕ) (m : Made) → length m.lines ≤ length (merge_for es m).0.lines
merge_longer es m = merge_by_longer (find (λ (x : List ℕ × ℕ). bytes_eq x.0 es) m.merges) es m

pub event_longer : (n : ℕ) (es : List ℕ) (m : Made) → length m.lines ≤ length (event_for n es m).0.lines
event_longer zero es m = omega arith
event_longer (suc n) [] m = omega arith
event_longer (suc n) (e ∷ []) m = omega arith
event_longer (suc n) (e ∷ d ∷ es) m =
    let r = merge_for (take (most_merged m) (e ∷ d ∷ es)) m in
    let a : length m.lines ≤ length r.0.lines = merge_longer (take (most_merged m) (e ∷ d ∷ es)) m in
    let b : length r.0.lines ≤ length (event_for n (with_event (drop (most_merged m) (e ∷ d ∷ es)) r.1) r.0).0.lines = event_longer n (with_event (drop (most_merged m) (e ∷ d ∷ es)) r.1) r.0 in
    omega arith

pub events_longer : (es : List ℕ) (ps : List (List ℕ)) (m : Made) → length m.lines ≤ length (events_for es ps m).0.lines
events_longer es [] m = omega arith
events_longer es (p ∷ ps) m =
    let r = event_for (length p) (map (place_in m) p) m in
    let a : length m.lines ≤ length r.0.lines = event_longer (length p) (map (place_in m) p) m in
    let b : length r.0.lines ≤ length (events_for (option_map_or (with_event es) r.1 es) ps r.0).0.lines = events_longer (option_map_or (with_event es) r.1 es) ps r.0 in
    omega arith

on_by_longer : (b : Bool) (es : List ℕ) (m : Made) → length m.lines ≤ length (on_by b es m).0.lines
on_by_longer true es m = omega arith
on_by_longer false es m = event_longer (length es) es m

on_longer : (es : List ℕ) (m : Made) → length m.lines ≤ length (on_for es m).0.lines
on_longer es m = on_by_longer (nat_le (length es) (most_on m.format)) es m

-- the format stays
merge_by_format : (o : Option (List ℕ × ℕ)) (es : List ℕ) (m : Made) → (merge_by o es m).0.format ≡ m.format
merge_by_format (Some x) es m = refl
merge_by_format None es m = refl

pub merge_format : (es : List ℕ) (m : Made) → (merge_for es m).0.format ≡ m.format
merge_format es m = merge_by_format (find (λ (x : List ℕ × ℕ). bytes_eq x.0 es) m.merges) es m

pub event_format : (n : ℕ) (es : List ℕ) (m : Made) → (event_for n es m).0.format ≡ m.format
event_format zero es m = refl
event_format (suc n) [] m = refl
event_format (suc n) (e ∷ []) m = refl
event_format (suc n) (e ∷ d ∷ es) m =
    let r = merge_for (take (most_merged m) (e ∷ d ∷ es)) m in
    event_format n (with_event (drop (most_merged m) (e ∷ d ∷ es)) r.1) r.0 ∙ merge_format (take (most_merged m) (e ∷ d ∷ es)) m

pub events_format : (es : List ℕ) (ps : List (List ℕ)) (m : Made) → (events_for es ps m).0.format ≡ m.format
events_format es [] m = refl
events_format es (p ∷ ps) m =
    let r = event_for (length p) (map (place_in m) p) m in
    events_format (option_map_or (with_event es) r.1 es) ps r.0 ∙ event_format (length p) (map (place_in m) p) m

on_by_format : (b : Bool) (es : List ℕ) (m : Made) → (on_by b es m).0.format ≡ m.format
on_by_format true es m = refl
on_by_format false es m = event_format (length es) es m

pub on_format : (es : List ℕ) (m : Made) → (on_for es m).0.format ≡ m.format
on_format es m = on_by_format (nat_le (length es) (most_on m.format)) es m

pub wait_format : (p : Parts) (m : Made) → (wait_for p m).0.format ≡ m.format
wait_format p m =
    let r : Made × List ℕ = events_for (map (place_in m) p.small) p.large m in
    on_format r.1 r.0 ∙ events_format (map (place_in m) p.small) p.large m

pub by_format : (o : Option ℕ) (l : Line) (r : Made × List ℕ) → (with_line_by o l r).format ≡ r.0.format
by_format None l r = refl
by_format (Some lock) l r = refl

-- a merge names two events at least
pub some_merged : (fm : Format) → 2 ≤ (limits fm).events
some_merged One = lit≤ tt
some_merged Two = lit≤ tt
some_merged Three = lit≤ tt

pub past_more : (a b : Made) → length a.lines ≤ length b.lines → b.format ≡ a.format → IsPast a → IsPast b
past_more a b h same p =
    let q : (limits a.format).lines < length a.lines = p in
    subst (λ fm. (limits fm).lines < length b.lines) (sym same) (let r : (limits a.format).lines < length b.lines = omega arith in r)

-- one merge of a list with more than one event
pub record MergeStep (n : ℕ) (es : List ℕ) (m : Made) : Type 0 where
  pub left : ℕ
  pub shorter : length (with_event (drop (most_merged m) es) (merge_for (take (most_merged m) es) m).1) < length es
  pub enough : length (with_event (drop (most_merged m) es) (merge_for (take (most_merged m) es) m).1) ≤ left
  pub same : event_for n es m ≡ event_for left (with_event (drop (most_merged m) es) (merge_for (take (most_merged m) es) m).1) (merge_for (take (most_merged m) es) m).0

pub merge_step : (n : ℕ) (es : List ℕ) (m : Made) → 1 < length es → length es ≤ n → MergeStep n es m
merge_step n [] m some enough = absurd (omega arith)
merge_step n (e ∷ []) m some enough = absurd (let h : 1 < 1 = some in omega arith)
merge_step zero (e ∷ d ∷ es) m some enough = absurd (let h : suc (suc (length es)) ≤ 0 = enough in omega arith)
merge_step (suc n) (e ∷ d ∷ es) m some enough =
    let most : ℕ = most_merged m in
    let rest : List ℕ = drop (most_merged m) (e ∷ d ∷ es) in
    let merged = (merge_for (take (most_merged m) (e ∷ d ∷ es)) m).1 in
    let a : length (with_event rest merged) ≤ length rest + 1 = length_with rest merged in
    let two : 2 ≤ most = some_merged m.format in
    let b : length rest ≡ suc (suc (length es)) - most = length-drop most (e ∷ d ∷ es) in
    let h : suc (suc (length es)) ≤ suc n = enough in
    record { left = n; shorter = (let z : length (with_event rest merged) < suc (suc (length es)) = omega arith in z); enough = (let z : length (with_event rest merged) ≤ n = omega arith in z); same = refl }

-- a limit that a merge passes is passed in the end
pub past_merge : (n : ℕ) (es : List ℕ) (m : Made) → 1 < length es → length es ≤ n → IsPast (merge_for (take (most_merged m) es) m).0 → IsPast (event_for n es m).0
past_merge n es m some enough p =
    let s = merge_step n es m some enough in
    let r = merge_for (take (most_merged m) es) m in
    subst (λ (r : Made × Option ℕ). IsPast r.0) (sym s.same) (past_more r.0 (event_for s.left (with_event (drop (most_merged m) es) r.1) r.0).0 (event_longer s.left (with_event (drop (most_merged m) es) r.1) r.0) (event_format s.left (with_event (drop (most_merged m) es) r.1) r.0) p)

abbrev pub first_of : List ℕ → Option ℕ
first_of [] = None
first_of (e ∷ es) = Some e

-- at most one event is left
pub event_end : (n : ℕ) (es : List ℕ) (m : Made) → length es ≤ 1 → length es ≤ n → event_for n es m ≡ (m, first_of es)
event_end zero [] m h enough = refl
event_end (suc n) [] m h enough = refl
event_end zero (e ∷ []) m h enough = absurd (let g : 1 ≤ 0 = enough in omega arith)
event_end (suc n) (e ∷ []) m h enough = refl
event_end n (e ∷ d ∷ es) m h enough = absurd (let g : suc (suc (length es)) ≤ 1 = h in omega arith)

abbrev pub made : Format → List Line → List ℕ → List (List ℕ × ℕ) → ℕ → Made
made fm lines places merges first = record { format = fm; lines = lines; places = places; merges = merges; first = first }

pub take_least : (xs : List ℕ) (most n i : ℕ) → n ≡ min (length xs) most → n ≤ i → i ≤ n → take i xs ≡ take most xs
take_least xs most n i is low high = elim (cases_lt (length xs) most) [
  | inl few ↦ (let a : length xs ≤ i = omega arith in let b : length xs ≤ most = omega arith in take_whole xs i a ∙ sym (take_whole xs most b))
  | inr many ↦ ap (λ k. take k xs) (let e : i ≡ most = omega arith in e)
]

got_drop : (k j : ℕ) (xs : List ℕ) (x : ℕ) → slice_get xs (k + j) ≡ Some x → slice_get (drop k xs) j ≡ Some x
got_drop zero j xs x h = subst (λ z. slice_get xs z ≡ Some x) (let e : 0 + j ≡ j = omega arith in e) h
got_drop (suc k) j [] x h = absurd (none-some x h)
got_drop (suc k) j (y ∷ ys) x h = got_drop k j ys x (subst (λ z. slice_get (y ∷ ys) z ≡ Some x) (let e : suc k + j ≡ suc (k + j) = omega arith in e) h)

pub rest_more : (xs rest rest' : List ℕ) (most i x : ℕ) → most ≤ i → slice_get xs i ≡ Some x → rest ≡ take (i - most) (drop most xs) → rest' ≡ rest ++ x ∷ [] → rest' ≡ take ((i + 1) - most) (drop most xs)
rest_more xs rest rest' most i x low at is pushed =
    let there : slice_get (drop most xs) (i - most) ≡ Some x = got_drop most (i - most) xs x (subst (λ z. slice_get xs z ≡ Some x) (let e : i ≡ most + (i - most) = omega arith in e) at) in
    pushed ∙ (ap (λ zs. zs ++ x ∷ []) is ∙ (sym (take_more (drop most xs) (i - most) x there) ∙ ap (λ k. take k (drop most xs)) (let e : (i - most) + 1 ≡ (i + 1) - most = omega arith in e)))

pub rest_whole : (xs : List ℕ) (most n i : ℕ) → n ≡ length xs → n ≤ i → take (i - most) (drop most xs) ≡ drop most xs
rest_whole xs most n i is h = take_whole (drop most xs) (i - most) (let l : length (drop most xs) ≡ length xs - most = length-drop most xs in omega arith)

-- the merge that was found, or the new one
pub found_merge : (es : List ℕ) (m : Made) (line : ℕ) → Some line ≡ option_map (λ (x : List ℕ × ℕ). x.1) (find (λ (x : List ℕ × ℕ). bytes_eq x.0 es) m.merges) → ◌≡◌ {A = Made × ℕ} (m, line) (merge_for es m)
found_merge es m line h = by (find (λ (x : List ℕ × ℕ). bytes_eq x.0 es) m.merges) h
  where
    by : (o : Option (List ℕ × ℕ)) → Some line ≡ option_map (λ (x : List ℕ × ℕ). x.1) o → ◌≡◌ {A = Made × ℕ} (m, line) (merge_by o es m)
    by None e = absurd (none-some line (sym e))
    by (Some x) e = ap (λ z. (m, z)) (same_Some line x.1 e)

pub new_merge : (es : List ℕ) (m : Made) → None ≡ option_map (λ (x : List ℕ × ℕ). x.1) (find (λ (x : List ℕ × ℕ). bytes_eq x.0 es) m.merges) → ◌≡◌ {A = Made × ℕ} (with_merge es m, length m.lines) (merge_for es m)
new_merge es m h = by (find (λ (x : List ℕ × ℕ). bytes_eq x.0 es) m.merges) h
  where
    by : (o : Option (List ℕ × ℕ)) → None ≡ option_map (λ (x : List ℕ × ℕ). x.1) o → ◌≡◌ {A = Made × ℕ} (with_merge es m, length m.lines) (merge_by o es m)
    by None e = refl
    by (Some x) e = absurd (none-some x.1 e)

pub new_past : (es : List ℕ) (m : Made) → None ≡ option_map (λ (x : List ℕ × ℕ). x.1) (find (λ (x : List ℕ × ℕ). bytes_eq x.0 es) m.merges) → (limits m.format).lines ≤ length m.lines → IsPast (merge_for es m).0
new_past es m h full = subst (λ (r : Made × ℕ). IsPast r.0) (new_merge es m h)
    (let l : length (m.lines ++ merge_line (m.first + length m.lines) es ∷ []) ≡ length m.lines + 1 = length-append m.lines (merge_line (m.first + length m.lines) es ∷ []) in let f : (limits m.format).lines ≤ length m.lines = full in let r : (limits m.format).lines < length (m.lines ++ merge_line (m.first + length m.lines) es ∷ []) = omega arith in r)

-- what stands with a merge more
pub pushed_merge : (fm : Format) (lines row row' : List Line) (places : List ℕ) (items items' : List (List ℕ × ℕ)) (first line : ℕ) (es name : List ℕ) → row' ≡ row ++ record { name = name; verb = Merge es; «on» = [] } ∷ [] → name ≡ new_name (first + line) → line ≡ length (lines ++ row) →
    items' ≡ items ++ (es, line) ∷ [] → ◌≡◌ {A = Made × ℕ} (made fm (lines ++ row') places items' first, line) (with_merge es (made fm (lines ++ row) places items first), length (lines ++ row))
pushed_merge fm lines row row' places items items' first line es name r n at i =
    let all : lines ++ row' ≡ (lines ++ row) ++ merge_line (first + length (lines ++ row)) es ∷ [] = ap (λ xs. lines ++ xs) r ∙ (sym (append_assoc lines row (record { name = name; verb = Merge es; «on» = [] } ∷ [])) ∙ (ap (λ z. (lines ++ row) ++ record { name = z; verb = Merge es; «on» = [] } ∷ []) n ∙ ap (λ z. (lines ++ row) ++ record { name = new_name (first + z); verb = Merge es; «on» = [] } ∷ []) at)) in
    let noted : items' ≡ items ++ (es, length (lines ++ row)) ∷ [] = i ∙ ap (λ z. items ++ (es, z) ∷ []) at in
    let pair : Made → ℕ → Made × ℕ = λ a b. (a, b) in
    ap (λ z. pair (made fm z places items' first) line) all ∙ (ap (λ z. pair (made fm ((lines ++ row) ++ merge_line (first + length (lines ++ row)) es ∷ []) places z first) line) noted
    ∙ ap (λ z. pair (made fm ((lines ++ row) ++ merge_line (first + length (lines ++ row)) es ∷ []) places (items ++ (es, length (lines ++ row)) ∷ []) first) z) at)

-- a turn of the loop that merges events
pub record Turn (n : ℕ) (es : List ℕ) (m : Made) (left' : List ℕ) (made' : Made) : Type 0 where
  pub shorter : length left' < length es
  pub same : (k : ℕ) × (length left' ≤ k) × (event_for k left' made' ≡ event_for n es m)

pub turn : (n : ℕ) (es : List ℕ) (m : Made) (front : List ℕ) (made' : Made) (merge : ℕ) (left' : List ℕ) → 1 < length es → length es ≤ n → front ≡ take (most_merged m) es → ◌≡◌ {A = Made × ℕ} (made', merge) (merge_for front m) → left' ≡ with_event (drop (most_merged m) es) merge → Turn n es m left' made'
turn n es m front made' merge left' some enough f e l =
    let s = merge_step n es m some enough in
    let r : Made × ℕ = merge_for (take (most_merged m) es) m in
    let both : ◌≡◌ {A = Made × ℕ} (made', merge) r = e ∙ ap (λ xs. merge_for xs m) f in
    let left_is : left' ≡ with_event (drop (most_merged m) es) r.1 = l ∙ ap (λ (z : Made × ℕ). with_event (drop (most_merged m) es) z.1) both in
    let made_is : made' ≡ r.0 = ap (λ (z : Made × ℕ). z.0) both in
    record {
      shorter = subst (λ z. length z < length es) (sym left_is) s.shorter;
      same = (s.left, subst (λ z. length z ≤ s.left) (sym left_is) s.enough, ap (λ z. event_for s.left z made') left_is ∙ (ap (λ z. event_for s.left (with_event (drop (most_merged m) es) r.1) z) made_is ∙ sym s.same));
    }

pub turn_past : (n : ℕ) (es : List ℕ) (m : Made) (front : List ℕ) (target : Made × Option ℕ) → 1 < length es → length es ≤ n → front ≡ take (most_merged m) es → event_for n es m ≡ target → IsPast (merge_for front m).0 → IsPast target.0
turn_past n es m front target some enough f same p = subst (λ (r : Made × Option ℕ). IsPast r.0) same (past_merge n es m some enough (subst (λ xs. IsPast (merge_for xs m).0) f p))

pub end_some : (n : ℕ) (es : List ℕ) (m : Made) (x : ℕ) (target : Made × Option ℕ) → length es ≡ 1 → length es ≤ n → slice_get es 0 ≡ Some x → event_for n es m ≡ target → ◌≡◌ {A = Made × Option ℕ} (m, Some x) target
end_some n [] m x target one enough at same = absurd (none-some x at)
end_some n (e ∷ []) m x target one enough at same = let pair : Option ℕ → Made × Option ℕ = λ o. (m, o) in ap pair (sym at) ∙ (sym (event_end n (e ∷ []) m (omega arith) enough) ∙ same)
end_some n (e ∷ d ∷ es) m x target one enough at same = absurd (let h : suc (suc (length es)) ≡ 1 = one in omega arith)

pub end_none : (n : ℕ) (es : List ℕ) (m : Made) (target : Made × Option ℕ) → length es ≤ 1 → length es ≢ 1 → length es ≤ n → event_for n es m ≡ target → ◌≡◌ {A = Made × Option ℕ} (m, None) target
end_none n [] m target few some enough same = sym (event_end n [] m (omega arith) enough) ∙ same
end_none n (e ∷ []) m target few some enough same = absurd (some refl)
end_none n (e ∷ d ∷ es) m target few some enough same = absurd (let h : suc (suc (length es)) ≤ 1 = few in omega arith)

-- one part more
pub events_more : (es : List ℕ) (p : List ℕ) (ps : List (List ℕ)) (m : Made) (places : List ℕ) (made' : Made) (o : Option ℕ) (es' : List ℕ) → places ≡ map (place_in m) p → ◌≡◌ {A = Made × Option ℕ} (made', o) (event_for (length places) places m) → es' ≡ option_map_or (with_event es) o es → events_for es' ps made' ≡ events_for es (p ∷ ps) m
events_more es p ps m places made' o es' is e l =
    let r : Made × Option ℕ = event_for (length p) (map (place_in m) p) m in
    let size : length places ≡ length p = ap length is ∙ length-map p (place_in m) in
    let both : ◌≡◌ {A = Made × Option ℕ} (made', o) r = e ∙ (ap (λ n. event_for n places m) size ∙ ap (λ xs. event_for (length p) xs m) is) in
    ap (λ z. events_for z ps made') (l ∙ ap (λ (z : Made × Option ℕ). option_map_or (with_event es) z.1 es) both) ∙ ap (λ (z : Made × Option ℕ). events_for (option_map_or (with_event es) r.1 es) ps z.0) both

pub events_past : (es : List ℕ) (p : List ℕ) (ps : List (List ℕ)) (m : Made) (places : List ℕ) (target : Made × List ℕ) → places ≡ map (place_in m) p → events_for es (p ∷ ps) m ≡ target → IsPast (event_for (length places) places m).0 → IsPast target.0
events_past es p ps m places target is same h =
    let r : Made × Option ℕ = event_for (length p) (map (place_in m) p) m in
    let size : length places ≡ length p = ap length is ∙ length-map p (place_in m) in
    let past : IsPast r.0 = subst (λ (z : Made × Option ℕ). IsPast z.0) (ap (λ n. event_for n places m) size ∙ ap (λ xs. event_for (length p) xs m) is) h in
    subst (λ (z : Made × List ℕ). IsPast z.0) same (past_more r.0 (events_for es (p ∷ ps) m).0 (events_longer (option_map_or (with_event es) r.1 es) ps r.0) (events_format (option_map_or (with_event es) r.1 es) ps r.0) past)

-- an error that is passed on
pub err_same : {T E : Type 0} (r : Result T E) (y x z : E) → r ≡ Err y → y ≡ x → r ≡ Err z → x ≡ z
err_same {T = T} {E = E} r y x z p q h = let e : ◌≡◌ {A = Result T E} (Err y) (Err z) = sym p ∙ h in sym q ∙ err_inside y z e
  where
    err_inside : (a b : E) → ◌≡◌ {A = Result T E} (Err a) (Err b) → a ≡ b
    err_inside a b e = cc

-- a limit that the large parts pass is passed in the end
pub wait_past : (p : Parts) (m : Made) (es : List ℕ) (ps : List (List ℕ)) → es ≡ map (place_in m) p.small → ps ≡ p.large → IsPast (events_for es ps m).0 → IsPast (wait_for p m).0
wait_past p m es ps e l h =
    let r : Made × List ℕ = events_for (map (place_in m) p.small) p.large m in
    let past : IsPast r.0 = subst (λ (z : Made × List ℕ). IsPast z.0) (ap (λ xs. events_for xs ps m) e ∙ ap (λ xs. events_for (map (place_in m) p.small) xs m) l) h in
    past_more r.0 (on_for r.1 r.0).0 (on_longer r.1 r.0) (on_format r.1 r.0) past

-- what is behind `on`: the events where they are few, and otherwise one for them
pub on_few : (es on : List ℕ) (m : Made) → length es ≤ most_on m.format → on ≡ es → ◌≡◌ {A = Made × List ℕ} (m, on) (on_for es m)
on_few es on m few is = (let pair : List ℕ → Made × List ℕ = λ xs. (m, xs) in ap pair is) ∙ sym (ap (λ b. on_by b es m) (le-leb (length es) (most_on m.format) few))

many_by : (es : List ℕ) (m : Made) → most_on m.format < length es → ◌≡◌ {A = Made × List ℕ} (on_by false es m) (on_for es m)
many_by es m many = sym (ap (λ b. on_by b es m) (false_from_ne_true (nat_le (length es) (most_on m.format)) (λ h. (let l : length es ≤ most_on m.format = leb-true (length es) (most_on m.format) h in let no : ⊥ = absurd (omega arith) in no))))

pub on_many : (es on : List ℕ) (m made' : Made) (o : Option ℕ) → most_on m.format < length es → ◌≡◌ {A = Made × Option ℕ} (made', o) (event_for (length es) es m) → on ≡ option_to_list o → ◌≡◌ {A = Made × List ℕ} (made', on) (on_for es m)
on_many es on m made' o many e is =
    let pair : List ℕ → Made × List ℕ = λ xs. (made', xs) in
    let one : Made × Option ℕ → Made × List ℕ = λ (r : Made × Option ℕ). (r.0, option_to_list r.1) in
    ap pair is ∙ (ap one e ∙ many_by es m many)

pub on_past : (es : List ℕ) (m : Made) → most_on m.format < length es → IsPast (event_for (length es) es m).0 → IsPast (on_for es m).0
on_past es m many p = subst (λ (r : Made × List ℕ). IsPast r.0) (many_by es m many) p

pub line_past : (l : Line) (r : Made × List ℕ) → (limits r.0.format).lines ≤ length r.0.lines → IsPast (with_flow_line l r)
line_past l r h = let k : length (r.0.lines ++ record { name = l.name; verb = l.verb; «on» = r.1 } ∷ []) ≡ length r.0.lines + 1 = length-append r.0.lines (record { name = l.name; verb = l.verb; «on» = r.1 } ∷ []) in let f : (limits r.0.format).lines ≤ length r.0.lines = h in let z : (limits r.0.format).lines < length (r.0.lines ++ record { name = l.name; verb = l.verb; «on» = r.1 } ∷ []) = omega arith in z

-- a line that is none of the flow, and a section
pub new_length : (v : Verb) (o : List ℕ) (m : Made) → length (with_new v o m).lines ≡ length m.lines + 1
new_length v o m = length-append m.lines (record { name = new_name (m.first + length m.lines); «verb» = v; «on» = o } ∷ [])

pub line_length : (l : Line) (r : Made × List ℕ) → length (with_flow_line l r).lines ≡ length r.0.lines + 1
line_length l r = length-append r.0.lines (record { name = l.name; verb = l.verb; «on» = r.1 } ∷ [])

pub past_new : (v : Verb) (o : List ℕ) (m : Made) → (limits m.format).lines ≤ length m.lines → IsPast (with_new v o m)
past_new v o m h = let k : length (with_new v o m).lines ≡ length m.lines + 1 = new_length v o m in let f : (limits m.format).lines ≤ length m.lines = h in let z : (limits m.format).lines < length (with_new v o m).lines = omega arith in z

-- what stands with one line more in code
pub pushed_new : (fm : Format) (lines row row' : List Line) (places : List ℕ) (merges : List (List ℕ × ℕ)) (first line : ℕ) (v : Verb) (o : List ℕ) (name : List ℕ) → row' ≡ row ++ record { name = name; verb = v; «on» = o } ∷ [] → name ≡ new_name (first + line) → line ≡ length (lines ++ row) →
    made fm (lines ++ row') places merges first ≡ with_new v o (made fm (lines ++ row) places merges first)
pushed_new fm lines row row' places merges first line v o name r n at = ap (λ z. made fm z places merges first) (ap (λ xs. lines ++ xs) r ∙ (sym (append_assoc lines row (record { name = name; verb = v; «on» = o } ∷ []))
    ∙ (ap (λ z. (lines ++ row) ++ record { name = z; verb = v; «on» = o } ∷ []) n ∙ ap (λ z. (lines ++ row) ++ record { name = new_name (first + z); verb = v; «on» = o } ∷ []) at)))

pub section_length : (lock : ℕ) (l : Line) (m : Made) (on : List ℕ) → length (in_section lock l (m, on)).lines ≡ length m.lines + 4
section_length lock l m on =
    let q = length m.lines in
    let m1 : Made = with_new (Acquire lock false) on m in
    let m2 : Made = with_flow_line l (m1, length m.lines ∷ []) in
    let m3 : Made = with_new (MergeIgnore ((length m.lines + 1) ∷ [])) [] m2 in
    let a : length m1.lines ≡ length m.lines + 1 = new_length (Acquire lock false) on m in
    let b : length m2.lines ≡ length m1.lines + 1 = line_length l (m1, length m.lines ∷ []) in
    let c : length m3.lines ≡ length m2.lines + 1 = new_length (MergeIgnore ((length m.lines + 1) ∷ [])) [] m2 in
    let d : length (in_section lock l (m, on)).lines ≡ length m3.lines + 1 = new_length (Release (length m.lines)) ((length m.lines + 2) ∷ []) m3 in
    omega arith

pub section_past : (lock : ℕ) (l : Line) (m : Made) (on : List ℕ) (x : Made) → length x.lines ≤ length m.lines + 4 → m.format ≡ x.format → IsPast x → IsPast (in_section lock l (m, on))
section_past lock l m on x h same p = past_more x (in_section lock l (m, on)) (let s : length (in_section lock l (m, on)).lines ≡ length m.lines + 4 = section_length lock l m on in omega arith) same p

pub section_is : (lock : ℕ) (l : Line) (on : List ℕ) (m m1 m2 m3 m4 : Made) (a s t : ℕ) (es : List ℕ) → m1 ≡ with_new (Acquire lock false) on m → a ≡ length m.lines → m2 ≡ with_flow_line l (m1, a ∷ []) → s ≡ length m1.lines → es ≡ s ∷ [] → m3 ≡ with_new (MergeIgnore es) [] m2 → t ≡ length m2.lines →
    m4 ≡ with_new (Release a) (t ∷ []) m3 → m4 ≡ in_section lock l (m, on)
section_is lock l on m m1 m2 m3 m4 a s t es e1 ea e2 es_is ees e3 et e4 =
    let two : m2 ≡ with_flow_line l (with_new (Acquire lock false) on m, length m.lines ∷ []) = e2 ∙ (ap (λ z. with_flow_line l (z, a ∷ [])) e1 ∙ ap (λ z. with_flow_line l (with_new (Acquire lock false) on m, z ∷ [])) ea) in
    let c1 : length (with_new (Acquire lock false) on m).lines ≡ length m.lines + 1 = new_length (Acquire lock false) on m in
    let d1 : length m1.lines ≡ length m.lines + 1 = ap (λ (z : Made). length z.lines) e1 ∙ c1 in
    let d2 : length m2.lines ≡ length m1.lines + 1 = ap (λ (z : Made). length z.lines) e2 ∙ line_length l (m1, a ∷ []) in
    let events : es ≡ (length m.lines + 1) ∷ [] = ees ∙ ap (λ z. z ∷ []) (es_is ∙ d1) in
    let three : m3 ≡ with_new (MergeIgnore ((length m.lines + 1) ∷ [])) [] (with_flow_line l (with_new (Acquire lock false) on m, length m.lines ∷ [])) = e3 ∙ (ap (λ z. with_new (MergeIgnore z) [] m2) events ∙ ap (λ z. with_new (MergeIgnore ((length m.lines + 1) ∷ [])) [] z) two) in
    let last : t ≡ length m.lines + 2 = omega arith in
    e4 ∙ (ap (λ z. with_new (Release z) (t ∷ []) m3) ea ∙ (ap (λ z. with_new (Release (length m.lines)) (z ∷ []) m3) last ∙ ap (λ z. with_new (Release (length m.lines)) ((length m.lines + 2) ∷ []) z) three))

pub by_longer : (o : Option ℕ) (l : Line) (r : Made × List ℕ) → length r.0.lines + 1 ≤ length (with_line_by o l r).lines
by_longer None l r = let k : length (with_flow_line l r).lines ≡ length r.0.lines + 1 = line_length l r in omega arith
by_longer (Some lock) l r = let k : length (in_section lock l (r.0, r.1)).lines ≡ length r.0.lines + 4 = section_length lock l r.0 r.1 in omega arith

pub by_past : (o : Option ℕ) (l : Line) (r : Made × List ℕ) → IsPast r.0 → IsPast (with_line_by o l r)
by_past o l r p = past_more r.0 (with_line_by o l r) (let k : length r.0.lines + 1 ≤ length (with_line_by o l r).lines = by_longer o l r in omega arith) (by_format o l r) p
