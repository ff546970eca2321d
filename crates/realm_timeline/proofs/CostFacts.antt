-- How long a line takes, by its accesses one after the other, and its queue.
use Rattle.std.proofs.Common.{◌≡◌, ℕ, ◌+◌, ◌*◌, ◌<◌, ◌≤◌, inl, inr, List, [], ◌∷◌, ◌++◌, length, take, sym, ◌∙◌, ap, arith}
use Rattle.std.specs.Prelude.{Some, None, option_map, slice_get, sum_by}
use Rattle.std.proofs.lemmas.List.{take_more, take_all}
use Rattle.std.proofs.lemmas.List.Sums.{sum_by_push}
use Rattle.std.proofs.lemmas.Option.{none-some, slice_get_within, slice_get_cases, get_or_from_slice_get}
use Rattle.graph_terms.specs.declared.verb.Access.{Access}
use Rattle.graph_terms.specs.declared.verb.Line.{Line}
use Rattle.graph_terms.specs.declared.verb.Verb.{Verb}
use Rattle.graph_terms.specs.declared.verb.Verb.TheVariants.{Release}
use Rattle.graph_terms.specs.Graph.{GraphValue, verb_at, is_acquire_of}
use Rattle.graph_terms.specs.Fits.{IsGraph}
use Rattle.graph_terms.specs.Access.{all_accesses}
use Rattle.graph_terms.specs.Reservations.{Releases}
use Rattle.graph_terms.proofs.Public.{is_release_from, passes_below, release_names}
use Rattle.realm_timeline.specs.Plan.{access_size, cost}

-- the cost after k accesses
pub record CostUpTo (g : GraphValue) (i k c : ℕ) : Type 0 where
  pub cost : c ≡ 1 + sum_by (access_size g) (take k (all_accesses g i))
  pub few : c ≤ 1 + 4294967296 * k

pub cost_more : (g : GraphValue) (i k c n : ℕ) (a : Access) → CostUpTo g i k c → slice_get (all_accesses g i) k ≡ Some a → n ≡ access_size g a → n ≤ 4294967296 → CostUpTo g i (k + 1) (c + n)
cost_more g i k c n a up at is few =
    let inside : k < length (all_accesses g i) = slice_get_within (all_accesses g i) k a at in
    let more = take_more (all_accesses g i) k a inside ∙ ap (λ x. take k (all_accesses g i) ++ x ∷ []) (get_or_from_slice_get (all_accesses g i) k a a at) in
    let sum : sum_by (access_size g) (take (k + 1) (all_accesses g i)) ≡ sum_by (access_size g) (take k (all_accesses g i)) + access_size g a = ap (sum_by (access_size g)) more ∙ sum_by_push (access_size g) (take k (all_accesses g i)) a in
    let up_to_now : c ≡ 1 + sum_by (access_size g) (take k (all_accesses g i)) = up.cost in
    let bound : c ≤ 1 + 4294967296 * k = up.few in
    record { cost = omega arith; few = omega arith }

pub cost_whole : (g : GraphValue) (i k c : ℕ) → CostUpTo g i k c → length (all_accesses g i) ≤ k → c ≡ cost g i
cost_whole g i k c up few = up.cost ∙ ap (λ xs. 1 + sum_by (access_size g) xs) (take_all k (all_accesses g i) few)

-- where no access of number k is read, there are at most k
pub no_more : (xs : List Access) (k : ℕ) → slice_get xs k ≡ None → length xs ≤ k
no_more xs k gone = elim (slice_get_cases xs k).1 [ inl some ↦ absurd (none-some some.0 (sym gone ∙ some.2)) | inr past ↦ past.0 ]

-- the verb of a line that was read
pub verb_of : (g : GraphValue) (i : ℕ) (l : Line) → slice_get g.lines i ≡ Some l → (v : Verb) → l.verb ≡ v → verb_at g i ≡ Some v
verb_of g i l at v is = ap (option_map (λ (x : Line). x.verb)) at ∙ ap Some is

-- the acquire that a line releases is a line
pub released_line : (g : GraphValue) → IsGraph g → (i q : ℕ) (l : Line) → slice_get g.lines i ≡ Some l → l.verb ≡ Release q → Releases g i q × (q < length g.lines)
released_line g graph i q l at is =
    let r : Releases g i q = is_release_from g i q (verb_of g i l at (Release q) is) in
    let a = release_names g graph i q r in
    (r, passes_below (is_acquire_of a.0) g q a.1)
