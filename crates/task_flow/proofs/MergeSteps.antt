-- Looking up a merge by its events.
use Rattle.std.proofs.Common.{◌≡◌, ℕ, Bool, true, false, cond, inl, inr, List, [], ◌∷◌, ◌++◌, map, refl, sym, ◌∙◌, ap}
use Rattle.std.specs.Prelude.{if◌then◌else◌, Option, Some, None, find, bytes_eq, option_map}
use Rattle.std.specs.Map.{lookup}
use Rattle.indexmap.specs.IndexMap.{insert_entry}
use Rattle.std.proofs.lemmas.Option.{none-some}
use Rattle.std.proofs.lemmas.Slice.Eq.{bytes_eq-Decides}
use Rattle.std.proofs.lemmas.Bool.{cases_Bool, false_from_ne_true, true≢false}

-- an entry by what its key has
abbrev pub entry_by : {K : Type 0} → (K → List ℕ) → K × ℕ → List ℕ × ℕ
entry_by items e = (items e.0, e.1)

-- bytes are the same both ways round
pub same_turned : (xs ys : List ℕ) → bytes_eq xs ys ≡ bytes_eq ys xs
same_turned xs ys = elim (cases_Bool (bytes_eq ys xs)) [
  | inl yes' ↦ (bytes_eq-Decides xs ys).1 (sym ((bytes_eq-Decides ys xs).0 yes')) ∙ sym yes'
  | inr no' ↦ false_from_ne_true (bytes_eq xs ys) (λ h. true≢false (sym ((bytes_eq-Decides ys xs).1 (sym ((bytes_eq-Decides xs ys).0 h))) ∙ no')) ∙ sym no'
]

-- a look-up among entries, by what their keys have
pub lookup_found : {K : Type 0} (items : K → List ℕ) (test : K → Bool) (q : List ℕ) (es : List (K × ℕ)) → ((k : K) → test k ≡ bytes_eq (items k) q) →
    lookup test es ≡ option_map (λ (x : List ℕ × ℕ). x.1) (find (λ (x : List ℕ × ℕ). bytes_eq x.0 q) (map (entry_by items) es))
lookup_found items test q [] same = refl
lookup_found items test q (e ∷ es) same = ap (λ b. cond b (Some e.1) (lookup test es)) (same e.0) ∙ by (bytes_eq (items e.0) q) _ (lookup_found items test q es same)
  where
    by : (b : Bool) (o : Option (List ℕ × ℕ)) → lookup test es ≡ option_map (λ (x : List ℕ × ℕ). x.1) o → cond b (Some e.1) (lookup test es) ≡ option_map (λ (x : List ℕ × ℕ). x.1) (cond b (Some (items e.0, e.1)) o)
    by true o h = refl
    by false o h = h

pub entries_more : {K : Type 0} (items : K → List ℕ) (es : List (K × ℕ)) (k : K) (line : ℕ) → map (entry_by items) (es ++ (k, line) ∷ []) ≡ map (entry_by items) es ++ (items k, line) ∷ []
entries_more items [] k line = refl
entries_more items (e ∷ es) k line = ap (λ xs. (items e.0, e.1) ∷ xs) (entries_more items es k line)

insert_none : {K : Type 0} (eq : K → K → Bool) (k : K) (v : ℕ) (es : List (K × ℕ)) → lookup (eq k) es ≡ None → insert_entry eq es k v ≡ es ++ (k, v) ∷ []
insert_none eq k v [] h = refl
insert_none eq k v (e ∷ es) h = by (eq k e.0) refl h (insert_none eq k v es)
  where
    by : (b : Bool) → eq k e.0 ≡ b → cond b (Some e.1) (lookup (eq k) es) ≡ None → (lookup (eq k) es ≡ None → insert_entry eq es k v ≡ es ++ (k, v) ∷ []) → insert_entry eq (e ∷ es) k v ≡ (e ∷ es) ++ (k, v) ∷ []
    by true at h again = absurd (none-some e.1 (sym h))
    by false at h again = ap (λ b. if b then (e.0, v) ∷ es else e ∷ insert_entry eq es k v) at ∙ ap (λ xs. e ∷ xs) (again h)

-- the merge of some events, by a map's look-up
pub found_in : {K : Type 0} (items : K → List ℕ) (test : K → Bool) (q key : List ℕ) (es : List (K × ℕ)) (view : List (List ℕ × ℕ)) → map (entry_by items) es ≡ view → key ≡ q → ((k : K) → test k ≡ bytes_eq key (items k)) →
    lookup test es ≡ option_map (λ (x : List ℕ × ℕ). x.1) (find (λ (x : List ℕ × ℕ). bytes_eq x.0 q) view)
found_in items test q key es view is same tests =
    lookup_found items test q es (λ k. tests k ∙ (ap (λ z. bytes_eq z (items k)) same ∙ same_turned q (items k)))
    ∙ ap (λ v. option_map (λ (x : List ℕ × ℕ). x.1) (find (λ (x : List ℕ × ℕ). bytes_eq x.0 q) v)) is

-- one merge more
pub added_to : {K : Type 0} (items : K → List ℕ) (eq : K → K → Bool) (es new : List (K × ℕ)) (key : K) (line : ℕ) (q : List ℕ) (view : List (List ℕ × ℕ)) → map (entry_by items) es ≡ view → items key ≡ q → ((k : K) → eq key k ≡ bytes_eq (items key) (items k)) →
    new ≡ insert_entry eq es key line → None ≡ option_map (λ (x : List ℕ × ℕ). x.1) (find (λ (x : List ℕ × ℕ). bytes_eq x.0 q) view) → map (entry_by items) new ≡ view ++ (q, line) ∷ []
added_to items eq es new key line q view is same tests inserted none =
    ap (map (entry_by items)) (inserted ∙ insert_none eq key line es (found_in items (eq key) q (items key) es view is same tests ∙ sym none))
    ∙ (entries_more items es key line ∙ (ap (λ v. v ++ (items key, line) ∷ []) is ∙ ap (λ z. view ++ (z, line) ∷ []) same))
