-- What a line has taken, access by access.
use Rattle.std.proofs.Common.{◌≡◌, ◌≢◌, ℕ, zero, suc, ◌<◌, ◌≤◌, ◌+◌, ◌⊎◌, inl, inr, Bool, true, false, List, [], ◌∷◌, ◌++◌, length, refl, sym, ◌∙◌, ap, subst, arith, ⊎_elim}
use Rattle.std.specs.Prelude.{Contains, Option, Some, None, slice_get, option_map}
use Rattle.std.proofs.lemmas.Bool.{true≢false, false≢true}
use Rattle.std.proofs.lemmas.Option.{none-some, same_Some}
use Rattle.std.proofs.lemmas.List.Elements.{Contains-append_cases, Contains-append_right}
use Rattle.index_spaces.specs.Column.{ColumnValue}
use Rattle.index_spaces.specs.Held.{HeldList, HoldsOtherwise}
use Rattle.graph_terms.specs.declared.verb.Access.{Access}
use Rattle.graph_terms.specs.Access.{accesses, is_read}
use Rattle.graph_terms.specs.Graph.{GraphValue}
use Rattle.basics.proofs.ListFacts.{contains_none, contains_here, contains_there, contains_cases, contains_one as Contains-one}
use Rattle.share_words.specs.Shares.{share_count}
use Rattle.word_steps.specs.Claims.{TakenShare}
use Rattle.word_loads.specs.Laden.{Taken, Whole, Seen, columns_in, shares_in, AreFirst, FitsAccess, Stacked, taken_column, HoldsTaken}
use Rattle.graph_terms.specs.Fits.{IsGraph}
use Rattle.run_state.specs.Sound.{OnlyReads}
use Rattle.run_state.proofs.Public.{columns_once}
use Rattle.word_loads.proofs.RunFacts.{changes_or_reads}
use Rattle.word_loads.proofs.GatherFacts.{first_is}

pub get_map : {X Y : Type 0} (f : X → Y) (xs : List X) (k : ℕ) → slice_get (Rattle.std.proofs.Common.map f xs) k ≡ option_map f (slice_get xs k)
get_map f [] k = refl
get_map f (x ∷ xs) zero = refl
get_map f (x ∷ xs) (suc k) = get_map f xs k

-- COLUMNS AND SHARES stand in what was taken
pub column_taken : (ts : List Taken) (c : ℕ) (ks : List ℕ) → Contains (columns_in ts) (c, ks) → (t : Taken) × Contains ts t × (taken_column t ≡ c)
column_taken [] c ks m = absurd (contains_none {X = ℕ × List ℕ} (c, ks) m)
column_taken (Whole d js ss ∷ ts) c ks m = ⊎_elim
    (λ (q : (d, js) ≡ (c, ks)). (Whole d js ss, contains_here (Whole d js ss) ts, ap (λ (p : ℕ × List ℕ). p.0) q))
    (λ (r : Contains {X = ℕ × List ℕ} (columns_in ts) (c, ks)). let h = column_taken ts c ks r in (h.0, contains_there (Whole d js ss) ts h.0 h.1, h.2))
    (contains_cases {X = ℕ × List ℕ} (d, js) (columns_in ts) (c, ks) m)
column_taken (Seen s ∷ ts) c ks m = let h = column_taken ts c ks m in (h.0, contains_there (Seen s) ts h.0 h.1, h.2)

abbrev own_shares : Taken → List TakenShare
own_shares (Whole c ks ss) = ss
own_shares (Seen s) = s ∷ []

shares_cases : (t : Taken) (ts : List Taken) (s : TakenShare) → Contains (shares_in (t ∷ ts)) s → Contains (own_shares t) s ⊎ Contains (shares_in ts) s
shares_cases (Whole c ks ss) ts s m = Contains-append_cases ss (shares_in ts) s m
shares_cases (Seen u) ts s m = ⊎_elim (λ (q : u ≡ s). inl (subst (Contains (u ∷ [])) q (contains_here u []))) (λ (r : Contains (shares_in ts) s). inr r) (contains_cases u (shares_in ts) s m)

own_column : (g : GraphValue) (a : Access) (t : Taken) → FitsAccess g a t → (s : TakenShare) → Contains (own_shares t) s → s.column ≡ taken_column t
own_column g a (Whole c ks ss) f s m = (first_is c (share_count g c) ss f.2 s m).0
own_column g a (Seen u) f s m = ap (λ (y : TakenShare). y.column) (sym (Contains-one u s m))

pub share_taken : (g : GraphValue) (xs : List Access) (k : ℕ) (ts : List Taken) → Stacked g xs k ts → (s : TakenShare) → Contains (shares_in ts) s → (t : Taken) × Contains ts t × (taken_column t ≡ s.column)
share_taken g xs zero ts st s m = absurd (contains_none s (subst (λ l. Contains (shares_in l) s) st m))
share_taken g xs (suc k) ts st s m = ⊎_elim
    (λ (n : (slice_get xs k ≡ None) × Stacked g xs k ts). share_taken g xs k ts n.1 s m)
    (λ (r : (a : Access) × (t : Taken) × (more : List Taken) × (slice_get xs k ≡ Some a) × (ts ≡ t ∷ more) × FitsAccess g a t × Stacked g xs k more).
    subst (λ l. (t : Taken) × Contains l t × (taken_column t ≡ s.column)) (sym r.4) (⊎_elim
    (λ (o : Contains (own_shares r.1) s). (r.1, contains_here r.1 r.2, sym (own_column g r.0 r.1 r.5 s o)))
    (λ (o : Contains (shares_in r.2) s). let h = share_taken g xs k r.2 r.6 s o in (h.0, contains_there r.1 r.2 h.0 h.1, h.2))
    (shares_cases r.1 r.2 s (subst (λ l. Contains (shares_in l) s) r.4 m))))
    st

-- no more than accesses
pub stacked_few : (g : GraphValue) (xs : List Access) (k : ℕ) (ts : List Taken) → Stacked g xs k ts → length ts ≤ k
stacked_few g xs zero ts s = omega (arith, ap (λ (l : List Taken). length l) s)
stacked_few g xs (suc k) ts s = ⊎_elim
    (λ (n : (slice_get xs k ≡ None) × Stacked g xs k ts). omega (arith, stacked_few g xs k ts n.1))
    (λ (r : (a : Access) × (t : Taken) × (more : List Taken) × (slice_get xs k ≡ Some a) × (ts ≡ t ∷ more) × FitsAccess g a t × Stacked g xs k more). omega (arith, stacked_few g xs k r.2 r.6, ap (λ (l : List Taken). length l) r.4))
    s

-- THE TOP, of an access that is there
pub top_of : (g : GraphValue) (xs : List Access) (k : ℕ) (ts : List Taken) (a : Access) → slice_get xs k ≡ Some a → Stacked g xs (suc k) ts → (t : Taken) × (more : List Taken) × (ts ≡ t ∷ more) × FitsAccess g a t × Stacked g xs k more
top_of g xs k ts a at s = ⊎_elim
    (λ (n : (slice_get xs k ≡ None) × Stacked g xs k ts). absurd (none-some a (sym n.0 ∙ at)))
    (λ (r : (b : Access) × (t : Taken) × (more : List Taken) × (slice_get xs k ≡ Some b) × (ts ≡ t ∷ more) × FitsAccess g b t × Stacked g xs k more).
    (r.1, r.2, r.4, subst (λ b. FitsAccess g b r.1) (same_Some r.0 a (sym r.3 ∙ at)) r.5, r.6))
    s

pub skip_of : (g : GraphValue) (xs : List Access) (k : ℕ) (ts : List Taken) → slice_get xs k ≡ None → Stacked g xs (suc k) ts → Stacked g xs k ts
skip_of g xs k ts at s = ⊎_elim
    (λ (n : (slice_get xs k ≡ None) × Stacked g xs k ts). n.1)
    (λ (r : (b : Access) × (t : Taken) × (more : List Taken) × (slice_get xs k ≡ Some b) × (ts ≡ t ∷ more) × FitsAccess g b t × Stacked g xs k more). absurd (none-some r.0 (sym at ∙ r.3)))
    s

pub fits_column : (g : GraphValue) (a : Access) (t : Taken) → FitsAccess g a t → taken_column t ≡ a.column
fits_column g a (Whole c ks ss) f = sym f.0
fits_column g a (Seen s) f = sym f.0

-- a share, where the access only reads, and a whole column, where it does not
pub seen_of : (g : GraphValue) (a : Access) (t : Taken) → FitsAccess g a t → is_read a.mode ≡ true → (s : TakenShare) × (t ≡ Seen s) × (a.column ≡ s.column) × (0 < s.number) × (s.number < share_count g s.column)
seen_of g a (Whole c ks ss) f r = absurd (true≢false (sym r ∙ f.1))
seen_of g a (Seen s) f r = (s, refl, f.0, f.2, f.3)

pub whole_of : (g : GraphValue) (a : Access) (t : Taken) → FitsAccess g a t → is_read a.mode ≡ false → (c : ℕ) × (ks : List ℕ) × (ss : List TakenShare) × (t ≡ Whole c ks ss) × (a.column ≡ c) × AreFirst c (share_count g c) ss
whole_of g a (Whole c ks ss) f r = (c, ks, ss, refl, f.0, f.2)
whole_of g a (Seen s) f r = absurd (true≢false (sym f.1 ∙ r))

-- what is held of others stays
pub holds_on : (g : GraphValue) (cells : List ℕ → ℕ → List ℕ) (held held' : HeldList) (c : ℕ) (x : Option ColumnValue) → HoldsOtherwise held held' c x → (t : Taken) → (taken_column t ≡ c → ⊥) → HoldsTaken g cells held t → HoldsTaken g cells held' t
holds_on g cells held held' c x o (Whole d ks ss) n h = (o.others d n ∙ h.0, o.lendings d n ∙ h.1)
holds_on g cells held held' c x o (Seen s) n h = (o.others s.column n ∙ h.0, o.lendings s.column n ∙ h.1)

-- an item of a list has a place
pub place_of : {X : Type 0} (xs : List X) (x : X) → Contains xs x → (k : ℕ) × (slice_get xs k ≡ Some x)
place_of [] x m = absurd (contains_none x m)
place_of (y ∷ ys) x m = ⊎_elim (λ (q : y ≡ x). (0, ap (λ z. Some z) q)) (λ (r : Contains ys x). let h = place_of ys x r in (suc h.0, h.1)) (contains_cases y ys x m)

-- a line that has an access which reads only reads the column
pub only_reads : (g : GraphValue) → IsGraph g → (i : ℕ) (a : Access) → Contains (accesses g i) a → is_read a.mode ≡ true → OnlyReads g i a.column
only_reads g f i a m reads = elim (changes_or_reads g f i a.column (a, m, refl)) [
  | inl ch ↦ (
      let j = place_of (accesses g i) ch.0 ch.1 in
      let k = place_of (accesses g i) a m in
      let same = columns_once g f i j.0 k.0 a.column
      (get_map (λ (x : Access). x.column) (accesses g i) j.0 ∙ (ap (option_map (λ (x : Access). x.column)) j.1 ∙ ap (λ (c : ℕ). Some c) ch.2))
      (get_map (λ (x : Access). x.column) (accesses g i) k.0 ∙ ap (option_map (λ (x : Access). x.column)) k.1) in
      let one : ch.0 ≡ a = same_Some ch.0 a (sym j.1 ∙ (ap (slice_get (accesses g i)) same ∙ k.1)) in
      absurd (true≢false (sym reads ∙ (ap (λ (x : Access). is_read x.mode) (sym one) ∙ ch.3))))
  | inr only ↦ only
]

abbrev pub is_whole : Taken → Bool
is_whole (Whole a b l) = true
is_whole (Seen s) = false

abbrev parts : ℕ × List ℕ → Taken → ℕ × List ℕ
parts z (Whole a b l) = (a, b)
parts z (Seen s) = z

whole_one : (d : ℕ) (js : List ℕ) (us : List TakenShare) (c : ℕ) (ks : List ℕ) (ss : List TakenShare) → Whole d js us ≡ Whole c ks ss → ◌≡◌ {A = ℕ × List ℕ} (d, js) (c, ks)
whole_one d js us c ks ss q = ap (parts (d, js)) q

abbrev seen_parts : TakenShare → Taken → TakenShare
seen_parts u (Whole c ks us) = u
seen_parts u (Seen z) = z

pub seen_one : (u z : TakenShare) → Seen u ≡ Seen z → u ≡ z
seen_one u z e = ap (seen_parts u) e

pub share_in : (ts : List Taken) (s : TakenShare) → Contains ts (Seen s) → Contains (shares_in ts) s
share_in [] s m = absurd (contains_none (Seen s) m)
share_in (Whole c ks ss ∷ ts) s m = ⊎_elim
    (λ (q : Whole c ks ss ≡ Seen s). absurd (false≢true (sym (ap is_whole q))))
    (λ (r : Contains ts (Seen s)). Contains-append_right ss (shares_in ts) s (share_in ts s r))
    (contains_cases (Whole c ks ss) ts (Seen s) m)
share_in (Seen u ∷ ts) s m = ⊎_elim
    (λ (q : Seen u ≡ Seen s). subst (Contains (u ∷ shares_in ts)) (seen_one u s q) (contains_here u (shares_in ts)))
    (λ (r : Contains ts (Seen s)). contains_there u (shares_in ts) s (share_in ts s r))
    (contains_cases (Seen u) ts (Seen s) m)

pub column_in : (ts : List Taken) (c : ℕ) (ks : List ℕ) (ss : List TakenShare) → Contains ts (Whole c ks ss) → Contains (columns_in ts) (c, ks)
column_in [] c ks ss m = absurd (contains_none (Whole c ks ss) m)
column_in (Whole d js us ∷ ts) c ks ss m = ⊎_elim
    (λ (q : Whole d js us ≡ Whole c ks ss). subst (λ (p : ℕ × List ℕ). Contains {X = ℕ × List ℕ} ((d, js) ∷ columns_in ts) p) (whole_one d js us c ks ss q) (contains_here {X = ℕ × List ℕ} (d, js) (columns_in ts)))
    (λ (r : Contains ts (Whole c ks ss)). contains_there {X = ℕ × List ℕ} (d, js) (columns_in ts) (c, ks) (column_in ts c ks ss r))
    (contains_cases (Whole d js us) ts (Whole c ks ss) m)
column_in (Seen u ∷ ts) c ks ss m = ⊎_elim
    (λ (q : Seen u ≡ Whole c ks ss). absurd (false≢true (ap is_whole q)))
    (λ (r : Contains ts (Whole c ks ss)). column_in ts c ks ss r)
    (contains_cases (Seen u) ts (Whole c ks ss) m)
