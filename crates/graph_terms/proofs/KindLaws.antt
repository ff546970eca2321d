-- A verb is its kind and a number for each place: the laws of the table.
use Rattle.std.proofs.Common.{◌≡◌, ℕ, zero, suc, ◌+◌, ◌<◌, ◌≤◌, Bool, true, false, List, [], ◌∷◌, length, refl, sym, ◌∙◌, ap, subst, arith}
use Rattle.std.specs.Prelude.{zip, map, filter_map, Contains, ◌==◌, Option, Some, None, MatchOption, slice_index, slice_get, nat_le}
use Rattle.std.specs.Option.{option_map_or}
use Rattle.std.proofs.lemmas.Bool.{true≢false, and_parts, or_parts, leb-true, not-true, eqb-true, false_from_ne_true}
use Rattle.std.proofs.lemmas.Option.{none-some, same_Some, slice_get-get_or, get_or_from_slice_get}
use Rattle.std.specs.List.{list_any}
use Rattle.index_spaces.specs.declared.Op.TheVariants as op
use Rattle.basics.proofs.ListFacts.{contains_here, contains_there, passes_some, some_passes}
use Rattle.graph_terms.specs.declared.table.Kind.{Kind}
use Rattle.graph_terms.specs.declared.table.Kind.TheVariants as kinds
use Rattle.graph_terms.specs.declared.table.TheConstants.{MOST_PLACES}
use Rattle.graph_terms.specs.declared.table.Place.{Place}
use Rattle.graph_terms.specs.declared.table.Place.TheVariants.{Space, Column}
use Rattle.graph_terms.specs.declared.table.Parts.{Parts}
use Rattle.graph_terms.specs.declared.verb.Access.{Access}
use Rattle.graph_terms.specs.declared.verb.Mode.{Mode}
use Rattle.graph_terms.specs.declared.verb.Verb.{Verb}
use Rattle.graph_terms.specs.declared.verb.Verb.TheVariants.{User, Merge, MergeIgnore, Arrive, Acquire, Reduce, Task, Call}
use Rattle.graph_terms.specs.declared.table.Kernel.{Kernel}
use Rattle.graph_terms.specs.declared.table.Kernel.TheVariants.{Iota}
use Rattle.graph_terms.specs.Table.{kind_places, kernel_kind, kernel_parts, arrive_kind, arrive_parts, acquire_kind, acquire_parts, verb_kind, verb_parts, verb_places, verb_of, Placed, any_placed, is_column, is_over, is_space, columns_first, in_order, each_in_order, is_row, part_in, parts_from, NumbersFit}
use Rattle.graph_terms.specs.Access.{access, access_at, access_in, accesses_of, verb_accesses}
use Rattle.graph_terms.specs.Laws.{PartForEachPlace, RowsOfVerbs, RowsOfKinds, NonePlacedPasses, AccessOfColumn, AccessOfSpace, ColumnsOverSpaces, NoAccessPasses, SameInEachPlace, KindOfItsVerb, PartsOfItsVerb, VerbOfItsParts, FewAccesses}

-- the kind of the verb of a kind
pub kind_again : KindOfItsVerb
kind_again kinds.User ns h = refl
kind_again kinds.ArriveTimes ns h = ap (λ b. Some (arrive_kind b)) h.1
kind_again k ns h = refl

-- the numbers from the place i on
abbrev pub read_from : ℕ → ℕ → List ℕ → List ℕ
read_from i zero ns = []
read_from i (suc n) ns = slice_index ns i ∷ read_from (i + 1) n ns

parts_read : (k : Kind) (ns : List ℕ) → NumbersFit k ns → verb_parts (verb_of k ns) ≡ read_from 0 (length (kind_places k)) ns
parts_read kinds.User ns h = refl
parts_read kinds.ArriveTimes ns h =
    ap (λ b. arrive_parts b (slice_index ns 0) (slice_index ns 1) (slice_index ns 3)) h.1
    ∙ ap (λ z. slice_index ns 0 ∷ slice_index ns 1 ∷ z ∷ slice_index ns 3 ∷ []) (sym h.0)
parts_read kinds.AcquireShared ns h = ap (λ z. slice_index ns 0 ∷ z ∷ []) (sym h)
parts_read k ns h = refl

read_past : (i n m : ℕ) (ns : List ℕ) → read_from (suc i) n (m ∷ ns) ≡ read_from i n ns
read_past i zero m ns = refl
read_past i (suc n) m ns =
    let e : suc i + 1 ≡ suc (i + 1) = omega arith in
    ap (λ xs. slice_index ns i ∷ xs) (ap (λ j. read_from j n (m ∷ ns)) e ∙ read_past (i + 1) n m ns)

read_all : (ns : List ℕ) → read_from 0 (length ns) ns ≡ ns
read_all [] = refl
read_all (n ∷ ns) = ap (λ xs. n ∷ xs) (read_past 0 (length ns) n ns ∙ read_all ns)

-- its parts, where there is one for each place
pub parts_again : PartsOfItsVerb
parts_again k ns n h = parts_read k ns n ∙ (ap (λ n. read_from 0 n ns) (sym h) ∙ read_all ns)

-- the verb of its own kind and parts
kernel_again : (k : Kernel) → verb_of (kernel_kind k) (kernel_parts k) ≡ Task k
kernel_again (Iota x s value) = refl
kernel_again k = refl

arrive_again : (b : Bool) (p v w : ℕ) → (w == 1) ≡ b → verb_of (arrive_kind b) (arrive_parts b p v w) ≡ Arrive p v w
arrive_again true p v w e = ap (Arrive p v) (sym (eqb-true w 1 e))
arrive_again false p v w e = refl

acquire_again : (b : Bool) (l : ℕ) → verb_of (acquire_kind b) (acquire_parts b l) ≡ Acquire l b
acquire_again true l = refl
acquire_again false l = refl

again : (v : Verb) → MatchOption (verb_kind v) (Unit {0}) (λ k. verb_of k (verb_parts v) ≡ v)
again User = refl
again (Merge events) = tt
again (MergeIgnore events) = tt
again (Call call) = tt
again (Reduce op.Sum a b s) = refl
again (Reduce op.Min a b s) = refl
again (Reduce op.Max a b s) = refl
again (Arrive p v w) = arrive_again (w == 1) p v w refl
again (Acquire l b) = acquire_again b l
again (Task k) = kernel_again k
again v = refl

pub verb_again : VerbOfItsParts
verb_again v k e = subst (λ o. MatchOption o (Unit {0}) (λ k. verb_of k (verb_parts v) ≡ v)) e (again v)

-- there is a part for each place
kernel_each : (k : Kernel) → length (kernel_parts k) ≡ length (kind_places (kernel_kind k))
kernel_each (Iota x s value) = refl
kernel_each k = refl

arrive_each : (b : Bool) (p v w : ℕ) → length (arrive_parts b p v w) ≡ length (kind_places (arrive_kind b))
arrive_each true p v w = refl
arrive_each false p v w = refl

acquire_each : (b : Bool) (l : ℕ) → length (acquire_parts b l) ≡ length (kind_places (acquire_kind b))
acquire_each true l = refl
acquire_each false l = refl

pub part_for_each : PartForEachPlace
part_for_each User = refl
part_for_each (Reduce op.Sum a b s) = refl
part_for_each (Reduce op.Min a b s) = refl
part_for_each (Reduce op.Max a b s) = refl
part_for_each (Arrive p v w) = arrive_each (w == 1) p v w
part_for_each (Acquire l b) = acquire_each b l
part_for_each (Task k) = kernel_each k
part_for_each v = refl

-- each row is in order
pub each_is_row : RowsOfKinds
each_is_row kinds.User = refl
each_is_row k = refl

pub few_places : (k : Kind) → length (kind_places k) ≤ MOST_PLACES
few_places k = leb-true (length (kind_places k)) MOST_PLACES (and_parts (nat_le (length (kind_places k)) MOST_PLACES) _ (each_is_row k)).0

row_columns : (ps : List Place) → is_row ps ≡ true → columns_first ps ≡ true
row_columns ps h = (and_parts (columns_first ps) _ (and_parts (nat_le (length ps) MOST_PLACES) _ h).1).0

row_each : (ps : List Place) → is_row ps ≡ true → each_in_order ps 0 ps ≡ true
row_each ps h = (and_parts (columns_first ps) _ (and_parts (nat_le (length ps) MOST_PLACES) _ h).1).1

order_at : (all : List Place) (n : ℕ) (ps : List Place) → each_in_order all n ps ≡ true → (k : ℕ) (p : Place) → slice_get ps k ≡ Some p → in_order all (n + k) p ≡ true
order_at all n [] h k p e = absurd (none-some p e)
order_at all n (q ∷ ps) h zero p e = ap (in_order all (n + 0)) (sym (same_Some q p e)) ∙ (ap (λ i. in_order all i q) (let z : n + 0 ≡ n = omega arith in z) ∙ (and_parts (in_order all n q) _ h).0)
order_at all n (q ∷ ps) h (suc k) p e =
    let z : n + suc k ≡ (n + 1) + k = omega arith in
    ap (λ i. in_order all i p) z ∙ order_at all (n + 1) ps (and_parts (in_order all n q) _ h).1 k p e

-- the place of number k of a row is in order
pub row_at : (ps : List Place) → is_row ps ≡ true → (k : ℕ) (p : Place) → slice_get ps k ≡ Some p → in_order ps k p ≡ true
row_at ps h k p e = let z : 0 + k ≡ k = omega arith in sym (ap (λ i. in_order ps i p) z) ∙ order_at ps 0 ps (row_each ps h) k p e

-- a column is over a space
space_of_some : (o : Option Place) → option_map_or is_space o false ≡ true → o ≡ Some Space
space_of_some None h = absurd (true≢false (sym h))
space_of_some (Some Space) h = refl
space_of_some (Some p) h = absurd (true≢false (sym h))

pub over_space : ColumnsOverSpaces
over_space ps h k mode over e = space_of_some (slice_get ps over) (row_at ps h k (Column mode over) e)

-- the parts of the code
pub parts_length : (n : ℕ) (ps : List Place) (parts : Parts) → length (parts_from n ps parts) ≡ length ps
parts_length n [] parts = refl
parts_length n (p ∷ ps) parts = ap suc (parts_length (n + 1) ps parts)

part_at : (n : ℕ) (ps : List Place) (parts : Parts) (k : ℕ) (p : Place) → slice_get ps k ≡ Some p → slice_index (parts_from n ps parts) k ≡ part_in p (n + k) parts
part_at n [] parts k p e = absurd (none-some p e)
part_at n (q ∷ ps) parts zero p e = ap (λ x. part_in x n parts) (same_Some q p e) ∙ ap (λ i. part_in p i parts) (let z : n ≡ n + 0 = omega arith in z)
part_at n (q ∷ ps) parts (suc k) p e = let z : (n + 1) + k ≡ n + suc k = omega arith in part_at (n + 1) ps parts k p e ∙ ap (λ i. part_in p i parts) z

pub part_is : (ps : List Place) (parts : Parts) (k : ℕ) (p : Place) → slice_get ps k ≡ Some p → slice_index (parts_from 0 ps parts) k ≡ part_in p k parts
part_is ps parts k p e = part_at 0 ps parts k p e ∙ ap (λ i. part_in p i parts) (let z : 0 + k ≡ k = omega arith in z)

-- the access in a place, where there is one
abbrev access_or : List ℕ → Option Place → ℕ → Option Access
access_or ns None n = None
access_or ns (Some p) n = access_at ns p n

no_accesses : (ns : List ℕ) (ps : List Place) (ms : List ℕ) → list_any is_column ps ≡ false → filter_map (λ (p : Placed). access_at ns p.0 p.1) (zip ps ms) ≡ []
no_accesses ns [] ms h = refl
no_accesses ns (p ∷ ps) [] h = refl
no_accesses ns (Column mode over ∷ ps) (m ∷ ms) h = absurd (true≢false h)
no_accesses ns (p ∷ ps) (m ∷ ms) h = no_accesses ns ps ms h

none_at : (ns : List ℕ) (ps : List Place) (k n : ℕ) → list_any is_column ps ≡ false → access_or ns (slice_get ps k) n ≡ None
none_at ns [] k n h = refl
none_at ns (Column mode over ∷ ps) k n h = absurd (true≢false h)
none_at ns (p ∷ ps) zero n h = refl
none_at ns (p ∷ ps) (suc k) n h = none_at ns ps k n h

-- where columns stand first, the access of a number is in the place of that number
nth_access : (ns : List ℕ) (ps : List Place) (ms : List ℕ) → columns_first ps ≡ true → length ms ≡ length ps → (k : ℕ) →
    slice_get (filter_map (λ (p : Placed). access_at ns p.0 p.1) (zip ps ms)) k ≡ access_or ns (slice_get ps k) (slice_index ms k)
nth_access ns [] ms h e k = refl
nth_access ns (p ∷ ps) [] h e k = absurd (omega arith)
nth_access ns (Column mode over ∷ ps) (m ∷ ms) h e zero = refl
nth_access ns (Column mode over ∷ ps) (m ∷ ms) h e (suc k) = nth_access ns ps ms h (omega arith) k
nth_access ns (p ∷ ps) (m ∷ ms) h e zero = ap (λ (xs : List Access). slice_get xs 0) (no_accesses ns ps ms (not-true _ h))
nth_access ns (p ∷ ps) (m ∷ ms) h e (suc k) =
    ap (λ (xs : List Access). slice_get xs (suc k)) (no_accesses ns ps ms (not-true _ h)) ∙ sym (none_at ns ps k (slice_index ms k) (not-true _ h))

-- what the code reads in a place
pub access_got : (ps : List Place) (parts : Parts) (k : ℕ) (o : Option Place) → is_row ps ≡ true → slice_get ps k ≡ o →
    slice_get (accesses_of ps (parts_from 0 ps parts)) k ≡ option_map_or (λ p. access_in parts p k) o None
access_got ps parts k o h e =
    let ns : List ℕ = parts_from 0 ps parts in
    nth_access ns ps ns (row_columns ps h) (parts_length 0 ps parts) k ∙ (ap (λ o. access_or ns o (slice_index ns k)) e ∙ read_by o e)
  where
    read_by : (o : Option Place) → slice_get ps k ≡ o → access_or (parts_from 0 ps parts) o (slice_index (parts_from 0 ps parts) k) ≡ option_map_or (λ p. access_in parts p k) o None
    read_by None e = refl
    read_by (Some (Column mode over)) e =
        ap (λ n. Some (access n (slice_index (parts_from 0 ps parts) over) mode)) (part_is ps parts k (Column mode over) e)
        ∙ ap (λ n. Some (access (slice_index parts.numbers k) n mode)) (part_is ps parts over Space (over_space ps h k mode over e))
    read_by (Some p) e = refl

-- a row has a number in each place
pub verb_is_row : RowsOfVerbs
verb_is_row v = row_by (verb_kind v)
  where
    row_by : (o : Option Kind) → is_row (option_map_or kind_places o []) ≡ true
    row_by None = refl
    row_by (Some k) = each_is_row k

-- a test that no number passes in its place
pub none_placed : NonePlacedPasses
none_placed t [] ns h k p n e f = absurd (none-some p e)
none_placed t (q ∷ ps) [] h k p n e f = absurd (none-some n f)
none_placed t (q ∷ ps) (m ∷ ns) h zero p n e f = ap (λ x. t x n) (sym (same_Some q p e)) ∙ (ap (t q) (sym (same_Some m n f)) ∙ (or_parts (any_placed t (zip ps ns)) (t q m) h).1)
none_placed t (q ∷ ps) (m ∷ ns) h (suc k) p n e f = none_placed t ps ns (or_parts (any_placed t (zip ps ns)) (t q m) h).0 k p n e f

-- words that are the same in each place
pub map_placed : SameInEachPlace
map_placed f h [] ns e = refl
map_placed f h (p ∷ ps) [] e = refl
map_placed f h (p ∷ ps) (n ∷ ns) e =
    ap (λ w. w ∷ map (λ (q : Placed). f q.0 q.1) (zip ps ns)) (e 0 p n refl refl) ∙ ap (λ ws. h p n ∷ ws) (map_placed f h ps ns (λ k q m a b. e (suc k) q m a b))

-- a column in its place is an access
access_from : (ns : List ℕ) (ps : List Place) (ms : List ℕ) (k : ℕ) (mode : Mode) (over c : ℕ) → slice_get ps k ≡ Some (Column mode over) → slice_get ms k ≡ Some c →
    Contains (filter_map (λ (p : Placed). access_at ns p.0 p.1) (zip ps ms)) (access c (slice_index ns over) mode)
access_from ns [] ms k mode over c e f = absurd (none-some (Column mode over) e)
access_from ns (p ∷ ps) [] k mode over c e f = absurd (none-some c f)
access_from ns (p ∷ ps) (m ∷ ms) zero mode over c e f =
    subst (λ (q : Place). Contains (filter_map (λ (p : Placed). access_at ns p.0 p.1) ((q, m) ∷ zip ps ms)) (access c (slice_index ns over) mode)) (sym (same_Some p (Column mode over) e))
    (subst (λ n. Contains (access n (slice_index ns over) mode ∷ filter_map (λ (p : Placed). access_at ns p.0 p.1) (zip ps ms)) (access c (slice_index ns over) mode)) (sym (same_Some m c f)) (contains_here _ _))
access_from ns (Column m o ∷ ps) (n ∷ ms) (suc k) mode over c e f = contains_there (access n (slice_index ns o) m) _ _ (access_from ns ps ms k mode over c e f)
access_from ns (p ∷ ps) (m ∷ ms) (suc k) mode over c e f = access_from ns ps ms k mode over c e f

pub column_access : AccessOfColumn
column_access ps ns k mode over c e f = access_from ns ps ns k mode over c e f

pub none_of_accesses : NoAccessPasses
none_of_accesses t ps ns h a c = false_from_ne_true (t a) (λ e. true≢false (sym (passes_some t (accesses_of ps ns) a c e) ∙ h))

-- each space of a row is that of an access
over_is : (n : ℕ) (p : Place) → is_over n p ≡ true → (mode : Mode) × (p ≡ Column mode n)
over_is n (Column mode over) h = (mode, ap (Column mode) (eqb-true over n h))
over_is n p h = absurd (true≢false (sym h))

pub space_access : AccessOfSpace
space_access ps ns r e k n at here =
    let s = some_passes (is_over k) ps (row_at ps r k Space at) in
    let o = over_is k s.0 s.2 in
    let j : ℕ = s.1.0 in
    let below : j < length ns = omega (arith, s.1.1) in
    let c : ℕ = slice_index ns j in
    let column : slice_get ps j ≡ Some (Column o.0 k) = slice_get-get_or ps j s.0 s.1.1 ∙ ap Some (s.1.2 ∙ o.1) in
    (access c (slice_index ns k) o.0, column_access ps ns j o.0 k c column (slice_get-get_or ns j 0 below), get_or_from_slice_get ns k n 0 here)

-- a verb by its kind
pub accesses_by_kind : (v : Verb) (k : Kind) (parts : Parts) → verb_kind v ≡ Some k → parts_from 0 (verb_places v) parts ≡ verb_parts v →
    accesses_of (kind_places k) (parts_from 0 (kind_places k) parts) ≡ verb_accesses v
accesses_by_kind v k parts e h =
    ap (λ o. accesses_of (option_map_or kind_places o []) (parts_from 0 (option_map_or kind_places o []) parts)) (sym e) ∙ ap (accesses_of (verb_places v)) h

pub no_kind_no_access : (v : Verb) → verb_kind v ≡ None → verb_accesses v ≡ []
no_kind_no_access v e = ap (λ o. accesses_of (option_map_or kind_places o []) (verb_parts v)) e

-- the columns among places
abbrev columns_in : List Place → ℕ
columns_in [] = 0
columns_in (Column mode over ∷ ps) = suc (columns_in ps)
columns_in (p ∷ ps) = columns_in ps

-- no row has many
few_columns : (k : Kind) → nat_le (columns_in (kind_places k)) 3 ≡ true
few_columns kinds.User = refl
few_columns k = refl

few_from : (ns : List ℕ) (ps : List Place) (ms : List ℕ) → length (filter_map (λ (p : Placed). access_at ns p.0 p.1) (zip ps ms)) ≤ columns_in ps
few_from ns [] ms = omega arith
few_from ns (p ∷ ps) [] = omega arith
few_from ns (Column mode over ∷ ps) (m ∷ ms) = let h : length (filter_map (λ (p : Placed). access_at ns p.0 p.1) (zip ps ms)) ≤ columns_in ps = few_from ns ps ms in omega arith
few_from ns (p ∷ ps) (m ∷ ms) = few_from ns ps ms

few_columns_of : (o : Option Kind) → columns_in (option_map_or kind_places o []) ≤ 3
few_columns_of None = omega arith
few_columns_of (Some k) = leb-true (columns_in (kind_places k)) 3 (few_columns k)

pub few : FewAccesses
few v = let h : length (verb_accesses v) ≤ columns_in (verb_places v) = few_from (verb_parts v) (verb_places v) (verb_parts v) in let k : columns_in (verb_places v) ≤ 3 = few_columns_of (verb_kind v) in omega arith
