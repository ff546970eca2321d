-- A graph whose paths between the lines of a flow are the flow's chains, and whose sections stand, is accepted.
use Rattle.std.proofs.Common.{◌≡◌, ℕ, ◌+◌, ◌<◌, Bool, true, false, ◌&&◌, ◌⊎◌, inl, inr, List, [], ◌++◌, length, refl, sym, ◌∙◌, ap, subst, arith}
use Rattle.std.specs.Prelude.{Contains, Option, Some, None, nat_lt, map, slice_get, option_map, ◌==◌}
use Rattle.std.specs.Option.{option_map_or}
use Rattle.std.specs.List.{list_any}
use Rattle.std.proofs.lemmas.Bool.{true≢false, cases_Bool, eq-eqb, lt-ltb, false_from_ne_true}
use Rattle.std.proofs.lemmas.List.{append-nil}
use Rattle.std.proofs.lemmas.Option.{same_Some}
use Rattle.index_spaces.specs.Space.{has_point, points, Meet}
use Rattle.index_spaces.specs.Laws.{PointsAreListed}
use Rattle.graph_terms.specs.declared.verb.Access.{Access}
use Rattle.graph_terms.specs.declared.verb.Mode.{Mode}
use Rattle.graph_terms.specs.declared.verb.Mode.TheVariants.{Read, Write, Sum, Least, Most}
use Rattle.graph_terms.specs.declared.verb.Edge.{Edge}
use Rattle.graph_terms.specs.declared.verb.EdgeKind.TheVariants.{Passes, Ignores}
use Rattle.graph_terms.specs.declared.verb.Line.{Line}
use Rattle.graph_terms.specs.declared.verb.Verb.{Verb}
use Rattle.graph_terms.specs.declared.verb.Verb.TheVariants.{Arrive, Acquire, Fill, Copy, Reduce, Task, Call}
use Rattle.graph_terms.specs.Graph.{GraphValue, is_phase, is_acquire_of, is_release_of, is_merge_ignore, is_shared, verb_at, line_passes, space_at}
use Rattle.graph_meaning.specs.Path.{Path, HasPath, last, first}
use Rattle.graph_terms.specs.Edges.{edge}
use Rattle.graph_terms.specs.Access.{verb_accesses, call_accesses, behind_columns, in_format, accesses, all_accesses, modes_clash, AccessesConflict, Conflict}
use Rattle.graph_terms.specs.Reservations.{Acquires, Releases}
use Rattle.graph_meaning.specs.Rules.{Section, modes_commute, Exempt, NoCycleAt, ReleasedAt, SectionAt, DescendsAt, stands_on_merges, ReleaseFaultAt, RaceAt, Everywhere, EverywhereTwice, Accepted}
use Rattle.graph_terms.specs.Fits.{IsGraph}
use Rattle.basics.proofs.ListFacts.{contains_none, passes_some, map_contains}
use Rattle.graph_terms.proofs.Public.{arrive_accesses}
use Rattle.graph_meaning.proofs.Public.{path_append}
use Rattle.flow_order.specs.Flow.{IsFlow, uses_columns}
use Rattle.flow_order.specs.Meaning.{order_counts, accesses_tie, depends, last as last_link}
use Rattle.flow_order.specs.Forward.{AllForward}
use Rattle.flow_order.specs.Orders.{Orders}
use Rattle.flow_order.specs.Written.{orders_alone, Keeps}
use Rattle.flow_order.specs.Sections.{Held, AreApart, SectionsStand}
use Rattle.flow_order.proofs.Forward.{forward_has_no_cycle}
use Rattle.flow_order.proofs.Simulation.{path_all, place_uses, place_order, spaces_same}

-- the last edge of a path
abbrev UpTo : List Edge → ℕ → ℕ → Type 0
UpTo all i j = (i ≡ j) ⊎ Path all i j

last_edge : {all : List Edge} {i j : ℕ} → Path all i j → (e : Edge) × Contains all e × (e.to ≡ j) × UpTo all i e.from
last_edge (last e c p q) = (e, c, q, inl (sym p))
last_edge (first e c p r) = let s = last_edge r in (s.0, s.1, s.2, inr (elim s.3 [ inl same ↦ last e c p same | inr q ↦ first e c p q ]))

back_one : {all : List Edge} (a b j : ℕ) → ((e : Edge) → Contains all e → e.to ≡ b → e.from ≡ a) → Path all j b → UpTo all j a
back_one {all} a b j into p = let s = last_edge p in subst (UpTo all j) (into s.0 s.1 s.2) s.3

-- lines that only order use no column, and those that use columns order nothing
alone_accesses : (v : Verb) → orders_alone v ≡ true → verb_accesses v ≡ []
alone_accesses (Arrive k w weight) h = arrive_accesses k w weight
alone_accesses (Fill t s w) h = absurd (true≢false (sym h))
alone_accesses (Copy x y s) h = absurd (true≢false (sym h))
alone_accesses (Reduce o x y s) h = absurd (true≢false (sym h))
alone_accesses (Task k) h = absurd (true≢false (sym h))
alone_accesses (Acquire l true) h = refl
alone_accesses (Acquire l false) h = refl
alone_accesses v h = refl

-- neither kind is a call
alone_calls : (v : Verb) → orders_alone v ≡ true → call_accesses v ≡ []
alone_calls (Call call) h = absurd (true≢false (sym h))
alone_calls v h = refl

uses_calls : (v : Verb) → uses_columns v ≡ true → call_accesses v ≡ []
uses_calls (Call call) h = absurd (true≢false (sym h))
uses_calls v h = refl

alone_not_shared : (v : Verb) → orders_alone v ≡ true → is_shared v ≡ false
alone_not_shared (Acquire l true) h = absurd (true≢false (sym h))
alone_not_shared (Acquire l false) h = refl
alone_not_shared _ h = refl

uses_not_shared : (v : Verb) → uses_columns v ≡ true → is_shared v ≡ false
uses_not_shared (Acquire l shared) h = absurd (true≢false (sym h))
uses_not_shared _ h = refl

abbrev PlainVerb : ℕ → Verb → Type 0
PlainVerb l v = (is_phase v ≡ false) × (is_acquire_of l v ≡ false)

uses_plain : (l : ℕ) (v : Verb) → uses_columns v ≡ true → PlainVerb l v
uses_plain l (Fill t s w) h = (refl, refl)
uses_plain l (Copy x y s) h = (refl, refl)
uses_plain l (Reduce o x y s) h = (refl, refl)
uses_plain l (Task k) h = (refl, refl)
uses_plain l v h = absurd (true≢false (sym h))

-- two uses that clash although their order doesn't count are sums that commute
abbrev CommutingSums : Bool → Mode → Mode → Type 0
CommutingSums commute m n = (commute ≡ true) × (m ≡ Sum) × (n ≡ Sum) × (modes_commute m n ≡ true)

sums_of : (commute : Bool) (m n : Mode) → order_counts commute m n ≡ false → modes_clash m n ≡ true → CommutingSums commute m n
sums_of commute Read Read h c = absurd (true≢false (sym c))
sums_of commute Read Write h c = absurd (true≢false h)
sums_of commute Read Sum h c = absurd (true≢false h)
sums_of commute Write Read h c = absurd (true≢false h)
sums_of commute Write Write h c = absurd (true≢false h)
sums_of commute Write Sum h c = absurd (true≢false h)
sums_of commute Sum Read h c = absurd (true≢false h)
sums_of commute Sum Write h c = absurd (true≢false h)
sums_of commute Read Least h c = absurd (true≢false h)
sums_of commute Read Most h c = absurd (true≢false h)
sums_of commute Write Least h c = absurd (true≢false h)
sums_of commute Write Most h c = absurd (true≢false h)
sums_of commute Sum Least h c = absurd (true≢false h)
sums_of commute Sum Most h c = absurd (true≢false h)
sums_of commute Least n h c = absurd (true≢false h)
sums_of commute Most n h c = absurd (true≢false h)
sums_of true Sum Sum h c = (refl, refl, refl, refl)
sums_of false Sum Sum h c = absurd (true≢false h)

none_of : {X : Type 0} (t : X → Bool) (xs : List X) → list_any t xs ≡ false → (x : X) → Contains xs x → t x ≡ false
none_of t xs h x c = false_from_ne_true (t x) (λ e. true≢false (sym (passes_some t xs x c e) ∙ h))

right_false : (a b : Bool) → a ≡ true → (a && b) ≡ false → b ≡ false
right_false true b e h = h
right_false false b e h = absurd (true≢false (sym e))

left_false : (a b : Bool) → b ≡ true → (a && b) ≡ false → a ≡ false
left_false true b e h = absurd (true≢false (sym e ∙ h))
left_false false b e h = refl

module _ (listed : PointsAreListed) (f : GraphValue) (commute : Bool) (g : GraphValue) (place : ℕ → ℕ) (flow : IsFlow f) (fits : IsGraph g) (fwd : AllForward g) (k : Keeps f g place) (o : Orders f commute g place) (stand : SectionsStand f commute g place) where
  no_cycle : Everywhere (NoCycleAt g)
  no_cycle = forward_has_no_cycle g fits fwd

  before_release : (q j : ℕ) → Held g q → HasPath g j (q + 3) → (j ≡ q) ⊎ (HasPath g j q ⊎ ((j ≡ q + 1) ⊎ (j ≡ q + 2)))
  before_release q j h p = elim (back_one (q + 2) (q + 3) j h.into_release p) [
    | inl e ↦ inr (inr (inr e))
    | inr r ↦ elim (back_one (q + 1) (q + 2) j h.into_merge r) [
      | inl e ↦ inr (inr (inl e))
      | inr s ↦ elim (back_one q (q + 1) j h.into_sum s) [ inl e ↦ inl e | inr t ↦ inr (inl t) ]
    ]
  ]

  path_to_sum : (q : ℕ) → Held g q → HasPath g q (q + 1)
  path_to_sum q h = last (edge q (q + 1) Passes) h.to_sum refl refl

  path_to_merge : (q : ℕ) → Held g q → HasPath g q (q + 2)
  path_to_merge q h = first (edge q (q + 1) Passes) h.to_sum refl (last (edge (q + 1) (q + 2) Ignores) h.to_merge refl refl)

  path_from_sum : (q : ℕ) → Held g q → HasPath g (q + 1) (q + 3)
  path_from_sum q h = first (edge (q + 1) (q + 2) Ignores) h.to_merge refl (last (edge (q + 2) (q + 3) Passes) h.to_release refl refl)

  released_by : (q : ℕ) → Held g q → Releases g (q + 3) q
  released_by q h = ap (λ (o : Option Line). option_map_or (is_release_of q) (option_map (λ (l : Line). l.verb) o) false) h.release
      ∙ (ap (is_release_of q) h.releases ∙ eq-eqb q q refl)

  released : Everywhere (ReleasedAt g)
  released q l a = let h = stand.acquires q l a in (q + 3, released_by q h, path_append (path_to_sum q h) (path_from_sum q h))

  no_phase_sum : (q j : ℕ) → Held g q → j ≡ q + 1 → line_passes is_phase g j ≡ false
  no_phase_sum q j h e = ap (line_passes is_phase g) e ∙ (ap (λ v. option_map_or is_phase v false) h.sum ∙ (uses_plain 0 h.verb h.uses).0)

  no_phase_merge : (q j : ℕ) → Held g q → j ≡ q + 2 → line_passes is_phase g j ≡ false
  no_phase_merge q j h e = ap (line_passes is_phase g) e ∙ ap (λ v. option_map_or is_phase v false) h.merge

  sections : EverywhereTwice (SectionAt g)
  sections i j q r p =
      let at = stand.releases i q r in
      let h = at.1 in
      elim (before_release q j h (subst (HasPath g j) at.0 p)) [
        | inl e ↦ inl e
        | inr (inl b) ↦ inr (inl b)
        | inr (inr (inl e)) ↦ inr (inr (subst (HasPath g q) (sym e) (path_to_sum q h), λ phase never. true≢false (sym phase ∙ no_phase_sum q j h e)))
        | inr (inr (inr e)) ↦ inr (inr (subst (HasPath g q) (sym e) (path_to_merge q h), λ phase never. true≢false (sym phase ∙ no_phase_merge q j h e)))
      ]

  descends : EverywhereTwice (DescendsAt g)
  descends i j l n s a =
      let at = stand.releases s.release i s.releases in
      let h = at.1 in
      elim (before_release i j h (subst (HasPath g j) at.0 s.left)) [
        | inl e ↦ absurd (no_cycle i (subst (HasPath g i) e s.entered))
        | inr (inl b) ↦ absurd (no_cycle i (path_append s.entered b))
        | inr (inr (inl e)) ↦ absurd (true≢false (sym a ∙ (ap (line_passes (is_acquire_of n) g) e ∙ (ap (λ v. option_map_or (is_acquire_of n) v false) h.sum ∙ (uses_plain n h.verb h.uses).1))))
        | inr (inr (inr e)) ↦ absurd (true≢false (sym a ∙ (ap (line_passes (is_acquire_of n) g) e ∙ ap (λ v. option_map_or (is_acquire_of n) v false) h.merge)))
      ]

  release_faults : Everywhere (ReleaseFaultAt g)
  release_faults i q l at r =
      let s = stand.releases i q (ap (λ (o : Option Line). option_map_or (is_release_of q) (option_map (λ (x : Line). x.verb) o) false) at ∙ r) in
      let h = s.1 in
      let same : l ≡ h.last = same_Some l h.last (sym at ∙ (ap (slice_get g.lines) s.0 ∙ h.release)) in
      ap (stands_on_merges g) (ap (λ (x : Line). x.on) same ∙ h.on) ∙ ap (λ v. option_map_or is_merge_ignore v false && true) h.merge

  -- a line with an access is one of the flow
  used_line : (i : ℕ) (a : Access) (x : Option Line) → slice_get g.lines i ≡ x → Contains (option_map_or verb_accesses (option_map (λ (l : Line). l.verb) x) []) a → (m : ℕ) × (m < length f.lines) × (place m ≡ i)
  used_line i a None e c = absurd (contains_none a c)
  used_line i a (Some l) e c = elim (k.others i l e) [
    | inl r ↦ r
    | inr alone ↦ absurd (contains_none a (subst (λ (xs : List Access). Contains xs a) (alone_accesses l.verb alone) c))
  ]

  -- no line is a call
  no_calls : (i : ℕ) (x : Option Line) → slice_get g.lines i ≡ x → option_map_or call_accesses (option_map (λ (l : Line). l.verb) x) [] ≡ []
  no_calls i None e = refl
  no_calls i (Some l) e = elim (k.others i l e) [
    | inl r ↦ (let u = place_uses f commute g place flow fits fwd k o r.0 r.1 in
        let there : u.0 ≡ l = same_Some u.0 l (sym u.1 ∙ (ap (slice_get g.lines) r.2 ∙ e)) in
        ap (λ (x : Line). call_accesses x.verb) (sym there) ∙ uses_calls u.0.verb u.2)
    | inr alone ↦ alone_calls l.verb alone
  ]

  all_accesses_are : (i : ℕ) → all_accesses g i ≡ accesses g i
  all_accesses_are i = ap (λ xs. accesses g i ++ map (behind_columns g) xs) (no_calls i (slice_get g.lines i) refl) ∙ append-nil (accesses g i)

  -- no acquire is shared
  not_shared : (i : ℕ) (x : Option Line) → slice_get g.lines i ≡ x → option_map_or is_shared (option_map (λ (l : Line). l.verb) x) false ≡ false
  not_shared i None e = refl
  not_shared i (Some l) e = elim (k.others i l e) [
    | inl r ↦ (let u = place_uses f commute g place flow fits fwd k o r.0 r.1 in
        let there : u.0 ≡ l = same_Some u.0 l (sym u.1 ∙ (ap (slice_get g.lines) r.2 ∙ e)) in
        ap (λ (x : Line). is_shared x.verb) (sym there) ∙ uses_not_shared u.0.verb u.2)
    | inr alone ↦ alone_not_shared l.verb alone
  ]

  same_accesses : (m : ℕ) → m < length f.lines → accesses g (place m) ≡ accesses f m
  same_accesses m h = ap (λ form. map (in_format form) (option_map_or verb_accesses (verb_at g (place m)) [])) k.format ∙ ap (λ v. map (in_format f.format) (option_map_or verb_accesses v [])) (place_uses f commute g place flow fits fwd k o m h).3

  same_at_all : (m : ℕ) → m < length f.lines → all_accesses g (place m) ≡ accesses f m
  same_at_all m h = all_accesses_are (place m) ∙ same_accesses m h

  same_space : (s : ℕ) → space_at g s ≡ space_at f s
  same_space s = ap (λ (w : ℕ → List (ℕ × ℕ)). w s) (spaces_same f commute g place flow fits fwd k o)

  -- where line n doesn't depend on line m, what conflicts are sums that commute
  module _ (m n : ℕ) (less : m < n) (n_below : n < length f.lines) (loose : depends f commute m n ≡ false) where
    meets_in_flow : (a b : Access) → AccessesConflict g a b → Meet (space_at f a.space) (space_at f b.space)
    meets_in_flow a b x = (x.meet.0, subst (λ s. has_point s x.meet.0 ≡ true) (same_space a.space) x.meet.1, subst (λ s. has_point s x.meet.0 ≡ true) (same_space b.space) x.meet.2)

    are_sums : (a b : Access) → Contains (accesses f m) a → Contains (accesses f n) b → AccessesConflict g a b → CommutingSums commute a.mode b.mode
    are_sums a b c d x =
        let w = meets_in_flow a b x in
        let some : list_any (λ a. list_any (accesses_tie f commute a) (accesses f n)) (accesses f m) ≡ false = right_false (nat_lt m n) _ (lt-ltb m n less) loose in
        let apart : accesses_tie f commute a b ≡ false = none_of (accesses_tie f commute a) (accesses f n) (none_of (λ a. list_any (accesses_tie f commute a) (accesses f n)) (accesses f m) some a c) b d in
        let shared : list_any (has_point (space_at f a.space)) (points (space_at f b.space)) ≡ true = passes_some (has_point (space_at f a.space)) (points (space_at f b.space)) w.0 ((listed (space_at f b.space) w.0).1 w.2) w.1 in
        sums_of commute a.mode b.mode (left_false _ _ shared (right_false (a.column == b.column) _ (eq-eqb a.column b.column x.column) apart)) x.clash

    m_below : m < length f.lines
    m_below = omega arith

    in_section : (q l i : ℕ) → Acquires g q l → i ≡ q + 1 → Section g l q i
    in_section q l i a at = let h = stand.acquires q l a in record {
      acquires = a;
      entered = subst (HasPath g q) (sym at) (path_to_sum q h);
      release = q + 3;
      releases = released_by q h;
      left = subst (λ x. HasPath g x (q + 3)) (sym at) (path_from_sum q h);
    }

    exempt : AreApart g (place m) (place n) → Exempt g (place m) (place n)
    exempt p = record {
      commute = λ a b c d x. (are_sums a b (subst (λ (xs : List Access). Contains xs a) (same_at_all m m_below) c) (subst (λ (xs : List Access). Contains xs b) (same_at_all n n_below) d) x).3;
      lock = p.lock;
      one = p.one;
      other = p.other;
      different = λ same. (let order : place m < place n = k.ascends m n less n_below in let a : place m ≡ p.one + 1 = p.one_line in let b : place n ≡ p.other + 1 = p.other_line in let e : p.one ≡ p.other = same in absurd (omega arith));
      apart = ap (λ b. b && line_passes is_shared g p.other) (not_shared p.one (slice_get g.lines p.one) refl);
      one_section = in_section p.one p.lock (place m) p.one_acquires p.one_line;
      other_section = in_section p.other p.lock (place n) p.other_acquires p.other_line;
    }

    loose_race : Conflict g (place m) (place n) → HasPath g (place m) (place n) ⊎ (HasPath g (place n) (place m) ⊎ Exempt g (place m) (place n))
    loose_race c =
        let a_in = subst (λ (xs : List Access). Contains xs c.one) (same_at_all m m_below) c.one_in in
        let b_in = subst (λ (xs : List Access). Contains xs c.other) (same_at_all n n_below) c.other_in in
        let s = are_sums c.one c.other a_in b_in c.conflict in
        elim (stand.rivals m n c.one c.other less n_below s.0 a_in b_in s.1 s.2 c.conflict.column (meets_in_flow c.one c.other c.conflict)) [
          | inl chain ↦ inl (path_all g (o.enough m n m_below n_below chain))
          | inr apart ↦ inr (inr (exempt apart))
        ]

  race_of : (m n : ℕ) → m < length f.lines → n < length f.lines → RaceAt g (place m) (place n)
  race_of m n m_below n_below less c =
      let before : m < n = place_order f commute g place flow fits fwd k o m n m_below less in
      elim (cases_Bool (depends f commute m n)) [
        | inl tie ↦ inl (path_all g (o.enough m n m_below n_below (last_link tie)))
        | inr loose ↦ loose_race m n before n_below loose c
      ]

  races : EverywhereTwice (RaceAt g)
  races i j less c =
      let p = map_contains (in_format g.format) (option_map_or verb_accesses (verb_at g i) []) c.one (subst (λ (xs : List Access). Contains xs c.one) (all_accesses_are i) c.one_in) in
      let q = map_contains (in_format g.format) (option_map_or verb_accesses (verb_at g j) []) c.other (subst (λ (xs : List Access). Contains xs c.other) (all_accesses_are j) c.other_in) in
      let m = used_line i p.0 (slice_get g.lines i) refl p.1 in
      let n = used_line j q.0 (slice_get g.lines j) refl q.1 in
      let at_places : RaceAt g i j = subst (λ x. RaceAt g x j) m.2 (subst (λ y. RaceAt g (place m.0) y) n.2 (race_of m.0 n.0 m.1 n.1)) in
      at_places less c

pub accepted_by_order : PointsAreListed → (f : GraphValue) (commute : Bool) (g : GraphValue) (place : ℕ → ℕ) → IsFlow f → IsGraph g → AllForward g → Keeps f g place → Orders f commute g place → SectionsStand f commute g place → Accepted g
accepted_by_order listed f commute g place flow fits fwd k o stand = record {
  acyclic = no_cycle listed f commute g place flow fits fwd k o stand;
  released = released listed f commute g place flow fits fwd k o stand;
  sections = sections listed f commute g place flow fits fwd k o stand;
  descends = descends listed f commute g place flow fits fwd k o stand;
  release_faults = release_faults listed f commute g place flow fits fwd k o stand;
  races = races listed f commute g place flow fits fwd k o stand;
}
