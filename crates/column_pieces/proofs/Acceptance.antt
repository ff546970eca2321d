-- Where a graph is accepted, the graph of its pieces is too, with the same need and the same lawful traces.
use Rattle.std.proofs.Common.{◌≡◌, ℕ, ◌+◌, ◌<◌, Bool, true, false, ◌&&◌, ◌⊎◌, inl, inr, List, [], ◌∷◌, ◌++◌, length, map, refl, sym, ◌∙◌, ap, subst, arith, cond}
use Rattle.std.specs.Prelude.{Option, Some, None, Contains, option_map, slice_get, flat_map, nat_lt, IsTrue}
use Rattle.std.specs.Option.{option_map_or}
use Rattle.std.specs.List.{list_all}
use Rattle.std.proofs.lemmas.Option.{none-some, same_Some}
use Rattle.std.proofs.lemmas.List.Elements.{Contains-append_left, Contains-append_right, Contains-append_cases}
use Rattle.basics.specs.Lists.{numbers_below}
use Rattle.basics.proofs.ListFacts.{contains_map, map_contains}
use Rattle.index_spaces.specs.declared.Op.TheVariants as op
use Rattle.index_spaces.specs.Space.{has_point, Meet}
use Rattle.graph_terms.specs.declared.verb.Access.{Access}
use Rattle.graph_terms.specs.declared.verb.EdgeKind.TheVariants.{Passes}
use Rattle.graph_terms.specs.declared.verb.Line.{Line}
use Rattle.graph_terms.specs.declared.verb.Verb.{Verb}
use Rattle.graph_terms.specs.declared.verb.Verb.TheVariants.{Fill, Copy, Reduce, Task, Arrive, Acquire, Release}
use Rattle.graph_terms.specs.declared.format.Format.{Format}
use Rattle.graph_terms.specs.Fits.{IsGraph}
use Rattle.graph_terms.specs.Graph.{GraphValue, written_in, verb_at, columns, space_at, line_passes, is_phase, is_acquire_of, is_release_of, is_merge_ignore, is_shared}
use Rattle.graph_terms.specs.Edges.{edge, edges}
use Rattle.graph_terms.specs.Access.{verb_accesses, call_accesses, behind_columns, in_format, accesses, all_accesses, AccessesConflict, Conflict, modes_clash}
use Rattle.graph_terms.specs.Reservations.{Acquires, Releases, both_shared}
use Rattle.graph_terms.proofs.Public.{arrive_accesses}
use Rattle.graph_meaning.specs.Path.{HasPath, Path}
use Rattle.graph_meaning.specs.Rules.{Section, modes_commute, Exempt, ReleasedAt, SectionAt, DescendsAt, stands_on_merges, ReleaseFaultAt, RaceAt, Accepted}
use Rattle.graph_meaning.specs.Need.{places, largest, open_at, rivals, acquires_after, need_edges, Precedes, IsHigh, IsNeed}
use Rattle.graph_meaning.specs.Evaluation.{is_ended}
use Rattle.graph_meaning.specs.Laws.{LaterFormatsKeepMeaning}
use Rattle.graph_meaning.specs.Trace.{IsLawful}
use Rattle.graph_meaning.proofs.Public.{accesses_fit}
use Rattle.column_pieces.specs.Cut.{Cut, verb_on, line_on, lines_on, IsCut}
use Rattle.column_pieces.specs.Laws.{TracesOfPieces, PiecesAreAccepted}
use Rattle.column_pieces.proofs.Effects.{access_on, kernel_accesses_on}
use Rattle.column_pieces.proofs.Lines.{TellsNoColumns, plain_on, line_got, same_edges, same_number, same_never, verb_is, told}
use Rattle.column_pieces.proofs.Steps.{same_end}

-- the accesses of a verb on pieces
accesses_on : (r : ℕ → ℕ) (v : Verb) → verb_accesses (verb_on r v) ≡ map (access_on r) (verb_accesses v)
accesses_on r (Fill t s v) = refl
accesses_on r (Copy c t s) = refl
accesses_on r (Reduce op.Sum c t s) = refl
accesses_on r (Reduce op.Min c t s) = refl
accesses_on r (Reduce op.Max c t s) = refl
accesses_on r (Task k) = kernel_accesses_on r k
accesses_on r (Arrive p v w) = arrive_accesses p v w ∙ sym (ap (map (access_on r)) (arrive_accesses p v w))
accesses_on r (Acquire l true) = refl
accesses_on r (Acquire l false) = refl
accesses_on r v = refl

calls_on : TellsNoColumns call_accesses
calls_on = plain_on call_accesses [] (λ t s v. refl, λ c t s. refl, λ o c t s. refl, λ k. refl)

acquires_on : (l : ℕ) → TellsNoColumns (is_acquire_of l)
acquires_on l = plain_on (is_acquire_of l) false (λ t s v. refl, λ c t s. refl, λ o c t s. refl, λ k. refl)

releases_on : (q : ℕ) → TellsNoColumns (is_release_of q)
releases_on q = plain_on (is_release_of q) false (λ t s v. refl, λ c t s. refl, λ o c t s. refl, λ k. refl)

shared_on : TellsNoColumns is_shared
shared_on = plain_on is_shared false (λ t s v. refl, λ c t s. refl, λ o c t s. refl, λ k. refl)

phases_on : TellsNoColumns is_phase
phases_on = plain_on is_phase false (λ t s v. refl, λ c t s. refl, λ o c t s. refl, λ k. refl)

merges_on : TellsNoColumns is_merge_ignore
merges_on = plain_on is_merge_ignore false (λ t s v. refl, λ c t s. refl, λ o c t s. refl, λ k. refl)

module _ (g h : GraphValue) (cut : Cut) (c : IsCut g h cut) where
  passes : (test : Verb → Bool) → TellsNoColumns test → (i : ℕ) → line_passes test h i ≡ line_passes test g i
  passes test t i = told g h cut c test false t i

  acquire_on : (q l : ℕ) → Acquires g q l → Acquires h q l
  acquire_on q l a = passes (is_acquire_of l) (acquires_on l) q ∙ a

  acquire_back : (q l : ℕ) → Acquires h q l → Acquires g q l
  acquire_back q l a = sym (passes (is_acquire_of l) (acquires_on l) q) ∙ a

  release_on : (r q : ℕ) → Releases g r q → Releases h r q
  release_on r q a = passes (is_release_of q) (releases_on q) r ∙ a

  release_back : (r q : ℕ) → Releases h r q → Releases g r q
  release_back r q a = sym (passes (is_release_of q) (releases_on q) r) ∙ a

  same_shared : (q k : ℕ) → both_shared h q k ≡ both_shared g q k
  same_shared q k = ap (λ b. b && line_passes is_shared h k) (passes is_shared shared_on q) ∙ ap (λ b. line_passes is_shared g q && b) (passes is_shared shared_on k)

  path_on : (i j : ℕ) → HasPath g i j → HasPath h i j
  path_on i j p = subst (λ es. Path es i j) (sym (same_edges g h cut c)) p

  path_back : (i j : ℕ) → HasPath h i j → HasPath g i j
  path_back i j p = subst (λ es. Path es i j) (same_edges g h cut c) p

  -- TRACES
  lawful_back : (trace : List ℕ) → IsLawful h trace → IsLawful g trace
  lawful_back trace x = record {
    lists = record {
      ended = λ i. (
        λ k. ap is_ended (sym (same_end g h cut c i)) ∙ (x.lists.ended i).0 k,
        λ e. (x.lists.ended i).1 (ap is_ended (same_end g h cut c i) ∙ e),
      );
      once = x.lists.once;
      sources = λ e k t. x.lists.sources e (subst (λ es. Contains es e) (sym (same_edges g h cut c)) k) t;
    };
    sections = λ l q k a b n s d f. elim (x.sections l q k (acquire_on q l a) (acquire_on k l b) n (same_shared q k ∙ s) (same_end g h cut c q ∙ d) (same_end g h cut c k ∙ f)) [
      | inl r ↦ inl (r.0, release_back r.0 q r.1, r.2)
      | inr r ↦ inr (r.0, release_back r.0 k r.1, r.2)
    ];
  }

  -- RULES
  section_on : (l q i : ℕ) → Section g l q i → Section h l q i
  section_on l q i s = record { acquires = acquire_on q l s.acquires; entered = path_on q i s.entered; release = s.release; releases = release_on s.release q s.releases; left = path_on i s.release s.left }

  section_back : (l q i : ℕ) → Section h l q i → Section g l q i
  section_back l q i s = record { acquires = acquire_back q l s.acquires; entered = path_back q i s.entered; release = s.release; releases = release_back s.release q s.releases; left = path_back i s.release s.left }

  released_on : (i : ℕ) → ReleasedAt g i → ReleasedAt h i
  released_on i x l a = let r = x l (acquire_back i l a) in (r.0, release_on r.0 i r.1, path_on i r.0 r.2)

  sections_on : (i j : ℕ) → SectionAt g i j → SectionAt h i j
  sections_on i j x q r p = elim (x q (release_back i q r) (path_back j i p)) [
    | inl same ↦ inl same
    | inr (inl to) ↦ inr (inl (path_on j q to))
    | inr (inr from) ↦ inr (inr (path_on q j from.0, λ phase never. from.1 (sym (passes is_phase phases_on j) ∙ phase) (sym (same_never g h cut c j) ∙ never)))
  ]

  descends_on : (i j : ℕ) → DescendsAt g i j → DescendsAt h i j
  descends_on i j x l k s a = x l k (section_back l i j s) (acquire_back j k a)

  merges_alike : (list : List ℕ) → list_all (line_passes is_merge_ignore h) list ≡ list_all (line_passes is_merge_ignore g) list
  merges_alike list = ap (λ (f : ℕ → Bool). list_all f list) (λ i k. passes is_merge_ignore merges_on k i)

  release_fault_on : (i : ℕ) → ReleaseFaultAt g i → ReleaseFaultAt h i
  release_fault_on i x q l at r = by_line (slice_get g.lines i) refl
    where
      got : slice_get h.lines i ≡ option_map (λ (y : Line). line_on (cut.named (0 + i)) y) (slice_get g.lines i)
      got = ap (λ ls. slice_get ls i) c.lines ∙ line_got cut.named 0 g.lines i

      by_line : (o : Option Line) → slice_get g.lines i ≡ o → IsTrue (stands_on_merges h l.on)
      by_line None e = absurd (none-some l (sym (got ∙ ap (option_map (λ (y : Line). line_on (cut.named (0 + i)) y)) e) ∙ at))
      by_line (Some y) e =
          let same = same_Some _ l (sym (got ∙ ap (option_map (λ (y : Line). line_on (cut.named (0 + i)) y)) e) ∙ at) in
          let released : is_release_of q y.verb ≡ true = sym (releases_on q (cut.named (0 + i)) y.verb) ∙ (ap (λ (z : Line). is_release_of q z.verb) same ∙ r) in
          let stands : stands_on_merges g y.on ≡ true = x q y e released in
          subst (λ on. stands_on_merges h on ≡ true) (ap (λ (z : Line). z.on) same) (ap (λ b. nat_lt 0 (length y.on) && b) (merges_alike y.on) ∙ stands)

  -- ACCESSES
  -- a column of h and what it is in g: a piece and its column, or one column of data
  abbrev Stands : ℕ → ℕ → Type 0
  Stands x y = ((y < length (columns h)) × (cut.column y ≡ x)) ⊎ ((d : ℕ) × (y ≡ length (columns h) + d) × (x ≡ length (columns g) + d))

  one_column : (x x' y y' : ℕ) → Stands x y → Stands x' y' → y ≡ y' → x ≡ x'
  one_column x x' y y' (inl a) (inl b) e = sym a.1 ∙ (ap cut.column e ∙ b.1)
  one_column x x' y y' (inr a) (inr b) e = let p : y ≡ length (columns h) + a.0 = a.1 in let q : y' ≡ length (columns h) + b.0 = b.1 in let s : a.0 ≡ b.0 = omega arith in a.2 ∙ (ap (λ n. length (columns g) + n) s ∙ sym b.2)
  one_column x x' y y' (inl a) (inr b) e = let p : y < length (columns h) = a.0 in let q : y' ≡ length (columns h) + b.0 = b.1 in absurd (omega arith)
  one_column x x' y y' (inr a) (inl b) e = let p : y' < length (columns h) = b.0 in let q : y ≡ length (columns h) + a.0 = a.1 in absurd (omega arith)

  record Behind (i : ℕ) (a : Access) : Type 0 where
    access : Access
    listed : Contains (all_accesses g i) access
    column : Stands access.column a.column
    space : access.space ≡ a.space
    mode : access.mode ≡ a.mode

  verbs_by : (r : ℕ → ℕ) (o : Option Verb) → option_map_or verb_accesses (option_map (verb_on r) o) [] ≡ map (access_on r) (option_map_or verb_accesses o [])
  verbs_by r None = refl
  verbs_by r (Some v) = accesses_on r v

  accesses_are : (i : ℕ) → option_map_or verb_accesses (verb_at h i) [] ≡ map (access_on (cut.named i)) (option_map_or verb_accesses (verb_at g i) [])
  accesses_are i = ap (λ o. option_map_or verb_accesses o []) (verb_is g h cut c i) ∙ verbs_by (cut.named i) (verb_at g i)

  module _ (fits : IsGraph h) (format : h.format ≡ g.format) where
    behind : (i : ℕ) (a : Access) → Contains (all_accesses h i) a → Behind i a
    behind i a k = elim (Contains-append_cases (accesses h i) (map (behind_columns h) (option_map_or call_accesses (verb_at h i) [])) a k) [
      | inl one ↦ (
          let m = map_contains (in_format h.format) (option_map_or verb_accesses (verb_at h i) []) a one in
          let n = map_contains (access_on (cut.named i)) (option_map_or verb_accesses (verb_at g i) []) m.0 (subst (λ xs. Contains xs m.0) (accesses_are i) m.1) in
          let same : in_format h.format (access_on (cut.named i) n.0) ≡ a = ap (in_format h.format) n.2 ∙ m.2 in
          let fit = accesses_fit h i a fits one in
          record {
            access = in_format g.format n.0;
            listed = Contains-append_left (accesses g i) _ _ (contains_map (in_format g.format) (option_map_or verb_accesses (verb_at g i) []) n.0 n.1);
            column = inl (fit.column, ap cut.column (sym (ap (λ (z : Access). z.column) same)) ∙ c.use_of i n.0.column);
            space = ap (λ (z : Access). z.space) same;
            mode = ap (λ f. (in_format f n.0).mode) (sym format) ∙ ap (λ (z : Access). z.mode) same;
          })
      | inr other ↦ (
          let m = map_contains (behind_columns h) (option_map_or call_accesses (verb_at h i) []) a other in
          let there : Contains (option_map_or call_accesses (verb_at g i) []) m.0 = subst (λ xs. Contains xs m.0) (told g h cut c call_accesses [] calls_on i) m.1 in
          record {
            access = behind_columns g m.0;
            listed = Contains-append_right (accesses g i) _ _ (contains_map (behind_columns g) (option_map_or call_accesses (verb_at g i) []) m.0 there);
            column = inr (m.0.column, sym (ap (λ (z : Access). z.column) m.2), refl);
            space = ap (λ (z : Access). z.space) m.2;
            mode = ap (λ (z : Access). z.mode) m.2;
          })
    ]

    met : (i j : ℕ) (a b : Access) (x : Behind i a) (y : Behind j b) → AccessesConflict h a b → AccessesConflict g x.access y.access
    met i j a b x y k = record {
      column = one_column x.access.column y.access.column a.column b.column x.column y.column k.column;
      meet = subst (λ s. Meet s (space_at g y.access.space)) (ap (space_at h) (sym x.space) ∙ c.spaces i x.access x.listed)
          (subst (λ s. Meet (space_at h a.space) s) (ap (space_at h) (sym y.space) ∙ c.spaces j y.access y.listed) k.meet);
      clash = ap (λ m. modes_clash m y.access.mode) x.mode ∙ (ap (modes_clash a.mode) y.mode ∙ k.clash);
    }

    conflict_back : (i j : ℕ) → Conflict h i j → Conflict g i j
    conflict_back i j k =
        let x = behind i k.one k.one_in in
        let y = behind j k.other k.other_in in
        record { different = k.different; one = x.access; other = y.access; one_in = x.listed; other_in = y.listed; conflict = met i j k.one k.other x y k.conflict }

    exempt_on : (i j : ℕ) → Exempt g i j → Exempt h i j
    exempt_on i j x = record {
      commute = λ a b ha hb k.
          let one = behind i a ha in
          let other = behind j b hb in
          ap (λ m. modes_commute m b.mode) (sym one.mode) ∙ (ap (modes_commute one.access.mode) (sym other.mode) ∙ x.commute one.access other.access one.listed other.listed (met i j a b one other k));
      lock = x.lock;
      one = x.one;
      other = x.other;
      different = x.different;
      apart = same_shared x.one x.other ∙ x.apart;
      one_section = section_on x.lock x.one i x.one_section;
      other_section = section_on x.lock x.other j x.other_section;
    }

    race_on : (i j : ℕ) → RaceAt g i j → RaceAt h i j
    race_on i j x below k = elim (x below (conflict_back i j k)) [
      | inl p ↦ inl (path_on i j p)
      | inr (inl p) ↦ inr (inl (path_on j i p))
      | inr (inr e) ↦ inr (inr (exempt_on i j e))
    ]

    accepted_on : Accepted g → Accepted h
    accepted_on a = record {
      acyclic = λ i p. a.acyclic i (path_back i i p);
      released = λ i. released_on i (a.released i);
      sections = λ i j. sections_on i j (a.sections i j);
      descends = λ i j. descends_on i j (a.descends i j);
      release_faults = λ i. release_fault_on i (a.release_faults i);
      races = λ i j. race_on i j (a.races i j);
    }

  -- THE NEED
  places_on : (test : Verb → Bool) → TellsNoColumns test → (n m : ℕ) (ls : List Line) → places test n (lines_on cut.named m ls) ≡ places test n ls
  places_on test t n m [] = refl
  places_on test t n m (l ∷ ls) =
      ap (λ b. cond b (n ∷ places test (n + 1) (lines_on cut.named (m + 1) ls)) (places test (n + 1) (lines_on cut.named (m + 1) ls))) (t (cut.named m) l.verb)
      ∙ ap (λ xs. cond (test l.verb) (n ∷ xs) xs) (places_on test t (n + 1) (m + 1) ls)

  rivals_on : (r : ℕ → ℕ) (v : Verb) → rivals h (verb_on r v) ≡ rivals g v
  rivals_on r (Acquire l s) = ap (places (is_acquire_of l) 0) c.lines ∙ places_on (is_acquire_of l) (acquires_on l) 0 0 g.lines
  rivals_on r (Fill t s v) = refl
  rivals_on r (Copy x t s) = refl
  rivals_on r (Reduce o x t s) = refl
  rivals_on r (Task k) = refl
  rivals_on r v = refl

  rivals_by : (r : ℕ → ℕ) (o : Option Verb) → option_map_or (rivals h) (option_map (verb_on r) o) [] ≡ option_map_or (rivals g) o []
  rivals_by r None = refl
  rivals_by r (Some v) = rivals_on r v

  after_on : (r : ℕ → ℕ) (v : Verb) → acquires_after h (verb_on r v) ≡ acquires_after g v
  after_on r (Release q) = ap (λ o. option_map_or (rivals h) o []) (verb_is g h cut c q) ∙ rivals_by (cut.named q) (verb_at g q)
  after_on r (Fill t s v) = refl
  after_on r (Copy x t s) = refl
  after_on r (Reduce o x t s) = refl
  after_on r (Task k) = refl
  after_on r v = refl

  after_by : (r : ℕ → ℕ) (o : Option Verb) → option_map_or (acquires_after h) (option_map (verb_on r) o) [] ≡ option_map_or (acquires_after g) o []
  after_by r None = refl
  after_by r (Some v) = after_on r v

  need_edges_alike : need_edges h ≡ need_edges g
  need_edges_alike =
      ap (λ es. es ++ flat_map (λ r. map (λ k. edge r k Passes) (option_map_or (acquires_after h) (verb_at h r) [])) (numbers_below (length h.lines))) (same_edges g h cut c)
      ∙ (ap (λ n. edges g ++ flat_map (λ r. map (λ k. edge r k Passes) (option_map_or (acquires_after h) (verb_at h r) [])) (numbers_below n)) (same_number g h cut c)
      ∙ ap (λ (f : ℕ → List ℕ). edges g ++ flat_map (λ r. map (λ k. edge r k Passes) (f r)) (numbers_below (length g.lines)))
      (λ i r. (ap (λ o. option_map_or (acquires_after h) o []) (verb_is g h cut c r) ∙ after_by (cut.named r) (verb_at g r)) i))

  high_on : (i n : ℕ) → IsHigh g i n → IsHigh h i n
  high_on i n x = record {
    above = λ m p. x.above m (subst (λ es. Precedes es m i) need_edges_alike p);
    above_all = λ m p v. x.above_all m (subst (λ es. Precedes es m i) need_edges_alike p) (sym (same_never g h cut c m) ∙ v) ∙ ap (λ k. k + 1) (sym (same_number g h cut c));
    attained = (
      x.attained.0,
      subst (λ es. Precedes es x.attained.0 i) (sym need_edges_alike) x.attained.1,
      elim x.attained.2 [
        | inl e ↦ inl e
        | inr v ↦ inr (same_never g h cut c x.attained.0 ∙ v.0, v.1 ∙ ap (λ k. k + 1) (sym (same_number g h cut c)))
      ],
    );
  }

  need_on : (n : ℕ) → IsNeed g n → IsNeed h n
  need_on n x = record {
    highs = x.highs;
    each_line = x.each_line ∙ sym (same_number g h cut c);
    high = λ i b. high_on i _ (x.high i (subst (λ k. i < k) (same_number g h cut c) b));
    most = x.most ∙ ap (λ k. 1 + largest (map (open_at x.highs) (numbers_below k))) (sym (same_number g h cut c));
  }

pub traces_of_pieces : TracesOfPieces
traces_of_pieces g h cut trace c = lawful_back g h cut c trace

-- the graph in another format is cut alike
written : (f : Format) (g h : GraphValue) (cut : Cut) → IsCut g h cut → IsCut (written_in f g) h cut
written f g h cut c = record {
  lines = c.lines;
  barriers = c.barriers;
  spaces = λ i a k. let x = plain i a k in ap (space_at h) (sym x.2) ∙ (c.spaces i x.0 x.1 ∙ ap (space_at g) x.2);
  within = λ i a p k has.
      let m = map_contains (in_format f) (option_map_or verb_accesses (verb_at g i) []) a k in
      let there = contains_map (in_format g.format) (option_map_or verb_accesses (verb_at g i) []) m.0 m.1 in
      ap (λ (z : Access). cut.piece z.column p) (sym m.2)
      ∙ (c.within i (in_format g.format m.0) p there (subst (λ (z : Access). has_point (space_at g z.space) p ≡ true) (sym m.2) has)
      ∙ ap (λ (z : Access). cut.named i z.column) m.2);
  cell = c.cell;
  use_of = c.use_of;
  has = c.has;
}
  where
    plain : (i : ℕ) (a : Access) → Contains (all_accesses (written_in f g) i) a → (x : Access) × Contains (all_accesses g i) x × (x.space ≡ a.space)
    plain i a k = elim (Contains-append_cases (accesses (written_in f g) i) (map (behind_columns g) (option_map_or call_accesses (verb_at g i) [])) a k) [
      | inl one ↦ (
          let m = map_contains (in_format f) (option_map_or verb_accesses (verb_at g i) []) a one in
          (in_format g.format m.0, Contains-append_left (accesses g i) _ _ (contains_map (in_format g.format) (option_map_or verb_accesses (verb_at g i) []) m.0 m.1), ap (λ (z : Access). z.space) m.2))
      | inr other ↦ (a, Contains-append_right (accesses g i) _ _ other, refl)
    ]

pub pieces_are_accepted : LaterFormatsKeepMeaning → PiecesAreAccepted
pieces_are_accepted later g h cut fits since c =
    let keeps = later h.format g since in
    let d = written h.format g h cut c in
    (λ a. accepted_on (written_in h.format g) h cut d fits refl (keeps.0 a), λ n x. need_on (written_in h.format g) h cut d n (keeps.1 n x))
