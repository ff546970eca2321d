-- A graph in a later format with the declarations and lines of another: where that one is accepted, it is too, with the same need and the same outcome.
use Rattle.std.proofs.Common.{◌≡◌, ℕ, zero, suc, Bool, true, false, cond, not, ◌&&◌, inl, inr, List, [], ◌++◌, length, map, refl, sym, ◌∙◌, ap, subst}
use Rattle.std.specs.Prelude.{Contains, Option, Some, None, find, flat_map}
use Rattle.std.specs.Option.{option_map_or}
use Rattle.std.specs.List.{list_all}
use Rattle.std.proofs.lemmas.Bool.{true≢false}
use Rattle.std.proofs.lemmas.List.Elements.{Contains-append_left, Contains-append_right, Contains-append_cases}
use Rattle.basics.specs.Lists.{numbers_below}
use Rattle.basics.proofs.ListFacts.{map_contains, contains_map}
use Rattle.index_spaces.specs.Column.{ColumnValue}
use Rattle.graph_terms.specs.declared.format.Format.{Format}
use Rattle.graph_terms.specs.declared.format.Format.TheVariants.{One, Two, Three}
use Rattle.graph_terms.specs.declared.verb.Access.{Access}
use Rattle.graph_terms.specs.declared.verb.EdgeKind.TheVariants.{Passes}
use Rattle.graph_terms.specs.declared.verb.Mode.{Mode}
use Rattle.graph_terms.specs.declared.verb.Mode.TheVariants.{Read, Write, Sum, Least, Most}
use Rattle.graph_terms.specs.declared.verb.Verb.{Verb}
use Rattle.graph_terms.specs.declared.verb.Verb.TheVariants.{User, Phase, Acquire, Release}
use Rattle.graph_terms.specs.declared.outcome.Answer.{Answer}
use Rattle.graph_terms.specs.declared.outcome.End.{End}
use Rattle.graph_terms.specs.declared.outcome.End.TheVariants.{Done}
use Rattle.graph_terms.specs.declared.outcome.Outcome.{Outcome}
use Rattle.graph_terms.specs.Format.{has_since}
use Rattle.graph_terms.specs.Graph.{GraphValue, written_in, upgraded_format, verb_at, never_comes, never_comes_as, columns}
use Rattle.graph_terms.specs.Edges.{edges, sources, edge}
use Rattle.graph_terms.specs.Access.{verb_accesses, call_accesses, behind_columns, in_format, or_write, mode_in, accesses, all_accesses, is_read, is_reduction, modes_clash, AccessesConflict, Conflict}
use Rattle.graph_meaning.specs.Rules.{Section, modes_commute, Exempt, SectionAt, RaceAt, Accepted}
use Rattle.graph_meaning.specs.Need.{rivals, acquires_after, need_edges, Precedes, IsHigh, IsNeed}
use Rattle.graph_meaning.specs.Evaluation.{Step, end_in, answer_of, has_ended, cells_of, is_ready, lowest_ready, advance_by, advance, steps_after, evaluation, eval_end, column_of, phase_value_by, phase_value, outcome}
use Rattle.graph_meaning.specs.Laws.{UpgradeKeepsMeaning, LaterFormatsKeepMeaning}
use Rattle.graph_meaning.proofs.Races.{commute_parts}

-- what conflicts in one format conflicts in each
read_or_write : (f : Format) (m : Mode) → is_read m ≡ false → is_read (or_write f m) ≡ false
read_or_write One m h = refl
read_or_write f m h = h

read_in : (f : Format) (m : Mode) → is_read (mode_in f m) ≡ is_read m
read_in f Read = refl
read_in f Write = refl
read_in f Sum = refl
read_in f Least = read_or_write f Least refl
read_in f Most = read_or_write f Most refl

clash_is : (m n : Mode) → modes_clash m n ≡ not (is_read m && is_read n)
clash_is Read Read = refl
clash_is Read Write = refl
clash_is Read Sum = refl
clash_is Read Least = refl
clash_is Read Most = refl
clash_is m n = refl

-- a mode as a format takes it, where it is of a column with cells, and as it is, where it is of data
mode_by : Bool → Format → Mode → Mode
mode_by true f m = m
mode_by false f m = mode_in f m

read_by : (b : Bool) (f h : Format) (m : Mode) → is_read (mode_by b f m) ≡ is_read (mode_by b h m)
unfolding mode_by
read_by true f h m = refl
read_by false f h m = read_in f m ∙ sym (read_in h m)

clash_in : (b d : Bool) (f h : Format) (m n : Mode) → modes_clash (mode_by b f m) (mode_by d f n) ≡ modes_clash (mode_by b h m) (mode_by d h n)
clash_in b d f h m n =
    clash_is (mode_by b f m) (mode_by d f n)
    ∙ (ap (λ x. not (x && is_read (mode_by d f n))) (read_by b f h m)
    ∙ (ap (λ x. not (is_read (mode_by b h m) && x)) (read_by d f h n)
    ∙ sym (clash_is (mode_by b h m) (mode_by d h n))))

-- a format that has reductions takes each mode as it is
as_it_is : (f : Format) → has_since Two f ≡ true → (m : Mode) → mode_in f m ≡ m
as_it_is One since m = absurd (true≢false (sym since))
as_it_is f since Read = refl
as_it_is f since Write = refl
as_it_is f since Sum = refl
as_it_is Two since m = refl
as_it_is Three since m = refl

-- what reduces in a format does so in a later one
reduces_one : (f : Format) (m : Mode) → is_reduction (mode_in One m) ≡ true → mode_in f m ≡ mode_in One m
reduces_one f Sum h = refl
reduces_one f m h = absurd (true≢false (sym h))

reduces_in : (e f : Format) (m : Mode) → has_since e f ≡ true → is_reduction (mode_in e m) ≡ true → mode_in f m ≡ mode_in e m
reduces_in One f m since h = reduces_one f m h
reduces_in Two f m since h = as_it_is f since m ∙ sym (as_it_is Two refl m)
reduces_in Three One m since h = absurd (true≢false (sym since))
reduces_in Three Two m since h = absurd (true≢false (sym since))
reduces_in Three Three m since h = refl

reduces_by : (b : Bool) (e f : Format) (m : Mode) → has_since e f ≡ true → is_reduction (mode_by b e m) ≡ true → mode_by b f m ≡ mode_by b e m
unfolding mode_by
reduces_by true e f m since h = refl
reduces_by false e f m since h = reduces_in e f m since h

-- what commutes in a format commutes in a later one
commute_in : (b d : Bool) (e f : Format) (m n : Mode) → has_since e f ≡ true → modes_commute (mode_by b e m) (mode_by d e n) ≡ true → modes_commute (mode_by b f m) (mode_by d f n) ≡ true
commute_in b d e f m n since h =
    let parts = commute_parts (mode_by b e m) (mode_by d e n) h in
    ap (λ x. modes_commute x (mode_by d f n)) (reduces_by b e f m since parts.0)
    ∙ (ap (λ x. modes_commute (mode_by b e m) x) (reduces_by d e f n since (ap is_reduction (sym parts.1) ∙ parts.0)) ∙ h)

-- THE SAME GRAPH IN ANOTHER FORMAT
module _ (f : Format) where
  -- the same lines never come
  never_by : (g : GraphValue) (i : ℕ) (o : Option Verb) → option_map_or (never_comes_as (written_in f g) i) o false ≡ option_map_or (never_comes_as g i) o false
  never_by g i None = refl
  never_by g i (Some User) = refl
  never_by g i (Some v) = refl

  never_alike : (g : GraphValue) (i : ℕ) → never_comes (written_in f g) i ≡ never_comes g i
  never_alike g i = never_by g i (verb_at g i)

  -- the evaluation is the same, step by step
  ready_alike : (g : GraphValue) (ss : List Step) (i : ℕ) → is_ready (written_in f g) ss i ≡ is_ready g ss i
  ready_alike g ss i = ap (λ b. not (has_ended ss i) && (not b && list_all (has_ended ss) (sources g i))) (never_alike g i)

  lowest_alike : (g : GraphValue) (ss : List Step) → lowest_ready (written_in f g) ss ≡ lowest_ready g ss
  lowest_alike g ss = ap (λ (t : ℕ → Bool). find t (numbers_below (length g.lines))) (λ i k. ready_alike g ss k i)

  advance_by_alike : (g : GraphValue) (ss : List Step) (o : Option ℕ) → advance_by (written_in f g) ss o ≡ advance_by g ss o
  advance_by_alike g ss None = refl
  advance_by_alike g ss (Some i) = refl

  advance_alike : (g : GraphValue) (ss : List Step) → advance (written_in f g) ss ≡ advance g ss
  advance_alike g ss = advance_by_alike g ss (lowest_ready (written_in f g) ss) ∙ ap (advance_by g ss) (lowest_alike g ss)

  steps_alike : (g : GraphValue) (n : ℕ) → steps_after (written_in f g) n ≡ steps_after g n
  steps_alike g zero = refl
  steps_alike g (suc n) = advance_alike g (steps_after (written_in f g) n) ∙ ap (advance g) (steps_alike g n)

  evaluation_alike : (g : GraphValue) → evaluation (written_in f g) ≡ evaluation g
  evaluation_alike g = steps_alike g (length g.lines)

  phase_by : (g : GraphValue) (p : ℕ) (e : End) (o : Option Verb) → phase_value_by (written_in f g) p e o ≡ phase_value_by g p e o
  phase_by g p Done (Some (Phase b)) = refl
  phase_by g p e o = refl

  phase_alike : (g : GraphValue) (p : ℕ) → phase_value (written_in f g) p ≡ phase_value g p
  phase_alike g p = phase_by g p (eval_end (written_in f g) p) (verb_at g p) ∙ ap (λ ss. phase_value_by g p (end_in ss p) (verb_at g p)) (evaluation_alike g)

  abbrev given : List End → List Answer → List (Option ℕ) → List ColumnValue → List ℕ → Outcome
  given e a p c t = record { ends = e; answers = a; phases = p; columns = c; trace = t }

  same_outcome : (e e' : List End) (a a' : List Answer) (p p' : List (Option ℕ)) (c c' : List ColumnValue) (t : List ℕ) → e ≡ e' → a ≡ a' → p ≡ p' → c ≡ c' → given e a p c t ≡ given e' a' p' c' t
  same_outcome e e' a a' p p' c c' t q r s u = cc

  outcome_alike : (g : GraphValue) (trace : List ℕ) → outcome (written_in f g) trace ≡ outcome g trace
  outcome_alike g trace =
      let lines : List ℕ = numbers_below (length g.lines) in
      same_outcome _ _ _ _ _ _ _ _ trace
      (ap (λ ss. map (end_in ss) lines) (evaluation_alike g))
      (ap (λ ss. map (λ i. answer_of (end_in ss i)) lines) (evaluation_alike g))
      (ap (λ (f : ℕ → Option ℕ). map f lines) (λ i p. phase_alike g p i))
      (ap (λ ss. map (column_of g (cells_of ss)) (numbers_below (length (columns g)))) (evaluation_alike g))

  -- an access of a line as a format takes it, where it is of a column with cells; one of data is the same in each format
  access_by : Bool → Format → GraphValue → Access → Access
  access_by b h g x = record { column = cond b (behind_columns g x).column x.column; space = x.space; mode = mode_by b h x.mode }

  conflict_in : (g : GraphValue) (b d : Bool) (x y : Access) → AccessesConflict (written_in f g) (access_by b f g x) (access_by d f g y) → AccessesConflict g (access_by b g.format g x) (access_by d g.format g y)
  unfolding access_by
  conflict_in g b d x y c = record { column = c.column; meet = c.meet; clash = clash_in b d g.format f x.mode y.mode ∙ c.clash }

  -- the accesses of a line before formats, and which of them are of data
  plain : GraphValue → ℕ → Bool → List Access
  plain g i true = option_map_or call_accesses (verb_at g i) []
  plain g i false = option_map_or verb_accesses (verb_at g i) []

  -- what stands behind an access of the graph as it is written
  abbrev Behind : GraphValue → ℕ → Access → Type 0
  Behind g i a = (b : Bool) × (x : Access) × Contains (plain g i b) x × (access_by b f g x ≡ a)

  behind : (g : GraphValue) (i : ℕ) (a : Access) → Contains (all_accesses (written_in f g) i) a → Behind g i a
  unfolding plain access_by mode_by
  behind g i a c = elim (Contains-append_cases (accesses (written_in f g) i) (map (behind_columns g) (option_map_or call_accesses (verb_at g i) [])) a c) [
    | inl one ↦ (let m = map_contains (in_format f) (option_map_or verb_accesses (verb_at g i) []) a one in (false, m.0, m.1, m.2))
    | inr other ↦ (let m = map_contains (behind_columns g) (option_map_or call_accesses (verb_at g i) []) a other in (true, m.0, m.1, m.2))
  ]

  before : (g : GraphValue) (i : ℕ) (b : Bool) (x : Access) → Contains (plain g i b) x → Contains (all_accesses g i) (access_by b g.format g x)
  unfolding plain access_by mode_by
  before g i true x c = Contains-append_right (accesses g i) (map (behind_columns g) (option_map_or call_accesses (verb_at g i) [])) _
      (contains_map (behind_columns g) (option_map_or call_accesses (verb_at g i) []) x c)
  before g i false x c = Contains-append_left (accesses g i) (map (behind_columns g) (option_map_or call_accesses (verb_at g i) [])) _
      (contains_map (in_format g.format) (option_map_or verb_accesses (verb_at g i) []) x c)

  -- two accesses of the graph as it is written are those of the other one
  at_both : (g : GraphValue) (a b x y : Access) → x ≡ a → y ≡ b → AccessesConflict (written_in f g) a b → AccessesConflict (written_in f g) x y
  at_both g a b x y p q c = subst (λ z. AccessesConflict (written_in f g) z y) (sym p) (subst (λ z. AccessesConflict (written_in f g) a z) (sym q) c)

  -- so two that conflict do so in the other one
  met : (g : GraphValue) (i j : ℕ) (a b : Access) (one : Behind g i a) (other : Behind g j b) → AccessesConflict (written_in f g) a b →
      AccessesConflict g (access_by one.0 g.format g one.1) (access_by other.0 g.format g other.1)
  met g i j a b one other c = conflict_in g one.0 other.0 one.1 other.1 (at_both g a b (access_by one.0 f g one.1) (access_by other.0 f g other.1) one.3 other.3 c)

  conflict_back : (g : GraphValue) (i j : ℕ) → Conflict (written_in f g) i j → Conflict g i j
  conflict_back g i j c =
      let one = behind g i c.one c.one_in in
      let other = behind g j c.other c.other_in in
      record {
        different = c.different;
        one = access_by one.0 g.format g one.1;
        other = access_by other.0 g.format g other.1;
        one_in = before g i one.0 one.1 one.2;
        other_in = before g j other.0 other.1 other.2;
        conflict = met g i j c.one c.other one other c.conflict;
      }

  commute_on : (g : GraphValue) (i j : ℕ) → has_since g.format f ≡ true → (a b : Access) (one : Behind g i a) (other : Behind g j b) →
      modes_commute (access_by one.0 g.format g one.1).mode (access_by other.0 g.format g other.1).mode ≡ true → modes_commute a.mode b.mode ≡ true
  unfolding access_by
  commute_on g i j since a b one other h =
      let both : modes_commute (mode_by one.0 f one.1.mode) (mode_by other.0 f other.1.mode) ≡ true = commute_in one.0 other.0 g.format f one.1.mode other.1.mode since h in
      subst (λ (z : Access). modes_commute z.mode b.mode ≡ true) one.3 (subst (λ (z : Access). modes_commute (mode_by one.0 f one.1.mode) z.mode ≡ true) other.3 both)

  section_on : (g : GraphValue) (l q i : ℕ) → Section g l q i → Section (written_in f g) l q i
  section_on g l q i s = record { acquires = s.acquires; entered = s.entered; release = s.release; releases = s.releases; left = s.left }

  section_back : (g : GraphValue) (l q i : ℕ) → Section (written_in f g) l q i → Section g l q i
  section_back g l q i s = record { acquires = s.acquires; entered = s.entered; release = s.release; releases = s.releases; left = s.left }

  exempt_on : (g : GraphValue) (i j : ℕ) → has_since g.format f ≡ true → Exempt g i j → Exempt (written_in f g) i j
  exempt_on g i j since x = record {
    commute = λ a b ha hb c.
        let one = behind g i a ha in
        let other = behind g j b hb in
        commute_on g i j since a b one other (x.commute (access_by one.0 g.format g one.1) (access_by other.0 g.format g other.1)
        (before g i one.0 one.1 one.2) (before g j other.0 other.1 other.2) (met g i j a b one other c));
    lock = x.lock;
    one = x.one;
    other = x.other;
    different = x.different;
    apart = x.apart;
    one_section = section_on g x.lock x.one i x.one_section;
    other_section = section_on g x.lock x.other j x.other_section;
  }

  section_rule : (g : GraphValue) (i j : ℕ) → SectionAt g i j → SectionAt (written_in f g) i j
  section_rule g i j h q r p = elim (h q r p) [
    | inl same ↦ inl same
    | inr (inl to) ↦ inr (inl to)
    | inr (inr from) ↦ inr (inr (from.0, λ phase never. from.1 phase (sym (never_alike g j) ∙ never)))
  ]

  race_rule : (g : GraphValue) (i j : ℕ) → has_since g.format f ≡ true → RaceAt g i j → RaceAt (written_in f g) i j
  race_rule g i j since h below c = elim (h below (conflict_back g i j c)) [
    | inl p ↦ inl p
    | inr (inl p) ↦ inr (inl p)
    | inr (inr x) ↦ inr (inr (exempt_on g i j since x))
  ]

  accepted_on : (g : GraphValue) → has_since g.format f ≡ true → Accepted g → Accepted (written_in f g)
  accepted_on g since a = record {
    acyclic = a.acyclic;
    released = a.released;
    sections = λ i j. section_rule g i j (a.sections i j);
    descends = λ i j l k s q. a.descends i j l k (section_back g l i j s) q;
    release_faults = a.release_faults;
    races = λ i j. race_rule g i j since (a.races i j);
  }

  -- the edges that the need counts
  rivals_alike : (g : GraphValue) → rivals (written_in f g) ≡ rivals g
  rivals_alike g = λ i v. each v i
    where
      each : (v : Verb) → rivals (written_in f g) v ≡ rivals g v
      each (Acquire l s) = refl
      each v = refl

  acquires_alike : (g : GraphValue) → acquires_after (written_in f g) ≡ acquires_after g
  acquires_alike g = λ i v. each v i
    where
      each : (v : Verb) → acquires_after (written_in f g) v ≡ acquires_after g v
      each (Release q) = ap (λ (f : Verb → List ℕ). option_map_or f (verb_at g q) []) (rivals_alike g)
      each v = refl

  need_edges_alike : (g : GraphValue) → need_edges (written_in f g) ≡ need_edges g
  need_edges_alike g =
      ap (λ (f : Verb → List ℕ). edges g ++ flat_map (λ r. map (λ k. edge r k Passes) (option_map_or f (verb_at g r) [])) (numbers_below (length g.lines))) (acquires_alike g)

  high_on : (g : GraphValue) (i h : ℕ) → IsHigh g i h → IsHigh (written_in f g) i h
  high_on g i h x =
      let same = need_edges_alike g in
      record {
        above = λ m p. x.above m (subst (λ es. Precedes es m i) same p);
        above_all = λ m p n. x.above_all m (subst (λ es. Precedes es m i) same p) (sym (never_alike g m) ∙ n);
        attained = (
          x.attained.0,
          subst (λ es. Precedes es x.attained.0 i) (sym same) x.attained.1,
          elim x.attained.2 [
            | inl e ↦ inl e
            | inr n ↦ inr (never_alike g x.attained.0 ∙ n.0, n.1)
          ],
        );
      }

  need_on : (g : GraphValue) (n : ℕ) → IsNeed g n → IsNeed (written_in f g) n
  need_on g n h = record { highs = h.highs; each_line = h.each_line; high = λ i b. high_on g i _ (h.high i b); most = h.most }

pub later_formats_keep_meaning : LaterFormatsKeepMeaning
later_formats_keep_meaning f g since = (accepted_on f g since, need_on f g, outcome_alike f g)

-- an upgrade is to no earlier format
no_earlier : (f : Format) → has_since f (upgraded_format f) ≡ true
no_earlier One = refl
no_earlier Two = refl
no_earlier Three = refl

pub upgrade_keeps_meaning : UpgradeKeepsMeaning
upgrade_keeps_meaning g = later_formats_keep_meaning (upgraded_format g.format) g (no_earlier g.format)
