-- What bits are passed on, line by line.
use Rattle.std.proofs.Common.{◌≡◌, ℕ, ◌+◌, ◌<◌, ◌≤◌, ◌*◌, ◌%◌, ◌^◌, true, inl, inr, List, length, refl, sym, ◌∙◌, ap, subst, arith}
use Rattle.std.specs.Prelude.{Contains, slice_index, slice_set, ◌⊎◌, Vec}
use Rattle.std.specs.Global.{Global}
use Rattle.std.specs.Int.RustNames.{bit_or}
use Rattle.std.proofs.lemmas.Bool.{cases_eq, cases_lt, or_cases}
use Rattle.std.proofs.lemmas.List.{length-set, get_or-set_same, get_or-set_other, get_or_past}
use Rattle.graph_terms.specs.declared.verb.Edge.{Edge}
use Rattle.graph_terms.specs.Graph.{GraphValue}
use Rattle.graph_terms.specs.Edges.{edges}
use Rattle.graph_meaning.specs.Path.{HasPath, last, first}
use Rattle.graph_meaning.proofs.Public.{path_snoc}
use Rattle.sweep_base.specs.Bits.{bit_in}
use Rattle.sweep_base.proofs.Public.{bit_in-or, or_old, or_new, shifted_same, shifted_is}
use Rattle.sweep_base.proofs.Public.{none_left}
use Rattle.section_sweeps.specs.declared.passing.Passing.{Passing}
use Rattle.section_sweeps.specs.Table.{ArePlaced, AreForward}
use Rattle.section_sweeps.specs.Passing.{HasBit, HasEither, HaveNone, AreWithin, IsFromSources, IsFromTargets, AreFromBefore, AreFromBehind, AreSourcesFrom}
use Rattle.section_sweeps.proofs.Placing.{path_later, line_at}

-- a word of its own or one that was passed
pub either_cases : (own passed : List ℕ) (i b : ℕ) → HasEither own passed i b → HasBit own i b ⊎ HasBit passed i b
either_cases own passed i b h = or_cases (bit_in (slice_index own i) b) (bit_in (slice_index passed i) b) (sym (bit_in-or (slice_index own i) (slice_index passed i) b) ∙ h)

pub either_own : (own passed : List ℕ) (i b : ℕ) → HasBit own i b → HasEither own passed i b
either_own own passed i b h = or_old (slice_index own i) (slice_index passed i) b h

pub either_passed : (own passed : List ℕ) (i b : ℕ) → HasBit passed i b → HasEither own passed i b
either_passed own passed i b h = or_new (slice_index own i) (slice_index passed i) b h

pub or_split : (x y b : ℕ) → bit_in (bit_or x y) b ≡ true → (bit_in x b ≡ true) ⊎ (bit_in y b ≡ true)
or_split x y b h = or_cases (bit_in x b) (bit_in y b) (sym (bit_in-or x y b) ∙ h)

-- one word set
pub set_here : (words : List ℕ) (i word b : ℕ) → i < length words → bit_in word b ≡ true → HasBit (slice_set words i word) i b
set_here words i word b small h = ap (λ z. bit_in z b) (get_or-set_same words i word 0 small) ∙ h

pub set_elsewhere : (words : List ℕ) (i k word b : ℕ) → (k ≡ i → ⊥) → HasBit words k b → HasBit (slice_set words i word) k b
set_elsewhere words i k word b apart h = ap (λ z. bit_in z b) (get_or-set_other words i k word 0 apart) ∙ h

pub set_back : (words : List ℕ) (i k word b : ℕ) → (k ≡ i → ⊥) → HasBit (slice_set words i word) k b → HasBit words k b
set_back words i k word b apart h = ap (λ z. bit_in z b) (sym (get_or-set_other words i k word 0 apart)) ∙ h

pub set_word : (words : List ℕ) (i word b : ℕ) → i < length words → HasBit (slice_set words i word) i b → bit_in word b ≡ true
set_word words i word b small h = ap (λ z. bit_in z b) (sym (get_or-set_same words i word 0 small)) ∙ h

pub set_cases : (words : List ℕ) (i k word b : ℕ) → i < length words → HasBit (slice_set words i word) k b → ((k ≡ i) × (bit_in word b ≡ true)) ⊎ HasBit words k b
set_cases words i k word b small h = elim (cases_eq k i) [
  | inl same ↦ inl (same, set_word words i word b small (subst (λ z. HasBit (slice_set words i word) z b) same h))
  | inr apart ↦ inr (set_back words i k word b apart h)
]

-- the same beside a line's own bits
pub either_elsewhere : (own words : List ℕ) (i k word b : ℕ) → (k ≡ i → ⊥) → HasEither own words k b → HasEither own (slice_set words i word) k b
either_elsewhere own words i k word b apart h = elim (either_cases own words k b h) [
  | inl o ↦ either_own own (slice_set words i word) k b o
  | inr p ↦ either_passed own (slice_set words i word) k b (set_elsewhere words i k word b apart p)
]

pub either_back : (own words : List ℕ) (i k word b : ℕ) → (k ≡ i → ⊥) → HasEither own (slice_set words i word) k b → HasEither own words k b
either_back own words i k word b apart h = elim (either_cases own (slice_set words i word) k b h) [
  | inl o ↦ either_own own words k b o
  | inr p ↦ either_passed own words k b (set_back words i k word b apart p)
]

-- an own bit more
pub given_cases : (words : List ℕ) (i m k b : ℕ) → i < length words → m < 64 → HasBit (slice_set words i (bit_or (slice_index words i) (1 * 2 ^ m % 2 ^ 64))) k b → HasBit words k b ⊎ ((k ≡ i) × (b ≡ m))
given_cases words i m k b small few h = elim (set_cases words i k (bit_or (slice_index words i) (1 * 2 ^ m % 2 ^ 64)) b small h) [
  | inr old ↦ inl old
  | inl new ↦ elim (or_cases (bit_in (slice_index words i) b) (bit_in (1 * 2 ^ m % 2 ^ 64) b) (sym (bit_in-or (slice_index words i) (1 * 2 ^ m % 2 ^ 64) b) ∙ new.1)) [
    | inl old ↦ inl (subst (λ z. HasBit words z b) (sym new.0) old)
    | inr bit ↦ inr (new.0, shifted_is m b few bit)
  ]
]

pub given_old : (words : List ℕ) (i m k b : ℕ) → i < length words → HasBit words k b → HasBit (slice_set words i (bit_or (slice_index words i) (1 * 2 ^ m % 2 ^ 64))) k b
given_old words i m k b small h = elim (cases_eq k i) [
  | inl same ↦ subst (λ z. HasBit (slice_set words i (bit_or (slice_index words i) (1 * 2 ^ m % 2 ^ 64))) z b) (sym same) (set_here words i (bit_or (slice_index words i) (1 * 2 ^ m % 2 ^ 64)) b small (or_old (slice_index words i) (1 * 2 ^ m % 2 ^ 64) b (subst (λ z. HasBit words z b) same h)))
  | inr apart ↦ set_elsewhere words i k (bit_or (slice_index words i) (1 * 2 ^ m % 2 ^ 64)) b apart h
]

pub given_new : (words : List ℕ) (i m : ℕ) → i < length words → m < 64 → HasBit (slice_set words i (bit_or (slice_index words i) (1 * 2 ^ m % 2 ^ 64))) i m
given_new words i m small few = set_here words i (bit_or (slice_index words i) (1 * 2 ^ m % 2 ^ 64)) m small (or_new (slice_index words i) (1 * 2 ^ m % 2 ^ 64) m (shifted_same m few))

-- clearing, place by place
pub cleared_more : (n : ℕ) (lines places words : List ℕ) (x high : ℕ) → ArePlaced n lines places → x < n → length words ≡ n → AreWithin places words x high → AreWithin places (slice_set words (slice_index lines x) 0) (x + 1) high
cleared_more n lines places words x high p h size w i b bit =
    let known = p.line x h in
    elim (set_cases words (slice_index lines x) i 0 b (omega (arith, known.0)) bit) [
      | inl new ↦ absurd (none_left 0 b refl new.1)
      | inr old ↦ (
          let k = w i b old in
          let apart : (slice_index places i ≡ x) → ⊥ = λ e. elim (cases_lt i n) [
            | inl low ↦ (let same : i ≡ slice_index lines x = sym (line_at n lines places p i x low e) in none_left 0 b refl (set_word words (slice_index lines x) 0 b (omega (arith, known.0)) (subst (λ z. HasBit (slice_set words (slice_index lines x) 0) z b) same bit)))
            | inr up ↦ none_left (slice_index words i) b (get_or_past words i 0 (omega arith)) old
          ] in
          (omega (arith, k.0, apart), k.1))
    ]

pub cleared_all : (places words : List ℕ) (x high : ℕ) → high ≤ x → AreWithin places words x high → HaveNone words
cleared_all places words x high h w i b bit = let k = w i b bit in absurd (omega (arith, h, k.0, k.1))

-- lines before place x were passed all bits of their sources
abbrev pub AreUpTo : GraphValue → List ℕ → List ℕ → List ℕ → ℕ → Type 0
AreUpTo g places own words x = (e : Edge) (b : ℕ) → Contains (edges g) e → slice_index places e.to < x → HasEither own words e.from b → HasBit words e.to b

-- lines from place x on were passed all bits of the lines that their edges lead to
abbrev pub AreDownTo : GraphValue → List ℕ → List ℕ → List ℕ → ℕ → Type 0
AreDownTo g places own words x = (e : Edge) (b : ℕ) → Contains (edges g) e → x ≤ slice_index places e.from → HasEither own words e.to b → HasBit words e.from b

module _ (g : GraphValue) (lines places : List ℕ) (p : ArePlaced (length g.lines) lines places) (f : AreForward g places) where
  -- each line of an edge lies elsewhere than a line at another place
  elsewhere : (i x : ℕ) → x < length g.lines → (slice_index places i ≡ x → ⊥) → (i ≡ slice_index lines x → ⊥)
  elsewhere i x h apart e = apart (ap (slice_index places) e ∙ (p.line x h).1)

  here : (i x : ℕ) → i < length g.lines → slice_index places i ≡ x → i ≡ slice_index lines x
  here i x h e = sym (line_at (length g.lines) lines places p i x h e)

  pub up_begins : (own words : List ℕ) (low : ℕ) → ((i b : ℕ) → HasBit own i b → low ≤ slice_index places i) → HaveNone words → AreUpTo g places own words low
  up_begins own words low begins none e b c before h = elim (either_cases own words e.from b h) [
    | inl o ↦ (let a : low ≤ slice_index places e.from = begins e.from b o in let l : slice_index places e.from < slice_index places e.to = f.later e c in absurd (omega arith))
    | inr q ↦ absurd (none e.from b q)
  ]

  module _ (own words : List ℕ) (x word : ℕ) (low : x < length g.lines) (size : length words ≡ length g.lines) where
    small : slice_index lines x < length words
    small = let k = (p.line x low).0 in omega arith

    pub up_more : IsFromSources g own words (slice_index lines x) word → AreUpTo g places own words x → AreUpTo g places own (slice_set words (slice_index lines x) word) (x + 1)
    up_more w before e b c at h =
        let l : slice_index places e.from < slice_index places e.to = f.later e c in
        let old : HasEither own words e.from b = either_back own words (slice_index lines x) e.from word b (elsewhere e.from x low (λ same. absurd (omega arith))) h in
        elim (cases_eq (slice_index places e.to) x) [
          | inl same ↦ (
              let to : e.to ≡ slice_index lines x = here e.to x (f.known e c).1 same in
              subst (λ z. HasBit (slice_set words (slice_index lines x) word) z b) (sym to) (set_here words (slice_index lines x) word b small (w.all e b c to old)))
          | inr apart ↦ set_elsewhere words (slice_index lines x) e.to word b (elsewhere e.to x low apart) (before e b c (omega (arith, apart)) old)
        ]

    pub up_is : IsFromSources g own words (slice_index lines x) word → AreFromBefore g own words → AreFromBefore g own (slice_set words (slice_index lines x) word)
    up_is w before i b h = elim (set_cases words (slice_index lines x) i word b small h) [
      | inr old ↦ before i b old
      | inl new ↦ (
          let s = w.is b new.1 in
          let e = s.0 in
          let to : e.to ≡ i = s.2 ∙ sym new.0 in
          elim (either_cases own words e.from b s.3) [
            | inl o ↦ (e.from, o, last e s.1 refl to)
            | inr q ↦ (let k = before e.from b q in (k.0, k.1, subst (λ z. HasPath g k.0 z) to (path_snoc e s.1 k.2)))
          ])
    ]

    pub within_more : (from to : ℕ) → from ≤ x → x < to → AreWithin places words from to → AreWithin places (slice_set words (slice_index lines x) word) from to
    within_more from to a b w i k h = elim (set_cases words (slice_index lines x) i word k small h) [
      | inr old ↦ w i k old
      | inl new ↦ (let at : slice_index places i ≡ x = ap (slice_index places) new.0 ∙ (p.line x low).1 in (omega arith, omega arith))
    ]

    pub down_more : IsFromTargets g own words (slice_index lines x) word → AreDownTo g places own words (x + 1) → AreDownTo g places own (slice_set words (slice_index lines x) word) x
    down_more w before e b c at h =
        let l : slice_index places e.from < slice_index places e.to = f.later e c in
        let old : HasEither own words e.to b = either_back own words (slice_index lines x) e.to word b (elsewhere e.to x low (λ same. absurd (omega arith))) h in
        elim (cases_eq (slice_index places e.from) x) [
          | inl same ↦ (
              let from : e.from ≡ slice_index lines x = here e.from x (f.known e c).0 same in
              subst (λ z. HasBit (slice_set words (slice_index lines x) word) z b) (sym from) (set_here words (slice_index lines x) word b small (w.all e b c from old)))
          | inr apart ↦ set_elsewhere words (slice_index lines x) e.from word b (elsewhere e.from x low apart) (before e b c (omega (arith, apart)) old)
        ]

    pub down_is : IsFromTargets g own words (slice_index lines x) word → AreFromBehind g own words → AreFromBehind g own (slice_set words (slice_index lines x) word)
    down_is w before i b h = elim (set_cases words (slice_index lines x) i word b small h) [
      | inr old ↦ before i b old
      | inl new ↦ (
          let s = w.is b new.1 in
          let e = s.0 in
          let from : e.from ≡ i = s.2 ∙ sym new.0 in
          elim (either_cases own words e.to b s.3) [
            | inl o ↦ (e.to, o, last e s.1 from refl)
            | inr q ↦ (let k = before e.to b q in (k.0, k.1, first e s.1 from k.2))
          ])
    ]

  pub down_begins : (own words : List ℕ) (high : ℕ) → ((i b : ℕ) → HasBit own i b → slice_index places i < high) → HaveNone words → AreDownTo g places own words high
  down_begins own words high ends none e b c before h = elim (either_cases own words e.to b h) [
    | inl o ↦ (let a : slice_index places e.to < high = ends e.to b o in let l : slice_index places e.from < slice_index places e.to = f.later e c in absurd (omega arith))
    | inr q ↦ absurd (none e.to b q)
  ]

  -- along a path
  pub up_all : (own words : List ℕ) (high : ℕ) → AreUpTo g places own words high → (q i b : ℕ) → HasEither own words q b → HasPath g q i → slice_index places i < high → HasBit words i b
  up_all own words high closed q i b h (last e c from to) low = subst (λ z. HasBit words z b) to (closed e b c (subst (λ z. slice_index places z < high) (sym to) low) (subst (λ z. HasEither own words z b) (sym from) h))
  up_all own words high closed q i b h (first e c from r) low =
      let l : slice_index places e.to < slice_index places i = path_later g places f e.to i r in
      up_all own words high closed e.to i b (either_passed own words e.to b (closed e b c (omega arith) (subst (λ z. HasEither own words z b) (sym from) h))) r low

  pub down_all : (own words : List ℕ) (low : ℕ) → AreDownTo g places own words low → (i r b : ℕ) → HasEither own words r b → HasPath g i r → low ≤ slice_index places i → HasBit words i b
  down_all own words low closed i r b h (last e c from to) at = subst (λ z. HasBit words z b) from (closed e b c (subst (λ z. low ≤ slice_index places z) (sym from) at) (subst (λ z. HasEither own words z b) (sym to) h))
  down_all own words low closed i r b h (first e c from p) at =
      let l : slice_index places e.from < slice_index places e.to = f.later e c in
      let begins : low ≤ slice_index places e.from = subst (λ z. low ≤ slice_index places z) (sym from) at in
      subst (λ z. HasBit words z b) from (closed e b c begins (either_passed own words e.to b (down_all own words low closed e.to r b h p (omega arith))))

  -- a place of a sweep up
  pub up_step : (own words after : List ℕ) (x line word low high : ℕ) → x < length g.lines → length words ≡ length g.lines → line ≡ slice_index lines x → after ≡ slice_set words line word → IsFromSources g own words line word → low ≤ x → x < high →
      AreUpTo g places own words x → AreFromBefore g own words → AreWithin places words low high → (length after ≡ length g.lines) × AreUpTo g places own after (x + 1) × AreFromBefore g own after × AreWithin places after low high
  up_step own words after x line word low high small size at set w begins ends up is within =
      let is_set : after ≡ slice_set words (slice_index lines x) word = set ∙ ap (λ z. slice_set words z word) at in
      let from : IsFromSources g own words (slice_index lines x) word = subst (λ z. IsFromSources g own words z word) at w in
      subst (λ ws. (length ws ≡ length g.lines) × AreUpTo g places own ws (x + 1) × AreFromBefore g own ws × AreWithin places ws low high) (sym is_set) (
        length-set words (slice_index lines x) word ∙ size,
        up_more own words x word small size from up,
        up_is own words x word small size from is,
        within_more own words x word small size low high begins ends within,
      )

  -- a place of a sweep down
  pub down_step : (own words after : List ℕ) (x line word high : ℕ) → x < length g.lines → length words ≡ length g.lines → line ≡ slice_index lines x → after ≡ slice_set words line word → IsFromTargets g own words line word → x < high →
      AreFromBehind g own words → AreWithin places words (x + 1) high → (length after ≡ length g.lines) × (AreDownTo g places own words (x + 1) → AreDownTo g places own after x) × AreFromBehind g own after × AreWithin places after x high
  down_step own words after x line word high small size at set w ends is within =
      let is_set : after ≡ slice_set words (slice_index lines x) word = set ∙ ap (λ z. slice_set words z word) at in
      let from : IsFromTargets g own words (slice_index lines x) word = subst (λ z. IsFromTargets g own words z word) at w in
      let wider : AreWithin places words x high = λ i b h. (let k = within i b h in (omega (arith, k.0), k.1)) in
      subst (λ ws. (length ws ≡ length g.lines) × (AreDownTo g places own words (x + 1) → AreDownTo g places own ws x) × AreFromBehind g own ws × AreWithin places ws x high) (sym is_set) (
        length-set words (slice_index lines x) word ∙ size,
        down_more own words x word small size from,
        down_is own words x word small size from is,
        within_more own words x word small size x high (omega arith) ends wider,
      )

  -- the sources of the lines from a place on
  pub sources_step : (a r b s : Passing) (x line wa wr low least : ℕ) → x < length g.lines → line ≡ slice_index lines x → b.own ≡ a.own → s.own ≡ r.own → b.passed.items ≡ slice_set a.passed.items line wa → s.passed.items ≡ slice_set r.passed.items line wr → least ≤ low →
      ((e : Edge) (k : ℕ) → Contains (edges g) e → k < 64 → e.to ≡ line → HasEither s.own.items s.passed.items line k → (HasEither b.own.items b.passed.items line k → ⊥) → least ≤ slice_index places e.from) →
      AreSourcesFrom g places a r (x + 1) low → AreSourcesFrom g places b s x least
  sources_step a r b s x line wa wr low least small at same_a same_r set_a set_r less here before e k c few from has hasnt = elim (cases_eq (slice_index places e.to) x) [
    | inl same ↦ (
        let to : e.to ≡ line = sym (line_at (length g.lines) lines places p e.to x (f.known e c).1 same) ∙ sym at in
        here e k c few to (subst (λ z. HasEither s.own.items s.passed.items z k) to has) (λ yes'. hasnt (subst (λ z. HasEither b.own.items b.passed.items z k) (sym to) yes')))
    | inr apart ↦ (
        let out : (e.to ≡ line) → ⊥ = λ to. apart (ap (slice_index places) (to ∙ at) ∙ (p.line x small).1) in
        let old : HasEither r.own.items r.passed.items e.to k = either_back r.own.items r.passed.items line e.to wr k out
        (subst (λ ws. HasEither r.own.items ws e.to k) set_r (subst (λ (v : Vec ℕ Global). HasEither v.items s.passed.items e.to k) same_r has)) in
        let none : HasEither a.own.items a.passed.items e.to k → ⊥ = λ yes'. hasnt (subst (λ (v : Vec ℕ Global). HasEither v.items b.passed.items e.to k) (sym same_a)
        (subst (λ ws. HasEither a.own.items ws e.to k) (sym set_a) (either_elsewhere a.own.items a.passed.items line e.to wa k out yes'))) in
        let l : low ≤ slice_index places e.from = before e k c few (omega (arith, from, apart)) old none in omega (arith, l, less))
  ]
