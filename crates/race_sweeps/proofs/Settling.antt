-- A line that is settled with the lines noted is settled with all: a hard access between two lines has a path from the one and to the other.
use Rattle.std.proofs.Common.{◌≡◌, ℕ, zero, suc, ◌+◌, ◌<◌, ◌≤◌, ◌⊎◌, Bool, true, false, not, inl, inr, List, length, refl, sym, ◌∙◌, ap, subst, arith}
use Rattle.std.specs.Prelude.{◌≢◌, Contains, IsTrue, slice_index}
use Rattle.std.proofs.lemmas.Bool.{true≢false, cases_lt, cases_order}
use Rattle.std.proofs.lemmas.List.{get_or_past}
use Rattle.index_spaces.specs.Space.{has_point}
use Rattle.graph_terms.specs.declared.verb.Access.{Access}
use Rattle.graph_terms.specs.declared.verb.Mode.{Mode}
use Rattle.graph_terms.specs.declared.verb.Mode.TheVariants.{Read, Write, Sum, Least, Most}
use Rattle.graph_terms.specs.Graph.{GraphValue, space_at}
use Rattle.graph_terms.specs.Edges.{edges}
use Rattle.graph_terms.specs.Access.{all_accesses, is_reduction, AccessesConflict, modes_clash}
use Rattle.graph_terms.specs.Fits.{IsGraph}
use Rattle.graph_meaning.specs.Laws.{EdgesBetweenLines}
use Rattle.graph_meaning.specs.Path.{Path, HasPath, last, first}
use Rattle.graph_meaning.specs.Rules.{modes_commute}
use Rattle.graph_meaning.proofs.Public.{path_append, conflict_back, commute_back}
use Rattle.sweep_base.specs.Placed.{IsPlaced}
use Rattle.race_sweeps.specs.Scan.{IsHard, HasHard, AreAnsweredAt}
use Rattle.conflict_classes.specs.Settled.{IsSettled}
use Rattle.race_sweeps.specs.Enough.{AreEnough, AreEnoughBelow, AreSettledBelow}
use Rattle.sweep_base.specs.Noted.{is_noted}
use Rattle.sweep_base.specs.Held.{LieApart}
use Rattle.race_sweeps.proofs.Conflicts.{apart_back, lines_decided}
use Rattle.conflict_classes.proofs.Public.{access_there, settled_back}
use Rattle.conflict_classes.proofs.Public.{exempt_by}

clash_write : (m : Mode) → modes_clash m Write ≡ true
clash_write Read = refl
clash_write Write = refl
clash_write Sum = refl
clash_write Least = refl
clash_write Most = refl

clash_reduction : (m n : Mode) → is_reduction n ≡ true → modes_clash m n ≡ true
clash_reduction Read Read h = absurd (true≢false (sym h))
clash_reduction Read Write h = refl
clash_reduction Read Sum h = refl
clash_reduction Read Least h = refl
clash_reduction Read Most h = refl
clash_reduction Write n h = refl
clash_reduction Sum n h = refl
clash_reduction Least n h = refl
clash_reduction Most n h = refl

never_commutes : (m : Mode) → modes_commute m Write ≡ false
never_commutes Read = refl
never_commutes Write = refl
never_commutes Sum = refl
never_commutes Least = refl
never_commutes Most = refl

-- two accesses that conflict have a path one way or the other, or commute and lie in sections that are apart
abbrev IsFine : GraphValue → ℕ → ℕ → Access → Access → Type 0
IsFine g i j a b = HasPath g i j ⊎ (HasPath g j i ⊎ (IsTrue (modes_commute a.mode b.mode) × LieApart g i j))

module _ (g : GraphValue) where
  hard_clash : (i : ℕ) (m n : Mode) → IsHard g i n → modes_clash m n ≡ true
  hard_clash i m n (inl w) = ap (modes_clash m) w ∙ clash_write m
  hard_clash i m n (inr s) = clash_reduction m n s.0

  -- a hard access of the column and the space of one of two accesses that conflict conflicts with both
  first_conflict : (i : ℕ) (a b h : Access) → AccessesConflict g a b → h.column ≡ a.column → h.space ≡ b.space → IsHard g i h.mode → AccessesConflict g a h
  first_conflict i a b h c column space hard = record {
    column = sym column;
    meet = (c.meet.0, c.meet.1, subst (λ s. IsTrue (has_point (space_at g s) c.meet.0)) (sym space) c.meet.2);
    clash = hard_clash i a.mode h.mode hard;
  }

  same_conflict : (i : ℕ) (a b h : Access) → AccessesConflict g a b → h.column ≡ a.column → h.space ≡ a.space → IsHard g i h.mode → AccessesConflict g a h
  same_conflict i a b h c column space hard = record {
    column = sym column;
    meet = (c.meet.0, c.meet.1, subst (λ s. IsTrue (has_point (space_at g s) c.meet.0)) (sym space) c.meet.1);
    clash = hard_clash i a.mode h.mode hard;
  }

  -- no sections set it apart from another one
  not_apart : (i w : ℕ) (a h : Access) → IsHard g w h.mode → IsTrue (modes_commute a.mode h.mode) → LieApart g i w → ⊥
  not_apart i w a h (inl write) commute apart = true≢false (sym commute ∙ (ap (modes_commute a.mode) write ∙ never_commutes a.mode))
  not_apart i w a h (inr free) commute apart = free.1 apart.0 apart.2 apart.6

  -- what lines that are settled tell of two of their accesses
  fine_by : (i j : ℕ) (a b : Access) → i ≢ j → Contains (all_accesses g i) a → Contains (all_accesses g j) b → AccessesConflict g a b → IsSettled g i j → IsFine g i j a b
  fine_by i j a b apart ha hb c settled = elim (settled (record { different = apart; one = a; other = b; one_in = ha; other_in = hb; conflict = c })) [
    | inl path ↦ inl path
    | inr (inl back) ↦ inr (inl back)
    | inr (inr x) ↦ inr (inr (x.commute a b ha hb c, (x.lock, x.one, x.other, x.different, x.apart, x.one_section, x.other_section)))
  ]

  -- lines are settled where all their accesses that conflict are
  settled_all : (i j : ℕ) → ((a b : Access) → Contains (all_accesses g i) a → Contains (all_accesses g j) b → AccessesConflict g a b → IsFine g i j a b) → IsSettled g i j
  settled_all i j fine c = elim (fine c.one c.other c.one_in c.other_in c.conflict) [
    | inl path ↦ inl path
    | inr (inl back) ↦ inr (inl back)
    | inr (inr both) ↦ elim (lines_decided g i j) [
      | inr soft ↦ exempt_by g i j soft both.1 c
      | inl hard ↦ elim (fine hard.0 hard.2.0 hard.1 hard.2.1 hard.2.2.conflict) [
        | inl path ↦ inl path
        | inr (inl back) ↦ inr (inl back)
        | inr (inr again) ↦ absurd (true≢false (sym hard.2.2.counts ∙ ap not again.0))
      ]
    ]
  ]

  fine_back : (i j : ℕ) (a b : Access) → IsFine g i j a b → IsFine g j i b a
  fine_back i j a b (inl path) = inr (inl path)
  fine_back i j a b (inr (inl back)) = inl back
  fine_back i j a b (inr (inr both)) = inr (inr (commute_back b.mode a.mode ∙ both.0, apart_back g i j both.1))

module _ (g : GraphValue) (fits : IsGraph g) (between : EdgesBetweenLines) (lines : List ℕ) (placed : IsPlaced g lines) where
  -- the line at a place
  abbrev at : ℕ → ℕ
  at p = slice_index lines p

  -- paths lead forward
  forward : {i j : ℕ} → Path (edges g) i j → (p q : ℕ) → p < length lines → q < length lines → at p ≡ i → at q ≡ j → p < q
  forward (last e c f t) p q hp hq from to = placed.forward e p q c hp hq (from ∙ sym f) (to ∙ sym t)
  forward (first e c f rest) p q hp hq from to =
      let r = placed.each e.to (between g e fits c).1 in
      let low : p < r.0 = placed.forward e p r.0 c hp r.1 (from ∙ sym f) r.2 in
      let high : r.0 < q = forward rest r.0 q r.1 hq r.2 to in omega arith

  -- two lines have a path forward where one of two accesses that conflict is hard
  path_to_hard : (x w : ℕ) (a h : Access) → x < w → w < length lines → IsHard g (at w) h.mode → IsFine g (at x) (at w) a h → HasPath g (at x) (at w)
  path_to_hard x w a h low high hard (inl path) = path
  path_to_hard x w a h low high hard (inr (inl back)) = (let up : w < x = forward back w x high (omega arith) refl refl in absurd (omega arith))
  path_to_hard x w a h low high hard (inr (inr both)) = absurd (not_apart g (at x) (at w) a h hard both.0 both.1)

  path_from_hard : (w u : ℕ) (h b : Access) → w < u → u < length lines → IsHard g (at w) h.mode → IsFine g (at w) (at u) h b → HasPath g (at w) (at u)
  path_from_hard w u h b low high hard (inl path) = path
  path_from_hard w u h b low high hard (inr (inl back)) = (let up : u < w = forward back u w high (omega arith) refl refl in absurd (omega arith))
  path_from_hard w u h b low high hard (inr (inr both)) = absurd (not_apart g (at u) (at w) b h hard (commute_back b.mode h.mode ∙ both.0) (apart_back g (at w) (at u) both.1))

  module _ (limit : ℕ) (racing : List Bool) (answered : (u : ℕ) → u < length lines → AreAnsweredAt g limit lines racing u) (p : ℕ) (known : p < length lines) (under : at p < limit) (with_noted : (r : ℕ) → is_noted racing r ≡ true → IsSettled g (at p) r)
      (a : Access) (ha : Contains (all_accesses g (at p)) a) where
    -- an access of line z that lies between two that conflict, and conflicts with each of them and with a
    record IsBetween (z : ℕ) (h k : Access) : Type 0 where
      below : z < limit
      access : Access
      listed : Contains (all_accesses g z) access
      hard : IsHard g z access.mode
      one : AccessesConflict g h access
      other : AccessesConflict g k access
      own : AccessesConflict g a access

    -- an access is a, or conflicts with it
    abbrev IsBound : Access → Type 0
    IsBound h = (h ≡ a) ⊎ AccessesConflict g a h

    is_between : (z : ℕ) (h k : Access) → IsBound h → AccessesConflict g h k → AccessesConflict g a k → HasHard g limit z h.column h.space ⊎ HasHard g limit z k.column k.space → IsBetween z h k
    is_between z h k bound c own (inr m) = record {
      below = m.below;
      access = m.access;
      listed = m.listed;
      hard = m.hard;
      one = first_conflict g z h k m.access c (m.column_is ∙ sym c.column) m.space_is m.hard;
      other = same_conflict g z k h m.access (conflict_back g h k c) m.column_is m.space_is m.hard;
      own = first_conflict g z a k m.access own (m.column_is ∙ sym own.column) m.space_is m.hard;
    }
    is_between z h k bound c own (inl m) =
        let one : AccessesConflict g h m.access = same_conflict g z h k m.access c m.column_is m.space_is m.hard in
        record {
          below = m.below;
          access = m.access;
          listed = m.listed;
          hard = m.hard;
          one = one;
          other = first_conflict g z k h m.access (conflict_back g h k c) (m.column_is ∙ c.column) m.space_is m.hard;
          own = elim bound [
            | inl same ↦ subst (λ x. AccessesConflict g x m.access) same one
            | inr before ↦ first_conflict g z a h m.access before (m.column_is ∙ sym before.column) m.space_is m.hard
          ];
        }

    -- a path leads from the line at p to a hard access of another line behind it, or the access is a
    abbrev IsAhead : ℕ → Access → Type 0
    IsAhead y h = ((y ≡ p) × (h ≡ a)) ⊎ ((p < y) × IsHard g (at y) h.mode × HasPath g (at p) (at y) × AccessesConflict g a h)

    ahead_bound : (y : ℕ) (h : Access) → IsAhead y h → IsBound h
    ahead_bound y h (inl same) = inl same.1
    ahead_bound y h (inr hard) = inr hard.3

    go_on : (y w : ℕ) (h k : Access) → y < w → w < length lines → IsAhead y h → IsFine g (at y) (at w) h k → IsFine g (at p) (at w) a k
    go_on y w h k low high (inl same) fine = subst (λ x. IsFine g (at x) (at w) a k) same.0 (subst (λ x. IsFine g (at y) (at w) x k) same.1 fine)
    go_on y w h k low high (inr hard) fine = inl (path_append hard.2 (path_from_hard y w h k low high hard.1 fine))

    fine_ahead : (d y w : ℕ) (h k : Access) → y < w → w < length lines → at y < limit → at w < limit → w ≤ y + d → p ≤ y → Contains (all_accesses g (at y)) h → Contains (all_accesses g (at w)) k → AccessesConflict g h k → AccessesConflict g a k → IsAhead y h → IsFine g (at p) (at w) a k
    fine_ahead zero y w h k low high uy uw near from hh hk c own ahead = absurd (omega arith)
    fine_ahead (suc d) y w h k low high uy uw near from hh hk c own ahead = elim (answered w high y h k low uy uw hh hk c) [
      | inl (inl settled) ↦ go_on y w h k low high ahead (fine_by g (at y) (at w) h k (λ same. placed.distinct y w low high same) hh hk c settled)
      | inl (inr both) ↦ fine_by g (at p) (at w) a k (λ same. placed.distinct p w (omega arith) high same) ha hk own (with_noted (at w) both.1)
      | inr (inl both) ↦ go_on y w h k low high ahead (inr (inr both))
      | inr (inr hard) ↦ (
          let z = hard.0 in
          let up : y < z = hard.1 in
          let down : z < w = hard.2 in
          let m = is_between (at z) h k (ahead_bound y h ahead) c own hard.3 in
          let path = path_to_hard p z a m.access (omega arith) (omega arith) m.hard (fine_ahead d y z h m.access up (omega arith) uy m.below (omega arith) from hh m.listed m.one m.own ahead) in
          fine_ahead d z w m.access k down high m.below uw (omega arith) (omega arith) m.listed hk (conflict_back g k m.access m.other) own (inr (omega arith, m.hard, path, m.own)))
    ]

    -- the same before it
    abbrev IsBehind : ℕ → Access → Type 0
    IsBehind y h = ((y ≡ p) × (h ≡ a)) ⊎ ((y < p) × IsHard g (at y) h.mode × HasPath g (at y) (at p) × AccessesConflict g a h)

    behind_bound : (y : ℕ) (h : Access) → IsBehind y h → IsBound h
    behind_bound y h (inl same) = inl same.1
    behind_bound y h (inr hard) = inr hard.3

    go_back : (w y : ℕ) (k h : Access) → w < y → y < length lines → IsBehind y h → IsFine g (at w) (at y) k h → IsFine g (at p) (at w) a k
    go_back w y k h low high (inl same) fine = subst (λ x. IsFine g (at x) (at w) a k) same.0 (subst (λ x. IsFine g (at y) (at w) x k) same.1 (fine_back g (at w) (at y) k h fine))
    go_back w y k h low high (inr hard) fine = inr (inl (path_append (path_to_hard w y k h low high hard.1 fine) hard.2))

    fine_behind : (d w y : ℕ) (k h : Access) → w < y → y ≤ p → at w < limit → at y < limit → y ≤ w + d → Contains (all_accesses g (at w)) k → Contains (all_accesses g (at y)) h → AccessesConflict g k h → AccessesConflict g a k → IsBehind y h → IsFine g (at p) (at w) a k
    fine_behind zero w y k h low to uw uy near hk hh c own behind = absurd (omega arith)
    fine_behind (suc d) w y k h low to uw uy near hk hh c own behind =
        let high : y < length lines = omega (arith, known) in
        elim (answered y high w k h low uw uy hk hh c) [
          | inl (inl settled) ↦ go_back w y k h low high behind (fine_by g (at w) (at y) k h (λ same. placed.distinct w y low high same) hk hh c settled)
          | inl (inr both) ↦ fine_by g (at p) (at w) a k (λ same. placed.distinct w p (omega arith) known (sym same)) ha hk own (with_noted (at w) both.0)
          | inr (inl both) ↦ go_back w y k h low high behind (inr (inr both))
          | inr (inr hard) ↦ (
              let z = hard.0 in
              let up : w < z = hard.1 in
              let down : z < y = hard.2 in
              let m = is_between (at z) h k (behind_bound y h behind) (conflict_back g k h c) own (elim hard.3 [ inl x ↦ inr x | inr x ↦ inl x ]) in
              let path = path_from_hard z p m.access a (omega arith) known m.hard (fine_back g (at p) (at z) a m.access
              (fine_behind d z y m.access h down to m.below uy (omega arith) m.listed hh (conflict_back g h m.access m.one) m.own behind)) in
              fine_behind d w z k m.access up (omega arith) uw m.below (omega arith) hk m.listed m.other own (inr (omega arith, m.hard, path, m.own)))
        ]

  module _ (limit : ℕ) (racing : List Bool) (answered : (u : ℕ) → u < length lines → AreAnsweredAt g limit lines racing u) where
    settled_at : (p q : ℕ) → p < length lines → q < length lines → at p < limit → at q < limit → (p ≡ q → ⊥) → ((r : ℕ) → is_noted racing r ≡ true → IsSettled g (at p) r) → IsSettled g (at p) (at q)
    settled_at p q hp hq up uq apart with_noted = settled_all g (at p) (at q) (λ a b ha hb c. elim (cases_order p q) [
      | inl same ↦ absurd (apart same)
      | inr (inl before) ↦ fine_ahead limit racing answered p hp up with_noted a ha q p q a b before hq up uq (omega arith) (omega arith) ha hb c c (inl (refl, refl))
      | inr (inr behind) ↦ fine_behind limit racing answered p hp up with_noted a ha p q p b a behind (omega arith) uq up (omega arith) hb ha (conflict_back g a b c) c (inl (refl, refl))
    ])

    pub enough_noted : AreEnoughBelow g limit racing
    enough_noted i ui with_noted j uj c =
        let p = placed.each i (access_there g i c.one c.one_in) in
        let q = placed.each j (access_there g j c.other c.other_in) in
        let apart : p.0 ≡ q.0 → ⊥ = λ same. c.different (sym p.2 ∙ (ap at same ∙ q.2)) in
        subst (λ z. IsSettled g z j) p.2 (subst (λ z. IsSettled g (at p.0) z) q.2 (settled_at p.0 q.0 p.1 q.1 (subst (λ z. z < limit) (sym p.2) ui) (subst (λ z. z < limit) (sym q.2) uj) apart (λ r noted. subst (λ z. IsSettled g z r) (sym p.2) (settled_back g r i (with_noted r noted))))) c

-- below as many as there are lines, all are
pub enough_of_all : (g : GraphValue) (limit : ℕ) (racing : List Bool) → limit ≡ length g.lines → AreEnoughBelow g limit racing → AreEnough g racing
enough_of_all g limit racing all enough i with_noted j c =
    let low : i < length g.lines = access_there g i c.one c.one_in in
    let high : j < length g.lines = access_there g j c.other c.other_in in
    enough i (omega (arith, low, all)) with_noted j (omega (arith, high, all)) c

-- where none is noted
pub settled_where_none : (g : GraphValue) (limit n : ℕ) (racing : List Bool) → length racing ≡ n → ((r : ℕ) → 0 ≤ r → r < n → is_noted racing r ≡ false) → AreEnoughBelow g limit racing → AreSettledBelow g limit
settled_where_none g limit n racing size none enough i j low high =
    enough i low (λ r noted. elim (cases_lt r n) [
      | inl l ↦ absurd (true≢false (sym noted ∙ none r (omega arith) l))
      | inr up ↦ absurd (true≢false (sym noted ∙ get_or_past racing r false (omega (arith, up, size))))
    ]) j high
