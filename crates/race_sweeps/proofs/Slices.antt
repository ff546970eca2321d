-- The conflicts of a slice are answered for.
use Rattle.std.proofs.Common.{◌≡◌, ℕ, ◌+◌, ◌-◌, ◌<◌, ◌≤◌, Bool, true, inl, inr, List, length, sym, ◌∙◌, ap, subst, arith}
use Rattle.std.specs.Prelude.{Some, Contains, slice_get, slice_index}
use Rattle.std.proofs.lemmas.Bool.{cases_lt, true≢false}
use Rattle.std.proofs.lemmas.Option.{same_Some, slice_get_within}
use Rattle.graph_terms.specs.declared.verb.Access.{Access}
use Rattle.graph_terms.specs.Graph.{GraphValue}
use Rattle.graph_terms.specs.Access.{AccessesConflict, modes_clash}
use Rattle.graph_meaning.specs.Rules.{modes_commute}
use Rattle.race_sweeps.specs.declared.marks.Mark.{Mark}
use Rattle.conflict_classes.specs.declared.lookups.Table.{Table}
use Rattle.conflict_classes.specs.Classes.{AreNumbered, HasNumber, IsBegin, place_at}
use Rattle.conflict_classes.specs.Guards.{AreGuarded}
use Rattle.sweep_base.specs.Held.{LieApart}
use Rattle.sweep_base.specs.Bits.{bit_in}
use Rattle.race_sweeps.specs.Scan.{IsHardTo, IsAnswerable, IsAskable, IsMarkAsked, IsWalked, AreAnsweredAt, AreSettledWith}
use Rattle.race_sweeps.specs.ScanState.{AreGrouped}
use Rattle.race_sweeps.specs.Enough.{IsSettledOrNoted}
use Rattle.conflict_classes.specs.Table.{IsTable}
use Rattle.graph_meaning.proofs.Public.{conflict_back, commute_back}

-- an access of a line before place `end` has a number below the beginning of that place
number_below : (t : Table) (end : ℕ) (a : Access) (p : ℕ) → AreNumbered t.classes.items t.sites.items → IsBegin t.sites.items end (slice_index t.begins.items end) → p < end → (h : HasNumber t.keys.items t.classes.items t.sites.items p a) → h.number < slice_index t.begins.items end
number_below t end a p numbered begin low h = elim (cases_lt h.number (slice_index t.begins.items end)) [
  | inl l ↦ l
  | inr up ↦ (
      let listed : h.number < length t.classes.items = slice_get_within t.classes.items h.number h.class h.class_is in
      let size : length t.sites.items ≡ length t.classes.items = numbered.size in
      let at : place_at t.sites.items h.number ≡ p = h.place_is in
      let behind : end ≤ place_at t.sites.items h.number = begin.behind h.number up (omega arith) in absurd (omega arith))
]

-- and one at a place from `first` on one from the beginning of that place on
number_from : (t : Table) (first : ℕ) (a : Access) (p : ℕ) → IsBegin t.sites.items first (slice_index t.begins.items first) → first ≤ p → (h : HasNumber t.keys.items t.classes.items t.sites.items p a) → slice_index t.begins.items first ≤ h.number
number_from t first a p begin low h = elim (cases_lt h.number (slice_index t.begins.items first)) [
  | inl l ↦ (let at : place_at t.sites.items h.number ≡ p = h.place_is in let before : place_at t.sites.items h.number < first = begin.before h.number l in absurd (omega arith))
  | inr up ↦ up
]

module _ (g : GraphValue) (t : Table) (is : IsTable g t) (racing : List Bool) (hard : List ℕ) (groups asks : List Mark) (first end : ℕ) (short : end ≤ first + 64) (within : end ≤ length t.lines.items) (hards : IsHardTo g t hard first) (grouped : AreGrouped t groups first (slice_index t.begins.items end))
    (asked : (m : Mark) → Contains groups m → IsMarkAsked t hard asks (slice_index t.begins.items end) m) (walked : (m : Mark) → Contains asks m → IsWalked g t racing first (slice_index t.begins.items end) m) where
  -- a class is asked about another one that conflicts with it
  askable : (c d : ℕ) (a b : Access) → slice_get t.keys.items c ≡ Some b → slice_get t.keys.items d ≡ Some a → AccessesConflict g a b → IsAskable t c d
  askable c d a b kc kd conflict = elim (is.near_are.each c d b a kc kd (conflict_back g a b conflict)) [
    | inr near ↦ inl near
    | inl same ↦ inr (
      sym same,
      (
        b,
        kc,
        λ read. (
            let e : a ≡ b = same_Some a b (sym kd ∙ (ap (slice_get t.keys.items) (sym same) ∙ kc)) in
            true≢false (sym conflict.clash ∙ (ap (λ (z : Access). modes_clash z.mode b.mode) e ∙ ap (λ m. modes_clash m m) read))),
      ),
    )
  ]

  pub slice_answered : (u : ℕ) → first ≤ u → u < end → AreAnsweredAt g t.limit t.lines.items racing u
  slice_answered u low high x a b before x_below u_below ha hb conflict =
      let lines = t.lines.items in
      let are = is.classes_are in
      let one = are.each x a (omega arith) x_below ha in
      let two = are.each u b (omega arith) u_below hb in
      let r = one.number in
      let s = two.number in
      let d = one.class in
      let c = two.class in
      let begin = are.begin end within in
      let r_low : r < slice_index t.begins.items end = number_below t end a x are.numbered begin (omega arith) one in
      let s_low : s < slice_index t.begins.items end = number_below t end b u are.numbered begin high two in
      let s_from : slice_index t.begins.items first ≤ s = number_from t first b u (are.begin first (omega arith)) low two in
      let at_one : place_at t.sites.items r ≡ x = one.place_is in
      let at_two : place_at t.sites.items s ≡ u = two.place_is in
      let mark = grouped s c s_from s_low two.class_is in
      let bit : bit_in mark.mark.word (u - first) ≡ true = ap (λ z. bit_in mark.mark.word (z - first)) (sym at_two) ∙ mark.bit in
      let ask = subst (IsAnswerable t hard asks mark.mark d (u - first)) at_one (asked mark.mark mark.kept d (subst (λ z. IsAskable t z d) (sym mark.class) (askable c d a b two.key_is one.key_is conflict)) r (u - first) r_low one.class_is bit) in
      elim ask [
        | inl own ↦ (
            let w = slice_index hard mark.mark.class in
            let up : x < w = own in
            let key : slice_get t.keys.items mark.mark.class ≡ Some b = ap (slice_get t.keys.items) mark.class ∙ two.key_is in
            let below : w < first = hards.below mark.mark.class (omega arith) in
            inr (inr (w, up, omega arith, inr (hards.is mark.mark.class b key (omega arith)))))
        | inr (inl other) ↦ (
            let w = slice_index hard d in
            let up : x < w = other in
            let below : w < first = hards.below d (omega arith) in
            inr (inr (w, up, omega arith, inl (hards.is d a one.key_is (omega arith)))))
        | inr (inr (inl guarded)) ↦ (
            let own = subst (λ z. AreGuarded t.keys.items t.guards.items z d) mark.class guarded.0 in
            let up : x < mark.mark.floor = guarded.1 in
            let floor : mark.mark.floor ≤ slice_index t.starts.items s = mark.floor in
            inr (inl (
              commute_back a.mode b.mode ∙ (ap (λ (z : Access). modes_commute z.mode a.mode) (same_Some b own.one (sym two.key_is ∙ own.one_is)) ∙ (ap (λ (z : Access). modes_commute own.one.mode z.mode) (same_Some a own.other (sym one.key_is ∙ own.other_is)) ∙ own.commute)),
              subst (λ z. LieApart g (slice_index lines x) (slice_index lines z)) at_two (subst (λ z. LieApart g (slice_index lines z) (slice_index lines (place_at t.sites.items s))) at_one (is.guards_are.apart r s c d one.class_is two.class_is own (omega arith))),
            )))
        | inr (inr (inr marked)) ↦ (
            let low' : u - first < 64 = omega arith in
            let at : first + (u - first) ≡ u = omega arith in
            let floor : marked.mark.floor ≤ x = marked.floor in
            inl (subst (λ z. IsSettledOrNoted g racing (slice_index lines x) (slice_index lines z)) at
            (subst (λ z. AreSettledWith g lines racing first z marked.mark.word) at_one (walked marked.mark marked.kept r r_low (one.class_is ∙ ap Some (sym marked.class)) (omega arith)) (u - first) low' (omega arith) marked.bit (omega arith))))
      ]
