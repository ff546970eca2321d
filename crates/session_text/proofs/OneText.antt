-- Bytes are the text of one session at most, and have one first fault at most, and not both.
use Rattle.std.proofs.Common.{◌≡◌, ℕ, ◌+◌, List, [], ◌∷◌, ◌++◌, drop, inl, inr, refl, sym, ◌∙◌, ap, subst, append-nil, arith}
use Rattle.std.specs.Prelude.{None}
use Rattle.std.proofs.lemmas.Option.{none-some, same_Some}
use Rattle.graph_terms.specs.declared.why.Why.{Why}
use Rattle.graph_words.specs.Text.{GraphText}
use Rattle.graph_reader.specs.FirstFault.{FirstFault}
use Rattle.graph_reader.proofs.TextTells.{one_reading}
use Rattle.realm_audit.specs.Parts.{newlines, graph_bytes, trace_bytes}
use Rattle.session_text.specs.declared.entry.Entry.{Entry}
use Rattle.session_text.specs.Session.{graph_line, closing, parts_of, PartsStand, HeadStands, BeginsAt}
use Rattle.session_text.specs.Fits.{graph_reason, is_large, bare_entry, AreEntries, SessionText}
use Rattle.session_text.specs.FirstFault.{with_last, next_reason, IsHeaderFault, IsLineFault, IsGraphFault, IsSumFault, IsRestFault, SessionFault}
use Rattle.session_text.specs.Laws.{OneSession}
use Rattle.session_text.proofs.Parts.{Spot, start, all_at, after_parts, parts_fit, all_after, spot_of}
use Rattle.session_text.proofs.Standing.{head_at}
use Rattle.session_text.proofs.Stops.{StopsAt, one_stop, close_stops, line_stops, graph_stops, sum_stops, graph_reason_at, graph_named, graph_no_close, same_graph_line}

abbrev at_end : List Entry → Spot
at_end es = after_parts start (parts_of es)

-- where reading stops
pub record StopIn (bytes : List ℕ) (es : List Entry) (left : List ℕ) : Type 0 where
  pub are : AreEntries es
  pub begins : HeadStands bytes es left
  pub stops : StopsAt (at_end es) left

same_stop : (bytes : List ℕ) (es fs : List Entry) (a b : List ℕ) → StopIn bytes es a → StopIn bytes fs b → (es ≡ fs) × (a ≡ b)
same_stop bytes es fs a b x y =
    let u = x.begins in
    let v = y.begins in
    let behind : u.behind ≡ v.behind = ap (drop 16) (sym u.begins ∙ v.begins) in
    let r = one_stop start (parts_of es) (parts_of fs) u.behind a b (parts_fit es x.are) (parts_fit fs y.are) u.parts (subst (λ z. PartsStand z (parts_of fs) b) (sym behind) v.parts) x.stops y.stops in
    (sym (all_after es) ∙ (ap (λ ps. all_at (after_parts start ps)) r.0 ∙ all_after fs), r.1)

-- the number of what is left is one
same_number : (bytes a b : List ℕ) (n m : ℕ) → a ≡ b → BeginsAt bytes a n → BeginsAt bytes b m → n ≡ m
same_number bytes a b n m e x y =
    let lines : newlines a ≡ newlines b = ap newlines e in
    let one : n + newlines a ≡ newlines bytes + 1 = x in
    let other : m + newlines b ≡ newlines bytes + 1 = y in
    omega arith

module _ (bytes : List ℕ) where
  text_stop : (es : List Entry) → SessionText bytes es → StopIn bytes es (closing ++ [])
  text_stop es t = record { are = t.are_entries; begins = head_at bytes closing (closing ++ []) es (sym (append-nil closing)) t.is_text; stops = close_stops (at_end es) [] }

  line_stop : (n : ℕ) (w : Why) → (f : IsLineFault bytes n w) → StopIn bytes (with_last f.before f.last) f.rest
  line_stop n w f = record {
    are = f.are_entries;
    begins = f.begins;
    stops = subst (λ s. StopsAt s f.rest) (sym (spot_of (with_last f.before f.last) f.before f.last f.first refl)) (line_stops (record { before = f.before; last = f.last }) f.rest w f.refused);
  }

  named_at : (es : List Entry) (name : List ℕ) → graph_reason es name ≡ None → graph_reason (all_at (at_end es)) name ≡ None
  named_at es name h = ap (λ x. graph_reason x name) (all_after es) ∙ h

  graph_stop : (n : ℕ) (w : Why) → (f : IsGraphFault bytes n w) → StopIn bytes f.before (graph_line f.name ++ f.rest)
  graph_stop n w f = record {
    are = f.are_entries;
    begins = f.begins;
    stops = graph_stops (at_end f.before) f.name f.rest f.inside w (named_at f.before f.name f.named) f.fault;
  }

  sum_stop : (n : ℕ) (w : Why) → (f : IsSumFault bytes n w) → StopIn bytes f.before (graph_line f.name ++ (f.stands).behind)
  sum_stop n w f = record {
    are = f.are_entries;
    begins = head_at bytes f.from (graph_line f.name ++ (f.stands).behind) f.before (f.stands).begins f.begins;
    stops = sum_stops (at_end f.before) f.name f.graph (f.stands).behind (named_at f.before f.name f.named) (f.stands).text_is (ap (λ x. is_large (x ++ bare_entry f.name f.graph ∷ [])) (all_after f.before) ∙ f.passed);
  }

  rest_stop : (n : ℕ) (w : Why) → (f : IsRestFault bytes n w) → StopIn bytes f.before (closing ++ f.rest)
  rest_stop n w f = record { are = f.are_entries; begins = f.begins; stops = close_stops (at_end f.before) f.rest }

  no_header : (n : ℕ) (w : Why) (es : List Entry) (rest : List ℕ) → IsHeaderFault bytes n w → StopIn bytes es rest → ⊥
  no_header n w es rest f x = f.no_header (x.begins).behind (x.begins).begins

  not_both : (es : List Entry) (n : ℕ) (w : Why) → SessionText bytes es → SessionFault bytes n w → ⊥
  not_both es n w t (inl f) = no_header n w es (closing ++ []) f (text_stop es t)
  not_both es n w t (inr (inl f)) =
      let r = same_stop bytes es (with_last f.before f.last) (closing ++ []) f.rest (text_stop es t) (line_stop n w f) in
      none-some w (ap (next_reason f.before f.last) r.1 ∙ f.refused)
  not_both es n w t (inr (inr (inl f))) =
      let r = same_stop bytes es f.before (closing ++ []) (graph_line f.name ++ f.rest) (text_stop es t) (graph_stop n w f) in
      graph_no_close f.name f.rest [] (sym r.1)
  not_both es n w t (inr (inr (inr (inl f)))) =
      let r = same_stop bytes es f.before (closing ++ []) (graph_line f.name ++ (f.stands).behind) (text_stop es t) (sum_stop n w f) in
      graph_no_close f.name (f.stands).behind [] (sym r.1)
  not_both es n w t (inr (inr (inr (inr f)))) =
      let r = same_stop bytes es f.before (closing ++ []) (closing ++ f.rest) (text_stop es t) (rest_stop n w f) in
      f.follows (sym (ap (drop 6) r.1))

  -- a line that is refused is none of the others
  line_no_graph : (n m : ℕ) (w : Why) (name rest : List ℕ) (fs : List Entry) → (f : IsLineFault bytes n w) → StopIn bytes fs (graph_line name ++ rest) → graph_reason fs name ≡ None → ⊥
  line_no_graph n m w name rest fs f y named =
      let r = same_stop bytes (with_last f.before f.last) fs f.rest (graph_line name ++ rest) (line_stop n w f) y in
      let s : Spot = record { before = f.before; last = f.last } in
      let none : graph_reason (all_at s) name ≡ None = ap (λ x. graph_reason x name) r.0 ∙ named in
      none-some w (sym (graph_reason_at s name rest (graph_named (all_at s) name none) ∙ none) ∙ (ap (next_reason f.before f.last) (sym r.1) ∙ f.refused))

  line_no_rest : (n m : ℕ) (w v : Why) → (f : IsLineFault bytes n w) → IsRestFault bytes m v → ⊥
  line_no_rest n m w v f g =
      let r = same_stop bytes (with_last f.before f.last) g.before f.rest (closing ++ g.rest) (line_stop n w f) (rest_stop m v g) in
      none-some w (ap (next_reason f.before f.last) (sym r.1) ∙ f.refused)

  two_lines : (n m : ℕ) (w v : Why) → IsLineFault bytes n w → IsLineFault bytes m v → (n ≡ m) × (w ≡ v)
  two_lines n m w v f g =
      let r = same_stop bytes (with_last f.before f.last) (with_last g.before g.last) f.rest g.rest (line_stop n w f) (line_stop m v g) in
      let spot : (record { before = f.before; last = f.last }) ≡ (record { before = g.before; last = g.last }) =
      sym (spot_of (with_last f.before f.last) f.before f.last f.first refl) ∙ (ap at_end r.0 ∙ spot_of (with_last g.before g.last) g.before g.last g.first refl) in
      let reason : next_reason f.before f.last f.rest ≡ next_reason g.before g.last g.rest = ap (λ (s : Spot). next_reason s.before s.last f.rest) spot ∙ ap (next_reason g.before g.last) r.1 in
      (same_number bytes f.rest g.rest n m r.1 f.number_is g.number_is, same_Some w v (sym f.refused ∙ (reason ∙ g.refused)))

  two_graphs : (n m : ℕ) (w v : Why) → IsGraphFault bytes n w → IsGraphFault bytes m v → (n ≡ m) × (w ≡ v)
  two_graphs n m w v f g =
      let r = same_stop bytes f.before g.before (graph_line f.name ++ f.rest) (graph_line g.name ++ g.rest) (graph_stop n w f) (graph_stop m v g) in
      let l = same_graph_line f.name g.name f.rest g.rest (graph_named f.before f.name f.named) (graph_named g.before g.name g.named) r.1 in
      let one = (one_reading (graph_bytes g.rest)).one_fault f.inside g.inside w v (subst (λ b. FirstFault (graph_bytes b) f.inside w) l.1 f.fault) g.fault in
      (f.number_is ∙ (ap (λ k. k + f.inside) (same_number bytes (graph_line f.name ++ f.rest) (graph_line g.name ++ g.rest) f.above g.above r.1 f.above_is g.above_is) ∙ (ap (λ k. g.above + k) one.0 ∙ sym g.number_is)), one.1)

  graph_no_sum : (n m : ℕ) (w v : Why) → IsGraphFault bytes n w → IsSumFault bytes m v → ⊥
  graph_no_sum n m w v f g =
      let r = same_stop bytes f.before g.before (graph_line f.name ++ f.rest) (graph_line g.name ++ (g.stands).behind) (graph_stop n w f) (sum_stop m v g) in
      let l = same_graph_line f.name g.name f.rest (g.stands).behind (graph_named f.before f.name f.named) (graph_named g.before g.name g.named) r.1 in
      (one_reading (graph_bytes f.rest)).not_both (g.graph, subst (λ z. GraphText (graph_bytes z) g.graph) (sym l.1) (g.stands).text_is) (f.inside, w, f.fault)

  two_sums : (n m : ℕ) (w v : Why) → IsSumFault bytes n w → IsSumFault bytes m v → (n ≡ m) × (w ≡ v)
  two_sums n m w v f g =
      let r = same_stop bytes f.before g.before (graph_line f.name ++ (f.stands).behind) (graph_line g.name ++ (g.stands).behind) (sum_stop n w f) (sum_stop m v g) in
      let l = same_graph_line f.name g.name (f.stands).behind (g.stands).behind (graph_named f.before f.name f.named) (graph_named g.before g.name g.named) r.1 in
      let next : n + 1 ≡ m + 1 = same_number bytes f.rest g.rest (n + 1) (m + 1) ((f.stands).left_is ∙ (ap trace_bytes l.1 ∙ sym (g.stands).left_is)) f.number_is g.number_is in
      (omega arith, f.reason_is ∙ sym g.reason_is)

  two_rests : (n m : ℕ) (w v : Why) → IsRestFault bytes n w → IsRestFault bytes m v → (n ≡ m) × (w ≡ v)
  two_rests n m w v f g =
      let r = same_stop bytes f.before g.before (closing ++ f.rest) (closing ++ g.rest) (rest_stop n w f) (rest_stop m v g) in
      (same_number bytes f.rest g.rest n m (ap (drop 6) r.1) f.number_is g.number_is, f.reason_is ∙ sym g.reason_is)

  graph_no_rest : (n m : ℕ) (w v : Why) → IsGraphFault bytes n w → IsRestFault bytes m v → ⊥
  graph_no_rest n m w v f g =
      let r = same_stop bytes f.before g.before (graph_line f.name ++ f.rest) (closing ++ g.rest) (graph_stop n w f) (rest_stop m v g) in
      graph_no_close f.name f.rest g.rest r.1

  sum_no_rest : (n m : ℕ) (w v : Why) → IsSumFault bytes n w → IsRestFault bytes m v → ⊥
  sum_no_rest n m w v f g =
      let r = same_stop bytes f.before g.before (graph_line f.name ++ (f.stands).behind) (closing ++ g.rest) (sum_stop n w f) (rest_stop m v g) in
      graph_no_close f.name (f.stands).behind g.rest r.1

  header_alone : (n m : ℕ) (w v : Why) → IsHeaderFault bytes n w → SessionFault bytes m v → (n ≡ m) × (w ≡ v)
  header_alone n m w v f (inl g) = (f.first ∙ sym g.first, f.reason_is ∙ sym g.reason_is)
  header_alone n m w v f (inr (inl g)) = absurd (no_header n w (with_last g.before g.last) g.rest f (line_stop m v g))
  header_alone n m w v f (inr (inr (inl g))) = absurd (no_header n w g.before (graph_line g.name ++ g.rest) f (graph_stop m v g))
  header_alone n m w v f (inr (inr (inr (inl g)))) = absurd (no_header n w g.before (graph_line g.name ++ (g.stands).behind) f (sum_stop m v g))
  header_alone n m w v f (inr (inr (inr (inr g)))) = absurd (no_header n w g.before (closing ++ g.rest) f (rest_stop m v g))

  turned : (n m : ℕ) (w v : Why) → (m ≡ n) × (v ≡ w) → (n ≡ m) × (w ≡ v)
  turned n m w v p = (sym p.0, sym p.1)

  one_fault : (n m : ℕ) (w v : Why) → SessionFault bytes n w → SessionFault bytes m v → (n ≡ m) × (w ≡ v)
  one_fault n m w v (inl f) g = header_alone n m w v f g
  one_fault n m w v (inr f) (inl g) = turned n m w v (header_alone m n v w g (inr f))
  one_fault n m w v (inr (inl f)) (inr (inl g)) = two_lines n m w v f g
  one_fault n m w v (inr (inl f)) (inr (inr (inl g))) = absurd (line_no_graph n m w g.name g.rest g.before f (graph_stop m v g) g.named)
  one_fault n m w v (inr (inl f)) (inr (inr (inr (inl g)))) = absurd (line_no_graph n m w g.name (g.stands).behind g.before f (sum_stop m v g) g.named)
  one_fault n m w v (inr (inl f)) (inr (inr (inr (inr g)))) = absurd (line_no_rest n m w v f g)
  one_fault n m w v (inr (inr (inl f))) (inr (inl g)) = absurd (line_no_graph m n v f.name f.rest f.before g (graph_stop n w f) f.named)
  one_fault n m w v (inr (inr (inl f))) (inr (inr (inl g))) = two_graphs n m w v f g
  one_fault n m w v (inr (inr (inl f))) (inr (inr (inr (inl g)))) = absurd (graph_no_sum n m w v f g)
  one_fault n m w v (inr (inr (inl f))) (inr (inr (inr (inr g)))) = absurd (graph_no_rest n m w v f g)
  one_fault n m w v (inr (inr (inr (inl f)))) (inr (inl g)) = absurd (line_no_graph m n v f.name (f.stands).behind f.before g (sum_stop n w f) f.named)
  one_fault n m w v (inr (inr (inr (inl f)))) (inr (inr (inl g))) = absurd (graph_no_sum m n v w g f)
  one_fault n m w v (inr (inr (inr (inl f)))) (inr (inr (inr (inl g)))) = two_sums n m w v f g
  one_fault n m w v (inr (inr (inr (inl f)))) (inr (inr (inr (inr g)))) = absurd (sum_no_rest n m w v f g)
  one_fault n m w v (inr (inr (inr (inr f)))) (inr (inl g)) = absurd (line_no_rest m n v w g f)
  one_fault n m w v (inr (inr (inr (inr f)))) (inr (inr (inl g))) = absurd (graph_no_rest m n v w g f)
  one_fault n m w v (inr (inr (inr (inr f)))) (inr (inr (inr (inl g)))) = absurd (sum_no_rest m n v w g f)
  one_fault n m w v (inr (inr (inr (inr f)))) (inr (inr (inr (inr g)))) = two_rests n m w v f g

  pub one_session : OneSession bytes
  one_session = record {
    one_session = λ es fs x y. (same_stop bytes es fs (closing ++ []) (closing ++ []) (text_stop es x) (text_stop fs y)).0;
    not_both = not_both;
    one_fault = one_fault;
  }
