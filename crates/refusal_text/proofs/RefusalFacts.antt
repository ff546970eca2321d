-- Texts of lines and of sections.
use Rattle.std.proofs.Common.{◌≡◌, ℕ, ◌+◌, ◌<◌, ◌≤◌, true, false, List, [], ◌∷◌, ◌++◌, length, take, cond, refl, sym, ◌∙◌, ap, append_assoc, arith}
use Rattle.std.specs.Prelude.{slice_index, codes, flat_map, ◌==◌, Option, Some, None, is_some}
use Rattle.std.proofs.lemmas.Bool.{true≢false, eqb-true}
use Rattle.std.proofs.lemmas.List.{take_more, take_all, append-nil}
use Rattle.std.proofs.lemmas.Grind.{flat_map-append}
use Rattle.graph_terms.specs.declared.format.Format.TheVariants.{Three}
use Rattle.graph_terms.specs.Format.{has_since}
use Rattle.graph_terms.specs.Graph.{GraphValue}
use Rattle.explain_text.specs.TextLines.{TextLines}
use Rattle.explain_text.specs.Lines.{by_number, numbered}
use Rattle.explain_text.proofs.Public.{then_put}
use Rattle.tried_advice.specs.declared.form.Form.{Form}
use Rattle.explain_graph.specs.declared.reasons.Sections.{Sections}
use Rattle.refusal_text.specs.Refused.{lines_text, few_lines_text, in_sections, waited, on_line, on_merge, advice_by, named_text}

-- no line, and one more
pub lines_begin : (g : GraphValue) (ls : TextLines) (old : List ℕ) → old ≡ old ++ lines_text g ls []
lines_begin g ls old = sym (append-nil old)

lines_push : (g : GraphValue) (ls : TextLines) (is : List ℕ) (i : ℕ) → lines_text g ls (is ++ i ∷ []) ≡ lines_text g ls is ++ numbered g ls i
lines_push g ls [] i = append-nil (numbered g ls i)
lines_push g ls (x ∷ is) i = ap (λ z. numbered g ls x ++ z) (lines_push g ls is i) ∙ sym (append_assoc (numbered g ls x) (lines_text g ls is) (numbered g ls i))

pub lines_more : (g : GraphValue) (ls : TextLines) (old mid new : List ℕ) (is : List ℕ) (k : ℕ) → k < length is → mid ≡ old ++ lines_text g ls (take k is) → new ≡ mid ++ numbered g ls (slice_index is k) →
    new ≡ old ++ lines_text g ls (take (k + 1) is)
lines_more g ls old mid new is k below first second =
    then_put old mid new (lines_text g ls (take k is)) (numbered g ls (slice_index is k)) first second
    ∙ ap (λ z. old ++ z) (sym (ap (lines_text g ls) (take_more is k 0 below) ∙ lines_push g ls (take k is) (slice_index is k)))

pub lines_end : (g : GraphValue) (ls : TextLines) (old new : List ℕ) (is : List ℕ) (k : ℕ) → length is ≤ k → new ≡ old ++ lines_text g ls (take k is) → new ≡ old ++ lines_text g ls is
lines_end g ls old new is k past e = e ∙ ap (λ xs. old ++ lines_text g ls xs) (take_all k is past)

-- the sections of a line, of which there are none or some
pub in_none : (g : GraphValue) (ls : TextLines) (i : ℕ) (qs : List ℕ) → (length qs == 0) ≡ true → by_number g ls i ++ codes " lies in no section\n" ≡ in_sections g ls i qs
in_none g ls i [] e = refl
in_none g ls i (q ∷ qs) e = absurd (let z : length (q ∷ qs) ≡ 0 = eqb-true (length (q ∷ qs)) 0 e in omega arith)

pub in_some : (g : GraphValue) (ls : TextLines) (i : ℕ) (qs : List ℕ) → (length qs == 0) ≡ false → by_number g ls i ++ (codes " lies in the section of\n" ++ few_lines_text g ls qs) ≡ in_sections g ls i qs
in_some g ls i [] e = absurd (true≢false e)
in_some g ls i (q ∷ qs) e = refl

-- the sections of two lines, where nothing orders them that was tried
pub named_none : (g : GraphValue) (ls : TextLines) (s : Sections) (i j : ℕ) (o : Option Form) → is_some o ≡ false → in_sections g ls i s.first.items ++ in_sections g ls j s.second.items ≡ named_text g ls o s i j
named_none g ls s i j None e = refl
named_none g ls s i j (Some form) e = absurd (true≢false e)

-- what a line is to be on, which is on no line or on some
pub advice_bare : (g : GraphValue) (on : List ℕ) (i : ℕ) → (length on == 0) ≡ true → on_line g i (codes "\n") ≡ advice_by g on i
advice_bare g [] i e = refl
advice_bare g (x ∷ on) i e = absurd (let z : length (x ∷ on) ≡ 0 = eqb-true (length (x ∷ on)) 0 e in omega arith)

pub advice_too : (g : GraphValue) (on : List ℕ) (i : ℕ) → (length on == 0) ≡ false → has_since Three g.format ≡ true → on_line g i (codes " too\n") ≡ advice_by g on i
advice_too g [] i e h = absurd (true≢false e)
advice_too g (x ∷ on) i e h = sym (ap (λ b. cond b (on_line g i (codes " too\n")) (on_merge g x i)) h)

pub advice_merge : (g : GraphValue) (on : List ℕ) (i : ℕ) → (length on == 0) ≡ false → has_since Three g.format ≡ false → on_merge g (slice_index on 0) i ≡ advice_by g on i
advice_merge g [] i e h = absurd (true≢false e)
advice_merge g (x ∷ on) i e h = sym (ap (λ b. cond b (on_line g i (codes " too\n")) (on_merge g x i)) h)

-- the events that a release waits for, of which there are none or some
pub waited_none : (q : ℕ) (on : List ℕ) → (length on == 0) ≡ true → q ∷ [] ≡ waited q on
waited_none q [] e = refl
waited_none q (x ∷ on) e = absurd (let z : length (x ∷ on) ≡ 0 = eqb-true (length (x ∷ on)) 0 e in omega arith)

pub waited_some : (q : ℕ) (on : List ℕ) → (length on == 0) ≡ false → on ≡ waited q on
waited_some q [] e = absurd (true≢false e)
waited_some q (x ∷ on) e = refl

-- the text of one more number
pub each_more : (f : ℕ → List ℕ) (old mid new : List ℕ) (is : List ℕ) (k : ℕ) → k < length is → mid ≡ old ++ flat_map f (take k is) → new ≡ mid ++ f (slice_index is k) → new ≡ old ++ flat_map f (take (k + 1) is)
each_more f old mid new is k below first second =
    let pushed : flat_map f (take (k + 1) is) ≡ flat_map f (take k is) ++ f (slice_index is k) =
    ap (flat_map f) (take_more is k 0 below) ∙ (flat_map-append f (take k is) (slice_index is k ∷ []) ∙ ap (λ z. flat_map f (take k is) ++ z) (append-nil (f (slice_index is k)))) in
    then_put old mid new (flat_map f (take k is)) (f (slice_index is k)) first second ∙ ap (λ z. old ++ z) (sym pushed)
