-- Lines that are put into a graph one by one.
use Rattle.std.proofs.Common.{◌≡◌, Bool, true, false, cond, List, [], ◌∷◌, ◌++◌, refl, sym, ◌∙◌, ap, subst, append_assoc}
use Rattle.std.specs.Prelude.{Option, Some, None, is_some, IsTrue}
use Rattle.std.proofs.lemmas.Bool.{true≢false}
use Rattle.graph_terms.specs.declared.verb.Line.{Line}
use Rattle.graph_terms.specs.declared.why.Why.{Why}
use Rattle.graph_terms.specs.declared.why.Why.TheVariants.{Limit}
use Rattle.graph_terms.specs.Graph.{GraphValue}
use Rattle.graph_terms.specs.Name.{is_name_in}
use Rattle.graph_terms.specs.Fits.{is_beyond, line_fault, with_line}
use Rattle.task_flow.specs.Fitting.{lined, with_lines, AreToFit}
use Rattle.task_flow.proofs.Fitting.{beyond_more}

pub record PutStep (g0 g' : GraphValue) (yielded : List Line) (l : Line) (rest' : List Line) : Type 0 where
  pub graph : g' ≡ with_lines g0 (yielded ++ l ∷ [])
  pub fits : AreToFit g0.format g0.decls (g0.lines ++ (yielded ++ l ∷ [])) rest'
  pub within : is_beyond (with_lines g0 (yielded ++ l ∷ [])) ≡ false

module _ (g0 g : GraphValue) (yielded rest rest' : List Line) (l : Line) (is : g ≡ with_lines g0 yielded) (fits : AreToFit g0.format g0.decls (g0.lines ++ yielded) rest) (front : rest ≡ l ∷ rest') where
  both : (line_fault (with_lines g0 yielded) l ≡ cond (is_beyond (lined g0.format g0.decls ((g0.lines ++ yielded) ++ l ∷ []))) (Some Limit) None) × AreToFit g0.format g0.decls ((g0.lines ++ yielded) ++ l ∷ []) rest' × IsTrue (is_name_in g0.format l.name)
  both = subst (AreToFit g0.format g0.decls (g0.lines ++ yielded)) front fits

  pub put_named : IsTrue (is_name_in g.format l.name)
  put_named = subst (λ (z : GraphValue). is_name_in z.format l.name ≡ true) (sym is) both.2

  abbrev joined : (g0.lines ++ yielded) ++ l ∷ [] ≡ g0.lines ++ (yielded ++ l ∷ [])
  joined = append_assoc g0.lines yielded (l ∷ [])

  fault_is : line_fault g l ≡ cond (is_beyond (with_lines g0 (yielded ++ l ∷ []))) (Some Limit) None
  fault_is = ap (λ z. line_fault z l) is ∙ (both.0 ∙ ap (λ xs. cond (is_beyond (lined g0.format g0.decls xs)) (Some Limit) None) joined)

  pub put_goes : (g' : GraphValue) (fault : Option Why) → fault ≡ line_fault g l → is_some fault ≡ false → (line_fault g l ≡ None → g' ≡ with_line g l) → PutStep g0 g' yielded l rest'
  put_goes g' fault f none added = by (is_beyond (with_lines g0 (yielded ++ l ∷ []))) refl
    where
      by : (b : Bool) → is_beyond (with_lines g0 (yielded ++ l ∷ [])) ≡ b → PutStep g0 g' yielded l rest'
      by true e = absurd (true≢false (sym (ap is_some (f ∙ (fault_is ∙ ap (λ x. cond x (Some Limit) None) e))) ∙ none))
      by false e = record {
        graph = added (fault_is ∙ ap (λ x. cond x (Some Limit) None) e) ∙ (ap (λ z. with_line z l) is ∙ ap (λ xs. lined g0.format g0.decls xs) joined);
        fits = subst (λ xs. AreToFit g0.format g0.decls xs rest') joined both.1;
        within = e;
      }

  pub put_stops : (all : List Line) (fault : Option Why) → yielded ++ rest ≡ all → fault ≡ line_fault g l → is_some fault ≡ true → is_beyond (with_lines g0 all) ≡ true
  put_stops all fault whole f some = by (is_beyond (with_lines g0 (yielded ++ l ∷ []))) refl
    where
      by : (b : Bool) → is_beyond (with_lines g0 (yielded ++ l ∷ [])) ≡ b → is_beyond (with_lines g0 all) ≡ true
      by false e = absurd (true≢false (sym some ∙ ap is_some (f ∙ (fault_is ∙ ap (λ x. cond x (Some Limit) None) e))))
      by true e = subst (λ xs. is_beyond (lined g0.format g0.decls xs) ≡ true)
          (append_assoc g0.lines (yielded ++ l ∷ []) rest' ∙ ap (λ xs. g0.lines ++ xs) (append_assoc yielded (l ∷ []) rest' ∙ (ap (λ xs. yielded ++ xs) (sym front) ∙ whole)))
          (beyond_more (with_lines g0 (yielded ++ l ∷ [])) rest' e)
