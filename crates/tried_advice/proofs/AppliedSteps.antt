-- The lines of a graph, put one by one into the graph in which a form is followed.
use Rattle.std.proofs.Common.{◌≡◌, ℕ, zero, suc, ◌+◌, ◌≤◌, Bool, true, false, cond, List, [], ◌∷◌, ◌++◌, length, take, refl, sym, ◌∙◌, ap, subst, append_assoc, append-nil, arith}
use Rattle.std.specs.Prelude.{Option, Some, None, is_some, slice_get, IfSome}
use Rattle.std.proofs.lemmas.Bool.{true≢false}
use Rattle.std.proofs.lemmas.Option.{none-some, same_Some}
use Rattle.std.proofs.lemmas.List.{take_all}
use Rattle.graph_terms.specs.declared.decl.Decl.{Decl}
use Rattle.graph_terms.specs.declared.verb.Line.{Line}
use Rattle.graph_terms.specs.declared.why.Why.{Why}
use Rattle.graph_terms.specs.declared.format.Format.{Format}
use Rattle.graph_terms.specs.declared.format.Format.TheVariants.{One, Two, Three}
use Rattle.graph_terms.specs.Format.{has_since}
use Rattle.graph_terms.specs.Graph.{GraphValue}
use Rattle.graph_terms.specs.Name.{is_name_in}
use Rattle.graph_terms.specs.Fits.{line_fault, with_line, LinesFit, IsGraph}
use Rattle.graph_terms.proofs.Public.{three_is_last, later_names}
use Rattle.basics.proofs.ListParts.{take_more}
use Rattle.tried_advice.specs.declared.form.Form.{Form}
use Rattle.tried_advice.specs.Forms.{changed, changed_from, are_free, tried_format, applied}

-- the graph in which a form is followed, as far as its first lines
abbrev pub tried_lines : GraphValue → Form → ℕ → GraphValue
tried_lines g form k = record { format = tried_format g form; decls = g.decls; lines = take k (changed_from form 0 g.lines) }

changed_at : (form : Form) (n : ℕ) (ls : List Line) (k : ℕ) (l : Line) → slice_get ls k ≡ Some l → slice_get (changed_from form n ls) k ≡ Some (changed form (n + k) l)
changed_at form n [] k l at = absurd (none-some l at)
changed_at form n (x ∷ ls) zero l at =
    let same : n ≡ n + zero = omega arith in
    subst (λ m. Some (changed form n x) ≡ Some (changed form m l)) same (ap (λ y. Some (changed form n y)) (same_Some x l at))
changed_at form n (x ∷ ls) (suc k) l at =
    let same : n + 1 + k ≡ n + suc k = omega arith in
    subst (λ m. slice_get (changed_from form (n + 1) ls) k ≡ Some (changed form m l)) same (changed_at form (n + 1) ls k l at)

changed_here : (g : GraphValue) (form : Form) (k : ℕ) (l : Line) → slice_get g.lines k ≡ Some l → slice_get (changed_from form 0 g.lines) k ≡ Some (changed form k l)
changed_here g form k l at =
    let same : 0 + k ≡ k = omega arith in
    subst (λ m. slice_get (changed_from form 0 g.lines) k ≡ Some (changed form m l)) same (changed_at form 0 g.lines k l at)

changed_length : (form : Form) (n : ℕ) (ls : List Line) → length (changed_from form n ls) ≡ length ls
changed_length form n [] = refl
changed_length form n (x ∷ ls) = ap suc (changed_length form (n + 1) ls)

-- one more line
pub one_more : (g copy new : GraphValue) (form : Form) (k : ℕ) (l line : Line) → slice_get g.lines k ≡ Some l → copy ≡ tried_lines g form k → line ≡ changed form k l → new ≡ with_line copy line → new ≡ tried_lines g form (k + 1)
one_more g copy new form k l line at is same added =
    added ∙ (ap (λ x. with_line x line) is ∙ (ap (λ x. with_line (tried_lines g form k) x) same
    ∙ ap (λ (x : List Line). record { format = tried_format g form; decls = g.decls; lines = x }) (sym (take_more (changed_from form 0 g.lines) k (changed form k l) (changed_here g form k l at)))))

-- all of them
pub all_lines : (g copy : GraphValue) (form : Form) (k : ℕ) → copy ≡ tried_lines g form k → length g.lines ≤ k → copy ≡ applied g form
all_lines g copy form k is all =
    let size : length (changed_from form 0 g.lines) ≡ length g.lines = changed_length form 0 g.lines in
    let enough : length (changed_from form 0 g.lines) ≤ k = omega (arith, size, all) in
    is ∙ ap (λ (x : List Line). record { format = tried_format g form; decls = g.decls; lines = x }) (take_all k (changed_from form 0 g.lines) enough)

pub applied_length : (g h : GraphValue) (form : Form) → h ≡ applied g form → length h.lines ≡ length g.lines
applied_length g h form is = ap (λ (x : GraphValue). length x.lines) is ∙ changed_length form 0 g.lines

same_format : (f : Format) → has_since f f ≡ true
same_format One = refl
same_format Two = refl
same_format Three = refl

-- a form is tried in the format of the graph or in a later one
format_later : (f : Format) (free : Bool) → has_since f (cond free f Three) ≡ true
format_later f true = same_format f
format_later f false = three_is_last f

named_at : (fm : Format) (decls : List Decl) (before ls : List Line) → LinesFit fm decls before ls → (k : ℕ) (l : Line) → slice_get ls k ≡ Some l → is_name_in fm l.name ≡ true
named_at fm decls before [] f k l at = absurd (none-some l at)
named_at fm decls before (x ∷ ls) f zero l at = subst (λ (y : Line). is_name_in fm y.name ≡ true) (same_Some x l at) f.3
named_at fm decls before (x ∷ ls) f (suc k) l at = named_at fm decls (before ++ x ∷ []) ls f.2 k l at

-- the name of a line is one in the format in which the form is tried
pub name_fits : (g copy : GraphValue) (form : Form) (k : ℕ) (l line : Line) → IsGraph g → slice_get g.lines k ≡ Some l → copy ≡ tried_lines g form k → line ≡ changed form k l → is_name_in copy.format line.name ≡ true
name_fits g copy form k l line fits at is same =
    ap (λ (x : GraphValue). is_name_in x.format line.name) is
    ∙ (ap (λ (x : Line). is_name_in (tried_format g form) x.name) same
    ∙ later_names g.format (tried_format g form) (format_later g.format (are_free g form)) l.name (named_at g.format g.decls [] g.lines fits.lines k l at))

fits_at : (fm : Format) (decls : List Decl) (before ls : List Line) → LinesFit fm decls before ls → (k : ℕ) (l : Line) → slice_get ls k ≡ Some l →
    line_fault (record { format = fm; decls = decls; lines = before ++ take k ls }) l ≡ None
fits_at fm decls before [] f k l at = absurd (none-some l at)
fits_at fm decls before (x ∷ ls) f zero l at =
    subst (λ b. line_fault (record { format = fm; decls = decls; lines = b }) l ≡ None) (sym (append-nil before))
    (subst (λ y. line_fault (record { format = fm; decls = decls; lines = before }) y ≡ None) (same_Some x l at) f.1)
fits_at fm decls before (x ∷ ls) f (suc k) l at =
    subst (λ b. line_fault (record { format = fm; decls = decls; lines = b }) l ≡ None) (append_assoc before (x ∷ []) (take k ls))
    (fits_at fm decls (before ++ x ∷ []) ls f.2 k l at)

-- where a line is refused, the graph in which the form is followed is none
pub unfit : (g copy : GraphValue) (form : Form) (k : ℕ) (l line : Line) (o : Option Why) → slice_get g.lines k ≡ Some l → copy ≡ tried_lines g form k → line ≡ changed form k l → o ≡ line_fault copy line → is_some o ≡ true → IsGraph (applied g form) → ⊥
unfit g copy form k l line None at is same refused some fits = true≢false (sym some)
unfit g copy form k l line (Some w) at is same refused some fits =
    let none : line_fault (tried_lines g form k) (changed form k l) ≡ None = fits_at (tried_format g form) g.decls [] (changed_from form 0 g.lines) fits.lines k (changed form k l) (changed_here g form k l at) in
    none-some w (sym none ∙ (sym (ap (λ x. line_fault x line) is ∙ ap (line_fault (tried_lines g form k)) same) ∙ sym refused))

pub none_is : {X : Type 0} (o : Option X) → is_some o ≡ false → o ≡ None
none_is None e = refl
none_is (Some x) e = absurd (true≢false e)

-- what is some is this
pub tried_is : (g h : GraphValue) (form : Form) (o : Option GraphValue) → IfSome o (λ x. x ≡ applied g form) → o ≡ Some h → h ≡ applied g form
tried_is g h form None some is = absurd (none-some h is)
tried_is g h form (Some x) some is = subst (λ y. y ≡ applied g form) (same_Some x h is) some
