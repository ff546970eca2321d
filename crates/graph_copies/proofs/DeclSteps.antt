-- The declarations of a graph, put one by one into another.
use Rattle.std.proofs.Common.{◌≡◌, ℕ, zero, suc, ◌+◌, true, List, [], ◌∷◌, ◌++◌, take, sym, ◌∙◌, ap, subst, append_assoc, append-nil}
use Rattle.std.specs.Prelude.{Some, None, slice_get}
use Rattle.std.proofs.lemmas.Option.{none-some, same_Some}
use Rattle.graph_terms.specs.declared.decl.Decl.{Decl}
use Rattle.graph_terms.specs.declared.format.Format.{Format}
use Rattle.graph_terms.specs.Graph.{GraphValue}
use Rattle.graph_terms.specs.Fits.{decl_fault, is_decl_named, with_decl, IsDecl, DeclsFit}
use Rattle.basics.proofs.ListParts.{take_more}

-- a graph of these declarations without lines
abbrev of_decls : Format → List Decl → GraphValue
of_decls fm ds = record { format = fm; decls = ds; lines = [] }

fits_at : (fm : Format) (before ds : List Decl) → DeclsFit fm before ds → (k : ℕ) (d : Decl) → slice_get ds k ≡ Some d → IsDecl d × (decl_fault (of_decls fm (before ++ take k ds)) d ≡ None)
fits_at fm before [] f k d at = absurd (none-some d at)
fits_at fm before (e ∷ ds) f zero d at = (subst IsDecl (same_Some e d at) f.0, subst (λ x. decl_fault (of_decls fm x) d ≡ None) (sym (append-nil before)) (subst (λ x. decl_fault (of_decls fm before) x ≡ None) (same_Some e d at) f.1))
fits_at fm before (e ∷ ds) f (suc k) d at = let r = fits_at fm (before ++ e ∷ []) ds f.2 k d at in (r.0, subst (λ x. decl_fault (of_decls fm x) d ≡ None) (append_assoc before (e ∷ []) (take k ds)) r.1)

-- the next declaration fits, as it fits the graph that has it
pub decl_fits : (g : GraphValue) (fm : Format) (ds : List Decl) (k : ℕ) (d e : Decl) → DeclsFit fm [] ds → g ≡ of_decls fm (take k ds) → slice_get ds k ≡ Some d → e ≡ d → IsDecl e × (decl_fault g e ≡ None)
decl_fits g fm ds k d e f is at same =
    let r = fits_at fm [] ds f k d at in
    subst (λ x. IsDecl x × (decl_fault g x ≡ None)) (sym same) (r.0, subst (λ x. decl_fault x d ≡ None) (sym is) r.1)

-- and its names are names of the format
named_at : (fm : Format) (before ds : List Decl) → DeclsFit fm before ds → (k : ℕ) (d : Decl) → slice_get ds k ≡ Some d → is_decl_named fm d ≡ true
named_at fm before [] f k d at = absurd (none-some d at)
named_at fm before (e ∷ ds) f zero d at = subst (λ x. is_decl_named fm x ≡ true) (same_Some e d at) f.3
named_at fm before (e ∷ ds) f (suc k) d at = named_at fm (before ++ e ∷ []) ds f.2 k d at

pub decl_named : (g : GraphValue) (fm : Format) (ds : List Decl) (k : ℕ) (d e : Decl) → DeclsFit fm [] ds → g ≡ of_decls fm (take k ds) → slice_get ds k ≡ Some d → e ≡ d → is_decl_named g.format e ≡ true
decl_named g fm ds k d e f is at same = ap (λ (x : GraphValue). is_decl_named x.format e) is ∙ (ap (is_decl_named fm) same ∙ named_at fm [] ds f k d at)

pub decl_more : (g h : GraphValue) (fm : Format) (ds : List Decl) (k : ℕ) (d e : Decl) → g ≡ of_decls fm (take k ds) → slice_get ds k ≡ Some d → e ≡ d → h ≡ with_decl g e → h ≡ of_decls fm (take (k + 1) ds)
decl_more g h fm ds k d e is at same added = added ∙ (ap (λ x. with_decl x e) is ∙ (ap (λ x. with_decl (of_decls fm (take k ds)) x) same ∙ ap (λ x. of_decls fm x) (sym (take_more ds k d at))))
