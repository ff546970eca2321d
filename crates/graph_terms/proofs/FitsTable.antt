-- Whether the items of a graph fit, by computing.
use Rattle.std.proofs.Common.{◌≡◌, ℕ, ◌+◌, ◌^◌, Bool, true, not, ◌&&◌, List, [], ◌∷◌, ◌++◌, length, refl, sym}
use Rattle.std.specs.Prelude.{Option, Some, None, IsTrue, is_some, nat_le, nat_lt}
use Rattle.std.specs.List.{list_all, AllByRecursion}
use Rattle.std.proofs.lemmas.Bool.{true≢false, and_parts, leb-true, ltb-true}
use Rattle.index_spaces.specs.Space.{AscendAbove}
use Rattle.graph_terms.specs.declared.format.Format.{Format}
use Rattle.graph_terms.specs.declared.decl.Decl.{Decl}
use Rattle.graph_terms.specs.declared.decl.Decl.TheVariants.{Space, Inst, Lock, Barrier, Data}
use Rattle.graph_terms.specs.declared.verb.Line.{Line}
use Rattle.graph_terms.specs.declared.format.Format.TheVariants.{Three}
use Rattle.graph_terms.specs.Name.{is_name_in}
use Rattle.graph_terms.specs.Graph.{GraphValue}
use Rattle.graph_terms.proofs.FormatLaws.{later_names, three_is_last}
use Rattle.graph_terms.specs.Fits.{decl_fault, line_fault, IsDecl, is_decl_named, AreValues, verb_values, DeclsFit, LinesFit, IsGraph, is_called}

-- the intervals ascend
abbrev pub ascends : ℕ → List (ℕ × ℕ) → Bool
ascends low [] = true
ascends low (i ∷ s) = nat_le low i.0 && (nat_le i.0 i.1 && (nat_lt i.1 (2 ^ 32) && ascends (i.1 + 2) s))

ascends_by : (low : ℕ) (s : List (ℕ × ℕ)) → ascends low s ≡ true → AscendAbove low s
ascends_by low [] h = tt
ascends_by low (i ∷ s) h =
    let a = and_parts (nat_le low i.0) _ h in
    let b = and_parts (nat_le i.0 i.1) _ a.1 in
    let c = and_parts (nat_lt i.1 (2 ^ 32)) (ascends (i.1 + 2) s) b.1 in
    (leb-true low i.0 a.0, leb-true i.0 i.1 b.0, ltb-true i.1 (2 ^ 32) c.0, ascends_by (i.1 + 2) s c.1)

-- a name of a format is one of format 3
long_by : (fm : Format) (name : List ℕ) → is_name_in fm name ≡ true → IsTrue (is_name_in Three name)
long_by fm name h = later_names fm Three (three_is_last fm) name h

names_by : (fm : Format) (names : List (List ℕ)) → list_all (is_name_in fm) names ≡ true → AllByRecursion (λ f. IsTrue (is_name_in Three f)) names
names_by fm [] h = tt
names_by fm (name ∷ names) h = let a = and_parts (is_name_in fm name) (list_all (is_name_in fm) names) h in (long_by fm name a.0, names_by fm names a.1)

-- what the types say of a declaration's numbers, and of a line's
abbrev pub is_decl : Decl → Bool
is_decl (Space name space) = nat_lt 0 (length space) && ascends 0 space
is_decl (Inst name space fields) = nat_lt space (2 ^ 32)
is_decl (Data name space fields) = nat_lt space (2 ^ 32)
is_decl (Lock name) = true
is_decl (Barrier name count op first) = nat_lt count (2 ^ 32) && nat_lt first (2 ^ 64)

decl_by : (fm : Format) (d : Decl) → is_decl_named fm d ≡ true → is_decl d ≡ true → IsDecl d
decl_by fm (Space name space) n h =
    let b = and_parts (nat_lt 0 (length space)) (ascends 0 space) h in
    (long_by fm name n, (ltb-true 0 (length space) b.0, ascends_by 0 space b.1))
decl_by fm (Inst name space fields) n h =
    let a = and_parts (is_name_in fm name) (list_all (is_name_in fm) fields) n in
    (long_by fm name a.0, ltb-true space (2 ^ 32) h, names_by fm fields a.1)
decl_by fm (Data name space fields) n h =
    let a = and_parts (is_name_in fm name) (list_all (is_name_in fm) fields) n in
    (long_by fm name a.0, ltb-true space (2 ^ 32) h, names_by fm fields a.1)
decl_by fm (Lock name) n h = long_by fm name n
decl_by fm (Barrier name count op first) n h =
    let b = and_parts (nat_lt count (2 ^ 32)) (nat_lt first (2 ^ 64)) h in
    (long_by fm name n, ltb-true count (2 ^ 32) b.0, ltb-true first (2 ^ 64) b.1)

abbrev pub are_values : List ℕ → Bool
are_values [] = true
are_values (n ∷ []) = nat_lt n (2 ^ 64)
are_values (n ∷ m ∷ ms) = nat_lt n (2 ^ 64) && are_values (m ∷ ms)

values_by : (ns : List ℕ) → are_values ns ≡ true → AreValues ns
values_by [] h = tt
values_by (n ∷ []) h = ltb-true n (2 ^ 64) h
values_by (n ∷ m ∷ ms) h = let a = and_parts (nat_lt n (2 ^ 64)) (are_values (m ∷ ms)) h in (ltb-true n (2 ^ 64) a.0, values_by (m ∷ ms) a.1)

no_fault : {X : Type 0} (o : Option X) → not (is_some o) ≡ true → o ≡ None
no_fault None h = refl
no_fault (Some x) h = absurd (true≢false (sym h))

-- each item fits after those before it, and its names are those of the format
abbrev pub decls_fit : Format → List Decl → List Decl → Bool
decls_fit fm before [] = true
decls_fit fm before (d ∷ ds) = is_decl_named fm d && (is_decl d && (not (is_some (decl_fault (record { format = fm; decls = before; lines = [] }) d)) && decls_fit fm (before ++ d ∷ []) ds))

decls_by : (fm : Format) (before ds : List Decl) → decls_fit fm before ds ≡ true → DeclsFit fm before ds
decls_by fm before [] h = tt
decls_by fm before (d ∷ ds) h =
    let n = and_parts (is_decl_named fm d) _ h in
    let a = and_parts (is_decl d) _ n.1 in
    let b = and_parts (not (is_some (decl_fault (record { format = fm; decls = before; lines = [] }) d))) (decls_fit fm (before ++ d ∷ []) ds) a.1 in
    (decl_by fm d n.0 a.0, no_fault _ b.0, decls_by fm (before ++ d ∷ []) ds b.1, n.0)

abbrev pub lines_fit : Format → List Decl → List Line → List Line → Bool
lines_fit fm decls before [] = true
lines_fit fm decls before (l ∷ ls) = is_name_in fm l.name && (is_called l.verb && (are_values (verb_values l.verb) && (not (is_some (line_fault (record { format = fm; decls = decls; lines = before }) l)) && lines_fit fm decls (before ++ l ∷ []) ls)))

lines_by : (fm : Format) (decls : List Decl) (before ls : List Line) → lines_fit fm decls before ls ≡ true → LinesFit fm decls before ls
lines_by fm decls before [] h = tt
lines_by fm decls before (l ∷ ls) h =
    let a = and_parts (is_name_in fm l.name) _ h in
    let d = and_parts (is_called l.verb) _ a.1 in
    let b = and_parts (are_values (verb_values l.verb)) _ d.1 in
    let c = and_parts (not (is_some (line_fault (record { format = fm; decls = decls; lines = before }) l))) (lines_fit fm decls (before ++ l ∷ []) ls) b.1 in
    (record { named = long_by fm l.name a.0; values = values_by (verb_values l.verb) b.0; called = d.0 }, no_fault _ c.0, lines_by fm decls (before ++ l ∷ []) ls c.1, a.0)

pub fits_by_computing : (g : GraphValue) → decls_fit g.format [] g.decls ≡ true → lines_fit g.format g.decls [] g.lines ≡ true → IsGraph g
fits_by_computing g decls lines = record { decls = decls_by g.format [] g.decls decls; lines = lines_by g.format g.decls [] g.lines lines }
