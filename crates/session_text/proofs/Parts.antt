-- The parts of a session, one after the other: where they fit, and what was read behind them.
use Rattle.std.proofs.Common.{◌≡◌, ℕ, false, List, [], ◌∷◌, ◌++◌, map, drop, get_or, refl, sym, ◌∙◌, ap, subst, append_assoc, append-nil}
use Rattle.std.specs.Prelude.{Option, Some, None}
use Rattle.std.proofs.lemmas.Option.{none-some}
use Rattle.graph_terms.specs.Graph.{GraphValue}
use Rattle.graph_terms.specs.Fits.{IsGraph}
use Rattle.session_text.specs.declared.entry.Link.{Link}
use Rattle.session_text.specs.declared.entry.Entry.{Entry}
use Rattle.session_text.specs.Session.{Part, TheGraph, TheLink, entry_parts, parts_of}
use Rattle.session_text.specs.Fits.{is_large, graph_reason, with_link, bare_entry, LinksFit, EntryFits, EntriesFit, AreEntries}
use Rattle.session_text.specs.FirstFault.{with_last, last_reason}

-- what was read so far: the graphs before the last, and the last
pub record Spot : Type 0 where
  pub before : List Entry
  pub last : Option Entry

abbrev pub start : Spot
start = record { before = []; last = None }

abbrev pub all_at : Spot → List Entry
all_at s = with_last s.before s.last

abbrev pub after_link : List Entry → Option Entry → Link → Spot
after_link before None l = record { before = before; last = None }
after_link before (Some e) l = record { before = before; last = Some (with_link e l) }

abbrev pub after_part : Spot → Part → Spot
after_part s (TheGraph name g) = record { before = all_at s; last = Some (bare_entry name g) }
after_part s (TheLink l) = after_link s.before s.last l

abbrev pub after_parts : Spot → List Part → Spot
after_parts s [] = s
after_parts s (p ∷ ps) = after_parts (after_part s p) ps

-- a part fits there
pub record GraphFits (s : Spot) (name : List ℕ) (g : GraphValue) : Type 0 where
  pub named : graph_reason (all_at s) name ≡ None
  pub is_graph : IsGraph g
  pub short : is_large (all_at s ++ bare_entry name g ∷ []) ≡ false

abbrev pub PartFits : Spot → Part → Type 0
PartFits s (TheGraph name g) = GraphFits s name g
PartFits s (TheLink l) = last_reason s.before s.last l ≡ None

abbrev pub PartsFit : Spot → List Part → Type 0
PartsFit s [] = Unit {0}
PartsFit s (p ∷ ps) = PartFits s p × PartsFit (after_part s p) ps

-- the parts of graphs that fit
append_fit : (s : Spot) (ps qs : List Part) → PartsFit s ps → PartsFit (after_parts s ps) qs → PartsFit s (ps ++ qs)
append_fit s [] qs h k = k
append_fit s (p ∷ ps) qs h k = (h.0, append_fit (after_part s p) ps qs h.1 k)

after_append : (s : Spot) (ps qs : List Part) → after_parts s (ps ++ qs) ≡ after_parts (after_parts s ps) qs
after_append s [] qs = refl
after_append s (p ∷ ps) qs = after_append (after_part s p) ps qs

links_fit : (before : List Entry) (e : Entry) (ls : List Link) → LinksFit before e ls → PartsFit (record { before = before; last = Some e }) (map TheLink ls)
links_fit before e [] h = tt
links_fit before e (l ∷ ls) h = (h.0, links_fit before (with_link e l) ls h.1)

links_after : (before : List Entry) (e : Entry) (ls : List Link) → after_parts (record { before = before; last = Some e }) (map TheLink ls) ≡ record { before = before; last = Some (record { name = e.name; graph = e.graph; links = e.links ++ ls }) }
links_after before e [] = ap (λ (ks : List Link). record { before = before; last = Some (record { name = e.name; graph = e.graph; links = ks }) }) (sym (append-nil e.links))
links_after before e (l ∷ ls) =
    links_after before (with_link e l) ls
    ∙ ap (λ (ks : List Link). record { before = before; last = Some (record { name = e.name; graph = e.graph; links = ks }) }) (append_assoc e.links (l ∷ []) ls)

-- a graph with its links, where these were read
entry_after : (s : Spot) (e : Entry) → after_parts s (entry_parts e) ≡ record { before = all_at s; last = Some e }
entry_after s e = links_after (all_at s) (bare_entry e.name e.graph) e.links

entry_fits : (s : Spot) (e : Entry) → EntryFits (all_at s) e → PartsFit s (entry_parts e)
entry_fits s e f = (record { named = f.named; is_graph = f.is_graph; short = f.short }, links_fit (all_at s) (bare_entry e.name e.graph) e.links f.links)

fit_from : (s : Spot) (front es : List Entry) → all_at s ≡ front → EntriesFit front es → PartsFit s (parts_of es)
fit_from s front [] e h = tt
fit_from s front (x ∷ es) e h =
    append_fit s (entry_parts x) (parts_of es) (entry_fits s x (subst (λ (f : List Entry). EntryFits f x) (sym e) h.0))
    (subst (λ (t : Spot). PartsFit t (parts_of es)) (sym (entry_after s x)) (fit_from (record { before = all_at s; last = Some x }) (front ++ x ∷ []) es (ap (λ f. f ++ x ∷ []) e) h.1))

pub parts_fit : (es : List Entry) → AreEntries es → PartsFit start (parts_of es)
parts_fit es h = fit_from start [] es refl h

all_from : (s : Spot) (es : List Entry) → all_at (after_parts s (parts_of es)) ≡ all_at s ++ es
all_from s [] = sym (append-nil (all_at s))
all_from s (x ∷ es) =
    ap all_at (after_append s (entry_parts x) (parts_of es))
    ∙ (ap (λ t. all_at (after_parts t (parts_of es))) (entry_after s x) ∙ (all_from (record { before = all_at s; last = Some x }) es ∙ append_assoc (all_at s) (x ∷ []) es))

pub all_after : (es : List Entry) → all_at (after_parts start (parts_of es)) ≡ es
all_after es = all_from start es

-- what was read is told by the graphs, where the last one is named where there is one
first_from : (s : Spot) (es : List Entry) → (s.last ≡ None → s.before ≡ []) → (after_parts s (parts_of es)).last ≡ None → (after_parts s (parts_of es)).before ≡ []
first_from s [] f = f
first_from s (x ∷ es) f =
    subst (λ (t : Spot). t.last ≡ None → t.before ≡ []) (sym (after_append s (entry_parts x) (parts_of es) ∙ ap (λ t. after_parts t (parts_of es)) (entry_after s x)))
    (first_from (record { before = all_at s; last = Some x }) es (λ e. absurd (none-some x (sym e))))

empty_last : {X : Type 0} (xs : List X) (x : X) → xs ++ x ∷ [] ≡ [] → ⊥
empty_last [] x e = cc
empty_last (a ∷ xs) x e = cc

append_last : {X : Type 0} (xs ys : List X) (x y : X) → xs ++ x ∷ [] ≡ ys ++ y ∷ [] → (xs ≡ ys) × (x ≡ y)
append_last [] [] x y e = (refl, ap (λ z. get_or z 0 x) e)
append_last [] (b ∷ ys) x y e = absurd (empty_last ys y (sym (ap (drop 1) e)))
append_last (a ∷ xs) [] x y e = absurd (empty_last xs x (ap (drop 1) e))
append_last (a ∷ xs) (b ∷ ys) x y e =
    let r = append_last xs ys x y (ap (drop 1) e) in
    (ap (λ z. z ∷ xs) (ap (λ z. get_or z 0 a) e) ∙ ap (λ z. b ∷ z) r.0, r.1)

spot_by : (b c : List Entry) (o p : Option Entry) → (o ≡ None → b ≡ []) → (p ≡ None → c ≡ []) → with_last b o ≡ with_last c p → (b ≡ c) × (o ≡ p)
spot_by b c None None f h e = (e, refl)
spot_by b c None (Some y) f h e = absurd (empty_last c y (sym e ∙ f refl))
spot_by b c (Some x) None f h e = absurd (empty_last b x (e ∙ h refl))
spot_by b c (Some x) (Some y) f h e = let r = append_last b c x y e in (r.0, ap (λ z. Some z) r.1)

pub spot_of : (es : List Entry) (before : List Entry) (last : Option Entry) → (last ≡ None → before ≡ []) → es ≡ with_last before last → after_parts start (parts_of es) ≡ record { before = before; last = last }
spot_of es before last f e =
    let s : Spot = after_parts start (parts_of es) in
    let r = spot_by s.before before s.last last (first_from start es (λ _. refl)) f (all_after es ∙ e) in
    ap (λ b. record { before = b; last = s.last }) r.0 ∙ ap (λ (o : Option Entry). record { before = before; last = o }) r.1
