-- The lines for a graph of a session that breaks a rule.
use Rattle.std.specs.Prelude.{ℕ, List, [], ◌∷◌, Option, Some, None, codes}
use Rattle.graph_terms.specs.Graph.{GraphValue}
use Rattle.graph_terms.specs.Spelling.{spelled, line_name}
use Rattle.race_check.specs.declared.checked.CheckRefusal.{CheckRefusal}
use Rattle.race_check.specs.declared.checked.CheckRefusal.TheVariants as refusal
use Rattle.session_run.specs.declared.session.UnfitGraph.{UnfitGraph}

-- the line for a rule that one line of a graph of a session breaks, with the name of the graph, and for a rule that two lines break
abbrev pub broken_by_one_in : GraphValue → List ℕ → ℕ → List ℕ → List ℕ
broken_by_one_in g rule i name = spelled (codes "refused" ∷ rule ∷ line_name g i ∷ codes "in" ∷ name ∷ [])

abbrev pub broken_by_two_in : GraphValue → List ℕ → ℕ → ℕ → List ℕ → List ℕ
broken_by_two_in g rule i j name = spelled (codes "refused" ∷ rule ∷ line_name g i ∷ line_name g j ∷ codes "in" ∷ name ∷ [])

-- the line for a graph of this name that breaks a rule; want of memory has none
abbrev pub unfit_in_by : GraphValue → List ℕ → CheckRefusal → Option (List ℕ)
unfit_in_by g name (refusal.Cycle i) = Some (broken_by_one_in g (codes "cycle") i name)
unfit_in_by g name (refusal.Unreleased i) = Some (broken_by_one_in g (codes "unreleased") i name)
unfit_in_by g name (refusal.Section i j) = Some (broken_by_two_in g (codes "section") i j name)
unfit_in_by g name (refusal.Descends i j) = Some (broken_by_two_in g (codes "descends") i j name)
unfit_in_by g name (refusal.ReleaseFault i) = Some (broken_by_one_in g (codes "release") i name)
unfit_in_by g name (refusal.Race i j) = Some (broken_by_two_in g (codes "race") i j name)
unfit_in_by g name refusal.NoMemory = None

-- the same of a graph of a session
abbrev pub unfit_in_text : UnfitGraph → Option (List ℕ)
unfit_in_text u = unfit_in_by u.graph u.name u.why
