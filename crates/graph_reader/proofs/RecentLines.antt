-- What the words that were last looked up name behind a line more.
use Rattle.std.proofs.Common.{◌≡◌, ℕ, false, List, [], ◌∷◌, refl, sym, ◌∙◌, subst}
use Rattle.std.specs.Prelude.{Result, Ok, Err, OnOk}
use Rattle.graph_terms.specs.Graph.{GraphValue}
use Rattle.graph_terms.specs.Fits.{with_line}
use Rattle.graph_terms.specs.declared.verb.Line.{Line}
use Rattle.graph_words.specs.Words.{pieces}
use Rattle.word_meanings.specs.Lookups.{column_place}
use Rattle.word_meanings.specs.Recent.{IsRecent}
use Rattle.word_meanings.specs.declared.recent.Recent.{Recent}
use Rattle.graph_reader.specs.declared.item.ItemError.{ItemError}
use Rattle.graph_reader.specs.Reading.{IsOffered}

-- a line declares no column
column_stays : (g : GraphValue) (l : Line) (ps : List (List ℕ)) → column_place g false ps ≡ column_place (with_line g l) false ps
column_stays g l [] = refl
column_stays g l (p ∷ []) = refl
column_stays g l (p ∷ q ∷ []) = refl
column_stays g l (p ∷ q ∷ r ∷ rs) = refl

recent_stays : (g : GraphValue) (l : Line) (recent : Recent) → IsRecent g recent → IsRecent (with_line g l) recent
recent_stays g l recent h = (h.0 ∙ column_stays g l (pieces 46 recent.last.word.now), h.1 ∙ column_stays g l (pieces 46 recent.before.word.now))

-- so a line that is offered changes nothing of it
pub offered_recent : {T : Type 0} (g new : GraphValue) (l : Line) (r : Result T ItemError) (recent : Recent) → IsRecent g recent → IsOffered g l new r → OnOk r (IsRecent new recent)
offered_recent g new l (Ok u) recent h o = subst (λ x. IsRecent x recent) (sym o.1) (recent_stays g l recent h)
offered_recent g new l (Err e) recent h o = tt
