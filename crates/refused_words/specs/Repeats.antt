-- The words of a line that were seen, as events and as columns.
use Rattle.std.specs.Prelude.{◌≡◌, ℕ, ◌<◌, Bool, true, List, [], Option, slice_index_or}
use Rattle.std.specs.List.{list_any}
use Rattle.std.specs.Str.{bytes_eq}
use Rattle.graph_terms.specs.declared.format.Format.{Format}
use Rattle.graph_words.specs.Draft.{Place}
use Rattle.refused_words.specs.Places.{place_at}
use Rattle.refused_words.specs.Refused.{is_event, is_column}

-- these are just those of the first n words that stand in such a place
pub record AreListed (is : Option Place → Bool) (format : Format) (ws : List (List ℕ)) (n : ℕ) (seen : List (List ℕ)) : Type 0 where
  pub sound : (w : List ℕ) → list_any (bytes_eq w) seen ≡ true → (j : ℕ) × (j < n) × (is (place_at format ws j) ≡ true) × (slice_index_or ws j [] ≡ w)
  pub complete : (j : ℕ) → j < n → is (place_at format ws j) ≡ true → list_any (bytes_eq (slice_index_or ws j [])) seen ≡ true

pub record AreSeen (format : Format) (ws : List (List ℕ)) (n : ℕ) (es cs : List (List ℕ)) : Type 0 where
  pub events : AreListed is_event format ws n es
  pub columns : AreListed is_column format ws n cs
