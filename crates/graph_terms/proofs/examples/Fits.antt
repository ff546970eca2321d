-- The small graphs are graphs: each item fits.
use Rattle.std.proofs.Common.{refl}
use Rattle.std.specs.Fmt.{digits}
use Rattle.graph_terms.specs.Fits.{IsGraph}
use Rattle.graph_terms.proofs.examples.Graphs.{one_fill, racing_fills, two_sections}
use Rattle.graph_terms.proofs.FitsTable.{fits_by_computing}

pub one_fill-fits : IsGraph one_fill
unfolding digits
one_fill-fits = fits_by_computing one_fill refl refl

-- a race is no matter of the text
racing_fills-fits : IsGraph racing_fills
unfolding digits
racing_fills-fits = fits_by_computing racing_fills refl refl

pub two_sections-fits : IsGraph two_sections
unfolding digits
two_sections-fits = fits_by_computing two_sections refl refl
