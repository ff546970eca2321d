use Rattle.std.proofs.Common.{ap, sym, ◌∙◌}
use Rattle.std.specs.Prelude.{Some, None}
use Rattle.std.proofs.lemmas.Option.{slice_get-get_or, slice_get_past}
use Rattle.graph_terms.proofs.KindLaws.{access_got}
use Rattle.graph_terms.proofs.access.access_at.Goals as goal

pub returns-in-Some : goal.returns-in-Some
returns-in-Some c =
    let at = c.in-Some.ensures.lookup.3 in
    c.access_in.ensures
    ∙ sym (access_got c.args.places.now c.args.parts.now c.args.k (Some c.in-Some.place.now) c.requires
    (slice_get-get_or c.args.places.now c.args.k c.in-Some.place.now at.0 ∙ ap Some (sym (at.1 c.in-Some.place.now))))

pub returns-in-None : goal.returns-in-None
returns-in-None c = sym (access_got c.args.places.now c.args.parts.now c.args.k None c.requires (slice_get_past c.args.places.now c.args.k c.in-None.ensures.lookup.3))
