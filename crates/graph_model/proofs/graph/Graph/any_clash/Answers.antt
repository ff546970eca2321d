use Rattle.std.proofs.Common.{sym, ◌∙◌, ap, arith, List, Bor}
use Rattle.std.specs.List.{list_any}
use Rattle.std.proofs.lemmas.List.{length-take-le, take_all}
use Rattle.graph_terms.specs.declared.verb.Access.{Access}
use Rattle.graph_terms.specs.Fits.{repeats, data_unknown, accesses_clash}
use Rattle.graph_terms.specs.declared.limits.TheConstants.{MAX_COMPARED_ACCESSES}
use Rattle.graph_model.proofs.CallLaws.{first_known}
use Rattle.graph_model.proofs.graph.Graph.any_clash.Goals as goal
use Rattle.graph_model.proofs.graph.Graph.any_clash.Goals.{then-most-accesses, else-most-accesses}

pub slice_bounds-rest-end : goal.slice_bounds-rest-end
slice_bounds-rest-end c = sym (length-take-le 64 c.args.accesses.now (omega (arith, c.if-most-accesses.true)))

-- the accesses behind a borrow
abbrev at : Bor (List Access) → List Access
at b = b.now

pub loop-rest-init : goal.loop-rest-init
loop-rest-init c =
    let g = c.args.self.now in
    let given = c.args.accesses.now in
    elim c.if-most-accesses.branch [
      | then-most-accesses w ↦ record {
        same = ap (repeats (accesses_clash g)) (sym (ap at w.rest-is));
        known = ap (list_any (data_unknown g)) (ap at w.rest-is) ∙ first_known g MAX_COMPARED_ACCESSES given c.requires;
      }
      | else-most-accesses w ↦ record {
        same = ap (repeats (accesses_clash g)) (take_all MAX_COMPARED_ACCESSES given w.if-most-accesses.false ∙ sym (ap at w.rest-is));
        known = ap (list_any (data_unknown g)) (ap at w.rest-is) ∙ c.requires;
      }
    ]
