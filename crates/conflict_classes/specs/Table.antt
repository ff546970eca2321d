-- What is looked up of a graph: its lines by place, their places, and the classes of their accesses.
use Rattle.graph_terms.specs.Graph.{GraphValue}
use Rattle.sweep_base.specs.Placed.{IsPlaced, ArePlaces}
use Rattle.conflict_classes.specs.Classes.{AreClasses, AreNear}
use Rattle.conflict_classes.specs.Guards.{AreGuards}
use Rattle.conflict_classes.specs.declared.lookups.Table.{Table}

-- the classes are those of the accesses of the lines below the limit
pub record IsTable (g : GraphValue) (t : Table) : Type 0 where
  pub placed : IsPlaced g t.lines.items
  pub places_are : ArePlaces t.lines.items t.places.items
  pub classes_are : AreClasses g t.limit t.lines.items t.keys.items t.classes.items t.sites.items t.begins.items
  pub near_are : AreNear g t.keys.items t.near.items
  pub guards_are : AreGuards g t.lines.items t.keys.items t.classes.items t.sites.items t.guards.items t.starts.items
