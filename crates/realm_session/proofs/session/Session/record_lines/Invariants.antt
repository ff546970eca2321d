use Rattle.std.proofs.Common.{◌≡◌, ◌≤◌, ◌++◌, map, take}
use Rattle.std.specs.Vec.{vec_capacity}
use Rattle.realm_session.specs.Recorded.{end_in, lines_in, AreNew}
use Rattle.realm_session.specs.Sessions.{HasMade}
use Rattle.realm_session.proofs.session.Session.record_lines.Given as goal

abbrev pub invariant-loop-line : goal.invariant-loop-line
invariant-loop-line l = record {
  made : HasMade l.self l.recorder (lines_in l.fn.recorder.graphs.items ++ l.lines.items);
  graphs : l.recorder.graphs ≡ l.fn.recorder.graphs;
  slots : l.recorder.slots ≡ l.fn.recorder.slots;
  ends : map end_in l.lines.items ≡ take l.line l.ends;
  room : vec_capacity l.fn.lines ≤ vec_capacity l.lines;
  new : AreNew l.fn.recorder.slots (lines_in l.fn.recorder.graphs.items) l.lines.items;
}
