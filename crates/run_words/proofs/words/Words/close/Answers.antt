use Rattle.std.proofs.Common.{inl, inr, ⊎_elim}
use Rattle.run_words.proofs.words.Words.close.Goals as goal

pub returns : goal.returns
returns c = let l = c.leave.ensures in record {
  run = l.run;
  handled = l.handled;
  shown = l.shown;
  room = l.room;
  graph = l.graph;
  slots = l.slots;
  enough = l.enough;
  most = l.most;
  nothing_out = l.nothing_out;
  issued = λ i. ((λ knows. (l.issued i).0 knows.known), (λ h. record { known = (l.issued i).1 h }));
  ended = λ i x. ((λ knows. (l.ended i x).0 knows.known), (λ h. record { known = (l.ended i x).1 h }));
  times = λ i t. ((λ knows. (l.times i t).0 knows.known), (λ h. record { known = (l.times i t).1 h }));
  handles = λ hs knows. l.handles hs knows.known;
  all_handles = ⊎_elim (λ n. inl n) (λ h. inr (record { known = h })) l.all_handles;
  fates = l.fates;
}
