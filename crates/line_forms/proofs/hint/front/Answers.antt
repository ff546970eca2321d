use Rattle.std.proofs.Common.{sym, Bor, List, ℕ}
use Rattle.std.proofs.lemmas.List.{take-map}
use Rattle.line_forms.proofs.hint.front.Goals as goal

pub returns-then-n-words : goal.returns-then-n-words
returns-then-n-words c = sym (take-map (λ (r : Bor (List ℕ)). r.now) c.args.n c.args.words.now)
