use Rattle.std.proofs.Common.{ℕ, List, ◌∷◌, ap, sym, ◌∙◌}
use Rattle.atomic_table.specs.Table.{rest}
use Rattle.word_steps.specs.declared.content.Content.{Content}
use Rattle.word_steps.specs.declared.content.Content.TheVariants.{Nothing}
use Rattle.word_steps.proofs.table.WordTable.put_in.Goals as goal

pub exchange-old-requires : goal.exchange-old-requires
exchange-old-requires c = let t = c.requires.top in (c.requires.at.0, (Nothing, t.1 ∙ ap (λ (l : List (ℕ × Content)). (c.args.slot, Nothing) ∷ l) (sym (ap (λ (l : List (ℕ × Content)). rest l) t.1))))
