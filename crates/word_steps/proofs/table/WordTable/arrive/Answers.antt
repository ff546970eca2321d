use Rattle.std.proofs.Common.{arith, ◌+◌, ◌%◌, ◌^◌, ◌∙◌, refl}
use Rattle.std.specs.Prelude.{min, max}
use Rattle.index_spaces.specs.declared.Op.TheVariants as op
use Rattle.word_steps.proofs.AtKey.{arrive_step}
use Rattle.word_steps.proofs.table.WordTable.arrive.Goals as goal

pub fetch_add-requires : goal.fetch_add-requires
fetch_add-requires c = let m = c.requires.may in (
  c.requires.at.0,
  omega (arith, c.args.self.now.sized.0, c.value_word-word.ensures.there),
  arrive_step c.args.self.now _ _ c.args.phase c.args.value op.Sum (λ n. (n + c.args.value) % 2 ^ 64) _ m.0 (λ n. refl) m.1 c.requires.known m.2.0 m.2.1 m.2.2 m.2.3 (λ b y v g. c.requires.op b y v g ∙ c.in-Sum.is) _ c.value_word-word.ensures.word,
)

pub fetch_min-requires : goal.fetch_min-requires
fetch_min-requires c = let m = c.requires.may in (
  c.requires.at.0,
  omega (arith, c.args.self.now.sized.0, c.value_word-word.ensures.there),
  arrive_step c.args.self.now _ _ c.args.phase c.args.value op.Min (λ n. min n c.args.value) _ m.0 (λ n. refl) m.1 c.requires.known m.2.0 m.2.1 m.2.2 m.2.3 (λ b y v g. c.requires.op b y v g ∙ c.in-Min.is) _ c.value_word-word.ensures.word,
)

pub fetch_max-requires : goal.fetch_max-requires
fetch_max-requires c = let m = c.requires.may in (
  c.requires.at.0,
  omega (arith, c.args.self.now.sized.0, c.value_word-word.ensures.there),
  arrive_step c.args.self.now _ _ c.args.phase c.args.value op.Max (λ n. max n c.args.value) _ m.0 (λ n. refl) m.1 c.requires.known m.2.0 m.2.1 m.2.2 m.2.3 (λ b y v g. c.requires.op b y v g ∙ c.in-Max.is) _ c.value_word-word.ensures.word,
)
