-- The words that tell what a line is, and the nearest of them.
use Rattle.std.specs.Prelude.{ℕ, ◌==◌, nat_eq, nat_le, cond, List, [], ◌∷◌, ◌++◌, length, take, filter, flat_map, codes}
use Rattle.strsim.specs.Edits.{levenshtein_row}
use Rattle.graph_terms.specs.declared.format.Format.{Format}
use Rattle.graph_terms.specs.declared.format.Format.TheVariants.{Three}
use Rattle.line_forms.specs.declared.vocabulary.Vocabulary.{Vocabulary}
use Rattle.line_forms.specs.declared.vocabulary.Vocabulary.TheVariants.{Starts, Verbs, Kernels}
use Rattle.line_forms.specs.Hint.{before_space}

-- those that a format has, in the language's order
abbrev pub vocabulary_words : Format → Vocabulary → List (List ℕ)
vocabulary_words Three Starts = codes "space" ∷ codes "inst" ∷ codes "data" ∷ codes "lock" ∷ codes "barrier" ∷ codes "end" ∷ []
vocabulary_words Three Verbs =
    codes "user" ∷ codes "trigger" ∷ codes "cancel" ∷ codes "merge" ∷ codes "mergei" ∷ codes "phase" ∷ codes "arrive" ∷ codes "acquire"
    ∷ codes "release" ∷ codes "fill" ∷ codes "copy" ∷ codes "reduce" ∷ codes "task" ∷ codes "call" ∷ []
vocabulary_words format Starts = codes "space" ∷ codes "inst" ∷ codes "lock" ∷ codes "barrier" ∷ codes "end" ∷ []
vocabulary_words format Verbs =
    codes "user" ∷ codes "trigger" ∷ codes "cancel" ∷ codes "merge" ∷ codes "mergei" ∷ codes "phase" ∷ codes "arrive" ∷ codes "acquire"
    ∷ codes "release" ∷ codes "fill" ∷ codes "copy" ∷ codes "reduce" ∷ codes "task" ∷ []
vocabulary_words format Kernels = codes "iota" ∷ codes "axpy" ∷ codes "stencil" ∷ codes "scan" ∷ codes "hist" ∷ codes "dot" ∷ codes "expect" ∷ codes "gather" ∷ []

abbrev pub vocabulary_text : Format → Vocabulary → List ℕ
vocabulary_text Three Starts = codes "a line begins with space, inst, data, lock, barrier or end, or with NAME =\n"
vocabulary_text Three Verbs = codes "the verbs are user, trigger, cancel, merge, mergei, phase, arrive, acquire, release, fill, copy, reduce, task and call\n"
vocabulary_text format Starts = codes "a line begins with space, inst, lock, barrier or end, or with NAME =\n"
vocabulary_text format Verbs = codes "the verbs are user, trigger, cancel, merge, mergei, phase, arrive, acquire, release, fill, copy, reduce and task\n"
vocabulary_text format Kernels = codes "the kernels are iota, axpy, stencil, scan, hist, dot, expect and gather\n"

-- the least number of letters that are put in, taken out or replaced to make one word the other
abbrev pub distance : List ℕ → List ℕ → ℕ
distance v w = levenshtein_row nat_eq v w (length w)

-- the words at this distance
abbrev pub words_at : ℕ → List ℕ → List (List ℕ) → List (List ℕ)
words_at d w vs = filter (λ v. distance v w == d) vs

-- those at 1 and 2, at most 3 of them, the nearest first
abbrev pub near : List ℕ → List (List ℕ) → List (List ℕ)
near w vs = take 3 (words_at 1 w vs ++ words_at 2 w vs)

-- the same, and none of a word that is longer than any name
abbrev pub nearest : List ℕ → List (List ℕ) → List (List ℕ)
nearest w vs = cond (nat_le (length w) 31) (near w vs) []

-- what is told of them
abbrev pub nearest_text : List (List ℕ) → List ℕ
nearest_text [] = []
nearest_text (v ∷ vs) = codes "near it:" ++ (flat_map before_space (v ∷ vs) ++ codes "\n")
