-- The words of reasons, rules and faults by their numbers.
use Rattle.std.specs.Prelude.{◌≡◌, ◌≢◌, ℕ, ◌≤◌, ◌⊎◌, List, codes}
use Rattle.graph_terms.specs.declared.why.Why.{Why}
use Rattle.race_check.specs.declared.checked.CheckRefusal.{CheckRefusal}
use Rattle.race_check.specs.declared.checked.CheckRefusal.TheVariants as rule
use Rattle.realm_audit.specs.declared.refusal.AuditRefusal.{AuditRefusal}
use Rattle.realm_audit.specs.declared.refusal.AuditRefusal.TheVariants as fault
use Rattle.graph_terms.specs.Spelling.{why_word}
use Rattle.c_answers.specs.Numbers.{why_number, rule_number, fault_number, rule_word, fault_word}

-- the word of the reason with this number, of which 14 is that for the text of a trace
abbrev pub IsReasonWord : ℕ → List ℕ → Type 0
IsReasonWord n word = ((why : Why) × (n ≡ why_number why) × (word ≡ why_word why)) ⊎ ((n ≡ 14) × (word ≡ codes "trace"))

-- the words of the rule, and of the fault of a trace, with this number; want of memory has none
abbrev pub IsRuleWord : ℕ → List ℕ → Type 0
IsRuleWord n word = (why : CheckRefusal) × (why ≢ rule.NoMemory) × (n ≡ rule_number why) × (word ≡ rule_word why)

abbrev pub IsFaultWord : ℕ → List ℕ → Type 0
IsFaultWord n word = (why : AuditRefusal) × (why ≢ fault.NoMemory) × (n ≡ fault_number why) × (word ≡ fault_word why)

-- the word of this kind and number
abbrev pub IsWord : ℕ → ℕ → List ℕ → Type 0
IsWord kind n word = ((kind ≡ 0) × IsReasonWord n word) ⊎ (((kind ≡ 1) × IsRuleWord n word) ⊎ ((kind ≡ 2) × IsFaultWord n word))

-- there is a word of this kind and number
abbrev pub HasWord : ℕ → ℕ → Type 0
HasWord kind n = ((kind ≡ 0) × (1 ≤ n) × (n ≤ 15)) ⊎ (((kind ≡ 1) × (1 ≤ n) × (n ≤ 6)) ⊎ ((kind ≡ 2) × (1 ≤ n) × (n ≤ 5)))
