-- The numbers by which C is told of rules, reasons and faults, and their words.
use Rattle.std.specs.Prelude.{ℕ, List, codes}
use Rattle.graph_terms.specs.declared.why.Why.{Why}
use Rattle.graph_terms.specs.declared.why.Why.TheVariants.{Header, Syntax, Name, Twice, Unknown, Kind, Number, Space, Outside, Arrivals, Limit, Missing, Rest, Meets}
use Rattle.race_check.specs.declared.checked.CheckRefusal.{CheckRefusal}
use Rattle.race_check.specs.declared.checked.CheckRefusal.TheVariants as rule
use Rattle.realm_audit.specs.declared.refusal.AuditRefusal.{AuditRefusal}
use Rattle.realm_audit.specs.declared.refusal.AuditRefusal.TheVariants as fault
use Rattle.c_answers.specs.declared.reading.Refusal.{Refusal}
use Rattle.c_answers.specs.declared.reading.Refusal.TheVariants as refusal
use Rattle.c_answers.specs.declared.verdict.Verdict.{Verdict}

-- the number of a reason; 14 is that for the text of a trace
abbrev pub why_number : Why → ℕ
why_number Header = 1
why_number Syntax = 2
why_number Name = 3
why_number Twice = 4
why_number Unknown = 5
why_number Kind = 6
why_number Number = 7
why_number Space = 8
why_number Outside = 9
why_number Arrivals = 10
why_number Limit = 11
why_number Missing = 12
why_number Rest = 13
why_number Meets = 15

-- the number of a rule
abbrev pub rule_number : CheckRefusal → ℕ
rule_number (rule.Cycle i) = 1
rule_number (rule.Unreleased i) = 2
rule_number (rule.Section i j) = 3
rule_number (rule.Descends i j) = 4
rule_number (rule.ReleaseFault i) = 5
rule_number (rule.Race i j) = 6
rule_number rule.NoMemory = 0

-- the lines that a broken rule names, 0 where it names fewer
abbrev pub first_line : CheckRefusal → ℕ
first_line (rule.Cycle i) = i
first_line (rule.Unreleased i) = i
first_line (rule.Section i j) = i
first_line (rule.Descends i j) = i
first_line (rule.ReleaseFault i) = i
first_line (rule.Race i j) = i
first_line rule.NoMemory = 0

abbrev pub second_line : CheckRefusal → ℕ
second_line (rule.Section i j) = j
second_line (rule.Descends i j) = j
second_line (rule.Race i j) = j
second_line _ = 0

-- the number of a fault of a trace
abbrev pub fault_number : AuditRefusal → ℕ
fault_number (fault.Repeat k) = 1
fault_number (fault.Waits k) = 2
fault_number (fault.Source k j) = 3
fault_number (fault.Overlap k q) = 4
fault_number (fault.Missing j) = 5
fault_number fault.NoMemory = 0

-- the place that a fault names, from 0, and the line; 0 where it names none
abbrev pub fault_place : AuditRefusal → ℕ
fault_place (fault.Repeat k) = k
fault_place (fault.Waits k) = k
fault_place (fault.Source k j) = k
fault_place (fault.Overlap k q) = k
fault_place _ = 0

abbrev pub fault_line : AuditRefusal → ℕ
fault_line (fault.Source k j) = j
fault_line (fault.Overlap k q) = q
fault_line (fault.Missing j) = j
fault_line _ = 0

-- nothing is told
abbrev pub nothing : Verdict
nothing = record { need = 0; rule = 0; first = 0; second = 0; line = 0; why = 0; fault = 0; place = 0 }

-- what is told of a refusal, of a need, of a refused line of a trace, and of a fault of a trace
abbrev pub verdict_of : Refusal → Verdict
verdict_of (refusal.Unread n why) = record nothing { line = n; why = why_number why }
verdict_of (refusal.Unfit why) = record nothing { rule = rule_number why; first = first_line why; second = second_line why }
verdict_of refusal.NoMemory = nothing

abbrev pub needing : ℕ → Verdict
needing n = record nothing { need = n }

abbrev pub no_trace : ℕ → Verdict
no_trace n = record nothing { line = n; why = 14 }

abbrev pub faulty : AuditRefusal → Verdict
faulty why = record nothing { fault = fault_number why; place = fault_place why; first = fault_line why }

-- the words of the rules by their numbers
abbrev pub rule_word : CheckRefusal → List ℕ
rule_word (rule.Cycle i) = codes "cycle"
rule_word (rule.Unreleased i) = codes "unreleased"
rule_word (rule.Section i j) = codes "section"
rule_word (rule.Descends i j) = codes "descends"
rule_word (rule.ReleaseFault i) = codes "release"
rule_word (rule.Race i j) = codes "race"
rule_word rule.NoMemory = codes ""

-- the words of the faults of a trace
abbrev pub fault_word : AuditRefusal → List ℕ
fault_word (fault.Repeat k) = codes "repeat"
fault_word (fault.Waits k) = codes "waits"
fault_word (fault.Source k j) = codes "source"
fault_word (fault.Overlap k q) = codes "overlap"
fault_word (fault.Missing j) = codes "missing"
fault_word fault.NoMemory = codes ""
