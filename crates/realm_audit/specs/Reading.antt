-- Bytes as the text of a trace, and the first line with which no such text begins.
use Rattle.std.specs.Prelude.{◌≡◌, ℕ, zero, suc, ◌<◌, ◌==◌, Bool, false, cond, List, [], ◌∷◌, ◌++◌, length, Option, Some, None, option_map, slice_get}
use Rattle.std.specs.List.{list_any}
use Rattle.graph_terms.specs.Graph.{GraphValue}
use Rattle.graph_terms.specs.Fits.{IsGraph}
use Rattle.graph_terms.specs.Spelling.{line_name}
use Rattle.realm_audit.specs.Text.{at_text, trace_text}
use Rattle.realm_audit.specs.declared.reading.TraceRefusal.{TraceRefusal}
use Rattle.realm_audit.specs.declared.reading.TraceRefusal.TheVariants.{Line, NoMemory}

-- each item is the number of a line of the graph
abbrev pub AreLines : GraphValue → List ℕ → Type 0
AreLines g trace = (k i : ℕ) → slice_get trace k ≡ Some i → i < length g.lines

-- a newline is among the bytes
abbrev pub has_newline : List ℕ → Bool
has_newline bytes = list_any (λ b. b == 10) bytes

-- the bytes before the first newline, and those behind it
pub record IsFirstLine (bytes line after : List ℕ) : Type 0 where
  pub one_line : has_newline line ≡ false
  pub bytes_are : bytes ≡ line ++ 10 ∷ after

-- no item of a line of the graph begins the bytes
abbrev pub BeginsNoItem : GraphValue → List ℕ → Type 0
BeginsNoItem g bytes = (i : ℕ) (after : List ℕ) → i < length g.lines → bytes ≡ at_text (line_name g i) ++ after → ⊥

-- the first n lines of the bytes, each with its newline; None where there are fewer
abbrev pub front : ℕ → List ℕ → Option (List ℕ)
front zero bytes = Some []
front (suc n) [] = None
front (suc n) (b ∷ bytes) = option_map (λ more. b ∷ more) (front (cond (b == 10) n (suc n)) bytes)

-- the first n lines of the bytes begin the text of a trace of the graph
pub record BeginsText (g : GraphValue) (n : ℕ) (bytes : List ℕ) : Type 0 where
  pub trace : List ℕ
  pub lines : List ℕ
  pub rest : List ℕ
  pub are_lines : AreLines g trace
  pub front_is : front n bytes ≡ Some lines
  pub text_is : lines ++ rest ≡ trace_text g trace

-- n is the least number of lines that begin no text of a trace
pub record IsTraceFault (g : GraphValue) (bytes : List ℕ) (n : ℕ) : Type 0 where
  pub fails : BeginsText g n bytes → ⊥
  pub before : (m : ℕ) → m < n → BeginsText g m bytes

-- the bytes are the text of no trace of the graph
abbrev pub IsNoText : GraphValue → List ℕ → Type 0
IsNoText g bytes = (trace : List ℕ) → AreLines g trace → trace_text g trace ≡ bytes → ⊥

-- what is said of bytes that are refused
abbrev pub IsRefusal : GraphValue → List ℕ → TraceRefusal → Type 0
IsRefusal g bytes (Line n) = IsTraceFault g bytes n × IsNoText g bytes
IsRefusal g bytes NoMemory = Unit {0}

-- a trace is told by its text
abbrev pub TextTells : Type 0
TextTells = (g : GraphValue) → IsGraph g → (trace other : List ℕ) → AreLines g trace → AreLines g other → trace_text g trace ≡ trace_text g other → trace ≡ other
