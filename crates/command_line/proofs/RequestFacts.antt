-- What a parse of the command gives.
use Rattle.std.proofs.Common.{◌≡◌, ◌⊎◌, List, [], ◌∷◌, Option, Some, None, Result, refl, sym, ◌∙◌, ap, subst, inl, inr}
use Rattle.std.specs.Prelude.{MatchResult, IfSome, IfOk}
use Rattle.std.specs.Option.{ok_or}
use Rattle.clap.specs.Words.{App, Text, HasMatchesOf, found_of, rows_of, matches_of, fault_of, is_simple, Kinds, HasKind, IsAmong, kind_of}
use Rattle.clap.specs.declared.error.Error.{Error}
use Rattle.clap.specs.declared.error.kind.ErrorKind.{ErrorKind}
use Rattle.clap.specs.declared.parser.matches.ArgMatches.{ArgMatches}
use Rattle.command_line.specs.Request.{realm_command, request_in, if_faultless, request_of}
use Rattle.command_line.specs.Faults.{fault_by_kind}
use Rattle.command_line.specs.declared.WordsFault.{WordsFault}
use Rattle.command_line.specs.declared.WordsFault.TheVariants.{Usage, NoMemory}
use Rattle.command_line.specs.declared.request.Request.{Request}

-- the matches of words that are taken
pub matched : (app : App) (words : List Text) (m : ArgMatches) → app ≡ realm_command → HasMatchesOf app words m → fault_of app words ≡ [] → request_in (rows_of (found_of m)) ≡ request_of words
matched app words m e h f =
    ap request_in ((h (ap is_simple e)).0 ∙ ap (λ a. matches_of a words) e)
    ∙ sym (ap (λ ks. if_faultless ks (request_in (matches_of realm_command words))) (sym (ap (λ a. fault_of a words) e) ∙ f))

-- and their request, if each value can be read
pub requested : (r : Result Request WordsFault) (o : Option Request) (words : List Text) → r ≡ ok_or o Usage → o ≡ request_of words →
    MatchResult r (λ q. request_of words ≡ Some q) (λ fault. (fault ≡ NoMemory) ⊎ (request_of words ≡ None))
requested r (Some q) words e f = subst (λ x. MatchResult x (λ q. request_of words ≡ Some q) (λ fault. (fault ≡ NoMemory) ⊎ (request_of words ≡ None))) (sym e) (sym f)
requested r None words e f = subst (λ x. MatchResult x (λ q. request_of words ≡ Some q) (λ fault. (fault ≡ NoMemory) ⊎ (request_of words ≡ None))) (sym e) (inr (sym f))

-- of which holds what holds of what was found
pub ranged : (P : Request → Type 0) (r : Result Request WordsFault) (o : Option Request) → r ≡ ok_or o Usage → IfSome o P → IfOk r P
ranged P r (Some q) e h = subst (λ x. IfOk x P) (sym e) h
ranged P r None e h = subst (λ x. IfOk x P) (sym e) tt

among : (k : ErrorKind) (ks : Kinds) (o : Option Request) → IsAmong k ks → if_faultless ks o ≡ None
among k [] o a = absurd a
among k (x ∷ xs) o a = refl

-- words that are refused, or want of memory
pub refused : (app : App) (words : List Text) (error : Error) (fault : WordsFault) → app ≡ realm_command → fault ≡ fault_by_kind (kind_of error) → HasKind (fault_of app words) error → (fault ≡ NoMemory) ⊎ (request_of words ≡ None)
refused app words error fault e f (inl k) = inl (f ∙ ap fault_by_kind k)
refused app words error fault e f (inr a) = inr (among (kind_of error) (fault_of realm_command words) (request_in (matches_of realm_command words)) (subst (λ x. IsAmong (kind_of error) (fault_of x words)) e a))
