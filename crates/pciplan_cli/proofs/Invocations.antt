-- From the words to the line that is carried out.
use Rattle.std.proofs.Common.{◌≡◌, ◌⊎◌, inl, inr, List, ℕ, subst, sym}
use Rattle.std.specs.Prelude.{Result, Ok, Err, IfOk, IfErr, MatchResult}
use Rattle.std.proofs.lemmas.Result.{IfErr-at_err}
use Rattle.pciplan_words.specs.CommandWords.{HasNoLine}
use Rattle.pciplan_words.specs.Forms.{plain_words}
use Rattle.pciplan_cli.specs.Invocations.{IsRefusedLine, AreWordsRefused, HasBadWords}
use Rattle.pciplan_tasks.specs.Statuses.{status_of}
use Rattle.pciplan_cli.specs.declared.invocation.Invocation.{Invocation}
use Rattle.pciplan_tasks.specs.declared.failure.Failure.{Failure}
use Rattle.pciplan_tasks.specs.declared.failure.Failure.TheVariants.{Usage, Memory}

-- a word that is refused refuses the line
pub line_refused : (words : List (List ℕ)) (failure : Failure) → IsRefusedLine words failure → AreWordsRefused words failure
line_refused words failure = elim failure as (λ f. IsRefusedLine words f → AreWordsRefused words f) [
  | Memory ↦ λ refused. tt
  | Usage ↦ λ refused. inr refused
  | _ ↦ λ refused. refused
]

-- words are refused where those without their forms make no command line
pub none_without_forms : (words plain : List (List ℕ)) → plain ≡ plain_words words → (failure : Failure) → (failure ≡ Memory) ⊎ ((failure ≡ Usage) × HasNoLine plain) → AreWordsRefused words failure
none_without_forms words plain same failure either = elim either [
  | inl e ↦ subst (AreWordsRefused words) (sym e) tt
  | inr none ↦ subst (AreWordsRefused words) (sym none.0) (inl (subst HasNoLine same none.1))
]

-- what holds of the line that the words make holds of one that they make
pub with_line : {W E : Type 0} (P : W → Invocation → Type 0) (Q : Invocation → Type 0) (words : Result W E) (line : Invocation)
    → MatchResult words (λ given. P given line) (λ _. ⊥) → Q line → MatchResult words (λ given. (made : Invocation) × P given made × Q made) (λ _. ⊥)
with_line P Q (Ok given) line made fact = (line, made, fact)
with_line P Q (Err error) line made fact = made

pub with_line_ok : {W E : Type 0} (P : W → Invocation → Type 0) (Q : Invocation → Type 0) (B : W → Type 0) (words : Result W E) (line : Invocation)
    → MatchResult words (λ given. P given line) (λ _. ⊥) → Q line → IfOk words (λ given. B given ⊎ ((made : Invocation) × P given made × Q made))
with_line_ok P Q B (Ok given) line made fact = inr (line, made, fact)
with_line_ok P Q B (Err error) line made fact = elim made [ ]

-- words of which status 2 was said are bad
they_are_bad : (words : List (List ℕ)) → ((failure : Failure) × AreWordsRefused words failure × (2 ≡ status_of failure)) → HasBadWords words
they_are_bad words (failure, refused, status) = (failure, refused, sym status)

pub bad_words : (words : List (List ℕ)) (result : Result Invocation ℕ)
    → IfErr result (λ status. (failure : Failure) × AreWordsRefused words failure × (status ≡ status_of failure)) → result ≡ Err 2 → HasBadWords words
bad_words words result refused same =
    they_are_bad words (IfErr-at_err (λ status. (failure : Failure) × AreWordsRefused words failure × (status ≡ status_of failure)) same refused)
