-- What clap's contracts tell of the words of the commands that take no texts.
use Rattle.std.proofs.Common.{◌≡◌, ◌⊎◌, ◌≢◌, List, [], true, false, Option, None, Some, Result, Ok, Err, MatchOption, MatchResult, refl, sym, ◌∙◌, ap, subst, inl, inr}
use Rattle.std.proofs.lemmas.Option.{none-some, same_Some}
use Rattle.std.specs.Prelude.{IfOk, ok_or}
use Rattle.clap.specs.Kinds.{HasKind}
use Rattle.clap.specs.Words.{AddsSubcommand, App, HasMatchesOf, IsAmong, Kinds, Row, Text, app_of, fault_of, is_simple, is_simple_and_free, kind_of, subcommand_of, subcommand_rows_of, with_subcommand}
use Rattle.clap.specs.declared.builder.command.Command.{Command}
use Rattle.clap.specs.declared.builder.command.Command.TheViews.{out-Command}
use Rattle.clap.specs.declared.error.Error.{Error}
use Rattle.clap.specs.declared.error.kind.ErrorKind.{ErrorKind}
use Rattle.clap.specs.declared.error.kind.ErrorKind.TheVariants.{OutOfMemory}
use Rattle.clap.specs.declared.parser.matches.ArgMatches.{ArgMatches}
use Rattle.clap.proofs.OnLiterals.{clap_on_literals}
use Rattle.pciplan_words.specs.FurtherWords.{further_commands, IsFurther, IsFurtherSaid, IsNoFurther}
use Rattle.pciplan_words.specs.declared.further.Further.{Further}
use Rattle.pciplan_words.specs.declared.asked.WordsFault.{WordsFault}
use Rattle.pciplan_words.specs.declared.asked.WordsFault.TheVariants.{Usage, Memory}
use Rattle.pciplan_words.proofs.CommandLines.{no_kind, with_sub}

-- clap's contracts are exact for these commands
pub further_are_simple : is_simple further_commands ≡ true
unfolding clap_on_literals
further_are_simple = refl

pub further_are_free : is_simple_and_free further_commands ≡ true
unfolding clap_on_literals
further_are_free = refl

-- with the last subcommand
pub last_sub : {E : Type 0} {app below : App} (old sub : Command) (made : Result Command E) → IfOk made (AddsSubcommand old sub) → app_of old ≡ app
    → app_of sub ≡ below → (out-Command sub).has_globals ≡ false → IfOk made (λ new. app_of new ≡ with_subcommand app below.top)
last_sub old sub (Ok new) adds old_is sub_is local = with_sub adds old_is sub_is local
last_sub old sub (Err error) adds old_is sub_is local = tt

-- the subcommand that the words name
pub further_entered : (command : Command) (words : List Text) (m : ArgMatches) → app_of command ≡ further_commands → HasMatchesOf (app_of command) words m
    → subcommand_rows_of m ≡ subcommand_of further_commands words
further_entered command words m is has = (has (ap is_simple is ∙ further_are_simple)).1 ∙ ap (λ (a : App). subcommand_of a words) is

pub further_fault : (command : Command) (words : List Text) → app_of command ≡ further_commands → fault_of (app_of command) words ≡ fault_of further_commands words
further_fault command words is = ap (λ (a : App). fault_of a words) is

-- words that a fault refuses, and of whose command nothing can be said
pub none_by_fault : (words : List Text) (kinds : Kinds) (k : ErrorKind) → kinds ≡ fault_of further_commands words → IsAmong k kinds → IsNoFurther words
none_by_fault words kinds k same among asked given = no_kind kinds k (same ∙ given.taken) among

pub none_by_none : (words : List Text) → subcommand_of further_commands words ≡ None → IsNoFurther words
none_by_none words none asked given = none-some (given.name, given.rows) (sym none ∙ given.entered)

pub none_by_said : (words : List Text) (name : Text) (rows : List Row) → subcommand_of further_commands words ≡ Some (name, rows)
    → ((asked : Further) → IsFurtherSaid name rows asked → ⊥) → IsNoFurther words
none_by_said words name rows entered none asked given =
    let same = same_Some (given.name, given.rows) (name, rows) (sym given.entered ∙ entered) in
    none asked (subst (λ (p : Text × List Row). IsFurtherSaid p.0 p.1 asked) same given.said)

-- what clap's error makes of the words
pub further_refused : (words : List Text) (kinds : Kinds) (error : Error) (fault : WordsFault) → kinds ≡ fault_of further_commands words → HasKind kinds error
    → ((kind_of error ≡ OutOfMemory) × (fault ≡ Memory)) ⊎ ((kind_of error ≢ OutOfMemory) × (fault ≡ Usage))
    → (fault ≡ Memory) ⊎ ((fault ≡ Usage) × IsNoFurther words)
further_refused words kinds error fault same has (inl gives) = inl gives.1
further_refused words kinds error fault same (inl memory) (inr gives) = absurd (gives.0 memory)
further_refused words kinds error fault same (inr among) (inr gives) = inr (gives.1, none_by_fault words kinds (kind_of error) same among)

-- what the words of the command give
pub further_is : (words : List Text) (name : Text) (rows : List Row) (given : Option Further) → fault_of further_commands words ≡ []
    → subcommand_of further_commands words ≡ Some (name, rows)
    → MatchOption given ((asked : Further) → IsFurtherSaid name rows asked → ⊥) (IsFurtherSaid name rows)
    → MatchResult (ok_or given Usage) (IsFurther words)
    (λ fault. (fault ≡ Memory) ⊎ ((fault ≡ Usage) × IsNoFurther words))
further_is words name rows None taken entered none = inr (refl, none_by_said words name rows entered none)
further_is words name rows (Some asked) taken entered said = record { taken = taken; name = name; rows = rows; entered = entered; said = said }
