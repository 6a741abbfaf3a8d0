-- What clap's contracts tell of the command and of the words of a command line.
use Rattle.std.proofs.Common.{◌≡◌, ◌⊎◌, ◌≢◌, ◌||◌, List, [], ◌∷◌, true, false, Option, None, Some, Result, Ok, Err, MatchOption, MatchResult, option_map, refl, sym, ◌∙◌, ap, ap₂, subst, inl, inr, length, ◌<◌, ◌+◌, ℕ, fold, take, get_or, arith}
use Rattle.std.proofs.Math.Bool.{or-false}
use Rattle.std.proofs.lemmas.List.Sums.{fold_more}
use Rattle.std.proofs.lemmas.Option.{none-some, same_Some}
use Rattle.std.specs.Box.{box_value}
use Rattle.std.specs.Prelude.{ok_or}
use Rattle.std.specs.Result.{IsErrAnd}
use Rattle.clap.specs.Kinds.{HasKind}
use Rattle.clap.specs.Simple.{app_of_fields}
use Rattle.clap.specs.Words.{AddsArg, AddsSubcommand, App, HasMatchesOf, IsAmong, Kinds, Row, Rule, Text, app_of, fault_of, found_of, is_simple, is_simple_and_free, kind_of, rows_of, rule_of, subcommand_name_of, subcommand_of, subcommand_rows_of, with_rule, with_subcommand}
use Rattle.clap.specs.declared.builder.arg.Arg.{Arg}
use Rattle.clap.specs.declared.builder.command.Command.{Command}
use Rattle.clap.specs.declared.builder.command.Command.TheViews.{out-Command}
use Rattle.clap.specs.declared.error.Error.{Error}
use Rattle.clap.specs.declared.error.kind.ErrorKind.{ErrorKind}
use Rattle.clap.specs.declared.error.kind.ErrorKind.TheVariants.{OutOfMemory}
use Rattle.clap.specs.declared.parser.matches.ArgMatches.{ArgMatches}
use Rattle.clap.specs.declared.parser.matches.ArgMatches.TheViews.{out-ArgMatches, out-SubCommand}
use Rattle.clap.proofs.OnLiterals.{clap_on_literals}
use Rattle.pciplan_words.specs.Arguments.{app_of_subcommand, argument_rule, with_argument, with_entry}
use Rattle.pciplan_words.specs.CommandWords.{commands, IsGiven, HasNoLine, IsSaid}
use Rattle.pciplan_words.specs.declared.asked.Asked.{Asked}
use Rattle.pciplan_words.specs.declared.asked.Given.{Given}
use Rattle.pciplan_words.specs.declared.commands.Argument.{Argument}
use Rattle.pciplan_words.specs.declared.commands.Subcommand.{Subcommand}
use Rattle.pciplan_words.specs.declared.asked.WordsFault.{WordsFault}
use Rattle.pciplan_words.specs.declared.asked.WordsFault.TheVariants.{Usage, Memory}

-- a command with one more argument, which isn't global
pub with_arg : {old new : Command} {arg : Arg} {app : App} {rule : Rule} → AddsArg old arg new → app_of old ≡ app → rule_of arg ≡ rule
    → arg.global ≡ false → app_of new ≡ with_rule app rule
with_arg adds app_is rule_is local = adds.shape local ∙ ap₂ with_rule app_is rule_is

pub local_arg : {old new : Command} {arg : Arg} → AddsArg old arg new → arg.global ≡ false → (out-Command new).has_globals ≡ (out-Command old).has_globals
local_arg {old} adds local = adds.globals ∙ ap (λ b. (out-Command old).has_globals || b) local ∙ or-false _

-- with the arguments, or the subcommands, of a table up to the next one
pub with_next_arg : {old new : Command} {arg : Arg} (start : App) (arguments : List Argument) (i : ℕ) (d : Argument) → i < length arguments
    → AddsArg old arg new → app_of old ≡ fold with_argument start (take i arguments) → rule_of arg ≡ argument_rule (get_or arguments i d)
    → arg.global ≡ false → app_of new ≡ fold with_argument start (take (i + 1) arguments)
with_next_arg start arguments i d within adds old_is rule_is local =
    with_arg adds old_is rule_is local ∙ sym (fold_more with_argument start arguments i d within)

-- with one more subcommand, and the two settings of the program
pub with_sub : {old new sub : Command} {app below : App} → AddsSubcommand old sub new → app_of old ≡ app → app_of sub ≡ below
    → (out-Command sub).has_globals ≡ false → app_of new ≡ with_subcommand app below.top
with_sub adds app_is below_is local =
    adds.shape local ∙ ap₂ (λ (a b : App). with_subcommand a b.top) app_is below_is

pub with_next_sub : {old new sub : Command} (start : App) (subcommands : List Subcommand) (i : ℕ) (d : Subcommand) → i < length subcommands
    → AddsSubcommand old sub new → app_of old ≡ fold with_entry start (take i subcommands)
    → app_of sub ≡ app_of_subcommand (get_or subcommands i d) → (out-Command sub).has_globals ≡ false
    → app_of new ≡ fold with_entry start (take (i + 1) subcommands)
with_next_sub start subcommands i d within adds old_is sub_is local =
    with_sub adds old_is sub_is local ∙ sym (fold_more with_entry start subcommands i d within)

pub without_name : (old new : Command) (app : App) → out-Command new ≡ record (out-Command old) { no_binary_name = true } → app_of old ≡ app
    → app_of new ≡ record app { top = record app.top { no_binary_name = true } }
without_name old new app is app_is = ap app_of_fields is ∙ ap (λ (a : App). record a { top = record a.top { no_binary_name = true } }) app_is

pub with_one_wanted : (old new : Command) (app : App) → out-Command new ≡ record (out-Command old) { subcommand_required = true } → app_of old ≡ app
    → app_of new ≡ record app { top = record app.top { subcommand_required = true } }
with_one_wanted old new app is app_is = ap app_of_fields is ∙ ap (λ (a : App). record a { top = record a.top { subcommand_required = true } }) app_is

-- clap's contracts are exact for this command
pub commands_are_simple : is_simple commands ≡ true
unfolding clap_on_literals
commands_are_simple = refl

pub commands_are_free : is_simple_and_free commands ≡ true
unfolding clap_on_literals
commands_are_free = refl

-- the subcommand that the words name
pub entered_is : (command : Command) (words : List Text) (m : ArgMatches) → app_of command ≡ commands → HasMatchesOf (app_of command) words m
    → subcommand_rows_of m ≡ subcommand_of commands words
entered_is command words m is has = (has (ap is_simple is ∙ commands_are_simple)).1 ∙ ap (λ (a : App). subcommand_of a words) is

pub fault_is : (command : Command) (words : List Text) → app_of command ≡ commands → fault_of (app_of command) words ≡ fault_of commands words
fault_is command words is = ap (λ (a : App). fault_of a words) is

-- a list that has a kind isn't empty
pub no_kind : (kinds : Kinds) (k : ErrorKind) → kinds ≡ [] → IsAmong k kinds → ⊥
no_kind [] k e among = among
no_kind (x ∷ xs) k e among = let bad : length (x ∷ xs) ≡ 0 = ap length e in absurd (omega arith)

-- both parts of a pair that may be there
pub pair_of : {X A B : Type 0} (f : X → A) (g : X → B) (o : Option X) (a : A) (b : B) → Some a ≡ option_map f o
    → Some b ≡ option_map (λ (p : A × B). p.1) (option_map {U = A × B} (λ x. (f x, g x)) o) → option_map {U = A × B} (λ x. (f x, g x)) o ≡ Some (a, b)
pair_of f g None a b left right = absurd (none-some a (sym left))
pair_of f g (Some x) a b left right =
    let first = same_Some a (f x) left in
    let second = same_Some b (g x) right in
    λ i. Some (sym first i, sym second i)

-- the subcommand by its name and its rows
pub subcommand_is : (m : ArgMatches) (name : Text) (rows : List Row) → Some name ≡ subcommand_name_of m
    → Some rows ≡ option_map (λ (p : Text × List Row). p.1) (subcommand_rows_of m) → subcommand_rows_of m ≡ Some (name, rows)
subcommand_is m name rows left right =
    pair_of (λ b. (out-SubCommand (box_value b)).name.now) (λ b. rows_of (found_of (out-SubCommand (box_value b)).matches))
    (out-ArgMatches m).subcommand name rows left right

-- words that a fault refuses, that name no subcommand, and of whose subcommand nothing can be said
pub no_line_by_fault : (words : List Text) (kinds : Kinds) (k : ErrorKind) → kinds ≡ fault_of commands words → IsAmong k kinds → HasNoLine words
no_line_by_fault words kinds k same among asked dump second given = no_kind kinds k (same ∙ given.taken) among

pub no_line_by_none : (words : List Text) → subcommand_of commands words ≡ None → HasNoLine words
no_line_by_none words none asked dump second given = none-some (given.name, given.rows) (sym none ∙ given.entered)

pub no_line_by_said : (words : List Text) (name : Text) (rows : List Row) → subcommand_of commands words ≡ Some (name, rows)
    → ((asked : Asked) (dump second : Text) → IsSaid name rows asked dump second → ⊥) → HasNoLine words
no_line_by_said words name rows entered none asked dump second given =
    let same = same_Some (given.name, given.rows) (name, rows) (sym given.entered ∙ entered) in
    none asked dump second (subst (λ (p : Text × List Row). IsSaid p.0 p.1 asked dump second) same given.said)

-- what clap's error makes of the words
pub refused_words : (words : List Text) (kinds : Kinds) (error : Error) (fault : WordsFault) → kinds ≡ fault_of commands words → HasKind kinds error
    → ((kind_of error ≡ OutOfMemory) × (fault ≡ Memory)) ⊎ ((kind_of error ≢ OutOfMemory) × (fault ≡ Usage))
    → (fault ≡ Memory) ⊎ ((fault ≡ Usage) × HasNoLine words)
refused_words words kinds error fault same has (inl gives) = inl gives.1
refused_words words kinds error fault same (inl memory) (inr gives) = absurd (gives.0 memory)
refused_words words kinds error fault same (inr among) (inr gives) = inr (gives.1, no_line_by_fault words kinds (kind_of error) same among)

-- what the subcommand's words give
pub given_is : (words : List Text) (name : Text) (rows : List Row) (given : Option Given) → fault_of commands words ≡ []
    → subcommand_of commands words ≡ Some (name, rows)
    → MatchOption given ((asked : Asked) (dump second : Text) → IsSaid name rows asked dump second → ⊥)
    (λ g. IsSaid name rows g.asked g.dump.now g.second.now)
    → MatchResult (ok_or given Usage) (λ g. IsGiven words g.asked g.dump.now g.second.now)
    (λ fault. (fault ≡ Memory) ⊎ ((fault ≡ Usage) × HasNoLine words))
given_is words name rows None taken entered none = inr (refl, no_line_by_said words name rows entered none)
given_is words name rows (Some g) taken entered said = record { taken = taken; name = name; rows = rows; entered = entered; said = said }

-- an error that a `?` turned into another
pub failed_by : {X Y : Type 0} (r : Result X Y) (P : X → Type 0) (Q R : Y → Type 0) → IsErrAnd r Q → ((y : Y) → Q y → R y) → MatchResult r P R
failed_by (Ok x) P Q R is f = absurd is
failed_by (Err y) P Q R is f = f y is
