-- The commands that take no texts, and what the words of one say.
use Rattle.std.specs.Prelude.{◌≡◌, List, [], Some, codes}
use Rattle.clap.specs.Words.{App, Row, Text, fault_of, first_of, new_app, new_rule, subcommand_of, with_rule, with_subcommand}
use Rattle.pciplan_words.specs.CommandWords.{option_rule, program, word_of}
use Rattle.pciplan_words.specs.declared.further.Further.{Further}
use Rattle.pciplan_words.specs.declared.further.Further.TheVariants.{Here, Explain, Version}
use Rattle.pciplan_words.specs.declared.further.HereWords.{HereWords}

-- `here [WHAT] [--domain D] [--from FOLDER] [--log FILE]`
abbrev pub looking : App
looking =
    with_rule (with_rule (with_rule (with_rule (new_app (codes "here"))
    (new_rule (codes "WHAT"))) (option_rule (codes "domain"))) (option_rule (codes "from")))
    (option_rule (codes "log"))

-- `explain [WORD]`
abbrev pub explaining : App
explaining = with_rule (new_app (codes "explain")) (new_rule (codes "WORD"))

-- the program with these and `version`
abbrev pub further_commands : App
further_commands =
    with_subcommand (with_subcommand (with_subcommand program looking.top) explaining.top)
    (new_app (codes "version")).top

-- the words of `here`
pub record HasHereWords (rows : List Row) (words : HereWords) : Type 0 where
  pub what : first_of (codes "WHAT") rows ≡ word_of words.what
  pub domain : first_of (codes "domain") rows ≡ word_of words.domain
  pub from : first_of (codes "from") rows ≡ word_of words.from
  pub log : first_of (codes "log") rows ≡ word_of words.log

-- what the words of a command of this name say
abbrev pub IsFurtherSaid : Text → List Row → Further → Type 0
IsFurtherSaid name rows (Here words) = (name ≡ codes "here") × HasHereWords rows words
IsFurtherSaid name rows (Explain word) =
    (name ≡ codes "explain") × (first_of (codes "WORD") rows ≡ word_of word)
IsFurtherSaid name rows Version = name ≡ codes "version"

-- what the words of a command line say, which no fault of usage refuses
pub record IsFurther (words : List Text) (asked : Further) : Type 0 where
  pub taken : fault_of further_commands words ≡ []
  pub name : Text
  pub rows : List Row
  pub entered : subcommand_of further_commands words ≡ Some (name, rows)
  pub said : IsFurtherSaid name rows asked

-- the words are no such command line
abbrev pub IsNoFurther : List Text → Type 0
IsNoFurther words = (asked : Further) → IsFurther words asked → ⊥
