-- The command lines, and what the words of one say, by the rows in which clap keeps the words of options and paths. Which word is
-- whose is told by clap's definitions of a command's words.
use Rattle.std.specs.Prelude.{◌≡◌, ◌≢◌, Bool, true, false, List, [], Option, None, Some, codes, option_map}
use Rattle.std.specs.Borrow.{Bor}
use Rattle.clap.specs.Words.{App, Row, Rule, Text, fault_of, first_of, new_app, new_rule, one_of, subcommand_of, with_rule, with_subcommand}
use Rattle.clap.specs.declared.builder.action.ArgAction.TheVariants.{SetTrue}
use Rattle.pciplan_words.specs.declared.asked.Asked.{Asked}
use Rattle.pciplan_words.specs.declared.asked.Asked.TheVariants.{Show, Check, Faults, Map, Size, Plan, Settle, Probe}
use Rattle.pciplan_words.specs.declared.asked.FaultsWords.{FaultsWords}
use Rattle.pciplan_words.specs.declared.asked.MapWords.{MapWords}
use Rattle.pciplan_words.specs.declared.asked.PlanWords.{PlanWords}
use Rattle.pciplan_words.specs.declared.asked.SettleWords.{SettleWords}

-- ---- the command lines

-- a path, an option `--id WORD`, such an option that has to be there, and an option without a word
abbrev pub path_rule : Text → Rule
path_rule id = record (new_rule id) { required = true }

abbrev pub option_rule : Text → Rule
option_rule id = record (new_rule id) { long = Some id }

abbrev pub pool_rule : Text → Rule
pool_rule id = record (option_rule id) { required = true }

abbrev pub flag_rule : Text → Rule
flag_rule id = record (option_rule id) { action = Some SetTrue }

-- the subcommands, each with the paths of the two texts
abbrev pub with_paths : Text → App
with_paths name =
    with_rule (with_rule (new_app name) (path_rule (codes "DUMP"))) (path_rule (codes "PROBE"))

abbrev pub checking : App
checking = with_rule (with_paths (codes "check")) (option_rule (codes "root"))

abbrev pub listing_app : App
listing_app =
    with_rule (with_rule (with_rule (with_rule (with_rule (with_rule (with_paths (codes "faults"))
    (option_rule (codes "root"))) (option_rule (codes "model"))) (option_rule (codes "host-io")))
    (option_rule (codes "host-mem"))) (option_rule (codes "also"))) (flag_rule (codes "why"))

abbrev pub mapping : App
mapping =
    with_rule (with_rule (with_rule (with_rule (with_rule (with_paths (codes "map"))
    (option_rule (codes "root"))) (option_rule (codes "model"))) (option_rule (codes "host-io")))
    (option_rule (codes "host-mem"))) (option_rule (codes "also"))

abbrev pub planning : App
planning =
    with_rule (with_rule (with_rule (with_rule (with_rule (with_rule (with_paths (codes "plan"))
    (pool_rule (codes "io"))) (pool_rule (codes "mem"))) (pool_rule (codes "pref")))
    (flag_rule (codes "writes"))) (flag_rule (codes "why"))) (option_rule (codes "root"))

abbrev pub settling : App
settling =
    with_rule (with_rule (with_rule (with_rule (with_rule (with_rule (with_rule (with_rule (with_rule
    (with_rule (with_rule (with_paths (codes "settle")) (pool_rule (codes "io")))
    (pool_rule (codes "mem"))) (pool_rule (codes "pref"))) (option_rule (codes "root")))
    (option_rule (codes "model"))) (option_rule (codes "fixed"))) (flag_rule (codes "anew")))
    (option_rule (codes "spare"))) (option_rule (codes "slots"))) (option_rule (codes "also")))
    (flag_rule (codes "writes"))

abbrev pub probing : App
probing =
    with_rule (with_rule (with_paths (codes "probe")) (flag_rule (codes "exact")))
    (flag_rule (codes "least"))

-- the program: its words come without its name, and one of them has to name a subcommand
abbrev pub program : App
program = record (new_app (codes "pciplan")) {
  top = record (new_app (codes "pciplan")).top
      { no_binary_name = true; subcommand_required = true };
}

abbrev pub commands : App
commands =
    with_subcommand (with_subcommand (with_subcommand (with_subcommand (with_subcommand
    (with_subcommand (with_subcommand (with_subcommand program (with_paths (codes "show")).top)
    checking.top) listing_app.top) mapping.top) (with_paths (codes "size")).top) planning.top)
    settling.top) probing.top

-- ---- the words of options

-- the word of an option or a path, where it has one
abbrev pub word_of : Option (Bor Text) → Option Text
word_of = option_map (λ word. word.now)

-- whether an option without a word is there, by the text that clap keeps for it
pub record IsFlag (text : Option Text) (flag : Bool) : Type 0 where
  pub none : text ≡ None → flag ≡ false
  pub yes : text ≡ Some (codes "true") → flag ≡ true
  pub no : text ≡ Some (codes "false") → flag ≡ false

-- the words of the options of `faults`
pub record HasFaultsWords (rows : List Row) (words : FaultsWords) : Type 0 where
  pub root : first_of (codes "root") rows ≡ word_of words.root
  pub model : first_of (codes "model") rows ≡ word_of words.model
  pub host_io : first_of (codes "host-io") rows ≡ word_of words.host_io
  pub host_mem : first_of (codes "host-mem") rows ≡ word_of words.host_mem
  pub also : first_of (codes "also") rows ≡ word_of words.also
  pub why : IsFlag (one_of (codes "why") rows) words.why

-- the words of the options of `map`
pub record HasMapWords (rows : List Row) (words : MapWords) : Type 0 where
  pub root : first_of (codes "root") rows ≡ word_of words.root
  pub model : first_of (codes "model") rows ≡ word_of words.model
  pub host_io : first_of (codes "host-io") rows ≡ word_of words.host_io
  pub host_mem : first_of (codes "host-mem") rows ≡ word_of words.host_mem
  pub also : first_of (codes "also") rows ≡ word_of words.also

-- the words of the options of `plan`
pub record HasPlanWords (rows : List Row) (words : PlanWords) : Type 0 where
  pub root : first_of (codes "root") rows ≡ word_of words.root
  pub io : first_of (codes "io") rows ≡ Some words.io.now
  pub mem : first_of (codes "mem") rows ≡ Some words.mem.now
  pub pref : first_of (codes "pref") rows ≡ Some words.pref.now
  pub writes : IsFlag (one_of (codes "writes") rows) words.writes
  pub why : IsFlag (one_of (codes "why") rows) words.why

-- the words of the options of `settle`
pub record HasSettleWords (rows : List Row) (words : SettleWords) : Type 0 where
  pub root : first_of (codes "root") rows ≡ word_of words.root
  pub model : first_of (codes "model") rows ≡ word_of words.model
  pub io : first_of (codes "io") rows ≡ Some words.io.now
  pub mem : first_of (codes "mem") rows ≡ Some words.mem.now
  pub pref : first_of (codes "pref") rows ≡ Some words.pref.now
  pub fixed : first_of (codes "fixed") rows ≡ word_of words.fixed
  pub anew : IsFlag (one_of (codes "anew") rows) words.anew
  pub spare : first_of (codes "spare") rows ≡ word_of words.spare
  pub slots : first_of (codes "slots") rows ≡ word_of words.slots
  pub also : first_of (codes "also") rows ≡ word_of words.also
  pub writes : IsFlag (one_of (codes "writes") rows) words.writes

-- slots are said where spares are
abbrev pub AreSlotsForSpares : SettleWords → Type 0
AreSlotsForSpares words = words.spare ≡ None → words.slots ≡ None

-- slots are said, and no spares
abbrev pub AreSlotsWithoutSpares : SettleWords → Type 0
AreSlotsWithoutSpares words = (words.spare ≡ None) × (words.slots ≢ None)

-- the task of this name, with the words of its options
abbrev pub IsTaskAsked : Text → List Row → Asked → Type 0
IsTaskAsked name rows Show = name ≡ codes "show"
IsTaskAsked name rows (Check root) =
    (name ≡ codes "check") × (first_of (codes "root") rows ≡ word_of root)
IsTaskAsked name rows (Faults words) = (name ≡ codes "faults") × HasFaultsWords rows words
IsTaskAsked name rows (Map words) = (name ≡ codes "map") × HasMapWords rows words
IsTaskAsked name rows Size = name ≡ codes "size"
IsTaskAsked name rows (Plan words) = (name ≡ codes "plan") × HasPlanWords rows words
IsTaskAsked name rows (Settle words) =
    (name ≡ codes "settle") × HasSettleWords rows words × AreSlotsForSpares words
IsTaskAsked name rows (Probe exact least) =
    (name ≡ codes "probe") × IsFlag (one_of (codes "exact") rows) exact
    × IsFlag (one_of (codes "least") rows) least

-- what the words of a subcommand say: what is asked for, and the paths of the dump and of the second text
pub record IsSaid (name : Text) (rows : List Row) (asked : Asked)
    (dump second : Text) : Type 0 where
  pub task : IsTaskAsked name rows asked
  pub dump_is : first_of (codes "DUMP") rows ≡ Some dump
  pub second_is : first_of (codes "PROBE") rows ≡ Some second

-- what the words of a command line say, which no fault of usage refuses
pub record IsGiven (words : List Text) (asked : Asked) (dump second : Text) : Type 0 where
  pub taken : fault_of commands words ≡ []
  pub name : Text
  pub rows : List Row
  pub entered : subcommand_of commands words ≡ Some (name, rows)
  pub said : IsSaid name rows asked dump second

-- the words are no command line
abbrev pub HasNoLine : List Text → Type 0
HasNoLine words = (asked : Asked) (dump second : Text) → IsGiven words asked dump second → ⊥
