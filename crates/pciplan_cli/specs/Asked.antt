-- The task that a command line asks for, and the word that it is refused for.
use Rattle.std.specs.Prelude.{◌≡◌, Bool, true, false, Option, None, Some}
use Rattle.pci_base.specs.declared.range.Range.{Range}
use Rattle.pci_place.specs.declared.pools.Pools.{Pools}
use Rattle.pci_machine.specs.declared.assuming.Assuming.{Assuming}
use Rattle.pci_machine.specs.declared.assuming.Assuming.TheVariants.{Nothing, Disabled, Any}
use Rattle.pci_tree.specs.declared.roots.Roots.{Roots}
use Rattle.pciplan_cli.specs.FaultsAsked.{IsFaultsOf, AreFaultsRefused}
use Rattle.pciplan_cli.specs.MapAsked.{IsMapOf, IsMapRefused}
use Rattle.pciplan_cli.specs.SettleAsked.{IsSettlingAskedFor, IsSettlingRefused}
use Rattle.pciplan_cli.specs.OptionWords.{AreRootsOf, HasNoRoots}
use Rattle.pciplan_lists.specs.PoolWords.{IsPoolWord, HasNoPool}
use Rattle.pciplan_words.specs.declared.asked.Asked.{Asked}
use Rattle.pciplan_words.specs.declared.asked.Asked.TheVariants as asked
use Rattle.pciplan_words.specs.declared.asked.PlanWords.{PlanWords}
use Rattle.pciplan_words.specs.declared.forms.Form.{Form}
use Rattle.pciplan_tasks.specs.declared.task.Task.{Task}
use Rattle.pciplan_tasks.specs.declared.task.Task.TheVariants as task
use Rattle.pciplan_tasks.specs.declared.failure.PoolOption.TheVariants.{Io, Mem, Pref}
use Rattle.pciplan_tasks.specs.declared.failure.Failure.{Failure}
use Rattle.pciplan_tasks.specs.declared.failure.Failure.TheVariants.{Usage, Root, Pool}

-- the planning that the words ask for: each pool is that of its own option
pub record IsPlanningOf (words : PlanWords) (planning : Task) : Type 0 where
  pub roots : Roots
  pub pools : Pools
  pub are_roots : AreRootsOf words.root roots
  pub io : IsPoolWord words.io.now pools.io
  pub mem : IsPoolWord words.mem.now pools.mem
  pub pref : IsPoolWord words.pref.now pools.pref
  pub is : planning ≡ task.Plan pools words.writes words.why roots

-- of which registers a size may be assumed, by `--exact` and `--least`
abbrev pub IsAssumingOf : Bool → Bool → Assuming → Type 0
IsAssumingOf true true assuming = ⊥
IsAssumingOf true false assuming = assuming ≡ Nothing
IsAssumingOf false true assuming = assuming ≡ Any
IsAssumingOf false false assuming = assuming ≡ Disabled

-- without a form of the writes
abbrev pub IsTaskOf : Asked → Task → Type 0
IsTaskOf asked.Show t = t ≡ task.Show
IsTaskOf (asked.Check root) t = (roots : Roots) × AreRootsOf root roots × (t ≡ task.Check roots)
IsTaskOf (asked.Faults words) t = IsFaultsOf words t
IsTaskOf (asked.Map words) t = IsMapOf words t
IsTaskOf asked.Size t = t ≡ task.Size
IsTaskOf (asked.Plan words) t = IsPlanningOf words t
IsTaskOf (asked.Settle words) t = IsSettlingAskedFor None words t
IsTaskOf (asked.Probe exact least) t =
    (assuming : Assuming) × IsAssumingOf exact least assuming × (t ≡ task.Probe assuming)

-- with a form of the writes, which `settle` alone has
abbrev pub IsFormOf : Form → Asked → Task → Type 0
IsFormOf form (asked.Settle words) t = IsSettlingAskedFor (Some form) words t
IsFormOf form _ t = ⊥

abbrev pub IsTaskWith : Option Form → Asked → Task → Type 0
IsTaskWith None asked t = IsTaskOf asked t
IsTaskWith (Some form) asked t = IsFormOf form asked t

-- the words before the one that is refused have their roots and pools
abbrev pub HasRoots : PlanWords → Type 0
HasRoots words = (roots : Roots) × AreRootsOf words.root roots

abbrev pub HasIo : PlanWords → Type 0
HasIo words = HasRoots words × ((pool : Range) × IsPoolWord words.io.now pool)

abbrev pub HasMem : PlanWords → Type 0
HasMem words = HasIo words × ((pool : Range) × IsPoolWord words.mem.now pool)

-- the first word that is none, of the root list, then the words of `--model`, and then what the host sends, or the pools or
-- lists of I/O, memory and prefetchable memory; or two options of which one alone may be said
abbrev pub IsAskedRefused : Asked → Failure → Type 0
IsAskedRefused (asked.Check root) Root = HasNoRoots root
IsAskedRefused (asked.Faults words) failure = AreFaultsRefused words failure
IsAskedRefused (asked.Map words) failure = IsMapRefused words failure
IsAskedRefused (asked.Plan words) Root = HasNoRoots words.root
IsAskedRefused (asked.Plan words) (Pool Io) = HasRoots words × HasNoPool words.io.now
IsAskedRefused (asked.Plan words) (Pool Mem) = HasIo words × HasNoPool words.mem.now
IsAskedRefused (asked.Plan words) (Pool Pref) = HasMem words × HasNoPool words.pref.now
IsAskedRefused (asked.Settle words) failure = IsSettlingRefused words failure
IsAskedRefused (asked.Probe exact least) Usage = (exact ≡ true) × (least ≡ true)
IsAskedRefused _ _ = ⊥

-- the same with a form: it alone refuses a command other than `settle`
abbrev pub IsFormRefused : Asked → Failure → Type 0
IsFormRefused (asked.Settle words) failure = IsSettlingRefused words failure
IsFormRefused _ failure = failure ≡ Usage

abbrev pub IsRefusedWith : Option Form → Asked → Failure → Type 0
IsRefusedWith None asked failure = IsAskedRefused asked failure
IsRefusedWith (Some form) asked failure = IsFormRefused asked failure
