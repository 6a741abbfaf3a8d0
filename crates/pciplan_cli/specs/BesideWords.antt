-- The words of what is said beside the two texts: what they say, and which of them is the first that says nothing.
use Rattle.std.specs.Prelude.{◌≡◌, ◌⊎◌, ℕ, List, [], Option}
use Rattle.std.specs.Borrow.{Bor}
use Rattle.std.specs.Global.{Vec}
use Rattle.pci_base.specs.declared.range.RootRange.{RootRange}
use Rattle.pci_base.specs.declared.space.Space.TheVariants.{Io, Mem}
use Rattle.pci_model.specs.declared.words.Words.{Words}
use Rattle.pci_tree.specs.Roots.{buses_of}
use Rattle.pci_tree.specs.declared.roots.Roots.{Roots}
use Rattle.pciplan_cli.specs.OptionWords.{AreRootsOf, AreWordsOf, AreOptionRanges, HasNoRoots, HasNoWords, HasNoRanges, SpellsRanges}
use Rattle.pciplan_tasks.specs.declared.task.Also.TheVariants.{Told}
use Rattle.pciplan_tasks.specs.declared.task.Beside.{Beside}
use Rattle.pciplan_tasks.specs.declared.failure.Failure.{Failure}
use Rattle.pciplan_tasks.specs.declared.failure.Failure.TheVariants.{Root, Model, Host, Memory}

-- the words of `--root`, `--model`, `--host-io` and `--host-mem`
pub record BesideWords : Type 0 where
  pub root : Option (Bor (List ℕ))
  pub model : Option (Bor (List ℕ))
  pub host_io : Option (Bor (List ℕ))
  pub host_mem : Option (Bor (List ℕ))

abbrev pub beside_words : (root model host_io host_mem : Option (Bor (List ℕ))) → BesideWords
beside_words root model host_io host_mem =
    record { root = root; model = model; host_io = host_io; host_mem = host_mem }

-- what they say; a third text isn't read yet
pub record IsSaidBeside (asked : BesideWords) (said : Beside) : Type 0 where
  pub are_roots : AreRootsOf asked.root said.roots
  pub are_words : AreWordsOf asked.model said.words
  pub io : AreOptionRanges asked.host_io (buses_of said.roots) said.host.io
  pub mem : AreOptionRanges asked.host_mem (buses_of said.roots) said.host.mem
  pub also : said.also ≡ Told []

pub record IsNoModel (asked : BesideWords) : Type 0 where
  pub roots : Roots
  pub are_roots : AreRootsOf asked.root roots
  pub none : HasNoWords asked.model

pub record IsNoHostIo (asked : BesideWords) : Type 0 where
  pub roots : Roots
  pub words : Option Words
  pub are_roots : AreRootsOf asked.root roots
  pub are_words : AreWordsOf asked.model words
  pub none : HasNoRanges asked.host_io (buses_of roots)

pub record IsNoHostMem (asked : BesideWords) : Type 0 where
  pub roots : Roots
  pub words : Option Words
  pub ranges : Option (Vec RootRange)
  pub are_roots : AreRootsOf asked.root roots
  pub are_words : AreWordsOf asked.model words
  pub io : AreOptionRanges asked.host_io (buses_of roots) ranges
  pub none : HasNoRanges asked.host_mem (buses_of roots)

-- a growth was refused for the ranges that `--host-io` spells: the words before them say something
pub record IsHostIoWant (asked : BesideWords) : Type 0 where
  pub roots : Roots
  pub words : Option Words
  pub are_roots : AreRootsOf asked.root roots
  pub are_words : AreWordsOf asked.model words
  pub ranges : SpellsRanges asked.host_io

-- the same of `--host-mem`
pub record IsHostMemWant (asked : BesideWords) : Type 0 where
  pub roots : Roots
  pub words : Option Words
  pub ranges : Option (Vec RootRange)
  pub are_roots : AreRootsOf asked.root roots
  pub are_words : AreWordsOf asked.model words
  pub io : AreOptionRanges asked.host_io (buses_of roots) ranges
  pub mem : SpellsRanges asked.host_mem

-- the first of them that says nothing
abbrev pub IsRefusedBeside : BesideWords → Failure → Type 0
IsRefusedBeside asked Root = HasNoRoots asked.root
IsRefusedBeside asked Model = IsNoModel asked
IsRefusedBeside asked (Host Io) = IsNoHostIo asked
IsRefusedBeside asked (Host Mem) = IsNoHostMem asked
IsRefusedBeside asked Memory = IsHostIoWant asked ⊎ IsHostMemWant asked
IsRefusedBeside _ _ = ⊥
