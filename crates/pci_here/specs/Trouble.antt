-- The troubles in reading a machine.
use Rattle.std.specs.Prelude.{ℕ, List, [], ◌∷◌, ◌++◌, Option, None, Some, codes}
use Rattle.pci_base.specs.declared.memory.Refused.{Refused}
use Rattle.pci_base.specs.declared.memory.Refused.TheVariants as refusals
use Rattle.pci_dump.specs.declared.dump.PushFault.{PushFault}
use Rattle.pci_here.specs.Place.{FunctionPlace, function_place_text}
use Rattle.pci_here.specs.declared.trouble.TroubleAt.{TroubleAt}
use Rattle.pci_here.specs.declared.trouble.Trouble.{Trouble}
use Rattle.pci_here.specs.declared.trouble.Trouble.TheVariants.{Memory, Unread, Short, NoRoot, TooMany}

-- the status of the program
abbrev pub trouble_status : Trouble → ℕ
trouble_status Memory = 3
trouble_status Unread = 4
trouble_status Short = 2
trouble_status NoRoot = 2
trouble_status TooMany = 2

-- why a list of functions takes no more
abbrev pub full_trouble : Refused PushFault → Trouble
full_trouble (refusals.Fault fault) = TooMany
full_trouble refusals.Memory = Memory

-- how it is printed
abbrev pub trouble_text : Trouble → List ℕ
trouble_text Memory = codes "2 Memory"
trouble_text Unread = codes "1 Io"
trouble_text Short = codes "short"
trouble_text NoRoot = codes "no host bus"
trouble_text TooMany = codes "8 TooMany"

-- a space and the function, where there is one
abbrev pub at_text : Option FunctionPlace → List ℕ
at_text None = []
at_text (Some place) = 32 ∷ function_place_text place

abbrev pub trouble_at_text : TroubleAt → List ℕ
trouble_at_text t = trouble_text t.trouble ++ at_text t.place
