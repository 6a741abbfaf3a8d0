-- Addresses of both spaces: what the host sends to a root bus, and what a bridge takes as nobody claims it.
use Rattle.std.specs.Prelude.{ℕ, ◌↔◌, IsTrue, List}
use Rattle.pci_spec.specs.System.{Function, Space, Io, Memory}
use Rattle.judge_spec.specs.Given.{Given, takes}
use Rattle.pci_base.specs.declared.range.Range.{Range}
use Rattle.pci_function.specs.declared.record.Record.{Record}
use Rattle.pci_tree.specs.Ranges.{Holds, Covers, IsCanonical}
use Rattle.pci_claims.specs.Passed.{takes_of}
use Rattle.pci_claims.specs.Sent.{IsSentTo}

pub record SpaceRanges : Type 0 where
  pub io : List Range
  pub memory : List Range

abbrev pub ranges_in : Space → SpaceRanges → List Range
ranges_in Io x = x.io
ranges_in Memory x = x.memory

-- they have just what is sent to the root bus
pub record AreSent (given : Given) (root : ℕ) (sent : SpaceRanges) : Type 0 where
  pub io : IsSentTo given Io root sent.io
  pub memory : IsSentTo given Memory root sent.memory

-- an address of a range that no range of a list has
pub record HasUnsent (rs : List Range) (r : Range) : Type 0 where
  pub address : ℕ
  pub held : Holds r address
  pub unsent : Covers rs address → ⊥

-- just the addresses of a space that a record's bridge takes, by ranges that rise with a gap between two
pub record AreTakenIn (given : Given) (space : Space) (r : Record) (out : List Range) : Type 0 where
  pub canonical : IsCanonical out
  pub exact : (a : ℕ) → Covers out a ↔ IsTrue (takes_of given space a r)

-- the same of both spaces
pub record AreTakenBy (given : Given) (r : Record) (x : SpaceRanges) : Type 0 where
  pub io : AreTakenIn given Io r x.io
  pub memory : AreTakenIn given Memory r x.memory

-- just the addresses that a bridge of a system takes
abbrev pub AreTakenByBridge : Given → Function → SpaceRanges → Type 0
AreTakenByBridge given b x =
    (space : Space) (a : ℕ) → Covers (ranges_in space x) a ↔ IsTrue (takes given space a b)
