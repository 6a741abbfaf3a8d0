-- The splits of a system.
use Rattle.std.specs.Prelude.{◌≡◌, ℕ, List, map}
use Rattle.pci_spec.specs.System as system
use Rattle.pci_spec.specs.System.{System}
use Rattle.pci_spec.specs.Fault as plain
use Rattle.pci_spec.specs.Fault.{address_in, named_regions}
use Rattle.pci_base.specs.declared.space.Space.{Space}
use Rattle.pci_base.specs.Space.{space_of}
use Rattle.pci_tree.specs.Outline.{Tree}
use Rattle.pci_faults.specs.declared.shares.Share.{Share}
use Rattle.judge_spec.specs.Given.{Given}
use Rattle.judge_spec.specs.ToldClaims.{Told}
use Rattle.judge_spec.specs.ToldAllFaults.{IsSplitOf}
use Rattle.pci_claims.specs.Claim.{Claimed}
use Rattle.pci_faults.specs.declared.named.Split.{Split}
use Rattle.pci_faults.specs.Clashes.{claim_at, claim_name}
use Rattle.pci_faults.specs.JustLines.{AreFaultsAppended}

-- the split that two claims of a list tell of
abbrev pub claims_split : Space → List Claimed → Share → Split
claims_split space claims s = record {
  space = space;
  address = s.address;
  first = claim_name (claim_at claims s.first);
  second = claim_name (claim_at claims s.second);
}

abbrev pub split_value : Split → plain.Fault
split_value c =
    plain.Split (space_of c.space) c.address c.first.slot c.first.register c.second.slot c.second.register

-- the fault is a split that a list of all names, in a space that is meant
abbrev pub IsSplitLine : (system.Space → Type 0) → Told → Given → List ℕ → System → plain.Fault
    → Type 0
IsSplitLine In told given roots s
    (plain.Split space address first first_register second second_register) =
    In space × IsSplitOf told given roots s (address_in space address)
    (named_regions first first_register second second_register)
IsSplitLine In told given roots s fault = ⊥

-- they come behind those of a list, in each system with the tree
abbrev pub AreSplitsAdded : (system.Space → Type 0) → Told → Given → Tree → List Split → List Split
    → Type 0
AreSplitsAdded In told given t before after =
    AreFaultsAppended t (IsSplitLine In told given t.roots) (map split_value before) (map split_value after)

-- of one space
abbrev pub IsSplitIn : system.Space → system.Space → Type 0
IsSplitIn space sp = sp ≡ space
