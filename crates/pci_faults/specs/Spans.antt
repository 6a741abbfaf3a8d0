-- What may be claimed on some buses, of regions that registers show and of told ranges, whatever of it gets there.
use Rattle.std.specs.Prelude.{◌≡◌, ℕ, ◌<◌, ◌⊎◌, List, Some}
use Rattle.std.specs.List.{Contains, slice_get}
use Rattle.pci_spec.specs.System.{Space}
use Rattle.pci_tree.specs.declared.region.Region.{Region}
use Rattle.judge_spec.specs.Told.{ToldRange}
use Rattle.judge_spec.specs.ToldClaims.{told_register}
use Rattle.pci_faults.specs.declared.spans.Span.{Span}

abbrev pub region_span : Region → Span
region_span r = record { slot = r.slot; register = r.reg; first = r.first; last = r.last }

abbrev pub told_span : ℕ → ToldRange → Span
told_span index r =
    record { slot = r.slot; register = told_register index; first = r.first; last = r.last }

-- the list has those of the told ranges of a space on some buses
abbrev pub HasSpansOf : (ℕ → Type 0) → List ToldRange → Space → List Span → Type 0
HasSpansOf IsOne ranges space spans =
    (k : ℕ) (r : ToldRange) → slice_get ranges k ≡ Some r → IsOne r.slot.bus → r.space ≡ space
    → Contains spans (told_span k r)

-- it has them, and all that it had before
pub record AreSpansAdded (IsOne : ℕ → Type 0) (ranges : List ToldRange) (space : Space)
    (old new : List Span) : Type 0 where
  pub kept : (x : Span) → Contains old x → Contains new x
  pub has : HasSpansOf IsOne ranges space new

-- no two of them have an address in common
abbrev pub AreSpansApart : List Span → Type 0
AreSpansApart spans =
    (p q : Span) → Contains spans p → Contains spans q
    → (p ≡ q) ⊎ ((p.last < q.first) ⊎ (q.last < p.first))
