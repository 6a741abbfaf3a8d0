-- Command by a record and its places is that of the definitions.
use Rattle.std.proofs.Common.{◌≡◌, ◌+◌, ◌∙◌, ap}
use Rattle.std.specs.Bool.{if◌then◌else◌}
use Rattle.pci_spec.specs.Header.{command}
use Rattle.pci_spec.specs.Machine.{without_low}
use Rattle.pci_spec.specs.Decoded as decoded
use Rattle.pci_spec.specs.System.{System, Function, Io, Memory}
use Rattle.settle_spec.specs.Lists.{Request}
use Rattle.settle_spec.specs.Kept.{Kept}
use Rattle.settle_spec.specs.Keeping.Registers.{is_enabled_in, settled_command}
use Rattle.pci_function.specs.declared.record.Record.{Record}
use Rattle.pci_place.specs.declared.above.Above.{Above}
use Rattle.pci_first_fit.specs.declared.own.Terms.{Terms}
use Rattle.pci_settle_places.specs.declared.places.Places.{Places}
use Rattle.pci_settle_places.specs.declared.settled.Behind.{Behind}
use Rattle.pci_settle_places.specs.Images.{HasPartPlaces}
use Rattle.pci_settle_places.specs.Claims.{is_enabled_by}
use Rattle.settle_spec.specs.LiveLaws.{is_live}
use Rattle.pci_settle_places.specs.Settled.{command_by, IsCommandTold}
use Rattle.pci_settle_places.proofs.PlacedClaims.{enabled_is}

pub command_is : (q : Request) (s : System) (keep : Kept) (f : Function) (r : Record) (p : Places) → HasPartPlaces q s keep f r p → (above : Above) (t : Terms) (behind : Behind) → IsCommandTold q s keep f above t behind
    → command_by p above t r behind.io behind.memory ≡ settled_command q s keep f
command_is q s keep f r p has above t behind told =
    let first : is_enabled_by Io p above t r behind.io ≡ is_enabled_in q s keep Io f = enabled_is q s keep f r p has above told.over t told.terms Io (is_live q s keep Io) behind.io told.io in
    let second : is_enabled_by Memory p above t r behind.memory ≡ is_enabled_in q s keep Memory f =
    enabled_is q s keep f r p has above told.over t told.terms Memory (is_live q s keep Memory) behind.memory told.memory in
    ap (λ n. without_low 4 n + (if is_enabled_by Io p above t r behind.io then 1 else 0) + (if is_enabled_by Memory p above t r behind.memory then 2 else 0)) (ap (λ (x : decoded.Record). x.command) has.is.value)
    ∙ ap (λ b. without_low 4 (command f.image) + (if b then 1 else 0) + (if is_enabled_by Memory p above t r behind.memory then 2 else 0)) first
    ∙ ap (λ b. without_low 4 (command f.image) + (if is_enabled_in q s keep Io f then 1 else 0) + (if b then 2 else 0)) second
