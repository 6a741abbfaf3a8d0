-- Moving changes nothing that a fault of the profile looks at: address registers alone, and what Command enables.
use Rattle.std.proofs.Common.{◌≡◌, ℕ, ◌<◌, ◌≤◌, arith, sym, ◌∙◌, ap}
use Rattle.std.specs.Bool.{◌==◌}
use Rattle.std.proofs.lemmas.Bool.{and_right, le-ltb}
use Rattle.pci_spec.specs.Number.{has_bit, IsImage}
use Rattle.pci_spec.specs.Header.{command}
use Rattle.pci_spec.specs.Capability.{HasChain}
use Rattle.pci_spec.specs.System.{Function}
use Rattle.pci_spec.proofs.ProfileFaults.{ShowsSame}
use Rattle.plan_spec.specs.Plan.{IsMoved}
use Rattle.plan_spec.proofs.Planning.Moved.{layout_same, no_early_field, pointer_same, rest_same}
use Rattle.plan_spec.proofs.Planning.Profile.{class_same, control_same}
use Rattle.plan_spec.proofs.Planning.Writes.{command_bit}

module _ (f g : Function) (m : IsMoved f g) (is : IsImage f.image) where
  command_same : (bit : ℕ) → 2 ≤ bit → bit < 8 → has_bit (command g.image) bit ≡ has_bit (command f.image) bit
  command_same bit low high =
      ap (λ n. n == 1) (
      command_bit g.image bit high
      ∙ m.same 4 bit (omega arith) high (no_early_field f.image f.probe 4 bit (omega arith)) (and_right (4 == 4) _ (le-ltb bit 2 low))
      ∙ sym (command_bit f.image bit high)
      )

  pub shows_same : HasChain f.image → ShowsSame f.image g.image
  shows_same (places, chain) = record {
    command_bits = command_same;
    bridge = λ bridge. record { kind = layout_same f g m is; class = class_same f g m is; control = control_same f g m is };
    chain = (places, chain);
    walk = λ n within. pointer_same f g m is places chain n within;
    behind = λ place low inside. rest_same f g m is place (omega (arith, low)) inside;
  }
