-- The lines of capabilities, by the fields of their values.
use Rattle.std.specs.Prelude.{◌≡◌, ℕ, ◌+◌, ◌/◌, ◌%◌, ◌^◌, ◌≤◌, List, ◌++◌, codes}
use Rattle.pci_spec.specs.Text.{hex_byte}
use Rattle.pci_spec.specs.Capability.{capability_id, body_length}
use Rattle.pci_spec.specs.Listing.{decimal_text, flag_text, vectors_text, power_line, message_line, raw_line}
use Rattle.pci_image.specs.declared.capability.Cap.{Cap}
use Rattle.pci_image.specs.Caps.{place_of, IsKindOf}
use Rattle.pci_listing.specs.declared.listing.capability.CapabilityLine.{CapabilityLine}
use Rattle.pci_listing.specs.declared.listing.capability.CapabilityLine.TheVariants.{Power, Message, Raw}

-- what Power Management Capabilities say
abbrev pub power_support_text : ℕ → List ℕ
power_support_text capabilities =
    codes "version "
    ++ (decimal_text (capabilities % 8) ++ (codes " d1 " ++ (flag_text capabilities 9
    ++ (codes " d2 "
    ++ (flag_text capabilities 10 ++ (codes " pme " ++ hex_byte (capabilities / 2 ^ 11)))))))

abbrev pub power_state_text : ℕ → List ℕ
power_state_text control =
    codes "state "
    ++ (decimal_text (control % 4)
    ++ (codes " enable " ++ (flag_text control 8 ++ (codes " status " ++ flag_text control 15))))

abbrev pub message_control_text : ℕ → List ℕ
message_control_text control =
    codes "on " ++ (flag_text control 0 ++ (codes " capable " ++ (vectors_text (control / 2 % 8)
    ++ (codes " enabled " ++ (vectors_text (control / 16 % 8)
    ++ (codes " wide " ++ (flag_text control 7 ++ (codes " mask " ++ flag_text control 8))))))))

abbrev pub capability_line_text : CapabilityLine → List ℕ
capability_line_text (Power place capabilities control) = power_line place capabilities control
capability_line_text (Message place control address value) =
    message_line place control address value
capability_line_text (Raw place id) = raw_line place id

-- it stands in the image, with all of its body, and its ID tells its kind
pub record IsListed (image : List ℕ) (cap : Cap) : Type 0 where
  pub kind : IsKindOf (capability_id image (place_of cap)) cap
  pub aligned : place_of cap % 4 ≡ 0
  pub fits : place_of cap + body_length image (place_of cap) ≤ 256
