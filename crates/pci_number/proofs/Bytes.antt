-- Bus numbers of an image, one after the other.
use Rattle.std.proofs.Common.{◌≡◌, ◌≢◌, ℕ, ◌%◌, inl, inr, List, refl, ◌∙◌, ap, true, ◌&&◌, set, get_or-set_other}
use Rattle.std.specs.Bool.{◌==◌}
use Rattle.std.proofs.lemmas.Bool.{and_from, eq-eqb}
use Rattle.std.proofs.lemmas.List.{set-set, set_comm}
use Rattle.pci_spec.specs.Number.{byte_at}
use Rattle.pci_spec.specs.Header.{primary_bus, secondary_bus, subordinate_bus}
use Rattle.pci_number.specs.Board.{is_type_1}
use Rattle.pci_number.specs.Numbered.{with_numbers}
use Rattle.pci_number.specs.Room.{shows}
use Rattle.pci_number.specs.Seen.{IsKeptBut}
use Rattle.pci_number.specs.Steps.{IsAlike}

pub other_byte : (offset : ℕ) (image new : List ℕ) → IsKeptBut offset image new → (place : ℕ) → place ≢ offset → byte_at new place ≡ byte_at image place
other_byte offset image new kept place other = elim kept [
  | inl same ↦ ap (λ i. byte_at i place) same
  | inr changed ↦ ap (λ i. byte_at i place) changed.1 ∙ get_or-set_other image offset place changed.0 0 other
]

primary_cleared : (image : List ℕ) (kept : ℕ) → with_numbers 0 0 0 (set image 0x18 kept) ≡ with_numbers 0 0 0 image
primary_cleared image kept = ap (λ i. set (set i 0x19 0) 0x1a 0) (set-set image 0x18 kept 0)

secondary_cleared : (image : List ℕ) (kept : ℕ) → with_numbers 0 0 0 (set image 0x19 kept) ≡ with_numbers 0 0 0 image
secondary_cleared image kept =
    ap (λ i. set (set i 0x19 0) 0x1a 0) (set_comm image 0x19 0x18 kept 0 (λ is. cc is))
    ∙ ap (λ i. set i 0x1a 0) (set-set (set image 0x18 0) 0x19 kept 0)

subordinate_cleared : (image : List ℕ) (kept : ℕ) → with_numbers 0 0 0 (set image 0x1a kept) ≡ with_numbers 0 0 0 image
subordinate_cleared image kept =
    ap (λ i. set (set i 0x19 0) 0x1a 0) (set_comm image 0x1a 0x18 kept 0 (λ is. cc is))
    ∙ ap (λ i. set i 0x1a 0) (set_comm (set image 0x18 0) 0x1a 0x19 kept 0 (λ is. cc is))
    ∙ set-set (set (set image 0x18 0) 0x19 0) 0x1a kept 0

kind_kept : (offset : ℕ) (image new : List ℕ) → IsKeptBut offset image new → 14 ≢ offset → is_type_1 new ≡ is_type_1 image
kind_kept offset image new kept other = ap (λ n. n % 128 == 1) (other_byte offset image new kept 14 other)

pub alike_primary : (image new : List ℕ) → IsKeptBut 0x18 image new → IsAlike image new
alike_primary image new kept = record {
  cleared = elim kept [ inl same ↦ ap (with_numbers 0 0 0) same | inr changed ↦ ap (with_numbers 0 0 0) changed.1 ∙ primary_cleared image changed.0 ];
  kind = kind_kept 0x18 image new kept (λ is. cc is);
}

pub alike_secondary : (image new : List ℕ) → IsKeptBut 0x19 image new → IsAlike image new
alike_secondary image new kept = record {
  cleared = elim kept [ inl same ↦ ap (with_numbers 0 0 0) same | inr changed ↦ ap (with_numbers 0 0 0) changed.1 ∙ secondary_cleared image changed.0 ];
  kind = kind_kept 0x19 image new kept (λ is. cc is);
}

pub alike_subordinate : (image new : List ℕ) → IsKeptBut 0x1a image new → IsAlike image new
alike_subordinate image new kept = record {
  cleared = elim kept [ inl same ↦ ap (with_numbers 0 0 0) same | inr changed ↦ ap (with_numbers 0 0 0) changed.1 ∙ subordinate_cleared image changed.0 ];
  kind = kind_kept 0x1a image new kept (λ is. cc is);
}

pub alike_then : (first second third : List ℕ) → IsAlike first second → IsAlike second third → IsAlike first third
alike_then first second third a b = record { cleared = b.cleared ∙ a.cleared; kind = b.kind ∙ a.kind }

pub alike_itself : (image : List ℕ) → IsAlike image image
alike_itself image = record { cleared = refl; kind = refl }

-- a bridge shows what its three bytes are
pub shows_from : (image : List ℕ) (p s u : ℕ) → primary_bus image ≡ p → secondary_bus image ≡ s → subordinate_bus image ≡ u → shows image p s u ≡ true
shows_from image p s u primary secondary subordinate =
    and_from (primary_bus image == p && secondary_bus image == s) (subordinate_bus image == u)
    (and_from (primary_bus image == p) (secondary_bus image == s) (eq-eqb (primary_bus image) p primary) (eq-eqb (secondary_bus image) s secondary))
    (eq-eqb (subordinate_bus image) u subordinate)
