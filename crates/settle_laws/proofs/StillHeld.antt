-- A claim by what a BAR or ROM shows: one in an image is one in another that shows the same, and enables it.
use Rattle.std.proofs.Common.{◌≡◌, ℕ, ◌≤◌, List, true, false, refl, sym, ◌∙◌, ap, subst}
use Rattle.std.specs.Bool.{nat_lt}
use Rattle.std.specs.Int.{bit_at}
use Rattle.std.proofs.lemmas.Bool.{and_parts, and_from, both_ways}
use Rattle.pci_spec.specs.Number.{number_at, has_bit}
use Rattle.pci_spec.specs.Slot.{Slot}
use Rattle.pci_spec.specs.Header.{layout, bar_count, rom_register}
use Rattle.pci_spec.specs.Bar.{bar_at, bar_kind, whole_bar, Answers}
use Rattle.pci_spec.specs.Rom.{rom_at, rom_is_on, is_rom_size}
use Rattle.pci_spec.specs.Window.{bounds_at}
use Rattle.pci_spec.specs.System.{Function, Space, Memory, Part, Bar, Rom, Window, Claims, is_space_on, is_window, space_of}
use Rattle.settle_laws.proofs.Images.{function_at}

-- ---- a claim, by what a BAR or ROM shows

-- a BAR or ROM shows the same in two images
abbrev pub IsShownSame : List ℕ → List ℕ → List ℕ → Part → Type 0
IsShownSame probe a b (Bar n) = whole_bar probe a n ≡ whole_bar probe b n
IsShownSame probe a b Rom = rom_at a a ≡ rom_at b b
IsShownSame probe a b (Window c) = bounds_at c a ≡ bounds_at c b

module _ (slot : Slot) (probe a b : List ℕ) (kind : layout a ≡ layout b) (on : (space : Space) → is_space_on (function_at slot a probe) space ≡ true → is_space_on (function_at slot b probe) space ≡ true) where
  abbrev from : Function
  from = function_at slot a probe

  abbrev to : Function
  to = function_at slot b probe

  -- it is one in the other image, if that enables what this does
  pub claims_by : (p : Part) (space : Space) (x : ℕ) → is_window p ≡ false → IsShownSame probe a b p → Claims from p space x → Claims to p space x
  claims_by (Bar n) space x plain same c = record {
    there = ap (λ k. nat_lt n (bar_count k)) (sym kind) ∙ c.there;
    enabled = on (space_of from (Bar n)) c.enabled;
    maps = c.maps;
    address = c.address;
    decodes = (c.decodes.0, subst (λ v. Answers (bar_kind (bar_at probe n)) v (whole_bar probe probe n) x) same c.decodes.1);
  }
  claims_by Rom space x plain same c =
      let parts = and_parts (is_space_on from Memory) (rom_is_on a) c.enabled in
      record {
        there = refl;
        enabled = and_from (is_space_on to Memory) (rom_is_on b) (on Memory parts.0) (ap (λ v. has_bit v 0) (sym same) ∙ parts.1);
        maps = c.maps;
        address = c.address;
        decodes = (
          c.decodes.0,
          subst (λ m. is_rom_size m c.decodes.0 ≡ true) (ap (λ k. number_at probe (rom_register k) 4) kind) c.decodes.1,
          subst (λ v. (i : ℕ) → c.decodes.0 ≤ i → bit_at x i ≡ bit_at v i) same c.decodes.2,
        );
      }
  claims_by (Window c) space x plain same claim = absurd (both_ways true plain refl)
