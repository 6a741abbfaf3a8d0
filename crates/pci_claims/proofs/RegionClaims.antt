-- What a BAR, a ROM or a window claims of a bus.
use Rattle.std.proofs.Common.{◌≡◌, ℕ, ◌≤◌, List, Bool, true, false, arith, subst, sym, ◌∙◌, ap, refl}
use Rattle.std.specs.Prelude.{◌==◌, ◌&&◌, IsFalse}
use Rattle.std.specs.List.{Contains}
use Rattle.pci_spec.specs.Slot.{Slot}
use Rattle.pci_spec.specs.Header.{layout, rom_place}
use Rattle.pci_spec.specs.Window.{IoWindow, MemoryWindow, PrefetchWindow}
use Rattle.pci_spec.specs.System.{System, Function, Space, Part, Bar, Rom, Window, IsSystem}
use Rattle.pci_spec.specs.System as system
use Rattle.pci_spec.specs.Fault.{address_in, named_region}
use Rattle.pci_spec.proofs.Firsts.{same_region}
use Rattle.pci_base.specs.declared.range.Range.{Range}
use Rattle.pci_tree.specs.declared.region.Region.{Region}
use Rattle.pci_tree.specs.Ranges.{Covers}
use Rattle.pci_tree.specs.Regions.{IsRegionOn, AreRegionsOf, is_of_window}
use Rattle.pci_tree.proofs.RegionParts.{window_named}
use Rattle.judge_spec.specs.Given.{Given, is_cut}
use Rattle.judge_spec.specs.Claims.{Own, Legacy, Palette, OwnClaims, is_cut_of, ClaimsOnBus}
use Rattle.pci_claims.specs.declared.legacy.FixedPart.{FixedPart}
use Rattle.pci_claims.specs.declared.legacy.FixedPart.TheVariants as fixed
use Rattle.pci_claims.specs.Legacy.{register_of_part}
use Rattle.pci_claims.specs.Gathered.{IsCommon}
use Rattle.pci_claims.specs.Claim.{AreAddressesOf, IsClaimOfRegion, is_cut_from}

-- ---- names of regions

no_rom : (is_bridge : Bool) → rom_place is_bridge ≡ 0x3e → ⊥
no_rom true e = omega (arith, e)
no_rom false e = omega (arith, e)

-- no region that address registers show is named by Bridge Control
pub not_legacy : (f : Function) (part : Part) → system.register_of f part ≡ 0x3e → ⊥
not_legacy f (Bar n) e = omega (arith, e)
not_legacy f Rom e = no_rom (layout f.image == 1) e
not_legacy f (Window IoWindow) e = omega (arith, e)
not_legacy f (Window MemoryWindow) e = omega (arith, e)
not_legacy f (Window PrefetchWindow) e = omega (arith, e)

not_rom : (is_bridge : Bool) → rom_place is_bridge ≡ 4 → ⊥
not_rom true e = omega (arith, e)
not_rom false e = omega (arith, e)

-- nor by Command
pub not_palette : (f : Function) (part : Part) → system.register_of f part ≡ 4 → ⊥
not_palette f (Bar n) e = omega (arith, e)
not_palette f Rom e = not_rom (layout f.image == 1) e
not_palette f (Window IoWindow) e = omega (arith, e)
not_palette f (Window MemoryWindow) e = omega (arith, e)
not_palette f (Window PrefetchWindow) e = omega (arith, e)

pub not_part : (fixed : FixedPart) (f : Function) (part : Part) → system.register_of f part ≡ register_of_part fixed → ⊥
not_part fixed.Legacy f part e = not_legacy f part e
not_part fixed.Palette f part e = not_palette f part e

-- what ISA Enable takes from a region it takes from its part
cut_same : (given : Given) (bus : ℕ) (s : System) (space : Space) (r : Region) (on : IsRegionOn s bus space r) (a : ℕ) → is_cut_from given space r a ≡ is_cut_of given on.part space a on.f.slot
cut_same given bus s space r on a =
    ap (λ p. is_of_window p && is_cut given space a r.slot) on.is.named ∙ ap (λ b. b && is_cut given space a r.slot) (sym (window_named on.part))
    ∙ ap (λ x. system.is_window on.part && is_cut given space a x) on.is.slot

-- what ISA Enable leaves of a region the region claims,
pub region_claims_it : (given : Given) (s : System) (bus : ℕ) (space : Space) (r : Region) → IsRegionOn s bus space r → (a : ℕ) → ((r.first ≤ a) × (a ≤ r.last)) × IsFalse (is_cut_from given space r a)
    → ClaimsOnBus given s bus (address_in space a) (named_region r.slot r.reg)
region_claims_it given s bus space r on a left = (
  on.f,
  Own on.part,
  on.listed,
  sym on.is.slot,
  ap (λ (x : Slot). x.bus) on.is.slot ∙ on.on_bus,
  sym on.is.register,
  record { claims = (on.is.claims a).0 left.0; kept = sym (cut_same given bus s space r on a) ∙ left.1 },
)

-- and what address registers of the bus claim is left of a region
pub left_of_own : (given : Given) (s : System) (bus : ℕ) (space : Space) (regions : List Region) → AreRegionsOf s bus space regions → (f : Function) (part : Part) (a : ℕ) → Contains s f → f.slot.bus ≡ bus
    → OwnClaims given f part space a → (r : Region) × Contains regions r × (((r.first ≤ a) × (a ≤ r.last)) × IsFalse (is_cut_from given space r a))
left_of_own given s bus space regions are f part a listed on_bus it =
    let found = are.complete f part a listed on_bus it.claims in
    let on : IsRegionOn s bus space found.q = record { f = f; part = part; listed = listed; on_bus = on_bus; is = found.is } in
    (found.q, found.has, ((found.is.claims a).1 it.claims, cut_same given bus s space found.q on a ∙ it.kept))

-- what a region claims by its name is the region's
pub claimed_is : (given : Given) (s : System) → IsSystem s → (bus : ℕ) (space : Space) (r : Region) → IsRegionOn s bus space r → (a : ℕ) → ClaimsOnBus given s bus (address_in space a) (named_region r.slot r.reg)
    → (((r.first ≤ a) × (a ≤ r.last)) × IsFalse (is_cut_from given space r a)) × system.IsAddress space a
claimed_is given s sound bus space r on a (f, Own part, listed, at, there, named, it) =
    let first : system.Claims on.f on.part space r.first = (on.is.claims r.first).0 (omega arith, on.is.some) in
    let one = same_region s sound f on.f part on.part space space a r.first listed on.listed (at ∙ on.is.slot) (named ∙ on.is.register) it.claims first in
    let own : system.Claims on.f on.part space a = subst (λ p. system.Claims on.f p space a) one.1 (subst (λ g. system.Claims g part space a) one.0 it.claims) in
    let kept : is_cut_of given on.part space a on.f.slot ≡ false =
    ap (λ p. is_cut_of given p space a on.f.slot) (sym one.1) ∙ ap (λ (g : Function). is_cut_of given part space a g.slot) (sym one.0) ∙ it.kept in
    (((on.is.claims a).1 own, cut_same given bus s space r on a ∙ kept), own.address)
claimed_is given s sound bus space r on a (f, Legacy, listed, at, there, named, claims) = absurd (not_legacy on.f on.part (sym on.is.register ∙ sym named))
claimed_is given s sound bus space r on a (f, Palette, listed, at, there, named, claims) = absurd (not_palette on.f on.part (sym on.is.register ∙ sym named))

pub region_claim : (given : Given) (space : Space) (r : Region) (reach own pieces : List Range) → AreAddressesOf given space r own → IsCommon own reach pieces
    → IsClaimOfRegion given space r reach record { slot = r.slot; register = r.reg; held = false; pieces = pieces }
region_claim given space r reach own pieces held is = record {
  slot = refl;
  register = refl;
  held = refl;
  exact = λ s bus sound on a. (
    λ (h : Covers pieces a). (let both = (is.exact a).0 h in (both.1, region_claims_it given s bus space r on a ((held.exact a).0 both.0))),
    λ (h : Covers reach a × ClaimsOnBus given s bus (address_in space a) (named_region r.slot r.reg)).
        (is.exact a).1 ((held.exact a).1 (claimed_is given s sound bus space r on a h.1).0, h.0),
  );
}
