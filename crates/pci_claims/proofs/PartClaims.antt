-- Claims of legacy parts and of palette parts.
use Rattle.std.proofs.Common.{◌≡◌, ℕ, List, false, arith, subst, sym, ◌∙◌, ap, refl}
use Rattle.std.specs.Prelude.{IsTrue}
use Rattle.std.specs.List.{Contains}
use Rattle.pci_spec.specs.Slot.{Slot, slot_number}
use Rattle.pci_spec.specs.System.{System, Function, Space, IsAddress, IsSystem}
use Rattle.pci_spec.specs.Fault.{address_in, named_region}
use Rattle.pci_spec.proofs.Nesting.{one_function}
use Rattle.pci_base.specs.declared.range.Range.{Range}
use Rattle.pci_function.specs.declared.record.Record.{Record}
use Rattle.pci_tree.specs.Ranges.{Covers}
use Rattle.pci_tree.proofs.Lifting.{same_slot_of}
use Rattle.judge_spec.specs.Given.{Given}
use Rattle.judge_spec.specs.Claims.{Own, Legacy, Palette, LegacyClaims, PaletteClaims, Claims, ClaimsOnBus, register_of}
use Rattle.pci_claims.specs.declared.legacy.FixedPart.{FixedPart}
use Rattle.pci_claims.specs.declared.legacy.FixedPart.TheVariants as fixed
use Rattle.pci_claims.specs.Gathered.{IsCommon}
use Rattle.pci_claims.specs.Legacy.{fixed_part_of, register_of_part}
use Rattle.pci_claims.specs.Passed.{AreClaimedByPart}
use Rattle.pci_claims.specs.Claim.{IsClaimOfPart}
use Rattle.pci_claims.proofs.Linking.{claims_by, part_same}
use Rattle.pci_claims.proofs.RegionClaims.{not_legacy, not_palette}

-- ---- a part as the definitions have it

pub to_claims : (given : Given) (part : FixedPart) (f : Function) (space : Space) (a : ℕ) → IsAddress space a → IsTrue (claims_by given part space a f) → Claims given f (fixed_part_of part) space a
to_claims given fixed.Legacy f space a address claims = record { address = address; claims = claims }
to_claims given fixed.Palette f space a address claims = record { address = address; claims = claims }

of_claims : (given : Given) (part : FixedPart) (f : Function) (space : Space) (a : ℕ) → Claims given f (fixed_part_of part) space a → IsTrue (claims_by given part space a f)
of_claims given fixed.Legacy f space a claims = claims.claims
of_claims given fixed.Palette f space a claims = claims.claims

its_register : (part : FixedPart) (f : Function) → register_of f (fixed_part_of part) ≡ register_of_part part
its_register fixed.Legacy f = refl
its_register fixed.Palette f = refl

-- what its register names is the part
part_is : (given : Given) (s : System) → IsSystem s → (part : FixedPart) (space : Space) (f : Function) (slot : Slot) → Contains s f → slot ≡ f.slot → (a : ℕ)
    → ClaimsOnBus given s f.slot.bus (address_in space a) (named_region slot (register_of_part part)) → Claims given f (fixed_part_of part) space a
part_is given s sound fixed.Legacy space f slot in_s e a (g, Own part, listed, at, there, named, claims) = absurd (not_legacy g part named)
part_is given s sound fixed.Legacy space f slot in_s e a (g, Legacy, listed, at, there, named, claims) =
    subst (λ (x : Function). LegacyClaims given x space a) (one_function s sound g f listed in_s (ap slot_number (at ∙ e))) claims
part_is given s sound fixed.Legacy space f slot in_s e a (g, Palette, listed, at, there, named, claims) = absurd (let no : ⊥ = omega (arith, named) in no)
part_is given s sound fixed.Palette space f slot in_s e a (g, Own part, listed, at, there, named, claims) = absurd (not_palette g part named)
part_is given s sound fixed.Palette space f slot in_s e a (g, Legacy, listed, at, there, named, claims) = absurd (let no : ⊥ = omega (arith, named) in no)
part_is given s sound fixed.Palette space f slot in_s e a (g, Palette, listed, at, there, named, claims) =
    subst (λ (x : Function). PaletteClaims given x space a) (one_function s sound g f listed in_s (ap slot_number (at ∙ e))) claims

-- ---- its claim

pub part_claim : (given : Given) (part : FixedPart) (space : Space) (r : Record) (reach own pieces : List Range) → AreClaimedByPart given part space r own → IsCommon own reach pieces
    → IsClaimOfPart given part space r reach record { slot = r.slot; register = register_of_part part; held = false; pieces = pieces }
part_claim given part space r reach own pieces are is = record {
  slot = refl;
  register = refl;
  held = refl;
  exact = λ s f sound in_s e addresses a. (
    λ (h : Covers pieces a). (
        let both = (is.exact a).0 h in (
          both.1,
          (
            f,
            fixed_part_of part,
            in_s,
            sym (same_slot_of r f e),
            ap (λ (x : Slot). x.bus) (same_slot_of r f e),
            its_register part f,
            to_claims given part f space a (addresses a both.1) (part_same given part space a r f e ∙ (are.exact a).0 both.0),
          ),
        )),
    λ (h : Covers reach a × ClaimsOnBus given s f.slot.bus (address_in space a) (named_region r.slot (register_of_part part))). (
        let claimed = part_is given s sound part space f r.slot in_s (same_slot_of r f e) a h.1 in
        (is.exact a).1 ((are.exact a).1 (sym (part_same given part space a r f e) ∙ of_claims given part f space a claimed), h.0)),
  );
}
