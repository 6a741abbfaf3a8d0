-- Two BARs side by side: no address is claimed by both.
use Rattle.std.proofs.Common.{◌≡◌, ℕ, zero, suc, ◌≤◌, [], ◌∷◌, refl, false, inl, inr, arith, subst, sym, ap, ◌∙◌}
use Rattle.std.specs.List.{Contains}
use Rattle.std.proofs.lemmas.Bool.{ltb-true, both_ways}
use Rattle.pci_spec.specs.Bar.{Memory32}
use Rattle.pci_spec.specs.System.{Function, System, Space, Part, Bar, Rom, Window, Claims, register_of}
use Rattle.pci_spec.specs.Sound.{IsSingle, IsSameRegion}
use Rattle.pci_spec.proofs.Bits.{agree-interval}
use Rattle.pci_spec.proofs.Absent.{in_pair, not_lawful, no_rom}
use Rattle.pci_spec.proofs.Examples.Samples.{slot, device, host}
use Rattle.pci_spec.proofs.Examples.Sized.{answered, size_of_1_mb}

-- 1 MB at an address
abbrev at_address : ℕ → ℕ → Function
at_address d a = device (slot 0 d 0) 2 ((0x10, a) ∷ []) ((0x10, 0xfff00000) ∷ [])

abbrev lower : Function
lower = at_address 1 0xe0000000

abbrev higher : Function
higher = at_address 2 0xe0100000

abbrev s : System
s = lower ∷ higher ∷ []

lower_claims : (part : Part) (space : Space) (a : ℕ) → Claims lower part space a → (part ≡ Bar 0) × (a ≤ 0xe00fffff)
lower_claims (Bar zero) space a c = (refl, let i = agree-interval 20 a 0xe0000000 (answered 20 0xe0000000 0xfff00000 a size_of_1_mb c.decodes.1) in omega (arith, i))
lower_claims (Bar (suc zero)) space a c = absurd (not_lawful Memory32 c.decodes.1.0 c.decodes.1.1)
lower_claims (Bar (suc (suc zero))) space a c = absurd (not_lawful Memory32 c.decodes.1.0 c.decodes.1.1)
lower_claims (Bar (suc (suc (suc zero)))) space a c = absurd (not_lawful Memory32 c.decodes.1.0 c.decodes.1.1)
lower_claims (Bar (suc (suc (suc (suc zero))))) space a c = absurd (not_lawful Memory32 c.decodes.1.0 c.decodes.1.1)
lower_claims (Bar (suc (suc (suc (suc (suc zero)))))) space a c = absurd (not_lawful Memory32 c.decodes.1.0 c.decodes.1.1)
lower_claims (Bar (suc (suc (suc (suc (suc (suc n))))))) space a c = absurd (let less = ltb-true (suc (suc (suc (suc (suc (suc n)))))) 6 c.there in let no : ⊥ = omega (arith, less) in no)
lower_claims Rom space a c = absurd (no_rom c.decodes.0 c.decodes.1)
lower_claims (Window kind) space a c = absurd (both_ways false refl c.there)

higher_claims : (part : Part) (space : Space) (a : ℕ) → Claims higher part space a → (part ≡ Bar 0) × (0xe0100000 ≤ a)
higher_claims (Bar zero) space a c = (refl, let i = agree-interval 20 a 0xe0100000 (answered 20 0xe0100000 0xfff00000 a size_of_1_mb c.decodes.1) in omega (arith, i))
higher_claims (Bar (suc zero)) space a c = absurd (not_lawful Memory32 c.decodes.1.0 c.decodes.1.1)
higher_claims (Bar (suc (suc zero))) space a c = absurd (not_lawful Memory32 c.decodes.1.0 c.decodes.1.1)
higher_claims (Bar (suc (suc (suc zero)))) space a c = absurd (not_lawful Memory32 c.decodes.1.0 c.decodes.1.1)
higher_claims (Bar (suc (suc (suc (suc zero))))) space a c = absurd (not_lawful Memory32 c.decodes.1.0 c.decodes.1.1)
higher_claims (Bar (suc (suc (suc (suc (suc zero)))))) space a c = absurd (not_lawful Memory32 c.decodes.1.0 c.decodes.1.1)
higher_claims (Bar (suc (suc (suc (suc (suc (suc n))))))) space a c = absurd (let less = ltb-true (suc (suc (suc (suc (suc (suc n)))))) 6 c.there in let no : ⊥ = omega (arith, less) in no)
higher_claims Rom space a c = absurd (no_rom c.decodes.0 c.decodes.1)
higher_claims (Window kind) space a c = absurd (both_ways false refl c.there)

same : (f g h : Function) (p q : Part) → h ≡ f → h ≡ g → p ≡ Bar 0 → q ≡ Bar 0 → IsSameRegion f p g q
same f g h p q fe ge pe qe = (
  ap (λ (z : Function). z.slot) (sym fe ∙ ge),
  ap (λ z. register_of f z) pe ∙ sym (ap (λ z. register_of g z) qe),
)

one : (space : Space) (a : ℕ) (f g : Function) (p q : Part) → Contains s f → Contains s g → Claims f p space a → Claims g q space a → IsSameRegion f p g q
one space a f g p q in_f in_g cf cg = elim (in_pair lower higher f in_f) [
  | inl fl ↦
      let x = lower_claims p space a (subst (λ z. Claims z p space a) (sym fl) cf) in
      elim (in_pair lower higher g in_g) [
        | inl gl ↦ same f g lower p q fl gl x.0 (lower_claims q space a (subst (λ z. Claims z q space a) (sym gl) cg)).0
        | inr gh ↦ let y = higher_claims q space a (subst (λ z. Claims z q space a) (sym gh) cg) in absurd (let no : ⊥ = omega (arith, x.1, y.1) in no)
      ]
  | inr fh ↦
      let x = higher_claims p space a (subst (λ z. Claims z p space a) (sym fh) cf) in
      elim (in_pair lower higher g in_g) [
        | inl gl ↦ let y = lower_claims q space a (subst (λ z. Claims z q space a) (sym gl) cg) in absurd (let no : ⊥ = omega (arith, x.1, y.1) in no)
        | inr gh ↦ same f g higher p q fh gh x.0 (higher_claims q space a (subst (λ z. Claims z q space a) (sym gh) cg)).0
      ]
]

two_bars_side_by_side : IsSingle host s
two_bars_side_by_side = record {
  on_a_bus = λ space a bus gets f g p q in_f in_g f_bus g_bus. one space a f g p q in_f in_g;
  over_roots = λ space a f g p q in_f in_g f_root g_root. one space a f g p q in_f in_g;
}
