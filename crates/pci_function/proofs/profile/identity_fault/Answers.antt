use Rattle.std.proofs.Common.{◌≡◌, ℕ, ◌<◌, List, [], ◌∷◌, refl, false, inl, inr, arith, sym, ◌∙◌, subst}
use Rattle.std.proofs.lemmas.Bool.{both_ways, ne_eqb}
use Rattle.pci_spec.specs.System.{Function}
use Rattle.pci_spec.specs.Header.{layout}
use Rattle.pci_spec.specs.Fault.{NoVendor, HeaderKind, StrayProbe, has_no_vendor, has_other_layout, is_stray, is_stray_by}
use Rattle.pci_spec.proofs.Regions.{precedes-cases}
use Rattle.pci_spec.proofs.Looking.{one_number}
use Rattle.pci_image.specs.declared.layout.Layout.{Layout}
use Rattle.pci_image.specs.declared.layout.Layout.TheVariants.{Device, Bridge}
use Rattle.pci_image.specs.Layouts.{layout_number}
use Rattle.pci_function.specs.Profile.{IsFirstOf}
use Rattle.pci_function.proofs.FirstHere.{before_here}
use Rattle.pci_function.proofs.profile.identity_fault.Goals as goal

-- the first stray byte is the first fault, where the function answers with a known layout
first_stray : (f : Function) (offset : ℕ) → has_no_vendor f.image ≡ false → has_other_layout f.image ≡ false
    → ((k : ℕ) → k < offset → is_stray f.image f.probe k ≡ false) → IsFirstOf 1 f (StrayProbe f.slot offset)
first_stray f offset vendor header first (NoVendor slot) phase before is = both_ways _ vendor is.1
first_stray f offset vendor header first (HeaderKind slot) phase before is = both_ways _ header is.1
first_stray f offset vendor header first (StrayProbe slot k) phase before is =
    elim (before_here f (StrayProbe slot k) (StrayProbe f.slot offset) 1 (2 ∷ offset ∷ []) is refl before) [
      | inl less ↦ let no : ⊥ = omega (arith, less) in no
      | inr (same, rest) ↦ elim (precedes-cases 2 2 (k ∷ []) (offset ∷ []) rest) [
        | inl less ↦ let no : ⊥ = omega (arith, less) in no
        | inr (two, last) ↦ both_ways _ (first k (one_number k offset [] last)) is.1
      ]
    ]
first_stray f offset vendor header first _ phase before is = absurd (let no : ⊥ = omega (arith, phase) in no)

known : (image : List ℕ) (l : Layout) → layout image ≡ layout_number l → has_other_layout image ≡ false
known image Device is = rw is refl
known image Bridge is = rw is refl

pub returns-in-Some-stray_byte-clause-first : goal.returns-in-Some-stray_byte-clause-first
returns-in-Some-stray_byte-clause-first c =
    let image = c.args.image.now.0 in
    let probe = c.args.probe.now.0 in
    let vendor : has_no_vendor image ≡ false = ne_eqb _ _ (λ e. c.if-u16-eq-NO_VENDOR.false (c.u16.ensures ∙ e)) in
    first_stray record { slot = c.args.slot; image = image; probe = probe } c.in-Some-stray_byte.offset vendor (known image c.in-Some.layout c.in-Some.ensures)
    (λ k below. subst (λ n. is_stray_by n probe k ≡ false) (sym c.in-Some.ensures) (c.in-Some-stray_byte.ensures.first k below))
