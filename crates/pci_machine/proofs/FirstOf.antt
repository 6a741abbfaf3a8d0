-- The first of the faults of some functions, taken one after another.
use Rattle.std.proofs.Common.{◌≡◌, ℕ, zero, suc, ◌+◌, ◌<◌, List, [], ◌∷◌, ◌++◌, take, length, get_or, Option, Some, None, refl, inl, inr, arith, sym, ◌∙◌, ap, cond}
use Rattle.std.specs.Option.{option_or}
use Rattle.std.proofs.lemmas.Bool.{cases_Bool, cond-true, cond-false}
use Rattle.std.proofs.lemmas.Option.{none-some}
use Rattle.std.proofs.lemmas.List.{take_more}
use Rattle.pci_spec.specs.Text.{Block}
use Rattle.pci_spec.specs.Fault.{has_no_vendor, has_other_layout}
use Rattle.pci_spec.specs.ProbeOf.{ProbeFault, NoVendor, HeaderKind, first_of, identity_fault}
use Rattle.pci_image.specs.Header.{HasHeader}
use Rattle.pci_image.specs.declared.fault.ImageFault.{ImageFault}
use Rattle.pci_image.specs.declared.fault.ImageFault.TheVariants as of_image
use Rattle.pci_machine.specs.declared.derive_fault.DeriveFault.TheVariants as of_function
use Rattle.pci_machine.specs.DeriveFault.{IsHeaderFault}
use Rattle.pci_machine.specs.ProbeFault.{probe_fault_at}

module _ {X : Type 0} (fault : X → Option ProbeFault) where
  -- one function more
  first_of-append : (xs : List X) (x : X) → first_of fault xs ≡ None → first_of fault (xs ++ x ∷ []) ≡ fault x
  unfolding first_of
  first_of-append [] x none = alone (fault x) where
    alone : (o : Option ProbeFault) → option_or o None ≡ o
    alone None = refl
    alone (Some y) = refl
  first_of-append (y ∷ xs) x none = rest (first_of-append xs x) (fault y) none where
    rest : (first_of fault xs ≡ None → first_of fault (xs ++ x ∷ []) ≡ fault x)
        → (o : Option ProbeFault) → option_or o (first_of fault xs) ≡ None → option_or o (first_of fault (xs ++ x ∷ [])) ≡ fault x
    rest more None e = more e
    rest more (Some f) e = absurd (none-some f (sym e))

  pub first_of-more : (xs : List X) (k : ℕ) (x : X) → k < length xs → get_or xs k x ≡ x → first_of fault (take k xs) ≡ None → first_of fault (take (k + 1) xs) ≡ fault x
  first_of-more xs k x below is none =
      ap (first_of fault) (take_more xs k x below ∙ ap (λ y. take k xs ++ y ∷ []) is) ∙ first_of-append (take k xs) x none

  -- the fault of a beginning is that of the whole
  pub first_of-found : (xs : List X) (k : ℕ) (found : ProbeFault) → first_of fault (take k xs) ≡ Some found → first_of fault xs ≡ Some found
  unfolding first_of
  first_of-found [] zero found is = is
  first_of-found [] (suc k) found is = is
  first_of-found (x ∷ xs) zero found is = absurd (none-some found is)
  first_of-found (x ∷ xs) (suc k) found is = rest (first_of-found xs k found) (fault x) is where
    rest : (first_of fault (take k xs) ≡ Some found → first_of fault xs ≡ Some found)
        → (o : Option ProbeFault) → option_or o (first_of fault (take k xs)) ≡ Some found → option_or o (first_of fault xs) ≡ Some found
    rest more None e = more e
    rest more (Some f) e = e

  -- where none has one, that at a place has none
  pub first_of-none : (xs : List X) (k : ℕ) (x : X) → k < length xs → get_or xs k x ≡ x → first_of fault xs ≡ None → fault x ≡ None
  unfolding first_of
  first_of-none [] k x below is none = absurd (let no : ⊥ = omega (arith, below) in no)
  first_of-none (y ∷ xs) zero x below is none = ap fault (sym is) ∙ first (fault y) none where
    first : (o : Option ProbeFault) → option_or o (first_of fault xs) ≡ None → o ≡ None
    first None e = refl
    first (Some f) e = e
  first_of-none (y ∷ xs) (suc k) x below is none = first_of-none xs k x (omega (arith, below)) is (rest (fault y) none) where
    rest : (o : Option ProbeFault) → option_or o (first_of fault xs) ≡ None → first_of fault xs ≡ None
    rest None e = e
    rest (Some f) e = absurd (none-some f (sym e))

-- ---- headers

abbrev of_layout : Block → Option ProbeFault
of_layout b = cond (has_other_layout b.image) (Some (HeaderKind b.slot)) None

-- a function without such a fault has a header
pub header_of-none : (b : Block) → identity_fault b ≡ None → HasHeader b.image
header_of-none b none = elim (cases_Bool (has_no_vendor b.image)) [
  | inl silent ↦ absurd (none-some (NoVendor b.slot) (sym none ∙ cond-true (has_no_vendor b.image) (Some (NoVendor b.slot)) (of_layout b) silent))
  | inr vendor ↦ elim (cases_Bool (has_other_layout b.image)) [
    | inl odd ↦ absurd (none-some (HeaderKind b.slot) (sym none ∙ cond-false (has_no_vendor b.image) (Some (NoVendor b.slot)) (of_layout b) vendor ∙ cond-true (has_other_layout b.image) (Some (HeaderKind b.slot)) None odd))
    | inr layout ↦ record { vendor = vendor; layout = layout }
  ]
]

pub header-none : (b : Block) → HasHeader b.image → identity_fault b ≡ None
header-none b header =
    cond-false (has_no_vendor b.image) (Some (NoVendor b.slot)) (of_layout b) header.vendor
    ∙ cond-false (has_other_layout b.image) (Some (HeaderKind b.slot)) None header.layout

-- the fault of a function's header
pub header-fault : (b : Block) (found : ImageFault) → IsHeaderFault b.image found → identity_fault b ≡ Some (probe_fault_at b.slot (of_function.Header found))
header-fault b of_image.NoVendor is = cond-true (has_no_vendor b.image) (Some (NoVendor b.slot)) (of_layout b) is.there
header-fault b of_image.HeaderKind is =
    cond-false (has_no_vendor b.image) (Some (NoVendor b.slot)) (of_layout b) (is.answers refl) ∙ cond-true (has_other_layout b.image) (Some (HeaderKind b.slot)) None is.there
header-fault b (of_image.BarType register) is = let high = is.of_header in absurd (let no_header : ⊥ = omega (arith, high) in no_header)
header-fault b (of_image.BarMask register) is = let high = is.of_header in absurd (let no_header : ⊥ = omega (arith, high) in no_header)
header-fault b (of_image.BarPair register) is = let high = is.of_header in absurd (let no_header : ⊥ = omega (arith, high) in no_header)
header-fault b (of_image.RomMask register) is = let high = is.of_header in absurd (let no_header : ⊥ = omega (arith, high) in no_header)
header-fault b (of_image.WindowMask register) is = let high = is.of_header in absurd (let no_header : ⊥ = omega (arith, high) in no_header)
header-fault b (of_image.CapRange place) is = let high = is.of_header in absurd (let no_header : ⊥ = omega (arith, high) in no_header)
header-fault b (of_image.CapLoop place) is = let high = is.of_header in absurd (let no_header : ⊥ = omega (arith, high) in no_header)
header-fault b (of_image.CapCut place) is = let high = is.of_header in absurd (let no_header : ⊥ = omega (arith, high) in no_header)
