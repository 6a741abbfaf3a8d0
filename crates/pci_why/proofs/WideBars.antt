-- BARs of 64 bits, and what is told of where a region would fit.
use Rattle.std.proofs.Common.{◌≡◌, ℕ, ◌+◌, ◌<◌, List, length, get_or, take, sym, ap, subst, inl, inr, arith, ◌∙◌, Bool, true, false, ◌||◌, refl}
use Rattle.std.specs.Prelude.{◌↔◌, ◌==◌, IsTrue}
use Rattle.std.specs.List.{All}
use Rattle.std.proofs.lemmas.Bool.{cases_Bool, ltb-true}
use Rattle.std.proofs.lemmas.List.Elements.{All-more}
use Rattle.pci_spec.specs.Slot.{Slot}
use Rattle.pci_spec.specs.Header.{bar_register, bar_count, layout}
use Rattle.pci_spec.specs.Bar.{IoBar, Memory32, Memory64, Reserved, bar_at, bar_kind, is_io, is_wide, type_bits}
use Rattle.pci_spec.specs.System.{System, Function, Space, is_window}
use Rattle.pci_spec.specs.System as system
use Rattle.pci_spec.specs.Decoded.{DecodedBar, record_of}
use Rattle.pci_spec.specs.Mark.{AssumedRegister, is_size_assumed}
use Rattle.pci_spec.specs.Why.{is_wide_part}
use Rattle.pci_spec.proofs.Records.{same_truth}
use Rattle.pci_spec.proofs.Ranges.{has_bar-of_decodes}
use Rattle.pci_image.specs.declared.bar.Bar.{Bar}
use Rattle.pci_image.specs.declared.bar.BarKind.{BarKind as Kind}
use Rattle.pci_image.specs.declared.bar.BarKind.TheVariants.{Io, Mem32, Mem64}
use Rattle.pci_image.specs.Bars.{decoded_kind_of}
use Rattle.pci_function.specs.declared.record.Record.{Record}
use Rattle.pci_function.specs.Values.{record_value}
use Rattle.pci_tree.specs.declared.region.Region.{Region}
use Rattle.pci_tree.specs.declared.region.Part.TheVariants as parts
use Rattle.pci_tree.specs.Regions.{IsRegionOf, name_of}
use Rattle.pci_tree.proofs.Regions.{bar_at_register, bar_of_register}
use Rattle.pci_claims.specs.Found.{IsFoundIn}
use Rattle.pci_why.specs.Wide.{IsWideAt, IsWideIn}

-- one more BAR that isn't at the register, or has 32 bits
pub bar_more : (bars : List Bar) (k reg : ℕ) (z : Bar) → k < length bars → All (λ b. IsWideAt reg b → ⊥) (take k bars) → ((get_or bars k z).reg ≡ reg → (get_or bars k z).kind ≡ Mem64 → ⊥)
    → All (λ b. IsWideAt reg b → ⊥) (take (k + 1) bars)
bar_more bars k reg z within before none =
    All-more (λ (b : Bar). IsWideAt reg b → ⊥) bars k z within before (λ wide. none wide.0 wide.1)

wide_of_kind : (m : ℕ) → Memory64 ≡ bar_kind m → is_wide m ≡ true
wide_of_kind m e = elim (cases_Bool (is_io m)) [
  | inl io ↦ (let k : Memory64 ≡ IoBar = e ∙ rw io refl in cc)
  | inr memory ↦ elim (cases_Bool (type_bits m == 2)) [
    | inl wide ↦ rw (memory, wide) refl
    | inr narrow ↦ elim (cases_Bool (type_bits m == 0)) [
      | inl zero_type ↦ (let k : Memory64 ≡ Memory32 = e ∙ rw (memory, narrow, zero_type) refl in cc)
      | inr other ↦ (let k : Memory64 ≡ Reserved = e ∙ rw (memory, narrow, other) refl in cc)
    ]
  ]
]

kind_of_wide : (m : ℕ) → is_wide m ≡ true → bar_kind m ≡ Memory64
kind_of_wide m e = elim (cases_Bool (is_io m)) [
  | inl io ↦ (let k : false ≡ true = sym (rw io refl) ∙ e in cc)
  | inr memory ↦ elim (cases_Bool (type_bits m == 2)) [
    | inl wide ↦ rw (memory, wide) refl
    | inr narrow ↦ (let k : false ≡ true = sym (rw (memory, narrow) refl) ∙ e in cc)
  ]
]

memory64 : (k : Kind) → decoded_kind_of k ≡ Memory64 → k ≡ Mem64
memory64 Io e = cc
memory64 Mem32 e = cc
memory64 Mem64 e = refl

same_register : (m n : ℕ) → bar_register m ≡ bar_register n → m ≡ n
same_register m n e = omega (arith, e)

to_wide : (r : Record) (f : Function) (part : system.Part) (space : Space) (q : Region) → record_value r ≡ record_of f → IsRegionOf f part space q → IsWideIn r q → is_wide_part f part ≡ true
to_wide r f (system.Bar n) space q e is (named, any) =
    let at = bar_at_register r f any.1 e (any.0, any.2, any.3) in
    let register : at.0 ≡ n = same_register at.0 n (sym (ap (λ (d : DecodedBar). d.register) at.1.is) ∙ any.4.0 ∙ is.register) in
    let kind : Memory64 ≡ bar_kind (bar_at f.probe at.0) = sym (ap decoded_kind_of any.4.1) ∙ ap (λ (d : DecodedBar). d.kind) at.1.is in
    subst (λ m. is_wide (bar_at f.probe m) ≡ true) register (wide_of_kind (bar_at f.probe at.0) kind)
to_wide r f system.Rom space q e is (named, any) = (let no = sym is.named ∙ named in cc)
to_wide r f (system.Window kind) space q e is (named, any) = (let no = sym is.named ∙ named in cc)

from_wide : (r : Record) (f : Function) (part : system.Part) (space : Space) (q : Region) → record_value r ≡ record_of f → IsRegionOf f part space q → is_wide_part f part ≡ true → IsWideIn r q
from_wide r f (system.Bar n) space q e is wide =
    let claims = (is.claims q.first).0 (omega arith, is.some) in
    let found = bar_of_register r f n e (ltb-true n (bar_count (layout f.image)) claims.there) (has_bar-of_decodes f.image f.probe n q.first claims.decodes) in
    let b : Bar = found.0 in (
      is.named,
      (
        found.1.0,
        b,
        found.1.1,
        found.1.2,
        (
          ap (λ (d : DecodedBar). d.register) found.2.is ∙ sym is.register,
          memory64 b.kind (ap (λ (d : DecodedBar). d.kind) found.2.is ∙ kind_of_wide (bar_at f.probe n) wide),
        ),
      ),
    )
from_wide r f system.Rom space q e is wide = cc
from_wide r f (system.Window kind) space q e is wide = cc

-- so far as a record's region is of 64 bits, its part is
pub wide_is : (r : Record) (f : Function) (part : system.Part) (space : Space) (q : Region) (wide : Bool) → record_value r ≡ record_of f → IsRegionOf f part space q → IsTrue wide ↔ IsWideIn r q
    → wide ≡ is_wide_part f part
wide_is r f part space q wide e is exact = same_truth wide (is_wide_part f part) (λ w. to_wide r f part space q e is (exact.0 w)) (λ w. exact.1 (from_wide r f part space q e is w))

-- ---- what is told of it

pub window_part : (part : system.Part) → name_of part ≡ parts.Window → is_window part ≡ true
window_part (system.Bar n) e = cc
window_part system.Rom e = cc
window_part (system.Window kind) e = refl

pub no_window_part : (part : system.Part) → (name_of part ≡ parts.Window → ⊥) → is_window part ≡ false
no_window_part (system.Bar n) none = refl
no_window_part system.Rom none = refl
no_window_part (system.Window kind) none = absurd (none refl)

pub or_true : (w : Bool) → w || true ≡ true
or_true true = refl
or_true false = refl

-- whether its size is assumed is told by the slot and the register that the fault names
pub same_size : (assumed : List AssumedRegister) (s : System) (slot : Slot) (reg : ℕ) (space : Space) (q : Region) (is : Bool) → IsFoundIn s slot reg space q → is_size_assumed assumed slot reg ≡ is
    → is_size_assumed assumed q.slot q.reg ≡ is
same_size assumed s slot reg space q is found e = ap (λ x. is_size_assumed assumed x q.reg) found.slot_is ∙ ap (λ n. is_size_assumed assumed slot n) found.register ∙ e
