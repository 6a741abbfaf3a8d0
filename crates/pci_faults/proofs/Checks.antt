-- Faults of one function by the check at which they are looked for.
use Rattle.std.proofs.Common.{◌≡◌, ℕ, ◌<◌, List, ◌∷◌, drop, length, refl, Bool, true, false, arith, sym, ◌∙◌, ap, subst}
use Rattle.std.specs.Prelude.{slice_index_or, IsTrue}
use Rattle.std.specs.Bool.{then_some}
use Rattle.std.proofs.lemmas.Bool.{both_ways}
use Rattle.pci_spec.specs.Slot.{Slot}
use Rattle.pci_spec.specs.System.{Function}
use Rattle.pci_spec.specs.Fault.{Fault, NoVendor, HeaderKind, CapRange, CapLoop, CapCut, SlotsDiffer, StrayProbe}
use Rattle.pci_spec.specs.Order.{precedes, looking_key, phase_of, is_before}
use Rattle.pci_spec.specs.FaultLines.{subject}
use Rattle.pci_spec.proofs.FirstLines.{less_precedes}
use Rattle.pci_function.specs.declared.fault.Fault.{Fault as FaultOfCode}
use Rattle.pci_function.specs.Fault.{fault_of}
use Rattle.pci_function.specs.Profile.{IsHere}
use Rattle.pci_function.proofs.FirstHere.{rest_of}
use Rattle.pci_faults.specs.OwnLines.{IsOwnLine, IsBeforeIn}
use Rattle.pci_faults.proofs.Keys.{not_before_itself, same_phase, before_by_rest}
use Rattle.pci_faults.proofs.Lists.{IsOnly}

-- the number of the check
abbrev pub check_of : Function → Fault → ℕ
check_of f e = slice_index_or (rest_of f e) 0 0

rest_front : (f : Function) (e : Fault) → IsHere f e → rest_of f e ≡ check_of f e ∷ drop 1 (rest_of f e)
rest_front f (SlotsDiffer slot) is = absurd is
rest_front f _ is = refl

pub has_check : (f : Function) (e : Fault) → IsHere f e → 0 < length (rest_of f e)
has_check f e is = let front = ap length (rest_front f e is) in omega (arith, front)

-- an earlier check comes before
pub check_rises : (phase : ℕ) (f : Function) (a b : Fault) → IsOwnLine phase f a → IsOwnLine phase f b → check_of f a < check_of f b → IsBeforeIn f a b
check_rises phase f a b is_a is_b less =
    before_by_rest f a b is_a.here is_b.here (is_a.phase_is ∙ sym is_b.phase_is)
    (subst (λ k. precedes k (rest_of f b) ≡ true) (sym (rest_front f a is_a.here))
    (subst (λ k. precedes (check_of f a ∷ drop 1 (rest_of f a)) k ≡ true) (sym (rest_front f b is_b.here))
    (less_precedes (check_of f a) (check_of f b) (drop 1 (rest_of f a)) (drop 1 (rest_of f b)) less)))

-- ---- faults that are subjects of their own

-- neither of identity nor of a capabilities list
abbrev pub IsWhole : Fault → Type 0
IsWhole (NoVendor slot) = ⊥
IsWhole (HeaderKind slot) = ⊥
IsWhole (StrayProbe slot offset) = ⊥
IsWhole (CapRange slot place) = ⊥
IsWhole (CapLoop slot place) = ⊥
IsWhole (CapCut slot place) = ⊥
IsWhole _ = Unit {0}

whole_key : (image_of : Slot → List ℕ) (e : Fault) → IsWhole e → looking_key image_of e ≡ subject e
whole_key image_of (NoVendor slot) whole = absurd whole
whole_key image_of (HeaderKind slot) whole = absurd whole
whole_key image_of (StrayProbe slot offset) whole = absurd whole
whole_key image_of (CapRange slot place) whole = absurd whole
whole_key image_of (CapLoop slot place) whole = absurd whole
whole_key image_of (CapCut slot place) whole = absurd whole
whole_key image_of _ whole = refl

-- a fault with the same subject isn't looked for before
pub alone_in_subject : (image_of : Slot → List ℕ) (other e : Fault) → IsWhole other → IsWhole e → subject other ≡ subject e → is_before image_of other e ≡ true → ⊥
alone_in_subject image_of other e whole_other whole_e same before =
    not_before_itself (subject e)
    (subst (λ k. precedes k (subject e) ≡ true) (whole_key image_of other whole_other ∙ same)
    (subst (λ k. precedes (looking_key image_of other) k ≡ true) (whole_key image_of e whole_e) before))

-- a later phase has such faults alone
pub late_is_whole : (e : Fault) → 2 < phase_of e → IsWhole e
late_is_whole (NoVendor slot) late = omega (arith, late)
late_is_whole (HeaderKind slot) late = omega (arith, late)
late_is_whole (StrayProbe slot offset) late = omega (arith, late)
late_is_whole (CapRange slot place) late = omega (arith, late)
late_is_whole (CapLoop slot place) late = omega (arith, late)
late_is_whole (CapCut slot place) late = omega (arith, late)
late_is_whole _ late = tt

pub late_alone : (image_of : Slot → List ℕ) (other e : Fault) → 2 < phase_of e → subject other ≡ subject e → is_before image_of other e ≡ true → ⊥
late_alone image_of other e late same before =
    let phase = same_phase other e same in
    alone_in_subject image_of other e (late_is_whole other (omega (arith, phase, late))) (late_is_whole e late) same before

-- ---- faults by a test

pub only_if : (Is : Fault → Type 0) (b : Bool) (x : FaultOfCode) → (IsTrue b → Is (fault_of x)) → ((e : Fault) → Is e → (e ≡ fault_of x) × IsTrue b) → IsOnly Is (then_some b x)
only_if Is true x to from = (to refl, λ e is. (from e is).0)
only_if Is false x to from = λ e is. both_ways false refl (from e is).1
