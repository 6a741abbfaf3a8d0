-- A told range or a fixed part that isn't kept is named, and settling ends so.
use Rattle.std.proofs.Common.{◌≡◌, ◌-◌, ◌∙◌, sym, ap, subst, refl, Bool, Option, None, Some}
use Rattle.std.specs.Option.{option_map}
use Rattle.std.proofs.lemmas.Option.{none-some, same_Some}
use Rattle.pci_spec.specs.System.{System}
use Rattle.judge_spec.specs.ToldRegion.{ToldRegion}
use Rattle.settle_spec.specs.Lists.{Request}
use Rattle.settle_spec.specs.Writes.{NotKept, fixed_without}
use Rattle.settle_spec.specs.Kept.{Kept}
use Rattle.settle_spec.specs.Keeping.Writes.{is_not_reached, does_not_stay, earliest}
use Rattle.pci_base.specs.declared.memory.Refused.TheVariants as refused
use Rattle.pci_tree.specs.Admission.{Admission}
use Rattle.pci_place.specs.Above.{system_in}
use Rattle.pci_settle.specs.declared.lack.SettleFault.{SettleFault}
use Rattle.pci_settle.specs.Fixed.{fixed_part}
use Rattle.pci_settle.specs.ToldEndings.{told_fault, first_told}
use Rattle.pci_settle.specs.Bounded.{or_other, kept_fault}
use Rattle.pci_settle.specs.Endings.{after_lists, AreKeptStanding, AreKeptStaying, IsEndedBy}
use Rattle.pci_settle.proofs.Endings.{ends_unreached, ends_cut}
use Rattle.pci_settle.proofs.Refusals.{none_found, kept_staying, unstaying}
use Rattle.pci_settle.proofs.ToldFirsts.{register_back}

module _ (a : Admission) (q : Request) (keep : Kept) where
  abbrev s : System
  s = system_in a

  -- a told range is named by its line
  module _ (test : ToldRegion → Bool) (ends : (x : ToldRegion) → earliest q test ≡ Some x → after_lists q (system_in a) keep ≡ NotKept x.told.slot x.register) where
    named_by : (f : SettleFault) (o : Option ToldRegion) → earliest q test ≡ o → Some f ≡ option_map told_fault o → IsEndedBy a q keep (refused.Fault f)
    named_by f None at e = absurd (none-some f (sym e))
    named_by f (Some x) at e = subst (λ y. IsEndedBy a q keep (refused.Fault y)) (sym (same_Some f (told_fault x) e))
        (ends x at ∙ ap (NotKept x.told.slot) (sym (register_back q test x at)))

    pub named_line : (f : SettleFault) → Some f ≡ first_told q test → IsEndedBy a q keep (refused.Fault f)
    named_line f e = named_by f (earliest q test) refl e

  -- one that is on doesn't stand
  pub unreached : (f : SettleFault) → Some f ≡ first_told q (is_not_reached q s) → IsEndedBy a q keep (refused.Fault f)
  unreached f e = named_line (is_not_reached q s) (ends_unreached q s keep) f e

  -- one that stands doesn't stay, or else a fixed part
  module _ (stand : AreKeptStanding q s) where
    unkept_by : (f : SettleFault) (o : Option SettleFault) → first_told q (does_not_stay q s keep) ≡ o
        → Some f ≡ or_other o (option_map fixed_part (fixed_without keep.stays q s)) → IsEndedBy a q keep (refused.Fault f)
    unkept_by f None at e = unstaying a q keep stand (none_found told_fault (earliest q (does_not_stay q s keep)) (sym at)) f e
    unkept_by f (Some g) at e = named_line (does_not_stay q s keep) (ends_cut q s keep stand) f (e ∙ sym at)

    pub unkept : (f : SettleFault) → Some f ≡ kept_fault q s keep → IsEndedBy a q keep (refused.Fault f)
    unkept f e = unkept_by f (first_told q (does_not_stay q s keep)) refl e

  -- each told range that stands stays, and each fixed part
  all_kept_by : (o : Option SettleFault) → first_told q (does_not_stay q s keep) ≡ o
      → None ≡ or_other o (option_map fixed_part (fixed_without keep.stays q s)) → AreKeptStaying q s keep
  all_kept_by None at e = kept_staying a q keep (none_found told_fault (earliest q (does_not_stay q s keep)) (sym at)) e
  all_kept_by (Some g) at e = absurd (none-some g e)

  pub all_kept : None ≡ kept_fault q s keep → AreKeptStaying q s keep
  all_kept e = all_kept_by (first_told q (does_not_stay q s keep)) refl e

-- each told range that is on stands
pub all_reached : (q : Request) (s : System) → None ≡ first_told q (is_not_reached q s) → earliest q (is_not_reached q s) ≡ None
all_reached q s e = none_found told_fault (earliest q (is_not_reached q s)) e
