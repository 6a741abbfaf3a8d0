-- Whether new windows have spares, as the code finds it.
use Rattle.std.proofs.Common.{arith, ◌≡◌, ◌<◌, ◌^◌, ◌⊎◌, inl, inr, ℕ, Bool, true, false, cond, ◌&&◌, List, [], ◌∷◌, length, refl, sym, ◌∙◌, ap, subst}
use Rattle.std.specs.Bool.{◌==◌}
use Rattle.std.specs.List.{Contains}
use Rattle.std.proofs.lemmas.Bool.{both_ways, eqb-true}
use Rattle.pci_spec.specs.Slot.{Slot}
use Rattle.pci_spec.specs.Text.{Block}
use Rattle.pci_spec.specs.Machine.{Write}
use Rattle.pci_spec.specs.System.{System}
use Rattle.settle_spec.specs.Lists.{RootRange, Request, are_bad_lists}
use Rattle.settle_spec.specs.Kept.{Kept as Keeping}
use Rattle.settle_spec.specs.Growing.{settle_growing, finally_kept}
use Rattle.settle_spec.specs.Sparing.{without_slots, is_settled, keep_alike, have_spares}
use Rattle.pci_base.specs.declared.memory.Refused.TheVariants as refused
use Rattle.pci_tree.specs.Admission.{Admission, IsAdmitted}
use Rattle.pci_place.specs.Above.{system_in}
use Rattle.pci_first_fit.specs.declared.kept.Kept.{Kept}
use Rattle.pci_settle.specs.declared.lack.SettleFault.{SettleFault}
use Rattle.pci_settle.specs.Told.{IsTableOf}
use Rattle.pci_settle.specs.Denied.{IsSpared}
use Rattle.pci_settle.specs.Ended.{Ended, IsEndOfSettling}
use Rattle.pci_settle.specs.Endings.{kept_after, IsEndedAfter, HasLarge}
use Rattle.pci_settle.specs.Alike.{PassesPartsOnly}
use Rattle.pci_settle.specs.Sparing.{IsWishedFor, HaveSpares}
use Rattle.pci_settle.specs.Wishes.{behind_slots}
use Rattle.pci_settle.proofs.AlikeParts.{stands_part}
use Rattle.pci_settle.proofs.Outcomes.{settles, ended, unsettled}
use Rattle.pci_settle.proofs.Spared.{spared, unspared}

module _ (a : Admission) (q : Request) (fine : are_bad_lists q.roots q.lists ≡ false) (staying : List Kept) where
  abbrev s : System
  s = system_in a

  -- what the code compares is what stays with slots
  module _ (o : Ended) (is : IsEndOfSettling q (kept_after q s) a o) where
    abbrev last : IsEndOfSettling q (finally_kept q s) a o
    last = ended a q fine o is

    pub alike_told : (have : Bool) (table : List Kept) → table ≡ o.staying
        → ((k j : Keeping) → IsTableOf s k.stays staying → IsTableOf s j.stays table → PassesPartsOnly q s k.stays → PassesPartsOnly q s j.stays → have ≡ keep_alike q s k j)
        → HaveSpares a q staying have
    alike_told have table same alike keep told known =
        let settled : is_settled (settle_growing q s) ≡ true = ap is_settled (settles a q fine o is) in
        inl (alike keep (finally_kept q s) told (subst (IsTableOf s (finally_kept q s).stays) (sym same) last.tells.stays_are) known (λ r stays. stands_part q s r (last.tells.standing r stays))
        ∙ sym (ap (λ b. b && keep_alike q s keep (finally_kept q s)) settled))

  -- what is refused with slots has none
  pub never_spared : (f : SettleFault) → IsEndedAfter a q (refused.Fault f) → HaveSpares a q staying false
  never_spared f is keep told known = elim (unsettled a q fine f is) [
    | inl none ↦ inl (sym (ap (λ b. b && keep_alike q s keep (finally_kept q s)) none))
    | inr large ↦ inr (large, refl)
  ]

-- ---- the whole

no_elements : {T : Type 0} (xs : List T) (b : Bool) → b ≡ (length xs == 0) → b ≡ true → xs ≡ []
no_elements [] b is empty = refl
no_elements (x ∷ xs) b is empty = absurd (let none = eqb-true (length (x ∷ xs)) 0 (sym is ∙ empty) in let no : ⊥ = omega (arith, none) in no)

module _ (a : Admission) (admitted : IsAdmitted a) (q : Request) (roots_are : q.roots ≡ a.roots) (fine : are_bad_lists q.roots q.lists ≡ false)
    (high : (r : RootRange) → Contains q.lists.prefetch r → r.range.last < 2 ^ 64) (o : Ended) (is : IsEndOfSettling (without_slots q) (kept_after (without_slots q) (system_in a)) a o) where
  abbrev here : System
  here = system_in a

  abbrev w : Request
  w = without_slots q

  abbrev alone : IsEndOfSettling w (finally_kept w here) a o
  alone = ended a w fine o is

  settled_alone : is_settled (settle_growing w here) ≡ true
  settled_alone = ap is_settled (settles a w fine o is)

  have_by : (have : Bool) → HaveSpares a q o.staying have → (have ≡ have_spares q here) ⊎ (HasLarge a q × (have ≡ false))
  have_by have told = told (finally_kept w here) alone.tells.stays_are (λ r stays. stands_part w here r (alone.tells.standing r stays))

  module _ (dump : List Block) (writes : List Write) (count : ℕ) (denied : List (Slot × ℕ)) where
    pub with_them : HaveSpares a q o.staying true → (sparing : Ended) → IsEndOfSettling q (kept_after q here) a sparing → IsWishedFor q q.slots (finally_kept q here) a dump writes count denied → IsSpared q a dump writes count denied
    with_them told sparing ends wished = spared a admitted q roots_are fine high q.slots sparing ends dump writes count denied wished
        (elim (have_by true told) [
          | inl have ↦ inl (ap (λ b. cond b q w) have)
          | inr large ↦ absurd (both_ways true large.1 refl)
        ]) settled_alone

    pub without_them : HaveSpares a q o.staying false → IsWishedFor q [] (finally_kept w here) a dump writes count denied → IsSpared q a dump writes count denied
    without_them told wished = spared a admitted q roots_are fine high [] o is dump writes count denied wished
        (elim (have_by false told) [
          | inl none ↦ inl (ap (λ b. cond b q w) none)
          | inr large ↦ inr (large.0, refl)
        ]) settled_alone

  -- no bridge has a slot
  pub slotless : (bridges : List Slot) → q.slots ≡ bridges → (b : Bool) → b ≡ (length bridges == 0) → b ≡ true → IsSpared q a o.dump o.writes o.closings []
  slotless bridges same b told empty =
      let none : q.slots ≡ [] = same ∙ no_elements bridges b told empty in
      subst (λ slots. IsSpared (behind_slots q slots) a o.dump o.writes o.closings []) (sym none) (unspared a admitted q roots_are fine high o is)
