-- What lacks a place is named, and settling ends so.
use Rattle.std.proofs.Common.{◌≡◌, ℕ, inl, inr, List, [], ◌∷◌, ◌&&◌, Bool, cond, not, Option, None, Some, false, refl, sym, ◌∙◌, ap, subst}
use Rattle.std.specs.Option.{option_map}
use Rattle.std.specs.List.{find, list_any}
use Rattle.std.proofs.lemmas.Option.{none-some, same_Some}
use Rattle.pci_spec.specs.Machine.{Write}
use Rattle.pci_spec.specs.Slot.{same_slot}
use Rattle.pci_spec.specs.System.{System, IsSystem, Io, Memory, window_space}
use Rattle.settle_spec.specs.Lists.{Request}
use Rattle.settle_spec.specs.Parts.{FunctionPart, system_parts}
use Rattle.settle_spec.specs.Stands.{is_fixed_part, stands}
use Rattle.settle_spec.specs.Writes.{Settled, or_lack, fixed_without, fixed_write}
use Rattle.settle_spec.specs.Kept.{Kept, as_it_stands}
use Rattle.settle_spec.specs.Keeping.Places.{lacking}
use Rattle.settle_spec.specs.Keeping.Writes.{settle_writes, is_not_reached, does_not_stay, would_be_switched, earliest}
use Rattle.pci_base.specs.declared.memory.Refused.{Refused}
use Rattle.pci_base.specs.declared.memory.Refused.TheVariants as refused
use Rattle.pci_base.specs.WindowKinds.{kind_value}
use Rattle.pci_tree.specs.Admission.{Admission}
use Rattle.pci_place.specs.Above.{system_in}
use Rattle.pci_first_fit.specs.declared.over.Left.{Left}
use Rattle.pci_first_fit.specs.Slots.{Demand}
use Rattle.pci_first_fit.specs.NewWindows.{IsTooLarge}
use Rattle.pci_settle_places.specs.declared.anew.Unplaced.{Unplaced}
use Rattle.pci_settle_places.specs.declared.anew.Unplaced.TheVariants as unplaced
use Rattle.pci_settle_places.specs.Spaces.{space_lack}
use Rattle.pci_settle_places.specs.Placed.{CanBeLeft, IsUnplacedOff}
use Rattle.pci_kept.specs.declared.windows.TooLarge.{TooLarge}
use Rattle.pci_kept.specs.Windows.{HasWholeWindow}
use Rattle.pci_settle.specs.declared.lack.SettleFault.{SettleFault}
use Rattle.pci_settle.specs.declared.lack.SettleFault.TheVariants as fault
use Rattle.pci_settle.specs.Requests.{CanStay}
use Rattle.pci_settle.specs.Lacks.{IsOfSystem, IsSettleFaultOf, too_large}
use Rattle.pci_settle.specs.Fixed.{fixed_part, fixed_register}
use Rattle.pci_settle.specs.Endings.{then_writes, after_lists, AreKeptStanding, AreKeptStaying, AreFixedKept, IsUnfixedUntold, IsStayKnown, IsTooLargeAsked, IsLack, IsLackOff, IsEndedBy}
use Rattle.pci_settle.proofs.Lacking.{lack_named}
use Rattle.pci_settle.proofs.Endings.{none_told, ends_unstanding, ends_unstaying, ends_written, ends_settled, past_fixed}

module _ (roots : List ℕ) (l : Demand) (left : Left) where
  pub named : (s : System) → IsSystem s → CanBeLeft roots s l left → (u : Unplaced) → IsUnplacedOff roots s l left (refused.Fault u) → IsOfSystem s u
  named s system can (unplaced.Lacks x) is = lack_named s system x can.request can.keep (is can.request can.keep can.leaving)
  named s system can (unplaced.TooLarge class k) is = (is can.request can.keep can.leaving).large.within

-- what isn't found
pub none_found : {X Z : Type 0} (f : X → Z) (o : Option X) → None ≡ option_map f o → o ≡ None
none_found f None e = refl
none_found f (Some x) e = absurd (none-some (f x) e)

none_in : {X : Type 0} (p : X → Bool) → ((x : X) → p x ≡ false) → (xs : List X) → find p xs ≡ None
none_in p none [] = refl
none_in p none (x ∷ xs) = ap (λ b. cond b (Some x) (find p xs)) (none x) ∙ none_in p none xs

module _ (a : Admission) (l : Demand) (left : Left) where
  pub lack_of_fault : (u : Unplaced) (f : SettleFault) → IsUnplacedOff a.roots (system_in a) l left (refused.Fault u) → IsSettleFaultOf (system_in a) u f
      → IsLackOff a l left (refused.Fault f)
  lack_of_fault (unplaced.Lacks x) fault.BadLists is of = absurd of
  lack_of_fault (unplaced.Lacks x) (fault.Assumed slot reg) is of = absurd of
  lack_of_fault (unplaced.Lacks x) (fault.NoRoom lack) is of = λ q keep leaving other. ap (λ o. or_lack o other) (is q keep leaving) ∙ of other
  lack_of_fault (unplaced.Lacks x) (fault.TooLarge class slot) is of = absurd of
  lack_of_fault (unplaced.Lacks x) (fault.Fixed slot reg) is of = absurd of
  lack_of_fault (unplaced.Lacks x) (fault.Told slot line) is of = absurd of
  lack_of_fault (unplaced.TooLarge class k) (fault.Fixed slot reg) is of = absurd of
  lack_of_fault (unplaced.TooLarge class k) (fault.Told slot line) is of = absurd of
  lack_of_fault (unplaced.TooLarge class k) fault.BadLists is of = absurd of
  lack_of_fault (unplaced.TooLarge class k) (fault.Assumed slot reg) is of = absurd of
  lack_of_fault (unplaced.TooLarge class k) (fault.NoRoom lack) is of = absurd of
  lack_of_fault (unplaced.TooLarge class k) (fault.TooLarge name slot) is of = λ q keep leaving. (
    record {
      function = k;
      is = of.1;
      large = subst (λ c. IsTooLarge q (system_in a) (kind_value c) k) (sym of.0) (is q keep leaving).large;
    },
    λ memory. (is q keep leaving).io (subst (λ c. window_space (kind_value c) ≡ Memory) of.0 memory),
  )

module _ (a : Admission) (q : Request) where
  -- where nothing is fixed, each fixed part stays
  no_fixed : (test : FunctionPart → Bool) → q.fixed ≡ [] → fixed_without test q (system_in a) ≡ None
  no_fixed test none = none_in (λ r. is_fixed_part q r && not (test r)) (λ r. ap (λ slots. list_any (same_slot r.function.slot) slots && not (test r)) none) (system_parts q (system_in a))

  -- where nothing is told either, all that is to stay does
  free_stay : (keep : Kept) → IsUnfixedUntold q → AreKeptStaying q (system_in a) keep
  free_stay keep free = record { told = none_told q free.1 (does_not_stay q (system_in a) keep); fixed = no_fixed keep.stays free.0 }

  -- a bridge whose new window is too large, and nothing is fixed or told only where nothing lacks a place in I/O
  pub asked_too_large : (w : TooLarge) (f : SettleFault) → IsTooLarge q (system_in a) (kind_value w.class) w.function → HasWholeWindow (system_in a)
      → IsSettleFaultOf (system_in a) (too_large w) f → (IsUnfixedUntold q → space_lack q (system_in a) (as_it_stands q (system_in a)) Io q.roots ≡ None) → IsTooLargeAsked a q (refused.Fault f)
  asked_too_large w fault.BadLists large whole of room = absurd of
  asked_too_large w (fault.Assumed slot reg) large whole of room = absurd of
  asked_too_large w (fault.NoRoom lack) large whole of room = absurd of
  asked_too_large w (fault.Fixed slot reg) large whole of room = absurd of
  asked_too_large w (fault.Told slot line) large whole of room = absurd of
  asked_too_large w (fault.TooLarge name slot) large whole of room = (
    record {
      function = w.function;
      is = of.1;
      large = subst (λ c. IsTooLarge q (system_in a) (kind_value c) w.function) (sym of.0) large;
    },
    (whole, λ none memory. room none),
  )

  -- where nothing is fixed or told, what lacks a place in I/O is named
  pub asked_io : HasWholeWindow (system_in a) → IsUnfixedUntold q → (e : Refused SettleFault) → IsLack a q (as_it_stands q (system_in a)) e → IsTooLargeAsked a q e
  asked_io whole none refused.Memory is = tt
  asked_io whole none (refused.Fault fault.BadLists) is = absurd is
  asked_io whole none (refused.Fault (fault.Assumed slot reg)) is = absurd is
  asked_io whole none (refused.Fault (fault.NoRoom lack)) is = (none, is)
  asked_io whole none (refused.Fault (fault.TooLarge class slot)) is = (is.0, (whole, λ free. is.1))
  asked_io whole none (refused.Fault (fault.Fixed slot reg)) is = absurd is
  asked_io whole none (refused.Fault (fault.Told slot line)) is = absurd is

  -- the same, where something may stay, and each told range that is on and each fixed part stands
  pub ended_too_large : CanStay q → AreKeptStanding q (system_in a) → (e : Refused SettleFault) → IsTooLargeAsked a q e → IsEndedBy a q (as_it_stands q (system_in a)) e
  ended_too_large left stand refused.Memory is = tt
  ended_too_large left stand (refused.Fault fault.BadLists) is = absurd is
  ended_too_large left stand (refused.Fault (fault.Assumed slot reg)) is = absurd is
  ended_too_large left stand (refused.Fault (fault.NoRoom lack)) is =
      let keep = as_it_stands q (system_in a) in
      past_fixed q (system_in a) keep stand (free_stay keep is.0) ∙ is.1 (then_writes q (system_in a) keep (settle_writes q (system_in a) keep))
  ended_too_large left stand (refused.Fault (fault.TooLarge class slot)) is = record {
    at = is.0;
    stand = stand;
    stay = λ known. absurd (unknown known);
    io = λ either. elim either [
      | inl known ↦ absurd (unknown known)
      | inr none ↦ is.1.1 none
    ];
  }
    where
      unknown : IsStayKnown q (system_in a) → ⊥
      unknown (inl anew) = left anew.0 anew.1
      unknown (inr narrow) = narrow is.1.0
  ended_too_large left stand (refused.Fault (fault.Fixed slot reg)) is = absurd is
  ended_too_large left stand (refused.Fault (fault.Told slot line)) is = absurd is

  -- each told range that is on and each fixed part stands
  pub kept_standing : earliest q (is_not_reached q (system_in a)) ≡ None → None ≡ option_map fixed_part (fixed_without (stands q (system_in a)) q (system_in a)) → AreKeptStanding q (system_in a)
  kept_standing told fixed = record { told = told; fixed = none_found fixed_part (fixed_without (stands q (system_in a)) q (system_in a)) fixed }

  pub kept_staying : (keep : Kept) → earliest q (does_not_stay q (system_in a) keep) ≡ None → None ≡ option_map fixed_part (fixed_without keep.stays q (system_in a)) → AreKeptStaying q (system_in a) keep
  kept_staying keep told fixed = record { told = told; fixed = none_found fixed_part (fixed_without keep.stays q (system_in a)) fixed }

module _ (a : Admission) (q : Request) (keep : Kept) where
  -- where nothing is told
  pub untold_kept : q.told.ranges ≡ [] → None ≡ option_map fixed_part (fixed_without (stands q (system_in a)) q (system_in a)) → None ≡ option_map fixed_part (fixed_without keep.stays q (system_in a)) → AreFixedKept q (system_in a) keep
  untold_kept untold stand stay = record {
    stand = kept_standing a q (none_told q untold (is_not_reached q (system_in a))) stand;
    stay = kept_staying a q keep (none_told q untold (does_not_stay q (system_in a) keep)) stay;
  }

  -- something fixed is in the way
  ended_fixed : (f : SettleFault) (r : FunctionPart) → Some f ≡ Some (fixed_part r) → IsEndedBy a q keep (refused.Fault (fixed_part r)) → IsEndedBy a q keep (refused.Fault f)
  ended_fixed f r e is = subst (λ x. IsEndedBy a q keep (refused.Fault x)) (sym (same_Some f (fixed_part r) e)) is

  module _ (told : earliest q (is_not_reached q (system_in a)) ≡ None) where
    unstanding_by : (f : SettleFault) (o : Option FunctionPart) → fixed_without (stands q (system_in a)) q (system_in a) ≡ o → Some f ≡ option_map fixed_part o → IsEndedBy a q keep (refused.Fault f)
    unstanding_by f None at e = absurd (none-some f (sym e))
    unstanding_by f (Some r) at e = ended_fixed f r e (ends_unstanding q (system_in a) keep told r at)

    pub unstanding : (f : SettleFault) → Some f ≡ option_map fixed_part (fixed_without (stands q (system_in a)) q (system_in a)) → IsEndedBy a q keep (refused.Fault f)
    unstanding f e = unstanding_by f (fixed_without (stands q (system_in a)) q (system_in a)) refl e

  module _ (stand : AreKeptStanding q (system_in a)) (told : earliest q (does_not_stay q (system_in a) keep) ≡ None) where
    unstaying_by : (f : SettleFault) (o : Option FunctionPart) → fixed_without keep.stays q (system_in a) ≡ o → Some f ≡ option_map fixed_part o → IsEndedBy a q keep (refused.Fault f)
    unstaying_by f None at e = absurd (none-some f (sym e))
    unstaying_by f (Some r) at e = ended_fixed f r e (ends_unstaying q (system_in a) keep stand told r at)

    pub unstaying : (f : SettleFault) → Some f ≡ option_map fixed_part (fixed_without keep.stays q (system_in a)) → IsEndedBy a q keep (refused.Fault f)
    unstaying f e = unstaying_by f (fixed_without keep.stays q (system_in a)) refl e

  -- nothing that is told or fixed is in the way
  module _ (kept : AreFixedKept q (system_in a) keep) where
    pub ended_of_lack : (e : Refused SettleFault) → IsLack a q keep e → IsEndedBy a q keep e
    ended_of_lack refused.Memory is = tt
    ended_of_lack (refused.Fault fault.BadLists) is = absurd is
    ended_of_lack (refused.Fault (fault.Assumed slot reg)) is = absurd is
    ended_of_lack (refused.Fault (fault.NoRoom lack)) is =
        past_fixed q (system_in a) keep kept.stand kept.stay ∙ is (then_writes q (system_in a) keep (settle_writes q (system_in a) keep))
    ended_of_lack (refused.Fault (fault.TooLarge class slot)) is =
        record { at = is.0; stand = kept.stand; stay = λ known. kept.stay; io = λ either. is.1 }
    ended_of_lack (refused.Fault (fault.Fixed slot reg)) is = absurd is
    ended_of_lack (refused.Fault (fault.Told slot line)) is = absurd is

    module _ (room : lacking q (system_in a) keep ≡ None) (writes : List Write) (are : writes ≡ settle_writes q (system_in a) keep) where
      written_by : (f : SettleFault) (o : Option Write) → fixed_write q writes ≡ o → Some f ≡ option_map fixed_register o → IsEndedBy a q keep (refused.Fault f)
      written_by f None at e = absurd (none-some f (sym e))
      written_by f (Some w) at e = subst (λ x. IsEndedBy a q keep (refused.Fault x)) (sym (same_Some f (fixed_register w) e))
          (ends_written q (system_in a) keep kept.stand kept.stay room writes are w at)

      pub written : (f : SettleFault) → Some f ≡ option_map fixed_register (fixed_write q writes) → IsEndedBy a q keep (refused.Fault f)
      written f e = written_by f (fixed_write q writes) refl e

      pub ended_settled : None ≡ option_map fixed_register (fixed_write q writes) → earliest q (would_be_switched q (system_in a) keep) ≡ None → after_lists q (system_in a) keep ≡ Settled writes
      ended_settled none told = ends_settled q (system_in a) keep kept.stand kept.stay room writes are (none_found fixed_register (fixed_write q writes) none) told
