-- A worked tree that is planned: the laws say something of it, with any of its functions off.
use Rattle.std.proofs.Common.{◌≡◌, ◌||◌, ℕ, suc, zero, [], ◌∷◌, true, false, arith, inl, inr, lit<, refl, subst, sym, ◌∙◌}
use Rattle.std.specs.Bool.{◌==◌}
use Rattle.std.specs.Int.{bit_at}
use Rattle.std.specs.List.{Contains}
use Rattle.std.specs.List.Sorted.{IsStrictlyIncreasing}
use Rattle.std.proofs.lemmas.Bool.{both_ways, cases_lt, eqb-true, or_cases}
use Rattle.std.proofs.lemmas.List.{get_or_past}
use Rattle.pci_spec.specs.Number.{byte_at, each_from, IsImage}
use Rattle.pci_spec.specs.System.{System, Function, Space, Io, Memory, is_space_on}
use Rattle.pci_spec.specs.Sound.{IsSound}
use Rattle.pci_spec.proofs.Bits.{each_from-at}
use Rattle.pci_spec.proofs.Examples.Samples.{bridge, device, host, slot}
use Rattle.pci_spec.proofs.Examples.Texts.{bytes_by}
use Rattle.plan_spec.specs.PlanPromise.{changes_between}
use Rattle.plan_spec.specs.Planning.Plannable.{IsPlannable}
use Rattle.plan_spec.specs.Planning.PlanWrites.{plan_writes}
use Rattle.plan_spec.proofs.Examples.Admitted.{tree_decodes, tree_has_chains, tree_is_a_system, tree_is_in_profile, tree_is_nested}
use Rattle.plan_spec.proofs.Examples.Filled.{tree_can_be_planned}
use Rattle.plan_spec.proofs.Examples.Placed.{planned, start}
use Rattle.plan_spec.proofs.Examples.Planned.{new_behind, new_bridge, new_device}
use Rattle.plan_spec.proofs.Examples.Plans.{pools}
use Rattle.plan_spec.proofs.Examples.WholePlan.{tree_has_a_plan}
use Rattle.settle_spec.specs.Lists.{Request}
use Rattle.settle_spec.specs.Parts.{has_left}
use Rattle.settle_spec.specs.Writes.{Settled, is_cut_off_in}
use Rattle.settle_spec.specs.Kept.{as_it_stands}
use Rattle.settle_spec.specs.Keeping.Writes.{settle_keeping}
use Rattle.settle_spec.specs.Growing.{settle_growing}
use Rattle.settle_laws.specs.SettledPlans.{just_in}
use Rattle.settle_laws.specs.Switching.{IsStandingSystem, IsSwitched, IsUncut}
use Rattle.settle_laws.proofs.JustPools.{has_just_pools, planned_is_settled_in_its_pools, planned_is_standing}
use Rattle.settle_laws.proofs.StandingSound.{standing_sound}
use Rattle.settle_laws.proofs.SwitchedStands.{switched_stands}
use Rattle.settle_laws.proofs.Uncut.{sound_is_uncut}

tree_is_plannable : IsPlannable host start pools
tree_is_plannable = record { system = tree_is_a_system; nested = tree_is_nested; profile = tree_is_in_profile; chains = tree_has_chains; decodable = tree_decodes; addresses = lit< tt; can = tree_can_be_planned }

one_root : IsStrictlyIncreasing host
one_root k less = absurd (let no : ⊥ = omega (arith, less) in no)

planned_tree_is_settled : (settle_keeping (just_in host pools []) planned (as_it_stands (just_in host pools []) planned) ≡ Settled [])
    × (settle_growing (just_in host pools []) planned ≡ Settled [])
planned_tree_is_settled = planned_is_settled_in_its_pools host start planned pools (plan_writes (changes_between start planned)) 0 [] tree_is_plannable one_root tree_has_a_plan

-- ---- functions switched off

abbrev asked : Request
asked = just_in host pools []

planned_tree_stands : IsStandingSystem asked planned
planned_tree_stands = planned_is_standing asked refl start planned pools (plan_writes (changes_between start planned)) 0 tree_is_plannable one_root tree_has_a_plan (has_just_pools host pools [])

module _ (old new : Function) (old_image : IsImage old.image) (new_image : IsImage new.image) (rest : each_from 0 256 (λ offset. offset == 4 || byte_at new.image offset == byte_at old.image offset) ≡ true) where
  other_byte : (offset : ℕ) → (offset ≡ 4 → ⊥) → byte_at new.image offset ≡ byte_at old.image offset
  other_byte offset other = elim (cases_lt offset 256) [
    | inl inside ↦ elim (or_cases (offset == 4) (byte_at new.image offset == byte_at old.image offset) (each_from-at 0 256 (λ offset. offset == 4 || byte_at new.image offset == byte_at old.image offset) rest offset (omega arith) inside)) [
      | inl command ↦ absurd (other (eqb-true offset 4 command))
      | inr same ↦ eqb-true (byte_at new.image offset) (byte_at old.image offset) same
    ]
    | inr beyond ↦
        let full_new = new_image.full in
        let full_old = old_image.full in
        get_or_past new.image offset 0 (omega (arith, beyond, full_new)) ∙ sym (get_or_past old.image offset 0 (omega (arith, beyond, full_old)))
  ]

  switched_by : new.slot ≡ old.slot → new.probe ≡ old.probe → each_from 2 6 (λ i. bit_at (byte_at new.image 4) i == bit_at (byte_at old.image 4) i) ≡ true → IsSwitched old new
  switched_by slot probe bits = record {
    slot = slot;
    probe = probe;
    image = new_image;
    bytes = other_byte;
    bits = λ i low high. eqb-true (bit_at (byte_at new.image 4) i) (bit_at (byte_at old.image 4) i) (each_from-at 2 6 (λ i. bit_at (byte_at new.image 4) i == bit_at (byte_at old.image 4) i) bits i low (omega (arith, high)));
  }

abbrev bridge_off : Function
bridge_off = bridge (slot 0 1 0) 0 0x10100 ((0x20, 0xe010e000) ∷ []) []

abbrev device_off : Function
device_off = device (slot 0 2 0) 0 ((0x10, 0xe0200000) ∷ []) ((0x10, 0xfff00000) ∷ [])

bridge_itself : IsSwitched new_bridge new_bridge
unfolding each_from
bridge_itself = let is : IsImage new_bridge.image = record { full = refl; bytes = bytes_by new_bridge.image refl } in switched_by new_bridge new_bridge is is refl refl refl refl

behind_itself : IsSwitched new_behind new_behind
unfolding each_from
behind_itself = let is : IsImage new_behind.image = record { full = refl; bytes = bytes_by new_behind.image refl } in switched_by new_behind new_behind is is refl refl refl refl

device_itself : IsSwitched new_device new_device
unfolding each_from
device_itself = let is : IsImage new_device.image = record { full = refl; bytes = bytes_by new_device.image refl } in switched_by new_device new_device is is refl refl refl refl

bridge_switched : IsSwitched new_bridge bridge_off
unfolding each_from
bridge_switched = switched_by new_bridge bridge_off record { full = refl; bytes = bytes_by new_bridge.image refl } record { full = refl; bytes = bytes_by bridge_off.image refl } refl refl refl refl

device_switched : IsSwitched new_device device_off
unfolding each_from
device_switched = switched_by new_device device_off record { full = refl; bytes = bytes_by new_device.image refl } record { full = refl; bytes = bytes_by device_off.image refl } refl refl refl refl

-- with the device on the root bus off

abbrev without_device : System
without_device = new_bridge ∷ device_off ∷ new_behind ∷ []

still_stands : IsStandingSystem asked without_device
still_stands = switched_stands asked refl planned without_device planned_tree_stands (bridge_itself, (device_switched, (behind_itself, tt)))

nothing_is_cut_off : IsUncut asked without_device
nothing_is_cut_off = record { left = λ f listed. by (λ f. has_left asked without_device f ≡ true → is_space_on f Io ≡ false) (λ h. absurd (both_ways false refl h)) (λ h. absurd (both_ways false refl h)) (λ h. absurd (both_ways false refl h)) f listed; above = above }
  where
    by : (P : Function → Type 0) → P new_bridge → P device_off → P new_behind → (f : Function) → Contains without_device f → P f
    by P a b c f (zero, less, is) = subst P is a
    by P a b c f (suc zero, less, is) = subst P is b
    by P a b c f (suc (suc zero), less, is) = subst P is c
    by P a b c f (suc (suc (suc k)), less, is) = absurd (let no : ⊥ = omega (arith, less) in no)

    above : (f : Function) (space : Space) → Contains without_device f → is_cut_off_in asked without_device f space ≡ false
    above f Io listed = by (λ f. is_cut_off_in asked without_device f Io ≡ false) refl refl refl f listed
    above f Memory listed = by (λ f. is_cut_off_in asked without_device f Memory ≡ false) refl refl refl f listed

is_sound_without_device : IsSound host without_device
is_sound_without_device = standing_sound asked without_device still_stands nothing_is_cut_off

-- with the bridge off, and what is behind it on

abbrev without_bridge : System
without_bridge = bridge_off ∷ new_device ∷ new_behind ∷ []

is_unsound_without_bridge : IsSound host without_bridge → ⊥
is_unsound_without_bridge sound =
    let stands = switched_stands asked refl planned without_bridge planned_tree_stands (bridge_switched, (device_itself, (behind_itself, tt))) in
    let uncut = sound_is_uncut asked refl without_bridge stands sound none_left in
    both_ways (is_cut_off_in asked without_bridge new_behind Memory) (uncut.above new_behind Memory (2, lit< tt, refl)) refl
  where
    none_left : (f : Function) → Contains without_bridge f → has_left asked without_bridge f ≡ true → is_space_on f Io ≡ false
    none_left f (zero, less, is) = subst (λ f. has_left asked without_bridge f ≡ true → is_space_on f Io ≡ false) is (λ h. refl)
    none_left f (suc zero, less, is) = subst (λ f. has_left asked without_bridge f ≡ true → is_space_on f Io ≡ false) is (λ h. refl)
    none_left f (suc (suc zero), less, is) = subst (λ f. has_left asked without_bridge f ≡ true → is_space_on f Io ≡ false) is (λ h. refl)
    none_left f (suc (suc (suc k)), less, is) = absurd (let no : ⊥ = omega (arith, less) in no)
