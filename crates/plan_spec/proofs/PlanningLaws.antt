-- The laws of planning, from the lemmas that planning stands on.
use Rattle.std.proofs.Common.{◌≡◌, ℕ, zero, suc, ◌+◌, ◌<◌, ◌≤◌, inl, inr, List, [], ◌∷◌, refl, true, arith, ap}
use Rattle.std.specs.List.{sum}
use Rattle.std.proofs.lemmas.Bool.{cases_lt}
use Rattle.std.proofs.lemmas.List.Elements.{All-weaker}
use Rattle.pci_spec.specs.Decoded.{IsDecodable}
use Rattle.pci_spec.specs.Fault.{Fault, NoVendor, HeaderKind, BarType, BarMask, BarPair, RomMask, WindowMask, CapRange, CapLoop, CapCut, SlotsDiffer, StrayProbe, LoneFunction, OfProfile, BusRange, Orphan, Unreached, Clash, Split, fault_number}
use Rattle.pci_spec.specs.Sound.{is_of_profile}
use Rattle.plan_spec.specs.Planning.Safety.{IsSafe}
use Rattle.plan_spec.specs.PlanningLaws.{CutIsSound, OffIsSound, IdleCommandIsFree, MovedIsSystem, MovedIsNested, MovedIsInProfile, MovedHasChains, ProfileDecodes, LargestFirstIsAligned, TakesAddress, PlacedFillsItsRange, PlacedTakesOnce, FewWritesEach, WindowIsLeastPower, LaidOutIsSound, RomsCanBeOn, PlacesAreATable, PlannedNumbersAreFinal}
use Rattle.pci_spec.specs.ProbeLaws.{is_reading_number}
use Rattle.pci_spec.specs.ToldAlike.{IsReadable}
use Rattle.pci_spec.proofs.Readable.{readable_of_none}
use Rattle.plan_spec.proofs.Planning.Faults.{moved_profile}
use Rattle.plan_spec.proofs.Planning.FewEach.{few_at_each}
use Rattle.plan_spec.proofs.Planning.Idle.{idle_claim_nothing}
use Rattle.plan_spec.proofs.Planning.Kept.{moved_nested, moved_chains}
use Rattle.plan_spec.proofs.Planning.LaidOut.{laid_safe}
use Rattle.plan_spec.proofs.Planning.Placement.{placed, sum_cons, window_least}
use Rattle.plan_spec.proofs.Planning.Plannings.{tables_of_plannable, final_by_numbers}
use Rattle.plan_spec.proofs.Planning.RomsOnLayout.{roms_on_is_sound}
use Rattle.plan_spec.proofs.Planning.Safe.{safe_below}
use Rattle.plan_spec.proofs.Planning.Staging.{changes_rise}
use Rattle.plan_spec.proofs.Planning.Stop.{all_off_safe}
use Rattle.plan_spec.proofs.Planning.Whole.{moved_system}

-- ---- cuts

pub cut_is_sound : CutIsSound
cut_is_sound roots n part whole system sound moved cut =
    let safe : IsSafe roots part = safe_below roots n part whole system sound.nested cut record { single = sound.single; home = sound.home } in
    record {
      single = safe.single;
      home = safe.home;
      nested = moved_nested roots whole part system moved sound.nested;
      profile = moved_profile roots whole part system sound.chains moved sound.profile;
      chains = moved_chains whole part system moved sound.chains;
    }

pub off_is_sound : OffIsSound
off_is_sound roots s off nested profile chains =
    let safe : IsSafe roots s = all_off_safe roots s off in
    record { single = safe.single; home = safe.home; nested = nested; profile = profile; chains = chains }

pub idle_command_is_free : IdleCommandIsFree
idle_command_is_free roots s t system moved idle sound =
    let same = idle_claim_nothing roots s t idle in
    record {
      single = same.0.0 sound.single;
      home = same.1.0 sound.home;
      nested = moved_nested roots s t system moved sound.nested;
      profile = moved_profile roots s t system sound.chains moved sound.profile;
      chains = moved_chains s t system moved sound.chains;
    }

-- ---- what moving keeps

pub moved_is_system : MovedIsSystem
moved_is_system s t moved system = moved_system s t moved system

pub moved_is_nested : MovedIsNested
moved_is_nested roots s t moved system nested = moved_nested roots s t system moved nested

pub moved_is_in_profile : MovedIsInProfile
moved_is_in_profile roots s t moved system chains profile = moved_profile roots s t system chains moved profile

pub moved_has_chains : MovedHasChains
moved_has_chains s t moved system chains = moved_chains s t system moved chains

-- ---- the profile

-- faults of reading are of the profile
reading_in_profile : (fault : Fault) → is_reading_number (fault_number fault) ≡ true → is_of_profile fault ≡ true
reading_in_profile (NoVendor slot) reading = refl
reading_in_profile (HeaderKind slot) reading = refl
reading_in_profile (BarType slot register) reading = refl
reading_in_profile (BarMask slot register) reading = refl
reading_in_profile (BarPair slot register) reading = refl
reading_in_profile (RomMask slot register) reading = refl
reading_in_profile (WindowMask slot register) reading = refl
reading_in_profile (CapRange slot place) reading = reading
reading_in_profile (CapLoop slot place) reading = reading
reading_in_profile (CapCut slot place) reading = reading
reading_in_profile (SlotsDiffer slot) reading = refl
reading_in_profile (StrayProbe slot offset) reading = refl
reading_in_profile (LoneFunction slot) reading = refl
reading_in_profile (OfProfile fault slot) reading = refl
reading_in_profile (BusRange slot) reading = reading
reading_in_profile (Orphan slot) reading = reading
reading_in_profile (Unreached slot register space address bridge) reading = reading
reading_in_profile (Clash bus space address first first_register second second_register) reading = reading
reading_in_profile (Split space address first first_register second second_register) reading = reading

pub profile_decodes : ProfileDecodes
profile_decodes roots s profile = All-weaker IsReadable IsDecodable (λ f readable. readable.decodable) s (readable_of_none roots s (λ fault reading. profile fault (reading_in_profile fault reading)))

-- ---- largest first

pub largest_first_is_aligned : LargestFirstIsAligned
largest_first_is_aligned start sizes falling aligned = placed start sizes falling aligned

module _ (a : ℕ) where
  -- what the rest of the sizes takes
  later : (start x : ℕ) (xs : List ℕ) (k : ℕ) → TakesAddress start (x ∷ xs) a (suc k) → TakesAddress (start + x) xs a k
  later start x xs k t = record { inside = (let less = t.inside in omega (arith, less)); low = t.low; high = t.high }

  taken_in_range : (start : ℕ) (sizes : List ℕ) (k : ℕ) → TakesAddress start sizes a k → (start ≤ a) × (a < start + sum sizes)
  taken_in_range start [] k t = let less = t.inside in absurd (let no : ⊥ = omega (arith, less) in no)
  taken_in_range start (x ∷ xs) zero t = let e = sum_cons x xs in let low = t.low in let high = t.high in (omega (arith, low), omega (arith, high, e))
  taken_in_range start (x ∷ xs) (suc k) t =
      let e = sum_cons x xs in
      let rest = taken_in_range (start + x) xs k (later start x xs k t) in
      let from = rest.0 in
      let to = rest.1 in
      (omega (arith, from), omega (arith, to, e))

  taker_of : (start : ℕ) (sizes : List ℕ) → start ≤ a → a < start + sum sizes → (k : ℕ) × TakesAddress start sizes a k
  taker_of start [] low high = absurd (let no : ⊥ = omega (arith, low, high) in no)
  taker_of start (x ∷ xs) low high =
      let e = sum_cons x xs in
      elim (cases_lt a (start + x)) [
        | inl here ↦ (0, record { inside = omega arith; low = low; high = here })
        | inr past ↦
            let rest = taker_of (start + x) xs past (omega (arith, high, e)) in
            let less = rest.1.inside in
            (suc rest.0, record { inside = omega (arith, less); low = rest.1.low; high = rest.1.high })
      ]

  taken_once : (start : ℕ) (sizes : List ℕ) (j k : ℕ) → TakesAddress start sizes a j → TakesAddress start sizes a k → j ≡ k
  taken_once start [] j k one other = let less = one.inside in absurd (let no : ⊥ = omega (arith, less) in no)
  taken_once start (x ∷ xs) zero zero one other = refl
  taken_once start (x ∷ xs) zero (suc k) one other =
      let from = (taken_in_range (start + x) xs k (later start x xs k other)).0 in
      let high = one.high in
      absurd (let no : ⊥ = omega (arith, from, high) in no)
  taken_once start (x ∷ xs) (suc j) zero one other =
      let from = (taken_in_range (start + x) xs j (later start x xs j one)).0 in
      let high = other.high in
      absurd (let no : ⊥ = omega (arith, from, high) in no)
  taken_once start (x ∷ xs) (suc j) (suc k) one other = ap suc (taken_once (start + x) xs j k (later start x xs j one) (later start x xs k other))

pub placed_fills_its_range : PlacedFillsItsRange
placed_fills_its_range start sizes a = (λ taken. taken_in_range a start sizes taken.0 taken.1, λ inside. taker_of a start sizes inside.0 inside.1)

pub placed_takes_once : PlacedTakesOnce
placed_takes_once start sizes a j k one other = taken_once a start sizes j k one other

-- ---- writes

pub few_writes_each : FewWritesEach
few_writes_each changes h c listed = few_at_each changes (changes_rise changes h.system) c listed

-- ---- windows

pub window_is_least_power : WindowIsLeastPower
window_is_least_power c need small = window_least c need small

-- ---- everything at its place

pub laid_out_is_sound : LaidOutIsSound
laid_out_is_sound roots t pools nested profile chains laid on good =
    let safe : IsSafe roots t = laid_safe roots t pools nested (profile_decodes roots t profile) laid on good in
    record { single = safe.single; home = safe.home; nested = nested; profile = profile; chains = chains }

pub roms_can_be_on : RomsCanBeOn
roms_can_be_on roots t pools system sound laid on good = roms_on_is_sound roots t pools system sound (profile_decodes roots t sound.profile) laid on good

pub places_are_a_table : PlacesAreATable
places_are_a_table roots s pools c plannable rising = tables_of_plannable roots s pools plannable rising c

pub planned_numbers_are_final : PlannedNumbersAreFinal
planned_numbers_are_final roots s t pools plannable rising planned = final_by_numbers roots s pools plannable rising t planned
