-- The plan that is made of a planned system.
use Rattle.std.proofs.Common.{◌≡◌, ℕ, suc, ◌^◌, ◌<◌, ◌⊎◌, inl, inr, List, [], ◌∷◌, Bool, true, false, cond, refl, arith, sym, ◌∙◌, ap, subst, map, length}
use Rattle.std.specs.Prelude.{count_by}
use Rattle.std.specs.List.{All, AllZip, filter}
use Rattle.std.specs.List.Sorted.{IsStrictlyIncreasing}
use Rattle.std.proofs.lemmas.List.Sums.{length-filter}
use Rattle.pci_spec.specs.Text.{Block, slots_of}
use Rattle.pci_spec.specs.System.{System, Function, IsSystem, function_of, system_of}
use Rattle.pci_spec.specs.Sound.{IsSound}
use Rattle.pci_spec.specs.Decoded.{IsDecodable}
use Rattle.pci_spec.specs.Machine.{Write}
use Rattle.plan_spec.specs.Plan.{Pools}
use Rattle.plan_spec.specs.PlanPromise.{CanBePlanned, changes_between, with_rom_on, IsPlanOf, IsSafeFrom}
use Rattle.plan_spec.specs.Planning.Numbers.{IsPlannedFunction}
use Rattle.plan_spec.specs.Planning.Plannable.{IsPlannable}
use Rattle.plan_spec.specs.Planning.Promise.{IsFinal}
use Rattle.plan_spec.specs.Planning.PlanWrites.{closing_writes, plan_writes}
use Rattle.plan_spec.specs.Planning.Safety.{is_on}
use Rattle.pci_spec.proofs.Pairing.{same_length}
use Rattle.plan_spec.proofs.Planning.Whole.{moved_system}
use Rattle.plan_spec.proofs.Planning.Planned.{moved_decodable}
use Rattle.plan_spec.proofs.Planning.PlanStands.{olds_of, count_closing, safe_from_is, plan_stands}
use Rattle.plan_spec.proofs.Planning.Plannings.{tables_of_plannable, final_by_numbers}
use Rattle.plan_spec.proofs.Planning.RomsOnLayout.{roms_on_is_sound}
use Rattle.plan_spec.proofs.Planning.ShownSystem.{switched_on}
use Rattle.pci_tree.specs.Admission.{Admission, IsAdmitted}
use Rattle.pci_place.specs.Above.{system_in}
use Rattle.pci_plan.specs.Plans.{IsPlanValue, IsPlanIn}
use Rattle.pci_plan.specs.Writes.{is_image_on, block_changes}
use Rattle.pci_plan.proofs.WriteLists.{writes_by_blocks}

kept_count : (on : Bool) (b : Block) (f : Function) (bs : List Block) (fs : List Function) → length bs ≡ length fs → length (cond on (b ∷ bs) bs) ≡ length (cond on (f ∷ fs) fs)
kept_count true b f bs fs same = ap suc same
kept_count false b f bs fs same = same

-- as many blocks are on as functions
on_by_blocks : (dump probe : List Block) → length dump ≡ length probe → length (filter (λ (b : Block). is_image_on b.image) dump) ≡ length (filter is_on (system_of dump probe))
on_by_blocks [] probe same = refl
on_by_blocks (b ∷ dump) [] same = absurd (let impossible : ⊥ = omega (arith, same) in impossible)
on_by_blocks (b ∷ dump) (p ∷ probe) same =
    kept_count (is_image_on b.image) b (function_of b p) (filter (λ (x : Block). is_image_on x.image) dump) (filter is_on (system_of dump probe))
    (on_by_blocks dump probe (omega (arith, same)))

module _ (a : Admission) (admitted : IsAdmitted a) (decodable : All IsDecodable (system_in a)) (rising : IsStrictlyIncreasing a.roots) (pools : Pools) (addresses : pools.prefetch.last < 2 ^ 64)
    (can : CanBePlanned a.roots (system_in a) pools) (dump : List Block) (slots : slots_of dump ≡ slots_of a.dump) (planned : AllZip (IsPlannedFunction a.roots (system_in a) pools) (system_in a) (system_of dump a.probe)) where
  abbrev s : System
  s = system_in a

  abbrev t : System
  t = system_of dump a.probe

  plannable : IsPlannable a.roots s pools
  plannable = record {
    system = admitted.system;
    nested = admitted.nested;
    profile = admitted.profile;
    chains = admitted.chains;
    decodable = decodable;
    addresses = addresses;
    can = can;
  }

  pub final : IsFinal a.roots s t pools
  final = final_by_numbers a.roots s pools plannable rising t planned

  pub final_system : IsSystem t
  final_system = moved_system s t final.planned.moved admitted.system

  roms : IsSound a.roots (map with_rom_on t)
  roms = roms_on_is_sound a.roots t pools final_system final.sound (moved_decodable s t admitted.system final.planned.moved decodable) final.laid_out
      (switched_on a.roots s t pools plannable (tables_of_plannable a.roots s pools plannable rising) planned) can.good

  same_dump : length dump ≡ length a.dump
  same_dump = same_length dump a.dump slots

  same_probe : length a.probe ≡ length a.dump
  same_probe = sym (same_length a.dump a.probe admitted.slots)

  closings_are : count_by (λ (b : Block). is_image_on b.image) a.dump ≡ length (closing_writes (changes_between s t))
  closings_are =
      sym (length-filter (λ (b : Block). is_image_on b.image) a.dump)
      ∙ on_by_blocks a.dump a.probe (sym same_probe)
      ∙ sym (ap (λ (u : System). length (filter is_on u)) (olds_of s t final.planned.moved))
      ∙ sym (count_closing (changes_between s t))

  module _ (ws : List Write) (are : ws ≡ plan_writes (block_changes a.dump dump)) (n : ℕ)
      (safe : (IsSound a.roots s × (n ≡ 0)) ⊎ ((IsSound a.roots s → ⊥) × (n ≡ count_by (λ (b : Block). is_image_on b.image) a.dump))) where
    writes_are : ws ≡ plan_writes (changes_between s t)
    writes_are = are ∙ writes_by_blocks a.dump dump a.probe same_dump same_probe

    safe_from : IsSafeFrom a.roots s (length (closing_writes (changes_between s t))) n
    safe_from = safe_from_is a.roots s t final.planned.moved admitted.nested admitted.profile admitted.chains n (elim safe [
      | inl sound ↦ inl sound
      | inr unsound ↦ inr (unsound.0, unsound.1 ∙ closings_are)
    ])

    whole : IsPlanOf a.roots s t pools ws n
    whole = subst (λ us. IsPlanOf a.roots s t pools us n) (sym writes_are)
        (plan_stands a.roots s t pools n admitted.system admitted.nested admitted.profile admitted.chains final.planned final.placed final.sound roms safe_from)

    -- what every plan keeps
    pub plan_kept : IsPlanValue record { start = a; dump = dump; writes = ws; safe_from = n }
    plan_kept = record {
      admitted = admitted;
      slots = slots;
      moved = final.planned.moved;
      system = final_system;
      sound = final.sound;
      roms = roms;
      writes = writes_are;
      reached = whole.reached;
      changes = whole.changes;
      few = whole.few;
      safe = safe_from;
      stops = whole.stops;
    }

    -- it is a plan in these pools
    pub plan_made : map (λ (b : Block). b.title) dump ≡ map (λ (b : Block). b.title) a.dump → IsPlanIn a pools record { start = a; dump = dump; writes = ws; safe_from = n }
    plan_made titles = record { start = refl; possible = can; slots = slots; titles = titles; plan = whole }
