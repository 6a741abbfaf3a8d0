-- A worked tree is settled beside a told range: what is asked for soundness as told is met.
use Rattle.std.proofs.Common.{◌≡◌, ◌^◌, ◌<◌, List, [], ◌∷◌, inl, inr, refl, sym, ◌∙◌, ap, subst, true, arith}
use Rattle.std.specs.Bool.{IsTrue}
use Rattle.std.specs.List.{Contains}
use Rattle.std.proofs.lemmas.Bool.{both_ways}
use Rattle.std.proofs.lemmas.List.Elements.{All-cons, All-nil}
use Rattle.std.proofs.lemmas.List.Sorted.{IsNonDecreasingBy-short}
use Rattle.pci_spec.specs.Slot.{Slot, slot_number}
use Rattle.pci_spec.specs.Machine.{Write, system_after}
use Rattle.pci_spec.proofs.Examples.Samples.{slot}
use Rattle.pci_spec.proofs.Members.{in_nil, in_cons_cases, in_head, in_tail}
use Rattle.plan_spec.proofs.Examples.Admitted.{tree_is_a_system, tree_is_nested, tree_is_in_profile, tree_has_chains}
use Rattle.plan_spec.proofs.Examples.Placed.{start}
use Rattle.judge_spec.specs.Told.{Always, ToldRange, IsToldRange, is_name_byte}
use Rattle.judge_spec.specs.ToldClaims.{is_marked_held}
use Rattle.judge_spec.proofs.Examples.ToldClaims.{told_memory, told_ranges}
use Rattle.settle_spec.specs.Lists.{RootRange, Request}
use Rattle.settle_spec.specs.Items.{window_within, holds_within}
use Rattle.settle_spec.specs.Stands.{stands_within, range_stands_within}
use Rattle.settle_spec.specs.Reach.{reach_within}
use Rattle.settle_spec.specs.Growth.{there_beside, there_within}
use Rattle.settle_spec.specs.Writes.{Settled}
use Rattle.settle_spec.specs.Keeping.Places.{placing_within}
use Rattle.settle_spec.specs.Keeping.Registers.{is_live_within}
use Rattle.settle_spec.specs.Sparing.{is_settled, settle_sparing}
use Rattle.settle_spec.proofs.Examples.Settlings.{all_roots}
use Rattle.settle_spec.proofs.Examples.Growth.{roomy}
use Rattle.settle_spec.proofs.Examples.ToldPlaces.{as_told}
use Rattle.settle_laws.specs.ToldSoundLaws.{IsToldOf, IsSoundAsTold, CanAskTold}
use Rattle.settle_laws.proofs.Told.Settling.{settled_sparing_is_sound}
use Rattle.settle_laws.proofs.Told.Wished.{writes_from}

-- a megabyte that a function on the root answers whatever its Command says
abbrev line : ToldRange
line = told_memory (slot 0 2 0) 0xe0000000 0xe00fffff Always

abbrev asked : Request
asked = as_told (told_ranges (line ∷ [])) roomy

lawful_line : IsToldRange line
lawful_line = record {
  line = record { slot = (omega arith, omega arith, omega arith); plain = λ io. refl; first = omega arith; last = omega arith; name = (omega arith, All-nil (λ c. IsTrue (is_name_byte c))) };
  forward = omega arith;
}

only_line : (r : ToldRange) → Contains (line ∷ []) r → line ≡ r
only_line r has = elim (in_cons_cases line [] r has) [ inl is ↦ is | inr none ↦ absurd (in_nil r none) ]

abbrev slots : List Slot
slots = slot 0 1 0 ∷ slot 0 2 0 ∷ slot 1 0 0 ∷ []

told_of_tree : IsToldOf asked start
told_of_tree = record {
  lawful = record { each = All-cons IsToldRange line [] lawful_line (All-nil IsToldRange); order = IsNonDecreasingBy-short (λ (r : ToldRange). slot_number r.slot) (line ∷ []) (omega arith); room = omega arith };
  awake = refl;
  listed = λ at none. none.not_listed (subst (Contains slots) (ap (λ (r : ToldRange). r.slot) (only_line none.r none.is_told) ∙ none.of_slot) (in_tail (slot 0 1 0) (slot 0 2 0 ∷ slot 1 0 0 ∷ []) (slot 0 2 0) (in_head (slot 0 2 0) (slot 1 0 0 ∷ []))));
  led_to = λ at orphan. both_ways (is_marked_held orphan.r.mark) (sym (ap (λ (r : ToldRange). is_marked_held r.mark) (only_line orphan.r orphan.is_told))) orphan.held;
}

may_be_asked : CanAskTold asked start
may_be_asked = record {
  admitted = record {
    high = λ r has. elim (in_cons_cases (all_roots 0x100000000 0x1ffffffff) [] r has) [
      | inl is ↦ subst (λ (x : RootRange). x.range.last < 2 ^ 64) is (omega arith)
      | inr none ↦ absurd (in_nil r none)
    ];
    system = tree_is_a_system;
    nested = tree_is_nested;
    profile = tree_is_in_profile;
    chains = tree_has_chains;
  };
  told = told_of_tree;
}

-- it is settled,
settles : is_settled (settle_sparing asked start) ≡ true
unfolding stands_within range_stands_within window_within holds_within reach_within there_beside there_within placing_within is_live_within
settles = refl

-- and what it comes to is sound as told
sound_then : (writes : List Write) × (settle_sparing asked start ≡ Settled writes) × IsSoundAsTold asked (system_after start writes)
sound_then =
    let some = writes_from (settle_sparing asked start) settles in
    (some.0, some.1, settled_sparing_is_sound asked start some.0 may_be_asked some.1)
