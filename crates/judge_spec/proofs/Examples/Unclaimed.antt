-- Bridges that take what no region of their bus claims.
use Rattle.std.proofs.Common.{◌≡◌, ℕ, [], ◌∷◌, codes, refl, true, false, inl, inr, map, lit<, lit≤}
use Rattle.pci_spec.specs.Number.{each_from}
use Rattle.pci_spec.specs.Slot.{Slot}
use Rattle.pci_spec.specs.System.{Function, Memory, Bar, Claims}
use Rattle.pci_spec.specs.Fault.{is_subtractive_bridge, named_region}
use Rattle.pci_spec.proofs.Bits.{interval-agrees}
use Rattle.pci_spec.proofs.Examples.Samples.{slot, device, bridge, range}
use Rattle.judge_spec.specs.Given.{Given, nothing_given, takes}
use Rattle.judge_spec.specs.Claims.{Own, forwards, passes}
use Rattle.judge_spec.specs.Told.{Held}
use Rattle.judge_spec.specs.ToldClaims.{nothing_told}
use Rattle.judge_spec.specs.Words.{taken_by_unclaimed, taking_bridges}
use Rattle.judge_spec.specs.Unclaimed.{IsUnclaimedOn}
use Rattle.judge_spec.specs.Why.{bridge_line}
use Rattle.judge_spec.proofs.Examples.Reasons.{line}
use Rattle.judge_spec.proofs.Examples.ToldClaims.{told_memory, told_ranges}

-- a bridge of class 060401h without an open window, by its device and Command
abbrev subtractive : ℕ → ℕ → Function
subtractive d command = bridge (slot 0 d 0) command 0x010100 ((0x08, 0x06040100) ∷ (0x20, 0x0000fff0) ∷ []) []

-- ---- which bridges take what nobody claims: those that are alone of the class on their bus

alone : taking_bridges (device (slot 0 2 0) 2 [] [] ∷ subtractive 30 2 ∷ []) ≡ slot 0 30 0 ∷ []
alone = refl

two_on_a_bus : taking_bridges (subtractive 29 0 ∷ subtractive 30 2 ∷ []) ≡ []
two_on_a_bus = refl

no_other_class : taking_bridges (bridge (slot 0 30 0) 2 0x010100 [] [] ∷ []) ≡ []
no_other_class = refl

-- they are no subtractive bridges as they are taken; two on a bus stay so
taken : map (λ s. map (λ f. is_subtractive_bridge f.image) (taken_by_unclaimed s)) ((subtractive 30 2 ∷ []) ∷ (subtractive 29 0 ∷ subtractive 30 2 ∷ []) ∷ [])
    ≡ (false ∷ []) ∷ (true ∷ true ∷ []) ∷ []
taken = refl

-- ---- what they take: where Command enables the space, in a range of their own

abbrev pub taking : Slot → Given
taking at = record nothing_given { unclaimed = record { slot = at; io = range 0 0xffffffff ∷ []; memory = range 0 0xdfffffff ∷ range 0xe0001000 0xffffffffffffffff ∷ [] } ∷ [] }

by_range : map (λ a. takes (taking (slot 0 30 0)) Memory a (subtractive 30 2)) (0 ∷ 0xdfffffff ∷ 0xe0000000 ∷ 0xe0000fff ∷ 0xe0001000 ∷ []) ≡ true ∷ true ∷ false ∷ false ∷ true ∷ []
by_range = refl

by_command : map (λ command. takes (taking (slot 0 30 0)) Memory 0xe0001000 (subtractive 30 command)) (0 ∷ 1 ∷ 2 ∷ []) ≡ false ∷ false ∷ true ∷ []
by_command = refl

by_slot : takes (taking (slot 0 29 0)) Memory 0xe0001000 (subtractive 30 2) ≡ false
by_slot = refl

-- they forward it, and pass it for BARs of each kind
forwarded : map (λ a. forwards (taking (slot 0 30 0)) Memory a (subtractive 30 2)) (0xe0000fff ∷ 0xe0001000 ∷ []) ≡ false ∷ true ∷ []
forwarded = refl

passed : map (λ prefetchable. passes (taking (slot 0 30 0)) Memory prefetchable 0xe0001000 (subtractive 30 2)) (false ∷ true ∷ []) ≡ true ∷ true ∷ []
passed = refl

-- ---- what is claimed: by a BAR, or by a range that is held

abbrev other : Function
other = device (slot 0 2 0) 2 ((0x10, 0xe0000800) ∷ []) ((0x10, 0xffffff00) ∷ [])

other_claims : Claims other (Bar 0) Memory 0xe0000800
unfolding each_from
other_claims = record { there = refl; enabled = refl; maps = refl; address = lit< tt; decodes = (refl, (8, refl, interval-agrees 8 0xe0000800 0xe0000800 (lit≤ tt) (lit≤ tt))) }

claimed_by_a_bar : IsUnclaimedOn (nothing_told []) nothing_given (other ∷ subtractive 30 2 ∷ []) 0 Memory 0xe0000800 → ⊥
claimed_by_a_bar free = free.unclaimed (named_region (slot 0 2 0) 0x10) (inl (other, Own (Bar 0), (0, lit< tt, refl), refl, refl, refl, record { claims = other_claims; kept = refl }))

claimed_by_a_held_range : IsUnclaimedOn (told_ranges (told_memory (slot 0 31 0) 0xe0000fff 0xe0000fff Held ∷ [])) nothing_given (subtractive 30 2 ∷ []) 0 Memory 0xe0000fff → ⊥
claimed_by_a_held_range free =
    free.unclaimed (named_region (slot 0 31 0) 256)
    (inr (record {
      r = told_memory (slot 0 31 0) 0xe0000fff 0xe0000fff Held;
      named = record { index = 0; at = refl; slot = refl; register = refl };
      on_the_bus = refl;
      claims = record { on = refl; holds = (refl, lit≤ tt, lit≤ tt) };
    }))

-- ---- what is told

its_line : bridge_line (taking (slot 0 30 0)) (subtractive 30 2) Memory false ≡ line (codes "  bridge 00:1e.0 on mem closed unclaimed")
its_line = refl
