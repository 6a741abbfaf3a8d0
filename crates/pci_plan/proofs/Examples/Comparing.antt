-- Which registers are compared, and what it is that they show.
use Rattle.std.proofs.Common.{◌≡◌, ℕ, zero, suc, inl, inr, List, [], ◌∷◌, refl, true, false, not, None, Some, arith, sym, ◌∙◌, ap, subst, lit<}
use Rattle.std.specs.Bool.{◌==◌}
use Rattle.std.specs.List.{Contains}
use Rattle.std.proofs.lemmas.Bool.{both_ways, eqb-true}
use Rattle.std.proofs.lemmas.Option.{same_Some}
use Rattle.pci_spec.specs.Number.{number_at}
use Rattle.pci_spec.specs.Slot.{Slot}
use Rattle.pci_spec.specs.Machine.{Target}
use Rattle.pci_spec.specs.Port.{target_at, ShowsNumber}
use Rattle.pci_spec.specs.Text.{Block}
use Rattle.plan_spec.proofs.Planning.Behind.{all_gives}
use Rattle.pci_spec.proofs.Examples.Samples.{blank, slot}
use Rattle.pci_plan.specs.declared.apply_fault.ApplyFault.TheVariants.{Changed, Port}
use Rattle.pci_plan.specs.Comparing.{compared, ShowsAll, ShowsOther, IsChangedAt, IsRefusedAt, IsCompareFault, IsFunctionFault, StartsAs, IsStartFault, moment}
use Rattle.pci_plan.proofs.Examples.Behind.{open_at, here, there, image, alike, other_rom, both}

-- what the function of one target shows is its own number
pub shown_by : (targets : List Target) (s : Slot) (t : Target) (o w n : ℕ) → target_at targets s ≡ Some t → ShowsNumber targets s o w n → n ≡ number_at t.image o w
shown_by targets s t o w n is (u, at, e) = e ∙ ap (λ (v : Target). number_at v.image o w) (sym (same_Some t u (sym is ∙ at)))

-- ---- the registers

registers_of_a_device : compared (blank 0 0) ≡ (0x04, 2) ∷ (0x10, 4) ∷ (0x14, 4) ∷ (0x18, 4) ∷ (0x1c, 4) ∷ (0x20, 4) ∷ (0x24, 4) ∷ (0x30, 4) ∷ []
registers_of_a_device = refl

registers_of_a_bridge : compared (blank 1 0) ≡ (0x04, 2) ∷ (0x10, 4) ∷ (0x14, 4) ∷ (0x1c, 2) ∷ (0x20, 4) ∷ (0x24, 4) ∷ (0x28, 4) ∷ (0x2c, 4) ∷ (0x30, 4) ∷ (0x38, 4) ∷ []
registers_of_a_bridge = refl

-- what isn't compared may differ
pub others_may_differ : (rest : List Target) → ShowsAll (open_at here alike ∷ rest) here image
others_may_differ rest r listed =
    (open_at here alike, refl, eqb-true _ _ (all_gives (λ q. number_at image q.0 q.1 == number_at alike q.0 q.1) (compared image) r refl listed))

the_last_may_not : ShowsAll (open_at here other_rom ∷ []) here image → ⊥
the_last_may_not shows =
    let e : 0xfd000001 ≡ 0xfd000000 = shown_by (open_at here other_rom ∷ []) here (open_at here other_rom) 0x30 4 0xfd000001 refl (shows (0x30, 4) (7, lit< tt, refl)) in
    let no : ⊥ = omega (arith, e) in no

nor_does_a_function_at_another_slot_count : ShowsAll (open_at there image ∷ []) here image → ⊥
nor_does_a_function_at_another_slot_count shows = let (t, at, e) = shows (0x04, 2) (0, lit< tt, refl) in let none : None ≡ Some t = at in let no : ⊥ = cc in no

-- ---- a register that was changed

pub rom_shows_other : ShowsOther (open_at here other_rom ∷ []) here image 0x30 4
rom_shows_other = record { shows = 0xfd000000; shown = (open_at here other_rom, refl, refl); differs = λ (e : 0xfd000000 ≡ 0xfd000001). let no : ⊥ = omega (arith, e) in no }

pub rom_is_changed : IsChangedAt (open_at here other_rom ∷ []) here image 0x30
rom_is_changed = record { width = 4; listed = (7, lit< tt, refl); other = rom_shows_other }

bar_shows_no_other : ShowsOther (open_at here other_rom ∷ []) here image 0x10 4 → ⊥
bar_shows_no_other other = other.differs (shown_by (open_at here other_rom ∷ []) here (open_at here other_rom) 0x10 4 other.shows refl other.shown)

-- Status isn't one that is compared
status_is_not_changed : IsChangedAt (open_at here alike ∷ []) here image 0x06 → ⊥
status_is_not_changed changed = both_ways false refl (all_gives (λ q. not (q.0 == 0x06)) (compared image) (0x06, changed.width) refl changed.listed)

-- ---- why there is no comparing

no_failure_and_it_is_there : IsRefusedAt (moment both 3) here 3 → ⊥
no_failure_and_it_is_there (inl rose) = let no : ⊥ = omega (arith, rose) in no
no_failure_and_it_is_there (inr gone) = both_ways true gone refl

a_failure_refuses : IsRefusedAt (moment both 3) here 4
a_failure_refuses = inl (lit< tt)

so_does_a_slot_without_a_function : IsRefusedAt (moment both 3) (slot 0 3 0) 3
so_does_a_slot_without_a_function = inr refl

no_write_was_made_yet : IsCompareFault (moment both 3) here image (0x30, 4) 4 (Port 1) → ⊥
no_write_was_made_yet (none, refused) = let no : ⊥ = omega (arith, none) in no

nor_of_a_function : IsFunctionFault (moment both 3) here image 4 (Port 1) → ⊥
nor_of_a_function (none, refused) = let no : ⊥ = omega (arith, none) in no

its_own_slot_is_named : IsFunctionFault (moment (open_at here other_rom ∷ []) 3) here image 3 (Changed there 0x30) → ⊥
its_own_slot_is_named (at, changed) = let e : 2 ≡ 1 = ap (λ (s : Slot). s.device) at in let no : ⊥ = omega (arith, e) in no

and_its_own_register : IsCompareFault (moment (open_at here other_rom ∷ []) 3) here image (0x30, 4) 3 (Changed here 0x10) → ⊥
and_its_own_register (at, is, other) = let e : 0x10 ≡ 0x30 = is in let no : ⊥ = omega (arith, e) in no

-- ---- all functions

abbrev block : Slot → Block
block s = record { slot = s; title = None; image = image }

abbrev blocks : List Block
blocks = block here ∷ block there ∷ []

pub each_of_two : (P : Block → Type 0) → P (block here) → P (block there) → (b : Block) → Contains blocks b → P b
each_of_two P first second b (zero, less, is) = subst P is first
each_of_two P first second b (suc zero, less, is) = subst P is second
each_of_two P first second b (suc (suc k), less, is) = absurd (let impossible : ⊥ = omega (arith, less) in impossible)

both_start_as_their_blocks : StartsAs both blocks
both_start_as_their_blocks = each_of_two (λ b. ShowsAll both b.slot b.image) (λ r listed. (open_at here image, refl, refl)) (λ r listed. (open_at there image, refl, refl))

the_second_has_to : StartsAs (open_at here image ∷ open_at there other_rom ∷ []) blocks → ⊥
the_second_has_to start =
    let shows = start (block there) (1, lit< tt, refl) (0x30, 4) (7, lit< tt, refl) in
    let e : 0xfd000001 ≡ 0xfd000000 = shown_by (open_at here image ∷ open_at there other_rom ∷ []) there (open_at there other_rom) 0x30 4 0xfd000001 refl shows in
    let no : ⊥ = omega (arith, e) in no

the_fault_is_of_a_block : IsStartFault (moment (open_at here other_rom ∷ []) 3) [] 4 (Changed here 0x30) → ⊥
the_fault_is_of_a_block (b, (k, less, is), fault) = let no : ⊥ = omega (arith, less) in no
