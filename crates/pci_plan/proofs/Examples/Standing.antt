-- What is said of soundness behind a port: of a sound system whatever it is, and of one that can't be sound.
use Rattle.std.proofs.Common.{◌≡◌, ℕ, ◌<◌, ◌≤◌, inl, inr, List, [], ◌∷◌, refl, Bool, true, false, map, arith, sym, ◌∙◌, ap, lit<}
use Rattle.std.proofs.lemmas.Bool.{both_ways}
use Rattle.pci_spec.specs.Number.{byte_at, number_at, has_bit}
use Rattle.pci_spec.specs.Header.{command}
use Rattle.pci_spec.specs.System.{System, Function}
use Rattle.pci_spec.specs.Fault.{OfProfile, PaletteSnoop}
use Rattle.pci_spec.specs.Sound.{IsSound}
use Rattle.pci_spec.specs.Machine.{Target, Write, number_of_bits, written, writable_bits, clearing_bits, target_of}
use Rattle.pci_spec.proofs.Members.{in_head}
use Rattle.pci_spec.proofs.KeptBits.{command_is_writable}
use Rattle.pci_spec.proofs.Examples.Samples.{put, zeros, write}
use Rattle.pci_plan.specs.Applying.{AreSoundTargets, HasImages, AreSoundAfter, AreSoundWhileReadBack}
use Rattle.pci_plan.proofs.Examples.Behind.{open_at, here, image}
use Rattle.pci_plan.proofs.Examples.Making.{fixed, none_of_fixed, writes}

abbrev host : List ℕ
host = 0 ∷ []

-- ---- a sound system, whatever it is

module _ (s : System) (sound : IsSound host s) where
  its_functions_are_sound : AreSoundTargets host (map target_of s)
  its_functions_are_sound = (s, sound, refl)

  so_they_are_before_any_write : (targets : List Target) → HasImages targets s → AreSoundAfter host s writes 0 targets
  so_they_are_before_any_write targets images = record { images = images; sound = sound }

-- ---- a function with Palette Snoop, which no sound system has

abbrev snooping : Function
snooping = record { slot = here; image = put 2 0x04 0x23 image; probe = zeros }

abbrev snoops : Target → Bool
snoops t = has_bit (command t.image) 5

abbrev first_snoops : List Target → Bool
first_snoops [] = false
first_snoops (t ∷ targets) = snoops t

it_is_not_sound : (s : System) → first_snoops (map target_of s) ≡ true → IsSound host s → ⊥
it_is_not_sound [] e sound = both_ways true (sym e) refl
it_is_not_sound (f ∷ s) e sound = sound.profile (OfProfile PaletteSnoop f.slot) refl (f, in_head f s, refl, e)

so_its_target_is_not : AreSoundTargets host (target_of snooping ∷ []) → ⊥
so_its_target_is_not (now, sound, e) = it_is_not_sound now (ap first_snoops (sym e)) sound

nor_is_it_before_any_write : AreSoundAfter host (snooping ∷ []) writes 0 (target_of snooping ∷ []) → ⊥
nor_is_it_before_any_write after = it_is_not_sound (snooping ∷ []) refl after.sound

-- ---- other bits can be written than those of any header: of Command bit 3

abbrev takes_special_cycles : List Target → Bool
takes_special_cycles [] = false
takes_special_cycles (t ∷ targets) = has_bit (byte_at t.writable 0x04) 3

none_takes_them : (s : System) → takes_special_cycles (map target_of s) ≡ true → ⊥
none_takes_them [] e = both_ways true (sym e) refl
none_takes_them (f ∷ s) e = both_ways true (sym e ∙ (command_is_writable f.image f.probe 3 (lit< tt)).0) refl

not_with_other_bits : AreSoundTargets host (open_at here image ∷ []) → ⊥
not_with_other_bits (now, sound, e) = none_takes_them now (ap takes_special_cycles (sym e))

-- ---- the images are those after so many writes

abbrev on : Function
on = record { slot = here; image = image; probe = zeros }

abbrev closing : Write
closing = write here 0x04 2 0

not_those_of_the_start : AreSoundAfter host (on ∷ []) (closing ∷ []) 1 (target_of on ∷ []) → ⊥
unfolding number_of_bits written writable_bits clearing_bits
not_those_of_the_start after = let e : 3 ≡ 0 = ap (λ i. number_at i 0x04 2) after.images.0.1 in omega (arith, e)

-- ---- as long as writes read back

-- the first write doesn't, and nothing is said of the start
nothing_where_none_reads_back : AreSoundWhileReadBack host (snooping ∷ []) writes 1 fixed
nothing_where_none_reads_back k back (inl sound) = absurd (it_is_not_sound (snooping ∷ []) refl sound)
nothing_where_none_reads_back k back (inr safe) = absurd (none_of_fixed (λ j w less at. back j w (let l : j < k = omega (arith, less, safe) in l) at))

-- where the start itself is said to be a safe stop, it is sound
safe_from_the_start : AreSoundWhileReadBack host (snooping ∷ []) writes 0 fixed → ⊥
safe_from_the_start all = it_is_not_sound (snooping ∷ []) refl (all 0 (λ k w less at. absurd (let no : ⊥ = omega (arith, less) in no)) (inr (let none : 0 ≤ 0 = omega arith in none))).sound
