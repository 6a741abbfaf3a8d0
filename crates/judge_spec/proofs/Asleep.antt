-- Functions that are taken as asleep: their list, and that they enable nothing.
use Rattle.std.proofs.Common.{◌≡◌, ℕ, zero, suc, ◌%◌, List, [], ◌∷◌, length, false, refl, sym, ◌∙◌, ap, subst, inl, inr, arith}
use Rattle.std.specs.Prelude.{◌⊎◌}
use Rattle.std.specs.Int.{bit_at}
use Rattle.std.specs.List.{Contains}
use Rattle.std.proofs.lemmas.Bool.{both_ways, ne_eqb}
use Rattle.pci_spec.specs.Header.{command}
use Rattle.pci_spec.specs.Slot.{Slot}
use Rattle.pci_spec.specs.System.{Function, Io, Memory, Space, System, is_space_on}
use Rattle.pci_spec.specs.Fault.{SomeAt}
use Rattle.pci_spec.proofs.Members.{in_head, in_tail}
use Rattle.judge_spec.specs.ModelWords.{Words}
use Rattle.judge_spec.specs.Bytes.{switched_off}
use Rattle.judge_spec.specs.Taken.{IsAsleepBy, IsWhere, bridge_aside, first_aside, fixed_parts_by, function_with_image}
use Rattle.judge_spec.specs.Asleep.{AreSlotsWhere}
use Rattle.judge_spec.specs.AsleepLaws.{AsleepAreDetermined, AsleepAreListed, AsleepEnableNothing, NoneIsAsleepWithoutPower}
use Rattle.judge_spec.proofs.Changes.{without_low_bits}
use Rattle.judge_spec.proofs.Commands.{HasZero, bridge_keeps, header_keeps, parts_keep}
use Rattle.judge_spec.proofs.NoEnables.{first_full, where_either}

-- ---- the list

one_list : (P : Function → Type 0) (s : System) (slots others : List Slot) → AreSlotsWhere P s slots → AreSlotsWhere P s others → slots ≡ others
one_list P [] slots others is other = is ∙ sym other
one_list P (f ∷ s) slots others (inl (here, (more, is, rest))) (inl (here_too, (more_too, is_too, rest_too))) =
    is ∙ ap (λ (m : List Slot). f.slot ∷ m) (one_list P s more more_too rest rest_too) ∙ sym is_too
one_list P (f ∷ s) slots others (inl (here, rest)) (inr (none, rest_too)) = absurd (none here)
one_list P (f ∷ s) slots others (inr (none, rest)) (inl (here, rest_too)) = absurd (none here)
one_list P (f ∷ s) slots others (inr (none, rest)) (inr (none_too, rest_too)) = one_list P s slots others rest rest_too

pub asleep_are_determined : AsleepAreDetermined
asleep_are_determined w s slots others is other = one_list (IsAsleepBy w) s slots others is other

in_none : (slot : Slot) → Contains [] slot → ⊥
in_none slot (k, less, is) = let no : ⊥ = omega (arith, less) in no

in_first : (first slot : Slot) (more : List Slot) → Contains (first ∷ more) slot → (first ≡ slot) ⊎ Contains more slot
in_first first slot more (zero, less, is) = inl is
in_first first slot more (suc k, less, is) = inr (k, omega (arith, less), is)

behind_first : (P : Function → Type 0) (f : Function) (s : System) (slot : Slot) → SomeAt s slot P → SomeAt (f ∷ s) slot P
behind_first P f s slot (g, has, at, holds) = (g, in_tail f s g has, at, holds)

listed_holds : (P : Function → Type 0) (s : System) (slots : List Slot) (slot : Slot) → AreSlotsWhere P s slots → Contains slots slot → SomeAt s slot P
listed_holds P [] slots slot is has = absurd (in_none slot (subst (λ (ss : List Slot). Contains ss slot) is has))
listed_holds P (f ∷ s) slots slot (inl (here, (more, is, rest))) has = elim (in_first f.slot slot more (subst (λ (ss : List Slot). Contains ss slot) is has)) [
  | inl first ↦ (f, in_head f s, first, here)
  | inr later ↦ behind_first P f s slot (listed_holds P s more slot rest later)
]
listed_holds P (f ∷ s) slots slot (inr (none, rest)) has = behind_first P f s slot (listed_holds P s slots slot rest has)

holds_listed : (P : Function → Type 0) (s : System) (slots : List Slot) (slot : Slot) → AreSlotsWhere P s slots → SomeAt s slot P → Contains slots slot
holds_listed P [] slots slot is (g, (k, less, at_k), at, holds) = absurd (let no : ⊥ = omega (arith, less) in no)
holds_listed P (f ∷ s) slots slot (inl (here, (more, is, rest))) (g, (zero, less, first), at, holds) =
    subst (λ (ss : List Slot). Contains ss slot) (sym is) (subst (λ (x : Slot). Contains (f.slot ∷ more) x) (ap (λ (x : Function). x.slot) first ∙ at) (in_head f.slot more))
holds_listed P (f ∷ s) slots slot (inl (here, (more, is, rest))) (g, (suc k, less, later), at, holds) =
    subst (λ (ss : List Slot). Contains ss slot) (sym is) (in_tail f.slot more slot (holds_listed P s more slot rest (g, (k, omega (arith, less), later), at, holds)))
holds_listed P (f ∷ s) slots slot (inr (none, rest)) (g, (zero, less, first), at, holds) = absurd (none (subst P (sym first) holds))
holds_listed P (f ∷ s) slots slot (inr (none, rest)) (g, (suc k, less, later), at, holds) = holds_listed P s slots slot rest (g, (k, omega (arith, less), later), at, holds)

pub asleep_are_listed : AsleepAreListed
asleep_are_listed w s slots slot is = (listed_holds (IsAsleepBy w) s slots slot is, holds_listed (IsAsleepBy w) s slots slot is)

pub none_is_asleep : NoneIsAsleepWithoutPower
none_is_asleep w [] slots off is = is
none_is_asleep w (f ∷ s) slots off (inl (here, rest)) = absurd (both_ways w.power off here.0)
none_is_asleep w (f ∷ s) slots off (inr (none, rest)) = none_is_asleep w s slots off rest

-- ---- Command

-- bits 0 and 1 are 0
abbrev low_bits : ℕ → ℕ
low_bits n = n % 4

abbrev IsOff : List ℕ → Type 0
IsOff image = HasZero low_bits image

switched_is_off : (image : List ℕ) → length image ≡ 256 → IsOff (switched_off image)
switched_is_off image full = let low = without_low_bits image full in omega (arith, low)

-- what is switched off stays so
power_is_off : (w : Words) (f g : Function) → length f.image ≡ 256 → IsAsleepBy w f
    → IsWhere (IsAsleepBy w f) (first_aside w f) (function_with_image (first_aside w f) (switched_off (first_aside w f).image)) g → IsOff g.image
power_is_off w f g full asleep (inl (holds, is)) = subst (λ (x : Function). IsOff x.image) (sym is) (switched_is_off (first_aside w f).image (first_full w f full))
power_is_off w f g full asleep (inr (fails, is)) = absurd (fails asleep)

off_enables : (f : Function) → IsOff f.image → (space : Space) → is_space_on f space ≡ false
off_enables f off Io = ne_eqb (bit_at (command f.image) 0) 1 (λ one. omega (arith, one, off))
off_enables f off Memory = ne_eqb (bit_at (command f.image) 1) 1 (λ one. omega (arith, one, off))

pub asleep_enable_nothing : AsleepEnableNothing
asleep_enable_nothing w slots f h is asleep taken =
    let g_is = power_is_off w f taken.g is.full asleep taken.power in
    let b = bridge_aside w slots taken.g in
    let b_is = bridge_keeps low_bits refl w slots taken.g g_is in
    let k_is = where_either (λ x. IsOff x.image) _ b _ taken.k taken.parts (parts_keep low_bits refl w (fixed_parts_by w f) b b_is) b_is in
    off_enables h (subst (λ (x : Function). IsOff x.image) (sym taken.header) (header_keeps low_bits refl w taken.k k_is))
