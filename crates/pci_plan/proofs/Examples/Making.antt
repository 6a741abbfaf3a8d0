-- What writes leave that stick, that don't, and that are refused.
use Rattle.std.proofs.Common.{◌≡◌, ℕ, zero, suc, inl, inr, List, [], ◌∷◌, refl, true, false, None, Some, arith, sym, ◌∙◌, ap, subst, lit<, take}
use Rattle.std.specs.List.{slice_get}
use Rattle.std.proofs.lemmas.Bool.{both_ways}
use Rattle.std.proofs.lemmas.Option.{same_Some}
use Rattle.pci_spec.specs.Number.{number_at}
use Rattle.pci_spec.specs.Machine.{Target, Write, number_of_bits, written, write_target, write_targets, after_writes}
use Rattle.pci_spec.specs.Port.{has_function, ShowsNumber}
use Rattle.plan_spec.proofs.Planning.Behind.{all_gives}
use Rattle.pci_spec.proofs.Examples.Samples.{write}
use Rattle.pci_plan.specs.Comparing.{moment}
use Rattle.pci_plan.specs.declared.apply_fault.ApplyFault.TheVariants.{Stuck}
use Rattle.pci_plan.specs.Making.{IsAccessible, IsWriteRefused, IsUnread, IsShownOtherwise, IsLastWrite, AreReadBack, IsNextRefused, IsLastUnread, AreWritesMade, IsPortStop, IsStuckStop}
use Rattle.pci_plan.proofs.Examples.Behind.{open_at, fixed_at, here, there, image, both}
use Rattle.pci_plan.proofs.Examples.Comparing.{shown_by}

abbrev pub first : Write
first = write here 0x10 4 0xe0000000

-- the same register again, and one of the other function
abbrev again : Write
again = write here 0x10 4 0xf0000000

abbrev pub second : Write
second = write there 0x30 4 0xfd000000

abbrev pub writes : List Write
writes = first ∷ second ∷ []

-- the second function takes no write, or neither does
abbrev pub mixed : List Target
mixed = open_at here image ∷ fixed_at there image ∷ []

abbrev pub fixed : List Target
fixed = fixed_at here image ∷ fixed_at there image ∷ []

abbrev bar_of : List Target → ℕ
bar_of [] = 0
bar_of (t ∷ targets) = number_at t.image 0x10 4

-- ---- accesses

command_is_accessible : IsAccessible record { slot = here; off = 4; width = 2; value = 0xffff }
command_is_accessible = refl

no_wider_value_is : IsAccessible record { slot = here; off = 4; width = 2; value = 0x10000 } → ⊥
no_wider_value_is lawful = both_ways false refl lawful

nor_an_odd_offset : IsAccessible record { slot = here; off = 5; width = 2; value = 0 } → ⊥
nor_an_odd_offset lawful = both_ways false refl lawful

-- ---- one write

refused_writes_are_not_counted : IsWriteRefused (moment both 0) first 1 (moment both 1) 2 → ⊥
refused_writes_are_not_counted (is, same, refused) = let no : ⊥ = omega (arith, is) in no

nor_made : IsWriteRefused (moment both 0) first 1 (moment (write_targets both first) 1) 1 → ⊥
unfolding number_of_bits written
nor_made (is, same, refused) = let e : 0xe0000000 ≡ 0xfe000000 = ap bar_of same in let no : ⊥ = omega (arith, e) in no

unread_writes_are_counted : IsUnread (moment both 0) first 1 (moment (write_targets both first) 1) 1 → ⊥
unread_writes_are_counted (is, made, rose) = let no : ⊥ = omega (arith, is) in no

and_made : IsUnread (moment both 0) first 1 (moment both 1) 2 → ⊥
unfolding number_of_bits written
and_made (is, made, rose) = let e : 0xfe000000 ≡ 0xe0000000 = ap bar_of made in let no : ⊥ = omega (arith, e) in no

unread_by_a_failure : IsUnread (moment both 0) first 1 (moment (write_targets both first) 0) 2 → ⊥
unread_by_a_failure (is, made, rose) = let no : ⊥ = omega (arith, rose) in no

pub first_is_shown : ShowsNumber (write_targets both first) here 0x10 4 0xe0000000
unfolding number_of_bits written
first_is_shown = (write_target first (open_at here image), refl, refl)

what_sticks_is_not_shown_otherwise : IsShownOtherwise (write_targets both first) first → ⊥
unfolding number_of_bits written
what_sticks_is_not_shown_otherwise other = other.differs (shown_by (write_targets both first) here (write_target first (open_at here image)) 0x10 4 other.shows refl other.shown)

pub stuck_is_shown_otherwise : IsShownOtherwise (after_writes mixed writes) second
unfolding number_of_bits written
stuck_is_shown_otherwise = record { shows = 0xfd000001; shown = (write_target second (fixed_at there image), refl, refl); differs = λ (e : 0xfd000001 ≡ 0xfd000000). let no : ⊥ = omega (arith, e) in no }

a_stuck_write_is_counted : IsLastWrite (moment mixed 0) second 1 (moment (write_targets mixed second) 0) (Stuck 1) → ⊥
a_stuck_write_is_counted (is, made, other) = let no : ⊥ = omega (arith, is) in no

-- ---- which writes are read back

pub first_of_mixed : AreReadBack mixed writes 1
unfolding number_of_bits written
first_of_mixed zero w less at = subst (λ (x : Write). ShowsNumber (after_writes mixed (take 1 writes)) x.slot x.offset x.width x.value) (same_Some first w at) (write_target first (open_at here image), refl, refl)
first_of_mixed (suc k) w less at = absurd (let impossible : ⊥ = omega (arith, less) in impossible)

pub second_of_mixed : AreReadBack mixed writes 2 → ⊥
unfolding number_of_bits written
second_of_mixed back =
    let e : 0xfd000000 ≡ 0xfd000001 = shown_by (after_writes mixed writes) there (write_target second (fixed_at there image)) 0x30 4 0xfd000000 refl (back 1 second (lit< tt) refl) in
    let no : ⊥ = omega (arith, e) in no

pub none_of_fixed : AreReadBack fixed writes 1 → ⊥
unfolding number_of_bits written
none_of_fixed back =
    let e : 0xe0000000 ≡ 0xfe000000 = shown_by (after_writes fixed (first ∷ [])) here (write_target first (fixed_at here image)) 0x10 4 0xe0000000 refl (back 0 first (lit< tt) refl) in
    let no : ⊥ = omega (arith, e) in no

-- before the next one, which may change the register again
before_the_next_one : AreReadBack both (first ∷ again ∷ []) 2
unfolding number_of_bits written
before_the_next_one zero w less at =
    subst (λ (x : Write). ShowsNumber (after_writes both (first ∷ [])) x.slot x.offset x.width x.value) (same_Some first w at) (write_target first (open_at here image), refl, refl)
before_the_next_one (suc zero) w less at =
    subst (λ (x : Write). ShowsNumber (after_writes both (first ∷ again ∷ [])) x.slot x.offset x.width x.value) (same_Some again w at) (write_target again (write_target first (open_at here image)), refl, refl)
before_the_next_one (suc (suc k)) w less at = absurd (let impossible : ⊥ = omega (arith, less) in impossible)

more_than_there_are_are_not_made : (after : List Target) → AreWritesMade both writes 3 after → ⊥
more_than_there_are_are_not_made after made = let within = made.within in let no : ⊥ = omega (arith, within) in no

-- ---- an access ends them

pub next_is_refused : IsNextRefused (moment mixed 0) writes 1 1
next_is_refused = record { next = second; listed = refl; read_back = first_of_mixed; refused = inl (lit< tt) }

-- after the last write none is next
pub none_is_next : (before : List Target) (failures_after : ℕ) → IsNextRefused (moment before 0) writes failures_after 2 → ⊥
none_is_next before failures_after stop = let none : None ≡ Some stop.next = stop.listed in let no : ⊥ = cc in no

no_failure_and_its_function_is_there : IsNextRefused (moment both 0) writes 0 1 → ⊥
no_failure_and_its_function_is_there stop = elim stop.refused [
  | inl rose ↦ let no : ⊥ = omega (arith, rose) in no
  | inr gone ↦ both_ways true (ap (λ (w : Write). has_function both w.slot) (same_Some second stop.next stop.listed) ∙ gone) refl
]

pub last_is_unread : IsLastUnread (moment mixed 0) writes 1 2
last_is_unread = record { last = 1; is_last = refl; read_back = first_of_mixed; failed = lit< tt }

no_failure_and_it_is_read : IsLastUnread (moment mixed 0) writes 0 2 → ⊥
no_failure_and_it_is_read stop = let rose = stop.failed in let no : ⊥ = omega (arith, rose) in no

one_before_it_is_unread : IsLastUnread (moment fixed 0) writes 1 2 → ⊥
one_before_it_is_unread stop = let e = stop.is_last in none_of_fixed (subst (AreReadBack fixed writes) (let one : stop.last ≡ 1 = omega (arith, e) in one) stop.read_back)

none_was_made_that_is_unread : IsLastUnread (moment mixed 0) writes 1 0 → ⊥
none_was_made_that_is_unread stop = let e = stop.is_last in let no : ⊥ = omega (arith, e) in no

port_counts_what_was_made : IsPortStop (moment both 0) writes (moment both 1) 1 → ⊥
unfolding number_of_bits written
port_counts_what_was_made stop = let e : 0xfe000000 ≡ 0xe0000000 = ap bar_of stop.made in let no : ⊥ = omega (arith, e) in no

no_more_than_there_are : (after : List Target) → IsPortStop (moment both 0) writes (moment after 1) 3 → ⊥
no_more_than_there_are after stop = let within = stop.within in let no : ⊥ = omega (arith, within) in no

something_ends_them : (after : List Target) → IsPortStop (moment both 0) writes (moment after 0) 1 → ⊥
something_ends_them after stop = elim stop.cause [
  | inl rose ↦ let no : ⊥ = omega (arith, rose) in no
  | inr (w, listed, gone) ↦ both_ways true (sym (all_gives (λ (w : Write). has_function both w.slot) writes w refl listed) ∙ gone) refl
]

-- ---- a write that doesn't stick

pub stuck_at_the_second : IsStuckStop mixed writes (after_writes mixed writes) 2
stuck_at_the_second = record { last = 1; is_last = refl; write = second; listed = refl; made = refl; read_back = first_of_mixed; otherwise = stuck_is_shown_otherwise }

not_at_the_first : IsStuckStop both writes (write_targets both first) 1 → ⊥
not_at_the_first stop =
    let e = stop.is_last in
    let zeroth : 0 ≡ stop.last = omega (arith, e) in
    let is : first ≡ stop.write = same_Some first stop.write (ap (slice_get writes) zeroth ∙ stop.listed) in
    what_sticks_is_not_shown_otherwise (subst (λ w. IsShownOtherwise (write_targets both first) w) (sym is) stop.otherwise)

not_beyond_the_last : (after : List Target) → IsStuckStop mixed writes after 3 → ⊥
not_beyond_the_last after stop =
    let e = stop.is_last in
    let third : 2 ≡ stop.last = omega (arith, e) in
    let none : None ≡ Some stop.write = ap (slice_get writes) third ∙ stop.listed in
    let no : ⊥ = cc in no

all_before_it_are_read_back : (after : List Target) → IsStuckStop fixed writes after 2 → ⊥
all_before_it_are_read_back after stop = let e = stop.is_last in none_of_fixed (subst (AreReadBack fixed writes) (let one : stop.last ≡ 1 = omega (arith, e) in one) stop.read_back)
