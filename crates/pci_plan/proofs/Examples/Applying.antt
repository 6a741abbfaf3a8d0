-- What is said of applying: what the start shows, how many writes were made, and why not all were.
use Rattle.std.proofs.Common.{◌≡◌, zero, suc, inl, inr, List, [], ◌∷◌, refl, true, Some, arith, sym, ◌∙◌, ap, subst, lit<, None, ◌≤◌, length}
use Rattle.std.specs.List.{Contains, slice_get}
use Rattle.std.specs.declared.result.Result.TheVariants.{Ok}
use Rattle.std.proofs.lemmas.Bool.{both_ways}
use Rattle.pci_spec.specs.Number.{number_at}
use Rattle.pci_spec.specs.Slot.{Slot}
use Rattle.pci_spec.specs.System.{System, Function}
use Rattle.pci_spec.specs.Machine.{Target, after_writes}
use Rattle.pci_spec.specs.Port.{has_function}
use Rattle.pci_spec.proofs.Examples.Samples.{zeros, slot}
use Rattle.pci_plan.specs.declared.apply_fault.ApplyFault.TheVariants.{Changed, Port, Stuck}
use Rattle.pci_plan.specs.Comparing.{ShowsAll, moment}
use Rattle.pci_plan.specs.Making.{AreReadBack}
use Rattle.pci_plan.specs.Applying.{ShowsSystem, writes_before, AreReadBackUntil, ReadBackBy, HasImages, IsChangedFrom, LacksFunction, IsCutShort, IsReadOtherwise}
use Rattle.pci_plan.proofs.Examples.Behind.{open_at, fixed_at, here, there, image, other_rom, both}
use Rattle.pci_plan.proofs.Examples.Comparing.{shown_by, rom_is_changed}
use Rattle.pci_plan.proofs.Examples.Making.{writes, second, mixed, fixed, first_of_mixed, second_of_mixed, none_of_fixed, none_is_next, last_is_unread, stuck_is_shown_otherwise}

abbrev function : Slot → Function
function s = record { slot = s; image = image; probe = zeros }

abbrev start : System
start = function here ∷ function there ∷ []

each : (P : Function → Type 0) → P (function here) → P (function there) → (f : Function) → Contains start f → P f
each P a b f (zero, less, is) = subst P is a
each P a b f (suc zero, less, is) = subst P is b
each P a b f (suc (suc k), less, is) = absurd (let impossible : ⊥ = omega (arith, less) in impossible)

-- the second function isn't as the start has it
abbrev changed : List Target
changed = open_at here image ∷ open_at there other_rom ∷ []

-- ---- the start

both_show_the_start : ShowsSystem both start
both_show_the_start = each (λ f. ShowsAll both f.slot f.image) (λ r listed. (open_at here image, refl, refl)) (λ r listed. (open_at there image, refl, refl))

mixed_show_it : ShowsSystem mixed start
mixed_show_it = each (λ f. ShowsAll mixed f.slot f.image) (λ r listed. (open_at here image, refl, refl)) (λ r listed. (fixed_at there image, refl, refl))

changed_do_not : ShowsSystem changed start → ⊥
changed_do_not shows =
    let e : 0xfd000001 ≡ 0xfd000000 = shown_by changed there (open_at there other_rom) 0x30 4 0xfd000001 refl (shows (function there) (1, lit< tt, refl) (0x30, 4) (7, lit< tt, refl)) in
    let no : ⊥ = omega (arith, e) in no

-- whichever bits can be written
mixed_have_its_images : HasImages mixed start
mixed_have_its_images = ((refl, refl), ((refl, refl), tt))

changed_have_not : HasImages changed start → ⊥
changed_have_not (a, ((at, is), end)) = let e : 0xfd000000 ≡ 0xfd000001 = ap (λ i. number_at i 0x30 4) is in let no : ⊥ = omega (arith, e) in no

-- ---- how many writes were made

none_where_a_register_was_changed : writes_before (Changed here 0x10) ≡ 0
none_where_a_register_was_changed = refl

as_many_as_are_told : writes_before (Port 3) ∷ writes_before (Stuck 2) ∷ [] ≡ 3 ∷ 2 ∷ []
as_many_as_are_told = refl

-- ---- which are read back

nothing_to_read_back : AreReadBackUntil (moment fixed 0) writes 1 (Port 0)
nothing_to_read_back = inl refl

last_may_be_unread : AreReadBackUntil (moment mixed 0) writes 1 (Port 2)
last_may_be_unread = inr (inr last_is_unread)

no_other_may : AreReadBackUntil (moment fixed 0) writes 1 (Port 2) → ⊥
no_other_may (inl none) = let no : ⊥ = omega (arith, none) in no
no_other_may (inr (inl stop)) = none_is_next fixed 1 stop
no_other_may (inr (inr stop)) = let e = stop.is_last in none_of_fixed (subst (AreReadBack fixed writes) (let one : stop.last ≡ 1 = omega (arith, e) in one) stop.read_back)

all_but_the_stuck_one : AreReadBackUntil (moment mixed 0) writes 0 (Stuck 2)
all_but_the_stuck_one = first_of_mixed

so_the_first_too : AreReadBackUntil (moment fixed 0) writes 0 (Stuck 2) → ⊥
so_the_first_too back = none_of_fixed back

all_at_an_ok : ReadBackBy {T = Unit} (moment mixed 0) writes 0 (Ok tt) → ⊥
all_at_an_ok back = second_of_mixed back

-- ---- a register was changed, or a function isn't there

changed_of_the_start : IsChangedFrom (open_at here other_rom ∷ []) start here 0x30
changed_of_the_start = record { f = function here; listed = (0, lit< tt, refl); at = refl; changed = rom_is_changed }

of_no_other_function : (before : List Target) → IsChangedFrom before start (slot 0 3 0) 0x30 → ⊥
of_no_other_function before c =
    each (λ f. f.slot ≡ slot 0 3 0 → ⊥) (λ e. let n : 1 ≡ 3 = ap (λ (s : Slot). s.device) e in let no : ⊥ = omega (arith, n) in no) (λ e. let n : 2 ≡ 3 = ap (λ (s : Slot). s.device) e in let no : ⊥ = omega (arith, n) in no)
    c.f c.listed c.at

second_is_lacking : LacksFunction (open_at here image ∷ []) start
second_is_lacking = (function there, (1, lit< tt, refl), refl)

none_is_lacking : LacksFunction both start → ⊥
none_is_lacking (f, listed, gone) = both_ways true (sym (each (λ f. has_function both f.slot ≡ true) refl refl f listed) ∙ gone) refl

-- ---- an access ended it

cut_short_while_comparing : IsCutShort (moment changed 0) start writes 1 0
cut_short_while_comparing = record { within = (let none : 0 ≤ length writes = omega arith in none); started = λ less. absurd (let impossible : ⊥ = omega (arith, less) in impossible); cause = inl (lit< tt) }

-- the first write already is made on the start alone
not_after_a_write : IsCutShort (moment changed 0) start writes 1 1 → ⊥
not_after_a_write cut = changed_do_not (cut.started (lit< tt))

not_after_more_than_there_are : IsCutShort (moment both 0) start writes 1 3 → ⊥
not_after_more_than_there_are cut = let within = cut.within in let no : ⊥ = omega (arith, within) in no

not_without_a_cause : IsCutShort (moment both 0) start writes 0 0 → ⊥
not_without_a_cause cut = elim cut.cause [
  | inl rose ↦ let no : ⊥ = omega (arith, rose) in no
  | inr lacking ↦ none_is_lacking lacking
]

-- ---- a write reads back otherwise

second_reads_otherwise : IsReadOtherwise mixed start writes (after_writes mixed writes) 2
second_reads_otherwise = record { started = mixed_show_it; last = 1; is_last = refl; write = second; listed = refl; otherwise = stuck_is_shown_otherwise }

not_where_the_start_was_changed : (after : List Target) → IsReadOtherwise changed start writes after 2 → ⊥
not_where_the_start_was_changed after stop = changed_do_not stop.started

not_beyond_the_last : (after : List Target) → IsReadOtherwise mixed start writes after 3 → ⊥
not_beyond_the_last after stop =
    let e = stop.is_last in
    let third : 2 ≡ stop.last = omega (arith, e) in
    let none : None ≡ Some stop.write = ap (slice_get writes) third ∙ stop.listed in
    let no : ⊥ = cc in no
