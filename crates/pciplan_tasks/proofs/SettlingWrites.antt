-- The writes of settling are of two or of four bytes.
use Rattle.std.proofs.Common.{◌≡◌, List, [], ◌∷◌, ◌++◌, Bool, true, false, Option, None, Some, refl, subst, map, IsTrue}
use Rattle.std.specs.Bool.{◌==◌, nat_lt, if◌then◌else◌}
use Rattle.std.specs.List.{All, list_all, flat_map}
use Rattle.pci_spec.specs.Number.{number_at}
use Rattle.pci_spec.specs.Machine.{Write}
use Rattle.pci_spec.specs.System.{System, Function, is_bridge}
use Rattle.plan_spec.specs.Planning.PlanWrites.{Change, register_write}
use Rattle.judge_spec.specs.ToldRegion.{ToldRegion}
use Rattle.settle_spec.specs.Lists.{Request, are_bad_lists}
use Rattle.settle_spec.specs.Parts.{FunctionPart}
use Rattle.settle_spec.specs.Stands.{stands}
use Rattle.settle_spec.specs.Items.{PlacingItem}
use Rattle.settle_spec.specs.Writes.{Settling, BadLists, Settled, or_fixed, or_lack, or_write, fixed_without, fixed_write, closing_registers, setting_registers}
use Rattle.settle_spec.specs.Kept.{Kept}
use Rattle.settle_spec.specs.Keeping.Places.{lacking}
use Rattle.settle_spec.specs.Keeping.Writes.{change_to_closed, setting_of, closing_from, setting_from, opening_from, closings, settle_writes, settle_keeping, or_told, earliest, is_not_reached, does_not_stay, would_be_switched}
use Rattle.pci_plan.specs.Writes.{is_two_or_four, write_value}
use Rattle.pci_plan.specs.declared.write.Write.{Write as CodeWrite}
use Rattle.pciplan_tasks.proofs.PlainWrites.{is_plain_value, plain_other, plain_both, plain_closing_by, plain_setting_by, plain_register, plain_of}

plain_closings : (q : Request) (s : System) (keep : Kept) (fs : System) → list_all is_plain_value (closings q s keep fs) ≡ true
plain_closings q s keep [] = refl
plain_closings q s keep (f ∷ more) =
    plain_both (closings q s keep more) (closing_from q s keep f) (plain_closings q s keep more)
    (plain_register (change_to_closed q s keep f) (closing_registers f) (plain_closing_by (is_bridge f)))

plain_over : (of : Function → List Write) → ((f : Function) → list_all is_plain_value (of f) ≡ true) → (fs : System) → list_all is_plain_value (flat_map of fs) ≡ true
plain_over of each [] = refl
plain_over of each (f ∷ more) = plain_both (of f) (flat_map of more) (each f) (plain_over of each more)

plain_settings : (c : Change) → list_all is_plain_value (flat_map (register_write c) (setting_registers c)) ≡ true
plain_settings c = plain_register c (setting_registers c) (plain_setting_by (is_bridge c.old) (nat_lt (number_at c.new.image 0x28 4) (number_at c.old.image 0x2c 4)))

plain_command : (c : Change) → list_all is_plain_value (register_write c (0x04, 2)) ≡ true
plain_command c = plain_other (number_at c.new.image 4 2 == number_at c.old.image 4 2) record { slot = c.old.slot; offset = 0x04; width = 2; value = number_at c.new.image 4 2 } refl

plain_settling : (q : Request) (s : System) (keep : Kept) → list_all is_plain_value (settle_writes q s keep) ≡ true
plain_settling q s keep =
    let settings = flat_map (setting_from q s keep) s in
    plain_both (closings q s keep s) (settings ++ flat_map (opening_from q s keep) s) (plain_closings q s keep s)
    (plain_both settings (flat_map (opening_from q s keep) s) (plain_over (setting_from q s keep) (λ f. plain_settings (setting_of q s keep f)) s)
    (plain_over (opening_from q s keep) (λ f. plain_command (setting_of q s keep f)) s))

-- ---- of what settling comes to

IsPlainEnd : Settling → Type 0
IsPlainEnd (Settled writes) = list_all is_plain_value writes ≡ true
IsPlainEnd refused = Unit {0}

-- each of these ends is one of no writes, or the other's
plain_told : (told : Option ToldRegion) (other : Settling) → IsPlainEnd other → IsPlainEnd (or_told told other)
unfolding IsPlainEnd
plain_told None other plain = plain
plain_told (Some x) other plain = tt

plain_fixed : (part : Option FunctionPart) (other : Settling) → IsPlainEnd other → IsPlainEnd (or_fixed part other)
unfolding IsPlainEnd
plain_fixed None other plain = plain
plain_fixed (Some r) other plain = tt

plain_lack : (lack : Option PlacingItem) (other : Settling) → IsPlainEnd other → IsPlainEnd (or_lack lack other)
unfolding IsPlainEnd
plain_lack None other plain = plain
plain_lack (Some i) other plain = tt

plain_write : (fixed : Option Write) (other : Settling) → IsPlainEnd other → IsPlainEnd (or_write fixed other)
unfolding IsPlainEnd
plain_write None other plain = plain
plain_write (Some w) other plain = tt

plain_settled : (writes : List Write) → list_all is_plain_value writes ≡ true → IsPlainEnd (Settled writes)
unfolding IsPlainEnd
plain_settled writes plain = plain

plain_listed : (bad : Bool) (other : Settling) → IsPlainEnd other → IsPlainEnd (if bad then BadLists else other)
unfolding IsPlainEnd
plain_listed true other plain = tt
plain_listed false other plain = plain

plain_beside : (q : Request) (s : System) (keep : Kept) → IsPlainEnd (settle_keeping q s keep)
plain_beside q s keep =
    let writes = settle_writes q s keep in
    plain_listed (are_bad_lists q.roots q.lists) _
    (plain_told (earliest q (is_not_reached q s)) _
    (plain_fixed (fixed_without (stands q s) q s) _
    (plain_told (earliest q (does_not_stay q s keep)) _
    (plain_fixed (fixed_without keep.stays q s) _
    (plain_lack (lacking q s keep) _
    (plain_write (fixed_write q writes) _
    (plain_told (earliest q (would_be_switched q s keep)) _ (plain_settled writes (plain_settling q s keep)))))))))

-- those of the code that are a settling's
pub plain_writes : (q : Request) (s : System) (keep : Kept) (writes : List CodeWrite) → settle_keeping q s keep ≡ Settled (map write_value writes)
    → All (λ w. IsTrue (is_two_or_four w)) writes
unfolding IsPlainEnd
plain_writes q s keep writes is = plain_of writes (subst (λ o. IsPlainEnd o) is (plain_beside q s keep))
