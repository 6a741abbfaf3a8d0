-- The places of all classes, one class after another.
use Rattle.std.proofs.Common.{◌≡◌, ℕ, List, true, false, ◌&&◌, ◌++◌, length, take, drop, arith, refl, sym, ◌∙◌, subst}
use Rattle.std.proofs.lemmas.Bool.{and_parts, and_left, and_right}
use Rattle.std.proofs.lemmas.List.{take_all, take-append-le}
use Rattle.pci_spec.specs.Window.{WindowKind, IoWindow, MemoryWindow, PrefetchWindow}
use Rattle.pci_spec.specs.System.{System, Function, Part, Bar, Rom, Window, is_bridge}
use Rattle.std.specs.Bool.{nat_lt}
use Rattle.plan_spec.specs.Plan.{Pools, class_of, same_class}
use Rattle.plan_spec.specs.Planning.Layout.{is_item}
use Rattle.plan_spec.specs.Planning.Table.{is_placed, need_behind}
use Rattle.plan_spec.proofs.Planning.PlacedItems.{same_class_is}
use Rattle.pci_place.specs.Places.{HasPlaces, KeepsOthers}
use Rattle.pci_place.specs.declared.place.Places.{Places}

other_class : (c d x : WindowKind) → same_class d c ≡ false → same_class c x ≡ true → same_class d x ≡ false
other_class c d x other same = subst (λ y. same_class d y ≡ false) (sym (same_class_is c x same)) other

-- what is placed in one class isn't in another
other_placed : (s : System) (pools : Pools) (c d : WindowKind) (f : Function) (part : Part) → same_class d c ≡ false → is_placed s pools c f part ≡ true → is_placed s pools d f part ≡ false
other_placed s pools c d f (Bar n) other there =
    and_right (is_item f (Bar n)) (same_class d (class_of s pools f (Bar n))) (other_class c d (class_of s pools f (Bar n)) other (and_parts (is_item f (Bar n)) (same_class c (class_of s pools f (Bar n))) there).1)
other_placed s pools c d f Rom other there =
    and_right (is_item f Rom) (same_class d (class_of s pools f Rom)) (other_class c d (class_of s pools f Rom) other (and_parts (is_item f Rom) (same_class c (class_of s pools f Rom)) there).1)
other_placed s pools c d f (Window kind) other there =
    let outer = and_parts (is_bridge f && same_class c kind) (nat_lt 0 (need_behind s pools c f)) there in
    let inner = and_parts (is_bridge f) (same_class c kind) outer.0 in
    and_left (is_bridge f && same_class d kind) (nat_lt 0 (need_behind s pools d f))
    (and_right (is_bridge f) (same_class d kind) (other_class c d kind other inner.1))

-- placing another class leaves the places of a class
places_kept : (roots : List ℕ) (s : System) (pools : Pools) (c d : WindowKind) (old new : List Places) → same_class d c ≡ false → HasPlaces roots s pools c old → KeepsOthers s pools d old new → HasPlaces roots s pools c new
places_kept roots s pools c d old new other has keeps = λ k f e part at there. keeps.others k f e part at (other_placed s pools c d f part other there) ∙ has k f e part at there

pub all_placed : (roots : List ℕ) (s : System) (pools : Pools) (io memory all : List Places) → HasPlaces roots s pools IoWindow io → KeepsOthers s pools MemoryWindow io memory → HasPlaces roots s pools MemoryWindow memory
    → KeepsOthers s pools PrefetchWindow memory all → HasPlaces roots s pools PrefetchWindow all → (c : WindowKind) → HasPlaces roots s pools c all
all_placed roots s pools io memory all has_io kept_io has_memory kept has IoWindow =
    places_kept roots s pools IoWindow PrefetchWindow memory all refl (places_kept roots s pools IoWindow MemoryWindow io memory refl has_io kept_io) kept
all_placed roots s pools io memory all has_io kept_io has_memory kept has MemoryWindow = places_kept roots s pools MemoryWindow PrefetchWindow memory all refl has_memory kept
all_placed roots s pools io memory all has_io kept_io has_memory kept has PrefetchWindow = has

-- a slice of all of a list, written back
pub written_back : (n : ℕ) (new old : List Places) → length new ≡ n → take n (new ++ drop (length new) old) ≡ new
written_back n new old same = take-append-le n new (drop (length new) old) (omega (arith, same)) ∙ take_all n new (omega (arith, same))
