-- Moving changes no class.
use Rattle.std.proofs.Common.{◌≡◌, ℕ, suc, inl, inr, List, [], ◌∷◌, refl, Bool, true, false, cond, ◌&&◌, arith, sym, ◌∙◌, ap}
use Rattle.std.specs.Bool.{nat_le}
use Rattle.std.specs.List.{Contains, AllZip, list_all}
use Rattle.std.proofs.lemmas.Bool.{cases_Bool, both_ways}
use Rattle.pci_spec.specs.Number.{IsImage}
use Rattle.pci_spec.specs.Slot.{Slot}
use Rattle.pci_spec.specs.Bar.{bar_at, is_io, is_wide, is_prefetchable}
use Rattle.pci_spec.specs.Window.{IoWindow, MemoryWindow, PrefetchWindow, has_window, is_wide_window}
use Rattle.pci_spec.specs.System.{System, Function, IsSystem, Part, Bar, Rom, Window, is_bridge}
use Rattle.pci_spec.specs.Bus.{secondary, subordinate, is_behind}
use Rattle.plan_spec.specs.Plan.{IsMoved, Pools, bridges_above, is_served, class_of}
use Rattle.plan_spec.proofs.Planning.Moved.{bridge_same, secondary_same, subordinate_same}
use Rattle.plan_spec.proofs.Planning.Kept.{images_of}

pub above_same : (x y : Function) → IsMoved x y → IsImage x.image → (bus : ℕ) → (is_bridge y && is_behind y bus) ≡ (is_bridge x && is_behind x bus)
above_same x y m is bus =
    let e = bridge_same x y m is in
    ap (λ b. b && is_behind y bus) e
    ∙ elim (cases_Bool (is_bridge x)) [
      | inl bridge ↦
          ap (λ n. is_bridge x && (nat_le n bus && nat_le bus (subordinate y))) (secondary_same x y m is bridge)
          ∙ ap (λ n. is_bridge x && (nat_le (secondary x) bus && nat_le bus n)) (subordinate_same x y m is bridge)
      | inr other ↦ ap (λ b. b && is_behind y bus) other ∙ sym (ap (λ b. b && is_behind x bus) other)
    ]

pub pick : (test : List ℕ → Bool) (x y : Function) (xs ys : List Function) (a b : Bool) → b ≡ a → test y.probe ≡ test x.probe
    → list_all (λ (f : Function). test f.probe) ys ≡ list_all (λ (f : Function). test f.probe) xs
    → list_all (λ (f : Function). test f.probe) (cond b (y ∷ ys) ys) ≡ list_all (λ (f : Function). test f.probe) (cond a (x ∷ xs) xs)
pick test x y xs ys true true e same rest = ap (λ t. t && list_all (λ (f : Function). test f.probe) ys) same ∙ ap (λ t. test x.probe && t) rest
pick test x y xs ys false false e same rest = rest
pick test x y xs ys true false e same rest = absurd (both_ways false refl e)
pick test x y xs ys false true e same rest = absurd (both_ways true e refl)

all_above : (s t : System) → ((f : Function) → Contains s f → IsImage f.image) → AllZip IsMoved s t → (test : List ℕ → Bool) (bus : ℕ)
    → list_all (λ (f : Function). test f.probe) (bridges_above t bus) ≡ list_all (λ (f : Function). test f.probe) (bridges_above s bus)
all_above [] [] images pairs test bus = refl
all_above [] (y ∷ t) images pairs test bus = absurd pairs
all_above (x ∷ s) [] images pairs test bus = absurd pairs
all_above (x ∷ s) (y ∷ t) images (m, rest) test bus =
    pick test x y (bridges_above s bus) (bridges_above t bus) (is_bridge x && is_behind x bus) (is_bridge y && is_behind y bus)
    (above_same x y m (images x (0, omega arith, refl)) bus) (ap test m.probe)
    (all_above s t (λ g listed. images g (suc listed.0, (let l = listed.1 in omega (arith, l)), listed.2)) rest test bus)

served_same : (s t : System) → IsSystem s → AllZip IsMoved s t → (pools : Pools) (f g : Function) → IsMoved f g → (n : ℕ) → is_served t pools g n ≡ is_served s pools f n
served_same s t system pairs pools f g m n =
    let bus : g.slot.bus ≡ f.slot.bus = ap (λ (x : Slot). x.bus) m.slot in
    let narrow = all_above s t (images_of s system) pairs (has_window PrefetchWindow) f.slot.bus in
    let wide = all_above s t (images_of s system) pairs (is_wide_window PrefetchWindow) f.slot.bus in
    ap (λ k. cond (nat_le pools.prefetch.last 0xffff_ffff) (list_all (λ (b : Function). has_window PrefetchWindow b.probe) (bridges_above t k)) (is_wide (bar_at g.probe n) && list_all (λ (b : Function). is_wide_window PrefetchWindow b.probe) (bridges_above t k))) bus
    ∙ ap (λ p. cond (nat_le pools.prefetch.last 0xffff_ffff) (list_all (λ (b : Function). has_window PrefetchWindow b.probe) (bridges_above t f.slot.bus)) (is_wide (bar_at p n) && list_all (λ (b : Function). is_wide_window PrefetchWindow b.probe) (bridges_above t f.slot.bus))) m.probe
    ∙ ap (λ x. cond (nat_le pools.prefetch.last 0xffff_ffff) x (is_wide (bar_at f.probe n) && list_all (λ (b : Function). is_wide_window PrefetchWindow b.probe) (bridges_above t f.slot.bus))) narrow
    ∙ ap (λ x. cond (nat_le pools.prefetch.last 0xffff_ffff) (list_all (λ (b : Function). has_window PrefetchWindow b.probe) (bridges_above s f.slot.bus)) (is_wide (bar_at f.probe n) && x)) wide

pub class_stays : (s t : System) → IsSystem s → AllZip IsMoved s t → (pools : Pools) (f g : Function) → IsMoved f g → (part : Part) → class_of t pools g part ≡ class_of s pools f part
class_stays s t system pairs pools f g m (Bar n) =
    ap (λ p. cond (is_io (bar_at p n)) IoWindow (cond (is_prefetchable (bar_at p n) && is_served t pools g n) PrefetchWindow MemoryWindow)) m.probe
    ∙ ap (λ x. cond (is_io (bar_at f.probe n)) IoWindow (cond (is_prefetchable (bar_at f.probe n) && x) PrefetchWindow MemoryWindow)) (served_same s t system pairs pools f g m n)
class_stays s t system pairs pools f g m Rom = refl
class_stays s t system pairs pools f g m (Window kind) = refl
