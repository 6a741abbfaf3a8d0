-- Where nothing stays, classes are those of planning.
use Rattle.std.proofs.Common.{◌≡◌, ◌&&◌, ◌||◌, ℕ, Bool, true, false, cond, not, ap, ◌∙◌, refl}
use Rattle.std.specs.Bool.{IsTrue, IsFalse}
use Rattle.pci_spec.specs.Bar.{bar_at, is_io, is_prefetchable}
use Rattle.pci_spec.specs.Window.{WindowKind, IoWindow, MemoryWindow, PrefetchWindow}
use Rattle.pci_spec.specs.System.{System, Function, Part, Bar, Rom, Window}
use Rattle.pci_spec.specs.Bus.{is_root}
use Rattle.plan_spec.specs.Plan.{class_of, is_served}
use Rattle.settle_spec.specs.Lists.{Request}
use Rattle.settle_spec.specs.Parts.{is_empty, upper_pools, new_class, is_in_memory, is_in_prefetch, prefetchable_class, class_in}

both : (b d : Bool) (x y : WindowKind) → cond b (cond d x y) y ≡ cond (b && d) x y
both true d x y = refl
both false d x y = refl

module _ (q : Request) (s : System) (f : Function) (anew : IsTrue q.anew) (some : IsFalse (is_empty q.lists.prefetch)) where
  abbrev served : ℕ → Bool
  served n = is_served s (upper_pools q.lists.prefetch) f n

  prefetchable : (n : ℕ) → prefetchable_class q s f n ≡ cond (served n) PrefetchWindow MemoryWindow
  prefetchable n =
      ap (λ a. cond (a || is_root q.roots f.slot.bus) (new_class q s f n)
      (cond (is_in_memory s f n) MemoryWindow (cond (is_in_prefetch s f n) PrefetchWindow (new_class q s f n)))) anew
      ∙ ap (λ e. cond (not e && served n) PrefetchWindow MemoryWindow) some

  pub class_planned : (p : Part) → class_in q s f p ≡ class_of s (upper_pools q.lists.prefetch) f p
  class_planned (Bar n) =
      ap (λ k. cond (is_io (bar_at f.probe n)) IoWindow (cond (is_prefetchable (bar_at f.probe n)) k MemoryWindow)) (prefetchable n)
      ∙ ap (λ k. cond (is_io (bar_at f.probe n)) IoWindow k) (both (is_prefetchable (bar_at f.probe n)) (served n) PrefetchWindow MemoryWindow)
  class_planned Rom = refl
  class_planned (Window kind) = refl
