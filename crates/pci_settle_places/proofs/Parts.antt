-- Items are parts of functions, each of the space in which it is placed; and a slot and a register name one part.
use Rattle.std.proofs.Common.{◌≡◌, ℕ, inl, inr, Bool, true, false, cond, ◌||◌, arith, refl, sym, ◌∙◌, ap, subst}
use Rattle.std.specs.List.{Contains}
use Rattle.std.proofs.lemmas.List.Elements.{Contains-append_cases}
use Rattle.pci_spec.specs.Slot.{slot_number}
use Rattle.pci_spec.specs.Bar.{bar_at, is_io, is_prefetchable}
use Rattle.pci_spec.specs.Window.{WindowKind, IoWindow, MemoryWindow, PrefetchWindow}
use Rattle.pci_spec.specs.System.{System, Function, Space, Io, Memory, Part, Bar, Rom, Window, IsSystem, has_part, register_of, space_of, window_space}
use Rattle.pci_spec.specs.Bus.{is_root}
use Rattle.pci_spec.proofs.Nesting.{one_function}
use Rattle.pci_spec.proofs.Regions.{register_of-lt, part_same}
use Rattle.settle_spec.specs.Lists.{Request}
use Rattle.settle_spec.specs.Parts.{new_class, is_in_memory, is_in_prefetch, prefetchable_class, class_in}
use Rattle.settle_spec.specs.Stands.{rank, window_part}
use Rattle.settle_spec.specs.Items.{PlacingItem, bus_items, new_window, own_item}
use Rattle.settle_spec.specs.Kept.{Kept}
use Rattle.settle_spec.specs.Keeping.Places.{space_items}
use Rattle.settle_spec.proofs.ItemsOn.{IsBeside, IsPlacedPart, IsOpened, each_on}
use Rattle.pci_first_fit.proofs.Headers.{header_has}

-- ---- classes and spaces

either : (b : Bool) (c d : WindowKind) → window_space c ≡ Memory → window_space d ≡ Memory → window_space (cond b c d) ≡ Memory
either true c d first second = first
either false c d first second = second

module _ (q : Request) (s : System) (f : Function) where
  new_memory : (n : ℕ) → window_space (new_class q s f n) ≡ Memory
  new_memory n = either _ PrefetchWindow MemoryWindow refl refl

  memory_class : (n : ℕ) → window_space (prefetchable_class q s f n) ≡ Memory
  memory_class n =
      either (q.anew || is_root q.roots f.slot.bus) (new_class q s f n) (cond (is_in_memory s f n) MemoryWindow (cond (is_in_prefetch s f n) PrefetchWindow (new_class q s f n))) (new_memory n)
      (either (is_in_memory s f n) MemoryWindow (cond (is_in_prefetch s f n) PrefetchWindow (new_class q s f n)) refl
      (either (is_in_prefetch s f n) PrefetchWindow (new_class q s f n) refl (new_memory n)))

  pub class_space : (p : Part) → window_space (class_in q s f p) ≡ space_of f p
  class_space (Bar n) =
      elim (is_io (bar_at f.probe n)) as (λ b. window_space (cond b IoWindow (cond (is_prefetchable (bar_at f.probe n)) (prefetchable_class q s f n) MemoryWindow)) ≡ cond b Io Memory) [
        | true ↦ refl
        | false ↦ either (is_prefetchable (bar_at f.probe n)) (prefetchable_class q s f n) MemoryWindow (memory_class n) refl
      ]
  class_space Rom = refl
  class_space (Window kind) = refl

-- what holds of each part that can be an item holds of the items of a bus in a space
pub each_in : (q : Request) (s : System) (keep : Kept) (space : Space) (bus : ℕ) (P : PlacingItem → Type 0)
    → ((c : WindowKind) → window_space c ≡ space → (f : Function) → IsBeside q s bus f → (p : Part) → IsPlacedPart q s c keep.stays f p → P (own_item c record { function = f; part = p }))
    → ((c : WindowKind) → window_space c ≡ space → (f : Function) → IsBeside q s bus f → IsOpened q s c keep.stays f → P record { region = window_part c f; class = c; extent = new_window q s c f })
    → (i : PlacingItem) → Contains (space_items q s keep space bus) i → P i
each_in q s keep Io bus P own new i listed = each_on q s IoWindow keep.stays (new_window q s IoWindow) bus P (own IoWindow refl) (new IoWindow refl) i listed
each_in q s keep Memory bus P own new i listed =
    elim (Contains-append_cases (bus_items q s MemoryWindow keep.stays (new_window q s MemoryWindow) bus) (bus_items q s PrefetchWindow keep.stays (new_window q s PrefetchWindow) bus) i listed) [
      | inl plain ↦ each_on q s MemoryWindow keep.stays (new_window q s MemoryWindow) bus P (own MemoryWindow refl) (new MemoryWindow refl) i plain
      | inr prefetch ↦ each_on q s PrefetchWindow keep.stays (new_window q s PrefetchWindow) bus P (own PrefetchWindow refl) (new PrefetchWindow refl) i prefetch
    ]

-- an item is a part of its function, of a space
pub record IsReal (space : Space) (i : PlacingItem) : Type 0 where
  pub there : has_part i.region.function i.region.part ≡ true
  pub of_space : space_of i.region.function i.region.part ≡ space

pub real_in : (q : Request) (s : System) (keep : Kept) (space : Space) (bus : ℕ) (i : PlacingItem) → Contains (space_items q s keep space bus) i → IsReal space i
real_in q s keep space bus = each_in q s keep space bus (IsReal space)
    (λ c of f on p is. record {
      there = header_has f p is.there is.plain;
      of_space = sym (class_space q s f p) ∙ ap window_space is.class ∙ of;
    })
    (λ c of f on is. record { there = is.bridge; of_space = of })

-- and its class is of that space
pub in_space : (q : Request) (s : System) (keep : Kept) (space : Space) (bus : ℕ) (i : PlacingItem) → Contains (space_items q s keep space bus) i → window_space i.class ≡ space
in_space q s keep space bus = each_in q s keep space bus (λ i. window_space i.class ≡ space) (λ c of f on p is. of) (λ c of f on is. of)

-- ---- a slot and a register name one part

pub record IsOne (f g : Function) (p o : Part) : Type 0 where
  pub function : f ≡ g
  pub part : p ≡ o

pub rank_one : (s : System) → IsSystem s → (f g : Function) (p o : Part) → Contains s f → Contains s g → has_part f p ≡ true → has_part g o ≡ true
    → rank (record { function = f; part = p }) ≡ rank (record { function = g; part = o }) → IsOne f g p o
rank_one s system f g p o in_f in_g there_p there_o same =
    let low = register_of-lt f p there_p in
    let high = register_of-lt g o there_o in
    let slot : slot_number f.slot ≡ slot_number g.slot = omega (arith, same, low, high) in
    let one : f ≡ g = one_function s system f g in_f in_g slot in
    let register : register_of f p ≡ register_of g o = omega (arith, same, slot) in
    record {
      function = one;
      part = part_same f p o there_p (subst (λ x. has_part x o ≡ true) (sym one) there_o) (register ∙ ap (λ (x : Function). register_of x o) (sym one));
    }
