-- Which bytes a part of a function shows, and which of its parts can change.
use Rattle.std.proofs.Common.{◌≡◌, ℕ, zero, suc, ◌+◌, ◌<◌, ◌≤◌, ◌⊎◌, inl, inr, List, [], ◌∷◌, refl, Bool, true, false, cond, ◌&&◌, ◌||◌, not, arith, ◌∙◌}
use Rattle.std.specs.Bool.{◌==◌, if◌then◌else◌}
use Rattle.std.specs.List.{Contains, fold}
use Rattle.std.proofs.lemmas.Bool.{and_parts, and_from, cases_lt, cond_both, both_ways, eq-eqb, or_cases}
use Rattle.pci_spec.specs.Number.{byte_at, IsImage}
use Rattle.pci_spec.specs.Header.{layout, bar_count, bar_register, rom_place, rom_register, registers_by}
use Rattle.pci_spec.specs.Bar.{bar_at, has_bar, is_wide}
use Rattle.pci_spec.specs.Rom.{has_rom, rom_is_on}
use Rattle.pci_spec.specs.Window.{WindowKind, IoWindow, MemoryWindow, PrefetchWindow, Bounds, has_window, is_closed}
use Rattle.pci_spec.specs.Decoded.{IsDecodable}
use Rattle.pci_spec.specs.System.{System, Function, Part, Bar, Rom, Window, is_bridge, is_implemented, is_window}
use Rattle.pci_spec.proofs.Members.{in_head, in_tail}
use Rattle.pci_spec.proofs.Ranges.{lawful_bar}
use Rattle.plan_spec.specs.Plan.{is_open}
use Rattle.settle_spec.specs.Lists.{Request}
use Rattle.settle_spec.specs.Parts.{is_left, is_part}
use Rattle.judge_spec.specs.Windows.{with_bounds}
use Rattle.settle_laws.proofs.Numbers.{with_elsewhere, with_image}

pub fold_keeps : {A B : Type 0} (P : A → Type 0) (step : A → B → A) (bs : List B) → ((b : B) → Contains bs b → (a : A) → P a → P (step a b)) → (a : A) → P a → P (fold step a bs)
fold_keeps P step [] each a h = h
fold_keeps P step (b ∷ bs) each a h = fold_keeps P step bs (λ c has. each c (in_tail b bs c has)) (step a b) (each b (in_head b bs) a h)

-- ---- off the registers of a part

abbrev pub IsOffWindows : ℕ → Type 0
IsOffWindows place = ((place < 0x1c) ⊎ (0x1e ≤ place)) × ((place < 0x20) ⊎ (0x34 ≤ place))

abbrev pub IsOff : Function → Part → ℕ → Type 0
IsOff f (Bar n) place = (place < bar_register n) ⊎ (bar_register n + (if is_wide (bar_at f.probe n) then 8 else 4) ≤ place)
IsOff f Rom place = (place < rom_register (layout f.image)) ⊎ (rom_register (layout f.image) + 4 ≤ place)
IsOff f (Window c) place = IsOffWindows place

off_of : (first last o w place : ℕ) → (place < first) ⊎ (last ≤ place) → first ≤ o → o + w ≤ last → (place < o) ⊎ (o + w ≤ place)
off_of first last o w place (inl low) from to = inl (omega (arith, low, from))
off_of first last o w place (inr high) from to = inr (omega (arith, high, to))

pub bounds_off : (c : WindowKind) (b : Bounds) (image : List ℕ) (place : ℕ) → IsOffWindows place → byte_at (with_bounds c b image) place ≡ byte_at image place
bounds_off IoWindow b image place (first, second) =
    with_elsewhere 2 0x32 b.limit_upper place _ (off_of 0x20 0x34 0x32 2 place second (omega arith) (omega arith))
    ∙ with_elsewhere 2 0x30 b.base_upper place _ (off_of 0x20 0x34 0x30 2 place second (omega arith) (omega arith))
    ∙ with_elsewhere 1 0x1d b.limit place _ (off_of 0x1c 0x1e 0x1d 1 place first (omega arith) (omega arith))
    ∙ with_elsewhere 1 0x1c b.base place _ (off_of 0x1c 0x1e 0x1c 1 place first (omega arith) (omega arith))
bounds_off MemoryWindow b image place (first, second) =
    with_elsewhere 2 0x22 b.limit place _ (off_of 0x20 0x34 0x22 2 place second (omega arith) (omega arith))
    ∙ with_elsewhere 2 0x20 b.base place _ (off_of 0x20 0x34 0x20 2 place second (omega arith) (omega arith))
bounds_off PrefetchWindow b image place (first, second) =
    with_elsewhere 4 0x2c b.limit_upper place _ (off_of 0x20 0x34 0x2c 4 place second (omega arith) (omega arith))
    ∙ with_elsewhere 4 0x28 b.base_upper place _ (off_of 0x20 0x34 0x28 4 place second (omega arith) (omega arith))
    ∙ with_elsewhere 2 0x26 b.limit place _ (off_of 0x20 0x34 0x26 2 place second (omega arith) (omega arith))
    ∙ with_elsewhere 2 0x24 b.base place _ (off_of 0x20 0x34 0x24 2 place second (omega arith) (omega arith))

pub bounds_image : (c : WindowKind) (b : Bounds) (image : List ℕ) → IsImage image → IsImage (with_bounds c b image)
bounds_image IoWindow b image is = with_image 2 0x32 b.limit_upper _ (with_image 2 0x30 b.base_upper _ (with_image 1 0x1d b.limit _ (with_image 1 0x1c b.base image is)))
bounds_image MemoryWindow b image is = with_image 2 0x22 b.limit _ (with_image 2 0x20 b.base image is)
bounds_image PrefetchWindow b image is = with_image 4 0x2c b.limit_upper _ (with_image 4 0x28 b.base_upper _ (with_image 2 0x26 b.limit _ (with_image 2 0x24 b.base image is)))

-- a byte in none of the registers of bases and limits from 20h on
pub past_all : (place : ℕ) → (place < 0x20) ⊎ (0x24 ≤ place) → (place < 0x24) ⊎ (0x28 ≤ place) → (place < 0x28) ⊎ (0x2c ≤ place) → (place < 0x2c) ⊎ (0x30 ≤ place) → (place < 0x30) ⊎ (0x34 ≤ place)
    → (place < 0x20) ⊎ (0x34 ≤ place)
past_all place (inl low) b c d e = inl low
past_all place (inr a) (inl b) c d e = absurd (let no : ⊥ = omega (arith, a, b) in no)
past_all place (inr a) (inr b) (inl c) d e = absurd (let no : ⊥ = omega (arith, b, c) in no)
past_all place (inr a) (inr b) (inr c) (inl d) e = absurd (let no : ⊥ = omega (arith, c, d) in no)
past_all place (inr a) (inr b) (inr c) (inr d) (inl e) = absurd (let no : ⊥ = omega (arith, d, e) in no)
past_all place (inr a) (inr b) (inr c) (inr d) (inr e) = inr e

pub bar_in : (bridge : Bool) (n : ℕ) → n < (if bridge then 2 else 6) → Contains (registers_by bridge) (bar_register n, 4)
bar_in true zero inside = (0, omega arith, refl)
bar_in true (suc zero) inside = (1, omega arith, refl)
bar_in true (suc (suc n)) inside = absurd (let no : ⊥ = omega (arith, inside) in no)
bar_in false zero inside = (0, omega arith, refl)
bar_in false (suc zero) inside = (1, omega arith, refl)
bar_in false (suc (suc zero)) inside = (2, omega arith, refl)
bar_in false (suc (suc (suc zero))) inside = (3, omega arith, refl)
bar_in false (suc (suc (suc (suc zero)))) inside = (4, omega arith, refl)
bar_in false (suc (suc (suc (suc (suc zero))))) inside = (5, omega arith, refl)
bar_in false (suc (suc (suc (suc (suc (suc n)))))) inside = absurd (let no : ⊥ = omega (arith, inside) in no)

pub rom_in : (bridge : Bool) → Contains (registers_by bridge) (rom_place bridge, 4)
rom_in true = (8, omega arith, refl)
rom_in false = (6, omega arith, refl)

pub either : (P : List ℕ → Type 0) (b : Bool) (x y : List ℕ) → P x → P y → P (cond b x y)
either P b x y p q = cond_both b x y P (λ e. p) (λ e. q)

module _ (q : Request) (s : System) (f : Function) where
  -- ---- what changes is a part of the function's header

  abbrev pub can_change : Part → Bool
  can_change p = is_part q s f p || (is_window p && is_implemented f p)

  pub window_bridge : (c : WindowKind) → can_change (Window c) ≡ true → is_bridge f ≡ true
  window_bridge c can = elim (or_cases (is_open f c) (is_implemented f (Window c)) can) [
    | inl opened ↦ (and_parts (is_bridge f) (has_window c f.probe) (and_parts (is_bridge f && has_window c f.probe) (not (is_closed c f.image)) opened).0).0
    | inr there ↦ (and_parts (is_bridge f) (has_window c f.probe) there).0
  ]

  pub can_bar : (n : ℕ) → can_change (Bar n) ≡ true → has_bar f.probe n ≡ true
  can_bar n can = elim (or_cases (is_part q s f (Bar n)) false can) [
    | inl part ↦ (and_parts (has_bar f.probe n) (not (is_left q s f (Bar n))) part).0
    | inr other ↦ absurd (both_ways false refl other)
  ]

  pub can_rom : can_change Rom ≡ true → has_rom f.image f.probe ≡ true
  can_rom can = elim (or_cases (is_part q s f Rom) false can) [
    | inl part ↦ (and_parts (has_rom f.image f.probe) (rom_is_on f.image) part).0
    | inr other ↦ absurd (both_ways false refl other)
  ]

  module _ (decodable : IsDecodable f) where
    -- a 64-bit BAR has a register left for its upper half
    pub upper_there : (n : ℕ) → n < bar_count (layout f.image) → has_bar f.probe n ≡ true → is_wide (bar_at f.probe n) ≡ true → suc n < bar_count (layout f.image)
    upper_there n inside there wide =
        let pair = (lawful_bar f.image f.probe n there (decodable.bars n inside)).pair in
        elim (cases_lt (suc n) (bar_count (layout f.image))) [
          | inl room ↦ room
          | inr none ↦
              let last : n + 1 ≡ bar_count (layout f.image) = omega (arith, inside, none) in
              absurd (both_ways (is_wide (bar_at f.probe n) && (n + 1 == bar_count (layout f.image))) pair
              (and_from (is_wide (bar_at f.probe n)) (n + 1 == bar_count (layout f.image)) wide (eq-eqb (n + 1) (bar_count (layout f.image)) last)))
        ]
