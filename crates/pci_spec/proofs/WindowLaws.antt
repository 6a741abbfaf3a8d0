-- A window holds the addresses of whole pages.
use Rattle.std.proofs.Common.{◌≡◌, ◌↔◌, ℕ, ◌+◌, ◌-◌, ◌*◌, ◌/◌, ◌<◌, ◌≤◌, List, true, false, ◌&&◌, arith, sym, ap, lit<}
use Rattle.std.specs.Prelude.{IsTrue}
use Rattle.std.specs.Bool.{nat_le}
use Rattle.std.proofs.lemmas.Bool.{and_parts, and_from, leb-true, leb-false, le-leb, both_ways, false_from_ne_true, not-true, not-false}
use Rattle.std.proofs.lemmas.Nat.{div-add-mod', mod_below, div_below, le-div}
use Rattle.std.proofs.Math.Nat.{mul-le-mul_right, div-mul-le_self}
use Rattle.pci_spec.specs.Window.{WindowKind, IoWindow, MemoryWindow, PrefetchWindow, has_window, base_page, limit_page, page_size, is_closed, holds}
use Rattle.pci_spec.specs.WindowLaws.{WindowHoldsItsPages, WindowHoldsWholePages, OpenWindowHoldsItsEnds, ClosedWindowHoldsNothing, AbsentWindowHoldsNothing, IoWindowEnds, MemoryWindowEnds, PrefetchWindowEnds}

page_size-pos : (kind : WindowKind) → 0 < page_size kind
page_size-pos IoWindow = lit< tt
page_size-pos MemoryWindow = lit< tt
page_size-pos PrefetchWindow = lit< tt

-- what holds says
pub record IsHeld (kind : WindowKind) (image probe : List ℕ) (a : ℕ) : Type 0 where
  pub there : has_window kind probe ≡ true
  pub from_base : base_page kind image ≤ a / page_size kind
  pub to_limit : a / page_size kind ≤ limit_page kind image

pub held : (kind : WindowKind) (image probe : List ℕ) (a : ℕ) → holds kind image probe a ≡ true → IsHeld kind image probe a
held kind image probe a h =
    let page = a / page_size kind in
    let outer = and_parts (has_window kind probe && nat_le (base_page kind image) page) (nat_le page (limit_page kind image)) h in
    let inner = and_parts (has_window kind probe) (nat_le (base_page kind image) page) outer.0 in
    record { there = inner.0; from_base = leb-true (base_page kind image) page inner.1; to_limit = leb-true page (limit_page kind image) outer.1 }

pub holds_by : (kind : WindowKind) (image probe : List ℕ) (a : ℕ) → IsHeld kind image probe a → holds kind image probe a ≡ true
holds_by kind image probe a h =
    let page = a / page_size kind in
    and_from (has_window kind probe && nat_le (base_page kind image) page) (nat_le page (limit_page kind image))
    (and_from (has_window kind probe) (nat_le (base_page kind image) page) h.there (le-leb (base_page kind image) page h.from_base))
    (le-leb page (limit_page kind image) h.to_limit)

-- ---- pages and addresses

first_of_page : (step page a : ℕ) → page ≤ a / step → page * step ≤ a
first_of_page step page a h = let m = mul-le-mul_right step h in let d = div-mul-le_self a step in omega (arith, m, d)

last_of_page : (step page a : ℕ) → 0 < step → a / step ≤ page → a ≤ page * step + (step - 1)
last_of_page step page a some h =
    let m = mul-le-mul_right step h in
    let d = div-add-mod' a step in
    let r = mod_below a step some in
    omega (arith, m, d, r)

page_of_last : (step page a : ℕ) → 0 < step → a ≤ page * step + (step - 1) → a / step ≤ page
page_of_last step page a some h =
    let next : (page + 1) * step ≡ page * step + step = omega arith in
    let below : a / step < page + 1 = div_below a step (page + 1) some (omega (arith, next, h, some)) in
    omega (arith, below)

pub window_holds_its_pages : WindowHoldsItsPages
window_holds_its_pages kind image probe a there =
    let some = page_size-pos kind in (
      (λ h. let k = held kind image probe a h in
          (first_of_page (page_size kind) (base_page kind image) a k.from_base, last_of_page (page_size kind) (limit_page kind image) a some k.to_limit)),
      (λ h. holds_by kind image probe a record {
        there = there;
        from_base = le-div (base_page kind image) a (page_size kind) some h.0;
        to_limit = page_of_last (page_size kind) (limit_page kind image) a some h.1;
      }),
    )

pub window_holds_whole_pages : WindowHoldsWholePages
window_holds_whole_pages kind image probe a b same = ap (λ page. has_window kind probe && nat_le (base_page kind image) page && nat_le page (limit_page kind image)) same

is_open : (kind : WindowKind) (image : List ℕ) → is_closed kind image ≡ false → base_page kind image ≤ limit_page kind image
is_open kind image h = leb-true (base_page kind image) (limit_page kind image) (not-false (nat_le (base_page kind image) (limit_page kind image)) h)

pub open_window_holds_its_ends : OpenWindowHoldsItsEnds
open_window_holds_its_ends kind image probe there shut =
    let some = page_size-pos kind in
    let order = mul-le-mul_right (page_size kind) (is_open kind image shut) in (
      (window_holds_its_pages kind image probe (base_page kind image * page_size kind) there).1 (omega arith, omega (arith, order)),
      (window_holds_its_pages kind image probe (limit_page kind image * page_size kind + (page_size kind - 1)) there).1 (omega (arith, order), omega arith),
    )

pub closed_window_holds_nothing : ClosedWindowHoldsNothing
closed_window_holds_nothing kind image probe a shut = false_from_ne_true (holds kind image probe a) (λ h.
    let k = held kind image probe a h in
    let above = leb-false (base_page kind image) (limit_page kind image) (not-true (nat_le (base_page kind image) (limit_page kind image)) shut) in
    omega (arith, above, k.from_base, k.to_limit))

pub absent_window_holds_nothing : AbsentWindowHoldsNothing
absent_window_holds_nothing kind image probe a none = false_from_ne_true (holds kind image probe a) (λ h. both_ways (has_window kind probe) none (held kind image probe a h).there)

-- ---- by the registers

same_interval : (low high first last a : ℕ) → low ≡ first → high ≡ last → ((low ≤ a) × (a ≤ high)) → (first ≤ a) × (a ≤ last)
same_interval low high first last a e f h = (omega (arith, e, h), omega (arith, f, h))

ends_of : (kind : WindowKind) (image probe : List ℕ) (first last a : ℕ) → base_page kind image * page_size kind ≡ first
    → limit_page kind image * page_size kind + (page_size kind - 1) ≡ last → has_window kind probe ≡ true
    → IsTrue (holds kind image probe a) ↔ ((first ≤ a) × (a ≤ last))
ends_of kind image probe first last a e f there =
    let pages = window_holds_its_pages kind image probe a there in (
      (λ h. same_interval _ _ first last a e f (pages.0 h)),
      (λ h. pages.1 (same_interval first last _ _ a (sym e) (sym f) h)),
    )

pub io_window_ends : IoWindowEnds
io_window_ends image probe a there = ends_of IoWindow image probe _ _ a (omega arith) (omega arith) there

pub memory_window_ends : MemoryWindowEnds
memory_window_ends image probe a there = ends_of MemoryWindow image probe _ _ a (omega arith) (omega arith) there

pub prefetch_window_ends : PrefetchWindowEnds
prefetch_window_ends image probe a there = ends_of PrefetchWindow image probe _ _ a (omega arith) (omega arith) there
