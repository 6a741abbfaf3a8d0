-- A window that is taken as the one that it shows has no 26.
use Rattle.std.specs.Prelude.{◌⊎◌}
use Rattle.std.proofs.Common.{◌≡◌, ℕ, zero, suc, ◌+◌, ◌*◌, ◌/◌, ◌%◌, ◌^◌, ◌<◌, ◌≤◌, List, length, set, Bool, true, false, ◌&&◌, not, Option, Some, None, is_some, inl, inr, refl, ◌∙◌, ap, sym, subst, arith, lit<}
use Rattle.std.proofs.lemmas.Bool.{and_parts, both_ways, cases_Bool, cases_lt, cond_both, eqb-true, or_left, or_right}
use Rattle.std.proofs.lemmas.List.{get_or-set_same, length-set}
use Rattle.pci_spec.specs.Number.{byte_at, number_at}
use Rattle.pci_spec.specs.Registers.{IO_BASE, IO_LIMIT, IO_BASE_UPPER, IO_LIMIT_UPPER, MEMORY_BASE, MEMORY_LIMIT, PREFETCHABLE_BASE, PREFETCHABLE_LIMIT, PREFETCHABLE_BASE_UPPER, PREFETCHABLE_LIMIT_UPPER}
use Rattle.pci_spec.specs.Window.{WindowKind, IoWindow, MemoryWindow, PrefetchWindow, Bounds, bounds_at, breaks_window_rule, closed_bounds, is_lawful_window, is_optional, is_window_value, is_zero, shows_window}
use Rattle.pci_spec.specs.Derived.{bounds_of_nibble}
use Rattle.pci_spec.specs.System.{Function}
use Rattle.judge_spec.specs.Windows.{with_number, with_bounds, shown_nibble, image_with_window, with_nibble}
use Rattle.judge_spec.specs.WordsLaws.{ShownWindowsAreLawful, ShownWindowsKeepPages}
use Rattle.judge_spec.proofs.WindowBytes.{number_length, number_other}

-- ---- what is put is read

-- byte j of a number, the low byte first
abbrev digit : ℕ → ℕ → ℕ
digit zero v = v % 256
digit (suc j) v = digit j (v / 256)

byte_in : (width offset v : ℕ) (image : List ℕ) (j : ℕ) → j < width → offset + width ≤ length image → byte_at (with_number width offset v image) (offset + j) ≡ digit j v
byte_in zero offset v image j less room = absurd (omega (arith, less))
byte_in (suc width) offset v image zero less room =
    let first = set image offset (v % 256) in
    number_other width (offset + 1) (v / 256) first (offset + 0) (inl (omega arith))
    ∙ ap (λ k. byte_at first k) (let e : offset + 0 ≡ offset = omega arith in e) ∙ get_or-set_same image offset (v % 256) 0 (omega (arith, room))
byte_in (suc width) offset v image (suc j) less room =
    let first = set image offset (v % 256) in
    let long = length-set image offset (v % 256) in
    ap (λ k. byte_at (with_number width (offset + 1) (v / 256) first) k) (let e : offset + suc j ≡ offset + 1 + j = omega arith in e)
    ∙ byte_in width (offset + 1) (v / 256) first j (omega (arith, less)) (omega (arith, room, long))

one_byte : (offset v : ℕ) (image : List ℕ) → offset + 1 ≤ length image → v < 256 → byte_at (with_number 1 offset v image) offset ≡ v
one_byte offset v image room small = get_or-set_same image offset (v % 256) 0 (omega (arith, room)) ∙ omega (arith, small)

two_bytes : (offset v : ℕ) (image : List ℕ) → offset + 2 ≤ length image → v < 65536 → number_at (with_number 2 offset v image) offset 2 ≡ v
two_bytes offset v image room small =
    let low = byte_in 2 offset v image 0 (lit< tt) room in
    let high = byte_in 2 offset v image 1 (lit< tt) room in
    omega (arith, low, high, small)

four_bytes : (offset v : ℕ) (image : List ℕ) → offset + 4 ≤ length image → v < 4294967296 → number_at (with_number 4 offset v image) offset 4 ≡ v
four_bytes offset v image room small =
    let b0 = byte_in 4 offset v image 0 (lit< tt) room in
    let b1 = byte_in 4 offset v image 1 (lit< tt) room in
    let b2 = byte_in 4 offset v image 2 (lit< tt) room in
    let b3 = byte_in 4 offset v image 3 (lit< tt) room in
    omega (arith, b0, b1, b2, b3, small)

-- a number elsewhere stays
number_beside : (w o v : ℕ) (image : List ℕ) (width offset : ℕ) → (offset + width ≤ o) ⊎ (o + w ≤ offset) → number_at (with_number w o v image) offset width ≡ number_at image offset width
number_beside w o v image zero offset apart = refl
number_beside w o v image (suc width) offset apart =
    let low = number_beside w o v image width offset (elim apart [ inl before ↦ inl (omega (arith, before)) | inr behind ↦ inr behind ]) in
    let last = number_other w o v image (offset + width) (elim apart [ inl before ↦ inl (omega (arith, before)) | inr behind ↦ inr (omega (arith, behind)) ]) in
    λ i. low i + last i * 256 ^ width

-- ---- the registers of a window

record Fits (page upper : ℕ) (b : Bounds) : Type 0 where
  base : b.base < page
  limit : b.limit < page
  base_upper : b.base_upper < upper
  limit_upper : b.limit_upper < upper

io_read : (b : Bounds) (image : List ℕ) → length image ≡ 256 → Fits 256 65536 b → bounds_at IoWindow (with_bounds IoWindow b image) ≡ b
io_read b image full fits =
    let one = with_number 1 IO_BASE b.base image in
    let two = with_number 1 IO_LIMIT b.limit one in
    let three = with_number 2 IO_BASE_UPPER b.base_upper two in
    let long_one = number_length 1 IO_BASE b.base image in
    let long_two = number_length 1 IO_LIMIT b.limit one in
    let long_three = number_length 2 IO_BASE_UPPER b.base_upper two in
    let base : byte_at (with_bounds IoWindow b image) IO_BASE ≡ b.base =
    number_other 2 IO_LIMIT_UPPER b.limit_upper three IO_BASE (inl (lit< tt)) ∙ number_other 2 IO_BASE_UPPER b.base_upper two IO_BASE (inl (lit< tt))
    ∙ number_other 1 IO_LIMIT b.limit one IO_BASE (inl (lit< tt)) ∙ one_byte IO_BASE b.base image (omega (arith, full)) fits.base in
    let limit : byte_at (with_bounds IoWindow b image) IO_LIMIT ≡ b.limit =
    number_other 2 IO_LIMIT_UPPER b.limit_upper three IO_LIMIT (inl (lit< tt)) ∙ number_other 2 IO_BASE_UPPER b.base_upper two IO_LIMIT (inl (lit< tt))
    ∙ one_byte IO_LIMIT b.limit one (omega (arith, full, long_one)) fits.limit in
    let base_upper : number_at (with_bounds IoWindow b image) IO_BASE_UPPER 2 ≡ b.base_upper =
    number_beside 2 IO_LIMIT_UPPER b.limit_upper three 2 IO_BASE_UPPER (inl (omega arith)) ∙ two_bytes IO_BASE_UPPER b.base_upper two (omega (arith, full, long_one, long_two)) fits.base_upper in
    let limit_upper = two_bytes IO_LIMIT_UPPER b.limit_upper three (omega (arith, full, long_one, long_two, long_three)) fits.limit_upper in
    λ i. record { base = base i; limit = limit i; base_upper = base_upper i; limit_upper = limit_upper i }

memory_read : (b : Bounds) (image : List ℕ) → length image ≡ 256 → Fits 65536 1 b → bounds_at MemoryWindow (with_bounds MemoryWindow b image) ≡ b
memory_read b image full fits =
    let one = with_number 2 MEMORY_BASE b.base image in
    let long_one = number_length 2 MEMORY_BASE b.base image in
    let base : number_at (with_bounds MemoryWindow b image) MEMORY_BASE 2 ≡ b.base =
    number_beside 2 MEMORY_LIMIT b.limit one 2 MEMORY_BASE (inl (omega arith)) ∙ two_bytes MEMORY_BASE b.base image (omega (arith, full)) fits.base in
    let limit = two_bytes MEMORY_LIMIT b.limit one (omega (arith, full, long_one)) fits.limit in
    let no_base : 0 ≡ b.base_upper = (let small = fits.base_upper in omega (arith, small)) in
    let no_limit : 0 ≡ b.limit_upper = (let small = fits.limit_upper in omega (arith, small)) in
    λ i. record { base = base i; limit = limit i; base_upper = no_base i; limit_upper = no_limit i }

prefetch_read : (b : Bounds) (image : List ℕ) → length image ≡ 256 → Fits 65536 4294967296 b → bounds_at PrefetchWindow (with_bounds PrefetchWindow b image) ≡ b
prefetch_read b image full fits =
    let one = with_number 2 PREFETCHABLE_BASE b.base image in
    let two = with_number 2 PREFETCHABLE_LIMIT b.limit one in
    let three = with_number 4 PREFETCHABLE_BASE_UPPER b.base_upper two in
    let long_one = number_length 2 PREFETCHABLE_BASE b.base image in
    let long_two = number_length 2 PREFETCHABLE_LIMIT b.limit one in
    let long_three = number_length 4 PREFETCHABLE_BASE_UPPER b.base_upper two in
    let base : number_at (with_bounds PrefetchWindow b image) PREFETCHABLE_BASE 2 ≡ b.base =
    number_beside 4 PREFETCHABLE_LIMIT_UPPER b.limit_upper three 2 PREFETCHABLE_BASE (inl (omega arith)) ∙ number_beside 4 PREFETCHABLE_BASE_UPPER b.base_upper two 2 PREFETCHABLE_BASE (inl (omega arith))
    ∙ number_beside 2 PREFETCHABLE_LIMIT b.limit one 2 PREFETCHABLE_BASE (inl (omega arith)) ∙ two_bytes PREFETCHABLE_BASE b.base image (omega (arith, full)) fits.base in
    let limit : number_at (with_bounds PrefetchWindow b image) PREFETCHABLE_LIMIT 2 ≡ b.limit =
    number_beside 4 PREFETCHABLE_LIMIT_UPPER b.limit_upper three 2 PREFETCHABLE_LIMIT (inl (omega arith)) ∙ number_beside 4 PREFETCHABLE_BASE_UPPER b.base_upper two 2 PREFETCHABLE_LIMIT (inl (omega arith))
    ∙ two_bytes PREFETCHABLE_LIMIT b.limit one (omega (arith, full, long_one)) fits.limit in
    let base_upper : number_at (with_bounds PrefetchWindow b image) PREFETCHABLE_BASE_UPPER 4 ≡ b.base_upper =
    number_beside 4 PREFETCHABLE_LIMIT_UPPER b.limit_upper three 4 PREFETCHABLE_BASE_UPPER (inl (omega arith)) ∙ four_bytes PREFETCHABLE_BASE_UPPER b.base_upper two (omega (arith, full, long_one, long_two)) fits.base_upper in
    let limit_upper = four_bytes PREFETCHABLE_LIMIT_UPPER b.limit_upper three (omega (arith, full, long_one, long_two, long_three)) fits.limit_upper in
    λ i. record { base = base i; limit = limit i; base_upper = base_upper i; limit_upper = limit_upper i }

-- what is put for a nibble, and what a closed window shows
back_read : (kind : WindowKind) (n : ℕ) (image : List ℕ) → n < 2 → (kind ≡ MemoryWindow → n ≡ 0) → length image ≡ 256 → bounds_at kind (with_bounds kind (bounds_of_nibble kind n) image) ≡ bounds_of_nibble kind n
back_read IoWindow zero image small memory full = io_read _ image full record { base = lit< tt; limit = lit< tt; base_upper = lit< tt; limit_upper = lit< tt }
back_read IoWindow (suc zero) image small memory full = io_read _ image full record { base = lit< tt; limit = lit< tt; base_upper = lit< tt; limit_upper = lit< tt }
back_read MemoryWindow zero image small memory full = memory_read _ image full record { base = lit< tt; limit = lit< tt; base_upper = lit< tt; limit_upper = lit< tt }
back_read MemoryWindow (suc zero) image small memory full = absurd (cc (memory refl))
back_read PrefetchWindow zero image small memory full = prefetch_read _ image full record { base = lit< tt; limit = lit< tt; base_upper = lit< tt; limit_upper = lit< tt }
back_read PrefetchWindow (suc zero) image small memory full = prefetch_read _ image full record { base = lit< tt; limit = lit< tt; base_upper = lit< tt; limit_upper = lit< tt }
back_read kind (suc (suc n)) image small memory full = absurd (omega (arith, small))

closed_read : (kind : WindowKind) (image : List ℕ) → length image ≡ 256 → bounds_at kind (with_bounds kind (closed_bounds kind 0) image) ≡ closed_bounds kind 0
closed_read IoWindow image full = io_read _ image full record { base = lit< tt; limit = lit< tt; base_upper = lit< tt; limit_upper = lit< tt }
closed_read MemoryWindow image full = memory_read _ image full record { base = lit< tt; limit = lit< tt; base_upper = lit< tt; limit_upper = lit< tt }
closed_read PrefetchWindow image full = prefetch_read _ image full record { base = lit< tt; limit = lit< tt; base_upper = lit< tt; limit_upper = lit< tt }

-- ---- the window

-- one that shows a window with this nibble, and reads back what it reads back
goes : (kind : WindowKind) (n : ℕ) (value : Bounds) → n < 2 → (kind ≡ MemoryWindow → n ≡ 0) → is_window_value n value ≡ true → shows_window kind value (bounds_of_nibble kind n) ≡ true
goes IoWindow zero value small memory shown = or_left _ _ shown
goes IoWindow (suc zero) value small memory shown = or_right (is_lawful_window IoWindow 0 value (bounds_of_nibble IoWindow 1)) (is_window_value 1 value) shown
goes MemoryWindow zero value small memory shown = or_left _ _ shown
goes MemoryWindow (suc zero) value small memory shown = absurd (cc (memory refl))
goes PrefetchWindow zero value small memory shown = or_left _ _ shown
goes PrefetchWindow (suc zero) value small memory shown = or_right (is_lawful_window PrefetchWindow 0 value (bounds_of_nibble PrefetchWindow 1)) (is_window_value 1 value) shown
goes kind (suc (suc n)) value small memory shown = absurd (omega (arith, small))

-- which nibble is shown
record IsShown (kind : WindowKind) (value : Bounds) (n : ℕ) : Type 0 where
  found : shown_nibble kind value ≡ Some n
  small : n < 2
  memory : kind ≡ MemoryWindow → n ≡ 0
  goes_with : is_window_value n value ≡ true

not_memory : (kind : WindowKind) → is_optional kind ≡ true → kind ≡ MemoryWindow → ⊥
not_memory kind optional is = both_ways (is_optional kind) (ap is_optional is) optional

is_shown : (kind : WindowKind) (value : Bounds) → is_some (shown_nibble kind value) ≡ true → (n : ℕ) × IsShown kind value n
is_shown kind value some = elim (cases_Bool (is_window_value 0 value)) [
  | inl narrow ↦ (0, record { found = rw narrow refl; small = lit< tt; memory = λ is. refl; goes_with = narrow })
  | inr other ↦ elim (cases_Bool (is_optional kind && is_window_value 1 value)) [
    | inl wide ↦ (let parts = and_parts (is_optional kind) (is_window_value 1 value) wide in
        (1, record { found = rw (other, wide) refl; small = lit< tt; memory = λ is. absurd (not_memory kind parts.0 is); goes_with = parts.1 }))
    | inr neither ↦ absurd (both_ways (is_some (shown_nibble kind value)) (rw (other, neither) refl) some)
  ]
]

closed_value : (kind : WindowKind) (n : ℕ) → n < 2 → is_window_value n (closed_bounds kind n) ≡ true
closed_value IoWindow zero small = refl
closed_value IoWindow (suc zero) small = refl
closed_value MemoryWindow zero small = refl
closed_value MemoryWindow (suc zero) small = refl
closed_value PrefetchWindow zero small = refl
closed_value PrefetchWindow (suc zero) small = refl
closed_value kind (suc (suc n)) small = absurd (omega (arith, small))

module _ (kind : WindowKind) (f : Function) (full : length f.image ≡ 256) (full_probe : length f.probe ≡ 256) (n : ℕ) (is : IsShown kind (bounds_at kind f.image) n) where
  back : bounds_at kind (with_bounds kind (bounds_of_nibble kind n) f.probe) ≡ bounds_of_nibble kind n
  back = back_read kind n f.probe is.small is.memory full_probe

  -- where it shows 0 and reads back 0, its nibble is 0
  zero_nibble : is_zero (bounds_at kind f.image) ≡ true → n ≡ 0
  zero_nibble zeros = elim (cases_lt n 1) [
    | inl none ↦ omega (arith, none)
    | inr one ↦ (
        let base = eqb-true (bounds_at kind f.image).base 0 (first_of_four _ _ _ _ zeros) in
        let low = eqb-true ((bounds_at kind f.image).base % 16) n (first_of_three _ _ _ is.goes_with) in
        omega (arith, base, low)
        )
  ]
    where
      first_of_four : (a b c d : Bool) → (a && b && c && d) ≡ true → a ≡ true
      first_of_four true b c d all = refl
      first_of_four false b c d all = all

      first_of_three : (a b c : Bool) → (a && b && c) ≡ true → a ≡ true
      first_of_three true b c all = refl
      first_of_three false b c all = all

  value_goes : is_window_value n (bounds_at kind (image_with_window kind n f)) ≡ true
  value_goes =
      cond_both (is_zero (bounds_at kind f.image) && is_zero (bounds_at kind f.probe)) (with_bounds kind (closed_bounds kind n) f.image) f.image (λ image. is_window_value n (bounds_at kind image) ≡ true)
      (λ zeros.
      let none = zero_nibble (and_parts (is_zero (bounds_at kind f.image)) (is_zero (bounds_at kind f.probe)) zeros).0 in
      subst (λ m. is_window_value m (bounds_at kind (with_bounds kind (closed_bounds kind m) f.image)) ≡ true) (sym none)
      (ap (is_window_value 0) (closed_read kind f.image full) ∙ closed_value kind 0 (lit< tt)))
      (λ shown. is.goes_with)

  lawful : breaks_window_rule kind (image_with_window kind n f) (with_bounds kind (bounds_of_nibble kind n) f.probe) ≡ false
  lawful = ap not (or_left _ _ (ap (shows_window kind (bounds_at kind (image_with_window kind n f))) back ∙ goes kind n (bounds_at kind (image_with_window kind n f)) is.small is.memory value_goes))

pub shown_windows_are_lawful : ShownWindowsAreLawful
shown_windows_are_lawful kind f is is_probe some =
    let (n, shown) = is_shown kind (bounds_at kind f.image) some in
    elim (cases_Bool (breaks_window_rule kind f.image f.probe)) [
      | inl breaks ↦ rw (breaks, shown.found) (lawful kind f is.full is_probe.full n shown)
      | inr fine ↦ rw fine fine
    ]

pub shown_windows_keep_pages : ShownWindowsKeepPages
shown_windows_keep_pages kind f other =
    cond_both (breaks_window_rule kind f.image f.probe) (with_nibble kind (shown_nibble kind (bounds_at kind f.image)) f) f (λ g. g.image ≡ f.image)
    (λ breaks. by (shown_nibble kind (bounds_at kind f.image))) (λ fine. refl)
  where
    by : (o : Option ℕ) → (with_nibble kind o f).image ≡ f.image
    by None = refl
    by (Some n) = rw other refl
