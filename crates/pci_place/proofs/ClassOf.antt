-- The class of a BAR of a record is that of the function's BAR.
use Rattle.std.proofs.Common.{◌≡◌, ℕ, refl, Bool, true, false, inl, inr, ◌&&◌, ◌∙◌, ap}
use Rattle.std.specs.Bool.{nat_eq, nat_le, if◌then◌else◌}
use Rattle.std.proofs.lemmas.Bool.{cases_Bool}
use Rattle.pci_spec.specs.Bar.{BarKind, IoBar, Memory32, Memory64, Reserved, bar_at, bar_kind, is_io, is_wide, is_prefetchable, type_bits}
use Rattle.pci_spec.specs.Window.{IoWindow, MemoryWindow, PrefetchWindow, has_window, is_wide_window}
use Rattle.pci_spec.specs.Decoded.{DecodedBar, decoded_bar}
use Rattle.std.specs.List.{list_all}
use Rattle.pci_spec.specs.System.{System, Function, Bar}
use Rattle.plan_spec.specs.Plan.{class_of, bridges_above, is_served}
use Rattle.pci_image.specs.declared.bar.Bar.{Bar as CodeBar}
use Rattle.pci_image.specs.declared.bar.BarKind.{BarKind as CodeKind}
use Rattle.pci_image.specs.declared.bar.BarKind.TheVariants.{Io, Mem32, Mem64}
use Rattle.pci_image.specs.Bars.{decoded_kind_of, decoded_bar_of}
use Rattle.pci_place.specs.declared.above.Above.{Above}
use Rattle.pci_place.specs.declared.pools.Pools.{Pools}
use Rattle.pci_place.specs.Pools.{pools_value}
use Rattle.pci_place.specs.Above.{IsAbove}
use Rattle.pci_place.specs.Classes.{is_io_kind, is_wide_kind, is_served_by, bar_class}

-- ---- kinds

is_io_bar : BarKind → Bool
is_io_bar IoBar = true
is_io_bar Memory32 = false
is_io_bar Memory64 = false
is_io_bar Reserved = false

is_wide_bar : BarKind → Bool
is_wide_bar IoBar = false
is_wide_bar Memory32 = false
is_wide_bar Memory64 = true
is_wide_bar Reserved = false

io_decoded : (kind : CodeKind) → is_io_kind kind ≡ is_io_bar (decoded_kind_of kind)
unfolding is_io_bar
io_decoded Io = refl
io_decoded Mem32 = refl
io_decoded Mem64 = refl

wide_decoded : (kind : CodeKind) → is_wide_kind kind ≡ is_wide_bar (decoded_kind_of kind)
unfolding is_wide_bar
wide_decoded Io = refl
wide_decoded Mem32 = refl
wide_decoded Mem64 = refl

-- what a register's kind says is what its bits say
by_bits : (register : ℕ) → (is_io_bar (bar_kind register) ≡ is_io register) × (is_wide_bar (bar_kind register) ≡ is_wide register)
unfolding is_io_bar is_wide_bar
by_bits register = elim (cases_Bool (is_io register)) [
  | inl io ↦ rw io (refl, refl)
  | inr memory ↦ elim (cases_Bool (nat_eq (type_bits register) 2)) [
    | inl wide ↦ rw (memory, wide) (refl, refl)
    | inr other ↦ elim (cases_Bool (nat_eq (type_bits register) 0)) [
      | inl narrow ↦ rw (memory, other, narrow) (refl, refl)
      | inr reserved ↦ rw (memory, other, reserved) (refl, refl)
    ]
  ]
]

-- whether a BAR is of I/O, and whether it is of 64 bits, by its register
pub kind_io : (f : Function) (bar : CodeBar) (n : ℕ) → decoded_bar_of bar ≡ decoded_bar f.image f.probe n → is_io_kind bar.kind ≡ is_io (bar_at f.probe n)
kind_io f bar n e = io_decoded bar.kind ∙ ap (λ (x : DecodedBar). is_io_bar x.kind) e ∙ (by_bits (bar_at f.probe n)).0

pub kind_wide : (f : Function) (bar : CodeBar) (n : ℕ) → decoded_bar_of bar ≡ decoded_bar f.image f.probe n → is_wide_kind bar.kind ≡ is_wide (bar_at f.probe n)
kind_wide f bar n e = wide_decoded bar.kind ∙ ap (λ (x : DecodedBar). is_wide_bar x.kind) e ∙ (by_bits (bar_at f.probe n)).1

-- ---- classes

served_is : (s : System) (f : Function) (above : Above) (pools : Pools) (bar : CodeBar) (n : ℕ) → decoded_bar_of bar ≡ decoded_bar f.image f.probe n → IsAbove s f.slot.bus above
    → is_served_by bar above pools ≡ is_served s (pools_value pools) f n
served_is s f above pools bar n e at =
    let wide : is_wide_kind bar.kind ≡ is_wide (bar_at f.probe n) = kind_wide f bar n e in
    let some : above.pref ≡ list_all (λ b. has_window PrefetchWindow b.probe) (bridges_above s f.slot.bus) = at.pref in
    let upper : above.wide ≡ list_all (λ b. is_wide_window PrefetchWindow b.probe) (bridges_above s f.slot.bus) = at.wide in
    ap (λ x. if nat_le pools.pref.last 0xffff_ffff then x else is_wide_kind bar.kind && above.wide) some
    ∙ ap (λ x. if nat_le pools.pref.last 0xffff_ffff then list_all (λ b. has_window PrefetchWindow b.probe) (bridges_above s f.slot.bus) else x && above.wide) wide
    ∙ ap (λ x. if nat_le pools.pref.last 0xffff_ffff then list_all (λ b. has_window PrefetchWindow b.probe) (bridges_above s f.slot.bus) else is_wide (bar_at f.probe n) && x) upper

-- the class of a BAR of a record, beneath the windows above its bus
pub class_is : (s : System) (f : Function) (above : Above) (pools : Pools) (bar : CodeBar) (n : ℕ) → decoded_bar_of bar ≡ decoded_bar f.image f.probe n → IsAbove s f.slot.bus above
    → bar_class bar above pools ≡ class_of s (pools_value pools) f (Bar n)
class_is s f above pools bar n e at =
    let io = kind_io f bar n e in
    let pre : bar.prefetch ≡ is_prefetchable (bar_at f.probe n) = ap (λ (x : DecodedBar). x.prefetchable) e in
    let served = served_is s f above pools bar n e at in
    ap (λ x. if x then IoWindow else if bar.prefetch && is_served_by bar above pools then PrefetchWindow else MemoryWindow) io
    ∙ ap (λ x. if is_io (bar_at f.probe n) then IoWindow else if x && is_served_by bar above pools then PrefetchWindow else MemoryWindow) pre
    ∙ ap (λ x. if is_io (bar_at f.probe n) then IoWindow else if is_prefetchable (bar_at f.probe n) && x then PrefetchWindow else MemoryWindow) served
