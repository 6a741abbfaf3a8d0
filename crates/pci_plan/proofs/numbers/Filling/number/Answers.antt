use Rattle.std.proofs.Common.{arith, ◌≡◌, ◌+◌, ◌*◌, ◌^◌, ◌<◌, ◌∙◌, ap, inl, inr, subst, sym, refl, true, false, Bool, if◌then◌else◌}
use Rattle.std.specs.Option.{is_some}
use Rattle.std.proofs.lemmas.Bool.{both_ways}
use Rattle.pci_spec.specs.Header.{bar_register, rom_place}
use Rattle.pci_spec.specs.Window.{Bounds}
use Rattle.pci_image.specs.declared.register.Role.TheVariants as roles
use Rattle.pci_base.specs.declared.window_kind.WindowKind.TheVariants as kinds
use Rattle.pci_plan.specs.declared.numbers.Filling.{Filling}
use Rattle.pci_plan.proofs.FilledWindows.{bridge_is, io_uppers}
use Rattle.pci_plan.proofs.FilledRegisters.{role_placed, bar_placed, bar_aligned, rom_placed, window_placed, bar_is, rom_is, window_is}
use Rattle.pci_plan.proofs.numbers.Filling.number.Goals as goal
use Rattle.pci_plan.proofs.numbers.Filling.number.Goals.{In-Bar, In-Rom, In-Bounds-Io, In-Bounds-Memory, In-Bounds-Prefetchable, In-IoUpper, In-PrefetchableBaseUpper, In-PrefetchableLimitUpper}

-- whether the function is a bridge, by its record
abbrev on_bridge : Filling → Bool
on_bridge filling = is_some filling.record.now.bridge

-- ---- BARs and ROM

bar : (c : In-Bar) → (c.in-Bar.field-0 < (if on_bridge c.args.self.now then 2 else 6)) × (c.args.register.offset ≡ bar_register c.in-Bar.field-0)
bar c = bar_placed (on_bridge c.args.self.now) c.args.register c.in-Bar.field-0 c.in-Bar.is c.requires.place

pub bar_number-requires-clause-aligned : goal.bar_number-requires-clause-aligned
bar_number-requires-clause-aligned c = bar_aligned c.args.register.offset c.in-Bar.field-0 (bar (goal.at.bar_number-requires-clause-aligned c).In-Bar).1

pub returns-in-Bar : goal.returns-in-Bar
returns-in-Bar c of =
    let placed = bar (goal.at.returns-in-Bar c).In-Bar in
    let bridge = bridge_is c.args.self.now of in
    c.bar_number.ensures of c.in-Bar.field-0 (subst (λ (b : Bool). c.in-Bar.field-0 < (if b then 2 else 6)) bridge placed.0) placed.1
    ∙ sym (bar_is of.roots of.system of.pools of.function (on_bridge c.args.self.now) bridge c.args.register.offset c.args.register.width c.in-Bar.field-0 placed)

rom : (c : In-Rom) → c.args.register.offset ≡ rom_place (on_bridge c.args.self.now)
rom c = rom_placed (on_bridge c.args.self.now) c.args.register c.in-Rom.is c.requires.place

pub rom_number-requires-clause-register : goal.rom_number-requires-clause-register
rom_number-requires-clause-register c of = rom (goal.at.rom_number-requires-clause-register c).In-Rom ∙ ap rom_place (bridge_is c.args.self.now of)

pub returns-in-Rom : goal.returns-in-Rom
returns-in-Rom c of =
    c.rom_number.ensures of
    ∙ sym (rom_is of.roots of.system of.pools of.function (on_bridge c.args.self.now) (bridge_is c.args.self.now of) c.args.register.offset c.args.register.width (rom (goal.at.returns-in-Rom c).In-Rom))

-- ---- windows

io : (c : In-Bounds-Io) → (on_bridge c.args.self.now ≡ true) × (c.args.register.offset ≡ 0x1c)
io c = window_placed (on_bridge c.args.self.now) c.args.register.offset 0x1c (role_placed (on_bridge c.args.self.now) c.args.register (roles.Bounds kinds.Io) (c.in-Bounds-Io.is ∙ ap roles.Bounds (rw c.in-Bounds-Io.is at c.in-Bounds-Io.field-0-is)) c.requires.place)

pub bounds-requires-clause-bridge : goal.bounds-requires-clause-bridge
bounds-requires-clause-bridge c = (io (goal.at.bounds-requires-clause-bridge c).In-Bounds-Io).0

pub returns-in-Bounds-Io : goal.returns-in-Bounds-Io
returns-in-Bounds-Io c of =
    c.lower.ensures ∙ ap (λ (b : Bounds). b.base + 2 ^ 8 * b.limit) (c.bounds.ensures of)
    ∙ sym (window_is of.roots of.system of.pools of.function (on_bridge c.args.self.now) (bridge_is c.args.self.now of) c.args.register.offset c.args.register.width 0x1c (io (goal.at.returns-in-Bounds-Io c).In-Bounds-Io))

memory : (c : In-Bounds-Memory) → (on_bridge c.args.self.now ≡ true) × (c.args.register.offset ≡ 0x20)
memory c = window_placed (on_bridge c.args.self.now) c.args.register.offset 0x20 (role_placed (on_bridge c.args.self.now) c.args.register (roles.Bounds kinds.Memory) (c.in-Bounds-Memory.is ∙ ap roles.Bounds (rw c.in-Bounds-Memory.is at c.in-Bounds-Memory.field-0-is)) c.requires.place)

pub bounds-requires-in-Bounds-Memory-clause-bridge : goal.bounds-requires-in-Bounds-Memory-clause-bridge
bounds-requires-in-Bounds-Memory-clause-bridge c = (memory (goal.at.bounds-requires-in-Bounds-Memory-clause-bridge c).In-Bounds-Memory).0

pub returns-in-Bounds-Memory : goal.returns-in-Bounds-Memory
returns-in-Bounds-Memory c of =
    c.lower-in-Bounds-Memory.ensures ∙ ap (λ (b : Bounds). b.base + 2 ^ 16 * b.limit) (c.bounds-in-Bounds-Memory.ensures of)
    ∙ sym (window_is of.roots of.system of.pools of.function (on_bridge c.args.self.now) (bridge_is c.args.self.now of) c.args.register.offset c.args.register.width 0x20 (memory (goal.at.returns-in-Bounds-Memory c).In-Bounds-Memory))

prefetchable : (c : In-Bounds-Prefetchable) → (on_bridge c.args.self.now ≡ true) × (c.args.register.offset ≡ 0x24)
prefetchable c = window_placed (on_bridge c.args.self.now) c.args.register.offset 0x24 (role_placed (on_bridge c.args.self.now) c.args.register (roles.Bounds kinds.Prefetchable) (c.in-Bounds-Prefetchable.is ∙ ap roles.Bounds (rw c.in-Bounds-Prefetchable.is at c.in-Bounds-Prefetchable.field-0-is)) c.requires.place)

pub bounds-requires-in-Bounds-Prefetchable-clause-bridge : goal.bounds-requires-in-Bounds-Prefetchable-clause-bridge
bounds-requires-in-Bounds-Prefetchable-clause-bridge c = (prefetchable (goal.at.bounds-requires-in-Bounds-Prefetchable-clause-bridge c).In-Bounds-Prefetchable).0

pub returns-in-Bounds-Prefetchable : goal.returns-in-Bounds-Prefetchable
returns-in-Bounds-Prefetchable c of =
    c.lower-in-Bounds-Prefetchable.ensures ∙ ap (λ (b : Bounds). b.base + 2 ^ 16 * b.limit) (c.bounds-in-Bounds-Prefetchable.ensures of)
    ∙ sym (window_is of.roots of.system of.pools of.function (on_bridge c.args.self.now) (bridge_is c.args.self.now of) c.args.register.offset c.args.register.width 0x24 (prefetchable (goal.at.returns-in-Bounds-Prefetchable c).In-Bounds-Prefetchable))

io_upper : (c : In-IoUpper) → (on_bridge c.args.self.now ≡ true) × (c.args.register.offset ≡ 0x30)
io_upper c = window_placed (on_bridge c.args.self.now) c.args.register.offset 0x30 (role_placed (on_bridge c.args.self.now) c.args.register roles.IoUpper (c.in-IoUpper.is) c.requires.place)

pub bounds-requires-in-IoUpper-clause-bridge : goal.bounds-requires-in-IoUpper-clause-bridge
bounds-requires-in-IoUpper-clause-bridge c = (io_upper (goal.at.bounds-requires-in-IoUpper-clause-bridge c).In-IoUpper).0

pub upper-requires-clause-base : goal.upper-requires-clause-base
upper-requires-clause-base c =
    let of = c.requires.of in
    let e = ap (λ (b : Bounds). b.base_upper) (c.bounds-in-IoUpper.ensures of) in
    let small = (io_uppers c.args.self.now of (sym (bridge_is c.args.self.now of) ∙ (io_upper (goal.at.upper-requires-clause-base c).In-IoUpper).0)).0 in
    omega (arith, e, small)

pub upper-requires-clause-limit : goal.upper-requires-clause-limit
upper-requires-clause-limit c =
    let of = c.requires.of in
    let e = ap (λ (b : Bounds). b.limit_upper) (c.bounds-in-IoUpper.ensures of) in
    let small = (io_uppers c.args.self.now of (sym (bridge_is c.args.self.now of) ∙ (io_upper (goal.at.upper-requires-clause-limit c).In-IoUpper).0)).1 in
    omega (arith, e, small)

pub returns-in-IoUpper : goal.returns-in-IoUpper
returns-in-IoUpper c of =
    c.upper.ensures ∙ ap (λ (b : Bounds). b.base_upper + 2 ^ 16 * b.limit_upper) (c.bounds-in-IoUpper.ensures of)
    ∙ sym (window_is of.roots of.system of.pools of.function (on_bridge c.args.self.now) (bridge_is c.args.self.now of) c.args.register.offset c.args.register.width 0x30 (io_upper (goal.at.returns-in-IoUpper c).In-IoUpper))

base_upper : (c : In-PrefetchableBaseUpper) → (on_bridge c.args.self.now ≡ true) × (c.args.register.offset ≡ 0x28)
base_upper c = window_placed (on_bridge c.args.self.now) c.args.register.offset 0x28 (role_placed (on_bridge c.args.self.now) c.args.register roles.PrefetchableBaseUpper (c.in-PrefetchableBaseUpper.is) c.requires.place)

pub bounds-requires-in-PrefetchableBaseUpper-clause-bridge : goal.bounds-requires-in-PrefetchableBaseUpper-clause-bridge
bounds-requires-in-PrefetchableBaseUpper-clause-bridge c = (base_upper (goal.at.bounds-requires-in-PrefetchableBaseUpper-clause-bridge c).In-PrefetchableBaseUpper).0

pub returns-in-PrefetchableBaseUpper : goal.returns-in-PrefetchableBaseUpper
returns-in-PrefetchableBaseUpper c of =
    ap (λ (b : Bounds). b.base_upper) (c.bounds-in-PrefetchableBaseUpper.ensures of)
    ∙ sym (window_is of.roots of.system of.pools of.function (on_bridge c.args.self.now) (bridge_is c.args.self.now of) c.args.register.offset c.args.register.width 0x28 (base_upper (goal.at.returns-in-PrefetchableBaseUpper c).In-PrefetchableBaseUpper))

limit_upper : (c : In-PrefetchableLimitUpper) → (on_bridge c.args.self.now ≡ true) × (c.args.register.offset ≡ 0x2c)
limit_upper c = window_placed (on_bridge c.args.self.now) c.args.register.offset 0x2c (role_placed (on_bridge c.args.self.now) c.args.register roles.PrefetchableLimitUpper (c.in-PrefetchableLimitUpper.is) c.requires.place)

pub bounds-requires-in-PrefetchableLimitUpper-clause-bridge : goal.bounds-requires-in-PrefetchableLimitUpper-clause-bridge
bounds-requires-in-PrefetchableLimitUpper-clause-bridge c = (limit_upper (goal.at.bounds-requires-in-PrefetchableLimitUpper-clause-bridge c).In-PrefetchableLimitUpper).0

pub returns-in-PrefetchableLimitUpper : goal.returns-in-PrefetchableLimitUpper
returns-in-PrefetchableLimitUpper c of =
    ap (λ (b : Bounds). b.limit_upper) (c.bounds-in-PrefetchableLimitUpper.ensures of)
    ∙ sym (window_is of.roots of.system of.pools of.function (on_bridge c.args.self.now) (bridge_is c.args.self.now of) c.args.register.offset c.args.register.width 0x2c (limit_upper (goal.at.returns-in-PrefetchableLimitUpper c).In-PrefetchableLimitUpper))

-- ---- no other register has a place

pub unreachable-requires : goal.unreachable-requires
unreachable-requires c =
    elim c.in-Control.is [
      | inl control ↦ both_ways false refl (role_placed (on_bridge c.args.self.now) c.args.register (roles.Control control.0) control.1 c.requires.place)
      | inr status ↦ both_ways false refl (role_placed (on_bridge c.args.self.now) c.args.register (roles.Status status.0) status.1 c.requires.place)
    ]
