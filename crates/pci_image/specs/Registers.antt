-- The rows of the tables of registers.
use Rattle.std.specs.Prelude.{ℕ, ◌+◌, ◌/◌, ◌%◌, ◌==◌, nat_lt, Bool, true, false, ◌&&◌, if◌then◌else◌}
use Rattle.pci_spec.specs.Registers as table
use Rattle.pci_spec.specs.Header.{bar_register, rom_place}
use Rattle.pci_spec.specs.Window.{window_register}
use Rattle.pci_base.specs.WindowKinds.{kind_value}
use Rattle.pci_spec.specs.Registers.{IO_BASE_UPPER, PREFETCHABLE_BASE_UPPER, PREFETCHABLE_LIMIT_UPPER, BarRole, RomRole, BoundsRole, UpperRole, ControlRole, StatusRole}
use Rattle.pci_spec.specs.Port.{is_access}
use Rattle.pci_image.specs.declared.register.Register.{Register}
use Rattle.pci_image.specs.declared.register.Role.{Role}
use Rattle.pci_image.specs.declared.register.Role.TheVariants.{Bar, Rom, Bounds, IoUpper, PrefetchableBaseUpper, PrefetchableLimitUpper, Control, Status}

-- what a register is for, as the definitions have it
abbrev pub role_value : Role → table.Role
role_value (Bar n) = BarRole n
role_value Rom = RomRole
role_value (Bounds kind) = BoundsRole 16
role_value IoUpper = BoundsRole 1
role_value PrefetchableBaseUpper = UpperRole
role_value PrefetchableLimitUpper = UpperRole
role_value (Control writable) = ControlRole writable
role_value (Status clearing) = StatusRole clearing

-- a row of a table, likewise
abbrev pub register_value : Register → table.Register
register_value r = record { offset = r.offset; width = r.width; role = role_value r.role }

-- the halves of a register can be read
abbrev pub has_halves : ℕ → ℕ → Bool
has_halves offset width =
    is_access offset (width / 2) && is_access (offset + width / 2) (width / 2)
    && nat_lt (offset + width / 2) 256

-- what the code reads of a register by its role can be read
abbrev pub is_readable_as : ℕ → ℕ → Role → Bool
is_readable_as offset width (Bar n) = nat_lt n 6
is_readable_as offset width Rom = offset % 4 == 0
is_readable_as offset width (Bounds kind) = has_halves offset width
is_readable_as offset width IoUpper = has_halves offset width
is_readable_as offset width role = true

-- the register can be read
abbrev pub is_readable : Register → Bool
is_readable r = is_access r.offset r.width && is_readable_as r.offset r.width r.role

-- a register of this role stands at an offset of a bridge, or of a device, and address decoding is set by it
abbrev pub has_place_as : Bool → ℕ → Role → Bool
has_place_as bridge offset (Bar n) = nat_lt n (if bridge then 2 else 6) && offset == bar_register n
has_place_as bridge offset Rom = offset == rom_place bridge
has_place_as bridge offset (Bounds kind) = bridge && offset == window_register (kind_value kind)
has_place_as bridge offset IoUpper = bridge && offset == IO_BASE_UPPER
has_place_as bridge offset PrefetchableBaseUpper = bridge && offset == PREFETCHABLE_BASE_UPPER
has_place_as bridge offset PrefetchableLimitUpper = bridge && offset == PREFETCHABLE_LIMIT_UPPER
has_place_as bridge offset (Control writable) = false
has_place_as bridge offset (Status clearing) = false

-- the register stands where its role says
abbrev pub has_place : Bool → Register → Bool
has_place bridge r = has_place_as bridge r.offset r.role
