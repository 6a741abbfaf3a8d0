use Rattle.std.proofs.Common.{sym, subst}
use Rattle.pci_kept.specs.Flags.{AreFlags}
use Rattle.pci_settle.proofs.wishes.basis_of.Goals as goal

pub flags_by_function-requires : goal.flags_by_function-requires
flags_by_function-requires g c = c.requires.flags

pub returns : goal.returns
returns g c = record {
  fixed_are = c.in_ok-flags_by_function.ensures;
  slots_are = c.in_ok-flags_by_function-2.ensures c.args.slots.now.bridges.now (subst (AreFlags c.args.slots.now.bridges.now) (sym c.as_slice.ensures.value) c.in_ok-slots_by_number.ensures);
  spares_are = c.spares.ensures.told;
  extents = c.spares.ensures.some;
  windows_are = c.in_ok-windows_before.ensures.each;
  own_are = c.in_ok-own_before.ensures;
}
