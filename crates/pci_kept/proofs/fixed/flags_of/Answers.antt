use Rattle.std.proofs.Common.{length, sym, ap, ◌∙◌, subst, arith}
use Rattle.pci_kept.specs.Flags.{AreFlags}
use Rattle.pci_kept.proofs.Flags.{all_flags}
use Rattle.pci_kept.proofs.Whole.{slice_back}
use Rattle.pci_kept.proofs.fixed.flags_of.Goals as goal

pub returns : goal.returns
returns g c =
    let new = c.flag_all.new.flags in
    let same = c.flag_all.auto.flags ∙ ap length c.as_mut_slice.ensures.value in
    let long = c.in_ok-flags.flags.ok.0 in
    let size = c.in_ok-flags.ensures.len in
    subst (AreFlags c.args.slots.now) (sym (slice_back c.in_ok-flags.flags.len new c.in_ok-flags.flags.items same (omega (arith, long))))
    (all_flags c.args.slots.now c.as_mut_slice.result.now new (omega (arith, same, size)) (c.as_mut_slice.ensures.value ∙ c.in_ok-flags.ensures.items_if_clones_equal (λ y same. same)) c.flag_all.ensures)
