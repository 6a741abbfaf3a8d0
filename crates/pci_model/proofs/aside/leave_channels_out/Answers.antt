use Rattle.std.proofs.Common.{◌∙◌, ap, get_or, false}
use Rattle.std.specs.Bool.{if◌then◌else◌}
use Rattle.pci_image.specs.Bars.{decoded_kind_of}
use Rattle.pci_image.specs.declared.bar.BarKind.TheVariants.{Io}
use Rattle.judge_spec.specs.Bytes.{cleared, width_of}
use Rattle.judge_spec.specs.Taken.{is_compatible}
use Rattle.pci_model.proofs.Channels.{one_more}
use Rattle.pci_model.proofs.aside.leave_channels_out.Goals as goal

pub loop-bar-preserved : goal.loop-bar-preserved
loop-bar-preserved c =
    let bars = c.args.bars.now in
    let b = get_or bars c.loop-bar.bar-index record { reg = 0; kind = Io; prefetch = false; first = 0; last = 0 } in
    c.leave_out.ensures ∙ ap (λ before. if is_compatible c.args.interface b.reg then cleared b.reg (width_of (decoded_kind_of b.kind)) before else before) c.loop-bar.invariant
    ∙ one_more c.args.interface bars c.loop-bar.bar-index _ c.args.image.now.0 c.loop-bar-test.true
