use Rattle.std.proofs.Common.{sym, ap}
use Rattle.pci_spec.specs.Decoded.{DecodedBar, Range}
use Rattle.pci_image.specs.Bars.{decoded_kind_of}
use Rattle.pci_image.proofs.Decoding.{size-kept}
use Rattle.pci_image.proofs.bar.placed.Goals as goal

pub returns : goal.returns
returns c = (
  size-kept (decoded_kind_of c.args.kind) c.args.value c.args.mask c.in-Some.log2 c.in-Some.ensures (sym c.if-not-fits_within.ensures),
  (
    c.in-Some.log2,
    c.in-Some.ensures,
    let bar : Range → DecodedBar = λ r. record { register = c.args.reg; kind = decoded_kind_of c.args.kind; prefetchable = c.args.prefetch; range = r } in
        ap bar c.aligned-first.ensures,
  ),
)
