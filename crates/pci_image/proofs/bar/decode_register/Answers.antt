use Rattle.std.proofs.Common.{◌≡◌, ◌+◌, ◌*◌, arith, ap}
use Rattle.pci_image.specs.Bars.{decoded_kind_of}
use Rattle.pci_image.proofs.Decoding.{narrow_kind, narrow-decoded, pair-decoded}
use Rattle.pci_image.proofs.bar.decode_register.Goals as goal

pub returns-in_ok-bar-in-Io : goal.returns-in_ok-bar-in-Io
returns-in_ok-bar-in-Io c =
    narrow-decoded c.args.last c.args.image.now.0 c.args.probe.now.0 c.args.n c.u32-value.result c.u32-mask.result c.into.result c.into-in-Io.result
    c.is_prefetchable-prefetch.result c.in_ok-bar-in-Io.bar c.if-mask-eq0.false c.in_ok-kind.ensures.0 c.is_prefetchable-prefetch.ensures c.u32-value.ensures c.u32-mask.ensures
    (decoded_kind_of c.in_ok-kind.kind) c.in_ok-kind.ensures.1
    (narrow_kind c.in_ok-kind.kind c.in-Io.is)
    c.into.ensures c.into-in-Io.ensures c.in_ok-bar-in-Io.ensures.0 c.in_ok-bar-in-Io.ensures.1

pub returns-in_ok-bar-in-Mem64-2 : goal.returns-in_ok-bar-in-Mem64-2
returns-in_ok-bar-in-Mem64-2 c =
    pair-decoded c.args.last c.args.image.now.0 c.args.probe.now.0 c.args.n c.u32-value.result c.u32-mask.result c.pair_at.result c.pair_at-in-Mem64-2.result
    c.is_prefetchable-prefetch.result c.in_ok-bar-in-Mem64-2.bar c.if-mask-eq0.false c.in_ok-kind.ensures.0 c.is_prefetchable-prefetch.ensures c.u32-value.ensures c.u32-mask.ensures
    (decoded_kind_of c.in_ok-kind.kind) c.in_ok-kind.ensures.1
    (ap decoded_kind_of c.in-Mem64.is) c.if-last.false
    (let next : 0x10 + 4 * c.args.n + 4 ≡ 0x10 + 4 * (c.args.n + 1) = omega arith in rw next at c.pair_at.ensures)
    (let next : 0x10 + 4 * c.args.n + 4 ≡ 0x10 + 4 * (c.args.n + 1) = omega arith in rw next at c.pair_at-in-Mem64-2.ensures)
    c.in_ok-bar-in-Mem64-2.ensures.0 c.in_ok-bar-in-Mem64-2.ensures.1
