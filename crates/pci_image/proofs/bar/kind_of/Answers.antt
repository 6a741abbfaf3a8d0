use Rattle.std.proofs.Common.{◌≡◌, ℕ, Bool, refl, arith, rules, sym, ◌∙◌, ap}
use Rattle.pci_spec.specs.Bar.{is_io}
use Rattle.pci_image.proofs.Registers.{io_kept, io_broken, io_reserved, memory_broken, memory_32, memory_64, memory_reserved}
use Rattle.pci_image.proofs.bar.kind_of.Goals as goal
use Rattle.pci_image.proofs.bar.kind_of.Goals.{else-value-mask-via-then-value-mask+else-mask-eq0, else-value-mask-via-else-value-mask}

io_of : (mask register : ℕ) {b : Bool} → register ≡ mask → is_io register ≡ b → is_io mask ≡ b
io_of mask register same is = ap is_io (sym same) ∙ is

pub returns-then-mask-eq0 : goal.returns-then-mask-eq0
returns-then-mask-eq0 c =
    io_kept c.args.value c.args.mask (io_of c.args.mask c.from.result c.from.ensures (sym c.is_io.ensures ∙ c.if-is_io.true)) c.if-value-mask.true c.if-mask-eq0.true

pub returns-else-value-mask : goal.returns-else-value-mask
returns-else-value-mask c =
    let io = io_of c.args.mask c.from.result c.from.ensures (sym c.is_io.ensures ∙ c.if-is_io.true) in (
      refl,
      elim c.else-value-mask.branch [
        | else-value-mask-via-then-value-mask+else-mask-eq0 w ↦ io_reserved c.args.value c.args.mask io w.if-value-mask.true w.if-mask-eq0.false
        | else-value-mask-via-else-value-mask w ↦ io_broken c.args.value c.args.mask io w.if-value-mask.false
      ],
    )

pub returns-then-value-mask-2 : goal.returns-then-value-mask-2
returns-then-value-mask-2 c =
    (refl, memory_broken c.args.value c.args.mask (io_of c.args.mask c.from.result c.from.ensures (sym c.is_io.ensures ∙ c.if-is_io.false)) c.if-value-mask-2.true)

pub returns-in-0 : goal.returns-in-0
returns-in-0 c = memory_32 c.args.value c.args.mask (io_of c.args.mask c.from.result c.from.ensures (sym c.is_io.ensures ∙ c.if-is_io.false)) c.if-value-mask-2.false c.in-0.is

pub returns-in-4 : goal.returns-in-4
returns-in-4 c = memory_64 c.args.value c.args.mask (io_of c.args.mask c.from.result c.from.ensures (sym c.is_io.ensures ∙ c.if-is_io.false)) c.if-value-mask-2.false c.in-4.is

pub returns-in_default : goal.returns-in_default
returns-in_default c =
    (refl, memory_reserved c.args.value c.args.mask (io_of c.args.mask c.from.result c.from.ensures (sym c.is_io.ensures ∙ c.if-is_io.false)) c.if-value-mask-2.false (λ e. search rules) (λ e. omega arith))
