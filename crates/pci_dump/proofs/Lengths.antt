-- A block has at most 1042 bytes.
use Rattle.std.proofs.Common.{◌≡◌, Option, None, Some, ℕ, ◌<◌, ◌≤◌, List, ◌∷◌, arith, sym, ◌∙◌, ap, length}
use Rattle.std.specs.Prelude.{IfSome}
use Rattle.std.proofs.lemmas.List.{length-append, nil_from_length}
use Rattle.pci_spec.specs.Slot.{Slot}
use Rattle.pci_spec.specs.Text.{Block, IsBlock, IsTitle, block_text, title_text}
use Rattle.pci_spec.specs.Stops.{EndsIn}
use Rattle.pci_spec.specs.Form.{rest_cells}
use Rattle.pci_spec.proofs.Forms.{parts_of, fits_length}
use Rattle.pci_dump.proofs.Lines.{rest_long}

title_long : (t : Option (List ℕ)) → IfSome t IsTitle → length (title_text t) ≤ 201
title_long None h = omega arith
title_long (Some t) h = omega (arith, h.1)

pub block_long : (b : Block) → IsBlock b → length (block_text b) ≤ 1042
block_long b h =
    let p = parts_of b h in
    let a = ap length p.text in
    let l = length-append (title_text b.title) (10 ∷ p.rest) in
    let t = title_long b.title h.title in
    let r = fits_length rest_cells p.rest p.fits ∙ rest_long in
    omega (arith, a, l, t, r)

pub ends_short : (last : Option Slot) (bytes : List ℕ) → EndsIn last bytes → length bytes < 1042
ends_short last bytes e =
    let b = block_long e.block e.begun.block in
    let a = ap length (sym e.begun.whole) ∙ length-append bytes e.begun.rest in
    let s : length e.begun.rest ≡ 0 → ⊥ = λ z. e.begun.unfinished (nil_from_length e.begun.rest z) in
    omega (arith, a, b, s)
