use Rattle.std.proofs.Common.{◌≡◌, ◌∙◌, ap, arith, length, ◌+◌, ◌/◌, ◌%◌, ◌-◌, set}
use Rattle.std.proofs.lemmas.List.{length-set}
use Rattle.judge_spec.specs.Windows.{with_number}
use Rattle.pci_model_settle.proofs.Puts.{byte_put, byte_past}
use Rattle.pci_model_settle.proofs.listed.put_bytes.Goals.{then-place-lt-IMAGE_LEN, else-place-lt-IMAGE_LEN}
use Rattle.pci_model_settle.proofs.listed.put_bytes.Goals as goal

pub loop-j-preserved : goal.loop-j-preserved
loop-j-preserved c =
    let less = c.loop-j-test.true in
    let width = c.args.write.width in
    let off = c.args.write.off in
    let j = c.loop-j.j in
    let rest = c.loop-j.rest in
    let image = c.loop-j.image.0 in
    let first = c.from.ensures in
    let second = c.from-in-loop-j.ensures in
    let place : c.from.result + c.from-in-loop-j.result ≡ off + j = omega (arith, first, second) in
    elim c.if-place-lt-IMAGE_LEN.branch [
      | then-place-lt-IMAGE_LEN w ↦
          let is : c.if-place-lt-IMAGE_LEN.image.0 ≡ set image (off + j) (rest % 256) = ap (λ i. i.0) w.image-is ∙ ap (λ p. set image p (rest % 256)) place in
          record {
            left = ap (with_number (width - (j + 1)) (off + (j + 1)) (rest / 256)) is ∙ byte_put width j off rest image less ∙ c.loop-j.invariant.left;
            long = ap length is ∙ length-set image (off + j) (rest % 256) ∙ c.loop-j.invariant.long;
          }
      | else-place-lt-IMAGE_LEN w ↦
          let is : c.if-place-lt-IMAGE_LEN.image.0 ≡ image = ap (λ i. i.0) w.image-is in
          let far = w.if-place-lt-IMAGE_LEN.false in
          let long = c.loop-j.invariant.long in
          record {
            left = ap (with_number (width - (j + 1)) (off + (j + 1)) (rest / 256)) is ∙ byte_past width j off rest image less (omega (arith, far, place, long)) ∙ c.loop-j.invariant.left;
            long = ap length is ∙ long;
          }
    ]
