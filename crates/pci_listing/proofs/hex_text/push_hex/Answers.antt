use Rattle.std.proofs.Common.{◌-◌, ◌*◌, ◌/◌, ◌%◌, ◌^◌, refl}
use Rattle.std.specs.String.{string_bytes}
use Rattle.pci_listing.proofs.HexPushes.{digit_more}
use Rattle.pci_listing.proofs.hex_text.push_hex.Goals as goal

pub loop-done-preserved : goal.loop-done-preserved
loop-done-preserved g c =
    digit_more (string_bytes c.args.text.now) (string_bytes c.loop-done.text) (string_bytes c.push_digit.new.text) c.args.number c.args.digits c.loop-done.done
    (c.args.number / 2 ^ (4 * (c.args.digits - 1 - c.loop-done.done)) % 16) c.loop-done-test.true c.loop-done.invariant refl
    c.in_ok-push_digit.ensures
