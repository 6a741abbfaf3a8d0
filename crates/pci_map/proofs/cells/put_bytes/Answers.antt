use Rattle.std.proofs.Common.{◌-◌, ◌*◌, ◌/◌, ◌%◌, ◌^◌, refl, arith}
use Rattle.pci_map.proofs.HexBytes.{bytes_more}
use Rattle.pci_map.proofs.cells.put_bytes.Goals as goal

pub loop-done-preserved : goal.loop-done-preserved
loop-done-preserved c =
    let pushed = c.put_byte.ensures in
    let before = c.loop-done.invariant in record {
      text = bytes_more c.args.cells.now.items c.loop-done.cells.items c.put_byte.new.cells.items c.args.number c.args.bytes c.loop-done.done
          (c.args.number / 2 ^ (8 * (c.args.bytes - 1 - c.loop-done.done)) % 256) c.loop-done-test.true before.text refl pushed.text;
      len = omega (arith, pushed.len, before.len);
    }
