use Rattle.std.proofs.lemmas.Result.{on_ok_weaker}
use Rattle.pci_picture.proofs.Named.{buses_put}
use Rattle.pci_picture.proofs.words.Words.put_buses.Goals as goal

pub returns-in_ok-put-in-Some-3 : goal.returns-in_ok-put-in-Some-3
returns-in_ok-put-in-Some-3 g c =
    let old = c.args.self.now.bytes.items in
    let one = c.put-else-buses.new.self.bytes.items in
    let two = c.put_hex-else-buses.new.self.bytes.items in
    let three = c.put-else-buses-2.new.self.bytes.items in
    on_ok_weaker c.put_hex-else-buses-2.result
    (buses_put old one two three c.put_hex-else-buses-2.new.self.bytes.items c.args.buses c.in-Some.buses c.from-else-buses.result c.from-else-buses-2.result
    c.in-Some.is c.if-buses-ne0.true c.if-buses.false c.from-else-buses.ensures c.from-else-buses-2.ensures
    c.in_ok-put-in-Some-2.ensures c.in_ok-put_hex-in-Some.ensures c.in_ok-put-in-Some-3.ensures)
    c.put_hex-else-buses-2.ensures
