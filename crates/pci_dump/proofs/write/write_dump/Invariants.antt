use Rattle.std.proofs.Common.{◌≡◌, take}
use Rattle.std.specs.Io.KnownBytes.{Appends}
use Rattle.pci_spec.specs.Text.{text_of}
use Rattle.pci_dump.proofs.write.write_dump.Given as goal

abbrev pub invariant-loop-block : goal.invariant-loop-block
invariant-loop-block g l = record {
  gone : Appends (g.K.Sink.taken l.initial.sink) (g.K.Sink.taken l.sink) (text_of (take l.block-index l.block-items));
  fine : g.K.Sink.failures l.sink ≡ g.K.Sink.failures l.initial.sink;
}
