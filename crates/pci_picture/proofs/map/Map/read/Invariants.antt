use Rattle.std.proofs.Common.{◌≡◌, fold, map}
use Rattle.pci_picture.specs.Depths.{KnowsDepths, reading_of}
use Rattle.pci_picture.specs.Headings.{at_begin, read_on}
use Rattle.pci_picture.specs.Maps.{IsReadOf}
use Rattle.pci_picture.proofs.map.Map.read.Given as goal

abbrev pub invariant-loop-line : goal.invariant-loop-line
invariant-loop-line g l = record {
  read : IsReadOf (map (λ x. x.now) l.yielded) l.reader.map;
  reading : reading_of l.reader ≡ fold read_on at_begin (map (λ x. x.now) l.yielded);
  chained : KnowsDepths l.reader;
}
