use Rattle.pci_map.proofs.ways.windows_of.Goals as goal

pub returns : goal.returns
returns g c = λ s tree ways. record {
  io = c.in_ok-io.ensures s tree ways;
  memory = c.in_ok-memory.ensures s tree ways;
  prefetchable = c.in_ok-prefetchable.ensures s tree ways;
  takes = c.in_ok-takes.ensures s tree;
}
