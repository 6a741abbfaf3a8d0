use Rattle.pciplan_tasks.proofs.said.bridges_by.Goals as goal

pub returns : goal.returns
returns g c = record {
  legacy = c.in_ok-legacy_by.ensures;
  isa = c.in_ok-isa_by.ensures;
  palette = c.in_ok-palette_by.ensures;
  taking = c.in_ok-taking_by.ensures;
}
