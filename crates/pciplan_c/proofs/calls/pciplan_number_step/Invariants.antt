use Rattle.pciplan_c.proofs.calls.pciplan_number_step.Given as goal

abbrev pub ghost-next_access : goal.ghost-next_access
ghost-next_access g a = g.world'
