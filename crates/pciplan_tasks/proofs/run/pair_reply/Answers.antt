use Rattle.pciplan_tasks.proofs.run.pair_reply.Goals as goal

pub returns-in-Faults : goal.returns-in-Faults
returns-in-Faults g c = rw c.in-Faults.is c.faults_by.ensures.told

pub returns-in-Map : goal.returns-in-Map
returns-in-Map g c = rw c.in-Map.is c.map_by.ensures
