use Rattle.pciplan_front.proofs.Explained.{faults_have_headings, told_faults_have_headings, probe_faults_have_headings, plan_faults_have_headings}
use Rattle.pciplan_front.proofs.laws.printed_faults_are_explained.Goals as goal

pub returns-clause-faults : goal.returns-clause-faults
returns-clause-faults c = faults_have_headings

pub returns-clause-told : goal.returns-clause-told
returns-clause-told c = told_faults_have_headings

pub returns-clause-probes : goal.returns-clause-probes
returns-clause-probes c = probe_faults_have_headings

pub returns-clause-plans : goal.returns-clause-plans
returns-clause-plans c = plan_faults_have_headings
