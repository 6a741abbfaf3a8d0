use Rattle.pci_here.proofs.LogForms.{device_or_none, no_end}
use Rattle.pci_here.proofs.log_line.behind_device.Goals as goal

pub returns-in-Some : goal.returns-in-Some
returns-in-Some c =
    device_or_none c.args.text.now c.in_ok-rest.rest (c.in-Some.field-0-0, c.in-Some.more) c.strip_prefix-in-Some.result c.in_ok-rest.ensures.cases
    c.in-Some.ensures.cases c.strip_prefix-in-Some.ensures.cases

pub returns-in-None : goal.returns-in-None
returns-in-None c = no_end c.args.text.now c.in_ok-rest.rest c.in_ok-rest.ensures.cases c.in-None.ensures.cases
