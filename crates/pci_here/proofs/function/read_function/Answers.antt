use Rattle.std.proofs.Common.{string_bytes, inr, sym, subst}
use Rattle.std.specs.List.{All}
use Rattle.pci_here.specs.Link.{IsNoHostFolder, folders}
use Rattle.pci_here.specs.Resource.{AreFirstLines}
use Rattle.pci_here.proofs.Read.{shown_then}
use Rattle.pci_here.proofs.function.read_function.Goals as goal

pub returns-in_default : goal.returns-in_default
returns-in_default g c =
    let none = rw c.in_default.is at c.lines_of.ensures in
    shown_then (g.M.Machine.shown c.args.machine.now) _ _
    (λ m told. inr (string_bytes c.in_ok-resource.resource, told, λ lines are. none lines (subst (λ t. AreFirstLines t lines) (sym c.as_str.ensures.value) are)))
    c.in_ok-resource.ensures

pub returns-in_default-host_bus_of : goal.returns-in_default-host_bus_of
returns-in_default-host_bus_of g c =
    let none = rw c.in_default-host_bus_of.is at c.host_bus_of.ensures in
    shown_then (g.M.Machine.shown c.args.machine.now) _ _
    (λ m told. (string_bytes c.in_ok-path.path, told, subst (λ t. All IsNoHostFolder (folders t)) c.as_str-2.ensures.value none))
    c.in_ok-path.ensures
