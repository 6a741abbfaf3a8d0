use Rattle.std.proofs.Common.{◌||◌, sym, ap, ◌∙◌}
use Rattle.std.proofs.lemmas.Bool.{or_left}
use Rattle.pci_spec.specs.Window.{IoWindow, MemoryWindow, PrefetchWindow}
use Rattle.settle_spec.specs.Stands.{is_listed, is_in_lists}
use Rattle.pci_base.specs.Ranges.{decoded_range_of}
use Rattle.pci_base.specs.Space.{space_of}
use Rattle.pci_first_fit.specs.Lists.{lists_value}
use Rattle.pci_first_fit.proofs.Walks.{listed_is}
use Rattle.pci_first_fit.proofs.list.Lists.hold.Goals as goal

pub returns-in-Io : goal.returns-in-Io
returns-in-Io c = λ q same.
    c.is_listed.ensures ∙ listed_is q (lists_value c.args.self.now) same c.args.bus (decoded_range_of c.args.range) IoWindow
    ∙ ap (λ x. is_in_lists q c.args.bus (decoded_range_of c.args.range) (space_of x)) (sym c.in-Io.is)

pub returns-then-is_listed : goal.returns-then-is_listed
returns-then-is_listed c = λ q same.
    let first = c.is_listed-in-Mem.ensures ∙ listed_is q (lists_value c.args.self.now) same c.args.bus (decoded_range_of c.args.range) MemoryWindow in
    c.if-is_listed.true
    ∙ sym (or_left (is_listed q c.args.bus (decoded_range_of c.args.range) MemoryWindow) (is_listed q c.args.bus (decoded_range_of c.args.range) PrefetchWindow) (sym first ∙ c.if-is_listed.true))
    ∙ ap (λ x. is_in_lists q c.args.bus (decoded_range_of c.args.range) (space_of x)) (sym c.in-Mem.is)

pub returns-else-is_listed : goal.returns-else-is_listed
returns-else-is_listed c = λ q same.
    let first = c.is_listed-in-Mem.ensures ∙ listed_is q (lists_value c.args.self.now) same c.args.bus (decoded_range_of c.args.range) MemoryWindow in
    c.is_listed-else-is_listed.ensures ∙ listed_is q (lists_value c.args.self.now) same c.args.bus (decoded_range_of c.args.range) PrefetchWindow
    ∙ sym (ap (λ b. b || is_listed q c.args.bus (decoded_range_of c.args.range) PrefetchWindow) (sym first ∙ c.if-is_listed.false))
    ∙ ap (λ x. is_in_lists q c.args.bus (decoded_range_of c.args.range) (space_of x)) (sym c.in-Mem.is)
