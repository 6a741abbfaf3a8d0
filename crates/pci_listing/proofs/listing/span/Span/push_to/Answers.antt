use Rattle.std.proofs.Common.{◌≡◌, ◌++◌, OnOk, sym, subst}
use Rattle.std.specs.String.{string_bytes}
use Rattle.pci_base.specs.declared.space.Space.{Space}
use Rattle.pci_listing.specs.Spans.{span_text}
use Rattle.pci_listing.proofs.listing.span.Span.push_to.Goals as goal

pub returns-in-Io : goal.returns-in-Io
returns-in-Io g c =
    subst (λ (s : Space). OnOk c.push_range.result (string_bytes c.push_range.new.text ≡ string_bytes c.args.text.now ++ span_text (record { space = s; range = c.args.self.range }))) (sym c.in-Io.is)
    c.push_range.ensures

pub returns-in-Mem : goal.returns-in-Mem
returns-in-Mem g c =
    subst (λ (s : Space). OnOk c.push_range-in-Mem.result (string_bytes c.push_range-in-Mem.new.text ≡ string_bytes c.args.text.now ++ span_text (record { space = s; range = c.args.self.range }))) (sym c.in-Mem.is)
    c.push_range-in-Mem.ensures
