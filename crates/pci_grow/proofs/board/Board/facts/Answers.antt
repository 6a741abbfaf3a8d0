use Rattle.std.proofs.Common.{rules, ◌≡◌, ap, refl, sym, ◌∙◌}
use Rattle.std.specs.Option.{is_some}
use Rattle.pci_function.specs.declared.record.Record.{Record}
use Rattle.pci_image.specs.Windows.{window_of}
use Rattle.pci_grow.specs.Board.{window_class}
use Rattle.pci_grow.proofs.Facts.{facts_are, no_facts}
use Rattle.pci_grow.proofs.board.Board.facts.Goals as goal

pub returns-in-None : goal.returns-in-None
returns-in-None c = λ q s asked. no_facts q s c.args.self.now asked c.args.window c.index-self-window.result c.requires c.index-self-window.is (ap (λ (r : Record). r.bridge) c.index-self-window.is ∙ c.in-None.is)

pub returns-in-Some : goal.returns-in-Some
returns-in-Some c = λ q s asked.
    let there : c.is_some.result ≡ is_some (window_of c.in-Some.bridge.windows (window_class c.args.window)) = search rules in
    facts_are q s c.args.self.now asked c.args.window c.index-self-window.result c.requires c.index-self-window.is c.in-Some.bridge (ap (λ (r : Record). r.bridge) c.index-self-window.is ∙ c.in-Some.is) _ (c.bus.ensures ∙ sym (ap (λ (r : Record). r.slot.bus) c.index-self-window.is)) refl there c.flag_of.ensures c.highest_in.ensures
