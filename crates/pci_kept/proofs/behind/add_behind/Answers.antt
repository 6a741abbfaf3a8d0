use Rattle.std.proofs.Common.{◌∙◌, inl, inr, sym, subst}
use Rattle.std.proofs.lemmas.Bool.{ltb-true}
use Rattle.pci_base.specs.WindowKinds.{kind_value}
use Rattle.pci_first_fit.specs.declared.item.Part.{Part as CodePart}
use Rattle.pci_kept.specs.Behind.{AreAddedBehind}
use Rattle.pci_kept.proofs.BehindItems.{read_at, as_part, added_no_bar, added_no_rom, added_no_bridge, added_bridge}
use Rattle.pci_kept.proofs.behind.add_behind.Goals as goal

pub returns-in-Bar : goal.returns-in-Bar
returns-in-Bar g c =
    let own = c.args.item.now in
    let class = kind_value c.args.class in
    let old = c.args.behind.now.items in
    let records = c.args.records.now in
    let lines = c.args.lines.now in
    elim c.in-Bar.is [
      | inl bar ↦
          subst (λ (p : CodePart). AreAddedBehind records lines class (as_part records lines class own.function own.extent old p) old old) (sym bar.1)
          (added_no_bar records lines class own.function own.extent old bar.0)
      | inr rom ↦
          subst (λ (p : CodePart). AreAddedBehind records lines class (as_part records lines class own.function own.extent old p) old old) (sym rom)
          (added_no_rom records lines class own.function own.extent old)
    ]

pub returns-in_default-bridge : goal.returns-in_default-bridge
returns-in_default-bridge g c =
    let own = c.args.item.now in
    let class = kind_value c.args.class in
    let old = c.args.behind.now.items in
    let records = c.args.records.now in
    let lines = c.args.lines.now in
    subst (λ (p : CodePart). AreAddedBehind records lines class (as_part records lines class own.function own.extent old p) old old) (sym c.in-Window.is)
    (added_no_bridge records lines class own.function own.extent old c.in-Some.record.now (read_at records own.function c.in-Some.record.now (ltb-true _ _ (sym c.in-Some.ensures.lookup.0)) c.in-Some.ensures.lookup.1) c.in_default-bridge.is)

pub returns-in_ok-add_lines_behind-in-Window : goal.returns-in_ok-add_lines_behind-in-Window
returns-in_ok-add_lines_behind-in-Window g c =
    let own = c.args.item.now in
    let class = kind_value c.args.class in
    let old = c.args.behind.now.items in
    let new = c.add_lines_behind.new.out.items in
    let records = c.args.records.now in
    let lines = c.args.lines.now in
    subst (λ (p : CodePart). AreAddedBehind records lines class (as_part records lines class own.function own.extent old p) old new) (sym c.in-Window.is)
    (added_bridge records lines class own.function own.extent old c.in-Some.record.now (read_at records own.function c.in-Some.record.now (ltb-true _ _ (sym c.in-Some.ensures.lookup.0)) c.in-Some.ensures.lookup.1) c.in-Some-bridge.bridge c.in-Some-bridge.is new
    (λ q f kind are to up same. c.in_ok-add_lines_behind-in-Window.ensures.added q f kind are to up (same ∙ sym c.of.ensures)))
