use Rattle.std.proofs.Common.{◌∙◌, inl, inr, ap, sym, subst, refl}
use Rattle.pci_function.specs.declared.record.Record.{Record}
use Rattle.pci_first_fit.specs.declared.item.Part.{Part as CodePart}
use Rattle.pci_settle_places.specs.Taken.{AreBehindOne}
use Rattle.pci_settle_places.proofs.TakenBeside.{as_part, behind_no_bar, behind_no_rom, behind_no_bridge, behind_bridge}
use Rattle.pci_settle_places.proofs.behind.behind_one.Goals as goal

pub returns-in-Bar : goal.returns-in-Bar
returns-in-Bar g c =
    let own = c.args.candidate.now in
    let records = c.args.records.now in
    let lines = c.args.staying.now.lines.now in
    let ranges = c.args.ranges.now in
    let found = c.new.result.items in
    elim c.in-Bar.is [
      | inl bar ↦
          subst (λ (p : CodePart). AreBehindOne records lines ranges (as_part records lines ranges own.class own.item.function own.item.extent found p) found) (sym bar.1)
          (behind_no_bar records lines ranges own.class own.item.function own.item.extent found bar.0 c.new.ensures.items)
      | inr rom ↦
          subst (λ (p : CodePart). AreBehindOne records lines ranges (as_part records lines ranges own.class own.item.function own.item.extent found p) found) (sym rom)
          (behind_no_rom records lines ranges own.class own.item.function own.item.extent found c.new.ensures.items)
    ]

pub returns-in-None : goal.returns-in-None
returns-in-None g c =
    let own = c.args.candidate.now in
    let records = c.args.records.now in
    let lines = c.args.staying.now.lines.now in
    let ranges = c.args.ranges.now in
    let found = c.new-in-None.result.items in
    subst (λ (p : CodePart). AreBehindOne records lines ranges (as_part records lines ranges own.class own.item.function own.item.extent found p) found) (sym c.in-Window.is)
    (behind_no_bridge records lines ranges own.class own.item.function own.item.extent found c.index-records-item.result c.requires.within c.index-records-item.is (ap (λ (x : Record). x.bridge) c.index-records-item.is ∙ c.in-None.is))

pub returns-in_ok-found-in-Some : goal.returns-in_ok-found-in-Some
returns-in_ok-found-in-Some g c =
    let own = c.args.candidate.now in
    let records = c.args.records.now in
    let lines = c.args.staying.now.lines.now in
    let ranges = c.args.ranges.now in
    let found = c.in_ok-found-in-Some.found.items in
    subst (λ (p : CodePart). AreBehindOne records lines ranges (as_part records lines ranges own.class own.item.function own.item.extent found p) found) (sym c.in-Window.is)
    (behind_bridge records lines ranges own.class own.item.function own.item.extent found c.index-records-item.result c.requires.within c.index-records-item.is c.in-Some.bridge (ap (λ (x : Record). x.bridge) c.index-records-item.is ∙ c.in-Some.is)
    _ refl c.of-space.ensures refl (c.in_ok-found-in-Some.ensures lines c.requires.stretches))
