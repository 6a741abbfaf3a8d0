use Rattle.std.proofs.Common.{subst, sym, ◌∙◌, None, Some, inl, inr}
use Rattle.std.proofs.lemmas.Option.{none-some}
use Rattle.pci_base.specs.Space.{space_of}
use Rattle.pci_map.specs.Ways.{IsFirstAt}
use Rattle.pci_map.proofs.Lefts.{way_here, root_way, left_unless_taken, unled_left, as_judged}
use Rattle.pci_map.proofs.left.is_left.Goals as goal

pub returns-in-None : goal.returns-in-None
returns-in-None g c = λ given t s q tree ways on same at address.
    root_way given t.roots s (space_of c.args.space) q same c.args.bus (way_here given t.roots s c.args.ways.now c.args.bus c.index-ways-bus.result None c.requires c.index-ways-bus.is c.in-None.is ways) on

pub returns-in-None-first_window : goal.returns-in-None-first_window
returns-in-None-first_window g c = λ given t s q tree ways on same at address.
    let space = space_of c.args.space in
    elim (way_here given t.roots s c.args.ways.now c.args.bus c.index-ways-bus.result (Some c.in-Some.windows) c.requires c.index-ways-bus.is c.in-Some.is ways) [
      | inl above ↦ left_unless_taken given t.roots s space q same c.args.bus c.args.address on at above.slot above.bridge tree.one tree.nested c.in-Some.windows.takes (above.windows.takes above.bridge.b above.bridge.leads.0 above.bridge.named)
          (subst (IsFirstAt given t.roots s space above.bridge.b c.args.address) c.in-None-first_window.is
          (c.first_window.ensures.first given t s c.args.bus tree above address))
          c.has_taken.result c.has_taken.ensures
      | inr none ↦ unled_left given t.roots s space q same c.args.bus none.unled on c.args.address c.in-Some.windows.takes none.takes c.has_taken.result c.has_taken.ensures
    ]

pub returns-in-Some-first_window : goal.returns-in-Some-first_window
returns-in-Some-first_window g c = λ given t s q tree ways on same at address.
    let space = space_of c.args.space in
    elim (way_here given t.roots s c.args.ways.now c.args.bus c.index-ways-bus.result (Some c.in-Some.windows) c.requires c.index-ways-bus.is c.in-Some.is ways) [
      | inl above ↦ as_judged given t.roots s space q same c.args.bus c.args.address on at above.slot above.bridge tree.one c.in-Some-first_window.judged
          (subst (IsFirstAt given t.roots s space above.bridge.b c.args.address) c.in-Some-first_window.is
          (c.first_window.ensures.first given t s c.args.bus tree above address))
      | inr none ↦ absurd (none-some c.in-Some-first_window.judged (sym (c.first_window.ensures.none none.io none.memory none.prefetchable) ∙ c.in-Some-first_window.is))
    ]
