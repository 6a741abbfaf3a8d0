use Rattle.std.proofs.Common.{◌+◌, ◌++◌, List, ℕ, take, get_or, refl, ap, sym, ◌∙◌}
use Rattle.std.specs.List.{flat_map}
use Rattle.std.proofs.lemmas.List.{append_assoc, take_all}
use Rattle.pci_picture.specs.Lines.{words_in_line}
use Rattle.pci_picture.specs.Named.{words_of_buses}
use Rattle.pci_picture.specs.Roots.{listed_functions}
use Rattle.pci_picture.specs.Titles.{buses_if_listed, function_of_region, said_of_window}
use Rattle.pci_picture.specs.declared.faults.Naming.{Naming}
use Rattle.pci_picture.proofs.Said.{fault_found, fault_missing, said_more, said_none, said_of_naming, no_window, part_window, window_put}
use Rattle.pci_picture.proofs.board.Board.put_about.Goals as goal
use Rattle.pci_picture.proofs.board.Board.put_about.Goals.{then-eq+in_ok-put+in_ok-put_buses, else-eq, in-Some+in_ok-put-2+in_ok-put_fault, in_default}

pub loop-naming-init : goal.loop-naming-init
loop-naming-init g c =
    let old = c.args.words.now.bytes.items in
    let r = c.args.region.now in
    let words = words_in_line r.line.now in
    let buses = buses_if_listed (function_of_region (listed_functions c.args.self.now.functions.items) words) in
    elim c.if-eq.branch [
      | then-eq+in_ok-put+in_ok-put_buses w ↦
          ap (λ s. s.bytes.items) w.words-is
          ∙ window_put words old w.put.new.self.bytes.items w.put_buses.new.self.bytes.items buses (sym (part_window r.part words r.looks) ∙ sym c.eq.ensures ∙ w.if-eq.true)
          w.in_ok-put.ensures (w.in_ok-put_buses.ensures ∙ ap (λ b. w.put.new.self.bytes.items ++ words_of_buses b) w.buses.ensures)
      | else-eq w ↦
          ap (λ s. s.bytes.items) w.words-is
          ∙ no_window words old buses (sym (part_window r.part words r.looks) ∙ sym c.eq.ensures ∙ w.if-eq.false)
    ]

pub loop-naming-preserved : goal.loop-naming-preserved
loop-naming-preserved g c =
    let faults = c.args.self.now.faults in
    let r = c.args.region.now in
    let words = words_in_line r.line.now in
    let old : List ℕ = c.args.words.now.bytes.items ++ said_of_window words (buses_if_listed (function_of_region (listed_functions c.args.self.now.functions.items) words)) in
    let before = c.loop-naming.words.bytes.items in
    let namings = c.of-naming-items.result.now in
    let index = c.loop-naming.naming-index in
    let none : Naming = record { key = 0; fault = 0 } in
    let naming = get_or namings index none in
    elim c.match-get.branch [
      | in-Some+in_ok-put-2+in_ok-put_fault w ↦
          ap (λ s. s.bytes.items) w.words-is
          ∙ said_more faults namings index naming none w.in-Some.fault.now old before w.put-in-Some.new.self.bytes.items w.put_fault.new.words.bytes.items
          c.loop-naming-test.true refl c.loop-naming.invariant
          (fault_found faults c.deref.result.now naming.fault w.in-Some.fault.now c.deref.ensures.value (w.in-Some.ensures.lookup.0) (w.in-Some.ensures.lookup.1))
          w.in_ok-put-2.ensures w.in_ok-put_fault.ensures
      | in_default w ↦
          ap (λ s. s.bytes.items) w.words-is
          ∙ said_none faults namings index naming none old before c.loop-naming-test.true refl c.loop-naming.invariant
          (fault_missing c.deref.result.now faults.faults.items naming.fault c.deref.ensures.value (w.in_default.ensures.lookup.0))
    ]

pub returns : goal.returns
returns g c =
    let faults = c.args.self.now.faults in
    let r = c.args.region.now in
    let words = words_in_line r.line.now in
    let window = said_of_window words (buses_if_listed (function_of_region (listed_functions c.args.self.now.functions.items) words)) in
    let namings = c.of-naming-items.result.now in
    c.loop-naming.invariant
    ∙ ap (λ l. (c.args.words.now.bytes.items ++ window) ++ flat_map (said_of_naming faults) l)
    (take_all c.loop-naming.naming-index namings c.loop-naming-test.false ∙ c.of-naming-items.ensures)
    ∙ append_assoc c.args.words.now.bytes.items window _
