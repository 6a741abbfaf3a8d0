use Rattle.std.proofs.Common.{◌≡◌, refl, sym, ◌∙◌, ap, ◌&&◌}
use Rattle.pci_number.specs.Board.{is_type_1, passes_on, on_bus, behind_bridges}
use Rattle.test_numbering.specs.Tree.{nodes_of, first_byte}
use Rattle.test_numbering.proofs.Firsts.{beyond, beyond_leads, beyond_passes, beyond_ends, byte_found, byte_none}
use Rattle.test_numbering.proofs.bus.Bus.+byte_behind.Goals as goal
use Rattle.test_numbering.proofs.bus.Bus.+byte_behind.Goals.{Joined-leads_to, then-leads_to, else-leads_to+then-passes_on, else-leads_to+else-passes_on}

pub returns-in-Empty : goal.returns-in-Empty
returns-in-Empty t c = rw c.in-Empty.is refl

-- what was found is the byte of the first node behind the function that answers
found : (t : _) (c : Joined-leads_to t) → first_byte (nodes_of c.in-Holds.behind.value) (beyond c.in-Holds.function.image (nodes_of c.in-Holds.behind.value) c.args.access) c.args.offset ≡ c.if-leads_to.found
found t c =
    let f = c.in-Holds.function in
    let behind = nodes_of c.in-Holds.behind.value in
    let access = c.args.access in
    let offset = c.args.offset in
    elim c.if-leads_to.branch [
      | then-leads_to w ↦ ap (λ ps. first_byte behind ps offset) (beyond_leads f.image behind access c.bus.result c.bus.ensures c.leads_to.result c.leads_to.ensures w.if-leads_to.true)
          ∙ ap (λ b. first_byte (nodes_of b) (on_bus (nodes_of b) access) offset) (sym w.deref.ensures) ∙ sym w.byte_here-found.ensures ∙ sym w.found-is
      | else-leads_to+then-passes_on w ↦
          let passes = w.passes_on.ensures ∙ ap (λ b. is_type_1 f.image && passes_on f.image b) (w.bus-else-leads_to.ensures ∙ sym c.bus.ensures) in
          ap (λ ps. first_byte behind ps offset) (beyond_passes f.image behind access c.bus.result c.bus.ensures c.leads_to.result c.leads_to.ensures w.passes_on.result passes w.if-leads_to.false w.if-passes_on.true)
          ∙ ap (λ b. first_byte (nodes_of b) (behind_bridges (nodes_of b) access) offset) (sym w.deref-then-passes_on.ensures) ∙ sym w.byte_behind.ensures ∙ sym w.found-is
      | else-leads_to+else-passes_on w ↦
          let passes = w.passes_on.ensures ∙ ap (λ b. is_type_1 f.image && passes_on f.image b) (w.bus-else-leads_to.ensures ∙ sym c.bus.ensures) in
          ap (λ ps. first_byte behind ps offset) (beyond_ends f.image behind access c.bus.result c.bus.ensures c.leads_to.result c.leads_to.ensures w.passes_on.result passes w.if-leads_to.false w.if-passes_on.false)
          ∙ sym w.found-is
    ]

pub returns-in-Some : goal.returns-in-Some
returns-in-Some t c =
    let f = c.in-Holds.function in
    rw c.in-Holds.is (sym (byte_found f.device f.function f.image (nodes_of c.in-Holds.behind.value) (nodes_of c.in-Holds.others.value) c.args.access c.args.offset c.in-Some.byte
    (found t (goal.at.returns-in-Some t c).Joined-leads_to ∙ c.in-Some.is)))

pub returns-in-None : goal.returns-in-None
returns-in-None t c =
    let f = c.in-Holds.function in
    rw c.in-Holds.is (c.byte_behind-in-None.ensures ∙ ap (λ b. first_byte (nodes_of b) (behind_bridges (nodes_of b) c.args.access) c.args.offset) c.deref-in-None.ensures
    ∙ sym (byte_none f.device f.function f.image (nodes_of c.in-Holds.behind.value) (nodes_of c.in-Holds.others.value) c.args.access c.args.offset
    (found t (goal.at.returns-in-None t c).Joined-leads_to ∙ c.in-None.is)))
