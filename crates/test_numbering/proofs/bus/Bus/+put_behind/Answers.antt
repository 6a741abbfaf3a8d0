use Rattle.std.proofs.Common.{◌≡◌, refl, sym, ◌∙◌, ap, subst, false, ◌&&◌}
use Rattle.pci_number.specs.Board.{is_type_1, passes_on, on_bus, behind_bridges}
use Rattle.test_numbering.specs.Tree.{nodes_of, IsPutFirst}
use Rattle.test_numbering.proofs.Firsts.{beyond, beyond_leads, beyond_passes, beyond_ends, put_found, put_none}
use Rattle.test_numbering.proofs.bus.Bus.+put_behind.Goals as goal
use Rattle.test_numbering.proofs.bus.Bus.+put_behind.Goals.{Joined-leads_to, then-leads_to, else-leads_to+then-passes_on, else-leads_to+else-passes_on}

pub returns-in-Empty : goal.returns-in-Empty
returns-in-Empty t c = rw c.in-Empty.is (refl, refl)

-- the function at the front is as it was, and behind it the first node that answers was written to
put : (t : _) (c : Joined-leads_to t) → (c.if-leads_to.self.1.1.0 ≡ c.in-Holds.function)
    × IsPutFirst (nodes_of c.in-Holds.behind.value) (beyond c.in-Holds.function.image (nodes_of c.in-Holds.behind.value) c.args.access) c.args.offset c.if-leads_to.done (nodes_of c.if-leads_to.self.1.1.1.0.value)
put t c =
    let f = c.in-Holds.function in
    let behind = nodes_of c.in-Holds.behind.value in
    let access = c.args.access in
    let offset = c.args.offset in
    elim c.if-leads_to.branch [
      | then-leads_to w ↦
          let ways = beyond_leads f.image behind access c.bus.result c.bus.ensures c.leads_to.result c.leads_to.ensures w.if-leads_to.true in
          rw (w.self-is, w.done-is) (
            refl,
            subst (λ ps. IsPutFirst behind ps offset w.put_here-done.result (nodes_of w.put_here-done.new.self)) (sym ways)
                (subst (λ b. IsPutFirst (nodes_of b) (on_bus (nodes_of b) access) offset w.put_here-done.result (nodes_of w.put_here-done.new.self)) w.deref_mut.ensures.value w.put_here-done.ensures),
          )
      | else-leads_to+then-passes_on w ↦
          let passes = w.passes_on.ensures ∙ ap (λ b. is_type_1 f.image && passes_on f.image b) (w.bus-else-leads_to.ensures ∙ sym c.bus.ensures) in
          let ways = beyond_passes f.image behind access c.bus.result c.bus.ensures c.leads_to.result c.leads_to.ensures w.passes_on.result passes w.if-leads_to.false w.if-passes_on.true in
          rw (w.self-is, w.done-is) (
            refl,
            subst (λ ps. IsPutFirst behind ps offset w.put_behind.result (nodes_of w.put_behind.new.self)) (sym ways)
                (subst (λ b. IsPutFirst (nodes_of b) (behind_bridges (nodes_of b) access) offset w.put_behind.result (nodes_of w.put_behind.new.self)) w.deref_mut-then-passes_on.ensures.value w.put_behind.ensures),
          )
      | else-leads_to+else-passes_on w ↦
          let passes = w.passes_on.ensures ∙ ap (λ b. is_type_1 f.image && passes_on f.image b) (w.bus-else-leads_to.ensures ∙ sym c.bus.ensures) in
          let ways = beyond_ends f.image behind access c.bus.result c.bus.ensures c.leads_to.result c.leads_to.ensures w.passes_on.result passes w.if-leads_to.false w.if-passes_on.false in
          rw (w.self-is, w.done-is) (refl, subst (λ ps. IsPutFirst behind ps offset false behind) (sym ways) (refl, refl))
    ]

pub returns-then-done : goal.returns-then-done
returns-then-done t c =
    let f = c.in-Holds.function in
    let (same, is) = put t (goal.at.returns-then-done t c).Joined-leads_to in
    rw (c.in-Holds.is, same) (put_found f.device f.function f.image (nodes_of c.in-Holds.behind.value) (nodes_of c.in-Holds.others.value) c.args.access c.args.offset
    c.if-leads_to.done (nodes_of c.if-leads_to.self.1.1.1.0.value) c.if-done.true is)

pub returns-else-done : goal.returns-else-done
returns-else-done t c =
    let f = c.in-Holds.function in
    let rest = subst (λ b. IsPutFirst (nodes_of b) (behind_bridges (nodes_of b) c.args.access) c.args.offset c.put_behind-in-Holds.result (nodes_of c.put_behind-in-Holds.new.self)) c.deref_mut-in-Holds.ensures.value c.put_behind-in-Holds.ensures in
    let (same, is) = put t (goal.at.returns-else-done t c).Joined-leads_to in
    rw (c.in-Holds.is, same) (put_none f.device f.function f.image (nodes_of c.in-Holds.behind.value) (nodes_of c.in-Holds.others.value) c.args.access c.args.offset
    c.if-leads_to.done c.put_behind-in-Holds.result (nodes_of c.if-leads_to.self.1.1.1.0.value) (nodes_of c.put_behind-in-Holds.new.self) c.if-done.false is rest)
