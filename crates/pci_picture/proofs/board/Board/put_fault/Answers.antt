use Rattle.std.proofs.Common.{◌≡◌, ◌-◌, ◌++◌, ℕ, List, Bor, drop, length, map, ap, ◌∙◌, arith}
use Rattle.std.proofs.lemmas.List.{length-map}
use Rattle.pci_picture.specs.Said.{said_lines}
use Rattle.pci_picture.proofs.Said.{line_first, line_next, range_of_map}
use Rattle.pci_picture.proofs.board.Board.put_fault.Goals as goal
use Rattle.pci_picture.proofs.board.Board.put_fault.Goals.{then-index-fault+in_ok-put, else-index-fault}

pub loop-index-preserved : goal.loop-index-preserved
loop-index-preserved g c =
    let items = c.args.self.now.faults.lines.items in
    let lines = map (λ (line : Bor (List ℕ)). line.now) items in
    let long : length lines ≡ length items = length-map items (λ line. line.now) in
    let begin = c.args.fault.now.begin in
    let index = c.loop-index.index in
    let start = c.args.words.now.bytes.items in
    let before = c.loop-index.words.bytes.items in
    let after = c.put-in-loop-index.new.self.bytes.items in
    record {
      from = omega (arith, c.loop-index.invariant.from);
      to = omega (arith, c.loop-index.invariant.to);
      said = λ inside.
          elim c.if-index-fault.branch [
            | then-index-fault+in_ok-put w ↦
                line_next lines begin index c.line.result.now start before w.put.new.self.bytes.items after
                (omega (arith, c.loop-index.invariant.from, w.if-index-fault.true)) (omega (arith, long, inside)) c.line.ensures
                (c.loop-index.invariant.said inside) w.in_ok-put.ensures
                (c.in_ok-put-2.ensures ∙ ap (λ w. w.bytes.items ++ c.line.result.now) w.words-is)
            | else-index-fault w ↦
                line_first lines begin index c.line.result.now start before after
                w.if-index-fault.false (omega (arith, long, inside)) c.line.ensures
                (c.loop-index.invariant.said inside)
                (c.in_ok-put-2.ensures ∙ ap (λ w. w.bytes.items ++ c.line.result.now) w.words-is)
          ];
    }

pub returns : goal.returns
returns g c = λ inside.
    let same : c.loop-index.index - c.args.fault.now.begin ≡ c.args.fault.now.end - c.args.fault.now.begin =
    omega (arith, c.loop-index.invariant.to, c.loop-index.invariant.from) in
    c.loop-index.invariant.said inside
    ∙ ap (λ l. c.args.words.now.bytes.items ++ drop 1 (said_lines l))
    (range_of_map (λ (line : Bor (List ℕ)). line.now) c.args.self.now.faults.lines.items c.args.fault.now.begin c.loop-index.index c.args.fault.now.end same)
