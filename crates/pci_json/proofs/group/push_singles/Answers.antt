use Rattle.std.proofs.Common.{rules, ◌∙◌, ap, sym}
use Rattle.pci_json.specs.Lines.{lines_of_text, content_of}
use Rattle.pci_json.specs.Members.{with_members}
use Rattle.pci_json.proofs.Steps.{no_parts, inner_more, inner_end, step_members, members_done}
use Rattle.pci_json.specs.Groups.{inner_of, singles, single_members}
use Rattle.pci_json.proofs.group.push_singles.Goals as goal

pub loop-rest-preserved : goal.loop-rest-preserved
loop-rest-preserved g c = record {
  text = search rules;
  written =
      let deeper = inner_more (lines_of_text c.loop-rest.rest.now) (lines_of_text c.cut.result.1.now) c.cut.result.0.now c.cut.ensures.parts (sym c.is_inner.ensures ∙ c.if-not-is_inner.false) in
      step_members c.loop-rest.out c.push_single.new.out (with_members c.args.out.now (singles (inner_of (lines_of_text c.args.text.now)))) (singles (inner_of (lines_of_text c.loop-rest.rest.now))) (single_members (content_of c.cut.result.0.now)) (singles (inner_of (lines_of_text c.cut.result.1.now))) (ap (singles) deeper)
      (c.in_ok-push_single.ensures ∙ ap (λ l. with_members c.loop-rest.out (single_members l)) c.content.ensures) c.loop-rest.invariant.written;
}

pub returns-then-not-is_inner : goal.returns-then-not-is_inner
returns-then-not-is_inner g c =
    let ended = inner_end (lines_of_text c.loop-rest.rest.now) (lines_of_text c.cut.result.1.now) c.cut.result.0.now c.cut.ensures.parts (sym c.is_inner.ensures ∙ c.if-not-is_inner.true) in
    members_done c.loop-rest.out (with_members c.args.out.now (singles (inner_of (lines_of_text c.args.text.now)))) (singles (inner_of (lines_of_text c.loop-rest.rest.now))) (ap (singles) ended) c.loop-rest.invariant.written

pub returns : goal.returns
returns g c = members_done c.loop-rest.out (with_members c.args.out.now (singles (inner_of (lines_of_text c.args.text.now)))) (singles (inner_of (lines_of_text c.loop-rest.rest.now))) (ap (λ ls. singles (inner_of ls)) (no_parts 10 c.loop-rest.rest.now c.is_empty.result c.is_empty.ensures c.loop-rest-test.false)) c.loop-rest.invariant.written
