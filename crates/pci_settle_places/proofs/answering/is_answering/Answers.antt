use Rattle.std.proofs.Common.{rules, ◌≡◌, ◌≤◌, arith, length, get_or, false, ◌&&◌, refl, sym, ◌∙◌, ap, subst}
use Rattle.judge_spec.specs.Told.{ToldRange, IsTold}
use Rattle.pci_base.specs.Space.{space_of}
use Rattle.pci_settle_places.specs.Answers.{is_command_in, is_answering}
use Rattle.pci_settle_places.proofs.AnsweringFunctions.{none_below, none_next, none_after, none_answers, one_answers, answers_here, not_here}
use Rattle.pci_settle_places.proofs.answering.is_answering.Goals as goal
use Rattle.pci_settle_places.proofs.answering.is_answering.Goals.{else-stands-via-then-stands+else-is_command_in, else-stands-via-else-stands}

pub loop-index-init : goal.loop-index-init
loop-index-init c = record {
  to = c.first_of_slot-index.ensures.bound;
  after = c.first_of_slot-index.ensures.after;
  none = none_below c.as_slice-ranges.result.now c.args.answering.now.standing.now (space_of c.args.space) c.args.slot c.first_of_slot-index.result c.first_of_slot-index.ensures.bound c.first_of_slot-index.ensures.before;
}

pub returns-then-ne : goal.returns-then-ne
returns-then-ne c =
    let ranges = c.as_slice-ranges.result.now in
    let standing = c.args.answering.now.standing.now in
    let space = space_of c.args.space in
    let told = subst IsTold (sym c.as_slice-ranges.ensures.value) c.as_slice-ranges.ensures.told in
    none_answers ranges standing space c.args.slot (length ranges) (let e : length ranges ≤ length ranges = omega arith in e)
    (none_after ranges standing space c.args.slot c.loop-index.index c.index-ranges-index.result told c.first_of_slot-index.ensures.lawful c.loop-index-test.true c.index-ranges-index.is c.loop-index.invariant.after (λ same. search (rules, same)) c.loop-index.invariant.none)
    ∙ ap (λ xs. is_answering xs standing space c.args.slot) c.as_slice-ranges.ensures.value

pub loop-index-preserved : goal.loop-index-preserved
loop-index-preserved c =
    let ranges = c.as_slice-ranges.result.now in
    let standing = c.args.answering.now.standing.now in
    let space = space_of c.args.space in
    let index = c.loop-index.index in
    let within = c.loop-index-test.true in
    let r : ToldRange = c.index-ranges-index.result in
    let here : r.slot ≡ c.args.slot = search rules in
    let off : (get_or standing index false && is_command_in space r) ≡ false = elim c.else-stands.branch [
      | else-stands-via-then-stands+else-is_command_in w ↦ ap (λ b. b && is_command_in space r) w.if-stands.true ∙ sym w.is_command_in.ensures ∙ w.if-is_command_in.false
      | else-stands-via-else-stands w ↦ ap (λ b. b && is_command_in space r) w.if-stands.false
    ] in
    record {
      to = omega (arith, within);
      after = λ k d low high. c.loop-index.invariant.after k d (omega (arith, low)) high;
      none = none_next ranges standing space c.args.slot index c.loop-index.invariant.none (not_here ranges standing space c.args.slot index within r c.index-ranges-index.is here (get_or standing index false) refl off);
    }

pub returns-then-is_command_in : goal.returns-then-is_command_in
returns-then-is_command_in c =
    let ranges = c.as_slice-ranges.result.now in
    let standing = c.args.answering.now.standing.now in
    let space = space_of c.args.space in
    let index = c.loop-index.index in
    let within = c.loop-index-test.true in
    let r : ToldRange = c.index-ranges-index.result in
    let here : r.slot ≡ c.args.slot = search rules in
    one_answers ranges standing space c.args.slot index within
    (answers_here ranges standing space c.args.slot index within r c.index-ranges-index.is here (get_or standing index false) refl c.if-stands.true (sym c.is_command_in.ensures ∙ c.if-is_command_in.true))
    ∙ ap (λ xs. is_answering xs standing space c.args.slot) c.as_slice-ranges.ensures.value

pub returns : goal.returns
returns c =
    let ranges = c.as_slice-ranges.result.now in
    let standing = c.args.answering.now.standing.now in
    let space = space_of c.args.space in
    none_answers ranges standing space c.args.slot c.loop-index.index c.loop-index-test.false c.loop-index.invariant.none
    ∙ ap (λ xs. is_answering xs standing space c.args.slot) c.as_slice-ranges.ensures.value
