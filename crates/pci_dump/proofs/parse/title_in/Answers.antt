use Rattle.std.proofs.Common.{◌∙◌, ap, ℕ, ◌∷◌, drop}
use Rattle.pci_dump.proofs.Whole.{title_breaks_at, head_at, title_leaves_at}
use Rattle.pci_dump.proofs.Lines.{first_left}
use Rattle.pci_dump.proofs.parse.title_in.Goals as goal
use Rattle.pci_dump.proofs.parse.title_in.Goals.{then-len-eq0-via-then-len-eq0, then-len-eq0-via-else-len-eq0+then-rest-len-ne10}

pub returns-then-len-eq0-clause-err : goal.returns-then-len-eq0-clause-err
returns-then-len-eq0-clause-err c =
    let first = first_left c.args.bytes.now c.in-Some-eq32.field-0.now c.in-Some-eq32.ensures.value ∙ ap (λ (x : ℕ). x ∷ drop 1 c.args.bytes.now) c.in-Some-eq32.field-0-test in
    title_breaks_at c.args.bytes.now _ c.title_len-len.result first c.split_at.ensures.back c.title_len-len.ensures.bound c.title_len-len.ensures.few c.if-len-rest.false c.title_len-len.ensures.each c.title_len-len.ensures.last
    (λ ten. elim c.then-len-eq0.branch [
      | then-len-eq0-via-then-len-eq0 w ↦ w.if-len-eq0.true
      | then-len-eq0-via-else-len-eq0+then-rest-len-ne10 w ↦ absurd (w.if-rest-len-ne10.true ten)
    ])

pub returns-clause-ok : goal.returns-clause-ok
returns-clause-ok c =
    let first = first_left c.args.bytes.now c.in-Some-eq32.field-0.now c.in-Some-eq32.ensures.value ∙ ap (λ (x : ℕ). x ∷ drop 1 c.args.bytes.now) c.in-Some-eq32.field-0-test in
    head_at c.args.bytes.now _ c.title_len-len.result first c.split_at.ensures.back c.title_len-len.ensures.bound c.title_len-len.ensures.few c.if-len-rest.false c.title_len-len.ensures.each c.if-rest-len-ne10.false c.if-len-eq0.false

pub returns-then-len-rest-clause-err : goal.returns-then-len-rest-clause-err
returns-then-len-rest-clause-err c =
    let first = first_left c.args.bytes.now c.in-Some-eq32.field-0.now c.in-Some-eq32.ensures.value ∙ ap (λ (x : ℕ). x ∷ drop 1 c.args.bytes.now) c.in-Some-eq32.field-0-test in
    title_leaves_at c.args.bytes.now _ c.title_len-len.result first c.split_at.ensures.back c.title_len-len.ensures.few c.if-len-rest.true c.title_len-len.ensures.each
