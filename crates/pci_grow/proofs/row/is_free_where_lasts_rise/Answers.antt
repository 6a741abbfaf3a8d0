use Rattle.std.proofs.Common.{◌<◌, ◌-◌, inl, inr, arith, sym, ◌∙◌, get_or}
use Rattle.std.proofs.lemmas.Bool.{cases_lt, le-leb, lt-leb}
use Rattle.pci_base.specs.declared.range.Range.{Range}
use Rattle.pci_grow.proofs.FreeBySearch.{free_by, free_if, taken_if}
use Rattle.pci_grow.proofs.row.is_free_where_lasts_rise.Goals as goal

pub returns-then-index-eq0 : goal.returns-then-index-eq0
returns-then-index-eq0 c =
    sym (free_by c.args.row.now c.args.window c.args.last c.first_above-index.result c.first_above-index.ensures.before c.first_above-index.ensures.after
    (λ k d less inside. absurd (let zero_is = c.if-index-eq0.true in let no : ⊥ = omega (arith, zero_is, less) in no)))

pub returns : goal.returns
returns c =
    let index = c.first_above-index.result in
    let nothing : Range = record { first = 0; last = 0 } in
    let some : 0 < index = omega (arith, c.if-index-eq0.false) in
    let last = (get_or c.args.row.now (index - 1) nothing).last in
    let bound = c.first_above-index.ensures.bound in
    elim (cases_lt c.args.window.last last) [
      | inl high ↦ lt-leb last c.args.window.last high
          ∙ sym (taken_if c.args.row.now c.args.window c.args.last index c.first_above-index.ensures.before c.first_above-index.ensures.after nothing some bound high)
      | inr low ↦
          let low_is = le-leb last c.args.window.last (omega (arith, low)) in
          low_is
          ∙ sym (free_if c.args.row.now c.args.window c.args.last index c.first_above-index.ensures.before c.first_above-index.ensures.after c.requires.rising nothing some bound (omega (arith, low)))
    ]
