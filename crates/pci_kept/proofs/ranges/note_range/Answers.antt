use Rattle.std.proofs.Common.{◌≡◌, ◌<◌, ◌+◌, ◌∙◌, ◌&&◌, length, get_or, true, false, ap, sym, subst, refl}
use Rattle.std.proofs.lemmas.Bool.{and_right, and_from}
use Rattle.std.proofs.lemmas.List.{get_or_default}
use Rattle.judge_spec.specs.Told.{ToldRange, IsTold}
use Rattle.judge_spec.specs.ToldRegion.{told_extent}
use Rattle.settle_laws.specs.Order.{level}
use Rattle.pci_kept.specs.declared.rows.Row.{Row}
use Rattle.pci_kept.specs.declared.told_line.ToldLine.{ToldLine}
use Rattle.pci_kept.specs.ApartRows.{is_row_free, IsWithRow}
use Rattle.pci_kept.specs.LineRows.{row_key, line_owner, IsRowOf}
use Rattle.pci_kept.specs.RangePass.{no_told_line, AreRangesPassed}
use Rattle.pci_kept.specs.StandingRanges.{is_free_of}
use Rattle.pci_kept.specs.ToldLines.{unnamed, IsToldLineOf}
use Rattle.pci_kept.proofs.RangeSteps.{passed_by, passed_on}
use Rattle.pci_kept.proofs.ranges.note_range.Goals as goal

pub returns-then-not-is_free-clause-passed : goal.returns-then-not-is_free-clause-passed
returns-then-not-is_free-clause-passed g c = λ q s xs count tree same standing held parts lines ordered turn passed.
    let ranges = c.args.told.now.ranges.now in
    let index = c.args.index in
    let r = c.index-told-index.result in
    let x = turn.x in
    let low : index < length q.told.ranges = subst (λ ys. index < length ys) (sym same) c.requires.index in
    let r_is : r ≡ x.told = c.index-told-index.is ∙ ap (λ ys. get_or ys index r) (sym same) ∙ get_or_default q.told.ranges index r x.told low ∙ turn.is in
    let there : get_or ranges index r ≡ x.told = sym c.index-told-index.is ∙ r_is in
    let line : ToldLine = get_or c.args.told.now.lines.now index no_told_line in
    let known : IsToldLineOf q s (get_or c.args.told.now.ranges.now index r) line = subst (λ t. IsToldLineOf q s t line) (turn.is ∙ sym there) (lines.each index no_told_line x.told low) in
    let told : IsTold q.told.ranges = subst IsTold (sym same) c.requires.told in
    let row : Row = record { key = row_key line.level x.told.space; owner = line_owner x; range = record { first = x.told.first; last = x.told.last } } in
    let row_is : IsRowOf q x row = record { key = ap (λ n. row_key n x.told.space) (known.level ∙ ap (λ (t : ToldRange). level q t.slot.bus) there); owner = refl; range = refl } in
    let off : is_free_of q s c.args.ground.now.parts.rows.now line.level x.told ≡ false =
    sym (c.is_free.ensures q s tree told standing held known ∙ ap (is_free_of q s c.args.ground.now.parts.rows.now line.level) there) ∙ c.if-not-is_free.true in
    passed_by q s xs ordered count turn.within x turn.there index turn.register low c.args.ground.now.parts.rows.now parts row row_is line.level refl c.args.taken.now.items c.args.flags.now passed
    (ap (λ b. b && is_row_free row c.args.taken.now.items) off)

pub returns-then-branch-clause-passed : goal.returns-then-branch-clause-passed
returns-then-branch-clause-passed g c = λ q s xs count tree same standing held parts lines ordered turn passed.
    let index = c.args.index in
    let r = c.index-told-index.result in
    let x = turn.x in
    let low : index < length q.told.ranges = subst (λ ys. index < length ys) (sym same) c.requires.index in
    let r_is : r ≡ x.told = c.index-told-index.is ∙ ap (λ ys. get_or ys index r) (sym same) ∙ get_or_default q.told.ranges index r x.told low ∙ turn.is in
    let there : get_or c.args.told.now.ranges.now index r ≡ x.told = sym c.index-told-index.is ∙ r_is in
    let line : ToldLine = get_or c.args.told.now.lines.now index no_told_line in
    let known : IsToldLineOf q s (get_or c.args.told.now.ranges.now index r) line = subst (λ t. IsToldLineOf q s t line) (turn.is ∙ sym there) (lines.each index no_told_line x.told low) in
    let told : IsTold q.told.ranges = subst IsTold (sym same) c.requires.told in
    let row = c.row_of.result in
    let key_is : row.key ≡ row_key line.level x.told.space = c.row_of.ensures.key ∙ ap (λ (t : ToldRange). row_key line.level t.space) there in
    let row_is : IsRowOf q x row = record {
      key = key_is ∙ ap (λ n. row_key n x.told.space) (known.level ∙ ap (λ (t : ToldRange). level q t.slot.bus) there);
      owner = c.row_of.ensures.owner ∙ ap (λ (t : ToldRange). line_owner (unnamed t)) there;
      range = c.row_of.ensures.range ∙ ap told_extent there;
    } in
    let free : is_free_of q s c.args.ground.now.parts.rows.now line.level x.told ≡ true =
    sym (c.is_free.ensures q s tree told standing held known ∙ ap (is_free_of q s c.args.ground.now.parts.rows.now line.level) there) ∙ c.if-not-is_free.false in
    let put = subst (λ b. IsWithRow b row c.args.taken.now.items c.put_row.new.rows.items) c.if-branch.true c.in_ok-put_row.ensures.put in
    passed_on q s xs ordered count turn.within x turn.there index turn.register low c.args.ground.now.parts.rows.now parts row row_is line.level key_is c.args.taken.now.items c.args.flags.now passed
    c.put_row.new.rows.items put.0 put.1 put.2 (and_from (is_free_of q s c.args.ground.now.parts.rows.now line.level x.told) (is_row_free row c.args.taken.now.items) free (sym c.in_ok-put_row.ensures.free ∙ c.if-branch.true))

pub returns-else-branch-clause-passed : goal.returns-else-branch-clause-passed
returns-else-branch-clause-passed g c = λ q s xs count tree same standing held parts lines ordered turn passed.
    let index = c.args.index in
    let r = c.index-told-index.result in
    let x = turn.x in
    let low : index < length q.told.ranges = subst (λ ys. index < length ys) (sym same) c.requires.index in
    let r_is : r ≡ x.told = c.index-told-index.is ∙ ap (λ ys. get_or ys index r) (sym same) ∙ get_or_default q.told.ranges index r x.told low ∙ turn.is in
    let there : get_or c.args.told.now.ranges.now index r ≡ x.told = sym c.index-told-index.is ∙ r_is in
    let line : ToldLine = get_or c.args.told.now.lines.now index no_told_line in
    let known : IsToldLineOf q s (get_or c.args.told.now.ranges.now index r) line = subst (λ t. IsToldLineOf q s t line) (turn.is ∙ sym there) (lines.each index no_told_line x.told low) in
    let row = c.row_of.result in
    let key_is : row.key ≡ row_key line.level x.told.space = c.row_of.ensures.key ∙ ap (λ (t : ToldRange). row_key line.level t.space) there in
    let row_is : IsRowOf q x row = record {
      key = key_is ∙ ap (λ n. row_key n x.told.space) (known.level ∙ ap (λ (t : ToldRange). level q t.slot.bus) there);
      owner = c.row_of.ensures.owner ∙ ap (λ (t : ToldRange). line_owner (unnamed t)) there;
      range = c.row_of.ensures.range ∙ ap told_extent there;
    } in
    let kept = subst (λ b. IsWithRow b row c.args.taken.now.items c.put_row.new.rows.items) c.if-branch.false c.in_ok-put_row.ensures.put in
    subst (λ ys. AreRangesPassed q s xs (count + 1) ys c.args.flags.now) (sym kept)
    (passed_by q s xs ordered count turn.within x turn.there index turn.register low c.args.ground.now.parts.rows.now parts row row_is line.level key_is c.args.taken.now.items c.args.flags.now passed
    (and_right (is_free_of q s c.args.ground.now.parts.rows.now line.level x.told) (is_row_free row c.args.taken.now.items) (sym c.in_ok-put_row.ensures.free ∙ c.if-branch.false)))
