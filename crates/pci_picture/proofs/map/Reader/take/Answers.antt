use Rattle.std.proofs.Common.{arith, ◌≡◌, refl, sym, ap, subst, ◌∙◌}
use Rattle.std.proofs.lemmas.Result.{on_ok_weaker}
use Rattle.pci_picture.specs.Depths.{reading_of}
use Rattle.pci_picture.specs.Headings.{reading_at, top_behind}
use Rattle.pci_picture.specs.Maps.{TakesUp}
use Rattle.pci_picture.proofs.Depths.{stands_within}
use Rattle.pci_picture.proofs.Headings.{outer_top, own_top, read_region, region_behind}
use Rattle.pci_picture.proofs.Taken.{content_one_line}
use Rattle.pci_picture.proofs.map.Reader.take.Given.{Over}
use Rattle.pci_picture.proofs.map.Reader.take.Goals.{then-depth-eq1, else-depth-eq1}
use Rattle.pci_picture.proofs.map.Reader.take.Goals as goal

pub region_of-requires : goal.region_of-requires
region_of-requires g c = content_one_line c.args.line.now c.stripped.result.now c.requires c.stripped.ensures

top_now : (g : Over) (c : goal.After-put g) → c.if-depth-eq1.self ≡ top_behind (reading_of c.args.self.now) c.in-Some.region.depth c.in-Some.region.line.now
top_now g c = elim c.if-depth-eq1.branch [
  | then-depth-eq1 w ↦ own_top (reading_of c.args.self.now) c.in-Some.region _ (let deep = c.in-Some.ensures.depth in omega (arith, deep, w.if-depth-eq1)) w.self-is
  | else-depth-eq1 w ↦
      outer_top (reading_of c.args.self.now) c.in-Some.region _ (λ one. (let deep = c.in-Some.ensures.depth in omega (arith, deep, one, w.if-depth-eq1))) w.self-is
]

pub returns-after-depth-eq1-clause-taken : goal.returns-after-depth-eq1-clause-taken
returns-after-depth-eq1-clause-taken g c =
    on_ok_weaker c.put.result
    (subst (λ l. TakesUp l c.args.self.now.map c.put.new.self.map)
    (sym (region_behind (reading_of c.args.self.now) c.args.line.now c.stripped.result.now c.in-Some.region.line.now c.indent-blanks.result c.in-Some.region.depth
    _
    c.indent-blanks.ensures.value (omega arith) c.stripped.ensures c.in-Some.ensures.line (c.in-Some.ensures.depth ∙ c.depth-depth.ensures) (top_now g c))))
    c.put.ensures.taken

pub returns-after-depth-eq1-clause-chained : goal.returns-after-depth-eq1-clause-chained
returns-after-depth-eq1-clause-chained g c =
    on_ok_weaker c.put.result
    (λ chained read. chained read.chained
    (stands_within c.args.self.now _ c.in-Some.region c.indent-blanks.result (omega arith) (c.in-Some.ensures.depth ∙ c.depth-depth.ensures)
    refl refl (sym c.in-Some.ensures.depth)
    (λ more. elim c.if-depth-eq1.branch [
      | then-depth-eq1 w ↦ let one = c.in-Some.ensures.depth in absurd (let no : ⊥ = omega (arith, more, one, w.if-depth-eq1) in no)
      | else-depth-eq1 w ↦ w.self-is
    ])
    read))
    c.put.ensures.chained

pub returns-after-depth-eq1-clause-read : goal.returns-after-depth-eq1-clause-read
returns-after-depth-eq1-clause-read g c =
    on_ok_weaker c.put.result
    (λ taken. c.put.ensures.same
    ∙ ap (λ d. reading_at c.args.self.now.heading c.args.self.now.is_taken d c.if-depth-eq1.self) (sym c.in-Some.ensures.depth)
    ∙ read_region (reading_of c.args.self.now) c.args.line.now c.stripped.result.now c.in-Some.region.line.now c.indent-blanks.result c.in-Some.region.depth _
    c.indent-blanks.ensures.value (omega arith) c.stripped.ensures c.in-Some.ensures.line (c.in-Some.ensures.depth ∙ c.depth-depth.ensures) (top_now g c))
    c.put.ensures.taken
