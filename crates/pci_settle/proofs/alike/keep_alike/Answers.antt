use Rattle.std.proofs.Common.{◌≡◌, ◌∙◌, ◌&&◌, ◌+◌, sym, ap}
use Rattle.std.specs.Bool.{beq}
use Rattle.std.specs.List.{list_all}
use Rattle.pci_spec.specs.System.{System, is_bridge}
use Rattle.pci_image.specs.Layouts.{is_of_bridge}
use Rattle.pci_function.specs.declared.record.Record.{Record}
use Rattle.pci_tree.proofs.Lifting.{same_bridge}
use Rattle.pci_place.specs.Above.{system_in}
use Rattle.pci_place.proofs.Records.{FunctionAt, function_read}
use Rattle.settle_spec.specs.Kept.{Kept as Keeping}
use Rattle.settle_spec.specs.Lists.{Request}
use Rattle.settle_spec.specs.Parts.{function_parts}
use Rattle.pci_settle.specs.Told.{IsTableOf}
use Rattle.pci_settle.specs.Alike.{PassesPartsOnly}
use Rattle.pci_settle.proofs.AlikeParts.{kept_from, parts_are, next_function}
use Rattle.pci_settle.proofs.alike.keep_alike.Goals as goal
use Rattle.pci_settle.proofs.alike.keep_alike.Goals.{After-parts_alike}
use Rattle.pci_settle.proofs.alike.keep_alike.Given.{Over}

module _ (g : Over) (c : After-parts_alike g) where
  abbrev s : System
  s = system_in c.args.admitted.now

  abbrev r : Record
  r = c.index-records-k.result

  here : FunctionAt s r c.loop-k.k
  here = function_read s c.records-records.result.now c.records-records.ensures.value c.outline-outline.ensures.records c.loop-k.k r c.loop-k-test.true c.index-records-k.is

  module _ (q : Request) (k j : Keeping) (one : IsTableOf s k.stays c.args.one.now) (other : IsTableOf s j.stays c.args.other.now) (k_parts : PassesPartsOnly q s k.stays) (j_parts : PassesPartsOnly q s j.stays) where
    alike_is : c.parts_alike.result ≡ list_all (λ x. beq (k.stays x) (j.stays x)) (function_parts q s here.f)
    alike_is =
        let layout : is_of_bridge c.layout.result ≡ is_bridge here.f = c.layout.ensures ∙ same_bridge r here.f here.is.value in
        c.parts_alike.ensures
        ∙ parts_are q s k.stays j.stays k_parts j_parts here.f _ _ (λ part there. one.each c.loop-k.k here.f _ part here.at there) (λ part there. other.each c.loop-k.k here.f _ part here.at there) _ layout

    -- what is left is alike where this function is
    left_is : kept_from q s k.stays j.stays c.loop-k.k ≡ (c.parts_alike.result && kept_from q s k.stays j.stays (c.loop-k.k + 1))
    left_is = next_function q s k.stays j.stays c.loop-k.k here.f here.at ∙ ap (λ b. b && kept_from q s k.stays j.stays (c.loop-k.k + 1)) (sym alike_is)

pub returns-then-not-parts_alike : goal.returns-then-not-parts_alike
returns-then-not-parts_alike g c = λ q k j one other k_parts j_parts.
    let at = (goal.at.returns-then-not-parts_alike g c).After-parts_alike in
    sym (c.loop-k.invariant q k j one other k_parts j_parts ∙ left_is g at q k j one other k_parts j_parts
    ∙ ap (λ b. b && kept_from q (s g at) k.stays j.stays (c.loop-k.k + 1)) c.if-not-parts_alike.true)

pub loop-k-preserved : goal.loop-k-preserved
loop-k-preserved g c = λ q k j one other k_parts j_parts.
    let at = (goal.at.loop-k-preserved g c).After-parts_alike in
    c.loop-k.invariant q k j one other k_parts j_parts ∙ left_is g at q k j one other k_parts j_parts
    ∙ ap (λ b. b && kept_from q (s g at) k.stays j.stays (c.loop-k.k + 1)) c.if-not-parts_alike.false
