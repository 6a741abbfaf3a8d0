use Rattle.std.proofs.Common.{length, map, ap, sym, ◌∙◌}
use Rattle.std.proofs.lemmas.List.{length-map}
use Rattle.std.proofs.lemmas.Result.{IfOk-weaker}
use Rattle.std.specs.List.{flat_map}
use Rattle.pci_claims.specs.declared.legacy.FixedPart.TheVariants.{Legacy, Palette}
use Rattle.pci_claims.specs.Values.{legacy_value}
use Rattle.pci_model_settle.specs.ClaimLines.{claim_lines, part_lines}
use Rattle.pci_model_settle.specs.LineValues.{line_value}
use Rattle.pci_model_settle.proofs.HeldLines.{all_fit, parts_fit}
use Rattle.pci_model_settle.proofs.MergedLines.{claims_merged, claims_size, joined_is}
use Rattle.pci_model_settle.proofs.claim_lines.joined.Goals as goal

pub merged-requires : goal.merged-requires
merged-requires g c =
    let legacy = map legacy_value c.args.legacy.now in
    let palette = map legacy_value c.args.palette.now in
    parts_fit (map line_value c.args.lines.now) legacy palette (length c.deref.result.now) (length c.deref-2.result.now) c.requires
    (claims_size (flat_map (part_lines Legacy) legacy) c.deref.result.now (ap (map line_value) c.deref.ensures.value ∙ c.in_ok-legacy.ensures))
    (claims_size (flat_map (part_lines Palette) palette) c.deref-2.result.now (ap (map line_value) c.deref-2.ensures.value ∙ c.in_ok-palette.ensures))

pub merged-requires-2 : goal.merged-requires-2
merged-requires-2 g c =
    let legacy = map legacy_value c.args.legacy.now in
    let palette = map legacy_value c.args.palette.now in
    all_fit (map line_value c.args.lines.now) (claim_lines legacy palette) (length c.args.lines.now) (length c.deref-3.result.now) c.requires
    (sym (length-map c.args.lines.now line_value))
    (claims_size (claim_lines legacy palette) c.deref-3.result.now (ap (map line_value) c.deref-3.ensures.value
    ∙ claims_merged legacy palette c.deref.result.now c.deref-2.result.now c.in_ok-claims.claims.items (ap (map line_value) c.deref.ensures.value ∙ c.in_ok-legacy.ensures)
    (ap (map line_value) c.deref-2.ensures.value ∙ c.in_ok-palette.ensures) c.in_ok-claims.ensures))

pub returns : goal.returns
returns g c =
    let legacy = map legacy_value c.args.legacy.now in
    let palette = map legacy_value c.args.palette.now in
    IfOk-weaker c.merged-2.result _ _ (λ v is. joined_is (claim_lines legacy palette) c.args.lines.now c.deref-3.result.now v.items
    (ap (map line_value) c.deref-3.ensures.value
    ∙ claims_merged legacy palette c.deref.result.now c.deref-2.result.now c.in_ok-claims.claims.items (ap (map line_value) c.deref.ensures.value ∙ c.in_ok-legacy.ensures)
    (ap (map line_value) c.deref-2.ensures.value ∙ c.in_ok-palette.ensures) c.in_ok-claims.ensures) is) c.merged-2.ensures
