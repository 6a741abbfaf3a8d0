use Rattle.std.proofs.Common.{◌≤◌, length, map, Err, arith, refl, sym, ap, subst, ◌∙◌}
use Rattle.std.proofs.lemmas.List.{length-map}
use Rattle.pci_base.specs.declared.memory.Refused.TheVariants as refusals
use Rattle.judge_spec.specs.Told.{IsTold}
use Rattle.pci_claims.specs.Values.{legacy_value}
use Rattle.pci_model_settle.specs.ClaimLines.{LinesWithOrigins, claim_lines, lines_with}
use Rattle.pci_model_settle.specs.LineValues.{line_value}
use Rattle.pci_model_settle.proofs.HeldLines.{lines_told, memory_is_other, not_refused, not_too_many, too_many}
use Rattle.pci_model_settle.proofs.MergedLines.{kept_are, ranges_are, ranges_of_lines}
use Rattle.pci_model_settle.proofs.claim_lines.lines_with_claims.Goals as goal

pub returns-then-not-is_room-clause-fault : goal.returns-then-not-is_room-clause-fault
returns-then-not-is_room-clause-fault g c =
    let lines = c.args.lines.now in
    let few : length lines ≤ 4096 = let size = length-map lines (λ l. (line_value l).range) in let room = c.requires.told.room in omega (arith, size, room) in (
      λ _. too_many (map line_value lines) (claim_lines (map legacy_value c.args.legacy.now) (map legacy_value c.args.palette.now)) (length lines) c.is_room.result (sym (length-map lines line_value)) few c.is_room.ensures c.if-not-is_room.true,
      λ _. refl,
    )

pub joined-requires : goal.joined-requires
joined-requires g c =
    let lines = c.args.lines.now in
    let few : length lines ≤ 4096 = let size = length-map lines (λ l. (line_value l).range) in let room = c.requires.told.room in omega (arith, size, room) in
    not_too_many (map line_value lines) (claim_lines (map legacy_value c.args.legacy.now) (map legacy_value c.args.palette.now)) (length lines) c.is_room.result (sym (length-map lines line_value)) few c.is_room.ensures c.if-not-is_room.false

pub returns-in-Err-clause-fault : goal.returns-in-Err-clause-fault
returns-in-Err-clause-fault g c =
    let lines = c.args.lines.now in
    let claims = claim_lines (map legacy_value c.args.legacy.now) (map legacy_value c.args.palette.now) in
    let few : length lines ≤ 4096 = let size = length-map lines (λ l. (line_value l).range) in let room = c.requires.told.room in omega (arith, size, room) in
    not_refused (Err refusals.Memory) (length (lines_with (map line_value lines) claims))
    (not_too_many (map line_value lines) claims (length lines) c.is_room.result (sym (length-map lines line_value)) few c.is_room.ensures c.if-not-is_room.false) (memory_is_other (Err refusals.Memory) refl)

pub kept-requires : goal.kept-requires
kept-requires g c =
    let lines = c.args.lines.now in
    let legacy = map legacy_value c.args.legacy.now in
    let palette = map legacy_value c.args.palette.now in
    let claims = claim_lines legacy palette in
    let few : length lines ≤ 4096 = let size = length-map lines (λ l. (line_value l).range) in let room = c.requires.told.room in omega (arith, size, room) in
    subst IsTold (sym (ranges_are (map line_value lines) claims c.deref.result.now (ap (map line_value) c.deref.ensures.value ∙ c.in-Ok.ensures)))
    (lines_told (map line_value lines) legacy palette (subst IsTold (ranges_of_lines lines) c.requires.told) c.requires.legacy c.requires.palette
    (not_too_many (map line_value lines) claims (length lines) c.is_room.result (sym (length-map lines line_value)) few c.is_room.ensures c.if-not-is_room.false))

pub returns-in-Ok-kept-clause-kept : goal.returns-in-Ok-kept-clause-kept
returns-in-Ok-kept-clause-kept g c =
    c.in-Ok-kept.ensures
    ∙ kept_are (map line_value c.args.lines.now) (claim_lines (map legacy_value c.args.legacy.now) (map legacy_value c.args.palette.now)) c.deref.result.now (ap (map line_value) c.deref.ensures.value ∙ c.in-Ok.ensures)

pub returns-in-Ok-kept-clause-can_be_told : goal.returns-in-Ok-kept-clause-can_be_told
returns-in-Ok-kept-clause-can_be_told g c =
    let lines = c.args.lines.now in
    let legacy = map legacy_value c.args.legacy.now in
    let palette = map legacy_value c.args.palette.now in
    let claims = claim_lines legacy palette in
    let few : length lines ≤ 4096 = let size = length-map lines (λ l. (line_value l).range) in let room = c.requires.told.room in omega (arith, size, room) in
    subst (λ (k : LinesWithOrigins). IsTold k.told) (sym (c.in-Ok-kept.ensures ∙ kept_are (map line_value lines) claims c.deref.result.now (ap (map line_value) c.deref.ensures.value ∙ c.in-Ok.ensures)))
    (lines_told (map line_value lines) legacy palette (subst IsTold (ranges_of_lines lines) c.requires.told) c.requires.legacy c.requires.palette
    (not_too_many (map line_value lines) claims (length lines) c.is_room.result (sym (length-map lines line_value)) few c.is_room.ensures c.if-not-is_room.false))

pub returns-clause-fault : goal.returns-clause-fault
returns-clause-fault g c =
    let lines = c.args.lines.now in
    let claims = claim_lines (map legacy_value c.args.legacy.now) (map legacy_value c.args.palette.now) in
    let few : length lines ≤ 4096 = let size = length-map lines (λ l. (line_value l).range) in let room = c.requires.told.room in omega (arith, size, room) in
    not_refused (Err refusals.Memory) (length (lines_with (map line_value lines) claims))
    (not_too_many (map line_value lines) claims (length lines) c.is_room.result (sym (length-map lines line_value)) few c.is_room.ensures c.if-not-is_room.false) (memory_is_other (Err refusals.Memory) refl)
