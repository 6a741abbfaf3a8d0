use Rattle.std.proofs.Common.{◌≡◌, subst, ap, sym, ◌∙◌}
use Rattle.std.specs.Prelude.{MatchBool}
use Rattle.std.specs.String.{string_bytes}
use Rattle.pci_spec.specs.Slot.{Slot}
use Rattle.pci_spec.specs.System.{Space, IsAddress}
use Rattle.pci_base.specs.declared.range.Range.{Range}
use Rattle.judge_spec.specs.ToldRegion.{ToldRegion}
use Rattle.judge_spec.specs.Lines.{IsOutOfPlace}
use Rattle.judge_spec.specs.Regions.{OfLine}
use Rattle.pci_base.specs.Space.{space_of}
use Rattle.pci_claims.specs.Values.{code_given_value}
use Rattle.pci_map.specs.Seats.{told_region_value}
use Rattle.pci_map.specs.Left.{IsLeftIf}
use Rattle.pci_map.specs.Asides.{IsTheRange, AsideTexts, AreAsides}
use Rattle.pci_map.proofs.Places.{first_there}
use Rattle.pci_map.proofs.AsideTexts.{range_outside, range_left, range_reached}
use Rattle.pci_map.proofs.asides.push_told_aside.Goals as goal

pub returns-then-is_line_outside : goal.returns-then-is_line_outside
returns-then-is_line_outside g c = λ told t s of ways is.
    let x : ToldRegion = told_region_value c.args.line.now in
    let given = code_given_value c.args.routes.now.given in
    let out = subst (λ b. MatchBool b (IsOutOfPlace told given t.roots s (OfLine x)) (IsOutOfPlace told given t.roots s (OfLine x) → ⊥)) c.if-is_line_outside.true (c.is_line_outside.ensures told given t s of.sent of.is_told is) in
    subst (λ (old : AsideTexts). AreAsides told given t.roots s (IsTheRange x) old record { outside = string_bytes c.push_told_line.new.text; unreached = string_bytes c.asides.inside.unreached })
    c.asides.view_is
    (range_outside told given t.roots s x is (string_bytes c.asides.inside.outside) (string_bytes c.push_told_line.new.text) (string_bytes c.asides.inside.unreached) out c.in_ok-push_told_line.ensures)

pub returns-then-not-is_left : goal.returns-then-not-is_left
returns-then-not-is_left g c = λ told t s of ways is.
    let x : ToldRegion = told_region_value c.args.line.now in
    let given = code_given_value c.args.routes.now.given in
    let within = subst (λ b. MatchBool b (IsOutOfPlace told given t.roots s (OfLine x)) (IsOutOfPlace told given t.roots s (OfLine x) → ⊥)) c.if-is_line_outside.false (c.is_line_outside.ensures told given t s of.sent of.is_told is) in
    let first : x.told.first ≡ c.range.result.first = sym (ap (λ (r : Range). r.first) c.range.ensures) in
    range_reached told given t.roots s x is c.args.asides.now.outside c.args.asides.now.unreached within
    (subst (λ b. IsLeftIf given t.roots s (OfLine x) b) c.if-not-is_left.true
    (c.is_left.ensures given t s (OfLine x) of.sent.tree ways (ap (λ (y : Slot). y.bus) (sym c.slot.ensures) ∙ sym c.bus.ensures) (sym c.space.ensures) first
    (subst (λ n. IsAddress (space_of c.space.result) n) first (subst (λ (sp : Space). IsAddress sp x.told.first) (sym c.space.ensures) (first_there told s x is of.is_told.lawful)))))

pub returns : goal.returns
returns g c = λ told t s of ways is.
    let x : ToldRegion = told_region_value c.args.line.now in
    let given = code_given_value c.args.routes.now.given in
    let within = subst (λ b. MatchBool b (IsOutOfPlace told given t.roots s (OfLine x)) (IsOutOfPlace told given t.roots s (OfLine x) → ⊥)) c.if-is_line_outside.false (c.is_line_outside.ensures told given t s of.sent of.is_told is) in
    let first : x.told.first ≡ c.range.result.first = sym (ap (λ (r : Range). r.first) c.range.ensures) in
    subst (λ (old : AsideTexts). AreAsides told given t.roots s (IsTheRange x) old record { outside = string_bytes c.asides.inside.outside; unreached = string_bytes c.push_told_line-2.new.text })
    c.asides.view_is
    (range_left told given t.roots s x is (string_bytes c.asides.inside.outside) (string_bytes c.asides.inside.unreached) (string_bytes c.push_told_line-2.new.text) within
    (subst (λ b. IsLeftIf given t.roots s (OfLine x) b) c.if-not-is_left.false
    (c.is_left.ensures given t s (OfLine x) of.sent.tree ways (ap (λ (y : Slot). y.bus) (sym c.slot.ensures) ∙ sym c.bus.ensures) (sym c.space.ensures) first
    (subst (λ n. IsAddress (space_of c.space.result) n) first (subst (λ (sp : Space). IsAddress sp x.told.first) (sym c.space.ensures) (first_there told s x is of.is_told.lawful)))))
    c.in_ok-push_told_line-2.ensures)
