use Rattle.std.proofs.Common.{◌≡◌, List, [], ◌∷◌, ◌++◌, sym, ◌∙◌, ap, subst, Some}
use Rattle.pci_spec.specs.Stops.{IsAboveLast}
use Rattle.pci_spec.specs.Text.{Block}
use Rattle.pci_spec.specs.Decoded as decoded
use Rattle.pci_spec.specs.System.{function_of}
use Rattle.pci_function.specs.declared.record.Record.{Record}
use Rattle.pci_tree.specs.Survey.{Surveyed, AreKept, IsAdded}
use Rattle.pci_tree.proofs.Lawful.{lawful_record}
use Rattle.pci_tree.proofs.Surveys.{survey_of, survey_more, append_record, append_nothing, append_fault, kept_later, kept_more}
use Rattle.pci_tree.proofs.survey.Survey.add_function.Goals as goal

-- the same function, by the blocks' parts
function_from : (b p c q : Block) → b ≡ c → p ≡ q → function_of b p ≡ function_of c q
function_from b p c q e f = λ i. record { slot = (e i).slot; image = (e i).image; probe = (f i).image }

above_from : (v w : Surveyed) (b c : Block) → v ≡ w → b ≡ c → IsAboveLast w.last c.slot → IsAboveLast v.last b.slot
above_from v w b c e f h = subst (λ (x : Surveyed). IsAboveLast x.last b.slot) (sym e) (subst (λ (x : Block). IsAboveLast w.last x.slot) (sym f) h)

-- one more record behind those that making room for it has kept
pushed_onto : (old kept new : List Record) (r : Record) → new ≡ kept ++ r ∷ [] → kept ≡ old → new ≡ old ++ r ∷ []
pushed_onto old kept new r pushed same = pushed ∙ ap (λ rs. rs ++ r ∷ []) same

pub invariant_of-self : goal.invariant_of-self
invariant_of-self g c =
    kept_later c.self.inside.records.items c.self.inside.last c.block.inside.slot c.self.invariant (above_from _ c.args.self.now _ c.args.block.now c.self.view_is c.block.view_is c.requires.above)

pub invariant_of-self-then-is_some : goal.invariant_of-self-then-is_some
invariant_of-self-then-is_some g c =
    kept_later c.self.inside.records.items c.self.inside.last c.block.inside.slot c.self.invariant (above_from _ c.args.self.now _ c.args.block.now c.self.view_is c.block.view_is c.requires.above)

pub invariant_of-self-in-Ok : goal.invariant_of-self-in-Ok
invariant_of-self-in-Ok g c =
    subst (λ rs. AreKept rs (Some c.block.inside.slot)) (sym (pushed_onto c.self.inside.records.items c.reserve.new.self.items c.push_reserved.new.self.items c.examine_into.new.decoded c.push_reserved.ensures.items c.reserve.ensures.items))
    (kept_more c.self.inside.records.items c.examine_into.new.decoded c.self.inside.last c.block.inside.slot c.self.invariant
    (above_from _ c.args.self.now _ c.args.block.now c.self.view_is c.block.view_is c.requires.above)
    (ap (λ (r : decoded.Record). r.slot) c.in-Ok.ensures.decoded.same) c.number-number.ensures.slot
    (lawful_record c.examine_into.new.decoded record { slot = c.block.inside.slot; image = c.block.inside.image.0; probe = c.probe.inside.image.0 }
    record { full = c.bytes_of-bytes.ensures.full; bytes = c.bytes_of-bytes.ensures.bytes } c.in-Ok.ensures.decoded.decodable c.in-Ok.ensures.decoded.same))

pub returns-then-is_some-clause-added : goal.returns-then-is_some-clause-added
returns-then-is_some-clause-added g c =
    let w : Surveyed = survey_of c.self.inside.records.items c.self.inside.roots c.self.inside.noted (Some c.block.inside.slot) in
    subst (λ v. IsAdded v w record { slot = c.args.block.now.slot; image = c.args.block.now.image; probe = c.args.probe.now.image }) c.self.view_is
    (subst (λ f. IsAdded (survey_of c.self.inside.records.items c.self.inside.roots c.self.inside.noted c.self.inside.last) w f)
    (function_from _ _ c.args.block.now c.args.probe.now c.block.view_is c.probe.view_is)
    (append_nothing c.self.inside.records.items c.self.inside.roots c.self.inside.noted c.self.inside.last
    record { slot = c.block.inside.slot; image = c.block.inside.image.0; probe = c.probe.inside.image.0 } c.examine_into.new.decoded (sym c.is_some.ensures ∙ c.if-is_some.true) c.in-Ok.ensures))

pub returns-then-is_some-clause-taken : goal.returns-then-is_some-clause-taken
returns-then-is_some-clause-taken g c = λ s is.
    let w : Surveyed = survey_of c.self.inside.records.items c.self.inside.roots c.self.inside.noted (Some c.block.inside.slot) in
    survey_more c.args.self.now w s record { slot = c.args.block.now.slot; image = c.args.block.now.image; probe = c.args.probe.now.image } (returns-then-is_some-clause-added g c) is

pub returns-in-Err-clause-added : goal.returns-in-Err-clause-added
returns-in-Err-clause-added g c =
    let w : Surveyed = survey_of c.self.inside.records.items c.self.inside.roots (Some c.earlier.result) (Some c.block.inside.slot) in
    subst (λ v. IsAdded v w record { slot = c.args.block.now.slot; image = c.args.block.now.image; probe = c.args.probe.now.image }) c.self.view_is
    (subst (λ f. IsAdded (survey_of c.self.inside.records.items c.self.inside.roots c.self.inside.noted c.self.inside.last) w f)
    (function_from _ _ c.args.block.now c.args.probe.now c.block.view_is c.probe.view_is)
    (append_fault c.self.inside.records.items c.self.inside.roots c.self.inside.noted c.self.inside.last
    record { slot = c.block.inside.slot; image = c.block.inside.image.0; probe = c.probe.inside.image.0 } c.in-Err.fault c.earlier.result c.in-Err.ensures c.earlier.ensures))

pub returns-in-Err-clause-taken : goal.returns-in-Err-clause-taken
returns-in-Err-clause-taken g c = λ s is.
    let w : Surveyed = survey_of c.self.inside.records.items c.self.inside.roots (Some c.earlier.result) (Some c.block.inside.slot) in
    survey_more c.args.self.now w s record { slot = c.args.block.now.slot; image = c.args.block.now.image; probe = c.args.probe.now.image } (returns-in-Err-clause-added g c) is

pub returns-in_ok-reserve-in-Ok-clause-added : goal.returns-in_ok-reserve-in-Ok-clause-added
returns-in_ok-reserve-in-Ok-clause-added g c =
    let w : List Record → Surveyed = λ rs. survey_of rs c.self.inside.roots c.self.inside.noted (Some c.block.inside.slot) in
    subst (λ rs. IsAdded c.args.self.now (w rs) record { slot = c.args.block.now.slot; image = c.args.block.now.image; probe = c.args.probe.now.image }) (sym (pushed_onto c.self.inside.records.items c.reserve.new.self.items c.push_reserved.new.self.items c.examine_into.new.decoded c.push_reserved.ensures.items c.reserve.ensures.items))
    (subst (λ v. IsAdded v (w (c.self.inside.records.items ++ c.examine_into.new.decoded ∷ [])) record { slot = c.args.block.now.slot; image = c.args.block.now.image; probe = c.args.probe.now.image }) c.self.view_is
    (subst (λ f. IsAdded (survey_of c.self.inside.records.items c.self.inside.roots c.self.inside.noted c.self.inside.last) (w (c.self.inside.records.items ++ c.examine_into.new.decoded ∷ [])) f)
    (function_from _ _ c.args.block.now c.args.probe.now c.block.view_is c.probe.view_is)
    (append_record c.self.inside.records.items c.self.inside.roots c.self.inside.noted c.self.inside.last
    record { slot = c.block.inside.slot; image = c.block.inside.image.0; probe = c.probe.inside.image.0 } c.examine_into.new.decoded (sym c.is_some.ensures ∙ c.if-is_some.false) c.in-Ok.ensures)))

pub returns-in_ok-reserve-in-Ok-clause-taken : goal.returns-in_ok-reserve-in-Ok-clause-taken
returns-in_ok-reserve-in-Ok-clause-taken g c = λ s is.
    survey_more c.args.self.now (survey_of c.push_reserved.new.self.items c.self.inside.roots c.self.inside.noted (Some c.block.inside.slot)) s
    record { slot = c.args.block.now.slot; image = c.args.block.now.image; probe = c.args.probe.now.image } (returns-in_ok-reserve-in-Ok-clause-added g c) is
