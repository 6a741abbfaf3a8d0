use Rattle.std.proofs.Common.{rules, ◌≡◌, ◌&&◌, true, false, sym, subst, ◌∙◌, List, Option}
use Rattle.std.specs.Prelude.{MatchOption, not}
use Rattle.std.specs.String.{string_bytes}
use Rattle.pci_spec.specs.Bus.{is_root}
use Rattle.pci_spec.specs.Decoded.{HasRecords, Record}
use Rattle.pci_spec.specs.Mark.{all_named}
use Rattle.judge_spec.specs.Why.{is_said}
use Rattle.pci_base.specs.Space.{space_of}
use Rattle.pci_tree.specs.declared.region.Region.{Region}
use Rattle.pci_tree.specs.declared.region.Part.TheVariants.{Window}
use Rattle.pci_claims.specs.Values.{code_given_value, told_value}
use Rattle.pci_claims.specs.Found.{NoneClaims, IsFoundIn}
use Rattle.pci_claims.proofs.Founds.{none_without_record}
use Rattle.pci_why.proofs.FitsTold.{told_none, told_window, told_on_root, told_unknown, told_fit}
use Rattle.pci_why.proofs.fits.push_own_fits.Goals as goal

pub returns-in_default-clause-told : goal.returns-in_default-clause-told
returns-in_default-clause-told g c =
    told_none (all_named c.args.judged.now.probe.now) (told_value c.args.judged.now.told.now) (code_given_value c.args.judged.now.given.now) c.args.judged.now.outline.now c.args.place.slot c.args.place.reg (space_of c.args.place.space) c.requires.low (string_bytes c.args.text.now)
    (λ s tree. subst (λ (o : Option Region). MatchOption o (NoneClaims s c.args.place.slot c.args.place.reg (space_of c.args.place.space)) (λ q. IsFoundIn s c.args.place.slot c.args.place.reg (space_of c.args.place.space) q)) c.in_default.is
    (c.in_ok-region.ensures.found s tree.records))

pub returns-then-eq-clause-told : goal.returns-then-eq-clause-told
returns-then-eq-clause-told g c =
    let window : c.in-Some.region.part ≡ Window = search rules in
    told_window (all_named c.args.judged.now.probe.now) (told_value c.args.judged.now.told.now) (code_given_value c.args.judged.now.given.now) c.args.judged.now.outline.now c.args.place.slot c.args.place.reg (space_of c.args.place.space) c.requires.low (string_bytes c.args.text.now) c.in-Some.region
    (λ s tree. subst (λ (o : Option Region). MatchOption o (NoneClaims s c.args.place.slot c.args.place.reg (space_of c.args.place.space)) (λ q. IsFoundIn s c.args.place.slot c.args.place.reg (space_of c.args.place.space) q)) c.in-Some.is
    (c.in_ok-region.ensures.found s tree.records)) window

pub returns-then-is_sent_all-clause-told : goal.returns-then-is_sent_all-clause-told
returns-then-is_sent_all-clause-told g c =
    told_on_root (all_named c.args.judged.now.probe.now) (told_value c.args.judged.now.told.now) (code_given_value c.args.judged.now.given.now) c.args.judged.now.outline.now c.args.place.slot c.args.place.reg (space_of c.args.place.space) c.requires.low (string_bytes c.args.text.now)
    (subst (λ n. (is_root c.args.judged.now.outline.now.roots n && not (is_said (code_given_value c.args.judged.now.given.now) (space_of c.args.place.space))) ≡ true) c.bus.ensures (sym c.is_sent_all.ensures ∙ c.if-is_sent_all.true))

pub returns-then-is_size_assumed-clause-told : goal.returns-then-is_size_assumed-clause-told
returns-then-is_size_assumed-clause-told g c =
    let not_window : c.in-Some.region.part ≡ Window → ⊥ = λ window. search (rules, window) in
    told_unknown (all_named c.args.judged.now.probe.now) (told_value c.args.judged.now.told.now) (code_given_value c.args.judged.now.given.now) c.args.judged.now.outline.now c.args.place.slot c.args.place.reg (space_of c.args.place.space) c.requires.low (string_bytes c.args.text.now) c.in-Some.region (string_bytes c.push_str.new.self)
    (λ s tree. subst (λ (o : Option Region). MatchOption o (NoneClaims s c.args.place.slot c.args.place.reg (space_of c.args.place.space)) (λ q. IsFoundIn s c.args.place.slot c.args.place.reg (space_of c.args.place.space) q)) c.in-Some.is
    (c.in_ok-region.ensures.found s tree.records))
    not_window (subst (λ n. (is_root c.args.judged.now.outline.now.roots n && not (is_said (code_given_value c.args.judged.now.given.now) (space_of c.args.place.space))) ≡ false) c.bus.ensures (sym c.is_sent_all.ensures ∙ c.if-is_sent_all.false))
    (sym c.is_size_assumed.ensures ∙ c.if-is_size_assumed.true) c.in_ok-push_str.ensures.bytes

pub returns-in_default-record_at-clause-told : goal.returns-in_default-record_at-clause-told
returns-in_default-record_at-clause-told g c =
    told_none (all_named c.args.judged.now.probe.now) (told_value c.args.judged.now.told.now) (code_given_value c.args.judged.now.given.now) c.args.judged.now.outline.now c.args.place.slot c.args.place.reg (space_of c.args.place.space) c.requires.low (string_bytes c.args.text.now)
    (λ s tree. none_without_record s c.records.result.now c.args.place.slot c.args.place.reg (space_of c.args.place.space) (subst (λ (rs : List Record). HasRecords s rs) (sym c.records.ensures.value) tree.records)
    c.in_default-record_at.ensures)

pub returns-clause-told : goal.returns-clause-told
returns-clause-told g c =
    let not_window : c.in-Some.region.part ≡ Window → ⊥ = λ window. search (rules, window) in
    told_fit (all_named c.args.judged.now.probe.now) (told_value c.args.judged.now.told.now) (code_given_value c.args.judged.now.given.now) c.args.judged.now.outline.now c.args.place.slot c.args.place.reg (space_of c.args.place.space) c.requires.low (string_bytes c.args.text.now) c.in-Some.region c.records.result.now
    c.in-Some-record_at.function.now c.is_wide-wide.result c.in_ok-fit.fit (string_bytes c.push_fit.new.text)
    (λ s tree. subst (λ (o : Option Region). MatchOption o (NoneClaims s c.args.place.slot c.args.place.reg (space_of c.args.place.space)) (λ q. IsFoundIn s c.args.place.slot c.args.place.reg (space_of c.args.place.space) q)) c.in-Some.is
    (c.in_ok-region.ensures.found s tree.records))
    not_window (sym c.records.ensures.value) c.records.ensures.nested c.records.ensures.rising c.in-Some-record_at.ensures.0 c.in-Some-record_at.ensures.1
    (subst (λ n. (is_root c.args.judged.now.outline.now.roots n && not (is_said (code_given_value c.args.judged.now.given.now) (space_of c.args.place.space))) ≡ false) c.bus.ensures (sym c.is_sent_all.ensures ∙ c.if-is_sent_all.false))
    (sym c.is_size_assumed.ensures ∙ c.if-is_size_assumed.false) c.is_wide-wide.ensures c.in_ok-fit.ensures.exact c.in_ok-push_fit.ensures
