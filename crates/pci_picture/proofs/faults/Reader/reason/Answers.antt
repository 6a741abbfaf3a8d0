use Rattle.std.proofs.Common.{◌≡◌, ◌<◌, ◌+◌, ◌-◌, [], ◌∷◌, Bor, List, ℕ, refl, sym, ap, length, map, ◌∙◌, arith}
use Rattle.std.specs.Vec.{vec_len}
use Rattle.std.proofs.Math.Seq.{map-set_same}
use Rattle.std.proofs.lemmas.List.{length-append, map-append}
use Rattle.pci_picture.proofs.Namings.{named_reasoned}
use Rattle.pci_picture.proofs.ReadSaid.{fault_reasoned, none_reasoned, none_there}
use Rattle.pci_picture.proofs.faults.Reader.reason.Goals as goal

pub returns-in_ok-push-clause-faults : goal.returns-in_ok-push-clause-faults
returns-in_ok-push-clause-faults g c =
    map-set_same (λ f. f.number) c.args.self.now.faults.items _ _ c.in-Some.fault.now (ap (λ f. f.number) c.in-Some.ensures.value)

pub returns-in_ok-push-clause-said : goal.returns-in_ok-push-clause-said
returns-in_ok-push-clause-said g c = λ said before.
    let old = c.args.self.now in
    let now = λ (l : Bor (List ℕ)). l.now in
    let end : c.len-fault.result ≡ length old.lines.items + 1 =
    c.len-fault.ensures ∙ c.push.new.self.ok.0 ∙ ap length c.in_ok-push.ensures.items ∙ length-append old.lines.items (c.args.line ∷ []) in
    let some : 0 < vec_len old.faults = c.in-Some.ensures.variant.0 refl in
    let long : vec_len old.faults ≡ length old.faults.items = old.faults.ok.0 in
    fault_reasoned c.args.line.now old _ c.in-Some.fault.now (vec_len old.faults - 1) c.len-fault.result said
    (ap (map now) c.in_ok-push.ensures.items ∙ map-append now old.lines.items (c.args.line ∷ [])) refl
    (omega (arith, some, long)) c.in-Some.ensures.value end before

pub returns-in_default-clause-said : goal.returns-in_default-clause-said
returns-in_default-clause-said g c = λ said before.
    let old = c.args.self.now in
    let none : length old.faults.items ≡ 0 = sym (old.faults.ok.0) ∙ none_there (vec_len old.faults) c.in_default.ensures.variant.1 in
    none_reasoned c.args.line.now old _ said refl refl none before

pub returns-in_ok-push-clause-named : goal.returns-in_ok-push-clause-named
returns-in_ok-push-clause-named g c = λ before.
    let old = c.args.self.now in
    let now = λ (l : Bor (List ℕ)). l.now in
    let some : 0 < vec_len old.faults = c.in-Some.ensures.variant.0 refl in
    let long : vec_len old.faults ≡ length old.faults.items = old.faults.ok.0 in
    named_reasoned c.args.line.now (map now old.lines.items) _ old.faults.items old.namings.items c.in-Some.fault.now (vec_len old.faults - 1) c.len-fault.result
    (ap (map now) c.in_ok-push.ensures.items ∙ map-append now old.lines.items (c.args.line ∷ []))
    (omega (arith, some, long)) c.in-Some.ensures.value before
