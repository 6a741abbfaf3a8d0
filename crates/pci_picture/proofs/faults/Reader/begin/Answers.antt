use Rattle.std.proofs.Common.{◌≡◌, ◌+◌, [], ◌∷◌, ◌++◌, Bor, List, ℕ, refl, ap, length, map, ◌∙◌}
use Rattle.std.proofs.lemmas.List.{length-append, map-append}
use Rattle.pci_picture.specs.Marks.{keys_told, namings_of}
use Rattle.pci_picture.proofs.Namings.{named_begun}
use Rattle.pci_picture.proofs.ReadSaid.{fault_begun, on_ok}
use Rattle.pci_picture.proofs.faults.Reader.begin.Goals as goal

pub returns-clause-said : goal.returns-clause-said
returns-clause-said g c =
    let old = c.args.self.now in
    let now = λ (l : Bor (List ℕ)). l.now in
    let begin : c.len-begin.result ≡ length old.lines.items = c.len-begin.ensures ∙ old.lines.ok.0 in
    let end : c.len.result ≡ length old.lines.items + 1 = c.len.ensures ∙ c.push.new.self.ok.0 ∙ ap length c.in_ok-push.ensures.items ∙ length-append old.lines.items (c.args.line ∷ []) in
    on_ok c.mark.result (λ said before.
    fault_begun c.args.number c.args.line.now old c.mark.new.self (record { number = c.args.number; keys = c.of-keys.result; begin = c.len-begin.result; end = c.len.result }) said
    (ap (λ v. map now v.items) (c.mark.ensures.lines ∙ c.in_ok-name.ensures.lines) ∙ ap (map now) c.in_ok-push.ensures.items
    ∙ map-append now old.lines.items (c.args.line ∷ []))
    (ap (λ v. v.items) (c.mark.ensures.faults ∙ c.in_ok-name.ensures.same) ∙ c.in_ok-push-2.ensures.items)
    refl begin end before)

pub returns-clause-named : goal.returns-clause-named
returns-clause-named g c =
    let old = c.args.self.now in
    let now = λ (l : Bor (List ℕ)). l.now in
    let begin : c.len-begin.result ≡ length old.lines.items = c.len-begin.ensures ∙ old.lines.ok.0 in
    let fault : c.len-fault.result ≡ length old.faults.items = c.len-fault.ensures ∙ old.faults.ok.0 in
    on_ok c.mark.result (λ before.
    named_begun c.args.number c.args.line.now old c.mark.new.self (record { number = c.args.number; keys = c.of-keys.result; begin = c.len-begin.result; end = c.len.result })
    (ap (λ v. map now v.items) (c.mark.ensures.lines ∙ c.in_ok-name.ensures.lines) ∙ ap (map now) c.in_ok-push.ensures.items
    ∙ map-append now old.lines.items (c.args.line ∷ []))
    (ap (λ v. v.items) (c.mark.ensures.faults ∙ c.in_ok-name.ensures.same) ∙ c.in_ok-push-2.ensures.items)
    (ap (λ v. v.items) c.mark.ensures.namings ∙ c.in_ok-name.ensures.named ∙ ap (λ n. old.namings.items ++ namings_of n (keys_told c.of-keys.result)) fault)
    c.of-keys.ensures refl begin before)
