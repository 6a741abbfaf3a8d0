use Rattle.std.proofs.Common.{◌≡◌, inl, inr, arith, ap, subst, ◌∙◌, get_or}
use Rattle.std.proofs.lemmas.Bool.{cases_lt}
use Rattle.std.proofs.lemmas.Result.{err_from_is_err_and}
use Rattle.std.proofs.lemmas.List.{get_or_default}
use Rattle.pci_spec.specs.Number.{number_at}
use Rattle.pci_spec.specs.Header.{registers_by}
use Rattle.pci_spec.specs.Port.{ShowsNumber}
use Rattle.pci_image.specs.declared.register.Register.{Register}
use Rattle.pci_image.specs.declared.register.Role.TheVariants as roles
use Rattle.pci_plan.specs.Comparing.{IsFunctionFault, moment}
use Rattle.pci_plan.proofs.Compares.{in_table, all_shown, register_access, register_fault, same_moment}
use Rattle.pci_plan.proofs.WriteLists.{pair_of}
use Rattle.pci_plan.proofs.compare.compare_function.Goals as goal

abbrev none : Register
none = record { offset = 0; width = 0; role = roles.Bar 0 }

pub compare_register-requires-in-loop-register : goal.compare_register-requires-in-loop-register
compare_register-requires-in-loop-register g c =
    let items = c.address_registers-register-items.result.now in
    let image = c.args.image.now.0 in
    let k = c.loop-register.register-index in
    let table = c.address_registers-register-items.ensures.places ∙ ap registers_by c.or_device.ensures in
    register_access image (pair_of (get_or items k none)) (in_table items image table k none c.loop-register-test.true)

pub returns-in_err-compare_register-2-clause-fault : goal.returns-in_err-compare_register-2-clause-fault
returns-in_err-compare_register-2-clause-fault g c =
    let items = c.address_registers-register-items.result.now in
    let image = c.args.image.now.0 in
    let k = c.loop-register.register-index in
    let r = get_or items k none in
    let table = c.address_registers-register-items.ensures.places ∙ ap registers_by c.or_device.ensures in
    let before = moment (g.P.ConfigPort.targets c.args.port.now) (g.P.ConfigPort.failures c.args.port.now) in
    let now = moment (g.P.ConfigPort.targets c.loop-register.port) (g.P.ConfigPort.failures c.loop-register.port) in
    let failures_after = g.P.ConfigPort.failures c.compare_register-in-loop-register.new.port in
    let fault = c.in_err-compare_register-2.field-0.0 in
    let p = err_from_is_err_and c.from_residual-in_err-compare_register-2.result c.from_residual-in_err-compare_register-2.ensures.1 in
    rw (p.1, p.2)
    (subst (λ m. IsFunctionFault m c.args.slot image failures_after fault)
    (same_moment now before (c.loop-register.invariant.same ∙ c.in_ok-compare_register.ensures.same) (c.loop-register.invariant.counted ∙ c.in_ok-compare_register.ensures.counted))
    (register_fault now c.args.slot image r.offset r.width failures_after fault (in_table items image table k none c.loop-register-test.true) c.in_err-compare_register-2.ensures.fault))

pub loop-register-preserved : goal.loop-register-preserved
loop-register-preserved g c =
    let items = c.address_registers-register-items.result.now in
    let image = c.args.image.now.0 in
    let i = c.loop-register.register-index in
    let start = g.P.ConfigPort.targets c.compare_register.new.port in
    let before = c.loop-register.invariant.same in
    record {
      same = c.in_ok-compare_register-2.ensures.same ∙ before;
      counted = c.in_ok-compare_register-2.ensures.counted ∙ c.loop-register.invariant.counted;
      shown = λ k d less.
          elim (cases_lt k i) [
            | inl earlier ↦ c.loop-register.invariant.shown k d earlier
            | inr last ↦
                let at : i ≡ k = omega (arith, less, last) in
                let one : get_or items i none ≡ get_or items k d = get_or_default items i none d c.loop-register-test.true ∙ ap (λ n. get_or items n d) at in
                subst (λ (r : Register). ShowsNumber start c.args.slot r.offset r.width (number_at image r.offset r.width)) one
                (subst (λ ts. ShowsNumber ts c.args.slot (get_or items i none).offset (get_or items i none).width (number_at image (get_or items i none).offset (get_or items i none).width)) before
                c.in_ok-compare_register-2.ensures.shown)
          ];
    }

pub returns-clause-shown : goal.returns-clause-shown
returns-clause-shown g c =
    let items = c.address_registers-register-items.result.now in
    let image = c.args.image.now.0 in
    let table = c.address_registers-register-items.ensures.places ∙ ap registers_by c.or_device.ensures in
    let same : g.P.ConfigPort.targets c.compare_register.new.port ≡ g.P.ConfigPort.targets c.args.port.now = c.in_ok-compare_register.ensures.same in
    all_shown items image table (g.P.ConfigPort.targets c.args.port.now) c.args.slot c.in_ok-compare_register.ensures.shown
    (λ k d less.
    subst (λ ts. ShowsNumber ts c.args.slot (get_or items k d).offset (get_or items k d).width (number_at image (get_or items k d).offset (get_or items k d).width)) same
    (c.loop-register.invariant.shown k d (let out = c.loop-register-test.false in omega (arith, less, out))))
