use Rattle.std.proofs.Common.{◌≡◌, length, arith, sym, subst, ◌∙◌, IfSome}
use Rattle.pci_base.specs.WindowKinds.{kind_value}
use Rattle.pci_place.specs.Above.{system_in}
use Rattle.pci_place.specs.Items.{function_in}
use Rattle.pci_grow.specs.There.{tables_of, there_told}
use Rattle.pci_grow.specs.Telling.{setting_value, IsComing}
use Rattle.pci_grow.proofs.Taking.{none_more, short_more, past_more, functions_in, item_parts, has_parts}
use Rattle.pci_grow.proofs.finding.take.Goals as goal

pub returns-in_default : goal.returns-in_default
returns-in_default g c = λ q number count next latest.
    let p = setting_value c.args.setting.now in
    let s = system_in c.args.setting.now.classing.now.admitted.now in
    let t = tables_of c.args.there.now in
    let comes = subst (IsComing q s (there_told s t) (kind_value c.args.class) (function_in s c.args.region.now.function)) c.in_default.is (c.in_ok-coming.ensures.comes q number count next) in
    none_more p t c.args.region.now c.args.class c.requires.window q number count next comes

pub returns-then-not-is_past : goal.returns-then-not-is_past
returns-then-not-is_past g c = λ q number count next latest.
    let p = setting_value c.args.setting.now in
    let s = system_in c.args.setting.now.classing.now.admitted.now in
    let t = tables_of c.args.there.now in
    let comes = subst (IsComing q s (there_told s t) (kind_value c.args.class) (function_in s c.args.region.now.function)) c.in-Some.is (c.in_ok-coming.ensures.comes q number count next) in
    short_more p t c.args.region.now c.args.class c.requires.window q number count next c.in-Some.coming.range comes.0 c.args.end latest (sym c.is_past.ensures ∙ c.if-not-is_past.true)

pub note_coming-requires-clause-kept : goal.note_coming-requires-clause-kept
note_coming-requires-clause-kept g c = let size = c.requires.next.is.told.kept in let low = c.requires.function in omega (arith, size, low)

pub note_coming-requires-clause-grown : goal.note_coming-requires-clause-grown
note_coming-requires-clause-grown g c = let size = c.requires.next.is.told.grown in let low = c.requires.function in omega (arith, size, low)

pub note_coming-requires-clause-functions : goal.note_coming-requires-clause-functions
note_coming-requires-clause-functions g c =
    let s = system_in c.args.setting.now.classing.now.admitted.now in
    let t = tables_of c.args.there.now in
    let some = c.requires.next in
    let comes = subst (IsComing some.request s (there_told s t) (kind_value c.args.class) (function_in s c.args.region.now.function)) c.in-Some.is (c.in_ok-coming.ensures.comes some.request some.number some.count some.is) in
    let even = subst (λ o. IfSome o (λ x. length x.places.items ≡ length x.items.items)) c.in-Some.is c.in_ok-coming.ensures.count in
    functions_in (setting_value c.args.setting.now) t c.args.region.now c.args.class c.requires.window some.request some.number some.count some.is c.in-Some.coming.items.items c.in-Some.coming.places.items even comes.1

pub note_coming-requires-clause-parts : goal.note_coming-requires-clause-parts
note_coming-requires-clause-parts g c =
    let s = system_in c.args.setting.now.classing.now.admitted.now in
    let t = tables_of c.args.there.now in
    let some = c.requires.next in
    let comes = subst (IsComing some.request s (there_told s t) (kind_value c.args.class) (function_in s c.args.region.now.function)) c.in-Some.is (c.in_ok-coming.ensures.comes some.request some.number some.count some.is) in
    let even = subst (λ o. IfSome o (λ x. length x.places.items ≡ length x.items.items)) c.in-Some.is c.in_ok-coming.ensures.count in
    item_parts (setting_value c.args.setting.now) t c.args.region.now c.args.class c.requires.window some.request some.number some.count some.is c.in-Some.coming.items.items c.in-Some.coming.places.items even comes.1

pub note_coming-requires-clause-count : goal.note_coming-requires-clause-count
note_coming-requires-clause-count g c = subst (λ o. IfSome o (λ x. length x.places.items ≡ length x.items.items)) c.in-Some.is c.in_ok-coming.ensures.count

pub returns : goal.returns
returns g c = λ q number count next latest.
    let p = setting_value c.args.setting.now in
    let s = system_in c.args.setting.now.classing.now.admitted.now in
    let t = tables_of c.args.there.now in
    let items = c.in-Some.coming.items.items in
    let firsts = c.in-Some.coming.places.items in
    let comes = subst (IsComing q s (there_told s t) (kind_value c.args.class) (function_in s c.args.region.now.function)) c.in-Some.is (c.in_ok-coming.ensures.comes q number count next) in
    let even = subst (λ o. IfSome o (λ x. length x.places.items ≡ length x.items.items)) c.in-Some.is c.in_ok-coming.ensures.count in
    past_more p t c.args.region.now c.args.class c.requires.window q number count next c.in-Some.coming.range comes.0 c.args.end latest items firsts comes.1
    (sym c.is_past.ensures ∙ c.if-not-is_past.false) (tables_of c.note_coming.new.there) c.note_coming.ensures.noted
    (c.note_coming.ensures.placed s next.growing.system (sym next.told.places) (has_parts p t c.args.region.now c.args.class c.requires.window q number count next items firsts even comes.1))
