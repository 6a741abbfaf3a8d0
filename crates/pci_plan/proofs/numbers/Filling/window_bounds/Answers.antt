use Rattle.std.proofs.Common.{arith, ◌≡◌, ◌<◌, ◌+◌, ◌-◌, ◌^◌, ◌∙◌, ap, sym}
use Rattle.plan_spec.specs.Plan.{window_size, need_of}
use Rattle.pci_spec.specs.System.{Window}
use Rattle.pci_spec.specs.Bus.{secondary}
use Rattle.plan_spec.specs.Place.{nibble_of}
use Rattle.pci_spec.specs.Window.{closed_bounds, bounds_for}
use Rattle.pci_base.specs.WindowKinds.{kind_value}
use Rattle.pci_place.specs.Places.{first_in}
use Rattle.pci_base.specs.Bounds.{address_bits}
use Rattle.pci_plan.proofs.FilledWindows.{nibble_few, closed_is, open_at, IsOpenAt, need_is, size, address_bits_few}
use Rattle.pci_plan.proofs.numbers.Filling.window_bounds.Goals as goal
use Rattle.pci_plan.proofs.numbers.Filling.window_bounds.Goals.{After-need-need, After-window_size_of}

small_nibble : (c : After-need-need) → c.args.nibble < 16
small_nibble c =
    let of = c.requires.of in
    let e = c.requires.nibble of in
    let few = nibble_few c.args.self.now of c.args.bridge.now c.requires.bridge c.args.class in
    omega (arith, e, few)

pub closed-requires : goal.closed-requires
closed-requires c = small_nibble (goal.at.closed-requires c).After-need-need

pub returns-then-need-eq0 : goal.returns-then-need-eq0
returns-then-need-eq0 c of =
    let kind = kind_value c.args.class in
    c.closed.ensures ∙ ap (λ n. closed_bounds kind n) (c.requires.nibble of)
    ∙ sym (closed_is c.args.self.now of c.args.bridge.now c.requires.bridge c.args.class (c.requires.there of) (sym c.need-need.ensures ∙ c.if-need-eq0.true))

pub window_size_of-requires : goal.window_size_of-requires
window_size_of-requires c =
    let of = c.requires.of in
    let e = c.need-need.ensures ∙ need_is c.args.self.now of c.args.bridge.now c.requires.bridge c.args.class in
    omega (arith, e)

-- ---- of an open window

opened : (c : After-window_size_of) → IsOpenAt c.args.self.now c.requires.of c.args.bridge.now c.requires.bridge c.args.class
opened c =
    let e = c.need-need.ensures in
    let some = c.if-need-eq0.false in
    open_at c.args.self.now c.requires.of c.args.bridge.now c.requires.bridge c.args.class (c.requires.there c.requires.of) (omega (arith, e, some))

-- its size and its last address
size_is : (c : After-window_size_of) → c.window_size_of.result ≡ window_size (kind_value c.args.class) (need_of c.requires.of.system c.requires.of.pools (kind_value c.args.class) (secondary c.requires.of.function))
size_is c =
    c.window_size_of.ensures
    ∙ ap (λ n. window_size (kind_value c.args.class) n) (c.need-need.ensures ∙ need_is c.args.self.now c.requires.of c.args.bridge.now c.requires.bridge c.args.class)

last_is : (c : After-window_size_of)
    → c.from.result + (c.window_size_of.result - 1) ≡ first_in c.args.self.now.places.now (Window (kind_value c.args.class)) + (size c.args.self.now c.requires.of c.args.bridge.now c.requires.bridge c.args.class - 1)
last_is c =
    let e = size_is c in
    let f = c.from.ensures ∙ c.window_place-first.ensures in
    omega (arith, e, f)

below : (c : After-window_size_of) → c.from.result + (c.window_size_of.result - 1) < 2 ^ address_bits c.args.class
below c =
    let at = opened c in
    let some = at.some in
    let high = at.high in
    let e = last_is c in
    omega (arith, some, high, e)

pub overflow_sub-last : goal.overflow_sub-last
overflow_sub-last c =
    let some = (opened c).some in
    let e = size_is c in
    omega (arith, some, e)

pub overflow_add-last : goal.overflow_add-last
overflow_add-last c =
    let less = below c in
    let few = address_bits_few c.args.class in
    omega (arith, less, few)

pub overflow_cast-last : goal.overflow_cast-last
overflow_cast-last c =
    let less = below c in
    let few = address_bits_few c.args.class in
    omega (arith, less, few)

pub open-requires-clause-nibble : goal.open-requires-clause-nibble
open-requires-clause-nibble c = small_nibble (goal.at.open-requires-clause-nibble c).After-need-need

pub open-requires-clause-first : goal.open-requires-clause-first
open-requires-clause-first c =
    let at = opened c in
    let some = at.some in
    let high = at.high in
    let e = c.window_place-first.ensures in
    omega (arith, some, high, e)

pub open-requires-clause-last : goal.open-requires-clause-last
open-requires-clause-last c = below c

pub returns : goal.returns
returns c of =
    let kind = kind_value c.args.class in
    let e = c.need-need.ensures in
    let need = c.if-need-eq0.false in
    let at = open_at c.args.self.now of c.args.bridge.now c.requires.bridge c.args.class (c.requires.there of) (omega (arith, e, need)) in
    let first = c.window_place-first.ensures in
    let count : c.window_size_of.result ≡ size c.args.self.now of c.args.bridge.now c.requires.bridge c.args.class =
    c.window_size_of.ensures ∙ ap (λ n. window_size (kind_value c.args.class) n) (e ∙ need_is c.args.self.now of c.args.bridge.now c.requires.bridge c.args.class) in
    c.open.ensures ∙ ap (λ n. bounds_for kind n c.window_place-first.result (c.from.result + (c.window_size_of.result - 1))) (c.requires.nibble of)
    ∙ ap (λ last. bounds_for kind (nibble_of kind of.function) c.window_place-first.result last) (ap (λ n. n + (c.window_size_of.result - 1)) (c.from.ensures ∙ first) ∙ ap (λ n. first_in c.args.self.now.places.now (Window kind) + (n - 1)) count)
    ∙ ap (λ low. bounds_for kind (nibble_of kind of.function) low (first_in c.args.self.now.places.now (Window kind) + (size c.args.self.now of c.args.bridge.now c.requires.bridge c.args.class - 1))) first
    ∙ sym at.bounds
