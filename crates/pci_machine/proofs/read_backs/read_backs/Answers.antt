use Rattle.std.proofs.Common.{◌≡◌, ◌+◌, ◌<◌, ◌/◌, ◌%◌, ◌^◌, ℕ, true, Some, map, get_or, arith, refl, sym, ◌∙◌, ap}
use Rattle.std.specs.List.{range_with_len}
use Rattle.std.proofs.lemmas.Result.{err_from_is_err_and}
use Rattle.pci_spec.specs.Number.{number_at, byte_at}
use Rattle.pci_spec.specs.Header.{layout}
use Rattle.pci_spec.specs.Machine.{Target, sizing_ones, written, read_back, register_at, sized}
use Rattle.pci_spec.specs.Port.{IsTarget, is_access}
use Rattle.pci_spec.specs.Sizing.{function_at}
use Rattle.pci_machine.proofs.Bytes.{IsImage-written}
use Rattle.pci_machine.proofs.Sizing.{target-there, digit_of_number}
use Rattle.pci_machine.proofs.Turns.{none, pair_of}
use Rattle.pci_machine.proofs.Filled.{none_filled, more_filled, all_filled}
use Rattle.pci_machine.proofs.read_backs.read_backs.Goals as goal

-- the bytes of what a register reads back
digit : (t : Target) (r : ℕ × ℕ) (ones value j : ℕ) → IsTarget t → ones ≡ sizing_ones (layout t.image) r.0 → is_access r.0 r.1 ≡ true → value ≡ number_at (written t r.0 r.1 ones) r.0 r.1
    → j < r.1 → value / 256 ^ j % 256 ≡ read_back t (r.0 + j) (Some r)
digit t r ones value j target ones_are access value_is below =
    ap (λ n. n / 256 ^ j % 256) value_is ∙ digit_of_number (written t r.0 r.1 ones) r.0 r.1 j (IsImage-written t r.0 r.1 ones target.image) access below
    ∙ ap (λ n. byte_at (written t r.0 r.1 n) (r.0 + j)) ones_are

pub loop-register-init : goal.loop-register-init
loop-register-init g c =
    let table = c.address_registers-register-items.ensures in
    record {
      same = refl;
      counted = refl;
      there = c.requires.there;
      lawful = c.requires.lawful;
      filled = none_filled c.args.layout c.address_registers-register-items.result.now (read_back (function_at (g.P.ConfigPort.targets c.args.port.now) c.args.slot)) table.places table.roles (λ place. refl);
    }

pub read_back-requires-clause-access : goal.read_back-requires-clause-access
read_back-requires-clause-access g c =
    let turn = c.loop-register.invariant.filled.turn c.loop-register.register-index c.loop-register-test.true in
    rw (c.sizing_ones-ones.ensures c.args.layout turn.placed) turn.sizable

pub read_back-requires-clause-plain : goal.read_back-requires-clause-plain
read_back-requires-clause-plain g c =
    let so_far = c.loop-register.invariant in
    let targets = g.P.ConfigPort.targets c.loop-register.port in
    (so_far.filled.turn c.loop-register.register-index c.loop-register-test.true).plain (function_at targets c.args.slot) (target-there targets c.args.slot so_far.lawful so_far.there)
    (ap (λ xs. layout (function_at xs c.args.slot).image) so_far.same ∙ c.requires.header)

pub put-requires : goal.put-requires
put-requires g c = (c.loop-register.invariant.filled.turn c.loop-register.register-index c.loop-register-test.true).access

pub returns-in_err-value : goal.returns-in_err-value
returns-in_err-value g c =
    let so_far = c.loop-register.invariant in
    let stopped = c.in_err-value.ensures in
    let turn = so_far.filled.turn c.loop-register.register-index c.loop-register-test.true in
    let left = rw so_far.same at stopped.left in
    let p = err_from_is_err_and c.from_residual.result c.from_residual.ensures.1 in
    rw (p.1, p.2, stopped.stop) record {
      read_backs = tt;
      kept = tt;
      stop = (refl, rw c.requires.header turn.begins);
      failed = record { before = stopped.failed.before; first = stopped.failed.first ∙ so_far.counted; last = stopped.failed.last };
      left = (left.0, left.1, turn.differs (function_at (g.P.ConfigPort.targets c.args.port.now) c.args.slot).image left.0 c.requires.header left.2);
      counted = stopped.counted ∙ ap (λ n. n + 1) so_far.counted;
      there = stopped.there;
      lawful = stopped.lawful;
    }

pub loop-register-preserved : goal.loop-register-preserved
loop-register-preserved g c =
    let so_far = c.loop-register.invariant in
    let read = c.in_ok-value.ensures in
    let items = c.address_registers-register-items.result.now in
    let k = c.loop-register.register-index in
    let turn = so_far.filled.turn k c.loop-register-test.true in
    let r = get_or items k none in
    let t = function_at (g.P.ConfigPort.targets c.args.port.now) c.args.slot in
    record {
      same = read.kept ∙ so_far.same;
      counted = omega (arith, read.counted, so_far.counted);
      there = read.there;
      lawful = read.lawful;
      filled = more_filled c.args.layout items (read_back t) k c.loop-register.bytes c.put.new.bytes c.loop-register-test.true so_far.filled c.put.array_long
          (λ j below. c.put.ensures.inside j below ∙ digit t (pair_of r) c.sizing_ones-ones.result c.in_ok-value.value j (target-there (g.P.ConfigPort.targets c.args.port.now) c.args.slot c.requires.lawful c.requires.there)
          (c.sizing_ones-ones.ensures c.args.layout turn.placed ∙ ap (λ n. sizing_ones n r.offset) (sym c.requires.header)) turn.access
          (read.value ∙ ap (λ xs. number_at (written (function_at xs c.args.slot) r.offset r.width c.sizing_ones-ones.result) r.offset r.width) so_far.same) below)
          c.put.ensures.outside;
    }

pub returns-clause-read_backs : goal.returns-clause-read_backs
unfolding sized
returns-clause-read_backs g c =
    let t = function_at (g.P.ConfigPort.targets c.args.port.now) c.args.slot in
    all_filled c.args.layout c.address_registers-register-items.result.now (read_back t) c.loop-register.register-index c.loop-register.bytes c.loop-register-test.false c.loop-register.invariant.filled
    ∙ ap (λ m. map (λ place. read_back t place (register_at m place)) (range_with_len 0 256)) (sym c.requires.header)
