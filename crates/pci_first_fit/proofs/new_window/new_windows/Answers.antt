use Rattle.std.proofs.Common.{◌≡◌, ◌+◌, ◌-◌, ◌≤◌, ℕ, length, arith, sym, ◌∙◌, subst}
use Rattle.pci_base.specs.WindowKinds.{kind_value}
use Rattle.pci_place.specs.Above.{system_in}
use Rattle.pci_place.proofs.Records.{lent, same_count}
use Rattle.pci_first_fit.specs.Buses.{classing_value}
use Rattle.pci_first_fit.proofs.NewWindows.{AreWindowsOrLarge, windows_none, step_same, step_put, whole_windows, marked_windows}
use Rattle.pci_first_fit.proofs.new_window.new_windows.Goals as goal
use Rattle.pci_first_fit.proofs.new_window.new_windows.Goals.{in-Some+in_ok-fits, in_default}

pub loop-done-init : goal.loop-done-init
loop-done-init g c =
    let s = system_in c.args.classing.now.admitted.now in
    let admitted = c.outline-outline.ensures.admitted in
    windows_none (classing_value c.args.classing.now) admitted.system admitted.nested (kind_value c.args.class) (length s - 0) (omega arith)

pub loop-done-preserved : goal.loop-done-preserved
loop-done-preserved g c =
    let s = system_in c.args.classing.now.admitted.now in
    let admitted = c.outline-outline.ensures.admitted in
    let records = c.records-records.result.now in
    let has = lent s records c.records-records.ensures.value c.outline-outline.ensures.records in
    let p = classing_value c.args.classing.now in
    let class = kind_value c.args.class in
    elim c.match-record.branch [
      | in-Some+in_ok-fits w ↦
          let put = step_put p admitted.system admitted.nested class records has c.loop-done.done c.index-records-function.result c.loop-done-test.true c.index-records-function.is
          c.loop-done.windows c.loop-done.large c.loop-done.invariant w.in-Some.bridge w.in-Some.is
          w.wanted-wanted.result w.wanted-wanted.ensures w.put_window.new.windows w.in_ok-fits.fits w.in_ok-fits.ensures.put w.put_window.ensures.lawful in
          subst (λ xs. AreWindowsOrLarge p class (length s - (c.loop-done.done + 1)) xs c.match-record.large) (sym w.windows-is)
          (subst (AreWindowsOrLarge p class (length s - (c.loop-done.done + 1)) w.put_window.new.windows) (sym (w.large-is ∙ w.first_large-large.ensures)) put)
      | in_default w ↦
          let same = step_same p admitted.system admitted.nested class records has c.loop-done.done c.index-records-function.result c.loop-done-test.true c.index-records-function.is
          c.loop-done.windows c.loop-done.large c.loop-done.invariant w.in_default.is in
          subst (λ xs. AreWindowsOrLarge p class (length s - (c.loop-done.done + 1)) xs c.match-record.large) (sym w.windows-is)
          (subst (AreWindowsOrLarge p class (length s - (c.loop-done.done + 1)) c.loop-done.windows) (sym w.large-is) same)
    ]

at_start : (n done : ℕ) → n ≤ done → n - done ≡ 0
at_start n done h = omega (arith, h)

pub returns-clause-windows : goal.returns-clause-windows
returns-clause-windows g c =
    let s = system_in c.args.classing.now.admitted.now in
    let admitted = c.outline-outline.ensures.admitted in
    let records = c.records-records.result.now in
    let has = lent s records c.records-records.ensures.value c.outline-outline.ensures.records in
    let count = same_count s records has in
    let start = at_start (length s) c.loop-done.done (omega (arith, count)) in
    whole_windows (classing_value c.args.classing.now) admitted.system admitted.nested (kind_value c.args.class) c.loop-done.windows c.loop-done.large
    (subst (λ n. AreWindowsOrLarge (classing_value c.args.classing.now) (kind_value c.args.class) n c.loop-done.windows c.loop-done.large) start c.loop-done.invariant)

pub returns-clause-marked : goal.returns-clause-marked
returns-clause-marked g c =
    let s = system_in c.args.classing.now.admitted.now in
    let admitted = c.outline-outline.ensures.admitted in
    let records = c.records-records.result.now in
    let has = lent s records c.records-records.ensures.value c.outline-outline.ensures.records in
    let count = same_count s records has in
    let start = at_start (length s) c.loop-done.done (omega (arith, count)) in
    marked_windows (classing_value c.args.classing.now) admitted.system admitted.nested (kind_value c.args.class) c.loop-done.windows c.loop-done.large
    (subst (λ n. AreWindowsOrLarge (classing_value c.args.classing.now) (kind_value c.args.class) n c.loop-done.windows c.loop-done.large) start c.loop-done.invariant)
