-- How many writes of settling are made to one slot.
use Rattle.std.proofs.Common.{◌≡◌, ℕ, ◌≤◌, List, [], ◌∷◌, ◌++◌, refl, cond, arith, ap, length}
use Rattle.std.specs.Bool.{◌==◌}
use Rattle.std.specs.List.{Contains, count_by, flat_map}
use Rattle.pci_spec.specs.Number.{number_at}
use Rattle.pci_spec.specs.Slot.{Slot, same_slot}
use Rattle.pci_spec.specs.System.{System, Function, IsSystem, is_bridge}
use Rattle.pci_spec.specs.Machine.{Write}
use Rattle.pci_spec.proofs.Members.{IsInPiece, in_flat_map_to}
use Rattle.plan_spec.specs.Planning.PlanWrites.{Change, register_write}
use Rattle.pci_spec.specs.Registers.{COMMAND}
use Rattle.settle_spec.specs.Lists.{Request}
use Rattle.settle_spec.specs.Keeping.Registers.{settled_function}
use Rattle.settle_spec.specs.Writes.{closing_registers, setting_registers}
use Rattle.settle_spec.specs.Keeping.Writes.{closed_function, change_to_closed, setting_of, closing_from, setting_from, opening_from, closings, settle_writes}
use Rattle.settle_laws.specs.WriteLaws.{most_settle_writes}
use Rattle.settle_laws.proofs.Keeping.ClosedSame.{closed_layout}
use Rattle.settle_laws.proofs.Pieces.{system_rises}
use Rattle.settle_spec.specs.Kept.{Kept}
use Rattle.settle_laws.proofs.Few.{closing_count, most_is, count_flat, count, count_both, few_flat, in_one, one, setting_count}

module _ (q : Request) (s : System) (k : Kept) (system : IsSystem s) where
  -- a write between two states of a function goes to its slot
  pub own_write : (c : Change) (r : ℕ × ℕ) (w : Write) → Contains (register_write c r) w → w.slot ≡ c.old.slot
  own_write c r w has = in_one (number_at c.new.image r.0 r.1 == number_at c.old.image r.0 r.1) record { slot = c.old.slot; offset = r.0; width = r.1; value = number_at c.new.image r.0 r.1 } w has

  pub own_writes : (c : Change) (registers : List (ℕ × ℕ)) (w : Write) → Contains (flat_map (register_write c) registers) w → w.slot ≡ c.old.slot
  own_writes c registers w has =
      let piece : IsInPiece (register_write c) registers w = in_flat_map_to (register_write c) registers w has in
      own_write c piece.of w piece.piece

  few_writes : (c : Change) (registers : List (ℕ × ℕ)) → length (flat_map (register_write c) registers) ≤ length registers
  few_writes c registers = few_flat (register_write c) registers
      (λ r. one (number_at c.new.image r.0 r.1 == number_at c.old.image r.0 r.1) record { slot = c.old.slot; offset = r.0; width = r.1; value = number_at c.new.image r.0 r.1 })

  closings_as_flat : (slot : Slot) (t : System) → count slot (closings q s k t) ≡ count slot (flat_map (closing_from q s k) t)
  closings_as_flat slot [] = refl
  closings_as_flat slot (f ∷ t) =
      let a = count_both slot (closings q s k t) (closing_from q s k f) in
      let b = count_both slot (closing_from q s k f) (flat_map (closing_from q s k) t) in
      let rest = closings_as_flat slot t in
      omega (arith, a, b, rest)

  -- The law: to a slot no more writes are made than there are registers to close and to set, and one that opens.
  pub few_each : (f : Function) → Contains s f → count_by (λ w. same_slot w.slot f.slot) (settle_writes q s k) ≤ most_settle_writes f
  few_each f listed =
      let rise = system_rises s system in
      let settings = flat_map (setting_from q s k) s in
      let all = count_both f.slot (closings q s k s) (settings ++ flat_map (opening_from q s k) s) in
      let later = count_both f.slot settings (flat_map (opening_from q s k) s) in
      let first = closings_as_flat f.slot s in
      let a = count_flat (closing_from q s k) (λ g w has. own_writes (change_to_closed q s k g) (closing_registers g) w has) s rise f listed in
      let b = count_flat (setting_from q s k) (λ g w has. own_writes (setting_of q s k g) (setting_registers (setting_of q s k g)) w has) s rise f listed in
      let c = count_flat (opening_from q s k) (λ g w has. own_write (setting_of q s k g) (COMMAND, 2) w has) s rise f listed in
      let few_closed = few_writes (change_to_closed q s k f) (closing_registers f) in
      let few_set = few_writes (setting_of q s k f) (setting_registers (setting_of q s k f)) in
      let few_opened = one (number_at (settled_function q s k f).image 4 2 == number_at (closed_function q s k f).image 4 2) record { slot = f.slot; offset = 4; width = 2; value = number_at (settled_function q s k f).image 4 2 } in
      let of_closing = closing_count (is_bridge f) in
      let of_setting = setting_count (setting_of q s k f) in
      let kind : is_bridge (closed_function q s k f) ≡ is_bridge f = ap (λ n. n == 1) (closed_layout q s k f) in
      let of_kind : ◌≡◌ {A = ℕ} (cond (is_bridge (closed_function q s k f)) 9 7) (cond (is_bridge f) 9 7) = ap (λ t. cond t 9 7) kind in
      let most = most_is (is_bridge f) in
      omega (arith, all, later, first, a, b, c, few_closed, few_set, few_opened, of_closing, of_setting, of_kind, most)
