-- What a table places lies in the pool of its class, at a multiple of its size.
use Rattle.std.proofs.Common.{◌≡◌, ℕ, zero, suc, ◌+◌, ◌%◌, ◌<◌, ◌≤◌, inl, inr, List, true, ◌&&◌, arith, sym, subst}
use Rattle.std.specs.Bool.{nat_lt, if◌then◌else◌}
use Rattle.std.specs.List.{Contains, sum}
use Rattle.std.proofs.lemmas.Bool.{and_parts, and_from, cases_Bool, lt-ltb}
use Rattle.std.proofs.lemmas.Nat.{pow_pos}
use Rattle.pci_spec.specs.Number.{lowest_one}
use Rattle.pci_spec.specs.Bar.{bar_at, is_io, whole_bar}
use Rattle.pci_spec.specs.Window.{WindowKind}
use Rattle.pci_spec.specs.Rom.{rom_at}
use Rattle.pci_spec.specs.Decoded.{Range}
use Rattle.pci_spec.specs.System.{System, Function, IsSystem, Part, Bar, Rom, Window, is_bridge}
use Rattle.pci_spec.specs.Bus.{secondary, is_root, IsNested}
use Rattle.plan_spec.specs.Plan.{Pools, pool_of, same_class, items_on}
use Rattle.pci_spec.proofs.BusRanges.{root_means}
use Rattle.plan_spec.specs.Planning.Room.{root_items}
use Rattle.plan_spec.specs.Planning.Table.{need_behind, is_placed, size_in, IsTable}
use Rattle.plan_spec.proofs.Planning.Placement.{power_pos, window_least}
use Rattle.plan_spec.proofs.Planning.Needed.{needed, size_power}
use Rattle.plan_spec.proofs.Planning.Safe.{order_of}
use Rattle.plan_spec.proofs.Planning.Tables.{class_itself, is_at, some_items}

-- so many addresses from a place on, in a pool
pub record IsInPool (pool : Range) (first size : ℕ) : Type 0 where
  pub some : 0 < size
  pub low : pool.first ≤ first
  pub high : first + size ≤ pool.last + 1
  pub multiple : first % size ≡ 0

module _ (roots : List ℕ) (s : System) (pools : Pools) (system : IsSystem s) (nested : IsNested roots s) (first : Function → Part → ℕ) (c : WindowKind) (table : IsTable roots s pools c first) where
  size_some : (f : Function) (p : Part) → Contains s f → is_placed s pools c f p ≡ true → 0 < size_in s pools c f p
  size_some f (Bar n) listed there = pow_pos (lowest_one (if is_io (bar_at f.probe n) then 2 else 4) (whole_bar f.probe f.probe n))
  size_some f Rom listed there = pow_pos (lowest_one 0 (rom_at f.image f.probe))
  size_some f (Window kind) listed there =
      let outer = and_parts (is_bridge f && same_class c kind) (nat_lt 0 (need_behind s pools c f)) there in
      let inner = and_parts (is_bridge f) (same_class c kind) outer.0 in
      power_pos (size_in s pools c f (Window kind)) (size_power s pools c f (Window kind) (table.small f listed inner.0))

  need_above : (f : Function) (p : Part) → Contains s f → is_placed s pools c f p ≡ true → (b : Function) → secondary b ≡ f.slot.bus → 0 < need_behind s pools c b
  need_above f p listed there b to = subst (λ bus. 0 < sum (items_on s pools c bus)) (sym to) (needed s pools c roots system nested f p listed there table.small)

  pub window_placed : (b : Function) → is_bridge b ≡ true → 0 < need_behind s pools c b → is_placed s pools c b (Window c) ≡ true
  window_placed b bridge need =
      and_from (is_bridge b && same_class c c) (nat_lt 0 (need_behind s pools c b))
      (and_from (is_bridge b) (same_class c c) bridge (class_itself c)) (lt-ltb 0 (need_behind s pools c b) need)

  on_root : (f : Function) (p : Part) → Contains s f → is_placed s pools c f p ≡ true → Contains roots f.slot.bus → IsInPool (pool_of pools c) (first f p) (size_in s pools c f p)
  on_root f p listed there root =
      let a = is_at s pools c first (λ h. Contains roots h.slot.bus) (sum (root_items roots s pools c)) table.start table.placed_roots table.on_roots f p listed root there in
      let some = some_items s pools c first (λ h. Contains roots h.slot.bus) (sum (root_items roots s pools c)) table.start table.placed_roots table.on_roots f p listed root there in
      let from = table.low some in
      let to = table.high some in
      let low = a.low in
      let high = a.high in
      record { some = size_some f p listed there; low = omega (arith, from, low); high = omega (arith, to, high); multiple = a.multiple }

  behind : (f : Function) (p : Part) → Contains s f → is_placed s pools c f p ≡ true → (b : Function) → Contains s b → is_bridge b ≡ true → secondary b ≡ f.slot.bus → (need : 0 < need_behind s pools c b)
      → IsInPool (pool_of pools c) (first b (Window c)) (size_in s pools c b (Window c)) → IsInPool (pool_of pools c) (first f p) (size_in s pools c f p)
  behind f p listed there b in_b bridge to need outer =
      let a = is_at s pools c first (λ h. h.slot.bus ≡ secondary b) (need_behind s pools c b) (first b (Window c)) (table.behind_items b) (table.behind b in_b bridge need) f p listed (sym to) there in
      let enough = (window_least c (need_behind s pools c b) (table.small b in_b bridge)).enough in
      let from = outer.low in
      let end = outer.high in
      let low = a.low in
      let high = a.high in
      record { some = size_some f p listed there; low = omega (arith, from, low); high = omega (arith, end, high, enough); multiple = a.multiple }

  -- buses rise on the way down, so the way up ends on a root
  below : (n : ℕ) (f : Function) (p : Part) → f.slot.bus < n → Contains s f → is_placed s pools c f p ≡ true → IsInPool (pool_of pools c) (first f p) (size_in s pools c f p)
  below zero f p less listed there = absurd (let impossible : ⊥ = omega (arith, less) in impossible)
  below (suc n) f p less listed there = elim (cases_Bool (is_root roots f.slot.bus)) [
    | inl root ↦ on_root f p listed there ((root_means roots f.slot.bus).0 root)
    | inr off ↦
        let one = nested.one f listed off in
        let b = one.0 in
        let leads = one.1 in
        let to = leads.2 in
        let rises = order_of roots s nested b leads.0 leads.1 in
        let need = need_above f p listed there b to in
        behind f p listed there b leads.0 leads.1 to need (below n b (Window c) (omega (arith, less, rises, to)) leads.0 (window_placed b leads.1 need))
  ]

  pub in_pool : (f : Function) (p : Part) → Contains s f → is_placed s pools c f p ≡ true → IsInPool (pool_of pools c) (first f p) (size_in s pools c f p)
  in_pool f p listed there = below (suc f.slot.bus) f p (omega arith) listed there
