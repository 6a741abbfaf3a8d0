-- The reach of a window is told by that of the window above it, which is on a lower bus.
use Rattle.std.proofs.Common.{◌≡◌, ℕ, zero, suc, ◌<◌, cond, arith, sym, ◌∙◌, ap, refl, Option, None, Some}
use Rattle.std.specs.List.{find}
use Rattle.pci_spec.specs.Window.{WindowKind}
use Rattle.pci_spec.specs.Decoded.{Range}
use Rattle.pci_spec.specs.System.{System, Function}
use Rattle.pci_spec.specs.Bus.{is_root, IsNested}
use Rattle.plan_spec.proofs.Planning.Safe.{order_of}
use Rattle.settle_spec.specs.Lists.{Request}
use Rattle.settle_spec.specs.Parts.{addresses, bridge_over, lies_within}
use Rattle.settle_spec.specs.Stands.{window_part}
use Rattle.settle_spec.specs.Reach.{root_window_ranges, range_over, room_around, reach_if, reach_within, reach}
use Rattle.settle_spec.proofs.BridgeOver.{over_leads}

reach_step : (q : Request) (s : System) (c : WindowKind) (depth : ℕ) (b : Function) → reach_within q s c (suc depth) b ≡ reach_if q s c b (room_around q s c (reach_within q s c depth) b)
unfolding reach_within
reach_step q s c depth b = refl

module _ (q : Request) (s : System) (nested : IsNested q.roots s) (c : WindowKind) where
  over_by : (d e : Function → Range) (bus : ℕ) → ((over : Function) → over.slot.bus < bus → d over ≡ e over) → (o : Option Function) → bridge_over s bus ≡ o → range_over d o ≡ range_over e o
  over_by d e bus same None over = refl
  over_by d e bus same (Some b) over =
      let leads = over_leads s bus b over in
      let up = order_of q.roots s nested b leads.0 leads.1 in
      let to = leads.2 in
      ap Some (same b (omega (arith, up, to)))

  -- what a window is in is told by what is on lower buses
  pub room_by : (d e : Function → Range) (b : Function) → ((over : Function) → over.slot.bus < b.slot.bus → d over ≡ e over) → room_around q s c d b ≡ room_around q s c e b
  room_by d e b same =
      ap (cond (is_root q.roots b.slot.bus) (find (lies_within (addresses (window_part c b))) (root_window_ranges q c b.slot.bus)))
      (over_by d e b.slot.bus same (bridge_over s b.slot.bus) refl)

  enough : (d e : ℕ) (b : Function) → b.slot.bus < d → b.slot.bus < e → reach_within q s c d b ≡ reach_within q s c e b
  enough zero e b hd he = absurd (let no : ⊥ = omega (arith, hd) in no)
  enough (suc d) zero b hd he = absurd (let no : ⊥ = omega (arith, he) in no)
  enough (suc d) (suc e) b hd he =
      reach_step q s c d b
      ∙ ap (reach_if q s c b) (room_by (reach_within q s c d) (reach_within q s c e) b (λ over low. enough d e over (omega (arith, low, hd)) (omega (arith, low, he))))
      ∙ sym (reach_step q s c e b)

  pub reach_by_bus : (b : Function) → b.slot.bus < 256 → reach q s c b ≡ reach_if q s c b (room_around q s c (reach q s c) b)
  reach_by_bus b low =
      reach_step q s c 255 b
      ∙ ap (reach_if q s c b) (room_by (reach_within q s c 255) (reach_within q s c 256) b (λ over under. enough 255 256 over (omega (arith, under, low)) (omega (arith, under, low))))
