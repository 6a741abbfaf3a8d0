-- Whether a window can end later, or be opened, is told by the window over its bridge.
use Rattle.std.proofs.Common.{◌≡◌, ◌&&◌, ℕ, zero, suc, ◌<◌, not, arith, refl, sym, ◌∙◌, ap, Option, None, Some, List, ◌++◌}
use Rattle.std.specs.Bool.{nat_le, if◌then◌else◌}
use Rattle.std.specs.List.{Contains}
use Rattle.std.specs.Option.{option_map}
use Rattle.pci_spec.specs.Decoded.{Range}
use Rattle.pci_spec.specs.Window.{WindowKind, has_window}
use Rattle.pci_spec.specs.System.{System, Function, IsSystem, window_space}
use Rattle.pci_spec.specs.Bus.{is_root, IsNested, LeadsTo}
use Rattle.plan_spec.proofs.Planning.Safe.{order_of, slots_of}
use Rattle.settle_spec.specs.FirstPlace.{Extent, first_place}
use Rattle.settle_spec.specs.Lists.{Request, class_ranges}
use Rattle.settle_spec.specs.Parts.{bridge_over}
use Rattle.settle_spec.specs.Stands.{is_fixed_part, is_in_lists, window_part}
use Rattle.settle_spec.specs.Kept.{Kept}
use Rattle.settle_spec.specs.Wishes.{range_then, taken_then, with_window, with_bridge, ending_at, end_over, can_end_at, ending_if, ending_within, Spared, held_by, opened_at, spared_if, spared_within}
use Rattle.settle_spec.proofs.BridgeOver.{over_leads}
use Rattle.settle_laws.specs.SparingLaws.{EndingIsByBus, SparedIsByBus}
use Rattle.settle_spec.specs.Lines.{lines_behind}

module _ (q : Request) (s : System) (c : WindowKind) (system : IsSystem s) (nested : IsNested q.roots s) where
  -- what is asked of the bridge over a bus
  by_over : {T : Type 0} (d e : Function → Option T) (bus : ℕ) → ((f : Function) → LeadsTo s f bus → d f ≡ e f) → with_bridge d (bridge_over s bus) ≡ with_bridge e (bridge_over s bus)
  by_over {T} d e bus same = by (bridge_over s bus) refl
    where
      by : (o : Option Function) → bridge_over s bus ≡ o → with_bridge d o ≡ with_bridge e o
      by None at = refl
      by (Some f) at = same f (over_leads s bus f at)

  -- a bridge over a bus is on a lower one
  lower : (f : Function) (bus : ℕ) → LeadsTo s f bus → f.slot.bus < bus
  lower f bus leads = (let up = order_of q.roots s nested f leads.0 leads.1 in let to = leads.2 in omega (arith, up, to))

  -- ---- an open window

  ended_by : (d e : Function → ℕ → Kept → Option Kept) (b : Function) → ((f : Function) → LeadsTo s f b.slot.bus → (last : ℕ) (k : Kept) → d f last k ≡ e f last k)
      → (last : ℕ) (k : Kept) (o : Option Range) → ending_if q s c d b last k o ≡ ending_if q s c e b last k o
  ended_by d e b same last k None = refl
  ended_by d e b same last k (Some w) =
      let v = ending_at w (end_over c w last) in
      ap (λ (over : Option Kept). if nat_le last w.last then Some k
      else if can_end_at q s c b k w (end_over c w last)
      then option_map (with_window (window_part c b) v)
      (if is_root q.roots b.slot.bus then if is_in_lists q b.slot.bus v (window_space c) then Some k else None else over)
      else None)
      (by_over (λ f. d f v.last k) (λ f. e f v.last k) b.slot.bus (λ f leads. same f leads v.last k))

  ended_step : (depth : ℕ) (b : Function) (last : ℕ) (k : Kept) → ending_within q s c (suc depth) b last k ≡ ending_if q s c (ending_within q s c depth) b last k (range_then q s k (window_part c b))
  unfolding ending_within
  ended_step depth b last k = refl

  enough : (d e : ℕ) (b : Function) → b.slot.bus < d → b.slot.bus < e → (last : ℕ) (k : Kept) → ending_within q s c d b last k ≡ ending_within q s c e b last k
  enough zero e b less_d less_e last k = absurd (let no : ⊥ = omega (arith, less_d) in no)
  enough (suc d) zero b less_d less_e last k = absurd (let no : ⊥ = omega (arith, less_e) in no)
  enough (suc d) (suc e) b less_d less_e last k =
      ended_step d b last k
      ∙ ended_by (ending_within q s c d) (ending_within q s c e) b
      (λ f leads. (let below = lower f b.slot.bus leads in enough d e f (omega (arith, below, less_d)) (omega (arith, below, less_e)))) last k (range_then q s k (window_part c b))
      ∙ sym (ended_step e b last k)

  pub ending_by_bus : (b : Function) → Contains s b → (last : ℕ) (k : Kept) → ending_within q s c 256 b last k ≡ ending_if q s c (ending_within q s c 256) b last k (range_then q s k (window_part c b))
  ending_by_bus b listed last k =
      let few = (slots_of s system b listed).0 in
      ended_step 255 b last k
      ∙ ended_by (ending_within q s c 255) (ending_within q s c 256) b
      (λ f leads. (let below = lower f b.slot.bus leads in enough 255 256 f (omega (arith, below, few)) (omega (arith, below, few)))) last k (range_then q s k (window_part c b))

  -- ---- room for a spare

  spared_by : (d e : Function → Extent → List Range → Kept → Option Spared) (b : Function) → ((f : Function) → LeadsTo s f b.slot.bus → (x : Extent) (behind : List Range) (k : Kept) → d f x behind k ≡ e f x behind k)
      → (x : Extent) (behind : List Range) (k : Kept) (o : Option Range) → spared_if q s c d b x behind k o ≡ spared_if q s c e b x behind k o
  spared_by d e b same x behind k (Some w) = refl
  spared_by d e b same x behind k None =
      let held = held_by q s c b x in
      ap (λ (over : Option Spared). if has_window c b.probe && not (is_fixed_part q (window_part c b))
      then option_map (opened_at q s c b x)
      (if is_root q.roots b.slot.bus
      then option_map (λ at. record { at = at; kept = k }) (first_place (class_ranges q c b.slot.bus) (lines_behind q (window_part c b) ++ taken_then q s k (window_space c) b.slot.bus) held)
      else over)
      else None)
      (by_over (λ f. d f held (lines_behind q (window_part c b)) k) (λ f. e f held (lines_behind q (window_part c b)) k) b.slot.bus (λ f leads. same f leads held (lines_behind q (window_part c b)) k))

  spared_step : (depth : ℕ) (b : Function) (x : Extent) (behind : List Range) (k : Kept) → spared_within q s c (suc depth) b x behind k ≡ spared_if q s c (spared_within q s c depth) b x behind k (range_then q s k (window_part c b))
  unfolding spared_within
  spared_step depth b x behind k = refl

  spared_enough : (d e : ℕ) (b : Function) → b.slot.bus < d → b.slot.bus < e → (x : Extent) (behind : List Range) (k : Kept) → spared_within q s c d b x behind k ≡ spared_within q s c e b x behind k
  spared_enough zero e b less_d less_e x behind k = absurd (let no : ⊥ = omega (arith, less_d) in no)
  spared_enough (suc d) zero b less_d less_e x behind k = absurd (let no : ⊥ = omega (arith, less_e) in no)
  spared_enough (suc d) (suc e) b less_d less_e x behind k =
      spared_step d b x behind k
      ∙ spared_by (spared_within q s c d) (spared_within q s c e) b
      (λ f leads. (let below = lower f b.slot.bus leads in spared_enough d e f (omega (arith, below, less_d)) (omega (arith, below, less_e)))) x behind k (range_then q s k (window_part c b))
      ∙ sym (spared_step e b x behind k)

  pub spared_by_bus : (b : Function) → Contains s b → (x : Extent) (behind : List Range) (k : Kept) → spared_within q s c 256 b x behind k ≡ spared_if q s c (spared_within q s c 256) b x behind k (range_then q s k (window_part c b))
  spared_by_bus b listed x behind k =
      let few = (slots_of s system b listed).0 in
      spared_step 255 b x behind k
      ∙ spared_by (spared_within q s c 255) (spared_within q s c 256) b
      (λ f leads. (let below = lower f b.slot.bus leads in spared_enough 255 256 f (omega (arith, below, few)) (omega (arith, below, few)))) x behind k (range_then q s k (window_part c b))

-- The law: whether a window can end later is told by the window over its bridge.
pub ending_is_by_bus : EndingIsByBus
ending_is_by_bus q s c b last k system nested listed = ending_by_bus q s c system nested b listed last k

-- The law: so is room for a spare.
pub spared_is_by_bus : SparedIsByBus
spared_is_by_bus q s c b x behind k system nested listed = spared_by_bus q s c system nested b listed x behind k
