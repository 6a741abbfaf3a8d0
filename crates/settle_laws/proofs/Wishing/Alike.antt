-- Wishes change nothing of what is kept but the room that is kept free.
use Rattle.std.proofs.Common.{◌≡◌, ◌&&◌, ℕ, zero, suc, [], ◌∷◌, not, refl, ◌∙◌, Option, None, Some, List, ◌++◌}
use Rattle.std.specs.Bool.{nat_le}
use Rattle.std.specs.Option.{option_map}
use Rattle.std.proofs.lemmas.Bool.{cond_both}
use Rattle.pci_spec.specs.Decoded.{Range}
use Rattle.pci_spec.specs.Window.{WindowKind, IoWindow, MemoryWindow, PrefetchWindow, has_window}
use Rattle.pci_spec.specs.System.{System, Function, window_space}
use Rattle.pci_spec.specs.Bus.{is_root}
use Rattle.plan_spec.specs.Place.{range_from}
use Rattle.settle_spec.specs.FirstPlace.{Extent, first_place}
use Rattle.settle_spec.specs.Lists.{Request, class_ranges}
use Rattle.settle_spec.specs.Parts.{FunctionPart, bridge_over}
use Rattle.settle_spec.specs.Stands.{is_fixed_part, is_in_lists, window_part}
use Rattle.settle_spec.specs.Kept.{Kept, unwished}
use Rattle.settle_spec.specs.Wishes.{range_then, taken_then, with_window, with_bridge, ending_at, end_over, can_end_at, with_room_above, ending_if, ending_within, spot_behind, Spared, spared_above, held_by, opened_at, spared_if, spared_within, spared_behind, Granted, or_denied, with_spare_of, with_spares_of, with_all_spares, granted}
use Rattle.settle_spec.specs.Lines.{lines_behind}

-- what may be found is beside the same
abbrev MayBeBeside : Kept → Option Kept → Type 0
MayBeBeside k None = Unit {0}
MayBeBeside k (Some j) = unwished j ≡ unwished k

abbrev MaySpareBeside : Kept → Option Spared → Type 0
MaySpareBeside k None = Unit {0}
MaySpareBeside k (Some x) = unwished x.kept ≡ unwished k

module _ (q : Request) (s : System) (c : WindowKind) where
  -- ---- an open window ends later

  module _ (above : Function → ℕ → Kept → Option Kept) (rest : (b : Function) (last : ℕ) (k : Kept) → MayBeBeside k (above b last k)) (b : Function) (last : ℕ) (k : Kept) where
    widened : (w : FunctionPart) (v : Range) (o : Option Kept) → MayBeBeside k o → MayBeBeside k (option_map (with_window w v) o)
    widened w v None is = tt
    widened w v (Some j) is = is

    over : (end : ℕ) (o : Option Function) → MayBeBeside k (with_bridge (λ d. above d end k) o)
    over end None = tt
    over end (Some d) = rest d end k

    ended_if : (o : Option Range) → MayBeBeside k (ending_if q s c above b last k o)
    ended_if None = tt
    ended_if (Some w) =
        let v = ending_at w (end_over c w last) in
        let room = with_room_above q s c above b v k in
        cond_both (nat_le last w.last) (Some k) _ (MayBeBeside k) (λ enough. refl)
        (λ less. cond_both (can_end_at q s c b k w (end_over c w last)) (option_map (with_window (window_part c b) v) room) None (MayBeBeside k)
        (λ may. widened (window_part c b) v room
        (cond_both (is_root q.roots b.slot.bus) _ (with_bridge (λ d. above d v.last k) (bridge_over s b.slot.bus)) (MayBeBeside k)
        (λ root. cond_both (is_in_lists q b.slot.bus v (window_space c)) (Some k) None (MayBeBeside k) (λ listed. refl) (λ unlisted. tt))
        (λ off. over v.last (bridge_over s b.slot.bus))))
        (λ may_not. tt))

  ended_alike : (depth : ℕ) (b : Function) (last : ℕ) (k : Kept) → MayBeBeside k (ending_within q s c depth b last k)
  unfolding ending_within
  ended_alike zero b last k = tt
  ended_alike (suc depth) b last k = ended_if (ending_within q s c depth) (ended_alike depth) b last k (range_then q s k (window_part c b))

  -- ---- room for a spare

  module _ (above : Function → Extent → List Range → Kept → Option Spared) (rest : (b : Function) (e : Extent) (behind : List Range) (k : Kept) → MaySpareBeside k (above b e behind k)) (b : Function) (e : Extent) (behind : List Range) (k : Kept) where
    opened : (o : Option Spared) → MaySpareBeside k o → MaySpareBeside k (option_map (opened_at q s c b e) o)
    opened None is = tt
    opened (Some x) is = is

    on_root : (o : Option ℕ) → MaySpareBeside k (option_map (λ at. record { at = at; kept = k }) o)
    on_root None = tt
    on_root (Some a) = refl

    spared_over : (o : Option Function) → MaySpareBeside k (with_bridge (λ d. above d (held_by q s c b e) (lines_behind q (window_part c b)) k) o)
    spared_over None = tt
    spared_over (Some d) = rest d (held_by q s c b e) (lines_behind q (window_part c b)) k

    in_open : (a : ℕ) (o : Option Kept) → MayBeBeside k o → MaySpareBeside k (option_map (λ kept. record { at = a; kept = kept }) o)
    in_open a None is = tt
    in_open a (Some j) is = is

    spared_by : (o : Option Range) → MaySpareBeside k (spared_if q s c above b e behind k o)
    spared_by None =
        let place = spared_above q s c above b (held_by q s c b e) k in
        cond_both (has_window c b.probe && not (is_fixed_part q (window_part c b))) (option_map (opened_at q s c b e) place) None (MaySpareBeside k)
        (λ may. opened place
        (cond_both (is_root q.roots b.slot.bus) _ (with_bridge (λ d. above d (held_by q s c b e) (lines_behind q (window_part c b)) k) (bridge_over s b.slot.bus)) (MaySpareBeside k)
        (λ root. on_root (first_place (class_ranges q c b.slot.bus) (lines_behind q (window_part c b) ++ taken_then q s k (window_space c) b.slot.bus) (held_by q s c b e)))
        (λ off. spared_over (bridge_over s b.slot.bus))))
        (λ may_not. tt)
    spared_by (Some w) =
        let a = spot_behind q s c b e behind k w in
        let last = (range_from a e.size).last in
        cond_both (nat_le last e.highest) (option_map (λ kept. record { at = a; kept = kept }) (ending_within q s c 256 b last k)) None (MaySpareBeside k)
        (λ low. in_open a (ending_within q s c 256 b last k) (ended_alike 256 b last k)) (λ high. tt)

  spared_alike : (depth : ℕ) (b : Function) (e : Extent) (behind : List Range) (k : Kept) → MaySpareBeside k (spared_within q s c depth b e behind k)
  unfolding spared_within
  spared_alike zero b e behind k = tt
  spared_alike (suc depth) b e behind k = spared_by (spared_within q s c depth) (spared_alike depth) b e behind k (range_then q s k (window_part c b))

-- ---- one wish after another

module _ (q : Request) (s : System) (spare : WindowKind → Function → Option Extent) where
  one_wish : (c : WindowKind) (b : Function) (o : Option Extent) (g : Granted) → unwished (with_spare_of q s c b o g).kept ≡ unwished g.kept
  one_wish c b None g = refl
  one_wish c b (Some e) g =
      cond_both (has_window c b.probe) (or_denied (window_part c b) g (spared_behind q s c b e g.kept)) g (λ x. unwished x.kept ≡ unwished g.kept)
      (λ there. by (spared_behind q s c b e g.kept) (spared_alike q s c 256 b e [] g.kept)) (λ absent. refl)
    where
      by : (o : Option Spared) → MaySpareBeside g.kept o → unwished (or_denied (window_part c b) g o).kept ≡ unwished g.kept
      by None is = refl
      by (Some x) is = is

  wishes_of : (b : Function) (g : Granted) → unwished (with_spares_of q s spare b g).kept ≡ unwished g.kept
  wishes_of b g =
      one_wish PrefetchWindow b (spare PrefetchWindow b) (with_spare_of q s MemoryWindow b (spare MemoryWindow b) (with_spare_of q s IoWindow b (spare IoWindow b) g))
      ∙ one_wish MemoryWindow b (spare MemoryWindow b) (with_spare_of q s IoWindow b (spare IoWindow b) g)
      ∙ one_wish IoWindow b (spare IoWindow b) g

  all_wishes : (g : Granted) (t : System) → unwished (with_all_spares q s spare g t).kept ≡ unwished g.kept
  all_wishes g [] = refl
  all_wishes g (f ∷ more) = wishes_of f (with_all_spares q s spare g more) ∙ all_wishes g more

  -- The law: what is kept is the same, wishes aside.
  pub granted_alike : (k : Kept) → unwished (granted q s spare k).kept ≡ unwished k
  granted_alike k = all_wishes (record { kept = k; denied = [] }) s
