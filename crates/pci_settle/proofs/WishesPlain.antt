-- No BAR or ROM keeps room free: wishes are of windows alone.
use Rattle.std.proofs.Common.{◌≡◌, ◌&&◌, ℕ, zero, suc, List, [], ◌∷◌, ◌++◌, true, false, cond, not, refl, ap, ◌∙◌, Option, None, Some}
use Rattle.std.specs.Bool.{⊤, ◌==◌, nat_le}
use Rattle.std.specs.List.{Contains}
use Rattle.std.specs.Option.{option_map}
use Rattle.std.proofs.lemmas.Bool.{cond_both, both_ways, eqb-true, false_from_ne_true}
use Rattle.pci_spec.specs.Decoded.{Range}
use Rattle.pci_spec.specs.Window.{WindowKind, IoWindow, MemoryWindow, PrefetchWindow, has_window}
use Rattle.pci_spec.specs.System.{System, Function, Part, Window, IsSystem, has_part, is_bridge, is_window, window_space}
use Rattle.pci_spec.specs.Bus.{is_root}
use Rattle.pci_spec.proofs.Members.{in_head, in_tail}
use Rattle.plan_spec.specs.Place.{range_from}
use Rattle.settle_spec.specs.FirstPlace.{Extent, first_place}
use Rattle.settle_spec.specs.Lines.{lines_behind}
use Rattle.settle_spec.specs.Lists.{Request, class_ranges}
use Rattle.settle_spec.specs.Parts.{FunctionPart, bridge_over}
use Rattle.settle_spec.specs.Stands.{is_fixed_part, is_in_lists, rank, window_part}
use Rattle.settle_spec.specs.Items.{spare_of}
use Rattle.settle_spec.specs.Kept.{Kept}
use Rattle.settle_spec.specs.Wishes.{taken_then, with_window, with_bridge, ending_at, end_over, can_end_at, with_room_above, ending_if, ending_within, ending, range_of_window, Spared, spot_behind, spared_at, spared_above, held_by, opened_at, spared_if, spared_within, spared_behind, Granted, or_denied, with_spare_of, with_spares_of, with_all_spares, granted}
use Rattle.settle_spec.proofs.BridgeOver.{over_leads}
use Rattle.settle_laws.proofs.Wishing.Granted.{spare_is}
use Rattle.pci_settle_places.proofs.Parts.{rank_one}

module _ (q : Request) (s : System) (r : FunctionPart) (other : (c : WindowKind) (b : Function) → Contains s b → is_bridge b ≡ true → rank r ≡ rank (window_part c b) → ⊥) where
  -- what is wished of it stays
  abbrev Same : Kept → Option Kept → Type 0
  Same k None = ⊤
  Same k (Some j) = j.wished r ≡ k.wished r

  abbrev SameAt : Kept → Option Spared → Type 0
  SameAt k None = ⊤
  SameAt k (Some x) = x.kept.wished r ≡ k.wished r

  module _ (k : Kept) where
    with_same : (c : WindowKind) (b : Function) → Contains s b → is_bridge b ≡ true → (v : Range) (j : Kept) → j.wished r ≡ k.wished r → (with_window (window_part c b) v j).wished r ≡ k.wished r
    with_same c b listed bridge v j same =
        ap (λ t. let o : Option Range = cond t (Some v) (j.wished r) in o) (false_from_ne_true (rank r == rank (window_part c b)) (λ is. other c b listed bridge (eqb-true (rank r) (rank (window_part c b)) is))) ∙ same

    -- ---- a window ends later

    moved_same : (c : WindowKind) (b : Function) → Contains s b → is_bridge b ≡ true → (v : Range) (o : Option Kept) → Same k o → Same k (option_map (with_window (window_part c b) v) o)
    moved_same c b listed bridge v None same = tt
    moved_same c b listed bridge v (Some j) same = with_same c b listed bridge v j same

    over_same : (above : Function → Option Kept) → ((d : Function) → Contains s d → is_bridge d ≡ true → Same k (above d)) → (bus : ℕ) → Same k (with_bridge above (bridge_over s bus))
    over_same above each bus = by (bridge_over s bus) refl
      where
        by : (o : Option Function) → bridge_over s bus ≡ o → Same k (with_bridge above o)
        by None is = tt
        by (Some d) is = (let leads = over_leads s bus d is in each d leads.0 leads.1)

    room_same : (c : WindowKind) (above : Function → ℕ → Kept → Option Kept) (b : Function) (w : Range) → ((d : Function) → Contains s d → is_bridge d ≡ true → Same k (above d w.last k)) → Same k (with_room_above q s c above b w k)
    room_same c above b w each =
        cond_both (is_root q.roots b.slot.bus) (cond (is_in_lists q b.slot.bus w (window_space c)) (Some k) None) (with_bridge (λ d. above d w.last k) (bridge_over s b.slot.bus)) (Same k)
        (λ root. cond_both (is_in_lists q b.slot.bus w (window_space c)) (Some k) None (Same k) (λ held. refl) (λ out. tt))
        (λ off. over_same (λ d. above d w.last k) each b.slot.bus)

    longer_same : (c : WindowKind) (above : Function → ℕ → Kept → Option Kept) (b : Function) → Contains s b → is_bridge b ≡ true → (last : ℕ) → ((d : Function) → Contains s d → is_bridge d ≡ true → (e : ℕ) → Same k (above d e k)) → (o : Option Range) → Same k (ending_if q s c above b last k o)
    longer_same c above b listed bridge last each None = tt
    longer_same c above b listed bridge last each (Some w) =
        let e = end_over c w last in
        let longer = option_map (with_window (window_part c b) (ending_at w e)) (with_room_above q s c above b (ending_at w e) k) in
        cond_both (nat_le last w.last) (Some k) (cond (can_end_at q s c b k w e) longer None) (Same k) (λ enough. refl)
        (λ more. cond_both (can_end_at q s c b k w e) longer None (Same k)
        (λ free. moved_same c b listed bridge (ending_at w e) (with_room_above q s c above b (ending_at w e) k) (room_same c above b (ending_at w e) (λ d in_s is. each d in_s is e)))
        (λ held. tt))

  ending_same : (c : WindowKind) (depth : ℕ) (b : Function) → Contains s b → is_bridge b ≡ true → (last : ℕ) (k : Kept) → Same k (ending_within q s c depth b last k)
  unfolding ending_within
  ending_same c zero b listed bridge last k = tt
  ending_same c (suc depth) b listed bridge last k =
      longer_same k c (ending_within q s c depth) b listed bridge last (λ d in_s is e. ending_same c depth d in_s is e k) (range_of_window q s c b k)

  -- ---- room for a spare

  module _ (k : Kept) where
    at_same : (at : ℕ) (o : Option Kept) → Same k o → SameAt k (option_map (λ kept. let x : Spared = record { at = at; kept = kept } in x) o)
    at_same at None same = tt
    at_same at (Some j) same = same

    place_same : (o : Option ℕ) → SameAt k (option_map (λ at. let x : Spared = record { at = at; kept = k } in x) o)
    place_same None = tt
    place_same (Some at) = refl

    opened_same : (c : WindowKind) (b : Function) → Contains s b → is_bridge b ≡ true → (e : Extent) (o : Option Spared) → SameAt k o → SameAt k (option_map (opened_at q s c b e) o)
    opened_same c b listed bridge e None same = tt
    opened_same c b listed bridge e (Some x) same = with_same k c b listed bridge (range_from x.at e.size) x.kept same

    behind_same : (above : Function → Option Spared) → ((d : Function) → Contains s d → is_bridge d ≡ true → SameAt k (above d)) → (bus : ℕ) → SameAt k (with_bridge above (bridge_over s bus))
    behind_same above each bus = by (bridge_over s bus) refl
      where
        by : (o : Option Function) → bridge_over s bus ≡ o → SameAt k (with_bridge above o)
        by None is = tt
        by (Some d) is = (let leads = over_leads s bus d is in each d leads.0 leads.1)

    above_same : (c : WindowKind) (above : Function → Extent → List Range → Kept → Option Spared) (b : Function) (e : Extent) → ((d : Function) → Contains s d → is_bridge d ≡ true → SameAt k (above d e (lines_behind q (window_part c b)) k)) → SameAt k (spared_above q s c above b e k)
    above_same c above b e each =
        cond_both (is_root q.roots b.slot.bus) (option_map (λ at. let x : Spared = record { at = at; kept = k } in x) (first_place (class_ranges q c b.slot.bus) (lines_behind q (window_part c b) ++ taken_then q s k (window_space c) b.slot.bus) e)) (with_bridge (λ d. above d e (lines_behind q (window_part c b)) k) (bridge_over s b.slot.bus)) (SameAt k)
        (λ root. place_same (first_place (class_ranges q c b.slot.bus) (lines_behind q (window_part c b) ++ taken_then q s k (window_space c) b.slot.bus) e))
        (λ off. behind_same (λ d. above d e (lines_behind q (window_part c b)) k) each b.slot.bus)

    spot_same : (c : WindowKind) (b : Function) → Contains s b → is_bridge b ≡ true → (e : Extent) (at : ℕ) → SameAt k (spared_at q s c b e k at)
    spot_same c b listed bridge e at =
        let ended = ending q s c b (range_from at e.size).last k in
        cond_both (nat_le (range_from at e.size).last e.highest) (option_map (λ kept. let x : Spared = record { at = at; kept = kept } in x) ended) None (SameAt k)
        (λ low. at_same at ended (ending_same c 256 b listed bridge (range_from at e.size).last k)) (λ high. tt)

    room_behind_same : (c : WindowKind) (above : Function → Extent → List Range → Kept → Option Spared) (b : Function) → Contains s b → is_bridge b ≡ true → (e : Extent) (behind : List Range) → ((d : Function) → Contains s d → is_bridge d ≡ true → (x : Extent) (held : List Range) → SameAt k (above d x held k)) → (o : Option Range)
        → SameAt k (spared_if q s c above b e behind k o)
    room_behind_same c above b listed bridge e behind each None =
        let found = spared_above q s c above b (held_by q s c b e) k in
        cond_both (has_window c b.probe && not (is_fixed_part q (window_part c b))) (option_map (opened_at q s c b e) found) None (SameAt k)
        (λ may. opened_same c b listed bridge e found (above_same c above b (held_by q s c b e) (λ d in_s is. each d in_s is (held_by q s c b e) (lines_behind q (window_part c b))))) (λ may_not. tt)
    room_behind_same c above b listed bridge e behind each (Some w) = spot_same c b listed bridge e (spot_behind q s c b e behind k w)

  spared_same : (c : WindowKind) (depth : ℕ) (b : Function) → Contains s b → is_bridge b ≡ true → (e : Extent) (behind : List Range) (k : Kept) → SameAt k (spared_within q s c depth b e behind k)
  unfolding spared_within
  spared_same c zero b listed bridge e behind k = tt
  spared_same c (suc depth) b listed bridge e behind k =
      room_behind_same k c (spared_within q s c depth) b listed bridge e behind (λ d in_s is x held. spared_same c depth d in_s is x held k) (range_of_window q s c b k)

  -- ---- all wishes

  granted_same : (w : FunctionPart) (g : Granted) (o : Option Spared) → SameAt g.kept o → (or_denied w g o).kept.wished r ≡ g.kept.wished r
  granted_same w g None same = refl
  granted_same w g (Some x) same = same

  wish_same : (c : WindowKind) (b : Function) → Contains s b → (g : Granted) (o : Option Extent) → ((e : Extent) → o ≡ Some e → is_bridge b ≡ true) → (with_spare_of q s c b o g).kept.wished r ≡ g.kept.wished r
  wish_same c b listed g None bridge = refl
  wish_same c b listed g (Some e) bridge =
      cond_both (has_window c b.probe) (or_denied (window_part c b) g (spared_behind q s c b e g.kept)) g (λ x. x.kept.wished r ≡ g.kept.wished r)
      (λ there. granted_same (window_part c b) g (spared_behind q s c b e g.kept) (spared_same c 256 b listed (bridge e refl) e [] g.kept)) (λ absent. refl)

  module _ (asked : Request) where
    wish_of : (c : WindowKind) (b : Function) → Contains s b → (g : Granted) → (with_spare_of q s c b (spare_of asked c b) g).kept.wished r ≡ g.kept.wished r
    wish_of c b listed g = wish_same c b listed g (spare_of asked c b) (λ e is. (spare_is asked c b e is).bridge)

    bridge_same : (b : Function) → Contains s b → (g : Granted) → (with_spares_of q s (spare_of asked) b g).kept.wished r ≡ g.kept.wished r
    bridge_same b listed g = wish_of PrefetchWindow b listed _ ∙ wish_of MemoryWindow b listed _ ∙ wish_of IoWindow b listed g

    all_same : (g : Granted) (t : System) → ((b : Function) → Contains t b → Contains s b) → (with_all_spares q s (spare_of asked) g t).kept.wished r ≡ g.kept.wished r
    all_same g [] in_s = refl
    all_same g (f ∷ more) in_s = bridge_same f (in_s f (in_head f more)) (with_all_spares q s (spare_of asked) g more) ∙ all_same g more (λ b has. in_s b (in_tail f more b has))

-- of a BAR or ROM nothing more is wished than before
pub plain_same : (q asked : Request) (s : System) (k : Kept) → IsSystem s → (f : Function) (p : Part) → Contains s f → has_part f p ≡ true → is_window p ≡ false
    → (granted q s (spare_of asked) k).kept.wished record { function = f; part = p } ≡ k.wished record { function = f; part = p }
plain_same q asked s k system f p listed there plain =
    let r : FunctionPart = record { function = f; part = p } in
    all_same q s r
    (λ c b in_s bridge same. both_ways (is_window p) plain (ap is_window (rank_one s system f b p (Window c) listed in_s there bridge same).part))
    asked (record { kept = k; denied = [] }) s (λ b has. has)
