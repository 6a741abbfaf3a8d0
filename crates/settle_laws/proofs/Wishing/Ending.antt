-- An open window that ends later, and those above it: all is kept free then, and nothing else changes.
use Rattle.std.proofs.Common.{◌≡◌, ◌&&◌, ℕ, zero, suc, ◌≤◌, inl, inr, Bool, true, false, cond, not, arith, refl, sym, ◌∙◌, ap, subst, Option, None, Some}
use Rattle.std.specs.Bool.{◌==◌, nat_le}
use Rattle.std.specs.List.{Contains, list_all}
use Rattle.std.specs.Option.{option_map}
use Rattle.std.proofs.lemmas.Bool.{and_parts, both_ways, cases_Bool, eqb-true, leb-true, leb-false, not-true, or_cases}
use Rattle.pci_spec.specs.Decoded.{Range}
use Rattle.pci_spec.specs.Window.{WindowKind}
use Rattle.pci_spec.specs.System.{System, Function, Window, has_part, is_bridge, window_space}
use Rattle.pci_spec.specs.Bus.{are_siblings, is_root, LeadsTo}
use Rattle.plan_spec.specs.Planning.Layout.{IsInside}
use Rattle.plan_spec.proofs.Planning.Behind.{all_gives}
use Rattle.plan_spec.proofs.Planning.Safe.{order_of}
use Rattle.settle_spec.specs.FirstPlace.{ranges_are_apart}
use Rattle.settle_spec.specs.Lists.{Request}
use Rattle.settle_spec.specs.Parts.{FunctionPart, bridge_over}
use Rattle.settle_spec.specs.Stands.{is_fixed_part, rank, is_in_lists, window_part}
use Rattle.settle_spec.specs.Items.{highest_in}
use Rattle.settle_spec.specs.Kept.{Kept, unwished}
use Rattle.settle_spec.specs.Wishes.{range_then, there_then, with_window, with_bridge, ending_at, gained, end_over, is_off_lines, can_end_at, with_room_above, ending_if, ending_within}
use Rattle.settle_spec.proofs.BridgeOver.{over_leads}
use Rattle.settle_spec.proofs.Nested.{one_bridge}
use Rattle.settle_laws.specs.Keeping.PlacesLaws.{CanSettle}
use Rattle.settle_laws.proofs.Kept.{off_roots}
use Rattle.settle_laws.proofs.Keeping.Ends.{in_window}
use Rattle.settle_laws.proofs.Wishing.Added.{one_of_rank, range_with, range_without}
use Rattle.settle_laws.proofs.Wishing.Wider.{HasRoom, KeepsAll, KeepsClasses, keeps_itself, classes_with, can_end_later, keeps_wider, ends_over}

module _ (q : Request) (s : System) (c : WindowKind) where
  -- the window of a bridge ends at an address at least, and beside it, and behind, all ends as before
  pub record IsEnded (k j : Kept) (b : Function) (last : ℕ) : Type 0 where
    pub can : CanSettle q s j
    pub alike : unwished j ≡ unwished k
    pub later : (r : FunctionPart) → Contains s r.function → has_part r.function r.part ≡ true → b.slot.bus ≤ r.function.slot.bus → (rank r ≡ rank (window_part c b) → ⊥) → range_then q s j r ≡ range_then q s k r
    pub keeps : KeepsAll q s k j
    pub classes : KeepsClasses q s c k j
    pub window : (w : Range) → range_then q s k (window_part c b) ≡ Some w → (e : ℕ) × (range_then q s j (window_part c b) ≡ Some (ending_at w e)) × (last ≤ e) × (w.last ≤ e)

  module _ (k : Kept) (can : CanSettle q s k) (b : Function) (listed : Contains s b) (bridge : is_bridge b ≡ true) where
    abbrev r : FunctionPart
    r = window_part c b

    -- where it ends so already, nothing changes
    ended_already : (last : ℕ) (w : Range) → range_then q s k r ≡ Some w → last ≤ w.last → IsEnded k k b last
    ended_already last w ends enough = record {
      can = can;
      alike = refl;
      later = λ x in_x there from differ. refl;
      keeps = keeps_itself q s k;
      classes = λ e differ x in_x is_x. refl;
      window = λ u other. (let is : Some w ≡ Some u = sym ends ∙ other in let same : w.last ≡ u.last = cc in (u.last, other, omega (arith, enough, same), omega arith));
    }

    -- on a root nothing above changes
    pub room_on_root : (v : Range) → is_root q.roots b.slot.bus ≡ true → is_in_lists q b.slot.bus v (window_space c) ≡ true → HasRoom q s c k k b v
    room_on_root v root lists = record {
      can = can;
      alike = refl;
      beside = λ x in_x there beside. refl;
      later = λ x in_x there from. refl;
      keeps = keeps_itself q s k;
      classes = λ e differ x in_x is_x. refl;
      lists = λ is. lists;
      over = λ d leads. absurd (no_bridge d leads);
    }
      where
        no_bridge : (d : Function) → LeadsTo s d b.slot.bus → ⊥
        no_bridge d leads = both_ways (is_root q.roots b.slot.bus) (subst (λ n. is_root q.roots n ≡ false) leads.2 (off_roots q s can.system can.nested d leads.0 leads.1)) root

    -- what is beside a bridge that is on no root is on its bus
    pub on_its_bus : is_root q.roots b.slot.bus ≡ false → (n : ℕ) → are_siblings q.roots b.slot.bus n ≡ true → b.slot.bus ≡ n
    on_its_bus off n is = elim (or_cases (b.slot.bus == n) (is_root q.roots b.slot.bus && is_root q.roots n) is) [
      | inl same ↦ eqb-true b.slot.bus n same
      | inr both ↦ absurd (both_ways (is_root q.roots b.slot.bus) off (and_parts (is_root q.roots b.slot.bus) (is_root q.roots n) both).0)
    ]

    module _ (off : is_root q.roots b.slot.bus ≡ false) (d : Function) (leads : LeadsTo s d b.slot.bus) where
      -- what is on its bus or behind isn't the window above
      pub other_window : (x : FunctionPart) → Contains s x.function → has_part x.function x.part ≡ true → b.slot.bus ≤ x.function.slot.bus → rank x ≡ rank (window_part c d) → ⊥
      other_window x in_x there from same =
          let one = one_of_rank s can.system x (window_part c d) in_x leads.0 there leads.1 same in
          let bus : x.function.slot.bus ≡ d.slot.bus = ap (λ (y : FunctionPart). y.function.slot.bus) one in
          let up = order_of q.roots s can.nested d leads.0 leads.1 in
          let to = leads.2 in
          let no : ⊥ = omega (arith, bus, up, to, from) in
          no

      pub from_above : d.slot.bus ≤ b.slot.bus
      from_above = (let up = order_of q.roots s can.nested d leads.0 leads.1 in let to = leads.2 in omega (arith, up, to))

      -- behind the bridge above, whose window ends at that address at least
      room_behind : (w : Range) (e : ℕ) (j : Kept) → range_then q s k r ≡ Some w → IsEnded k j d e → HasRoom q s c k j b (ending_at w e)
      room_behind w e j ends above = record {
        can = above.can;
        alike = above.alike;
        beside = λ x in_x there beside. (let at = on_its_bus off x.function.slot.bus beside in later x in_x there (omega (arith, at)));
        later = later;
        keeps = above.keeps;
        classes = above.classes;
        lists = λ root. absurd (both_ways (is_root q.roots b.slot.bus) off root);
        over = over;
      }
        where
          later : (x : FunctionPart) → Contains s x.function → has_part x.function x.part ≡ true → b.slot.bus ≤ x.function.slot.bus → range_then q s j x ≡ range_then q s k x
          later x in_x there from = (let up = from_above in above.later x in_x there (omega (arith, up, from)) (other_window x in_x there from))

          over : (f : Function) → LeadsTo s f b.slot.bus → (u : Range) × (range_then q s j (window_part c f) ≡ Some u) × IsInside (ending_at w e) u
          over f leads_f =
              let one : f ≡ d = one_bridge q.roots s can.system can.nested f d leads_f.0 leads.0 leads_f.1 leads.1 (leads_f.2 ∙ sym leads.2) in
              let before = in_window q s k can b d (Window c) listed bridge leads w ends in
              let after = above.window before.w before.ends in
              let first = before.inside.0 in
              let last = after.2 in (
                ending_at before.w after.0,
                ap (λ g. range_then q s j (window_part c g)) one ∙ after.1,
                (first, last),
              )

    -- ---- one window

    module _ (last : ℕ) (w : Range) (ends : range_then q s k r ≡ Some w) (more : w.last ≤ last) where
      abbrev e : ℕ
      e = end_over c w last

      abbrev v : Range
      v = ending_at w e

      module _ (may : can_end_at q s c b k w e ≡ true) (j : Kept) (room : HasRoom q s c k j b v) where
        both : ((is_off_lines q s c b (gained w e) && not (is_fixed_part q r)) ≡ true) × ((nat_le e (highest_in c b.probe) && list_all (ranges_are_apart (gained w e)) (there_then q s k (window_space c) b.slot.bus)) ≡ true)
        both = and_parts (is_off_lines q s c b (gained w e) && not (is_fixed_part q r)) (nat_le e (highest_in c b.probe) && list_all (ranges_are_apart (gained w e)) (there_then q s k (window_space c) b.slot.bus)) may

        unfixed : (is_off_lines q s c b (gained w e) ≡ true) × (not (is_fixed_part q r) ≡ true)
        unfixed = and_parts (is_off_lines q s c b (gained w e)) (not (is_fixed_part q r)) both.0

        parts : (not (is_fixed_part q r) ≡ true) × ((nat_le e (highest_in c b.probe) && list_all (ranges_are_apart (gained w e)) (there_then q s k (window_space c) b.slot.bus)) ≡ true)
        parts = (unfixed.1, both.1)

        rest : (nat_le e (highest_in c b.probe) ≡ true) × (list_all (ranges_are_apart (gained w e)) (there_then q s k (window_space c) b.slot.bus) ≡ true)
        rest = and_parts (nat_le e (highest_in c b.probe)) (list_all (ranges_are_apart (gained w e)) (there_then q s k (window_space c) b.slot.bus)) parts.1

        can_then : CanSettle q s (with_window r v j)
        can_then = can_end_later q s c k can b listed bridge w ends last more (not-true (is_fixed_part q r) parts.0) (leb-true e (highest_in c b.probe) rest.0)
            (λ t has. all_gives (ranges_are_apart (gained w e)) (there_then q s k (window_space c) b.slot.bus) t rest.1 has) unfixed.0 j room

        ended : IsEnded k (with_window r v j) b last
        ended = record { can = can_then; alike = room.alike; later = later; keeps = keeps; classes = classes_with q s c k j can.system room.classes b v listed bridge; window = window }
          where
            fits_now : range_then q s (with_window r v j) r ≡ Some v
            fits_now = range_with q s j r v

            later : (x : FunctionPart) → Contains s x.function → has_part x.function x.part ≡ true → b.slot.bus ≤ x.function.slot.bus → (rank x ≡ rank r → ⊥) → range_then q s (with_window r v j) x ≡ range_then q s k x
            later x in_x there from differ = range_without q s j r v x differ ∙ room.later x in_x there from

            keeps : KeepsAll q s k (with_window r v j)
            keeps = keeps_wider q s c k can b listed bridge w ends last more (not-true (is_fixed_part q r) parts.0) (leb-true e (highest_in c b.probe) rest.0)
                (λ t has. all_gives (ranges_are_apart (gained w e)) (there_then q s k (window_space c) b.slot.bus) t rest.1 has) unfixed.0 j room

            window : (u : Range) → range_then q s k r ≡ Some u → (n : ℕ) × (range_then q s (with_window r v j) r ≡ Some (ending_at u n)) × (last ≤ n) × (u.last ≤ n)
            window u other =
                let is : Some w ≡ Some u = sym ends ∙ other in
                let same : w ≡ u = cc in
                let up = ends_over q s c k can b listed bridge w ends last more (not-true (is_fixed_part q r) parts.0) (leb-true e (highest_in c b.probe) rest.0)
                (λ t has. all_gives (ranges_are_apart (gained w e)) (there_then q s k (window_space c) b.slot.bus) t rest.1 has) unfixed.0 j room in
                let at : w.last ≡ u.last = ap (λ (x : Range). x.last) same in
                (e, fits_now ∙ ap (λ x. Some (ending_at x e)) same, up, omega (arith, up, at, more))

  -- ---- all windows on the way up

  module _ (above : Function → ℕ → Kept → Option Kept) (rest : (k : Kept) → CanSettle q s k → (b : Function) → Contains s b → is_bridge b ≡ true → (last : ℕ) (j : Kept) → above b last k ≡ Some j → IsEnded k j b last)
      (k : Kept) (can : CanSettle q s k) (b : Function) (listed : Contains s b) (bridge : is_bridge b ≡ true) (last : ℕ) (j : Kept) where
    abbrev own : FunctionPart
    own = window_part c b

    behind : (w : Range) (e : ℕ) → range_then q s k own ≡ Some w → is_root q.roots b.slot.bus ≡ false → (o : Option Function) → bridge_over s b.slot.bus ≡ o → (i : Kept) → with_bridge (λ over. above over e k) o ≡ Some i → HasRoom q s c k i b (ending_at w e)
    behind w e ends off None at i found = absurd (let no : ⊥ = cc in no)
    behind w e ends off (Some d) at i found = (let leads = over_leads s b.slot.bus d at in room_behind k can b listed bridge off d leads w e i ends (rest k can d leads.0 leads.1 e i found))

    room : (w : Range) (e : ℕ) → range_then q s k own ≡ Some w → (i : Kept) → with_room_above q s c above b (ending_at w e) k ≡ Some i → HasRoom q s c k i b (ending_at w e)
    room w e ends i found = elim (cases_Bool (is_root q.roots b.slot.bus)) [
      | inr off ↦ behind w e ends off (bridge_over s b.slot.bus) refl i (sym (ap (λ t. cond t (cond (is_in_lists q b.slot.bus (ending_at w e) (window_space c)) (Some k) None) (with_bridge (λ over. above over e k) (bridge_over s b.slot.bus))) off) ∙ found)
      | inl root ↦ on_root (is_in_lists q b.slot.bus (ending_at w e) (window_space c)) refl (sym (ap (λ t. cond t (cond (is_in_lists q b.slot.bus (ending_at w e) (window_space c)) (Some k) None) (with_bridge (λ over. above over e k) (bridge_over s b.slot.bus))) root) ∙ found) root
    ]
      where
        on_root : (t : Bool) → is_in_lists q b.slot.bus (ending_at w e) (window_space c) ≡ t → cond t (Some k) None ≡ Some i → is_root q.roots b.slot.bus ≡ true → HasRoom q s c k i b (ending_at w e)
        on_root false lists found root = absurd (let no : ⊥ = cc in no)
        on_root true lists found root = (let same : k ≡ i = cc in subst (λ x. HasRoom q s c k x b (ending_at w e)) same (room_on_root k can b listed bridge (ending_at w e) root lists))

    later : (w : Range) → range_then q s k own ≡ Some w → w.last ≤ last → can_end_at q s c b k w (end_over c w last) ≡ true → (o : Option Kept) → with_room_above q s c above b (ending_at w (end_over c w last)) k ≡ o
        → option_map (with_window own (ending_at w (end_over c w last))) o ≡ Some j → IsEnded k j b last
    later w ends more may None at found = absurd (let no : ⊥ = cc in no)
    later w ends more may (Some i) at found =
        let same : with_window own (ending_at w (end_over c w last)) i ≡ j = cc in
        subst (λ x. IsEnded k x b last) same (ended k can b listed bridge last w ends more may i (room w (end_over c w last) ends i at))

    try : (w : Range) → range_then q s k own ≡ Some w → w.last ≤ last → (t : Bool) → can_end_at q s c b k w (end_over c w last) ≡ t
        → cond t (option_map (with_window own (ending_at w (end_over c w last))) (with_room_above q s c above b (ending_at w (end_over c w last)) k)) None ≡ Some j → IsEnded k j b last
    try w ends more false may found = absurd (let no : ⊥ = cc in no)
    try w ends more true may found = later w ends more may (with_room_above q s c above b (ending_at w (end_over c w last)) k) refl found

    opened : (w : Range) → range_then q s k own ≡ Some w → (t : Bool) → nat_le last w.last ≡ t
        → cond t (Some k) (cond (can_end_at q s c b k w (end_over c w last)) (option_map (with_window own (ending_at w (end_over c w last))) (with_room_above q s c above b (ending_at w (end_over c w last)) k)) None) ≡ Some j → IsEnded k j b last
    opened w ends true enough found = (let same : k ≡ j = cc in subst (λ x. IsEnded k x b last) same (ended_already k can b listed bridge last w ends (leb-true last w.last enough)))
    opened w ends false less found = (let under = leb-false last w.last less in try w ends (omega (arith, under)) (can_end_at q s c b k w (end_over c w last)) refl found)

    ended_if : (o : Option Range) → range_then q s k own ≡ o → ending_if q s c above b last k o ≡ Some j → IsEnded k j b last
    ended_if None ends found = absurd (let no : ⊥ = cc in no)
    ended_if (Some w) ends found = opened w ends (nat_le last w.last) refl found

  -- all windows on the way end so
  pub ended_within : (depth : ℕ) (k : Kept) → CanSettle q s k → (b : Function) → Contains s b → is_bridge b ≡ true → (last : ℕ) (j : Kept) → ending_within q s c depth b last k ≡ Some j → IsEnded k j b last
  unfolding ending_within
  ended_within zero k can b listed bridge last j found = absurd (let no : ⊥ = cc in no)
  ended_within (suc depth) k can b listed bridge last j found =
      ended_if (ending_within q s c depth) (ended_within depth) k can b listed bridge last j (range_then q s k (window_part c b)) refl found
