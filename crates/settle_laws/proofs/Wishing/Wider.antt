-- A window of a bridge gets room: what is beside it and above it, and that all is settled then.
use Rattle.std.proofs.Common.{◌≡◌, ◌&&◌, ℕ, ◌+◌, ◌%◌, ◌≤◌, inl, inr, true, false, not, arith, sym, ◌∙◌, ap, subst, Some, ◌-◌}
use Rattle.std.specs.Bool.{◌==◌}
use Rattle.std.specs.List.{Contains}
use Rattle.std.proofs.lemmas.Bool.{and_parts, cases_Bool, eqb-true, not-true, not-false, or_cases, cases_eq}
use Rattle.pci_spec.specs.Slot.{same_slot, slot_number}
use Rattle.pci_spec.specs.Decoded.{Range}
use Rattle.pci_spec.specs.Window.{WindowKind, IoWindow, MemoryWindow, PrefetchWindow, bounds_for, page_size}
use Rattle.pci_spec.specs.System.{System, Function, IsSystem, has_part, is_bridge, window_space}
use Rattle.pci_spec.specs.Bus.{are_siblings, is_root, LeadsTo}
use Rattle.pci_spec.proofs.BusRanges.{root_means}
use Rattle.pci_spec.proofs.SameSlot.{slots_same}
use Rattle.plan_spec.specs.Plan.{raised_to}
use Rattle.plan_spec.specs.Planning.Layout.{IsInside, LieApart, AreBeside, AreTwo}
use Rattle.plan_spec.proofs.Planning.Behind.{all_gives}
use Rattle.plan_spec.proofs.Planning.Room.{raised}
use Rattle.judge_spec.specs.ToldRegion.{ToldRegion, told_regions}
use Rattle.settle_spec.specs.Lines.{line_range, can_keep_off, keeps_off}
use Rattle.settle_spec.specs.FirstPlace.{ranges_are_apart}
use Rattle.settle_spec.specs.Lists.{Request}
use Rattle.settle_spec.specs.Parts.{FunctionPart, are_same_space}
use Rattle.settle_spec.specs.Stands.{is_fixed_part, rank, are_beside, is_in_lists, part_space, window_part}
use Rattle.settle_spec.specs.Items.{highest_in}
use Rattle.settle_spec.specs.Reach.{raised_last}
use Rattle.settle_spec.specs.GrowthLaws.{MoveOut}
use Rattle.settle_spec.specs.Kept.{Kept, no_wish, unwished}
use Rattle.settle_spec.specs.Wishes.{place_then, range_then, there_then, with_window, ending_at, gained, end_over, is_off_lines}
use Rattle.settle_spec.proofs.Grown.{no_lower, some_page}
use Rattle.settle_laws.specs.KeptLaws.{IsWishedWindow}
use Rattle.settle_laws.specs.Keeping.PlacesLaws.{CanSettle}
use Rattle.settle_laws.proofs.Held.{and_second_false}
use Rattle.settle_laws.proofs.Kept.{lie_apart, one_space}
use Rattle.settle_laws.proofs.LowWindows.{last_whole}
use Rattle.settle_laws.proofs.Keeping.ClosedMoves.{further_out}
use Rattle.settle_laws.proofs.Keeping.Ends.{are_apart}
use Rattle.settle_laws.proofs.Keeping.Wishless.{place_same}
use Rattle.settle_laws.proofs.Wishing.Added.{kind_or, one_of_rank, within, can_added, range_with, range_without}
use Rattle.settle_laws.proofs.Wishing.Windows.{IsWindowEnd, window_end_is, ends_forward, in_there}

-- ---- the end of a window that ends later

last_out : (c : WindowKind) (n first old last : ℕ) → old ≤ last → MoveOut (bounds_for c n first old) (bounds_for c n first (raised_last c old last))
last_out IoWindow n first old last le = record { base = omega arith; limit = omega (arith, le); base_upper = omega arith; limit_upper = omega (arith, le) }
last_out MemoryWindow n first old last le = (let up = no_lower MemoryWindow old last in record { base = omega arith; limit = omega (arith, up, le); base_upper = omega arith; limit_upper = omega arith })
last_out PrefetchWindow n first old last le = record { base = omega arith; limit = omega (arith, le); base_upper = omega arith; limit_upper = omega (arith, le) }

-- whole pages that hold an address, and no half of whose bound is further in
record IsEndOver (c : WindowKind) (w : Range) (last : ℕ) : Type 0 where
  whole : (end_over c w last + 1) % page_size c ≡ 0
  over : last ≤ end_over c w last
  out : w.last ≤ last → (n : ℕ) → MoveOut (bounds_for c n w.first w.last) (bounds_for c n w.first (end_over c w last))

end_is : (c : WindowKind) (w : Range) (last : ℕ) → (w.last + 1) % page_size c ≡ 0 → IsEndOver c w last
end_is c w last pages =
    let up = raised (page_size c) (last + 1) (some_page c) in
    let from = up.from in
    let page = raised_to (page_size c) (last + 1) - 1 in
    let at : page + 1 ≡ raised_to (page_size c) (last + 1) = omega (arith, from) in
    let no_less = no_lower c w.last page in
    record {
      whole = last_whole c w.last page pages (ap (λ n. n % page_size c) at ∙ up.multiple);
      over = omega (arith, no_less, from);
      out = λ le n. last_out c n w.first w.last page (omega (arith, le, from));
    }

module _ (q : Request) (s : System) where
  -- what is kept beside the same wishes otherwise has the same places
  pub places_alike : (k j : Kept) → unwished j ≡ unwished k → (r : FunctionPart) → place_then q s j r ≡ place_then q s k r
  places_alike k j alike r = sym (place_same q s j no_wish r) ∙ ap (λ i. place_then q s i r) alike ∙ place_same q s k no_wish r

module _ (q : Request) (s : System) (k : Kept) (can : CanSettle q s k) where
  two_of_ranks : (x y : FunctionPart) → (rank x ≡ rank y → ⊥) → AreTwo x.function x.part y.function y.part
  two_of_ranks x y differ = elim (cases_Bool (same_slot x.function.slot y.function.slot)) [
    | inr other ↦ inl other
    | inl same ↦ inr (λ e. differ (let slots = ap slot_number (slots_same x.function.slot y.function.slot same) in omega (arith, slots, e)))
  ]

  beside_of : (x y : FunctionPart) → are_siblings q.roots x.function.slot.bus y.function.slot.bus ≡ true → AreBeside q.roots x.function y.function
  beside_of x y is = elim (or_cases (x.function.slot.bus == y.function.slot.bus) (is_root q.roots x.function.slot.bus && is_root q.roots y.function.slot.bus) is) [
    | inl same ↦ inl (eqb-true x.function.slot.bus y.function.slot.bus same)
    | inr both ↦
        let parts = and_parts (is_root q.roots x.function.slot.bus) (is_root q.roots y.function.slot.bus) both in
        inr ((root_means q.roots x.function.slot.bus).0 parts.0, (root_means q.roots y.function.slot.bus).0 parts.1)
  ]

  -- parts that are beside each other end apart
  pub ends_apart : (x y : FunctionPart) → Contains s x.function → Contains s y.function → has_part x.function x.part ≡ true → has_part y.function y.part ≡ true → are_beside q x y ≡ true → (rank x ≡ rank y → ⊥)
      → (t u : Range) → range_then q s k x ≡ Some t → range_then q s k y ≡ Some u → LieApart t u
  ends_apart x y in_x in_y there_x there_y beside differ t u ends_t ends_u =
      let parts = and_parts (are_siblings q.roots x.function.slot.bus y.function.slot.bus) (are_same_space (part_space x) (part_space y)) beside in
      are_apart q s k can x.function y.function x.part y.part in_x in_y there_x there_y (one_space (part_space x) (part_space y) parts.1) (beside_of x y parts.0) (two_of_ranks x y differ) t u ends_t ends_u

-- ---- what has addresses keeps them

-- What ends somewhere beside k does so beside j, with all of these addresses.
abbrev pub KeepsAll : Request → System → Kept → Kept → Type 0
KeepsAll q s k j =
    (r : FunctionPart) → Contains s r.function → has_part r.function r.part ≡ true → (t : Range) → range_then q s k r ≡ Some t → (u : Range) × (range_then q s j r ≡ Some u) × IsInside t u

pub keeps_itself : (q : Request) (s : System) (k : Kept) → KeepsAll q s k k
keeps_itself q s k r listed there t ends = (t, ends, (omega arith, omega arith))

-- beside a window with other addresses, where these hold what it had
pub keeps_with : (q : Request) (s : System) (k j : Kept) → IsSystem s → KeepsAll q s k j → (w : FunctionPart) (v : Range) → Contains s w.function → has_part w.function w.part ≡ true
    → ((t : Range) → range_then q s k w ≡ Some t → IsInside t v) → KeepsAll q s k (with_window w v j)
keeps_with q s k j system keeps w v in_w there_w holds r listed there t ends = elim (cases_eq (rank r) (rank w)) [
  | inr differ ↦ (let is = keeps r listed there t ends in (is.0, range_without q s j w v r differ ∙ is.1, is.2))
  | inl same ↦
      let one = one_of_rank s system r w listed in_w there there_w same in
      (v, ap (range_then q s (with_window w v j)) one ∙ range_with q s j w v, holds t (ap (range_then q s k) (sym one) ∙ ends))
]

-- Windows of each other class are as before.
abbrev pub KeepsClasses : Request → System → WindowKind → Kept → Kept → Type 0
KeepsClasses q s c k j =
    (e : WindowKind) → (e ≡ c → ⊥) → (x : Function) → Contains s x → is_bridge x ≡ true → range_then q s j (window_part e x) ≡ range_then q s k (window_part e x)

pub classes_with : (q : Request) (s : System) (c : WindowKind) (k j : Kept) → IsSystem s → KeepsClasses q s c k j → (b : Function) (v : Range) → Contains s b → is_bridge b ≡ true → KeepsClasses q s c k (with_window (window_part c b) v j)
classes_with q s c k j system keeps b v listed bridge e differ x in_x is_x =
    range_without q s j (window_part c b) v (window_part e x)
    (λ same. differ (ap (λ (r : FunctionPart). kind_or c r.part) (one_of_rank s system (window_part e x) (window_part c b) in_x listed is_x bridge same)))
    ∙ keeps e differ x in_x is_x

-- ---- room for a window

-- Beside k it is kept so that there is room for addresses of a window of a bridge: what is above may end later.
pub record HasRoom (q : Request) (s : System) (c : WindowKind) (k j : Kept) (b : Function) (v : Range) : Type 0 where
  pub can : CanSettle q s j
  pub alike : unwished j ≡ unwished k
  -- what is beside the bridge, and all on its bus or a later one, ends as before
  pub beside : (r : FunctionPart) → Contains s r.function → has_part r.function r.part ≡ true → are_siblings q.roots b.slot.bus r.function.slot.bus ≡ true → range_then q s j r ≡ range_then q s k r
  pub later : (r : FunctionPart) → Contains s r.function → has_part r.function r.part ≡ true → b.slot.bus ≤ r.function.slot.bus → range_then q s j r ≡ range_then q s k r
  pub keeps : KeepsAll q s k j
  pub classes : KeepsClasses q s c k j
  pub lists : is_root q.roots b.slot.bus ≡ true → is_in_lists q b.slot.bus v (window_space c) ≡ true
  pub over : (d : Function) → LeadsTo s d b.slot.bus → (u : Range) × (range_then q s j (window_part c d) ≡ Some u) × IsInside v u

-- an open window that ends later
module _ (q : Request) (s : System) (c : WindowKind) (k : Kept) (can : CanSettle q s k) (b : Function) (listed : Contains s b) (bridge : is_bridge b ≡ true) (w : Range) (ends : range_then q s k (window_part c b) ≡ Some w) where
  abbrev r : FunctionPart
  r = window_part c b

  module _ (last : ℕ) (more : w.last ≤ last) (unfixed : is_fixed_part q (window_part c b) ≡ false) (low : end_over c w last ≤ highest_in c b.probe)
      (free : (t : Range) → Contains (there_then q s k (window_space c) b.slot.bus) t → ranges_are_apart (gained w (end_over c w last)) t ≡ true)
      (lines : is_off_lines q s c b (gained w (end_over c w last)) ≡ true) (j : Kept) (room : HasRoom q s c k j b (ending_at w (end_over c w last))) where
    abbrev v : Range
    v = ending_at w (end_over c w last)

    is : IsWindowEnd q s k can c b w
    is = window_end_is q s k can c b listed bridge w ends

    over : IsEndOver c w last
    over = end_is c w last is.last

    place_before : (t : Range) → place_then q s j r ≡ Some t → place_then q s k r ≡ Some t
    place_before t placed = sym (places_alike q s k j room.alike r) ∙ placed

    inside : IsInside w v
    inside = (let up = over.over in (omega arith, omega (arith, up, more)))

    -- it is off what it is beside, and what it gains is too
    apart : (x : FunctionPart) (t : Range) → Contains s x.function → has_part x.function x.part ≡ true → are_beside q r x ≡ true → (rank x ≡ rank r → ⊥) → range_then q s j x ≡ Some t → LieApart v t
    apart x t in_x there beside differ then =
        let parts = and_parts (are_siblings q.roots b.slot.bus x.function.slot.bus) (are_same_space (window_space c) (part_space x)) beside in
        let before : range_then q s k x ≡ Some t = sym (room.beside x in_x there parts.0) ∙ then in
        let forward = ends_forward q s k can x.function x.part in_x there t before in
        elim (ends_apart q s k can r x listed in_x bridge there beside (λ e. differ (sym e)) w t ends before) [
          | inr after ↦ inr after
          | inl off ↦ elim (lie_apart (gained w (end_over c w last)) t (free t (in_there q s k can (window_space c) b.slot.bus x t in_x there parts.0 parts.1 before))) [
            | inl under ↦ inl under
            | inr above ↦ absurd (let no : ⊥ = omega (arith, off, above, forward) in no)
          ]
        ]

    -- and so it is with lines
    off_lines : (x : ToldRegion) → Contains (told_regions q.told) x → can_keep_off q x b.slot (window_space c) ≡ true → x.told.first ≤ x.told.last
        → ((t : Range) → place_then q s j r ≡ Some t → LieApart t (line_range x)) → LieApart v (line_range x)
    off_lines x told can_be forward placed =
        let kept = all_gives (λ x. not (keeps_off q x b.slot (window_space c) (gained w (end_over c w last)))) (told_regions q.told) x lines told in
        let apart = and_second_false (can_keep_off q x b.slot (window_space c)) (not (ranges_are_apart (line_range x) (gained w (end_over c w last)))) can_be (not-true (keeps_off q x b.slot (window_space c) (gained w (end_over c w last))) kept) in
        elim (is.off x told can_be forward (λ t at. placed t (places_alike q s k j room.alike r ∙ at))) [
          | inr above ↦ inr above
          | inl under ↦ elim (lie_apart (line_range x) (gained w (end_over c w last)) (not-false (ranges_are_apart (line_range x) (gained w (end_over c w last))) apart)) [
            | inl over ↦ absurd (let no : ⊥ = omega (arith, under, over, forward) in no)
            | inr past ↦ inl past
          ]
        ]

    fits : IsWishedWindow q s j c b v
    fits = record {
      there = is.there;
      unfixed = unfixed;
      forward = (let forward = is.forward in let in_v = inside.1 in omega (arith, forward, in_v));
      first = is.first;
      last = over.whole;
      low = low;
      holds = λ t placed. within t w v (is.holds t (place_before t placed)) inside;
      outward = λ t placed n. further_out (bounds_for c n t.first t.last) (bounds_for c n w.first w.last) (bounds_for c n v.first v.last) (is.outward t (place_before t placed) n) (over.out more n);
      apart = apart;
      off = off_lines;
      lists = room.lists;
      over = room.over;
    }

    wider : (t : Range) → range_then q s j r ≡ Some t → IsInside t v
    wider t then =
        let at : Some w ≡ Some t = sym ends ∙ sym (room.later r listed bridge (omega arith)) ∙ then in
        let same : w ≡ t = cc in
        subst (λ x. IsInside x v) same inside

    pub can_end_later : CanSettle q s (with_window r v j)
    can_end_later = can_added q s j room.can c b listed bridge v fits wider

    pub keeps_wider : KeepsAll q s k (with_window r v j)
    keeps_wider = keeps_with q s k j can.system room.keeps r v listed bridge (λ t other. (let is : Some w ≡ Some t = sym ends ∙ other in let same : w ≡ t = cc in subst (λ x. IsInside x v) same inside))

    pub ends_over : last ≤ end_over c w last
    ends_over = over.over
