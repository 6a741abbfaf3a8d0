-- What can end at an address can end before it, and what can once more is kept free could before.
use Rattle.std.proofs.Common.{◌≡◌, ◌&&◌, ℕ, zero, suc, ◌+◌, ◌%◌, ◌<◌, ◌≤◌, inl, inr, List, [], ◌++◌, Bool, true, false, cond, not, arith, refl, sym, ◌∙◌, ap, subst, Option, None, Some}
use Rattle.std.specs.Bool.{nat_le, nat_lt}
use Rattle.std.specs.List.{Contains, filter, flat_map, list_all}
use Rattle.std.specs.Option.{is_some, option_map}
use Rattle.std.proofs.lemmas.Bool.{and_from, and_parts, both_ways, cases_lt, false_from_ne_true, leb-true, le-leb, lt-ltb, not-true, not_from_false, not_from_true, or_cases, or_left, or_right}
use Rattle.std.proofs.lemmas.List.Elements.{Contains-append_cases, Contains-append_left, Contains-append_right}
use Rattle.pci_spec.specs.Decoded.{Range}
use Rattle.pci_spec.specs.Window.{WindowKind, IoWindow, MemoryWindow, PrefetchWindow, page_size}
use Rattle.pci_spec.specs.System.{System, Function, Space, Io, Memory, Window, has_part, is_bridge, is_window, window_space}
use Rattle.pci_spec.specs.Bus.{are_siblings, is_root, LeadsTo}
use Rattle.pci_spec.proofs.BusRanges.{all_from}
use Rattle.pci_spec.proofs.Members.{in_nil, in_cons_cases, in_filter_to, IsInPiece, in_flat_map_to}
use Rattle.plan_spec.specs.Planning.Layout.{IsInside, LieApart}
use Rattle.plan_spec.proofs.Planning.Behind.{Passes, all_gives, any_from, any_gives}
use Rattle.settle_spec.specs.FirstPlace.{Extent, ranges_are_apart}
use Rattle.judge_spec.specs.ToldRegion.{ToldRegion, told_regions}
use Rattle.settle_spec.specs.Lines.{line_range, can_keep_off, keeps_off, lines_on}
use Rattle.settle_spec.specs.Lists.{Request, class_ranges}
use Rattle.settle_spec.specs.Parts.{FunctionPart, bridge_over, are_same_space, lies_within}
use Rattle.settle_spec.specs.Stands.{is_fixed_part, is_in_lists, is_listed, part_space, window_part}
use Rattle.settle_spec.specs.Items.{highest_in}
use Rattle.settle_spec.specs.Growth.{range_list}
use Rattle.settle_spec.specs.Kept.{Kept}
use Rattle.settle_spec.specs.Registers.{changing}
use Rattle.settle_spec.specs.Wishes.{range_then, there_then, taken_then, with_window, with_bridge, ending_at, gained, end_over, can_end_at, with_room_above, ending_if, ending_within, is_off_lines}
use Rattle.settle_spec.proofs.BridgeOver.{over_leads}
use Rattle.settle_laws.specs.Keeping.PlacesLaws.{CanSettle}
use Rattle.settle_laws.proofs.HeaderParts.{part_cases}
use Rattle.settle_laws.proofs.InLists.{within_from, within_gives}
use Rattle.settle_laws.proofs.ItemForms.{header_has}
use Rattle.settle_laws.proofs.Kept.{lie_apart}
use Rattle.settle_laws.proofs.Keeping.Ends.{in_window}
use Rattle.settle_laws.proofs.Keeping.Shown.{IsChanging, can_change, changing_is, window_bridge}
use Rattle.settle_laws.proofs.Wishing.Added.{within}
use Rattle.settle_laws.proofs.Wishing.ByBus.{ending_by_bus}
use Rattle.settle_laws.proofs.Wishing.Ends.{end_grows, end_least, end_holds}
use Rattle.settle_laws.proofs.Wishing.Later.{Change, Same, Longer, Opened, Changes, lower}
use Rattle.settle_laws.proofs.Wishing.Wider.{KeepsAll}
use Rattle.settle_laws.proofs.Wishing.Windows.{ends_forward, in_there, window_end_is}

-- ---- ranges

pub apart_so : (g t : Range) → LieApart g t → ranges_are_apart g t ≡ true
apart_so g t (inl under) = or_left (nat_lt g.last t.first) (nat_lt t.last g.first) (lt-ltb g.last t.first under)
apart_so g t (inr over) = or_right (nat_lt g.last t.first) (nat_lt t.last g.first) (lt-ltb t.last g.first over)

pub inside_apart : (g t u : Range) → IsInside t u → LieApart g u → LieApart g t
inside_apart g t u (first, last) (inl under) = inl (omega (arith, first, under))
inside_apart g t u (first, last) (inr over) = inr (omega (arith, last, over))

-- what lies in a list lies there with less
listed_less : (q : Request) (bus : ℕ) (v w : Range) (c : WindowKind) → IsInside w v → is_listed q bus v c ≡ true → is_listed q bus w c ≡ true
listed_less q bus v w c inside is =
    let found : Passes (lies_within v) (class_ranges q c bus) = any_gives (lies_within v) (class_ranges q c bus) is in
    any_from (lies_within w) (class_ranges q c bus) found.x found.listed (within_from w found.x (within w v found.x inside (within_gives v found.x found.is)))

lists_less : (q : Request) (bus : ℕ) (v w : Range) (space : Space) → IsInside w v → is_in_lists q bus v space ≡ true → is_in_lists q bus w space ≡ true
lists_less q bus v w Io inside is = listed_less q bus v w IoWindow inside is
lists_less q bus v w Memory inside is = elim (or_cases (is_listed q bus v MemoryWindow) (is_listed q bus v PrefetchWindow) is) [
  | inl memory ↦ or_left (is_listed q bus w MemoryWindow) (is_listed q bus w PrefetchWindow) (listed_less q bus v w MemoryWindow inside memory)
  | inr prefetch ↦ or_right (is_listed q bus w MemoryWindow) (is_listed q bus w PrefetchWindow) (listed_less q bus v w PrefetchWindow inside prefetch)
]

-- ---- what is there

module _ (q : Request) (s : System) (k : Kept) where
  pub record IsThere (space : Space) (bus : ℕ) (t : Range) : Type 0 where
    pub r : FunctionPart
    pub listed : Contains s r.function
    pub there : has_part r.function r.part ≡ true
    pub beside : are_siblings q.roots bus r.function.slot.bus ≡ true
    pub same : are_same_space space (part_space r) ≡ true
    pub ends : range_then q s k r ≡ Some t

  one_of : (o : Option Range) (t : Range) → Contains (range_list o) t → o ≡ Some t
  one_of None t has = absurd (in_nil t has)
  one_of (Some x) t has = elim (in_cons_cases x [] t has) [ inl is ↦ ap Some is | inr none ↦ absurd (in_nil t none) ]

  has_of : (f : Function) (r : FunctionPart) (c : IsChanging q s k f r) → has_part f c.p ≡ true
  has_of f r c = elim (part_cases f c.p c.there) [
    | inl bar ↦ header_has f c.p c.there (sym (ap is_window bar.is))
    | inr (inl window) ↦ subst (λ o. has_part f o ≡ true) window.is (window_bridge q s k f window.kind (ap (can_change q s k f) window.is ∙ c.can))
    | inr (inr rom) ↦ subst (λ o. has_part f o ≡ true) rom refl
  ]

  pub there_gives : (space : Space) (bus : ℕ) (t : Range) → Contains (there_then q s k space bus) t → IsThere space bus t
  there_gives space bus t has =
      let test = λ (x : FunctionPart). are_siblings q.roots bus x.function.slot.bus && are_same_space space (part_space x) in
      let piece : IsInPiece (λ x. range_list (range_then q s k x)) (filter test (flat_map (changing q s) s)) t = in_flat_map_to (λ x. range_list (range_then q s k x)) (filter test (flat_map (changing q s) s)) t has in
      let chosen = in_filter_to test (flat_map (changing q s) s) piece.of piece.has in
      let of : IsInPiece (changing q s) s piece.of = in_flat_map_to (changing q s) s piece.of chosen.0 in
      let is : IsChanging q s k of.of piece.of = changing_is q s k of.of piece.of of.piece in
      let parts = and_parts (are_siblings q.roots bus piece.of.function.slot.bus) (are_same_space space (part_space piece.of)) chosen.1 in
      record {
        r = piece.of;
        listed = subst (λ (x : FunctionPart). Contains s x.function) is.is of.has;
        there = subst (λ (x : FunctionPart). has_part x.function x.part ≡ true) is.is (has_of of.of piece.of is);
        beside = parts.0;
        same = parts.1;
        ends = one_of (range_then q s k piece.of) t piece.piece;
      }

-- what is off all that is there later is off all before
module _ (q : Request) (s : System) (k j : Kept) (next : CanSettle q s j) (keeps : KeepsAll q s k j) where
  pub off_before : (space : Space) (bus : ℕ) (g t : Range) → ((u : Range) → Contains (there_then q s j space bus) u → LieApart g u) → Contains (there_then q s k space bus) t → LieApart g t
  off_before space bus g t off has =
      let is = there_gives q s k space bus t has in
      let u = keeps is.r is.listed is.there t is.ends in
      inside_apart g t u.0 u.2 (off u.0 (in_there q s j next space bus is.r u.0 is.listed is.there is.beside is.same u.1))

  -- so it is with what lines hold, and more
  pub off_taken : (space : Space) (bus : ℕ) (lines : List Range) (g : Range) → ((u : Range) → Contains (lines ++ taken_then q s j space bus) u → LieApart g u) → (t : Range) → Contains (lines ++ taken_then q s k space bus) t → LieApart g t
  off_taken space bus lines g off t has =
      let on = lines_on q space bus in
      elim (Contains-append_cases lines (on ++ there_then q s k space bus) t has) [
        | inl here ↦ off t (Contains-append_left lines (on ++ there_then q s j space bus) t here)
        | inr more ↦ elim (Contains-append_cases on (there_then q s k space bus) t more) [
          | inl line ↦ off t (Contains-append_right lines (on ++ there_then q s j space bus) t (Contains-append_left on (there_then q s j space bus) t line))
          | inr there ↦ off_before space bus g t (λ u is. off u (Contains-append_right lines (on ++ there_then q s j space bus) u (Contains-append_right on (there_then q s j space bus) u is))) there
        ]
      ]

-- ---- lines

-- ranges that aren't apart share an address
meets_from : (r t : Range) → ranges_are_apart r t ≡ false → (t.first ≤ r.last) × (r.first ≤ t.last)
meets_from r t shares = (
  elim (cases_lt r.last t.first) [ inl under ↦ absurd (both_ways (ranges_are_apart r t) shares (apart_so r t (inl under))) | inr from ↦ from ],
  elim (cases_lt t.last r.first) [ inl over ↦ absurd (both_ways (ranges_are_apart r t) shares (apart_so r t (inr over))) | inr to ↦ to ],
)

meets : (r t : Range) → t.first ≤ r.last → r.first ≤ t.last → ranges_are_apart r t ≡ false
meets r t from to = false_from_ne_true (ranges_are_apart r t) (λ apart. elim (lie_apart r t apart) [
  | inl under ↦ (let no : ⊥ = omega (arith, under, from) in no)
  | inr over ↦ (let no : ⊥ = omega (arith, over, to) in no)
])

module _ (q : Request) (s : System) (c : WindowKind) where
  -- a line that keeps a window off a range isn't one that it is off
  off_line : (b : Function) (r : Range) (x : ToldRegion) → Contains (told_regions q.told) x → can_keep_off q x b.slot (window_space c) ≡ true → is_off_lines q s c b r ≡ true → ranges_are_apart (line_range x) r ≡ false → ⊥
  off_line b r x is_told may off shares =
      both_ways (not (keeps_off q x b.slot (window_space c) r))
      (not_from_true (keeps_off q x b.slot (window_space c) r) (and_from (can_keep_off q x b.slot (window_space c)) (not (ranges_are_apart (line_range x) r)) may (ap not shares)))
      (all_gives (λ y. not (keeps_off q y b.slot (window_space c) r)) (told_regions q.told) x off is_told)

  -- what a window gains is off lines where each of them that can keep it off misses that
  off_by : (b : Function) (r : Range) → ((x : ToldRegion) → Contains (told_regions q.told) x → can_keep_off q x b.slot (window_space c) ≡ true → ranges_are_apart (line_range x) r ≡ false → ⊥) → is_off_lines q s c b r ≡ true
  off_by b r none = all_from (λ x. not (keeps_off q x b.slot (window_space c) r)) (told_regions q.told) (λ x is_told.
      not_from_false (keeps_off q x b.slot (window_space c) r) (false_from_ne_true (keeps_off q x b.slot (window_space c) r) (λ keeps.
      let parts = and_parts (can_keep_off q x b.slot (window_space c)) (not (ranges_are_apart (line_range x) r)) keeps in
      none x is_told parts.0 (not-true (ranges_are_apart (line_range x) r) parts.1))))

  -- what it gains up to a lower address is off the same lines
  pub lines_less : (b : Function) (w : Range) (e d : ℕ) → d ≤ e → is_off_lines q s c b (gained w e) ≡ true → is_off_lines q s c b (gained w d) ≡ true
  lines_less b w e d le off = off_by b (gained w d) (λ x is_told may shares.
      let at = meets_from (line_range x) (gained w d) shares in
      let from = at.0 in
      let to = at.1 in
      off_line b (gained w e) x is_told may off (meets (line_range x) (gained w e) from (omega (arith, to, le))))

  -- and so is what it gains in two steps
  pub lines_between : ((x : ToldRegion) → Contains (told_regions q.told) x → x.told.first ≤ x.told.last) → (b : Function) (w : Range) (a e d : ℕ) → d ≤ e → is_off_lines q s c b (gained w a) ≡ true → is_off_lines q s c b (gained (ending_at w a) e) ≡ true
      → is_off_lines q s c b (gained w d) ≡ true
  lines_between forward b w a e d le first second = off_by b (gained w d) (λ x is_told may shares.
      let at = meets_from (line_range x) (gained w d) shares in
      let from = at.0 in
      let to = at.1 in
      let ahead = forward x is_told in
      elim (cases_lt a x.told.first) [
        | inr within_it ↦ off_line b (gained w a) x is_told may first (meets (line_range x) (gained w a) from (omega (arith, within_it)))
        | inl beyond ↦ off_line b (gained (ending_at w a) e) x is_told may second (meets (line_range x) (gained (ending_at w a) e) (omega (arith, beyond, ahead)) (omega (arith, to, le)))
      ])

-- ---- one window

some_first : (x : Bool) (k : Kept) (o : Option Kept) → x ≡ true → is_some (cond x (Some k) o) ≡ true
some_first true k o so = refl
some_first false k o so = absurd (both_ways false refl so)

some_parts : (x : Bool) (f : Kept → Kept) (o : Option Kept) → is_some (cond x (option_map f o) None) ≡ true → (x ≡ true) × (is_some o ≡ true)
some_parts true f (Some i) is = (refl, refl)
some_parts true f None is = absurd (both_ways false refl is)
some_parts false f o is = absurd (both_ways false refl is)

parts_some : (x : Bool) (f : Kept → Kept) (o : Option Kept) → x ≡ true → is_some o ≡ true → is_some (cond x (option_map f o) None) ≡ true
parts_some true f (Some i) so some = refl
parts_some true f None so some = absurd (both_ways false refl some)
parts_some false f o so some = absurd (both_ways false refl so)

module _ (q : Request) (forward : (x : ToldRegion) → Contains (told_regions q.told) x → x.told.first ≤ x.told.last) (s : System) (c : WindowKind) where
  -- what is asked for a window to end at an address
  pub record CanEnd (k : Kept) (b : Function) (w : Range) (e : ℕ) : Type 0 where
    pub off : is_off_lines q s c b (gained w e) ≡ true
    pub unfixed : not (is_fixed_part q (window_part c b)) ≡ true
    pub low : e ≤ highest_in c b.probe
    pub free : (t : Range) → Contains (there_then q s k (window_space c) b.slot.bus) t → LieApart (gained w e) t
    pub room : is_some (with_room_above q s c (ending_within q s c 256) b (ending_at w e) k) ≡ true

  can_gives : (k : Kept) (b : Function) (w : Range) (e : ℕ) → can_end_at q s c b k w e ≡ true → is_some (with_room_above q s c (ending_within q s c 256) b (ending_at w e) k) ≡ true → CanEnd k b w e
  can_gives k b w e may room =
      let there = there_then q s k (window_space c) b.slot.bus in
      let parts = and_parts (is_off_lines q s c b (gained w e) && not (is_fixed_part q (window_part c b))) (nat_le e (highest_in c b.probe) && list_all (ranges_are_apart (gained w e)) there) may in
      let first = and_parts (is_off_lines q s c b (gained w e)) (not (is_fixed_part q (window_part c b))) parts.0 in
      let more = and_parts (nat_le e (highest_in c b.probe)) (list_all (ranges_are_apart (gained w e)) there) parts.1 in
      record { off = first.0; unfixed = first.1; low = leb-true e (highest_in c b.probe) more.0; free = λ t has. lie_apart (gained w e) t (all_gives (ranges_are_apart (gained w e)) there t more.1 has); room = room }

  can_from : (k : Kept) (b : Function) (w : Range) (e : ℕ) → CanEnd k b w e → can_end_at q s c b k w e ≡ true
  can_from k b w e is =
      let there = there_then q s k (window_space c) b.slot.bus in
      and_from (is_off_lines q s c b (gained w e) && not (is_fixed_part q (window_part c b))) (nat_le e (highest_in c b.probe) && list_all (ranges_are_apart (gained w e)) there)
      (and_from (is_off_lines q s c b (gained w e)) (not (is_fixed_part q (window_part c b))) is.off is.unfixed)
      (and_from (nat_le e (highest_in c b.probe)) (list_all (ranges_are_apart (gained w e)) there) (le-leb e (highest_in c b.probe) is.low)
      (all_from (ranges_are_apart (gained w e)) there (λ t has. apart_so (gained w e) t (is.free t has))))

  -- what is around a window has room for one, where it has for another
  room_alike : (k j : Kept) (b : Function) (v u : Range) → (is_in_lists q b.slot.bus v (window_space c) ≡ true → is_in_lists q b.slot.bus u (window_space c) ≡ true)
      → (is_root q.roots b.slot.bus ≡ false → (d : Function) → LeadsTo s d b.slot.bus → is_some (ending_within q s c 256 d v.last k) ≡ true → is_some (ending_within q s c 256 d u.last j) ≡ true)
      → is_some (with_room_above q s c (ending_within q s c 256) b v k) ≡ true → is_some (with_room_above q s c (ending_within q s c 256) b u j) ≡ true
  room_alike k j b v u lists over is = by (is_root q.roots b.slot.bus) refl is
    where
      on_root : (x y : Bool) → (x ≡ true → y ≡ true) → is_some (cond x (Some k) None) ≡ true → is_some (cond y (Some j) None) ≡ true
      on_root true y so is = ap (λ t. is_some (cond t (Some j) None)) (so refl)
      on_root false y so is = absurd (both_ways false refl is)

      behind : (o : Option Function) → bridge_over s b.slot.bus ≡ o → is_root q.roots b.slot.bus ≡ false → is_some (with_bridge (λ d. ending_within q s c 256 d v.last k) o) ≡ true → is_some (with_bridge (λ d. ending_within q s c 256 d u.last j) o) ≡ true
      behind None at off is = absurd (both_ways false refl is)
      behind (Some d) at off is = over off d (over_leads s b.slot.bus d at) is

      by : (x : Bool) → is_root q.roots b.slot.bus ≡ x
          → is_some (cond x (cond (is_in_lists q b.slot.bus v (window_space c)) (Some k) None) (with_bridge (λ d. ending_within q s c 256 d v.last k) (bridge_over s b.slot.bus))) ≡ true
          → is_some (cond x (cond (is_in_lists q b.slot.bus u (window_space c)) (Some j) None) (with_bridge (λ d. ending_within q s c 256 d u.last j) (bridge_over s b.slot.bus))) ≡ true
      by true root is = on_root (is_in_lists q b.slot.bus v (window_space c)) (is_in_lists q b.slot.bus u (window_space c)) lists is
      by false off is = behind (bridge_over s b.slot.bus) refl off is

  module _ (k : Kept) (can : CanSettle q s k) (b : Function) (listed : Contains s b) (bridge : is_bridge b ≡ true) where
    abbrev r : FunctionPart
    r = window_part c b

    -- an open window that has the address already ends there
    pub ends_already : (w : Range) → range_then q s k r ≡ Some w → (last : ℕ) → last ≤ w.last → is_some (ending_within q s c 256 b last k) ≡ true
    ends_already w ends last le =
        ap is_some (ending_by_bus q s c can.system can.nested b listed last k ∙ ap (ending_if q s c (ending_within q s c 256) b last k) ends) ∙ some_first (nat_le last w.last) k _ (le-leb last w.last le)

    ending_form : (w : Range) → range_then q s k r ≡ Some w → (last : ℕ) → w.last < last
        → is_some (ending_within q s c 256 b last k)
        ≡ is_some (cond (can_end_at q s c b k w (end_over c w last)) (option_map (with_window r (ending_at w (end_over c w last))) (with_room_above q s c (ending_within q s c 256) b (ending_at w (end_over c w last)) k)) None)
    ending_form w ends last less =
        ap is_some (ending_by_bus q s c can.system can.nested b listed last k ∙ ap (ending_if q s c (ending_within q s c 256) b last k) ends)
        ∙ ap (λ t. is_some (cond t (Some k) (cond (can_end_at q s c b k w (end_over c w last)) (option_map (with_window r (ending_at w (end_over c w last))) (with_room_above q s c (ending_within q s c 256) b (ending_at w (end_over c w last)) k)) None)))
        (false_from_ne_true (nat_le last w.last) (λ le. let no : ⊥ = (let at = leb-true last w.last le in omega (arith, at, less)) in no))

    pub end_gives : (w : Range) → range_then q s k r ≡ Some w → (last : ℕ) → w.last < last → is_some (ending_within q s c 256 b last k) ≡ true → CanEnd k b w (end_over c w last)
    end_gives w ends last less is =
        let e = end_over c w last in
        let parts = some_parts (can_end_at q s c b k w e) (with_window r (ending_at w e)) (with_room_above q s c (ending_within q s c 256) b (ending_at w e) k) (sym (ending_form w ends last less) ∙ is) in
        can_gives k b w e parts.0 parts.1

    pub end_from : (w : Range) → range_then q s k r ≡ Some w → (last : ℕ) → w.last < last → CanEnd k b w (end_over c w last) → is_some (ending_within q s c 256 b last k) ≡ true
    end_from w ends last less is =
        let e = end_over c w last in
        ending_form w ends last less ∙ parts_some (can_end_at q s c b k w e) (with_window r (ending_at w e)) (with_room_above q s c (ending_within q s c 256) b (ending_at w e) k) (can_from k b w e is) is.room

    pages : (w : Range) → range_then q s k r ≡ Some w → (w.last + 1) % page_size c ≡ 0
    pages w ends = (window_end_is q s k can c b listed bridge w ends).last

    -- what can end at an address can end at a lower one
    can_less : (w : Range) (e d : ℕ) → d ≤ e → ((f : Function) → LeadsTo s f b.slot.bus → is_some (ending_within q s c 256 f e k) ≡ true → is_some (ending_within q s c 256 f d k) ≡ true) → CanEnd k b w e → CanEnd k b w d
    can_less w e d le over is =
        let low = is.low in
        record {
          off = lines_less q s c b w e d le is.off;
          unfixed = is.unfixed;
          low = omega (arith, low, le);
          free = λ t has. elim (is.free t has) [ inl under ↦ inl (omega (arith, under, le)) | inr above ↦ inr above ];
          room = room_alike k k b (ending_at w e) (ending_at w d) (λ listed. lists_less q b.slot.bus (ending_at w e) (ending_at w d) (window_space c) (omega arith, le) listed) (λ off f leads. over f leads) is.room;
        }

  -- so a window that can end at an address can end before it
  pub ends_before : (n : ℕ) (k : Kept) → CanSettle q s k → (b : Function) → Contains s b → is_bridge b ≡ true → b.slot.bus < n → (last less : ℕ) → less ≤ last → is_some (ending_within q s c 256 b last k) ≡ true → is_some (ending_within q s c 256 b less k) ≡ true
  ends_before zero k can b listed bridge low last less le is = absurd (let no : ⊥ = omega (arith, low) in no)
  ends_before (suc n) k can b listed bridge low last less le is = by (range_then q s k (window_part c b)) refl (λ f leads e d le. (let below = lower q s c can.system can.nested spareless f b.slot.bus leads in ends_before n k can f leads.0 leads.1 (omega (arith, below, low)) e d le))
    where
      spareless : Extent
      spareless = record { size = 1; alignment = 1; highest = 0 }

      by : (o : Option Range) → range_then q s k (window_part c b) ≡ o
          → ((f : Function) → LeadsTo s f b.slot.bus → (e d : ℕ) → d ≤ e → is_some (ending_within q s c 256 f e k) ≡ true → is_some (ending_within q s c 256 f d k) ≡ true)
          → is_some (ending_within q s c 256 b less k) ≡ true
      by None none over =
          let closed = ap is_some (ending_by_bus q s c can.system can.nested b listed last k ∙ ap (ending_if q s c (ending_within q s c 256) b last k) none) in
          absurd (both_ways false refl (sym closed ∙ is))
      by (Some w) ends over = elim (cases_lt w.last less) [
        | inr enough ↦ ends_already k can b listed bridge w ends less enough
        | inl more ↦
            let further : w.last < last = omega (arith, more, le) in
            let up = end_holds c w last in
            let least = end_least c w less last (pages k can b listed bridge w ends) (omega (arith, le, up)) in
            end_from k can b listed bridge w ends less more
            (can_less k can b listed bridge w (end_over c w last) (end_over c w less) least (λ f leads. over f leads (end_over c w last) (end_over c w less) least) (end_gives k can b listed bridge w ends last further is))
      ]

  -- ---- later, and before

  module _ (spare : Extent) (k j : Kept) (can : CanSettle q s k) (next : CanSettle q s j) (keeps : KeepsAll q s k j) (changes : Changes q s c can.system can.nested spare k j) where
    -- what can end once more is kept free could before
    pub ended_before : (n : ℕ) (b : Function) → Contains s b → is_bridge b ≡ true → b.slot.bus < n → (w : Range) → range_then q s k (window_part c b) ≡ Some w → (last : ℕ) → is_some (ending_within q s c 256 b last j) ≡ true → is_some (ending_within q s c 256 b last k) ≡ true
    ended_before zero b listed bridge low w ends last is = absurd (let no : ⊥ = omega (arith, low) in no)
    ended_before (suc n) b listed bridge low w ends last is =
        by (changes b listed bridge) (λ d leads u at end. (let below = lower q s c can.system can.nested spare d b.slot.bus leads in ended_before n d leads.0 leads.1 (omega (arith, below, low)) u at end))
      where
        -- that above is open, too
        open_above : (d : Function) → LeadsTo s d b.slot.bus → (u : Range) × (range_then q s k (window_part c d) ≡ Some u)
        open_above d leads = (let over = in_window q s k can b d (Window c) listed bridge leads w ends in (over.w, over.ends))

        Above : Type 0
        Above = (d : Function) → LeadsTo s d b.slot.bus → (u : Range) → range_then q s k (window_part c d) ≡ Some u → (end : ℕ) → is_some (ending_within q s c 256 d end j) ≡ true → is_some (ending_within q s c 256 d end k) ≡ true

        as_before : Above → range_then q s j (window_part c b) ≡ Some w → is_some (ending_within q s c 256 b last k) ≡ true
        as_before above then = elim (cases_lt w.last last) [
          | inr enough ↦ ends_already k can b listed bridge w ends last enough
          | inl more ↦
              let e = end_over c w last in
              let now = end_gives j next b listed bridge w then last more is in
              end_from k can b listed bridge w ends last more record {
                off = now.off;
                unfixed = now.unfixed;
                low = now.low;
                free = λ t has. off_before q s k j next keeps (window_space c) b.slot.bus (gained w e) t now.free has;
                room = room_alike j k b (ending_at w e) (ending_at w e) (λ listed. listed) (λ off d leads end. (let at = open_above d leads in above d leads at.0 at.1 e end)) now.room;
              }
        ]

        longer : Above → (other : ℕ) → range_then q s j (window_part c b) ≡ Some (ending_at w (end_over c w other)) → w.last < other → is_some (ending_within q s c 256 b other k) ≡ true → is_some (ending_within q s c 256 b last k) ≡ true
        longer above other then more could =
            let a = end_over c w other in
            let v = ending_at w a in
            let first = end_gives k can b listed bridge w ends other more could in
            elim (cases_lt w.last last) [
              | inr enough ↦ ends_already k can b listed bridge w ends last enough
              | inl further ↦ elim (cases_lt a last) [
                | inr within_it ↦
                    let least = end_least c w last other (pages k can b listed bridge w ends) within_it in
                    end_from k can b listed bridge w ends last further
                    (can_less k can b listed bridge w a (end_over c w last) least (λ f leads. ends_before (suc f.slot.bus) k can f leads.0 leads.1 (omega arith) a (end_over c w last) least) first)
                | inl beyond ↦
                    let e = end_over c v last in
                    let d = end_over c w last in
                    let now = end_gives j next b listed bridge v then last beyond is in
                    let up = end_grows c w last other (pages k can b listed bridge w ends) in
                    let low = now.low in
                    end_from k can b listed bridge w ends last further record {
                      off = lines_between q s c forward b w a e d up first.off now.off;
                      unfixed = now.unfixed;
                      low = omega (arith, low, up);
                      free = λ t has.
                          let is = there_gives q s k (window_space c) b.slot.bus t has in
                          let forward = ends_forward q s k can is.r.function is.r.part is.listed is.there t is.ends in
                          elim (first.free t has) [
                            | inr under ↦ inr under
                            | inl over ↦ elim (off_before q s k j next keeps (window_space c) b.slot.bus (gained v e) t now.free has) [
                              | inl beyond_it ↦ inl (omega (arith, beyond_it, up))
                              | inr inside ↦ absurd (let no : ⊥ = omega (arith, over, inside, forward) in no)
                            ]
                          ];
                      room = room_alike j k b (ending_at v e) (ending_at w d) (λ listed. lists_less q b.slot.bus (ending_at v e) (ending_at w d) (window_space c) (omega arith, up) listed)
                          (λ off f leads end. (let at = open_above f leads in ends_before (suc f.slot.bus) k can f leads.0 leads.1 (omega arith) e d up (above f leads at.0 at.1 e end))) now.room;
                    }
              ]
            ]

        by : Change q s c can.system can.nested spare k j b → Above → is_some (ending_within q s c 256 b last k) ≡ true
        by (Same same) above = as_before above (same ∙ ends)
        by (Longer u other before after more could) above =
            let is_w : Some u ≡ Some w = sym before ∙ ends in
            let one : u ≡ w = cc in
            longer above other (after ∙ ap (λ x. Some (ending_at x (end_over c x other))) one) (subst (λ (x : Range). x.last < other) one more) could
        by (Opened e lines found alike before after could) above = (let no_w : None ≡ Some w = sym before ∙ ends in absurd (let no : ⊥ = cc in no))
