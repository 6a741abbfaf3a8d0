-- Where not all is placed anew, each spare has room then or none is there for it, so settled again nothing is written.
use Rattle.std.proofs.Common.{◌≡◌, ◌&&◌, ◌⊎◌, ℕ, ◌<◌, ◌≤◌, inl, inr, List, [], ◌∷◌, ◌++◌, Bool, true, false, cond, arith, refl, sym, ◌∙◌, ap, subst, Option, None, Some}
use Rattle.std.specs.Bool.{nat_le, nat_lt}
use Rattle.std.specs.List.{Contains, filter, flat_map, list_any}
use Rattle.std.specs.Option.{is_some, option_map}
use Rattle.std.proofs.lemmas.Bool.{and_parts, both_ways, cond_both, leb-true, le-leb}
use Rattle.std.proofs.lemmas.List.Elements.{Contains-append_cases, Contains-append_left, Contains-append_right}
use Rattle.pci_spec.specs.Slot.{same_slot}
use Rattle.pci_spec.specs.Decoded.{Range}
use Rattle.pci_spec.specs.Window.{WindowKind, IoWindow, MemoryWindow, PrefetchWindow, has_window}
use Rattle.pci_spec.specs.System.{System, Function, Window, window_space}
use Rattle.pci_spec.specs.Bus.{secondary, are_siblings}
use Rattle.pci_spec.proofs.Members.{in_nil, in_cons_cases, in_head, in_tail, in_filter_to, IsInPiece, in_flat_map_to, in_flat_map_from, IsMade, in_map_to}
use Rattle.plan_spec.specs.Plan.{is_open}
use Rattle.plan_spec.specs.Place.{range_from}
use Rattle.settle_spec.specs.FirstPlace.{Extent, ends_by, first_spot, first_place_in}
use Rattle.judge_spec.specs.ToldRegion.{ToldRegion, told_regions}
use Rattle.settle_spec.specs.Growing.{finally_kept}
use Rattle.settle_spec.specs.Lines.{lines_on}
use Rattle.settle_spec.specs.Lists.{Request, wanted_in}
use Rattle.settle_spec.specs.Spares.{spare_extent}
use Rattle.settle_spec.specs.Parts.{FunctionPart, system_parts, addresses, are_same_space}
use Rattle.settle_spec.specs.Stands.{part_space, window_part}
use Rattle.settle_spec.specs.Items.{highest_in, spare_of}
use Rattle.settle_spec.specs.Growth.{range_list, there_on}
use Rattle.settle_spec.specs.Writes.{Settled}
use Rattle.settle_spec.specs.Kept.{Kept, growing}
use Rattle.settle_spec.specs.Registers.{changing}
use Rattle.settle_spec.specs.Keeping.Registers.{settled, settled_function}
use Rattle.settle_spec.specs.Keeping.Writes.{settle_keeping}
use Rattle.settle_spec.specs.Wishes.{range_then, there_then, ending_if, ending_within, Spared, spot_behind, spared_if, spared_within, spared_behind, Granted, or_denied, with_spare_of, with_spares_of, with_all_spares, granted}
use Rattle.settle_spec.specs.Sparing.{without_slots, have_spares, placing_request, granted_beside, settle_wished, settle_sparing}
use Rattle.settle_spec.specs.SpareLaws.{kept_sparing, result_sparing}
use Rattle.settle_spec.proofs.FirstSpot.{least_spot, spot_from, spot_gives}
use Rattle.settle_laws.specs.Keeping.PlacesLaws.{CanSettle}
use Rattle.settle_laws.specs.ToldAgainLaws.{has_room_off}
use Rattle.settle_laws.proofs.HeaderParts.{window_of}
use Rattle.settle_laws.proofs.Kept.{in_regions}
use Rattle.settle_laws.proofs.Keeping.Claimed.{bridge_stays}
use Rattle.settle_laws.proofs.Keeping.Shown.{IsChanging, changing_is}
use Rattle.settle_laws.proofs.Wishing.ByBus.{ending_by_bus, spared_by_bus}
use Rattle.settle_laws.proofs.Wishing.Granted.{spare_is}
use Rattle.settle_laws.proofs.Wishing.Room.{room_off_there}
use Rattle.settle_laws.proofs.Wishing.Answered.{each_answered}
use Rattle.settle_laws.proofs.Wishing.Spots.{HasSpot}
use Rattle.settle_laws.proofs.Told.Slots.{start_of}
use Rattle.settle_laws.proofs.Told.NothingSettled.{IsStart, grown_settles}
use Rattle.settle_laws.proofs.Wishing.DeniedAgain.{none_then}
use Rattle.settle_laws.proofs.Wishing.Still.{finally_is, settled_without, have, stays_there, only_there}
use Rattle.settle_laws.proofs.Wishing.Sparing.{sparing_is_wished}

if_so : {T : Type 0} (x : Bool) (a b : T) → x ≡ true → cond x a b ≡ a
if_so true a b is = refl
if_so false a b is = absurd (both_ways false refl is)

-- ---- where each part stands, and each window has room for its spare

module _ (q : Request) (t : System) (start : IsStart q t) where
  abbrev k : Kept
  k = growing q t

  module _ (c : WindowKind) (b : Function) (e : Extent) (listed : Contains t b) (spare : spare_of q c b ≡ Some e) (room : has_room_off q t c b e ≡ true) where
    abbrev r : FunctionPart
    r = window_part c b

    abbrev lines : List Range
    lines = lines_on q (window_space c) (secondary b)

    abbrev parts_there : List Range
    parts_there = there_on q t (λ x. Some (addresses x)) (λ x. are_same_space (window_space c) (part_space x)) (secondary b)

    abbrev taken : List Range
    taken = lines ++ parts_there

    abbrev there_now : List Range
    there_now = there_then q t k (window_space c) (secondary b)

    abbrev now : List Range
    now = lines ++ there_now

    aligned : 0 < e.alignment
    aligned = (spare_is q c b e spare).spare.aligned

    parts : (is_open b c ≡ true) × (is_some (first_place_in (addresses r) taken e) ≡ true)
    parts = and_parts (is_open b c) (is_some (first_place_in (addresses r) taken e)) room

    in_parts : Contains (system_parts q t) r
    in_parts = in_regions q t b (Window c) listed (window_of b c) parts.0

    one_of : (o : Option Range) (u : Range) → Contains (range_list o) u → o ≡ Some u
    one_of None u has = absurd (in_nil u has)
    one_of (Some x) u has = elim (in_cons_cases x [] u has) [ inl is ↦ ap Some is | inr none ↦ absurd (in_nil u none) ]

    -- what is there now is there
    part_in : (u : Range) → Contains there_now u → Contains parts_there u
    part_in u has =
        let test = λ (x : FunctionPart). are_siblings q.roots (secondary b) x.function.slot.bus && are_same_space (window_space c) (part_space x) in
        let piece : IsInPiece (λ x. range_list (range_then q t k x)) (filter test (flat_map (changing q t) t)) u = in_flat_map_to (λ x. range_list (range_then q t k x)) (filter test (flat_map (changing q t) t)) u has in
        let x = piece.of in
        let chosen = in_filter_to test (flat_map (changing q t) t) x piece.has in
        let of : IsInPiece (changing q t) t x = in_flat_map_to (changing q t) t x chosen.0 in
        let is : IsChanging q t k of.of x = changing_is q t k of.of x of.piece in
        let ends = one_of (range_then q t k x) u piece.piece in
        let part : Contains (system_parts q t) x = subst (Contains (system_parts q t)) is.is (only_there q t start of.of is.p of.has is.there u (ap (range_then q t k) is.is ∙ ends)) in
        let at : Some (addresses x) ≡ Some u = sym (stays_there q t start x part) ∙ ends in
        let same : addresses x ≡ u = cc in
        in_flat_map_from (λ y. cond (are_siblings q.roots (secondary b) y.function.slot.bus && are_same_space (window_space c) (part_space y)) (addresses y ∷ []) []) (system_parts q t) x u part
        (subst (λ b. Contains (cond b (addresses x ∷ []) []) u) (sym chosen.1) (subst (Contains (addresses x ∷ [])) same (in_head (addresses x) [])))

    in_taken : (u : Range) → Contains now u → Contains taken u
    in_taken u has = elim (Contains-append_cases lines there_now u has) [
      | inl line ↦ Contains-append_left lines parts_there u line
      | inr there ↦ Contains-append_right lines parts_there u (part_in u there)
    ]

    first_there : ends_by (addresses r) e (first_spot (addresses r).first taken e) ≡ true
    first_there = by (ends_by (addresses r) e (first_spot (addresses r).first taken e)) refl parts.1
      where
        by : (x : Bool) → ends_by (addresses r) e (first_spot (addresses r).first taken e) ≡ x → is_some (cond x (Some (first_spot (addresses r).first taken e)) None) ≡ true → ends_by (addresses r) e (first_spot (addresses r).first taken e) ≡ true
        by true is some = is
        by false is some = absurd (both_ways false refl some)

    abbrev spot : ℕ
    spot = spot_behind q t c b e [] k (addresses r)

    -- its spot is no later
    no_later : spot ≤ first_spot (addresses r).first taken e
    no_later =
        let first = (least_spot (addresses r).first taken e aligned).free in
        let free = spot_gives (addresses r).first taken e (first_spot (addresses r).first taken e) first in
        (least_spot (addresses r).first now e aligned).least (first_spot (addresses r).first taken e)
        (spot_from (addresses r).first now e (first_spot (addresses r).first taken e) record { multiple = free.multiple; from = free.from; free = λ u has. free.free u (in_taken u has) })

    ends_in : (nat_le (range_from spot e.size).last (addresses r).last ≡ true) × (nat_le (range_from spot e.size).last e.highest ≡ true)
    ends_in =
        let first = first_spot (addresses r).first taken e in
        let both = and_parts (nat_le (range_from first e.size).last (addresses r).last) (nat_le (range_from first e.size).last e.highest) first_there in
        let last = leb-true (range_from first e.size).last (addresses r).last both.0 in
        let highest = leb-true (range_from first e.size).last e.highest both.1 in
        let early = no_later in (
          le-leb (range_from spot e.size).last (addresses r).last (omega (arith, last, early)),
          le-leb (range_from spot e.size).last e.highest (omega (arith, highest, early)),
        )

    ends_already : ending_within q t c 256 b (range_from spot e.size).last k ≡ Some k
    ends_already =
        ending_by_bus q t c start.needs.system start.needs.nested b listed (range_from spot e.size).last k
        ∙ ap (ending_if q t c (ending_within q t c 256) b (range_from spot e.size).last k) (stays_there q t start r in_parts)
        ∙ if_so (nat_le (range_from spot e.size).last (addresses r).last) (Some k) _ ends_in.0

    pub found : spared_behind q t c b e k ≡ Some (record { at = spot; kept = k })
    found =
        spared_by_bus q t c start.needs.system start.needs.nested b listed e [] k
        ∙ ap (spared_if q t c (spared_within q t c 256) b e [] k) (stays_there q t start r in_parts)
        ∙ ap (λ x. cond x (option_map (λ kept. record { at = spot; kept = kept }) (ending_within q t c 256 b (range_from spot e.size).last k)) None) ends_in.1
        ∙ ap (option_map (λ kept. record { at = spot; kept = kept })) ends_already

  -- ---- so nothing is changed for wishes

  module _ (answer : (c : WindowKind) (b : Function) (e : Extent) → Contains t b → spare_of q c b ≡ Some e → has_window c b.probe ≡ true → (has_room_off q t c b e ≡ true) ⊎ (is_some (spared_behind q t c b e k) ≡ false)) where
    none_for : (b : Function) (c : WindowKind) (e : Extent) (g : Granted) → g.kept ≡ k → (o : Option Spared) → is_some o ≡ false → (or_denied (window_part c b) g o).kept ≡ k
    none_for b c e g same None is = same
    none_for b c e g same (Some x) is = absurd (both_ways true is refl)

    one_wish : (c : WindowKind) (b : Function) → Contains t b → (g : Granted) → g.kept ≡ k → (o : Option Extent) → spare_of q c b ≡ o → (with_spare_of q t c b o g).kept ≡ k
    one_wish c b listed g same None at = same
    one_wish c b listed g same (Some e) at =
        cond_both (has_window c b.probe) (or_denied (window_part c b) g (spared_behind q t c b e g.kept)) g (λ (x : Granted). x.kept ≡ k)
        (λ there. elim (answer c b e listed at there) [
          | inl room ↦ ap (λ (o : Option Spared). (or_denied (window_part c b) g o).kept) (ap (spared_behind q t c b e) same ∙ found c b e listed at room)
          | inr none ↦ none_for b c e g same (spared_behind q t c b e g.kept) (ap (λ i. is_some (spared_behind q t c b e i)) same ∙ none)
        ])
        (λ absent. same)

    wishes_of : (b : Function) → Contains t b → (g : Granted) → g.kept ≡ k → (with_spares_of q t (spare_of q) b g).kept ≡ k
    wishes_of b listed g same =
        one_wish PrefetchWindow b listed (with_spare_of q t MemoryWindow b (spare_of q MemoryWindow b) (with_spare_of q t IoWindow b (spare_of q IoWindow b) g))
        (one_wish MemoryWindow b listed (with_spare_of q t IoWindow b (spare_of q IoWindow b) g) (one_wish IoWindow b listed g same (spare_of q IoWindow b) refl) (spare_of q MemoryWindow b) refl)
        (spare_of q PrefetchWindow b) refl

    all_wishes : (fs : System) → ((f : Function) → Contains fs f → Contains t f) → (with_all_spares q t (spare_of q) (record { kept = k; denied = [] }) fs).kept ≡ k
    all_wishes [] in_t = refl
    all_wishes (f ∷ more) in_t = wishes_of f (in_t f (in_head f more)) (with_all_spares q t (spare_of q) (record { kept = k; denied = [] }) more) (all_wishes more (λ g has. in_t g (in_tail f more g has)))

    wished_once : settle_wished q t ≡ Settled []
    wished_once =
        ap (λ x. settle_keeping (cond x q (without_slots q)) t (granted_beside q (cond x q (without_slots q)) t).kept) (have q t start)
        ∙ ap (λ i. settle_keeping q t (granted q t (spare_of q) i).kept) (finally_is q t start)
        ∙ ap (settle_keeping q t) (all_wishes t (λ f has. has))
        ∙ grown_settles q t start.needs start.fine

    settles_once : settle_sparing q t ≡ Settled []
    settles_once = sparing_is_wished q t (settled_without q t start) ∙ wished_once

-- ---- the result of a settling

-- What settling with room behind slots comes to needs nothing. It was settled with wishes, and could be without.
pub record IsSettledSparing (q : Request) (s : System) : Type 0 where
  pub forward : (x : ToldRegion) → Contains (told_regions q.told) x → x.told.first ≤ x.told.last
  pub base : CanSettle (placing_request q s) s (finally_kept (placing_request q s) s)
  pub can : CanSettle (placing_request q s) s (kept_sparing q s)
  pub start : IsStart (placing_request q s) (result_sparing q s)

module _ (q : Request) (s : System) (so : IsSettledSparing q s) where
  abbrev p : Request
  p = placing_request q s

  abbrev j : Kept
  j = kept_sparing q s

  abbrev t : System
  t = result_sparing q s

  by_placing : (P : Request → Type 0) → (P (without_slots q) → P q) → P p → P q
  by_placing P back = cond_both (have_spares q s) q (without_slots q) (λ x. P x → P q) (λ spares own. own) (λ none own. back own)

  pub start_then : IsStart q t
  start_then = by_placing (λ x. IsStart x t) (start_of q [] t) so.start

  -- lines of the request that places are those that were
  pub forward_p : (x : ToldRegion) → Contains (told_regions p.told) x → x.told.first ≤ x.told.last
  forward_p = cond_both (have_spares q s) q (without_slots q) (λ r. (x : ToldRegion) → Contains (told_regions r.told) x → x.told.first ≤ x.told.last) (λ spares. so.forward) (λ none. so.forward)

  -- the same spare is behind a bridge
  pub spare_alike : (c : WindowKind) (b : Function) → Contains s b → spare_of q c (settled_function p s j b) ≡ spare_of q c b
  spare_alike c b listed = ap
      (λ bridge. cond (list_any (same_slot b.slot) q.slots && bridge && nat_lt 0 (wanted_in q.spares c)) (Some (spare_extent c (wanted_in q.spares c) (highest_in c b.probe))) None)
      (bridge_stays p s j so.can b listed)

  -- a spare that has no room in the end has none there
  pub none_there : (c : WindowKind) (b : Function) (e : Extent) → Contains s b → spare_of q c b ≡ Some e → is_some (spared_behind p s c b e j) ≡ false
      → is_some (spared_behind q t c (settled_function p s j b) e (growing q t)) ≡ false
  none_there c b e listed spare none =
      let of = spare_is q c b e spare in
      cond_both (have_spares q s) q (without_slots q)
      (λ r. CanSettle r s j → IsStart q (settled r s j) → is_some (spared_behind r s c b e j) ≡ false → is_some (spared_behind q (settled r s j) c (settled_function r s j b) e (growing q (settled r s j))) ≡ false)
      (λ spares may start. none_then q so.forward q.slots s j may start c b listed of.bridge e of.spare.aligned)
      (λ without may start. none_then q so.forward [] s j may start c b listed of.bridge e of.spare.aligned) so.can start_then none

  -- a spot is room off lines there
  pub room_again : (c : WindowKind) (b : Function) (e : Extent) → Contains s b → spare_of q c b ≡ Some e → HasSpot p s c j b e → has_room_off q t c (settled_function p s j b) e ≡ true
  room_again c b e listed spare spot =
      let of = spare_is q c b e spare in
      cond_both (have_spares q s) q (without_slots q) (λ r. has_room_off q t c (settled_function p s j b) e ≡ has_room_off r t c (settled_function p s j b) e) (λ spares. refl) (λ none. refl)
      ∙ room_off_there p s j so.can c b listed of.bridge e of.spare.aligned spot

  -- a spare has room there, or there is none for it
  answer_of : (c : WindowKind) (b : Function) (e : Extent) → Contains s b → spare_of q c b ≡ Some e → has_window c b.probe ≡ true
      → (has_room_off q t c (settled_function p s j b) e ≡ true) ⊎ (is_some (spared_behind q t c (settled_function p s j b) e (growing q t)) ≡ false)
  answer_of c b e listed spare there =
      elim (each_answered p q forward_p s (finally_kept p s) so.base c b listed e there spare) [
        | inl spot ↦ inl (room_again c b e listed spare spot)
        | inr none ↦ inr (none_there c b e listed spare none)
      ]

  answer : (c : WindowKind) (b : Function) (e : Extent) → Contains t b → spare_of q c b ≡ Some e → has_window c b.probe ≡ true → (has_room_off q t c b e ≡ true) ⊎ (is_some (spared_behind q t c b e (growing q t)) ≡ false)
  answer c b e listed spare there =
      let f : IsMade (settled_function p s j) s b = in_map_to (settled_function p s j) s b listed in
      subst (λ x. (has_room_off q t c x e ≡ true) ⊎ (is_some (spared_behind q t c x e (growing q t)) ≡ false)) f.is
      (answer_of c f.from e f.has (sym (spare_alike c f.from f.has) ∙ ap (spare_of q c) f.is ∙ spare) (ap (λ (x : Function). has_window c x.probe) f.is ∙ there))

  -- settled again nothing is written
  pub kept_settle_once : settle_sparing q t ≡ Settled []
  kept_settle_once = settles_once q t start_then answer
