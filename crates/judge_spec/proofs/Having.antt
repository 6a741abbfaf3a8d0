-- Which regions have a line.
use Rattle.std.proofs.Common.{◌≡◌, ℕ, ◌<◌, List, [], ◌∷◌, ◌++◌, sym, ap, subst, inl, inr, ◌∙◌, not, refl, arith}
use Rattle.std.specs.Prelude.{IsTrue, IsFalse, true}
use Rattle.std.specs.List.{Contains, flat_map, range_with_len}
use Rattle.std.proofs.lemmas.Bool.{and_parts, false≢true}
use Rattle.std.proofs.lemmas.List.Elements.{Contains-append_cases, Contains-append_left, Contains-append_right}
use Rattle.pci_spec.specs.Slot.{Slot, slot_number}
use Rattle.pci_spec.specs.Window.{WindowKind, IoWindow, MemoryWindow, PrefetchWindow, holds}
use Rattle.pci_spec.specs.System.{System, Space, Io, Memory, Part, Bar, Rom, Window, IsSystem, IsAddress, Function, Claims, Leads, Decodes, window_claims, window_space, is_space_on, is_window}
use Rattle.pci_spec.specs.System as system
use Rattle.pci_spec.specs.Bus.{is_root}
use Rattle.pci_spec.specs.Fault.{Address, address_in, named_region}
use Rattle.pci_spec.specs.Decoded.{InRange}
use Rattle.pci_spec.specs.Why.{Region, IsRegionIn}
use Rattle.pci_spec.proofs.Members.{in_nil, in_cons_cases, in_head, in_tail, IsMade, in_map_to, in_filter_from, in_range_from, IsInPiece, in_flat_map_to, in_flat_map_from}
use Rattle.pci_spec.proofs.BusRanges.{root_means}
use Rattle.pci_spec.proofs.Firsts.{slot_of as slot_of_function}
use Rattle.pci_spec.proofs.Nesting.{one_function}
use Rattle.pci_spec.proofs.Regions.{part_same, register_of-lt}
use Rattle.judge_spec.specs.Given.{Given, is_cut}
use Rattle.judge_spec.specs.Told.{ToldRange, IsTold}
use Rattle.judge_spec.specs.ToldClaims.{Told, is_marked_held}
use Rattle.judge_spec.specs.ToldFault.{IsOutside}
use Rattle.judge_spec.specs.ToldRegion.{ToldRegion, told_name, IsToldIn}
use Rattle.judge_spec.specs.Unclaimed.{IsUnclaimedOn}
use Rattle.judge_spec.proofs.Reasons.{low_register}
use Rattle.judge_spec.proofs.Snoop.{takes_none}
use Rattle.judge_spec.proofs.Unclaimed.{takes_what_is_unclaimed}
use Rattle.judge_spec.proofs.ToldAdds.{told_claim_addresses}
use Rattle.judge_spec.proofs.ToldNames.{one_range, told_slot}
use Rattle.judge_spec.specs.Regions.{MapRegion, Own, OfLine, slot_of, space_of, range_of, IsIn}
use Rattle.judge_spec.specs.Lines.{is_first_window, BelongsUnder, IsOutOfPlace, MapPlace, OnRoot, Inside, Lines, End, Free, Sits, regions_at, runs_at, all_regions, AreLinesAt, AreInPart, AreInside, AreAllInside, AreLinesOfPlace, StandsBehind, TakenBy}
use Rattle.judge_spec.specs.Map.{MapTaking, MapSpace, MapRoot, Map, IsBelow, HasTaker, HasWay, AreTakings, IsSpaceOfMap, IsMap, taken_regions, regions_of, regions_on, regions_in}
use Rattle.judge_spec.proofs.Freeing.{no_run}
use Rattle.judge_spec.specs.MapLaws.{WindowsAreInPlace, NothingIsTaken, TakenIsUnclaimed}

-- ---- each line is of a region

module _ (told : Told) (given : Given) (roots : List ℕ) (s : System) (space : Space) where
  -- a region of a space, in its place
  abbrev IsOf : MapRegion → Type 0
  IsOf q = IsIn told s q × (space_of q ≡ space) × (IsOutOfPlace told given roots s q → ⊥)

  inside_part : (part : Part) (w : Region) (q : MapRegion) (lines : Lines) → AreInPart part lines (AreLinesAt told given roots s space (Inside w) lines) → Contains (regions_at lines) q → IsOf q
  inside_part (Bar n) w q lines none has = absurd (in_nil q (subst (λ ls. Contains (regions_at ls) q) none has))
  inside_part Rom w q lines none has = absurd (in_nil q (subst (λ ls. Contains (regions_at ls) q) none has))
  inside_part (Window kind) w q lines are has = (are.regions q has, are.of_space q has, are.within q has)

  inside_of : (p q : MapRegion) (lines : Lines) → AreInside told given roots s space p lines → Contains (regions_at lines) q → IsOf q
  inside_of (Own w) q lines are has = inside_part w.part w q lines are has
  inside_of (OfLine x) q lines none has = absurd (in_nil q (subst (λ ls. Contains (regions_at ls) q) none has))

  pub line_of_region : (lines : Lines) (q : MapRegion) → ((p : MapRegion) → Contains (regions_at lines) p → IsOf p) → AreAllInside told given roots s space lines → Contains (all_regions lines) q → IsOf q
  line_of_region End q here inside has = absurd (in_nil q has)
  line_of_region (Free r rest) q here inside has = line_of_region rest q here inside has
  line_of_region (Sits p below rest) q here inside has = elim (in_cons_cases p (all_regions below ++ all_regions rest) q has) [
    | inl first ↦ subst (IsOf) first (here p (in_head p (regions_at rest)))
    | inr later ↦ elim (Contains-append_cases (all_regions below) (all_regions rest) q later) [
      | inl within ↦ line_of_region below q (λ z there. inside_of p z below inside.0 there) inside.1 within
      | inr behind ↦ line_of_region rest q (λ z there. here z (in_tail p (regions_at rest) z there)) inside.2 behind
    ]
  ]

  pub line_in_place : (place : MapPlace) (lines : Lines) (q : MapRegion) → AreLinesOfPlace told given roots s space place lines → Contains (all_regions lines) q → IsOf q
  line_in_place place lines q are has = line_of_region lines q (λ p there. (are.0.regions p there, are.0.of_space p there, are.0.within p there)) are.1 has

  -- what stands in a place has a line there
  pub stands_there : (lines : Lines) (q : MapRegion) → Contains (regions_at lines) q → Contains (all_regions lines) q
  stands_there End q has = has
  stands_there (Free r rest) q has = stands_there rest q has
  stands_there (Sits p below rest) q has = elim (in_cons_cases p (regions_at rest) q has) [
    | inl first ↦ subst (λ z. Contains (all_regions (Sits p below rest)) z) first (in_head p (all_regions below ++ all_regions rest))
    | inr later ↦ in_tail p (all_regions below ++ all_regions rest) q (Contains-append_right (all_regions below) (all_regions rest) q (stands_there rest q later))
  ]

  -- what belongs under a window that has a line has one
  pub below_window : (lines : Lines) (w : Region) (q : MapRegion) (kind : WindowKind) → w.part ≡ Window kind → AreAllInside told given roots s space lines → Contains (all_regions lines) (Own w)
      → IsOf q → BelongsUnder given s w q → Contains (all_regions lines) q
  below_window End w q kind window inside has of under = absurd (in_nil (Own w) has)
  below_window (Free r rest) w q kind window inside has of under = below_window rest w q kind window inside has of under
  below_window (Sits p below rest) w q kind window inside has of under = elim (in_cons_cases p (all_regions below ++ all_regions rest) (Own w) has) [
    | inl first ↦ (
        let its : AreInside told given roots s space (Own w) below = subst (λ z. AreInside told given roots s space z below) first inside.0 in
        let here : AreLinesAt told given roots s space (Inside w) below = subst (λ part. AreInPart part below (AreLinesAt told given roots s space (Inside w) below)) window its in
        let there : Contains (regions_at below) q = here.complete q of.0 of.1 under of.2 in
        in_tail p (all_regions below ++ all_regions rest) q (Contains-append_left (all_regions below) (all_regions rest) q (stands_there below q there)))
    | inr later ↦ in_tail p (all_regions below ++ all_regions rest) q (elim (Contains-append_cases (all_regions below) (all_regions rest) (Own w) later) [
      | inl within ↦ Contains-append_left (all_regions below) (all_regions rest) q (below_window below w q kind window inside.1 within of under)
      | inr behind ↦ Contains-append_right (all_regions below) (all_regions rest) q (below_window rest w q kind window inside.2 behind of under)
    ])
  ]

-- ---- windows

-- a window that claims an address forwards its own space
pub first_space : (given : Given) (space : Space) (kind : WindowKind) (a : ℕ) (b : Function) → IsTrue (is_first_window given space kind a b) → window_space kind ≡ space
first_space given Io IoWindow a b is = refl
first_space given Io MemoryWindow a b is = absurd (false≢true is)
first_space given Io PrefetchWindow a b is = absurd (false≢true is)
first_space given Memory IoWindow a b is = absurd (false≢true is)
first_space given Memory MemoryWindow a b is = refl
first_space given Memory PrefetchWindow a b is = refl

pub first_claims : (given : Given) (space : Space) (kind : WindowKind) (a : ℕ) (b : Function) → IsTrue (is_first_window given space kind a b) → IsTrue (window_claims b kind a)
first_claims given Io IoWindow a b is = (and_parts (window_claims b IoWindow a) (not (is_cut given Io a b.slot)) is).0
first_claims given Io MemoryWindow a b is = absurd (false≢true is)
first_claims given Io PrefetchWindow a b is = absurd (false≢true is)
first_claims given Memory IoWindow a b is = absurd (false≢true is)
first_claims given Memory MemoryWindow a b is = is
first_claims given Memory PrefetchWindow a b is = (and_parts (window_claims b PrefetchWindow a) (not (window_claims b MemoryWindow a)) is).0

-- a region's first address is one that it claims
pub first_claimed : (s : System) (q : Region) (is : IsRegionIn s q) → Claims is.f q.part q.space q.range.first
first_claimed s q is = (is.claims q.range.first).0 (omega arith, is.some)

-- a window has the space of what belongs under it
pub window_has_space : (given : Given) (s : System) (w : Region) (q : MapRegion) → IsRegionIn s w → BelongsUnder given s w q → w.space ≡ space_of q
window_has_space given s w q is under =
    let maps : window_space under.kind ≡ w.space = ap (λ part. system.space_of is.f part) (sym under.window) ∙ (first_claimed s w is).maps in
    sym maps ∙ first_space given (space_of q) under.kind (range_of q).first under.b under.first

-- a region's first address is one of its space
first_address : (told : Told) (s : System) (q : MapRegion) → IsTold told.ranges → IsIn told s q → IsAddress (space_of q) (range_of q).first
first_address told s (Own q) lawful of = (first_claimed s q of).address
first_address told s (OfLine x) lawful of =
    told_claim_addresses told s (told_name x) x.told x.told.space x.told.first lawful of.named record { on = of.on; holds = (refl, omega arith, of.some) }

-- and the window has it
pub window_holds : (told : Told) (given : Given) (s : System) (w : Region) (q : MapRegion) → IsSystem s → IsTold told.ranges → IsRegionIn s w → IsIn told s q → BelongsUnder given s w q
    → InRange w.range (range_of q).first
window_holds told given s w q system lawful is of under =
    let same : under.b ≡ is.f = one_function s system under.b is.f under.listed is.listed (ap slot_number (under.slot ∙ sym is.slot)) in
    let first = first_claimed s w is in
    let claims : IsTrue (window_claims is.f under.kind (range_of q).first) = subst (λ (b : Function). IsTrue (window_claims b under.kind (range_of q).first)) same (first_claims given (space_of q) under.kind (range_of q).first under.b under.first) in
    let both = and_parts (is_space_on is.f (window_space under.kind)) (holds under.kind is.f.image is.f.probe (range_of q).first) claims in
    let space = window_has_space given s w q is under in
    (is.claims (range_of q).first).1 record {
      there = first.there;
      enabled = first.enabled;
      maps = first.maps;
      address = subst (λ sp. IsAddress sp (range_of q).first) (sym space) (first_address told s q lawful of);
      decodes = subst (λ part. Decodes is.f part (range_of q).first) (sym under.window) both.1;
    }

-- BARs and ROMs are at other registers, and so are told ranges
window_in_place : (told : Told) (given : Given) (roots : List ℕ) (s : System) (q : Region) (a : ℕ) → IsSystem s → IsRegionIn s q → IsTrue (is_window q.part)
    → IsOutside told given roots s (named_region q.slot q.register) (address_in q.space a) → ⊥
window_in_place told given roots s q a is_system is window (inl o) =
    let same : o.f ≡ is.f = one_function s is_system o.f is.f o.listed is.listed (ap slot_number (o.named.0 ∙ sym is.slot)) in
    let claims = subst (λ (f : Function). Claims f o.part q.space a) same o.claims in
    let part : o.part ≡ q.part = part_same is.f o.part q.part claims.there (first_claimed s q is).there (ap (λ f. system.register_of f o.part) (sym same) ∙ o.named.1 ∙ sym is.register) in
    false≢true (sym o.no_window ∙ ap is_window part ∙ window)
window_in_place told given roots s q a is_system is window (inr o) =
    let low = low_register s q is in let line = o.needs.named.register in omega (arith, low, line)

pub windows_in_place : WindowsAreInPlace
windows_in_place told given roots s q system is window out = window_in_place told given roots s q out.address system is window out.outside

-- what is out of place isn't held
held_in_place : (told : Told) (given : Given) (roots : List ℕ) (s : System) (x : ToldRegion) (at : Address) → IsToldIn told s x → IsOutside told given roots s (told_name x) at → IsFalse (is_marked_held x.told.mark)
held_in_place told given roots s x at is (inl o) =
    let low = register_of-lt o.f o.part o.claims.there in let named = o.named.1 in let line = is.named.register in absurd (let no : ⊥ = omega (arith, low, named, line) in no)
held_in_place told given roots s x at is (inr o) =
    subst (λ (r : ToldRange). IsFalse (is_marked_held r.mark)) (one_range told (told_name x) o.r x.told o.needs.named is.named) o.needs.not_held

-- ---- the regions of a map

module _ (told : Told) (given : Given) (roots : List ℕ) (s : System) where
  abbrev pub IsInPlace : MapRegion → Type 0
  IsInPlace q = IsOutOfPlace told given roots s q → ⊥

  on_side : (space : Space) (place : MapPlace) (lines : Lines) (w : Region) (q : MapRegion) → AreLinesOfPlace told given roots s space place lines → IsRegionIn s w → IsIn told s q → IsInPlace q → BelongsUnder given s w q
      → Contains (all_regions lines) (Own w) → Contains (all_regions lines) q
  on_side space place lines w q are is of in_place under has =
      let here = line_in_place told given roots s space place lines (Own w) are has in
      below_window told given roots s space lines w q under.kind under.window are.1 has (of, sym (window_has_space given s w q is under) ∙ here.1, in_place) under

  -- a space of a root bus
  module _ (space : Space) (root : ℕ) (x : MapSpace) (is : IsSpaceOfMap told given roots s space root x) where
    -- what has a line there
    in_space : (q : MapRegion) → Contains (regions_of x) q → IsIn told s q × IsInPlace q
    in_space q has = elim (Contains-append_cases (all_regions x.lines) (flat_map taken_regions x.taken) q has) [
      | inl on ↦ (let of = line_in_place told given roots s space (OnRoot root) x.lines q is.lines on in (of.0, of.2))
      | inr taken ↦ (
          let piece : IsInPiece taken_regions x.taken q = in_flat_map_to taken_regions x.taken q taken in
          let it = is.taken.each piece.of piece.has in
          let of = line_in_place told given roots s space (TakenBy piece.of.slot) piece.of.lines q it.lines piece.piece in
          (of.0, of.2))
    ]

    -- what stands on the bus has a line there
    stands_on : (q : MapRegion) → IsIn told s q → IsInPlace q → space_of q ≡ space → (slot_of q).bus ≡ root → Contains (regions_of x) q
    stands_on q of in_place at on =
        Contains-append_left (all_regions x.lines) (flat_map taken_regions x.taken) q
        (stands_there told given roots s space x.lines q (is.lines.0.complete q of at on in_place))

    -- and so has what a bridge takes
    stands_behind : (q : MapRegion) → IsIn told s q → IsInPlace q → space_of q ≡ space → (slot : Slot) → IsBelow s root slot → StandsBehind given s slot q → Contains (regions_of x) q
    stands_behind q of in_place at slot below stands =
        let found = is.taken.complete slot q below of at stands in_place in
        let t : MapTaking = found.0 in
        let here : StandsBehind given s t.slot q = subst (λ (y : Slot). StandsBehind given s y q) (sym found.2) stands in
        let there : Contains (regions_at t.lines) q = (is.taken.each t found.1).lines.0.complete q of at here in_place in
        Contains-append_right (all_regions x.lines) (flat_map taken_regions x.taken) q
        (in_flat_map_from taken_regions x.taken t q found.1 (stands_there told given roots s space t.lines q there))

    -- and what belongs under a window that has one
    stands_under : (w : Region) (q : MapRegion) → IsRegionIn s w → IsIn told s q → IsInPlace q → BelongsUnder given s w q → Contains (regions_of x) (Own w) → Contains (regions_of x) q
    stands_under w q is_in of in_place under has = elim (Contains-append_cases (all_regions x.lines) (flat_map taken_regions x.taken) (Own w) has) [
      | inl on ↦ Contains-append_left (all_regions x.lines) (flat_map taken_regions x.taken) q (on_side space (OnRoot root) x.lines w q is.lines is_in of in_place under on)
      | inr taken ↦ (
          let piece : IsInPiece taken_regions x.taken (Own w) = in_flat_map_to taken_regions x.taken (Own w) taken in
          let it = is.taken.each piece.of piece.has in
          Contains-append_right (all_regions x.lines) (flat_map taken_regions x.taken) q
          (in_flat_map_from taken_regions x.taken piece.of q piece.has (on_side space (TakenBy piece.of.slot) piece.of.lines w q it.lines is_in of in_place under piece.piece)))
    ]

  module _ (m : Map) (is : IsMap told given roots s m) where
    -- what has a line on or below a root bus
    pub on_roots : (q : MapRegion) → Contains (flat_map regions_on m.roots) q → IsIn told s q × IsInPlace q
    on_roots q on =
        let piece : IsInPiece regions_on m.roots q = in_flat_map_to regions_on m.roots q on in
        let root = is.each piece.of piece.has in
        elim (Contains-append_cases (regions_of piece.of.io) (regions_of piece.of.memory) q piece.piece) [
          | inl io ↦ in_space Io piece.of.bus piece.of.io root.io q io
          | inr memory ↦ in_space Memory piece.of.bus piece.of.memory root.memory q memory
        ]

    pub of_region : (q : MapRegion) → Contains (regions_in m) q → IsIn told s q
    of_region q has = elim (Contains-append_cases (flat_map regions_on m.roots) (m.outside ++ m.unreached) q has) [
      | inl on ↦ (on_roots q on).0
      | inr aside ↦ elim (Contains-append_cases m.outside m.unreached q aside) [
        | inl outside ↦ is.outside.regions q outside
        | inr left ↦ is.left.regions q left
      ]
    ]

    pub outside_alone : (q : MapRegion) → Contains m.outside q → (Contains (flat_map regions_on m.roots) q → ⊥) × (Contains m.unreached q → ⊥)
    outside_alone q has = (
      λ on. (on_roots q on).1 (is.outside.hold q has),
      λ left. (is.left.hold q left).within (is.outside.hold q has),
    )

    pub held_not_outside : (x : ToldRegion) → Contains m.outside (OfLine x) → IsFalse (is_marked_held x.told.mark)
    held_not_outside x has =
        let out = is.outside.hold (OfLine x) has in
        held_in_place told given roots s x (address_in x.told.space out.address) (is.outside.regions (OfLine x) has) out.outside

    -- the root bus of a number
    root_at : (bus : ℕ) → bus < 256 → Contains roots bus → IsMade (λ (root : MapRoot). root.bus) m.roots bus
    root_at bus small has =
        in_map_to (λ (root : MapRoot). root.bus) m.roots bus
        (subst (λ xs. Contains xs bus) (sym is.buses) (in_filter_from (is_root roots) (range_with_len 0 256) bus (in_range_from 0 256 bus (omega arith) (omega arith)) ((root_means roots bus).1 has)))

    bus_small : (q : MapRegion) → IsSystem s → IsTold told.ranges → IsIn told s q → (slot_of q).bus < 256
    bus_small (Own q) system lawful of = subst (λ (slot : Slot). slot.bus < 256) of.slot (slot_of_function s system of.f of.listed).0
    bus_small (OfLine x) system lawful of = (told_slot told (told_name x) x.told lawful of.named).0

    -- the bus from which bridges lead to a function's is one of a function
    first_small : IsSystem s → (root : ℕ) (bridges : List Function) (b : Function) → Contains s b → Leads s root bridges b.slot.bus → root < 256
    first_small system root [] b listed leads = subst (λ n. n < 256) (sym leads) (slot_of_function s system b listed).0
    first_small system root (c ∷ bridges) b listed leads = subst (λ n. n < 256) leads.2 (slot_of_function s system c leads.0).0

    -- what has a line in a space of a root bus
    on_its_root : (q : MapRegion) (space : Space) (root : ℕ) → root < 256 → Contains roots root → ((x : MapSpace) → IsSpaceOfMap told given roots s space root x → Contains (regions_of x) q) → Contains (flat_map regions_on m.roots) q
    on_its_root q Io root small has there =
        let made = root_at root small has in
        in_flat_map_from regions_on m.roots made.from q made.has (Contains-append_left (regions_of made.from.io) (regions_of made.from.memory) q
        (there made.from.io (subst (λ n. IsSpaceOfMap told given roots s Io n made.from.io) made.is (is.each made.from made.has).io)))
    on_its_root q Memory root small has there =
        let made = root_at root small has in
        in_flat_map_from regions_on m.roots made.from q made.has (Contains-append_right (regions_of made.from.io) (regions_of made.from.memory) q
        (there made.from.memory (subst (λ n. IsSpaceOfMap told given roots s Memory n made.from.memory) made.is (is.each made.from made.has).memory)))

    on_root : (q : MapRegion) → IsSystem s → IsTold told.ranges → IsIn told s q → IsInPlace q → Contains roots (slot_of q).bus → Contains (flat_map regions_on m.roots) q
    on_root q system lawful of in_place has =
        on_its_root q (space_of q) (slot_of q).bus (bus_small q system lawful of) has (λ x are. stands_on (space_of q) (slot_of q).bus x are q of in_place refl refl)

    -- what a bridge takes has a line there
    where_taken : (q : MapRegion) → IsSystem s → IsIn told s q → IsInPlace q → HasTaker given roots s q → Contains (flat_map regions_on m.roots) q
    where_taken q system of in_place taker =
        let leads = subst (λ (x : Slot). Leads s taker.root taker.below.bridges x.bus) (sym taker.stands.at) taker.below.leads in
        on_its_root q (space_of q) taker.root (first_small system taker.root taker.below.bridges taker.stands.b taker.stands.listed leads) taker.is_root
        (λ x are. stands_behind (space_of q) taker.root x are q of in_place refl taker.slot taker.below taker.stands)

    -- what windows lead to from a root has a line below one
    pub with_way : (windows : List Region) (q : MapRegion) → IsSystem s → IsTold told.ranges → IsIn told s q → IsInPlace q → HasWay given roots s q windows → Contains (flat_map regions_on m.roots) q
    with_way [] q system lawful of in_place (inl way) = on_root q system lawful of in_place way
    with_way [] q system lawful of in_place (inr taker) = where_taken q system of in_place taker
    with_way (w ∷ windows) q system lawful of in_place way =
        let window : is_window w.part ≡ true = ap is_window way.1.window in
        let above : Contains (flat_map regions_on m.roots) (Own w) = with_way windows (Own w) system lawful way.0 (windows_in_place told given roots s w system way.0 window) way.2 in
        let piece : IsInPiece regions_on m.roots (Own w) = in_flat_map_to regions_on m.roots (Own w) above in
        let root = is.each piece.of piece.has in
        in_flat_map_from regions_on m.roots piece.of q piece.has (elim (Contains-append_cases (regions_of piece.of.io) (regions_of piece.of.memory) (Own w) piece.piece) [
          | inl io ↦ Contains-append_left (regions_of piece.of.io) (regions_of piece.of.memory) q (stands_under Io piece.of.bus piece.of.io root.io w q way.0 of in_place way.1 io)
          | inr memory ↦ Contains-append_right (regions_of piece.of.io) (regions_of piece.of.memory) q (stands_under Memory piece.of.bus piece.of.memory root.memory w q way.0 of in_place way.1 memory)
        ])

    pub not_missed : (q : MapRegion) → IsSystem s → IsTold told.ranges → IsIn told s q → (Contains (regions_in m) q → ⊥) → ⊥
    not_missed q system lawful of missed =
        let aside : Contains (m.outside ++ m.unreached) q → ⊥ = λ has. missed (Contains-append_right (flat_map regions_on m.roots) (m.outside ++ m.unreached) q has) in
        let in_place : IsInPlace q = λ out. aside (Contains-append_left m.outside m.unreached q (is.outside.complete q of out)) in
        aside (Contains-append_right m.outside m.unreached q (is.left.complete q of record {
          left = λ windows way. missed (Contains-append_left (flat_map regions_on m.roots) (m.outside ++ m.unreached) q (with_way windows q system lawful of in_place way));
          within = in_place;
        }))

-- ---- what bridges take

module _ (told : Told) (given : Given) (roots : List ℕ) (s : System) (space : Space) where
  -- lines of what a bridge takes are of regions
  pub some_stands : (slot : Slot) (lines : Lines) → (lines ≡ End → ⊥) → AreLinesAt told given roots s space (TakenBy slot) lines → (q : MapRegion) × Contains (regions_at lines) q
  some_stands slot End some are = absurd (some refl)
  some_stands slot (Free r rest) some are = let none : r ∷ runs_at rest ≡ [] = no_run (λ a. ⊥) (r ∷ runs_at rest) (λ a free. free) are.free in absurd cc
  some_stands slot (Sits q inside rest) some are = (q, in_head q (regions_at rest))

  pub taking_stands : (root : ℕ) (ts : List MapTaking) (t : MapTaking) → AreTakings told given roots s space root ts → Contains ts t → (q : MapRegion) × Contains (regions_at t.lines) q
  taking_stands root ts t are has = let it = are.each t has in some_stands t.slot t.lines it.some it.lines.0

  pub none_taken : (root : ℕ) (ts : List MapTaking) → given.unclaimed ≡ [] → AreTakings told given roots s space root ts → ts ≡ []
  none_taken root [] nothing are = refl
  none_taken root (t ∷ ts) nothing are =
      let some = taking_stands root (t ∷ ts) t are (in_head t ts) in
      let stands = (are.each t (in_head t ts)).lines.0.stand some.0 some.1 in
      absurd (false≢true (sym (takes_none given nothing (space_of some.0) (range_of some.0).first stands.b) ∙ stands.taken))

pub taken_is_unclaimed : TakenIsUnclaimed
taken_is_unclaimed told given roots s space slots slot q lines are at has =
    let stands = at.stand q has in
    let taken = (takes_what_is_unclaimed told given s slots (space_of q) (range_of q).first stands.b are).0 stands.taken in
    subst (λ (sp : Space). IsUnclaimedOn told given s slot.bus sp (range_of q).first) (at.of_space q has)
    (subst (λ (x : Slot). IsUnclaimedOn told given s x.bus (space_of q) (range_of q).first) stands.at taken.unclaimed)

pub nothing_is_taken : NothingIsTaken
nothing_is_taken told given roots s m root nothing is has =
    let of = is.each root has in (none_taken told given roots s Io root.bus root.io.taken nothing of.io.taken, none_taken told given roots s Memory root.bus root.memory.taken nothing of.memory.taken)
