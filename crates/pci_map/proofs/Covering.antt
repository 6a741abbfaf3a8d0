-- Which addresses the regions of a bus claim.
use Rattle.std.proofs.Common.{◌≡◌, ℕ, ◌+◌, ◌<◌, ◌≤◌, List, [], ◌∷◌, ◌++◌, map, take, length, get_or, false, refl, sym, ◌∙◌, ap, subst, inl, inr, arith}
use Rattle.std.specs.List.{All, AllPairs, Contains}
use Rattle.std.proofs.lemmas.List.{take_more, take_all}
use Rattle.std.proofs.lemmas.List.Elements.{All-append, All-contains, All-nil, Contains-append_cases, Contains-append_left, Contains-append_right, Contains-get_or}
use Rattle.pci_spec.specs.System.{System, Space}
use Rattle.pci_spec.proofs.Members.{IsMade, in_nil, in_cons_cases, in_head, in_map_to, in_map_from, pairs_map}
use Rattle.pci_spec.specs.Slot.{Slot}
use Rattle.pci_spec.specs.Fault.{RegionName, address_in}
use Rattle.judge_spec.specs.Given.{Given}
use Rattle.judge_spec.specs.ToldClaims.{Told, RangeClaimsOnBus}
use Rattle.judge_spec.specs.ToldRegion.{ToldRegion, told_name}
use Rattle.judge_spec.specs.Regions.{range_of}
use Rattle.judge_spec.specs.Lines.{IsClaimedOn}
use Rattle.pci_base.specs.declared.range.Range.{Range}
use Rattle.pci_tree.specs.Ranges.{Covers}
use Rattle.pci_claims.specs.Gathered.{IsGathered}
use Rattle.pci_claims.proofs.Cutting.{never_cut_from}
use Rattle.pci_map.specs.Gaps.{IsClaimedBy, is_cut_seat, AreClaimedBy, AreClaimsOf, AreClaimed}
use Rattle.pci_map.specs.declared.seat.Seat.{Seat}
use Rattle.pci_map.specs.declared.seat.Seat.TheVariants as seats
use Rattle.pci_map.specs.Seats.{told_region_value, seat_value, seat_range, IsSeatOn, HasLine, AreSortedSeatsOf}
use Rattle.pci_map.proofs.Cuts.{own_of, kept_of}
use Rattle.pci_claims.proofs.GapRanges.{covers_has, covers_from, covers_nil, covers_append, covers_left, covers_right}

-- ---- region by region

module _ (given : Given) (space : Space) where
  -- one of some regions claims an address
  abbrev Has : List Seat → ℕ → Type 0
  Has qs a = (q : Seat) × Contains qs q × IsClaimedBy given space q a

  pub none_claimed : (qs : List Seat) → AreClaimedBy given space (take 0 qs) []
  none_claimed qs = record {
    some = All-nil (λ (r : Range). r.first ≤ r.last);
    exact = λ a. (λ (h : Covers [] a). absurd (covers_nil a h), λ (h : Has [] a). absurd (in_nil h.0 h.1));
  }

  pub one_claimed : (qs : List Seat) (k : ℕ) (q : Seat) (old more new : List Range) → k < length qs → q ≡ get_or qs k q → AreClaimedBy given space (take k qs) old → AreClaimsOf given space q more
      → new ≡ old ++ more → AreClaimedBy given space (take (k + 1) qs) new
  one_claimed qs k q old more new within at before of is =
      let split : take (k + 1) qs ≡ take k qs ++ q ∷ [] = take_more qs k q within ∙ ap (λ (y : Seat). take k qs ++ y ∷ []) (sym at) in
      subst (λ xs. AreClaimedBy given space xs new) (sym split) (subst (λ rs. AreClaimedBy given space (take k qs ++ q ∷ []) rs) (sym is) record {
        some = All-append (λ (r : Range). r.first ≤ r.last) old more before.some of.some;
        exact = λ a. (
          λ (h : Covers (old ++ more) a). elim (covers_append old more a h) [
            | inl early ↦ (let had = (before.exact a).0 early in (had.0, Contains-append_left (take k qs) (q ∷ []) had.0 had.1, had.2))
            | inr late ↦ (q, Contains-append_right (take k qs) (q ∷ []) q (in_head q []), (of.exact a).0 late)
          ],
          λ (h : Has (take k qs ++ q ∷ []) a). elim (Contains-append_cases (take k qs) (q ∷ []) h.0 h.1) [
            | inl early ↦ covers_left old more a ((before.exact a).1 (h.0, early, h.2))
            | inr late ↦ covers_right old more a (elim (in_cons_cases q [] h.0 late) [
              | inl here ↦ (of.exact a).1 (subst (λ (x : Seat). IsClaimedBy given space x a) (sym here) h.2)
              | inr none ↦ absurd (in_nil h.0 none)
            ])
          ],
        );
      })

  pub all_claimed : (qs : List Seat) (k : ℕ) (out : List Range) → length qs ≤ k → AreClaimedBy given space (take k qs) out → AreClaimedBy given space qs out
  all_claimed qs k out past is = subst (λ xs. AreClaimedBy given space xs out) (take_all k qs past) is

-- ---- of a bus

-- where a region begins
pub range_first : (space : Space) (q : Seat) → (range_of (seat_value space q)).first ≡ (seat_range q).first
range_first space (seats.Own q) = refl
range_first space (seats.OfLine x) = refl

pub seat_some : (told : Told) (s : System) (bus : ℕ) (space : Space) (q : Seat) → IsSeatOn told s bus space q → (seat_range q).first ≤ (seat_range q).last
seat_some told s bus space (seats.Own q) on = on.is.some
seat_some told s bus space (seats.OfLine x) on = on.is.some

range_in : (given : Given) (space : Space) (q : Seat) (a : ℕ) → IsClaimedBy given space q a → ((seat_range q).first ≤ a) × (a ≤ (seat_range q).last)
range_in given space (seats.Own q) a by = by.held
range_in given space (seats.OfLine x) a by = by

whole_of : (given : Given) (space : Space) (q : Seat) (a : ℕ) → is_cut_seat given space q ≡ false → ((seat_range q).first ≤ a) × (a ≤ (seat_range q).last) → IsClaimedBy given space q a
whole_of given space (seats.Own q) a off held = record { held = held; kept = never_cut_from given space q a off }
whole_of given space (seats.OfLine x) a off held = held

module _ (told : Told) (given : Given) (s : System) (space : Space) (bus : ℕ) where
  pub seat_claims : (q : Seat) → IsSeatOn told s bus space q → (a : ℕ) → IsClaimedBy given space q a → IsClaimedOn told given s bus space a
  seat_claims (seats.Own q) on a by = inl record {
    f = on.f;
    part = on.part;
    listed = on.listed;
    on_bus = on.on_bus;
    claims = own_of given space on.f on.part q on.is a by.held by.kept;
  }
  seat_claims (seats.OfLine x) on a by = inr (
    told_name (told_region_value x),
    record { r = x.told.now; named = on.is.named; on_the_bus = on.on_bus; claims = record { on = on.is.on; holds = (on.of_space, by.0, by.1) } },
  )

  module _ (qs : List Seat) (sorted : AreSortedSeatsOf told s bus space qs) where
    claims_there : (a : ℕ) → Has given space qs a → IsClaimedOn told given s bus space a
    claims_there a h = seat_claims h.0 (sorted.each h.0 h.1) a h.2

    line_there : (a : ℕ) (region : RegionName) → RangeClaimsOnBus told s bus (address_in space a) region → Has given space qs a
    line_there a region c =
        let holds = c.claims.holds in
        let x : ToldRegion = record { register = region.register; told = c.r } in
        let found : HasLine qs x = sorted.lines x record {
          is = record {
            named = record { index = c.named.index; at = c.named.at; slot = refl; register = c.named.register };
            on = c.claims.on;
            some = (let low = holds.1 in let high = holds.2 in omega (arith, low, high));
          };
          on_bus = ap (λ (y : Slot). y.bus) c.named.slot ∙ c.on_the_bus;
          of_space = holds.0;
        } in (
          seats.OfLine found.y,
          found.has,
          subst (λ (y : ToldRegion). (y.told.first ≤ a) × (a ≤ y.told.last)) (sym found.is) (holds.1, holds.2),
        )

    there_claims : (a : ℕ) → IsClaimedOn told given s bus space a → Has given space qs a
    there_claims a claimed = elim claimed [
      | inl c ↦ (
          let found = sorted.parts c.f c.part a c.listed c.on_bus c.claims.claims in
          (seats.Own found.q, found.has, record { held = (found.is.claims a).1 c.claims.claims; kept = kept_of given space c.f c.part found.q found.is a c.claims }))
      | inr line ↦ line_there a line.0 line.1
    ]

    -- where ISA Enable takes nothing, the ranges of the regions themselves
    module _ (off : All (λ q. is_cut_seat given space q ≡ false) qs) where
      by_first : AllPairs (λ (r t : Range). r.first ≤ t.first) (map seat_range qs)
      by_first = pairs_map (λ (r t : Range). r.first ≤ t.first) seat_range qs (λ i j d lt within. (
          let one = range_first space (get_or qs i d) in
          let other = range_first space (get_or qs j d) in
          elim (sorted.sorted i j d lt within) [
            | inl low ↦ omega (arith, low, one, other)
            | inr same ↦ (let e = same.0 in omega (arith, e, one, other))
          ]))

      some_each : All (λ (r : Range). r.first ≤ r.last) (map seat_range qs)
      some_each = λ k d within. (
          let made : IsMade seat_range qs (get_or (map seat_range qs) k d) = in_map_to seat_range qs (get_or (map seat_range qs) k d) (Contains-get_or (map seat_range qs) k d within) in
          subst (λ (r : Range). r.first ≤ r.last) made.is (seat_some told s bus space made.from (sorted.each made.from made.has)))

      covered_has : (a : ℕ) → Covers (map seat_range qs) a → Has given space qs a
      covered_has a h =
          let c = covers_has (map seat_range qs) a h in
          let made : IsMade seat_range qs c.0 = in_map_to seat_range qs c.0 c.1 in (
            made.from,
            made.has,
            whole_of given space made.from a (All-contains (λ (q : Seat). is_cut_seat given space q ≡ false) qs made.from off made.has)
                (subst (λ (r : Range). (r.first ≤ a) × (a ≤ r.last)) (sym made.is) c.2),
          )

      pub whole_claimed : (out : List Range) → out ≡ map seat_range qs → AreClaimed told given s bus space out
      whole_claimed out is = subst (AreClaimed told given s bus space) (sym is) record {
        some = some_each;
        sorted = by_first;
        exact = λ a. (
          λ (h : Covers (map seat_range qs) a). claims_there a (covered_has a h),
          λ (h : IsClaimedOn told given s bus space a). (let has = there_claims a h in covers_from (map seat_range qs) a (seat_range has.0) (in_map_from seat_range qs has.0 has.1) (range_in given space has.0 a has.2)),
        );
      }

    -- else what is left of them, gathered
    pub gathered_claimed : (pieces out : List Range) → AreClaimedBy given space qs pieces → IsGathered pieces out → AreClaimed told given s bus space out
    gathered_claimed pieces out by is = record {
      some = is.canonical.each;
      sorted = λ i j d lt within. (
          let first = is.canonical.each i d (omega (arith, lt, within)) in
          let apart = is.canonical.apart i j d lt within in
          omega (arith, first, apart));
      exact = λ a. (
        λ (h : Covers out a). claims_there a ((by.exact a).0 ((is.exact a).0 h)),
        λ (h : IsClaimedOn told given s bus space a). (is.exact a).1 ((by.exact a).1 (there_claims a h)),
      );
    }
