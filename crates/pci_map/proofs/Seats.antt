-- What stands inside a window, and on a root bus.
use Rattle.std.proofs.Common.{◌≡◌, ℕ, suc, ◌+◌, List, [], ◌∷◌, ◌++◌, map, take, drop, length, arith, refl, sym, ap, ◌∙◌, subst, append-nil}
use Rattle.std.proofs.lemmas.List.{append_assoc}
use Rattle.pci_spec.specs.System.{System, Space}
use Rattle.pci_spec.specs.Why.{AreRuns}
use Rattle.judge_spec.specs.Given.{Given}
use Rattle.judge_spec.specs.ToldClaims.{Told}
use Rattle.judge_spec.specs.Regions.{Own}
use Rattle.judge_spec.specs.Lines.{Lines, End, OnRoot, Inside, IsClaimedOn, IsOutOfPlace, IsFreeOn, AreLinesAt, AreInPart, AreInside}
use Rattle.judge_spec.specs.MapText.{map_region_line, lines_text}
use Rattle.pci_base.specs.declared.range.Range.{Range}
use Rattle.pci_base.specs.Ranges.{decoded_range_of}
use Rattle.pci_tree.specs.declared.region.Part.{Part}
use Rattle.pci_tree.specs.declared.region.Part.TheVariants as parts
use Rattle.pci_tree.specs.declared.region.Region.{Region}
use Rattle.pci_map.specs.declared.seat.Seat.{Seat}
use Rattle.pci_map.specs.declared.seat.Seat.TheVariants as seats
use Rattle.pci_map.specs.Values.{Mapped, part_at, value_of}
use Rattle.pci_map.specs.Seats.{seat_value, seat_first, IsSeatOn, AreSortedSeatsOf}
use Rattle.pci_map.specs.Gaps.{IsClaimedBy}
use Rattle.pci_map.specs.Inside.{AreInsideWindow}
use Rattle.pci_map.specs.Above.{AreInPlace}
use Rattle.pci_map.specs.Walk.{ahead, Entry, Run, At, entries, run_entries, merged, ArePlacesWritten, IsSeated, IsNoWindow, HasInside}
use Rattle.pci_map.proofs.Cuts.{cut_of_region, first_own}
use Rattle.pci_map.proofs.Values.{among, seat_in, seat_bus, seat_space}
use Rattle.pci_map.proofs.Covering.{seat_claims}
use Rattle.pci_map.proofs.Merges.{lines_are}

module _ (told : Told) (given : Given) (roots : List ℕ) (s : System) (space : Space) where
  abbrev the_space : Mapped
  the_space = record { told = told; given = given; roots = roots; system = s; space = space }

  first_claimed : (bus : ℕ) (q : Seat) → IsSeatOn told s bus space q → IsClaimedBy given space q (seat_first q)
  first_claimed bus (seats.Own q) on = record { held = (omega arith, on.is.some); kept = cut_of_region given space on.f on.part q on.is q.first ∙ (first_own given s bus space q on).kept }
  first_claimed bus (seats.OfLine x) on = (omega arith, on.is.some)

  -- a region of the bus claims its first address
  claims_first : (bus : ℕ) (q : Seat) → IsSeatOn told s bus space q → IsClaimedOn told given s bus space (seat_first q)
  claims_first bus q on = seat_claims told given s space bus q on (seat_first q) (first_claimed bus q on)

  pub lines_inside : (w : Region) (bus : ℕ) (qs : List Seat) (rs : List Range) (lines : Lines) → AreInsideWindow the_space w bus qs rs → entries lines ≡ merged space qs rs
      → AreLinesAt told given roots s space (Inside (value_of space w)) lines
  lines_inside w bus qs rs lines inside is =
      lines_are told given roots s space (Inside (value_of space w)) lines qs rs is
      (λ q has. seat_in told s bus space q (inside.each q has))
      (λ q has. seat_space told s bus space q (inside.each q has))
      (λ q has. inside.belong q has)
      (λ q has. inside.within q has)
      (λ v is_in same under in_place. inside.complete v is_in same under in_place)
      inside.free
      inside.sorted
      (λ q a has at free. (
      let under = inside.belong q has in
      let on = inside.each q has in
      free.unclaimed under.b under.listed under.slot
      (subst (λ n. IsClaimedOn told given s n space a) (sym (under.leads ∙ seat_bus told s bus space q on)) (subst (λ n. IsClaimedOn told given s bus space n) (sym at) (claims_first bus q on)))))

  module _ (bus : ℕ) (all qs : List Seat) (rs : List Range) (sorted : AreSortedSeatsOf told s bus space all) (placed : AreInPlace told given roots s space all qs)
      (free : AreRuns (IsFreeOn told given s bus space) (map decoded_range_of rs)) where
    pub lines_on_root : (lines : Lines) → entries lines ≡ merged space qs rs → AreLinesAt told given roots s space (OnRoot bus) lines
    lines_on_root lines is =
        lines_are told given roots s space (OnRoot bus) lines qs rs is
        (λ q has. seat_in told s bus space q (sorted.each q (placed.each q has)))
        (λ q has. seat_space told s bus space q (sorted.each q (placed.each q has)))
        (λ q has. seat_bus told s bus space q (sorted.each q (placed.each q has)))
        (λ q has. placed.hold q has)
        (λ v is_in same at in_place. (
        let found = among told s bus space all v sorted is_in at same in record {
          q = found.0;
          has = placed.complete found.0 found.1 (λ out. in_place (subst (λ x. IsOutOfPlace told given roots s x) found.2 out));
          is = found.2;
        }))
        free
        (placed.sorted sorted.sorted)
        (λ q a has at is_free. is_free.unclaimed (subst (λ n. IsClaimedOn told given s bus space n) (sym at) (claims_first bus q (sorted.each q (placed.each q has)))))

  -- ---- a region, and what is inside it

  none_in_part : (part : Part) (reg : ℕ) (P : Type 0) → (part ≡ parts.Window → ⊥) → AreInPart (part_at part reg) End P
  none_in_part parts.Bar reg P not_window = refl
  none_in_part parts.Rom reg P not_window = refl
  none_in_part parts.Window reg P not_window = absurd (not_window refl)

  none_inside : (q : Seat) → IsNoWindow q → AreInside told given roots s space (seat_value space q) End
  none_inside (seats.Own q) not_window = none_in_part q.part q.reg (AreLinesAt told given roots s space (Inside (value_of space q)) End) not_window
  none_inside (seats.OfLine x) not_window = refl

  pub seat_alone : (depth : ℕ) (q : Seat) (old new : List ℕ) → IsNoWindow q → new ≡ old ++ map_region_line given depth (seat_value space q) → IsSeated the_space depth q old new
  unfolding lines_text
  seat_alone depth q old new not_window text = record {
    inside = End;
    is = none_inside q not_window;
    deeper = tt;
    text = text ∙ ap (λ t. old ++ t) (sym (append-nil (map_region_line given depth (seat_value space q))));
  }

  window_inside : (q : Region) (bus : ℕ) (qs : List Seat) (rs : List Range) (lines : Lines) → q.part ≡ parts.Window → AreInsideWindow the_space q bus qs rs → entries lines ≡ merged space qs rs
      → AreInside told given roots s space (Own (value_of space q)) lines
  window_inside q bus qs rs lines window inside is =
      subst (λ p. AreInPart (part_at p q.reg) lines (AreLinesAt told given roots s space (Inside (value_of space q)) lines)) (sym window) (lines_inside q bus qs rs lines inside is)

  pub seat_of_window : (depth deeper : ℕ) (q : Seat) (bus : ℕ) (qs : List Seat) (rs : List Range) (old mid new : List ℕ) → deeper ≡ depth + 1 → HasInside the_space q bus qs rs
      → mid ≡ old ++ map_region_line given depth (seat_value space q) → ArePlacesWritten the_space deeper (merged space qs rs) mid new → IsSeated the_space depth q old new
  seat_of_window depth deeper q bus qs rs old mid new one has line placed = record {
    inside = placed.lines;
    is = subst (λ x. AreInside told given roots s space (seat_value space x) placed.lines) (sym has.is) (window_inside has.w bus qs rs placed.lines has.window has.inside placed.entries);
    deeper = placed.inside;
    text = placed.text
        ∙ ap (λ t. t ++ lines_text given deeper space placed.lines) line
        ∙ append_assoc old (map_region_line given depth (seat_value space q)) (lines_text given deeper space placed.lines)
        ∙ ap (λ d. old ++ (map_region_line given depth (seat_value space q) ++ lines_text given d space placed.lines)) (one ∙ (let e : depth + 1 ≡ suc depth = omega arith in e));
  }

  -- ---- what is written

  not_nil : (xs : List Entry) (e : Entry) (es : List Entry) → xs ++ e ∷ es ≡ [] → ⊥
  not_nil [] e es none = let n : suc (length es) ≡ 0 = ap length none in omega (arith, n)
  not_nil (x ∷ xs) e es none = let n : suc (length (xs ++ e ∷ es)) ≡ 0 = ap length none in omega (arith, n)

  pub some_entries : (qs : List Seat) (rs : List Range) → (qs ≡ [] → rs ≡ [] → ⊥) → merged space qs rs ≡ [] → ⊥
  unfolding merged
  some_entries [] [] some none = some refl refl
  some_entries [] (r ∷ rs) some none = not_nil [] (Run (decoded_range_of r)) (run_entries rs) none
  some_entries (q ∷ qs) rs some none = not_nil (run_entries (take (ahead (seat_first q) rs) rs)) (At (seat_value space q)) (merged space qs (drop (ahead (seat_first q) rs) rs)) none
