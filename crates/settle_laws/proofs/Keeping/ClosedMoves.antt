-- Closing moves functions: address bits and Command bits 0 and 1 alone change, and a window stays as it is or is shut.
use Rattle.std.proofs.Common.{◌≡◌, ℕ, ◌+◌, ◌-◌, ◌*◌, ◌<◌, ◌≤◌, ◌⊎◌, inl, inr, List, [], ◌∷◌, refl, true, false, ◌&&◌, not, arith, sym, ◌∙◌, ap, subst, Option, None, Some}
use Rattle.std.specs.Bool.{IsFalse, nat_lt, ◌==◌, if◌then◌else◌}
use Rattle.std.specs.Int.{bit_at}
use Rattle.std.specs.List.{Contains, list_any}
use Rattle.std.proofs.lemmas.Bool.{and_parts, cases_Bool, cases_lt, cond_both, eqb-true, both_ways, not-true}
use Rattle.std.proofs.lemmas.List.Elements.{All-contains}
use Rattle.pci_spec.specs.Number.{byte_at, IsImage}
use Rattle.pci_spec.specs.Registers.{COMMAND, IO_BASE, IO_BASE_UPPER, MEMORY_BASE, PREFETCHABLE_BASE, PREFETCHABLE_LIMIT_UPPER}
use Rattle.pci_spec.specs.Header.{layout, address_registers, is_in_register}
use Rattle.pci_spec.specs.Window.{WindowKind, IoWindow, MemoryWindow, PrefetchWindow, Bounds, bounds_at, bounds_for, has_window, is_closed}
use Rattle.pci_spec.specs.Decoded.{IsDecodable, Range}
use Rattle.pci_spec.specs.System.{System, Function, IsFunction, Io, Memory, Window, is_bridge}
use Rattle.pci_spec.specs.Machine.{in_fields, address_fields}
use Rattle.pci_spec.proofs.Members.{in_head}
use Rattle.plan_spec.specs.Plan.{IsMoved, is_open}
use Rattle.plan_spec.specs.Place.{nibble_of}
use Rattle.plan_spec.proofs.PlanningLaws.{profile_decodes}
use Rattle.plan_spec.proofs.Planning.CommandFits.{command_fits}
use Rattle.plan_spec.proofs.Planning.Registers.{register_bit, number_below}
use Rattle.plan_spec.proofs.Planning.WindowFits.{few_nibbles, lawful_nibbles}
use Rattle.settle_spec.specs.Lists.{Request}
use Rattle.judge_spec.specs.Windows.{with_bounds}
use Rattle.settle_spec.specs.Keeping.Registers.{settled_image, settled_function, settled_command}
use Rattle.settle_spec.specs.Writes.{shut_bounds, closing_registers}
use Rattle.settle_spec.specs.Keeping.Writes.{is_left_on, closing_command, is_replaced, without_window, closed_image, closed_function, changes_at}
use Rattle.settle_laws.proofs.Keeping.ClosedImages.{unreplaced_rests, closed_elsewhere, closed_device, closed_is, closed_command, closed_base_upper, closed_bounds_are, shut_fits}
use Rattle.settle_laws.proofs.Numbers.{with_elsewhere, with_image}
use Rattle.settle_laws.proofs.PlacesFit.{HasBits, bounds_fit}
use Rattle.settle_laws.proofs.Keeping.Shown.{settled_image_is, settled_off}
use Rattle.settle_laws.proofs.Stages.{IsKeptWindow, IsShutWindow, ShowsSame}
use Rattle.settle_laws.proofs.WindowBytes.{IsOf}
use Rattle.settle_laws.proofs.NonePasses.{none_passes, outside}
use Rattle.settle_spec.specs.Kept.{Kept, no_wish, unwished}
use Rattle.pci_spec.proofs.ReadBacks.{IsLawful}
use Rattle.settle_spec.specs.GrowthLaws.{MoveOut}
use Rattle.settle_spec.specs.Parts.{addresses}
use Rattle.settle_spec.specs.Stands.{window_part}
use Rattle.settle_laws.specs.Keeping.PlacesLaws.{CanSettle}
use Rattle.settle_laws.proofs.ClosedMoves.{window_same}
use Rattle.settle_laws.proofs.StageBounds.{same_out}
use Rattle.settle_laws.proofs.Keeping.Kept.{stays_part}
use Rattle.settle_laws.proofs.Keeping.PartPlaces.{kept_unplaced}
use Rattle.settle_laws.proofs.Keeping.ShownKept.{window_stays}
use Rattle.settle_laws.proofs.Keeping.ShownParts.{keeps_range, window_grown, window_now, window_closed, window_wished}
use Rattle.settle_laws.proofs.ShownParts.{closed_by}
use Rattle.settle_laws.proofs.Keeping.ChangedWindows.{for_wishes, unchanged}
use Rattle.settle_laws.proofs.Keeping.Wishless.{can_unwished, new_same}
use Rattle.settle_laws.proofs.Keeping.InWindows.{kept_range, placed_range}
use Rattle.settle_laws.specs.PlacesLaws.{place_range}
use Rattle.settle_spec.specs.Items.{Placed, taken_by}
use Rattle.settle_spec.specs.Keeping.Places.{new_place}

-- the numbers of bounds are the same
record SameBounds (v w : Bounds) : Type 0 where
  base : w.base ≡ v.base
  limit : w.limit ≡ v.limit
  base_upper : w.base_upper ≡ v.base_upper
  limit_upper : w.limit_upper ≡ v.limit_upper

pub further_out : (a b c : Bounds) → MoveOut a b → MoveOut b c → MoveOut a c
further_out a b c out more =
    let base = out.base in
    let limit = out.limit in
    let base_upper = out.base_upper in
    let limit_upper = out.limit_upper in
    let more_base = more.base in
    let more_limit = more.limit in
    let more_base_upper = more.base_upper in
    let more_limit_upper = more.limit_upper in
    record { base = omega (arith, base, more_base); limit = omega (arith, limit, more_limit); base_upper = omega (arith, base_upper, more_base_upper); limit_upper = omega (arith, limit_upper, more_limit_upper) }

final_image : (q : Request) (s : System) (k : Kept) (f : Function) → IsImage f.image → IsImage (settled_function q s k f).image
final_image q s k f is = with_image 2 COMMAND (settled_command q s k f) (settled_image q s k f) (settled_image_is q s k f is)

from_same : (v w to : Bounds) → SameBounds v w → MoveOut w to → MoveOut v to
from_same v w to same out =
    let a = same.base in
    let b = same.limit in
    let c = same.base_upper in
    let d = same.limit_upper in
    let base = out.base in
    let limit = out.limit in
    let base_upper = out.base_upper in
    let limit_upper = out.limit_upper in
    record { base = omega (arith, a, base); limit = omega (arith, b, limit); base_upper = omega (arith, c, base_upper); limit_upper = omega (arith, d, limit_upper) }

module _ (q : Request) (s : System) (k : Kept) (can : CanSettle q s k) where
  is_function : (f : Function) → Contains s f → IsFunction f
  is_function f listed = All-contains IsFunction s f can.system.each listed

  has_window_of : (f : Function) (c : WindowKind) → Contains s f → is_bridge f ≡ true → k.stays (window_part c f) ≡ true → has_window c f.probe ≡ true
  has_window_of f c listed bridge keeps = (and_parts (is_bridge f) (has_window c f.probe) (and_parts (is_bridge f && has_window c f.probe) (not (is_closed c f.image)) (stays_part q s k can (window_part c f) listed keeps)).0).1

  decodable : (f : Function) → Contains s f → IsDecodable f
  decodable f listed = All-contains IsDecodable s f (profile_decodes q.roots s can.profile) listed

  -- ---- closing moves

  module _ (f : Function) (listed : Contains s f) where
    abbrev g : Function
    g = closed_function q s k f

    is : IsImage f.image
    is = (is_function f listed).image

    window_bits : is_bridge f ≡ true → (c : WindowKind) (image : List ℕ) → HasBits f image → HasBits f (without_window q s k f c image)
    window_bits bridge c image h =
        cond_both (is_replaced q s k f c) (with_bounds c (shut_bounds c (nibble_of c f) (bounds_at c f.image)) image) image (HasBits f)
        (λ replaced. bounds_fit f is c _ image (shut_fits q s k f (decodable f listed) bridge is c replaced) h) (λ other. h)

    bridge_bits : is_bridge f ≡ true → HasBits f (closed_image q s k f)
    bridge_bits bridge =
        window_bits bridge PrefetchWindow _ (window_bits bridge MemoryWindow _ (window_bits bridge IoWindow f.image
        record { whole = is; bits = λ place i inside small plain. refl }))

    high_bits : (place i : ℕ) → (place < 4) ⊎ (6 ≤ place) → place < 256 → i < 8 → IsFalse (in_fields (address_fields f.image f.probe) place i) → bit_at (byte_at g.image place) i ≡ bit_at (byte_at f.image place) i
    high_bits place i apart inside small plain = elim (cases_Bool (is_bridge f)) [
      | inl bridge ↦
          ap (λ b. bit_at b i) (with_elsewhere 2 COMMAND (closing_command q s k f) place (closed_image q s k f) apart)
          ∙ (bridge_bits bridge).bits place i inside small plain
      | inr device ↦ ap (λ b. bit_at b i) (closed_device q s k f device place apart)
    ]

    command_bits : (place i : ℕ) → 4 ≤ place → place < 6 → i < 8 → IsFalse (in_fields (address_fields f.image f.probe) place i) → IsFalse (place == COMMAND && nat_lt i 2) → bit_at (byte_at g.image place) i ≡ bit_at (byte_at f.image place) i
    command_bits place i from to small plain other =
        let j = place - 4 in
        let at : 4 + j ≡ place = omega (arith, from) in
        let short : j < 2 = omega (arith, from, to) in
        ap (λ p. bit_at (byte_at g.image p) i) (sym at)
        ∙ sym (register_bit g.image 4 (closed_is q s k f is) 2 j i short small)
        ∙ ap (λ n. bit_at n (8 * j + i)) (closed_command q s k f is)
        ∙ (command_fits f (is_left_on q s k Io f) (is_left_on q s k Memory f)).same j i short small
        (ap (λ p. in_fields (address_fields f.image f.probe) p i) at ∙ plain) (ap (λ p. p == COMMAND && nat_lt i 2) at ∙ other)
        ∙ register_bit f.image 4 is 2 j i short small
        ∙ ap (λ p. bit_at (byte_at f.image p) i) at

  pub closed_moved : (f : Function) → Contains s f → IsMoved f (closed_function q s k f)
  closed_moved f listed = record {
    slot = refl;
    probe = refl;
    image = closed_is q s k f (is f listed);
    same = λ place i inside small plain other. elim (cases_lt place 4) [
      | inl low ↦ high_bits f listed place i (inl low) inside small plain
      | inr from ↦ elim (cases_lt place 6) [
        | inl to ↦ command_bits f listed place i from to small plain other
        | inr high ↦ high_bits f listed place i (inr high) inside small plain
      ]
    ];
  }

  -- ---- bytes of no register that is written

  -- off a register that is listed
  off : (rs : List (ℕ × ℕ)) (place : ℕ) → list_any (is_in_register place) rs ≡ false → (r : ℕ × ℕ) → Contains rs r → (place + 1 ≤ r.0) ⊎ (r.0 + r.1 ≤ place)
  off rs place out r has = outside place r (none_passes (is_in_register place) rs out r has)

  abbrev window_registers : List (ℕ × ℕ)
  window_registers = (IO_BASE, 2) ∷ (IO_BASE_UPPER, 4) ∷ (MEMORY_BASE, 4) ∷ (PREFETCHABLE_BASE, 4) ∷ (PREFETCHABLE_LIMIT_UPPER, 4) ∷ []

  abbrev bridge_closing : List (ℕ × ℕ)
  bridge_closing = (COMMAND, 2) ∷ window_registers

  off_window : (c : WindowKind) (place : ℕ) → list_any (is_in_register place) bridge_closing ≡ false → (place < 0x28) ⊎ (0x2c ≤ place) → IsOf c place → ⊥
  off_window IoWindow place out aside (inl (a, b)) = elim (off bridge_closing place out (0x1c, 2) (1, omega arith, refl)) [ inl low ↦ omega (arith, low, a) | inr high ↦ omega (arith, high, b) ]
  off_window IoWindow place out aside (inr (a, b)) = elim (off bridge_closing place out (0x30, 4) (2, omega arith, refl)) [ inl low ↦ omega (arith, low, a) | inr high ↦ omega (arith, high, b) ]
  off_window MemoryWindow place out aside (a, b) = elim (off bridge_closing place out (0x20, 4) (3, omega arith, refl)) [ inl low ↦ omega (arith, low, a) | inr high ↦ omega (arith, high, b) ]
  off_window PrefetchWindow place out (inl under) (a, b) = elim (off bridge_closing place out (0x24, 4) (4, omega arith, refl)) [ inl low ↦ omega (arith, low, a) | inr high ↦ omega (arith, high, under) ]
  off_window PrefetchWindow place out (inr over) (a, b) = elim (off bridge_closing place out (0x2c, 4) (5, omega arith, refl)) [ inl low ↦ omega (arith, low, over) | inr high ↦ omega (arith, high, b) ]

  off_command : (rs : List (ℕ × ℕ)) (place : ℕ) → list_any (is_in_register place) ((COMMAND, 2) ∷ rs) ≡ false → (place < 4) ⊎ (6 ≤ place)
  off_command rs place out = elim (off ((COMMAND, 2) ∷ rs) place out (COMMAND, 2) (in_head (COMMAND, 2) rs)) [ inl low ↦ inl (omega (arith, low)) | inr high ↦ inr high ]

  bridge_rest : (f : Function) (place : ℕ) → Contains s f → list_any (is_in_register place) bridge_closing ≡ false → byte_at (closed_function q s k f).image place ≡ byte_at f.image place
  bridge_rest f place listed out =
      let apart = off_command window_registers place out in
      let aside = λ (by : (place < 0x28) ⊎ (0x2c ≤ place)). closed_elsewhere q s k f place apart (λ c mine. absurd (off_window c place out by mine)) in
      elim (cases_lt place 0x28) [
        | inl low ↦ aside (inl low)
        | inr from ↦ elim (cases_lt place 0x2c) [
          | inl to ↦ closed_base_upper q s k f (is f listed) place from to
          | inr high ↦ aside (inr high)
        ]
      ]

  pub closed_rest : (f : Function) (place : ℕ) → Contains s f → place < 256 → list_any (is_in_register place) (closing_registers f) ≡ false → byte_at (closed_function q s k f).image place ≡ byte_at f.image place
  closed_rest f place listed inside out = elim (cases_Bool (is_bridge f)) [
    | inl bridge ↦ bridge_rest f place listed (subst (λ b. list_any (is_in_register place) ((COMMAND, 2) ∷ (if b then window_registers else [])) ≡ false) bridge out)
    | inr device ↦ closed_device q s k f device place (off_command (if is_bridge f then window_registers else []) place out)
  ]

  pub final_rest : (f : Function) (place : ℕ) → Contains s f → place < 256 → (place < 4) ⊎ (6 ≤ place) → list_any (is_in_register place) (address_registers (layout f.image)) ≡ false
      → byte_at (settled_function q s k f).image place ≡ byte_at f.image place
  final_rest f place listed inside apart out =
      with_elsewhere 2 COMMAND (settled_command q s k f) place (settled_image q s k f) apart ∙ settled_off q s k f (decodable f listed) place out

  -- ---- windows

  -- one that is open shows the bounds for its addresses
  open_bounds : (c : WindowKind) (f : Function) (n : ℕ) → IsImage f.image → n ≤ 1 → IsLawful c n (bounds_at c f.image) (bounds_at c f.probe) → SameBounds (bounds_at c f.image) (bounds_for c n (addresses (window_part c f)).first (addresses (window_part c f)).last)
  open_bounds IoWindow f n image few lawful =
      let base = lawful.base_nibble in
      let limit = lawful.limit_nibble in
      let low = image.bytes 0x1c in
      let high = image.bytes 0x1d in
      record { base = omega (arith, base, low); limit = omega (arith, limit, high); base_upper = omega (arith, low); limit_upper = omega (arith, high) }
  open_bounds MemoryWindow f n image few lawful =
      let base = lawful.base_nibble in
      let limit = lawful.limit_nibble in
      record { base = omega (arith, base); limit = omega (arith, limit); base_upper = omega arith; limit_upper = omega arith }
  open_bounds PrefetchWindow f n image few lawful =
      let base = lawful.base_nibble in
      let limit = lawful.limit_nibble in
      let low = number_below f.image 0x24 image 2 in
      let high = number_below f.image 0x26 image 2 in
      record { base = omega (arith, base, low); limit = omega (arith, limit, high); base_upper = omega (arith, low); limit_upper = omega (arith, high) }

  -- one that isn't replaced shows the same, or comes to more
  pub kept_window : (f : Function) (c : WindowKind) → Contains s f → is_bridge f ≡ true → is_replaced q s k f c ≡ false → IsKeptWindow f (closed_function q s k f) (settled_function q s k f) c
  kept_window f c listed bridge other = record {
    closed_same = closed_bounds_are q s k f can.system can.profile listed bridge c ∙ ap (λ t. if t then shut_bounds c (nibble_of c f) (bounds_at c f.image) else bounds_at c f.image) other;
    final_out = elim (cases_Bool (k.stays (window_part c f))) [
      | inl keeps ↦ stays_out keeps (k.wished (window_part c f)) refl
      | inr goes ↦ elim (cases_Bool (changes_at q s k f (Window c))) [
        | inr same ↦ same_out (bounds_at c f.image) (bounds_at c g.image) (same_bounds g (final_image q s k f (is f listed)) (unchanged q s k f (Window c) same))
        | inl changes ↦ (let only = for_wishes q s k c f (unreplaced_rests q s k f bridge c goes other) changes in placed_out goes only.0 only.1 (new_place q s k (window_part c f)) refl)
      ]
    ];
  }
    where
      g : Function
      g = settled_function q s k f

      n : ℕ
      n = nibble_of c f

      u : Kept
      u = unwished k

      same_bounds : (h : Function) → IsImage h.image → ShowsSame f h (Window c) → bounds_at c h.image ≡ bounds_at c f.image
      same_bounds h image same = window_same f h c (is f listed) image same

      -- one that stays shows what it has, or comes to more
      own_out : k.stays (window_part c f) ≡ true → MoveOut (bounds_at c f.image) (bounds_for c n (k.range (window_part c f)).first (k.range (window_part c f)).last)
      own_out keeps =
          let there = has_window_of f c listed bridge keeps in
          let few = few_nibbles f bridge c in
          let own = open_bounds c f n (is f listed) few (lawful_nibbles f bridge c ((decodable f listed).windows c (eqb-true (layout f.image) 1 bridge)) there) in
          from_same (bounds_at c f.image) _ _ own ((can.sound.grown c f listed bridge keeps).outward n)

      stays_out : k.stays (window_part c f) ≡ true → (o : Option Range) → k.wished (window_part c f) ≡ o → MoveOut (bounds_at c f.image) (bounds_at c g.image)
      stays_out keeps (Some w) wished =
          let more = (can.sound.wished.windows c f w listed bridge wished).outward (k.range (window_part c f)) (kept_range q s k (window_part c f) keeps) n in
          subst (MoveOut (bounds_at c f.image)) (sym (window_wished q s k can f listed c bridge w wished)) (further_out (bounds_at c f.image) _ _ (own_out keeps) more)
      stays_out keeps None unwished = elim (cases_Bool (keeps_range q s k can f listed c)) [
        | inl same ↦ same_out (bounds_at c f.image) (bounds_at c g.image) (window_stays q s k can f listed c unwished bridge keeps same)
        | inr grows ↦
            let none = kept_unplaced q s k can f (Window c) listed bridge keeps in
            subst (MoveOut (bounds_at c f.image)) (sym (window_grown q s k can f listed c bridge unwished keeps none grows)) (own_out keeps)
      ]

      -- one that is open and changes for its room alone has its place without that room
      placed_out : k.stays (window_part c f) ≡ false → is_open f c ≡ true → changes_at q s u f (Window c) ≡ false → (o : Option Placed) → new_place q s k (window_part c f) ≡ o → MoveOut (bounds_at c f.image) (bounds_at c g.image)
      placed_out goes opened same None none =
          let can_u = can_unwished q s k can in
          let h = settled_function q s u f in
          let parts = and_parts (is_bridge f && has_window c f.probe) (not (is_closed c f.image)) opened in
          let there = (and_parts (is_bridge f) (has_window c f.probe) parts.0).1 in
          let closed = window_closed q s u can_u f listed c bridge refl there goes (new_same q s k no_wish (window_part c f) ∙ none) in
          let shows = same_bounds h (final_image q s u f (is f listed)) (unchanged q s u f (Window c) same) in
          absurd (both_ways (is_closed c f.image) (not-true (is_closed c f.image) parts.1) (sym (ap (closed_by c) shows) ∙ closed))
      placed_out goes opened same (Some x) placed =
          let can_u = can_unwished q s k can in
          let h = settled_function q s u f in
          let own = sym (same_bounds h (final_image q s u f (is f listed)) (unchanged q s u f (Window c) same)) ∙ window_now q s u can_u f listed c bridge refl x (new_same q s k no_wish (window_part c f) ∙ placed) in
          by (k.wished (window_part c f)) refl own
        where
          by : (o : Option Range) → k.wished (window_part c f) ≡ o → bounds_at c f.image ≡ bounds_for c n x.at (x.at + (x.item.extent.size - 1)) → MoveOut (bounds_at c f.image) (bounds_at c g.image)
          by None unwished own = same_out (bounds_at c f.image) (bounds_at c g.image) (window_now q s k can f listed c bridge unwished x placed ∙ sym own)
          by (Some w) wished own =
              let more = (can.sound.wished.windows c f w listed bridge wished).outward (taken_by x.item x.at) (placed_range q s k (window_part c f) goes ∙ ap place_range placed) n in
              subst (MoveOut (bounds_at c f.image)) (sym (window_wished q s k can f listed c bridge w wished)) (subst (λ v. MoveOut v (bounds_for c n w.first w.last)) (sym own) more)

  pub windows : (f : Function) (c : WindowKind) → Contains s f → is_bridge f ≡ true → IsKeptWindow f (closed_function q s k f) (settled_function q s k f) c ⊎ IsShutWindow f (closed_function q s k f) c
  windows f c listed bridge =
      let shut = shut_bounds c (nibble_of c f) (bounds_at c f.image) in
      elim (cases_Bool (is_replaced q s k f c)) [
        | inl replaced ↦ inr record {
          nibble = nibble_of c f;
          small = (let few = few_nibbles f bridge c in omega (arith, few));
          shows = closed_bounds_are q s k f can.system can.profile listed bridge c ∙ ap (λ t. if t then shut else bounds_at c f.image) replaced;
        }
        | inr other ↦ inl (kept_window f c listed bridge other)
      ]
