-- What is settled can be settled again, and each part ends where it ended.
use Rattle.settle_laws.proofs.Told.OnlyHeld.{held_of}
use Rattle.std.proofs.Common.{◌≡◌, inl, inr, true, refl, sym, ◌∙◌, ap, Option, None, Some, false, IsTrue, []}
use Rattle.std.specs.Bool.{nat_lt}
use Rattle.std.specs.List.{Contains}
use Rattle.std.proofs.lemmas.Bool.{both_ways, cases_Bool, false_from_ne_true}
use Rattle.pci_spec.specs.Header.{bar_count}
use Rattle.pci_spec.specs.Decoded.{Range}
use Rattle.pci_spec.specs.System.{System, Function, Part, Bar, Rom, Window, has_part, is_window}
use Rattle.pci_spec.proofs.Members.{in_map_from}
use Rattle.settle_spec.specs.Lists.{Request}
use Rattle.settle_spec.specs.Parts.{FunctionPart, system_parts, is_part}
use Rattle.settle_spec.specs.Stands.{stands}
use Rattle.settle_spec.specs.Keeping.Places.{new_place, lacking}
use Rattle.settle_spec.specs.Keeping.Registers.{settled, settled_function}
use Rattle.settle_laws.specs.PlacesLaws.{place_range}
use Rattle.settle_laws.specs.Keeping.PlacesLaws.{CanSettle, end_range}
use Rattle.settle_laws.proofs.Keeping.Again.{settled_alike, all_alike, room_again, ends_again}
use Rattle.settle_laws.proofs.Keeping.AgainKept.{all_stand}
use Rattle.settle_laws.proofs.Keeping.AgainParts.{settled_end}
use Rattle.settle_laws.proofs.Alike.{part_alike}
use Rattle.settle_laws.proofs.AllStand.{all_stay}
use Rattle.settle_laws.proofs.StandingPlaces.{no_place, none_lacks}
use Rattle.settle_laws.proofs.Keeping.Claimed.{bridge_stays, ends_open}
use Rattle.settle_laws.proofs.HeaderParts.{header_of}
use Rattle.settle_laws.specs.KeptLaws.{WishesNothing}
use Rattle.settle_laws.proofs.Keeping.Ends.{plain_end}
use Rattle.settle_laws.proofs.Keeping.InWindows.{kept_range, placed_range, place_of_range}
use Rattle.settle_laws.proofs.Kept.{in_regions, stays_part as stays_part_of}
use Rattle.settle_laws.proofs.Keeping.Kept.{stays_part}
use Rattle.settle_laws.proofs.Keeping.Moves.{new_system, new_nested, new_chains, new_profile}
use Rattle.settle_laws.proofs.Keeping.SettledMoved.{kind_stays}
use Rattle.settle_laws.proofs.Keeping.ShownParts.{own_placed}
use Rattle.settle_spec.specs.Kept.{Kept, as_it_stands}
use Rattle.settle_laws.proofs.SoundKept.{standing_is_sound}

module _ (q : Request) (s : System) (k : Kept) (can : CanSettle q s k) (f : Function) (p : Part) (listed : Contains s f) (there : has_part f p ≡ true) where
  -- a BAR or ROM that ends somewhere is looked at
  own_part : is_window p ≡ false → (u : Range) → end_range q s k record { function = f; part = p } ≡ Some u → is_part q s f p ≡ true
  own_part plain u ends = elim (cases_Bool (k.stays record { function = f; part = p })) [
    | inl keeps ↦ stays_part q s k can record { function = f; part = p } listed keeps
    | inr moves ↦
        let x = place_of_range q s k (new_place q s k record { function = f; part = p }) u (sym (placed_range q s k record { function = f; part = p } moves) ∙ sym (plain_end q s k can f p listed there plain) ∙ ends) in
        own_placed q s k can f listed p plain there x.0 x.1
  ]

  -- and is so again
  pub part_again : (o : Part) → o ≡ p → (u : Range) → end_range q s k record { function = f; part = p } ≡ Some u → is_part q (settled q s k) (settled_function q s k f) p ≡ true
  part_again (Window c) e u ends =
      ap (is_part q (settled q s k) (settled_function q s k f)) (sym e)
      ∙ ends_open q s k can f c listed (ap (has_part f) e ∙ there) u (ap (λ x. end_range q s k record { function = f; part = x }) e ∙ ends)
  part_again (Bar n) e u ends =
      let plain : is_window p ≡ false = ap is_window (sym e) in
      sym (part_alike q s (settled q s k) (all_alike q s k can) f (settled_function q s k f) (settled_alike q s k can f listed) p plain) ∙ own_part plain u ends
  part_again Rom e u ends =
      let plain : is_window p ≡ false = ap is_window (sym e) in
      sym (part_alike q s (settled q s k) (all_alike q s k can) f (settled_function q s k f) (settled_alike q s k can f listed) p plain) ∙ own_part plain u ends

module _ (q : Request) (s : System) (k : Kept) (can : CanSettle q s k) where
  abbrev now : Function → Function
  now f = settled_function q s k f

  abbrev t : System
  t = settled q s k

  abbrev j : Kept
  j = as_it_stands q t

  -- ---- where each part stands, everything stays

  module _ (stand : (r : FunctionPart) → Contains (system_parts q t) r → stands q t r ≡ true) (f : Function) (p : Part) (listed : Contains s f) (there : has_part f p ≡ true) where
    abbrev before : FunctionPart
    before = record { function = f; part = p }

    abbrev after : FunctionPart
    after = record { function = now f; part = p }

    in_now : Contains t (now f)
    in_now = in_map_from now s f listed

    pub ends_kept : end_range q t j after ≡ end_range q s k before
    ends_kept = elim (cases_Bool (is_part q t (now f) p)) [
      | inl part ↦
          let h = settled_end q s k can f p listed there part in
          let header = header_of (now f) p (has_now p there) in
          let keeps = all_stay q t (new_system q s k can) (new_nested q s k can) stand after (in_regions q t (now f) p in_now header part) in
          kept_range q t j after keeps ∙ ap Some h.shown ∙ sym h.ends
      | inr none ↦
          let moves : j.stays after ≡ false = false_from_ne_true (j.stays after) (λ keeps. both_ways (is_part q t (now f) p) none (stays_part_of q t (new_system q s k can) (new_nested q s k can) after in_now keeps)) in
          placed_range q t j after moves ∙ ap place_range (no_place q t (new_system q s k can) (new_nested q s k can) stand after)
          ∙ sym (nowhere none (end_range q s k before) refl)
    ]
      where
        has_now : (o : Part) → has_part f o ≡ true → has_part (now f) o ≡ true
        has_now (Bar n) has = ap (λ k. nat_lt n (bar_count k)) (kind_stays q s k can f listed) ∙ has
        has_now Rom has = refl
        has_now (Window c) has = bridge_stays q s k can f listed ∙ has

        nowhere : is_part q t (now f) p ≡ false → (o : Option Range) → end_range q s k before ≡ o → end_range q s k before ≡ None
        nowhere none None ends = ends
        nowhere none (Some u) ends = absurd (both_ways (is_part q t (now f) p) none (part_again q s k can f p listed there p refl u ends))

  pub can_kept : lacking q t j ≡ None → CanSettle q t j
  can_kept room = record {
    lists = can.lists;
    high = can.high;
    system = new_system q s k can;
    nested = new_nested q s k can;
    profile = new_profile q s k can;
    chains = new_chains q s k can;
    sound = standing_is_sound q t (new_system q s k can) (new_nested q s k can) (new_profile q s k can);
    room = room;
  }

-- ---- where nothing is told

module _ (q : Request) (untold : q.told.ranges ≡ []) (s : System) (k : Kept) (can : CanSettle q s k) where
  pub ends_stay : (IsTrue q.anew → WishesNothing k) → (f : Function) (p : Part) → Contains s f → has_part f p ≡ true
      → end_range q (settled q s k) (as_it_stands q (settled q s k)) record { function = settled_function q s k f; part = p } ≡ end_range q s k record { function = f; part = p }
  ends_stay rests f p listed there = elim (cases_Bool q.anew) [
    | inl anew ↦ ends_again q (held_of q untold) s k can anew (rests anew) f p listed
    | inr kept ↦ ends_kept q s k can (all_stand q untold s k can kept) f p listed there
  ]

  pub can_again : CanSettle q (settled q s k) (as_it_stands q (settled q s k))
  can_again = can_kept q s k can (elim (cases_Bool q.anew) [
    | inl anew ↦ room_again q (held_of q untold) s k can anew
    | inr kept ↦ none_lacks q (settled q s k) (new_system q s k can) (new_nested q s k can) (all_stand q untold s k can kept)
  ])
