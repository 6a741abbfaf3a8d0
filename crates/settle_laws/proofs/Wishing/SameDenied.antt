-- Where not all is placed anew, the same spares are denied when all is settled again.
use Rattle.std.proofs.Common.{◌≡◌, ◌≤◌, [], ◌∷◌, ◌++◌, Bool, true, false, cond, map, arith, refl, sym, ◌∙◌, ap, subst, Option, None, Some}
use Rattle.std.specs.List.{AllPairs, Contains}
use Rattle.std.specs.Option.{is_some}
use Rattle.std.proofs.lemmas.Bool.{both_ways}
use Rattle.std.proofs.lemmas.List.{map-append}
use Rattle.pci_spec.specs.Window.{WindowKind, IoWindow, MemoryWindow, PrefetchWindow, has_window}
use Rattle.pci_spec.specs.System.{System, Function}
use Rattle.pci_spec.proofs.Members.{in_head, in_tail, in_map_from, pairs_head, pairs_tail}
use Rattle.settle_spec.specs.FirstPlace.{Extent}
use Rattle.settle_spec.specs.Lists.{Request, wanted_in}
use Rattle.settle_spec.specs.Spares.{spare_extent}
use Rattle.settle_spec.specs.Stands.{window_part}
use Rattle.settle_spec.specs.Items.{spare_of}
use Rattle.settle_spec.specs.Kept.{Kept, growing}
use Rattle.settle_spec.specs.Keeping.Registers.{settled_function}
use Rattle.settle_spec.specs.Growing.{finally_kept}
use Rattle.settle_spec.specs.Wishes.{Spared, spared_behind, Granted, or_denied, with_spare_of, with_spares_of, with_all_spares, granted}
use Rattle.settle_spec.specs.Sparing.{without_slots, placing_request, granted_beside, denied}
use Rattle.settle_spec.specs.SpareLaws.{kept_sparing, result_sparing}
use Rattle.settle_laws.specs.SparingLaws.{slot_and_register}
use Rattle.settle_laws.specs.Keeping.PlacesLaws.{CanSettle}
use Rattle.settle_laws.proofs.Pieces.{Lower, system_rises}
use Rattle.settle_laws.proofs.Wishing.Again.{IsSettledSparing, start_then, forward_p, found, spare_alike, none_there, room_again}
use Rattle.settle_laws.proofs.Wishing.Answered.{AreSpares, spares_are, left_after, left_behind, spot_stays, none_stays, lower_bus}
use Rattle.settle_laws.proofs.Wishing.Granted.{IsGranted, spare_is, one_wish, all_wishes}
use Rattle.settle_laws.proofs.Wishing.Spare.{is_spared_off}
use Rattle.settle_laws.proofs.Wishing.Spots.{HasSpot, spared_spot}
use Rattle.settle_laws.proofs.Wishing.Still.{finally_is, have}

module _ (q : Request) (s : System) (so : IsSettledSparing q s) where
  abbrev p : Request
  p = placing_request q s

  abbrev j : Kept
  j = kept_sparing q s

  abbrev t : System
  t = result_sparing q s

  abbrev now : Function → Function
  now f = settled_function p s j f

  abbrev k : Kept
  k = growing q t

  abbrev i : Kept
  i = finally_kept p s

  base : CanSettle p s i
  base = so.base

  ends : CanSettle p s j
  ends = so.can

  are : AreSpares (spare_of q) (λ c. spare_extent c (wanted_in q.spares c) 0)
  are = spares_are q

  abbrev like : WindowKind → Extent
  like c = spare_extent c (wanted_in q.spares c) 0

  abbrev Ok : Granted → Type 0
  Ok g = IsGranted p s (spare_of q) are.each i g

  -- ---- what a wish comes to is so in the end

  record Lasts (g : Granted) (b : Function) : Type 0 where
    spot : (c : WindowKind) (e : Extent) → spare_of q c b ≡ Some e → HasSpot p s c g.kept b e → HasSpot p s c j b e
    none : (c : WindowKind) (e : Extent) → spare_of q c b ≡ Some e → is_some (spared_behind p s c b e g.kept) ≡ false → is_some (spared_behind p s c b e j) ≡ false

  lasts_after : (b : Function) → Contains s b → (d : WindowKind) (f : Function) → Contains s f → f.slot.bus ≤ b.slot.bus → (g : Granted) → Ok g → Lasts (with_spare_of p s d f (spare_of q d f) g) b → Lasts g b
  lasts_after b in_b d f in_f low g ok last = record {
    spot = λ c e at has. last.spot c e at
        (left_after p (forward_p q s so) s (spare_of q) like are i base b (λ x. HasSpot p s c x b e) (spot_stays p (forward_p q s so) s (spare_of q) like are i base c b in_b e at) d f in_f low g ok has (spare_of q d f) refl);
    none = λ c e at has. last.none c e at
        (left_after p (forward_p q s so) s (spare_of q) like are i base b (λ x. is_some (spared_behind p s c b e x) ≡ false) (none_stays p (forward_p q s so) s (spare_of q) like are i base c b in_b e at) d f in_f low g ok has (spare_of q d f) refl);
  }

  lasts_behind : (b : Function) → Contains s b → (f : Function) → Contains s f → f.slot.bus ≤ b.slot.bus → (g : Granted) → Ok g → Lasts (with_spares_of p s (spare_of q) f g) b → Lasts g b
  lasts_behind b in_b f in_f low g ok last = record {
    spot = λ c e at has. last.spot c e at
        (left_behind p (forward_p q s so) s (spare_of q) like are i base b (λ x. HasSpot p s c x b e) (spot_stays p (forward_p q s so) s (spare_of q) like are i base c b in_b e at) f in_f low g ok has);
    none = λ c e at has. last.none c e at
        (left_behind p (forward_p q s so) s (spare_of q) like are i base b (λ x. is_some (spared_behind p s c b e x) ≡ false) (none_stays p (forward_p q s so) s (spare_of q) like are i base c b in_b e at) f in_f low g ok has);
  }

  -- ---- and comes to the same when all is settled again

  in_now : (b : Function) → Contains s b → Contains t (now b)
  in_now b listed = in_map_from now s b listed

  found_again : (c : WindowKind) (b : Function) (e : Extent) → Contains s b → spare_of q c b ≡ Some e → HasSpot p s c j b e → (y : Spared) × (spared_behind q t c (now b) e k ≡ Some y) × (y.kept ≡ k)
  found_again c b e listed spare spot = (
    _,
    found q t (start_then q s so) c (now b) e (in_now b listed) (spare_alike q s so c b listed ∙ spare) (room_again q s so c b e listed spare spot),
    refl,
  )

  -- as much is denied so far, and nothing else is kept
  record IsSame (g h : Granted) : Type 0 where
    kept : h.kept ≡ k
    denied : map slot_and_register h.denied ≡ map slot_and_register g.denied

  module _ (c : WindowKind) (b : Function) (listed : Contains s b) (g h : Granted) (ok : Ok g) (same : IsSame g h) where
    granted_same : (e : Extent) → spare_of q c b ≡ Some e → (y : Spared) → spared_behind p s c b e g.kept ≡ Some y → Lasts (record { kept = y.kept; denied = g.denied }) b → IsSame (record { kept = y.kept; denied = g.denied }) (or_denied (window_part c (now b)) h (spared_behind q t c (now b) e h.kept))
    granted_same e at y could last =
        let of = spare_is q c b e at in
        let spot = last.spot c e at (spared_spot p s c g.kept y b e [] (is_spared_off p s c g.kept ok.can b listed of.bridge e of.spare y could)) in
        let again = found_again c b e listed at spot in
        let is : spared_behind q t c (now b) e h.kept ≡ Some again.0 = ap (spared_behind q t c (now b) e) same.kept ∙ again.1 in
        subst (λ o. IsSame (record { kept = y.kept; denied = g.denied }) (or_denied (window_part c (now b)) h o)) (sym is) record { kept = again.2; denied = same.denied }

    denied_same : (e : Extent) → spare_of q c b ≡ Some e → spared_behind p s c b e g.kept ≡ None → Lasts g b → (o : Option Spared) → is_some o ≡ false → IsSame (or_denied (window_part c b) g None) (or_denied (window_part c (now b)) h o)
    denied_same e at could last (Some y) none = absurd (both_ways true none refl)
    denied_same e at could last None none = record {
      kept = same.kept;
      denied = map-append slot_and_register h.denied (window_part c (now b) ∷ [])
          ∙ ap (λ x. x ++ slot_and_register (window_part c b) ∷ []) same.denied
          ∙ sym (map-append slot_and_register g.denied (window_part c b ∷ []));
    }

    by_spared : (e : Extent) → spare_of q c b ≡ Some e → (o : Option Spared) → spared_behind p s c b e g.kept ≡ o → Lasts (or_denied (window_part c b) g o) b → IsSame (or_denied (window_part c b) g o) (or_denied (window_part c (now b)) h (spared_behind q t c (now b) e h.kept))
    by_spared e at (Some y) could last = granted_same e at y could last
    by_spared e at None could last =
        let before : Lasts g b = record { spot = last.spot; none = last.none } in
        let none = none_there q s so c b e listed at (before.none c e at (ap is_some could)) in
        denied_same e at could before (spared_behind q t c (now b) e h.kept) (ap (λ x. is_some (spared_behind q t c (now b) e x)) same.kept ∙ none)

    by_window : (e : Extent) → spare_of q c b ≡ Some e → (there : Bool) → Lasts (cond there (or_denied (window_part c b) g (spared_behind p s c b e g.kept)) g) b
        → IsSame (cond there (or_denied (window_part c b) g (spared_behind p s c b e g.kept)) g) (cond there (or_denied (window_part c (now b)) h (spared_behind q t c (now b) e h.kept)) h)
    by_window e at true last = by_spared e at (spared_behind p s c b e g.kept) refl last
    by_window e at false last = same

    by_spare : (o : Option Extent) → spare_of q c b ≡ o → Lasts (with_spare_of p s c b o g) b → IsSame (with_spare_of p s c b o g) (with_spare_of q t c (now b) o h)
    by_spare None at last = same
    by_spare (Some e) at last = by_window e at (has_window c b.probe) last

    wish_same : Lasts (with_spare_of p s c b (spare_of q c b) g) b → IsSame (with_spare_of p s c b (spare_of q c b) g) (with_spare_of q t c (now b) (spare_of q c (now b)) h)
    wish_same last = subst (λ o. IsSame (with_spare_of p s c b (spare_of q c b) g) (with_spare_of q t c (now b) o h)) (sym (spare_alike q s so c b listed)) (by_spare (spare_of q c b) refl last)

  wishes_same : (b : Function) → Contains s b → (g h : Granted) → Ok g → IsSame g h → Lasts (with_spares_of p s (spare_of q) b g) b → IsSame (with_spares_of p s (spare_of q) b g) (with_spares_of q t (spare_of q) (now b) h)
  wishes_same b listed g h ok same last =
      let io = with_spare_of p s IoWindow b (spare_of q IoWindow b) g in
      let memory = with_spare_of p s MemoryWindow b (spare_of q MemoryWindow b) io in
      let ok_io : Ok io = one_wish p s (spare_of q) are.each i IoWindow b listed g ok (spare_of q IoWindow b) refl in
      let ok_memory : Ok memory = one_wish p s (spare_of q) are.each i MemoryWindow b listed io ok_io (spare_of q MemoryWindow b) refl in
      let last_memory : Lasts memory b = lasts_after b listed PrefetchWindow b listed (omega arith) memory ok_memory last in
      let last_io : Lasts io b = lasts_after b listed MemoryWindow b listed (omega arith) io ok_io last_memory in
      let same_io = wish_same IoWindow b listed g h ok same last_io in
      let same_memory = wish_same MemoryWindow b listed io _ ok_io same_io last_memory in
      wish_same PrefetchWindow b listed memory _ ok_memory same_memory last

  abbrev none_before : Granted
  none_before = record { kept = i; denied = [] }

  abbrev so_far : System → Granted
  so_far fs = with_all_spares p s (spare_of q) none_before fs

  ok_far : (fs : System) → ((f : Function) → Contains fs f → Contains s f) → Ok (so_far fs)
  ok_far fs in_s = all_wishes p s (spare_of q) are.each i none_before record { can = base; alike = refl } fs in_s

  all_same : (fs : System) → ((f : Function) → Contains fs f → Contains s f) → AllPairs Lower fs → ((b : Function) → Contains fs b → Lasts (so_far fs) b)
      → IsSame (so_far fs) (with_all_spares q t (spare_of q) (record { kept = k; denied = [] }) (map now fs))
  all_same [] in_s rises last = record { kept = refl; denied = refl }
  all_same (f ∷ more) in_s rises last =
      let in_f = in_s f (in_head f more) in
      let in_more = λ (b : Function) (has : Contains more b). in_s b (in_tail f more b has) in
      let ok = ok_far more in_more in
      let before = all_same more in_more (pairs_tail Lower f more rises) (λ b has. lasts_behind b (in_more b has) f in_f (lower_bus p (forward_p q s so) s (spare_of q) like are i base f b in_f (in_more b has) (pairs_head Lower f more b rises has)) (so_far more) ok (last b (in_tail f more b has))) in
      wishes_same f in_f (so_far more) _ ok before (last f (in_head f more))

  in_end : (b : Function) → Contains s b → Lasts (so_far s) b
  in_end b listed = record { spot = λ c e at has. has; none = λ c e at has. has }

  again_is : denied q t ≡ (granted q t (spare_of q) k).denied
  again_is =
      ap (λ x. (granted_beside q (cond x q (without_slots q)) t).denied) (have q t (start_then q s so))
      ∙ ap (λ x. (granted q t (spare_of q) x).denied) (finally_is q t (start_then q s so))

  -- the same spares are denied
  pub kept_deny_alike : map slot_and_register (denied q t) ≡ map slot_and_register (denied q s)
  kept_deny_alike = ap (map slot_and_register) again_is ∙ (all_same s (λ f has. has) (system_rises s ends.system) in_end).denied
