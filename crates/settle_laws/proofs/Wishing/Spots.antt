-- A spare that isn't denied has a spot behind its bridge, and later wishes leave it there.
use Rattle.std.proofs.Common.{◌≡◌, ℕ, ◌%◌, ◌<◌, ◌≤◌, inl, inr, List, [], ◌∷◌, Bool, true, false, cond, arith, refl, sym, ◌∙◌, ap, subst, Option, None, Some}
use Rattle.std.specs.List.{AllPairs, Contains}
use Rattle.std.proofs.lemmas.Bool.{cond_both}
use Rattle.std.proofs.lemmas.List.Elements.{Contains-append_left, Contains-append_right}
use Rattle.pci_spec.specs.Slot.{slot_number}
use Rattle.pci_spec.specs.Decoded.{Range}
use Rattle.pci_spec.specs.Window.{WindowKind, IoWindow, MemoryWindow, PrefetchWindow, has_window}
use Rattle.pci_spec.specs.System.{System, Function, has_part, is_bridge, window_space}
use Rattle.pci_spec.specs.Bus.{secondary}
use Rattle.pci_spec.proofs.Members.{in_nil, in_cons_cases, in_head, in_tail, pairs_head, pairs_tail}
use Rattle.plan_spec.specs.Place.{range_from}
use Rattle.plan_spec.specs.Planning.Layout.{IsInside, LieApart}
use Rattle.plan_spec.proofs.Planning.Safe.{order_of, slots_of}
use Rattle.settle_spec.specs.FirstPlace.{Extent}
use Rattle.settle_spec.specs.Lines.{lines_on}
use Rattle.settle_spec.specs.Lists.{Request}
use Rattle.settle_spec.specs.Parts.{FunctionPart}
use Rattle.settle_spec.specs.Stands.{part_space, window_part}
use Rattle.settle_spec.specs.Items.{spare_of}
use Rattle.settle_spec.specs.Kept.{Kept}
use Rattle.settle_spec.specs.Wishes.{range_then, Spared, spared_behind, Granted, or_denied, with_spare_of, with_spares_of, with_all_spares, granted}
use Rattle.settle_laws.specs.Keeping.PlacesLaws.{CanSettle}
use Rattle.settle_laws.proofs.Pieces.{Lower, system_rises}
use Rattle.settle_laws.proofs.Wishing.Added.{one_of_rank, within}
use Rattle.settle_laws.proofs.Wishing.Granted.{IsSpareOf, IsGranted, spare_is, one_wish, all_wishes}
use Rattle.settle_laws.proofs.Wishing.Spare.{IsSpared, IsSparedOff, is_spared, is_spared_off}

module _ (q : Request) (s : System) where
  -- a window has a spot for an extent, off all of its space that is there on the bus behind, and off lines there
  pub record HasSpot (c : WindowKind) (j : Kept) (b : Function) (e : Extent) : Type 0 where
    pub at : ℕ
    pub v : Range
    pub ends : range_then q s j (window_part c b) ≡ Some v
    pub inside : IsInside (range_from at e.size) v
    pub free : (r : FunctionPart) (t : Range) → Contains s r.function → has_part r.function r.part ≡ true → r.function.slot.bus ≡ secondary b → window_space c ≡ part_space r → range_then q s j r ≡ Some t → LieApart (range_from at e.size) t
    pub lines : (t : Range) → Contains (lines_on q (window_space c) (secondary b)) t → LieApart (range_from at e.size) t
    pub multiple : at % e.alignment ≡ 0
    pub high : (range_from at e.size).last ≤ e.highest

  pub spared_spot : (c : WindowKind) (k : Kept) (found : Spared) (b : Function) (e : Extent) (behind : List Range) → IsSparedOff q s c k found b e behind → HasSpot c found.kept b e
  spared_spot c k found b e behind off = let is = off.spared in record { at = found.at; v = is.window.0; ends = is.window.1; inside = is.window.2; free = is.free; lines = off.lines; multiple = is.multiple; high = is.high }

  -- room on the same bus, or a lower one, leaves it
  pub spot_left : (c d : WindowKind) (k : Kept) → CanSettle q s k → (b f : Function) → Contains s b → is_bridge b ≡ true → Contains s f → is_bridge f ≡ true → f.slot.bus ≤ b.slot.bus
      → (e x : Extent) (found : Spared) → IsSpared q s d k found f x → HasSpot c k b e → HasSpot c found.kept b e
  spot_left c d k can b f in_b is_b in_f is_f low e x found spared spot =
      let up = order_of q.roots s can.nested b in_b is_b in
      let kept = spared.keeps (window_part c b) in_b is_b spot.v spot.ends in
      record {
        at = spot.at;
        v = kept.0;
        ends = kept.1;
        inside = within (range_from spot.at e.size) spot.v kept.0 spot.inside kept.2;
        free = λ r t in_r there on space ends. spot.free r t in_r there on space
            (sym (spared.later r in_r there (omega (arith, low, up, on)) (λ same.
            let one = one_of_rank s can.system r (window_part d f) in_r in_f there is_f same in
            let bus : r.function.slot.bus ≡ f.slot.bus = ap (λ (y : FunctionPart). y.function.slot.bus) one in
            let no : ⊥ = omega (arith, bus, on, low, up) in
            no)) ∙ ends);
        lines = spot.lines;
        multiple = spot.multiple;
        high = spot.high;
      }

  module _ (spare : WindowKind → Function → Option Extent) (fine : (c : WindowKind) (b : Function) (e : Extent) → spare c b ≡ Some e → IsSpareOf c b e) (k : Kept) where
    abbrev Ok : Granted → Type 0
    Ok g = IsGranted q s spare fine k g

    -- ---- what is denied stays so

    denied_after : (c : WindowKind) (b : Function) (o : Option Extent) (g : Granted) (r : FunctionPart) → Contains g.denied r → Contains (with_spare_of q s c b o g).denied r
    denied_after c b None g r has = has
    denied_after c b (Some e) g r has =
        cond_both (has_window c b.probe) (or_denied (window_part c b) g (spared_behind q s c b e g.kept)) g (λ (x : Granted). Contains x.denied r) (λ there. by (spared_behind q s c b e g.kept)) (λ absent. has)
      where
        by : (o : Option Spared) → Contains (or_denied (window_part c b) g o).denied r
        by None = Contains-append_left g.denied (window_part c b ∷ []) r has
        by (Some x) = has

    denied_behind : (b : Function) (g : Granted) (r : FunctionPart) → Contains g.denied r → Contains (with_spares_of q s spare b g).denied r
    denied_behind b g r has =
        denied_after PrefetchWindow b (spare PrefetchWindow b) _ r (denied_after MemoryWindow b (spare MemoryWindow b) _ r (denied_after IoWindow b (spare IoWindow b) g r has))

    -- ---- a spot that is there stays

    spot_after : (c d : WindowKind) (b f : Function) → Contains s b → is_bridge b ≡ true → Contains s f → f.slot.bus ≤ b.slot.bus → (e : Extent) (g : Granted) → Ok g → HasSpot c g.kept b e
        → (o : Option Extent) → spare d f ≡ o → HasSpot c (with_spare_of q s d f o g).kept b e
    spot_after c d b f in_b is_b in_f low e g ok spot None at = spot
    spot_after c d b f in_b is_b in_f low e g ok spot (Some x) at =
        cond_both (has_window d f.probe) (or_denied (window_part d f) g (spared_behind q s d f x g.kept)) g (λ (y : Granted). HasSpot c y.kept b e) (λ there. by (spared_behind q s d f x g.kept) refl) (λ absent. spot)
      where
        by : (o : Option Spared) → spared_behind q s d f x g.kept ≡ o → HasSpot c (or_denied (window_part d f) g o).kept b e
        by None found = spot
        by (Some y) found =
            let of = fine d f x at in
            spot_left c d g.kept ok.can b f in_b is_b in_f of.bridge low e x y (is_spared q s d g.kept ok.can f in_f of.bridge x of.spare y found) spot

    spot_behind_all : (c : WindowKind) (b f : Function) → Contains s b → is_bridge b ≡ true → Contains s f → f.slot.bus ≤ b.slot.bus → (e : Extent) (g : Granted) → Ok g → HasSpot c g.kept b e → HasSpot c (with_spares_of q s spare f g).kept b e
    spot_behind_all c b f in_b is_b in_f low e g ok spot =
        let io = one_wish q s spare fine k IoWindow f in_f g ok (spare IoWindow f) refl in
        let memory = one_wish q s spare fine k MemoryWindow f in_f _ io (spare MemoryWindow f) refl in
        spot_after c PrefetchWindow b f in_b is_b in_f low e _ memory
        (spot_after c MemoryWindow b f in_b is_b in_f low e _ io
        (spot_after c IoWindow b f in_b is_b in_f low e g ok spot (spare IoWindow f) refl) (spare MemoryWindow f) refl) (spare PrefetchWindow f) refl

    -- ---- what isn't denied has one

    own_spot : (c : WindowKind) (b : Function) → Contains s b → (e : Extent) (g : Granted) → Ok g → has_window c b.probe ≡ true → (o : Option Extent) → spare c b ≡ o → o ≡ Some e
        → (Contains (with_spare_of q s c b o g).denied (window_part c b) → ⊥) → HasSpot c (with_spare_of q s c b o g).kept b e
    own_spot c b in_b e g ok there None at is free = absurd (let no : ⊥ = cc in no)
    own_spot c b in_b e g ok there (Some x) at is free =
        let same : x ≡ e = cc in
        subst (HasSpot c (with_spare_of q s c b (Some x) g).kept b) same
        (by (spared_behind q s c b x g.kept) refl (has_window c b.probe) there free)
      where
        by : (o : Option Spared) → spared_behind q s c b x g.kept ≡ o → (t : Bool) → t ≡ true → (Contains (cond t (or_denied (window_part c b) g o) g).denied (window_part c b) → ⊥)
            → HasSpot c (cond t (or_denied (window_part c b) g o) g).kept b x
        by o found false is free = absurd (let no : ⊥ = cc in no)
        by None found true is free = absurd (free (Contains-append_right g.denied (window_part c b ∷ []) (window_part c b) (in_head (window_part c b) [])))
        by (Some y) found true is free =
            let of = fine c b x at in
            spared_spot c g.kept y b x [] (is_spared_off q s c g.kept ok.can b in_b of.bridge x of.spare y found)

    spot_of : (c : WindowKind) (b : Function) → Contains s b → (e : Extent) (g : Granted) → Ok g → has_window c b.probe ≡ true → spare c b ≡ Some e → (Contains (with_spares_of q s spare b g).denied (window_part c b) → ⊥) → HasSpot c (with_spares_of q s spare b g).kept b e
    spot_of c b in_b e g ok there at free = by c there at free
      where
        bridge : is_bridge b ≡ true
        bridge = (fine c b e at).bridge

        io : Granted
        io = with_spare_of q s IoWindow b (spare IoWindow b) g

        ok_io : Ok io
        ok_io = one_wish q s spare fine k IoWindow b in_b g ok (spare IoWindow b) refl

        memory : Granted
        memory = with_spare_of q s MemoryWindow b (spare MemoryWindow b) io

        ok_memory : Ok memory
        ok_memory = one_wish q s spare fine k MemoryWindow b in_b io ok_io (spare MemoryWindow b) refl

        to_end : (c : WindowKind) → HasSpot c memory.kept b e → HasSpot c (with_spares_of q s spare b g).kept b e
        to_end c spot = spot_after c PrefetchWindow b b in_b bridge in_b (omega arith) e memory ok_memory spot (spare PrefetchWindow b) refl

        by : (c : WindowKind) → has_window c b.probe ≡ true → spare c b ≡ Some e → (Contains (with_spares_of q s spare b g).denied (window_part c b) → ⊥) → HasSpot c (with_spares_of q s spare b g).kept b e
        by IoWindow there at free = to_end IoWindow (spot_after IoWindow MemoryWindow b b in_b bridge in_b (omega arith) e io ok_io
            (own_spot IoWindow b in_b e g ok there (spare IoWindow b) refl at
            (λ has. free (denied_after PrefetchWindow b (spare PrefetchWindow b) memory (window_part IoWindow b) (denied_after MemoryWindow b (spare MemoryWindow b) io (window_part IoWindow b) has)))) (spare MemoryWindow b) refl)
        by MemoryWindow there at free = to_end MemoryWindow
            (own_spot MemoryWindow b in_b e io ok_io there (spare MemoryWindow b) refl at (λ has. free (denied_after PrefetchWindow b (spare PrefetchWindow b) memory (window_part MemoryWindow b) has)))
        by PrefetchWindow there at free = own_spot PrefetchWindow b in_b e memory ok_memory there (spare PrefetchWindow b) refl at free

    -- a lower slot is on the same bus or a lower one
    pub lower_bus : (f b : Function) → CanSettle q s k → Contains s f → Contains s b → slot_number f.slot < slot_number b.slot → f.slot.bus ≤ b.slot.bus
    lower_bus f b can in_f in_b less =
        let x = slots_of s can.system f in_f in
        let y = slots_of s can.system b in_b in
        let device = y.1 in
        let function = y.2 in
        omega (arith, less, device, function)

    spots : CanSettle q s k → (g : Granted) → Ok g → (t : System) → ((f : Function) → Contains t f → Contains s f) → AllPairs Lower t → (c : WindowKind) (b : Function) → Contains t b → (e : Extent) → has_window c b.probe ≡ true → spare c b ≡ Some e
        → (Contains (with_all_spares q s spare g t).denied (window_part c b) → ⊥) → HasSpot c (with_all_spares q s spare g t).kept b e
    spots can g ok [] in_s rises c b has e there at free = absurd (in_nil b has)
    spots can g ok (f ∷ more) in_s rises c b has e there at free =
        let before = with_all_spares q s spare g more in
        let ok_before : Ok before = all_wishes q s spare fine k g ok more (λ x listed. in_s x (in_tail f more x listed)) in
        let in_f = in_s f (in_head f more) in
        let rest = λ (in_more : Contains more b). spots can g ok more (λ x listed. in_s x (in_tail f more x listed)) (pairs_tail Lower f more rises) c b in_more e there at (λ denied. free (denied_behind f before (window_part c b) denied)) in
        elim (in_cons_cases f more b has) [
          | inl here ↦
              subst (λ x. HasSpot c (with_spares_of q s spare x before).kept b e) (sym here)
              (spot_of c b (in_s b has) e before ok_before there at (λ denied. free (subst (λ x. Contains (with_spares_of q s spare x before).denied (window_part c b)) (sym here) denied)))
          | inr later ↦
              spot_behind_all c b f (in_s b has) (fine c b e at).bridge in_f (lower_bus f b can in_f (in_s b has) (pairs_head Lower f more b rises later)) e before ok_before (rest later)
        ]

-- The law: each spare that isn't denied has a spot.
pub spare_has_spot : (q asked : Request) (s : System) (k : Kept) → CanSettle q s k → (c : WindowKind) (b : Function) → Contains s b → (e : Extent) → has_window c b.probe ≡ true → spare_of asked c b ≡ Some e
    → (Contains (granted q s (spare_of asked) k).denied (window_part c b) → ⊥) → HasSpot q s c (granted q s (spare_of asked) k).kept b e
spare_has_spot q asked s k can c b listed e there at free =
    spots q s (spare_of asked) (spare_is asked) k can (record { kept = k; denied = [] }) record { can = can; alike = refl } s (λ f has. has) (system_rises s can.system) c b listed e there at free
